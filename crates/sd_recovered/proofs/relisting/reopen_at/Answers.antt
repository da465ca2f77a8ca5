use Rattle.std.proofs.Common.{◌≡◌, ◌<◌, ◌≤◌, length, get_or, refl, sym, ap, ◌∙◌, rules}
use Rattle.std.proofs.lemmas.Bool.{true≢false}
use Rattle.std.proofs.lemmas.Option.{slice_get_past, slice_get_read}
use Rattle.sd_base.specs.Ids.{same_txn}
use Rattle.sd_base.proofs.Orders.{same-txn-is}
use Rattle.sd_base.proofs.Results.{on_ok}
use Rattle.sd_base.proofs.SameIds.{eq-same}
use Rattle.sd_recovered.specs.declared.losers.Loser.{Loser}
use Rattle.sd_recovered.proofs.Walking.{kept-by, kept-none}
use Rattle.sd_recovered.proofs.relisting.reopen_at.Goals as goal

pub returns-in-Some-clause-kept : goal.returns-in-Some-clause-kept
unfolding same_txn
returns-in-Some-clause-kept c =
    let losers = c.args.losers.now in
    let loser = c.in-Some.loser.now in
    let inside : c.args.next < length losers = search rules in
    let here : loser ≡ get_or losers c.args.next loser = search rules in
    let there = slice_get_read losers (length losers) c.args.next loser refl inside here in
    on_ok c.reopen.result _ _
    (kept-by c.args.log.now losers c.args.next c.args.txn.now loser c.args.table.now c.reopen.new.table c.requires.losers there
    (same-txn-is loser.txn c.args.txn.now (sym c.eq.ensures ∙ c.if-eq.true))) c.reopen.ensures.kept

pub returns-in_default-clause-kept : goal.returns-in_default-clause-kept
unfolding same_txn
returns-in_default-clause-kept c =
    let losers = c.args.losers.now in
    let loser = c.in-Some.loser.now in
    let t = c.args.txn.now in
    let inside : c.args.next < length losers = search rules in
    let here : loser ≡ get_or losers c.args.next loser = search rules in
    let there = slice_get_read losers (length losers) c.args.next loser refl inside here in
    kept-none c.args.log.now losers c.args.next t c.args.table.now c.requires.losers c.requires.next
    (λ l is named.
    let same : l ≡ loser = (let e = sym is ∙ there in cc) in
    true≢false (sym (eq-same loser.txn t (ap (λ (x : Loser). x.txn) (sym same) ∙ named)) ∙ sym c.eq.ensures ∙ c.if-eq.false))

pub returns-in_default-2-clause-kept : goal.returns-in_default-2-clause-kept
returns-in_default-2-clause-kept c =
    let losers = c.args.losers.now in
    let past : length losers ≤ c.args.next = search rules in
    kept-none c.args.log.now losers c.args.next c.args.txn.now c.args.table.now c.requires.losers c.requires.next
    (λ l is named. let e = sym (slice_get_past losers c.args.next past) ∙ is in absurd (cc))
