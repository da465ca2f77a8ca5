use Rattle.std.proofs.Common.{◌≡◌, ◌-◌, ◌^◌, ◌≤◌, min, false, true, arith, sym, ap, refl, ◌∙◌, subst}
use Rattle.std.specs.Prelude.{IsSome, Some}
use Rattle.sd_logrec.specs.declared.record.Record.{Record}
use Rattle.sd_logrec.specs.declared.record.Record.TheVariants as records
use Rattle.sd_log.specs.Logs.{LogState}
use Rattle.sd_chain.specs.Records.{home}
use Rattle.sd_chain.specs.Logs.{next_lsn}
use Rattle.sd_txn.specs.Transactions.{Transaction}
use Rattle.sd_state.specs.Complexes.{parts}
use Rattle.sd_state.specs.Good.{Good}
use Rattle.sd_state.specs.Parts.{Parts, is_loose, log_at, status_at}
use Rattle.sd_update.specs.Sealing.{HasEnd, end_of}
use Rattle.sd_state.specs.Tables.{tells_log}
use Rattle.sd_state.specs.Values.{Pending}
use Rattle.sd_base.proofs.Results.{on_ok}
use Rattle.sd_update.proofs.SealedCalls.{as-end, by-answer, end-good, end-is, end-memory, end-room, may-settled, may-tells}
use Rattle.sd_update.proofs.ends.seal_end.Goals as goal

pub put_end-requires-clause-room : goal.put_end-requires-clause-room
put_end-requires-clause-room g c =
    let p : Parts = parts c.args.c.now in
    let t = c.args.t.now in
    let rig = c.args.c.now.rig in
    let seen = g.G.Rig.seen rig in
    let leaves = g.G.Rig.leaves rig in
    let low : 1 ≤ home t = c.requires.numbered.low in
    let high : home t ≤ 8 = c.requires.numbered.high in
    let reads : leaves 0 (seen 0) = g.met.G.Rig.leaves_seen rig 0 (omega arith) in
    let m = c.requires.good.0 in
    let good = c.requires.good.1 in
    let next : c.next_lsn-lsn.result ≡ min (next_lsn (log_at p (home t)) 0) (2 ^ 62 - 1) = c.next_lsn-lsn.ensures
    ∙ ap (λ (l : LogState). min (next_lsn l 0) (2 ^ 62 - 1)) c.log.ensures in
    let h = c.requires.may in
    let settled : is_loose p (home t) ≡ false = may-settled t seen leaves Pending.Idle p m low high good c.requires.idle h in
    let tells : tells_log (status_at p (home t)) ≡ true = may-tells t p h in
    end-room t h.x seen leaves Pending.Idle p m good reads low high settled tells h.row h.there
    c.next_lsn-lsn.result c.prev_for-prev.result next c.prev_for-prev.ensures h.empty

pub returns-clause-there : goal.returns-clause-there
returns-clause-there g c up =
    let p : Parts = parts c.args.c.now in
    let t = c.args.t.now in
    let rig = c.args.c.now.rig in
    let seen = g.G.Rig.seen rig in
    let leaves = g.G.Rig.leaves rig in
    let low : 1 ≤ home t = c.requires.numbered.low in
    let high : home t ≤ 8 = c.requires.numbered.high in
    let reads : leaves 0 (seen 0) = g.met.G.Rig.leaves_seen rig 0 (omega arith) in
    let m = c.requires.good.0 in
    let good = c.requires.good.1 in
    let next : c.next_lsn-lsn.result ≡ min (next_lsn (log_at p (home t)) 0) (2 ^ 62 - 1) = c.next_lsn-lsn.ensures
    ∙ ap (λ (l : LogState). min (next_lsn l 0) (2 ^ 62 - 1)) c.log.ensures in
    let h = c.requires.may in
    let settled : is_loose p (home t) ≡ false = may-settled t seen leaves Pending.Idle p m low high good c.requires.idle h in
    let tells : tells_log (status_at p (home t)) ≡ true = may-tells t p h in
    c.put_end.ensures.memory (end-memory t h.x seen leaves Pending.Idle p m good reads low high settled tells h.row h.there
    c.next_lsn-lsn.result c.prev_for-prev.result next c.prev_for-prev.ensures h.empty up)

pub returns-clause-parts : goal.returns-clause-parts
returns-clause-parts g c =
    let p : Parts = parts c.args.c.now in
    let t = c.args.t.now in
    let rig = c.args.c.now.rig in
    let seen = g.G.Rig.seen rig in
    let leaves = g.G.Rig.leaves rig in
    let low : 1 ≤ home t = c.requires.numbered.low in
    let high : home t ≤ 8 = c.requires.numbered.high in
    let reads : leaves 0 (seen 0) = g.met.G.Rig.leaves_seen rig 0 (omega arith) in
    let m = c.requires.good.0 in
    let good = c.requires.good.1 in
    let next : c.next_lsn-lsn.result ≡ min (next_lsn (log_at p (home t)) 0) (2 ^ 62 - 1) = c.next_lsn-lsn.ensures
    ∙ ap (λ (l : LogState). min (next_lsn l 0) (2 ^ 62 - 1)) c.log.ensures in
    let h = c.requires.may in
    let settled : is_loose p (home t) ≡ false = may-settled t seen leaves Pending.Idle p m low high good c.requires.idle h in
    let tells : tells_log (status_at p (home t)) ≡ true = may-tells t p h in
    let rec : Record = records.End c.next_lsn-lsn.result t c.prev_for-prev.result in
    let made : HasEnd t (λ x. rec) p (parts c.put_end.new.c) → HasEnd t (λ x. end_of t x p) p (parts c.put_end.new.c) =
    as-end t rec (λ x. end_of t x p) p (parts c.put_end.new.c) refl
    (λ x is. end-is t x seen leaves Pending.Idle p m good reads low high settled tells is
    (let same : Some h.x ≡ Some x = sym h.row ∙ is in let one : h.x ≡ x = cc in subst (λ (z : Transaction). IsSome z.span) one h.there)
    c.next_lsn-lsn.result c.prev_for-prev.result next c.prev_for-prev.ensures) in
    on_ok c.put_end.result (HasEnd t (λ x. rec) p (parts c.put_end.new.c)) (HasEnd t (λ x. end_of t x p) p (parts c.put_end.new.c))
    made c.put_end.ensures.ok

pub returns-clause-good : goal.returns-clause-good
returns-clause-good g c m2 good2 =
    let p : Parts = parts c.args.c.now in
    let t = c.args.t.now in
    let rig = c.args.c.now.rig in
    let seen = g.G.Rig.seen rig in
    let leaves = g.G.Rig.leaves rig in
    let low : 1 ≤ home t = c.requires.numbered.low in
    let high : home t ≤ 8 = c.requires.numbered.high in
    let reads : leaves 0 (seen 0) = g.met.G.Rig.leaves_seen rig 0 (omega arith) in
    let m = c.requires.good.0 in
    let good = c.requires.good.1 in
    let next : c.next_lsn-lsn.result ≡ min (next_lsn (log_at p (home t)) 0) (2 ^ 62 - 1) = c.next_lsn-lsn.ensures
    ∙ ap (λ (l : LogState). min (next_lsn l 0) (2 ^ 62 - 1)) c.log.ensures in
    let h = c.requires.may in
    let settled : is_loose p (home t) ≡ false = may-settled t seen leaves Pending.Idle p m low high good c.requires.idle h in
    let tells : tells_log (status_at p (home t)) ≡ true = may-tells t p h in
    let rec : Record = records.End c.next_lsn-lsn.result t c.prev_for-prev.result in
    let made : HasEnd t (λ x. rec) p (parts c.put_end.new.c) → HasEnd t (λ x. end_of t x p) p (parts c.put_end.new.c) =
    as-end t rec (λ x. end_of t x p) p (parts c.put_end.new.c) refl
    (λ x is. end-is t x seen leaves Pending.Idle p m good reads low high settled tells is
    (let same : Some h.x ≡ Some x = sym h.row ∙ is in let one : h.x ≡ x = cc in subst (λ (z : Transaction). IsSome z.span) one h.there)
    c.next_lsn-lsn.result c.prev_for-prev.result next c.prev_for-prev.ensures) in
    subst (λ r. Good (g.G.Rig.seen r) (g.G.Rig.leaves r) Pending.Idle (parts c.put_end.new.c) m2) (sym c.put_end.ensures.rig)
    (by-answer c.put_end.result (HasEnd t (λ x. rec) p (parts c.put_end.new.c)) (parts c.put_end.new.c ≡ p)
    (Good seen leaves Pending.Idle (parts c.put_end.new.c) m2) c.put_end.ensures.ok c.put_end.ensures.stays
    (λ e. end-good t seen leaves p (parts c.put_end.new.c) m2 good2 reads low high c.requires.idle h (made e))
    (λ same. subst (λ (q : Parts). Good seen leaves Pending.Idle q m2) (sym same) good2))
