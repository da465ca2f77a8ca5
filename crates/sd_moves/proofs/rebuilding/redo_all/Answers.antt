use Rattle.std.proofs.Common.{ℕ, ◌+◌, List, length, sym, ap, ◌∙◌, subst}
use Rattle.std.specs.Prelude.{filter}
use Rattle.sd_logrec.specs.View.{Rec}
use Rattle.sd_log.specs.declared.placed.Placed.{Placed}
use Rattle.sd_log.specs.Logs.{LogState, flats, forced_in}
use Rattle.sd_page.specs.Page.{Page}
use Rattle.sd_chain.specs.Storage.{all_of}
use Rattle.sd_chain.specs.Pages.{FitAll, replay}
use Rattle.sd_chain.specs.Records.{of_page}
use Rattle.sd_redo.specs.Changes.{IsMerged}
use Rattle.sd_moves.proofs.rebuilding.redo_all.Goals as goal

pub replay-requires-clause-joins : goal.replay-requires-clause-joins
replay-requires-clause-joins c =
    let im : Page = c.args.image.now in
    let logs : List LogState = c.args.logs.now.items in
    let found : List Rec = flats c.in_ok-chain.chain.items in
    let merged : IsMerged c.args.p (forced_in logs) 9 found =
    subst (λ (n : ℕ). IsMerged c.args.p (forced_in logs) (n + 1) found) c.requires.eight
    (subst (λ (ls : List LogState). IsMerged c.args.p (forced_in ls) (length ls + 1) found) c.deref-2.ensures.value
    c.in_ok-chain.ensures.merged) in
    subst (λ (ps : List Placed). FitAll im.lsn im (flats ps)) (sym c.deref-3.ensures.value)
    ((c.merging.ensures.fit im.lsn im (filter (of_page c.args.p) (all_of (forced_in logs) 9)) found merged.same merged.rises).1
    c.requires.joins)

pub returns : goal.returns
returns c =
    let im : Page = c.args.image.now in
    let logs : List LogState = c.args.logs.now.items in
    let found : List Rec = flats c.in_ok-chain.chain.items in
    let merged : IsMerged c.args.p (forced_in logs) 9 found =
    subst (λ (n : ℕ). IsMerged c.args.p (forced_in logs) (n + 1) found) c.requires.eight
    (subst (λ (ls : List LogState). IsMerged c.args.p (forced_in ls) (length ls + 1) found) c.deref-2.ensures.value
    c.in_ok-chain.ensures.merged) in
    let recs : List Rec = filter (of_page c.args.p) (all_of (forced_in logs) 9) in
    let fit : FitAll im.lsn im found =
    (c.merging.ensures.fit im.lsn im recs found merged.same merged.rises).1 c.requires.joins in
    c.replay.ensures ∙ ap (λ (ps : List Placed). replay im.lsn im (flats ps)) c.deref-3.ensures.value
    ∙ c.merging.ensures.replay im.lsn im recs found merged.same merged.rises fit
