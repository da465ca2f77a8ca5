use Rattle.std.proofs.Common.{◌≡◌, ℕ, ◌+◌, List, Option, Some, length, refl, take, sym, ap, ◌∙◌, subst}
use Rattle.std.specs.Prelude.{slice_get}
use Rattle.std.proofs.lemmas.Option.{get_or_from_slice_get, slice_get_read}
use Rattle.sd_log.specs.Logs.{LogState}
use Rattle.sd_recovered.specs.declared.master.MasterRecord.{MasterRecord}
use Rattle.sd_restart.specs.Reading.{Matches, epoch_for}
use Rattle.sd_restart.proofs.Matching.{matches_more}
use Rattle.sd_restart.proofs.parts.epochs_of.Goals as goal

-- the epoch of a log, by the master in its place
abbrev Of : List (Option MasterRecord) → ℕ → LogState → ℕ → Type 0
Of masters k log epoch = (m : Option MasterRecord) → slice_get masters k ≡ Some m → epoch ≡ epoch_for m log

pub loop-i-preserved : goal.loop-i-preserved
loop-i-preserved c =
    let masters : List (Option MasterRecord) = c.args.masters.now in
    let logs : List LogState = c.args.logs.now in
    let i = c.loop-i.i in
    let log : LogState = c.index-logs-i.result in
    let there : slice_get logs i ≡ Some log = slice_get_read logs (length logs) i log refl c.loop-i-test.true c.index-logs-i.is in
    let is : Of masters i log c.epoch_of.result =
    λ m at. c.epoch_of.ensures ∙ ap (λ (x : Option MasterRecord). epoch_for x log) (get_or_from_slice_get masters i m _ at) in
    subst (λ (ns : List ℕ). Matches (Of masters) (take (i + 1) logs) ns) (sym c.in_ok-push.ensures.items)
    (matches_more (Of masters) logs c.loop-i.epochs.items i log c.epoch_of.result c.loop-i.invariant there is)
