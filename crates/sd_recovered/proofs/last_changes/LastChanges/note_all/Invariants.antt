use Rattle.std.proofs.Common.{◌≡◌, ℕ, max, take}
use Rattle.sd_base.specs.declared.ids.TxnId.{TxnId}
use Rattle.sd_log.specs.Logs.{flats}
use Rattle.sd_recovered.specs.Others.{last_of_others, seen_in}
use Rattle.sd_recovered.proofs.last_changes.LastChanges.note_all.Given as goal

abbrev pub invariant-loop-placed : goal.invariant-loop-placed
invariant-loop-placed l = (t : TxnId) (p s : ℕ) → seen_in l.self t p s
    ≡ max (seen_in l.initial.self t p s) (last_of_others t p s (flats (take l.placed-index l.log)))
