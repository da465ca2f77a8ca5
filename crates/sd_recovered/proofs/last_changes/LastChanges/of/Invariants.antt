use Rattle.std.proofs.Common.{◌≡◌, ℕ, take}
use Rattle.sd_base.specs.declared.ids.TxnId.{TxnId}
use Rattle.sd_recovered.specs.Others.{all_in, last_of_others, seen_in}
use Rattle.sd_recovered.proofs.last_changes.LastChanges.of.Given as goal

abbrev pub invariant-loop-log : goal.invariant-loop-log
invariant-loop-log l = (t : TxnId) (p s : ℕ) → seen_in l.last t p s ≡ last_of_others t p s (all_in (take l.log-index l.logs))
