use Rattle.std.proofs.Common.{◌≡◌, ◌<◌, ◌++◌, ◌∷◌, List, length}
use Rattle.sd_base.specs.declared.ids.TxnId.{TxnId}
use Rattle.sd_reclock.specs.Reaching.{met_at, IsWay}
use Rattle.sd_reclock.proofs.deadlock.Asking.way.Given as goal

abbrev pub invariant-loop-at : goal.invariant-loop-at
invariant-loop-at g l = record {
  inside : l.at < length l.found;
  whole : (back : List TxnId) → IsWay l.self.asker l.found l.last back
      → (rest : List TxnId) × IsWay l.self.asker l.found l.at rest × (l.way.items ++ rest ≡ l.self.asker ∷ (met_at l.self.asker l.found l.last).txn ∷ back);
}

abbrev pub decreases-loop-at : goal.decreases-loop-at
decreases-loop-at g l = l.at
