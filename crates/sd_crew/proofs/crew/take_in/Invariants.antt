use Rattle.std.proofs.Common.{◌≡◌, ◌+◌, All, length}
use Rattle.sd_crew.proofs.crew.take_in.Given as goal

-- the parts are those of the pass and of the workers that are left
abbrev pub invariant-loop-worker : goal.invariant-loop-worker
invariant-loop-worker g l =
    (l.pass.seat.table_id ≡ l.fn.turnstile.table.shared.table_id)
    × (l.pass.seat.me.0.parts + length l.workers.items ≡ l.fn.pass.seat.me.0.parts + length l.fn.workers.items)
    × All (λ w. (w.pass.seat.table_id ≡ l.fn.turnstile.table.shared.table_id) × (w.pass.seat.me.0.parts ≡ 1)) l.workers.items

abbrev pub decreases-loop-worker : goal.decreases-loop-worker
decreases-loop-worker g l = goal.left-loop-worker g l
