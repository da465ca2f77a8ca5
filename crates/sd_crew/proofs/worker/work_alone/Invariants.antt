use Rattle.std.proofs.Common.{◌≡◌}
use Rattle.sd_crew.proofs.Working.{Waits}
use Rattle.sd_crew.proofs.worker.work_alone.Given as goal

-- the worker took turns, of which the last ones weren't ready, as many as `still` says or more
abbrev pub invariant-loop : goal.invariant-loop
invariant-loop g l =
    (l.worker.pass.seat.table_id ≡ l.fn.turnstile.table.shared.table_id) × (l.worker.pass.seat.me.0.parts ≡ 1)
    × (l.worker.inst ≡ l.fn.worker.inst)
    × Waits g.V.Shift.history g.V.Shift.stands g.V.Shift.turns l.fn.worker.pass.seat.me.0 l.fn.worker.inst l.still
    l.worker.pass.seat.me.0
