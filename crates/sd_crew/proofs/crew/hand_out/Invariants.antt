use Rattle.std.proofs.Common.{◌≡◌, ◌+◌, All, length, vec_capacity}
use Rattle.sd_crew.specs.Worked.{NumberedFrom}
use Rattle.sd_crew.proofs.crew.hand_out.Given as goal

-- so many passes are cut off, each with one part
abbrev pub invariant-loop-number : goal.invariant-loop-number
invariant-loop-number g l =
    (l.pass.seat.table_id ≡ l.fn.turnstile.table.shared.table_id) × (l.pass.seat.me.0.parts + l.number ≡ l.fn.insts + 1)
    × (length l.workers.items ≡ l.number) × NumberedFrom (λ w. w.inst) 0 l.workers.items
    × (vec_capacity l.workers ≡ vec_capacity l.fn.workers)
    × All (λ w. (w.pass.seat.table_id ≡ l.fn.turnstile.table.shared.table_id) × (w.pass.seat.me.0.parts ≡ 1)) l.workers.items
