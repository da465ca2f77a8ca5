use Rattle.std.proofs.Common.{◌≡◌, ◌-◌, ◌++◌}
use Rattle.sd_gen.specs.Generated.{transfers_text}
use Rattle.sd_gen.proofs.Following.{with_rest}
use Rattle.sd_gen.proofs.script.push_transfers.Given as goal

abbrev pub invariant-loop-done : goal.invariant-loop-done
invariant-loop-done l =
    with_rest l.out.items l.done (l.count - l.done) l.draws.state ≡ l.fn.out.items ++ transfers_text 1 l.count l.number
