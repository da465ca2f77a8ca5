use Rattle.std.proofs.Common.{◌≤◌, ◌-◌, vec_len}
use Rattle.sd_top.specs.Input.{Taken}
use Rattle.sd_top.proofs.input.read_all.Given as goal

-- what was taken so far, and that no more is taken than may be
abbrev pub invariant-loop-piece : goal.invariant-loop-piece
invariant-loop-piece g l =
    record {
      bound : vec_len l.text ≤ 4194305;
      taken : Taken (g.S.Source.left l.fn.source) l.text.items (g.S.Source.left l.source);
      count : g.S.Source.faults l.fn.source ≤ g.S.Source.faults l.source;
    }

abbrev pub decreases-loop-piece : goal.decreases-loop-piece
decreases-loop-piece g l = 4194305 - vec_len l.text
