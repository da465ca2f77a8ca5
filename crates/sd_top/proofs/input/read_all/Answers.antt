use Rattle.std.proofs.Common.{ℕ, ◌≤◌, length, take, ◌++◌, arith}
use Rattle.std.proofs.lemmas.List.{length-take}
use Rattle.sd_top.proofs.Takes.{taken_more, length_more}
use Rattle.sd_top.proofs.input.read_all.Goals as goal

-- the piece for which there was no memory is gone too
pub returns-in_err-extend_from_slice-clause-bounded :
    goal.returns-in_err-extend_from_slice-clause-bounded
returns-in_err-extend_from_slice-clause-bounded g c =
    let text = c.loop-piece.text in
    let out = c.take.new.out in
    let n = c.in-Ok.taken in
    let bound : n ≤ length out = c.in-Ok.ensures.bound in
    (text.items ++ take n out, omega (arith, length_more text.items out n bound, length-take {A = ℕ}), taken_more (g.S.Source.left c.args.source.now) (g.S.Source.left c.loop-piece.source) (g.S.Source.left c.take.new.self) text.items out n c.loop-piece.invariant.taken c.in-Ok.ensures.gives)
