use Rattle.std.proofs.Common.{ℕ, ◌-◌, arith, ◌∙◌}
use Rattle.sd_model.specs.declared.act.Act.TheVariants.{Read, Put, Undo}
use Rattle.sd_oracle.proofs.Loops.{same_rid-test}
use Rattle.sd_oracle.proofs.Scans.{IsLast, back-read, back-undo, back-skip, back-other, back-here}
use Rattle.sd_oracle.proofs.values.last_put.Goals as goal

pub loop-left-preserved-in-Read : goal.loop-left-preserved-in-Read
loop-left-preserved-in-Read c =
    let n : ℕ = c.loop-left.left - 1 in
    let i : IsLast c.args.acts.now n c.loop-left.left c.index-acts-left.result (Read c.in-Read.rid c.in-Read.value) = record { next = omega arith; within = omega arith; item = c.index-acts-left.is; is = c.in-Read.is } in
    record { few = omega arith; same = back-read c.args.acts.now n c.loop-left.left c.loop-left.undos c.args.rid.now c.in-Read.rid c.in-Read.value c.index-acts-left.result i c.loop-left.invariant.same }

pub loop-left-preserved-in-Undo : goal.loop-left-preserved-in-Undo
loop-left-preserved-in-Undo c =
    let n : ℕ = c.loop-left.left - 1 in
    let i : IsLast c.args.acts.now n c.loop-left.left c.index-acts-left.result Undo = record { next = omega arith; within = omega arith; item = c.index-acts-left.is; is = c.in-Undo.is } in
    record { few = omega arith; same = back-undo c.args.acts.now n c.loop-left.left c.loop-left.undos c.args.rid.now c.index-acts-left.result i c.loop-left.invariant.same }

pub loop-left-preserved-then-undos-gt0 : goal.loop-left-preserved-then-undos-gt0
loop-left-preserved-then-undos-gt0 c =
    let n : ℕ = c.loop-left.left - 1 in
    let i : IsLast c.args.acts.now n c.loop-left.left c.index-acts-left.result (Put c.in-Put.at c.in-Put.value) = record { next = omega arith; within = omega arith; item = c.index-acts-left.is; is = c.in-Put.is } in
    record { few = omega arith; same = back-skip c.args.acts.now n c.loop-left.left c.loop-left.undos (c.loop-left.undos - 1) c.args.rid.now c.in-Put.at c.in-Put.value c.index-acts-left.result i (omega arith) c.loop-left.invariant.same }

pub returns-then-eq : goal.returns-then-eq
returns-then-eq c =
    let n : ℕ = c.loop-left.left - 1 in
    let i : IsLast c.args.acts.now n c.loop-left.left c.index-acts-left.result (Put c.in-Put.at c.in-Put.value) = record { next = omega arith; within = omega arith; item = c.index-acts-left.is; is = c.in-Put.is } in
    back-here c.args.acts.now n c.loop-left.left c.loop-left.undos c.args.rid.now c.in-Put.at c.in-Put.value c.index-acts-left.result i (omega arith)
    (same_rid-test c.in-Put.at c.args.rid.now c.eq.result c.eq.ensures ∙ c.if-eq.true) c.loop-left.invariant.same

pub loop-left-preserved : goal.loop-left-preserved
loop-left-preserved c =
    let n : ℕ = c.loop-left.left - 1 in
    let i : IsLast c.args.acts.now n c.loop-left.left c.index-acts-left.result (Put c.in-Put.at c.in-Put.value) = record { next = omega arith; within = omega arith; item = c.index-acts-left.is; is = c.in-Put.is } in
    record {
      few = omega arith;
      same = back-other c.args.acts.now n c.loop-left.left c.loop-left.undos c.args.rid.now c.in-Put.at c.in-Put.value c.index-acts-left.result i (omega arith)
          (same_rid-test c.in-Put.at c.args.rid.now c.eq.result c.eq.ensures ∙ c.if-eq.false) c.loop-left.invariant.same;
    }
