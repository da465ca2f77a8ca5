use Rattle.std.proofs.Common.{ap, ◌∙◌, arith}
use Rattle.std.proofs.lemmas.List.{take_all}
use Rattle.sd_script.specs.Packed.{packed_of}
use Rattle.sd_script.proofs.Packing.{one_name, room_more}
use Rattle.sd_script.proofs.packed.packed.Goals as goal

pub overflow_mul-number : goal.overflow_mul-number
overflow_mul-number c = omega (arith, room_more c.loop-byte.number c.loop-byte.byte-index c.loop-byte.invariant.fits (omega arith))

pub overflow_add-number : goal.overflow_add-number
overflow_add-number c = omega (arith, room_more c.loop-byte.number c.loop-byte.byte-index c.loop-byte.invariant.fits (omega arith))

pub returns-clause-number : goal.returns-clause-number
returns-clause-number c = c.loop-byte.invariant.number ∙ ap packed_of (take_all c.loop-byte.byte-index c.args.name.now c.loop-byte-test.false)

pub returns-clause-own : goal.returns-clause-own
returns-clause-own c = λ other is same. one_name c.args.name.now other c.requires is (same ∙ returns-clause-number c)
