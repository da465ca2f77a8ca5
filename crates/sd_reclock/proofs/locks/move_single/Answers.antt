use Rattle.sd_reclock.proofs.Moving.{moves_free, moves_held, moves_apart}
use Rattle.sd_reclock.proofs.locks.move_single.Goals as goal

pub put-requires : goal.put-requires
put-requires c = record { free = moves_free c.args.few.now c.args.many.now c.in-Some.single c.requires.apart c.in-Some.ensures }

pub returns-in-Ok-clause-held : goal.returns-in-Ok-clause-held
returns-in-Ok-clause-held c = moves_held c.args.few.now c.args.many.now c.in-Some.single c.requires.apart c.in-Some.ensures c.take.new.self c.put.new.self c.in-Ok.ensures.put c.take.ensures.taken

pub returns-in-Ok-clause-apart : goal.returns-in-Ok-clause-apart
returns-in-Ok-clause-apart c = moves_apart c.args.few.now c.args.many.now c.in-Some.single c.requires.apart c.in-Some.ensures c.take.new.self c.put.new.self c.in-Ok.ensures.put c.take.ensures.taken
