use Rattle.sd_model.specs.declared.event.Event.TheVariants.{Save, Back, Undo}
use Rattle.sd_oracle.specs.Lists.{meaning}
use Rattle.sd_oracle.proofs.Answered.{differs}
use Rattle.sd_oracle.proofs.rollbacks.answer_rollback.Goals as goal

pub returns-in_default-reply : goal.returns-in_default-reply
returns-in_default-reply c = record { judged = differs (meaning c.args.lists.now) c.args.event.now (Save c.in-Save.txn c.in-Save.mark) c.args.reply.now c.in-Save.is c.in_default-reply.not-Did; same = tt }

pub returns-in_default-reply-2 : goal.returns-in_default-reply-2
returns-in_default-reply-2 c = record { judged = differs (meaning c.args.lists.now) c.args.event.now (Back c.in-Back.txn c.in-Back.mark) c.args.reply.now c.in-Back.is c.in_default-reply-2.not-Did; same = tt }

pub returns-in_default-reply-3 : goal.returns-in_default-reply-3
returns-in_default-reply-3 c = record { judged = differs (meaning c.args.lists.now) c.args.event.now (Undo c.in-Undo.txn) c.args.reply.now c.in-Undo.is (c.in_default-reply-3.not-Step, c.in_default-reply-3.not-Finished); same = tt }
