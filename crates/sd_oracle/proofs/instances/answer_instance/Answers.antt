use Rattle.sd_model.specs.declared.event.Event.TheVariants.{List as Listing, Join, RecoverBegin, Fail, FailAll}
use Rattle.sd_oracle.specs.Lists.{meaning}
use Rattle.sd_oracle.proofs.Answered.{differs}
use Rattle.sd_oracle.proofs.instances.answer_instance.Goals as goal

pub returns-in_default-reply : goal.returns-in_default-reply
returns-in_default-reply c = record { judged = differs (meaning c.args.lists.now) c.args.event.now (Listing c.in-List.inst c.in-List.page) c.args.reply.now c.in-List.is c.in_default-reply.not-Rows; same = tt }

pub returns-in_default-reply-2 : goal.returns-in_default-reply-2
returns-in_default-reply-2 c = record { judged = differs (meaning c.args.lists.now) c.args.event.now (Join c.in-Join.inst) c.args.reply.now c.in-Join.is c.in_default-reply-2.not-Joined; same = tt }

pub returns-in_default-reply-3 : goal.returns-in_default-reply-3
returns-in_default-reply-3 c = record { judged = differs (meaning c.args.lists.now) c.args.event.now (RecoverBegin c.in-RecoverBegin.inst c.in-RecoverBegin.by) c.args.reply.now c.in-RecoverBegin.is c.in_default-reply-3.not-Did; same = tt }

pub returns-in_default-reply-4 : goal.returns-in_default-reply-4
returns-in_default-reply-4 c = record { judged = differs (meaning c.args.lists.now) c.args.event.now (Fail c.in-Fail.inst) c.args.reply.now c.in-Fail.is c.in_default-reply-4.not-Did; same = tt }

pub returns-in_default-reply-5 : goal.returns-in_default-reply-5
returns-in_default-reply-5 c = record { judged = differs (meaning c.args.lists.now) c.args.event.now (FailAll c.in-FailAll.pick) c.args.reply.now c.in-FailAll.is c.in_default-reply-5.not-Did; same = tt }
