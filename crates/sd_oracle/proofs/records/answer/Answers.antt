use Rattle.sd_model.specs.declared.event.Event.TheVariants.{Begin, Read, Write, Add, Insert, Delete, Commit}
use Rattle.sd_oracle.specs.Lists.{meaning}
use Rattle.sd_oracle.proofs.Answered.{differs}
use Rattle.sd_oracle.proofs.records.answer.Goals as goal

pub returns-in_default-reply : goal.returns-in_default-reply
returns-in_default-reply c = record { judged = differs (meaning c.args.lists.now) c.args.event.now (Begin c.in-Begin.inst) c.args.reply.now c.in-Begin.is c.in_default-reply.not-Began; same = tt }

pub returns-in_default-reply-2 : goal.returns-in_default-reply-2
returns-in_default-reply-2 c = record { judged = differs (meaning c.args.lists.now) c.args.event.now (Read c.in-Read.txn c.in-Read.rid) c.args.reply.now c.in-Read.is c.in_default-reply-2.not-Value; same = tt }

pub returns-in_default-reply-3 : goal.returns-in_default-reply-3
returns-in_default-reply-3 c = record { judged = differs (meaning c.args.lists.now) c.args.event.now (Write c.in-Write.txn c.in-Write.rid c.in-Write.value) c.args.reply.now c.in-Write.is c.in_default-reply-3.not-Did; same = tt }

pub returns-in_default-reply-4 : goal.returns-in_default-reply-4
returns-in_default-reply-4 c = record { judged = differs (meaning c.args.lists.now) c.args.event.now (Add c.in-Add.txn c.in-Add.rid c.in-Add.by) c.args.reply.now c.in-Add.is c.in_default-reply-4.not-Did; same = tt }

pub returns-in_default-reply-5 : goal.returns-in_default-reply-5
returns-in_default-reply-5 c = record { judged = differs (meaning c.args.lists.now) c.args.event.now (Delete c.in-Delete.txn c.in-Delete.rid) c.args.reply.now c.in-Delete.is c.in_default-reply-5.not-Did; same = tt }

pub returns-in_default-reply-6 : goal.returns-in_default-reply-6
returns-in_default-reply-6 c = record { judged = differs (meaning c.args.lists.now) c.args.event.now (Insert c.in-Insert.txn c.in-Insert.page c.in-Insert.value c.in-Insert.capacity) c.args.reply.now c.in-Insert.is c.in_default-reply-6.not-At; same = tt }

pub returns-in_default-reply-7 : goal.returns-in_default-reply-7
returns-in_default-reply-7 c = record { judged = differs (meaning c.args.lists.now) c.args.event.now (Commit c.in-Commit.txn) c.args.reply.now c.in-Commit.is c.in_default-reply-7.not-Did; same = tt }
