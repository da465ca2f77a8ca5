use Rattle.std.proofs.Common.{length, sym, ap, ◌∙◌, arith}
use Rattle.sd_logrec.specs.Spelling.{spelled_length}
use Rattle.sd_logrec.proofs.Lengths.{length-spelling}
use Rattle.sd_logrec.proofs.record.Record.len.Goals as goal

pub returns-in-Start : goal.returns-in-Start
returns-in-Start c = sym (length-spelling c.args.self.now ∙ ap spelled_length c.in-Start.is)

pub returns-in-Update : goal.returns-in-Update
returns-in-Update c = omega (arith, length-spelling c.args.self.now ∙ ap spelled_length c.in-Update.is, c.value_len.ensures.value, c.value_len-in-Update.ensures.value)

pub returns-in-Clr : goal.returns-in-Clr
returns-in-Clr c = omega (arith, length-spelling c.args.self.now ∙ ap spelled_length c.in-Clr.is, c.value_len-in-Clr.ensures.value)

pub returns-in-BeginCheck : goal.returns-in-BeginCheck
returns-in-BeginCheck c = sym (length-spelling c.args.self.now ∙ ap spelled_length c.in-BeginCheck.is)

pub returns-in-EndCheck : goal.returns-in-EndCheck
returns-in-EndCheck c = omega (arith, length-spelling c.args.self.now ∙ ap spelled_length c.in-EndCheck.is, ap length c.items.ensures, ap length c.items-in-EndCheck.ensures)

pub returns-in-Commit : goal.returns-in-Commit
returns-in-Commit c = sym (length-spelling c.args.self.now ∙ ap spelled_length c.in-Commit.is)

pub returns-in-End : goal.returns-in-End
returns-in-End c = sym (length-spelling c.args.self.now ∙ ap spelled_length c.in-End.is)
