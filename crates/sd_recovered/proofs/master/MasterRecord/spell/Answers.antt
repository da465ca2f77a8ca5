use Rattle.std.proofs.Common.{◌≡◌, ◌∙◌, ap, arith}
use Rattle.sd_base.specs.Twin.{number_of}
use Rattle.std.proofs.lemmas.Nat.{from_be_bytes-to_be_bytes_8}
use Rattle.sd_recovered.specs.Masters.{master_in}
use Rattle.sd_recovered.proofs.MasterSlots.{spelled_is}
use Rattle.sd_recovered.proofs.master.MasterRecord.spell.Goals as goal

pub returns-clause-is : goal.returns-clause-is
returns-clause-is c = ap master_in c.body_of.ensures ∙ spelled_is c.args.self.now (omega arith) (omega arith) (omega arith) (omega arith)

pub returns-clause-number : goal.returns-clause-number
returns-clause-number c = ap number_of c.body_of.ensures ∙ from_be_bytes-to_be_bytes_8 c.args.self.now.count (omega arith)
