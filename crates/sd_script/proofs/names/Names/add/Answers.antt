use Rattle.std.proofs.Common.{Some}
use Rattle.sd_script.specs.Ordinals.{ordinal_at}
use Rattle.sd_script.proofs.Packing.{known_added}
use Rattle.sd_script.proofs.names.Names.add.Goals as goal

pub returns-clause-known : goal.returns-clause-known
returns-clause-known c = λ new other is.
    known_added (ordinal_at c.args.self.now.rising.items c.args.self.now.others) (ordinal_at c.put.new.rising.items c.put.new.others)
    c.packed-key.result c.args.name.now (Some c.args.ordinal) c.requires c.packed-key.ensures.number (c.in_ok-new.ensures.ok new) other is
