use Rattle.std.proofs.Common.{◌∙◌}
use Rattle.sd_rig.proofs.SlotBytes.{body_read, chosen_read}
use Rattle.sd_rig.proofs.twin.choose.Goals as goal

pub returns-clause-chosen : goal.returns-clause-chosen
returns-clause-chosen g c =
    c.chosen_of.ensures ∙ chosen_read c.args.t.at c.args.t.body _ (g.G.Rig.seen c.args.rig.now c.args.t.dev) c.read.new.out c.requires.room c.in_ok-read.ensures.bytes

pub returns-clause-body : goal.returns-clause-body
returns-clause-body g c =
    body_read c.chosen_of.result c.args.t.at c.args.t.body _ (g.G.Rig.seen c.args.rig.now c.args.t.dev) c.read.new.out c.requires.room c.in_ok-read.ensures.bytes (returns-clause-chosen g c)
