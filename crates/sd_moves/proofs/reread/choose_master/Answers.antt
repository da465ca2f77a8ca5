use Rattle.std.proofs.Common.{◌≡◌, ℕ, ap, ◌∙◌, rules}
use Rattle.std.specs.Prelude.{slice_range}
use Rattle.sd_moves.proofs.SettledRead.{master-read, slots-sound}
use Rattle.sd_moves.proofs.reread.choose_master.Goals as goal

pub master_of-requires-clause-sound : goal.master_of-requires-clause-sound
master_of-requires-clause-sound g c =
    let seen = g.G.Rig.seen c.args.rig.now in
    let read : c.read.new.out ≡ slice_range (seen c.get.result) 0 130 = search rules in
    let part : c.read.new.out ≡ slice_range (seen c.args.i) 0 130 =
    read ∙ ap (λ (d : ℕ). slice_range (seen d) 0 130) c.get.ensures.value in
    slots-sound (seen c.args.i) c.read.new.out part c.requires.sound

pub returns-clause-master : goal.returns-clause-master
returns-clause-master g c =
    let seen = g.G.Rig.seen c.args.rig.now in
    let read : c.read.new.out ≡ slice_range (seen c.get.result) 0 130 = search rules in
    let part : c.read.new.out ≡ slice_range (seen c.args.i) 0 130 =
    read ∙ ap (λ (d : ℕ). slice_range (seen d) 0 130) c.get.ensures.value in
    c.master_of.ensures.master ∙ master-read (seen c.args.i) c.read.new.out part
