use Rattle.std.proofs.Common.{◌+◌, ◌<◌, length, refl, ap, ◌∙◌, arith, vec_capacity}
use Rattle.sd_rig.specs.Disk.{poked}
use Rattle.sd_rig.proofs.Parts.{covered-held, held-same, poked-held, poked-whole, whole-same}
use Rattle.sd_rig.proofs.disk.Disk.poke.Goals as goal

pub invariant_of-self : goal.invariant_of-self
invariant_of-self c =
    let v = c.self.inside in
    let w = c.cover-self-inside.new in
    let base = c.cover-self-inside.result in
    let made = c.cover-self-inside.ensures in
    let at = c.args.at in
    let same = made.same in
    let within = made.within in
    let reaches : at < base + length w.synced.items = omega (arith, made.to) in
    let held = covered-held v.base base (vec_capacity v.synced) (vec_capacity v.pending) (vec_capacity w.synced) (vec_capacity w.pending) v.seen v.synced.items w.synced.items v.pending.items w.pending.items c.self.invariant same made.even within made.room made.marks_room in
    held-same base (vec_capacity w.synced) (vec_capacity w.pending) c.set.ensures refl refl
    (poked-held base at c.args.byte (vec_capacity w.synced) (vec_capacity w.pending) v.seen w.synced.items w.pending.items held made.from reaches (omega arith))

pub returns : goal.returns
returns c =
    let v = c.self.inside in
    let w = c.cover-self-inside.new in
    let base = c.cover-self-inside.result in
    let made = c.cover-self-inside.ensures in
    let at = c.args.at in
    let same = made.same in
    let within = made.within in
    let reaches : at < base + length w.synced.items = omega (arith, made.to) in
    whole-same base c.set.ensures refl refl ∙ poked-whole base at c.args.byte v.seen w.synced.items w.pending.items made.even made.from reaches within ∙ ap (poked at c.args.byte) (same ∙ c.self.view_is)
