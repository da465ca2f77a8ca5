use Rattle.std.proofs.Common.{◌≡◌, length, refl, ap, ◌∙◌, arith, vec_capacity}
use Rattle.sd_rig.specs.Disk.{DiskState, settled, whole}
use Rattle.sd_rig.proofs.Parts.{held-same, settled-held, settled-whole, whole-same}
use Rattle.sd_rig.proofs.Replays.{length-settled}
use Rattle.sd_rig.proofs.disk.Disk.settle.Goals as goal

pub invariant_of-self : goal.invariant_of-self
invariant_of-self c =
    let v = c.self.inside in
    let pick = c.args.pick in
    let new = c.settle_part.new.seen in
    let k : DiskState = whole v.base v.seen v.synced.items v.pending.items in
    let is : new ≡ (settled pick k).seen = c.settle_part.ensures ∙ ap (λ (d : DiskState). (settled pick d).seen) (whole-same v.base refl c.deref.ensures.value c.deref-2.ensures.value) in
    let size : length new ≡ length v.seen = ap length is ∙ length-settled pick k c.self.invariant.sound in
    let within = c.self.invariant.within in
    let room = c.self.invariant.room in
    let marks_room = c.self.invariant.marks_room in
    held-same v.base (vec_capacity c.clear.new.self) (vec_capacity c.clear-2.new.self) refl refl refl
    (settled-held v.base (vec_capacity c.clear.new.self) (vec_capacity c.clear-2.new.self) pick new c.clear.new.self.items c.clear-2.new.self.items k c.clear.ensures.items c.clear-2.ensures.items c.self.invariant.sound is (omega arith) (omega (arith, c.clear.ensures.capacity)) (omega (arith, c.clear-2.ensures.capacity)))

pub returns : goal.returns
returns c =
    let v = c.self.inside in
    let pick = c.args.pick in
    let new = c.settle_part.new.seen in
    let k : DiskState = whole v.base v.seen v.synced.items v.pending.items in
    let is : new ≡ (settled pick k).seen = c.settle_part.ensures ∙ ap (λ (d : DiskState). (settled pick d).seen) (whole-same v.base refl c.deref.ensures.value c.deref-2.ensures.value) in
    whole-same v.base refl refl refl
    ∙ settled-whole pick v.base new c.clear.new.self.items c.clear-2.new.self.items k c.clear.ensures.items c.clear-2.ensures.items c.self.invariant.sound is
    ∙ ap (settled pick) c.self.view_is
