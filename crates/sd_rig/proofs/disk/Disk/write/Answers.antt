use Rattle.std.proofs.Common.{◌+◌, ◌≤◌, length, refl, ap, ◌∙◌, subst, sym, arith, vec_capacity}
use Rattle.sd_rig.specs.Disk.{DiskState, written}
use Rattle.sd_rig.proofs.Bytes.{bytes_each}
use Rattle.sd_rig.proofs.Parts.{held-same, reached-held, whole-same}
use Rattle.sd_rig.proofs.disk.Disk.write.Goals as goal

pub invariant_of-self : goal.invariant_of-self
invariant_of-self c =
    let v = c.self.inside in
    let w = c.reach-self-inside.new in
    let base = c.reach-self-inside.result in
    let made = c.reach-self-inside.ensures in
    let at = c.args.at in
    let bytes = c.args.bytes.now in
    let same = made.written bytes refl in
    let within = made.within in
    let e1 = c.write.ensures in
    let fits = subst (λ (k : DiskState). at + length bytes ≤ length k.seen) (sym c.self.view_is) c.requires in
    held-same base (vec_capacity w.synced) (vec_capacity w.pending) e1 refl refl
    (reached-held v.base base at (vec_capacity v.synced) (vec_capacity v.pending) (vec_capacity w.synced) (vec_capacity w.pending) bytes v.seen v.synced.items w.synced.items v.pending.items w.pending.items c.self.invariant same made.even within made.room made.marks_room fits (bytes_each bytes (λ i. omega (arith, c.type_inv.bytes i))))

pub returns : goal.returns
returns c =
    let v = c.self.inside in
    let w = c.reach-self-inside.new in
    let base = c.reach-self-inside.result in
    let made = c.reach-self-inside.ensures in
    let at = c.args.at in
    let bytes = c.args.bytes.now in
    let same = made.written bytes refl in
    let e1 = c.write.ensures in
    whole-same base e1 refl refl ∙ same ∙ ap (written at bytes) c.self.view_is
