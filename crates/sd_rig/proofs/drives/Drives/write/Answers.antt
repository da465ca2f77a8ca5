use Rattle.std.proofs.Common.{◌≡◌, List, set, ap, ◌∙◌, sym, subst, arith}
use Rattle.sd_rig.specs.Disk.{DiskState, written}
use Rattle.sd_rig.specs.Replay.{AreDevices, disk_at}
use Rattle.sd_rig.specs.History.{Wrote}
use Rattle.sd_rig.proofs.Bytes.{bytes_each}
use Rattle.sd_rig.proofs.Replays.{read_at, told-more, written-devices}
use Rattle.sd_rig.proofs.drives.Drives.write.Goals as goal

pub invariant_of-self : goal.invariant_of-self
invariant_of-self c =
    let s = c.args.self.now in
    let now : List DiskState = s.disks.items in
    let le = c.requires.device in
    let here = read_at now c.args.dev c.index_mut-disk.result.now s.devices le c.index_mut-disk.ensures.value in
    let made : set now c.args.dev c.write.new.self ≡ set now c.args.dev (written c.args.at c.args.bytes.now (disk_at now c.args.dev)) = ap (set now c.args.dev) (c.write.ensures ∙ ap (written c.args.at c.args.bytes.now) here) in
    record {
      devices = subst AreDevices (sym made) (written-devices now c.args.dev c.args.at c.args.bytes.now s.devices le c.requires.range (bytes_each c.args.bytes.now (λ i. omega (arith, c.type_inv.bytes i))));
      told = made ∙ told-more s.history.events c.note_write.new.self.events (Wrote c.args.dev c.args.at c.args.bytes.now c.args.ok) now s.told c.note_write.ensures;
    }
