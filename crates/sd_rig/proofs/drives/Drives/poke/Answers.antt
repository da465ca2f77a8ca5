use Rattle.std.proofs.Common.{◌≡◌, List, set, ap, ◌∙◌, sym, subst, arith}
use Rattle.sd_rig.specs.Disk.{DiskState, poked}
use Rattle.sd_rig.specs.Replay.{AreDevices, disk_at}
use Rattle.sd_rig.specs.History.{Poked}
use Rattle.sd_rig.proofs.Replays.{read_at, told-more, poked-devices}
use Rattle.sd_rig.proofs.drives.Drives.poke.Goals as goal

pub invariant_of-self : goal.invariant_of-self
invariant_of-self c =
    let s = c.args.self.now in
    let now : List DiskState = s.disks.items in
    let le = c.requires.device in
    let k : DiskState = disk_at now c.args.dev in
    let here = read_at now c.args.dev c.index_mut-disk.result.now s.devices le c.index_mut-disk.ensures.value in
    let made : set now c.args.dev c.poke.new.self ≡ set now c.args.dev (poked c.args.at c.args.byte k) = ap (set now c.args.dev) (c.poke.ensures ∙ ap (poked c.args.at c.args.byte) here) in
    let len = s.devices.lens c.args.dev le in
    let size = (s.devices.sound c.args.dev le).pending_len in
    let within = c.requires.range in
    record {
      devices = subst AreDevices (sym made) (poked-devices now c.args.dev c.args.at c.args.byte s.devices le c.requires.range (omega arith));
      told = made ∙ told-more s.history.events c.note_poke.new.self.events (Poked c.args.dev c.args.at c.args.byte) now s.told c.note_poke.ensures;
    }
