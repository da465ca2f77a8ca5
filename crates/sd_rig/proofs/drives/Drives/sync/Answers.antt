use Rattle.std.proofs.Common.{◌≡◌, List, true, false, set, ap, ◌∙◌, sym, subst}
use Rattle.sd_base.specs.declared.trouble.Pick.TheVariants.{Keep}
use Rattle.sd_rig.specs.Disk.{DiskState, settled}
use Rattle.sd_rig.specs.Replay.{AreDevices, disk_at}
use Rattle.sd_rig.specs.History.{Synced}
use Rattle.sd_rig.proofs.Replays.{read_at, told-more, synced-devices}
use Rattle.sd_rig.proofs.drives.Drives.sync.Goals as goal

pub invariant_of-self : goal.invariant_of-self
invariant_of-self c =
    let s = c.args.self.now in
    let now : List DiskState = s.disks.items in
    let le = c.requires.device in
    let here = read_at now c.args.dev c.index_mut-disk.result.now s.devices le c.index_mut-disk.ensures.value in
    let made : set now c.args.dev c.settle.new.self ≡ set now c.args.dev (settled Keep (disk_at now c.args.dev)) = ap (set now c.args.dev) (c.settle.ensures ∙ ap (settled Keep) here) in
    record {
      devices = subst AreDevices (sym made) (synced-devices Keep now c.args.dev s.devices le);
      told = made ∙ told-more s.history.events c.note_sync.new.self.events (Synced c.args.dev true) now s.told (rw (← c.if-ok.true) c.note_sync.ensures);
    }

pub invariant_of-self-else-ok : goal.invariant_of-self-else-ok
invariant_of-self-else-ok c =
    let s = c.args.self.now in
    record {
      devices = s.devices;
      told = told-more s.history.events c.note_sync.new.self.events (Synced c.args.dev false) s.disks.items s.told (rw (← c.if-ok.false) c.note_sync.ensures);
    }
