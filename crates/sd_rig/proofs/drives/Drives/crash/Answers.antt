use Rattle.std.proofs.Common.{List, ap, ◌∙◌, sym, subst, map}
use Rattle.std.specs.List.{All}
use Rattle.sd_rig.specs.Disk.{DiskState, IsSettled, settled}
use Rattle.sd_rig.specs.Replay.{AreDevices, AreSettled}
use Rattle.sd_rig.specs.History.{Crashed}
use Rattle.std.proofs.lemmas.List.{with_items_is}
use Rattle.sd_rig.proofs.Replays.{settled_from_all, all_from_settled, told-more, devices-map, map-settled_same, settled-map}
use Rattle.sd_rig.proofs.drives.Drives.crash.Goals as goal

pub returns-then-are_settled-clause-disks : goal.returns-then-are_settled-clause-disks
returns-then-are_settled-clause-disks c =
    let s = c.args.self.now in
    let all : All IsSettled s.disks.items = subst (All IsSettled) c.deref.ensures.value (c.are_settled.ensures.0 c.if-are_settled.true) in
    sym (map-settled_same c.args.pick s.disks.items s.devices (settled_from_all s.disks.items s.devices all))

pub invariant_of-self : goal.invariant_of-self
invariant_of-self c =
    let s = c.args.self.now in
    let now : List DiskState = s.disks.items in
    let made = with_items_is s.disks c.settle_all.new.disks (c.settle_all.auto.disks ∙ c.deref_mut.ensures.len) ∙ c.settle_all.ensures ∙ ap (map (settled c.args.pick)) c.deref_mut.ensures.value in
    record {
      devices = subst AreDevices (sym made) (devices-map c.args.pick now s.devices);
      told = made ∙ told-more s.history.events c.note_crash.new.self.events (Crashed c.args.pick) now s.told c.note_crash.ensures;
    }

pub returns-clause-settled : goal.returns-clause-settled
returns-clause-settled c none =
    let s = c.args.self.now in
    let shown = c.are_settled.ensures.1 (subst (All IsSettled) (sym c.deref.ensures.value) (all_from_settled s.disks.items s.devices none)) in
    absurd (cc (shown, c.if-are_settled.false))

pub returns-clause-settles : goal.returns-clause-settles
returns-clause-settles c =
    let s = c.args.self.now in
    let made = with_items_is s.disks c.settle_all.new.disks (c.settle_all.auto.disks ∙ c.deref_mut.ensures.len) ∙ c.settle_all.ensures ∙ ap (map (settled c.args.pick)) c.deref_mut.ensures.value in
    subst AreSettled (sym made) (settled-map c.args.pick s.disks.items s.devices)
