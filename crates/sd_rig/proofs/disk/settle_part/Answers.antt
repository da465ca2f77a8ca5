use Rattle.std.proofs.Common.{◌≡◌, ◌+◌, length, sym, subst, arith}
use Rattle.sd_rig.specs.Disk.{ReadsAsLeft, whole}
use Rattle.sd_rig.proofs.Facts.{synced-seen}
use Rattle.sd_rig.proofs.Parts.{left-seen}
use Rattle.sd_rig.proofs.disk.settle_part.Goals as goal

pub returns-in-Keep : goal.returns-in-Keep
returns-in-Keep c = rw c.in-Keep.is (sym (synced-seen (whole c.args.base c.args.seen.now c.args.synced.now c.args.pending.now) c.requires.sound))

pub returns : goal.returns
returns c =
    let end : c.loop-i.i ≡ c.args.base + length c.args.synced.now = omega (arith, c.requires.part) in
    left-seen c.args.pick c.args.base c.args.seen.now c.args.synced.now c.args.pending.now c.loop-i.seen c.requires.even (omega (arith, c.requires.within, c.requires.part)) c.requires.sound
    (subst (λ n. ReadsAsLeft c.args.pick c.args.base n c.args.seen.now c.args.synced.now c.args.pending.now c.loop-i.seen) end c.loop-i.invariant)
