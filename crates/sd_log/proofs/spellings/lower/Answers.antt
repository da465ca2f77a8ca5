use Rattle.std.proofs.Common.{◌∙◌, ap, arith, get_or, set}
use Rattle.sd_log.specs.SpellingsInside.{lowered}
use Rattle.sd_log.specs.declared.spellings.Slot.{Slot}
use Rattle.sd_log.proofs.Lowered.{writes}
use Rattle.sd_log.proofs.spellings.lower.Goals as goal

pub loop-slot-preserved : goal.loop-slot-preserved
loop-slot-preserved c =
    let l = c.loop-slot in
    let none : Slot = record { lsn = 0; place = 0; at = 0 } in
    ap (λ n. set l.slots l.slot-index (record { lsn = (get_or l.slots l.slot-index none).lsn; place = (get_or l.slots l.slot-index none).place; at = n }))
    c.saturating_sub-slot.ensures
    ∙ writes (lowered c.args.gone) l.slot-index c.args.slots.now l.slots none (omega arith) l.invariant
