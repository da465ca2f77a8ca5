use Rattle.std.proofs.Common.{◌≡◌, ◌+◌, ◌-◌, ◌∙◌, ap, arith, drop, sym, take}
use Rattle.sd_recovered.proofs.MasterSlots.{open_slot}
use Rattle.sd_recovered.proofs.master.is_slot.Goals as goal

pub returns-else-not-is_open : goal.returns-else-not-is_open
returns-else-not-is_open c =
    let count : c.args.gate + 1 + 64 - (c.args.gate + 1) ≡ 64 = omega arith in
    open_slot c.args.gate c.args.device.now _ c.is_master.result (sym c.is_open.ensures ∙ c.if-not-is_open.false)
    (ap (λ n. take n (drop (c.args.gate + 1) c.args.device.now)) count) c.is_master.ensures
