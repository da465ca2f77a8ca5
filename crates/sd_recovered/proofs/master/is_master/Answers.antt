use Rattle.std.proofs.Common.{◌-◌, arith, drop, length, length-drop}
use Rattle.std.proofs.lemmas.List.{take_all}
use Rattle.sd_recovered.proofs.MasterSlots.{sound_body}
use Rattle.sd_recovered.proofs.master.is_master.Goals as goal

pub returns : goal.returns
returns c =
    sound_body c.master_of-m.result c.args.body.now _ c.are_zeros.result c.master_of-m.ensures c.if-m-ne0.false c.if-m-ge-AREA_LEN.false
    (take_all (length c.args.body.now - 25) (drop 25 c.args.body.now) (omega (arith, length-drop 25 c.args.body.now))) c.are_zeros.ensures
