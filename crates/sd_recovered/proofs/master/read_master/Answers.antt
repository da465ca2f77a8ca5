use Rattle.std.proofs.Common.{refl}
use Rattle.std.specs.Prelude.{None, Some}
use Rattle.std.proofs.lemmas.Bool.{both_ways, false≢true}
use Rattle.sd_recovered.proofs.MasterSlots.{master_is, said_none, said_some, slots_same, slots_sound}
use Rattle.sd_recovered.proofs.master.read_master.Goals as goal
use Rattle.sd_recovered.proofs.master.read_master.Goals.{then-not-is_slot-via-then-not-is_slot, then-not-is_slot-via-else-not-is_slot+then-not-is_slot-2}

pub returns-then-not-is_slot-clause-sound : goal.returns-then-not-is_slot-clause-sound
returns-then-not-is_slot-clause-sound c = elim c.then-not-is_slot.branch [
  | then-not-is_slot-via-then-not-is_slot w ↦
      (λ ok. absurd (false≢true ok), λ s. absurd (both_ways c.is_slot.result w.if-not-is_slot.true (c.is_slot.ensures.1 s.first)))
  | then-not-is_slot-via-else-not-is_slot+then-not-is_slot-2 w ↦
      (λ ok. absurd (false≢true ok), λ s. absurd (both_ways w.is_slot-else-not-is_slot.result w.if-not-is_slot-2.true (w.is_slot-else-not-is_slot.ensures.1 s.second)))
]

pub returns-in-Same-clause-sound : goal.returns-in-Same-clause-sound
returns-in-Same-clause-sound c = (λ ok. absurd (false≢true ok), λ s. absurd (slots_same c.args.device.now _ refl c.in-Same.ensures s))

pub returns-in-Some-clause-read : goal.returns-in-Some-clause-read
returns-in-Some-clause-read c = said_some c.chosen_of.result c.args.device.now _ c.in-Some.body.now c.master_of.result refl c.chosen_of.ensures c.in-Some.ensures.bytes c.master_of.ensures

pub returns-in-Some-clause-says : goal.returns-in-Some-clause-says
returns-in-Some-clause-says c = master_is (Some c.master_of.result) c.args.device.now (returns-in-Some-clause-read c)

pub returns-in-Some-clause-sound : goal.returns-in-Some-clause-sound
returns-in-Some-clause-sound c =
    (λ ok. slots_sound c.chosen_of.result c.args.device.now _ refl c.chosen_of.ensures c.in_default.not-Same (c.is_slot.ensures.0 c.if-not-is_slot.false) (c.is_slot-else-not-is_slot.ensures.0 c.if-not-is_slot-2.false), λ s. refl)

pub returns-in-None-clause-read : goal.returns-in-None-clause-read
returns-in-None-clause-read c = said_none c.chosen_of.result c.args.device.now _ refl c.chosen_of.ensures c.in-None.ensures.bytes

pub returns-in-None-clause-says : goal.returns-in-None-clause-says
returns-in-None-clause-says c = master_is None c.args.device.now (returns-in-None-clause-read c)

pub returns-in-None-clause-sound : goal.returns-in-None-clause-sound
returns-in-None-clause-sound c =
    (λ ok. slots_sound c.chosen_of.result c.args.device.now _ refl c.chosen_of.ensures c.in_default.not-Same (c.is_slot.ensures.0 c.if-not-is_slot.false) (c.is_slot-else-not-is_slot.ensures.0 c.if-not-is_slot-2.false), λ s. refl)
