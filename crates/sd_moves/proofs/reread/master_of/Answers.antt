use Rattle.std.proofs.Common.{◌≡◌, true, refl, subst}
use Rattle.std.specs.Prelude.{Option, Some, option_map}
use Rattle.sd_base.specs.Twin.{chosen_body}
use Rattle.sd_recovered.specs.Masters.{master_in, said}
use Rattle.sd_recovered.specs.declared.master.MasterRecord.{MasterRecord}
use Rattle.sd_recovered.proofs.Scans.{says_of, start_within}
use Rattle.sd_moves.proofs.reread.master_of.Goals as goal

-- what no master says
abbrev blank : MasterRecord
blank = record { count = 0; area = 0; epoch = 0; check = 0; start = 0 }

pub returns-in-Ok-Some-clause-place : goal.returns-in-Ok-Some-clause-place
returns-in-Ok-Some-clause-place c = let m : MasterRecord = c.in-Ok-Some.master in
    start_within c.args.slots.now true m
    (says_of c.args.slots.now true (Some m) m blank refl refl refl
    (subst (λ (o : Option MasterRecord). said o ≡ option_map master_in (chosen_body 0 64 c.args.slots.now)) c.in-Ok-Some.field-0-is
    c.in-Ok-Some.ensures.read) c.requires.sound)
