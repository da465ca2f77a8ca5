use Rattle.std.proofs.Common.{◌≡◌, ℕ, ◌+◌, ◌-◌}
use Rattle.sd_drive.specs.Bodies.{status_in}
use Rattle.sd_drive.specs.Driving.{first_from}
use Rattle.sd_base.specs.Standing.{is_up}
use Rattle.sd_drive.proofs.driver.lister.Given as goal

-- none of those before is up
abbrev pub invariant-loop-number : goal.invariant-loop-number
invariant-loop-number g l =
    record {
      rest : first_from (λ (i : ℕ). is_up (status_in l.hall.body i)) 1 l.insts
          ≡ first_from (λ (i : ℕ). is_up (status_in l.hall.body i)) (l.number + 1) (l.insts - l.number);
    }
