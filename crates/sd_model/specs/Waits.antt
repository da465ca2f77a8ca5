-- Who stands in whose way: another transaction whose claim conflicts with what is asked.
use Rattle.std.specs.Prelude.{◌≢◌}
use Rattle.sd_base.specs.declared.place.Mode.{Mode}
use Rattle.sd_base.specs.declared.place.Mode.TheVariants as modes
use Rattle.sd_base.specs.Waits.{Obstacles}
use Rattle.sd_model.specs.declared.act.Claim.{Claim}
use Rattle.sd_model.specs.declared.act.Claim.TheVariants.{Shared, Excl}
use Rattle.sd_model.specs.Claims.{Clash}
use Rattle.sd_model.specs.State.{State}

-- the claim that a lock in this mode is
abbrev pub claim_of : Mode → Claim
claim_of modes.Shared = Shared
claim_of modes.Excl = Excl

-- u stands in t's way; who waits for whom, and what is blocked or in a deadlock, follows from it
abbrev pub stands : State → Obstacles
stands m t wait u = (t ≢ u) × Clash (claim_of wait.mode) ((m.part u).claims wait.rid)
