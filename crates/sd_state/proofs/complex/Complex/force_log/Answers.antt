use Rattle.std.proofs.Common.{inl, refl}
use Rattle.sd_state.specs.Complexes.{parts}
use Rattle.sd_state.proofs.Standing.{left-stands}
use Rattle.sd_state.proofs.complex.Complex.force_log.Goals as goal

-- nothing happened
pub returns-then-index-clause-images : goal.returns-then-index-clause-images
returns-then-index-clause-images g c pend m good =
    let rig = c.args.self.now.rig in
    record {
      each = λ img since. left-stands (g.G.Rig.leaves rig) (g.G.Rig.seen rig) img pend (parts c.args.self.now) m good
          (g.met.G.Rig.only_now rig img since);
    }

pub returns-then-index-clause-masters : goal.returns-then-index-clause-masters
returns-then-index-clause-masters g c j low bytes left = (bytes, left, refl)

pub force_settled-requires-clause-good : goal.force_settled-requires-clause-good
force_settled-requires-clause-good g c = c.requires.good

pub force_settled-requires-clause-now : goal.force_settled-requires-clause-now
force_settled-requires-clause-now g c = inl c.requires.idle

pub returns-clause-good : goal.returns-clause-good
returns-clause-good g c = c.force_settled.ensures.good

pub returns-clause-images : goal.returns-clause-images
returns-clause-images g c = c.force_settled.ensures.images

pub returns-clause-time : goal.returns-clause-time
returns-clause-time g c = c.force_settled.ensures.time

pub returns-clause-others : goal.returns-clause-others
returns-clause-others g c = c.force_settled.ensures.others

pub returns-clause-others_leave : goal.returns-clause-others_leave
returns-clause-others_leave g c = c.force_settled.ensures.others_leave

pub returns-clause-masters : goal.returns-clause-masters
returns-clause-masters g c = c.force_settled.ensures.masters

pub returns-clause-failed : goal.returns-clause-failed
returns-clause-failed g c = c.force_settled.ensures.failed

pub returns-clause-cause : goal.returns-clause-cause
returns-clause-cause g c = c.force_settled.ensures.cause

pub returns-clause-quiet : goal.returns-clause-quiet
returns-clause-quiet g c = c.force_settled.ensures.quiet

pub returns-clause-count : goal.returns-clause-count
returns-clause-count g c = c.force_settled.ensures.count
