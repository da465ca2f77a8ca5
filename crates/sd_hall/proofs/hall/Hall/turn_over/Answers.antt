use Rattle.std.proofs.Common.{sym, ◌∙◌, subst}
use Rattle.sd_hall.specs.Found.{FindsIn}
use Rattle.sd_hall.specs.Bodies.{IsRigIn}
use Rattle.sd_hall.proofs.hall.Hall.turn_over.Goals as goal

pub returns-clause-closes : goal.returns-clause-closes
returns-clause-closes g c = λ pick is rig rig' old new.
    c.turned-done.ensures.closes pick is rig rig' (subst (λ b. IsRigIn rig b) (sym c.take.ensures.value ∙ c.in-Some.is) old)
    (subst (λ b. IsRigIn rig' b) c.replace.ensures.after new)

pub returns-clause-reopens : goal.returns-clause-reopens
returns-clause-reopens g c = λ is did. subst (λ b. FindsIn g.G.Rig.seen g.G.Rig.leaves b) (sym c.replace.ensures.after)
    (c.turned-done.ensures.reopens is (sym c.put_told.ensures ∙ did))
