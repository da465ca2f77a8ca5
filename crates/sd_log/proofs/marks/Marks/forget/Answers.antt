use Rattle.std.proofs.Common.{◌∙◌, ap, arith}
use Rattle.sd_log.specs.Marks.{MarksState, counted}
use Rattle.sd_log.proofs.Starts.{counted-take}
use Rattle.sd_log.proofs.marks.Marks.forget.Goals as goal

pub counted-count-requires : goal.counted-count-requires
counted-count-requires c =
    omega (arith, counted-take c.unwrap_or-gone.result c.deref-2.result.now, ap counted (c.deref-2.ensures.value ∙ ap (λ (m : MarksState). m.marks) c.self.view_is), c.requires.count, c.requires.few, ap (λ (m : MarksState). m.forced) c.self.view_is)

pub overflow_sub-self : goal.overflow_sub-self
overflow_sub-self c =
    omega (arith, counted-take c.unwrap_or-gone.result c.deref-2.result.now, ap counted (c.deref-2.ensures.value ∙ ap (λ (m : MarksState). m.marks) c.self.view_is), c.requires.count, c.requires.few, ap (λ (m : MarksState). m.forced) c.self.view_is, c.counted-count.ensures)

pub returns-clause-forced : goal.returns-clause-forced
returns-clause-forced c =
    omega (arith, counted-take c.unwrap_or-gone.result c.deref-2.result.now, ap counted (c.deref-2.ensures.value ∙ ap (λ (m : MarksState). m.marks) c.self.view_is), c.requires.count, c.requires.few, ap (λ (m : MarksState). m.forced) c.self.view_is, c.counted-count.ensures)
