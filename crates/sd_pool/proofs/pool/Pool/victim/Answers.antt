use Rattle.std.proofs.Common.{None, Some, ap, ◌∙◌}
use Rattle.sd_pool.specs.Buffers.{least_recent}
use Rattle.sd_pool.proofs.Pooled.{least_recent-empty, least_recent-held, number_of_last, seen}
use Rattle.sd_pool.proofs.pool.Pool.victim.Goals as goal

pub returns-in-Some-clause-held : goal.returns-in-Some-clause-held
returns-in-Some-clause-held c = rw (← c.self.view_is)
    (least_recent-held (seen c.self.inside.cache) (Some c.in-Some.page.now) (number_of_last c.self.inside.cache (Some (c.in-Some.page.now, c.in-Some._image.now)) c.in-Some.ensures))

pub returns-in-None-clause-value : goal.returns-in-None-clause-value
returns-in-None-clause-value c = number_of_last c.self.inside.cache None c.in-None.ensures ∙ ap least_recent c.self.view_is

pub returns-in-None-clause-empty : goal.returns-in-None-clause-empty
returns-in-None-clause-empty c = least_recent-empty c.args.self.now None (number_of_last c.self.inside.cache None c.in-None.ensures ∙ ap least_recent c.self.view_is)

pub returns-in-Some-clause-value : goal.returns-in-Some-clause-value
returns-in-Some-clause-value c = number_of_last c.self.inside.cache (Some (c.in-Some.page.now, c.in-Some._image.now)) c.in-Some.ensures ∙ ap least_recent c.self.view_is
