use Rattle.std.proofs.Common.{ℕ, subst, ◌∙◌, sym}
use Rattle.sd_pagelock.specs.Places.{seen}
use Rattle.sd_pagelock.specs.Moves as lawful
use Rattle.sd_pagelock.proofs.Rowwise.{newcomer-gains, inside}
use Rattle.sd_pagelock.proofs.lawful.comes.Goals as goal

pub returns-in-Some : goal.returns-in-Some
returns-in-Some c = (λ t. (c.in-Some.i, c.gains.ensures.0 t), λ m. c.gains.ensures.1 (subst (λ (k : ℕ). lawful.Gains k (seen c.args.from.now) (seen c.args.to.now)) (inside (sym (newcomer-gains m.0 (seen c.args.from.now) (seen c.args.to.now) m.1) ∙ sym c.in-Some.ensures)) m.1))
