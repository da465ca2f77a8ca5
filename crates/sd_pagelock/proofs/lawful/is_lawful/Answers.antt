use Rattle.std.proofs.Common.{refl}
use Rattle.sd_pagelock.specs.Places.{seen}
use Rattle.sd_pagelock.specs.Moves as lawful
use Rattle.sd_pagelock.proofs.Members.{not_both}
use Rattle.sd_pagelock.proofs.Rowwise.{gains-move, move-groups}
use Rattle.sd_pagelock.proofs.lawful.is_lawful.Goals as goal

pub returns-then-comes : goal.returns-then-comes
returns-then-comes c = let h = c.comes.ensures.0 c.if-comes.true in (λ t. gains-move h.0 (seen c.args.from.now) (seen c.args.to.now) h.1, λ m. refl)

pub returns : goal.returns
returns c = (
  λ t. let h = c.goes.ensures.0 t in lawful.IsMove.evict h.0 h.1.0 h.1.1,
  λ m. move-groups (seen c.args.from.now) (seen c.args.to.now) m
      (λ i w. not_both (c.comes.ensures.1 (i, w)) c.if-comes.false)
      (λ w. not_both (c.turns.ensures.1 w) c.if-turns.false)
      (λ i w. c.goes.ensures.1 (i, w)),
)
