use Rattle.std.proofs.Common.{⊎_elim, refl, sym, ap, ◌∙◌}
use Rattle.std.proofs.lemmas.Bool.{cases_eq}
use Rattle.sd_pagelock.specs.Asks.{asks_for}
use Rattle.sd_pagelock.proofs.Rooms.{room-left, room-put}
use Rattle.sd_pagelock.proofs.directory.Directory.ask.Goals as goal

pub invariant_of-self : goal.invariant_of-self
invariant_of-self g c = (
  c.self.invariant.0,
  room-left _ _ _ _ c.self.invariant.1 (λ q none. ⊎_elim
      (λ e. ap (asks_for c.add.new.self) e ∙ c.in_err-add.ensures.err ∙ ap (asks_for c.self.inside.asks) (sym e) ∙ none)
      (λ ne. c.add.ensures.others q ne ∙ none)
      (cases_eq q c.args.p)),
)

pub invariant_of-self-2 : goal.invariant_of-self-2
invariant_of-self-2 g c = (
  c.self.invariant.0,
  room-put _ _ _ _ _ _ c.self.invariant.1 (λ q ne. c.add.ensures.others q (λ e. ne (e ∙ sym c.get.ensures.value))) (λ q ne. refl) _ c.get.ensures.range,
)
