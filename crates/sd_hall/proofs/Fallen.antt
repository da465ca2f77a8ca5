-- An undo that a device fails has taken its instance down. It serves the goals of `call` in hall.rt.
use Rattle.std.proofs.Common.{◌≡◌, ⊎_elim, ℕ, zero, suc, ◌≤◌, length, Some, sym, ap, ◌∙◌, arith}
use Rattle.std.proofs.lemmas.Bool.{cases_lt}
use Rattle.std.proofs.lemmas.List.{get_or_past}
use Rattle.sd_base.specs.declared.place.Status.TheVariants as S
use Rattle.sd_model.specs.declared.event.Event.{Event}
use Rattle.sd_model.specs.declared.event.Reply.{Reply}
use Rattle.sd_world.specs.Serving.{Core, Telling}
use Rattle.sd_state.specs.Complexes.{parts}
use Rattle.sd_state.specs.Parts.{Parts, status_at}
use Rattle.sd_state.specs.declared.complex.Complex.{Complex}
use Rattle.sd_fits.specs.Serving.{fits_by}
use Rattle.sd_hall.specs.Served.{IsDownThen}
use Rattle.sd_hall.proofs.Paid.{HasFallen}

-- an instance that is down is one of the eight
down-there : (c : Parts) → length c.statuses ≡ 8 → (k : ℕ) → status_at c k ≡ S.Down → (1 ≤ k) × (k ≤ 8)
down-there c eight zero down = absurd (cc)
down-there c eight (suc j) down = ⊎_elim
    (λ lt. (omega arith, omega (arith, lt)))
    (λ ge. let clash = sym (get_or_past c.statuses j S.Closed (omega (arith, eight, ge))) ∙ down in absurd (cc))
    (cases_lt j 8)

-- so it has taken the instance down
pub fallen-so : {G : Type 0} (tell : Telling G) (c : Complex G) (w : Core) → fits_by tell.seen tell.leaves c w → (e : Event) (r : Reply)
    → IsDownThen e (Some r) (parts c) → HasFallen e r w.scene.state
fallen-so tell c w f e r down t is failed =
    let there = down t is (ap (λ (x : Reply). Some x) failed) in
    let range = down-there (parts c) f.good.shape.statuses t.inst there in
    (range.0, range.1, sym (f.good.instances t.inst range.0 range.1).status ∙ there)
