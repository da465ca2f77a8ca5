use Rattle.std.proofs.lemmas.Int.{to_z-of_z}
use Rattle.std.proofs.Common.{ℤ, of_z, to_z, rules, w64, ◌≡◌, List, ℕ, sym, ap, ◌∙◌, subst, Bor}
use Rattle.std.specs.Prelude.{None, Option, option_map}
use Rattle.sd_chain.proofs.Slots.{value-at}
use Rattle.sd_ops.specs.declared.edits.Edit.{Edit}
use Rattle.sd_ops.specs.Edits.{IsPlan, IsSumFitted, Sets}
use Rattle.sd_ops.proofs.Planning.{gone-planned, sum-planned, to-planned}
use Rattle.sd_ops.proofs.edits.plan_in.Goals as goal

pub returns-in_default : goal.returns-in_default
returns-in_default c = sym (value-at c.args.image.now.slots c.args.slot) ∙ sym c.value.ensures
    ∙ ap (λ (o : Option (Bor (List ℕ))). option_map (λ v. v.now) o) c.in_default.is

pub returns-in-To : goal.returns-in-To
returns-in-To c = subst (λ (e : Edit). IsPlan c.args.image.now c.args.slot e c.put.result) (sym c.in-To.is)
    (to-planned c.args.image.now c.args.slot c.unwrap-capacity.result c.in-Some.old.now c.keeps.ensures.fits
    (sym c.value.ensures ∙ ap (λ (o : Option (Bor (List ℕ))). option_map (λ v. v.now) o) c.in-Some.is)
    (sym c.capacity.ensures.value ∙ c.unwrap-capacity.ensures) c.in-To.value c.put.result c.put.ensures)

pub returns-in-By : goal.returns-in-By
returns-in-By c =
    let same : to_z w64 (of_z w64 c.in-By.by) ≡ c.in-By.by = search (rules, to_z-of_z) in
    subst (λ (e : Edit). IsPlan c.args.image.now c.args.slot e c.plan_sum.result) (sym c.in-By.is)
    (sum-planned c.args.image.now c.args.slot c.unwrap-capacity.result c.in-Some.old.now c.keeps.ensures.fits
    (sym c.value.ensures ∙ ap (λ (o : Option (Bor (List ℕ))). option_map (λ v. v.now) o) c.in-Some.is)
    (sym c.capacity.ensures.value ∙ c.unwrap-capacity.ensures) c.in-By.by c.plan_sum.result
    (subst (λ (z : ℤ). IsSumFitted c.unwrap-capacity.result c.in-Some.old.now z c.plan_sum.result) same c.plan_sum.ensures))

pub returns-in-Gone : goal.returns-in-Gone
returns-in-Gone c = subst (λ (e : Edit). Sets c.args.image.now c.args.slot e c.unwrap-capacity.result None) (sym c.in-Gone.is)
    (gone-planned c.args.image.now c.args.slot c.unwrap-capacity.result c.in-Some.old.now c.keeps.ensures.fits
    (sym c.value.ensures ∙ ap (λ (o : Option (Bor (List ℕ))). option_map (λ v. v.now) o) c.in-Some.is)
    (sym c.capacity.ensures.value ∙ c.unwrap-capacity.ensures))
