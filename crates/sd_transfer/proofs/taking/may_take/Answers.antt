use Rattle.std.proofs.Common.{ℕ, ◌∙◌, ap, subst, sym}
use Rattle.std.specs.Prelude.{Result, Err, IfErr}
use Rattle.std.proofs.lemmas.Result.{err_from_is_err_and}
use Rattle.sd_base.specs.declared.refusal.Refusal.{Refusal}
use Rattle.sd_base.specs.declared.refusal.Refusal.TheVariants as R
use Rattle.sd_state.specs.Complexes.{parts}
use Rattle.sd_state.specs.Parts.{Parts}
use Rattle.sd_transfer.specs.Taking.{IsUntaken}
use Rattle.sd_transfer.specs.Barring.{IsBarred}
use Rattle.sd_transfer.proofs.taking.may_take.Goals as goal

-- what bars it from the page is why it doesn't take it
barred : (c : Parts) (i p : ℕ) (n : Refusal) → IsBarred c i p n → IsUntaken c i p n
barred c i p (R.NeedPage place) is = absurd is
barred c i p n is = is

pub returns-in_err-place-clause-refused : goal.returns-in_err-place-clause-refused
returns-in_err-place-clause-refused g c =
    let old = parts c.args.c.now in
    let p = err_from_is_err_and c.from_residual.result c.from_residual.ensures.1 in
    subst (λ (r : Result (Unit {0}) Refusal). IfErr r (λ n. IsUntaken old c.args.i c.args.p n))
    (sym (p.1 ∙ ap (λ (n : Refusal). Err n) p.2))
    (barred old c.args.i c.args.p c.in_err-place.field-0.0 c.in_err-place.ensures.refused)
