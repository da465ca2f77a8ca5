use Rattle.std.proofs.Common.{◌<◌, ◌+◌, ℕ, List, Err, Some, ap, length, slice_get, subst, sym, ◌∙◌}
use Rattle.std.proofs.lemmas.Option.{slice_get-get_or}
use Rattle.sd_base.specs.declared.refusal.Refusal.TheVariants as R
use Rattle.sd_recovered.specs.declared.losers.AnalysisError.{AnalysisError}
use Rattle.sd_log.specs.declared.placed.Placed.{Placed}
use Rattle.sd_log.specs.Logs.{flats}
use Rattle.sd_chain.specs.Faults.{IsFirstMisplaced}
use Rattle.sd_recovered.proofs.Refusals.{told_at}
use Rattle.sd_recovered.proofs.logs.losers_of.Goals as goal

pub returns-in-Err-Disorder-clause-place : goal.returns-in-Err-Disorder-clause-place
returns-in-Err-Disorder-clause-place c = λ dev at is.
    let k : ℕ = c.in-Err-Disorder.at in
    let found : Placed = c.index-placed-at.result in
    let log : List Placed = c.scan-placed.result.now in
    let lt : k < length log = c.in-Err-Disorder.ensures.place k (ap (λ (e : AnalysisError). Err e) c.in-Err-Disorder.field-0-is) in
    let named = told_at c.damaged_log.result c.get.result (130 + found.place) dev at
    (c.damaged_log.ensures ∙ ap (λ (p : Placed). R.Damaged c.get.result (130 + p.place)) (sym c.index-placed-at.is)) is in (
      named.0 ∙ c.get.ensures.value,
      record {
        index = k;
        found = found;
        there = ap (λ (l : List Placed). slice_get l k) (sym c.scan-placed.ensures) ∙ slice_get-get_or log k found lt
            ∙ ap (λ (p : Placed). Some p) (sym c.index-placed-at.is);
        at_is = named.1;
        first = subst (λ (l : List Placed). IsFirstMisplaced (flats l) k) c.scan-placed.ensures
            (c.in-Err-Disorder.ensures.first k (ap (λ (e : AnalysisError). Err e) c.in-Err-Disorder.field-0-is));
      },
    )
