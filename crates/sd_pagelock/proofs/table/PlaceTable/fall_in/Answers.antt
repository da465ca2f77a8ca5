use Rattle.std.proofs.Common.{⊎_elim, ℕ, List, sym, ap, ◌∙◌, arith}
use Rattle.std.proofs.lemmas.Bool.{cases_eq}
use Rattle.sd_base.specs.declared.place.Place as coded
use Rattle.sd_pagelock.specs.Places.{place_at}
use Rattle.sd_pagelock.specs.Rows.{fallen}
use Rattle.sd_pagelock.proofs.table.PlaceTable.fall_in.Goals.{in-Some, in-None}
use Rattle.sd_pagelock.proofs.table.PlaceTable.fall_in.Goals as goal

pub loop-n-preserved : goal.loop-n-preserved
loop-n-preserved c =
    let now = c.loop-n.self in
    let i = c.args.i in
    let inv = c.loop-n.invariant in
    elim c.match-new.branch [
      | in-Some w ↦
          let p = w.in-Some.p in
          let e = w.fall_at.ensures in
          let at = w.in-Some.ensures.value in
          let place = λ (q : ℕ). ap (λ (s : List coded.Place). place_at s q) w.self-is in
          record {
            places = λ q low lt. ⊎_elim
                (λ same. place q ∙ ap (place_at w.fall_at.new.self) same ∙ e.here ∙ ap (fallen i) (ap (place_at now) (sym same) ∙ inv.later q (omega (arith, same, at))))
                (λ ne. place q ∙ e.others q ne ∙ inv.places q low (omega (arith, lt, at, ne)))
                (cases_eq q p);
            below = λ q lt. place q ∙ e.others q (λ same. absurd (omega (arith, same, at, lt, c.loop-n.auto.n))) ∙ inv.below q lt;
            later = λ q le. place q ∙ e.others q (λ same. absurd (omega (arith, same, at, le))) ∙ inv.later q (omega (arith, le));
          }
      | in-None w ↦ absurd (let there = w.in-None.ensures.valid.1 (omega (arith, c.loop-n-test.true, c.requires)) in absurd (cc))
    ]

pub returns-clause-above : goal.returns-clause-above
returns-clause-above c = λ q le. ap (λ (s : List coded.Place). place_at s q) c.regroup.ensures ∙ c.loop-n.invariant.later q (omega (arith, le, c.loop-n.auto.n-end))
