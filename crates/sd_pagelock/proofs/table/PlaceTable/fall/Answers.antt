use Rattle.std.proofs.Common.{⊎_elim, ℕ, ◌*◌, ◌+◌, ◌<◌, ◌≤◌, List, sym, ap, ◌∙◌, arith}
use Rattle.std.proofs.lemmas.Bool.{cases_lt}
use Rattle.sd_base.specs.declared.place.Place as coded
use Rattle.sd_pagelock.specs.Places.{PageEntry, place_at, uses}
use Rattle.sd_pagelock.specs.Rows.{fallen}
use Rattle.sd_pagelock.proofs.Unused.{fallen-unused}
use Rattle.sd_pagelock.proofs.table.PlaceTable.fall.Goals.{then-may_use, else-may_use}
use Rattle.sd_pagelock.proofs.table.PlaceTable.fall.Goals as goal

pub loop-group-preserved : goal.loop-group-preserved
loop-group-preserved c =
    let was = c.args.self.now in
    let inv = c.loop-group.invariant in
    let n = c.loop-group.group in
    let i = c.args.i in
    elim c.if-may_use.branch [
      | then-may_use w ↦
          let e = w.fall_in.ensures in
          let place = λ (q : ℕ). ap (λ (s : List coded.Place). place_at s q) w.self-is in
          record {
            places = λ q lt. ⊎_elim
                (λ low. place q ∙ e.below q low ∙ inv.places q low)
                (λ high. place q ∙ e.here q high (omega (arith, lt)) ∙ ap (fallen i) (inv.later q high))
                (cases_lt q (32 * n));
            later = λ q le. place q ∙ e.above q (omega (arith, le)) ∙ inv.later q (omega (arith, le));
          }
      | else-may_use w ↦
          let place = λ (q : ℕ). ap (λ (s : List coded.Place). place_at s q) w.self-is in
          let un = λ (q : ℕ) (low : 32 * n ≤ q) (high : q < 32 * n + 32).
          sym (ap (λ (x : PageEntry). uses x i) (inv.later q low)) ∙ c.may_use.ensures w.if-may_use.false q low high in
          record {
            places = λ q lt. ⊎_elim
                (λ low. place q ∙ inv.places q low)
                (λ high. place q ∙ inv.later q high ∙ sym (fallen-unused i (place_at was q) (c.keeps.ensures.formed q) (un q high (omega (arith, lt)))))
                (cases_lt q (32 * n));
            later = λ q le. place q ∙ inv.later q (omega (arith, le));
          }
    ]

pub returns : goal.returns
returns c = λ p. ⊎_elim
    (λ lt. c.loop-group.invariant.places p (omega (arith, lt, c.loop-group-test.false)))
    (λ past. c.loop-group.invariant.later p (omega (arith, past, c.loop-group.auto.group-end)) ∙ c.keeps.ensures.past p past ∙ ap (fallen c.args.i) (sym (c.keeps.ensures.past p past)))
    (cases_lt p 1024)
