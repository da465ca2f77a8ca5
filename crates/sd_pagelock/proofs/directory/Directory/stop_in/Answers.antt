use Rattle.std.proofs.Common.{⊎_elim, ℕ, cond, List, None, Option, sym, ap, ◌∙◌, arith}
use Rattle.std.proofs.lemmas.Bool.{cases_eq}
use Rattle.sd_base.specs.declared.place.Place as coded
use Rattle.sd_pagelock.specs.Places.{place_at, receives}
use Rattle.sd_pagelock.specs.Directory.{DirectoryState, entry_at, moving_image_at}
use Rattle.sd_pagelock.proofs.directory.Directory.stop_in.Goals.{in-Some, in-None}
use Rattle.sd_pagelock.proofs.directory.Directory.stop_in.Goals as goal

pub loop-n-preserved : goal.loop-n-preserved
loop-n-preserved g c =
    let was = c.args.self.now in
    let now = c.loop-n.self in
    let i = c.args.i in
    let inv = c.loop-n.invariant in
    elim c.match-new.branch [
      | in-Some w ↦
          let p = w.in-Some.p in
          let e = w.stop_at.ensures in
          let at = w.in-Some.ensures.value in
          let image = λ (q : ℕ). ap (λ (s : DirectoryState g.row.I.Denot). moving_image_at s q) w.self-is in
          record {
            images = λ q low lt. ⊎_elim
                (λ same. image q ∙ ap (moving_image_at w.stop_at.new.self) same ∙ e.here
                ∙ ap (λ (x : List coded.Place). cond {A = Option g.row.I.Denot} (receives (place_at x p) i) None (moving_image_at now p)) inv.places
                ∙ ap (λ (z : ℕ). cond {A = Option g.row.I.Denot} (receives (entry_at was z) i) None (moving_image_at now z)) (sym same)
                ∙ ap (λ (y : Option g.row.I.Denot). cond {A = Option g.row.I.Denot} (receives (entry_at was q) i) None y) (inv.later q (omega (arith, same, at))))
                (λ ne. image q ∙ e.others q ne ∙ inv.images q low (omega (arith, lt, at, ne)))
                (cases_eq q p);
            below = λ q lt. image q ∙ e.others q (λ same. absurd (omega (arith, same, at, lt, c.loop-n.auto.n))) ∙ inv.below q lt;
            later = λ q le. image q ∙ e.others q (λ same. absurd (omega (arith, same, at, le))) ∙ inv.later q (omega (arith, le));
            places = ap (λ (s : DirectoryState g.row.I.Denot). s.places) w.self-is ∙ e.places ∙ inv.places;
            rec_lsns = ap (λ (s : DirectoryState g.row.I.Denot). s.rec_lsns) w.self-is ∙ e.rec_lsns ∙ inv.rec_lsns;
            asks = ap (λ (s : DirectoryState g.row.I.Denot). s.queues) w.self-is ∙ e.asks ∙ inv.asks;
          }
      | in-None w ↦ absurd (let there = w.in-None.ensures.valid.1 (omega (arith, c.loop-n-test.true, c.requires)) in absurd (cc))
    ]
