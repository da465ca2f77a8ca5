use Rattle.std.proofs.Common.{⊎_elim, ℕ, ◌*◌, ◌+◌, ◌<◌, ◌≤◌, cond, List, None, Option, sym, ap, ◌∙◌, arith}
use Rattle.std.proofs.lemmas.Bool.{cases_lt}
use Rattle.sd_base.specs.declared.place.Place as coded
use Rattle.sd_pagelock.specs.Places.{PageEntry, place_at, receives, uses}
use Rattle.sd_pagelock.specs.Directory.{DirectoryState, entry_at, moving_image_at}
use Rattle.sd_pagelock.proofs.Unused.{receives-unused}
use Rattle.sd_pagelock.specs.Asks.{asks_without, open_asks}
use Rattle.sd_pagelock.proofs.Kept.{kept-fallen}
use Rattle.sd_pagelock.proofs.Rooms.{room-left}
use Rattle.sd_pagelock.proofs.directory.Directory.fall.Goals.{then-may_use, else-may_use}
use Rattle.sd_pagelock.proofs.directory.Directory.fall.Goals as goal

pub loop-group-preserved : goal.loop-group-preserved
loop-group-preserved g c =
    let was = c.args.self.now in
    let now = c.loop-group.self in
    let inv = c.loop-group.invariant in
    let n = c.loop-group.group in
    let i = c.args.i in
    elim c.if-may_use.branch [
      | then-may_use w ↦
          let e = w.stop_in.ensures in
          let image = λ (q : ℕ). ap (λ (s : DirectoryState g.row.I.Denot). moving_image_at s q) w.self-is in
          record {
            images = λ q lt. ⊎_elim
                (λ low. image q ∙ e.below q low ∙ inv.images q low)
                (λ high. image q ∙ e.here q high (omega (arith, lt))
                ∙ ap (λ (x : List coded.Place). cond {A = Option g.row.I.Denot} (receives (place_at x q) i) None (moving_image_at now q)) inv.places
                ∙ ap (λ (y : Option g.row.I.Denot). cond {A = Option g.row.I.Denot} (receives (entry_at was q) i) None y) (inv.later q high))
                (cases_lt q (32 * n));
            later = λ q le. image q ∙ e.above q (omega (arith, le)) ∙ inv.later q (omega (arith, le));
            places = ap (λ (s : DirectoryState g.row.I.Denot). s.places) w.self-is ∙ e.places ∙ inv.places;
            rec_lsns = ap (λ (s : DirectoryState g.row.I.Denot). s.rec_lsns) w.self-is ∙ e.rec_lsns ∙ inv.rec_lsns;
            asks = ap (λ (s : DirectoryState g.row.I.Denot). s.queues) w.self-is ∙ e.asks ∙ inv.asks;
          }
      | else-may_use w ↦
          let image = λ (q : ℕ). ap (λ (s : DirectoryState g.row.I.Denot). moving_image_at s q) w.self-is in
          let there = ap (λ (s : DirectoryState g.row.I.Denot). s.places) c.self-in-loop-group.view_is ∙ inv.places in
          let un = λ (q : ℕ) (low : 32 * n ≤ q) (high : q < 32 * n + 32).
          sym (ap (λ (x : List coded.Place). uses (place_at x q) i) there) ∙ c.may_use.ensures w.if-may_use.false q low high in
          record {
            images = λ q lt. ⊎_elim
                (λ low. image q ∙ inv.images q low)
                (λ high. image q ∙ inv.later q high
                ∙ sym (ap (λ b. cond {A = Option g.row.I.Denot} b None (moving_image_at was q)) (receives-unused i (entry_at was q) (un q high (omega (arith, lt))))))
                (cases_lt q (32 * n));
            later = λ q le. image q ∙ inv.later q (omega (arith, le));
            places = ap (λ (s : DirectoryState g.row.I.Denot). s.places) w.self-is ∙ inv.places;
            rec_lsns = ap (λ (s : DirectoryState g.row.I.Denot). s.rec_lsns) w.self-is ∙ inv.rec_lsns;
            asks = ap (λ (s : DirectoryState g.row.I.Denot). s.queues) w.self-is ∙ inv.asks;
          }
    ]

pub returns-clause-images : goal.returns-clause-images
returns-clause-images g c = λ p. ap (λ (s : DirectoryState g.row.I.Denot). moving_image_at s p) c.self-2.view_is ∙ ⊎_elim
    (λ lt. c.loop-group.invariant.images p (omega (arith, lt, c.loop-group-test.false)))
    (λ past. c.loop-group.invariant.later p (omega (arith, past, c.loop-group.auto.group-end))
    ∙ ap (λ (x : PageEntry). cond {A = Option g.row.I.Denot} (receives x c.args.i) None (moving_image_at c.args.self.now p)) (sym (c.keeps.ensures.past p past)))
    (cases_lt p 1024)

pub invariant_of-self : goal.invariant_of-self
invariant_of-self g c = (
  kept-fallen c.args.i _ _ _ _ c.self-2.invariant.0 c.fall.ensures,
  room-left _ _ _ _ c.self-2.invariant.1 (λ q none. c.fall-2.ensures q ∙ ap (λ xs. open_asks (place_at c.fall.new.self q) (asks_without c.args.i xs)) none),
)
