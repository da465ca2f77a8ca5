-- Each helping event behind which a pull goes on brings the page nearer. It serves the goals of pull.rt.
use Rattle.std.proofs.Common.{◌≡◌, ◌≢◌, ℕ, ◌<◌, Bool, true, false, cond, List, refl, sym, ap, ◌∙◌, subst, eq-eqb, eqb-true}
use Rattle.std.specs.Prelude.{Some, ◌||◌}
use Rattle.sd_base.specs.declared.place.Mode.{Mode}
use Rattle.sd_base.specs.declared.refusal.Refusal.TheVariants as R
use Rattle.sd_model.specs.declared.cause.Cause.{Cause}
use Rattle.sd_model.specs.declared.event.Event.TheVariants as event
use Rattle.sd_model.specs.declared.event.Reply.TheVariants as reply
use Rattle.sd_model.specs.State.{State}
use Rattle.sd_model.specs.Causes.{order}
use Rattle.sd_pagelock.specs.declared.queue.Ask.{Ask}
use Rattle.sd_pagelock.specs.Asks.{oldest, open_asks, queued}
use Rattle.sd_pagelock.specs.Places.{PageEntry, holds, holds_as, is_free, is_lost, passes, receives, rests}
use Rattle.sd_pagelock.specs.Rows.{may_raise, taken}
use Rattle.sd_world.specs.Pages.{Pages, asked, given, page_placed, put}
use Rattle.sd_world.specs.Answers.{Moves}
use Rattle.sd_world.proofs.Causes.{cause-said, none-says}
use Rattle.sd_drive.specs.Measure.{GivesUp, IsNearer, comes_to, steps}
use Rattle.sd_drive.proofs.Measures.{give-steps, nearer-room, nearer-steps, none_left, take-steps, unlike}

pub isnt : (b : Bool) → (b ≡ true → ⊥) → b ≡ false
isnt true h = absurd (h refl)
isnt false h = refl

pub is-so : (b : Bool) → (b ≡ false → ⊥) → b ≡ true
is-so true h = refl
is-so false h = absurd (h refl)

neither : (a b : Bool) → (a || b) ≡ false → (a ≡ false) × (b ≡ false)
neither true b none = none_left (sym none)
neither false b none = (refl, none)

-- what is put there is there
pub put-here : {X : Type 0} (p : ℕ) (x : X) (f : ℕ → X) → (put p x f) p ≡ x
put-here {X} p x f = ap (λ (b : Bool). cond {A = X} b x (f p)) (eq-eqb p p refl)

can-rest : (e : PageEntry) → is_free e ≡ false → is_lost e ≡ false → passes e ≡ false → rests e ≡ true
can-rest PageEntry.Free free lost on = none_left (sym free)
can-rest (PageEntry.Shared set writer) free lost on = refl
can-rest (PageEntry.Excl holder dirty) free lost on = refl
can-rest (PageEntry.Moving to mode rest dirty) free lost on = none_left (sym on)
can-rest PageEntry.Lost free lost on = none_left (sym lost)

-- page p is there now, and fewer steps are to go
placed-nearer : (i : ℕ) (mode : Mode) (p : ℕ) (w w1 : Pages) (to : PageEntry)
    → steps i mode to (open_asks to (w1.asks p)) < steps i mode (w.entry p) (w.asks p) → IsNearer i mode p w (page_placed p to w1)
placed-nearer i mode p w w1 to less =
    nearer-steps i mode p w.entry (page_placed p to w1).entry (w.asks p) ((page_placed p to w1).asks p)
    (subst (λ (e : PageEntry). steps i mode e ((page_placed p to w1).asks p) < steps i mode (w.entry p) (w.asks p)) (sym (put-here p to w1.entry))
    (subst (λ (xs : List Ask). steps i mode to xs < steps i mode (w.entry p) (w.asks p)) (sym (put-here p (open_asks to (w1.asks p)) w1.asks)) less))

module _ (m : State) (w : Pages) (i p : ℕ) (mode : Mode) (m1 : State) (w1 : Pages) where
  -- another was asked for it: it rests, and i hasn't it so
  module _ (of : ℕ) (h : Moves m w (event.Ask i p mode) (reply.Asked of) m1 w1) where
    lacks : (holds_as mode (w.entry p) i ≡ false) × ((is_free (w.entry p) || may_raise i (w.entry p)) ≡ false)
    lacks = neither (holds_as mode (w.entry p) i) (is_free (w.entry p) || may_raise i (w.entry p)) h.1.0

    there : rests (w.entry p) ≡ true
    there = can-rest (w.entry p) (neither (is_free (w.entry p)) (may_raise i (w.entry p)) lacks.1).0
        (isnt (is_lost (w.entry p)) (none-says m w (event.Ask i p mode) (order (event.Ask i p mode)) Cause.Lost h.0 refl refl))
        (isnt (passes (w.entry p)) (none-says m w (event.Ask i p mode) (order (event.Ask i p mode)) Cause.Moving h.0 refl refl))

    -- and gave it to the oldest asker
    pub give-nearer : (to : ℕ) (m2 : State) (w2 : Pages) → Moves m1 w1 (event.Give of p) (reply.Gave to) m2 w2 → IsNearer i mode p w w2
    give-nearer to m2 w2 g = subst (λ (x : Pages). IsNearer i mode p w x) (sym g.1.2) gave
      where
        then : Mode
        then = g.1.0

        is : w1 ≡ asked p i mode w
        is = h.1.2

        queue : w1.asks p ≡ queued i mode (w.asks p)
        queue = ap (λ (x : Pages). x.asks p) is ∙ put-here p (queued i mode (w.asks p)) w.asks

        place : w1.entry p ≡ w.entry p
        place = ap (λ (x : Pages). x.entry p) is

        had : holds (w.entry p) of ≡ true
        had = ap (λ (e : PageEntry). holds e of) (sym place)
            ∙ is-so (holds (w1.entry p) of) (none-says m1 w1 (event.Give of p) (order (event.Give of p)) Cause.Away g.0 refl refl)

        first : oldest of (queued i mode (w.asks p)) ≡ Some (to, then)
        first = ap (oldest of) (sym queue) ∙ g.1.1

        less : (e : PageEntry) (xs : List Ask) → e ≡ w.entry p → xs ≡ queued i mode (w.asks p)
            → steps i mode (given of (to, then) e) (open_asks (given of (to, then) e) xs) < steps i mode (w.entry p) (w.asks p)
        less e xs at by = subst (λ (x : PageEntry). steps i mode (given of (to, then) x) (open_asks (given of (to, then) x) xs) < steps i mode (w.entry p) (w.asks p)) (sym at)
            (subst (λ (ys : List Ask). steps i mode (given of (to, then) (w.entry p)) (open_asks (given of (to, then) (w.entry p)) ys) < steps i mode (w.entry p) (w.asks p)) (sym by)
            (give-steps of i to mode then (w.entry p) (w.asks p) there lacks.0 had first))

        gave : IsNearer i mode p w (page_placed p (given of (to, then) (w1.entry p)) w1)
        gave = placed-nearer i mode p w w1 (given of (to, then) (w1.entry p)) (less (w1.entry p) (w1.asks p) place queue)

  -- it is on its way
  module _ (to : ℕ) (h : Moves m w (event.Ask i p mode) (reply.Refused (R.MovingTo to)) m1 w1) where
    pub still : w1 ≡ w
    still = h.leaves

    on-way : passes (w.entry p) ≡ true
    on-way = cause-said m w (event.Ask i p mode) (R.MovingTo to) m1 w1 Cause.Moving h refl refl

    -- and the receiver took it
    pub take-nearer : (m2 : State) (w2 : Pages) → Moves m1 w1 (event.Take to p) reply.Did m2 w2 → IsNearer i mode p w w2
    take-nearer m2 w2 t = subst (λ (x : Pages). IsNearer i mode p w x) (sym (t.1 ∙ ap (λ (x : Pages). page_placed p (taken (x.entry p)) x) still)) took
      where
        took : IsNearer i mode p w (page_placed p (taken (w.entry p)) w)
        took = placed-nearer i mode p w w (taken (w.entry p)) (take-steps i mode (w.entry p) (w.asks p) on-way)

-- ---- room

free-comes : (i : ℕ) (e : PageEntry) → is_free e ≡ true → comes_to i e ≡ i
free-comes i PageEntry.Free free = refl
free-comes i (PageEntry.Shared set writer) free = none_left free
free-comes i (PageEntry.Excl holder dirty) free = none_left free
free-comes i (PageEntry.Moving to mode rest dirty) free = none_left free
free-comes i PageEntry.Lost free = none_left free

free-held : (e : PageEntry) (k : ℕ) → is_free e ≡ true → holds e k ≡ false
free-held PageEntry.Free k free = refl
free-held (PageEntry.Shared set writer) k free = none_left free
free-held (PageEntry.Excl holder dirty) k free = none_left free
free-held (PageEntry.Moving to mode rest dirty) k free = none_left free
free-held PageEntry.Lost k free = none_left free

moving-comes : (i to : ℕ) (e : PageEntry) → receives e to ≡ true → comes_to i e ≡ to
moving-comes i to PageEntry.Free on = none_left on
moving-comes i to (PageEntry.Shared set writer) on = none_left on
moving-comes i to (PageEntry.Excl holder dirty) on = none_left on
moving-comes i to (PageEntry.Moving t mode rest dirty) on = eqb-true t to on
moving-comes i to PageEntry.Lost on = none_left on

-- room was made in the pool into which the page comes
module _ (i p : ℕ) (mode : Mode) (at v : ℕ) (w w2 : Pages) (g : GivesUp at v w w2) where
  room-nearer : comes_to i (w.entry p) ≡ at → v ≢ p → IsNearer i mode p w w2
  room-nearer comes other =
      nearer-room i mode p at v w.entry w2.entry (w.asks p) (w2.asks p) comes other g.below g.had g.gone g.others (g.asks p other)

  -- a page that no pool has
  pub free-nearer : is_free (w.entry p) ≡ true → at ≡ i → IsNearer i mode p w w2
  free-nearer free own = room-nearer (free-comes i (w.entry p) free ∙ sym own)
      (λ is. unlike g.had (ap (λ (q : ℕ). holds (w.entry q) at) is ∙ free-held (w.entry p) at free))

  -- a page on its way
  pub moving-nearer : receives (w.entry p) at ≡ true → IsNearer i mode p w w2
  moving-nearer on = room-nearer (moving-comes i at (w.entry p) on)
      (λ is. unlike on (ap (λ (q : ℕ). receives (w.entry q) at) (sym is) ∙ g.still))
