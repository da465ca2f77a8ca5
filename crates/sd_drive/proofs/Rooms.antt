-- What is left where a copy goes, written before or not. It serves the goals of pull.rt.
use Rattle.std.proofs.Common.{◌≡◌, ◌≢◌, ℕ, ◌<◌, Bool, true, false, cond, eqb, refl, sym, ap, ◌∙◌, subst, eq-eqb, ne_eqb, eqb-true}
use Rattle.sd_base.specs.Sets.{has}
use Rattle.sd_model.specs.declared.cause.Cause.{Cause}
use Rattle.sd_model.specs.declared.event.Event.TheVariants as event
use Rattle.sd_model.specs.declared.event.Reply.TheVariants as reply
use Rattle.sd_model.specs.State.{State}
use Rattle.sd_model.specs.Causes.{order}
use Rattle.sd_pagelock.specs.Places.{Formed, PageEntry, holds, receives}
use Rattle.sd_pagelock.specs.Asks.{open_asks}
use Rattle.sd_pagelock.specs.Rows.{fallen, written}
use Rattle.sd_pagelock.proofs.Falls.{holds-fallen}
use Rattle.sd_world.specs.Pages.{Pages, put}
use Rattle.sd_world.specs.Answers.{Moves}
use Rattle.sd_world.proofs.Causes.{none-says}
use Rattle.sd_drive.specs.Measure.{GivesUp}
use Rattle.sd_drive.proofs.Measures.{unlike}
use Rattle.sd_drive.proofs.Nearing.{is-so, put-here}

put-else : {X : Type 0} (v q : ℕ) (x : X) (f : ℕ → X) → v ≢ q → (put v x f) q ≡ f q
put-else {X} v q x f ne = ap (λ (b : Bool). cond {A = X} b x (f q)) (ne_eqb v q ne)

-- a page doesn't move to who has a copy
pub held-still : (e : PageEntry) (i : ℕ) → Formed e → holds e i ≡ true → receives e i ≡ false
held-still PageEntry.Free i formed had = refl
held-still (PageEntry.Shared set writer) i formed had = refl
held-still (PageEntry.Excl holder dirty) i formed had = refl
held-still (PageEntry.Moving to mode rest dirty) i formed had = go (eqb to i) refl
  where
    go : (b : Bool) → eqb to i ≡ b → b ≡ false
    go true is = unlike had (ap (λ (k : ℕ). has k rest) (sym (eqb-true to i is)) ∙ formed.1)
    go false is = refl
held-still PageEntry.Lost i formed had = refl

written-holds : (e : PageEntry) (i : ℕ) → holds (written e) i ≡ holds e i
written-holds PageEntry.Free i = refl
written-holds (PageEntry.Shared set writer) i = refl
written-holds (PageEntry.Excl holder dirty) i = refl
written-holds (PageEntry.Moving to mode rest dirty) i = refl
written-holds PageEntry.Lost i = refl

written-receives : (e : PageEntry) (i : ℕ) → receives (written e) i ≡ receives e i
written-receives PageEntry.Free i = refl
written-receives (PageEntry.Shared set writer) i = refl
written-receives (PageEntry.Excl holder dirty) i = refl
written-receives (PageEntry.Moving to mode rest dirty) i = refl
written-receives PageEntry.Lost i = refl

module _ (m : State) (w : Pages) (i v : ℕ) (lt : v < 1024) (still : receives (w.entry v) i ≡ false) (m1 : State) (w1 : Pages) where
  -- the copy goes
  pub evict-gives : Moves m w (event.Evict i v) reply.Did m1 w1 → GivesUp i v w w1
  evict-gives h = subst (λ (x : Pages). GivesUp i v w x) (sym h.1) (record {
    below = lt;
    had = is-so (holds (w.entry v) i) (none-says m w (event.Evict i v) (order (event.Evict i v)) Cause.Away h.0 refl refl);
    gone = ap (λ (e : PageEntry). holds e i) (put-here v (fallen i (w.entry v)) w.entry) ∙ holds-fallen i i (w.entry v)
        ∙ ap (λ (b : Bool). cond b false (holds (w.entry v) i)) (eq-eqb i i refl);
    still = still;
    others = λ q ne. put-else v q (fallen i (w.entry v)) w.entry ne;
    asks = λ q ne. put-else v q (open_asks (fallen i (w.entry v)) (w.asks v)) w.asks ne;
  })

  -- it was written, and goes
  pub flush-gives : (m2 : State) (w2 : Pages) → Moves m w (event.Flush i v) reply.Did m1 w1 → GivesUp i v w1 w2 → GivesUp i v w w2
  flush-gives m2 w2 h g =
      let here : w1.entry v ≡ written (w.entry v) = ap (λ (x : Pages). x.entry v) h.1 ∙ put-here v (written (w.entry v)) w.entry in
      record {
        below = lt;
        had = sym (written-holds (w.entry v) i) ∙ ap (λ (e : PageEntry). holds e i) (sym here) ∙ g.had;
        gone = g.gone;
        still = still;
        others = λ q ne. g.others q ne ∙ ap (λ (x : Pages). x.entry q) h.1 ∙ put-else v q (written (w.entry v)) w.entry ne;
        asks = λ q ne. g.asks q ne ∙ ap (λ (x : Pages). x.asks q) h.1 ∙ put-else v q (open_asks (written (w.entry v)) (w.asks v)) w.asks ne;
      }

  -- where it is written it moves no more than before
  pub flush-still : Moves m w (event.Flush i v) reply.Did m1 w1 → receives (w1.entry v) i ≡ false
  flush-still h = ap (λ (x : Pages). receives (x.entry v) i) h.1 ∙ ap (λ (e : PageEntry). receives e i) (put-here v (written (w.entry v)) w.entry)
      ∙ written-receives (w.entry v) i ∙ still
