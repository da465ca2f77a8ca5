-- A closed complex opens again from devices that a crash may leave: the event turns its world, and the opened complex fits that.
use Rattle.std.proofs.Common.{◌≡◌, ◌⊎◌, inl, inr, ⊎_elim, ℕ, zero, suc, ◌<◌, Bool, true, false, cond, ◌&&◌, ◌||◌, ltb, refl, sym, ap, ◌∙◌, subst, arith, ltb-true}
use Rattle.std.specs.Prelude.{Option, None}
use Rattle.std.proofs.lemmas.Bool.{cases_Bool, cases_lt}
use Rattle.sd_base.specs.Waits.{Wait, with_wait}
use Rattle.sd_base.specs.declared.ids.TxnId.{TxnId}
use Rattle.sd_base.specs.declared.place.Status.{Status}
use Rattle.sd_base.specs.declared.place.Status.TheVariants as S
use Rattle.sd_model.specs.Applies.{Clear}
use Rattle.sd_model.specs.Changes.{HasLoser, Reopened}
use Rattle.sd_model.specs.Fields.{nobody}
use Rattle.sd_model.specs.Scenes.{is_running}
use Rattle.sd_model.specs.State.{State}
use Rattle.sd_model.specs.Step.{Step}
use Rattle.sd_model.specs.declared.act.Life.{Life}
use Rattle.sd_model.specs.declared.event.Event.TheVariants.{Reopen}
use Rattle.sd_model.specs.declared.event.Reply.TheVariants as reply
use Rattle.sd_model.proofs.Listed.{step-listed}
use Rattle.sd_model.proofs.MarksRun.{step-marked}
use Rattle.sd_model.proofs.PlacedRun.{step-placed}
use Rattle.sd_model.proofs.Recoverers.{step-recoverers}
use Rattle.sd_model.proofs.RowsKept.{row-kept}
use Rattle.sd_rig.specs.Devices as rig
use Rattle.sd_chain.specs.Bytes.{stable}
use Rattle.sd_chain.specs.Storage.{Storage, newest}
use Rattle.sd_chain.specs.Losers.{OwnLogs}
use Rattle.sd_chain.proofs.Soundly.{sound-opens}
use Rattle.sd_chain.specs.Logs.{Outcomes}
use Rattle.sd_world.specs.Answers.{AreFoundLost}
use Rattle.sd_world.specs.Serving.{Core, Turns}
use Rattle.sd_moves.specs.Opening.{OpensTo, is_down_in, is_loser, is_lost_in, opened_again, some_lost}
use Rattle.sd_state.specs.Parts.{Parts}
use Rattle.sd_moves.proofs.OpenedAgain.{closed-opens-again, down-lost}
use Rattle.sd_fits.specs.Closed.{ClosedReopens, FitsClosed, reopened_core}
use Rattle.sd_fits.specs.Fits.{Fits}
use Rattle.sd_fits.specs.Opened.{IsOpenedOn}
use Rattle.sd_fits.proofs.Opening.{opened-fits}
use Rattle.sd_fits.proofs.Sums.{sums-stay}

-- ---- pages that are lost

first-both : (a b : Bool) → (a && b) ≡ true → a ≡ true
first-both true b e = refl
first-both false b e = absurd (cc)

either : (a b : Bool) → (a || b) ≡ true → (a ≡ true) ⊎ (b ≡ true)
either true b e = inl refl
either false b e = inr e

-- one of the first pages is lost where one is said to be
lost-page : (img : Storage) (n : ℕ) → some_lost img n ≡ true → (p : ℕ) × (is_lost_in img p ≡ true)
lost-page img zero e = absurd (cc)
lost-page img (suc n) e = ⊎_elim (λ here. (n, here)) (λ below. lost-page img n below) (either (is_lost_in img n) (some_lost img n) e)

page-lost : (img : Storage) (p n : ℕ) → p < n → is_lost_in img p ≡ true → some_lost img n ≡ true
page-lost img p zero lt e = absurd (omega (arith, lt))
page-lost img p (suc n) lt e = ⊎_elim
    (λ below. ap (λ (b : Bool). is_lost_in img n || b) (page-lost img p n below e) ∙ or-true (is_lost_in img n))
    (λ here. let same : p ≡ n = omega (arith, lt, here) in
    ap (λ (b : Bool). b || some_lost img n) (subst (λ (q : ℕ). is_lost_in img q ≡ true) same e))
    (cases_lt p n)
  where
    or-true : (b : Bool) → (b || true) ≡ true
    or-true true = refl
    or-true false = refl

-- an instance is down where this is so
down-is : (b : Bool) → cond {A = Status} b S.Down S.Clean ≡ S.Down → b ≡ true
down-is true e = refl
down-is false e = absurd (cc)

-- ---- the state

module _ (devices : rig.DeviceImages) (leaves : Outcomes) (w : Core) (f : FitsClosed leaves w) (left : rig.Leaves leaves devices) where
  abbrev img : Storage
  img = stable devices

  abbrev m : State
  m = w.scene.state

  abbrev then : State
  then = opened_again devices m

  again : Reopened m then
  again = (closed-opens-again devices m f.placed f.listed f.closed (f.stands devices left)).0

  clear : Clear m Reopen
  clear = ((λ opens. opens (f.closed 1)), (tt, tt))

  step : Step m Reopen reply.Did then
  step = (clear, again)

  pub reopens-to : OpensTo devices then
  reopens-to = (closed-opens-again devices m f.placed f.listed f.closed (f.stands devices left)).1
      (row-kept m Reopen reply.Did then clear again f.kept)
      (step-placed m Reopen reply.Did then step f.placed)
      (step-listed m Reopen reply.Did then step f.listed)
      (step-marked m Reopen reply.Did then step f.marked)
      (step-recoverers m Reopen reply.Did then step f.recoverers)

  -- ---- the world

  own : OwnLogs img
  own = (sound-opens devices (f.stands devices left).sound).1

  -- who is left open is a loser
  none-left : (i : ℕ) → (HasLoser then i → ⊥) → (t : TxnId) → t.inst ≡ i → is_loser img t ≡ true → ⊥
  none-left i none t at stays = none (t, at, reopens-to.lives t ∙ ap (λ (b : Bool). cond {A = Life} b Life.Retained Life.Gone) stays)

  found-lost : AreFoundLost then (is_lost_in img)
  found-lost = record {
    within = λ p far. ⊎_elim
        (λ lost. let low = ltb-true p 1024 (first-both (ltb p 1024) _ lost) in absurd (omega (arith, far, low)))
        (λ off. off)
        (cases_Bool (is_lost_in img p));
    down = λ i none is. lost-page img 1024 (sym (down-lost img own i (none-left i none)) ∙ down-is (is_down_in img i) is);
    lost = λ i none p is.
        let low = ltb-true p 1024 (first-both (ltb p 1024) _ is) in
        ap (λ (b : Bool). cond {A = Status} b S.Down S.Clean)
        (down-lost img own i (none-left i none) ∙ page-lost img p 1024 low is);
  }

  runs-none : (b : Bool) (life : Life) → life ≡ cond {A = Life} b Life.Retained Life.Gone → is_running life ≡ false
  runs-none true life e = ap is_running e
  runs-none false life e = ap is_running e

  pub reopened-turns : Turns w Reopen reply.Did (reopened_core devices w)
  reopened-turns = record {
    wanted = None;
    near = tt;
    plays = record {
      step = step;
      waits = λ t. sym (ap (λ (b : Bool). cond {A = Option Wait} b (with_wait nobody None w.scene.waits t) None)
          (runs-none (is_loser img t) (then.part t).life (reopens-to.lives t)));
    };
    exact = tt;
    unused = tt;
    moves = ((tt, (tt, tt)), (is_lost_in img, (λ p. (newest img p).lsn), found-lost, refl));
    within = tt;
    sums = refl;
  }

  -- A complex opened from them, which a crash leaves alone then, fits it.
  pub reopened-fits : (leaves' : Outcomes) (c : Parts) → IsOpenedOn w.pages.frames devices leaves' c
      → Fits devices leaves' c (reopened_core devices w)
  reopened-fits leaves' c on = opened-fits devices leaves' w.pages.frames c then on reopens-to (reopened_core devices w).bounds
      (sums-stay devices w.bounds Reopen reply.Did tt (f.sums devices left))

pub closed-reopens : (leaves leaves' : Outcomes) → ClosedReopens leaves leaves'
closed-reopens leaves leaves' devices c w f left on = (reopened-turns devices leaves w f left, reopened-fits devices leaves w f left leaves' c on)
