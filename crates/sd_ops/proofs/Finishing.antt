-- The end of a whole rollback is served: bare, once its End is forced, or by the fall of its instance where the force failed. For `finish`.
use Rattle.std.proofs.Common.{◌≡◌, inl, inr, ℕ, ◌≤◌, false, cond, List, [], ◌∷◌, length, refl, sym, ap, ◌∙◌, subst, arith}
use Rattle.std.specs.Prelude.{Option, None, Some, IsSome, option_map}
use Rattle.std.specs.Option.{option_and_then, option_map_or}
use Rattle.sd_base.specs.Ids.{same_txn}
use Rattle.sd_base.specs.Streams.{Rises}
use Rattle.sd_base.specs.declared.ids.TxnId.{TxnId}
use Rattle.sd_base.specs.declared.place.Status.TheVariants as S
use Rattle.sd_base.specs.declared.refusal.Refusal.TheVariants as R
use Rattle.sd_log.specs.Logs.{forced}
use Rattle.sd_reclock.specs.Locks.{waits}
use Rattle.sd_rig.specs.Devices.{DeviceImages, Leaves}
use Rattle.sd_model.specs.Applies.{First, HasPut}
use Rattle.sd_model.specs.Listed.{IsAtWork}
use Rattle.sd_model.specs.State.{State, fall, gone, put_part}
use Rattle.sd_model.specs.declared.act.Life.{Life}
use Rattle.sd_model.specs.declared.cause.Cause.{Cause}
use Rattle.sd_model.specs.declared.event.Event.TheVariants.{Undo}
use Rattle.sd_model.specs.declared.event.Reply.TheVariants as reply
use Rattle.sd_txn.specs.Transactions.{Transaction, Transactions, depth_at, shut, span_at, state_at, txn_at, without}
use Rattle.sd_txn.specs.declared.state.TxnState.{TxnState}
use Rattle.sd_chain.specs.Records.{home}
use Rattle.sd_world.specs.Answers.Fails.{falls}
use Rattle.sd_world.specs.Serving.{Core, Telling, Turns}
use Rattle.sd_state.specs.Complexes.{parts}
use Rattle.sd_state.specs.Forcing.{with_failed, with_forced}
use Rattle.sd_state.specs.Good.{Good}
use Rattle.sd_state.specs.Parts.{Parts, actor, is_loose, log_at, owed_at, status_at, txns_at}
use Rattle.sd_update.specs.Sealing.{MayPutEnd, end_of}
use Rattle.sd_state.specs.Values.{Pending}
use Rattle.sd_state.specs.Working.{with_working}
use Rattle.sd_state.specs.declared.complex.Complex.{Complex}
use Rattle.sd_moves.specs.Falling.{IsFallen, with_fallen}
use Rattle.sd_fits.specs.Fits.{FitsDoubts}
use Rattle.sd_fits.specs.Serving.{Serving, fits_by}
use Rattle.sd_fits.proofs.Falling.{fell_core, numbers_of, turns-fell}
use Rattle.sd_ops.proofs.Ends.{end-last, end-turns, end_bounds, head-there, life, none-live, pages-pass}
use Rattle.sd_ops.proofs.Lasts.{IsLastOf, IsEnding, bare-serves, ending-doubts, fell-serves, fell-wait, forced-txns, left-serves, then-good}

-- ---- its row

-- a row of this state, with nothing open
row-of : (o : Option Transaction) (state : TxnState) → option_map (λ (x : Transaction). x.state) o ≡ Some state
    → option_map_or (λ (x : Transaction). length x.stack) o 0 ≡ 0
    → (x : Transaction) × (o ≡ Some x) × (x.state ≡ state) × (length x.stack ≡ 0)
row-of None state is none = absurd (cc)
row-of (Some x) state is none = (x, refl, cc, none)

none-open : {A : Type 0} (xs : List A) → length xs ≡ 0 → xs ≡ []
none-open [] e = refl
none-open (x ∷ xs) e = absurd (omega (arith, e))

pub may-end : (t : TxnId) (c : Parts) → status_at c (home t) ≡ S.Up → state_at (txns_at c (home t)) t ≡ Some (TxnState.Rolling None)
    → depth_at (txns_at c (home t)) t ≡ 0 → IsSome (span_at (txns_at c (home t)) t) → MayPutEnd t c
may-end t c up rolls empty spoken =
    let r = row-of (txn_at (txns_at c (home t)) t) (TxnState.Rolling None) rolls empty in
    record {
      x = r.0;
      row = r.1;
      there = subst (λ (o : Option Transaction). IsSome (option_and_then (λ (x : Transaction). x.span) o)) r.1 spoken;
      empty = none-open r.0.stack r.3;
      stands = inl (up, r.2);
    }

-- ---- bare

module _ {G : Type 0} (tell : Telling G) (t : TxnId) (old new : Complex G) (same : new.rig ≡ old.rig)
    (now : (img : DeviceImages) → tell.since old.rig (tell.moment old.rig) img → Leaves (tell.leaves old.rig) img)
    (low : 1 ≤ home t) (high : home t ≤ 8) where
  pub bare-served : status_at (parts old) (home t) ≡ S.Up → state_at (txns_at (parts old) (home t)) t ≡ Some (TxnState.Rolling None)
      → depth_at (txns_at (parts old) (home t)) t ≡ 0
      → parts new ≡ with_working (home t) (without (txns_at (parts old) (home t)) t) (parts new).locks (parts old)
      → ((u : TxnId) → waits (parts new).locks u ≡ cond (same_txn t u) None (waits (parts old).locks u))
      → ((m : State) → Good (tell.seen old.rig) (tell.leaves old.rig) Pending.Idle (parts old) m
      → Good (tell.seen new.rig) (tell.leaves new.rig) Pending.Idle (parts new) (put_part t gone m))
      → Serving tell (Undo t) (Some reply.Finished) old new
  bare-served up rolls empty is unwaited good = (
    λ w f. bare-serves tell t old new same now low high up is unwaited w f (put_part t gone w.scene.state) (λ u. refl) (good w.scene.state f.good)
        (Undo t) reply.Finished tt (end-turns t (tell.seen old.rig) (tell.leaves old.rig) (parts old) w f low high up rolls empty),
    ap tell.faults same,
  )

-- ---- one with a record

module _ {G : Type 0} {tell : Telling G} {t : TxnId} {old sealed then : Complex G}
    (k : IsEnding tell t (λ x. end_of t x (parts old)) Pending.Idle old sealed then)
    (rolls : state_at (txns_at (parts old) (home t)) t ≡ Some (TxnState.Rolling None))
    (empty : depth_at (txns_at (parts old) (home t)) t ≡ 0) where
  abbrev i : ℕ
  i = home t

  last : (w : Core) (f : fits_by tell.seen tell.leaves old w) → IsLastOf t (end_of t k.ends.x (parts old)) (end_bounds t w) (parts old) w
  last w f = end-last t (tell.seen old.rig) (tell.leaves old.rig) (parts old) w f k.low k.high k.up rolls empty k.ends.x

  -- ---- that is forced

  module _ (is_forced : is_loose (parts sealed) i ≡ false
      → parts then ≡ with_forced i (forced (log_at (parts sealed) i)) (owed_at (parts then) i) (parts sealed)) where
    -- its row is shut
    forced-row : (w : Core) → fits_by tell.seen tell.leaves old w → txn_at (txns_at (parts then) i) t ≡ Some (shut k.ends.x)
    forced-row w f = ap (λ (tb : Transactions). txn_at tb t) (forced-txns k is_forced w f) ∙ k.ends.ended.row.now

    pub forced-rolls : (w : Core) → fits_by tell.seen tell.leaves old w → state_at (txns_at (parts then) i) t ≡ Some (TxnState.Rolling None)
    forced-rolls w f = ap (option_map (λ (x : Transaction). x.state)) (forced-row w f)
        ∙ sym (ap (option_map (λ (x : Transaction). x.state)) k.ends.ended.row.was) ∙ rolls

    pub forced-bare : (w : Core) → fits_by tell.seen tell.leaves old w → span_at (txns_at (parts then) i) t ≡ None
    forced-bare w f = ap (option_and_then (λ (x : Transaction). x.span)) (forced-row w f)

    pub forced-served : (new : Complex G) → new.rig ≡ then.rig → tell.faults then.rig ≡ tell.faults sealed.rig
        → parts new ≡ with_working i (without (txns_at (parts then) i) t) (parts new).locks (parts then)
        → ((u : TxnId) → waits (parts new).locks u ≡ cond (same_txn t u) None (waits (parts then).locks u))
        → ((m : State) → Good (tell.seen then.rig) (tell.leaves then.rig) Pending.Idle (parts then) m
        → Good (tell.seen new.rig) (tell.leaves new.rig) Pending.Idle (parts new) (put_part t gone m))
        → Serving tell (Undo t) (Some reply.Finished) old new
    forced-served new same quiet is unwaited good = (
      λ w f. left-serves k is_forced w f (end_bounds t w) (last w f) new same is unwaited (put_part t gone w.scene.state) (λ u. refl)
          (good w.scene.state (then-good k w f)) (Undo t) reply.Finished
          (end-turns t (tell.seen old.rig) (tell.leaves old.rig) (parts old) w f k.low k.high k.up rolls empty) (λ img s. inl s),
      ap tell.faults same ∙ quiet ∙ ap tell.faults k.rig,
    )

  -- ---- whose force failed

  -- its instance falls
  module _ (is_failed : parts then ≡ with_failed (actor (parts sealed) i) i (parts sealed)) (new : Complex G) (same : new.rig ≡ then.rig)
      (is : parts new ≡ with_fallen i (parts new) (parts then)) (fallen : IsFallen i (parts then) (parts new))
      (good : (m : State) → Good (tell.seen then.rig) (tell.leaves then.rig) Pending.Idle (parts then) m
      → Good (tell.seen new.rig) (tell.leaves new.rig) Pending.Idle (parts new) (fall i m)) where
    abbrev core_then : Core → Core
    core_then w = fell_core i w.scene.state (numbers_of (tell.seen then.rig) (tell.leaves then.rig) (parts new)) (end_bounds t w) w

    module _ (w : Core) (f : fits_by tell.seen tell.leaves old w) where
      stays : FitsDoubts (tell.seen old.rig) (parts sealed) w.scene.state
      stays = ending-doubts k w f (end_bounds t w) (last w f)

      its-life : (w.scene.state.part t).life ≡ Life.Rolling None
      its-life = life t (tell.seen old.rig) (tell.leaves old.rig) (parts old) w f k.low k.high k.up rolls empty

      has-put : HasPut (w.scene.state.part t).acts
      has-put = f.put t (subst IsAtWork (sym its-life) tt) k.there

      turns-failed : Turns w (Undo t) (reply.Refused R.Failed) (core_then w)
      turns-failed =
          let at = head-there t (tell.seen old.rig) (tell.leaves old.rig) (parts old) w f k.low k.high k.up rolls empty in
          let none = none-live t (tell.seen old.rig) (tell.leaves old.rig) (parts old) w f k.low k.high k.up rolls empty in
          let passes = pages-pass t (tell.seen old.rig) (tell.leaves old.rig) (parts old) w f k.low k.high k.up rolls empty in
          let first : First w.scene.state (Undo t) Cause.Rig =
          (refl, (f.good.not_closed, (at.0, (at.1, (tt, (tt, tt))))), (its-life, none, has-put)) in
          turns-fell i w.scene.state (numbers_of (tell.seen then.rig) (tell.leaves then.rig) (parts new)) w (Undo t)
          (reply.Refused R.Failed) (Cause.Rig, refl, tt, first, inr (i, refl, refl))
          (fell-wait k is_failed w f (end_bounds t w) (last w f) w.scene.state (λ u ne. refl) stays new same is fallen
          (good w.scene.state (then-good k w f)))
          tt tt
          (record {
            cause = Cause.Rig;
            names = refl;
            first = first;
            passes = (tt, (tt, (tt, (passes.1.1.1.0, (passes.1.1.1.1.0, tt)))));
            says = λ b. absurd (cc);
            place = tt;
            leaves = falls i w.pages (numbers_of (tell.seen then.rig) (tell.leaves then.rig) (parts new)) refl refl refl refl;
          }) tt

    pub failed-served : Rises (tell.faults sealed.rig) (tell.faults then.rig) → Serving tell (Undo t) (Some (reply.Refused R.Failed)) old new
    failed-served rises = (
      λ w f. fell-serves k is_failed w f (end_bounds t w) (last w f) w.scene.state (λ u ne. refl) (stays w f) new same is fallen
          (good w.scene.state (then-good k w f)) (Undo t) (reply.Refused R.Failed) (turns-failed w f) (λ img s. inl s),
      subst (λ (d : G). Rises (tell.faults old.rig) (tell.faults d)) (sym same)
          (subst (λ (d : G). Rises (tell.faults d) (tell.faults then.rig)) k.rig rises),
    )
