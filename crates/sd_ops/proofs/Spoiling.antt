-- An edit that is refused by what was found: that is read, and the record claimed. For `carry`.
use Rattle.std.proofs.Common.{◌≡◌, inl, inr, ⊎_elim, ℕ, zero, suc, ◌<◌, ◌≤◌, true, false, List, [], ◌∷◌, ◌++◌, get_or, length, map, refl, sym, ◌∙◌, subst, arith, Bor}
use Rattle.std.specs.Prelude.{Option, None, Some, ℤ}
use Rattle.sd_base.specs.Waits.{Waits}
use Rattle.sd_base.specs.declared.ids.Rid.{Rid}
use Rattle.sd_base.specs.declared.ids.TxnId.{TxnId}
use Rattle.sd_base.specs.declared.place.Mode.TheVariants as modes
use Rattle.sd_base.specs.declared.place.Status.TheVariants as S
use Rattle.sd_base.specs.declared.refusal.Refusal.{Refusal}
use Rattle.sd_base.specs.declared.refusal.Refusal.TheVariants as R
use Rattle.sd_model.specs.Numbers.{HasLongSum, IsLongSum, IsNumber, IsSum, Sums}
use Rattle.sd_model.specs.State.{State, looked_at, view}
use Rattle.sd_model.specs.Applies.{IsNew, Locked, PassesAll}
use Rattle.sd_model.specs.Fields.{rid_of, txn_of}
use Rattle.sd_model.specs.declared.act.Claim.{Claim}
use Rattle.sd_model.specs.declared.act.Life.{Life}
use Rattle.sd_model.specs.declared.cause.Cause.{Cause}
use Rattle.sd_model.specs.declared.event.Event.{Event}
use Rattle.sd_model.specs.declared.event.Reply.TheVariants as reply
use Rattle.sd_page.specs.Page.{Page, Slot}
use Rattle.sd_pagelock.specs.Directory.{entry_at}
use Rattle.sd_pagelock.specs.Places.{holds_as, is_lost, owns}
use Rattle.sd_reclock.specs.Answers.{IsFree}
use Rattle.sd_reclock.specs.Locks.{stands, wait_for}
use Rattle.sd_rig.specs.Devices.{DeviceImages}
use Rattle.sd_chain.specs.Logs.{Outcomes}
use Rattle.sd_chain.specs.Images.{all_kept}
use Rattle.sd_chain.specs.Pages.{capacity, value}
use Rattle.sd_chain.specs.Records.{home}
use Rattle.sd_txn.specs.Transactions.{state_at}
use Rattle.sd_txn.specs.declared.state.TxnState.{TxnState}
use Rattle.sd_world.specs.Bounds.{IsOver, bounds_after}
use Rattle.sd_world.specs.Serving.{Core, IsFault, refused}
use Rattle.sd_update.specs.Changing.{image_for}
use Rattle.sd_state.specs.Parts.{Parts, status_at, txns_at}
use Rattle.sd_state.specs.Values.{Pending}
use Rattle.sd_fits.specs.Fits.{AreAtLeast, Fits, capacities}
use Rattle.sd_fits.proofs.Served.{bounds-stay}
use Rattle.sd_fits.proofs.Values.{copy-newest}
use Rattle.sd_fits.proofs.Taking.{turned_to}
use Rattle.sd_ops.specs.declared.edits.Edit.{Edit}
use Rattle.sd_ops.specs.declared.edits.Edit.TheVariants.{To, By, Gone}
use Rattle.sd_ops.specs.Edits.{IsLongEdit, IsSpoiled, IsVain, event_of}
use Rattle.sd_ops.specs.Halves.{HalfServed, noted}
use Rattle.sd_ops.specs.Puts.{IsGranted}
use Rattle.sd_ops.proofs.Held.{as-held}
use Rattle.sd_ops.proofs.Editing.{from-head, head_causes, ready-here, unlocked}
use Rattle.sd_ops.proofs.Owning.{looked-fits, not-lost, owned-there, sees}
use Rattle.sd_ops.proofs.Work.{IsFor, refused-turns, refused_to}

the-value : (u v : List ℕ) → Some u ≡ Some v → u ≡ v
the-value u v e = cc

-- a slot isn't below what it has at least
slot-least : (slots : List Slot) (least : List ℕ) (s : ℕ) → s < length slots → AreAtLeast (map (λ slot. slot.0) slots) least
    → get_or least s 0 ≤ capacity slots s
slot-least [] least s lt at = absurd (omega (arith, lt))
slot-least (x ∷ xs) [] s lt at = elim at [ ]
slot-least (x ∷ xs) (n ∷ least) zero lt at = at.0
slot-least (x ∷ xs) (n ∷ least) (suc s) lt at = slot-least xs least s (omega (arith, lt)) at.1

-- a text that has a sum is a number text
pub long-number : (u : List ℕ) (by : ℤ) → IsLongSum u by → IsNumber u
long-number u by s = (s.2.0, s.2.1)

pub sum-number : (u : List ℕ) (by : ℤ) (w : List ℕ) → IsSum u by w → IsNumber u
sum-number u by w s = (s.1.0, s.1.1)

module _ (t : TxnId) (r : Rid) (seen_by : DeviceImages) (leaves : Outcomes) (c : Parts) (low : 1 ≤ home t) (high : home t ≤ 8)
    (up : status_at c (home t) ≡ S.Up) (state : state_at (txns_at c (home t)) t ≡ Some TxnState.Running)
    (free : IsFree (stands c.locks) t (wait_for r modes.Excl)) (mine : holds_as modes.Excl (entry_at c.directory r.page) (home t) ≡ true) where
  module _ (w : Core) (f : Fits seen_by leaves c w) where
    abbrev m : State
    m = w.scene.state

    abbrev then_state : State
    then_state = looked_at t r (view m t r) m

    runs-here : (m.part t).life ≡ Life.Running
    runs-here = (ready-here t r seen_by leaves c low high up state w f).runs

    -- it sees the page's value
    seen-is : (o : Option (List ℕ)) → value (image_for t r.page c).slots r.slot ≡ o → view m t r ≡ o
    seen-is o found = sym (sees t r seen_by leaves c up free mine w f runs-here) ∙ found

    there : is_lost (w.pages.entry r.page) ≡ true → ⊥
    there = not-lost t r seen_by leaves c up free mine w f runs-here

    owned : owns (w.pages.entry r.page) (home t) ≡ false → ⊥
    owned = owned-there t r seen_by leaves c up free mine w f runs-here

    unheld : (edit : Edit) → (IsLongEdit edit → ⊥) → Locked m t r Claim.Excl → ⊥
    unheld edit short = unlocked t r seen_by leaves c low high up state edit short free w f

    abbrev heads : (edit : Edit) (ys : List Cause) → PassesAll m (event_of t r edit) ys → PassesAll m (event_of t r edit) (head_causes ++ ys)
    heads edit = from-head t r seen_by leaves c low high up state edit w f

    -- ---- no record

    absent-for : (edit : Edit) → (IsLongEdit edit → ⊥) → value (image_for t r.page c).slots r.slot ≡ None
        → IsFor None w (event_of t r edit) R.NoRecord Cause.NoRecord then_state
    absent-for (To v) short none = record {
      names = refl;
      tells = tt;
      first = (
        refl,
        heads (To v) (Cause.Long ∷ Cause.Lock ∷ Cause.Lost ∷ Cause.Away ∷ []) (short, (unheld (To v) short, (tt, (tt, tt)))),
        seen-is None none,
      );
      refuses = refl;
      passes = (tt, (tt, (tt, (tt, (tt, (tt, (there, (owned, tt))))))));
      says = λ b. absurd (cc);
      place = tt;
      leaves = refl;
      allows = tt;
      whom = tt;
      unused = tt;
      near = tt;
    }
    absent-for (By by) short none = record {
      names = refl;
      tells = tt;
      first = (refl, heads (By by) (Cause.Lock ∷ Cause.Lost ∷ Cause.Away ∷ []) (unheld (By by) short, (tt, (tt, tt))), seen-is None none);
      refuses = refl;
      passes = (tt, (tt, (tt, (tt, (tt, (there, (owned, tt)))))));
      says = λ b. absurd (cc);
      place = tt;
      leaves = refl;
      allows = tt;
      whom = tt;
      unused = tt;
      near = tt;
    }
    absent-for Gone short none = record {
      names = refl;
      tells = tt;
      first = (refl, heads Gone (Cause.Lock ∷ Cause.Lost ∷ Cause.Away ∷ []) (unheld Gone short, (tt, (tt, tt))), seen-is None none);
      refuses = refl;
      passes = (tt, (tt, (tt, (tt, (tt, (there, (owned, tt)))))));
      says = λ b. absurd (cc);
      place = tt;
      leaves = refl;
      allows = tt;
      whom = tt;
      unused = tt;
      near = tt;
    }

    -- ---- a value that is too long, or no number

    pub here-not-none : (u : List ℕ) → value (image_for t r.page c).slots r.slot ≡ Some u → view m t r ≡ None → ⊥
    here-not-none u found none = let clash = sym (seen-is (Some u) found) ∙ none in absurd (cc)

    -- the slot has what the world says that it has at least
    least-here : r.slot < length (image_for t r.page c).slots → get_or (w.bounds.least r.page) r.slot 0 ≤ capacity (image_for t r.page c).slots r.slot
    least-here place = slot-least (image_for t r.page c).slots (w.bounds.least r.page) r.slot place
        (subst (λ (x : Page). AreAtLeast (capacities x) (w.bounds.least r.page))
        (sym (copy-newest seen_by leaves Pending.Idle c m t r.page f.good (as-held modes.Excl (entry_at c.directory r.page) (home t) mine)))
        (f.bounds.least (λ j. false) all_kept r.page))

    -- where the value is longer than its slot
    over-allowed : (e : Event) (u v : List ℕ) → txn_of e ≡ t → rid_of e ≡ r → value (image_for t r.page c).slots r.slot ≡ Some u
        → r.slot < length (image_for t r.page c).slots → capacity (image_for t r.page c).slots r.slot < length v → IsNew e u v → IsOver m w.bounds e
    over-allowed e u v whose what found place over new = (
      u,
      v,
      subst (λ (x : TxnId). view m x (rid_of e) ≡ Some u) (sym whose) (subst (λ (q : Rid). view m t q ≡ Some u) (sym what) (seen-is (Some u) found)),
      new,
      subst (λ (q : Rid). get_or (w.bounds.least q.page) q.slot 0 < length v) (sym what)
          (let least = least-here place in omega (arith, least, over)),
    )

    over-for : (v : Bor (List ℕ)) → (IsLongEdit (To v) → ⊥) → (u : List ℕ) → value (image_for t r.page c).slots r.slot ≡ Some u
        → r.slot < length (image_for t r.page c).slots → length u ≤ capacity (image_for t r.page c).slots r.slot
        → capacity (image_for t r.page c).slots r.slot < length v.now → IsFor None w (event_of t r (To v)) R.TooLong Cause.Over then_state
    over-for v short u found place room over = record {
      names = refl;
      tells = tt;
      first = (
        refl,
        heads (To v) (Cause.Long ∷ Cause.Lock ∷ Cause.Lost ∷ Cause.Away ∷ Cause.NoRecord ∷ [])
            (short, (unheld (To v) short, (tt, (tt, (here-not-none u found, tt))))),
        (u, v.now, seen-is (Some u) found, refl, omega (arith, room, over)),
      );
      refuses = refl;
      passes = (tt, (tt, (tt, (tt, (tt, (tt, (there, (owned, (tt, tt)))))))));
      says = λ b. absurd (cc);
      place = tt;
      leaves = refl;
      allows = inr (inr (over-allowed (event_of t r (To v)) u v.now refl refl found place over refl));
      whom = tt;
      unused = tt;
      near = tt;
    }

    module _ (by : ℤ) (u : List ℕ) (found : value (image_for t r.page c).slots r.slot ≡ Some u) where
      no-number-for : (IsNumber u → ⊥) → IsFor None w (event_of t r (By by)) R.NotNumber Cause.NotNumber then_state
      no-number-for none = record {
        names = refl;
        tells = tt;
        first = (
          refl,
          heads (By by) (Cause.Lock ∷ Cause.Lost ∷ Cause.Away ∷ Cause.NoRecord ∷ [])
              (unheld (By by) (λ x. x), (tt, (tt, (here-not-none u found, tt)))),
          (u, seen-is (Some u) found, none),
        );
        refuses = refl;
        passes = (tt, (tt, (tt, (tt, (tt, (there, (owned, (tt, tt))))))));
        says = λ b. absurd (cc);
        place = tt;
        leaves = refl;
        allows = tt;
        whom = tt;
        unused = tt;
        near = tt;
      }

      -- it is a number text
      pub is-number : IsNumber u → (x : List ℕ) × (view m t r ≡ Some x) × (IsNumber x → ⊥) → ⊥
      is-number number other = other.2 (subst IsNumber (the-value u other.0 (sym (seen-is (Some u) found) ∙ other.1)) number)

      digits-for : HasLongSum u by → IsFor None w (event_of t r (By by)) R.TooLong Cause.Digits then_state
      digits-for long = record {
        names = refl;
        tells = tt;
        first = (
          refl,
          heads (By by) (Cause.Lock ∷ Cause.Lost ∷ Cause.Away ∷ Cause.NoRecord ∷ Cause.NotNumber ∷ [])
              (unheld (By by) (λ x. x), (tt, (tt, (here-not-none u found, (is-number (long-number u by long.long), tt))))),
          (u, seen-is (Some u) found, long.long),
        );
        refuses = refl;
        passes = (tt, (tt, (tt, (tt, (tt, (there, (owned, (tt, (tt, tt)))))))));
        says = λ b. absurd (cc);
        place = tt;
        leaves = refl;
        allows = inr (inl (u, seen-is (Some u) found, long.long));
        whom = tt;
        unused = tt;
        near = tt;
      }

      -- its sum hasn't too many digits
      pub is-short : (s : List ℕ) → Sums u by s → (x : List ℕ) × (view m t r ≡ Some x) × IsLongSum x by → ⊥
      is-short s sums other = sums.short (subst (λ (z : List ℕ). IsLongSum z by)
          (sym (the-value u other.0 (sym (seen-is (Some u) found) ∙ other.1))) other.2)

      sum-over-for : (s : List ℕ) → Sums u by s → r.slot < length (image_for t r.page c).slots
          → length u ≤ capacity (image_for t r.page c).slots r.slot → capacity (image_for t r.page c).slots r.slot < length s
          → IsFor None w (event_of t r (By by)) R.TooLong Cause.Over then_state
      sum-over-for s sums place room over = record {
        names = refl;
        tells = tt;
        first = (
          refl,
          heads (By by) (Cause.Lock ∷ Cause.Lost ∷ Cause.Away ∷ Cause.NoRecord ∷ Cause.NotNumber ∷ Cause.Digits ∷ [])
              (unheld (By by) (λ x. x), (tt, (tt, (here-not-none u found, (is-number (sum-number u by s sums.is), (is-short s sums, tt)))))),
          (u, s, seen-is (Some u) found, sums.is, omega (arith, room, over)),
        );
        refuses = refl;
        passes = (tt, (tt, (tt, (tt, (tt, (there, (owned, (tt, (tt, (tt, tt))))))))));
        says = λ b. absurd (cc);
        place = tt;
        leaves = refl;
        allows = inr (inr (over-allowed (event_of t r (By by)) u s refl refl found place over sums.is));
        whom = tt;
        unused = tt;
        near = tt;
      }

  -- ---- the call

  looked-half : (mid : Parts) → IsGranted t r modes.Excl c mid → (e : Event) (n : Refusal) (cause : Cause)
      → ((asks : Waits) → noted e None (reply.Refused n) asks ≡ asks) → (IsFault (reply.Refused n) → ⊥)
      → ((w : Core) (f : Fits seen_by leaves c w) → IsFor None w e n cause (then_state w f))
      → HalfServed seen_by leaves None e (Some (reply.Refused n)) c mid
  looked-half mid granted e n cause none fault is = (
    λ w f. (
      refused_to w e None n (then_state w f),
      refused-turns None w e n cause (then_state w f) (is w f),
      subst (λ (asks : Waits). Fits seen_by leaves mid (turned_to w (then_state w f) asks w.pages e (reply.Refused n))) (sym (none w.scene.waits))
          (looked-fits t r seen_by leaves c up free mine w f (runs-here w f) (bounds_after w.bounds e (reply.Refused n))
          (bounds-stay seen_by c w.bounds e (reply.Refused n) tt f.bounds) mid granted),
    ),
    fault,
  )

  spoiled-half : (edit : Edit) → (IsLongEdit edit → ⊥) → (n : Refusal) → IsSpoiled (image_for t r.page c) r.slot edit n → (mid : Parts)
      → IsGranted t r modes.Excl c mid → HalfServed seen_by leaves None (event_of t r edit) (refused n) c mid
  spoiled-half (To v) short R.TooLong s mid granted = looked-half mid granted (event_of t r (To v)) R.TooLong Cause.Over (λ asks. refl) (λ x. x)
      (λ w f. over-for w f v short s.u s.found s.place s.room s.why)
  spoiled-half (To v) short n s mid granted = absurd (s.why)
  spoiled-half (By by) short R.NotNumber s mid granted = looked-half mid granted (event_of t r (By by)) R.NotNumber Cause.NotNumber
      (λ asks. refl) (λ x. x) (λ w f. no-number-for w f by s.u s.found s.why)
  spoiled-half (By by) short R.TooLong s mid granted = ⊎_elim
      (λ long. looked-half mid granted (event_of t r (By by)) R.TooLong Cause.Digits (λ asks. refl) (λ x. x)
      (λ w f. digits-for w f by s.u s.found long))
      (λ sum. looked-half mid granted (event_of t r (By by)) R.TooLong Cause.Over (λ asks. refl) (λ x. x)
      (λ w f. sum-over-for w f by s.u s.found sum.0 sum.2 s.place s.room sum.1))
      s.why
  spoiled-half (By by) short n s mid granted = absurd (s.why)
  spoiled-half Gone short n s mid granted = absurd (s.why)

  -- An edit that is vain is refused so.
  pub vain-half : (edit : Edit) → (IsLongEdit edit → ⊥) → (n : Refusal) → IsVain (image_for t r.page c) r.slot edit n → (mid : Parts)
      → IsGranted t r modes.Excl c mid → HalfServed seen_by leaves None (event_of t r edit) (refused n) c mid
  vain-half edit short R.NoRecord none mid granted = looked-half mid granted (event_of t r edit) R.NoRecord Cause.NoRecord (λ asks. refl) (λ x. x)
      (λ w f. absent-for w f edit short none)
  vain-half edit short n s mid granted = spoiled-half edit short n s mid granted
