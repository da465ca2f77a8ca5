-- A write, an add or a delete before its wait is ended: each refusal that leaves the serial table as it was. For `carry`.
use Rattle.std.proofs.Common.{◌≡◌, inl, ◌≤◌, true, false, List, [], ◌∷◌, ◌++◌, refl, sym, ap, ◌∙◌}
use Rattle.std.specs.Prelude.{None, Some}
use Rattle.sd_base.specs.declared.ids.Rid.{Rid}
use Rattle.sd_base.specs.declared.ids.TxnId.{TxnId}
use Rattle.sd_base.specs.declared.place.Mode.TheVariants as modes
use Rattle.sd_base.specs.declared.place.Place as coded
use Rattle.sd_base.specs.declared.place.Status.TheVariants as S
use Rattle.sd_base.specs.declared.refusal.Refusal.{Refusal}
use Rattle.sd_base.specs.declared.refusal.Refusal.TheVariants as R
use Rattle.sd_model.specs.Applies.{Locked, PassesAll}
use Rattle.sd_model.specs.Scenes.{asked_of}
use Rattle.sd_model.specs.State.{State}
use Rattle.sd_model.specs.StepLaws.{MayAct}
use Rattle.sd_model.specs.declared.act.Claim.{Claim}
use Rattle.sd_model.specs.declared.cause.Cause.{Cause}
use Rattle.sd_model.specs.declared.event.Event.{Event}
use Rattle.sd_pagelock.specs.Directory.{entry_at}
use Rattle.sd_pagelock.specs.Places.{PageEntry, is_lost, owns}
use Rattle.sd_reclock.specs.Answers.{IsFree, IsRefused}
use Rattle.sd_reclock.specs.Locks.{stands, wait_for, waits}
use Rattle.sd_rig.specs.Devices.{DeviceImages}
use Rattle.sd_chain.specs.Logs.{Outcomes}
use Rattle.sd_chain.specs.Records.{home}
use Rattle.sd_txn.specs.Transactions.{state_at}
use Rattle.sd_txn.specs.declared.state.TxnState.{TxnState}
use Rattle.sd_world.specs.Serving.{Core, refused}
use Rattle.sd_state.specs.Parts.{Parts, status_at, txns_at}
use Rattle.sd_state.specs.Values.{Pending}
use Rattle.sd_state.proofs.WorkingTakes.{free-claims}
use Rattle.sd_fits.specs.Fits.{Fits}
use Rattle.sd_fits.proofs.Heads.{is-ready}
use Rattle.sd_ops.specs.declared.edits.Edit.{Edit}
use Rattle.sd_ops.specs.declared.edits.Edit.TheVariants.{To, By, Gone}
use Rattle.sd_ops.specs.Edits.{IsLongEdit, event_of}
use Rattle.sd_ops.specs.Halves.{HalfServed, NotesWait}
use Rattle.sd_ops.specs.Copies.{LacksPage}
use Rattle.sd_ops.proofs.Asking.{MayBlock, asked-half}
use Rattle.sd_ops.proofs.Work.{IsFor, IsWork, ready-passes, refused-half}

-- each is of a transaction that must run
pub edit-work : (t : TxnId) (r : Rid) (edit : Edit) → IsWork (event_of t r edit) t
edit-work t r (To v) = record {
  rest = Cause.Long ∷ Cause.Lock ∷ Cause.Lost ∷ Cause.Away ∷ Cause.NoRecord ∷ Cause.Over ∷ Cause.Log ∷ Cause.Lsn ∷ [];
  order = refl;
  txn = refl;
  serve = λ m up. up;
  serves = λ m up. up;
  busy = λ m rolls. rolls;
  works = λ m rolls. rolls;
  names = λ m. refl;
  unused = λ m r. tt;
}
edit-work t r (By by) = record {
  rest = Cause.Lock ∷ Cause.Lost ∷ Cause.Away ∷ Cause.NoRecord ∷ Cause.NotNumber ∷ Cause.Digits ∷ Cause.Over ∷ Cause.Log ∷ Cause.Lsn ∷ [];
  order = refl;
  txn = refl;
  serve = λ m up. up;
  serves = λ m up. up;
  busy = λ m rolls. rolls;
  works = λ m rolls. rolls;
  names = λ m. refl;
  unused = λ m r. tt;
}
edit-work t r Gone = record {
  rest = Cause.Lock ∷ Cause.Lost ∷ Cause.Away ∷ Cause.NoRecord ∷ Cause.Log ∷ Cause.Lsn ∷ [];
  order = refl;
  txn = refl;
  serve = λ m up. up;
  serves = λ m up. up;
  busy = λ m rolls. rolls;
  works = λ m rolls. rolls;
  names = λ m. refl;
  unused = λ m r. tt;
}

-- none of both lists applies
pub passes-both : (m : State) (e : Event) (xs ys : List Cause) → PassesAll m e xs → PassesAll m e ys → PassesAll m e (xs ++ ys)
passes-both m e [] ys a b = b
passes-both m e (x ∷ xs) ys a b = (a.0, passes-both m e xs ys a.1 b)

abbrev pub head_causes : List Cause
head_causes = Cause.Shut ∷ Cause.NoTxn ∷ Cause.Down ∷ Cause.Busy ∷ []

module _ (t : TxnId) (r : Rid) (seen_by : DeviceImages) (leaves : Outcomes) (c : Parts) (low : 1 ≤ home t) (high : home t ≤ 8)
    (up : status_at c (home t) ≡ S.Up) (state : state_at (txns_at c (home t)) t ≡ Some TxnState.Running) where
  pub ready-here : (w : Core) → Fits seen_by leaves c w → MayAct w.scene.state t
  ready-here w f = is-ready seen_by leaves Pending.Idle c w.scene.state f.good t low high up state

  -- behind its head an edit is refused for none of these
  pub from-head : (edit : Edit) (w : Core) (f : Fits seen_by leaves c w) (ys : List Cause) → PassesAll w.scene.state (event_of t r edit) ys
      → PassesAll w.scene.state (event_of t r edit) (head_causes ++ ys)
  from-head edit w f ys b = passes-both w.scene.state (event_of t r edit) head_causes ys
      (ready-passes (event_of t r edit) t (edit-work t r edit) seen_by leaves c low high w f (ready-here w f)) b

  -- ---- a value of over 256 bytes

  long-for : (edit : Edit) → IsLongEdit edit → (w : Core) → Fits seen_by leaves c w
      → IsFor None w (event_of t r edit) R.TooLong Cause.Long w.scene.state
  long-for (To v) long w f = record {
    names = refl;
    tells = tt;
    first = (refl, from-head (To v) w f [] tt, long);
    refuses = refl;
    passes = (tt, (tt, (tt, (tt, tt))));
    says = λ b. absurd (cc);
    place = tt;
    leaves = refl;
    allows = inl long;
    whom = tt;
    unused = tt;
    near = tt;
  }
  long-for (By by) long w f = absurd long
  long-for Gone long w f = absurd long

  pub edit-long : (edit : Edit) → IsLongEdit edit → HalfServed seen_by leaves None (event_of t r edit) (refused R.TooLong) c c
  edit-long edit long = refused-half seen_by leaves c None (event_of t r edit) R.TooLong Cause.Long (λ asks. refl) (long-for edit long) (λ fault. fault)

  module _ (edit : Edit) (short : IsLongEdit edit → ⊥) where
    -- ---- the lock

    blocks : (x : Edit) → (IsLongEdit x → ⊥) → (w : Core) → Fits seen_by leaves c w → Locked w.scene.state t r Claim.Excl
        → MayBlock None w (event_of t r x)
    blocks (To v) short_value w f locked = record {
      cause = Cause.Lock;
      blocked = λ by. refl;
      deadlock = λ cycle. refl;
      first = (refl, from-head (To v) w f (Cause.Long ∷ []) (short_value, tt), locked);
      refuses = refl;
      passes = (tt, (tt, (tt, (tt, (tt, tt)))));
      says = λ b. absurd (cc);
      unused = λ x. tt;
      near = tt;
    }
    blocks (By by) short_value w f locked = record {
      cause = Cause.Lock;
      blocked = λ by. refl;
      deadlock = λ cycle. refl;
      first = (refl, from-head (By by) w f [] tt, locked);
      refuses = refl;
      passes = (tt, (tt, (tt, (tt, tt))));
      says = λ b. absurd (cc);
      unused = λ x. tt;
      near = tt;
    }
    blocks Gone short_value w f locked = record {
      cause = Cause.Lock;
      blocked = λ by. refl;
      deadlock = λ cycle. refl;
      first = (refl, from-head Gone w f [] tt, locked);
      refuses = refl;
      passes = (tt, (tt, (tt, (tt, tt))));
      says = λ b. absurd (cc);
      unused = λ x. tt;
      near = tt;
    }

    edit-asks : (x : Edit) → asked_of (event_of t r x) None ≡ Some (wait_for r modes.Excl)
    edit-asks (To v) = refl
    edit-asks (By by) = refl
    edit-asks Gone = refl

    pub edit-asked : (new : Parts) (n : Refusal) → IsRefused (stands c.locks) (waits c.locks) t (wait_for r modes.Excl) n
        → NotesWait t (wait_for r modes.Excl) n c new → HalfServed seen_by leaves None (event_of t r edit) (refused n) c new
    edit-asked new = asked-half seen_by leaves c new (event_of t r edit) None t r modes.Excl (edit-asks edit) (edit-work t r edit).txn
        (λ w f. (ready-here w f).runs) (blocks edit short)

    module _ (free : IsFree (stands c.locks) t (wait_for r modes.Excl)) where
      pub unlocked : (w : Core) → Fits seen_by leaves c w → Locked w.scene.state t r Claim.Excl → ⊥
      unlocked w f locked = free-claims seen_by leaves Pending.Idle c w.scene.state t r modes.Excl f.good free locked.0 locked.1 locked.2

      -- ---- the page

      lost-for : (x : Edit) → (IsLongEdit x → ⊥) → is_lost (entry_at c.directory r.page) ≡ true → (w : Core) → Fits seen_by leaves c w
          → IsFor None w (event_of t r x) R.Lost Cause.Lost w.scene.state
      lost-for (To v) short_value lost w f = record {
        names = refl;
        tells = tt;
        first = (refl, from-head (To v) w f (Cause.Long ∷ Cause.Lock ∷ []) (short_value, (unlocked w f, tt)), tt);
        refuses = refl;
        passes = (tt, (tt, (tt, (tt, (tt, (tt, tt))))));
        says = λ b. ap is_lost (f.pages.entry r.page) ∙ lost;
        place = tt;
        leaves = refl;
        allows = tt;
        whom = tt;
        unused = tt;
        near = tt;
      }
      lost-for (By by) short_value lost w f = record {
        names = refl;
        tells = tt;
        first = (refl, from-head (By by) w f (Cause.Lock ∷ []) (unlocked w f, tt), tt);
        refuses = refl;
        passes = (tt, (tt, (tt, (tt, (tt, tt)))));
        says = λ b. ap is_lost (f.pages.entry r.page) ∙ lost;
        place = tt;
        leaves = refl;
        allows = tt;
        whom = tt;
        unused = tt;
        near = tt;
      }
      lost-for Gone short_value lost w f = record {
        names = refl;
        tells = tt;
        first = (refl, from-head Gone w f (Cause.Lock ∷ []) (unlocked w f, tt), tt);
        refuses = refl;
        passes = (tt, (tt, (tt, (tt, (tt, tt)))));
        says = λ b. ap is_lost (f.pages.entry r.page) ∙ lost;
        place = tt;
        leaves = refl;
        allows = tt;
        whom = tt;
        unused = tt;
        near = tt;
      }

      not-lost : is_lost (entry_at c.directory r.page) ≡ false → (w : Core) → Fits seen_by leaves c w → is_lost (w.pages.entry r.page) ≡ true → ⊥
      not-lost there w f lost = let clash = sym there ∙ ap is_lost (sym (f.pages.entry r.page)) ∙ lost in absurd (cc)

      away-for : (x : Edit) → (IsLongEdit x → ⊥) → (place : coded.Place) → LacksPage modes.Excl (home t) r.page c (R.NeedPage place)
          → (w : Core) → Fits seen_by leaves c w → IsFor None w (event_of t r x) (R.NeedPage place) Cause.Away w.scene.state
      away-for (To v) short_value place lacks w f = record {
        names = refl;
        tells = tt;
        first = (refl, from-head (To v) w f (Cause.Long ∷ Cause.Lock ∷ Cause.Lost ∷ []) (short_value, (unlocked w f, (tt, tt))), tt);
        refuses = refl;
        passes = (tt, (tt, (tt, (tt, (tt, (tt, (not-lost lacks.0 w f, tt)))))));
        says = λ b. ap (λ (e : PageEntry). owns e (home t)) (f.pages.entry r.page) ∙ lacks.1;
        place = lacks.2 ∙ sym (f.pages.entry r.page);
        leaves = refl;
        allows = tt;
        whom = tt;
        unused = tt;
        near = tt;
      }
      away-for (By by) short_value place lacks w f = record {
        names = refl;
        tells = tt;
        first = (refl, from-head (By by) w f (Cause.Lock ∷ Cause.Lost ∷ []) (unlocked w f, (tt, tt)), tt);
        refuses = refl;
        passes = (tt, (tt, (tt, (tt, (tt, (not-lost lacks.0 w f, tt))))));
        says = λ b. ap (λ (e : PageEntry). owns e (home t)) (f.pages.entry r.page) ∙ lacks.1;
        place = lacks.2 ∙ sym (f.pages.entry r.page);
        leaves = refl;
        allows = tt;
        whom = tt;
        unused = tt;
        near = tt;
      }
      away-for Gone short_value place lacks w f = record {
        names = refl;
        tells = tt;
        first = (refl, from-head Gone w f (Cause.Lock ∷ Cause.Lost ∷ []) (unlocked w f, (tt, tt)), tt);
        refuses = refl;
        passes = (tt, (tt, (tt, (tt, (tt, (not-lost lacks.0 w f, tt))))));
        says = λ b. ap (λ (e : PageEntry). owns e (home t)) (f.pages.entry r.page) ∙ lacks.1;
        place = lacks.2 ∙ sym (f.pages.entry r.page);
        leaves = refl;
        allows = tt;
        whom = tt;
        unused = tt;
        near = tt;
      }

      pub edit-away : (n : Refusal) → LacksPage modes.Excl (home t) r.page c n → HalfServed seen_by leaves None (event_of t r edit) (refused n) c c
      edit-away R.Lost lacks = refused-half seen_by leaves c None (event_of t r edit) R.Lost Cause.Lost (λ asks. refl)
          (lost-for edit short lacks) (λ fault. fault)
      edit-away (R.NeedPage place) lacks = refused-half seen_by leaves c None (event_of t r edit) (R.NeedPage place) Cause.Away (λ asks. refl)
          (away-for edit short place lacks) (λ fault. fault)
      edit-away R.Memory lacks = λ w f. f
      edit-away n lacks = elim lacks [ ]
