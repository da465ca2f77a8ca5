-- An insert at its end: the record is made, or its change is refused. For `fill`.
use Rattle.std.proofs.Common.{◌≡◌, ◌≢◌, ◌⊎◌, inl, inr, ⊎_elim, ℕ, ◌+◌, ◌^◌, ◌<◌, ◌≤◌, Bool, true, false, cond, eq-eqb, List, [], ◌∷◌, ◌++◌, length, refl, sym, ap, ◌∙◌, subst, arith}
use Rattle.std.specs.Prelude.{None, Some, Result, Ok, Err, IfErr, IfOk, OnErr}
use Rattle.std.proofs.lemmas.Bool.{cases_lt, ne_eqb}
use Rattle.sd_base.specs.Values.{size}
use Rattle.sd_base.specs.declared.ids.Rid.{Rid}
use Rattle.sd_base.specs.declared.ids.TxnId.{TxnId}
use Rattle.sd_base.specs.declared.place.Mode.TheVariants as modes
use Rattle.sd_base.specs.declared.place.Status.TheVariants as S
use Rattle.sd_base.specs.declared.refusal.Refusal.{Refusal}
use Rattle.sd_base.specs.declared.refusal.Refusal.TheVariants as R
use Rattle.sd_model.specs.Applies.{PassesAll}
use Rattle.sd_model.specs.Claims.{Holds}
use Rattle.sd_model.specs.State.{State, view, wrote}
use Rattle.sd_model.specs.Tables.{Content}
use Rattle.sd_model.specs.declared.act.Claim.{Claim}
use Rattle.sd_model.specs.declared.act.Life.{Life}
use Rattle.sd_model.specs.declared.cause.Cause.{Cause}
use Rattle.sd_model.specs.declared.event.Event.{Event}
use Rattle.sd_model.specs.declared.event.Event.TheVariants as event
use Rattle.sd_model.specs.declared.event.Reply.TheVariants as reply
use Rattle.sd_pagelock.specs.Directory.{entry_at}
use Rattle.sd_pagelock.specs.Places.{holds_as, is_lost, owns}
use Rattle.sd_reclock.specs.Answers.{IsFree}
use Rattle.sd_reclock.specs.Locks.{stands, wait_for}
use Rattle.sd_rig.specs.Devices.{DeviceImages}
use Rattle.sd_chain.specs.Logs.{Outcomes}
use Rattle.sd_chain.specs.Pages.{capacity, redo, value}
use Rattle.sd_chain.specs.Records.{home}
use Rattle.sd_txn.specs.Transactions.{state_at}
use Rattle.sd_txn.specs.declared.state.TxnState.{TxnState}
use Rattle.sd_world.specs.Answers.{changes}
use Rattle.sd_world.specs.Bounds.{bounds_after, with_least, with_slot}
use Rattle.sd_world.specs.Pages.{Pages}
use Rattle.sd_world.specs.Serving.{Core, refused}
use Rattle.sd_update.specs.Changing.{LacksLsns, LacksRoom, change_of, flat_of, image_for}
use Rattle.sd_state.specs.Parts.{Parts, status_at, txns_at}
use Rattle.sd_state.specs.Values.{Pending}
use Rattle.sd_state.proofs.WorkingTakes.{free-claims}
use Rattle.sd_fits.specs.Fits.{AreAtLeast, AreWithin, Fits, capacities}
use Rattle.sd_fits.proofs.Changing.{ends-told, full-told}
use Rattle.sd_fits.proofs.Served.{bounds-stay}
use Rattle.sd_fits.proofs.Taking.{turned_to}
use Rattle.sd_ops.specs.Halves.{HalfServed, HalfTurns}
use Rattle.sd_ops.specs.Puts.{IsLowered, IsPutThere}
use Rattle.sd_ops.specs.Vacancies.{IsLongFor, IsVacant}
use Rattle.sd_ops.proofs.Editing.{head_causes}
use Rattle.sd_ops.proofs.Filling.{insert-head, near-slot, owned-page, ready-insert, there-page}
use Rattle.sd_ops.proofs.Owning.{sees}
use Rattle.sd_ops.proofs.Putted.{is-change, least-add, least-fill, lowered-fits, put-fits, slots-added, slots-stay}
use Rattle.sd_ops.proofs.Work.{IsFor, refused-turns, refused_to}

not-held-free : (claim : Claim) → (Holds claim → ⊥) → claim ≡ Claim.Free
not-held-free Claim.Free none = refl
not-held-free Claim.Shared none = absurd (none tt)
not-held-free Claim.Excl none = absurd (none tt)

module _ (t : TxnId) (p : ℕ) (v : List ℕ) (asked : ℕ) (seen_by : DeviceImages) (leaves : Outcomes) (c : Parts) (low : 1 ≤ home t)
    (high : home t ≤ 8)
    (up : status_at c (home t) ≡ S.Up) (state : state_at (txns_at c (home t)) t ≡ Some TxnState.Running)
    (short : IsLongFor v asked → ⊥)
    (mine : holds_as modes.Excl (entry_at c.directory p) (home t) ≡ true) (slot own : ℕ)
    (vacant : IsVacant (image_for t p c) t p asked c slot own)
    (free : IsFree (stands c.locks) t (wait_for (record { page = p; slot = slot }) modes.Excl)) where
  abbrev r : Rid
  r = record { page = p; slot = slot }

  abbrev e : Event
  e = event.Insert t p v asked

  after-small : length v ≤ 256
  after-small = ⊎_elim (λ long. absurd (short (inl long))) (λ le. le) (cases_lt 256 (length v))

  before-small : size (value (image_for t p c).slots slot) ≤ 256
  before-small = let is = ap size vacant.none in omega (arith, is)

  module _ (w : Core) (f : Fits seen_by leaves c w) where
    abbrev m : State
    m = w.scene.state

    runs-here : (m.part t).life ≡ Life.Running
    runs-here = (ready-insert t p v asked seen_by leaves c low high up state w f).runs

    absent : view m t r ≡ None
    absent = sym (sees t r seen_by leaves c up free mine w f runs-here) ∙ vacant.none

    others-free : (u : TxnId) → t ≢ u → (m.part u).claims r ≡ Claim.Free
    others-free u ne = not-held-free ((m.part u).claims r) (free-claims seen_by leaves Pending.Idle c m t r modes.Excl f.good free
        u ne)

    there : is_lost (w.pages.entry p) ≡ true → ⊥
    there = there-page t p v asked seen_by leaves c low high up state short mine w f

    owned : owns (w.pages.entry p) (home t) ≡ false → ⊥
    owned = owned-page t p v asked seen_by leaves c low high up state short mine w f

    near : slot ≤ length (w.bounds.slots p)
    near = near-slot t p v asked seen_by leaves c low high up state short mine w f slot vacant.place

    abbrev heads : (ys : List Cause) → PassesAll m e ys → PassesAll m e (head_causes ++ ys)
    heads = insert-head t p v asked seen_by leaves c low high up state w f

    -- ---- no room, or no LSN

    full-for : 1048576 < w.bounds.reach (home t) + 900 → IsFor None w e R.LogFull Cause.Log m
    full-for full = record {
      names = refl;
      tells = tt;
      first = (
        refl,
        heads (Cause.Long ∷ Cause.Lost ∷ Cause.Away ∷ Cause.Full ∷ Cause.SlotLock ∷ []) (short, (tt, (tt, (tt, (tt, tt))))),
        tt,
      );
      refuses = refl;
      passes = (tt, (tt, (tt, (tt, (tt, (there, (owned, (tt, (tt, tt)))))))));
      says = λ b. absurd (cc);
      place = tt;
      leaves = refl;
      allows = full;
      whom = tt;
      unused = tt;
      near = tt;
    }

    ends-for : 2 ^ 62 ≤ w.bounds.lsns + 4 → IsFor None w e R.LsnEnd Cause.Lsn m
    ends-for ends = record {
      names = refl;
      tells = tt;
      first = (
        refl,
        heads (Cause.Long ∷ Cause.Lost ∷ Cause.Away ∷ Cause.Full ∷ Cause.SlotLock ∷ Cause.Log ∷ [])
            (short, (tt, (tt, (tt, (tt, (tt, tt)))))),
        tt,
      );
      refuses = refl;
      passes = (tt, (tt, (tt, (tt, (tt, (there, (owned, (tt, (tt, (tt, tt))))))))));
      says = λ b. absurd (cc);
      place = tt;
      leaves = refl;
      allows = ends;
      whom = tt;
      unused = tt;
      near = tt;
    }

    -- ---- it is made

    turns : (pages : Pages) → changes (home t) p w.pages pages
        → HalfTurns (Some r) w e (reply.At r) (turned_to w (wrote t r (view m t r) (Some v) m) w.scene.waits pages e (reply.At r))
    turns pages changed = record {
      near = near;
      step = (
        heads (Cause.Long ∷ Cause.Lost ∷ Cause.Away ∷ Cause.Full ∷ Cause.SlotLock ∷ Cause.Log ∷ Cause.Lsn ∷ [])
            (short, (tt, (tt, (tt, (tt, (tt, (tt, tt))))))),
        (runs-here, refl, sym absent, others-free, ap (λ (x : Content). wrote t r x (Some v) m) absent),
      );
      waits = λ u. refl;
      exact = tt;
      unused = λ refused. absurd refused;
      moves = ((tt, (tt, (tt, (tt, (tt, (there, (owned, (tt, (tt, (tt, (tt, tt))))))))))), changed);
      within = near;
      sums = refl;
    }

  -- ---- the call

  module _ (new : Parts) (there : IsPutThere seen_by leaves t r own (Some v) c new) where
    place-mid : slot ≡ length (image_for t p c).slots → slot ≡ length (image_for t p there.mid).slots
    place-mid is = is ∙ sym (ap (λ (x : Parts). length (image_for t p x).slots) there.granted.rest)

    slots-then : (w : Core) (f : Fits seen_by leaves c w)
        → AreWithin (capacities (redo (image_for t p there.mid) (flat_of (change_of t r own (Some v) there.mid))))
        ((bounds_after w.bounds e (reply.At r)).slots p)
    slots-then w f = ⊎_elim
        (λ dead. slots-stay t r own (Some v) seen_by leaves c new up free mine there w f (runs-here w f) e (reply.At r)
        (subst (λ (x : Parts). slot < length (image_for t p x).slots) (sym there.granted.rest) dead.place))
        (λ next. subst (λ (b : Bool). AreWithin
        (capacities (redo (image_for t p there.mid) (flat_of (change_of t r own (Some v) there.mid))))
        (cond {A = List ℕ} b (with_slot (w.bounds.slots p) slot asked) (w.bounds.slots p))) (sym (eq-eqb p p refl))
        (subst (λ (n : ℕ). AreWithin
        (capacities (redo (image_for t p there.mid) (flat_of (change_of t r own (Some v) there.mid))))
        (with_slot (w.bounds.slots p) slot n)) (vacant.asks next)
        (slots-added t r own (Some v) seen_by leaves c new up free mine there w f (runs-here w f) (place-mid next))))
        vacant.chosen.0

    least-then : (w : Core) (f : Fits seen_by leaves c w)
        → AreAtLeast (capacities (redo (image_for t p there.mid) (flat_of (change_of t r own (Some v) there.mid))))
        ((bounds_after w.bounds e (reply.At r)).least p)
    least-then w f = subst (λ (b : Bool). AreAtLeast
        (capacities (redo (image_for t p there.mid) (flat_of (change_of t r own (Some v) there.mid))))
        (cond {A = List ℕ} b (with_least (w.bounds.least p) slot asked) (w.bounds.least p))) (sym (eq-eqb p p refl))
        (⊎_elim
        (λ dead. least-fill t r own (Some v) seen_by leaves c new up free mine there w f (runs-here w f) asked
        (subst (λ (x : Parts). slot < length (image_for t p x).slots) (sym there.granted.rest) dead.place)
        (subst (λ (x : Parts). asked ≤ capacity (image_for t p x).slots slot) (sym there.granted.rest) dead.enough))
        (λ next. subst (λ (n : ℕ). AreAtLeast
        (capacities (redo (image_for t p there.mid) (flat_of (change_of t r own (Some v) there.mid))))
        (with_least (w.bounds.least p) slot n)) (vacant.asks next)
        (least-add t r own (Some v) seen_by leaves c new up free mine there w f (runs-here w f) (place-mid next)))
        vacant.chosen.0)

    least-else : (w : Core) (q : ℕ) → q ≢ p → (bounds_after w.bounds e (reply.At r)).least q ≡ w.bounds.least q
    least-else w q ne = ap (λ (b : Bool). cond {A = List ℕ} b (with_least (w.bounds.least q) slot asked) (w.bounds.least q))
        (ne_eqb p q (λ same. ne (sym same)))

    pub filled-half : HalfServed seen_by leaves (Some r) e (Some (reply.At r)) c new
    filled-half = (
      λ w f. (
        _,
        turns w f _ (is-change t r own (Some v) seen_by leaves c new up free mine there w f (runs-here w f)),
        put-fits t r own (Some v) seen_by leaves c new up free mine there w f (runs-here w f) e (reply.At r) refl refl
            (subst (λ (x : Parts). size (value (image_for t p x).slots slot) ≤ 256) (sym there.granted.rest) before-small)
            after-small
            (slots-then w f) (least-then w f) (least-else w) refl,
      ),
      λ fault. fault,
    )

  module _ (new : Parts) (lowered : IsLowered c new) where
    full-half : LacksRoom (change_of t r own (Some v) c) c → HalfServed seen_by leaves None e (refused R.LogFull) c new
    full-half lacks = (
      λ w f. (
        refused_to w e None R.LogFull w.scene.state,
        refused-turns None w e R.LogFull Cause.Log w.scene.state (full-for w f
            (full-told t r own (Some v) seen_by leaves c w f low high up before-small after-small lacks)),
        lowered-fits seen_by leaves c new lowered w f (bounds_after w.bounds e (reply.Refused R.LogFull))
            (bounds-stay seen_by c w.bounds e (reply.Refused R.LogFull) tt f.bounds),
      ),
      λ fault. fault,
    )

    ends-half : LacksLsns t c → HalfServed seen_by leaves None e (refused R.LsnEnd) c new
    ends-half lacks = (
      λ w f. (
        refused_to w e None R.LsnEnd w.scene.state,
        refused-turns None w e R.LsnEnd Cause.Lsn w.scene.state (ends-for w f
            (ends-told t r own (Some v) seen_by leaves c w f low high up lacks)),
        lowered-fits seen_by leaves c new lowered w f (bounds_after w.bounds e (reply.Refused R.LsnEnd))
            (bounds-stay seen_by c w.bounds e (reply.Refused R.LsnEnd) tt f.bounds),
      ),
      λ fault. fault,
    )

    memory-half : HalfServed seen_by leaves None e None c new
    memory-half = λ w f. lowered-fits seen_by leaves c new lowered w f w.bounds f.bounds

    refused-half : (n : Refusal) → (n ≡ R.LogFull → LacksRoom (change_of t r own (Some v) c) c) → (n ≡ R.LsnEnd → LacksLsns t c)
        → (n ≡ R.LogFull) ⊎ ((n ≡ R.LsnEnd) ⊎ (n ≡ R.Memory)) → HalfServed seen_by leaves None e (refused n) c new
    refused-half n full ends (inl is) =
        subst (λ (x : Refusal). HalfServed seen_by leaves None e (refused x) c new) (sym is) (full-half (full is))
    refused-half n full ends (inr (inl is)) =
        subst (λ (x : Refusal). HalfServed seen_by leaves None e (refused x) c new) (sym is) (ends-half (ends is))
    refused-half n full ends (inr (inr is)) =
        subst (λ (x : Refusal). HalfServed seen_by leaves None e (refused x) c new) (sym is) memory-half

  -- The change is refused: all is as it was.
  pub unfilled-half : (new : Parts) (result : Result (Unit {0}) Refusal) (n : Refusal) → result ≡ Err n
      → OnErr result (IsLowered c new)
      → (result ≡ Err R.LogFull → LacksRoom (change_of t r own (Some v) c) c) → (result ≡ Err R.LsnEnd → LacksLsns t c)
      → IfErr result (λ k. (k ≡ R.LogFull) ⊎ ((k ≡ R.LsnEnd) ⊎ (k ≡ R.Memory)))
      → HalfServed seen_by leaves None e (refused n) c new
  unfilled-half new (Ok x) n is lowered full ends only = absurd (cc)
  unfilled-half new (Err k) n is lowered full ends only =
      let same : k ≡ n = cc in
      subst (λ (x : Refusal). HalfServed seen_by leaves None e (refused x) c new) same
      (refused-half new lowered k (λ l. full (cc)) (λ l. ends (cc)) only)

-- ---- what a refusal isn't

-- A put is never refused for want of room in its page.
pub put-not-full : {A : Type 0} (r : Result A Refusal) (result : Result (Unit {0}) Refusal) (k n : Refusal) (P : Type 0)
    → r ≡ Err k → k ≡ n
    → result ≡ Err n → IfErr result (λ x. (x ≡ R.LogFull) ⊎ ((x ≡ R.LsnEnd) ⊎ (x ≡ R.Memory))) → r ≡ Err R.PageFull → P
put-not-full r (Ok x) k n P is same was only full = absurd (cc)
put-not-full r (Err x) k n P is same was only full = ⊎_elim
    (λ l. absurd (cc))
    (λ rest. ⊎_elim (λ l. absurd (cc)) (λ l. absurd (cc)) rest)
    only

-- A refusal that is passed on is the one that was given.
pub same-refusal : {A : Type 0} (r : Result A Refusal) (k n what : Refusal) → r ≡ Err k → k ≡ n → r ≡ Err what → n ≡ what
same-refusal r k n what is same told = cc

-- What is said of a value says nothing of a refusal.
pub err-ok : {A : Type 0} (r : Result A Refusal) (k : Refusal) (P : A → Type 0) → r ≡ Err k → IfOk r P
err-ok r k P is = subst (λ x. IfOk x P) (sym is) tt

-- A value is no full page.
pub ok-not_full : {A P : Type 0} (x : A) → Ok x ≡ Err R.PageFull → P
ok-not_full x full = absurd (cc)

-- Want of memory is neither want of room in a log nor of LSNs.
pub memory-not_full : {P : Type 0} → R.Memory ≡ R.LogFull → P
memory-not_full full = absurd (cc)

pub memory-not_lsns : {P : Type 0} → R.Memory ≡ R.LsnEnd → P
memory-not_lsns lsns = absurd (cc)
