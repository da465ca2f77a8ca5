-- A log is forced, or its device fails and its instance falls: how events are served by it. For the goals of forcing.rt.
use Rattle.std.proofs.Common.{◌≡◌, ◌≢◌, inl, ℕ, ◌+◌, ◌≤◌, Bool, true, false, cond, List, [], ◌∷◌, refl, sym, ap, ap₂, ◌∙◌, subst, ⊎_elim, append-nil, arith, eqb-true, ◌++◌, map}
use Rattle.std.specs.Prelude.{None, Some, Result, Ok, Err, OnErr}
use Rattle.std.specs.Result.{is_err}
use Rattle.std.proofs.lemmas.Bool.{cases_eq}
use Rattle.std.proofs.lemmas.List.{get_or-set_same}
use Rattle.sd_base.specs.Streams.{Rises}
use Rattle.sd_base.specs.declared.place.Status.{Status}
use Rattle.sd_base.specs.declared.place.Status.TheVariants as S
use Rattle.sd_base.specs.declared.refusal.Refusal.TheVariants as R
use Rattle.sd_rig.specs.Devices.{DeviceImages, Elapses, Span}
use Rattle.sd_log.specs.Logs.{LogState, are_there, forced}
use Rattle.sd_logrec.specs.View.{Rec, flat}
use Rattle.sd_logrec.specs.declared.record.Record.{Record}
use Rattle.sd_model.specs.State.{State, fall}
use Rattle.sd_model.specs.declared.event.Event.{Event}
use Rattle.sd_model.specs.declared.event.Reply.TheVariants as reply
use Rattle.sd_chain.specs.Checks.{owed}
use Rattle.sd_chain.specs.Records.{IsOpen, home}
use Rattle.sd_moves.specs.Falling.{IsFallen, with_fallen}
use Rattle.sd_chain.specs.Logs.{Outcomes, all_at, base_at}
use Rattle.sd_chain.proofs.Kept.{forced-base, forced-tail}
use Rattle.sd_world.specs.Serving.{Core, Spares, Telling}
use Rattle.sd_state.specs.Complexes.{parts}
use Rattle.sd_state.specs.Forcing.{KeepMasters, with_failed, with_forced}
use Rattle.sd_state.specs.Good.{Good}
use Rattle.sd_state.specs.Images.{Stands}
use Rattle.sd_state.specs.Parts.{Parts, acting, actor, is_active, is_loose, log_at, no_log, owed_at, status_at}
use Rattle.sd_base.specs.Standing.{active_as}
use Rattle.sd_state.specs.Values.{Pending}
use Rattle.sd_state.specs.declared.complex.Complex.{Complex}
use Rattle.sd_state.proofs.Items.{item-kept, item-set}
use Rattle.sd_fits.specs.Fits.{Fits, FitsBounds, FitsDoubts, FitsPages}
use Rattle.sd_fits.specs.Serving.{Serving, fits_by, stands_for}
use Rattle.sd_fits.proofs.Falling.{IsElsewhere}
use Rattle.sd_fits.proofs.Forcing.{failed-bounds, failed-doubts, failed-pages, forced-bounds, forced-doubts, forced-pages}
use Rattle.sd_transfer.specs.Breaking.{BreaksBy}
use Rattle.sd_transfer.specs.Forcing.{OnlyLogs, OthersKeepLogs, force_calls}
use Rattle.sd_transfer.proofs.Broken.{broken-serves}

-- whoever is active acts for itself
acts-itself : (i : ℕ) (s : Status) → active_as i s ≡ true → acting i s ≡ i
acts-itself i S.Up h = refl
acts-itself i S.Down h = refl
acts-itself i (S.Recovering by) h = eqb-true by i h
acts-itself i S.Clean h = refl
acts-itself i S.Restarting h = refl
acts-itself i S.Closed h = refl

-- all records of a forced log are those of the log
pub forced-whole : (l : LogState) → all_at (forced l) ≡ all_at l
forced-whole l = ap₂ (λ (b : List Rec) (t : List Record). b ++ map flat t) (forced-base l) (forced-tail l)
    ∙ append-nil (all_at l)

-- ---- Ok

module _ (i owes : ℕ) (seen seen' : DeviceImages) (leaves leaves' : Outcomes) (c : Parts) (w : Core) (low : 1 ≤ i) (high : i ≤ 8)
    (f : Fits seen leaves c w) (settled : is_loose c i ≡ false) (disk : seen' 0 ≡ seen 0) (kept : KeepMasters leaves leaves') where
  abbrev then : Parts
  then = with_forced i (forced (log_at c i)) owes c

  here : log_at then i ≡ forced (log_at c i)
  here = item-set no_log c.logs i (forced (log_at c i)) low high f.good.shape.logs

  all-same : (j : ℕ) → all_at (log_at then j) ≡ all_at (log_at c j)
  all-same j = ⊎_elim
      (λ e. subst (λ (k : ℕ). all_at (log_at then k) ≡ all_at (log_at c k)) (sym e)
      (ap all_at here ∙ forced-whole (log_at c i)))
      (λ ne. ap all_at (item-kept no_log c.logs i (forced (log_at c i)) low j ne))
      (cases_eq j i)

  -- a complex whose log is forced fits the same world
  pub forced-fits : Good seen' leaves' Pending.Idle then w.scene.state → owes ≡ owed (all_at (log_at c i)) → Fits seen' leaves' then
      w
  forced-fits good is = record {
    good = good;
    idle = f.idle;
    rolling = λ t rolls. subst (IsOpen t) (sym (all-same (home t))) (f.rolling t rolls);
    waits = f.waits;
    waiting = f.waiting;
    put = f.put;
    pages = forced-pages i owes seen seen' leaves leaves' Pending.Idle c w.scene.state f.good low high settled disk is w.pages
        f.pages;
    bounds = forced-bounds i owes seen seen' leaves leaves' Pending.Idle c w.scene.state f.good low high settled disk is
        kept w.bounds f.bounds;
    doubts = forced-doubts i owes seen seen' leaves leaves' Pending.Idle c w.scene.state f.good low high settled disk is
        w.scene.state f.doubts;
  }

-- what the log owes then is what all of its records owe
pub forced-owes : (i : ℕ) (seen : DeviceImages) (leaves : Outcomes) (pend : Pending) (c new : Parts) (m : State) → 1 ≤ i → i ≤ 8
    → Good seen leaves pend new m → log_at new i ≡ forced (log_at c i) → is_loose new i ≡ false
    → owed_at new i ≡ owed (all_at (log_at c i))
forced-owes i seen leaves pend c new m low high good is settled =
    good.owed i low high settled ∙ ap (λ (l : LogState). owed (base_at l)) is ∙ ap owed (forced-base (log_at c i))

module _ {G : Type 0} (tell : Telling G) (c mid : Complex G) (i : ℕ) (low : 1 ≤ i) (high : i ≤ 8)
    (good : (pend : Pending) (m : State) → Good (tell.seen c.rig) (tell.leaves c.rig) pend (parts c) m
    → Good (tell.seen mid.rig) (tell.leaves mid.rig) pend (parts mid) m)
    (images : (pend : Pending) (m : State) → Good (tell.seen c.rig) (tell.leaves c.rig) pend (parts c) m
    → Span (tell.moment c.rig) (tell.since mid.rig) (Stands m pend))
    (time : Elapses (tell.moment c.rig) (tell.moment mid.rig) (tell.since c.rig) (tell.since mid.rig))
    (others : (d : ℕ) → d ≢ i → tell.seen mid.rig d ≡ tell.seen c.rig d)
    (kept : KeepMasters (tell.leaves c.rig) (tell.leaves mid.rig)) where
  disk : tell.seen mid.rig 0 ≡ tell.seen c.rig 0
  disk = others 0 (omega (arith, low))

  module _ (w : Core) (f : fits_by tell.seen tell.leaves c w) where
    good-then : Good (tell.seen mid.rig) (tell.leaves mid.rig) Pending.Idle (parts mid) w.scene.state
    good-then = good Pending.Idle w.scene.state f.good

    fits-same : parts mid ≡ parts c → mid.rig ≡ c.rig → fits_by tell.seen tell.leaves mid w
    fits-same is same = subst (λ (d : G). Fits (tell.seen d) (tell.leaves d) (parts mid) w) (sym same)
        (subst (λ (k : Parts). Fits (tell.seen c.rig) (tell.leaves c.rig) k w) (sym is) f)

    fits-forced : is_loose (parts c) i ≡ false
        → parts mid ≡ with_forced i (forced (log_at (parts c) i)) (owed_at (parts mid) i) (parts c) → fits_by tell.seen
        tell.leaves mid w
    fits-forced settled is =
        let owes : ℕ = owed_at (parts mid) i in
        let then : Parts = with_forced i (forced (log_at (parts c) i)) owes (parts c) in
        let there : log_at (parts mid) i ≡ forced (log_at (parts c) i) = ap (λ (k : Parts). log_at k i) is
        ∙ item-set no_log (parts c).logs i (forced (log_at (parts c) i)) low high f.good.shape.logs in
        subst (λ (k : Parts). Fits (tell.seen mid.rig) (tell.leaves mid.rig) k w) (sym is)
        (forced-fits i owes (tell.seen c.rig) (tell.seen mid.rig) (tell.leaves c.rig) (tell.leaves mid.rig) (parts c) w low high
        f settled disk kept
        (subst (λ (k : Parts). Good (tell.seen mid.rig) (tell.leaves mid.rig) Pending.Idle k w.scene.state) is good-then)
        (forced-owes i (tell.seen mid.rig) (tell.leaves mid.rig) Pending.Idle (parts c) (parts mid) w.scene.state low high
        good-then there
        (ap (λ (k : Parts). is_loose k i) is ∙ settled)))

    spares : fits_by tell.seen tell.leaves mid w
        → Spares {C = Complex G} tell stands_for (λ k. k.rig) (fits_by tell.seen tell.leaves) c mid w
    spares then = record {
      fits_still = then;
      passes = record {
        time = time;
        span = record { each = λ img s. inl ((images Pending.Idle w.scene.state f.good).each img s) };
      };
    }

  -- a force that is Ok spares every world that the complex fits
  pub force-spares : (is_loose (parts c) i ≡ true → (parts mid ≡ parts c) × (mid.rig ≡ c.rig))
      → (is_loose (parts c) i ≡ false → parts mid ≡ with_forced i (forced (log_at (parts c) i)) (owed_at (parts mid) i)
      (parts c))
      → tell.faults mid.rig ≡ tell.faults c.rig → (e : Event) → Serving tell e None c mid
  force-spares loose settled quiet e = ((λ w f. spares w f (go w f (is_loose (parts c) i) refl)), quiet)
    where
      go : (w : Core) (f : fits_by tell.seen tell.leaves c w) (b : Bool) → is_loose (parts c) i ≡ b → fits_by tell.seen
          tell.leaves mid w
      go w f true is = fits-same w f (loose is).0 (loose is).1
      go w f false is = fits-forced w f is (settled is)

  -- ---- Failed

  module _ (is_failed : parts mid ≡ with_failed (actor (parts c) i) i (parts c)) (settled : is_loose (parts c) i ≡ false) where
    -- who is to fall then is i, by its own log
    pub force-due : is_active (parts c) i ≡ true → (parts mid).due ≡ Some (i, i)
    force-due active = subst (λ (a : ℕ). (parts mid).due ≡ Some (a, i)) (acts-itself i (status_at (parts c) i) active)
        (ap (λ (k : Parts). k.due) is_failed)

    module _ (w : Core) (f : fits_by tell.seen tell.leaves c w) where
      pub force-loose : is_loose (parts mid) i ≡ true
      force-loose = ap (λ (k : Parts). is_loose k i) is_failed
          ∙ get_or-set_same (parts c).loose i true true (let nine = f.good.shape.loose in omega (arith, nine, high))

    else : IsElsewhere i (parts c) (parts mid)
    else = subst (IsElsewhere i (parts c)) (sym is_failed)
        (record { logs = λ j ne. refl; txns = λ j ne. refl; waits = λ t. refl })

    pub force-fails : (new : Complex G) → new.rig ≡ mid.rig → parts new ≡ with_fallen i (parts new) (parts mid)
        → IsFallen i (parts mid) (parts new)
        → ((m : State) → Good (tell.seen mid.rig) (tell.leaves mid.rig) Pending.Idle (parts mid) m
        → Good (tell.seen new.rig) (tell.leaves new.rig) Pending.Idle (parts new) (fall i m))
        → Rises (tell.faults c.rig) (tell.faults mid.rig)
        → (e : Event) → ((w : Core) → fits_by tell.seen tell.leaves c w → BreaksBy i e w)
        → Serving tell e (Some (reply.Refused R.Failed)) c new
    force-fails new same is fallen down rises e breaks = (
      λ w f. broken-serves tell c mid new i low high w f (good-then w f) else
          (subst (λ (k : Parts). FitsPages (tell.seen mid.rig) (tell.leaves mid.rig) k w.pages) (sym is_failed)
          (failed-pages (actor (parts c) i) i (tell.seen c.rig) (tell.seen mid.rig) (tell.leaves c.rig) (tell.leaves mid.rig)
          Pending.Idle
          (parts c) w.scene.state f.good low high settled disk w.pages f.pages))
          (subst (λ (k : Parts). FitsBounds (tell.seen mid.rig) (tell.leaves mid.rig) k w.bounds) (sym is_failed)
          (failed-bounds (actor (parts c) i) i (tell.seen c.rig) (tell.seen mid.rig) (tell.leaves c.rig) (tell.leaves mid.rig)
          Pending.Idle
          (parts c) w.scene.state f.good low high settled disk kept w.bounds f.bounds))
          (subst (λ (k : Parts). FitsDoubts (tell.seen mid.rig) k w.scene.state) (sym is_failed)
          (failed-doubts (actor (parts c) i) i (tell.seen c.rig) (tell.seen mid.rig) (tell.leaves c.rig) (tell.leaves mid.rig)
          Pending.Idle
          (parts c) w.scene.state f.good low high settled disk w.scene.state f.doubts))
          same is fallen (down w.scene.state (good-then w f)) time (images Pending.Idle w.scene.state f.good) e (breaks w f),
      subst (λ (d : G). Rises (tell.faults c.rig) (tell.faults d)) (sym same) rises,
    )

-- ---- what stays

pub same-logs : (old new : Parts) → new ≡ old → OnlyLogs old new
same-logs old new is = is ∙ ap (λ (k : Parts). record old { logs = k.logs; owed = k.owed }) (sym is)

pub forced-logs : (i : ℕ) (log : LogState) (owes : ℕ) (old new : Parts) → new ≡ with_forced i log owes old → OnlyLogs old new
forced-logs i log owes old new is = is ∙ ap (λ (k : Parts). record old { logs = k.logs; owed = k.owed }) (sym is)

-- the logs of others stay
pub forced-others : (i : ℕ) (log : LogState) (owes : ℕ) (old new : Parts) → 1 ≤ i → new ≡ with_forced i log owes old → OthersKeepLogs i old new
forced-others i log owes old new low is k ne = ap (λ (x : Parts). log_at x k) is ∙ item-kept no_log old.logs i log low k ne

-- ---- the device calls of a force

-- where none is due the devices stay,
pub idle-rig : {G : Type 0} (i : ℕ) (c : Parts) (old new : G) → (is_loose c i ≡ true → new ≡ old)
    → ((log_at c i).tail ≡ [] → new ≡ old) → force_calls i c ≡ 0 → new ≡ old
idle-rig {G} i c old new loose none calls = go (is_loose c i) (log_at c i).tail refl refl calls
  where
    go : (b : Bool) (t : List Record) → is_loose c i ≡ b → (log_at c i).tail ≡ t
        → ◌≡◌ {A = ℕ} (cond b 0 (cond (are_there t) 4 0)) 0 → new ≡ old
    go true t is tail e = loose is
    go false [] is tail e = none tail
    go false (r ∷ rs) is tail e = absurd (omega (arith, e))

-- and else there are four
pub forced-ticks : (i : ℕ) (c : Parts) (old new : ℕ) → (is_loose c i ≡ true → new ≡ old) → ((log_at c i).tail ≡ [] → new ≡ old)
    → (is_loose c i ≡ false → (log_at c i).tail ≢ [] → new ≡ old + 4) → new ≡ old + force_calls i c
forced-ticks i c old new loose none four = go (is_loose c i) (log_at c i).tail refl refl
  where
    some : (r : Record) (rs : List Record) → ◌≢◌ {A = List Record} (r ∷ rs) []
    some r rs e = absurd (cc)

    go : (b : Bool) (t : List Record) → is_loose c i ≡ b → (log_at c i).tail ≡ t → new ≡ old + cond b 0 (cond (are_there t) 4 0)
    go true t is tail = let same = loose is in omega (arith, same)
    go false [] is tail = let same = none tail in omega (arith, same)
    go false (r ∷ rs) is tail = four is (λ e. some r rs (sym tail ∙ e))

-- ---- what a call answered

pub was-err : {T E : Type 0} (r : Result T E) (P : Type 0) → true ≡ is_err r → OnErr r P → P
was-err (Ok x) P is h = absurd (cc)
was-err (Err e) P is h = h

pub was-settled : {E : Type 0} (b : Bool) (r : Result (Unit {0}) E) → (b ≡ true → r ≡ Ok tt) → true ≡ is_err r → b ≡ false
was-settled false r loose is = refl
was-settled true r loose is = absurd (not-both r (loose refl) is)
  where
    not-both : {E : Type 0} (r : Result (Unit {0}) E) → r ≡ Ok tt → true ≡ is_err r → ⊥
    not-both (Ok x) e is = absurd (cc)
    not-both (Err x) e is = absurd (cc)
