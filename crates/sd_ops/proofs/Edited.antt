-- An edit at its end: it is made, or its change is refused. For `carry`.
use Rattle.std.proofs.Common.{◌≡◌, ◌⊎◌, inl, inr, ℕ, ◌+◌, ◌^◌, ◌<◌, ◌≤◌, true, false, cond, List, [], ◌∷◌, ◌++◌, length, refl, sym, ap, ap₂, ◌∙◌, subst, arith}
use Rattle.std.specs.Prelude.{Option, None, Some, Result, Ok, Err, IfErr, OnErr, OnOk}
use Rattle.sd_base.specs.Values.{size}
use Rattle.sd_base.specs.declared.ids.Rid.{Rid}
use Rattle.sd_base.specs.declared.ids.TxnId.{TxnId}
use Rattle.sd_base.specs.declared.place.Mode.TheVariants as modes
use Rattle.sd_base.specs.declared.place.Status.TheVariants as S
use Rattle.sd_base.specs.declared.refusal.Refusal.{Refusal}
use Rattle.sd_base.specs.declared.refusal.Refusal.TheVariants as R
use Rattle.sd_model.specs.Applies.{PassesAll}
use Rattle.sd_model.specs.Causes.{before, order}
use Rattle.sd_model.specs.Fields.{inst_of}
use Rattle.sd_model.specs.State.{State, view, wrote}
use Rattle.sd_model.specs.Step.{Row}
use Rattle.sd_model.specs.declared.act.Life.{Life}
use Rattle.sd_model.specs.declared.cause.Cause.{Cause}
use Rattle.sd_model.specs.declared.event.Event.{Event}
use Rattle.sd_model.specs.declared.event.Reply.TheVariants as reply
use Rattle.sd_pagelock.specs.Directory.{entry_at}
use Rattle.sd_pagelock.specs.Places.{holds_as, is_lost, owns}
use Rattle.sd_reclock.specs.Answers.{IsFree}
use Rattle.sd_reclock.specs.Locks.{stands, wait_for}
use Rattle.sd_rig.specs.Devices.{DeviceImages}
use Rattle.sd_chain.specs.Logs.{Outcomes}
use Rattle.sd_chain.specs.Pages.{value}
use Rattle.sd_chain.specs.Records.{home}
use Rattle.sd_txn.specs.Transactions.{state_at}
use Rattle.sd_txn.specs.declared.state.TxnState.{TxnState}
use Rattle.sd_world.specs.Answers.{changes}
use Rattle.sd_world.specs.Bounds.{bounds_after, cost, counts}
use Rattle.sd_world.proofs.Sums.{least-kept}
use Rattle.sd_world.specs.PageCauses.{NoneSays}
use Rattle.sd_world.specs.Pages.{Pages}
use Rattle.sd_world.specs.Serving.{Core, did, refused}
use Rattle.sd_update.specs.Changing.{LacksLsns, LacksRoom, change_of, image_for}
use Rattle.sd_state.specs.Parts.{Parts, status_at, txns_at}
use Rattle.sd_fits.specs.Fits.{Fits}
use Rattle.sd_fits.proofs.Changing.{ends-told, full-told}
use Rattle.sd_fits.proofs.Served.{bounds-stay}
use Rattle.sd_fits.proofs.Taking.{turned_to}
use Rattle.sd_ops.specs.declared.edits.Edit.{Edit}
use Rattle.sd_ops.specs.declared.edits.Edit.TheVariants.{To, By, Gone}
use Rattle.sd_ops.specs.Edits.{IsLongEdit, Makes, Sets, event_of}
use Rattle.sd_ops.specs.Halves.{HalfServed, HalfTurns}
use Rattle.sd_ops.specs.Puts.{IsLowered, IsPutThere}
use Rattle.sd_ops.proofs.Editing.{from-head, passes-both, ready-here, unlocked}
use Rattle.sd_ops.proofs.Owning.{not-lost, owned-there, sees}
use Rattle.sd_ops.proofs.Putted.{is-change, least-stay, lowered-fits, put-fits, slots-stay}
use Rattle.sd_ops.proofs.Spoiling.{here-not-none, is-number, is-short, sum-number}
use Rattle.sd_ops.proofs.Work.{IsFor, refused-turns, refused_to}

module _ (t : TxnId) (r : Rid) (edit : Edit) (short : IsLongEdit edit → ⊥) (seen_by : DeviceImages) (leaves : Outcomes) (c : Parts)
    (low : 1 ≤ home t) (high : home t ≤ 8) (up : status_at c (home t) ≡ S.Up)
    (state : state_at (txns_at c (home t)) t ≡ Some TxnState.Running) (free : IsFree (stands c.locks) t (wait_for r modes.Excl))
    (mine : holds_as modes.Excl (entry_at c.directory r.page) (home t) ≡ true) (capacity : ℕ) (after : Option (List ℕ))
    (sets : Sets (image_for t r.page c) r.slot edit capacity after) where
  module _ (w : Core) (f : Fits seen_by leaves c w) where
    abbrev m : State
    m = w.scene.state

    runs-here : (m.part t).life ≡ Life.Running
    runs-here = (ready-here t r seen_by leaves c low high up state w f).runs

    seen-is : view m t r ≡ Some sets.u
    seen-is = sym (sees t r seen_by leaves c up free mine w f runs-here) ∙ sets.found

    there : is_lost (w.pages.entry r.page) ≡ true → ⊥
    there = not-lost t r seen_by leaves c up free mine w f runs-here

    owned : owns (w.pages.entry r.page) (home t) ≡ false → ⊥
    owned = owned-there t r seen_by leaves c up free mine w f runs-here

    found-here : view m t r ≡ None → ⊥
    found-here = here-not-none t r seen_by leaves c low high up state free mine w f sets.u sets.found

    -- nothing that the state decides refuses it
    clear-log : (x : Edit) → (IsLongEdit x → ⊥) → Makes x sets.u after → PassesAll m (event_of t r x) (before Cause.Log (order (event_of t r x)))
    clear-log (To v) small makes = from-head t r seen_by leaves c low high up state (To v) w f
        (Cause.Long ∷ Cause.Lock ∷ Cause.Lost ∷ Cause.Away ∷ Cause.NoRecord ∷ Cause.Over ∷ [])
        (small, (unlocked t r seen_by leaves c low high up state (To v) small free w f, (tt, (tt, (found-here, (tt, tt))))))
    clear-log (By by) small makes = from-head t r seen_by leaves c low high up state (By by) w f
        (Cause.Lock ∷ Cause.Lost ∷ Cause.Away ∷ Cause.NoRecord ∷ Cause.NotNumber ∷ Cause.Digits ∷ Cause.Over ∷ []) (
          unlocked t r seen_by leaves c low high up state (By by) small free w f,
          (
            tt,
            (
              tt,
              (
                found-here,
                (
                  is-number t r seen_by leaves c low high up state free mine w f by sets.u sets.found (sum-number sets.u by makes.0 makes.2.is),
                  (is-short t r seen_by leaves c low high up state free mine w f by sets.u sets.found makes.0 makes.2, (tt, tt)),
                ),
              ),
            ),
          ),
        )
    clear-log Gone small makes = from-head t r seen_by leaves c low high up state Gone w f
        (Cause.Lock ∷ Cause.Lost ∷ Cause.Away ∷ Cause.NoRecord ∷ [])
        (unlocked t r seen_by leaves c low high up state Gone small free w f, (tt, (tt, (found-here, tt))))

    -- nor do the pages
    none-says-log : (x : Edit) → NoneSays m w.pages (event_of t r x) (before Cause.Log (order (event_of t r x)))
    none-says-log (To v) = (tt, (tt, (tt, (tt, (tt, (tt, (there, (owned, (tt, (tt, tt))))))))))
    none-says-log (By by) = (tt, (tt, (tt, (tt, (tt, (there, (owned, (tt, (tt, (tt, (tt, tt)))))))))))
    none-says-log Gone = (tt, (tt, (tt, (tt, (tt, (there, (owned, (tt, tt))))))))

    -- ---- no room, or no LSN

    full-for : (x : Edit) → (IsLongEdit x → ⊥) → Makes x sets.u after → 1048576 < w.bounds.reach (home t) + 900
        → IsFor None w (event_of t r x) R.LogFull Cause.Log m
    full-for (To v) small makes full = record {
      names = refl;
      tells = tt;
      first = (refl, clear-log (To v) small makes, tt);
      refuses = refl;
      passes = none-says-log (To v);
      says = λ b. absurd (cc);
      place = tt;
      leaves = refl;
      allows = full;
      whom = tt;
      unused = tt;
      near = tt;
    }
    full-for (By by) small makes full = record {
      names = refl;
      tells = tt;
      first = (refl, clear-log (By by) small makes, tt);
      refuses = refl;
      passes = none-says-log (By by);
      says = λ b. absurd (cc);
      place = tt;
      leaves = refl;
      allows = full;
      whom = tt;
      unused = tt;
      near = tt;
    }
    full-for Gone small makes full = record {
      names = refl;
      tells = tt;
      first = (refl, clear-log Gone small makes, tt);
      refuses = refl;
      passes = none-says-log Gone;
      says = λ b. absurd (cc);
      place = tt;
      leaves = refl;
      allows = full;
      whom = tt;
      unused = tt;
      near = tt;
    }

    log-passes : (x : Edit) → (IsLongEdit x → ⊥) → Makes x sets.u after
        → PassesAll m (event_of t r x) (before Cause.Log (order (event_of t r x)) ++ Cause.Log ∷ [])
    log-passes x small makes = passes-both m (event_of t r x) (before Cause.Log (order (event_of t r x))) (Cause.Log ∷ [])
        (clear-log x small makes) (tt, tt)

    none-says-both : (e : Event) (xs ys : List Cause) → NoneSays m w.pages e xs → NoneSays m w.pages e ys → NoneSays m w.pages e (xs ++ ys)
    none-says-both e [] ys a b = b
    none-says-both e (x ∷ xs) ys a b = (a.0, none-says-both e xs ys a.1 b)

    none-says-more : (x : Edit) → NoneSays m w.pages (event_of t r x) (before Cause.Log (order (event_of t r x)) ++ Cause.Log ∷ [])
    none-says-more x = none-says-both (event_of t r x) (before Cause.Log (order (event_of t r x))) (Cause.Log ∷ []) (none-says-log x) (tt, tt)

    ends-for : (x : Edit) → (IsLongEdit x → ⊥) → Makes x sets.u after → 2 ^ 62 ≤ w.bounds.lsns + 4
        → IsFor None w (event_of t r x) R.LsnEnd Cause.Lsn m
    ends-for (To v) small makes ends = record {
      names = refl;
      tells = tt;
      first = (refl, log-passes (To v) small makes, tt);
      refuses = refl;
      passes = none-says-more (To v);
      says = λ b. absurd (cc);
      place = tt;
      leaves = refl;
      allows = ends;
      whom = tt;
      unused = tt;
      near = tt;
    }
    ends-for (By by) small makes ends = record {
      names = refl;
      tells = tt;
      first = (refl, log-passes (By by) small makes, tt);
      refuses = refl;
      passes = none-says-more (By by);
      says = λ b. absurd (cc);
      place = tt;
      leaves = refl;
      allows = ends;
      whom = tt;
      unused = tt;
      near = tt;
    }
    ends-for Gone small makes ends = record {
      names = refl;
      tells = tt;
      first = (refl, log-passes Gone small makes, tt);
      refuses = refl;
      passes = none-says-more Gone;
      says = λ b. absurd (cc);
      place = tt;
      leaves = refl;
      allows = ends;
      whom = tt;
      unused = tt;
      near = tt;
    }

    -- ---- it is made

    row-for : (x : Edit) → Makes x sets.u after → Row m (event_of t r x) reply.Did (wrote t r (view m t r) after m)
    row-for (To v) makes = (sets.u, runs-here, sym seen-is, ap₂ (λ a b. wrote t r a b m) seen-is makes)
    row-for (By by) makes = (sets.u, makes.0, runs-here, sym seen-is, makes.2.is, ap₂ (λ a b. wrote t r a b m) seen-is makes.1)
    row-for Gone makes = (sets.u, runs-here, sym seen-is, ap₂ (λ a b. wrote t r a b m) seen-is makes)

    turns-for : (x : Edit) → (IsLongEdit x → ⊥) → Makes x sets.u after → (pages : Pages) → changes (home t) r.page w.pages pages
        → HalfTurns None w (event_of t r x) reply.Did
        (turned_to w (wrote t r (view m t r) after m) w.scene.waits pages (event_of t r x) reply.Did)
    turns-for (To v) small makes pages changed = record {
      near = tt;
      step = (
        passes-both m (event_of t r (To v)) (before Cause.Log (order (event_of t r (To v)))) (Cause.Log ∷ Cause.Lsn ∷ [])
            (clear-log (To v) small makes) (tt, (tt, tt)),
        row-for (To v) makes,
      );
      waits = λ u. refl;
      exact = tt;
      unused = tt;
      moves = (
        none-says-both (event_of t r (To v)) (before Cause.Log (order (event_of t r (To v)))) (Cause.Log ∷ Cause.Lsn ∷ [])
            (none-says-log (To v)) (tt, (tt, tt)),
        changed,
      );
      within = tt;
      sums = refl;
    }
    turns-for (By by) small makes pages changed = record {
      near = tt;
      step = (
        passes-both m (event_of t r (By by)) (before Cause.Log (order (event_of t r (By by)))) (Cause.Log ∷ Cause.Lsn ∷ [])
            (clear-log (By by) small makes) (tt, (tt, tt)),
        row-for (By by) makes,
      );
      waits = λ u. refl;
      exact = tt;
      unused = tt;
      moves = (
        none-says-both (event_of t r (By by)) (before Cause.Log (order (event_of t r (By by)))) (Cause.Log ∷ Cause.Lsn ∷ [])
            (none-says-log (By by)) (tt, (tt, tt)),
        changed,
      );
      within = tt;
      sums = refl;
    }
    turns-for Gone small makes pages changed = record {
      near = tt;
      step = (
        passes-both m (event_of t r Gone) (before Cause.Log (order (event_of t r Gone))) (Cause.Log ∷ Cause.Lsn ∷ [])
            (clear-log Gone small makes) (tt, (tt, tt)),
        row-for Gone makes,
      );
      waits = λ u. refl;
      exact = tt;
      unused = tt;
      moves = (
        none-says-both (event_of t r Gone) (before Cause.Log (order (event_of t r Gone))) (Cause.Log ∷ Cause.Lsn ∷ [])
            (none-says-log Gone) (tt, (tt, tt)),
        changed,
      );
      within = tt;
      sums = refl;
    }

  -- ---- the call

  whose : (x : Edit) → inst_of (event_of t r x) ≡ home t
  whose (To v) = refl
  whose (By by) = refl
  whose Gone = refl

  costs : (x : Edit) → cond (counts (event_of t r x) reply.Did) (cost (event_of t r x)) 0 ≡ 900
  costs (To v) = refl
  costs (By by) = refl
  costs Gone = refl

  before-small : size (value (image_for t r.page c).slots r.slot) ≤ 256
  before-small = let is = ap size sets.found in let le = sets.had_small in omega (arith, is, le)

  after-small : size after ≤ 256
  after-small = let within = sets.fits.within in let le = sets.small in omega (arith, within, le)

  made-half : (new : Parts) → IsPutThere seen_by leaves t r capacity after c new
      → HalfServed seen_by leaves None (event_of t r edit) (Some reply.Did) c new
  made-half new put = (
    λ w f. (
      _,
      turns-for w f edit short sets.makes _ (is-change t r capacity after seen_by leaves c new up free mine put w f (runs-here w f)),
      put-fits t r capacity after seen_by leaves c new up free mine put w f (runs-here w f) (event_of t r edit) reply.Did (whose edit) (costs edit)
          (subst (λ (x : Parts). size (value (image_for t r.page x).slots r.slot) ≤ 256) (sym put.granted.rest) before-small) after-small
          (slots-stay t r capacity after seen_by leaves c new up free mine put w f (runs-here w f) (event_of t r edit) reply.Did
          (subst (λ (x : Parts). r.slot < length (image_for t r.page x).slots) (sym put.granted.rest) sets.place))
          (least-stay t r capacity after seen_by leaves c new up free mine put w f (runs-here w f) (event_of t r edit) reply.Did tt
          (subst (λ (x : Parts). r.slot < length (image_for t r.page x).slots) (sym put.granted.rest) sets.place))
          (λ q ne. least-kept w.bounds.least (event_of t r edit) reply.Did tt q) refl,
    ),
    λ fault. fault,
  )

  full-half : (new : Parts) → IsLowered c new → LacksRoom (change_of t r capacity after c) c
      → HalfServed seen_by leaves None (event_of t r edit) (refused R.LogFull) c new
  full-half new lowered lacks = (
    λ w f. (
      refused_to w (event_of t r edit) None R.LogFull w.scene.state,
      refused-turns None w (event_of t r edit) R.LogFull Cause.Log w.scene.state (full-for w f edit short sets.makes
          (full-told t r capacity after seen_by leaves c w f low high up before-small after-small lacks)),
      lowered-fits seen_by leaves c new lowered w f (bounds_after w.bounds (event_of t r edit) (reply.Refused R.LogFull))
          (bounds-stay seen_by c w.bounds (event_of t r edit) (reply.Refused R.LogFull) tt f.bounds),
    ),
    λ fault. fault,
  )

  ends-half : (new : Parts) → IsLowered c new → LacksLsns t c
      → HalfServed seen_by leaves None (event_of t r edit) (refused R.LsnEnd) c new
  ends-half new lowered lacks = (
    λ w f. (
      refused_to w (event_of t r edit) None R.LsnEnd w.scene.state,
      refused-turns None w (event_of t r edit) R.LsnEnd Cause.Lsn w.scene.state (ends-for w f edit short sets.makes
          (ends-told t r capacity after seen_by leaves c w f low high up lacks)),
      lowered-fits seen_by leaves c new lowered w f (bounds_after w.bounds (event_of t r edit) (reply.Refused R.LsnEnd))
          (bounds-stay seen_by c w.bounds (event_of t r edit) (reply.Refused R.LsnEnd) tt f.bounds),
    ),
    λ fault. fault,
  )

  memory-half : (new : Parts) → IsLowered c new → HalfServed seen_by leaves None (event_of t r edit) None c new
  memory-half new lowered = λ w f. lowered-fits seen_by leaves c new lowered w f w.bounds f.bounds

  -- Whatever the change answers, the edit is served so.
  pub put-served : (result : Result (Unit {0}) Refusal) (new : Parts) → OnOk result (IsPutThere seen_by leaves t r capacity after c new)
      → OnErr result (IsLowered c new) → (result ≡ Err R.LogFull → LacksRoom (change_of t r capacity after c) c)
      → (result ≡ Err R.LsnEnd → LacksLsns t c) → IfErr result (λ e. (e ≡ R.LogFull) ⊎ ((e ≡ R.LsnEnd) ⊎ (e ≡ R.Memory)))
      → HalfServed seen_by leaves None (event_of t r edit) (did result) c new
  put-served (Ok x) new put lowered full ends only = made-half new put
  put-served (Err n) new put lowered full ends (inl is) =
      subst (λ (e : Refusal). HalfServed seen_by leaves None (event_of t r edit) (refused e) c new) (sym is) (full-half new lowered (full (cc)))
  put-served (Err n) new put lowered full ends (inr (inl is)) =
      subst (λ (e : Refusal). HalfServed seen_by leaves None (event_of t r edit) (refused e) c new) (sym is) (ends-half new lowered (ends (cc)))
  put-served (Err n) new put lowered full ends (inr (inr is)) =
      subst (λ (e : Refusal). HalfServed seen_by leaves None (event_of t r edit) (refused e) c new) (sym is) (memory-half new lowered)
