-- What the end of a recovery makes of the world: for the goals of `finish`.
use Rattle.std.proofs.Common.{◌≡◌, ◌≢◌, ⊎_elim, ℕ, ◌≤◌, Bool, true, false, cond, max, refl, sym, ap, ◌∙◌, subst, arith}
use Rattle.std.specs.Prelude.{Option, None, Some, IsSome, is_some}
use Rattle.std.specs.List.{IsDistinct}
use Rattle.std.proofs.lemmas.Bool.{cases_eq}
use Rattle.sd_base.specs.Ids.{same_txn}
use Rattle.sd_base.specs.Waits.{Wait, with_wait}
use Rattle.sd_base.specs.declared.ids.Rid.{Rid}
use Rattle.sd_base.specs.declared.ids.TxnId.{TxnId}
use Rattle.sd_base.specs.declared.place.Status.TheVariants as S
use Rattle.sd_log.specs.Logs.{forced}
use Rattle.sd_reclock.specs.Locks.{held, waits}
use Rattle.sd_rig.specs.Devices.{DeviceImages}
use Rattle.sd_txn.specs.Owing.{owed_of}
use Rattle.sd_txn.specs.Transactions.{Transaction, Transactions, ids, span_at, txn_at}
use Rattle.sd_chain.specs.Records.{home}
use Rattle.sd_model.specs.Acts.{live}
use Rattle.sd_model.specs.Applies.{HasPut}
use Rattle.sd_model.specs.Fields.{nobody}
use Rattle.sd_model.specs.Listed.{IsAtWork}
use Rattle.sd_model.specs.Scenes.{is_running, of_running}
use Rattle.sd_model.specs.State.{Part, State, gone}
use Rattle.sd_model.specs.declared.act.Life.{Life}
use Rattle.sd_model.specs.declared.event.Event.TheVariants.{RecoverStep}
use Rattle.sd_model.specs.declared.event.Reply.TheVariants as reply
use Rattle.sd_chain.specs.Logs.{Outcomes}
use Rattle.sd_world.specs.Answers.{NoneLost}
use Rattle.sd_world.specs.Bounds.{Bounds, bounds_after}
use Rattle.sd_world.specs.Serving.{Core, Telling, Turns}
use Rattle.sd_pagelock.specs.Places.{is_lost}
use Rattle.sd_state.specs.Complexes.{parts}
use Rattle.sd_state.specs.Forcing.{with_forced}
use Rattle.sd_state.specs.Good.{Good}
use Rattle.sd_state.specs.Parts.{Parts, is_loose, log_at, owed_at, status_at, txns_at}
use Rattle.sd_state.specs.Recovering.{MayEnd, recovered_from, with_recovered}
use Rattle.sd_state.specs.Sums.{great_of, owed_in_all, owes_most}
use Rattle.sd_state.specs.Tables.{tells_log}
use Rattle.sd_state.specs.Values.{Pending, is_doubt}
use Rattle.sd_state.specs.declared.complex.Complex.{Complex}
use Rattle.sd_update.proofs.Finishing as ended
use Rattle.sd_moves.proofs.FallBounds.{sum-less}
use Rattle.sd_fits.specs.Fits.{Fits, FitsBounds}
use Rattle.sd_fits.specs.Serving.{Serving, fits_by}
use Rattle.sd_fits.proofs.Doubts.{DoubtsStay, doubts-kept}
use Rattle.sd_fits.proofs.Forcing.{no-more}
use Rattle.sd_fits.proofs.Recovering.{rests}
use Rattle.sd_fits.proofs.Served.{bounds-stay, none-ended}
use Rattle.sd_recover.specs.Tasks.{AreThere}
use Rattle.sd_recover.proofs.Steps.{then-serves}

-- a table without rows owes nothing
owes-none : (loose tells tells' : Bool) (was told none : ℕ) → none ≡ 0
    → cond loose was (cond tells' (max was none) was) ≤ cond loose was (cond tells (max was told) was)
owes-none true tells tells' was told none e = omega arith
owes-none false true true was told none e = omega (arith, e)
owes-none false true false was told none e = omega arith
owes-none false false true was told none e = omega (arith, e)
owes-none false false false was told none e = omega arith

module _ (i by : ℕ) (seen : DeviceImages) (leaves : Outcomes) (c : Parts) (w : Core) (f : Fits seen leaves c w) (low : 1 ≤ i) (high : i ≤ 8)
    (recovers : status_at c i ≡ S.Recovering by) (there : AreThere c) (may : MayEnd i c)
    (once : IsDistinct same_txn (ids (txns_at c i))) (new : Parts) (is : new ≡ with_recovered i new.locks c)
    (freed : (t : TxnId) (r : Rid) → held new.locks t r ≡ cond (is_some (txn_at (txns_at c i) t)) None (held c.locks t r))
    (unwaited : (t : TxnId) → waits new.locks t ≡ cond (is_some (txn_at (txns_at c i) t)) None (waits c.locks t))
    (good : Good seen leaves Pending.Idle new (recovered_from i (txns_at c i) w.scene.state)) where
  abbrev m : State
  m = w.scene.state

  abbrev table : Transactions
  table = txns_at c i

  abbrev m' : State
  m' = recovered_from i table m

  abbrev made : Parts
  made = with_recovered i new.locks c

  here : (t : TxnId) → home t ≡ i → m'.part t ≡ gone
  here = ended.part-here i new.locks seen leaves c m low high f.good may once freed

  else : (t : TxnId) → home t ≢ i → m'.part t ≡ m.part t
  else = ended.part-else i new.locks seen leaves c m low high f.good may once freed

  table-else : (k : ℕ) → k ≢ i → txns_at made k ≡ txns_at c k
  table-else = ended.table-else i new.locks seen leaves c m low high f.good may once freed

  resting : (t : TxnId) → home t ≡ i → w.scene.waits t ≡ None
  resting t own = f.waiting t (rests i by seen leaves c w f low high recovers t own).0

  waits-is : (t : TxnId) → waits new.locks t ≡ w.scene.waits t
  waits-is t = unwaited t ∙ for-row (txn_at table t) refl
    where
      for-row : (o : Option Transaction) → txn_at table t ≡ o → cond {A = Option Wait} (is_some o) None (waits c.locks t) ≡ w.scene.waits t
      for-row None e = f.waits t
      for-row (Some x) e = sym (resting t (may.rows t x e).own)

  -- ---- the world

  abbrev pub swept_core : Core
  swept_core = record {
    scene = record { state = m'; waits = w.scene.waits };
    pages = w.pages;
    bounds = bounds_after w.bounds (RecoverStep i) reply.Finished;
  }

  running : (t : TxnId) → w.scene.waits t ≡ of_running m' (with_wait nobody None w.scene.waits) t
  running t = ⊎_elim
      (λ own. resting t own
      ∙ sym (ap (λ (p : Part). cond {A = Option Wait} (is_running p.life) (with_wait nobody None w.scene.waits t) None) (here t own)))
      (λ ne. sym (ap (λ (p : Part). cond {A = Option Wait} (is_running p.life) (with_wait nobody None w.scene.waits t) None) (else t ne)
      ∙ none-ended seen leaves c w f t))
      (cases_eq (home t) i)

  none-lost : NoneLost w.pages
  none-lost p = ap is_lost (f.pages.entry p) ∙ there.1 p

  pub swept-turns : Turns w (RecoverStep i) reply.Finished swept_core
  swept-turns = record {
    wanted = None;
    near = tt;
    plays = record {
      step = ended.step i new.locks seen leaves c m low high f.good may once freed;
      waits = running;
    };
    exact = tt;
    unused = tt;
    moves = ((tt, (tt, (tt, (tt, tt)))), (none-lost, (w.pages.number, refl)));
    within = tt;
    sums = refl;
  }

  -- ---- the complex fits it

  owes : (j : ℕ) → 1 ≤ j → j ≤ 8 → owes_most made j ≤ owes_most c j
  owes j lo hi = ⊎_elim
      (λ e. subst (λ (k : ℕ). owes_most made k ≤ owes_most c k) (sym e)
      (owes-none (is_loose c i) (tells_log (status_at c i)) (tells_log (status_at made i)) (owed_at c i) (owed_of (txns_at c i))
      (owed_of (txns_at made i)) (ap owed_of (ended.table-here i new.locks seen leaves c m low high f.good may once freed))))
      (λ ne. let same = ap (λ (z : Transactions). cond (is_loose c j) (owed_at c j) (cond (tells_log (status_at made j)) (max (owed_at c j) (owed_of z))
      (owed_at c j))) (table-else j ne)
      ∙ ap (λ s. cond (is_loose c j) (owed_at c j) (cond (tells_log s) (max (owed_at c j) (owed_of (txns_at c j))) (owed_at c j)))
      (ended.status-else i new.locks seen leaves c m low high f.good may once freed j ne) in omega (arith, same))
      (cases_eq j i)

  swept-bounds : (b : Bounds) → FitsBounds seen leaves c b → FitsBounds seen leaves made b
  swept-bounds b f = record {
    slots = f.slots;
    least = f.least;
    reach = f.reach;
    lsns = no-more (great_of c) (owed_in_all made) (owed_in_all c) b.lsns (sum-less (owes_most made) (owes_most c) 8 owes) f.lsns;
    masters = f.masters;
    left_masters = f.left_masters;
  }

  stays : DoubtsStay m m'
  stays = record {
    before = λ u doubt. ⊎_elim
        (λ own. let clash = sym (ap (λ (p : Part). is_doubt p.life) (here u own)) ∙ doubt in absurd (cc))
        (λ ne. sym (ap (λ (p : Part). is_doubt p.life) (else u ne)) ∙ doubt)
        (cases_eq (home u) i);
    puts = λ u doubt. ⊎_elim
        (λ own. let clash = sym (ap (λ (p : Part). is_doubt p.life) (here u own)) ∙ doubt in absurd (cc))
        (λ ne. ap (λ (p : Part). live p.acts) (else u ne))
        (cases_eq (home u) i);
  }

  no-roll : Life.Gone ≡ Life.Rolling None → ⊥
  no-roll e = cc

  pub swept-fits : Fits seen leaves new swept_core
  swept-fits = subst (λ (p : Parts). Fits seen leaves p swept_core) (sym is) (record {
    good = subst (λ (p : Parts). Good seen leaves Pending.Idle p m') is good;
    idle = f.idle;
    rolling = λ u rolls. ⊎_elim
        (λ own. absurd (no-roll (sym (ap (λ (p : Part). p.life) (here u own)) ∙ rolls)))
        (λ ne. f.rolling u (sym (ap (λ (p : Part). p.life) (else u ne)) ∙ rolls))
        (cases_eq (home u) i);
    waits = waits-is;
    waiting = λ u off. ⊎_elim (λ own. resting u own)
        (λ ne. f.waiting u (sym (ap (λ (p : Part). is_running p.life) (else u ne)) ∙ off))
        (cases_eq (home u) i);
    put = λ u works some. ⊎_elim
        (λ own. absurd (subst (λ (p : Part). IsAtWork p.life) (here u own) works))
        (λ ne. subst (λ (p : Part). HasPut p.acts) (sym (else u ne)) (f.put u (subst (λ (p : Part). IsAtWork p.life) (else u ne) works)
        (subst (λ (z : Transactions). IsSome (span_at z u)) (table-else (home u) ne) some)))
        (cases_eq (home u) i);
    pages = record {
      frames = f.pages.frames;
      entry = f.pages.entry;
      asks = f.pages.asks;
      number = f.pages.number;
      begun = f.pages.begun;
    };
    bounds = swept-bounds (bounds_after w.bounds (RecoverStep i) reply.Finished)
        (bounds-stay seen c w.bounds (RecoverStep i) reply.Finished tt f.bounds);
    doubts = doubts-kept seen seen c made m m' f.doubts stays (λ keeps. keeps) (λ moved keeps j. refl) (λ moved keeps p. refl);
  })

-- ---- the whole

module _ {G : Type 0} (tell : Telling G) (i by : ℕ) (old mid : Complex G) (low : 1 ≤ i) (high : i ≤ 8)
    (recovers : status_at (parts old) i ≡ S.Recovering by) (there : AreThere (parts old)) (spared : Serving tell (RecoverStep i) None old mid)
    (is : parts mid ≡ with_forced i (forced (log_at (parts old) i)) (owed_at (parts mid) i) (parts old)) where
  pub recovers-then : status_at (parts mid) i ≡ S.Recovering by
  recovers-then = ap (λ (p : Parts). status_at p i) is ∙ recovers

  pub there-then : AreThere (parts mid)
  there-then = subst AreThere (sym is) there

  module _ (new : Complex G) (same : new.rig ≡ mid.rig) (may : (w : Core) → fits_by tell.seen tell.leaves mid w → MayEnd i (parts mid))
      (once : IsDistinct same_txn (ids (txns_at (parts mid) i)))
      (then : parts new ≡ with_recovered i (parts new).locks (parts mid))
      (freed : (t : TxnId) (r : Rid) → held (parts new).locks t r
      ≡ cond (is_some (txn_at (txns_at (parts mid) i) t)) None (held (parts mid).locks t r))
      (unwaited : (t : TxnId) → waits (parts new).locks t ≡ cond (is_some (txn_at (txns_at (parts mid) i) t)) None (waits (parts mid).locks t))
      (good : (m : State) → Good (tell.seen mid.rig) (tell.leaves mid.rig) Pending.Idle (parts mid) m
      → Good (tell.seen new.rig) (tell.leaves new.rig) Pending.Idle (parts new) (recovered_from i (txns_at (parts mid) i) m)) where
    good-there : (w : Core) → fits_by tell.seen tell.leaves mid w
        → Good (tell.seen mid.rig) (tell.leaves mid.rig) Pending.Idle (parts new) (recovered_from i (txns_at (parts mid) i) w.scene.state)
    good-there w f = subst (λ (d : G). Good (tell.seen d) (tell.leaves d) Pending.Idle (parts new)
        (recovered_from i (txns_at (parts mid) i) w.scene.state)) same (good w.scene.state f.good)

    turns : (w : Core) → fits_by tell.seen tell.leaves old w → fits_by tell.seen tell.leaves mid w
        → (w' : Core) × Turns w (RecoverStep i) reply.Finished w' × Fits (tell.seen mid.rig) (tell.leaves mid.rig) (parts new) w'
    turns w f g = (
      swept_core i by (tell.seen mid.rig) (tell.leaves mid.rig) (parts mid) w g low high recovers-then there-then (may w g) once (parts new) then freed
          unwaited (good-there w g),
      swept-turns i by (tell.seen mid.rig) (tell.leaves mid.rig) (parts mid) w g low high recovers-then there-then (may w g) once (parts new) then freed
          unwaited (good-there w g),
      swept-fits i by (tell.seen mid.rig) (tell.leaves mid.rig) (parts mid) w g low high recovers-then there-then (may w g) once (parts new) then freed
          unwaited (good-there w g),
    )

    pub finishes : Serving tell (RecoverStep i) (Some reply.Finished) old new
    finishes = (then-serves tell i by old low high recovers mid new reply.Finished spared same turns, ap tell.faults same ∙ spared.1)
