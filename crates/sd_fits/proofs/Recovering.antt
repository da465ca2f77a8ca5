-- A recovery begins, goes on and ends: how the complex goes on fitting. For the calls that recover an instance.
use Rattle.std.proofs.Common.{◌≡◌, ◌≢◌, inr, ⊎_elim, ℕ, ◌≤◌, Bool, true, false, cond, eqb, max, slice_set, refl, sym, ap, ◌∙◌, subst, arith, eq-eqb, ne_eqb}
use Rattle.std.specs.Prelude.{Option, None, IsSome}
use Rattle.std.proofs.lemmas.Bool.{cases_eq}
use Rattle.std.proofs.lemmas.List.{get_or-set_other, get_or-set_same, length-set}
use Rattle.sd_base.specs.Waits.{Wait, with_wait}
use Rattle.sd_base.specs.declared.ids.TxnId.{TxnId}
use Rattle.sd_base.specs.declared.place.Status.{Status}
use Rattle.sd_base.specs.declared.place.Status.TheVariants as S
use Rattle.sd_base.specs.declared.refusal.Refusal.TheVariants as R
use Rattle.sd_rig.specs.Devices.{DeviceImages}
use Rattle.sd_log.specs.Logs.{LogState}
use Rattle.sd_reclock.specs.Locks.{waits}
use Rattle.sd_txn.specs.Owing.{owed_of}
use Rattle.sd_txn.specs.Transactions.{Transactions, span_at}
use Rattle.sd_chain.specs.Records.{IsOpen, home}
use Rattle.sd_model.specs.Applies.{Clear, First, HasPut}
use Rattle.sd_model.specs.Fields.{nobody}
use Rattle.sd_model.specs.Listed.{IsAtWork}
use Rattle.sd_model.specs.Lives.{SuitsStatus}
use Rattle.sd_model.specs.Scenes.{is_running, of_running}
use Rattle.sd_model.specs.State.{Part, State, fall, lost, lost_part}
use Rattle.sd_model.specs.declared.act.Life.{Life}
use Rattle.sd_model.specs.declared.cause.Cause.{Cause}
use Rattle.sd_model.specs.declared.event.Event.TheVariants.{RecoverBegin, RecoverStep}
use Rattle.sd_model.specs.declared.event.Reply.TheVariants as reply
use Rattle.sd_chain.specs.Logs.{Outcomes, all_at}
use Rattle.sd_world.specs.Answers.{Steps, Undoes}
use Rattle.sd_world.specs.Answers.Fails.{falls}
use Rattle.sd_world.specs.Answers.Rebuilds.{undoes}
use Rattle.sd_world.specs.Bounds.{Bounds, bounds_after}
use Rattle.sd_world.specs.Pages.{Pages, renumbered}
use Rattle.sd_world.specs.Serving.{Core, Turns}
use Rattle.sd_state.specs.Good.{Good}
use Rattle.sd_state.specs.Parts.{Parts, is_loose, log_at, no_txns, owed_at, status_at, txns_at}
use Rattle.sd_state.specs.Recovering.{recovers, with_recovering}
use Rattle.sd_state.specs.Sums.{great_of, owed_in_all, owes_most}
use Rattle.sd_state.specs.Tables.{tells_log}
use Rattle.sd_state.specs.Values.{Pending}
use Rattle.sd_state.proofs.Items.{item-kept}
use Rattle.sd_moves.specs.Falling.{IsFallen, with_fallen}
use Rattle.sd_moves.proofs.FallBounds.{fallen-log, sum-less}
use Rattle.sd_fits.specs.Fits.{Fits, FitsBounds, FitsDoubts, FitsPages}
use Rattle.sd_fits.proofs.Falling.{fallen-bounds, fallen-doubts, fallen-pages, fell_core, fell_waits, numbers_of}
use Rattle.sd_fits.proofs.Forcing.{no-more}
use Rattle.sd_fits.proofs.Served.{bounds-stay, none-ended}

-- ---- it begins

-- the world then
abbrev pub begun_core : ℕ → ℕ → Core → Core
begun_core i by w = record {
  scene = record { state = recovers i by w.scene.state; waits = w.scene.waits };
  pages = w.pages;
  bounds = bounds_after w.bounds (RecoverBegin i by) reply.Did;
}

module _ (i by : ℕ) (seen : DeviceImages) (leaves : Outcomes) (c : Parts) (w : Core) (f : Fits seen leaves c w) (low : 1 ≤ i) (high : i ≤ 8)
    (good : Good seen leaves Pending.Idle (with_recovering i by c) (recovers i by w.scene.state)) where
  abbrev begun : Parts
  begun = with_recovering i by c

  loose-here : is_loose begun i ≡ true
  loose-here = get_or-set_same (slice_set c.loose 0 true) i true true
      (let nine = f.good.shape.loose in let same = length-set c.loose 0 true in omega (arith, nine, same, high))

  loose-else : (j : ℕ) → 1 ≤ j → j ≢ i → is_loose begun j ≡ is_loose c j
  loose-else j lo ne = get_or-set_other (slice_set c.loose 0 true) i j true true ne
      ∙ get_or-set_other c.loose 0 j true true (omega (arith, lo))

  status-else : (j : ℕ) → j ≢ i → status_at begun j ≡ status_at c j
  status-else j ne = item-kept S.Closed c.statuses i (S.Recovering by) low j ne

  -- an unsettled log owes no more than it owed, told by its table or not
  at-least : (loose tells : Bool) (was told : ℕ) → was ≤ cond loose was (cond tells (max was told) was)
  at-least true tells was told = omega arith
  at-least false true was told = omega arith
  at-least false false was told = omega arith

  owes : (j : ℕ) → 1 ≤ j → j ≤ 8 → owes_most begun j ≤ owes_most c j
  owes j lo hi = ⊎_elim
      (λ e. subst (λ (k : ℕ). owes_most begun k ≤ owes_most c k) (sym e)
      (subst (λ (b : Bool). cond b (owed_at c i) (cond (tells_log (status_at begun i)) (max (owed_at c i) (owed_of (txns_at c i))) (owed_at c i))
      ≤ owes_most c i) (sym loose-here)
      (at-least (is_loose c i) (tells_log (status_at c i)) (owed_at c i) (owed_of (txns_at c i)))))
      (λ ne. subst (λ (b : Bool). cond b (owed_at c j) (cond (tells_log (status_at begun j)) (max (owed_at c j) (owed_of (txns_at c j))) (owed_at c j))
      ≤ owes_most c j) (sym (loose-else j lo ne))
      (subst (λ (s : Status). cond (is_loose c j) (owed_at c j) (cond (tells_log s) (max (owed_at c j) (owed_of (txns_at c j))) (owed_at c j))
      ≤ owes_most c j) (sym (status-else j ne)) (omega arith)))
      (cases_eq j i)

  begun-bounds : (b : Bounds) → FitsBounds seen leaves c b → FitsBounds seen leaves begun b
  begun-bounds b f = record {
    slots = f.slots;
    least = f.least;
    reach = f.reach;
    lsns = no-more (great_of c) (owed_in_all begun) (owed_in_all c) b.lsns (sum-less (owes_most begun) (owes_most c) 8 owes) f.lsns;
    masters = f.masters;
    left_masters = f.left_masters;
  }

  pub begun-fits : Fits seen leaves begun (begun_core i by w)
  begun-fits = record {
    good = good;
    idle = f.idle;
    rolling = f.rolling;
    waits = f.waits;
    waiting = f.waiting;
    put = f.put;
    pages = record {
      frames = f.pages.frames;
      entry = f.pages.entry;
      asks = f.pages.asks;
      number = f.pages.number;
      begun = f.pages.begun;
    };
    bounds = begun-bounds (bounds_after w.bounds (RecoverBegin i by) reply.Did)
        (bounds-stay seen c w.bounds (RecoverBegin i by) reply.Did tt f.bounds);
    doubts = f.doubts;
  }

-- ---- it goes on

-- the sums after a step of the recovery of i
abbrev pub step_sums : ℕ → Core → Bounds
step_sums i w = bounds_after w.bounds (RecoverStep i) reply.Step

-- the world after one that leaves these pages
abbrev pub step_core : ℕ → Pages → Core → Core
step_core i pages w = record { scene = w.scene; pages = pages; bounds = step_sums i w }

-- Of instances other than i, the logs have nobody's end more, and tables and waits are as they were.
pub record IsAside (i : ℕ) (old mid : Parts) : Type 0 where
  pub opens : (t : TxnId) → home t ≢ i → IsOpen t (all_at (log_at old (home t))) → IsOpen t (all_at (log_at mid (home t)))
  pub spans : (t : TxnId) → home t ≢ i → span_at (txns_at mid (home t)) t ≡ span_at (txns_at old (home t)) t
  pub waits : (t : TxnId) → waits mid.locks t ≡ waits old.locks t

-- who is of an instance that is recovered neither runs nor rolls back
resting : (life : Life) (by : ℕ) → SuitsStatus life (S.Recovering by)
    → (is_running life ≡ false) × ((life ≡ Life.Rolling None) → ⊥) × (IsAtWork life → ⊥)
resting Life.Gone by s = (refl, λ e. cc, λ w. w)
resting Life.Running by s = absurd s
resting Life.Retained by s = (refl, λ e. cc, λ w. w)
resting (Life.Rolling to) by s = absurd s
resting (Life.Doubt cut) by s = (refl, λ e. cc, λ w. w)

-- who fell neither runs nor rolls back
fell-rests : (life : Life) → (is_running (lost life) ≡ false) × ((lost life ≡ Life.Rolling None) → ⊥) × (IsAtWork (lost life) → ⊥)
fell-rests Life.Gone = (refl, λ e. cc, λ w. w)
fell-rests Life.Running = (refl, λ e. cc, λ w. w)
fell-rests Life.Retained = (refl, λ e. cc, λ w. w)
fell-rests (Life.Rolling to) = (refl, λ e. cc, λ w. w)
fell-rests (Life.Doubt cut) = (refl, λ e. cc, λ w. w)

module _ (i by : ℕ) (seen : DeviceImages) (leaves : Outcomes) (c : Parts) (w : Core) (f : Fits seen leaves c w) (low : 1 ≤ i) (high : i ≤ 8)
    (recovers : status_at c i ≡ S.Recovering by) where
  abbrev m : State
  m = w.scene.state

  pub recovers-at : (m.inst i).status ≡ S.Recovering by
  recovers-at = sym (f.good.instances i low high).status ∙ recovers

  pub step-clear : Clear m (RecoverStep i)
  step-clear = (f.good.not_closed, (λ never. never (by, recovers-at), (tt, (tt, tt))))

  pub rests : (t : TxnId) → home t ≡ i
      → (is_running (m.part t).life ≡ false) × (((m.part t).life ≡ Life.Rolling None) → ⊥) × (IsAtWork (m.part t).life → ⊥)
  rests t own = resting (m.part t).life by (subst (λ (s : Status). SuitsStatus (m.part t).life s)
      (ap (λ (j : ℕ). (m.inst j).status) own ∙ recovers-at) (f.good.placed.stands t))

  -- a step that leaves the state turns the world so
  pub step-turns : (pages : Pages) → Steps m i w.pages pages → Turns w (RecoverStep i) reply.Step (step_core i pages w)
  step-turns pages steps = record {
    wanted = None;
    near = tt;
    plays = record { step = (step-clear, refl); waits = λ t. sym (none-ended seen leaves c w f t) };
    exact = tt;
    unused = tt;
    moves = ((tt, (tt, (tt, (tt, tt)))), steps);
    within = tt;
    sums = refl;
  }

  -- which may number pages anew, and nothing else
  pub numbers-step : (number : ℕ → ℕ) → Steps m i w.pages (renumbered number w.pages)
  numbers-step number = (w.pages, number, undoes (Undoes.none refl), refl)

  -- what of the complex isn't of i is as it was: it fits on with these pages and sums
  pub aside-fits : (seen' : DeviceImages) (leaves' : Outcomes) (mid : Parts) (pages : Pages) (sums : Bounds) → IsAside i c mid → mid.due ≡ None
      → Good seen' leaves' Pending.Idle mid m → FitsPages seen' leaves' mid pages → FitsBounds seen' leaves' mid sums
      → FitsDoubts seen' mid m → Fits seen' leaves' mid (record { scene = w.scene; pages = pages; bounds = sums })
  aside-fits seen' leaves' mid pages sums a idle good fit bounds doubts = record {
    good = good;
    idle = idle;
    rolling = λ t rolls. ⊎_elim (λ own. absurd ((rests t own).1 rolls)) (λ ne. a.opens t ne (f.rolling t rolls)) (cases_eq (home t) i);
    waits = λ t. a.waits t ∙ f.waits t;
    waiting = f.waiting;
    put = λ t works some. ⊎_elim (λ own. absurd ((rests t own).2 works)) (λ ne. f.put t works (subst IsSome (a.spans t ne) some))
        (cases_eq (home t) i);
    pages = fit;
    bounds = bounds;
    doubts = doubts;
  }

  -- ---- a device fails, and the recoverer falls

  module _ (seen' : DeviceImages) (leaves' : Outcomes) (mid new : Parts) (between : Pages) (by_low : 1 ≤ by) (by_high : by ≤ 8) (a : IsAside i c mid)
      (good : Good seen' leaves' Pending.Idle mid m) (is : new ≡ with_fallen by new mid) (fallen : IsFallen by mid new) where
    abbrev number : ℕ → ℕ
    number = numbers_of seen' leaves' new

    -- the world then
    abbrev pub broken : Core
    broken = fell_core by m number (step_sums i w) (record { scene = w.scene; pages = between; bounds = w.bounds })

    part-else : (t : TxnId) → home t ≢ by → (fall by m).part t ≡ m.part t
    part-else t ne = ap (λ (b : Bool). cond b (lost_part (m.part t)) (m.part t)) (ne_eqb by (home t) (λ e. ne (sym e)))

    life-own : (t : TxnId) → home t ≡ by → ((fall by m).part t).life ≡ lost (m.part t).life
    life-own t own = ap (λ (b : Bool). (cond b (lost_part (m.part t)) (m.part t)).life) (eq-eqb by (home t) (sym own))

    log-else : (j : ℕ) → j ≢ by → log_at new j ≡ log_at mid j
    log-else j ne = ⊎_elim (λ e. e) (λ d. absurd (ne d.0)) (fallen-log by seen' leaves' Pending.Idle mid new m by_low by_high good is fallen j)

    txns-else : (j : ℕ) → j ≢ by → txns_at new j ≡ txns_at mid j
    txns-else j ne = ap (λ (k : Parts). txns_at k j) is ∙ item-kept no_txns mid.txns by (txns_at new by) by_low j ne

    fell-rolling : (t : TxnId) → ((fall by m).part t).life ≡ Life.Rolling None → IsOpen t (all_at (log_at new (home t)))
    fell-rolling t rolls = ⊎_elim
        (λ own. absurd ((fell-rests (m.part t).life).1 (sym (life-own t own) ∙ rolls)))
        (λ ne. let was = sym (ap (λ (p : Part). p.life) (part-else t ne)) ∙ rolls in ⊎_elim
        (λ recovered. absurd ((rests t recovered).1 was))
        (λ off. subst (λ (l : LogState). IsOpen t (all_at l)) (sym (log-else (home t) ne)) (a.opens t off (f.rolling t was)))
        (cases_eq (home t) i))
        (cases_eq (home t) by)

    fell-put : (t : TxnId) → IsAtWork ((fall by m).part t).life → IsSome (span_at (txns_at new (home t)) t)
        → HasPut ((fall by m).part t).acts
    fell-put t works some = ⊎_elim
        (λ own. absurd ((fell-rests (m.part t).life).2 (subst IsAtWork (life-own t own) works)))
        (λ ne. let was = subst (λ (p : Part). IsAtWork p.life) (part-else t ne) works in ⊎_elim
        (λ recovered. absurd ((rests t recovered).2 was))
        (λ off. subst (λ (p : Part). HasPut p.acts) (sym (part-else t ne)) (f.put t was (subst IsSome (a.spans t off)
        (subst (λ (table : Transactions). IsSome (span_at table t)) (txns-else (home t) ne) some))))
        (cases_eq (home t) i))
        (cases_eq (home t) by)

    fell-waiting : (t : TxnId) → is_running ((fall by m).part t).life ≡ false → fell_waits by w.scene.waits t ≡ None
    fell-waiting t off = ⊎_elim
        (λ own. ap (λ (b : Bool). cond {A = Option Wait} b None (w.scene.waits t)) (eq-eqb (home t) by own))
        (λ ne. ap (λ (b : Bool). cond {A = Option Wait} b None (w.scene.waits t)) (ne_eqb (home t) by ne)
        ∙ f.waiting t (sym (ap (λ (p : Part). is_running p.life) (part-else t ne)) ∙ off))
        (cases_eq (home t) by)

    pub broken-fits : FitsPages seen' leaves' mid between → FitsBounds seen' leaves' mid (step_sums i w) → FitsDoubts seen' mid m
        → Good seen' leaves' Pending.Idle new (fall by m) → Fits seen' leaves' new broken
    broken-fits pages bounds doubts then = record {
      good = then;
      idle = ap (λ (k : Parts). k.due) is;
      rolling = fell-rolling;
      waits = λ t. fallen.waits t
          ∙ ap (λ (x : Option Wait). cond {A = Option Wait} (eqb (home t) by) None x) (a.waits t ∙ f.waits t);
      waiting = fell-waiting;
      put = fell-put;
      pages = fallen-pages by seen' leaves' Pending.Idle mid new m by_low by_high good is fallen between pages;
      bounds = fallen-bounds by seen' leaves' Pending.Idle mid new m by_low by_high good is fallen (step_sums i w) bounds;
      doubts = fallen-doubts by seen' leaves' Pending.Idle mid new m by_low by_high good is fallen m doubts;
    }

    fell-waits : (t : TxnId) → fell_waits by w.scene.waits t ≡ of_running (fall by m) (with_wait nobody None w.scene.waits) t
    fell-waits t = ⊎_elim
        (λ own. ap (λ (b : Bool). cond {A = Option Wait} b None (w.scene.waits t)) (eq-eqb (home t) by own)
        ∙ sym (ap (λ (b : Bool). cond {A = Option Wait} b (with_wait nobody None w.scene.waits t) None)
        (ap is_running (life-own t own) ∙ (fell-rests (m.part t).life).0)))
        (λ ne. ap (λ (b : Bool). cond {A = Option Wait} b None (w.scene.waits t)) (ne_eqb (home t) by ne)
        ∙ sym (ap (λ (p : Part). cond {A = Option Wait} (is_running p.life) (with_wait nobody None w.scene.waits t) None) (part-else t ne)
        ∙ none-ended seen leaves c w f t))
        (cases_eq (home t) by)

    broken-first : First m (RecoverStep i) Cause.Rig
    broken-first = (refl, (f.good.not_closed, (λ never. never (by, recovers-at), (tt, tt))), tt)

    -- the step is refused as `Failed`; it may have taken a change back
    pub broken-turns : Undoes m i w.pages between → Turns w (RecoverStep i) (reply.Refused R.Failed) broken
    broken-turns did = record {
      wanted = None;
      near = tt;
      plays = record {
        step = (Cause.Rig, refl, tt, broken-first, inr (by, recovers-at, refl));
        waits = fell-waits;
      };
      exact = tt;
      unused = tt;
      moves = record {
        cause = Cause.Rig;
        names = refl;
        first = broken-first;
        passes = (tt, (tt, (tt, tt)));
        says = λ never. absurd (cc);
        place = tt;
        leaves = falls by between number recovers-at refl did refl;
      };
      within = tt;
      sums = refl;
    }
