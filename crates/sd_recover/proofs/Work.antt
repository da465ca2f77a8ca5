-- What is left of a recovery while others do as they please, and rounds of a loop of steps and pulls: for the crates above.
use Rattle.std.proofs.Common.{◌≡◌, ◌⊎◌, ⊎_elim, ℕ, ◌+◌, ◌*◌, ◌<◌, ◌≤◌, Bool, true, false, not, cond, refl, sym, ap, ◌∙◌, subst, arith}
use Rattle.std.specs.Prelude.{Option, None, Some, option_and_then}
use Rattle.sd_base.specs.declared.ids.TxnId.{TxnId}
use Rattle.sd_base.specs.declared.place.Status.{Status}
use Rattle.sd_base.specs.declared.place.Status.TheVariants as S
use Rattle.sd_rig.specs.Devices.{DeviceImages}
use Rattle.sd_pagelock.specs.Directory.{entry_at}
use Rattle.sd_pagelock.specs.Places.{PageEntry, owns}
use Rattle.sd_txn.specs.Transactions.{Transactions, top_at}
use Rattle.sd_txn.specs.declared.state.OpenRec.{OpenRec}
use Rattle.sd_chain.specs.Bytes.{log_of}
use Rattle.sd_state.specs.Parts.{Parts, is_loose, status_at, txns_at}
use Rattle.sd_fits.specs.Resting.{LeavesRest, active_count, one_if}
use Rattle.sd_fits.proofs.Resting.{active-same, count-less, count-most, most-one}
use Rattle.sd_recover.specs.Recovering.{AwaitsPage}
use Rattle.sd_recover.specs.Tasks.{IsNext, last_open, tasks_in}
use Rattle.sd_recover.specs.Work.{has_next, has_page, is_lost_at, recoverer_as, rounds_left, steps_left, tasks_again, tasks_left, where_recovered, work_left}
use Rattle.sd_recover.specs.declared.tasks.Task.TheVariants as task

-- ---- who recovers

pub recovered-as : (s : Status) (by : ℕ) → recoverer_as s ≡ Some by → s ≡ S.Recovering by
recovered-as S.Up by e = absurd (cc)
recovered-as S.Down by e = absurd (cc)
recovered-as (S.Recovering a) by e = cc
recovered-as S.Clean by e = absurd (cc)
recovered-as S.Restarting by e = absurd (cc)
recovered-as S.Closed by e = absurd (cc)

-- what is left of a recovery that runs
pub work-is : (seen : DeviceImages) (c : Parts) (i by : ℕ) → status_at c i ≡ S.Recovering by
    → work_left seen c i ≡ 2048 * active_count c + steps_left seen c i
work-is seen c i by recovers = ap (λ (s : Status). where_recovered (recoverer_as s) (2048 * active_count c + steps_left seen c i)) recovers

-- and of one that doesn't
pub work-none : (seen : DeviceImages) (c : Parts) (i : ℕ) → recoverer_as (status_at c i) ≡ None → work_left seen c i ≡ 0
work-none seen c i none = ap (λ (o : Option ℕ). where_recovered o (2048 * active_count c + steps_left seen c i)) none

-- ---- others leave the rest

module _ (seen seen' : DeviceImages) (old new : Parts) (i : ℕ) (rest : LeavesRest old new) (settled : is_loose old i ≡ false) where
  module _ (by : ℕ) (is : status_at new i ≡ S.Recovering by) where
    kept : (status_at old i ≡ S.Recovering by) × (txns_at new i ≡ txns_at old i) × (is_loose new i ≡ is_loose old i)
    kept = rest.recovered i by is

    tasks-kept : tasks_left seen' new i ≡ tasks_left seen old i
    tasks-kept =
        ap (λ (b : Bool). cond b (tasks_again (log_of seen' i) (txns_at new i)) (tasks_in (txns_at new i))) (kept.2 ∙ settled)
        ∙ ap tasks_in kept.1
        ∙ sym (ap (λ (b : Bool). cond b (tasks_again (log_of seen i) (txns_at old i)) (tasks_in (txns_at old i))) settled)

    -- somebody fell
    lower-by : active_count new < active_count old → work_left seen' new i < work_left seen old i
    lower-by fell =
        let was = work-is seen old i by kept.0 in
        let now = work-is seen' new i by is in
        let rows = tasks-kept in
        let marks = count-most (is_loose new) 9 in
        let pages = count-most (is_lost_at new) 1024 in
        omega (arith, fell, was, now, rows, marks, pages)

    -- or nobody did
    at-most : ((j : ℕ) → status_at new j ≡ status_at old j) → ((d : ℕ) → is_loose new d ≡ true → is_loose old d ≡ true)
        → ((p : ℕ) → is_lost_at new p ≡ true → is_lost_at old p ≡ true) → work_left seen' new i ≤ work_left seen old i
    at-most same loose lost =
        let was = work-is seen old i by kept.0 in
        let now = work-is seen' new i by is in
        let rows = tasks-kept in
        let active = active-same old new same in
        let marks = count-less (is_loose old) (is_loose new) 9 loose in
        let pages = count-less (is_lost_at old) (is_lost_at new) 1024 lost in
        omega (arith, active, was, now, rows, marks, pages)

    work-recovered : work_left seen' new i ≤ work_left seen old i
    work-recovered = ⊎_elim
        (λ fell. let less = lower-by fell in omega (arith, less))
        (λ same. at-most same.0 same.1 same.2)
        rest.others

  -- what is left doesn't grow, where the recovered log is settled
  pub rests-work : work_left seen' new i ≤ work_left seen old i
  rests-work = by (recoverer_as (status_at new i)) refl
    where
      by : (o : Option ℕ) → recoverer_as (status_at new i) ≡ o → work_left seen' new i ≤ work_left seen old i
      by None is = let none = work-none seen' new i is in omega (arith, none)
      by (Some k) is = work-recovered k (recovered-as (status_at new i) k is)

  -- it falls where somebody fell, who may have been the recoverer
  pub fell-work : (by : ℕ) → status_at old i ≡ S.Recovering by → active_count new < active_count old
      → work_left seen' new i < work_left seen old i
  fell-work by was fell = go (recoverer_as (status_at new i)) refl
    where
      go : (o : Option ℕ) → recoverer_as (status_at new i) ≡ o → work_left seen' new i < work_left seen old i
      go None is =
          let none = work-none seen' new i is in
          let before = work-is seen old i by was in
          omega (arith, none, before, fell)
      go (Some k) is = lower-by k (recovered-as (status_at new i) k is) fell

-- ---- rounds

-- A round in which a pull answered: the page of the next step is there now, or the work is less.
pub pull-nearer : (seen seen' : DeviceImages) (old new : Parts) (i : ℕ) → work_left seen' new i ≤ work_left seen old i
    → has_next old i ≡ false → (has_next new i ≡ true) ⊎ (work_left seen' new i < work_left seen old i)
    → rounds_left seen' new i < rounds_left seen old i
pull-nearer seen seen' old new i le none came =
    let before = ap (λ (b : Bool). one_if (not b)) none in
    let most = most-one (not (has_next new i)) in
    ⊎_elim (λ on. let behind = ap (λ (b : Bool). one_if (not b)) on in omega (arith, le, before, behind))
    (λ less. omega (arith, less, before, most)) came

-- A round in which a step was done.
pub step-nearer : (seen seen' : DeviceImages) (old new : Parts) (i by : ℕ) → status_at old i ≡ S.Recovering by
    → ((j : ℕ) → status_at new j ≡ status_at old j) → steps_left seen' new i < steps_left seen old i
    → rounds_left seen' new i < rounds_left seen old i
step-nearer seen seen' old new i by recovers same less =
    let was = work-is seen old i by recovers in
    let now = work-is seen' new i by (same i ∙ recovers) in
    let active = active-same old new same in
    let most = most-one (not (has_next new i)) in
    omega (arith, less, active, most, was, now)

-- ---- the page of the next undo

next-has : (c : Parts) (i by : ℕ) (t : TxnId) (o : OpenRec) → status_at c i ≡ S.Recovering by → last_open (txns_at c i) ≡ Some t
    → top_at (txns_at c i) t ≡ Some o → has_next c i ≡ owns (entry_at c.directory o.rid.page) by
next-has c i by t o recovers last top =
    ap (λ (s : Status). has_page c (recoverer_as s) (option_and_then (top_at (txns_at c i)) (last_open (txns_at c i)))) recovers
    ∙ ap (λ (l : Option TxnId). has_page c (Some by) (option_and_then (top_at (txns_at c i)) l)) last
    ∙ ap (λ (q : Option OpenRec). has_page c (Some by) q) top

-- a step that waits for its page hasn't it,
pub awaits-none : (c : Parts) (i : ℕ) (e : PageEntry) → AwaitsPage c i e → has_next c i ≡ false
awaits-none c i e (t, p, by, next, recovers, is, away) =
    next-has c i by t next.1.2.0 recovers next.1.1 next.1.2.1
    ∙ subst (λ (q : ℕ). owns (entry_at c.directory q) by ≡ false) next.1.2.2 away

-- until it came: the rows are the same, and the recoverer has the page alone
pub page-came : (c new : Parts) (i by p : ℕ) (t : TxnId) → IsNext c i (task.Undo t p) → status_at new i ≡ S.Recovering by
    → txns_at new i ≡ txns_at c i → owns (entry_at new.directory p) by ≡ true → has_next new i ≡ true
page-came c new i by p t next recovers rows has =
    next-has new i by t next.1.2.0 recovers (ap last_open rows ∙ next.1.1) (ap (λ (b : Transactions). top_at b t) rows ∙ next.1.2.1)
    ∙ subst (λ (q : ℕ). owns (entry_at new.directory q) by ≡ true) next.1.2.2 has
