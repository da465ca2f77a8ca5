-- An instance falls: how what is left of the complex fits the world behind it. For the calls of events that fail, or whose device does.
use Rattle.std.proofs.Common.{◌≡◌, ◌≢◌, ◌⊎◌, inl, inr, ⊎_elim, ℕ, zero, suc, ◌+◌, ◌-◌, ◌≤◌, Bool, true, false, cond, List, eqb, append-nil, length, get_or, slice_set, refl, sym, ap, ap₂, ◌∙◌, subst, arith, eq-eqb, ne_eqb}
use Rattle.std.specs.Prelude.{Option, None, Some, IsSome, is_some}
use Rattle.std.specs.Option.{option_map_or}
use Rattle.std.proofs.lemmas.Bool.{cases_eq, cases_lt}
use Rattle.std.proofs.lemmas.List.{get_or-set_same, get_or_past, length-set}
use mathlib.Core.Path.{fun_ext}
use Rattle.sd_base.specs.Waits.{Wait, Waits}
use Rattle.sd_base.specs.declared.ids.TxnId.{TxnId}
use Rattle.sd_base.specs.declared.place.Status.{Status}
use Rattle.sd_base.specs.declared.place.Status.TheVariants as S
use Rattle.sd_model.specs.Acts.{live}
use Rattle.sd_model.specs.Applies.{HasPut}
use Rattle.sd_model.specs.Exact.{IsExact, IsOfFreeSlot}
use Rattle.sd_model.specs.Fields.{txn_of}
use Rattle.sd_model.specs.Listed.{IsAtWork}
use Rattle.sd_model.specs.Scenes.{asked_of, is_running, of_running, waits_after}
use Rattle.sd_model.specs.State.{Part, State, fall, lost, lost_part}
use Rattle.sd_model.specs.Step.{Step}
use Rattle.sd_model.specs.declared.act.Life.{Life}
use Rattle.sd_model.specs.declared.event.Event.{Event}
use Rattle.sd_model.specs.declared.event.Reply.{Reply}
use Rattle.sd_rig.specs.Devices as rig
use Rattle.sd_chain.specs.Bytes.{disk_page}
use Rattle.sd_chain.specs.Checks.{reserve}
use Rattle.sd_chain.specs.Images.{Keeps}
use Rattle.sd_chain.specs.Records.{IsOpen, home}
use Rattle.sd_log.specs.Logs.{LogState, begun_at, without_tail}
use Rattle.sd_logrec.specs.View.{Rec}
use Rattle.sd_pagelock.specs.Asks.{asks_without, open_asks}
use Rattle.sd_pagelock.specs.Places.{PageEntry}
use Rattle.sd_pagelock.specs.Rows.{fallen}
use Rattle.sd_page.specs.Page.{Page}
use Rattle.sd_pool.specs.Buffers.{Buffers}
use Rattle.sd_reclock.specs.Locks.{waits}
use Rattle.sd_txn.specs.Transactions.{Transactions, span_at}
use Rattle.sd_chain.specs.Logs.{Outcomes, all_at, base_at, kept_logs, tails_of}
use Rattle.sd_world.specs.Answers.{Moves}
use Rattle.sd_world.specs.Bounds.{Bounds, Within, bounds_after}
use Rattle.sd_world.specs.Pages.{Pages, fell}
use Rattle.sd_world.specs.Serving.{Core, Turns}
use Rattle.sd_state.specs.Good.{Good}
use Rattle.sd_state.specs.Images.{log_by}
use Rattle.sd_state.specs.Laws.{newest_of}
use Rattle.sd_state.specs.Parts.{Begun, Parts, check_at, count_at, log_at, no_log, no_pool, no_txns, other_at, pool_at, status_at, txns_at}
use Rattle.sd_state.specs.Values.{Pending, is_doubt}
use Rattle.sd_state.proofs.Items.{item-kept, item-set}
use Rattle.sd_state.proofs.Standing.{one-place}
use Rattle.sd_moves.specs.Falling.{IsFallen, emptied_pool, is_recovered_by, logs_by, owed_dropped, with_fallen}
use Rattle.sd_moves.proofs.FallBounds.{fallen-great, fallen-log, fallen-owes, fallen-versions, kept_by}
use Rattle.sd_moves.proofs.FallDropped.{kept-all}
use Rattle.sd_moves.proofs.FallFinal.{when-dropped}
use Rattle.sd_fits.specs.Fits.{AreAtLeast, AreWithin, Fits, FitsBounds, FitsDoubts, FitsPages, ReachesAtMost, capacities}
use Rattle.sd_fits.proofs.Doubts.{DoubtsStay, doubts-kept}

-- the pool of who fell has its frames and no page
pub pool-emptied : (i : ℕ) (c new : Parts) → pool_at (with_fallen i new c) i ≡ emptied_pool (pool_at c i)
pool-emptied zero c new = refl
pool-emptied (suc k) c new =
    let own : suc k - 1 ≡ k = omega arith in
    let x = emptied_pool (get_or c.pools k no_pool) in
    ap (λ (n : ℕ). get_or (slice_set c.pools n x) k no_pool) own ∙ ⊎_elim
    (λ lt. get_or-set_same c.pools k x no_pool lt)
    (λ ge. get_or_past (slice_set c.pools k x) k no_pool (let n = length-set c.pools k x in omega (arith, ge, n))
    ∙ sym (ap emptied_pool (get_or_past c.pools k no_pool ge)))
    (cases_lt k (length c.pools))

-- the waits once those of instance i are gone
abbrev pub fell_waits : ℕ → Waits → Waits
fell_waits i asks t = cond {A = Option Wait} (eqb t.inst i) None (asks t)

-- the world behind the fall of i, with these numbers of pages and these sums
abbrev pub fell_core : ℕ → State → (ℕ → ℕ) → Bounds → Core → Core
fell_core i before number sums w = record {
  scene = record { state = fall i before; waits = fell_waits i w.scene.waits };
  pages = fell i number w.pages;
  bounds = sums;
}

-- the numbers that pages have in a complex
abbrev pub numbers_of : rig.DeviceImages → Outcomes → Parts → ℕ → ℕ
numbers_of seen leaves c p = (newest_of seen leaves c p).lsn

-- who fell is down
pub fallen-down : (i : ℕ) (c new : Parts) → IsFallen i c new → status_at new i ≡ S.Down
fallen-down i c new fallen = fallen.status i
    ∙ ap (λ (b : Bool). cond {A = Status} (cond b true (is_recovered_by i (status_at c i))) S.Down (status_at c i)) (eq-eqb i i refl)

-- whoever is in doubt behind a fall was so before it
fall-stays : (i : ℕ) (before : State) → DoubtsStay before (fall i before)
fall-stays i before = record {
  before = λ u doubt. by (eqb i (home u)) (before.part u) doubt;
  puts = λ u doubt. same (eqb i (home u)) (before.part u);
}
  where
    lost-doubt : (life : Life) → is_doubt (lost life) ≡ true → is_doubt life ≡ true
    lost-doubt Life.Gone e = e
    lost-doubt Life.Running e = e
    lost-doubt Life.Retained e = e
    lost-doubt (Life.Rolling to) e = e
    lost-doubt (Life.Doubt cut) e = e

    by : (b : Bool) (p : Part) → is_doubt (cond b (lost_part p) p).life ≡ true → is_doubt p.life ≡ true
    by true p e = lost-doubt p.life e
    by false p e = e

    same : (b : Bool) (p : Part) → live (cond b (lost_part p) p).acts ≡ live p.acts
    same true p = refl
    same false p = refl

-- ---- pages and sums

module _ (i : ℕ) (seen : rig.DeviceImages) (leaves : Outcomes) (pend : Pending) (c new : Parts) (m : State) (low : 1 ≤ i) (high : i ≤ 8)
    (g : Good seen leaves pend c m) (is : new ≡ with_fallen i new c) (f : IsFallen i c new) where
  pub fallen-pages : (w : Pages) → FitsPages seen leaves c w → FitsPages seen leaves new (fell i (numbers_of seen leaves new) w)
  fallen-pages w fits = record {
    frames = λ j lo hi. frames j ∙ fits.frames j lo hi;
    entry = λ p. ap (fallen i) (fits.entry p) ∙ sym (f.entries p);
    asks = λ p. ap₂ (λ (e : PageEntry) asks. open_asks (fallen i e) (asks_without i asks)) (fits.entry p) (fits.asks p) ∙ sym (f.asks p);
    number = λ p there. refl;
    begun = begun;
  }
    where
      frames : (j : ℕ) → (pool_at new j).frames ≡ (pool_at c j).frames
      frames j = ap (λ (k : Parts). (pool_at k j).frames) is ∙ ⊎_elim
          (λ e. subst (λ (k : ℕ). (pool_at (with_fallen i new c) k).frames ≡ (pool_at c k).frames) (sym e)
          (ap (λ (b : Buffers). b.frames) (item-set no_pool c.pools i (emptied_pool (pool_at c i)) low high g.shape.pools)))
          (λ ne. ap (λ (b : Buffers). b.frames) (item-kept no_pool c.pools i (emptied_pool (pool_at c i)) low j ne))
          (cases_eq j i)

      begun : (j : ℕ) → (fell i (numbers_of seen leaves new) w).begun j ≡ is_some (check_at new j)
      begun j = ⊎_elim
          (λ e. ap (λ (b : Bool). cond b false (w.begun j)) (eq-eqb i j (sym e))
          ∙ sym (ap (λ (k : Parts). is_some (check_at k j)) is
          ∙ subst (λ (k : ℕ). is_some (check_at (with_fallen i new c) k) ≡ false) (sym e)
          (ap (λ (o : Option Begun). is_some o) (item-set {A = Option Begun} None c.checks i None low high g.shape.checks))))
          (λ ne. ap (λ (b : Bool). cond b false (w.begun j)) (ne_eqb i j (λ e. ne (sym e))) ∙ fits.begun j
          ∙ sym (ap (λ (k : Parts). is_some (check_at k j)) is
          ∙ ap (λ (o : Option Begun). is_some o) (item-kept {A = Option Begun} None c.checks i None low j ne)))
          (cases_eq j i)

  other-same : (j : ℕ) → other_at new j ≡ other_at c j
  other-same j = ap (λ (k : Parts). other_at k j) is

  -- a log goes no further without its tail
  reach-without : (n : ℕ) (l : LogState) → ReachesAtMost n l → ReachesAtMost n (without_tail l)
  reach-without n l r = (
    r.0,
    subst (λ (log : List Rec). l.gate + reserve log ≤ n) (sym (append-nil (base_at l))) r.0,
  )

  log-by : (moved : Keeps) (j : ℕ) → (log_by new moved j ≡ log_by c moved j) ⊎ (log_by new moved j ≡ without_tail (log_by c moved j))
  log-by moved j = ⊎_elim
      (λ same. inl (ap₂ (λ (l : LogState) (q : Option ℕ). cond (moved j) (option_map_or (λ place. begun_at place l) q l) l)
      same (other-same j)))
      (λ dropped. inr (subst (λ (k : ℕ). log_by new moved k ≡ without_tail (log_by c moved k)) (sym dropped.0)
      (let one = (g.settled i low high dropped.1).one_place in
      one-place new moved i (other-same i ∙ one) ∙ subst (λ (k : ℕ). log_at new k ≡ without_tail (log_at c i)) dropped.0 dropped.2
      ∙ sym (ap without_tail (one-place c moved i one)))))
      (fallen-log i seen leaves pend c new m low high g is f j)

  pub fallen-bounds : (b : Bounds) → FitsBounds seen leaves c b → FitsBounds seen leaves new b
  fallen-bounds b fits = record {
    slots = λ moved keeps p. subst (λ (x : Page). AreWithin (capacities x) (b.slots p))
        (sym (fallen-versions i seen leaves pend c new m low high g is f moved keeps (disk_page (seen 0)) p))
        (fits.slots moved (kept_by i (owed_dropped i c) keeps) p);
    least = λ moved keeps p. subst (λ (x : Page). AreAtLeast (capacities x) (b.least p))
        (sym (fallen-versions i seen leaves pend c new m low high g is f moved keeps (disk_page (seen 0)) p))
        (fits.least moved (kept_by i (owed_dropped i c) keeps) p);
    reach = λ moved j lo hi. ⊎_elim
        (λ same. subst (ReachesAtMost (b.reach j)) (sym same) (fits.reach moved j lo hi))
        (λ without. subst (ReachesAtMost (b.reach j)) (sym without) (reach-without (b.reach j) (log_by c moved j) (fits.reach moved j lo hi)))
        (log-by moved j);
    lsns = let great = fallen-great i seen leaves pend c new m low high g is f in
        let owes = fallen-owes i seen leaves pend c new m low high g is f in
        let was = fits.lsns in
        omega (arith, great, owes, was);
    masters = λ j lo hi. subst (λ (k : Parts). count_at k j ≤ b.masters j) (sym is) (fits.masters j lo hi);
    left_masters = fits.left_masters;
  }

  -- what is kept of the logs is what was kept of them without the tail that is dropped
  fallen-kept : (moved keeps : Keeps) → kept_logs (tails_of (log_by new moved)) keeps
      ≡ kept_logs (tails_of (log_by c moved)) (kept_by i (owed_dropped i c) keeps)
  fallen-kept moved keeps = by (owed_dropped i c) refl (ap (λ (p : Parts). p.logs) is)
    where
      logs_of : (j : ℕ) → log_at new j ≡ log_at c j → log_by new moved j ≡ log_by c moved j
      logs_of j same = ap₂ (λ (l : LogState) (q : Option ℕ). cond (moved j) (option_map_or (λ place. begun_at place l) q l) l)
          same (other-same j)

      by : (z : Option ℕ) → owed_dropped i c ≡ z → new.logs ≡ logs_by i z c → kept_logs (tails_of (log_by new moved)) keeps
          ≡ kept_logs (tails_of (log_by c moved)) (kept_by i z keeps)
      by None e at = ap (λ logs. kept_logs (tails_of logs) keeps)
          (fun_ext (λ (j : ℕ). logs_of j (ap (λ (ls : List LogState). log_at (record c { logs = ls }) j) at)))
      by (Some owes) e at =
          let one = (g.settled i low high (when-dropped i owes c e).0).one_place in
          let there = λ (j : ℕ). ap (λ (ls : List LogState). log_at (record c { logs = ls }) j) at in
          sym (kept-all i (log_by c moved) (log_by new moved)
          (one-place new moved i (other-same i ∙ one) ∙ there i
          ∙ item-set no_log c.logs i (without_tail (log_at c i)) low high g.shape.logs
          ∙ sym (ap without_tail (one-place c moved i one)))
          (λ j ne. logs_of j (there j ∙ item-kept no_log c.logs i (without_tail (log_at c i)) low j ne)) keeps)

  pub fallen-doubts : (before : State) → FitsDoubts seen c before → FitsDoubts seen new (fall i before)
  fallen-doubts before d = doubts-kept seen seen c new before (fall i before) d (fall-stays i before)
      (kept_by i (owed_dropped i c))
      (λ moved keeps j. ap (λ (logs : ℕ → List Rec). logs j) (fallen-kept moved keeps))
      (λ moved keeps p. fallen-versions i seen leaves pend c new m low high g is f moved keeps (disk_page (seen 0)) p)

-- ---- the whole

-- Whose logs, tables and waits are as they were, but for those of instance i.
pub record IsElsewhere (i : ℕ) (old mid : Parts) : Type 0 where
  pub logs : (j : ℕ) → j ≢ i → log_at mid j ≡ log_at old j
  pub txns : (j : ℕ) → j ≢ i → txns_at mid j ≡ txns_at old j
  pub waits : (t : TxnId) → waits mid.locks t ≡ waits old.locks t

-- who fell neither runs nor rolls back
fell-life : (life : Life) → (is_running (lost life) ≡ false) × ((lost life ≡ Life.Rolling None) → ⊥) × (IsAtWork (lost life) → ⊥)
fell-life Life.Gone = (refl, λ e. cc, λ w. w)
fell-life Life.Running = (refl, λ e. cc, λ w. w)
fell-life Life.Retained = (refl, λ e. cc, λ w. w)
fell-life (Life.Rolling to) = (refl, λ e. cc, λ w. w)
fell-life (Life.Doubt cut) = (refl, λ e. cc, λ w. w)

-- A call changed i's alone of a complex that fitted w, and left pages and sums that fit so; then i falls, from a state in which the
-- transactions of others are as they were.
module _ (i : ℕ) (seen seen' : rig.DeviceImages) (leaves leaves' : Outcomes) (pend : Pending) (old mid new : Parts) (m before : State) (w : Core)
    (low : 1 ≤ i) (high : i ≤ 8) (fitted : Fits seen leaves old w) (g : Good seen' leaves' pend mid m) (else : IsElsewhere i old mid)
    (is : new ≡ with_fallen i new mid) (f : IsFallen i mid new)
    (same : (t : TxnId) → home t ≢ i → before.part t ≡ w.scene.state.part t) where
  -- a transaction of another is as it was
  part-else : (t : TxnId) → home t ≢ i → (fall i before).part t ≡ w.scene.state.part t
  part-else t ne = ap (λ (b : Bool). cond b (lost_part (before.part t)) (before.part t)) (ne_eqb i (home t) (λ e. ne (sym e))) ∙ same t ne

  life-own : (t : TxnId) → home t ≡ i → ((fall i before).part t).life ≡ lost (before.part t).life
  life-own t own = ap (λ (b : Bool). (cond b (lost_part (before.part t)) (before.part t)).life) (eq-eqb i (home t) (sym own))

  log-else : (j : ℕ) → j ≢ i → log_at new j ≡ log_at old j
  log-else j ne = ⊎_elim (λ e. e) (λ d. absurd (ne d.0)) (fallen-log i seen' leaves' pend mid new m low high g is f j) ∙ else.logs j ne

  txns-else : (j : ℕ) → j ≢ i → txns_at new j ≡ txns_at old j
  txns-else j ne = ap (λ (k : Parts). txns_at k j) is ∙ item-kept no_txns mid.txns i (txns_at new i) low j ne ∙ else.txns j ne

  pub fallen-fits-so : (sums : Bounds) → FitsPages seen' leaves' new (fell i (numbers_of seen' leaves' new) w.pages)
      → FitsBounds seen' leaves' mid sums
      → FitsDoubts seen' mid before
      → Good seen' leaves' Pending.Idle new (fall i before)
      → Fits seen' leaves' new (fell_core i before (numbers_of seen' leaves' new) sums w)
  fallen-fits-so sums pages bounds doubts good = record {
    good = good;
    idle = ap (λ (k : Parts). k.due) is;
    rolling = λ t rolls. ⊎_elim
        (λ own. absurd ((fell-life (before.part t).life).1 (sym (life-own t own) ∙ rolls)))
        (λ ne. subst (λ (l : LogState). IsOpen t (all_at l)) (sym (log-else (home t) ne))
        (fitted.rolling t (sym (ap (λ (p : Part). p.life) (part-else t ne)) ∙ rolls)))
        (cases_eq (home t) i);
    waits = λ t. f.waits t ∙ ap (λ (a : Option Wait). cond {A = Option Wait} (eqb (home t) i) None a) (else.waits t ∙ fitted.waits t);
    waiting = λ t rests. ⊎_elim
        (λ own. ap (λ (b : Bool). cond {A = Option Wait} b None (w.scene.waits t)) (eq-eqb (home t) i own))
        (λ ne. ap (λ (b : Bool). cond {A = Option Wait} b None (w.scene.waits t)) (ne_eqb (home t) i ne)
        ∙ fitted.waiting t (sym (ap (λ (p : Part). is_running p.life) (part-else t ne)) ∙ rests))
        (cases_eq (home t) i);
    put = λ t works some. ⊎_elim
        (λ own. absurd ((fell-life (before.part t).life).2 (subst IsAtWork (life-own t own) works)))
        (λ ne. subst (λ (p : Part). HasPut p.acts) (sym (part-else t ne))
        (fitted.put t (subst (λ (p : Part). IsAtWork p.life) (part-else t ne) works)
        (subst (λ (table : Transactions). IsSome (span_at table t)) (txns-else (home t) ne) some)))
        (cases_eq (home t) i);
    pages = pages;
    bounds = fallen-bounds i seen' leaves' pend mid new m low high g is f sums bounds;
    doubts = fallen-doubts i seen' leaves' pend mid new m low high g is f before doubts;
  }

  pub fallen-fits : (sums : Bounds) → FitsPages seen' leaves' mid w.pages → FitsBounds seen' leaves' mid sums
      → FitsDoubts seen' mid before
      → Good seen' leaves' Pending.Idle new (fall i before)
      → Fits seen' leaves' new (fell_core i before (numbers_of seen' leaves' new) sums w)
  fallen-fits sums pages = fallen-fits-so sums (fallen-pages i seen' leaves' pend mid new m low high g is f w.pages pages)

  -- the waits of those that run then, where the event ends no other's
  pub fell-waits : (asks : Waits) → ((u : TxnId) → home u ≢ i → of_running w.scene.state asks u ≡ w.scene.waits u)
      → (t : TxnId) → fell_waits i w.scene.waits t ≡ of_running (fall i before) asks t
  fell-waits asks others t = ⊎_elim
      (λ own. ap (λ (b : Bool). cond {A = Option Wait} b None (w.scene.waits t)) (eq-eqb (home t) i own)
      ∙ sym (ap (λ (b : Bool). cond {A = Option Wait} b (asks t) None) (ap is_running (life-own t own) ∙ (fell-life (before.part t).life).0)))
      (λ ne. ap (λ (b : Bool). cond {A = Option Wait} b None (w.scene.waits t)) (ne_eqb (home t) i ne)
      ∙ sym (ap (λ (p : Part). cond {A = Option Wait} (is_running p.life) (asks t) None) (part-else t ne) ∙ others t ne))
      (cases_eq (home t) i)

-- the event turns the world so, where an instance falls
pub turns-fell : (i : ℕ) (before : State) (number : ℕ → ℕ) (w : Core) (e : Event) (r : Reply) → Step w.scene.state e r (fall i before)
    → ((t : TxnId) → fell_waits i w.scene.waits t ≡ waits_after (fall i before) e None r w.scene.waits t)
    → IsExact w.scene (txn_of e) (asked_of e None) r → IsOfFreeSlot w.scene.state e None r
    → Moves w.scene.state w.pages e r (fall i before) (fell i number w.pages) → Within w.scene.state w.bounds e r
    → Turns w e r (fell_core i before number (bounds_after w.bounds e r) w)
turns-fell i before number w e r step waits exact unused moves within = record {
  wanted = None;
  near = tt;
  plays = record { step = step; waits = waits };
  exact = exact;
  unused = unused;
  moves = moves;
  within = within;
  sums = refl;
}
