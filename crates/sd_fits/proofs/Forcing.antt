-- A log is forced, or its force fails: how pages and sums go on fitting. For the calls that force a log.
use Rattle.std.proofs.Common.{◌≡◌, ◌≢◌, ⊎_elim, ℕ, zero, suc, eqb, ◌+◌, ◌≤◌, Bool, true, false, cond, List, [], ◌++◌, map, max, append-nil, refl, sym, ap, ap₂, ◌∙◌, subst, arith, eq-eqb, ne_eqb}
use Rattle.std.specs.Prelude.{None}
use Rattle.std.specs.Option.{option_map_or}
use Rattle.std.proofs.lemmas.Bool.{cases_eq}
use Rattle.std.proofs.lemmas.List.{get_or-set_other, get_or-set_same}
use mathlib.Core.Path.{fun_ext}
use Rattle.sd_log.specs.Logs.{LogState, begun_at, forced, last_lsn, scanned}
use Rattle.sd_logrec.specs.Kept.{Master, master}
use Rattle.sd_logrec.specs.View.{Rec, flat}
use Rattle.sd_logrec.specs.declared.record.Record.{Record}
use Rattle.sd_page.specs.Page.{Page}
use Rattle.sd_model.specs.State.{State}
use Rattle.sd_rig.specs.Devices as rig
use Rattle.sd_txn.specs.Owing.{owed_of}
use Rattle.sd_chain.specs.Bytes.{disk_page}
use Rattle.sd_chain.specs.Checks.{owed, reserve}
use Rattle.sd_chain.specs.Storage.{newest}
use Rattle.sd_chain.specs.Images.{Keeps, Tails, all_kept, kept_at}
use Rattle.sd_chain.specs.Named.{version_of}
use Rattle.sd_chain.specs.Logs.{Logs, Outcomes, all_at, base_at, kept_logs, tail_at, tails_of}
use Rattle.sd_chain.proofs.Kept.{forced-base, forced-idle, forced-tail, no-tail}
use Rattle.sd_state.specs.Forcing.{KeepMasters, owed_either, with_failed, with_forced}
use Rattle.sd_state.specs.Good.{Good}
use Rattle.sd_state.specs.Images.{log_by}
use Rattle.sd_state.specs.Laws.{newest_of}
use Rattle.sd_state.specs.Parts.{Parts, is_loose, log_at, no_log, other_at, owed_at, status_at, txns_at}
use Rattle.sd_state.specs.Sums.{great_of, most_to, owed_in_all, owes_most}
use Rattle.sd_state.specs.Tables.{tells_log}
use Rattle.sd_state.specs.Values.{Pending}
use Rattle.sd_state.proofs.Items.{item-kept, item-set}
use Rattle.sd_state.proofs.Lasts.{last-forced}
use Rattle.sd_state.proofs.Standing.{one-place}
use Rattle.sd_world.specs.Bounds.{Bounds}
use Rattle.sd_world.specs.Pages.{Pages}
use Rattle.sd_fits.specs.Fits.{AreAtLeast, AreWithin, FitsBounds, FitsDoubts, FitsPages, ReachesAtMost, capacities}
use Rattle.sd_fits.proofs.Doubts.{doubts-kept, same-doubts}
use Rattle.sd_moves.proofs.FallBounds.{sum-less, told-most}

-- ---- versions that see the same records

-- where the same of each log is kept over the same pages, the versions are the same
pub versions-same : (tails tails' : Tails) (disk disk' : ℕ → Page) (keeps keeps' : Keeps) (p : ℕ)
    → ((j : ℕ) → kept_logs tails' keeps' j ≡ kept_logs tails keeps j) → ((q : ℕ) → disk' q ≡ disk q)
    → version_of tails' disk' keeps' p ≡ version_of tails disk keeps p
versions-same tails tails' disk disk' keeps keeps' p same pages =
    ap₂ (λ (l : ℕ → List Rec) (d : ℕ → Page). newest (record { logs = l; disk = d }) p) (fun_ext same) (fun_ext pages)

pub most-same : (f g : ℕ → ℕ) (n : ℕ) → ((j : ℕ) → 1 ≤ j → j ≤ n → f j ≡ g j) → most_to f n ≡ most_to g n
most-same f g zero same = refl
most-same f g (suc n) same = ap₂ max (most-same f g n (λ j low high. same j low (omega (arith, high)))) (same (suc n) (omega arith) (omega arith))

pub no-more : (g a o n : ℕ) → a ≤ o → g + o ≤ n → g + a ≤ n
no-more g a o n le was = omega arith

-- no master has a greater count than one that might be left before
pub masters-left : (leaves leaves' : Outcomes) → KeepMasters leaves leaves' → (most : ℕ → ℕ)
    → ((i : ℕ) → 1 ≤ i → i ≤ 8 → (bytes : List ℕ) → leaves i bytes → (master bytes).count ≤ most i)
    → (i : ℕ) → 1 ≤ i → i ≤ 8 → (bytes : List ℕ) → leaves' i bytes → (master bytes).count ≤ most i
masters-left leaves leaves' kept most was i low high bytes left =
    let k = kept i low bytes left in
    subst (λ (m : Master). m.count ≤ most i) (sym k.2) (was i low high k.0 k.1)

-- ---- forced

-- Log i, which is settled, is forced; then it owes what it owes with its tail.
module _ (i owes : ℕ) (seen seen' : rig.DeviceImages) (leaves leaves' : Outcomes) (pend : Pending) (c : Parts) (m : State)
    (g : Good seen leaves pend c m) (low : 1 ≤ i) (high : i ≤ 8) (settled : is_loose c i ≡ false)
    (disk : seen' 0 ≡ seen 0) (is : owes ≡ owed (all_at (log_at c i))) where
  abbrev log : LogState
  log = log_at c i

  abbrev new : Parts
  new = with_forced i (forced log) owes c

  here : log_at new i ≡ forced log
  here = item-set no_log c.logs i (forced log) low high g.shape.logs

  elsewhere : (j : ℕ) → j ≢ i → log_at new j ≡ log_at c j
  elsewhere j ne = item-kept no_log c.logs i (forced log) low j ne

  begins-once : other_at c i ≡ None
  begins-once = (g.settled i low high settled).one_place

  here-by : (moved : Keeps) → log_by new moved i ≡ forced (log_by c moved i)
  here-by moved = one-place new moved i begins-once ∙ here ∙ sym (ap forced (one-place c moved i begins-once))

  else-by : (moved : Keeps) (j : ℕ) → j ≢ i → log_by new moved j ≡ log_by c moved j
  else-by moved j ne = ap (λ (l : LogState). cond (moved j) (option_map_or (λ place. begun_at place l) (other_at c j) l) l) (elsewhere j ne)

  -- what is kept of a log without its tail is what was kept of it with that
  kept-by : (logs logs' : Logs) → logs' i ≡ forced (logs i) → ((j : ℕ) → j ≢ i → logs' j ≡ logs j) → (keeps : Keeps) (j : ℕ)
      → kept_logs (tails_of logs') keeps j ≡ kept_logs (tails_of logs) (kept_at i true keeps) j
  kept-by logs logs' own others keeps j = ⊎_elim
      (λ e. subst (λ (k : ℕ). kept_logs (tails_of logs') keeps k ≡ kept_logs (tails_of logs) (kept_at i true keeps) k) (sym e)
      (ap (λ (l : LogState). base_at l ++ cond (keeps i) (tail_at l) []) own
      ∙ ap₂ (λ (b : List Rec) (t : List Record). b ++ cond (keeps i) (map flat t) []) (forced-base (logs i)) (forced-tail (logs i))
      ∙ no-tail (keeps i) (all_at (logs i))
      ∙ ap (λ (b : Bool). base_at (logs i) ++ cond b (tail_at (logs i)) []) (sym (ap (λ (b : Bool). cond b true (keeps i)) (eq-eqb i i refl)))))
      (λ ne. ap (λ (l : LogState). base_at l ++ cond (keeps j) (tail_at l) []) (others j ne)
      ∙ ap (λ (b : Bool). base_at (logs j) ++ cond b (tail_at (logs j)) []) (sym (ap (λ (b : Bool). cond b true (keeps j)) (ne_eqb j i ne))))
      (cases_eq j i)

  page-same : (q : ℕ) → disk_page (seen' 0) q ≡ disk_page (seen 0) q
  page-same q = ap (λ (bytes : List ℕ). disk_page bytes q) disk

  all-true : (b : Bool) → cond b true true ≡ true
  all-true true = refl
  all-true false = refl

  newest-same : (p : ℕ) → newest_of seen' leaves' new p ≡ newest_of seen leaves c p
  newest-same p = versions-same (tails_of (log_at c)) (tails_of (log_at new)) (disk_page (seen 0)) (disk_page (seen' 0)) all_kept all_kept p
      (λ j. kept-by (log_at c) (log_at new) here elsewhere all_kept j
      ∙ ap (λ (b : Bool). base_at (log_at c j) ++ cond b (tail_at (log_at c j)) []) (all-true (eqb j i)))
      page-same

  pub forced-pages : (w : Pages) → FitsPages seen leaves c w → FitsPages seen' leaves' new w
  forced-pages w f = record {
    frames = f.frames;
    entry = f.entry;
    asks = f.asks;
    number = λ p there. f.number p there ∙ sym (ap (λ (x : Page). x.lsn) (newest-same p));
    begun = f.begun;
  }

  reach-forced : (n : ℕ) (l : LogState) → ReachesAtMost n l → ReachesAtMost n (forced l)
  reach-forced n l r =
      let idle : forced (forced l) ≡ forced l = forced-idle (forced l) (forced-tail l) in
      let whole : all_at (forced l) ≡ all_at l =
      ap₂ (λ (b : List Rec) (t : List Record). b ++ map flat t) (forced-base l) (forced-tail l) ∙ append-nil (all_at l) in (
        subst (λ (log : List Rec). (forced l).gate + reserve log ≤ n) (sym (forced-base l)) r.1,
        subst (λ (k : LogState). k.gate + reserve (all_at (forced l)) ≤ n) (sym idle)
            (subst (λ (log : List Rec). (forced l).gate + reserve log ≤ n) (sym whole) r.1),
      )

  reaches : (n : ℕ) (moved : Keeps) (j : ℕ) → ReachesAtMost n (log_by c moved j) → ReachesAtMost n (log_by new moved j)
  reaches n moved j r = ⊎_elim
      (λ e. subst (λ (k : ℕ). ReachesAtMost n (log_by new moved k)) (sym e)
      (subst (ReachesAtMost n) (sym (here-by moved)) (reach-forced n (log_by c moved i)
      (subst (λ (k : ℕ). ReachesAtMost n (log_by c moved k)) e r))))
      (λ ne. subst (ReachesAtMost n) (sym (else-by moved j ne)) r)
      (cases_eq j i)

  last-same : (j : ℕ) → last_lsn (scanned (log_at new j)) ≡ last_lsn (scanned (log_at c j))
  last-same j = ⊎_elim
      (λ e. subst (λ (k : ℕ). last_lsn (scanned (log_at new k)) ≡ last_lsn (scanned (log_at c k))) (sym e)
      (ap (λ (l : LogState). last_lsn (scanned l)) here ∙ last-forced log))
      (λ ne. ap (λ (l : LogState). last_lsn (scanned l)) (elsewhere j ne))
      (cases_eq j i)

  great-same : great_of new ≡ great_of c
  great-same = ap (λ (n : ℕ). max c.disk_lsn n) (most-same (λ j. last_lsn (scanned (log_at new j))) (λ j. last_lsn (scanned (log_at c j))) 8
      (λ j lo hi. last-same j))

  owed-here : owed_at new i ≡ owes
  owed-here = item-set 0 c.owed i owes low high g.shape.owed

  -- what the log owes with its tail is what its table says, or what it owed without one
  owes-here : (tells : Bool) → tells_log (status_at c i) ≡ tells
      → cond tells (max owes (owed_of (txns_at c i))) owes ≤ cond tells (max (owed_at c i) (owed_of (txns_at c i))) (owed_at c i)
  owes-here true tells = let told = (g.told i low high tells settled).owes in omega (arith, is, told)
  owes-here false rests =
      let kept = g.owed i low high settled in
      let quiet : all_at log ≡ base_at log =
      ap (λ (t : List Record). base_at log ++ map flat t) (g.at_rest i low high rests settled) ∙ append-nil (base_at log) in
      let same : owed (all_at log) ≡ owed (base_at log) = ap owed quiet in
      omega (arith, is, kept, same)

  owes-most : (j : ℕ) → owes_most new j ≤ owes_most c j
  owes-most j = ⊎_elim
      (λ e. subst (λ (k : ℕ). owes_most new k ≤ owes_most c k) (sym e)
      (subst (λ (b : Bool). cond b (owed_at new i) (cond (tells_log (status_at c i)) (max (owed_at new i) (owed_of (txns_at c i))) (owed_at new i))
      ≤ cond b (owed_at c i) (cond (tells_log (status_at c i)) (max (owed_at c i) (owed_of (txns_at c i))) (owed_at c i))) (sym settled)
      (subst (λ (n : ℕ). cond (tells_log (status_at c i)) (max n (owed_of (txns_at c i))) n
      ≤ cond (tells_log (status_at c i)) (max (owed_at c i) (owed_of (txns_at c i))) (owed_at c i)) (sym owed-here)
      (owes-here (tells_log (status_at c i)) refl))))
      (λ ne. subst (λ (n : ℕ). cond (is_loose c j) n (cond (tells_log (status_at c j)) (max n (owed_of (txns_at c j))) n) ≤ owes_most c j)
      (sym (item-kept 0 c.owed i owes low j ne)) (omega arith))
      (cases_eq j i)

  pub forced-bounds : KeepMasters leaves leaves' → (b : Bounds) → FitsBounds seen leaves c b → FitsBounds seen' leaves' new b
  forced-bounds kept b f = record {
    slots = λ moved keeps p. subst (λ (x : Page). AreWithin (capacities x) (b.slots p))
        (sym (versions-same (tails_of (log_by c moved)) (tails_of (log_by new moved)) (disk_page (seen 0)) (disk_page (seen' 0))
        (kept_at i true keeps) keeps p (kept-by (log_by c moved) (log_by new moved) (here-by moved) (else-by moved) keeps) page-same))
        (f.slots moved (kept_at i true keeps) p);
    least = λ moved keeps p. subst (λ (x : Page). AreAtLeast (capacities x) (b.least p))
        (sym (versions-same (tails_of (log_by c moved)) (tails_of (log_by new moved)) (disk_page (seen 0)) (disk_page (seen' 0))
        (kept_at i true keeps) keeps p (kept-by (log_by c moved) (log_by new moved) (here-by moved) (else-by moved) keeps) page-same))
        (f.least moved (kept_at i true keeps) p);
    reach = λ moved j lo hi. reaches (b.reach j) moved j (f.reach moved j lo hi);
    lsns = subst (λ (n : ℕ). n + owed_in_all new ≤ b.lsns) (sym great-same)
        (no-more (great_of c) (owed_in_all new) (owed_in_all c) b.lsns (sum-less (owes_most new) (owes_most c) 8 (λ j lo hi. owes-most j)) f.lsns);
    masters = f.masters;
    left_masters = masters-left leaves leaves' kept b.masters f.left_masters;
  }

  pub forced-doubts : (s : State) → FitsDoubts seen c s → FitsDoubts seen' new s
  forced-doubts s d = doubts-kept seen seen' c new s s d (same-doubts s) (kept_at i true)
      (λ moved keeps j. kept-by (log_by c moved) (log_by new moved) (here-by moved) (else-by moved) keeps j)
      (λ moved keeps p. versions-same (tails_of (log_by c moved)) (tails_of (log_by new moved)) (disk_page (seen 0))
      (disk_page (seen' 0))
      (kept_at i true keeps) keeps p (kept-by (log_by c moved) (log_by new moved) (here-by moved) (else-by moved) keeps)
      page-same)

-- ---- a force that fails

-- The force of log i, which was settled, failed: the log is as it was, and owes what it owes either way.
module _ (a i : ℕ) (seen seen' : rig.DeviceImages) (leaves leaves' : Outcomes) (pend : Pending) (c : Parts) (m : State)
    (g : Good seen leaves pend c m) (low : 1 ≤ i) (high : i ≤ 8) (settled : is_loose c i ≡ false) (disk : seen' 0 ≡ seen 0) where
  abbrev failed : Parts
  failed = with_failed a i c

  pub failed-pages : (w : Pages) → FitsPages seen leaves c w → FitsPages seen' leaves' failed w
  failed-pages w f = record {
    frames = f.frames;
    entry = f.entry;
    asks = f.asks;
    number = λ p there. f.number p there
        ∙ sym (ap (λ (bytes : List ℕ). (version_of (tails_of (log_at c)) (disk_page bytes) all_kept p).lsn) disk);
    begun = f.begun;
  }

  loose-here : is_loose failed i ≡ true
  loose-here = get_or-set_same c.loose i true true (let nine = g.shape.loose in omega (arith, nine, high))

  owes-failed : (j : ℕ) → 1 ≤ j → owes_most failed j ≤ owes_most c j
  owes-failed j lo = ⊎_elim
      (λ e. subst (λ (k : ℕ). owes_most failed k ≤ owes_most c k) (sym e)
      (subst (λ (b : Bool). cond b (owed_at failed i) (cond (tells_log (status_at c i)) (max (owed_at failed i) (owed_of (txns_at c i))) (owed_at failed i))
      ≤ owes_most c i) (sym loose-here)
      (subst (λ (b : Bool). owed_at failed i ≤ cond b (owed_at c i) (cond (tells_log (status_at c i)) (max (owed_at c i) (owed_of (txns_at c i))) (owed_at c i)))
      (sym settled)
      (subst (λ (n : ℕ). n ≤ cond (tells_log (status_at c i)) (max (owed_at c i) (owed_of (txns_at c i))) (owed_at c i))
      (sym (item-set 0 c.owed i (owed_either c i) low high g.shape.owed))
      (told-most (status_at c i) (owed_of (txns_at c i)) (owed_at c i))))))
      (λ ne. subst (λ (b : Bool). cond b (owed_at failed j) (cond (tells_log (status_at c j)) (max (owed_at failed j) (owed_of (txns_at c j))) (owed_at failed j))
      ≤ owes_most c j) (sym (get_or-set_other c.loose i j true true ne))
      (subst (λ (n : ℕ). cond (is_loose c j) n (cond (tells_log (status_at c j)) (max n (owed_of (txns_at c j))) n) ≤ owes_most c j)
      (sym (item-kept 0 c.owed i (owed_either c i) low j ne)) (omega arith)))
      (cases_eq j i)

  pub failed-bounds : KeepMasters leaves leaves' → (b : Bounds) → FitsBounds seen leaves c b → FitsBounds seen' leaves' failed b
  failed-bounds kept b f = record {
    slots = λ moved keeps p. subst (λ (bytes : List ℕ). AreWithin (capacities (version_of (tails_of (log_by c moved)) (disk_page bytes) keeps p)) (b.slots p))
        (sym disk) (f.slots moved keeps p);
    least = λ moved keeps p. subst (λ (bytes : List ℕ). AreAtLeast (capacities (version_of (tails_of (log_by c moved)) (disk_page bytes) keeps p)) (b.least p))
        (sym disk) (f.least moved keeps p);
    reach = f.reach;
    lsns = no-more (great_of c) (owed_in_all failed) (owed_in_all c) b.lsns
        (sum-less (owes_most failed) (owes_most c) 8 (λ j lo hi. owes-failed j lo)) f.lsns;
    masters = f.masters;
    left_masters = masters-left leaves leaves' kept b.masters f.left_masters;
  }

  pub failed-doubts : (s : State) → FitsDoubts seen c s → FitsDoubts seen' failed s
  failed-doubts s d = doubts-kept seen seen' c failed s s d (same-doubts s) (λ keeps. keeps) (λ moved keeps j. refl)
      (λ moved keeps p. ap (λ (bytes : List ℕ). version_of (tails_of (log_by c moved)) (disk_page bytes) keeps p) disk)
