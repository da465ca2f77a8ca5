-- A complex that fits a world: for the law.
use Rattle.std.proofs.Common.{◌≡◌, ℕ, ◌≤◌, Bool, true, false, cond, List, [], max, refl, sym, ap, ap₂, ◌∙◌, subst, arith}
use Rattle.std.specs.Prelude.{is_some}
use Rattle.sd_log.specs.Logs.{LogState, last_lsn, scanned}
use Rattle.sd_logrec.specs.Kept.{Master}
use Rattle.sd_page.specs.Page.{Page}
use Rattle.sd_pool.specs.Buffers.{Buffers}
use Rattle.sd_reclock.specs.Locks.{waits_in}
use Rattle.sd_rig.specs.Devices as rig
use Rattle.sd_txn.specs.Owing.{owed_of}
use Rattle.sd_chain.specs.Images.{all_kept}
use Rattle.sd_chain.specs.Logs.{IsBlank, Outcomes}
use Rattle.sd_chain.proofs.Blank.{master_blank}
use Rattle.sd_fits.specs.Fits.{AreAtLeast, AreWithin, Fits, FitsBounds, FitsPages, FitsStands, FreshFits, ReachesAtMost, capacities, fresh_core}
use Rattle.sd_state.specs.Fresh.{AreBlank, IsFresh, empty_pool}
use Rattle.sd_state.specs.Parts.{Parts, among, is_loose, log_at, no_pool, status_at}
use Rattle.sd_state.specs.Sums.{most_to, owes_most, sum_to}
use Rattle.sd_state.specs.Tables.{tells_log}
use Rattle.sd_state.specs.Values.{Pending}
use Rattle.sd_moves.proofs.Beginning.{fresh-good, log-is, no-check, now-empty, owes-none, same-log, table-is}
use Rattle.sd_state.proofs.Items.{at-each}
use Rattle.sd_state.proofs.Standing.{left-stands}

pub fits-stands : (leaves : Outcomes) → FitsStands leaves
fits-stands leaves seen img c w f left = left-stands leaves seen img Pending.Idle c w.scene.state f.good left

-- ---- nothing in sum

sum-none : (f : ℕ → ℕ) → ((j : ℕ) → 1 ≤ j → j ≤ 8 → f j ≡ 0) → sum_to f 8 ≡ 0
sum-none f none =
    let a = none 1 (omega arith) (omega arith) in
    let b = none 2 (omega arith) (omega arith) in
    let c = none 3 (omega arith) (omega arith) in
    let d = none 4 (omega arith) (omega arith) in
    let e = none 5 (omega arith) (omega arith) in
    let h = none 6 (omega arith) (omega arith) in
    let k = none 7 (omega arith) (omega arith) in
    let l = none 8 (omega arith) (omega arith) in
    omega (arith, a, b, c, d, e, h, k, l)

most-none : (f : ℕ → ℕ) → ((j : ℕ) → 1 ≤ j → j ≤ 8 → f j ≡ 0) → most_to f 8 ≡ 0
most-none f none =
    let a = none 1 (omega arith) (omega arith) in
    let b = none 2 (omega arith) (omega arith) in
    let c = none 3 (omega arith) (omega arith) in
    let d = none 4 (omega arith) (omega arith) in
    let e = none 5 (omega arith) (omega arith) in
    let h = none 6 (omega arith) (omega arith) in
    let k = none 7 (omega arith) (omega arith) in
    let l = none 8 (omega arith) (omega arith) in
    omega (arith, a, b, c, d, e, h, k, l)

zero-any : (loose tells : Bool) → cond {A = ℕ} loose 0 (cond tells (max 0 0) 0) ≡ 0
zero-any true tells = refl
zero-any false true = refl
zero-any false false = refl

-- ---- a fresh complex

module _ (leaves : Outcomes) (seen : rig.DeviceImages) (frames : ℕ) (c : Parts) (devices : AreBlank seen leaves) (f : IsFresh frames c) where
  last-none : (j : ℕ) → 1 ≤ j → j ≤ 8 → last_lsn (scanned (log_at c j)) ≡ 0
  last-none j low high = ap (λ (l : LogState). last_lsn (scanned l)) (log-is seen leaves frames c devices f j low high)

  owes-zero : (j : ℕ) → 1 ≤ j → j ≤ 8 → owes_most c j ≡ 0
  owes-zero j low high =
      ap₂ (λ (o w : ℕ). cond (is_loose c j) o (cond (tells_log (status_at c j)) (max o w) o))
      (owes-none seen leaves frames c devices f j low high) (ap owed_of (table-is seen leaves frames c devices f j low high))
      ∙ zero-any (is_loose c j) (tells_log (status_at c j))

  pages-there : FitsPages seen leaves c (fresh_core frames).pages
  pages-there = record {
    frames = λ i low high. ap (λ (pools : List Buffers). (among no_pool pools i).frames) f.pools
        ∙ ap (λ (pool : Buffers). pool.frames) (at-each no_pool (λ k. empty_pool frames) i low high);
    entry = λ p. sym (f.free p);
    asks = λ p. sym (f.unasked p);
    number = λ p there. sym (ap (λ (x : Page). x.lsn) (now-empty seen leaves frames c devices f (λ j. false) all_kept p));
    begun = λ i. sym (ap is_some (no-check seen leaves frames c devices f i));
  }

  bounds-there : FitsBounds seen leaves c (fresh_core frames).bounds
  bounds-there = record {
    slots = λ moved keeps p. subst (λ (x : Page). AreWithin (capacities x) [])
        (sym (now-empty seen leaves frames c devices f moved keeps p)) tt;
    least = λ moved keeps p. subst (λ (x : Page). AreAtLeast (capacities x) [])
        (sym (now-empty seen leaves frames c devices f moved keeps p)) tt;
    reach = λ moved i low high. subst (ReachesAtMost 0)
        (sym (same-log seen leaves frames c devices f moved i ∙ log-is seen leaves frames c devices f i low high))
        (omega arith, omega arith);
    lsns = let d = f.disk_lsn in let a = most-none (λ j. last_lsn (scanned (log_at c j))) last-none in
        let b = sum-none (owes_most c) owes-zero in omega (arith, d, a, b);
    masters = λ i low high. let e = ap (λ (masters : List ℕ). among 0 masters i) f.masters ∙ at-each 0 (λ k. 0) i low high in
        omega (arith, e);
    left_masters = λ i low high bytes left.
        let none = ap (λ (m : Master). m.count)
        (master_blank bytes (subst IsBlank (sym ((devices.only i high bytes).0 left)) (devices.blank i high))) in
        omega (arith, none);
  }

  pub fits-there : Fits seen leaves c (fresh_core frames)
  fits-there = record {
    good = fresh-good seen leaves frames c devices f;
    idle = f.due;
    rolling = λ t rolls. absurd (cc);
    waits = λ t. ap (λ waiting. waits_in waiting t) f.unwaited;
    waiting = λ t gone. refl;
    put = λ t none. absurd none;
    pages = pages-there;
    bounds = bounds-there;
    doubts = λ moved keeps t doubt commits. absurd (cc);
  }

pub fresh-fits : (leaves : Outcomes) → FreshFits leaves
fresh-fits leaves seen frames c devices f = fits-there leaves seen frames c devices f
