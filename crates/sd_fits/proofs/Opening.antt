-- A complex that is opened from devices within the sums fits the world that has these: for whoever opens one.
use Rattle.std.proofs.Common.{◌≡◌, ⊎_elim, ℕ, ◌+◌, ◌-◌, ◌≤◌, Bool, true, false, cond, List, max, length, refl, sym, ap, ◌∙◌, subst, arith}
use Rattle.std.specs.Prelude.{IfSome, None, Option, Some, is_some}
use Rattle.std.proofs.lemmas.Bool.{cases_Bool}
use Rattle.sd_base.specs.Twin.{chosen_body, number_of}
use Rattle.sd_rig.proofs.Numbers.{number_of-take}
use Rattle.sd_logrec.specs.Kept.{master, master_of}
use Rattle.sd_log.specs.Logs.{LogState, last_lsn, scanned}
use Rattle.sd_model.specs.Listed.{IsAtWork}
use Rattle.sd_model.specs.Scenes.{is_running}
use Rattle.sd_model.specs.State.{State}
use Rattle.sd_model.specs.declared.act.Life.{Life}
use Rattle.sd_page.specs.Page.{Page}
use Rattle.sd_pagelock.specs.Rows.{nowhere}
use Rattle.sd_pool.specs.Buffers.{Buffers}
use Rattle.sd_rig.specs.Devices as rig
use Rattle.sd_rig.specs.Devices.{LeavesOnly}
use Rattle.sd_txn.specs.Owing.{owed_of}
use Rattle.sd_chain.specs.Bytes.{disk_page, log_of, stable}
use Rattle.sd_chain.specs.Checks.{gate_of, owed, owed_by_all, reserve}
use Rattle.sd_chain.specs.Storage.{Storage, newest}
use Rattle.sd_chain.specs.Images.{Keeps, all_kept}
use Rattle.sd_chain.specs.Records.{Each}
use Rattle.sd_chain.proofs.Lists.{Each-weaker}
use Rattle.sd_chain.specs.Named.{version_of}
use Rattle.sd_chain.specs.Logs.{Outcomes, all_at, base_at, tails_of}
use Rattle.sd_chain.proofs.Kept.{forced-idle}
use Rattle.sd_chain.proofs.Lsns.{last-at-most}
use Rattle.sd_world.specs.Bounds.{Bounds}
use Rattle.sd_world.specs.Pages.{place_of}
use Rattle.sd_state.specs.Fresh.{empty_pool}
use Rattle.sd_state.specs.Good.{Good}
use Rattle.sd_state.specs.Images.{log_by}
use Rattle.sd_moves.specs.Opening.{AreOpened, OpensTo, is_loser, is_lost_in}
use Rattle.sd_state.specs.Parts.{Parts, among, count_at, is_loose, log_at, no_pool, other_at, owed_at, status_at, txns_at}
use Rattle.sd_state.specs.Sums.{great_of, most_to, owed_in_all, owes_most}
use Rattle.sd_state.specs.Tables.{tells_log}
use Rattle.sd_state.specs.Values.{Pending}
use Rattle.sd_state.proofs.Items.{at-each}
use Rattle.sd_moves.proofs.OpenedGood.{opened-good}
use Rattle.sd_moves.proofs.OpenedHalf.{all-is, base-is, is-settled, kept-here, left-is, no-check, no-other, now-same}
use Rattle.sd_moves.proofs.OpenedImage.{no-doubt}
use Rattle.sd_state.proofs.Standing.{one-place}
use Rattle.sd_moves.proofs.FallBounds.{sum-less}
use Rattle.sd_fits.specs.Opened.{IsOpenedOn, opened_core, opened_pages}
use Rattle.sd_fits.specs.Fits.{AreAtLeast, AreWithin, Fits, FitsBounds, FitsPages, ReachesAtMost, capacities}
use Rattle.sd_fits.specs.Sums.{IsWithinSums}
use Rattle.sd_fits.proofs.Recording.{most-within}

-- ---- the state

-- nobody runs, rolls back or is in doubt whom the image leaves open, or doesn't know
rests : (b : Bool) (life : Life) → life ≡ cond {A = Life} b Life.Retained Life.Gone
    → (is_running life ≡ false) × ((life ≡ Life.Rolling None) → ⊥) × (IsAtWork life → ⊥)
rests true life e = (ap is_running e, (λ rolls. let clash = sym e ∙ rolls in absurd (cc)), (λ works. subst IsAtWork e works))
rests false life e = (ap is_running e, (λ rolls. let clash = sym e ∙ rolls in absurd (cc)), (λ works. subst IsAtWork e works))

place-nowhere : (b : Bool) → place_of b ≡ nowhere b
place-nowhere true = refl
place-nowhere false = refl

-- the count of the master that counts, or none
count-is : (o : Option (List ℕ)) (n : ℕ) → IfSome o (λ body. number_of body ≡ n) → (o ≡ None → n ≡ 0) → n ≡ (master_of o).count
count-is None n some none = none refl
count-is (Some body) n some none = sym some ∙ sym (number_of-take 8 body (omega arith))

module _ (seen : rig.DeviceImages) (leaves : Outcomes) (frames : ℕ) (c : Parts) (m : State) (on : IsOpenedOn frames seen leaves c)
    (o : OpensTo seen m) (b : Bounds) (s : IsWithinSums seen b) where
  abbrev img : Storage
  img = stable seen

  only : (d : ℕ) → d ≤ 8 → LeavesOnly (seen d) (leaves d)
  only = on.only

  size : length (seen 0) ≡ rig.device_len 0
  size = on.size

  a : AreOpened frames seen c
  a = on.opened

  good : Good seen leaves Pending.Idle c m
  good = opened-good seen leaves frames c m only size a o

  other : (j : ℕ) → other_at c j ≡ None
  other = no-other seen leaves frames c m only size a o

  base : (j : ℕ) → base_at (log_at c j) ≡ log_of seen j
  base = base-is seen leaves frames c m only size a o

  whole : (j : ℕ) → all_at (log_at c j) ≡ log_of seen j
  whole = all-is seen leaves frames c m only size a o

  settled : (j : ℕ) → j ≤ 8 → is_loose c j ≡ false
  settled = is-settled seen leaves frames c m only size a o

  newest-is : (moved keeps : Keeps) (p : ℕ) → version_of (tails_of (log_by c moved)) (disk_page (seen 0)) keeps p ≡ newest img p
  newest-is moved keeps p = now-same seen leaves frames c m only size a o moved keeps p

  pages : FitsPages seen leaves c (opened_pages frames img)
  pages = record {
    frames = λ i low high. ap (λ (pools : List Buffers). (among no_pool pools i).frames) a.pools
        ∙ ap (λ (pool : Buffers). pool.frames) (at-each no_pool (λ k. empty_pool frames) i low high);
    entry = λ p. place-nowhere (is_lost_in img p) ∙ sym (a.pages p).entry;
    asks = λ p. sym (a.pages p).unasked;
    number = λ p there. sym (ap (λ (x : Page). x.lsn) (newest-is (λ j. false) all_kept p));
    begun = λ i. sym (ap is_some (no-check seen leaves frames c m only size a o i));
  }

  counts : (j : ℕ) → 1 ≤ j → j ≤ 8 → count_at c j ≡ (master (seen j)).count
  unfolding master
  counts j low high = count-is (chosen_body 0 64 (seen j)) (count_at c j) (a.insts j low high).master (a.insts j low high).uncounted

  -- ---- sums

  reach : (moved : Keeps) (i : ℕ) → 1 ≤ i → i ≤ 8 → ReachesAtMost (b.reach i) (log_by c moved i)
  reach moved i low high =
      let most = s.reach i low high in
      let gate = ap gate_of (kept-here seen leaves frames c m only size a o i low high) in
      let forced_base = ap reserve (base i) in
      let forced_all = ap reserve (whole i) in
      let same = ap (λ (l : LogState). l.gate) (forced-idle (log_at c i) (a.insts i low high).log.tail) in
      subst (ReachesAtMost (b.reach i)) (sym (one-place c moved i (other i)))
      (omega (arith, most, gate, forced_base), omega (arith, most, gate, same, forced_all))

  owes-at : (j : ℕ) → 1 ≤ j → j ≤ 8 → owes_most c j ≤ owed (log_of seen j)
  owes-at j low high =
      let was = (a.insts j low high).owed in
      subst (λ (x : Bool). cond x (owed_at c j) (cond (tells_log (status_at c j)) (max (owed_at c j) (owed_of (txns_at c j))) (owed_at c j))
      ≤ owed (log_of seen j)) (sym (settled j high))
      (⊎_elim
      (λ tells. subst (λ (x : Bool). cond x (max (owed_at c j) (owed_of (txns_at c j))) (owed_at c j) ≤ owed (log_of seen j)) (sym tells)
      (let told = (good.told j low high tells (settled j high)).owes in let all = ap owed (whole j) in omega (arith, was, told, all)))
      (λ silent. subst (λ (x : Bool). cond x (max (owed_at c j) (owed_of (txns_at c j))) (owed_at c j) ≤ owed (log_of seen j)) (sym silent)
      (omega (arith, was)))
      (cases_Bool (tells_log (status_at c j))))

  owes : owed_in_all c ≤ owed_by_all seen
  owes = let most = sum-less (owes_most c) (λ j. owed (log_of seen j)) 8 owes-at in omega (arith, most)

  great : great_of c + owed_by_all seen ≤ b.lsns
  great = to (owed_by_all seen) b.lsns s.lsns.owed disk (λ j low high.
      last-at-most (log_at c j) (b.lsns - owed_by_all seen)
      (subst (Each (λ x. x.lsn ≤ b.lsns - owed_by_all seen)) (sym (whole j))
      (Each-weaker (λ x. x.lsn + owed_by_all seen ≤ b.lsns) (λ x. x.lsn ≤ b.lsns - owed_by_all seen)
      (λ x le. omega (arith, le)) (log_of seen j) (s.lsns.logs j))))
    where
      disk : c.disk_lsn + owed_by_all seen ≤ b.lsns
      disk = ⊎_elim (λ none. let le = s.lsns.owed in omega (arith, none, le))
          (λ page. let le = s.lsns.pages page.0 page.1 in let is = page.2 in omega (arith, is, le)) a.disk_lsn

      to : (owes most : ℕ) → owes ≤ most → c.disk_lsn + owes ≤ most
          → ((j : ℕ) → 1 ≤ j → j ≤ 8 → last_lsn (scanned (log_at c j)) ≤ most - owes) → great_of c + owes ≤ most
      to owes most few low lasts =
          let all = most-within (λ j. last_lsn (scanned (log_at c j))) 8 (most - owes) lasts in
          both c.disk_lsn (most_to (λ j. last_lsn (scanned (log_at c j))) 8) owes most few low all
        where
          both : (d x o n : ℕ) → o ≤ n → d + o ≤ n → x ≤ n - o → max d x + o ≤ n
          both d x o n few one other = omega arith

  bounds : FitsBounds seen leaves c b
  bounds = record {
    slots = λ moved keeps p. subst (λ (x : Page). AreWithin (capacities x) (b.slots p)) (sym (newest-is moved keeps p)) (s.slots p);
    least = λ moved keeps p. subst (λ (x : Page). AreAtLeast (capacities x) (b.least p)) (sym (newest-is moved keeps p)) (s.least p);
    reach = reach;
    lsns = let g = great in let o = owes in sum (great_of c) (owed_in_all c) (owed_by_all seen) b.lsns g o;
    masters = λ i low high. let is = counts i low high in let le = s.masters i low high in omega (arith, is, le);
    left_masters = λ i low high bytes left. subst (λ (x : List ℕ). (master x).count ≤ b.masters i)
        (sym (left-is seen leaves frames c m only size a o i high bytes left)) (s.masters i low high);
  }
    where
      sum : (g o p n : ℕ) → g + p ≤ n → o ≤ p → g + o ≤ n
      sum g o p n le less = omega arith

  pub opened-fits : Fits seen leaves c (opened_core frames seen m b)
  opened-fits = record {
    good = good;
    idle = a.due;
    rolling = λ t rolls. absurd ((rests (is_loser img t) (m.part t).life (o.lives t)).1 rolls);
    waits = a.unwaited;
    waiting = λ t off. refl;
    put = λ t works some. absurd ((rests (is_loser img t) (m.part t).life (o.lives t)).2 works);
    pages = pages;
    bounds = bounds;
    doubts = λ moved keeps t doubt has.
        let none = no-doubt (is_loser img t) (m.part t).life (o.lives t) in let clash = sym none ∙ doubt in absurd (cc);
  }
