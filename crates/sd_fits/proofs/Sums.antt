-- What a complex that fits has, and what a crash leaves of it, is within the world's sums: for the law, and for whoever closes a complex
-- or shows a page.
use Rattle.std.proofs.Common.{◌≡◌, ⊎_elim, ℕ, zero, suc, ◌+◌, ◌≤◌, Bool, true, false, cond, eqb, List, [], ◌∷◌, ◌++◌, refl, sym, ap, ap₂, ◌∙◌, subst, arith}
use Rattle.std.specs.Prelude.{sum_by}
use Rattle.std.proofs.lemmas.Bool.{cases_lt}
use mathlib.Core.Path.{fun_ext}
use Rattle.sd_logrec.specs.Kept.{kept, master}
use Rattle.sd_logrec.specs.View.{Rec}
use Rattle.sd_log.specs.Logs.{LogState, StandsOn, forced, last_lsn, scanned}
use Rattle.sd_page.specs.Page.{Page}
use Rattle.sd_pagelock.specs.Places.{PageEntry, is_lost}
use Rattle.sd_rig.specs.Devices as rig
use Rattle.sd_chain.specs.Bytes.{disk_page, log_of, records_of, stable}
use Rattle.sd_chain.specs.Checks.{gate_of, owed, owed_by_all, reserve}
use Rattle.sd_chain.specs.Crashes.{CrashLeaves, StandsFor}
use Rattle.sd_chain.specs.Storage.{newest}
use Rattle.sd_chain.specs.Cuts.{cut}
use Rattle.sd_chain.specs.Images.{Allowed, Keeps, all_kept, with_disk}
use Rattle.sd_chain.specs.Records.{Each, Val}
use Rattle.sd_chain.proofs.Lists.{Each-front, Each-weaker}
use Rattle.sd_chain.proofs.Crashes as crashes
use Rattle.sd_chain.specs.Named.{version_of}
use Rattle.sd_chain.specs.Logs.{Logs, Outcomes, all_at, base_at, eight, kept_logs, owed_with, tail_at, tails_of, may_of}
use Rattle.sd_chain.specs.Soundly.{IsReady}
use Rattle.sd_chain.proofs.Kept.{forced-base, forced-start, kept-is, log-here, log-past}
use Rattle.sd_chain.proofs.Lsns.{newest-low, owed-most}
use Rattle.sd_chain.proofs.ChecksPass.{logs-ready}
use Rattle.sd_state.specs.Good.{Half, base_of, dir_of}
use Rattle.sd_state.specs.Images.{leaves_by, log_by}
use Rattle.sd_state.specs.Laws.{newest_of}
use Rattle.sd_state.specs.Parts.{Parts, log_at}
use Rattle.sd_state.specs.Sums.{great_of, owed_in_all}
use Rattle.sd_state.specs.Values.{Pending, values}
use Rattle.sd_state.proofs.Summed.{most-at}
use Rattle.sd_state.proofs.ChangedLists.{each-by}
use Rattle.sd_update.proofs.ChangeLsns.{known-low}
use Rattle.sd_state.proofs.Owing.{most-in-all, owes-at-most}
use Rattle.sd_state.proofs.Standing.{left-by, which}
use Rattle.sd_model.specs.Fields.{inst_of}
use Rattle.sd_model.specs.declared.event.Event.{Event}
use Rattle.sd_model.specs.declared.event.Reply.{Reply}
use Rattle.sd_world.proofs.Sums.{least-kept}
use Rattle.sd_world.specs.Bounds.{Bounds, TellsNoPlace, bounds_after, cost, counts, is_wait}
use Rattle.sd_world.specs.Pages.{number_shown}
use Rattle.sd_world.specs.Serving.{Core}
use Rattle.sd_fits.specs.Fits.{AreAtLeast, AreWithin, Fits, capacities}
use Rattle.sd_fits.proofs.Served.{lsns-most, masters-most, slots-within}
use Rattle.sd_fits.specs.Sums.{HaveLsnsTo, IsWithinSums, LeftIsWithinSums}

-- what is within the sums is within those after any event that leaves the slots as they are
pub sums-stay : (devices : rig.DeviceImages) (b : Bounds) (e : Event) (r : Reply) → TellsNoPlace r → IsWithinSums devices b
    → IsWithinSums devices (bounds_after b e r)
sums-stay devices b e r told s = record {
  slots = λ p. slots-within _ b.slots e r p (s.slots p);
  least = λ p. subst (AreAtLeast _) (sym (least-kept b.least e r told p)) (s.least p);
  reach = λ i low high. let was = s.reach i low high in
      more (cond (eqb (inst_of e) i) (cond (counts e r) (cost e) 0) 0) (b.reach i) _ was;
  lsns = record {
    owed = later _ s.lsns.owed;
    logs = λ j. Each-weaker (λ x. x.lsn + owed_by_all devices ≤ b.lsns) (λ x. x.lsn + owed_by_all devices ≤ (bounds_after b e r).lsns)
        (λ x low. later _ low) (log_of devices j) (s.lsns.logs j);
    pages = λ p lt. later _ (s.lsns.pages p lt);
  };
  masters = λ i low high. masters-most b.masters e i _ (s.masters i low high);
}
  where
    more : (x y n : ℕ) → n ≤ y → n ≤ x + y
    more x y n le = omega arith

    later : (n : ℕ) → n ≤ b.lsns → n ≤ b.lsns + cond (is_wait r) 0 4
    later n le = lsns-most b.lsns (cond (is_wait r) 0 4) n le

few : (great o owes most : ℕ) → o ≤ owes → great + owes ≤ most → o ≤ most
few great o owes most less sum = omega arith

within : (x great o owes most : ℕ) → x ≤ great → o ≤ owes → great + owes ≤ most → x + o ≤ most
within x great o owes most low few sum = omega arith

-- ---- what a complex has

module _ (seen : rig.DeviceImages) (leaves : Outcomes) (c : Parts) (w : Core) (f : Fits seen leaves c w) where
  last-low : (j : ℕ) → 1 ≤ j → j ≤ 8 → Each (λ x. x.lsn ≤ great_of c) (all_at (log_at c j))
  last-low j low high =
      let le = most-at (λ n. last_lsn (scanned (log_at c n))) 8 j low high in
      Each-weaker (λ x. x.lsn ≤ last_lsn (scanned (log_at c j))) (λ x. x.lsn ≤ great_of c) (λ x small. omega (arith, small, le))
      (all_at (log_at c j)) (f.good.last j low high)

  abbrev still : Keeps
  still j = false

  half-still : Half seen (leaves_by c still leaves) (log_at c) Pending.Idle c w.scene.state
  half-still = f.good.half still

  log-low : (j : ℕ) → Each (λ x. x.lsn ≤ great_of c) (all_at (log_at c j))
  log-low zero = subst (Each (λ (x : Rec). x.lsn ≤ great_of c))
      (sym (ap₂ (λ (b t : List Rec). b ++ t) half-still.coherent.eight.0 half-still.coherent.eight.1)) tt
  log-low (suc j) = ⊎_elim
      (λ lt. last-low (suc j) (omega arith) (omega (arith, lt)))
      (λ ge. subst (Each (λ (x : Rec). x.lsn ≤ great_of c)) (sym (half-still.coherent.safe.eight (suc j) ge)) tt)
      (cases_lt (suc j) 9)

  -- no newest version of a page is above the greatest LSN
  pub newest-within : (p : ℕ) → (newest_of seen leaves c p).lsn ≤ great_of c
  newest-within p = newest-low (λ n. n ≤ great_of c) (cut all_kept (with_disk (tails_of (log_at c)) (disk_page (seen 0)))) p
      (known-low seen leaves Pending.Idle c w.scene.state f.good still (great_of c) (omega arith) last-low p (disk_page (seen 0) p)
      (half-still.coherent.reads p)) log-low

  -- nor is what is shown of one above the world's sums
  pub shown-within : (p : ℕ) → number_shown (w.pages.entry p) (w.pages.number p) ≤ w.bounds.lsns
  shown-within p = by (w.pages.entry p) (λ there. let is = f.pages.number p there in let low = newest-within p in let sums = f.bounds.lsns in
      omega (arith, is, low, sums))
    where
      by : (e : PageEntry) → (is_lost e ≡ false → w.pages.number p ≤ w.bounds.lsns) → number_shown e (w.pages.number p) ≤ w.bounds.lsns
      by PageEntry.Free low = omega arith
      by (PageEntry.Shared set writer) low = low refl
      by (PageEntry.Excl holder dirty) low = low refl
      by (PageEntry.Moving to mode rest dirty) low = low refl
      by PageEntry.Lost low = omega arith

-- ---- and what a crash leaves of it

module _ (leaves : Outcomes) (seen img : rig.DeviceImages) (c : Parts) (w : Core) (f : Fits seen leaves c w) (left : rig.Leaves leaves img) where
  abbrev moved : Keeps
  moved = which c img

  abbrev logs : Logs
  logs = log_by c moved

  abbrev leaves' : Outcomes
  leaves' = leaves_by c moved leaves

  h : Half seen leaves' logs Pending.Idle c w.scene.state
  h = f.good.half moved

  left' : rig.Leaves leaves' img
  left' = left-by seen leaves Pending.Idle c w.scene.state img f.good left

  ready : (j : ℕ) → 1 ≤ j → j ≤ 8 → IsReady j (img j) (logs j)
  ready j low high = h.soundly.ready j low high (img j) (left' j high)

  -- ---- which tails it has

  allowed : Allowed (may_of leaves') (disk_page (img 0))
  allowed p = (img 0, left' 0 (omega arith), refl)

  there : CrashLeaves (tails_of logs) (may_of leaves') (stable img)
  there = record {
    logs = logs-ready logs img h.coherent.eight.0 h.coherent.safe.eight ready;
    disks = λ p. (img 0, left' 0 (omega arith), refl);
  }

  abbrev table : Keeps → ℕ → ℕ → Val
  table keeps = values w.scene.state Pending.Idle (kept_logs (tails_of logs) keeps)

  stands : StandsFor (tails_of logs) table (stable img)
  stands = crashes.stands (may_of leaves') (base_of seen leaves' logs c) (dir_of c) table (stable img) h.coherent h.gives there

  abbrev keeps : Keeps
  keeps = stands.keeps

  log-is : (j : ℕ) → log_of img j ≡ kept_logs (tails_of logs) keeps j
  log-is j = stands.logs j

  newest-is : (p : ℕ) → newest (stable img) p ≡ version_of (tails_of logs) (disk_page (seen 0)) keeps p
  newest-is p = ap (λ (l : ℕ → List Rec). newest (record { logs = l; disk = disk_page (img 0) }) p) (fun_ext log-is)
      ∙ h.coherent.safe.same (disk_page (img 0)) allowed keeps p

  -- ---- how far it goes

  reach : (i : ℕ) → 1 ≤ i → i ≤ 8 → gate_of (kept (img i)) + reserve (log_of img i) ≤ w.bounds.reach i
  reach i low high =
      let most = f.bounds.reach moved i low high in
      ⊎_elim
      (λ s. to (logs i) (base_at (logs i)) (ready i low high).start s refl most.0)
      (λ s. to (forced (logs i)) (all_at (logs i)) ((ready i low high).start ∙ sym (forced-start (logs i))) s (forced-base (logs i)) most.1)
      (ready i low high).either
    where
      to : (l : LogState) (rs : List Rec) → (master (img i)).start ≡ l.start → StandsOn l (img i) → base_at l ≡ rs → l.gate + reserve rs ≤ w.bounds.reach i
          → gate_of (kept (img i)) + reserve (log_of img i) ≤ w.bounds.reach i
      to l rs start s base most =
          let is = kept-is l (img i) start s in
          let gate = ap gate_of is in
          let kept_reserve = ap reserve (log-here img i low high ∙ ap records_of is ∙ base) in
          omega (arith, gate, kept_reserve, most)

  -- ---- LSNs

  owes : owed_by_all img ≤ owed_in_all c
  owes =
      let same : owed_by_all img ≡ owed_with (tails_of logs) keeps =
      ap (λ (l : ℕ → List Rec). sum_by (λ j. owed (l j)) eight) (fun_ext log-is) in
      let most = owed-most (tails_of logs) keeps in
      let all = most-in-all c logs (λ j low high. owes-at-most seen leaves Pending.Idle c w.scene.state f.good moved j low high) in
      omega (arith, same, most, all)

  some : (P : Rec → Type 0) (b : Bool) (xs ys : List Rec) → Each P (xs ++ ys) → Each P (xs ++ cond b ys [])
  some P true xs ys each = each
  some P false xs ys each = append-none xs (Each-front P xs ys each)
    where
      append-none : (zs : List Rec) → Each P zs → Each P (zs ++ [])
      append-none [] e = tt
      append-none (z ∷ zs) e = (e.0, append-none zs e.1)

  lsns-low : (j : ℕ) → Each (λ x. x.lsn ≤ great_of c) (log_of img j)
  lsns-low zero = tt
  lsns-low (suc j) = ⊎_elim
      (λ lt. subst (Each (λ x. x.lsn ≤ great_of c)) (sym (log-is (suc j)))
      (some (λ x. x.lsn ≤ great_of c) (keeps (suc j)) (base_at (logs (suc j))) (tail_at (logs (suc j)))
      (each-by (λ x. x.lsn ≤ great_of c) c moved (suc j) (last-low seen leaves c w f (suc j) (omega arith) (omega (arith, lt))))))
      (λ ge. subst (Each (λ x. x.lsn ≤ great_of c)) (sym (log-past img (suc j) ge)) tt)
      (cases_lt (suc j) 9)

  page-low : (p : ℕ) → (disk_page (img 0) p).lsn ≤ great_of c
  page-low p = known-low seen leaves Pending.Idle c w.scene.state f.good moved (great_of c) (omega arith) (last-low seen leaves c w f) p
      (disk_page (img 0) p) (img 0, left' 0 (omega arith), refl)

  lsns : HaveLsnsTo w.bounds.lsns img
  lsns = record {
    owed = few (great_of c) (owed_by_all img) (owed_in_all c) w.bounds.lsns owes f.bounds.lsns;
    logs = λ j. Each-weaker (λ x. x.lsn ≤ great_of c) (λ x. x.lsn + owed_by_all img ≤ w.bounds.lsns)
        (λ x low. within x.lsn (great_of c) (owed_by_all img) (owed_in_all c) w.bounds.lsns low owes f.bounds.lsns)
        (log_of img j) (lsns-low j);
    pages = λ p lt. within (disk_page (img 0) p).lsn (great_of c) (owed_by_all img) (owed_in_all c) w.bounds.lsns (page-low p) owes f.bounds.lsns;
  }

  pub left-sums : IsWithinSums img w.bounds
  left-sums = record {
    slots = λ p. subst (λ (x : Page). AreWithin (capacities x) (w.bounds.slots p)) (sym (newest-is p)) (f.bounds.slots moved keeps p);
    least = λ p. subst (λ (x : Page). AreAtLeast (capacities x) (w.bounds.least p)) (sym (newest-is p)) (f.bounds.least moved keeps p);
    reach = reach;
    lsns = lsns;
    masters = λ i low high. f.bounds.left_masters i low high (img i) (left i high);
  }

pub left-within : (leaves : Outcomes) → LeftIsWithinSums leaves
left-within leaves seen img c w f left = left-sums leaves seen img c w f left
