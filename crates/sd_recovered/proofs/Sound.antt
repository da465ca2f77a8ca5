-- Devices that pass each check are sound. It serves the goals of reading.rt.
use Rattle.std.proofs.Common.{◌≡◌, inl, inr, ℕ, zero, suc, ◌+◌, ◌^◌, ◌<◌, ◌≤◌, List, [], ◌∷◌, length, sym, ap, ◌∙◌, subst, arith}
use Rattle.std.specs.Prelude.{All, Option, Some, slice_get, unwrap_or, sum_by}
use Rattle.std.specs.Option.{option_map_or}
use Rattle.std.proofs.lemmas.Option.{slice_get_cases}
use Rattle.sd_logrec.specs.View.{flat}
use Rattle.sd_logrec.specs.Kept.{kept}
use Rattle.sd_page.specs.Page.{Page}
use Rattle.sd_log.specs.Logs.{LogState, flats, log_in, scanned}
use Rattle.sd_recovered.specs.declared.losers.Loser.{Loser}
use Rattle.sd_chain.specs.Bytes.{log_of, stable}
use Rattle.sd_chain.specs.Checks.{GroupsAreSound, MasterIsSound, RoomIsLeft, TxnsAreSound, gate_of, owed, owed_by_all, reserve}
use Rattle.sd_chain.specs.Storage.{Storage, newest}
use Rattle.sd_chain.specs.Order.{Tidy}
use Rattle.sd_chain.specs.Records.{Each}
use Rattle.sd_recovered.specs.ReadPages.{image_of}
use Rattle.sd_recovered.specs.UndoPass as undone
use Rattle.sd_recovered.specs.Devices.{devices_of}
use Rattle.sd_recovered.specs.Ends.{EndsFit, HasRoom, IsLogLow, owed_in}
use Rattle.sd_recovered.specs.Reading.{AreRead, LogIsRead}
use Rattle.sd_recovered.proofs.Alike.{logs_alike, newest_alike}
use Rattle.sd_recovered.proofs.Covers.{as_many, covered}
use Rattle.sd_recovered.proofs.Kept.{kept_records}
use Rattle.sd_recovered.proofs.Members.{All-at, Each-flats, in_log, numbers, same_sums}

-- the log of instance k + 1, and its losers
pub record Here (k : ℕ) (device : List ℕ) (logs : List LogState) : Type 0 where
  pub log : LogState
  pub found : List Loser
  pub log_at : slice_get logs k ≡ Some log
  pub read : LogIsRead (suc k) device log found

module _ (x : List ℕ) (ds : List (List ℕ)) (logs : List LogState) (losers : List (List Loser)) (eight : length logs ≡ 8)
    (are : AreRead 1 ds logs losers) where
  pub devices : length ds ≡ 8
  devices = sym (as_many 1 ds logs losers are) ∙ eight

  abbrev pub img : Storage
  img = stable (devices_of (x ∷ ds))

  pub here : (k : ℕ) → k < 8 → Here k (devices_of (x ∷ ds) (suc k)) logs
  here k lt =
      elim (slice_get_cases ds k).1 [
        | inl found ↦
            let c = covered 1 k ds logs losers found.0 are found.2 in
            let device : found.0 ≡ devices_of (x ∷ ds) (suc k) = sym (ap (λ (o : Option (List ℕ)). unwrap_or o []) found.2) in
            let e : 1 + k ≡ suc k = omega arith in
            record {
              log = c.log;
              found = c.found;
              log_at = c.log_at;
              read = subst (λ (d : List ℕ). LogIsRead (suc k) d c.log c.found) device (subst (λ (n : ℕ). LogIsRead n found.0 c.log c.found) e c.read);
            }
        | inr past ↦ absurd (omega (arith, lt, past.0, devices))
      ]

  pub by_instance : (P : ℕ → List ℕ → Type 0) → ((k : ℕ) → k < 8 → P (suc k) (devices_of (x ∷ ds) (suc k)))
      → (j : ℕ) → 1 ≤ j → j ≤ 8 → P j (devices_of (x ∷ ds) j)
  by_instance P f zero lo hi = absurd (omega (arith, lo))
  by_instance P f (suc k) lo hi = f k (omega (arith, hi))

  pub masters : (j : ℕ) → 1 ≤ j → j ≤ 8 → MasterIsSound (devices_of (x ∷ ds) j)
  masters = by_instance (λ j d. MasterIsSound d) (λ k lt. (here k lt).read.master)

  pub groups : (j : ℕ) → 1 ≤ j → j ≤ 8 → GroupsAreSound j (devices_of (x ∷ ds) j)
  groups = by_instance GroupsAreSound (λ k lt. (here k lt).read.groups)

  txns_at : (k : ℕ) → k < 8 → TxnsAreSound (devices_of (x ∷ ds) (suc k))
  txns_at k lt =
      let h = here k lt in
      λ t. subst (Tidy t) (kept_records (devices_of (x ∷ ds) (suc k)) h.log h.read.kept_is h.read.no_tail) (h.read.tidy t)

  pub txns : (j : ℕ) → 1 ≤ j → j ≤ 8 → TxnsAreSound (devices_of (x ∷ ds) j)
  txns = by_instance (λ j d. TxnsAreSound d) txns_at

  pub log_here : (k : ℕ) (log : LogState) → slice_get logs k ≡ Some log → log_in logs (suc k) ≡ flats (scanned log)
  log_here k log at = ap (λ (o : Option LogState). option_map_or (λ l. flats (scanned l)) o []) at

  pub alike : (j : ℕ) → log_of (devices_of (x ∷ ds)) j ≡ log_in logs j
  alike = logs_alike x ds logs losers devices are

  -- the records owed
  pub owed_alike : owed_by_all (devices_of (x ∷ ds)) ≡ owed_in logs
  owed_alike =
      let devs = devices_of (x ∷ ds) in
      let same = same_sums (λ j. owed (log_of devs j)) (λ log. owed (flats (scanned log))) 1 logs
      (λ k log at. ap owed (alike (1 + k) ∙ (let e : 1 + k ≡ suc k = omega arith in ap (log_in logs) e) ∙ log_here k log at)) in
      ap (λ (n : ℕ). sum_by (λ j. owed (log_of devs j)) (numbers 1 n)) (sym eight) ∙ same

  pub is_read : (pages : List Page) → ((p : ℕ) → p < 1024 → slice_get pages p ≡ Some (newest (image_of x logs) p))
      → undone.NewestAreRead img pages logs
  is_read pages newest_is = record {
    pages_are = λ p lt. newest_is p lt ∙ ap (λ (q : Page). Some q) (newest_alike x ds logs losers devices are p);
    logs_are = alike;
  }

  pub room_at : (k : ℕ) → k < 8 → ((log : LogState) → slice_get logs k ≡ Some log → HasRoom log) → RoomIsLeft (suc k) (devices_of (x ∷ ds))
  room_at k lt has =
      let h = here k lt in
      let devs = devices_of (x ∷ ds) in
      let room : HasRoom h.log = has h.log h.log_at in
      let gate : gate_of (kept (devs (suc k))) ≡ h.log.gate = ap gate_of h.read.kept_is in
      let records : log_of devs (suc k) ≡ flats (scanned h.log) = alike (suc k) ∙ log_here k h.log h.log_at in
      let reserved = ap reserve records in
      omega (arith, room, gate, reserved)

  pub room : EndsFit logs → (j : ℕ) → 1 ≤ j → j ≤ 8 → RoomIsLeft j (devices_of (x ∷ ds))
  room fit = by_instance (λ j d. RoomIsLeft j (devices_of (x ∷ ds)))
      (λ k lt. room_at k lt (λ log at. All-at HasRoom logs k log fit.room at))

  pub log_lsns : All (IsLogLow (owed_in logs)) logs → (j : ℕ) → Each (λ r. r.lsn + owed_by_all (devices_of (x ∷ ds)) < 2 ^ 62) (log_of (devices_of (x ∷ ds)) j)
  log_lsns low j =
      subst (Each (λ r. r.lsn + owed_by_all (devices_of (x ∷ ds)) < 2 ^ 62)) (sym (alike j))
      (in_log (Each (λ r. r.lsn + owed_by_all (devices_of (x ∷ ds)) < 2 ^ 62)) logs tt
      (λ k log at. Each-flats (λ r. r.lsn + owed_by_all (devices_of (x ∷ ds)) < 2 ^ 62) (scanned log)
      (subst (λ (n : ℕ). All (λ p. (flat p.rec).lsn + n < 2 ^ 62) (scanned log)) (sym owed_alike)
      (All-at (IsLogLow (owed_in logs)) logs k log low at))) j)
