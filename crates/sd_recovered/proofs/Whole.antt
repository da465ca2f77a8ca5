-- The checks together: all pass exactly where the devices are sound. It serves the goals of reading.rt.
use Rattle.std.proofs.Common.{◌≡◌, inl, inr, ⊎_elim, ℕ, suc, ◌+◌, ◌^◌, ◌<◌, ◌≤◌, List, [], ◌∷◌, length, sym, ap, ◌∙◌, subst, arith}
use Rattle.std.specs.Prelude.{All, Option, Some, slice_get, unwrap_or}
use Rattle.std.proofs.lemmas.Bool.{cases_lt}
use Rattle.std.proofs.lemmas.Option.{slice_get_within}
use Rattle.sd_base.specs.declared.ids.TxnId.{TxnId}
use Rattle.sd_logrec.specs.Kept.{kept}
use Rattle.sd_page.specs.Page.{Page}
use Rattle.sd_log.specs.Logs.{AreSpelled, LogState, log_in, scanned}
use Rattle.sd_recovered.specs.declared.losers.Loser.{Loser}
use Rattle.sd_chain.specs.Bytes.{log_of}
use Rattle.sd_chain.specs.Checks.{DevicesAreSound, GroupsAreSound, LsnsAreLeft, MasterIsSound, RoomIsLeft, TxnsAreSound, TwinIsSound, gate_of, owed_by_all, reserve}
use Rattle.sd_chain.specs.Storage.{Open, StackFits, Storage, chain, newest}
use Rattle.sd_chain.specs.Pages.{FitAll}
use Rattle.sd_chain.specs.Records.{Each}
use Rattle.sd_recovered.specs.ReadPages.{ChainFits, IsUnsound, image_of}
use Rattle.sd_recovered.specs.UndoPass as undone
use Rattle.sd_recovered.specs.Devices.{devices_of}
use Rattle.sd_recovered.specs.Ends.{EndsFit, HasRoom, IsLogLow, IsPageLow, owed_in}
use Rattle.sd_recovered.specs.Reading.{AreRead, SomeUnread}
use Rattle.sd_recovered.proofs.Alike.{chain_alike}
use Rattle.sd_recovered.proofs.Chains.{disk_below, newest_lsn, no_chain}
use Rattle.sd_recovered.proofs.Covers.{found_unread}
use Rattle.sd_recovered.proofs.DiskPages.{disk_within}
use Rattle.sd_recovered.proofs.Members.{All-at, All-flats, All-from_each}
use Rattle.sd_recovered.proofs.Sound as parts

-- nor are devices of which one breaks a check of a log
pub some_bad : (x : List ℕ) (ds : List (List ℕ)) → length ds ≡ 8 → SomeUnread 1 ds → DevicesAreSound (devices_of (x ∷ ds)) → ⊥
some_bad x ds eight some sound =
    let u = found_unread 1 ds some in
    let lt = slice_get_within ds u.index u.device u.device_at in
    let lo : 1 ≤ suc u.index = omega arith in
    let hi : suc u.index ≤ 8 = omega (arith, lt, eight) in
    let same : devices_of (x ∷ ds) (suc u.index) ≡ u.device = ap (λ (o : Option (List ℕ)). unwrap_or o []) u.device_at in
    let e : suc u.index ≡ 1 + u.index = omega arith in
    u.bad (subst MasterIsSound same (sound.masters (suc u.index) lo hi))
    (subst (λ (n : ℕ). GroupsAreSound n u.device) e (subst (GroupsAreSound (suc u.index)) same (sound.groups (suc u.index) lo hi)))
    (subst TxnsAreSound same (sound.txns (suc u.index) lo hi))

-- a page that can't be read is one of devices that aren't sound
pub no_unsound : (x : List ℕ) (ds : List (List ℕ)) (logs : List LogState) (losers : List (List Loser)) → length logs ≡ 8
    → AreRead 1 ds logs losers → (p : ℕ) → p < 1024 → IsUnsound p x (image_of x logs) → DevicesAreSound (devices_of (x ∷ ds)) → ⊥
no_unsound x ds logs losers eight are p lt (inl twin) sound = twin (sound.twins p lt)
no_unsound x ds logs losers eight are p lt (inr bad) sound =
    let img = parts.img x ds logs losers eight are in
    bad (subst (FitAll (img.disk p).lsn (img.disk p)) (sym (chain_alike x ds logs losers (parts.devices x ds logs losers eight are) are p)) (sound.kept.pages p))

module _ (x : List ℕ) (ds : List (List ℕ)) (logs : List LogState) (losers : List (List Loser)) (eight : length logs ≡ 8)
    (are : AreRead 1 ds logs losers) (pages : List Page)
    (newest_is : (p : ℕ) → p < 1024 → slice_get pages p ≡ Some (newest (image_of x logs) p)) where
  abbrev pub img : Storage
  img = parts.img x ds logs losers eight are

  pub is_read : undone.NewestAreRead img pages logs
  is_read = parts.is_read x ds logs losers eight are pages newest_is

  alike : (j : ℕ) → log_of (devices_of (x ∷ ds)) j ≡ log_in logs j
  alike = parts.alike x ds logs losers eight are

  pub same_chain : (p : ℕ) → chain (image_of x logs) p ≡ chain img p
  same_chain = chain_alike x ds logs losers (parts.devices x ds logs losers eight are) are

  fits : ((p : ℕ) → p < 1024 → ChainFits (image_of x logs) p) → All (λ log. AreSpelled (scanned log)) logs
      → (p : ℕ) → FitAll (img.disk p).lsn (img.disk p) (chain img p)
  fits fit spelled p =
      ⊎_elim
      (λ lt. subst (FitAll (img.disk p).lsn (img.disk p)) (same_chain p) (fit p lt))
      (λ le. subst (FitAll (img.disk p).lsn (img.disk p)) (sym (no_chain img logs p le spelled alike)) tt)
      (cases_lt p 1024)

  page_lsns : ((p : ℕ) → p < 1024 → ChainFits (image_of x logs) p) → All (IsPageLow (owed_in logs)) pages
      → (p : ℕ) → p < 1024 → (img.disk p).lsn + owed_by_all (devices_of (x ∷ ds)) < 2 ^ 62
  page_lsns fit low p lt =
      let top = All-at (IsPageLow (owed_in logs)) pages p (newest (image_of x logs) p) low (newest_is p lt) in
      let below = disk_below (image_of x logs) p (fit p lt) in
      let same = parts.owed_alike x ds logs losers eight are in
      omega (arith, top, below, same)

  pub lsns_left : ((p : ℕ) → p < 1024 → ChainFits (image_of x logs) p) → All (IsPageLow (owed_in logs)) pages
      → All (IsLogLow (owed_in logs)) logs → LsnsAreLeft (devices_of (x ∷ ds))
  lsns_left fit low lows = record { logs = parts.log_lsns x ds logs losers eight are lows; pages = page_lsns fit low }

  pub passed : length x ≡ 2099200 → All (λ log. AreSpelled (scanned log)) logs → ((p : ℕ) → p < 1024 → TwinIsSound p x)
      → ((p : ℕ) → p < 1024 → ChainFits (image_of x logs) p) → ((t : TxnId) → Open img t → StackFits img t)
      → All (IsPageLow (owed_in logs)) pages → EndsFit logs → DevicesAreSound (devices_of (x ∷ ds))
  passed size spelled twins fit stacks low ends = record {
    masters = parts.masters x ds logs losers eight are;
    groups = parts.groups x ds logs losers eight are;
    txns = parts.txns x ds logs losers eight are;
    twins = twins;
    kept = record { disks = disk_within x size twins; pages = fits fit spelled; stacks = stacks };
    room = parts.room x ds logs losers eight are ends;
    lsns = lsns_left fit low ends.records;
  }

  -- the other way round

  pub low_pages : length pages ≡ 1024 → LsnsAreLeft (devices_of (x ∷ ds)) → All (IsPageLow (owed_in logs)) pages
  low_pages count left =
      All-from_each (IsPageLow (owed_in logs)) pages
      (λ p page at.
      let lt = slice_get_within pages p page at in
      let few : p < 1024 = omega (arith, lt, count) in
      let same : newest (image_of x logs) p ≡ page = one_page (newest_is p few) at in
      subst (λ (q : Page). q.lsn + owed_in logs < 2 ^ 62) same
      (newest_lsn (λ l. l + owed_in logs < 2 ^ 62) (image_of x logs) p
      (subst (λ (n : ℕ). (img.disk p).lsn + n < 2 ^ 62) (parts.owed_alike x ds logs losers eight are) (left.pages p few))
      (λ j. subst (Each (λ r. r.lsn + owed_in logs < 2 ^ 62)) (alike j)
      (subst (λ (n : ℕ). Each (λ r. r.lsn + n < 2 ^ 62) (log_of (devices_of (x ∷ ds)) j)) (parts.owed_alike x ds logs losers eight are)
      (left.logs j)))))
    where
      one_page : {o : Option Page} {a b : Page} → o ≡ Some a → o ≡ Some b → a ≡ b
      one_page e f = cc

  pub low_logs : LsnsAreLeft (devices_of (x ∷ ds)) → All (IsLogLow (owed_in logs)) logs
  low_logs left = All-from_each (IsLogLow (owed_in logs)) logs (λ k log at.
      All-flats (λ r. r.lsn + owed_in logs < 2 ^ 62) (scanned log)
      (subst (Each (λ r. r.lsn + owed_in logs < 2 ^ 62)) (alike (suc k) ∙ parts.log_here x ds logs losers eight are k log at)
      (subst (λ (n : ℕ). Each (λ r. r.lsn + n < 2 ^ 62) (log_of (devices_of (x ∷ ds)) (suc k))) (parts.owed_alike x ds logs losers eight are)
      (left.logs (suc k)))))

  -- the log of an instance, at its next gate
  pub gate_at : (k : ℕ) (log : LogState) → slice_get logs k ≡ Some log → gate_of (kept (devices_of (x ∷ ds) (suc k))) ≡ log.gate
  gate_at k log at =
      let lt = slice_get_within logs k log at in
      let h = parts.here x ds logs losers eight are k (omega (arith, lt, eight)) in
      let same : h.log ≡ log = one_log h.log_at at in
      ap gate_of h.read.kept_is ∙ ap (λ (l : LogState). l.gate) same
    where
      one_log : {o : Option LogState} {a b : LogState} → o ≡ Some a → o ≡ Some b → a ≡ b
      one_log e f = cc

  pub has_room : (k : ℕ) (log : LogState) → slice_get logs k ≡ Some log → RoomIsLeft (suc k) (devices_of (x ∷ ds)) → HasRoom log
  has_room k log at left =
      let gate = gate_at k log at in
      let reserved = ap reserve (alike (suc k) ∙ parts.log_here x ds logs losers eight are k log at) in
      omega (arith, left, gate, reserved)

  pub ends : DevicesAreSound (devices_of (x ∷ ds)) → EndsFit logs
  ends sound = record {
    records = low_logs sound.lsns;
    room = All-from_each HasRoom logs (λ k log at.
        let lt = slice_get_within logs k log at in
        let few : k < 8 = omega (arith, lt, eight) in
        has_room k log at (sound.room (suc k) (omega arith) (omega (arith, few))));
  }
