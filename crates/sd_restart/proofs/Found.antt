-- What is made of what was read are the parts of a complex that opens: for the goals of restarting.rt.
use Rattle.std.proofs.Common.{◌≡◌, ◌⊎◌, inl, inr, ⊎_elim, ℕ, zero, suc, ◌^◌, ◌<◌, ◌≤◌, Bool, true, false, cond, ◌&&◌, ◌||◌, List, [], ◌∷◌, length, map, get_or, Option, None, Some, refl, sym, ap, ap₂, ◌∙◌, subst, arith, w64}
use Rattle.std.specs.Prelude.{Contains, IfSome, is_some, slice_get, sum_by, unwrap_or}
use Rattle.std.specs.List.{list_any}
use Rattle.std.specs.Option.{option_map}
use Rattle.std.proofs.lemmas.Bool.{cases_lt}
use Rattle.std.proofs.lemmas.List.Sums.{sum_by-cons}
use Rattle.std.proofs.lemmas.List.{get_or-map, length-map}
use Rattle.std.proofs.lemmas.Option.{get_or_from_slice_get, slice_get-get_or, slice_get-map, unwrap_or-slice_get}
use Rattle.sd_base.specs.Twin.{chosen_body, number_of}
use Rattle.sd_base.specs.declared.ids.TxnId.{TxnId}
use Rattle.sd_base.specs.declared.ids.Rid.{Rid}
use Rattle.sd_base.specs.declared.place.Status.{Status}
use Rattle.sd_base.specs.declared.place.Status.TheVariants as S
use Rattle.sd_logrec.specs.declared.record.Record.{Record}
use Rattle.sd_logrec.specs.Kept.{Master, Reading, Whole, area, master, master_of, number_in, reading}
use Rattle.sd_logrec.specs.View.{Rec}
use Rattle.sd_log.specs.declared.placed.Placed.{Placed}
use Rattle.sd_log.specs.Logs.{AreSpelled, LogState, flats, log_in, scanned}
use Rattle.sd_model.specs.declared.act.Claim.{Claim}
use Rattle.sd_pagelock.specs.Rows.{nowhere}
use Rattle.sd_reclock.specs.Locks.{held, waits_in}
use Rattle.sd_rig.specs.Devices as rig
use Rattle.sd_chain.specs.Bytes.{disk_page, log_of, stable}
use Rattle.sd_chain.specs.Checks.{DevicesAreSound, open_in, owed, past_of, placed_of, records_in}
use Rattle.sd_chain.specs.Fates.{fate}
use Rattle.sd_chain.specs.Storage.{Storage, chain}
use Rattle.sd_chain.specs.Records.{at, home, stack}
use Rattle.sd_chain.specs.Undoing.{Member}
use Rattle.sd_chain.proofs.Members.{is-open_in, open_in-is}
use Rattle.sd_recovered.specs.declared.losers.Loser.{Loser}
use Rattle.sd_recovered.specs.Losers.{AreLosers}
use Rattle.sd_recovered.specs.FirstAbove.{IsFirstAbove}
use Rattle.sd_recovered.specs.Masters.{as_master, kept_master, master_in, said}
use Rattle.sd_recovered.specs.declared.master.MasterRecord as memory
use Rattle.sd_chain.specs.ChecksKept as sound
use Rattle.sd_chain.specs.Logs.{after_records, records_at}
use Rattle.sd_chain.proofs.Kept.{forced-idle, log-past}
use Rattle.sd_chain.proofs.Lsns.{scanned-records}
use Rattle.sd_recovered.proofs.OpenStacks.{losers-length}
use Rattle.sd_recovered.specs.Devices.{devices_of, log_devices}
use Rattle.sd_recovered.specs.Reading.{AreRead, LogIsRead, counting}
use Rattle.sd_recovered.specs.declared.reading.ReadDevices.{ReadDevices}
use Rattle.sd_recovered.proofs.Alike.{logs_alike}
use Rattle.sd_recovered.proofs.Covers.{as_many}
use Rattle.sd_recovered.proofs.Members.{All-at}
use Rattle.sd_recovered.proofs.Own.{losers_read}
use Rattle.sd_recovered.proofs.Sound.{Here, here}
use Rattle.sd_state.specs.Images.{kept_epoch}
use Rattle.sd_moves.specs.Opening.{AreOpened, IsFoundInst, IsFoundPage, IsLeftIn, IsLsnOfPage, claim_in, is_any, is_left, is_lost_in, opened_parts, some_lost, status_in}
use Rattle.sd_state.specs.Parts.{IsShape, Parts, count_at, epoch_at, log_at, no_log, no_txns, owed_at, status_at, txns_at}
use Rattle.sd_state.specs.Tables.{lock_of}
use Rattle.sd_moves.specs.declared.assembling.Restored.{Restored}
use Rattle.sd_txn.specs.Transactions.{txn_at}
use Rattle.sd_recovered.specs.UndoPass.{AreLosersOf}
use Rattle.sd_restart.specs.Claims.{AreApart, claimed, has_in}
use Rattle.sd_restart.specs.Made.{IsMade}
use Rattle.sd_restart.specs.Reading.{IsReading, IsTableOf, count_of, epoch_for, is_some_loser, lost_by, rec_at, some_rec, status_for}
use Rattle.sd_restart.proofs.Apart.{sound-apart}
use Rattle.sd_restart.proofs.Claiming.{log-at, losers_at}
use Rattle.sd_restart.proofs.Matching.{matches_at}
use Rattle.sd_restart.proofs.Pages.{lost-is, rec-past, some-lost}
use Rattle.sd_moves.proofs.OpenedPages.{lost-past}

-- ---- the logs that were read

log-alike : (images : List (List ℕ)) (logs : List LogState) (losers : List (List Loser)) → length images ≡ 9 → AreRead 1 (log_devices images) logs losers
    → (j : ℕ) → log_of (devices_of images) j ≡ log_in logs j
log-alike [] logs losers nine are = absurd (omega (arith, nine))
log-alike (x ∷ ds) logs losers nine are = logs_alike x ds logs losers (omega (arith, nine)) are

log-count : (images : List (List ℕ)) (logs : List LogState) (losers : List (List Loser)) → length images ≡ 9 → AreRead 1 (log_devices images) logs losers
    → length logs ≡ 8
log-count [] logs losers nine are = absurd (omega (arith, nine))
log-count (x ∷ ds) logs losers nine are = as_many 1 ds logs losers are ∙ (let n : length ds ≡ 8 = omega (arith, nine) in n)

log-here : (images : List (List ℕ)) (logs : List LogState) (losers : List (List Loser)) → length images ≡ 9 → AreRead 1 (log_devices images) logs losers
    → (k : ℕ) → k < 8 → Here k (devices_of images (suc k)) logs
log-here [] logs losers nine are = absurd (omega (arith, nine))
log-here (x ∷ ds) logs losers nine are = here x ds logs losers (log-count (x ∷ ds) logs losers nine are) are

module _ (images : List (List ℕ)) (o : ReadDevices) (r : IsReading images o) where
  pub alike : (j : ℕ) → log_of (devices_of images) j ≡ log_in o.logs.items j
  alike = log-alike images o.logs.items o.losers.items r.devices.nine r.read

  pub eight : length o.logs.items ≡ 8
  eight = log-count images o.logs.items o.losers.items r.devices.nine r.read

  pub of-losers : AreLosersOf o.logs.items o.losers.items
  of-losers = losers_read 1 (log_devices images) o.logs.items o.losers.items r.read

  pub apart : AreApart o.logs.items
  apart = sound-apart (stable (devices_of images)) o.logs.items r.sound.kept alike

  devices-count : length (log_devices images) ≡ 8
  devices-count = sym (as_many 1 (log_devices images) o.logs.items o.losers.items r.read) ∙ eight

  pub masters-count : length o.masters.items ≡ length o.logs.items
  masters-count = sym (length-map o.masters.items said) ∙ ap length r.masters ∙ length-map (log_devices images) counting
      ∙ devices-count ∙ sym eight

-- ---- one instance

none-open : (log : List Placed) (losers : List Loser) → AreLosers log losers → is_any (open_in (flats log)) ≡ is_some_loser losers
none-open log losers are = go losers are (open_in (flats log)) refl
  where
    go : (ls : List Loser) → AreLosers log ls → (ts : List TxnId) → open_in (flats log) ≡ ts → is_any (open_in (flats log)) ≡ is_some_loser ls
    go [] a [] e = ap is_any e
    go (l ∷ ls) a (t ∷ ts) e = ap is_any e
    go [] a (t ∷ ts) e =
        let o = open_in-is t (flats log) (subst (λ (us : List TxnId). Member t us) (sym e) (inl refl)) in absurd (a.all t o.0 o.1)
    go (l ∷ ls) a [] e = absurd (subst (λ (us : List TxnId). Member l.txn us) e (is-open_in l.txn (flats log) a.each.0.runs a.each.0.there))

read-records : (bytes : List ℕ) (log : LogState) (losers : List Loser) (j : ℕ) → LogIsRead j bytes log losers
    → map (λ p. p.rec) (scanned log) ≡ records_in bytes
read-records bytes log losers j is =
    scanned-records log ∙ ap records_at (forced-idle log is.no_tail)
    ∙ ap (λ (k : Reading). map (λ (p : ℕ × Record). p.1) (placed_of k)) (sym is.kept_is)

read-stands : (bytes : List ℕ) (log : LogState) (losers : List Loser) (j : ℕ) → LogIsRead j bytes log losers → sound.IsRead bytes log
read-stands bytes log losers j is = record {
  start = is.start_is;
  stands = subst (λ s. reading s (area bytes) ≡ Whole log.groups log.gate) (sym is.start_is) is.kept_is;
  tail = is.no_tail;
}

-- the master that was read is the device's
master-is : (m : Option memory.MasterRecord) (body : Option (List ℕ)) → said m ≡ option_map master_in body → as_master m ≡ master_of body
master-is None None e = refl
master-is None (Some body) e = absurd (cc)
master-is (Some m) None e = absurd (cc)
master-is (Some m) (Some body) e = cc

-- a number is told by its first bytes
number-front : (body : List ℕ) → number_in w64 0 body ≡ number_of body
number-front [] = refl
number-front (a ∷ []) = refl
number-front (a ∷ b ∷ []) = refl
number-front (a ∷ b ∷ c ∷ []) = refl
number-front (a ∷ b ∷ c ∷ d ∷ []) = refl
number-front (a ∷ b ∷ c ∷ d ∷ e ∷ []) = refl
number-front (a ∷ b ∷ c ∷ d ∷ e ∷ f ∷ []) = refl
number-front (a ∷ b ∷ c ∷ d ∷ e ∷ f ∷ g ∷ []) = refl
number-front (a ∷ b ∷ c ∷ d ∷ e ∷ f ∷ g ∷ h ∷ rest) = refl

master-count : (m : Option memory.MasterRecord) (body : Option (List ℕ)) → said m ≡ option_map master_in body
    → IfSome body (λ b. number_of b ≡ count_of m)
master-count None None e = tt
master-count None (Some body) e = absurd (cc)
master-count (Some m) None e = tt
master-count (Some m) (Some body) e = let is : kept_master m ≡ master_in body = cc in
    sym (number-front body) ∙ ap (λ (k : Master). k.count) (sym is)

master-none : (m : Option memory.MasterRecord) (body : Option (List ℕ)) → said m ≡ option_map master_in body → body ≡ None → count_of m ≡ 0
master-none None body e none = refl
master-none (Some m) None e none = absurd (cc)
master-none (Some m) (Some body) e none = absurd (cc)

epoch-is : (bytes : List ℕ) (m : Option memory.MasterRecord) (log : LogState) (losers : List Loser) (j : ℕ) → LogIsRead j bytes log losers
    → said m ≡ counting bytes → epoch_for m log ≡ kept_epoch bytes
unfolding master
epoch-is bytes m log losers j is e =
    ap₂ (λ (k : Master) (rs : List Record). (after_records (past_of k) rs).epoch) (master-is m (chosen_body 0 64 bytes) e)
    (read-records bytes log losers j is)

-- ---- what is owed

sum-member : (f : ℕ → ℕ) (xs : List ℕ) (k x : ℕ) → slice_get xs k ≡ Some x → f x ≤ sum_by f xs
sum-member f [] k x at = absurd (cc)
sum-member f (y ∷ ys) zero x at = let same : y ≡ x = cc in let e = ap f same in let s = sum_by-cons f y ys in omega (arith, e, s)
sum-member f (y ∷ ys) (suc k) x at = let ih = sum-member f ys k x at in let s = sum_by-cons f y ys in omega (arith, ih, s)

number-at : (k : ℕ) → k < 8 → slice_get (1 ∷ 2 ∷ 3 ∷ 4 ∷ 5 ∷ 6 ∷ 7 ∷ 8 ∷ []) k ≡ Some (suc k)
number-at zero lt = refl
number-at (suc zero) lt = refl
number-at (suc (suc zero)) lt = refl
number-at (suc (suc (suc zero))) lt = refl
number-at (suc (suc (suc (suc zero)))) lt = refl
number-at (suc (suc (suc (suc (suc zero))))) lt = refl
number-at (suc (suc (suc (suc (suc (suc zero)))))) lt = refl
number-at (suc (suc (suc (suc (suc (suc (suc zero))))))) lt = refl
number-at (suc (suc (suc (suc (suc (suc (suc (suc k)))))))) lt = absurd (omega (arith, lt))

-- a u64 tells what a log of sound devices owes
owed-small : (devices : rig.DeviceImages) → DevicesAreSound devices → (k : ℕ) → k < 8 → owed (log_of devices (suc k)) < 2 ^ 62
owed-small devices s k lt =
    let all = s.lsns.pages 0 (omega arith) in
    let one = sum-member (λ j. owed (log_of devices j)) (1 ∷ 2 ∷ 3 ∷ 4 ∷ 5 ∷ 6 ∷ 7 ∷ 8 ∷ []) k (suc k) (number-at k lt) in
    omega (arith, all, one)

-- ---- the parts

lock-is : (b : Bool) → claimed b None ≡ lock_of (cond {A = Claim} b Claim.Excl Claim.Free)
lock-is true = refl
lock-is false = refl

module _ (images : List (List ℕ)) (o : ReadDevices) (found : Restored) (frames : ℕ) (r : IsReading images o) (m : IsMade o found) where
  abbrev devices : rig.DeviceImages
  devices = devices_of images

  abbrev img : Storage
  img = stable devices

  abbrev c : Parts
  c = opened_parts frames found

  -- ---- instances

  log-found : (k : ℕ) (log : LogState) → slice_get o.logs.items k ≡ Some log → log_at c (suc k) ≡ log
  log-found k log at_k = ap (λ (l : List LogState). get_or l k no_log) m.logs
      ∙ get_or_from_slice_get o.logs.items k log no_log at_k

  records : (k : ℕ) (log : LogState) → slice_get o.logs.items k ≡ Some log → flats (scanned log) ≡ log_of devices (suc k)
  records k log at_k = sym (log-at o.logs.items k log at_k) ∙ sym (alike images o r (suc k))

  table-found : (k : ℕ) (log : LogState) → k < 8 → slice_get o.logs.items k ≡ Some log → IsTableOf (suc k) log (txns_at c (suc k))
  table-found k log lt at_k =
      let n = eight images o r in
      subst (λ (l : LogState). IsTableOf (suc k) l (txns_at c (suc k))) (get_or_from_slice_get o.logs.items k log no_log at_k)
      (matches_at (λ j l t. IsTableOf (suc j) l t) o.logs.items found.txns.items k no_log no_txns m.tables (omega (arith, lt, n)))

  found-losers : (k : ℕ) → k < 8 → (h : Here k (devices (suc k)) o.logs.items) → get_or found.statuses.items k S.Closed
      ≡ status_for (some_rec o.rec_lsns.items) (get_or o.losers.items k [])
  found-losers k lt h =
      let n = losers-length 1 o.logs.items o.losers.items (of-losers images o r) in
      let e = eight images o r in
      ap (λ (l : List Status). get_or l k S.Closed) m.statuses
      ∙ get_or-map (status_for (some_rec o.rec_lsns.items)) o.losers.items k [] S.Closed (omega (arith, lt, n, e))

  losers-here : (k : ℕ) (log : LogState) → slice_get o.logs.items k ≡ Some log → AreLosers (scanned log) (get_or o.losers.items k [])
  losers-here k log at_k =
      let l = losers_at o.logs.items o.losers.items k log (of-losers images o r) at_k in
      subst (AreLosers (scanned log)) (sym (get_or_from_slice_get o.losers.items k l.found [] l.there)) l.are.losers_are

  rec-there : (p : ℕ) → (lt : p < 1024) → rec_at o.rec_lsns.items p ≡ (r.first p lt).lsn
  rec-there p lt = ap (λ (x : Option (Option ℕ)). unwrap_or x None) (r.first p lt).there

  rec-lost : (p : ℕ) → p < 1024 → is_lost_in img p ≡ lost_by o.rec_lsns.items p
  rec-lost p lt =
      let f = r.first p lt in
      lost-is img p r.sound.kept lt f.lsn f.first ∙ ap is_some (sym (rec-there p lt))

  lost-same : (p : ℕ) → is_lost_in img p ≡ lost_by o.rec_lsns.items p
  lost-same p = ⊎_elim (λ lt. rec-lost p lt)
      (λ ge. lost-past img p ge ∙ ap is_some (sym (rec-past o.rec_lsns.items p (let n = r.rec_lsns in omega (arith, ge, n)))))
      (cases_lt p 1024)

  status-found : (k : ℕ) → k < 8 → (h : Here k (devices (suc k)) o.logs.items) → status_at c (suc k) ≡ status_in img (suc k)
  status-found k lt h =
      let ls = get_or o.losers.items k [] in
      let some : is_any (open_in (img.logs (suc k))) ≡ is_some_loser ls =
      ap (λ (xs : List Rec). is_any (open_in xs)) (sym (records k h.log h.log_at))
      ∙ none-open (scanned h.log) ls (losers-here k h.log h.log_at) in
      let lost : some_rec o.rec_lsns.items ≡ some_lost img 1024 = some-lost img o.rec_lsns.items r.rec_lsns rec-lost in
      found-losers k lt h
      ∙ ap₂ (λ (a b : Bool). cond {A = Status} (a || b) S.Down S.Clean) (sym some) lost

  device-at : (k : ℕ) → k < 8 → slice_get (log_devices images) k ≡ Some (devices (suc k))
  device-at k lt = behind images k (let n = r.devices.nine in omega (arith, lt, n))
    where
      behind : (xs : List (List ℕ)) (k : ℕ) → suc k < length xs → slice_get (log_devices xs) k ≡ Some (devices_of xs (suc k))
      behind [] k lt = absurd (omega (arith, lt))
      behind (x ∷ ds) k lt = slice_get-get_or ds k [] (omega (arith, lt)) ∙ ap (λ (d : List ℕ). Some d) (sym (unwrap_or-slice_get ds k []))

  -- the master of an instance
  master-at : (k : ℕ) → k < 8 → (x : Option memory.MasterRecord) → slice_get o.masters.items k ≡ Some x → said x ≡ counting (devices (suc k))
  master-at k lt x at_k =
      let e : Some (said x) ≡ Some (counting (devices (suc k))) =
      sym (ap (option_map said) at_k) ∙ sym (slice_get-map said o.masters.items k) ∙ ap (λ l. slice_get l k) r.masters
      ∙ slice_get-map counting (log_devices images) k ∙ ap (option_map counting) (device-at k lt) in cc

  master-there : (k : ℕ) → k < 8 → slice_get o.masters.items k ≡ Some (get_or o.masters.items k None)
  master-there k lt =
      let n = masters-count images o r in let e = eight images o r in
      slice_get-get_or o.masters.items k None (omega (arith, lt, n, e))

  epoch-found : (k : ℕ) → k < 8 → (h : Here k (devices (suc k)) o.logs.items) → epoch_at c (suc k) ≡ kept_epoch (devices (suc k))
  epoch-found k lt h =
      let x = get_or o.masters.items k None in
      let e = eight images o r in
      let n = m.epochs.many in
      m.epochs.each k h.log (get_or found.epochs.items k 0) h.log_at (slice_get-get_or found.epochs.items k 0 (omega (arith, lt, n, e)))
      x (master-there k lt)
      ∙ epoch-is (devices (suc k)) x h.log h.found (suc k) h.read (master-at k lt x (master-there k lt))

  count-found : (k : ℕ) → k < 8 → count_at c (suc k) ≡ count_of (get_or o.masters.items k None)
  count-found k lt =
      let n = masters-count images o r in let e = eight images o r in
      ap (λ (l : List ℕ). get_or l k 0) m.counts ∙ get_or-map count_of o.masters.items k None 0 (omega (arith, lt, n, e))

  owed-found : (k : ℕ) → k < 8 → (h : Here k (devices (suc k)) o.logs.items) → owed_at c (suc k) ≡ owed (log_of devices (suc k))
  owed-found k lt h =
      let e = eight images o r in
      let n = m.owed.many in
      let is = m.owed.each k h.log (get_or found.owed.items k 0) h.log_at (slice_get-get_or found.owed.items k 0 (omega (arith, lt, n, e))) in
      let same = ap owed (records k h.log h.log_at) in
      let small = owed-small devices r.sound k lt in
      omega (arith, is, same, small)

  inst-found : (k : ℕ) → k < 8 → IsFoundInst devices c (suc k)
  inst-found k lt =
      let h = log-here images o.logs.items o.losers.items r.devices.nine r.read k lt in
      let log = log-found k h.log h.log_at in
      let x = get_or o.masters.items k None in
      let table = table-found k h.log lt h.log_at in
      record {
        log = subst (sound.IsRead (devices (suc k))) (sym log) (read-stands (devices (suc k)) h.log h.found (suc k) h.read);
        spelled = subst (λ (l : LogState). AreSpelled (scanned l)) (sym log) h.read.spelled;
        rows = λ t. subst (IsLeftIn (txn_at (txns_at c (suc k)) t) t) (records k h.log h.log_at) (table.rows t);
        table = table.epoch;
        status = status-found k lt h;
        epoch = epoch-found k lt h;
        master = subst (λ (n : ℕ). IfSome (chosen_body 0 64 (devices (suc k))) (λ body. number_of body ≡ n)) (sym (count-found k lt))
            (master-count x (chosen_body 0 64 (devices (suc k))) (master-at k lt x (master-there k lt)));
        uncounted = λ none. count-found k lt ∙ master-none x (chosen_body 0 64 (devices (suc k))) (master-at k lt x (master-there k lt)) none;
        owed = owed-found k lt h;
      }

  insts-found : (j : ℕ) → 1 ≤ j → j ≤ 8 → IsFoundInst devices c j
  insts-found zero low high = absurd (omega (arith, low))
  insts-found (suc k) low high = inst-found k (omega (arith, high))

  own-log : (j : ℕ) → 1 ≤ j → j ≤ 8 → (log_at c j).inst ≡ j
  own-log zero low high = absurd (omega (arith, low))
  own-log (suc k) low high =
      let h = log-here images o.logs.items o.losers.items r.devices.nine r.read k (omega (arith, high)) in
      ap (λ (l : LogState). l.inst) (log-found k h.log h.log_at) ∙ h.read.inst_is

  own-txns : (j : ℕ) → 1 ≤ j → j ≤ 8 → (txns_at c j).inst ≡ j
  own-txns zero low high = absurd (omega (arith, low))
  own-txns (suc k) low high =
      let h = log-here images o.logs.items o.losers.items r.devices.nine r.read k (omega (arith, high)) in
      (table-found k h.log (omega (arith, high)) h.log_at).inst

  shape : IsShape c
  shape =
      let e = eight images o r in
      let losers = losers-length 1 o.logs.items o.losers.items (of-losers images o r) in
      record {
        logs = ap length m.logs ∙ e;
        pools = refl;
        txns = m.tables.many ∙ e;
        statuses = ap length m.statuses ∙ length-map o.losers.items (status_for (some_rec o.rec_lsns.items)) ∙ losers ∙ e;
        epochs = m.epochs.many ∙ e;
        masters = ap length m.counts ∙ length-map o.masters.items count_of ∙ masters-count images o r ∙ e;
        checks = refl;
        others = refl;
        owed = m.owed.many ∙ e;
        loose = refl;
        own_log = own-log;
        own_txns = own-txns;
      }

  -- ---- locks and pages

  locks-found : (t : TxnId) (q : Rid) → held c.locks t q ≡ lock_of (claim_in img t q)
  locks-found t q = m.claims t q ∙ lock-is (has_in o.logs.items t q)
      ∙ ap (λ (xs : List Rec). lock_of (cond {A = Claim} (is_left (fate t xs) && list_any (at q.page q.slot) (stack t xs)) Claim.Excl Claim.Free))
      (sym (alike images o r (home t)))

  page-found : (p : ℕ) → IsFoundPage img c p
  page-found p = record {
    entry = m.entries p ∙ ap nowhere (sym (lost-same p));
    mark = ap is_some (m.recs p) ∙ sym (lost-same p);
    first = λ lt. subst (IsFirstAbove (chain img p) (img.disk p).lsn) (sym (m.recs p ∙ rec-there p lt)) (r.first p lt).first;
    still = m.still p;
    unasked = m.unasked p;
  }

  lsn-of-page : (found.disk_lsn ≡ 0) ⊎ Contains o.disk_lsns.items found.disk_lsn → (found.disk_lsn ≡ 0) ⊎ IsLsnOfPage devices found.disk_lsn
  lsn-of-page (inl none) = inl none
  lsn-of-page (inr one) =
      let n = r.disk_lsns in
      let lt : one.0 < 1024 = (let w = one.1 in omega (arith, w, n)) in
      inr (one.0, lt, sym (get_or_from_slice_get o.disk_lsns.items one.0 (disk_page (devices 0) one.0).lsn found.disk_lsn (r.disk one.0 lt)) ∙ one.2)

  pub found-opens : AreOpened frames devices c
  found-opens = record {
    sound = r.sound;
    shape = shape;
    insts = insts-found;
    locks = locks-found;
    unwaited = λ t. ap (λ w. waits_in w t) m.unwaited;
    pages = page-found;
    disk_lsns = λ p lt. All-at (λ lsn. lsn ≤ found.disk_lsn) o.disk_lsns.items p (disk_page (devices 0) p).lsn m.most (r.disk p lt);
    disk_lsn = lsn-of-page m.one;
    pools = refl;
    checks = refl;
    others = refl;
    loose = refl;
    due = refl;
  }
