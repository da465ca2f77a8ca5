-- What a reading of nine devices found, and what each part of a complex is made of it.
use Rattle.std.specs.Prelude.{◌≡◌, ℕ, suc, ◌-◌, ◌^◌, ◌<◌, min, Bool, true, false, ◌||◌, cond, List, [], ◌∷◌, Option, None, Some, is_some, length, map, slice_get, unwrap_or}
use Rattle.std.specs.List.{list_any}
use Rattle.sd_base.specs.declared.ids.TxnId.{TxnId}
use Rattle.sd_base.specs.declared.place.Status.{Status}
use Rattle.sd_base.specs.declared.place.Status.TheVariants as S
use Rattle.sd_recovered.specs.declared.losers.Loser.{Loser}
use Rattle.sd_chain.specs.Bytes.{disk_page}
use Rattle.sd_chain.specs.Checks.{DevicesAreSound, owed, past_of}
use Rattle.sd_log.specs.Logs.{LogState, flats, scanned}
use Rattle.sd_recovered.specs.Devices.{AreDevices, HasRecLsn, devices_of, log_devices}
use Rattle.sd_recovered.specs.Reading.{AreRead, counting}
use Rattle.sd_recovered.specs.declared.reading.ReadDevices.{ReadDevices}
use Rattle.sd_recovered.specs.Masters.{as_master, said}
use Rattle.sd_recovered.specs.declared.master.MasterRecord as memory
use Rattle.sd_chain.specs.Logs.{after_records}
use Rattle.sd_moves.specs.Opening.{IsLeftIn}
use Rattle.sd_txn.specs.Transactions.{Transactions, txn_at}

-- What was read from these nine devices, which are sound.
pub record IsReading (images : List (List ℕ)) (o : ReadDevices) : Type 0 where
  pub devices : AreDevices images
  pub sound : DevicesAreSound (devices_of images)
  pub read : AreRead 1 (log_devices images) o.logs.items o.losers.items
  pub masters : map said o.masters.items ≡ map counting (log_devices images)
  pub disk_lsns : length o.disk_lsns.items ≡ 1024
  pub rec_lsns : length o.rec_lsns.items ≡ 1024
  pub disk : (p : ℕ) → p < 1024 → slice_get o.disk_lsns.items p ≡ Some (disk_page (devices_of images 0) p).lsn
  pub first : (p : ℕ) → p < 1024 → HasRecLsn (devices_of images) o.rec_lsns.items p

-- There are as many as of these, and each is made of the one in its place.
pub record Matches {A B : Type 0} (Of : ℕ → A → B → Type 0) (xs : List A) (ys : List B) : Type 0 where
  pub many : length ys ≡ length xs
  pub each : (k : ℕ) (x : A) (y : B) → slice_get xs k ≡ Some x → slice_get ys k ≡ Some y → Of k x y

-- The table of instance j has a row of each whom the log leaves open, and no other; and it counts nothing.
pub record IsTableOf (j : ℕ) (log : LogState) (table : Transactions) : Type 0 where
  pub inst : table.inst ≡ j
  pub epoch : table.epoch ≡ 0
  pub rows : (t : TxnId) → IsLeftIn (txn_at table t) t (flats (scanned log))

-- each of its log; the first log is that of instance 1
abbrev pub AreTables : List LogState → List Transactions → Type 0
AreTables logs tables = Matches (λ k log table. IsTableOf (suc k) log table) logs tables

-- some page has records that the disk lacks
abbrev pub some_rec : List (Option ℕ) → Bool
some_rec recs = list_any is_some recs

abbrev pub rec_at : List (Option ℕ) → ℕ → Option ℕ
rec_at recs p = unwrap_or (slice_get recs p) None

-- the page has records that the disk lacks
abbrev pub lost_by : List (Option ℕ) → ℕ → Bool
lost_by recs p = is_some (rec_at recs p)

abbrev pub is_some_loser : List Loser → Bool
is_some_loser [] = false
is_some_loser (l ∷ ls) = true

-- down with losers, or where a page is lost
abbrev pub status_for : Bool → List Loser → Status
status_for lost losers = cond {A = Status} (is_some_loser losers || lost) S.Down S.Clean

abbrev pub count_of : Option memory.MasterRecord → ℕ
count_of None = 0
count_of (Some m) = m.count

-- the epoch of the log's last Start, or of its master
abbrev pub epoch_for : Option memory.MasterRecord → LogState → ℕ
epoch_for m log = (after_records (past_of (as_master m)) (map (λ p. p.rec) (scanned log))).epoch

-- each log's, with its master
abbrev pub AreEpochs : List (Option memory.MasterRecord) → List LogState → List ℕ → Type 0
AreEpochs masters logs epochs =
    Matches (λ k log epoch. (m : Option memory.MasterRecord) → slice_get masters k ≡ Some m → epoch ≡ epoch_for m log) logs epochs

-- how many records each log owes, as far as a u64 tells
abbrev pub AreOwed : List LogState → List ℕ → Type 0
AreOwed logs ns = Matches (λ k log n. n ≡ min (owed (flats (scanned log))) (2 ^ 64 - 1)) logs ns
