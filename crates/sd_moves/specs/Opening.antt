-- A complex that is opened from devices: the state of the serial table for which they stand, and what a reading finds on them.
use Rattle.std.specs.Prelude.{◌≡◌, ◌⊎◌, ℕ, zero, suc, ◌<◌, ◌≤◌, Bool, true, false, ◌&&◌, ◌||◌, cond, ltb, List, [], ◌∷◌, Option, None, Some, IfSome, is_some}
use Rattle.std.specs.List.{list_any}
use Rattle.sd_base.specs.Twin.{chosen_body, number_of}
use Rattle.sd_base.specs.declared.ids.TxnId.{TxnId}
use Rattle.sd_base.specs.declared.ids.Rid.{Rid}
use Rattle.sd_base.specs.declared.place.Status.{Status}
use Rattle.sd_base.specs.declared.place.Status.TheVariants as S
use Rattle.sd_logrec.specs.View.{Rec}
use Rattle.sd_log.specs.Logs.{AreSpelled, scanned}
use Rattle.sd_model.specs.Changes.{Reopened}
use Rattle.sd_model.specs.Finishing.{picked}
use Rattle.sd_model.specs.Kept.{Kept}
use Rattle.sd_model.specs.Listed.{Listed}
use Rattle.sd_model.specs.Marks.{Marked}
use Rattle.sd_model.specs.Lives.{LivesAreSound}
use Rattle.sd_model.specs.Recoverers.{Recoverers}
use Rattle.sd_model.specs.Reopening.{reopened}
use Rattle.sd_model.specs.State.{State, now}
use Rattle.sd_model.specs.declared.act.Claim.{Claim}
use Rattle.sd_model.specs.declared.act.Life.{Life}
use Rattle.sd_pagelock.specs.Directory as directory
use Rattle.sd_pagelock.specs.Directory.{asks_at, entry_at, rec_lsn_at}
use Rattle.sd_pagelock.specs.Rows.{nowhere}
use Rattle.sd_reclock.specs.Locks.{held, waits}
use Rattle.sd_rig.specs.Devices as rig
use Rattle.sd_txn.specs.Transactions.{Transaction, txn_at}
use Rattle.sd_txn.specs.declared.state.TxnState.{TxnState}
use Rattle.sd_chain.specs.Bytes.{disk_page, log_of, stable}
use Rattle.sd_chain.specs.Checks.{DevicesAreSound, open_in, owed}
use Rattle.sd_chain.specs.Fates.{Fate, fate, fate_in}
use Rattle.sd_chain.specs.Storage.{Recovered, Storage, chain, newest, opens}
use Rattle.sd_chain.specs.Records.{at}
use Rattle.sd_chain.specs.ChecksKept.{IsRead}
use Rattle.sd_recovered.specs.FirstAbove.{IsFirstAbove}
use Rattle.sd_state.specs.Complexes.{unboxed}
use Rattle.sd_state.specs.Fresh.{empty_pool, for_each}
use Rattle.sd_state.specs.Images.{IsEpochOf, Stands, kept_epoch}
use Rattle.sd_state.specs.Parts.{Begun, IsShape, Parts, count_at, epoch_at, log_at, owed_at, status_at, txns_at}
use Rattle.sd_state.specs.Tables.{IsLogged, lock_of}
use Rattle.sd_state.specs.Values.{Pending, is_committed}
use Rattle.sd_moves.specs.declared.assembling.Restored.{Restored}

-- ---- what an image leaves open

-- it has a record, and no end
abbrev pub is_left : Fate → Bool
is_left Fate.Unknown = false
is_left Fate.Open = true
is_left Fate.Committed = false
is_left Fate.Ended = false

-- the image leaves the transaction open
abbrev pub is_loser : Storage → TxnId → Bool
is_loser img t = is_left (fate_in img t)

-- and so this record, which it changed
abbrev pub has_open : Storage → TxnId → Rid → Bool
has_open img t r = is_loser img t && list_any (at r.page r.slot) (opens img t)

-- who is left open stays to be undone, and nobody else is there
abbrev pub life_in : Storage → TxnId → Life
life_in img t = cond {A = Life} (is_loser img t) Life.Retained Life.Gone

-- with an exclusive claim on each record that it has open
abbrev pub claim_in : Storage → TxnId → Rid → Claim
claim_in img t r = cond {A = Claim} (has_open img t r) Claim.Excl Claim.Free

-- the disk hasn't the newest version of the page, which is one of the data device
abbrev pub is_lost_in : Storage → ℕ → Bool
is_lost_in img p = ltb p 1024 && ltb (img.disk p).lsn (newest img p).lsn

-- of one of the first pages
abbrev pub some_lost : Storage → ℕ → Bool
some_lost img zero = false
some_lost img (suc p) = is_lost_in img p || some_lost img p

-- there is one
abbrev pub is_any : List TxnId → Bool
is_any [] = false
is_any (t ∷ ts) = true

-- an instance whose log leaves a transaction open has something to recover, and each has where a page is lost
abbrev pub is_down_in : Storage → ℕ → Bool
is_down_in img i = is_any (open_in (img.logs i)) || some_lost img 1024

abbrev pub status_in : Storage → ℕ → Status
status_in img i = cond {A = Status} (is_down_in img i) S.Down S.Clean

-- ---- the state of the serial table

-- The devices open to the state: its table is what recovery gives, and its transactions are those that are left open. It is one
-- to which a run leads, as far as the invariant asks for that.
pub record OpensTo (devices : rig.DeviceImages) (m : State) : Type 0 where
  pub table : (p s : ℕ) → Recovered (stable devices) p s (now m (record { page = p; slot = s }))
  pub lives : (t : TxnId) → (m.part t).life ≡ life_in (stable devices) t
  pub claims : (t : TxnId) (r : Rid) → (m.part t).claims r ≡ claim_in (stable devices) t r
  pub marks : (t : TxnId) → (m.part t).marks ≡ []
  pub statuses : (i : ℕ) → 1 ≤ i → i ≤ 8 → (m.inst i).status ≡ status_in (stable devices) i
  pub epochs : (i : ℕ) → 1 ≤ i → i ≤ 8 → IsEpochOf m Pending.Idle i (kept_epoch (devices i))
  pub kept : Kept m
  pub placed : LivesAreSound m
  pub listed : Listed m
  pub marked : Marked m
  pub recoverers : Recoverers m

-- A closed complex that opens again: those in doubt whose Commit is kept are committed, and who is left open stays.
abbrev pub opened_again : rig.DeviceImages → State → State
opened_again devices m = let img = stable devices in
    reopened (picked m (is_committed img.logs)) (is_loser img) (has_open img) (is_down_in img) m

-- Devices that stand for the state of a closed complex open to that, which is a state after its reopening.
abbrev pub ClosedOpensAgain : Type 0
ClosedOpensAgain = (devices : rig.DeviceImages) (m : State) → LivesAreSound m → Listed m → ((i : ℕ) → (m.inst i).status ≡ S.Closed)
    → Stands m Pending.Idle devices
    → Reopened m (opened_again devices m)
    × (Kept (opened_again devices m) → LivesAreSound (opened_again devices m) → Listed (opened_again devices m)
    → Marked (opened_again devices m) → Recoverers (opened_again devices m) → OpensTo devices (opened_again devices m))

-- ---- what a reading finds

-- The row of a transaction that the log leaves open: it is to be undone.
pub record IsLeftRow (x : Transaction) (t : TxnId) (log : List Rec) : Type 0 where
  pub state : x.state ≡ TxnState.Retained
  pub left : fate t log ≡ Fate.Open
  pub logged : IsLogged x t log

-- A table has a row of each, and no other row.
abbrev pub IsLeftIn : Option Transaction → TxnId → List Rec → Type 0
IsLeftIn None t log = (fate t log ≡ Fate.Open) → ⊥
IsLeftIn (Some x) t log = IsLeftRow x t log

-- The RecLSN of a page is the LSN of the first record of its chain above its disk image; it has none where there is no such record.
abbrev pub RecLsnIsFirst : Storage → Parts → ℕ → Type 0
RecLsnIsFirst img c p = IsFirstAbove (chain img p) (img.disk p).lsn (rec_lsn_at c.directory p)

-- The page directory has of each page: whether it is lost; its RecLSN, where it is; and nothing on its way, and no ask.
pub record IsFoundPage (img : Storage) (c : Parts) (p : ℕ) : Type 0 where
  pub entry : entry_at c.directory p ≡ nowhere (is_lost_in img p)
  pub mark : is_some (rec_lsn_at c.directory p) ≡ is_lost_in img p
  pub first : p < 1024 → RecLsnIsFirst img c p
  pub still : directory.moving_image_at c.directory p ≡ None
  pub unasked : asks_at c.directory p ≡ []

-- Of instance j: its log as the device has it, with records of the grammar; a row of whom that leaves open; its status, epoch
-- and the count of its master, 0 where none counts; and what the log owes.
pub record IsFoundInst (devices : rig.DeviceImages) (c : Parts) (j : ℕ) : Type 0 where
  pub log : IsRead (devices j) (log_at c j)
  pub spelled : AreSpelled (scanned (log_at c j))
  pub rows : (t : TxnId) → IsLeftIn (txn_at (txns_at c j) t) t (log_of devices j)
  pub table : (txns_at c j).epoch ≡ 0
  pub status : status_at c j ≡ status_in (stable devices) j
  pub epoch : epoch_at c j ≡ kept_epoch (devices j)
  pub master : IfSome (chosen_body 0 64 (devices j)) (λ body. number_of body ≡ count_at c j)
  pub uncounted : chosen_body 0 64 (devices j) ≡ None → count_at c j ≡ 0
  pub owed : owed_at c j ≡ owed (log_of devices j)

-- a page of the data device has this LSN
abbrev pub IsLsnOfPage : rig.DeviceImages → ℕ → Type 0
IsLsnOfPage devices lsn = (p : ℕ) × (p < 1024) × ((disk_page (devices 0) p).lsn ≡ lsn)

-- The parts of a complex that is opened from these devices, with so many frames in each pool: nobody waits, pools have nothing,
-- all is settled, no checkpoint is begun and no fall is due.
pub record AreOpened (frames : ℕ) (devices : rig.DeviceImages) (c : Parts) : Type 0 where
  pub sound : DevicesAreSound devices
  pub shape : IsShape c
  pub insts : (j : ℕ) → 1 ≤ j → j ≤ 8 → IsFoundInst devices c j
  pub locks : (t : TxnId) (r : Rid) → held c.locks t r ≡ lock_of (claim_in (stable devices) t r)
  pub unwaited : (t : TxnId) → waits c.locks t ≡ None
  pub pages : (p : ℕ) → IsFoundPage (stable devices) c p
  pub disk_lsns : (p : ℕ) → p < 1024 → (disk_page (devices 0) p).lsn ≤ c.disk_lsn
  pub disk_lsn : (c.disk_lsn ≡ 0) ⊎ IsLsnOfPage devices c.disk_lsn
  pub pools : c.pools ≡ for_each (λ i. empty_pool frames) 8
  pub checks : c.checks ≡ for_each {A = Option Begun} (λ i. None) 8
  pub others : c.others ≡ for_each {A = Option ℕ} (λ i. None) 8
  pub loose : c.loose ≡ for_each (λ i. false) 9
  pub due : c.due ≡ None

-- the parts of a complex with what was found, over empty pools
abbrev pub opened_parts : ℕ → Restored → Parts
opened_parts frames found = record {
  logs = found.logs.items;
  pools = for_each (λ i. empty_pool frames) 8;
  txns = found.txns.items;
  statuses = found.statuses.items;
  epochs = found.epochs.items;
  masters = found.masters.items;
  checks = for_each {A = Option Begun} (λ i. None) 8;
  others = for_each {A = Option ℕ} (λ i. None) 8;
  owed = found.owed.items;
  loose = for_each (λ i. false) 9;
  directory = unboxed found.directory;
  locks = found.locks;
  disk_lsn = found.disk_lsn;
  due = None;
}
