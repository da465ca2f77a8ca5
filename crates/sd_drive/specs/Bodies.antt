-- What a hall tells of its instances, pages and transactions, whether its complex is open or closed.
use Rattle.std.specs.Prelude.{ℕ, List, [], Option, None, Some}
use Rattle.sd_base.specs.declared.ids.TxnId.{TxnId}
use Rattle.sd_base.specs.declared.place.Status.{Status}
use Rattle.sd_base.specs.declared.place.Status.TheVariants as S
use Rattle.sd_pagelock.specs.declared.queue.Ask.{Ask}
use Rattle.sd_pagelock.specs.Directory.{asks_at, entry_at}
use Rattle.sd_pagelock.specs.Places.{PageEntry}
use Rattle.sd_state.specs.Complexes.{parts}
use Rattle.sd_state.specs.Parts.{status_at, txns_at}
use Rattle.sd_txn.specs.Transactions.{depth_at}
use Rattle.sd_fits.specs.declared.body.Body.{Body}

-- how an instance stands
abbrev pub status_in : {G : Type 0} → Option (Body G) → ℕ → Status
status_in None i = S.Closed
status_in (Some (Body.Open c)) i = status_at (parts c) i
status_in (Some (Body.Closed rig shape)) i = S.Closed

-- where a page is
abbrev pub entry_in : {G : Type 0} → Option (Body G) → ℕ → PageEntry
entry_in None p = PageEntry.Free
entry_in (Some (Body.Open c)) p = entry_at (parts c).directory p
entry_in (Some (Body.Closed rig shape)) p = PageEntry.Free

-- who asks for it
abbrev pub asks_in : {G : Type 0} → Option (Body G) → ℕ → List Ask
asks_in None p = []
asks_in (Some (Body.Open c)) p = asks_at (parts c).directory p
asks_in (Some (Body.Closed rig shape)) p = []

-- how many of a transaction's records are open
abbrev pub depth_in : {G : Type 0} → Option (Body G) → TxnId → ℕ
depth_in None t = 0
depth_in (Some (Body.Open c)) t = depth_at (txns_at (parts c) t.inst) t
depth_in (Some (Body.Closed rig shape)) t = 0
