-- A device that is settled: it is synced, and a log is read again from it.
use Rattle.std.specs.Prelude.{◌≡◌, ℕ, ◌-◌, false, List, Option, None, option_map, slice_set}
use Rattle.sd_base.specs.declared.ids.TxnId.{TxnId}
use Rattle.sd_logrec.specs.Kept.{master}
use Rattle.sd_logrec.specs.View.{Rec}
use Rattle.sd_log.specs.Logs.{AreSpelled, scanned}
use Rattle.sd_txn.specs.Owing.{owed_of, reserve_of}
use Rattle.sd_txn.specs.Transactions.{IsUnresolved, Transaction, Transactions, txn_at}
use Rattle.sd_chain.specs.Checks.{open_in, owed, reserve}
use Rattle.sd_chain.specs.Undoing.{Member}
use Rattle.sd_recovered.specs.Kept.{as_transaction}
use Rattle.sd_chain.specs.ChecksKept.{IsRead}
use Rattle.sd_chain.specs.Logs.{base_at}
use Rattle.sd_state.specs.Images.{kept_epoch}
use Rattle.sd_moves.specs.declared.reread.Reread.{Reread}
use Rattle.sd_state.specs.Parts.{Parts, count_at, epoch_at, log_at, owed_at, txns_at}

-- a row of a table as its log has it; how its transaction stands stays
abbrev pub row_again : List Rec → TxnId → Option Transaction → Option Transaction
row_again log t row = option_map (λ x. as_transaction log t x.state) row

-- the table has whom the log leaves open
abbrev pub HasOpen : List Rec → Transactions → Type 0
HasOpen log table = (t : TxnId) → Member t (open_in log) → IsUnresolved table t

-- Whom the table had the new one has, standing so, with what the log has of them, and nobody else. It knows of no begin; and
-- where the old one had whom the log leaves open, it owes what the log does.
pub record IsRelisted (i : ℕ) (log : List Rec) (old new : Transactions) : Type 0 where
  pub rows : (t : TxnId) → txn_at new t ≡ row_again log t (txn_at old t)
  pub inst : new.inst ≡ i
  pub epoch : new.epoch ≡ 0
  pub begins : new.begins ≡ 0
  pub owes : HasOpen log old → owed_of new ≡ owed log
  pub reserves : HasOpen log old → reserve_of new ≡ reserve log

-- What `new` has of instance i was read from these bytes of its device: the log from its master's start place on, without a
-- tail; the table by that log; the epoch of its last Start, or its master's; its master's count; and what the log owes.
pub record IsReread (i : ℕ) (bytes : List ℕ) (c new : Parts) : Type 0 where
  pub log : IsRead bytes (log_at new i)
  pub inst : (log_at new i).inst ≡ i
  pub spelled : AreSpelled (scanned (log_at new i))
  pub table : IsRelisted i (base_at (log_at new i)) (txns_at c i) (txns_at new i)
  pub epoch : epoch_at new i ≡ kept_epoch bytes
  pub count : count_at new i ≡ (master bytes).count
  pub owed : owed_at new i ≡ owed (base_at (log_at new i))

-- the log of i is settled, and begins at one place; log, table, epoch, the count of its master and what it owes are those of
-- `new`
abbrev pub with_reread : ℕ → Parts → Parts → Parts
with_reread i new c = record c {
  logs = slice_set c.logs (i - 1) (log_at new i);
  txns = slice_set c.txns (i - 1) (txns_at new i);
  epochs = slice_set c.epochs (i - 1) (epoch_at new i);
  masters = slice_set c.masters (i - 1) (count_at new i);
  others = slice_set {A = Option ℕ} c.others (i - 1) None;
  owed = slice_set c.owed (i - 1) (owed_at new i);
  loose = slice_set c.loose i false;
}

-- ---- what a reading finds

-- What is read of instance i, of these bytes of its device: as `IsReread` says it of parts.
pub record IsFoundAgain (i : ℕ) (bytes : List ℕ) (old : Transactions) (found : Reread) : Type 0 where
  pub log : IsRead bytes found.log
  pub inst : found.log.inst ≡ i
  pub spelled : AreSpelled (scanned found.log)
  pub table : IsRelisted i (base_at found.log) old found.table
  pub epoch : found.epoch ≡ kept_epoch bytes
  pub count : found.count ≡ (master bytes).count
  pub owed : found.owed ≡ owed (base_at found.log)

-- instance i has it, and its log is settled
abbrev pub with_found : ℕ → Reread → Parts → Parts
with_found i found c = record c {
  logs = slice_set c.logs (i - 1) found.log;
  txns = slice_set c.txns (i - 1) found.table;
  epochs = slice_set c.epochs (i - 1) found.epoch;
  masters = slice_set c.masters (i - 1) found.count;
  others = slice_set {A = Option ℕ} c.others (i - 1) None;
  owed = slice_set c.owed (i - 1) found.owed;
  loose = slice_set c.loose i false;
}
