-- A checkpoint that an instance begins: when it may, what is left of a complex then, and the law on it.
use Rattle.std.specs.Prelude.{◌≡◌, ◌↔◌, ℕ, ◌-◌, ◌≤◌, false, Contains, Option, Some, length, slice_set}
use Rattle.sd_base.specs.declared.ids.TxnId.{TxnId}
use Rattle.sd_log.specs.Logs.{last_lsn, scanned}
use Rattle.sd_logrec.specs.declared.record.Record.TheVariants as records
use Rattle.sd_logrec.specs.Spelling.{AreRecs, AreSpans}
use Rattle.sd_model.specs.State.{State}
use Rattle.sd_pagelock.specs.Directory.{rec_lsn_at}
use Rattle.sd_rig.specs.Devices as rig
use Rattle.sd_txn.specs.Transactions.{span_at}
use Rattle.sd_chain.specs.Logs.{Outcomes, next_lsn}
use Rattle.sd_state.specs.Good.{Good, TakesCheck}
use Rattle.sd_state.specs.Parts.{Begun, Parts, is_loose, log_at, low_of, status_at, txns_at}
use Rattle.sd_state.specs.Values.{Pending}
use Rattle.sd_update.specs.Sealing.{with_more}

-- i, which is up or restarting and has a settled log, may begin this checkpoint, once its begin is in the log: its low is at most
-- the first LSN of each transaction that has a record, and the RecLSN of each page, whoever has that; its tables have a spelling,
-- of at most 64 transactions.
pub record MayBeginCheck (i : ℕ) (k : Begun) (c : Parts) : Type 0 where
  pub low : 1 ≤ i
  pub high : i ≤ 8
  pub takes : TakesCheck (status_at c i)
  pub settled : is_loose c i ≡ false
  pub firsts : (t : TxnId) (s : ℕ × ℕ) → span_at (txns_at c i) t ≡ Some s → low_of k ≤ s.0
  pub recs : (p l : ℕ) → rec_lsn_at c.directory p ≡ Some l → low_of k ≤ l
  pub spelled : AreSpans k.spans × AreRecs k.recs × (length k.spans ≤ 64)
  pub begun : k.begin ≤ last_lsn (scanned (log_at c i))

-- i has begun this checkpoint
abbrev pub with_check : ℕ → Begun → Parts → Parts
with_check i k c = record c { checks = slice_set {A = Option Begun} c.checks (i - 1) (Some k) }

-- The complex stays good with it.
abbrev pub CheckIsGood : Outcomes → Type 0
CheckIsGood leaves = (i : ℕ) (k : Begun) (seen : rig.DeviceImages) (c : Parts) (m : State) → Good seen leaves Pending.Idle c m
    → leaves i (seen i) → MayBeginCheck i k c → Good seen leaves Pending.Idle (with_check i k c) m

-- The tables of a checkpoint are exactly these: who has a record, with the LSNs of its first and its last; and which pages are
-- changed, with their RecLSNs. They have a spelling, of at most 64 transactions.
pub record HasTables (span : TxnId → Option (ℕ × ℕ)) (rec_lsn : ℕ → Option ℕ) (k : Begun) : Type 0 where
  pub spans : (t : TxnId) (s : ℕ × ℕ) → Contains k.spans (t, s.0, s.1) ↔ (span t ≡ Some s)
  pub recs : (p l : ℕ) → Contains k.recs (p, l) ↔ (rec_lsn p ≡ Some l)
  pub spelled : AreSpans k.spans × AreRecs k.recs × (length k.spans ≤ 64)

-- i has begun a checkpoint with the tables of its transactions and of all pages, whoever has them; its log has the begin.
pub record HasBegun (i : ℕ) (old new : Parts) : Type 0 where
  pub k : Begun
  pub begin : k.begin ≡ next_lsn (log_at old i) 0
  pub tables : HasTables (span_at (txns_at old i)) (rec_lsn_at old.directory) k
  pub is : new ≡ with_check i k (with_more i (records.BeginCheck k.begin) (log_at new i).spare old)
