-- The bytes of a log record. Numbers are unsigned, the highest byte first.
--
--   type  record      fields behind the type (1 byte) and the LSN (8)
--   1     Start       epoch (4)
--   2     Update      transaction, previous LSN (8), page (4), slot (2), capacity (2), value before, value after
--   3     Clr         transaction, previous LSN (8), LSN to undo next (8), page (4), slot (2), value after
--   4     Commit      transaction, previous LSN (8)
--   5     End         transaction, previous LSN (8)
--   6     BeginCheck
--   7     EndCheck    LSN of the BeginCheck (8), count of transactions (2), each with its first and last LSN (8, 8),
--                     count of pages (2), each page (4) with its RecLSN (8)
--
-- A transaction is its instance (1), the epoch (4) and its number in it (4). A value is its length (2) and its bytes,
-- or the length 65,535 for none.
use Rattle.std.specs.Prelude.{◌<◌, ◌≤◌, ℕ, ◌+◌, ◌*◌, ◌^◌, Bool, true, IsTrue, nat_lt, ◌==◌, ◌&&◌, if◌then◌else◌, List, [], ◌∷◌, ◌++◌, length, Option, None, Some}
use Rattle.std.specs.List.{flat_map, AllByRecursion}
use Rattle.std.specs.Int.{w16, w32, w64, to_be_bytes}
use Rattle.sd_base.specs.Values.{size}
use Rattle.sd_base.specs.declared.ids.TxnId.{TxnId}
use Rattle.sd_logrec.specs.declared.record.Record.{Record}
use Rattle.sd_logrec.specs.declared.record.Record.TheVariants as records

-- a transaction of a checkpoint, with its first and its last LSN
abbrev pub Span : Type 0
Span = TxnId × ℕ × ℕ

-- a page of a checkpoint, with its RecLSN
abbrev pub Changed : Type 0
Changed = ℕ × ℕ

-- a number in one byte
abbrev pub one : ℕ → List ℕ
one n = n ∷ []

-- a number in two bytes
unfoldable pub two : ℕ → List ℕ
two n = to_be_bytes w16 n

-- a number in four bytes
unfoldable pub four : ℕ → List ℕ
four n = to_be_bytes w32 n

-- a number in eight bytes
unfoldable pub eight : ℕ → List ℕ
eight n = to_be_bytes w64 n

abbrev pub transaction : TxnId → List ℕ
transaction txn = one txn.inst ++ (four txn.epoch ++ four txn.seq)

-- a value, or none
abbrev pub value : Option (List ℕ) → List ℕ
value None = two 65535
value (Some bytes) = two (length bytes) ++ bytes

abbrev pub span : Span → List ℕ
span s = transaction s.0 ++ (eight s.1 ++ eight s.2)

abbrev pub changed : Changed → List ℕ
changed c = four c.0 ++ eight c.1

-- a list: its count, and each item
abbrev pub counted : {A : Type 0} → (A → List ℕ) → List A → List ℕ
counted item items = two (length items) ++ flat_map item items

-- a record of this type and LSN, with these fields
abbrev pub row : ℕ → ℕ → List ℕ → List ℕ
row type lsn fields = one type ++ (eight lsn ++ fields)

-- the spelling of a record
abbrev pub spelling : Record → List ℕ
spelling (records.Start lsn epoch) = row 1 lsn (four epoch)
spelling (records.Update lsn txn prev page slot capacity before after) = row 2 lsn (transaction txn ++ (eight prev ++ (four page ++ (two slot ++ (two capacity ++ (value before ++ value after))))))
spelling (records.Clr lsn txn prev undo_next page slot after) = row 3 lsn (transaction txn ++ (eight prev ++ (eight undo_next ++ (four page ++ (two slot ++ value after)))))
spelling (records.Commit lsn txn prev) = row 4 lsn (transaction txn ++ eight prev)
spelling (records.End lsn txn prev) = row 5 lsn (transaction txn ++ eight prev)
spelling (records.BeginCheck lsn) = row 6 lsn []
spelling (records.EndCheck lsn begin spans recs) = row 7 lsn (eight begin ++ (counted span spans ++ counted changed recs))

-- an LSN that a record may have
abbrev pub IsLsn : ℕ → Type 0
IsLsn n = (1 ≤ n) × (n < 2 ^ 62)

-- an epoch, or a number in it
abbrev pub IsOrdinal : ℕ → Type 0
IsOrdinal n = (1 ≤ n) × (n < 2 ^ 32)

pub record IsTxn (txn : TxnId) : Type 0 where
  pub low : 1 ≤ txn.inst
  pub high : txn.inst ≤ 8
  pub epoch : IsOrdinal txn.epoch
  pub seq : IsOrdinal txn.seq

-- at most 256 bytes, or none
abbrev pub IsValue : Option (List ℕ) → Type 0
IsValue None = Unit {0}
IsValue (Some bytes) = length bytes ≤ 256

-- the order of transactions: by instance, then by epoch, then by number
abbrev pub is_before : TxnId → TxnId → Bool
is_before t u = if t.inst == u.inst then (if t.epoch == u.epoch then nat_lt t.seq u.seq else nat_lt t.epoch u.epoch) else nat_lt t.inst u.inst

-- each item is before the next
abbrev pub is_rising : {A : Type 0} → (A → A → Bool) → List A → Bool
is_rising before [] = true
is_rising before (x ∷ []) = true
is_rising before (x ∷ (y ∷ ys)) = before x y && is_rising before (y ∷ ys)

-- transactions in their order, each once
pub record AreSpans (spans : List Span) : Type 0 where
  pub count : length spans < 2 ^ 16
  pub each : AllByRecursion (λ s. IsTxn s.0 × (s.1 < 2 ^ 64) × (s.2 < 2 ^ 64)) spans
  pub rising : IsTrue (is_rising (λ s t. is_before s.0 t.0) spans)

-- pages in their order, each once
pub record AreRecs (recs : List Changed) : Type 0 where
  pub count : length recs < 2 ^ 16
  pub each : AllByRecursion (λ c. (c.0 < 1024) × (c.1 < 2 ^ 64)) recs
  pub rising : IsTrue (is_rising (λ c d. nat_lt c.0 d.0) recs)

-- the records that have a spelling
abbrev pub HasSpelling : Record → Type 0
HasSpelling (records.Start lsn epoch) = IsLsn lsn × IsOrdinal epoch
HasSpelling (records.Update lsn txn prev page slot capacity before after) = IsLsn lsn × IsTxn txn × (prev < 2 ^ 64) × (page < 1024) × (slot < 168) × (capacity ≤ 256) × IsValue before × IsValue after
HasSpelling (records.Clr lsn txn prev undo_next page slot after) = IsLsn lsn × IsTxn txn × (prev < 2 ^ 64) × (undo_next < 2 ^ 64) × (page < 1024) × (slot < 168) × IsValue after
HasSpelling (records.Commit lsn txn prev) = IsLsn lsn × IsTxn txn × (prev < 2 ^ 64)
HasSpelling (records.End lsn txn prev) = IsLsn lsn × IsTxn txn × (prev < 2 ^ 64)
HasSpelling (records.BeginCheck lsn) = IsLsn lsn
HasSpelling (records.EndCheck lsn begin spans recs) = IsLsn lsn × (begin < 2 ^ 64) × AreSpans spans × AreRecs recs

-- the length of a spelling
abbrev pub spelled_length : Record → ℕ
spelled_length (records.Start lsn epoch) = 13
spelled_length (records.Update lsn txn prev page slot capacity before after) = 38 + size before + size after
spelled_length (records.Clr lsn txn prev undo_next page slot after) = 42 + size after
spelled_length (records.Commit lsn txn prev) = 26
spelled_length (records.End lsn txn prev) = 26
spelled_length (records.BeginCheck lsn) = 9
spelled_length (records.EndCheck lsn begin spans recs) = 21 + 25 * length spans + 12 * length recs
