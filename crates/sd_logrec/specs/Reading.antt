-- Reading from left to right: what stands at the front, and the bytes behind it, where it stands there.
use Rattle.std.specs.Prelude.{◌≡◌, ℕ, zero, suc, Bool, nat_lt, nat_le, ◌==◌, ◌&&◌, if◌then◌else◌, List, [], ◌∷◌, length, take, drop, Option, Some, None, Result, Ok, Err, option_map, option_and_then}
use Rattle.std.specs.Int.{Width, w16, w32, w64, byte_len, from_be_bytes}
use Rattle.sd_base.specs.declared.ids.TxnId.{TxnId}
use Rattle.sd_logrec.specs.declared.miss.Miss.{Miss}
use Rattle.sd_logrec.specs.declared.miss.Miss.TheVariants as misses
use Rattle.sd_logrec.specs.declared.record.Record.{Record}
use Rattle.sd_logrec.specs.declared.record.Record.TheVariants as records
use Rattle.sd_logrec.specs.Spelling.{Span, Changed, is_before, is_rising}

abbrev pub Reader : Type 0 → Type 0
Reader A = List ℕ → Option (A × List ℕ)

-- What a function returned, seen by view, is what reading gives, unless memory ran out.
abbrev pub Misses : {Y : Type 0} → Miss → Option Y → Type 0
Misses misses.Memory read = Unit {0}
Misses misses.Nothing read = read ≡ None

-- the same of a function that takes no memory
abbrev pub Finds : {X Y : Type 0} → (X → Y) → Option X → Option Y → Type 0
Finds view (Some x) read = read ≡ Some (view x)
Finds view None read = read ≡ None

abbrev pub Gives : {X Y : Type 0} → (X → Y) → Result X Miss → Option Y → Type 0
Gives view (Ok x) read = read ≡ Some (view x)
Gives view (Err e) read = Misses e read

-- one after the other
infixr 6 ◌then◌
abbrev pub ◌then◌ : {A B : Type 0} → Reader A → Reader B → Reader (A × B)
(first then second) bytes = option_and_then (λ a. option_map (λ b. ((a.0, b.0), b.1)) (second a.1)) (first bytes)

-- only what passes the test
abbrev pub only : {A : Type 0} → (A → Bool) → Reader A → Reader A
only test read bytes = option_and_then (λ a. if test a.0 then Some a else None) (read bytes)

-- what is made of what stands there
abbrev pub made : {A B : Type 0} → (A → B) → Reader A → Reader B
made make read bytes = option_map (λ a. (make a.0, a.1)) (read bytes)

unfoldable pub byte_at : Reader ℕ
byte_at [] = None
byte_at (b ∷ bytes) = Some (b, bytes)

unfoldable pub number_at : Width → Reader ℕ
number_at w bytes = if nat_lt (length bytes) (byte_len w) then None else Some (from_be_bytes w (take (byte_len w) bytes), drop (byte_len w) bytes)

abbrev pub is_lsn : ℕ → Bool
is_lsn n = nat_le 1 n && nat_lt n 4611686018427387904

unfoldable pub lsn_at : Reader ℕ
lsn_at = only is_lsn (number_at w64)

unfoldable pub inst_at : Reader ℕ
inst_at = only (λ n. nat_le 1 n && nat_le n 8) byte_at

unfoldable pub ordinal_at : Reader ℕ
ordinal_at = only (nat_le 1) (number_at w32)

unfoldable pub txn_at : Reader TxnId
txn_at = made (λ x. record { inst = x.0; epoch = x.1.0; seq = x.1.1 }) (inst_at then (ordinal_at then ordinal_at))

unfoldable pub page_at : Reader ℕ
page_at = only (λ n. nat_lt n 1024) (number_at w32)

unfoldable pub slot_at : Reader ℕ
slot_at = only (λ n. nat_lt n 168) (number_at w16)

unfoldable pub capacity_at : Reader ℕ
capacity_at = only (λ n. nat_le n 256) (number_at w16)

-- so many bytes
unfoldable pub bytes_at : ℕ → Reader (List ℕ)
bytes_at n bytes = if nat_lt (length bytes) n then None else Some (take n bytes, drop n bytes)

-- behind this length
abbrev pub value_behind : ℕ → Reader (Option (List ℕ))
value_behind len bytes = if len == 65535 then Some (None, bytes) else (if nat_le len 256 then made Some (bytes_at len) bytes else None)

unfoldable pub value_at : Reader (Option (List ℕ))
value_at bytes = option_and_then (λ len. value_behind len.0 len.1) (number_at w16 bytes)

unfoldable pub span_at : Reader Span
span_at = made (λ x. (x.0, x.1.0, x.1.1)) (txn_at then (number_at w64 then number_at w64))

unfoldable pub changed_at : Reader Changed
changed_at = page_at then number_at w64

-- so many items
unfoldable pub items_at : {A : Type 0} → Reader A → ℕ → Reader (List A)
items_at item zero bytes = Some ([], bytes)
items_at item (suc n) bytes = option_and_then (λ first. option_map (λ others. (first.0 ∷ others.0, others.1)) (items_at item n first.1)) (item bytes)

-- a count, and so many items
abbrev pub counted_at : {A : Type 0} → Reader A → Reader (List A)
counted_at item bytes = option_and_then (λ n. items_at item n.0 n.1) (number_at w16 bytes)

unfoldable pub spans_at : Reader (List Span)
spans_at = only (is_rising (λ s t. is_before s.0 t.0)) (counted_at span_at)

unfoldable pub recs_at : Reader (List Changed)
recs_at = only (is_rising (λ c d. nat_lt c.0 d.0)) (counted_at changed_at)

unfoldable pub start_at : ℕ → Reader Record
start_at lsn = made (λ epoch. records.Start lsn epoch) ordinal_at

unfoldable pub update_at : ℕ → Reader Record
update_at lsn = made (λ x. records.Update lsn x.0 x.1.0 x.1.1.0 x.1.1.1.0 x.1.1.1.1.0 x.1.1.1.1.1.0 x.1.1.1.1.1.1)
    (txn_at then (number_at w64 then (page_at then (slot_at then (capacity_at then (value_at then value_at))))))

unfoldable pub clr_at : ℕ → Reader Record
clr_at lsn = made (λ x. records.Clr lsn x.0 x.1.0 x.1.1.0 x.1.1.1.0 x.1.1.1.1.0 x.1.1.1.1.1)
    (txn_at then (number_at w64 then (number_at w64 then (page_at then (slot_at then value_at)))))

unfoldable pub commit_at : ℕ → Reader Record
commit_at lsn = made (λ x. records.Commit lsn x.0 x.1) (txn_at then number_at w64)

unfoldable pub end_at : ℕ → Reader Record
end_at lsn = made (λ x. records.End lsn x.0 x.1) (txn_at then number_at w64)

unfoldable pub end_check_at : ℕ → Reader Record
end_check_at lsn = made (λ x. records.EndCheck lsn x.0 x.1.0 x.1.1) (number_at w64 then (spans_at then recs_at))

-- the fields of a record of this type
unfoldable pub fields_at : ℕ → ℕ → Reader Record
fields_at type lsn bytes = if type == 1 then start_at lsn bytes else (if type == 2 then update_at lsn bytes else (if type == 3 then clr_at lsn bytes else (if type == 4 then commit_at lsn bytes else (if type == 5 then end_at lsn bytes else (if type == 6 then Some (records.BeginCheck lsn, bytes) else (if type == 7 then end_check_at lsn bytes else None))))))

unfoldable pub record_at : Reader Record
record_at bytes = option_and_then (λ type. option_and_then (λ lsn. fields_at type.0 lsn.0 lsn.1) (lsn_at type.1)) (byte_at bytes)
