-- The order of a transaction's records in its log (check 3).
use Rattle.std.specs.Prelude.{◌≡◌, ◌≢◌, ℕ, Bool, true, false, List, [], ◌∷◌, ◌&&◌, cond, Option, None, Some}
use Rattle.std.specs.Option.{option_map_or}
use Rattle.sd_logrec.specs.View.{Rec, Kind}
use Rattle.sd_base.specs.declared.ids.TxnId.{TxnId}
use Rattle.sd_base.specs.Ids.{same_txn}
use Rattle.sd_chain.specs.Records.{ends, step, stack, IsOpen}
use Rattle.sd_logrec.specs.View.Kind.{Update, Clr, Commit, End, Plain}

-- the kind has a transaction
abbrev pub speaks : Kind → Bool
speaks Update = true
speaks Clr = true
speaks Commit = true
speaks End = true
speaks Plain = false

-- the record is one of this transaction
abbrev pub of_txn : TxnId → Rec → Bool
of_txn t x = speaks x.kind && same_txn x.txn t

-- what the records so far leave of the transaction: the open ones, the last LSN or 0, and whether it is closed
pub record Sofar : Type 0 where
  pub open_ones : List Rec
  pub last : ℕ
  pub shut : Bool

-- before the first record
abbrev pub none_yet : Sofar
none_yet = record { open_ones = []; last = 0; shut = false }

-- with one record of the transaction more
abbrev pub with_own : TxnId → Rec → Sofar → Sofar
with_own t x sofar = record { open_ones = step t sofar.open_ones x; last = x.lsn; shut = ends x.kind }

-- with one record more
abbrev pub advance : TxnId → Sofar → Rec → Sofar
advance t sofar x = cond (of_txn t x) (with_own t x sofar) sofar

-- with all of these
abbrev pub after_all : TxnId → Sofar → List Rec → Sofar
after_all t sofar [] = sofar
after_all t sofar (x ∷ xs) = after_all t (advance t sofar x) xs

-- the LSNs of the transaction's first and last record, with one record more
abbrev pub spanned : TxnId → Option (ℕ × ℕ) → Rec → Option (ℕ × ℕ)
spanned t span x = cond {A = Option (ℕ × ℕ)} (of_txn t x) (Some (option_map_or (λ s. s.0) span x.lsn, x.lsn)) span

abbrev pub span_from : TxnId → Option (ℕ × ℕ) → List Rec → Option (ℕ × ℕ)
span_from t span [] = span
span_from t span (x ∷ xs) = span_from t (spanned t span x) xs

-- the LSNs of its first and last record in a log; None where it has none
abbrev pub span_of : TxnId → List Rec → Option (ℕ × ℕ)
span_of t log = span_from t None log

-- the record may come next
pub record ComesNext (sofar : Sofar) (x : Rec) : Type 0 where
  pub alive : sofar.shut ≡ false
  pub prev : sofar.last ≢ 0 → x.prev ≡ sofar.last
  pub done : x.kind ≡ End → sofar.open_ones ≡ []

-- each of its records may come where it stands
abbrev pub InOrder : TxnId → Sofar → List Rec → Type 0
InOrder t sofar [] = Unit {0}
InOrder t sofar (x ∷ xs) = (of_txn t x ≡ true → ComesNext sofar x) × InOrder t (advance t sofar x) xs

-- the undo is of the top
abbrev pub UndoesTop : Rec → List Rec → Type 0
UndoesTop x [] = ⊥
UndoesTop x (top ∷ below) = (x.page ≡ top.page) × (x.slot ≡ top.slot) × (x.after ≡ top.before) × (x.next ≡ top.prev)

-- each of its undos is of the top of the stack that it finds
abbrev pub Undoes : TxnId → List Rec → List Rec → Type 0
Undoes t open_ones [] = Unit {0}
Undoes t open_ones (x ∷ xs) = (x.kind ≡ Clr → x.txn ≡ t → UndoesTop x open_ones) × Undoes t (step t open_ones x) xs

-- the `prev` of the transaction's first record, or 0
abbrev pub first_prev : TxnId → List Rec → ℕ
first_prev t [] = 0
first_prev t (x ∷ xs) = cond (of_txn t x) x.prev (first_prev t xs)

pub record Tidy (t : TxnId) (log : List Rec) : Type 0 where
  pub order : InOrder t none_yet log
  pub first : IsOpen t log → first_prev t log ≡ 0
  -- a transaction whose first records aren't read is exempt
  pub undo : first_prev t log ≡ 0 → Undoes t [] log

-- the record may be appended, as far as its transaction goes
pub record MayFollow (log : List Rec) (x : Rec) : Type 0 where
  pub alive : IsOpen x.txn log
  pub prev : x.prev ≡ (after_all x.txn none_yet log).last
  pub done : x.kind ≡ End → stack x.txn log ≡ []
  pub undo : x.kind ≡ Clr → UndoesTop x (stack x.txn log)
