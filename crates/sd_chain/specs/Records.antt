-- Records of a log, and what a transaction's records leave open.
use Rattle.sd_base.specs.declared.ids.TxnId.{TxnId}
use Rattle.sd_base.specs.Ids.{same_txn}
use Rattle.sd_logrec.specs.declared.record.Record.{Record}
use Rattle.sd_logrec.specs.View.{Rec, Kind, flat}
use Rattle.sd_logrec.specs.View.Kind.{Update, Clr, Commit, End, Plain}
use Rattle.std.specs.Prelude.{◌≡◌, ℕ, Bool, true, false, List, [], ◌∷◌, Option, eqb, ◌&&◌, cond}

-- a value, or none
abbrev pub Val : Type 0
Val = Option (List ℕ)

-- the instance of a transaction
abbrev pub home : TxnId → ℕ
home t = t.inst

-- the kind changes a page
abbrev pub changes : Kind → Bool
changes Update = true
changes Clr = true
changes Commit = false
changes End = false
changes Plain = false

-- the kind ends a transaction
abbrev pub ends : Kind → Bool
ends Update = false
ends Clr = false
ends Commit = true
ends End = true
ends Plain = false

-- the record changes this page
abbrev pub of_page : ℕ → Rec → Bool
of_page p x = changes x.kind && eqb x.page p

-- the record changes this slot of this page
abbrev pub of_rid : ℕ → ℕ → Rec → Bool
of_rid p s x = of_page p x && eqb x.slot s

-- the record names this slot of this page
abbrev pub at : ℕ → ℕ → Rec → Bool
at p s x = eqb x.page p && eqb x.slot s

-- each element, by recursion
abbrev pub Each : {A : Type 0} → (A → Type 0) → List A → Type 0
Each P [] = Unit {0}
Each P (x ∷ xs) = P x × Each P xs

-- without the first one
abbrev pub rest : List Rec → List Rec
rest [] = []
rest (x ∷ xs) = xs

-- a change is put on top of the stack, an undo takes the top off
abbrev pub moved : Kind → Rec → List Rec → List Rec
moved Update x open_ones = x ∷ open_ones
moved Clr x open_ones = rest open_ones
moved Commit x open_ones = open_ones
moved End x open_ones = open_ones
moved Plain x open_ones = open_ones

-- the stack of t after one more record of its log
abbrev pub step : TxnId → List Rec → Rec → List Rec
step t open_ones x = cond (same_txn x.txn t) (moved x.kind x open_ones) open_ones

-- after all of these records
abbrev pub stack_from : TxnId → List Rec → List Rec → List Rec
stack_from t open_ones [] = open_ones
stack_from t open_ones (x ∷ xs) = stack_from t (step t open_ones x) xs

-- the open records of a transaction in its log, the last one first
abbrev pub stack : TxnId → List Rec → List Rec
stack t log = stack_from t [] log

-- no Commit and no End of t
abbrev pub IsOpen : TxnId → List Rec → Type 0
IsOpen t log = Each (λ x. (ends x.kind && same_txn x.txn t) ≡ false) log

-- a record that changes a page
abbrev pub IsPageRecord : Record → Type 0
IsPageRecord r = changes (flat r).kind ≡ true
