-- What the kept records of a transaction tell of its end.
use Rattle.std.specs.Prelude.{◌≡◌, ◌⊎◌, ◌↔◌, Bool, true, false, List, [], ◌∷◌, ◌++◌, ◌&&◌, cond}
use Rattle.std.specs.List.{list_any}
use Rattle.sd_base.specs.declared.ids.TxnId.{TxnId}
use Rattle.sd_base.specs.Ids.{same_txn}
use Rattle.sd_logrec.specs.View.{Rec, Kind}
use Rattle.sd_logrec.specs.View.Kind.{Update, Clr, Commit, End, Plain}
use Rattle.sd_chain.specs.Records.{Each, IsOpen, home}
use Rattle.sd_chain.specs.Order.{speaks, of_txn, MayFollow}
use Rattle.sd_chain.specs.Storage.{Storage}

pub data Fate : Type 0 where
  -- no record of it is kept
  Unknown : Fate
  -- one is, but no Commit and no End
  Open : Fate
  -- a Commit is kept
  Committed : Fate
  -- an End is kept, and no Commit
  Ended : Fate

-- the kind commits a transaction
abbrev pub is_commit : Kind → Bool
is_commit Update = false
is_commit Clr = false
is_commit Commit = true
is_commit End = false
is_commit Plain = false

-- the kind ends one without a Commit
abbrev pub is_end : Kind → Bool
is_end Update = false
is_end Clr = false
is_end Commit = false
is_end End = true
is_end Plain = false

-- the record is a Commit of t
abbrev pub commits : TxnId → Rec → Bool
commits t x = is_commit x.kind && same_txn x.txn t

-- the record is an End of t
abbrev pub finishes : TxnId → Rec → Bool
finishes t x = is_end x.kind && same_txn x.txn t

-- by whether a Commit, an End or any record of the transaction is kept
abbrev pub fate_by : Bool → Bool → Bool → Fate
fate_by committed ended there =
    cond {A = Fate} committed Fate.Committed (cond {A = Fate} ended Fate.Ended (cond {A = Fate} there Fate.Open Fate.Unknown))

-- by the records of its log
abbrev pub fate : TxnId → List Rec → Fate
fate t log = fate_by (list_any (commits t) log) (list_any (finishes t) log) (list_any (of_txn t) log)

-- by the log of its own instance
abbrev pub fate_in : Storage → TxnId → Fate
fate_in img t = fate t (img.logs (home t))

-- unknown is one of which no record is kept
abbrev pub UnknownHasNone : Type 0
UnknownHasNone = (t : TxnId) (log : List Rec) → (fate t log ≡ Fate.Unknown) ↔ Each (λ x. of_txn t x ≡ false) log

-- open is one with a record, whose end isn't kept
abbrev pub OpenIsOpen : Type 0
OpenIsOpen = (t : TxnId) (log : List Rec) → (fate t log ≡ Fate.Open) ↔ (IsOpen t log × (list_any (of_txn t) log ≡ true))

-- one is closed by a Commit or an End alone
abbrev pub ClosedHasEnd : Type 0
ClosedHasEnd = (t : TxnId) (log : List Rec) → (IsOpen t log → ⊥) ↔ ((fate t log ≡ Fate.Committed) ⊎ (fate t log ≡ Fate.Ended))

-- committed is one with a Commit
abbrev pub CommittedHasCommit : Type 0
CommittedHasCommit = (t : TxnId) (log : List Rec) → (fate t log ≡ Fate.Committed) ↔ (list_any (commits t) log ≡ true)

-- ended is one with an End and without a Commit
abbrev pub EndedHasEnd : Type 0
EndedHasEnd = (t : TxnId) (log : List Rec)
    → (fate t log ≡ Fate.Ended) ↔ ((list_any (finishes t) log ≡ true) × (list_any (commits t) log ≡ false))

-- the records of others change nothing
abbrev pub OthersKeepFate : Type 0
OthersKeepFate = (t : TxnId) (log tail : List Rec) → Each (λ x. of_txn t x ≡ false) tail → fate t (log ++ tail) ≡ fate t log

-- a Commit stays, whatever comes behind it
abbrev pub CommittedStays : Type 0
CommittedStays = (t : TxnId) (log tail : List Rec) → fate t log ≡ Fate.Committed → fate t (log ++ tail) ≡ Fate.Committed

-- an End does, too, in a log in order
abbrev pub EndedStays : Type 0
EndedStays = (t : TxnId) (log : List Rec) (y : Rec) → (speaks y.kind ≡ true → MayFollow log y) → fate t log ≡ Fate.Ended
    → fate t (log ++ y ∷ []) ≡ Fate.Ended

-- what one more record of the transaction makes of it, in a log in order
abbrev pub fate_after : Kind → Fate → Fate
fate_after Update f = Fate.Open
fate_after Clr f = Fate.Open
fate_after Commit f = Fate.Committed
fate_after End f = Fate.Ended
fate_after Plain f = f

abbrev pub OwnMakesFate : Type 0
OwnMakesFate = (log : List Rec) (y : Rec) → MayFollow log y
    → fate y.txn (log ++ y ∷ []) ≡ fate_after y.kind (fate y.txn log)
