-- What an event does to an image.
use Rattle.std.specs.Prelude.{◌≡◌, ◌≢◌, ◌⊎◌, ℕ, ◌<◌, ◌≤◌, true, false, List, [], ◌∷◌, ◌++◌, filter}
use Rattle.sd_logrec.specs.View.{Rec}
use Rattle.sd_base.specs.declared.ids.TxnId.{TxnId}
use Rattle.sd_chain.specs.Records.{of_page, at, home, Each}
use Rattle.sd_logrec.specs.View.Kind.{Update, Clr}
use Rattle.sd_chain.specs.Pages.{FitsKind}
use Rattle.sd_chain.specs.Order.{of_txn}
use Rattle.sd_chain.specs.Storage.{Storage, newest, opens, Open}

-- log i has one more record at its end
pub record Appended (i : ℕ) (y : Rec) (old new : Storage) : Type 0 where
  pub inside : i < 9
  pub here : new.logs i ≡ old.logs i ++ y ∷ []
  pub others : (j : ℕ) → j ≢ i → new.logs j ≡ old.logs j
  pub disk : (p : ℕ) → new.disk p ≡ old.disk p

-- the LSN is above those of the page and of its kept records
pub record IsAbovePage (img : Storage) (y : Rec) : Type 0 where
  pub records : (j : ℕ) → Each (λ x. of_page y.page x ≡ true → x.lsn < y.lsn) (img.logs j)
  pub page : (newest img y.page).lsn < y.lsn

-- the transaction's change may be appended
pub record CanUpdate (img : Storage) (y : Rec) : Type 0 where
  pub kind : y.kind ≡ Update
  pub runs : Open img y.txn
  pub above : IsAbovePage img y
  pub fits : FitsKind Update y (newest img y.page).slots
  -- no other open transaction has changed the record
  pub free : (t : TxnId) → t ≢ y.txn → Open img t → filter (at y.page y.slot) (opens img t) ≡ []

-- the undo of the top of the transaction's stack may be appended
pub record CanUndo (img : Storage) (y top : Rec) (below : List Rec) : Type 0 where
  pub kind : y.kind ≡ Clr
  pub runs : Open img y.txn
  pub above : IsAbovePage img y
  pub stack : opens img y.txn ≡ top ∷ below
  pub page : y.page ≡ top.page
  pub slot : y.slot ≡ top.slot
  pub value : y.after ≡ top.before

-- page p's disk image is its newest version
pub record Written (p : ℕ) (old new : Storage) : Type 0 where
  pub logs : (j : ℕ) → new.logs j ≡ old.logs j
  pub here : new.disk p ≡ newest old p
  pub others : (q : ℕ) → q ≢ p → new.disk q ≡ old.disk q

-- log i is read from a later place: what is gone is on disk, or of a transaction that is closed
pub record StartMoved (i : ℕ) (gone : List Rec) (old new : Storage) : Type 0 where
  pub here : old.logs i ≡ gone ++ new.logs i
  pub others : (j : ℕ) → j ≢ i → new.logs j ≡ old.logs j
  pub disk : (p : ℕ) → new.disk p ≡ old.disk p
  pub on_disk : Each (λ x. (p : ℕ) → of_page p x ≡ true → x.lsn ≤ (old.disk p).lsn) gone
  -- a transaction lost nothing, or is closed by what is left, or was closed and lost all
  pub closed : (t : TxnId) → home t ≡ i
      → Each (λ x. of_txn t x ≡ false) gone
      ⊎ ((Open new t → ⊥) ⊎ ((Open old t → ⊥) × Each (λ x. of_txn t x ≡ false) (new.logs i)))
