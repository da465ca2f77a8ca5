-- Undoing the open records of transactions in a table of values, one after another: the plain way to what recovery gives.
use Rattle.std.specs.Prelude.{◌≡◌, ◌≢◌, ◌⊎◌, ℕ, cond, List, [], ◌∷◌, ◌++◌}
use Rattle.sd_base.specs.declared.ids.TxnId.{TxnId}
use Rattle.sd_logrec.specs.View.{Rec}
use Rattle.sd_chain.specs.Records.{Val, Each, at}
use Rattle.sd_chain.specs.Storage.{Storage, opens}

-- the values with one record undone
abbrev pub undo_one : (ℕ → ℕ → Val) → Rec → ℕ → ℕ → Val
undo_one f x p s = cond (at p s x) x.before (f p s)

-- the values with all of these undone, one after another
abbrev pub undo_all : (ℕ → ℕ → Val) → List Rec → ℕ → ℕ → Val
undo_all f [] = f
undo_all f (x ∷ xs) = undo_all (undo_one f x) xs

-- each record is found as it left its place
abbrev pub EachFound : (ℕ → ℕ → Val) → List Rec → Type 0
EachFound f [] = Unit {0}
EachFound f (x ∷ xs) = (f x.page x.slot ≡ x.after) × EachFound (undo_one f x) xs

-- the stacks of these transactions, one after another
abbrev pub stacks_of : Storage → List TxnId → List Rec
stacks_of img [] = []
stacks_of img (t ∷ ts) = opens img t ++ stacks_of img ts

-- t is listed
abbrev pub Member : TxnId → List TxnId → Type 0
Member t [] = ⊥
Member t (u ∷ us) = (t ≡ u) ⊎ Member t us

-- none is listed twice
abbrev pub Apart : List TxnId → Type 0
Apart [] = Unit {0}
Apart (t ∷ ts) = Each (λ u. t ≢ u) ts × Apart ts
