-- What an image leaves open, listed log by log, and the table that undoing it gives.
use Rattle.std.specs.Prelude.{◌≡◌, ℕ, ◌≤◌, true, List, [], ◌∷◌, ◌++◌}
use Rattle.sd_base.specs.declared.ids.TxnId.{TxnId}
use Rattle.sd_logrec.specs.View.{Rec}
use Rattle.sd_chain.specs.Records.{Val, Each, home}
use Rattle.sd_chain.specs.Order.{speaks}
use Rattle.sd_chain.specs.Storage.{Storage, now}
use Rattle.sd_chain.specs.Undoing.{stacks_of, undo_all}
use Rattle.sd_chain.specs.Checks.{open_in}

-- the instances, each of which has the log of its number
abbrev pub insts : List ℕ
insts = 1 ∷ 2 ∷ 3 ∷ 4 ∷ 5 ∷ 6 ∷ 7 ∷ 8 ∷ []

-- the open transactions of these logs
abbrev pub listed : Storage → List ℕ → List TxnId
listed img [] = []
listed img (j ∷ js) = open_in (img.logs j) ++ listed img js

-- the open transactions of all logs
abbrev pub losers_in : Storage → List TxnId
losers_in img = listed img insts

-- the newest values with all that they have open undone
abbrev pub table_in : Storage → ℕ → ℕ → Val
table_in img = undo_all (now img) (stacks_of img (losers_in img))

-- the logs are 1 to 8, and each has records of its own instance's transactions alone
pub record OwnLogs (img : Storage) : Type 0 where
  pub zero_is : img.logs 0 ≡ []
  pub beyond : (j : ℕ) → 9 ≤ j → img.logs j ≡ []
  pub own : (j : ℕ) → Each (λ (x : Rec). speaks x.kind ≡ true → home x.txn ≡ j) (img.logs j)
