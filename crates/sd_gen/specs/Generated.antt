-- The script that a number gives: ten accounts of 100 each, transfers between them, and their table.
use Rattle.std.specs.Prelude.{ℕ, zero, suc, ◌+◌, ◌%◌, ◌==◌, List, [], ◌∷◌, ◌++◌, codes, if◌then◌else◌}
use Rattle.std.specs.List.{flat_map}
use Rattle.std.specs.Fmt.{decimal}
use Rattle.sd_script.specs.Forms.{rid_word}
use Rattle.sd_report.specs.Words.{line_of}
use Rattle.sd_report.specs.Summary.{account_rid}
use Rattle.sd_gen.specs.declared.transfer.Transfer.{Transfer}
use Rattle.sd_gen.specs.Draws.{drawn, state_behind}

-- the word of a page below 10: its digit
abbrev pub page_digit : ℕ → List ℕ
page_digit page = (48 + page) ∷ []

-- the line that makes an account, in the page of its record
abbrev pub account_line : ℕ → List ℕ
account_line n =
    line_of (codes "insert" ∷ codes "s" ∷ page_digit (account_rid n).page ∷ codes "100" ∷ codes "8" ∷ [])

-- the complex, and the transaction that makes the accounts
unfoldable pub head_text : List ℕ
head_text =
    line_of (codes "complex" ∷ codes "4" ∷ codes "4" ∷ codes "2" ∷ [])
    ++ line_of (codes "1" ∷ codes "begin" ∷ codes "s" ∷ [])
    ++ flat_map account_line (0 ∷ 1 ∷ 2 ∷ 3 ∷ 4 ∷ 5 ∷ 6 ∷ 7 ∷ 8 ∷ 9 ∷ [])
    ++ line_of (codes "commit" ∷ codes "s" ∷ [])

-- The transfer that four draws give from this state: at which instance, from and to which account, which are two, and how much.
abbrev pub transfer_of : ℕ → Transfer
transfer_of x = record {
  inst = 1 + drawn 1 x % 4;
  from = drawn 2 x % 10;
  to = (drawn 2 x % 10 + 1 + drawn 3 x % 9) % 10;
  amount = 1 + drawn 4 x % 9;
}

-- the name of the transaction of this number
abbrev pub name_of : ℕ → List ℕ
name_of j = codes "t" ++ decimal j

-- the line that adds an amount, of which these are the words, to an account
abbrev pub add_line : ℕ → ℕ → List ℕ → List ℕ
add_line j account amount = line_of (codes "add" ∷ name_of j ∷ rid_word (account_rid account) ∷ amount ∷ [])

abbrev pub recover_line : ℕ → List ℕ
recover_line inst = line_of (codes "recover" ∷ decimal inst ∷ codes "by" ∷ decimal (inst % 4 + 1) ∷ [])

abbrev pub join_line : ℕ → List ℕ
join_line inst = line_of (codes "join" ∷ decimal inst ∷ [])

-- the instance fails, the next one recovers it, and it joins
abbrev pub failure_text : ℕ → List ℕ
failure_text inst = line_of (codes "fail" ∷ decimal inst ∷ []) ++ recover_line inst ++ join_line inst

-- how the transfer of this number ends: at each twenty-fifth its instance fails, each other seventh is rolled back, and all others
-- commit
abbrev pub ending_text : ℕ → ℕ → List ℕ
ending_text j inst =
    if j % 25 == 0 then failure_text inst
    else if j % 7 == 0 then line_of (codes "rollback" ∷ name_of j ∷ [])
    else line_of (codes "commit" ∷ name_of j ∷ [])

-- the lines of a transfer
abbrev pub transfer_text : ℕ → Transfer → List ℕ
transfer_text j t =
    line_of (decimal t.inst ∷ codes "begin" ∷ name_of j ∷ [])
    ++ add_line j t.from (codes "-" ++ decimal t.amount)
    ++ add_line j t.to (decimal t.amount)
    ++ ending_text j t.inst

-- the lines of so many transfers, the first of this number and from this state
abbrev pub transfers_text : ℕ → ℕ → ℕ → List ℕ
transfers_text j zero x = []
transfers_text j (suc more) x = transfer_text j (transfer_of x) ++ transfers_text (j + 1) more (state_behind 4 x)

-- the script of so many transfers that the number gives
abbrev pub gen_text : ℕ → ℕ → List ℕ
gen_text number count = head_text ++ transfers_text 1 count number ++ line_of (codes "table" ∷ [])
