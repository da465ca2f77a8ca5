-- The summary of a run of a generated script: what became of its transfers, and what its ten accounts sum up to in its table.
use Rattle.std.specs.Prelude.{ℕ, zero, suc, ◌/◌, ◌%◌, ◌==◌, ℤ, pos, negsuc, ◌+ℤ◌, Bool, true, false, ◌&&◌, not, nat_le, if◌then◌else◌, List, [], ◌∷◌, ◌++◌, Option, None, Some, codes, count_by, length}
use Rattle.std.specs.Fmt.{decimal, signed_decimal}
use Rattle.std.specs.Option.{option_and_then}
use Rattle.std.specs.Map.{lookup}
use Rattle.sd_base.specs.Ids.{same_rid}
use Rattle.sd_base.specs.declared.ids.Rid.{Rid}
use Rattle.sd_model.specs.Numbers.{digits_from}
use Rattle.sd_model.specs.Replies.{is_did}
use Rattle.sd_model.specs.declared.event.Event.{Event}
use Rattle.sd_model.specs.declared.event.Event.TheVariants as event
use Rattle.sd_model.specs.declared.event.Reply.{Reply}
use Rattle.sd_model.specs.declared.event.Reply.TheVariants as reply
use Rattle.sd_model.specs.declared.event.Entry.{Entry}
use Rattle.sd_report.specs.declared.summing.Counted.{Counted}
use Rattle.sd_report.specs.declared.summing.Counted.TheVariants as counted
use Rattle.sd_report.specs.Words.{line_of}
use Rattle.sd_report.specs.Report.{entries_of, table_rows}

-- the record of an account, of 0 to 9
abbrev pub account_rid : ℕ → Rid
account_rid n = record { page = n % 4; slot = n / 4 }

abbrev pub is_commit : Event → Bool
is_commit (event.Commit t) = true
is_commit e = false

abbrev pub is_undo : Event → Bool
is_undo (event.Undo t) = true
is_undo e = false

abbrev pub is_failure : Event → Bool
is_failure (event.Fail i) = true
is_failure e = false

abbrev pub is_finished : Reply → Bool
is_finished reply.Finished = true
is_finished r = false

-- Whether an entry is counted so: a commit that was acknowledged, unless it is that of the accounts, which line 13 commits; an
-- undo that found nothing left; and a failure, whatever its reply.
abbrev pub counts : Counted → Entry → Bool
counts counted.Commits e = is_commit e.event && is_did e.reply && not (e.line == 13)
counts counted.Rollbacks e = is_undo e.event && is_finished e.reply
counts counted.Failures e = is_failure e.event

abbrev pub are_digits : List ℕ → Bool
are_digits [] = true
are_digits (d ∷ ds) = nat_le 48 d && nat_le d 57 && are_digits ds

-- whether a text is digits without leading zeros
abbrev pub is_numeral : List ℕ → Bool
is_numeral [] = false
is_numeral (d ∷ []) = are_digits (d ∷ [])
is_numeral (d ∷ e ∷ ds) = are_digits (d ∷ e ∷ ds) && not (d == 48)

-- the same of 18 digits at most
abbrev pub is_short_numeral : List ℕ → Bool
is_short_numeral ds = is_numeral ds && nat_le (length ds) 18

-- the number below 0 of these digits behind a minus, of which -0 is none
abbrev pub below_zero : ℕ → Option ℤ
below_zero zero = None
below_zero (suc n) = Some (negsuc n)

-- the number that a text is of, where it is a number text
abbrev pub number_of : List ℕ → Option ℤ
number_of [] = None
number_of (b ∷ bs) =
    if b == 45 then (if is_short_numeral bs then below_zero (digits_from 0 bs) else None)
    else (if is_short_numeral (b ∷ bs) then Some (pos (digits_from 0 (b ∷ bs))) else None)

-- the sum of two numbers that are there
abbrev pub sum_of_both : Option ℤ → Option ℤ → Option ℤ
sum_of_both (Some a) (Some b) = Some (a +ℤ b)
sum_of_both a b = None

-- The sum of the first so many accounts by the rows of the table, where each of them has a number text. A table that was refused
-- at a page lacks the accounts of that page, so it has no sum.
unfoldable pub total_of : ℕ → List (Rid × List ℕ) → Option ℤ
total_of zero rows = Some (pos 0)
total_of (suc n) rows = sum_of_both (total_of n rows) (option_and_then number_of (lookup (same_rid (account_rid n)) rows))

abbrev pub total_word : Option ℤ → List ℕ
total_word None = codes "unknown"
total_word (Some total) = signed_decimal total

-- the number of entries that are counted so
abbrev pub count_of : Counted → List Entry → ℕ
count_of what entries = count_by (counts what) entries

-- the summary of the script that the number gave with so many transfers, whose table is the line `last`, by the entries of its
-- book
abbrev pub summary_text : ℕ → ℕ → ℕ → List Entry → List ℕ
summary_text number count last entries =
    line_of (codes "gen" ∷ decimal number ∷ decimal count ∷ [])
    ++ line_of (codes "commits" ∷ decimal (count_of counted.Commits entries) ∷ [])
    ++ line_of (codes "rollbacks" ∷ decimal (count_of counted.Rollbacks entries) ∷ [])
    ++ line_of (codes "failures" ∷ decimal (count_of counted.Failures entries) ∷ [])
    ++ line_of (codes "total" ∷ total_word (total_of 10 (table_rows (entries_of last entries))) ∷ [])
