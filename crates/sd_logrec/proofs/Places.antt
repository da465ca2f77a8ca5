-- The place of a record and the place behind it. It serves the goals of take.rt.
use Rattle.std.proofs.Common.{◌≡◌, ℕ, ◌+◌, ◌-◌, ◌<◌, ◌≤◌, List, ◌++◌, length, drop, Some, refl, sym, ap, ◌∙◌, arith, length-drop, length-append}
use Rattle.std.proofs.lemmas.Grind.{common_steps}
use Rattle.std.proofs.lemmas.List.{drop_at}
use Rattle.sd_logrec.specs.declared.record.Record.{Record}
use Rattle.sd_logrec.specs.declared.record.Record.TheVariants as records
use Rattle.sd_logrec.specs.Spelling.{spelling, spelled_length, HasSpelling}
use Rattle.sd_logrec.specs.Reading.{record_at}
use Rattle.sd_logrec.proofs.Formats.{IsBytes, IsBytes-drop}
use Rattle.sd_logrec.proofs.Lengths.{length-spelling}
use Rattle.sd_logrec.proofs.Records.{record_takes, record_again}

some_length : (r : Record) → 0 < spelled_length r
some_length (records.Start lsn epoch) = omega arith
some_length (records.Update lsn txn prev page slot capacity before after) = omega arith
some_length (records.Clr lsn txn prev undo_next page slot after) = omega arith
some_length (records.Commit lsn txn prev) = omega arith
some_length (records.End lsn txn prev) = omega arith
some_length (records.BeginCheck lsn) = omega arith
some_length (records.EndCheck lsn begin spans recs) = omega arith

drop-drop : (n m : ℕ) (l : List ℕ) → drop (n + m) l ≡ drop m (drop n l)
drop-drop n m l = grind (arith, common_steps)

-- a record that was taken at a place
pub record Taken (bytes : List ℕ) (at : ℕ) (r : Record) (rest : List ℕ) : Type 0 where
  pub fits : HasSpelling r
  pub spelled : drop at bytes ≡ spelling r ++ rest
  pub place : length bytes - length rest ≡ at + length (spelling r)
  pub inside : length rest ≤ length bytes
  pub behind : rest ≡ drop (length bytes - length rest) bytes

pub is_taken : (bytes front : List ℕ) (at : ℕ) (r : Record) (rest : List ℕ) → IsBytes bytes → front ≡ drop at bytes → record_at front ≡ Some (r, rest) → Taken bytes at r rest
is_taken bytes front at r rest are is e =
    let t = record_takes (drop at bytes) (r, rest) (IsBytes-drop at bytes are) (ap record_at (sym is) ∙ e) in
    let some = some_length r in
    let sums : length bytes - at ≡ length (spelling r) + length rest = sym (length-drop at bytes) ∙ ap length t.0 ∙ length-append (spelling r) rest in
    let place : length bytes - length rest ≡ at + length (spelling r) = omega (arith, sums, some, length-spelling r) in
    record {
      fits = t.1;
      spelled = t.0;
      place = place;
      inside = omega (arith, sums, some, length-spelling r);
      behind = sym (ap (λ (n : ℕ). drop n bytes) place ∙ drop-drop at (length (spelling r)) bytes ∙ ap (drop (length (spelling r))) t.0 ∙ drop_at (spelling r) rest (length (spelling r)) refl);
    }

-- a record whose spelling stands there is the one that is read
pub is_only : (bytes front : List ℕ) (at : ℕ) (r : Record) (rest : List ℕ) → front ≡ drop at bytes → HasSpelling r → drop at bytes ≡ spelling r ++ rest → record_at front ≡ Some (r, rest)
is_only bytes front at r rest is fits e = ap record_at (is ∙ e) ∙ record_again r rest fits
