-- The lengths of spellings. It serves the goals of record.rt and laws.rt.
use Rattle.std.proofs.Common.{◌≡◌, ℕ, ◌+◌, ◌*◌, List, [], ◌∷◌, ◌++◌, length, Option, Some, None, refl, ◌∙◌, arith, length-append}
use Rattle.std.specs.List.{flat_map}
use Rattle.sd_base.specs.declared.ids.TxnId.{TxnId}
use Rattle.sd_logrec.specs.declared.record.Record.{Record}
use Rattle.sd_logrec.specs.declared.record.Record.TheVariants as records
use Rattle.sd_base.specs.Values.{size}
use Rattle.sd_logrec.specs.Spelling.{Span, Changed, one, two, four, eight, transaction, value, span, changed, counted, row, spelling, spelled_length}

pub length-two : (n : ℕ) → length (two n) ≡ 2
unfolding two
length-two n = refl

pub length-four : (n : ℕ) → length (four n) ≡ 4
unfolding four
length-four n = refl

pub length-eight : (n : ℕ) → length (eight n) ≡ 8
unfolding eight
length-eight n = refl

pub length-transaction : (t : TxnId) → length (transaction t) ≡ 9
length-transaction t = omega (arith, length-append (one t.inst) (four t.epoch ++ four t.seq), length-append (four t.epoch) (four t.seq), length-four t.epoch, length-four t.seq)

pub length-value : (v : Option (List ℕ)) → length (value v) ≡ 2 + size v
length-value None = length-two 65535
length-value (Some bytes) = omega (arith, length-append (two (length bytes)) bytes, length-two (length bytes))

pub length-span : (s : Span) → length (span s) ≡ 25
length-span s = omega (arith, length-append (transaction s.0) (eight s.1 ++ eight s.2), length-append (eight s.1) (eight s.2), length-transaction s.0, length-eight s.1, length-eight s.2)

pub length-changed : (c : Changed) → length (changed c) ≡ 12
length-changed c = omega (arith, length-append (four c.0) (eight c.1), length-four c.0, length-eight c.1)

length-items : {A : Type 0} (f : A → List ℕ) (n : ℕ) (xs : List A) → ((x : A) → length (f x) ≡ n) → length (flat_map f xs) ≡ n * length xs
length-items f n [] h = omega arith
length-items f n (x ∷ xs) h = length-append (f x) (flat_map f xs) ∙ grind (arith, h x, length-items f n xs h)

pub length-spans : (xs : List Span) → length (counted span xs) ≡ 2 + 25 * length xs
length-spans xs = omega (arith, length-append (two (length xs)) (flat_map span xs), length-two (length xs), length-items span 25 xs length-span)

pub length-recs : (xs : List Changed) → length (counted changed xs) ≡ 2 + 12 * length xs
length-recs xs = omega (arith, length-append (two (length xs)) (flat_map changed xs), length-two (length xs), length-items changed 12 xs length-changed)

length-row : (type lsn : ℕ) (fields : List ℕ) → length (row type lsn fields) ≡ 9 + length fields
length-row type lsn fields = omega (arith, length-append (one type) (eight lsn ++ fields), length-append (eight lsn) fields, length-eight lsn)

pub length-spelling : (r : Record) → length (spelling r) ≡ spelled_length r
length-spelling (records.Start lsn epoch) = omega (arith, length-row 1 lsn (four epoch), length-four epoch)
length-spelling (records.Update lsn txn prev page slot capacity before after) =
    omega (
      arith,
      length-row 2 lsn (transaction txn ++ (eight prev ++ (four page ++ (two slot ++ (two capacity ++ (value before ++ value after)))))),
      length-append (transaction txn) (eight prev ++ (four page ++ (two slot ++ (two capacity ++ (value before ++ value after))))),
      length-append (eight prev) (four page ++ (two slot ++ (two capacity ++ (value before ++ value after)))),
      length-append (four page) (two slot ++ (two capacity ++ (value before ++ value after))),
      length-append (two slot) (two capacity ++ (value before ++ value after)),
      length-append (two capacity) (value before ++ value after),
      length-append (value before) (value after),
      length-transaction txn,
      length-eight prev,
      length-four page,
      length-two slot,
      length-two capacity,
      length-value before,
      length-value after,
    )
length-spelling (records.Clr lsn txn prev undo_next page slot after) =
    omega (
      arith,
      length-row 3 lsn (transaction txn ++ (eight prev ++ (eight undo_next ++ (four page ++ (two slot ++ value after))))),
      length-append (transaction txn) (eight prev ++ (eight undo_next ++ (four page ++ (two slot ++ value after)))),
      length-append (eight prev) (eight undo_next ++ (four page ++ (two slot ++ value after))),
      length-append (eight undo_next) (four page ++ (two slot ++ value after)),
      length-append (four page) (two slot ++ value after),
      length-append (two slot) (value after),
      length-transaction txn,
      length-eight prev,
      length-eight undo_next,
      length-four page,
      length-two slot,
      length-value after,
    )
length-spelling (records.Commit lsn txn prev) = omega (arith, length-row 4 lsn (transaction txn ++ eight prev), length-append (transaction txn) (eight prev), length-transaction txn, length-eight prev)
length-spelling (records.End lsn txn prev) = omega (arith, length-row 5 lsn (transaction txn ++ eight prev), length-append (transaction txn) (eight prev), length-transaction txn, length-eight prev)
length-spelling (records.BeginCheck lsn) = length-row 6 lsn []
length-spelling (records.EndCheck lsn begin spans recs) =
    omega (
      arith,
      length-row 7 lsn (eight begin ++ (counted span spans ++ counted changed recs)),
      length-append (eight begin) (counted span spans ++ counted changed recs),
      length-append (counted span spans) (counted changed recs),
      length-eight begin,
      length-spans spans,
      length-recs recs,
    )
