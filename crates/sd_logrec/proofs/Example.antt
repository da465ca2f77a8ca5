-- A log of two groups, byte by byte: it shows that reading computes.
use Rattle.std.proofs.Common.{◌≡◌, [], ◌∷◌, refl}
use Rattle.std.specs.Prelude.{None, Some}
use Rattle.sd_logrec.specs.declared.record.Record.TheVariants.{Start, Update, Commit}
use Rattle.sd_logrec.specs.Kept.{Whole, reading, groups_within, records_within}
use Rattle.sd_logrec.specs.Spelling.{eight, four, two}
use Rattle.sd_logrec.specs.Reading.{record_at, fields_at, start_at, update_at, commit_at, lsn_at, txn_at, inst_at, ordinal_at, page_at, slot_at, capacity_at, value_at, bytes_at, number_at, byte_at}

-- transaction 1.1.1 puts `red` into slot 0 of page 0, and commits; the next gate is at 90
pub one_commit :
    reading 0 (165 ∷ 0 ∷ 0 ∷ 0 ∷ 13 ∷ 1 ∷ 0 ∷ 0 ∷ 0 ∷ 0 ∷ 0 ∷ 0 ∷ 0 ∷ 1 ∷ 0 ∷ 0 ∷ 0 ∷ 1 ∷ 165 ∷ 0 ∷ 0 ∷ 0 ∷ 67 ∷ 2 ∷ 0 ∷ 0 ∷ 0 ∷ 0 ∷ 0 ∷ 0 ∷ 0 ∷ 2 ∷ 1 ∷ 0 ∷ 0 ∷ 0 ∷ 1 ∷ 0 ∷ 0 ∷ 0 ∷ 1 ∷ 0 ∷ 0 ∷ 0 ∷ 0 ∷ 0 ∷ 0 ∷ 0 ∷ 0 ∷ 0 ∷ 0 ∷ 0 ∷ 0 ∷ 0 ∷ 0 ∷ 0 ∷ 3 ∷ 255 ∷ 255 ∷ 0 ∷ 3 ∷ 114 ∷ 101 ∷ 100 ∷ 4 ∷ 0 ∷ 0 ∷ 0 ∷ 0 ∷ 0 ∷ 0 ∷ 0 ∷ 3 ∷ 1 ∷ 0 ∷ 0 ∷ 0 ∷ 1 ∷ 0 ∷ 0 ∷ 0 ∷ 1 ∷ 0 ∷ 0 ∷ 0 ∷ 0 ∷ 0 ∷ 0 ∷ 0 ∷ 2 ∷ 0 ∷ [])
    ≡ Whole
    (record { at = 0; records = (5, Start 1 1) ∷ [] }
    ∷ record { at = 18; records = (23, Update 2 (record { inst = 1; epoch = 1; seq = 1 }) 0 0 0 3 None (Some (114 ∷ 101 ∷ 100 ∷ []))) ∷ (64, Commit 3 (record { inst = 1; epoch = 1; seq = 1 }) 2) ∷ [] }
    ∷ [])
    90
unfolding reading groups_within records_within record_at fields_at start_at update_at commit_at lsn_at txn_at inst_at ordinal_at page_at slot_at capacity_at value_at bytes_at number_at byte_at eight four two
one_commit = refl
