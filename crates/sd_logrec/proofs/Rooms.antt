-- Where a record's spelling has room, each of its pieces has when its turn comes. It serves the goals of `Record::write`.
use Rattle.std.proofs.Common.{◌≡◌, ℕ, List, ◌++◌, Option, ap, ◌∙◌, subst}
use Rattle.std.specs.Global.{Vec}
use Rattle.sd_base.specs.declared.ids.TxnId.{TxnId}
use Rattle.sd_logrec.specs.declared.record.Record.{Record}
use Rattle.sd_logrec.specs.declared.record.Record.TheVariants as records
use Rattle.sd_logrec.specs.Spelling.{Changed, Span, changed, counted, eight, four, one, row, span, spelling, transaction, two, value}
use Rattle.sd_logrec.specs.Writing.{HasRoom, Appends}
use Rattle.sd_logrec.proofs.Writes.{room_first, room_head, room_place, room_row, room_then}

-- what each record of a transaction begins with, and the place of a change
abbrev Head : ℕ → ℕ → TxnId → ℕ → List ℕ
Head type lsn txn prev = row type lsn (transaction txn ++ eight prev)

abbrev Place : ℕ → ℕ → ℕ → List ℕ
Place page slot capacity = four page ++ (two slot ++ two capacity)

module _ (a : Vec ℕ) (r : Record) (lsn epoch : ℕ) (is : r ≡ records.Start lsn epoch) (room : HasRoom a (spelling r)) where
  start_whole : HasRoom a ((one 1 ++ eight lsn) ++ four epoch)
  start_whole = room_row a 1 lsn (four epoch) (subst (λ (x : Record). HasRoom a (spelling x)) is room)

  pub start_row : HasRoom a (one 1 ++ eight lsn)
  start_row = room_first a (one 1 ++ eight lsn) (four epoch) start_whole

  pub start_epoch : (b : Vec ℕ) → Appends a b (one 1 ++ eight lsn) → HasRoom b (four epoch)
  start_epoch b x = room_then a b (one 1 ++ eight lsn) (four epoch) x start_whole

module _ (a : Vec ℕ) (r : Record) (lsn : ℕ) (txn : TxnId) (prev page slot capacity : ℕ) (before after : Option (List ℕ))
    (is : r ≡ records.Update lsn txn prev page slot capacity before after) (room : HasRoom a (spelling r)) where
  abbrev values : List ℕ
  values = value before ++ value after

  abbrev update_rest : List ℕ
  update_rest = four page ++ (two slot ++ (two capacity ++ values))

  update_whole : HasRoom a (Head 2 lsn txn prev ++ update_rest)
  update_whole = room_head a 2 lsn txn prev update_rest (subst (λ (x : Record). HasRoom a (spelling x)) is room)

  pub update_head : HasRoom a (Head 2 lsn txn prev)
  update_head = room_first a (Head 2 lsn txn prev) update_rest update_whole

  module _ (b : Vec ℕ) (x : Appends a b (Head 2 lsn txn prev)) where
    behind_head : HasRoom b (Place page slot capacity ++ values)
    behind_head = room_place b page slot capacity values (room_then a b (Head 2 lsn txn prev) update_rest x update_whole)

    pub update_place : HasRoom b (Place page slot capacity)
    update_place = room_first b (Place page slot capacity) values behind_head

    module _ (c : Vec ℕ) (y : Appends b c (Place page slot capacity)) where
      behind_place : HasRoom c values
      behind_place = room_then b c (Place page slot capacity) values y behind_head

      pub update_before : HasRoom c (value before)
      update_before = room_first c (value before) (value after) behind_place

      pub update_after : (d : Vec ℕ) → Appends c d (value before) → HasRoom d (value after)
      update_after d z = room_then c d (value before) (value after) z behind_place

module _ (a : Vec ℕ) (r : Record) (lsn : ℕ) (txn : TxnId) (prev undo_next page slot : ℕ) (after : Option (List ℕ))
    (is : r ≡ records.Clr lsn txn prev undo_next page slot after) (room : HasRoom a (spelling r)) where
  abbrev clr_rest : List ℕ
  clr_rest = eight undo_next ++ (four page ++ (two slot ++ value after))

  clr_whole : HasRoom a (Head 3 lsn txn prev ++ clr_rest)
  clr_whole = room_head a 3 lsn txn prev clr_rest (subst (λ (x : Record). HasRoom a (spelling x)) is room)

  pub clr_head : HasRoom a (Head 3 lsn txn prev)
  clr_head = room_first a (Head 3 lsn txn prev) clr_rest clr_whole

  module _ (b : Vec ℕ) (x : Appends a b (Head 3 lsn txn prev)) where
    clr_behind : HasRoom b clr_rest
    clr_behind = room_then a b (Head 3 lsn txn prev) clr_rest x clr_whole

    pub clr_undo_next : HasRoom b (eight undo_next)
    clr_undo_next = room_first b (eight undo_next) (four page ++ (two slot ++ value after)) clr_behind

    module _ (c : Vec ℕ) (y : Appends b c (eight undo_next)) where
      behind_undo_next : HasRoom c (four page ++ (two slot ++ value after))
      behind_undo_next = room_then b c (eight undo_next) (four page ++ (two slot ++ value after)) y clr_behind

      pub clr_page : HasRoom c (four page)
      clr_page = room_first c (four page) (two slot ++ value after) behind_undo_next

      module _ (d : Vec ℕ) (z : Appends c d (four page)) where
        behind_page : HasRoom d (two slot ++ value after)
        behind_page = room_then c d (four page) (two slot ++ value after) z behind_undo_next

        pub clr_slot : HasRoom d (two slot)
        clr_slot = room_first d (two slot) (value after) behind_page

        pub clr_after : (e : Vec ℕ) → Appends d e (two slot) → HasRoom e (value after)
        clr_after e w = room_then d e (two slot) (value after) w behind_page

module _ (a : Vec ℕ) (r : Record) (lsn begin : ℕ) (spans : List Span) (recs : List Changed)
    (is : r ≡ records.EndCheck lsn begin spans recs) (room : HasRoom a (spelling r)) where
  abbrev lists : List ℕ
  lists = counted span spans ++ counted changed recs

  check_whole : HasRoom a ((one 7 ++ eight lsn) ++ (eight begin ++ lists))
  check_whole = room_row a 7 lsn (eight begin ++ lists) (subst (λ (x : Record). HasRoom a (spelling x)) is room)

  pub check_row : HasRoom a (one 7 ++ eight lsn)
  check_row = room_first a (one 7 ++ eight lsn) (eight begin ++ lists) check_whole

  module _ (b : Vec ℕ) (x : Appends a b (one 7 ++ eight lsn)) where
    behind_row : HasRoom b (eight begin ++ lists)
    behind_row = room_then a b (one 7 ++ eight lsn) (eight begin ++ lists) x check_whole

    pub check_begin : HasRoom b (eight begin)
    check_begin = room_first b (eight begin) lists behind_row

    module _ (c : Vec ℕ) (y : Appends b c (eight begin)) where
      behind_begin : HasRoom c lists
      behind_begin = room_then b c (eight begin) lists y behind_row

      pub check_spans : HasRoom c (counted span spans)
      check_spans = room_first c (counted span spans) (counted changed recs) behind_begin

      pub check_recs : (d : Vec ℕ) → Appends c d (counted span spans) → HasRoom d (counted changed recs)
      check_recs d z = room_then c d (counted span spans) (counted changed recs) z behind_begin

-- an Update of values that are the same
pub same_update : (lsn : ℕ) (txn : TxnId) (prev page slot capacity : ℕ) (b a before after : Option (List ℕ)) → b ≡ before → a ≡ after
    → records.Update lsn txn prev page slot capacity b a ≡ records.Update lsn txn prev page slot capacity before after
same_update lsn txn prev page slot capacity b a before after e f =
    ap (λ (v : Option (List ℕ)). records.Update lsn txn prev page slot capacity v a) e
    ∙ ap (λ (v : Option (List ℕ)). records.Update lsn txn prev page slot capacity before v) f
