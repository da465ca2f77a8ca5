-- What each call leaves of a table keeps what every table keeps: for the goals of the calls of `TxnTable`.
use Rattle.std.proofs.Common.{◌≡◌, ℕ, ◌+◌, Bool, true, false, cond, List, [], ◌∷◌, is_some, None, Some, refl, sym, ap, subst, arith}
use Rattle.std.specs.List.{AllByRecursion}
use Rattle.std.specs.Map.{lookup, remove_entry, set_value}
use Rattle.indexmap.specs.IndexMap.{insert_entry}
use Rattle.sd_base.specs.Ids.{same_txn}
use Rattle.sd_base.specs.declared.ids.TxnId.{TxnId}
use Rattle.sd_txn.specs.declared.owed.Owed.{Owed}
use Rattle.sd_txn.specs.declared.state.OpenRec.{OpenRec}
use Rattle.sd_txn.specs.declared.state.TxnState.{TxnState}
use Rattle.sd_txn.specs.Kept.{undo_of, spans_of, IsTable, IsWith, IsWithin}
use Rattle.sd_txn.specs.Marked.{AreMarks}
use Rattle.sd_txn.specs.Owing.{undo_len}
use Rattle.sd_txn.specs.Transactions.{Transaction, depth, noted, popped, pushed, saved, shut, started, top, with_state}
use Rattle.sd_txn.proofs.Keyed.{insert_entry-absent, insert_entry-held}
use Rattle.sd_txn.proofs.Marks.{all-push, all-remove_entry, AreMarks-more, AreMarks-trimmed, AreMarks-with_mark}
use Rattle.sd_txn.proofs.Stacks.{undo_of-pushed, depth-pushed, undo_of-popped, depth-popped, undo_of-popped_none, depth-popped_none, AreMarks-popped}
use Rattle.sd_txn.proofs.Sums.{total-part, total-push, total-remove_entry, total-set_value}

abbrev Txns : Type 0
Txns = List (TxnId × Transaction)

abbrev IsMarked : TxnId × Transaction → Type 0
IsMarked e = AreMarks e.1.marks (depth e.1)

module _ (test : TxnId → Bool) where
  pub marked-lookup : (es : Txns) (y : Transaction) → AllByRecursion IsMarked es → lookup test es ≡ Some y → AreMarks y.marks (depth y)
  marked-lookup [] y a h = cc
  marked-lookup (e ∷ es) y a h = (elim (test e.0) as (λ b. cond b (Some e.1) (lookup test es) ≡ Some y → AreMarks y.marks (depth y)) [
    | true ↦ λ h. let is : e.1 ≡ y = cc in subst (λ (z : Transaction). AreMarks z.marks (depth z)) is a.0
    | false ↦ λ h. marked-lookup es y a.1 h
  ]) h

  marked-set_value : (es : Txns) (x : Transaction) → AllByRecursion IsMarked es → AreMarks x.marks (depth x) → AllByRecursion IsMarked (set_value test es x)
  marked-set_value [] x a ok = tt
  marked-set_value (e ∷ es) x a ok = elim (test e.0) as (λ b. AllByRecursion IsMarked (cond b ((e.0, x) ∷ es) (e ∷ set_value test es x))) [
    | true ↦ (ok, a.1)
    | false ↦ (a.0, marked-set_value es x a.1 ok)
  ]

AreMarks-started : (state : TxnState) → AreMarks (started state).marks (depth (started state))
AreMarks-started state = record { rising = tt; within = tt }

module _ (owed : Owed) (txns : Txns) (ok : IsTable owed txns) (t : TxnId) where
  -- one that begins
  pub IsTable-new : (state : TxnState) → lookup (same_txn t) txns ≡ None → IsTable owed (insert_entry same_txn txns t (started state))
  IsTable-new state none = subst (IsTable owed) (sym (insert_entry-absent t (started state) txns none)) (record {
    marked = all-push IsMarked txns (t, started state) ok.marked (AreMarks-started state);
    undo = omega (arith, total-push undo_of txns t (started state), ok.undo);
    records = omega (arith, total-push depth txns t (started state), ok.records);
    spans = omega (arith, total-push spans_of txns t (started state), ok.spans);
  })

  module _ (y : Transaction) (there : lookup (same_txn t) txns ≡ Some y) where
    marked : AreMarks y.marks (depth y)
    marked = marked-lookup (same_txn t) txns y ok.marked there

    pub IsWithin-part : IsWithin y owed
    IsWithin-part = record {
      undo = omega (arith, total-part undo_of (same_txn t) y txns there, ok.undo);
      records = omega (arith, total-part depth (same_txn t) y txns there, ok.records);
      spans = omega (arith, total-part spans_of (same_txn t) y txns there, ok.spans);
    }

    module _ (new : Owed) where
      -- one is taken out
      pub IsTable-removed : IsWith y new owed → IsTable new (remove_entry (same_txn t) txns)
      IsTable-removed less = record {
        marked = all-remove_entry IsMarked (same_txn t) txns ok.marked;
        undo = omega (arith, total-remove_entry undo_of (same_txn t) y txns there, ok.undo, less.undo);
        records = omega (arith, total-remove_entry depth (same_txn t) y txns there, ok.records, less.records);
        spans = omega (arith, total-remove_entry spans_of (same_txn t) y txns there, ok.spans, less.spans);
      }

      -- one is written anew
      IsTable-set : (x : Transaction) → AreMarks x.marks (depth x) → new.undo + undo_of y ≡ owed.undo + undo_of x → new.records + depth y ≡ owed.records + depth x
          → new.spans + spans_of y ≡ owed.spans + spans_of x → IsTable new (set_value (same_txn t) txns x)
      IsTable-set x marks undo records spans = record {
        marked = marked-set_value (same_txn t) txns x ok.marked marks;
        undo = omega (arith, total-set_value undo_of (same_txn t) y x txns there, ok.undo, undo);
        records = omega (arith, total-set_value depth (same_txn t) y x txns there, ok.records, records);
        spans = omega (arith, total-set_value spans_of (same_txn t) y x txns there, ok.spans, spans);
      }

      -- one begins anew
      pub IsTable-anew : (state : TxnState) → IsWith y new owed → IsTable new (insert_entry same_txn txns t (started state))
      IsTable-anew state less = subst (IsTable new) (sym (insert_entry-held t (started state) txns y there))
          (IsTable-set (started state) (AreMarks-started state) (omega (arith, less.undo)) (omega (arith, less.records)) (omega (arith, less.spans)))

      -- its row is shut
      pub IsTable-shut : IsWith y new owed → IsTable new (set_value (same_txn t) txns (shut y))
      IsTable-shut less = IsTable-set (shut y) (AreMarks-trimmed 0 y.marks marked.rising) (omega (arith, less.undo)) (omega (arith, less.records)) (omega (arith, less.spans))

      pub IsTable-noted : (lsn : ℕ) → new.undo ≡ owed.undo → new.records ≡ owed.records → new.spans ≡ owed.spans + cond (is_some y.span) 0 1 → IsTable new (set_value (same_txn t) txns (noted lsn y))
      IsTable-noted lsn undo records spans = IsTable-set (noted lsn y) marked (ap (λ n. n + undo_of y) undo) (ap (λ n. n + depth y) records) (spans-noted (is_some y.span) spans)
        where
          spans-noted : (b : Bool) → new.spans ≡ owed.spans + cond b 0 1 → new.spans + cond b 1 0 ≡ owed.spans + 1
          spans-noted true e = omega (arith, e)
          spans-noted false e = omega (arith, e)

      pub IsTable-pushed : (rec : OpenRec) → new.undo ≡ owed.undo + undo_len rec → new.records ≡ owed.records + 1 → new.spans ≡ owed.spans → IsTable new (set_value (same_txn t) txns (pushed rec y))
      IsTable-pushed rec undo records spans = IsTable-set (pushed rec y) (AreMarks-more y.marks (depth y) (depth (pushed rec y)) (omega (arith, depth-pushed y rec)) marked)
          (omega (arith, undo, undo_of-pushed y rec)) (omega (arith, records, depth-pushed y rec)) (ap (λ n. n + spans_of y) spans)

      pub IsTable-popped : (rec : OpenRec) → top y ≡ Some rec → new.undo + undo_len rec ≡ owed.undo → new.records + 1 ≡ owed.records → new.spans ≡ owed.spans → IsTable new (set_value (same_txn t) txns (popped y))
      IsTable-popped rec at undo records spans = IsTable-set (popped y) (AreMarks-popped y marked)
          (omega (arith, undo, undo_of-popped y rec at)) (omega (arith, records, depth-popped y rec at)) (ap (λ n. n + spans_of y) spans)

    pub IsTable-with_state : (state : TxnState) → IsTable owed (set_value (same_txn t) txns (with_state state y))
    IsTable-with_state state = IsTable-set owed (with_state state y) marked refl refl refl

    pub IsTable-saved : (name : List ℕ) → IsTable owed (set_value (same_txn t) txns (saved name y))
    IsTable-saved name = IsTable-set owed (saved name y) (AreMarks-with_mark y.marks (depth y) name marked) refl refl refl

    pub IsTable-same : IsTable owed (set_value (same_txn t) txns y)
    IsTable-same = IsTable-set owed y marked refl refl refl

    pub IsTable-popped_none : top y ≡ None → IsTable owed (set_value (same_txn t) txns (popped y))
    IsTable-popped_none none = IsTable-set owed (popped y) (AreMarks-popped y marked)
        (ap (λ n. owed.undo + n) (sym (undo_of-popped_none y none))) (ap (λ n. owed.records + n) (sym (depth-popped_none y none))) refl
