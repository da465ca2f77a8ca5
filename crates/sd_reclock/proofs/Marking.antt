-- Marks of pages after a write to the locks on one record, or on all of one transaction. It serves the goals of many.rt.
use Rattle.std.proofs.Common.{◌≡◌, ◌≢◌, ℕ, Bool, true, false, ◌&&◌, cond, List, get_or, Option, None, refl, sym, ap, subst, ◌∙◌, ⊎_elim}
use Rattle.std.proofs.lemmas.Bool.{cases_Bool, true≢false}
use Rattle.sd_base.specs.declared.ids.TxnId.{TxnId}
use Rattle.sd_base.specs.declared.ids.Rid.{Rid}
use Rattle.sd_base.specs.declared.place.Mode.{Mode}
use Rattle.sd_base.specs.Ids.{same_txn, same_rid}
use Rattle.sd_reclock.specs.Locks.{Held, held_in, IsNoStronger}
use Rattle.sd_reclock.specs.Marking.{AreMarked}
use Rattle.sd_reclock.proofs.Writes.{Changes}
use Rattle.sd_reclock.proofs.Agreeing.{Frees}
use Rattle.sd_reclock.proofs.Lowering.{none_lowered}
use Rattle.sd_base.proofs.SameIds.{ne-same_rid}
use Rattle.sd_base.proofs.Orders.{same-rid-is}

none_in : (b : Bool) (x o : Option Mode) → x ≡ None → o ≡ None → cond {A = Option Mode} b x o ≡ None
none_in true x o is none = is
none_in false x o is none = none

none_past : (a b : Bool) (x o : Option Mode) → b ≡ false → o ≡ None → cond {A = Option Mode} (a && b) x o ≡ None
none_past true true x o is none = absurd (true≢false is)
none_past true false x o is none = none
none_past false b x o is none = none

-- `had` are the marks before the page p gets one, and `has` those after
module _ (had has : List Bool) (p : ℕ) (marked : get_or has p false ≡ true) (more : (q : ℕ) → get_or has q false ≡ false → get_or had q false ≡ false) where
  apart : (q : ℕ) → get_or has q false ≡ false → q ≢ p
  apart q none is = true≢false (sym marked ∙ ap (λ n. get_or has n false) (sym is) ∙ none)

  -- a further mark
  pub marked_more : (locks : Held) → AreMarked locks had → AreMarked locks has
  marked_more locks all q u none = all q u (more q.page none)

  -- a lock is given on a record of the page that gets the mark
  pub marked_put : (old new : Held) (t : TxnId) (r : Rid) (x : Option Mode) → r.page ≡ p → AreMarked old had → Changes old new t r x → AreMarked new has
  marked_put old new t r x is all changed q u none = changed u q
      ∙ none_past (same_txn t u) (same_rid r q) x (held_in old u q) (ne-same_rid r q (λ e. apart q.page none (ap (λ (z : Rid). z.page) (sym e) ∙ is))) (all q u (more q.page none))

-- a lock is lowered, or taken away
pub marked_lowered : (old new : Held) (pages : List Bool) (t : TxnId) (r : Rid) (to : Option Mode) → IsNoStronger to (held_in old t r) → AreMarked old pages → Changes old new t r to → AreMarked new pages
marked_lowered old new pages t r to weaker marked changed q u none = changed u q ∙ ⊎_elim
    (λ h. none_in (same_txn t u && same_rid r q) to (held_in old u q)
    (none_lowered to (held_in old t r) weaker (marked r t (subst (λ (z : Rid). get_or pages z.page false ≡ false) (sym (same-rid-is r q h)) none))) (marked q u none))
    (λ h. none_past (same_txn t u) (same_rid r q) to (held_in old u q) h (marked q u none))
    (cases_Bool (same_rid r q))

-- all locks of a transaction are taken away
pub marked_freed : (old new : Held) (pages : List Bool) (t : TxnId) → AreMarked old pages → Frees old new t → AreMarked new pages
marked_freed old new pages t marked frees q u none = frees u q ∙ none_in (same_txn t u) None (held_in old u q) refl (marked q u none)
