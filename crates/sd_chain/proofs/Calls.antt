-- Whole calls out of several events. It serves the laws on them.
use Rattle.std.proofs.Common.{◌≡◌, ◌⊎◌, inl, inr, ⊎_elim, ℕ, true, false, refl, sym, ap, ◌∙◌, subst}
use Rattle.sd_logrec.specs.View.{Rec}
use Rattle.sd_page.specs.Page.{Page}
use Rattle.sd_chain.specs.Laws.{May}
use Rattle.sd_pagelock.specs.Places.{PageEntry}
use Rattle.sd_pagelock.specs.Rows.{dirtied}
use Rattle.sd_pagelock.proofs.Members.{not_both}
use Rattle.sd_pagelock.proofs.Uses
use Rattle.sd_chain.specs.World.{Base, Dir}
use Rattle.sd_chain.specs.Coherent.{Coherent, Quiet}
use Rattle.sd_chain.specs.Forces.{failing}
use Rattle.sd_chain.specs.Calls.{OwnFallKeeps, UndoForFailKeeps, UndoForFallKeeps, UndoForKeeps, UndoesFor}
use Rattle.sd_chain.proofs.Cases.{by_seat, put_here, the_same}
use Rattle.sd_chain.proofs.Changes.{change-coherent}
use Rattle.sd_chain.proofs.LogsSettled.{fail-keeps, settled_fail-keeps}
use Rattle.sd_chain.proofs.Falls.{fall-keeps}
use Rattle.sd_chain.proofs.OneUpdater.{inactive-none}

module _ {may may' : May} (a j : ℕ) (image : Page) (y : Rec) (b : Base may) (b' : Base may') (d d' : Dir) (c : Coherent b d)
    (u : UndoesFor a j image y b b' d d') where
  -- the failed log has no record of a page in its tail
  nothing : (p : ℕ) → Quiet p (b.tails.tail j) ⊎ (d.entry p ≡ dirtied a)
  nothing p = inl (⊎_elim (λ e. subst (λ (k : ℕ). Quiet p (b.tails.tail k)) e (subst (Quiet p) (sym u.own_forced) tt))
      (λ off. inactive-none may b d c u.idle j off u.settled p) u.whose)

  pub undo-coherent : Coherent b' d'
  undo-coherent = change-coherent a j image y (failing a j false b) b' d d'
      (fail-keeps may a j false b d c (inl u.idle) (inr u.not_up) nothing) u.change

  -- where a page sits of which the failed log has a record now
  where_now : (p : ℕ) → Quiet p (b'.tails.tail j) ⊎ (d'.entry p ≡ dirtied a)
  where_now p = ⊎_elim (λ q. inl q)
      (by_seat b' (d'.entry p) j (Quiet p (b'.tails.tail j) ⊎ (d'.entry p ≡ dirtied a))
      (λ settled is. ⊎_elim
      (λ e. inr (is ∙ ap (λ (k : ℕ). PageEntry.Excl k true) (sym e)))
      (λ off. not_both (undo-coherent.live j p (Uses.excl-uses j true (d'.entry p) is)) (u.change.stays.active j ∙ off))
      u.whose)
      (λ loose lost. not_both loose (u.change.stays.loose j u.change.low ∙ put_here j false b.loose j refl))
      (λ z due is. inr (is ∙ ap (λ (k : ℕ). PageEntry.Excl k true) (ap (λ (x : ℕ × ℕ). x.0) (the_same due u.change.stays.due)))))
      (undo-coherent.unforced j p)

  pub undo_fails-coherent : Coherent (failing a j true b') d'
  undo_fails-coherent = fail-keeps may' a j true b' d' undo-coherent (inr u.change.stays.due)
      (inr (u.change.stays.up j ∙ u.not_up)) where_now

pub undo_for-keeps : (may may' : May) → UndoForKeeps may may'
undo_for-keeps may may' a j image y b b' d d' c u = undo-coherent a j image y b b' d d' c u

pub undo_for_fail-keeps : (may may' : May) → UndoForFailKeeps may may'
undo_for_fail-keeps may may' a j image y b b' d d' c u = undo_fails-coherent a j image y b b' d d' c u

pub undo_for_fall-keeps : (may may' : May) → UndoForFallKeeps may may'
undo_for_fall-keeps may may' a j image y b b' d d' down c u f = fall-keeps may' a (failing a j true b') d' down
    (undo_fails-coherent a j image y b b' d d' c u) (inr (j, refl, put_here j true b'.loose j refl)) f

-- an instance's own force fails, and it falls
pub own_fall-keeps : (may : May) → OwnFallKeeps may
own_fall-keeps may i b d down c idle settled f = fall-keeps may i (failing i i true b) d down
    (settled_fail-keeps may i i b d c idle settled (inl refl)) (inr (i, refl, put_here i true b.loose i refl)) f
