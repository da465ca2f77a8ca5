-- A log is settled, or a force fails. It serves the laws on forces.
use Rattle.std.proofs.Common.{◌≡◌, ◌≢◌, ◌⊎◌, inl, inr, ⊎_elim, ℕ, ◌<◌, ◌≤◌, Bool, true, false, cond, List, [], ◌++◌, None, Some, refl, sym, ap, ap₂, ◌∙◌, subst}
use Rattle.std.specs.Prelude.{is_some}
use Rattle.std.proofs.lemmas.Bool.{cases_eq}
use Rattle.sd_logrec.specs.View.{Rec}
use Rattle.sd_page.specs.Page.{Page}
use Rattle.sd_chain.specs.Records.{of_page}
use Rattle.sd_chain.specs.Images.{all_kept}
use Rattle.sd_chain.specs.Laws.{May}
use Rattle.sd_pagelock.specs.Places.{PageEntry, holds, passes}
use Rattle.sd_pagelock.specs.Rows.{dirtied}
use Rattle.sd_pagelock.proofs.Members.{not_both}
use Rattle.sd_pagelock.proofs.Uses
use Rattle.sd_chain.specs.World.{Base, Dir, newest_version}
use Rattle.sd_chain.specs.Coherent.{Coherent, Quiet, Sits}
use Rattle.sd_chain.specs.Forces.{FailKeeps, SettledFailKeeps, SettleKeeps, Settles, failing}
use Rattle.sd_chain.proofs.Cases.{by_seat, copy_same, due_seat, lost_seat, none_some, own_seat, put_other, seated, the_same}
use Rattle.sd_chain.proofs.Versions
use Rattle.sd_chain.proofs.Versions.{Each-settled}

module _ {may may' : May} (i : ℕ) (kept : Bool) (old : Base may) (new : Base may') (d : Dir) (c : Coherent old d)
    (s : Settles i kept old new) (how : (kept ≡ true) ⊎ ((old.loose i ≡ true) × (old.due ≡ None))) where
  -- the tail has nothing of a page that isn't lost, or is kept
  matters : (p : ℕ) → d.entry p ≢ PageEntry.Lost → (kept ≡ true) ⊎ Quiet p (old.tails.tail i)
  matters p found = ⊎_elim (λ k. inl k)
      (λ l. inr (⊎_elim (λ q. q)
      (by_seat old (d.entry p) i (Quiet p (old.tails.tail i))
      (λ settled is. not_both l.0 settled) (λ loose lost. absurd (found lost)) (λ a due is. none_some l.1 due))
      (c.unforced i p)))
      how

  same : (p : ℕ) → d.entry p ≢ PageEntry.Lost → newest_version new p ≡ newest_version old p
  same p found = s.version all_kept p
      ∙ Versions.version-settled old.tails may old.version c.safe old.disk c.reads i kept p (matters p found)

  still_due : (j a : ℕ) → j ≢ i → old.due ≡ Some (a, j) → new.due ≡ Some (a, j)
  still_due j a ne e = ⊎_elim (λ same. same ∙ e)
      (λ ends. absurd (ne (ap (λ (x : ℕ × ℕ). x.1) (the_same e ends.1)))) s.due

  unforced : (j p : ℕ) → Quiet p (new.tails.tail j) ⊎ Sits new (d.entry p) j
  unforced j p = ⊎_elim
      (λ e. inl (subst (Quiet p) (sym (ap new.tails.tail e ∙ s.tails.tail)) tt))
      (λ ne. ⊎_elim (λ q. inl (subst (Quiet p) (sym (s.tails.other_tails j ne)) q))
      (λ sits. inr (by_seat old (d.entry p) j (Sits new (d.entry p) j)
      (λ settled is. own_seat new (d.entry p) j (s.other_loose j sits.0 ne ∙ settled) is)
      (λ loose lost. lost_seat new (d.entry p) j (s.other_loose j sits.0 ne ∙ loose) lost)
      (λ a due is. due_seat new (d.entry p) j a (still_due j a ne due) is) sits.1))
      (seated old d c p j))
      (cases_eq j i)

  ready : (j : ℕ) → 1 ≤ j → new.up j ≡ true → (new.loose j ≡ false) ⊎ (new.due ≡ Some (j, j))
  ready j lo up = ⊎_elim
      (λ e. inl (ap new.loose e ∙ s.settled))
      (λ ne. ⊎_elim (λ l. inl (s.other_loose j lo ne ∙ l)) (λ due. inr (still_due j j ne due)) (c.ready j lo (sym (s.up j) ∙ up)))
      (cases_eq j i)

  -- there is still no log 0
  eight : (new.tails.base 0 ≡ []) × (new.tails.tail 0 ≡ [])
  eight = ⊎_elim
      (λ e. (
        ap new.tails.base e ∙ s.tails.base ∙ ap₂ (λ (x z : List Rec). x ++ cond kept z []) (none e).0 (none e).1 ∙ nothing kept,
        ap new.tails.tail e ∙ s.tails.tail,
      ))
      (λ ne. (s.tails.other_bases 0 ne ∙ c.eight.0, s.tails.other_tails 0 ne ∙ c.eight.1))
      (cases_eq 0 i)
    where
      none : 0 ≡ i → (old.tails.base i ≡ []) × (old.tails.tail i ≡ [])
      none e = (ap old.tails.base (sym e) ∙ c.eight.0, ap old.tails.tail (sym e) ∙ c.eight.1)

      nothing : (t : Bool) → [] ++ cond {A = List Rec} t [] [] ≡ []
      nothing true = refl
      nothing false = refl

  pub settles-coherent : Coherent new d
  settles-coherent = record {
    safe = s.safe;
    eight = eight;
    reads = s.reads;
    still = λ settled p x m. c.still (sym s.loose_disk ∙ settled) p x (s.less p x m) ∙ sym (s.disk p);
    copies = λ k p. c.copies k p
        ∙ copy_same (holds (d.entry p) k) (newest_version old p) (newest_version new p) (λ h. same p (Uses.held-found k (d.entry p) h));
    moving = λ p. c.moving p
        ∙ copy_same (passes (d.entry p)) (newest_version old p) (newest_version new p) (λ h. same p (Uses.passes-found (d.entry p) h));
    live = λ k p u. s.active k ∙ c.live k p u;
    unforced = unforced;
    ready = ready;
    marks = λ p. ap is_some (s.rec_lsn p) ∙ c.marks p;
    clean = λ p e x m. c.clean p e x (s.less p x m) ∙ sym (same p (Uses.clean-found (d.entry p) e));
    first = λ p l e x m j. Each-settled (λ r. of_page p r ≡ true → x.lsn < r.lsn → l ≤ r.lsn) i kept old.tails new.tails s.tails j
        (c.first p l (sym (s.rec_lsn p) ∙ e) x (s.less p x m) j);
    below = λ p l e found. subst (λ (v : Page). l ≤ v.lsn) (sym (same p found)) (c.below p l (sym (s.rec_lsn p) ∙ e) found);
  }

pub settle-keeps : (may may' : May) → SettleKeeps may may'
settle-keeps may may' i kept old new d c s how = settles-coherent i kept old new d c s how

-- a force fails, or one by a recoverer begins or fails
pub fail-keeps : (may : May) → FailKeeps may
fail-keeps may a j loose b d c idle own at = record {
  safe = c.safe;
  eight = c.eight;
  reads = c.reads;
  still = c.still;
  copies = c.copies;
  moving = c.moving;
  live = c.live;
  unforced = λ k p. ⊎_elim
      (λ e. subst (λ (z : ℕ). Quiet p (b.tails.tail z) ⊎ Sits (failing a j loose b) (d.entry p) z) (sym e)
      (⊎_elim (λ q. inl q) (λ h. inr (due_seat (failing a j loose b) (d.entry p) j a refl h)) (at p)))
      (λ ne. ⊎_elim (λ q. inl q) (λ sits. inr (other k p ne sits)) (c.unforced k p))
      (cases_eq k j);
  ready = λ k lo up. ⊎_elim
      (λ e. ⊎_elim
      (λ is. inr (ap (λ (z : ℕ). Some (z, j)) (is ∙ sym e) ∙ ap (λ (z : ℕ). Some (k, z)) (sym e)))
      (λ off. not_both (ap b.up (sym e) ∙ up) off) own)
      (λ ne. ⊎_elim (λ l. inl (put_other j loose b.loose k ne ∙ l)) (λ due. not_due k k ne due) (c.ready k lo up))
      (cases_eq k j);
  marks = c.marks;
  clean = c.clean;
  first = c.first;
  below = c.below;
}
  where
    not_due : {A : Type 0} (k z : ℕ) → k ≢ j → b.due ≡ Some (z, k) → A
    not_due k z ne e = ⊎_elim (λ n. none_some n e) (λ s. absurd (ne (ap (λ (x : ℕ × ℕ). x.1) (the_same e s)))) idle

    other : (k p : ℕ) → k ≢ j → Sits b (d.entry p) k → Sits (failing a j loose b) (d.entry p) k
    other k p ne = by_seat b (d.entry p) k (Sits (failing a j loose b) (d.entry p) k)
        (λ settled is. own_seat (failing a j loose b) (d.entry p) k (put_other j loose b.loose k ne ∙ settled) is)
        (λ unsettled lost. lost_seat (failing a j loose b) (d.entry p) k (put_other j loose b.loose k ne ∙ unsettled) lost)
        (λ z due is. not_due k z ne due)

-- the force of a settled log fails: who made it is to fall
pub settled_fail-keeps : (may : May) → SettledFailKeeps may
settled_fail-keeps may a i b d c idle settled whose = fail-keeps may a i true b d c (inl idle)
    (⊎_elim (λ own. inl own) (λ other. inr other.1) whose)
    (λ p. ⊎_elim (λ q. inl q)
    (by_seat b (d.entry p) i (Quiet p (b.tails.tail i) ⊎ (d.entry p ≡ dirtied a))
    (λ mark is. ⊎_elim
    (λ own. inr (is ∙ ap (λ (k : ℕ). PageEntry.Excl k true) (sym own)))
    (λ other. not_both (c.live i p (Uses.excl-uses i true (d.entry p) is)) other.0) whose)
    (λ loose lost. not_both loose settled) (λ z due is. none_some idle due))
    (c.unforced i p))
