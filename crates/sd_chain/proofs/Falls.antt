-- An instance falls, or a recovery begins. It serves the laws on falls.
use Rattle.std.proofs.Common.{◌≡◌, ◌⊎◌, inl, inr, ⊎_elim, ℕ, ◌≤◌, Bool, true, false, cond, eqb, Option, None, Some, refl, sym, ap, ◌∙◌, subst, eq-eqb}
use Rattle.std.proofs.lemmas.Bool.{cases_eq}
use Rattle.sd_page.specs.Page.{Page}
use Rattle.sd_chain.specs.Laws.{May}
use Rattle.sd_pagelock.specs.Places.{PageEntry, changed, holds, passes, receives, uses}
use Rattle.sd_pagelock.specs.Rows.{fallen}
use Rattle.sd_pagelock.proofs.Drops.{changed-fallen}
use Rattle.sd_pagelock.proofs.Falls.{holds-fallen, uses-fallen}
use Rattle.sd_pagelock.proofs.Members.{not_both}
use Rattle.sd_pagelock.proofs.Uses
use Rattle.sd_chain.specs.World.{Base, newest_version, put_at}
use Rattle.sd_chain.specs.Coherent.{Sits}
use Rattle.sd_chain.specs.Falls.{BeginKeeps, DueOf, FallKeeps, SettledFallKeeps, begun, fell}
use Rattle.sd_chain.proofs.Cases.{by_seat, lost_seat, none_some, one_copy, own_seat, put_here, put_other, put_still, the_same}
use Rattle.sd_chain.proofs.LogsSettled.{settles-coherent}

-- a copy that isn't dropped stays
drop_copy : (a b : Bool) (x : Page) → cond a None (cond b (Some x) None) ≡ cond (cond a false b) (Some x) None
drop_copy true b x = refl
drop_copy false b x = refl

-- who is due
due_is : {may : May} (i a j : ℕ) (b : Base may) → DueOf i b → b.due ≡ Some (a, j) → (a ≡ i) × (b.loose j ≡ true)
due_is i a j b h e = ⊎_elim
    (λ n. none_some n e)
    (λ d. let is = the_same e d.1 in (ap (λ (x : ℕ × ℕ). x.0) is, ap b.loose (ap (λ (x : ℕ × ℕ). x.1) is) ∙ d.2))
    h

-- where a page sat, its rest sits
sits_fallen : {may : May} (i : ℕ) (b : Base may) → DueOf i b → (j : ℕ) (e : PageEntry) → Sits b e j → Sits (fell i b) (fallen i e) j
sits_fallen i b due j e = by_seat b e j (Sits (fell i b) (fallen i e) j)
    (λ settled is. ⊎_elim
    (λ mine. lost_seat (fell i b) (fallen i e) j (put_here i true b.loose j mine) (falls j mine is))
    (λ ne. own_seat (fell i b) (fallen i e) j (put_other i true b.loose j ne ∙ settled) (ap (fallen i) is ∙ Uses.excl-stays i j ne))
    (cases_eq j i))
    (λ loose lost. lost_seat (fell i b) (fallen i e) j (put_still i true b.loose j loose) (ap (fallen i) lost))
    (λ a is_due is. let whose = due_is i a j b due is_due in
    lost_seat (fell i b) (fallen i e) j (put_still i true b.loose j whose.1) (falls a whose.0 is))
  where
    falls : (k : ℕ) → k ≡ i → e ≡ PageEntry.Excl k true → fallen i e ≡ PageEntry.Lost
    falls k mine is = ap (fallen i) (is ∙ ap (λ (z : ℕ). PageEntry.Excl z true) mine) ∙ Uses.excl-falls i

pub fall-keeps : (may : May) → FallKeeps may
fall-keeps may i b old new c due f = record {
  safe = c.safe;
  eight = c.eight;
  reads = c.reads;
  still = c.still;
  copies = λ k p. pools k p ∙ ap (λ (o : Option Page). cond (eqb i k) None o) (c.copies k p)
      ∙ drop_copy (eqb i k) (holds (old.entry p) k) (newest_version b p)
      ∙ sym (ap (λ (t : Bool). cond t (Some (newest_version b p)) None) (ap (λ (l : PageEntry). holds l k) (f.entry p) ∙ holds-fallen i k (old.entry p)));
  moving = λ p. f.moving p ∙ ap (λ (o : Option Page). cond (receives (old.entry p) i) None o) (c.moving p)
      ∙ drop_copy (receives (old.entry p) i) (passes (old.entry p)) (newest_version b p)
      ∙ sym (ap (λ (t : Bool). cond t (Some (newest_version b p)) None) (ap passes (f.entry p) ∙ Uses.passes-fallen i (old.entry p)));
  live = λ k p u. live k p (sym (uses-fallen i k (old.entry p)) ∙ (sym (ap (λ (l : PageEntry). uses l k) (f.entry p)) ∙ u));
  unforced = λ j p. ⊎_elim (λ q. inl q)
      (λ sits. inr (subst (λ (l : PageEntry). Sits (fell i b) l j) (sym (f.entry p)) (sits_fallen i b due j (old.entry p) sits)))
      (c.unforced j p);
  ready = ready;
  marks = λ p. c.marks p ∙ sym (ap changed (f.entry p) ∙ changed-fallen i (old.entry p));
  clean = λ p e. c.clean p (sym (ap changed (f.entry p) ∙ changed-fallen i (old.entry p)) ∙ e);
  first = c.first;
  below = λ p l e found. c.below p l e (λ lost. found (f.entry p ∙ ap (fallen i) lost));
}
  where
    pools : (k p : ℕ) → new.pool k p ≡ cond (eqb i k) None (old.pool k p)
    pools k p = one_copy {p = p} {i = i} {copy = None} {old = old} {new = new}
        (record { here = f.pool p; others = λ z ne. f.other_pools z p ne }) k

    live : (k p : ℕ) → cond (eqb i k) false (uses (old.entry p) k) ≡ true → put_at i false b.active k ≡ true
    live k p u = ⊎_elim
        (λ e. not_both u (ap (λ (t : Bool). cond t false (uses (old.entry p) k)) (eq-eqb i k (sym e))))
        (λ ne. put_other i false b.active k ne ∙ c.live k p (Uses.left-used (eqb i k) (uses (old.entry p) k) u))
        (cases_eq k i)

    ready : (j : ℕ) → 1 ≤ j → put_at i false b.up j ≡ true → (put_at i true b.loose j ≡ false) ⊎ ((fell i b).due ≡ Some (j, j))
    ready j lo up = ⊎_elim
        (λ e. not_both up (put_here i false b.up j e))
        (λ ne. ⊎_elim (λ l. inl (put_other i true b.loose j ne ∙ l)) (λ d. absurd (ne (due_is i j j b due d).0))
        (c.ready j lo (sym (put_other i false b.up j ne) ∙ up)))
        (cases_eq j i)

-- the fall of an instance whose log is settled: its tail is gone
pub settled_fall-keeps : (may may' : May) → SettledFallKeeps may may'
settled_fall-keeps may may' i b b' old new c due f s = settles-coherent i false (fell i b) b' new
    (fall-keeps may i b old new c due f) s (inr (put_here i true b.loose i refl, refl))

-- a recovery begins: of an instance that isn't active
pub begin-keeps : (may : May) → BeginKeeps may
begin-keeps may i itself b d c idle down not_up = record {
  safe = c.safe;
  eight = c.eight;
  reads = c.reads;
  still = λ e. absurd (cc);
  copies = c.copies;
  moving = c.moving;
  live = λ k p u. active_still itself k (c.live k p u);
  unforced = λ k p. ⊎_elim (λ q. inl q) (λ sits. inr (sits_begun k p sits)) (c.unforced k p);
  ready = λ k lo up. ⊎_elim
      (λ e. not_both (ap b.up (sym e) ∙ up) not_up)
      (λ ne. ⊎_elim (λ l. inl (put_other i true b.loose k ne ∙ l)) (λ due. inr due) (c.ready k lo up))
      (cases_eq k i);
  marks = c.marks;
  clean = c.clean;
  first = c.first;
  below = c.below;
}
  where
    active_still : (itself : Bool) (k : ℕ) → b.active k ≡ true → (cond itself (put_at i true b.active) b.active) k ≡ true
    active_still true k a = put_still i true b.active k a
    active_still false k a = a

    sits_begun : (k p : ℕ) → Sits b (d.entry p) k → Sits (begun i itself b) (d.entry p) k
    sits_begun k p = by_seat b (d.entry p) k (Sits (begun i itself b) (d.entry p) k)
        (λ settled is. ⊎_elim
        (λ e. not_both (c.live k p (Uses.excl-uses k true (d.entry p) is)) (ap b.active e ∙ down))
        (λ ne. own_seat (begun i itself b) (d.entry p) k (put_other i true b.loose k ne ∙ settled) is)
        (cases_eq k i))
        (λ loose lost. lost_seat (begun i itself b) (d.entry p) k (put_still i true b.loose k loose) lost)
        (λ a due is. none_some idle due)
