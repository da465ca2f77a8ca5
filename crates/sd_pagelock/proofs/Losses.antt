-- No lawful move loses a page, and a changed page becomes clean by a write alone. It serves the laws.
use Rattle.std.proofs.Common.{◌≡◌, ℕ, Bool, true, false, cond, eqb, List, [], ◌∷◌, Option, refl, sym, ap, ◌∙◌, eqb-true, eq-eqb}
use Rattle.std.specs.Prelude.{is_some, not, ◌&&◌, ◌||◌}
use Rattle.sd_base.specs.declared.place.Mode.{Mode}
use Rattle.sd_base.specs.declared.place.Mode.TheVariants as modes
use Rattle.sd_base.specs.declared.place.Place as coded
use Rattle.sd_base.specs.declared.place.Place.TheVariants as variants
use Rattle.sd_base.specs.Sets.{has, without, members, chosen, in_byte}
use Rattle.sd_pagelock.specs.Places.{PageEntry, seen, changed, is_free, is_lost, passes, Formed}
use Rattle.sd_pagelock.specs.Rows.{is_only, locked, may_raise, raised, may_share, given_shared, taken, may_evict, fallen, nowhere, left_with, shared_left, may_write, written}
use Rattle.sd_pagelock.specs.Moves.{IsMove}
use Rattle.sd_pagelock.proofs.Members.{not_both}
use Rattle.sd_pagelock.proofs.Drops.{changed-fallen}
use Rattle.sd_pagelock.proofs.Rowwise.{drop_evicts}

-- nobody is listed twice
abbrev Apart : List ℕ → Type 0
Apart [] = Unit {0}
Apart (x ∷ xs) = (has x xs ≡ false) × Apart xs

has-chosen : (test : ℕ → Bool) (k : ℕ) (xs : List ℕ) → has k xs ≡ false → has k (chosen test xs) ≡ false
has-chosen test k [] none = refl
has-chosen test k (x ∷ xs) none = go (test x) (eqb x k) refl none (has-chosen test k xs)
  where
    go : (b is : Bool) → eqb x k ≡ is → cond is true (has k xs) ≡ false → (has k xs ≡ false → has k (chosen test xs) ≡ false) → has k (cond b (x ∷ chosen test xs) (chosen test xs)) ≡ false
    go b true e none ih = not_both refl none
    go true false e none ih = ap (λ (c : Bool). cond c true (has k (chosen test xs))) e ∙ ih none
    go false false e none ih = ih none

apart-chosen : (test : ℕ → Bool) (xs : List ℕ) → Apart xs → Apart (chosen test xs)
apart-chosen test [] all = tt
apart-chosen test (x ∷ xs) all = go (test x) (has-chosen test x xs all.0) (apart-chosen test xs all.1)
  where
    go : (b : Bool) → has x (chosen test xs) ≡ false → Apart (chosen test xs) → Apart (cond b (x ∷ chosen test xs) (chosen test xs))
    go true none rest = (none, rest)
    go false none rest = rest

apart-members : (b : ℕ) → Apart (members b)
apart-members b = apart-chosen (in_byte b) (1 ∷ 2 ∷ 3 ∷ 4 ∷ 5 ∷ 6 ∷ 7 ∷ 8 ∷ []) (refl, (refl, (refl, (refl, (refl, (refl, (refl, (refl, tt))))))))

nil_cons : {A : Type 0} (x : ℕ) (xs : List ℕ) → x ∷ xs ≡ [] → A
nil_cons x xs e = absurd (cc)

-- of a list without i nobody is left: the head is i, and so is the rest empty
head_is : (i x : ℕ) (xs : List ℕ) → without i (x ∷ xs) ≡ [] → (eqb x i ≡ true) × (without i xs ≡ [])
head_is i x xs e = go (eqb x i) e
  where
    go : (b : Bool) → cond {A = List ℕ} b (without i xs) (x ∷ without i xs) ≡ [] → (b ≡ true) × (without i xs ≡ [])
    go true e = (refl, e)
    go false e = nil_cons x (without i xs) e

only-left : (i : ℕ) (xs : List ℕ) → Apart xs → has i xs ≡ true → without i xs ≡ [] → is_only i xs ≡ true
only-left i [] all there gone = not_both there refl
only-left i (x ∷ []) all there gone = (head_is i x [] gone).0
only-left i (x ∷ y ∷ xs) all there gone =
    let first = head_is i x (y ∷ xs) gone in
    let second = head_is i y xs first.1 in
    not_both (ap (λ (b : Bool). cond b true (has x xs)) (eq-eqb y x (eqb-true y i second.0 ∙ sym (eqb-true x i first.0)))) all.0

-- a copy that may be evicted leaves the page with others, or as on disk
evicted-shared : (i : ℕ) (set : List ℕ) (writer : Option ℕ) → Apart set → may_evict i (PageEntry.Shared set writer) ≡ true → is_lost (fallen i (PageEntry.Shared set writer)) ≡ false
evicted-shared i set writer all m = go (without i set) refl
  where
    both : (a b c : Bool) → (a && not (b && c)) ≡ true → b ≡ true → c ≡ false
    both true true true m e = absurd (cc)
    both true true false m e = refl
    both true false c m e = absurd (cc)
    both false b c m e = absurd (cc)

    there : (a b : Bool) → (a && b) ≡ true → a ≡ true
    there true b e = refl
    there false b e = absurd (cc)

    go : (xs : List ℕ) → without i set ≡ xs → is_lost (shared_left i xs writer) ≡ false
    go [] e = ap (λ (b : Bool). is_lost (nowhere b)) (both (has i set) (is_only i set) (is_some writer) m (only-left i set all (there (has i set) (not (is_only i set && is_some writer)) m) e))
    go (x ∷ xs) e = refl

evicted : (i : ℕ) (from : coded.Place) → Formed (seen from) → may_evict i (seen from) ≡ true → is_lost (fallen i (seen from)) ≡ false
evicted i variants.Free f m = refl
evicted i variants.Lost f m = absurd (cc)
evicted i (variants.Shared set writer) f m = evicted-shared i (members set.bits) writer (apart-members set.bits) m
evicted i (variants.Excl holder dirty) f m = go (eqb holder i) dirty m
  where
    go : (b d : Bool) → (b && not d) ≡ true → is_lost (cond b (nowhere d) (PageEntry.Excl holder d)) ≡ false
    go true true m = absurd (cc)
    go true false m = refl
    go false d m = refl
evicted i (variants.Moving to mode rest dirty) f m = go (eqb to i) refl
  where
    go : (b : Bool) → eqb to i ≡ b → is_lost (cond b (left_with dirty (without i (members rest.bits))) (PageEntry.Moving to mode (without i (members rest.bits)) dirty)) ≡ false
    go true e = not_both (ap (λ (z : ℕ). has z (members rest.bits)) (eqb-true to i e) ∙ m) f.1
    go false e = refl

there-locked : (i : ℕ) (mode : Mode) → is_lost (locked i mode) ≡ false
there-locked i modes.Shared = refl
there-locked i modes.Excl = refl

there-raised : (i : ℕ) (e : PageEntry) → may_raise i e ≡ true → is_lost (raised i e) ≡ false
there-raised i PageEntry.Free m = refl
there-raised i PageEntry.Lost m = absurd (cc)
there-raised i (PageEntry.Shared set writer) m = refl
there-raised i (PageEntry.Excl holder dirty) m = refl
there-raised i (PageEntry.Moving to mode rest dirty) m = refl

there-shared : (i : ℕ) (e : PageEntry) → may_share i e ≡ true → is_lost (given_shared i e) ≡ false
there-shared i PageEntry.Free m = refl
there-shared i PageEntry.Lost m = absurd (cc)
there-shared i (PageEntry.Shared set writer) m = refl
there-shared i (PageEntry.Excl holder dirty) m = refl
there-shared i (PageEntry.Moving to mode rest dirty) m = refl

there-taken : (e : PageEntry) → passes e ≡ true → is_lost (taken e) ≡ false
there-taken PageEntry.Free m = refl
there-taken PageEntry.Lost m = absurd (cc)
there-taken (PageEntry.Shared set writer) m = refl
there-taken (PageEntry.Excl holder dirty) m = refl
there-taken (PageEntry.Moving to modes.Excl rest dirty) m = refl
there-taken (PageEntry.Moving to modes.Shared rest dirty) m = refl

there-written : (e : PageEntry) → is_lost (written e) ≡ false
there-written PageEntry.Free = refl
there-written PageEntry.Lost = refl
there-written (PageEntry.Shared set writer) = refl
there-written (PageEntry.Excl holder dirty) = refl
there-written (PageEntry.Moving to mode rest dirty) = refl

pub never_lost : (from : coded.Place) (to : PageEntry) → Formed (seen from) → IsMove (seen from) to → is_lost to ≡ false
never_lost from to f (IsMove.lock i mode m e) = ap is_lost e ∙ there-locked i mode
never_lost from to f (IsMove.raise i m e) = ap is_lost e ∙ there-raised i (seen from) m
never_lost from to f (IsMove.share i m e) = ap is_lost e ∙ there-shared i (seen from) m
never_lost from to f (IsMove.yield i m e) = ap is_lost e
never_lost from to f (IsMove.drop i m e) = ap is_lost e ∙ evicted i from f (drop_evicts i (seen from) m)
never_lost from to f (IsMove.take m e) = ap is_lost e ∙ there-taken (seen from) m
never_lost from to f (IsMove.evict i m e) = ap is_lost e ∙ evicted i from f m
never_lost from to f (IsMove.write m e) = ap is_lost e ∙ there-written (seen from)
never_lost from to f (IsMove.change i m e) = ap is_lost e
never_lost from to f (IsMove.rebuild m e) = ap is_lost e ∙ there-written (seen from)

-- what the other rows leave of a change
pub free_clean : (e : PageEntry) → is_free e ≡ true → changed e ≡ false
free_clean PageEntry.Free m = refl
free_clean PageEntry.Lost m = absurd (cc)
free_clean (PageEntry.Shared set writer) m = absurd (cc)
free_clean (PageEntry.Excl holder dirty) m = absurd (cc)
free_clean (PageEntry.Moving to mode rest dirty) m = absurd (cc)

pub changed-raised : (i : ℕ) (e : PageEntry) → changed (raised i e) ≡ changed e
changed-raised i PageEntry.Free = refl
changed-raised i PageEntry.Lost = refl
changed-raised i (PageEntry.Shared set writer) = refl
changed-raised i (PageEntry.Excl holder dirty) = refl
changed-raised i (PageEntry.Moving to mode rest dirty) = refl

pub changed-given : (i : ℕ) (e : PageEntry) → changed (given_shared i e) ≡ changed e
changed-given i PageEntry.Free = refl
changed-given i PageEntry.Lost = refl
changed-given i (PageEntry.Shared set writer) = refl
changed-given i (PageEntry.Excl holder dirty) = refl
changed-given i (PageEntry.Moving to mode rest dirty) = refl

pub changed-taken : (e : PageEntry) → changed (taken e) ≡ changed e
changed-taken PageEntry.Free = refl
changed-taken PageEntry.Lost = refl
changed-taken (PageEntry.Shared set writer) = refl
changed-taken (PageEntry.Excl holder dirty) = refl
changed-taken (PageEntry.Moving to modes.Excl rest dirty) = refl
changed-taken (PageEntry.Moving to modes.Shared rest true) = refl
changed-taken (PageEntry.Moving to modes.Shared rest false) = refl

abbrev Written : PageEntry → PageEntry → Type 0
Written from to = ((may_write from || is_lost from) ≡ true) × (to ≡ written from)

-- a row that keeps the change
keeps : (from to to' : PageEntry) → to ≡ to' → changed to' ≡ changed from → changed from ≡ true → changed to ≡ false → Written from to
keeps from to to' e same was now = not_both (ap changed e ∙ same ∙ was) now

pub by_write : (from to : PageEntry) → IsMove from to → changed from ≡ true → changed to ≡ false → Written from to
by_write from to (IsMove.lock i mode m e) was now = not_both was (free_clean from m)
by_write from to (IsMove.raise i m e) was now = keeps from to _ e (changed-raised i from) was now
by_write from to (IsMove.share i m e) was now = keeps from to _ e (changed-given i from) was now
by_write from to (IsMove.yield i m e) was now = keeps from to _ e refl was now
by_write from to (IsMove.drop i m e) was now = keeps from to _ e (changed-fallen i from) was now
by_write from to (IsMove.take m e) was now = keeps from to _ e (changed-taken from) was now
by_write from to (IsMove.evict i m e) was now = keeps from to _ e (changed-fallen i from) was now
by_write from to (IsMove.write m e) was now = (ap (λ (b : Bool). b || is_lost from) m, e)
by_write from to (IsMove.change i m e) was now = not_both (ap changed e) now
by_write from to (IsMove.rebuild m e) was now = (or_lost (may_write from) (is_lost from) m, e)
  where
    or_lost : (a b : Bool) → b ≡ true → (a || b) ≡ true
    or_lost true b m = refl
    or_lost false b m = m
