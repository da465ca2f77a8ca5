-- Each row leaves a well formed place. It serves the laws and the directory's invariant.
use Rattle.std.proofs.Common.{◌≡◌, ◌≢◌, ℕ, Bool, true, false, cond, eqb, List, [], ◌∷◌, Option, None, Some, refl, sym, ap, ◌∙◌, subst, eq-eqb, ne_eqb}
use Rattle.std.specs.Prelude.{is_some, not}
use Rattle.sd_base.specs.declared.place.Mode.{Mode}
use Rattle.sd_base.specs.declared.place.Mode.TheVariants as modes
use Rattle.sd_base.specs.Sets.{has, without, with_member}
use Rattle.sd_pagelock.specs.Places.{Formed, PageEntry}
use Rattle.sd_pagelock.specs.Moves.{IsMove}
use Rattle.sd_pagelock.specs.Rows.{fallen, nowhere, left_with, shared_left, locked, raised, may_share, given_shared, taken, written, lowest}
use Rattle.sd_pagelock.proofs.Members.{not_both, has-without, has-with_member}

cons_nil : (x : ℕ) (xs : List ℕ) → x ∷ xs ≢ []
cons_nil x xs e = absurd (cc)

none_some : {x : ℕ} → None ≡ Some x → ⊥
none_some e = absurd (cc)

inside : {x y : ℕ} → Some x ≡ Some y → x ≡ y
inside e = cc

first_in : (x : ℕ) (xs : List ℕ) → has x (x ∷ xs) ≡ true
first_in x xs = ap (λ (b : Bool). cond b true (has x xs)) (eq-eqb x x refl)

nowhere_formed : (b : Bool) → Formed (nowhere b)
nowhere_formed true = tt
nowhere_formed false = tt

left_formed : (dirty : Bool) (xs : List ℕ) → Formed (left_with dirty xs)
left_formed dirty [] = nowhere_formed dirty
left_formed true (x ∷ xs) = (cons_nil x xs, λ k e. subst (λ (z : ℕ). has z (x ∷ xs) ≡ true) (inside e) (first_in x xs))
left_formed false (x ∷ xs) = (cons_nil x xs, λ k e. absurd (none_some e))

pub formed-fallen : (i : ℕ) (e : PageEntry) → Formed e → Formed (fallen i e)
formed-fallen i PageEntry.Free f = tt
formed-fallen i PageEntry.Lost f = tt
formed-fallen i (PageEntry.Excl holder dirty) f = go (eqb holder i)
  where
    go : (b : Bool) → Formed (cond b (nowhere dirty) (PageEntry.Excl holder dirty))
    go true = nowhere_formed dirty
    go false = tt
formed-fallen i (PageEntry.Shared set writer) f = go (without i set) writer (λ k e ne. has-without k i set ∙ ap (λ (b : Bool). cond b false (has k set)) (ne_eqb i k (λ is. ne (sym is))) ∙ f.1 k e)
  where
    one : (b : Bool) (w x : ℕ) (xs : List ℕ) → (b ≡ false → has w (x ∷ xs) ≡ true) → (k : ℕ) → cond b (Some x) (Some w) ≡ Some k → has k (x ∷ xs) ≡ true
    one true w x xs h k e = subst (λ (z : ℕ). has z (x ∷ xs) ≡ true) (inside e) (first_in x xs)
    one false w x xs h k e = subst (λ (z : ℕ). has z (x ∷ xs) ≡ true) (inside e) (h refl)

    go : (xs : List ℕ) (w : Option ℕ) → ((k : ℕ) → w ≡ Some k → k ≢ i → has k xs ≡ true) → Formed (shared_left i xs w)
    go [] w h = nowhere_formed (is_some w)
    go (x ∷ xs) None h = (cons_nil x xs, λ k e. absurd (none_some e))
    go (x ∷ xs) (Some w) h = (cons_nil x xs, one (eqb w i) w x xs (λ no_i. h w refl (λ e. not_both (eq-eqb w i e) no_i)))
formed-fallen i (PageEntry.Moving to mode rest dirty) f = go (eqb to i)
  where
    still : (b : Bool) → b ≡ false → (c : Bool) → cond c false b ≡ false
    still b e true = refl
    still b e false = e

    go : (b : Bool) → Formed (cond b (left_with dirty (without i rest)) (PageEntry.Moving to mode (without i rest) dirty))
    go true = left_formed dirty (without i rest)
    go false = (λ e. ap (without i) (f.0 e), has-without to i rest ∙ still (has to rest) f.1 (eqb i to))

formed-taken : (e : PageEntry) → Formed e → Formed (taken e)
formed-taken PageEntry.Free f = tt
formed-taken PageEntry.Lost f = tt
formed-taken (PageEntry.Excl holder dirty) f = tt
formed-taken (PageEntry.Shared set writer) f = f
formed-taken (PageEntry.Moving to modes.Excl rest dirty) f = tt
formed-taken (PageEntry.Moving to modes.Shared rest dirty) f = (λ e. not_both (has-with_member to to rest ∙ ap (λ (b : Bool). cond b true (has to rest)) (eq-eqb to to refl)) (ap (has to) e), writer_in dirty)
  where
    or_true : (b : Bool) → cond b true true ≡ true
    or_true true = refl
    or_true false = refl

    low_in : (xs : List ℕ) → has (lowest to xs) (with_member to xs) ≡ true
    low_in [] = first_in to []
    low_in (x ∷ xs) = has-with_member x to (x ∷ xs) ∙ ap (λ (b : Bool). cond (eqb to x) true b) (first_in x xs) ∙ or_true (eqb to x)

    writer_in : (d : Bool) → (k : ℕ) → cond d (Some (lowest to rest)) None ≡ Some k → has k (with_member to rest) ≡ true
    writer_in true k e = subst (λ (z : ℕ). has z (with_member to rest) ≡ true) (inside e) (low_in rest)
    writer_in false k e = absurd (none_some e)

formed-locked : (i : ℕ) (mode : Mode) → Formed (locked i mode)
formed-locked i modes.Shared = (cons_nil i [], λ k e. absurd (none_some e))
formed-locked i modes.Excl = tt

formed-raised : (i : ℕ) (e : PageEntry) → Formed e → Formed (raised i e)
formed-raised i PageEntry.Free f = tt
formed-raised i PageEntry.Lost f = tt
formed-raised i (PageEntry.Excl holder dirty) f = tt
formed-raised i (PageEntry.Shared set writer) f = tt
formed-raised i (PageEntry.Moving to mode rest dirty) f = f

formed-given_shared : (i : ℕ) (e : PageEntry) → may_share i e ≡ true → Formed (given_shared i e)
formed-given_shared i PageEntry.Free m = tt
formed-given_shared i PageEntry.Lost m = tt
formed-given_shared i (PageEntry.Excl holder dirty) m = (λ e. absurd (cc), other (eqb holder i) m)
  where
    other : (b : Bool) → not b ≡ true → cond b true false ≡ false
    other true m = absurd (cc)
    other false m = refl
formed-given_shared i (PageEntry.Shared set writer) m = (λ e. absurd (cc), other (has i set) m)
  where
    other : (b : Bool) → not b ≡ true → b ≡ false
    other true m = absurd (cc)
    other false m = refl
formed-given_shared i (PageEntry.Moving to mode rest dirty) m = absurd (cc)

formed-written : (e : PageEntry) → Formed e → Formed (written e)
formed-written PageEntry.Free f = tt
formed-written PageEntry.Lost f = tt
formed-written (PageEntry.Excl holder dirty) f = tt
formed-written (PageEntry.Shared set writer) f = (f.0, λ k e. absurd (none_some e))
formed-written (PageEntry.Moving to mode rest dirty) f = f

pub formed-move : (from to : PageEntry) → IsMove from to → Formed from → Formed to
formed-move from to (IsMove.lock i mode m e) f = subst Formed (sym e) (formed-locked i mode)
formed-move from to (IsMove.raise i m e) f = subst Formed (sym e) (formed-raised i from f)
formed-move from to (IsMove.share i m e) f = subst Formed (sym e) (formed-given_shared i from m)
formed-move from to (IsMove.yield i m e) f = subst Formed (sym e) (λ x. refl, refl)
formed-move from to (IsMove.drop i m e) f = subst Formed (sym e) (formed-fallen i from f)
formed-move from to (IsMove.take m e) f = subst Formed (sym e) (formed-taken from f)
formed-move from to (IsMove.evict i m e) f = subst Formed (sym e) (formed-fallen i from f)
formed-move from to (IsMove.write m e) f = subst Formed (sym e) (formed-written from f)
formed-move from to (IsMove.change i m e) f = subst Formed (sym e) tt
formed-move from to (IsMove.rebuild m e) f = subst Formed (sym e) (formed-written from f)
