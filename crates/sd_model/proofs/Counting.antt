-- The count of unresolved transactions is the number of those that are there. It serves the goals of `whereabouts` in laws.rt.
use Rattle.std.proofs.Common.{◌≡◌, ◌≢◌, ◌↔◌, inl, inr, ℕ, ◌+◌, ◌≤◌, Bool, true, false, true≢false, cond, eqb, ◌&&◌, List, [], ◌∷◌, refl, sym, ap, ◌∙◌, subst, arith, length, filter, eqb-true, eq-eqb}
use Rattle.sd_base.specs.declared.ids.TxnId.{TxnId}
use Rattle.sd_model.specs.declared.act.Life.{Life}
use Rattle.sd_model.specs.declared.act.Life.TheVariants.{Gone, Running, Retained, Rolling, Doubt}
use Rattle.sd_model.specs.State.{State}
use Rattle.sd_model.specs.Applies.{count_of, is_unresolved}
use Rattle.sd_model.specs.Listed.{IsAmong, NoneTwice, Listed}

-- the list without the one that was found there
removed : (x : TxnId) (ys : List TxnId) → IsAmong x ys → List TxnId
removed x [] a = []
removed x (y ∷ ys) (inl e) = ys
removed x (y ∷ ys) (inr a) = y ∷ removed x ys a

removed-length : (x : TxnId) (ys : List TxnId) (a : IsAmong x ys) → length ys ≡ length (removed x ys a) + 1
unfolding removed
removed-length x [] a = absurd a
removed-length x (y ∷ ys) (inl e) = omega arith
removed-length x (y ∷ ys) (inr a) = let ih = removed-length x ys a in omega (arith, ih)

removed-among : (x : TxnId) (ys : List TxnId) (a : IsAmong x ys) (t : TxnId) → t ≢ x → IsAmong t ys → IsAmong t (removed x ys a)
unfolding removed
removed-among x [] a t ne b = absurd a
removed-among x (y ∷ ys) (inl e) t ne (inl f) = absurd (ne (f ∙ sym e))
removed-among x (y ∷ ys) (inl e) t ne (inr b) = b
removed-among x (y ∷ ys) (inr a) t ne (inl f) = inl f
removed-among x (y ∷ ys) (inr a) t ne (inr b) = inr (removed-among x ys a t ne b)

-- a list without repetition is no longer than one that has all of its members
within-length : (xs ys : List TxnId) → NoneTwice xs → ((t : TxnId) → IsAmong t xs → IsAmong t ys) → length xs ≤ length ys
within-length [] ys n h = omega arith
within-length (x ∷ xs) ys n h =
    let a : IsAmong x ys = h x (inl refl) in
    let rest : length xs ≤ length (removed x ys a) = within-length xs (removed x ys a) n.1
    (λ t b. removed-among x ys a t (λ (e : t ≡ x). n.0 (subst (λ (u : TxnId). IsAmong u xs) e b)) (h t (inr b))) in
    let one = removed-length x ys a in
    omega (arith, rest, one)

pub filter-among : (p : TxnId → Bool) (xs : List TxnId) (t : TxnId) → IsAmong t (filter p xs) → IsAmong t xs × (p t ≡ true)
filter-among p [] t a = absurd a
filter-among p (x ∷ xs) t a = go (p x) refl (λ k. filter-among p xs t k) a
  where
    go : (b : Bool) → p x ≡ b → (IsAmong t (filter p xs) → IsAmong t xs × (p t ≡ true)) → IsAmong t (cond {A = List TxnId} b (x ∷ filter p xs) (filter p xs)) → IsAmong t (x ∷ xs) × (p t ≡ true)
    go true is ih (inl e) = (inl e, ap p e ∙ is)
    go true is ih (inr k) = let h = ih k in (inr h.0, h.1)
    go false is ih k = let h = ih k in (inr h.0, h.1)

among-filter : (p : TxnId → Bool) (xs : List TxnId) (t : TxnId) → IsAmong t xs → p t ≡ true → IsAmong t (filter p xs)
among-filter p [] t a is = absurd a
among-filter p (x ∷ xs) t (inl e) is = subst (λ (b : Bool). IsAmong t (cond {A = List TxnId} b (x ∷ filter p xs) (filter p xs))) (sym (ap p (sym e) ∙ is)) (inl e)
among-filter p (x ∷ xs) t (inr a) is = go (p x) (among-filter p xs t a is)
  where
    go : (b : Bool) → IsAmong t (filter p xs) → IsAmong t (cond {A = List TxnId} b (x ∷ filter p xs) (filter p xs))
    go true k = inr k
    go false k = k

pub filter-once : (p : TxnId → Bool) (xs : List TxnId) → NoneTwice xs → NoneTwice (filter p xs)
filter-once p [] n = tt
filter-once p (x ∷ xs) n = go (p x) (filter-once p xs n.1)
  where
    go : (b : Bool) → NoneTwice (filter p xs) → NoneTwice (cond {A = List TxnId} b (x ∷ filter p xs) (filter p xs))
    go true k = (λ a. n.0 (filter-among p xs x a).0, k)
    go false k = k

both : (a b : Bool) → (a && b) ≡ true → (a ≡ true) × (b ≡ true)
both true b e = (refl, e)
both false b e = absurd (true≢false (sym e))

unresolved-there : (l : Life) → is_unresolved l ≡ true → l ≢ Gone
unresolved-there l e g = true≢false (sym e ∙ ap is_unresolved g)

there-unresolved : (l : Life) → l ≢ Gone → is_unresolved l ≡ true
there-unresolved Gone ne = absurd (ne refl)
there-unresolved Running ne = refl
there-unresolved Retained ne = refl
there-unresolved (Rolling to) ne = refl
there-unresolved (Doubt cut) ne = refl

-- it is of the instance, and there
abbrev IsThereOf : State → ℕ → TxnId → Type 0
IsThereOf m i t = (t.inst ≡ i) × ((m.part t).life ≢ Gone)

pub count-true : (m : State) (i : ℕ) (ts : List TxnId) → Listed m → NoneTwice ts → ((t : TxnId) → IsAmong t ts ↔ IsThereOf m i t) → count_of m i ≡ length ts
count-true m i ts l once same =
    let p : TxnId → Bool = λ t. eqb t.inst i && is_unresolved (m.part t).life in
    let most : length (filter p m.begun) ≤ length ts = within-length (filter p m.begun) ts (filter-once p m.begun l.once)
    (λ t a. let h = both (eqb t.inst i) (is_unresolved (m.part t).life) (filter-among p m.begun t a).1 in (same t).1 (eqb-true t.inst i h.0, unresolved-there (m.part t).life h.1)) in
    let least : length ts ≤ length (filter p m.begun) = within-length ts (filter p m.begun) once
    (λ t a. let h = (same t).0 a in
    among-filter p m.begun t (l.there t h.1) (ap (λ (b : Bool). b && is_unresolved (m.part t).life) (eq-eqb t.inst i h.0) ∙ there-unresolved (m.part t).life h.1)) in
    omega (arith, most, least)
