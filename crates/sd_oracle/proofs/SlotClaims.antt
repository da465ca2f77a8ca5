-- Claims on slots in which a transaction finds no record. It serves the goals of slots.rt.
use Rattle.std.proofs.Common.{◌≡◌, ◌⊎◌, inl, inr, ⊎_elim, ℕ, Bool, cond, List, [], ◌∷◌, None, refl, sym, ap, ◌∙◌, subst}
use Rattle.sd_base.specs.declared.ids.TxnId.{TxnId}
use Rattle.sd_base.specs.declared.ids.Rid.{Rid}
use Rattle.sd_base.specs.Ids.{same_rid}
use Rattle.sd_model.specs.declared.act.Claim.{Claim}
use Rattle.sd_model.specs.declared.act.Claim.TheVariants.{Free, Shared, Excl}
use Rattle.sd_model.specs.Claims.{raised_claim, Holds}
use Rattle.sd_model.specs.State.{State, view}
use Rattle.sd_oracle.specs.Lists.{claim_from, claims_in}
use Rattle.sd_oracle.specs.Claimers.{AnySlot}
use Rattle.sd_oracle.proofs.Search.{AnyOf}
use Rattle.sd_base.proofs.SameIds.{cases_rid, eq-same_rid, ne-same_rid}

raised-split : (a b : Claim) → Holds (raised_claim a b) → Holds a ⊎ Holds b
raised-split Free b h = inr h
raised-split Shared b h = inl tt
raised-split Excl b h = inl tt

raised-new : (a b : Claim) → Holds a → Holds (raised_claim a b)
raised-new Free b h = absurd h
raised-new Shared Free h = tt
raised-new Shared Shared h = tt
raised-new Shared Excl h = tt
raised-new Excl b h = tt

raised-old : (a b : Claim) → Holds b → Holds (raised_claim a b)
raised-old Free b h = h
raised-old Shared Free h = absurd h
raised-old Shared Shared h = tt
raised-old Shared Excl h = tt
raised-old Excl b h = tt

-- an item that claims the record
abbrev On : Rid → Rid × Claim → Type 0
On r x = (x.0 ≡ r) × Holds x.1

at_rid : (r : Rid) (x : Rid × Claim) (c : Claim) → x.0 ≡ r → cond (same_rid x.0 r) (raised_claim x.1 c) c ≡ raised_claim x.1 c
at_rid r x c e = ap (λ (b : Bool). cond b (raised_claim x.1 c) c) (eq-same_rid x.0 r e)

off_rid : (r : Rid) (x : Rid × Claim) (c : Claim) → (x.0 ≡ r → ⊥) → cond (same_rid x.0 r) (raised_claim x.1 c) c ≡ c
off_rid r x c ne = ap (λ (b : Bool). cond b (raised_claim x.1 c) c) (ne-same_rid x.0 r ne)

holds-some : (c : Claim) (xs : List (Rid × Claim)) (r : Rid) → Holds (claim_from c xs r) → Holds c ⊎ AnyOf (On r) xs
holds-some c [] r h = inl h
holds-some c (x ∷ xs) r h = ⊎_elim
    (λ (now : Holds (cond (same_rid x.0 r) (raised_claim x.1 c) c)). ⊎_elim
    (λ e. ⊎_elim (λ new. inr (inl (e, new))) (λ old. inl old) (raised-split x.1 c (subst Holds (at_rid r x c e) now)))
    (λ ne. inl (subst Holds (off_rid r x c ne) now))
    (cases_rid x.0 r))
    (λ a. inr (inr a))
    (holds-some (cond (same_rid x.0 r) (raised_claim x.1 c) c) xs r h)

some-holds : (c : Claim) (xs : List (Rid × Claim)) (r : Rid) → Holds c ⊎ AnyOf (On r) xs → Holds (claim_from c xs r)
some-holds c [] r (inl h) = h
some-holds c [] r (inr a) = absurd a
some-holds c (x ∷ xs) r (inl h) = some-holds (cond (same_rid x.0 r) (raised_claim x.1 c) c) xs r (inl (⊎_elim
    (λ e. subst Holds (sym (at_rid r x c e)) (raised-old x.1 c h))
    (λ ne. subst Holds (sym (off_rid r x c ne)) h)
    (cases_rid x.0 r)))
some-holds c (x ∷ xs) r (inr (inl on)) = some-holds (cond (same_rid x.0 r) (raised_claim x.1 c) c) xs r (inl (subst Holds (sym (at_rid r x c on.0)) (raised-new x.1 c on.1)))
some-holds c (x ∷ xs) r (inr (inr a)) = some-holds (cond (same_rid x.0 r) (raised_claim x.1 c) c) xs r (inr a)

-- there is a claim on a slot of the page in which t finds no record
abbrev pub HasSlot : State → TxnId → ℕ → (Rid → Claim) → Type 0
HasSlot m t p claims = (slot : ℕ) × (view m t (record { page = p; slot = slot }) ≡ None) × Holds (claims (record { page = p; slot = slot }))

any-on : (m : State) (t : TxnId) (r : Rid) → view m t r ≡ None → (xs : List (Rid × Claim)) → AnyOf (On r) xs → AnySlot m t r.page xs
any-on m t r none [] a = absurd a
any-on m t r none (x ∷ xs) (inl on) = inl (ap (λ (q : Rid). q.page) on.0, on.1, ap (view m t) on.0 ∙ none)
any-on m t r none (x ∷ xs) (inr a) = inr (any-on m t r none xs a)

pub slot-any : (m : State) (t : TxnId) (p : ℕ) (xs : List (Rid × Claim)) → HasSlot m t p (claims_in xs) → AnySlot m t p xs
slot-any m t p xs h = let r : Rid = record { page = p; slot = h.0 } in
    any-on m t r h.1 xs (⊎_elim (λ free. absurd free) (λ a. a) (holds-some Free xs r h.2))

any-item : (m : State) (t : TxnId) (p : ℕ) (xs : List (Rid × Claim)) → AnySlot m t p xs → (r : Rid) × (r.page ≡ p) × (view m t r ≡ None) × AnyOf (On r) xs
any-item m t p [] a = absurd a
any-item m t p (x ∷ xs) (inl h) = (x.0, h.0, h.2, inl (refl, h.1))
any-item m t p (x ∷ xs) (inr a) = let rest = any-item m t p xs a in (rest.0, rest.1, rest.2, inr rest.3)

pub any-slot : (m : State) (t : TxnId) (p : ℕ) (xs : List (Rid × Claim)) → AnySlot m t p xs → HasSlot m t p (claims_in xs)
any-slot m t p xs a =
    let at = any-item m t p xs a in
    let is : at.0 ≡ record { page = p; slot = at.0.slot } = λ i. record { page = at.1 i; slot = at.0.slot } in
    (at.0.slot, ap (view m t) (sym is) ∙ at.2, subst (λ (r : Rid). Holds (claims_in xs r)) is (some-holds Free xs at.0 (inr at.3)))
