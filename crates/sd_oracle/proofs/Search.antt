-- Whether a list has an item of a kind: loops that look for one, and where it must be. It serves the goals of locks.rt, changers.rt and pages.rt.
use Rattle.std.proofs.Common.{◌≡◌, IsTrue, ◌⊎◌, inl, inr, ⊎_elim, ℕ, ◌+◌, ◌<◌, ◌≤◌, arith, Bool, false, cond, List, [], ◌∷◌, length, drop, get_or, refl, sym, ap, ◌∙◌, subst}
use Rattle.sd_base.specs.declared.ids.TxnId.{TxnId}
use Rattle.sd_base.specs.declared.ids.Rid.{Rid}
use Rattle.sd_model.specs.declared.act.Claim.{Claim}
use Rattle.sd_model.specs.declared.act.Claim.TheVariants.{Free, Shared, Excl}
use Rattle.sd_oracle.specs.declared.standing.Standing.{Standing}
use Rattle.sd_model.specs.Claims.{raised_claim, Clash}
use Rattle.sd_model.specs.Applies.{Changes}
use Rattle.sd_model.specs.State.{State, Part, gone}
use Rattle.sd_oracle.specs.Lists.{claim_from, claims_in, part_of, part_from, part_in}
use Rattle.sd_oracle.specs.Claimers.{HasExcl}
use Rattle.sd_oracle.proofs.Loops.{drop-next, drop-all}
use Rattle.sd_base.proofs.SameIds.{cases_txn, ne-same, cases_rid, ne-same_rid}

pub not_true : IsTrue false → ⊥
not_true e = absurd (cc)

abbrev pub AnyOf : {A : Type 0} → (A → Type 0) → List A → Type 0
AnyOf P [] = ⊥
AnyOf P (x ∷ xs) = P x ⊎ AnyOf P xs

pub any-weaker : {A : Type 0} (P Q : A → Type 0) (xs : List A) → ((x : A) → P x → Q x) → AnyOf P xs → AnyOf Q xs
any-weaker P Q [] f a = a
any-weaker P Q (x ∷ xs) f (inl p) = inl (f x p)
any-weaker P Q (x ∷ xs) f (inr a) = inr (any-weaker P Q xs f a)

any-rest : {A : Type 0} (P : A → Type 0) (x : A) (xs : List A) → (P x → ⊥) → AnyOf P (x ∷ xs) → AnyOf P xs
any-rest P x xs never (inl p) = absurd (never p)
any-rest P x xs never (inr a) = a

-- one step of a loop that looks for an item of the kind
pub any-next : {A : Type 0} (P : A → Type 0) (xs : List A) (k : ℕ) (x : A) → k < length xs → x ≡ get_or xs k x → (P x → ⊥) → AnyOf P (drop k xs) → AnyOf P (drop (k + 1) xs)
any-next P xs k x lt is never a = any-rest P x (drop (k + 1) xs) never (subst (AnyOf P) (drop-next xs k x lt is) a)

-- at the end of the list there is none
pub any-end : {A : Type 0} (P : A → Type 0) (xs : List A) (k : ℕ) → k ≡ length xs → AnyOf P (drop k xs) → ⊥
any-end P xs k e a = subst (AnyOf P) (ap (λ n. drop n xs) e ∙ drop-all xs) a

-- the same where the loop goes over a list that is equal to it
pub any-step : {A : Type 0} (P : A → Type 0) (xs ys : List A) (k : ℕ) (x : A) → ys ≡ xs → k < length ys → x ≡ get_or ys k x → (P x → ⊥) → AnyOf P (drop k xs) → AnyOf P (drop (k + 1) xs)
any-step P xs ys k x same lt is never a = any-next P xs k x (subst (λ l. k < length l) same lt) (subst (λ l. x ≡ get_or l k x) same is) never a

pub any-stop : {A : Type 0} (P : A → Type 0) (xs ys : List A) (k : ℕ) → ys ≡ xs → length ys ≤ k → k ≤ length ys → AnyOf P (drop k xs) → ⊥
any-stop P xs ys k same ge le a = let e = ap length same in any-end P xs k (omega arith) a

-- a part that isn't gone is that of an item
part_from-any : (p : Part) (xs : List (TxnId × Standing)) (t : TxnId) → AnyOf (λ (x : TxnId × Standing). x.0 ≡ t) xs ⊎ (part_from p xs t ≡ p)
part_from-any p [] t = inr refl
part_from-any p (x ∷ xs) t = ⊎_elim
    (λ e. inl (inl e))
    (λ ne. ⊎_elim (λ a. inl (inr a)) (λ e. inr (ap (λ (b : Bool). part_from (cond b (part_of x.1) p) xs t) (ne-same x.0 t ne) ∙ e)) (part_from-any p xs t))
    (cases_txn x.0 t)

pub part-any : (P : TxnId → Type 0) (xs : List (TxnId × Standing)) (t : TxnId) → (part_in xs t ≡ gone → ⊥) → P t → AnyOf (λ (x : TxnId × Standing). P x.0) xs
part-any P xs t there p = ⊎_elim
    (λ a. any-weaker (λ (x : TxnId × Standing). x.0 ≡ t) (λ (x : TxnId × Standing). P x.0) xs (λ x e. subst P (sym e) p) a)
    (λ e. absurd (there e))
    (part_from-any gone xs t)

claim_from-any : (c : Claim) (xs : List (Rid × Claim)) (r : Rid) → AnyOf (λ (x : Rid × Claim). x.0 ≡ r) xs ⊎ (claim_from c xs r ≡ c)
claim_from-any c [] r = inr refl
claim_from-any c (x ∷ xs) r = ⊎_elim
    (λ e. inl (inl e))
    (λ ne. ⊎_elim (λ a. inl (inr a)) (λ e. inr (ap (λ (b : Bool). claim_from (cond b (raised_claim x.1 c) c) xs r) (ne-same_rid x.0 r ne) ∙ e)) (claim_from-any c xs r))
    (cases_rid x.0 r)

pub claim-any : (P : Rid → Type 0) (xs : List (Rid × Claim)) (r : Rid) → (claims_in xs r ≡ Free → ⊥) → P r → AnyOf (λ (x : Rid × Claim). P x.0) xs
claim-any P xs r there p = ⊎_elim
    (λ a. any-weaker (λ (x : Rid × Claim). x.0 ≡ r) (λ (x : Rid × Claim). P x.0) xs (λ x e. subst P (sym e) p) a)
    (λ e. absurd (there e))
    (claim_from-any Free xs r)

-- an exclusive claim on a record of a page is that of an item
pub excl-any : (xs : List (Rid × Claim)) (p : ℕ) → HasExcl xs p → AnyOf (λ (x : Rid × Claim). (x.0.page ≡ p) × (claims_in xs x.0 ≡ Excl)) xs
excl-any xs p h = claim-any (λ r. (r.page ≡ p) × (claims_in xs r ≡ Excl)) xs (record { page = p; slot = h.0 }) (λ free. let is = h.1 in cc) (refl, h.1)

pub changes-there : (m : State) (t : TxnId) (p : ℕ) → Changes m t p → m.part t ≡ gone → ⊥
changes-there m t p h e = let is = h.1 in let free = ap (λ (q : Part). q.claims (record { page = p; slot = h.0 })) e in cc

pub clash-there : (m : State) (t : TxnId) (r : Rid) (mode : Claim) → Clash mode ((m.part t).claims r) → m.part t ≡ gone → ⊥
clash-there m t r mode k e = clash-free mode (subst (λ (q : Part). Clash mode (q.claims r)) e k)
  where
    clash-free : (c : Claim) → Clash c Free → ⊥
    clash-free Free k = k
    clash-free Shared k = k
    clash-free Excl k = k
