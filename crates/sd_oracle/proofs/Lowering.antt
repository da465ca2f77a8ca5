-- Instances with losers are down after a reopening. It serves the goals of reopenings.rt.
use Rattle.std.proofs.Common.{◌≡◌, ◌≢◌, ◌⊎◌, inl, inr, ⊎_elim, ℕ, ◌+◌, ◌<◌, ◌≤◌, Bool, true, false, true≢false, not, ◌&&◌, cond, eqb, eqb-true, eq-eqb, List, [], ◌∷◌, ◌++◌, length, take, get_or, refl, sym, ap, ◌∙◌, subst}
use Rattle.std.proofs.lemmas.List.{take_all}
use Rattle.sd_base.specs.declared.ids.TxnId.{TxnId}
use Rattle.sd_base.specs.declared.place.Status.{Status}
use Rattle.sd_base.specs.declared.place.Status.TheVariants.{Clean, Down}
use Rattle.sd_base.specs.declared.ids.Rid.{Rid}
use Rattle.sd_model.specs.declared.act.Claim.{Claim}
use Rattle.sd_model.specs.declared.act.Claim.TheVariants.{Free, Shared, Excl}
use Rattle.sd_model.specs.declared.act.Cut.{Cut}
use Rattle.sd_model.specs.declared.act.Inst.{Inst}
use Rattle.sd_model.specs.declared.act.Life.{Life}
use Rattle.sd_model.specs.declared.act.Life.TheVariants.{Retained, Doubt}
use Rattle.sd_model.specs.Claims.{raised_claim}
use Rattle.sd_model.specs.State.{Part, gone, with_status}
use Rattle.sd_model.specs.Changes.{IsLoser}
use Rattle.sd_oracle.specs.declared.standing.Standing.{Standing}
use Rattle.sd_oracle.specs.declared.outcome.Outcome.{Outcome}
use Rattle.sd_oracle.specs.Lists.{part_in, claims_in, inst_in, unjoined}
use Rattle.sd_oracle.specs.Outcomes.{among, among_claims, left_claim, is_lost, loser, left_part, rest_after, HasLoserIn, Lowers}
use Rattle.sd_oracle.proofs.Parts.{claim_from-snoc, inst_from-snoc}
use Rattle.sd_oracle.proofs.Search.{AnyOf, part-any}
use Rattle.sd_oracle.proofs.OneByOne.{take-more}
use Rattle.sd_base.proofs.SameIds.{cases_rid, eq-same_rid, ne-same_rid}

-- a transaction of the instance that is a loser among all
abbrev pub Loses : List (TxnId × Standing) → ℕ → TxnId × Standing → Type 0
Loses parts i x = (x.0.inst ≡ i) × ((part_in parts x.0).life ≡ Retained)

-- so far: instances with losers among the first are down
pub record LowersAll (parts first : List (TxnId × Standing)) (old new : ℕ → Inst) : Type 0 where
  pub each : (i : ℕ) → (new i ≡ old i) ⊎ (HasLoserIn parts i × (new i ≡ with_status Down (old i)))
  pub losers : (i : ℕ) → AnyOf (Loses parts i) first → new i ≡ with_status Down (old i)

any-snoc : {A : Type 0} (P : A → Type 0) (xs : List A) (x : A) → AnyOf P (xs ++ x ∷ []) → AnyOf P xs ⊎ P x
any-snoc P [] x (inl p) = inr p
any-snoc P [] x (inr a) = absurd a
any-snoc P (y ∷ ys) x (inl p) = inl (inl p)
any-snoc P (y ∷ ys) x (inr a) = ⊎_elim (λ b. inl (inr b)) inr (any-snoc P ys x a)

-- lowering one that may be lowered already
lowered-again : (old new : Inst) (Q : Type 0) → (new ≡ old) ⊎ (Q × (new ≡ with_status Down old)) → with_status Down new ≡ with_status Down old
lowered-again old new Q (inl e) = ap (with_status Down) e
lowered-again old new Q (inr h) = ap (with_status Down) h.1

pub lower-more : (parts : List (TxnId × Standing)) (rest : Status) (base cur new : List (ℕ × Inst)) (k : ℕ) (x : TxnId × Standing) (inst down : Inst) → k < length parts → x ≡ get_or parts k x
    → (part_in parts x.0).life ≡ Retained → inst ≡ inst_in rest cur x.0.inst → down ≡ with_status Down inst → new ≡ cur ++ (x.0.inst, down) ∷ []
    → LowersAll parts (take k parts) (inst_in rest base) (inst_in rest cur) → LowersAll parts (take (k + 1) parts) (inst_in rest base) (inst_in rest new)
lower-more parts rest base cur new k x inst down lt is loses at lowers e h = record {
  each = λ i. each_of i (eqb x.0.inst i) refl;
  losers = λ i a. loser_of i (subst (AnyOf (Loses parts i)) (take-more parts k x lt is) a) (eqb x.0.inst i) refl;
}
  where
    here : (i : ℕ) (b : Bool) → eqb x.0.inst i ≡ b → inst_in rest new i ≡ cond b down (inst_in rest cur i)
    here i b t = ap (λ l. inst_in rest l i) e ∙ (inst_from-snoc (unjoined rest) cur (x.0.inst, down) i ∙ ap (λ c. cond c down (inst_in rest cur i)) t)

    is_down : (i : ℕ) → eqb x.0.inst i ≡ true → inst_in rest new i ≡ with_status Down (inst_in rest base i)
    is_down i t = here i true t ∙ (lowers ∙ (ap (with_status Down) at ∙ (lowered-again (inst_in rest base x.0.inst) (inst_in rest cur x.0.inst) (HasLoserIn parts x.0.inst) (h.each x.0.inst) ∙ ap (λ j. with_status Down (inst_in rest base j)) (eqb-true x.0.inst i t))))

    each_of : (i : ℕ) (b : Bool) → eqb x.0.inst i ≡ b → (inst_in rest new i ≡ inst_in rest base i) ⊎ (HasLoserIn parts i × (inst_in rest new i ≡ with_status Down (inst_in rest base i)))
    each_of i true t = inr ((x.0, eqb-true x.0.inst i t, loses), is_down i t)
    each_of i false t = subst (λ (y : Inst). (y ≡ inst_in rest base i) ⊎ (HasLoserIn parts i × (y ≡ with_status Down (inst_in rest base i)))) (sym (here i false t)) (h.each i)

    loser_of : (i : ℕ) → AnyOf (Loses parts i) (take k parts ++ x ∷ []) → (b : Bool) → eqb x.0.inst i ≡ b → inst_in rest new i ≡ with_status Down (inst_in rest base i)
    loser_of i a true t = is_down i t
    loser_of i a false t = ⊎_elim (λ (first : AnyOf (Loses parts i) (take k parts)). here i false t ∙ h.losers i first)
        (λ (p : Loses parts i x). let same = eq-eqb x.0.inst i p.0 in absurd (true≢false (sym same ∙ t)))
        (any-snoc (Loses parts i) (take k parts) x a)

pub lower-skip : (parts : List (TxnId × Standing)) (k : ℕ) (x : TxnId × Standing) (old new : ℕ → Inst) → k < length parts → x ≡ get_or parts k x → ((part_in parts x.0).life ≡ Retained → ⊥) → LowersAll parts (take k parts) old new → LowersAll parts (take (k + 1) parts) old new
lower-skip parts k x old new lt is stays h = record {
  each = h.each;
  losers = λ i a. ⊎_elim (h.losers i) (λ (p : Loses parts i x). absurd (stays p.1)) (any-snoc (Loses parts i) (take k parts) x (subst (AnyOf (Loses parts i)) (take-more parts k x lt is) a));
}

pub lower-all : (parts : List (TxnId × Standing)) (k : ℕ) (old new : ℕ → Inst) → length parts ≤ k → LowersAll parts (take k parts) old new → Lowers parts old new
lower-all parts k old new end h = record {
  each = h.each;
  losers = λ i l. h.losers i (subst (AnyOf (Loses parts i)) (sym (take_all k parts end)) (part-any (λ t. (t.inst ≡ i) × ((part_in parts t).life ≡ Retained)) parts l.0 (λ e. let is = l.2 in let free = ap (λ (q : Part). q.life) e in cc) (l.1, l.2)));
}

pub left-free : (b : Bool) → Free ≡ left_claim b Free
left-free true = refl
left-free false = refl

-- exclusive claims stay, but those that a transaction was freed of
pub claims-kept : (F : Rid → Bool) (xs all new : List (Rid × Claim)) (k : ℕ) (x : Rid × Claim) → k < length xs → x ≡ get_or xs k x → x.1 ≡ Excl → F x.0 ≡ false → new ≡ all ++ x ∷ []
    → ((r : Rid) → claims_in all r ≡ left_claim (F r) (claims_in (take k xs) r)) → (r : Rid) → claims_in new r ≡ left_claim (F r) (claims_in (take (k + 1) xs) r)
claims-kept F xs all new k x lt is excl kept e before r =
    let left = ap (λ l. claims_in l r) e ∙ claim_from-snoc Free all x r in
    let right = ap (λ l. claims_in l r) (take-more xs k x lt is) ∙ claim_from-snoc Free (take k xs) x r in
    left ∙ (⊎_elim
    (λ (same : x.0 ≡ r). ap (λ b. cond b (raised_claim x.1 (claims_in all r)) (claims_in all r)) (eq-same_rid x.0 r same) ∙ (ap (λ c. raised_claim c (claims_in all r)) excl
    ∙ sym (ap (λ b. left_claim (F r) (cond b (raised_claim x.1 (claims_in (take k xs) r)) (claims_in (take k xs) r))) (eq-same_rid x.0 r same) ∙ (ap (λ c. left_claim (F r) (raised_claim c (claims_in (take k xs) r))) excl ∙ ap (λ b. left_claim b Excl) (ap F (sym same) ∙ kept)))))
    (λ (ne : x.0 ≢ r). ap (λ b. cond b (raised_claim x.1 (claims_in all r)) (claims_in all r)) (ne-same_rid x.0 r ne) ∙ (before r
    ∙ sym (ap (λ b. left_claim (F r) (cond b (raised_claim x.1 (claims_in (take k xs) r)) (claims_in (take k xs) r))) (ne-same_rid x.0 r ne))))
    (cases_rid x.0 r) ∙ ap (left_claim (F r)) (sym right))

left-raised : (b : Bool) (mode c : Claim) → ((mode ≡ Excl → ⊥) ⊎ (b ≡ true)) → left_claim b c ≡ left_claim b (raised_claim mode c)
left-raised true mode c h = refl
left-raised false Free c h = refl
left-raised false Shared Free h = refl
left-raised false Shared Shared h = refl
left-raised false Shared Excl h = refl
left-raised false Excl c h = ⊎_elim (λ (never : Excl ≡ Excl → ⊥). absurd (never refl)) (λ (e : false ≡ true). absurd (true≢false (sym e))) h

unkept : (c : Claim) (b : Bool) → ((c ≡ Excl) × (b ≡ false) → ⊥) → (c ≡ Excl → ⊥) ⊎ (b ≡ true)
unkept c true h = inr refl
unkept c false h = inl (λ e. h (e, refl))

pub claims-dropped : (F : Rid → Bool) (xs all new : List (Rid × Claim)) (k : ℕ) (x : Rid × Claim) → k < length xs → x ≡ get_or xs k x → ((x.1 ≡ Excl) × (F x.0 ≡ false) → ⊥) → new ≡ all
    → ((r : Rid) → claims_in all r ≡ left_claim (F r) (claims_in (take k xs) r)) → (r : Rid) → claims_in new r ≡ left_claim (F r) (claims_in (take (k + 1) xs) r)
claims-dropped F xs all new k x lt is why e before r =
    let right = ap (λ l. claims_in l r) (take-more xs k x lt is) ∙ claim_from-snoc Free (take k xs) x r in
    ap (λ l. claims_in l r) e ∙ (before r ∙ (⊎_elim
    (λ (same : x.0 ≡ r). left-raised (F r) x.1 (claims_in (take k xs) r) (⊎_elim inl (λ (f : F x.0 ≡ true). inr (ap F (sym same) ∙ f)) (unkept x.1 (F x.0) why))
    ∙ ap (λ b. left_claim (F r) (cond b (raised_claim x.1 (claims_in (take k xs) r)) (claims_in (take k xs) r))) (sym (eq-same_rid x.0 r same)))
    (λ (ne : x.0 ≢ r). ap (λ b. left_claim (F r) (cond b (raised_claim x.1 (claims_in (take k xs) r)) (claims_in (take k xs) r))) (sym (ne-same_rid x.0 r ne)))
    (cases_rid x.0 r) ∙ ap (left_claim (F r)) (sym right)))

-- what a reopening leaves of a transaction is nothing, or a loser
lost-was : (life : Life) → is_lost life ≡ true → (life ≡ Retained) ⊎ ((cut : Cut) × (life ≡ Doubt cut))
lost-was Retained e = inl refl
lost-was (Doubt cut) e = inr (cut, refl)
lost-was life e = absurd (true≢false (sym e))

claim-was : (b : Bool) (c : Claim) → (left_claim b c ≡ Free) ⊎ ((left_claim b c ≡ Excl) × (c ≡ Excl))
claim-was true c = inl refl
claim-was false Free = inl refl
claim-was false Shared = inl refl
claim-was false Excl = inr (refl, refl)

first-true : (a b : Bool) → (a && b) ≡ true → a ≡ true
first-true true b e = refl
first-true false b e = e

pub left-loser : (o : Outcome) (t : TxnId) (p q : Part) → q ≡ left_part o t p → (q ≡ gone) ⊎ IsLoser p q
left-loser o t p q e = subst (λ (x : Part). (x ≡ gone) ⊎ IsLoser p x) (sym e) (go (is_lost p.life && not (among t o.gone)) refl)
  where
    go : (b : Bool) → (is_lost p.life && not (among t o.gone)) ≡ b → (cond b (loser o.freed t p) gone ≡ gone) ⊎ IsLoser p (cond b (loser o.freed t p) gone)
    go false i = inl refl
    go true i = inr (record { was = lost-was p.life (first-true (is_lost p.life) (not (among t o.gone)) i); life = refl; acts = refl; marks = refl; claims = λ r. claim-was (among_claims t r o.freed) (p.claims r) })

pub clean-or-down : (o : Outcome) → (rest_after o ≡ Clean) ⊎ (rest_after o ≡ Down)
clean-or-down o = go o.lost
  where
    go : (b : Bool) → (cond b Down Clean ≡ Clean) ⊎ (cond b Down Clean ≡ Down)
    go true = inr refl
    go false = inl refl

pub own-status : (x y : Inst) (s : Status) → x ≡ with_status s y → x ≡ with_status x.status y
own-status x y s e = e ∙ ap (λ u. with_status u y) (sym (ap (λ (v : Inst). v.status) e))

pub stands-so : (new turned old : Inst) (s : Status) (Q : Type 0) → turned ≡ with_status s old → (new ≡ turned) ⊎ (Q × (new ≡ with_status Down turned)) → new ≡ with_status new.status old
stands-so new turned old s Q e (inl h) = own-status new old s (h ∙ e)
stands-so new turned old s Q e (inr h) = own-status new old Down (h.1 ∙ ap (with_status Down) e)
