-- Changes of all transactions, or of all instances, made one by one. It serves the goals of wholes.rt, failures.rt and recoveries.rt.
use Rattle.std.proofs.Common.{◌≡◌, ◌≢◌, ⊎_elim, ℕ, ◌+◌, ◌<◌, Bool, true, false, cond, eqb, List, [], ◌∷◌, ◌++◌, length, take, get_or, refl, sym, ap, ◌∙◌, add-one, eqb-true}
use Rattle.std.proofs.Math.Seq.{take-suc}
use Rattle.sd_base.specs.declared.ids.TxnId.{TxnId}
use Rattle.sd_base.specs.declared.place.Status.{Status}
use Rattle.sd_base.specs.declared.place.Status.TheVariants.{Down}
use Rattle.sd_model.specs.declared.act.Inst.{Inst}
use Rattle.sd_model.specs.State.{State, Part, gone, freed, with_status}
use Rattle.sd_oracle.specs.declared.standing.Standing.{Standing}
use Rattle.sd_oracle.specs.Lists.{part_of, part_in, inst_from, inst_in, unjoined}
use Rattle.sd_oracle.proofs.Parts.{part_from-snoc, inst_from-snoc}
use Rattle.sd_base.proofs.SameIds.{cases_txn, eq-same, ne-same}

pub take-more : {A : Type 0} (xs : List A) (k : ℕ) (x : A) → k < length xs → x ≡ get_or xs k x → take (k + 1) xs ≡ take k xs ++ x ∷ []
take-more xs k x lt is = ap (λ n. take n xs) (add-one k) ∙ (take-suc xs k x lt ∙ ap (λ y. take k xs ++ y ∷ []) (sym is))

-- one more transaction was changed
pub parts-next : (f : TxnId → Part → Part) (xs all new : List (TxnId × Standing)) (k : ℕ) (x : TxnId × Standing) (s : Standing) → k < length xs → x ≡ get_or xs k x
    → part_of s ≡ f x.0 (part_of x.1) → new ≡ all ++ (x.0, s) ∷ [] → ((t : TxnId) → part_in all t ≡ f t (part_in (take k xs) t)) → (t : TxnId) → part_in new t ≡ f t (part_in (take (k + 1) xs) t)
parts-next f xs all new k x s lt is made e before t =
    let left = ap (λ l. part_in l t) e ∙ part_from-snoc gone all (x.0, s) t in
    let right = ap (λ l. part_in l t) (take-more xs k x lt is) ∙ part_from-snoc gone (take k xs) x t in
    left ∙ (⊎_elim
    (λ (same : x.0 ≡ t). ap (λ b. cond b (part_of s) (part_in all t)) (eq-same x.0 t same) ∙ (made ∙ (ap (λ u. f u (part_of x.1)) same ∙ ap (λ b. f t (cond b (part_of x.1) (part_in (take k xs) t))) (sym (eq-same x.0 t same)))))
    (λ (ne : x.0 ≢ t). ap (λ b. cond b (part_of s) (part_in all t)) (ne-same x.0 t ne) ∙ (before t ∙ ap (λ b. f t (cond b (part_of x.1) (part_in (take k xs) t))) (sym (ne-same x.0 t ne))))
    (cases_txn x.0 t) ∙ ap (f t) (sym right))

pub cond-of : {A B : Type 0} (g : A → B) (b : Bool) (x y : A) → cond b (g x) (g y) ≡ g (cond b x y)
cond-of g true x y = refl
cond-of g false x y = refl

-- one more instance was changed
pub insts-next : (g : Inst → Inst) (y : Inst) (xs all new : List (ℕ × Inst)) (k : ℕ) (x : ℕ × Inst) (z : Inst) → k < length xs → x ≡ get_or xs k x
    → z ≡ g x.1 → new ≡ all ++ (x.0, z) ∷ [] → (i : ℕ) → inst_from (g y) all i ≡ g (inst_from y (take k xs) i) → inst_from (g y) new i ≡ g (inst_from y (take (k + 1) xs) i)
insts-next g y xs all new k x z lt is made e i before =
    let left = ap (λ l. inst_from (g y) l i) e ∙ inst_from-snoc (g y) all (x.0, z) i in
    let right = ap (λ l. inst_from y l i) (take-more xs k x lt is) ∙ inst_from-snoc y (take k xs) x i in
    left ∙ (ap (λ w. cond (eqb x.0 i) w (inst_from (g y) all i)) made ∙ (ap (λ w. cond (eqb x.0 i) (g x.1) w) before ∙ (cond-of g (eqb x.0 i) x.1 (inst_from y (take k xs) i) ∙ ap g (sym right))))

-- states with equal fields
pub states : (a b : State) → a.start ≡ b.start → a.done ≡ b.done → a.begun ≡ b.begun → a.cuts ≡ b.cuts → ((t : TxnId) → a.part t ≡ b.part t) → ((i : ℕ) → a.inst i ≡ b.inst i) → a ≡ b
states a b s d g c p i = λ k. record { start = s k; done = d k; begun = g k; cuts = c k; part = λ t. p t k; inst = λ j. i j k }

-- the instances after one fell: the others recover it no more, and it is down
pub fall-inst : (i : ℕ) (rest after : Status) (old slice all new : List (ℕ × Inst)) (x y : Inst) → slice ≡ old
    → ((s : Status) (j : ℕ) → inst_from (unjoined (freed i s)) all j ≡ with_status (freed i (inst_from (unjoined s) slice j).status) (inst_from (unjoined s) slice j))
    → new ≡ all ++ (i, x) ∷ [] → x ≡ with_status Down y → y ≡ inst_in rest old i → after ≡ freed i rest
    → (j : ℕ) → inst_in after new j ≡ with_status (cond (eqb i j) Down (freed i (inst_in rest old j).status)) (inst_in rest old j)
fall-inst i rest after old slice all new x y same turned e is at r j =
    ap (λ s. inst_in s new j) r ∙ (ap (λ l. inst_in (freed i rest) l j) e ∙ (inst_from-snoc (unjoined (freed i rest)) all (i, x) j ∙ go (eqb i j) refl))
  where
    go : (b : Bool) → eqb i j ≡ b → cond b x (inst_from (unjoined (freed i rest)) all j) ≡ with_status (cond b Down (freed i (inst_in rest old j).status)) (inst_in rest old j)
    go true t = is ∙ ap (with_status Down) (at ∙ ap (inst_in rest old) (eqb-true i j t))
    go false t = turned rest j ∙ ap (λ l. with_status (freed i (inst_in rest l j).status) (inst_in rest l j)) same
