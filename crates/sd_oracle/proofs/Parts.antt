-- A change that is appended to a list. It serves the goals of standing.rt, lists.rt and records.rt.
use Rattle.std.proofs.Common.{◌≡◌, ℕ, cond, eqb, List, [], ◌∷◌, ◌++◌, refl, ap, ◌∙◌}
use Rattle.sd_base.specs.declared.ids.TxnId.{TxnId}
use Rattle.sd_base.specs.declared.ids.Rid.{Rid}
use Rattle.sd_base.specs.declared.place.Status.{Status}
use Rattle.sd_model.specs.declared.act.Claim.{Claim}
use Rattle.sd_model.specs.declared.act.Claim.TheVariants.{Free}
use Rattle.sd_model.specs.declared.act.Inst.{Inst}
use Rattle.sd_oracle.specs.declared.standing.Standing.{Standing}
use Rattle.sd_base.specs.Ids.{same_txn, same_rid}
use Rattle.sd_model.specs.Claims.{raised_claim, with_claim}
use Rattle.sd_model.specs.State.{Part, gone}
use Rattle.sd_oracle.specs.Lists.{claim_from, claims_in, part_of, part_from, part_in, unjoined, inst_from, inst_in}

pub claim_from-snoc : (c : Claim) (xs : List (Rid × Claim)) (x : Rid × Claim) (q : Rid) → claim_from c (xs ++ x ∷ []) q ≡ cond (same_rid x.0 q) (raised_claim x.1 (claim_from c xs q)) (claim_from c xs q)
claim_from-snoc c [] x q = refl
claim_from-snoc c (y ∷ ys) x q = claim_from-snoc (cond (same_rid y.0 q) (raised_claim y.1 c) c) ys x q

pub claims-more : (xs : List (Rid × Claim)) (r : Rid) (mode : Claim) → (λ q. claims_in (xs ++ (r, mode) ∷ []) q) ≡ with_claim r mode (claims_in xs)
claims-more xs r mode = λ i q. claim_from-snoc Free xs (r, mode) q i

pub part_from-snoc : (p : Part) (xs : List (TxnId × Standing)) (x : TxnId × Standing) (t : TxnId) → part_from p (xs ++ x ∷ []) t ≡ cond (same_txn x.0 t) (part_of x.1) (part_from p xs t)
part_from-snoc p [] x t = refl
part_from-snoc p (y ∷ ys) x t = part_from-snoc (cond (same_txn y.0 t) (part_of y.1) p) ys x t

pub parts-more : (xs : List (TxnId × Standing)) (t : TxnId) (s : Standing) → ◌≡◌ {A = TxnId → Part} (λ u. part_in (xs ++ (t, s) ∷ []) u) (λ u. cond (same_txn t u) (part_of s) (part_in xs u))
parts-more xs t s = λ i u. part_from-snoc gone xs (t, s) u i

pub inst_from-snoc : (y : Inst) (xs : List (ℕ × Inst)) (x : ℕ × Inst) (i : ℕ) → inst_from y (xs ++ x ∷ []) i ≡ cond (eqb x.0 i) x.1 (inst_from y xs i)
inst_from-snoc y [] x i = refl
inst_from-snoc y (z ∷ zs) x i = inst_from-snoc (cond (eqb z.0 i) z.1 y) zs x i

pub insts-more : (rest : Status) (xs : List (ℕ × Inst)) (i : ℕ) (x : Inst) → ◌≡◌ {A = ℕ → Inst} (λ j. inst_in rest (xs ++ (i, x) ∷ []) j) (λ j. cond (eqb i j) x (inst_in rest xs j))
insts-more rest xs i x = λ k j. inst_from-snoc (unjoined rest) xs (i, x) j k

-- the parts, or the instances, after a change was appended
pub parts-after : (xs new : List (TxnId × Standing)) (t : TxnId) (s : Standing) → new ≡ xs ++ (t, s) ∷ [] → ◌≡◌ {A = TxnId → Part} (λ u. part_in new u) (λ u. cond (same_txn t u) (part_of s) (part_in xs u))
parts-after xs new t s e = ap {B = TxnId → Part} (λ (l : List (TxnId × Standing)) (u : TxnId). part_in l u) e ∙ parts-more xs t s

pub insts-after : (rest : Status) (xs new : List (ℕ × Inst)) (i : ℕ) (x : Inst) → new ≡ xs ++ (i, x) ∷ [] → ◌≡◌ {A = ℕ → Inst} (λ j. inst_in rest new j) (λ j. cond (eqb i j) x (inst_in rest xs j))
insts-after rest xs new i x e = ap {B = ℕ → Inst} (λ (l : List (ℕ × Inst)) (j : ℕ). inst_in rest l j) e ∙ insts-more rest xs i x

-- a list that was given room and then an item
pub list-after : {A : Type 0} (xs roomy new : List A) (x : A) → roomy ≡ xs → new ≡ roomy ++ x ∷ [] → new ≡ xs ++ x ∷ []
list-after xs roomy new x e f = f ∙ ap (λ l. l ++ x ∷ []) e
