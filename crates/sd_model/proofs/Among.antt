-- Who stands in a list, and whom epochs and begins bound. It serves what keeps the lists of a state.
use Rattle.std.proofs.Common.{◌≡◌, ◌≢◌, ◌⊎◌, inl, inr, ⊎_elim, ℕ, ◌+◌, ◌≤◌, ◌<◌, Bool, cond, eqb, List, [], ◌∷◌, ◌++◌, refl, sym, ap, ◌∙◌, subst, arith, eq-eqb}
use Rattle.sd_base.specs.declared.ids.TxnId.{TxnId}
use Rattle.sd_base.specs.declared.place.Status.TheVariants.{Up}
use Rattle.sd_model.specs.declared.act.Inst.{Inst}
use Rattle.sd_model.specs.State.{State}
use Rattle.sd_model.specs.StepLaws.{next_txn}
use Rattle.sd_model.specs.Listed.{IsAmong, NoneTwice, Below, EachBelow}
use Rattle.sd_model.proofs.Moves.{Rises, one-rises}

pub among-more : (xs : List TxnId) (x t : TxnId) → IsAmong t xs → IsAmong t (xs ++ x ∷ [])
among-more [] x t a = absurd a
among-more (y ∷ ys) x t (inl e) = inl e
among-more (y ∷ ys) x t (inr a) = inr (among-more ys x t a)

pub among-last : (xs : List TxnId) (x : TxnId) → IsAmong x (xs ++ x ∷ [])
among-last [] x = inl refl
among-last (y ∷ ys) x = inr (among-last ys x)

pub among-split : (xs : List TxnId) (x t : TxnId) → IsAmong t (xs ++ x ∷ []) → IsAmong t xs ⊎ (t ≡ x)
among-split [] x t (inl e) = inr e
among-split [] x t (inr a) = absurd a
among-split (y ∷ ys) x t (inl e) = inl (inl e)
among-split (y ∷ ys) x t (inr a) = ⊎_elim (λ b. inl (inr b)) (λ e. inr e) (among-split ys x t a)

pub once-more : (xs : List TxnId) (x : TxnId) → NoneTwice xs → (IsAmong x xs → ⊥) → NoneTwice (xs ++ x ∷ [])
once-more [] x n new = (λ a. a, tt)
once-more (y ∷ ys) x n new = (λ a. ⊎_elim n.0 (λ (e : y ≡ x). new (inl (sym e))) (among-split ys x y a), once-more ys x n.1 (λ a. new (inr a)))

pub below-rises : (f g : ℕ → Inst) (t : TxnId) → Rises (f t.inst) (g t.inst) → Below f t → Below g t
below-rises f g t (inl r) (inl b) = inl (omega (arith, r, b))
below-rises f g t (inl r) (inr b) = inl (omega (arith, r, b.0))
below-rises f g t (inr r) (inl b) = inl (omega (arith, r.0, b))
below-rises f g t (inr r) (inr b) = inr (b.0 ∙ r.0, λ up. let now = r.1 up in omega (arith, now.1, b.1 now.0))

pub each-rises : (f g : ℕ → Inst) (ts : List TxnId) → ((i : ℕ) → Rises (f i) (g i)) → EachBelow f ts → EachBelow g ts
each-rises f g [] r a = tt
each-rises f g (t ∷ ts) r a = (below-rises f g t (r t.inst) a.0, each-rises f g ts r a.1)

pub each-more : (f : ℕ → Inst) (ts : List TxnId) (x : TxnId) → EachBelow f ts → Below f x → EachBelow f (ts ++ x ∷ [])
each-more f [] x a b = (b, tt)
each-more f (t ∷ ts) x a b = (a.0, each-more f ts x a.1 b)

pub each-below : (f : ℕ → Inst) (ts : List TxnId) (t : TxnId) → EachBelow f ts → IsAmong t ts → Below f t
each-below f [] t a k = absurd k
each-below f (u ∷ us) t a (inl e) = subst (Below f) (sym e) a.0
each-below f (u ∷ us) t a (inr k) = each-below f us t a.1 k

-- an instance whose begins have risen by one
abbrev pub begun_at : (ℕ → Inst) → ℕ → Inst
begun_at f i = record (f i) { begins = (f i).begins + 1 }

pub begin-rises : (m : State) (i : ℕ) (j : ℕ) → Rises (m.inst j) (cond (eqb i j) (begun_at m.inst i) (m.inst j))
begin-rises m i = one-rises m i (begun_at m.inst i) (inr (refl, λ up. (up, omega arith)))

-- the next id of an instance is in bounds once it is given, and not before
pub next-below : (m : State) (i : ℕ) → Below (λ j. cond (eqb i j) (begun_at m.inst i) (m.inst j)) (next_txn m i)
next-below m i =
    let at_i : cond (eqb i i) (begun_at m.inst i) (m.inst i) ≡ begun_at m.inst i = ap (λ (b : Bool). cond b (begun_at m.inst i) (m.inst i)) (eq-eqb i i refl) in
    inr (sym (ap (λ (z : Inst). z.epoch) at_i), λ up. subst (λ (z : Inst). (m.inst i).begins + 1 ≤ z.begins) (sym at_i) (omega arith))

pub next-other : (m : State) (i : ℕ) (t : TxnId) → (m.inst i).status ≡ Up → Below m.inst t → next_txn m i ≢ t
next-other m i t up b e =
    let h : i ≡ t.inst = ap (λ (x : TxnId). x.inst) e in
    let k : (m.inst i).epoch ≡ t.epoch = ap (λ (x : TxnId). x.epoch) e in
    let n : (m.inst i).begins + 1 ≡ t.seq = ap (λ (x : TxnId). x.seq) e in
    let at : m.inst i ≡ m.inst t.inst = ap m.inst h in
    let ke : (m.inst i).epoch ≡ (m.inst t.inst).epoch = ap (λ (x : Inst). x.epoch) at in
    let kb : (m.inst i).begins ≡ (m.inst t.inst).begins = ap (λ (x : Inst). x.begins) at in
    ⊎_elim
    (λ (lt : t.epoch < (m.inst t.inst).epoch). omega (arith, k, ke, lt))
    (λ (x : (t.epoch ≡ (m.inst t.inst).epoch) × ((m.inst t.inst).status ≡ Up → t.seq ≤ (m.inst t.inst).begins)).
    let few = x.1 (ap (λ (y : Inst). y.status) (sym at) ∙ up) in omega (arith, n, kb, few))
    b

pub next-new : (m : State) (i : ℕ) (ts : List TxnId) → (m.inst i).status ≡ Up → EachBelow m.inst ts → IsAmong (next_txn m i) ts → ⊥
next-new m i ts up bounds a = next-other m i (next_txn m i) up (each-below m.inst ts (next_txn m i) bounds a) refl
