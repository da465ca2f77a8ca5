-- Open transactions have no record in common.
use Rattle.std.proofs.Common.{◌≡◌, ◌≢◌, ◌⊎◌, inl, inr, ⊎_elim, ℕ, ◌<◌, true, false, List, [], ◌∷◌, refl, sym, ap, ◌∙◌, arith}
use Rattle.std.specs.Prelude.{filter}
use Rattle.std.proofs.lemmas.Bool.{cases_Bool}
use Rattle.sd_logrec.specs.View.{Rec}
use Rattle.sd_base.specs.declared.ids.TxnId.{TxnId}
use Rattle.sd_chain.specs.Records.{Val, of_rid, at, changes, Each, home}
use Rattle.sd_logrec.specs.View.Kind.{Update}
use Rattle.sd_chain.specs.Storage.{Storage, now, opens, Open, undone, Alone, Sound, Recovered}
use Rattle.sd_chain.proofs.Lists.{Each-weaker, Each-both, Each-filter, filter-cons, filter-skip}
use Rattle.sd_chain.proofs.Newest.{at_is, at_from, of_rid_from}
use Rattle.sd_chain.proofs.Opens.{Each-stack}
use Rattle.sd_base.proofs.SameIds.{cases_txn}

pub nil_or : (xs : List Rec) → (xs ≡ []) ⊎ (xs ≢ [])
nil_or [] = inl refl
nil_or (x ∷ xs) = inr (λ e. absurd (cc))

-- a list without a record at a place
pub none_at : (p s : ℕ) (xs : List Rec) → filter (at p s) xs ≡ [] → Each (λ x. at p s x ≡ false) xs
none_at p s [] e = tt
none_at p s (x ∷ xs) e = ⊎_elim
    (λ is. let c = sym (filter-cons (at p s) x xs is) ∙ e in absurd (cc))
    (λ is. (is, none_at p s xs (sym (filter-skip (at p s) x xs is) ∙ e)))
    (cases_Bool (at p s x))

Each-swap : {A : Type 0} (R : A → Rec → Type 0) (xs : List Rec) → ((a : A) → Each (R a) xs) → Each (λ x. (a : A) → R a x) xs
Each-swap R [] f = tt
Each-swap R (x ∷ xs) f = ((λ a. (f a).0), Each-swap R xs (λ a. (f a).1))

-- a record of the stack is below those of other transactions that are alone at its place
abbrev Below : Storage → TxnId → Rec → Type 0
Below img t x = (w : TxnId × Rec) → t ≢ w.0 → Alone img w.0 w.1 → at w.1.page w.1.slot x ≡ true → x.lsn < w.1.lsn

below_others : (img : Storage) (t : TxnId) → Each (Below img t) (opens img t)
below_others img t =
    Each-stack (Below img t) t (img.logs (home t)) (
    Each-weaker (λ x. (w : TxnId × Rec) → Alone img w.0 w.1 → x.txn ≢ w.0 → of_rid w.1.page w.1.slot x ≡ true → x.lsn < w.1.lsn)
    (λ x. x.txn ≡ t → x.kind ≡ Update → Below img t x)
    (λ x h own kind w ne alone is. let e = at_is w.1.page w.1.slot x is in
    h w alone (λ f. ne (sym own ∙ f)) (of_rid_from w.1.page w.1.slot x (ap changes kind) e.0 e.1))
    (img.logs (home t))
    (Each-swap (λ (w : TxnId × Rec) (x : Rec). Alone img w.0 w.1 → x.txn ≢ w.0 → of_rid w.1.page w.1.slot x ≡ true
    → x.lsn < w.1.lsn) (img.logs (home t))
    (λ w. Each-given (Alone img w.0 w.1) (λ x. x.txn ≢ w.0 → of_rid w.1.page w.1.slot x ≡ true → x.lsn < w.1.lsn)
    (img.logs (home t)) (λ alone. alone (home t)))))
  where
    Each-given : (A : Type 0) (P : Rec → Type 0) (xs : List Rec) → (A → Each P xs) → Each (λ x. A → P x) xs
    Each-given A P [] f = tt
    Each-given A P (x ∷ xs) f = ((λ a. (f a).0), Each-given A P xs (λ a. (f a).1))

record Stands (img : Storage) (p s : ℕ) (t : TxnId) (x : Rec) : Type 0 where
  it : at p s x ≡ true
  alone : Alone img t x
  below : Below img t x

standing : (img : Storage) (p s : ℕ) (t : TxnId) → Each (Alone img t) (opens img t)
    → Each (Stands img p s t) (filter (at p s) (opens img t))
standing img p s t a =
    Each-filter (Stands img p s t) (at p s) (opens img t)
    (Each-both (Alone img t) (Below img t) (λ x. at p s x ≡ true → Stands img p s t x)
    (λ x alone below it. record { it = it; alone = alone; below = below }) (opens img t) a (below_others img t))

not_both : (img : Storage) (p s : ℕ) (t u : TxnId) → t ≢ u → (xs ys : List Rec) → Each (Stands img p s t) xs
    → Each (Stands img p s u) ys → xs ≢ [] → ys ≡ []
not_both img p s t u ne [] ys a b some = absurd (some refl)
not_both img p s t u ne (x ∷ xs) [] a b some = refl
not_both img p s t u ne (x ∷ xs) (y ∷ ys) a b some =
    let ex = at_is p s x a.0.it in
    let ey = at_is p s y b.0.it in
    let one = a.0.below (u, y) ne b.0.alone (at_from y.page y.slot x (ex.0 ∙ sym ey.0) (ex.1 ∙ sym ey.1)) in
    let two = b.0.below (t, x) (λ e. ne (sym e)) a.0.alone (at_from x.page x.slot y (ey.0 ∙ sym ex.0) (ey.1 ∙ sym ex.1)) in
    absurd (omega (arith, one, two))

pub apart : (img : Storage) → Sound img → (p s : ℕ) (t u : TxnId) → t ≢ u → Open img t → Open img u
    → filter (at p s) (opens img t) ≢ [] → filter (at p s) (opens img u) ≡ []
apart img sound p s t u ne o o' some =
    not_both img p s t u ne (filter (at p s) (opens img t)) (filter (at p s) (opens img u))
    (standing img p s t (sound.stacks t o).alone) (standing img p s u (sound.stacks u o').alone) some

-- what recovery gives is read off the open transactions, their records at the place and the newest value
pub Recovered-same : (old new : Storage) (p s : ℕ) → ((t : TxnId) → Open new t → Open old t)
    → ((t : TxnId) → Open old t → Open new t) → ((t : TxnId) → filter (at p s) (opens new t) ≡ filter (at p s) (opens old t))
    → now new p s ≡ now old p s → (v : Val) → Recovered old p s v → Recovered new p s v
Recovered-same old new p s back on same e v (inl r) = inl (
  r.0,
  on r.0 r.1,
  (λ none. r.2 (sym (same r.0) ∙ none)),
  r.3 ∙ ap (undone (now old p s)) (sym (same r.0)) ∙ ap (λ (w : Val). undone w (filter (at p s) (opens new r.0))) (sym e),
)
Recovered-same old new p s back on same e v (inr r) = inr ((λ t o. same t ∙ r.0 t (back t o)), r.1 ∙ sym e)

-- it gives one value
pub Recovered-one : (img : Storage) → Sound img → (p s : ℕ) (v w : Val) → Recovered img p s v → Recovered img p s w → v ≡ w
Recovered-one img sound p s v w (inl r) (inl q) = ⊎_elim
    (λ e. r.3 ∙ ap (λ (k : TxnId). undone (now img p s) (filter (at p s) (opens img k))) e ∙ sym q.3)
    (λ ne. absurd (q.2 (apart img sound p s r.0 q.0 ne r.1 q.1 r.2)))
    (cases_txn r.0 q.0)
Recovered-one img sound p s v w (inl r) (inr q) = absurd (r.2 (q.0 r.0 r.1))
Recovered-one img sound p s v w (inr r) (inl q) = absurd (q.2 (r.0 q.0 q.1))
Recovered-one img sound p s v w (inr r) (inr q) = r.1 ∙ sym q.1
