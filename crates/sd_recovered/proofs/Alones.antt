-- Records that nobody else changed since, told by each log and by the greatest LSN of others. It serves the goals of undone.
use Rattle.std.proofs.Common.{◌≡◌, ◌≢◌, ◌⊎◌, inl, inr, ⊎_elim, ◌<◌, ℕ, zero, suc, Bool, true, false, cond, eqb, not, ◌&&◌, List, [], ◌∷◌, slice_get, refl, sym, ap, subst, ◌∙◌, arith, eq-eqb}
use Rattle.std.specs.Prelude.{filter}
use Rattle.std.specs.Option.{option_map_or}
use Rattle.std.proofs.lemmas.Bool.{cases_Bool}
use Rattle.sd_base.specs.declared.ids.TxnId.{TxnId}
use Rattle.sd_base.specs.Ids.{same_txn}
use Rattle.sd_logrec.specs.View.{Rec}
use Rattle.sd_logrec.specs.View.Kind.{Update}
use Rattle.sd_log.specs.Logs.{LogState, flats, log_in, scanned}
use Rattle.sd_chain.specs.Records.{Each, at, changes, home, of_rid}
use Rattle.sd_chain.specs.Storage.{Alone, Storage, opens}
use Rattle.sd_recovered.specs.Others.{all_in, last_of_others, other_lsn}
use Rattle.sd_recovered.proofs.Lasts.{last-append}
use Rattle.sd_chain.proofs.Lists.{filter-skip, Each-weaker}
use Rattle.sd_chain.proofs.Newest.{at_is, at_from}
use Rattle.sd_base.proofs.SameIds.{ne-same, eq-same}
use Rattle.sd_chain.proofs.Opens.{Each-stack}

-- each of these that is a change of the record by another one is below n
abbrev pub Below : TxnId → ℕ → ℕ → ℕ → List Rec → Type 0
Below t p s n zs = Each (λ z. z.txn ≢ t → of_rid p s z ≡ true → z.lsn < n) zs

one-below : (t : TxnId) (p s n : ℕ) (z : Rec) → other_lsn t p s z < n → z.txn ≢ t → of_rid p s z ≡ true → z.lsn < n
one-below t p s n z lt ne is =
    let e = ap (λ (b : Bool). cond (b && not (same_txn z.txn t)) z.lsn 0) is
    ∙ ap (λ (b : Bool). cond (not b) z.lsn 0) (ne-same z.txn t ne) in
    omega (arith, lt, e)

below-one : (t : TxnId) (p s n : ℕ) (z : Rec) → 0 < n → (z.txn ≢ t → of_rid p s z ≡ true → z.lsn < n) → other_lsn t p s z < n
below-one t p s n z pos h = by (of_rid p s z) (same_txn z.txn t) refl refl
  where
    by : (a b : Bool) → of_rid p s z ≡ a → same_txn z.txn t ≡ b → cond (a && not b) z.lsn 0 < n
    by true true e f = pos
    by true false e f = h (λ same. let own = eq-same z.txn t same in absurd (cc)) e
    by false b e f = pos

last-below : (t : TxnId) (p s n : ℕ) (zs : List Rec) → last_of_others t p s zs < n → Below t p s n zs
last-below t p s n [] lt = tt
last-below t p s n (z ∷ zs) lt = (
  one-below t p s n z (omega (arith, lt)),
  last-below t p s n zs (omega (arith, lt)),
)

below-last : (t : TxnId) (p s n : ℕ) (zs : List Rec) → 0 < n → Below t p s n zs → last_of_others t p s zs < n
below-last t p s n [] pos b = pos
below-last t p s n (z ∷ zs) pos b =
    let one = below-one t p s n z pos b.0 in let rest = below-last t p s n zs pos b.1 in omega (arith, one, rest)

-- the records of the log of this index
abbrev pub log_at : List LogState → ℕ → List Rec
log_at logs i = option_map_or (λ log. flats (scanned log)) (slice_get logs i) []

log-below : (t : TxnId) (p s n : ℕ) (logs : List LogState) (i : ℕ) → last_of_others t p s (all_in logs) < n
    → Below t p s n (log_at logs i)
log-below t p s n [] i lt = tt
log-below t p s n (log ∷ logs) zero lt =
    last-below t p s n (flats (scanned log)) (omega (arith, lt, last-append t p s (flats (scanned log)) (all_in logs)))
log-below t p s n (log ∷ logs) (suc i) lt =
    log-below t p s n logs i (omega (arith, lt, last-append t p s (flats (scanned log)) (all_in logs)))

below-logs : (t : TxnId) (p s n : ℕ) (logs : List LogState) → 0 < n → ((i : ℕ) → Below t p s n (log_at logs i))
    → last_of_others t p s (all_in logs) < n
below-logs t p s n [] pos b = pos
below-logs t p s n (log ∷ logs) pos b =
    let one = below-last t p s n (flats (scanned log)) pos (b zero) in
    let rest = below-logs t p s n logs pos (λ i. b (suc i)) in
    omega (arith, one, rest, last-append t p s (flats (scanned log)) (all_in logs))

module _ (img : Storage) (logs : List LogState) (logs_are : (j : ℕ) → img.logs j ≡ log_in logs j) where
  pub alone-from : (t : TxnId) (x : Rec) → last_of_others t x.page x.slot (all_in logs) < x.lsn → Alone img t x
  alone-from t x lt j = subst (Below t x.page x.slot x.lsn) (sym (logs_are j)) (by j)
    where
      by : (j : ℕ) → Below t x.page x.slot x.lsn (log_in logs j)
      by zero = tt
      by (suc i) = log-below t x.page x.slot x.lsn logs i lt

  pub alone-last : (t : TxnId) (x : Rec) → 0 < x.lsn → Alone img t x → last_of_others t x.page x.slot (all_in logs) < x.lsn
  alone-last t x pos alone =
      below-logs t x.page x.slot x.lsn logs pos (λ i. subst (Below t x.page x.slot x.lsn) (logs_are (suc i)) (alone (suc i)))

-- two transactions, each of whose records are alone, have none in common
Each-given : (A : Type 0) (P : Rec → Type 0) (xs : List Rec) → (A → Each P xs) → Each (λ x. A → P x) xs
Each-given A P [] f = tt
Each-given A P (x ∷ xs) f = ((λ a. (f a).0), Each-given A P xs (λ a. (f a).1))

of_rid-from : (p s : ℕ) (x : Rec) → x.kind ≡ Update → at p s x ≡ true → of_rid p s x ≡ true
of_rid-from p s x kind is =
    let e = at_is p s x is in
    ap (λ k. (changes k && eqb x.page p) && eqb x.slot s) kind
    ∙ ap (λ (b : Bool). b && eqb x.slot s) (eq-eqb x.page p e.0) ∙ eq-eqb x.slot s e.1

-- the stack of t is below a record that is alone, at its place
below-alone : (img : Storage) (t u : TxnId) (y : Rec) → t ≢ u → Alone img u y
    → Each (λ x. at y.page y.slot x ≡ true → x.lsn < y.lsn) (opens img t)
below-alone img t u y ne alone =
    Each-stack (λ x. at y.page y.slot x ≡ true → x.lsn < y.lsn) t (img.logs (home t))
    (Each-weaker (λ x. x.txn ≢ u → of_rid y.page y.slot x ≡ true → x.lsn < y.lsn)
    (λ x. x.txn ≡ t → x.kind ≡ Update → at y.page y.slot x ≡ true → x.lsn < y.lsn)
    (λ x h own kind is. h (λ f. ne (sym own ∙ f)) (of_rid-from y.page y.slot x kind is))
    (img.logs (home t)) (alone (home t)))

pub first-at : (P : Rec → Type 0) (p s : ℕ) (xs : List Rec) → Each P xs → filter (at p s) xs ≢ [] → (x : Rec) × (at p s x ≡ true) × P x
first-at P p s [] a some = absurd (some refl)
first-at P p s (x ∷ xs) a some = ⊎_elim
    (λ is. (x, is, a.0))
    (λ is. first-at P p s xs a.1 (λ e. some (filter-skip (at p s) x xs is ∙ e)))
    (cases_Bool (at p s x))

pub nil_or : (xs : List Rec) → (xs ≡ []) ⊎ (xs ≢ [])
nil_or [] = inl refl
nil_or (x ∷ xs) = inr (λ e. absurd (cc))

Each-both : {A : Type 0} (P Q : A → Type 0) (xs : List A) → Each P xs → Each Q xs → Each (λ x. P x × Q x) xs
Each-both P Q [] a b = tt
Each-both P Q (x ∷ xs) a b = ((a.0, b.0), Each-both P Q xs a.1 b.1)

Each-swap : {A : Type 0} (R : A → Rec → Type 0) (xs : List Rec) → ((a : A) → Each (R a) xs) → Each (λ x. (a : A) → R a x) xs
Each-swap R [] f = tt
Each-swap R (x ∷ xs) f = ((λ a. (f a).0), Each-swap R xs (λ a. (f a).1))

-- a record that is alone, and below those of u that are alone at its place
abbrev Stands : Storage → TxnId → TxnId → Rec → Type 0
Stands img t u x = Alone img t x × ((w : Rec) → Alone img u w → at w.page w.slot x ≡ true → x.lsn < w.lsn)

standing : (img : Storage) (t u : TxnId) → t ≢ u → Each (Alone img t) (opens img t) → Each (Stands img t u) (opens img t)
standing img t u ne a =
    Each-both (Alone img t) (λ x. (w : Rec) → Alone img u w → at w.page w.slot x ≡ true → x.lsn < w.lsn) (opens img t) a
    (Each-swap (λ (w x : Rec). Alone img u w → at w.page w.slot x ≡ true → x.lsn < w.lsn) (opens img t)
    (λ w. Each-given (Alone img u w) (λ x. at w.page w.slot x ≡ true → x.lsn < w.lsn) (opens img t) (below-alone img t u w ne)))

pub not-both : (img : Storage) (p s : ℕ) (t u : TxnId) → t ≢ u → Each (Alone img t) (opens img t) → Each (Alone img u) (opens img u)
    → filter (at p s) (opens img t) ≢ [] → filter (at p s) (opens img u) ≡ []
not-both img p s t u ne a b some = ⊎_elim (λ none. none) (λ more. absurd (by more)) (nil_or (filter (at p s) (opens img u)))
  where
    by : filter (at p s) (opens img u) ≢ [] → ⊥
    by more =
        let x = first-at (Stands img t u) p s (opens img t) (standing img t u ne a) some in
        let y = first-at (Stands img u t) p s (opens img u) (standing img u t (λ e. ne (sym e)) b) more in
        let ex = at_is p s x.0 x.1 in let ey = at_is p s y.0 y.1 in
        let one = x.2.1 y.0 y.2.0 (at_from y.0.page y.0.slot x.0 (ex.0 ∙ sym ey.0) (ex.1 ∙ sym ey.1)) in
        let two = y.2.1 x.0 x.2.0 (at_from x.0.page x.0.slot y.0 (ey.0 ∙ sym ex.0) (ey.1 ∙ sym ex.1)) in
        omega (arith, one, two)
