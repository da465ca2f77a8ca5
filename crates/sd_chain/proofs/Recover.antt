-- How a table of values is undone, record by record.
use Rattle.std.proofs.Common.{◌≡◌, ◌≢◌, ◌⊎◌, inl, inr, ⊎_elim, ℕ, true, false, List, [], ◌∷◌, ◌++◌, refl, sym, ap, ◌∙◌, subst, append-nil}
use Rattle.std.specs.Prelude.{filter}
use Rattle.std.proofs.lemmas.Bool.{cases_Bool}
use Rattle.sd_logrec.specs.View.{Rec}
use Rattle.sd_base.specs.declared.ids.TxnId.{TxnId}
use Rattle.sd_chain.specs.Records.{Val, at, Each}
use Rattle.sd_chain.specs.Undoing.{undo_one, undo_all, EachFound, stacks_of, Member, Apart}
use Rattle.sd_chain.specs.Storage.{Storage, now, opens, Open, Linked, undone, Sound, Recovered}
use Rattle.sd_chain.proofs.Lists.{filter-cons, filter-skip}
use Rattle.sd_chain.proofs.Newest.{at_is, at_from}
use Rattle.std.proofs.lemmas.List.Elements.{filter-append}
use Rattle.sd_chain.proofs.Apart.{apart, nil_or}

pub undo_one_at : (f : ℕ → ℕ → Val) (x : Rec) (p s : ℕ) → at p s x ≡ true → undo_one f x p s ≡ x.before
undo_one_at f x p s is = rw is refl

pub undo_one_off : (f : ℕ → ℕ → Val) (x : Rec) (p s : ℕ) → at p s x ≡ false → undo_one f x p s ≡ f p s
undo_one_off f x p s is = rw is refl

pub found_linked : (f : ℕ → ℕ → Val) (xs : List Rec) → EachFound f xs → (p s : ℕ) → Linked (f p s) (filter (at p s) xs)
found_linked f [] a p s = tt
found_linked f (x ∷ xs) a p s =
    let ih = found_linked (undo_one f x) xs a.1 p s in
    ⊎_elim
    (λ is. let e = at_is p s x is in subst (Linked (f p s)) (sym (filter-cons (at p s) x xs is)) (
      sym (ap (λ (k : ℕ). f k x.slot) e.0 ∙ ap (λ (k : ℕ). f p k) e.1) ∙ a.0,
      subst (λ (v : Val). Linked v (filter (at p s) xs)) (undo_one_at f x p s is) ih,
    ))
    (λ is. subst (Linked (f p s)) (sym (filter-skip (at p s) x xs is))
    (subst (λ (v : Val). Linked v (filter (at p s) xs)) (undo_one_off f x p s is) ih))
    (cases_Bool (at p s x))

pub linked_found : (f : ℕ → ℕ → Val) (xs : List Rec) → ((p s : ℕ) → Linked (f p s) (filter (at p s) xs)) → EachFound f xs
linked_found f [] l = tt
linked_found f (x ∷ xs) l = (here, linked_found (undo_one f x) xs rest_linked)
  where
    itself : at x.page x.slot x ≡ true
    itself = at_from x.page x.slot x refl refl

    here : f x.page x.slot ≡ x.after
    here = let h : Linked (f x.page x.slot) (x ∷ filter (at x.page x.slot) xs) =
        subst (Linked (f x.page x.slot)) (filter-cons (at x.page x.slot) x xs itself) (l x.page x.slot) in h.0

    rest_linked : (p s : ℕ) → Linked (undo_one f x p s) (filter (at p s) xs)
    rest_linked p s = ⊎_elim
        (λ is. let h : Linked (f p s) (x ∷ filter (at p s) xs) = subst (Linked (f p s)) (filter-cons (at p s) x xs is) (l p s) in
        subst (λ (v : Val). Linked v (filter (at p s) xs)) (sym (undo_one_at f x p s is)) h.1)
        (λ is. subst (λ (v : Val). Linked v (filter (at p s) xs)) (sym (undo_one_off f x p s is))
        (subst (Linked (f p s)) (filter-skip (at p s) x xs is) (l p s)))
        (cases_Bool (at p s x))

pub undo_all-undone : (f : ℕ → ℕ → Val) (xs : List Rec) (p s : ℕ) → undo_all f xs p s ≡ undone (f p s) (filter (at p s) xs)
undo_all-undone f [] p s = refl
undo_all-undone f (x ∷ xs) p s = undo_all-undone (undo_one f x) xs p s ∙ ⊎_elim
    (λ is. ap (λ (v : Val). undone v (filter (at p s) xs)) (undo_one_at f x p s is)
    ∙ sym (ap (undone (f p s)) (filter-cons (at p s) x xs is)))
    (λ is. ap (λ (v : Val). undone v (filter (at p s) xs)) (undo_one_off f x p s is)
    ∙ sym (ap (undone (f p s)) (filter-skip (at p s) x xs is)))
    (cases_Bool (at p s x))

module _ (img : Storage) (sound : Sound img) (p s : ℕ) where
  none_in : (t : TxnId) → Open img t → filter (at p s) (opens img t) ≢ [] → (ts : List TxnId) → Each (Open img) ts
      → Each (λ u. t ≢ u) ts → filter (at p s) (stacks_of img ts) ≡ []
  none_in t o some [] a b = refl
  none_in t o some (u ∷ us) a b =
      filter-append (at p s) (opens img u) (stacks_of img us)
      ∙ ap (λ (l : List Rec). l ++ filter (at p s) (stacks_of img us)) (apart img sound p s t u b.0 o a.0 some)
      ∙ none_in t o some us a.1 b.1

  -- one of them has all the records at the place, or none has any
  one_has : (ts : List TxnId) → Each (Open img) ts → Apart ts
      → ((t : TxnId) × Open img t × (filter (at p s) (opens img t) ≢ [])
      × (filter (at p s) (stacks_of img ts) ≡ filter (at p s) (opens img t)))
      ⊎ ((filter (at p s) (stacks_of img ts) ≡ []) × Each (λ t. filter (at p s) (opens img t) ≡ []) ts)
  one_has [] a b = inr (refl, tt)
  one_has (t ∷ ts) a b =
      let ih = one_has ts a.1 b.1 in
      ⊎_elim
      (λ none. ⊎_elim
      (λ r. inl (
        r.0,
        r.1,
        r.2,
        filter-append (at p s) (opens img t) (stacks_of img ts)
            ∙ ap (λ (l : List Rec). l ++ filter (at p s) (stacks_of img ts)) none ∙ r.3,
      ))
      (λ r. inr (
        filter-append (at p s) (opens img t) (stacks_of img ts)
            ∙ ap (λ (l : List Rec). l ++ filter (at p s) (stacks_of img ts)) none ∙ r.0,
        (none, r.1),
      ))
      ih)
      (λ some. inl (
        t,
        a.0,
        some,
        filter-append (at p s) (opens img t) (stacks_of img ts)
            ∙ ap (λ (l : List Rec). filter (at p s) (opens img t) ++ l) (none_in t a.0 some ts a.1 b.0)
            ∙ append-nil (filter (at p s) (opens img t)),
      ))
      (nil_or (filter (at p s) (opens img t)))

  member_none : (t : TxnId) (ts : List TxnId) → Member t ts → Each (λ t. filter (at p s) (opens img t) ≡ []) ts
      → filter (at p s) (opens img t) ≡ []
  member_none t [] m a = absurd m
  member_none t (u ∷ us) (inl e) a = ap (λ (k : TxnId). filter (at p s) (opens img k)) e ∙ a.0
  member_none t (u ∷ us) (inr m) a = member_none t us m a.1

  -- Undoing the stacks of all open transactions in the newest values gives what recovery gives.
  pub recovered-undo_all : (ts : List TxnId) → Each (Open img) ts → Apart ts
      → ((t : TxnId) → Open img t → (opens img t ≡ []) ⊎ Member t ts)
      → Recovered img p s (undo_all (now img) (stacks_of img ts) p s)
  recovered-undo_all ts a b covers = ⊎_elim
      (λ r. inl (r.0, r.1, r.2, undo_all-undone (now img) (stacks_of img ts) p s ∙ ap (undone (now img p s)) r.3))
      (λ r. inr (
        (λ t o. ⊎_elim (λ none. ap (filter (at p s)) none) (λ m. member_none t ts m r.1) (covers t o)),
        undo_all-undone (now img) (stacks_of img ts) p s ∙ ap (undone (now img p s)) r.0,
      ))
      (one_has ts a b)

-- In a sound image each of them is found as it left its place, so a record that isn't shows that the image isn't sound.
pub found_all : (img : Storage) → Sound img → (ts : List TxnId) → Each (Open img) ts → Apart ts
    → EachFound (now img) (stacks_of img ts)
found_all img sound ts a b = linked_found (now img) (stacks_of img ts) (λ p s. ⊎_elim
    (λ r. subst (Linked (now img p s)) (sym r.3) ((sound.stacks r.0 r.1).linked p s))
    (λ r. subst (Linked (now img p s)) (sym r.0) tt)
    (one_has img sound p s ts a b))
