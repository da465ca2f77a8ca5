-- The newest version has the greatest LSN of its page.
use Rattle.std.proofs.Common.{◌≡◌, ◌⊎◌, inl, inr, ⊎_elim, ℕ, zero, suc, ◌<◌, ◌≤◌, Bool, true, false, cond, ltb, List, [], ◌∷◌, sym, ◌∙◌, subst, arith}
use Rattle.std.specs.Prelude.{filter}
use Rattle.std.proofs.lemmas.Bool.{cases_Bool, cases_eq, cases_lt}
use Rattle.sd_logrec.specs.View.{Rec}
use Rattle.sd_chain.specs.Records.{of_page, Each}
use Rattle.sd_chain.specs.Storage.{Sound, Storage, all_of, chain, inserted, newest, sorted}
use Rattle.sd_chain.specs.Changes.{IsAbovePage}
use Rattle.sd_chain.proofs.Lists.{Each-front, Each-weaker, filter-cons, filter-skip, Each-back}
use Rattle.sd_chain.proofs.Chains.{replay_rises}

Each-inserted_back : (P : Rec → Type 0) (x : Rec) (xs : List Rec) → Each P (inserted x xs) → P x × Each P xs
Each-inserted_back P x [] a = a
Each-inserted_back P x (y ∷ ys) a = go (ltb x.lsn y.lsn) a (Each-inserted_back P x ys)
  where
    go : (b : Bool) → Each P (cond b (x ∷ y ∷ ys) (y ∷ inserted x ys)) → (Each P (inserted x ys) → P x × Each P ys)
        → P x × Each P (y ∷ ys)
    go true a f = a
    go false a f = let r = f a.1 in (r.0, (a.0, r.1))

pub Each-sorted_back : (P : Rec → Type 0) (xs : List Rec) → Each P (sorted xs) → Each P xs
Each-sorted_back P [] a = tt
Each-sorted_back P (x ∷ xs) a = let r = Each-inserted_back P x (sorted xs) a in (r.0, Each-sorted_back P xs r.1)

pub Each-filter_back : (P : Rec → Type 0) (test : Rec → Bool) (xs : List Rec) → Each P (filter test xs)
    → Each (λ x. test x ≡ true → P x) xs
Each-filter_back P test [] a = tt
Each-filter_back P test (x ∷ xs) a = go (Each-filter_back P test xs) (cases_Bool (test x))
  where
    go : (Each P (filter test xs) → Each (λ x. test x ≡ true → P x) xs) → (test x ≡ true) ⊎ (test x ≡ false)
        → Each (λ x. test x ≡ true → P x) (x ∷ xs)
    go ih (inl is) = let b : Each P (x ∷ filter test xs) = subst (Each P) (filter-cons test x xs is) a in ((λ e. b.0), ih b.1)
    go ih (inr is) = ((λ e. let c = sym e ∙ is in absurd (cc)), ih (subst (Each P) (filter-skip test x xs is) a))

Each-all_of_back : (P : Rec → Type 0) (logs : ℕ → List Rec) (n j : ℕ) → j < n → Each P (all_of logs n) → Each P (logs j)
unfolding all_of
Each-all_of_back P logs zero j lt a = absurd (omega arith)
Each-all_of_back P logs (suc n) j lt a = ⊎_elim
    (λ e. subst (λ (k : ℕ). Each P (logs k)) (sym e) (Each-front P (logs n) (all_of logs n) a))
    (λ ne. Each-all_of_back P logs n j (omega arith) (Each-back P (logs n) (all_of logs n) a))
    (cases_eq j n)

pub records_low : (img : Storage) → Sound img → (p j : ℕ) → j < 9
    → Each (λ x. of_page p x ≡ true → x.lsn ≤ (newest img p).lsn) (img.logs j)
unfolding chain newest
records_low img sound p j lt =
    let low = (replay_rises (img.disk p).lsn (img.disk p) (chain img p) (omega arith) (sound.pages p)).1 in
    Each-all_of_back (λ x. of_page p x ≡ true → x.lsn ≤ (newest img p).lsn) img.logs 9 j lt
    (Each-filter_back (λ x. x.lsn ≤ (newest img p).lsn) (of_page p) (all_of img.logs 9)
    (Each-sorted_back (λ x. x.lsn ≤ (newest img p).lsn) (filter (of_page p) (all_of img.logs 9)) low))

-- so only the page's LSN has to be passed, where logs are eight
pub above_page : (img : Storage) → Sound img → ((j : ℕ) → 9 ≤ j → img.logs j ≡ []) → (y : Rec) → (newest img y.page).lsn < y.lsn
    → IsAbovePage img y
above_page img sound eight y lt = record {
  records = λ j. ⊎_elim
      (λ in_eight. Each-weaker (λ x. of_page y.page x ≡ true → x.lsn ≤ (newest img y.page).lsn)
      (λ x. of_page y.page x ≡ true → x.lsn < y.lsn) (λ x h is. let l = h is in omega arith) (img.logs j)
      (records_low img sound y.page j in_eight))
      (λ past. subst (Each (λ x. of_page y.page x ≡ true → x.lsn < y.lsn)) (sym (eight j past)) tt)
      (cases_lt j 9);
  page = lt;
}
