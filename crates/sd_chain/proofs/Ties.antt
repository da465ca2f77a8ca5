-- A list that std sorted by LSN fits a page exactly where the chain does, and replays to the same.
use Rattle.std.proofs.Common.{◌≡◌, ⊎_elim, ℕ, suc, ◌<◌, ◌≤◌, Bool, cond, List, [], ◌∷◌, sym, ap, ◌∙◌, subst, arith, ltb-true}
use Rattle.std.specs.Prelude.{IsPermutation, filter}
use Rattle.std.proofs.lemmas.Bool.{cases_Bool}
use Rattle.sd_logrec.specs.View.{Rec}
use Rattle.sd_chain.specs.Records.{Each}
use Rattle.sd_page.specs.Page.{Page}
use Rattle.sd_chain.specs.Pages.{redo, replay, FitAll}
use Rattle.sd_chain.proofs.Lists.{Each-weaker, filter-cons, filter-skip}
use Rattle.std.specs.List.Sorted.{IsNonDecreasingBy}
use Rattle.std.proofs.lemmas.List.Sorted.{IsPermutation-sym, sum_by-IsPermutation}
use Rattle.sd_chain.specs.Storage.{sorted}
use Rattle.sd_chain.proofs.Sorts.{Rising, Slow, rising_of, few_of, one, total_is, total-sorted, high, sort_is, Each-from_all}
use Rattle.sd_chain.proofs.StartMoved.{fit_to_high, fit_from_high, replay_high}

pub slow_of : (xs : List Rec) → IsNonDecreasingBy (λ x. x.lsn) xs → Slow xs
slow_of [] a = tt
slow_of (x ∷ xs) a = (
  Each-from_all (λ z. x.lsn ≤ z.lsn) xs (λ k d lt. a 0 (suc k) d (omega arith) (omega arith)),
  slow_of xs (λ i j d le lt. a (suc i) (suc j) d (omega arith) (omega arith)),
)

-- what fits rises above the floor
fit_rises : (floor : ℕ) (page : Page) (xs : List Rec) → FitAll floor page xs
    → Each (λ z. page.lsn < z.lsn) (filter (high floor) xs) × Rising (filter (high floor) xs)
fit_rises floor page [] a = (tt, tt)
fit_rises floor page (x ∷ xs) a = ⊎_elim
    (λ is.
    let up = (a.0 (ltb-true floor x.lsn is)).rises in
    let ih = fit_rises floor (redo page x) xs (subst (λ (b : Bool). FitAll floor (cond b (redo page x) page) xs) is a.1) in
    subst (λ (l : List Rec). Each (λ z. page.lsn < z.lsn) l × Rising l) (sym (filter-cons (high floor) x xs is)) (
      (up, Each-weaker (λ z. x.lsn < z.lsn) (λ z. page.lsn < z.lsn) (λ z lt. omega arith) (filter (high floor) xs) ih.0),
      (ih.0, ih.1),
    ))
    (λ is. subst (λ (l : List Rec). Each (λ z. page.lsn < z.lsn) l × Rising l) (sym (filter-skip (high floor) x xs is))
    (fit_rises floor page xs (subst (λ (b : Bool). FitAll floor (cond b (redo page x) page) xs) is a.1)))
    (cases_Bool (high floor x))

module _ (floor : ℕ) (page : Page) (xs c : List Rec) (perm : IsPermutation xs c) (slow : Slow c) where
  same_high : Rising (filter (high floor) c) → filter (high floor) c ≡ filter (high floor) (sorted xs)
  same_high rises = sort_is floor xs c perm (IsPermutation-sym xs c perm) slow rises

  pub fit_chain : FitAll floor page c → FitAll floor page (sorted xs)
  fit_chain fit = fit_from_high floor page (sorted xs)
      (subst (FitAll floor page) (same_high (fit_rises floor page c fit).1) (fit_to_high floor page c fit))

  back_rises : FitAll floor page (sorted xs) → Rising (filter (high floor) c)
  back_rises fit = rising_of floor c slow (λ n lt.
      let a = few_of floor n (sorted xs) lt (fit_rises floor page (sorted xs) fit).1 in
      let b = total-sorted (one n) xs in
      let d = total_is (one n) xs in
      let e = total_is (one n) c in
      let f = sum_by-IsPermutation (one n) xs c perm in
      omega arith)

  pub chain_fit : FitAll floor page (sorted xs) → FitAll floor page c
  chain_fit fit = fit_from_high floor page c
      (subst (FitAll floor page) (sym (same_high (back_rises fit))) (fit_to_high floor page (sorted xs) fit))

  pub replay_chain : FitAll floor page c → replay floor page c ≡ replay floor page (sorted xs)
  replay_chain fit = replay_high floor page c ∙ ap (replay floor page) (same_high (fit_rises floor page c fit).1)
      ∙ sym (replay_high floor page (sorted xs))
