-- What one more record does to a page's chain and newest version.
use Rattle.std.proofs.Common.{◌≡◌, ◌≢◌, ⊎_elim, ℕ, zero, suc, ◌<◌, ◌≤◌, true, false, cond, ltb, List, [], ◌∷◌, ◌++◌, refl, sym, ap, ◌∙◌, subst, arith, append_assoc, ltb-true, ltb-false}
use Rattle.std.specs.Prelude.{filter}
use Rattle.std.proofs.lemmas.Bool.{cases_eq}
use Rattle.std.proofs.lemmas.List.Elements.{filter-append}
use Rattle.sd_logrec.specs.View.{Rec}
use Rattle.sd_chain.specs.Records.{of_page, Each}
use Rattle.sd_page.specs.Page.{Page}
use Rattle.sd_chain.specs.Pages.{redo, replay, FitAll}
use Rattle.sd_chain.specs.Storage.{Storage, sorted, all_of, chain}
use Rattle.sd_chain.specs.Changes.{Appended}
use Rattle.sd_chain.proofs.Lists.{Each-append, Each-front, Each-back, Each-filter, filter-cons, filter-skip, sorted_last, all_of-same, cond_both}

pub Each-all_of : (P : Rec → Type 0) (logs : ℕ → List Rec) (n : ℕ) → ((j : ℕ) → Each P (logs j)) → Each P (all_of logs n)
unfolding all_of
Each-all_of P logs zero f = tt
Each-all_of P logs (suc n) f = Each-append P (logs n) (all_of logs n) (f n) (Each-all_of P logs n f)

-- the new record stands somewhere in the records of all logs
pub record Split (y : Rec) (xs ys : List Rec) : Type 0 where
  pub front : List Rec
  pub back : List Rec
  pub old : xs ≡ front ++ back
  pub new : ys ≡ front ++ y ∷ back

split_here : (i n : ℕ) (y : Rec) (logs logs' : ℕ → List Rec) (xs xs' : List Rec) → n ≡ i → logs' i ≡ logs i ++ y ∷ [] → xs' ≡ xs
    → Split y (logs n ++ xs) (logs' n ++ xs')
split_here i n y logs logs' xs xs' e here same = record {
  front = logs n;
  back = xs;
  old = refl;
  new = ap (λ (k : ℕ). logs' k ++ xs') e ∙ ap (λ (l : List Rec). l ++ xs') here ∙ append_assoc (logs i) (y ∷ []) xs'
      ∙ ap (λ (l : List Rec). logs i ++ y ∷ l) same ∙ ap (λ (k : ℕ). logs k ++ y ∷ xs) (sym e);
}

split_below : (y : Rec) (front front' xs xs' : List Rec) → front' ≡ front → Split y xs xs' → Split y (front ++ xs) (front' ++ xs')
split_below y front front' xs xs' same s = record {
  front = front ++ s.front;
  back = s.back;
  old = ap (λ (l : List Rec). front ++ l) s.old ∙ sym (append_assoc front s.front s.back);
  new = ap (λ (l : List Rec). l ++ xs') same ∙ ap (λ (l : List Rec). front ++ l) s.new
      ∙ sym (append_assoc front s.front (y ∷ s.back));
}

pub all_of-split : (i : ℕ) (y : Rec) (logs logs' : ℕ → List Rec) (n : ℕ) → i < n → logs' i ≡ logs i ++ y ∷ []
    → ((j : ℕ) → j ≢ i → logs' j ≡ logs j) → Split y (all_of logs n) (all_of logs' n)
unfolding all_of
all_of-split i y logs logs' zero lt here others = absurd (omega arith)
all_of-split i y logs logs' (suc n) lt here others =
    ⊎_elim
    (λ e. split_here i n y logs logs' (all_of logs n) (all_of logs' n) e here
    (all_of-same logs logs' n (λ j lt. others j (omega arith))))
    (λ ne. split_below y (logs n) (logs' n) (all_of logs n) (all_of logs' n) (others n ne)
    (all_of-split i y logs logs' n (omega arith) here others))
    (cases_eq n i)

-- a record of another page, or of none, leaves the chain
pub chain-other : (i : ℕ) (y : Rec) (old new : Storage) → Appended i y old new → (p : ℕ) → of_page p y ≡ false
    → chain new p ≡ chain old p
unfolding chain
chain-other i y old new app p not_its =
    let s = all_of-split i y old.logs new.logs 9 app.inside app.here app.others in
    ap sorted (ap (filter (of_page p)) s.new ∙ filter-append (of_page p) s.front (y ∷ s.back)
    ∙ ap (λ (l : List Rec). filter (of_page p) s.front ++ l) (filter-skip (of_page p) y s.back not_its)
    ∙ sym (filter-append (of_page p) s.front s.back) ∙ ap (filter (of_page p)) (sym s.old))

-- a record above those of its page stands at the end of the chain
pub chain-push : (i : ℕ) (y : Rec) (old new : Storage) → Appended i y old new → (p : ℕ) → of_page p y ≡ true
    → ((j : ℕ) → Each (λ x. of_page p x ≡ true → x.lsn < y.lsn) (old.logs j)) → chain new p ≡ chain old p ++ y ∷ []
unfolding chain
chain-push i y old new app p its above =
    let s = all_of-split i y old.logs new.logs 9 app.inside app.here app.others in
    let P = λ (x : Rec). of_page p x ≡ true → x.lsn < y.lsn in
    let all : Each P (s.front ++ s.back) = subst (Each P) s.old (Each-all_of P old.logs 9 above) in
    let front = Each-filter (λ (x : Rec). x.lsn < y.lsn) (of_page p) s.front (Each-front P s.front s.back all) in
    let back = Each-filter (λ (x : Rec). x.lsn < y.lsn) (of_page p) s.back (Each-back P s.front s.back all) in
    ap sorted (ap (filter (of_page p)) s.new ∙ filter-append (of_page p) s.front (y ∷ s.back)
    ∙ ap (λ (l : List Rec). filter (of_page p) s.front ++ l) (filter-cons (of_page p) y s.back its))
    ∙ sorted_last y (filter (of_page p) s.front) (filter (of_page p) s.back) front back
    ∙ ap (λ (l : List Rec). sorted l ++ y ∷ [])
    (sym (filter-append (of_page p) s.front s.back) ∙ ap (filter (of_page p)) (sym s.old))

-- replay of one more record
pub replay-append : (floor : ℕ) (page : Page) (xs ys : List Rec)
    → replay floor page (xs ++ ys) ≡ replay floor (replay floor page xs) ys
replay-append floor page [] ys = refl
replay-append floor page (x ∷ xs) ys = replay-append floor (cond (ltb floor x.lsn) (redo page x) page) xs ys

pub FitAll-append : (floor : ℕ) (page : Page) (xs ys : List Rec) → FitAll floor page xs → FitAll floor (replay floor page xs) ys
    → FitAll floor page (xs ++ ys)
FitAll-append floor page [] ys a b = b
FitAll-append floor page (x ∷ xs) ys a b = (a.0, FitAll-append floor (cond (ltb floor x.lsn) (redo page x) page) xs ys a.1 b)

pub FitAll-front : (floor : ℕ) (page : Page) (xs ys : List Rec) → FitAll floor page (xs ++ ys) → FitAll floor page xs
FitAll-front floor page [] ys a = tt
FitAll-front floor page (x ∷ xs) ys a = (a.0, FitAll-front floor (cond (ltb floor x.lsn) (redo page x) page) xs ys a.1)

pub FitAll-back : (floor : ℕ) (page : Page) (xs ys : List Rec) → FitAll floor page (xs ++ ys)
    → FitAll floor (replay floor page xs) ys
FitAll-back floor page [] ys a = a
FitAll-back floor page (x ∷ xs) ys a = FitAll-back floor (cond (ltb floor x.lsn) (redo page x) page) xs ys a.1

-- a fitting list raises the LSN to each of its records
pub replay_rises : (floor : ℕ) (page : Page) (xs : List Rec) → floor ≤ page.lsn → FitAll floor page xs
    → (page.lsn ≤ (replay floor page xs).lsn) × Each (λ x. x.lsn ≤ (replay floor page xs).lsn) xs
replay_rises floor page [] le a = (omega arith, tt)
replay_rises floor page (x ∷ xs) le a =
    let page' = cond (ltb floor x.lsn) (redo page x) page in
    let step : (page.lsn ≤ page'.lsn)
    × (x.lsn ≤ page'.lsn) =
    cond_both (λ (q : Page). (page.lsn ≤ q.lsn) × (x.lsn ≤ q.lsn)) (ltb floor x.lsn) (redo page x) page
    (λ is. let rises = (a.0 (ltb-true floor x.lsn is)).rises in (omega arith, omega arith))
    (λ is. let low = ltb-false floor x.lsn is in (omega arith, omega arith)) in
    let ih = replay_rises floor page' xs (omega arith) a.1 in
    (omega arith, (omega arith, ih.1))
