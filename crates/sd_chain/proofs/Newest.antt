-- What one more record does to a page's newest version.
use Rattle.std.proofs.Common.{◌≡◌, ◌≢◌, ⊎_elim, ℕ, ◌<◌, Bool, true, false, cond, eqb, ◌&&◌, [], ◌∷◌, ◌++◌, refl, sym, ap, ◌∙◌, subst, arith, lt-ltb, eq-eqb, ne_eqb, eqb-true}
use Rattle.std.proofs.lemmas.Bool.{cases_eq}
use Rattle.sd_logrec.specs.View.{Rec}
use Rattle.sd_chain.specs.Records.{of_page, of_rid, at, changes}
use Rattle.sd_page.specs.Page.{Page}
use Rattle.sd_chain.specs.Pages.{value, redo, replay, FitAll, FitsKind}
use Rattle.sd_chain.specs.Storage.{Storage, chain, newest, now, HasPlace}
use Rattle.sd_chain.specs.Changes.{Appended, IsAbovePage}
use Rattle.sd_chain.proofs.Chains.{chain-other, chain-push, replay-append, replay_rises, FitAll-append}
use Rattle.sd_chain.proofs.Slots.{value-write_same, value-write_other, length-write, capacity-write}

pub and_true : (a b : Bool) → (a && b) ≡ true → (a ≡ true) × (b ≡ true)
and_true true b e = (refl, e)
and_true false b e = absurd (cc)

pub at_is : (p s : ℕ) (x : Rec) → at p s x ≡ true → (x.page ≡ p) × (x.slot ≡ s)
at_is p s x e = let both = and_true (eqb x.page p) (eqb x.slot s) e in (eqb-true x.page p both.0, eqb-true x.slot s both.1)

pub at_from : (p s : ℕ) (x : Rec) → x.page ≡ p → x.slot ≡ s → at p s x ≡ true
at_from p s x e f = rw (eq-eqb x.page p e, eq-eqb x.slot s f) refl

pub of_rid_is : (p s : ℕ) (x : Rec) → of_rid p s x ≡ true → (of_page p x ≡ true) × (x.page ≡ p) × (x.slot ≡ s)
of_rid_is p s x e =
    let both = and_true (of_page p x) (eqb x.slot s) e in
    let page = and_true (changes x.kind) (eqb x.page p) both.0 in
    (both.0, eqb-true x.page p page.1, eqb-true x.slot s both.1)

pub of_rid_from : (p s : ℕ) (x : Rec) → changes x.kind ≡ true → x.page ≡ p → x.slot ≡ s → of_rid p s x ≡ true
of_rid_from p s x k e f = rw (k, eq-eqb x.page p e, eq-eqb x.slot s f) refl

pub of_page_from : (p : ℕ) (x : Rec) → changes x.kind ≡ true → x.page ≡ p → of_page p x ≡ true
of_page_from p x k e = rw (k, eq-eqb x.page p e) refl

of_page_ne : (p : ℕ) (x : Rec) → p ≢ x.page → of_page p x ≡ false
of_page_ne p x ne = let e : eqb x.page p ≡ false = ne_eqb x.page p (λ e. ne (sym e)) in rw e (and_false (changes x.kind))
  where
    and_false : (a : Bool) → (a && false) ≡ false
    and_false true = refl
    and_false false = refl

of_page_none : (p : ℕ) (x : Rec) → changes x.kind ≡ false → of_page p x ≡ false
of_page_none p x k = rw k refl

module _ (i : ℕ) (y : Rec) (old new : Storage) (app : Appended i y old new) where
  newest_kept : (p : ℕ) → of_page p y ≡ false → newest new p ≡ newest old p
  unfolding newest
  newest_kept p other =
      ap (λ (d : Page). replay d.lsn d (chain new p)) (app.disk p)
      ∙ ap (replay (old.disk p).lsn (old.disk p)) (chain-other i y old new app p other)

  pages_kept : (p : ℕ) → of_page p y ≡ false → FitAll (old.disk p).lsn (old.disk p) (chain old p)
      → FitAll (new.disk p).lsn (new.disk p) (chain new p)
  pages_kept p other fit =
      subst (λ (d : Page). FitAll d.lsn d (chain new p)) (sym (app.disk p))
      (subst (FitAll (old.disk p).lsn (old.disk p)) (sym (chain-other i y old new app p other)) fit)

  pub newest-other : (p : ℕ) → p ≢ y.page → newest new p ≡ newest old p
  newest-other p ne = newest_kept p (of_page_ne p y ne)

  pub pages-other : (p : ℕ) → p ≢ y.page → FitAll (old.disk p).lsn (old.disk p) (chain old p)
      → FitAll (new.disk p).lsn (new.disk p) (chain new p)
  pages-other p ne = pages_kept p (of_page_ne p y ne)

  -- a record without a page
  pub newest-none : changes y.kind ≡ false → (p : ℕ) → newest new p ≡ newest old p
  newest-none k p = newest_kept p (of_page_none p y k)

  pub pages-none : changes y.kind ≡ false → (p : ℕ) → FitAll (old.disk p).lsn (old.disk p) (chain old p)
      → FitAll (new.disk p).lsn (new.disk p) (chain new p)
  pages-none k p = pages_kept p (of_page_none p y k)

  pub pages_none_back : changes y.kind ≡ false → (p : ℕ) → FitAll (new.disk p).lsn (new.disk p) (chain new p)
      → FitAll (old.disk p).lsn (old.disk p) (chain old p)
  pages_none_back k p fit =
      subst (FitAll (old.disk p).lsn (old.disk p)) (chain-other i y old new app p (of_page_none p y k))
      (subst (λ (d : Page). FitAll d.lsn d (chain new p)) (app.disk p) fit)

  -- a record of the page
  module _ (changes_it : changes y.kind ≡ true) (above : IsAbovePage old y)
      (fit : FitAll (old.disk y.page).lsn (old.disk y.page) (chain old y.page)) where
    pushed : chain new y.page ≡ chain old y.page ++ y ∷ []
    pushed = chain-push i y old new app y.page (of_page_from y.page y changes_it refl) above.records

    pub above_floor : (old.disk y.page).lsn < y.lsn
    unfolding newest
    above_floor = let r = replay_rises (old.disk y.page).lsn (old.disk y.page) (chain old y.page) (omega arith) fit in
        omega (arith, r.0, above.page)

    pub newest-push : newest new y.page ≡ redo (newest old y.page) y
    unfolding newest
    newest-push =
        let d = old.disk y.page in
        let c = chain old y.page in
        ap (λ (d : Page). replay d.lsn d (chain new y.page)) (app.disk y.page) ∙ ap (replay d.lsn d) pushed
        ∙ replay-append d.lsn d c (y ∷ [])
        ∙ ap (λ (b : Bool). cond b (redo (replay d.lsn d c) y) (replay d.lsn d c)) (lt-ltb d.lsn y.lsn above_floor)

    pub pages-push : FitsKind y.kind y (newest old y.page).slots
        → FitAll (new.disk y.page).lsn (new.disk y.page) (chain new y.page)
    unfolding newest
    pages-push found =
        let d = old.disk y.page in
        subst (λ (d : Page). FitAll d.lsn d (chain new y.page)) (sym (app.disk y.page))
        (subst (FitAll d.lsn d) (sym pushed)
        (FitAll-append d.lsn d (chain old y.page) (y ∷ []) fit ((λ lt. record { rises = above.page; found = found }), tt)))

    pub now-push : now new y.page y.slot ≡ y.after
    now-push = ap (λ (q : Page). value q.slots y.slot) newest-push
        ∙ value-write_same (newest old y.page).slots y.slot y.cap y.after

    pub now-other : (p s : ℕ) → at p s y ≡ false → now new p s ≡ now old p s
    now-other p s ne = ⊎_elim
        (λ e. ap (λ (k : ℕ). now new k s) e ∙ ap (λ (q : Page). value q.slots s) newest-push
        ∙ value-write_other (newest old y.page).slots y.slot s y.cap y.after (λ f. clash (at_from p s y (sym e) f))
        ∙ ap (λ (k : ℕ). now old k s) (sym e))
        (λ e. ap (λ (q : Page). value q.slots s) (newest-other p e))
        (cases_eq p y.page)
      where
        clash : at p s y ≡ true → ⊥
        clash e = let f = ne in (cc)

    -- a slot stays, and its capacity
    pub place-kept : (x : Rec) → HasPlace (newest old x.page).slots x → HasPlace (newest new x.page).slots x
    place-kept x h = ⊎_elim
        (λ e. subst (λ (k : ℕ). HasPlace (newest new k).slots x) (sym e)
        (subst (λ (q : Page). HasPlace q.slots x) (sym newest-push)
        (grown (subst (λ (k : ℕ). HasPlace (newest old k).slots x) e h))))
        (λ e. subst (λ (q : Page). HasPlace q.slots x) (sym (newest-other x.page e)) h)
        (cases_eq x.page y.page)
      where
        grown : HasPlace (newest old y.page).slots x → HasPlace (redo (newest old y.page) y).slots x
        grown h = record {
          slot = let l = length-write (newest old y.page).slots y.slot y.cap y.after in omega (arith, l.0, h.slot);
          room = rw (capacity-write (newest old y.page).slots y.slot x.slot y.cap y.after h.slot) h.room;
        }
