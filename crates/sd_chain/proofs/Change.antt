-- A change of a page is appended.
use Rattle.std.proofs.Common.{◌≡◌, ◌≢◌, ⊎_elim, ℕ, ◌<◌, ◌≤◌, true, false, List, [], refl, sym, ap, ◌∙◌, subst}
use Rattle.std.specs.Prelude.{filter}
use Rattle.std.proofs.lemmas.Bool.{cases_Bool, cases_eq}
use Rattle.sd_logrec.specs.View.{Rec}
use Rattle.sd_base.specs.declared.ids.TxnId.{TxnId}
use Rattle.sd_chain.specs.Records.{Val, of_page, of_rid, at, changes, Each}
use Rattle.sd_base.specs.Values.{size}
use Rattle.sd_page.specs.Page.{Page}
use Rattle.sd_chain.specs.Pages.{value, capacity, redo, FitAll, FitsKind}
use Rattle.sd_chain.specs.Storage.{Storage, chain, newest, now, opens, Open, HasPlace, Linked, Alone, StackFits, Sound}
use Rattle.sd_chain.specs.Changes.{Appended, IsAbovePage}
use Rattle.sd_chain.proofs.Lists.{Each-weaker, Each-both}
use Rattle.sd_chain.proofs.Newest
use Rattle.sd_chain.proofs.Newest.{at_is, at_from, of_rid_is, of_rid_from, pages-other}
use Rattle.sd_chain.proofs.Opens
use Rattle.sd_chain.proofs.Opens.{Each-stack}
use Rattle.sd_chain.proofs.Apart.{none_at}
use Rattle.sd_base.proofs.SameIds.{cases_txn}

module _ (i : ℕ) (y : Rec) (old new : Storage) (app : Appended i y old new) (changes_it : changes y.kind ≡ true)
    (above : IsAbovePage old y) (fits : FitsKind y.kind y (newest old y.page).slots)
    (free : (t : TxnId) → t ≢ y.txn → Open old t → filter (at y.page y.slot) (opens old t) ≡ []) (sound : Sound old) where
  fit_here : FitAll (old.disk y.page).lsn (old.disk y.page) (chain old y.page)
  fit_here = sound.pages y.page

  pub newest-push : newest new y.page ≡ redo (newest old y.page) y
  newest-push = Newest.newest-push i y old new app changes_it above fit_here

  pub now-other : (p s : ℕ) → at p s y ≡ false → now new p s ≡ now old p s
  now-other = Newest.now-other i y old new app changes_it above fit_here

  pub place-kept : (x : Rec) → HasPlace (newest old x.page).slots x → HasPlace (newest new x.page).slots x
  place-kept = Newest.place-kept i y old new app changes_it above fit_here

  pub now_at : (p s : ℕ) → at p s y ≡ true → now new p s ≡ y.after
  now_at p s is =
      let e = at_is p s y is in
      sym (ap (λ (k : ℕ). now new k y.slot) e.0 ∙ ap (λ (k : ℕ). now new p k) e.1)
      ∙ Newest.now-push i y old new app changes_it above fit_here

  pub free_at : (t : TxnId) → t ≢ y.txn → Open old t → (p s : ℕ) → at p s y ≡ true → filter (at p s) (opens old t) ≡ []
  free_at t ne o p s is =
      let e = at_is p s y is in
      ap (λ (k : ℕ). filter (at k s) (opens old t)) (sym e.0) ∙ ap (λ (k : ℕ). filter (at y.page k) (opens old t)) (sym e.1)
      ∙ free t ne o

  pub pages : (p : ℕ) → FitAll (new.disk p).lsn (new.disk p) (chain new p)
  pages p = ⊎_elim
      (λ e. subst (λ (k : ℕ). FitAll (new.disk k).lsn (new.disk k) (chain new k)) (sym e)
      (Newest.pages-push i y old new app changes_it above fit_here fits))
      (λ ne. pages-other i y old new app p ne (sound.pages p))
      (cases_eq p y.page)

  pub disks : (p s : ℕ) → size (value (new.disk p).slots s) ≤ capacity (new.disk p).slots s
  disks p = subst (λ (d : Page). (s : ℕ) → size (value d.slots s) ≤ capacity d.slots s) (sym (app.disk p)) (sound.disks p)

  -- the stack of another transaction
  other_linked : (t : TxnId) → t ≢ y.txn → Open old t → (p s : ℕ) → Linked (now old p s) (filter (at p s) (opens old t))
      → Linked (now new p s) (filter (at p s) (opens old t))
  other_linked t ne o p s h = ⊎_elim
      (λ is. subst (Linked (now new p s)) (sym (free_at t ne o p s is)) tt)
      (λ is. subst (λ (v : Val). Linked v (filter (at p s) (opens old t))) (sym (now-other p s is)) h)
      (cases_Bool (at p s y))

  pub other_fits : (t : TxnId) → t ≢ y.txn → Open old t → StackFits new t
  other_fits t ne o =
      let was = sound.stacks t o in
      let same = Opens.opens-other i y old new app t ne in
      record {
        places = subst (Each (λ x. HasPlace (newest new x.page).slots x)) (sym same)
            (Each-weaker (λ x. HasPlace (newest old x.page).slots x) (λ x. HasPlace (newest new x.page).slots x) place-kept
            (opens old t) was.places);
        linked = λ p s. subst (λ (l : List Rec). Linked (now new p s) (filter (at p s) l)) (sym same)
            (other_linked t ne o p s (was.linked p s));
        alone = subst (Each (Alone new t)) (sym same)
            (Each-both (λ x. at y.page y.slot x ≡ false) (Alone old t) (Alone new t)
            (λ x no_rec h j. Opens.Each-new i y old new app (λ z. z.txn ≢ t → of_rid x.page x.slot z ≡ true → z.lsn < x.lsn) j
            (h j) (λ ne is. let e = of_rid_is x.page x.slot y is in let c = at_from y.page y.slot x (sym e.1) (sym e.2) in
            absurd (cc))) (opens old t) (none_at y.page y.slot (opens old t) (free t ne o)) was.alone);
      }

  -- it is alone where it was, since the new record is its transaction's
  pub alone-own : (x : Rec) → Alone old y.txn x → Alone new y.txn x
  alone-own x h j = Opens.Each-new i y old new app (λ z. z.txn ≢ y.txn → of_rid x.page x.slot z ≡ true → z.lsn < x.lsn) j (h j)
      (λ ne. absurd (ne refl))

  -- the new record is above all of its page
  pub alone-new : Alone new y.txn y
  alone-new j =
      Opens.Each-new i y old new app (λ z. z.txn ≢ y.txn → of_rid y.page y.slot z ≡ true → z.lsn < y.lsn) j
      (Each-weaker (λ z. of_page y.page z ≡ true → z.lsn < y.lsn)
      (λ z. z.txn ≢ y.txn → of_rid y.page y.slot z ≡ true → z.lsn < y.lsn) (λ z h ne is. h (of_rid_is y.page y.slot z is).0)
      (old.logs j) (above.records j)) (λ ne. absurd (ne refl))

  pub sound-new : StackFits new y.txn → Sound new
  sound-new own_fits = record {
    disks = disks;
    pages = pages;
    stacks = λ t o. ⊎_elim
        (λ e. subst (StackFits new) (sym e) own_fits)
        (λ ne. other_fits t ne (Opens.Open-old i y old new app t o))
        (cases_txn t y.txn);
  }
