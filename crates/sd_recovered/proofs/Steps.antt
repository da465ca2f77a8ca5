-- Records taken back one after another, and a list of them after another. It serves taking_back.rt.
use Rattle.std.proofs.Common.{◌≡◌, ◌≢◌, ⊎_elim, ◌<◌, ℕ, zero, suc, Bool, true, false, cond, eqb, ◌&&◌, List, [], ◌∷◌, ◌++◌, Some, length, slice_get, slice_set, refl, sym, ap, subst, ◌∙◌, arith, eq-eqb, ne_eqb}
use Rattle.std.proofs.lemmas.Bool.{cases_eq}
use Rattle.sd_base.specs.declared.ids.TxnId.{TxnId}
use Rattle.sd_page.specs.Page.{Page, Slot}
use Rattle.sd_logrec.specs.View.{Rec}
use Rattle.sd_logrec.specs.View.Kind.{Update}
use Rattle.sd_chain.specs.Records.{Val}
use Rattle.sd_chain.specs.Pages.{value, write}
use Rattle.sd_chain.specs.Storage.{HasPlace}
use Rattle.sd_chain.specs.Undoing.{EachFound, undo_all, undo_one}
use Rattle.sd_recovered.specs.Values.{SameShape, SameSlots, slots_in, values_in}
use Rattle.sd_recovered.specs.Taking.{Holds, MayTake, Taken}
use Rattle.sd_recovered.proofs.Rows.{slots-here}
use Rattle.sd_recovered.proofs.Slots.{same-written}
use Rattle.sd_chain.proofs.Slots.{value-write_other, value-write_same}
use Rattle.sd_chain.proofs.Lists.{Each-append, Each-front, Each-back, Each-weaker}

pub undo_all-append : (f : ℕ → ℕ → Val) (xs ys : List Rec) → undo_all f (xs ++ ys) ≡ undo_all (undo_all f xs) ys
undo_all-append f [] ys = refl
undo_all-append f (x ∷ xs) ys = undo_all-append (undo_one f x) xs ys

pub found-append : (f : ℕ → ℕ → Val) (xs ys : List Rec) → EachFound f xs → EachFound (undo_all f xs) ys → EachFound f (xs ++ ys)
found-append f [] ys a b = b
found-append f (x ∷ xs) ys a b = (a.0, found-append (undo_one f x) xs ys a.1 b)

pub found-front : (f : ℕ → ℕ → Val) (xs ys : List Rec) → EachFound f (xs ++ ys) → EachFound f xs
found-front f [] ys a = tt
found-front f (x ∷ xs) ys a = (a.0, found-front (undo_one f x) xs ys a.1)

pub found-back : (f : ℕ → ℕ → Val) (xs ys : List Rec) → EachFound f (xs ++ ys) → EachFound (undo_all f xs) ys
found-back f [] ys a = a
found-back f (x ∷ xs) ys a = found-back (undo_one f x) xs ys a.1

-- a slot of pages of the same shape
place-there : (a b : List Page) (x : Rec) → SameShape a b → HasPlace (slots_in b x.page) x → HasPlace (slots_in a x.page) x
place-there a b x same h = let here = same x.page in let count = here.count in let own = here.capacities x.slot in
    let slot = h.slot in let room = h.room in record { slot = omega (arith, count, slot); room = omega (arith, own, room) }

place-back : (a b : List Page) (x : Rec) → SameShape a b → HasPlace (slots_in a x.page) x → HasPlace (slots_in b x.page) x
place-back a b x same h = let here = same x.page in let count = here.count in let own = here.capacities x.slot in
    let slot = h.slot in let room = h.room in record { slot = omega (arith, count, slot); room = omega (arith, own, room) }

pub shape-same : (a : List Page) → SameShape a a
shape-same a p = record { count = refl; capacities = λ s. refl }

shape-both : (a b c : List Page) → SameShape a b → SameShape b c → SameShape a c
shape-both a b c one two p = record {
  count = (two p).count ∙ (one p).count;
  capacities = λ s. (two p).capacities s ∙ (one p).capacities s;
}

module _ (top : TxnId → ℕ → ℕ → ℕ) where
  pub takes-none : (a : List Page) → MayTake a top []
  takes-none a = record { kinds = tt; found = tt; places = tt; last = tt }

  pub takes-append : (a b : List Page) (xs ys : List Rec) → MayTake a top xs → Taken a b xs → MayTake b top ys → MayTake a top (xs ++ ys)
  takes-append a b xs ys m t n = record {
    kinds = Each-append (λ x. x.kind ≡ Update) xs ys m.kinds n.kinds;
    found = found-append (values_in a) xs ys m.found (subst (λ (f : ℕ → ℕ → Val). EachFound f ys) t.values n.found);
    places = Each-append (λ x. HasPlace (slots_in a x.page) x) xs ys m.places
        (Each-weaker (λ x. HasPlace (slots_in b x.page) x) (λ x. HasPlace (slots_in a x.page) x)
        (λ x. place-there a b x t.shape) ys n.places);
    last = Each-append (λ x. top x.txn x.page x.slot < x.lsn) xs ys m.last n.last;
  }

  pub takes-front : (a : List Page) (xs ys : List Rec) → MayTake a top (xs ++ ys) → MayTake a top xs
  takes-front a xs ys m = record {
    kinds = Each-front (λ x. x.kind ≡ Update) xs ys m.kinds;
    found = found-front (values_in a) xs ys m.found;
    places = Each-front (λ x. HasPlace (slots_in a x.page) x) xs ys m.places;
    last = Each-front (λ x. top x.txn x.page x.slot < x.lsn) xs ys m.last;
  }

  pub takes-back : (a b : List Page) (xs ys : List Rec) → Taken a b xs → MayTake a top (xs ++ ys) → MayTake b top ys
  takes-back a b xs ys t m = record {
    kinds = Each-back (λ x. x.kind ≡ Update) xs ys m.kinds;
    found = subst (λ (f : ℕ → ℕ → Val). EachFound f ys) (sym t.values) (found-back (values_in a) xs ys m.found);
    places = Each-weaker (λ x. HasPlace (slots_in a x.page) x) (λ x. HasPlace (slots_in b x.page) x)
        (λ x. place-back a b x t.shape) ys (Each-back (λ x. HasPlace (slots_in a x.page) x) xs ys m.places);
    last = Each-back (λ x. top x.txn x.page x.slot < x.lsn) xs ys m.last;
  }

pub taken-none : (a : List Page) → Taken a a []
taken-none a = record { values = refl; shape = shape-same a }

pub taken-append : (a b c : List Page) (xs ys : List Rec) → Taken a b xs → Taken b c ys → Taken a c (xs ++ ys)
taken-append a b c xs ys t u = record {
  values = u.values ∙ ap (λ (f : ℕ → ℕ → Val). undo_all f ys) t.values ∙ sym (undo_all-append (values_in a) xs ys);
  shape = shape-both a b c t.shape u.shape;
}

-- one record
slots-set_same : (pages : List Page) (p : ℕ) (page new : Page) → slice_get pages p ≡ Some page
    → slots_in (slice_set pages p new) p ≡ new.slots
slots-set_same [] p page new is = absurd (cc)
slots-set_same (y ∷ ys) zero page new is = refl
slots-set_same (y ∷ ys) (suc p) page new is = slots-set_same ys p page new is

slots-set_other : (pages : List Page) (p q : ℕ) (new : Page) → p ≢ q → slots_in (slice_set pages p new) q ≡ slots_in pages q
slots-set_other [] p q new ne = refl
slots-set_other (y ∷ ys) zero zero new ne = absurd (ne refl)
slots-set_other (y ∷ ys) zero (suc q) new ne = refl
slots-set_other (y ∷ ys) (suc p) zero new ne = refl
slots-set_other (y ∷ ys) (suc p) (suc q) new ne = slots-set_other ys p q new (λ e. ne (ap suc e))

and_false : (a : Bool) → (a && false) ≡ false
and_false true = refl
and_false false = refl

module _ (pages : List Page) (x : Rec) (page new : Page) (here : slice_get pages x.page ≡ Some page)
    (slot : x.slot < length page.slots) (put : new.slots ≡ write page.slots x.slot 0 x.before) where
  slots-after : slots_in (slice_set pages x.page new) x.page ≡ write (slots_in pages x.page) x.slot 0 x.before
  slots-after = slots-set_same pages x.page page new here ∙ put
      ∙ ap (λ (slots : List Slot). write slots x.slot 0 x.before) (sym (slots-here pages x.page page here))

  value-after : (p s : ℕ) → values_in (slice_set pages x.page new) p s ≡ undo_one (values_in pages) x p s
  value-after p s = ⊎_elim
      (λ e. ap (λ (q : ℕ). values_in (slice_set pages x.page new) q s) (sym e)
      ∙ ap (λ (slots : List Slot). value slots s) slots-after
      ∙ ⊎_elim
      (λ f. ap (λ (k : ℕ). value (write (slots_in pages x.page) x.slot 0 x.before) k) (sym f)
      ∙ value-write_same (slots_in pages x.page) x.slot 0 x.before
      ∙ sym (ap (λ (b : Bool). cond (b && eqb x.slot s) x.before (values_in pages p s)) (eq-eqb x.page p e)
      ∙ ap (λ (b : Bool). cond b x.before (values_in pages p s)) (eq-eqb x.slot s f)))
      (λ ne. value-write_other (slots_in pages x.page) x.slot s 0 x.before ne
      ∙ ap (λ (q : ℕ). values_in pages q s) e
      ∙ sym (ap (λ (b : Bool). cond b x.before (values_in pages p s))
      ((let e : eqb x.slot s ≡ false = ne_eqb x.slot s ne in ap (λ (b : Bool). eqb x.page p && b) e) ∙ and_false (eqb x.page p))))
      (cases_eq x.slot s))
      (λ ne. ap (λ (slots : List Slot). value slots s) (slots-set_other pages x.page p new ne)
      ∙ sym (let e : eqb x.page p ≡ false = ne_eqb x.page p ne in
      ap (λ (b : Bool). cond (b && eqb x.slot s) x.before (values_in pages p s)) e))
      (cases_eq x.page p)

  same-slots : (p : ℕ) → SameSlots (slots_in pages p) (slots_in (slice_set pages x.page new) p)
  same-slots p = ⊎_elim
      (λ e. subst (λ (q : ℕ). SameSlots (slots_in pages q) (slots_in (slice_set pages x.page new) q)) e
      (subst (SameSlots (slots_in pages x.page)) (sym slots-after)
      (same-written (slots_in pages x.page) x.slot 0 x.before
      (subst (λ (slots : List Slot). x.slot < length slots) (sym (slots-here pages x.page page here)) slot))))
      (λ ne. subst (SameSlots (slots_in pages p)) (sym (slots-set_other pages x.page p new ne))
      (record { count = refl; capacities = λ s. refl }))
      (cases_eq x.page p)

  pub taken-one : Taken pages (slice_set pages x.page new) (x ∷ [])
  taken-one = record { values = λ i p s. value-after p s i; shape = same-slots }

-- a record that may be taken back stands in its slot
pub holds-one : (pages : List Page) (top : TxnId → ℕ → ℕ → ℕ) (x : Rec) (page : Page) → slice_get pages x.page ≡ Some page
    → MayTake pages top (x ∷ []) → Holds page.slots x.slot x.before x.after
holds-one pages top x page here m =
    subst (λ (slots : List Slot). Holds slots x.slot x.before x.after) (slots-here pages x.page page here)
    (record { slot = m.places.0.slot; room = m.places.0.room; found = m.found.0 })

pub takes-one : (pages : List Page) (top : TxnId → ℕ → ℕ → ℕ) (x : Rec) (page : Page) → slice_get pages x.page ≡ Some page
    → x.kind ≡ Update → top x.txn x.page x.slot < x.lsn → Holds page.slots x.slot x.before x.after → MayTake pages top (x ∷ [])
takes-one pages top x page here kind lt h =
    let g = subst (λ (slots : List Slot). Holds slots x.slot x.before x.after) (sym (slots-here pages x.page page here)) h in
    record {
      kinds = (kind, tt);
      found = (g.found, tt);
      places = (record { slot = g.slot; room = g.room }, tt);
      last = (lt, tt);
    }
