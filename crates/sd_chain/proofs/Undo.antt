-- The undo of the top of a stack is appended.
use Rattle.std.proofs.Common.{◌≡◌, ◌≢◌, inl, inr, ⊎_elim, ℕ, ◌<◌, ◌≤◌, true, false, List, [], ◌∷◌, length, refl, sym, ap, ◌∙◌, subst, arith}
use Rattle.std.specs.Prelude.{filter}
use Rattle.std.proofs.lemmas.Bool.{cases_Bool}
use Rattle.sd_logrec.specs.View.{Rec, Kind}
use Rattle.sd_base.specs.declared.ids.TxnId.{TxnId}
use Rattle.sd_chain.specs.Records.{Val, at, changes, ends, Each, home, moved, rest}
use Rattle.sd_base.specs.Values.{size}
use Rattle.sd_chain.specs.Pages.{capacity, FitsKind}
use Rattle.sd_chain.specs.Storage.{Storage, newest, now, opens, Open, HasPlace, Linked, undone, Alone, StackFits, Sound, Recovered}
use Rattle.sd_chain.specs.Changes.{Appended, CanUndo}
use Rattle.sd_chain.proofs.Lists.{Each-weaker, filter-cons, filter-skip}
use Rattle.sd_chain.proofs.Newest.{at_is, at_from}
use Rattle.sd_chain.proofs.Opens
use Rattle.sd_chain.proofs.Opens.{Each-stack}
use Rattle.sd_chain.proofs.Apart.{Recovered-same, apart, nil_or}
use Rattle.sd_chain.proofs.Change
use Rattle.sd_base.proofs.SameIds.{cases_txn}

module _ (i : ℕ) (y top : Rec) (below : List Rec) (old new : Storage) (app : Appended i y old new) (own : home y.txn ≡ i)
    (can : CanUndo old y top below) (sound : Sound old) where
  changes_it : changes y.kind ≡ true
  changes_it = ap changes can.kind

  was : StackFits old y.txn
  was = sound.stacks y.txn can.runs

  top_place : HasPlace (newest old top.page).slots top
  top_place = (subst (Each (λ x. HasPlace (newest old x.page).slots x)) can.stack was.places).0

  fits : FitsKind y.kind y (newest old y.page).slots
  fits = subst (λ (k : Kind). FitsKind k y (newest old y.page).slots) (sym can.kind) (record {
    place = subst (λ (p : ℕ). y.slot < length (newest old p).slots) (sym can.page)
        (let e = can.slot in omega (arith, top_place.slot, e));
    within = subst (λ (v : Val). size v ≤ capacity (newest old y.page).slots y.slot) (sym can.value)
        (subst (λ (p : ℕ). size top.before ≤ capacity (newest old p).slots y.slot) (sym can.page)
        (subst (λ (s : ℕ). size top.before ≤ capacity (newest old top.page).slots s) (sym can.slot) top_place.room));
  })

  top_at : (p s : ℕ) → at p s y ≡ true → at p s top ≡ true
  top_at p s is = let e = at_is p s y is in at_from p s top (sym can.page ∙ e.0) (sym can.slot ∙ e.1)

  top_off : (p s : ℕ) → at p s y ≡ false → at p s top ≡ false
  top_off p s is = ⊎_elim
      (λ it. let e = at_is p s top it in let c = at_from p s y (can.page ∙ e.0) (can.slot ∙ e.1) in absurd (cc)) (λ no_it. no_it)
      (cases_Bool (at p s top))

  old_at : (p s : ℕ) → at p s y ≡ true → filter (at p s) (opens old y.txn) ≡ top ∷ filter (at p s) below
  old_at p s is = ap (filter (at p s)) can.stack ∙ filter-cons (at p s) top below (top_at p s is)

  old_off : (p s : ℕ) → at p s y ≡ false → filter (at p s) (opens old y.txn) ≡ filter (at p s) below
  old_off p s is = ap (filter (at p s)) can.stack ∙ filter-skip (at p s) top below (top_off p s is)

  free : (t : TxnId) → t ≢ y.txn → Open old t → filter (at y.page y.slot) (opens old t) ≡ []
  free t ne o = apart old sound y.page y.slot y.txn t (λ e. ne (sym e)) can.runs o
      (λ none. let c = sym (old_at y.page y.slot (at_from y.page y.slot y refl refl)) ∙ none in absurd (cc))

  now-other : (p s : ℕ) → at p s y ≡ false → now new p s ≡ now old p s
  now-other = Change.now-other i y old new app changes_it can.above fits free sound

  now_at : (p s : ℕ) → at p s y ≡ true → now new p s ≡ top.before
  now_at p s is = Change.now_at i y old new app changes_it can.above fits free sound p s is ∙ can.value

  stacked : opens new y.txn ≡ below
  stacked = Opens.opens-own i y old new app own ∙ ap (λ (k : Kind). moved k y (opens old y.txn)) can.kind ∙ ap rest can.stack

  own_linked : (p s : ℕ) → Linked (now old p s) (filter (at p s) (opens old y.txn)) → Linked (now new p s) (filter (at p s) below)
  own_linked p s h = ⊎_elim
      (λ is. let l : Linked (now old p s) (top ∷ filter (at p s) below) = subst (Linked (now old p s)) (old_at p s is) h in
      subst (λ (v : Val). Linked v (filter (at p s) below)) (sym (now_at p s is)) l.1)
      (λ is. subst (λ (v : Val). Linked v (filter (at p s) below)) (sym (now-other p s is))
      (subst (Linked (now old p s)) (old_off p s is) h))
      (cases_Bool (at p s y))

  own_fits : StackFits new y.txn
  own_fits = record {
    places = subst (Each (λ x. HasPlace (newest new x.page).slots x)) (sym stacked)
        (Each-weaker (λ x. HasPlace (newest old x.page).slots x) (λ x. HasPlace (newest new x.page).slots x)
        (Change.place-kept i y old new app changes_it can.above fits free sound) below
        (subst (Each (λ x. HasPlace (newest old x.page).slots x)) can.stack was.places).1);
    linked = λ p s. subst (λ (l : List Rec). Linked (now new p s) (filter (at p s) l)) (sym stacked)
        (own_linked p s (was.linked p s));
    alone = subst (Each (Alone new y.txn)) (sym stacked)
        (Each-weaker (Alone old y.txn) (Alone new y.txn)
        (Change.alone-own i y old new app changes_it can.above fits free sound) below
        (subst (Each (Alone old y.txn)) can.stack was.alone).1);
  }

  pub undo-sound : Sound new
  undo-sound = Change.sound-new i y old new app changes_it can.above fits free sound own_fits

  off_at : (p s : ℕ) → at p s y ≡ false → (t : TxnId) → filter (at p s) (opens new t) ≡ filter (at p s) (opens old t)
  off_at p s is t = ⊎_elim
      (λ e. ap (λ (k : TxnId). filter (at p s) (opens new k)) e ∙ ap (filter (at p s)) stacked ∙ sym (old_off p s is)
      ∙ ap (λ (k : TxnId). filter (at p s) (opens old k)) (sym e))
      (λ ne. ap (filter (at p s)) (Opens.opens-other i y old new app t ne))
      (cases_txn t y.txn)

  opens_still : (t : TxnId) → Open old t → Open new t
  opens_still = Opens.Open-own i y old new app (ap ends can.kind)

  free_at : (t : TxnId) → t ≢ y.txn → Open old t → (p s : ℕ) → at p s y ≡ true → filter (at p s) (opens old t) ≡ []
  free_at = Change.free_at i y old new app changes_it can.above fits free sound

  -- with nothing left at the place, the newest value is the one before
  none_left : (p s : ℕ) → at p s y ≡ true → filter (at p s) below ≡ [] → (t : TxnId) → Open new t
      → filter (at p s) (opens new t) ≡ []
  none_left p s is none t o = ⊎_elim
      (λ e. ap (λ (k : TxnId). filter (at p s) (opens new k)) e ∙ ap (filter (at p s)) stacked ∙ none)
      (λ ne. ap (filter (at p s)) (Opens.opens-other i y old new app t ne)
      ∙ free_at t ne (Opens.Open-old i y old new app t o) p s is)
      (cases_txn t y.txn)

  by_own : (p s : ℕ) (v : Val) → at p s y ≡ true → v ≡ undone top.before (filter (at p s) below) → Recovered new p s v
  by_own p s v is e = ⊎_elim
      (λ none. inr (none_left p s is none, e ∙ ap (undone top.before) none ∙ sym (now_at p s is)))
      (λ some. inl (
        y.txn,
        opens_still y.txn can.runs,
        (λ none. some (sym (ap (filter (at p s)) stacked) ∙ none)),
        e ∙ ap (λ (w : Val). undone w (filter (at p s) below)) (sym (now_at p s is))
            ∙ ap (λ (l : List Rec). undone (now new p s) (filter (at p s) l)) (sym stacked),
      ))
      (nil_or (filter (at p s) below))

  recovered_at : (p s : ℕ) (v : Val) → at p s y ≡ true → Recovered old p s v → Recovered new p s v
  recovered_at p s v is (inl r) = ⊎_elim
      (λ e. by_own p s v is
      (subst (λ (k : TxnId). v ≡ undone (now old p s) (filter (at p s) (opens old k))) e r.3
      ∙ ap (undone (now old p s)) (old_at p s is)))
      (λ ne. absurd (r.2 (free_at r.0 ne r.1 p s is)))
      (cases_txn r.0 y.txn)
  recovered_at p s v is (inr r) = let c = sym (old_at p s is) ∙ r.0 y.txn can.runs in absurd (cc)

  pub undo-recovered : (p s : ℕ) (v : Val) → Recovered old p s v → Recovered new p s v
  undo-recovered p s v r = ⊎_elim
      (λ is. recovered_at p s v is r)
      (λ is. Recovered-same old new p s (Opens.Open-old i y old new app) opens_still (off_at p s is) (now-other p s is) v r)
      (cases_Bool (at p s y))
