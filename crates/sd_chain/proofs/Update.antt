-- An Update is appended.
use Rattle.std.proofs.Common.{◌≡◌, inl, inr, ⊎_elim, ℕ, zero, suc, ◌≤◌, true, false, List, [], ◌∷◌, length, None, refl, sym, ap, ◌∙◌, subst, arith}
use Rattle.std.specs.Prelude.{filter}
use Rattle.std.proofs.lemmas.Bool.{cases_Bool, cases_lt}
use Rattle.sd_logrec.specs.View.{Rec, Kind}
use Rattle.sd_base.specs.declared.ids.TxnId.{TxnId}
use Rattle.sd_chain.specs.Records.{Val, at, changes, ends, Each, home, moved}
use Rattle.sd_base.specs.Values.{size}
use Rattle.sd_page.specs.Page.{Page, Slot}
use Rattle.sd_chain.specs.Pages.{value, capacity, write, FitsKind}
use Rattle.sd_chain.specs.Storage.{Storage, newest, now, opens, Open, HasPlace, Linked, undone, Alone, StackFits, Sound, Recovered}
use Rattle.sd_chain.specs.Changes.{Appended, CanUpdate}
use Rattle.sd_chain.proofs.Lists.{Each-weaker, filter-cons, filter-skip}
use Rattle.sd_chain.proofs.Slots.{length-write, capacity-write}
use Rattle.sd_chain.proofs.Newest.{at_is}
use Rattle.sd_chain.proofs.Opens
use Rattle.sd_chain.proofs.Opens.{Each-stack}
use Rattle.sd_chain.proofs.Capacities.{newest-within}
use Rattle.sd_chain.proofs.Apart.{Recovered-same}
use Rattle.sd_chain.proofs.Change
use Rattle.sd_base.proofs.SameIds.{cases_txn}

pub value_past : (slots : List Slot) (s : ℕ) → length slots ≤ s → value slots s ≡ None
value_past [] s le = refl
value_past (x ∷ xs) zero le = absurd (omega arith)
value_past (x ∷ xs) (suc s) le = value_past xs s (omega arith)

module _ (i : ℕ) (y : Rec) (old new : Storage) (app : Appended i y old new) (own : home y.txn ≡ i) (can : CanUpdate old y)
    (sound : Sound old) where
  changes_it : changes y.kind ≡ true
  changes_it = ap changes can.kind

  fits : FitsKind y.kind y (newest old y.page).slots
  fits = subst (λ (k : Kind). FitsKind k y (newest old y.page).slots) (sym can.kind) can.fits

  now-other : (p s : ℕ) → at p s y ≡ false → now new p s ≡ now old p s
  now-other = Change.now-other i y old new app changes_it can.above fits can.free sound

  now_at : (p s : ℕ) → at p s y ≡ true → now new p s ≡ y.after
  now_at = Change.now_at i y old new app changes_it can.above fits can.free sound

  stacked : opens new y.txn ≡ y ∷ opens old y.txn
  stacked = Opens.opens-own i y old new app own ∙ ap (λ (k : Kind). moved k y (opens old y.txn)) can.kind

  before_at : (p s : ℕ) → at p s y ≡ true → y.before ≡ now old p s
  before_at p s is = let e = at_is p s y is in can.fits.found ∙ ap (λ (k : ℕ). now old k y.slot) e.0
      ∙ ap (λ (k : ℕ). now old p k) e.1

  place-new : HasPlace (newest new y.page).slots y
  place-new =
      let slots = (newest old y.page).slots in
      let within = newest-within old y.page (sound.disks y.page) (sound.pages y.page) y.slot in
      subst (λ (q : Page). HasPlace q.slots y) (sym (Change.newest-push i y old new app changes_it can.above fits can.free sound))
      (record {
        slot = (length-write slots y.slot y.cap y.after).1;
        room = ⊎_elim
            (λ lt. rw (capacity-write slots y.slot y.slot y.cap y.after lt)
            (subst (λ (v : Val). size v ≤ capacity slots y.slot) (sym can.fits.found) within))
            (λ ge. subst (λ (v : Val). size v ≤ capacity (write slots y.slot y.cap y.after) y.slot)
            (sym (can.fits.found ∙ value_past slots y.slot ge)) (omega arith))
            (cases_lt y.slot (length slots));
      })

  own_linked : (p s : ℕ) → Linked (now old p s) (filter (at p s) (opens old y.txn))
      → Linked (now new p s) (filter (at p s) (y ∷ opens old y.txn))
  own_linked p s h = ⊎_elim
      (λ is. subst (Linked (now new p s)) (sym (filter-cons (at p s) y (opens old y.txn) is)) (
        now_at p s is,
        subst (λ (v : Val). Linked v (filter (at p s) (opens old y.txn))) (sym (before_at p s is)) h,
      ))
      (λ is. subst (Linked (now new p s)) (sym (filter-skip (at p s) y (opens old y.txn) is))
      (subst (λ (v : Val). Linked v (filter (at p s) (opens old y.txn))) (sym (now-other p s is)) h))
      (cases_Bool (at p s y))

  own_fits : StackFits new y.txn
  own_fits =
      let was = sound.stacks y.txn can.runs in
      record {
        places = subst (Each (λ x. HasPlace (newest new x.page).slots x)) (sym stacked) (
          place-new,
          Each-weaker (λ x. HasPlace (newest old x.page).slots x) (λ x. HasPlace (newest new x.page).slots x)
              (Change.place-kept i y old new app changes_it can.above fits can.free sound) (opens old y.txn) was.places,
        );
        linked = λ p s. subst (λ (l : List Rec). Linked (now new p s) (filter (at p s) l)) (sym stacked)
            (own_linked p s (was.linked p s));
        alone = subst (Each (Alone new y.txn)) (sym stacked) (
          Change.alone-new i y old new app changes_it can.above fits can.free sound,
          Each-weaker (Alone old y.txn) (Alone new y.txn)
              (Change.alone-own i y old new app changes_it can.above fits can.free sound) (opens old y.txn) was.alone,
        );
      }

  pub update-sound : Sound new
  update-sound = Change.sound-new i y old new app changes_it can.above fits can.free sound own_fits

  -- the open records at a place
  own_at : (p s : ℕ) → at p s y ≡ true → filter (at p s) (opens new y.txn) ≡ y ∷ filter (at p s) (opens old y.txn)
  own_at p s is = ap (filter (at p s)) stacked ∙ filter-cons (at p s) y (opens old y.txn) is

  off_at : (p s : ℕ) → at p s y ≡ false → (t : TxnId) → filter (at p s) (opens new t) ≡ filter (at p s) (opens old t)
  off_at p s is t = ⊎_elim
      (λ e. ap (λ (k : TxnId). filter (at p s) (opens new k)) e ∙ ap (filter (at p s)) stacked
      ∙ filter-skip (at p s) y (opens old y.txn) is ∙ ap (λ (k : TxnId). filter (at p s) (opens old k)) (sym e))
      (λ ne. ap (filter (at p s)) (Opens.opens-other i y old new app t ne))
      (cases_txn t y.txn)

  opens_still : (t : TxnId) → Open old t → Open new t
  opens_still = Opens.Open-own i y old new app (ap ends can.kind)

  -- the writer is the transaction
  by_own : (p s : ℕ) (v : Val) → at p s y ≡ true → v ≡ undone (now old p s) (filter (at p s) (opens old y.txn))
      → Recovered new p s v
  by_own p s v is e = inl (
    y.txn,
    opens_still y.txn can.runs,
    (λ none. let c = sym (own_at p s is) ∙ none in absurd (cc)),
    e ∙ ap (λ (w : Val). undone w (filter (at p s) (opens old y.txn))) (sym (before_at p s is))
        ∙ ap (undone (now new p s)) (sym (own_at p s is)),
  )

  recovered_at : (p s : ℕ) (v : Val) → at p s y ≡ true → Recovered old p s v → Recovered new p s v
  recovered_at p s v is (inl r) = ⊎_elim
      (λ e. by_own p s v is (subst (λ (k : TxnId). v ≡ undone (now old p s) (filter (at p s) (opens old k))) e r.3))
      (λ ne. absurd (r.2 (Change.free_at i y old new app changes_it can.above fits can.free sound r.0 ne r.1 p s is)))
      (cases_txn r.0 y.txn)
  recovered_at p s v is (inr r) = by_own p s v is (r.1 ∙ ap (undone (now old p s)) (sym (r.0 y.txn can.runs)))

  -- what recovery gives stays
  pub update-recovered : (p s : ℕ) (v : Val) → Recovered old p s v → Recovered new p s v
  update-recovered p s v r = ⊎_elim
      (λ is. recovered_at p s v is r)
      (λ is. Recovered-same old new p s (Opens.Open-old i y old new app) opens_still (off_at p s is) (now-other p s is) v r)
      (cases_Bool (at p s y))
