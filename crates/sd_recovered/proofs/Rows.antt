-- A table that is filled slot by slot, and page by page. It serves table.rt.
use Rattle.std.proofs.Common.{◌≡◌, ◌≢◌, ⊎_elim, ◌<◌, ◌≤◌, ◌+◌, ℕ, Bool, true, false, cond, eqb, ltb, ◌&&◌, List, [], Option, None, Some, length, slice_get, refl, sym, ap, ◌∙◌, arith, eq-eqb, ne_eqb, lt-ltb, le-ltb}
use Rattle.std.proofs.lemmas.Bool.{cases_eq, cases_lt}
use Rattle.std.proofs.lemmas.Option.{slice_get_past}
use Rattle.std.specs.Option.{option_map_or}
use Rattle.sd_base.specs.declared.ids.Rid.{Rid}
use Rattle.sd_base.specs.Ids.{same_rid}
use Rattle.sd_page.specs.Page.{Page, Slot}
use Rattle.sd_model.specs.Tables.{Content}
use Rattle.sd_chain.specs.Records.{Val}
use Rattle.sd_chain.specs.Pages.{value}
use Rattle.sd_recovered.specs.Values.{slots_in, values_in}
use Rattle.sd_recovered.proofs.Keys.{same_rid-by, same_rid-is}
use Rattle.sd_chain.proofs.Update.{value_past}

-- the first k slots of a page, over these contents
abbrev pub upto : ℕ → ℕ → List Slot → (Rid → Content) → Rid → Content
upto page k slots base r = cond (eqb r.page page && ltb r.slot k) (value slots r.slot) (base r)

-- the first k pages
abbrev pub pages_upto : List Page → ℕ → Rid → Content
pages_upto pages k r = cond (ltb r.page k) (values_in pages r.page r.slot) None

and_false : (a : Bool) → (a && false) ≡ false
and_false true = refl
and_false false = refl

pub upto-none : (page : ℕ) (slots : List Slot) (base : Rid → Content) (r : Rid) → base r ≡ upto page 0 slots base r
upto-none page slots base r =
    ap (λ (b : Bool). cond b (value slots r.slot) (base r))
    (sym (ap (λ (b : Bool). eqb r.page page && b) (le-ltb r.slot 0 (omega arith)) ∙ and_false (eqb r.page page)))

-- off the page
upto-off : (page k : ℕ) (slots : List Slot) (base : Rid → Content) (r : Rid) → r.page ≢ page → upto page k slots base r ≡ base r
upto-off page k slots base r ne = let e : eqb r.page page ≡ false = ne_eqb r.page page ne in
    ap (λ (b : Bool). cond (b && ltb r.slot k) (value slots r.slot) (base r)) e

-- below k, and from k on
upto-in : (page k : ℕ) (slots : List Slot) (base : Rid → Content) (r : Rid) → r.page ≡ page → r.slot < k
    → upto page k slots base r ≡ value slots r.slot
upto-in page k slots base r e lt =
    ap (λ (b : Bool). cond (b && ltb r.slot k) (value slots r.slot) (base r)) (eq-eqb r.page page e)
    ∙ ap (λ (b : Bool). cond b (value slots r.slot) (base r)) (lt-ltb r.slot k lt)

upto-past : (page k : ℕ) (slots : List Slot) (base : Rid → Content) (r : Rid) → k ≤ r.slot → upto page k slots base r ≡ base r
upto-past page k slots base r le =
    ap (λ (b : Bool). cond b (value slots r.slot) (base r))
    (ap (λ (b : Bool). eqb r.page page && b) (le-ltb r.slot k le) ∙ and_false (eqb r.page page))

off-same : (page slot : ℕ) (r : Rid) (v w : Content) → (page ≢ r.page) → cond (same_rid (record { page = page; slot = slot }) r) v w ≡ w
off-same page slot r v w ne =
    ap (λ (b : Bool). cond b v w) (same_rid-by (record { page = page; slot = slot }) r)
    ∙ (let e : eqb page r.page ≡ false = ne_eqb page r.page ne in ap (λ (b : Bool). cond (b && eqb slot r.slot) v w) e)

off-slot : (page slot : ℕ) (r : Rid) (v w : Content) → (slot ≢ r.slot) → cond (same_rid (record { page = page; slot = slot }) r) v w ≡ w
off-slot page slot r v w ne =
    ap (λ (b : Bool). cond b v w) (same_rid-by (record { page = page; slot = slot }) r)
    ∙ (let e : eqb slot r.slot ≡ false = ne_eqb slot r.slot ne in
    ap (λ (b : Bool). cond b v w) (ap (λ (b : Bool). eqb page r.page && b) e ∙ and_false (eqb page r.page)))

on-same : (page slot : ℕ) (r : Rid) (v w : Content) → page ≡ r.page → slot ≡ r.slot
    → cond (same_rid (record { page = page; slot = slot }) r) v w ≡ v
on-same page slot r v w e f =
    ap (λ (b : Bool). cond b v w) (same_rid-by (record { page = page; slot = slot }) r)
    ∙ ap (λ (b : Bool). cond (b && eqb slot r.slot) v w) (eq-eqb page r.page e)
    ∙ ap (λ (b : Bool). cond b v w) (eq-eqb slot r.slot f)

-- one slot more, which has a value
pub upto-more : (page slot : ℕ) (slots : List Slot) (base now new : Rid → Content) (v : Val)
    → ((r : Rid) → now r ≡ upto page slot slots base r) → value slots slot ≡ v
    → ((r : Rid) → new r ≡ cond (same_rid (record { page = page; slot = slot }) r) v (now r))
    → (r : Rid) → new r ≡ upto page (slot + 1) slots base r
upto-more page slot slots base now new v inv val put r = put r ∙ ⊎_elim
    (λ e. ⊎_elim
    (λ lt. off-slot page slot r v (now r) (λ f. absurd (omega (arith, lt, f))) ∙ inv r ∙ upto-in page slot slots base r e lt
    ∙ sym (upto-in page (slot + 1) slots base r e (omega (arith, lt))))
    (λ le. ⊎_elim
    (λ f. on-same page slot r v (now r) (sym e) (sym f) ∙ sym val ∙ ap (value slots) (sym f)
    ∙ sym (upto-in page (slot + 1) slots base r e (omega (arith, f))))
    (λ ne. off-slot page slot r v (now r) (λ f. ne (sym f)) ∙ inv r ∙ upto-past page slot slots base r le
    ∙ sym (upto-past page (slot + 1) slots base r (above r.slot slot le ne)))
    (cases_eq r.slot slot))
    (cases_lt r.slot slot))
    (λ ne. off-same page slot r v (now r) (λ f. ne (sym f)) ∙ inv r ∙ upto-off page slot slots base r ne
    ∙ sym (upto-off page (slot + 1) slots base r ne))
    (cases_eq r.page page)
  where
    above : (a b : ℕ) → b ≤ a → a ≢ b → b + 1 ≤ a
    above a b le ne = omega (arith, le, ne)

-- one that has none
pub upto-dead : (page slot : ℕ) (slots : List Slot) (base now : Rid → Content)
    → ((s : ℕ) → base (record { page = page; slot = s }) ≡ None)
    → ((r : Rid) → now r ≡ upto page slot slots base r) → value slots slot ≡ None
    → (r : Rid) → now r ≡ upto page (slot + 1) slots base r
upto-dead page slot slots base now empty inv val =
    upto-more page slot slots base now now None inv val (λ r. by r (eqb page r.page && eqb slot r.slot) refl
    ∙ ap (λ (b : Bool). cond b None (now r)) (sym (same_rid-by (record { page = page; slot = slot }) r)))
  where
    here : now (record { page = page; slot = slot }) ≡ None
    here = inv (record { page = page; slot = slot }) ∙ upto-past page slot slots base (record { page = page; slot = slot }) (omega arith) ∙ empty slot

    by : (r : Rid) (b : Bool) → (eqb page r.page && eqb slot r.slot) ≡ b → now r ≡ cond b None (now r)
    by r true is = ap now (sym (same_rid-is (record { page = page; slot = slot }) r is)) ∙ here
    by r false is = refl

-- all slots
pub upto-all : (page k : ℕ) (slots : List Slot) (base now : Rid → Content) → k ≡ length slots
    → ((s : ℕ) → base (record { page = page; slot = s }) ≡ None)
    → ((r : Rid) → now r ≡ upto page k slots base r)
    → (r : Rid) → now r ≡ cond (eqb r.page page) (value slots r.slot) (base r)
upto-all page k slots base now all empty inv r = inv r ∙ ⊎_elim
    (λ e. sym (ap (λ (b : Bool). cond b (value slots r.slot) (base r)) (eq-eqb r.page page e)
    ∙ ⊎_elim
    (λ lt. sym (upto-in page k slots base r e lt))
    (λ le. value_past slots r.slot (omega (arith, le, all)) ∙ sym (none r e) ∙ sym (upto-past page k slots base r le))
    (cases_lt r.slot k)))
    (λ ne. upto-off page k slots base r ne ∙ sym (let e : eqb r.page page ≡ false = ne_eqb r.page page ne in
    ap (λ (b : Bool). cond b (value slots r.slot) (base r)) e))
    (cases_eq r.page page)
  where
    none : (r : Rid) → r.page ≡ page → base r ≡ None
    none r e = ap (λ (p : ℕ). base (record { page = p; slot = r.slot })) e ∙ empty r.slot

-- the slots of a page that is there
pub slots-here : (pages : List Page) (p : ℕ) (page : Page) → slice_get pages p ≡ Some page → slots_in pages p ≡ page.slots
slots-here pages p page e = ap (λ (o : Option Page). option_map_or (λ (x : Page). x.slots) o []) e

pub values-past : (pages : List Page) (p s : ℕ) → length pages ≤ p → values_in pages p s ≡ None
values-past pages p s le =
    ap (λ (o : Option Page). value (option_map_or (λ (x : Page). x.slots) o []) s) (slice_get_past pages p le)

-- one page more
pub pages-more : (pages : List Page) (p : ℕ) (page : Page) (now new : Rid → Content) → slice_get pages p ≡ Some page
    → ((r : Rid) → now r ≡ pages_upto pages p r)
    → ((r : Rid) → new r ≡ cond (eqb r.page p) (value page.slots r.slot) (now r))
    → (r : Rid) → new r ≡ pages_upto pages (p + 1) r
pages-more pages p page now new is inv put r = put r ∙ ⊎_elim
    (λ e. ap (λ (b : Bool). cond b (value page.slots r.slot) (now r)) (eq-eqb r.page p e)
    ∙ ap (λ (slots : List Slot). value slots r.slot) (sym (slots-here pages p page is))
    ∙ ap (λ (q : ℕ). values_in pages q r.slot) (sym e)
    ∙ sym (ap (λ (b : Bool). cond b (values_in pages r.page r.slot) None) (lt-ltb r.page (p + 1) (omega (arith, e)))))
    (λ ne. (let e : eqb r.page p ≡ false = ne_eqb r.page p ne in ap (λ (b : Bool). cond b (value page.slots r.slot) (now r)) e)
    ∙ inv r ∙ ap (λ (b : Bool). cond b (values_in pages r.page r.slot) None) (same r.page p ne))
    (cases_eq r.page p)
  where
    same : (a b : ℕ) → a ≢ b → ltb a b ≡ ltb a (b + 1)
    same a b ne = ⊎_elim
        (λ lt. lt-ltb a b lt ∙ sym (lt-ltb a (b + 1) (omega (arith, lt))))
        (λ le. le-ltb a b le ∙ sym (le-ltb a (b + 1) (omega (arith, le, ne))))
        (cases_lt a b)

-- before the page is put, the table has nothing of it
pub pages-next : (pages : List Page) (p s : ℕ) → pages_upto pages p (record { page = p; slot = s }) ≡ None
pages-next pages p s = ap (λ (b : Bool). cond b (values_in pages p s) None) (le-ltb p p (omega arith))

-- all pages
pub pages-all : (pages : List Page) (k : ℕ) (r : Rid) → length pages ≤ k → pages_upto pages k r ≡ values_in pages r.page r.slot
pages-all pages k r le = ⊎_elim
    (λ lt. ap (λ (b : Bool). cond b (values_in pages r.page r.slot) None) (lt-ltb r.page k lt))
    (λ past. ap (λ (b : Bool). cond b (values_in pages r.page r.slot) None) (le-ltb r.page k past)
    ∙ sym (values-past pages r.page r.slot (omega (arith, le, past))))
    (cases_lt r.page k)
