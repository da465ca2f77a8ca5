-- Changes redone one after another, seen page by page. It serves the goals of redoing.rt.
use Rattle.std.proofs.Common.{◌≡◌, ◌≢◌, ⊎_elim, ℕ, ◌+◌, ◌-◌, ◌<◌, ◌≤◌, true, false, cond, eqb, ltb, List, [], ◌∷◌, ◌++◌, Some, length, map, take, drop, get_or, set, refl, sym, ap, ap₂, ◌∙◌, subst, arith, eq-eqb, ne_eqb, get_or-set_same, get_or-set_other}
use Rattle.std.specs.Prelude.{All, filter, option_map, slice_get, ◌&&◌}
use Rattle.std.proofs.lemmas.Bool.{cases_eq}
use Rattle.std.proofs.lemmas.List.{append-nil, append_assoc, get_or-drop, length-drop, map-append, take_more, take-append-drop, length-set}
use Rattle.std.specs.List.Sorted.{IsNonDecreasingBy}
use Rattle.std.proofs.lemmas.List.Elements.{All-drop, All-from_get_or, All-get_or, All-head, All-tail, filter-append}
use Rattle.std.proofs.lemmas.Option.{slice_get-get_or, slice_get_within, get_or_from_slice_get, slice_get-map}
use Rattle.sd_logrec.specs.declared.record.Record.{Record}
use Rattle.sd_logrec.specs.declared.record.Record.TheVariants as records
use Rattle.sd_logrec.specs.Spelling.{HasSpelling}
use Rattle.sd_logrec.specs.View.{Rec}
use Rattle.sd_page.specs.Page.{Page, empty_page}
use Rattle.sd_chain.specs.Records.{of_page}
use Rattle.sd_chain.specs.Pages.{FitAll, FitsPage, redo, replay}
use Rattle.sd_chain.proofs.Chains.{FitAll-append, FitAll-back, replay-append}
use Rattle.sd_redo.specs.declared.change.Change.{Change}
use Rattle.sd_redo.specs.Changes.{AreChanges, ChangesPage, IsChange, chain_of, redone_of}
use Rattle.sd_recovered.specs.Redone.{IsMisfit, IsRedone, MisfitsAt}

pub none_redone : (p : ℕ) (old : List Page) → p < length old → IsRedone p [] old old
none_redone p old lt = record {
  page = get_or old p (empty_page p);
  before = slice_get-get_or old p (empty_page p) lt;
  after = slice_get-get_or old p (empty_page p) lt;
  fit = tt;
}

pub chain_of-append : (p : ℕ) (xs ys : List Change) → chain_of p (xs ++ ys) ≡ chain_of p xs ++ chain_of p ys
chain_of-append p xs ys = ap (filter (of_page p)) (map-append redone_of xs ys)
    ∙ filter-append (of_page p) (map redone_of xs) (map redone_of ys)

is_of_page : (c : Change) → IsChange c → of_page c.page (redone_of c) ≡ true
is_of_page c is = ap₂ (λ k n. k && eqb n c.page) is.page.kind is.page.here ∙ eq-eqb c.page c.page refl

no_other_page : (c : Change) (p : ℕ) → IsChange c → c.page ≢ p → of_page p (redone_of c) ≡ false
no_other_page c p is ne = ap₂ (λ k n. k && eqb n p) is.page.kind is.page.here ∙ ne_eqb c.page p ne

pub chain_here : (c : Change) → IsChange c → chain_of c.page (c ∷ []) ≡ redone_of c ∷ []
chain_here c is = ap (λ b. cond b (redone_of c ∷ []) []) (is_of_page c is)

pub chain_there : (c : Change) (p : ℕ) → IsChange c → c.page ≢ p → chain_of p (c ∷ []) ≡ []
chain_there c p is ne = ap (λ b. cond b (redone_of c ∷ []) []) (no_other_page c p is ne)

-- a change that fits the image that it finds, where it is above the LSN on disk, and is redone there
pub record Step (c : Change) (disk_lsn : ℕ) (image after : Page) : Type 0 where
  pub fit : disk_lsn < (redone_of c).lsn → FitsPage image (redone_of c)
  pub redone : after ≡ cond (ltb disk_lsn (redone_of c).lsn) (redo image (redone_of c)) image

-- where the change finds its page
pub record Finds (c : Change) (old now : List Page) (lsns : List ℕ) (image : Page) : Type 0 where
  pub is : IsChange c
  pub within : c.page < length now
  pub lsns_are : lsns ≡ map (λ page. page.lsn) old
  pub image_is : image ≡ get_or now c.page image

pub disk_lsn_is : (old : List Page) (lsns : List ℕ) (p : ℕ) (page : Page) → lsns ≡ map (λ page. page.lsn) old
    → slice_get old p ≡ Some page → get_or lsns p 0 ≡ page.lsn
disk_lsn_is old lsns p page e is =
    get_or_from_slice_get lsns p page.lsn 0 (ap (λ l. slice_get l p) e ∙ slice_get-map (λ (q : Page). q.lsn) old p ∙ ap
    (λ o. option_map (λ (q : Page). q.lsn) o) is)

step_other : (p : ℕ) (xs : List Change) (c : Change) (old now : List Page) (lsns : List ℕ) (image after : Page)
    → Finds c old now lsns image
    → c.page ≢ p → IsRedone p xs old now → IsRedone p (xs ++ c ∷ []) old (set now c.page after)
step_other p xs c old now lsns image after finds ne r =
    let same : chain_of p (xs ++ c ∷ []) ≡ chain_of p xs = chain_of-append p xs (c ∷ [])
    ∙ ap (λ l. chain_of p xs ++ l) (chain_there c p finds.is ne) ∙ append-nil (chain_of p xs) in
    let lt : p < length now = slice_get_within now p _ r.after in
    let len : length (set now c.page after) ≡ length now = length-set now c.page after in
    let other : p ≢ c.page = λ e. ne (sym e) in
    let stays : slice_get (set now c.page after) p ≡ slice_get now p =
    slice_get-get_or (set now c.page after) p image (omega arith) ∙ ap (λ q. Some q) (get_or-set_other now c.page p after image other)
    ∙ sym (slice_get-get_or now p image lt) in record {
      page = r.page;
      before = r.before;
      after = stays ∙ r.after ∙ ap (λ l. Some (replay r.page.lsn r.page l)) (sym same);
      fit = subst (λ l. FitAll r.page.lsn r.page l) (sym same) r.fit;
    }

step_here : (xs : List Change) (c : Change) (old now : List Page) (lsns : List ℕ) (image after : Page) → Finds c old now lsns image
    → Step c (get_or lsns c.page 0) image after → IsRedone c.page xs old now → IsRedone c.page (xs ++ c ∷ []) old (set now c.page after)
step_here xs c old now lsns image after finds step r =
    let p : ℕ = c.page in
    let x : Rec = redone_of c in
    let chain : List Rec = chain_of p xs in
    let one : chain_of p (xs ++ c ∷ []) ≡ chain ++ x ∷ [] = chain_of-append p xs (c ∷ [])
    ∙ ap (λ l. chain ++ l) (chain_here c finds.is) in
    let low : get_or lsns p 0 ≡ r.page.lsn = disk_lsn_is old lsns p r.page finds.lsns_are r.before in
    let found : image ≡ replay r.page.lsn r.page chain = finds.image_is
    ∙ get_or_from_slice_get now p (replay r.page.lsn r.page chain) image r.after in
    let len : length (set now p after) ≡ length now = length-set now p after in
    let lt : p < length now = finds.within in
    let made : after ≡ replay r.page.lsn (replay r.page.lsn r.page chain) (x ∷ []) =
    step.redone ∙ ap₂ (λ (n : ℕ) (q : Page). cond (ltb n x.lsn) (redo q x) q) low found in
    let fits : r.page.lsn < x.lsn → FitsPage (replay r.page.lsn r.page chain) x = λ h. subst (λ q. FitsPage q x) found
    (step.fit (omega arith)) in record {
      page = r.page;
      before = r.before;
      after = slice_get-get_or (set now p after) p image (omega arith)
          ∙ ap (λ q. Some q) (get_or-set_same now p after image lt ∙ made ∙ sym (replay-append r.page.lsn r.page chain (x ∷ [])))
          ∙ ap (λ l. Some (replay r.page.lsn r.page l)) (sym one);
      fit = subst (λ l. FitAll r.page.lsn r.page l) (sym one) (FitAll-append r.page.lsn r.page chain (x ∷ []) r.fit (fits, tt));
    }

pub redone_more : (xs : List Change) (i : ℕ) (c : Change) (old now : List Page) (lsns : List ℕ) (image after : Page) → i < length xs
    → c ≡ get_or xs i c
    → Finds c old now lsns image → Step c (get_or lsns c.page 0) image after
    → (p : ℕ) → IsRedone p (take i xs) old now → IsRedone p (take (i + 1) xs) old (set now c.page after)
redone_more xs i c old now lsns image after lt is finds step p r =
    let front : take i xs ++ c ∷ [] ≡ take (i + 1) xs = ap (λ d. take i xs ++ d ∷ []) is ∙ sym (take_more xs i c lt) in
    subst (λ l. IsRedone p l old (set now c.page after)) front
    (⊎_elim
    (λ e. subst (λ q. IsRedone q (take i xs ++ c ∷ []) old (set now c.page after)) e
    (step_here (take i xs) c old now lsns image after finds step (subst (λ q. IsRedone q (take i xs) old now) (sym e) r)))
    (λ ne. step_other p (take i xs) c old now lsns image after finds ne r)
    (cases_eq c.page p))

pub misfits : (xs : List Change) (i : ℕ) (c : Change) (old now : List Page) (lsns : List ℕ) (image : Page) → i < length xs
    → c ≡ get_or xs i c → c.page < 1024
    → Finds c old now lsns image → ((get_or lsns c.page 0 < (redone_of c).lsn → FitsPage image (redone_of c)) → ⊥)
    → ((p : ℕ) → p < 1024 → IsRedone p (take i xs) old now) → MisfitsAt xs old c.dev (130 + c.found.now.place)
misfits xs i c old now lsns image lt is small finds bad redone =
    let p : ℕ = c.page in
    let r : IsRedone p (take i xs) old now = redone p small in
    let chain : List Rec = chain_of p (take i xs) in
    let low : get_or lsns p 0 ≡ r.page.lsn = disk_lsn_is old lsns p r.page finds.lsns_are r.before in
    let found : image ≡ replay r.page.lsn r.page chain = finds.image_is
    ∙ get_or_from_slice_get now p (replay r.page.lsn r.page chain) image r.after in record {
      index = i;
      change = c;
      there = slice_get-get_or xs i c lt ∙ ap (λ (d : Change). Some d) (sym is);
      dev_is = refl;
      at_is = refl;
      few = small;
      front = λ q few. let s = redone q few in record { page = s.page; before = s.before; fit = s.fit };
      page = r.page;
      before = r.before;
      misfit = λ fit. bad (λ h. subst (λ q. FitsPage q (redone_of c)) (sym found) (fit (omega arith)));
    }

-- the chain of a change's page has it behind those of the changes before it
pub chain_parts : (xs : List Change) (i : ℕ) (c : Change) → AreChanges xs → slice_get xs i ≡ Some c
    → chain_of c.page xs ≡ chain_of c.page (take i xs) ++ redone_of c ∷ chain_of c.page (drop (i + 1) xs)
chain_parts xs i c are there =
    let p : ℕ = c.page in
    let lt : i < length xs = slice_get_within xs i c there in
    let is : get_or xs i c ≡ c = get_or_from_slice_get xs i c c there in
    let mine : IsChange c = subst IsChange is (All-get_or IsChange xs i c lt are) in
    let front : take (i + 1) xs ≡ take i xs ++ c ∷ [] = take_more xs i c lt ∙ ap (λ d. take i xs ++ d ∷ []) is in
    let rest : List Rec = chain_of p (drop (i + 1) xs) in
    ap (chain_of p) (sym (take-append-drop (i + 1) xs)) ∙ chain_of-append p (take (i + 1) xs) (drop (i + 1) xs)
    ∙ ap (λ l. chain_of p l ++ rest) front
    ∙ ap (λ l. l ++ rest) (chain_of-append p (take i xs) (c ∷ []) ∙ ap (λ l. chain_of p (take i xs) ++ l) (chain_here c mine))
    ∙ append_assoc (chain_of p (take i xs)) (redone_of c ∷ []) rest

-- the first misfit is one
pub misfit_of : (xs : List Change) (old : List Page) (dev at : ℕ) → AreChanges xs → (m : MisfitsAt xs old dev at)
    → IsMisfit m.change.page xs old
misfit_of xs old dev at are m =
    let p : ℕ = m.change.page in
    let chain : List Rec = chain_of p (take m.index xs) in
    let rest : List Rec = chain_of p (drop (m.index + 1) xs) in record {
      page = m.page;
      before = m.before;
      misfit = λ all. m.misfit (FitAll-back m.page.lsn m.page chain (redone_of m.change ∷ rest)
          (subst (λ l. FitAll m.page.lsn m.page l) (chain_parts xs m.index m.change are m.there) all)).0;
    }

-- changes of higher pages are none of this one
higher_none : (q : ℕ) (cs : List Change) → AreChanges cs → All (λ c. q < c.page) cs → chain_of q cs ≡ []
higher_none q [] are high = refl
higher_none q (c ∷ cs) are high =
    let ne : c.page ≢ q = λ e. let lt = All-head (λ (d : Change). q < d.page) c cs high in absurd (omega arith) in
    ap (λ b. cond b (redone_of c ∷ chain_of q cs) (chain_of q cs)) (no_other_page c q (All-head IsChange c cs are) ne)
    ∙ higher_none q cs (All-tail IsChange c cs are) (All-tail (λ (d : Change). q < d.page) c cs high)

-- the chain of a lower page stands before a change
pub lower_chain : (xs : List Change) (i : ℕ) (c : Change) (q : ℕ) → AreChanges xs → IsNonDecreasingBy (λ c. c.page) xs
    → slice_get xs i ≡ Some c → q < c.page → chain_of q xs ≡ chain_of q (take i xs)
lower_chain xs i c q are rises there lt =
    let is : get_or xs i c ≡ c = get_or_from_slice_get xs i c c there in
    let len : length (drop i xs) ≡ length xs - i = length-drop i xs in
    let high : All (λ (d : Change). q < d.page) (drop i xs) = All-from_get_or (λ (d : Change). q < d.page) (drop i xs) c (λ k few.
    let up : (get_or xs i c).page ≤ (get_or xs (i + k) c).page = rises i (i + k) c (omega arith) (omega arith) in
    let here : (get_or xs i c).page ≡ c.page = ap (λ (d : Change). d.page) is in
    let there : (get_or (drop i xs) k c).page ≡ (get_or xs (i + k) c).page = ap (λ (d : Change). d.page) (get_or-drop i xs k c) in
    omega arith) in
    ap (chain_of q) (sym (take-append-drop i xs)) ∙ chain_of-append q (take i xs) (drop i xs)
    ∙ ap (λ l. chain_of q (take i xs) ++ l) (higher_none q (drop i xs) (All-drop IsChange i xs are) high)
    ∙ append-nil (chain_of q (take i xs))

-- a record of the grammar changes a page of the data device
small_page : (r : Record) (p : ℕ) → HasSpelling r → ChangesPage r p → p < 1024
small_page (records.Start lsn epoch) p s is = absurd (cc)
small_page (records.Update lsn txn prev page slot capacity before after) p s is = omega (arith, s.3, is.here)
small_page (records.Clr lsn txn prev undo_next page slot after) p s is = omega (arith, s.4, is.here)
small_page (records.Commit lsn txn prev) p s is = absurd (cc)
small_page (records.End lsn txn prev) p s is = absurd (cc)
small_page (records.BeginCheck lsn) p s is = absurd (cc)
small_page (records.EndCheck lsn begin spans recs) p s is = absurd (cc)

pub page_small : (c : Change) → IsChange c → c.page < 1024
page_small c is = small_page c.found.now.rec c.page is.spelled is.page
