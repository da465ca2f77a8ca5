-- Rows that agree with the table at all records that are known are those of the table. It serves the goals of rows.rt.
use Rattle.std.proofs.Common.{◌≡◌, ◌≢◌, ◌⊎◌, inl, inr, ⊎_elim, ℕ, Bool, cond, List, [], ◌∷◌, None, Some, refl, sym, ap, ◌∙◌, subst}
use Rattle.sd_base.specs.declared.ids.Rid.{Rid}
use Rattle.sd_model.specs.declared.act.Act.{Act}
use Rattle.sd_model.specs.declared.act.Act.TheVariants.{Read, Put, Undo}
use Rattle.sd_model.specs.declared.act.Done.{Done}
use Rattle.sd_model.specs.Tables.{Content, Contents, contents}
use Rattle.sd_model.specs.Acts.{Puts, undone, live_from, live, seen_over, after}
use Rattle.sd_model.specs.Listing.{AreIn, AreRising, AreRows}
use Rattle.sd_oracle.specs.Rows.{AgreeAtRows, AgreeAtActs, AgreeAtDone}
use Rattle.sd_base.proofs.SameIds.{cases_rid, ne-same_rid}

-- it is the record of a row, or no row has it
row-known : (rows : List (Rid × List ℕ)) (p : ℕ) (table : Contents) (some : List (Rid × List ℕ)) (r : Rid) → r.page ≡ p → AgreeAtRows p table rows some → (contents rows r ≡ table r) ⊎ (contents some r ≡ None)
row-known rows p table [] r e a = inr refl
row-known rows p table (x ∷ xs) r e a = ⊎_elim
    (λ (is : x.0 ≡ r). inl (subst (λ (q : Rid). contents rows q ≡ table q) is (a.0 (ap (λ (q : Rid). q.page) is ∙ e))))
    (λ (ne : x.0 ≢ r). ⊎_elim inl (λ (none : contents xs r ≡ None). inr (ap (λ (b : Bool). cond {A = Content} b (Some x.1) (contents xs r)) (ne-same_rid r x.0 (λ (q : r ≡ x.0). ne (sym q))) ∙ none)) (row-known rows p table xs r e a.1))
    (cases_rid x.0 r)

-- none of the puts is of the record
NonePut : Puts → Rid → Type 0
NonePut [] r = Unit {0}
NonePut (p ∷ puts) r = (p.0 ≢ r) × NonePut puts r

none-undone : (puts : Puts) (r : Rid) → NonePut puts r → NonePut (undone puts) r
unfolding NonePut
none-undone [] r n = n
none-undone (p ∷ puts) r n = n.1

none-seen : (base : Contents) (puts : Puts) (r : Rid) → NonePut puts r → seen_over base puts r ≡ base r
unfolding NonePut
none-seen base [] r n = refl
none-seen base (p ∷ puts) r n = ap (λ (b : Bool). cond {A = Content} b p.1 (seen_over base puts r)) (ne-same_rid p.0 r n.0) ∙ none-seen base puts r n.1

act-known : (rows : List (Rid × List ℕ)) (p : ℕ) (table : Contents) (puts : Puts) (acts : List Act) (r : Rid) → r.page ≡ p → AgreeAtActs p table rows acts → NonePut puts r → (contents rows r ≡ table r) ⊎ NonePut (live_from puts acts) r
unfolding NonePut
act-known rows p table puts [] r e a n = inr n
act-known rows p table puts (Read q v ∷ acts) r e a n = act-known rows p table puts acts r e a n
act-known rows p table puts (Put q v ∷ acts) r e a n = ⊎_elim
    (λ (is : q ≡ r). inl (subst (λ (x : Rid). contents rows x ≡ table x) is (a.0 (ap (λ (x : Rid). x.page) is ∙ e))))
    (λ (ne : q ≢ r). act-known rows p table ((q, v) ∷ puts) acts r e a.1 (ne, n))
    (cases_rid q r)
act-known rows p table puts (Undo ∷ acts) r e a n = act-known rows p table (undone puts) acts r e a (none-undone puts r n)

-- a committed transaction put the record, or it has what it had before them all
done-known : (rows : List (Rid × List ℕ)) (p : ℕ) (table : Contents) (base : Contents) (done : List Done) (r : Rid) → r.page ≡ p → AgreeAtDone p table rows done → (contents rows r ≡ table r) ⊎ (after base done r ≡ base r)
unfolding NonePut
done-known rows p table base [] r e a = inr refl
done-known rows p table base (d ∷ done) r e a = ⊎_elim
    inl
    (λ (n : NonePut (live d.acts) r). ⊎_elim inl (λ (same : after (seen_over base (live d.acts)) done r ≡ seen_over base (live d.acts) r). inr (same ∙ none-seen base (live d.acts) r n)) (done-known rows p table (seen_over base (live d.acts)) done r e a.1))
    (act-known rows p table [] d.acts r e a.0 tt)

pub rows-whole : (rows : List (Rid × List ℕ)) (p : ℕ) (start : List (Rid × List ℕ)) (done : List Done) → AreIn p rows → AreRising rows
    → AgreeAtRows p (after (contents start) done) rows rows → AgreeAtRows p (after (contents start) done) rows start → AgreeAtDone p (after (contents start) done) rows done → AreRows p (after (contents start) done) rows
rows-whole rows p start done inside rising at_rows at_start at_done = record {
  inside = inside;
  rising = rising;
  same = λ r e. ⊎_elim (λ (x : contents rows r ≡ after (contents start) done r). x)
      (λ (none : contents rows r ≡ None). ⊎_elim (λ (x : contents rows r ≡ after (contents start) done r). x)
      (λ (bare : contents start r ≡ None). ⊎_elim (λ (x : contents rows r ≡ after (contents start) done r). x)
      (λ (same : after (contents start) done r ≡ contents start r). none ∙ sym (same ∙ bare))
      (done-known rows p (after (contents start) done) (contents start) done r e at_done))
      (row-known rows p (after (contents start) done) start r e at_start))
      (row-known rows p (after (contents start) done) rows r e at_rows);
}

-- and rows of the table agree with it at all records
pub all-rows : (rows : List (Rid × List ℕ)) (p : ℕ) (table : Contents) (some : List (Rid × List ℕ)) → ((r : Rid) → r.page ≡ p → contents rows r ≡ table r) → AgreeAtRows p table rows some
all-rows rows p table [] a = tt
all-rows rows p table (x ∷ xs) a = (a x.0, all-rows rows p table xs a)

pub all-acts : (rows : List (Rid × List ℕ)) (p : ℕ) (table : Contents) (acts : List Act) → ((r : Rid) → r.page ≡ p → contents rows r ≡ table r) → AgreeAtActs p table rows acts
all-acts rows p table [] a = tt
all-acts rows p table (Read r v ∷ acts) a = all-acts rows p table acts a
all-acts rows p table (Put r v ∷ acts) a = (a r, all-acts rows p table acts a)
all-acts rows p table (Undo ∷ acts) a = all-acts rows p table acts a

pub all-done : (rows : List (Rid × List ℕ)) (p : ℕ) (table : Contents) (done : List Done) → ((r : Rid) → r.page ≡ p → contents rows r ≡ table r) → AgreeAtDone p table rows done
all-done rows p table [] a = tt
all-done rows p table (d ∷ done) a = (all-acts rows p table d.acts a, all-done rows p table done a)
