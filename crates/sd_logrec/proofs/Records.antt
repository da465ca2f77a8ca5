-- What is read as a record is spelled so, and what is spelled so is read. It serves the goals of take.rt and laws.rt.
use Rattle.std.proofs.Common.{◌≡◌, ℕ, cond, eqb, List, [], ◌∷◌, ◌++◌, refl, sym, ap, subst, ◌∙◌, append_assoc, inl, inr}
use Rattle.std.specs.Prelude.{Option, Some, None, option_map, option_and_then}
use Rattle.std.proofs.lemmas.Bool.{eqb-true}
use Rattle.std.proofs.lemmas.Option.{some_pair_parts}
use Rattle.sd_logrec.specs.declared.record.Record.{Record}
use Rattle.sd_logrec.specs.declared.record.Record.TheVariants as records
use Rattle.sd_logrec.specs.Spelling.{four, eight, transaction, span, changed, counted, row, spelling, IsLsn, HasSpelling}
use Rattle.sd_logrec.specs.Reading.{Reader, made, byte_at, lsn_at, start_at, update_at, clr_at, commit_at, end_at, end_check_at, fields_at, record_at}
use Rattle.sd_logrec.proofs.Formats.{IsBytes, IsFormat, and_then_some, map_some, then_is}
use Rattle.sd_logrec.proofs.Numbers.{one_is, eight_is}
use Rattle.sd_logrec.proofs.Parts.{chosen, lsn_is, ordinal_is, txn_is, page_is, slot_is, capacity_is, value_is, spans_is, recs_is}

row_parts : (type lsn : ℕ) (fields rest : List ℕ) → row type lsn (fields ++ rest) ≡ row type lsn fields ++ rest
row_parts type lsn fields rest = ap (λ (l : List ℕ). type ∷ l) (sym (append_assoc (eight lsn) fields rest))

-- behind this type and LSN a record was read
record Told (type lsn : ℕ) (bytes : List ℕ) (x : Record × List ℕ) : Type 0 where
  pub spelled : row type lsn bytes ≡ spelling x.0 ++ x.1
  pub fits : HasSpelling x.0

-- a row of the table: its fields make a record
told : {A : Type 0} {s : A → List ℕ} {F : A → Type 0} {r : Reader A} (type lsn : ℕ) (make : A → Record) → IsFormat A s F r
    → ((a : A) → spelling (make a) ≡ row type lsn (s a)) → ((a : A) → F a → HasSpelling (make a))
    → (bytes : List ℕ) (x : Record × List ℕ) → IsBytes bytes → made make r bytes ≡ Some x → Told type lsn bytes x
told {A} {s} {F} {r} type lsn make a spells fits bytes x are e =
    let p = map_some (λ (y : A × List ℕ). (make y.0, y.1)) (r bytes) x e in
    let t = a.takes bytes p.0 are p.1 in
    let here : row type lsn bytes ≡ spelling (make p.0.0) ++ p.0.1 =
    ap (row type lsn) t.0.parts ∙ row_parts type lsn (s p.0.0) p.0.1 ∙ ap (λ (l : List ℕ). l ++ p.0.1) (sym (spells p.0.0)) in
    subst (Told type lsn bytes) p.2 (record { spelled = here; fits = fits p.0.0 t.1 })

start_told : (lsn : ℕ) (bytes : List ℕ) (x : Record × List ℕ) → IsLsn lsn → IsBytes bytes → start_at lsn bytes ≡ Some x → Told 1 lsn bytes x
unfolding start_at
start_told lsn bytes x h = told 1 lsn (λ epoch. records.Start lsn epoch) ordinal_is (λ a. refl) (λ a f. (h, f)) bytes x

update_told : (lsn : ℕ) (bytes : List ℕ) (x : Record × List ℕ) → IsLsn lsn → IsBytes bytes → update_at lsn bytes ≡ Some x → Told 2 lsn bytes x
unfolding update_at
update_told lsn bytes x h = told 2 lsn (λ x. records.Update lsn x.0 x.1.0 x.1.1.0 x.1.1.1.0 x.1.1.1.1.0 x.1.1.1.1.1.0 x.1.1.1.1.1.1)
    (then_is txn_is (then_is eight_is (then_is page_is (then_is slot_is (then_is capacity_is (then_is value_is value_is))))))
    (λ a. refl) (λ a f. (h, f.0, f.1.0, f.1.1.0, f.1.1.1.0, f.1.1.1.1.0, f.1.1.1.1.1.0, f.1.1.1.1.1.1)) bytes x

clr_told : (lsn : ℕ) (bytes : List ℕ) (x : Record × List ℕ) → IsLsn lsn → IsBytes bytes → clr_at lsn bytes ≡ Some x → Told 3 lsn bytes x
unfolding clr_at
clr_told lsn bytes x h = told 3 lsn (λ x. records.Clr lsn x.0 x.1.0 x.1.1.0 x.1.1.1.0 x.1.1.1.1.0 x.1.1.1.1.1)
    (then_is txn_is (then_is eight_is (then_is eight_is (then_is page_is (then_is slot_is value_is)))))
    (λ a. refl) (λ a f. (h, f.0, f.1.0, f.1.1.0, f.1.1.1.0, f.1.1.1.1.0, f.1.1.1.1.1)) bytes x

commit_told : (lsn : ℕ) (bytes : List ℕ) (x : Record × List ℕ) → IsLsn lsn → IsBytes bytes → commit_at lsn bytes ≡ Some x → Told 4 lsn bytes x
unfolding commit_at
commit_told lsn bytes x h = told 4 lsn (λ x. records.Commit lsn x.0 x.1) (then_is txn_is eight_is) (λ a. refl) (λ a f. (h, f.0, f.1)) bytes x

end_told : (lsn : ℕ) (bytes : List ℕ) (x : Record × List ℕ) → IsLsn lsn → IsBytes bytes → end_at lsn bytes ≡ Some x → Told 5 lsn bytes x
unfolding end_at
end_told lsn bytes x h = told 5 lsn (λ x. records.End lsn x.0 x.1) (then_is txn_is eight_is) (λ a. refl) (λ a f. (h, f.0, f.1)) bytes x

begin_told : (lsn : ℕ) (bytes : List ℕ) (x : Record × List ℕ) → IsLsn lsn → ◌≡◌ {A = Option (Record × List ℕ)} (Some (records.BeginCheck lsn, bytes)) (Some x) → Told 6 lsn bytes x
begin_told lsn bytes x h e =
    let is : (records.BeginCheck lsn, bytes) ≡ x = cc in
    subst (Told 6 lsn bytes) is (record { spelled = row_parts 6 lsn [] bytes; fits = h })

end_check_told : (lsn : ℕ) (bytes : List ℕ) (x : Record × List ℕ) → IsLsn lsn → IsBytes bytes → end_check_at lsn bytes ≡ Some x → Told 7 lsn bytes x
unfolding end_check_at
end_check_told lsn bytes x h = told 7 lsn (λ x. records.EndCheck lsn x.0 x.1.0 x.1.1) (then_is eight_is (then_is spans_is recs_is)) (λ a. refl) (λ a f. (h, f.0, f.1.0, f.1.1)) bytes x

no_record : (x : Record × List ℕ) → ◌≡◌ {A = Option (Record × List ℕ)} None (Some x) → ⊥
no_record x e = cc

-- the test of one type: that row, or the rows behind it
tested : (type k lsn : ℕ) (bytes : List ℕ) (this others : Option (Record × List ℕ)) (x : Record × List ℕ) → cond (eqb type k) this others ≡ Some x
    → (this ≡ Some x → Told k lsn bytes x) → (others ≡ Some x → Told type lsn bytes x) → Told type lsn bytes x
tested type k lsn bytes this others x e here there =
    elim (chosen (eqb type k) this others (Some x) e) [
      | inl same ↦ subst (λ (n : ℕ). Told n lsn bytes x) (sym (eqb-true type k same.0)) (here same.1)
      | inr other ↦ there other.1
    ]

fields_told : (type lsn : ℕ) (bytes : List ℕ) (x : Record × List ℕ) → IsLsn lsn → IsBytes bytes → fields_at type lsn bytes ≡ Some x → Told type lsn bytes x
unfolding fields_at
fields_told type lsn bytes x h are e =
    tested type 1 lsn bytes _ _ x e (start_told lsn bytes x h are) (λ e.
    tested type 2 lsn bytes _ _ x e (update_told lsn bytes x h are) (λ e.
    tested type 3 lsn bytes _ _ x e (clr_told lsn bytes x h are) (λ e.
    tested type 4 lsn bytes _ _ x e (commit_told lsn bytes x h are) (λ e.
    tested type 5 lsn bytes _ _ x e (end_told lsn bytes x h are) (λ e.
    tested type 6 lsn bytes _ _ x e (begin_told lsn bytes x h) (λ e.
    tested type 7 lsn bytes _ _ x e (end_check_told lsn bytes x h are) (λ e. absurd (no_record x e))))))))

-- what is read is spelled so
pub record_takes : (bytes : List ℕ) (x : Record × List ℕ) → IsBytes bytes → record_at bytes ≡ Some x → (bytes ≡ spelling x.0 ++ x.1) × HasSpelling x.0
unfolding record_at
record_takes bytes x are e =
    let p = and_then_some (λ (type : ℕ × List ℕ). option_and_then (λ (lsn : ℕ × List ℕ). fields_at type.0 lsn.0 lsn.1) (lsn_at type.1)) (byte_at bytes) x e in
    let q = and_then_some (λ (lsn : ℕ × List ℕ). fields_at p.0.0 lsn.0 lsn.1) (lsn_at p.0.1) x p.2 in
    let first = one_is.takes bytes p.0 are p.1 in
    let second = lsn_is.takes p.0.1 q.0 first.0.rest_fits q.1 in
    let t = fields_told p.0.0 q.0.0 q.0.1 x second.1 second.0.rest_fits q.2 in
    (first.0.parts ∙ ap (λ (l : List ℕ). p.0.0 ∷ l) second.0.parts ∙ t.spelled, t.fits)

-- ---- what is spelled so is read

opened : (type lsn : ℕ) (fields rest : List ℕ) → IsLsn lsn → record_at (row type lsn fields ++ rest) ≡ fields_at type lsn (fields ++ rest)
unfolding record_at byte_at
opened type lsn fields rest h = rw (append_assoc (eight lsn) fields rest, lsn_is.again lsn (fields ++ rest) h) refl

pub record_again : (r : Record) (rest : List ℕ) → HasSpelling r → record_at (spelling r ++ rest) ≡ Some (r, rest)
unfolding fields_at start_at update_at clr_at commit_at end_at end_check_at
record_again (records.Start lsn epoch) rest h =
    opened 1 lsn (four epoch) rest h.0 ∙ rw (ordinal_is.again epoch rest h.1) refl
record_again (records.Update lsn txn prev page slot capacity before after) rest h =
    let again = (then_is txn_is (then_is eight_is (then_is page_is (then_is slot_is (then_is capacity_is (then_is value_is value_is)))))).again (txn, (prev, (page, (slot, (capacity, (before, after)))))) rest (h.1, (h.2, (h.3, (h.4, (h.5, (h.6, h.7)))))) in
    opened 2 lsn _ rest h.0 ∙ ap (option_map (λ a. (records.Update lsn a.0.0 a.0.1.0 a.0.1.1.0 a.0.1.1.1.0 a.0.1.1.1.1.0 a.0.1.1.1.1.1.0 a.0.1.1.1.1.1.1, a.1))) again
record_again (records.Clr lsn txn prev undo_next page slot after) rest h =
    let again = (then_is txn_is (then_is eight_is (then_is eight_is (then_is page_is (then_is slot_is value_is))))).again (txn, (prev, (undo_next, (page, (slot, after))))) rest (h.1, (h.2, (h.3, (h.4, (h.5, h.6))))) in
    opened 3 lsn _ rest h.0 ∙ ap (option_map (λ a. (records.Clr lsn a.0.0 a.0.1.0 a.0.1.1.0 a.0.1.1.1.0 a.0.1.1.1.1.0 a.0.1.1.1.1.1, a.1))) again
record_again (records.Commit lsn txn prev) rest h =
    opened 4 lsn (transaction txn ++ eight prev) rest h.0 ∙ ap (option_map (λ a. (records.Commit lsn a.0.0 a.0.1, a.1))) ((then_is txn_is eight_is).again (txn, prev) rest (h.1, h.2))
record_again (records.End lsn txn prev) rest h =
    opened 5 lsn (transaction txn ++ eight prev) rest h.0 ∙ ap (option_map (λ a. (records.End lsn a.0.0 a.0.1, a.1))) ((then_is txn_is eight_is).again (txn, prev) rest (h.1, h.2))
record_again (records.BeginCheck lsn) rest h = opened 6 lsn [] rest h
record_again (records.EndCheck lsn begin spans recs) rest h =
    opened 7 lsn (eight begin ++ (counted span spans ++ counted changed recs)) rest h.0
    ∙ ap (option_map (λ a. (records.EndCheck lsn a.0.0 a.0.1.0 a.0.1.1, a.1))) ((then_is eight_is (then_is spans_is recs_is)).again (begin, (spans, recs)) rest (h.1, (h.2, h.3)))

-- no spelling begins another
pub no_prefix : (a b : Record) (x y : List ℕ) → HasSpelling a → HasSpelling b → spelling a ++ x ≡ spelling b ++ y → (a ≡ b) × (x ≡ y)
no_prefix a b x y fa fb e = some_pair_parts a b x y (sym (record_again a x fa) ∙ ap record_at e ∙ record_again b y fb)

pub one_spelling : (a b : Record) → HasSpelling a → HasSpelling b → spelling a ≡ spelling b → a ≡ b
one_spelling a b fa fb e = (no_prefix a b [] [] fa fb (ap (λ (l : List ℕ). l ++ []) e)).0
