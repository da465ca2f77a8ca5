-- The lowest owner in the part of the records that lies in a page. It serves the goals of few.rt, many.rt and locks.rt.
use Rattle.std.proofs.Common.{◌≡◌, ◌≢◌, ◌⊎◌, inl, inr, ℕ, ◌+◌, Bool, true, false, ◌&&◌, not, List, [], ◌∷◌, ◌++◌, Option, Some, None, refl, sym, ap, subst, ◌∙◌, ⊎_elim, arith, append_assoc, eqb, eq-eqb, ne_eqb}
use Rattle.std.proofs.lemmas.Bool.{cases_eq, true≢false}
use Rattle.std.proofs.lemmas.Bool.Decides.{nat_tests}
use Rattle.std.proofs.lemmas.List.{append-nil}
use Rattle.std.proofs.lemmas.List.Elements.{All-contains, Contains-append_left, Contains-append_right, Contains-push, Contains-push_cases}
use Rattle.std.proofs.lemmas.Map.Views.{Contains-from_lookup}
use Rattle.std.proofs.lemmas.Map.Entries.{lookup-filter-keys}
use Rattle.std.specs.List.{Contains, All}
use Rattle.std.specs.Map.{lookup}
use Rattle.std.specs.Ordering.{is_le, nat_cmp, ordering_then}
use Rattle.std.specs.declared.cmp.Ordering.{Ordering}
use Rattle.std.specs.declared.cmp.Ordering.TheVariants.{Equal, Greater}
use Rattle.std.specs.BTreeMap.{BTreeMap}
use Rattle.std.specs.BTreeMap.Range.{entries_between, range_contains, IsEntryInRange}
use Rattle.std.specs.declared.ops.Bound.{Bound}
use Rattle.std.specs.declared.ops.Bound.TheVariants.{Included, Excluded, Unbounded}
use Rattle.sd_base.specs.declared.ids.TxnId.{TxnId}
use Rattle.sd_base.specs.declared.ids.Rid.{Rid}
use Rattle.sd_base.specs.declared.place.Mode.TheVariants as modes
use Rattle.sd_base.specs.Ids.{same_rid, IsBelow}
use Rattle.sd_reclock.specs.Locks.{Held, Modes, mode_of, mode_among, held_in, Agree, AgreeAmong, OwnsIn, IsLowestOwner, IsOwner}
use Rattle.sd_reclock.specs.Owning.{IsLow, IsLowerOf}
use Rattle.sd_reclock.proofs.Walks.{at_some}
use Rattle.sd_reclock.specs.Placing.{IsOneEach}
use Rattle.sd_reclock.proofs.Owners.{low_both}
use Rattle.sd_reclock.proofs.Placing.{Entry, found_row_at}
use Rattle.sd_base.proofs.Orders.{rid_cmp, look-rid, same-rid-is, not_below_itself}

abbrev pub rid_at : ℕ → Rid
rid_at p = record { page = p; slot = 0 }

-- u owns one of those in the page
abbrev pub OwnsOne : ℕ → List Entry → TxnId → Type 0
OwnsOne p rows u = (e : Entry) × Contains rows e × (e.0.page ≡ p) × (mode_of e.1 u ≡ Some modes.Excl)

-- of these rows those in front of the rest are seen
pub record IsSeen (p : ℕ) (rows rest : List Entry) (lowest : Option TxnId) : Type 0 where
  pub done : List Entry
  pub whole : done ++ rest ≡ rows
  pub low : IsLow (OwnsOne p done) lowest

nobody : (p : ℕ) (u : TxnId) → OwnsOne p [] u → ⊥
nobody p u x = let l = x.1.1 in omega (arith, l)

pub seen_start : (p : ℕ) (rows : List Entry) → IsSeen p rows rows None
seen_start p rows = record {
  done = [];
  whole = refl;
  low = record { holds = λ t e. absurd (cc e); least = λ u x. absurd (nobody p u x) };
}

low_owner : (holders : Modes) (o : Option TxnId) → IsOwner (mode_of holders) o → IsLow (λ u. mode_of holders u ≡ Some modes.Excl) o
low_owner holders None own = record { holds = λ t e. absurd (cc e); least = λ u x. absurd (own u x) }
low_owner holders (Some by) own = record {
  holds = λ t e. at_some (Some by) t (λ u. mode_of holders u ≡ Some modes.Excl) e own.0;
  least = λ u x. (by, refl, λ b. not_below_itself by (subst (λ (z : TxnId). IsBelow z by) (own.1 u x) b));
}

pub seen_more : (p : ℕ) (rows now rest : List Entry) (e : Entry) (lowest o r : Option TxnId) → now ≡ e ∷ rest → e.0.page ≡ p → IsOwner (mode_of e.1) o → IsLowerOf lowest o r
    → IsSeen p rows now lowest → IsSeen p rows rest r
seen_more p rows now rest e lowest o r step page own lower seen =
    let done = seen.done in
    record {
      done = done ++ e ∷ [];
      whole = append_assoc done (e ∷ []) rest ∙ ap (λ (xs : List Entry). done ++ xs) (sym step) ∙ seen.whole;
      low = low_both (OwnsOne p done) (λ u. mode_of e.1 u ≡ Some modes.Excl) (OwnsOne p (done ++ e ∷ [])) lowest o r seen.low (low_owner e.1 o own) lower
          (λ u x. (x.0, Contains-append_left done (e ∷ []) x.0 x.1, x.2, x.3))
          (λ u x. (e, Contains-push done e, page, x))
          (λ u x. ⊎_elim
          (λ h. inl (x.0, h, x.2, x.3))
          (λ h. inr (subst (λ (z : Entry). mode_of z.1 u ≡ Some modes.Excl) (sym h) x.3))
          (Contains-push_cases done e x.0 x.1));
    }

pub seen_past : (p : ℕ) (rows now rest : List Entry) (e : Entry) (lowest : Option TxnId) → now ≡ e ∷ rest → e.0.page ≢ p → IsSeen p rows now lowest → IsSeen p rows rest lowest
seen_past p rows now rest e lowest step other seen =
    let done = seen.done in
    record {
      done = done ++ e ∷ [];
      whole = append_assoc done (e ∷ []) rest ∙ ap (λ (xs : List Entry). done ++ xs) (sym step) ∙ seen.whole;
      low = record {
        holds = λ t e'. let x = seen.low.holds t e' in (x.0, Contains-append_left done (e ∷ []) x.0 x.1, x.2, x.3);
        least = λ u x. ⊎_elim
            (λ h. seen.low.least u (x.0, h, x.2, x.3))
            (λ h. absurd (other (ap (λ (z : Entry). z.0.page) h ∙ x.2)))
            (Contains-push_cases done e x.0 x.1);
      };
    }

-- the next one is among the rows
pub seen_next : (p : ℕ) (rows now rest : List Entry) (e : Entry) (lowest : Option TxnId) → now ≡ e ∷ rest → IsSeen p rows now lowest → Contains rows e
seen_next p rows now rest e lowest step seen = subst (λ (xs : List Entry). Contains xs e) seen.whole
    (Contains-append_right seen.done now e (subst (λ (xs : List Entry). Contains xs e) (sym step) (0, omega arith, refl)))

-- the rows are a part of the map
pub found_row : (m : BTreeMap Rid Modes) (lo hi : Bound Rid) (rows : List Entry) (e : Entry) → All (IsEntryInRange rid_cmp lo hi m) rows → Contains rows e → lookup (same_rid e.0) m.entries ≡ Some e.1
found_row m lo hi rows e all inside = sym (look-rid e.0 m.entries) ∙ (All-contains (IsEntryInRange rid_cmp lo hi m) rows e all inside).1

pub row_agrees : (records : Held) (e : Entry) → Agree records → lookup (same_rid e.0) records ≡ Some e.1 → AgreeAmong (mode_of e.1)
row_agrees records e agree is t u m n apart is_t is_u clash =
    agree e.0 t u m n apart (ap (λ (o : Option Modes). mode_among o t) is ∙ is_t) (ap (λ (o : Option Modes). mode_among o u) is ∙ is_u) clash

zero_first : (s : ℕ) → is_le (nat_cmp 0 s) ≡ true
zero_first s = grind (arith, nat_tests)

same_number : (a : ℕ) → nat_cmp a a ≡ Equal
same_number a = grind (arith, nat_tests)

next_above : (a : ℕ) → nat_cmp (a + 1) a ≡ Greater
next_above a = grind (arith, nat_tests)

-- what lies in the page lies in the range
in_page : (p s : ℕ) (hi : Bound Rid) → (hi ≡ Unbounded) ⊎ (hi ≡ Excluded (rid_at (p + 1))) → range_contains rid_cmp (Included (rid_at p)) hi (record { page = p; slot = s }) ≡ true
in_page p s hi ends = ⊎_elim
    (λ e. subst (λ (b : Bound Rid). range_contains rid_cmp (Included (rid_at p)) b (record { page = p; slot = s }) ≡ true) (sym e) (ap (λ (b : Bool). b && true) from))
    (λ e. subst (λ (b : Bound Rid). range_contains rid_cmp (Included (rid_at p)) b (record { page = p; slot = s }) ≡ true) (sym e)
    (ap (λ (b : Bool). b && not (is_le (rid_cmp (rid_at (p + 1)) (record { page = p; slot = s })))) from
    ∙ ap (λ (o : Ordering). not (is_le (ordering_then o (nat_cmp 0 s)))) (next_above p)))
    ends
  where
    from : is_le (rid_cmp (rid_at p) (record { page = p; slot = s })) ≡ true
    from = ap (λ (o : Ordering). is_le (ordering_then o (nat_cmp 0 s))) (same_number p) ∙ zero_first s

pub lowest_of : (locks : Held) (p : ℕ) (o : Option TxnId) → IsLow (OwnsIn locks p) o → IsLowestOwner locks p o
lowest_of locks p None low = λ u x. let y = low.least u x in absurd (cc y.1)
lowest_of locks p (Some by) low = (
  low.holds by refl,
  λ u x b. let y = low.least u x in y.2 (at_some (Some by) y.0 (λ z. IsBelow u z) y.1 b),
)

-- who owns a record of the page owns one of the rows
owns_one : (records : Held) (p : ℕ) (hi : Bound Rid) (rows : List Entry) → (hi ≡ Unbounded) ⊎ (hi ≡ Excluded (rid_at (p + 1)))
    → rows ≡ entries_between rid_cmp (Included (rid_at p)) hi records → (u : TxnId) → OwnsIn records p u → OwnsOne p rows u
owns_one records p hi rows ends is u owns = at (lookup (same_rid owns.rid) records) refl
  where
    tests : (k : Rid) → same_rid owns.rid k ≡ true → range_contains rid_cmp (Included (rid_at p)) hi k ≡ true
    tests k same = subst (λ (z : Rid). range_contains rid_cmp (Included (rid_at p)) hi z ≡ true) (same-rid-is owns.rid k same)
        (subst (λ (n : ℕ). range_contains rid_cmp (Included (rid_at p)) hi (record { page = n; slot = owns.rid.slot }) ≡ true) (sym owns.inside) (in_page p owns.rid.slot hi ends))

    kept : lookup (same_rid owns.rid) rows ≡ lookup (same_rid owns.rid) records
    kept = ap (λ (es : List Entry). lookup (same_rid owns.rid) es) is ∙ lookup-filter-keys (same_rid owns.rid) (λ k. range_contains rid_cmp (Included (rid_at p)) hi k) true tests records

    at : (o : Option Modes) → lookup (same_rid owns.rid) records ≡ o → OwnsOne p rows u
    at None e = let x : held_in records u owns.rid ≡ None = ap (λ (o : Option Modes). mode_among o u) e in absurd (cc (x, owns.owns))
    at (Some holders) e = (
      (owns.rid, holders),
      Contains-from_lookup same-rid-is owns.rid holders rows (kept ∙ e),
      owns.inside,
      sym (ap (λ (o : Option Modes). mode_among o u) e) ∙ owns.owns,
    )

pub seen_all : (m : BTreeMap Rid Modes) (p : ℕ) (hi : Bound Rid) (rows rest : List Entry) (lowest : Option TxnId) → (hi ≡ Unbounded) ⊎ (hi ≡ Excluded (rid_at (p + 1)))
    → rows ≡ entries_between rid_cmp (Included (rid_at p)) hi m.entries → All (IsEntryInRange rid_cmp (Included (rid_at p)) hi m) rows → rest ≡ [] → IsSeen p rows rest lowest → IsLowestOwner m.entries p lowest
seen_all m p hi rows rest lowest ends is all none seen =
    let whole : seen.done ≡ rows = sym (append-nil seen.done) ∙ ap (λ (xs : List Entry). seen.done ++ xs) (sym none) ∙ seen.whole in
    let low : IsLow (OwnsOne p rows) lowest = subst (λ (xs : List Entry). IsLow (OwnsOne p xs) lowest) whole seen.low in
    lowest_of m.entries p lowest (record {
      holds = λ t e. let x = low.holds t e in record {
        rid = x.0.0;
        inside = x.2;
        owns = ap (λ (o : Option Modes). mode_among o t) (found_row m (Included (rid_at p)) hi rows x.0 all x.1) ∙ x.3;
      };
      least = λ u x. low.least u (owns_one m.entries p hi rows ends is u x);
    })

pub same_page : (a b : ℕ) → eqb a b ≡ true → a ≡ b
same_page a b e = ⊎_elim (λ h. h) (λ ne. absurd (true≢false (sym e ∙ ne_eqb a b ne))) (cases_eq a b)

pub other_page : (a b : ℕ) → eqb a b ≡ false → a ≢ b
other_page a b e h = true≢false (sym (eq-eqb a b h) ∙ e)

pub low_from : (locks : Held) (p : ℕ) (o : Option TxnId) → IsLowestOwner locks p o → IsLow (OwnsIn locks p) o
low_from locks p None none = record { holds = λ t e. absurd (cc e); least = λ u x. absurd (none u x) }
low_from locks p (Some by) is = record {
  holds = λ t e. at_some (Some by) t (OwnsIn locks p) e is.0;
  least = λ u x. (by, refl, is.1 u x);
}

-- one of the rows that are one each
pub row_found : (rows : Held) (e : Entry) → IsOneEach rows → Contains rows e → lookup (same_rid e.0) rows ≡ Some e.1
row_found rows e one inside = subst (λ (z : Entry). lookup (same_rid z.0) rows ≡ Some z.1) inside.2 (found_row_at rows inside.0 e one inside.1)

pub seen_rows : (rows rest : List Entry) (p : ℕ) (lowest : Option TxnId) → IsOneEach rows → rest ≡ [] → IsSeen p rows rest lowest → IsLowestOwner rows p lowest
seen_rows rows rest p lowest one none seen =
    let whole : seen.done ≡ rows = sym (append-nil seen.done) ∙ ap (λ (xs : List Entry). seen.done ++ xs) (sym none) ∙ seen.whole in
    let low : IsLow (OwnsOne p rows) lowest = subst (λ (xs : List Entry). IsLow (OwnsOne p xs) lowest) whole seen.low in
    lowest_of rows p lowest (record {
      holds = λ t e. let x = low.holds t e in record {
        rid = x.0.0;
        inside = x.2;
        owns = ap (λ (o : Option Modes). mode_among o t) (row_found rows x.0 one x.1) ∙ x.3;
      };
      least = λ u x. low.least u (at u x (lookup (same_rid x.rid) rows) refl);
    })
  where
    at : (u : TxnId) (x : OwnsIn rows p u) (o : Option Modes) → lookup (same_rid x.rid) rows ≡ o → OwnsOne p rows u
    at u x None e = let y : held_in rows u x.rid ≡ None = ap (λ (o : Option Modes). mode_among o u) e in absurd (cc (y, x.owns))
    at u x (Some holders) e = (
      (x.rid, holders),
      Contains-from_lookup same-rid-is x.rid holders rows e,
      x.inside,
      sym (ap (λ (o : Option Modes). mode_among o u) e) ∙ x.owns,
    )
