-- Stacks by the indices of their records: for the goals of `Seen` and `owing`.
use Rattle.std.proofs.Common.{◌≡◌, ℕ, suc, ◌-◌, ◌<◌, Bool, List, [], ◌∷◌, ◌++◌, length, map, reverse, Option, None, Some, slice_get, slice_index_or, refl, sym, ap, subst, ◌∙◌, arith}
use Rattle.std.proofs.lemmas.List.{reverse-append}
use Rattle.std.proofs.lemmas.Option.{get_or_from_slice_get, slice_get_within}
use Rattle.std.specs.Option.{option_map}
use Rattle.sd_logrec.specs.View.{Rec, flat}
use Rattle.sd_logrec.specs.View.Kind.{Clr, Update}
use Rattle.sd_chain.specs.Records.{Each}
use Rattle.sd_chain.specs.Order.{UndoesTop}
use Rattle.std.specs.Prelude.{IsTrue, ◌↔◌}
use Rattle.sd_log.specs.declared.placed.Placed.{Placed}
use Rattle.sd_recovered.specs.Losers.{record_at, AreAt}

-- the last one, and those in front of it
pub record EndsWith {X : Type 0} (xs : List X) (x : X) : Type 0 where
  pub front : List X
  pub parts : xs ≡ front ++ x ∷ []

pub at_end : {X : Type 0} (xs : List X) (x : X) → slice_get (xs ++ x ∷ []) (length xs) ≡ Some x
at_end [] x = refl
at_end (y ∷ xs) x = at_end xs x

pub last_of : {X : Type 0} (xs : List X) (x : X) → slice_get xs (length xs - 1) ≡ Some x → EndsWith xs x
last_of [] x e = absurd (cc)
last_of (y ∷ []) x e = let same : y ≡ x = cc in record { front = []; parts = ap (λ z. z ∷ []) same }
last_of {X} (y ∷ z ∷ zs) x e =
    let less : length (y ∷ z ∷ zs) - 1 ≡ suc (length (z ∷ zs) - 1) = omega arith in
    let rest = last_of (z ∷ zs) x (sym (ap (slice_get (y ∷ z ∷ zs)) less) ∙ e) in
    record { front = y ∷ rest.front; parts = ap (λ (l : List X). y ∷ l) rest.parts }

-- the stack whose top has this index
pub record HasTop (log : List Placed) (at : ℕ) (stk : List Rec) : Type 0 where
  pub top : Rec
  pub below : List Rec
  pub is : stk ≡ top ∷ below
  pub there : record_at log at ≡ Some top

turned : (front : List ℕ) (at : ℕ) → reverse (front ++ at ∷ []) ≡ at ∷ reverse front
turned front at = reverse-append front (at ∷ [])

has_top : (log : List Placed) (at : ℕ) (front : List ℕ) (stk : List Rec)
    → map (record_at log) (at ∷ front) ≡ map (λ x. Some x) stk → HasTop log at stk
has_top log at front [] e = absurd (cc)
has_top log at front (x ∷ xs) e = record { top = x; below = xs; is = refl; there = cc }

pub top_of : (log : List Placed) (open_ones : List ℕ) (stk : List Rec) (at : ℕ) → AreAt log open_ones stk
    → slice_get open_ones (length open_ones - 1) ≡ Some at → HasTop log at stk
top_of log open_ones stk at are last =
    let ends = last_of open_ones at last in
    has_top log at (reverse ends.front) stk
    (ap (map (record_at log)) (sym (turned ends.front at)) ∙ ap (λ (l : List ℕ). map (record_at log) (reverse l)) (sym ends.parts) ∙ are)

-- the place of the log with this record
pub record Found (log : List Placed) (at : ℕ) (x : Rec) : Type 0 where
  pub placed : Placed
  pub there : slice_get log at ≡ Some placed
  pub is : flat placed.rec ≡ x

pub found : (log : List Placed) (at : ℕ) (x : Rec) → record_at log at ≡ Some x → Found log at x
found log at x e = go (slice_get log at) refl e
  where
    go : (o : Option Placed) → slice_get log at ≡ o → option_map (λ (p : Placed). flat p.rec) o ≡ Some x → Found log at x
    go None is e = absurd (cc)
    go (Some p) is e = record { placed = p; there = is; is = cc }

pub at_within : (log : List Placed) (at : ℕ) (x : Rec) → record_at log at ≡ Some x → at < length log
at_within log at x e = let f = found log at x e in slice_get_within log at f.placed f.there

pub at_is : (log : List Placed) (at : ℕ) (x : Rec) (p : Placed) → record_at log at ≡ Some x → p ≡ slice_index_or log at p
    → flat p.rec ≡ x
at_is log at x p e same =
    let f = found log at x e in
    ap (λ (q : Placed). flat q.rec) (same ∙ get_or_from_slice_get log at f.placed p f.there) ∙ f.is

-- a test of the undo by the record that the top's index names
pub undoes-top : (log : List Placed) (at : ℕ) (x y : Rec) (stk : List Rec) (b : Bool) → (top : HasTop log at stk) → y ≡ top.top
    → Each (λ x. x.kind ≡ Update) stk → x.kind ≡ Clr → (x.kind ≡ Clr → y.kind ≡ Update → IsTrue b ↔ UndoesTop x (y ∷ []))
    → IsTrue b ↔ (x.kind ≡ Clr → UndoesTop x stk)
undoes-top log at x y stk b top same updates clr test =
    let update = (subst (Each (λ (z : Rec). z.kind ≡ Update)) top.is updates).0 in
    let told = test clr (ap (λ (z : Rec). z.kind) same ∙ update) in (
      (λ yes k. subst (UndoesTop x) (sym top.is) (subst (λ (z : Rec). UndoesTop x (z ∷ [])) same (told.0 yes))),
      (λ undo. told.1 (subst (λ (z : Rec). UndoesTop x (z ∷ [])) (sym same) (subst (UndoesTop x) top.is (undo clr)))),
    )
