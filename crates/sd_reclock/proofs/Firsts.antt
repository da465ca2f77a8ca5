-- A lock in place in front of the others: what each change of the one or of the others leaves. It serves the goals of holders.rt.
use Rattle.std.proofs.Common.{◌≡◌, ◌≢◌, Bool, true, false, List, [], ◌∷◌, ◌++◌, Option, Some, None, refl, sym, ap, subst, ◌∙◌, ⊎_elim, cond, ◌⊎◌, inl, inr}
use Rattle.std.proofs.lemmas.Bool.{true≢false, cond-true, cond-false}
use Rattle.std.proofs.lemmas.List.Elements.{Contains-append_left, Contains-push, Contains-push_cases}
use Rattle.std.specs.Option.{IsSome}
use Rattle.std.specs.List.{Contains}
use Rattle.sd_base.specs.declared.ids.TxnId.{TxnId}
use Rattle.sd_base.specs.declared.place.Mode.{Mode}
use Rattle.sd_base.specs.Ids.{same_txn, IsBelow}
use Rattle.sd_base.specs.Waits.{Clash}
use Rattle.sd_reclock.specs.Locks.{Modes, mode_of, raised, ClashesIn, IsLowestHolder}
use Rattle.sd_reclock.specs.Holding.{with_first, first_of, IsApart}
use Rattle.sd_reclock.specs.Owning.{IsLow, IsLowerOf}
use Rattle.sd_reclock.specs.Reaching.{AreThose}
use Rattle.sd_reclock.proofs.Owners.{Row, first_mode, low_both}
use Rattle.sd_base.proofs.SameIds.{cases_txn, ne-same}
use Rattle.sd_base.proofs.Orders.{same-txn, same-txn-is, not_below_itself}

abbrev pub First : Type 0
First = Option Row

-- t's lock is w now, and all others are what they were
abbrev pub Puts : Modes → Modes → TxnId → Option Mode → Type 0
Puts old new t w = (u : TxnId) → mode_of new u ≡ cond {A = Option Mode} (same_txn t u) w (mode_of old u)

-- the lock in place isn't t's
abbrev pub IsOther : First → TxnId → Type 0
IsOther first t = (mode : Mode) → first ≡ Some (t, mode) → ⊥

pub other_none : (first : First) (t : TxnId) → first ≡ None → IsOther first t
other_none first t is mode e = cc

-- the lock in place is one
pub one_row : (first : First) (a b : Row) → first ≡ Some a → first ≡ Some b → a ≡ b
one_row first a b is also = cc

pub other_row : (first : First) (u t : TxnId) (m : Mode) → first ≡ Some (u, m) → same_txn u t ≡ false → IsOther first t
other_row first u t m is apart mode e =
    true≢false (sym (same-txn u) ∙ ap (λ (r : Row). same_txn u r.0) (one_row first (u, m) (t, mode) is e) ∙ apart)

here : (t : TxnId) (m : Mode) (others : Modes) → mode_of ((t, m) ∷ others) t ≡ Some m
here t m others = first_mode ((t, m) ∷ others) others (t, m) refl

pub past : (first : First) (others : Modes) (t : TxnId) → IsOther first t → mode_of (with_first first others) t ≡ mode_of others t
past None others t other = refl
past (Some row) others t other = cond-false (same_txn t row.0) (Some row.1) (mode_of others t) (ne-same t row.0 (λ e. other row.1 (ap (λ (x : TxnId). Some (x, row.1)) (sym e))))

-- where the lock in place is the only one, and isn't t's
pub lacks_all : (first : First) (others old : Modes) (t : TxnId) → with_first first others ≡ old → others ≡ [] → IsOther first t → mode_of old t ≡ None
lacks_all first others old t view none other = ap (λ (h : Modes). mode_of h t) (sym view) ∙ past first others t other ∙ ap (λ (h : Modes). mode_of h t) none

row_past : (u x : TxnId) (m : Mode) (others : Modes) → u ≢ x → mode_of ((u, m) ∷ others) x ≡ mode_of others x
row_past u x m others ne = cond-false (same_txn x u) (Some m) (mode_of others x) (ne-same x u (λ e. ne (sym e)))

-- the holders with this lock in place
pub was_row : (first : First) (others old : Modes) (u : TxnId) (m : Mode) → with_first first others ≡ old → first ≡ Some (u, m) → old ≡ (u, m) ∷ others
was_row first others old u m view is = sym view ∙ ap (λ (f : First). with_first f others) is

pub is_first : (first : First) (others old : Modes) (u t : TxnId) (m : Mode) → with_first first others ≡ old → first ≡ Some (u, m) → u ≡ t → mode_of old t ≡ Some m
is_first first others old u t m view is same = subst (λ (z : TxnId). mode_of old z ≡ Some m) same (first_mode old others (u, m) (was_row first others old u m view is))

-- a change of the others
swap : (a b : Bool) (x w y z : Option Mode) → (a ≡ true → b ≡ false) → z ≡ cond {A = Option Mode} b w y → cond {A = Option Mode} a x z ≡ cond {A = Option Mode} b w (cond {A = Option Mode} a x y)
swap true true x w y z h e = absurd (true≢false (h refl))
swap true false x w y z h e = refl
swap false b x w y z h e = e

pub behind : (first : First) (others new : Modes) (t : TxnId) (w : Option Mode) → IsOther first t → Puts others new t w → Puts (with_first first others) (with_first first new) t w
behind None others new t w other puts u = puts u
behind (Some row) others new t w other puts u = swap (same_txn u row.0) (same_txn t u) (Some row.1) w (mode_of others u) (mode_of new u)
    (λ h. ne-same t u (λ e. other row.1 (ap (λ (x : TxnId). Some (x, row.1)) (sym (same-txn-is u row.0 h) ∙ sym e)))) (puts u)

pub apart_behind : (first : First) (others new : Modes) (t : TxnId) (w : Option Mode) → IsOther first t → IsApart first others → Puts others new t w → IsApart first new
apart_behind first others new t w other apart puts u m is = puts u
    ∙ cond-false (same_txn t u) w (mode_of others u) (ne-same t u (λ e. other m (is ∙ ap (λ (x : TxnId). Some (x, m)) (sym e)))) ∙ apart u m is

-- a change of the lock in place
puts_by : (old new : Modes) (t : TxnId) (w : Option Mode) → mode_of new t ≡ w → ((u : TxnId) → t ≢ u → mode_of new u ≡ mode_of old u) → Puts old new t w
puts_by old new t w at off u = ⊎_elim
    (λ e. subst (λ (z : TxnId). mode_of new z ≡ cond {A = Option Mode} (same_txn t z) w (mode_of old z)) e (at ∙ sym (cond-true (same_txn t t) w (mode_of old t) (same-txn t))))
    (λ ne. off u ne ∙ sym (cond-false (same_txn t u) w (mode_of old u) (ne-same t u ne)))
    (cases_txn t u)

off_row : (first : First) (others old : Modes) (u t : TxnId) (m : Mode) → with_first first others ≡ old → first ≡ Some (u, m) → u ≡ t → (x : TxnId) → t ≢ x → mode_of others x ≡ mode_of old x
off_row first others old u t m view is same x ne = sym (ap (λ (h : Modes). mode_of h x) (was_row first others old u m view is) ∙ row_past u x m others (λ e. ne (sym same ∙ e)))

pub put_in_place : (first : First) (others old : Modes) (u t : TxnId) (had mode new : Mode) → with_first first others ≡ old → first ≡ Some (u, had) → u ≡ t → new ≡ raised (Some had) mode
    → Puts old ((u, new) ∷ others) t (Some (raised (mode_of old t) mode))
put_in_place first others old u t had mode new view is same raised_is = puts_by old ((u, new) ∷ others) t (Some (raised (mode_of old t) mode))
    (subst (λ (z : TxnId). mode_of ((u, new) ∷ others) z ≡ Some new) same (here u new others)
    ∙ ap (λ (m : Mode). Some m) (raised_is ∙ ap (λ (o : Option Mode). raised o mode) (sym (is_first first others old u t had view is same))))
    (λ x ne. row_past u x new others (λ e. ne (sym same ∙ e)) ∙ off_row first others old u t had view is same x ne)

pub alone : (t : TxnId) (mode : Mode) → Puts [] ((t, mode) ∷ []) t (Some mode)
alone t mode = puts_by [] ((t, mode) ∷ []) t (Some mode) (here t mode []) (λ x ne. row_past t x mode [] ne)

pub put_alone : (first : First) (others old : Modes) (t : TxnId) (mode : Mode) → with_first first others ≡ old → first ≡ None → others ≡ [] → Puts old ((t, mode) ∷ others) t (Some (raised (mode_of old t) mode))
put_alone first others old t mode view is none = puts_by old ((t, mode) ∷ others) t (Some (raised (mode_of old t) mode))
    (here t mode others ∙ ap (λ (h : Modes). Some (raised (mode_of h t) mode)) (sym none ∙ same))
    (λ x ne. row_past t x mode others ne ∙ ap (λ (h : Modes). mode_of h x) same)
  where
    same : others ≡ old
    same = ap (λ (f : First). with_first f others) (sym is) ∙ view

pub lower_in_place : (first row : First) (others old : Modes) (u t : TxnId) (had : Mode) (to : Option Mode) → with_first first others ≡ old → first ≡ Some (u, had) → u ≡ t → row ≡ first_of u to → IsApart first others
    → Puts old (with_first row others) t to
lower_in_place first row others old u t had to view is same row_is apart = subst (λ (r : First). Puts old (with_first r others) t to) (sym row_is) (by to)
  where
    by : (o : Option Mode) → Puts old (with_first (first_of u o) others) t o
    by None = puts_by old others t None (subst (λ (z : TxnId). mode_of others z ≡ None) same (apart u had is)) (off_row first others old u t had view is same)
    by (Some m) = puts_by old ((u, m) ∷ others) t (Some m)
        (subst (λ (z : TxnId). mode_of ((u, m) ∷ others) z ≡ Some m) same (here u m others))
        (λ x ne. row_past u x m others (λ e. ne (sym same ∙ e)) ∙ off_row first others old u t had view is same x ne)

-- those that clash, where one lock stands in place
pub clash_past : (others : Modes) (t not : TxnId) (held mode : Mode) (all : List TxnId) → mode_of others t ≡ None → (not ≢ t → Clash mode held → ⊥) → AreThose (ClashesIn others not mode) all
    → AreThose (ClashesIn ((t, held) ∷ others) not mode) all
clash_past others t not held mode all none free those u = (
  λ h. let x = (those u).0 h in (x.0, (x.1.0, row_past t u held others (apart x.1.0 x.1.1) ∙ x.1.1, x.1.2)),
  λ h. ⊎_elim
      (λ e. let z : Some h.1.0 ≡ Some held = sym h.1.1 ∙ subst (λ (y : TxnId). mode_of ((t, held) ∷ others) y ≡ Some held) e (here t held others) in
      let same : h.1.0 ≡ held = cc in
      absurd (free (λ k. h.0 (k ∙ e)) (subst (λ (m : Mode). Clash mode m) same h.1.2)))
      (λ ne. (those u).1 (h.0, (h.1.0, sym (row_past t u held others ne) ∙ h.1.1, h.1.2)))
      (cases_txn t u),
)
  where
    apart : (m : Mode) → mode_of others u ≡ Some m → t ≢ u
    apart m is e = let k : mode_of others u ≡ None = subst (λ (z : TxnId). mode_of others z ≡ None) e none in let z : None ≡ Some m = sym k ∙ is in cc

pub clash_more : (others : Modes) (t not : TxnId) (held mode : Mode) (all : List TxnId) → mode_of others t ≡ None → not ≢ t → Clash mode held → AreThose (ClashesIn others not mode) all
    → AreThose (ClashesIn ((t, held) ∷ others) not mode) (all ++ t ∷ [])
clash_more others t not held mode all none other clash those u = (
  λ h. ⊎_elim
      (λ k. let x = (those u).0 k in (x.0, (x.1.0, row_past t u held others (apart x.1.0 x.1.1) ∙ x.1.1, x.1.2)))
      (λ e. subst (λ (z : TxnId). ClashesIn ((t, held) ∷ others) not mode z) e (other, (held, here t held others, clash)))
      (Contains-push_cases all t u h),
  λ h. ⊎_elim
      (λ e. subst (λ (z : TxnId). Contains (all ++ t ∷ []) z) e (Contains-push all t))
      (λ ne. Contains-append_left all (t ∷ []) u ((those u).1 (h.0, (h.1.0, sym (row_past t u held others ne) ∙ h.1.1, h.1.2))))
      (cases_txn t u),
)
  where
    apart : (m : Mode) → mode_of others u ≡ Some m → t ≢ u
    apart m is e = let k : mode_of others u ≡ None = subst (λ (z : TxnId). mode_of others z ≡ None) e none in let z : None ≡ Some m = sym k ∙ is in cc

-- the lowest of all is the lower of the one in place and the lowest of the others
abbrev IsHolder : (TxnId → Option Mode) → TxnId → TxnId → Type 0
IsHolder f not u = (not ≢ u) × IsSome (f u)

low_of : (f : TxnId → Option Mode) (not : TxnId) (o : Option TxnId) → IsLowestHolder f not o → IsLow (IsHolder f not) o
low_of f not None h = record {
  holds = λ t e. absurd (cc);
  least = λ u p. let P : Option Mode → Type 0 = λ m. IsSome m in absurd (true≢false (sym (subst P (h u p.0) p.1)));
}
low_of f not (Some by) h = record {
  holds = λ t e. let k : by ≡ t = cc in subst (λ (z : TxnId). IsHolder f not z) k (h.0, h.1);
  least = λ u p. (by, refl, h.2 u p.0 p.1);
}

from_low : (f : TxnId → Option Mode) (not : TxnId) (o : Option TxnId) → IsLow (IsHolder f not) o → IsLowestHolder f not o
from_low f not None low = λ u ne. at u ne (f u) refl
  where
    at : (u : TxnId) → not ≢ u → (m : Option Mode) → f u ≡ m → f u ≡ None
    at u ne None e = e
    at u ne (Some m) e = let P : Option Mode → Type 0 = λ x. IsSome x in let x = low.least u (ne, subst P (sym e) refl) in absurd (cc (x.1))
from_low f not (Some by) low = let h = low.holds by refl in (
  h.0,
  h.1,
  λ u ne some below. let x = low.least u (ne, some) in let k : by ≡ x.0 = cc (x.1) in x.2 (subst (λ (z : TxnId). IsBelow u z) k below),
)

some_more : (first : First) (others : Modes) (u : TxnId) → IsSome (mode_of (with_first first []) u) → IsSome (mode_of (with_first first others) u)
some_more None others u h = absurd (true≢false (sym h))
some_more (Some row) others u h = by (same_txn u row.0) h
  where
    by : (b : Bool) → IsSome (cond {A = Option Mode} b (Some row.1) None) → IsSome (cond {A = Option Mode} b (Some row.1) (mode_of others u))
    by true h = refl
    by false h = absurd (true≢false (sym h))

some_behind : (first : First) (others : Modes) (u : TxnId) → IsSome (mode_of others u) → IsSome (mode_of (with_first first others) u)
some_behind None others u h = h
some_behind (Some row) others u h = by (same_txn u row.0)
  where
    by : (b : Bool) → IsSome (cond {A = Option Mode} b (Some row.1) (mode_of others u))
    by true = refl
    by false = h

some_either : (first : First) (others : Modes) (u : TxnId) → IsSome (mode_of (with_first first others) u) → IsSome (mode_of (with_first first []) u) ⊎ IsSome (mode_of others u)
some_either None others u h = inr h
some_either (Some row) others u h = by (same_txn u row.0) h
  where
    by : (b : Bool) → IsSome (cond {A = Option Mode} b (Some row.1) (mode_of others u)) → IsSome (cond {A = Option Mode} b (Some row.1) None) ⊎ IsSome (mode_of others u)
    by true h = inl refl
    by false h = inr h

pub lowest_both : (first : First) (others : Modes) (not : TxnId) (a b o : Option TxnId) → IsLowestHolder (mode_of (with_first first [])) not a → IsLowestHolder (mode_of others) not b → IsLowerOf a b o
    → IsLowestHolder (mode_of (with_first first others)) not o
lowest_both first others not a b o low high lower = from_low (mode_of (with_first first others)) not o
    (low_both (IsHolder (mode_of (with_first first [])) not) (IsHolder (mode_of others) not) (IsHolder (mode_of (with_first first others)) not) a b o
    (low_of (mode_of (with_first first [])) not a low) (low_of (mode_of others) not b high) lower
    (λ u p. (p.0, some_more first others u p.1))
    (λ u p. (p.0, some_behind first others u p.1))
    (λ u p. ⊎_elim (λ h. inl (p.0, h)) (λ h. inr (p.0, h)) (some_either first others u p.1)))

pub first_low : (first : First) (not t : TxnId) (m : Mode) → first ≡ Some (t, m) → not ≢ t → IsLowestHolder (mode_of (with_first first [])) not (Some t)
first_low first not t m is other = subst (λ (f : First). IsLowestHolder (mode_of (with_first f [])) not (Some t)) (sym is) (
  other,
  (let P : Option Mode → Type 0 = λ x. IsSome x in subst P (sym (here t m [])) refl),
  λ u ne some below. ⊎_elim
      (λ e. not_below_itself t (subst (λ (z : TxnId). IsBelow z t) (sym e) below))
      (λ apart. let P : Option Mode → Type 0 = λ x. IsSome x in true≢false (sym (subst P (row_past t u m [] apart) some)))
      (cases_txn t u),
)

pub first_none : (first : First) (not : TxnId) → ((t : TxnId) (m : Mode) → first ≡ Some (t, m) → not ≡ t) → IsLowestHolder (mode_of (with_first first [])) not None
first_none first not same u ne = past first [] u (λ m e. ne (same u m e))
