-- The rule of a turnstile over plain data. V is the value in the slot, E what its history is made of.
use Rattle.std.specs.Prelude.{◌≡◌, ◌≢◌, ◌⊎◌, ◌==◌, ℕ, ◌+◌, ◌-◌, ◌%◌, ◌<◌, ◌≤◌, List, [], ◌∷◌, ◌++◌, length, Option, Some, None, Bool, true, false, cond, nat_lt}
use mathlib.Core.Option.{none, some}
use mathlib.Core.Option as M
use mathlib.Core.List.{IsPrefix}
use lib.ListN.{get_elem?}
use Rattle.atomic_table.specs.Table.{State, Me}
use Rattle.sd_turnstile.specs.Turns.{IsLed, IsNext}
use Rattle.sd_turnstile.specs.declared.shift.Turn.{Turn}
use Rattle.sd_turnstile.specs.declared.rule.View.{View}

abbrev pub total : {A : Type 0} → (A → ℕ) → List A → ℕ
total f [] = 0
total f (x ∷ xs) = f x + total f xs

abbrev pub one : Bool → ℕ
one true = 1
one false = 0

abbrev pub times : ℕ → List ℕ → ℕ
times n [] = 0
times n (x ∷ xs) = one (x == n) + times n xs

abbrev pub has : {A : Type 0} → Option A → ℕ
has None = 0
has (Some t) = 1

abbrev pub holds : ℕ → Option ℕ → ℕ
holds t None = 0
holds t (Some k) = one (k == t)

-- one below n
abbrev pub below : ℕ → ℕ → ℕ
below p n = one (nat_lt p n)

-- the places that are new where a history of length m became one of length n
abbrev pub added : ℕ → ℕ → List ℕ
added m n = cond (nat_lt m n) (m ∷ []) []

abbrev pub longer : {E : Type 0} → List E → List E → List E
longer xs ys = cond (nat_lt (length xs) (length ys)) ys xs

module _ {V E : Type 0} where
  abbrev pub view : List E → List ℕ → ℕ → Option ℕ → Bool → Option V → View V E
  view seen mine parts ticket serving out = record {
    seen = seen;
    mine = mine;
    parts = parts;
    ticket = ticket;
    serving = serving;
    out = out;
  }

  abbrev pub left_of : View V E → View V E
  left_of v = view v.seen v.mine (v.parts - 1) v.ticket v.serving v.out

  abbrev pub right_of : View V E → View V E
  right_of v = view v.seen [] 1 None false None

  abbrev pub both_of : View V E → View V E → View V E
  both_of v w = view (longer v.seen w.seen) (v.mine ++ w.mine) (v.parts + w.parts) None false None

  abbrev pub spent_view : View V E
  spent_view = view [] [] 0 None false None

  -- a view is calm outside of a turn
  abbrev pub Calm : View V E → Type 0
  Calm v = (v.ticket ≡ None) × (v.serving ≡ false) × (v.out ≡ None)

  -- the ticket that was drawn
  abbrev pub Draws : Me (Option V) (View V E) → ℕ → Me (Option V) (View V E) → Type 0
  Draws v found w = (t : ℕ) × (w ≡ (view v.0.seen v.0.mine v.0.parts (Some t) false None, v.1))
      × (t % 18446744073709551616 ≡ found)

  -- the ticket is given up
  abbrev pub Leaves : Me (Option V) (View V E) → Me (Option V) (View V E) → Type 0
  Leaves v w = w ≡ (view v.0.seen v.0.mine v.0.parts None false None, v.1)

module _ {V E : Type 0} (history : V → List E) (stands : V → Type 0) (turns : V → ℕ → Turn → V → Type 0) where
  -- turns led there from the first value, and it is one from which a turn may be made
  pub record IsFrom (first x : V) : Type 0 where
    pub led : IsLed turns first x
    pub stood : stands x

  -- A view with a ticket has a part. Its ticket was drawn, and none behind it has been served. What it has seen begins the history.
  -- Where the value is out with it, it has the served ticket, has seen all, and the value came from the first one. A view without a
  -- part has no place.
  pub record Fits (first : V) (served next : ℕ) (log : List E) (v : View V E) : Type 0 where
    pub part : has v.ticket ≤ v.parts
    pub drawn : (t : ℕ) → 0 < holds t v.ticket → (served ≤ t) × (t < next)
    pub begins : IsPrefix v.seen log
    pub serves : one v.serving ≤ holds served v.ticket
    pub outside : has v.out ≤ one v.serving
    pub knows : (x : V) → v.out ≡ Some x → (v.seen ≡ log) × IsFrom first x
    pub idle : v.parts ≡ 0 → v.mine ≡ []

  -- each place behind those of the first value's history, and below the end, is in one view, once
  pub record Views (key : ℕ) (first : V) (served next : ℕ) (log : List E) (out : ℕ) (views : List (View V E)) : Type 0 where
    pub few : key < 4294967296
    pub parts : total (λ v. v.parts) views ≡ key
    pub waiting : next ≡ served + total (λ v. has v.ticket) views
    pub alone : (t : ℕ) → total (λ v. holds t v.ticket) views ≤ 1
    pub places : (p : ℕ) → total (λ v. times p v.mine) views + below p (length (history first)) ≡ below p (length log)
    pub outs : total (λ v. has v.out) views ≡ out
    pub fit : (id : ℕ) (v : View V E) → get_elem? views id ≡ some v → Fits first served next log v

  -- the value is home with this history, or it went out with it
  abbrev pub Home : V → List E → ℕ → List (M.Option (Option V)) → Type 0
  Home first log out homes =
      ((v : V) × (homes ≡ some (Some v) ∷ []) × (history v ≡ log) × (out ≡ 0) × IsFrom first v)
      ⊎ ((homes ≡ none ∷ []) × (out ≡ 1))

  pub record Stands (key : ℕ) (first : V) (s : State (Option V) (View V E)) : Type 0 where
    pub served : ℕ
    pub next : ℕ
    pub log : List E
    pub out : ℕ
    pub words : s.words ≡ next % 18446744073709551616 ∷ served % 18446744073709551616 ∷ length log ∷ []
    pub home : Home first log out s.homes
    pub views : Views key first served next log out s.views

module _ {V E : Type 0} (history : V → List E) (stands : V → Type 0) where
  -- the ticket was found served: the value is out with the seat, which has seen its history; or nothing changed
  abbrev pub Takes : Me (Option V) (View V E) → ℕ → Me (Option V) (View V E) → Type 0
  Takes v t w = (x : V) × (w ≡ (view (history x) v.0.mine v.0.parts (Some t) true (Some x), (0, Some x) ∷ v.1))
      × IsPrefix v.0.seen (history x) × stands x

  abbrev pub Serves : Me (Option V) (View V E) → ℕ → Me (Option V) (View V E) → Type 0
  Serves v found w = (t : ℕ) × (v.0.ticket ≡ Some t) × ((found ≡ t % 18446744073709551616) → Takes v t w)
      × ((found ≢ t % 18446744073709551616) → w ≡ v)

  -- the value is out with the seat, whose ticket is served
  abbrev pub IsOut : Me (Option V) (View V E) → Type 0
  IsOut v = (t : ℕ) × (x : V) × (v ≡ (view (history x) v.0.mine v.0.parts (Some t) true (Some x), (0, Some x) ∷ [])) × stands x

module _ {V E : Type 0} (history : V → List E) where
  abbrev pub Raises : Me (Option V) (View V E) → Me (Option V) (View V E) → Type 0
  Raises v w = (x : V) × (t : ℕ) × (v.1 ≡ (0, Some x) ∷ []) × (v.0.ticket ≡ Some t)
      × (w ≡ (view (history x) (v.0.mine ++ added (length v.0.seen) (length (history x))) v.0.parts (Some t) true None, []))

-- A turn of the instance was made on a value whose history begins with all that was seen; what it added is at the end of what is
-- seen now, and its place is mine.
pub record Makes {V E : Type 0} (history : V → List E) (stands : V → Type 0) (turns : V → ℕ → Turn → V → Type 0)
    (v : View V E) (inst : ℕ) (answer : Turn) (w : View V E) : Type 0 where
  pub before : V
  pub behind : V
  pub begins : IsPrefix v.seen (history before)
  pub stood : stands before
  pub made : turns before inst answer behind
  pub next : IsNext (history before) (history behind) answer
  pub seen : w.seen ≡ history behind
  pub mine : w.mine ≡ v.mine ++ added (length (history before)) (length w.seen)
