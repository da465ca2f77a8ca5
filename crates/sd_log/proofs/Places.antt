-- Groups that stand one behind the other: how they end, and those behind one of their boundaries. It serves the goals of log.rt
-- and of crates above.
use Rattle.std.proofs.Common.{◌≡◌, ◌∙◌, ℕ, ◌+◌, ◌*◌, ◌<◌, ◌≤◌, Bool, cond, true, List, [], ◌∷◌, ◌++◌, length, filter, leb, refl, sym, ap, subst, arith, length-append}
use Rattle.std.specs.Prelude.{map}
use Rattle.std.specs.List.{AllByRecursion}
use Rattle.std.proofs.lemmas.Bool.{le-leb, lt-leb}
use Rattle.std.proofs.lemmas.List.{length-map}
use Rattle.sd_logrec.specs.Kept.{Group, spelled}
use Rattle.sd_log.specs.Logs.{ArePlaced, boundary, placed, placed_groups}
use Rattle.sd_log.specs.Spellings.{record_in}
use Rattle.sd_log.proofs.Tails.{least_bytes}

-- the first of them stands where they begin
pub first_place : (start gate : ℕ) (gs : List Group) → ArePlaced start gate gs → boundary gs gate ≡ start
first_place start gate [] are = sym are
first_place start gate (g ∷ gs) are = are.0

-- each record takes nine bytes at least
pub placed_bytes : (start gate : ℕ) (gs : List Group) → ArePlaced start gate gs → start + 9 * length (placed_groups gs) ≤ gate
placed_bytes start gate [] are = omega (arith, are)
placed_bytes start gate (g ∷ gs) are =
    let room = are.1 in
    omega (
      arith,
      room,
      placed_bytes (boundary gs gate) gate gs are.2,
      least_bytes (map record_in g.records),
      length-map g.records record_in,
      length-map g.records (placed true),
      length-append (map (placed true) g.records) (placed_groups gs),
    )

boundary_more : (gate next : ℕ) (gs : List Group) (g : Group) → g.at ≡ gate → boundary (gs ++ g ∷ []) next ≡ boundary gs gate
boundary_more gate next [] g at = at
boundary_more gate next (x ∷ gs) g at = refl

-- one more behind them
pub placed_more : (start gate next : ℕ) (gs : List Group) (g : Group) → ArePlaced start gate gs → g.at ≡ gate → gate + 5 + length (spelled (map record_in g.records)) ≤ next
    → ArePlaced start next (gs ++ g ∷ [])
placed_more start gate next [] g are at room = (at ∙ sym are, omega (arith, are, room), refl)
placed_more start gate next (x ∷ gs) g are at room =
    let place = boundary_more gate next gs g at in
    let here = are.1 in (
      are.0,
      omega arith,
      subst (λ n. ArePlaced n next (gs ++ g ∷ [])) (sym place) (placed_more (boundary gs gate) gate next gs g are.2 at room),
    )

-- ---- behind a boundary

pub placed_behind : (start gate : ℕ) (before behind : List Group) → ArePlaced start gate (before ++ behind) → ArePlaced (boundary behind gate) gate behind
placed_behind start gate [] behind are = subst (λ n. ArePlaced n gate behind) (sym (first_place start gate behind are)) are
placed_behind start gate (g ∷ before) behind are = placed_behind (boundary (before ++ behind) gate) gate before behind are.2

pub place_above : (start gate : ℕ) (before behind : List Group) → ArePlaced start gate (before ++ behind) → start ≤ boundary behind gate
place_above start gate [] behind are = omega (arith, first_place start gate behind are)
place_above start gate (g ∷ before) behind are = let room = are.1 in let above = place_above (boundary (before ++ behind) gate) gate before behind are.2 in omega arith

all_below : (start gate : ℕ) (before behind : List Group) → ArePlaced start gate (before ++ behind) → AllByRecursion (λ g. g.at < boundary behind gate) before
all_below start gate [] behind are = tt
all_below start gate (g ∷ before) behind are =
    let here = are.0 in let room = are.1 in let above = place_above (boundary (before ++ behind) gate) gate before behind are.2 in
    (omega arith, all_below (boundary (before ++ behind) gate) gate before behind are.2)

all_above : (place start gate : ℕ) (gs : List Group) → place ≤ start → ArePlaced start gate gs → AllByRecursion (λ g. place ≤ g.at) gs
all_above place start gate [] le are = tt
all_above place start gate (g ∷ gs) le are =
    let here = are.0 in let room = are.1 in (omega arith, all_above place (boundary gs gate) gate gs (omega arith) are.2)

pub filter_all : (place : ℕ) (gs : List Group) → AllByRecursion (λ g. place ≤ g.at) gs → filter (λ g. leb place g.at) gs ≡ gs
filter_all place [] all = refl
filter_all place (g ∷ gs) all =
    let rest : List Group = filter (λ x. leb place x.at) gs in
    ap (λ (b : Bool). cond b (g ∷ rest) rest) (le-leb place g.at all.0) ∙ ap (λ (l : List Group). g ∷ l) (filter_all place gs all.1)

pub filter_none : (place : ℕ) (before behind : List Group) → AllByRecursion (λ g. g.at < place) before
    → filter (λ g. leb place g.at) (before ++ behind) ≡ filter (λ g. leb place g.at) behind
filter_none place [] behind all = refl
filter_none place (g ∷ before) behind all =
    let rest : List Group = filter (λ x. leb place x.at) (before ++ behind) in
    ap (λ (b : Bool). cond b (g ∷ rest) rest) (lt-leb place g.at all.0) ∙ filter_none place before behind all.1

-- the groups from that place on are those behind it
pub behind_filter : (start gate : ℕ) (before behind : List Group) → ArePlaced start gate (before ++ behind)
    → filter (λ g. leb (boundary behind gate) g.at) (before ++ behind) ≡ behind
behind_filter start gate before behind are =
    filter_none (boundary behind gate) before behind (all_below start gate before behind are)
    ∙ filter_all (boundary behind gate) behind (all_above (boundary behind gate) (boundary behind gate) gate behind (omega arith) (placed_behind start gate before behind are))
