-- A log that is read from a later boundary: the groups behind it are read there, and there the log stands that begins there. For a
-- later start place, above.
use Rattle.std.proofs.Common.{◌≡◌, ◌∙◌, ℕ, ◌<◌, ◌≤◌, List, [], ◌∷◌, ◌++◌, filter, leb, refl, sym, ap, arith}
use Rattle.std.specs.List.{AllByRecursion}
use Rattle.sd_logrec.specs.Kept.{Group, Whole, area, reading}
use Rattle.sd_logrec.proofs.Behind.{reading-next, reading-none}
use Rattle.sd_log.specs.Logs.{LogState, StandsOn, begun_at, boundary}
use Rattle.sd_log.proofs.Places.{filter_all, filter_none}

-- the first group stands where reading begins
reading-first : (start : ℕ) (bytes : List ℕ) (groups : List Group) (gate : ℕ) → reading start bytes ≡ Whole groups gate → boundary groups gate ≡ start
reading-first start bytes [] gate e = reading-none start bytes gate e
reading-first start bytes (g ∷ gs) gate e = (reading-next start bytes g gs gate e).here

-- behind the first group reading goes on with the others
record Goes (start : ℕ) (bytes : List ℕ) (g : Group) (gs : List Group) (gate : ℕ) : Type 0 where
  pub here : g.at ≡ start
  pub above : start < boundary gs gate
  pub read : reading (boundary gs gate) bytes ≡ Whole gs gate

goes-on : (start : ℕ) (bytes : List ℕ) (g : Group) (gs : List Group) (gate : ℕ) → reading start bytes ≡ Whole (g ∷ gs) gate → Goes start bytes g gs gate
goes-on start bytes g gs gate e =
    let a = reading-next start bytes g gs gate e in
    let place : boundary gs gate ≡ a.next = reading-first a.next bytes gs gate a.read in
    let above = a.above in
    record { here = a.here; above = omega arith; read = ap (λ p. reading p bytes) place ∙ a.read }

-- so it is from any later boundary on
pub record Behind (start : ℕ) (bytes : List ℕ) (before behind : List Group) (gate : ℕ) : Type 0 where
  pub above : start ≤ boundary behind gate
  pub below : AllByRecursion (λ g. g.at < boundary behind gate) before
  pub read : reading (boundary behind gate) bytes ≡ Whole behind gate

pub reading-behind : (start : ℕ) (bytes : List ℕ) (before behind : List Group) (gate : ℕ) → reading start bytes ≡ Whole (before ++ behind) gate
    → Behind start bytes before behind gate
reading-behind start bytes [] behind gate e =
    let place : boundary behind gate ≡ start = reading-first start bytes behind gate e in
    record { above = omega arith; below = tt; read = ap (λ p. reading p bytes) place ∙ e }
reading-behind start bytes (g ∷ before) behind gate e =
    let a = goes-on start bytes g (before ++ behind) gate e in
    let r = reading-behind (boundary (before ++ behind) gate) bytes before behind gate a.read in
    let above = a.above in let far = r.above in let here = a.here in
    record { above = omega arith; below = (omega arith, r.below); read = r.read }

-- the groups stand from that place on
each-above : (start : ℕ) (bytes : List ℕ) (groups : List Group) (gate place : ℕ) → place ≤ start → reading start bytes ≡ Whole groups gate
    → AllByRecursion (λ g. place ≤ g.at) groups
each-above start bytes [] gate place le e = tt
each-above start bytes (g ∷ gs) gate place le e =
    let a = goes-on start bytes g gs gate e in let here = a.here in let above = a.above in
    (omega arith, each-above (boundary gs gate) bytes gs gate place (omega arith) a.read)

-- A log that stands on these bytes, begun at a later boundary: it has the groups behind it, and stands there so.
pub record Later (l : LogState) (bytes : List ℕ) (behind : List Group) : Type 0 where
  pub log : begun_at (boundary behind l.gate) l ≡ record l { start = boundary behind l.gate; groups = behind }
  pub stands : StandsOn (begun_at (boundary behind l.gate) l) bytes

pub later-stands : (l : LogState) (bytes : List ℕ) (before behind : List Group) → l.groups ≡ before ++ behind → StandsOn l bytes → Later l bytes behind
later-stands l bytes before behind parts stands =
    let place : ℕ = boundary behind l.gate in
    let b = reading-behind l.start (area bytes) before behind l.gate (stands ∙ ap (λ (g : List Group). Whole g l.gate) parts) in
    let groups : filter (λ (g : Group). leb place g.at) l.groups ≡ behind =
    ap (filter (λ (g : Group). leb place g.at)) parts ∙ filter_none place before behind b.below
    ∙ filter_all place behind (each-above place (area bytes) behind l.gate place (omega arith) b.read) in
    record {
      log = ap (λ (g : List Group). record l { start = place; groups = g }) groups;
      stands = b.read ∙ ap (λ (g : List Group). Whole g l.gate) (sym groups);
    }

-- the later boundary is where reading began only where nothing is in front
pub boundary-moves : (start : ℕ) (bytes : List ℕ) (before behind : List Group) (gate : ℕ) → reading start bytes ≡ Whole (before ++ behind) gate
    → boundary behind gate ≡ start → before ≡ []
boundary-moves start bytes [] behind gate e at = refl
boundary-moves start bytes (g ∷ before) behind gate e at =
    let a = goes-on start bytes g (before ++ behind) gate e in
    let r = reading-behind (boundary (before ++ behind) gate) bytes before behind gate a.read in
    let above = a.above in let far = r.above in absurd (omega arith)
