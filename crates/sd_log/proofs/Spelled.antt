-- The records that are read have a spelling. It serves the goals of log.rt.
use Rattle.std.proofs.Common.{◌≡◌, ℕ, zero, suc, ◌+◌, ◌*◌, ◌≤◌, Bool, true, false, List, [], ◌∷◌, ◌++◌, length, take, drop, refl, sym, ap, ◌∙◌, subst, arith, length-append}
use Rattle.std.specs.Prelude.{Result, Ok, Err, Option, Some, None, map}
use Rattle.std.specs.List.{AllByRecursion}
use Rattle.std.proofs.lemmas.List.Elements.{All-from_recursion}
use Rattle.sd_base.specs.Twin.{is_open}
use Rattle.sd_logrec.specs.declared.record.Record.{Record}
use Rattle.sd_logrec.specs.Fronts.{front_at, front_then, front_within, fronts_within}
use Rattle.sd_logrec.specs.Kept.{Records, fits_area, group_len, record_before, record_then, records_at, records_within, spelled}
use Rattle.sd_logrec.specs.Reading.{record_at}
use Rattle.sd_logrec.specs.Spelling.{HasSpelling, spelling}
use Rattle.sd_logrec.proofs.Formats.{IsBytes, IsBytes-drop, IsBytes-take}
use Rattle.sd_logrec.proofs.Records.{record_takes}
use Rattle.sd_logrec.proofs.WholeFronts.{step}
use Rattle.std.proofs.lemmas.List.{drop_at}
use Rattle.sd_log.specs.declared.placed.Placed.{Placed}
use Rattle.sd_log.specs.Logs.{AreSpelled}
use Rattle.sd_log.specs.Marks.{entry}
use Rattle.sd_log.specs.Spellings.{record_in}
use Rattle.sd_log.proofs.Tails.{least_spelling}

-- placed records of the grammar
abbrev pub Spelled : Records → Type 0
Spelled rs = AllByRecursion (λ r. HasSpelling r.1) rs

-- what made whole records: the first one, and those behind it
record Front (at : ℕ) (o : Option (Record × List ℕ)) (behind : ℕ → List ℕ → Result Records ℕ) (rs : Records) : Type 0 where
  pub first : Record × List ℕ
  pub more : Records
  pub found : o ≡ Some first
  pub rest : behind (at + length (spelling first.0)) first.1 ≡ Ok more
  pub all : rs ≡ (at, first.0) ∷ more

before_ok : (at : ℕ) (r : Record) (read : Result Records ℕ) (rs : Records) → record_before at r read ≡ Ok rs → (more : Records) × (read ≡ Ok more) × (rs ≡ (at, r) ∷ more)
before_ok at r (Ok more) rs e = (more, refl, cc)
before_ok at r (Err place) rs e = absurd (cc)

then_ok : (at : ℕ) (o : Option (Record × List ℕ)) (behind : ℕ → List ℕ → Result Records ℕ) (rs : Records) → record_then at o behind ≡ Ok rs → Front at o behind rs
then_ok at None behind rs e = absurd (cc)
then_ok at (Some x) behind rs e =
    let p = before_ok at x.0 (behind (at + length (spelling x.0)) x.1) rs e in
    record { first = x; more = p.0; found = refl; rest = p.1; all = p.2 }

-- what stands behind the first bytes
behind_bytes : (a b bytes : List ℕ) → bytes ≡ a ++ b → IsBytes bytes → IsBytes b
behind_bytes a b bytes e are = subst IsBytes (ap (drop (length a)) e ∙ drop_at a b (length a) refl) (IsBytes-drop (length a) bytes are)

within_spelled : (n at : ℕ) (body : List ℕ) (rs : Records) → IsBytes body → records_within n at body ≡ Ok rs → Spelled rs
unfolding records_within
within_spelled n at [] rs are e = let none : rs ≡ [] = cc in subst Spelled (sym none) tt
within_spelled zero at (b ∷ body) rs are e = absurd (cc)
within_spelled (suc n) at (b ∷ body) rs are e =
    let f = then_ok at (record_at (b ∷ body)) (records_within n) rs e in
    let t = record_takes (b ∷ body) f.first are f.found in
    let more : Spelled f.more = within_spelled n (at + length (spelling f.first.0)) f.first.1 f.more (behind_bytes (spelling f.first.0) f.first.1 (b ∷ body) t.0 are) f.rest in
    subst Spelled (sym f.all) (t.1, more)

-- each record of a body takes nine bytes of it at least
pub within_bytes : (n at : ℕ) (body : List ℕ) (rs : Records) → IsBytes body → records_within n at body ≡ Ok rs → 9 * length rs ≤ length body
unfolding records_within
within_bytes n at [] rs are e = let none : rs ≡ [] = cc in omega (arith, ap length none)
within_bytes zero at (b ∷ body) rs are e = absurd (cc)
within_bytes (suc n) at (b ∷ body) rs are e =
    let f = then_ok at (record_at (b ∷ body)) (records_within n) rs e in
    let t = record_takes (b ∷ body) f.first are f.found in
    let more = within_bytes n (at + length (spelling f.first.0)) f.first.1 f.more (behind_bytes (spelling f.first.0) f.first.1 (b ∷ body) t.0 are) f.rest in
    omega (arith, more, ap length f.all, ap length t.0, length-append (spelling f.first.0) f.first.1, least_spelling f.first.0)

-- and they take exactly its bytes
pub within_text : (n at : ℕ) (body : List ℕ) (rs : Records) → IsBytes body → records_within n at body ≡ Ok rs → length (spelled (map record_in rs)) ≡ length body
unfolding records_within
within_text n at [] rs are e = let none : rs ≡ [] = cc in ap (λ (l : Records). length (spelled (map record_in l))) none
within_text zero at (b ∷ body) rs are e = absurd (cc)
within_text (suc n) at (b ∷ body) rs are e =
    let f = then_ok at (record_at (b ∷ body)) (records_within n) rs e in
    let t = record_takes (b ∷ body) f.first are f.found in
    let more = within_text n (at + length (spelling f.first.0)) f.first.1 f.more (behind_bytes (spelling f.first.0) f.first.1 (b ∷ body) t.0 are) f.rest in
    let all : length (spelled (map record_in rs)) ≡ length (spelling f.first.0 ++ spelled (map record_in f.more)) = ap (λ (l : Records). length (spelled (map record_in l))) f.all in
    omega (arith, more, all, ap length t.0, length-append (spelling f.first.0) f.first.1, length-append (spelling f.first.0) (spelled (map record_in f.more)))

-- ---- in front of what breaks the format

then_spelled : (at : ℕ) (o : Option (Record × List ℕ)) (behind : ℕ → List ℕ → Records) → ((x : Record × List ℕ) → o ≡ Some x → HasSpelling x.0 × Spelled (behind (at + length (spelling x.0)) x.1)) → Spelled (front_then at o behind)
then_spelled at None behind h = tt
then_spelled at (Some x) behind h = h x refl

front_spelled : (n at : ℕ) (body : List ℕ) → IsBytes body → Spelled (front_within n at body)
unfolding front_within
front_spelled n at [] are = tt
front_spelled zero at (b ∷ body) are = tt
front_spelled (suc n) at (b ∷ body) are =
    let each : (x : Record × List ℕ) → record_at (b ∷ body) ≡ Some x → HasSpelling x.0 × Spelled (front_within n (at + length (spelling x.0)) x.1) = λ x found.
    let t = record_takes (b ∷ body) x are found in
    (t.1, front_spelled n (at + length (spelling x.0)) x.1 (behind_bytes (spelling x.0) x.1 (b ∷ body) t.0 are)) in
    then_spelled at (record_at (b ∷ body)) (front_within n) each

both_spelled : (rs qs : Records) → Spelled rs → Spelled qs → Spelled (rs ++ qs)
both_spelled [] qs f g = g
both_spelled (r ∷ rs) qs f g = (f.0, both_spelled rs qs f.1 g)

step_spelled : (o f : Bool) (r : Result Records ℕ) (front behind : Records) → ((rs : Records) → r ≡ Ok rs → Spelled rs) → Spelled front → Spelled behind → Spelled (step o f r front behind)
step_spelled false f r front behind records first more = tt
step_spelled true false r front behind records first more = tt
step_spelled true true (Err place) front behind records first more = first
step_spelled true true (Ok rs) front behind records first more = both_spelled rs behind (records rs refl) more

fronts_spelled : (n at : ℕ) (bytes : List ℕ) → IsBytes bytes → Spelled (fronts_within n at bytes)
unfolding fronts_within
fronts_spelled zero at bytes are = tt
fronts_spelled (suc n) at bytes are =
    let len : ℕ = group_len bytes in
    let body : List ℕ = take len (drop 5 bytes) in
    let bytes_of : IsBytes body = IsBytes-take len (drop 5 bytes) (IsBytes-drop 5 bytes are) in
    step_spelled (is_open 0 bytes) (fits_area at len) (records_at (at + 5) body) (front_at (at + 5) body) (fronts_within n (at + 5 + len) (drop (5 + len) bytes))
    (λ rs is. within_spelled (length body) (at + 5) body rs bytes_of is)
    (front_spelled (length body) (at + 5) body bytes_of)
    (fronts_spelled n (at + 5 + len) (drop (5 + len) bytes) (IsBytes-drop (5 + len) bytes are))

each_spelled : (ps : List Placed) → Spelled (map entry ps) → AllByRecursion (λ (p : Placed). HasSpelling p.rec) ps
each_spelled [] h = tt
each_spelled (p ∷ ps) h = (h.0, each_spelled ps h.1)

-- records in memory that were read
pub read_spelled : (n at : ℕ) (bytes : List ℕ) (ps : List Placed) → IsBytes bytes → map entry ps ≡ fronts_within n at bytes → AreSpelled ps
read_spelled n at bytes ps are e = All-from_recursion (λ (p : Placed). HasSpelling p.rec) ps (each_spelled ps (subst Spelled (sym e) (fronts_spelled n at bytes are)))
