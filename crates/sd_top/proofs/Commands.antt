-- What clap's answers say of the words. It serves the goals of words.rt and replaying.rt.
use Rattle.std.proofs.Common.{◌≡◌, ℕ, ◌<◌, ◌≤◌, ◌^◌, ◌&&◌, Bool, true, false, List, [], ◌∷◌, length, refl, sym, ap, ◌∙◌, subst, ⊎_elim, arith}
use Rattle.std.specs.Prelude.{Result, Ok, Err, MatchResult, Option, None, Some, codes, nat_lt, nat_le, if◌then◌else◌}
use Rattle.std.specs.Result.{OkIff}
use Rattle.std.specs.Str.{all_ascii_digits, bytes_eq}
use Rattle.std.specs.Str.Parse.{ParsesUnsigned, digits_value}
use Rattle.std.proofs.lemmas.Bool.{and_from, cases_lt, le-leb, leb-true, lt-leb, lt-ltb}
use Rattle.std.proofs.lemmas.Str.Parse.{IsNumeralModel, numerals_by_value, parse_digits, tells_all_ascii_digits}
use Rattle.clap.specs.Words.{App, FailsBy, HasMatchesOf, IsAmong, Kinds, Row, Text, fault_of, first_of, found_of, is_simple, is_simple_and_free, kind_of, matches_of, rows_of}
use Rattle.clap.specs.declared.error.Error.{Error}
use Rattle.clap.specs.declared.error.kind.ErrorKind.TheVariants as kind
use Rattle.clap.specs.declared.parser.matches.ArgMatches.{ArgMatches}
use Rattle.clap.proofs.OnLiterals.{clap_on_literals}
use Rattle.sd_top.specs.declared.words.Request.{Request}
use Rattle.sd_top.specs.declared.words.Request.TheVariants as want
use Rattle.sd_top.specs.Words.{IsPlace, asked_alone, asked_both, asked_by, asked_in, asked_of, command, count_in, faults_in, found_in, generated, number_in, seed_in, unless_faulty}

-- clap's contracts tell all of the command
is_told : is_simple command ≡ true
unfolding clap_on_literals
is_told = refl

is_free : is_simple_and_free command ≡ true
unfolding clap_on_literals
is_free = refl

pub takes_words : (app : App) (words : List Text) (found : ArgMatches) → app ≡ command
    → (is_simple_and_free app ≡ true → FailsBy (fault_of app words) (Ok found)) → HasMatchesOf app words found
    → (faults_in words ≡ []) × (rows_of (found_of found) ≡ found_in words)
unfolding faults_in found_in
takes_words app words found is fails matches = (
  ap (λ (a : App). fault_of a words) (sym is) ∙ fails (ap is_simple_and_free is ∙ is_free),
  (matches (ap is_simple is ∙ is_told)).0 ∙ ap (λ (a : App). matches_of a words) is,
)

pub refuses_words : (app : App) (words : List Text) (e : Error) → app ≡ command
    → (is_simple_and_free app ≡ true → FailsBy {T = ArgMatches} (fault_of app words) (Err e)) → (kind_of e ≡ kind.OutOfMemory → ⊥) → faults_in words ≡ [] → ⊥
unfolding faults_in
refuses_words app words e is fails other none =
    ⊎_elim other (λ among. subst (λ (kinds : Kinds). IsAmong (kind_of e) kinds) (ap (λ (a : App). fault_of a words) is ∙ none) among)
    (fails (ap is_simple_and_free is ∙ is_free))

-- what is asked for, where clap finds no fault, or some
pub asked_found : (words : List Text) (rows : List Row) (what : Option Request) → what ≡ asked_in rows
    → (faults_in words ≡ []) × (rows ≡ found_in words) → asked_of words ≡ what
asked_found words rows what is taken =
    ap (λ (k : Kinds). unless_faulty k (asked_in (found_in words))) taken.0 ∙ sym (ap asked_in taken.1) ∙ sym is

pub asked_none : (words : List Text) → (faults_in words ≡ [] → ⊥) → asked_of words ≡ None
asked_none words some = go (faults_in words) some where
  go : (k : Kinds) → (k ≡ [] → ⊥) → unless_faulty k (asked_in (found_in words)) ≡ None
  go [] never = absurd (never refl)
  go (fault ∷ faults) never = refl

-- what a text parses to is its number, where it is of digits
pub number_parsed : {E : Type 0} (digits greatest : ℕ) (word : List ℕ) (r : Result ℕ E) → ParsesUnsigned 64 10 word r
    → all_ascii_digits word ≡ true → 0 < length word → length word ≤ digits → greatest < 2 ^ 64
    → MatchResult r (λ n. (nat_le n greatest ≡ true → Some n ≡ number_in digits greatest word)
    × (nat_le n greatest ≡ false → None ≡ number_in digits greatest word)) (λ e. None ≡ number_in digits greatest word)
number_parsed {E} digits greatest word r parses all some few most = go r (parse_digits own 64 word r parses all) where
  own : IsNumeralModel (λ ds. all_ascii_digits ds ≡ true) (digits_value 10)
  own = numerals_by_value (λ ds. all_ascii_digits ds ≡ true) tells_all_ascii_digits

  front : (nat_lt 0 (length word) && nat_le (length word) digits && all_ascii_digits word) ≡ true
  front = and_from (nat_lt 0 (length word) && nat_le (length word) digits) (all_ascii_digits word)
      (and_from (nat_lt 0 (length word)) (nat_le (length word) digits) (lt-ltb 0 (length word) some) (le-leb (length word) digits few)) all

  by_value : (b : Bool) → nat_le (digits_value 10 word) greatest ≡ b
      → number_in digits greatest word ≡ (if b then Some (digits_value 10 word) else None)
  by_value b is = ap (λ (x : Bool). if x then Some (digits_value 10 word) else None)
      (ap (λ (x : Bool). x && nat_le (digits_value 10 word) greatest) front ∙ is)

  go : (r : Result ℕ E) → OkIff r ((0 < length word) × (digits_value 10 word < 2 ^ 64)) (digits_value 10 word)
      → MatchResult r (λ n. (nat_le n greatest ≡ true → Some n ≡ number_in digits greatest word)
      × (nat_le n greatest ≡ false → None ≡ number_in digits greatest word)) (λ e. None ≡ number_in digits greatest word)
  go (Ok n) is = (
    λ yes. ap (λ (k : ℕ). Some k) is.1 ∙ sym (by_value true (sym (ap (λ (k : ℕ). nat_le k greatest) is.1) ∙ yes)),
    λ no_more. sym (by_value false (sym (ap (λ (k : ℕ). nat_le k greatest) is.1) ∙ no_more)),
  )
  go (Err e) is = sym (by_value false (lt-leb (digits_value 10 word) greatest
      (let big : 2 ^ 64 ≤ digits_value 10 word = ⊎_elim (λ lt. absurd (is (some, lt))) (λ le. le) (cases_lt (digits_value 10 word) (2 ^ 64)) in
      omega (arith, big, most))))

-- a word that isn't of so many digits has no number
pub no_number : (digits greatest : ℕ) (word : List ℕ)
    → (nat_lt 0 (length word) && nat_le (length word) digits && all_ascii_digits word) ≡ false → None ≡ number_in digits greatest word
no_number digits greatest word is = sym (ap (λ (x : Bool). if x && nat_le (digits_value 10 word) greatest then Some (digits_value 10 word) else None) is)

-- a number that was found is at most the greatest
pub number_most : (digits greatest n : ℕ) (word : List ℕ) → number_in digits greatest word ≡ Some n → n ≤ greatest
number_most digits greatest n word is =
    go (nat_lt 0 (length word) && nat_le (length word) digits && all_ascii_digits word) (nat_le (digits_value 10 word) greatest) refl is
  where
    go : (a b : Bool) → nat_le (digits_value 10 word) greatest ≡ b → (if a && b then Some (digits_value 10 word) else None) ≡ Some n → n ≤ greatest
    go true true le found = let same : digits_value 10 word ≡ n = cc in omega (arith, same, leb-true (digits_value 10 word) greatest le)
    go true false le found = absurd (cc)
    go false b le found = absurd (cc)

-- ---- how many transfers are asked for at most

most_of : (number count : Option ℕ) (n k : ℕ) → generated number count ≡ Some (want.Gen n k) → count ≡ Some k
most_of (Some number) (Some count) n k is = let same : count ≡ k = cc in ap (λ (j : ℕ). Some j) same
most_of (Some number) None n k is = absurd (cc)
most_of None count n k is = absurd (cc)

most_alone : (number count : Option Text) (n k : ℕ) → asked_alone number count ≡ Some (want.Gen n k) → k ≤ 2000
most_alone None None n k is = absurd (cc)
most_alone None (Some count) n k is = absurd (cc)
most_alone (Some number) count n k is = absurd (cc)

most_both : (number count : Option Text) (n k : ℕ) → asked_both number count ≡ Some (want.Gen n k) → k ≤ 2000
most_both (Some number) (Some count) n k is = number_most 4 2000 k count (most_of (seed_in number) (count_in count) n k is)
most_both (Some number) None n k is = absurd (cc)
most_both None count n k is = absurd (cc)

most_by : (mode number count : Option Text) (n k : ℕ) → asked_by mode number count ≡ Some (want.Gen n k) → k ≤ 2000
most_by None number count n k is = absurd (cc)
most_by (Some word) number count n k is = go (bytes_eq word (codes "replay")) (bytes_eq word (codes "gen")) is where
  go : (replay gen : Bool)
      → (if replay then asked_alone number count else if gen then asked_both number count else None) ≡ Some (want.Gen n k) → k ≤ 2000
  go true gen asked = most_alone number count n k asked
  go false true asked = most_both number count n k asked
  go false false asked = absurd (cc)

pub count_most : (words : List Text) (n k : ℕ) → asked_of words ≡ Some (want.Gen n k) → k ≤ 2000
count_most words n k is = go (faults_in words) is where
  go : (faults : Kinds) → unless_faulty faults (asked_in (found_in words)) ≡ Some (want.Gen n k) → k ≤ 2000
  go [] asked = most_by (first_of (codes "MODE") (found_in words)) (first_of (codes "NUMBER") (found_in words))
      (first_of (codes "COUNT") (found_in words)) n k asked
  go (fault ∷ faults) asked = absurd (cc)

-- ---- words that are written out

alone : (asked_of (codes "replay" ∷ []) ≡ Some want.Replay) × IsPlace (codes "replay" ∷ []) None
unfolding clap_on_literals faults_in found_in
alone = (refl, λ is. refl)

with_zeros : asked_of (codes "gen" ∷ codes "007" ∷ codes "0" ∷ []) ≡ Some (want.Gen 7 0)
unfolding clap_on_literals faults_in found_in
with_zeros = refl

too_many : asked_of (codes "gen" ∷ codes "7" ∷ codes "2001" ∷ []) ≡ None
unfolding clap_on_literals faults_in found_in
too_many = refl

no_count : asked_of (codes "gen" ∷ codes "7" ∷ []) ≡ None
unfolding clap_on_literals faults_in found_in
no_count = refl

beyond_bits : asked_of (codes "gen" ∷ codes "18446744073709551616" ∷ codes "1" ∷ []) ≡ None
unfolding clap_on_literals faults_in found_in
beyond_bits = refl

in_folder : IsPlace (codes "replay" ∷ codes "--dir" ∷ codes "disks/a" ∷ []) (Some (codes "disks/a"))
unfolding clap_on_literals faults_in found_in
in_folder = (refl, refl)

folder_first : IsPlace (codes "--dir=disks/a" ∷ codes "replay" ∷ []) (Some (codes "disks/a"))
unfolding clap_on_literals faults_in found_in
folder_first = (refl, refl)
