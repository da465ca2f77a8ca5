-- The words of a command: what clap takes as MODE [NUMBER [COUNT]] with the option --dir PATH, of which `replay`, which stands alone,
-- and `gen` with NUMBER and COUNT are modes.
use Rattle.std.specs.Prelude.{◌≡◌, ℕ, ◌&&◌, nat_le, nat_lt, length, List, [], ◌∷◌, Option, None, Some, IsSome, codes, true, if◌then◌else◌}
use Rattle.std.specs.Str.{all_ascii_digits, bytes_eq}
use Rattle.std.specs.Str.Parse.{digits_value}
use Rattle.clap.specs.Words.{App, Kinds, Row, Rule, Text, fault_of, first_of, found_of, matches_of, new_app, new_rule, rows_of, with_rule}
use Rattle.clap.specs.Simple.{on_top}
use Rattle.clap.specs.declared.parser.matches.ArgMatches.{ArgMatches}
use Rattle.sd_top.specs.declared.words.Request.{Request}
use Rattle.sd_top.specs.declared.words.Request.TheVariants as want

-- the word that says what is done, which has to be there
abbrev pub mode : Rule
mode = record (new_rule (codes "MODE")) { required = true }

-- the option that names a folder
abbrev pub dir : Rule
dir = record (new_rule (codes "dir")) { long = Some (codes "dir") }

-- the command, whose words stand without the program's name before them
abbrev pub nameless : App
nameless = on_top (λ s. record s { no_binary_name = true }) (new_app (codes "sdaries"))

-- what clap is told of the command
abbrev pub command : App
command = with_rule (with_rule (with_rule (with_rule nameless mode) (new_rule (codes "NUMBER"))) (new_rule (codes "COUNT"))) dir

-- what clap finds wrong with the words of a command, and what it finds in them where nothing is
unfoldable pub faults_in : List Text → Kinds
faults_in words = fault_of command words

unfoldable pub found_in : List Text → List Row
found_in words = matches_of command words

-- the number of a word of decimal digits, one at least and no more than so many, where it is at most this one
abbrev pub number_in : ℕ → ℕ → Text → Option ℕ
number_in digits greatest word =
    if nat_lt 0 (length word) && nat_le (length word) digits && all_ascii_digits word && nat_le (digits_value 10 word) greatest
    then Some (digits_value 10 word) else None

-- the script of so many transfers that a number gives, where both are there
abbrev pub generated : Option ℕ → Option ℕ → Option Request
generated (Some number) (Some count) = Some (want.Gen number count)
generated number count = None

-- NUMBER: at most 20 digits, and 64 bits
abbrev pub seed_in : Text → Option ℕ
seed_in word = number_in 20 18446744073709551615 word

-- COUNT: at most 4 digits, and 2,000
abbrev pub count_in : Text → Option ℕ
count_in word = number_in 4 2000 word

-- what is asked for by a mode, a NUMBER and a COUNT, of which the last two may be missing
abbrev pub asked_alone : Option Text → Option Text → Option Request
asked_alone None None = Some want.Replay
asked_alone number count = None

abbrev pub asked_both : Option Text → Option Text → Option Request
asked_both (Some number) (Some count) = generated (seed_in number) (count_in count)
asked_both number count = None

abbrev pub asked_by : Option Text → Option Text → Option Text → Option Request
asked_by None number count = None
asked_by (Some word) number count =
    if bytes_eq word (codes "replay") then asked_alone number count
    else if bytes_eq word (codes "gen") then asked_both number count
    else None

-- what is asked for by what clap found
abbrev pub asked_in : List Row → Option Request
asked_in found = asked_by (first_of (codes "MODE") found) (first_of (codes "NUMBER") found) (first_of (codes "COUNT") found)

-- the same, unless clap found faults
abbrev pub unless_faulty : Kinds → Option Request → Option Request
unless_faulty [] found = found
unless_faulty (fault ∷ faults) found = None

-- what the words ask for, where they are a command
abbrev pub asked_of : List Text → Option Request
asked_of words = unless_faulty (faults_in words) (asked_in (found_in words))

-- The words are a command.
abbrev pub IsCommand : List Text → Type 0
IsCommand words = IsSome (asked_of words)

-- the folder of words that are a command with `--dir`, and none of other words
abbrev pub IsPlace : List Text → Option Text → Type 0
IsPlace words (Some path) = IsCommand words × (first_of (codes "dir") (found_in words) ≡ Some path)
IsPlace words None = IsCommand words → first_of (codes "dir") (found_in words) ≡ None

-- what clap found in words that are a command
abbrev pub IsRead : List Text → Option (Request × ArgMatches) → Type 0
IsRead words (Some (what, found)) = (asked_of words ≡ Some what) × (rows_of (found_of found) ≡ found_in words)
IsRead words None = asked_of words ≡ None
