-- The lines of a generated script may follow one another. It serves the law on generated scripts.
use Rattle.std.proofs.Common.{◌≡◌, ◌≢◌, ◌==◌, ◌&&◌, ◌||◌, Bool, true, false, ℕ, zero, suc, ℤ, pos, negsuc, ◌+◌, ◌*◌, ◌%◌, ◌/◌, ◌<◌, ◌≤◌, ◌^◌, inl, inr, ◌⊎◌, List, [], ◌∷◌, ◌++◌, cond, length, get_or, Some, None, refl, sym, ap, ◌∙◌, subst, arith, append_assoc, length-append, ⊎_elim}
use Rattle.std.proofs.lemmas.Bool.{cases_Bool, cond-true, cond-false, ne_eqb, true≢false}
use Rattle.std.proofs.lemmas.Bool.Decides.{Decides-and, Decides-by_and, Decides-like, Decides-ltb}
use Rattle.std.proofs.lemmas.Fmt.{decimal_digit, decimal_injective, decimal_is_IsNumeral, decimal_nonempty, length-decimal-le}
use Rattle.std.proofs.lemmas.List.{append-nil, get_or_default}
use Rattle.std.proofs.lemmas.List.Concat.{flat_map-append, flat_map-cons}
use Rattle.std.proofs.lemmas.List.Elements.{All-append}
use Rattle.std.proofs.lemmas.List.Folds.{list_any-append}
use Rattle.std.proofs.lemmas.List.Sums.{sum_by-append}
use Rattle.std.proofs.lemmas.Slice.Eq.{bytes_eq-Decides}
use Rattle.std.proofs.lemmas.Str.Parse.{digit_at}
use Rattle.std.specs.Prelude.{All, Decides, codes, if◌then◌else◌, ltb}
use Rattle.std.specs.Fmt.{decimal, signed_decimal}
use Rattle.std.specs.List.{flat_map, join_with_byte, list_all}
use Rattle.std.specs.Str.{bytes_eq}
use Rattle.sd_report.specs.Summary.{account_rid}
use Rattle.sd_report.specs.Words.{line_of}
use Rattle.sd_script.specs.declared.line.Form.{Form}
use Rattle.sd_script.specs.declared.line.Form.TheVariants.{Complex, Begin, Add, Insert, Rollback, Commit, Fail, Recover, Join, Table}
use Rattle.sd_script.specs.declared.line.Line.{Line}
use Rattle.sd_script.specs.Forms.{IsAmount, IsDigit, IsLetter, IsName, IsValue, form_words, rid_word}
use Rattle.sd_script.specs.Order.{IsOfBegun, begun, begun_by, has_name, insts_of, is_table, ordinal_of, pages_of, table_count}
use Rattle.sd_script.specs.Reading.{IsScript}
use Rattle.sd_script.specs.Text.{is_comment}
use Rattle.sd_script.specs.Words.{plain_number}
use Rattle.sd_script.proofs.Ordinals.{ordinal_push}
use Rattle.sd_script.proofs.Spellings.{below_none, zero_alone}
use Rattle.sd_gen.specs.declared.transfer.Transfer.{Transfer}
use Rattle.sd_gen.specs.Draws.{state_behind}
use Rattle.sd_gen.specs.Generated.{account_line, add_line, ending_text, failure_text, gen_text, head_text, name_of, transfer_of, transfer_text, transfers_text}
use Rattle.sd_gen.proofs.Told.{IsWord, MayAllCome, MayCome, is_script, lines_from, made, text_append, text_of}

-- ---- the words

abbrev IsValueByte : ℕ → Type 0
IsValueByte b = (33 ≤ b) × (b ≤ 126)

one_byte : (b : ℕ) → IsValueByte b → All IsValueByte (b ∷ [])
one_byte b is zero d lt = is
one_byte b is (suc k) d lt = absurd (omega (arith, lt))

behind : (b : ℕ) (bytes : List ℕ) → IsValueByte b → All IsValueByte bytes → All IsValueByte (b ∷ bytes)
behind b bytes is are = All-append IsValueByte (b ∷ []) bytes (one_byte b is) are

no_bytes : All IsValueByte []
no_bytes k d lt = absurd (omega (arith, lt))

digits_in : (n : ℕ) → n < 2 ^ 64 → All (λ b. (48 ≤ b) × (b ≤ 57)) (decimal n)
digits_in n small k d lt =
    let digit = digit_at (decimal n) k (decimal_is_IsNumeral n small).0.1 lt in
    let same = get_or_default (decimal n) k d 0 lt in
    (omega (arith, digit, same), omega (arith, digit, same))

digit_bytes : (n : ℕ) → n < 2 ^ 64 → All IsValueByte (decimal n)
digit_bytes n small k d lt = let digit = digits_in n small k d lt in (omega (arith, digit), omega (arith, digit))

value_is : (bytes : List ℕ) → 0 < length bytes → All IsValueByte bytes → IsValue bytes
value_is bytes some are = record { length = some; each = are }

number_is : (n : ℕ) → n < 2 ^ 64 → IsValue (decimal n)
number_is n small = value_is (decimal n) (decimal_nonempty n small) (digit_bytes n small)

number_short : (n : ℕ) → n < 10000 → length (decimal n) ≤ 4
number_short n small = length-decimal-le 4 n (omega arith) (omega (arith, small)) (omega (arith, small))

number_word : (n : ℕ) → n < 10000 → IsWord (decimal n)
number_word n small = (number_is n (omega (arith, small)), omega (arith, number_short n small))

-- the name of a transaction
name_letter : (n : ℕ) → n < 10000 → All (λ b. IsLetter b ⊎ IsDigit b) (name_of n)
name_letter n small = All-append (λ (b : ℕ). IsLetter b ⊎ IsDigit b) (codes "t") (decimal n) letter
    (λ k d lt. inr (digits_in n (omega (arith, small)) k d lt)) where
      letter : All (λ b. IsLetter b ⊎ IsDigit b) (codes "t")
      letter zero d lt = inl (omega arith, omega arith)
      letter (suc k) d lt = absurd (omega (arith, lt))

is_name : (n : ℕ) → n < 10000 → IsName (name_of n)
is_name n small = record {
  length = omega (arith, number_short n small);
  first = (omega arith, omega arith);
  each = name_letter n small;
}

named : (name : List ℕ) → IsName name → IsWord name
named [] is = let first = is.first in absurd (omega (arith, first))
named (b ∷ name) is = (value_is (b ∷ name) (omega arith) each, is.length) where
  each : All IsValueByte (b ∷ name)
  each k d lt = ⊎_elim
      (λ (letter : IsLetter (get_or (b ∷ name) k d)). (omega (arith, letter), omega (arith, letter)))
      (λ (digit : IsDigit (get_or (b ∷ name) k d)). (omega (arith, digit), omega (arith, digit)))
      (is.each k d lt)

other_name : (m n : ℕ) → m < 10000 → n < 10000 → m ≢ n → bytes_eq (name_of m) (name_of n) ≡ false
other_name m n few less other = ⊎_elim
    (λ (yes : bytes_eq (name_of m) (name_of n) ≡ true).
    let both : name_of m ≡ name_of n = (bytes_eq-Decides (name_of m) (name_of n)).0 yes in
    let digits : decimal m ≡ decimal n = cc in
    absurd (other (decimal_injective m n (omega (arith, few)) (omega (arith, less)) digits)))
    (λ no. no)
    (cases_Bool (bytes_eq (name_of m) (name_of n)))

-- ---- what holds behind the lines so far

-- four instances and four pages, no table line, so many names begun, and none of the transfers from this number on
pub record IsBehind (before : List Line) (count next : ℕ) : Type 0 where
  pub some : 0 < length before
  pub insts : insts_of before ≡ 4
  pub pages : pages_of before ≡ 4
  pub tables : table_count before ≡ 0
  pub names : length (begun before) ≡ count
  pub fresh : (n : ℕ) → next ≤ n → n < 10000 → has_name (begun before) (name_of n) ≡ false

abbrev one_more : List Line → Form → List Line
one_more before form = before ++ made (length before) form ∷ []

begun_more : (before : List Line) (form : Form) → begun (one_more before form) ≡ begun before ++ begun_by form
begun_more before form =
    flat_map-append (λ (l : Line). begun_by l.form) before (made (length before) form ∷ [])
    ∙ ap (λ (l : List (List ℕ)). begun before ++ l) (append-nil (begun_by form))

insts_more : (before : List Line) (form : Form) → 0 < length before → insts_of (one_more before form) ≡ insts_of before
insts_more [] form some = absurd (omega (arith, some))
insts_more (first ∷ before) form some = refl

pages_more : (before : List Line) (form : Form) → 0 < length before → pages_of (one_more before form) ≡ pages_of before
pages_more [] form some = absurd (omega (arith, some))
pages_more (first ∷ before) form some = refl

tables_more : (before : List Line) (form : Form) → is_table form ≡ false → table_count (one_more before form) ≡ table_count before
tables_more before form other =
    let one : cond {A = ℕ} (is_table form) 1 0 ≡ 0 = cond-false (is_table form) 1 0 other in
    let sum = sum_by-append (λ (l : Line). cond (is_table l.form) 1 0) before (made (length before) form ∷ []) in
    omega (arith, one, sum)

-- a line that begins no name
goes_on : (before : List Line) (form : Form) (count next : ℕ) → IsBehind before count next → begun_by form ≡ []
    → is_table form ≡ false → IsBehind (one_more before form) count next
goes_on before form count next was none other =
    let same : begun (one_more before form) ≡ begun before =
    begun_more before form ∙ ap (λ (l : List (List ℕ)). begun before ++ l) none ∙ append-nil (begun before) in
    record {
      some = omega (arith, length-append before (made (length before) form ∷ []));
      insts = insts_more before form was.some ∙ was.insts;
      pages = pages_more before form was.some ∙ was.pages;
      tables = tables_more before form other ∙ was.tables;
      names = ap length same ∙ was.names;
      fresh = λ n from few. ap (λ (l : List (List ℕ)). has_name l (name_of n)) same ∙ was.fresh n from few;
    }

still_known : (before : List Line) (form : Form) (name : List ℕ) (ordinal : ℕ) → begun_by form ≡ []
    → IsOfBegun before name ordinal → IsOfBegun (one_more before form) name ordinal
still_known before form name ordinal none known =
    ap (λ (l : List (List ℕ)). ordinal_of l name)
    (begun_more before form ∙ ap (λ (l : List (List ℕ)). begun before ++ l) none ∙ append-nil (begun before))
    ∙ known

-- a line that begins the transaction of this number
begins : (before : List Line) (inst count number : ℕ) → IsBehind before count number → number < 10000
    → IsBehind (one_more before (Begin inst (name_of number))) (count + 1) (number + 1)
begins before inst count number was few =
    let form : Form = Begin inst (name_of number) in
    let more : begun (one_more before form) ≡ begun before ++ name_of number ∷ [] = begun_more before form in
    record {
      some = omega (arith, length-append before (made (length before) form ∷ []));
      insts = insts_more before form was.some ∙ was.insts;
      pages = pages_more before form was.some ∙ was.pages;
      tables = tables_more before form refl ∙ was.tables;
      names = ap length more ∙ omega (arith, length-append (begun before) (name_of number ∷ []), was.names);
      fresh = λ n from less.
          ap (λ (l : List (List ℕ)). has_name l (name_of n)) more
          ∙ list_any-append (bytes_eq (name_of n)) (begun before) (name_of number ∷ [])
          ∙ neither (has_name (begun before) (name_of n)) (bytes_eq (name_of n) (name_of number))
          (was.fresh n (omega (arith, from)) less) (other_name n number less few (λ e. omega (arith, from, e)));
    } where
      neither : (a b : Bool) → a ≡ false → b ≡ false → (a || (b || false)) ≡ false
      neither false false lacks differ = refl
      neither a b lacks differ = absurd (cc)

known_now : (before : List Line) (inst count number : ℕ) → IsBehind before count number → number < 10000
    → IsOfBegun (one_more before (Begin inst (name_of number))) (name_of number) count
known_now before inst count number was few =
    ap (λ (l : List (List ℕ)). ordinal_of l (name_of number)) (begun_more before (Begin inst (name_of number)))
    ∙ ordinal_push (begun before) (name_of number) (name_of number) (was.fresh number (omega arith) few)
    ∙ cond-true (bytes_eq (name_of number) (name_of number)) (Some (length (begun before)))
    (ordinal_of (begun before) (name_of number))
    ((bytes_eq-Decides (name_of number) (name_of number)).1 refl)
    ∙ ap (λ (n : ℕ). Some n) was.names

-- ---- the forms of the lines

abbrev is_value_byte : ℕ → Bool
is_value_byte b = ltb 32 b && ltb b 127

abbrev are_bytes : List ℕ → Bool
are_bytes bytes = list_all is_value_byte bytes

byte_decides : (b : ℕ) → Decides (is_value_byte b) (IsValueByte b)
byte_decides b = Decides-like (is_value_byte b)
    (λ (h : (32 < b) × (b < 127)). (omega (arith, h.0), omega (arith, h.1)))
    (λ (h : IsValueByte b). (omega (arith, h.0), omega (arith, h.1)))
    (Decides-and (ltb 32 b) (ltb b 127) (Decides-ltb 32 b) (Decides-ltb b 127))

abbrev is_word : List ℕ → Bool
is_word word = (ltb 0 (length word) && ltb (length word) 17) && are_bytes word

fixed : (word : List ℕ) → is_word word ≡ true → IsWord word
fixed word test =
    let is = (Decides-and (ltb 0 (length word) && ltb (length word) 17) (are_bytes word)
    (Decides-and (ltb 0 (length word)) (ltb (length word) 17) (Decides-ltb 0 (length word)) (Decides-ltb (length word) 17))
    (Decides-by_and is_value_byte IsValueByte are_bytes byte_decides refl (λ _ _. refl) word)).0 test in
    (value_is word is.0.0 is.1, omega (arith, is.0.1))

-- the word of an account's record
rid_bytes : (n : ℕ) → n < 10 → All IsValueByte (rid_word (account_rid n))
rid_bytes n few = All-append IsValueByte (decimal (n % 4)) (46 ∷ decimal (n / 4)) (digit_bytes (n % 4) (omega (arith, few)))
    (behind 46 (decimal (n / 4)) (omega arith, omega arith) (digit_bytes (n / 4) (omega (arith, few))))

rid_length : (n : ℕ) → length (rid_word (account_rid n)) ≡ length (decimal (n % 4)) + suc (length (decimal (n / 4)))
rid_length n = length-append (decimal (n % 4)) (46 ∷ decimal (n / 4))

rid_is : (n : ℕ) → n < 10 → IsValue (rid_word (account_rid n))
rid_is n few = value_is (rid_word (account_rid n)) (omega (arith, rid_length n)) (rid_bytes n few)

rid_short : (n : ℕ) → n < 10 → length (rid_word (account_rid n)) ≤ 16
rid_short n few =
    omega (arith, rid_length n, number_short (n % 4) (omega (arith, few)), number_short (n / 4) (omega (arith, few)))

-- an amount that is taken
abbrev taken_by : ℕ → ℤ
taken_by zero = pos 0
taken_by (suc n) = negsuc n

taken_word : (amount : ℕ) → 0 < amount → codes "-" ++ decimal amount ≡ signed_decimal (taken_by amount)
taken_word zero some = absurd (omega (arith, some))
taken_word (suc n) some = refl

taken_amount : (amount : ℕ) → amount < 10 → IsAmount (taken_by amount)
taken_amount zero few = omega arith
taken_amount (suc n) few = omega (arith, few)

no_zero : (by : ℤ) → IsAmount by → plain_number (signed_decimal by) ≡ signed_decimal by
no_zero by is =
    let other = below_none (codes "-0") (codes "0") refl (zero_alone (codes "0") (decimal_digit 0 (omega arith))) by is in
    cond-false (bytes_eq (signed_decimal by) (codes "-0")) (codes "0") (signed_decimal by)
    (⊎_elim (λ yes. absurd (other ((bytes_eq-Decides (signed_decimal by) (codes "-0")).0 yes))) (λ no. no)
    (cases_Bool (bytes_eq (signed_decimal by) (codes "-0"))))

add_comes : (before : List Line) (count next number account : ℕ) (by : ℤ) → IsBehind before count next → number < 10000
    → IsOfBegun before (name_of number) number → account < 10 → IsAmount by → IsWord (signed_decimal by)
    → MayCome before (Add (name_of number) number (account_rid account) by)
add_comes before count next number account by was few known small amount amount_word =
    let name = named (name_of number) (is_name number few) in
    record {
      words = (fixed (codes "add") refl, (name, ((rid_is account small, rid_short account small), (amount_word, tt))));
      some = omega arith;
      few = omega arith;
      first = refl;
      stands = ap (λ (w : List ℕ). codes "add" ∷ name_of number ∷ rid_word (account_rid account) ∷ w ∷ []) (no_zero by amount);
      is = (is_name number few, (omega (arith, small), omega (arith, small)), amount);
      follows = (known, omega (arith, was.pages));
    }

digit_first : (inst : ℕ) (rest : List (List ℕ)) → inst < 10
    → is_comment (join_with_byte 32 (decimal inst ∷ codes "begin" ∷ rest)) ≡ false
digit_first inst rest few =
    ap (λ (w : List ℕ). is_comment (join_with_byte 32 (w ∷ codes "begin" ∷ rest))) (decimal_digit inst few)
    ∙ ne_eqb (48 + inst) 35 (λ e. omega (arith, e))

begin_comes : (before : List Line) (inst count : ℕ) (name : List ℕ) → IsName name → 0 < inst → inst ≤ 4 → insts_of before ≡ 4
    → has_name (begun before) name ≡ false → MayCome before (Begin inst name)
begin_comes before inst count name is some few insts fresh =
    let word = named name is in
    record {
      words = (number_word inst (omega (arith, few)), (fixed (codes "begin") refl, (word, tt)));
      some = omega arith;
      few = omega arith;
      first = digit_first inst (name ∷ []) (omega (arith, few));
      stands = refl;
      is = ((some, omega (arith, few)), is);
      follows = (omega (arith, few, insts), λ had. true≢false (sym had ∙ fresh));
    }

commit_comes : (before : List Line) (ordinal : ℕ) (name : List ℕ) → IsName name → IsOfBegun before name ordinal
    → MayCome before (Commit name ordinal)
commit_comes before ordinal name is known =
    let word = named name is in
    record {
      words = (fixed (codes "commit") refl, (word, tt));
      some = omega arith;
      few = omega arith;
      first = refl;
      stands = refl;
      is = is;
      follows = known;
    }

rollback_comes : (before : List Line) (ordinal : ℕ) (name : List ℕ) → IsName name → IsOfBegun before name ordinal
    → MayCome before (Rollback name ordinal)
rollback_comes before ordinal name is known =
    let word = named name is in
    record {
      words = (fixed (codes "rollback") refl, (word, tt));
      some = omega arith;
      few = omega arith;
      first = refl;
      stands = refl;
      is = is;
      follows = known;
    }

module _ (before : List Line) (inst : ℕ) (some : 0 < inst) (few : inst ≤ 4) (insts : insts_of before ≡ 4) where
  inst_word : IsWord (decimal inst)
  inst_word = number_word inst (omega (arith, few))

  fail_comes : MayCome before (Fail inst)
  fail_comes = record {
    words = (fixed (codes "fail") refl, (inst_word, tt));
    some = omega arith;
    few = omega arith;
    first = refl;
    stands = refl;
    is = (some, omega (arith, few));
    follows = omega (arith, few, insts);
  }

  join_comes : MayCome before (Join inst)
  join_comes = record {
    words = (fixed (codes "join") refl, (inst_word, tt));
    some = omega arith;
    few = omega arith;
    first = refl;
    stands = refl;
    is = (some, omega (arith, few));
    follows = omega (arith, few, insts);
  }

  recover_comes : MayCome before (Recover inst (inst % 4 + 1) None)
  recover_comes = record {
    words = (
      fixed (codes "recover") refl,
      (
        inst_word,
        (fixed (codes "by") refl, (number_word (inst % 4 + 1) (omega (arith, few)), tt)),
      ),
    );
    some = omega arith;
    few = omega arith;
    first = refl;
    stands = refl;
    is = ((some, omega (arith, few)), (omega arith, omega (arith, few)), tt);
    follows = omega (arith, insts);
  }

-- ---- the accounts

abbrev accounts_forms : List ℕ → List Form → List Form
accounts_forms [] rest = Commit (codes "s") 0 ∷ rest
accounts_forms (n ∷ accounts) rest = Insert (codes "s") 0 (n % 4) (codes "100") (Some 8) ∷ accounts_forms accounts rest

letter_s : IsName (codes "s")
letter_s = record {
  length = omega arith;
  first = (omega arith, omega arith);
  each = one;
} where
  one : All (λ b. IsLetter b ⊎ IsDigit b) (codes "s")
  one zero d lt = inl (omega arith, omega arith)
  one (suc k) d lt = absurd (omega (arith, lt))

insert_comes : (before : List Line) (page : ℕ) → page < 4 → pages_of before ≡ 4 → IsOfBegun before (codes "s") 0
    → MayCome before (Insert (codes "s") 0 page (codes "100") (Some 8))
insert_comes before page few pages known = record {
  words = (
    fixed (codes "insert") refl,
    (
      fixed (codes "s") refl,
      (
        number_word page (omega (arith, few)),
        (fixed (codes "100") refl, (number_word 8 (omega arith), tt)),
      ),
    ),
  );
  some = omega arith;
  few = omega arith;
  first = refl;
  stands = refl;
  is = (letter_s, omega (arith, few), (fixed (codes "100") refl).0, (omega arith, omega arith));
  follows = (known, omega (arith, few, pages));
}

-- what comes behind whatever lines those are
abbrev Continues : ℕ → List Form → Type 0
Continues next rest = (after : List Line) → IsBehind after next next → MayAllCome after rest

accounts_come : (accounts : List ℕ) (rest : List Form) (before : List Line) → IsBehind before 1 1 → IsOfBegun before (codes "s") 0
    → Continues 1 rest → MayAllCome before (accounts_forms accounts rest)
accounts_come [] rest before was known go =
    let form : Form = Commit (codes "s") 0 in
    (commit_comes before 0 (codes "s") letter_s known, go (one_more before form) (goes_on before form 1 1 was refl refl))
accounts_come (n ∷ accounts) rest before was known go =
    let form : Form = Insert (codes "s") 0 (n % 4) (codes "100") (Some 8) in (
      insert_comes before (n % 4) (omega arith) was.pages known,
      accounts_come accounts rest (one_more before form) (goes_on before form 1 1 was refl refl)
          (still_known before form (codes "s") 0 refl known) go,
    )

abbrev accounts_ten : List ℕ
accounts_ten = 0 ∷ 1 ∷ 2 ∷ 3 ∷ 4 ∷ 5 ∷ 6 ∷ 7 ∷ 8 ∷ 9 ∷ []

abbrev head_forms : List Form → List Form
head_forms rest = Complex 4 4 2 ∷ Begin 1 (codes "s") ∷ accounts_forms accounts_ten rest

complex_comes : MayCome [] (Complex 4 4 2)
complex_comes = record {
  words = (
    fixed (codes "complex") refl,
    (
      number_word 4 (omega arith),
      (number_word 4 (omega arith), (number_word 2 (omega arith), tt)),
    ),
  );
  some = omega arith;
  few = omega arith;
  first = refl;
  stands = refl;
  is = ((omega arith, omega arith), (omega arith, omega arith), (omega arith, omega arith));
  follows = refl;
}

abbrev first_line : List Line
first_line = made 0 (Complex 4 4 2) ∷ []

abbrev first_lines : List Line
first_lines = made 0 (Complex 4 4 2) ∷ made 1 (Begin 1 (codes "s")) ∷ []

not_s : (n : ℕ) → has_name (codes "s" ∷ []) (name_of n) ≡ false
not_s n = refl

behind_first : IsBehind first_lines 1 1
behind_first = record {
  some = omega arith;
  insts = refl;
  pages = refl;
  tables = refl;
  names = refl;
  fresh = λ n from few. not_s n;
}

head_comes : (rest : List Form) → Continues 1 rest → MayAllCome [] (head_forms rest)
head_comes rest go = (
  complex_comes,
  (
    begin_comes first_line 1 0 (codes "s") letter_s (omega arith) (omega arith) refl refl,
    accounts_come accounts_ten rest first_lines behind_first refl go,
  ),
)

-- ---- the transfers

abbrev failure_forms : ℕ → List Form
failure_forms inst = Fail inst ∷ Recover inst (inst % 4 + 1) None ∷ Join inst ∷ []

abbrev ending_forms : Bool → Bool → ℕ → ℕ → List Form
ending_forms true seventh number inst = failure_forms inst
ending_forms false true number inst = Rollback (name_of number) number ∷ []
ending_forms false false number inst = Commit (name_of number) number ∷ []

abbrev transfer_forms : ℕ → Transfer → List Form → List Form
transfer_forms number t rest =
    Begin t.inst (name_of number)
    ∷ Add (name_of number) number (account_rid t.from) (taken_by t.amount)
    ∷ Add (name_of number) number (account_rid t.to) (pos t.amount)
    ∷ (ending_forms (number % 25 == 0) (number % 7 == 0) number t.inst ++ rest)

abbrev transfers_forms : ℕ → ℕ → ℕ → List Form
transfers_forms number zero x = Table ∷ []
transfers_forms number (suc more) x = transfer_forms number (transfer_of x) (transfers_forms (number + 1) more (state_behind 4 x))

ending_comes : (fails backs : Bool) (number inst : ℕ) (rest : List Form) (before : List Line) → number < 10000 → 0 < inst
    → inst ≤ 4 → IsBehind before (number + 1) (number + 1) → IsOfBegun before (name_of number) number
    → Continues (number + 1) rest
    → MayAllCome before (ending_forms fails backs number inst ++ rest)
ending_comes true backs number inst rest before small some few was known go =
    let fail : Form = Fail inst in
    let recover : Form = Recover inst (inst % 4 + 1) None in
    let join : Form = Join inst in
    let failed = goes_on before fail (number + 1) (number + 1) was refl refl in
    let recovered = goes_on (one_more before fail) recover (number + 1) (number + 1) failed refl refl in
    let joined = goes_on (one_more (one_more before fail) recover) join (number + 1) (number + 1) recovered refl refl in (
      fail_comes before inst some few was.insts,
      (
        recover_comes (one_more before fail) inst some few failed.insts,
        (
          join_comes (one_more (one_more before fail) recover) inst some few recovered.insts,
          go (one_more (one_more (one_more before fail) recover) join) joined,
        ),
      ),
    )
ending_comes false true number inst rest before small some few was known go =
    let form : Form = Rollback (name_of number) number in (
      rollback_comes before number (name_of number) (is_name number small) known,
      go (one_more before form) (goes_on before form (number + 1) (number + 1) was refl refl),
    )
ending_comes false false number inst rest before small some few was known go =
    let form : Form = Commit (name_of number) number in (
      commit_comes before number (name_of number) (is_name number small) known,
      go (one_more before form) (goes_on before form (number + 1) (number + 1) was refl refl),
    )

-- an amount, and the numbers of an instance and of two accounts
pub record IsTransfer (t : Transfer) : Type 0 where
  pub some : 0 < t.inst
  pub inst : t.inst ≤ 4
  pub from : t.from < 10
  pub to : t.to < 10
  pub positive : 0 < t.amount
  pub amount : t.amount < 10

transfer_is : (x : ℕ) → IsTransfer (transfer_of x)
transfer_is x = record {
  some = omega arith;
  inst = omega arith;
  from = omega arith;
  to = omega arith;
  positive = omega arith;
  amount = omega arith;
}

taken_value : (amount : ℕ) → 0 < amount → amount < 10 → IsWord (signed_decimal (taken_by amount))
taken_value zero some few = absurd (omega (arith, some))
taken_value (suc n) some few = (
  value_is (45 ∷ decimal (suc n)) (omega arith)
      (behind 45 (decimal (suc n)) (omega arith, omega arith) (digit_bytes (suc n) (omega (arith, few)))),
  omega (arith, number_short (suc n) (omega (arith, few))),
)

transfer_comes : (number : ℕ) (t : Transfer) (rest : List Form) (before : List Line) → number < 10000 → IsTransfer t
    → IsBehind before number number → Continues (number + 1) rest → MayAllCome before (transfer_forms number t rest)
transfer_comes number t rest before small is was go =
    let begin : Form = Begin t.inst (name_of number) in
    let take : Form = Add (name_of number) number (account_rid t.from) (taken_by t.amount) in
    let give : Form = Add (name_of number) number (account_rid t.to) (pos t.amount) in
    let begun_now = begins before t.inst number number was small in
    let known : IsOfBegun (one_more before begin) (name_of number) number = known_now before t.inst number number was small in
    let taken = goes_on (one_more before begin) take (number + 1) (number + 1) begun_now refl refl in
    let still : IsOfBegun (one_more (one_more before begin) take) (name_of number) number =
    still_known (one_more before begin) take (name_of number) number refl known in
    let given = goes_on (one_more (one_more before begin) take) give (number + 1) (number + 1) taken refl refl in
    let yet : IsOfBegun (one_more (one_more (one_more before begin) take) give) (name_of number) number =
    still_known (one_more (one_more before begin) take) give (name_of number) number refl still in
    let less = taken_value t.amount is.positive is.amount in (
      begin_comes before t.inst number (name_of number) (is_name number small) is.some is.inst was.insts
          (was.fresh number (omega arith) small),
      (
        add_comes (one_more before begin) (number + 1) (number + 1) number t.from (taken_by t.amount) begun_now small known
            is.from (taken_amount t.amount is.amount) less,
        (
          add_comes (one_more (one_more before begin) take) (number + 1) (number + 1) number t.to (pos t.amount) taken small still
              is.to (omega (arith, is.amount)) (number_word t.amount (omega (arith, is.amount))),
          ending_comes (number % 25 == 0) (number % 7 == 0) number t.inst rest
              (one_more (one_more (one_more before begin) take) give) small is.some is.inst given yet go,
        ),
      ),
    )

table_comes : (before : List Line) (next : ℕ) → IsBehind before next next → MayCome before Table
table_comes before next was = record {
  words = (fixed (codes "table") refl, tt);
  some = omega arith;
  few = omega arith;
  first = refl;
  stands = refl;
  is = tt;
  follows = (λ e. omega (arith, was.some, ap length e), omega (arith, was.tables));
}

transfers_come : (number more x : ℕ) → number + more < 10000 → Continues number (transfers_forms number more x)
transfers_come number zero x small before was = (table_comes before number was, tt)
transfers_come number (suc more) x small before was =
    transfer_comes number (transfer_of x) (transfers_forms (number + 1) more (state_behind 4 x)) before (omega (arith, small))
    (transfer_is x) was (transfers_come (number + 1) more (state_behind 4 x) (omega (arith, small)))

-- ---- the text

line_then : (xs ys rest : List ℕ) (more : List ℕ) → xs ≡ ys → rest ≡ more → xs ++ rest ≡ ys ++ more
line_then xs ys rest more first next = ap (λ (l : List ℕ). l ++ rest) first ∙ ap (λ (l : List ℕ). ys ++ l) next

account_text : (n : ℕ) → line_of (form_words (Insert (codes "s") 0 (n % 4) (codes "100") (Some 8))) ≡ account_line n
account_text n =
    ap (λ (w : List ℕ). line_of (codes "insert" ∷ codes "s" ∷ w ∷ codes "100" ∷ decimal 8 ∷ []))
    (decimal_digit (n % 4) (omega arith))
    ∙ ap (λ (w : List ℕ). line_of (codes "insert" ∷ codes "s" ∷ ((48 + n % 4) ∷ []) ∷ codes "100" ∷ w ∷ []))
    (decimal_digit 8 (omega arith))

abbrev commit_line : List ℕ
commit_line = line_of (codes "commit" ∷ codes "s" ∷ [])

accounts_text : (accounts : List ℕ) (rest : List Form)
    → text_of (accounts_forms accounts rest) ≡ (flat_map account_line accounts ++ commit_line) ++ text_of rest
accounts_text [] rest = refl
accounts_text (n ∷ accounts) rest =
    line_then (line_of (form_words (Insert (codes "s") 0 (n % 4) (codes "100") (Some 8)))) (account_line n)
    (text_of (accounts_forms accounts rest)) ((flat_map account_line accounts ++ commit_line) ++ text_of rest)
    (account_text n) (accounts_text accounts rest)
    ∙ sym (append_assoc (account_line n) (flat_map account_line accounts ++ commit_line) (text_of rest))
    ∙ ap (λ (l : List ℕ). l ++ text_of rest)
    (sym (append_assoc (account_line n) (flat_map account_line accounts) commit_line)
    ∙ ap (λ (l : List ℕ). l ++ commit_line) (sym (flat_map-cons account_line n accounts)))

complex_text : line_of (form_words (Complex 4 4 2)) ≡ line_of (codes "complex" ∷ codes "4" ∷ codes "4" ∷ codes "2" ∷ [])
complex_text =
    ap (λ (w : List ℕ). line_of (codes "complex" ∷ w ∷ w ∷ decimal 2 ∷ [])) (decimal_digit 4 (omega arith))
    ∙ ap (λ (w : List ℕ). line_of (codes "complex" ∷ codes "4" ∷ codes "4" ∷ w ∷ [])) (decimal_digit 2 (omega arith))

begin_text : line_of (form_words (Begin 1 (codes "s"))) ≡ line_of (codes "1" ∷ codes "begin" ∷ codes "s" ∷ [])
begin_text = ap (λ (w : List ℕ). line_of (w ∷ codes "begin" ∷ codes "s" ∷ [])) (decimal_digit 1 (omega arith))

head_text_is : (rest : List Form) → text_of (head_forms rest) ≡ head_text ++ text_of rest
unfolding head_text
head_text_is rest =
    let complex : List ℕ = line_of (codes "complex" ∷ codes "4" ∷ codes "4" ∷ codes "2" ∷ []) in
    let begin : List ℕ = line_of (codes "1" ∷ codes "begin" ∷ codes "s" ∷ []) in
    let accounts : List ℕ = flat_map account_line accounts_ten ++ commit_line in
    line_then (line_of (form_words (Complex 4 4 2))) complex (text_of (Begin 1 (codes "s") ∷ accounts_forms accounts_ten rest))
    (begin ++ (accounts ++ text_of rest)) complex_text
    (line_then (line_of (form_words (Begin 1 (codes "s")))) begin (text_of (accounts_forms accounts_ten rest))
    (accounts ++ text_of rest) begin_text (accounts_text accounts_ten rest))
    ∙ ap (λ (l : List ℕ). complex ++ l) (sym (append_assoc begin accounts (text_of rest)))
    ∙ sym (append_assoc complex (begin ++ accounts) (text_of rest))

failure_text_is : (inst : ℕ) → text_of (failure_forms inst) ≡ failure_text inst
failure_text_is inst =
    let fail : List ℕ = line_of (codes "fail" ∷ decimal inst ∷ []) in
    let recover : List ℕ = line_of (codes "recover" ∷ decimal inst ∷ codes "by" ∷ decimal (inst % 4 + 1) ∷ []) in
    let join : List ℕ = line_of (codes "join" ∷ decimal inst ∷ []) in
    ap (λ (l : List ℕ). fail ++ (recover ++ l)) (append-nil join) ∙ sym (append_assoc fail recover join)

ending_text_is : (number inst : ℕ) (fails backs : Bool) → text_of (ending_forms fails backs number inst)
    ≡ (if fails then failure_text inst
    else if backs then line_of (codes "rollback" ∷ name_of number ∷ [])
    else line_of (codes "commit" ∷ name_of number ∷ []))
ending_text_is number inst true backs = failure_text_is inst
ending_text_is number inst false true = append-nil (line_of (codes "rollback" ∷ name_of number ∷ []))
ending_text_is number inst false false = append-nil (line_of (codes "commit" ∷ name_of number ∷ []))

take_text : (number account amount : ℕ) → 0 < amount
    → line_of (form_words (Add (name_of number) number (account_rid account) (taken_by amount)))
    ≡ add_line number account (codes "-" ++ decimal amount)
take_text number account amount some =
    ap (λ (w : List ℕ). line_of (codes "add" ∷ name_of number ∷ rid_word (account_rid account) ∷ w ∷ []))
    (sym (taken_word amount some))

transfer_text_is : (number : ℕ) (t : Transfer) (rest : List Form) → 0 < t.amount
    → text_of (transfer_forms number t rest) ≡ transfer_text number t ++ text_of rest
transfer_text_is number t rest some =
    let begin : List ℕ = line_of (decimal t.inst ∷ codes "begin" ∷ name_of number ∷ []) in
    let take : List ℕ = add_line number t.from (codes "-" ++ decimal t.amount) in
    let give : List ℕ = add_line number t.to (decimal t.amount) in
    let ending : List Form = ending_forms (number % 25 == 0) (number % 7 == 0) number t.inst in
    let last : text_of (ending ++ rest) ≡ ending_text number t.inst ++ text_of rest =
    text_append ending rest
    ∙ ap (λ (l : List ℕ). l ++ text_of rest) (ending_text_is number t.inst (number % 25 == 0) (number % 7 == 0)) in
    ap (λ (l : List ℕ). begin ++ l)
    (line_then (line_of (form_words (Add (name_of number) number (account_rid t.from) (taken_by t.amount)))) take
    (give ++ text_of (ending ++ rest)) (give ++ (ending_text number t.inst ++ text_of rest))
    (take_text number t.from t.amount some) (ap (λ (l : List ℕ). give ++ l) last))
    ∙ sym (append_assoc begin take (give ++ (ending_text number t.inst ++ text_of rest)))
    ∙ sym (append_assoc (begin ++ take) give (ending_text number t.inst ++ text_of rest))
    ∙ sym (append_assoc (begin ++ take ++ give) (ending_text number t.inst) (text_of rest))

abbrev table_line : List ℕ
table_line = line_of (codes "table" ∷ [])

transfers_text_is : (number more x : ℕ) → text_of (transfers_forms number more x) ≡ transfers_text number more x ++ table_line
transfers_text_is number zero x = append-nil table_line
transfers_text_is number (suc more) x =
    let next : ℕ = state_behind 4 x in
    let is = transfer_is x in
    transfer_text_is number (transfer_of x) (transfers_forms (number + 1) more next) is.positive
    ∙ ap (λ (l : List ℕ). transfer_text number (transfer_of x) ++ l) (transfers_text_is (number + 1) more next)
    ∙ sym (append_assoc (transfer_text number (transfer_of x)) (transfers_text (number + 1) more next) table_line)

-- ---- the script

ending_few : (fails backs : Bool) (number inst : ℕ) → length (ending_forms fails backs number inst) ≤ 3
ending_few true backs number inst = omega arith
ending_few false true number inst = omega arith
ending_few false false number inst = omega arith

transfers_few : (number more x : ℕ) → length (transfers_forms number more x) ≤ 6 * more + 1
transfers_few number zero x = omega arith
transfers_few number (suc more) x =
    let t : Transfer = transfer_of x in
    let rest : List Form = transfers_forms (number + 1) more (state_behind 4 x) in
    let ending : List Form = ending_forms (number % 25 == 0) (number % 7 == 0) number t.inst in
    omega (
      arith,
      ending_few (number % 25 == 0) (number % 7 == 0) number t.inst,
      length-append ending rest,
      transfers_few (number + 1) more (state_behind 4 x),
    )

pub generated : (number count : ℕ) → count ≤ 2000 → (lines : List Line) × IsScript (gen_text number count) lines
generated number count few =
    let rest : List Form = transfers_forms 1 count number in
    let forms : List Form = head_forms rest in
    let may : MayAllCome [] forms = head_comes rest (transfers_come 1 count number (omega (arith, few))) in
    let text : text_of forms ≡ gen_text number count =
    head_text_is rest ∙ ap (λ (l : List ℕ). head_text ++ l) (transfers_text_is 1 count number)
    ∙ sym (append_assoc head_text (transfers_text 1 count number) table_line) in (
      lines_from 0 forms,
      subst (λ (t : List ℕ). IsScript t (lines_from 0 forms)) text
          (is_script forms may (omega arith) (omega (arith, few, transfers_few 1 count number))),
    )
