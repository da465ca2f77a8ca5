-- Bytes that are printed, and the first that isn't. It serves the goals of text.rt.
use Rattle.std.proofs.Common.{◌≡◌, ◌==◌, ◌||◌, Bool, true, false, not, ltb, nat_lt, ℕ, ◌<◌, ◌≤◌, List, length, take, get_or, Option, Some, None, refl, sym, ap, ◌∙◌, arith, length-take}
use Rattle.std.proofs.lemmas.Bool.{cond-false, cond-true, eq-eqb, lt-ltb, le-ltb, ltb-false, ne_eqb, true≢false}
use Rattle.std.proofs.lemmas.List.{get_or-take}
use Rattle.std.proofs.lemmas.List.Quantifiers.{position-Some}
use Rattle.std.proofs.lemmas.List.Sums.{fails_before_first, position_or_len_is}
use Rattle.std.specs.Prelude.{position, is_some, IsTrue, ◌↔◌}
use Rattle.std.specs.List.{position_or_len}
use Rattle.sd_script.specs.Causes.{ArePrinted}
use Rattle.sd_script.proofs.Parting.{not_found}

abbrev is_feed : ℕ → Bool
is_feed b = b == 10

abbrev is_unprinted : ℕ → Bool
is_unprinted b = ltb b 32 || ltb 126 b

neither : (a b : Bool) → (a || b) ≡ false → (a ≡ false) × (b ≡ false)
neither true b e = absurd (cc)
neither false b e = (refl, e)

printed_from : (b : ℕ) → is_unprinted b ≡ false → (32 ≤ b) × (b ≤ 126)
printed_from b e =
    let parts = neither (ltb b 32) (ltb 126 b) e in
    (ltb-false b 32 parts.0, ltb-false 126 b parts.1)

printed_to : (b : ℕ) → (32 ≤ b) × (b ≤ 126) → is_unprinted b ≡ false
printed_to b is = ap (λ (x : Bool). x || ltb 126 b) (le-ltb b 32 is.0) ∙ le-ltb 126 b is.1

no_feed : (b : ℕ) → (32 ≤ b) × (b ≤ 126) → is_feed b ≡ false
no_feed b is = ne_eqb b 10 (λ e. omega (arith, is, e))

-- the bytes before the first that isn't printed are, and where that one is an LF it is the first LF
module _ (text : List ℕ) (i : ℕ) (at : position is_unprinted text ≡ Some i) where
  printed_at : (k d : ℕ) → k < i → (32 ≤ get_or text k d) × (get_or text k d ≤ 126)
  printed_at k d lt = printed_from (get_or text k d) ((position-Some is_unprinted text i d at).2 k lt)

  pub printed_front : ArePrinted (take i text)
  printed_front = λ k d lt.
      let short : k < i = omega (arith, length-take i text, lt) in
      let same = get_or-take i text k d short in
      let is = printed_at k d short in
      (omega (arith, same, is), omega (arith, same, is))

  pub first_feed : (d : ℕ) → get_or text i d ≡ 10 → position is_feed text ≡ Some i
  first_feed d feed =
      let within : i < length text = (position-Some is_unprinted text i d at).0 in
      let place : position_or_len is_feed text ≡ i = position_or_len_is is_feed text i d (omega (arith, within))
      (λ k lt. no_feed (get_or text k d) (printed_at k d lt))
      (λ lt. eq-eqb (get_or text i d) 10 feed) in
      cond-true (nat_lt (position_or_len is_feed text) (length text)) (Some (position_or_len is_feed text)) None
      (lt-ltb (position_or_len is_feed text) (length text) (omega (arith, place, within)))
      ∙ ap (λ (n : ℕ). Some n) place

pub all_printed : (text : List ℕ) → position is_unprinted text ≡ None → ArePrinted text
all_printed text none = λ k d lt.
    printed_from (get_or text k d) (fails_before_first is_unprinted text k d (omega (arith, not_found is_unprinted text none, lt)))

pub without_feed : (text : List ℕ) → position is_unprinted text ≡ None → position is_feed text ≡ None
without_feed text none =
    let place : position_or_len is_feed text ≡ length text = position_or_len_is is_feed text (length text) 0 (omega arith)
    (λ k lt. no_feed (get_or text k 0) (all_printed text none k 0 lt))
    (λ lt. absurd (omega (arith, lt))) in
    cond-false (nat_lt (position_or_len is_feed text) (length text)) (Some (position_or_len is_feed text)) None
    (le-ltb (position_or_len is_feed text) (length text) (omega (arith, place)))

-- a test whether there is such a byte
pub none_printed : (line : List ℕ) (o : Option ℕ) (none : Bool) → o ≡ position is_unprinted line → is_some o ≡ not none
    → IsTrue none ↔ ArePrinted line
none_printed line None true is told = (λ _. all_printed line (sym is), λ _. refl)
none_printed line None false is told = absurd (true≢false (sym told))
none_printed line (Some i) true is told = absurd (true≢false told)
none_printed line (Some i) false is told = (
  λ e. absurd (true≢false (sym e)),
  λ printed.
      let found = position-Some is_unprinted line i 0 (sym is) in
      absurd (true≢false (sym found.1 ∙ printed_to (get_or line i 0) (printed i 0 found.0))),
)
