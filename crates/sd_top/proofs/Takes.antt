-- What is taken piece by piece. It serves the goals of input.rt.
use Rattle.std.proofs.Common.{◌≡◌, ℕ, ◌+◌, ◌≤◌, List, ◌++◌, length, take, sym, ap, ◌∙◌, append_assoc, length-append}
use Rattle.std.specs.Prelude.{Option, None, Some}
use Rattle.std.proofs.lemmas.List.{length-take-le}
use Rattle.sd_base.specs.Streams.{Gives}
use Rattle.sd_top.specs.Input.{Taken}

-- a piece more
pub taken_more : (first middle last : Option (List ℕ)) (text out : List ℕ) (n : ℕ) → Taken first text middle → Gives middle n out last → Taken first (text ++ take n out) last
taken_more None middle last text out n old new = more middle last old new where
  more : (middle last : Option (List ℕ)) → middle ≡ None → Gives middle n out last → last ≡ None
  more None last e given = given
  more (Some left) last e given = absurd (cc)
taken_more (Some left) middle last text out n (rest, split, is) new = more middle last is new where
  more : (middle last : Option (List ℕ)) → middle ≡ Some rest → Gives middle n out last → Taken (Some left) (text ++ take n out) last
  more None last e given = absurd (cc)
  more (Some middle_left) last e (after, parts, then, end) =
      let same : middle_left ≡ rest = cc in
      (after, split ∙ ap (λ (l : List ℕ). text ++ l) (sym same ∙ parts) ∙ sym (append_assoc text (take n out) after), then)

pub length_more : (text out : List ℕ) (n : ℕ) → n ≤ length out → length (text ++ take n out) ≡ length text + n
length_more text out n le = length-append text (take n out) ∙ ap (λ (m : ℕ). length text + m) (length-take-le n out le)
