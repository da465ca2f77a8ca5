-- A gate and a body within a part of a device's bytes. It serves callers that read a twin from such a part.
use Rattle.std.proofs.Common.{◌≡◌, ℕ, ◌+◌, ◌<◌, ◌≤◌, List, take, drop, get_or, sym, ap, ◌∙◌, arith}
use Rattle.std.specs.Prelude.{◌==◌}
use Rattle.std.proofs.lemmas.List.{drop-drop, drop-take, get_or-drop, get_or-take, take-take}
use Rattle.sd_base.specs.Twin.{body_at, is_open}

-- a byte of a part
pub byte_within : (at len i : ℕ) (bytes : List ℕ) → i < len → get_or (take len (drop at bytes)) i 0 ≡ get_or bytes (at + i) 0
byte_within at len i bytes h = get_or-take len (drop at bytes) i 0 h ∙ get_or-drop at bytes i 0

-- a part of a part
pub part_within : (at len from n : ℕ) (bytes : List ℕ) → from + n ≤ len → take n (drop from (take len (drop at bytes))) ≡ take n (drop (at + from) bytes)
part_within at len from n bytes h =
    sym (drop-take from n (take len (drop at bytes)))
    ∙ ap (drop from) (take-take (from + n) len (drop at bytes) h)
    ∙ drop-take from n (drop at bytes)
    ∙ ap (take n) (drop-drop from at bytes)

-- a gate within a part stands open where it does on the device
pub open_within : (at len gate : ℕ) (bytes : List ℕ) → gate < len → is_open gate (take len (drop at bytes)) ≡ is_open (at + gate) bytes
open_within at len gate bytes h = ap (λ b. b == 165) (byte_within at len gate bytes h)

-- a body within a part is that on the device
pub body_within : (at len gate n : ℕ) (bytes : List ℕ) → gate + 1 + n ≤ len → body_at n gate (take len (drop at bytes)) ≡ body_at n (at + gate) bytes
body_within at len gate n bytes h = let place : at + (gate + 1) ≡ at + gate + 1 = omega arith in
    part_within at len (gate + 1) n bytes h ∙ ap (λ p. take n (drop p bytes)) place
