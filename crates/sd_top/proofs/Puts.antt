-- What is written piece by piece. It serves the goals of output.rt and replaying.rt.
use Rattle.std.proofs.Common.{◌≡◌, ℕ, List, ◌++◌, ap, ◌∙◌, append_assoc}
use Rattle.std.specs.Prelude.{Option, None, Some}
use Rattle.sd_base.specs.Streams.{Appends}

pub appends_more : (first middle last : Option (List ℕ)) (x y : List ℕ) → Appends first x middle → Appends middle y last → Appends first (x ++ y) last
appends_more None middle last x y is new = more middle last is new where
  more : (middle last : Option (List ℕ)) → middle ≡ None → Appends middle y last → last ≡ None
  more None last e then = then
  more (Some text) last e then = absurd (cc)
appends_more (Some text) middle last x y is new = more middle last is new where
  more : (middle last : Option (List ℕ)) → middle ≡ Some (text ++ x) → Appends middle y last → last ≡ Some (text ++ (x ++ y))
  more None last e then = absurd (cc)
  more (Some front) last e then =
      let same : front ≡ text ++ x = cc in
      then ∙ ap (λ (l : List ℕ). Some (l ++ y)) same ∙ ap (λ (l : List ℕ). Some l) (append_assoc text x y)
