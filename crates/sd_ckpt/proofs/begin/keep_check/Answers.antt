use Rattle.std.proofs.Common.{◌≡◌, ℕ, ◌-◌, List, slice_set, ap, ◌∙◌}
use Rattle.std.specs.Prelude.{Option, Some, option_map}
use Rattle.std.proofs.lemmas.List.{map-set}
use Rattle.sd_state.specs.Complexes.{begun_of, parts}
use Rattle.sd_state.specs.declared.complex.Checkpoint.{Checkpoint}
use Rattle.sd_state.specs.Parts.{Begun, Parts}
use Rattle.sd_ckpt.proofs.begin.keep_check.Goals as goal

pub returns-clause-parts : goal.returns-clause-parts
returns-clause-parts g c =
    let i : ℕ = c.args.i in
    let place : c.get.result - 1 ≡ i - 1 = ap (λ (n : ℕ). n - 1) c.get.ensures.value in
    let p : Parts = parts c.args.c.now in
    let kept : Option Checkpoint = Some c.args.check in
    let made : List (Option Begun) → Parts = λ checks. record p { checks = checks } in
    ap made (map-set (option_map begun_of) c.args.c.now.checks.items (c.get.result - 1) kept
    ∙ ap (λ (n : ℕ). slice_set {A = Option Begun} p.checks n (Some (begun_of c.args.check))) place)
