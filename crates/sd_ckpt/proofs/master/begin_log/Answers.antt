use Rattle.std.proofs.Common.{◌≡◌, ℕ, ◌-◌, ◌≤◌, List, get_or, map, slice_set, sym, ap, ◌∙◌, arith}
use Rattle.std.specs.Prelude.{Option, None, option_map}
use Rattle.std.proofs.lemmas.List.{map-set}
use Rattle.sd_log.specs.Logs.{LogState, begun_at}
use Rattle.sd_state.specs.Complexes.{begun_of, parts}
use Rattle.sd_state.specs.declared.complex.Checkpoint.{Checkpoint}
use Rattle.sd_state.specs.Parts.{Begun, Parts, log_at, no_log}
use Rattle.sd_state.proofs.Items.{item-is}
use Rattle.sd_ckpt.proofs.master.begin_log.Goals as goal

pub returns-clause-parts : goal.returns-clause-parts
returns-clause-parts g c =
    let i : ℕ = c.args.i in
    let low : 1 ≤ i = omega (arith, c.get.ensures.value, c.get.ensures.low) in
    let high : i ≤ 8 = omega (arith, c.get.ensures.value, c.get.ensures.high) in
    let place : c.get.result - 1 ≡ i - 1 = ap (λ (n : ℕ). n - 1) c.get.ensures.value in
    let none : Option Checkpoint = None in
    let start : ℕ = c.args.next.now.start in
    let p : Parts = parts c.args.c.now in
    let lent : LogState = c.index_mut.result.now in
    let is : log_at p i ≡ lent = item-is no_log p.logs i lent low high c.requires.shape.logs
    (c.index_mut.ensures.value ∙ ap (λ (n : ℕ). get_or p.logs n lent) place) in
    let made : ℕ → LogState → List (Option Begun) → Parts = λ n log checks.
    record p { logs = slice_set p.logs n log; masters = slice_set p.masters n c.args.next.now.count; checks = checks } in
    let checks : List (Option Begun) = map (option_map begun_of) (slice_set c.args.c.now.checks.items (c.get.result - 1) none) in
    ap (λ (log : LogState). made (c.get.result - 1) log checks) (c.begin_at.ensures ∙ ap (begun_at start) (sym is))
    ∙ ap (made (c.get.result - 1) (begun_at start (log_at p i)))
    (map-set (option_map begun_of) c.args.c.now.checks.items (c.get.result - 1) none
    ∙ ap (λ (n : ℕ). slice_set {A = Option Begun} p.checks n None) place)
    ∙ ap (λ (n : ℕ). made n (begun_at start (log_at p i)) (slice_set {A = Option Begun} p.checks (i - 1) None)) place
