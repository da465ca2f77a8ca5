use Rattle.std.proofs.Common.{◌≡◌, ℕ, false, ap, ◌∙◌, refl, arith}
use Rattle.sd_state.specs.Complexes.{parts}
use Rattle.sd_state.specs.Parts.{Parts, is_loose, owed_at}
use Rattle.sd_state.specs.Values.{Pending}
use Rattle.sd_one.proofs.Ready.{forced-empty, ready}
use Rattle.sd_tests_complex.proofs.last_lsns.join.Goals as goal

pub force_log-requires-clause-good : goal.force_log-requires-clause-good
force_log-requires-clause-good g c =
    (Pending.Starts c.first-i.result, c.requires.m, c.in_ok-seal_start.ensures.good c.requires.m c.requires.good)

pub joined-requires-clause-good : goal.joined-requires-clause-good
joined-requires-clause-good g c = (
  c.requires.m,
  c.force_log.ensures.good (Pending.Starts c.first-i.result) c.requires.m
      (c.in_ok-seal_start.ensures.good c.requires.m c.requires.good),
)

pub joined-requires-clause-forced : goal.joined-requires-clause-forced
joined-requires-clause-forced g c =
    let i : ℕ = c.first-i.result in
    let started = c.in_ok-seal_start.ensures.good c.requires.m c.requires.good in
    let one = c.first-i.ensures in
    let settled : is_loose (parts c.seal_start.new.c) i ≡ false =
    ap (λ (p : Parts). is_loose p i) c.in_ok-seal_start.ensures.parts
    ∙ ap (λ (n : ℕ). is_loose (parts c.args.c.now) n) one ∙ c.if-not-is_settled.ensures refl in
    forced-empty (parts c.seal_start.new.c) (parts c.force_log.new.self) i (owed_at (parts c.force_log.new.self) i)
    (omega (arith, one)) (omega (arith, one)) started.shape.logs (c.in_ok-force_log.ensures.forced settled)

pub returns : goal.returns
returns g c =
    let settled : is_loose (parts c.seal_start.new.c) c.first-i.result ≡ false =
    ap (λ (p : Parts). is_loose p c.first-i.result) c.in_ok-seal_start.ensures.parts
    ∙ ap (λ (n : ℕ). is_loose (parts c.args.c.now) n) c.first-i.ensures ∙ c.if-not-is_settled.ensures refl in
    ready (ap (λ (p : Parts). p.due) c.joined.ensures.parts ∙ ap (λ (p : Parts). p.due) (c.in_ok-force_log.ensures.forced settled)
    ∙ ap (λ (p : Parts). p.due) c.in_ok-seal_start.ensures.parts ∙ c.requires.idle)
    (c.joined.ensures.good c.requires.m
    (c.force_log.ensures.good (Pending.Starts c.first-i.result) c.requires.m
    (c.in_ok-seal_start.ensures.good c.requires.m c.requires.good)))
