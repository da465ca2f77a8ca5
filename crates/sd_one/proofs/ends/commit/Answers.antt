use Rattle.std.proofs.Common.{◌≡◌, ℕ, false, ap, ◌∙◌, refl}
use Rattle.sd_state.specs.Complexes.{parts}
use Rattle.sd_state.specs.Parts.{Parts, is_loose, owed_at}
use Rattle.sd_state.specs.Values.{Pending}
use Rattle.sd_state.proofs.WorkingGood.{working-settled}
use Rattle.sd_one.proofs.Ready.{forced-empty, ready}
use Rattle.sd_one.proofs.ends.commit.Goals as goal

pub returns-then-is_none : goal.returns-then-is_none
returns-then-is_none g c = ready (ap (λ (p : Parts). p.due) c.committed_bare.ensures.parts ∙ c.requires.idle)
    (c.committed_bare.ensures.good c.requires.m c.requires.good)

pub force_log-requires-clause-good : goal.force_log-requires-clause-good
force_log-requires-clause-good g c = (Pending.Commits c.args.t.now, c.requires.m, c.seal_commit.ensures.good c.requires.m c.requires.good)

pub committed-requires-clause-good : goal.committed-requires-clause-good
committed-requires-clause-good g c = (
  c.requires.m,
  c.force_log.ensures.good (Pending.Commits c.args.t.now) c.requires.m (c.seal_commit.ensures.good c.requires.m c.requires.good),
)

pub committed-requires-clause-forced : goal.committed-requires-clause-forced
committed-requires-clause-forced g c =
    let i : ℕ = c.args.t.now.inst in
    let runs = c.if-not-runs.ensures refl in
    let sealed = c.seal_commit.ensures.good c.requires.m c.requires.good in
    let settled : is_loose (parts c.seal_commit.new.c) i ≡ false =
    ap (λ (p : Parts). is_loose p i) c.seal_commit.ensures.parts.is
    ∙ working-settled (g.G.Rig.seen c.args.c.now.rig) (g.G.Rig.leaves c.args.c.now.rig) Pending.Idle (parts c.args.c.now) c.requires.m i
    c.requires.good c.requires.idle runs.numbered.low runs.up in
    forced-empty (parts c.seal_commit.new.c) (parts c.force_log.new.self) i (owed_at (parts c.force_log.new.self) i)
    runs.numbered.low runs.numbered.high sealed.shape.logs (c.in_ok-force_log.ensures.forced settled)

pub returns : goal.returns
returns g c =
    let i : ℕ = c.args.t.now.inst in
    let runs = c.if-not-runs.ensures refl in
    let settled : is_loose (parts c.seal_commit.new.c) i ≡ false =
    ap (λ (p : Parts). is_loose p i) c.seal_commit.ensures.parts.is
    ∙ working-settled (g.G.Rig.seen c.args.c.now.rig) (g.G.Rig.leaves c.args.c.now.rig) Pending.Idle (parts c.args.c.now) c.requires.m i
    c.requires.good c.requires.idle runs.numbered.low runs.up in
    ready (ap (λ (p : Parts). p.due) c.committed.ensures.parts ∙ ap (λ (p : Parts). p.due) (c.in_ok-force_log.ensures.forced settled)
    ∙ ap (λ (p : Parts). p.due) c.seal_commit.ensures.parts.is ∙ c.requires.idle)
    (c.committed.ensures.good c.requires.m
    (c.force_log.ensures.good (Pending.Commits c.args.t.now) c.requires.m (c.seal_commit.ensures.good c.requires.m c.requires.good)))
