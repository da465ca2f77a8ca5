use Rattle.std.proofs.Common.{◌≡◌, inr, ℕ, false, ap, ◌∙◌, refl}
use Rattle.sd_state.specs.Complexes.{parts}
use Rattle.sd_state.specs.Parts.{Parts, is_loose, owed_at, status_at, txns_at}
use Rattle.sd_state.specs.Values.{Pending}
use Rattle.sd_txn.specs.Transactions.{span_at, state_at}
use Rattle.sd_state.proofs.WorkingGood.{working-settled}
use Rattle.sd_one.proofs.Ready.{forced-empty, ready}
use Rattle.sd_one.proofs.ends.roll_back_whole.Goals as goal

pub rolled_back-requires-clause-good : goal.rolled_back-requires-clause-good
rolled_back-requires-clause-good g c = (c.seal.ensures.m, c.force_log.ensures.good Pending.Idle c.seal.ensures.m c.seal.ensures.good)

pub rolled_back-requires-clause-up : goal.rolled_back-requires-clause-up
rolled_back-requires-clause-up g c =
    let i : ℕ = c.args.t.now.inst in
    let rolls = c.if-not-is_bare.ensures.rolls refl in
    let settled : is_loose (parts c.seal.new.c) i ≡ false = working-settled (g.G.Rig.seen c.seal.new.c.rig) (g.G.Rig.leaves c.seal.new.c.rig)
    Pending.Idle (parts c.seal.new.c) c.seal.ensures.m i c.seal.ensures.good c.seal.ensures.idle rolls.numbered.low rolls.up in
    ap (λ (p : Parts). status_at p i) (c.in_ok-force_log.ensures.forced settled) ∙ rolls.up

pub rolled_back-requires-clause-rolls : goal.rolled_back-requires-clause-rolls
rolled_back-requires-clause-rolls g c =
    let i : ℕ = c.args.t.now.inst in
    let rolls = c.if-not-is_bare.ensures.rolls refl in
    let settled : is_loose (parts c.seal.new.c) i ≡ false = working-settled (g.G.Rig.seen c.seal.new.c.rig) (g.G.Rig.leaves c.seal.new.c.rig)
    Pending.Idle (parts c.seal.new.c) c.seal.ensures.m i c.seal.ensures.good c.seal.ensures.idle rolls.numbered.low rolls.up in
    ap (λ (p : Parts). state_at (txns_at p i) c.args.t.now) (c.in_ok-force_log.ensures.forced settled) ∙ rolls.state

pub rolled_back-requires-clause-bare : goal.rolled_back-requires-clause-bare
rolled_back-requires-clause-bare g c =
    let i : ℕ = c.args.t.now.inst in
    let rolls = c.if-not-is_bare.ensures.rolls refl in
    let settled : is_loose (parts c.seal.new.c) i ≡ false = working-settled (g.G.Rig.seen c.seal.new.c.rig) (g.G.Rig.leaves c.seal.new.c.rig)
    Pending.Idle (parts c.seal.new.c) c.seal.ensures.m i c.seal.ensures.good c.seal.ensures.idle rolls.numbered.low rolls.up in
    ap (λ (p : Parts). span_at (txns_at p i) c.args.t.now) (c.in_ok-force_log.ensures.forced settled) ∙ c.if-not-is_bare.ensures.bare refl

pub rolled_back-requires-clause-ended : goal.rolled_back-requires-clause-ended
rolled_back-requires-clause-ended g c =
    let i : ℕ = c.args.t.now.inst in
    let rolls = c.if-not-is_bare.ensures.rolls refl in
    let settled : is_loose (parts c.seal.new.c) i ≡ false = working-settled (g.G.Rig.seen c.seal.new.c.rig) (g.G.Rig.leaves c.seal.new.c.rig)
    Pending.Idle (parts c.seal.new.c) c.seal.ensures.m i c.seal.ensures.good c.seal.ensures.idle rolls.numbered.low rolls.up in
    inr (forced-empty (parts c.seal.new.c) (parts c.force_log.new.self) i (owed_at (parts c.force_log.new.self) i)
    rolls.numbered.low rolls.numbered.high c.seal.ensures.good.shape.logs (c.in_ok-force_log.ensures.forced settled))

pub returns : goal.returns
returns g c =
    let i : ℕ = c.args.t.now.inst in
    let rolls = c.if-not-is_bare.ensures.rolls refl in
    let settled : is_loose (parts c.seal.new.c) i ≡ false = working-settled (g.G.Rig.seen c.seal.new.c.rig) (g.G.Rig.leaves c.seal.new.c.rig)
    Pending.Idle (parts c.seal.new.c) c.seal.ensures.m i c.seal.ensures.good c.seal.ensures.idle rolls.numbered.low rolls.up in
    ready (ap (λ (p : Parts). p.due) c.rolled_back.ensures.parts ∙ ap (λ (p : Parts). p.due) (c.in_ok-force_log.ensures.forced settled)
    ∙ c.seal.ensures.idle)
    (c.rolled_back.ensures.good c.seal.ensures.m (c.force_log.ensures.good Pending.Idle c.seal.ensures.m c.seal.ensures.good))
