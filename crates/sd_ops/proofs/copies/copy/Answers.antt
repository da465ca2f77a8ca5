use Rattle.std.proofs.Common.{sym, ap, ◌∙◌, ◌-◌, ℕ, arith}
use Rattle.sd_pagelock.specs.Places.{PageEntry, holds_as}
use Rattle.sd_state.specs.Complexes.{parts}
use Rattle.sd_state.specs.Values.{Pending}
use Rattle.sd_ops.proofs.Held.{copy-is, copy-there}
use Rattle.sd_ops.proofs.copies.copy.Goals as goal

pub unwrap-requires : goal.unwrap-requires
unwrap-requires g c = let rig = c.args.c.now.rig in
    copy-there (g.G.Rig.seen rig) (g.G.Rig.leaves rig) Pending.Idle (parts c.args.c.now) c.requires.good.0 c.requires.good.1 c.args.mode c.args.i
    (c.get.result - 1) c.args.p (omega (arith, c.get.ensures.value, c.get.ensures.low)) (omega (arith, c.get.ensures.value, c.get.ensures.high)) (ap (λ (n : ℕ). n - 1) c.get.ensures.value) c.index.result.now c.index.ensures
    (ap (λ (e : PageEntry). holds_as c.args.mode e c.args.i) (sym c.entry-place.ensures) ∙ sym c.if-not-holds_as.ensures) c.look.result c.look.ensures

pub returns-clause-image : goal.returns-clause-image
returns-clause-image g c = let rig = c.args.c.now.rig in
    copy-is (g.G.Rig.seen rig) (g.G.Rig.leaves rig) Pending.Idle (parts c.args.c.now) c.requires.good.0 c.requires.good.1 c.args.mode c.args.i
    (c.get.result - 1) c.args.p (omega (arith, c.get.ensures.value, c.get.ensures.low)) (omega (arith, c.get.ensures.value, c.get.ensures.high)) (ap (λ (n : ℕ). n - 1) c.get.ensures.value) c.index.result.now c.index.ensures
    (ap (λ (e : PageEntry). holds_as c.args.mode e c.args.i) (sym c.entry-place.ensures) ∙ sym c.if-not-holds_as.ensures) c.look.result c.look.ensures
    c.unwrap.result c.unwrap.ensures
