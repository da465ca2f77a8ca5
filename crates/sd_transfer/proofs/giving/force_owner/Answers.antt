use Rattle.std.proofs.Common.{◌+◌, Bool, cond, refl, sym, ap, ◌∙◌, arith}
use Rattle.sd_fits.proofs.Refused.{unlike}
use Rattle.sd_fits.proofs.Resting.{rests-same}
use Rattle.sd_fits.proofs.Served.{still-spares}
use Rattle.sd_fits.specs.Untouched.{none_of}
use Rattle.sd_pagelock.specs.Places.{PageEntry, owns}
use Rattle.sd_state.specs.Complexes.{parts}
use Rattle.sd_transfer.specs.Forcing.{force_calls}
use Rattle.sd_world.specs.Serving.{telling}
use Rattle.sd_base.proofs.Results.{on_ok}
use Rattle.sd_transfer.proofs.Touched.{same-untouched}
use Rattle.sd_transfer.proofs.giving.force_owner.Goals as goal

pub returns-then-not-owns-clause-spared : goal.returns-then-not-owns-clause-spared
returns-then-not-owns-clause-spared g c e =
    let old = c.args.c.now in
    let tell = telling g.G.Rig.seen g.G.Rig.leaves g.G.Rig.moment g.G.Rig.since g.G.Rig.faults in
    ((λ w f. still-spares tell old old w refl (λ img since. g.met.G.Rig.only_now old.rig img since) f), refl)

pub returns-clause-forced : goal.returns-clause-forced
returns-clause-forced g c = on_ok c.force_or_fall.result _ _ (λ forced own settled. forced settled) c.force_or_fall.ensures.forced

pub returns-then-not-owns-clause-stays : goal.returns-then-not-owns-clause-stays
returns-then-not-owns-clause-stays g c = refl

pub returns-then-not-owns-clause-failed : goal.returns-then-not-owns-clause-failed
returns-then-not-owns-clause-failed g c = tt

pub returns-then-not-owns-clause-only : goal.returns-then-not-owns-clause-only
returns-then-not-owns-clause-only g c = tt

pub returns-then-not-owns-clause-down : goal.returns-then-not-owns-clause-down
returns-then-not-owns-clause-down g c = tt

pub returns-then-not-owns-clause-disk : goal.returns-then-not-owns-clause-disk
returns-then-not-owns-clause-disk g c = refl

pub returns-then-not-owns-clause-disk_leaves : goal.returns-then-not-owns-clause-disk_leaves
returns-then-not-owns-clause-disk_leaves g c n = ((λ left. left), (λ left. left))

pub force_or_fall-requires-clause-fits : goal.force_or_fall-requires-clause-fits
force_or_fall-requires-clause-fits g c = c.requires.fits

pub force_or_fall-requires-clause-active : goal.force_or_fall-requires-clause-active
force_or_fall-requires-clause-active g c = c.requires.active

pub returns-then-not-owns-clause-untouched : goal.returns-then-not-owns-clause-untouched
returns-then-not-owns-clause-untouched g c = same-untouched none_of none_of (parts c.args.c.now) (parts c.args.c.now) refl

pub returns-then-not-owns-clause-rest : goal.returns-then-not-owns-clause-rest
returns-then-not-owns-clause-rest g c = rests-same (parts c.args.c.now)

pub returns-then-not-owns-clause-tick : goal.returns-then-not-owns-clause-tick
returns-then-not-owns-clause-tick g c =
    let none = ap (λ (b : Bool). cond b (force_calls c.args.j (parts c.args.c.now)) 0)
    (ap (λ (e : PageEntry). owns e c.args.j) (sym c.entry.ensures) ∙ sym c.owns.ensures ∙ c.if-not-owns.true) in
    omega (arith, none)

pub returns-clause-shared : goal.returns-clause-shared
returns-clause-shared g c shares = unlike shares
    (ap (λ (e : PageEntry). owns e c.args.j) (sym c.entry.ensures) ∙ sym c.owns.ensures ∙ c.if-not-owns.false)

pub returns-clause-tick : goal.returns-clause-tick
returns-clause-tick g c = on_ok c.force_or_fall.result _ _
    (λ four. four ∙ ap (λ (b : Bool). g.G.Rig.moment c.args.c.now.rig + cond b (force_calls c.args.j (parts c.args.c.now)) 0)
    (sym (ap (λ (e : PageEntry). owns e c.args.j) (sym c.entry.ensures) ∙ sym c.owns.ensures ∙ c.if-not-owns.false)))
    c.force_or_fall.ensures.tick
