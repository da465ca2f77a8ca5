use Rattle.std.proofs.Common.{◌≡◌, ◌⊎◌, ℕ, true, refl, ap, subst}
use Rattle.std.specs.Prelude.{None, Some}
use Rattle.sd_state.specs.Complexes.{parts}
use Rattle.sd_state.specs.Parts.{Parts, acting, actor, is_loose}
use Rattle.sd_state.specs.Values.{Pending}
use Rattle.sd_world.specs.Answers.Undoes.{none}
use Rattle.sd_world.specs.Serving.{Telling, telling}
use Rattle.sd_model.specs.declared.event.Event.TheVariants.{RecoverStep}
use Rattle.sd_model.specs.declared.event.Reply.TheVariants as reply
use Rattle.sd_fits.proofs.Disk.{other-device}
use Rattle.sd_fits.proofs.Recovering.{step_sums}
use Rattle.sd_fits.proofs.Served.{bounds-stay}
use Rattle.sd_recover.proofs.Fallen.{rest-touches}
use Rattle.sd_recover.proofs.Steps.{breaks, failed-all, failed-aside, failed-due, force-spares, rises, same-aside}
use Rattle.sd_recover.proofs.deciding.at_rest.Goals as goal

pub force_log-requires-clause-good : goal.force_log-requires-clause-good
force_log-requires-clause-good g c = let f = c.requires.fits in (Pending.Idle, f.0.scene.state, f.1.good)

pub down-requires-clause-good : goal.down-requires-clause-good
down-requires-clause-good g c =
    let f = c.requires.fits in
    (Pending.Idle, f.0.scene.state, c.in-Err.ensures.good Pending.Idle f.0.scene.state f.1.good)

pub down-requires-clause-due : goal.down-requires-clause-due
down-requires-clause-due g c =
    let f = c.requires.fits in
    let old : Parts = parts c.args.c.now in
    let mid = c.force_log.new.self in
    let i : ℕ = c.args.i in
    let n = c.keeps.ensures in
    let e = c.in-Err.ensures in
    let rig = c.args.c.now.rig in
    let who : actor old i ≡ c.args.by = ap (acting i) c.requires.recovers in
    subst (λ (a : ℕ). ((parts mid).due ≡ None) ⊎ ((j : ℕ) × ((parts mid).due ≡ Some (a, j)) × (is_loose (parts mid) j ≡ true))) who
    (failed-due (actor old i) i (g.G.Rig.seen rig) (g.G.Rig.seen mid.rig) (g.G.Rig.leaves rig) (g.G.Rig.leaves mid.rig) old (parts mid)
    f.0.scene.state f.1.good n.low n.high c.requires.settled (e.others 0 (other-device i n.low)) e.masters e.failed)

pub returns-in-Ok-clause-spared : goal.returns-in-Ok-clause-spared
returns-in-Ok-clause-spared g c =
    let tell : Telling _ = telling g.G.Rig.seen g.G.Rig.leaves g.G.Rig.moment g.G.Rig.since g.G.Rig.faults in
    let old = c.args.c.now in
    let mid = c.force_log.new.self in
    let i : ℕ = c.args.i in
    let n = c.keeps.ensures in
    let e = c.in-Ok.ensures in
    force-spares tell i c.args.by old n.low n.high c.requires.recovers mid (λ m good. e.good Pending.Idle m good) e.time
    (λ m good. e.images Pending.Idle m good) i n.low n.high c.requires.settled (e.others 0 (other-device i n.low)) e.masters
    (e.forced c.requires.settled) e.quiet

pub returns-in-Ok-clause-parts : goal.returns-in-Ok-clause-parts
returns-in-Ok-clause-parts g c = c.in-Ok.ensures.forced c.requires.settled

pub returns-in-Err-clause-fell : goal.returns-in-Err-clause-fell
returns-in-Err-clause-fell g c =
    let old : Parts = parts c.args.c.now in
    rest-touches (actor old c.args.i) c.args.i c.args.by old (parts c.force_log.new.self) (parts c.down.new.c) c.keeps-2.ensures.low
    c.keeps.ensures.high c.requires.fits.1.good.shape.loose c.in-Err.ensures.failed c.down.ensures.parts c.down.ensures.fallen

pub returns-in-Err-clause-failed : goal.returns-in-Err-clause-failed
returns-in-Err-clause-failed g c =
    let tell : Telling _ = telling g.G.Rig.seen g.G.Rig.leaves g.G.Rig.moment g.G.Rig.since g.G.Rig.faults in
    let old = c.args.c.now in
    let mid = c.force_log.new.self in
    let i : ℕ = c.args.i in
    let n = c.keeps.ensures in
    let k = c.keeps-2.ensures in
    let e = c.in-Err.ensures in
    let d = c.down.ensures in
    let disk : tell.seen mid.rig 0 ≡ tell.seen old.rig 0 = e.others 0 (other-device i n.low) in (
      λ w f.
          let all = failed-all (actor (parts old) i) i (tell.seen old.rig) (tell.seen mid.rig) (tell.leaves old.rig) (tell.leaves mid.rig)
          (parts old) (parts mid) w.scene.state f.good n.low n.high c.requires.settled disk e.masters e.failed w.pages (step_sums i w) f.pages
          (bounds-stay (tell.seen old.rig) (parts old) w.bounds (RecoverStep i) reply.Step tt f.bounds) f.doubts in
          breaks tell i c.args.by old n.low n.high c.requires.recovers mid (λ m good. e.good Pending.Idle m good) e.time
          (λ m good. e.images Pending.Idle m good) k.low k.high c.down.new.c d.rig d.parts d.fallen d.good w f w.pages
          (failed-aside (actor (parts old) i) i (tell.seen old.rig) (tell.seen mid.rig) (tell.leaves old.rig) (tell.leaves mid.rig)
          (parts old) (parts mid) w.scene.state f.good n.low n.high c.requires.settled disk e.masters e.failed i (parts old) (same-aside i (parts old)))
          (none refl) all.0 all.1 all.2,
      rises tell old.rig mid.rig c.down.new.c.rig d.rig e.cause,
    )
