use Rattle.std.proofs.Common.{◌≡◌, true, false, sym, ap, ◌∙◌, subst}
use Rattle.std.specs.Prelude.{◌&&◌}
use Rattle.sd_pagelock.specs.Places.{changed, holds, receives}
use Rattle.sd_world.specs.Pages.{is_duty}
use Rattle.sd_world.specs.Serving.{Telling, telling}
use Rattle.sd_drive.specs.Bodies.{entry_in}
use Rattle.sd_drive.proofs.Bodies.{open-fits, open-is, shut-is}
use Rattle.sd_drive.proofs.pull.leaving.Goals as goal

pub leaver_of-requires : goal.leaver_of-requires
leaver_of-requires g c =
    let tell : Telling _ = telling g.G.Rig.seen g.G.Rig.leaves g.G.Rig.moment g.G.Rig.since g.G.Rig.faults in
    let f = c.requires.full in
    record { full = (f.0, open-fits tell c.args.hall.now.body c.in-Some.c.now c.in-Some.ensures f.0 f.1, f.2) }

pub unreachable-requires : goal.unreachable-requires
unreachable-requires g c =
    let tell : Telling _ = telling g.G.Rig.seen g.G.Rig.leaves g.G.Rig.moment g.G.Rig.since g.G.Rig.faults in
    let f = c.requires.full in f.2.0 (shut-is tell c.args.hall.now.body c.in-None.ensures f.0 f.1 1)

pub returns-clause-held : goal.returns-clause-held
returns-clause-held g c =
    let tell : Telling _ = telling g.G.Rig.seen g.G.Rig.leaves g.G.Rig.moment g.G.Rig.since g.G.Rig.faults in
    subst (λ b. holds (entry_in b c.leaver_of.result.page) c.args.inst ≡ true)
    (sym (open-is tell c.args.hall.now.body c.in-Some.c.now c.in-Some.ensures)) c.leaver_of.ensures.held

pub returns-clause-still : goal.returns-clause-still
returns-clause-still g c =
    let tell : Telling _ = telling g.G.Rig.seen g.G.Rig.leaves g.G.Rig.moment g.G.Rig.since g.G.Rig.faults in
    subst (λ b. receives (entry_in b c.leaver_of.result.page) c.args.inst ≡ false)
    (sym (open-is tell c.args.hall.now.body c.in-Some.c.now c.in-Some.ensures)) c.leaver_of.ensures.still

pub returns-clause-duty : goal.returns-clause-duty
returns-clause-duty g c =
    let tell : Telling _ = telling g.G.Rig.seen g.G.Rig.leaves g.G.Rig.moment g.G.Rig.since g.G.Rig.faults in
    c.leaver_of.ensures.duty ∙ ap (λ b. changed (entry_in b c.leaver_of.result.page) && is_duty c.args.inst (entry_in b c.leaver_of.result.page))
    (sym (open-is tell c.args.hall.now.body c.in-Some.c.now c.in-Some.ensures))
