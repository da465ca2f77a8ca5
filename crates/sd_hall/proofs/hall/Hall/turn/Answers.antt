use Rattle.std.proofs.Common.{Some, refl, sym, subst}
use Rattle.sd_world.specs.Serving.{Telling, telling}
use Rattle.sd_hall.specs.Bodies.{AwaitsIn, IsWorked, ServesIn, fits_in}
use Rattle.sd_hall.specs.Served.{told_in}
use Rattle.sd_hall.proofs.Bodies.{neither}
use Rattle.sd_hall.proofs.hall.Hall.turn.Goals as goal

pub serve_body-requires : goal.serve_body-requires
serve_body-requires g c =
    let fits = c.requires.fits in
    let few = c.requires.few in
    record {
      served = c.requires.served;
      within = neither c.args.e.now (λ pick is. c.in_default.not-FailAll pick is) (λ is. c.in_default.not-Reopen is);
      fresh = c.requires.fresh;
      fits = (fits.0, subst (λ b. fits_in g.G.Rig.seen g.G.Rig.leaves b fits.0) c.in-Some.is fits.1);
      few = (few.0, subst (λ b. fits_in g.G.Rig.seen g.G.Rig.leaves b few.0) c.in-Some.is few.1, few.2);
    }

pub returns-in-Some : goal.returns-in-Some
returns-in-Some g c =
    let tell : Telling _ = telling g.G.Rig.seen g.G.Rig.leaves g.G.Rig.moment g.G.Rig.since g.G.Rig.faults in
    let done = c.serve_body.ensures in
    record {
      served = subst
          (λ b. ServesIn tell c.args.e.now (told_in c.serve_body.result c.serve_body.new.answer) b (Some c.serve_body.new.body))
          (sym c.in-Some.is) done.served;
      there = done.there;
      down = done.down;
      awaits = λ i place is needs. subst (λ b. AwaitsIn i b) (sym c.in-Some.is) (done.awaits i place is needs);
      works = λ r told. subst (λ b. IsWorked g.G.Rig.seen c.args.e.now r b (Some c.serve_body.new.body)) (sym c.in-Some.is) (done.works r told);
      reopens = λ is did. absurd (c.in_default.not-Reopen is);
      closes = λ pick is. absurd (c.in_default.not-FailAll pick is);
      book = refl;
      shape = refl;
      owed = refl;
    }
