use Rattle.std.proofs.Common.{◌≡◌, ◌<◌, true}
use Rattle.std.proofs.lemmas.Bool.{both_ways}
use Rattle.sd_recovered.specs.Following.{as_past}
use Rattle.sd_recovered.specs.Masters.{kept_master}
use Rattle.sd_recovered.proofs.Follows.{known_last, known_more}
use Rattle.sd_recovered.proofs.following.known_fits.Goals as goal
use Rattle.sd_recovered.proofs.following.known_fits.Goals.{else-past-via-then-past+else-epoch-past, else-past-via-else-past}

pub returns-then-later-gt0 : goal.returns-then-later-gt0
returns-then-later-gt0 c rest e =
    let rises : c.args.past.started ≡ true → c.args.past.epoch < c.args.epoch = elim c.else-past.branch [ else-past-via-then-past+else-epoch-past w ↦ λ t. w.if-epoch-past.false | else-past-via-else-past w ↦ λ t. absurd (both_ways _ w.if-past.false t) ] in
    known_more (kept_master c.args.m) (as_past c.args.past) c.args.epoch c.args.later rest rises c.if-epoch-m.true e c.if-later-gt0.true

pub returns-else-later-gt0 : goal.returns-else-later-gt0
returns-else-later-gt0 c rest e =
    let rises : c.args.past.started ≡ true → c.args.past.epoch < c.args.epoch = elim c.else-past.branch [ else-past-via-then-past+else-epoch-past w ↦ λ t. w.if-epoch-past.false | else-past-via-else-past w ↦ λ t. absurd (both_ways _ w.if-past.false t) ] in
    known_last (kept_master c.args.m) (as_past c.args.past) c.args.epoch c.args.later rest rises c.if-epoch-m.true e c.if-later-gt0.false
