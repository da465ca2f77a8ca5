use Rattle.std.proofs.Common.{◌++◌, Option, sym, subst, ap, ◌∙◌}
use Rattle.sd_base.specs.declared.ids.Rid.{Rid}
use Rattle.sd_base.specs.declared.place.Mode.{Mode}
use Rattle.sd_reclock.specs.Locks.{Held, held_in, Agree, IsNoStronger}
use Rattle.sd_reclock.proofs.Lowering.{agree_lowered}
use Rattle.sd_reclock.proofs.Joining.{has_row, held_few, held_many, lowered_few, lowered_many, apart_fewer, apart_changed}
use Rattle.sd_reclock.proofs.locks.Locks.lower.Goals as goal

pub lower-requires : goal.lower-requires
lower-requires c = record {
  inside = c.in-Some.ensures.0;
  weaker = λ d. subst (λ (m : Option Mode). IsNoStronger c.args.to m)
      (sym (ap (λ (z : Rid). held_in c.self.inside.few c.args.t.now z) (c.in-Some.ensures.1 d)
      ∙ held_few c.self.inside.few c.self.inside.many c.args.self.now c.args.t.now c.args.r.now c.self.view_is c.self.invariant.0 (has_row c.self.inside.few c.args.r.now c.in-Some.at c.in-Some.ensures)))
      c.requires.weaker;
}

pub lower-requires-in-None : goal.lower-requires-in-None
lower-requires-in-None c = record {
  weaker = subst (λ (m : Option Mode). IsNoStronger c.args.to m)
      (sym (held_many c.self.inside.few c.self.inside.many c.args.self.now c.args.t.now c.args.r.now c.self.view_is c.in-None.ensures)) c.requires.weaker;
}

pub returns-in-Some-clause-lowered : goal.returns-in-Some-clause-lowered
returns-in-Some-clause-lowered c = lowered_few c.self.inside.few c.lower.new.self c.self.inside.many c.args.self.now c.in-Some.at c.args.t.now c.args.r.now c.args.to c.self.view_is c.self.invariant.0 c.in-Some.ensures
    c.lower.ensures.rows c.lower.ensures.lowered

pub returns-in-None-clause-lowered : goal.returns-in-None-clause-lowered
returns-in-None-clause-lowered c = lowered_many c.self.inside.few c.self.inside.many c.lower-in-None.new.self c.args.self.now c.args.t.now c.args.r.now c.args.to c.self.view_is c.in-None.ensures c.lower-in-None.ensures.lowered

pub returns-in-Some-clause-agree : goal.returns-in-Some-clause-agree
returns-in-Some-clause-agree c = agree_lowered c.args.self.now (c.lower.new.self ++ c.self.inside.many) c.args.t.now c.args.r.now c.args.to
    (lowered_few c.self.inside.few c.lower.new.self c.self.inside.many c.args.self.now c.in-Some.at c.args.t.now c.args.r.now c.args.to c.self.view_is c.self.invariant.0 c.in-Some.ensures
    c.lower.ensures.rows c.lower.ensures.lowered)
    c.requires.weaker (subst (λ (l : Held). Agree l) c.self.view_is c.self.invariant.1)

pub returns-in-None-clause-agree : goal.returns-in-None-clause-agree
returns-in-None-clause-agree c = agree_lowered c.args.self.now (c.self.inside.few ++ c.lower-in-None.new.self) c.args.t.now c.args.r.now c.args.to
    (lowered_many c.self.inside.few c.self.inside.many c.lower-in-None.new.self c.args.self.now c.args.t.now c.args.r.now c.args.to c.self.view_is c.in-None.ensures c.lower-in-None.ensures.lowered)
    c.requires.weaker (subst (λ (l : Held). Agree l) c.self.view_is c.self.invariant.1)

pub invariant_of-self : goal.invariant_of-self
invariant_of-self c = (
  apart_fewer c.self.inside.few c.lower.new.self c.self.inside.many c.lower.ensures.rows c.self.invariant.0,
  agree_lowered c.args.self.now (c.lower.new.self ++ c.self.inside.many) c.args.t.now c.args.r.now c.args.to
      (lowered_few c.self.inside.few c.lower.new.self c.self.inside.many c.args.self.now c.in-Some.at c.args.t.now c.args.r.now c.args.to c.self.view_is c.self.invariant.0 c.in-Some.ensures
      c.lower.ensures.rows c.lower.ensures.lowered)
      c.requires.weaker (subst (λ (l : Held). Agree l) c.self.view_is c.self.invariant.1),
)

pub invariant_of-self-in-None : goal.invariant_of-self-in-None
invariant_of-self-in-None c = (
  apart_changed c.self.inside.few c.self.inside.many c.lower-in-None.new.self c.args.t.now c.args.r.now c.args.to c.in-None.ensures c.lower-in-None.ensures.lowered c.self.invariant.0,
  agree_lowered c.args.self.now (c.self.inside.few ++ c.lower-in-None.new.self) c.args.t.now c.args.r.now c.args.to
      (lowered_many c.self.inside.few c.self.inside.many c.lower-in-None.new.self c.args.self.now c.args.t.now c.args.r.now c.args.to c.self.view_is c.in-None.ensures c.lower-in-None.ensures.lowered)
      c.requires.weaker (subst (λ (l : Held). Agree l) c.self.view_is c.self.invariant.1),
)
