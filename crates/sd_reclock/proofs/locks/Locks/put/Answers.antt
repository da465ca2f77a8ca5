use Rattle.std.proofs.Common.{◌≡◌, ◌++◌, ◌∷◌, [], ap, ◌∙◌}
use Rattle.sd_base.proofs.Results.{on_ok, on_err}
use Rattle.sd_reclock.specs.Waiting.{wait_of}
use Rattle.sd_reclock.specs.Locks.{Held}
use Rattle.sd_reclock.proofs.Joining.{Raises, raised_few, raised_many, added_few, apart_fewer, apart_after_add, apart_after_put, agree_after, stands_many}
use Rattle.sd_reclock.proofs.locks.Locks.put.Goals as goal

pub returns-in-Some-clause-put : goal.returns-in-Some-clause-put
returns-in-Some-clause-put c = on_ok c.raise.result _ (Raises c.args.self.now (c.raise.new.self ++ c.self.inside.many) c.args.t.now c.args.wait.now.rid c.args.wait.now.mode)
    (λ put. raised_few c.self.inside.few c.raise.new.self c.self.inside.many c.args.self.now c.in-Some.at c.args.t.now c.args.wait.now.rid c.args.wait.now.mode c.self.view_is c.self.invariant.0 c.in-Some.ensures c.raise.ensures.rows put) c.raise.ensures.raised

pub returns-in-Some-clause-agree : goal.returns-in-Some-clause-agree
returns-in-Some-clause-agree c = agree_after c.raise.result (c.self.inside.few ++ c.self.inside.many) c.args.self.now (c.raise.new.self ++ c.self.inside.many) c.args.t.now (wait_of c.args.wait.now) c.self.view_is c.self.invariant.1 c.requires.free
    (on_ok c.raise.result _ (Raises c.args.self.now (c.raise.new.self ++ c.self.inside.many) c.args.t.now c.args.wait.now.rid c.args.wait.now.mode)
    (λ put. raised_few c.self.inside.few c.raise.new.self c.self.inside.many c.args.self.now c.in-Some.at c.args.t.now c.args.wait.now.rid c.args.wait.now.mode c.self.view_is c.self.invariant.0 c.in-Some.ensures c.raise.ensures.rows put) c.raise.ensures.raised)
    (on_err c.raise.result _ (c.raise.new.self ++ c.self.inside.many ≡ c.args.self.now) (λ same. ap (λ (l : Held). l ++ c.self.inside.many) same ∙ c.self.view_is) c.raise.ensures.same)

pub invariant_of-self : goal.invariant_of-self
invariant_of-self c = (
  apart_fewer c.self.inside.few c.raise.new.self c.self.inside.many c.raise.ensures.rows c.self.invariant.0,
  agree_after c.raise.result (c.self.inside.few ++ c.self.inside.many) c.args.self.now (c.raise.new.self ++ c.self.inside.many) c.args.t.now (wait_of c.args.wait.now) c.self.view_is c.self.invariant.1 c.requires.free
      (on_ok c.raise.result _ (Raises c.args.self.now (c.raise.new.self ++ c.self.inside.many) c.args.t.now c.args.wait.now.rid c.args.wait.now.mode)
      (λ put. raised_few c.self.inside.few c.raise.new.self c.self.inside.many c.args.self.now c.in-Some.at c.args.t.now c.args.wait.now.rid c.args.wait.now.mode c.self.view_is c.self.invariant.0 c.in-Some.ensures c.raise.ensures.rows put) c.raise.ensures.raised)
      (on_err c.raise.result _ (c.raise.new.self ++ c.self.inside.many ≡ c.args.self.now) (λ same. ap (λ (l : Held). l ++ c.self.inside.many) same ∙ c.self.view_is) c.raise.ensures.same),
)

pub returns-then-has_place-clause-put : goal.returns-then-has_place-clause-put
returns-then-has_place-clause-put c = on_ok c.add.result _ (Raises c.args.self.now (c.add.new.self ++ c.self.inside.many) c.args.t.now c.args.wait.now.rid c.args.wait.now.mode)
    (λ is. added_few c.self.inside.few c.add.new.self c.self.inside.many c.args.self.now c.args.t.now c.args.wait.now.rid c.args.wait.now.mode c.self.view_is c.in_default.ensures (c.has_place.ensures c.if-has_place.true) is) c.add.ensures.added

pub returns-then-has_place-clause-agree : goal.returns-then-has_place-clause-agree
returns-then-has_place-clause-agree c = agree_after c.add.result (c.self.inside.few ++ c.self.inside.many) c.args.self.now (c.add.new.self ++ c.self.inside.many) c.args.t.now (wait_of c.args.wait.now) c.self.view_is c.self.invariant.1 c.requires.free
    (on_ok c.add.result _ (Raises c.args.self.now (c.add.new.self ++ c.self.inside.many) c.args.t.now c.args.wait.now.rid c.args.wait.now.mode)
    (λ is. added_few c.self.inside.few c.add.new.self c.self.inside.many c.args.self.now c.args.t.now c.args.wait.now.rid c.args.wait.now.mode c.self.view_is c.in_default.ensures (c.has_place.ensures c.if-has_place.true) is) c.add.ensures.added)
    (on_err c.add.result _ (c.add.new.self ++ c.self.inside.many ≡ c.args.self.now) (λ same. ap (λ (l : Held). l ++ c.self.inside.many) same ∙ c.self.view_is) c.add.ensures.same)

pub invariant_of-self-then-has_place : goal.invariant_of-self-then-has_place
invariant_of-self-then-has_place c = (
  apart_after_add c.add.result c.self.inside.few c.add.new.self c.self.inside.many c.args.wait.now.rid ((c.args.t.now, c.args.wait.now.mode) ∷ []) c.in_default.ensures (c.has_place.ensures c.if-has_place.true) c.self.invariant.0 c.add.ensures.added c.add.ensures.same,
  agree_after c.add.result (c.self.inside.few ++ c.self.inside.many) c.args.self.now (c.add.new.self ++ c.self.inside.many) c.args.t.now (wait_of c.args.wait.now) c.self.view_is c.self.invariant.1 c.requires.free
      (on_ok c.add.result _ (Raises c.args.self.now (c.add.new.self ++ c.self.inside.many) c.args.t.now c.args.wait.now.rid c.args.wait.now.mode)
      (λ is. added_few c.self.inside.few c.add.new.self c.self.inside.many c.args.self.now c.args.t.now c.args.wait.now.rid c.args.wait.now.mode c.self.view_is c.in_default.ensures (c.has_place.ensures c.if-has_place.true) is) c.add.ensures.added)
      (on_err c.add.result _ (c.add.new.self ++ c.self.inside.many ≡ c.args.self.now) (λ same. ap (λ (l : Held). l ++ c.self.inside.many) same ∙ c.self.view_is) c.add.ensures.same),
)

pub put-requires : goal.put-requires
put-requires c = record { free = λ u s. c.requires.free u (stands_many c.self.inside.few c.self.inside.many c.args.self.now c.args.t.now (wait_of c.args.wait.now) c.self.view_is c.in_default.ensures u s) }

pub returns-clause-put : goal.returns-clause-put
returns-clause-put c = on_ok c.put.result _ (Raises c.args.self.now (c.self.inside.few ++ c.put.new.self) c.args.t.now c.args.wait.now.rid c.args.wait.now.mode)
    (λ put. raised_many c.self.inside.few c.self.inside.many c.put.new.self c.args.self.now c.args.t.now c.args.wait.now.rid c.args.wait.now.mode c.self.view_is c.in_default.ensures put) c.put.ensures.put

pub returns-clause-agree : goal.returns-clause-agree
returns-clause-agree c = agree_after c.put.result (c.self.inside.few ++ c.self.inside.many) c.args.self.now (c.self.inside.few ++ c.put.new.self) c.args.t.now (wait_of c.args.wait.now) c.self.view_is c.self.invariant.1 c.requires.free
    (on_ok c.put.result _ (Raises c.args.self.now (c.self.inside.few ++ c.put.new.self) c.args.t.now c.args.wait.now.rid c.args.wait.now.mode)
    (λ put. raised_many c.self.inside.few c.self.inside.many c.put.new.self c.args.self.now c.args.t.now c.args.wait.now.rid c.args.wait.now.mode c.self.view_is c.in_default.ensures put) c.put.ensures.put)
    (on_err c.put.result _ (c.self.inside.few ++ c.put.new.self ≡ c.args.self.now) (λ same. ap (λ (l : Held). c.self.inside.few ++ l) same ∙ c.self.view_is) c.put.ensures.same)

pub invariant_of-self-2 : goal.invariant_of-self-2
invariant_of-self-2 c = (
  apart_after_put c.put.result c.self.inside.few c.self.inside.many c.put.new.self c.args.t.now c.args.wait.now.rid c.args.wait.now.mode c.in_default.ensures c.self.invariant.0 c.put.ensures.put c.put.ensures.same,
  agree_after c.put.result (c.self.inside.few ++ c.self.inside.many) c.args.self.now (c.self.inside.few ++ c.put.new.self) c.args.t.now (wait_of c.args.wait.now) c.self.view_is c.self.invariant.1 c.requires.free
      (on_ok c.put.result _ (Raises c.args.self.now (c.self.inside.few ++ c.put.new.self) c.args.t.now c.args.wait.now.rid c.args.wait.now.mode)
      (λ put. raised_many c.self.inside.few c.self.inside.many c.put.new.self c.args.self.now c.args.t.now c.args.wait.now.rid c.args.wait.now.mode c.self.view_is c.in_default.ensures put) c.put.ensures.put)
      (on_err c.put.result _ (c.self.inside.few ++ c.put.new.self ≡ c.args.self.now) (λ same. ap (λ (l : Held). c.self.inside.few ++ l) same ∙ c.self.view_is) c.put.ensures.same),
)
