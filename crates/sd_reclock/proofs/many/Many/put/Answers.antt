use Rattle.std.proofs.Common.{Some, refl, sym, subst, Result, Ok, Err}
use Rattle.std.specs.Result.{OnOk}
use Rattle.sd_base.specs.declared.ids.TxnId.{TxnId}
use Rattle.sd_reclock.specs.Waiting.{wait_of}
use Rattle.sd_reclock.specs.Locks.{Held, Agree, StandsIn, held_in, raised}
use Rattle.sd_reclock.specs.Indexing.{IsIndexed}
use Rattle.sd_reclock.specs.Marking.{AreMarked}
use Rattle.sd_reclock.proofs.Writes.{by_outcome}
use Rattle.sd_reclock.proofs.Agreeing.{agree_raised, indexed_after}
use Rattle.sd_reclock.proofs.Marking.{marked_more, marked_put}
use Rattle.sd_reclock.proofs.many.Many.put.Goals as goal

agrees : (c : goal.After-put) → Agree c.put.new.records.entries
agrees c =
    let old = c.self.inside.records.entries in
    let free : (u : TxnId) → StandsIn c.self.inside.records.entries c.args.t.now (wait_of c.args.wait.now) u → ⊥ =
    subst (λ (locks : Held). (u : TxnId) → StandsIn locks c.args.t.now (wait_of c.args.wait.now) u → ⊥) (sym c.self.view_is) c.requires.free in
    by_outcome c.put.result _ _ (Agree c.put.new.records.entries) c.put.ensures.put c.put.ensures.same
    (λ put. agree_raised old c.put.new.records.entries c.args.t.now (wait_of c.args.wait.now) c.self.invariant.1 free put)
    (λ same. subst (λ (locks : Held). Agree locks) (sym same) c.self.invariant.1)

both : {T E : Type 0} (r : Result T E) (P Q : Type 0) → OnOk r P → OnOk r Q → OnOk r (P × Q)
both (Ok x) P Q p q = (p, q)
both (Err e) P Q p q = tt

pub returns-clause-agree : goal.returns-clause-agree
returns-clause-agree c = agrees c

pub invariant_of-self : goal.invariant_of-self
invariant_of-self c =
    let old = c.self.inside.records.entries in (
      by_outcome c.put.result _ _ (IsIndexed c.put.new.records.entries c.put.new.index.entries) (both c.put.result _ _ c.put.ensures.put c.put.ensures.named) c.put.ensures.same
          (λ put. indexed_after old c.put.new.records.entries c.self.inside.index.entries c.put.new.index.entries c.args.t.now c.args.wait.now.rid
          (Some (raised (held_in old c.args.t.now c.args.wait.now.rid) c.args.wait.now.mode)) c.self.invariant.0 put.0 put.1)
          (λ same. subst (λ (locks : Held). IsIndexed locks c.put.new.index.entries) (sym same)
          (λ u q h. c.self.invariant.0 u q (c.put.ensures.more u q h))),
      agrees c,
      by_outcome c.put.result _ _ (AreMarked c.put.new.records.entries c.mark.new.pages) c.put.ensures.put c.put.ensures.same
          (marked_put c.self.inside.pages c.mark.new.pages c.args.wait.now.rid.page c.mark.ensures.marked c.mark.ensures.more old c.put.new.records.entries c.args.t.now c.args.wait.now.rid _ refl c.self.invariant.2)
          (λ same. subst (λ (locks : Held). AreMarked locks c.mark.new.pages) (sym same)
          (marked_more c.self.inside.pages c.mark.new.pages c.args.wait.now.rid.page c.mark.ensures.marked c.mark.ensures.more old c.self.invariant.2)),
    )
