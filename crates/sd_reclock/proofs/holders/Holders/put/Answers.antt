use Rattle.std.proofs.Common.{◌≡◌, Option, Some, sym, subst, ap, ◌∙◌}
use Rattle.sd_base.specs.declared.place.Mode.{Mode}
use Rattle.sd_base.specs.Ids.{same_txn}
use Rattle.sd_base.proofs.Orders.{same-txn-is}
use Rattle.sd_base.proofs.Results.{on_ok}
use Rattle.sd_reclock.specs.Locks.{Modes, mode_of, raised}
use Rattle.sd_reclock.specs.Holding.{IsApart, with_first}
use Rattle.sd_reclock.proofs.Firsts.{Puts, IsOther, other_none, other_row, past, behind, apart_behind, put_in_place, put_alone}
use Rattle.sd_reclock.proofs.Writes.{by_outcome}
use Rattle.sd_reclock.proofs.holders.Holders.put.Goals as goal
use Rattle.sd_reclock.proofs.holders.Holders.put.Goals.{in-Some+else-eq, in_default+else-is_empty}

pub returns-then-eq-clause-put : goal.returns-then-eq-clause-put
unfolding same_txn
returns-then-eq-clause-put c = put_in_place c.self.inside.first c.self.inside.others c.args.self.now c.in-Some.u c.args.t.now c.in-Some.had c.args.mode c.raise.result c.self.view_is c.in-Some.is
    (same-txn-is c.in-Some.u c.args.t.now (sym c.if-eq.ensures)) c.raise.ensures

pub returns-then-is_empty-clause-put : goal.returns-then-is_empty-clause-put
returns-then-is_empty-clause-put c = put_alone c.self.inside.first c.self.inside.others c.args.self.now c.args.t.now c.args.mode c.self.view_is c.in_default.is (c.is_empty.ensures.0 c.if-is_empty.true)

other : (c : goal.After-put) → IsOther c.self.inside.first c.args.t.now
unfolding same_txn
other c = elim c.match-self.branch [
  | in-Some+else-eq w ↦ other_row c.self.inside.first w.in-Some.u c.args.t.now w.in-Some.had w.in-Some.is (sym w.if-eq.ensures)
  | in_default+else-is_empty w ↦ other_none c.self.inside.first c.args.t.now w.in_default.is
]

pub invariant_of-self-2 : goal.invariant_of-self-2
invariant_of-self-2 c = by_outcome c.put.result _ _ (IsApart c.self.inside.first c.put.new.self) c.put.ensures.put c.put.ensures.same
    (λ put. apart_behind c.self.inside.first c.self.inside.others c.put.new.self c.args.t.now (Some (raised (mode_of c.self.inside.others c.args.t.now) c.args.mode)) (other c) c.self.invariant put)
    (λ same. subst (λ (others : Modes). IsApart c.self.inside.first others) (sym same) c.self.invariant)

pub returns-clause-put : goal.returns-clause-put
returns-clause-put c =
    let at : mode_of c.self.inside.others c.args.t.now ≡ mode_of c.args.self.now c.args.t.now =
    sym (past c.self.inside.first c.self.inside.others c.args.t.now (other c)) ∙ ap (λ (holders : Modes). mode_of holders c.args.t.now) c.self.view_is in
    on_ok c.put.result _ _ (λ put. subst (λ (old : Modes). Puts old (with_first c.self.inside.first c.put.new.self) c.args.t.now (Some (raised (mode_of c.args.self.now c.args.t.now) c.args.mode))) c.self.view_is
    (behind c.self.inside.first c.self.inside.others c.put.new.self c.args.t.now (Some (raised (mode_of c.args.self.now c.args.t.now) c.args.mode)) (other c)
    (subst (λ (had : Option Mode). Puts c.self.inside.others c.put.new.self c.args.t.now (Some (raised had c.args.mode))) at put)))
    c.put.ensures.put
