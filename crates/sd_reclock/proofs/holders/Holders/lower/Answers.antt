use Rattle.std.proofs.Common.{Option, sym, subst, ap, ◌∙◌}
use Rattle.sd_base.specs.declared.place.Mode.{Mode}
use Rattle.sd_base.specs.Ids.{same_txn}
use Rattle.sd_base.proofs.Orders.{same-txn-is}
use Rattle.sd_reclock.specs.Locks.{Modes, mode_of, IsNoStronger}
use Rattle.sd_reclock.specs.Holding.{with_first}
use Rattle.sd_reclock.proofs.Firsts.{Puts, IsOther, other_none, other_row, past, behind, apart_behind, lower_in_place}
use Rattle.sd_reclock.proofs.holders.Holders.lower.Goals as goal
use Rattle.sd_reclock.proofs.holders.Holders.lower.Goals.{in-Some+else-eq, in_default}

pub returns-then-eq : goal.returns-then-eq
unfolding same_txn
returns-then-eq c = lower_in_place c.self.inside.first c.row_of-self-inside.result c.self.inside.others c.args.self.now c.in-Some.u c.args.t.now c.in-Some._had c.args.to c.self.view_is c.in-Some.is
    (same-txn-is c.in-Some.u c.args.t.now (sym c.if-eq.ensures)) c.row_of-self-inside.ensures c.self.invariant

pub lower-requires : goal.lower-requires
unfolding same_txn
lower-requires c = record {
  weaker =
      let other : IsOther c.self.inside.first c.args.t.now = elim c.match-self.branch [
        | in-Some+else-eq w ↦ other_row c.self.inside.first w.in-Some.u c.args.t.now w.in-Some._had w.in-Some.is (sym w.if-eq.ensures)
        | in_default w ↦ other_none c.self.inside.first c.args.t.now w.in_default.is
      ] in
      subst (λ (had : Option Mode). IsNoStronger c.args.to had)
      (sym (ap (λ (holders : Modes). mode_of holders c.args.t.now) c.self.view_is) ∙ past c.self.inside.first c.self.inside.others c.args.t.now other) c.requires.weaker;
}

other : (c : goal.After-lower) → IsOther c.self.inside.first c.args.t.now
unfolding same_txn
other c = elim c.match-self.branch [
  | in-Some+else-eq w ↦ other_row c.self.inside.first w.in-Some.u c.args.t.now w.in-Some._had w.in-Some.is (sym w.if-eq.ensures)
  | in_default w ↦ other_none c.self.inside.first c.args.t.now w.in_default.is
]

pub invariant_of-self-2 : goal.invariant_of-self-2
invariant_of-self-2 c = apart_behind c.self.inside.first c.self.inside.others c.lower.new.self c.args.t.now c.args.to (other c) c.self.invariant c.lower.ensures

pub returns : goal.returns
returns c = subst (λ (old : Modes). Puts old (with_first c.self.inside.first c.lower.new.self) c.args.t.now c.args.to) c.self.view_is
    (behind c.self.inside.first c.self.inside.others c.lower.new.self c.args.t.now c.args.to (other c) c.lower.ensures)
