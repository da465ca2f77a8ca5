use Rattle.std.proofs.Common.{◌≡◌, Option, Some, ap, sym, subst, ◌∙◌, refl, cond}
use Rattle.std.specs.Option.{IsSome}
use Rattle.std.specs.Ordering.{is_eq}
use Rattle.std.specs.Map.{set_value}
use Rattle.std.proofs.lemmas.Bool.{or_parts}
use Rattle.std.proofs.lemmas.Map.Steps.{set_value_same}
use Rattle.sd_base.specs.declared.ids.TxnId.{TxnId}
use Rattle.sd_base.specs.declared.ids.Rid.{Rid}
use Rattle.sd_base.specs.declared.place.Mode.{Mode}
use Rattle.sd_base.specs.Ids.{same_txn}
use Rattle.sd_reclock.specs.Locks.{Modes, held_in, mode_of, mode_among, raised}
use Rattle.sd_reclock.proofs.Writes.{no_mode, changes, on_err as err_by, ok_by, named_held}
use Rattle.sd_reclock.proofs.Firsts.{alone}
use Rattle.sd_reclock.proofs.many.put.Goals as goal
use Rattle.sd_base.proofs.Orders.{rid_cmp, put-rid, look-rid}
use Rattle.sd_base.proofs.Results.{on_ok, on_err}

pub returns-in-Some-clause-put : goal.returns-in-Some-clause-put
returns-in-Some-clause-put c =
    let w = c.put.new.self in
    let old = c.args.records.now.entries in
    let P : Option Modes → Type 0 = λ o. IsSome o in
    let had : (u : TxnId) → mode_of c.in-Some.holders.now u ≡ held_in old u c.args.wait.now.rid = λ u. ap (λ (o : Option Modes). mode_among o u) (c.in-Some.ensures.value ∙ look-rid c.args.wait.now.rid old) in
    on_ok c.put.result _ _ (λ put. changes old (c.get_mut.follows.lender w).entries c.args.t.now c.args.wait.now.rid (Some w) (Some (raised (held_in old c.args.t.now c.args.wait.now.rid) c.args.wait.now.mode))
    (λ q. put-rid c.args.wait.now.rid q (Some w) old (c.get_mut.follows.lender w).entries (((c.get_mut.follows.holds w).3 (subst P c.in-Some.ensures.value refl)).0 q))
    (λ u. put u ∙ ap (λ (m : Option Mode). cond {A = Option Mode} (same_txn c.args.t.now u) (Some (raised m c.args.wait.now.mode)) (mode_of c.in-Some.holders.now u)) (had c.args.t.now)
    ∙ ap (λ (m : Option Mode). cond {A = Option Mode} (same_txn c.args.t.now u) (Some (raised (held_in old c.args.t.now c.args.wait.now.rid) c.args.wait.now.mode)) m) (had u)))
    c.put.ensures.put

pub returns-in-Some-clause-same : goal.returns-in-Some-clause-same
returns-in-Some-clause-same c =
    let old = c.args.records.now.entries in
    on_err c.put.result _ _ (λ same. (c.get_mut.follows.holds c.put.new.self).0
    ∙ ap (λ (h : Modes). set_value (λ (k : Rid). is_eq (rid_cmp c.args.wait.now.rid k)) old h) same
    ∙ set_value_same (λ (k : Rid). is_eq (rid_cmp c.args.wait.now.rid k)) old c.in-Some.holders.now (sym c.in-Some.ensures.value))
    c.put.ensures.same

pub returns-clause-put : goal.returns-clause-put
returns-clause-put c =
    let w = c.of.result in
    let old = c.args.records.now.entries in
    let none : (u : TxnId) → no_mode ≡ held_in old u c.args.wait.now.rid = λ u. ap (λ (o : Option Modes). mode_among o u) (c.in_default.ensures.value ∙ look-rid c.args.wait.now.rid old) in
    changes old c.insert.new.self.entries c.args.t.now c.args.wait.now.rid (Some w) (Some (raised (held_in old c.args.t.now c.args.wait.now.rid) c.args.wait.now.mode))
    (λ q. put-rid c.args.wait.now.rid q (Some w) old c.insert.new.self.entries (rw c.get_mut.follows.holds-at-none at (c.in_ok-insert.ensures.updates.0 q)))
    (λ u. ap (λ (h : Modes). mode_of h u) c.of.ensures ∙ alone c.args.t.now c.args.wait.now.mode u
    ∙ ap (λ (m : Option Mode). cond {A = Option Mode} (same_txn c.args.t.now u) (Some (raised m c.args.wait.now.mode)) no_mode) (none c.args.t.now)
    ∙ ap (λ (m : Option Mode). cond {A = Option Mode} (same_txn c.args.t.now u) (Some (raised (held_in old c.args.t.now c.args.wait.now.rid) c.args.wait.now.mode)) m) (none u))

pub name-requires : goal.name-requires
name-requires c = record {
  had = λ h. named_held c.args.records.now.entries c.args.index.now.entries c.args.t.now c.args.wait.now.rid c.mode_of.result c.requires
      (c.mode_of.ensures ∙ ap (λ (o : Option Modes). mode_among o c.args.t.now) (c.in-Some.ensures.value ∙ look-rid c.args.wait.now.rid c.args.records.now.entries)) (sym c.is_some-had.ensures ∙ h);
}

pub returns-in_err-name-clause-same : goal.returns-in_err-name-clause-same
returns-in_err-name-clause-same c =
    let old = c.args.records.now.entries in
    err_by _ _ ((c.get_mut.follows.holds c.in-Some.holders.now).0 ∙ set_value_same (λ (k : Rid). is_eq (rid_cmp c.args.wait.now.rid k)) old c.in-Some.holders.now (sym c.in-Some.ensures.value))

pub returns-in-Some-clause-named : goal.returns-in-Some-clause-named
returns-in-Some-clause-named c = ok_by _ _ c.in_ok-name.ensures.named

pub returns-clause-named : goal.returns-clause-named
returns-clause-named c = c.in_ok-name-2.ensures.named

pub returns-in_err-name-clause-more : goal.returns-in_err-name-clause-more
returns-in_err-name-clause-more c = λ u q none. sym (c.in_err-name.ensures.same u q) ∙ none

pub returns-in-Some-clause-more : goal.returns-in-Some-clause-more
returns-in-Some-clause-more c = λ u q none. (or_parts _ _ (sym (c.in_ok-name.ensures.named u q) ∙ none)).0

pub returns-in_err-name-2-clause-more : goal.returns-in_err-name-2-clause-more
returns-in_err-name-2-clause-more c = λ u q none. sym (c.in_err-name-2.ensures.same u q) ∙ none

pub returns-in_err-insert-clause-more : goal.returns-in_err-insert-clause-more
returns-in_err-insert-clause-more c = λ u q none. (or_parts _ _ (sym (c.in_ok-name-2.ensures.named u q) ∙ none)).0

pub returns-clause-more : goal.returns-clause-more
returns-clause-more c = λ u q none. (or_parts _ _ (sym (c.in_ok-name-2.ensures.named u q) ∙ none)).0
