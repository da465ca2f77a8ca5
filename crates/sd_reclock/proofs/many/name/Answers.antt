use Rattle.std.proofs.Common.{◌≡◌, Option, Some, ap, subst, ◌∙◌, refl, ◌++◌, ◌∷◌, [], List}
use Rattle.std.specs.Global.{Vec}
use Rattle.std.specs.Option.{IsSome}
use Rattle.sd_base.specs.declared.ids.TxnId.{TxnId}
use Rattle.sd_base.specs.declared.ids.Rid.{Rid}
use Rattle.sd_reclock.specs.Indexing.{names, rids_of}
use Rattle.sd_reclock.proofs.Writes.{gains, stay, on_err, named_already}
use Rattle.sd_reclock.proofs.many.name.Goals as goal
use Rattle.sd_base.proofs.Orders.{put-txn, look-txn}

pub returns-in_err-push-clause-same : goal.returns-in_err-push-clause-same
returns-in_err-push-clause-same c =
    let w = c.push.new.self in
    let P : Option (Vec Rid) → Type 0 = λ o. IsSome o in
    on_err _ _ (stay c.args.index.now.entries (c.get_mut.follows.lender w).entries c.args.t.now w
    (λ u. put-txn c.args.t.now u (Some w) c.args.index.now.entries (c.get_mut.follows.lender w).entries (((c.get_mut.follows.holds w).3 (subst P c.in-Some.ensures.value refl)).0 u))
    (c.in_err-push.ensures.items ∙ ap rids_of (c.in-Some.ensures.value ∙ look-txn c.args.t.now c.args.index.now.entries)))

pub returns-in-Some-clause-named : goal.returns-in-Some-clause-named
returns-in-Some-clause-named c =
    let w = c.push.new.self in
    let P : Option (Vec Rid) → Type 0 = λ o. IsSome o in
    gains c.args.index.now.entries (c.get_mut.follows.lender w).entries c.args.t.now c.args.r.now w
    (λ u. put-txn c.args.t.now u (Some w) c.args.index.now.entries (c.get_mut.follows.lender w).entries (((c.get_mut.follows.holds w).3 (subst P c.in-Some.ensures.value refl)).0 u))
    (c.in_ok-push.ensures.items ∙ ap (λ (rids : List Rid). rids ++ c.args.r.now ∷ []) (ap rids_of (c.in-Some.ensures.value ∙ look-txn c.args.t.now c.args.index.now.entries)))

pub returns-clause-named : goal.returns-clause-named
returns-clause-named c =
    gains c.args.index.now.entries c.insert.new.self.entries c.args.t.now c.args.r.now c.push-2.new.self
    (λ u. put-txn c.args.t.now u (Some c.push-2.new.self) c.args.index.now.entries c.insert.new.self.entries (rw c.get_mut.follows.holds-at-none at (c.in_ok-insert.ensures.updates.0 u)))
    (c.in_ok-push-2.ensures.items ∙ ap (λ (rids : List Rid). rids ++ c.args.r.now ∷ []) (c.in_ok-rids.ensures ∙ ap rids_of (c.in_default.ensures.value ∙ look-txn c.args.t.now c.args.index.now.entries)))

pub returns-then-had-clause-named : goal.returns-then-had-clause-named
returns-then-had-clause-named c = named_already c.args.index.now.entries c.args.t.now c.args.r.now (c.requires.had c.if-had.true)

pub returns-in_err-rids-clause-same : goal.returns-in_err-rids-clause-same
returns-in_err-rids-clause-same c =
    let same : (u : TxnId) (q : Rid) → names c.args.index.now.entries u q ≡ names c.args.index.now.entries u q = λ u q. refl in
    rw c.get_mut.follows.holds-at-none (on_err _ _ same)

pub returns-in_err-push-2-clause-same : goal.returns-in_err-push-2-clause-same
returns-in_err-push-2-clause-same c =
    let same : (u : TxnId) (q : Rid) → names c.args.index.now.entries u q ≡ names c.args.index.now.entries u q = λ u q. refl in
    rw c.get_mut.follows.holds-at-none (on_err _ _ same)

pub returns-in-Some-clause-same : goal.returns-in-Some-clause-same
returns-in-Some-clause-same c = tt

pub returns-clause-same : goal.returns-clause-same
returns-clause-same c = tt
