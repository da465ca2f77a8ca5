use Rattle.std.proofs.Common.{◌≡◌, sym, subst, ap, ◌∙◌, refl, List, ◌++◌, ◌∷◌, []}
use Rattle.std.proofs.lemmas.Bool.{true≢false}
use Rattle.std.specs.Global.{Vec}
use Rattle.sd_base.specs.declared.ids.TxnId.{TxnId}
use Rattle.sd_base.specs.Ids.{same_txn}
use Rattle.sd_reclock.specs.Locks.{Modes, ClashesIn}
use Rattle.sd_reclock.specs.Holding.{with_first}
use Rattle.sd_reclock.specs.Reaching.{AreThose}
use Rattle.sd_reclock.proofs.Clashing.{apart_by, same_by}
use Rattle.sd_reclock.proofs.Firsts.{First, was_row, clash_past, clash_more}
use Rattle.sd_reclock.proofs.holders.Holders.clashing.Goals as goal
use Rattle.sd_reclock.proofs.holders.Holders.clashing.Goals.{in-Some+then-ne+then-clashes+in_ok-push, in-Some+else-ne, else-ne-via-then-ne+else-clashes, else-ne-via-else-ne, in_default}

those : (c : goal.Joined-self) (holders : Modes) (all : List TxnId) → holders ≡ c.args.self.now → all ≡ c.match-self.all.items → AreThose (ClashesIn holders c.args.not.now c.args.mode) all
    → AreThose (ClashesIn c.args.self.now c.args.not.now c.args.mode) c.match-self.all.items
those c holders all is same h = subst (λ (h : Modes). AreThose (ClashesIn h c.args.not.now c.args.mode) c.match-self.all.items) is
    (subst (λ (xs : List TxnId). AreThose (ClashesIn holders c.args.not.now c.args.mode) xs) same h)

pub returns : goal.returns
unfolding same_txn
returns c = elim c.match-self.branch [
  | in-Some+then-ne+then-clashes+in_ok-push w ↦ those c ((w.in-Some.t, w.in-Some.held) ∷ c.self.inside.others) (c.in_ok-all.all.items ++ w.in-Some.t ∷ [])
      (sym (was_row c.self.inside.first c.self.inside.others c.args.self.now w.in-Some.t w.in-Some.held c.self.view_is w.in-Some.is))
      (sym w.in_ok-push.ensures.items ∙ ap (λ (v : Vec TxnId). v.items) (sym w.all-is))
      (clash_more c.self.inside.others w.in-Some.t c.args.not.now w.in-Some.held c.args.mode c.in_ok-all.all.items (c.self.invariant w.in-Some.t w.in-Some.held w.in-Some.is)
      (apart_by c.args.not.now w.in-Some.t (sym w.if-ne.ensures)) (w.if-clashes.ensures.0 refl) c.in_ok-all.ensures)
  | in-Some+else-ne w ↦ those c ((w.in-Some.t, w.in-Some.held) ∷ c.self.inside.others) c.in_ok-all.all.items
      (sym (was_row c.self.inside.first c.self.inside.others c.args.self.now w.in-Some.t w.in-Some.held c.self.view_is w.in-Some.is))
      (ap (λ (v : Vec TxnId). v.items) (sym w.all-is))
      (clash_past c.self.inside.others w.in-Some.t c.args.not.now w.in-Some.held c.args.mode c.in_ok-all.all.items (c.self.invariant w.in-Some.t w.in-Some.held w.in-Some.is)
      (elim w.else-ne.branch [
        | else-ne-via-then-ne+else-clashes v ↦ λ ne clash. true≢false (sym (v.if-clashes.ensures.1 clash))
        | else-ne-via-else-ne v ↦ λ ne clash. ne (same_by c.args.not.now w.in-Some.t (sym v.if-ne.ensures))
      ]) c.in_ok-all.ensures)
  | in_default w ↦ those c c.self.inside.others c.in_ok-all.all.items
      (ap (λ (f : First). with_first f c.self.inside.others) (sym w.in_default.is) ∙ c.self.view_is) (ap (λ (v : Vec TxnId). v.items) (sym w.all-is)) c.in_ok-all.ensures
]
