use Rattle.std.proofs.Common.{◌≡◌, Some, sym, ap, ◌∙◌}
use Rattle.sd_base.specs.declared.ids.TxnId.{TxnId}
use Rattle.sd_base.specs.declared.place.Mode.{Mode}
use Rattle.sd_base.specs.Ids.{same_txn}
use Rattle.sd_reclock.proofs.Clashing.{apart_by, same_by}
use Rattle.sd_reclock.proofs.Owners.{Row}
use Rattle.sd_reclock.proofs.Firsts.{First, one_row, other_none, first_low, first_none}
use Rattle.sd_reclock.proofs.holders.first_but.Goals as goal
use Rattle.sd_reclock.proofs.holders.first_but.Goals.{in_default-via-in-Some+else-ne, in_default-via-in_default}

pub returns-in-Some : goal.returns-in-Some
unfolding same_txn
returns-in-Some c = first_low c.args.first.now c.args.not.now c.in-Some.t c.in-Some._mode c.in-Some.is (apart_by c.args.not.now c.in-Some.t (sym c.if-ne.ensures))

same : (first : First) (not u t : TxnId) (m n : Mode) → first ≡ Some (u, m) → not ≡ u → first ≡ Some (t, n) → not ≡ t
same first not u t m n is e also = e ∙ ap (λ (r : Row). r.0) (one_row first (u, m) (t, n) is also)

pub returns-in_default : goal.returns-in_default
unfolding same_txn
returns-in_default c = elim c.in_default.branch [
  | in_default-via-in-Some+else-ne w ↦ first_none c.args.first.now c.args.not.now
      (λ t m. same c.args.first.now c.args.not.now w.in-Some.t t w.in-Some._mode m w.in-Some.is (same_by c.args.not.now w.in-Some.t (sym w.if-ne.ensures)))
  | in_default-via-in_default w ↦ first_none c.args.first.now c.args.not.now
      (λ t m e. absurd (other_none c.args.first.now t w.in_default.is m e))
]
