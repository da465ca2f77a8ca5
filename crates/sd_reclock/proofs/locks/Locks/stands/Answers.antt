use Rattle.std.proofs.Common.{◌≡◌, Some, subst, sym, ◌∙◌}
use Rattle.std.proofs.lemmas.Bool.{true≢false}
use Rattle.sd_base.specs.Ids.{same_txn}
use Rattle.sd_base.specs.Waits.{Clash}
use Rattle.sd_base.proofs.SameIds.{eq-same}
use Rattle.sd_reclock.proofs.locks.Locks.stands.Goals as goal

pub returns-in-Some : goal.returns-in-Some
unfolding same_txn
returns-in-Some c = (
  λ clash. record {
    other = λ same. true≢false (sym (eq-same c.args.t.now c.args.u.now same) ∙ sym c.if-eq.ensures);
    mode = c.in-Some.mode;
    holds = sym c.in-Some.ensures;
    clashes = c.clashes.ensures.0 clash;
  },
  λ s.
      let both : Some s.mode ≡ Some c.in-Some.mode = sym s.holds ∙ sym c.in-Some.ensures in
      let same : s.mode ≡ c.in-Some.mode = cc in
      c.clashes.ensures.1 (subst (Clash c.args.wait.now.mode) same s.clashes),
)
