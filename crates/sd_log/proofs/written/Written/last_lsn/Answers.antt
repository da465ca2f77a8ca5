use Rattle.std.proofs.Common.{◌≡◌, ◌-◌, sym, ap, ◌∙◌, subst, arith}
use Rattle.std.specs.Prelude.{Some, slice_get}
use Rattle.sd_log.specs.Logs.{last_lsn}
use Rattle.sd_log.specs.WrittenStates.{WrittenState, all_in}
use Rattle.sd_log.proofs.WrittenItems.{last_is, none_last}
use Rattle.sd_log.proofs.written.Written.last_lsn.Goals as goal

pub returns-then-len-eq0 : goal.returns-then-len-eq0
returns-then-len-eq0 c =
    none_last c.self.inside c.self.invariant (sym c.len-len.ensures ∙ c.if-len-eq0.true) ∙ ap (λ (s : WrittenState). last_lsn (all_in s)) c.self.view_is

pub returns : goal.returns
returns c =
    let es = c.self.inside.records.entries in
    last_is c.self.inside c.self.invariant c.lsn.result (omega (arith, c.len-len.ensures, c.if-len-eq0.false))
    (λ e found. c.lsn.ensures e (subst (λ n. slice_get es (n - 1) ≡ Some e) (sym c.len-len.ensures) found))
    ∙ ap (λ (s : WrittenState). last_lsn (all_in s)) c.self.view_is
