use Rattle.std.proofs.Common.{◌≡◌, ℕ, ◌+◌, inl, inr, ⊎_elim, List, [], ◌∷◌, ◌++◌, length, sym, ap, ◌∙◌, subst, arith}
use Rattle.std.specs.Prelude.{IfSome, Option, map}
use Rattle.std.proofs.lemmas.Result.{err_from_is_err_and}
use Rattle.sd_log.specs.Logs.{LogState}
use Rattle.sd_recovered.specs.declared.losers.Loser.{Loser}
use Rattle.sd_chain.specs.Faults.{LogFailsAt}
use Rattle.sd_recovered.specs.Masters.{said}
use Rattle.sd_recovered.specs.Reading.{AreRead, IsUnread, LogIsRead}
use Rattle.sd_recovered.proofs.Growing.{logs-more, masters-more}
use Rattle.sd_recovered.proofs.Refusals.{came, told_on}
use Rattle.sd_recovered.proofs.logs.ReadLogs.next.Goals as goal

pub returns-in_err-log-clause-unsound : goal.returns-in_err-log-clause-unsound
returns-in_err-log-clause-unsound c =
    let device : List ℕ = c.args.device.now in
    let read : ℕ = c.len.result in
    let number : c.unwrap-inst.result ≡ read + 1 = subst (λ (r : Option ℕ). IfSome r (λ x. x ≡ read + 1)) c.unwrap-inst.ensures c.new.ensures.value in
    let next : c.unwrap-inst.result ≡ 1 + length c.args.self.logs.items = (let l = c.len.ensures in omega (arith, number, l)) in
    let told = ⊎_elim (λ m. inl m) (λ d. inr (d.0, d.1, d.2, subst (λ (n : ℕ). IsUnread n device) next d.3)) c.in_err-log.ensures.unsound in
    let p = err_from_is_err_and c.from_residual.result c.from_residual.ensures.1 in
    told_on _ c.from_residual.result p.0 c.in_err-log.field-0.0 p.1 p.2 told

pub returns-in_err-log-clause-place : goal.returns-in_err-log-clause-place
returns-in_err-log-clause-place c = λ dev at is.
    let device : List ℕ = c.args.device.now in
    let read : ℕ = c.len.result in
    let number : c.unwrap-inst.result ≡ read + 1 = subst (λ (r : Option ℕ). IfSome r (λ x. x ≡ read + 1)) c.unwrap-inst.ensures c.new.ensures.value in
    let next : c.unwrap-inst.result ≡ 1 + length c.args.self.logs.items = (let l = c.len.ensures in omega (arith, number, l)) in
    let p = err_from_is_err_and c.from_residual.result c.from_residual.ensures.1 in
    let f = c.in_err-log.ensures.place dev at (came c.from_residual.result p.0 c.in_err-log.field-0.0 dev at p.1 p.2 is) in
    (f.0 ∙ next, subst (λ (n : ℕ). LogFailsAt n device at) (sym f.0) f.1)

pub returns-clause-read : goal.returns-clause-read
returns-clause-read c = λ devices has.
    let device : List ℕ = c.args.device.now in
    let log : LogState = c.in_ok-log.log in
    let found : List Loser = c.in_ok-log.found in
    let read : ℕ = c.len.result in
    let number : c.unwrap-inst.result ≡ read + 1 = subst (λ (r : Option ℕ). IfSome r (λ x. x ≡ read + 1)) c.unwrap-inst.ensures c.new.ensures.value in
    let next : c.unwrap-inst.result ≡ 1 + length c.args.self.logs.items = (let l = c.len.ensures in omega (arith, number, l)) in
    let more = logs-more devices c.args.self device log found has (subst (λ (n : ℕ). LogIsRead n device log found) next c.in_ok-log.ensures.read) in
    record {
      read = subst (λ (ls : List (List Loser)). AreRead 1 (devices ++ device ∷ []) c.push.new.self.items ls) (sym c.in_ok-push-2.ensures.items)
          (subst (λ (ls : List LogState). AreRead 1 (devices ++ device ∷ []) ls (c.args.self.losers.items ++ found ∷ [])) (sym c.in_ok-push.ensures.items) more);
      masters = ap (map said) c.in_ok-push-3.ensures.items
          ∙ masters-more c.args.self.masters.items c.in_ok-log.master devices device has.masters c.in_ok-log.ensures.counts;
    }
