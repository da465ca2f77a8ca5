use Rattle.std.proofs.Common.{◌≡◌, ℕ, ◌+◌, ◌-◌, ◌^◌, ◌<◌, inl, ap, ◌∙◌, refl, arith}
use Rattle.std.specs.Prelude.{max, min}
use Rattle.sd_log.specs.Logs.{LogState, last_lsn, scanned}
use Rattle.sd_state.specs.Complexes.{parts}
use Rattle.sd_state.specs.Parts.{Parts, log_at, status_at}
use Rattle.sd_state.specs.Values.{Pending}
use Rattle.sd_one.proofs.Ready.{ready}
use Rattle.sd_tests_complex.proofs.checks.check.Goals as goal

pub seal_check-requires-clause-may : goal.seal_check-requires-clause-may
seal_check-requires-clause-may g c =
    let last : ℕ = last_lsn (scanned (log_at (parts c.args.c.now) c.first-i.result)) in
    let small : last < 2 ^ 62 - 1 = c.if-not-has_lsn.ensures refl in
    let same : last_lsn (scanned c.log.result.now) ≡ last = ap (λ (l : LogState). last_lsn (scanned l)) c.log.ensures in
    let next : c.next_lsn-lsn.result ≡ min (max (last_lsn (scanned c.log.result.now)) 0 + 1) (2 ^ 62 - 1) =
    c.next_lsn-lsn.ensures in
    let is : c.next_lsn-lsn.result ≡ max last 0 + 1 = omega (arith, next, small, same) in
    record {
      stands = inl (ap (λ (n : ℕ). status_at (parts c.args.c.now) n) c.first-i.ensures ∙ c.if-not-is_up.ensures refl);
      kind = refl;
      no_start = refl;
      lsn = is;
    }

pub returns : goal.returns
returns g c = ready (ap (λ (p : Parts). p.due) c.in_ok-seal_check.ensures.parts ∙ c.requires.idle)
    (c.seal_check.ensures.good Pending.Idle c.requires.m c.requires.good)
