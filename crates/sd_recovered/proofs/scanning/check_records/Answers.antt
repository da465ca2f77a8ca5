use Rattle.std.proofs.Common.{◌≡◌, ◌∙◌, inl, inr, false, sym, ap, subst}
use Rattle.std.specs.Prelude.{map}
use Rattle.std.specs.List.{list_any}
use Rattle.std.proofs.lemmas.Bool.{both_ways}
use Rattle.sd_log.specs.Logs.{scanned}
use Rattle.sd_log.specs.Marks.{entry}
use Rattle.sd_chain.specs.Checks.{Follow, is_end_check, past_of}
use Rattle.sd_chain.specs.Faults.{StraysAt}
use Rattle.sd_recovered.specs.Following.{IsChecked, bare}
use Rattle.sd_recovered.specs.Masters.{kept_master}
use Rattle.sd_recovered.proofs.Scans.{any_bare}
use Rattle.sd_recovered.proofs.scanning.check_records.Goals as goal
use Rattle.sd_recovered.proofs.scanning.check_records.Goals.{else-chosen-via-then-chosen+else-not-has_end_check, else-chosen-via-else-chosen}

pub returns-then-not-has_end_check-clause-err : goal.returns-then-not-has_end_check-clause-err
returns-then-not-has_end_check-clause-err c =
    let none : list_any (is_end_check c.args.m.check) (bare (scanned c.args.log.now)) ≡ false =
    sym (any_bare (is_end_check c.args.m.check) (scanned c.args.log.now)) ∙ ap (list_any (λ p. is_end_check c.args.m.check p.rec)) (sym c.scan.ensures) ∙ sym c.has_end_check.ensures ∙ c.if-not-has_end_check.true in
    inl (λ ok. absurd (both_ways _ none (ok c.if-chosen.true)), c.damaged.ensures)

pub returns-in-Some-clause-err : goal.returns-in-Some-clause-err
returns-in-Some-clause-err c =
    let stray : StraysAt c.args.inst c.args.chosen (kept_master c.args.m) (past_of (kept_master c.args.m)) (map entry (scanned c.args.log.now)) c.in-Some.place =
    subst (λ ps. StraysAt c.args.inst c.args.chosen (kept_master c.args.m) (past_of (kept_master c.args.m)) (map entry ps) c.in-Some.place) c.scan-2.ensures c.in-Some.ensures in
    let ended : IsChecked c.args.chosen (kept_master c.args.m) (bare (scanned c.args.log.now)) = elim c.else-chosen.branch [
      | else-chosen-via-then-chosen+else-not-has_end_check w ↦ λ is.
          sym (any_bare (is_end_check c.args.m.check) (scanned c.args.log.now)) ∙ ap (list_any (λ p. is_end_check c.args.m.check p.rec)) (sym w.scan.ensures) ∙ sym w.has_end_check.ensures ∙ w.if-not-has_end_check.false
      | else-chosen-via-else-chosen w ↦ λ is. absurd (both_ways _ w.if-chosen.false is)
    ] in
    inr (ended, (c.in-Some.place, stray, c.damaged-in-Some.ensures))

pub returns-in-None-clause-sound : goal.returns-in-None-clause-sound
returns-in-None-clause-sound c =
    let follow : Follow c.args.inst c.args.chosen (kept_master c.args.m) (past_of (kept_master c.args.m)) (bare (scanned c.args.log.now)) =
    subst (λ ps. Follow c.args.inst c.args.chosen (kept_master c.args.m) (past_of (kept_master c.args.m)) (bare ps)) c.scan-2.ensures c.in-None.ensures in
    let ended : IsChecked c.args.chosen (kept_master c.args.m) (bare (scanned c.args.log.now)) = elim c.else-chosen.branch [
      | else-chosen-via-then-chosen+else-not-has_end_check w ↦ λ is.
          sym (any_bare (is_end_check c.args.m.check) (scanned c.args.log.now)) ∙ ap (list_any (λ p. is_end_check c.args.m.check p.rec)) (sym w.scan.ensures) ∙ sym w.has_end_check.ensures ∙ w.if-not-has_end_check.false
      | else-chosen-via-else-chosen w ↦ λ is. absurd (both_ways _ w.if-chosen.false is)
    ] in
    (ended, follow)
