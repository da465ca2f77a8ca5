use Rattle.std.proofs.Common.{◌≡◌, ℕ, ◌<◌, ◌∙◌, [], List, take, drop, refl, sym, ap, subst}
use Rattle.std.specs.Prelude.{is_some, map}
use Rattle.std.proofs.lemmas.Result.{err_from_is_err_and}
use Rattle.sd_base.specs.declared.refusal.Refusal.{Refusal}
use Rattle.sd_base.specs.declared.refusal.Refusal.TheVariants as R
use Rattle.sd_logrec.specs.Kept.{BadGroup, NoRecord, Whole, kept, reading}
use Rattle.sd_log.specs.declared.area.Area.{Area}
use Rattle.sd_log.specs.Areas.{IfBroken, IfWhole, IsAt, read_of}
use Rattle.sd_log.specs.Logs.{LogState, scanned}
use Rattle.sd_log.specs.Marks.{entry}
use Rattle.sd_chain.specs.Checks.{IsWhole}
use Rattle.sd_recovered.proofs.DeviceFaults.{Broke, broken_fails, err_same, fails_not, front_is, whole_fails}
use Rattle.sd_recovered.proofs.Scans.{all_records, groups_sound, kept_is, master_sound, says_of, start_within}
use Rattle.sd_recovered.proofs.scanning.scan.Goals as goal
use Rattle.sd_base.proofs.Results.{came}

pub of_area-requires-clause-start : goal.of_area-requires-clause-start
of_area-requires-clause-start c =
    let h = says_of c.args.device.now (is_some c.in-Ok.master) c.in-Ok.master c.unwrap_or-m.result _ refl refl c.unwrap_or-m.ensures c.in-Ok.ensures.read (c.in-Ok.ensures.sound.0 refl) in
    start_within c.args.device.now _ c.unwrap_or-m.result h

pub returns-in_ok-check_records-in-Whole-clause-master : goal.returns-in_ok-check_records-in-Whole-clause-master
returns-in_ok-check_records-in-Whole-clause-master c =
    let log = c.in-Whole.log in
    let h = says_of c.args.device.now c.is_some.result c.in-Ok.master c.unwrap_or-m.result _ c.is_some.ensures refl c.unwrap_or-m.ensures c.in-Ok.ensures.read (c.in-Ok.ensures.sound.0 refl) in
    let read = subst (λ (x : Area). IfWhole x (λ (l : LogState). reading c.unwrap_or-m.result.start (take 1048576 (drop 130 c.args.device.now)) ≡ Whole l.groups l.gate)) c.in-Whole.is c.in_ok-log.ensures.whole in
    let whole = kept_is c.args.device.now _ c.is_some.result c.unwrap_or-m.result (Whole log.groups log.gate) h refl read in
    let none = subst (λ (x : Area). IfWhole x (λ (l : LogState). l.tail ≡ [])) c.in-Whole.is c.in_ok-log.ensures.tail in
    master_sound c.args.inst c.args.device.now c.is_some.result c.unwrap_or-m.result log.groups log.gate log.tail h whole none c.in_ok-check_records-in-Whole.ensures.sound

pub returns-in_ok-check_records-in-Whole-clause-groups : goal.returns-in_ok-check_records-in-Whole-clause-groups
returns-in_ok-check_records-in-Whole-clause-groups c =
    let log = c.in-Whole.log in
    let h = says_of c.args.device.now c.is_some.result c.in-Ok.master c.unwrap_or-m.result _ c.is_some.ensures refl c.unwrap_or-m.ensures c.in-Ok.ensures.read (c.in-Ok.ensures.sound.0 refl) in
    let read = subst (λ (x : Area). IfWhole x (λ (l : LogState). reading c.unwrap_or-m.result.start (take 1048576 (drop 130 c.args.device.now)) ≡ Whole l.groups l.gate)) c.in-Whole.is c.in_ok-log.ensures.whole in
    let whole = kept_is c.args.device.now _ c.is_some.result c.unwrap_or-m.result (Whole log.groups log.gate) h refl read in
    let none = subst (λ (x : Area). IfWhole x (λ (l : LogState). l.tail ≡ [])) c.in-Whole.is c.in_ok-log.ensures.tail in
    groups_sound c.args.inst c.args.device.now c.is_some.result c.unwrap_or-m.result log.groups log.gate log.tail h whole none c.in_ok-check_records-in-Whole.ensures.sound

pub returns-in_ok-check_records-in-Whole-clause-kept : goal.returns-in_ok-check_records-in-Whole-clause-kept
returns-in_ok-check_records-in-Whole-clause-kept c =
    let log = c.in-Whole.log in
    let h = says_of c.args.device.now c.is_some.result c.in-Ok.master c.unwrap_or-m.result _ c.is_some.ensures refl c.unwrap_or-m.ensures c.in-Ok.ensures.read (c.in-Ok.ensures.sound.0 refl) in
    let read = subst (λ (x : Area). IfWhole x (λ (l : LogState). reading c.unwrap_or-m.result.start (take 1048576 (drop 130 c.args.device.now)) ≡ Whole l.groups l.gate)) c.in-Whole.is c.in_ok-log.ensures.whole in
    kept_is c.args.device.now _ c.is_some.result c.unwrap_or-m.result (Whole log.groups log.gate) h refl read

pub returns-in_err-check_records-in-Whole-clause-place : goal.returns-in_err-check_records-in-Whole-clause-place
returns-in_err-check_records-in-Whole-clause-place c dev at is =
    let log = c.in-Whole.log in
    let h = says_of c.args.device.now c.is_some.result c.in-Ok.master c.unwrap_or-m.result _ c.is_some.ensures refl c.unwrap_or-m.ensures c.in-Ok.ensures.read (c.in-Ok.ensures.sound.0 refl) in
    let read = subst (λ (x : Area). IfWhole x (λ (l : LogState). reading c.unwrap_or-m.result.start (take 1048576 (drop 130 c.args.device.now)) ≡ Whole l.groups l.gate)) c.in-Whole.is c.in_ok-log.ensures.whole in
    let whole = kept_is c.args.device.now _ c.is_some.result c.unwrap_or-m.result (Whole log.groups log.gate) h refl read in
    let none = subst (λ (x : Area). IfWhole x (λ (l : LogState). l.tail ≡ [])) c.in-Whole.is c.in_ok-log.ensures.tail in
    let first = front_is c.args.device.now _ c.is_some.result c.unwrap_or-m.result (scanned log) h refl (ap (λ (x : Area). map entry (read_of x)) (sym c.in-Whole.is) ∙ c.in_ok-log.ensures.front) in
    let e : Refusal = c.in_err-check_records-in-Whole.field-0.0 in
    let p = err_from_is_err_and c.from_residual-in_err-check_records-in-Whole.result c.from_residual-in_err-check_records-in-Whole.ensures.1 in
    whole_fails c.args.inst c.args.device.now c.is_some.result c.unwrap_or-m.result (scanned log) e dev at h (subst IsWhole (sym whole) tt) (all_records c.args.device.now log.groups log.gate log.tail whole none) first
    c.in_err-check_records-in-Whole.ensures.err (came c.from_residual-in_err-check_records-in-Whole.result p.0 e dev at p.1 p.2 is)

pub returns-in_err-check_records-in-Whole-clause-unsound : goal.returns-in_err-check_records-in-Whole-clause-unsound
returns-in_err-check_records-in-Whole-clause-unsound c dev at is one two = fails_not c.args.inst c.args.device.now at (returns-in_err-check_records-in-Whole-clause-place c dev at is) one two

pub returns-in-Broken-clause-place : goal.returns-in-Broken-clause-place
returns-in-Broken-clause-place c dev at is =
    let m = c.unwrap_or-m.result in
    let chosen = c.is_some-in-Broken.result in
    let part : List ℕ = take 1048576 (drop 130 c.args.device.now) in
    let h = says_of c.args.device.now chosen c.in-Ok.master m _ c.is_some-in-Broken.ensures refl c.unwrap_or-m.ensures c.in-Ok.ensures.read (c.in-Ok.ensures.sound.0 refl) in
    let first = front_is c.args.device.now _ chosen m c.deref.result.now h refl (ap (map entry) c.deref.ensures.value ∙ ap (λ (x : Area). map entry (read_of x)) (sym c.in-Broken.is) ∙ c.in_ok-log.ensures.front) in
    let group = subst (λ (x : Area). IfBroken x (λ (f : Refusal). (p : ℕ) → f ≡ R.BadLog p → reading m.start part ≡ BadGroup p)) c.in-Broken.is c.in_ok-log.ensures.bad_log in
    let rec = subst (λ (x : Area). IfBroken x (λ (f : Refusal). (p : ℕ) → f ≡ R.BadRecord p → reading m.start part ≡ NoRecord p)) c.in-Broken.is c.in_ok-log.ensures.bad_record in
    let there = subst (λ (x : Area). IfBroken x (λ (f : Refusal). (p : ℕ) × IsAt f p × (p < 1048576))) c.in-Broken.is c.in_ok-log.ensures.refusals in
    let broke : Broke c.args.device.now c.in-Broken.fault = (λ p e. kept_is c.args.device.now _ chosen m (BadGroup p) h refl (group p e), λ p e. kept_is c.args.device.now _ chosen m (NoRecord p) h refl (rec p e)) in
    broken_fails c.args.inst c.args.device.now chosen m c.deref.result.now c.in-Broken.fault c.broken.result dev at h first broke there c.broken.ensures (err_same c.broken.result (R.Damaged dev at) is)

pub returns-in-Broken-clause-unsound : goal.returns-in-Broken-clause-unsound
returns-in-Broken-clause-unsound c dev at is one two = fails_not c.args.inst c.args.device.now at (returns-in-Broken-clause-place c dev at is) one two
