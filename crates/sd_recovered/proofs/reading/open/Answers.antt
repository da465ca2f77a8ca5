use Rattle.std.proofs.Common.{map, Some, slice_get, ◌≡◌, inl, inr, ℕ, suc, ◌-◌, List, [], ◌∷◌, length, take, drop, get_or, refl, sym, ap, ◌∙◌, subst, arith}
use Rattle.std.proofs.lemmas.Result.{IfOk-weaker, err_from_is_err_and}
use Rattle.sd_base.proofs.Results.{on_ok}
use Rattle.sd_rig.specs.Devices.{device_len}
use Rattle.sd_chain.specs.Checks.{DevicesAreSound}
use Rattle.sd_chain.specs.Bytes.{disk_page}
use Rattle.sd_recovered.specs.Devices.{HasRecLsn, IsRecovered, devices_of, log_devices}
use Rattle.sd_recovered.specs.Reading.{AreRead, counting}
use Rattle.sd_chain.specs.Faults.{FailsFirstAt}
use Rattle.sd_recovered.proofs.LogFaults.{fails_in_log}
use Rattle.sd_recovered.proofs.Refusals.{came}
use Rattle.sd_recovered.proofs.Sums.{first_and_rest}
use Rattle.sd_recovered.proofs.Whole.{some_bad}
use Rattle.sd_recovered.proofs.reading.open.Goals as goal

-- the log devices
abbrev pub behind : List (List ℕ) → List (List ℕ)
behind images = take (length images - 1) (drop 1 images)

-- there are eight
eight : (images : List (List ℕ)) (x : List ℕ) → length images ≡ 9 → images ≡ x ∷ behind images → length (behind images) ≡ 8
eight images x nine is = let e = ap (λ (l : List (List ℕ)). length l) is in let n : length (x ∷ behind images) ≡ suc (length (behind images)) = refl in omega (arith, nine, e, n)

pub returns-in_err-read-clause-unsound : goal.returns-in_err-read-clause-unsound
returns-in_err-read-clause-unsound c = λ dev at is sound.
    let images : List (List ℕ) = c.args.images.now in
    let whole = first_and_rest images (get_or images 0 []) [] (let n = c.requires.devices.nine in omega (arith, n)) refl in
    let p = err_from_is_err_and c.from_residual.result c.from_residual.ensures.1 in
    elim c.in_err-read.ensures.unsound [
      | inl none ↦ absurd (cc)
      | inr d ↦
          some_bad (get_or images 0 []) (behind images) (eight images (get_or images 0 []) c.requires.devices.nine whole) d.3
          (subst (λ (l : List (List ℕ)). DevicesAreSound (devices_of l)) whole sound)
    ]

pub returns-in_err-read-clause-place : goal.returns-in_err-read-clause-place
returns-in_err-read-clause-place c = λ dev at is.
    let images : List (List ℕ) = c.args.images.now in
    let whole = first_and_rest images (get_or images 0 []) [] (let n = c.requires.devices.nine in omega (arith, n)) refl in
    let p = err_from_is_err_and c.from_residual.result c.from_residual.ensures.1 in
    subst (λ (l : List (List ℕ)). FailsFirstAt (devices_of l) dev at) (sym whole)
    (inl (fails_in_log (get_or images 0 []) (behind images) dev at (eight images (get_or images 0 []) c.requires.devices.nine whole)
    (c.in_err-read.ensures.place dev at (came c.from_residual.result p.0 c.in_err-read.field-0.0 dev at p.1 p.2 is))))

-- the log devices are those behind the first
log_devices-is : (images : List (List ℕ)) (x : List ℕ) → images ≡ x ∷ behind images → behind images ≡ log_devices images
log_devices-is images x is = sym (ap (drop 1) is)

pub finish-requires-clause-size : goal.finish-requires-clause-size
finish-requires-clause-size c =
    let images : List (List ℕ) = c.args.images.now in
    let whole = first_and_rest images c.items.result.now c.index-images-0.result (let n = c.requires.devices.nine in omega (arith, n)) (c.items.ensures ∙ c.index-images-0.is) in
    subst (λ (l : List (List ℕ)). length (devices_of l 0) ≡ device_len 0) whole (c.requires.devices.sizes 0 (omega arith))

pub returns-clause-sound : goal.returns-clause-sound
returns-clause-sound c =
    let images : List (List ℕ) = c.args.images.now in
    let whole = first_and_rest images c.items.result.now c.index-images-0.result (let n = c.requires.devices.nine in omega (arith, n)) (c.items.ensures ∙ c.index-images-0.is) in
    on_ok c.finish.result _ _
    (λ f. subst (λ (l : List (List ℕ)). DevicesAreSound (devices_of l)) (sym whole) (f (behind images) c.in_ok-read.ensures.read))
    c.finish.ensures.sound

pub returns-clause-read : goal.returns-clause-read
returns-clause-read c =
    let images : List (List ℕ) = c.args.images.now in
    let whole = first_and_rest images c.items.result.now c.index-images-0.result (let n = c.requires.devices.nine in omega (arith, n)) (c.items.ensures ∙ c.index-images-0.is) in
    IfOk-weaker c.finish.result _ _
    (λ o f. subst (λ (ds : List (List ℕ)). AreRead 1 ds o.logs.items o.losers.items) (log_devices-is images c.items.result.now whole)
    (f (behind images) c.in_ok-read.ensures.read))
    c.finish.ensures.read

pub returns-clause-masters : goal.returns-clause-masters
returns-clause-masters c =
    let images : List (List ℕ) = c.args.images.now in
    let whole = first_and_rest images c.items.result.now c.index-images-0.result (let n = c.requires.devices.nine in omega (arith, n)) (c.items.ensures ∙ c.index-images-0.is) in
    IfOk-weaker c.finish.result _ _
    (λ o f. f (behind images) c.in_ok-read.ensures.read ∙ ap (map counting) (log_devices-is images c.items.result.now whole))
    c.finish.ensures.masters

pub returns-clause-disk : goal.returns-clause-disk
returns-clause-disk c =
    let images : List (List ℕ) = c.args.images.now in
    let whole = first_and_rest images c.items.result.now c.index-images-0.result (let n = c.requires.devices.nine in omega (arith, n)) (c.items.ensures ∙ c.index-images-0.is) in
    IfOk-weaker c.finish.result _ _
    (λ o f p lt. subst (λ (l : List (List ℕ)). slice_get o.disk_lsns.items p ≡ Some (disk_page (devices_of l 0) p).lsn) (sym whole) (f p lt))
    c.finish.ensures.disk

pub returns-clause-first : goal.returns-clause-first
returns-clause-first c =
    let images : List (List ℕ) = c.args.images.now in
    let whole = first_and_rest images c.items.result.now c.index-images-0.result (let n = c.requires.devices.nine in omega (arith, n)) (c.items.ensures ∙ c.index-images-0.is) in
    IfOk-weaker c.finish.result _ _
    (λ o f p lt. subst (λ (l : List (List ℕ)). HasRecLsn (devices_of l) o.rec_lsns.items p) (sym whole)
    (f (behind images) c.in_ok-read.ensures.read p lt))
    c.finish.ensures.first

pub returns-clause-recovered : goal.returns-clause-recovered
returns-clause-recovered c =
    let images : List (List ℕ) = c.args.images.now in
    let whole = first_and_rest images c.items.result.now c.index-images-0.result (let n = c.requires.devices.nine in omega (arith, n)) (c.items.ensures ∙ c.index-images-0.is) in
    IfOk-weaker c.finish.result _ _
    (λ o f. subst (λ (l : List (List ℕ)). IsRecovered (devices_of l) o.table) (sym whole) (f (behind images) c.in_ok-read.ensures.read))
    c.finish.ensures.recovered

pub returns-clause-unsound : goal.returns-clause-unsound
returns-clause-unsound c = λ dev at is sound.
    let images : List (List ℕ) = c.args.images.now in
    let whole = first_and_rest images c.items.result.now c.index-images-0.result (let n = c.requires.devices.nine in omega (arith, n)) (c.items.ensures ∙ c.index-images-0.is) in
    c.finish.ensures.unsound dev at is (behind images) c.in_ok-read.ensures.read
    (subst (λ (l : List (List ℕ)). DevicesAreSound (devices_of l)) whole sound)

pub returns-clause-place : goal.returns-clause-place
returns-clause-place c = λ dev at is.
    let images : List (List ℕ) = c.args.images.now in
    let whole = first_and_rest images c.items.result.now c.index-images-0.result (let n = c.requires.devices.nine in omega (arith, n)) (c.items.ensures ∙ c.index-images-0.is) in
    subst (λ (l : List (List ℕ)). FailsFirstAt (devices_of l) dev at) (sym whole)
    (c.finish.ensures.place dev at is (behind images) c.in_ok-read.ensures.read)
