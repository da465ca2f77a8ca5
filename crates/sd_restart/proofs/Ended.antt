-- A reading of the nine devices that is ended, and one that is refused: for the goals of read_into.
use Rattle.std.proofs.Common.{◌≡◌, ℕ, ◌<◌, ◌≤◌, List, ◌∷◌, Some, length, map, slice_get, sym, ap, subst}
use Rattle.std.specs.Prelude.{Err, IfOk, Ok, OnOk, Result}
use Rattle.sd_base.specs.declared.refusal.Refusal.{Refusal}
use Rattle.sd_base.specs.declared.refusal.Refusal.TheVariants as R
use Rattle.sd_chain.specs.Bytes.{disk_page}
use Rattle.sd_chain.specs.Checks.{DevicesAreSound}
use Rattle.sd_recovered.specs.Devices.{HasRecLsn, devices_of, log_devices}
use Rattle.sd_recovered.specs.Reading.{AreRead, HasRead, counting}
use Rattle.sd_recovered.specs.declared.logs.ReadLogs.{ReadLogs}
use Rattle.sd_recovered.specs.declared.reading.ReadDevices.{ReadDevices}
use Rattle.sd_rig.specs.Devices.{DeviceImages, device_len}
use Rattle.sd_recovered.specs.Masters.{said}
use Rattle.sd_restart.specs.Devices.{images_of}
use Rattle.sd_restart.specs.Reading.{IsReading}
use Rattle.sd_restart.proofs.Nine.{are-nine}

-- a refusal that names a place is no other
pub none-failed : {T : Type 0} (e : Refusal) (dev at : ℕ) → e ≡ R.Failed → ◌≡◌ {A = Result T Refusal} (Err e) (Err (R.Damaged dev at)) → ⊥
none-failed e dev at failed is = cc

pub none-memory : {T : Type 0} (e : Refusal) (dev at : ℕ) → e ≡ R.Memory → ◌≡◌ {A = Result T Refusal} (Err e) (Err (R.Damaged dev at)) → ⊥
none-memory e dev at memory is = cc

module _ (seen : DeviceImages) (bytes : List ℕ) (logs : ReadLogs) (is : bytes ≡ seen 0) (has : HasRead (log_devices (images_of seen)) logs) where
  nine : bytes ∷ log_devices (images_of seen) ≡ images_of seen
  nine = ap (λ (b : List ℕ). b ∷ log_devices (images_of seen)) is

  -- what holds of these bytes and any devices of which that was read holds of the nine
  pub of-nine : (P : List (List ℕ) → Type 0) → ((devices : List (List ℕ)) → HasRead devices logs → P (bytes ∷ devices)) → P (images_of seen)
  of-nine P f = subst P nine (f (log_devices (images_of seen)) has)

  -- and the other way round
  pub on-nine : (P : List (List ℕ) → Type 0) → P (images_of seen) → P (bytes ∷ log_devices (images_of seen))
  on-nine P p = subst P (sym nine) p

  pub is-reading : (result : Result ReadDevices Refusal) → ((d : ℕ) → d ≤ 8 → length (seen d) ≡ device_len d)
      → OnOk result ((devices : List (List ℕ)) → HasRead devices logs → DevicesAreSound (devices_of (bytes ∷ devices)))
      → IfOk result (λ o. (devices : List (List ℕ)) → HasRead devices logs → AreRead 1 devices o.logs.items o.losers.items)
      → IfOk result (λ o. (devices : List (List ℕ)) → HasRead devices logs → map said o.masters.items ≡ map counting devices)
      → IfOk result (λ o. (length o.disk_lsns.items ≡ 1024) × (length o.rec_lsns.items ≡ 1024))
      → IfOk result (λ o. (p : ℕ) → p < 1024 → slice_get o.disk_lsns.items p ≡ Some (disk_page bytes p).lsn)
      → IfOk result (λ o. (devices : List (List ℕ)) → HasRead devices logs
      → (p : ℕ) → p < 1024 → HasRecLsn (devices_of (bytes ∷ devices)) o.rec_lsns.items p)
      → IfOk result (IsReading (images_of seen))
  is-reading (Err e) whole sound read masters counts disk first = tt
  is-reading (Ok o) whole sound read masters counts disk first = record {
    devices = are-nine seen whole;
    sound = of-nine (λ l. DevicesAreSound (devices_of l)) sound;
    read = read (log_devices (images_of seen)) has;
    masters = masters (log_devices (images_of seen)) has;
    disk_lsns = counts.0;
    rec_lsns = counts.1;
    disk = λ p lt. subst (λ (b : List ℕ). slice_get o.disk_lsns.items p ≡ Some (disk_page b p).lsn) is (disk p lt);
    first = λ p lt. of-nine (λ l. HasRecLsn (devices_of l) o.rec_lsns.items p) (λ devices h. first devices h p lt);
  }
