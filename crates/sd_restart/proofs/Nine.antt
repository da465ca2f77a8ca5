-- What the nine devices read, as a list: for the goals of devices.rt and restarting.rt.
use Rattle.std.proofs.Common.{◌≡◌, ℕ, zero, suc, ◌+◌, ◌<◌, ◌≤◌, List, length, get_or, refl, ap, ◌∙◌, arith}
use Rattle.sd_rig.specs.Devices.{DeviceImages, device_len}
use Rattle.sd_recovered.specs.Devices.{AreDevices, devices_of, log_devices}
use Rattle.sd_restart.specs.Devices.{AgreeOnNine, images_of}

-- a log device has its length
pub log-len : (k : ℕ) → k < 8 → device_len (suc k) ≡ 2097282
log-len zero lt = refl
log-len (suc zero) lt = refl
log-len (suc (suc zero)) lt = refl
log-len (suc (suc (suc zero))) lt = refl
log-len (suc (suc (suc (suc zero)))) lt = refl
log-len (suc (suc (suc (suc (suc zero))))) lt = refl
log-len (suc (suc (suc (suc (suc (suc zero)))))) lt = refl
log-len (suc (suc (suc (suc (suc (suc (suc zero))))))) lt = refl
log-len (suc (suc (suc (suc (suc (suc (suc (suc k)))))))) lt = absurd (omega (arith, lt))

module _ (seen : DeviceImages) where
  pub each : AgreeOnNine (devices_of (images_of seen)) seen
  each zero le = refl
  each (suc zero) le = refl
  each (suc (suc zero)) le = refl
  each (suc (suc (suc zero))) le = refl
  each (suc (suc (suc (suc zero)))) le = refl
  each (suc (suc (suc (suc (suc zero))))) le = refl
  each (suc (suc (suc (suc (suc (suc zero)))))) le = refl
  each (suc (suc (suc (suc (suc (suc (suc zero))))))) le = refl
  each (suc (suc (suc (suc (suc (suc (suc (suc zero)))))))) le = refl
  each (suc (suc (suc (suc (suc (suc (suc (suc (suc d))))))))) le = absurd (omega (arith, le))

  -- each has its device's length
  pub are-nine : ((d : ℕ) → d ≤ 8 → length (seen d) ≡ device_len d) → AreDevices (images_of seen)
  are-nine whole = record { nine = refl; sizes = λ d le. ap length (each d le) ∙ whole d le }

  -- the log devices, by their places among them
  pub log-there : (held : List ℕ) (i : ℕ) → i < 8 → seen (i + 1) ≡ get_or (log_devices (images_of seen)) i held
  log-there held zero lt = refl
  log-there held (suc zero) lt = refl
  log-there held (suc (suc zero)) lt = refl
  log-there held (suc (suc (suc zero))) lt = refl
  log-there held (suc (suc (suc (suc zero)))) lt = refl
  log-there held (suc (suc (suc (suc (suc zero))))) lt = refl
  log-there held (suc (suc (suc (suc (suc (suc zero)))))) lt = refl
  log-there held (suc (suc (suc (suc (suc (suc (suc zero))))))) lt = refl
  log-there held (suc (suc (suc (suc (suc (suc (suc (suc i)))))))) lt = absurd (omega (arith, lt))
