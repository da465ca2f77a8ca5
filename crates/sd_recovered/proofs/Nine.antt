-- Nine devices of the right lengths. It serves the goals of sd_bench and sd_tests_disk.
use Rattle.std.proofs.Common.{◌≡◌, ℕ, zero, suc, ◌≤◌, List, [], ◌∷◌, length, refl, arith}
use Rattle.sd_rig.specs.Devices.{device_len}
use Rattle.sd_recovered.specs.Devices.{AreDevices, devices_of}

pub are_devices : (a b c d e f g h i : List ℕ) → length a ≡ device_len 0 → length b ≡ device_len 1 → length c ≡ device_len 2
    → length d ≡ device_len 3 → length e ≡ device_len 4 → length f ≡ device_len 5 → length g ≡ device_len 6 → length h ≡ device_len 7
    → length i ≡ device_len 8 → AreDevices (a ∷ b ∷ c ∷ d ∷ e ∷ f ∷ g ∷ h ∷ i ∷ [])
are_devices a b c d e f g h i n0 n1 n2 n3 n4 n5 n6 n7 n8 = record { nine = refl; sizes = sizes }
  where
    sizes : (dev : ℕ) → dev ≤ 8 → length (devices_of (a ∷ b ∷ c ∷ d ∷ e ∷ f ∷ g ∷ h ∷ i ∷ []) dev) ≡ device_len dev
    sizes zero le = n0
    sizes (suc zero) le = n1
    sizes (suc (suc zero)) le = n2
    sizes (suc (suc (suc zero))) le = n3
    sizes (suc (suc (suc (suc zero)))) le = n4
    sizes (suc (suc (suc (suc (suc zero))))) le = n5
    sizes (suc (suc (suc (suc (suc (suc zero)))))) le = n6
    sizes (suc (suc (suc (suc (suc (suc (suc zero))))))) le = n7
    sizes (suc (suc (suc (suc (suc (suc (suc (suc zero)))))))) le = n8
    sizes (suc (suc (suc (suc (suc (suc (suc (suc (suc n))))))))) le = absurd (omega (arith, le))
