-- The places that are written lie in each device.
use Rattle.std.proofs.Common.{ℕ, ◌≤◌, ◌==◌, Bool, true, false, arith}
use Rattle.std.specs.Prelude.{if◌then◌else◌}
use Rattle.sd_rig.specs.Devices.{device_len}

in_either : (n : ℕ) → n ≤ 65536 → (b : Bool) → n ≤ (if b then 2099200 else 2097282)
in_either n le true = omega (arith, le)
in_either n le false = omega (arith, le)

pub in_device : (dev n : ℕ) → n ≤ 65536 → n ≤ device_len dev
in_device dev n le = in_either n le (dev == 0)
