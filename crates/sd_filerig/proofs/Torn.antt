-- Of a write in memory, whether it succeeded or not. It serves the goals of `write`.
use Rattle.std.proofs.Common.{ℕ, List, refl}
use Rattle.std.specs.Prelude.{Result, Ok, Err, OnOk, OnErr}
use Rattle.sd_rig.specs.Devices.{AreBytes, LeavesTorn, MayTear}

tear_torn : (at n : ℕ) (old new : List ℕ → Type 0) → ((c : List ℕ) → old c → AreBytes c) → LeavesTorn at n old new → MayTear at n old new
tear_torn at n old new bytes torn c = (
  λ l. (torn c).1 (c, l, record { size = refl; before = refl; behind = refl }, bytes c l),
  λ l. let f = (torn c).0 l in (f.0, f.1, f.2),
)

pub tear_either : {T E : Type 0} (r : Result T E) (at n : ℕ) (old new : List ℕ → Type 0) → ((c : List ℕ) → old c → AreBytes c) → OnOk r (LeavesTorn at n old new) → OnErr r (MayTear at n old new) → MayTear at n old new
tear_either (Ok x) at n old new bytes torn tear = tear_torn at n old new bytes torn
tear_either (Err e) at n old new bytes torn tear = tear
