-- What loading a device keeps. It serves the goals of `at`.
use Rattle.std.proofs.Common.{◌≡◌, ◌≢◌, ℕ, List, sym, subst, ⊎_elim}
use Rattle.std.proofs.lemmas.Bool.{cases_eq}
use Rattle.sd_rig.specs.Devices.{LeavesOnly}
use Rattle.sd_rig.specs.Disk.{DiskState, MayLeave}
use Rattle.sd_rig.specs.Replay.{left_of}
use Rattle.sd_rig.specs.Rigs.{device, devices}
use Rattle.sd_rig.specs.declared.memory_rig.MemRig.{MemRig}
use Rattle.sd_filerig.specs.Mirror.{IsStable}

pub stable_loaded : (old new : MemRig) (dev : ℕ) (image : List ℕ) → IsStable old → (device new dev).seen ≡ image → LeavesOnly image (left_of (devices new) dev) → ((d : ℕ) → d ≢ dev → device new d ≡ device old d) → IsStable new
stable_loaded old new dev image stable seen only others d le = ⊎_elim
    (λ (e : d ≡ dev). subst (λ (i : ℕ). LeavesOnly (device new i).seen (left_of (devices new) i)) (sym e) (subst (λ (bytes : List ℕ). LeavesOnly bytes (left_of (devices new) dev)) (sym seen) only))
    (λ ne. subst (λ (k : DiskState). LeavesOnly k.seen (MayLeave k)) (sym (others d ne)) (stable d le))
    (cases_eq d dev)
