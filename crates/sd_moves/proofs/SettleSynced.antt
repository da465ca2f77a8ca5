-- Any device is synced, or a sync fails: the complex, whose marks stay, is as good as it was. For the goals of `sync_device`.
use Rattle.std.proofs.Common.{◌≡◌, ◌≢◌, ⊎_elim, ℕ, ◌≤◌, List, sym, subst}
use Rattle.std.proofs.lemmas.Bool.{cases_eq}
use mathlib.Core.Path.{fun_ext}
use Rattle.sd_model.specs.State.{State}
use Rattle.sd_rig.specs.Devices as rig
use Rattle.sd_rig.specs.Devices.{LeavesOnly, LeavesSame}
use Rattle.sd_chain.specs.Logs.{Less, Outcomes}
use Rattle.sd_state.specs.Good.{Good}
use Rattle.sd_state.specs.Parts.{Parts}
use Rattle.sd_state.specs.Values.{Pending}
use Rattle.sd_state.proofs.LockReads.{less-good}

module _ (dev : ℕ) (seen seen' : rig.DeviceImages) (leaves leaves' : Outcomes) (pend : Pending) (c : Parts) (m : State)
    (high : dev ≤ 8) (g : Good seen leaves pend c m) (reads : (d : ℕ) → d ≤ 8 → leaves d (seen d))
    (reads' : (d : ℕ) → d ≤ 8 → leaves' d (seen' d)) (same : (d : ℕ) → seen' d ≡ seen d)
    (others_leave : (d : ℕ) → d ≢ dev → LeavesSame (leaves d) (leaves' d)) where
  as-read : (d : ℕ) → d ≤ 8 → leaves' d (seen d)
  as-read d le = subst (leaves' d) (same d) (reads' d le)

  less : ((bytes : List ℕ) → leaves' dev bytes → leaves dev bytes) → Less leaves leaves'
  less here d bytes l = ⊎_elim
      (λ e. subst (λ (k : ℕ). leaves k bytes) (sym e) (here bytes (subst (λ (k : ℕ). leaves' k bytes) e l)))
      (λ ne. (others_leave d ne bytes).0 l)
      (cases_eq d dev)

  by : ((bytes : List ℕ) → leaves' dev bytes → leaves dev bytes) → Good seen' leaves' pend c m
  by here = subst (λ (s : rig.DeviceImages). Good s leaves' pend c m) (sym (fun_ext same))
      (less-good seen leaves leaves' pend c m g (less here) as-read)

  -- after one that failed,
  pub unsynced-any : LeavesSame (leaves dev) (leaves' dev) → Good seen' leaves' pend c m
  unsynced-any stays = by (λ bytes l. (stays bytes).0 l)

  -- and after one that is Ok
  pub synced-any : LeavesOnly (seen dev) (leaves' dev) → Good seen' leaves' pend c m
  synced-any only = by (λ bytes l. subst (leaves dev) (sym ((only bytes).0 l)) (reads dev high))

  -- nothing more may be left
  pub unsynced-less : LeavesSame (leaves dev) (leaves' dev) → Less leaves leaves'
  unsynced-less stays = less (λ bytes l. (stays bytes).0 l)

  pub synced-less : LeavesOnly (seen dev) (leaves' dev) → Less leaves leaves'
  synced-less only = less (λ bytes l. subst (leaves dev) (sym ((only bytes).0 l)) (reads dev high))
