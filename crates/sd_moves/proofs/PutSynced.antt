-- Device 0 is synced, or a sync fails: what held of the complex holds of it then. For the goals of `settle_disk`.
use Rattle.std.proofs.Common.{◌≡◌, ◌≢◌, ⊎_elim, ℕ, ◌≤◌, true, false, List, refl, sym, ap, ◌∙◌, subst, arith, slice_set}
use Rattle.std.proofs.lemmas.Bool.{cases_eq}
use Rattle.std.proofs.lemmas.List.{get_or-set_other, get_or-set_same, length-set}
use mathlib.Core.Path.{fun_ext}
use Rattle.sd_model.specs.State.{State}
use Rattle.sd_rig.specs.Devices as rig
use Rattle.sd_rig.specs.Devices.{LeavesOnly, LeavesSame}
use Rattle.sd_chain.specs.Bytes.{disk_page}
use Rattle.sd_chain.specs.Images.{Keeps}
use Rattle.sd_chain.specs.AppendedRecords as changes_law
use Rattle.sd_chain.specs.Coherent.{Coherent}
use Rattle.sd_chain.specs.Puts as puts_law
use Rattle.sd_chain.specs.World.{Base}
use Rattle.sd_chain.proofs.Changes.{rest-keeps}
use Rattle.sd_chain.proofs.DiskPuts.{sync-keeps}
use Rattle.sd_chain.specs.Logs.{Less, Outcomes, may_of}
use Rattle.sd_state.specs.Good.{Good, Half, base_of, dir_of}
use Rattle.sd_state.specs.Images.{leaves_by, log_by}
use Rattle.sd_state.specs.Parts.{Parts, is_loose}
use Rattle.sd_state.specs.Values.{Pending}
use Rattle.sd_state.proofs.LockReads.{less-good}
use Rattle.sd_moves.specs.Putting.{with_loose_disk}
use Rattle.sd_moves.proofs.PutDevice.{device-good}

-- ---- device 0, which a crash leaves as it reads, is called settled

module _ (seen : rig.DeviceImages) (leaves : Outcomes) (pend : Pending) (c : Parts) (m : State) (g : Good seen leaves pend c m)
    (only : LeavesOnly (seen 0) (leaves 0)) where
  abbrev new : Parts
  new = with_loose_disk false c

  loose-here : is_loose new 0 ≡ false
  loose-here = get_or-set_same c.loose 0 false true (omega (arith, g.shape.loose))

  loose-else : (d : ℕ) → d ≢ 0 → is_loose new d ≡ is_loose c d
  loose-else d ne = get_or-set_other c.loose 0 d false true ne

  module _ (moved : Keeps) where
    abbrev wide : Outcomes
    wide = leaves_by c moved leaves

    h : Half seen wide (log_by c moved) pend c m
    h = g.half moved

    abbrev base : Base (may_of wide)
    base = base_of seen wide (log_by c moved) c

    abbrev settled : Base (may_of wide)
    settled = puts_law.with_device (may_of wide) base base.disk false base.rec_lsn

    left : puts_law.IsLeft (may_of wide) base.disk false
    left = record {
      reads = h.coherent.reads;
      still = λ e q x may. sym may.2 ∙ ap (λ (b : List ℕ). disk_page b q) ((only may.0).0 may.1.0);
    }

    rests : changes_law.Rests settled (base_of seen wide (log_by c moved) new)
    rests = record {
      bases = λ j. refl;
      tails = λ j. refl;
      version = λ keeps q. refl;
      safe = h.coherent.safe;
      reads = h.coherent.reads;
      rec_lsn = λ q. refl;
      stays = record {
        less = λ q x may. may;
        disk = λ q. refl;
        loose = λ j low. loose-else j (λ e. omega (arith, low, e));
        loose_disk = loose-here;
        active = λ j. refl;
        up = λ j. refl;
        due = refl;
      };
    }

    coherent-there : Coherent (base_of seen wide (log_by c moved) new) (dir_of new)
    coherent-there = rest-keeps (may_of wide) (may_of wide) settled (base_of seen wide (log_by c moved) new) (dir_of c)
        (sync-keeps (may_of wide) (may_of wide) base (dir_of c) base.disk false h.coherent (λ q x may. may) left) rests

    half-there : Half seen wide (log_by c moved) pend new m
    half-there = record {
      coherent = coherent-there;
      soundly = h.soundly;
      gives = h.gives;
      claimed = h.claimed;
      held = h.held;
      epochs = h.epochs;
      checks = h.checks;
    }

  pub settled-good : Good seen leaves pend new m
  settled-good = device-good (slice_set c.loose 0 false) c.directory seen seen leaves leaves pend c m g
      (length-set c.loose 0 false ∙ g.shape.loose) loose-else (λ d ne. refl) (λ d ne bytes. (λ l. l, λ l. l)) half-there
      (λ e. only) g.disk_lsns g.asks

-- ---- a sync

module _ (seen seen' : rig.DeviceImages) (leaves leaves' : Outcomes) (pend : Pending) (c : Parts) (m : State)
    (g : Good seen leaves pend c m) (reads : (d : ℕ) → d ≤ 8 → leaves d (seen d))
    (reads' : (d : ℕ) → d ≤ 8 → leaves' d (seen' d)) (same : (d : ℕ) → seen' d ≡ seen d)
    (others_leave : (d : ℕ) → d ≢ 0 → LeavesSame (leaves d) (leaves' d)) where
  as-read : (d : ℕ) → d ≤ 8 → leaves' d (seen d)
  as-read d le = subst (leaves' d) (same d) (reads' d le)

  there : (P : rig.DeviceImages → Type 0) → P seen → P seen'
  there P h = subst P (sym (fun_ext same)) h

  less : ((bytes : List ℕ) → leaves' 0 bytes → leaves 0 bytes) → Less leaves leaves'
  less disk d bytes l = ⊎_elim
      (λ e. subst (λ (k : ℕ). leaves k bytes) (sym e) (disk bytes (subst (λ (k : ℕ). leaves' k bytes) e l)))
      (λ ne. (others_leave d ne bytes).0 l)
      (cases_eq d 0)

  -- after one that failed the complex is as it was,
  pub unsynced-good : LeavesSame (leaves 0) (leaves' 0) → Good seen' leaves' pend c m
  unsynced-good stays = there (λ (s : rig.DeviceImages). Good s leaves' pend c m)
      (less-good seen leaves leaves' pend c m g (less (λ bytes l. (stays bytes).0 l)) as-read)

  -- and after one that is Ok device 0 is settled
  pub synced-good : LeavesOnly (seen 0) (leaves' 0) → Good seen' leaves' pend (with_loose_disk false c) m
  synced-good only = there (λ (s : rig.DeviceImages). Good s leaves' pend (with_loose_disk false c) m)
      (settled-good seen leaves' pend c m
      (less-good seen leaves leaves' pend c m g
      (less (λ bytes l. subst (leaves 0) (sym ((only bytes).0 l)) (reads 0 (omega arith)))) as-read)
      only)
