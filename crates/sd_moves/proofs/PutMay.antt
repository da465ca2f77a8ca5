-- Which image of a page may be put onto device 0: the copy of who has the write of it, and of a lost page its newest version. For
-- the goals of `write_newest`, `put_image` and `rebuild`.
use Rattle.std.proofs.Common.{◌≡◌, ◌≢◌, ⊎_elim, ℕ, zero, suc, ◌≤◌, Bool, true, false, List, None, Some, refl, sym, ap, ◌∙◌, subst, arith, eqb-true, map}
use Rattle.std.proofs.lemmas.Bool.{cases_lt}
use Rattle.std.proofs.lemmas.List.{get_or_past}
use mathlib.Core.Path.{fun_ext}
use Rattle.sd_logrec.specs.View.{flat}
use Rattle.sd_page.specs.Page.{Page}
use Rattle.sd_model.specs.State.{State}
use Rattle.sd_pagelock.specs.Directory.{entry_at}
use Rattle.sd_pagelock.specs.Places.{Formed, PageEntry, changed, holds}
use Rattle.sd_pagelock.specs.Rows.{may_write}
use Rattle.sd_pool.specs.Buffers as buffers
use Rattle.sd_rig.specs.Devices as rig
use Rattle.sd_rig.specs.Devices.{IsUnchanged}
use Rattle.sd_chain.specs.Bytes.{disk_page}
use Rattle.sd_chain.specs.Images.{Keeps, all_kept}
use Rattle.sd_chain.specs.Named.{version_of}
use Rattle.sd_chain.specs.Puts.{NoneUnforced}
use Rattle.sd_chain.specs.World.{Base, newest_version}
use Rattle.sd_chain.proofs.OneUpdater.{each-newest}
use Rattle.sd_chain.proofs.DiskPuts.{forced-none, lost-none}
use Rattle.sd_chain.specs.Logs.{Logs, Outcomes, may_of, tails_of}
use Rattle.sd_state.specs.Good.{Good, Half, base_of, dir_of}
use Rattle.sd_state.specs.Images.{leaves_by, log_by}
use Rattle.sd_state.specs.Laws.{newest_of}
use Rattle.sd_state.specs.Parts.{Parts, is_loose, log_at, other_at, pool_at}
use Rattle.sd_state.specs.Values.{Pending}
use Rattle.sd_state.proofs.LockReads.{unchanged-good}
use Rattle.sd_state.proofs.Standing.{one-place}
use Rattle.sd_world.specs.Pages.{is_duty}
use Rattle.sd_moves.specs.Putting.{MayBePut, MayPut, MayPutImage}
use Rattle.sd_moves.specs.Rebuilding.{MayRebuild}
use Rattle.sd_moves.proofs.Placed.{tail-same}

-- ---- who has the write of a page

-- it is changed
pub write-changed : (e : PageEntry) → may_write e ≡ true → changed e ≡ true
write-changed PageEntry.Free w = absurd (cc)
write-changed (PageEntry.Shared set writer) w = w
write-changed (PageEntry.Excl holder dirty) w = w
write-changed (PageEntry.Moving to mode rest dirty) w = absurd (cc)
write-changed PageEntry.Lost w = absurd (cc)

-- it isn't lost
pub write-found : (e : PageEntry) → may_write e ≡ true → e ≢ PageEntry.Lost
write-found e w lost = let clash = sym w ∙ ap may_write lost in absurd (cc)

-- its pool has the page
pub duty-holds : (i : ℕ) (e : PageEntry) → Formed e → is_duty i e ≡ true → holds e i ≡ true
duty-holds i PageEntry.Free f d = absurd (cc)
duty-holds i (PageEntry.Shared set None) f d = absurd (cc)
duty-holds i (PageEntry.Shared set (Some w)) f d = f.1 i (ap (λ (k : ℕ). Some k) (eqb-true w i d))
duty-holds i (PageEntry.Excl holder dirty) f d = d
duty-holds i (PageEntry.Moving to mode rest dirty) f d = absurd (cc)
duty-holds i PageEntry.Lost f d = absurd (cc)

-- and who else has it alone is nobody
duty-alone : (i j : ℕ) (x : Bool) (e : PageEntry) → is_duty i e ≡ true → e ≡ PageEntry.Excl j x → j ≡ i
duty-alone i j x e d is = eqb-true j i (sym (ap (is_duty i) is) ∙ d)

-- ---- the copy of who has the write

module _ (p i : ℕ) (im : Page) (seen : rig.DeviceImages) (leaves : Outcomes) (pend : Pending) (c : Parts) (m : State)
    (g : Good seen leaves pend c m) (held : buffers.image_at (pool_at c i) p ≡ Some im) (idle : c.due ≡ None) (can : MayPut p i c)
    (moved : Keeps) where
  abbrev wide : Outcomes
  wide = leaves_by c moved leaves

  abbrev base : Base (may_of wide)
  base = base_of seen wide (log_by c moved) c

  half : Half seen wide (log_by c moved) pend c m
  half = g.half moved

  -- it is the newest version
  held-now : im ≡ newest_version base p
  held-now = ((each-newest (may_of wide) base (dir_of c) half.coherent p i).1 im held).1

  -- and no tail has a record of the page
  held-none : NoneUnforced base p
  held-none = forced-none (may_of wide) base (dir_of c) p half.coherent idle (write-found (entry_at c.directory p) can.changed)
      (λ j is settled. let own = duty-alone i j true (entry_at c.directory p) can.duty is in
      ap (map flat) (tail-same c moved j ∙ ap (λ (k : ℕ). (log_at c k).tail) own
      ∙ can.forced (subst (λ (k : ℕ). is_loose c k ≡ false) own settled)))

pub held-may : (p i : ℕ) (im : Page) (seen : rig.DeviceImages) (leaves : Outcomes) (pend : Pending) (c : Parts) (m : State)
    → Good seen leaves pend c m → buffers.image_at (pool_at c i) p ≡ Some im → c.due ≡ None → MayPut p i c
    → MayBePut p im seen leaves c
held-may p i im seen leaves pend c m g held idle can = record {
  newest = λ moved. held-now p i im seen leaves pend c m g held idle can moved;
  none = λ moved. held-none p i im seen leaves pend c m g held idle can moved;
  changed = write-changed (entry_at c.directory p) can.changed;
}

-- ---- a lost page

module _ (p : ℕ) (im : Page) (seen : rig.DeviceImages) (leaves : Outcomes) (pend : Pending) (c : Parts) (m : State)
    (g : Good seen leaves pend c m) (can : MayRebuild p c) (newest : im ≡ newest_of seen leaves c p) where
  -- each log, settled, begins at one place
  no_other : (j : ℕ) → other_at c j ≡ None
  no_other zero = refl
  no_other (suc j) = ⊎_elim
      (λ low. (g.settled (suc j) (omega arith) (omega (arith, low)) (can.settled (suc j) (omega (arith, low)))).one_place)
      (λ high. let size = g.shape.others in get_or_past c.others j None (omega (arith, high, size)))
      (cases_lt (suc j) 9)

  module _ (moved : Keeps) where
    abbrev lost_base : Base (may_of (leaves_by c moved leaves))
    lost_base = base_of seen (leaves_by c moved leaves) (log_by c moved) c

    -- so the newest version is the same wherever logs may begin,
    lost-now : im ≡ newest_version lost_base p
    lost-now = newest ∙ ap (λ (logs : Logs). version_of (tails_of logs) (disk_page (seen 0)) all_kept p)
        (sym (fun_ext (λ j. one-place c moved j (no_other j))))

    -- and no tail has a record of the page
    lost-quiet : NoneUnforced lost_base p
    lost-quiet = lost-none (may_of (leaves_by c moved leaves)) lost_base (dir_of c) p (g.half moved).coherent can.idle
        (λ j low high. can.settled j high) can.lost

  pub lost-may : MayBePut p im seen leaves c
  lost-may = record {
    newest = lost-now;
    none = lost-quiet;
    changed = ap changed can.lost;
  }

-- ---- a read

-- An image that might be put before a read may be put after it.
pub unchanged-may : (p : ℕ) (im : Page) (seen seen' : rig.DeviceImages) (leaves leaves' : Outcomes) (t t' : ℕ)
    (since since' : ℕ → rig.DeviceImages → Type 0) → IsUnchanged seen seen' leaves leaves' t t' since since' → (pend : Pending)
    (c : Parts) (m : State) → MayPutImage p im seen leaves pend c m → ((d : ℕ) → d ≤ 8 → leaves' d (seen' d))
    → MayPutImage p im seen' leaves' pend c m
unchanged-may p im seen seen' leaves leaves' t t' since since' u pend c m can reads = record {
  good = unchanged-good seen seen' leaves leaves' t t' since since' u pend c m can.good reads;
  settled = can.settled;
  may = record {
    newest = λ moved. can.may.newest moved
        ∙ sym (ap (λ (bytes : List ℕ). version_of (tails_of (log_by c moved)) (disk_page bytes) all_kept p) (u.reads 0));
    none = λ moved. can.may.none moved;
    changed = can.may.changed;
  };
}
