-- What the invariant says at any moment.
use Rattle.std.specs.Prelude.{◌≡◌, ℕ, ◌≤◌, true, None, Some}
use Rattle.sd_page.specs.Page.{Page}
use Rattle.sd_log.specs.Forces.{Forces}
use Rattle.sd_model.specs.State.{State}
use Rattle.sd_pagelock.specs.Directory.{entry_at}
use Rattle.sd_pagelock.specs.Places.{holds, owns}
use Rattle.sd_pool.specs.Buffers as buffers
use Rattle.sd_rig.specs.Devices as rig
use Rattle.sd_chain.specs.Logs.{Outcomes}
use Rattle.sd_chain.specs.Newest.{IsAlone}
use Rattle.sd_chain.specs.World.{newest_version}
use Rattle.sd_state.specs.Good.{Good, base_of, dir_of}
use Rattle.sd_state.specs.Images.{Stands}
use Rattle.sd_state.specs.Values.{Pending}
use Rattle.sd_state.specs.Parts.{Parts, log_at, other_at, pool_at}

-- Whatever a crash leaves of it stands for the serial table's state.
abbrev pub LeftStands : Outcomes → Type 0
LeftStands leaves = (seen img : rig.DeviceImages) (pend : Pending) (c : Parts) (m : State) → Good seen leaves pend c m
    → rig.Leaves leaves img → Stands m pend img

-- And so does what a crash leaves while the log of an instance, which begins at one place, is forced.
abbrev pub ForceLeftStands : Outcomes → Type 0
ForceLeftStands leaves = (i : ℕ) (seen img : rig.DeviceImages) (pend : Pending) (c : Parts) (m : State) → Good seen leaves pend c m
    → 1 ≤ i → i ≤ 8 → other_at c i ≡ None → leaves i (seen i) → Forces (log_at c i) seen leaves img → Stands m pend img

-- a page's newest version: its disk image with every newer record of it, forced or not
abbrev pub newest_of : rig.DeviceImages → (leaves : Outcomes) → Parts → ℕ → Page
newest_of seen leaves c p = newest_version (base_of seen leaves (log_at c) c) p

-- At most one instance may update a page: who may is alone with it.
abbrev pub OneMayUpdate : Outcomes → Type 0
OneMayUpdate leaves = (seen : rig.DeviceImages) (pend : Pending) (c : Parts) (m : State) → Good seen leaves pend c m
    → (p i : ℕ) → owns (entry_at c.directory p) i ≡ true → IsAlone (dir_of c) p i

-- Every copy under a page lock is its newest version: an instance's pool has the page exactly where the directory says so, and
-- what it has is the newest version.
abbrev pub EachCopyIsNewest : Outcomes → Type 0
EachCopyIsNewest leaves = (seen : rig.DeviceImages) (pend : Pending) (c : Parts) (m : State) → Good seen leaves pend c m
    → (p i : ℕ)
    → (holds (entry_at c.directory p) i ≡ true → buffers.image_at (pool_at c i) p ≡ Some (newest_of seen leaves c p))
    × ((x : Page) → buffers.image_at (pool_at c i) p ≡ Some x
    → (holds (entry_at c.directory p) i ≡ true) × (x ≡ newest_of seen leaves c p))
