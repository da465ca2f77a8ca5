-- A lost page that device 0 has in its newest version is called free: what held of the complex holds of it then. For the goals of
-- `rebuild`.
use Rattle.std.proofs.Common.{◌≡◌, ℕ, false, None, ap, subst, ◌∙◌, sym, ◌||◌, arith}
use Rattle.sd_page.specs.Page.{Page}
use Rattle.sd_model.specs.State.{State}
use Rattle.sd_pagelock.specs.Directory as directory
use Rattle.sd_pagelock.specs.Directory.{DirectoryState, entry_at}
use Rattle.sd_pagelock.specs.Places.{PageEntry, is_lost}
use Rattle.sd_pagelock.specs.Rows.{may_write, written}
use Rattle.sd_rig.specs.Devices as rig
use Rattle.sd_chain.specs.Bytes.{disk_page}
use Rattle.sd_chain.specs.Images.{all_kept}
use Rattle.sd_chain.specs.Logs.{Outcomes}
use Rattle.sd_state.specs.Good.{Good}
use Rattle.sd_state.specs.Laws.{newest_of}
use Rattle.sd_state.specs.Locking.{IsSet}
use Rattle.sd_state.specs.Parts.{Parts}
use Rattle.sd_state.specs.Values.{Pending}
use Rattle.sd_moves.specs.Places.{with_directory}
use Rattle.sd_moves.specs.Putting.{SameVersions}
use Rattle.sd_moves.specs.Rebuilding.{MayRebuild}
use Rattle.sd_moves.proofs.PutCleaned.{cleaned-good}
use Rattle.sd_moves.proofs.PutMay.{lost-may}

-- the newest version stays what it was
pub still-newest : (p : ℕ) (im : Page) (seen seen' : rig.DeviceImages) (leaves leaves' : Outcomes) (c : Parts) → SameVersions seen seen' c
    → im ≡ newest_of seen leaves c p → im ≡ newest_of seen' leaves' c p
still-newest p im seen seen' leaves leaves' c same newest = newest ∙ sym (same (λ j. false) all_kept p)

pub rebuilt-good : (p : ℕ) (im : Page) (places : DirectoryState Page) (seen : rig.DeviceImages) (leaves : Outcomes) (pend : Pending)
    (c : Parts) (m : State) → Good seen leaves pend c m → leaves 0 (seen 0) → MayRebuild p c → im ≡ newest_of seen leaves c p
    → disk_page (seen 0) p ≡ im → IsSet p PageEntry.Free None c.directory places
    → ((q : ℕ) → directory.moving_image_at places q ≡ directory.moving_image_at c.directory q)
    → Good seen leaves pend (with_directory places c) m
rebuilt-good p im places seen leaves pend c m g left can newest there set moving =
    cleaned-good p im places seen leaves pend c m g left (lost-may p im seen leaves pend c m g can newest)
    (ap (λ (e : PageEntry). may_write e || is_lost e) can.lost) (can.settled 0 (omega arith)) there
    (subst (λ (e : PageEntry). IsSet p e None c.directory places) (sym (ap written can.lost)) set) moving
