-- A lost page is rebuilt: how a complex goes on fitting. For the step of a recovery that rebuilds one.
use Rattle.std.proofs.Common.{◌≡◌, ℕ, false, refl, sym, ap, ◌∙◌}
use Rattle.std.specs.Prelude.{None}
use Rattle.sd_page.specs.Page.{Page}
use Rattle.sd_model.specs.State.{State}
use Rattle.sd_pagelock.specs.Asks.{open_asks}
use Rattle.sd_pagelock.specs.Directory.{DirectoryState, asks_at, entry_at}
use Rattle.sd_pagelock.specs.Places.{PageEntry}
use Rattle.sd_rig.specs.Devices as rig
use Rattle.sd_moves.specs.Putting.{SameVersions, with_loose_disk}
use Rattle.sd_chain.specs.Logs.{Outcomes}
use Rattle.sd_world.specs.Answers.{IsLowestLost, Rebuilds, Steps}
use Rattle.sd_world.specs.Bounds.{Bounds}
use Rattle.sd_world.specs.Pages.{Pages, page_placed, renumbered}
use Rattle.sd_world.specs.Serving.{Core}
use Rattle.sd_state.specs.Forcing.{KeepMasters}
use Rattle.sd_state.specs.Good.{Good}
use Rattle.sd_state.specs.Locking.{IsSet}
use Rattle.sd_state.specs.Parts.{Parts}
use Rattle.sd_state.specs.Values.{Pending}
use Rattle.sd_fits.specs.Fits.{Fits, FitsBounds, FitsPages}
use Rattle.sd_fits.proofs.Falling.{numbers_of}
use Rattle.sd_fits.proofs.Places.{put-case}
use Rattle.sd_transfer.proofs.PutFits.{put-fits}

-- page p is free, and pages have these numbers
abbrev pub freed : ℕ → (ℕ → ℕ) → Pages → Pages
freed p number w = renumbered number (page_placed p PageEntry.Free w)

-- a step of a recovery frees the lowest lost page
pub frees-lowest : (m : State) (i p : ℕ) (number : ℕ → ℕ) (w : Pages) → IsLowestLost w.entry p → Steps m i w (freed p number w)
frees-lowest m i p number w lowest = (page_placed p PageEntry.Free w, number, Rebuilds.frees p lowest refl, refl)

-- Device 0 reads otherwise, with the same newest versions, and is settled; the directory says that p is free.
module _ (p : ℕ) (places : DirectoryState Page) (seen : rig.DeviceImages) (leaves : Outcomes) (c : Parts)
    (set : IsSet p PageEntry.Free None c.directory places) where
  -- the pages that it fitted it fits with p free, by the numbers of their newest versions,
  freed-pages : (w : Pages) → FitsPages seen leaves c w
      → FitsPages seen leaves (record c { pools = c.pools; directory = places }) (freed p (numbers_of seen leaves c) w)
  freed-pages w f = record {
    frames = f.frames;
    entry = put-case (λ q e. e ≡ entry_at places q) p PageEntry.Free w.entry (sym set.entry)
        (λ q ne. f.entry q ∙ sym (set.others q ne));
    asks = put-case (λ q asks. asks ≡ asks_at places q) p (open_asks PageEntry.Free (w.asks p)) w.asks
        (ap (open_asks PageEntry.Free) (f.asks p) ∙ sym set.asks)
        (λ q ne. f.asks q ∙ sym (set.other_asks q ne));
    number = λ q found. refl;
    begun = f.begun;
  }

  -- and where it is good then, the world that has them
  pub freed-fits : (seen' : rig.DeviceImages) (leaves' : Outcomes) → SameVersions seen seen' c → KeepMasters leaves leaves'
      → (w : Core) → Fits seen leaves c w → (sums : Bounds)
      → Good seen' leaves' Pending.Idle (record (with_loose_disk false c) { directory = places }) w.scene.state
      → FitsBounds seen leaves c sums
      → Fits seen' leaves' (record (with_loose_disk false c) { directory = places })
      (record { scene = w.scene; pages = freed p (numbers_of seen leaves c) w.pages; bounds = sums })
  freed-fits seen' leaves' versions kept w f sums good b = put-fits false places seen seen' leaves leaves' c versions kept w f
      (freed p (numbers_of seen leaves c) w.pages) sums good (freed-pages w.pages f.pages) b
