-- What the bytes of the devices keep: the records of each log from its master's start place on, and the disk image of each
-- page, which is the slot of its twin that counts.
use Rattle.std.specs.Prelude.{◌≡◌, ◌≢◌, ◌⊎◌, ℕ, ◌*◌, List, [], ◌++◌, Option, None, Some, map, cond, ltb, ◌&&◌}
use Rattle.std.specs.List.{flat_map}
use Rattle.sd_base.specs.Twin.{chosen_body}
use Rattle.sd_logrec.specs.View.{Rec, flat}
use Rattle.sd_logrec.specs.Kept.{Reading, Whole, BadGroup, NoRecord, kept}
use Rattle.sd_page.specs.Page.{Page, empty_page}
use Rattle.sd_page.specs.Reading.{page_of}
use Rattle.sd_page.specs.Spelling.{page_spelling}
use Rattle.sd_rig.specs.Devices.{AgreesOutside}
use Rattle.sd_rig.specs.Devices as rig
use Rattle.sd_chain.specs.Storage.{Storage}
use Rattle.sd_chain.specs.Images.{Tails}

-- the records of whole groups; a log that breaks the format keeps none
abbrev pub records_of : Reading → List Rec
records_of (Whole groups gate) = map (λ r. flat r.1) (flat_map (λ g. g.records) groups)
records_of (BadGroup at) = []
records_of (NoRecord at) = []

-- the records of log j, of which there are eight
abbrev pub log_of : rig.DeviceImages → ℕ → List Rec
log_of devices j = cond {A = List Rec} (ltb 0 j && ltb j 9) (records_of (kept (devices j))) []

-- where the twin of a page stands on the data device, in bytes; a body is 1,024 bytes
abbrev pub twin_at : ℕ → ℕ
twin_at p = 2050 * p

-- by the body that counts; the empty page where none does
abbrev pub page_in : ℕ → Option (List ℕ) → Page
page_in p None = empty_page p
page_in p (Some body) = page_of body

-- the disk image of a page
abbrev pub disk_page : List ℕ → ℕ → Page
disk_page bytes p = page_in p (chosen_body (twin_at p) 1024 bytes)

-- what the devices keep
abbrev pub stable : rig.DeviceImages → Storage
stable devices = record { logs = log_of devices; disk = disk_page (devices 0) }

-- the twin of page p has its old body or this page's image, and all else is as before
pub record PutsTwin (p : ℕ) (page : Page) (before after : rig.DeviceImages) : Type 0 where
  pub others : (d : ℕ) → d ≢ 0 → after d ≡ before d
  pub outside : AgreesOutside (twin_at p) 2050 (before 0) (after 0)
  pub whole : (chosen_body (twin_at p) 1024 (after 0) ≡ chosen_body (twin_at p) 1024 (before 0))
      ⊎ (chosen_body (twin_at p) 1024 (after 0) ≡ Some (page_spelling page))

-- log i has its tail or not, and all else is as before
pub record ForcesLog (i : ℕ) (tails : Tails) (before after : rig.DeviceImages) : Type 0 where
  pub others : (d : ℕ) → d ≢ i → after d ≡ before d
  pub here : (log_of after i ≡ tails.base i) ⊎ (log_of after i ≡ tails.base i ++ tails.tail i)
