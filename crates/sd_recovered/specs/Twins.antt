-- What the slots of a page's twin hold, and which image counts.
use Rattle.std.specs.Prelude.{◌≡◌, ℕ, true, false, List, Option, None, Some}
use Rattle.sd_base.specs.Twin.{Slot, Neither, First, Second, Same, body_at, is_open}
use Rattle.sd_page.specs.Page.{Page, PageFits}
use Rattle.sd_page.specs.Spelling.{page_spelling}

-- an open slot holds the image of the page
pub record IsOpenSlot (p gate : ℕ) (bytes : List ℕ) (image : Page) : Type 0 where
  pub shown : is_open gate bytes ≡ true
  pub body : page_spelling image ≡ body_at 1024 gate bytes
  pub fits : PageFits image
  pub number : image.number ≡ p

-- the slot is closed, or holds this image
abbrev pub IsSlot : ℕ → ℕ → List ℕ → Option Page → Type 0
IsSlot p gate bytes None = is_open gate bytes ≡ false
IsSlot p gate bytes (Some image) = IsOpenSlot p gate bytes image

-- of the images in both slots that of the one that counts
abbrev pub chosen_image : Slot → Option Page → Option Page → Option Page
chosen_image Neither first second = None
chosen_image (First other) first second = first
chosen_image (Second other) first second = second
chosen_image Same first second = None
