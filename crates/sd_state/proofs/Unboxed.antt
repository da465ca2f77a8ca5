-- Images that are on their way, out of their boxes. For all that reads the page directory.
use Rattle.std.proofs.Common.{◌≡◌, ℕ, sym, ap, ◌∙◌}
use Rattle.std.specs.Prelude.{None, option_map}
use Rattle.std.specs.Box.{box_value}
use Rattle.std.specs.Global.{Box}
use Rattle.std.proofs.Math.ListN.{get_or-map}
use Rattle.sd_page.specs.Page.{Page}
use Rattle.sd_pagelock.specs.Directory.{DirectoryState, moving_image_at}
use Rattle.sd_state.specs.Complexes.{unboxed}

-- what is on its way, out of its box
pub image-unboxed : (d e : DirectoryState (Box Page)) (q : ℕ) → moving_image_at e q ≡ moving_image_at d q
    → moving_image_at (unboxed e) q ≡ moving_image_at (unboxed d) q
image-unboxed d e q same = get_or-map (option_map box_value) e.images q None ∙ ap (option_map box_value) same
    ∙ sym (get_or-map (option_map box_value) d.images q None)
