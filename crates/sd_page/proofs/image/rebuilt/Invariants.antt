use Rattle.std.proofs.Common.{◌≡◌, take}
use Rattle.sd_page.specs.Page.{Page, PageFits}
use Rattle.sd_page.specs.Spelling.{page_spelling}
use Rattle.sd_page.proofs.image.rebuilt.Given as goal

-- the slots so far are those of the page, if the bytes are its image
abbrev pub invariant-loop-slot : goal.invariant-loop-slot
invariant-loop-slot l = record {
  number : l.image.number ≡ l.fn.p;
  copied : (page : Page) → PageFits page → page.number ≡ l.fn.p → page_spelling page ≡ l.bytes → l.image ≡ record { lsn = page.lsn; number = page.number; slots = take l.slot page.slots };
}
