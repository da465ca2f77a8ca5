-- What is told of a page by its bytes and by its records: its number, and how its LSN rises. For the goals of `write_newest`.
use Rattle.std.proofs.Common.{◌≡◌, ℕ, ◌≤◌, Bool, true, false, cond, List, [], ◌∷◌, Option, None, Some, take, refl, sym, ap, ◌∙◌, arith}
use Rattle.std.specs.Prelude.{IfSome, ltb}
use Rattle.std.specs.Option.{option_map_or}
use Rattle.std.specs.Int.{w64, from_be_bytes}
use Rattle.sd_base.specs.Twin.{number_of}
use Rattle.sd_page.specs.Page.{Page, PageFits}
use Rattle.sd_page.specs.Reading.{eight_at, page_of}
use Rattle.sd_page.specs.Spelling.{WellFormed, page_spelling}
use Rattle.sd_page.proofs.Told.{told, told-lsn}
use Rattle.sd_rig.proofs.Numbers.{number_of-take}
use Rattle.sd_logrec.specs.View.{Rec}
use Rattle.sd_chain.specs.Bytes.{page_in}
use Rattle.sd_chain.specs.Storage.{Sound, Storage, chain, newest}
use Rattle.sd_chain.specs.Pages.{redo, replay}
use Rattle.sd_chain.proofs.Chains.{replay_rises}

-- the first eight bytes of an image are its LSN
lsn-first : (page : Page) → PageFits page → from_be_bytes w64 (take 8 (page_spelling page)) ≡ page.lsn
unfolding eight_at
lsn-first page fits = told-lsn page fits

-- so that is the number by which slots are compared
pub number-spelled : (page : Page) → PageFits page → number_of (page_spelling page) ≡ page.lsn
number-spelled page fits = sym (number_of-take 8 (page_spelling page) (omega arith)) ∙ lsn-first page fits

-- a body that is an image of page p has the LSN and the number of the page that it tells of
pub body-lsn : (p : ℕ) (o : Option (List ℕ)) → IfSome o (λ b. WellFormed b p) → IfSome o (λ b. number_of b ≡ (page_in p o).lsn)
body-lsn p None well = tt
body-lsn p (Some b) w = ap number_of (sym w.spelled) ∙ number-spelled w.page w.fits
    ∙ ap (λ (x : Page). x.lsn) (sym (told w.page w.fits) ∙ ap page_of w.spelled)

pub body-number : (p : ℕ) (o : Option (List ℕ)) → IfSome o (λ b. WellFormed b p) → (page_in p o).number ≡ p
body-number p None well = refl
body-number p (Some b) w = ap (λ (x : Page). x.number) (ap page_of (sym w.spelled) ∙ told w.page w.fits) ∙ w.is_number

-- records leave a page its number
replay-number : (floor : ℕ) (page : Page) (xs : List Rec) → (replay floor page xs).number ≡ page.number
replay-number floor page [] = refl
replay-number floor page (x ∷ xs) =
    replay-number floor (cond (ltb floor x.lsn) (redo page x) page) xs ∙ one (ltb floor x.lsn)
  where
    one : (b : Bool) → (cond b (redo page x) page).number ≡ page.number
    one true = refl
    one false = refl

pub newest-number : (img : Storage) (p : ℕ) → (newest img p).number ≡ (img.disk p).number
unfolding newest
newest-number img p = replay-number (img.disk p).lsn (img.disk p) (chain img p)

-- and raise its LSN
pub newest-rises : (img : Storage) (p : ℕ) → Sound img → (img.disk p).lsn ≤ (newest img p).lsn
unfolding newest
newest-rises img p sound =
    (replay_rises (img.disk p).lsn (img.disk p) (chain img p) (omega arith) (sound.pages p)).0

-- the LSN by which a slot that counts is compared is that of the page that it tells of; where none does it is 0
pub lsn-counted : (p : ℕ) (o : Option (List ℕ)) → IfSome o (λ b. WellFormed b p) → option_map_or number_of o 0 ≡ (page_in p o).lsn
lsn-counted p None well = refl
lsn-counted p (Some b) well = body-lsn p (Some b) well
