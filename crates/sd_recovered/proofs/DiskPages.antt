-- What sound twins hold: values within their capacities. It serves the goals of reading.rt.
use Rattle.std.proofs.Common.{◌≡◌, ⊎_elim, ℕ, zero, suc, ◌+◌, ◌<◌, ◌≤◌, true, false, Bool, nat_lt, List, [], ◌∷◌, length, refl, sym, ap, ◌∙◌, subst, arith}
use Rattle.std.specs.Prelude.{◌==◌, if◌then◌else◌}
use Rattle.std.specs.List.{AllByRecursion}
use Rattle.std.proofs.lemmas.Bool.{cases_lt}
use Rattle.std.proofs.lemmas.List.{get_or_past}
use Rattle.sd_base.specs.Twin.{First, Second, Same, body_at, body_of, is_open, number_of, slot_of}
use Rattle.sd_page.specs.Page as page
use Rattle.sd_base.specs.Values.{size}
use Rattle.sd_page.specs.Page.{Page, PageFits, SlotFits}
use Rattle.sd_page.specs.Reading.{page_of}
use Rattle.sd_page.specs.Spelling.{WellFormed}
use Rattle.sd_page.proofs.Told.{told}
use Rattle.sd_chain.specs.Bytes.{disk_page, page_in, twin_at}
use Rattle.sd_chain.specs.Checks.{IsPageSlot, TwinIsSound}
use Rattle.sd_chain.specs.Pages.{capacity, value}

-- each value is within its capacity
abbrev pub AreWithin : Page → Type 0
AreWithin page = (s : ℕ) → size (value page.slots s) ≤ capacity page.slots s

slots_within : (slots : List page.Slot) → AllByRecursion SlotFits slots → (s : ℕ) → size (value slots s) ≤ capacity slots s
slots_within [] fit s = omega arith
slots_within (x ∷ xs) fit zero = fit.0.value
slots_within (x ∷ xs) fit (suc s) = slots_within xs fit.1 s

within_body : (p : ℕ) (body : List ℕ) → WellFormed body p → AreWithin (page_of body)
within_body p body w =
    let same : w.page ≡ page_of body = sym (told w.page w.fits) ∙ ap page_of w.spelled in
    subst AreWithin same (slots_within w.page.slots w.fits.slots)

newer_within : (p : ℕ) (a b : Bool) (first second : List ℕ) → WellFormed first p → WellFormed second p
    → AreWithin (page_in p (body_of (if a then Second true else if b then First true else Same) first second))
newer_within p true b first second f s = within_body p second s
newer_within p false true first second f s = within_body p first f
newer_within p false false first second f s = λ k. omega arith

slot_within : (p : ℕ) (a b : Bool) (m n : ℕ) (first second : List ℕ) → (a ≡ true → WellFormed first p) → (b ≡ true → WellFormed second p)
    → AreWithin (page_in p (body_of (slot_of a b m n) first second))
slot_within p true true m n first second f s = newer_within p (nat_lt m n) (nat_lt n m) first second (f refl) (s refl)
slot_within p true false m n first second f s = within_body p first (f refl)
slot_within p false true m n first second f s = within_body p second (s refl)
slot_within p false false m n first second f s = λ k. omega arith

both_within : (p : ℕ) (bytes : List ℕ) → IsPageSlot p (twin_at p) bytes → IsPageSlot p (twin_at p + 1025) bytes
    → AreWithin (disk_page bytes p)
both_within p bytes f s =
    let at = twin_at p in
    let e : at + 1025 ≡ at + 1024 + 1 = omega arith in
    slot_within p (is_open at bytes) (is_open (at + 1024 + 1) bytes) (number_of (body_at 1024 at bytes)) (number_of (body_at 1024 (at + 1024 + 1) bytes))
    (body_at 1024 at bytes) (body_at 1024 (at + 1024 + 1) bytes) f (subst (λ (n : ℕ). IsPageSlot p n bytes) e s)

shut : (gate : ℕ) (bytes : List ℕ) → length bytes ≤ gate → is_open gate bytes ≡ true → ⊥
shut gate bytes le is =
    let none : is_open gate bytes ≡ false = ap (λ (n : ℕ). n == 165) (get_or_past bytes gate 0 le) in
    absurd (cc)

pub disk_within : (bytes : List ℕ) → length bytes ≡ 2099200 → ((p : ℕ) → p < 1024 → TwinIsSound p bytes) → (p : ℕ) → AreWithin (disk_page bytes p)
disk_within bytes size sound p =
    ⊎_elim
    (λ lt. both_within p bytes (sound p lt).first (sound p lt).second)
    (λ le. both_within p bytes
    (λ is. absurd (shut (twin_at p) bytes (omega (arith, size, le)) is))
    (λ is. absurd (shut (twin_at p + 1025) bytes (omega (arith, size, le)) is)))
    (cases_lt p 1024)
