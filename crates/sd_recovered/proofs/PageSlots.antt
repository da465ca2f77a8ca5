-- Which slot of a page's twin counts, by the images that they hold. It serves the goals of twin.rt.
use Rattle.std.proofs.Common.{◌≡◌, ◌≢◌, ℕ, ◌+◌, ◌*◌, inl, inr, Bool, true, false, List, Option, None, Some, refl, sym, ap, ◌∙◌, subst, arith}
use Rattle.std.specs.Prelude.{unwrap_or}
use Rattle.sd_base.specs.Twin.{Slot, Neither, First, Second, Same, body_at, body_of, chosen_slot, is_open, slot_of}
use Rattle.sd_rig.specs.declared.slots.Chosen.{Chosen}
use Rattle.sd_rig.specs.declared.slots.Chosen.TheVariants as C
use Rattle.sd_rig.specs.Slots.{slot}
use Rattle.sd_page.specs.Page.{Page, empty_page}
use Rattle.sd_page.specs.Reading.{page_of}
use Rattle.sd_page.proofs.Told.{told}
use Rattle.sd_chain.specs.Bytes.{disk_page, page_in, twin_at}
use Rattle.sd_chain.specs.Checks.{IsPageSlot, TwinIsSound}
use Rattle.sd_chain.specs.Faults.{TwinFailsAt}
use Rattle.sd_recovered.specs.Twins.{IsOpenSlot, IsSlot, chosen_image}

-- a slot whose image is known is sound
pub slot_sound : (p gate : ℕ) (bytes : List ℕ) (slot : Option Page) → IsSlot p gate bytes slot → IsPageSlot p gate bytes
slot_sound p gate bytes None closed open_one = absurd (cc)
slot_sound p gate bytes (Some image) s open_one = record { page = image; fits = s.fits; is_number = s.number; spelled = s.body }

body_page : (p gate : ℕ) (bytes : List ℕ) (image : Page) → IsOpenSlot p gate bytes image → page_of (body_at 1024 gate bytes) ≡ image
body_page p gate bytes image s = sym (ap page_of s.body) ∙ told image s.fits

-- the one answer of two slots with one LSN
pub names_same : (c : Chosen) → slot c ≡ Same → c ≡ C.Same
names_same C.Neither e = absurd (cc)
names_same (C.First other) e = absurd (cc)
names_same (C.Second other) e = absurd (cc)
names_same C.Same e = refl

-- the slot that counts is open
first_open : (o1 o2 : Bool) (x y : ℕ) (other : Bool) → slot_of o1 o2 x y ≡ First other → o1 ≡ true
first_open true o2 x y other e = refl
first_open false true x y other e = absurd (cc)
first_open false false x y other e = absurd (cc)

second_open : (o1 o2 : Bool) (x y : ℕ) (other : Bool) → slot_of o1 o2 x y ≡ Second other → o2 ≡ true
second_open true true x y other e = refl
second_open true false x y other e = absurd (cc)
second_open false true x y other e = refl
second_open false false x y other e = absurd (cc)

open_page : (p gate : ℕ) (bytes : List ℕ) (slot : Option Page) → IsSlot p gate bytes slot → is_open gate bytes ≡ true
    → unwrap_or slot (empty_page p) ≡ page_of (body_at 1024 gate bytes)
open_page p gate bytes None closed open_one = absurd (cc)
open_page p gate bytes (Some image) s open_one = sym (body_page p gate bytes image s)

disk_with : (p : ℕ) (bytes : List ℕ) (s : Slot) → chosen_slot (twin_at p) 1024 bytes ≡ s
    → disk_page bytes p ≡ page_in p (body_of s (body_at 1024 (twin_at p) bytes) (body_at 1024 (twin_at p + 1024 + 1) bytes))
disk_with p bytes s e = ap (λ (t : Slot). page_in p (body_of t (body_at 1024 (twin_at p) bytes) (body_at 1024
    (twin_at p + 1024 + 1) bytes))) e

-- the image that counts, unless two slots have one LSN
counts : (p : ℕ) (bytes : List ℕ) (s : Slot) (first second : Option Page) → IsSlot p (twin_at p) bytes first
    → IsSlot p (twin_at p + 1024 + 1) bytes second → chosen_slot (twin_at p) 1024 bytes ≡ s → s ≢ Same
    → unwrap_or (chosen_image s first second) (empty_page p) ≡ disk_page bytes p
counts p bytes Neither first second f t is differ = sym (disk_with p bytes Neither is)
counts p bytes (First other) first second f t is differ =
    open_page p (twin_at p) bytes first f (first_open (is_open (twin_at p) bytes) (is_open (twin_at p + 1024 + 1) bytes) _ _ other is)
    ∙ sym (disk_with p bytes (First other) is)
counts p bytes (Second other) first second f t is differ =
    open_page p (twin_at p + 1024 + 1) bytes second t
    (second_open (is_open (twin_at p) bytes) (is_open (twin_at p + 1024 + 1) bytes) _ _ other is)
    ∙ sym (disk_with p bytes (Second other) is)
counts p bytes Same first second f t is differ = absurd (differ refl)

-- the same at the places that the code finds
module _ (p q : ℕ) (bytes : List ℕ) (e : q ≡ p) where
  here : 2050 * q ≡ twin_at p
  here = omega arith

  next : 2050 * q + 1025 ≡ twin_at p + 1025
  next = omega arith

  pub image_at : (s : Slot) (first second : Option Page) → IsSlot p (2050 * q) bytes first
      → IsSlot p (2050 * q + 1025) bytes second → s ≡ chosen_slot (2050 * q) 1024 bytes → (s ≡ Same → ⊥)
      → unwrap_or (chosen_image s first second) (empty_page p) ≡ disk_page bytes p
  image_at s first second f t is differ =
      let there : 2050 * q + 1025 ≡ twin_at p + 1024 + 1 = omega arith in
      counts p bytes s first second (subst (λ n. IsSlot p n bytes first) here f) (subst (λ n. IsSlot p n bytes second) there t)
      (subst (λ (n : ℕ). chosen_slot n 1024 bytes ≡ s) here (sym is)) differ

  pub sound_at : (first second : Option Page) → IsSlot p (2050 * q) bytes first → IsSlot p (2050 * q + 1025) bytes second
      → (chosen_slot (2050 * q) 1024 bytes ≡ Same → ⊥) → TwinIsSound p bytes
  sound_at first second s t differ = record {
    differ = subst (λ (n : ℕ). chosen_slot n 1024 bytes ≡ Same → ⊥) here differ;
    first = subst (λ n. IsPageSlot p n bytes) here (slot_sound p (2050 * q) bytes first s);
    second = subst (λ n. IsPageSlot p n bytes) next (slot_sound p (2050 * q + 1025) bytes second t);
  }

  pub first_fails : (IsPageSlot p (2050 * q) bytes → ⊥) → TwinFailsAt p bytes (2050 * q)
  first_fails bad = inl (inl (subst (λ (n : ℕ). IsPageSlot p n bytes → ⊥) here bad), here)

  pub same_fails : chosen_slot (2050 * q) 1024 bytes ≡ Same → TwinFailsAt p bytes (2050 * q)
  same_fails is = inl (inr (subst (λ (n : ℕ). chosen_slot n 1024 bytes ≡ Same) here is), here)

  pub second_fails : (first : Option Page) → IsSlot p (2050 * q) bytes first → (chosen_slot (2050 * q) 1024 bytes ≡ Same → ⊥)
      → (IsPageSlot p (2050 * q + 1025) bytes → ⊥) → TwinFailsAt p bytes (2050 * q + 1025)
  second_fails first s differ bad = inr (
    (λ fails. elim fails [
      | inl other ↦ other (subst (λ n. IsPageSlot p n bytes) here (slot_sound p (2050 * q) bytes first s))
      | inr same ↦ differ (subst (λ (n : ℕ). chosen_slot n 1024 bytes ≡ Same) (sym here) same)
    ]),
    subst (λ (n : ℕ). IsPageSlot p n bytes → ⊥) next bad,
    next,
  )

-- a twin that fails isn't sound
pub unsound_twin : (p : ℕ) (bytes : List ℕ) (at : ℕ) → TwinFailsAt p bytes at → TwinIsSound p bytes → ⊥
unsound_twin p bytes at (inl (first, is)) sound = elim first [ inl bad ↦ bad sound.first | inr same ↦ sound.differ same ]
unsound_twin p bytes at (inr (none, second, is)) sound = second sound.second
