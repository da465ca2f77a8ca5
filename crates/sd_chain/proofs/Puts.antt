-- A put of a page, Ok or failed, keeps the checks in each image: for the law `put_page`.
use Rattle.std.proofs.Common.{◌≡◌, inl, inr, ⊎_elim, ℕ, ◌+◌, ◌^◌, ◌<◌, ◌≤◌, Bool, List, [], take, drop, refl, sym, ap, ◌∙◌, subst, arith}
use Rattle.std.proofs.lemmas.Bool.{cases_eq, cases_lt}
use Rattle.sd_base.specs.Twin.{body_at, chosen_slot, is_open, number_of, slot_of}
use Rattle.sd_page.specs.Page.{Page, PageFits}
use Rattle.sd_page.specs.Spelling.{WellFormed, page_spelling}
use Rattle.sd_page.proofs.Told.{told}
use Rattle.sd_rig.specs.Devices.{AgreesOutside, LeavesOnly}
use Rattle.sd_rig.specs.Devices as rig
use Rattle.sd_rig.specs.Puts.{IsFrom, Puts}
use Rattle.sd_chain.specs.Bytes.{disk_page, page_in, twin_at}
use Rattle.sd_chain.specs.Checks.{DevicesAreSound, IsPageSlot, TwinIsSound}
use Rattle.sd_chain.specs.Images.{IsSafe, Keeps, or_written}
use Rattle.sd_chain.proofs.Devices.{chosen_same, part_before, part_behind}
use Rattle.sd_chain.specs.Logs.{LessElsewhere, Logs, Outcomes, base_at, may_of, owed_with, tails_of}
use Rattle.sd_chain.specs.Soundly.{IsSoundly, LsnsFit}
use Rattle.sd_chain.specs.ChecksKept.{HasLsnsAbove, IsPut, PutKeeps}
use Rattle.sd_chain.proofs.ChecksPass.{ready-sound}
use Rattle.sd_base.proofs.Twins.{open_within, body_within}

-- both slots hang on the bytes of the twin
part_slot : (at gate : ℕ) (old new : List ℕ) → gate + 1025 ≤ 2050 → take 2050 (drop at new) ≡ take 2050 (drop at old)
    → (is_open (at + gate) new ≡ is_open (at + gate) old) × (body_at 1024 (at + gate) new ≡ body_at 1024 (at + gate) old)
part_slot at gate old new le same = (
  sym (open_within at 2050 gate new (omega (arith, le))) ∙ ap (is_open gate) same
      ∙ open_within at 2050 gate old (omega (arith, le)),
  sym (body_within at 2050 gate 1024 new (omega (arith, le))) ∙ ap (body_at 1024 gate) same
      ∙ body_within at 2050 gate 1024 old (omega (arith, le)),
)

twin_same : (p : ℕ) (old new : List ℕ) → take 2050 (drop (twin_at p) new) ≡ take 2050 (drop (twin_at p) old)
    → TwinIsSound p old → TwinIsSound p new
twin_same p old new same s =
    let none : twin_at p + 0 ≡ twin_at p = omega arith in
    let more : twin_at p + 1025 ≡ twin_at p + 1024 + 1 = omega arith in
    let one = subst (λ g. (is_open g new ≡ is_open g old) × (body_at 1024 g new ≡ body_at 1024 g old)) none
    (part_slot (twin_at p) 0 old new (omega arith) same) in
    let two = part_slot (twin_at p) 1025 old new (omega arith) same in
    let two' = subst (λ g. (is_open g new ≡ is_open g old) × (body_at 1024 g new ≡ body_at 1024 g old)) more two in
    record {
      differ = λ e. s.differ (sym (slots one two') ∙ e);
      first = λ shown. subst (λ b. WellFormed b p) (sym one.1) (s.first (sym one.0 ∙ shown));
      second = λ shown. subst (λ b. WellFormed b p) (sym two.1) (s.second (sym two.0 ∙ shown));
    }
  where
    slots : (is_open (twin_at p) new ≡ is_open (twin_at p) old)
        × (body_at 1024 (twin_at p) new ≡ body_at 1024 (twin_at p) old)
        → (is_open (twin_at p + 1024 + 1) new ≡ is_open (twin_at p + 1024 + 1) old)
        × (body_at 1024 (twin_at p + 1024 + 1) new ≡ body_at 1024 (twin_at p + 1024 + 1) old)
        → chosen_slot (twin_at p) 1024 new ≡ chosen_slot (twin_at p) 1024 old
    slots one two =
        ap (λ (b : Bool). slot_of b (is_open (twin_at p + 1024 + 1) new) (number_of (body_at 1024 (twin_at p) new))
        (number_of (body_at 1024 (twin_at p + 1024 + 1) new))) one.0
        ∙ ap (λ (b : Bool). slot_of (is_open (twin_at p) old) b (number_of (body_at 1024 (twin_at p) new))
        (number_of (body_at 1024 (twin_at p + 1024 + 1) new))) two.0
        ∙ ap (λ (b : List ℕ). slot_of (is_open (twin_at p) old) (is_open (twin_at p + 1024 + 1) old) (number_of b)
        (number_of (body_at 1024 (twin_at p + 1024 + 1) new))) one.1
        ∙ ap (λ (b : List ℕ). slot_of (is_open (twin_at p) old) (is_open (twin_at p + 1024 + 1) old)
        (number_of (body_at 1024 (twin_at p) old)) (number_of b)) two.1

-- each twin in an image that a put of page p may leave
pub puts-twins : (p q : ℕ) (im : Page) (seen : rig.DeviceImages) (leaves : Outcomes) (img : rig.DeviceImages) → PageFits im → im.number ≡ p
    → TwinIsSound q (seen 0) → Puts 0 (twin_at p) 1024 (page_spelling im) seen leaves img → TwinIsSound q (img 0)
puts-twins p q im seen leaves img fits number was f = ⊎_elim
    (λ e. subst (λ (k : ℕ). TwinIsSound k (img 0)) (sym e) (written (subst (λ (k : ℕ). TwinIsSound k (seen 0)) e was)))
    (λ ne. twin_same q (seen 0) (img 0) (⊎_elim
    (λ lt. part_before (twin_at p) 2050 (twin_at q) 2050 (seen 0) (img 0) f.outside (omega (arith, lt)))
    (λ ge. part_behind (twin_at p) 2050 (twin_at q) 2050 (seen 0) (img 0) f.outside (omega (arith, ge, ne)))
    (cases_lt q p)) was)
    (cases_eq q p)
  where
    well : WellFormed (page_spelling im) p
    well = record { page = im; fits = fits; is_number = number; spelled = refl }

    of_slot : (gate : ℕ) → IsPageSlot p gate (seen 0) → IsFrom gate 1024 (page_spelling im) (seen 0) (img 0)
        → IsPageSlot p gate (img 0)
    of_slot gate old from shown = ⊎_elim
        (λ same. subst (λ b. WellFormed b p) (sym same.1) (old same.0))
        (λ new. subst (λ b. WellFormed b p) (sym new) well)
        (from shown)

    written : TwinIsSound p (seen 0) → TwinIsSound p (img 0)
    written old =
        let more : twin_at p + 1024 + 1 ≡ twin_at p + 1025 = omega arith in
        record {
          differ = f.differ;
          first = of_slot (twin_at p) old.first f.first;
          second = of_slot (twin_at p + 1025) old.second
              (subst (λ g. IsFrom g 1024 (page_spelling im) (seen 0) (img 0)) more f.second);
        }

-- what disk image of page q an image that a put of page p may leave has
pub puts-disk : (p q : ℕ) (im : Page) (seen : rig.DeviceImages) (leaves : Outcomes) (img : rig.DeviceImages) → PageFits im → leaves 0 (seen 0)
    → Puts 0 (twin_at p) 1024 (page_spelling im) seen leaves img → or_written (may_of leaves) p im q (disk_page (img 0) q)
puts-disk p q im seen leaves img fits left f = ⊎_elim
    (λ e. subst (λ (k : ℕ). or_written (may_of leaves) p im k (disk_page (img 0) k)) (sym e)
    (⊎_elim
    (λ old. inl (seen 0, left, sym (ap (page_in p) old)))
    (λ new. inr (refl, ap (page_in p) new ∙ told im fits))
    f.whole))
    (λ ne. inl (
      seen 0,
      left,
      sym (ap (page_in q) (chosen_same (twin_at q) 1024 (seen 0) (img 0) (⊎_elim
          (λ lt. part_before (twin_at p) 2050 (twin_at q) 2050 (seen 0) (img 0) f.outside (omega (arith, lt)))
          (λ ge. part_behind (twin_at p) 2050 (twin_at q) 2050 (seen 0) (img 0) f.outside (omega (arith, ge, ne)))
          (cases_lt q p)))),
    ))
    (cases_eq q p)

module _ (leaves : Outcomes) (p : ℕ) (im : Page) (logs : Logs) (seen : rig.DeviceImages) (fits : PageFits im) (number : im.number ≡ p)
    (below : HasLsnsAbove im logs) (left : leaves 0 (seen 0)) (s : IsSoundly leaves logs) where
  written-lsns : (may' : ℕ → Page → Type 0) → ((q : ℕ) (x : Page) → may' q x → or_written (may_of leaves) p im q x)
      → (keeps : Keeps) → LsnsFit (tails_of logs) may' keeps
  written-lsns may' less keeps = record {
    logs = (s.lsns keeps).logs;
    pages = λ q x m. ⊎_elim
        (λ old. (s.lsns keeps).pages q x old)
        (λ new. subst (λ (y : Page). y.lsn + owed_with (tails_of logs) keeps < 2 ^ 62) (sym new.1) (below keeps))
        (less q x m);
  }

  -- an image that the put may leave passes all seven checks
  pub put-left : (version : Keeps → ℕ → Page) → IsSafe (tails_of logs) (or_written (may_of leaves) p im) version
      → base_at (logs 0) ≡ []
      → (img : rig.DeviceImages) → Puts 0 (twin_at p) 1024 (page_spelling im) seen leaves img → DevicesAreSound img
  put-left version safe none img f = ready-sound logs (or_written (may_of leaves) p im) img version safe none
      (λ j lo hi. s.ready j lo hi (img j) (f.others j hi (λ e. omega (arith, lo, e))))
      (λ q lt. puts-twins p q im seen leaves img fits number (s.twins q lt (seen 0) left) f)
      (λ q. puts-disk p q im seen leaves img fits left f)
      (written-lsns (or_written (may_of leaves) p im) (λ q x m. m))

  -- After the put, Ok or failed: each outcome of the data device is one that the put may leave, and the logs' may be less.
  put-keeps_of : (leaves' : Outcomes) → LessElsewhere 0 leaves leaves'
      → ((bytes : List ℕ) → leaves' 0 bytes → IsPut 0 (twin_at p) 1024 (page_spelling im) seen leaves bytes)
      → IsSoundly leaves' logs
  put-keeps_of leaves' less may = record {
    ready = λ j lo hi bytes l. s.ready j lo hi bytes (less j (λ e. omega (arith, lo, e)) bytes l);
    twins = λ q lt bytes l. let m = may bytes l in
        subst (TwinIsSound q) m.1 (puts-twins p q im seen leaves m.0 fits number (s.twins q lt (seen 0) left) m.2);
    lsns = written-lsns (may_of leaves') (λ q x m. let w = may m.0 m.1 in
        subst (or_written (may_of leaves) p im q) (ap (λ (b : List ℕ). disk_page b q) w.1 ∙ m.2)
        (puts-disk p q im seen leaves w.0 fits left w.2));
  }

-- the law, whatever may be left of the other devices
pub put-keeps : (leaves leaves' : Outcomes) → PutKeeps leaves leaves'
put-keeps leaves leaves' p page logs seen fits number below left s less may =
    put-keeps_of leaves p page logs seen fits number below left s leaves' less may
