-- The newest version of a page is put, or the put fails: what held of the complex holds of it then, and each image since then
-- stands. For the goals of `put_over`.
use Rattle.std.proofs.Common.{◌≡◌, ◌≢◌, inl, inr, ⊎_elim, ℕ, zero, suc, ◌+◌, ◌^◌, ◌<◌, ◌≤◌, Bool, true, false, List, [], ◌∷◌, ◌++◌, Option, None, Some, length, get_or, refl, sym, ap, ap₂, ◌∙◌, subst, arith, append-nil, slice_set, ◌||◌}
use Rattle.std.specs.Prelude.{IfSome}
use Rattle.std.proofs.lemmas.Bool.{cases_lt, le-leb}
use Rattle.std.proofs.lemmas.List.{get_or-set_other, get_or-set_same, length-set}
use Rattle.std.specs.List.{list_any}
use Rattle.sd_base.specs.Twin.{chosen_body, number_of}
use Rattle.sd_logrec.specs.View.{Rec}
use Rattle.sd_page.specs.Page.{Page, PageFits}
use Rattle.sd_page.specs.Spelling.{WellFormed, page_spelling}
use Rattle.sd_model.specs.State.{State}
use Rattle.sd_rig.specs.Devices as rig
use Rattle.sd_rig.specs.Devices.{LeavesOnly, LeavesSame}
use Rattle.sd_rig.specs.Puts.{Puts}
use Rattle.sd_chain.specs.Bytes.{disk_page, twin_at}
use Rattle.sd_chain.specs.Cuts.{cut}
use Rattle.sd_chain.specs.Checks.{TwinIsSound}
use Rattle.sd_chain.specs.Images.{IsSafe, Keeps, all_kept, or_written, with_disk}
use Rattle.sd_chain.specs.Records.{Each}
use Rattle.sd_chain.proofs.Lists.{Each-weaker}
use Rattle.sd_chain.proofs.Narrowed.{narrowed-gives}
use Rattle.sd_chain.specs.AppendedRecords as changes_law
use Rattle.sd_chain.specs.Coherent.{Coherent}
use Rattle.sd_chain.specs.Named.{version_of}
use Rattle.sd_chain.specs.Puts as puts_law
use Rattle.sd_chain.specs.World.{Base, newest_version}
use Rattle.sd_chain.proofs.Changes.{rest-keeps}
use Rattle.sd_chain.proofs.Checkpoints.{cover-puts}
use Rattle.sd_chain.proofs.Crashes.{put-gives}
use Rattle.sd_chain.proofs.Named.{may_be-named}
use Rattle.sd_chain.proofs.DiskPuts.{put-is_safe, same-lsn, try-keeps}
use Rattle.sd_chain.proofs.Versions
use Rattle.sd_chain.specs.ChecksKept.{HasLsnsAbove, IsPut}
use Rattle.sd_chain.specs.Logs.{Logs, Outcomes, base_at, may_of, owed_with, tail_at, tails_of}
use Rattle.sd_chain.specs.Soundly.{IsSoundly}
use Rattle.sd_chain.proofs.Lsns.{newest-has_lsns, newest-low}
use Rattle.sd_chain.proofs.Puts.{puts-disk, puts-twins}
use Rattle.sd_state.specs.Good.{Good, Half, IsKnownLsn, base_of, dir_of, reaches}
use Rattle.sd_state.specs.Images.{Stands, leaves_by, log_by}
use Rattle.sd_state.specs.Laws.{newest_of}
use Rattle.sd_state.specs.Parts.{Parts, is_loose, low_of}
use Rattle.sd_state.specs.Values.{Pending}
use Rattle.sd_state.proofs.LockReads.{named-well}
use Rattle.sd_state.proofs.Standing.{left-stands}
use Rattle.sd_moves.specs.Putting.{MayBePut}
use Rattle.sd_moves.proofs.PutDevice.{device-good, with_marks}
use Rattle.sd_moves.proofs.PutPages.{body-lsn, body-number, newest-number, newest-rises, number-spelled}

-- ---- records and LSNs

or-still : (a b : Bool) → b ≡ true → (a || b) ≡ true
or-still true b e = refl
or-still false b e = e

-- each record of a list is reached by one of it
reached-each : (xs : List Rec) → Each (λ x. list_any (reaches x.lsn) xs ≡ true) xs
reached-each [] = tt
reached-each (x ∷ xs) = (
  ap (λ (b : Bool). b || list_any (reaches x.lsn) xs) (le-leb x.lsn x.lsn (omega arith)),
  Each-weaker (λ y. list_any (reaches y.lsn) xs ≡ true) (λ y. list_any (reaches y.lsn) (x ∷ xs) ≡ true)
      (λ y there. or-still (reaches y.lsn x) (list_any (reaches y.lsn) xs) there) xs (reached-each xs),
)

some-mapped : {A : Type 0} (o : Option A) (P Q : A → Type 0) → ((x : A) → P x → Q x) → IfSome o P → IfSome o Q
some-mapped None P Q f h = tt
some-mapped (Some x) P Q f h = f x h

-- ---- the put

module _ (p : ℕ) (im : Page) (seen : rig.DeviceImages) (leaves : Outcomes) (pend : Pending) (c : Parts) (m : State)
    (g : Good seen leaves pend c m) (left : leaves 0 (seen 0)) (can : MayBePut p im seen leaves c) where
  module _ (moved : Keeps) where
    abbrev pub wide : Outcomes
    wide = leaves_by c moved leaves

    abbrev logs : Logs
    logs = log_by c moved

    abbrev pub base : Base (may_of wide)
    base = base_of seen wide logs c

    half : Half seen wide logs pend c m
    half = g.half moved

    pub is-now : im ≡ newest_version base p
    is-now = can.newest moved

    pub none : puts_law.NoneUnforced base p
    none = can.none moved

    -- so its newest version is the same whatever tails are kept
    version-same : (keeps : Keeps) → base.version keeps p ≡ newest_version base p
    version-same keeps = Versions.version-agree base.tails (may_of wide) base.version half.coherent.safe base.disk
        half.coherent.reads keeps all_kept p (λ j. inr (none j))

    -- there are LSNs above its own for all that is owed
    lsns-above : HasLsnsAbove im logs
    lsns-above keeps = subst (λ (x : Page). x.lsn + owed_with (tails_of logs) keeps < 2 ^ 62) (version-same keeps ∙ sym is-now)
        (newest-has_lsns wide logs base.version base.disk keeps p half.coherent.safe half.coherent.reads
        (ap₂ (λ (b t : List Rec). b ++ t) half.coherent.eight.0 half.coherent.eight.1) (half.soundly.lsns keeps))

  -- its LSN is known
  abbrev none_kept : Keeps
  none_kept j = false

  known-record : (moved : Keeps) (j : ℕ) → Each (λ x. IsKnownLsn c (log_by c moved) x.lsn) (base_at (log_by c moved j))
  known-record moved zero = subst (Each (λ x. IsKnownLsn c (log_by c moved) x.lsn)) (sym (half moved).coherent.eight.0) tt
  known-record moved (suc j) = ⊎_elim
      (λ low. Each-weaker (λ x. list_any (reaches x.lsn) (base_at (log_by c moved (suc j))) ≡ true)
      (λ x. IsKnownLsn c (log_by c moved) x.lsn)
      (λ x there. inr (suc j, omega arith, omega (arith, low), there)) (base_at (log_by c moved (suc j)))
      (reached-each (base_at (log_by c moved (suc j)))))
      (λ high. subst (Each (λ x. IsKnownLsn c (log_by c moved) x.lsn))
      (sym (front_none (base_at (log_by c moved (suc j))) (tail_at (log_by c moved (suc j)))
      ((half moved).coherent.safe.eight (suc j) high))) tt)
      (cases_lt (suc j) 9)
    where
      front_none : (xs ys : List Rec) → xs ++ ys ≡ [] → xs ≡ []
      front_none [] ys e = refl
      front_none (x ∷ xs) ys e = absurd (cc)

  lsn-known : (moved : Keeps) → IsKnownLsn c (log_by c moved) im.lsn
  lsn-known moved =
      let b = base moved in
      let h = (half moved).coherent in
      subst (λ (x : Page). IsKnownLsn c (log_by c moved) x.lsn)
      (h.safe.same b.disk h.reads none_kept p ∙ version-same moved none_kept ∙ sym (is-now moved))
      (newest-low (IsKnownLsn c (log_by c moved)) (cut none_kept (with_disk b.tails b.disk)) p
      (g.disk_lsns moved p (disk_page (seen 0) p) (seen 0, left, refl))
      (λ j. subst (Each (λ x. IsKnownLsn c (log_by c moved) x.lsn)) (sym (append-nil (base_at (log_by c moved j))))
      (known-record moved j)))

  -- what the bytes of its twin say
  sound-twin : p < 1024 → IfSome (chosen_body (twin_at p) 1024 (seen 0)) (λ body. WellFormed body p)
  sound-twin small = named-well p (twin_at p) (seen 0) (chosen_body (twin_at p) 1024 (seen 0))
      ((half none_kept).soundly.twins p small (seen 0) (left, tt)) refl refl

  pub im-number : p < 1024 → im.number ≡ p
  im-number small = ap (λ (x : Page). x.number) (is-now none_kept)
      ∙ newest-number (cut all_kept (with_disk (base none_kept).tails (base none_kept).disk)) p
      ∙ body-number p (chosen_body (twin_at p) 1024 (seen 0)) (sound-twin small)

  rises : (disk_page (seen 0) p).lsn ≤ im.lsn
  rises = subst (λ (x : Page). (disk_page (seen 0) p).lsn ≤ x.lsn) (sym (is-now none_kept))
      (newest-rises (cut all_kept (with_disk (base none_kept).tails (base none_kept).disk)) p
      ((half none_kept).coherent.safe.sound (base none_kept).disk (half none_kept).coherent.reads all_kept))

  -- an image of another LSN than the slot that counts has a greater one
  pub im-greater : p < 1024 → PageFits im → (disk_page (seen 0) p).lsn ≢ im.lsn
      → IfSome (chosen_body (twin_at p) 1024 (seen 0)) (λ b. number_of b < number_of (page_spelling im))
  im-greater small fits differs = some-mapped (chosen_body (twin_at p) 1024 (seen 0))
      (λ b. number_of b ≡ (disk_page (seen 0) p).lsn) (λ b. number_of b < number_of (page_spelling im))
      (λ b is. let e = number-spelled im fits in let r = rises in omega (arith, is, e, r, differs))
      (body-lsn p (chosen_body (twin_at p) 1024 (seen 0)) (sound-twin small))

  -- one of the same LSN is there, and is the newest version
  pub im-there : (disk_page (seen 0) p).lsn ≡ im.lsn → disk_page (seen 0) p ≡ im
  im-there same = sym (is-now none_kept ∙ same-lsn (may_of (wide none_kept)) (base none_kept) (dir_of c) p
      (half none_kept).coherent (ap (λ (x : Page). x.lsn) (sym (is-now none_kept)) ∙ sym same))

  pub im-newest : im ≡ newest_of seen leaves c p
  im-newest = is-now none_kept

  -- ---- once it is put, or the put failed

  module _ (small : p < 1024) (fits : PageFits im) (marks : List Bool) (seen' : rig.DeviceImages) (leaves' : Outcomes)
      (size : length marks ≡ 9) (kept : (d : ℕ) → d ≢ 0 → get_or marks d true ≡ is_loose c d)
      (others : (d : ℕ) → d ≢ 0 → seen' d ≡ seen d) (others_leave : (d : ℕ) → d ≢ 0 → LeavesSame (leaves d) (leaves' d))
      (reads : leaves' 0 (seen' 0)) (only : get_or marks 0 true ≡ false → LeavesOnly (seen' 0) (leaves' 0))
      (puts : (bytes : List ℕ) → leaves' 0 bytes → IsPut 0 (twin_at p) 1024 (page_spelling im) seen leaves bytes) where
    abbrev put_parts : Parts
    put_parts = with_marks marks c.directory c

    module _ (moved : Keeps) where
      abbrev narrow : Outcomes
      narrow = leaves_by c moved leaves'

      less : (j : ℕ) → 1 ≤ j → (bytes : List ℕ) → narrow j bytes → wide moved j bytes
      less j low bytes l = ((others_leave j (λ e. omega (arith, low, e)) bytes).0 l.0, l.1)

      or-put : (q : ℕ) (x : Page) → may_of narrow q x → or_written (may_of (wide moved)) p (newest_version (base moved) p) q x
      or-put q x may =
          let w = puts may.0 may.1.0 in
          let is : disk_page (w.0 0) q ≡ x = ap (λ (b : List ℕ). disk_page b q) w.1 ∙ may.2 in
          ⊎_elim
          (λ old. inl (old.0, (old.1, tt), old.2 ∙ is))
          (λ new. inr (new.0, sym is ∙ new.1 ∙ is-now moved))
          (puts-disk p q im seen leaves w.0 fits left w.2)

      device : puts_law.Puts p (base moved) (may_of narrow) (disk_page (seen' 0)) (get_or marks 0 true)
      device = record {
        leaves = or-put;
        left = record {
          reads = λ q. (seen' 0, (reads, tt), refl);
          still = λ e q x may. sym may.2 ∙ ap (λ (b : List ℕ). disk_page b q) ((only e may.0).0 may.1.0);
        };
      }

      safe : IsSafe (base moved).tails (may_of narrow) (base moved).version
      safe = put-is_safe (may_of (wide moved)) (may_of narrow) p (base moved) (dir_of c) (disk_page (seen' 0))
          (get_or marks 0 true)
          (half moved).coherent (none moved) device

      -- whatever tails are kept, the newest versions are what they were
      pub put-versions : (keeps : Keeps) (q : ℕ)
          → version_of (tails_of (logs moved)) (disk_page (seen' 0)) keeps q
          ≡ version_of (tails_of (logs moved)) (disk_page (seen 0)) keeps q
      put-versions keeps q = safe.same (disk_page (seen' 0)) device.left.reads keeps q

      abbrev tried : Base (may_of narrow)
      tried = puts_law.with_device (may_of narrow) (base moved) (disk_page (seen' 0)) (get_or marks 0 true) (base moved).rec_lsn

      rests : changes_law.Rests tried (base_of seen' narrow (logs moved) put_parts)
      rests = record {
        bases = λ j. refl;
        tails = λ j. refl;
        version = put-versions;
        safe = (may_be-named (may_of narrow) (may_of narrow) (base moved).tails (base moved).version (disk_page (seen' 0)) safe
            (λ q x may. may) device.left.reads).safe;
        reads = device.left.reads;
        rec_lsn = λ q. refl;
        stays = record {
          less = λ q x may. may;
          disk = λ q. refl;
          loose = λ j low. kept j (λ e. omega (arith, low, e));
          loose_disk = refl;
          active = λ j. refl;
          up = λ j. refl;
          due = refl;
        };
      }

      coherent-there : Coherent (base_of seen' narrow (logs moved) put_parts) (dir_of put_parts)
      coherent-there = rest-keeps (may_of narrow) (may_of narrow) tried (base_of seen' narrow (logs moved) put_parts) (dir_of c)
          (try-keeps (may_of (wide moved)) (may_of narrow) p (base moved) (dir_of c) (disk_page (seen' 0)) (get_or marks 0 true)
          (half moved).coherent (none moved) device can.changed) rests

      soundly-there : IsSoundly narrow (logs moved)
      soundly-there = record {
        ready = λ j lo hi bytes l. (half moved).soundly.ready j lo hi bytes (less j lo bytes l);
        twins = λ q lt bytes l. let w = puts bytes l.0 in
            subst (TwinIsSound q) w.1 (puts-twins p q im seen leaves w.0 fits (im-number small)
            ((half moved).soundly.twins q lt (seen 0) (left, tt)) w.2);
        lsns = λ keeps. record {
          logs = ((half moved).soundly.lsns keeps).logs;
          pages = λ q x may. ⊎_elim
              (λ old. ((half moved).soundly.lsns keeps).pages q x old)
              (λ new. subst (λ (y : Page). y.lsn + owed_with (tails_of (logs moved)) keeps < 2 ^ 62)
              (is-now moved ∙ sym new.1) (lsns-above moved keeps))
              (or-put q x may);
        };
      }

      half-there : Half seen' narrow (logs moved) pend put_parts m
      half-there = record {
        coherent = coherent-there;
        soundly = soundly-there;
        gives = narrowed-gives (or_written (may_of (wide moved)) p (newest_version (base moved) p)) (may_of narrow) or-put
            (base moved).tails _
            (put-gives (may_of (wide moved)) p (base moved) (dir_of c) _ (half moved).coherent (none moved) (half moved).gives);
        claimed = (half moved).claimed;
        held = (half moved).held;
        epochs = λ j lo hi bytes l. (half moved).epochs j lo hi bytes (less j lo bytes l);
        checks = λ k b is. let old = (half moved).checks k b is in (
          cover-puts (may_of (wide moved)) (may_of narrow) (low_of b) k p (base moved) (base_of seen' narrow (logs moved) put_parts)
              (dir_of c) (half moved).coherent or-put refl old.0,
          old.1,
        );
      }

    known-there : (moved : Keeps) (q : ℕ) (x : Page) → may_of leaves' q x → IsKnownLsn c (log_by c moved) x.lsn
    known-there moved q x may = ⊎_elim
        (λ old. g.disk_lsns moved q x (old.0, old.1.0, old.2))
        (λ new. subst (λ (y : Page). IsKnownLsn c (log_by c moved) y.lsn) (is-now none_kept ∙ sym new.1) (lsn-known moved))
        (or-put none_kept q x (may.0, (may.1, tt), may.2))

    pub put-good : Good seen' leaves' pend put_parts m
    put-good = device-good marks c.directory seen seen' leaves leaves' pend c m g size kept others others_leave half-there only
        known-there g.asks

  -- ---- while it is put

  module _ (small : p < 1024) (fits : PageFits im) (img : rig.DeviceImages) (f : Puts 0 (twin_at p) 1024 (page_spelling im) seen leaves img) where
    -- as if device 0 were left so
    abbrev seen_then : rig.DeviceImages
    seen_then zero = img 0
    seen_then (suc d) = seen (suc d)

    abbrev leaves_then : Outcomes
    leaves_then zero bytes = bytes ≡ img 0
    leaves_then (suc d) bytes = leaves (suc d) bytes

    abbrev marks_then : List Bool
    marks_then = slice_set c.loose 0 true

    others_then : (d : ℕ) → d ≢ 0 → seen_then d ≡ seen d
    others_then zero ne = absurd (ne refl)
    others_then (suc d) ne = refl

    leave_then : (d : ℕ) → d ≢ 0 → LeavesSame (leaves d) (leaves_then d)
    leave_then zero ne bytes = absurd (ne refl)
    leave_then (suc d) ne bytes = (λ l. l, λ l. l)

    left_then : rig.Leaves leaves_then img
    left_then zero le = refl
    left_then (suc d) le = f.others (suc d) le (λ e. omega (arith, e))

    loose_then : get_or marks_then 0 true ≡ true
    loose_then = get_or-set_same c.loose 0 true true (omega (arith, g.shape.loose))

    good_then : Good seen_then leaves_then pend (with_marks marks_then c.directory c) m
    good_then = put-good small fits marks_then seen_then leaves_then (length-set c.loose 0 true ∙ g.shape.loose)
        (λ d ne. get_or-set_other c.loose 0 d true true ne) others_then leave_then refl
        (λ e. let clash = sym loose_then ∙ e in absurd (cc)) (λ bytes is. (img, sym is, f))

    pub put-stands : Stands m pend img
    put-stands = left-stands leaves_then seen_then img pend (with_marks marks_then c.directory c) m good_then left_then
