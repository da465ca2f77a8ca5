-- A device place by place. It serves the goals of disk.rt, and the lemmas on what a crash may leave.
use Rattle.std.proofs.Common.{◌≡◌, ◌⊎◌, ⊎_elim, inl, inr, ℕ, ◌+◌, ◌-◌, ◌<◌, ◌≤◌, Bool, true, false, List, ◌++◌, length, take, drop, get_or, refl, sym, ap, ◌∙◌, arith, length-append, length-take-le, length-drop}
use Rattle.std.proofs.lemmas.List.{get_or-replicate, get_or_past, get_or-take, get_or-drop, get_or_append_left, get_or-append_right, drop-replicate, take-replicate}
use Rattle.std.proofs.lemmas.Bool.{cases_lt, true≢false}
use Rattle.sd_base.specs.declared.trouble.Pick.{Pick}
use Rattle.sd_rig.specs.Devices.{AreBytes, overwritten}
use Rattle.sd_rig.proofs.Bytes.{bytes-copies, bytes-middle}
use Rattle.sd_rig.specs.Disk.{DiskState, IsSound, blank, copies, length-copies, copies-is, marked, written, left_at}

pub get_or-copies : {X : Type 0} (n i : ℕ) (x d : X) → i < n → get_or (copies n x) i d ≡ x
get_or-copies n i x d h = ap (λ xs. get_or xs i d) (copies-is n x) ∙ get_or-replicate n i x d h

pub get_or-copies_any : {X : Type 0} (n i : ℕ) (x : X) → get_or (copies n x) i x ≡ x
get_or-copies_any n i x = ⊎_elim (λ h. get_or-copies n i x x h) (λ h. get_or_past (copies n x) i x (omega (arith, length-copies n x))) (cases_lt i n)

-- a place before, in, or behind what was put in the middle
pub get_or-before : {X : Type 0} (at i : ℕ) (xs old : List X) (d : X) → at ≤ length old → i < at → get_or (take at old ++ xs ++ drop (at + length xs) old) i d ≡ get_or old i d
get_or-before at i xs old d h lt =
    let front = length-take-le at old h in
    get_or_append_left (take at old ++ xs) (drop (at + length xs) old) d i (omega (arith, length-append (take at old) xs)) ∙ get_or_append_left (take at old) xs d i (omega arith) ∙ get_or-take at old i d lt

pub get_or-inside : {X : Type 0} (at i : ℕ) (xs old : List X) (d : X) → at ≤ length old → at ≤ i → i < at + length xs → get_or (take at old ++ xs ++ drop (at + length xs) old) i d ≡ get_or xs (i - at) d
get_or-inside at i xs old d h le lt =
    let front = length-take-le at old h in
    get_or_append_left (take at old ++ xs) (drop (at + length xs) old) d i (omega (arith, length-append (take at old) xs)) ∙ get_or-append_right (take at old) xs at i d front le

pub get_or-behind : {X : Type 0} (at i : ℕ) (xs old : List X) (d : X) → at + length xs ≤ length old → at + length xs ≤ i → get_or (take at old ++ xs ++ drop (at + length xs) old) i d ≡ get_or old i d
get_or-behind at i xs old d h le =
    let front = length-take-le at old (omega arith) in
    let place : at + length xs + (i - (at + length xs)) ≡ i = omega arith in
    get_or-append_right (take at old ++ xs) (drop (at + length xs) old) (at + length xs) i d (omega (arith, length-append (take at old) xs)) le ∙ get_or-drop (at + length xs) old (i - (at + length xs)) d ∙ ap (λ j. get_or old j d) place

pub length-middle : {X : Type 0} (at : ℕ) (xs old : List X) → at + length xs ≤ length old → length (take at old ++ xs ++ drop (at + length xs) old) ≡ length old
length-middle at xs old h =
    omega (arith, length-append (take at old ++ xs) (drop (at + length xs) old), length-append (take at old) xs, length-take-le at old (omega arith), length-drop (at + length xs) old)

-- what a crash leaves at a place where nothing is pending
pub left_at-settled : (pick : Pick) (k : DiskState) (i : ℕ) → IsSound k → get_or k.pending i false ≡ false → left_at pick k i ≡ get_or k.seen i 0
left_at-settled pick k i sound h = rw h (sym (sound.same i h))

-- a mark before, in, or behind a marked range
pub marked-before : (at n i : ℕ) (marks : List Bool) → at + n ≤ length marks → i < at → get_or (marked at n marks) i false ≡ get_or marks i false
marked-before at n i marks h lt =
    let len = length-copies n true in
    let shown : get_or (take at marks ++ copies n true ++ drop (at + length (copies n true)) marks) i false ≡ get_or marks i false = get_or-before at i (copies n true) marks false (omega arith) lt in
    ap (λ m. get_or (take at marks ++ copies n true ++ drop (at + m) marks) i false) (sym len) ∙ shown

pub marked-inside : (at n i : ℕ) (marks : List Bool) → at + n ≤ length marks → at ≤ i → i < at + n → get_or (marked at n marks) i false ≡ true
marked-inside at n i marks h le lt =
    let len = length-copies n true in
    let shown : get_or (take at marks ++ copies n true ++ drop (at + length (copies n true)) marks) i false ≡ get_or (copies n true) (i - at) false = get_or-inside at i (copies n true) marks false (omega arith) le (omega arith) in
    ap (λ m. get_or (take at marks ++ copies n true ++ drop (at + m) marks) i false) (sym len) ∙ shown ∙ get_or-copies n (i - at) true false (omega arith)

pub marked-behind : (at n i : ℕ) (marks : List Bool) → at + n ≤ length marks → at + n ≤ i → get_or (marked at n marks) i false ≡ get_or marks i false
marked-behind at n i marks h le =
    let len = length-copies n true in
    let shown : get_or (take at marks ++ copies n true ++ drop (at + length (copies n true)) marks) i false ≡ get_or marks i false = get_or-behind at i (copies n true) marks false (omega arith) (omega arith) in
    ap (λ m. get_or (take at marks ++ copies n true ++ drop (at + m) marks) i false) (sym len) ∙ shown

pub length-marked : (at n : ℕ) (marks : List Bool) → at + n ≤ length marks → length (marked at n marks) ≡ length marks
length-marked at n marks h =
    let len = length-copies n true in
    let shown : length (take at marks ++ copies n true ++ drop (at + length (copies n true)) marks) ≡ length marks = length-middle at (copies n true) marks (omega arith) in
    ap (λ m. length (take at marks ++ copies n true ++ drop (at + m) marks)) (sym len) ∙ shown

-- what isn't pending after a write wasn't before, and is outside the range
pub outside_marks : (at n i : ℕ) (marks : List Bool) → at + n ≤ length marks → get_or (marked at n marks) i false ≡ false → ((i < at) ⊎ (at + n ≤ i)) × (get_or marks i false ≡ false)
outside_marks at n i marks h none = ⊎_elim
    (λ lt. (inl lt, sym (marked-before at n i marks h lt) ∙ none))
    (λ ge. ⊎_elim
    (λ lt. absurd (true≢false (sym (marked-inside at n i marks h ge lt) ∙ none)))
    (λ le. (inr le, sym (marked-behind at n i marks h le) ∙ none))
    (cases_lt i (at + n)))
    (cases_lt i at)

pub get_or-overwritten : (at i : ℕ) (bytes old : List ℕ) → at + length bytes ≤ length old → (i < at) ⊎ (at + length bytes ≤ i) → get_or (overwritten at bytes old) i 0 ≡ get_or old i 0
get_or-overwritten at i bytes old h = ⊎_elim
    (λ lt. get_or-before at i bytes old 0 (omega arith) lt)
    (λ le. get_or-behind at i bytes old 0 h le)

pub written-sound : (at : ℕ) (bytes : List ℕ) (k : DiskState) → at + length bytes ≤ length k.seen → AreBytes bytes → IsSound k → IsSound (written at bytes k)
written-sound at bytes k h are sound =
    let fits : at + length bytes ≤ length k.pending = omega (arith, sound.pending_len) in
    let size : length (overwritten at bytes k.seen) ≡ length k.seen = length-middle at bytes k.seen h in
    record {
      synced_len = sound.synced_len ∙ sym size;
      pending_len = length-marked at (length bytes) k.pending fits ∙ sound.pending_len ∙ sym size;
      same = λ i none. let where_is = outside_marks at (length bytes) i k.pending fits none in get_or-overwritten at i bytes k.seen h where_is.0 ∙ sound.same i where_is.1;
      seen_bytes = bytes-middle at (at + length bytes) bytes k.seen k.seen are sound.seen_bytes sound.seen_bytes;
      synced_bytes = sound.synced_bytes;
    }

-- copies inside copies
pub copies-inside : {X : Type 0} (m n k : ℕ) (x : X) → m + n ≤ k → copies n x ≡ take n (drop m (copies k x))
unfolding copies
copies-inside m n k x h = sym (ap (λ l. take n l) (drop-replicate m k x) ∙ take-replicate n (k - m) x (omega arith))

pub blank-sound : (n : ℕ) → IsSound (blank n)
blank-sound n = record {
  synced_len = refl;
  pending_len = length-copies n false ∙ sym (length-copies n 0);
  same = λ i none. refl;
  seen_bytes = bytes-copies n;
  synced_bytes = bytes-copies n;
}
