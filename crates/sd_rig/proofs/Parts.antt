-- A device of which a part is kept. It serves the goals of disk.rt.
use Rattle.std.proofs.Common.{◌≡◌, ⊎_elim, ℕ, ◌+◌, ◌-◌, ◌<◌, ◌≤◌, suc, Bool, true, false, cond, List, [], ◌∷◌, ◌++◌, length, take, drop, get_or, set, refl, sym, ap, ◌∙◌, subst, arith, append_assoc, length-set, length-append, length-drop, length-take-le}
use Rattle.std.proofs.lemmas.List.{append-nil, drop_all, drop-append-le, drop-drop, drop-take, drop_at, take-append-drop, take-append-le, get_or_past, take-take, take_all, set_split}
use Rattle.std.proofs.lemmas.List.FromFn.{fill_by_all}
use Rattle.std.proofs.lemmas.Bool.{cases_lt}
use Rattle.sd_base.specs.declared.trouble.Pick.{Pick}
use Rattle.sd_rig.specs.Devices.{AreBytes, overwritten}
use Rattle.sd_rig.specs.Disk.{DiskState, IsHeld, IsSettled, IsSound, ReadsAsLeft, blank, copies, length-copies, left_at, marked, picked, placed, poked, settled, whole, written}
use Rattle.sd_rig.proofs.Places.{blank-sound, copies-inside, get_or-before, get_or-behind, get_or-copies_any, get_or-inside, left_at-settled, length-middle, written-sound}
use Rattle.sd_rig.proofs.Replays.{length-settled, poked-sound, settled-sound}

take_split : {X : Type 0} (a b : ℕ) (l : List X) → a ≤ b → take a l ++ take (b - a) (drop a l) ≡ take b l
take_split a b l h =
    let place : a + (b - a) ≡ b = omega arith in
    ap (λ xs. take a l ++ xs) (sym (drop-take a (b - a) l) ∙ ap (λ n. drop a (take n l)) place) ∙ ap (λ xs. xs ++ drop a (take b l)) (sym (take-take a b l h)) ∙ take-append-drop a (take b l)

take-behind : {X : Type 0} (n a : ℕ) (front xs : List X) → length front ≡ n → take (n + a) (front ++ xs) ≡ front ++ take a xs
take-behind n a front xs len =
    sym (take_split n (n + a) (front ++ xs) (omega arith)) ∙ ap (λ l. l ++ take ((n + a) - n) (drop n (front ++ xs))) (take-append-le n front xs (omega arith) ∙ take_all n front (omega arith))
    ∙ ap (λ l. front ++ take ((n + a) - n) l) (drop_at front xs n len) ∙ ap (λ k. front ++ take k xs) (omega arith)

drop-behind : {X : Type 0} (n a : ℕ) (front xs : List X) → length front ≡ n → drop (n + a) (front ++ xs) ≡ drop a xs
drop-behind n a front xs len = sym (drop-drop a n (front ++ xs)) ∙ ap (drop a) (drop_at front xs n len)

-- nothing in place of nothing
placed-none : {X : Type 0} (at : ℕ) (old : List X) → placed at [] old ≡ old
placed-none at old =
    let none : at + 0 ≡ at = omega arith in
    ap (λ l. l ++ drop (at + 0) old) (append-nil (take at old)) ∙ ap (λ n. take at old ++ drop n old) none ∙ take-append-drop at old

-- a part that reaches further back, and one that begins before
placed-back : {X : Type 0} (at n : ℕ) (xs mid old : List X) → mid ≡ take n (drop (at + length xs) old) → at + length xs + n ≤ length old → placed at (xs ++ mid) old ≡ placed at xs old
placed-back at n xs mid old is h =
    let m : ℕ = at + length xs in
    let size : length mid ≡ n = ap length is ∙ length-take-le n (drop m old) (omega (arith, length-drop m old)) in
    let both : at + length (xs ++ mid) ≡ m + n = omega (arith, length-append xs mid, size) in
    let rest : mid ++ drop (at + length (xs ++ mid)) old ≡ drop m old = ap (λ k. mid ++ drop k old) both ∙ ap (λ l. mid ++ l) (sym (drop-drop n m old)) ∙ ap (λ l. l ++ drop n (drop m old)) is ∙ take-append-drop n (drop m old) in
    ap (λ l. l ++ drop (at + length (xs ++ mid)) old) (sym (append_assoc (take at old) xs mid)) ∙ append_assoc (take at old ++ xs) mid (drop (at + length (xs ++ mid)) old) ∙ ap (λ l. take at old ++ xs ++ l) rest

placed-front : {X : Type 0} (at base : ℕ) (xs mid old : List X) → mid ≡ take (base - at) (drop at old) → at ≤ base → base ≤ length old → placed at (mid ++ xs) old ≡ placed base xs old
placed-front at base xs mid old is le h =
    let size : length mid ≡ base - at = ap length is ∙ length-take-le (base - at) (drop at old) (omega (arith, length-drop at old)) in
    let both : at + length (mid ++ xs) ≡ base + length xs = omega (arith, length-append mid xs, size) in
    ap (λ k. take at old ++ (mid ++ xs) ++ drop k old) both ∙ ap (λ l. l ++ drop (base + length xs) old) (sym (append_assoc (take at old) mid xs))
    ∙ ap (λ l. l ++ xs ++ drop (base + length xs) old) (ap (λ l. take at old ++ l) is ∙ take_split at base old le)

-- what is put under a part doesn't show
drop-placed : {X : Type 0} (m at : ℕ) (xs old : List X) → at + length xs ≤ m → m ≤ length old → drop m (placed at xs old) ≡ drop m old
drop-placed {X} m at xs old h le =
    let n : ℕ = at + length xs in
    let front : length (take at old ++ xs) ≡ n = length-append (take at old) xs ∙ ap (λ k. k + length xs) (length-take-le at old (omega arith)) in
    let place : n + (m - n) ≡ m = omega arith in
    let split : (l : List X) → drop m l ≡ drop (m - n) (drop n l) = λ l. ap (λ k. drop k l) (sym place) ∙ sym (drop-drop (m - n) n l) in
    split (placed at xs old) ∙ ap (drop (m - n)) (drop_at (take at old ++ xs) (drop n old) n front) ∙ sym (split old)

take-placed : {X : Type 0} (m at : ℕ) (xs old : List X) → m ≤ at → at ≤ length old → take m (placed at xs old) ≡ take m old
take-placed m at xs old h le =
    let front = length-take-le at old le in
    take-append-le m (take at old ++ xs) (drop (at + length xs) old) (omega (arith, length-append (take at old) xs)) ∙ take-append-le m (take at old) xs (omega arith) ∙ take-take m at old h

placed-under : {X : Type 0} (base at : ℕ) (xs ys old : List X) → base ≤ at → at + length ys ≤ base + length xs → base + length xs ≤ length old → placed base xs (placed at ys old) ≡ placed base xs old
placed-under base at xs ys old le h within =
    ap (λ l. l ++ xs ++ drop (base + length xs) (placed at ys old)) (take-placed base at ys old le (omega arith)) ∙ ap (λ l. take base old ++ xs ++ l) (drop-placed (base + length xs) at ys old h within)

-- what is put in a part is put in the whole
placed-within : {X : Type 0} (base a : ℕ) (xs ys old : List X) → a + length ys ≤ length xs → base + length xs ≤ length old → placed base (placed a ys xs) old ≡ placed (base + a) ys (placed base xs old)
placed-within {X} base a xs ys old h within =
    let front : List X = take base old in
    let rest : List X = drop (base + length xs) old in
    let len : length front ≡ base = length-take-le base old (omega arith) in
    let size : length (placed a ys xs) ≡ length xs = length-middle a ys xs h in
    let long : length (front ++ xs) ≡ base + length xs = length-append front xs ∙ ap (λ k. k + length xs) len in
    let place : base + a + length ys ≡ base + (a + length ys) = omega arith in
    let e1 : take (base + a) (front ++ xs ++ rest) ≡ front ++ take a xs = take-append-le (base + a) (front ++ xs) rest (omega arith) ∙ take-behind base a front xs len in
    let e2 : drop (base + a + length ys) (front ++ xs ++ rest) ≡ drop (a + length ys) xs ++ rest =
    drop-append-le (base + a + length ys) (front ++ xs) rest (omega arith) ∙ ap (λ l. l ++ rest) (ap (λ k. drop k (front ++ xs)) place ∙ drop-behind base (a + length ys) front xs len) in
    let e3 : front ++ (take a xs ++ ys ++ drop (a + length ys) xs) ++ rest ≡ front ++ take a xs ++ ys ++ (drop (a + length ys) xs ++ rest) =
    ap (λ l. l ++ rest) (sym (append_assoc front (take a xs ++ ys) (drop (a + length ys) xs))) ∙ append_assoc (front ++ (take a xs ++ ys)) (drop (a + length ys) xs) rest
    ∙ ap (λ l. l ++ (drop (a + length ys) xs ++ rest)) (sym (append_assoc front (take a xs) ys)) in
    ap (λ k. front ++ placed a ys xs ++ drop (base + k) old) size ∙ e3 ∙ sym (ap (λ l. l ++ ys ++ drop (base + a + length ys) (front ++ xs ++ rest)) e1 ∙ ap (λ l. front ++ take a xs ++ ys ++ l) e2)

-- where the part reaches further
pub whole-same : {seen seen' synced synced' : List ℕ} {pending pending' : List Bool} (base : ℕ) → seen ≡ seen' → synced ≡ synced' → pending ≡ pending' → whole base seen synced pending ≡ whole base seen' synced' pending'
whole-same {seen' = seen'} {synced = synced} {synced' = synced'} {pending = pending} base e1 e2 e3 =
    ap (λ (s : List ℕ). whole base s synced pending) e1 ∙ ap (λ (s : List ℕ). whole base seen' s pending) e2 ∙ ap (λ (p : List Bool). whole base seen' synced' p) e3

pub whole-empty : (base : ℕ) (seen synced : List ℕ) (pending : List Bool) → synced ≡ [] → pending ≡ [] → whole base seen synced pending ≡ record { seen = seen; synced = seen; pending = copies (length seen) false }
whole-empty base seen synced pending e1 e2 =
    whole-same base refl e1 e2 ∙ ap (λ (s : List ℕ). record { seen = seen; synced = s; pending = placed base [] (copies (length seen) false) }) (placed-none base seen)
    ∙ ap (λ (p : List Bool). record { seen = seen; synced = seen; pending = p }) (placed-none base (copies (length seen) false))

pub back-whole : (base n : ℕ) (seen synced mid : List ℕ) (pending : List Bool) → length pending ≡ length synced → mid ≡ take n (drop (base + length synced) seen) → base + length synced + n ≤ length seen → whole base seen (synced ++ mid) (pending ++ copies n false) ≡ whole base seen synced pending
back-whole base n seen synced mid pending even is h =
    let size = length-copies (length seen) false in
    ap (λ (s : List ℕ). record { seen = seen; synced = s; pending = placed base (pending ++ copies n false) (copies (length seen) false) }) (placed-back base n synced mid seen is h)
    ∙ ap (λ (p : List Bool). record { seen = seen; synced = placed base synced seen; pending = p }) (placed-back base n pending (copies n false) (copies (length seen) false) (copies-inside (base + length pending) n (length seen) false (omega arith)) (omega arith))

pub front-whole : (at base : ℕ) (seen synced mid : List ℕ) (pending : List Bool) → mid ≡ take (base - at) (drop at seen) → at ≤ base → base ≤ length seen → whole at seen (mid ++ synced) (copies (base - at) false ++ pending) ≡ whole base seen synced pending
front-whole at base seen synced mid pending is le h =
    let size = length-copies (length seen) false in
    ap (λ (s : List ℕ). record { seen = seen; synced = s; pending = placed at (copies (base - at) false ++ pending) (copies (length seen) false) }) (placed-front at base synced mid seen is le h)
    ∙ ap (λ (p : List Bool). record { seen = seen; synced = placed base synced seen; pending = p }) (placed-front at base pending (copies (base - at) false) (copies (length seen) false) (copies-inside at (base - at) (length seen) false (omega arith)) le (omega arith))

-- a write within the part
marked-is : (at n : ℕ) (marks : List Bool) → marked at n marks ≡ placed at (copies n true) marks
marked-is at n marks = ap (λ m. take at marks ++ copies n true ++ drop (at + m) marks) (sym (length-copies n true))

marked-within : (base at n : ℕ) (marks old : List Bool) → base ≤ at → at + n ≤ base + length marks → base + length marks ≤ length old → placed base (marked (at - base) n marks) old ≡ marked at n (placed base marks old)
marked-within base at n marks old le h within =
    let place : base + (at - base) ≡ at = omega arith in
    let size = length-copies n true in
    ap (λ (m : List Bool). placed base m old) (marked-is (at - base) n marks) ∙ placed-within base (at - base) marks (copies n true) old (omega arith) within
    ∙ ap (λ k. placed k (copies n true) (placed base marks old)) place ∙ sym (marked-is at n (placed base marks old))

pub written-whole : (base at : ℕ) (bytes seen synced : List ℕ) (pending : List Bool) → length pending ≡ length synced → base ≤ at → at + length bytes ≤ base + length synced → base + length synced ≤ length seen → whole base (overwritten at bytes seen) synced (marked (at - base) (length bytes) pending) ≡ written at bytes (whole base seen synced pending)
written-whole base at bytes seen synced pending even le h within =
    let n : ℕ = length bytes in
    let size : length (overwritten at bytes seen) ≡ length seen = length-middle at bytes seen (omega arith) in
    let long = length-copies (length seen) false in
    ap (λ (s : List ℕ). record { seen = overwritten at bytes seen; synced = s; pending = placed base (marked (at - base) n pending) (copies (length (overwritten at bytes seen)) false) }) (placed-under base at synced bytes seen le h within)
    ∙ ap (λ (p : List Bool). record { seen = overwritten at bytes seen; synced = placed base synced seen; pending = p })
    (ap (λ k. placed base (marked (at - base) n pending) (copies k false)) size ∙ marked-within base at n pending (copies (length seen) false) le (omega arith) (omega arith))

-- a write where there was no part: what it is written over is kept, all of it pending
marked-all : (at n : ℕ) → marked (at - at) n (copies n false) ≡ copies n true
marked-all at n =
    let none : at - at ≡ 0 = omega arith in
    let place : 0 + n ≡ n = omega arith in
    let size = length-copies n false in
    let front : marked 0 n (copies n false) ≡ copies n true ++ drop n (copies n false) = ap (λ k. copies n true ++ drop k (copies n false)) place in
    ap (λ k. marked k n (copies n false)) none ∙ front ∙ ap (λ l. copies n true ++ l) (drop_all n (copies n false) (omega arith)) ∙ append-nil (copies n true)

pub first-whole : (base at : ℕ) (bytes seen synced synced' : List ℕ) (pending pending' : List Bool) → synced ≡ [] → pending ≡ [] → synced' ≡ take (length bytes) (drop at seen) → pending' ≡ copies (length bytes) true → at + length bytes ≤ length seen → whole at (overwritten at bytes seen) synced' pending' ≡ written at bytes (whole base seen synced pending)
first-whole base at bytes seen synced synced' pending pending' e1 e2 is marks h =
    let n : ℕ = length bytes in
    let mid : List ℕ = take n (drop at seen) in
    let start : at + 0 ≡ at = omega arith in
    let size : length mid ≡ n = length-take-le n (drop at seen) (omega (arith, length-drop at seen)) in
    let size' = length-copies n false in
    let was : whole at seen mid (copies n false) ≡ whole base seen synced pending =
    back-whole at n seen [] mid [] refl (ap (λ k. take n (drop k seen)) (sym start)) (omega arith) ∙ whole-empty at seen [] [] refl refl ∙ sym (whole-empty base seen synced pending e1 e2) in
    whole-same at refl is (marks ∙ sym (marked-all at n)) ∙ written-whole at at bytes seen mid (copies n false) (size' ∙ sym size) (omega arith) (omega arith) (omega arith) ∙ ap (written at bytes) was

-- a poke within the part
set-is : {X : Type 0} (at : ℕ) (x : X) (l : List X) → at < length l → set l at x ≡ placed at (x ∷ []) l
set-is at x l h =
    let next : suc at ≡ at + 1 = omega arith in
    set_split l at x h ∙ ap (λ k. take at l ++ x ∷ drop k l) next ∙ sym (append_assoc (take at l) (x ∷ []) (drop (at + 1) l))

set-within : {X : Type 0} (base at : ℕ) (x : X) (xs old : List X) → base ≤ at → at < base + length xs → base + length xs ≤ length old → placed base (set xs (at - base) x) old ≡ set (placed base xs old) at x
set-within {X} base at x xs old le h within =
    let place : base + (at - base) ≡ at = omega arith in
    let size = length-middle base xs old within in
    ap (λ (l : List X). placed base l old) (set-is (at - base) x xs (omega arith)) ∙ placed-within base (at - base) xs (x ∷ []) old (omega arith) within
    ∙ ap (λ k. placed k (x ∷ []) (placed base xs old)) place ∙ sym (set-is at x (placed base xs old) (omega arith))

pub poked-whole : (base at byte : ℕ) (seen synced : List ℕ) (pending : List Bool) → length pending ≡ length synced → base ≤ at → at < base + length synced → base + length synced ≤ length seen → whole base (set seen at byte) (set synced (at - base) byte) (set pending (at - base) false) ≡ poked at byte (whole base seen synced pending)
poked-whole base at byte seen synced pending even le h within =
    let size = length-set synced (at - base) byte in
    let long = length-copies (length seen) false in
    let e1 : placed base (set synced (at - base) byte) (set seen at byte) ≡ set (placed base synced seen) at byte =
    ap (λ (l : List ℕ). placed base (set synced (at - base) byte) l) (set-is at byte seen (omega arith)) ∙ placed-under base at (set synced (at - base) byte) (byte ∷ []) seen le (omega arith) (omega arith)
    ∙ set-within base at byte synced seen le h within in
    let e2 : placed base (set pending (at - base) false) (copies (length (set seen at byte)) false) ≡ set (placed base pending (copies (length seen) false)) at false =
    ap (λ k. placed base (set pending (at - base) false) (copies k false)) (length-set seen at byte) ∙ set-within base at false pending (copies (length seen) false) le (omega arith) (omega arith) in
    ap (λ (s : List ℕ). record { seen = set seen at byte; synced = s; pending = placed base (set pending (at - base) false) (copies (length (set seen at byte)) false) }) e1
    ∙ ap (λ (p : List Bool). record { seen = set seen at byte; synced = set (placed base synced seen) at byte; pending = p }) e2

-- what a crash leaves in the part and outside it
left-inside : (pick : Pick) (base i : ℕ) (seen synced : List ℕ) (pending : List Bool) → length pending ≡ length synced → base + length synced ≤ length seen → base ≤ i → i < base + length synced → left_at pick (whole base seen synced pending) i ≡ cond (get_or pending (i - base) false) (picked pick i (get_or seen i 0) (get_or synced (i - base) 0)) (get_or synced (i - base) 0)
left-inside pick base i seen synced pending even within le lt =
    let long = length-copies (length seen) false in
    let e1 : get_or (placed base synced seen) i 0 ≡ get_or synced (i - base) 0 = get_or-inside base i synced seen 0 (omega arith) le lt in
    let e2 : get_or (placed base pending (copies (length seen) false)) i false ≡ get_or pending (i - base) false = get_or-inside base i pending (copies (length seen) false) false (omega arith) le (omega arith) in
    ap (λ b. cond b (picked pick i (get_or seen i 0) (get_or (placed base synced seen) i 0)) (get_or (placed base synced seen) i 0)) e2
    ∙ ap (λ o. cond (get_or pending (i - base) false) (picked pick i (get_or seen i 0) o) o) e1

unmarked-before : (base i : ℕ) (seen : List ℕ) (pending : List Bool) → base + length pending ≤ length seen → i < base → get_or (placed base pending (copies (length seen) false)) i false ≡ false
unmarked-before base i seen pending within lt =
    let long = length-copies (length seen) false in
    get_or-before base i pending (copies (length seen) false) false (omega arith) lt ∙ get_or-copies_any (length seen) i false

unmarked-behind : (base i : ℕ) (seen : List ℕ) (pending : List Bool) → base + length pending ≤ length seen → base + length pending ≤ i → get_or (placed base pending (copies (length seen) false)) i false ≡ false
unmarked-behind base i seen pending within le =
    let long = length-copies (length seen) false in
    get_or-behind base i pending (copies (length seen) false) false (omega arith) le ∙ get_or-copies_any (length seen) i false

pub left-seen : (pick : Pick) (base : ℕ) (seen synced : List ℕ) (pending : List Bool) (new : List ℕ) → length pending ≡ length synced → base + length synced ≤ length seen → IsSound (whole base seen synced pending) → ReadsAsLeft pick base (base + length synced) seen synced pending new → new ≡ (settled pick (whole base seen synced pending)).seen
left-seen pick base seen synced pending new even within sound left =
    let k : DiskState = whole base seen synced pending in
    let each : (i : ℕ) → get_or new i 0 ≡ left_at pick k i = λ i. ⊎_elim
    (λ lt. left.below i lt ∙ sym (left_at-settled pick k i sound (unmarked-before base i seen pending (omega arith) lt)))
    (λ ge. ⊎_elim
    (λ lt. left.inside i ge lt ∙ sym (left-inside pick base i seen synced pending even within ge lt))
    (λ le. left.above i le ∙ sym (left_at-settled pick k i sound (unmarked-behind base i seen pending (omega arith) (omega arith))))
    (cases_lt i (base + length synced)))
    (cases_lt i base) in
    fill_by_all (left_at pick k) new (length k.synced) 0 (left.size ∙ sym sound.synced_len) (λ i h. each i)

pub settled-whole : (pick : Pick) (base : ℕ) (new synced : List ℕ) (pending : List Bool) (k : DiskState) → synced ≡ [] → pending ≡ [] → IsSound k → new ≡ (settled pick k).seen → whole base new synced pending ≡ settled pick k
settled-whole pick base new synced pending k e1 e2 sound is =
    let bytes : List ℕ = (settled pick k).seen in
    let size : length new ≡ length k.pending = ap length is ∙ length-settled pick k sound ∙ sym sound.pending_len in
    whole-empty base new synced pending e1 e2 ∙ ap (λ (s : List ℕ). record { seen = s; synced = s; pending = copies (length new) false }) is
    ∙ ap (λ n. record { seen = bytes; synced = bytes; pending = copies n false }) size

-- the whole is settled where no mark of the part is set
pub settled-unmarked : (base : ℕ) (seen synced : List ℕ) (pending : List Bool) → base + length pending ≤ length seen → ((i : ℕ) → get_or pending i false ≡ false) → IsSettled (whole base seen synced pending)
settled-unmarked base seen synced pending within none i =
    let long = length-copies (length seen) false in
    ⊎_elim
    (λ lt. unmarked-before base i seen pending within lt)
    (λ ge. ⊎_elim
    (λ lt. get_or-inside base i pending (copies (length seen) false) false (omega arith) ge lt ∙ none (i - base))
    (λ le. unmarked-behind base i seen pending within le)
    (cases_lt i (base + length pending)))
    (cases_lt i base)

pub unmarked-settled : (base : ℕ) (seen synced : List ℕ) (pending : List Bool) → base + length pending ≤ length seen → IsSettled (whole base seen synced pending) → (i : ℕ) → get_or pending i false ≡ false
unmarked-settled base seen synced pending within none i =
    let long = length-copies (length seen) false in
    let place : (base + i) - base ≡ i = omega arith in
    ⊎_elim
    (λ lt. ap (λ j. get_or pending j false) (sym place) ∙ sym (get_or-inside base (base + i) pending (copies (length seen) false) false (omega arith) (omega arith) (omega arith)) ∙ none (base + i))
    (λ ge. get_or_past pending i false ge)
    (cases_lt i (length pending))

-- what is held stays held
pub held-same : {seen seen' synced synced' : List ℕ} {pending pending' : List Bool} (base memory marks_memory : ℕ) → seen ≡ seen' → synced ≡ synced' → pending ≡ pending' → IsHeld base seen' synced' pending' memory marks_memory → IsHeld base seen synced pending memory marks_memory
held-same {seen' = seen'} {synced = synced} {synced' = synced'} {pending = pending} base memory marks_memory e1 e2 e3 held =
    subst (λ (s : List ℕ). IsHeld base s synced pending memory marks_memory) (sym e1)
    (subst (λ (s : List ℕ). IsHeld base seen' s pending memory marks_memory) (sym e2)
    (subst (λ (p : List Bool). IsHeld base seen' synced' p memory marks_memory) (sym e3) held))

pub blank-whole : (base n : ℕ) (seen synced : List ℕ) (pending : List Bool) → seen ≡ copies n 0 → synced ≡ [] → pending ≡ [] → whole base seen synced pending ≡ blank n
blank-whole base n seen synced pending e1 e2 e3 =
    whole-same {synced = synced} {pending = pending} base e1 refl refl ∙ whole-empty base (copies n 0) synced pending e2 e3 ∙ ap (λ m. record { seen = copies n 0; synced = copies n 0; pending = copies m false }) (length-copies {X = ℕ} n 0)

pub blank-held : (n memory marks_memory : ℕ) (seen synced : List ℕ) (pending : List Bool) → seen ≡ copies n 0 → synced ≡ [] → pending ≡ [] → n ≤ memory → n ≤ marks_memory → IsHeld 0 seen synced pending memory marks_memory
blank-held n memory marks_memory seen synced pending e1 e2 e3 h g =
    let len : length seen ≡ n = ap length e1 ∙ length-copies {X = ℕ} n 0 in
    let none : length synced ≡ 0 = ap length e2 in
    let none' : length pending ≡ 0 = ap length e3 in
    record {
      sound = subst IsSound (sym (blank-whole 0 n seen synced pending e1 e2 e3)) (blank-sound n);
      even = none' ∙ sym none;
      within = omega arith;
      room = omega arith;
      marks_room = omega arith;
    }

pub covered-held : (base base' memory marks_memory memory' marks_memory' : ℕ) (seen synced synced' : List ℕ) (pending pending' : List Bool) → IsHeld base seen synced pending memory marks_memory → whole base' seen synced' pending' ≡ whole base seen synced pending → length pending' ≡ length synced' → base' + length synced' ≤ length seen → memory ≤ memory' → marks_memory ≤ marks_memory' → IsHeld base' seen synced' pending' memory' marks_memory'
covered-held base base' memory marks_memory memory' marks_memory' seen synced synced' pending pending' held same even within g1 g2 =
    let room = held.room in
    let marks_room = held.marks_room in
    record { sound = subst IsSound (sym same) held.sound; even = even; within = within; room = omega arith; marks_room = omega arith }

-- what a write makes of the part that covers it, whatever the part was
pub reached-held : (base base' at memory marks_memory memory' marks_memory' : ℕ) (bytes seen synced synced' : List ℕ) (pending pending' : List Bool) → IsHeld base seen synced pending memory marks_memory → whole base' (overwritten at bytes seen) synced' pending' ≡ written at bytes (whole base seen synced pending) → length pending' ≡ length synced' → base' + length synced' ≤ length seen → memory ≤ memory' → marks_memory ≤ marks_memory' → at + length bytes ≤ length seen → AreBytes bytes → IsHeld base' (overwritten at bytes seen) synced' pending' memory' marks_memory'
reached-held base base' at memory marks_memory memory' marks_memory' bytes seen synced synced' pending pending' held same even within g1 g2 h are =
    let room = held.room in
    let marks_room = held.marks_room in
    let size = length-middle at bytes seen h in
    record {
      sound = subst IsSound (sym same) (written-sound at bytes (whole base seen synced pending) h are held.sound);
      even = even;
      within = omega arith;
      room = omega arith;
      marks_room = omega arith;
    }

pub poked-held : (base at byte memory marks_memory : ℕ) (seen synced : List ℕ) (pending : List Bool) → IsHeld base seen synced pending memory marks_memory → base ≤ at → at < base + length synced → byte < 256 → IsHeld base (set seen at byte) (set synced (at - base) byte) (set pending (at - base) false) memory marks_memory
poked-held base at byte memory marks_memory seen synced pending held le h small =
    let even = held.even in
    let within = held.within in
    let room = held.room in
    let marks_room = held.marks_room in
    let made = poked-whole base at byte seen synced pending even le h within in
    let size = length-set seen at byte in
    let size' = length-set synced (at - base) byte in
    let marks = length-set pending (at - base) false in
    record {
      sound = subst IsSound (sym made) (poked-sound at byte (whole base seen synced pending) (omega arith) small held.sound);
      even = omega arith;
      within = omega arith;
      room = omega arith;
      marks_room = omega arith;
    }

pub settled-held : (base memory marks_memory : ℕ) (pick : Pick) (new synced : List ℕ) (pending : List Bool) (k : DiskState) → synced ≡ [] → pending ≡ [] → IsSound k → new ≡ (settled pick k).seen → base ≤ length new → length new ≤ memory → length new ≤ marks_memory → IsHeld base new synced pending memory marks_memory
settled-held base memory marks_memory pick new synced pending k e1 e2 sound is within room marks_room =
    let none : length synced ≡ 0 = ap length e1 in
    let none' : length pending ≡ 0 = ap length e2 in
    record {
      sound = subst IsSound (sym (settled-whole pick base new synced pending k e1 e2 sound is)) (settled-sound pick k sound);
      even = none' ∙ sym none;
      within = omega arith;
      room = room;
      marks_room = marks_room;
    }
