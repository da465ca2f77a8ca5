-- One device in memory, and what the calls make of it.
use Rattle.std.specs.Prelude.{◌≡◌, ℕ, ◌+◌, ◌-◌, ◌<◌, ◌≤◌, ◌%◌, ◌==◌, Bool, true, false, List, ◌++◌, length, take, drop, set, get_or, map, replicate, if◌then◌else◌, refl}
use Rattle.std.specs.Coded.{Coded, code_by, coded×, coded_ℕ, coded_bool, coded_list}
use Rattle.std.specs.List.{range_with_len}
use Rattle.std.proofs.lemmas.List.{length-replicate}
use Rattle.sd_base.specs.declared.trouble.Pick.{Pick}
use Rattle.sd_base.specs.declared.trouble.Pick.TheVariants.{Keep, Lose, Tear, Junk}
use Rattle.sd_rig.specs.Devices.{AreBytes, overwritten}

-- The bytes as read, the bytes as at the last sync, and which bytes a crash may change.
pub record DiskState : Type 0 where
  pub seen : List ℕ
  pub synced : List ℕ
  pub pending : List Bool

abbrev pub disk_code : Coded DiskState
disk_code =
    code_by (List ℕ × (List ℕ × List Bool)) (coded× (coded_list coded_ℕ) (coded× (coded_list coded_ℕ) (coded_list coded_bool))) (λ k. (k.seen, (k.synced, k.pending))) (λ p. record { seen = p.0; synced = p.1.0; pending = p.1.1 }) (λ _. refl)

-- n times the same; not for the check to compute, since devices are long
unfoldable pub copies : {X : Type 0} → ℕ → X → List X
copies n x = replicate n x

pub length-copies : {X : Type 0} (n : ℕ) (x : X) → length (copies n x) ≡ n
unfolding copies
length-copies n x = length-replicate n x

pub copies-is : {X : Type 0} (n : ℕ) (x : X) → copies n x ≡ replicate n x
unfolding copies
copies-is n x = refl

-- a device of zeros
abbrev pub blank : ℕ → DiskState
blank n = record { seen = copies n 0; synced = copies n 0; pending = copies n false }

-- with n places from this one on marked
abbrev pub marked : ℕ → ℕ → List Bool → List Bool
marked at n marks = take at marks ++ copies n true ++ drop (at + n) marks

-- after a write
abbrev pub written : ℕ → List ℕ → DiskState → DiskState
written at bytes k = record {
  seen = overwritten at bytes k.seen;
  synced = k.synced;
  pending = marked at (length bytes) k.pending;
}

-- what a crash makes of a pending byte, by its place, what it reads as, and what it was at the last sync
abbrev pub picked : Pick → ℕ → ℕ → ℕ → ℕ
picked Keep i now old = now
picked Lose i now old = old
picked Tear i now old = if i % 2 == 0 then now else old
picked Junk i now old = 165

-- what a crash leaves at this place
abbrev pub left_at : Pick → DiskState → ℕ → ℕ
left_at pick k i = if get_or k.pending i false then picked pick i (get_or k.seen i 0) (get_or k.synced i 0) else get_or k.synced i 0

-- stable as a crash leaves it; after a sync too, as a crash that keeps pending bytes leaves it
abbrev pub settled : Pick → DiskState → DiskState
settled pick k =
    let bytes = map (left_at pick k) (range_with_len 0 (length k.synced)) in
    record { seen = bytes; synced = bytes; pending = copies (length k.pending) false }

-- with this byte, stable
abbrev pub poked : ℕ → ℕ → DiskState → DiskState
poked at byte k = record { seen = set k.seen at byte; synced = set k.synced at byte; pending = set k.pending at false }

-- The parts have one length and hold bytes, and a byte that isn't pending reads as at the last sync.
pub record IsSound (k : DiskState) : Type 0 where
  pub synced_len : length k.synced ≡ length k.seen
  pub pending_len : length k.pending ≡ length k.seen
  pub same : (i : ℕ) → get_or k.pending i false ≡ false → get_or k.seen i 0 ≡ get_or k.synced i 0
  pub seen_bytes : AreBytes k.seen
  pub synced_bytes : AreBytes k.synced

-- No byte is pending.
abbrev pub IsSettled : DiskState → Type 0
IsSettled k = (i : ℕ) → get_or k.pending i false ≡ false

-- A crash may leave these bytes: each pending one is any, and the others are as at the last sync.
pub record MayLeave (k : DiskState) (bytes : List ℕ) : Type 0 where
  pub size : length bytes ≡ length k.synced
  pub stable : (i : ℕ) → get_or k.pending i false ≡ false → get_or bytes i 0 ≡ get_or k.synced i 0
  pub are_bytes : AreBytes bytes

-- with these in place of as many from this one on
abbrev pub placed : {X : Type 0} → ℕ → List X → List X → List X
placed at xs old = take at old ++ xs ++ drop (at + length xs) old

-- the whole device, of which outside the part that is kept, from base on, nothing is pending
abbrev pub whole : ℕ → List ℕ → List ℕ → List Bool → DiskState
whole base seen synced pending = record {
  seen = seen;
  synced = placed base synced seen;
  pending = placed base pending (copies (length seen) false);
}

-- A device as it is kept: the part lies in it, and there is room for the whole.
pub record IsHeld (base : ℕ) (seen synced : List ℕ) (pending : List Bool) (memory marks_memory : ℕ) : Type 0 where
  pub sound : IsSound (whole base seen synced pending)
  pub even : length pending ≡ length synced
  pub within : base + length synced ≤ length seen
  pub room : length seen ≤ memory
  pub marks_room : length seen ≤ marks_memory

-- From low up to high it reads as a crash leaves what was kept of that part, and elsewhere as before.
pub record ReadsAsLeft (pick : Pick) (low high : ℕ) (seen synced : List ℕ) (pending : List Bool) (new : List ℕ) : Type 0 where
  pub size : length new ≡ length seen
  pub below : (i : ℕ) → i < low → get_or new i 0 ≡ get_or seen i 0
  pub inside : (i : ℕ) → low ≤ i → i < high → get_or new i 0 ≡ (if get_or pending (i - low) false then picked pick i (get_or seen i 0) (get_or synced (i - low) 0) else get_or synced (i - low) 0)
  pub above : (i : ℕ) → high ≤ i → get_or new i 0 ≡ get_or seen i 0
