-- Lists of bytes: what a write, a poke and a crash make of them. It serves the goals of disk.rt and drives.rt, and the lemmas on what a crash may leave.
use Rattle.std.proofs.Common.{⊎_elim, ℕ, ◌%◌, ◌<◌, true, false, cond, List, ◌++◌, length, take, drop, map, get_or, set, sym, subst, arith}
use Rattle.std.specs.Prelude.{◌==◌}
use Rattle.std.specs.List.{range_with_len}
use Rattle.std.proofs.lemmas.Bool.{cases_lt}
use Rattle.std.proofs.lemmas.List.{get_or_past}
use Rattle.std.proofs.lemmas.List.Elements.{All-append, All-drop, All-from_get_or, All-map, All-replicate, All-set, All-take}
use Rattle.sd_base.specs.declared.trouble.Pick.{Pick}
use Rattle.sd_base.specs.declared.trouble.Pick.TheVariants.{Keep, Lose, Tear, Junk}
use Rattle.sd_rig.specs.Devices.{AreBytes}
use Rattle.sd_rig.specs.Disk.{DiskState, IsSound, copies, left_at, picked}

-- a byte at any place, where 0 stands for those behind the end
pub byte_at : (bytes : List ℕ) (i : ℕ) → AreBytes bytes → get_or bytes i 0 < 256
byte_at bytes i are = ⊎_elim
    (λ lt. are i 0 lt)
    (λ ge. subst (λ b. b < 256) (sym (get_or_past bytes i 0 ge)) (omega arith))
    (cases_lt i (length bytes))

pub bytes_each : (bytes : List ℕ) → ((i : ℕ) → get_or bytes i 0 < 256) → AreBytes bytes
bytes_each bytes f = All-from_get_or (λ b. b < 256) bytes 0 (λ i h. f i)

pub bytes-copies : (n : ℕ) → AreBytes (copies n 0)
unfolding copies
bytes-copies n = All-replicate (λ b. b < 256) n 0 (omega arith)

pub bytes-middle : (at m : ℕ) (bytes old rest : List ℕ) → AreBytes bytes → AreBytes old → AreBytes rest → AreBytes (take at old ++ bytes ++ drop m rest)
bytes-middle at m bytes old rest new was behind =
    All-append (λ b. b < 256) (take at old ++ bytes) (drop m rest) (All-append (λ b. b < 256) (take at old) bytes (All-take (λ b. b < 256) at old was) new) (All-drop (λ b. b < 256) m rest behind)

pub bytes-set : (bytes : List ℕ) (at byte : ℕ) → byte < 256 → AreBytes bytes → AreBytes (set bytes at byte)
bytes-set bytes at byte h are = All-set (λ b. b < 256) bytes at byte h are

-- what a crash leaves at a place
picked_byte : (pick : Pick) (i now old : ℕ) → now < 256 → old < 256 → picked pick i now old < 256
picked_byte Keep i now old g h = g
picked_byte Lose i now old g h = h
picked_byte Tear i now old g h = elim (i % 2 == 0) as (λ b. cond b now old < 256) [ true ↦ g | false ↦ h ]
picked_byte Junk i now old g h = omega arith

left_byte : (pick : Pick) (k : DiskState) (i : ℕ) → IsSound k → left_at pick k i < 256
left_byte pick k i sound =
    let old : get_or k.synced i 0 < 256 = byte_at k.synced i sound.synced_bytes in
    let some : picked pick i (get_or k.seen i 0) (get_or k.synced i 0) < 256 = picked_byte pick i (get_or k.seen i 0) (get_or k.synced i 0) (byte_at k.seen i sound.seen_bytes) old in
    elim (get_or k.pending i false) as (λ b. cond b (picked pick i (get_or k.seen i 0) (get_or k.synced i 0)) (get_or k.synced i 0) < 256) [ true ↦ some | false ↦ old ]

pub bytes-left : (pick : Pick) (k : DiskState) → IsSound k → AreBytes (map (left_at pick k) (range_with_len 0 (length k.synced)))
bytes-left pick k sound =
    All-map (λ b. b < 256) (left_at pick k) (range_with_len 0 (length k.synced)) (λ j d h. left_byte pick k (get_or (range_with_len 0 (length k.synced)) j d) sound)
