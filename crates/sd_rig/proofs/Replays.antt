-- What an event makes of the devices. It serves the goals of drives.rt.
use Rattle.std.proofs.Common.{◌≡◌, ⊎_elim, ℕ, ◌+◌, ◌<◌, ◌≤◌, Bool, false, List, [], ◌∷◌, ◌++◌, length, map, get_or, set, refl, sym, ap, ◌∙◌, subst, arith, length-set}
use Rattle.std.proofs.lemmas.List.{get_or-set_same, get_or-set_other, get_or-map, get_or_read, get_or_default, length-map, ext_get_or}
use Rattle.std.proofs.lemmas.List.FromFn.{fill_by_all, length-map-range_with_len, get_or-map-range_with_len}
use Rattle.std.proofs.lemmas.Bool.{cases_eq}
use Rattle.std.specs.List.{All, range_with_len}
use Rattle.sd_base.specs.declared.trouble.Pick.{Pick}
use Rattle.sd_rig.specs.Devices.{AreBytes, device_len}
use Rattle.sd_rig.specs.Disk.{DiskState, IsSound, IsSettled, blank, copies, length-copies, left_at, poked, settled, written}
use Rattle.sd_rig.specs.History.{Event}
use Rattle.sd_rig.specs.Replay.{AreDevices, AreSettled, blanks, changed, disk_at, replayed}
use Rattle.sd_rig.proofs.Bytes.{bytes-copies, bytes-left, bytes-set}
use Rattle.sd_rig.proofs.Places.{get_or-copies_any, left_at-settled, written-sound, length-middle}

pub replayed-more : (events : List Event) (e : Event) (disks : List DiskState) → replayed (events ++ e ∷ []) disks ≡ changed e (replayed events disks)
replayed-more [] e disks = refl
replayed-more (f ∷ events) e disks = replayed-more events e (changed f disks)

-- the device that an index reads
pub read_at : (disks : List DiskState) (dev : ℕ) (k : DiskState) → AreDevices disks → dev ≤ 8 → k ≡ get_or disks dev k → k ≡ disk_at disks dev
read_at disks dev k are le h = get_or_read disks dev k (let count = are.count in omega arith) h _

-- the record tells the devices after one more event
pub told-more : (events events' : List Event) (e : Event) (disks : List DiskState) → disks ≡ replayed events blanks → events' ≡ events ++ e ∷ [] → changed e disks ≡ replayed events' blanks
told-more events events' e disks told more = ap (changed e) told ∙ sym (replayed-more events e blanks) ∙ ap (λ (es : List Event). replayed es blanks) (sym more)

pub disk_at-set_same : (disks : List DiskState) (dev : ℕ) (k : DiskState) → AreDevices disks → dev ≤ 8 → disk_at (set disks dev k) dev ≡ k
disk_at-set_same disks dev k are le = get_or-set_same disks dev k _ (let count = are.count in omega arith)

pub disk_at-set_other : (disks : List DiskState) (dev d : ℕ) (k : DiskState) → (d ≡ dev → ⊥) → disk_at (set disks dev k) d ≡ disk_at disks d
disk_at-set_other disks dev d k ne = get_or-set_other disks dev d k _ ne

pub disk_at-map : (disks : List DiskState) (f : DiskState → DiskState) (dev : ℕ) → AreDevices disks → dev ≤ 8 → disk_at (map f disks) dev ≡ f (disk_at disks dev)
disk_at-map disks f dev are le = get_or-map f disks dev _ _ (let count = are.count in omega arith)

-- what holds of the other devices and of the new one
pub each_set : (P : ℕ → DiskState → Type 0) (disks : List DiskState) (dev : ℕ) (k : DiskState) → AreDevices disks → dev ≤ 8 → ((d : ℕ) → d ≤ 8 → P d (disk_at disks d)) → P dev k → (d : ℕ) → d ≤ 8 → P d (disk_at (set disks dev k) d)
each_set P disks dev k are le old new d h = ⊎_elim
    (λ e. subst (λ (i : ℕ). P i (disk_at (set disks dev k) i)) (sym e) (subst (P dev) (sym (disk_at-set_same disks dev k are le)) new))
    (λ ne. subst (P d) (sym (disk_at-set_other disks dev d k ne)) (old d h))
    (cases_eq d dev)

pub devices-set : (disks : List DiskState) (dev : ℕ) (k : DiskState) → AreDevices disks → dev ≤ 8 → length k.seen ≡ device_len dev → IsSound k → AreDevices (set disks dev k)
devices-set disks dev k are le len sound = record {
  count = length-set disks dev k ∙ are.count;
  lens = each_set (λ d j. length j.seen ≡ device_len d) disks dev k are le are.lens len;
  sound = each_set (λ d j. IsSound j) disks dev k are le are.sound sound;
}

pub length-settled : (pick : Pick) (k : DiskState) → IsSound k → length (settled pick k).seen ≡ length k.seen
length-settled pick k sound = length-map-range_with_len (left_at pick k) 0 (length k.synced) ∙ sound.synced_len

pub settled-sound : (pick : Pick) (k : DiskState) → IsSound k → IsSound (settled pick k)
settled-sound pick k sound = record {
  synced_len = refl;
  pending_len = length-copies (length k.pending) false ∙ sound.pending_len ∙ sym (length-settled pick k sound);
  same = λ i h. refl;
  seen_bytes = bytes-left pick k sound;
  synced_bytes = bytes-left pick k sound;
}

pub settled-settled : (pick : Pick) (k : DiskState) → IsSettled (settled pick k)
settled-settled pick k i = get_or-copies_any (length k.pending) i false

-- where nothing is pending a crash changes nothing
pub settled-same : (pick : Pick) (k : DiskState) → IsSound k → IsSettled k → settled pick k ≡ k
settled-same pick k sound none =
    let n : ℕ = length k.synced in
    let each : (i : ℕ) → get_or k.seen i 0 ≡ left_at pick k i = λ i. sym (left_at-settled pick k i sound (none i)) in
    let e1 : k.seen ≡ map (left_at pick k) (range_with_len 0 n) = fill_by_all (left_at pick k) k.seen n 0 (sym sound.synced_len) (λ i h. each i) in
    let e2 : k.synced ≡ map (left_at pick k) (range_with_len 0 n) = fill_by_all (left_at pick k) k.synced n 0 refl (λ i h. sym (sound.same i (none i)) ∙ each i) in
    let e3 : k.pending ≡ copies (length k.pending) false = ext_get_or false k.pending (copies (length k.pending) false) (sym (length-copies (length k.pending) false)) (λ i h. none i ∙ sym (get_or-copies_any (length k.pending) i false)) in
    ap (λ (s : List ℕ). record { seen = s; synced = (settled pick k).seen; pending = copies (length k.pending) false }) (sym e1)
    ∙ ap (λ (s : List ℕ). record { seen = k.seen; synced = s; pending = copies (length k.pending) false }) (sym e2)
    ∙ ap (λ (p : List Bool). record { seen = k.seen; synced = k.synced; pending = p }) (sym e3)

pub devices-map : (pick : Pick) (disks : List DiskState) → AreDevices disks → AreDevices (map (settled pick) disks)
devices-map pick disks are = record {
  count = length-map disks (settled pick) ∙ are.count;
  lens = λ d h. ap (λ (k : DiskState). length k.seen) (disk_at-map disks (settled pick) d are h) ∙ length-settled pick (disk_at disks d) (are.sound d h) ∙ are.lens d h;
  sound = λ d h. subst IsSound (sym (disk_at-map disks (settled pick) d are h)) (settled-sound pick (disk_at disks d) (are.sound d h));
}

pub settled-map : (pick : Pick) (disks : List DiskState) → AreDevices disks → AreSettled (map (settled pick) disks)
settled-map pick disks are d h = subst IsSettled (sym (disk_at-map disks (settled pick) d are h)) (settled-settled pick (disk_at disks d))

pub map-settled_same : (pick : Pick) (disks : List DiskState) → AreDevices disks → AreSettled disks → map (settled pick) disks ≡ disks
map-settled_same pick disks are none =
    let count = are.count in
    ext_get_or (record { seen = []; synced = []; pending = [] }) (map (settled pick) disks) disks (length-map disks (settled pick)) (λ i h.
    let le : i ≤ 8 = omega (arith, length-map disks (settled pick)) in
    disk_at-map disks (settled pick) i are le ∙ settled-same pick (disk_at disks i) (are.sound i le) (none i le))

pub written-devices : (disks : List DiskState) (dev at : ℕ) (bytes : List ℕ) → AreDevices disks → dev ≤ 8 → at + length bytes ≤ device_len dev → AreBytes bytes → AreDevices (set disks dev (written at bytes (disk_at disks dev)))
written-devices disks dev at bytes are le h new =
    let k = disk_at disks dev in
    let fits : at + length bytes ≤ length k.seen = subst (λ n. at + length bytes ≤ n) (sym (are.lens dev le)) h in
    devices-set disks dev (written at bytes k) are le (length-middle at bytes k.seen fits ∙ are.lens dev le) (written-sound at bytes k fits new (are.sound dev le))

pub synced-devices : (pick : Pick) (disks : List DiskState) (dev : ℕ) → AreDevices disks → dev ≤ 8 → AreDevices (set disks dev (settled pick (disk_at disks dev)))
synced-devices pick disks dev are le =
    let k = disk_at disks dev in
    devices-set disks dev (settled pick k) are le (length-settled pick k (are.sound dev le) ∙ are.lens dev le) (settled-sound pick k (are.sound dev le))

pub poked-sound : (at byte : ℕ) (k : DiskState) → at < length k.seen → byte < 256 → IsSound k → IsSound (poked at byte k)
poked-sound at byte k h small sound = record {
  synced_len = length-set k.synced at byte ∙ sound.synced_len ∙ sym (length-set k.seen at byte);
  pending_len = length-set k.pending at false ∙ sound.pending_len ∙ sym (length-set k.seen at byte);
  same = λ i none. ⊎_elim (λ e. here i e) (λ ne. other i ne none) (cases_eq i at);
  seen_bytes = bytes-set k.seen at byte small sound.seen_bytes;
  synced_bytes = bytes-set k.synced at byte small sound.synced_bytes;
}
  where
    here : (i : ℕ) → i ≡ at → get_or (set k.seen at byte) i 0 ≡ get_or (set k.synced at byte) i 0
    here i e = rw e (get_or-set_same k.seen at byte 0 h ∙ sym (get_or-set_same k.synced at byte 0 (omega (arith, sound.synced_len))))

    other : (i : ℕ) → (i ≡ at → ⊥) → get_or (set k.pending at false) i false ≡ false → get_or (set k.seen at byte) i 0 ≡ get_or (set k.synced at byte) i 0
    other i ne none = get_or-set_other k.seen at i byte 0 ne ∙ sound.same i (sym (get_or-set_other k.pending at i false false ne) ∙ none) ∙ sym (get_or-set_other k.synced at i byte 0 ne)

pub poked-devices : (disks : List DiskState) (dev at byte : ℕ) → AreDevices disks → dev ≤ 8 → at < device_len dev → byte < 256 → AreDevices (set disks dev (poked at byte (disk_at disks dev)))
poked-devices disks dev at byte are le h small =
    let k = disk_at disks dev in
    let fits : at < length k.seen = subst (λ n. at < n) (sym (are.lens dev le)) h in
    devices-set disks dev (poked at byte k) are le (length-set k.seen at byte ∙ are.lens dev le) (poked-sound at byte k fits small (are.sound dev le))

pub blank_at : (dev : ℕ) → dev ≤ 8 → disk_at blanks dev ≡ blank (device_len dev)
unfolding blanks
blank_at dev h = get_or-map-range_with_len (λ d. blank (device_len d)) 0 9 dev dev (record { seen = []; synced = []; pending = [] }) (omega arith) (omega arith)

length-blanks : length blanks ≡ 9
unfolding blanks
length-blanks = length-map-range_with_len (λ d. blank (device_len d)) 0 9

pub devices-blanks : AreDevices blanks
devices-blanks = record {
  count = length-blanks;
  lens = λ d h. ap (λ (k : DiskState). length k.seen) (blank_at d h) ∙ length-copies (device_len d) 0;
  sound = λ d h. subst IsSound (sym (blank_at d h)) (record {
    synced_len = refl;
    pending_len = length-copies (device_len d) false ∙ sym (length-copies (device_len d) 0);
    same = λ i none. refl;
    seen_bytes = bytes-copies (device_len d);
    synced_bytes = bytes-copies (device_len d);
  });
}

pub settled-blanks : AreSettled blanks
settled-blanks d h = subst IsSettled (sym (blank_at d h)) (λ i. get_or-copies_any (device_len d) i false)

pub settled_from_all : (disks : List DiskState) → AreDevices disks → All IsSettled disks → AreSettled disks
settled_from_all disks are all d h = all d (record { seen = []; synced = []; pending = [] }) (let count = are.count in omega arith)

pub all_from_settled : (disks : List DiskState) → AreDevices disks → AreSettled disks → All IsSettled disks
all_from_settled disks are none d k h =
    let count = are.count in
    subst IsSettled (get_or_default disks d (record { seen = []; synced = []; pending = [] }) k h) (none d (omega arith))
