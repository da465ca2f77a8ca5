-- What the calls of the devices in memory promise to the layers above. It serves the goals of memory_rig.rt.
use Rattle.std.proofs.Common.{◌≡◌, ◌⊎◌, ⊎_elim, inl, inr, ℕ, ◌+◌, ◌-◌, ◌<◌, ◌≤◌, Bool, true, false, List, [], ◌∷◌, ◌++◌, length, take, drop, map, get_or, set, refl, sym, ap, ◌∙◌, subst, arith, length-append}
use Rattle.std.proofs.lemmas.List.{take_all, take-append-le, ext_get_or, get_or_past, get_or-take, get_or-drop, take_at, drop_at, drop_all, append-nil, length-take-le, length-drop}
use Rattle.std.proofs.lemmas.List.Elements.{All-drop, All-take}
use Rattle.std.proofs.lemmas.List.FromFn.{get_or-map-range_with_len, length-map-range_with_len}
use Rattle.std.proofs.lemmas.Bool.{cases_lt, cases_Bool, cases_eq}
use Rattle.sd_base.specs.declared.trouble.Pick.{Pick}
use Rattle.sd_base.specs.declared.trouble.Pick.TheVariants.{Keep}
use Rattle.sd_rig.specs.Devices.{AgreesOutside, AreBytes, DeviceImages, Elapses, IsOneStep, Leaves, LeavesOnly, LeavesTorn, MayTear, device_len, overwritten}
use Rattle.sd_rig.specs.Disk.{DiskState, IsSettled, IsSound, MayLeave, left_at, settled, written}
use Rattle.sd_rig.specs.History.{Event, Synced}
use Rattle.sd_rig.specs.Replay.{AreDevices, AreSettled, LeftSince, blanks, changed, disk_at, left_of, replayed}
use Rattle.sd_rig.proofs.Bytes.{bytes-left, bytes-middle}
use Rattle.sd_rig.proofs.Replays.{disk_at-map, disk_at-set_other, disk_at-set_same, settled-settled, settled-sound}
use Rattle.sd_rig.proofs.Places.{get_or-before, get_or-behind, get_or-inside, left_at-settled, length-middle, marked-before, marked-behind, outside_marks}

-- the images of the events so far are among those with one more
earlier_events : (events : List Event) (e : Event) (k : ℕ) (img : DeviceImages) → k ≤ length events → Leaves (left_of (replayed (take k (events ++ e ∷ [])) blanks)) img → Leaves (left_of (replayed (take k events) blanks)) img
earlier_events events e k img le l = subst (λ (es : List Event). Leaves (left_of (replayed es blanks)) img) (take-append-le k events (e ∷ []) le) l

later_events : (events : List Event) (e : Event) (k : ℕ) (img : DeviceImages) → k ≤ length events → Leaves (left_of (replayed (take k events) blanks)) img → Leaves (left_of (replayed (take k (events ++ e ∷ [])) blanks)) img
later_events events e k img le l = subst (λ (es : List Event). Leaves (left_of (replayed es blanks)) img) (sym (take-append-le k events (e ∷ []) le)) l

elapses_one : (events : List Event) (e : Event) → Elapses (length events) (length (events ++ e ∷ [])) (LeftSince events) (LeftSince (events ++ e ∷ []))
elapses_one events e =
    let len = length-append events (e ∷ []) in
    record {
      later = omega arith;
      splits = λ t img le l. ⊎_elim
          (λ h. inl (record { moment = l.moment; from = l.from; until = omega arith; left = earlier_events events e l.moment img (omega arith) l.left }))
          (λ h. inr (record { moment = l.moment; from = h; until = l.until; left = l.left }))
          (cases_lt l.moment (length events));
      keeps = λ t img le l. let until = l.until in record { moment = l.moment; from = l.from; until = omega arith; left = later_events events e l.moment img until l.left };
    }

pub elapses-noted : (events events' : List Event) (e : Event) → events' ≡ events ++ e ∷ [] → Elapses (length events) (length events') (LeftSince events) (LeftSince events')
elapses-noted events events' e h = subst (λ (es : List Event). Elapses (length events) (length es) (LeftSince events) (LeftSince es)) (sym h) (elapses_one events e)

elapses_none : (events : List Event) → Elapses (length events) (length events) (LeftSince events) (LeftSince events)
elapses_none events = record { later = omega arith; splits = λ t img le l. inl l; keeps = λ t img le l. l }

pub elapses-same : (events events' : List Event) → events' ≡ events → Elapses (length events) (length events') (LeftSince events) (LeftSince events')
elapses-same events events' h = subst (λ (es : List Event). Elapses (length events) (length es) (LeftSince events) (LeftSince es)) (sym h) (elapses_none events)

-- the images since the moment before a call are those of the devices before it or after it
pub step-noted : (events events' : List Event) (e : Event) (disks disks' : List DiskState) → events' ≡ events ++ e ∷ [] → disks ≡ replayed events blanks → disks' ≡ replayed events' blanks → IsOneStep (length events) (LeftSince events') (left_of disks) (left_of disks')
step-noted events events' e disks disks' more told told' img l =
    let len : length events' ≡ length events + 1 = ap length more ∙ length-append events (e ∷ []) in
    let from = l.from in
    let until = l.until in
    ⊎_elim
    (λ (h : l.moment ≡ length events). inl (subst (λ (ks : List DiskState). Leaves (left_of ks) img) (before h) l.left))
    (λ ne. inr (subst (λ (ks : List DiskState). Leaves (left_of ks) img) (after (omega arith)) l.left))
    (cases_eq l.moment (length events))
  where
    before : l.moment ≡ length events → replayed (take l.moment events') blanks ≡ disks
    before h =
        ap (λ n. replayed (take n events') blanks) h ∙ ap (λ (es : List Event). replayed (take (length events) es) blanks) more
        ∙ ap (λ (es : List Event). replayed es blanks) (take_at events (e ∷ []) (length events) refl) ∙ sym told

    after : l.moment ≡ length events' → replayed (take l.moment events') blanks ≡ disks'
    after h = ap (λ n. replayed (take n events') blanks) h ∙ ap (λ (es : List Event). replayed es blanks) (take_all (length events') events' (omega arith)) ∙ sym told'

pub step-same : (events events' : List Event) (disks : List DiskState) (leaves : ℕ → List ℕ → Type 0) → events' ≡ events → disks ≡ replayed events blanks → IsOneStep (length events) (LeftSince events') (left_of disks) leaves
step-same events events' disks leaves same told img l =
    let len : length events' ≡ length events = ap length same in
    let from = l.from in
    let until = l.until in
    let end : l.moment ≡ length events = omega arith in
    inl (subst (λ (ks : List DiskState). Leaves (left_of ks) img)
    (ap (λ n. replayed (take n events') blanks) end ∙ ap (λ (es : List Event). replayed (take (length events) es) blanks) same ∙ ap (λ (es : List Event). replayed es blanks) (take_all (length events) events (omega arith)) ∙ sym told)
    l.left)

-- bytes agree outside a range as they do place by place
agrees_place : (at n : ℕ) (b c : List ℕ) → AgreesOutside at n b c → (i : ℕ) → (i < at) ⊎ (at + n ≤ i) → get_or c i 0 ≡ get_or b i 0
agrees_place at n b c a i = ⊎_elim
    (λ lt. sym (get_or-take at c i 0 lt) ∙ ap (λ (l : List ℕ). get_or l i 0) a.before ∙ get_or-take at b i 0 lt)
    (λ le. behind le)
  where
    behind : at + n ≤ i → get_or c i 0 ≡ get_or b i 0
    behind le =
        let place : at + n + (i - (at + n)) ≡ i = omega arith in
        ap (λ j. get_or c j 0) (sym place) ∙ sym (get_or-drop (at + n) c (i - (at + n)) 0) ∙ ap (λ (l : List ℕ). get_or l (i - (at + n)) 0) a.behind ∙ get_or-drop (at + n) b (i - (at + n)) 0 ∙ ap (λ j. get_or b j 0) place

pub agrees_overwritten : (at : ℕ) (bytes old : List ℕ) → at + length bytes ≤ length old → AgreesOutside at (length bytes) old (overwritten at bytes old)
agrees_overwritten at bytes old h =
    let front = length-take-le at old (omega arith) in
    record {
      size = length-middle at bytes old h;
      before = take-append-le at (take at old ++ bytes) (drop (at + length bytes) old) (omega (arith, length-append (take at old) bytes)) ∙ take_at (take at old) bytes at front;
      behind = drop_at (take at old ++ bytes) (drop (at + length bytes) old) (at + length bytes) (omega (arith, length-append (take at old) bytes));
    }

pub agrees_same : (at n : ℕ) (bytes : List ℕ) → AgreesOutside at n bytes bytes
agrees_same at n bytes = record { size = refl; before = refl; behind = refl }

-- what may be left after a write was left before, but for the range
torn_from : (at : ℕ) (bytes : List ℕ) (k : DiskState) → at + length bytes ≤ length k.seen → IsSound k → (c : List ℕ) → MayLeave (written at bytes k) c → (b : List ℕ) × MayLeave k b × AgreesOutside at (length bytes) b c × AreBytes c
torn_from at bytes k h sound c left =
    (b, record { size = b_size; stable = b_stable; are_bytes = b_bytes }, record { size = size ∙ sym b_size; before = sym before; behind = sym behind }, left.are_bytes)
  where
    n : ℕ
    n = length bytes

    fits : at + length bytes ≤ length k.synced
    fits = omega (arith, sound.synced_len)

    marks : at + length bytes ≤ length k.pending
    marks = omega (arith, sound.pending_len)

    size : length c ≡ length k.synced
    size = left.size

    mid : List ℕ
    mid = take (length bytes) (drop at k.synced)

    mid_size : length mid ≡ length bytes
    mid_size = length-take-le (length bytes) (drop at k.synced) (omega (arith, length-drop at k.synced))

    b : List ℕ
    b = take at c ++ mid ++ drop (at + length mid) c

    within : at + length mid ≤ length c
    within = omega (arith, mid_size, fits, size)

    b_bytes : AreBytes b
    b_bytes = bytes-middle at (at + length mid) mid c c (All-take (λ x. x < 256) (length bytes) (drop at k.synced) (All-drop (λ x. x < 256) at k.synced sound.synced_bytes)) left.are_bytes left.are_bytes

    b_size : length b ≡ length k.synced
    b_size = length-middle at mid c within ∙ size

    before : take at b ≡ take at c
    before = (agrees_overwritten at mid c within).before

    behind : drop (at + length bytes) b ≡ drop (at + length bytes) c
    behind = subst (λ m. drop (at + m) b ≡ drop (at + m) c) mid_size (agrees_overwritten at mid c within).behind

    b_stable : (i : ℕ) → get_or k.pending i false ≡ false → get_or b i 0 ≡ get_or k.synced i 0
    b_stable i none = ⊎_elim
        (λ lt. get_or-before at i mid c 0 (omega (arith, within)) lt ∙ left.stable i (marked-before at (length bytes) i k.pending marks lt ∙ none))
        (λ ge. ⊎_elim
        (λ lt. get_or-inside at i mid c 0 (omega (arith, within)) ge (omega (arith, mid_size)) ∙ get_or-take (length bytes) (drop at k.synced) (i - at) 0 (omega arith) ∙ get_or-drop at k.synced (i - at) 0 ∙ ap (λ j. get_or k.synced j 0) (omega arith))
        (λ le. get_or-behind at i mid c 0 within (omega (arith, mid_size)) ∙ left.stable i (marked-behind at (length bytes) i k.pending marks le ∙ none))
        (cases_lt i (at + length bytes)))
        (cases_lt i at)

torn_to : (at : ℕ) (bytes : List ℕ) (k : DiskState) → at + length bytes ≤ length k.seen → IsSound k → (b c : List ℕ) → MayLeave k b → AgreesOutside at (length bytes) b c → AreBytes c → MayLeave (written at bytes k) c
torn_to at bytes k h sound b c left a are = record {
  size = a.size ∙ left.size;
  stable = λ i none. let out = outside_marks at (length bytes) i k.pending (omega (arith, sound.pending_len)) none in agrees_place at (length bytes) b c a i out.0 ∙ left.stable i out.1;
  are_bytes = are;
}

pub torn-written : (at : ℕ) (bytes : List ℕ) (k : DiskState) → at + length bytes ≤ length k.seen → IsSound k → LeavesTorn at (length bytes) (MayLeave k) (MayLeave (written at bytes k))
torn-written at bytes k h sound c = (torn_from at bytes k h sound c, λ f. torn_to at bytes k h sound f.0 c f.1 f.2 f.3)

pub tear-written : (at : ℕ) (bytes : List ℕ) (k : DiskState) → at + length bytes ≤ length k.seen → IsSound k → MayTear at (length bytes) (MayLeave k) (MayLeave (written at bytes k))
tear-written at bytes k h sound c = (λ l. torn_to at bytes k h sound c c l (agrees_same at (length bytes) c) l.are_bytes, λ l. let f = torn_from at bytes k h sound c l in (f.0, f.1, f.2))

pub tear-same : (at n : ℕ) (leaves : List ℕ → Type 0) → MayTear at n leaves leaves
tear-same at n leaves c = (λ l. l, λ l. (c, l, agrees_same at n c))

-- where nothing is pending a crash leaves what a read gives
pub only-settled : (k : DiskState) → IsSound k → IsSettled k → LeavesOnly k.seen (MayLeave k)
only-settled k sound none c = (
  λ left. ext_get_or 0 c k.seen (left.size ∙ sound.synced_len) (λ i h. left.stable i (none i) ∙ sym (sound.same i (none i))),
  λ e. subst (MayLeave k) (sym e) (record { size = sym sound.synced_len; stable = sound.same; are_bytes = sound.seen_bytes }),
)

-- a sync keeps what a read gives
pub synced-seen : (k : DiskState) → IsSound k → (settled Keep k).seen ≡ k.seen
synced-seen k sound = ext_get_or 0 (settled Keep k).seen k.seen (length-map-range_with_len (left_at Keep k) 0 (length k.synced) ∙ sound.synced_len)
    (λ i h. get_or-map-range_with_len (left_at Keep k) 0 (length k.synced) i i 0 (omega (arith, length-map-range_with_len (left_at Keep k) 0 (length k.synced))) (omega arith) ∙ kept i)
  where
    kept : (i : ℕ) → left_at Keep k i ≡ get_or k.seen i 0
    kept i = ⊎_elim (λ e. rw e refl) (λ e. left_at-settled Keep k i sound e) (cases_Bool (get_or k.pending i false))

-- what a crash makes of a device is what it may leave
pub left-settled : (pick : Pick) (k : DiskState) → IsSound k → MayLeave k (settled pick k).seen
left-settled pick k sound = record { size = length-map-range_with_len (left_at pick k) 0 (length k.synced); stable = each; are_bytes = bytes-left pick k sound }
  where
    none_at : (i : ℕ) → get_or k.pending i false ≡ false → left_at pick k i ≡ get_or k.synced i 0
    none_at i e = rw e refl

    each : (i : ℕ) → get_or k.pending i false ≡ false → get_or (settled pick k).seen i 0 ≡ get_or k.synced i 0
    each i e = ⊎_elim
        (λ h. get_or-map-range_with_len (left_at pick k) 0 (length k.synced) i i 0 h (omega arith) ∙ none_at i e)
        (λ h. get_or_past (settled pick k).seen i 0 (omega (arith, length-map-range_with_len (left_at pick k) 0 (length k.synced))) ∙ sym (get_or_past k.synced i 0 h))
        (cases_lt i (length k.synced))

-- what a write that was noted, or that found no memory, promises
pub time-either : {P Q : Type 0} (events events' : List Event) (e : Event) → (P → events' ≡ events ++ e ∷ []) → (Q → events' ≡ events) → P ⊎ Q → Elapses (length events) (length events') (LeftSince events) (LeftSince events')
time-either events events' e f g = ⊎_elim (λ p. elapses-noted events events' e (f p)) (λ q. elapses-same events events' (g q))

pub step-either : {P Q : Type 0} (events events' : List Event) (e : Event) (disks disks' : List DiskState) → disks ≡ replayed events blanks → disks' ≡ replayed events' blanks → (P → events' ≡ events ++ e ∷ []) → (Q → events' ≡ events) → P ⊎ Q → IsOneStep (length events) (LeftSince events') (left_of disks) (left_of disks')
step-either events events' e disks disks' told told' f g = ⊎_elim (λ p. step-noted events events' e disks disks' (f p) told told') (λ q. step-same events events' disks (left_of disks') (g q) told)

pub torn-at : (disks disks' : List DiskState) (dev at : ℕ) (bytes : List ℕ) → AreDevices disks → dev ≤ 8 → at + length bytes ≤ device_len dev → disks' ≡ set disks dev (written at bytes (disk_at disks dev)) → LeavesTorn at (length bytes) (left_of disks dev) (left_of disks' dev)
torn-at disks disks' dev at bytes are le h made =
    let k = disk_at disks dev in
    let here : disk_at disks' dev ≡ written at bytes k = ap (λ (ks : List DiskState). disk_at ks dev) made ∙ disk_at-set_same disks dev (written at bytes k) are le in
    subst (λ (j : DiskState). LeavesTorn at (length bytes) (MayLeave k) (MayLeave j)) (sym here) (torn-written at bytes k (subst (λ n. at + length bytes ≤ n) (sym (are.lens dev le)) h) (are.sound dev le))

pub tear-at : (disks disks' : List DiskState) (dev at : ℕ) (bytes : List ℕ) → AreDevices disks → dev ≤ 8 → at + length bytes ≤ device_len dev → disks' ≡ set disks dev (written at bytes (disk_at disks dev)) → MayTear at (length bytes) (left_of disks dev) (left_of disks' dev)
tear-at disks disks' dev at bytes are le h made =
    let k = disk_at disks dev in
    let here : disk_at disks' dev ≡ written at bytes k = ap (λ (ks : List DiskState). disk_at ks dev) made ∙ disk_at-set_same disks dev (written at bytes k) are le in
    subst (λ (j : DiskState). MayTear at (length bytes) (MayLeave k) (MayLeave j)) (sym here) (tear-written at bytes k (subst (λ n. at + length bytes ≤ n) (sym (are.lens dev le)) h) (are.sound dev le))

pub durable-at : (disks disks' : List DiskState) (dev : ℕ) → AreDevices disks → dev ≤ 8 → disks' ≡ set disks dev (settled Keep (disk_at disks dev)) → LeavesOnly (disk_at disks dev).seen (left_of disks' dev)
durable-at disks disks' dev are le made =
    let k = disk_at disks dev in
    let here : disk_at disks' dev ≡ settled Keep k = ap (λ (ks : List DiskState). disk_at ks dev) made ∙ disk_at-set_same disks dev (settled Keep k) are le in
    let only : LeavesOnly (settled Keep k).seen (MayLeave (settled Keep k)) = only-settled (settled Keep k) (settled-sound Keep k (are.sound dev le)) (settled-settled Keep k) in
    subst (λ (j : DiskState). LeavesOnly k.seen (MayLeave j)) (sym here) (subst (λ (bytes : List ℕ). LeavesOnly bytes (MayLeave (settled Keep k))) (synced-seen k (are.sound dev le)) only)

pub seen-synced : (disks disks' : List DiskState) (dev : ℕ) → AreDevices disks → dev ≤ 8 → disks' ≡ set disks dev (settled Keep (disk_at disks dev)) → (d : ℕ) → (disk_at disks' d).seen ≡ (disk_at disks d).seen
seen-synced disks disks' dev are le made d =
    let k = disk_at disks dev in
    ap (λ (ks : List DiskState). (disk_at ks d).seen) made ∙ ⊎_elim
    (λ e. rw e (ap (λ (j : DiskState). j.seen) (disk_at-set_same disks dev (settled Keep k) are le) ∙ synced-seen k (are.sound dev le)))
    (λ ne. ap (λ (j : DiskState). j.seen) (disk_at-set_other disks dev d (settled Keep k) ne))
    (cases_eq d dev)

pub crash-left : (pick : Pick) (disks disks' : List DiskState) → AreDevices disks → disks' ≡ map (settled pick) disks → Leaves (left_of disks) (λ d. (disk_at disks' d).seen)
crash-left pick disks disks' are made d h =
    let here : disk_at disks' d ≡ settled pick (disk_at disks d) = ap (λ (ks : List DiskState). disk_at ks d) made ∙ disk_at-map disks (settled pick) d are h in
    subst (λ (j : DiskState). MayLeave (disk_at disks d) j.seen) (sym here) (left-settled pick (disk_at disks d) (are.sound d h))

pub crash-durable : (disks : List DiskState) → AreDevices disks → AreSettled disks → (d : ℕ) → d ≤ 8 → LeavesOnly (disk_at disks d).seen (left_of disks d)
crash-durable disks are none d h = only-settled (disk_at disks d) (are.sound d h) (none d h)

-- whether it succeeds or not
pub sync-seen : (disks disks' : List DiskState) (dev : ℕ) (ok : Bool) → AreDevices disks → dev ≤ 8 → disks' ≡ changed (Synced dev ok) disks → (d : ℕ) → (disk_at disks' d).seen ≡ (disk_at disks d).seen
sync-seen disks disks' dev true are le made d = seen-synced disks disks' dev are le made d
sync-seen disks disks' dev false are le made d = ap (λ (ks : List DiskState). (disk_at ks d).seen) made

-- a device that is written whole
overwritten-whole : (image old : List ℕ) → length image ≡ length old → overwritten 0 image old ≡ image
overwritten-whole image old len = ap (λ l. image ++ l) (drop_all (0 + length image) old (omega (arith, len))) ∙ append-nil image

pub loaded-seen : (disks disks' : List DiskState) (dev : ℕ) (image : List ℕ) → AreDevices disks → dev ≤ 8 → length image ≡ device_len dev → disks' ≡ set disks dev (written 0 image (disk_at disks dev)) → (disk_at disks' dev).seen ≡ image
loaded-seen disks disks' dev image are le len made =
    let k = disk_at disks dev in
    ap (λ (ks : List DiskState). (disk_at ks dev).seen) made ∙ ap (λ (j : DiskState). j.seen) (disk_at-set_same disks dev (written 0 image k) are le)
    ∙ overwritten-whole image k.seen (len ∙ sym (are.lens dev le))
