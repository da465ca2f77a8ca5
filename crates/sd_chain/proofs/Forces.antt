-- A log is forced, its force fails, its tail is dropped, or it is settled: for the laws `force`, `drop_tail`, `settle` and
-- `sync`.
use Rattle.std.proofs.Common.{◌≡◌, inr, ⊎_elim, ℕ, ◌≤◌, Bool, true, false, cond, List, [], ◌++◌, refl, sym, ap, ◌∙◌, subst, arith, map, append-nil}
use Rattle.std.proofs.lemmas.Bool.{cases_eq}
use Rattle.sd_logrec.specs.Kept.{BadGroup, Group, NoRecord, Reading, Whole, area, kept, reading}
use Rattle.sd_logrec.specs.View.{flat}
use Rattle.sd_chain.specs.Bytes.{records_of}
use Rattle.sd_log.specs.Logs.{LogState, StandsOn, forced, without_tail}
use Rattle.sd_log.specs.Forces.{StandsEither, forced_at, forced_len}
use Rattle.sd_rig.specs.Devices.{AgreesOutside}
use Rattle.sd_chain.specs.Checks.{gate_of}
use Rattle.sd_chain.specs.Images.{Settled}
use Rattle.sd_chain.specs.Logs.{Outcomes, base_at, may_of, tail_at, tails_of}
use Rattle.sd_chain.specs.Soundly.{IsReady, IsSoundly, LogIsSound}
use Rattle.sd_chain.specs.ChecksKept.{DroppedKeeps, FailedForceKeeps, ForceLeavesSound, ForcedKeeps, SettledKeeps, SyncedKeeps}
use Rattle.sd_chain.proofs.Kept.{forced-base, forced-start, forced-tail}
use Rattle.sd_chain.proofs.Ready.{bare-ready, forced-ready, sound-parts}
use Rattle.sd_chain.proofs.ChecksPass.{ready-sound}
use Rattle.sd_chain.proofs.Changed.{changed-soundly, lsns-same, may-less, settled-lsns}

-- An image that a force of log i may leave passes all seven checks.
pub force-left : (leaves : Outcomes) → ForceLeavesSound leaves
force-left leaves i logs seen version img low high inst left s safe none f =
    let zero_left : leaves 0 (img 0) = f.others 0 (omega arith) (λ e. let is = e ∙ inst in omega (arith, low, is)) in
    ready-sound logs (may_of leaves) img version safe none ready (λ p lt. s.twins p lt (img 0) zero_left)
    (λ p. (img 0, zero_left, refl)) s.lsns
  where
    ready : (j : ℕ) → 1 ≤ j → j ≤ 8 → IsReady j (img j) (logs j)
    ready j lo hi = ⊎_elim
        (λ e. subst (λ (k : ℕ). IsReady k (img k) (logs k)) (sym e)
        (forced-ready i (forced_at (logs i)) (forced_len (logs i)) (seen i) (img i) (logs i) (omega arith)
        (subst (λ (k : ℕ). AgreesOutside (forced_at (logs i)) (forced_len (logs i)) (seen k) (img k)) inst f.outside)
        (subst (λ (k : ℕ). StandsEither (logs i) (img k)) inst f.whole) (s.ready i low high (seen i) left)))
        (λ ne. s.ready j lo hi (img j) (f.others j hi (λ e. ne (e ∙ inst))))
        (cases_eq j i)

-- after a force that is Ok
pub forced-keeps : (leaves leaves' : Outcomes) → ForcedKeeps leaves leaves'
forced-keeps leaves leaves' i old new was bytes left s less at outside stands durable =
    let high = at.high in
    let r = forced-ready i (forced_at (old i)) (forced_len (old i)) was bytes (old i) (omega arith) outside (inr stands)
    (s.ready i at.low at.high was left) in
    let now : IsReady i bytes (forced (old i)) =
    bare-ready i bytes (forced (old i)) (forced-tail (old i)) (r.start ∙ sym (forced-start (old i))) stands r.slots
    r.sound_forced in
    changed-soundly i leaves leaves' old new at.low s less at.others
    (λ b l. subst (λ (x : List ℕ). IsReady i x (new i)) (sym ((durable b).0 l)) (subst (IsReady i bytes) (sym at.here) now))
    (settled-lsns i true (tails_of old) (tails_of new) (may_of leaves) (may_of leaves') (record {
      inside = omega (arith, high);
      base = ap base_at at.here ∙ forced-base (old i);
      tail = ap tail_at at.here ∙ ap (map flat) (forced-tail (old i));
      other_bases = λ j ne. ap base_at (at.others j ne);
      other_tails = λ j ne. ap tail_at (at.others j ne);
    }) (may-less i leaves leaves' at.low less) s.lsns)

-- after a force that failed: the log stays, and may stand either way
pub failed-keeps : (leaves leaves' : Outcomes) → FailedForceKeeps leaves leaves'
failed-keeps leaves leaves' i logs was low high left s less may =
    changed-soundly i leaves leaves' logs logs low s less (λ j ne. refl)
    (λ b l. let m = may b l in
    forced-ready i (forced_at (logs i)) (forced_len (logs i)) was b (logs i) (omega arith) m.0 m.1
    (s.ready i low high was left))
    (λ keeps. lsns-same (tails_of logs) (tails_of logs) (may_of leaves) (may_of leaves') keeps keeps (λ j. refl)
    (may-less i leaves leaves' low less) (s.lsns keeps))

-- less may be left of each device, as after a sync, and the logs stay
pub synced-keeps : (leaves leaves' : Outcomes) → SyncedKeeps leaves leaves'
synced-keeps leaves leaves' logs less s =
    changed-soundly 1 leaves leaves' logs logs (omega arith) s (λ d ne bytes l. less d bytes l) (λ j ne. refl)
    (λ b l. s.ready 1 (omega arith) (omega arith) b (less 1 b l))
    (λ keeps. lsns-same (tails_of logs) (tails_of logs) (may_of leaves) (may_of leaves') keeps keeps (λ j. refl)
    (λ p x m. (m.0, less 0 m.0 m.1, m.2)) (s.lsns keeps))

-- The tail of a log is dropped that stands on its device without it.
pub dropped-keeps : (leaves : Outcomes) → DroppedKeeps leaves
dropped-keeps leaves i old new s stands at =
    let high = at.high in
    changed-soundly i leaves leaves old new at.low s (λ d ne bytes l. l) at.others
    (λ b l. let r = s.ready i at.low at.high b l in subst (IsReady i b) (sym at.here)
    (bare-ready i b (without_tail (old i)) refl r.start (stands b l) r.slots
    (sound-parts i b (old i) (without_tail (old i)) refl refl r.sound)))
    (settled-lsns i false (tails_of old) (tails_of new) (may_of leaves) (may_of leaves) (record {
      inside = omega (arith, high);
      base = ap base_at at.here ∙ sym (append-nil (base_at (old i)));
      tail = ap tail_at at.here;
      other_bases = λ j ne. ap base_at (at.others j ne);
      other_tails = λ j ne. ap tail_at (at.others j ne);
    }) (λ p x m. m) s.lsns)

-- the groups of a reading
abbrev groups_of : Reading → List Group
groups_of (Whole groups gate) = groups
groups_of (BadGroup at) = []
groups_of (NoRecord at) = []

-- A log is settled: its device is synced and reads as these bytes, which it might be left as, and the log is read again.
pub settled-keeps : (leaves leaves' : Outcomes) → SettledKeeps leaves leaves'
settled-keeps leaves leaves' i old new bytes s less could only at stands start none =
    ⊎_elim
    (λ was. by false (old i) refl (sym (append-nil (base_at (old i)))) was r.sound)
    (λ was. by true (forced (old i)) (forced-start (old i)) (forced-base (old i)) was r.sound_forced)
    r.either
  where
    r : IsReady i bytes (old i)
    r = s.ready i at.low at.high bytes could

    by : (kept : Bool) (log : LogState) → log.start ≡ (old i).start
        → base_at log ≡ base_at (old i) ++ cond kept (tail_at (old i)) []
        → StandsOn log bytes → LogIsSound i bytes log
        → IsSoundly leaves' new × ((k : Bool) × Settled i k (tails_of old) (tails_of new))
    by kept log start' base was sound =
        let high = at.high in
        let same : Whole (new i).groups (new i).gate ≡ Whole log.groups log.gate =
        sym stands ∙ ap (λ (k : ℕ). reading k (area bytes)) (start ∙ sym start') ∙ was in
        let is : Settled i kept (tails_of old) (tails_of new) = record {
          inside = omega (arith, high);
          base = ap records_of same ∙ base;
          tail = ap (map flat) none;
          other_bases = λ j ne. ap base_at (at.others j ne);
          other_tails = λ j ne. ap tail_at (at.others j ne);
        } in
        let now : IsReady i bytes (new i) =
        bare-ready i bytes (new i) none (r.start ∙ sym start) stands r.slots
        (sound-parts i bytes log (new i) (ap groups_of same) (ap gate_of same) sound) in (
          changed-soundly i leaves leaves' old new at.low s less at.others
              (λ b l. subst (λ (x : List ℕ). IsReady i x (new i)) (sym ((only b).0 l)) now)
              (settled-lsns i kept (tails_of old) (tails_of new) (may_of leaves) (may_of leaves') is
              (may-less i leaves leaves' at.low less) s.lsns),
          (kept, is),
        )
