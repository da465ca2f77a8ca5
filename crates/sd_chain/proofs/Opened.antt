-- Sound devices that are read, and synced, are soundly left: for the law `opening`.
use Rattle.std.proofs.Common.{◌≡◌, ⊎_elim, ℕ, ◌+◌, ◌^◌, ◌<◌, ◌≤◌, Bool, false, cond, List, [], ◌++◌, map, length, sym, ap, ap₂, ◌∙◌, subst, arith}
use Rattle.std.specs.Prelude.{is_some, IfSome, IsTrue, ◌==◌}
use Rattle.std.specs.List.{list_any}
use Rattle.std.proofs.lemmas.Bool.{cases_lt}
use Rattle.std.proofs.lemmas.List.{get_or_past}
use Rattle.sd_base.specs.Twin.{body_at, body_of, chosen_body, is_open, number_of, slot_of}
use Rattle.sd_logrec.specs.Kept.{Reading, Whole, area, kept, master, reading}
use Rattle.sd_logrec.specs.View.{flat}
use Rattle.sd_page.specs.Page.{Page, empty_page}
use Rattle.sd_rig.specs.Devices.{LeavesOnly}
use Rattle.sd_rig.specs.Devices as rig
use Rattle.sd_chain.specs.Bytes.{disk_page, log_of, page_in, records_of, twin_at}
use Rattle.sd_chain.specs.Checks.{DevicesAreSound, Follow, TwinIsSound, gate_of, is_end_check, owed, owed_by_all, past_of, placed_of, reserve}
use Rattle.sd_chain.specs.Images.{Keeps}
use Rattle.sd_chain.specs.Records.{Each}
use Rattle.sd_chain.specs.Logs.{Logs, Outcomes, base_at, kept_logs, owed_with, tails_of}
use Rattle.sd_chain.specs.Soundly.{IsReady, IsSoundly, LogIsSound}
use Rattle.sd_chain.specs.ChecksKept.{IsRead}
use Rattle.sd_chain.proofs.Sums.{sum-eight}
use Rattle.sd_chain.proofs.Kept.{log-here, no-tail}
use Rattle.sd_chain.proofs.Ready.{bare-ready}
use Rattle.sd_chain.proofs.ChecksPass.{any-map}

-- behind the end of a device no gate is open
shut_past : (gate : ℕ) (bytes : List ℕ) → length bytes ≤ gate → is_open gate bytes ≡ false
shut_past gate bytes le = ap (λ (b : ℕ). b == 165) (get_or_past bytes gate 0 le)

-- so there is no page
pub past-page : (p : ℕ) (bytes : List ℕ) → length bytes ≤ twin_at p → disk_page bytes p ≡ empty_page p
past-page p bytes le = ap (page_in p)
    (ap₂ (λ (x y : Bool). body_of
    (slot_of x y (number_of (body_at 1024 (twin_at p) bytes)) (number_of (body_at 1024 (twin_at p + 1024 + 1) bytes)))
    (body_at 1024 (twin_at p) bytes) (body_at 1024 (twin_at p + 1024 + 1) bytes))
    (shut_past (twin_at p) bytes le) (shut_past (twin_at p + 1024 + 1) bytes (omega (arith, le))))

module _ (leaves : Outcomes) (logs : Logs) (seen : rig.DeviceImages) (sound : DevicesAreSound seen)
    (only : (d : ℕ) → d ≤ 8 → LeavesOnly (seen d) (leaves d)) (read : (j : ℕ) → 1 ≤ j → j ≤ 8 → IsRead (seen j) (logs j))
    (size : length (seen 0) ≡ rig.device_len 0) where
  reads : (j : ℕ) → 1 ≤ j → j ≤ 8 → kept (seen j) ≡ Whole (logs j).groups (logs j).gate
  reads j lo hi = ap (λ (k : ℕ). reading k (area (seen j))) (sym (read j lo hi).start) ∙ (read j lo hi).stands

  log-sound : (j : ℕ) (lo : 1 ≤ j) (hi : j ≤ 8) → LogIsSound j (seen j) (logs j)
  log-sound j lo hi =
      let r = reads j lo hi in
      let room = sound.room j lo hi in
      let gate = ap gate_of r in
      let same = ap reserve (log-here seen j lo hi ∙ ap records_of r) in
      record {
        ended = subst (λ (b : Bool). IfSome (chosen_body 0 64 (seen j)) (λ _. IsTrue b))
            (ap (λ (x : Reading). list_any (λ y. is_end_check (master (seen j)).check y.1) (placed_of x)) r
            ∙ any-map (is_end_check (master (seen j)).check) (placed_of (Whole (logs j).groups (logs j).gate)))
            (sound.masters j lo hi).ended;
        follow = subst (λ (x : Reading). Follow j (is_some (chosen_body 0 64 (seen j))) (master (seen j))
            (past_of (master (seen j))) (map (λ y. y.1) (placed_of x))) r (sound.groups j lo hi).follow;
        room = omega (arith, room, gate, same);
      }

  ready : (j : ℕ) (lo : 1 ≤ j) (hi : j ≤ 8) → IsReady j (seen j) (logs j)
  ready j lo hi = let m = sound.masters j lo hi in
      bare-ready j (seen j) (logs j) (read j lo hi).tail (sym (read j lo hi).start) (read j lo hi).stands
      (record { differ = m.differ; first = m.first; second = m.second }) (log-sound j lo hi)

  same-log : (keeps : Keeps) (j : ℕ) → 1 ≤ j → j ≤ 8 → kept_logs (tails_of logs) keeps j ≡ log_of seen j
  same-log keeps j lo hi = ap (λ t. base_at (logs j) ++ cond (keeps j) (map flat t) []) (read j lo hi).tail
      ∙ no-tail (keeps j) (base_at (logs j)) ∙ sym (log-here seen j lo hi ∙ ap records_of (reads j lo hi))

  same-owed : (keeps : Keeps) → owed_with (tails_of logs) keeps ≡ owed_by_all seen
  same-owed keeps = sum-eight (λ j. owed (kept_logs (tails_of logs) keeps j)) (λ j. owed (log_of seen j))
      (λ j lo hi. ap owed (same-log keeps j lo hi))

  -- a page's LSN with what is owed; there are no more than 1,024
  page-low : (p : ℕ) → (disk_page (seen 0) p).lsn + owed_by_all seen < 2 ^ 62
  page-low p = ⊎_elim
      (λ lt. sound.lsns.pages p lt)
      (λ ge. let none = ap (λ (x : Page). x.lsn) (past-page p (seen 0) (omega (arith, size, ge))) in
      let zero_low = sound.lsns.pages 0 (omega arith) in omega (arith, none, zero_low))
      (cases_lt p 1024)

  -- so all is sound
  pub opened-sound : IsSoundly leaves logs
  opened-sound = record {
    ready = λ j lo hi bytes l. subst (λ (b : List ℕ). IsReady j b (logs j)) (sym ((only j hi bytes).0 l)) (ready j lo hi);
    twins = λ p lt bytes l. subst (TwinIsSound p) (sym ((only 0 (omega arith) bytes).0 l)) (sound.twins p lt);
    lsns = λ keeps. record {
      logs = λ j lo hi. subst (λ (n : ℕ). Each (λ x. x.lsn + n < 2 ^ 62) (kept_logs (tails_of logs) keeps j))
          (sym (same-owed keeps))
          (subst (Each (λ x. x.lsn + owed_by_all seen < 2 ^ 62)) (sym (same-log keeps j lo hi)) (sound.lsns.logs j));
      pages = λ p x m.
          let low = page-low p in
          let same = same-owed keeps in
          let is : x.lsn ≡ (disk_page (seen 0) p).lsn =
          ap (λ (y : Page). y.lsn) (sym m.2 ∙ ap (λ (b : List ℕ). disk_page b p) ((only 0 (omega arith) m.0).0 m.1)) in
          omega (arith, low, same, is);
    };
  }
