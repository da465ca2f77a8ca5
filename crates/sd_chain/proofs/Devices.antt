-- What a put of a twin and a force of a log do to what the devices keep: for the goals of `devices` in laws.rt, and lent to the
-- crates above.
use Rattle.std.proofs.Common.{◌≡◌, ◌≢◌, ⊎_elim, inl, inr, ℕ, ◌+◌, ◌-◌, ◌*◌, ◌<◌, ◌≤◌, List, [], take, drop, get_or, cond, ltb, ◌&&◌, sym, ap, ◌∙◌, arith}
use Rattle.std.specs.Prelude.{◌==◌}
use Rattle.std.proofs.lemmas.Bool.{cases_lt, cases_eq}
use Rattle.std.proofs.lemmas.List.{drop-drop, drop-take, get_or-drop, get_or-take, take-take}
use Rattle.sd_base.specs.Twin.{body_at, body_of, chosen_body, is_open, number_of, slot_of}
use Rattle.sd_logrec.specs.View.{Rec}
use Rattle.sd_logrec.specs.Kept.{kept}
use Rattle.sd_page.specs.Page.{Page, PageFits}
use Rattle.sd_page.proofs.Told.{told}
use Rattle.sd_rig.specs.Devices.{AgreesOutside}
use Rattle.sd_rig.specs.Devices as rig
use Rattle.sd_chain.specs.Images.{Tails}
use Rattle.sd_chain.specs.Crashes.{CrashLeaves, DuringForce, DuringPut}
use Rattle.sd_chain.specs.Bytes.{disk_page, log_of, page_in, records_of, stable, twin_at, PutsTwin, ForcesLog}
use Rattle.sd_base.proofs.Twins.{byte_within, part_within, open_within, body_within}

-- the body that counts hangs on the bytes of both slots alone
chosen_within : (at n : ℕ) (bytes : List ℕ) → chosen_body 0 n (take (2 * (n + 1)) (drop at bytes)) ≡ chosen_body at n bytes
chosen_within at n bytes =
    let len : ℕ = 2 * (n + 1) in
    let part : List ℕ = take len (drop at bytes) in
    let first : at + 0 ≡ at = omega arith in
    let second : at + (0 + n + 1) ≡ at + n + 1 = omega arith in
    let o1 : is_open 0 part ≡ is_open at bytes = open_within at len 0 bytes (omega arith) ∙ ap (λ p. is_open p bytes) first in
    let o2 : is_open (0 + n + 1) part ≡ is_open (at + n + 1) bytes = open_within at len (0 + n + 1) bytes (omega arith)
    ∙ ap (λ p. is_open p bytes) second in
    let b1 : body_at n 0 part ≡ body_at n at bytes = body_within at len 0 n bytes (omega arith)
    ∙ ap (λ p. body_at n p bytes) first in
    let b2 : body_at n (0 + n + 1) part ≡ body_at n (at + n + 1) bytes = body_within at len (0 + n + 1) n bytes (omega arith)
    ∙ ap (λ p. body_at n p bytes) second in
    ap (λ o. body_of (slot_of o (is_open (0 + n + 1) part) (number_of (body_at n 0 part))
    (number_of (body_at n (0 + n + 1) part))) (body_at n 0 part) (body_at n (0 + n + 1) part)) o1
    ∙ ap (λ o. body_of (slot_of (is_open at bytes) o (number_of (body_at n 0 part)) (number_of (body_at n (0 + n + 1) part)))
    (body_at n 0 part) (body_at n (0 + n + 1) part)) o2
    ∙ ap (λ (b : List ℕ). body_of
    (slot_of (is_open at bytes) (is_open (at + n + 1) bytes) (number_of b) (number_of (body_at n (0 + n + 1) part))) b
    (body_at n (0 + n + 1) part)) b1
    ∙ ap (λ (b : List ℕ). body_of
    (slot_of (is_open at bytes) (is_open (at + n + 1) bytes) (number_of (body_at n at bytes)) (number_of b))
    (body_at n at bytes) b) b2

-- the body of a twin that counts stays where the bytes of both slots do
pub chosen_same : (at n : ℕ) (old new : List ℕ) → take (2 * (n + 1)) (drop at new) ≡ take (2 * (n + 1)) (drop at old)
    → chosen_body at n new ≡ chosen_body at n old
chosen_same at n old new same = sym (chosen_within at n new) ∙ ap (chosen_body 0 n) same ∙ chosen_within at n old

-- a part in front of what may differ is as it was
pub part_before : (at n from len : ℕ) (old new : List ℕ) → AgreesOutside at n old new → from + len ≤ at
    → take len (drop from new) ≡ take len (drop from old)
part_before at n from len old new a le =
    sym (drop-take from len new)
    ∙ ap (drop from) (sym (take-take (from + len) at new le) ∙ ap (take (from + len)) a.before
    ∙ take-take (from + len) at old le) ∙ drop-take from len old

-- a part behind what may differ is as it was
pub part_behind : (at n from len : ℕ) (old new : List ℕ) → AgreesOutside at n old new → at + n ≤ from
    → take len (drop from new) ≡ take len (drop from old)
part_behind at n from len old new a le =
    let place : at + n + (from - (at + n)) ≡ from = omega (arith, le) in
    ap (take len) (ap (λ k. drop k new) (sym place) ∙ sym (drop-drop (from - (at + n)) (at + n) new)
    ∙ ap (drop (from - (at + n))) a.behind ∙ drop-drop (from - (at + n)) (at + n) old ∙ ap (λ k. drop k old) place)

disk_others : (p q : ℕ) (old new : List ℕ) → AgreesOutside (twin_at p) 2050 old new → q ≢ p → disk_page new q ≡ disk_page old q
disk_others p q old new a ne = ap (page_in q) (chosen_same (twin_at q) 1024 old new (⊎_elim
    (λ lt. part_before (twin_at p) 2050 (twin_at q) 2050 old new a (omega (arith, lt)))
    (λ ge. part_behind (twin_at p) 2050 (twin_at q) 2050 old new a (omega (arith, ge, ne)))
    (cases_lt q p)))

logs_same : (j : ℕ) (a b : rig.DeviceImages) → a j ≡ b j → log_of a j ≡ log_of b j
logs_same j a b same = ap (λ (bytes : List ℕ). cond {A = List Rec} (ltb 0 j && ltb j 9) (records_of (kept bytes)) []) same

pub put-during : (p : ℕ) (page : Page) (tails : Tails) (may : ℕ → Page → Type 0) (before after : rig.DeviceImages) → PageFits page
    → CrashLeaves tails may (stable before) → PutsTwin p page before after → DuringPut p page tails may (stable after)
put-during p page tails may before after fits could w = record {
  before = stable before;
  could = could;
  here = ⊎_elim
      (λ old. inl (ap (page_in p) old))
      (λ new. inr (ap (page_in p) new ∙ told page fits))
      w.whole;
  others = λ q ne. disk_others p q (before 0) (after 0) w.outside ne;
  logs = λ j. ⊎_elim
      (λ zero_log. ap (log_of after) zero_log ∙ sym (ap (log_of before) zero_log))
      (λ ne. logs_same j after before (w.others j ne))
      (cases_eq j 0);
}

pub force-during : (i : ℕ) (tails : Tails) (may : ℕ → Page → Type 0) (before after : rig.DeviceImages) → i ≢ 0
    → CrashLeaves tails may (stable before) → ForcesLog i tails before after → DuringForce i tails may (stable after)
force-during i tails may before after is_log could w = record {
  before = stable before;
  could = could;
  here = w.here;
  others = λ j ne. logs_same j after before (w.others j ne);
  disk = λ p. ap (λ (bytes : List ℕ). disk_page bytes p) (w.others 0 (λ e. is_log (sym e)));
}
