-- What stands on a log's device while its tail is forced: its groups, with the tail as one more or without it. It serves the goals of `force`.
use Rattle.std.proofs.Common.{◌≡◌, ◌≢◌, ◌⊎◌, inl, inr, ℕ, ◌+◌, ◌<◌, ◌≤◌, Bool, true, false, List, [], ◌∷◌, ◌++◌, length, take, drop, get_or, refl, sym, ap, ◌∙◌, subst, arith, append_assoc, length-append}
use Rattle.std.specs.Prelude.{◌==◌, ◌&&◌, nat_le}
use Rattle.std.specs.List.{AllByRecursion}
use Rattle.std.proofs.lemmas.Bool.{le-leb}
use Rattle.std.proofs.lemmas.List.{drop-drop, drop-take, get_or-drop, get_or-take, get_or_at, take-take, take_at}
use Rattle.sd_base.specs.Twin.{body_at, is_open}
use Rattle.sd_logrec.specs.declared.record.Record.{Record}
use Rattle.sd_logrec.specs.Kept.{StandsAt, Whole, area, fits_area, reading, spelled}
use Rattle.sd_logrec.specs.Spelling.{HasSpelling, four}
use Rattle.sd_logrec.proofs.Groups.{gate_closed, group_behind, groups_end}
use Rattle.sd_logrec.proofs.Lengths.{length-four}
use Rattle.sd_rig.specs.Devices.{AgreesOutside, DeviceImages}
use Rattle.sd_rig.specs.Ranges.{outside_before}
use Rattle.sd_log.specs.Buffers.{BufferState, framed}
use Rattle.sd_rig.specs.Gates.{Fills}
use Rattle.sd_log.specs.Forces.{Forces, StandsEither, forced_at, forced_len}
use Rattle.sd_log.specs.declared.log.Log.TheInside.{Inside}
use Rattle.sd_log.specs.WrittenStates.{WrittenState, closed}
use Rattle.sd_log.specs.LogInside.{IsLog, log_view}
use Rattle.sd_log.specs.Logs.{LogState, StandsOn, forced, forced_with, tail_group, tail_len}
use Rattle.sd_log.proofs.Tails.{least_text}

-- ---- an area on its device

area_part : (from n : ℕ) (device : List ℕ) → from + n ≤ 1048576 → take n (drop from (area device)) ≡ take n (drop (130 + from) device)
unfolding area
area_part from n device le =
    sym (drop-take from n (take 1048576 (drop 130 device))) ∙ ap (drop from) (take-take (from + n) 1048576 (drop 130 device) le) ∙ drop-take from n (drop 130 device) ∙ ap (take n) (drop-drop from 130 device)

pub area_open : (i : ℕ) (device : List ℕ) → i < 1048576 → is_open i (area device) ≡ is_open (130 + i) device
unfolding area
area_open i device lt = ap (λ x. x == 165) (get_or-take 1048576 (drop 130 device) i 0 lt ∙ get_or-drop 130 device i 0)

area_front : (gate n : ℕ) (old new : List ℕ) → gate ≤ 1048576 → AgreesOutside (130 + gate) n old new → take gate (area new) ≡ take gate (area old)
area_front gate n old new le a = area_part 0 gate new (omega arith) ∙ outside_before (130 + gate) n old new a 130 gate (omega arith) ∙ sym (area_part 0 gate old (omega arith))

-- the gate behind the log's groups
pub closed_on : (log : LogState) (device : List ℕ) → log.gate < 1048576 → StandsOn log device → is_open (130 + log.gate) device ≡ false
closed_on log device lt stands = sym (area_open log.gate device lt) ∙ gate_closed log.start log.gate (area device) log.groups stands

-- ---- a tail that can be forced

pub record IsTailed (log : LogState) : Type 0 where
  pub some : log.tail ≢ []
  pub spelled_ones : AllByRecursion HasSpelling log.tail
  pub least : 9 ≤ tail_len log
  pub fits : log.gate + 5 + tail_len log + 1 ≤ 1048576

forced_some : (log : LogState) (ts : List Record) → ts ≢ [] → forced_with log ts ≡ record { inst = log.inst; start = log.start; gate = log.gate + 5 + tail_len log; groups = log.groups ++ tail_group log ∷ []; tail = []; spare = log.spare }
forced_some log [] some = absurd (some refl)
forced_some log (t ∷ ts) some = refl

-- the log of which the tail became a group
pub closed_forced : (l : Inside) (written : WrittenState) (buffer : BufferState) (len : ℕ)
    → written ≡ closed len l.written → len ≡ tail_len (log_view l) → l.written.tail ≢ []
    → log_view (record { inst = l.inst; written = written; pages = l.pages; buffer = buffer; spare = l.spare }) ≡ forced (log_view l)
closed_forced l written buffer len same size some =
    ap (λ (w : WrittenState). log_view (record { inst = l.inst; written = w; pages = l.pages; buffer = buffer; spare = l.spare }))
    (same ∙ ap (λ n. closed n l.written) size)
    ∙ sym (forced_some (log_view l) l.written.tail some)

-- what the bytes behind the gate say
framed_parts : (text bytes : List ℕ) (n : ℕ) → length text ≡ n → take (5 + n) bytes ≡ framed text → (take (4 + n) bytes ≡ four n ++ text) × (get_or bytes (4 + n) 0 ≡ 0)
framed_parts text bytes n size is =
    let head : length (four (length text)) ≡ 4 = length-four (length text) in
    let long : length (four (length text) ++ text) ≡ 4 + n = omega (arith, length-append (four (length text)) text, head) in
    let whole : take (5 + n) bytes ≡ (four (length text) ++ text) ++ 0 ∷ [] = is ∙ sym (append_assoc (four (length text)) text (0 ∷ [])) in (
      sym (take-take (4 + n) (5 + n) bytes (omega arith)) ∙ ap (take (4 + n)) whole ∙ take_at (four (length text) ++ text) (0 ∷ []) (4 + n) long ∙ ap (λ k. four k ++ text) size,
      sym (get_or-take (5 + n) bytes (4 + n) 0 (omega arith)) ∙ ap (λ (l : List ℕ). get_or l (4 + n) 0) whole ∙ get_or_at (four (length text) ++ text) 0 [] 0 (4 + n) long,
    )

fits_now : (at n : ℕ) → 9 ≤ n → at + 5 + n + 1 ≤ 1048576 → fits_area at n ≡ true
fits_now at n low high = both (nat_le 9 n) (nat_le (at + 5 + n + 1) 1048576) (le-leb 9 n low) (le-leb (at + 5 + n + 1) 1048576 high)
  where
    both : (a b : Bool) → a ≡ true → b ≡ true → (a && b) ≡ true
    both a b p q = ap (λ x. x && b) p ∙ q

group_stands : (log : LogState) (new : List ℕ) → IsTailed log → is_open (forced_at log) new ≡ true → body_at (5 + tail_len log) (forced_at log) new ≡ framed (spelled log.tail) → StandsAt log.gate log.tail (area new)
group_stands log new t shown body =
    let n : ℕ = tail_len log in
    let fits = t.fits in
    let parts = framed_parts (spelled log.tail) (drop (130 + log.gate + 1) new) n refl body in
    let place : 130 + (log.gate + 1) ≡ 130 + log.gate + 1 = omega arith in
    let end : 130 + (log.gate + 5 + n) ≡ 130 + log.gate + 1 + (4 + n) = omega arith in
    let last : get_or new (130 + log.gate + 1 + (4 + n)) 0 ≡ 0 = sym (get_or-drop (130 + log.gate + 1) new (4 + n) 0) ∙ parts.1 in
    record {
      opened = area_open log.gate new (omega arith) ∙ shown;
      text = area_part (log.gate + 1) (4 + n) new (omega arith) ∙ ap (λ i. take (4 + n) (drop i new)) place ∙ parts.0;
      closed = area_open (log.gate + 5 + n) new (omega arith) ∙ ap (λ i. is_open i new) end ∙ ap (λ x. x == 165) last;
      fits = fits_now log.gate n t.least t.fits;
      records = t.spelled_ones;
    }

-- ---- with the tail, or without it

without_tail : (log : LogState) (old new : List ℕ) → IsTailed log → StandsOn log old → AgreesOutside (forced_at log) (forced_len log) old new → is_open (forced_at log) new ≡ false → StandsOn log new
without_tail log old new t stands a shut =
    let fits = t.fits in
    groups_end log.start log.gate (area old) (area new) log.groups stands (area_front log.gate (forced_len log) old new (omega arith) a) (area_open log.gate new (omega arith) ∙ shut)

pub with_tail_read : (log : LogState) (old new : List ℕ) → IsTailed log → StandsOn log old → AgreesOutside (forced_at log) (forced_len log) old new
    → is_open (forced_at log) new ≡ true → body_at (5 + tail_len log) (forced_at log) new ≡ framed (spelled log.tail) → reading log.start (area new) ≡ Whole (log.groups ++ tail_group log ∷ []) (log.gate + 5 + tail_len log)
with_tail_read log old new t stands a shown body =
    let fits = t.fits in
    group_behind log.start log.gate (area old) (area new) log.groups log.tail stands (area_front log.gate (forced_len log) old new (omega arith) a) (group_stands log new t shown body)

with_tail : (log : LogState) (old new : List ℕ) → IsTailed log → StandsOn log old → AgreesOutside (forced_at log) (forced_len log) old new
    → is_open (forced_at log) new ≡ true → body_at (5 + tail_len log) (forced_at log) new ≡ framed (spelled log.tail) → StandsOn (forced log) new
with_tail log old new t stands a shown body = subst (λ (s : LogState). StandsOn s new) (sym (forced_some log log.tail t.some)) (with_tail_read log old new t stands a shown body)

pub either_tail : (log : LogState) (old new : List ℕ) → IsTailed log → StandsOn log old → AgreesOutside (forced_at log) (forced_len log) old new
    → (is_open (forced_at log) new ≡ false) ⊎ (body_at (5 + tail_len log) (forced_at log) new ≡ framed (spelled log.tail)) → StandsEither log new
either_tail log old new t stands a (inl shut) = inl (without_tail log old new t stands a shut)
either_tail log old new t stands a (inr body) = by_gate (is_open (forced_at log) new) refl
  where
    by_gate : (b : Bool) → is_open (forced_at log) new ≡ b → StandsEither log new
    by_gate false shut = inl (without_tail log old new t stands a shut)
    by_gate true shown = inr (with_tail log old new t stands a shown body)

pub forces_of : (log : LogState) (seen : DeviceImages) (leaves : ℕ → List ℕ → Type 0) (img : DeviceImages) → IsTailed log → StandsOn log (seen log.inst)
    → Fills log.inst (forced_at log) (5 + tail_len log) (framed (spelled log.tail)) seen leaves img → Forces log seen leaves img
forces_of log seen leaves img t stands f = record {
  others = f.others;
  outside = f.outside;
  whole = either_tail log (seen log.inst) (img log.inst) t stands f.outside f.whole;
}

-- ---- the log of a call, by what is inside

pub tailed_of : (l : Inside) (log : LogState) → IsLog l → log_view l ≡ log → (length (spelled l.written.tail) ≡ 0 → ⊥) → IsTailed log
tailed_of l log h view some = subst IsTailed view (inside some)
  where
    inside : (length (spelled l.written.tail) ≡ 0 → ⊥) → IsTailed (log_view l)
    inside some =
        let least = least_text l.written.tail some in
        let fits = h.fits (omega arith) in
        record {
          some = λ e. some (ap (λ (rs : List Record). length (spelled rs)) e);
          spelled_ones = h.spelled_ones;
          least = least;
          fits = omega arith;
        }

pub moved : (P : ℕ → ℕ → List ℕ → Type 0) (dev gate : ℕ) (text : List ℕ) (dev' gate' : ℕ) (text' : List ℕ) → dev ≡ dev' → gate ≡ gate' → text ≡ text' → P dev gate text → P dev' gate' text'
moved P dev gate text dev' gate' text' d g t p = subst (λ x. P x gate' text') d (subst (λ x. P dev x text') g (subst (λ (x : List ℕ). P dev gate x) t p))
