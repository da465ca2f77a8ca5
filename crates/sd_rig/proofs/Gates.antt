-- What crashes leave while a gate is closed, and while bytes are written behind it and it is opened. It serves the goals of gate.rt.
use Rattle.std.proofs.Common.{◌≡◌, ◌≢◌, ◌⊎◌, inl, inr, ℕ, ◌+◌, ◌<◌, ◌≤◌, false, List, [], ◌∷◌, length, take, drop, get_or, sym, ap, ◌∙◌, subst, arith}
use Rattle.std.specs.Prelude.{◌==◌, Result, Ok, Err, OnOk}
use Rattle.std.proofs.lemmas.List.{get_or-drop, get_or-take}
use Rattle.sd_base.specs.Twin.{body_at, is_open}
use Rattle.sd_rig.specs.Devices.{AgreesOutside, DeviceImages, Leaves, LeavesOnly, LeavesSame, overwritten}
use Rattle.sd_rig.specs.Ranges.{outside_behind, outside_place, outside_same, outside_then, outside_wider, written_part}
use Rattle.sd_rig.specs.Gates.{Closes, Fills, LeavesOthers, Writes}

-- a gate that a write doesn't reach
pub same_gate : (at n gate : ℕ) (old new : List ℕ) → AgreesOutside at n old new → (gate < at) ⊎ (at + n ≤ gate) → is_open gate new ≡ is_open gate old
same_gate at n gate old new a where_is = ap (λ b. b == 165) (outside_place at n old new a gate where_is)

pub same_body : (gate n : ℕ) (old new : List ℕ) → AgreesOutside gate 1 old new → body_at n gate new ≡ body_at n gate old
same_body gate n old new a = outside_behind gate 1 old new a (gate + 1) n (omega arith)

-- a byte that was written
pub written_gate : (gate byte : ℕ) (old new : List ℕ) → gate + 1 ≤ length old → new ≡ overwritten gate (byte ∷ []) old → is_open gate new ≡ (byte == 165)
written_gate gate byte old new h made =
    let place : gate + 0 ≡ gate = omega arith in
    let part : take 1 (drop gate (overwritten gate (byte ∷ []) old)) ≡ byte ∷ [] = written_part gate (byte ∷ []) old h in
    let read : get_or (overwritten gate (byte ∷ []) old) gate 0 ≡ byte = ap (λ p. get_or (overwritten gate (byte ∷ []) old) p 0) (sym place) ∙ sym (get_or-drop gate (overwritten gate (byte ∷ []) old) 0 0) ∙ sym (get_or-take 1 (drop gate (overwritten gate (byte ∷ []) old)) 0 0 (omega arith)) ∙ ap (λ (l : List ℕ). get_or l 0 0) part in
    ap (λ (l : List ℕ). is_open gate l) made ∙ ap (λ b. b == 165) read

pub written_body : (gate : ℕ) (body old new : List ℕ) → gate + 1 + length body ≤ length old → new ≡ overwritten (gate + 1) body old → body_at (length body) gate new ≡ body
written_body gate body old new h made = ap (body_at (length body) gate) made ∙ written_part (gate + 1) body old h

-- what is left of the others after one more call was left of them before
pub others_from : (dev : ℕ) (leaves leaves' : ℕ → List ℕ → Type 0) (img : DeviceImages) → ((d : ℕ) → d ≢ dev → LeavesSame (leaves d) (leaves' d)) → LeavesOthers dev leaves' img → LeavesOthers dev leaves img
others_from dev leaves leaves' img same others d h ne = (same d ne (img d)).0 (others d h ne)

-- with no call a crash leaves what is read
pub closes_none : (dev gate : ℕ) (seen : DeviceImages) (leaves : ℕ → List ℕ → Type 0) (img : DeviceImages) → dev ≤ 8 → LeavesOnly (seen dev) (leaves dev) → Leaves leaves img → Closes dev gate seen leaves img
closes_none dev gate seen leaves img le only left =
    let here : img dev ≡ seen dev = (only (img dev)).0 (left dev le) in
    record {
      others = λ d h ne. left d h;
      outside = subst (λ (b : List ℕ). AgreesOutside gate 1 (seen dev) b) (sym here) (outside_same gate 1 (seen dev));
      shut = λ shown. ap (is_open gate) (sym here) ∙ shown;
    }

pub outside_slot : (gate n : ℕ) (a b c : List ℕ) → AgreesOutside (gate + 1) n a b → AgreesOutside gate 1 b c → AgreesOutside gate (n + 1) a c
outside_slot gate n a b c f g =
    outside_then gate (n + 1) a b c (outside_wider gate (n + 1) (gate + 1) n a b f (omega arith) (omega arith)) (outside_wider gate (n + 1) gate 1 b c g (omega arith) (omega arith))

-- while the body is written the gate is closed
pub fills_while_written : (dev gate : ℕ) (body : List ℕ) (seen : DeviceImages) (leaves : ℕ → List ℕ → Type 0) (img : DeviceImages) → is_open gate (seen dev) ≡ false → Writes dev (gate + 1) (length body) seen leaves img → Fills dev gate (length body) body seen leaves img
fills_while_written dev gate body seen leaves img closed w = record {
  others = w.others;
  outside = outside_wider gate (length body + 1) (gate + 1) (length body) (seen dev) (img dev) w.outside (omega arith) (omega arith);
  whole = inl (same_gate (gate + 1) (length body) gate (seen dev) (img dev) w.outside (inl (omega arith)) ∙ closed);
}

-- while the gate is written the body is whole
pub fills_while_opened : (dev gate : ℕ) (body : List ℕ) (seen seen' : DeviceImages) (leaves leaves' : ℕ → List ℕ → Type 0) (img : DeviceImages) → AgreesOutside (gate + 1) (length body) (seen dev) (seen' dev) → body_at (length body) gate (seen' dev) ≡ body → ((d : ℕ) → d ≢ dev → LeavesSame (leaves d) (leaves' d)) → Writes dev gate 1 seen' leaves' img → Fills dev gate (length body) body seen leaves img
fills_while_opened dev gate body seen seen' leaves leaves' img first whole same w = record {
  others = others_from dev leaves leaves' img same w.others;
  outside = outside_slot gate (length body) (seen dev) (seen' dev) (img dev) first w.outside;
  whole = inr (same_body gate (length body) (seen' dev) (img dev) w.outside ∙ whole);
}
