-- Which body counts while one slot stays and the other is closed, filled and opened. It serves the goals of putting.rt.
use Rattle.std.proofs.Common.{◌≡◌, ◌≢◌, ◌⊎◌, ⊎_elim, inl, inr, ℕ, ◌+◌, ◌<◌, ◌≤◌, Bool, true, false, cond, List, Option, Some, refl, sym, ap, ◌∙◌, subst, arith}
use Rattle.std.specs.Prelude.{IfSome, nat_lt}
use Rattle.std.proofs.lemmas.Bool.{cases_Bool, le-ltb, lt-ltb}
use Rattle.sd_base.specs.Twin.{Slot, Neither, First, Second, Same, body_at, body_of, chosen_body, chosen_slot, is_open, newer, number_of, slot_of}
use Rattle.sd_rig.specs.Devices.{AgreesOutside}
use Rattle.sd_rig.specs.Ranges.{outside_before, outside_behind, outside_wider}
use Rattle.sd_rig.specs.Slots.{slots_len}
use Rattle.sd_rig.proofs.Gates.{same_body, same_gate}
use Rattle.sd_rig.specs.Puts.{after_put, filled_gate, kept_gate}

-- a slot that a call left alone
pub record SameSlot (n gate : ℕ) (old new : List ℕ) : Type 0 where
  pub shown : is_open gate new ≡ is_open gate old
  pub body : body_at n gate new ≡ body_at n gate old

behind_slot : (at n : ℕ) (old new : List ℕ) → AgreesOutside at (n + 1) old new → SameSlot n (at + n + 1) old new
behind_slot at n old new a = record {
  shown = same_gate at (n + 1) (at + n + 1) old new a (inr (omega arith));
  body = outside_behind at (n + 1) old new a (at + n + 1 + 1) n (omega arith);
}

before_slot : (at n : ℕ) (old new : List ℕ) → AgreesOutside (at + n + 1) (n + 1) old new → SameSlot n at old new
before_slot at n old new a = record {
  shown = same_gate (at + n + 1) (n + 1) at old new a (inl (omega arith));
  body = outside_before (at + n + 1) (n + 1) old new a (at + 1) n (omega arith);
}

pub kept_same : (s : Slot) (at n : ℕ) (old new : List ℕ) → AgreesOutside (filled_gate s at n) (n + 1) old new → SameSlot n (kept_gate s at n) old new
kept_same Neither at n old new a = behind_slot at n old new a
kept_same (First other) at n old new a = before_slot at n old new a
kept_same (Second other) at n old new a = behind_slot at n old new a
kept_same Same at n old new a = behind_slot at n old new a

-- the slot that is filled lies in the twin
pub filled_within : (s : Slot) (at n : ℕ) → (at ≤ filled_gate s at n) × (filled_gate s at n + (n + 1) ≤ at + slots_len n)
filled_within Neither at n = (omega arith, omega arith)
filled_within (First other) at n = (omega arith, omega arith)
filled_within (Second other) at n = (omega arith, omega arith)
filled_within Same at n = (omega arith, omega arith)

-- what the slot that counts tells of the gates
newer_first : (p q other : Bool) → cond p (Second true) (cond q (First true) Same) ≡ First other → true ≡ other
newer_first true q other e = absurd (cc)
newer_first false true other e = cc
newer_first false false other e = absurd (cc)

newer_second : (p q other : Bool) → cond p (Second true) (cond q (First true) Same) ≡ Second other → true ≡ other
newer_second true q other e = cc
newer_second false true other e = absurd (cc)
newer_second false false other e = absurd (cc)

newer_neither : (p q : Bool) → cond p (Second true) (cond q (First true) Same) ≡ Neither → ⊥
newer_neither true q e = absurd (cc)
newer_neither false true e = absurd (cc)
newer_neither false false e = absurd (cc)

gates_first : (o1 o2 : Bool) (x y : ℕ) (other : Bool) → slot_of o1 o2 x y ≡ First other → (o1 ≡ true) × (o2 ≡ other)
gates_first true true x y other e = (refl, newer_first (nat_lt x y) (nat_lt y x) other e)
gates_first true false x y other e = (refl, cc)
gates_first false true x y other e = absurd (cc)
gates_first false false x y other e = absurd (cc)

gates_second : (o1 o2 : Bool) (x y : ℕ) (other : Bool) → slot_of o1 o2 x y ≡ Second other → (o2 ≡ true) × (o1 ≡ other)
gates_second true true x y other e = (refl, newer_second (nat_lt x y) (nat_lt y x) other e)
gates_second true false x y other e = absurd (cc)
gates_second false true x y other e = (refl, cc)
gates_second false false x y other e = absurd (cc)

gates_neither : (o1 o2 : Bool) (x y : ℕ) → slot_of o1 o2 x y ≡ Neither → (o1 ≡ false) × (o2 ≡ false)
gates_neither true true x y e = absurd (newer_neither (nat_lt x y) (nat_lt y x) e)
gates_neither true false x y e = absurd (cc)
gates_neither false true x y e = absurd (cc)
gates_neither false false x y e = (refl, refl)

-- the slot and the body by the gates
pub slot_with : (at n : ℕ) (c : List ℕ) (o1 o2 : Bool) → is_open at c ≡ o1 → is_open (at + n + 1) c ≡ o2 → chosen_slot at n c ≡ slot_of o1 o2 (number_of (body_at n at c)) (number_of (body_at n (at + n + 1) c))
slot_with at n c o1 o2 e f =
    ap (λ o. slot_of o (is_open (at + n + 1) c) (number_of (body_at n at c)) (number_of (body_at n (at + n + 1) c))) e
    ∙ ap (λ o. slot_of o1 o (number_of (body_at n at c)) (number_of (body_at n (at + n + 1) c))) f

body_with : (at n : ℕ) (c : List ℕ) (s : Slot) → chosen_slot at n c ≡ s → chosen_body at n c ≡ body_of s (body_at n at c) (body_at n (at + n + 1) c)
body_with at n c s e = ap (λ (t : Slot). body_of t (body_at n at c) (body_at n (at + n + 1) c)) e

-- while the slot to be filled is closed the old body counts
pub old_counts : (s : Slot) (at n : ℕ) (old new : List ℕ) → chosen_slot at n old ≡ s → s ≢ Same → SameSlot n (kept_gate s at n) old new → is_open (filled_gate s at n) new ≡ false → chosen_body at n new ≡ chosen_body at n old
old_counts Neither at n old new e ne kept closed =
    let gates = gates_neither (is_open at old) (is_open (at + n + 1) old) (number_of (body_at n at old)) (number_of (body_at n (at + n + 1) old)) e in
    body_with at n new Neither (slot_with at n new false false closed (kept.shown ∙ gates.1)) ∙ sym (body_with at n old Neither e)
old_counts (First other) at n old new e ne kept closed =
    let gates = gates_first (is_open at old) (is_open (at + n + 1) old) (number_of (body_at n at old)) (number_of (body_at n (at + n + 1) old)) other e in
    body_with at n new (First false) (slot_with at n new true false (kept.shown ∙ gates.0) closed) ∙ ap (λ (b : List ℕ). Some b) kept.body ∙ sym (body_with at n old (First other) e)
old_counts (Second other) at n old new e ne kept closed =
    let gates = gates_second (is_open at old) (is_open (at + n + 1) old) (number_of (body_at n at old)) (number_of (body_at n (at + n + 1) old)) other e in
    body_with at n new (Second false) (slot_with at n new false true closed (kept.shown ∙ gates.0)) ∙ ap (λ (b : List ℕ). Some b) kept.body ∙ sym (body_with at n old (Second other) e)
old_counts Same at n old new e ne kept closed = absurd (ne refl)

-- where both slots are as before, so is the body that counts
same_counts : (at n : ℕ) (old new : List ℕ) → SameSlot n at old new → SameSlot n (at + n + 1) old new → chosen_body at n new ≡ chosen_body at n old
same_counts at n old new f g =
    body_with at n new _ (slot_with at n new (is_open at old) (is_open (at + n + 1) old) f.shown g.shown)
    ∙ ap (λ (b : List ℕ). body_of (slot_of (is_open at old) (is_open (at + n + 1) old) (number_of b) (number_of (body_at n (at + n + 1) new))) b (body_at n (at + n + 1) new)) f.body
    ∙ ap (λ (b : List ℕ). body_of (slot_of (is_open at old) (is_open (at + n + 1) old) (number_of (body_at n at old)) (number_of b)) (body_at n at old) b) g.body

pub both_same : (s : Slot) (at n : ℕ) (old new : List ℕ) → SameSlot n (kept_gate s at n) old new → SameSlot n (filled_gate s at n) old new → chosen_body at n new ≡ chosen_body at n old
both_same Neither at n old new f g = same_counts at n old new g f
both_same (First other) at n old new f g = same_counts at n old new f g
both_same (Second other) at n old new f g = same_counts at n old new g f
both_same Same at n old new f g = same_counts at n old new g f

newer_is_second : (x y : ℕ) → x < y → newer x y ≡ Second true
newer_is_second x y h = ap (λ b. cond b (Second true) (cond (nat_lt y x) (First true) Same)) (lt-ltb x y h)

newer_is_first : (x y : ℕ) → y < x → newer x y ≡ First true
newer_is_first x y h = ap (λ b. cond b (Second true) (cond (nat_lt y x) (First true) Same)) (le-ltb x y (omega arith)) ∙ ap (λ b. cond b (First true) Same) (lt-ltb y x h)

-- once the slot is open with the new body, that counts
pub new_slot : (s : Slot) (at n : ℕ) (body old new : List ℕ) → chosen_slot at n old ≡ s → s ≢ Same → SameSlot n (kept_gate s at n) old new → is_open (filled_gate s at n) new ≡ true → body_at n (filled_gate s at n) new ≡ body → IfSome (chosen_body at n old) (λ b. number_of b < number_of body) → chosen_slot at n new ≡ after_put s
new_slot Neither at n body old new e ne kept shown filled greater =
    let gates = gates_neither (is_open at old) (is_open (at + n + 1) old) (number_of (body_at n at old)) (number_of (body_at n (at + n + 1) old)) e in
    slot_with at n new true false shown (kept.shown ∙ gates.1)
new_slot (First other) at n body old new e ne kept shown filled greater =
    let gates = gates_first (is_open at old) (is_open (at + n + 1) old) (number_of (body_at n at old)) (number_of (body_at n (at + n + 1) old)) other e in
    let more : number_of (body_at n at old) < number_of body = subst (λ (o : Option (List ℕ)). IfSome o (λ b. number_of b < number_of body)) (body_with at n old (First other) e) greater in
    let first : number_of (body_at n at new) ≡ number_of (body_at n at old) = ap number_of kept.body in
    let second : number_of (body_at n (at + n + 1) new) ≡ number_of body = ap number_of filled in
    slot_with at n new true true (kept.shown ∙ gates.0) shown ∙ newer_is_second (number_of (body_at n at new)) (number_of (body_at n (at + n + 1) new)) (omega arith)
new_slot (Second other) at n body old new e ne kept shown filled greater =
    let gates = gates_second (is_open at old) (is_open (at + n + 1) old) (number_of (body_at n at old)) (number_of (body_at n (at + n + 1) old)) other e in
    let more : number_of (body_at n (at + n + 1) old) < number_of body = subst (λ (o : Option (List ℕ)). IfSome o (λ b. number_of b < number_of body)) (body_with at n old (Second other) e) greater in
    let first : number_of (body_at n at new) ≡ number_of body = ap number_of filled in
    let second : number_of (body_at n (at + n + 1) new) ≡ number_of (body_at n (at + n + 1) old) = ap number_of kept.body in
    slot_with at n new true true shown (kept.shown ∙ gates.0) ∙ newer_is_first (number_of (body_at n at new)) (number_of (body_at n (at + n + 1) new)) (omega arith)
new_slot Same at n body old new e ne kept shown filled greater = absurd (ne refl)

after_body : (s : Slot) (at n : ℕ) (body new : List ℕ) → s ≢ Same → chosen_slot at n new ≡ after_put s → body_at n (filled_gate s at n) new ≡ body → chosen_body at n new ≡ Some body
after_body Neither at n body new ne e filled = body_with at n new (First false) e ∙ ap (λ (b : List ℕ). Some b) filled
after_body (First other) at n body new ne e filled = body_with at n new (Second true) e ∙ ap (λ (b : List ℕ). Some b) filled
after_body (Second other) at n body new ne e filled = body_with at n new (First true) e ∙ ap (λ (b : List ℕ). Some b) filled
after_body Same at n body new ne e filled = absurd (ne refl)

pub new_counts : (s : Slot) (at n : ℕ) (body old new : List ℕ) → chosen_slot at n old ≡ s → s ≢ Same → SameSlot n (kept_gate s at n) old new → is_open (filled_gate s at n) new ≡ true → body_at n (filled_gate s at n) new ≡ body → IfSome (chosen_body at n old) (λ b. number_of b < number_of body) → chosen_body at n new ≡ Some body
new_counts s at n body old new e ne kept shown filled greater = after_body s at n body new ne (new_slot s at n body old new e ne kept shown filled greater) filled

-- while the gate is closed
pub closing_counts : (s : Slot) (at n : ℕ) (old new : List ℕ) → chosen_slot at n old ≡ s → s ≢ Same → AgreesOutside (filled_gate s at n) 1 old new → (is_open (filled_gate s at n) new ≡ true → is_open (filled_gate s at n) old ≡ true) → chosen_body at n new ≡ chosen_body at n old
closing_counts s at n old new e ne a shut = ⊎_elim
    (λ shown. both_same s at n old new kept (record { shown = shown ∙ sym (shut shown); body = same_body (filled_gate s at n) n old new a }))
    (λ closed. old_counts s at n old new e ne kept closed)
    (cases_Bool (is_open (filled_gate s at n) new))
  where
    kept : SameSlot n (kept_gate s at n) old new
    kept = kept_same s at n old new (outside_wider (filled_gate s at n) (n + 1) (filled_gate s at n) 1 old new a (omega arith) (omega arith))

-- while the slot is filled and opened
pub filling_counts : (s : Slot) (at n : ℕ) (body old new : List ℕ) → chosen_slot at n old ≡ s → s ≢ Same → IfSome (chosen_body at n old) (λ b. number_of b < number_of body) → AgreesOutside (filled_gate s at n) (n + 1) old new → (is_open (filled_gate s at n) new ≡ false) ⊎ (body_at n (filled_gate s at n) new ≡ body) → (chosen_body at n new ≡ chosen_body at n old) ⊎ (chosen_body at n new ≡ Some body)
filling_counts s at n body old new e ne greater a whole = ⊎_elim
    (λ closed. inl (old_counts s at n old new e ne kept closed))
    (λ filled. ⊎_elim
    (λ shown. inr (new_counts s at n body old new e ne kept shown filled greater))
    (λ closed. inl (old_counts s at n old new e ne kept closed))
    (cases_Bool (is_open (filled_gate s at n) new)))
    whole
  where
    kept : SameSlot n (kept_gate s at n) old new
    kept = kept_same s at n old new a
