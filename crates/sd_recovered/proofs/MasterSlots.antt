-- What the slots of a master say, and which counts. It serves the goals of master.rt.
use Rattle.std.proofs.Common.{◌≡◌, ℕ, ◌<◌, ◌^◌, Bool, true, List, arith, drop, refl, sym, ap, ◌∙◌, subst}
use Rattle.std.specs.Prelude.{◌↔◌, IsTrue, Option, Some, None, is_some, map, option_map, slice_range}
use Rattle.std.specs.Int.{w32, w64, w8}
use Rattle.std.specs.Option.{unwrap_or}
use Rattle.std.proofs.lemmas.Nat.{from_be_bytes-to_be_bytes_4, from_be_bytes-to_be_bytes_8}
use Rattle.sd_base.specs.Twin.{Slot, Neither, First, Second, Same, body_at, chosen_body, chosen_slot, is_open}
use Rattle.sd_logrec.specs.Kept.{Master, master, master_of, number_in}
use Rattle.sd_rig.specs.declared.slots.Chosen.{Chosen}
use Rattle.sd_rig.specs.declared.slots.Chosen.TheVariants as C
use Rattle.sd_rig.specs.Slots.{named_body, slot}
use Rattle.sd_rig.proofs.SlotBytes.{body_read, chosen_read}
use Rattle.sd_chain.specs.Checks.{IsMaster, IsSlot}
use Rattle.sd_chain.specs.Faults.{SlotsAreSound}
use Rattle.sd_recovered.specs.declared.master.MasterRecord as memory
use Rattle.sd_recovered.specs.Masters.{as_master, kept_master, master_in, said, spelled_master}

-- ---- a slot

pub sound_body : (m : memory.MasterRecord) (body rest : List ℕ) (zeros : Bool) → kept_master m ≡ master_in body → m.area ≡ 0 → m.start < 1048576 → rest ≡ drop 25 body
    → (IsTrue zeros ↔ (rest ≡ map (λ _. 0) rest)) → IsTrue zeros ↔ IsMaster body
sound_body m body rest zeros is area start part h = (
  λ z. record {
    area = sym (ap (λ (k : Master). k.log_area) is) ∙ area;
    start = subst (λ n. n < 1048576) (ap (λ (k : Master). k.start) is) start;
    zeros = subst (λ (l : List ℕ). l ≡ map (λ _. 0) l) part (h.0 z);
  },
  λ ok. h.1 (subst (λ (l : List ℕ). l ≡ map (λ _. 0) l) (sym part) ok.zeros),
)

pub open_slot : (gate : ℕ) (bytes body : List ℕ) (b : Bool) → is_open gate bytes ≡ true → body ≡ body_at 64 gate bytes → (IsTrue b ↔ IsMaster body) → IsTrue b ↔ IsSlot gate bytes
open_slot gate bytes body b shown is h = (λ t _. subst IsMaster is (h.0 t), λ ok. h.1 (subst IsMaster (sym is) (ok shown)))

-- ---- both slots, as the front of a device

pub slots_same : (device slots : List ℕ) → slots ≡ slice_range device 0 130 → Same ≡ chosen_slot 0 64 slots → SlotsAreSound device → ⊥
slots_same device slots part is s = s.differ (sym (is ∙ chosen_read 0 64 130 device slots refl part))

not_same : (c : Chosen) → (c ≡ C.Same → ⊥) → slot c ≡ Same → ⊥
not_same C.Neither never e = cc
not_same (C.First other) never e = cc
not_same (C.Second other) never e = cc
not_same C.Same never e = never refl

pub slots_sound : (c : Chosen) (device slots : List ℕ) → slots ≡ slice_range device 0 130 → slot c ≡ chosen_slot 0 64 slots → (c ≡ C.Same → ⊥) → IsSlot 0 device → IsSlot 65 device → SlotsAreSound device
slots_sound c device slots part is never first second = record {
  differ = λ e. not_same c never (is ∙ chosen_read 0 64 130 device slots refl part ∙ e);
  first = first;
  second = second;
}

body_is : (c : Chosen) (device slots : List ℕ) → slots ≡ slice_range device 0 130 → slot c ≡ chosen_slot 0 64 slots → named_body c 64 slots ≡ chosen_body 0 64 device
body_is c device slots part is = body_read c 0 64 130 device slots refl part (is ∙ chosen_read 0 64 130 device slots refl part)

pub said_some : (c : Chosen) (device slots body : List ℕ) (m : memory.MasterRecord) → slots ≡ slice_range device 0 130 → slot c ≡ chosen_slot 0 64 slots → Some body ≡ named_body c 64 slots → kept_master m ≡ master_in body
    → said (Some m) ≡ option_map master_in (chosen_body 0 64 device)
said_some c device slots body m part is there says = ap (λ (k : Master). Some k) says ∙ ap (option_map master_in) (there ∙ body_is c device slots part is)

pub said_none : (c : Chosen) (device slots : List ℕ) → slots ≡ slice_range device 0 130 → slot c ≡ chosen_slot 0 64 slots → None ≡ named_body c 64 slots → said None ≡ option_map master_in (chosen_body 0 64 device)
said_none c device slots part is there = ap (option_map master_in) (there ∙ body_is c device slots part is)

-- ---- what counts, or all 0

says_of : (m : Option memory.MasterRecord) (o : Option (List ℕ)) → said m ≡ option_map master_in o → as_master m ≡ master_of o
says_of None None e = refl
says_of None (Some body) e = absurd (cc)
says_of (Some x) None e = absurd (cc)
says_of (Some x) (Some body) e = cc

pub master_is : (m : Option memory.MasterRecord) (bytes : List ℕ) → said m ≡ option_map master_in (chosen_body 0 64 bytes) → as_master m ≡ master bytes
unfolding master
master_is m bytes e = says_of m (chosen_body 0 64 bytes) e

pub chosen_as : (m : Option memory.MasterRecord) (o : Option (List ℕ)) (blank : memory.MasterRecord) → kept_master blank ≡ master_of None → said m ≡ option_map master_in o → (is_some m ≡ is_some o) × (kept_master (unwrap_or m blank) ≡ master_of o)
chosen_as None None blank b e = (refl, b)
chosen_as None (Some body) blank b e = absurd (cc)
chosen_as (Some x) None blank b e = absurd (cc)
chosen_as (Some x) (Some body) blank b e = (refl, cc)

-- ---- a body that is spelled

pub spelled_is : (m : memory.MasterRecord) → m.count < 2 ^ 64 → m.epoch < 2 ^ 32 → m.check < 2 ^ 64 → m.start < 2 ^ 32 → master_in (spelled_master m) ≡ kept_master m
spelled_is m count epoch check start =
    let body : List ℕ = spelled_master m in
    let says : ℕ → ℕ → ℕ → ℕ → ℕ → Master = λ n a e k s. record { count = n; log_area = a; epoch = e; check = k; start = s } in
    let area : number_in w8 8 body ≡ m.area = omega arith in
    ap (λ n. says n (number_in w8 8 body) (number_in w32 9 body) (number_in w64 13 body) (number_in w32 21 body)) (from_be_bytes-to_be_bytes_8 m.count count)
    ∙ ap (λ n. says m.count n (number_in w32 9 body) (number_in w64 13 body) (number_in w32 21 body)) area
    ∙ ap (λ n. says m.count m.area n (number_in w64 13 body) (number_in w32 21 body)) (from_be_bytes-to_be_bytes_4 m.epoch epoch)
    ∙ ap (λ n. says m.count m.area m.epoch n (number_in w32 21 body)) (from_be_bytes-to_be_bytes_8 m.check check)
    ∙ ap (λ n. says m.count m.area m.epoch m.check n) (from_be_bytes-to_be_bytes_4 m.start start)
