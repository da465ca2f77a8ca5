-- What was read of a device and its checks. It serves the goals of scanning.rt.
use Rattle.std.proofs.Common.{◌≡◌, ℕ, ◌<◌, Bool, true, false, List, [], ◌∷◌, ◌++◌, take, drop, refl, sym, ap, ◌∙◌, subst, arith}
use Rattle.std.specs.Prelude.{◌||◌, IfOk, IfSome, IsTrue, Option, Some, None, Result, Ok, Err, is_some, map, option_map}
use Rattle.std.specs.List.{flat_map, list_any}
use Rattle.std.specs.Option.{unwrap_or}
use Rattle.std.proofs.lemmas.Bool.{false≢true}
use Rattle.std.proofs.lemmas.List.{append-nil, map-append}
use Rattle.sd_base.specs.Twin.{Slot, Neither, First, Second, Same, body_at, body_of, chosen_body, is_open, newer, number_of, slot_of}
use Rattle.sd_logrec.specs.declared.record.Record.{Record}
use Rattle.sd_logrec.specs.Kept.{Group, Master, Reading, Records, Whole, area, kept, master, master_of, reading}
use Rattle.sd_log.specs.declared.placed.Placed.{Placed}
use Rattle.sd_log.specs.Logs.{placed, placed_groups, placed_tail}
use Rattle.sd_chain.specs.Checks.{Follow, GroupsAreSound, IsMaster, IsWhole, MasterIsSound, is_end_check, past_of, placed_of, records_in}
use Rattle.sd_chain.specs.Faults.{SlotsAreSound}
use Rattle.sd_recovered.specs.declared.master.MasterRecord as memory
use Rattle.sd_recovered.specs.Following.{IsChecked, bare}
use Rattle.sd_recovered.specs.Masters.{kept_master, master_in, said}
use Rattle.sd_recovered.proofs.MasterSlots.{chosen_as}

-- ---- the master

-- what was read of a device's master
pub record Says (bytes : List ℕ) (chosen : Bool) (m : memory.MasterRecord) : Type 0 where
  pub counts : chosen ≡ is_some (chosen_body 0 64 bytes)
  pub says : kept_master m ≡ master bytes
  pub sound : SlotsAreSound bytes

pub says_of : (bytes : List ℕ) (chosen : Bool) (read : Option memory.MasterRecord) (m blank : memory.MasterRecord) → chosen ≡ is_some read → kept_master blank ≡ master_of None → m ≡ unwrap_or read blank
    → said read ≡ option_map master_in (chosen_body 0 64 bytes) → SlotsAreSound bytes → Says bytes chosen m
unfolding master
says_of bytes chosen read m blank same none is e sound =
    let p = chosen_as read (chosen_body 0 64 bytes) blank none e in
    record { counts = same ∙ p.0; says = ap kept_master is ∙ p.1; sound = sound }

start_of_slot : (s : Slot) (b1 b2 : List ℕ) → IsMaster b1 → IsMaster b2 → (master_of (body_of s b1 b2)).start < 1048576
start_of_slot Neither b1 b2 f g = omega arith
start_of_slot (First other) b1 b2 f g = f.start
start_of_slot (Second other) b1 b2 f g = g.start
start_of_slot Same b1 b2 f g = omega arith

start_of_twin : (o1 o2 : Bool) (n1 n2 : ℕ) (b1 b2 : List ℕ) → (o1 ≡ true → IsMaster b1) → (o2 ≡ true → IsMaster b2) → (master_of (body_of (slot_of o1 o2 n1 n2) b1 b2)).start < 1048576
start_of_twin true true n1 n2 b1 b2 f g = start_of_slot (newer n1 n2) b1 b2 (f refl) (g refl)
start_of_twin true false n1 n2 b1 b2 f g = let ok = f refl in ok.start
start_of_twin false true n1 n2 b1 b2 f g = let ok = g refl in ok.start
start_of_twin false false n1 n2 b1 b2 f g = omega arith

pub start_within : (bytes : List ℕ) (chosen : Bool) (m : memory.MasterRecord) → Says bytes chosen m → m.start < 1048576
unfolding master
start_within bytes chosen m h =
    subst (λ n. n < 1048576) (sym (ap (λ (k : Master). k.start) h.says))
    (start_of_twin (is_open 0 bytes) (is_open 65 bytes) (number_of (body_at 64 0 bytes)) (number_of (body_at 64 65 bytes)) (body_at 64 0 bytes) (body_at 64 65 bytes) h.sound.first h.sound.second)

-- ---- the records

any_map : {X Y : Type 0} (test : Y → Bool) (f : X → Y) (xs : List X) → list_any (λ x. test (f x)) xs ≡ list_any test (map f xs)
any_map test f [] = refl
any_map test f (x ∷ xs) = ap (λ b. test (f x) || b) (any_map test f xs)

pub any_bare : (test : Record → Bool) (ps : List Placed) → list_any (λ p. test p.rec) ps ≡ list_any test (bare ps)
any_bare test ps = any_map test (λ (p : Placed). p.rec) ps

bare_group : (rs : Records) → bare (map (placed true) rs) ≡ map (λ r. r.1) rs
bare_group [] = refl
bare_group (r ∷ rs) = ap (λ (l : List Record). r.1 ∷ l) (bare_group rs)

bare_groups : (groups : List Group) → bare (placed_groups groups) ≡ map (λ r. r.1) (flat_map (λ (g : Group). g.records) groups)
bare_groups [] = refl
bare_groups (g ∷ groups) =
    map-append (λ (p : Placed). p.rec) (map (placed true) g.records) (placed_groups groups)
    ∙ ap (λ (l : List Record). l ++ bare (placed_groups groups)) (bare_group g.records)
    ∙ ap (λ (l : List Record). map (λ r. r.1) g.records ++ l) (bare_groups groups)
    ∙ sym (map-append (λ (r : ℕ × Record). r.1) g.records (flat_map (λ (x : Group). x.records) groups))

-- ---- a device

pub kept_is : (bytes part : List ℕ) (chosen : Bool) (m : memory.MasterRecord) (r : Reading) → Says bytes chosen m → part ≡ take 1048576 (drop 130 bytes) → reading m.start part ≡ r → kept bytes ≡ r
unfolding area
kept_is bytes part chosen m r h is e =
    ap (λ n. reading n (area bytes)) (sym (ap (λ (k : Master). k.start) h.says)) ∙ ap (reading m.start) (sym is) ∙ e

some_if : {X : Type 0} (o : Option X) (b : Bool) → (is_some o ≡ true → b ≡ true) → IfSome o (λ _. IsTrue b)
some_if None b h = tt
some_if (Some x) b h = h refl

if_some : {X : Type 0} (o : Option X) (b : Bool) → IfSome o (λ _. IsTrue b) → is_some o ≡ true → b ≡ true
if_some None b h e = absurd (false≢true e)
if_some (Some x) b h e = h

-- what whole groups keep
records_are : (bytes : List ℕ) (groups : List Group) (gate : ℕ) → kept bytes ≡ Whole groups gate → records_in bytes ≡ bare (placed_groups groups)
records_are bytes groups gate e = ap (λ (r : Reading). map (λ x. x.1) (placed_of r)) e ∙ sym (bare_groups groups)

-- the two checks, by what was read
abbrev pub Checks : ℕ → Bool → memory.MasterRecord → List Record → Type 0
Checks inst chosen m rs = IsChecked chosen (kept_master m) rs × Follow inst chosen (kept_master m) (past_of (kept_master m)) rs

pub ended_by : (bytes : List ℕ) (chosen : Bool) (m : memory.MasterRecord) (rs : List Record) → Says bytes chosen m → records_in bytes ≡ rs → IsChecked chosen (kept_master m) rs
    → IfSome (chosen_body 0 64 bytes) (λ _. IsTrue (list_any (λ r. is_end_check (master bytes).check r.1) (placed_of (kept bytes))))
ended_by bytes chosen m rs h e ok =
    some_if (chosen_body 0 64 bytes) (list_any (λ (r : ℕ × Record). is_end_check (master bytes).check r.1) (placed_of (kept bytes))) (λ some.
    any_map (is_end_check (master bytes).check) (λ (r : ℕ × Record). r.1) (placed_of (kept bytes))
    ∙ ap (list_any (is_end_check (master bytes).check)) e
    ∙ ap (λ (k : Master). list_any (is_end_check k.check) rs) (sym h.says)
    ∙ ok (h.counts ∙ some))

pub checked_by : (bytes : List ℕ) (chosen : Bool) (m : memory.MasterRecord) (rs : List Record) → Says bytes chosen m → records_in bytes ≡ rs
    → IfSome (chosen_body 0 64 bytes) (λ _. IsTrue (list_any (λ r. is_end_check (master bytes).check r.1) (placed_of (kept bytes)))) → IsChecked chosen (kept_master m) rs
checked_by bytes chosen m rs h e ok = λ is.
    ap (λ (k : Master). list_any (is_end_check k.check) rs) h.says
    ∙ ap (list_any (is_end_check (master bytes).check)) (sym e)
    ∙ sym (any_map (is_end_check (master bytes).check) (λ (r : ℕ × Record). r.1) (placed_of (kept bytes)))
    ∙ if_some (chosen_body 0 64 bytes) (list_any (λ (r : ℕ × Record). is_end_check (master bytes).check r.1) (placed_of (kept bytes))) ok (sym h.counts ∙ is)

-- the same of records, whatever they are called
pub follow_along : (inst : ℕ) (c d : Bool) (m n : Master) (rs qs : List Record) → c ≡ d → m ≡ n → rs ≡ qs → Follow inst c m (past_of m) rs → Follow inst d n (past_of n) qs
follow_along inst c d m n rs qs e f g h =
    subst (λ (l : List Record). Follow inst d n (past_of n) l) g (subst (λ (k : Master). Follow inst d k (past_of k) rs) f (subst (λ b. Follow inst b m (past_of m) rs) e h))

-- the records of a log that has no tail
bare_all : (groups : List Group) (gate : ℕ) (tail : List Record) → tail ≡ [] → bare (placed_groups groups ++ placed_tail gate tail) ≡ bare (placed_groups groups)
bare_all groups gate tail none = ap (λ (t : List Record). bare (placed_groups groups ++ placed_tail gate t)) none ∙ ap bare (append-nil (placed_groups groups))

pub all_records : (bytes : List ℕ) (groups : List Group) (gate : ℕ) (tail : List Record) → kept bytes ≡ Whole groups gate → tail ≡ [] → records_in bytes ≡ bare (placed_groups groups ++ placed_tail gate tail)
all_records bytes groups gate tail e none = records_are bytes groups gate e ∙ sym (bare_all groups gate tail none)

pub master_sound : (inst : ℕ) (bytes : List ℕ) (chosen : Bool) (m : memory.MasterRecord) (groups : List Group) (gate : ℕ) (tail : List Record) → Says bytes chosen m → kept bytes ≡ Whole groups gate → tail ≡ []
    → Checks inst chosen m (bare (placed_groups groups ++ placed_tail gate tail)) → MasterIsSound bytes
master_sound inst bytes chosen m groups gate tail h e none ok = record {
  differ = h.sound.differ;
  first = h.sound.first;
  second = h.sound.second;
  ended = ended_by bytes chosen m _ h (all_records bytes groups gate tail e none) ok.0;
}

pub groups_sound : (inst : ℕ) (bytes : List ℕ) (chosen : Bool) (m : memory.MasterRecord) (groups : List Group) (gate : ℕ) (tail : List Record) → Says bytes chosen m → kept bytes ≡ Whole groups gate → tail ≡ []
    → Checks inst chosen m (bare (placed_groups groups ++ placed_tail gate tail)) → GroupsAreSound inst bytes
groups_sound inst bytes chosen m groups gate tail h e none ok = record {
  whole = subst IsWhole (sym e) tt;
  follow = follow_along inst chosen _ (kept_master m) (master bytes) _ (records_in bytes) h.counts h.says (sym (all_records bytes groups gate tail e none)) ok.1;
}
