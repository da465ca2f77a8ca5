-- Where a device's master or its groups fail. It serves the goals of scanning.rt.
use Rattle.std.proofs.Common.{◌≡◌, ◌⊎◌, inl, inr, ℕ, ◌+◌, ◌<◌, Bool, List, [], ◌∷◌, take, drop, refl, sym, ap, ◌∙◌, subst}
use Rattle.std.specs.Prelude.{is_some, map, Result, Err}
use Rattle.sd_base.specs.Twin.{chosen_body}
use Rattle.sd_base.specs.declared.refusal.Refusal.{Refusal}
use Rattle.sd_base.specs.declared.refusal.Refusal.TheVariants as R
use Rattle.sd_logrec.specs.declared.record.Record.{Record}
use Rattle.sd_logrec.specs.Fronts.{front}
use Rattle.sd_logrec.specs.Kept.{BadGroup, Master, NoRecord, Reading, Records, Whole, area, kept, master, reading}
use Rattle.sd_log.specs.declared.placed.Placed.{Placed}
use Rattle.sd_log.specs.Areas.{IsAt}
use Rattle.sd_log.specs.Marks.{entry}
use Rattle.sd_logrec.proofs.WholeFronts.{whole_front}
use Rattle.sd_chain.specs.Checks.{Follow, GroupsAreSound, IsWhole, MasterIsSound, Past, after_record, past_of, placed_of, records_in}
use Rattle.sd_chain.specs.Faults.{BreaksAt, GroupsFailAt, MasterPasses, StraysAt, front_of}
use Rattle.sd_recovered.specs.declared.master.MasterRecord as memory
use Rattle.sd_recovered.specs.Following.{BreaksFirst, IsChecked, bare}
use Rattle.sd_recovered.specs.Masters.{kept_master}
use Rattle.sd_recovered.proofs.Follows.{bare_entries}
use Rattle.sd_recovered.proofs.Scans.{Says, checked_by, ended_by, follow_along}

-- what is told at this place of a device
abbrev pub FailsAt : ℕ → List ℕ → ℕ → Type 0
FailsAt inst bytes at = ((MasterPasses bytes → ⊥) × (at ≡ 0)) ⊎ (MasterPasses bytes × ((place : ℕ) × GroupsFailAt inst bytes place × (at ≡ 130 + place)))

-- ---- sound groups don't fail

pub strays_not : (inst : ℕ) (chosen : Bool) (m : Master) (past : Past) (rs : Records) (place : ℕ) → StraysAt inst chosen m past rs place → Follow inst chosen m past (map (λ x. x.1) rs) → ⊥
strays_not inst chosen m past [] place s f = s
strays_not inst chosen m past (r ∷ rs) place (inl x) f = x.0 (f.0, f.1, f.2)
strays_not inst chosen m past (r ∷ rs) place (inr x) f = strays_not inst chosen m (after_record past r.1) rs place x.1 f.3

breaks_not : (r : Reading) (place : ℕ) → BreaksAt r place → IsWhole r → ⊥
breaks_not (Whole groups gate) place b w = b
breaks_not (BadGroup at) place b w = w
breaks_not (NoRecord at) place b w = w

whole_records : (start : ℕ) (bytes : List ℕ) (r : Reading) → reading start bytes ≡ r → IsWhole r → front start bytes ≡ placed_of r
whole_records start bytes (Whole groups gate) e w = whole_front start bytes groups gate e
whole_records start bytes (BadGroup at) e w = absurd w
whole_records start bytes (NoRecord at) e w = absurd w

groups_fail_not : (inst : ℕ) (bytes : List ℕ) (place : ℕ) → GroupsFailAt inst bytes place → GroupsAreSound inst bytes → ⊥
groups_fail_not inst bytes place (inl s) ok =
    let all : front_of bytes ≡ placed_of (kept bytes) = whole_records (master bytes).start (area bytes) (kept bytes) refl ok.whole in
    strays_not inst (is_some (chosen_body 0 64 bytes)) (master bytes) (past_of (master bytes)) (front_of bytes) place s
    (subst (λ (rs : Records). Follow inst (is_some (chosen_body 0 64 bytes)) (master bytes) (past_of (master bytes)) (map (λ x. x.1) rs)) (sym all) ok.follow)
groups_fail_not inst bytes place (inr b) ok = breaks_not (kept bytes) place b.1 ok.whole

pub fails_not : (inst : ℕ) (bytes : List ℕ) (at : ℕ) → FailsAt inst bytes at → MasterIsSound bytes → GroupsAreSound inst bytes → ⊥
fails_not inst bytes at (inl x) one two = x.0 record { slots = record { differ = one.differ; first = one.first; second = one.second }; checkpoint = λ _. one.ended }
fails_not inst bytes at (inr x) one two = groups_fail_not inst bytes x.1.0 x.1.1 two

-- ---- what was read

pub front_is : (bytes part : List ℕ) (chosen : Bool) (m : memory.MasterRecord) (ps : List Placed) → Says bytes chosen m → part ≡ take 1048576 (drop 130 bytes) → map entry ps ≡ front m.start part → map entry ps ≡ front_of bytes
unfolding area
front_is bytes part chosen m ps h is e = e ∙ ap (front m.start) is ∙ ap (λ n. front n (area bytes)) (ap (λ (k : Master). k.start) h.says)

strays_along : (inst : ℕ) (c d : Bool) (m n : Master) (rs qs : Records) (place : ℕ) → c ≡ d → m ≡ n → rs ≡ qs → StraysAt inst c m (past_of m) rs place → StraysAt inst d n (past_of n) qs place
strays_along inst c d m n rs qs place e f g h =
    subst (λ (l : Records). StraysAt inst d n (past_of n) l place) g (subst (λ (k : Master). StraysAt inst d k (past_of k) rs place) f (subst (λ b. StraysAt inst b m (past_of m) rs place) e h))

-- a record strays
strays_of : (inst : ℕ) (bytes : List ℕ) (chosen : Bool) (m : memory.MasterRecord) (ps : List Placed) (place : ℕ) → Says bytes chosen m → map entry ps ≡ front_of bytes → StraysAt inst chosen (kept_master m) (past_of (kept_master m)) (map entry ps) place → GroupsFailAt inst bytes place
strays_of inst bytes chosen m ps place h e s = inl (strays_along inst chosen _ (kept_master m) (master bytes) (map entry ps) (front_of bytes) place h.counts h.says e s)

-- ---- a log that keeps the format

-- what is told of its records
abbrev pub Told : ℕ → Bool → memory.MasterRecord → List Placed → Refusal → Type 0
Told inst chosen m ps e =
    ((IsChecked chosen (kept_master m) (bare ps) → ⊥) × (e ≡ R.Damaged inst 0))
    ⊎ (IsChecked chosen (kept_master m) (bare ps) × ((place : ℕ) × StraysAt inst chosen (kept_master m) (past_of (kept_master m)) (map entry ps) place × (e ≡ R.Damaged inst (130 + place))))

pub whole_fails : (inst : ℕ) (bytes : List ℕ) (chosen : Bool) (m : memory.MasterRecord) (ps : List Placed) (e : Refusal) (dev at : ℕ) → Says bytes chosen m → IsWhole (kept bytes) → records_in bytes ≡ bare ps → map entry ps ≡ front_of bytes
    → Told inst chosen m ps e → e ≡ R.Damaged dev at → FailsAt inst bytes at
whole_fails inst bytes chosen m ps e dev at h w are first (inl x) is =
    let zero : at ≡ 0 = cc (x.1, is) in
    inl (λ passes. x.0 (checked_by bytes chosen m (bare ps) h are (passes.checkpoint w)), zero)
whole_fails inst bytes chosen m ps e dev at h w are first (inr x) is =
    let place : at ≡ 130 + x.1.0 = cc (x.1.2, is) in
    inr (record { slots = h.sound; checkpoint = λ _. ended_by bytes chosen m (bare ps) h are x.0 }, (x.1.0, strays_of inst bytes chosen m ps x.1.0 h first x.1.1, place))

-- ---- one that breaks it

-- what breaks it
abbrev pub Broke : List ℕ → Refusal → Type 0
Broke bytes fault = ((at : ℕ) → fault ≡ R.BadLog at → kept bytes ≡ BadGroup at) × ((at : ℕ) → fault ≡ R.BadRecord at → kept bytes ≡ NoRecord at)

breaks_at : (bytes : List ℕ) (fault : Refusal) (place : ℕ) → Broke bytes fault → IsAt fault place → BreaksAt (kept bytes) place × (IsWhole (kept bytes) → ⊥)
breaks_at bytes fault place b (inl is) = let e = b.0 place is in subst (λ (r : Reading). BreaksAt r place × (IsWhole r → ⊥)) (sym e) (refl, λ w. w)
breaks_at bytes fault place b (inr is) = let e = b.1 place is in subst (λ (r : Reading). BreaksAt r place × (IsWhole r → ⊥)) (sym e) (refl, λ w. w)

fails_first : (inst : ℕ) (bytes : List ℕ) (chosen : Bool) (m : memory.MasterRecord) (ps : List Placed) (fault : Refusal) (place : ℕ) → Says bytes chosen m → map entry ps ≡ front_of bytes → Broke bytes fault
    → BreaksFirst inst chosen (kept_master m) ps fault place → GroupsFailAt inst bytes place
fails_first inst bytes chosen m ps fault place h first b (inl s) = strays_of inst bytes chosen m ps place h first s
fails_first inst bytes chosen m ps fault place h first b (inr x) =
    let same : bare ps ≡ map (λ y. y.1) (front_of bytes) = sym (bare_entries ps) ∙ ap (map (λ (y : ℕ × Record). y.1)) first in
    inr (follow_along inst chosen _ (kept_master m) (master bytes) (bare ps) _ h.counts h.says same x.0, (breaks_at bytes fault place b x.1).0)

pub broken_fails : (inst : ℕ) (bytes : List ℕ) (chosen : Bool) (m : memory.MasterRecord) (ps : List Placed) (fault e : Refusal) (dev at : ℕ) → Says bytes chosen m → map entry ps ≡ front_of bytes → Broke bytes fault → (place : ℕ) × IsAt fault place × (place < 1048576)
    → (place : ℕ) × BreaksFirst inst chosen (kept_master m) ps fault place × (e ≡ R.Damaged inst (130 + place)) → e ≡ R.Damaged dev at → FailsAt inst bytes at
broken_fails inst bytes chosen m ps fault e dev at h first b there x is =
    let place : at ≡ 130 + x.0 = cc (x.2, is) in
    inr (record { slots = h.sound; checkpoint = λ w. absurd ((breaks_at bytes fault there.0 b there.1).1 w) }, (x.0, fails_first inst bytes chosen m ps fault x.0 h first b x.1, place))

pub err_same : {T E : Type 0} (x y : E) → ◌≡◌ {A = Result T E} (Err x) (Err y) → x ≡ y
err_same x y e = cc
