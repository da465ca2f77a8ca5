-- Records that follow one another, as the loop goes. It serves the goals of following.rt.
use Rattle.std.proofs.Common.{◌≡◌, ◌⊎◌, inl, inr, ℕ, ◌+◌, ◌<◌, ◌≤◌, Bool, true, false, cond, List, [], ◌∷◌, refl, sym, ap, ◌∙◌, subst, arith}
use Rattle.std.specs.Prelude.{◌↔◌, ◌||◌, IsTrue, map, nat_eq, nat_lt}
use Rattle.std.specs.List.{list_any}
use Rattle.std.proofs.lemmas.Bool.{both_ways, cases_Bool, eq-eqb, eqb-true, lt-ltb, or_left}
use Rattle.std.proofs.lemmas.List.Sums.{sum_by-cons}
use Rattle.sd_logrec.specs.declared.record.Record.{Record}
use Rattle.sd_logrec.specs.declared.record.Record.TheVariants as records
use Rattle.sd_logrec.specs.Kept.{Master}
use Rattle.sd_log.specs.declared.placed.Placed.{Placed}
use Rattle.sd_log.specs.Marks.{entry}
use Rattle.sd_chain.specs.Checks.{Follow, IsKnownStart, MayCome, Past, StartFits, after_record, lsn_of, past_of, starts_by}
use Rattle.sd_chain.specs.Faults.{Follows, StraysAt}
use Rattle.sd_recovered.specs.Following.{bare, known}

-- ---- Starts that a checkpoint knew

known_first : (b : Bool) (lsn : ℕ) (r : Record) (rs : List Record) → starts_by lsn r ≡ b → known lsn (r ∷ rs) ≡ cond {A = ℕ} b 1 0 + known lsn rs
known_first b lsn r rs e = sum_by-cons (λ x. cond {A = ℕ} (starts_by lsn x) 1 0) r rs ∙ ap (λ c. cond {A = ℕ} c 1 0 + known lsn rs) e

count_any : (lsn : ℕ) (rs : List Record) → known lsn rs ≡ 0 → list_any (starts_by lsn) rs ≡ false
count_any lsn [] none = refl
count_any lsn (r ∷ rs) none = elim (cases_Bool (starts_by lsn r)) [
  | inl is ↦ absurd (omega (arith, known_first true lsn r rs is))
  | inr isnt ↦ let less : known lsn rs ≡ 0 = omega (arith, known_first false lsn r rs isnt) in ap (λ b. b || list_any (starts_by lsn) rs) isnt ∙ count_any lsn rs less
]

any_count : (lsn : ℕ) (rs : List Record) → list_any (starts_by lsn) rs ≡ false → known lsn rs ≡ 0
any_count lsn [] none = refl
any_count lsn (r ∷ rs) none = elim (cases_Bool (starts_by lsn r)) [
  | inl is ↦ absurd (both_ways _ none (or_left (starts_by lsn r) (list_any (starts_by lsn) rs) is))
  | inr isnt ↦
      let rest : known lsn rs ≡ 0 = any_count lsn rs (sym (ap (λ b. b || list_any (starts_by lsn) rs) isnt) ∙ none) in
      omega (arith, known_first false lsn r rs isnt)
]

-- by what is tested last
known_start : (m : Master) (past : Past) (epoch later : ℕ) (rest : List Record) (b : Bool) → (past.started ≡ true → past.epoch < epoch) → epoch ≤ m.epoch → later ≡ known m.check rest
    → (IsTrue b → later ≡ 0 → epoch ≡ m.epoch) → ((later ≡ 0 → epoch ≡ m.epoch) → IsTrue b) → IsTrue b ↔ IsKnownStart m past epoch rest
known_start m past epoch later rest b rises within count there back = (
  λ t. record { rises = rises; within = within; last = λ none. there t (count ∙ any_count m.check rest none) },
  λ k. back (λ none. k.last (count_any m.check rest (sym count ∙ none))),
)

pub known_more : (m : Master) (past : Past) (epoch later : ℕ) (rest : List Record) → (past.started ≡ true → past.epoch < epoch) → epoch ≤ m.epoch → later ≡ known m.check rest → 0 < later
    → IsTrue (nat_lt 0 later) ↔ IsKnownStart m past epoch rest
known_more m past epoch later rest rises within count more =
    known_start m past epoch later rest (nat_lt 0 later) rises within count (λ t none. absurd (omega arith)) (λ h. lt-ltb 0 later more)

pub known_last : (m : Master) (past : Past) (epoch later : ℕ) (rest : List Record) → (past.started ≡ true → past.epoch < epoch) → epoch ≤ m.epoch → later ≡ known m.check rest → later ≤ 0
    → IsTrue (nat_eq epoch m.epoch) ↔ IsKnownStart m past epoch rest
known_last m past epoch later rest rises within count none =
    let zero_later : later ≡ 0 = omega arith in
    known_start m past epoch later rest (nat_eq epoch m.epoch) rises within count (λ t z. eqb-true epoch m.epoch t) (λ h. eq-eqb epoch m.epoch (h zero_later))

-- ---- a Start

pub known_case : (P Q : Type 0) (chosen b : Bool) (lsn check : ℕ) → chosen ≡ true → lsn ≤ check → (IsTrue b ↔ P) → IsTrue b ↔ ((chosen ≡ true → lsn ≤ check → P) × ((chosen ≡ false) ⊎ (check < lsn) → Q))
known_case P Q chosen b lsn check is le h = (
  λ t. (λ c l. h.0 t, λ other. elim other [ inl isnt ↦ absurd (both_ways chosen isnt is) | inr lt ↦ absurd (omega arith) ]),
  λ p. h.1 (p.0 is le),
)

pub start_case : (inst : ℕ) (chosen : Bool) (m : Master) (past : Past) (lsn epoch : ℕ) (r : Record) (rest : List Record) (b : Bool) → r ≡ records.Start lsn epoch → past.lsn < lsn_of r → (IsTrue b ↔ StartFits chosen m past (records.Start lsn epoch) rest)
    → IsTrue b ↔ Follows inst chosen m past r rest
start_case inst chosen m past lsn epoch r rest b is lt h =
    let come : MayCome inst past r = subst (λ (x : Record). MayCome inst past x) (sym is) tt in (
      λ t. (lt, come, subst (λ (x : Record). StartFits chosen m past x rest) (sym is) (h.0 t)),
      λ p. h.1 (subst (λ (x : Record). StartFits chosen m past x rest) is p.2),
    )

-- ---- the loop

pub bare_entries : (ps : List Placed) → map (λ x. x.1) (map entry ps) ≡ bare ps
bare_entries [] = refl
bare_entries (p ∷ ps) = ap (λ (l : List Record). p.rec ∷ l) (bare_entries ps)

-- How far records are tested: what holds of those from here on, behind what was before, holds of all.
pub record Goes (inst : ℕ) (chosen : Bool) (m : Master) (all rest : List Placed) (past : Past) (later : ℕ) : Type 0 where
  pub there : Follow inst chosen m past (bare rest) → Follow inst chosen m (past_of m) (bare all)
  pub stray : (place : ℕ) → StraysAt inst chosen m past (map entry rest) place → StraysAt inst chosen m (past_of m) (map entry all) place
  pub later_is : later ≡ known m.check (bare rest)

pub goes_on : (inst : ℕ) (chosen : Bool) (m : Master) (all rest : List Placed) (p : Placed) (past : Past) (before later : ℕ) → Goes inst chosen m all (p ∷ rest) past before → Follows inst chosen m past p.rec (bare rest) → later ≡ known m.check (bare rest)
    → Goes inst chosen m all rest (after_record past p.rec) later
goes_on inst chosen m all rest p past before later h may count = record {
  there = λ f. h.there (may.0, may.1, may.2, f);
  stray = λ place s. h.stray place (inr (subst (λ (rs : List Record). Follows inst chosen m past p.rec rs) (sym (bare_entries rest)) may, s));
  later_is = count;
}

pub strays_here : (inst : ℕ) (chosen : Bool) (m : Master) (all rest : List Placed) (p : Placed) (past : Past) (later : ℕ) → Goes inst chosen m all (p ∷ rest) past later → (Follows inst chosen m past p.rec (bare rest) → ⊥)
    → StraysAt inst chosen m (past_of m) (map entry all) p.place
strays_here inst chosen m all rest p past later h never = h.stray p.place (inl (λ f. never (subst (λ (rs : List Record). Follows inst chosen m past p.rec rs) (bare_entries rest) f), refl))
