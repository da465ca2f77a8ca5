-- What a log device keeps, by the log in memory, with its tail and without.
use Rattle.std.proofs.Common.{◌≡◌, ◌⊎◌, inl, inr, ⊎_elim, ℕ, ◌+◌, ◌≤◌, Bool, true, false, cond, ltb, ◌&&◌, List, [], ◌∷◌, ◌++◌, map, refl, sym, ap, ◌∙◌, arith, append-nil, ap₂, length}
use Rattle.std.specs.List.{flat_map}
use Rattle.std.proofs.lemmas.Grind.{flat_map-append}
use Rattle.std.proofs.lemmas.List.{map-append}
use Rattle.std.proofs.lemmas.List.Concat.{flat_map-cons}
use Rattle.std.proofs.lemmas.Bool.{lt-ltb, ltb-true}
use Rattle.sd_logrec.specs.declared.record.Record.{Record}
use Rattle.sd_logrec.specs.Spelling.{spelling}
use Rattle.sd_logrec.specs.View.{Rec, flat}
use Rattle.sd_logrec.specs.Kept.{Group, Whole, area, kept, master, master_of, placed_from, reading, spelled}
use Rattle.sd_log.specs.Logs.{LogState, StandsOn, forced, forced_with, tail_group, tail_len}
use Rattle.sd_log.specs.Forces.{StandsEither}
use Rattle.sd_rig.specs.Devices.{AgreesOutside}
use Rattle.sd_rig.specs.Devices as rig
use Rattle.sd_chain.specs.Bytes.{log_of, records_of}
use Rattle.sd_chain.proofs.Devices.{chosen_same, part_before}
use Rattle.sd_chain.specs.Logs.{all_at, base_at, records_at}

placed_flat : (at : ℕ) (rs : List Record) → map (λ r. flat r.1) (placed_from at rs) ≡ map flat rs
placed_flat at [] = refl
placed_flat at (r ∷ rs) = ap (λ (l : List Rec). flat r ∷ l) (placed_flat (at + length (spelling r)) rs)

-- the records of groups, as they are spelled
abbrev pub grouped : List Group → List Record
grouped groups = map (λ r. r.1) (flat_map (λ g. g.records) groups)

-- the records of more groups
pub grouped-append : (gone behind : List Group) → grouped (gone ++ behind) ≡ grouped gone ++ grouped behind
grouped-append gone behind = ap (map (λ r. r.1)) (flat_map-append (λ (g : Group). g.records) gone behind)
    ∙ map-append (λ (r : ℕ × Record). r.1) (flat_map (λ g. g.records) gone) (flat_map (λ g. g.records) behind)

-- seen flat, wherever the gates stand
pub base-append : (gone behind : List Group) (a b c : ℕ)
    → records_of (Whole (gone ++ behind) a) ≡ records_of (Whole gone b) ++ records_of (Whole behind c)
base-append gone behind a b c = ap (map (λ r. flat r.1)) (flat_map-append (λ (g : Group). g.records) gone behind)
    ∙ map-append (λ (r : ℕ × Record). flat r.1) (flat_map (λ g. g.records) gone) (flat_map (λ g. g.records) behind)

one_group : (g : Group) → flat_map (λ (h : Group). h.records) (g ∷ []) ≡ g.records
one_group g = flat_map-cons (λ (h : Group). h.records) g [] ∙ append-nil g.records

with_base : (log : LogState) (tail : List Record) → log.tail ≡ tail → base_at (forced_with log tail) ≡ all_at log
with_base log [] e = sym (ap (λ (t : List Record). base_at log ++ map flat t) e ∙ append-nil (base_at log))
with_base log (r ∷ rs) e = base-append log.groups (tail_group log ∷ []) (log.gate + 5 + tail_len log) log.gate log.gate
    ∙ ap (λ (l : List Rec). base_at log ++ l)
    (ap (map (λ r. flat r.1)) (one_group (tail_group log)) ∙ placed_flat (log.gate + 5) log.tail)

-- what a force makes of the log: its records
pub forced-base : (log : LogState) → base_at (forced log) ≡ all_at log
forced-base log = with_base log log.tail refl

with_none : (log : LogState) (tail : List Record) → log.tail ≡ tail → (forced_with log tail).tail ≡ []
with_none log [] e = e
with_none log (r ∷ rs) e = refl

-- its tail
pub forced-tail : (log : LogState) → (forced log).tail ≡ []
forced-tail log = with_none log log.tail refl

with_start : (log : LogState) (tail : List Record) → (forced_with log tail).start ≡ log.start
with_start log [] = refl
with_start log (r ∷ rs) = refl

-- its place
pub forced-start : (log : LogState) → (forced log).start ≡ log.start
forced-start log = with_start log log.tail

with_idle : (log : LogState) (tail : List Record) → tail ≡ [] → forced_with log tail ≡ log
with_idle log [] e = refl
with_idle log (r ∷ rs) e = absurd (cc)

-- a log without a tail stays
pub forced-idle : (log : LogState) → log.tail ≡ [] → forced log ≡ log
forced-idle log e = with_idle log log.tail e

-- a write behind the master leaves it
pub master-same : (at n : ℕ) (old new : List ℕ) → 130 ≤ at → AgreesOutside at n old new → master new ≡ master old
unfolding master
master-same at n old new le a = ap master_of (chosen_same 0 64 old new (part_before at n 0 130 old new a (omega (arith, le))))

-- a device keeps the log that stands on it
pub kept-is : (log : LogState) (bytes : List ℕ) → (master bytes).start ≡ log.start → StandsOn log bytes
    → kept bytes ≡ Whole log.groups log.gate
kept-is log bytes start stands = ap (λ s. reading s (area bytes)) start ∙ stands

within : (j : ℕ) → 1 ≤ j → j ≤ 8 → (ltb 0 j && ltb j 9) ≡ true
within j low high = ap₂ (λ (a b : Bool). a && b) (lt-ltb 0 j (omega (arith, low))) (lt-ltb j 9 (omega (arith, high)))

-- an image keeps of a log what its device does
pub log-here : (img : rig.DeviceImages) (j : ℕ) → 1 ≤ j → j ≤ 8 → log_of img j ≡ records_of (kept (img j))
log-here img j low high = ap (λ (b : Bool). cond {A = List Rec} b (records_of (kept (img j))) []) (within j low high)

-- the log, with its tail or without
pub log-either : (j : ℕ) (log : LogState) (img : rig.DeviceImages) → 1 ≤ j → j ≤ 8 → (master (img j)).start ≡ log.start
    → StandsEither log (img j)
    → (log_of img j ≡ base_at log) ⊎ (log_of img j ≡ all_at log)
log-either j log img low high start stands =
    let here = log-here img j low high in
    ⊎_elim
    (λ s. inl (here ∙ ap records_of (kept-is log (img j) start s)))
    (λ s. inr (here ∙ ap records_of (kept-is (forced log) (img j) (start ∙ sym (forced-start log)) s) ∙ forced-base log))
    stands

-- a log of none but the eight keeps nothing
pub log-past : (img : rig.DeviceImages) (j : ℕ) → 9 ≤ j → log_of img j ≡ []
log-past img j le = ap (λ (b : Bool). cond {A = List Rec} b (records_of (kept (img j))) [])
    (ap (λ (b : Bool). ltb 0 j && b) (not_below j le) ∙ none (ltb 0 j))
  where
    none : (b : Bool) → (b && false) ≡ false
    none true = refl
    none false = refl

    not_below : (j : ℕ) → 9 ≤ j → ltb j 9 ≡ false
    not_below j le = by (ltb j 9) refl
      where
        by : (b : Bool) → ltb j 9 ≡ b → ltb j 9 ≡ false
        by true e = let lt = ltb-true j 9 e in absurd (omega (arith, lt, le))
        by false e = e

-- the forced records with a tail
placed_records : (at : ℕ) (rs : List Record) → map (λ r. r.1) (placed_from at rs) ≡ rs
placed_records at [] = refl
placed_records at (r ∷ rs) = ap (λ (l : List Record). r ∷ l) (placed_records (at + length (spelling r)) rs)

with_records : (log : LogState) (tail : List Record) → log.tail ≡ tail
    → records_at (forced_with log tail) ≡ records_at log ++ log.tail
with_records log [] e = sym (ap (λ (t : List Record). records_at log ++ t) e ∙ append-nil (records_at log))
with_records log (r ∷ rs) e = grouped-append log.groups (tail_group log ∷ [])
    ∙ ap (λ (l : List Record). records_at log ++ l)
    (ap (map (λ r. r.1)) (one_group (tail_group log)) ∙ placed_records (log.gate + 5) log.tail)

-- the records that a force leaves
pub forced-records : (log : LogState) → records_at (forced log) ≡ records_at log ++ log.tail
forced-records log = with_records log log.tail refl

-- the next gate stands behind the tail
pub forced-gate : (l : LogState) → l.gate + tail_len l ≤ (forced l).gate
forced-gate l = by l.tail refl
  where
    by : (tail : List Record) → l.tail ≡ tail → l.gate + tail_len l ≤ (forced_with l tail).gate
    by [] e = let none : tail_len l ≡ 0 = ap (λ (t : List Record). length (spelled t)) e in omega (arith, none)
    by (r ∷ rs) e = omega arith

-- whether a tail is kept that isn't there
pub no-tail : (b : Bool) (xs : List Rec) → xs ++ cond {A = List Rec} b [] [] ≡ xs
no-tail true xs = append-nil xs
no-tail false xs = append-nil xs

-- records, flat, with their places or without
pub flat-records : (rs : List (ℕ × Record)) → map flat (map (λ r. r.1) rs) ≡ map (λ r. flat r.1) rs
flat-records [] = refl
flat-records (r ∷ rs) = ap (λ (l : List Rec). flat r.1 ∷ l) (flat-records rs)
