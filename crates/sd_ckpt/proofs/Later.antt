-- The log of an instance that ends its checkpoint, from its later place on, and the master that names it: for the goals of
-- `put_over`.
use Rattle.std.proofs.Common.{◌≡◌, inl, inr, ⊎_elim, ℕ, ◌<◌, ◌≤◌, Bool, true, false, eqb-true, ◌||◌, List, [], ◌∷◌, ◌++◌, map, refl, sym, ap, ◌∙◌, subst, arith}
use Rattle.std.specs.Prelude.{Some}
use Rattle.std.specs.List.{AllByRecursion, flat_map, list_any}
use Rattle.std.proofs.lemmas.Bool.{cases_Bool, le-leb}
use Rattle.std.proofs.lemmas.List.{map-append}
use Rattle.std.proofs.lemmas.List.Concat.{flat_map-cons}
use Rattle.std.proofs.lemmas.List.Folds.{list_any-append}
use Rattle.sd_logrec.specs.Kept.{Group, Master, Records, Whole, area, master, master_of}
use Rattle.sd_logrec.specs.View.{Rec, flat}
use Rattle.sd_logrec.specs.declared.record.Record.{Record}
use Rattle.sd_logrec.specs.declared.record.Record.TheVariants as records
use Rattle.sd_log.specs.Logs.{AreBelow, LogState, StandsOn, begun_at, boundary, last_lsn, scanned}
use Rattle.sd_log.proofs.Behind.{Later, boundary-moves, later-stands}
use Rattle.sd_model.specs.Lives.{IsFallen}
use Rattle.sd_model.specs.State.{State}
use Rattle.sd_rig.specs.Devices as rig
use Rattle.sd_chain.specs.Checks.{IsMaster, is_end_check, placed_of}
use Rattle.sd_chain.specs.Logs.{Outcomes, base_at, past_at, records_at}
use Rattle.sd_chain.specs.Records.{Each}
use Rattle.sd_chain.specs.Starts.{NamesLater}
use Rattle.sd_chain.proofs.Kept.{flat-records, forced-idle, grouped, grouped-append}
use Rattle.sd_chain.proofs.Lists.{Each-append}
use Rattle.sd_chain.proofs.Lsns.{last-is}
use Rattle.sd_state.specs.Good.{Good, IsSettledAt, reaches}
use Rattle.sd_state.specs.Parts.{Parts, epoch_at, log_at, low_of, status_at}
use Rattle.sd_state.specs.Values.{Pending}
use Rattle.sd_state.proofs.Lows.{low-begin}
use Rattle.sd_ckpt.proofs.Reached.{or-right}
use Rattle.sd_ckpt.specs.Laws.{MayBegin}
use Rattle.sd_ckpt.specs.Masters.{MayPutMaster, next_master}

-- ---- groups below a low

records-below : (low : ℕ) (rs : Records) → AreBelow low rs → Each (λ x. x.lsn < low) (map flat (map (λ r. r.1) rs))
records-below low [] a = tt
records-below low (r ∷ rs) a = (a.0, records-below low rs a.1)

grouped-cons : (g : Group) (gs : List Group) → grouped (g ∷ gs) ≡ map (λ r. r.1) g.records ++ grouped gs
grouped-cons g gs = ap (map (λ (r : ℕ × Record). r.1)) (flat_map-cons (λ (h : Group). h.records) g gs)
    ∙ map-append (λ (r : ℕ × Record). r.1) g.records (flat_map (λ (h : Group). h.records) gs)

groups-below : (low : ℕ) (gs : List Group) → AllByRecursion (λ g. AreBelow low g.records) gs
    → Each (λ x. x.lsn < low) (map flat (grouped gs))
groups-below low [] a = tt
groups-below low (g ∷ gs) a = subst (Each (λ (x : Rec). x.lsn < low))
    (sym (ap (map flat) (grouped-cons g gs) ∙ map-append flat (map (λ (r : ℕ × Record). r.1) g.records) (grouped gs)))
    (Each-append (λ x. x.lsn < low) (map flat (map (λ (r : ℕ × Record). r.1) g.records)) (map flat (grouped gs))
    (records-below low g.records a.0) (groups-below low gs a.1))

-- ---- the record that ends a checkpoint

ends-lsn : (lsn : ℕ) (r : Record) → is_end_check lsn r ≡ true → (flat r).lsn ≡ lsn
ends-lsn lsn (records.Start l epoch) e = absurd (cc)
ends-lsn lsn (records.Update l txn prev page slot capacity before after) e = absurd (cc)
ends-lsn lsn (records.Clr l txn prev undo_next page slot after) e = absurd (cc)
ends-lsn lsn (records.Commit l txn prev) e = absurd (cc)
ends-lsn lsn (records.End l txn prev) e = absurd (cc)
ends-lsn lsn (records.BeginCheck l) e = absurd (cc)
ends-lsn lsn (records.EndCheck l begin spans recs) e = eqb-true l lsn e

none-ends : (low lsn : ℕ) (rs : List Record) → low ≤ lsn → Each (λ x. x.lsn < low) (map flat rs)
    → list_any (is_end_check lsn) rs ≡ false
none-ends low lsn [] le a = refl
none-ends low lsn (r ∷ rs) le a = ⊎_elim
    (λ on. let is = ends-lsn lsn r on in let lt = a.0 in absurd (omega (arith, is, lt, le)))
    (λ off. ap (λ (b : Bool). b || list_any (is_end_check lsn) rs) off ∙ none-ends low lsn rs le a.1)
    (cases_Bool (is_end_check lsn r))

ends-reach : (lsn : ℕ) (rs : List Record) → list_any (is_end_check lsn) rs ≡ true → list_any (reaches lsn) (map flat rs) ≡ true
ends-reach lsn [] e = absurd (cc)
ends-reach lsn (r ∷ rs) e = ⊎_elim
    (λ on. let is = ends-lsn lsn r on in ap (λ (b : Bool). b || list_any (reaches lsn) (map flat rs))
    (le-leb lsn (flat r).lsn (omega (arith, is))))
    (λ off. or-right (reaches lsn (flat r)) (list_any (reaches lsn) (map flat rs))
    (ends-reach lsn rs (sym (ap (λ (b : Bool). b || list_any (is_end_check lsn) rs) off) ∙ e)))
    (cases_Bool (is_end_check lsn r))

module _ (i check start : ℕ) (seen : rig.DeviceImages) (leaves : Outcomes) (c : Parts) (m : State) (low : 1 ≤ i) (high : i ≤ 8)
    (g : Good seen leaves Pending.Idle c m) (may : MayPutMaster i check start c) where
  abbrev log : LogState
  log = log_at c i

  abbrev before : List Group
  before = may.begun.2.before

  abbrev behind : List Group
  behind = may.begun.2.behind

  at-i : IsSettledAt seen leaves c i
  at-i = g.settled i low high may.settled

  later : Later log (seen i) behind
  later = later-stands log (seen i) before behind may.begun.2.parts at-i.stands

  place : start ≡ boundary behind log.gate
  place = may.begun.2.place_is

  -- the log that begins there
  abbrev pub later-log : LogState
  later-log = begun_at start log

  later-log-is : later-log ≡ record log { start = start; groups = behind }
  later-log-is = ap (λ (p : ℕ). begun_at p log) place ∙ later.log
      ∙ ap (λ (p : ℕ). record log { start = p; groups = behind }) (sym place)

  pub later-log-stands : StandsOn later-log (seen i)
  later-log-stands = subst (λ (p : ℕ). StandsOn (begun_at p log) (seen i)) (sym place) later.stands

  -- the records in front
  abbrev pub gone : List Record
  gone = grouped before

  parted : records_at log ≡ gone ++ records_at later-log
  parted = ap grouped may.begun.2.parts ∙ grouped-append before behind
      ∙ ap (λ (l : LogState). gone ++ grouped l.groups) (sym later-log-is)

  -- the checkpoint's low is below its end
  abbrev least : ℕ
  least = low_of may.begun.0

  below : Each (λ x. x.lsn < least) (map flat gone)
  below = groups-below least before may.begun.2.below

  low-check : least ≤ check
  low-check = let first = low-begin may.begun.0 in let last = (g.checking i may.begun.0 may.begun.1).begun in
      omega (arith, first, last, may.check)

  ended : list_any (is_end_check check) (records_at later-log) ≡ true
  ended = sym (list_any-append (is_end_check check) gone (records_at later-log)
      ∙ ap (λ (b : Bool). b || list_any (is_end_check check) (records_at later-log)) (none-ends least check gone low-check below))
      ∙ sym (ap (list_any (is_end_check check)) parted) ∙ may.ended

  last-kept : list_any (reaches (last_lsn (scanned log))) (base_at later-log) ≡ true
  last-kept = subst (λ (n : ℕ). list_any (reaches n) (base_at later-log) ≡ true) may.check
      (ap (list_any (reaches check)) (sym (flat-records (placed_of (Whole later-log.groups later-log.gate))))
      ∙ ends-reach check (records_at later-log) ended)

  same : start ≡ log.start → later-log ≡ log
  same e = let none = boundary-moves log.start (area (seen i)) before behind log.gate
      (at-i.stands ∙ ap (λ (gs : List Group). Whole gs log.gate) may.begun.2.parts) (sym place ∙ e) in
      let all : behind ≡ log.groups = ap (λ (gs : List Group). gs ++ behind) (sym none) ∙ sym may.begun.2.parts in
      later-log-is ∙ ap (λ (p : ℕ). record log { start = p; groups = behind }) e
      ∙ ap (λ (gs : List Group). record log { groups = gs }) all

  stands : IsFallen (status_at c i) → ⊥
  stands fell = ⊎_elim (λ up. subst IsFallen up fell) (λ re. subst IsFallen re fell) may.takes

  pub may-begin : MayBegin i start gone later-log c
  may-begin = record {
    low = low;
    high = high;
    stands = stands;
    settled = may.settled;
    bare = may.bare;
    forgets = inr (may.begun.0, may.begun.1, below);
    records = parted;
    gate = omega arith;
    tail = may.bare;
    last_kept = last-kept;
    begins = refl;
    start = refl;
    same = same;
  }

  -- a master that says so names it
  pub names-later : (body : List ℕ) → IsMaster body
      → master_of (Some body) ≡ next_master (epoch_at c i) check start (master (seen i))
      → NamesLater (seen i) log later-log body
  names-later body well says =
      let idle = forced-idle log may.bare in
      let last = ap (λ (l : LogState). (past_at (master (seen i)) l).lsn) (sym idle) ∙ last-is (master (seen i)) log
      ∙ sym may.check in
      let named : (master_of (Some body)).check ≡ check = ap (λ (x : Master). x.check) says in
      record {
        well = well;
        start = ap (λ (x : Master). x.start) says;
        says = inl (record {
          epoch = ap (λ (x : Master). x.epoch) says
              ∙ sym (ap (λ (l : LogState). (past_at (master (seen i)) l).epoch) (sym idle) ∙ at-i.epoch);
          check = omega (arith, last, named);
          ended = ap (λ (n : ℕ). list_any (is_end_check n) (records_at later-log)) named ∙ ended;
        });
        stands = later-log-stands;
      }
