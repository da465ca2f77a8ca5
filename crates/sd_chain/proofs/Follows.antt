-- Records that follow one another: their LSNs rise, and one more may come behind them. For check 2.
use Rattle.std.proofs.Common.{eqb-true, ◌≡◌, ℕ, ◌+◌, ◌<◌, ◌≤◌, Bool, true, false, List, [], ◌∷◌, ◌++◌, refl, arith}
use Rattle.std.specs.Prelude.{◌||◌}
use Rattle.std.specs.List.{list_any}
use Rattle.sd_logrec.specs.declared.record.Record.{Record}
use Rattle.sd_logrec.specs.declared.record.Record.TheVariants as records
use Rattle.sd_logrec.specs.Kept.{Master}
use Rattle.sd_chain.specs.Checks.{Follow, IsKnownStart, MayCome, Past, StartFits, after_record, is_end_check, lsn_of, starts_by}
use Rattle.sd_chain.specs.Logs.{after_records, is_start}
use Rattle.sd_chain.proofs.Pasts.{lsn_after}

-- no test is passed and failed
pub not-both : (b : Bool) → b ≡ true → b ≡ false → ⊥
not-both b is off = absurd (cc)

any_front : (test : Record → Bool) (xs : List Record) (y : Record) → list_any test (xs ++ y ∷ []) ≡ false
    → list_any test xs ≡ false
any_front test [] y e = refl
any_front test (x ∷ xs) y e = by (test x) (any_front test xs y) e
  where
    by : (b : Bool) → (list_any test (xs ++ y ∷ []) ≡ false → list_any test xs ≡ false)
        → (b || list_any test (xs ++ y ∷ [])) ≡ false → (b || list_any test xs) ≡ false
    by true ih h = h
    by false ih h = ih h

known_longer : (m : Master) (past : Past) (epoch : ℕ) (rest : List Record) (y : Record) → IsKnownStart m past epoch rest
    → IsKnownStart m past epoch (rest ++ y ∷ [])
known_longer m past epoch rest y k =
    record { rises = k.rises; within = k.within; last = λ none. k.last (any_front (starts_by m.check) rest y none) }

start_longer : (chosen : Bool) (m : Master) (past : Past) (r : Record) (rest : List Record) (y : Record)
    → StartFits chosen m past r rest → StartFits chosen m past r (rest ++ y ∷ [])
start_longer chosen m past (records.Start l epoch) rest y f = (λ is le. known_longer m past epoch rest y (f.0 is le), f.1)
start_longer chosen m past (records.Update l txn prev page slot capacity before after) rest y f = tt
start_longer chosen m past (records.Clr l txn prev undo_next page slot after) rest y f = tt
start_longer chosen m past (records.Commit l txn prev) rest y f = tt
start_longer chosen m past (records.End l txn prev) rest y f = tt
start_longer chosen m past (records.BeginCheck l) rest y f = tt
start_longer chosen m past (records.EndCheck l begin spans recs) rest y f = tt

-- one more record follows
pub follow-push : (inst : ℕ) (chosen : Bool) (m : Master) (past : Past) (xs : List Record) (y : Record)
    → Follow inst chosen m past xs
    → (after_records past xs).lsn < lsn_of y → MayCome inst (after_records past xs) y
    → StartFits chosen m (after_records past xs) y []
    → Follow inst chosen m past (xs ++ y ∷ [])
follow-push inst chosen m past [] y f low come fits = (low, come, fits, tt)
follow-push inst chosen m past (x ∷ xs) y f low come fits =
    (f.0, f.1, start_longer chosen m past x xs y f.2, follow-push inst chosen m (after_record past x) xs y f.3 low come fits)

-- ---- what the records say, from the last one on

-- what more records say, behind others
pub after-append : (past : Past) (xs ys : List Record)
    → after_records past (xs ++ ys) ≡ after_records (after_records past xs) ys
after-append past [] ys = refl
after-append past (x ∷ xs) ys = after-append (after_record past x) xs ys

-- only a Start moves the epoch
pub epoch-after : (past : Past) (r : Record) → is_start r ≡ false → (after_record past r).epoch ≡ past.epoch
epoch-after past (records.Start l epoch) e = absurd (cc)
epoch-after past (records.Update l txn prev page slot capacity before after) e = refl
epoch-after past (records.Clr l txn prev undo_next page slot after) e = refl
epoch-after past (records.Commit l txn prev) e = refl
epoch-after past (records.End l txn prev) e = refl
epoch-after past (records.BeginCheck l) e = refl
epoch-after past (records.EndCheck l begin spans recs) e = refl

-- LSNs rise, so none is above the last one
pub lsn-rises : (inst : ℕ) (chosen : Bool) (m : Master) (past : Past) (xs : List Record) → Follow inst chosen m past xs
    → past.lsn ≤ (after_records past xs).lsn
lsn-rises inst chosen m past [] f = omega arith
lsn-rises inst chosen m past (x ∷ xs) f =
    let ih = lsn-rises inst chosen m (after_record past x) xs f.3 in let lt = f.0 in omega (arith, ih, lt, lsn_after past x)

check_lsn : (lsn : ℕ) (r : Record) → is_end_check lsn r ≡ true → lsn_of r ≡ lsn
check_lsn lsn (records.Start l epoch) e = absurd (cc)
check_lsn lsn (records.Update l txn prev page slot capacity before after) e = absurd (cc)
check_lsn lsn (records.Clr l txn prev undo_next page slot after) e = absurd (cc)
check_lsn lsn (records.Commit l txn prev) e = absurd (cc)
check_lsn lsn (records.End l txn prev) e = absurd (cc)
check_lsn lsn (records.BeginCheck l) e = absurd (cc)
check_lsn lsn (records.EndCheck l begin spans recs) e = eqb-true l lsn e

-- the checkpoint that a master names is not above the last record
pub check-below : (inst : ℕ) (chosen : Bool) (m : Master) (past : Past) (xs : List Record) (lsn : ℕ)
    → Follow inst chosen m past xs
    → list_any (is_end_check lsn) xs ≡ true → lsn ≤ (after_records past xs).lsn
check-below inst chosen m past [] lsn f e = absurd (cc)
check-below inst chosen m past (x ∷ xs) lsn f e =
    by (is_end_check lsn x) refl (λ h. check-below inst chosen m (after_record past x) xs lsn f.3 h) e
  where
    by : (b : Bool) → is_end_check lsn x ≡ b
        → (list_any (is_end_check lsn) xs ≡ true → lsn ≤ (after_records past (x ∷ xs)).lsn)
        → (b || list_any (is_end_check lsn) xs) ≡ true → lsn ≤ (after_records past (x ∷ xs)).lsn
    by true is ih h = let here = check_lsn lsn x is in let up = lsn-rises inst chosen m (after_record past x) xs f.3 in
        omega (arith, here, up, lsn_after past x)
    by false is ih h = ih h

-- A Start of the next epoch may be appended: the checkpoint stands before it.
pub start-fits : (inst : ℕ) (chosen : Bool) (m : Master) (past : Past) (l epoch : ℕ) → (chosen ≡ true → m.check < l)
    → epoch ≡ past.epoch + 1 → StartFits chosen m past (records.Start l epoch) []
start-fits inst chosen m past l epoch low next = (λ is le. let lt = low is in absurd (omega (arith, le, lt)), λ none. next)
