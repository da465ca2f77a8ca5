-- The epoch that a log is in: whoever has a record there is of a begun one, and a later master keeps what follows. For the
-- laws `epochs` and `later_start`.
use Rattle.std.proofs.Common.{◌≡◌, ◌⊎◌, inl, inr, ⊎_elim, ℕ, ◌<◌, ◌≤◌, Bool, true, false, leb, leb-true, le-leb, List, [], ◌∷◌, ◌++◌, map, refl, sym, ap, ◌∙◌, subst, arith}
use Rattle.std.specs.Prelude.{◌||◌}
use Rattle.std.specs.List.{list_any}
use Rattle.std.proofs.lemmas.Bool.{cases_Bool, cases_lt}
use Rattle.sd_base.specs.declared.ids.TxnId.{TxnId}
use Rattle.sd_logrec.specs.declared.record.Record.{Record}
use Rattle.sd_logrec.specs.declared.record.Record.TheVariants as records
use Rattle.sd_logrec.specs.Kept.{Master}
use Rattle.sd_logrec.specs.View.{flat}
use Rattle.sd_chain.specs.Checks.{Follow, IsOwn, MayCome, Past, StartFits, after_record, past_of, starts_by}
use Rattle.sd_chain.specs.Order.{of_txn}
use Rattle.sd_chain.proofs.Whose.{own_is}
use Rattle.sd_chain.specs.Logs.{after_records}
use Rattle.sd_chain.proofs.Follows.{after-append, lsn-rises, not-both}

or_rest : (a b : Bool) → (a || b) ≡ true → a ≡ false → b ≡ true
or_rest true b e f = absurd (cc)
or_rest false b e f = e

-- the epoch of a Start is above the one before, where that is a Start's
start-rises : (chosen : Bool) (m : Master) (past : Past) (l epoch : ℕ) (rest : List Record)
    → StartFits chosen m past (records.Start l epoch) rest → past.started ≡ true → past.epoch < epoch
start-rises chosen m past l epoch rest f started = ⊎_elim
    (λ is_so. ⊎_elim
    (λ lt. let e = f.1 (inr lt) in omega (arith, e))
    (λ le. (f.0 is_so le).rises started)
    (cases_lt m.check l))
    (λ not_so. let e = f.1 (inl not_so) in omega (arith, e))
    (cases_Bool chosen)

-- once a Start came, epochs rise
pub started-rises : (inst : ℕ) (chosen : Bool) (m : Master) (past : Past) (xs : List Record) → Follow inst chosen m past xs
    → past.started ≡ true → past.epoch ≤ (after_records past xs).epoch
started-rises inst chosen m past [] f s = omega arith
started-rises inst chosen m past (records.Start l epoch ∷ xs) f s =
    let up = start-rises chosen m past l epoch xs f.2 s in
    let ih = started-rises inst chosen m (after_record past (records.Start l epoch)) xs f.3 refl in omega (arith, up, ih)
started-rises inst chosen m past (records.Update l txn prev page slot capacity before after ∷ xs) f s =
    started-rises inst chosen m (after_record past (records.Update l txn prev page slot capacity before after)) xs f.3 s
started-rises inst chosen m past (records.Clr l txn prev undo_next page slot after ∷ xs) f s =
    started-rises inst chosen m (after_record past (records.Clr l txn prev undo_next page slot after)) xs f.3 s
started-rises inst chosen m past (records.Commit l txn prev ∷ xs) f s =
    started-rises inst chosen m (after_record past (records.Commit l txn prev)) xs f.3 s
started-rises inst chosen m past (records.End l txn prev ∷ xs) f s =
    started-rises inst chosen m (after_record past (records.End l txn prev)) xs f.3 s
started-rises inst chosen m past (records.BeginCheck l ∷ xs) f s =
    started-rises inst chosen m (after_record past (records.BeginCheck l)) xs f.3 s
started-rises inst chosen m past (records.EndCheck l begin spans recs ∷ xs) f s =
    started-rises inst chosen m (after_record past (records.EndCheck l begin spans recs)) xs f.3 s

-- a Start that the checkpoint knew comes, or the epoch is the master's already
abbrev Above : Bool → Master → Past → List Record → Type 0
Above chosen m past xs = ((chosen ≡ true) × (list_any (starts_by m.check) xs ≡ true)) ⊎ (m.epoch ≤ past.epoch)

above-start : (chosen : Bool) (m : Master) (past : Past) (l epoch : ℕ) (rest : List Record)
    → StartFits chosen m past (records.Start l epoch) rest
    → Above chosen m past (records.Start l epoch ∷ rest) → Above chosen m (after_record past (records.Start l epoch)) rest
above-start chosen m past l epoch rest f h = ⊎_elim
    (λ is_so. ⊎_elim
    (λ lt. ⊎_elim
    (λ any. inl (is_so, or_rest (leb l m.check) (list_any (starts_by m.check) rest) any.1 (not_le lt)))
    (λ le. let e = f.1 (inr lt) in inr (omega (arith, e, le)))
    h)
    (λ le. ⊎_elim
    (λ any. inl (is_so, any))
    (λ none. let e = (f.0 is_so le).last none in inr (omega (arith, e)))
    (cases_Bool (list_any (starts_by m.check) rest)))
    (cases_lt m.check l))
    (λ not_so. ⊎_elim
    (λ any. absurd (not-both chosen any.0 not_so))
    (λ le. let e = f.1 (inl not_so) in inr (omega (arith, e, le)))
    h)
    (cases_Bool chosen)
  where
    not_le : m.check < l → leb l m.check ≡ false
    not_le lt = ⊎_elim (λ is_so. let le = leb-true l m.check is_so in absurd (omega (arith, le, lt))) (λ not_so. not_so)
        (cases_Bool (leb l m.check))

-- the epoch that the log ends in isn't below the master's
pub final-above : (inst : ℕ) (chosen : Bool) (m : Master) (past : Past) (xs : List Record) → Follow inst chosen m past xs
    → Above chosen m past xs → m.epoch ≤ (after_records past xs).epoch
final-above inst chosen m past [] f h = ⊎_elim (λ any. let e = any.1 in absurd (not-both false e refl)) (λ le. le) h
final-above inst chosen m past (records.Start l epoch ∷ xs) f h =
    final-above inst chosen m (after_record past (records.Start l epoch)) xs f.3 (above-start chosen m past l epoch xs f.2 h)
final-above inst chosen m past (records.Update l txn prev page slot capacity before after ∷ xs) f h =
    final-above inst chosen m (after_record past (records.Update l txn prev page slot capacity before after)) xs f.3 h
final-above inst chosen m past (records.Clr l txn prev undo_next page slot after ∷ xs) f h =
    final-above inst chosen m (after_record past (records.Clr l txn prev undo_next page slot after)) xs f.3 h
final-above inst chosen m past (records.Commit l txn prev ∷ xs) f h =
    final-above inst chosen m (after_record past (records.Commit l txn prev)) xs f.3 h
final-above inst chosen m past (records.End l txn prev ∷ xs) f h =
    final-above inst chosen m (after_record past (records.End l txn prev)) xs f.3 h
final-above inst chosen m past (records.BeginCheck l ∷ xs) f h =
    final-above inst chosen m (after_record past (records.BeginCheck l)) xs f.3 h
final-above inst chosen m past (records.EndCheck l begin spans recs ∷ xs) f h =
    final-above inst chosen m (after_record past (records.EndCheck l begin spans recs)) xs f.3 h

-- an epoch on the way: a Start's, or the master's
abbrev pub OnTheWay : Master → Past → Type 0
OnTheWay m past = (past.started ≡ true) ⊎ (past.epoch ≡ m.epoch)

-- it stays one
pub way-after : (m : Master) (past : Past) (r : Record) → OnTheWay m past → OnTheWay m (after_record past r)
way-after m past (records.Start l epoch) h = inl refl
way-after m past (records.Update l txn prev page slot capacity before after) h = h
way-after m past (records.Clr l txn prev undo_next page slot after) h = h
way-after m past (records.Commit l txn prev) h = h
way-after m past (records.End l txn prev) h = h
way-after m past (records.BeginCheck l) h = h
way-after m past (records.EndCheck l begin spans recs) h = h

-- from one on the way, epochs rise
pub epoch-rises : (inst : ℕ) (chosen : Bool) (m : Master) (past : Past) (xs : List Record) → Follow inst chosen m past xs
    → OnTheWay m past → past.epoch ≤ (after_records past xs).epoch
epoch-rises inst chosen m past xs f h = ⊎_elim
    (λ s. started-rises inst chosen m past xs f s)
    (λ e. let up = final-above inst chosen m past xs f (inr (omega (arith, e))) in omega (arith, e, up))
    h

-- what may come in an epoch may come in a later one
pub may_come-later : (inst : ℕ) (past past' : Past) (r : Record) → past.epoch ≤ past'.epoch → MayCome inst past r
    → MayCome inst past' r
may_come-later inst past past' (records.Start l epoch) le c = tt
may_come-later inst past past' (records.Update l txn prev page slot capacity before after) le c = let h = c.1 in
    (c.0, omega (arith, le, h))
may_come-later inst past past' (records.Clr l txn prev undo_next page slot after) le c = let h = c.1 in
    (c.0, omega (arith, le, h))
may_come-later inst past past' (records.Commit l txn prev) le c = let h = c.1 in (c.0, omega (arith, le, h))
may_come-later inst past past' (records.End l txn prev) le c = let h = c.1 in (c.0, omega (arith, le, h))
may_come-later inst past past' (records.BeginCheck l) le c = tt
may_come-later inst past past' (records.EndCheck l begin spans recs) le c = tt

own-record : (inst : ℕ) (past : Past) (t : TxnId) (r : Record) → MayCome inst past r → of_txn t (flat r) ≡ true
    → IsOwn inst past t
own-record inst past t (records.Start l epoch) c e = absurd (not-both false e refl)
own-record inst past t (records.Update l txn prev page slot capacity before after) c e =
    subst (IsOwn inst past) (own_is t (flat (records.Update l txn prev page slot capacity before after)) e) c
own-record inst past t (records.Clr l txn prev undo_next page slot after) c e =
    subst (IsOwn inst past) (own_is t (flat (records.Clr l txn prev undo_next page slot after)) e) c
own-record inst past t (records.Commit l txn prev) c e =
    subst (IsOwn inst past) (own_is t (flat (records.Commit l txn prev)) e) c
own-record inst past t (records.End l txn prev) c e = subst (IsOwn inst past) (own_is t (flat (records.End l txn prev)) e) c
own-record inst past t (records.BeginCheck l) c e = absurd (not-both false e refl)
own-record inst past t (records.EndCheck l begin spans recs) c e = absurd (not-both false e refl)

-- A transaction with a record is this instance's and of a begun epoch.
pub own-begun_of : (inst : ℕ) (chosen : Bool) (m : Master) (past : Past) (xs : List Record) (t : TxnId)
    → Follow inst chosen m past xs → OnTheWay m past
    → list_any (of_txn t) (map flat xs) ≡ true → IsOwn inst (after_records past xs) t
own-begun_of inst chosen m past [] t f h any = absurd (not-both false any refl)
own-begun_of inst chosen m past (x ∷ xs) t f h any = ⊎_elim
    (λ here. own-record inst (after_records past (x ∷ xs)) t x
    (may_come-later inst past (after_records past (x ∷ xs)) x (epoch-rises inst chosen m past (x ∷ xs) f h) f.1) here)
    (λ off. own-begun_of inst chosen m (after_record past x) xs t f.3 (way-after m past x h)
    (or_rest (of_txn t (flat x)) (list_any (of_txn t) (map flat xs)) any off))
    (cases_Bool (of_txn t (flat x)))

-- ---- behind a later master

-- without a Start the epoch stays
epoch-unstarted : (inst : ℕ) (chosen : Bool) (m : Master) (past : Past) (c : ℕ) (xs : List Record)
    → Follow inst chosen m past xs → (after_records past xs).lsn ≤ c → list_any (starts_by c) xs ≡ false
    → (after_records past xs).epoch ≡ past.epoch
epoch-unstarted inst chosen m past c [] f le none = refl
epoch-unstarted inst chosen m past c (records.Start l epoch ∷ xs) f le none =
    let up = lsn-rises inst chosen m (after_record past (records.Start l epoch)) xs f.3 in
    let within : leb l c ≡ true = le-leb l c (omega (arith, up, le)) in
    absurd (not-both (leb l c || list_any (starts_by c) xs) (ap (λ (b : Bool). b || list_any (starts_by c) xs) within) none)
epoch-unstarted inst chosen m past c (records.Update l txn prev page slot capacity before after ∷ xs) f le none =
    epoch-unstarted inst chosen m
    (after_record past (records.Update l txn prev page slot capacity before after)) c xs f.3 le none
epoch-unstarted inst chosen m past c (records.Clr l txn prev undo_next page slot after ∷ xs) f le none =
    epoch-unstarted inst chosen m (after_record past (records.Clr l txn prev undo_next page slot after)) c xs f.3 le none
epoch-unstarted inst chosen m past c (records.Commit l txn prev ∷ xs) f le none =
    epoch-unstarted inst chosen m (after_record past (records.Commit l txn prev)) c xs f.3 le none
epoch-unstarted inst chosen m past c (records.End l txn prev ∷ xs) f le none =
    epoch-unstarted inst chosen m (after_record past (records.End l txn prev)) c xs f.3 le none
epoch-unstarted inst chosen m past c (records.BeginCheck l ∷ xs) f le none =
    epoch-unstarted inst chosen m (after_record past (records.BeginCheck l)) c xs f.3 le none
epoch-unstarted inst chosen m past c (records.EndCheck l begin spans recs ∷ xs) f le none =
    epoch-unstarted inst chosen m (after_record past (records.EndCheck l begin spans recs)) c xs f.3 le none

-- what was said so far, behind the former master and behind a later one
record Tied (m' : Master) (past past' : Past) : Type 0 where
  lsn : past'.lsn ≤ past.lsn
  started : past'.started ≡ true → (past.started ≡ true) × (past'.epoch ≡ past.epoch)
  first : past'.started ≡ false → past'.epoch ≡ m'.epoch

tied-after : (m' : Master) (past past' : Past) (r : Record) → Tied m' past past'
    → Tied m' (after_record past r) (after_record past' r)
tied-after m' past past' (records.Start l epoch) t =
    record { lsn = omega arith; started = λ s. (refl, refl); first = λ none. absurd (not-both true refl none) }
tied-after m' past past' (records.Update l txn prev page slot capacity before after) t =
    record { lsn = omega arith; started = t.started; first = t.first }
tied-after m' past past' (records.Clr l txn prev undo_next page slot after) t =
    record { lsn = omega arith; started = t.started; first = t.first }
tied-after m' past past' (records.Commit l txn prev) t = record { lsn = omega arith; started = t.started; first = t.first }
tied-after m' past past' (records.End l txn prev) t = record { lsn = omega arith; started = t.started; first = t.first }
tied-after m' past past' (records.BeginCheck l) t = record { lsn = omega arith; started = t.started; first = t.first }
tied-after m' past past' (records.EndCheck l begin spans recs) t =
    record { lsn = omega arith; started = t.started; first = t.first }

later-start : (inst : ℕ) (chosen : Bool) (m m' : Master) (past past' : Past) (r : Record) (xs : List Record)
    → Follow inst chosen m past (r ∷ xs) → Tied m' past past'
    → m'.epoch ≡ (after_records past (r ∷ xs)).epoch → (after_records past (r ∷ xs)).lsn ≤ m'.check
    → StartFits true m' past' r xs
later-start inst chosen m m' past past' (records.Start l epoch) xs f t same le =
    let after = after_record past (records.Start l epoch) in
    let up = lsn-rises inst chosen m after xs f.3 in
    let end = started-rises inst chosen m after xs f.3 refl in (
      λ is within. record {
        rises = λ s. let old = t.started s in let lt = start-rises chosen m past l epoch xs f.2 old.0 in let e = old.1 in
            omega (arith, lt, e);
        within = omega (arith, end, same);
        last = λ none. let e = epoch-unstarted inst chosen m after m'.check xs f.3 le none in omega (arith, e, same);
      },
      λ off. ⊎_elim (λ not_so. absurd (not-both true refl not_so)) (λ lt. absurd (omega (arith, lt, up, le))) off,
    )
later-start inst chosen m m' past past' (records.Update l txn prev page slot capacity before after) xs f t same le = tt
later-start inst chosen m m' past past' (records.Clr l txn prev undo_next page slot after) xs f t same le = tt
later-start inst chosen m m' past past' (records.Commit l txn prev) xs f t same le = tt
later-start inst chosen m m' past past' (records.End l txn prev) xs f t same le = tt
later-start inst chosen m m' past past' (records.BeginCheck l) xs f t same le = tt
later-start inst chosen m m' past past' (records.EndCheck l begin spans recs) xs f t same le = tt

follow-behind : (inst : ℕ) (chosen : Bool) (m m' : Master) (past past' : Past) (xs : List Record)
    → Follow inst chosen m past xs → OnTheWay m past → Tied m' past past'
    → m'.epoch ≡ (after_records past xs).epoch → (after_records past xs).lsn ≤ m'.check → Follow inst true m' past' xs
follow-behind inst chosen m m' past past' [] f h t same le = tt
follow-behind inst chosen m m' past past' (r ∷ xs) f h t same le =
    let up = epoch-rises inst chosen m past (r ∷ xs) f h in
    let lt = f.0 in let low = t.lsn in
    let reach : past.epoch ≤ past'.epoch = ⊎_elim
    (λ s. let e = (t.started s).1 in omega (arith, e))
    (λ none. let e = t.first none in omega (arith, e, same, up))
    (cases_Bool past'.started) in (
      omega (arith, lt, low),
      may_come-later inst past past' r reach f.1,
      later-start inst chosen m m' past past' r xs f t same le,
      follow-behind inst chosen m m' (after_record past r) (after_record past' r) xs f.3 (way-after m past r h)
          (tied-after m' past past' r t) same le,
    )

follow-back : (inst : ℕ) (chosen : Bool) (m : Master) (past : Past) (gone xs : List Record)
    → Follow inst chosen m past (gone ++ xs) → Follow inst chosen m (after_records past gone) xs
follow-back inst chosen m past [] xs f = f
follow-back inst chosen m past (g ∷ gone) xs f = follow-back inst chosen m (after_record past g) gone xs f.3

way-after_all : (m : Master) (past : Past) (gone : List Record) → OnTheWay m past → OnTheWay m (after_records past gone)
way-after_all m past [] h = h
way-after_all m past (g ∷ gone) h = way-after_all m (after_record past g) gone (way-after m past g h)

-- Behind a master that names the last epoch and no LSN below the last one, the records from a later place on follow one another.
pub follow-later : (inst : ℕ) (chosen : Bool) (m m' : Master) (gone xs : List Record)
    → Follow inst chosen m (past_of m) (gone ++ xs)
    → m'.epoch ≡ (after_records (past_of m) (gone ++ xs)).epoch → (after_records (past_of m) (gone ++ xs)).lsn ≤ m'.check
    → Follow inst true m' (past_of m') xs
follow-later inst chosen m m' gone xs f same le =
    let parts = after-append (past_of m) gone xs in
    follow-behind inst chosen m m' (after_records (past_of m) gone) (past_of m') xs
    (follow-back inst chosen m (past_of m) gone xs f) (way-after_all m (past_of m) gone (inr refl))
    (record { lsn = omega arith; started = λ s. absurd (not-both false s refl); first = λ none. refl })
    (same ∙ ap (λ (p : Past). p.epoch) parts) (subst (λ (p : Past). p.lsn ≤ m'.check) parts le)

tied-all : (m' : Master) (past past' : Past) (xs : List Record) → Tied m' past past'
    → Tied m' (after_records past xs) (after_records past' xs)
tied-all m' past past' [] t = t
tied-all m' past past' (x ∷ xs) t = tied-all m' (after_record past x) (after_record past' x) xs (tied-after m' past past' x t)

-- The epoch that the log is in stays.
pub epoch-later : (m m' : Master) (gone xs : List Record) → m'.epoch ≡ (after_records (past_of m) (gone ++ xs)).epoch
    → (after_records (past_of m') xs).epoch ≡ (after_records (past_of m) (gone ++ xs)).epoch
epoch-later m m' gone xs same =
    let parts = after-append (past_of m) gone xs in
    let t = tied-all m' (after_records (past_of m) gone) (past_of m') xs
    (record { lsn = omega arith; started = λ s. absurd (not-both false s refl); first = λ none. refl }) in
    ⊎_elim
    (λ s. (t.started s).1 ∙ ap (λ (p : Past). p.epoch) (sym parts))
    (λ none. t.first none ∙ same)
    (cases_Bool (after_records (past_of m') xs).started)
