-- What a checkpoint needs of transactions as it begins, from what holds of the complex between two calls.
use Rattle.std.proofs.Common.{◌≡◌, ◌≢◌, ◌⊎◌, ⊎_elim, ℕ, ◌<◌, ◌≤◌, Bool, true, false, ◌&&◌, cond, List, [], ◌∷◌, map, refl, sym, ap, ◌∙◌, subst, arith}
use Rattle.std.specs.Prelude.{Option, None, Some, is_some, option_and_then}
use Rattle.sd_base.specs.Ids.{same_txn}
use Rattle.sd_base.specs.Twin.{chosen_body}
use Rattle.sd_base.specs.declared.ids.TxnId.{TxnId}
use Rattle.sd_base.specs.declared.place.Status.TheVariants as S
use Rattle.sd_base.proofs.SameIds.{eq-same}
use Rattle.sd_logrec.specs.declared.record.Record.{Record}
use Rattle.sd_logrec.specs.declared.record.Record.TheVariants as records
use Rattle.sd_logrec.specs.Kept.{Master, master}
use Rattle.sd_logrec.specs.View.{Rec, flat}
use Rattle.sd_log.specs.Logs.{LogState, forced}
use Rattle.sd_model.specs.State.{State}
use Rattle.sd_model.specs.declared.act.Life.{Life}
use Rattle.sd_rig.specs.Devices as rig
use Rattle.sd_txn.specs.Transactions.{Transaction, span_at, txn_at}
use Rattle.sd_chain.specs.Checks.{Follow, MayCome, Past, after_record, past_of}
use Rattle.sd_chain.specs.Fates.{Fate, fate}
use Rattle.sd_chain.specs.Images.{Keeps, all_kept}
use Rattle.sd_chain.specs.Order.{of_txn, span_from, span_of, speaks}
use Rattle.sd_chain.specs.Records.{Each, IsOpen, home}
use Rattle.sd_chain.proofs.Fates.{open-fate}
use Rattle.sd_chain.proofs.Lists.{Each-both, Each-weaker}
use Rattle.sd_chain.proofs.Pasts.{lsn_after}
use Rattle.sd_chain.proofs.Whose.{of_none}
use Rattle.sd_chain.specs.Checkpoints.{Closed, Shut}
use Rattle.sd_chain.specs.Logs.{Outcomes, all_at, base_at, kept_logs, records_at, tails_of}
use Rattle.sd_chain.specs.Soundly.{IsReady}
use Rattle.sd_chain.proofs.Kept.{flat-records, forced-base}
use Rattle.sd_state.specs.Good.{Good, IsTold}
use Rattle.sd_state.specs.Images.{log_by}
use Rattle.sd_state.specs.Parts.{Parts, is_loose, log_at, other_at, status_at, txns_at}
use Rattle.sd_state.specs.Tables.{NamesLife, RowIsLogged, tells_log}
use Rattle.sd_state.specs.Values.{Pending}
use Rattle.sd_state.proofs.ChangedLists.{span-there}
use Rattle.sd_state.proofs.Standing.{no-place, one-place}

-- ---- LSNs rise, so a transaction's span begins with its least one

abbrev Rising : ℕ → List Rec → Type 0
Rising a [] = Unit {0}
Rising a (x ∷ xs) = (a < x.lsn) × Rising x.lsn xs

follow-rising : (inst : ℕ) (chosen : Bool) (m : Master) (past : Past) (rs : List Record) → Follow inst chosen m past rs
    → Rising past.lsn (map flat rs)
follow-rising inst chosen m past [] f = tt
follow-rising inst chosen m past (r ∷ rs) f =
    (f.0, subst (λ (n : ℕ). Rising n (map flat rs)) (lsn_after past r) (follow-rising inst chosen m (after_record past r) rs f.3))

all-above : (a : ℕ) (xs : List Rec) → Rising a xs → Each (λ x. a < x.lsn) xs
all-above a [] r = tt
all-above a (x ∷ xs) r = let here = r.0 in
    (here, Each-weaker (λ y. x.lsn < y.lsn) (λ y. a < y.lsn) (λ y lt. omega (arith, lt, here)) xs (all-above x.lsn xs r.1))

first-stays : (t : TxnId) (f l : ℕ) (xs : List Rec) (s : ℕ × ℕ) → span_from t (Some (f, l)) xs ≡ Some s → s.0 ≡ f
first-stays t f l [] s e = cc
first-stays t f l (x ∷ xs) s e = by (λ k. first-stays t f k xs s) (of_txn t x) e
  where
    by : ((k : ℕ) → span_from t (Some (f, k)) xs ≡ Some s → s.0 ≡ f)
        → (b : Bool) → span_from t (cond {A = Option (ℕ × ℕ)} b (Some (f, x.lsn)) (Some (f, l))) xs ≡ Some s → s.0 ≡ f
    by at true is = at x.lsn is
    by at false is = at l is

span-low : (t : TxnId) (a : ℕ) (xs : List Rec) (s : ℕ × ℕ) → Rising a xs → span_from t None xs ≡ Some s
    → Each (λ x. of_txn t x ≡ true → s.0 ≤ x.lsn) xs
span-low t a [] s r e = tt
span-low t a (x ∷ xs) s r e = by (λ is. span-low t x.lsn xs s r.1 is) (of_txn t x) refl e
  where
    here : span_from t (Some (x.lsn, x.lsn)) xs ≡ Some s → s.0 ≡ x.lsn
    here = first-stays t x.lsn x.lsn xs s

    by : (span_from t None xs ≡ Some s → Each (λ y. of_txn t y ≡ true → s.0 ≤ y.lsn) xs) → (b : Bool) → of_txn t x ≡ b
        → span_from t (cond {A = Option (ℕ × ℕ)} b (Some (x.lsn, x.lsn)) None) xs ≡ Some s
        → Each (λ y. of_txn t y ≡ true → s.0 ≤ y.lsn) (x ∷ xs)
    by behind true is same = let first = here same in (
      (λ own. omega (arith, first)),
      Each-weaker (λ y. x.lsn < y.lsn) (λ y. of_txn t y ≡ true → s.0 ≤ y.lsn)
          (λ y lt own. omega (arith, first, lt)) xs (all-above x.lsn xs r.1),
    )
    by behind false is same = ((λ own. let clash : true ≡ false = sym own ∙ is in absurd (cc)), behind same)

-- ---- records are of the log's own instance

owned : (chosen : Bool) (m : Master) (inst : ℕ) (past : Past) (rs : List Record) → Follow inst chosen m past rs
    → Each (λ (x : Rec). speaks x.kind ≡ true → home x.txn ≡ inst) (map flat rs)
owned chosen m inst past [] follow = tt
owned chosen m inst past (r ∷ rs) follow = (own r follow.1, owned chosen m inst (after_record past r) rs follow.3)
  where
    own : (x : Record) → MayCome inst past x → speaks (flat x).kind ≡ true → home (flat x).txn ≡ inst
    own (records.Start l epoch) may is = absurd (cc)
    own (records.Update l txn prev page slot capacity before after) may is = may.0
    own (records.Clr l txn prev undo_next page slot after) may is = may.0
    own (records.Commit l txn prev) may is = may.0
    own (records.End l txn prev) may is = may.0
    own (records.BeginCheck l) may is = absurd (cc)
    own (records.EndCheck l begin spans recs) may is = absurd (cc)

-- what each transaction has of its own records
at-own : (Q : TxnId → Rec → Type 0) (xs : List Rec) → ((t : TxnId) → Each (Q t) xs) → Each (λ x. Q x.txn x) xs
at-own Q [] all = tt
at-own Q (x ∷ xs) all = ((all x.txn).0, at-own Q xs (λ t. (all t).1))

-- ---- the begin of a checkpoint

module _ (i low : ℕ) (seen : rig.DeviceImages) (leaves : Outcomes) (c : Parts) (m : State) (one_or_more : 1 ≤ i) (high : i ≤ 8)
    (g : Good seen leaves Pending.Idle c m) (reads : leaves i (seen i))
    (takes : (status_at c i ≡ S.Up) ⊎ (status_at c i ≡ S.Restarting)) (settled : is_loose c i ≡ false)
    (least : (t : TxnId) (s : ℕ × ℕ) → span_at (txns_at c i) t ≡ Some s → low ≤ s.0) where
  abbrev all : List Rec
  all = all_at (log_at c i)

  one : other_at c i ≡ None
  one = (g.settled i one_or_more high settled).one_place

  here : (moved : Keeps) → log_by c moved i ≡ log_at c i
  here moved = one-place c moved i one

  some-way : Keeps
  some-way j = false

  ready : IsReady i (seen i) (log_at c i)
  ready = subst (IsReady i (seen i)) (here some-way)
      ((g.half some-way).soundly.ready i one_or_more high (seen i)
      (reads, no-place (other_at c i) (λ p. (master (seen i)).start ≡ cond (some-way i) p (log_at c i).start) one))

  follows : Follow i (is_some (chosen_body 0 64 (seen i))) (master (seen i)) (past_of (master (seen i)))
      (records_at (forced (log_at c i)))
  follows = ready.sound_forced.follow

  all-is : map flat (records_at (forced (log_at c i))) ≡ all
  all-is = flat-records _ ∙ forced-base (log_at c i)

  rising : Rising 0 all
  rising = subst (Rising 0) all-is
      (follow-rising i (is_some (chosen_body 0 64 (seen i))) (master (seen i)) (past_of (master (seen i)))
      (records_at (forced (log_at c i))) follows)

  own-ones : Each (λ (x : Rec). speaks x.kind ≡ true → home x.txn ≡ i) all
  own-ones = subst (Each (λ (x : Rec). speaks x.kind ≡ true → home x.txn ≡ i)) all-is
      (owned (is_some (chosen_body 0 64 (seen i))) (master (seen i)) i (past_of (master (seen i)))
      (records_at (forced (log_at c i))) follows)

  told : IsTold c m i
  told = g.told i one_or_more high (⊎_elim (λ up. ap tells_log up) (λ re. ap tells_log re) takes) settled

  -- whoever the log with its tail leaves open is there
  there : (t : TxnId) → home t ≡ i → fate t all ≡ Fate.Open → (m.part t).life ≢ Life.Gone
  there t own is = ((g.half some-way).claimed all_kept t
      (subst (λ (n : ℕ). fate t (kept_logs (tails_of (log_by c some-way)) all_kept n) ≡ Fate.Open) (sym own)
      (subst (λ (l : LogState). fate t (all_at l) ≡ Fate.Open) (sym (here some-way)) is))).there

  -- so its row begins at low or above
  first : (t : TxnId) → home t ≡ i → IsOpen t all → (s : ℕ × ℕ) → span_of t all ≡ Some s → low ≤ s.0
  first t own opens s is = by (txn_at (txns_at c i) t) refl
    where
      fated : fate t all ≡ Fate.Open
      fated = open-fate t all opens (sym (span-there t all) ∙ ap is_some is)

      by : (o : Option Transaction) → txn_at (txns_at c i) t ≡ o → low ≤ s.0
      by None e = absurd (there t own fated
          (subst (λ (o : Option Transaction). NamesLife o (m.part t).life (fate t (base_at (log_at c i))) (fate t all)) e
          ((g.instances i one_or_more high).names t own)))
      by (Some x) e = ⊎_elim
          (λ logged. least t s (ap (option_and_then (λ (y : Transaction). y.span)) e ∙ logged.span ∙ is))
          (λ shut. absurd (shut.ended opens))
          (subst (λ (o : Option Transaction). RowIsLogged o t all) e (told.rows t own))

  abbrev from-low : TxnId → Rec → Type 0
  from-low t x = of_txn t x ≡ true → home t ≡ i → IsOpen t all → low ≤ x.lsn

  each-txn : (t : TxnId) → Each (from-low t) all
  each-txn t = by (span_of t all) refl
    where
      by : (o : Option (ℕ × ℕ)) → span_of t all ≡ o → Each (from-low t) all
      by None e = Each-weaker (λ x. of_txn t x ≡ false) (from-low t)
          (λ x off is own opens. let clash : true ≡ false = sym is ∙ off in absurd (cc)) all
          (of_none (of_txn t) all (sym (span-there t all) ∙ ap is_some e))
      by (Some s) e = Each-weaker (λ x. of_txn t x ≡ true → s.0 ≤ x.lsn) (from-low t)
          (λ x at is own opens. let le = at is in let far = first t own opens s e in omega (arith, le, far)) all
          (span-low t 0 all s rising e)

  same-self : (x : Rec) → speaks x.kind ≡ true → of_txn x.txn x ≡ true
  same-self x is = ap (λ (b : Bool). b && same_txn x.txn x.txn) is ∙ eq-same x.txn x.txn refl

  closed-here : Each (λ x. x.lsn < low → Shut all x) all
  closed-here = Each-both (λ x. from-low x.txn x) (λ (x : Rec). speaks x.kind ≡ true → home x.txn ≡ i)
      (λ x. x.lsn < low → Shut all x)
      (λ x from owns lt is opens. let le = from (same-self x is) (owns is) opens in omega (arith, le, lt)) all
      (at-own from-low all each-txn) own-ones

  pub closed-begun : (moved : Keeps) → Closed low i (tails_of (log_by c moved))
  closed-begun moved = subst (λ (l : LogState). Each (λ x. x.lsn < low → Shut (all_at l) x) (all_at l))
      (sym (here moved)) closed-here
