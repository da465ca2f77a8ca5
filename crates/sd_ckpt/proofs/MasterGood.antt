-- A complex one of whose logs begins at a later place, which its master names: it is good for the same state.
use Rattle.std.proofs.Common.{◌≡◌, ◌≢◌, ◌⊎◌, inl, inr, ⊎_elim, ℕ, ◌+◌, ◌-◌, ◌≤◌, ◌<◌, Bool, true, false, ◌&&◌, cond, List, [], ◌++◌, map, length, sum_by, refl, sym, ap, ◌∙◌, subst, arith, append-nil}
use Rattle.std.specs.Prelude.{Option, None, Some, IfSome, slice_set}
use Rattle.std.specs.List.{list_any}
use Rattle.std.specs.Option.{option_map_or}
use Rattle.std.proofs.lemmas.Bool.{cases_eq}
use Rattle.std.proofs.lemmas.List.{length-set}
use Rattle.sd_base.specs.Ids.{same_txn}
use Rattle.sd_base.specs.Twin.{chosen_body, number_of}
use Rattle.sd_base.specs.Values.{size}
use Rattle.sd_base.specs.declared.ids.TxnId.{TxnId}
use Rattle.sd_base.specs.declared.place.Status.{Status}
use Rattle.sd_logrec.specs.declared.record.Record.{Record}
use Rattle.sd_logrec.specs.Kept.{master}
use Rattle.sd_logrec.specs.View.{Rec, flat}
use Rattle.sd_log.specs.Logs.{LogState, StandsOn, forced, last_lsn, scanned}
use Rattle.sd_model.specs.Lives.{IsFallen, SuitsStatus}
use Rattle.sd_model.specs.State.{State}
use Rattle.sd_rig.specs.Devices as rig
use Rattle.sd_rig.specs.Devices.{LeavesOnly, LeavesSame}
use Rattle.sd_txn.specs.Transactions.{Transaction, txn_at}
use Rattle.sd_chain.specs.Checks.{owed, reserve}
use Rattle.sd_chain.specs.Fates.{Fate, commits, fate, fate_by, finishes}
use Rattle.sd_chain.specs.Images.{Keeps, Shortened}
use Rattle.sd_chain.specs.Order.{of_txn, span_of}
use Rattle.sd_chain.specs.Records.{Each, IsOpen, ends, home, of_page, stack, stack_from}
use Rattle.sd_chain.proofs.Fates.{fate-open, open-endless, open-fate}
use Rattle.sd_chain.proofs.Lists.{Each-append, Each-back, Each-front}
use Rattle.sd_chain.proofs.Stacks.{stack_from-append}
use Rattle.sd_chain.proofs.StartMoved.{stack_from-none}
use Rattle.sd_chain.proofs.Whose.{none_of, none_open}
use Rattle.sd_chain.specs.Checkpoints.{BeginsLater}
use Rattle.sd_chain.proofs.Checkpoints.{may-shorten}
use Rattle.sd_chain.specs.Logs.{LessElsewhere, Outcomes, ReplacesLog, all_at, base_at, may_of, past_at, tail_at, tails_of}
use Rattle.sd_chain.specs.Soundly.{IsSoundly}
use Rattle.sd_chain.specs.Starts.{IsClosed, IsLater, IsShorter}
use Rattle.sd_chain.proofs.Kept.{forced-idle}
use Rattle.sd_chain.proofs.Starts.{later-epoch, later-keeps, total-later}
use Rattle.sd_state.specs.Good.{Good, Half, IsOfBegun, IsSettledAt, IsTold, OwesAtMost, base_of, dir_of, reaches}
use Rattle.sd_state.specs.Images.{IsEpochOf, leaves_by, log_by}
use Rattle.sd_log.specs.Logs.{begun_at}
use Rattle.sd_state.specs.Parts.{low_of, Begun, Parts, count_at, is_loose, log_at, no_log, other_at, owed_at, status_at, txns_at}
use Rattle.sd_state.specs.Tables.{IsLogged, NamesLife, RowIsLive, RowIsLogged, tells_log}
use Rattle.sd_state.specs.Values.{Pending, is_doubt, open_of, put_of}
use Rattle.sd_state.proofs.Items.{item-kept, item-set}
use Rattle.sd_state.proofs.Standing.{no-place, one-place}
use Rattle.sd_ckpt.proofs.LaterHalf.{alike-later, half-later, records-base}
use Rattle.sd_ckpt.proofs.Reached.{any-behind, doubt-fell, last-left, reached-later, span-behind}
use Rattle.sd_ckpt.specs.Laws.{KeepsChecks, MasterIsGood, MasterReadsAlike, MayBegin, ElsewhereSame, with_begun}
use Rattle.sd_ckpt.specs.Readings.{ReadsAlike, storage_by}

module _ (leaves leaves' : Outcomes) (i place count : ℕ) (gone : List Record) (l' : LogState) (checks_then : List (Option Begun))
    (seen seen' : rig.DeviceImages) (c : Parts) (m : State) (g : Good seen leaves Pending.Idle c m)
    (reads : (d : ℕ) → d ≤ 8 → leaves d (seen d))
    (may : MayBegin i place gone l' c) (kept_checks : KeepsChecks i gone checks_then c)
    (alive : (t : TxnId) (x : Transaction) → txn_at (txns_at c i) t ≡ Some x → IsOpen t (all_at (log_at c i)))
    (stay : ElsewhereSame i seen seen' leaves leaves') (durable : LeavesOnly (seen' i) (leaves' i))
    (later : IsLater (seen i) (log_at c i) l' (seen' i))
    (count_is : IfSome (chosen_body 0 64 (seen' i)) (λ body. number_of body ≡ count)) where
  abbrev new : Parts
  new = with_begun i l' count checks_then c

  low : 1 ≤ i
  low = may.low

  high : i ≤ 8
  high = may.high

  inst : l'.inst ≡ (log_at c i).inst
  inst = ap (λ (l : LogState). l.inst) (sym may.begins)

  spare : l'.spare ≡ (log_at c i).spare
  spare = ap (λ (l : LogState). l.spare) (sym may.begins)

  -- the last LSN is that of a record behind
  last_same : last_lsn (scanned l') ≡ last_lsn (scanned (log_at c i))
  last_same = last-left gone (log_at c i) l' may.records may.bare may.tail (last_lsn (scanned (log_at c i))) may.last_kept

  log-here : log_at new i ≡ l'
  log-here = item-set no_log c.logs i l' low high g.shape.logs

  log-else : (j : ℕ) → j ≢ i → log_at new j ≡ log_at c j
  log-else = item-kept no_log c.logs i l' low

  one : other_at c i ≡ None
  one = (g.settled i low high may.settled).one_place

  by-here : (moved : Keeps) → log_by new moved i ≡ l'
  by-here moved = one-place new moved i one ∙ log-here

  was-here : (moved : Keeps) → log_by c moved i ≡ log_at c i
  was-here moved = one-place c moved i one

  by-else : (moved : Keeps) (j : ℕ) → j ≢ i → log_by new moved j ≡ log_by c moved j
  by-else moved j ne = ap (λ (l : LogState). cond (moved j) (option_map_or (λ place. begun_at place l) (other_at c j) l) l)
      (log-else j ne)

  abbrev front : List Rec
  front = map flat gone

  abbrev left : List Rec
  left = base_at l'

  whole : base_at (log_at c i) ≡ front ++ left
  whole = records-base gone (log_at c i) l' may.records

  all-new : all_at l' ≡ left
  all-new = ap (λ (t : List Record). left ++ map flat t) may.tail ∙ append-nil left

  all-old : all_at (log_at c i) ≡ front ++ left
  all-old = ap (λ (t : List Record). base_at (log_at c i) ++ map flat t) may.bare ∙ append-nil (base_at (log_at c i)) ∙ whole

  -- ---- the shorter log

  begins-later : (n : ℕ) → Each (λ x. x.lsn < n) front → (moved : Keeps)
      → BeginsLater n i front (tails_of (log_by c moved)) (tails_of (log_by new moved))
  begins-later n below moved = record {
    inside = omega (arith, high);
    here = ap base_at (was-here moved) ∙ whole ∙ ap (λ (l : LogState). front ++ base_at l) (sym (by-here moved));
    no_tail = ap tail_at (was-here moved) ∙ ap (map flat) may.bare;
    below = below;
    tails = λ j. ⊎_elim
        (λ e. subst (λ (n : ℕ). tail_at (log_by new moved n) ≡ tail_at (log_by c moved n)) (sym e)
        (ap tail_at (by-here moved) ∙ ap (map flat) may.tail ∙ sym (ap tail_at (was-here moved) ∙ ap (map flat) may.bare)))
        (λ ne. ap tail_at (by-else moved j ne)) (cases_eq j i);
    others = λ j ne. ap base_at (by-else moved j ne);
  }

  shortened : (moved : Keeps)
      → Shortened i front (tails_of (log_by c moved)) (tails_of (log_by new moved)) (may_of (leaves_by c moved leaves))
  shortened moved = ⊎_elim
      (λ none. let bare = ap (map flat) none in let begins = begins-later 0
      (subst (Each (λ x. x.lsn < 0)) (sym bare) tt) moved in record {
        inside = begins.inside;
        here = begins.here;
        no_tail = begins.no_tail;
        tails = begins.tails;
        others = begins.others;
        on_disk = λ disk all. subst (Each (λ x. (p : ℕ) → of_page p x ≡ true → x.lsn ≤ (disk p).lsn)) (sym bare) tt;
        closed = λ t. inl (subst (Each (λ x. of_txn t x ≡ false)) (sym bare) tt);
      })
      (λ f. let h = g.half moved in let k = f.0 in let had = h.checks i k f.1 in
      may-shorten (may_of (leaves_by c moved leaves)) (low_of k) i front
      (base_of seen (leaves_by c moved leaves) (log_by c moved) c) (dir_of c)
      (tails_of (log_by new moved)) h.coherent had.0 had.1 (begins-later (low_of k) f.2 moved))
      may.forgets

  closed : (t : TxnId) → IsClosed front left t
  closed t = subst (λ (xs : List Rec). Each (λ x. of_txn t x ≡ false) front
      ⊎ ((IsOpen t left → ⊥) ⊎ ((IsOpen t xs → ⊥) × Each (λ x. of_txn t x ≡ false) left))) whole
      (subst (λ (l : LogState). Each (λ x. of_txn t x ≡ false) front
      ⊎ ((IsOpen t (base_at l) → ⊥)
      ⊎ ((IsOpen t (base_at (log_at c i)) → ⊥) × Each (λ x. of_txn t x ≡ false) (base_at l)))) log-here
      ((shortened (λ j. false)).closed t))

  short : IsShorter gone (log_at c i) l'
  short = record { records = may.records; gate = may.gate; tail = may.bare; tail' = may.tail; closed = closed }

  short-by : (moved : Keeps) → IsShorter gone (log_by c moved i) (log_by new moved i)
  short-by moved = subst (λ (l : LogState). IsShorter gone l (log_by new moved i)) (sym (was-here moved))
      (subst (IsShorter gone (log_at c i)) (sym (by-here moved)) short)

  -- ---- what a crash leaves

  less : (moved : Keeps) → LessElsewhere i (leaves_by c moved leaves) (leaves_by new moved leaves')
  less moved d ne bytes now = (
    (stay.left d ne bytes).0 now.0,
    subst (λ (l : LogState). IfSome (other_at c d) (λ place. (master bytes).start ≡ cond (moved d) place l.start))
        (log-else d ne) now.1,
  )

  replaces : (moved : Keeps) → ReplacesLog i (log_by new moved i) (log_by c moved) (log_by new moved)
  replaces moved = record { low = low; high = high; here = refl; others = by-else moved }

  was-left : (moved : Keeps) → leaves_by c moved leaves i (seen i)
  was-left moved = (
    reads i high,
    no-place (other_at c i)
        (λ place. (master (seen i)).start ≡ cond (moved i) place (log_at c i).start) one,
  )

  is-later : (moved : Keeps) (bytes : List ℕ) → leaves_by new moved leaves' i bytes
      → IsLater (seen i) (log_by c moved i) (log_by new moved i) bytes
  is-later moved bytes now = subst (IsLater (seen i) (log_by c moved i) (log_by new moved i)) (sym ((durable bytes).0 now.0))
      (subst (λ (l : LogState). IsLater (seen i) l (log_by new moved i) (seen' i)) (sym (was-here moved))
      (subst (λ (l : LogState). IsLater (seen i) (log_at c i) l (seen' i)) (sym (by-here moved)) later))

  soundly : (moved : Keeps) → IsSoundly (leaves_by new moved leaves') (log_by new moved)
  soundly moved = later-keeps (leaves_by c moved leaves) (leaves_by new moved leaves') i gone (log_by c moved) (log_by new moved)
      (seen i) (was-left moved)
      (g.half moved).soundly (less moved) (replaces moved) (short-by moved) (is-later moved)

  sure : (t : TxnId) → is_doubt (m.part t).life ≡ true → home t ≢ i
  sure t doubt own = stands (m.inst i).status (sym (g.instances i low high).status)
      (doubt-fell (m.part t).life (m.inst i).status doubt
      (subst (λ (j : ℕ). SuitsStatus (m.part t).life (m.inst j).status) own (g.placed.stands t)))
    where
      stands : (s : Status) → s ≡ status_at c i → IsFallen s → ⊥
      stands s e fell = may.stands (subst IsFallen e fell)

  epoch-later : (moved : Keeps) (bytes : List ℕ) → leaves_by new moved leaves' i bytes
      → IsEpochOf m Pending.Idle i (past_at (master bytes) (log_by new moved i)).epoch
  epoch-later moved bytes now = subst (IsEpochOf m Pending.Idle i)
      (sym (later-epoch (seen i) bytes gone (log_by c moved i) (log_by new moved i) (short-by moved) (is-later moved bytes now)))
      ((g.half moved).epochs i low high (seen i) (was-left moved)).0

  now-reads : leaves' 0 (seen' 0)
  now-reads = let zero-else : 0 ≢ i = (λ e. omega (arith, e, low)) in
      subst (leaves' 0) (sym (stay.reads 0 zero-else)) ((stay.left 0 zero-else (seen 0)).1 (reads 0 (omega arith)))

  half : (moved : Keeps) → Half seen' (leaves_by new moved leaves') (log_by new moved) Pending.Idle new m
  half moved = half-later i gone seen (leaves_by c moved leaves) (leaves_by new moved leaves') (log_by c moved)
      (log_by new moved) c m low high (g.half moved)
      seen' (stay.reads 0 (λ e. omega (arith, e, low))) (less moved)
      (now-reads, tt)
      (replaces moved) (short-by moved)
      (shortened moved)
      (soundly moved) sure (epoch-later moved)
      (slice_set c.logs (i - 1) l') (slice_set c.masters (i - 1) count) checks_then c.others kept_checks.less

  -- it reads as before
  alike : (moved keeps : Keeps) → ReadsAlike (storage_by seen c moved keeps) (storage_by seen' new moved keeps)
  alike moved = alike-later i gone seen (leaves_by c moved leaves) (leaves_by new moved leaves') (log_by c moved)
      (log_by new moved) c m low high (g.half moved)
      seen' (stay.reads 0 (λ e. omega (arith, e, low))) (less moved)
      (now-reads, tt)
      (replaces moved) (short-by moved)
      (shortened moved)
      (soundly moved) sure (epoch-later moved)
      (slice_set c.logs (i - 1) l') (slice_set c.masters (i - 1) count) checks_then c.others kept_checks.less

  -- ---- the table of i: who stands in it has nothing in front

  none-front : (t : TxnId) → IsOpen t (front ++ left) → Each (λ x. of_txn t x ≡ false) front
  none-front t opens_still = ⊎_elim (λ none. none)
      (λ r. ⊎_elim (λ shut. absurd (shut (Each-back (λ x. (ends x.kind && same_txn x.txn t) ≡ false) front left opens_still)))
      (λ both. absurd (both.0 opens_still)) r)
      (closed t)

  same-stack : (t : TxnId) → Each (λ x. of_txn t x ≡ false) front → stack t (front ++ left) ≡ stack t left
  same-stack t none = stack_from-append t [] front left
      ∙ ap (λ (s : List Rec). stack_from t s left) (stack_from-none t [] front none)

  same-span : (t : TxnId) → Each (λ x. of_txn t x ≡ false) front → span_of t (front ++ left) ≡ span_of t left
  same-span t none = span-behind t front left none

  no-commit : (t : TxnId) → IsOpen t (front ++ left) → Each (λ x. of_txn t x ≡ false) front → fate t (front ++ left) ≡ fate t left
  no-commit t opens_still none = by (open-ends (front ++ left) opens_still)
      (open-ends left (Each-back (λ x. (ends x.kind && same_txn x.txn t) ≡ false) front left opens_still))
    where
      open-ends : (xs : List Rec) → IsOpen t xs → (list_any (commits t) xs ≡ false) × (list_any (finishes t) xs ≡ false)
      open-ends xs o = open-endless t xs o

      by : (list_any (commits t) (front ++ left) ≡ false) × (list_any (finishes t) (front ++ left) ≡ false)
          → (list_any (commits t) left ≡ false) × (list_any (finishes t) left ≡ false) → fate t (front ++ left) ≡ fate t left
      by a b = ap (λ (x : Bool). fate_by x (list_any (finishes t) (front ++ left)) (list_any (of_txn t) (front ++ left)))
          (a.0 ∙ sym b.0)
          ∙ ap (λ (x : Bool). fate_by (list_any (commits t) left) x (list_any (of_txn t) (front ++ left))) (a.1 ∙ sym b.1)
          ∙ ap (fate_by (list_any (commits t) left) (list_any (finishes t) left))
          (any-behind (of_txn t) front left (none_of (of_txn t) front none))

  open-whole : (t : TxnId) (x : Transaction) → txn_at (txns_at c i) t ≡ Some x → IsOpen t (front ++ left)
  open-whole t x is = subst (IsOpen t) all-old (alive t x is)

  abbrev are-named : LogState → Type 0
  are-named l = (t : TxnId) → home t ≡ i
      → NamesLife (txn_at (txns_at c i) t) (m.part t).life (fate t (base_at l)) (fate t (all_at l))

  named-there : are-named l'
  named-there t own = by (txn_at (txns_at c i) t) refl
    where
      old : NamesLife (txn_at (txns_at c i) t) (m.part t).life (fate t (base_at (log_at c i))) (fate t (all_at (log_at c i)))
      old = (g.instances i low high).names t own

      by : (o : Option Transaction) → txn_at (txns_at c i) t ≡ o
          → NamesLife (txn_at (txns_at c i) t) (m.part t).life (fate t left) (fate t (all_at l'))
      by None is = subst (λ (q : Option Transaction). NamesLife q (m.part t).life (fate t left) (fate t (all_at l'))) (sym is)
          (subst (λ (q : Option Transaction). NamesLife q (m.part t).life (fate t (base_at (log_at c i)))
          (fate t (all_at (log_at c i)))) is old)
      by (Some x) is =
          let opens_still = open-whole t x is in
          let same = no-commit t opens_still (none-front t opens_still) in
          let base : fate t (base_at (log_at c i)) ≡ fate t left = ap (fate t) whole ∙ same in
          let all : fate t (all_at (log_at c i)) ≡ fate t (all_at l') = ap (fate t) all-old ∙ same ∙ ap (fate t) (sym all-new) in
          subst (λ (f : Fate). NamesLife (txn_at (txns_at c i) t) (m.part t).life (fate t left) f) all
          (subst (λ (f : Fate). NamesLife (txn_at (txns_at c i) t) (m.part t).life f (fate t (all_at (log_at c i)))) base old)

  rows-there : (old : IsTold c m i) (t : TxnId) → home t ≡ i → RowIsLogged (txn_at (txns_at c i) t) t left
  rows-there old t own = by (txn_at (txns_at c i) t) refl
    where
      row : RowIsLogged (txn_at (txns_at c i) t) t (front ++ left)
      row = subst (RowIsLogged (txn_at (txns_at c i) t) t) all-old (old.rows t own)

      logged : (x : Transaction) → IsOpen t (front ++ left) → IsLogged x t (front ++ left) → IsLogged x t left
      logged x opens_still r = let none = none-front t opens_still in record {
        alive = Each-back (λ y. (ends y.kind && same_txn y.txn t) ≡ false) front left r.alive;
        open_ones = r.open_ones ∙ ap (map open_of) (same-stack t none);
        span = r.span ∙ same-span t none;
      }

      by : (o : Option Transaction) → txn_at (txns_at c i) t ≡ o → RowIsLogged (txn_at (txns_at c i) t) t left
      by None is = subst (λ (q : Option Transaction). RowIsLogged q t left) (sym is)
          (λ opens. let r = subst (λ (q : Option Transaction). RowIsLogged q t (front ++ left)) is row in
          let o = fate-open t left opens in
          r (was-open o))
        where
          was-open : IsOpen t left × (list_any (of_txn t) left ≡ true) → fate t (front ++ left) ≡ Fate.Open
          was-open o = ⊎_elim
              (λ none. whole-open none o)
              (λ r. ⊎_elim (λ shut. absurd (shut o.0))
              (λ both. let off = none_of (of_txn t) left both.1 in let on = o.1 in absurd (cc)) r)
              (closed t)
            where
              whole-open : Each (λ x. of_txn t x ≡ false) front → IsOpen t left × (list_any (of_txn t) left ≡ true)
                  → fate t (front ++ left) ≡ Fate.Open
              whole-open none o = open-fate t (front ++ left)
                  (Each-append (λ x. (ends x.kind && same_txn x.txn t) ≡ false) front left
                  (none_open t front (none_of (of_txn t) front none)) o.0)
                  (any-behind (of_txn t) front left (none_of (of_txn t) front none) ∙ o.1)
      by (Some x) is = subst (λ (q : Option Transaction). RowIsLogged q t left) (sym is)
          (let opens_still = open-whole t x is in
          ⊎_elim (λ r. inl (logged x opens_still r)) (λ r. absurd (r.ended opens_still))
          (subst (λ (q : Option Transaction). RowIsLogged q t (front ++ left)) is row))

  live-there : (pend : Pending) (t : TxnId) → RowIsLive (txn_at (txns_at c i) t) t (m.part t) (all_at (log_at c i))
      → RowIsLive (txn_at (txns_at c i) t) t (m.part t) (all_at l')
  live-there pend t = by (txn_at (txns_at c i) t) refl
    where
      by : (o : Option Transaction) → txn_at (txns_at c i) t ≡ o
          → RowIsLive (txn_at (txns_at c i) t) t (m.part t) (all_at (log_at c i))
          → RowIsLive (txn_at (txns_at c i) t) t (m.part t) (all_at l')
      by None is old = subst (λ (q : Option Transaction). RowIsLive q t (m.part t) (all_at l')) (sym is) tt
      by (Some x) is old = subst (λ (q : Option Transaction). RowIsLive q t (m.part t) (all_at l')) (sym is)
          (let was = subst (λ (q : Option Transaction). RowIsLive q t (m.part t) (all_at (log_at c i))) is old in
          let opens_still = open-whole t x is in
          record {
            puts = was.puts ∙ ap (λ (xs : List Rec). map put_of (stack t xs)) all-old
                ∙ ap (map put_of) (same-stack t (none-front t opens_still))
                ∙ ap (λ (xs : List Rec). map put_of (stack t xs)) (sym all-new);
            marks = was.marks;
          })

  -- ---- sums

  owes-same : owed (all_at (log_at c i)) ≡ owed left
  owes-same = ap owed all-old ∙ total-later (λ s. 1 + length s) front left closed

  reserves-same : reserve (all_at (log_at c i)) ≡ reserve left
  reserves-same = ap reserve all-old ∙ total-later (λ s. 31 + sum_by (λ x. 47 + size x.before) s) front left closed

  told-there : (old : IsTold c m i) → IsTold new m i
  told-there old = record {
    rows = λ t own. subst (λ (l : LogState). RowIsLogged (txn_at (txns_at c i) t) t (all_at l)) (sym log-here)
        (subst (RowIsLogged (txn_at (txns_at c i) t) t) (sym all-new) (rows-there old t own));
    owes = old.owes ∙ owes-same ∙ ap owed (sym all-new) ∙ ap (λ (l : LogState). owed (all_at l)) (sym log-here);
    reserves = old.reserves ∙ reserves-same ∙ ap reserve (sym all-new) ∙ ap (λ (l : LogState). reserve (all_at l)) (sym log-here);
    spare = λ up. subst (λ (l : LogState). reserve (all_at l) ≤ l.spare) (sym log-here)
        (let was = old.spare up in let all = ap reserve all-new in let same = reserves-same in let room = spare in omega
        (arith, was, all, same, room));
  }

  reached : (lsn : ℕ) → list_any (reaches lsn) (base_at (log_at c i)) ≡ true → list_any (reaches lsn) left ≡ true
  reached lsn e = reached-later (last_lsn (scanned (log_at c i))) lsn (base_at (log_at c i)) left
      (Each-front (λ x. x.lsn ≤ last_lsn (scanned (log_at c i))) (base_at (log_at c i)) (tail_at (log_at c i))
      (g.last i low high)) may.last_kept e

  settled-there : (j : ℕ) → 1 ≤ j → j ≤ 8 → is_loose c j ≡ false → IsSettledAt seen' leaves' new j
  settled-there j lo hi e = ⊎_elim
      (λ same. subst (IsSettledAt seen' leaves' new) (sym same) (record {
        only = durable;
        stands = subst (λ (l : LogState). StandsOn l (seen' i)) (sym log-here) later.stands;
        one_place = one;
        counted = subst (λ (n : ℕ). IfSome (chosen_body 0 64 (seen' i)) (λ body. number_of body ≡ n))
            (sym (item-set 0 c.masters i count low high g.shape.masters)) count_is;
        epoch = ap (λ (l : LogState). (past_at (master (seen' i)) (forced l)).epoch) log-here
            ∙ ap (λ (l : LogState). (past_at (master (seen' i)) l).epoch) (forced-idle l' may.tail)
            ∙ later-epoch (seen i) (seen' i) gone (log_at c i) l' short later
            ∙ ap (λ (l : LogState). (past_at (master (seen i)) l).epoch) (sym (forced-idle (log_at c i) may.bare))
            ∙ (g.settled i low high may.settled).epoch;
      }))
      (λ ne. let old = g.settled j lo hi e in record {
        only = subst (λ (b : List ℕ). LeavesOnly b (leaves' j)) (sym (stay.reads j ne))
            (λ bytes. (
              λ now. (old.only bytes).0 ((stay.left j ne bytes).0 now),
              λ is. (stay.left j ne bytes).1
                  ((old.only bytes).1 is),
            ));
        stands = subst (λ (l : LogState). StandsOn l (seen' j)) (sym (log-else j ne))
            (subst (StandsOn (log_at c j)) (sym (stay.reads j ne)) old.stands);
        one_place = old.one_place;
        counted = subst (λ (b : List ℕ). IfSome (chosen_body 0 64 b) (λ body. number_of body ≡ count_at new j))
            (sym (stay.reads j ne))
            (subst (λ (n : ℕ). IfSome (chosen_body 0 64 (seen j)) (λ body. number_of body ≡ n))
            (sym (item-kept 0 c.masters i count low j ne)) old.counted);
        epoch = ap (λ (b : List ℕ). (past_at (master b) (forced (log_at new j))).epoch) (stay.reads j ne)
            ∙ ap (λ (l : LogState). (past_at (master (seen j)) (forced l)).epoch) (log-else j ne) ∙ old.epoch;
      })
      (cases_eq j i)

  -- what is said of a log and holds of the two
  everywhere : (P : ℕ → LogState → Type 0) → P i l' → ((j : ℕ) → P j (log_at c j)) → (j : ℕ) → P j (log_at new j)
  everywhere P here else j = ⊎_elim
      (λ e. subst (λ (n : ℕ). P n (log_at new n)) (sym e) (subst (P i) (sym log-here) here))
      (λ ne. subst (P j) (sym (log-else j ne)) (else j))
      (cases_eq j i)

  places-there : (j place : ℕ) → other_at c j ≡ Some place → (bytes : List ℕ) → leaves' j bytes
      → ((master bytes).start ≡ place) ⊎ ((master bytes).start ≡ (log_at new j).start)
  places-there j place other bytes now = ⊎_elim
      (λ e. let clash : None ≡ Some place = sym one ∙ ap (other_at c) (sym e) ∙ other in absurd (cc))
      (λ ne. subst (λ (l : LogState). ((master bytes).start ≡ place) ⊎ ((master bytes).start ≡ l.start)) (sym (log-else j ne))
      (g.places j place other bytes ((stay.left j ne bytes).0 now)))
      (cases_eq j i)

  then-good : Good seen' leaves' Pending.Idle new m
  then-good = record {
    shape = record {
      logs = length-set c.logs (i - 1) l' ∙ g.shape.logs;
      pools = g.shape.pools;
      txns = g.shape.txns;
      statuses = g.shape.statuses;
      epochs = g.shape.epochs;
      masters = length-set c.masters (i - 1) count ∙ g.shape.masters;
      checks = kept_checks.long;
      others = g.shape.others;
      owed = g.shape.owed;
      loose = g.shape.loose;
      own_log = λ j lo hi. ⊎_elim
          (λ e. subst (λ (n : ℕ). (log_at new n).inst ≡ n) (sym e)
          (ap (λ (l : LogState). l.inst) log-here ∙ inst ∙ g.shape.own_log i low high))
          (λ ne. ap (λ (l : LogState). l.inst) (log-else j ne) ∙ g.shape.own_log j lo hi)
          (cases_eq j i);
      own_txns = g.shape.own_txns;
    };
    half = half;
    places = places-there;
    others = g.others;
    settled = settled-there;
    disk_settled = λ e. let zero-else : 0 ≢ i = (λ z. omega (arith, z, low)) in
        subst (λ (b : List ℕ). LeavesOnly b (leaves' 0)) (sym (stay.reads 0 zero-else))
        (λ bytes. (
          λ now. (g.disk_settled e bytes).0 ((stay.left 0 zero-else bytes).0 now),
          λ is. (stay.left 0 zero-else bytes).1
              ((g.disk_settled e bytes).1 is),
        ));
    disk_lsns = λ moved p x may. let zero-else : 0 ≢ i = (λ z. omega (arith, z, low)) in
        ⊎_elim (λ le. inl le)
        (λ at. inr (
          at.0,
          at.1,
          at.2,
          ⊎_elim
              (λ e. subst (λ (n : ℕ). list_any (reaches x.lsn) (base_at (log_by new moved n)) ≡ true) (sym e)
              (ap (λ (l : LogState). list_any (reaches x.lsn) (base_at l)) (by-here moved)
              ∙ reached x.lsn (ap (λ (l : LogState). list_any (reaches x.lsn) (base_at l)) (sym (was-here moved))
              ∙ subst (λ (n : ℕ). list_any (reaches x.lsn) (base_at (log_by c moved n)) ≡ true) e at.3)))
              (λ ne. subst (λ (l : LogState). list_any (reaches x.lsn) (base_at l) ≡ true) (sym (by-else moved at.0 ne)) at.3)
              (cases_eq at.0 i),
        ))
        (g.disk_lsns moved p x (may.0, (stay.left 0 zero-else may.0).0 may.1, may.2));
    last = λ j lo hi. ⊎_elim
        (λ e. subst (λ (n : ℕ). Each (λ x. x.lsn ≤ last_lsn (scanned (log_at new n))) (all_at (log_at new n))) (sym e)
        (subst (λ (l : LogState). Each (λ x. x.lsn ≤ last_lsn (scanned l)) (all_at l)) (sym log-here)
        (subst (λ (n : ℕ). Each (λ x. x.lsn ≤ n) (all_at l')) (sym last_same)
        (subst (Each (λ x. x.lsn ≤ last_lsn (scanned (log_at c i)))) (sym all-new)
        (Each-back (λ x. x.lsn ≤ last_lsn (scanned (log_at c i))) front left
        (subst (Each (λ x. x.lsn ≤ last_lsn (scanned (log_at c i)))) all-old (g.last i low high)))))))
        (λ ne. subst (λ (l : LogState). Each (λ x. x.lsn ≤ last_lsn (scanned l)) (all_at l)) (sym (log-else j ne))
        (g.last j lo hi))
        (cases_eq j i);
    owed = λ j lo hi e. ⊎_elim
        (λ same. subst (λ (n : ℕ). owed_at c n ≡ owed (base_at (log_at new n))) (sym same)
        (g.owed i low high may.settled ∙ ap owed (whole) ∙ total-later (λ s. 1 + length s) front left closed
        ∙ ap (λ (l : LogState). owed (base_at l)) (sym log-here)))
        (λ ne. g.owed j lo hi e ∙ ap (λ (l : LogState). owed (base_at l)) (sym (log-else j ne)))
        (cases_eq j i);
    owed_loose = λ moved j lo hi e. ⊎_elim
        (λ same. let clash : true ≡ false = sym e ∙ ap (is_loose c) same ∙ may.settled in absurd (cc))
        (λ ne. subst (OwesAtMost (owed_at c j)) (sym (by-else moved j ne)) (g.owed_loose moved j lo hi e))
        (cases_eq j i);
    kept = g.kept;
    placed = g.placed;
    listed = g.listed;
    marked = g.marked;
    named = g.named;
    numbered = g.numbered;
    recoverers = g.recoverers;
    not_closed = g.not_closed;
    instances = λ j lo hi. let old = g.instances j lo hi in record {
      status = old.status;
      epoch = old.epoch;
      first = old.first;
      table = old.table;
      begins = old.begins;
      own = old.own;
      names = ⊎_elim
          (λ e. subst (λ (n : ℕ). (t : TxnId) → home t ≡ n
          → NamesLife (txn_at (txns_at c n) t) (m.part t).life (fate t (base_at (log_at new n))) (fate t (all_at (log_at new n))))
          (sym e)
          (subst are-named (sym log-here) named-there))
          (λ ne. subst (λ (l : LogState). (t : TxnId) → home t ≡ j
          → NamesLife (txn_at (txns_at c j) t) (m.part t).life (fate t (base_at l)) (fate t (all_at l)))
          (sym (log-else j ne)) old.names)
          (cases_eq j i);
    };
    told = λ j lo hi tells e. ⊎_elim
        (λ same. subst (IsTold new m) (sym same)
        (told-there (g.told i low high (ap (λ (n : ℕ). tells_log (status_at c n)) (sym same) ∙ tells) may.settled)))
        (λ ne. let old = g.told j lo hi tells e in record {
          rows = λ t own. subst (λ (l : LogState). RowIsLogged (txn_at (txns_at c j) t) t (all_at l)) (sym (log-else j ne))
              (old.rows t own);
          owes = old.owes ∙ ap (λ (l : LogState). owed (all_at l)) (sym (log-else j ne));
          reserves = old.reserves ∙ ap (λ (l : LogState). reserve (all_at l)) (sym (log-else j ne));
          spare = λ up. subst (λ (l : LogState). reserve (all_at l) ≤ l.spare) (sym (log-else j ne)) (old.spare up);
        })
        (cases_eq j i);
    at_rest = λ j lo hi tells e. ⊎_elim
        (λ same. ap (λ (n : ℕ). (log_at new n).tail) same ∙ ap (λ (l : LogState). l.tail) log-here ∙ may.tail)
        (λ ne. ap (λ (l : LogState). l.tail) (log-else j ne) ∙ g.at_rest j lo hi tells e)
        (cases_eq j i);
    begun = λ j lo hi up. ⊎_elim
        (λ e. subst (λ (n : ℕ). Each (IsOfBegun (m.inst n)) (all_at (log_at new n))) (sym e)
        (subst (λ (l : LogState). Each (IsOfBegun (m.inst i)) (all_at l)) (sym log-here)
        (subst (Each (IsOfBegun (m.inst i))) (sym all-new)
        (Each-back (IsOfBegun (m.inst i)) front left
        (subst (Each (IsOfBegun (m.inst i))) all-old (g.begun i low high (ap (status_at c) (sym e) ∙ up)))))))
        (λ ne. subst (λ (l : LogState). Each (IsOfBegun (m.inst j)) (all_at l)) (sym (log-else j ne)) (g.begun j lo hi up))
        (cases_eq j i);
    at_work = λ j lo hi up t own free. ⊎_elim
        (λ e. subst (λ (n : ℕ). RowIsLive (txn_at (txns_at c n) t) t (m.part t) (all_at (log_at new n))) (sym e)
        (subst (λ (l : LogState). RowIsLive (txn_at (txns_at c i) t) t (m.part t) (all_at l)) (sym log-here)
        (live-there Pending.Idle t (g.at_work i low high (ap (status_at c) (sym e) ∙ up) t (own ∙ e) free))))
        (λ ne. subst (λ (l : LogState). RowIsLive (txn_at (txns_at c j) t) t (m.part t) (all_at l)) (sym (log-else j ne))
        (g.at_work j lo hi up t own free))
        (cases_eq j i);
    going = λ t lo hi goes. ⊎_elim
        (λ e. subst (λ (n : ℕ). IsOpen t (all_at (log_at new n))) (sym e)
        (subst (λ (l : LogState). IsOpen t (all_at l)) (sym log-here)
        (subst (IsOpen t) (sym all-new) (Each-back (λ x. (ends x.kind && same_txn x.txn t) ≡ false) front left
        (subst (IsOpen t) all-old (subst (λ (n : ℕ). IsOpen t (all_at (log_at c n))) e (g.going t lo hi goes)))))))
        (λ ne. subst (λ (l : LogState). IsOpen t (all_at l)) (sym (log-else (home t) ne)) (g.going t lo hi goes))
        (cases_eq (home t) i);
    pending = tt;
    gone = g.gone;
    locks = g.locks;
    asks = g.asks;
    checking = λ j b is. let was = kept_checks.less j b is in let old = g.checking j b was.1 in record {
      takes = old.takes;
      spelled = old.spelled;
      begun = ⊎_elim
          (λ e. subst (λ (n : ℕ). b.begin ≤ last_lsn (scanned (log_at new n))) (sym e)
          (subst (λ (l : LogState). b.begin ≤ last_lsn (scanned l)) (sym log-here)
          (subst (λ (n : ℕ). b.begin ≤ n) (sym last_same)
          (subst (λ (n : ℕ). b.begin ≤ last_lsn (scanned (log_at c n))) e old.begun))))
          (λ ne. subst (λ (l : LogState). b.begin ≤ last_lsn (scanned l)) (sym (log-else j ne)) old.begun)
          (cases_eq j i);
    };
  }

pub master-good : (leaves leaves' : Outcomes) → MasterIsGood leaves leaves'
master-good = then-good

pub master-alike : (leaves leaves' : Outcomes) → MasterReadsAlike leaves leaves'
master-alike = alike
