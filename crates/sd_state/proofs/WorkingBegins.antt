-- A transaction begins: for `begin` of working.rt.
use Rattle.std.proofs.Common.{◌≡◌, ◌≢◌, inl, inr, ⊎_elim, ℕ, ◌+◌, ◌-◌, ◌≤◌, Bool, true, false, cond, if◌then◌else◌, ◌==◌, List, [], ◌∷◌, ◌++◌, map, slice_set, refl, sym, ap, ◌∙◌, subst, arith, eq-eqb, ne_eqb}
use Rattle.std.specs.Prelude.{◌↔◌, ◌<◌, Option, None, Some, Result, Err, is_some, length}
use Rattle.std.specs.List.{list_any}
use Rattle.std.proofs.lemmas.Bool.{cases_Bool}
use Rattle.std.proofs.lemmas.List.{length-set}
use Rattle.sd_base.specs.declared.ids.TxnId.{TxnId}
use Rattle.sd_base.specs.declared.ids.Rid.{Rid}
use Rattle.sd_base.specs.declared.place.Mode.{Mode}
use Rattle.sd_base.specs.declared.place.Status.TheVariants as S
use Rattle.sd_base.specs.declared.refusal.Refusal.{Refusal}
use Rattle.sd_base.specs.declared.refusal.Refusal.TheVariants as R
use Rattle.sd_base.specs.Ids.{same_txn}
use Rattle.sd_base.proofs.SameIds.{each_txn, eq-same, ne-same}
use Rattle.sd_logrec.specs.View.{Rec}
use Rattle.sd_model.specs.Listed.{IsAmong, IsAtWork}
use Rattle.sd_model.specs.Lives.{IsDoubt, MayRun}
use Rattle.sd_model.specs.Recoverers.{Recoverers}
use Rattle.sd_model.specs.State.{Part, State, began, begun_part, put_inst}
use Rattle.sd_model.specs.StepLaws.{next_txn}
use Rattle.sd_model.specs.declared.act.Claim.{Claim}
use Rattle.sd_model.specs.declared.act.Inst.{Inst}
use Rattle.sd_model.specs.declared.act.Life.{Life}
use Rattle.sd_model.proofs.Among.{among-last, among-more, begin-rises, each-more, each-rises, next-below, next-new, once-more}
use Rattle.sd_model.proofs.Changes.{began-kept}
use Rattle.sd_model.proofs.Marks.{put-marked}
use Rattle.sd_model.proofs.Placed.{each_inst}
use Rattle.sd_model.proofs.PlacedChanges.{began-placed}
use Rattle.sd_model.proofs.Views.{part-elsewhere, part-here}
use Rattle.sd_reclock.specs.Locks.{LockTable, held}
use Rattle.sd_rig.specs.Devices as rig
use Rattle.sd_txn.specs.Owing.{owed_of, reserve_of}
use Rattle.sd_txn.specs.Transactions as txns
use Rattle.sd_txn.specs.Transactions.{OthersStay, Transaction, Transactions, begins_in, txn_at}
use Rattle.sd_txn.specs.declared.state.TxnState.{TxnState}
use Rattle.sd_chain.specs.Fates.{Fate, fate}
use Rattle.sd_chain.specs.Order.{of_txn, span_of}
use Rattle.sd_chain.specs.Records.{Each, home}
use Rattle.sd_chain.proofs.Fates.{none-unknown}
use Rattle.sd_chain.proofs.Lists.{Each-append, Each-front, Each-weaker}
use Rattle.sd_chain.proofs.Whose.{both, none_of, none_open, own_is, stack-none}
use Rattle.sd_chain.specs.Logs.{Outcomes, all_at, base_at, kept_logs, tail_at, tails_of}
use Rattle.sd_state.specs.Good.{Good, IsOfBegun}
use Rattle.sd_state.specs.Parts.{Parts, among, epoch_at, log_at, no_txns, status_at, txns_at}
use Rattle.sd_state.specs.Images.{log_by}
use Rattle.sd_state.specs.Tables.{NamedOnce, NamesLife, RowIsLive, RowIsLogged, StandsAs, lock_of}
use Rattle.sd_state.specs.Values.{Pending, is_doubt, open_of, put_of, rid_of}
use Rattle.sd_state.specs.Working.{with_working}
use Rattle.sd_state.proofs.ChangedLists.{span-there}
use Rattle.sd_state.proofs.Items.{item-kept, item-set}
use Rattle.sd_state.proofs.WorkingGood.{ItsWork, Lasts, OthersWork, working-good}
use Rattle.sd_state.proofs.WorkingValues.{values-other}

-- the next of an epoch has no record among those of transactions that began
none-yet : (inst : Inst) (t : TxnId) (log : List Rec) → t.epoch ≡ inst.epoch → t.seq ≡ inst.begins + 1 → Each (IsOfBegun inst) log
    → Each (λ x. of_txn t x ≡ false) log
none-yet inst t log epoch seq each = Each-weaker (IsOfBegun inst) (λ x. of_txn t x ≡ false)
    (λ x was. ⊎_elim
    (λ it. let own = own_is t x it in
    let le = was (both _ _ it).0 (ap (λ (u : TxnId). u.epoch) own ∙ epoch) in
    let s = ap (λ (u : TxnId). u.seq) own in absurd (omega (arith, le, s, seq)))
    (λ other. other)
    (cases_Bool (of_txn t x)))
    log each

none-some : (o : Option (ℕ × ℕ)) → is_some o ≡ false → o ≡ None
none-some None e = refl
none-some (Some x) e = absurd (cc)

-- where no status changes, whoever recovers an instance is that one, or is up
pub same-statuses : (m m' : State) → ((j : ℕ) → (m'.inst j).status ≡ (m.inst j).status) → Recoverers m → Recoverers m'
same-statuses m m' same r = record {
  each = λ j by is. ⊎_elim (λ e. inl e) (λ up. inr (same by ∙ up)) (r.each j by (sym (same j) ∙ is));
}

-- what a run keeps, where the next transaction of an instance that is up begins
began-lasts : (m : State) (i : ℕ) → (m.inst i).status ≡ S.Up → ((m.inst 1).status ≡ S.Closed → ⊥) → Lasts m
    → Lasts (began i (next_txn m i) m)
began-lasts m i up never l =
    let x = next_txn m i in
    let later : ℕ → Inst = (began i x m).inst in
    let new = next-new m i m.begun up l.listed.bounds in
    let y : Inst = record (m.inst i) { begins = (m.inst i).begins + 1 } in
    record {
      kept = began-kept m i x l.kept;
      placed = began-placed m i x never refl (subst MayRun (sym up) tt) l.placed;
      listed = record {
        bounds = each-more later m.begun x (each-rises m.inst later m.begun (begin-rises m i) l.listed.bounds) (next-below m i);
        there = each_txn x (λ u (p : Part). p.life ≢ Life.Gone → IsAmong u (m.begun ++ x ∷ [])) begun_part m.part
            (λ _. among-last m.begun x) (λ u _ ne. among-more m.begun x u (l.listed.there u ne));
        once = once-more m.begun x l.listed.once new;
        doubts = each_txn x (λ u (p : Part). IsDoubt p.life → IsAmong u m.cuts) begun_part m.part (λ d. absurd d) (λ u _. l.listed.doubts u);
        cut_once = l.listed.cut_once;
        cut_begun = λ t a. among-more m.begun x t (l.listed.cut_begun t a);
        cut_rests = each_txn x (λ u (p : Part). IsAmong u m.cuts → IsAtWork p.life → ⊥) begun_part m.part
            (λ a _. new (l.listed.cut_begun x a)) (λ u _. l.listed.cut_rests u);
      };
      marked = put-marked (put_inst i y (record m { begun = m.begun ++ x ∷ [] })) x begun_part (record { marks = tt; target = tt }) (record { sized = l.marked.sized });
      recoverers = same-statuses m (began i x m)
          (each_inst i (λ j (z : Inst). z.status ≡ (m.inst j).status) y m.inst refl (λ j ne. refl)) l.recoverers;
    }

-- The table and the locks are what they are once t has begun on instance i, which is up.
pub record Begins (i : ℕ) (t : TxnId) (table : Transactions) (locks : LockTable) (c : Parts) : Type 0 where
  pub low : 1 ≤ i
  pub high : i ≤ 8
  pub idle : c.due ≡ None
  pub up : status_at c i ≡ S.Up
  pub is : t ≡ txns.next_txn (txns_at c i) (epoch_at c i)
  pub row : txn_at table t ≡ Some (txns.started TxnState.Running)
  pub others : OthersStay (txns_at c i) table t
  pub counted : table ≡ record (txns_at c i) { epoch = epoch_at c i; begins = t.seq; unresolved = table.unresolved }
  pub owes : txn_at (txns_at c i) t ≡ None → owed_of table ≡ owed_of (txns_at c i)
  pub reserves : txn_at (txns_at c i) t ≡ None → reserve_of table ≡ reserve_of (txns_at c i)
  pub released : (u : TxnId) (r : Rid) → held locks u r ≡ cond (same_txn t u) None (held c.locks u r)

-- it is the next one of the serial table
pub begins-next : (i : ℕ) (t : TxnId) (table : Transactions) (locks : LockTable) (seen : rig.DeviceImages) (leaves : Outcomes) (c : Parts) (m : State)
    → Good seen leaves Pending.Idle c m → Begins i t table locks c → t ≡ next_txn m i
begins-next i t table locks seen leaves c m g b =
    let here = g.instances i b.low b.high in
    let inst = ap (λ (u : TxnId). u.inst) b.is ∙ g.shape.own_txns i b.low b.high in
    let epoch = ap (λ (u : TxnId). u.epoch) b.is ∙ here.epoch b.up in
    let seq = ap (λ (u : TxnId). u.seq) b.is
    ∙ ap (λ (n : ℕ). n + 1) (ap (begins_in (txns_at c i)) (here.epoch b.up) ∙ here.begins b.up) in
    λ n. record { inst = inst n; epoch = epoch n; seq = seq n }

gone-none : (o : Option Transaction) (f w : Fate) → NamesLife o Life.Gone f w → o ≡ None
gone-none None f w h = refl
gone-none (Some x) f w h = absurd (by x.state h)
  where
    by : (s : TxnState) → StandsAs s Life.Gone f w → ⊥
    by TxnState.Running h = cc
    by (TxnState.Rolling to) h = cc
    by TxnState.Retained h = ⊎_elim (λ e. let f = e in absurd (cc)) (λ d. d.0) h
    by TxnState.Doubt h = h
    by TxnState.Committed h = h.0

module _ (t : TxnId) (table : Transactions) (locks : LockTable) (seen : rig.DeviceImages) (leaves : Outcomes) (c : Parts) (m : State)
    (g : Good seen leaves Pending.Idle c m) (b : Begins (home t) t table locks c) where
  abbrev i : ℕ
  i = home t

  abbrev m' : State
  m' = began i t m

  abbrev tables : List Transactions
  tables = slice_set c.txns (i - 1) table

  abbrev all : List Rec
  all = all_at (log_at c i)

  next : t ≡ next_txn m i
  next = begins-next i t table locks seen leaves c m g b

  m-up : (m.inst i).status ≡ S.Up
  m-up = sym (g.instances i b.low b.high).status ∙ b.up

  none : Each (λ x. of_txn t x ≡ false) all
  none = none-yet (m.inst i) t all (ap (λ (u : TxnId). u.epoch) next) (ap (λ (u : TxnId). u.seq) next) (g.begun i b.low b.high b.up)

  has-none : list_any (of_txn t) all ≡ false
  has-none = none_of (of_txn t) all none

  none-kept : (k : Bool) → Each (λ x. of_txn t x ≡ false) (base_at (log_at c i) ++ cond k (tail_at (log_at c i)) [])
  none-kept true = none
  none-kept false = Each-append (λ x. of_txn t x ≡ false) (base_at (log_at c i)) []
      (Each-front (λ x. of_txn t x ≡ false) (base_at (log_at c i)) (tail_at (log_at c i)) none) tt

  here : m'.part t ≡ begun_part
  here = part-here (put_inst i (record (m.inst i) { begins = (m.inst i).begins + 1 }) (record m { begun = m.begun ++ t ∷ [] })) t begun_part

  part-else : (u : TxnId) → u ≢ t → m'.part u ≡ m.part u
  part-else u ne = part-elsewhere (put_inst i (record (m.inst i) { begins = (m.inst i).begins + 1 }) (record m { begun = m.begun ++ t ∷ [] })) t u begun_part
      (λ e. ne (sym e))

  was-gone : (m.part t).life ≡ Life.Gone
  was-gone = by (m.part t).life (λ there. next-new m i m.begun m-up g.listed.bounds (subst (λ (u : TxnId). IsAmong u m.begun) next (g.listed.there t there)))
    where
      by : (life : Life) → (life ≢ Life.Gone → ⊥) → life ≡ Life.Gone
      by Life.Gone never = refl
      by Life.Running never = absurd (never (λ e. let f = e in absurd (cc)))
      by Life.Retained never = absurd (never (λ e. let f = e in absurd (cc)))
      by (Life.Rolling to) never = absurd (never (λ e. let f = e in absurd (cc)))
      by (Life.Doubt cut) never = absurd (never (λ e. let f = e in absurd (cc)))

  -- nobody had it in the table
  unknown : txn_at (txns_at c i) t ≡ None
  unknown = gone-none _ _ _ (subst (λ (life : Life). NamesLife (txn_at (txns_at c i) t) life (fate t (base_at (log_at c i))) (fate t all)) was-gone
      ((g.instances i b.low b.high).names t refl))

  table-here : among no_txns tables i ≡ table
  table-here = item-set no_txns c.txns i table b.low b.high g.shape.txns

  abbrev more : Inst
  more = record (m.inst i) { begins = (m.inst i).begins + 1 }

  counts : begins_in table (m.inst i).epoch ≡ (m.inst i).begins + 1
  counts =
      ap (λ (tb : Transactions). begins_in tb (m.inst i).epoch) b.counted
      ∙ ap (λ (e : ℕ). if e == (m.inst i).epoch then t.seq else 0) ((g.instances i b.low b.high).epoch b.up)
      ∙ ap (λ (z : Bool). cond z t.seq 0) (eq-eqb (m.inst i).epoch (m.inst i).epoch refl)
      ∙ ap (λ (u : TxnId). u.seq) next

  all-others : OthersWork t tables locks Pending.Idle c m m'
  all-others = record {
    low = b.low;
    high = b.high;
    idle = b.idle;
    up = b.up;
    count = length-set c.txns (i - 1) table ∙ g.shape.txns;
    own = ap (λ (tb : Transactions). tb.inst) table-here ∙ ap (λ (tb : Transactions). tb.inst) b.counted ∙ g.shape.own_txns i b.low b.high;
    table = let a = ap (λ (tb : Transactions). tb.epoch) table-here in let d = ap (λ (tb : Transactions). tb.epoch) b.counted in
        let e = (g.instances i b.low b.high).epoch b.up in omega (arith, a, d, e);
    tables = λ j ne. item-kept no_txns c.txns i table b.low j ne;
    rows = subst (λ (tb : Transactions). OthersStay (txns_at c i) tb t) (sym table-here) b.others;
    owes = ap owed_of table-here ∙ b.owes unknown;
    reserves = ap reserve_of table-here ∙ b.reserves unknown;
    others_held = λ u ne r. b.released u r ∙ ap (λ (z : Bool). cond z None (held c.locks u r)) (ne-same t u (λ e. ne (sym e)));
    parts = part-else;
    begins = (m.inst i).begins + 1;
    more = omega arith;
    counts = ap (λ (tb : Transactions). begins_in tb (m.inst i).epoch) table-here ∙ counts;
    inst = ap (λ (z : Bool). cond z more (m.inst i)) (eq-eqb i i refl);
    insts = λ j ne. ap (λ (z : Bool). cond z more (m.inst j)) (ne_eqb i j (λ e. ne (sym e)));
    under = λ u ne idle. let e = idle in absurd (cc);
    starts = λ j. refl;
    lasts = subst (λ (u : TxnId). Lasts (began i u m)) (sym next) (began-lasts m i m-up g.not_closed
        (record { kept = g.kept; placed = g.placed; listed = g.listed; marked = g.marked; recoverers = g.recoverers }));
  }

  doubt-not : is_doubt (m.part t).life ≡ false
  doubt-not = ap is_doubt was-gone

  its-own : ItsWork t tables locks Pending.Idle c m m'
  its-own = record {
    values = λ moved keeps p s. values-other t m m' (kept_logs (tails_of (log_by c moved)) keeps) refl part-else doubt-not
        (ap (λ (q : Part). is_doubt q.life) here) refl refl p s;
    claimed = λ k opens. let clash = sym (none-unknown t _ (none-kept k)) ∙ opens in absurd (cc);
    open_held = λ _. subst (Each (λ x. (m'.part t).claims (rid_of x) ≡ Claim.Excl)) (sym (stack-none t all has-none)) tt;
    names = subst (λ (tb : Transactions). NamesLife (txn_at tb t) (m'.part t).life (fate t (base_at (log_at c i))) (fate t all)) (sym table-here)
        (subst (λ (row : Option Transaction). NamesLife row (m'.part t).life (fate t (base_at (log_at c i))) (fate t all)) (sym b.row)
        (ap (λ (q : Part). q.life) here));
    logged = subst (λ (tb : Transactions). RowIsLogged (txn_at tb t) t all) (sym table-here)
        (subst (λ (row : Option Transaction). RowIsLogged row t all) (sym b.row) (inl (record {
          alive = none_open t all has-none;
          open_ones = sym (ap (map open_of) (stack-none t all has-none));
          span = sym (none-some (span_of t all) (span-there t all ∙ has-none));
        })));
    live = subst (λ (tb : Transactions). RowIsLive (txn_at tb t) t (m'.part t) all) (sym table-here)
        (subst (λ (row : Option Transaction). RowIsLive row t (m'.part t) all) (sym b.row)
        (subst (λ (q : Part). RowIsLive (Some (txns.started TxnState.Running)) t q all) (sym here) (record {
          puts = sym (ap (map put_of) (stack-none t all has-none));
          marks = λ name. refl;
        })));
    going = λ _. none_open t all has-none;
    named = subst (λ (q : Part). NamedOnce q.marks) (sym here) tt;
    number = λ there. (
      (let e = ap (λ (u : TxnId). u.epoch) b.is in let up = (g.instances i b.low b.high).epoch b.up in
          let one = (g.instances i b.low b.high).first b.up in omega (arith, e, up, one)),
      (let e = ap (λ (u : TxnId). u.seq) b.is in omega (arith, e)),
    );
    gone = λ it. let e = sym (ap (λ (q : Part). q.life) here) ∙ it in absurd (cc);
    its_locks = λ r. b.released t r ∙ ap (λ (z : Bool). cond {A = Option Mode} z None (held c.locks t r)) (eq-same t t refl)
        ∙ ap (λ (q : Part). lock_of (q.claims r)) (sym here);
  }

  begins-there : Good seen leaves Pending.Idle (with_working i table locks c) m'
  begins-there = working-good t tables locks seen leaves Pending.Idle c m m' g all-others its-own

-- the complex is good once a transaction of instance i has begun
abbrev BeginsWell : TxnId → ℕ → Type 1
BeginsWell t i = (table : Transactions) (locks : LockTable) (seen : rig.DeviceImages) (leaves : Outcomes) (c : Parts) (m : State)
    → Good seen leaves Pending.Idle c m → Begins i t table locks c → Good seen leaves Pending.Idle (with_working i table locks c) (began i t m)

pub begins-good : (i : ℕ) (t : TxnId) → home t ≡ i → BeginsWell t i
begins-good i t own = subst (BeginsWell t) own (λ table locks seen leaves c m g b. begins-there t table locks seen leaves c m g b)

-- ---- the table's refusals are the complex's

-- there are too many, of the table that the instance has
pub many-told : (r s : Result TxnId Refusal) (a b : Transactions) → r ≡ s → b ≡ a
    → (r ≡ Err R.TooManyTxns) ↔ (64 ≤ length a.unresolved) → (s ≡ Err R.TooManyTxns) ↔ (64 ≤ length b.unresolved)
many-told r s a b is same told =
    subst (λ (tb : Transactions). (s ≡ Err R.TooManyTxns) ↔ (64 ≤ length tb.unresolved)) (sym same)
    (subst (λ (x : Result TxnId Refusal). (x ≡ Err R.TooManyTxns) ↔ (64 ≤ length a.unresolved)) is told)

-- no number of its epoch is left
pub end-told : (r s : Result TxnId Refusal) (a b : Transactions) (d e : ℕ) → r ≡ s → b ≡ a → e ≡ d
    → (r ≡ Err R.LsnEnd) ↔ ((length a.unresolved < 64) × (begins_in a d ≡ 4294967295))
    → (s ≡ Err R.LsnEnd) ↔ ((length b.unresolved < 64) × (begins_in b e ≡ 4294967295))
end-told r s a b d e is same of told =
    subst (λ (tb : Transactions). (s ≡ Err R.LsnEnd) ↔ ((length tb.unresolved < 64) × (begins_in tb e ≡ 4294967295))) (sym same)
    (subst (λ (n : ℕ). (s ≡ Err R.LsnEnd) ↔ ((length a.unresolved < 64) × (begins_in a n ≡ 4294967295))) (sym of)
    (subst (λ (x : Result TxnId Refusal). (x ≡ Err R.LsnEnd) ↔ ((length a.unresolved < 64) × (begins_in a d ≡ 4294967295))) is told))
