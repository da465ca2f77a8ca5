-- A transaction ends: its row and its locks go, and it is there no more. For the calls in ending.rt.
use Rattle.std.proofs.Common.{◌≡◌, ◌≢◌, ℕ, ◌+◌, ◌-◌, ◌≤◌, Bool, true, cond, if◌then◌else◌, List, [], ◌++◌, length, slice_set, refl, sym, ap, ap₂, ◌∙◌, subst, arith}
use Rattle.std.specs.Prelude.{Option, None, is_some, sum_by}
use Rattle.std.proofs.lemmas.List.{length-set}
use Rattle.sd_base.specs.declared.ids.TxnId.{TxnId}
use Rattle.sd_base.specs.declared.ids.Rid.{Rid}
use Rattle.sd_base.specs.declared.place.Mode.{Mode}
use Rattle.sd_base.specs.declared.place.Status.TheVariants as S
use Rattle.sd_base.specs.Ids.{same_txn}
use Rattle.sd_base.proofs.SameIds.{eq-same, ne-same}
use Rattle.sd_logrec.specs.View.{Rec}
use Rattle.sd_model.specs.State.{Part, State, gone}
use Rattle.sd_model.specs.declared.act.Claim.{Claim}
use Rattle.sd_reclock.specs.Locks.{LockTable, held}
use Rattle.sd_rig.specs.Devices as rig
use Rattle.sd_txn.specs.Owing.{bytes_owed, owed_of, records_owed, reserve_of, undo_len}
use Rattle.sd_txn.specs.Transactions.{OthersStay, Transaction, Transactions, begins_in, txn_at, without}
use Rattle.sd_txn.specs.declared.state.OpenRec.{OpenRec}
use Rattle.sd_chain.specs.Fates.{fate}
use Rattle.sd_chain.specs.Images.{Keeps}
use Rattle.sd_chain.specs.Records.{Each, IsOpen, home, stack}
use Rattle.sd_chain.specs.Logs.{Outcomes, all_at, base_at, kept_logs, tail_at, tails_of}
use Rattle.sd_state.specs.Good.{Good}
use Rattle.sd_state.specs.Images.{IsOpenIn, log_by}
use Rattle.sd_state.specs.Parts.{Parts, among, log_at, no_txns, status_at, txns_at}
use Rattle.sd_state.specs.Tables.{GoesOn, NamedOnce, NamesLife, RowIsLive, RowIsLogged, lock_of}
use Rattle.sd_state.specs.Values.{Pending, rid_of, starts_of, values}
use Rattle.sd_state.specs.Working.{with_working}
use Rattle.sd_state.proofs.Items.{item-kept, item-set}
use Rattle.sd_state.proofs.WorkingGood.{ItsWork, Lasts, OthersWork, working-good}

-- t, of which x is known, leaves: nothing of it is open in the table, and no log that a crash may leave has it open.
pub record Leaves (t : TxnId) (x : Transaction) (locks : LockTable) (pend : Pending) (c : Parts) (m m' : State) : Type 0 where
  pub low : 1 ≤ home t
  pub high : home t ≤ 8
  pub idle : c.due ≡ None
  pub up : status_at c (home t) ≡ S.Up
  pub emptied : x.stack ≡ []
  pub spanless : x.span ≡ None
  pub others : OthersStay (txns_at c (home t)) (without (txns_at c (home t)) t) t
  pub none : txn_at (without (txns_at c (home t)) t) t ≡ None
  pub owes : owed_of (without (txns_at c (home t)) t) + records_owed x ≡ owed_of (txns_at c (home t))
  pub reserves : reserve_of (without (txns_at c (home t)) t) + bytes_owed x ≡ reserve_of (txns_at c (home t))
  pub released : (u : TxnId) (r : Rid) → held locks u r ≡ cond (same_txn t u) None (held c.locks u r)
  pub closed : (k : Bool) → IsOpenIn t (base_at (log_at c (home t)) ++ cond k (tail_at (log_at c (home t))) []) → ⊥
  pub bare : IsOpen t (base_at (log_at c (home t))) → stack t (all_at (log_at c (home t))) ≡ []
  pub part : m'.part t ≡ gone
  pub parts : (u : TxnId) → u ≢ t → m'.part u ≡ m.part u
  pub inst : m'.inst ≡ m.inst
  pub under : (u : TxnId) → u ≢ t → pend ≡ Pending.Commits u → ⊥
  pub starts : (j : ℕ) → starts_of pend j ≡ 0
  pub lasts : Lasts m'
  pub values : (moved keeps : Keeps) (p s : ℕ) → values m' Pending.Idle (kept_logs (tails_of (log_by c moved)) keeps) p s
      ≡ values m pend (kept_logs (tails_of (log_by c moved)) keeps) p s

module _ (t : TxnId) (x : Transaction) (locks : LockTable) (seen : rig.DeviceImages) (leaves : Outcomes) (pend : Pending) (c : Parts) (m m' : State)
    (g : Good seen leaves pend c m) (w : Leaves t x locks pend c m m') where
  abbrev i : ℕ
  i = home t

  abbrev table : Transactions
  table = without (txns_at c i) t

  abbrev tables : List Transactions
  tables = slice_set c.txns (i - 1) table

  abbrev all : List Rec
  all = all_at (log_at c i)

  table-here : among no_txns tables i ≡ table
  table-here = item-set no_txns c.txns i table w.low w.high g.shape.txns

  no-records : records_owed x ≡ 0
  no-records = ap₂ (λ (span : Option (ℕ × ℕ)) (stack : List OpenRec). (if is_some span then 1 else 0) + length stack) w.spanless w.emptied

  no-bytes : bytes_owed x ≡ 0
  no-bytes = ap₂ (λ (span : Option (ℕ × ℕ)) (stack : List OpenRec). (if is_some span then 31 else 0) + sum_by undo_len stack) w.spanless w.emptied

  its-own : ItsWork t tables locks pend c m m'
  its-own = record {
    values = w.values;
    claimed = λ k opens. absurd (w.closed k opens);
    open_held = λ opens. subst (Each (λ y. (m'.part t).claims (rid_of y) ≡ Claim.Excl)) (sym (w.bare opens)) tt;
    names = subst (λ (tb : Transactions). NamesLife (txn_at tb t) (m'.part t).life (fate t (base_at (log_at c i))) (fate t all)) (sym table-here)
        (subst (λ (row : Option Transaction). NamesLife row (m'.part t).life (fate t (base_at (log_at c i))) (fate t all)) (sym w.none)
        (ap (λ (q : Part). q.life) w.part));
    logged = subst (λ (tb : Transactions). RowIsLogged (txn_at tb t) t all) (sym table-here)
        (subst (λ (row : Option Transaction). RowIsLogged row t all) (sym w.none) (w.closed true));
    live = subst (λ (tb : Transactions). RowIsLive (txn_at tb t) t (m'.part t) all) (sym table-here)
        (subst (λ (row : Option Transaction). RowIsLive row t (m'.part t) all) (sym w.none) tt);
    going = λ goes. absurd (subst (GoesOn Pending.Idle t) w.part goes);
    named = subst (λ (q : Part). NamedOnce q.marks) (sym w.part) tt;
    number = λ there. absurd (there (ap (λ (q : Part). q.life) w.part));
    gone = λ it r. ap (λ (q : Part). q.claims r) w.part;
    its_locks = λ r. w.released t r ∙ ap (λ (z : Bool). cond {A = Option Mode} z None (held c.locks t r)) (eq-same t t refl)
        ∙ ap (λ (q : Part). lock_of (q.claims r)) (sym w.part);
  }

  all-others : OthersWork t tables locks pend c m m'
  all-others = record {
    low = w.low;
    high = w.high;
    idle = w.idle;
    up = w.up;
    count = length-set c.txns (i - 1) table ∙ g.shape.txns;
    own = ap (λ (tb : Transactions). tb.inst) table-here ∙ g.shape.own_txns i w.low w.high;
    table = let a = ap (λ (tb : Transactions). tb.epoch) table-here in let e = (g.instances i w.low w.high).table in omega (arith, a, e);
    tables = λ j ne. item-kept no_txns c.txns i table w.low j ne;
    rows = subst (λ (tb : Transactions). OthersStay (txns_at c i) tb t) (sym table-here) w.others;
    owes = ap owed_of table-here ∙ (let o = w.owes in omega (arith, o, no-records));
    reserves = ap reserve_of table-here ∙ (let o = w.reserves in omega (arith, o, no-bytes));
    others_held = λ u ne r. w.released u r ∙ ap (λ (z : Bool). cond z None (held c.locks u r)) (ne-same t u (λ e. ne (sym e)));
    parts = w.parts;
    begins = (m.inst i).begins;
    more = omega arith;
    counts = ap (λ (tb : Transactions). begins_in tb (m.inst i).epoch) table-here ∙ (g.instances i w.low w.high).begins w.up;
    inst = ap (λ f. f i) w.inst;
    insts = λ j ne. ap (λ f. f j) w.inst;
    under = w.under;
    starts = w.starts;
    lasts = w.lasts;
  }

  pub leaves-good : Good seen leaves Pending.Idle (with_working i table locks c) m'
  leaves-good = working-good t tables locks seen leaves pend c m m' g all-others its-own
