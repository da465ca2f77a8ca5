-- A transaction in doubt that is decided: what held of the complex holds of it then. For `decide`.
use Rattle.std.proofs.Common.{◌≡◌, ◌≢◌, inl, inr, ⊎_elim, ℕ, ◌+◌, ◌-◌, ◌≤◌, Bool, true, false, List, [], ◌++◌, map, refl, sym, ap, ◌∙◌, subst, arith, append-nil}
use Rattle.std.specs.Prelude.{Option, None, Some, option_map}
use Rattle.std.specs.List.{IsDistinct, list_any}
use Rattle.std.proofs.lemmas.Bool.{cases_eq}
use Rattle.std.proofs.lemmas.List.{length-set}
use Rattle.sd_base.specs.declared.ids.TxnId.{TxnId}
use Rattle.sd_base.specs.Ids.{same_txn}
use Rattle.sd_base.specs.declared.place.Status.TheVariants as S
use Rattle.sd_base.proofs.SameIds.{cases_txn}
use Rattle.sd_logrec.specs.View.{Rec, flat}
use Rattle.sd_logrec.specs.declared.record.Record.{Record}
use Rattle.sd_model.specs.State.{State}
use Rattle.sd_model.specs.declared.act.Life.{Life}
use Rattle.sd_rig.specs.Devices as rig
use Rattle.sd_txn.specs.Owing.{bytes_owed, owed_of, records_owed, reserve_of}
use Rattle.sd_txn.specs.Transactions.{OthersStay, Replaces, SameOrder, Transaction, Transactions, begins_in, ids, txn_at, with_state}
use Rattle.sd_txn.specs.declared.state.TxnState.{TxnState}
use Rattle.sd_txn.proofs.Owing.{total-replaced}
use Rattle.sd_chain.specs.Fates.{Fate, commits, fate}
use Rattle.sd_chain.specs.Images.{Keeps}
use Rattle.sd_chain.specs.Records.{home}
use Rattle.sd_chain.proofs.Fates.{committed-fate, fate-committed}
use Rattle.sd_chain.specs.Logs.{Outcomes, all_at, base_at}
use Rattle.sd_state.specs.Good.{Good, Half, IsInstance, IsTold}
use Rattle.sd_state.specs.Images.{leaves_by, log_by}
use Rattle.sd_state.specs.Parts.{Parts, is_loose, log_at, no_txns, status_at, txns_at}
use Rattle.sd_state.specs.Recovering.{decided_as, with_table}
use Rattle.sd_state.specs.Tables.{IsInDoubt, NamesLife, RowIsLive, RowIsLogged, StandsAs}
use Rattle.sd_state.specs.Values.{Pending}
use Rattle.sd_state.proofs.Items.{item-kept, item-set}
use Rattle.sd_state.proofs.Standing.{others-still}

-- the row of a transaction that stands so
pub record HasRow (table : Transactions) (t : TxnId) (s : TxnState) : Type 0 where
  pub x : Transaction
  pub row : txn_at table t ≡ Some x
  pub state : x.state ≡ s

pub has-row : (table : Transactions) (t : TxnId) (s : TxnState) → option_map (λ x. x.state) (txn_at table t) ≡ Some s
    → HasRow table t s
has-row table t s is = by (txn_at table t) refl is
  where
    by : (o : Option Transaction) → txn_at table t ≡ o → option_map (λ x. x.state) o ≡ Some s → HasRow table t s
    by None e is = absurd (cc)
    by (Some x) e is = record { x = x; row = e; state = cc }

-- the row that is set
pub replaces-state : (old lent new : Transactions) (t : TxnId) (x : Transaction) (s s' : TxnState) → old ≡ lent
    → txn_at old t ≡ Some x
    → txn_at new t ≡ option_map (with_state s) (txn_at lent t) → s ≡ s' → OthersStay lent new t → SameOrder lent new
    → Replaces old new t x (with_state s' x)
replaces-state old lent new t x s s' is was set state others order = record {
  was = was;
  now = set ∙ ap (λ (tb : Transactions). option_map (with_state s) (txn_at tb t)) (sym is) ∙ ap (option_map (with_state s)) was
      ∙ ap (λ (q : TxnState). Some (with_state q x)) state;
  others = λ u ne. others u ne ∙ ap (λ (tb : Transactions). txn_at tb u) (sym is);
  order = subst (λ (tb : Transactions). SameOrder tb new) (sym is) order;
}

-- who is in doubt stands so, by whether its log has its Commit
stands-decided : (b : Bool) (life : Life) (t : TxnId) (log whole : List Rec) → whole ≡ log → b ≡ list_any (commits t) log
    → IsInDoubt life
    → StandsAs (decided_as b) life (fate t log) (fate t whole)
stands-decided true life t log whole same is doubt = (doubt, committed-fate t log (sym is))
stands-decided false life t log whole same is doubt =
    let never : fate t log ≢ Fate.Committed = λ e. (let clash : false ≡ true = is ∙ fate-committed t log e in absurd (cc)) in
    inr (doubt, never, λ e. never (sym (ap (fate t) same) ∙ e))

-- a row is logged whatever its state is
logged-as : (s : TxnState) (x : Transaction) (t : TxnId) (log : List Rec) → RowIsLogged (Some x) t log
    → RowIsLogged (Some (with_state s x)) t log
logged-as s x t log r = ⊎_elim
    (λ l. inl (record { alive = l.alive; open_ones = l.open_ones; span = l.span }))
    (λ h. inr (record { ended = h.ended; emptied = h.emptied; span = h.span })) r

module _ (t : TxnId) (x : Transaction) (committed : Bool) (table : Transactions) (seen : rig.DeviceImages) (leaves : Outcomes)
    (c : Parts) (m : State)
    (low : 1 ≤ home t) (high : home t ≤ 8) (g : Good seen leaves Pending.Idle c m) (by : ℕ)
    (recovering : status_at c (home t) ≡ S.Recovering by) (settled : is_loose c (home t) ≡ false)
    (empty : (log_at c (home t)).tail ≡ [])
    (kept : committed ≡ list_any (commits t) (base_at (log_at c (home t)))) (doubt : x.state ≡ TxnState.Doubt)
    (once : IsDistinct same_txn (ids (txns_at c (home t))))
    (row : Replaces (txns_at c (home t)) table t x (with_state (decided_as committed) x)) where
  abbrev i : ℕ
  i = home t

  abbrev new : Parts
  new = with_table i table c

  table-here : txns_at new i ≡ table
  table-here = item-set no_txns c.txns i table low high g.shape.txns

  table-else : (k : ℕ) → k ≢ i → txns_at new k ≡ txns_at c k
  table-else = item-kept no_txns c.txns i table low

  not-up : (k : ℕ) → status_at c k ≡ S.Up → k ≢ i
  not-up k up e = let clash = sym recovering ∙ ap (status_at c) (sym e) ∙ up in absurd (cc)

  half-there : (moved : Keeps) → Half seen (leaves_by c moved leaves) (log_by c moved) Pending.Idle new m
  half-there moved = let h = g.half moved in record {
    coherent = h.coherent;
    soundly = h.soundly;
    gives = h.gives;
    claimed = h.claimed;
    held = h.held;
    epochs = h.epochs;
    checks = h.checks;
  }

  -- ---- the rows

  abbrev Named : Option Transaction → TxnId → Type 0
  Named o u = NamesLife o (m.part u).life (fate u (base_at (log_at c i))) (fate u (all_at (log_at c i)))

  all-forced : all_at (log_at c i) ≡ base_at (log_at c i)
  all-forced = ap (λ (tail : List Record). base_at (log_at c i) ++ map flat tail) empty ∙ append-nil (base_at (log_at c i))

  was-in-doubt : IsInDoubt (m.part t).life
  was-in-doubt = subst (λ (s : TxnState). StandsAs s (m.part t).life (fate t (base_at (log_at c i)))
      (fate t (all_at (log_at c i)))) doubt
      (subst (λ (o : Option Transaction). Named o t) row.was ((g.instances i low high).names t refl))

  names-here : (u : TxnId) → home u ≡ i → Named (txn_at table u) u
  names-here u own = ⊎_elim
      (λ e. subst (λ (v : TxnId). Named (txn_at table v) v) (sym e)
      (subst (λ (o : Option Transaction). Named o t) (sym row.now)
      (stands-decided committed (m.part t).life t (base_at (log_at c i)) (all_at (log_at c i)) all-forced kept was-in-doubt)))
      (λ ne. subst (λ (o : Option Transaction). Named o u) (sym (row.others u ne)) ((g.instances i low high).names u own))
      (cases_txn u t)

  instance-there : (k : ℕ) → 1 ≤ k → k ≤ 8 → IsInstance new m k
  instance-there k lo hi = let old = g.instances k lo hi in ⊎_elim
      (λ same. subst (IsInstance new m) (sym same) (let here = g.instances i low high in record {
        status = here.status;
        epoch = here.epoch;
        begins = λ up. absurd (not-up i up refl);
        first = here.first;
        own = λ u ne. ap (λ (tb : Transactions). txn_at tb u) table-here ∙ row.others u (λ e. ne (ap home e)) ∙ here.own u ne;
        table = let e = ap (λ (tb : Transactions). tb.epoch) table-here in let s = row.order.same_epoch in let o = here.table in omega (arith, e, s, o);
        names = λ u own. subst (λ (tb : Transactions). Named (txn_at tb u) u) (sym table-here) (names-here u own);
      }))
      (λ ne. record {
        status = old.status;
        epoch = old.epoch;
        begins = subst (λ (tb : Transactions). status_at c k ≡ S.Up → begins_in tb (m.inst k).epoch ≡ (m.inst k).begins)
            (sym (table-else k ne)) old.begins;
        first = old.first;
        own = λ u off. ap (λ (tb : Transactions). txn_at tb u) (table-else k ne) ∙ old.own u off;
        table = subst (λ (tb : Transactions). tb.epoch ≤ (m.inst k).epoch) (sym (table-else k ne)) old.table;
        names = λ u own. subst (λ (tb : Transactions). NamesLife (txn_at tb u) (m.part u).life (fate u (base_at (log_at c k)))
            (fate u (all_at (log_at c k))))
            (sym (table-else k ne)) (old.names u own);
      })
      (cases_eq k i)

  rows-here : IsTold c m i → (u : TxnId) → home u ≡ i → RowIsLogged (txn_at table u) u (all_at (log_at c i))
  rows-here old u own = ⊎_elim
      (λ e. subst (λ (v : TxnId). RowIsLogged (txn_at table v) v (all_at (log_at c i))) (sym e)
      (subst (λ (o : Option Transaction). RowIsLogged o t (all_at (log_at c i))) (sym row.now)
      (logged-as (decided_as committed) x t (all_at (log_at c i))
      (subst (λ (o : Option Transaction). RowIsLogged o t (all_at (log_at c i))) row.was (old.rows t refl)))))
      (λ ne. subst (λ (o : Option Transaction). RowIsLogged o u (all_at (log_at c i))) (sym (row.others u ne)) (old.rows u own))
      (cases_txn u t)

  told-there : (k : ℕ) → IsTold c m k → IsTold new m k
  told-there k old = ⊎_elim
      (λ same. subst (IsTold new m) (sym same) (let here = subst (IsTold c m) same old in
      let records = total-replaced records_owed (txns_at c i) table t x (with_state (decided_as committed) x) once row in
      let bytes = total-replaced bytes_owed (txns_at c i) table t x (with_state (decided_as committed) x) once row in
      record {
        rows = λ u own. subst (λ (tb : Transactions). RowIsLogged (txn_at tb u) u (all_at (log_at c i))) (sym table-here)
            (rows-here here u own);
        owes = ap owed_of table-here ∙ the-same (owed_of table) (records_owed x) (owed_of (txns_at c i)) records ∙ here.owes;
        reserves = ap reserve_of table-here ∙ the-same (reserve_of table) (bytes_owed x) (reserve_of (txns_at c i)) bytes
            ∙ here.reserves;
        spare = λ up. absurd (not-up i up refl);
      }))
      (λ ne. record {
        rows = λ u own. subst (λ (tb : Transactions). RowIsLogged (txn_at tb u) u (all_at (log_at c k))) (sym (table-else k ne))
            (old.rows u own);
        owes = ap owed_of (table-else k ne) ∙ old.owes;
        reserves = ap reserve_of (table-else k ne) ∙ old.reserves;
        spare = old.spare;
      })
      (cases_eq k i)
    where
      the-same : (a b d : ℕ) → a + b ≡ d + b → a ≡ d
      the-same a b d e = omega (arith, e)

  pub decided-good : Good seen leaves Pending.Idle new m
  decided-good = record {
    shape = record {
      logs = g.shape.logs;
      pools = g.shape.pools;
      txns = length-set c.txns (i - 1) table ∙ g.shape.txns;
      statuses = g.shape.statuses;
      epochs = g.shape.epochs;
      masters = g.shape.masters;
      checks = g.shape.checks;
      others = g.shape.others;
      owed = g.shape.owed;
      loose = g.shape.loose;
      own_log = g.shape.own_log;
      own_txns = λ j lo hi. ⊎_elim
          (λ e. subst (λ (k : ℕ). (txns_at new k).inst ≡ k) (sym e)
          (ap (λ (tb : Transactions). tb.inst) table-here ∙ row.order.same_inst ∙ g.shape.own_txns i low high))
          (λ ne. ap (λ (tb : Transactions). tb.inst) (table-else j ne) ∙ g.shape.own_txns j lo hi)
          (cases_eq j i);
    };
    half = half-there;
    places = g.places;
    others = others-still seen leaves Pending.Idle c m g new i settled table-else;
    settled = λ j lo hi e. let s = g.settled j lo hi e in
        record { only = s.only; stands = s.stands; one_place = s.one_place; counted = s.counted; epoch = s.epoch };
    disk_settled = g.disk_settled;
    disk_lsns = g.disk_lsns;
    last = g.last;
    owed = g.owed;
    owed_loose = g.owed_loose;
    kept = g.kept;
    placed = g.placed;
    listed = g.listed;
    marked = g.marked;
    named = g.named;
    numbered = g.numbered;
    recoverers = g.recoverers;
    not_closed = g.not_closed;
    instances = instance-there;
    told = λ k lo hi tells e. told-there k (g.told k lo hi tells e);
    at_rest = g.at_rest;
    begun = g.begun;
    at_work = λ k lo hi up u own free. subst (λ (tb : Transactions). RowIsLive (txn_at tb u) u (m.part u) (all_at (log_at c k)))
        (sym (table-else k (not-up k up))) (g.at_work k lo hi up u own free);
    going = g.going;
    pending = tt;
    locks = g.locks;
    gone = g.gone;
    asks = g.asks;
    checking = λ k b is. let old = g.checking k b is in record { takes = old.takes; spelled = old.spelled; begun = old.begun };
  }
