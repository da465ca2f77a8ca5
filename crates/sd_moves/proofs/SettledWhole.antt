-- The rest of a complex in which a log is read again. For `settle_log`.
use Rattle.std.proofs.Common.{◌≡◌, ◌≢◌, ◌⊎◌, inl, inr, ⊎_elim, ℕ, ◌-◌, ◌≤◌, true, false, sym, ap, ◌∙◌, subst, arith}
use Rattle.std.specs.Prelude.{None, Option, Some, IfSome}
use Rattle.std.specs.List.{list_any}
use Rattle.std.proofs.lemmas.Bool.{cases_eq}
use Rattle.std.proofs.lemmas.List.{get_or-set_other, get_or-set_same, length-set}
use Rattle.sd_base.specs.Twin.{chosen_body, number_of}
use Rattle.sd_base.specs.declared.ids.TxnId.{TxnId}
use Rattle.sd_base.specs.declared.place.Status.TheVariants as S
use Rattle.sd_logrec.specs.Kept.{master}
use Rattle.sd_log.specs.Logs.{LogState, StandsOn, forced, last_lsn, scanned}
use Rattle.sd_model.specs.Lives.{SuitsStatus}
use Rattle.sd_model.specs.State.{State}
use Rattle.sd_rig.specs.Devices as rig
use Rattle.sd_rig.specs.Devices.{LeavesOnly}
use Rattle.sd_txn.specs.Owing.{owed_of, reserve_of}
use Rattle.sd_txn.specs.Transactions.{Transactions, begins_in, state_at, txn_at}
use Rattle.sd_txn.specs.declared.state.TxnState.{TxnState}
use Rattle.sd_chain.specs.Checks.{Past, owed, reserve}
use Rattle.sd_chain.specs.Fates.{fate}
use Rattle.sd_chain.specs.Records.{Each, IsOpen, home}
use Rattle.sd_chain.specs.Logs.{Outcomes, all_at, base_at, past_at}
use Rattle.sd_chain.specs.Soundly.{LogIsSound}
use Rattle.sd_chain.proofs.Kept.{forced-idle}
use Rattle.sd_state.specs.Good.{Good, IsInstance, IsOfBegun, IsSettledAt, IsTold, OwesAtMost, reaches}
use Rattle.sd_state.specs.Images.{leaves_by, log_by}
use Rattle.sd_state.specs.Parts.{Begun, Parts, check_at, count_at, epoch_at, is_loose, log_at, no_txns, other_at, owed_at, status_at, txns_at}
use Rattle.sd_state.specs.Tables.{GoesOn, NamesLife, RowIsLive, RowIsLogged, tells_log}
use Rattle.sd_state.specs.Values.{Pending}
use Rattle.sd_state.proofs.Items.{item-kept, item-set}
use Rattle.sd_state.proofs.Lasts.{last-sound}
use Rattle.sd_state.proofs.Standing.{no-place}
use Rattle.sd_moves.specs.Settling.{IsReread, with_reread}
use Rattle.sd_moves.proofs.SettledGood.{by-else, by-here, half-there, log-else, log-here, log-kept, other-else, other-here, was_at, unchecked}
use Rattle.sd_moves.proofs.SettledRows.{rests}
use Rattle.sd_moves.proofs.SettledTold.{counted-again, named-again, not-up, own-again, reached-again, told-again}

module _ (i : ℕ) (seen : rig.DeviceImages) (leaves : Outcomes) (c found : Parts) (m : State) (low : 1 ≤ i) (high : i ≤ 8)
    (g : Good seen leaves Pending.Idle c m) (was_loose : is_loose c i ≡ true) (idle : c.due ≡ None)
    (only : LeavesOnly (seen i) (leaves i)) (reads : (d : ℕ) → d ≤ 8 → leaves d (seen d)) (read : IsReread i (seen i) c found) where
  abbrev new' : Parts
  new' = with_reread i found c

  here : log_at new' i ≡ log_at found i
  here = log-here i seen leaves c found m low high g was_loose idle only reads read

  log-others : (j : ℕ) → j ≢ i → log_at new' j ≡ log_at c j
  log-others = log-else i seen leaves c found m low high g was_loose idle only reads read

  txns-here : txns_at new' i ≡ txns_at found i
  txns-here = item-set no_txns c.txns i (txns_at found i) low high g.shape.txns

  txns-else : (j : ℕ) → j ≢ i → txns_at new' j ≡ txns_at c j
  txns-else = item-kept no_txns c.txns i (txns_at found i) low

  was-loose : (j : ℕ) → j ≢ i → is_loose new' j ≡ is_loose c j
  was-loose j ne = get_or-set_other c.loose i j false true ne

  other-loose : (j : ℕ) → is_loose new' j ≡ true → j ≢ i
  other-loose j e same = let clash : false ≡ true = sym (get_or-set_same c.loose i false true (omega (arith, high, g.shape.loose)))
      ∙ ap (is_loose new') (sym same) ∙ e in absurd (cc)

  not_up : status_at c i ≢ S.Up
  not_up = not-up i seen leaves c found m low high g was_loose idle only reads read

  up-other : (j : ℕ) → status_at c j ≡ S.Up → j ≢ i
  up-other j up same = not_up (ap (status_at c) (sym same) ∙ up)

  is-sound : LogIsSound i (seen i) (forced (log_at found i))
  is-sound = subst (λ (l : LogState). LogIsSound i (seen i) (forced l))
      (by-here i seen leaves c found m low high g was_loose idle only reads read (λ j. false))
      ((half-there i seen leaves c found m low high g was_loose idle only reads read (λ j. false)).soundly.ready i low high
      (seen i) left).sound_forced
    where
      left : leaves_by new' (λ j. false) leaves i (seen i)
      left = (
        reads i high,
        no-place (other_at new' i) (λ place. (master (seen i)).start ≡ (log_at new' i).start)
            (other-here i seen leaves c found m low high g was_loose idle only reads read),
      )

  settled-there : (j : ℕ) → 1 ≤ j → j ≤ 8 → is_loose new' j ≡ false → IsSettledAt seen leaves new' j
  settled-there j lo hi e = ⊎_elim
      (λ same. subst (IsSettledAt seen leaves new') (sym same) (record {
        only = only;
        stands = subst (λ (l : LogState). StandsOn l (seen i)) (sym here) read.log.stands;
        one_place = other-here i seen leaves c found m low high g was_loose idle only reads read;
        counted = subst (λ (n : ℕ). IfSome (chosen_body 0 64 (seen i)) (λ body. number_of body ≡ n))
            (sym (item-set 0 c.masters i (count_at found i) low high g.shape.masters))
            (counted-again i seen leaves c found m low high g was_loose idle only reads read);
        epoch = ap (λ (l : LogState). (past_at (master (seen i)) (forced l)).epoch) here
            ∙ ap (λ (l : LogState). (past_at (master (seen i)) l).epoch) (forced-idle (log_at found i) read.log.tail)
            ∙ sym (ap (λ (p : Past). p.epoch) (log-kept i seen leaves c found m low high g was_loose idle only reads read))
            ∙ sym read.epoch ∙ sym (item-set 0 c.epochs i (epoch_at found i) low high g.shape.epochs);
      }))
      (λ ne. let old = g.settled j lo hi (sym (was-loose j ne) ∙ e) in record {
        only = old.only;
        stands = subst (λ (l : LogState). StandsOn l (seen j)) (sym (log-others j ne)) old.stands;
        one_place = other-else i seen leaves c found m low high g was_loose idle only reads read j ne ∙ old.one_place;
        counted = subst (λ (n : ℕ). IfSome (chosen_body 0 64 (seen j)) (λ body. number_of body ≡ n))
            (sym (item-kept 0 c.masters i (count_at found i) low j ne)) old.counted;
        epoch = ap (λ (l : LogState). (past_at (master (seen j)) (forced l)).epoch) (log-others j ne) ∙ old.epoch
            ∙ sym (item-kept 0 c.epochs i (epoch_at found i) low j ne);
      })
      (cases_eq j i)

  last-there : (j : ℕ) → 1 ≤ j → j ≤ 8 → Each (λ x. x.lsn ≤ last_lsn (scanned (log_at new' j))) (all_at (log_at new' j))
  last-there j lo hi = ⊎_elim
      (λ same. subst (λ (k : ℕ). Each (λ x. x.lsn ≤ last_lsn (scanned (log_at new' k))) (all_at (log_at new' k))) (sym same)
      (subst (λ (l : LogState). Each (λ x. x.lsn ≤ last_lsn (scanned l)) (all_at l)) (sym here)
      (last-sound i (seen i) (log_at found i) is-sound)))
      (λ ne. subst (λ (l : LogState). Each (λ x. x.lsn ≤ last_lsn (scanned l)) (all_at l)) (sym (log-others j ne)) (g.last j lo hi))
      (cases_eq j i)

  -- what an instance's table and log have to be
  abbrev are-named : ℕ → Transactions → LogState → Type 0
  are-named k table l = (t : TxnId) → home t ≡ k → NamesLife (txn_at table t) (m.part t).life (fate t (base_at l)) (fate t (all_at l))

  instance-there : (k : ℕ) → 1 ≤ k → k ≤ 8 → IsInstance new' m k
  instance-there k lo hi = let old = g.instances k lo hi in record {
    status = old.status;
    epoch = λ up. item-kept 0 c.epochs i (epoch_at found i) low k (up-other k up) ∙ old.epoch up;
    first = old.first;
    table = ⊎_elim
        (λ e. subst (λ (x : Transactions). x.epoch ≤ (m.inst k).epoch)
        (sym (subst (λ (z : ℕ). txns_at new' z ≡ txns_at found i) (sym e) txns-here))
        (subst (λ (n : ℕ). n ≤ (m.inst k).epoch) (sym read.table.epoch) (omega arith)))
        (λ ne. subst (λ (x : Transactions). x.epoch ≤ (m.inst k).epoch) (sym (txns-else k ne)) old.table)
        (cases_eq k i);
    begins = λ up. ap (λ (x : Transactions). begins_in x (m.inst k).epoch) (txns-else k (up-other k up)) ∙ old.begins up;
    own = λ t ne. ⊎_elim
        (λ e. ap (λ (x : Transactions). txn_at x t) (subst (λ (z : ℕ). txns_at new' z ≡ txns_at found i) (sym e) txns-here)
        ∙ own-again i seen leaves c found m low high g was_loose idle only reads read t (λ h. ne (h ∙ sym e)))
        (λ off. ap (λ (x : Transactions). txn_at x t) (txns-else k off) ∙ old.own t ne)
        (cases_eq k i);
    names = ⊎_elim
        (λ e. subst (λ (z : ℕ). are-named z (txns_at new' z) (log_at new' z)) (sym e)
        (subst (λ (x : Transactions). are-named i x (log_at new' i)) (sym txns-here)
        (subst (are-named i (txns_at found i)) (sym here)
        (named-again i seen leaves c found m low high g was_loose idle only reads read))))
        (λ ne. subst (λ (x : Transactions). are-named k x (log_at new' k)) (sym (txns-else k ne))
        (subst (are-named k (txns_at c k)) (sym (log-others k ne)) old.names))
        (cases_eq k i);
  }

  told-there : (k : ℕ) → 1 ≤ k → k ≤ 8 → tells_log (status_at new' k) ≡ true → is_loose new' k ≡ false → IsTold new' m k
  told-there k lo hi tells e = ⊎_elim
      (λ same. subst (IsTold new' m) (sym same) (told-again i seen leaves c found m low high g was_loose idle only reads read))
      (λ ne. let old = g.told k lo hi tells (sym (was-loose k ne) ∙ e) in record {
        rows = λ t is. subst (λ (x : Transactions). RowIsLogged (txn_at x t) t (all_at (log_at new' k))) (sym (txns-else k ne))
            (subst (λ (l : LogState). RowIsLogged (txn_at (txns_at c k) t) t (all_at l)) (sym (log-others k ne)) (old.rows t is));
        owes = ap owed_of (txns-else k ne) ∙ old.owes ∙ sym (ap (λ (l : LogState). owed (all_at l)) (log-others k ne));
        reserves = ap reserve_of (txns-else k ne) ∙ old.reserves ∙ sym (ap (λ (l : LogState). reserve (all_at l)) (log-others k ne));
        spare = λ up. subst (λ (l : LogState). reserve (all_at l) ≤ l.spare) (sym (log-others k ne)) (old.spare up);
      })
      (cases_eq k i)

  going-there : (t : TxnId) → 1 ≤ home t → home t ≤ 8 → GoesOn Pending.Idle t (m.part t) → IsOpen t (all_at (log_at new' (home t)))
  going-there t lo hi goes = ⊎_elim
      (λ e. absurd (rests t (m.part t) (status_at c i) not_up (subst (SuitsStatus (m.part t).life)
      (sym (g.instances (home t) lo hi).status ∙ ap (status_at c) e) (g.placed.stands t)) goes))
      (λ ne. subst (λ (l : LogState). IsOpen t (all_at l)) (sym (log-others (home t) ne)) (g.going t lo hi goes))
      (cases_eq (home t) i)

  pub reread-good : Good seen leaves Pending.Idle new' m
  reread-good = record {
    shape = record {
      logs = length-set c.logs (i - 1) (log_at found i) ∙ g.shape.logs;
      pools = g.shape.pools;
      txns = length-set c.txns (i - 1) (txns_at found i) ∙ g.shape.txns;
      statuses = g.shape.statuses;
      epochs = length-set c.epochs (i - 1) (epoch_at found i) ∙ g.shape.epochs;
      masters = length-set c.masters (i - 1) (count_at found i) ∙ g.shape.masters;
      checks = g.shape.checks;
      others = length-set {A = Option ℕ} c.others (i - 1) None ∙ g.shape.others;
      owed = length-set c.owed (i - 1) (owed_at found i) ∙ g.shape.owed;
      loose = length-set c.loose i false ∙ g.shape.loose;
      own_log = λ j lo hi. ⊎_elim
          (λ e. subst (λ (k : ℕ). (log_at new' k).inst ≡ k) (sym e) (ap (λ (l : LogState). l.inst) here ∙ read.inst))
          (λ ne. ap (λ (l : LogState). l.inst) (log-others j ne) ∙ g.shape.own_log j lo hi)
          (cases_eq j i);
      own_txns = λ j lo hi. ⊎_elim
          (λ e. subst (λ (k : ℕ). (txns_at new' k).inst ≡ k) (sym e) (ap (λ (x : Transactions). x.inst) txns-here ∙ read.table.inst))
          (λ ne. ap (λ (x : Transactions). x.inst) (txns-else j ne) ∙ g.shape.own_txns j lo hi)
          (cases_eq j i);
    };
    half = half-there i seen leaves c found m low high g was_loose idle only reads read;
    places = λ j place other bytes left. ⊎_elim
        (λ e. let clash : None ≡ Some place = sym (other-here i seen leaves c found m low high g was_loose idle only reads read)
        ∙ sym (ap (other_at new') e) ∙ other in absurd (cc))
        (λ ne. subst (λ (l : LogState). ((master bytes).start ≡ place) ⊎ ((master bytes).start ≡ l.start)) (sym (log-others j ne))
        (g.places j place (sym (other-else i seen leaves c found m low high g was_loose idle only reads read j ne) ∙ other) bytes left))
        (cases_eq j i);
    others = λ j place lo hi two t is. ⊎_elim
        (λ e. let clash : None ≡ Some place = sym (other-here i seen leaves c found m low high g was_loose idle only reads read)
        ∙ sym (ap (other_at new') e) ∙ two in absurd (cc))
        (λ ne. let was = g.others j place lo hi
        (sym (other-else i seen leaves c found m low high g was_loose idle only reads read j ne) ∙ two) t is in
        subst (λ (x : Transactions). state_at x t ≢ Some TxnState.Committed) (sym (txns-else j ne)) was)
        (cases_eq j i);
    settled = settled-there;
    disk_settled = λ e. g.disk_settled (sym (was-loose 0 (λ z. omega (arith, low, z))) ∙ e);
    disk_lsns = λ moved p x may. ⊎_elim (λ le. inl le)
        (λ at. inr (
          at.0,
          at.1,
          at.2,
          ⊎_elim
              (λ e. subst (λ (k : ℕ). list_any (reaches x.lsn) (base_at (log_by new' moved k)) ≡ true) (sym e)
              (ap (λ (l : LogState). list_any (reaches x.lsn) (base_at l))
              (by-here i seen leaves c found m low high g was_loose idle only reads read moved)
              ∙ reached-again i seen leaves c found m low high g was_loose idle only reads read (reaches x.lsn) moved
              (subst (λ (k : ℕ). list_any (reaches x.lsn) (base_at (log_by c (was_at i (seen i) c moved) k)) ≡ true) e at.3)))
              (λ ne. subst (λ (l : LogState). list_any (reaches x.lsn) (base_at l) ≡ true)
              (sym (by-else i seen leaves c found m low high g was_loose idle only reads read moved at.0 ne)) at.3)
              (cases_eq at.0 i),
        ))
        (g.disk_lsns (was_at i (seen i) c moved) p x may);
    last = last-there;
    owed = λ j lo hi e. ⊎_elim
        (λ same. subst (λ (k : ℕ). owed_at new' k ≡ owed (base_at (log_at new' k))) (sym same)
        (item-set 0 c.owed i (owed_at found i) low high g.shape.owed ∙ read.owed ∙ sym (ap (λ (l : LogState). owed (base_at l)) here)))
        (λ ne. item-kept 0 c.owed i (owed_at found i) low j ne ∙ g.owed j lo hi (sym (was-loose j ne) ∙ e)
        ∙ sym (ap (λ (l : LogState). owed (base_at l)) (log-others j ne)))
        (cases_eq j i);
    owed_loose = λ moved j lo hi e. let ne = other-loose j e in
        subst (λ (n : ℕ). OwesAtMost n (log_by new' moved j)) (sym (item-kept 0 c.owed i (owed_at found i) low j ne))
        (subst (OwesAtMost (owed_at c j))
        (sym (by-else i seen leaves c found m low high g was_loose idle only reads read moved j ne))
        (g.owed_loose (was_at i (seen i) c moved) j lo hi (sym (was-loose j ne) ∙ e)));
    kept = g.kept;
    placed = g.placed;
    listed = g.listed;
    marked = g.marked;
    named = g.named;
    numbered = g.numbered;
    recoverers = g.recoverers;
    not_closed = g.not_closed;
    instances = instance-there;
    told = told-there;
    at_rest = λ k lo hi tells e. ⊎_elim
        (λ same. ap (λ (z : ℕ). (log_at new' z).tail) same ∙ ap (λ (l : LogState). l.tail) here ∙ read.log.tail)
        (λ ne. ap (λ (l : LogState). l.tail) (log-others k ne) ∙ g.at_rest k lo hi tells (sym (was-loose k ne) ∙ e))
        (cases_eq k i);
    begun = λ k lo hi up. subst (λ (l : LogState). Each (IsOfBegun (m.inst k)) (all_at l)) (sym (log-others k (up-other k up))) (g.begun k lo hi up);
    at_work = λ k lo hi up t is free. subst (λ (x : Transactions). RowIsLive (txn_at x t) t (m.part t) (all_at (log_at new' k)))
        (sym (txns-else k (up-other k up)))
        (subst (λ (l : LogState). RowIsLive (txn_at (txns_at c k) t) t (m.part t) (all_at l)) (sym (log-others k (up-other k up)))
        (g.at_work k lo hi up t is free));
    going = going-there;
    pending = tt;
    gone = g.gone;
    locks = g.locks;
    asks = g.asks;
    checking = λ k b is. let old = g.checking k b is in record {
      takes = old.takes;
      spelled = old.spelled;
      begun = subst (λ (l : LogState). b.begin ≤ last_lsn (scanned l)) (sym (log-others k (λ e. let clash : None ≡ Some b = sym (unchecked i seen leaves c found m low high g was_loose idle only reads read)
          ∙ ap (check_at c) (sym e) ∙ is in absurd (cc)))) old.begun;
    };
  }
