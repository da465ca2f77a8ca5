-- What the invariant says of an instance whose log isn't settled, and of what is read of it: its table names whom it named, and
-- tells of the log. For `settle_log`.
use Rattle.std.proofs.Common.{◌≡◌, ◌≢◌, ◌⊎◌, inl, inr, ⊎_elim, ℕ, ◌≤◌, Bool, true, false, cond, ◌||◌, List, [], ◌++◌, map, refl, sym, ap, ◌∙◌, subst, arith, append-nil}
use Rattle.std.specs.Prelude.{None, Option, Some, IfSome, IsSome, option_map}
use Rattle.std.specs.List.{list_any}
use Rattle.std.proofs.lemmas.List.Folds.{list_any-append}
use Rattle.sd_base.specs.Twin.{chosen_body, number_of}
use Rattle.sd_base.specs.declared.ids.TxnId.{TxnId}
use Rattle.sd_base.specs.declared.place.Status.TheVariants as S
use Rattle.sd_rig.proofs.Numbers.{number_of-take}
use Rattle.sd_logrec.specs.Kept.{master, master_of}
use Rattle.sd_logrec.specs.View.{Rec, flat}
use Rattle.sd_logrec.specs.declared.record.Record.{Record}
use Rattle.sd_log.specs.Logs.{LogState}
use Rattle.sd_model.specs.State.{State}
use Rattle.sd_model.specs.declared.act.Life.{Life}
use Rattle.sd_rig.specs.Devices as rig
use Rattle.sd_rig.specs.Devices.{LeavesOnly}
use Rattle.sd_txn.specs.Owing.{owed_of, reserve_of}
use Rattle.sd_txn.specs.Transactions.{Transaction, Transactions, txn_at}
use Rattle.sd_txn.specs.declared.state.TxnState.{TxnState}
use Rattle.sd_chain.specs.Bytes.{log_of, records_of}
use Rattle.sd_chain.specs.Checks.{DevicesAreSound, owed, reserve}
use Rattle.sd_chain.specs.Fates.{Fate, commits, fate}
use Rattle.sd_chain.specs.Images.{Keeps}
use Rattle.sd_chain.specs.Order.{of_txn, speaks}
use Rattle.sd_chain.specs.Records.{home}
use Rattle.sd_chain.proofs.Fates.{committed-fate, committed-stays, fate-committed, open-fate}
use Rattle.sd_chain.proofs.Lists.{Each-weaker}
use Rattle.sd_chain.proofs.Members.{open_in-is}
use Rattle.sd_chain.proofs.Soundly.{sound-opens}
use Rattle.sd_chain.proofs.Whose.{both, own_is}
use Rattle.sd_chain.proofs.OneUpdater.{up-settled}
use Rattle.sd_chain.specs.Logs.{Outcomes, all_at, base_at, kept_logs, may_of, tail_at, tails_of}
use Rattle.sd_chain.proofs.Kept.{kept-is, log-here}
use Rattle.sd_state.specs.Good.{Good, IsTold, base_of, dir_of}
use Rattle.sd_state.specs.Images.{leaves_by, log_by}
use Rattle.sd_state.specs.Parts.{Begun, Parts, check_at, count_at, is_loose, log_at, no_log, no_txns, other_at, status_at, txns_at, up_as}
use Rattle.sd_state.specs.Tables.{NamesLife, RowIsLogged}
use Rattle.sd_state.specs.Values.{Pending}
use Rattle.sd_state.proofs.Items.{item-set}
use Rattle.sd_state.proofs.Standing.{left-stands, one-place}
use Rattle.sd_moves.proofs.OpenedAgain.{any-gives}
use Rattle.sd_moves.specs.Settling.{HasOpen, IsReread, row_again, with_reread}
use Rattle.sd_moves.proofs.SettledGood.{base-read, by-here, half-kept, half-there, was_at}
use Rattle.sd_moves.proofs.SettledPlaces.{by-tail, by-within}
use Rattle.sd_moves.proofs.SettledRows.{IsFound, names-again, names-later, row-told}

either : (a b : Bool) → (a || b) ≡ true → (a ≡ true) ⊎ (b ≡ true)
either true b e = inl refl
either false b e = inr e

or-left : (a b : Bool) → a ≡ true → (a || b) ≡ true
or-left true b e = refl
or-left false b e = absurd (cc)

or-right : (a b : Bool) → b ≡ true → (a || b) ≡ true
or-right true b e = refl
or-right false b e = e

-- a part that may be kept has none but what is there
any-kept : (test : Rec → Bool) (b : Bool) (xs : List Rec) → list_any test (cond b xs []) ≡ true → list_any test xs ≡ true
any-kept test true xs e = e
any-kept test false xs e = absurd (cc)

is-found : (o : Option Transaction) → IsFound o → option_map (λ (x : Transaction). x.state) o ≡ Some TxnState.Committed
is-found None h = absurd h
is-found (Some x) h = ap (λ (s : TxnState). Some s) h

unresolved : (o : Option Transaction) → (o ≡ None → ⊥) → IsSome o
unresolved None some = absurd (some refl)
unresolved (Some x) some = refl

-- the number of a master that counts
counted-by : (o : Option (List ℕ)) → IfSome o (λ body. number_of body ≡ (master_of o).count)
counted-by None = tt
counted-by (Some body) = sym (number_of-take 8 body (omega arith))

module _ (i : ℕ) (seen : rig.DeviceImages) (leaves : Outcomes) (c found : Parts) (m : State) (low : 1 ≤ i) (high : i ≤ 8)
    (g : Good seen leaves Pending.Idle c m) (was_loose : is_loose c i ≡ true) (idle : c.due ≡ None)
    (only : LeavesOnly (seen i) (leaves i)) (reads : (d : ℕ) → d ≤ 8 → leaves d (seen d)) (read : IsReread i (seen i) c found) where
  -- an instance that is up has a settled log
  pub not-up : status_at c i ≢ S.Up
  not-up up = let settled = up-settled (may_of (leaves_by c (λ j. false) leaves))
      (base_of seen (leaves_by c (λ j. false) leaves) (log_by c (λ j. false)) c) (dir_of c) (g.half (λ j. false)).coherent idle i low
      (ap up_as up) in
      let clash : true ≡ false = sym was_loose ∙ settled in absurd (cc)

  abbrev new : Parts
  new = with_reread i found c

  abbrev log' : LogState
  log' = log_at found i

  abbrev base : List Rec
  base = base_at log'

  pub all-read : all_at log' ≡ base
  all-read = ap (λ (rs : List Record). base ++ map flat rs) read.log.tail ∙ append-nil base

  abbrev row : TxnId → Option Transaction
  row t = txn_at (txns_at c i) t

  -- where all else begins as it does in memory
  abbrev still : Keeps
  still = λ j. false

  abbrev before : LogState
  before = log_by c (was_at i (seen i) c still) i

  -- with the tail or without
  abbrev with_tail : Bool
  with_tail = (half-kept i seen leaves c found m low high g was_loose idle only reads read still)

  parts : base ≡ base_at before ++ cond with_tail (tail_at before) []
  parts = base-read i seen leaves c found m low high g was_loose idle only reads read still

  -- what is read was in memory
  pub within : (test : Rec → Bool) → list_any test base ≡ true → list_any test (all_at (log_at c i)) ≡ true
  within test e = list_any-append test (base_at (log_at c i)) (tail_at (log_at c i)) ∙ ⊎_elim
      (λ b. or-left (list_any test (base_at (log_at c i))) (list_any test (tail_at (log_at c i)))
      (by-within test c (was_at i (seen i) c still) i b))
      (λ t. or-right (list_any test (base_at (log_at c i))) (list_any test (tail_at (log_at c i)))
      (ap (list_any test) (sym (by-tail c (was_at i (seen i) c still) i)) ∙ any-kept test with_tail (tail_at before) t))
      (either (list_any test (base_at before)) (list_any test (cond with_tail (tail_at before) []))
      (sym (list_any-append test (base_at before) (cond with_tail (tail_at before) [])) ∙ ap (list_any test) (sym parts) ∙ e))

  -- a Commit that was forced is read, of one that was found
  found-stays : (t : TxnId) → home t ≡ i → IsFound (row t) → fate t (base_at (log_at c i)) ≡ Fate.Committed → fate t base ≡ Fate.Committed
  found-stays t is h e = by (other_at c i) refl
    where
      by : (o : Option ℕ) → other_at c i ≡ o → fate t base ≡ Fate.Committed
      by None one = ap (fate t) parts ∙ committed-stays t (base_at before) (cond with_tail (tail_at before) [])
          (ap (λ (l : LogState). fate t (base_at l)) (one-place c (was_at i (seen i) c still) i one) ∙ e)
      by (Some place) two = absurd (g.others i place low high two t is (is-found (row t) h))

  -- The table names whom it named.
  pub named-again : (t : TxnId) → home t ≡ i
      → NamesLife (txn_at (txns_at found i) t) (m.part t).life (fate t base) (fate t (all_at log'))
  named-again t is = subst (λ (xs : List Rec). NamesLife (txn_at (txns_at found i) t) (m.part t).life (fate t base) (fate t xs))
      (sym all-read)
      (subst (λ (o : Option Transaction). NamesLife o (m.part t).life (fate t base) (fate t base)) (sym (read.table.rows t))
      (names-again (row t) base t (m.part t).life (fate t base) (fate t base)
      (names-later (row t) (m.part t).life (fate t (base_at (log_at c i))) (fate t (all_at (log_at c i))) (fate t base)
      (λ e. committed-fate t (all_at (log_at c i)) (within (commits t) (fate-committed t base e)))
      (found-stays t is) ((g.instances i low high).names t is))))

  -- and nobody of another instance
  pub own-again : (t : TxnId) → home t ≢ i → txn_at (txns_at found i) t ≡ None
  own-again t ne = read.table.rows t ∙ ap (row_again base t) ((g.instances i low high).own t ne)

  -- Whom the log leaves open the table has.
  has-open : (t : TxnId) → home t ≡ i → fate t base ≡ Fate.Open → row t ≡ None → ⊥
  has-open t is opens none =
      let gone : (m.part t).life ≡ Life.Gone = subst (λ (o : Option Transaction). NamesLife o (m.part t).life
      (fate t (base_at (log_at c i))) (fate t (all_at (log_at c i)))) none ((g.instances i low high).names t is) in
      let half = half-there i seen leaves c found m low high g was_loose idle only reads read still in
      let there = half.claimed still t (subst (λ (k : ℕ). fate t (kept_logs (tails_of (log_by new still)) still k) ≡ Fate.Open) (sym is)
      (ap (λ (l : LogState). fate t (base_at l ++ [])) (by-here i seen leaves c found m low high g was_loose idle only reads read still)
      ∙ ap (fate t) (append-nil base) ∙ opens)) in
      there.there gone

  log-is : log_of seen i ≡ base
  log-is = log-here seen i low high ∙ ap records_of (kept-is log' (seen i) (sym read.log.start) read.log.stands)

  -- its transactions are of its instance
  of-log : (t : TxnId) → list_any (of_txn t) base ≡ true → home t ≡ i
  of-log t there = any-gives (home t ≡ i) (of_txn t) (log_of seen i)
      (Each-weaker (λ x. speaks x.kind ≡ true → home x.txn ≡ i) (λ x. of_txn t x ≡ true → home t ≡ i)
      (λ x h is. subst (λ (u : TxnId). home u ≡ i) (own_is t x is) (h (both (speaks x.kind) _ is).0)) (log_of seen i)
      ((sound-opens seen sound).1.own i))
      (ap (list_any (of_txn t)) log-is ∙ there)
    where
      sound : DevicesAreSound seen
      sound = (left-stands leaves seen seen Pending.Idle c m g reads).sound

  has-all : HasOpen base (txns_at c i)
  has-all t member = let open_one = open_in-is t base member in
      unresolved (row t) (has-open t (of-log t open_one.1) (open-fate t base open_one.0 open_one.1))

  -- So it tells of the log.
  pub told-again : IsTold new m i
  told-again = record {
    rows = λ t is. subst (λ (x : Transactions). RowIsLogged (txn_at x t) t (all_at (log_at new i))) (sym txns-here)
        (subst (λ (xs : List Rec). RowIsLogged (txn_at (txns_at found i) t) t xs) (sym all-here)
        (subst (λ (o : Option Transaction). RowIsLogged o t base) (sym (read.table.rows t))
        (row-told (row t) base t (λ none opens. has-open t is opens none))));
    owes = ap owed_of txns-here ∙ read.table.owes has-all ∙ sym (ap owed all-here);
    reserves = ap reserve_of txns-here ∙ read.table.reserves has-all ∙ sym (ap reserve all-here);
    spare = λ up. absurd (not-up up);
  }
    where
      txns-here : txns_at new i ≡ txns_at found i
      txns-here = item-set no_txns c.txns i (txns_at found i) low high g.shape.txns

      all-here : all_at (log_at new i) ≡ base
      all-here = ap all_at (item-set no_log c.logs i log' low high g.shape.logs) ∙ all-read

  -- the count of the master is known
  pub counted-again : IfSome (chosen_body 0 64 (seen i)) (λ body. number_of body ≡ count_at found i)
  unfolding master
  counted-again = subst (λ (n : ℕ). IfSome (chosen_body 0 64 (seen i)) (λ body. number_of body ≡ n)) (sym read.count)
      (counted-by (chosen_body 0 64 (seen i)))

  -- and what was known of the records that were forced, of those that are
  pub reached-again : (test : Rec → Bool) (moved : Keeps) → list_any test (base_at (log_by c (was_at i (seen i) c moved) i)) ≡ true
      → list_any test base ≡ true
  reached-again test moved e =
      let l : LogState = log_by c (was_at i (seen i) c moved) i in
      let kept : Bool = half-kept i seen leaves c found m low high g was_loose idle only reads read moved in
      ap (list_any test) (base-read i seen leaves c found m low high g was_loose idle only reads read moved)
      ∙ list_any-append test (base_at l) (cond kept (tail_at l) [])
      ∙ or-left (list_any test (base_at l)) (list_any test (cond kept (tail_at l) [])) e
