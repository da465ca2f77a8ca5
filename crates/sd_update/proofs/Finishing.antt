-- A recovery that ends: what held of the complex holds of it then, with the state that the serial table has. For `end_recovery`.
use Rattle.std.proofs.Common.{◌≡◌, ◌≢◌, ◌⊎◌, inl, inr, ⊎_elim, ℕ, ◌-◌, ◌≤◌, Bool, true, false, cond, eqb, List, [], ◌++◌, length, map, refl, sym, ap, ap₂, ◌∙◌, subst, arith, append-nil, eq-eqb, ne_eqb}
use Rattle.std.specs.Prelude.{Option, None, Some, is_some, option_map}
use Rattle.std.specs.List.{IsDistinct, list_any}
use Rattle.std.proofs.lemmas.Bool.{cases_Bool, cases_eq, eqb-true, false_from_ne_true}
use Rattle.std.proofs.lemmas.List.{length-set}
use Rattle.sd_base.specs.declared.ids.TxnId.{TxnId}
use Rattle.sd_base.specs.declared.ids.Rid.{Rid}
use Rattle.sd_base.specs.declared.place.Mode.{Mode}
use Rattle.sd_base.specs.declared.place.Status.{Status}
use Rattle.sd_base.specs.declared.place.Status.TheVariants as S
use Rattle.sd_base.specs.Ids.{same_txn}
use Rattle.sd_logrec.specs.View.{Rec, flat}
use Rattle.sd_logrec.specs.declared.record.Record.{Record}
use Rattle.sd_log.specs.Logs.{LogState}
use Rattle.sd_model.specs.Changes.{AreInDoubt, AreOf, after_recovery, commit_all, swept, swept_part}
use Rattle.sd_model.specs.Finishing as finishing
use Rattle.sd_model.specs.Lives.{IsDoubt, SuitsStatus}
use Rattle.sd_model.specs.State.{Part, State, gone, with_status}
use Rattle.sd_model.specs.Step.{Step}
use Rattle.sd_model.specs.declared.act.Claim.{Claim}
use Rattle.sd_model.specs.declared.act.Inst.{Inst}
use Rattle.sd_model.specs.declared.act.Life.{Life}
use Rattle.sd_model.specs.declared.event.Event.TheVariants.{RecoverStep}
use Rattle.sd_model.specs.declared.event.Reply.TheVariants.{Finished}
use Rattle.sd_model.proofs.Finished.{finished-committed, finished-empty}
use Rattle.sd_model.proofs.Listed.{step-listed}
use Rattle.sd_model.proofs.MarksRun.{step-marked}
use Rattle.sd_model.proofs.PlacedRecovery.{commit_all-inst}
use Rattle.sd_model.proofs.PlacedRun.{step-placed}
use Rattle.sd_model.proofs.Recoverers.{step-recoverers}
use Rattle.sd_model.proofs.Serial.{step-kept}
use Rattle.sd_pagelock.specs.Directory.{asks_at}
use Rattle.sd_reclock.specs.Locks.{LockTable, held}
use Rattle.sd_rig.specs.Devices as rig
use Rattle.sd_txn.specs.Owing.{owed_of, reserve_of}
use Rattle.sd_txn.specs.Transactions.{Transaction, Transactions, begins_in, ids, state_at, txn_at}
use Rattle.sd_txn.specs.declared.state.TxnState.{TxnState}
use Rattle.sd_chain.specs.Cuts.{cut}
use Rattle.sd_chain.specs.Fates.{Fate, commits, fate}
use Rattle.sd_chain.specs.Storage.{Recovered}
use Rattle.sd_chain.specs.Images.{Gives, Keeps, with_disk}
use Rattle.sd_chain.specs.Order.{of_txn}
use Rattle.sd_chain.specs.Records.{Each, IsOpen, home, stack}
use Rattle.sd_chain.proofs.Fates.{committed-fate, fate-committed, fate-open, open-fate}
use Rattle.sd_chain.proofs.Lists.{Each-weaker}
use Rattle.sd_chain.proofs.Whose.{stack-none}
use Rattle.sd_chain.specs.Coherent.{Coherent}
use Rattle.sd_chain.proofs.Statuses.{status-keeps}
use Rattle.sd_chain.specs.Logs.{Outcomes, all_at, base_at, kept_logs, may_of, tail_at, tails_of}
use Rattle.sd_state.specs.Good.{Good, Half, IsInstance, IsOfBegun, IsTold, base_of, dir_of}
use Rattle.sd_state.specs.Images.{IsClaimed, IsEpochOf, IsOpenIn, leaves_by, log_by}
use Rattle.sd_state.specs.Parts.{Parts, is_active, is_loose, is_up, log_at, no_txns, status_at, txns_at, up_as}
use Rattle.sd_base.specs.Standing.{active_as}
use Rattle.sd_state.specs.Recovering.{MayEnd, found_in, is_found, recovered_from, with_recovered, without_rows}
use Rattle.sd_state.specs.Tables.{GoesOn, IsInDoubt, NamedOnce, NamesLife, RowIsLive, RowIsLogged, StandsAs, lock_of, tells_log}
use Rattle.sd_state.specs.Values.{Pending, is_committed, rid_of, values}
use Rattle.sd_state.proofs.ChangedLists.{span-there}
use Rattle.sd_update.proofs.Deciding.{has-row}
use Rattle.sd_state.proofs.Items.{item-kept, item-set}
use Rattle.sd_state.proofs.RecoverDone.{TakesOne, doubt-cut, each-taken, found-among, found-is, mid-else, mid-swept, no-bytes, no-records, none-passes, swept-life, takes-one, values-standing}
use Rattle.sd_state.proofs.Standing.{one-place, others-still}

-- what was read before its recovery began is told, and it isn't up
ended-told : (b : Bool) → tells_log (cond {A = Status} b S.Restarting S.Clean) ≡ true
ended-told true = refl
ended-told false = refl

ended-rests : (b : Bool) → cond {A = Status} b S.Restarting S.Clean ≡ S.Up → ⊥
ended-rests true e = let clash = e in absurd (cc)
ended-rests false e = let clash = e in absurd (cc)

ended-open : (b : Bool) → cond {A = Status} b S.Restarting S.Clean ≡ S.Closed → ⊥
ended-open true e = let clash = e in absurd (cc)
ended-open false e = let clash = e in absurd (cc)

module _ (i : ℕ) (locks : LockTable) (seen : rig.DeviceImages) (leaves : Outcomes) (c : Parts) (m : State) (low : 1 ≤ i) (high : i ≤ 8)
    (g : Good seen leaves Pending.Idle c m) (may : MayEnd i c) (once : IsDistinct same_txn (ids (txns_at c i)))
    (freed : (t : TxnId) (r : Rid) → held locks t r ≡ cond (is_some (txn_at (txns_at c i) t)) None (held c.locks t r)) where
  abbrev new : Parts
  new = with_recovered i locks c

  abbrev table : Transactions
  table = txns_at c i

  abbrev kept : List TxnId
  kept = found_in table

  abbrev mid : State
  mid = commit_all kept m

  abbrev then : State
  then = recovered_from i table m

  abbrev base : List Rec
  base = base_at (log_at c i)

  abbrev is_kept : TxnId → Bool
  is_kept t = is_found (state_at table t)

  told : IsTold c m i
  told = g.told i low high (ap tells_log may.recovering) may.settled

  all-forced : all_at (log_at c i) ≡ base
  all-forced = ap (λ (tail : List Record). base ++ map flat tail) may.no_tail ∙ append-nil base

  -- ---- rows

  named : (t : TxnId) → home t ≡ i
      → NamesLife (txn_at table t) (m.part t).life (fate t base) (fate t (all_at (log_at c i)))
  named t own = (g.instances i low high).names t own

  logged : (t : TxnId) → home t ≡ i → RowIsLogged (txn_at table t) t base
  logged t own = subst (RowIsLogged (txn_at table t) t) all-forced (told.rows t own)

  kept-own : (t : TxnId) → is_kept t ≡ true → home t ≡ i
  kept-own t e = let row = has-row table t TxnState.Committed (found-is (state_at table t) e) in (may.rows t row.x row.row).own

  -- who was found committed is in doubt, and its log has its Commit
  kept-doubt : (t : TxnId) → is_kept t ≡ true → IsInDoubt (m.part t).life × (fate t base ≡ Fate.Committed)
  kept-doubt t e = let row = has-row table t TxnState.Committed (found-is (state_at table t) e) in
      subst (λ (s : TxnState). StandsAs s (m.part t).life (fate t base) (fate t (all_at (log_at c i)))) row.state
      (subst (λ (o : Option Transaction). NamesLife o (m.part t).life (fate t base) (fate t (all_at (log_at c i)))) row.row
      (named t (kept-own t e)))

  is-doubt : (life : Life) → IsInDoubt life → IsDoubt life
  is-doubt life d = subst IsDoubt (sym (doubt-cut life d)) tt

  only : TakesOne is_kept (ids table)
  only = takes-one is_kept (ids table) once (λ u v a b. g.placed.one u v (is-doubt (m.part u).life (kept-doubt u a).0)
      (is-doubt (m.part v).life (kept-doubt v b).0) (kept-own u a ∙ sym (kept-own v b)))

  -- nobody of i is open in the log
  none-open : (t : TxnId) → home t ≡ i → fate t base ≡ Fate.Open → ⊥
  none-open t own is = by (txn_at table t) refl (logged t own)
    where
      by : (o : Option Transaction) → txn_at table t ≡ o → RowIsLogged o t base → ⊥
      by None e r = r is
      by (Some x) e r = ⊎_elim
          (λ l. let clash : true ≡ false = sym (span-there t base ∙ (fate-open t base is).1)
          ∙ ap is_some (sym l.span ∙ (may.rows t x e).span) in absurd (cc))
          (λ s. s.ended (fate-open t base is).0) r

  none-stacked : (t : TxnId) → home t ≡ i → IsOpen t base → stack t base ≡ []
  none-stacked t own opens = ⊎_elim (λ has. absurd (none-open t own (open-fate t base opens has)))
      (λ none. stack-none t base none)
      (cases_Bool (list_any (of_txn t) base))

  -- where none was found, no log of one in doubt has its Commit
  none-found : kept ≡ [] → (t : TxnId) → home t ≡ i → IsDoubt (m.part t).life → fate t base ≢ Fate.Committed
  none-found none t own doubt is = by (txn_at table t) refl (named t own)
    where
      by : (o : Option Transaction) → txn_at table t ≡ o → NamesLife o (m.part t).life (fate t base)
          (fate t (all_at (log_at c i))) → ⊥
      by None e n = subst IsDoubt n doubt
      by (Some x) e n = ⊎_elim
          (λ committed. none-passes is_kept t (ids table) (found-among t x table.unresolved e)
          (ap (λ (o : Option Transaction). is_found (option_map (λ y. y.state) o)) e
          ∙ ap (λ (s : TxnState). is_found (Some s)) committed) none)
          (λ retained. ⊎_elim (λ l. subst IsDoubt l doubt) (λ d. d.1 is)
          (subst (λ (s : TxnState). StandsAs s (m.part t).life (fate t base) (fate t (all_at (log_at c i)))) retained n))
          (may.rows t x e).state

  -- ---- the serial table

  by-is : (m.inst i).status ≡ S.Recovering may.by
  by-is = sym (g.instances i low high).status ∙ may.recovering

  of-i : AreOf i kept
  of-i = each-taken is_kept i (ids table) kept-own

  in-doubt : AreInDoubt m kept
  in-doubt = ⊎_elim (λ e. subst (AreInDoubt m) (sym e) tt)
      (λ r. subst (AreInDoubt m) (sym r.1) (doubt-cut (m.part r.0).life (kept-doubt r.0 r.2).0, tt)) only

  few : length kept ≤ 1
  few = ⊎_elim (λ e. let n = ap length e in omega (arith, n)) (λ r. let n = ap length r.1 in omega (arith, n)) only

  pub step : Step m (RecoverStep i) Finished then
  step = ((λ shut. g.not_closed shut, (λ never. never (may.by, by-is), (tt, (tt, tt)))), (kept, few, of-i, in-doubt, refl))

  pub part-here : (t : TxnId) → home t ≡ i → then.part t ≡ gone
  part-here t own = ap (λ (b : Bool). cond {A = Part} b (swept_part (mid.part t)) (mid.part t)) (eq-eqb i t.inst (sym own))
      ∙ ap (λ (b : Bool). cond {A = Part} b gone (mid.part t)) (mid-swept kept m t (swept-life (m.part t).life may.by
      (subst (λ (s : Status). SuitsStatus (m.part t).life s) (ap (λ (k : ℕ). (m.inst k).status) own ∙ by-is) (g.placed.stands t))))

  pub part-else : (t : TxnId) → home t ≢ i → then.part t ≡ m.part t
  part-else t ne = ap (λ (b : Bool). cond {A = Part} b (swept_part (mid.part t)) (mid.part t)) (ne_eqb i t.inst (λ e. ne (sym e)))
      ∙ mid-else i kept m of-i t ne

  mid-inst : (j : ℕ) → mid.inst j ≡ m.inst j
  mid-inst j = ap (λ (f : ℕ → Inst). f j) (commit_all-inst kept m)

  inst-here : then.inst i ≡ with_status (after_recovery i (m.inst i).status) (m.inst i)
  inst-here = ap (λ (b : Bool). cond {A = Inst} b (with_status (after_recovery i (mid.inst i).status) (mid.inst i))
      (mid.inst i)) (eq-eqb i i refl)
      ∙ ap (λ (x : Inst). with_status (after_recovery i x.status) x) (mid-inst i)

  inst-else : (j : ℕ) → j ≢ i → then.inst j ≡ m.inst j
  inst-else j ne = ap (λ (b : Bool). cond {A = Inst} b (with_status (after_recovery i (mid.inst i).status) (mid.inst i))
      (mid.inst j))
      (ne_eqb i j (λ e. ne (sym e))) ∙ mid-inst j

  -- an instance's epoch and how many joins failed stay
  epochs-stay : (j : ℕ) → ((then.inst j).epoch ≡ (m.inst j).epoch) × ((then.inst j).failed ≡ (m.inst j).failed)
  epochs-stay j = ⊎_elim
      (λ same. subst (λ (k : ℕ). ((then.inst k).epoch ≡ (m.inst k).epoch) × ((then.inst k).failed ≡ (m.inst k).failed)) (sym same)
      (ap (λ (x : Inst). x.epoch) inst-here, ap (λ (x : Inst). x.failed) inst-here))
      (λ ne. (ap (λ (x : Inst). x.epoch) (inst-else j ne), ap (λ (x : Inst). x.failed) (inst-else j ne)))
      (cases_eq j i)

  -- ---- statuses

  status-here : status_at new i ≡ cond {A = Status} (eqb i may.by) S.Restarting S.Clean
  status-here = item-set S.Closed c.statuses i (after_recovery i (status_at c i)) low high g.shape.statuses
      ∙ ap (after_recovery i) may.recovering

  pub status-else : (j : ℕ) → j ≢ i → status_at new j ≡ status_at c j
  status-else = item-kept S.Closed c.statuses i (after_recovery i (status_at c i)) low

  not-up : (k : ℕ) → status_at new k ≡ S.Up → k ≢ i
  not-up k up e = ended-rests (eqb i may.by) (sym status-here ∙ ap (status_at new) (sym e) ∙ up)

  pub table-here : txns_at new i ≡ without_rows table
  table-here = item-set no_txns c.txns i (without_rows table) low high g.shape.txns

  pub table-else : (k : ℕ) → k ≢ i → txns_at new k ≡ txns_at c k
  table-else = item-kept no_txns c.txns i (without_rows table) low

  still-active : (j : ℕ) → is_active c j ≡ true → is_active new j ≡ true
  still-active j active = ⊎_elim
      (λ e. subst (λ (k : ℕ). is_active new k ≡ true) (sym e)
      (let itself : eqb may.by i ≡ true = sym (ap (active_as i) may.recovering)
      ∙ subst (λ (k : ℕ). is_active c k ≡ true) e active in
      ap (active_as i) (status-here ∙ ap (λ (b : Bool). cond {A = Status} b S.Restarting S.Clean)
      (eq-eqb i may.by (sym (eqb-true may.by i itself))))))
      (λ ne. ap (active_as j) (status-else j ne) ∙ active)
      (cases_eq j i)

  was-up : (j : ℕ) → 1 ≤ j → is_up new j ≡ true → (is_up c j ≡ true) ⊎ (is_loose c j ≡ false)
  was-up j lo up = ⊎_elim
      (λ e. inr (subst (λ (k : ℕ). is_loose c k ≡ false) (sym e) may.settled))
      (λ ne. inl (sym (ap up_as (status-else j ne)) ∙ up))
      (cases_eq j i)

  -- ---- wherever logs begin

  module _ (moved : Keeps) where
    abbrev leaves' : Outcomes
    leaves' = leaves_by c moved leaves

    h : Half seen leaves' (log_by c moved) Pending.Idle c m
    h = g.half moved

    abbrev kept_by : Keeps → ℕ → List Rec
    kept_by keeps = kept_logs (tails_of (log_by c moved)) keeps

    one : log_by c moved i ≡ log_at c i
    one = one-place c moved i (g.settled i low high may.settled).one_place

    coherent : Coherent (base_of seen leaves' (log_by c moved) new) (dir_of c)
    coherent = status-keeps (may_of leaves') (base_of seen leaves' (log_by c moved) c) (dir_of c) (is_active new)
        (is_up new) h.coherent
        (λ j active. inl (still-active j active)) was-up

    kept-here : (keeps : Keeps) → kept_by keeps i ≡ base
    kept-here keeps = ap (λ (l : LogState). base_at l ++ cond (keeps i) (tail_at l) []) one
        ∙ ap (λ (tail : List Record). base ++ cond (keeps i) (map flat tail) []) may.no_tail
        ∙ nothing (keeps i)
      where
        nothing : (b : Bool) → base ++ cond {A = List Rec} b [] [] ≡ base
        nothing true = append-nil base
        nothing false = append-nil base

    values-stay : (keeps : Keeps) (p s : ℕ) → values then Pending.Idle (kept_by keeps) p s ≡ values m Pending.Idle
        (kept_by keeps) p s
    values-stay keeps p s = values-standing then (kept_by keeps) p s
        ∙ ⊎_elim
        (λ e. subst (λ (ks : List TxnId). Same ks) (sym e)
        (finished-empty m i f (λ t own doubt. false_from_ne_true (f t)
        (λ is. none-found e t own doubt (committed-fate t base (sym (f-is t own) ∙ is)))) r))
        (λ k. subst (λ (ks : List TxnId). Same ks) (sym k.1)
        (finished-committed m g.kept g.placed i k.0 (kept-own k.0 k.2) (doubt-cut (m.part k.0).life (kept-doubt k.0 k.2).0) f
        (f-is k.0 (kept-own k.0 k.2) ∙ fate-committed k.0 base (kept-doubt k.0 k.2).1) g.listed r))
        only
        ∙ sym (values-standing m (kept_by keeps) p s)
      where
        r : Rid
        r = record { page = p; slot = s }

        f : TxnId → Bool
        f = is_committed (kept_by keeps)

        Same : List TxnId → Type 0
        Same ks = finishing.standing (swept i (commit_all ks m)) f r ≡ finishing.standing m f r

        f-is : (t : TxnId) → home t ≡ i → f t ≡ list_any (commits t) base
        f-is t own = ap (λ (j : ℕ). list_any (commits t) (kept_by keeps j)) own ∙ ap (list_any (commits t)) (kept-here keeps)

    gives : Gives (tails_of (log_by c moved)) (may_of leaves') (λ keeps. values then Pending.Idle (kept_by keeps))
    gives disk all keeps p s = subst (Recovered (cut keeps (with_disk (tails_of (log_by c moved)) disk)) p s)
        (sym (values-stay keeps p s))
        (h.gives disk all keeps p s)

    claimed : (keeps : Keeps) (t : TxnId) → IsOpenIn t (kept_by keeps (home t)) → IsClaimed then t (kept_by keeps (home t))
    claimed keeps t opens = ⊎_elim
        (λ e. absurd (none-open t e (subst (λ (log : List Rec). fate t log ≡ Fate.Open)
        (ap (kept_by keeps) e ∙ kept-here keeps) opens)))
        (λ ne. let old = h.claimed keeps t opens in record {
          there = λ is. old.there (sym (ap (λ (q : Part). q.life) (part-else t ne)) ∙ is);
          claims = subst (λ (q : Part). Each (λ x. q.claims (rid_of x) ≡ Claim.Excl) (stack t (kept_by keeps (home t))))
              (sym (part-else t ne)) old.claims;
        })
        (cases_eq (home t) i)

    held-there : (t : TxnId) → IsOpen t (base_at (log_by c moved (home t)))
        → Each (λ x. (then.part t).claims (rid_of x) ≡ Claim.Excl) (stack t (all_at (log_by c moved (home t))))
    held-there t opens = ⊎_elim
        (λ e.
        let log : log_by c moved (home t) ≡ log_at c i = ap (log_by c moved) e ∙ one in
        let none : stack t (all_at (log_by c moved (home t))) ≡ [] = ap (λ (l : LogState). stack t (all_at l)) log
        ∙ ap (stack t) all-forced
        ∙ none-stacked t e (subst (λ (l : LogState). IsOpen t (base_at l)) log opens) in
        subst (Each (λ x. (then.part t).claims (rid_of x) ≡ Claim.Excl)) (sym none) tt)
        (λ ne. subst (λ (q : Part). Each (λ x. q.claims (rid_of x) ≡ Claim.Excl) (stack t (all_at (log_by c moved (home t)))))
        (sym (part-else t ne)) (h.held t opens))
        (cases_eq (home t) i)

    epoch-same : (j epoch : ℕ) → IsEpochOf m Pending.Idle j epoch → IsEpochOf then Pending.Idle j epoch
    epoch-same j epoch e = let n = (epochs-stay j).0 in let f = (epochs-stay j).1 in let lo = e.low in let hi = e.high in
        record { low = omega (arith, n, lo); high = omega (arith, n, f, hi) }

    half-there : Half seen leaves' (log_by c moved) Pending.Idle new then
    half-there = record {
      coherent = coherent;
      soundly = h.soundly;
      gives = gives;
      claimed = claimed;
      held = held-there;
      epochs = λ j lo hi bytes left. let old = h.epochs j lo hi bytes left in (epoch-same j _ old.0, epoch-same j _ old.1);
      checks = h.checks;
    }

  -- ---- instances

  instance-there : (k : ℕ) → 1 ≤ k → k ≤ 8 → IsInstance new then k
  instance-there k lo hi = let old = g.instances k lo hi in ⊎_elim
      (λ same. subst (IsInstance new then) (sym same) (record {
        status = status-here ∙ sym (ap (λ (x : Inst). x.status) inst-here ∙ ap (after_recovery i) by-is);
        epoch = λ up. absurd (not-up i up refl);
        begins = λ up. absurd (not-up i up refl);
        first = λ up. absurd (not-up i up refl);
        own = λ t ne. ap (λ (tb : Transactions). txn_at tb t) table-here;
        table = let e = ap (λ (tb : Transactions). tb.epoch) table-here in let x = ap (λ (y : Inst). y.epoch) inst-here in
            let o = (g.instances i low high).table in omega (arith, e, x, o);
        names = λ t own. subst (λ (tb : Transactions). NamesLife (txn_at tb t) (then.part t).life (fate t base)
            (fate t (all_at (log_at c i))))
            (sym table-here) (ap (λ (q : Part). q.life) (part-here t own));
      }))
      (λ ne. record {
        status = status-else k ne ∙ old.status ∙ sym (ap (λ (x : Inst). x.status) (inst-else k ne));
        epoch = λ up. old.epoch (sym (status-else k ne) ∙ up) ∙ sym (ap (λ (x : Inst). x.epoch) (inst-else k ne));
        begins = λ up. ap₂ (λ (tb : Transactions) (x : Inst). begins_in tb x.epoch) (table-else k ne) (inst-else k ne)
            ∙ old.begins (sym (status-else k ne) ∙ up) ∙ sym (ap (λ (x : Inst). x.begins) (inst-else k ne));
        first = λ up. let one = old.first (sym (status-else k ne) ∙ up) in let e = ap (λ (x : Inst). x.epoch) (inst-else k ne) in
            omega (arith, one, e);
        own = λ t off. ap (λ (tb : Transactions). txn_at tb t) (table-else k ne) ∙ old.own t off;
        table = let e = ap (λ (tb : Transactions). tb.epoch) (table-else k ne) in let x = ap (λ (y : Inst). y.epoch) (inst-else k ne) in
            let o = old.table in omega (arith, e, x, o);
        names = λ t own. subst (λ (tb : Transactions). NamesLife (txn_at tb t) (then.part t).life
            (fate t (base_at (log_at c k))) (fate t (all_at (log_at c k))))
            (sym (table-else k ne)) (subst (λ (q : Part). NamesLife (txn_at (txns_at c k) t) q.life
            (fate t (base_at (log_at c k))) (fate t (all_at (log_at c k))))
            (sym (part-else t (λ e. ne (sym own ∙ e)))) (old.names t own));
      })
      (cases_eq k i)

  told-here : IsTold new then i
  told-here = record {
    rows = λ t own. subst (λ (tb : Transactions). RowIsLogged (txn_at tb t) t (all_at (log_at c i))) (sym table-here)
        (λ is. none-open t own (subst (λ (log : List Rec). fate t log ≡ Fate.Open) all-forced is));
    owes = ap owed_of table-here ∙ sym (no-records i table.unresolved once may.rows) ∙ told.owes;
    reserves = ap reserve_of table-here ∙ sym (no-bytes i table.unresolved once may.rows) ∙ told.reserves;
    spare = λ up. absurd (not-up i up refl);
  }

  told-else : (k : ℕ) → k ≢ i → IsTold c m k → IsTold new then k
  told-else k ne old = record {
    rows = λ t own. subst (λ (tb : Transactions). RowIsLogged (txn_at tb t) t (all_at (log_at c k))) (sym (table-else k ne))
        (old.rows t own);
    owes = ap owed_of (table-else k ne) ∙ old.owes;
    reserves = ap reserve_of (table-else k ne) ∙ old.reserves;
    spare = λ up. old.spare (sym (status-else k ne) ∙ up);
  }

  told-there : (k : ℕ) → 1 ≤ k → k ≤ 8 → tells_log (status_at new k) ≡ true → is_loose c k ≡ false → IsTold new then k
  told-there k lo hi tells e = ⊎_elim
      (λ same. subst (IsTold new then) (sym same) told-here)
      (λ ne. told-else k ne (g.told k lo hi (sym (ap tells_log (status-else k ne)) ∙ tells) e))
      (cases_eq k i)

  rests-there : (k : ℕ) → 1 ≤ k → k ≤ 8 → tells_log (status_at new k) ≡ false → is_loose c k ≡ false → (log_at c k).tail ≡ []
  rests-there k lo hi tells e = ⊎_elim
      (λ same. subst (λ (j : ℕ). (log_at c j).tail ≡ []) (sym same) may.no_tail)
      (λ ne. g.at_rest k lo hi (sym (ap tells_log (status-else k ne)) ∙ tells) e)
      (cases_eq k i)

  going-there : (t : TxnId) → 1 ≤ home t → home t ≤ 8 → GoesOn Pending.Idle t (then.part t)
      → IsOpen t (all_at (log_at c (home t)))
  going-there t lo hi goes = ⊎_elim
      (λ e. absurd (subst (GoesOn Pending.Idle t) (part-here t e) goes))
      (λ ne. g.going t lo hi (subst (GoesOn Pending.Idle t) (part-else t ne) goes))
      (cases_eq (home t) i)

  named-there : (t : TxnId) → NamedOnce (then.part t).marks
  named-there t = ⊎_elim
      (λ e. subst (λ (q : Part). NamedOnce q.marks) (sym (part-here t e)) tt)
      (λ ne. subst (λ (q : Part). NamedOnce q.marks) (sym (part-else t ne)) (g.named t))
      (cases_eq (home t) i)

  -- who is of i has no lock left, and no other's went
  locks-there : (t : TxnId) (r : Rid) → held locks t r ≡ lock_of ((then.part t).claims r)
  locks-there t r = ⊎_elim
      (λ e. freed t r ∙ by (txn_at table t) refl e ∙ sym (ap (λ (q : Part). lock_of (q.claims r)) (part-here t e)))
      (λ ne. freed t r ∙ other (txn_at table t) refl ne ∙ g.locks t r
      ∙ sym (ap (λ (q : Part). lock_of (q.claims r)) (part-else t ne)))
      (cases_eq (home t) i)
    where
      by : (o : Option Transaction) → txn_at table t ≡ o → home t ≡ i
          → cond {A = Option Mode} (is_some o) None (held c.locks t r) ≡ None
      by None e own = may.unheld t own e r
      by (Some x) e own = refl

      other : (o : Option Transaction) → txn_at table t ≡ o → home t ≢ i
          → cond {A = Option Mode} (is_some o) None (held c.locks t r) ≡ held c.locks t r
      other None e ne = refl
      other (Some x) e ne = absurd (ne (may.rows t x e).own)

  pub recovered-good : Good seen leaves Pending.Idle new then
  recovered-good = record {
    shape = record {
      logs = g.shape.logs;
      pools = g.shape.pools;
      txns = length-set c.txns (i - 1) (without_rows table) ∙ g.shape.txns;
      statuses = length-set c.statuses (i - 1) (after_recovery i (status_at c i)) ∙ g.shape.statuses;
      epochs = g.shape.epochs;
      masters = g.shape.masters;
      checks = g.shape.checks;
      others = g.shape.others;
      owed = g.shape.owed;
      loose = g.shape.loose;
      own_log = g.shape.own_log;
      own_txns = λ j lo hi. ⊎_elim
          (λ e. subst (λ (k : ℕ). (txns_at new k).inst ≡ k) (sym e)
          (ap (λ (tb : Transactions). tb.inst) table-here ∙ g.shape.own_txns i low high))
          (λ ne. ap (λ (tb : Transactions). tb.inst) (table-else j ne) ∙ g.shape.own_txns j lo hi)
          (cases_eq j i);
    };
    half = half-there;
    places = g.places;
    others = others-still seen leaves Pending.Idle c m g new i may.settled table-else;
    settled = λ j lo hi e. let s = g.settled j lo hi e in
        record { only = s.only; stands = s.stands; one_place = s.one_place; counted = s.counted; epoch = s.epoch };
    disk_settled = g.disk_settled;
    disk_lsns = g.disk_lsns;
    last = g.last;
    owed = g.owed;
    owed_loose = g.owed_loose;
    kept = step-kept m (RecoverStep i) Finished then step g.kept;
    placed = step-placed m (RecoverStep i) Finished then step g.placed;
    listed = step-listed m (RecoverStep i) Finished then step g.listed;
    marked = step-marked m (RecoverStep i) Finished then step g.marked;
    named = named-there;
    numbered = λ t there. ⊎_elim
        (λ own. absurd (there (ap (λ (q : Part). q.life) (part-here t own))))
        (λ ne. g.numbered t (λ e. there (ap (λ (q : Part). q.life) (part-else t ne) ∙ e)))
        (cases_eq (home t) i);
    recoverers = step-recoverers m (RecoverStep i) Finished then step g.recoverers;
    not_closed = λ closed. ⊎_elim
        (λ e. ended-open (eqb i may.by) (sym (ap (λ (x : Inst). x.status) (ap then.inst e ∙ inst-here)
        ∙ ap (after_recovery i) by-is) ∙ closed))
        (λ ne. g.not_closed (sym (ap (λ (x : Inst). x.status) (inst-else 1 ne)) ∙ closed))
        (cases_eq 1 i);
    instances = instance-there;
    told = told-there;
    at_rest = rests-there;
    at_work = λ k lo hi up t own free. subst (λ (tb : Transactions). RowIsLive (txn_at tb t) t (then.part t)
        (all_at (log_at c k)))
        (sym (table-else k (not-up k up))) (subst (λ (q : Part). RowIsLive (txn_at (txns_at c k) t) t q (all_at (log_at c k)))
        (sym (part-else t (λ e. not-up k up (sym own ∙ e)))) (g.at_work k lo hi
        (sym (status-else k (not-up k up)) ∙ up) t own free));
    going = going-there;
    begun = λ k lo hi up. subst (λ (x : Inst). Each (IsOfBegun x) (all_at (log_at c k))) (sym (inst-else k (not-up k up)))
        (g.begun k lo hi (sym (status-else k (not-up k up)) ∙ up));
    pending = tt;
    gone = λ t e r. ⊎_elim
        (λ own. ap (λ (q : Part). q.claims r) (part-here t own))
        (λ ne. ap (λ (q : Part). q.claims r) (part-else t ne) ∙ g.gone t (sym (ap (λ (q : Part). q.life) (part-else t ne)) ∙ e) r)
        (cases_eq (home t) i);
    locks = locks-there;
    asks = λ p. Each-weaker _ _ (λ ask a. (still-active ask.by a.0, a.1)) (asks_at c.directory p) (g.asks p);
    checking = λ k b is. let old = g.checking k b is in
        record {
          takes = ⊎_elim
              (λ up. inl (status-else k (λ e. let clash = sym may.recovering ∙ ap (status_at c) (sym e) ∙ up in absurd (cc)) ∙ up))
              (λ re. inr (status-else k (λ e. let clash = sym may.recovering ∙ ap (status_at c) (sym e) ∙ re in absurd (cc)) ∙ re))
              old.takes;
          spelled = old.spelled;
          begun = old.begun;
        };
  }
