-- Records without a page that come to a log, by what they are: for the laws of `sealing`.
use Rattle.std.proofs.Common.{◌<◌, ◌≡◌, ◌≢◌, ℕ, ◌+◌, ◌-◌, ◌≤◌, Bool, true, false, cond, eqb, List, [], ◌∷◌, ◌++◌, ◌||◌, ◌&&◌, inl, inr, slice_set, refl, sym, ap, ap₂, ◌∙◌, subst, arith, ⊎_elim, eq-eqb}
use Rattle.std.specs.Prelude.{Option, None, Some, filter, leb, length, map, option_map, reverse, if◌then◌else◌, ◌==◌}
use Rattle.std.specs.List.{list_any}
use Rattle.std.proofs.lemmas.List.{length-set}
use Rattle.std.proofs.lemmas.List.Folds.{list_any-append}
use Rattle.sd_base.specs.declared.ids.TxnId.{TxnId}
use Rattle.sd_base.specs.declared.place.Status.{Status}
use Rattle.sd_base.specs.declared.place.Status.TheVariants as S
use Rattle.sd_base.specs.Ids.{same_txn}
use Rattle.sd_base.proofs.SameIds.{cases_txn, eq-same}
use Rattle.sd_logrec.specs.Kept.{master}
use Rattle.sd_logrec.specs.View.{Kind, Rec, flat}
use Rattle.sd_logrec.specs.View.Kind.{Plain}
use Rattle.sd_logrec.specs.declared.record.Record.{Record}
use Rattle.sd_logrec.specs.declared.record.Record.TheVariants as records
use Rattle.sd_log.specs.Logs.{LogState, forced, with_record}
use Rattle.sd_model.specs.Acts.{live}
use Rattle.sd_model.specs.Lives.{MayRun, SuitsStatus}
use Rattle.sd_model.specs.State.{State}
use Rattle.sd_model.specs.declared.act.Life.{Life}
use Rattle.sd_rig.specs.Devices as rig
use Rattle.sd_txn.specs.Marked.{AreMarks}
use Rattle.sd_txn.specs.Owing.{bytes_owed, owed_of, records_owed, reserve_of}
use Rattle.sd_txn.specs.Transactions.{Transaction, Transactions, depth, shut, state_at, txn_at}
use Rattle.sd_txn.specs.declared.state.OpenRec.{OpenRec}
use Rattle.sd_txn.specs.declared.state.TxnState.{TxnState}
use Rattle.sd_txn.proofs.Stacks.{popped-empty}
use Rattle.sd_chain.specs.Checks.{owed, reserve}
use Rattle.sd_chain.specs.Fates.{Fate, commits, fate, is_commit}
use Rattle.sd_chain.specs.Cuts.{cut}
use Rattle.sd_chain.specs.Storage.{Recovered}
use Rattle.sd_chain.specs.Images.{Gives, Grows, Keeps, log, with_disk}
use Rattle.sd_chain.specs.Order.{of_txn, speaks}
use Rattle.sd_chain.specs.Records.{Each, IsOpen, changes, ends, home, stack}
use Rattle.sd_chain.proofs.Fates.{fate-others}
use Rattle.sd_chain.proofs.Images as images
use Rattle.sd_chain.proofs.Lists.{Each-append, Each-front}
use Rattle.sd_chain.proofs.Whose.{other_of, silent_of}
use Rattle.sd_chain.specs.Soundly.{LogIsSound}
use Rattle.sd_chain.specs.Appends.{Appends, IsEnd}
use Rattle.sd_chain.specs.Logs.{HasRecord, Outcomes, all_at, base_at, kept_logs, may_of, next_lsn, past_at, tails_of}
use Rattle.sd_chain.proofs.Next.{own-begun, epoch-others, epoch-start, speaks-no_start}
use Rattle.sd_chain.proofs.Owing.{ends-speaks, plain-owes}
use Rattle.sd_chain.proofs.Reserved.{end-keeps, tested-keeps}
use Rattle.sd_state.specs.Good.{IsOlder, Good, Half, IsTold, IsUnderWay, base_of}
use Rattle.sd_state.specs.Images.{IsEpochOf, leaves_by, log_by}
use Rattle.sd_state.specs.Parts.{Parts, among, epoch_at, log_at, no_txns, other_at, status_at, txns_at}
use Rattle.sd_update.specs.Sealing.{CheckSeals, CommitSeals, EndSeals, IsShutBy, IsTestedFor, MaySeal, StartSeals, with_last, with_more}
use Rattle.sd_state.specs.Tables.{GoesOn, IsInDoubt, NamesLife, RowIsLive, RowIsLogged, StandsAs, goes_on_as}
use Rattle.sd_state.specs.Values.{Pending, is_doubt, open_of, put_of, values}
use Rattle.sd_state.proofs.ChangedLists.{span-other}
use Rattle.sd_state.proofs.Items.{item-kept, item-same, item-set}
use Rattle.sd_state.proofs.WorkingTurns.{there-of}
use Rattle.sd_update.proofs.Sealed.{grows, stack-same, values-stay, with_came}
use Rattle.sd_update.proofs.SealedCommits.{commits-it}
use Rattle.sd_update.proofs.SealedGood as sealed
use Rattle.sd_update.proofs.SealedGood.{IsSealing, sealed-good}
use Rattle.sd_update.proofs.SealedTold.{Falls, no-page, off-other, stack-is, tells, there as row-there, was as row-was}
use Rattle.sd_state.proofs.Standing.{no-place, one-place}

-- ---- the end of a transaction: no refusal

-- who may have further records by what is asked of those that run may by what follows from it
goes-by : (life : Life) (runs runs' rolls : Type 0) → (runs → runs') → goes_on_as life runs rolls → goes_on_as life runs' rolls
goes-by Life.Gone runs runs' rolls f h = h
goes-by Life.Running runs runs' rolls f h = f h
goes-by Life.Retained runs runs' rolls f h = h
goes-by (Life.Rolling None) runs runs' rolls f h = h
goes-by (Life.Rolling (Some n)) runs runs' rolls f h = h
goes-by (Life.Doubt cut) runs runs' rolls f h = h

module _ (i spare : ℕ) (y : Record) (x : Transaction) (table : Transactions) (pend pend' : Pending) (c : Parts) (m : State)
    (eight : length c.epochs ≡ 8) (may : MaySeal i y c) (it_ends : ends (flat y).kind ≡ true) (by : IsShutBy i y x spare table c) where
  -- the rows of others
  mark-others : (t : TxnId) → t ≢ (flat y).txn → option_map (λ (z : Transaction). z.marks) (txn_at table t)
      ≡ option_map (λ (z : Transaction). z.marks) (txn_at (txns_at c i) t)
  mark-others t ne = ap (option_map (λ (z : Transaction). z.marks)) (by.row.others t ne)

  sealing-end : ((t : TxnId) → (pend' ≡ Pending.Commits t → ⊥) → pend ≡ Pending.Commits t → ⊥)
      → ((t : TxnId) → (pend' ≡ Pending.Commits t → ⊥) → t ≡ (flat y).txn → (shut x).marks ≡ x.marks)
      → ((t : TxnId) → GoesOn pend' t (m.part t) → GoesOn pend t (m.part t))
      → (GoesOn pend' (flat y).txn (m.part (flat y).txn) → ⊥)
      → (m.part (flat y).txn).life ≢ Life.Gone
      → IsSealing i y spare table c.epochs pend pend' c m
  sealing-end idle marks goes over there = record {
    there = λ spoken. there;
    may = may;
    no_page = no-page (flat y).kind it_ends;
    inst = by.row.order.same_inst;
    table_epoch = by.row.order.same_epoch;
    begins = λ epoch. ap₂ (λ (e b : ℕ). if e == epoch then b else 0) by.row.order.same_epoch by.row.order.same_begins;
    states = λ t. ⊎_elim
        (λ e. subst (λ (u : TxnId). state_at table u ≡ state_at (txns_at c i) u) (sym e)
        (ap (option_map (λ (z : Transaction). z.state)) by.row.now ∙ sym (ap (option_map (λ (z : Transaction). z.state)) by.row.was)))
        (λ ne. ap (option_map (λ (z : Transaction). z.state)) (by.row.others t ne))
        (cases_txn t (flat y).txn);
    idle = idle;
    marks = λ t not. ⊎_elim
        (λ e. subst (λ (u : TxnId). option_map (λ (z : Transaction). z.marks) (txn_at table u)
        ≡ option_map (λ (z : Transaction). z.marks) (txn_at (txns_at c i) u)) (sym e)
        (ap (option_map (λ (z : Transaction). z.marks)) by.row.now ∙ ap (λ (l : List (List ℕ × ℕ)). Some l) (marks t not e)
        ∙ sym (ap (option_map (λ (z : Transaction). z.marks)) by.row.was)))
        (mark-others t)
        (cases_txn t (flat y).txn);
    goes = goes;
    off = λ t on. ⊎_elim
        (λ e. absurd (over (subst (λ (u : TxnId). GoesOn pend' u (m.part u)) e on)))
        (λ ne. off-other (flat y).kind (flat y).txn t (λ e. ne (sym e)))
        (cases_txn t (flat y).txn);
    eight = eight;
    epoch_else = λ j ne. refl;
    epoch_up = λ up. refl;
    epoch_here = λ bytes was. epoch-others (master bytes) (log_at c i) y spare
        (speaks-no_start y (ends-speaks (flat y).kind it_ends)) ∙ was;
  }

module _ (i spare : ℕ) (y : Record) (table : Transactions) (seen : rig.DeviceImages) (leaves : Outcomes) (pend pend' : Pending)
    (c : Parts) (m : State) (g : Good seen leaves pend c m) (reads : leaves 0 (seen 0))
    (s : IsSealing i y spare table c.epochs pend pend' c m) (it_ends : ends (flat y).kind ≡ true)
    (there : HasRecord (flat y).txn (all_at (log_at c i)))
    (later : (j epoch : ℕ) → IsEpochOf m pend j epoch → IsEpochOf m pend' j epoch) where
  abbrev ended : Parts
  ended = with_last i y spare table c

  spoken : speaks (flat y).kind ≡ true
  spoken = ends-speaks (flat y).kind it_ends

  one : (moved : Keeps) → log_by c moved i ≡ log_at c i
  one = sealed.one i spare y table c.epochs seen leaves pend pend' c m g reads s

  pub appends : (moved : Keeps) → Appends i y (leaves_by c moved leaves) (log_by c moved) (log_by ended moved)
  appends = sealed.appends i spare y table c.epochs seen leaves pend pend' c m g reads s

  pub grown : (moved : Keeps) → Grows i (flat y) (tails_of (log_by c moved)) (tails_of (log_by ended moved))
  grown moved = grows i y seen (leaves_by c moved leaves) (log_by c moved) (log_by ended moved) pend pend' c
      (with_record y spare (log_at c i)) table c.epochs m (g.half moved) (appends moved) (reads, tt) s.no_page s.may.own
      (sealed.follows-by i spare y table c.epochs seen leaves pend pend' c m g reads s moved)
      (sealed.numbered i spare y table c.epochs seen leaves pend pend' c m g reads s)
      (sealed.above i spare y table c.epochs seen leaves pend pend' c m g reads s)

  pub half-ended : (moved : Keeps)
      → Gives (tails_of (log_by ended moved)) (may_of (leaves_by c moved leaves))
      (λ keeps. values m pend' (kept_logs (tails_of (log_by ended moved)) keeps))
      → Half seen (leaves_by ended moved leaves) (log_by ended moved) pend' ended m
  half-ended moved gives =
      sealed.half-more i spare y table c.epochs seen leaves pend pend' c m g reads s moved
      (end-keeps (leaves_by c moved leaves) i y (log_by c moved) (log_by ended moved) (g.half moved).soundly (appends moved)
      (subst (IsEnd y) (sym (one moved)) (record { ends = it_ends; alive = (s.may.follows spoken).alive; there = there }))
      (s.may.lsn ∙ ap (λ (l : LogState). next_lsn l 0) (sym (one moved))))
      gives later
      (λ bytes left. subst (IsEpochOf m pend' i)
      (sym (epoch-others (master bytes) (log_at c i) y spare (speaks-no_start y spoken)))
      (later i (past_at (master bytes) (forced (log_at c i))).epoch
      (sealed.epoch-was i spare y table c.epochs seen leaves pend pend' c m g reads s moved bytes left)))

  -- the stack that recovery sees of it
  pub stack-by : (moved : Keeps)
      → stack (flat y).txn (log (tails_of (log_by c moved)) (home (flat y).txn)) ≡ stack (flat y).txn (all_at (log_at c i))
  stack-by moved = ap (λ (j : ℕ). stack (flat y).txn (all_at (log_by c moved j))) (s.may.own spoken)
      ∙ ap (λ (l : LogState). stack (flat y).txn (all_at l)) (one moved)

  -- an End commits nobody, and leaves nothing open
  pub end-gives : is_commit (flat y).kind ≡ false → stack (flat y).txn (all_at (log_at c i)) ≡ []
      → ((logs : ℕ → List Rec) (p q : ℕ) → values m pend logs p q ≡ values m pend' logs p q) → (moved : Keeps)
      → Gives (tails_of (log_by ended moved)) (may_of (leaves_by c moved leaves))
      (λ keeps. values m pend' (kept_logs (tails_of (log_by ended moved)) keeps))
  end-gives no_commit done same moved disk all keeps p q =
      subst (Recovered (cut keeps (with_disk (tails_of (log_by ended moved)) disk)) p q)
      (values-stay i y seen (leaves_by c moved leaves) (log_by c moved) (log_by ended moved) pend pend' c
      (with_record y spare (log_at c i)) table c.epochs m (g.half moved) (appends moved) (reads, tt) s.no_page s.may.own
      (sealed.follows-by i spare y table c.epochs seen leaves pend pend' c m g reads s moved)
      (sealed.numbered i spare y table c.epochs seen leaves pend pend' c m g reads s)
      (sealed.above i spare y table c.epochs seen leaves pend pend' c m g reads s) no_commit keeps p q
      ∙ same (kept_logs (tails_of (log_by ended moved)) keeps) p q)
      (images.end-gives i (flat y) (tails_of (log_by c moved)) (tails_of (log_by ended moved)) (grown moved) s.may.own
      (may_of (leaves_by c moved leaves)) (base_of seen (leaves_by c moved leaves) (log_by c moved) c).version
      (base_of seen (leaves_by c moved leaves) (log_by c moved) c).version (g.half moved).coherent.safe s.no_page it_ends
      (stack-by moved ∙ done)
      (λ keeps. values m pend (kept_logs (tails_of (log_by c moved)) keeps)) (g.half moved).gives disk all keeps p q)

-- a row without open records keeps its marks
marks-idle : (x : Transaction) → x.stack ≡ [] → AreMarks x.marks (depth x) → (shut x).marks ≡ x.marks
marks-idle x none ok = ap (λ (l : List OpenRec). filter (λ (mark : List ℕ × ℕ). leb mark.1 (length l - 1)) x.marks) (sym none)
    ∙ ap (λ (z : Transaction). z.marks) (popped-empty x none ok)

pub end-seals : (leaves : Outcomes) → Falls bytes_owed reserve_of → Falls records_owed owed_of → EndSeals leaves
end-seals leaves bytes records i spare y x table seen pend c m g reads may kind by over =
    let it_ends = ap ends kind in
    let spoken = ap speaks kind in
    let no_commit = ap is_commit kind in
    let told = g.told i may.low may.high may.tells may.settled in
    let b = bytes (txns_at c i) table (flat y).txn x by.once by.row in
    let r = records (txns_at c i) table (flat y).txn x by.once by.row in
    let done = (may.follows spoken).done kind in
    let was = row-was i spare y x table c g.shape may it_ends by b r m told in
    let there = row-there i spare y x table c g.shape may it_ends by b r m told in
    let none : x.stack ≡ [] = stack-is x (flat y).txn (all_at (log_at c i)) was
    ∙ ap (λ (l : List Rec). reverse (map open_of l)) done in
    let s = sealing-end i spare y x table pend pend c m g.shape.epochs may it_ends by (λ t not. not)
    (λ t not e. marks-idle x none by.marks) (λ t on. on) over
    (there-of x.state (m.part (flat y).txn).life (fate (flat y).txn (base_at (log_at c i))) (fate (flat y).txn (all_at (log_at c i)))
    (subst (λ (o : Option Transaction). NamesLife o (m.part (flat y).txn).life (fate (flat y).txn (base_at (log_at c i)))
    (fate (flat y).txn (all_at (log_at c i)))) by.row.was ((g.instances i may.low may.high).names (flat y).txn (may.own spoken)))) in
    sealed-good i spare y table c.epochs seen leaves pend pend c m g reads s
    (λ moved. half-ended i spare y table seen leaves pend pend c m g reads s it_ends there (λ j epoch e. e) moved
    (end-gives i spare y table seen leaves pend pend c m g reads s it_ends there (λ j epoch e. e) no_commit done
    (λ logs p q. refl) moved))
    (λ t own doubt. sealed.doubts-stay i spare y table c.epochs seen leaves pend pend c m g reads s no_commit t)
    (tells i spare y x table c g.shape may it_ends by b r m told)
    (sealed.pending-there i spare y table c.epochs seen leaves pend pend c m g reads s refl no_commit pend g.pending)

-- ---- a Commit

-- who runs has in its log what it put
tie-of : (x : Option Transaction) (t : TxnId) (m : State) (own : List Rec) (f w : Fate) → (m.part t).life ≡ Life.Running
    → NamesLife x (m.part t).life f w → RowIsLive x t (m.part t) own → live (m.part t).acts ≡ map put_of (stack t own)
tie-of None t m own f w runs names h = let e = sym runs ∙ names in absurd (cc)
tie-of (Some x) t m own f w runs names h = h.puts

up-of : (s : Status) (life : Life) → life ≡ Life.Running → SuitsStatus life s → s ≡ S.Up
up-of s life runs stands = by s (subst (λ (l : Life). SuitsStatus l s) runs stands)
  where
    by : (s : Status) → MayRun s → s ≡ S.Up
    by S.Up may = refl
    by S.Down may = absurd may
    by (S.Recovering who) may = absurd may
    by S.Clean may = absurd may
    by S.Restarting may = absurd may
    by S.Closed may = absurd may

not-doubt : (life : Life) → life ≡ Life.Running → IsInDoubt life → ⊥
not-doubt life runs doubt = subst IsInDoubt runs doubt

pub commit-seals : (leaves : Outcomes) → Falls bytes_owed reserve_of → Falls records_owed owed_of → CommitSeals leaves
commit-seals leaves bytes records i spare y x table seen c m g reads may kind by state =
    let t : TxnId = (flat y).txn in
    let pend : Pending = Pending.Idle in
    let pend' : Pending = Pending.Commits t in
    let it_ends = ap ends kind in
    let spoken = ap speaks kind in
    let new : Parts = with_last i y spare table c in
    let own : home t ≡ i = may.own spoken in
    let inst = g.instances i may.low may.high in
    let told = g.told i may.low may.high may.tells may.settled in
    let b = bytes (txns_at c i) table t x by.once by.row in
    let r = records (txns_at c i) table t x by.once by.row in
    let runs : (m.part t).life ≡ Life.Running = runs-of x (m.part t).life (fate t (base_at (log_at c i)))
    (fate t (all_at (log_at c i))) state
    (subst (λ (o : Option Transaction). NamesLife o (m.part t).life (fate t (base_at (log_at c i))) (fate t (all_at (log_at c i))))
    by.row.was (inst.names t own)) in
    let there = row-there i spare y x table c g.shape may it_ends by b r m told in
    let up : status_at c i ≡ S.Up = inst.status
    ∙ up-of (m.inst i).status (m.part t).life runs
    (subst (λ (j : ℕ). SuitsStatus (m.part t).life (m.inst j).status) own (g.placed.stands t)) in
    let tie = tie-of (txn_at (txns_at c i) t) t m (all_at (log_at c i)) (fate t (base_at (log_at c i)))
    (fate t (all_at (log_at c i))) runs
    (inst.names t own) (g.at_work i may.low may.high up t own (λ e. absurd (cc))) in
    let later : (j epoch : ℕ) → IsEpochOf m pend j epoch
    → IsEpochOf m pend' j epoch = λ j epoch e. record { low = e.low; high = e.high } in
    let s = sealing-end i spare y x table pend pend' c m g.shape.epochs may it_ends by (λ u not e. absurd (cc))
    (λ u not e. absurd (not (sym (ap (λ (v : TxnId). Pending.Commits v) e))))
    (λ u on. goes-by (m.part u).life (pend' ≡ Pending.Commits u → ⊥) (pend ≡ Pending.Commits u → ⊥) (live (m.part u).acts ≢ [])
    (λ h e. absurd (cc)) on)
    (λ on. let ran : pend' ≡ Pending.Commits t → ⊥ = subst (λ (l : Life). goes_on_as l (pend' ≡ Pending.Commits t → ⊥)
    (live (m.part t).acts ≢ [])) runs on in ran refl)
    (λ e. let clash = sym runs ∙ e in absurd (cc)) in
    sealed-good i spare y table c.epochs seen leaves pend pend' c m g reads s
    (λ moved.
    let one : log_by c moved i ≡ log_at c i = sealed.one i spare y table c.epochs seen leaves pend pend' c m g reads s moved in
    let a = appends i spare y table seen leaves pend pend' c m g reads s it_ends there later moved in
    let follows = sealed.follows-by i spare y table c.epochs seen leaves pend pend' c m g reads s moved in
    half-ended i spare y table seen leaves pend pend' c m g reads s it_ends there later moved
    (images.commit-gives i (flat y) (tails_of (log_by c moved)) (tails_of (log_by new moved))
    (grown i spare y table seen leaves pend pend' c m g reads s it_ends there later moved)
    may.own (may_of (leaves_by c moved leaves)) (base_of seen (leaves_by c moved leaves) (log_by c moved) c).version
    (base_of seen (leaves_by c moved leaves) (log_by c moved) c).version (g.half moved).coherent.safe s.no_page it_ends
    (subst (λ (j : ℕ). IsOpen t (all_at (log_by c moved j))) (sym own) (follows spoken).alive)
    (λ keeps. values m pend (kept_logs (tails_of (log_by c moved)) keeps))
    (λ keeps. values m pend' (kept_logs (tails_of (log_by new moved)) keeps))
    (commits-it i a.spare y (log_by c moved) (log_by new moved) a.log m kind own (ap is_doubt runs) (follows spoken).alive
    (subst (λ (l : LogState). live (m.part t).acts ≡ map put_of (stack t (all_at l))) (sym one) tie))
    (g.half moved).gives))
    (λ u home_is doubt off. ⊎_elim
    (λ e. absurd (not-doubt (m.part t).life runs (subst (λ (v : TxnId). IsInDoubt (m.part v).life) (sym e) doubt)))
    (λ ne is. off (sym (fate-others u (all_at (log_at c i)) (flat y ∷ []) (other_of u (flat y) ne, tt))
    ∙ ap (fate u) (sym (sealed.all-here i spare y table c.epochs seen leaves pend pend' c m g reads s)) ∙ is))
    (cases_txn t u))
    (tells i spare y x table c g.shape may it_ends by b r m told)
    (record {
      runs = runs;
      up = subst (λ (j : ℕ). status_at c j ≡ S.Up) (sym own) up;
      committed = ap (λ (j : ℕ). list_any (commits t) (all_at (log_at new j))) own
          ∙ ap (list_any (commits t)) (sealed.all-here i spare y table c.epochs seen leaves pend pend' c m g reads s)
          ∙ list_any-append (commits t) (all_at (log_at c i)) (flat y ∷ [])
          ∙ ap₂ (λ (a b : Bool). list_any (commits t) (all_at (log_at c i)) || ((a && b) || false)) (ap is_commit kind)
          (eq-same t t refl)
          ∙ either (list_any (commits t) (all_at (log_at c i)));
    })
  where
    runs-of : (x : Transaction) (life : Life) (f w : Fate) → x.state ≡ TxnState.Running → NamesLife (Some x) life f w
        → life ≡ Life.Running
    runs-of x life f w state h = subst (λ (s : TxnState). StandsAs s life f w) state h

    either : (b : Bool) → (b || true) ≡ true
    either true = refl
    either false = refl

-- ---- a record of no transaction, which was tested for

-- rows tell of the log with it
rows-plain : (x : Option Transaction) (t : TxnId) (xs : List Rec) (y : Rec) → of_txn t y ≡ false → changes y.kind ≡ false
    → (ends y.kind && same_txn y.txn t) ≡ false → RowIsLogged x t xs → RowIsLogged x t (xs ++ y ∷ [])
rows-plain None t xs y off none idle h = λ is. h (sym (fate-others t xs (y ∷ []) (off, tt)) ∙ is)
rows-plain (Some x) t xs y off none idle h = ⊎_elim
    (λ l. inl (record {
      alive = Each-append (λ (x : Rec). (ends x.kind && same_txn x.txn t) ≡ false) xs (y ∷ []) l.alive (idle, tt);
      open_ones = l.open_ones ∙ ap (λ (l : List Rec). map open_of l) (sym (stack-same t xs y none));
      span = l.span ∙ sym (span-other t xs y off);
    }))
    (λ s. inr (record {
      ended = λ is. s.ended (Each-front (λ (x : Rec). (ends x.kind && same_txn x.txn t) ≡ false) xs (y ∷ []) is);
      emptied = s.emptied;
      span = s.span;
    }))
    h

-- a record of no transaction, with the epochs that there are then
sealing-plain : (i spare : ℕ) (y : Record) (epochs : List ℕ) (pend pend' : Pending) (c : Parts) (m : State) → MaySeal i y c
    → (flat y).kind ≡ Plain → ((t : TxnId) → (pend' ≡ Pending.Commits t → ⊥) → pend ≡ Pending.Commits t → ⊥)
    → length epochs ≡ 8 → ((j : ℕ) → j ≢ i → among 0 epochs j ≡ epoch_at c j)
    → (status_at c i ≡ S.Up → among 0 epochs i ≡ epoch_at c i)
    → ((bytes : List ℕ) → (past_at (master bytes) (forced (log_at c i))).epoch ≡ epoch_at c i
    → (past_at (master bytes) (forced (with_record y spare (log_at c i)))).epoch ≡ among 0 epochs i)
    → IsSealing i y spare (txns_at c i) epochs pend pend' c m
sealing-plain i spare y epochs pend pend' c m may kind idle eight others up here = record {
  may = may;
  no_page = ap changes kind;
  inst = refl;
  table_epoch = refl;
  begins = λ epoch. refl;
  states = λ t. refl;
  idle = idle;
  marks = λ t not. refl;
  goes = λ t on. goes-by (m.part t).life (pend' ≡ Pending.Commits t → ⊥) (pend ≡ Pending.Commits t → ⊥)
      (live (m.part t).acts ≢ []) (idle t) on;
  off = λ t on. ap (λ (k : Kind). ends k && same_txn (flat y).txn t) kind;
  there = λ spoken. let e = sym (ap speaks kind) ∙ spoken in absurd (cc);
  eight = eight;
  epoch_else = others;
  epoch_up = up;
  epoch_here = here;
}

module _ (i spare : ℕ) (y : Record) (epochs : List ℕ) (seen : rig.DeviceImages) (leaves : Outcomes) (pend pend' : Pending) (c : Parts)
    (m : State) (g : Good seen leaves pend c m) (reads : leaves 0 (seen 0))
    (s : IsSealing i y spare (txns_at c i) epochs pend pend' c m) (kind : (flat y).kind ≡ Plain)
    (tested : IsTestedFor i y spare leaves c) (room : reserve (all_at (log_at c i)) ≤ spare)
    (later : (j epoch : ℕ) → IsEpochOf m pend j epoch → IsEpochOf m pend' j epoch)
    (started : (bytes : List ℕ) → leaves i bytes
    → IsEpochOf m pend' i (past_at (master bytes) (forced (with_record y spare (log_at c i)))).epoch)
    (values_same : (logs : ℕ → List Rec) (p q : ℕ) → values m pend logs p q ≡ values m pend' logs p q) where
  abbrev table : Transactions
  table = txns_at c i

  abbrev last : Parts
  last = with_came i (with_record y spare (log_at c i)) table epochs c

  log-here : log_at last i ≡ with_record y spare (log_at c i)
  log-here = sealed.log-here i spare y table epochs seen leaves pend pend' c m g reads s

  all-here : all_at (log_at last i) ≡ all_at (log_at c i) ++ flat y ∷ []
  all-here = sealed.all-here i spare y table epochs seen leaves pend pend' c m g reads s

  txns-stay : slice_set c.txns (i - 1) table ≡ c.txns
  txns-stay = item-same no_txns c.txns i s.may.low

  told : IsTold last m i
  told =
      let old = g.told i s.may.low s.may.high s.may.tells s.may.settled in
      let owes = plain-owes (all_at (log_at c i)) (flat y) kind in
      let same : txns_at last i ≡ table = ap (λ (l : List Transactions). among no_txns l i) txns-stay in
      record {
        rows = λ t own. subst (λ (rows : Transactions). RowIsLogged (txn_at rows t) t (all_at (log_at last i))) (sym same)
            (subst (RowIsLogged (txn_at table t) t) (sym all-here)
            (rows-plain (txn_at table t) t (all_at (log_at c i)) (flat y) (silent_of t (flat y) (ap speaks kind)) s.no_page
            (ap (λ (k : Kind). ends k && same_txn (flat y).txn t) kind) (old.rows t own)));
        owes = ap owed_of same ∙ old.owes ∙ sym owes.1 ∙ ap owed (sym all-here);
        reserves = ap reserve_of same ∙ old.reserves ∙ sym owes.0 ∙ ap reserve (sym all-here);
        spare = λ up. subst (λ (l : LogState). reserve (all_at (log_at last i)) ≤ l.spare) (sym log-here)
            (subst (λ (n : ℕ). n ≤ spare) (sym owes.0 ∙ ap reserve (sym all-here)) room);
      }

  pub plain-half : (moved : Keeps) → Half seen (leaves_by last moved leaves) (log_by last moved) pend' last m
  plain-half moved =
      let a = sealed.appends i spare y table epochs seen leaves pend pend' c m g reads s moved in
      let follows = sealed.follows-by i spare y table epochs seen leaves pend pend' c m g reads s moved in
      let low = sealed.numbered i spare y table epochs seen leaves pend pend' c m g reads s in
      let above = sealed.above i spare y table epochs seen leaves pend pend' c m g reads s in
      sealed.half-more i spare y table epochs seen leaves pend pend' c m g reads s moved
      (tested-keeps (leaves_by c moved leaves) i y 0 (log_by c moved) (log_by last moved) (g.half moved).soundly a (tested moved))
      (λ disk all keeps p q. subst (Recovered (cut keeps (with_disk (tails_of (log_by last moved)) disk)) p q)
      (values-stay i y seen (leaves_by c moved leaves) (log_by c moved) (log_by last moved) pend pend' c
      (with_record y spare (log_at c i)) table epochs m
      (g.half moved) a (reads, tt) s.no_page s.may.own follows low above
      (ap is_commit kind) keeps p q
      ∙ values_same (kept_logs (tails_of (log_by last moved)) keeps) p q)
      (images.plain-gives i (flat y) (tails_of (log_by c moved)) (tails_of (log_by last moved))
      (grows i y seen (leaves_by c moved leaves) (log_by c moved) (log_by last moved) pend pend' c
      (with_record y spare (log_at c i)) table epochs m
      (g.half moved) a (reads, tt) s.no_page s.may.own follows low above)
      s.may.own (may_of (leaves_by c moved leaves)) (base_of seen (leaves_by c moved leaves) (log_by c moved) c).version
      (base_of seen (leaves_by c moved leaves) (log_by c moved) c).version (g.half moved).coherent.safe s.no_page (ap ends kind)
      (λ keeps. values m pend (kept_logs (tails_of (log_by c moved)) keeps)) (g.half moved).gives disk all keeps p q))
      later started

  pub plain-good : (IsUnderWay c m pend → IsUnderWay last m pend')
      → Good seen leaves pend' (record (with_more i y spare c) { epochs = epochs }) m
  plain-good way = subst (λ (rows : List Transactions). Good seen leaves pend'
      (record (with_more i y spare c) { txns = rows; epochs = epochs }) m) txns-stay
      (sealed-good i spare y table epochs seen leaves pend pend' c m g reads s plain-half
      (λ t own doubt. sealed.doubts-stay i spare y table epochs seen leaves pend pend' c m g reads s
      (ap is_commit kind) t)
      told
      (way g.pending))

pub check-seals : (leaves : Outcomes) → CheckSeals leaves
check-seals leaves i spare y seen pend c m g reads may kind no_start tested room =
    let s = sealing-plain i spare y c.epochs pend pend c m may kind (λ t not. not) g.shape.epochs (λ j ne. refl) (λ up. refl)
    (λ bytes was. epoch-others (master bytes) (log_at c i) y spare no_start ∙ was) in
    plain-good i spare y c.epochs seen leaves pend pend c m g reads s kind tested room (λ j epoch e. e)
    (λ bytes left. subst (IsEpochOf m pend i) (sym (epoch-others (master bytes) (log_at c i) y spare no_start))
    (sealed.epoch-was i spare y (txns_at c i) c.epochs seen leaves pend pend c m g reads s (λ j. false) bytes left))
    (λ logs p q. refl)
    (sealed.pending-there i spare y (txns_at c i) c.epochs seen leaves pend pend c m g reads s refl (ap is_commit kind) pend)

-- each record of a log is older than an epoch above those of whoever has a record there
older-all : (epoch : ℕ) (xs : List Rec) → ((t : TxnId) → list_any (of_txn t) xs ≡ true → t.epoch < epoch) → Each (IsOlder epoch) xs
older-all epoch [] each = tt
older-all epoch (x ∷ xs) each = (
  λ spoken. each x.txn (ap (λ (b : Bool). b || list_any (of_txn x.txn) xs)
      (ap₂ (λ (a b : Bool). a && b) spoken (eq-same x.txn x.txn refl))),
  older-all epoch xs (λ t has. each t (ap (λ (b : Bool). of_txn t x || b) has ∙ or_true (of_txn t x))),
)
  where
    or_true : (b : Bool) → (b || true) ≡ true
    or_true true = refl
    or_true false = refl

pub start-seals : (leaves : Outcomes) → StartSeals leaves
start-seals leaves i spare lsn epoch seen c m g reads may waits tested room =
    let y : Record = records.Start lsn epoch in
    let epochs : List ℕ = slice_set c.epochs (i - 1) epoch in
    let later : (j e : ℕ) → IsEpochOf m Pending.Idle j e → IsEpochOf m (Pending.Starts i) j e =
    λ j e was. let low = was.low in let high = was.high in record { low = low; high = omega (arith, high) } in
    let s = sealing-plain i spare y epochs Pending.Idle (Pending.Starts i) c m may refl (λ t not e. absurd (cc))
    (length-set c.epochs (i - 1) epoch ∙ g.shape.epochs) (item-kept 0 c.epochs i epoch may.low)
    (λ up. ⊎_elim (λ e. let h = sym up ∙ e in absurd (cc)) (λ e. let h = sym up ∙ e in absurd (cc)) waits)
    (λ bytes was. epoch-start (master bytes) (log_at c i) lsn epoch spare
    ∙ sym (item-set 0 c.epochs i epoch may.low may.high g.shape.epochs)) in
    let moved : Keeps = λ j. false in
    let at-i = g.settled i may.low may.high may.settled in
    let left-here : leaves i (seen i) = (at-i.only (seen i)).1 refl in
    let one : log_by c moved i ≡ log_at c i = one-place c moved i at-i.one_place in
    let next-in : (bytes : List ℕ) → leaves i bytes → epoch ≡ (past_at (master bytes) (forced (log_at c i))).epoch + 1 =
    λ bytes left. subst (λ (l : LogState). epoch ≡ (past_at (master bytes) (forced l)).epoch + 1) one
    ((tested moved).epoch bytes (left, no-place (other_at c i) _ at-i.one_place)) in
    let was-in : (bytes : List ℕ) → leaves i bytes → IsEpochOf m Pending.Idle i (past_at (master bytes) (forced (log_at c i))).epoch =
    λ bytes left. sealed.epoch-was i spare y (txns_at c i) epochs seen leaves Pending.Idle (Pending.Starts i) c m g reads s
    moved bytes left in
    let there : among 0 epochs i ≡ epoch = item-set 0 c.epochs i epoch may.low may.high g.shape.epochs in
    let sound : LogIsSound i (seen i) (forced (log_at c i)) = subst (λ (l : LogState). LogIsSound i (seen i) (forced l)) one
    ((g.half moved).soundly.ready i may.low may.high (seen i)
    (left-here, no-place (other_at c i) _ at-i.one_place)).sound_forced in
    plain-good i spare y epochs seen leaves Pending.Idle (Pending.Starts i) c m g reads s refl tested room later
    (λ bytes left.
    let next = next-in bytes left in
    let was = was-in bytes left in
    let low = was.low in
    let high = was.high in
    let one_more : ℕ = 1 in
    let none_more : ℕ = 0 in
    let here : cond (eqb i i) one_more none_more ≡ one_more = ap (λ (b : Bool). cond b one_more none_more) (eq-eqb i i refl) in
    subst (IsEpochOf m (Pending.Starts i) i) (sym (epoch-start (master bytes) (log_at c i) lsn epoch spare))
    (record { low = omega (arith, low, next); high = omega (arith, high, next, here) }))
    (λ logs p q. refl) (λ old. record {
      waits = waits;
      above = let low = (was-in (seen i) left-here).low in let next = next-in (seen i) left-here in
          omega (arith, low, next, there);
      older = subst (Each (IsOlder (among 0 epochs i)))
          (sym (sealed.all-here i spare y (txns_at c i) epochs seen leaves Pending.Idle (Pending.Starts i) c m g reads s))
          (Each-append (IsOlder (among 0 epochs i)) (all_at (log_at c i)) (flat y ∷ [])
          (older-all (among 0 epochs i) (all_at (log_at c i)) (λ t has.
          let own = (own-begun i (seen i) (log_at c i) t sound has).1 in let next = next-in (seen i) left-here in
          omega (arith, own, next, there)))
          (λ spoken. absurd (cc), tt));
    })
