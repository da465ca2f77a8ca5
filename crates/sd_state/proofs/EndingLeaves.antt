-- Who commits, and who has rolled back, leaves: for the calls of ending.rt.
use Rattle.std.proofs.Common.{◌≡◌, ◌≢◌, ◌⊎◌, inl, inr, ⊎_elim, ℕ, ◌≤◌, Bool, true, false, cond, List, [], ◌∷◌, ◌++◌, map, length, reverse, append-nil, refl, sym, ap, ◌∙◌, subst, arith}
use Rattle.std.specs.Prelude.{Option, None, Some, is_some, option_and_then, option_map}
use Rattle.std.specs.List.{list_any}
use Rattle.std.proofs.lemmas.List.{length_push, reverse-append}
use Rattle.sd_base.specs.declared.ids.TxnId.{TxnId}
use Rattle.sd_base.specs.declared.place.Status.TheVariants as S
use Rattle.sd_log.specs.Logs.{LogState}
use Rattle.sd_logrec.specs.View.{Rec, flat}
use Rattle.sd_logrec.specs.declared.record.Record.{Record}
use Rattle.sd_model.specs.State.{Part, State, committed, gone, put_part}
use Rattle.sd_model.specs.Step.{Step}
use Rattle.sd_model.specs.declared.act.Life.{Life}
use Rattle.sd_model.specs.declared.event.Event.{Event}
use Rattle.sd_model.specs.declared.event.Event.TheVariants.{Commit}
use Rattle.sd_model.specs.declared.event.Reply.{Reply}
use Rattle.sd_model.specs.declared.event.Reply.TheVariants.{Did}
use Rattle.sd_model.proofs.Changes.{gone-kept}
use Rattle.sd_model.proofs.Listed.{step-listed}
use Rattle.sd_model.proofs.Marks.{put-marked}
use Rattle.sd_model.proofs.MarksRun.{step-marked}
use Rattle.sd_model.proofs.Moves.{gone-calm}
use Rattle.sd_model.proofs.Placed.{put-placed}
use Rattle.sd_model.proofs.PlacedRun.{step-placed}
use Rattle.sd_model.proofs.Recoverers.{step-recoverers}
use Rattle.sd_model.proofs.Serial.{step-kept}
use Rattle.sd_model.proofs.Steps.{commit-step}
use Rattle.sd_model.proofs.Views.{part-elsewhere, part-here}
use Rattle.sd_reclock.specs.Locks.{LockTable}
use Rattle.sd_rig.specs.Devices as rig
use Rattle.sd_txn.specs.Transactions.{Transaction, span_at, state_at, txn_at, without}
use Rattle.sd_txn.specs.declared.state.TxnState.{TxnState}
use Rattle.sd_chain.specs.Fates.{Fate, commits, fate}
use Rattle.sd_chain.specs.Images.{Keeps}
use Rattle.sd_chain.specs.Order.{of_txn}
use Rattle.sd_chain.specs.Records.{Each, IsOpen, home, stack}
use Rattle.sd_chain.proofs.Fates.{fate-open, none-unknown, open-endless}
use Rattle.sd_chain.proofs.Lists.{Each-append, Each-front}
use Rattle.sd_chain.proofs.Whose.{of_none, stack-none}
use Rattle.sd_chain.specs.Logs.{Outcomes, all_at, base_at, kept_logs, tail_at, tails_of}
use Rattle.sd_state.specs.Good.{Good}
use Rattle.sd_state.specs.Images.{IsOpenIn, log_by}
use Rattle.sd_state.specs.Parts.{Parts, is_loose, log_at, status_at, txns_at}
use Rattle.sd_state.specs.Tables.{IsLogged, IsShut, NamesLife, RowIsLive, RowIsLogged, StandsAs, tells_log}
use Rattle.sd_state.specs.Values.{Pending, is_doubt, open_of, put_of, starts_of, values}
use Rattle.sd_state.specs.Working.{IsLeft, with_working}
use Rattle.sd_state.proofs.ChangedLists.{span-there}
use Rattle.sd_state.proofs.EndingGood.{Leaves, leaves-good}
use Rattle.sd_state.proofs.EndingValues.{values-bare, values-committed}
use Rattle.sd_state.proofs.Recovers.{up-there}
use Rattle.sd_state.proofs.Standing.{one-place}
use Rattle.sd_state.proofs.WorkingGood.{Lasts, working-settled}
use Rattle.sd_state.proofs.WorkingTakes.{lasts-there, running-goes, running-there}
use Rattle.sd_state.proofs.WorkingValues.{values-other}

-- what a run keeps, over a step
pub step-lasts : (m : State) (e : Event) (reply : Reply) (m' : State) → Step m e reply m' → Lasts m → Lasts m'
step-lasts m e reply m' step l = record {
  kept = step-kept m e reply m' step l.kept;
  placed = step-placed m e reply m' step l.placed;
  listed = step-listed m e reply m' step l.listed;
  marked = step-marked m e reply m' step l.marked;
  recoverers = step-recoverers m e reply m' step l.recoverers;
}

-- and where one is there no more
pub gone-lasts : (m : State) (t : TxnId) → Lasts m → Lasts (put_part t gone m)
gone-lasts m t l = let calm = gone-calm m t in record {
  kept = gone-kept m t l.kept;
  placed = put-placed m t gone (inr (tt, λ d. d)) l.placed;
  listed = record {
    bounds = l.listed.bounds;
    there = λ u ne. l.listed.there u ((calm.part u).there ne);
    once = l.listed.once;
    doubts = λ u d. l.listed.doubts u ((calm.part u).doubts d);
    cut_once = l.listed.cut_once;
    cut_begun = l.listed.cut_begun;
    cut_rests = λ u a w. l.listed.cut_rests u a ((calm.part u).works w);
  };
  marked = put-marked m t gone (record { marks = tt; target = tt }) l.marked;
  recoverers = record { each = l.recoverers.each };
}

reverse-nil : {A : Type 0} (xs : List A) → reverse xs ≡ [] → xs ≡ []
reverse-nil [] e = refl
reverse-nil (x ∷ xs) e =
    let a : length (reverse xs ++ x ∷ []) ≡ 0 = ap length (sym (reverse-append (x ∷ []) xs) ∙ e) in
    let b = length_push (reverse xs) x in absurd (omega (arith, a, b))

-- who is there has a row
pub known-row : (o : Option Transaction) (life : Life) (f w : Fate) → life ≢ Life.Gone → NamesLife o life f w → (x : Transaction) × (o ≡ Some x)
known-row None life f w there h = absurd (there h)
known-row (Some x) life f w there h = (x, refl)

-- one that stands as rolling back in the table does so
pub rolling-there : (o : Option Transaction) (to : Option ℕ) (life : Life) (f w : Fate) → option_map (λ (x : Transaction). x.state) o ≡ Some (TxnState.Rolling to)
    → NamesLife o life f w → life ≡ Life.Rolling to
rolling-there None to life f w e h = absurd (cc)
rolling-there (Some x) to life f w e h = subst (λ (s : TxnState). StandsAs s life f w) (the-some x.state (TxnState.Rolling to) e) h
  where
    the-some : (a b : TxnState) → Some a ≡ Some b → a ≡ b
    the-some a b e = cc

-- Nothing of t is open, in its row and in what a crash may leave of this log.
record IsOut (t : TxnId) (x : Transaction) (log : LogState) : Type 0 where
  pub emptied : x.stack ≡ []
  pub spanless : x.span ≡ None
  pub closed : (k : Bool) → IsOpenIn t (base_at log ++ cond k (tail_at log) []) → ⊥
  pub bare : IsOpen t (base_at log) → stack t (all_at log) ≡ []

-- it has no record
unwritten : (t : TxnId) (x : Transaction) (log : LogState) → IsLogged x t (all_at log) → x.span ≡ None → list_any (of_txn t) (all_at log) ≡ false
unwritten t x log l spanless = sym (span-there t (all_at log)) ∙ ap is_some (sym l.span) ∙ ap is_some spanless

unwritten-out : (t : TxnId) (x : Transaction) (log : LogState) → IsLogged x t (all_at log) → x.span ≡ None → IsOut t x log
unwritten-out t x log l spanless =
    let has-none = unwritten t x log l spanless in
    let none = of_none (of_txn t) (all_at log) has-none in
    record {
      emptied = reverse-nil x.stack (l.open_ones ∙ ap (map open_of) (stack-none t (all_at log) has-none));
      spanless = spanless;
      closed = λ k opens. let clash = sym (none-unknown t _ (none-kept none k)) ∙ opens in absurd (cc);
      bare = λ _. stack-none t (all_at log) has-none;
    }
  where
    none-kept : Each (λ y. of_txn t y ≡ false) (all_at log) → (k : Bool) → Each (λ y. of_txn t y ≡ false) (base_at log ++ cond k (tail_at log) [])
    none-kept none true = none
    none-kept none false = Each-append (λ y. of_txn t y ≡ false) (base_at log) []
        (Each-front (λ y. of_txn t y ≡ false) (base_at log) (tail_at log) none) tt

-- where a log has no tail, what is left of it is all
kept-all : (log : LogState) → log.tail ≡ [] → (k : Bool) → base_at log ++ cond k (tail_at log) [] ≡ all_at log
kept-all log empty true = refl
kept-all log empty false = ap (λ (rs : List Record). base_at log ++ map flat rs) (sym empty)

-- its end is forced
shut-out : (t : TxnId) (x : Transaction) (log : LogState) → IsShut x t (all_at log) → log.tail ≡ [] → IsOut t x log
shut-out t x log s empty = record {
  emptied = s.emptied;
  spanless = s.span;
  closed = λ k opens. s.ended (subst (IsOpen t) (kept-all log empty k) (fate-open t _ opens).0);
  bare = λ opens. absurd (s.ended (subst (IsOpen t) (sym (append-nil (base_at log)) ∙ kept-all log empty false) opens));
}

module _ (t : TxnId) (locks : LockTable) (seen : rig.DeviceImages) (leaves : Outcomes) (pend : Pending) (c : Parts) (m : State)
    (g : Good seen leaves pend c m) (left : IsLeft t locks c) (idle : c.due ≡ None) (up : status_at c (home t) ≡ S.Up) where
  abbrev i : ℕ
  i = home t

  abbrev all : List Rec
  all = all_at (log_at c i)

  bounds : (1 ≤ i) × (i ≤ 8)
  bounds = up-there c g.shape.statuses i up

  settled : is_loose c i ≡ false
  settled = working-settled seen leaves pend c m i g idle bounds.0 up

  logged : (x : Transaction) → txn_at (txns_at c i) t ≡ Some x → RowIsLogged (Some x) t all
  logged x row = subst (λ (o : Option Transaction). RowIsLogged o t all) row ((g.told i bounds.0 bounds.1 (ap tells_log up) settled).rows t refl)

  names : NamesLife (txn_at (txns_at c i) t) (m.part t).life (fate t (base_at (log_at c i))) (fate t all)
  names = (g.instances i bounds.0 bounds.1).names t refl

  -- so it may go, for a state without it
  goes : (x : Transaction) (m' : State) → txn_at (txns_at c i) t ≡ Some x → IsOut t x (log_at c i) → m'.part t ≡ gone
      → ((u : TxnId) → u ≢ t → m'.part u ≡ m.part u) → m'.inst ≡ m.inst → (pend ≡ Pending.Idle) ⊎ (pend ≡ Pending.Commits t) → Lasts m'
      → ((moved keeps : Keeps) (p s : ℕ) → values m' Pending.Idle (kept_logs (tails_of (log_by c moved)) keeps) p s
      ≡ values m pend (kept_logs (tails_of (log_by c moved)) keeps) p s)
      → Leaves t x locks pend c m m'
  goes x m' row out part parts inst which lasts same = record {
    low = bounds.0;
    high = bounds.1;
    idle = idle;
    up = up;
    emptied = out.emptied;
    spanless = out.spanless;
    others = left.others;
    none = left.none;
    owes = left.owes x row;
    reserves = left.reserves x row;
    released = left.released;
    closed = out.closed;
    bare = out.bare;
    part = part;
    parts = parts;
    inst = inst;
    under = λ u ne it. ⊎_elim (λ e. let f = sym e ∙ it in absurd (cc)) (λ e. let f = sym e ∙ it in ne (sym (same-txn t u f))) which;
    starts = λ j. ⊎_elim (λ e. ap (λ (q : Pending). starts_of q j) e) (λ e. ap (λ (q : Pending). starts_of q j) e) which;
    lasts = lasts;
    values = same;
  }
    where
      same-txn : (a b : TxnId) → Pending.Commits a ≡ Pending.Commits b → a ≡ b
      same-txn a b e = cc

-- Once its Commit is forced t is committed.
pub committed-good : (t : TxnId) (locks : LockTable) (seen : rig.DeviceImages) (leaves : Outcomes) (c : Parts) (m : State)
    → Good seen leaves (Pending.Commits t) c m → IsLeft t locks c → c.due ≡ None → (log_at c (home t)).tail ≡ []
    → Good seen leaves Pending.Idle (with_working (home t) (without (txns_at c (home t)) t) locks c) (committed t m)
committed-good t locks seen leaves c m g left idle empty =
    let pend = Pending.Commits t in
    let up = g.pending.up in
    let runs = g.pending.runs in
    let it = known-row _ _ _ _ (λ e. let f = sym runs ∙ e in absurd (cc)) (names t locks seen leaves pend c m g left idle up) in
    let x = it.0 in
    let done = m.done ++ record { txn = t; acts = (m.part t).acts } ∷ [] in
    let both = bounds t locks seen leaves pend c m g left idle up in
    let is-settled = settled t locks seen leaves pend c m g left idle up in
    let ends : IsOpen t (all_at (log_at c (home t))) → ⊥ = λ opens.
    let f = sym (open-endless t (all_at (log_at c (home t))) opens).0 ∙ g.pending.committed in absurd (cc) in
    let out : IsOut t x (log_at c (home t)) = ⊎_elim (λ l. absurd (ends l.alive)) (λ s. shut-out t x (log_at c (home t)) s empty)
    (logged t locks seen leaves pend c m g left idle up x it.1) in
    leaves-good t x locks seen leaves pend c m (committed t m) g
    (goes t locks seen leaves pend c m g left idle up x (committed t m) it.1 out
    (part-here (record m { done = done }) t gone)
    (λ u ne. part-elsewhere (record m { done = done }) t u gone (λ e. ne (sym e)))
    refl (inr refl)
    (step-lasts m (Commit t) Did (committed t m)
    (commit-step m t (record { runs = runs; at = record { up = sym (g.instances (home t) both.0 both.1).status ∙ up; opened = g.not_closed } }))
    (lasts-there seen leaves pend c m g))
    (λ moved keeps p s. values-committed t m (kept_logs (tails_of (log_by c moved)) keeps) g.kept runs
    (ap (λ (l : LogState). list_any (commits t) (base_at l ++ cond (keeps (home t)) (tail_at l) []))
    (one-place c moved (home t) (g.settled (home t) both.0 both.1 is-settled).one_place)
    ∙ ap (list_any (commits t)) (kept-all (log_at c (home t)) empty (keeps (home t))) ∙ g.pending.committed) p s))

-- One that has no record commits without one.
pub bare-good : (t : TxnId) (locks : LockTable) (seen : rig.DeviceImages) (leaves : Outcomes) (c : Parts) (m : State)
    → Good seen leaves Pending.Idle c m → IsLeft t locks c → c.due ≡ None → status_at c (home t) ≡ S.Up
    → state_at (txns_at c (home t)) t ≡ Some TxnState.Running → span_at (txns_at c (home t)) t ≡ None
    → Good seen leaves Pending.Idle (with_working (home t) (without (txns_at c (home t)) t) locks c) (committed t m)
bare-good t locks seen leaves c m g left idle up state span =
    let pend = Pending.Idle in
    let both = bounds t locks seen leaves pend c m g left idle up in
    let named = names t locks seen leaves pend c m g left idle up in
    let runs = running-there _ _ _ _ state named in
    let it = known-row _ _ _ _ (λ e. let f = sym runs ∙ e in absurd (cc)) named in
    let x = it.0 in
    let done = m.done ++ record { txn = t; acts = (m.part t).acts } ∷ [] in
    let log = log_at c (home t) in
    let alive : IsOpen t (all_at log) = g.going t both.0 both.1 (running-goes t (m.part t) runs) in
    let l : IsLogged x t (all_at log) = ⊎_elim (λ l. l) (λ s. absurd (s.ended alive)) (logged t locks seen leaves pend c m g left idle up x it.1) in
    let spanless : x.span ≡ None = subst (λ (o : Option Transaction). option_and_then (λ (y : Transaction). y.span) o ≡ None) it.1 span in
    let live : RowIsLive (Some x) t (m.part t) (all_at log) = subst (λ (o : Option Transaction). RowIsLive o t (m.part t) (all_at log)) it.1
    (g.at_work (home t) both.0 both.1 up t refl (λ e. let f = e in absurd (cc))) in
    leaves-good t x locks seen leaves pend c m (committed t m) g
    (goes t locks seen leaves pend c m g left idle up x (committed t m) it.1 (unwritten-out t x log l spanless)
    (part-here (record m { done = done }) t gone)
    (λ u ne. part-elsewhere (record m { done = done }) t u gone (λ e. ne (sym e)))
    refl (inl refl)
    (step-lasts m (Commit t) Did (committed t m)
    (commit-step m t (record { runs = runs; at = record { up = sym (g.instances (home t) both.0 both.1).status ∙ up; opened = g.not_closed } }))
    (lasts-there seen leaves pend c m g))
    (λ moved keeps p s. values-bare t m (kept_logs (tails_of (log_by c moved)) keeps) g.kept runs
    (live.puts ∙ ap (map put_of) (stack-none t (all_at log) (unwritten t x log l spanless))) p s))

-- One that has rolled back wholly, and has no record, or whose End is forced, is gone.
pub rolled-good : (t : TxnId) (locks : LockTable) (seen : rig.DeviceImages) (leaves : Outcomes) (c : Parts) (m : State)
    → Good seen leaves Pending.Idle c m → IsLeft t locks c → c.due ≡ None → status_at c (home t) ≡ S.Up
    → state_at (txns_at c (home t)) t ≡ Some (TxnState.Rolling None) → span_at (txns_at c (home t)) t ≡ None
    → IsOpen t (all_at (log_at c (home t))) ⊎ ((log_at c (home t)).tail ≡ [])
    → Good seen leaves Pending.Idle (with_working (home t) (without (txns_at c (home t)) t) locks c) (put_part t gone m)
rolled-good t locks seen leaves c m g left idle up state span either =
    let pend = Pending.Idle in
    let named = names t locks seen leaves pend c m g left idle up in
    let rolls = rolling-there _ _ _ _ _ state named in
    let it = known-row _ _ _ _ (λ e. let f = sym rolls ∙ e in absurd (cc)) named in
    let x = it.0 in
    let log = log_at c (home t) in
    let spanless : x.span ≡ None = subst (λ (o : Option Transaction). option_and_then (λ (y : Transaction). y.span) o ≡ None) it.1 span in
    let out : IsOut t x log = ⊎_elim (λ l. unwritten-out t x log l spanless)
    (λ s. ⊎_elim (λ opens. absurd (s.ended opens)) (λ empty. shut-out t x log s empty) either)
    (logged t locks seen leaves pend c m g left idle up x it.1) in
    leaves-good t x locks seen leaves pend c m (put_part t gone m) g
    (goes t locks seen leaves pend c m g left idle up x (put_part t gone m) it.1 out (part-here m t gone)
    (λ u ne. part-elsewhere m t u gone (λ e. ne (sym e))) refl (inl refl) (gone-lasts m t (lasts-there seen leaves pend c m g))
    (λ moved keeps p s. values-other t m (put_part t gone m) (kept_logs (tails_of (log_by c moved)) keeps) refl
    (λ u ne. part-elsewhere m t u gone (λ e. ne (sym e))) (ap is_doubt rolls) (ap (λ (q : Part). is_doubt q.life) (part-here m t gone)) refl refl p s))
