-- A transaction turns: it rolls back, runs again, or sets a mark. For the calls of working.rt.
use Rattle.std.proofs.Common.{◌≡◌, ◌≢◌, ◌⊎◌, inl, inr, ⊎_elim, ℕ, ◌-◌, ◌≤◌, false, if◌then◌else◌, ◌==◌, ◌++◌, cond, List, [], length, slice_set, refl, sym, ap, ap₂, ◌∙◌, subst, arith}
use Rattle.std.specs.Prelude.{Option, None, Some, option_and_then, option_map}
use Rattle.std.specs.Option.{option_map_or}
use Rattle.std.specs.List.{IsDistinct}
use Rattle.std.proofs.lemmas.List.{length-map, length-reverse, length-set}
use Rattle.sd_base.specs.declared.ids.TxnId.{TxnId}
use Rattle.sd_base.specs.declared.place.Status.TheVariants as S
use Rattle.sd_base.specs.Ids.{same_txn}
use Rattle.sd_logrec.specs.View.{Rec}
use Rattle.sd_model.specs.State.{Part, State, put_part, turned}
use Rattle.sd_model.specs.declared.act.Claim.{Claim}
use Rattle.sd_model.specs.declared.act.Life.{Life}
use Rattle.sd_model.specs.Acts.{live}
use Rattle.sd_model.specs.Changes.{mark_of, marked, with_mark}
use Rattle.sd_model.specs.declared.event.Event.TheVariants.{Back, Save, Undo}
use Rattle.sd_model.specs.declared.event.Reply.TheVariants.{Did, Finished}
use Rattle.sd_model.proofs.Views.{part-elsewhere, part-here}
use Rattle.sd_rig.specs.Devices as rig
use Rattle.sd_txn.specs.Owing.{bytes_owed, owed_of, records_owed, reserve_of}
use Rattle.sd_txn.specs.Transactions.{OthersStay, Replaces, SameOrder, Transaction, Transactions, begins_in, depth_at, ids, mark_at, state_at, saved, txn_at, with_state}
use Rattle.sd_txn.specs.Transactions as txns
use Rattle.sd_txn.specs.declared.state.TxnState.{TxnState}
use Rattle.sd_txn.proofs.Owing.{total-replaced}
use Rattle.sd_chain.specs.Fates.{Fate, fate}
use Rattle.sd_chain.specs.Records.{Each, IsOpen, home, stack}
use Rattle.sd_chain.specs.Logs.{Outcomes, all_at, base_at, kept_logs, tail_at, tails_of}
use Rattle.sd_state.specs.Good.{Good, Half}
use Rattle.sd_state.specs.Images.{leaves_by, log_by}
use Rattle.sd_state.specs.Parts.{Parts, among, log_at, no_txns, status_at, txns_at}
use Rattle.sd_state.specs.Tables.{GoesOn, IsInDoubt, IsLive, IsLogged, NamedOnce, NamesLife, RowIsLive, RowIsLogged, StandsAs, goes_on_as, lock_of, tells_log}
use Rattle.sd_state.specs.Values.{Pending, is_doubt, open_of, put_of, rid_of}
use Rattle.sd_state.specs.Working.{with_txns}
use Rattle.sd_state.proofs.Items.{item-kept, item-set}
use Rattle.sd_state.proofs.WorkingMarks.{Marks, once-marked, same-marks}
use Rattle.sd_state.proofs.WorkingGood.{ItsWork, Lasts, OthersWork, working-good, working-settled}
use Rattle.sd_state.proofs.EndingLeaves.{known-row, rolling-there, step-lasts}
use Rattle.sd_state.proofs.Recovers.{up-there}
use Rattle.sd_state.proofs.WorkingTakes.{lasts-there, running-goes, running-there}
use Rattle.sd_state.proofs.WorkingValues.{values-other}

-- who stands in a table is there
pub there-of : (s : TxnState) (life : Life) (f w : Fate) → StandsAs s life f w → life ≢ Life.Gone
there-of TxnState.Running life f w is e = let c = sym is ∙ e in absurd (cc)
there-of (TxnState.Rolling to) life f w is e = let c = sym is ∙ e in absurd (cc)
there-of TxnState.Retained life f w is e = ⊎_elim (λ r. let c = sym r ∙ e in absurd (cc)) (λ d. subst IsInDoubt e d.0) is
there-of TxnState.Doubt life f w is e = subst IsInDoubt e is
there-of TxnState.Committed life f w is e = subst IsInDoubt e is.0

-- a row that stands so and has these marks, and a part
abbrev pub row_as : TxnState → Marks → Transaction → Transaction
row_as state set x = record x { state = state; marks = set }

abbrev pub part_as : Life → Marks → Part → Part
part_as life marks p = record p { life = life; marks = marks }

-- who is open has as many open records as live puts
pub as-many : (x : Transaction) (t : TxnId) (p : Part) (log : List Rec) → IsLogged x t log → IsLive x t p log
    → length x.stack ≡ length (live p.acts)
as-many x t p log l lively = sym (length-reverse x.stack) ∙ ap length l.open_ones ∙ length-map (stack t log) open_of
    ∙ sym (length-map (stack t log) put_of) ∙ sym (ap length lively.puts)

-- t, of which x is known, stands so in its table and has these marks there, and so in the serial table.
pub record Turns (t : TxnId) (x : Transaction) (state : TxnState) (set : Marks) (life : Life) (marks : Marks) (table : Transactions) (c : Parts)
    (m : State) : Type 0 where
  pub low : 1 ≤ home t
  pub high : home t ≤ 8
  pub idle : c.due ≡ None
  pub up : status_at c (home t) ≡ S.Up
  pub once : IsDistinct same_txn (ids (txns_at c (home t)))
  pub row : Replaces (txns_at c (home t)) table t x (row_as state set x)
  pub stands : (f w : Fate) → StandsAs state life f w
  pub there : life ≢ Life.Gone
  pub before : is_doubt (m.part t).life ≡ false
  pub after : is_doubt life ≡ false
  pub goes : GoesOn Pending.Idle t (part_as life marks (m.part t)) → IsOpen t (all_at (log_at c (home t)))
  pub same_marks : IsLive x t (m.part t) (all_at (log_at c (home t)))
      → (name : List ℕ) → txns.mark_of name (row_as state set x) ≡ mark_of name marks
  pub named : NamedOnce marks
  pub lasts : Lasts (put_part t (part_as life marks (m.part t)) m)

module _ (t : TxnId) (x : Transaction) (state : TxnState) (set : Marks) (life : Life) (marks : Marks) (table : Transactions) (seen : rig.DeviceImages)
    (leaves : Outcomes) (c : Parts) (m : State) (g : Good seen leaves Pending.Idle c m) (w : Turns t x state set life marks table c m) where
  abbrev i : ℕ
  i = home t

  abbrev m' : State
  m' = put_part t (part_as life marks (m.part t)) m

  abbrev part : Part
  part = part_as life marks (m.part t)

  abbrev row : Transaction
  row = row_as state set x

  abbrev tables : List Transactions
  tables = slice_set c.txns (i - 1) table

  abbrev all : List Rec
  all = all_at (log_at c i)

  h : Half seen (leaves_by c (λ j. false) leaves) (log_by c (λ j. false)) Pending.Idle c m
  h = g.half (λ j. false)

  table-here : among no_txns tables i ≡ table
  table-here = item-set no_txns c.txns i table w.low w.high g.shape.txns

  here : m'.part t ≡ part
  here = part-here m t part

  part-else : (u : TxnId) → u ≢ t → m'.part u ≡ m.part u
  part-else u ne = part-elsewhere m t u part (λ e. ne (sym e))

  -- what is said of the row and of the part, once they are these
  by-row : (P : Option Transaction → Part → Type 0) → P (Some row) part → P (txn_at (among no_txns tables i) t) (m'.part t)
  by-row P said = subst (λ (tb : Transactions). P (txn_at tb t) (m'.part t)) (sym table-here)
      (subst (λ (o : Option Transaction). P o (m'.part t)) (sym w.row.now) (subst (P (Some row)) (sym here) said))

  its-own : ItsWork t tables c.locks Pending.Idle c m m'
  its-own = record {
    values = λ moved keeps p s. values-other t m m' (kept_logs (tails_of (log_by c moved)) keeps) refl part-else
        w.before (ap (λ (q : Part). is_doubt q.life) here ∙ w.after) refl refl p s;
    claimed = λ k opens. let old = h.claimed (λ j. k) t opens in record {
      there = subst (λ (q : Part). q.life ≢ Life.Gone) (sym here) w.there;
      claims = subst (λ (q : Part). Each (λ y. q.claims (rid_of y) ≡ Claim.Excl) (stack t (base_at (log_at c i) ++ cond k (tail_at (log_at c i)) [])))
          (sym here) old.claims;
    };
    open_held = λ opens. subst (λ (q : Part). Each (λ y. q.claims (rid_of y) ≡ Claim.Excl) (stack t all)) (sym here) (h.held t opens);
    names = by-row (λ (o : Option Transaction) (q : Part). NamesLife o q.life (fate t (base_at (log_at c i))) (fate t all)) (w.stands _ _);
    logged = by-row (λ (o : Option Transaction) (q : Part). RowIsLogged o t all) (⊎_elim
        (λ l. inl (record { alive = l.alive; open_ones = l.open_ones; span = l.span }))
        (λ s. inr (record { ended = s.ended; emptied = s.emptied; span = s.span }))
        (subst (λ (o : Option Transaction). RowIsLogged o t all) w.row.was
        ((g.told i w.low w.high (ap tells_log w.up) (working-settled seen leaves Pending.Idle c m i g w.idle w.low w.up)).rows t refl)));
    live = by-row (λ (o : Option Transaction) (q : Part). RowIsLive o t q all) (let old = was-live in
        record { puts = old.puts; marks = w.same_marks old });
    going = λ goes. w.goes (subst (GoesOn Pending.Idle t) here goes);
    named = subst (λ (q : Part). NamedOnce q.marks) (sym here) w.named;
    number = λ there. g.numbered t was-there;
    gone = λ it r. absurd (w.there (sym (ap (λ (q : Part). q.life) here) ∙ it));
    its_locks = λ r. g.locks t r ∙ ap (λ (q : Part). lock_of (q.claims r)) (sym here);
  }
    where
      was-there : (m.part t).life ≢ Life.Gone
      was-there = there-of x.state (m.part t).life (fate t (base_at (log_at c i))) (fate t all)
          (subst (λ (o : Option Transaction). NamesLife o (m.part t).life (fate t (base_at (log_at c i))) (fate t all)) w.row.was
          ((g.instances i w.low w.high).names t refl))

      was-live : RowIsLive (Some x) t (m.part t) all
      was-live = subst (λ (o : Option Transaction). RowIsLive o t (m.part t) all) w.row.was
          (g.at_work i w.low w.high w.up t refl (λ e. let f = e in absurd (cc)))

  all-others : OthersWork t tables c.locks Pending.Idle c m m'
  all-others = record {
    low = w.low;
    high = w.high;
    idle = w.idle;
    up = w.up;
    count = length-set c.txns (i - 1) table ∙ g.shape.txns;
    own = ap (λ (tb : Transactions). tb.inst) table-here ∙ w.row.order.same_inst ∙ g.shape.own_txns i w.low w.high;
    table = let a = ap (λ (tb : Transactions). tb.epoch) table-here ∙ w.row.order.same_epoch in let e = (g.instances i w.low w.high).table in
        omega (arith, a, e);
    tables = λ j ne. item-kept no_txns c.txns i table w.low j ne;
    rows = λ u ne. ap (λ (tb : Transactions). txn_at tb u) table-here ∙ w.row.others u ne;
    owes = ap owed_of table-here ∙ (let sum = total-replaced records_owed (txns_at c i) table t x row w.once w.row in omega (arith, sum));
    reserves = ap reserve_of table-here ∙ (let sum = total-replaced bytes_owed (txns_at c i) table t x row w.once w.row in omega (arith, sum));
    others_held = λ u ne r. refl;
    parts = part-else;
    begins = (m.inst i).begins;
    more = omega arith;
    counts = ap (λ (tb : Transactions). begins_in tb (m.inst i).epoch) table-here
        ∙ ap₂ (λ (epoch begins : ℕ). if epoch == (m.inst i).epoch then begins else 0) w.row.order.same_epoch w.row.order.same_begins
        ∙ (g.instances i w.low w.high).begins w.up;
    inst = refl;
    insts = λ j ne. refl;
    under = λ u ne e. let f = e in absurd (cc);
    starts = λ j. refl;
    lasts = w.lasts;
  }

  pub turns-good : Good seen leaves Pending.Idle (with_txns i table c) m'
  turns-good = working-good t tables c.locks seen leaves Pending.Idle c m m' g all-others its-own

-- What the code tells of the table in which t stands elsewhere.
pub record IsTurned (t : TxnId) (state : TxnState) (table : Transactions) (c : Parts) : Type 0 where
  pub idle : c.due ≡ None
  pub up : status_at c (home t) ≡ S.Up
  pub once : IsDistinct same_txn (ids (txns_at c (home t)))
  pub changed : txn_at table t ≡ option_map (with_state state) (txn_at (txns_at c (home t)) t)
  pub others : OthersStay (txns_at c (home t)) table t
  pub order : SameOrder (txns_at c (home t)) table

module _ (t : TxnId) (table : Transactions) (seen : rig.DeviceImages) (leaves : Outcomes) (c : Parts) (m : State)
    (g : Good seen leaves Pending.Idle c m) where
  row-is : (state : TxnState) (x : Transaction) → IsTurned t state table c → txn_at (txns_at c (home t)) t ≡ Some x
      → Replaces (txns_at c (home t)) table t x (with_state state x)
  row-is state x d row = record { was = row; now = d.changed ∙ ap (option_map (with_state state)) row; others = d.others; order = d.order }

  places : (state : TxnState) → IsTurned t state table c → (1 ≤ home t) × (home t ≤ 8)
  places state d = up-there c g.shape.statuses (home t) d.up

  names-at : (state : TxnState) → IsTurned t state table c
      → NamesLife (txn_at (txns_at c (home t)) t) (m.part t).life (fate t (base_at (log_at c (home t)))) (fate t (all_at (log_at c (home t))))
  names-at state d = (g.instances (home t) (places state d).0 (places state d).1).names t refl

  m-up : (state : TxnState) → IsTurned t state table c → (m.inst (home t)).status ≡ S.Up
  m-up state d = sym (g.instances (home t) (places state d).0 (places state d).1).status ∙ d.up

  not-gone : ((m.part t).life ≡ Life.Running) ⊎ ((to : Option ℕ) × ((m.part t).life ≡ Life.Rolling to)) → (m.part t).life ≢ Life.Gone
  not-gone which = λ e. ⊎_elim (λ r. let f = sym r ∙ e in absurd (cc)) (λ r. let f = sym r.1 ∙ e in absurd (cc)) which

  works : (o : Option Transaction) (f w : Fate)
      → (option_map (λ (x : Transaction). x.state) o ≡ Some TxnState.Running)
      ⊎ ((to : Option ℕ) × (option_map (λ (x : Transaction). x.state) o ≡ Some (TxnState.Rolling to)))
      → NamesLife o (m.part t).life f w → ((m.part t).life ≡ Life.Running) ⊎ ((to : Option ℕ) × ((m.part t).life ≡ Life.Rolling to))
  works o f w (inl e) named = inl (running-there o (m.part t).life f w e named)
  works o f w (inr e) named = inr (e.0, rolling-there o e.0 (m.part t).life f w e.1 named)

  undoubted : ((m.part t).life ≡ Life.Running) ⊎ ((to : Option ℕ) × ((m.part t).life ≡ Life.Rolling to)) → is_doubt (m.part t).life ≡ false
  undoubted which = ⊎_elim (λ r. ap is_doubt r) (λ r. ap is_doubt r.1) which

  -- who rolls back wholly may have further records where it might before
  goes-still : ((m.part t).life ≡ Life.Running) ⊎ ((to : Option ℕ) × ((m.part t).life ≡ Life.Rolling to)) → live (m.part t).acts ≢ []
      → GoesOn Pending.Idle t (m.part t)
  goes-still which some = ⊎_elim (running-goes t (m.part t))
      (λ r. subst (λ (life : Life). goes_on_as life (Pending.Idle ≡ Pending.Commits t → ⊥) (live (m.part t).acts ≢ [])) (sym r.1) (by r.0))
      which
    where
      by : (to : Option ℕ) → goes_on_as (Life.Rolling to) (Pending.Idle ≡ Pending.Commits t → ⊥) (live (m.part t).acts ≢ [])
      by None = some
      by (Some n) = tt

  pub back-good : IsTurned t (TxnState.Rolling None) table c
      → (state_at (txns_at c (home t)) t ≡ Some TxnState.Running) ⊎ ((to : Option ℕ) × (state_at (txns_at c (home t)) t ≡ Some (TxnState.Rolling to)))
      → Good seen leaves Pending.Idle (with_txns (home t) table c) (turned t (Life.Rolling None) m)
  back-good d state =
      let s = TxnState.Rolling None in
      let which = works _ _ _ state (names-at s d) in
      let it = known-row _ _ _ _ (not-gone which) (names-at s d) in
      turns-good t it.0 s it.0.marks (Life.Rolling None) (m.part t).marks table seen leaves c m g (record {
        low = (places s d).0;
        high = (places s d).1;
        idle = d.idle;
        up = d.up;
        once = d.once;
        row = row-is s it.0 d it.1;
        stands = λ f w. refl;
        there = λ e. let f = e in absurd (cc);
        before = undoubted which;
        after = refl;
        goes = λ some. g.going t (places s d).0 (places s d).1 (goes-still which some);
        same_marks = λ l. l.marks;
        named = g.named t;
        lasts = step-lasts m (Back t None) Did (turned t (Life.Rolling None) m)
            ((g.not_closed, (not-gone which, ((λ n. n (m-up s d)), tt))), (which, refl)) (lasts-there seen leaves Pending.Idle c m g);
      })

  pub back-to_good : (n : ℕ) → IsTurned t (TxnState.Rolling (Some n)) table c → state_at (txns_at c (home t)) t ≡ Some TxnState.Running
      → (name : List ℕ) → mark_at (txns_at c (home t)) t name ≡ Some n
      → Good seen leaves Pending.Idle (with_txns (home t) table c) (turned t (Life.Rolling (Some n)) m)
  back-to_good n d state name mark =
      let s = TxnState.Rolling (Some n) in
      let runs = running-there _ _ _ _ state (names-at s d) in
      let it = known-row _ _ _ _ (not-gone (inl runs)) (names-at s d) in
      let lively : RowIsLive (Some it.0) t (m.part t) (all_at (log_at c (home t))) =
      subst (λ (o : Option Transaction). RowIsLive o t (m.part t) (all_at (log_at c (home t)))) it.1
      (g.at_work (home t) (places s d).0 (places s d).1 d.up t refl (λ e. let f = e in absurd (cc))) in
      let at_mark : mark_of name (m.part t).marks ≡ Some n = sym (lively.marks name)
      ∙ subst (λ (o : Option Transaction). option_and_then (txns.mark_of name) o ≡ Some n) it.1 mark in
      turns-good t it.0 s it.0.marks (Life.Rolling (Some n)) (m.part t).marks table seen leaves c m g (record {
        low = (places s d).0;
        high = (places s d).1;
        idle = d.idle;
        up = d.up;
        once = d.once;
        row = row-is s it.0 d it.1;
        stands = λ f w. refl;
        there = λ e. let f = e in absurd (cc);
        before = ap is_doubt runs;
        after = refl;
        goes = λ _. g.going t (places s d).0 (places s d).1 (running-goes t (m.part t) runs);
        same_marks = λ l. l.marks;
        named = g.named t;
        lasts = step-lasts m (Back t (Some name)) Did (turned t (Life.Rolling (Some n)) m) (
          (
            g.not_closed,
            (
              not-gone (inl runs),
              (
                (λ no. no (m-up s d)),
                ((λ f. let z = sym runs ∙ f.1 in absurd (cc)), ((λ none. let z = sym at_mark ∙ none in absurd (cc)), tt)),
              ),
            ),
          ),
          (n, runs, at_mark, refl),
        )
            (lasts-there seen leaves Pending.Idle c m g);
      })

  pub resume-good : (n : ℕ) → IsTurned t TxnState.Running table c → state_at (txns_at c (home t)) t ≡ Some (TxnState.Rolling (Some n))
      → depth_at (txns_at c (home t)) t ≡ n
      → Good seen leaves Pending.Idle (with_txns (home t) table c) (turned t Life.Running m)
  resume-good n d state depth =
      let s = TxnState.Running in
      let rolls = rolling-there _ (Some n) _ _ _ state (names-at s d) in
      let it = known-row _ _ _ _ (not-gone (inr (Some n, rolls))) (names-at s d) in
      let log = log_at c (home t) in
      let lively : RowIsLive (Some it.0) t (m.part t) (all_at log) = subst (λ (o : Option Transaction). RowIsLive o t (m.part t) (all_at log)) it.1
      (g.at_work (home t) (places s d).0 (places s d).1 d.up t refl (λ e. let f = e in absurd (cc))) in
      let alive : IsOpen t (all_at log) = g.going t (places s d).0 (places s d).1
      (subst (λ (life : Life). goes_on_as life (Pending.Idle ≡ Pending.Commits t → ⊥) (live (m.part t).acts ≢ [])) (sym rolls) tt) in
      let l : IsLogged it.0 t (all_at log) = ⊎_elim (λ l. l) (λ x. absurd (x.ended alive))
      (subst (λ (o : Option Transaction). RowIsLogged o t (all_at log)) it.1
      ((g.told (home t) (places s d).0 (places s d).1 (ap tells_log d.up)
      (working-settled seen leaves Pending.Idle c m (home t) g d.idle (places s d).0 d.up)).rows t refl)) in
      let deep : length it.0.stack ≡ n = subst (λ (o : Option Transaction). option_map_or (λ (y : Transaction). length y.stack) o 0 ≡ n) it.1 depth in
      let many : n ≡ length (live (m.part t).acts) = sym deep ∙ as-many it.0 t (m.part t) (all_at log) l lively in
      turns-good t it.0 s it.0.marks Life.Running (m.part t).marks table seen leaves c m g (record {
        low = (places s d).0;
        high = (places s d).1;
        idle = d.idle;
        up = d.up;
        once = d.once;
        row = row-is s it.0 d it.1;
        stands = λ f w. refl;
        there = λ e. let f = e in absurd (cc);
        before = ap is_doubt rolls;
        after = refl;
        goes = λ _. alive;
        same_marks = λ l. l.marks;
        named = g.named t;
        lasts = step-lasts m (Undo t) Finished (turned t Life.Running m)
            ((g.not_closed, (not-gone (inr (Some n, rolls)), ((λ no. no (m-up s d)), (tt, (tt, (tt, tt)))))), inr (inl (n, rolls, many, refl)))
            (lasts-there seen leaves Pending.Idle c m g);
      })

-- What the code tells of the table in which t has set a mark.
pub record IsMarked (t : TxnId) (name : List ℕ) (table : Transactions) (c : Parts) : Type 0 where
  pub idle : c.due ≡ None
  pub up : status_at c (home t) ≡ S.Up
  pub once : IsDistinct same_txn (ids (txns_at c (home t)))
  pub changed : txn_at table t ≡ option_map (saved name) (txn_at (txns_at c (home t)) t)
  pub number : mark_at table t name ≡ Some (depth_at (txns_at c (home t)) t)
  pub others : OthersStay (txns_at c (home t)) table t
  pub order : SameOrder (txns_at c (home t)) table

pub save-good : (t : TxnId) (name : List ℕ) (table : Transactions) (seen : rig.DeviceImages) (leaves : Outcomes) (c : Parts) (m : State)
    → Good seen leaves Pending.Idle c m → IsMarked t name table c → state_at (txns_at c (home t)) t ≡ Some TxnState.Running
    → Good seen leaves Pending.Idle (with_txns (home t) table c) (marked t name m)
save-good t name table seen leaves c m g d state =
    let i : ℕ = home t in
    let log = log_at c i in
    let place = up-there c g.shape.statuses i d.up in
    let names = (g.instances i place.0 place.1).names t refl in
    let runs : (m.part t).life ≡ Life.Running = running-there _ _ _ _ state names in
    let alive : IsOpen t (all_at log) = g.going t place.0 place.1 (running-goes t (m.part t) runs) in
    let it = known-row _ _ _ _ (λ e. let f = sym runs ∙ e in absurd (cc)) names in
    let x : Transaction = it.0 in
    let l : IsLogged x t (all_at log) = ⊎_elim (λ l. l) (λ s. absurd (s.ended alive))
    (subst (λ (o : Option Transaction). RowIsLogged o t (all_at log)) it.1
    ((g.told i place.0 place.1 (ap tells_log d.up) (working-settled seen leaves Pending.Idle c m i g d.idle place.0 d.up)).rows t refl)) in
    let so : x.state ≡ TxnState.Running = let e = sym (ap (option_map (λ (y : Transaction). y.state)) it.1) ∙ state in the-state _ _ e in
    let here : txns.mark_of name (saved name x) ≡ Some (length x.stack) =
    sym (ap (option_and_then (txns.mark_of name)) (d.changed ∙ ap (option_map (saved name)) it.1)) ∙ d.number
    ∙ ap (λ (o : Option Transaction). Some (option_map_or txns.depth o 0)) it.1 in
    let many = λ (lively : IsLive x t (m.part t) (all_at log)). as-many x t (m.part t) (all_at log) l lively in
    turns-good t x x.state (txns.with_mark name (length x.stack) x.marks) (m.part t).life
    (with_mark name (length (live (m.part t).acts)) (m.part t).marks) table seen leaves c m g (record {
      low = place.0;
      high = place.1;
      idle = d.idle;
      up = d.up;
      once = d.once;
      row = record { was = it.1; now = d.changed ∙ ap (option_map (saved name)) it.1; others = d.others; order = d.order };
      stands = λ f w. subst (λ (s : TxnState). StandsAs s (m.part t).life f w) (sym so) runs;
      there = λ e. let f = sym runs ∙ e in absurd (cc);
      before = ap is_doubt runs;
      after = ap is_doubt runs;
      goes = λ _. alive;
      same_marks = λ lively name'. subst (λ (n : ℕ). txns.mark_of name' (saved name x) ≡ mark_of name' (with_mark name n (m.part t).marks))
          (many lively) (same-marks name (length x.stack) x.marks (m.part t).marks lively.marks here name');
      named = once-marked name (length (live (m.part t).acts)) (m.part t).marks (g.named t);
      lasts = step-lasts m (Save t name) Did (marked t name m) (
        (
          g.not_closed,
          (
            (λ e. let f = sym runs ∙ e in absurd (cc)),
            (
              (λ no. no (sym (g.instances i place.0 place.1).status ∙ d.up)),
              ((λ rolls. let f = sym runs ∙ rolls.1 in absurd (cc)), tt),
            ),
          ),
        ),
        (runs, refl),
      )
          (lasts-there seen leaves Pending.Idle c m g);
    })
  where
    the-state : (a b : TxnState) → Some a ≡ Some b → a ≡ b
    the-state a b e = cc
