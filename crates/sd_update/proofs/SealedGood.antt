-- A complex to one of whose logs a record without a page came, as a whole: for the laws of `sealing`.
use Rattle.std.proofs.Common.{◌≡◌, ◌≢◌, ◌⊎◌, inl, inr, ℕ, ◌-◌, ◌≤◌, true, false, cond, List, [], ◌∷◌, ◌++◌, refl, sym, ap, ap₂, ◌∙◌, subst, arith, ⊎_elim}
use Rattle.std.specs.Prelude.{Option, None, Some, IfSome, map, length, option_map, ◌&&◌, ◌<◌}
use Rattle.std.specs.Option.{option_map_or}
use Rattle.std.specs.List.{list_any}
use Rattle.std.specs.Map.{lookup}
use Rattle.std.specs.Str.{bytes_eq}
use Rattle.std.proofs.lemmas.Bool.{cases_eq}
use Rattle.std.proofs.lemmas.List.{length-set}
use mathlib.Core.Path.{fun_ext}
use Rattle.sd_base.specs.declared.ids.TxnId.{TxnId}
use Rattle.sd_base.specs.declared.place.Status.TheVariants as S
use Rattle.sd_base.specs.Ids.{same_txn}
use Rattle.sd_logrec.specs.Kept.{Whole, area, master, reading}
use Rattle.sd_logrec.specs.View.{Rec, flat}
use Rattle.sd_logrec.specs.declared.record.Record.{Record}
use Rattle.sd_log.specs.Logs.{LogState, StandsOn, begun_at, forced, last_lsn, scanned, with_record}
use Rattle.sd_model.specs.State.{Part, State}
use Rattle.sd_model.specs.declared.act.Life.{Life}
use Rattle.sd_rig.specs.Devices as rig
use Rattle.sd_txn.specs.declared.state.TxnState.{TxnState}
use Rattle.sd_txn.specs.Owing.{owed_of, reserve_of}
use Rattle.sd_txn.specs.Transactions.{Transaction, Transactions, begins_in, state_at, txn_at}
use Rattle.sd_chain.specs.Checks.{lsn_of, owed, reserve}
use Rattle.sd_chain.specs.Fates.{Fate, commits, fate, is_commit}
use Rattle.sd_chain.specs.Images.{Gives, Keeps}
use Rattle.sd_chain.specs.Order.{MayFollow, speaks}
use Rattle.sd_chain.specs.Records.{Each, IsOpen, changes, ends, home, stack}
use Rattle.sd_chain.proofs.Fates.{committed-fate, fate-committed}
use Rattle.sd_chain.proofs.Lists.{Each-append}
use Rattle.sd_chain.specs.Appends.{Appends}
use Rattle.sd_chain.specs.Logs.{Outcomes, all_at, base_at, kept_logs, may_of, past_at, tails_of}
use Rattle.sd_chain.specs.Soundly.{IsSoundly}
use Rattle.sd_chain.proofs.Appends.{appended-log}
use Rattle.sd_state.specs.Good.{IsOlder, IsOfBegun, Good, Half, IsChecking, IsInstance, IsKnownLsn, IsSettledAt, IsTold, IsUnderWay, OwesAtMost}
use Rattle.sd_state.specs.Images.{IsEpochOf, leaves_by, log_by}
use Rattle.sd_state.specs.Parts.{Begun, Parts, among, check_at, epoch_at, is_loose, log_at, no_log, no_txns, other_at, owed_at, status_at, txns_at, low_of}
use Rattle.sd_update.specs.Sealing.{MaySeal}
use Rattle.sd_state.specs.Tables.{GoesOn, IsInDoubt, NamesLife, RowIsLive, RowIsLogged, StandsAs, tells_log}
use Rattle.sd_state.specs.Values.{Pending, put_of, values}
use Rattle.sd_state.proofs.Items.{item-kept, item-set}
use Rattle.sd_state.proofs.Lasts.{last-grows, last-more}
use Rattle.sd_update.proofs.Sealed.{commits-same, half-sealed, stack-same, with_came}
use Rattle.sd_state.proofs.Begun.{began-there, begun-more, older-more}
use Rattle.sd_state.proofs.Standing.{no-place, one-place, bases-by, known-still, others-still}
use Rattle.sd_page.specs.Page.{Page}
use Rattle.sd_state.proofs.Lows.{low-begin}

-- who stands so in a table stands so by other records, if they don't commit one in doubt
stands-sealed : (s : TxnState) (life : Life) (f w w' : Fate) → (IsInDoubt life → w ≢ Fate.Committed → w' ≢ Fate.Committed)
    → StandsAs s life f w → StandsAs s life f w'
stands-sealed TxnState.Running life f w w' keep h = h
stands-sealed (TxnState.Rolling to) life f w w' keep h = h
stands-sealed TxnState.Retained life f w w' keep h = ⊎_elim (λ r. inl r) (λ d. inr (d.0, d.1, keep d.0 d.2)) h
stands-sealed TxnState.Doubt life f w w' keep h = h
stands-sealed TxnState.Committed life f w w' keep h = h

names-sealed : (x : Option Transaction) (life : Life) (f w w' : Fate)
    → (IsInDoubt life → w ≢ Fate.Committed → w' ≢ Fate.Committed)
    → NamesLife x life f w → NamesLife x life f w'
names-sealed None life f w w' keep h = h
names-sealed (Some x) life f w w' keep h = stands-sealed x.state life f w w' keep h

-- who stands as before is named as before; who has its marks as before, too, is at work as before
names-alike : (x y : Option Transaction) (life : Life) (f w : Fate)
    → option_map (λ (z : Transaction). z.state) y ≡ option_map (λ (z : Transaction). z.state) x → NamesLife x life f w → NamesLife y life f w
names-alike None None life f w alike h = h
names-alike None (Some y) life f w alike h = absurd (cc)
names-alike (Some x) None life f w alike h = absurd (cc)
names-alike (Some x) (Some y) life f w alike h = let same : x.state ≡ y.state = cc in
    subst (λ (s : TxnState). StandsAs s life f w) same h

live-alike : (x y : Option Transaction) (t : TxnId) (p : Part) (log : List Rec)
    → option_map (λ (z : Transaction). z.marks) y ≡ option_map (λ (z : Transaction). z.marks) x
    → RowIsLive x t p log → RowIsLive y t p log
live-alike None None t p log alike h = h
live-alike None (Some y) t p log alike h = absurd (cc)
live-alike (Some x) None t p log alike h = absurd (cc)
live-alike (Some x) (Some y) t p log alike h = let same : y.marks ≡ x.marks = cc in record {
  puts = h.puts;
  marks = λ name. ap (λ (marks : List (List ℕ × ℕ)). lookup (bytes_eq name) marks) same ∙ h.marks name;
}

-- who is at work has what its log has open, and no more
live-sealed : (x : Option Transaction) (t : TxnId) (p : Part) (was is : List Rec) → stack t is ≡ stack t was → RowIsLive x t p was
    → RowIsLive x t p is
live-sealed None t p was is same h = h
live-sealed (Some x) t p was is same h = record {
  puts = h.puts ∙ ap (λ (l : List Rec). map put_of l) (sym same);
  marks = h.marks;
}

-- where there is no row there was none
none-by : (x y : Option Transaction) → option_map (λ (z : Transaction). z.state) x ≡ option_map (λ (z : Transaction). z.state) y
    → y ≡ None → x ≡ None
none-by None y same none = refl
none-by (Some x) y same none = let e = same ∙ ap (option_map (λ (z : Transaction). z.state)) none in absurd (cc)

-- What is asked beside the record itself: the table's rows stand as before, and those at work have their marks; the epochs are
-- those of before, but for that of instance i, unless it is up; and who may have further records then could before, and isn't
-- ended by this one.
pub record IsSealing (i : ℕ) (y : Record) (spare : ℕ) (table : Transactions) (epochs : List ℕ) (pend pend' : Pending) (c : Parts)
    (m : State) : Type 0 where
  pub may : MaySeal i y c
  pub no_page : changes (flat y).kind ≡ false
  pub inst : table.inst ≡ (txns_at c i).inst
  pub table_epoch : table.epoch ≡ (txns_at c i).epoch
  pub begins : (epoch : ℕ) → begins_in table epoch ≡ begins_in (txns_at c i) epoch
  pub states : (t : TxnId) → state_at table t ≡ state_at (txns_at c i) t
  pub idle : (t : TxnId) → (pend' ≡ Pending.Commits t → ⊥) → pend ≡ Pending.Commits t → ⊥
  pub marks : (t : TxnId) → (pend' ≡ Pending.Commits t → ⊥)
      → option_map (λ (x : Transaction). x.marks) (txn_at table t) ≡ option_map (λ (x : Transaction). x.marks) (txn_at (txns_at c i) t)
  pub goes : (t : TxnId) → GoesOn pend' t (m.part t) → GoesOn pend t (m.part t)
  pub off : (t : TxnId) → GoesOn pend' t (m.part t) → (ends (flat y).kind && same_txn (flat y).txn t) ≡ false
  pub there : speaks (flat y).kind ≡ true → (m.part (flat y).txn).life ≢ Life.Gone
  pub eight : length epochs ≡ 8
  pub epoch_else : (j : ℕ) → j ≢ i → among 0 epochs j ≡ epoch_at c j
  pub epoch_up : status_at c i ≡ S.Up → among 0 epochs i ≡ epoch_at c i
  pub epoch_here : (bytes : List ℕ) → (past_at (master bytes) (forced (log_at c i))).epoch ≡ epoch_at c i
      → (past_at (master bytes) (forced (with_record y spare (log_at c i)))).epoch ≡ among 0 epochs i

module _ (i spare : ℕ) (y : Record) (table : Transactions) (epochs : List ℕ) (seen : rig.DeviceImages) (leaves : Outcomes)
    (pend pend' : Pending) (c : Parts) (m : State) (g : Good seen leaves pend c m) (reads : leaves 0 (seen 0))
    (by : IsSealing i y spare table epochs pend pend' c m) where
  abbrev new : Parts
  new = with_came i (with_record y spare (log_at c i)) table epochs c

  abbrev may : MaySeal i y c
  may = by.may

  -- the record is above all of its log
  pub numbered : 0 < lsn_of y
  numbered = let lsn = may.lsn in omega (arith, lsn)

  pub above : (k : Begun) → check_at c i ≡ Some k → (low_of k) ≤ lsn_of y
  above k is = let old = g.checking i k is in
      let low = low-begin k in let begun = old.begun in let lsn = may.lsn in omega (arith, low, begun, lsn)

  at-i : IsSettledAt seen leaves c i
  at-i = g.settled i may.low may.high may.settled

  pub log-here : log_at new i ≡ with_record y spare (log_at c i)
  log-here = item-set no_log c.logs i (with_record y spare (log_at c i)) may.low may.high g.shape.logs

  pub log-else : (j : ℕ) → j ≢ i → log_at new j ≡ log_at c j
  log-else = item-kept no_log c.logs i (with_record y spare (log_at c i)) may.low

  txns-here : txns_at new i ≡ table
  txns-here = item-set no_txns c.txns i table may.low may.high g.shape.txns

  txns-else : (j : ℕ) → j ≢ i → txns_at new j ≡ txns_at c j
  txns-else = item-kept no_txns c.txns i table may.low

  -- what the table has as before
  table-same : {A : Type 0} (part : Transactions → A) → part table ≡ part (txns_at c i) → (j : ℕ)
      → part (txns_at new j) ≡ part (txns_at c j)
  table-same part e j = ⊎_elim
      (λ is. subst (λ (k : ℕ). part (txns_at new k) ≡ part (txns_at c k)) (sym is) (ap part txns-here ∙ e))
      (λ ne. ap part (txns-else j ne))
      (cases_eq j i)

  -- what the record leaves of each log
  same-there : {A : Type 0} (part : LogState → A) → part (with_record y spare (log_at c i)) ≡ part (log_at c i) → (j : ℕ)
      → part (log_at new j) ≡ part (log_at c j)
  same-there part e j = ⊎_elim
      (λ is. subst (λ (k : ℕ). part (log_at new k) ≡ part (log_at c k)) (sym is) (ap part log-here ∙ e))
      (λ ne. ap part (log-else j ne))
      (cases_eq j i)

  base-same : (j : ℕ) → base_at (log_at new j) ≡ base_at (log_at c j)
  base-same = same-there base_at refl

  start-same : (j : ℕ) → (log_at new j).start ≡ (log_at c j).start
  start-same = same-there (λ (l : LogState). l.start) refl

  pub all-here : all_at (log_at new i) ≡ all_at (log_at c i) ++ flat y ∷ []
  all-here = ap all_at log-here ∙ appended-log (log_at c i) y spare

  -- ---- wherever logs begin

  module _ (moved : Keeps) where
    pub one : log_by c moved i ≡ log_at c i
    one = one-place c moved i at-i.one_place

    by-else : (j : ℕ) → j ≢ i → log_by new moved j ≡ log_by c moved j
    by-else j ne = ap (λ (l : LogState). cond (moved j) (option_map_or (λ place. begun_at place l) (other_at c j) l) l)
        (log-else j ne)

    pub appends : Appends i y (leaves_by c moved leaves) (log_by c moved) (log_by new moved)
    appends = record {
      spare = spare;
      log = record {
        low = may.low;
        high = may.high;
        here = one-place new moved i at-i.one_place ∙ log-here ∙ ap (with_record y spare) (sym one);
        others = by-else;
      };
      settled = λ bytes l. subst (λ (log : LogState). StandsOn log bytes) (sym one)
          (subst (StandsOn (log_at c i)) (sym ((at-i.only bytes).0 l.0)) at-i.stands);
      could = (seen i, ((at-i.only (seen i)).1 refl, no-place (other_at c i) _ at-i.one_place));
    }

    pub reads-by : leaves_by c moved leaves 0 (seen 0)
    reads-by = (reads, tt)

    pub follows-by : speaks (flat y).kind ≡ true → MayFollow (all_at (log_by c moved i)) (flat y)
    follows-by s = subst (λ (l : LogState). MayFollow (all_at l) (flat y)) (sym one) (may.follows s)

    -- the epoch that log i is in with its tail
    pub epoch-was : (bytes : List ℕ) → leaves i bytes → IsEpochOf m pend i (past_at (master bytes) (forced (log_at c i))).epoch
    epoch-was bytes left = subst (λ (l : LogState). IsEpochOf m pend i (past_at (master bytes) (forced l)).epoch) one
        ((g.half moved).epochs i may.low may.high bytes (left, no-place (other_at c i) _ at-i.one_place)).1

    pub half-more : IsSoundly (leaves_by c moved leaves) (log_by new moved)
        → Gives (tails_of (log_by new moved)) (may_of (leaves_by c moved leaves))
        (λ keeps. values m pend' (kept_logs (tails_of (log_by new moved)) keeps))
        → ((j epoch : ℕ) → IsEpochOf m pend j epoch → IsEpochOf m pend' j epoch)
        → ((bytes : List ℕ) → leaves i bytes
        → IsEpochOf m pend' i (past_at (master bytes) (forced (with_record y spare (log_at c i)))).epoch)
        → Half seen (leaves_by new moved leaves) (log_by new moved) pend' new m
    unfolding appends
    half-more soundly gives later started =
        subst (λ (starts : ℕ → ℕ). Half seen
        (λ d bytes. leaves d bytes × IfSome (other_at c d) (λ place. (master bytes).start ≡ cond (moved d) place (starts d)))
        (log_by new moved) pend' new m)
        (sym (fun_ext start-same))
        (half-sealed i y seen (leaves_by c moved leaves) (log_by c moved) (log_by new moved) pend pend' c
        (with_record y spare (log_at c i)) table epochs m
        (g.half moved) appends reads-by by.no_page may.own follows-by numbered above soundly gives later
        (λ bytes left. subst (λ (l : LogState). IsEpochOf m pend' i
        (past_at (master bytes) (forced (with_record y spare l))).epoch) (sym one)
        (started bytes left.0)))

  -- ---- devices

  epoch-there : (j : ℕ) → (past_at (master (seen j)) (forced (log_at c j))).epoch ≡ epoch_at c j
      → (past_at (master (seen j)) (forced (log_at new j))).epoch ≡ among 0 epochs j
  epoch-there j was = ⊎_elim
      (λ is. subst (λ (k : ℕ). (past_at (master (seen k)) (forced (log_at new k))).epoch ≡ among 0 epochs k) (sym is)
      (ap (λ (l : LogState). (past_at (master (seen i)) (forced l)).epoch) log-here
      ∙ by.epoch_here (seen i) (subst (λ (k : ℕ). (past_at (master (seen k)) (forced (log_at c k))).epoch ≡ epoch_at c k) is was)))
      (λ ne. ap (λ (l : LogState). (past_at (master (seen j)) (forced l)).epoch) (log-else j ne) ∙ was ∙ sym (by.epoch_else j ne))
      (cases_eq j i)

  settled-there : (j : ℕ) → 1 ≤ j → j ≤ 8 → is_loose c j ≡ false → IsSettledAt seen leaves new j
  settled-there j lo hi e = let s = g.settled j lo hi e in record {
    only = s.only;
    stands = ap (λ (start : ℕ). reading start (area (seen j))) (start-same j) ∙ s.stands
        ∙ sym (ap₂ Whole (same-there (λ (l : LogState). l.groups) refl j) (same-there (λ (l : LogState). l.gate) refl j));
    one_place = s.one_place;
    counted = s.counted;
    epoch = epoch-there j s.epoch;
  }

  -- ---- LSNs, and what is owed

  last-there : (j : ℕ) → 1 ≤ j → j ≤ 8 → Each (λ x. x.lsn ≤ last_lsn (scanned (log_at new j))) (all_at (log_at new j))
  last-there j lo hi = ⊎_elim
      (λ is. subst (λ (k : ℕ). Each (λ x. x.lsn ≤ last_lsn (scanned (log_at new k))) (all_at (log_at new k))) (sym is)
      (subst (Each (λ (x : Rec). x.lsn ≤ last_lsn (scanned (log_at new i)))) (sym all-here)
      (subst (λ (l : LogState). Each (λ x. x.lsn ≤ last_lsn (scanned l)) (all_at (log_at c i) ++ flat y ∷ [])) (sym log-here)
      (last-grows (log_at c i) y spare 0 (all_at (log_at c i)) (g.last i may.low may.high) may.lsn))))
      (λ ne. subst (λ (l : LogState). Each (λ x. x.lsn ≤ last_lsn (scanned l)) (all_at l)) (sym (log-else j ne)) (g.last j lo hi))
      (cases_eq j i)

  owes-there : (moved : Keeps) (j : ℕ) → 1 ≤ j → j ≤ 8 → is_loose c j ≡ true → OwesAtMost (owed_at c j) (log_by new moved j)
  owes-there moved j lo hi loose = ⊎_elim
      (λ is. let e = sym loose ∙ ap (is_loose c) is ∙ may.settled in absurd (cc))
      (λ ne. subst (OwesAtMost (owed_at c j)) (sym (by-else moved j ne)) (g.owed_loose moved j lo hi loose))
      (cases_eq j i)

  -- ---- checkpoints

  checks-there : (j : ℕ) (k : Begun) → check_at c j ≡ Some k → IsChecking new j k
  checks-there j k is = let old = g.checking j k is in record {
    takes = old.takes;
    spelled = old.spelled;
    begun = ⊎_elim
        (λ e. subst (λ (n : ℕ). k.begin ≤ last_lsn (scanned (log_at new n))) (sym e)
        (subst (λ (l : LogState). k.begin ≤ last_lsn (scanned l)) (sym log-here)
        (let begun = subst (λ (n : ℕ). k.begin ≤ last_lsn (scanned (log_at c n))) e old.begun in
        let lsn = may.lsn in let is = last-more (log_at c i) y spare in omega (arith, begun, lsn, is))))
        (λ ne. subst (λ (l : LogState). k.begin ≤ last_lsn (scanned l)) (sym (log-else j ne)) old.begun)
        (cases_eq j i);
  }

  -- ---- who may have further records

  going-there : (t : TxnId) → 1 ≤ home t → home t ≤ 8 → GoesOn pend' t (m.part t) → IsOpen t (all_at (log_at new (home t)))
  going-there t lo hi on =
      let old = g.going t lo hi (by.goes t on) in ⊎_elim
      (λ e. subst (λ (j : ℕ). IsOpen t (all_at (log_at new j))) (sym e)
      (subst (IsOpen t) (sym all-here)
      (Each-append (λ (x : Rec). (ends x.kind && same_txn x.txn t) ≡ false) (all_at (log_at c i)) (flat y ∷ [])
      (subst (λ (j : ℕ). IsOpen t (all_at (log_at c j))) e old) (by.off t on, tt))))
      (λ ne. subst (λ (l : LogState). IsOpen t (all_at l)) (sym (log-else (home t) ne)) old)
      (cases_eq (home t) i)

  known-there : (moved : Keeps) (p : ℕ) (x : Page) → may_of leaves p x → IsKnownLsn new (log_by new moved) x.lsn
  known-there moved p x left = known-still c new (log_by c moved) (log_by new moved) x.lsn refl
      (bases-by c new i at-i.one_place (λ j. refl) (base-same i) log-else moved) (g.disk_lsns moved p x left)

  -- ---- instances

  instance-there : ((t : TxnId) → home t ≡ i → IsInDoubt (m.part t).life → fate t (all_at (log_at c i)) ≢ Fate.Committed
      → fate t (all_at (log_at new i)) ≢ Fate.Committed)
      → (k : ℕ) → 1 ≤ k → k ≤ 8 → IsInstance new m k
  instance-there doubts k lo hi = let old = g.instances k lo hi in record {
    status = old.status;
    epoch = λ up. epoch-up k up ∙ old.epoch up;
    begins = λ up. table-same (λ (rows : Transactions). begins_in rows (m.inst k).epoch) (by.begins (m.inst k).epoch) k ∙ old.begins up;
    first = old.first;
    own = λ t ne. none-by (txn_at (txns_at new k) t) (txn_at (txns_at c k) t)
        (table-same (λ (rows : Transactions). state_at rows t) (by.states t) k) (old.own t ne);
    table = let e = table-same (λ (rows : Transactions). rows.epoch) by.table_epoch k in let o = old.table in omega (arith, e, o);
    names = λ t own. names-alike (txn_at (txns_at c k) t) (txn_at (txns_at new k) t) (m.part t).life
        (fate t (base_at (log_at new k)))
        (fate t (all_at (log_at new k))) (table-same (λ (rows : Transactions). state_at rows t) (by.states t) k)
        (subst (λ (base : List Rec). NamesLife (txn_at (txns_at c k) t) (m.part t).life (fate t base)
        (fate t (all_at (log_at new k)))) (sym (base-same k))
        (⊎_elim
        (λ same. names-sealed (txn_at (txns_at c k) t) (m.part t).life (fate t (base_at (log_at c k)))
        (fate t (all_at (log_at c k))) (fate t (all_at (log_at new k)))
        (subst (λ (j : ℕ). IsInDoubt (m.part t).life → fate t (all_at (log_at c j)) ≢ Fate.Committed
        → fate t (all_at (log_at new j)) ≢ Fate.Committed) (sym same)
        (doubts t (own ∙ same)))
        (old.names t own))
        (λ ne. subst (λ (l : LogState). NamesLife (txn_at (txns_at c k) t) (m.part t).life (fate t (base_at (log_at c k)))
        (fate t (all_at l))) (sym (log-else k ne)) (old.names t own))
        (cases_eq k i)));
  }
    where
      epoch-up : (k : ℕ) → status_at c k ≡ S.Up → among 0 epochs k ≡ epoch_at c k
      epoch-up k up = ⊎_elim
          (λ is. subst (λ (j : ℕ). among 0 epochs j ≡ epoch_at c j) (sym is)
          (by.epoch_up (subst (λ (j : ℕ). status_at c j ≡ S.Up) is up)))
          (λ ne. by.epoch_else k ne)
          (cases_eq k i)

  told-there : IsTold new m i → (k : ℕ) → 1 ≤ k → k ≤ 8 → tells_log (status_at c k) ≡ true → is_loose c k ≡ false → IsTold new m k
  told-there here k lo hi tells e = ⊎_elim
      (λ same. subst (IsTold new m) (sym same) here)
      (λ ne.
      let old = g.told k lo hi tells e in
      let l : log_at c k ≡ log_at new k = sym (log-else k ne) in
      let r : txns_at c k ≡ txns_at new k = sym (txns-else k ne) in
      record {
        rows = λ t own. subst (λ (rows : Transactions). RowIsLogged (txn_at rows t) t (all_at (log_at new k))) r
            (subst (λ (log : LogState). RowIsLogged (txn_at (txns_at c k) t) t (all_at log)) l (old.rows t own));
        owes = ap owed_of (sym r) ∙ old.owes ∙ ap (λ (log : LogState). owed (all_at log)) l;
        reserves = ap reserve_of (sym r) ∙ old.reserves ∙ ap (λ (log : LogState). reserve (all_at log)) l;
        spare = λ up. subst (λ (log : LogState). reserve (all_at log) ≤ log.spare) l (old.spare up);
      })
      (cases_eq k i)

  rests-there : (k : ℕ) → tells_log (status_at c k) ≡ false → (log_at c k).tail ≡ [] → (log_at new k).tail ≡ []
  rests-there k rests none = ⊎_elim
      (λ same. let tells = may.tells in
      let clash : true ≡ false = sym tells ∙ ap (λ (j : ℕ). tells_log (status_at c j)) (sym same) ∙ rests in absurd (cc))
      (λ ne. ap (λ (l : LogState). l.tail) (log-else k ne) ∙ none)
      (cases_eq k i)

  stack-there : (t : TxnId) (k : ℕ) → stack t (all_at (log_at new k)) ≡ stack t (all_at (log_at c k))
  stack-there t k = ⊎_elim
      (λ same. subst (λ (j : ℕ). stack t (all_at (log_at new j)) ≡ stack t (all_at (log_at c j))) (sym same)
      (ap (stack t) all-here ∙ stack-same t (all_at (log_at c i)) (flat y) by.no_page))
      (λ ne. ap (λ (l : LogState). stack t (all_at l)) (log-else k ne))
      (cases_eq k i)

  older-there : (k : ℕ) → Each (IsOlder (epoch_at c k)) (all_at (log_at c k)) → (m.inst k).epoch < epoch_at c k
      → Each (IsOlder (epoch_at c k)) (all_at (log_at new k))
  older-there k older above = ⊎_elim
      (λ same. subst (λ (n : ℕ). Each (IsOlder (epoch_at c n)) (all_at (log_at new n))) (sym same)
      (subst (Each (IsOlder (epoch_at c i))) (sym all-here)
      (older-more m i (epoch_at c i) (flat y) (all_at (log_at c i)) (subst (λ (n : ℕ). (m.inst n).epoch < epoch_at c n) same above) may.own
      (λ spoken. began-there m (flat y).txn g.listed (by.there spoken))
      (subst (λ (n : ℕ). Each (IsOlder (epoch_at c n)) (all_at (log_at c n))) same older))))
      (λ ne. subst (λ (l : LogState). Each (IsOlder (epoch_at c k)) (all_at l)) (sym (log-else k ne)) older)
      (cases_eq k i)

  -- what is under way still is, where the record commits nobody and begins no epoch
  pub pending-there : epochs ≡ c.epochs → is_commit (flat y).kind ≡ false → (q : Pending) → IsUnderWay c m q → IsUnderWay new m q
  pending-there stay none Pending.Idle u = u
  pending-there stay none (Pending.Commits t) u = record {
    runs = u.runs;
    up = u.up;
    committed = ⊎_elim
        (λ e. subst (λ (j : ℕ). list_any (commits t) (all_at (log_at new j)) ≡ true) (sym e)
        (ap (list_any (commits t)) all-here ∙ commits-same t (all_at (log_at c i)) (flat y) none
        ∙ subst (λ (j : ℕ). list_any (commits t) (all_at (log_at c j)) ≡ true) e u.committed))
        (λ ne. ap (λ (l : LogState). list_any (commits t) (all_at l)) (log-else (home t) ne) ∙ u.committed)
        (cases_eq (home t) i);
  }
  pending-there stay none (Pending.Starts k) u =
      let same : among 0 epochs k ≡ epoch_at c k = ap (λ (l : List ℕ). among 0 l k) stay in
      record {
        waits = u.waits;
        above = subst (λ (n : ℕ). (m.inst k).epoch < n) (sym same) u.above;
        older = subst (λ (n : ℕ). Each (IsOlder n) (all_at (log_at new k))) (sym same) (older-there k u.older u.above);
      }

  -- nor does it commit one in doubt
  pub doubts-stay : is_commit (flat y).kind ≡ false → (t : TxnId) → fate t (all_at (log_at c i)) ≢ Fate.Committed
      → fate t (all_at (log_at new i)) ≢ Fate.Committed
  doubts-stay none t off is = off (committed-fate t (all_at (log_at c i))
      (sym (commits-same t (all_at (log_at c i)) (flat y) none) ∙ ap (list_any (commits t)) (sym all-here)
      ∙ fate-committed t (all_at (log_at new i)) is))

  -- each record is of one that has begun
  begun-then : (k : ℕ) → 1 ≤ k → k ≤ 8 → status_at c k ≡ S.Up → Each (IsOfBegun (m.inst k)) (all_at (log_at new k))
  begun-then k lo hi up = ⊎_elim
      (λ same. subst (λ (n : ℕ). Each (IsOfBegun (m.inst n)) (all_at (log_at new n))) (sym same)
      (subst (Each (IsOfBegun (m.inst i))) (sym all-here)
      (let up-i : status_at c i ≡ S.Up = ap (status_at c) (sym same) ∙ up in
      begun-more m i (flat y) (all_at (log_at c i)) (sym (g.instances i may.low may.high).status ∙ up-i) may.own
      (λ spoken. began-there m (flat y).txn g.listed (by.there spoken)) (g.begun i may.low may.high up-i))))
      (λ ne. subst (λ (l : LogState). Each (IsOfBegun (m.inst k)) (all_at l)) (sym (log-else k ne)) (g.begun k lo hi up))
      (cases_eq k i)

  pub sealed-good : ((moved : Keeps) → Half seen (leaves_by new moved leaves) (log_by new moved) pend' new m)
      → ((t : TxnId) → home t ≡ i → IsInDoubt (m.part t).life → fate t (all_at (log_at c i)) ≢ Fate.Committed
      → fate t (all_at (log_at new i)) ≢ Fate.Committed)
      → IsTold new m i → IsUnderWay new m pend' → Good seen leaves pend' new m
  sealed-good half doubts told pending = record {
    shape = record {
      logs = length-set c.logs (i - 1) (with_record y spare (log_at c i)) ∙ g.shape.logs;
      pools = g.shape.pools;
      txns = length-set c.txns (i - 1) table ∙ g.shape.txns;
      statuses = g.shape.statuses;
      epochs = by.eight;
      masters = g.shape.masters;
      checks = g.shape.checks;
      others = g.shape.others;
      owed = g.shape.owed;
      loose = g.shape.loose;
      own_log = λ j lo hi. same-there (λ (l : LogState). l.inst) refl j ∙ g.shape.own_log j lo hi;
      own_txns = λ j lo hi. table-same (λ (rows : Transactions). rows.inst) by.inst j ∙ g.shape.own_txns j lo hi;
    };
    half = half;
    places = λ j place other bytes left. subst (λ (start : ℕ). ((master bytes).start ≡ place) ⊎ ((master bytes).start ≡ start))
        (sym (start-same j)) (g.places j place other bytes left);
    others = others-still seen leaves pend c m g new i may.settled txns-else;
    settled = settled-there;
    disk_settled = g.disk_settled;
    disk_lsns = known-there;
    last = last-there;
    owed = λ j lo hi settled. g.owed j lo hi settled ∙ ap owed (sym (base-same j));
    owed_loose = owes-there;
    kept = g.kept;
    placed = g.placed;
    listed = g.listed;
    marked = g.marked;
    named = g.named;
    numbered = g.numbered;
    recoverers = g.recoverers;
    not_closed = g.not_closed;
    instances = instance-there doubts;
    told = told-there told;
    at_rest = λ k lo hi rests e. rests-there k rests (g.at_rest k lo hi rests e);
    begun = begun-then;
    at_work = λ k lo hi up t own not. live-alike (txn_at (txns_at c k) t) (txn_at (txns_at new k) t) t (m.part t)
        (all_at (log_at new k))
        (table-same (λ (rows : Transactions). option_map (λ (x : Transaction). x.marks) (txn_at rows t)) (by.marks t not) k)
        (live-sealed (txn_at (txns_at c k) t) t (m.part t) (all_at (log_at c k)) (all_at (log_at new k)) (stack-there t k)
        (g.at_work k lo hi up t own (by.idle t not)));
    going = going-there;
    pending = pending;
    locks = g.locks;
    gone = g.gone;
    asks = g.asks;
    checking = checks-there;
  }
