-- A transaction begins, takes a lock, turns or ends: what held of all others holds still. For the calls in working.rt and ending.rt.
use Rattle.std.proofs.Common.{◌≡◌, ◌≢◌, ⊎_elim, ℕ, ◌≤◌, Bool, false, cond, List, ◌++◌, [], length, sym, ap, ◌∙◌, subst, arith}
use Rattle.std.specs.Prelude.{Option, None, Some}
use Rattle.std.proofs.lemmas.Bool.{cases_eq}
use Rattle.sd_base.specs.declared.ids.TxnId.{TxnId}
use Rattle.sd_base.specs.declared.ids.Rid.{Rid}
use Rattle.sd_base.specs.declared.place.Status.TheVariants as S
use Rattle.sd_base.proofs.SameIds.{cases_txn}
use Rattle.sd_log.specs.Logs.{LogState}
use Rattle.sd_model.specs.Kept.{Kept}
use Rattle.sd_model.specs.Listed.{Listed}
use Rattle.sd_model.specs.Marks.{Marked}
use Rattle.sd_model.specs.Lives.{LivesAreSound}
use Rattle.sd_model.specs.Recoverers.{Recoverers}
use Rattle.sd_model.specs.State.{Part, State}
use Rattle.sd_model.specs.declared.act.Claim.{Claim}
use Rattle.sd_model.specs.declared.act.Inst.{Inst}
use Rattle.sd_model.specs.declared.act.Life.{Life}
use Rattle.sd_reclock.specs.Locks.{LockTable, held}
use Rattle.sd_rig.specs.Devices as rig
use Rattle.sd_txn.specs.Owing.{owed_of, reserve_of}
use Rattle.sd_txn.specs.Transactions.{OthersStay, Transaction, Transactions, begins_in, txn_at}
use Rattle.sd_chain.specs.Cuts.{cut}
use Rattle.sd_chain.specs.Fates.{fate}
use Rattle.sd_chain.specs.Storage.{Recovered}
use Rattle.sd_chain.specs.Images.{Keeps, with_disk}
use Rattle.sd_chain.specs.Records.{Each, IsOpen, home, stack}
use Rattle.sd_chain.proofs.Lists.{Each-weaker}
use Rattle.sd_chain.specs.Logs.{Logs, Outcomes, all_at, base_at, kept_logs, tail_at, tails_of}
use Rattle.sd_state.specs.Good.{Good, Half, IsInstance, IsOfBegun, IsTold, HasNumber}
use Rattle.sd_state.specs.Images.{IsClaimed, IsEpochOf, IsOpenIn, leaves_by, log_by}
use Rattle.sd_state.specs.Parts.{Parts, is_loose, log_at, no_txns, among, status_at, txns_at, up_as}
use Rattle.sd_state.specs.Tables.{GoesOn, NamedOnce, NamesLife, RowIsLive, RowIsLogged, goes_on_as, lock_of}
use Rattle.sd_state.specs.Values.{Pending, rid_of, starts_of, values}
use Rattle.sd_state.proofs.Standing.{one-place, others-still}

-- what holds of each state that a run leads to
pub record Lasts (m : State) : Type 0 where
  pub kept : Kept m
  pub placed : LivesAreSound m
  pub listed : Listed m
  pub marked : Marked m
  pub recoverers : Recoverers m

-- All but t stay as they were: their rows, their locks and their parts. The instance of t is up, and may have begun one more.
pub record OthersWork (t : TxnId) (txns : List Transactions) (locks : LockTable) (pend : Pending) (c : Parts) (m m' : State) : Type 0 where
  pub low : 1 ≤ home t
  pub high : home t ≤ 8
  pub idle : c.due ≡ None
  pub up : status_at c (home t) ≡ S.Up
  pub count : length txns ≡ 8
  pub own : (among no_txns txns (home t)).inst ≡ home t
  pub table : (among no_txns txns (home t)).epoch ≤ (m.inst (home t)).epoch
  pub tables : (j : ℕ) → j ≢ home t → among no_txns txns j ≡ txns_at c j
  pub rows : OthersStay (txns_at c (home t)) (among no_txns txns (home t)) t
  pub owes : owed_of (among no_txns txns (home t)) ≡ owed_of (txns_at c (home t))
  pub reserves : reserve_of (among no_txns txns (home t)) ≡ reserve_of (txns_at c (home t))
  pub others_held : (u : TxnId) → u ≢ t → (r : Rid) → held locks u r ≡ held c.locks u r
  pub parts : (u : TxnId) → u ≢ t → m'.part u ≡ m.part u
  pub begins : ℕ
  pub more : (m.inst (home t)).begins ≤ begins
  pub counts : begins_in (among no_txns txns (home t)) (m.inst (home t)).epoch ≡ begins
  pub inst : m'.inst (home t) ≡ record (m.inst (home t)) { begins = begins }
  pub insts : (j : ℕ) → j ≢ home t → m'.inst j ≡ m.inst j
  pub under : (u : TxnId) → u ≢ t → pend ≡ Pending.Commits u → ⊥
  pub starts : (j : ℕ) → starts_of pend j ≡ 0
  pub lasts : Lasts m'

-- What is to be shown of t: its row, its part, its locks, and that whatever a crash leaves gives the table.
pub record ItsWork (t : TxnId) (txns : List Transactions) (locks : LockTable) (pend : Pending) (c : Parts) (m m' : State) : Type 0 where
  pub values : (moved keeps : Keeps) (p s : ℕ) → values m' Pending.Idle (kept_logs (tails_of (log_by c moved)) keeps) p s
      ≡ values m pend (kept_logs (tails_of (log_by c moved)) keeps) p s
  pub claimed : (b : Bool) → IsOpenIn t (base_at (log_at c (home t)) ++ cond b (tail_at (log_at c (home t))) [])
      → IsClaimed m' t (base_at (log_at c (home t)) ++ cond b (tail_at (log_at c (home t))) [])
  pub open_held : IsOpen t (base_at (log_at c (home t)))
      → Each (λ x. (m'.part t).claims (rid_of x) ≡ Claim.Excl) (stack t (all_at (log_at c (home t))))
  pub names : NamesLife (txn_at (among no_txns txns (home t)) t) (m'.part t).life (fate t (base_at (log_at c (home t))))
      (fate t (all_at (log_at c (home t))))
  pub logged : RowIsLogged (txn_at (among no_txns txns (home t)) t) t (all_at (log_at c (home t)))
  pub live : RowIsLive (txn_at (among no_txns txns (home t)) t) t (m'.part t) (all_at (log_at c (home t)))
  pub going : GoesOn Pending.Idle t (m'.part t) → IsOpen t (all_at (log_at c (home t)))
  pub named : NamedOnce (m'.part t).marks
  pub number : (m'.part t).life ≢ Life.Gone → HasNumber t
  pub gone : (m'.part t).life ≡ Life.Gone → (r : Rid) → (m'.part t).claims r ≡ Claim.Free
  pub its_locks : (r : Rid) → held locks t r ≡ lock_of ((m'.part t).claims r)

-- an instance that is up, where no fall is due, has a settled log
pub working-settled : (seen : rig.DeviceImages) (leaves : Outcomes) (pend : Pending) (c : Parts) (m : State) (i : ℕ) → Good seen leaves pend c m
    → c.due ≡ None → 1 ≤ i → status_at c i ≡ S.Up → is_loose c i ≡ false
working-settled seen leaves pend c m i g idle low up = ⊎_elim (λ e. e) (λ due. let clash = sym idle ∙ due in absurd (cc))
    ((g.half (λ j. false)).coherent.ready i low (ap up_as up))

goes-weaker : (life : Life) (A B C : Type 0) → (A → B) → goes_on_as life A C → goes_on_as life B C
goes-weaker Life.Gone A B C f g = g
goes-weaker Life.Running A B C f g = f g
goes-weaker Life.Retained A B C f g = g
goes-weaker (Life.Rolling None) A B C f g = g
goes-weaker (Life.Rolling (Some n)) A B C f g = g
goes-weaker (Life.Doubt cut) A B C f g = g

module _ (t : TxnId) (txns : List Transactions) (locks : LockTable) (seen : rig.DeviceImages) (leaves : Outcomes) (pend : Pending) (c : Parts)
    (m m' : State) (g : Good seen leaves pend c m) (o : OthersWork t txns locks pend c m m') (w : ItsWork t txns locks pend c m m') where
  abbrev i : ℕ
  i = home t

  abbrev new : Parts
  new = record c { txns = txns; locks = locks }

  settled-here : is_loose c i ≡ false
  settled-here = working-settled seen leaves pend c m i g o.idle o.low o.up

  one : (moved : Keeps) → log_by c moved i ≡ log_at c i
  one moved = one-place c moved i (g.settled i o.low o.high settled-here).one_place

  row-else : (k : ℕ) (u : TxnId) → u ≢ t → txn_at (among no_txns txns k) u ≡ txn_at (txns_at c k) u
  row-else k u ne = ⊎_elim
      (λ e. subst (λ (j : ℕ). txn_at (among no_txns txns j) u ≡ txn_at (txns_at c j) u) (sym e) (o.rows u ne))
      (λ nk. ap (λ (tb : Transactions). txn_at tb u) (o.tables k nk))
      (cases_eq k i)

  -- what is known of the instances stays, but for the begins of i
  status-same : (j : ℕ) → (m'.inst j).status ≡ (m.inst j).status
  status-same j = ⊎_elim (λ e. subst (λ (k : ℕ). (m'.inst k).status ≡ (m.inst k).status) (sym e) (ap (λ (x : Inst). x.status) o.inst))
      (λ ne. ap (λ (x : Inst). x.status) (o.insts j ne)) (cases_eq j i)

  epoch-same : (j : ℕ) → (m'.inst j).epoch ≡ (m.inst j).epoch
  epoch-same j = ⊎_elim (λ e. subst (λ (k : ℕ). (m'.inst k).epoch ≡ (m.inst k).epoch) (sym e) (ap (λ (x : Inst). x.epoch) o.inst))
      (λ ne. ap (λ (x : Inst). x.epoch) (o.insts j ne)) (cases_eq j i)

  failed-same : (j : ℕ) → (m'.inst j).failed ≡ (m.inst j).failed
  failed-same j = ⊎_elim (λ e. subst (λ (k : ℕ). (m'.inst k).failed ≡ (m.inst k).failed) (sym e) (ap (λ (x : Inst). x.failed) o.inst))
      (λ ne. ap (λ (x : Inst). x.failed) (o.insts j ne)) (cases_eq j i)

  epoch-there : (j epoch : ℕ) → IsEpochOf m pend j epoch → IsEpochOf m' Pending.Idle j epoch
  epoch-there j epoch e =
      let n = epoch-same j in let f = failed-same j in let s = o.starts j in let lo = e.low in let hi = e.high in
      record { low = omega (arith, n, lo); high = omega (arith, n, f, s, hi) }

  -- ---- wherever logs begin

  module _ (moved : Keeps) where
    abbrev logs : Logs
    logs = log_by c moved

    h : Half seen (leaves_by c moved leaves) logs pend c m
    h = g.half moved

    kept-here : (keeps : Keeps) → kept_logs (tails_of logs) keeps i ≡ base_at (log_at c i) ++ cond (keeps i) (tail_at (log_at c i)) []
    kept-here keeps = ap (λ (l : LogState). base_at l ++ cond (keeps i) (tail_at l) []) (one moved)

    claimed-there : (keeps : Keeps) (u : TxnId) → IsOpenIn u (kept_logs (tails_of logs) keeps (home u))
        → IsClaimed m' u (kept_logs (tails_of logs) keeps (home u))
    claimed-there keeps u opens = ⊎_elim
        (λ e. subst (λ (v : TxnId). IsOpenIn v (kept_logs (tails_of logs) keeps (home v)) → IsClaimed m' v (kept_logs (tails_of logs) keeps (home v)))
        (sym e) (λ there. subst (IsClaimed m' t) (sym (kept-here keeps)) (w.claimed (keeps i) (subst (IsOpenIn t) (kept-here keeps) there))) opens)
        (λ ne. let old = h.claimed keeps u opens in record {
          there = subst (λ (p : Part). p.life ≢ Life.Gone) (sym (o.parts u ne)) old.there;
          claims = subst (λ (p : Part). Each (λ x. p.claims (rid_of x) ≡ Claim.Excl) (stack u (kept_logs (tails_of logs) keeps (home u))))
              (sym (o.parts u ne)) old.claims;
        })
        (cases_txn u t)

    held-there : (u : TxnId) → IsOpen u (base_at (logs (home u)))
        → Each (λ x. (m'.part u).claims (rid_of x) ≡ Claim.Excl) (stack u (all_at (logs (home u))))
    held-there u opens = ⊎_elim
        (λ e. subst (λ (v : TxnId). IsOpen v (base_at (logs (home v)))
        → Each (λ x. (m'.part v).claims (rid_of x) ≡ Claim.Excl) (stack v (all_at (logs (home v))))) (sym e)
        (subst (λ (l : LogState). IsOpen t (base_at l) → Each (λ x. (m'.part t).claims (rid_of x) ≡ Claim.Excl) (stack t (all_at l)))
        (sym (one moved)) w.open_held) opens)
        (λ ne. subst (λ (p : Part). Each (λ x. p.claims (rid_of x) ≡ Claim.Excl) (stack u (all_at (logs (home u))))) (sym (o.parts u ne))
        (h.held u opens))
        (cases_txn u t)

    half-there : Half seen (leaves_by c moved leaves) logs Pending.Idle new m'
    half-there = record {
      coherent = h.coherent;
      soundly = h.soundly;
      gives = λ disk allowed keeps p s. subst (Recovered (cut keeps (with_disk (tails_of logs) disk)) p s) (sym (w.values moved keeps p s))
          (h.gives disk allowed keeps p s);
      claimed = claimed-there;
      held = held-there;
      epochs = λ j lo hi bytes left. let old = h.epochs j lo hi bytes left in (epoch-there j _ old.0, epoch-there j _ old.1);
      checks = h.checks;
    }

  -- ---- instances and their tables

  names-there : (k : ℕ) → 1 ≤ k → k ≤ 8 → (u : TxnId) → home u ≡ k
      → NamesLife (txn_at (among no_txns txns k) u) (m'.part u).life (fate u (base_at (log_at c k))) (fate u (all_at (log_at c k)))
  names-there k lo hi u own = ⊎_elim
      (λ e. subst (λ (v : TxnId). home v ≡ k
      → NamesLife (txn_at (among no_txns txns k) v) (m'.part v).life (fate v (base_at (log_at c k))) (fate v (all_at (log_at c k)))) (sym e)
      (λ here. subst (λ (j : ℕ). NamesLife (txn_at (among no_txns txns j) t) (m'.part t).life (fate t (base_at (log_at c j))) (fate t (all_at (log_at c j))))
      here w.names) own)
      (λ ne. subst (λ (p : Part). NamesLife (txn_at (among no_txns txns k) u) p.life (fate u (base_at (log_at c k))) (fate u (all_at (log_at c k))))
      (sym (o.parts u ne))
      (subst (λ (row : Option Transaction). NamesLife row (m.part u).life (fate u (base_at (log_at c k))) (fate u (all_at (log_at c k))))
      (sym (row-else k u ne)) ((g.instances k lo hi).names u own)))
      (cases_txn u t)

  begins-there : (k : ℕ) → 1 ≤ k → k ≤ 8 → status_at c k ≡ S.Up → begins_in (among no_txns txns k) (m'.inst k).epoch ≡ (m'.inst k).begins
  begins-there k lo hi up = ⊎_elim
      (λ e. subst (λ (j : ℕ). begins_in (among no_txns txns j) (m'.inst j).epoch ≡ (m'.inst j).begins) (sym e)
      (subst (λ (x : Inst). begins_in (among no_txns txns i) x.epoch ≡ x.begins) (sym o.inst) o.counts))
      (λ ne. subst (λ (x : Inst). begins_in (among no_txns txns k) x.epoch ≡ x.begins) (sym (o.insts k ne))
      (ap (λ (tb : Transactions). begins_in tb (m.inst k).epoch) (o.tables k ne) ∙ (g.instances k lo hi).begins up))
      (cases_eq k i)

  instance-there : (k : ℕ) → 1 ≤ k → k ≤ 8 → IsInstance new m' k
  instance-there k lo hi = let old = g.instances k lo hi in record {
    status = old.status ∙ sym (status-same k);
    epoch = λ up. old.epoch up ∙ sym (epoch-same k);
    first = λ up. let one = old.first up in let e = epoch-same k in omega (arith, one, e);
    table = ⊎_elim
        (λ e. subst (λ (j : ℕ). (among no_txns txns j).epoch ≤ (m'.inst j).epoch) (sym e)
        (let le = o.table in let n = ap (λ (x : Inst). x.epoch) o.inst in omega (arith, le, n)))
        (λ ne. let le = old.table in let tb = ap (λ (tb : Transactions). tb.epoch) (o.tables k ne) in let n = epoch-same k in
        omega (arith, le, tb, n))
        (cases_eq k i);
    begins = begins-there k lo hi;
    own = λ u ne. ⊎_elim
        (λ e. ap (λ (tb : Transactions). txn_at tb u) (o.tables k (λ same. ne (ap home e ∙ sym same))) ∙ old.own u ne)
        (λ off. row-else k u off ∙ old.own u ne)
        (cases_txn u t);
    names = names-there k lo hi;
  }

  told-there : (k : ℕ) → IsTold c m k → IsTold new m' k
  told-there k old = record {
    rows = λ u own. ⊎_elim
        (λ e. subst (λ (v : TxnId). home v ≡ k → RowIsLogged (txn_at (among no_txns txns k) v) v (all_at (log_at c k))) (sym e)
        (λ here. subst (λ (j : ℕ). RowIsLogged (txn_at (among no_txns txns j) t) t (all_at (log_at c j))) here w.logged) own)
        (λ ne. subst (λ (row : Option Transaction). RowIsLogged row u (all_at (log_at c k))) (sym (row-else k u ne)) (old.rows u own))
        (cases_txn u t);
    owes = ⊎_elim (λ e. subst (λ (j : ℕ). owed_of (among no_txns txns j) ≡ owed_of (txns_at c j)) (sym e) o.owes)
        (λ ne. ap owed_of (o.tables k ne)) (cases_eq k i) ∙ old.owes;
    reserves = ⊎_elim (λ e. subst (λ (j : ℕ). reserve_of (among no_txns txns j) ≡ reserve_of (txns_at c j)) (sym e) o.reserves)
        (λ ne. ap reserve_of (o.tables k ne)) (cases_eq k i) ∙ old.reserves;
    spare = old.spare;
  }

  work-there : (k : ℕ) → 1 ≤ k → k ≤ 8 → status_at c k ≡ S.Up → (u : TxnId) → home u ≡ k
      → (Pending.Idle ≡ Pending.Commits u → ⊥) → RowIsLive (txn_at (among no_txns txns k) u) u (m'.part u) (all_at (log_at c k))
  work-there k lo hi up u own idle = ⊎_elim
      (λ e. subst (λ (v : TxnId). home v ≡ k → RowIsLive (txn_at (among no_txns txns k) v) v (m'.part v) (all_at (log_at c k))) (sym e)
      (λ here. subst (λ (j : ℕ). RowIsLive (txn_at (among no_txns txns j) t) t (m'.part t) (all_at (log_at c j))) here w.live) own)
      (λ ne. subst (λ (p : Part). RowIsLive (txn_at (among no_txns txns k) u) u p (all_at (log_at c k))) (sym (o.parts u ne))
      (subst (λ (row : Option Transaction). RowIsLive row u (m.part u) (all_at (log_at c k))) (sym (row-else k u ne))
      (g.at_work k lo hi up u own (o.under u ne))))
      (cases_txn u t)

  begun-there : (k : ℕ) → 1 ≤ k → k ≤ 8 → status_at c k ≡ S.Up → Each (IsOfBegun (m'.inst k)) (all_at (log_at c k))
  begun-there k lo hi up = ⊎_elim
      (λ e. subst (λ (j : ℕ). Each (IsOfBegun (m'.inst j)) (all_at (log_at c j))) (sym e)
      (subst (λ (x : Inst). Each (IsOfBegun x) (all_at (log_at c i))) (sym o.inst)
      (Each-weaker (IsOfBegun (m.inst i)) (IsOfBegun (record (m.inst i) { begins = o.begins }))
      (λ x was spoken epoch. let le = was spoken epoch in let more = o.more in omega (arith, le, more)) (all_at (log_at c i))
      (g.begun i o.low o.high o.up))))
      (λ ne. subst (λ (x : Inst). Each (IsOfBegun x) (all_at (log_at c k))) (sym (o.insts k ne)) (g.begun k lo hi up))
      (cases_eq k i)

  going-there : (u : TxnId) → 1 ≤ home u → home u ≤ 8 → GoesOn Pending.Idle u (m'.part u) → IsOpen u (all_at (log_at c (home u)))
  going-there u lo hi goes = ⊎_elim
      (λ e. subst (λ (v : TxnId). GoesOn Pending.Idle v (m'.part v) → IsOpen v (all_at (log_at c (home v)))) (sym e) w.going goes)
      (λ ne. g.going u lo hi (goes-weaker (m.part u).life _ _ _ (λ _. o.under u ne) (subst (GoesOn Pending.Idle u) (o.parts u ne) goes)))
      (cases_txn u t)

  own-there : (j : ℕ) → 1 ≤ j → j ≤ 8 → (among no_txns txns j).inst ≡ j
  own-there j lo hi = ⊎_elim
      (λ e. subst (λ (k : ℕ). (among no_txns txns k).inst ≡ k) (sym e) o.own)
      (λ ne. ap (λ (tb : Transactions). tb.inst) (o.tables j ne) ∙ g.shape.own_txns j lo hi)
      (cases_eq j i)

  locks-there : (u : TxnId) (r : Rid) → held locks u r ≡ lock_of ((m'.part u).claims r)
  locks-there u r = ⊎_elim
      (λ e. subst (λ (v : TxnId). held locks v r ≡ lock_of ((m'.part v).claims r)) (sym e) (w.its_locks r))
      (λ ne. o.others_held u ne r ∙ g.locks u r ∙ ap (λ (p : Part). lock_of (p.claims r)) (sym (o.parts u ne)))
      (cases_txn u t)

  pub working-good : Good seen leaves Pending.Idle new m'
  working-good = record {
    shape = record {
      logs = g.shape.logs;
      pools = g.shape.pools;
      txns = o.count;
      statuses = g.shape.statuses;
      epochs = g.shape.epochs;
      masters = g.shape.masters;
      checks = g.shape.checks;
      others = g.shape.others;
      owed = g.shape.owed;
      loose = g.shape.loose;
      own_log = g.shape.own_log;
      own_txns = own-there;
    };
    half = half-there;
    places = g.places;
    others = others-still seen leaves pend c m g new i settled-here o.tables;
    settled = λ j lo hi e. let s = g.settled j lo hi e in
        record { only = s.only; stands = s.stands; one_place = s.one_place; counted = s.counted; epoch = s.epoch };
    disk_settled = g.disk_settled;
    disk_lsns = g.disk_lsns;
    last = g.last;
    owed = g.owed;
    owed_loose = g.owed_loose;
    kept = o.lasts.kept;
    placed = o.lasts.placed;
    listed = o.lasts.listed;
    marked = o.lasts.marked;
    numbered = λ u there. ⊎_elim
        (λ e. subst (λ (v : TxnId). (m'.part v).life ≢ Life.Gone → HasNumber v) (sym e) w.number there)
        (λ ne. g.numbered u (λ e. there (ap (λ (p : Part). p.life) (o.parts u ne) ∙ e)))
        (cases_txn u t);
    named = λ u. ⊎_elim (λ e. subst (λ (v : TxnId). NamedOnce (m'.part v).marks) (sym e) w.named)
        (λ ne. subst (λ (p : Part). NamedOnce p.marks) (sym (o.parts u ne)) (g.named u)) (cases_txn u t);
    recoverers = o.lasts.recoverers;
    not_closed = λ shut. g.not_closed (sym (status-same 1) ∙ shut);
    instances = instance-there;
    told = λ k lo hi tells e. told-there k (g.told k lo hi tells e);
    at_rest = g.at_rest;
    begun = begun-there;
    at_work = work-there;
    going = going-there;
    pending = tt;
    gone = λ u e r. ⊎_elim
        (λ same. subst (λ (v : TxnId). (m'.part v).life ≡ Life.Gone → (m'.part v).claims r ≡ Claim.Free) (sym same) (λ it. w.gone it r) e)
        (λ ne. ap (λ (p : Part). p.claims r) (o.parts u ne) ∙ g.gone u (sym (ap (λ (p : Part). p.life) (o.parts u ne)) ∙ e) r)
        (cases_txn u t);
    locks = locks-there;
    asks = g.asks;
    checking = λ k b is. let old = g.checking k b is in record { takes = old.takes; spelled = old.spelled; begun = old.begun };
  }
