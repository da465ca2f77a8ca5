-- A change as the call makes it is one that the law asks for. For `change`.
use Rattle.std.proofs.Common.{◌≡◌, ◌≢◌, ⊎_elim, ℕ, ◌+◌, ◌^◌, ◌<◌, ◌≤◌, Bool, true, false, cond, eqb, eq-eqb, length, max, refl, sym, ap, ◌∙◌, subst, arith}
use Rattle.std.specs.Prelude.{None, Some, option_map}
use Rattle.std.proofs.lemmas.Bool.{cases_eq, cases_lt, ne_eqb}
use Rattle.sd_base.specs.declared.ids.TxnId.{TxnId}
use Rattle.sd_base.specs.declared.ids.Rid.{Rid}
use Rattle.sd_base.specs.declared.place.Mode.TheVariants as modes
use Rattle.sd_base.specs.declared.place.Status.TheVariants as S
use Rattle.sd_base.specs.Values.{size}
use Rattle.sd_logrec.specs.View.{Rec}
use Rattle.sd_logrec.specs.declared.record.Record.{Record}
use Rattle.sd_txn.specs.declared.state.OpenRec.{OpenRec}
use Rattle.sd_redo.proofs.Written.{takes-update}
use Rattle.sd_logrec.specs.Spelling.{spelled_length, spelling}
use Rattle.sd_logrec.proofs.Lengths.{length-spelling}
use Rattle.sd_log.specs.Logs.{last_lsn, needed, scanned}
use Rattle.sd_model.specs.State.{State}
use Rattle.sd_model.specs.Tables.{Content}
use Rattle.sd_page.specs.Page.{CanTake, Page, empty_page}
use Rattle.sd_pagelock.specs.Directory.{entry_at}
use Rattle.sd_pagelock.specs.Places.{owns}
use Rattle.sd_pool.specs.Buffers as buffers
use Rattle.sd_reclock.specs.Locks.{Agree, held}
use Rattle.sd_rig.specs.Devices as rig
use Rattle.sd_txn.specs.Owing.{owed_of, reserve_of}
use Rattle.sd_txn.specs.Transactions.{Transaction, Transactions, started, txn_at}
use Rattle.sd_txn.specs.declared.state.TxnState.{TxnState}
use Rattle.sd_chain.specs.Records.{Each, home}
use Rattle.sd_chain.proofs.Lists.{Each-weaker}
use Rattle.sd_chain.specs.Logs.{Outcomes, all_at}
use Rattle.sd_update.specs.Changing.{Change, FitsThere, HasRoom, IsMade, IsPut, LacksLsns, LacksRoom, MayAppend, MayWrite, change_of, changed_log, change_in, image_for, owed_then, putting, reserve_then, row_for, update, with_changed}
use Rattle.sd_state.specs.Good.{Good}
use Rattle.sd_state.specs.Parts.{Parts, is_loose, log_at, no_txns, owed_at, pool_at, status_at, txns_at, up_as}
use Rattle.sd_state.specs.Sums.{great_of, owed_in_all, owed_where, owes_most}
use Rattle.sd_state.specs.Tables.{tells_log}
use Rattle.sd_state.specs.Values.{Pending}
use Rattle.sd_update.proofs.ChangeCalls.{lone-lock, owed-more, reserve-more, state-as, there-as}
use Rattle.sd_state.proofs.Summed.{most-at, sum-same}
use Rattle.sd_update.proofs.ChangeLsns.{image-low}
use Rattle.sd_update.proofs.Changed.{change-keeps_good}
use Rattle.sd_state.proofs.Items.{item-kept, item-set}
use Rattle.sd_update.proofs.UndoneThere.{undo-finds_copy}

-- what is asked of a change before it is made
pub record Asks (t : TxnId) (r : Rid) (capacity : ℕ) (after : Content) (c : Parts) : Type 0 where
  pub low : 1 ≤ home t
  pub high : home t ≤ 8
  pub idle : c.due ≡ None
  pub up : status_at c (home t) ≡ S.Up
  pub runs : option_map (λ (x : Transaction). x.state) (txn_at (txns_at c (home t)) t) ≡ Some TxnState.Running
  pub lock : held c.locks t r ≡ Some modes.Excl
  pub agree : Agree c.locks.locks
  pub owned : owns (entry_at c.directory r.page) (home t) ≡ true
  pub fits : FitsThere t r capacity after c

module _ (t : TxnId) (r : Rid) (capacity : ℕ) (after : Content) (seen : rig.DeviceImages) (leaves : Outcomes) (c : Parts) (m : State)
    (g : Good seen leaves Pending.Idle c m) (a : Asks t r capacity after c) where
  abbrev k : Change
  k = change_of t r capacity after c

  abbrev i : ℕ
  i = home t

  abbrev x : Transaction
  x = row_for t c

  abbrev image : Page
  image = image_for t r.page c

  pub copy : buffers.image_at (pool_at c i) r.page ≡ Some image
  copy = let there = undo-finds_copy leaves seen c m i r.page g a.owned in
      there-as (buffers.image_at (pool_at c i) r.page) there.0 (empty_page r.page) there.1

  pub row : txn_at (txns_at c i) t ≡ Some x
  row = (state-as (txn_at (txns_at c i) t) TxnState.Running (started TxnState.Running) a.runs).0

  pub may : MayWrite i k x image c
  may = record {
    low = a.low;
    high = a.high;
    idle = a.idle;
    up = a.up;
    home = refl;
    state = (state-as (txn_at (txns_at c i) t) TxnState.Running (started TxnState.Running) a.runs).1;
    lock = a.lock;
    alone = lone-lock c.locks.locks t r a.agree a.lock;
    owns = a.owned;
    copy = copy;
    fits = a.fits;
  }

  pub appends : MayAppend i k x image c
  appends = record { lsn = refl; prev = refl }

  disk-low : c.disk_lsn ≤ great_of c
  disk-low = omega arith

  last-low : (j : ℕ) → 1 ≤ j → j ≤ 8 → last_lsn (scanned (log_at c j)) ≤ great_of c
  last-low j lo hi = let le = most-at (λ n. last_lsn (scanned (log_at c n))) 8 j lo hi in omega (arith, le)

  logs-low : (j : ℕ) → 1 ≤ j → j ≤ 8 → Each (λ z. z.lsn ≤ great_of c) (all_at (log_at c j))
  logs-low j lo hi = let top = last-low j lo hi in
      Each-weaker (λ (z : Rec). z.lsn ≤ last_lsn (scanned (log_at c j))) (λ (z : Rec). z.lsn ≤ great_of c) (λ z le. omega (arith, le, top))
      (all_at (log_at c j)) (g.last j lo hi)

  page-low : image.lsn ≤ great_of c
  page-low = image-low seen leaves Pending.Idle c m g (λ j. false) (great_of c) disk-low logs-low i r.page image copy

  -- where LSNs are left, there is one for the record
  pub lsn-left : (LacksLsns t c → ⊥) → k.lsn < 2 ^ 62
  lsn-left left = ⊎_elim
      (λ lt. let last = last-low i a.low a.high in let page = page-low in omega (arith, lt, last, page))
      (λ ge. absurd (left ge))
      (cases_lt (great_of c + 1 + owed_where i (max (owed_at c i) (owed_then t c)) c) (2 ^ 62))

  settled : is_loose c i ≡ false
  settled = ⊎_elim (λ e. e) (λ due. let e = sym a.idle ∙ due in absurd (cc)) ((g.half (λ j. false)).coherent.ready i a.low
      (ap up_as a.up))

  -- ---- once it is put

  module _ (new : Parts) (p : IsPut k (reserve_then k c) c new) (room : LacksRoom k c → ⊥) (left : LacksLsns t c → ⊥) where
    abbrev then_c : Parts
    then_c = with_changed i (changed_log i k p.spare c) p.table p.pool p.places c

    reserved : reserve_of p.table ≡ reserve_then k c
    reserved = reserve-more k x (reserve_of p.table) (reserve_of (txns_at c i)) p.changed.bytes

    owes : owed_of p.table ≡ owed_then t c
    owes = owed-more k x (owed_of p.table) (owed_of (txns_at c i)) p.changed.records

    abbrev own : ℕ
    own = max (owed_at c i) (owed_then t c)

    owes-own : owes_most then_c i ≡ own
    owes-own = ap (λ (b : Bool). cond b (owed_at c i) (cond (tells_log (status_at c i)) (max (owed_at c i) (owed_of (txns_at then_c i))) (owed_at c i))) settled
        ∙ ap (λ (b : Bool). cond b (max (owed_at c i) (owed_of (txns_at then_c i))) (owed_at c i)) (ap tells_log a.up)
        ∙ ap (λ (z : Transactions). max (owed_at c i) (owed_of z)) (item-set no_txns c.txns i p.table a.low a.high g.shape.txns)
        ∙ ap (λ (n : ℕ). max (owed_at c i) n) owes

    owes-else : (j : ℕ) → j ≢ i → owes_most then_c j ≡ owes_most c j
    owes-else j ne = ap (λ (z : Transactions). cond (is_loose c j) (owed_at c j) (cond (tells_log (status_at c j))
        (max (owed_at c j) (owed_of z)) (owed_at c j))) (item-kept no_txns c.txns i p.table a.low j ne)

    in-all : owed_in_all then_c ≡ owed_where i own c
    in-all = sum-same (owes_most then_c) (λ j. cond (eqb j i) own (owes_most c j)) 8 (λ j lo hi. ⊎_elim
        (λ e. ap (owes_most then_c) e ∙ owes-own ∙ ap (λ (b : Bool). cond b own (owes_most c j)) (sym (eq-eqb j i e)))
        (λ ne. owes-else j ne ∙ ap (λ (b : Bool). cond b own (owes_most c j)) (sym (ne_eqb j i ne)))
        (cases_eq j i))

    has-room : HasRoom i k p.spare (great_of c) p.table then_c c
    has-room = record {
      memory = let is = reserved in let enough = p.memory in omega (arith, is, enough);
      room = let is = reserved in let len = length-spelling (update k) in ⊎_elim
          (λ over. absurd (room over))
          (λ fits. omega (arith, is, len, fits))
          (cases_lt 1048576 (needed (log_at c i) (spelled_length (update k)) (reserve_then k c)));
      disk = disk-low;
      logs = logs-low;
      fits = let sum = in-all in ⊎_elim (λ lt. omega (arith, lt, sum)) (λ ge. absurd (left ge))
          (cases_lt (great_of c + 1 + owed_where i own c) (2 ^ 62));
    }

    pub made : IsMade k c new
    made = record { may = may; appends = appends; put = p }

    pub made-good : Good seen leaves Pending.Idle new (putting t r after m)
    made-good = subst (λ (q : Parts). Good seen leaves Pending.Idle q (putting t r after m)) (sym p.is)
        (change-keeps_good leaves i k x image p.spare (great_of c) p.table p.pool p.places seen c m g may appends p.changed has-room)

-- ---- what the call that puts it asks for

pub room-there : (k : Change) (c : Parts) (rec : Record) (reserve : ℕ) → rec ≡ update k → reserve ≡ reserve_then k c
    → (LacksRoom k c → ⊥) → needed (log_at c (home k.txn)) (length (spelling rec)) reserve ≤ 1048576
room-there k c rec reserve is same room =
    let len = ap (λ (z : Record). length (spelling z)) is ∙ length-spelling (update k) in ⊎_elim
    (λ over. absurd (room over))
    (λ fits. omega (arith, len, same, fits))
    (cases_lt 1048576 (needed (log_at c (home k.txn)) (spelled_length (update k)) (reserve_then k c)))

pub takes-there : (t : TxnId) (r : Rid) (capacity : ℕ) (after : Content) (c : Parts) (top : OpenRec) (own_capacity : ℕ) (put : Content)
    → change_in t top own_capacity put ≡ change_of t r capacity after c → capacity ≤ 256 → FitsThere t r capacity after c
    → CanTake (image_for t top.rid.page c).slots top.rid.slot own_capacity (size put)
takes-there t r capacity after c top own_capacity put is small fits =
    subst (λ (z : Change). CanTake (image_for t z.rid.page c).slots z.rid.slot z.capacity (size z.after)) (sym is)
    (takes-update (image_for t r.page c).slots r.slot capacity (change_of t r capacity after c).before after small fits)
