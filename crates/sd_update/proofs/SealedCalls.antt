-- What the calls find that end a transaction with a record: for `seal_commit` and `seal_end`.
use Rattle.std.proofs.Common.{◌≡◌, ◌≢◌, ℕ, ◌-◌, ◌^◌, ◌<◌, ◌≤◌, min, true, false, List, [], ◌∷◌, refl, sym, ap, ap₂, ◌∙◌, subst, arith, ⊎_elim}
use Rattle.std.specs.Prelude.{Option, None, Some, IsSome, Result, Ok, Err, OnErr, OnOk, is_some, length, map, option_and_then, option_map, reverse}
use Rattle.std.specs.Option.{option_map_or}
use Rattle.sd_base.specs.declared.ids.TxnId.{TxnId}
use Rattle.sd_base.specs.declared.place.Status.TheVariants as S
use Rattle.sd_logrec.specs.Spelling.{spelling}
use Rattle.sd_logrec.specs.View.{Rec, flat}
use Rattle.sd_logrec.specs.View.Kind.{End}
use Rattle.sd_logrec.specs.declared.record.Record.{Record}
use Rattle.sd_logrec.specs.declared.record.Record.TheVariants as records
use Rattle.sd_log.specs.Logs.{needed}
use Rattle.sd_model.specs.Acts.{live}
use Rattle.sd_model.specs.State.{State}
use Rattle.sd_model.specs.declared.act.Life.{Life}
use Rattle.sd_rig.specs.Devices as rig
use Rattle.sd_txn.specs.Owing.{bytes_owed, owed_of, records_owed, reserve_of}
use Rattle.sd_txn.specs.Transactions.{Transaction, shut, span_at, state_at, txn_at}
use Rattle.sd_txn.specs.declared.state.TxnState.{TxnState}
use Rattle.sd_txn.proofs.Owing.{total-emptied}
use Rattle.sd_chain.specs.Bytes.{disk_page}
use Rattle.sd_chain.specs.Checks.{lsn_of, owed}
use Rattle.sd_chain.specs.Fates.{fate}
use Rattle.sd_chain.specs.Images.{Keeps, all_kept}
use Rattle.sd_chain.specs.Order.{after_all, none_yet}
use Rattle.sd_chain.specs.Records.{IsOpen, ends, home, stack}
use Rattle.sd_chain.specs.Logs.{HasRecord, Outcomes, all_at, base_at, next_lsn}
use Rattle.sd_chain.proofs.Lsns.{next_lsn-there}
use Rattle.sd_chain.proofs.Owing.{end-owes}
use Rattle.sd_state.specs.Good.{Good}
use Rattle.sd_state.specs.Images.{leaves_by, log_by}
use Rattle.sd_state.specs.Parts.{Parts, is_loose, log_at, status_at, txns_at, up_as}
use Rattle.sd_update.specs.Sealing.{HasEnd, IsShutBy, MayPutEnd, MaySeal, commit_of, end_of, prev_of, with_last}
use Rattle.sd_state.specs.Tables.{GoesOn, IsInDoubt, IsLogged, NamesLife, RowIsLive, RowIsLogged, StandsAs, goes_on_as, tells_log}
use Rattle.sd_state.specs.Values.{Pending, open_of, put_of}
use Rattle.sd_state.proofs.ChangedLists.{span-last, span-there}
use Rattle.sd_update.proofs.SealedEnds.{memory-there, room-there}
use Rattle.sd_update.proofs.SealedLaws.{commit-seals, end-seals}
use Rattle.sd_update.proofs.SealedTold.{Falls}
use Rattle.sd_state.proofs.Standing.{one-place}

-- an instance that may append has a settled log, while no fall is due
pub settled-up : (seen : rig.DeviceImages) (leaves : Outcomes) (pend : Pending) (c : Parts) (m : State) (i : ℕ) → 1 ≤ i → i ≤ 8
    → Good seen leaves pend c m → c.due ≡ None → up_as (status_at c i) ≡ true → is_loose c i ≡ false
settled-up seen leaves pend c m i low high g idle up = ⊎_elim (λ e. e) (λ due. let clash = sym idle ∙ due in absurd (cc))
    ((g.half (λ j. false)).coherent.ready i low up)

nil-map : {A B : Type 0} (f : A → B) (xs : List A) → map f xs ≡ [] → xs ≡ []
nil-map f [] e = refl
nil-map f (x ∷ xs) e = absurd (cc)

bytes-fall : Falls bytes_owed reserve_of
bytes-fall old new t x = total-emptied bytes_owed old new t x (shut x) refl

records-fall : Falls records_owed owed_of
records-fall old new t x = total-emptied records_owed old new t x (shut x) refl

-- ---- a transaction with a record, of whose log its table tells

module _ (t : TxnId) (x : Transaction) (seen : rig.DeviceImages) (leaves : Outcomes) (pend : Pending) (c : Parts) (m : State)
    (g : Good seen leaves pend c m) (reads : leaves 0 (seen 0)) (low : 1 ≤ home t) (high : home t ≤ 8)
    (settled : is_loose c (home t) ≡ false) (tells : tells_log (status_at c (home t)) ≡ true)
    (row : txn_at (txns_at c (home t)) t ≡ Some x) (there : IsSome x.span) where
  abbrev log : List Rec
  log = all_at (log_at c (home t))

  logged : IsLogged x t log
  logged = ⊎_elim (λ h. h) (λ s. let none = ap is_some s.span in absurd (cc))
      (subst (λ o. RowIsLogged o t log) row ((g.told (home t) low high tells settled).rows t refl))

  pub has : HasRecord t log
  has = sym (span-there t log) ∙ sym (ap is_some logged.span) ∙ there

  -- there is an LSN for its end
  pub next-there : next_lsn (log_at c (home t)) 0 < 2 ^ 62
  next-there =
      let moved : Keeps = λ j. false in
      let one : log_by c moved (home t) ≡ log_at c (home t) = one-place c moved (home t) (g.settled (home t) low high settled).one_place in
      let fit = (g.half moved).soundly.lsns all_kept in
      let page = fit.pages 0 (disk_page (seen 0) 0) (seen 0, (reads, tt), refl) in
      let some = (end-owes log (flat (records.End 0 t 0)) refl logged.alive has).1 in
      subst (λ l. next_lsn l 0 < 2 ^ 62) one
      (next_lsn-there (leaves_by c moved leaves) (home t) (log_by c moved) t 0 low high fit
      (subst (λ l. HasRecord t (all_at l)) (sym one) has)
      (subst (λ l. 1 ≤ owed (all_at l)) (sym one) (omega (arith, some))) (omega (arith, page)))

  -- nothing is open of a row without open records
  pub none-open : x.stack ≡ [] → stack t log ≡ []
  none-open e = nil-map open_of (stack t log) (sym logged.open_ones ∙ ap reverse e)

  -- its end may come, an End where nothing is open
  may-end : (y : Record) → (flat y).txn ≡ t → ends (flat y).kind ≡ true → (flat y).prev ≡ prev_of x
      → lsn_of y ≡ next_lsn (log_at c (home t)) 0 → ((flat y).kind ≡ End → x.stack ≡ []) → MaySeal (home t) y c
  may-end y own it_ends prev lsn done = record {
    low = low;
    high = high;
    settled = settled;
    tells = tells;
    own = λ s. ap home own;
    follows = λ s. record {
      alive = subst (λ u. IsOpen u log) (sym own) logged.alive;
      prev = prev ∙ ap (λ span. option_map_or (λ (s : ℕ × ℕ). s.1) span 0) logged.span ∙ span-last t log
          ∙ ap (λ u. (after_all u none_yet log).last) (sym own);
      done = λ e. subst (λ u. stack u log ≡ []) (sym own) (none-open (done e));
      undo = λ e. let clash = sym it_ends ∙ ap ends e in absurd (cc);
    };
    lsn = lsn;
  }

  pub may-commit : MaySeal (home t) (commit_of t x c) c
  may-commit = may-end (commit_of t x c) refl refl refl refl (λ e. absurd (cc))

  pub may-finish : x.stack ≡ [] → MaySeal (home t) (end_of t x c) c
  may-finish empty = may-end (end_of t x c) refl refl refl refl (λ e. empty)

  lsn-is : (lsn : ℕ) → lsn ≡ min (next_lsn (log_at c (home t)) 0) (2 ^ 62 - 1) → lsn ≡ next_lsn (log_at c (home t)) 0
  lsn-is lsn e = let less = next-there in omega (arith, e, less)

  prev-is : (prev : ℕ) → prev ≡ option_map_or (λ (s : ℕ × ℕ). s.1) (span_at (txns_at c (home t)) t) 0 → prev ≡ prev_of x
  prev-is prev e = e ∙ ap (λ o. option_map_or (λ (s : ℕ × ℕ). s.1) (option_and_then (λ (z : Transaction). z.span) o) 0) row

  -- the records that the calls make
  module _ (lsn prev : ℕ) (next : lsn ≡ min (next_lsn (log_at c (home t)) 0) (2 ^ 62 - 1))
      (last : prev ≡ option_map_or (λ (s : ℕ × ℕ). s.1) (span_at (txns_at c (home t)) t) 0) where
    pub commit-is : records.Commit lsn t prev ≡ commit_of t x c
    commit-is = ap₂ (λ (l q : ℕ). records.Commit l t q) (lsn-is lsn next) (prev-is prev last)

    pub end-is : records.End lsn t prev ≡ end_of t x c
    end-is = ap₂ (λ (l q : ℕ). records.End l t q) (lsn-is lsn next) (prev-is prev last)

    pub commit-room : needed (log_at c (home t)) (length (spelling (records.Commit lsn t prev))) 0 ≤ 1048576
    commit-room = subst (λ (r : Record). needed (log_at c (home t)) (length (spelling r)) 0 ≤ 1048576) (sym commit-is)
        (room-there (home t) (commit_of t x c) seen leaves pend c m (log_at c (home t)) g may-commit refl has refl)

    pub commit-memory : status_at c (home t) ≡ S.Up → length (spelling (records.Commit lsn t prev)) ≤ (log_at c (home t)).spare
    commit-memory up = subst (λ (r : Record). length (spelling r) ≤ (log_at c (home t)).spare) (sym commit-is)
        (memory-there (home t) (commit_of t x c) seen leaves pend c m (log_at c (home t)) g may-commit refl has refl up)

    pub end-room : x.stack ≡ [] → needed (log_at c (home t)) (length (spelling (records.End lsn t prev))) 0 ≤ 1048576
    end-room empty = subst (λ (r : Record). needed (log_at c (home t)) (length (spelling r)) 0 ≤ 1048576) (sym end-is)
        (room-there (home t) (end_of t x c) seen leaves pend c m (log_at c (home t)) g (may-finish empty) refl has refl)

    pub end-memory : x.stack ≡ [] → status_at c (home t) ≡ S.Up
        → length (spelling (records.End lsn t prev)) ≤ (log_at c (home t)).spare
    end-memory empty up = subst (λ (r : Record). length (spelling r) ≤ (log_at c (home t)).spare) (sym end-is)
        (memory-there (home t) (end_of t x c) seen leaves pend c m (log_at c (home t)) g (may-finish empty) refl has refl up)

-- ---- what the calls made

-- a row that runs and has a record
pub running-row : (o : Option Transaction) → option_map (λ (z : Transaction). z.state) o ≡ Some TxnState.Running
    → IsSome (option_and_then (λ (z : Transaction). z.span) o)
    → (x : Transaction) × (o ≡ Some x) × (x.state ≡ TxnState.Running) × IsSome x.span
running-row None e s = absurd (cc)
running-row (Some x) e s = (x, refl, cc, s)

-- The record of the call is that which the row tells of.
pub as-end : (t : TxnId) (r : Record) (y : Transaction → Record) (c new : Parts) → (flat r).txn ≡ t
    → ((x : Transaction) → txn_at (txns_at c (home t)) t ≡ Some x → r ≡ y x) → HasEnd t (λ x. r) c new → HasEnd t y c new
as-end t r y c new own same e =
    let is : r ≡ y e.x = same e.x (subst (λ (u : TxnId). txn_at (txns_at c (home t)) u ≡ Some e.x) own e.ended.row.was) in
    record {
      x = e.x;
      spare = e.spare;
      table = e.table;
      ended = subst (λ (z : Record). IsShutBy (home t) z e.x e.spare e.table c) is e.ended;
      is = e.is ∙ ap (λ (z : Record). with_last (home t) z e.spare e.table c) is;
    }

pub commit-good : (t : TxnId) (seen : rig.DeviceImages) (leaves : Outcomes) (c new : Parts) (m : State) → Good seen leaves Pending.Idle c m
    → leaves 0 (seen 0) → 1 ≤ home t → home t ≤ 8 → is_loose c (home t) ≡ false → tells_log (status_at c (home t)) ≡ true
    → state_at (txns_at c (home t)) t ≡ Some TxnState.Running → HasEnd t (λ x. commit_of t x c) c new
    → Good seen leaves (Pending.Commits t) new m
commit-good t seen leaves c new m g reads low high settled tells runs e =
    let same : Some e.x.state ≡ Some TxnState.Running = sym (ap (option_map (λ (z : Transaction). z.state)) e.ended.row.was) ∙ runs in
    let state : e.x.state ≡ TxnState.Running = cc in
    subst (λ (p : Parts). Good seen leaves (Pending.Commits t) p m) (sym e.is)
    (commit-seals leaves bytes-fall records-fall (home t) e.spare (commit_of t e.x c) e.x e.table seen c m g reads
    (may-commit t e.x seen leaves Pending.Idle c m g reads low high settled tells e.ended.row.was e.ended.there) refl e.ended state)

-- ---- whom an End may end

pub may-tells : (t : TxnId) (c : Parts) → MayPutEnd t c → tells_log (status_at c (home t)) ≡ true
may-tells t c h = ⊎_elim (λ up. ap tells_log up.0) (λ r. ap tells_log r.1) h.stands

pub may-settled : (t : TxnId) (seen : rig.DeviceImages) (leaves : Outcomes) (pend : Pending) (c : Parts) (m : State) → 1 ≤ home t
    → home t ≤ 8 → Good seen leaves pend c m → c.due ≡ None → MayPutEnd t c → is_loose c (home t) ≡ false
may-settled t seen leaves pend c m low high g idle h = ⊎_elim
    (λ up. settled-up seen leaves pend c m (home t) low high g idle (ap up_as up.0)) (λ r. r.2) h.stands

-- one in doubt has no further records
doubt-stops : (life : Life) (runs rolls : Type 0) → IsInDoubt life → goes_on_as life runs rolls → ⊥
doubt-stops Life.Gone runs rolls d on = d
doubt-stops Life.Running runs rolls d on = d
doubt-stops Life.Retained runs rolls d on = d
doubt-stops (Life.Rolling to) runs rolls d on = d
doubt-stops (Life.Doubt cut) runs rolls d on = on

-- It may have no further records.
stops : (t : TxnId) (seen : rig.DeviceImages) (leaves : Outcomes) (c : Parts) (m : State) → Good seen leaves Pending.Idle c m
    → leaves 0 (seen 0) → 1 ≤ home t → home t ≤ 8 → is_loose c (home t) ≡ false → tells_log (status_at c (home t)) ≡ true
    → MayPutEnd t c → GoesOn Pending.Idle t (m.part t) → ⊥
stops t seen leaves c m g reads low high settled tells h on =
    let i : ℕ = home t in
    let runs : Type 0 = Pending.Idle ≡ Pending.Commits t → ⊥ in
    let rolls : Type 0 = live (m.part t).acts ≢ [] in
    let names : StandsAs h.x.state (m.part t).life (fate t (base_at (log_at c i))) (fate t (all_at (log_at c i))) =
    subst (λ (o : Option Transaction). NamesLife o (m.part t).life (fate t (base_at (log_at c i))) (fate t (all_at (log_at c i))))
    h.row ((g.instances i low high).names t refl) in
    ⊎_elim
    (λ up.
    let life : (m.part t).life ≡ Life.Rolling None = subst (λ (s : TxnState). StandsAs s (m.part t).life
    (fate t (base_at (log_at c i))) (fate t (all_at (log_at c i)))) up.1 names in
    let row : RowIsLive (Some h.x) t (m.part t) (all_at (log_at c i)) =
    subst (λ (o : Option Transaction). RowIsLive o t (m.part t) (all_at (log_at c i))) h.row
    (g.at_work i low high up.0 t refl (λ e. absurd (cc))) in
    let none = none-open t h.x seen leaves Pending.Idle c m g reads low high settled tells h.row h.there h.empty in
    let left : live (m.part t).acts ≢ [] = subst (λ (l : Life). goes_on_as l runs rolls) life on in
    left (row.puts ∙ ap (λ (l : List Rec). map put_of l) none))
    (λ r.
    let stands = subst (λ (s : TxnState). StandsAs s (m.part t).life (fate t (base_at (log_at c i)))
    (fate t (all_at (log_at c i)))) r.3 names in
    ⊎_elim (λ retained. subst (λ (l : Life). goes_on_as l runs rolls) retained on)
    (λ d. doubt-stops (m.part t).life runs rolls d.0 on) stands)
    h.stands

pub end-good : (t : TxnId) (seen : rig.DeviceImages) (leaves : Outcomes) (c new : Parts) (m : State) → Good seen leaves Pending.Idle c m
    → leaves 0 (seen 0) → 1 ≤ home t → home t ≤ 8 → c.due ≡ None → MayPutEnd t c → HasEnd t (λ x. end_of t x c) c new
    → Good seen leaves Pending.Idle new m
end-good t seen leaves c new m g reads low high idle h e =
    let settled = may-settled t seen leaves Pending.Idle c m low high g idle h in
    let tells = may-tells t c h in
    let same : Some h.x ≡ Some e.x = sym h.row ∙ e.ended.row.was in
    let x_is : h.x ≡ e.x = cc in
    let empty : e.x.stack ≡ [] = ap (λ (z : Transaction). z.stack) (sym x_is) ∙ h.empty in
    subst (λ (p : Parts). Good seen leaves Pending.Idle p m) (sym e.is)
    (end-seals leaves bytes-fall records-fall (home t) e.spare (end_of t e.x c) e.x e.table seen Pending.Idle c m g reads
    (may-finish t e.x seen leaves Pending.Idle c m g reads low high settled tells e.ended.row.was e.ended.there empty) refl e.ended
    (stops t seen leaves c m g reads low high settled tells h))

-- what follows from an answer either way
pub by-answer : {T E : Type 0} (r : Result T E) (P Q G : Type 0) → OnOk r P → OnErr r Q → (P → G) → (Q → G) → G
by-answer (Ok x) P Q G ok err f h = f ok
by-answer (Err e) P Q G ok err f h = h err
