-- The last open record of a transaction that rolls back, in its row and in its log, and what its undo finds: for the laws on
-- undo.
use Rattle.std.proofs.Common.{◌≡◌, ◌≢◌, ⊎_elim, ℕ, ◌+◌, ◌^◌, ◌<◌, ◌≤◌, false, suc, List, [], ◌∷◌, ◌++◌, length, length-append, refl, sym, ap, ap₂, ◌∙◌, subst, arith}
use Rattle.std.specs.Prelude.{Option, None, Some, reverse}
use Rattle.std.specs.Option.{option_map_or}
use Rattle.std.proofs.lemmas.List.{reverse-append}
use Rattle.sd_base.specs.Values.{size}
use Rattle.sd_base.specs.declared.ids.TxnId.{TxnId}
use Rattle.sd_base.specs.declared.place.Status.TheVariants as S
use Rattle.sd_logrec.specs.Spelling.{spelling}
use Rattle.sd_logrec.specs.View.{Rec, flat}
use Rattle.sd_logrec.specs.declared.record.Record.{Record}
use Rattle.sd_log.specs.Logs.{LogState, forced}
use Rattle.sd_model.specs.Acts.{live}
use Rattle.sd_model.specs.Changes.{goal}
use Rattle.sd_model.specs.State.{Part, State}
use Rattle.sd_model.specs.declared.act.Life.{Life}
use Rattle.sd_page.specs.Page.{Page}
use Rattle.sd_rig.specs.Devices as rig
use Rattle.sd_txn.specs.Transactions.{Transaction}
use Rattle.sd_txn.specs.declared.state.OpenRec.{OpenRec}
use Rattle.sd_txn.proofs.Stacks.{split-top}
use Rattle.sd_chain.specs.Bytes.{disk_page}
use Rattle.sd_chain.specs.Checks.{owed, reserve}
use Rattle.sd_chain.specs.Images.{all_kept}
use Rattle.sd_chain.specs.Order.{UndoesTop}
use Rattle.sd_chain.specs.Storage.{HasPlace}
use Rattle.sd_chain.specs.Pages.{capacity}
use Rattle.sd_chain.specs.Records.{Each, IsOpen, Val, home, stack}
use Rattle.sd_chain.specs.AppendedRecords.{IsUndo}
use Rattle.sd_chain.specs.World.{newest_version}
use Rattle.sd_chain.proofs.Changes.{held-now}
use Rattle.sd_chain.specs.Appends as sound
use Rattle.sd_chain.specs.Soundly.{LogIsSound}
use Rattle.sd_chain.specs.Logs.{HasRecord, Logs, Outcomes, all_at, may_of, next_lsn, owed_with, tails_of}
use Rattle.sd_chain.proofs.Lsns.{next_lsn-there, version-low}
use Rattle.sd_chain.proofs.Order.{undoes-top}
use Rattle.sd_chain.proofs.Owing.{stack-there}
use Rattle.sd_chain.proofs.Room.{undo-falls, undo-room}
use Rattle.sd_state.specs.Good.{Good, Half, IsSettledAt, IsTold, base_of, dir_of}
use Rattle.sd_state.specs.Images.{leaves_by, log_by}
use Rattle.sd_state.specs.Parts.{Parts, log_at, other_at, status_at, up_as}
use Rattle.sd_state.specs.Tables.{GoesOn, IsLogged, RowIsLogged, goes_on_as, tells_log}
use Rattle.sd_update.specs.Undoing.{FindsPlace, HasTop, MayUndo, UndoFindsRoom, clr_at, lsn_for}
use Rattle.sd_state.specs.Values.{Pending}
use Rattle.sd_state.proofs.Standing.{no-place, one-place}
use Rattle.sd_update.proofs.UndoneRows.{IsTop, last-is, top-of}

-- one that rolls back and is above its target may have further records
pub rolling-goes : (pend : Pending) (t : TxnId) (p : Part) (to : Option ℕ) → p.life ≡ Life.Rolling to
    → goal to < length (live p.acts) → GoesOn pend t p
rolling-goes pend t p to rolls above = subst (λ (life : Life). goes_on_as life (pend ≡ Pending.Commits t → ⊥) (live p.acts ≢ []))
    (sym rolls) (by to above)
  where
    by : (to : Option ℕ) → goal to < length (live p.acts)
        → goes_on_as (Life.Rolling to) (pend ≡ Pending.Commits t → ⊥) (live p.acts ≢ [])
    by None above = λ none. let a = ap length none in absurd (omega (arith, a, above))
    by (Some n) above = tt

-- so no end of it is in its log
pub alive-there : (t : TxnId) (to : Option ℕ) (seen : rig.DeviceImages) (leaves : Outcomes) (c : Parts) (m : State)
    → Good seen leaves Pending.Idle c m → 1 ≤ home t → home t ≤ 8 → (m.part t).life ≡ Life.Rolling to
    → goal to < length (live (m.part t).acts) → IsOpen t (all_at (log_at c (home t)))
alive-there t to seen leaves c m g low high rolls above =
    g.going t low high (rolling-goes Pending.Idle t (m.part t) to rolls above)

-- who may undo finds the last open record
pub top-found : (t : TxnId) (x : Transaction) (o : OpenRec) (image : Page) (seen : rig.DeviceImages) (leaves : Outcomes) (c : Parts)
    (m : State) → Good seen leaves Pending.Idle c m → MayUndo t x o image c m → HasTop (home t) t x o image c
top-found t x o image seen leaves c m g w = record {
  low = w.low;
  high = w.high;
  settled = ⊎_elim (λ e. e) (λ due. let clash = sym w.idle ∙ due in absurd (cc))
      ((g.half (λ j. false)).coherent.ready (home t) w.low (ap up_as w.up));
  tells = ap tells_log w.up;
  row = w.row;
  last = w.last;
  held = w.held;
  copy = w.copy;
  once = w.once;
}

module _ (a : ℕ) (t : TxnId) (x : Transaction) (o : OpenRec) (image : Page) (seen : rig.DeviceImages) (leaves : Outcomes) (c : Parts)
    (m : State) (g : Good seen leaves Pending.Idle c m) (w : HasTop a t x o image c) where
  abbrev i : ℕ
  i = home t

  abbrev r : Record
  r = clr_at t x o image c

  abbrev y : Rec
  y = flat r

  abbrev all : List Rec
  all = all_at (log_at c i)

  pub told : IsTold c m i
  told = g.told i w.low w.high w.tells w.settled

  split : (front : List OpenRec) × (x.stack ≡ front ++ o ∷ [])
  split = split-top x.stack o w.last

  -- it has an open record, so its row isn't shut
  pub logged : IsLogged x t all
  logged = ⊎_elim (λ l. l)
      (λ s. let a = length-append split.0 (o ∷ []) in let b = ap length split.1 in let e = ap length s.emptied in
      absurd (omega (arith, a, b, e)))
      (subst (λ (row : Option Transaction). RowIsLogged row t all) w.row (told.rows t refl))

  pub alive : IsOpen t all
  alive = logged.alive

  pub tops : (front : List OpenRec) → x.stack ≡ front ++ o ∷ [] → IsTop o (reverse front) (stack t all)
  tops front is = top-of o (reverse front) (stack t all) (sym logged.open_ones ∙ ap reverse is ∙ reverse-append front (o ∷ []))

  -- the record takes back the top
  pub undo : (front : List OpenRec) (top : IsTop o (reverse front) (stack t all)) → IsUndo y top.top top.below all
  undo front top = record {
    kind = refl;
    follows = record {
      alive = alive;
      prev = ap (λ (s : Option (ℕ × ℕ)). option_map_or (λ p. p.1) s 0) logged.span ∙ last-is t all;
      done = λ e. absurd (cc);
      undo = λ e. subst (UndoesTop y) (sym top.is) (
        ap (λ (q : OpenRec). q.rid.page) (sym top.first),
        ap (λ (q : OpenRec). q.rid.slot) (sym top.first),
        ap (λ (q : OpenRec). q.before) (sym top.first),
        ap (λ (q : OpenRec). q.prev) (sym top.first),
      );
    };
    stack = top.is;
  }

  -- ---- room, memory and an LSN

  abbrev logs : Logs
  logs = log_by c (λ j. false)

  abbrev leaves' : Outcomes
  leaves' = leaves_by c (λ j. false) leaves

  h : Half seen leaves' logs Pending.Idle c m
  h = g.half (λ j. false)

  -- what the record takes is what is owed less
  takes : (top : IsTop o (reverse split.0) (stack t all)) → sound.IsUndo r (log_at c i)
  takes top = let u : IsUndo y top.top top.below all = undo split.0 top in
      record { kind = u.kind; follows = u.follows; top = top.top; below = top.below; stack = u.stack }

  -- with the record the log owes less, by its bytes and a group's head, and by a record
  pub clr-falls : (reserve (all ++ y ∷ []) + length (spelling r) + 5 ≤ reserve all) × (suc (owed (all ++ y ∷ [])) ≤ owed all)
  clr-falls = undo-falls (log_at c i) r (takes (tops split.0 split.1))

  finds : (top : IsTop o (reverse split.0) (stack t all)) → FindsPlace r image (lsn_for t image c) (log_at c i)
  finds top =
      let at-i : IsSettledAt seen leaves c i = g.settled i w.low w.high w.settled in
      let one : logs i ≡ log_at c i = one-place c (λ j. false) i at-i.one_place in
      let u : IsUndo y top.top top.below all = undo split.0 top in
      let undoes = undoes-top all y top.top top.below u.kind u.follows u.stack in
      let falls = undo-falls (log_at c i) r (takes top) in
      let there = stack-there t all top.below top.top u.stack in
      let ready = h.soundly.ready i w.low w.high (seen i) (
        (at-i.only (seen i)).1 refl,
        no-place
            (other_at c i) _ at-i.one_place,
      ) in
      let owes : 1 ≤ owed (all_at (logs i)) = let count = falls.1 in let same = ap (λ (l : LogState). owed (all_at l)) one in
      omega (arith, count, same) in
      let newest = held-now a o.rid.page image (base_of seen leaves' logs c) (dir_of c) h.coherent w.copy in
      let page : image.lsn + owed_with (tails_of logs) all_kept < 2 ^ 62 =
      subst (λ (v : Page). v.lsn + owed_with (tails_of logs) all_kept < 2 ^ 62) (sym newest)
      (version-low (tails_of logs) (may_of leaves') (base_of seen leaves' logs c).version
      (disk_page (seen 0)) all_kept o.rid.page h.coherent.safe
      h.coherent.reads (ap₂ (λ (xs ys : List Rec). xs ++ ys) h.coherent.eight.0 h.coherent.eight.1) (h.soundly.lsns all_kept)) in
      let lsn = next_lsn-there leaves' i logs t image.lsn w.low w.high (h.soundly.lsns all_kept)
      (subst (λ (l : LogState). HasRecord t (all_at l)) (sym one) there) owes page in
      let sound-now = h.coherent.safe.sound (disk_page (seen 0)) h.coherent.reads all_kept in
      let places = (sound-now.stacks t (subst (λ (l : LogState). IsOpen t (all_at l)) (sym one) alive)).places in
      let has : HasPlace (newest_version (base_of seen leaves' logs c) top.top.page).slots top.top =
      (subst (Each (λ z. HasPlace (newest_version (base_of seen leaves' logs c) z.page).slots z))
      (ap (λ (l : LogState). stack t (all_at l)) one ∙ top.is) places).0 in
      let here : HasPlace image.slots top.top = subst (λ (v : Page). HasPlace v.slots top.top) (sym newest)
      (subst (λ (p : ℕ). HasPlace (newest_version (base_of seen leaves' logs c) p).slots top.top) (sym undoes.0) has) in
      record {
        room = undo-room i (seen i) (log_at c i) r (subst (λ (l : LogState). LogIsSound i (seen i)
            (forced l)) one ready.sound_forced) (takes top);
        low = omega arith;
        slot = record {
          place = let e = undoes.1 in let s = here.slot in omega (arith, e, s);
          within = subst (λ (v : Val). size v ≤ capacity image.slots o.rid.slot) (sym undoes.2)
              (subst (λ (s : ℕ). size top.top.before ≤ capacity image.slots s) (sym undoes.1) here.room);
        };
        high = subst (λ (l : LogState). next_lsn l image.lsn < 2 ^ 62) one lsn;
      }

  pub finds-place : FindsPlace r image (lsn_for t image c) (log_at c i)
  finds-place = finds (tops split.0 split.1)

  -- and memory, while the instance is up
  pub finds-memory : status_at c i ≡ S.Up → length (spelling r) ≤ (log_at c i).spare
  finds-memory up = let bytes = (undo-falls (log_at c i) r (takes (tops split.0 split.1))).0 in let memory = told.spare up in
      omega (arith, memory, bytes)

-- for the law
pub undo-finds_room : (leaves : Outcomes) → UndoFindsRoom leaves
undo-finds_room leaves seen c m t x o image g w =
    let w' : HasTop (home t) t x o image c = top-found t x o image seen leaves c m g w in
    let f = finds-place (home t) t x o image seen leaves c m g w' in record {
      room = f.room;
      spare = finds-memory (home t) t x o image seen leaves c m g w' w.up;
      low = f.low;
      high = f.high;
      slot = f.slot;
    }
