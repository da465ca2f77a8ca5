-- When a loser's last open record may be undone by the instance that recovers, and what holds then: for the call `undo_forced`.
use Rattle.std.proofs.Common.{◌≡◌, ℕ, ◌≤◌, true, false, List, [], ◌∷◌, ◌++◌, sym, ap, ◌∙◌, subst}
use Rattle.std.specs.Prelude.{Some, Result, Ok, Err, OnOk}
use Rattle.std.specs.List.{IsDistinct}
use Rattle.sd_base.specs.Ids.{same_txn}
use Rattle.sd_base.specs.declared.ids.TxnId.{TxnId}
use Rattle.sd_log.specs.Logs.{AreSpelled, LogState, forced, scanned}
use Rattle.sd_logrec.specs.declared.record.Record.{Record}
use Rattle.sd_model.specs.State.{State}
use Rattle.sd_page.specs.Page.{Page}
use Rattle.sd_rig.specs.Devices as rig
use Rattle.sd_pagelock.specs.Directory.{entry_at}
use Rattle.sd_pagelock.specs.Places.{owns}
use Rattle.sd_txn.specs.Transactions.{Transaction, ids, top}
use Rattle.sd_txn.specs.declared.state.OpenRec.{OpenRec}
use Rattle.sd_chain.specs.Checks.{owed}
use Rattle.sd_chain.specs.Records.{home}
use Rattle.sd_chain.specs.Logs.{Outcomes, all_at, base_at}
use Rattle.sd_chain.proofs.Kept.{forced-base, forced-tail}
use Rattle.sd_state.specs.Forcing.{with_forced}
use Rattle.sd_state.specs.Good.{Good}
use Rattle.sd_state.specs.Parts.{IsShape, Parts, is_loose, log_at, no_log, owed_at, pool_at, txns_at}
use Rattle.sd_state.specs.Tables.{tells_log}
use Rattle.sd_update.specs.Undoing.{CanUndo, HasTop, HasUndone}
use Rattle.sd_update.specs.UndoingFor.{MayUndoLoser}
use Rattle.sd_state.specs.Values.{Pending}
use Rattle.sd_state.proofs.Items.{item-set}
use Rattle.sd_update.proofs.UndoneFor.{undo-for_good}
use Rattle.sd_update.proofs.UndoneSpelled.{clr-spelled}
use Rattle.sd_update.proofs.UndoneThere.{undo-finds_copy}
use Rattle.sd_update.proofs.UndoneTop.{finds-place}

-- the own log is forced, so it has no tail, and all else is as before
pub loser-forced : (a : ℕ) (t : TxnId) (l : LogState) (owes : ℕ) (c new : Parts) → MayUndoLoser a t c → new ≡ with_forced a l owes c
    → MayUndoLoser a t new
loser-forced a t l owes c new w is = subst (MayUndoLoser a t) (sym is) (record {
  idle = w.idle;
  recovers = w.recovers;
  settled = w.settled;
  own_settled = w.own_settled;
  x = w.x;
  o = w.o;
  row = w.row;
  loser = w.loser;
  last = w.last;
  held = w.held;
})

pub own-forced : (a : ℕ) (owes : ℕ) (c new : Parts) → IsShape c → 1 ≤ a → a ≤ 8 → new ≡ with_forced a (forced (log_at c a)) owes c
    → (log_at new a).tail ≡ []
own-forced a owes c new s low high is = ap (λ (q : Parts). (log_at q a).tail) is
    ∙ ap (λ (l : LogState). l.tail) (item-set no_log c.logs a (forced (log_at c a)) low high s.logs) ∙ forced-tail (log_at c a)

-- a log with a record at its end has a tail
pub some-tail : (xs : List Record) (r : Record) → xs ++ r ∷ [] ≡ [] → ⊥
some-tail [] r e = absurd (cc)
some-tail (x ∷ xs) r e = absurd (cc)

-- a log that is forced owes what all of its records owe
pub own-owes : (a : ℕ) (seen : rig.DeviceImages) (leaves : Outcomes) (c new : Parts) (m : State) → Good seen leaves Pending.Idle new m → IsShape c
    → 1 ≤ a → a ≤ 8 → is_loose c a ≡ false → new ≡ with_forced a (forced (log_at c a)) (owed_at new a) c
    → owed_at new a ≡ owed (all_at (log_at c a))
own-owes a seen leaves c new m good s low high settled is =
    good.owed a low high (ap (λ (q : Parts). is_loose q a) is ∙ settled)
    ∙ ap (λ (q : Parts). owed (base_at (log_at q a))) is
    ∙ ap (λ (l : LogState). owed (base_at l)) (item-set no_log c.logs a (forced (log_at c a)) low high s.logs)
    ∙ ap owed (forced-base (log_at c a))

module _ (a : ℕ) (t : TxnId) (seen : rig.DeviceImages) (leaves : Outcomes) (c : Parts) (m : State) (g : Good seen leaves Pending.Idle c m)
    (w : MayUndoLoser a t c) (low : 1 ≤ home t) (high : home t ≤ 8) (a_low : 1 ≤ a) (a_high : a ≤ 8)
    (once : IsDistinct same_txn (ids (txns_at c (home t)))) where
  there : (image : Page) × HasTop a t w.x w.o image c
  there = let copy = undo-finds_copy leaves seen c m a w.o.rid.page g w.held in (
    copy.0,
    record {
      low = low;
      high = high;
      settled = w.settled;
      tells = ap tells_log w.recovers;
      row = w.row;
      last = w.last;
      held = w.held;
      copy = copy.1;
      once = once;
    },
  )

  pub can-undo-for : AreSpelled (scanned (log_at c (home t)))
      → (x : Transaction) × (o : OpenRec) × (image : Page) × CanUndo a t x o image c
  can-undo-for spelled = (
    w.x,
    w.o,
    there.0,
    record {
      shape = g.shape;
      low = low;
      high = high;
      by_low = a_low;
      by_high = a_high;
      row = w.row;
      last = w.last;
      held = w.held;
      copy = there.1.copy;
      finds = finds-place a t w.x w.o there.0 seen leaves c m g there.1;
      spelled = clr-spelled a t w.x w.o there.0 seen leaves c m g there.1 spelled;
    },
  )

  pub good-undone-for : (new : Parts) → (log_at c a).tail ≡ [] → HasUndone a (Some (a, home t)) t c new
      → Good seen leaves Pending.Idle new m
  good-undone-for new own h =
      let rows = sym w.row ∙ h.row in let same : w.x ≡ h.x = cc in
      let lasts = sym w.last ∙ ap (λ (x : Transaction). top x) same ∙ h.last in let same_rec : w.o ≡ h.o = cc in
      subst (λ (q : Parts). Good seen leaves Pending.Idle q m) (sym h.rest)
      (undo-for_good leaves seen c m a t h.x h.o h.image (log_at new (home t)) (pool_at new a) (txns_at new (home t)) new.directory g
      (record {
        low = a_low;
        high = a_high;
        idle = w.idle;
        recovers = w.recovers;
        loser = sym (ap (λ (x : Transaction). x.state) same) ∙ w.loser;
        top = record {
          low = low;
          high = high;
          settled = w.settled;
          tells = ap tells_log w.recovers;
          row = h.row;
          last = h.last;
          held = subst (λ (o : OpenRec). owns (entry_at c.directory o.rid.page) a ≡ true) same_rec w.held;
          copy = h.copy;
          once = once;
        };
        own_forced = own;
      })
      h.undone)

-- what follows from what comes with Ok comes with Ok
pub on-made : {A B : Type 0} {P Q : Type 0} (r : Result A B) → (P → Q) → OnOk r P → OnOk r Q
on-made (Ok x) f h = f h
on-made (Err e) f h = tt
