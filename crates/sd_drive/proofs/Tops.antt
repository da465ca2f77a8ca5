-- What the table of an instance that is up has of a transaction that rolls back: as many open records as it has live puts, the last one
-- of the page that its undo works on. It serves the goals of events.rt and driver.rt.
use Rattle.std.proofs.Common.{◌≡◌, ⊎_elim, ℕ, ◌-◌, ◌<◌, ◌≤◌, false, List, [], ◌∷◌, length, map, refl, sym, ap, ◌∙◌, subst, arith}
use Rattle.std.specs.Prelude.{Option, None, Some, option_and_then, reverse, slice_get}
use Rattle.std.specs.Option.{option_map_or}
use Rattle.std.proofs.lemmas.List.{length-map, length-reverse, reverse-append}
use Rattle.sd_base.specs.declared.ids.TxnId.{TxnId}
use Rattle.sd_base.specs.declared.place.Place.{Place}
use Rattle.sd_base.specs.declared.place.Status.TheVariants as S
use Rattle.sd_base.specs.declared.refusal.Refusal.TheVariants as R
use Rattle.sd_logrec.specs.View.{Rec}
use Rattle.sd_model.specs.Acts.{Puts, live}
use Rattle.sd_model.specs.Changes.{goal}
use Rattle.sd_model.specs.declared.event.Event.TheVariants as event
use Rattle.sd_model.specs.declared.event.Reply.TheVariants as reply
use Rattle.sd_model.specs.State.{State}
use Rattle.sd_model.specs.declared.act.Life.{Life}
use Rattle.sd_rig.specs.Devices as rig
use Rattle.sd_txn.specs.Transactions.{Transaction, depth_at, top, top_at, txn_at}
use Rattle.sd_txn.specs.declared.state.OpenRec.{OpenRec}
use Rattle.sd_txn.proofs.Stacks.{none-empty, split-top}
use Rattle.sd_chain.specs.Fates.{Fate, fate}
use Rattle.sd_chain.specs.Records.{IsOpen, stack}
use Rattle.sd_chain.specs.Logs.{Outcomes, all_at, base_at}
use Rattle.sd_world.specs.PageCauses.{last_page, undo_page}
use Rattle.sd_world.specs.Serving.{Core, Turns}
use Rattle.sd_state.specs.Parts.{Parts, is_loose, log_at, status_at, txns_at, up_as}
use Rattle.sd_state.specs.Tables.{NamesLife, RowIsLive, RowIsLogged, goes_on_as, tells_log}
use Rattle.sd_state.specs.Values.{Pending, open_of, put_of}
use Rattle.sd_update.proofs.UndoneRows.{top-of}
use Rattle.sd_fits.specs.Fits.{Fits}
use Rattle.sd_drive.specs.Standing.{GoesBack}
use Rattle.sd_drive.proofs.Acts.{need-stays, undo-needs}

-- the row of the transaction, whose open records are the changes that its log has open, and its live puts those
record HasRow (t : TxnId) (c : Parts) (puts : Puts) : Type 0 where
  x : Transaction
  log : List Rec
  row : txn_at (txns_at c t.inst) t ≡ Some x
  open_ones : reverse x.stack ≡ map open_of (stack t log)
  puts_are : puts ≡ map put_of (stack t log)

-- the last of the open records changed the page that the last live put is of
top-put : (o : OpenRec) (xs : List OpenRec) (rs : List Rec) (puts : Puts) → slice_get xs (length xs - 1) ≡ Some o
    → reverse xs ≡ map open_of rs → puts ≡ map put_of rs → o.rid.page ≡ last_page puts
top-put o xs rs puts is open_ones puts_are =
    let front = split-top xs o is in
    let same : map open_of rs ≡ o ∷ reverse front.0 = sym open_ones ∙ ap reverse front.1 ∙ reverse-append front.0 (o ∷ []) in
    let tops = top-of o (reverse front.0) rs same in
    sym (ap (λ (x : OpenRec). x.rid.page) tops.first)
    ∙ sym (ap (λ (ys : List Rec). last_page (map put_of ys)) tops.is) ∙ sym (ap last_page puts_are)

row-of : (row : Option Transaction) (t : TxnId) (c : Parts) (m : State) (to : Option ℕ) (forced whole : Fate) (log : List Rec) → IsOpen t log
    → txn_at (txns_at c t.inst) t ≡ row → (m.part t).life ≡ Life.Rolling to → NamesLife row (m.part t).life forced whole
    → RowIsLogged row t log → RowIsLive row t (m.part t) log → HasRow t c (live (m.part t).acts)
row-of None t c m to forced whole log alive is rolls names logged live_row = let clash = sym names ∙ rolls in absurd (cc)
row-of (Some x) t c m to forced whole log alive is rolls names logged live_row = ⊎_elim
    (λ l. record { x = x; log = log; row = is; open_ones = l.open_ones; puts_are = live_row.puts })
    (λ s. absurd (s.ended alive))
    logged

module _ (seen : rig.DeviceImages) (leaves : Outcomes) (c : Parts) (w : Core) (f : Fits seen leaves c w) (t : TxnId) (low : 1 ≤ t.inst) (high : t.inst ≤ 8)
    (goes : GoesBack w.scene.state t) where
  abbrev m : State
  m = w.scene.state

  -- its log has no end of it
  alive : (to : Option ℕ) → (m.part t).life ≡ Life.Rolling to → IsOpen t (all_at (log_at c t.inst))
  alive None rolls = f.rolling t rolls
  alive (Some n) rolls = f.good.going t low high
      (subst (λ (life : Life). goes_on_as life (Pending.Idle ≡ Pending.Commits t → ⊥) (live (m.part t).acts ≡ [] → ⊥)) (sym rolls) tt)

  up : status_at c t.inst ≡ S.Up
  up = (f.good.instances t.inst low high).status ∙ goes.up

  settled : is_loose c t.inst ≡ false
  settled = ⊎_elim (λ e. e) (λ due. let clash = sym f.idle ∙ due in absurd (cc))
      ((f.good.half (λ j. false)).coherent.ready t.inst low (ap up_as up))

  row : HasRow t c (live (m.part t).acts)
  row = row-of (txn_at (txns_at c t.inst) t) t c m goes.rolls.0 (fate t (base_at (log_at c t.inst))) (fate t (all_at (log_at c t.inst)))
      (all_at (log_at c t.inst)) (alive goes.rolls.0 goes.rolls.1) refl goes.rolls.1
      ((f.good.instances t.inst low high).names t refl)
      ((f.good.told t.inst low high (ap tells_log up) settled).rows t refl)
      (f.good.at_work t.inst low high up t refl (λ e. absurd (cc)))

  depths : length row.x.stack ≡ length (live (m.part t).acts)
  depths =
      let a = length-reverse row.x.stack in
      let b = ap length row.open_ones ∙ length-map (stack t row.log) open_of in
      let d = ap length row.puts_are ∙ length-map (stack t row.log) put_of in omega (arith, a, b, d)

  -- as many records are open as puts are live
  pub depth-live : depth_at (txns_at c t.inst) t ≡ length (live (m.part t).acts)
  depth-live = ap (λ (o : Option Transaction). option_map_or (λ (x : Transaction). length x.stack) o 0) row.row ∙ depths

  -- the last of them is of the page that an undo works on
  pub top-page : 0 < length (live (m.part t).acts) → (o : OpenRec) × (top_at (txns_at c t.inst) t ≡ Some o) × (o.rid.page ≡ undo_page m t)
  top-page some = last (top row.x) refl
    where
      there : (o : OpenRec) → top row.x ≡ Some o → o.rid.page ≡ undo_page m t
      there o is = top-put o row.x.stack (stack t row.log) (live (m.part t).acts) is row.open_ones row.puts_are

      last : (o : Option OpenRec) → top row.x ≡ o → (o : OpenRec) × (top_at (txns_at c t.inst) t ≡ Some o) × (o.rid.page ≡ undo_page m t)
      last None is = let none = ap length (none-empty row.x.stack is) in let same = depths in absurd (omega (arith, none, same, some))
      last (Some o) is = (o, ap (λ (r : Option Transaction). option_and_then top r) row.row ∙ is, there o is)

-- An undo that wants a page wants that of the transaction's last open record.
pub wanted-page : (seen : rig.DeviceImages) (leaves : Outcomes) (c : Parts) (t : TxnId) (place : Place) (w w' : Core) → 1 ≤ t.inst → t.inst ≤ 8
    → Turns w (event.Undo t) (reply.Refused (R.NeedPage place)) w' → Fits seen leaves c w'
    → (o : OpenRec) × (top_at (txns_at c t.inst) t ≡ Some o) × (o.rid.page ≡ undo_page w.scene.state t)
wanted-page seen leaves c t place w w' low high turns f =
    let m = w.scene.state in
    let needs = undo-needs m t place w'.scene.state turns.plays.step in
    let still = need-stays m w'.scene.state (event.Undo t) place turns.plays.step in
    let to = needs.0 in
    let goes : GoesBack w'.scene.state t = subst (λ (s : State). GoesBack s t) (sym still) (record { rolls = (to.0, to.1); up = needs.1 }) in
    let some : 0 < length (live (w'.scene.state.part t).acts) =
    subst (λ (s : State). 0 < length (live (s.part t).acts)) (sym still) (above (goal to.0) (length (live (m.part t).acts)) to.2) in
    let h = top-page seen leaves c w' f t low high goes some in
    (h.0, h.1, h.2 ∙ ap (λ (s : State). undo_page s t) still)
  where
    above : (n k : ℕ) → n < k → 0 < k
    above n k lt = omega (arith, lt)
