-- The page that a recovery undoes next is needed: for the goals of `needed`, and of an undo of a recovery.
use Rattle.std.proofs.Common.{◌≡◌, inl, inr, ⊎_elim, ℕ, ◌≤◌, false, List, [], ◌∷◌, ◌++◌, length, refl, sym, ap, ◌∙◌, subst, arith, length-append}
use Rattle.std.specs.Prelude.{Option, Some, option_and_then, reverse}
use Rattle.std.proofs.lemmas.List.{reverse-append}
use Rattle.sd_base.specs.declared.ids.Rid.{Rid}
use Rattle.sd_base.specs.declared.ids.TxnId.{TxnId}
use Rattle.sd_base.specs.declared.place.Status.TheVariants as S
use Rattle.sd_logrec.specs.View.{Rec}
use Rattle.sd_rig.specs.Devices.{DeviceImages}
use Rattle.sd_txn.specs.Transactions.{Transaction, state_at, top, top_at, txn_at}
use Rattle.sd_txn.specs.declared.state.OpenRec.{OpenRec}
use Rattle.sd_txn.specs.declared.state.TxnState.{TxnState}
use Rattle.sd_txn.proofs.Stacks.{split-top}
use Rattle.sd_chain.specs.Fates.{Fate, fate}
use Rattle.sd_chain.proofs.Lists.{Each-front}
use Rattle.sd_chain.specs.Records.{Each, home, stack}
use Rattle.sd_model.specs.Applies.{IsLost}
use Rattle.sd_model.specs.State.{State}
use Rattle.sd_model.specs.declared.act.Claim.{Claim}
use Rattle.sd_model.specs.declared.act.Life.{Life}
use Rattle.sd_chain.specs.Logs.{Outcomes, all_at, base_at, tail_at}
use Rattle.sd_world.specs.PageCauses.{IsNeededPage}
use Rattle.sd_world.specs.Serving.{Core}
use Rattle.sd_state.specs.Parts.{Parts, is_loose, log_at, status_at, txns_at}
use Rattle.sd_state.specs.Tables.{IsLogged, NamesLife, RowIsLogged, StandsAs, tells_log}
use Rattle.sd_state.specs.Values.{rid_of}
use Rattle.sd_update.proofs.UndoneRows.{IsTop, top-of}
use Rattle.sd_update.proofs.Deciding.{has-row}
use Rattle.sd_fits.specs.Fits.{Fits}
use Rattle.sd_recover.specs.Tasks.{AreThere, IsNext}
use Rattle.sd_recover.specs.declared.tasks.Task.TheVariants as task
use Rattle.sd_recover.proofs.Owns.{open-loser, own-row}

-- who stands as a loser lost, or is in doubt
lost-is : (life : Life) (forced whole : Fate) → StandsAs TxnState.Retained life forced whole → IsLost life
lost-is life forced whole (inl retained) = inl retained
lost-is Life.Gone forced whole (inr d) = absurd d.0
lost-is Life.Running forced whole (inr d) = absurd d.0
lost-is Life.Retained forced whole (inr d) = inl refl
lost-is (Life.Rolling to) forced whole (inr d) = absurd d.0
lost-is (Life.Doubt cut) forced whole (inr d) = inr (cut, refl)

head-claim : (P : Rec → Type 0) (y : Rec) (ys : List Rec) → Each P (y ∷ ys) → P y
head-claim P y ys e = e.0

module _ (t : TxnId) (by : ℕ) (seen : DeviceImages) (leaves : Outcomes) (c : Parts) (w : Core) (f : Fits seen leaves c w) (low : 1 ≤ home t)
    (high : home t ≤ 8) (recovers : status_at c (home t) ≡ S.Recovering by) (there : AreThere c)
    (loser : state_at (txns_at c (home t)) t ≡ Some TxnState.Retained) (o : OpenRec) (last : top_at (txns_at c (home t)) t ≡ Some o) where
  abbrev m : State
  m = w.scene.state

  abbrev i : ℕ
  i = home t

  abbrev all : List Rec
  all = all_at (log_at c i)

  settled : is_loose c i ≡ false
  settled = there.0 i high

  abbrev x : Transaction
  x = (has-row (txns_at c i) t TxnState.Retained loser).x

  row : txn_at (txns_at c i) t ≡ Some x
  row = (has-row (txns_at c i) t TxnState.Retained loser).row

  retained : x.state ≡ TxnState.Retained
  retained = (has-row (txns_at c i) t TxnState.Retained loser).state

  top-is : top x ≡ Some o
  top-is = sym (ap (λ (q : Option Transaction). option_and_then top q) row) ∙ last

  split : (front : List OpenRec) × (x.stack ≡ front ++ o ∷ [])
  split = split-top x.stack o top-is

  logged : IsLogged x t all
  logged = ⊎_elim (λ l. l)
      (λ s. let a = length-append split.0 (o ∷ []) in let b = ap length split.1 in let e = ap length s.emptied in
      absurd (omega (arith, a, b, e)))
      (subst (λ (q : Option Transaction). RowIsLogged q t all) row ((f.good.told i low high (ap tells_log recovers) settled).rows t refl))

  the-top : IsTop o (reverse split.0) (stack t all)
  the-top = top-of o (reverse split.0) (stack t all) (sym logged.open_ones ∙ ap reverse split.1 ∙ reverse-append split.0 (o ∷ []))

  claimed : Each (λ (z : Rec). (m.part t).claims (rid_of z) ≡ Claim.Excl) (stack t all)
  claimed = (f.good.half (λ j. false)).held t (Each-front _ (base_at (log_at c i)) (tail_at (log_at c i)) logged.alive)

  claims-it : (m.part t).claims o.rid ≡ Claim.Excl
  claims-it = subst (λ (r : Rid). (m.part t).claims r ≡ Claim.Excl) (ap (λ (q : OpenRec). q.rid) the-top.first)
      (head-claim (λ (z : Rec). (m.part t).claims (rid_of z) ≡ Claim.Excl) the-top.top the-top.below
      (subst (Each (λ (z : Rec). (m.part t).claims (rid_of z) ≡ Claim.Excl)) the-top.is claimed))

  is-lost : IsLost (m.part t).life
  is-lost = lost-is (m.part t).life (fate t (base_at (log_at c i))) (fate t all)
      (subst (λ (s : TxnState). StandsAs s (m.part t).life (fate t (base_at (log_at c i))) (fate t all)) retained
      (subst (λ (q : Option Transaction). NamesLife q (m.part t).life (fate t (base_at (log_at c i))) (fate t all)) row
      ((f.good.instances i low high).names t refl)))

  -- the page of the loser's last open record is needed
  pub page-needed : IsNeededPage m i o.rid.page
  page-needed = (t, refl, is-lost, (o.rid.slot, claims-it))

-- the page of the undo that is next is needed
pub undo-needed : (i p : ℕ) (t : TxnId) (seen : DeviceImages) (leaves : Outcomes) (c : Parts) (w : Core) → Fits seen leaves c w → 1 ≤ i → i ≤ 8
    → (by : ℕ) → status_at c i ≡ S.Recovering by → IsNext c i (task.Undo t p) → IsNeededPage w.scene.state i p
undo-needed i p t seen leaves c w f low high by recovers next =
    let loser = (open-loser (txns_at c i) t next.1.1).0 in
    let own : home t ≡ i = own-row i seen leaves c w f low high t TxnState.Retained loser in
    let last : (o : OpenRec) × (top_at (txns_at c (home t)) t ≡ Some o) × (p ≡ o.rid.page) =
    subst (λ (j : ℕ). (o : OpenRec) × (top_at (txns_at c j) t ≡ Some o) × (p ≡ o.rid.page)) (sym own) next.1.2 in
    subst (λ (j : ℕ). IsNeededPage w.scene.state j p) own
    (subst (IsNeededPage w.scene.state (home t)) (sym last.2)
    (page-needed t by seen leaves c w f (subst (λ (j : ℕ). 1 ≤ j) (sym own) low) (subst (λ (j : ℕ). j ≤ 8) (sym own) high)
    (subst (λ (j : ℕ). status_at c j ≡ S.Recovering by) (sym own) recovers) next.0
    (subst (λ (j : ℕ). state_at (txns_at c j) t ≡ Some TxnState.Retained) (sym own) loser) last.0 last.1))
