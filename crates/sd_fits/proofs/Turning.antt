-- A transaction stands elsewhere, or sets a mark: how the complex goes on fitting. For the calls that roll back, and for those that set a
-- mark.
use Rattle.std.proofs.Common.{◌≡◌, ◌≢◌, ⊎_elim, ℕ, ◌≤◌, Bool, false, cond, max, refl, sym, ap, ◌∙◌, subst, arith}
use Rattle.std.specs.Prelude.{Option, None, IsSome}
use Rattle.std.specs.Option.{option_and_then}
use Rattle.std.proofs.lemmas.Bool.{cases_eq}
use Rattle.sd_base.specs.Waits.{Wait, Waits, with_wait}
use Rattle.sd_base.specs.declared.ids.TxnId.{TxnId}
use Rattle.sd_base.specs.declared.place.Status.TheVariants as S
use Rattle.sd_base.proofs.SameIds.{each_txn, eq-same, ne-same}
use Rattle.sd_model.specs.Applies.{HasPut}
use Rattle.sd_model.specs.Listed.{IsAtWork}
use Rattle.sd_model.specs.Scenes.{is_running}
use Rattle.sd_model.specs.State.{Part, State, put_part}
use Rattle.sd_model.specs.declared.act.Life.{Life}
use Rattle.sd_reclock.specs.Locks.{LockTable, waits}
use Rattle.sd_rig.specs.Devices.{DeviceImages}
use Rattle.sd_txn.specs.Owing.{owed_of}
use Rattle.sd_txn.specs.Transactions.{OthersStay, Transaction, Transactions, span_at, txn_at}
use Rattle.sd_chain.specs.Records.{IsOpen, home}
use Rattle.sd_chain.specs.Logs.{Outcomes, all_at}
use Rattle.sd_world.specs.Bounds.{Bounds}
use Rattle.sd_world.specs.Serving.{Core}
use Rattle.sd_state.specs.Good.{Good}
use Rattle.sd_state.specs.Parts.{Parts, is_loose, log_at, no_txns, owed_at, status_at, txns_at}
use Rattle.sd_state.specs.Sums.{owes_most}
use Rattle.sd_state.specs.Tables.{tells_log}
use Rattle.sd_state.specs.Values.{Pending, is_doubt}
use Rattle.sd_state.specs.Working.{with_working}
use Rattle.sd_state.proofs.Items.{item-kept, item-set}
use Rattle.sd_state.proofs.WorkingGood.{working-settled}
use Rattle.sd_fits.specs.Fits.{Fits, FitsBounds}
use Rattle.sd_fits.proofs.Doubts.{doubts-kept, part-stays}
use Rattle.sd_fits.proofs.Worked.{worked-bounds, worked-pages}

same-most : (a b : ℕ) → a ≡ b → a ≤ b
same-most a b e = omega (arith, e)

-- What is known of t, which is at work: its row and its part are others, but it has done and written what it had; and these wait so.
pub record HasTurned (t : TxnId) (p : Part) (table : Transactions) (locks : LockTable) (asks : Waits) (c : Parts) (m : State) : Type 0 where
  pub low : 1 ≤ home t
  pub high : home t ≤ 8
  pub up : status_at c (home t) ≡ S.Up
  pub span : span_at table t ≡ span_at (txns_at c (home t)) t
  pub others : OthersStay (txns_at c (home t)) table t
  pub acts : p.acts ≡ (m.part t).acts
  pub works : IsAtWork (m.part t).life
  pub sure : is_doubt p.life ≡ false
  pub rolls : p.life ≡ Life.Rolling None → IsOpen t (all_at (log_at c (home t)))
  pub waits : (u : TxnId) → waits locks u ≡ asks u
  pub waiting : (u : TxnId) → is_running ((put_part t p m).part u).life ≡ false → asks u ≡ None

-- the world then
abbrev pub turned_core : TxnId → Part → Waits → Bounds → Core → Core
turned_core t p asks b w = record {
  scene = record { state = put_part t p w.scene.state; waits = asks };
  pages = w.pages;
  bounds = b;
}

-- once t waits for nothing, each wait is of one that runs
pub ended-asks : (t : TxnId) (p : Part) (seen : DeviceImages) (leaves : Outcomes) (c : Parts) (w : Core) → Fits seen leaves c w
    → (u : TxnId) → is_running ((put_part t p w.scene.state).part u).life ≡ false → with_wait t None w.scene.waits u ≡ None
ended-asks t p seen leaves c w f = each_txn t (λ u (q : Part). is_running q.life ≡ false → with_wait t None w.scene.waits u ≡ None)
    p w.scene.state.part
    (λ off. ap (λ (b : Bool). cond {A = Option Wait} b None (w.scene.waits t)) (eq-same t t refl))
    (λ u ne off. ap (λ (b : Bool). cond {A = Option Wait} b None (w.scene.waits u)) (ne-same t u ne) ∙ f.waiting u off)

module _ (t : TxnId) (p : Part) (table : Transactions) (locks : LockTable) (asks : Waits) (b : Bounds) (seen : DeviceImages) (leaves : Outcomes)
    (c : Parts) (w : Core) (f : Fits seen leaves c w) (h : HasTurned t p table locks asks c w.scene.state) where
  abbrev m : State
  m = w.scene.state

  abbrev i : ℕ
  i = home t

  abbrev made : Parts
  made = with_working i table locks c

  -- the claim of each part of the new state
  by-part : (P : TxnId → Part → Type 0) → P t p → ((u : TxnId) → t ≢ u → P u (m.part u)) → (u : TxnId) → P u ((put_part t p m).part u)
  by-part P own others = each_txn t P p m.part own others

  here : txns_at made i ≡ table
  here = item-set no_txns c.txns i table h.low h.high f.good.shape.txns

  elsewhere : (j : ℕ) → j ≢ i → txns_at made j ≡ txns_at c j
  elsewhere j ne = item-kept no_txns c.txns i table h.low j ne

  rows : (u : TxnId) → t ≢ u → txn_at (txns_at made (home u)) u ≡ txn_at (txns_at c (home u)) u
  rows u ne = ⊎_elim
      (λ e. subst (λ (j : ℕ). txn_at (txns_at made j) u ≡ txn_at (txns_at c j) u) (sym e)
      (ap (λ (tb : Transactions). txn_at tb u) here ∙ h.others u (λ s. ne (sym s))))
      (λ off. ap (λ (tb : Transactions). txn_at tb u) (elsewhere (home u) off))
      (cases_eq (home u) i)

  has-put : (u : TxnId) → IsAtWork ((put_part t p m).part u).life → IsSome (span_at (txns_at made (home u)) u)
      → HasPut ((put_part t p m).part u).acts
  has-put = by-part (λ u (q : Part). IsAtWork q.life → IsSome (span_at (txns_at made (home u)) u) → HasPut q.acts)
      (λ work some. subst HasPut (sym h.acts)
      (f.put t h.works (subst IsSome (ap (λ (tb : Transactions). span_at tb t) here ∙ h.span) some)))
      (λ u ne work some. f.put u work (subst IsSome (ap (option_and_then (λ (x : Transaction). x.span)) (rows u ne)) some))

  module _ (good : Good seen leaves Pending.Idle made (put_part t p m)) where
    settled : is_loose c i ≡ false
    settled = working-settled seen leaves Pending.Idle c m i f.good f.idle h.low h.up

    owes-here : owed_of (txns_at made i) ≡ owed_of (txns_at c i)
    owes-here = (good.told i h.low h.high (ap tells_log h.up) settled).owes
        ∙ sym (f.good.told i h.low h.high (ap tells_log h.up) settled).owes

    owes : (j : ℕ) → 1 ≤ j → j ≤ 8 → owes_most made j ≤ owes_most c j
    owes j lo hi = same-most _ _ (ap (λ (o : ℕ). cond (is_loose c j) (owed_at c j)
        (cond (tells_log (status_at c j)) (max (owed_at c j) o) (owed_at c j))) (⊎_elim
        (λ e. subst (λ (k : ℕ). owed_of (txns_at made k) ≡ owed_of (txns_at c k)) (sym e) owes-here)
        (λ ne. ap owed_of (elsewhere j ne))
        (cases_eq j i)))

    pub turned-fits : FitsBounds seen leaves c b → Fits seen leaves made (turned_core t p asks b w)
    turned-fits bounds = record {
      good = good;
      idle = f.idle;
      rolling = by-part (λ u (q : Part). q.life ≡ Life.Rolling None → IsOpen u (all_at (log_at c (home u)))) h.rolls
          (λ u ne rolls. f.rolling u rolls);
      waits = h.waits;
      waiting = h.waiting;
      put = has-put;
      pages = worked-pages made.txns locks seen leaves c w.pages f.pages;
      bounds = worked-bounds made.txns locks seen leaves c b owes bounds;
      doubts = doubts-kept seen seen c made m (put_part t p m) f.doubts (part-stays t p m (put_part t p m) h.sure (λ u. refl))
          (λ keeps. keeps) (λ moved keeps j. refl) (λ moved keeps q. refl);
    }
