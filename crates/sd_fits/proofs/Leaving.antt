-- A transaction ends, and is gone: how a complex goes on fitting. For the calls that commit one, or end its rollback.
use Rattle.std.proofs.Common.{◌≡◌, ◌≢◌, ⊎_elim, ℕ, ◌≤◌, Bool, true, false, cond, List, [], ◌∷◌, max, refl, sym, ap, ◌∙◌, subst, arith}
use Rattle.std.specs.Prelude.{Option, None, Some, IsSome}
use Rattle.std.specs.Map.{lookup, remove_entry}
use Rattle.std.specs.Option.{option_and_then}
use Rattle.std.proofs.lemmas.Bool.{cases_eq}
use Rattle.sd_base.specs.Ids.{same_txn}
use Rattle.sd_base.specs.Waits.{Wait, with_wait}
use Rattle.sd_base.specs.declared.ids.TxnId.{TxnId}
use Rattle.sd_base.specs.declared.place.Status.TheVariants as S
use Rattle.sd_base.proofs.SameIds.{cases_txn, each_txn, eq-same, ne-same}
use Rattle.sd_rig.specs.Devices.{DeviceImages}
use Rattle.sd_model.specs.Applies.{HasPut}
use Rattle.sd_model.specs.Listed.{IsAtWork}
use Rattle.sd_model.specs.Scenes.{is_running, of_running}
use Rattle.sd_model.specs.State.{Part, State, gone}
use Rattle.sd_model.specs.declared.act.Life.{Life}
use Rattle.sd_reclock.specs.Locks.{waits}
use Rattle.sd_txn.specs.Owing.{owed_of}
use Rattle.sd_txn.specs.Transactions.{OthersStay, Transaction, Transactions, span_at, txn_at, without}
use Rattle.sd_chain.specs.Checks.{owed}
use Rattle.sd_chain.specs.Records.{IsOpen, home}
use Rattle.sd_chain.specs.Logs.{Outcomes, all_at}
use Rattle.sd_world.specs.Bounds.{Bounds}
use Rattle.sd_world.specs.Serving.{Core}
use Rattle.sd_state.specs.Good.{Good}
use Rattle.sd_state.specs.Parts.{Parts, is_loose, log_at, no_txns, owed_at, status_at, txns_at}
use Rattle.sd_state.specs.Sums.{owes_most}
use Rattle.sd_state.specs.Tables.{tells_log}
use Rattle.sd_state.specs.Values.{Pending}
use Rattle.sd_state.specs.Working.{with_working}
use Rattle.sd_state.proofs.Items.{item-kept, item-set}
use Rattle.sd_state.proofs.WorkingGood.{working-settled}
use Rattle.sd_fits.specs.Fits.{Fits, FitsBounds, FitsDoubts, FitsPages}
use Rattle.sd_fits.proofs.Doubts.{doubts-kept, part-stays}
use Rattle.sd_fits.proofs.Served.{ended-wait}
use Rattle.sd_fits.proofs.Worked.{worked-bounds, worked-pages}

-- the world once t is gone
abbrev pub left_core : TxnId → State → Bounds → Core → Core
left_core t m b w = record {
  scene = record { state = m; waits = of_running m (with_wait t None w.scene.waits) };
  pages = w.pages;
  bounds = b;
}

same-most : (a b : ℕ) → a ≡ b → a ≤ b
same-most a b e = omega (arith, e)

-- who isn't t is found as before where the row of t is taken out
others-left : (t u : TxnId) → t ≢ u → (rows : List (TxnId × Transaction))
    → lookup (same_txn u) (remove_entry (same_txn t) rows) ≡ lookup (same_txn u) rows
others-left t u ne [] = refl
others-left t u ne (row ∷ rows) = by (same_txn t row.0) refl (others-left t u ne rows)
  where
    apart : same_txn t row.0 ≡ true → same_txn u row.0 ≡ false
    apart is = ne-same u row.0 (λ e. ⊎_elim
        (λ same. ne (same ∙ sym e))
        (λ other. let clash = sym is ∙ ne-same t row.0 other in absurd (cc))
        (cases_txn t row.0))

    by : (b : Bool) → same_txn t row.0 ≡ b → lookup (same_txn u) (remove_entry (same_txn t) rows) ≡ lookup (same_txn u) rows
        → lookup (same_txn u) (cond {A = List (TxnId × Transaction)} b rows (row ∷ remove_entry (same_txn t) rows))
        ≡ cond {A = Option Transaction} (same_txn u row.0) (Some row.1) (lookup (same_txn u) rows)
    by true is ih = sym (ap (λ (b : Bool). cond {A = Option Transaction} b (Some row.1) (lookup (same_txn u) rows)) (apart is))
    by false is ih = ap (λ (o : Option Transaction). cond {A = Option Transaction} (same_txn u row.0) (Some row.1) o) ih

pub without-others : (table : Transactions) (t : TxnId) → OthersStay table (without table t) t
without-others table t u ne = others-left t u (λ e. ne (sym e)) table.unresolved

-- What is known where t leaves: c is the complex before the call, and mid that before its row and its locks go.
pub record Leaves (t : TxnId) (seen : DeviceImages) (leaves : Outcomes) (pend : Pending) (c mid new : Parts) (m m' : State) : Type 0 where
  pub low : 1 ≤ home t
  pub high : home t ≤ 8
  pub mid_good : Good seen leaves pend mid m
  pub idle : mid.due ≡ None
  pub up : status_at mid (home t) ≡ S.Up
  pub is : new ≡ with_working (home t) (without (txns_at mid (home t)) t) new.locks mid
  pub waits : (u : TxnId) → waits new.locks u ≡ cond (same_txn t u) None (waits c.locks u)
  pub good : Good seen leaves Pending.Idle new m'
  pub part : (u : TxnId) → m'.part u ≡ cond (same_txn t u) gone (m.part u)
  pub spans : (u : TxnId) → t ≢ u → span_at (txns_at mid (home u)) u ≡ span_at (txns_at c (home u)) u
  pub opens : (u : TxnId) → t ≢ u → IsOpen u (all_at (log_at c (home u))) → IsOpen u (all_at (log_at mid (home u)))

module _ (t : TxnId) (seen seen' : DeviceImages) (leaves leaves' : Outcomes) (pend : Pending) (c mid new : Parts) (w : Core) (m' : State) (b' : Bounds)
    (f : Fits seen leaves c w) (l : Leaves t seen' leaves' pend c mid new w.scene.state m')
    (pages : FitsPages seen' leaves' mid w.pages) (bounds : FitsBounds seen' leaves' mid b')
    (doubts : FitsDoubts seen' mid w.scene.state) where
  abbrev m : State
  m = w.scene.state

  abbrev i : ℕ
  i = home t

  abbrev made : Parts
  made = with_working i (without (txns_at mid i) t) new.locks mid

  here : txns_at made i ≡ without (txns_at mid i) t
  here = item-set no_txns mid.txns i (without (txns_at mid i) t) l.low l.high l.mid_good.shape.txns

  elsewhere : (j : ℕ) → j ≢ i → txns_at made j ≡ txns_at mid j
  elsewhere j ne = item-kept no_txns mid.txns i (without (txns_at mid i) t) l.low j ne

  rows : (u : TxnId) → t ≢ u → txn_at (txns_at made (home u)) u ≡ txn_at (txns_at mid (home u)) u
  rows u ne = ⊎_elim
      (λ e. subst (λ (j : ℕ). txn_at (txns_at made j) u ≡ txn_at (txns_at mid j) u) (sym e)
      (ap (λ (tb : Transactions). txn_at tb u) here
      ∙ without-others (txns_at mid i) t u (λ s. ne (sym s))))
      (λ ne'. ap (λ (tb : Transactions). txn_at tb u) (elsewhere (home u) ne'))
      (cases_eq (home u) i)

  -- the claim of each part of the new state
  by-part : (P : TxnId → Part → Type 0) → P t gone → ((u : TxnId) → t ≢ u → P u (m.part u)) → (u : TxnId) → P u (m'.part u)
  by-part P own others u = subst (P u) (sym (l.part u)) (each_txn t P gone m.part own others u)

  settled : is_loose mid i ≡ false
  settled = working-settled seen' leaves' pend mid m i l.mid_good l.idle l.low l.up

  owes-here : owed_of (txns_at new i) ≡ owed_of (txns_at mid i)
  owes-here =
      let told = l.mid_good.told i l.low l.high (ap tells_log l.up) settled in
      let told' = l.good.told i l.low l.high (ap tells_log (ap (λ (p : Parts). status_at p i) l.is ∙ l.up))
      (ap (λ (p : Parts). is_loose p i) l.is ∙ settled) in
      told'.owes ∙ ap (λ (p : Parts). owed (all_at (log_at p i))) l.is ∙ sym told.owes

  owes : (j : ℕ) → 1 ≤ j → j ≤ 8 → owes_most made j ≤ owes_most mid j
  owes j lo hi = same-most _ _ (ap (λ (o : ℕ). cond (is_loose mid j) (owed_at mid j)
      (cond (tells_log (status_at mid j)) (max (owed_at mid j) o) (owed_at mid j))) (⊎_elim
      (λ e. subst (λ (k : ℕ). owed_of (txns_at made k) ≡ owed_of (txns_at mid k)) (sym e)
      (ap (λ (p : Parts). owed_of (txns_at p i)) (sym l.is) ∙ owes-here))
      (λ ne. ap owed_of (elsewhere j ne))
      (cases_eq j i)))

  left-waits : (u : TxnId) → waits new.locks u ≡ of_running m' (with_wait t None w.scene.waits) u
  left-waits u = l.waits u ∙ ap (λ (o : Option Wait). cond {A = Option Wait} (same_txn t u) None o) (f.waits u)
      ∙ sym (by-part (λ v (p : Part). cond {A = Option Wait} (is_running p.life) (with_wait t None w.scene.waits v) None ≡ with_wait t None w.scene.waits v)
      (sym (ap (λ (x : Bool). cond {A = Option Wait} x None (w.scene.waits t)) (eq-same t t refl)))
      (λ v ne. ended-wait seen leaves c w f t v) u)

  has-put : (u : TxnId) → IsAtWork (m'.part u).life → IsSome (span_at (txns_at made (home u)) u) → HasPut (m'.part u).acts
  has-put = by-part (λ u (p : Part). IsAtWork p.life → IsSome (span_at (txns_at made (home u)) u) → HasPut p.acts)
      (λ work some. absurd work)
      (λ u ne work some. f.put u work (subst IsSome (ap (option_and_then (λ (x : Transaction). x.span)) (rows u ne) ∙ l.spans u ne) some))

  still-open : (u : TxnId) → (m'.part u).life ≡ Life.Rolling None → IsOpen u (all_at (log_at mid (home u)))
  still-open = by-part (λ u (p : Part). p.life ≡ Life.Rolling None → IsOpen u (all_at (log_at mid (home u))))
      (λ rolls. absurd (cc))
      (λ u ne rolls. l.opens u ne (f.rolling u rolls))

  pub left-fits : Fits seen' leaves' new (left_core t m' b' w)
  left-fits = record {
    good = l.good;
    idle = ap (λ (p : Parts). p.due) l.is ∙ l.idle;
    rolling = λ u rolls. subst (λ (p : Parts). IsOpen u (all_at (log_at p (home u)))) (sym l.is) (still-open u rolls);
    waits = left-waits;
    waiting = λ u rests. ap (λ (x : Bool). cond {A = Option Wait} x (with_wait t None w.scene.waits u) None) rests;
    put = λ u work some. has-put u work (subst (λ (p : Parts). IsSome (span_at (txns_at p (home u)) u)) l.is some);
    pages = subst (λ (p : Parts). FitsPages seen' leaves' p w.pages) (sym l.is)
        (worked-pages made.txns new.locks seen' leaves' mid w.pages pages);
    bounds = subst (λ (p : Parts). FitsBounds seen' leaves' p b') (sym l.is)
        (worked-bounds made.txns new.locks seen' leaves' mid b' owes bounds);
    doubts = subst (λ (p : Parts). FitsDoubts seen' p m') (sym l.is)
        (doubts-kept seen' seen' mid made m m' doubts (part-stays t gone m m' refl l.part) (λ keeps. keeps)
        (λ moved keeps j. refl) (λ moved keeps p. refl));
  }
