-- A loser's last open record is undone by the instance that recovers: for the law `undo_for`.
use Rattle.std.proofs.Common.{◌≡◌, ◌≢◌, ◌⊎◌, inl, inr, ⊎_elim, ℕ, ◌≤◌, Bool, true, false, cond, List, [], ◌∷◌, ◌++◌, ◌&&◌, map, filter, refl, sym, ap, ◌∙◌, subst, eq-eqb, ne_eqb}
use Rattle.std.specs.Prelude.{Option, None, Some}
use Rattle.std.specs.Option.{option_map_or}
use Rattle.std.proofs.lemmas.Bool.{cases_eq}
use mathlib.Core.Path.{fun_ext}
use Rattle.sd_base.specs.Ids.{same_txn}
use Rattle.sd_base.specs.declared.ids.TxnId.{TxnId}
use Rattle.sd_logrec.specs.View.{Rec, flat}
use Rattle.sd_log.specs.Logs.{LogState, begun_at}
use Rattle.sd_model.specs.Acts.{after}
use Rattle.sd_model.specs.State.{State}
use Rattle.sd_model.specs.declared.act.Life.{Life}
use Rattle.sd_page.specs.Page.{Page}
use Rattle.sd_pagelock.specs.Directory.{DirectoryState}
use Rattle.sd_pagelock.specs.Rows.{dirtied}
use Rattle.sd_pool.specs.Buffers.{Buffers}
use Rattle.sd_rig.specs.Devices as rig
use Rattle.sd_txn.specs.Transactions.{Transaction, Transactions}
use Rattle.sd_txn.specs.declared.state.OpenRec.{OpenRec}
use Rattle.sd_txn.specs.declared.state.TxnState.{TxnState}
use Rattle.sd_chain.specs.Fates.{Fate, fate}
use Rattle.sd_chain.specs.Images.{Keeps}
use Rattle.sd_chain.specs.Records.{IsOpen, ends, home}
use Rattle.sd_chain.proofs.Fates.{fate-closed}
use Rattle.sd_chain.proofs.Lists.{Each-append}
use Rattle.sd_chain.specs.Coherent.{Coherent, Quiet}
use Rattle.sd_chain.specs.World.{Base, put_at}
use Rattle.sd_chain.proofs.LogsSettled.{fail-keeps}
use Rattle.sd_chain.proofs.OneUpdater.{inactive-none}
use Rattle.sd_chain.specs.Logs.{Outcomes, all_at, base_at, may_of, tail_at}
use Rattle.sd_state.specs.Good.{Good, base_of, dir_of}
use Rattle.sd_state.specs.Images.{leaves_by, log_by}
use Rattle.sd_state.specs.Parts.{Parts, is_active, is_loose, is_up, log_at, other_at, up_as}
use Rattle.sd_base.specs.Standing.{active_as}
use Rattle.sd_state.specs.Tables.{IsInDoubt, NamesLife, StandsAs}
use Rattle.sd_update.specs.Undoing.{IsUndone, clr_at, with_undone_by}
use Rattle.sd_update.specs.UndoingFor.{MayUndoFor, UndoForIsGood}
use Rattle.sd_state.specs.Values.{Pending, as_done, is_committed, undecided, values}
use Rattle.sd_update.proofs.Undone.{good-there, undone_log}
use Rattle.sd_update.proofs.UndoneHalf.{acting_base}
use Rattle.sd_update.proofs.UndoneTop as top-of-all

-- a log that begins elsewhere has the same tail
tail-by : (moved : Bool) (other : Option ℕ) (l : LogState)
    → tail_at (cond moved (option_map_or (λ place. begun_at place l) other l) l) ≡ tail_at l
tail-by true None l = refl
tail-by true (Some place) l = refl
tail-by false other l = refl

-- a loser is there
retained-there : (life : Life) (forced whole : Fate) → StandsAs TxnState.Retained life forced whole → life ≢ Life.Gone
retained-there life forced whole h gone = ⊎_elim (λ r. let e = sym r ∙ gone in absurd (cc))
    (λ d. subst IsInDoubt gone d.0) h

module _ (a : ℕ) (t : TxnId) (x : Transaction) (o : OpenRec) (image : Page) (log : LogState) (pool : Buffers) (table : Transactions)
    (places : DirectoryState Page) (seen : rig.DeviceImages) (leaves : Outcomes) (c : Parts) (m : State)
    (g : Good seen leaves Pending.Idle c m) (w : MayUndoFor a t x o image c)
    (d : IsUndone a t x o image log pool table places c) where
  abbrev i : ℕ
  i = home t

  abbrev all : List Rec
  all = all_at (log_at c i)

  abbrev whole : List Rec
  whole = undone_log t x o image c

  alive : IsOpen t whole
  alive = Each-append (λ z. (ends z.kind && same_txn z.txn t) ≡ false) all (flat (clr_at t x o image c) ∷ [])
      (top-of-all.alive a t x o image seen leaves c m g w.top) (refl, tt)

  named : NamesLife (Some x) (m.part t).life (fate t (base_at (log_at c i))) (fate t all)
  named = subst (λ (row : Option Transaction). NamesLife row (m.part t).life (fate t (base_at (log_at c i))) (fate t all)) w.top.row
      ((g.instances i w.top.low w.top.high).names t refl)

  stays : (forced : Fate) → StandsAs x.state (m.part t).life forced (fate t all)
      → StandsAs x.state (m.part t).life forced (fate t whole)
  stays forced h = subst (λ (s : TxnState). StandsAs s (m.part t).life forced (fate t whole)) (sym w.loser)
      (⊎_elim (λ r. inl r) (λ e. inr (e.0, e.1, λ committed. fate-closed t whole (inl committed) alive))
      (subst (λ (s : TxnState). StandsAs s (m.part t).life forced (fate t all)) w.loser h))

  tables : (one other : ℕ → List Rec) → ((u : TxnId) → is_committed one u ≡ is_committed other u) → (p s : ℕ)
      → values m Pending.Idle one p s ≡ values m Pending.Idle other p s
  tables one other same p s = ap (λ (committed : TxnId → Bool).
      after m.start (m.done ++ map (as_done m) (filter committed (undecided m Pending.Idle))) (record { page = p; slot = s }))
      (fun_ext same)

  -- ---- while the log counts as one that is forced

  not-up : is_up c i ≡ false
  not-up = ap up_as w.recovers

  whose : (a ≡ i) ⊎ (is_active c i ≡ false)
  whose = ⊎_elim (λ e. inl e) (λ ne. inr (ap (active_as i) w.recovers ∙ ne_eqb a i ne)) (cases_eq a i)

  marks-are : (j : ℕ) → 1 ≤ j → is_loose c j ≡ put_at i false (is_loose c) j
  marks-are j lo = ⊎_elim
      (λ e. subst (λ (k : ℕ). is_loose c k ≡ put_at i false (is_loose c) k) (sym e)
      (w.top.settled ∙ sym (ap (λ (b : Bool). cond b false (is_loose c i)) (eq-eqb i i refl))))
      (λ ne. sym (ap (λ (b : Bool). cond b false (is_loose c j)) (ne_eqb j i ne)))
      (cases_eq j i)

  module _ (moved : Keeps) where
    abbrev leaves' : Outcomes
    leaves' = leaves_by c moved leaves

    abbrev b : Base (may_of leaves')
    b = base_of seen leaves' (log_by c moved) c

    own-forced : b.tails.tail a ≡ []
    own-forced = tail-by (moved a) (other_at c a) (log_at c a) ∙ ap (map flat) w.own_forced

    nothing : (p : ℕ) → Quiet p (b.tails.tail i) ⊎ ((dir_of c).entry p ≡ dirtied a)
    nothing p = inl (⊎_elim (λ e. subst (λ (k : ℕ). Quiet p (b.tails.tail k)) e (subst (Quiet p) (sym own-forced) tt))
        (λ off. inactive-none (may_of leaves') b (dir_of c) (g.half moved).coherent w.idle i off w.top.settled p) whose)

    acting : Coherent (acting_base seen leaves' (log_by c moved) c (put_at i false (is_loose c)) (Some (a, i))) (dir_of c)
    acting = fail-keeps (may_of leaves') a i false b (dir_of c) (g.half moved).coherent (inl w.idle) (inr not-up) nothing

  pub for-good : Good seen leaves Pending.Idle (with_undone_by a i log pool table places (Some (a, i)) c) m
  for-good = good-there a t x o image log pool table places (Some (a, i)) seen leaves c m m.part w.low w.high g w.top d
      (λ u. refl) (λ u. refl) (λ u ne. refl) tables (put_at i false (is_loose c)) marks-are acting
      (λ moved. inr (refl, λ ne. own-forced moved))
      (retained-there (m.part t).life (fate t (base_at (log_at c i))) (fate t all)
      (subst (λ (s : TxnState). StandsAs s (m.part t).life (fate t (base_at (log_at c i))) (fate t all)) w.loser named))
      stays (λ up. let e = sym w.recovers ∙ up in absurd (cc)) g.kept g.marked g.named

-- for the law
pub undo-for_good : (leaves : Outcomes) → UndoForIsGood leaves
undo-for_good leaves seen c m a t x o image log pool table places g w d =
    for-good a t x o image log pool table places seen leaves c m g w d
