-- What the table of an instance has of a transaction that rolls back. It serves the goals of `is_owed` in ledger.rt.
use Rattle.std.proofs.Common.{◌≡◌, inl, inr, ℕ, ◌≤◌, length, refl, sym, ap, ◌∙◌, subst, arith}
use Rattle.std.specs.Prelude.{Option, None, Some, option_map}
use Rattle.sd_base.specs.declared.ids.TxnId.{TxnId}
use Rattle.sd_base.specs.declared.place.Status.TheVariants as S
use Rattle.sd_model.specs.Acts.{live}
use Rattle.sd_model.specs.Lives.{SuitsStatus}
use Rattle.sd_model.specs.State.{State}
use Rattle.sd_model.specs.declared.act.Life.{Life}
use Rattle.sd_chain.specs.Fates.{Fate}
use Rattle.sd_world.specs.PageCauses.{undo_page}
use Rattle.sd_world.specs.Serving.{Core, Telling}
use Rattle.sd_state.specs.Complexes.{parts}
use Rattle.sd_state.specs.Parts.{Parts, status_at, txns_at}
use Rattle.sd_state.specs.Tables.{NamesLife, StandsAs}
use Rattle.sd_state.specs.declared.complex.Complex.{Complex}
use Rattle.sd_state.proofs.EndingLeaves.{known-row}
use Rattle.sd_txn.specs.Transactions.{Transaction, depth, top, txn_at}
use Rattle.sd_txn.specs.declared.state.OpenRec.{OpenRec}
use Rattle.sd_txn.specs.declared.state.TxnState.{TxnState}
use Rattle.sd_txn.proofs.Stacks.{none-empty}
use Rattle.sd_fits.specs.Serving.{fits_by}
use Rattle.sd_fits.proofs.Undoing.{deep, page-is}
use Rattle.sd_hall.proofs.Paid.{may-run}

-- whoever rolls back stands so in the table that names it
rolls-so : (s : TxnState) (to : Option ℕ) (forced whole : Fate) → StandsAs s (Life.Rolling to) forced whole → s ≡ TxnState.Rolling to
rolls-so TxnState.Running to forced whole h = absurd (cc)
rolls-so (TxnState.Rolling x) to forced whole h = cc
rolls-so TxnState.Retained to forced whole (inl h) = absurd (cc)
rolls-so TxnState.Retained to forced whole (inr h) = absurd h.0
rolls-so TxnState.Doubt to forced whole h = absurd h
rolls-so TxnState.Committed to forced whole h = absurd h.0

pub rolls-named : (o : Option Transaction) (life : Life) (to : Option ℕ) (forced whole : Fate) → NamesLife o life forced whole
    → life ≡ Life.Rolling to → option_map (λ (x : Transaction). x.state) o ≡ Some (TxnState.Rolling to)
rolls-named None life to forced whole n rolls = let clash : Life.Rolling to ≡ Life.Gone = sym rolls ∙ n in absurd (cc)
rolls-named (Some x) life to forced whole n rolls =
    ap (λ (s : TxnState). Some s) (rolls-so x.state to forced whole (subst (λ (l : Life). StandsAs x.state l forced whole) rolls n))

-- where a record is open, one is the last
pub last-there : (x : Transaction) → 1 ≤ depth x → (o : OpenRec) × (top x ≡ Some o)
last-there x some = go (top x) refl
  where
    go : (last : Option OpenRec) → top x ≡ last → (o : OpenRec) × (top x ≡ Some o)
    go None is = let none = ap length (none-empty x.stack is) in absurd (omega (arith, none, some))
    go (Some o) is = (o, is)

-- The row of a transaction in its instance's table: it has as many open records as there are live puts, and the last one is of the page
-- of an undo.
pub record HasRow (t : TxnId) (c : Parts) (m : State) : Type 0 where
  pub x : Transaction
  pub row : txn_at (txns_at c t.inst) t ≡ Some x
  pub many : depth x ≡ length (live (m.part t).acts)
  pub page : (o : OpenRec) → top x ≡ Some o → undo_page m t ≡ o.rid.page

module _ {G : Type 0} (tell : Telling G) (c : Complex G) (w : Core) (f : fits_by tell.seen tell.leaves c w) (t : TxnId) (low : 1 ≤ t.inst)
    (high : t.inst ≤ 8) where
  abbrev m : State
  m = w.scene.state

  up-there : (to : Option ℕ) → (m.part t).life ≡ Life.Rolling to → status_at (parts c) t.inst ≡ S.Up
  up-there to rolls = (f.good.instances t.inst low high).status ∙ may-run (m.inst t.inst).status
      (subst (λ (life : Life). SuitsStatus life (m.inst t.inst).status) rolls (f.good.placed.stands t))

  -- one that rolls back has a row
  pub has-row : (to : Option ℕ) → (m.part t).life ≡ Life.Rolling to → HasRow t (parts c) m
  has-row to rolls =
      let up = up-there to rolls in
      let it = known-row (txn_at (txns_at (parts c) t.inst) t) (m.part t).life _ _
      (λ gone. let clash : Life.Rolling to ≡ Life.Gone = sym rolls ∙ gone in absurd (cc))
      ((f.good.instances t.inst low high).names t refl) in
      record {
        x = it.0;
        row = it.1;
        many = deep t to (tell.seen c.rig) (tell.leaves c.rig) (parts c) w f rolls low high up it.0 it.1;
        page = page-is t to (tell.seen c.rig) (tell.leaves c.rig) (parts c) w f rolls low high up it.0 it.1;
      }
