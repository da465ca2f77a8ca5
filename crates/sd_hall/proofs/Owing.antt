-- Whether an entry is owed for an event, by what code sees of a complex. It serves the goals of `is_owed` in ledger.rt.
use Rattle.std.proofs.Common.{◌≡◌, ◌↔◌, inl, inr, ℕ, ◌<◌, ◌≤◌, Bool, true, length, refl, sym, ap, ◌∙◌, subst, arith}
use Rattle.std.specs.Prelude.{IsTrue, Option, None, Some, option_and_then, option_map}
use Rattle.std.specs.Option.{option_map_or}
use Rattle.sd_base.specs.declared.ids.TxnId.{TxnId}
use Rattle.sd_base.specs.declared.place.Status.TheVariants as S
use Rattle.sd_model.specs.Acts.{live}
use Rattle.sd_model.specs.Changes.{goal}
use Rattle.sd_model.specs.State.{State}
use Rattle.sd_model.specs.declared.act.Life.{Life}
use Rattle.sd_model.specs.declared.event.Event.TheVariants as event
use Rattle.sd_pagelock.specs.Directory.{entry_at}
use Rattle.sd_pagelock.specs.Places.{PageEntry, owns}
use Rattle.sd_chain.specs.Fates.{Fate}
use Rattle.sd_world.specs.PageCauses.{undo_page}
use Rattle.sd_world.specs.Serving.{Core, Telling}
use Rattle.sd_state.specs.Complexes.{parts}
use Rattle.sd_state.specs.Parts.{status_at, txns_at}
use Rattle.sd_state.specs.Tables.{NamesLife, StandsAs}
use Rattle.sd_state.specs.Values.{Pending}
use Rattle.sd_state.specs.declared.complex.Complex.{Complex}
use Rattle.sd_txn.specs.Transactions.{Transaction, depth, depth_at, state_at, top, top_at, txn_at}
use Rattle.sd_txn.specs.declared.state.OpenRec.{OpenRec}
use Rattle.sd_txn.specs.declared.state.TxnState.{TxnState}
use Rattle.sd_fits.specs.Serving.{fits_by}
use Rattle.sd_fits.proofs.Heads.{stands-as}
use Rattle.sd_hall.specs.Owed.{IsOwed}
use Rattle.sd_hall.proofs.Rolling.{HasRow, has-row, last-there, rolls-named}

-- whoever runs stands so in the table that names it
runs-so : (s : TxnState) (forced whole : Fate) → StandsAs s Life.Running forced whole → s ≡ TxnState.Running
runs-so TxnState.Running forced whole h = refl
runs-so (TxnState.Rolling to) forced whole h = absurd (cc)
runs-so TxnState.Retained forced whole (inl h) = absurd (cc)
runs-so TxnState.Retained forced whole (inr h) = absurd h.0
runs-so TxnState.Doubt forced whole h = absurd h
runs-so TxnState.Committed forced whole h = absurd h.0

runs-named : (o : Option Transaction) (life : Life) (forced whole : Fate) → NamesLife o life forced whole → life ≡ Life.Running
    → option_map (λ (x : Transaction). x.state) o ≡ Some TxnState.Running
runs-named None life forced whole n runs = let clash : Life.Running ≡ Life.Gone = sym runs ∙ n in absurd (cc)
runs-named (Some x) life forced whole n runs =
    ap (λ (s : TxnState). Some s) (runs-so x.state forced whole (subst (λ (l : Life). StandsAs x.state l forced whole) runs n))

-- who is told to run runs, and an instance that is told to be up is
module _ {G : Type 0} (tell : Telling G) (c : Complex G) (w : Core) (f : fits_by tell.seen tell.leaves c w) (b : Bool) where
  abbrev m : State
  m = w.scene.state

  pub runs-owed : (t : TxnId) → 1 ≤ t.inst → t.inst ≤ 8
      → IsTrue b ↔ (state_at (txns_at (parts c) t.inst) t ≡ Some TxnState.Running) → IsTrue b ↔ IsOwed w (event.Commit t)
  runs-owed t low high told = (
    (λ is. stands-as _ _ Pending.Idle (parts c) m f.good t TxnState.Running low high (told.0 is)),
    (λ runs. told.1 (runs-named (txn_at (txns_at (parts c) t.inst) t) (m.part t).life _ _
        ((f.good.instances t.inst low high).names t refl) runs)),
  )

  pub up-owed : (i : ℕ) → 1 ≤ i → i ≤ 8 → IsTrue b ↔ (status_at (parts c) i ≡ S.Up) → IsTrue b ↔ IsOwed w (event.Fail i)
  up-owed i low high told = (
    (λ is. (low, high, sym (f.good.instances i low high).status ∙ told.0 is)),
    (λ owed. told.1 ((f.good.instances i low high).status ∙ owed.2)),
  )

  -- where the goal isn't reached, the instance has the page of the last open record alone
  abbrev OwnsNext : TxnId → Option ℕ → Type 0
  OwnsNext t to = goal to < depth_at (txns_at (parts c) t.inst) t
      → (o : OpenRec) → top_at (txns_at (parts c) t.inst) t ≡ Some o → owns (entry_at (parts c).directory o.rid.page) t.inst ≡ true

  module _ (t : TxnId) (to : Option ℕ) (row : HasRow t (parts c) m) where
    deep : depth_at (txns_at (parts c) t.inst) t ≡ length (live (m.part t).acts)
    deep = ap (λ (o : Option Transaction). option_map_or depth o 0) row.row ∙ row.many

    last-is : top_at (txns_at (parts c) t.inst) t ≡ top row.x
    last-is = ap (λ (o : Option Transaction). option_and_then top o) row.row

    -- where an undo's page is
    page-is : (o : OpenRec) → top row.x ≡ Some o → w.pages.entry (undo_page m t) ≡ entry_at (parts c).directory o.rid.page
    page-is o last = ap w.pages.entry (row.page o last) ∙ f.pages.entry o.rid.page

    owned-so : OwnsNext t to → goal to < length (live (m.part t).acts) → owns (w.pages.entry (undo_page m t)) t.inst ≡ true
    owned-so next above =
        let same = row.many in
        let last = last-there row.x (omega (arith, same, above)) in
        let down = deep in
        ap (λ (e : PageEntry). owns e t.inst) (page-is last.0 last.1)
        ∙ next (omega (arith, down, above)) last.0 (last-is ∙ last.1)

    next-so : (goal to < length (live (m.part t).acts) → owns (w.pages.entry (undo_page m t)) t.inst ≡ true) → OwnsNext t to
    next-so owned above o last =
        let down = deep in
        ap (λ (e : PageEntry). owns e t.inst) (sym (page-is o (sym last-is ∙ last))) ∙ owned (omega (arith, down, above))

  pub undo-owed : (t : TxnId) → 1 ≤ t.inst → t.inst ≤ 8
      → IsTrue b ↔ ((to : Option ℕ) × (state_at (txns_at (parts c) t.inst) t ≡ Some (TxnState.Rolling to)) × OwnsNext t to)
      → IsTrue b ↔ IsOwed w (event.Undo t)
  undo-owed t low high told = (
    (λ is. let it = told.0 is in
        let rolls : (m.part t).life ≡ Life.Rolling it.0 =
        stands-as _ _ Pending.Idle (parts c) m f.good t (TxnState.Rolling it.0) low high it.1 in
        (it.0, rolls, owned-so t it.0 (has-row tell c w f t low high it.0 rolls) it.2)),
    (λ owed. told.1 (
      owed.0,
      rolls-named (txn_at (txns_at (parts c) t.inst) t) (m.part t).life owed.0 _ _
          ((f.good.instances t.inst low high).names t refl) owed.1,
      next-so t owed.0 (has-row tell c w f t low high owed.0 owed.1) owed.2,
    )),
  )
