-- An edit that is made, or finds no room in its log, no LSN or no memory. For `carry`.
use Rattle.std.proofs.Common.{◌≡◌, ◌≢◌, ℕ, ◌<◌, ◌≤◌, Bool, true, false, cond, List, [], ◌∷◌, ◌++◌, length, refl, sym, ap, ◌∙◌, subst, arith}
use Rattle.sd_base.specs.Values.{size}
use Rattle.sd_base.specs.declared.ids.Rid.{Rid}
use Rattle.sd_base.specs.declared.ids.TxnId.{TxnId}
use Rattle.sd_base.specs.declared.place.Mode.TheVariants as modes
use Rattle.sd_base.specs.declared.place.Status.TheVariants as S
use Rattle.sd_model.specs.Applies.{HasPut}
use Rattle.sd_model.specs.Fields.{inst_of}
use Rattle.sd_model.specs.State.{State, looked_at, view, wrote}
use Rattle.sd_model.specs.Tables.{Content}
use Rattle.sd_model.specs.declared.act.Act.{Act}
use Rattle.sd_model.specs.declared.act.Claim.{Claim}
use Rattle.sd_model.specs.declared.act.Life.{Life}
use Rattle.sd_model.specs.declared.event.Event.{Event}
use Rattle.sd_model.specs.declared.event.Reply.{Reply}
use Rattle.sd_model.proofs.Views.{part-here}
use Rattle.sd_page.specs.Page.{Page}
use Rattle.sd_pagelock.specs.Directory.{entry_at}
use Rattle.sd_pagelock.specs.Places.{holds_as, is_lost}
use Rattle.sd_pagelock.specs.Rows.{dirtied}
use Rattle.sd_reclock.specs.Answers.{IsFree}
use Rattle.sd_reclock.specs.Locks.{stands, wait_for, waits_in}
use Rattle.sd_reclock.specs.declared.wait.Asked.{Asked}
use Rattle.sd_rig.specs.Devices.{DeviceImages}
use Rattle.sd_chain.specs.Logs.{Outcomes}
use Rattle.sd_chain.specs.Pages.{capacity as capacity_of, redo}
use Rattle.sd_chain.specs.Records.{home}
use Rattle.sd_world.specs.Answers.{changes}
use Rattle.sd_world.specs.Bounds.{Bounds, TellsNoPlace, bounds_after, cost, counts, is_wait, with_least, with_slot}
use Rattle.sd_world.proofs.Sums.{least-kept}
use Rattle.sd_world.specs.Pages.{Pages, numbered, page_placed}
use Rattle.sd_world.specs.Serving.{Core}
use Rattle.sd_update.specs.Changing.{Change, change_of, changed_log, flat_of, image_for, putting, with_changed}
use Rattle.sd_state.specs.Good.{Good}
use Rattle.sd_state.specs.Parts.{Parts, status_at}
use Rattle.sd_state.specs.Values.{Pending}
use Rattle.sd_fits.specs.Fits.{AreAtLeast, AreWithin, Fits, FitsBounds, capacities}
use Rattle.sd_fits.proofs.Changing.{changed-fits, least-added, least-filled, least-stays, slots-kept, slots-new}
use Rattle.sd_fits.proofs.Served.{relocked-good}
use Rattle.sd_fits.proofs.Taking.{GoesOnAs, same-on, taken-fits, took-lives, took-on, took-twice, turned_to}
use Rattle.sd_fits.proofs.Values.{copy-newest}
use Rattle.sd_ops.specs.Puts.{IsLowered, IsPutThere}
use Rattle.sd_ops.proofs.Held.{as-held}
use Rattle.sd_ops.proofs.Owning.{looked-fits, not-lost}

-- one who puts something last has put something
put-last : (xs : List Act) (r : Rid) (v w : Content) → HasPut (xs ++ Act.Read r v ∷ Act.Put r w ∷ [])
put-last [] r v w = tt
put-last (Act.Read q u ∷ xs) r v w = put-last xs r v w
put-last (Act.Put q u ∷ xs) r v w = tt
put-last (Act.Undo ∷ xs) r v w = put-last xs r v w

module _ (t : TxnId) (r : Rid) (capacity : ℕ) (after : Content) (seen_by : DeviceImages) (leaves : Outcomes) (c new : Parts)
    (up : status_at c (home t) ≡ S.Up) (free : IsFree (stands c.locks) t (wait_for r modes.Excl))
    (mine : holds_as modes.Excl (entry_at c.directory r.page) (home t) ≡ true)
    (there : IsPutThere seen_by leaves t r capacity after c new)
    (w : Core) (f : Fits seen_by leaves c w) (runs : (w.scene.state.part t).life ≡ Life.Running) where
  abbrev m : State
  m = w.scene.state

  abbrev mid : Parts
  mid = there.mid

  abbrev k : Change
  k = change_of t r capacity after mid

  abbrev looked : State
  looked = looked_at t r (view m t r) m

  abbrev put_state : State
  put_state = wrote t r (view m t r) after m

  -- the world once the lock is given
  abbrev mid_core : Core
  mid_core = record { scene = record { state = looked; waits = w.scene.waits }; pages = w.pages; bounds = w.bounds }

  mid-fits : Fits seen_by leaves mid mid_core
  mid-fits = looked-fits t r seen_by leaves c up free mine w f runs w.bounds f.bounds mid there.granted

  wrote-is : putting t r after looked ≡ put_state
  wrote-is = took-twice t r Claim.Excl (Act.Read r (view m t r) ∷ []) (Act.Put r after ∷ []) m

  good-then : Good seen_by leaves Pending.Idle new put_state
  good-then = subst (λ (s : State). Good seen_by leaves Pending.Idle new s) wrote-is (there.keeps looked mid-fits.good)

  good-changed : Good seen_by leaves Pending.Idle (with_changed (home k.txn) (changed_log (home k.txn) k there.made.put.spare mid)
      there.made.put.table there.made.put.pool there.made.put.places mid) put_state
  good-changed = subst (λ (x : Parts). Good seen_by leaves Pending.Idle x put_state) there.made.put.is good-then

  goes-on : GoesOnAs looked put_state
  goes-on = subst (GoesOnAs looked) wrote-is
      (took-on t r Claim.Excl (Act.Put r after ∷ []) looked (took-lives t r Claim.Excl (Act.Read r (view m t r) ∷ []) m t ∙ runs))

  has-put : HasPut (put_state.part t).acts
  has-put = subst (λ p. HasPut p.acts) (sym (part-here m t _)) (put-last (m.part t).acts r (view m t r) after)

  -- the pages, with the record's LSN
  abbrev pages_then : Pages
  pages_then = numbered r.page k.lsn (page_placed r.page (dirtied (home t)) w.pages)

  number-below : w.pages.number r.page < k.lsn
  number-below =
      let is = f.pages.number r.page (present (is_lost (entry_at c.directory r.page)) refl) in
      let copy = copy-newest seen_by leaves Pending.Idle c m t r.page f.good (as-held modes.Excl (entry_at c.directory r.page) (home t) mine) in
      let same = ap (λ (x : Parts). (image_for t r.page x).lsn) there.granted.rest in
      let lsn = there.made.appends.lsn in
      let number = is ∙ ap (λ (x : Page). x.lsn) (sym copy) ∙ sym same in
      omega (arith, number, lsn)
    where
      present : (b : Bool) → is_lost (entry_at c.directory r.page) ≡ b → is_lost (w.pages.entry r.page) ≡ false
      present true lost = absurd (not-lost t r seen_by leaves c up free mine w f runs (ap is_lost (f.pages.entry r.page) ∙ lost))
      present false is = ap is_lost (f.pages.entry r.page) ∙ is

  pub is-change : changes (home t) r.page w.pages pages_then
  is-change = (k.lsn, number-below, refl)

  -- The complex fits the world in which the value is put.
  pub put-fits : (e : Event) (reply_is : Reply) → inst_of e ≡ home t → cond (counts e reply_is) (cost e) 0 ≡ 900 → size k.before ≤ 256
      → size after ≤ 256 → AreWithin (capacities (redo (image_for t r.page mid) (flat_of k))) ((bounds_after w.bounds e reply_is).slots r.page)
      → AreAtLeast (capacities (redo (image_for t r.page mid) (flat_of k))) ((bounds_after w.bounds e reply_is).least r.page)
      → ((q : ℕ) → q ≢ r.page → (bounds_after w.bounds e reply_is).least q ≡ w.bounds.least q) → is_wait reply_is ≡ false
      → Fits seen_by leaves new (turned_to w put_state w.scene.waits pages_then e reply_is)
  put-fits e reply_is whose costs before_small after_small slots least else works =
      changed-fits k seen_by leaves mid new put_state mid_core mid-fits there.made good-changed e reply_is whose costs before_small after_small
      slots least else works goes-on has-put

  pub slots-stay : (e : Event) (reply_is : Reply) → r.slot < length (image_for t r.page mid).slots
      → AreWithin (capacities (redo (image_for t r.page mid) (flat_of k))) ((bounds_after w.bounds e reply_is).slots r.page)
  slots-stay e reply_is lt = slots-kept k seen_by leaves mid new put_state mid_core mid-fits there.made good-changed e reply_is lt

  pub least-stay : (e : Event) (reply_is : Reply) → TellsNoPlace reply_is → r.slot < length (image_for t r.page mid).slots
      → AreAtLeast (capacities (redo (image_for t r.page mid) (flat_of k))) ((bounds_after w.bounds e reply_is).least r.page)
  least-stay e reply_is told lt = subst (AreAtLeast _) (sym (least-kept w.bounds.least e reply_is told r.page))
      (least-stays k seen_by leaves mid new put_state mid_core mid-fits there.made good-changed lt)

  -- and where the slot is new, one more
  pub slots-added : r.slot ≡ length (image_for t r.page mid).slots
      → AreWithin (capacities (redo (image_for t r.page mid) (flat_of k))) (with_slot (w.bounds.slots r.page) r.slot capacity)
  slots-added is = slots-new k seen_by leaves mid new put_state mid_core mid-fits there.made good-changed is

  pub least-add : r.slot ≡ length (image_for t r.page mid).slots
      → AreAtLeast (capacities (redo (image_for t r.page mid) (flat_of k))) (with_least (w.bounds.least r.page) r.slot capacity)
  least-add is = least-added k seen_by leaves mid new put_state mid_core mid-fits there.made good-changed is

  -- a dead one has what is asked for
  pub least-fill : (asked : ℕ) → r.slot < length (image_for t r.page mid).slots → asked ≤ capacity_of (image_for t r.page mid).slots r.slot
      → AreAtLeast (capacities (redo (image_for t r.page mid) (flat_of k))) (with_least (w.bounds.least r.page) r.slot asked)
  least-fill asked lt enough = least-filled k seen_by leaves mid new put_state mid_core mid-fits there.made good-changed asked lt enough

-- ---- what is left by a refusal of the change

module _ (seen_by : DeviceImages) (leaves : Outcomes) (c new : Parts) (low : IsLowered c new) (w : Core) (f : Fits seen_by leaves c w) where
  pub lowered-fits : (b : Bounds) → FitsBounds seen_by leaves c b
      → Fits seen_by leaves new (record { scene = w.scene; pages = w.pages; bounds = b })
  lowered-fits b bounds = subst (λ (x : Parts). Fits seen_by leaves x (record { scene = w.scene; pages = w.pages; bounds = b })) (sym low.rest)
      (taken-fits new.locks w.scene.waits w.scene.state b seen_by leaves c w f
      (relocked-good new.locks seen_by leaves Pending.Idle c w.scene.state f.good low.same) (same-on w.scene.state) bounds
      (λ u. ap (λ (l : List (TxnId × Asked)). waits_in l u) low.waiting ∙ f.waits u) f.waiting)
