-- An undo is refused, changes nothing, takes a record back, or ends the rollback at a mark: for `undo`.
use Rattle.std.proofs.Common.{◌≡◌, ◌≢◌, ◌⊎◌, inl, inr, ⊎_elim, ℕ, ◌<◌, ◌≤◌, Bool, true, false, cond, length, refl, sym, ap, ◌∙◌, subst, arith}
use Rattle.std.specs.Prelude.{Option, None, Some, option_and_then, option_map}
use Rattle.std.specs.List.{IsDistinct}
use Rattle.std.specs.Option.{option_map_or}
use Rattle.sd_base.specs.Ids.{same_txn}
use Rattle.sd_base.specs.Waits.{Wait, with_wait}
use Rattle.sd_base.proofs.SameIds.{cases_txn, eq-same, ne-same}
use Rattle.sd_base.specs.declared.ids.TxnId.{TxnId}
use Rattle.sd_base.specs.declared.place.Place.{Place}
use Rattle.sd_base.specs.declared.place.Status.TheVariants as S
use Rattle.sd_base.specs.declared.refusal.Refusal.{Refusal}
use Rattle.sd_base.specs.declared.refusal.Refusal.TheVariants as R
use Rattle.sd_logrec.specs.View.{flat}
use Rattle.sd_model.specs.Acts.{live}
use Rattle.sd_model.specs.Applies.{HasPage}
use Rattle.sd_model.specs.Causes.{order}
use Rattle.sd_model.specs.Changes.{goal, undid}
use Rattle.sd_model.specs.Listed.{IsAtWork}
use Rattle.sd_model.specs.Marks.{Goes}
use Rattle.sd_model.specs.Scenes.{is_running, of_running}
use Rattle.sd_model.specs.State.{Part, State, turned, with_life}
use Rattle.sd_model.specs.Step.{Step}
use Rattle.sd_model.specs.declared.act.Life.{Life}
use Rattle.sd_model.specs.declared.cause.Cause.{Cause}
use Rattle.sd_model.specs.declared.event.Event.TheVariants.{Undo}
use Rattle.sd_model.specs.declared.event.Reply.TheVariants as reply
use Rattle.sd_pagelock.specs.Directory.{entry_at}
use Rattle.sd_pagelock.specs.Places.{PageEntry, is_lost, owns, seen}
use Rattle.sd_rig.specs.Devices.{DeviceImages, Leaves}
use Rattle.sd_txn.specs.Transactions.{OthersStay, Transaction, Transactions, depth_at, ids, state_at, top, top_at, txn_at, with_state}
use Rattle.sd_txn.specs.declared.state.OpenRec.{OpenRec}
use Rattle.sd_txn.specs.declared.state.TxnState.{TxnState}
use Rattle.sd_chain.specs.Records.{home}
use Rattle.sd_chain.specs.Logs.{Outcomes}
use Rattle.sd_world.specs.Bounds.{bounds_after}
use Rattle.sd_world.specs.Answers.{takes_back}
use Rattle.sd_world.specs.PageCauses.{NoneSays, undo_page}
use Rattle.sd_world.specs.Serving.{Core, Serves, Telling, refused}
use Rattle.sd_state.specs.Complexes.{parts}
use Rattle.sd_state.specs.Good.{Good}
use Rattle.sd_state.specs.Parts.{Parts, status_at, txns_at}
use Rattle.sd_update.specs.Undoing.{HasUndone, RollsTo, clr_at}
use Rattle.sd_state.specs.Values.{Pending}
use Rattle.sd_state.specs.Working.{with_txns}
use Rattle.sd_state.specs.declared.complex.Complex.{Complex}
use Rattle.sd_update.proofs.UndoneHalf.{life-same}
use Rattle.sd_update.proofs.UndoneThere.{undo-finds_top}
use Rattle.sd_fits.specs.Fits.{Fits}
use Rattle.sd_fits.specs.Serving.{Serving, fits_by, stands_for}
use Rattle.sd_fits.proofs.Heads.{is-up, some-there, stands-as, up-works}
use Rattle.sd_fits.proofs.Served.{bounds-stay, ended-wait, still-serves}
use Rattle.sd_fits.proofs.Still.{moved-fits}
use Rattle.sd_fits.proofs.Turning.{ended-asks, turned-fits, turned_core}
use Rattle.sd_fits.proofs.Undoing.{deep, page-is, undone-fits, undone-number, undone_core}
use Rattle.sd_ops.specs.Rolling.{IsAbove, IsOut, LacksAlone}
use Rattle.sd_ops.proofs.Calms.{IsAnswer, IsCalmed, calm-already, calm-serves, no-wait, turn-serves}
use Rattle.sd_ops.proofs.Outs.{IsCause, down-cause, of-undo, refused-answer, unknown-cause}
use Rattle.sd_ops.proofs.Turned.{same-span}

-- what stands in a row
the-state : (o : Option Transaction) (s : TxnState) → option_map (λ (x : Transaction). x.state) o ≡ Some s → (x : Transaction) × (o ≡ Some x)
the-state None s e = absurd (cc)
the-state (Some x) s e = (x, refl)

off-on : {A : Type 0} {b : Bool} → b ≡ false → b ≡ true → A
off-on isnt is = let clash = sym isnt ∙ is in absurd (cc)

-- who owns a page finds it not lost
pub owned-lost : (e : PageEntry) (i : ℕ) → owns e i ≡ true → is_lost e ≡ true → ⊥
owned-lost PageEntry.Free i h lost = cc
owned-lost (PageEntry.Shared set writer) i h lost = cc
owned-lost (PageEntry.Excl holder dirty) i h lost = cc
owned-lost (PageEntry.Moving to mode rest dirty) i h lost = cc
owned-lost PageEntry.Lost i h lost = cc

-- the waits of those that run are as they were
undone-waits : (t : TxnId) (to : Option ℕ) (seen_by : DeviceImages) (leaves : Outcomes) (c : Parts) (w : Core) → Fits seen_by leaves c w
    → (w.scene.state.part t).life ≡ Life.Rolling to → (u : TxnId)
    → w.scene.waits u ≡ of_running (undid t w.scene.state) (with_wait t None w.scene.waits) u
undone-waits t to seen_by leaves c w f rolls u = sym (still u (cases_txn t u)) ∙ sym (ended-wait seen_by leaves c w f t u)
    ∙ sym (ap (λ (life : Life). cond {A = Option Wait} (is_running life) (with_wait t None w.scene.waits u) None) (life-same t w.scene.state u))
  where
    still : (u : TxnId) → (t ≡ u) ⊎ (t ≢ u) → with_wait t None w.scene.waits u ≡ w.scene.waits u
    still u (inl e) = ap (λ (b : Bool). cond {A = Option Wait} b None (w.scene.waits u)) (eq-same t u e)
        ∙ sym (f.waiting t (ap is_running rolls)) ∙ ap w.scene.waits e
    still u (inr ne) = ap (λ (b : Bool). cond {A = Option Wait} b None (w.scene.waits u)) (ne-same t u ne)

module _ (t : TxnId) (seen_by : DeviceImages) (leaves : Outcomes) (c : Parts) (low : 1 ≤ home t) (high : home t ≤ 8) (w : Core)
    (f : Fits seen_by leaves c w) where
  abbrev m : State
  m = w.scene.state

  out-cause : (n : Refusal) → IsOut t c n → (cause : Cause) × IsCause w (Undo t) n cause
  out-cause R.NoTxn out = (Cause.NoTxn, unknown-cause (Undo t) t (of-undo t) seen_by leaves c low high w f out)
  out-cause R.Down out = (Cause.Down, down-cause (Undo t) t (of-undo t) seen_by leaves c low high w f out.0 out.1)
  out-cause n out = elim out [ ]

  module _ (state : TxnState) (up : status_at c (home t) ≡ S.Up) (stands : state_at (txns_at c (home t)) t ≡ Some state) where
    pub there : (m.part t).life ≢ Life.Gone
    there = some-there seen_by leaves Pending.Idle c m f.good t state low high stands

    pub serves : ((m.inst (home t)).status ≡ S.Up → ⊥) → ⊥
    serves off = off (is-up seen_by leaves Pending.Idle c m f.good (home t) low high up).up

    -- ---- it runs

    runs-then : ((to : Option ℕ) → state ≢ TxnState.Rolling to) → (m.part t).life ≡ Life.Running
    runs-then off = ⊎_elim
        (λ runs. stands-as seen_by leaves Pending.Idle c m f.good t TxnState.Running low high (stands ∙ ap (λ (s : TxnState). Some s) runs))
        (λ rolls. absurd (off rolls.0 rolls.1))
        (up-works seen_by leaves Pending.Idle c m f.good t state low high up stands)

    unpaged : (m.part t).life ≡ Life.Running → HasPage m (Undo t) → ⊥
    unpaged runs page = let clash = sym runs ∙ page.1 in absurd (cc)

    pub nothing-answer : ((to : Option ℕ) → state ≢ TxnState.Rolling to) → IsAnswer w (Undo t) reply.Finished
    nothing-answer off = let runs = runs-then off in record {
      step = ((f.good.not_closed, (there, (serves, (tt, (tt, (tt, tt)))))), inl (runs, refl));
      exact = tt;
      unused = tt;
      moves = ((tt, (tt, (tt, ((λ lost. unpaged runs lost.0), ((λ away. unpaged runs away.0), (tt, tt)))))), refl);
      within = tt;
    }

  -- ---- it rolls back

  module _ (to : Option ℕ) (up : status_at c (home t) ≡ S.Up) (stands : state_at (txns_at c (home t)) t ≡ Some (TxnState.Rolling to)) where
    pub rolling : (m.part t).life ≡ Life.Rolling to
    rolling = stands-as seen_by leaves Pending.Idle c m f.good t (TxnState.Rolling to) low high stands

    pub at-rest : is_running (m.part t).life ≡ false
    at-rest = ap is_running rolling

    abbrev its-row : (x : Transaction) × (txn_at (txns_at c (home t)) t ≡ Some x)
    its-row = the-state (txn_at (txns_at c (home t)) t) (TxnState.Rolling to) stands

    -- as many records are open as puts are live
    pub depth-is : depth_at (txns_at c (home t)) t ≡ length (live (m.part t).acts)
    depth-is = ap (λ (o : Option Transaction). option_map_or (λ (x : Transaction). length x.stack) o 0) its-row.1
        ∙ deep t to seen_by leaves c w f rolling low high up its-row.0 its-row.1

    pub rolls-to : goal to < depth_at (txns_at c (home t)) t → RollsTo t to m
    rolls-to above = record { rolls = rolling; above = let is = depth-is in omega (arith, above, is) }

    -- who is above its goal has a last open record
    pub top-found : goal to < depth_at (txns_at c (home t)) t → (o : OpenRec) × (top_at (txns_at c (home t)) t ≡ Some o)
    top-found above =
        let r = rolls-to above in
        let found = undo-finds_top leaves seen_by c m t to f.good low high f.idle up r.rolls r.above in
        (found.o, ap (λ (x : Option Transaction). option_and_then top x) found.row ∙ found.last)

    module _ (o : OpenRec) (last : top_at (txns_at c (home t)) t ≡ Some o) where
      pub page-there : undo_page m t ≡ o.rid.page
      page-there = page-is t to seen_by leaves c w f rolling low high up its-row.0 its-row.1 o
          (sym (ap (λ (x : Option Transaction). option_and_then top x) its-row.1) ∙ last)

      module _ (above : goal to < depth_at (txns_at c (home t)) t) where
        has-page : HasPage m (Undo t)
        has-page = (to, rolling, (rolls-to above).above)

        its-entry : w.pages.entry (undo_page m t) ≡ entry_at c.directory o.rid.page
        its-entry = ap w.pages.entry page-there ∙ f.pages.entry o.rid.page

        lost-cause : is_lost (entry_at c.directory o.rid.page) ≡ true → IsCause w (Undo t) R.Lost Cause.Lost
        lost-cause lost = record {
          names = refl;
          tells = tt;
          first = (refl, (f.good.not_closed, (there _ up stands, (serves _ up stands, tt))), has-page);
          refuses = refl;
          whom = tt;
          unused = tt;
          passes = (tt, (tt, (tt, tt)));
          says = λ b. (has-page, ap is_lost its-entry ∙ lost);
          place = tt;
          left = refl;
          allows = tt;
        }

        away-cause : (place : Place) → is_lost (entry_at c.directory o.rid.page) ≡ false
            → owns (entry_at c.directory o.rid.page) (home t) ≡ false → seen place ≡ entry_at c.directory o.rid.page
            → IsCause w (Undo t) (R.NeedPage place) Cause.Away
        away-cause place found away is = record {
          names = refl;
          tells = tt;
          first = (refl, (f.good.not_closed, (there _ up stands, (serves _ up stands, (tt, tt)))), has-page);
          refuses = refl;
          whom = tt;
          unused = tt;
          passes = (tt, (tt, (tt, ((λ lost. off-on (ap is_lost its-entry ∙ found) lost.1), tt))));
          says = λ b. (has-page, ap (λ (e : PageEntry). owns e (home t)) its-entry ∙ away);
          place = is ∙ sym its-entry;
          left = refl;
          allows = tt;
        }

        pub lacks-cause : (n : Refusal) → LacksAlone (home t) o.rid.page c n → (cause : Cause) × IsCause w (Undo t) n cause
        lacks-cause R.Lost lost = (Cause.Lost, lost-cause lost)
        lacks-cause (R.NeedPage place) h = (Cause.Away, away-cause place h.0 h.1 h.2)
        lacks-cause n h = elim h [ ]

        -- ---- the record is taken back

        module _ (held : owns (entry_at c.directory o.rid.page) (home t) ≡ true) where
          held-there : owns (w.pages.entry (undo_page m t)) (home t) ≡ true
          held-there = ap (λ (e : PageEntry). owns e (home t)) its-entry ∙ held

          pub step-moves : NoneSays m w.pages (Undo t) (order (Undo t))
          step-moves = (
            tt,
            (
              tt,
              (
                tt,
                (
                  (λ lost. owned-lost (w.pages.entry (undo_page m t)) (home t) held-there lost.1),
                  ((λ away. off-on away.1 held-there), (tt, tt)),
                ),
              ),
            ),
          )

          pub step-row : Step m (Undo t) reply.Step (undid t m)
          step-row = (
            (f.good.not_closed, (there _ up stands, (serves _ up stands, (tt, (tt, (tt, tt)))))),
            (to, rolling, (rolls-to above).above, refl),
          )
          -- ---- it has come to its mark

  module _ (n : ℕ) (up : status_at c (home t) ≡ S.Up) (stands : state_at (txns_at c (home t)) t ≡ Some (TxnState.Rolling (Some n)))
      (few : depth_at (txns_at c (home t)) t ≤ n) where
    rolls : (m.part t).life ≡ Life.Rolling (Some n)
    rolls = rolling (Some n) up stands

    goes : n ≤ length (live (m.part t).acts)
    goes = subst (Goes (length (live (m.part t).acts))) rolls (f.good.marked.sized t).target

    pub reached : depth_at (txns_at c (home t)) t ≡ n
    reached = let is = depth-is (Some n) up stands in let le = goes in omega (arith, is, le, few)

    pub mark-step : Step m (Undo t) reply.Finished (turned t Life.Running m)
    mark-step = (
      (f.good.not_closed, (there _ up stands, (serves _ up stands, (tt, (tt, (tt, tt)))))),
      inr (inl (n, rolls, sym reached ∙ depth-is (Some n) up stands, refl)),
    )

    unpaged-here : HasPage m (Undo t) → ⊥
    unpaged-here page =
        let same : Life.Rolling (Some n) ≡ Life.Rolling page.0 = sym rolls ∙ page.1 in
        let to : Some n ≡ page.0 = cc in
        let above = page.2 in
        let goal_is : n ≡ goal page.0 = ap goal to in
        let is = sym reached ∙ depth-is (Some n) up stands in
        omega (arith, above, goal_is, is)

    pub mark-moves : NoneSays m w.pages (Undo t) (order (Undo t))
    mark-moves = (tt, (tt, (tt, ((λ lost. unpaged-here lost.0), ((λ away. unpaged-here away.0), (tt, tt))))))

-- ---- served

module _ {G : Type 0} (tell : Telling G) (t : TxnId) (old new : Complex G) (same : new.rig ≡ old.rig)
    (now : (img : DeviceImages) → tell.since old.rig (tell.moment old.rig) img → Leaves (tell.leaves old.rig) img)
    (low : 1 ≤ home t) (high : home t ≤ 8) where
  -- a refusal that changes nothing
  quiet-served : (n : Refusal) → IsCalmed t (parts old) (parts new)
      → ((w : Core) → fits_by tell.seen tell.leaves old w → (cause : Cause) × IsCause w (Undo t) n cause) → (w : Core)
      → fits_by tell.seen tell.leaves old w
      → (w' : Core) × Serves {C = Complex G} tell stands_for (λ c. c.rig) (fits_by tell.seen tell.leaves) (Undo t) (reply.Refused n) old new w w'
  quiet-served n calm cause w f = calm-serves tell t (Undo t) (reply.Refused n) old new same now refl (no-wait (reply.Refused n)) tt w f calm
      (refused-answer w (Undo t) n (cause w f).0 (cause w f).1)

  -- of one that doesn't roll back
  pub nothing-served : (state : TxnState) → status_at (parts old) (home t) ≡ S.Up → state_at (txns_at (parts old) (home t)) t ≡ Some state
      → ((to : Option ℕ) → state ≢ TxnState.Rolling to) → IsCalmed t (parts old) (parts new)
      → Serving tell (Undo t) (Some reply.Finished) old new
  nothing-served state up stands off calm = (
    λ w f. calm-serves tell t (Undo t) reply.Finished old new same now refl refl tt w f calm
        (nothing-answer t (tell.seen old.rig) (tell.leaves old.rig) (parts old) low high w f state up stands off),
    ap tell.faults same,
  )

  -- of one that has come to its mark
  pub mark-served : (n : ℕ) (table : Transactions) → status_at (parts old) (home t) ≡ S.Up
      → state_at (txns_at (parts old) (home t)) t ≡ Some (TxnState.Rolling (Some n)) → depth_at (txns_at (parts old) (home t)) t ≤ n
      → parts new ≡ with_txns (home t) table (parts old)
      → txn_at table t ≡ option_map (with_state TxnState.Running) (txn_at (txns_at (parts old) (home t)) t)
      → OthersStay (txns_at (parts old) (home t)) table t
      → ((m : State) → Good (tell.seen old.rig) (tell.leaves old.rig) Pending.Idle (parts old) m
      → Good (tell.seen old.rig) (tell.leaves old.rig) Pending.Idle (with_txns (home t) table (parts old)) (turned t Life.Running m))
      → Serving tell (Undo t) (Some reply.Finished) old new
  mark-served n table up stands few is row others good = (
    λ w f.
        let m : State = w.scene.state in
        let c : Parts = parts old in
        let seen_by = tell.seen old.rig in
        let leaves = tell.leaves old.rig in
        let rolls = rolling t seen_by leaves c low high w f (Some n) up stands in
        let calm = calm-already t seen_by leaves c w f (at-rest t seen_by leaves c low high w f (Some n) up stands) in
        let part : Part = with_life Life.Running (m.part t) in
        let sums = bounds_after w.bounds (Undo t) reply.Finished in
        let fits = turned-fits t part table c.locks (with_wait t None w.scene.waits) sums seen_by leaves c w f (record {
          low = low;
          high = high;
          up = up;
          span = ap (option_and_then (λ (x : Transaction). x.span)) row ∙ same-span TxnState.Running (txn_at (txns_at c (home t)) t);
          others = others;
          acts = refl;
          works = subst IsAtWork (sym rolls) tt;
          sure = refl;
          rolls = λ e. absurd (cc);
          waits = λ u. calm.waits u ∙ ap (λ (o : Option Wait). cond {A = Option Wait} (same_txn t u) None o) (f.waits u);
          waiting = ended-asks t part seen_by leaves c w f;
        }) (good m f.good) (bounds-stay seen_by c w.bounds (Undo t) reply.Finished tt f.bounds) in
        turn-serves tell t part (Undo t) reply.Finished old new same now refl refl w f
        (subst (λ (q : Parts). Fits seen_by leaves q (turned_core t part (with_wait t None w.scene.waits) sums w)) (sym is) fits)
        (mark-step t seen_by leaves c low high w f n up stands few) tt tt
        (mark-moves t seen_by leaves c low high w f n up stands few, refl) tt,
    ap tell.faults same,
  )

  -- of one that is above its goal: its last open record is taken back
  pub step-served : (to : Option ℕ) (o : OpenRec) → status_at (parts old) (home t) ≡ S.Up → IsAbove t to (parts old)
      → top_at (txns_at (parts old) (home t)) t ≡ Some o → owns (entry_at (parts old).directory o.rid.page) (home t) ≡ true
      → IsDistinct same_txn (ids (txns_at (parts old) (home t)))
      → HasUndone (home t) (parts old).due t (parts old) (parts new)
      → ((m : State) (to : Option ℕ) → Good (tell.seen old.rig) (tell.leaves old.rig) Pending.Idle (parts old) m → RollsTo t to m
      → Good (tell.seen old.rig) (tell.leaves old.rig) Pending.Idle (parts new) (undid t m))
      → Serving tell (Undo t) (Some reply.Step) old new
  step-served to o up above last held once h good = (
    λ w f.
        let m : State = w.scene.state in
        let c : Parts = parts old in
        let seen_by = tell.seen old.rig in
        let leaves = tell.leaves old.rig in
        let rolls = rolls-to t seen_by leaves c low high w f to up above.rolls above.above in
        let top_is : Some h.o ≡ Some o = sym (ap (λ (x : Option Transaction). option_and_then top x) h.row ∙ h.last) ∙ last in
        let is : h.o ≡ o = cc in
        let held_h : owns (entry_at c.directory h.o.rid.page) (home t) ≡ true =
        subst (λ (r : OpenRec). owns (entry_at c.directory r.rid.page) (home t) ≡ true) (sym is) held in
        let page : undo_page m t ≡ h.o.rid.page =
        page-there t seen_by leaves c low high w f to up above.rolls o last ∙ ap (λ (r : OpenRec). r.rid.page) (sym is) in
        let then = good m to f.good rolls in
        let lsn : ℕ = (flat (clr_at t h.x h.o h.image c)).lsn in
        let next = undone_core t h.o.rid.page lsn w in
        let rests = at-rest t seen_by leaves c low high w f to up above.rolls in (
          next,
          still-serves tell (Undo t) reply.Step old new w next (sym same) now f
              (record {
                wanted = None;
                near = tt;
                plays = record {
                  step = step-row t seen_by leaves c low high w f to up above.rolls o last above.above held;
                  waits = λ u. undone-waits t to seen_by leaves c w f rolls.rolls u;
                };
                exact = tt;
                unused = tt;
                moves = (
                  step-moves t seen_by leaves c low high w f to up above.rolls o last above.above held,
                  subst (λ (p : ℕ). takes_back (home t) p w.pages next.pages) (sym page)
                      (lsn, undone-number t to seen_by leaves c (parts new) w f rolls low high up once h held_h then, refl),
                );
                within = tt;
                sums = refl;
              })
              (moved-fits tell old new same next
              (undone-fits t to seen_by leaves c (parts new) w f rolls low high up once h held_h then)),
        ),
    ap tell.faults same,
  )

  -- of one that is out
  pub undo-out : (n : Refusal) → IsOut t (parts old) n → IsCalmed t (parts old) (parts new) → Serving tell (Undo t) (refused n) old new
  undo-out R.NoTxn out calm = (
    quiet-served R.NoTxn calm (λ w f. out-cause t (tell.seen old.rig) (tell.leaves old.rig) (parts old) low high w f R.NoTxn out),
    ap tell.faults same,
  )
  undo-out R.Down out calm = (
    quiet-served R.Down calm (λ w f. out-cause t (tell.seen old.rig) (tell.leaves old.rig) (parts old) low high w f R.Down out),
    ap tell.faults same,
  )
  undo-out n out calm = elim out [ ]

-- of one whose instance hasn't the page alone
module _ {G : Type 0} (tell : Telling G) (t : TxnId) (c : Complex G)
    (now : (img : DeviceImages) → tell.since c.rig (tell.moment c.rig) img → Leaves (tell.leaves c.rig) img)
    (low : 1 ≤ home t) (high : home t ≤ 8) (to : Option ℕ) (o : OpenRec) (up : status_at (parts c) (home t) ≡ S.Up) (above : IsAbove t to (parts c))
    (last : top_at (txns_at (parts c) (home t)) t ≡ Some o) where
  lacks-each : (n : Refusal) → LacksAlone (home t) o.rid.page (parts c) n → (w : Core) → fits_by tell.seen tell.leaves c w
      → (w' : Core) × Serves {C = Complex G} tell stands_for (λ k. k.rig) (fits_by tell.seen tell.leaves) (Undo t) (reply.Refused n) c c w w'
  lacks-each n lacks w f =
      let seen_by = tell.seen c.rig in
      let leaves = tell.leaves c.rig in
      let cause = lacks-cause t seen_by leaves (parts c) low high w f to up above.rolls o last above.above n lacks in
      calm-serves tell t (Undo t) (reply.Refused n) c c refl now refl (no-wait (reply.Refused n)) tt w f
      (calm-already t seen_by leaves (parts c) w f (at-rest t seen_by leaves (parts c) low high w f to up above.rolls))
      (refused-answer w (Undo t) n cause.0 cause.1)

  pub undo-lacks : (n : Refusal) → LacksAlone (home t) o.rid.page (parts c) n → Serving tell (Undo t) (refused n) c c
  undo-lacks R.Lost lacks = (lacks-each R.Lost lacks, refl)
  undo-lacks (R.NeedPage place) lacks = (lacks-each (R.NeedPage place) lacks, refl)
  undo-lacks n lacks = elim lacks [ ]
