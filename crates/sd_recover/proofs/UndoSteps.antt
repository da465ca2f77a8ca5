-- An undo for a loser, with the loser's log forced, serves a step of its recovery: for the goals of `undo_next`.
use Rattle.std.proofs.Common.{◌≡◌, ◌≢◌, inr, ⊎_elim, ℕ, ◌-◌, ◌≤◌, Bool, true, false, cond, List, max, slice_set, refl, sym, ap, ◌∙◌, subst, arith}
use Rattle.std.specs.Prelude.{None, Option, Some, length, option_and_then}
use Rattle.std.specs.List.{IsDistinct}
use Rattle.std.proofs.lemmas.Bool.{cases_eq}
use Rattle.std.proofs.lemmas.List.{length-set}
use Rattle.sd_base.specs.Ids.{same_txn}
use Rattle.sd_base.specs.declared.ids.TxnId.{TxnId}
use Rattle.sd_base.specs.declared.place.Status.TheVariants as S
use Rattle.sd_log.specs.Logs.{LogState, forced, with_record}
use Rattle.sd_model.specs.State.{State}
use Rattle.sd_model.specs.declared.event.Event.TheVariants.{RecoverStep}
use Rattle.sd_model.specs.declared.event.Reply.TheVariants as reply
use Rattle.sd_pagelock.specs.Directory.{entry_at}
use Rattle.sd_pagelock.specs.Places.{PageEntry, is_lost, owns}
use Rattle.sd_pagelock.specs.Rows.{dirtied}
use Rattle.sd_rig.specs.Devices.{Elapses, Span}
use Rattle.sd_txn.specs.Owing.{owed_of}
use Rattle.sd_txn.specs.Transactions.{Transaction, Transactions, ids, state_at, top, top_at}
use Rattle.sd_txn.specs.declared.state.OpenRec.{OpenRec}
use Rattle.sd_txn.specs.declared.state.TxnState.{TxnState}
use Rattle.sd_chain.specs.Checks.{owed}
use Rattle.sd_chain.specs.Records.{home}
use Rattle.sd_chain.specs.Logs.{all_at, base_at}
use Rattle.sd_chain.proofs.Kept.{forced-base}
use Rattle.sd_world.specs.Answers.{MayRollBack, Undoes}
use Rattle.sd_world.specs.Answers.Rebuilds.{undoes}
use Rattle.sd_world.specs.PageCauses.{IsNeededPage}
use Rattle.sd_world.specs.Pages.{Pages, page_placed, renumbered}
use Rattle.sd_world.specs.Serving.{Core, Serves, Telling}
use Rattle.sd_state.specs.Complexes.{parts}
use Rattle.sd_state.specs.Forcing.{KeepMasters, with_settled}
use Rattle.sd_state.specs.Good.{Good}
use Rattle.sd_state.specs.Images.{Stands}
use Rattle.sd_state.specs.Parts.{Parts, is_loose, log_at, no_log, no_txns, owed_at, status_at, txns_at}
use Rattle.sd_state.specs.Sums.{owes_most}
use Rattle.sd_state.specs.Tables.{tells_log}
use Rattle.sd_update.specs.Undoing.{HasUndone, clr_at}
use Rattle.sd_update.specs.UndoingFor.{own_forced}
use Rattle.sd_state.specs.Values.{Pending}
use Rattle.sd_state.specs.declared.complex.Complex.{Complex}
use Rattle.sd_state.proofs.Items.{item-kept, item-set}
use Rattle.sd_fits.specs.Fits.{Fits}
use Rattle.sd_fits.specs.Serving.{fits_by, stands_for}
use Rattle.sd_fits.proofs.Falling.{numbers_of}
use Rattle.sd_fits.proofs.Recovering.{aside-fits, recovers-at, step-turns, step_core, step_sums}
use Rattle.sd_recover.specs.Tasks.{AreThere}
use Rattle.sd_recover.proofs.Awaited.{page-needed}
use Rattle.sd_recover.proofs.Steps.{forced-whole, passes-to}
use Rattle.sd_recover.proofs.UndoneFor.{made, owes-less, undone-bounds, undone-doubts}
use Rattle.sd_recover.proofs.UndoServed.{fin-aside, fin-pages, step-more}

no-due : (x j : ℕ) → ◌≡◌ {A = Option (ℕ × ℕ)} None (Some (x, j)) → ⊥
no-due x j due = cc

module _ {G : Type 0} (tell : Telling G) (a : ℕ) (t : TxnId) (old mid : Complex G) (low : 1 ≤ home t) (high : home t ≤ 8) (a_low : 1 ≤ a)
    (a_high : a ≤ 8) (recovers : status_at (parts old) (home t) ≡ S.Recovering a) (there : AreThere (parts old))
    (loser : state_at (txns_at (parts old) (home t)) t ≡ Some TxnState.Retained) (o : OpenRec)
    (last : top_at (txns_at (parts old) (home t)) t ≡ Some o) (held : owns (entry_at (parts old).directory o.rid.page) a ≡ true)
    (once : IsDistinct same_txn (ids (txns_at (parts old) (home t))))
    (good : (m : State) → Good (tell.seen old.rig) (tell.leaves old.rig) Pending.Idle (parts old) m
    → Good (tell.seen mid.rig) (tell.leaves mid.rig) Pending.Idle (parts mid) m)
    (time : Elapses (tell.moment old.rig) (tell.moment mid.rig) (tell.since old.rig) (tell.since mid.rig))
    (span : (m : State) → Good (tell.seen old.rig) (tell.leaves old.rig) Pending.Idle (parts old) m
    → Span (tell.moment old.rig) (tell.since mid.rig) (Stands m Pending.Idle))
    (disk : tell.seen mid.rig 0 ≡ tell.seen old.rig 0) (kept : KeepMasters (tell.leaves old.rig) (tell.leaves mid.rig)) where
  abbrev i : ℕ
  i = home t

  abbrev c : Parts
  c = parts old

  settled : is_loose c i ≡ false
  settled = there.0 i high

  own_settled : is_loose c a ≡ false
  own_settled = there.0 a a_high

  module _ (owes : ℕ) (owes_is : owes ≡ owed (all_at (log_at c a))) (between : Parts)
      (h : HasUndone a (Some (a, i)) t (own_forced a owes c) between) where
    abbrev e : Parts
    e = own_forced a owes c

    abbrev lg : LogState
    lg = log_at between i

    same-rec : h.o ≡ o
    same-rec = let is : Some h.o ≡ Some o = sym (ap (λ (x : Option Transaction). option_and_then top x) h.row ∙ h.last) ∙ last in cc

    held-h : owns (entry_at c.directory h.o.rid.page) a ≡ true
    held-h = subst (λ (r : OpenRec). owns (entry_at c.directory r.rid.page) a ≡ true) (sym same-rec) held

    eight : length e.logs ≡ 8 → length (slice_set e.logs (i - 1) lg) ≡ 8
    eight is = length-set e.logs (i - 1) lg ∙ is

    module _ (forces : parts mid ≡ with_settled i (forced lg) (owed_at (parts mid) i) between) (w : Core) (f : fits_by tell.seen tell.leaves old w) where
      abbrev m : State
      m = w.scene.state

      abbrev ls : List LogState
      ls = slice_set (slice_set e.logs (i - 1) lg) (i - 1) (forced lg)

      abbrev os : List ℕ
      os = slice_set e.owed (i - 1) (owed_at (parts mid) i)

      abbrev fin : Parts
      fin = made a t (tell.seen old.rig) (tell.seen mid.rig) (tell.leaves old.rig) (tell.leaves mid.rig) c between w f low high a_low a_high
          recovers settled own_settled owes owes_is h held-h once disk kept ls os c.loose None

      is : parts mid ≡ fin
      is = forces ∙ ap (λ (q : Parts). with_settled i (forced lg) (owed_at (parts mid) i) q) h.rest

      logs-eight : length e.logs ≡ 8
      logs-eight = length-set c.logs (a - 1) (forced (log_at c a)) ∙ f.good.shape.logs

      abbrev grown : LogState
      grown = with_record (clr_at t h.x h.o h.image e) h.undone.spare (log_at e i)

      here : log_at fin i ≡ forced grown
      here = item-set no_log (slice_set e.logs (i - 1) lg) i (forced lg) low high (eight logs-eight) ∙ ap forced h.undone.grown

      elsewhere : (j : ℕ) → j ≢ i → log_at fin j ≡ log_at e j
      elsewhere j ne = item-kept no_log (slice_set e.logs (i - 1) lg) i (forced lg) low j ne ∙ item-kept no_log e.logs i lg low j ne

      good-fin : Good (tell.seen mid.rig) (tell.leaves mid.rig) Pending.Idle fin m
      good-fin = subst (λ (q : Parts). Good (tell.seen mid.rig) (tell.leaves mid.rig) Pending.Idle q m) is (good m f.good)

      owes-here : owes_most fin i ≤ owes_most e i
      owes-here =
          let told = (good-fin.told i low high (ap tells_log recovers) settled).owes in
          let own = good-fin.owed i low high settled in
          let was = (f.good.told i low high (ap tells_log recovers) settled).owes in
          let less = owes-less a t (tell.seen old.rig) (tell.seen mid.rig) (tell.leaves old.rig) (tell.leaves mid.rig) c between w f low high a_low
          a_high recovers settled own_settled owes owes_is h held-h once disk kept in
          let whole = ap (λ (x : LogState). owed (all_at x)) here ∙ ap owed (forced-whole grown) in
          let base = ap (λ (x : LogState). owed (base_at x)) here ∙ ap owed (forced-base grown) in
          subst (λ (b : Bool). cond b (owed_at fin i) (cond (tells_log (status_at c i)) (max (owed_at fin i) (owed_of (txns_at fin i))) (owed_at fin i))
          ≤ cond b (owed_at e i) (cond (tells_log (status_at c i)) (max (owed_at e i) (owed_of (txns_at c i))) (owed_at e i))) (sym settled)
          (subst (λ (b : Bool). cond b (max (owed_at fin i) (owed_of (txns_at fin i))) (owed_at fin i)
          ≤ cond b (max (owed_at e i) (owed_of (txns_at c i))) (owed_at e i)) (sym (ap tells_log recovers))
          (omega (arith, told, own, was, less, whole, base)))

      owes-all : (j : ℕ) → 1 ≤ j → j ≤ 8 → owes_most fin j ≤ owes_most e j
      owes-all j lo hi = ⊎_elim
          (λ same. subst (λ (n : ℕ). owes_most fin n ≤ owes_most e n) (sym same) owes-here)
          (λ ne. let same = ap (λ (z : Transactions). cond (is_loose c j) (owed_at fin j) (cond (tells_log (status_at c j)) (max (owed_at fin j) (owed_of z))
          (owed_at fin j))) (item-kept no_txns c.txns i (txns_at between i) low j ne)
          ∙ ap (λ (n : ℕ). cond (is_loose c j) n (cond (tells_log (status_at c j)) (max n (owed_of (txns_at c j))) n))
          (item-kept 0 e.owed i (owed_at (parts mid) i) low j ne) in omega (arith, same))
          (cases_eq j i)

      abbrev pages_then : Pages
      pages_then = renumbered (numbers_of (tell.seen mid.rig) (tell.leaves mid.rig) fin) (page_placed h.o.rid.page (dirtied a) w.pages)

      may-roll : MayRollBack m i w.pages h.o.rid.page a
      may-roll = (
        recovers-at i a (tell.seen old.rig) (tell.leaves old.rig) c w f low high recovers,
        ap (λ (x : PageEntry). owns x a) (f.pages.entry h.o.rid.page) ∙ held-h,
        subst (λ (r : OpenRec). IsNeededPage m i r.rid.page) (sym same-rec)
            (page-needed t a (tell.seen old.rig) (tell.leaves old.rig) c w f low high recovers there loser o last),
        λ q. ap is_lost (f.pages.entry q) ∙ there.1 q,
      )

      fits-then : Fits (tell.seen mid.rig) (tell.leaves mid.rig) fin (step_core i pages_then w)
      fits-then = aside-fits i a (tell.seen old.rig) (tell.leaves old.rig) c w f low high recovers (tell.seen mid.rig) (tell.leaves mid.rig) fin
          pages_then (step_sums i w)
          (fin-aside a t (tell.seen old.rig) (tell.seen mid.rig) (tell.leaves old.rig) (tell.leaves mid.rig) c between w f low high a_low a_high
          recovers settled own_settled owes owes_is h held-h once disk kept ls os c.loose None elsewhere)
          refl good-fin
          (fin-pages a t (tell.seen old.rig) (tell.seen mid.rig) (tell.leaves old.rig) (tell.leaves mid.rig) c between w f low high a_low a_high
          recovers settled own_settled owes owes_is h held-h once disk kept ls os c.loose None)
          (undone-bounds a t (tell.seen old.rig) (tell.seen mid.rig) (tell.leaves old.rig) (tell.leaves mid.rig) c between w f low high a_low a_high
          recovers settled own_settled owes owes_is h held-h once disk kept ls os c.loose None (inr here) elsewhere (λ x j due. absurd (no-due x j due))
          good-fin w.bounds (step_sums i w) (step-more i w) f.bounds owes-all)
          (undone-doubts a t (tell.seen old.rig) (tell.seen mid.rig) (tell.leaves old.rig) (tell.leaves mid.rig) c between w f low high a_low a_high
          recovers settled own_settled owes owes_is h held-h once disk kept ls os c.loose None (inr here) elsewhere (λ x j due. absurd (no-due x j due))
          good-fin)

      pub undo-step : (w' : Core) × Serves {C = Complex G} tell stands_for (λ k. k.rig) (fits_by tell.seen tell.leaves) (RecoverStep i)
          reply.Step old mid w w'
      undo-step = (
        step_core i pages_then w,
        record {
          turns = step-turns i a (tell.seen old.rig) (tell.leaves old.rig) c w f low high recovers pages_then (
            page_placed h.o.rid.page (dirtied a) w.pages,
            numbers_of (tell.seen mid.rig) (tell.leaves mid.rig) fin,
            undoes (Undoes.one h.o.rid.page a may-roll refl),
            refl,
          );
          fits_then = subst (λ (q : Parts). Fits (tell.seen mid.rig) (tell.leaves mid.rig) q (step_core i pages_then w)) (sym is) fits-then;
          passes = passes-to tell i a old low high recovers mid good time span mid m m refl f.good;
        },
      )
