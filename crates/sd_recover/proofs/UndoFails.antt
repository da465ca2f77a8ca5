-- A force of an undo for a loser failed: for the goals of `undo_next`.
use Rattle.std.proofs.Common.{◌≡◌, ◌⊎◌, inr, ⊎_elim, ℕ, ◌≤◌, true, refl, ap, ◌∙◌, subst, arith, Bool, List, get_or, length, slice_set}
use Rattle.std.specs.Prelude.{None, Some}
use Rattle.std.specs.List.{IsDistinct}
use Rattle.std.proofs.lemmas.List.{get_or-set_same}
use Rattle.sd_base.specs.Ids.{same_txn}
use Rattle.sd_base.specs.declared.ids.TxnId.{TxnId}
use Rattle.sd_base.specs.declared.place.Status.TheVariants as S
use Rattle.sd_base.specs.declared.refusal.Refusal.TheVariants as R
use Rattle.sd_model.specs.State.{State, fall}
use Rattle.sd_model.specs.declared.event.Event.TheVariants.{RecoverStep}
use Rattle.sd_model.specs.declared.event.Reply.TheVariants as reply
use Rattle.sd_moves.specs.Falling.{IsFallen, with_fallen}
use Rattle.sd_pagelock.specs.Directory.{entry_at}
use Rattle.sd_pagelock.specs.Places.{owns}
use Rattle.sd_rig.specs.Devices.{Elapses, Span}
use Rattle.sd_txn.specs.Transactions.{ids, state_at, top_at}
use Rattle.sd_txn.specs.declared.state.OpenRec.{OpenRec}
use Rattle.sd_txn.specs.declared.state.TxnState.{TxnState}
use Rattle.sd_chain.specs.Records.{home}
use Rattle.sd_world.specs.Answers.Undoes.{none}
use Rattle.sd_world.specs.Serving.{Core, Serves, Telling}
use Rattle.sd_state.specs.Complexes.{parts}
use Rattle.sd_state.specs.Forcing.{KeepMasters, with_failed}
use Rattle.sd_state.specs.Good.{Good}
use Rattle.sd_state.specs.Images.{Stands}
use Rattle.sd_state.specs.Parts.{Parts, acting, actor, is_loose, status_at, txns_at}
use Rattle.sd_update.specs.UndoingFor.{HasFailedFor}
use Rattle.sd_state.specs.Values.{Pending}
use Rattle.sd_state.specs.declared.complex.Complex.{Complex}
use Rattle.sd_fits.specs.Serving.{fits_by, stands_for}
use Rattle.sd_fits.proofs.Recovering.{recovers-at, step_sums}
use Rattle.sd_fits.proofs.Served.{bounds-stay}
use Rattle.sd_recover.specs.Tasks.{AreThere}
use Rattle.sd_recover.proofs.Steps.{breaks, failed-all, failed-aside, failed-due, same-aside}
use Rattle.sd_recover.proofs.UndoBreaks.{undo-breaks, who}

module _ {G : Type 0} (tell : Telling G) (a : ℕ) (t : TxnId) (old mid : Complex G) (low : 1 ≤ home t) (high : home t ≤ 8) (a_low : 1 ≤ a)
    (a_high : a ≤ 8) (recovers : status_at (parts old) (home t) ≡ S.Recovering a) (there : AreThere (parts old))
    (loser : state_at (txns_at (parts old) (home t)) t ≡ Some TxnState.Retained) (o : OpenRec)
    (last : top_at (txns_at (parts old) (home t)) t ≡ Some o) (held : owns (entry_at (parts old).directory o.rid.page) a ≡ true)
    (once : IsDistinct same_txn (ids (txns_at (parts old) (home t))))
    (good : (m : State) → Good (tell.seen old.rig) (tell.leaves old.rig) Pending.Idle (parts old) m
    → Good (tell.seen mid.rig) (tell.leaves mid.rig) Pending.Idle (parts mid) m)
    (time : Elapses (tell.moment old.rig) (tell.moment mid.rig) (tell.since old.rig) (tell.since mid.rig))
    (span : (m : State) → Good (tell.seen old.rig) (tell.leaves old.rig) Pending.Idle (parts old) m
    → Span (tell.moment old.rig) (tell.since mid.rig) (Stands m Pending.Idle))
    (disk : tell.seen mid.rig 0 ≡ tell.seen old.rig 0) (kept : KeepMasters (tell.leaves old.rig) (tell.leaves mid.rig))
    (left : (parts mid ≡ with_failed (actor (parts old) a) a (parts old)) ⊎ HasFailedFor a t (parts old) (parts mid))
    (w : Core) (f : fits_by tell.seen tell.leaves old w) where
  abbrev i : ℕ
  i = home t

  abbrev m : State
  m = w.scene.state

  -- whoever recovers another is up, and acts for itself
  itself : actor (parts old) a ≡ a
  itself = ⊎_elim
      (λ own. ap (acting a) (ap (status_at (parts old)) own ∙ recovers))
      (λ up. ap (acting a) ((f.good.instances a a_low a_high).status ∙ up))
      (f.good.recoverers.each i a (recovers-at i a (tell.seen old.rig) (tell.leaves old.rig) (parts old) w f low high recovers))

  abbrev Due : Type 0
  Due = ((parts mid).due ≡ None) ⊎ ((j : ℕ) × ((parts mid).due ≡ Some (a, j)) × (is_loose (parts mid) j ≡ true))

  pub left-due : Due
  left-due = ⊎_elim
      (λ own. subst (λ (k : ℕ). ((parts mid).due ≡ None) ⊎ ((j : ℕ) × ((parts mid).due ≡ Some (k, j)) × (is_loose (parts mid) j ≡ true))) itself
      (failed-due (actor (parts old) a) a (tell.seen old.rig) (tell.seen mid.rig) (tell.leaves old.rig) (tell.leaves mid.rig) (parts old)
      (parts mid) m f.good a_low a_high (there.0 a a_high) disk kept own))
      (λ h. inr (
        i,
        ap (λ (p : Parts). p.due) h.failed ∙ ap (λ (k : ℕ). Some (k, i)) (who tell a t old mid low high a_low a_high recovers there loser o last
            held once good time span disk kept h.owes h.owes_is h.between h.undone h.failed w f),
        ap (λ (p : Parts). is_loose p i) h.failed ∙ loosed h.between.loose
            (ap (λ (p : Parts). length p.loose) h.undone.rest ∙ f.good.shape.loose),
      ))
      left
    where
      loosed : (loose : List Bool) → length loose ≡ 9 → get_or (slice_set loose i true) i true ≡ true
      loosed loose nine = get_or-set_same loose i true true (omega (arith, nine, high))

  pub left-serves : (new : Complex G) → new.rig ≡ mid.rig → parts new ≡ with_fallen a (parts new) (parts mid) → IsFallen a (parts mid) (parts new)
      → ((n : State) → Good (tell.seen mid.rig) (tell.leaves mid.rig) Pending.Idle (parts mid) n
      → Good (tell.seen new.rig) (tell.leaves new.rig) Pending.Idle (parts new) (fall a n))
      → (w' : Core) × Serves {C = Complex G} tell stands_for (λ k. k.rig) (fits_by tell.seen tell.leaves) (RecoverStep i)
      (reply.Refused R.Failed) old new w w'
  left-serves new same fell fallen down = ⊎_elim
      (λ own.
      let all = failed-all (actor (parts old) a) a (tell.seen old.rig) (tell.seen mid.rig) (tell.leaves old.rig) (tell.leaves mid.rig)
      (parts old) (parts mid) m f.good a_low a_high (there.0 a a_high) disk kept own w.pages (step_sums i w) f.pages
      (bounds-stay (tell.seen old.rig) (parts old) w.bounds (RecoverStep i) reply.Step tt f.bounds) f.doubts in
      breaks tell i a old low high recovers mid good time span a_low a_high new same fell fallen down w f w.pages
      (failed-aside (actor (parts old) a) a (tell.seen old.rig) (tell.seen mid.rig) (tell.leaves old.rig) (tell.leaves mid.rig)
      (parts old) (parts mid) m f.good a_low a_high (there.0 a a_high) disk kept own i (parts old) (same-aside i (parts old)))
      (none refl) all.0 all.1 all.2)
      (λ h. undo-breaks tell a t old mid low high a_low a_high recovers there loser o last held once good time span disk kept h.owes h.owes_is
      h.between h.undone h.failed w f new same fell fallen down)
      left
