-- Refusals that leave state and pages, and of them those of a transaction that isn't known, or whose instance isn't up. For `back_to` and
-- `undo`.
use Rattle.std.proofs.Common.{◌≡◌, ◌≢◌, ℕ, ◌≤◌, true, List, [], ◌∷◌, refl, sym, ap, ◌∙◌, subst}
use Rattle.std.specs.Prelude.{Option, None, Some}
use Rattle.sd_base.specs.declared.ids.TxnId.{TxnId}
use Rattle.sd_base.specs.declared.place.Status.TheVariants as S
use Rattle.sd_base.specs.declared.refusal.Refusal.{Refusal}
use Rattle.sd_base.specs.declared.refusal.Refusal.TheVariants as R
use Rattle.sd_model.specs.Applies.{First, MayServe, PassesAll, Says}
use Rattle.sd_model.specs.Causes.{before, has_cause, order}
use Rattle.sd_model.specs.Exact.{IsOfFreeSlot, NamesWhom}
use Rattle.sd_model.specs.Fields.{txn_of}
use Rattle.sd_model.specs.Refusing.{Names, Refuses, Tells}
use Rattle.sd_model.specs.Scenes.{asked_of}
use Rattle.sd_model.specs.State.{State}
use Rattle.sd_model.specs.declared.act.Life.{Life}
use Rattle.sd_model.specs.declared.cause.Cause.{Cause}
use Rattle.sd_model.specs.declared.event.Event.{Event}
use Rattle.sd_model.specs.declared.event.Event.TheVariants.{Back, Undo}
use Rattle.sd_model.specs.declared.event.Reply.{Reply}
use Rattle.sd_model.specs.declared.event.Reply.TheVariants as reply
use Rattle.sd_rig.specs.Devices.{DeviceImages}
use Rattle.sd_txn.specs.Transactions.{IsUnresolved, state_at}
use Rattle.sd_chain.specs.Records.{home}
use Rattle.sd_chain.specs.Logs.{Outcomes}
use Rattle.sd_world.specs.Answers.{NamesPlace, RefusalLeaves}
use Rattle.sd_world.specs.Bounds.{Allows}
use Rattle.sd_world.specs.PageCauses.{NoneSays, PagesAgree}
use Rattle.sd_world.specs.Serving.{Core}
use Rattle.sd_state.specs.Parts.{Parts, status_at, txns_at}
use Rattle.sd_state.specs.Values.{Pending}
use Rattle.sd_fits.specs.Fits.{Fits}
use Rattle.sd_fits.proofs.Heads.{none-gone, not-up}
use Rattle.sd_fits.proofs.Known.{known-there}
use Rattle.sd_ops.proofs.Calms.{IsAnswer}

-- What is to be shown of a refusal for this cause.
pub record IsCause (w : Core) (e : Event) (n : Refusal) (cause : Cause) : Type 0 where
  pub names : Names cause n
  pub tells : Tells w.scene.state e n
  pub first : First w.scene.state e cause
  pub refuses : Refuses w.scene.state e cause w.scene.state
  pub whom : NamesWhom w.scene (txn_of e) (asked_of e None) n
  pub unused : IsOfFreeSlot w.scene.state e None (reply.Refused n)
  pub passes : NoneSays w.scene.state w.pages e (before cause (order e))
  pub says : PagesAgree w.scene.state w.pages e cause
  pub place : NamesPlace w.scene.state w.pages e n
  pub left : RefusalLeaves w.scene.state w.pages e n w.scene.state w.pages
  pub allows : Allows w.scene.state w.bounds e n

pub refused-answer : (w : Core) (e : Event) (n : Refusal) (cause : Cause) → IsCause w e n cause → IsAnswer w e (reply.Refused n)
refused-answer w e n cause k = record {
  step = (cause, k.names, k.tells, k.first, k.refuses);
  exact = k.whom;
  unused = k.unused;
  moves = record {
    cause = cause;
    names = k.names;
    first = k.first;
    passes = k.passes;
    says = k.says;
    place = k.place;
    leaves = k.left;
  };
  within = k.allows;
}

-- ---- the head of a call

-- An event of a transaction that may roll back.
pub record IsOfTxn (e : Event) (t : TxnId) : Type 0 where
  pub rest : List Cause
  pub order : order e ≡ Cause.Shut ∷ Cause.NoTxn ∷ Cause.Down ∷ rest
  pub txn : txn_of e ≡ t
  pub serves : (m : State) → MayServe m e → (m.inst t.inst).status ≡ S.Up
  pub unused : (m : State) (r : Reply) → IsOfFreeSlot m e None r

pub of-undo : (t : TxnId) → IsOfTxn (Undo t) t
of-undo t = record { rest = Cause.Lost ∷ Cause.Away ∷ Cause.Rig ∷ []; order = refl; txn = refl; serves = λ m up. up; unused = λ m r. tt }

pub of-back : (t : TxnId) (mark : Option (List ℕ)) → IsOfTxn (Back t mark) t
of-back t None = record { rest = []; order = refl; txn = refl; serves = λ m up. up; unused = λ m r. tt }
of-back t (Some name) = record { rest = Cause.Busy ∷ Cause.NoMark ∷ []; order = refl; txn = refl; serves = λ m up. up; unused = λ m r. tt }

module _ (e : Event) (t : TxnId) (k : IsOfTxn e t) (seen : DeviceImages) (leaves : Outcomes) (c : Parts) (low : 1 ≤ home t) (high : home t ≤ 8)
    (w : Core) (f : Fits seen leaves c w) where
  abbrev m : State
  m = w.scene.state

  -- what its order begins with
  first-of : (cause : Cause) → (has_cause cause (Cause.Shut ∷ Cause.NoTxn ∷ Cause.Down ∷ k.rest) ≡ true)
      × PassesAll m e (before cause (Cause.Shut ∷ Cause.NoTxn ∷ Cause.Down ∷ k.rest)) × Says m e cause → First m e cause
  first-of cause h = subst (λ (os : List Cause). (has_cause cause os ≡ true) × PassesAll m e (before cause os) × Says m e cause) (sym k.order) h

  passes-of : (cause : Cause) → NoneSays m w.pages e (before cause (Cause.Shut ∷ Cause.NoTxn ∷ Cause.Down ∷ k.rest))
      → NoneSays m w.pages e (before cause (order e))
  passes-of cause h = subst (λ (os : List Cause). NoneSays m w.pages e (before cause os)) (sym k.order) h

  there : IsUnresolved (txns_at c (home t)) t → (m.part (txn_of e)).life ≡ Life.Gone → ⊥
  there known gone = known-there seen leaves c w f t low high known (ap (λ (u : TxnId). (m.part u).life) (sym k.txn) ∙ gone)

  pub unknown-cause : state_at (txns_at c (home t)) t ≡ None → IsCause w e R.NoTxn Cause.NoTxn
  unknown-cause none = record {
    names = refl;
    tells = tt;
    first = first-of Cause.NoTxn (
      refl,
      (f.good.not_closed, tt),
      ap (λ (u : TxnId). (m.part u).life) k.txn ∙ none-gone seen leaves Pending.Idle c m f.good t low high none,
    );
    refuses = refl;
    whom = tt;
    unused = k.unused m (reply.Refused R.NoTxn);
    passes = passes-of Cause.NoTxn (tt, tt);
    says = λ b. absurd (cc);
    place = tt;
    left = refl;
    allows = tt;
  }

  pub down-cause : IsUnresolved (txns_at c (home t)) t → status_at c (home t) ≢ S.Up → IsCause w e R.Down Cause.Down
  down-cause known down = record {
    names = refl;
    tells = tt;
    first = first-of Cause.Down (
      refl,
      (f.good.not_closed, (there known, tt)),
      λ serves. not-up seen leaves Pending.Idle c m f.good (home t) low high down (k.serves m serves),
    );
    refuses = refl;
    whom = tt;
    unused = k.unused m (reply.Refused R.Down);
    passes = passes-of Cause.Down (tt, (tt, tt));
    says = λ b. absurd (cc);
    place = tt;
    left = refl;
    allows = tt;
  }
