-- Refusals that leave all as it was, by what code sees: the event turns the world so. For the calls on records.
use Rattle.std.proofs.Common.{◌≡◌, ◌≢◌, ⊎_elim, ◌≤◌, true, List, [], ◌∷◌, refl, sym, ap, ◌∙◌, subst}
use Rattle.std.specs.Prelude.{Option, None, Some, Result, Err, IsSome, option_map}
use Rattle.sd_base.specs.Waits.{Waits}
use Rattle.sd_base.specs.declared.ids.Rid.{Rid}
use Rattle.sd_base.specs.declared.ids.TxnId.{TxnId}
use Rattle.sd_base.specs.declared.place.Status.TheVariants as S
use Rattle.sd_base.specs.declared.refusal.Refusal.{Refusal}
use Rattle.sd_base.specs.declared.refusal.Refusal.TheVariants as R
use Rattle.sd_model.specs.Applies.{First, IsBusy, IsRolling, MayServe, PassesAll, Says}
use Rattle.sd_model.specs.Causes.{before, has_cause, order}
use Rattle.sd_model.specs.Exact.{IsOfFreeSlot, NamesWhom}
use Rattle.sd_model.specs.Fields.{txn_of}
use Rattle.sd_model.specs.Refusing.{Names, NamesBusy, Refuses, Tells}
use Rattle.sd_model.specs.Scenes.{asked_of}
use Rattle.sd_model.specs.State.{State}
use Rattle.sd_model.specs.StepLaws.{MayAct}
use Rattle.sd_model.specs.declared.act.Life.{Life}
use Rattle.sd_model.specs.declared.cause.Cause.{Cause}
use Rattle.sd_model.specs.declared.event.Event.{Event}
use Rattle.sd_model.specs.declared.event.Reply.{Reply}
use Rattle.sd_model.specs.declared.event.Reply.TheVariants as reply
use Rattle.sd_chain.specs.Records.{home}
use Rattle.sd_rig.specs.Devices.{DeviceImages}
use Rattle.sd_chain.specs.Logs.{Outcomes}
use Rattle.sd_txn.specs.Transactions.{IsUnresolved, Transaction, state_at, txn_at}
use Rattle.sd_txn.specs.declared.state.TxnState.{TxnState}
use Rattle.sd_world.specs.Answers.{NamesPlace, RefusalLeaves}
use Rattle.sd_world.specs.Bounds.{Allows}
use Rattle.sd_world.specs.PageCauses.{NoneSays, PagesAgree}
use Rattle.sd_world.specs.Serving.{AsksNear, Core, IsFault, answered, refused}
use Rattle.sd_state.specs.Parts.{Parts, status_at, txns_at}
use Rattle.sd_fits.specs.Fits.{Fits}
use Rattle.sd_fits.proofs.Heads.{is-up, none-gone, not-up, stands-as, up-works}
use Rattle.sd_fits.proofs.Known.{known-there}
use Rattle.sd_fits.proofs.Served.{nothing-fits}
use Rattle.sd_fits.proofs.Taking.{turned_to}
use Rattle.sd_ops.specs.Halves.{HalfServed, HalfTurns, IsOff, noted}

-- ---- a refusal, by its cause

-- What is asked of a refusal for this cause, which leaves this state and the pages.
pub record IsFor (wanted : Option Rid) (w : Core) (e : Event) (n : Refusal) (cause : Cause) (m' : State) : Type 0 where
  pub names : Names cause n
  pub tells : Tells w.scene.state e n
  pub first : First w.scene.state e cause
  pub refuses : Refuses w.scene.state e cause m'
  pub passes : NoneSays w.scene.state w.pages e (before cause (order e))
  pub says : PagesAgree w.scene.state w.pages e cause
  pub place : NamesPlace w.scene.state w.pages e n
  pub leaves : RefusalLeaves w.scene.state w.pages e n m' w.pages
  pub allows : Allows w.scene.state w.bounds e n
  pub whom : NamesWhom w.scene (txn_of e) (asked_of e wanted) n
  pub unused : IsOfFreeSlot w.scene.state e wanted (reply.Refused n)
  pub near : AsksNear w.bounds e wanted

abbrev pub refused_to : Core → Event → Option Rid → Refusal → State → Core
refused_to w e wanted n m' = turned_to w m' (noted e wanted (reply.Refused n) w.scene.waits) w.pages e (reply.Refused n)

pub refused-turns : (wanted : Option Rid) (w : Core) (e : Event) (n : Refusal) (cause : Cause) (m' : State)
    → IsFor wanted w e n cause m' → HalfTurns wanted w e (reply.Refused n) (refused_to w e wanted n m')
refused-turns wanted w e n cause m' h = record {
  near = h.near;
  step = (cause, h.names, h.tells, h.first, h.refuses);
  waits = λ t. refl;
  exact = h.whom;
  unused = h.unused;
  moves = record {
    cause = cause;
    names = h.names;
    first = h.first;
    passes = h.passes;
    says = h.says;
    place = h.place;
    leaves = h.leaves;
  };
  within = h.allows;
  sums = refl;
}

-- a refusal that leaves all as it was, of a call that noted no wait
pub refused-half : (seen : DeviceImages) (leaves : Outcomes) (c : Parts) (wanted : Option Rid) (e : Event) (n : Refusal) (cause : Cause)
    → ((asks : Waits) → noted e wanted (reply.Refused n) asks ≡ asks)
    → ((w : Core) → Fits seen leaves c w → IsFor wanted w e n cause w.scene.state)
    → (IsFault (reply.Refused n) → ⊥)
    → HalfServed seen leaves wanted e (Some (reply.Refused n)) c c
refused-half seen leaves c wanted e n cause none is fault = (
  λ w f. (
    refused_to w e wanted n w.scene.state,
    refused-turns wanted w e n cause w.scene.state (is w f),
    subst (λ (asks : Waits). Fits seen leaves c (turned_to w w.scene.state asks w.pages e (reply.Refused n))) (sym (none w.scene.waits))
        (nothing-fits c.locks w.scene.waits e (reply.Refused n) seen leaves c w f tt),
  ),
  fault,
)

-- ---- results

abbrev an_err : (X : Type 0) → Refusal → Result X Refusal
an_err X n = Err n

-- what a call of this answer promises, where it answers so
pub err-half : {X : Type 0} (answer : X → Reply) (result : Result X Refusal) (e n : Refusal) (seen : DeviceImages) (leaves : Outcomes)
    (wanted : Option Rid) (ev : Event) (old new : Parts) → result ≡ Err e → e ≡ n
    → HalfServed seen leaves wanted ev (refused n) old new → HalfServed seen leaves wanted ev (answered answer result) old new
err-half {X} answer result e n seen leaves wanted ev old new is same h =
    subst (λ (r : Result X Refusal). HalfServed seen leaves wanted ev (answered answer r) old new)
    (sym (is ∙ ap (an_err X) same)) h

-- ---- the head of a call

-- An event of a transaction that must run.
pub record IsWork (e : Event) (t : TxnId) : Type 0 where
  pub rest : List Cause
  pub order : order e ≡ Cause.Shut ∷ Cause.NoTxn ∷ Cause.Down ∷ Cause.Busy ∷ rest
  pub txn : txn_of e ≡ t
  pub serve : (m : State) → (m.inst t.inst).status ≡ S.Up → MayServe m e
  pub serves : (m : State) → MayServe m e → (m.inst t.inst).status ≡ S.Up
  pub busy : (m : State) → IsRolling (m.part t).life → IsBusy m e
  pub works : (m : State) → IsBusy m e → IsRolling (m.part t).life
  pub names : (m : State) → NamesBusy m e t
  pub unused : (m : State) (r : Reply) → IsOfFreeSlot m e None r

-- what its order begins with
first-of : (m : State) (e : Event) (t : TxnId) (cause : Cause) (k : IsWork e t)
    → (has_cause cause (Cause.Shut ∷ Cause.NoTxn ∷ Cause.Down ∷ Cause.Busy ∷ k.rest) ≡ true)
    × PassesAll m e (before cause (Cause.Shut ∷ Cause.NoTxn ∷ Cause.Down ∷ Cause.Busy ∷ k.rest)) × Says m e cause → First m e cause
first-of m e t cause k h = subst (λ (os : List Cause). (has_cause cause os ≡ true) × PassesAll m e (before cause os) × Says m e cause)
    (sym k.order) h

passes-of : (w : Core) (e : Event) (t : TxnId) (cause : Cause) (k : IsWork e t)
    → NoneSays w.scene.state w.pages e (before cause (Cause.Shut ∷ Cause.NoTxn ∷ Cause.Down ∷ Cause.Busy ∷ k.rest))
    → NoneSays w.scene.state w.pages e (before cause (order e))
passes-of w e t cause k h = subst (λ (os : List Cause). NoneSays w.scene.state w.pages e (before cause os)) (sym k.order) h

module _ (e : Event) (t : TxnId) (k : IsWork e t) (seen : DeviceImages) (leaves : Outcomes) (c : Parts) (low : 1 ≤ home t) (high : home t ≤ 8)
    (w : Core) (f : Fits seen leaves c w) where
  abbrev m : State
  m = w.scene.state

  at-one : IsUnresolved (txns_at c (home t)) t → (m.part (txn_of e)).life ≡ Life.Gone → ⊥
  at-one there gone = known-there seen leaves c w f t low high there (ap (λ (u : TxnId). (m.part u).life) (sym k.txn) ∙ gone)

  pub unknown-for : state_at (txns_at c (home t)) t ≡ None → IsFor None w e R.NoTxn Cause.NoTxn m
  unknown-for none = record {
    names = refl;
    tells = tt;
    first = first-of m e t Cause.NoTxn k (
      refl,
      (f.good.not_closed, tt),
      ap (λ (u : TxnId). (m.part u).life) k.txn ∙ none-gone seen leaves _ c m f.good t low high none,
    );
    refuses = refl;
    passes = passes-of w e t Cause.NoTxn k (tt, tt);
    says = λ b. absurd (cc);
    place = tt;
    leaves = refl;
    allows = tt;
    whom = tt;
    unused = k.unused m (reply.Refused R.NoTxn);
    near = tt;
  }

  pub down-for : IsUnresolved (txns_at c (home t)) t → status_at c (home t) ≢ S.Up → IsFor None w e R.Down Cause.Down m
  down-for there down = record {
    names = refl;
    tells = tt;
    first = first-of m e t Cause.Down k (
      refl,
      (f.good.not_closed, (at-one there, tt)),
      λ serves. not-up seen leaves _ c m f.good (home t) low high down (k.serves m serves),
    );
    refuses = refl;
    passes = passes-of w e t Cause.Down k (tt, (tt, tt));
    says = λ b. absurd (cc);
    place = tt;
    leaves = refl;
    allows = tt;
    whom = tt;
    unused = k.unused m (reply.Refused R.Down);
    near = tt;
  }

  rolls : (o : Option Transaction) → txn_at (txns_at c (home t)) t ≡ o → IsSome o → status_at c (home t) ≡ S.Up
      → state_at (txns_at c (home t)) t ≢ Some TxnState.Running → IsRolling (m.part t).life
  rolls None is some up off = absurd (cc)
  rolls (Some x) is some up off = ⊎_elim
      (λ runs. absurd (off (there ∙ ap (λ (s : TxnState). Some s) runs)))
      (λ rolling. (rolling.0, stands-as seen leaves _ c m f.good t (TxnState.Rolling rolling.0) low high (there ∙ ap (λ (s : TxnState). Some s) rolling.1)))
      (up-works seen leaves _ c m f.good t x.state low high up there)
    where
      there : state_at (txns_at c (home t)) t ≡ Some x.state
      there = ap (λ (o : Option Transaction). option_map (λ (y : Transaction). y.state) o) is

  pub busy-for : IsUnresolved (txns_at c (home t)) t → status_at c (home t) ≡ S.Up
      → state_at (txns_at c (home t)) t ≢ Some TxnState.Running → IsFor None w e (R.Busy t) Cause.Busy m
  busy-for there up off = record {
    names = refl;
    tells = k.names m;
    first = first-of m e t Cause.Busy k (
      refl,
      (f.good.not_closed, (at-one there, ((λ no. no (k.serve m (is-up seen leaves _ c m f.good (home t) low high up).up)), tt))),
      k.busy m (rolls (txn_at (txns_at c (home t)) t) refl there up off),
    );
    refuses = refl;
    passes = passes-of w e t Cause.Busy k (tt, (tt, (tt, tt)));
    says = λ b. absurd (cc);
    place = tt;
    leaves = refl;
    allows = tt;
    whom = tt;
    unused = k.unused m (reply.Refused (R.Busy t));
    near = tt;
  }

  -- A transaction that runs on an instance that is up is refused for none of these.
  pub ready-passes : MayAct m t → PassesAll m e (Cause.Shut ∷ Cause.NoTxn ∷ Cause.Down ∷ Cause.Busy ∷ [])
  ready-passes r = (
    f.good.not_closed,
    (
      (λ gone. let clash = sym r.runs ∙ ap (λ (u : TxnId). (m.part u).life) (sym k.txn) ∙ gone in absurd (cc)),
      (
        (λ no. no (k.serve m r.at.up)),
        ((λ busy. let rolling = k.works m busy in let clash = sym r.runs ∙ rolling.1 in absurd (cc)), tt),
      ),
    ),
  )

-- a call that is refused at its head
pub off-half : (e : Event) (t : TxnId) → IsWork e t → (seen : DeviceImages) (leaves : Outcomes) (c : Parts) → 1 ≤ home t → home t ≤ 8
    → (n : Refusal) → IsOff t c n → HalfServed seen leaves None e (refused n) c c
off-half e t k seen leaves c low high R.NoTxn off = refused-half seen leaves c None e R.NoTxn Cause.NoTxn (λ asks. refl)
    (λ w f. unknown-for e t k seen leaves c low high w f off) (λ fault. fault)
off-half e t k seen leaves c low high R.Down off = refused-half seen leaves c None e R.Down Cause.Down (λ asks. refl)
    (λ w f. down-for e t k seen leaves c low high w f off.0 off.1) (λ fault. fault)
off-half e t k seen leaves c low high (R.Busy by) off =
    subst (λ (u : TxnId). HalfServed seen leaves None e (refused (R.Busy u)) c c) (sym off.0)
    (refused-half seen leaves c None e (R.Busy t) Cause.Busy (λ asks. refl)
    (λ w f. busy-for e t k seen leaves c low high w f off.1 off.2 off.3) (λ fault. fault))
off-half e t k seen leaves c low high n off = elim off [ ]
