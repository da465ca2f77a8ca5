-- Which causes a refusal may have, and what the pages say of them. It serves the goals of `refusals` in laws.rt.
use Rattle.std.proofs.Common.{◌≡◌, ◌⊎◌, inl, inr, ⊎_elim, ℕ, Bool, true, false, cond, eqb, List, [], ◌∷◌, get_or, refl, sym, ap, ◌∙◌, subst, eqb-true}
use Rattle.sd_base.specs.declared.refusal.Refusal.{Refusal}
use Rattle.sd_base.specs.declared.refusal.Refusal.TheVariants as R
use Rattle.sd_model.specs.declared.cause.Cause.{Cause}
use Rattle.sd_model.specs.declared.event.Event.{Event}
use Rattle.sd_model.specs.declared.event.Reply.{Reply}
use Rattle.sd_model.specs.declared.event.Reply.TheVariants.{Refused}
use Rattle.sd_model.specs.State.{State}
use Rattle.sd_model.specs.Causes.{number, has_cause, order}
use Rattle.sd_model.specs.Applies.{unless}
use Rattle.sd_model.specs.Refusing.{Names, Refuses, found}
use Rattle.sd_model.specs.Step.{Step}
use Rattle.sd_world.specs.Pages.{Pages}
use Rattle.sd_world.specs.PageCauses.{PagesSay, NoneSays, decided}
use Rattle.sd_world.specs.Answers.{Moves, RefusalLeaves}
use Rattle.sd_world.specs.Laws.{IsPlain, IsAnswer}

-- ---- a cause is known by its number

abbrev all_causes : List Cause
all_causes = Cause.Shut ∷ Cause.NoTxn ∷ Cause.Down ∷ Cause.Busy ∷ Cause.Long ∷ Cause.Lock ∷ Cause.SlotLock ∷ Cause.Lost ∷ Cause.Away ∷ Cause.Full ∷ Cause.NoRecord ∷ Cause.NotNumber ∷ Cause.Digits ∷ Cause.Over ∷ Cause.Log ∷ Cause.Lsn ∷ Cause.TooMany ∷ Cause.Begins ∷ Cause.NoMark ∷ Cause.Frame ∷ Cause.Moving ∷ Cause.Asks ∷ Cause.Dirty ∷ Cause.Check ∷ Cause.NotDown ∷ Cause.NotRecovered ∷ Cause.Rig ∷ Cause.Cut ∷ []

abbrev cause_at : ℕ → Cause
cause_at n = get_or all_causes n Cause.Shut

back : (c : Cause) → cause_at (number c) ≡ c
back Cause.Shut = refl
back Cause.NoTxn = refl
back Cause.Down = refl
back Cause.Busy = refl
back Cause.Long = refl
back Cause.Lock = refl
back Cause.SlotLock = refl
back Cause.Lost = refl
back Cause.Away = refl
back Cause.Full = refl
back Cause.NoRecord = refl
back Cause.NotNumber = refl
back Cause.Digits = refl
back Cause.Over = refl
back Cause.Log = refl
back Cause.Lsn = refl
back Cause.TooMany = refl
back Cause.Begins = refl
back Cause.NoMark = refl
back Cause.Frame = refl
back Cause.Moving = refl
back Cause.Asks = refl
back Cause.Dirty = refl
back Cause.Check = refl
back Cause.NotDown = refl
back Cause.NotRecovered = refl
back Cause.Rig = refl
back Cause.Cut = refl

-- a cause that stands in a list is its first one, or stands behind it
among : (c d : Cause) (ds : List Cause) → has_cause c (d ∷ ds) ≡ true → (c ≡ d) ⊎ (has_cause c ds ≡ true)
among c d ds h = go (eqb (number c) (number d)) refl h
  where
    go : (b : Bool) → eqb (number c) (number d) ≡ b → cond b true (has_cause c ds) ≡ true → (c ≡ d) ⊎ (has_cause c ds ≡ true)
    go true is h = inl (sym (back c) ∙ ap cause_at (eqb-true (number c) (number d) is) ∙ back d)
    go false is h = inr h

none_left : {A : Type 0} → false ≡ true → A
none_left e = absurd (cc)

one : (c d : Cause) → has_cause c (d ∷ []) ≡ true → c ≡ d
one c d h = ⊎_elim (λ e. e) none_left (among c d [] h)

both : (c d x : Cause) → has_cause c (x ∷ []) ≡ true → has_cause d (x ∷ []) ≡ true → c ≡ d
both c d x h k = one c x h ∙ sym (one d x k)

-- a cause of these that the pages don't decide is none that they decide
never : {A : Type 0} (e : Event) (c d : Cause) → decided e d ≡ false → decided e c ≡ true → c ≡ d → A
never e c d isnt sure is = none_left (sym isnt ∙ ap (decided e) (sym is) ∙ sure)

neither : {A : Type 0} (e : Event) (c x y : Cause) → decided e x ≡ false → decided e y ≡ false → decided e c ≡ true → has_cause c (x ∷ y ∷ []) ≡ true → A
neither e c x y nx ny sure h = ⊎_elim (λ i. never e c x nx sure i) (λ k. never e c y ny sure (one c y k)) (among c x (y ∷ []) h)

-- two causes of one refusal are one, where the pages decide it
pub same_cause : (e : Event) (n : Refusal) (c d : Cause) → Names c n → Names d n → decided e c ≡ true → c ≡ d
same_cause e R.Failed c d h k sure = both c d Cause.Rig h k
same_cause e R.PageFull c d h k sure = both c d Cause.Full h k
same_cause e R.NoRecord c d h k sure = both c d Cause.NoRecord h k
same_cause e R.LogFull c d h k sure = both c d Cause.Log h k
same_cause e R.PoolFull c d h k sure = both c d Cause.Frame h k
same_cause e R.TooManyTxns c d h k sure = both c d Cause.TooMany h k
same_cause e R.NoSavepoint c d h k sure = both c d Cause.NoMark h k
same_cause e (R.NeedPage place) c d h k sure = both c d Cause.Away h k
same_cause e R.Lost c d h k sure = both c d Cause.Lost h k
same_cause e (R.Busy by) c d h k sure = both c d Cause.Busy h k
same_cause e R.CutCommit c d h k sure = both c d Cause.Cut h k
same_cause e R.NotAsked c d h k sure = both c d Cause.Asks h k
same_cause e R.Dirty c d h k sure = both c d Cause.Dirty h k
same_cause e (R.MovingTo to) c d h k sure = both c d Cause.Moving h k
same_cause e R.NoCheck c d h k sure = both c d Cause.Check h k
same_cause e (R.NotDown status) c d h k sure = both c d Cause.NotDown h k
same_cause e (R.NotRecovered status) c d h k sure = both c d Cause.NotRecovered h k
same_cause e R.NoTxn c d h k sure = both c d Cause.NoTxn h k
same_cause e R.NotNumber c d h k sure = both c d Cause.NotNumber h k
same_cause e R.LsnEnd c d h k sure = neither e c Cause.Lsn Cause.Begins refl refl sure h
same_cause e (R.Blocked by) c d h k sure = neither e c Cause.Lock Cause.SlotLock refl refl sure h
same_cause e (R.Deadlock cycle) c d h k sure = neither e c Cause.Lock Cause.SlotLock refl refl sure h
same_cause e R.Down c d h k sure = neither e c Cause.Shut Cause.Down refl refl sure h
same_cause e R.TooLong c d h k sure = ⊎_elim (λ i. never e c Cause.Long refl sure i) (λ l. neither e c Cause.Over Cause.Digits refl refl sure l) (among c Cause.Long (Cause.Over ∷ Cause.Digits ∷ []) h)
same_cause e n c d h k sure = none_left h

-- ---- what a refusal and an answer say

pub cause-said : (m : State) (w : Pages) (e : Event) (n : Refusal) (m' : State) (w' : Pages) (c : Cause)
    → Moves m w e (Refused n) m' w' → Names c n → decided e c ≡ true → PagesSay m w e c
cause-said m w e n m' w' c h names sure =
    let is : c ≡ h.cause = same_cause e n c h.cause names h.names sure in
    subst (PagesSay m w e) (sym is) (h.says (subst (λ (d : Cause). decided e d ≡ true) is sure))

off : (b : Bool) (P : Type 0) → unless b P → b ≡ true → P → ⊥
off true P h sure p = h p
off false P h sure p = none_left sure

pub none-says : (m : State) (w : Pages) (e : Event) (cs : List Cause) (c : Cause) → NoneSays m w e cs → has_cause c cs ≡ true → decided e c ≡ true → PagesSay m w e c → ⊥
none-says m w e [] c h there sure says = none_left there
none-says m w e (d ∷ ds) c h there sure says = ⊎_elim
    (λ is. off (decided e d) (PagesSay m w e d) h.0 (subst (λ (x : Cause). decided e x ≡ true) is sure) (subst (PagesSay m w e) is says))
    (λ behind. none-says m w e ds c h.1 behind sure says)
    (among c d ds there)

pub answer-clear : (m : State) (w : Pages) (e : Event) (r : Reply) (m' : State) (w' : Pages) (c : Cause)
    → Moves m w e r m' w' → IsAnswer r → has_cause c (order e) ≡ true → decided e c ≡ true → PagesSay m w e c → ⊥
answer-clear m w e (Refused n) m' w' c h is there sure says = is
answer-clear m w e r m' w' c h is there sure says = none-says m w e (order e) c h.0 there sure says

-- ---- what a refusal leaves

pages-left : (m : State) (w : Pages) (e : Event) (n : Refusal) (m' : State) (w' : Pages) → RefusalLeaves m w e n m' w' → IsPlain n → w' ≡ w
pages-left m w e R.Failed m' w' h plain = absurd plain
pages-left m w e R.CutCommit m' w' h plain = absurd plain
pages-left m w e n m' w' h plain = h

pub refusal-leaves : (m : State) (w : Pages) (e : Event) (n : Refusal) (m' : State) (w' : Pages) → Moves m w e (Refused n) m' w' → IsPlain n → w' ≡ w
refusal-leaves m w e n m' w' h plain = pages-left m w e n m' w' h.leaves plain

rig-fails : {A : Type 0} (n : Refusal) → Names Cause.Rig n → IsPlain n → A
rig-fails R.Failed h plain = absurd plain
rig-fails n h plain = none_left h

cut-fails : {A : Type 0} (n : Refusal) → Names Cause.Cut n → IsPlain n → A
cut-fails R.CutCommit h plain = absurd plain
cut-fails n h plain = none_left h

left : (m : State) (e : Event) (n : Refusal) (m' : State) (c : Cause) → Names c n → Refuses m e c m' → IsPlain n → (m' ≡ m) ⊎ (m' ≡ found e m)
left m e n m' Cause.NoRecord names h plain = inr h
left m e n m' Cause.NotNumber names h plain = inr h
left m e n m' Cause.Digits names h plain = inr h
left m e n m' Cause.Over names h plain = inr h
left m e n m' Cause.Rig names h plain = rig-fails n names plain
left m e n m' Cause.Cut names h plain = cut-fails n names plain
left m e n m' c names h plain = inl h

pub state-left : (m : State) (e : Event) (n : Refusal) (m' : State) → Step m e (Refused n) m' → IsPlain n → (m' ≡ m) ⊎ (m' ≡ found e m)
state-left m e n m' h plain = left m e n m' h.0 h.1 h.4 plain

decided-left : (m : State) (e : Event) (m' : State) (c : Cause) → Refuses m e c m' → decided e c ≡ true → m' ≡ m
decided-left m e m' Cause.NoRecord h sure = none_left sure
decided-left m e m' Cause.NotNumber h sure = none_left sure
decided-left m e m' Cause.Digits h sure = none_left sure
decided-left m e m' Cause.Over h sure = none_left sure
decided-left m e m' Cause.Rig h sure = none_left sure
decided-left m e m' Cause.Cut h sure = none_left sure
decided-left m e m' c h sure = h

decided-plain : (e : Event) (n : Refusal) (c : Cause) → Names c n → decided e c ≡ true → IsPlain n
decided-plain e R.Failed c names sure = never e c Cause.Rig refl sure (one c Cause.Rig names)
decided-plain e R.CutCommit c names sure = never e c Cause.Cut refl sure (one c Cause.Cut names)
decided-plain e n c names sure = tt

pub by_pages-left : (m : State) (w : Pages) (e : Event) (n : Refusal) (m' : State) (w' : Pages) (c : Cause)
    → Step m e (Refused n) m' → Moves m w e (Refused n) m' w' → Names c n → decided e c ≡ true → (m' ≡ m) × (w' ≡ w)
by_pages-left m w e n m' w' c s h names sure =
    let is : c ≡ s.0 = same_cause e n c s.0 names s.1 sure in
    (decided-left m e m' s.0 s.4 (subst (λ (d : Cause). decided e d ≡ true) is sure), pages-left m w e n m' w' h.leaves (decided-plain e n c names sure))
