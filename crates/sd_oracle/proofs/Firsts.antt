-- Causes are told apart by their numbers, and the first that applies. It serves the goals of causes.rt.
use Rattle.std.proofs.Common.{◌≡◌, ℕ, Bool, true, false, true≢false, cond, eqb, List, [], ◌∷◌, get_or, refl, sym, ap, ◌∙◌, subst, eqb-true, eq-eqb, Option, None, Some, MatchOption}
use Rattle.sd_model.specs.declared.cause.Cause.{Cause}
use Rattle.sd_model.specs.declared.cause.Cause.TheVariants.{Shut, NoTxn, Down, Busy, Long, Lock, SlotLock, Lost, Away, Full, NoRecord, NotNumber, Digits, Over, Log, Lsn, TooMany, Begins, NoMark, Frame, Moving, Asks, Dirty, Check, NotDown, NotRecovered, Rig, Cut}
use Rattle.sd_model.specs.declared.event.Event.{Event}
use Rattle.sd_model.specs.State.{State}
use Rattle.sd_model.specs.Causes.{number, has_cause}
use Rattle.sd_model.specs.Applies.{First}
use Rattle.sd_oracle.specs.Firsts.{IsFirstOf, NoneFirst}

all : List Cause
all = Shut ∷ NoTxn ∷ Down ∷ Busy ∷ Long ∷ Lock ∷ SlotLock ∷ Lost ∷ Away ∷ Full ∷ NoRecord ∷ NotNumber ∷ Digits ∷ Over ∷ Log ∷ Lsn ∷ TooMany ∷ Begins ∷ NoMark ∷ Frame ∷ Moving ∷ Asks ∷ Dirty ∷ Check ∷ NotDown ∷ NotRecovered ∷ Rig ∷ Cut ∷ []

at_number : (c : Cause) → get_or all (number c) Shut ≡ c
unfolding all
at_number Shut = refl
at_number NoTxn = refl
at_number Down = refl
at_number Busy = refl
at_number Long = refl
at_number Lock = refl
at_number SlotLock = refl
at_number Lost = refl
at_number Away = refl
at_number Full = refl
at_number NoRecord = refl
at_number NotNumber = refl
at_number Digits = refl
at_number Over = refl
at_number Log = refl
at_number Lsn = refl
at_number TooMany = refl
at_number Begins = refl
at_number NoMark = refl
at_number Frame = refl
at_number Moving = refl
at_number Asks = refl
at_number Dirty = refl
at_number Check = refl
at_number NotDown = refl
at_number NotRecovered = refl
at_number Rig = refl
at_number Cut = refl

pub same_number : (c d : Cause) → eqb (number c) (number d) ≡ true → c ≡ d
same_number c d e = sym (at_number c) ∙ (ap (λ (n : ℕ). get_or all n Shut) (eqb-true (number c) (number d) e) ∙ at_number d)

pub off : {A : Type 0} → false ≡ true → A
off e = absurd (true≢false (sym e))

pub first-here : (m : State) (e : Event) (c : Cause) (cs : List Cause) → First m e c → IsFirstOf m e c (c ∷ cs)
first-here m e c cs f = (ap (λ (b : Bool). cond b true (has_cause c cs)) (eq-eqb (number c) (number c) refl), f)

cond-true : (b x : Bool) → x ≡ true → cond b true x ≡ true
cond-true true x e = refl
cond-true false x e = e

pub first-later : (m : State) (e : Event) (c d : Cause) (cs : List Cause) → IsFirstOf m e c cs → IsFirstOf m e c (d ∷ cs)
first-later m e c d cs h = (cond-true (eqb (number c) (number d)) (has_cause c cs) h.0, h.1)

pub none-first : (m : State) (e : Event) (d : Cause) (cs : List Cause) → (First m e d → ⊥) → NoneFirst m e cs → NoneFirst m e (d ∷ cs)
none-first m e d cs never rest c h = go (eqb (number c) (number d)) refl h.0
  where
    go : (b : Bool) → eqb (number c) (number d) ≡ b → cond b true (has_cause c cs) ≡ true → ⊥
    go true is has_it = never (subst (First m e) (same_number c d is) h.1)
    go false is has_it = rest c (has_it, h.1)

pub none-none : (m : State) (e : Event) → NoneFirst m e []
none-none m e c h = off h.0

pub first-more : (r : Option Cause) (m : State) (e : Event) (d : Cause) (cs : List Cause) → (First m e d → ⊥) → MatchOption r (NoneFirst m e cs) (λ c. IsFirstOf m e c cs) → MatchOption r (NoneFirst m e (d ∷ cs)) (λ c. IsFirstOf m e c (d ∷ cs))
first-more None m e d cs never h = none-first m e d cs never h
first-more (Some c) m e d cs never h = first-later m e c d cs h
