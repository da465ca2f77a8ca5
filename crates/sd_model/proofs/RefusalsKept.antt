-- Each refusal keeps the serial order.
use Rattle.std.proofs.Common.{◌≡◌, inl, inr, true, false, true≢false, None, Some, refl, sym, subst}
use Rattle.sd_model.specs.declared.act.Claim.TheVariants.{Excl}
use Rattle.sd_model.specs.declared.act.Life.{Life}
use Rattle.sd_model.specs.declared.act.Life.TheVariants.{Running}
use Rattle.sd_model.specs.declared.event.Event.{Event}
use Rattle.sd_model.specs.declared.event.Event.TheVariants.{Write, Add, Delete, Back, Join}
use Rattle.sd_model.specs.State.{State}
use Rattle.sd_model.specs.Fields.{txn_of, rid_of}
use Rattle.sd_model.specs.declared.cause.Cause.{Cause}
use Rattle.sd_model.specs.Causes.{has_cause, before, order}
use Rattle.sd_model.specs.declared.cause.Cause.TheVariants.{NoRecord, NotNumber, Over, Digits, Rig, Cut}
use Rattle.sd_model.specs.Applies.{PassesAll, First, Locked}
use Rattle.sd_model.specs.Refusing.{Refuses, found, counted}
use Rattle.sd_model.specs.Kept.{MayCommit, Kept}
use Rattle.sd_model.proofs.Kept.{fall-kept}
use Rattle.sd_model.proofs.Changes.{look-kept, inst-kept, cut-kept}

off : {A : Type 0} → false ≡ true → A
off e = absurd (true≢false (sym e))

found-kept : (m : State) (e : Event) → (Locked m (txn_of e) (rid_of e) Excl → ⊥) → Kept m → Kept (found e m)
found-kept m e free k = look-kept m (txn_of e) (rid_of e) _ (λ u ne clash. free (u, ne, clash)) refl k

no_record : (m : State) (e : Event) → has_cause NoRecord (order e) ≡ true → PassesAll m e (before NoRecord (order e)) → Locked m (txn_of e) (rid_of e) Excl → ⊥
no_record m (Write t r v) h c = c.1.1.1.1.1.0
no_record m (Add t r by) h c = c.1.1.1.1.0
no_record m (Delete t r) h c = c.1.1.1.1.0
no_record m (Back t None) h c = off h
no_record m (Back t (Some k)) h c = off h
no_record m e h c = off h

not_number : (m : State) (e : Event) → has_cause NotNumber (order e) ≡ true → PassesAll m e (before NotNumber (order e)) → Locked m (txn_of e) (rid_of e) Excl → ⊥
not_number m (Add t r by) h c = c.1.1.1.1.0
not_number m (Back t None) h c = off h
not_number m (Back t (Some k)) h c = off h
not_number m e h c = off h

over : (m : State) (e : Event) → has_cause Over (order e) ≡ true → PassesAll m e (before Over (order e)) → Locked m (txn_of e) (rid_of e) Excl → ⊥
over m (Write t r v) h c = c.1.1.1.1.1.0
over m (Add t r by) h c = c.1.1.1.1.0
over m (Back t None) h c = off h
over m (Back t (Some k)) h c = off h
over m e h c = off h

digits : (m : State) (e : Event) → has_cause Digits (order e) ≡ true → PassesAll m e (before Digits (order e)) → Locked m (txn_of e) (rid_of e) Excl → ⊥
digits m (Add t r by) h c = c.1.1.1.1.0
digits m (Back t None) h c = off h
digits m (Back t (Some k)) h c = off h
digits m e h c = off h

counted-kept : (e : Event) (m : State) → Kept m → Kept (counted e m)
counted-kept (Join i) m k = inst-kept m i _ k
counted-kept e m k = k

runs-may : (life : Life) → life ≡ Running → MayCommit life
runs-may life e = subst MayCommit (sym e) tt

pub refused-kept : (m : State) (e : Event) (c : Cause) (m' : State) → First m e c → Refuses m e c m' → Kept m → Kept m'
refused-kept m e NoRecord m' f h k = subst Kept (sym h) (found-kept m e (no_record m e f.0 f.1) k)
refused-kept m e NotNumber m' f h k = subst Kept (sym h) (found-kept m e (not_number m e f.0 f.1) k)
refused-kept m e Over m' f h k = subst Kept (sym h) (found-kept m e (over m e f.0 f.1) k)
refused-kept m e Digits m' f h k = subst Kept (sym h) (found-kept m e (digits m e f.0 f.1) k)
refused-kept m e Rig m' f (inl h) k = subst Kept (sym h) (counted-kept e m k)
refused-kept m e Rig m' f (inr h) k = subst Kept (sym h.2) (fall-kept h.0 (counted e m) (counted-kept e m k))
refused-kept m e Cut m' f h k = subst Kept (sym h.1) (cut-kept m (txn_of e) (runs-may _ h.0) k)
refused-kept m e c m' f h k = subst Kept (sym h) k
