-- Each step keeps the transactions where they may stand. It serves the goals of `whereabouts` in laws.rt.
use Rattle.std.proofs.Common.{◌≡◌, inl, inr, ⊎_elim, ℕ, ◌+◌, Bool, true, false, true≢false, cond, eqb, List, [], ◌∷◌, Option, None, Some, refl, sym, ap, subst}
use Rattle.sd_base.specs.declared.ids.TxnId.{TxnId}
use Rattle.sd_model.specs.declared.act.Life.TheVariants.{Rolling}
use Rattle.sd_model.specs.declared.event.Entry.{Entry}
use Rattle.sd_base.specs.declared.place.Status.TheVariants.{Closed}
use Rattle.sd_model.specs.declared.event.Event.{Event}
use Rattle.sd_model.specs.declared.event.Event.TheVariants.{Begin, Read, Write, Add, Insert, Delete, Save, Back, Undo, Commit, List as Listing, Ask, Give, Take, Evict, Flush, Force, CheckBegin, CheckEnd, Fail, FailAll, RecoverBegin, RecoverStep, Join, Reopen, Arm, Show}
use Rattle.sd_model.specs.declared.event.Reply.{Reply}
use Rattle.sd_model.specs.declared.event.Reply.TheVariants.{Began, Value, Did, At, Rows, Have, Asked, Gave, Step as Stepped, Finished, Joined, Shown, Refused}
use Rattle.sd_model.specs.State.{State, Part, gone, put_part}
use Rattle.sd_model.specs.declared.cause.Cause.{Cause}
use Rattle.sd_model.specs.Causes.{has_cause, before, order}
use Rattle.sd_model.specs.declared.cause.Cause.TheVariants.{NoRecord, NotNumber, Over, Digits, Rig, Cut}
use Rattle.sd_model.specs.Applies.{PassesAll, First, Clear}
use Rattle.sd_model.specs.Refusing.{Refuses, MayFall, counted}
use Rattle.sd_model.specs.Changes.{commit_all}
use Rattle.sd_model.specs.Step.{Row, Step}
use Rattle.sd_model.specs.Run.{Run}
use Rattle.sd_model.specs.Lives.{SuitsStatus, IsDoubt, LivesAreSound}
use Rattle.sd_model.proofs.Placed.{NotShut, put-placed}
use Rattle.sd_model.proofs.PlacedChanges.{up-from, runs-up, rolls-up, same-placed, began-placed, committed-placed, closed-placed, fails-placed, cut-placed, recovering-placed, joined-placed}
use Rattle.sd_model.proofs.PlacedRecovery.{recovered-placed, left-placed}

-- the same life with other acts, marks or claims
same-life : (m : State) (t : TxnId) (q : Part) → q.life ≡ (m.part t).life → LivesAreSound m → LivesAreSound (put_part t q m)
same-life m t q e p = put-placed m t q (inl e) p

moves : (m : State) (t : TxnId) (q : Part) → SuitsStatus q.life (m.inst t.inst).status → (IsDoubt q.life → ⊥) → LivesAreSound m → LivesAreSound (put_part t q m)
moves m t q s d p = put-placed m t q (inr (s, d)) p

pub row-placed : (m : State) (e : Event) (reply : Reply) (m' : State) → Clear m e → Row m e reply m' → LivesAreSound m → LivesAreSound m'
row-placed m (Begin i) (Began x) m' c h p = subst LivesAreSound (sym h.1) (began-placed m i x c.0 (ap (λ (t : TxnId). t.inst) h.0) (up-from _ c.1.0) p)
row-placed m (Read t r) (Value v) m' c h p = subst LivesAreSound (sym h.2) (same-life m t _ refl p)
row-placed m (Write t r new) Did m' c h p = subst LivesAreSound (sym h.3) (same-life m t _ refl p)
row-placed m (Add t r by) Did m' c h p = subst LivesAreSound (sym h.5) (same-life m t _ refl p)
row-placed m (Delete t r) Did m' c h p = subst LivesAreSound (sym h.3) (same-life m t _ refl p)
row-placed m (Insert t q new capacity) (At r) m' c h p = subst LivesAreSound (sym h.4) (same-life m t _ refl p)
row-placed m (Save t name) Did m' c h p = subst LivesAreSound (sym h.1) (same-life m t _ refl p)
row-placed m (Back t (Some name)) Did m' c h p = subst LivesAreSound (sym h.3) (moves m t _ (runs-up m t p h.1) (λ d. d) p)
row-placed m (Back t None) Did m' c h p = subst LivesAreSound (sym h.1) (moves m t _ (⊎_elim (runs-up m t p) (λ (x : (to : Option ℕ) × ((m.part t).life ≡ Rolling to)). rolls-up m t x.0 p x.1) h.0) (λ d. d) p)
row-placed m (Undo t) Stepped m' c h p = subst LivesAreSound (sym h.3) (same-life m t _ refl p)
row-placed m (Undo t) Finished m' c (inl h) p = subst LivesAreSound (sym h.1) p
row-placed m (Undo t) Finished m' c (inr (inl h)) p = subst LivesAreSound (sym h.3) (moves m t _ (rolls-up m t (Some h.0) p h.1) (λ d. d) p)
row-placed m (Undo t) Finished m' c (inr (inr h)) p = subst LivesAreSound (sym h.2) (moves m t gone tt (λ d. d) p)
row-placed m (Commit t) Did m' c h p = subst LivesAreSound (sym h.1) (committed-placed m t p)
row-placed m (Listing i q) (Rows rows) m' c h p = subst LivesAreSound (sym h.1) p
row-placed m (Fail i) Did m' c h p = subst LivesAreSound (sym h) (fails-placed i m c.0 p)
row-placed m (FailAll pick) Did m' c h p = subst LivesAreSound (sym h) (closed-placed m p)
row-placed m Reopen Did m' c h p = left-placed (commit_all h.0 m) m' h.2
row-placed m (RecoverBegin i by) Did m' c h p = subst LivesAreSound (sym h) (recovering-placed m i by c.0 c.1.0 p)
row-placed m (RecoverStep i) Stepped m' c h p = subst LivesAreSound (sym h) p
row-placed m (RecoverStep i) Finished m' c h p = recovered-placed i m m' c.0 c.1.0 h p
row-placed m (Join i) (Joined epoch) m' c h p = subst LivesAreSound (sym h.2) (joined-placed m i _ c.0 refl c.1.0 c.1.1.0 p)
row-placed m (Ask i q mode) Have m' c h p = subst LivesAreSound (sym h) p
row-placed m (Ask i q mode) (Asked of) m' c h p = subst LivesAreSound (sym h) p
row-placed m (Give i q) (Gave to) m' c h p = subst LivesAreSound (sym h) p
row-placed m (Take i q) Did m' c h p = subst LivesAreSound (sym h) p
row-placed m (Evict i q) Did m' c h p = subst LivesAreSound (sym h) p
row-placed m (Flush i q) Did m' c h p = subst LivesAreSound (sym h) p
row-placed m (Force i) Did m' c h p = subst LivesAreSound (sym h) p
row-placed m (CheckBegin i) Did m' c h p = subst LivesAreSound (sym h) p
row-placed m (CheckEnd i) Did m' c h p = subst LivesAreSound (sym h) p
row-placed m (Show q) (Shown place lsn) m' c h p = subst LivesAreSound (sym h) p
row-placed m (Arm trouble) Did m' c h p = subst LivesAreSound (sym h) p
row-placed m e reply m' c h p = absurd h

off : {A : Type 0} → false ≡ true → A
off e = absurd (true≢false (sym e))

-- where a failure may take an instance down, the complex isn't closed
rig_open : (m : State) (e : Event) (j : ℕ) → has_cause Rig (order e) ≡ true → MayFall m e j → PassesAll m e (before Rig (order e)) → NotShut m
rig_open m (Undo t) j h f c = c.0
rig_open m (Give i q) j h f c = c.0
rig_open m (Flush i q) j h f c = c.0
rig_open m (Force i) j h f c = c.0
rig_open m (CheckEnd i) j h f c = c.0
rig_open m (RecoverStep i) j h f c = c.0
rig_open m (Join i) j h f c = c.0
rig_open m (Ask i q mode) j h f c = absurd f
rig_open m Reopen j h f c = absurd f
rig_open m (Back t None) j h f c = off h
rig_open m (Back t (Some k)) j h f c = off h
rig_open m e j h f c = off h

cut_open : (m : State) (e : Event) → has_cause Cut (order e) ≡ true → PassesAll m e (before Cut (order e)) → NotShut m
cut_open m (Commit t) h c = c.0
cut_open m (Back t None) h c = off h
cut_open m (Back t (Some k)) h c = off h
cut_open m e h c = off h

-- counting a Join that failed changes no status; before Rig, Shut has passed
counted-placed : (e : Event) (m : State) → has_cause Rig (order e) ≡ true → PassesAll m e (before Rig (order e)) → LivesAreSound m → LivesAreSound (counted e m)
counted-placed (Join i) m h c p = same-placed m i _ c.0 refl p
counted-placed e m h c p = p

pub refused-placed : (m : State) (e : Event) (c : Cause) (m' : State) → First m e c → Refuses m e c m' → LivesAreSound m → LivesAreSound m'
refused-placed m e NoRecord m' f h p = subst LivesAreSound (sym h) (same-life m _ _ refl p)
refused-placed m e NotNumber m' f h p = subst LivesAreSound (sym h) (same-life m _ _ refl p)
refused-placed m e Over m' f h p = subst LivesAreSound (sym h) (same-life m _ _ refl p)
refused-placed m e Digits m' f h p = subst LivesAreSound (sym h) (same-life m _ _ refl p)
refused-placed m e Rig m' f (inl h) p = subst LivesAreSound (sym h) (counted-placed e m f.0 f.1 p)
refused-placed m e Rig m' f (inr h) p = subst LivesAreSound (sym h.2) (fails-placed h.0 (counted e m) (counted_open e (rig_open m e h.0 f.0 h.1 f.1)) (counted-placed e m f.0 f.1 p))
  where
    counted_open : (d : Event) → NotShut m → NotShut (counted d m)
    counted_open (Join i) never k = never (join_go (eqb i 1) k)
      where
        join_go : (b : Bool) → (cond b (record (m.inst i) { failed = (m.inst i).failed + 1 }) (m.inst 1)).status ≡ Closed → (m.inst 1).status ≡ Closed
        join_go true e1 = p.shut i e1
        join_go false e1 = e1
    counted_open d never k = never k
refused-placed m e Cut m' f h p = subst LivesAreSound (sym h.1) (cut-placed m _ (cut_open m e f.0 f.1) h.0 p)
refused-placed m e c m' f h p = subst LivesAreSound (sym h) p

pub step-placed : (m : State) (e : Event) (reply : Reply) (m' : State) → Step m e reply m' → LivesAreSound m → LivesAreSound m'
step-placed m e (Refused n) m' h p = refused-placed m e h.0 m' h.3 h.4 p
step-placed m e reply m' h p = row-placed m e reply m' h.0 h.1 p

pub run-placed : (es : List Entry) (m m' : State) → Run m es m' → LivesAreSound m → LivesAreSound m'
run-placed [] m m' r p = subst LivesAreSound r p
run-placed (e ∷ es) m m' r p = run-placed es r.0 m' r.2 (step-placed m e.event e.reply r.0 r.1 p)
