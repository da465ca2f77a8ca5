-- Each change keeps the transactions where their instances let them stand.
use Rattle.std.proofs.Common.{◌≡◌, ◌≢◌, ◌⊎◌, inl, inr, ⊎_elim, ℕ, Bool, true, false, cond, eqb, refl, sym, subst, eq-eqb, ne_eqb}
use Rattle.std.proofs.lemmas.Bool.{cases_eq}
use Rattle.sd_base.specs.declared.ids.TxnId.{TxnId}
use Rattle.sd_model.specs.declared.act.Inst.{Inst}
use Rattle.sd_model.specs.declared.act.Life.{Life}
use Rattle.sd_model.specs.declared.act.Life.TheVariants.{Gone, Running, Retained, Rolling, Doubt}
use Rattle.sd_base.specs.declared.place.Status.{Status}
use Rattle.sd_base.specs.declared.place.Status.TheVariants.{Up, Down, Recovering, Clean, Restarting, Closed}
use Rattle.sd_model.specs.State.{State, Part, put_part, put_inst, freed, fall, lost, lost_part}
use Rattle.sd_model.specs.Lives.{MayRun, IsFallen, SuitsStatus, IsDoubt, LivesAreSound}
use Rattle.sd_base.proofs.SameIds.{each_txn}

abbrev pub NotShut : State → Type 0
NotShut m = (m.inst 1).status ≡ Closed → ⊥

-- a function that is changed at one number
pub each_inst : (i : ℕ) {X : Type 0} (P : ℕ → X → Type 0) (x : X) (f : ℕ → X) → P i x → ((j : ℕ) → i ≢ j → P j (f j)) → (j : ℕ) → P j (cond (eqb i j) x (f j))
each_inst i P x f here others j = ⊎_elim
    (λ e. subst (λ (b : Bool). P j (cond b x (f j))) (sym (eq-eqb i j e)) (subst (λ (n : ℕ). P n x) e here))
    (λ ne. let k : eqb i j ≡ false = ne_eqb i j ne in subst (λ (b : Bool). P j (cond b x (f j))) (sym k) (others j ne))
    (cases_eq i j)

-- the statuses are the same, and each part stands where it stood, or anew and not in doubt
abbrev pub Becomes : Life → Life → Status → Type 0
Becomes old new s = (new ≡ old) ⊎ (SuitsStatus new s × (IsDoubt new → ⊥))

becomes-stands : (old new : Life) (s : Status) → Becomes old new s → SuitsStatus old s → SuitsStatus new s
becomes-stands old new s (inl e) h = subst (λ (l : Life). SuitsStatus l s) (sym e) h
becomes-stands old new s (inr b) h = b.0

becomes-doubt : (old new : Life) (s : Status) → Becomes old new s → IsDoubt new → IsDoubt old
becomes-doubt old new s (inl e) d = subst IsDoubt e d
becomes-doubt old new s (inr b) d = absurd (b.1 d)

pub parts-placed : (m m' : State) → m'.inst ≡ m.inst → ((t : TxnId) → Becomes (m.part t).life (m'.part t).life (m.inst t.inst).status) → LivesAreSound m → LivesAreSound m'
parts-placed m m' same b p = record {
  stands = λ t. subst (λ (f : ℕ → Inst). SuitsStatus (m'.part t).life (f t.inst).status) (sym same) (becomes-stands (m.part t).life (m'.part t).life (m.inst t.inst).status (b t) (p.stands t));
  one = λ t u x y. p.one t u (becomes-doubt (m.part t).life (m'.part t).life (m.inst t.inst).status (b t) x) (becomes-doubt (m.part u).life (m'.part u).life (m.inst u.inst).status (b u) y);
  shut = subst (λ (f : ℕ → Inst). (i : ℕ) → (f i).status ≡ Closed → (f 1).status ≡ Closed) (sym same) p.shut;
}

pub put-placed : (m : State) (t : TxnId) (q : Part) → Becomes (m.part t).life q.life (m.inst t.inst).status → LivesAreSound m → LivesAreSound (put_part t q m)
put-placed m t q b p = parts-placed m (put_part t q m) refl (each_txn t (λ u (x : Part). Becomes (m.part u).life x.life (m.inst u.inst).status) q m.part b (λ u ne. inl refl)) p

-- an instance gets a status at which its transactions may stand
pub inst-placed : (m : State) (i : ℕ) (x : Inst) → NotShut m → (x.status ≡ Closed → ⊥) → ((t : TxnId) → i ≡ t.inst → SuitsStatus (m.part t).life x.status) → LivesAreSound m → LivesAreSound (put_inst i x m)
inst-placed m i x never opened h p = record {
  stands = λ t. each_inst i (λ j (y : Inst). j ≡ t.inst → SuitsStatus (m.part t).life y.status) x m.inst (h t) (λ j ne e. subst (λ (n : ℕ). SuitsStatus (m.part t).life (m.inst n).status) (sym e) (p.stands t)) t.inst refl;
  one = p.one;
  shut = λ j c. absurd (each_inst i (λ k (y : Inst). y.status ≡ Closed → ⊥) x m.inst opened (λ k ne e. never (p.shut k e)) j c);
}

lost-stands : (l : Life) → SuitsStatus (lost l) Down
lost-stands Gone = tt
lost-stands Running = tt
lost-stands Retained = tt
lost-stands (Doubt cut) = tt
lost-stands (Rolling to) = tt

pub lost-closed : (l : Life) → SuitsStatus (lost l) Closed
lost-closed Gone = tt
lost-closed Running = tt
lost-closed Retained = tt
lost-closed (Doubt cut) = tt
lost-closed (Rolling to) = tt

pub lost-doubt : (l : Life) → IsDoubt (lost l) → IsDoubt l
lost-doubt Gone d = d
lost-doubt Running d = d
lost-doubt Retained d = d
lost-doubt (Doubt cut) d = d
lost-doubt (Rolling to) d = d

freed-up : (i : ℕ) (s : Status) → MayRun s → MayRun (freed i s)
freed-up i Up u = tt
freed-up i Down u = absurd u
freed-up i Clean u = absurd u
freed-up i Restarting u = absurd u
freed-up i Closed u = absurd u
freed-up i (Recovering by) u = absurd u

fallen_go : (b : Bool) (by : ℕ) → IsFallen (cond b Down (Recovering by))
fallen_go true by = tt
fallen_go false by = tt

freed-fallen : (i : ℕ) (s : Status) → IsFallen s → IsFallen (freed i s)
freed-fallen i Up u = absurd u
freed-fallen i Down u = tt
freed-fallen i Clean u = absurd u
freed-fallen i Restarting u = absurd u
freed-fallen i Closed u = tt
freed-fallen i (Recovering by) u = fallen_go (eqb i by) by

freed-stands : (i : ℕ) (l : Life) (s : Status) → SuitsStatus l s → SuitsStatus l (freed i s)
freed-stands i Gone s h = tt
freed-stands i Running s h = freed-up i s h
freed-stands i Retained s h = freed-fallen i s h
freed-stands i (Doubt cut) s h = freed-fallen i s h
freed-stands i (Rolling to) s h = freed-up i s h

abbrev pub IsClosed : Status → Type 0
IsClosed Up = ⊥
IsClosed Down = ⊥
IsClosed Clean = ⊥
IsClosed Restarting = ⊥
IsClosed Closed = Unit {0}
IsClosed (Recovering by) = ⊥

closed_go : (b : Bool) (by : ℕ) → IsClosed (cond b Down (Recovering by)) → ⊥
closed_go true by c = c
closed_go false by c = c

freed-closed : (i : ℕ) (s : Status) → IsClosed (freed i s) → s ≡ Closed
freed-closed i Up c = absurd c
freed-closed i Down c = absurd c
freed-closed i Clean c = absurd c
freed-closed i Restarting c = absurd c
freed-closed i Closed c = refl
freed-closed i (Recovering by) c = absurd (closed_go (eqb i by) by c)

cond-doubt : (b : Bool) (q : Part) → IsDoubt (cond b (lost_part q) q).life → IsDoubt q.life
cond-doubt true q d = lost-doubt q.life d
cond-doubt false q d = d

-- a fall, where the other instances' transactions stand
pub fall-placed : (i : ℕ) (m : State) → NotShut m
    → ((t : TxnId) → i ≢ t.inst → SuitsStatus (m.part t).life (m.inst t.inst).status)
    → ((t u : TxnId) → IsDoubt (m.part t).life → IsDoubt (m.part u).life → t.inst ≡ u.inst → t ≡ u)
    → ((j : ℕ) → (m.inst j).status ≡ Closed → (m.inst 1).status ≡ Closed)
    → LivesAreSound (fall i m)
fall-placed i m never stands one shut = record {
  stands = λ t. ⊎_elim
      (λ e. subst (λ (b : Bool). SuitsStatus (cond b (lost_part (m.part t)) (m.part t)).life (cond b Down (freed i (m.inst t.inst).status))) (sym (eq-eqb i t.inst e)) (lost-stands (m.part t).life))
      (λ ne. let k : eqb i t.inst ≡ false = ne_eqb i t.inst ne in subst (λ (b : Bool). SuitsStatus (cond b (lost_part (m.part t)) (m.part t)).life (cond b Down (freed i (m.inst t.inst).status))) (sym k) (freed-stands i (m.part t).life (m.inst t.inst).status (stands t ne)))
      (cases_eq i t.inst);
  one = λ t u x y. one t u (cond-doubt (eqb i t.inst) (m.part t) x) (cond-doubt (eqb i u.inst) (m.part u) y);
  shut = λ j c. absurd (each_inst i (λ k (s : Status). IsClosed s → ⊥) Down (λ k. freed i (m.inst k).status) (λ x. x) (λ k ne x. never (shut k (freed-closed i (m.inst k).status x))) j (subst IsClosed (sym c) tt));
}
