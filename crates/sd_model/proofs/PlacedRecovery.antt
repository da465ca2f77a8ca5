-- Recovery and reopening keep the transactions where they may stand.
use Rattle.std.proofs.Common.{◌≡◌, ◌⊎◌, inl, inr, ⊎_elim, ℕ, Bool, true, false, cond, eqb, List, [], ◌∷◌, ◌++◌, refl, sym, ◌∙◌, subst, eq-eqb, ne_eqb}
use Rattle.std.proofs.lemmas.Bool.{cases_eq}
use Rattle.sd_base.specs.declared.ids.TxnId.{TxnId}
use Rattle.sd_model.specs.declared.act.Inst.{Inst}
use Rattle.sd_model.specs.declared.act.Life.{Life}
use Rattle.sd_model.specs.declared.act.Life.TheVariants.{Gone, Running, Retained, Rolling, Doubt}
use Rattle.sd_base.specs.Ids.{same_txn}
use Rattle.sd_base.specs.declared.place.Status.{Status}
use Rattle.sd_base.specs.declared.place.Status.TheVariants.{Up, Down, Recovering, Clean, Restarting, Closed}
use Rattle.sd_model.specs.State.{State, Part, gone, with_status}
use Rattle.sd_model.specs.Changes.{commit_all, is_swept, swept_part, after_recovery, swept, Recovered, IsLoser, Left}
use Rattle.sd_model.specs.Applies.{IsRecovering}
use Rattle.sd_model.specs.Lives.{MayRun, IsFallen, SuitsStatus, IsDoubt, LivesAreSound}
use Rattle.sd_model.proofs.Placed.{NotShut, each_inst, IsClosed}
use Rattle.sd_model.proofs.PlacedChanges.{commit_all-placed}

-- while an instance is recovered, only losers and doubtful ones stand there, and they are swept
swept_go : (p : Part) (l : Life) (by : ℕ) (s : Status) → SuitsStatus l (Recovering by) → SuitsStatus (cond (is_swept l) gone p).life s
swept_go p Gone by s h = tt
swept_go p Running by s h = absurd h
swept_go p Retained by s h = tt
swept_go p (Doubt cut) by s h = tt
swept_go p (Rolling to) by s h = absurd h

swept-doubt : (p : Part) (b c : Bool) → IsDoubt (cond c (cond b gone p) p).life → IsDoubt p.life
swept-doubt p b false d = d
swept-doubt p true true d = absurd d
swept-doubt p false true d = d

recovered_open : (i : ℕ) (s : Status) → after_recovery i s ≡ Closed → ⊥
recovered_open i Up e = subst IsClosed (sym e) tt
recovered_open i Down e = subst IsClosed (sym e) tt
recovered_open i Clean e = subst IsClosed (sym e) tt
recovered_open i Restarting e = subst IsClosed (sym e) tt
recovered_open i Closed e = subst IsClosed (sym e) tt
recovered_open i (Recovering by) e = go (eqb i by) (subst IsClosed (sym e) tt)
  where
    go : (b : Bool) → IsClosed (cond b Restarting Clean) → ⊥
    go true c = c
    go false c = c

stands-at : (l : Life) (s : Status) → ((IsRecovering s → ⊥) → ⊥) → SuitsStatus l s → SuitsStatus l (Recovering 0)
stands-at Gone s n h = tt
stands-at Retained s n h = tt
stands-at (Doubt cut) s n h = tt
stands-at Running s n h = n (λ (r : IsRecovering s). subst MayRun r.1 h)
stands-at (Rolling to) s n h = n (λ (r : IsRecovering s). subst MayRun r.1 h)

pub swept-placed : (i : ℕ) (m : State) → NotShut m → ((IsRecovering (m.inst i).status → ⊥) → ⊥) → LivesAreSound m → LivesAreSound (swept i m)
swept-placed i m never rec p = record {
  stands = λ t. ⊎_elim
      (λ e. subst (λ (b : Bool). SuitsStatus (cond b (swept_part (m.part t)) (m.part t)).life (cond b y (m.inst t.inst)).status) (sym (eq-eqb i t.inst e))
      (swept_go (m.part t) (m.part t).life 0 y.status (stands-at (m.part t).life (m.inst i).status rec (subst (λ (n : ℕ). SuitsStatus (m.part t).life (m.inst n).status) (sym e) (p.stands t)))))
      (λ ne. let k : eqb i t.inst ≡ false = ne_eqb i t.inst ne in subst (λ (b : Bool). SuitsStatus (cond b (swept_part (m.part t)) (m.part t)).life (cond b y (m.inst t.inst)).status) (sym k) (p.stands t))
      (cases_eq i t.inst);
  one = λ t u a b. p.one t u (swept-doubt (m.part t) (is_swept (m.part t).life) (eqb i t.inst) a) (swept-doubt (m.part u) (is_swept (m.part u).life) (eqb i u.inst) b);
  shut = λ j c. absurd (each_inst i (λ k (z : Inst). z.status ≡ Closed → ⊥) y m.inst (recovered_open i (m.inst i).status) (λ k ne e. never (p.shut k e)) j c);
}
  where
    y : Inst
    y = with_status (after_recovery i (m.inst i).status) (m.inst i)

pub commit_all-inst : (kept : List TxnId) (m : State) → (commit_all kept m).inst ≡ m.inst
commit_all-inst [] m = refl
commit_all-inst (t ∷ ts) m = commit_all-inst ts (record m { done = m.done ++ record { txn = t; acts = (m.part t).acts } ∷ []; part = λ u. cond (same_txn t u) gone (m.part u) })

pub recovered-placed : (i : ℕ) (m m' : State) → NotShut m → ((IsRecovering (m.inst i).status → ⊥) → ⊥) → Recovered i m m' → LivesAreSound m → LivesAreSound m'
recovered-placed i m m' never rec r p =
    let m1 = commit_all r.0 m in
    let same = commit_all-inst r.0 m in
    subst LivesAreSound (sym r.4) (swept-placed i m1 (subst (λ (f : ℕ → Inst). (f 1).status ≡ Closed → ⊥) (sym same) never)
    (subst (λ (f : ℕ → Inst). (IsRecovering (f i).status → ⊥) → ⊥) (sym same) rec) (commit_all-placed r.0 m p))

left-doubt : (old new : Part) → (new ≡ gone) ⊎ IsLoser old new → IsDoubt new.life → ⊥
left-doubt old new (inl e) d = subst (λ (p : Part). IsDoubt p.life) e d
left-doubt old new (inr h) d = subst IsDoubt h.life d

left-stands : (old new : Part) (s : Status) → (new.life ≡ Retained → s ≡ Down) → (new ≡ gone) ⊎ IsLoser old new → SuitsStatus new.life s
left-stands old new s down (inl e) = subst (λ (p : Part). SuitsStatus p.life s) (sym e) tt
left-stands old new s down (inr h) = subst (λ (l : Life). SuitsStatus l s) (sym h.life) (subst IsFallen (sym (down h.life)) tt)

pub left-placed : (m m' : State) → Left m m' → LivesAreSound m'
left-placed m m' l = record {
  stands = λ t. left-stands (m.part t) (m'.part t) (m'.inst t.inst).status (λ e. l.down t.inst (t, refl, e)) (l.part t);
  one = λ t u x. absurd (left-doubt (m.part t) (m'.part t) (l.part t) x);
  shut = λ i c. absurd (⊎_elim (λ e. subst IsClosed (sym c ∙ other i c ∙ e) tt) (λ e. subst IsClosed (sym c ∙ other i c ∙ e) tt) l.others.1);
}
  where
    other : (i : ℕ) → (m'.inst i).status ≡ Closed → (m'.inst i).status ≡ l.others.0
    other i c = l.others.2 i (λ has_one. subst IsClosed (sym c ∙ l.down i has_one) tt)
