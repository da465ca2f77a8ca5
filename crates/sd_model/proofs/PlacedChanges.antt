-- Each named change of a state keeps the transactions where they may stand.
use Rattle.std.proofs.Common.{◌≡◌, ◌⊎◌, inl, inr, ℕ, ◌+◌, Bool, cond, List, [], ◌∷◌, ◌++◌, Option, refl, sym, ap, ◌∙◌, subst}
use Rattle.sd_base.specs.declared.ids.TxnId.{TxnId}
use Rattle.sd_model.specs.declared.act.Inst.{Inst}
use Rattle.sd_model.specs.declared.act.Life.{Life}
use Rattle.sd_model.specs.declared.act.Life.TheVariants.{Gone, Running, Retained, Rolling, Doubt}
use Rattle.sd_model.specs.declared.act.Cut.TheVariants.{Committing}
use Rattle.sd_base.specs.Ids.{same_txn}
use Rattle.sd_base.specs.declared.place.Status.{Status}
use Rattle.sd_base.specs.declared.place.Status.TheVariants.{Up, Down, Recovering, Clean, Restarting, Closed}
use Rattle.sd_model.specs.State.{State, Part, gone, begun_part, put_part, put_inst, with_status, fall, closed, committed, cut_commit, began}
use Rattle.sd_model.specs.Changes.{commit_all}
use Rattle.sd_model.specs.Applies.{IsRecovering}
use Rattle.sd_model.specs.Lives.{MayRun, IsFallen, SuitsStatus, IsDoubt, LivesAreSound}
use Rattle.sd_model.proofs.Placed.{NotShut, each_inst, Becomes, parts-placed, put-placed, inst-placed, lost-closed, lost-doubt, IsClosed, fall-placed}
use Rattle.sd_base.proofs.SameIds.{each_txn, ne-same}

pub up-from : (s : Status) → ((s ≡ Up → ⊥) → ⊥) → MayRun s
up-from Up n = tt
up-from Down n = absurd (n (λ e. subst MayRun (sym e) tt))
up-from Clean n = absurd (n (λ e. subst MayRun (sym e) tt))
up-from Restarting n = absurd (n (λ e. subst MayRun (sym e) tt))
up-from Closed n = absurd (n (λ e. subst MayRun (sym e) tt))
up-from (Recovering by) n = absurd (n (λ e. subst MayRun (sym e) tt))

pub runs-up : (m : State) (t : TxnId) → LivesAreSound m → (m.part t).life ≡ Running → MayRun (m.inst t.inst).status
runs-up m t p e = subst (λ (l : Life). SuitsStatus l (m.inst t.inst).status) e (p.stands t)

pub rolls-up : (m : State) (t : TxnId) (to : Option ℕ) → LivesAreSound m → (m.part t).life ≡ Rolling to → MayRun (m.inst t.inst).status
rolls-up m t to p e = subst (λ (l : Life). SuitsStatus l (m.inst t.inst).status) e (p.stands t)

-- an instance that keeps its status
pub same-placed : (m : State) (i : ℕ) (x : Inst) → NotShut m → x.status ≡ (m.inst i).status → LivesAreSound m → LivesAreSound (put_inst i x m)
same-placed m i x never e p = inst-placed m i x never (λ c. never (p.shut i (sym e ∙ c)))
    (λ t same. subst (SuitsStatus (m.part t).life) (sym e) (subst (λ (n : ℕ). SuitsStatus (m.part t).life (m.inst n).status) (sym same) (p.stands t))) p

pub began-placed : (m : State) (i : ℕ) (x : TxnId) → NotShut m → x.inst ≡ i → MayRun (m.inst i).status → LivesAreSound m → LivesAreSound (began i x m)
began-placed m i x never e up p =
    let y : Inst = record (m.inst i) { begins = (m.inst i).begins + 1 } in
    let m0 = record m { begun = m.begun ++ x ∷ [] } in
    put-placed (put_inst i y m0) x begun_part
    (inr (each_inst i (λ j (z : Inst). j ≡ i → MayRun z.status) y m.inst (λ _. up) (λ j ne same. absurd (ne (sym same))) x.inst e, λ d. d))
    (same-placed m0 i y never refl (parts-placed m m0 refl (λ t. inl refl) p))

pub committed-placed : (m : State) (t : TxnId) → LivesAreSound m → LivesAreSound (committed t m)
committed-placed m t p = parts-placed m (committed t m) refl (each_txn t (λ u (x : Part). Becomes (m.part u).life x.life (m.inst u.inst).status) gone m.part (inr (tt, λ d. d)) (λ u ne. inl refl)) p

pub commit_all-placed : (kept : List TxnId) (m : State) → LivesAreSound m → LivesAreSound (commit_all kept m)
commit_all-placed [] m p = p
commit_all-placed (t ∷ ts) m p = commit_all-placed ts (committed t m) (committed-placed m t p)

pub closed-placed : (m : State) → LivesAreSound m → LivesAreSound (closed m)
closed-placed m p = record {
  stands = λ t. lost-closed (m.part t).life;
  one = λ t u x y. p.one t u (lost-doubt (m.part t).life x) (lost-doubt (m.part u).life y);
  shut = λ i c. refl;
}

pub fails-placed : (i : ℕ) (m : State) → NotShut m → LivesAreSound m → LivesAreSound (fall i m)
fails-placed i m never p = fall-placed i m never (λ t ne. p.stands t) p.one p.shut

up_not_fallen : (s : Status) → MayRun s → IsFallen s → ⊥
up_not_fallen Up u f = f
up_not_fallen Down u f = u
up_not_fallen Clean u f = u
up_not_fallen Restarting u f = u
up_not_fallen Closed u f = u
up_not_fallen (Recovering by) u f = u

-- no other one of an instance that is up is in doubt
no_doubt : (l : Life) (s : Status) → MayRun s → IsDoubt l → SuitsStatus l s → ⊥
no_doubt Gone s u d h = d
no_doubt Running s u d h = d
no_doubt Retained s u d h = d
no_doubt (Doubt cut) s u d h = up_not_fallen s u h
no_doubt (Rolling to) s u d h = d

pub cut-placed : (m : State) (t : TxnId) → NotShut m → (m.part t).life ≡ Running → LivesAreSound m → LivesAreSound (cut_commit t m)
cut-placed m t never runs p =
    let q : Part = record (m.part t) { life = Doubt Committing; marks = [] } in
    let m0 = record m { cuts = m.cuts ++ t ∷ [] } in
    let up = runs-up m t p runs in
    let lone : (v : TxnId) → IsDoubt (m.part v).life → t.inst ≡ v.inst → ⊥ = λ v d e. no_doubt (m.part v).life (m.inst v.inst).status (subst (λ (n : ℕ). MayRun (m.inst n).status) e up) d (p.stands v) in
    fall-placed t.inst (put_part t q m0) never
    (λ u ne. subst (λ (b : Bool). SuitsStatus (cond b q (m.part u)).life (m.inst u.inst).status) (sym (ne-same t u (λ (e : t ≡ u). ne (ap (λ (x : TxnId). x.inst) e)))) (p.stands u))
    (each_txn t (λ u (x : Part). (v : TxnId) → IsDoubt x.life → IsDoubt (cond (same_txn t v) q (m.part v)).life → u.inst ≡ v.inst → u ≡ v) q m.part
    (each_txn t (λ v (y : Part). IsDoubt q.life → IsDoubt y.life → t.inst ≡ v.inst → t ≡ v) q m.part (λ _ _ _. refl) (λ v ne _ d e. absurd (lone v d e)))
    (λ u ne. each_txn t (λ v (y : Part). IsDoubt (m.part u).life → IsDoubt y.life → u.inst ≡ v.inst → u ≡ v) q m.part (λ d _ e. absurd (lone u d (sym e))) (λ v _. p.one u v)))
    p.shut

down-recovering : (l : Life) (s : Status) (by : ℕ) → ((s ≡ Down → ⊥) → ⊥) → SuitsStatus l s → SuitsStatus l (Recovering by)
down-recovering Gone s by n h = tt
down-recovering Retained s by n h = tt
down-recovering (Doubt cut) s by n h = tt
down-recovering Running s by n h = absurd (n (λ e. subst MayRun e h))
down-recovering (Rolling to) s by n h = absurd (n (λ e. subst MayRun e h))

pub recovering-placed : (m : State) (i by : ℕ) → NotShut m → (((m.inst i).status ≡ Down → ⊥) → ⊥) → LivesAreSound m → LivesAreSound (put_inst i (with_status (Recovering by) (m.inst i)) m)
recovering-placed m i by never n p = inst-placed m i (with_status (Recovering by) (m.inst i)) never (λ e. subst IsClosed (sym e) tt)
    (λ t e. down-recovering (m.part t).life (m.inst t.inst).status by (subst (λ (k : ℕ). ((m.inst k).status ≡ Down → ⊥) → ⊥) e n) (p.stands t)) p

-- nothing stands at an instance that is neither up nor fallen
idle : (l : Life) (s : Status) → (MayRun s → ⊥) → (IsFallen s → ⊥) → SuitsStatus l s → SuitsStatus l Up
idle Gone s a b h = tt
idle Running s a b h = absurd (a h)
idle Retained s a b h = absurd (b h)
idle (Doubt cut) s a b h = absurd (b h)
idle (Rolling to) s a b h = absurd (a h)

join-stands : (l : Life) (s : Status) → (s ≡ Closed → ⊥) → (s ≡ Up → ⊥) → ((s ≡ Down) ⊎ IsRecovering s → ⊥) → SuitsStatus l s → SuitsStatus l Up
join-stands l Up a b c h = absurd (b refl)
join-stands l Down a b c h = absurd (c (inl refl))
join-stands l Clean a b c h = idle l Clean (λ x. x) (λ x. x) h
join-stands l Restarting a b c h = idle l Restarting (λ x. x) (λ x. x) h
join-stands l Closed a b c h = absurd (a refl)
join-stands l (Recovering by) a b c h = absurd (c (inr (by, refl)))

pub joined-placed : (m : State) (i : ℕ) (x : Inst) → NotShut m → x.status ≡ Up → ((m.inst i).status ≡ Up → ⊥) → (((m.inst i).status ≡ Down) ⊎ IsRecovering (m.inst i).status → ⊥) → LivesAreSound m → LivesAreSound (put_inst i x m)
joined-placed m i x never up b c p = inst-placed m i x never (λ e. subst MayRun (sym (sym e ∙ up)) tt)
    (λ t e. subst (SuitsStatus (m.part t).life) (sym up) (join-stands (m.part t).life (m.inst i).status (λ k. never (p.shut i k)) b c (subst (λ (n : ℕ). SuitsStatus (m.part t).life (m.inst n).status) (sym e) (p.stands t)))) p
