-- Four kinds of changes of which each step is made; what they keep, each step keeps, and each run.
use Rattle.std.proofs.Common.{◌≡◌, ◌≢◌, ◌⊎◌, inl, inr, ⊎_elim, ℕ, ◌<◌, ◌≤◌, Bool, true, false, cond, eqb, [], ◌∷◌, ◌++◌, Option, refl, sym, ◌∙◌, subst, arith}
use Rattle.sd_base.specs.declared.ids.TxnId.{TxnId}
use Rattle.sd_base.specs.declared.place.Status.{Status}
use Rattle.sd_base.specs.declared.place.Status.TheVariants.{Up, Down, Recovering, Clean, Restarting, Closed}
use Rattle.sd_model.specs.declared.act.Cut.TheVariants.{Committing}
use Rattle.sd_model.specs.declared.act.Inst.{Inst}
use Rattle.sd_model.specs.declared.act.Life.{Life}
use Rattle.sd_model.specs.declared.act.Life.TheVariants.{Gone, Running, Retained, Rolling, Doubt}
use Rattle.sd_model.specs.State.{State, Part, gone, put_part, put_inst, with_status, with_life, lost, lost_part, freed, fall, closed, committed, began}
use Rattle.sd_model.specs.Changes.{is_swept, swept_part, after_recovery, swept, IsLoser, Left}
use Rattle.sd_model.specs.StepLaws.{next_txn}
use Rattle.sd_model.specs.Lives.{MayRun, IsDoubt}
use Rattle.sd_model.specs.Listed.{IsAtWork}
use Rattle.sd_model.specs.Kept.{MayCommit}
use Rattle.sd_model.proofs.Placed.{each_inst, lost-doubt}
use Rattle.sd_base.proofs.SameIds.{each_txn}

-- who is there, works or is in doubt afterwards was and did so before
pub record Calms (old new : Life) : Type 0 where
  pub there : new ≢ Gone → old ≢ Gone
  pub works : IsAtWork new → IsAtWork old
  pub doubts : IsDoubt new → IsDoubt old

-- an epoch that rises, or begins that don't fall while the instance stays up
abbrev pub Rises : Inst → Inst → Type 0
Rises x y = (x.epoch < y.epoch) ⊎ ((x.epoch ≡ y.epoch) × (y.status ≡ Up → (x.status ≡ Up) × (x.begins ≤ y.begins)))

-- the lists stay, no life begins, no instance forgets what it began
pub record Calm (m m' : State) : Type 0 where
  pub start : m'.start ≡ m.start
  pub done : m'.done ≡ m.done
  pub begun : m'.begun ≡ m.begun
  pub cuts : m'.cuts ≡ m.cuts
  pub inst : (i : ℕ) → Rises (m.inst i) (m'.inst i)
  pub part : (t : TxnId) → Calms (m.part t).life (m'.part t).life

abbrev pub in_doubt : Part → Part
in_doubt p = record p { life = Doubt Committing; marks = [] }

-- t's commit is cut, and its instance is still to fall
abbrev pub doubted : TxnId → State → State
doubted t m = put_part t (in_doubt (m.part t)) (record m { cuts = m.cuts ++ t ∷ [] })

-- P outlives each of the four kinds of changes
pub record Keeps (P : State → Type 0) : Type 0 where
  pub begins : (m : State) (i : ℕ) → (m.inst i).status ≡ Up → P m → P (began i (next_txn m i) m)
  pub commits : (m : State) (t : TxnId) → MayCommit (m.part t).life → P m → P (committed t m)
  pub cuts : (m : State) (t : TxnId) → (m.part t).life ≡ Running → P m → P (doubted t m)
  pub calm : (m m' : State) → Calm m m' → P m → P m'

pub is_up : (s : Status) → ((s ≡ Up → ⊥) → ⊥) → s ≡ Up
is_up Up n = refl
is_up Down n = absurd (n (λ e. subst MayRun (sym e) tt))
is_up Clean n = absurd (n (λ e. subst MayRun (sym e) tt))
is_up Restarting n = absurd (n (λ e. subst MayRun (sym e) tt))
is_up Closed n = absurd (n (λ e. subst MayRun (sym e) tt))
is_up (Recovering by) n = absurd (n (λ e. subst MayRun (sym e) tt))

pub works-there : (l : Life) → IsAtWork l → l ≢ Gone
works-there l w e = subst IsAtWork e w

pub runs-works : (l : Life) → l ≡ Running → IsAtWork l
runs-works l e = subst IsAtWork (sym e) tt

pub rolls-works : (l : Life) (to : Option ℕ) → l ≡ Rolling to → IsAtWork l
rolls-works l to e = subst IsAtWork (sym e) tt

pub may-split : (l : Life) → MayCommit l → IsAtWork l ⊎ IsDoubt l
may-split Gone a = absurd a
may-split Running a = inl tt
may-split Retained a = absurd a
may-split (Rolling to) a = inl tt
may-split (Doubt cut) a = inr tt

works-may : (l : Life) → IsAtWork l → MayCommit l
works-may Gone w = absurd w
works-may Running w = tt
works-may Retained w = absurd w
works-may (Rolling to) w = tt
works-may (Doubt cut) w = absurd w

pub doubt-may : (l : Life) → IsDoubt l → MayCommit l
doubt-may Gone d = absurd d
doubt-may Running d = absurd d
doubt-may Retained d = absurd d
doubt-may (Rolling to) d = absurd d
doubt-may (Doubt cut) d = tt

pub calms-may : (old new : Life) → Calms old new → MayCommit new → MayCommit old
calms-may old new c may = ⊎_elim (λ w. works-may old (c.works w)) (λ d. doubt-may old (c.doubts d)) (may-split new may)

calms-same : (l : Life) → Calms l l
calms-same l = record { there = λ x. x; works = λ x. x; doubts = λ x. x }

calms-gone : (l : Life) → Calms l Gone
calms-gone l = record { there = λ ne. absurd (ne refl); works = λ w. absurd w; doubts = λ d. absurd d }

calms-works : (old new : Life) → IsAtWork old → (IsDoubt new → ⊥) → Calms old new
calms-works old new w never = record { there = λ _. works-there old w; works = λ _. w; doubts = λ d. absurd (never d) }

lost-works : (l : Life) → IsAtWork (lost l) → ⊥
lost-works Gone w = w
lost-works Running w = w
lost-works Retained w = w
lost-works (Rolling to) w = w
lost-works (Doubt cut) w = w

lost-there : (l : Life) → lost l ≢ Gone → l ≢ Gone
lost-there l ne e = ne (subst (λ (x : Life). lost x ≡ Gone) (sym e) refl)

calms-lost : (l : Life) → Calms l (lost l)
calms-lost l = record { there = lost-there l; works = λ w. absurd (lost-works l w); doubts = lost-doubt l }

pub rises-same : (x : Inst) → Rises x x
rises-same x = inr (refl, λ up. (up, omega arith))

-- the same epoch, and not up
rises-rest : (x y : Inst) → x.epoch ≡ y.epoch → (y.status ≡ Up → ⊥) → Rises x y
rises-rest x y e never = inr (e, λ up. absurd (never up))

pub one-rises : (m : State) (i : ℕ) (x : Inst) → Rises (m.inst i) x → (j : ℕ) → Rises (m.inst j) (cond (eqb i j) x (m.inst j))
one-rises m i x r = each_inst i (λ j (y : Inst). Rises (m.inst j) y) x m.inst r (λ j ne. rises-same (m.inst j))

pub part-calm : (m : State) (t : TxnId) (q : Part) → Calms (m.part t).life q.life → Calm m (put_part t q m)
part-calm m t q c = record {
  start = refl;
  done = refl;
  begun = refl;
  cuts = refl;
  inst = λ i. rises-same (m.inst i);
  part = each_txn t (λ u (x : Part). Calms (m.part u).life x.life) q m.part c (λ u ne. calms-same (m.part u).life);
}

-- the same life with other acts, marks or claims
pub life-calm : (m : State) (t : TxnId) (q : Part) → q.life ≡ (m.part t).life → Calm m (put_part t q m)
life-calm m t q e = part-calm m t q (subst (Calms (m.part t).life) (sym e) (calms-same (m.part t).life))

pub gone-calm : (m : State) (t : TxnId) → Calm m (put_part t gone m)
gone-calm m t = part-calm m t gone (calms-gone (m.part t).life)

-- one at work rolls back, or runs again
pub works-calm : (m : State) (t : TxnId) (life : Life) → IsAtWork (m.part t).life → (IsDoubt life → ⊥) → Calm m (put_part t (with_life life (m.part t)) m)
works-calm m t life w never = part-calm m t (with_life life (m.part t)) (calms-works (m.part t).life life w never)

pub inst-calm : (m : State) (i : ℕ) (x : Inst) → Rises (m.inst i) x → Calm m (put_inst i x m)
inst-calm m i x r = record { start = refl; done = refl; begun = refl; cuts = refl; inst = one-rises m i x r; part = λ t. calms-same (m.part t).life }

-- the same epoch and another status than up
pub rest-calm : (m : State) (i : ℕ) (s : Status) → (s ≡ Up → ⊥) → Calm m (put_inst i (with_status s (m.inst i)) m)
rest-calm m i s never = inst-calm m i (with_status s (m.inst i)) (rises-rest (m.inst i) (with_status s (m.inst i)) refl never)

cond-lost : (b : Bool) (p : Part) → Calms p.life (cond b (lost_part p) p).life
cond-lost true p = calms-lost p.life
cond-lost false p = calms-same p.life

freed_up : (i : ℕ) (s : Status) (b : Bool) → cond b Down (freed i s) ≡ Up → s ≡ Up
freed_up i s true e = absurd (subst MayRun (sym e) tt)
freed_up i Up false e = refl
freed_up i Down false e = e
freed_up i Clean false e = e
freed_up i Restarting false e = e
freed_up i Closed false e = e
freed_up i (Recovering by) false e = go (eqb i by) e
  where
    go : (b : Bool) → cond b Down (Recovering by) ≡ Up → Recovering by ≡ Up
    go true f = absurd (subst MayRun (sym f) tt)
    go false f = f

pub fall-calm : (i : ℕ) (m : State) → Calm m (fall i m)
fall-calm i m = record {
  start = refl;
  done = refl;
  begun = refl;
  cuts = refl;
  inst = λ j. inr (refl, λ up. (freed_up i (m.inst j).status (eqb i j) up, omega arith));
  part = λ t. cond-lost (eqb i t.inst) (m.part t);
}

pub closed-calm : (m : State) → Calm m (closed m)
closed-calm m = record {
  start = refl;
  done = refl;
  begun = refl;
  cuts = refl;
  inst = λ j. rises-rest (m.inst j) (with_status Closed (m.inst j)) refl (λ e. subst MayRun (sym e) tt);
  part = λ t. calms-lost (m.part t).life;
}

swept_go : (b : Bool) (p : Part) → Calms p.life (cond b gone p).life
swept_go true p = calms-gone p.life
swept_go false p = calms-same p.life

cond-swept : (b : Bool) (p : Part) → Calms p.life (cond b (swept_part p) p).life
cond-swept true p = swept_go (is_swept p.life) p
cond-swept false p = calms-same p.life

recovered_rests : (i : ℕ) (s : Status) → after_recovery i s ≡ Up → ⊥
recovered_rests i Up e = subst MayRun (sym e) tt
recovered_rests i Down e = subst MayRun (sym e) tt
recovered_rests i Clean e = subst MayRun (sym e) tt
recovered_rests i Restarting e = subst MayRun (sym e) tt
recovered_rests i Closed e = subst MayRun (sym e) tt
recovered_rests i (Recovering by) e = go (eqb i by) e
  where
    go : (b : Bool) → cond b Restarting Clean ≡ Up → ⊥
    go true f = subst MayRun (sym f) tt
    go false f = subst MayRun (sym f) tt

pub swept-calm : (i : ℕ) (m : State) → Calm m (swept i m)
swept-calm i m = let x : Inst = with_status (after_recovery i (m.inst i).status) (m.inst i) in record {
  start = refl;
  done = refl;
  begun = refl;
  cuts = refl;
  inst = one-rises m i x (rises-rest (m.inst i) x refl (recovered_rests i (m.inst i).status));
  part = λ t. cond-swept (eqb i t.inst) (m.part t);
}

loser-calms : (old new : Part) → (new ≡ gone) ⊎ IsLoser old new → Calms old.life new.life
loser-calms old new (inl e) = subst (λ (p : Part). Calms old.life p.life) (sym e) (calms-gone old.life)
loser-calms old new (inr h) = subst (Calms old.life) (sym h.life) (record {
  there = λ _ g. ⊎_elim (λ (e : old.life ≡ Retained). not_retained (sym e ∙ g)) (λ e. not_doubt e.0 (sym e.1 ∙ g)) h.was;
  works = λ w. absurd w;
  doubts = λ d. absurd d;
})
  where
    not_retained : Retained ≡ Gone → ⊥
    not_retained e = cc

    not_doubt : (cut : _) → Doubt cut ≡ Gone → ⊥
    not_doubt cut e = subst IsDoubt e tt

-- after a reopening nothing is up
left_rests : (m m' : State) → Left m m' → (i : ℕ) → (m'.inst i).status ≡ Up → ⊥
left_rests m m' l i up =
    let other = l.others.2 i (λ has_one. subst MayRun (sym up ∙ l.down i has_one) tt) in
    ⊎_elim (λ e. subst MayRun (sym up ∙ (other ∙ e)) tt) (λ e. subst MayRun (sym up ∙ (other ∙ e)) tt) l.others.1

pub left-calm : (m m' : State) → Left m m' → Calm m m'
left-calm m m' l = record {
  start = l.start;
  done = l.done;
  begun = l.begun;
  cuts = l.cuts;
  inst = λ i. subst (Rises (m.inst i)) (sym (l.inst i)) (rises-rest (m.inst i) (with_status (m'.inst i).status (m.inst i)) refl (left_rests m m' l i));
  part = λ t. loser-calms (m.part t) (m'.part t) (l.part t);
}
