-- Each step keeps that whoever recovers an instance is that one, or is up. It serves the goals of `whereabouts` and
-- `openings` in laws.rt.
use Rattle.std.proofs.Common.{◌≡◌, ◌⊎◌, inl, inr, ⊎_elim, ℕ, ◌+◌, Bool, true, false, cond, eqb, List, [], ◌∷◌, None, Some, refl, sym, ap, ◌∙◌, subst}
use Rattle.std.proofs.lemmas.Bool.{cases_eq}
use Rattle.sd_base.specs.declared.ids.TxnId.{TxnId}
use Rattle.sd_base.specs.declared.place.Status.{Status}
use Rattle.sd_base.specs.declared.place.Status.TheVariants.{Up, Down, Recovering, Clean, Restarting, Closed}
use Rattle.sd_model.specs.declared.act.Inst.{Inst}
use Rattle.sd_model.specs.declared.event.Entry.{Entry}
use Rattle.sd_model.specs.declared.event.Event.{Event}
use Rattle.sd_model.specs.declared.event.Event.TheVariants.{Begin, Read, Write, Add, Insert, Delete, Save, Back, Undo, Commit, List as Listing, Ask, Give, Take, Evict, Flush, Force, CheckBegin, CheckEnd, Fail, FailAll, RecoverBegin, RecoverStep, Join, Reopen, Arm, Show}
use Rattle.sd_model.specs.declared.event.Reply.{Reply}
use Rattle.sd_model.specs.declared.event.Reply.TheVariants.{Began, Value, Did, At, Rows, Have, Asked, Gave, Step as Stepped, Finished, Joined, Shown, Refused}
use Rattle.sd_model.specs.declared.cause.Cause.{Cause}
use Rattle.sd_model.specs.declared.cause.Cause.TheVariants.{NoRecord, NotNumber, Over, Digits, Rig, Cut}
use Rattle.sd_model.specs.State.{State, Part, put_part, put_inst, with_status, freed, fall, closed, began, joined, committed, cut_commit}
use Rattle.sd_model.specs.Changes.{commit_all, after_recovery, swept, Recovered, Left}
use Rattle.sd_model.specs.Applies.{MayServe, IsActive, IsRecovering, Clear}
use Rattle.sd_model.specs.Refusing.{Refuses, counted}
use Rattle.sd_model.specs.Step.{Row, Step}
use Rattle.sd_model.specs.Run.{Run}
use Rattle.sd_model.specs.Opened.{IsOpened}
use Rattle.sd_model.specs.Recoverers.{Recoverers}
use Rattle.sd_model.proofs.Placed.{each_inst}
use Rattle.sd_model.proofs.PlacedRecovery.{commit_all-inst}
use Rattle.sd_model.proofs.Moves.{is_up}
use Rattle.sd_model.proofs.Opened.{rests}

-- the instances stay
same-inst : (m m' : State) → m'.inst ≡ m.inst → Recoverers m → Recoverers m'
same-inst m m' same r = record {
  each = subst (λ (f : ℕ → Inst). (i by : ℕ) → (f i).status ≡ Recovering by → (by ≡ i) ⊎ ((f by).status ≡ Up)) (sym same) r.each;
}

-- one instance changes: it is recovered by itself or by one that is up, if at all, and is up still if it was
one-recovers : (m : State) (i : ℕ) (x : Inst) → ((by : ℕ) → x.status ≡ Recovering by → (by ≡ i) ⊎ ((m.inst by).status ≡ Up))
    → ((m.inst i).status ≡ Up → x.status ≡ Up) → Recoverers m → Recoverers (put_inst i x m)
one-recovers m i x here up r = record {
  each = λ j by. each_inst i (λ k (y : Inst). y.status ≡ Recovering by → (by ≡ k) ⊎ (((put_inst i x m).inst by).status ≡ Up))
      x m.inst (λ e. still by i (here by e)) (λ k ne e. still by k (r.each k by e)) j;
}
  where
    still : (by k : ℕ) → (by ≡ k) ⊎ ((m.inst by).status ≡ Up) → (by ≡ k) ⊎ (((put_inst i x m).inst by).status ≡ Up)
    still by k (inl e) = inl e
    still by k (inr e) = inr (each_inst i (λ (n : ℕ) (y : Inst). (m.inst n).status ≡ Up → y.status ≡ Up)
        x m.inst up (λ n ne same. same) by e)

-- an instance that keeps its status
same-status : (m : State) (i : ℕ) (x : Inst) → x.status ≡ (m.inst i).status → Recoverers m → Recoverers (put_inst i x m)
same-status m i x same r = one-recovers m i x (λ by e. r.each i by (sym same ∙ e)) (λ e. same ∙ e) r

began-recovers : (m : State) (i : ℕ) (x : TxnId) → Recoverers m → Recoverers (began i x m)
began-recovers m i x r =
    let y : Inst = record (m.inst i) { begins = (m.inst i).begins + 1 } in
    same-inst (put_inst i y m) (began i x m) refl (same-status m i y refl r)

joined-recovers : (m : State) (i epoch : ℕ) → Recoverers m → Recoverers (joined i epoch m)
joined-recovers m i epoch r = one-recovers m i
    (record { status = Up; epoch = epoch; begins = 0; failed = 0 }) (λ by e. absurd (cc)) (λ _. refl) r

-- who may begin a recovery
may_begin : (m : State) (i by : ℕ) → ((MayServe m (RecoverBegin i by) → ⊥) → ⊥) → (by ≡ i) ⊎ ((m.inst by).status ≡ Up)
may_begin m i by n = ⊎_elim (λ e. inl e) (λ ne. inr (is_up (m.inst by).status (λ no. n (λ s. ⊎_elim ne no s)))) (cases_eq by i)

begun-recovers : (m : State) (i by : ℕ) → (((m.inst i).status ≡ Down → ⊥) → ⊥) → ((MayServe m (RecoverBegin i by) → ⊥) → ⊥) → Recoverers m
    → Recoverers (put_inst i (with_status (Recovering by) (m.inst i)) m)
begun-recovers m i by down serves r = one-recovers m i (with_status (Recovering by) (m.inst i))
    (λ other e. let same : by ≡ other = cc in subst (λ (n : ℕ). (n ≡ i) ⊎ ((m.inst n).status ≡ Up)) same (may_begin m i by serves))
    (λ up. absurd (down (λ e. up_not_down (sym up ∙ e)))) r
  where
    up_not_down : Up ≡ Down → ⊥
    up_not_down e = cc

ends : (i : ℕ) (s : Status) (by : ℕ) → after_recovery i s ≡ Recovering by → ⊥
ends i Up by e = cc
ends i Down by e = cc
ends i Clean by e = cc
ends i Restarting by e = cc
ends i Closed by e = cc
ends i (Recovering other) by e = go (eqb i other) e
  where
    go : (b : Bool) → cond b Restarting Clean ≡ Recovering by → ⊥
    go true f = cc
    go false f = cc

swept-recovers : (m : State) (i : ℕ) → ((IsRecovering (m.inst i).status → ⊥) → ⊥) → Recoverers m → Recoverers (swept i m)
swept-recovers m i rec r =
    let x : Inst = with_status (after_recovery i (m.inst i).status) (m.inst i) in
    same-inst (put_inst i x m) (swept i m) refl (one-recovers m i x (λ by e. absurd (ends i (m.inst i).status by e))
    (λ up. absurd (rec (λ (h : IsRecovering (m.inst i).status). up_not_recovering h.0 (sym up ∙ h.1)))) r)
  where
    up_not_recovering : (by : ℕ) → Up ≡ Recovering by → ⊥
    up_not_recovering by e = cc

recovered-recovers : (m : State) (i : ℕ) (m' : State) → ((IsRecovering (m.inst i).status → ⊥) → ⊥) → Recovered i m m'
    → Recoverers m → Recoverers m'
recovered-recovers m i m' rec h r =
    let m1 = commit_all h.0 m in
    let same = commit_all-inst h.0 m in
    let still = subst (λ (f : ℕ → Inst). (IsRecovering (f i).status → ⊥) → ⊥) (sym same) rec in
    subst Recoverers (sym h.4) (swept-recovers m1 i still (same-inst m m1 same r))

-- one that is still recovered after a fall was, and by another than the one that fell
freed-is : (i : ℕ) (s : Status) (by : ℕ) → freed i s ≡ Recovering by → (s ≡ Recovering by) × (eqb i by ≡ false)
freed-is i Up by e = absurd (cc)
freed-is i Down by e = absurd (cc)
freed-is i Clean by e = absurd (cc)
freed-is i Restarting by e = absurd (cc)
freed-is i Closed by e = absurd (cc)
freed-is i (Recovering other) by e = go (eqb i other) refl e
  where
    go : (b : Bool) → eqb i other ≡ b → cond b Down (Recovering other) ≡ Recovering by
        → (Recovering other ≡ Recovering by) × (eqb i by ≡ false)
    go true is f = absurd (cc)
    go false is f = let same : other ≡ by = cc in (f, subst (λ (n : ℕ). eqb i n ≡ false) same is)

fall-recovers : (i : ℕ) (m : State) → Recoverers m → Recoverers (fall i m)
fall-recovers i m r = record { each = λ j by. go j by (eqb i j) }
  where
    up : (by : ℕ) → eqb i by ≡ false → (m.inst by).status ≡ Up → cond (eqb i by) Down (freed i (m.inst by).status) ≡ Up
    up by ne e = ap (λ (b : Bool). cond {A = Status} b Down (freed i (m.inst by).status)) ne ∙ ap (freed i) e

    go : (j by : ℕ) (b : Bool) → cond b Down (freed i (m.inst j).status) ≡ Recovering by
        → (by ≡ j) ⊎ (cond (eqb i by) Down (freed i (m.inst by).status) ≡ Up)
    go j by true e = absurd (cc)
    go j by false e = let h = freed-is i (m.inst j).status by e in ⊎_elim (λ same. inl same) (λ is. inr (up by h.1 is)) (r.each j by h.0)

-- nothing is recovered
none-recovers : (m : State) → ((i by : ℕ) → (m.inst i).status ≡ Recovering by → ⊥) → Recoverers m
none-recovers m none = record { each = λ i by e. absurd (none i by e) }

left-recovers : (m m' : State) → Left m m' → Recoverers m'
left-recovers m m' l = none-recovers m' (λ i by e.
    let other = l.others.2 i (λ has_one. down_rests by (sym (l.down i has_one) ∙ e)) in
    ⊎_elim (λ (clean : l.others.0 ≡ Clean). clean_rests by (sym (other ∙ clean) ∙ e))
    (λ (down : l.others.0 ≡ Down). down_rests by (sym (other ∙ down) ∙ e)) l.others.1)
  where
    down_rests : (by : ℕ) → Down ≡ Recovering by → ⊥
    down_rests by e = cc

    clean_rests : (by : ℕ) → Clean ≡ Recovering by → ⊥
    clean_rests by e = cc

pub opened-recoverers : (m : State) → IsOpened m → Recoverers m
opened-recoverers m o = none-recovers m (λ i by e. rests m IsRecovering clean_rests down_rests o i (by, e))
  where
    clean_rests : IsRecovering Clean → ⊥
    clean_rests h = let e = h.1 in cc

    down_rests : IsRecovering Down → ⊥
    down_rests h = let e = h.1 in cc

pub recoverer-active : (m : State) → Recoverers m → (i by : ℕ) → (m.inst i).status ≡ Recovering by → IsActive by (m.inst by).status
recoverer-active m r i by e = ⊎_elim
    (λ (same : by ≡ i). inr (inr (subst (λ (n : ℕ). (m.inst n).status ≡ Recovering by) (sym same) e)))
    (λ up. inl up) (r.each i by e)

part-recovers : (m : State) (t : TxnId) (q : Part) → Recoverers m → Recoverers (put_part t q m)
part-recovers m t q r = same-inst m (put_part t q m) refl r

cut-recovers : (m : State) (t : TxnId) → Recoverers m → Recoverers (cut_commit t m)
cut-recovers m t r = fall-recovers t.inst _ (same-inst m _ refl r)

row-recovers : (m : State) (e : Event) (reply : Reply) (m' : State) → Clear m e → Row m e reply m' → Recoverers m → Recoverers m'
row-recovers m (Begin i) (Began x) m' c h r = subst Recoverers (sym h.1) (began-recovers m i x r)
row-recovers m (Read t q) (Value v) m' c h r = subst Recoverers (sym h.2) (part-recovers m t _ r)
row-recovers m (Write t q new) Did m' c h r = subst Recoverers (sym h.3) (part-recovers m t _ r)
row-recovers m (Add t q by) Did m' c h r = subst Recoverers (sym h.5) (part-recovers m t _ r)
row-recovers m (Delete t q) Did m' c h r = subst Recoverers (sym h.3) (part-recovers m t _ r)
row-recovers m (Insert t q new capacity) (At at) m' c h r = subst Recoverers (sym h.4) (part-recovers m t _ r)
row-recovers m (Save t name) Did m' c h r = subst Recoverers (sym h.1) (part-recovers m t _ r)
row-recovers m (Back t (Some name)) Did m' c h r = subst Recoverers (sym h.3) (part-recovers m t _ r)
row-recovers m (Back t None) Did m' c h r = subst Recoverers (sym h.1) (part-recovers m t _ r)
row-recovers m (Undo t) Stepped m' c h r = subst Recoverers (sym h.3) (part-recovers m t _ r)
row-recovers m (Undo t) Finished m' c (inl h) r = subst Recoverers (sym h.1) r
row-recovers m (Undo t) Finished m' c (inr (inl h)) r = subst Recoverers (sym h.3) (part-recovers m t _ r)
row-recovers m (Undo t) Finished m' c (inr (inr h)) r = subst Recoverers (sym h.2) (part-recovers m t _ r)
row-recovers m (Commit t) Did m' c h r = subst Recoverers (sym h.1) (same-inst m (committed t m) refl r)
row-recovers m (Listing i q) (Rows rows) m' c h r = subst Recoverers (sym h.1) r
row-recovers m (Fail i) Did m' c h r = subst Recoverers (sym h) (fall-recovers i m r)
row-recovers m (FailAll pick) Did m' c h r = subst Recoverers (sym h) (none-recovers (closed m) (λ i by e. absurd (cc)))
row-recovers m Reopen Did m' c h r = left-recovers (commit_all h.0 m) m' h.2
row-recovers m (RecoverBegin i by) Did m' c h r = subst Recoverers (sym h) (begun-recovers m i by c.1.0 c.1.1.0 r)
row-recovers m (RecoverStep i) Stepped m' c h r = subst Recoverers (sym h) r
row-recovers m (RecoverStep i) Finished m' c h r = recovered-recovers m i m' c.1.0 h r
row-recovers m (Join i) (Joined epoch) m' c h r = subst Recoverers (sym h.2) (joined-recovers m i epoch r)
row-recovers m (Ask i q mode) Have m' c h r = subst Recoverers (sym h) r
row-recovers m (Ask i q mode) (Asked of) m' c h r = subst Recoverers (sym h) r
row-recovers m (Give i q) (Gave to) m' c h r = subst Recoverers (sym h) r
row-recovers m (Take i q) Did m' c h r = subst Recoverers (sym h) r
row-recovers m (Evict i q) Did m' c h r = subst Recoverers (sym h) r
row-recovers m (Flush i q) Did m' c h r = subst Recoverers (sym h) r
row-recovers m (Force i) Did m' c h r = subst Recoverers (sym h) r
row-recovers m (CheckBegin i) Did m' c h r = subst Recoverers (sym h) r
row-recovers m (CheckEnd i) Did m' c h r = subst Recoverers (sym h) r
row-recovers m (Show q) (Shown place lsn) m' c h r = subst Recoverers (sym h) r
row-recovers m (Arm trouble) Did m' c h r = subst Recoverers (sym h) r
row-recovers m e reply m' c h r = absurd h

-- counting a join that failed changes no status
counted-recovers : (e : Event) (m : State) → Recoverers m → Recoverers (counted e m)
counted-recovers (Join i) m r = same-status m i _ refl r
counted-recovers e m r = r

refused-recovers : (m : State) (e : Event) (c : Cause) (m' : State) → Refuses m e c m' → Recoverers m → Recoverers m'
refused-recovers m e NoRecord m' h r = subst Recoverers (sym h) (part-recovers m _ _ r)
refused-recovers m e NotNumber m' h r = subst Recoverers (sym h) (part-recovers m _ _ r)
refused-recovers m e Over m' h r = subst Recoverers (sym h) (part-recovers m _ _ r)
refused-recovers m e Digits m' h r = subst Recoverers (sym h) (part-recovers m _ _ r)
refused-recovers m e Rig m' (inl h) r = subst Recoverers (sym h) (counted-recovers e m r)
refused-recovers m e Rig m' (inr h) r = subst Recoverers (sym h.2) (fall-recovers h.0 (counted e m) (counted-recovers e m r))
refused-recovers m e Cut m' h r = subst Recoverers (sym h.1) (cut-recovers m _ r)
refused-recovers m e c m' h r = subst Recoverers (sym h) r

pub step-recoverers : (m : State) (e : Event) (reply : Reply) (m' : State) → Step m e reply m' → Recoverers m → Recoverers m'
step-recoverers m e (Refused n) m' h r = refused-recovers m e h.0 m' h.4 r
step-recoverers m e reply m' h r = row-recovers m e reply m' h.0 h.1 r

pub run-recoverers : (es : List Entry) (m m' : State) → Run m es m' → Recoverers m → Recoverers m'
run-recoverers [] m m' h r = subst Recoverers h r
run-recoverers (e ∷ es) m m' h r = run-recoverers es h.0 m' h.2 (step-recoverers m e.event e.reply h.0 h.1 r)
