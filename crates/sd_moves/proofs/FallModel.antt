-- What a fall makes of the serial table, seen from any state of it. For the falls of src/crash.rt.
use Rattle.std.proofs.Common.{◌≡◌, ◌≢◌, ◌⊎◌, inl, inr, ⊎_elim, ℕ, ◌+◌, ◌≤◌, Bool, true, false, cond, eqb, List, [], ◌++◌, map, refl, sym, ap, ap₂, ◌∙◌, subst, arith, eq-eqb, ne_eqb}
use Rattle.std.specs.Prelude.{filter}
use mathlib.Core.Path.{fun_ext}
use Rattle.std.proofs.lemmas.Bool.{cases_eq}
use Rattle.sd_base.specs.declared.ids.TxnId.{TxnId}
use Rattle.sd_base.specs.declared.place.Status.{Status}
use Rattle.sd_base.specs.declared.place.Status.TheVariants as S
use Rattle.sd_logrec.specs.View.{Rec}
use Rattle.sd_model.specs.Applies.{IsRecovering}
use Rattle.sd_model.specs.Kept.{Kept}
use Rattle.sd_model.specs.Listed.{IsAtWork, Listed}
use Rattle.sd_model.specs.Marks.{Marked, Sized}
use Rattle.sd_model.specs.Lives.{LivesAreSound}
use Rattle.sd_model.specs.Recoverers.{Recoverers}
use Rattle.sd_model.specs.State.{Part, State, fall, freed, lost, lost_part}
use Rattle.sd_model.specs.Refusing.{counted}
use Rattle.sd_model.specs.Step.{Step}
use Rattle.sd_model.specs.Tables.{Contents}
use Rattle.sd_model.specs.Acts.{after}
use Rattle.sd_model.specs.declared.act.Act.{Act}
use Rattle.sd_model.specs.declared.act.Done.{Done}
use Rattle.sd_model.specs.declared.act.Inst.{Inst}
use Rattle.sd_model.specs.declared.cause.Cause.{Cause}
use Rattle.sd_model.specs.declared.event.Event.TheVariants.{Join}
use Rattle.sd_model.specs.declared.event.Reply.TheVariants.{Refused}
use Rattle.sd_base.specs.declared.refusal.Refusal.TheVariants as R
use Rattle.sd_model.specs.declared.act.Life.{Life}
use Rattle.sd_model.proofs.Among.{each-rises}
use Rattle.sd_model.proofs.Kept.{fall-kept}
use Rattle.sd_model.proofs.Marks.{lost-sized}
use Rattle.sd_model.proofs.Listed.{step-listed}
use Rattle.sd_model.proofs.MarksRun.{step-marked}
use Rattle.sd_model.proofs.Moves.{fall-calm}
use Rattle.sd_model.proofs.Placed.{NotShut}
use Rattle.sd_model.proofs.PlacedRun.{step-placed}
use Rattle.sd_model.proofs.Recoverers.{step-recoverers}
use Rattle.sd_model.proofs.Serial.{step-kept}
use Rattle.sd_model.proofs.PlacedChanges.{fails-placed}
use Rattle.sd_chain.specs.Records.{home}
use Rattle.sd_state.specs.Values.{Pending, as_done, is_committed, is_doubt, starts_of, undecided, values}

-- What a fall of instance i makes of a state with something under way: those of i are at work no more, and have no marks.
pub record IsFall (i : ℕ) (pend : Pending) (m m' : State) : Type 0 where
  pub kept : Kept m'
  pub placed : LivesAreSound m'
  pub listed : Listed m'
  pub marked : Marked m'
  pub recoverers : Recoverers m'
  pub others : (t : TxnId) → home t ≢ i → m'.part t ≡ m.part t
  pub there : (t : TxnId) → (m.part t).life ≡ Life.Gone → (m'.part t).life ≡ Life.Gone
  pub gone : (t : TxnId) → (m'.part t).life ≡ Life.Gone → (m.part t).life ≡ Life.Gone
  pub claims : (t : TxnId) → (m'.part t).claims ≡ (m.part t).claims
  pub rests : (t : TxnId) → home t ≡ i → IsAtWork (m'.part t).life → ⊥
  pub marks : (t : TxnId) → ((m'.part t).marks ≡ []) ⊎ ((m'.part t).marks ≡ (m.part t).marks)
  pub status : (j : ℕ) → (m'.inst j).status ≡ cond (eqb i j) S.Down (freed i (m.inst j).status)
  pub epoch : (j : ℕ) → (m'.inst j).epoch ≡ (m.inst j).epoch
  pub begins : (j : ℕ) → (m'.inst j).begins ≡ (m.inst j).begins
  pub failed : (j : ℕ) → (m.inst j).failed + starts_of pend j ≤ (m'.inst j).failed
  pub values : (logs : ℕ → List Rec) (p s : ℕ) → values m' Pending.Idle logs p s ≡ values m pend logs p s

-- ---- lives

lost-gone : (l : Life) → lost l ≡ Life.Gone → l ≡ Life.Gone
lost-gone Life.Gone e = refl
lost-gone Life.Running e = absurd (cc)
lost-gone Life.Retained e = absurd (cc)
lost-gone (Life.Rolling to) e = absurd (cc)
lost-gone (Life.Doubt cut) e = absurd (cc)

lost-rests : (l : Life) → IsAtWork (lost l) → ⊥
lost-rests Life.Gone w = w
lost-rests Life.Running w = w
lost-rests Life.Retained w = w
lost-rests (Life.Rolling to) w = w
lost-rests (Life.Doubt cut) w = w

lost-doubts : (l : Life) → is_doubt (lost l) ≡ is_doubt l
lost-doubts Life.Gone = refl
lost-doubts Life.Running = refl
lost-doubts Life.Retained = refl
lost-doubts (Life.Rolling to) = refl
lost-doubts (Life.Doubt cut) = refl

-- ---- statuses

recovered-freed : (i by : ℕ) (s : Status) (b : Bool) → cond b S.Down (freed i s) ≡ S.Recovering by → (s ≡ S.Recovering by) × (i ≢ by)
recovered-freed i by s true e = absurd (cc)
recovered-freed i by S.Up false e = absurd (cc)
recovered-freed i by S.Down false e = absurd (cc)
recovered-freed i by S.Clean false e = absurd (cc)
recovered-freed i by S.Restarting false e = absurd (cc)
recovered-freed i by S.Closed false e = absurd (cc)
recovered-freed i by (S.Recovering z) false e = ⊎_elim
    (λ same. let clash : S.Down ≡ S.Recovering by = sym (ap (λ (b : Bool). cond {A = Status} b S.Down (S.Recovering z)) (eq-eqb i z same)) ∙ e in absurd (cc))
    (λ ne.
    let is : S.Recovering z ≡ S.Recovering by = sym (ap (λ (b : Bool). cond {A = Status} b S.Down (S.Recovering z)) (ne_eqb i z ne)) ∙ e in
    let same : z ≡ by = cc in (is, λ f. ne (f ∙ sym same)))
    (cases_eq i z)

-- ---- what holds all along

pub fallen-marked : (i : ℕ) (m : State) → Marked m → Marked (fall i m)
fallen-marked i m k = record { sized = λ t. by (m.part t) (eqb i t.inst) (k.sized t) }
  where
    by : (p : Part) (b : Bool) → Sized p → Sized (cond b (lost_part p) p)
    by p true s = lost-sized p
    by p false s = s

pub fallen-recoverers : (i : ℕ) (m : State) → Recoverers m → Recoverers (fall i m)
fallen-recoverers i m r = record {
  each = λ j by is.
      let was = recovered-freed i by (m.inst j).status (eqb i j) is in ⊎_elim (λ e. inl e)
      (λ up. inr (ap (λ (b : Bool). cond {A = Status} b S.Down (freed i (m.inst by).status)) (ne_eqb i by was.1) ∙ ap (freed i) up))
      (r.each j by was.0);
}

-- ---- the table that devices stand for

abbrev done_as : TxnId → List Act → Done
done_as t acts = record { txn = t; acts = acts }

pub values-by : (m m' : State) (pend pend' : Pending) (logs : ℕ → List Rec) (p s : ℕ) → m'.start ≡ m.start → m'.done ≡ m.done
    → ((t : TxnId) → (m'.part t).acts ≡ (m.part t).acts) → undecided m' pend' ≡ undecided m pend
    → values m' pend' logs p s ≡ values m pend logs p s
values-by m m' pend pend' logs p s start done acts same =
    let who : List TxnId = filter (is_committed logs) (undecided m pend) in
    let now : map (as_done m') (filter (is_committed logs) (undecided m' pend')) ≡ map (as_done m) who =
    ap (λ (ts : List TxnId). map (as_done m') (filter (is_committed logs) ts)) same
    ∙ ap (λ (f : TxnId → Done). map f who) (fun_ext (λ (t : TxnId). ap (done_as t) (acts t))) in
    ap₂ (λ (start : Contents) (ds : List Done). after start ds (record { page = p; slot = s })) start (ap₂ (λ (xs ys : List Done). xs ++ ys) done now)

pub cond-acts : (b : Bool) (p : Part) → (cond b (lost_part p) p).acts ≡ p.acts
cond-acts true p = refl
cond-acts false p = refl

pub cond-claims : (b : Bool) (p : Part) → (cond b (lost_part p) p).claims ≡ p.claims
cond-claims true p = refl
cond-claims false p = refl

pub cond-marks : (b : Bool) (p : Part) → ((cond b (lost_part p) p).marks ≡ []) ⊎ ((cond b (lost_part p) p).marks ≡ p.marks)
cond-marks true p = inl refl
cond-marks false p = inr refl

pub cond-doubts : (b : Bool) (p : Part) → is_doubt (cond b (lost_part p) p).life ≡ is_doubt p.life
cond-doubts true p = lost-doubts p.life
cond-doubts false p = refl

pub cond-gone : (b : Bool) (p : Part) → (cond b (lost_part p) p).life ≡ Life.Gone → p.life ≡ Life.Gone
cond-gone true p e = lost-gone p.life e
cond-gone false p e = e

pub cond-there : (b : Bool) (p : Part) → p.life ≡ Life.Gone → (cond b (lost_part p) p).life ≡ Life.Gone
cond-there true p e = ap lost e
cond-there false p e = e

-- ---- an instance falls while nothing is under way

pub fallen-else : (i : ℕ) (m : State) (t : TxnId) → home t ≢ i → (fall i m).part t ≡ m.part t
fallen-else i m t ne = ap (λ (b : Bool). cond b (lost_part (m.part t)) (m.part t)) (ne_eqb i t.inst (λ e. ne (sym e)))

pub fallen-rests : (i : ℕ) (m : State) (t : TxnId) → home t ≡ i → IsAtWork ((fall i m).part t).life → ⊥
fallen-rests i m t own w = lost-rests (m.part t).life (subst (λ (b : Bool). IsAtWork (cond b (lost_part (m.part t)) (m.part t)).life)
    (eq-eqb i t.inst (sym own)) w)

fallen-values : (i : ℕ) (m : State) (logs : ℕ → List Rec) (p s : ℕ)
    → values (fall i m) Pending.Idle logs p s ≡ values m Pending.Idle logs p s
fallen-values i m logs p s = values-by m (fall i m) Pending.Idle Pending.Idle logs p s refl refl
    (λ t. cond-acts (eqb i t.inst) (m.part t))
    (ap (λ (f : TxnId → Bool). filter f m.cuts ++ []) (fun_ext (λ (t : TxnId). cond-doubts (eqb i t.inst) (m.part t))))

pub fallen-listed : (i : ℕ) (m : State) → Listed m → Listed (fall i m)
fallen-listed i m l = record {
  bounds = each-rises m.inst (fall i m).inst m.begun (fall-calm i m).inst l.bounds;
  there = λ t ne. l.there t (((fall-calm i m).part t).there ne);
  once = l.once;
  doubts = λ t d. l.doubts t (((fall-calm i m).part t).doubts d);
  cut_once = l.cut_once;
  cut_begun = l.cut_begun;
  cut_rests = λ t a w. l.cut_rests t a (((fall-calm i m).part t).works w);
}

pub fall-is : (i : ℕ) (m : State) → NotShut m → Kept m → LivesAreSound m → Listed m → Marked m → Recoverers m → IsFall i Pending.Idle m (fall i m)
fall-is i m opened kept placed listed marked recoverers = record {
  kept = fall-kept i m kept;
  placed = fails-placed i m opened placed;
  listed = fallen-listed i m listed;
  marked = fallen-marked i m marked;
  recoverers = fallen-recoverers i m recoverers;
  others = fallen-else i m;
  there = λ t. cond-there (eqb i t.inst) (m.part t);
  gone = λ t. cond-gone (eqb i t.inst) (m.part t);
  claims = λ t. cond-claims (eqb i t.inst) (m.part t);
  rests = fallen-rests i m;
  marks = λ t. cond-marks (eqb i t.inst) (m.part t);
  status = λ j. refl;
  epoch = λ j. refl;
  begins = λ j. refl;
  failed = λ j. omega arith;
  values = fallen-values i m;
}

-- ---- an instance falls whose Start is under way

abbrev joins_once_more : ℕ → State → State
joins_once_more i m = counted (Join i) m

failed-step : (m : State) (i : ℕ) → NotShut m → ((m.inst i).status ≡ S.Clean) ⊎ ((m.inst i).status ≡ S.Restarting)
    → Step m (Join i) (Refused R.Failed) (joins_once_more i m)
failed-step m i opened waits = (Cause.Rig, refl, tt, (refl, (opened, (not_up, (not_down, (tt, (tt, tt))))), tt), inl refl)
  where
    not_up : (m.inst i).status ≡ S.Up → ⊥
    not_up up = ⊎_elim (λ e. let clash : S.Clean ≡ S.Up = sym e ∙ up in absurd (cc))
        (λ e. let clash : S.Restarting ≡ S.Up = sym e ∙ up in absurd (cc)) waits

    not_down : ((m.inst i).status ≡ S.Down) ⊎ IsRecovering (m.inst i).status → ⊥
    not_down (inl down) = ⊎_elim (λ e. let clash : S.Clean ≡ S.Down = sym e ∙ down in absurd (cc))
        (λ e. let clash : S.Restarting ≡ S.Down = sym e ∙ down in absurd (cc)) waits
    not_down (inr by) = ⊎_elim (λ e. let clash : S.Clean ≡ S.Recovering by.0 = sym e ∙ by.1 in absurd (cc))
        (λ e. let clash : S.Restarting ≡ S.Recovering by.0 = sym e ∙ by.1 in absurd (cc)) waits

abbrev failed_once : Inst → Inst
failed_once x = record x { failed = x.failed + 1 }

one-failed : (i j : ℕ) (m : State) → ((joins_once_more i m).inst j).status ≡ (m.inst j).status
one-failed i j m = ⊎_elim
    (λ e. ap (λ (b : Bool). (cond b (failed_once (m.inst i)) (m.inst j)).status) (eq-eqb i j e) ∙ ap (λ (k : ℕ). (m.inst k).status) e)
    (λ ne. ap (λ (b : Bool). (cond b (failed_once (m.inst i)) (m.inst j)).status) (ne_eqb i j ne))
    (cases_eq i j)

-- what stands of an instance but how many joins failed
once-more : (i j : ℕ) (m : State) → (((joins_once_more i m).inst j).epoch ≡ (m.inst j).epoch)
    × (((joins_once_more i m).inst j).begins ≡ (m.inst j).begins)
    × ((m.inst j).failed + starts_of (Pending.Starts i) j ≤ ((joins_once_more i m).inst j).failed)
once-more i j m = ⊎_elim
    (λ e. let b = eq-eqb i j e in let swap = eq-eqb j i (sym e) in (
      ap (λ (b : Bool). (cond b (failed_once (m.inst i)) (m.inst j)).epoch) b ∙ ap (λ (k : ℕ). (m.inst k).epoch) e,
      ap (λ (b : Bool). (cond b (failed_once (m.inst i)) (m.inst j)).begins) b ∙ ap (λ (k : ℕ). (m.inst k).begins) e,
      (let was = ap (λ (b : Bool). (cond b (failed_once (m.inst i)) (m.inst j)).failed) b in
          let same = ap (λ (k : ℕ). (m.inst k).failed) e in
          let one : starts_of (Pending.Starts i) j ≡ 1 = ap {B = ℕ} (λ (b : Bool). cond b 1 0) swap in omega (arith, was, same, one)),
    ))
    (λ ne. let b = ne_eqb i j ne in let swap = ne_eqb j i (λ e. ne (sym e)) in (
      ap (λ (b : Bool). (cond b (failed_once (m.inst i)) (m.inst j)).epoch) b,
      ap (λ (b : Bool). (cond b (failed_once (m.inst i)) (m.inst j)).begins) b,
      (let was = ap (λ (b : Bool). (cond b (failed_once (m.inst i)) (m.inst j)).failed) b in
          let one : starts_of (Pending.Starts i) j ≡ 0 = ap {B = ℕ} (λ (b : Bool). cond b 1 0) swap in omega (arith, was, one)),
    ))
    (cases_eq i j)

pub start-falls : (i : ℕ) (m : State) → NotShut m → ((m.inst i).status ≡ S.Clean) ⊎ ((m.inst i).status ≡ S.Restarting)
    → Kept m → LivesAreSound m → Listed m → Marked m → Recoverers m → IsFall i (Pending.Starts i) m (fall i (joins_once_more i m))
start-falls i m opened waits kept placed listed marked recoverers = record {
  kept = then.kept;
  placed = then.placed;
  listed = then.listed;
  marked = then.marked;
  recoverers = then.recoverers;
  others = then.others;
  there = then.there;
  gone = then.gone;
  claims = then.claims;
  rests = then.rests;
  marks = then.marks;
  status = λ j. ap (λ (s : Status). cond (eqb i j) S.Down (freed i s)) (one-failed i j m);
  epoch = λ j. (once-more i j m).0;
  begins = λ j. (once-more i j m).1;
  failed = λ j. (once-more i j m).2;
  values = then.values;
}
  where
    step : Step m (Join i) (Refused R.Failed) (joins_once_more i m)
    step = failed-step m i opened waits

    then : IsFall i Pending.Idle (joins_once_more i m) (fall i (joins_once_more i m))
    then = fall-is i (joins_once_more i m) (λ shut. opened (sym (one-failed i 1 m) ∙ shut))
        (step-kept m (Join i) (Refused R.Failed) (joins_once_more i m) step kept)
        (step-placed m (Join i) (Refused R.Failed) (joins_once_more i m) step placed)
        (step-listed m (Join i) (Refused R.Failed) (joins_once_more i m) step listed)
        (step-marked m (Join i) (Refused R.Failed) (joins_once_more i m) step marked)
        (step-recoverers m (Join i) (Refused R.Failed) (joins_once_more i m) step recoverers)
