-- What is told of an outcome, and what a recovery finds. It serves the goals of recoveries.rt, reopenings.rt and refusals.rt.
use Rattle.std.proofs.Common.{◌≡◌, Bool, true, false, true≢false, List, [], ◌∷◌, ◌++◌, refl, sym, ap, ◌∙◌, subst, ℕ, append_assoc}
use Rattle.std.specs.Bool.{if◌then◌else◌}
use Rattle.std.specs.Prelude.{Result, Ok, Err, IfOk}
use Rattle.sd_base.specs.declared.ids.TxnId.{TxnId}
use Rattle.sd_base.specs.declared.refusal.Refusal.{Refusal}
use Rattle.sd_base.specs.declared.refusal.Refusal.TheVariants as R
use Rattle.sd_oracle.specs.Firsts.{IsFirstOf}
use Rattle.sd_model.specs.Causes.{has_cause}
use Rattle.sd_model.specs.Refusing.{causes_of, Tells, Refuses}
use Rattle.sd_model.specs.declared.act.Done.{Done}
use Rattle.sd_model.specs.declared.cause.Cause.{Cause}
use Rattle.sd_model.specs.declared.event.Event.{Event}
use Rattle.sd_model.specs.declared.event.Event.TheVariants.{RecoverStep, Reopen}
use Rattle.sd_model.specs.declared.event.Reply.TheVariants.{Did, Finished, Refused}
use Rattle.sd_model.specs.State.{State, committed}
use Rattle.sd_model.specs.Changes.{commit_all, swept, AreInDoubt}
use Rattle.sd_oracle.specs.declared.outcome.Outcome.{Outcome}
use Rattle.sd_oracle.specs.declared.verdict.Verdict.{Verdict}
use Rattle.sd_oracle.specs.declared.verdict.Verdict.TheVariants.{Follows, Differs, Unjudged}
use Rattle.sd_oracle.specs.Outcomes.{IsFound, Finishes, Reopens, Told}
use Rattle.sd_oracle.specs.Judging.{JudgesTold, JudgesCause, Judges, IsToldOf, Hinders}

-- the transactions of a list of committed ones
txns : List Done → List TxnId
txns [] = []
txns (d ∷ done) = d.txn ∷ txns done

txns-append : (xs ys : List Done) → txns (xs ++ ys) ≡ txns xs ++ txns ys
unfolding txns
txns-append [] ys = refl
txns-append (x ∷ xs) ys = ap (λ l. x.txn ∷ l) (txns-append xs ys)

txns-all : (ts : List TxnId) (m : State) → txns (commit_all ts m).done ≡ txns m.done ++ ts
unfolding txns
txns-all [] m = sym (append_nil (txns m.done))
  where
    append_nil : (xs : List TxnId) → xs ++ [] ≡ xs
    append_nil [] = refl
    append_nil (x ∷ xs) = ap (λ l. x ∷ l) (append_nil xs)
txns-all (t ∷ ts) m = txns-all ts (committed t m) ∙ (ap (λ l. l ++ ts) (txns-append m.done (record { txn = t; acts = (m.part t).acts } ∷ [])) ∙ append_assoc (txns m.done) (t ∷ []) ts)

tail-of : (x y : TxnId) (xs ys : List TxnId) → x ∷ xs ≡ y ∷ ys → xs ≡ ys
tail-of x y xs ys e = cc

cancelled : (front xs ys : List TxnId) → front ++ xs ≡ front ++ ys → xs ≡ ys
cancelled [] xs ys e = e
cancelled (x ∷ front) xs ys e = cancelled front xs ys (tail-of x x (front ++ xs) (front ++ ys) e)

-- those that joined the committed ones are told by them
pub same-found : (m : State) (xs ys : List TxnId) → (commit_all xs m).done ≡ (commit_all ys m).done → xs ≡ ys
same-found m xs ys e = cancelled (txns m.done) xs ys (sym (txns-all xs m) ∙ (ap txns e ∙ txns-all ys m))

pub judged-finished : (b : Bool) (o : Outcome) (m : State) (i : ℕ) (found : List TxnId) (m' : State) → found ≡ o.found → Finishes b i found m m' → JudgesTold (if b then Follows else Differs) o m (RecoverStep i) Finished m'
judged-finished true o m i found m' e h = ((found, h.0.0, h.0.1, h.0.2, h.1), h.1 ∙ ap (λ ts. swept i (commit_all ts m)) e)
judged-finished false o m i found m' e h = (
  λ m1 row told. h.0 (subst (IsFound m i) (same-found m row.0 found (ap (λ (s : State). s.done) (sym row.4 ∙ (told ∙ ap (λ ts. swept i (commit_all ts m)) (sym e))))) (row.1, row.2, row.3)),
  h.1,
)

pub judged-reopened : (b : Bool) (o : Outcome) (m : State) (m' : State) → Reopens b o m m' → JudgesTold (if b then Follows else Differs) o m Reopen Did m'
judged-reopened true o m m' h = ((o.found, h.0, h.1), (h.1.done, h.2))
judged-reopened false o m m' h = (
  λ m1 row told. h.0 (subst (AreInDoubt m) (same-found m row.0 o.found (sym row.2.done ∙ told.0)) row.1),
  h.1,
)

off : {A : Type 0} → false ≡ true → A
off e = absurd (true≢false (sym e))

-- the cause of a failed device alone is told by the outcome
told-cause : (o : Outcome) (m : State) (e : Event) (n : Refusal) (c : Cause) (m' : State) → has_cause c (causes_of n) ≡ true → IsToldOf o m e c m' → Told o m e (Refused n) m'
told-cause o m e R.Failed Cause.Rig m' named h = h
told-cause o m e R.Failed c m' named h = off named
told-cause o m e n c m' named h = tt

never-hindered : (o : Outcome) (m : State) (e : Event) (n : Refusal) (c d : Cause) (m' : State) → has_cause c (causes_of n) ≡ true → has_cause d (causes_of n) ≡ true → Hinders o m e c → Refuses m e d m' → Told o m e (Refused n) m' → ⊥
never-hindered o m e R.Failed Cause.Rig d m' first named hinders left told = hinders told.0
never-hindered o m e R.CutCommit Cause.Cut Cause.Cut m' first named hinders left told = hinders left.0
never-hindered o m e R.CutCommit Cause.Cut d m' first named hinders left told = off named
never-hindered o m e n Cause.Rig d m' first named hinders left told = off first
never-hindered o m e n Cause.Cut d m' first named hinders left told = off first
never-hindered o m e n c d m' first named hinders left told = absurd hinders

judged-cause : (v : Verdict) (o : Outcome) (m : State) (e : Event) (n : Refusal) (c : Cause) (m' : State) → Tells m e n → IsFirstOf m e c (causes_of n) → JudgesCause v o m e c m' → Judges v o m e (Refused n) m'
judged-cause Follows o m e n c m' tells first h = ((c, first.0, tells, first.1, h.0), told-cause o m e n c m' first.0 h.1)
judged-cause Differs o m e n c m' tells first h = (λ m1 step told. never-hindered o m e n c step.0 m1 first.0 step.1 h.0 step.4 told, h.1)
judged-cause Unjudged o m e n c m' tells first h = h

-- what is judged of the first cause that applies is judged of its refusal
pub judged-refusal : {M : Type 0} (r : Result Verdict M) (o : Outcome) (m : State) (e : Event) (n : Refusal) (c : Cause) (m' : State) → Tells m e n → IsFirstOf m e c (causes_of n) → IfOk r (λ v. JudgesCause v o m e c m') → IfOk r (λ v. Judges v o m e (Refused n) m')
judged-refusal (Ok v) o m e n c m' tells first h = judged-cause v o m e n c m' tells first h
judged-refusal (Err x) o m e n c m' tells first h = h
