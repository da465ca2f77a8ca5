-- What is said of an answer. It serves the goals of records.rt, rollbacks.rt, instances.rt, recoveries.rt and reopenings.rt.
use Rattle.std.proofs.Common.{◌≡◌, Bool, ℕ, List, None, Some, refl, sym, subst}
use Rattle.std.specs.Bool.{if◌then◌else◌}
use Rattle.std.specs.Prelude.{Result, Ok, Err, IfOk}
use Rattle.std.specs.Result.{result_map_both}
use Rattle.sd_base.specs.declared.ids.Rid.{Rid}
use Rattle.sd_base.specs.declared.ids.TxnId.{TxnId}
use Rattle.sd_model.specs.Tables.{Content}
use Rattle.sd_model.specs.declared.event.Event.{Event}
use Rattle.sd_model.specs.declared.event.Event.TheVariants.{Begin, Read, Write, Add, Insert, Delete, Save, Back, Undo, Commit, List as Listing, Fail, FailAll, RecoverBegin, Join, RecoverStep, Reopen, Ask, Give, Take, Evict, Flush, Force, CheckBegin, CheckEnd, Show, Arm}
use Rattle.sd_model.specs.declared.event.Reply.{Reply}
use Rattle.sd_model.specs.declared.event.Reply.TheVariants.{Began, Value, Did, At, Rows, Step as Stepped, Finished, Joined}
use Rattle.sd_model.specs.State.{State}
use Rattle.sd_model.specs.Step.{Row}
use Rattle.sd_oracle.specs.declared.verdict.Verdict.{Verdict}
use Rattle.sd_oracle.specs.declared.verdict.Verdict.TheVariants.{Follows, Differs}

heard : {M : Type 0} (r : Result Bool M) (P : Bool → Type 0) (Q : Verdict → Type 0) → ((b : Bool) → P b → Q (if b then Follows else Differs)) → IfOk r P → IfOk (result_map_both (λ b. if b then Follows else Differs) (λ x. x) r) Q
heard (Ok b) P Q f h = f b h
heard (Err x) P Q f h = h

-- what follows from an answer holds of what is said of it
pub said : {M : Type 0} (r : Result Bool M) (q : Result Verdict M) (P : Bool → Type 0) (Q : Verdict → Type 0) → q ≡ result_map_both (λ b. if b then Follows else Differs) (λ x. x) r → ((b : Bool) → P b → Q (if b then Follows else Differs)) → IfOk r P → IfOk q Q
said r q P Q is f h = subst (λ (x : Result Verdict _). IfOk x Q) (sym is) (heard r P Q f h)

-- the reply is of no kind that an answer of the event has
abbrev pub Other : Event → Reply → Type 0
Other (Begin i) reply = (x : TxnId) → reply ≡ Began x → ⊥
Other (Read t r) reply = (v : Content) → reply ≡ Value v → ⊥
Other (Write t r v) reply = reply ≡ Did → ⊥
Other (Add t r by) reply = reply ≡ Did → ⊥
Other (Insert t p v n) reply = (r : Rid) → reply ≡ At r → ⊥
Other (Delete t r) reply = reply ≡ Did → ⊥
Other (Save t k) reply = reply ≡ Did → ⊥
Other (Back t k) reply = reply ≡ Did → ⊥
Other (Undo t) reply = (reply ≡ Stepped → ⊥) × (reply ≡ Finished → ⊥)
Other (Commit t) reply = reply ≡ Did → ⊥
Other (Listing i p) reply = (rows : List (Rid × List ℕ)) → reply ≡ Rows rows → ⊥
Other (Fail i) reply = reply ≡ Did → ⊥
Other (FailAll pick) reply = reply ≡ Did → ⊥
Other (RecoverBegin i by) reply = reply ≡ Did → ⊥
Other (Join i) reply = (n : ℕ) → reply ≡ Joined n → ⊥
Other e reply = ⊥

never : (m : State) (e : Event) (reply : Reply) (m' : State) → Other e reply → Row m e reply m' → ⊥
never m (Begin i) (Began x) m' other row = other x refl
never m (Read t r) (Value v) m' other row = other v refl
never m (Write t r v) Did m' other row = other refl
never m (Add t r by) Did m' other row = other refl
never m (Insert t p v n) (At r) m' other row = other r refl
never m (Delete t r) Did m' other row = other refl
never m (Save t k) Did m' other row = other refl
never m (Back t (Some k)) Did m' other row = other refl
never m (Back t None) Did m' other row = other refl
never m (Undo t) Stepped m' other row = other.0 refl
never m (Undo t) Finished m' other row = other.1 refl
never m (Commit t) Did m' other row = other refl
never m (Listing i p) (Rows rows) m' other row = other rows refl
never m (Fail i) Did m' other row = other refl
never m (FailAll pick) Did m' other row = other refl
never m (RecoverBegin i by) Did m' other row = other refl
never m (Join i) (Joined n) m' other row = other n refl
never m (RecoverStep i) reply m' other row = absurd other
never m Reopen reply m' other row = absurd other
never m (Ask i p mode) reply m' other row = absurd other
never m (Give i p) reply m' other row = absurd other
never m (Take i p) reply m' other row = absurd other
never m (Evict i p) reply m' other row = absurd other
never m (Flush i p) reply m' other row = absurd other
never m (Force i) reply m' other row = absurd other
never m (CheckBegin i) reply m' other row = absurd other
never m (CheckEnd i) reply m' other row = absurd other
never m (Show p) reply m' other row = absurd other
never m (Arm trouble) reply m' other row = absurd other
never m e reply m' other row = absurd row

-- a reply of another kind than the event's answers doesn't follow
pub differs : (m : State) (e k : Event) (reply : Reply) → e ≡ k → Other k reply → ((m' : State) → Row m e reply m' → ⊥) × (m ≡ m)
differs m e k reply of other = (λ m' row. never m k reply m' other (subst (λ (x : Event). Row m x reply m') of row), refl)
