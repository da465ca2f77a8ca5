-- What a complex that was closed is when it opens again.
use Rattle.std.specs.Prelude.{◌≡◌, ◌≢◌, ℕ, Bool, true, false, List, [], cond}
use Rattle.sd_base.specs.declared.ids.TxnId.{TxnId}
use Rattle.sd_base.specs.declared.ids.Rid.{Rid}
use Rattle.sd_base.specs.declared.place.Status.{Status}
use Rattle.sd_base.specs.declared.place.Status.TheVariants.{Down, Clean, Closed}
use Rattle.sd_model.specs.declared.act.Claim.{Claim}
use Rattle.sd_model.specs.declared.act.Claim.TheVariants.{Free, Excl}
use Rattle.sd_model.specs.declared.act.Life.TheVariants.{Gone, Retained}
use Rattle.sd_model.specs.Claims.{Claims}
use Rattle.sd_model.specs.State.{State, Part, now, gone, with_status}
use Rattle.sd_model.specs.Changes.{commit_all, AreInDoubt, Reopened}
use Rattle.sd_model.specs.Applies.{IsLost}
use Rattle.sd_model.specs.Lives.{LivesAreSound}
use Rattle.sd_model.specs.Listed.{Listed}
use Rattle.sd_model.specs.Finishing.{picked, standing}

-- exclusive claims on just these records
abbrev pub claims_on : (Rid → Bool) → Claims
claims_on holds r = cond {A = Claim} (holds r) Excl Free

-- one that is found open, with what it holds
abbrev pub loser : (Rid → Bool) → Part
loser holds = record { life = Retained; acts = []; marks = []; claims = claims_on holds }

-- a part after a reopening: a loser that holds these records and keeps what it did, or gone
abbrev pub left_part : Bool → (Rid → Bool) → Part → Part
left_part stays holds p = cond {A = Part} stays (record (loser holds) { acts = p.acts }) gone

-- a closed complex opened again: those of kept are committed, those that stay are losers and hold these records
abbrev pub reopened : List TxnId → (TxnId → Bool) → (TxnId → Rid → Bool) → (ℕ → Bool) → State → State
reopened kept stays holds is_down m = record (commit_all kept m) {
  part = λ t. left_part (stays t) (holds t) ((commit_all kept m).part t);
  inst = λ i. with_status (cond {A = Status} (is_down i) Down Clean) ((commit_all kept m).inst i);
}

-- What a reopening must find. Those of kept are in doubt, and those that stay, which aren't of kept, lost or are in
-- doubt, and held exclusively what they hold. Each instance with a loser is down; the others are where a page is lost.
pub record MayReopen (kept : List TxnId) (stays : TxnId → Bool) (holds : TxnId → Rid → Bool) (lost : Bool) (is_down : ℕ → Bool)
    (m : State) : Type 0 where
  pub doubt : AreInDoubt m kept
  pub lives : (t : TxnId) → stays t ≡ true → IsLost ((commit_all kept m).part t).life
  pub claims : (t : TxnId) (r : Rid) → stays t ≡ true → holds t r ≡ true → ((commit_all kept m).part t).claims r ≡ Excl
  pub down : (t : TxnId) → stays t ≡ true → is_down t.inst ≡ true
  pub others : (i : ℕ) → ((t : TxnId) → t.inst ≡ i → stays t ≡ true → ⊥) → is_down i ≡ lost

-- What a closed complex finds: whose commit is kept, and who stays a loser, whom it knew, with what each holds.
pub record Finds (commits stays : TxnId → Bool) (holds : TxnId → Rid → Bool) (lost : Bool) (is_down : ℕ → Bool) (m : State) : Type 0 where
  pub there : (t : TxnId) → stays t ≡ true → (m.part t).life ≢ Gone
  pub uncommitted : (t : TxnId) → stays t ≡ true → commits t ≡ false
  pub claims : (t : TxnId) (r : Rid) → stays t ≡ true → holds t r ≡ true → (m.part t).claims r ≡ Excl
  pub down : (t : TxnId) → stays t ≡ true → is_down t.inst ≡ true
  pub others : (i : ℕ) → ((t : TxnId) → t.inst ≡ i → stays t ≡ true → ⊥) → is_down i ≡ lost

-- a closed complex may reopen from what it finds: those in doubt whose commit is kept are committed
abbrev pub ClosedMayReopen : Type 0
ClosedMayReopen = (commits stays : TxnId → Bool) (holds : TxnId → Rid → Bool) (lost : Bool) (is_down : ℕ → Bool) (m : State)
    → LivesAreSound m → Listed m → ((i : ℕ) → (m.inst i).status ≡ Closed) → Finds commits stays holds lost is_down m
    → MayReopen (picked m commits) stays holds lost is_down m

-- the table of a complex that opened again is the one that stood
abbrev pub ReopenedStands : Type 0
ReopenedStands = (commits stays : TxnId → Bool) (holds : TxnId → Rid → Bool) (is_down : ℕ → Bool) (m : State) → Listed m
    → now (reopened (picked m commits) stays holds is_down m) ≡ standing m commits

-- a complex that may reopen so does
abbrev pub ReopenedReopens : Type 0
ReopenedReopens = (kept : List TxnId) (stays : TxnId → Bool) (holds : TxnId → Rid → Bool) (lost : Bool) (is_down : ℕ → Bool) (m : State)
    → MayReopen kept stays holds lost is_down m → Reopened m (reopened kept stays holds is_down m)
