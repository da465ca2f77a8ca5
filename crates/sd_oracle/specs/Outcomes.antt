-- What a reply doesn't say of the state that it leaves, and the states that are told so.
use Rattle.std.specs.Prelude.{◌≡◌, ◌⊎◌, ℕ, ◌≤◌, Bool, true, false, List, [], Option, None, Some, length, cond, ◌&&◌, not}
use Rattle.std.specs.List.{list_any}
use Rattle.sd_base.specs.declared.ids.TxnId.{TxnId}
use Rattle.sd_base.specs.declared.ids.Rid.{Rid}
use Rattle.sd_base.specs.declared.place.Status.{Status}
use Rattle.sd_base.specs.declared.place.Status.TheVariants.{Clean, Down}
use Rattle.sd_base.specs.declared.refusal.Refusal.TheVariants as R
use Rattle.sd_base.specs.Ids.{same_txn, same_rid}
use Rattle.sd_model.specs.declared.act.Claim.{Claim}
use Rattle.sd_model.specs.declared.act.Claim.TheVariants.{Free, Shared, Excl}
use Rattle.sd_model.specs.declared.act.Life.{Life}
use Rattle.sd_model.specs.declared.act.Life.TheVariants.{Gone, Running, Retained, Rolling, Doubt}
use Rattle.sd_model.specs.declared.event.Event.{Event}
use Rattle.sd_model.specs.declared.event.Event.TheVariants.{RecoverStep, Reopen}
use Rattle.sd_model.specs.declared.event.Reply.{Reply}
use Rattle.sd_model.specs.declared.event.Reply.TheVariants.{Did, Finished, Refused}
use Rattle.sd_model.specs.declared.act.Inst.{Inst}
use Rattle.sd_model.specs.State.{State, Part, gone, fall, with_status}
use Rattle.sd_model.specs.Changes.{commit_all, swept, HasLoser, Left, AreOf, AreInDoubt}
use Rattle.sd_model.specs.Refusing.{MayFall, counted}
use Rattle.sd_oracle.specs.declared.outcome.Outcome.{Outcome}
use Rattle.sd_oracle.specs.declared.standing.Standing.{Standing}
use Rattle.sd_oracle.specs.Lists.{part_in}

abbrev pub among : TxnId → List TxnId → Bool
among t ts = list_any (λ u. same_txn u t) ts

abbrev pub among_claims : TxnId → Rid → List (TxnId × Rid) → Bool
among_claims t r claims = list_any (λ (x : TxnId × Rid). same_txn x.0 t && same_rid x.1 r) claims

-- an instance that a failure of a device takes down may be one that fails with the event, or none
abbrev pub Falls : State → Event → Option ℕ → Type 0
Falls m e None = Unit {0}
Falls m e (Some j) = MayFall m e j

abbrev pub fallen : Option ℕ → State → State
fallen None m = m
fallen (Some j) m = fall j m

-- a reopening leaves exclusive claims alone
abbrev pub left_claim : Bool → Claim → Claim
left_claim true c = Free
left_claim false Free = Free
left_claim false Shared = Free
left_claim false Excl = Excl

abbrev pub is_lost : Life → Bool
is_lost Gone = false
is_lost Running = false
is_lost Retained = true
is_lost (Rolling to) = false
is_lost (Doubt cut) = true

-- a loser with its exclusive claims, but those that it was freed of
abbrev pub loser : List (TxnId × Rid) → TxnId → Part → Part
loser freed t p = record p { life = Retained; marks = []; claims = λ r. left_claim (among_claims t r freed) (p.claims r) }

-- what a reopening leaves of a transaction
abbrev pub left_part : Outcome → TxnId → Part → Part
left_part o t p = cond (is_lost p.life && not (among t o.gone)) (loser o.freed t p) gone

-- how instances without losers stand after a reopening
abbrev pub rest_after : Outcome → Status
rest_after o = cond o.lost Down Clean

-- of those that aren't committed these are losers, and instances without losers stand as told
pub record IsLeftBy (o : Outcome) (m m' : State) : Type 0 where
  pub part : (t : TxnId) → m'.part t ≡ left_part o t (m.part t)
  pub others : (i : ℕ) → (HasLoser m' i → ⊥) → (m'.inst i).status ≡ rest_after o

-- what a reopening leaves: those that were found are committed, and of the others what is told
abbrev pub ReopenedAs : Outcome → State → State → Type 0
ReopenedAs o m m' = (m'.done ≡ (commit_all o.found m).done) × IsLeftBy o (commit_all o.found m) m'

-- the outcome tells which of the states that the event with its reply may leave it leaves
abbrev pub Told : Outcome → State → Event → Reply → State → Type 0
Told o m e (Refused R.Failed) m' = Falls m e o.fell × (m' ≡ fallen o.fell (counted e m))
Told o m (RecoverStep i) Finished m' = m' ≡ swept i (commit_all o.found m)
Told o m Reopen Did m' = ReopenedAs o m m'
Told o m e reply m' = Unit {0}

-- whether those that were found are in doubt one after another, and the state in which they are committed
abbrev pub Commits : Bool → List TxnId → State → State → Type 0
Commits true found m m' = AreInDoubt m found × (m' ≡ commit_all found m)
Commits false found m m' = AreInDoubt m found → ⊥

-- at most one was found, of the instance, and it is in doubt
abbrev pub IsFound : State → ℕ → List TxnId → Type 0
IsFound m i found = (length found ≤ 1) × AreOf i found × AreInDoubt m found

-- whether the recovery of the instance may finish so, and what it leaves
abbrev pub Finishes : Bool → ℕ → List TxnId → State → State → Type 0
Finishes true i found m m' = IsFound m i found × (m' ≡ swept i (commit_all found m))
Finishes false i found m m' = (IsFound m i found → ⊥) × (m' ≡ m)

-- whether those that were found may commit, and what a sweep of the instance leaves then
abbrev pub Sweeps : Bool → ℕ → List TxnId → State → State → Type 0
Sweeps true i found m m' = AreInDoubt m found × (m' ≡ swept i (commit_all found m))
Sweeps false i found m m' = AreInDoubt m found → ⊥

-- whether a reopening may find these committed, and what it leaves
abbrev pub Reopens : Bool → Outcome → State → State → Type 0
Reopens true o m m' = AreInDoubt m o.found × Left (commit_all o.found m) m' × IsLeftBy o (commit_all o.found m) m'
Reopens false o m m' = (AreInDoubt m o.found → ⊥) × (m' ≡ m)

-- the same, whatever it leaves where they may not commit
abbrev pub Leaves : Bool → Outcome → State → State → Type 0
Leaves true o m m' = Reopens true o m m'
Leaves false o m m' = AreInDoubt m o.found → ⊥

-- a loser of the instance is among the standings
abbrev pub HasLoserIn : List (TxnId × Standing) → ℕ → Type 0
HasLoserIn parts i = (t : TxnId) × (t.inst ≡ i) × ((part_in parts t).life ≡ Retained)

-- the instances with losers are down, and the others are as before
pub record Lowers (parts : List (TxnId × Standing)) (old new : ℕ → Inst) : Type 0 where
  pub each : (i : ℕ) → (new i ≡ old i) ⊎ (HasLoserIn parts i × (new i ≡ with_status Down (old i)))
  pub losers : (i : ℕ) → HasLoserIn parts i → new i ≡ with_status Down (old i)
