-- The longer changes of a state: marks, undo, recovery and reopening.
use Rattle.std.specs.Prelude.{◌≡◌, ◌⊎◌, ℕ, ◌≤◌, Bool, true, false, List, [], ◌∷◌, ◌++◌, Option, None, Some, length, eqb, leb, cond, filter}
use Rattle.sd_base.specs.declared.ids.TxnId.{TxnId}
use Rattle.sd_base.specs.declared.ids.Rid.{Rid}
use Rattle.sd_base.specs.declared.place.Status.{Status}
use Rattle.sd_base.specs.declared.place.Status.TheVariants.{Down, Recovering, Clean, Restarting}
use Rattle.sd_model.specs.declared.act.Act.{Act}
use Rattle.sd_model.specs.declared.act.Claim.TheVariants.{Free, Excl}
use Rattle.sd_model.specs.declared.act.Cut.{Cut}
use Rattle.sd_model.specs.declared.act.Life.{Life}
use Rattle.sd_model.specs.declared.act.Life.TheVariants.{Gone, Running, Retained, Rolling, Doubt}
use Rattle.sd_model.specs.Words.{same_word}
use Rattle.sd_model.specs.Acts.{live, undone}
use Rattle.sd_model.specs.State.{State, Part, gone, put_part, put_inst, with_status, committed}

-- the number of live puts at a mark
abbrev pub mark_of : List ℕ → List (List ℕ × ℕ) → Option ℕ
mark_of k [] = None
mark_of k (x ∷ marks) = cond {A = Option ℕ} (same_word k x.0) (Some x.1) (mark_of k marks)

-- the marks with one more, in place of one of its name
abbrev pub with_mark : List ℕ → ℕ → List (List ℕ × ℕ) → List (List ℕ × ℕ)
with_mark k n [] = (k, n) ∷ []
with_mark k n (x ∷ marks) = cond {A = List (List ℕ × ℕ)} (same_word k x.0) ((k, n) ∷ marks) (x ∷ with_mark k n marks)

abbrev pub marked : TxnId → List ℕ → State → State
marked t k m = put_part t (record (m.part t) { marks = with_mark k (length (live (m.part t).acts)) (m.part t).marks }) m

-- the number of live puts to which it rolls back
abbrev pub goal : Option ℕ → ℕ
goal None = 0
goal (Some n) = n

-- one put is undone, and marks beyond those that are left go
abbrev pub undid_part : Part → Part
undid_part p = record p {
  acts = p.acts ++ Act.Undo ∷ [];
  marks = filter (λ (x : List ℕ × ℕ). leb x.1 (length (undone (live p.acts)))) p.marks;
}

abbrev pub undid : TxnId → State → State
undid t m = put_part t (undid_part (m.part t)) m

-- those in doubt that turn out to be committed, one after another
abbrev pub commit_all : List TxnId → State → State
commit_all [] m = m
commit_all (t ∷ ts) m = commit_all ts (committed t m)

-- each was cut while it committed, and is in doubt when its turn comes, so none comes twice
abbrev pub AreInDoubt : State → List TxnId → Type 0
AreInDoubt m [] = Unit {0}
AreInDoubt m (t ∷ ts) = ((m.part t).life ≡ Doubt Cut.Committing) × AreInDoubt (committed t m) ts

abbrev pub AreOf : ℕ → List TxnId → Type 0
AreOf i [] = Unit {0}
AreOf i (t ∷ ts) = (t.inst ≡ i) × AreOf i ts

-- a recovery has nothing left of one that stands so
abbrev pub is_swept : Life → Bool
is_swept Gone = true
is_swept Running = false
is_swept Retained = true
is_swept (Rolling to) = false
is_swept (Doubt cut) = true

abbrev pub swept_part : Part → Part
swept_part p = cond (is_swept p.life) gone p

-- how an instance stands when its recovery has finished
abbrev pub after_recovery : ℕ → Status → Status
after_recovery i (Recovering by) = cond (eqb i by) Restarting Clean
after_recovery i status = Clean

-- i is recovered, and its losers are gone
abbrev pub swept : ℕ → State → State
swept i m = put_inst i (with_status (after_recovery i (m.inst i).status) (m.inst i))
    (record m { part = λ t. cond (eqb i t.inst) (swept_part (m.part t)) (m.part t) })

-- the recovery of i has finished: its one in doubt is committed or gone, its losers are gone
abbrev pub Recovered : ℕ → State → State → Type 0
Recovered i m m' = (kept : List TxnId) × (length kept ≤ 1) × AreOf i kept × AreInDoubt m kept × (m' ≡ swept i (commit_all kept m))

-- it stays a loser, with some of its exclusive claims, or none, and no other claims
pub record IsLoser (old new : Part) : Type 0 where
  pub was : (old.life ≡ Retained) ⊎ ((cut : Cut) × (old.life ≡ Doubt cut))
  pub life : new.life ≡ Retained
  pub acts : new.acts ≡ old.acts
  pub marks : new.marks ≡ []
  pub claims : (r : Rid) → (new.claims r ≡ Free) ⊎ ((new.claims r ≡ Excl) × (old.claims r ≡ Excl))

abbrev pub HasLoser : State → ℕ → Type 0
HasLoser m i = (t : TxnId) × (t.inst ≡ i) × ((m.part t).life ≡ Retained)

-- what reopening makes of a state in which those in doubt that are committed have joined the others
pub record Left (m m' : State) : Type 0 where
  pub start : m'.start ≡ m.start
  pub done : m'.done ≡ m.done
  pub begun : m'.begun ≡ m.begun
  pub cuts : m'.cuts ≡ m.cuts
  pub part : (t : TxnId) → (m'.part t ≡ gone) ⊎ IsLoser (m.part t) (m'.part t)
  pub inst : (i : ℕ) → m'.inst i ≡ with_status (m'.inst i).status (m.inst i)
  pub down : (i : ℕ) → HasLoser m' i → (m'.inst i).status ≡ Down
  -- those without losers are all clean, or, where a page is lost, all down
  pub others : (s : Status) × ((s ≡ Clean) ⊎ (s ≡ Down)) × ((i : ℕ) → (HasLoser m' i → ⊥) → (m'.inst i).status ≡ s)

abbrev pub Reopened : State → State → Type 0
Reopened m m' = (kept : List TxnId) × AreInDoubt m kept × Left (commit_all kept m) m'
