-- What the end of a recovery makes of the table that stands once those in doubt are decided.
use Rattle.std.specs.Prelude.{◌≡◌, ℕ, Bool, true, false, List, [], ◌∷◌, ◌++◌, ◌&&◌, filter}
use Rattle.sd_base.specs.declared.ids.TxnId.{TxnId}
use Rattle.sd_base.specs.declared.ids.Rid.{Rid}
use Rattle.sd_model.specs.declared.act.Cut.TheVariants as Cut
use Rattle.sd_model.specs.declared.act.Life.{Life}
use Rattle.sd_model.specs.declared.act.Life.TheVariants.{Gone, Running, Retained, Rolling, Doubt}
use Rattle.sd_model.specs.Tables.{Contents}
use Rattle.sd_model.specs.Acts.{after}
use Rattle.sd_model.specs.State.{State}
use Rattle.sd_model.specs.Changes.{swept, commit_all}
use Rattle.sd_model.specs.Apart.{dones}
use Rattle.sd_model.specs.Kept.{Kept}
use Rattle.sd_model.specs.Lives.{IsDoubt, LivesAreSound}
use Rattle.sd_model.specs.Listed.{Listed}

abbrev pub is_doubt : Life → Bool
is_doubt Gone = false
is_doubt Running = false
is_doubt Retained = false
is_doubt (Rolling to) = false
is_doubt (Doubt cut) = true

-- t is in doubt, and its commit is kept
abbrev pub picks : State → (TxnId → Bool) → TxnId → Bool
picks m kept t = is_doubt (m.part t).life && kept t

-- those in doubt whose commit is kept, in the order in which they were cut
abbrev pub picked : State → (TxnId → Bool) → List TxnId
picked m kept = filter (picks m kept) m.cuts

-- the table where these are committed too
abbrev pub standing : State → (TxnId → Bool) → Contents
standing m kept = after m.start (m.done ++ dones m (picked m kept))

-- The recovery of i ends with its one in doubt committed. The table stays, though others that were cut before are still
-- in doubt.
abbrev pub FinishedCommitted : Type 0
FinishedCommitted = (m : State) → Kept m → LivesAreSound m → Listed m → (i : ℕ) (t : TxnId) → t.inst ≡ i → (m.part t).life ≡ Doubt Cut.Committing
    → (kept : TxnId → Bool) → kept t ≡ true → (r : Rid) → standing (swept i (commit_all (t ∷ []) m)) kept r ≡ standing m kept r

-- the recovery of i ends with none committed, where no commit of one in doubt there is kept: the table stays
abbrev pub FinishedEmpty : Type 0
FinishedEmpty = (m : State) (i : ℕ) (kept : TxnId → Bool) → ((t : TxnId) → t.inst ≡ i → IsDoubt (m.part t).life → kept t ≡ false)
    → (r : Rid) → standing (swept i (commit_all [] m)) kept r ≡ standing m kept r
