-- What a table of record locks says: who holds what, who stands in whose way, and who waits for what.
use Rattle.std.specs.Prelude.{◌≡◌, ◌≢◌, ℕ, List, Option, None, Some, IsSome}
use Rattle.std.specs.Map.{lookup}
use Rattle.sd_base.specs.declared.ids.TxnId.{TxnId}
use Rattle.sd_base.specs.declared.ids.Rid.{Rid}
use Rattle.sd_base.specs.declared.place.Mode.{Mode}
use Rattle.sd_base.specs.declared.place.Mode.TheVariants as modes
use Rattle.sd_base.specs.Ids.{same_txn, same_rid, IsBelow}
use Rattle.sd_base.specs.Waits.{Wait, Waits, Clash, Obstacles}
pub use Rattle.sd_reclock.specs.declared.wait.Asked.{Asked}
pub use Rattle.sd_reclock.specs.Waiting.{wait_of, waits_in}

-- the locks on one record: each holder with its mode
abbrev pub Modes : Type 0
Modes = List (TxnId × Mode)

abbrev pub mode_of : Modes → TxnId → Option Mode
mode_of holders t = lookup (same_txn t) holders

-- u is another one than t, and its lock conflicts with one in the mode
abbrev pub ClashesIn : Modes → TxnId → Mode → TxnId → Type 0
ClashesIn holders t mode u = (t ≢ u) × ((held : Mode) × (mode_of holders u ≡ Some held) × Clash mode held)

-- the locks on all records
abbrev pub Held : Type 0
Held = List (Rid × Modes)

abbrev pub mode_among : Option Modes → TxnId → Option Mode
mode_among None t = None
mode_among (Some holders) t = mode_of holders t

-- the mode in which t holds r
abbrev pub held_in : Held → TxnId → Rid → Option Mode
held_in locks t r = mode_among (lookup (same_rid r) locks) t

-- u stands in the way of t, which would wait so: it is another one, and its lock on the record conflicts
pub record StandsIn (locks : Held) (t : TxnId) (wait : Wait) (u : TxnId) : Type 0 where
  pub other : t ≢ u
  pub mode : Mode
  pub holds : held_in locks u wait.rid ≡ Some mode
  pub clashes : Clash wait.mode mode

-- two locks of two transactions on one record never conflict
abbrev pub Agree : Held → Type 0
Agree locks = (r : Rid) (t u : TxnId) (m n : Mode) → t ≢ u → held_in locks t r ≡ Some m → held_in locks u r ≡ Some n → Clash m n → ⊥

-- a lock that is asked for again: Excl stays
abbrev pub raised : Option Mode → Mode → Mode
raised (Some modes.Excl) mode = modes.Excl
raised (Some modes.Shared) mode = mode
raised None mode = mode

-- of the transactions with a lock this is the lowest one other than `not`, or there is none
abbrev pub IsLowestHolder : (TxnId → Option Mode) → TxnId → Option TxnId → Type 0
IsLowestHolder modes_at not None = (u : TxnId) → not ≢ u → modes_at u ≡ None
IsLowestHolder modes_at not (Some by) = (not ≢ by) × IsSome (modes_at by) × ((u : TxnId) → not ≢ u → IsSome (modes_at u) → IsBelow u by → ⊥)

-- a lock that is lowered so, or taken away, is no stronger than it was
abbrev pub IsNoStronger : Option Mode → Option Mode → Type 0
IsNoStronger None had = Unit {0}
IsNoStronger (Some modes.Shared) had = IsSome had
IsNoStronger (Some modes.Excl) had = had ≡ Some modes.Excl

-- this transaction alone has an Excl lock, or none has
abbrev pub IsOwner : (TxnId → Option Mode) → Option TxnId → Type 0
IsOwner modes_at None = (u : TxnId) → modes_at u ≡ Some modes.Excl → ⊥
IsOwner modes_at (Some by) = (modes_at by ≡ Some modes.Excl) × ((u : TxnId) → modes_at u ≡ Some modes.Excl → u ≡ by)

-- two locks of two transactions among these never conflict
abbrev pub AgreeAmong : (TxnId → Option Mode) → Type 0
AgreeAmong modes_at = (t u : TxnId) (m n : Mode) → t ≢ u → modes_at t ≡ Some m → modes_at u ≡ Some n → Clash m n → ⊥

-- u has an Excl lock on a record of the page
pub record OwnsIn (locks : Held) (p : ℕ) (u : TxnId) : Type 0 where
  pub rid : Rid
  pub inside : rid.page ≡ p
  pub owns : held_in locks u rid ≡ Some modes.Excl

-- of those with an Excl lock on a record of the page this is the lowest, or there is none
abbrev pub IsLowestOwner : Held → ℕ → Option TxnId → Type 0
IsLowestOwner locks p None = (u : TxnId) → OwnsIn locks p u → ⊥
IsLowestOwner locks p (Some by) = OwnsIn locks p by × ((u : TxnId) → OwnsIn locks p u → IsBelow u by → ⊥)

abbrev pub wait_for : Rid → Mode → Wait
wait_for r mode = record { rid = r; mode = mode }

-- the locks and the waits
pub record LockTable : Type 0 where
  pub locks : Held
  pub waiting : List (TxnId × Asked)

abbrev pub held : LockTable → TxnId → Rid → Option Mode
held table t r = held_in table.locks t r

abbrev pub stands : LockTable → Obstacles
stands table t wait u = StandsIn table.locks t wait u

abbrev pub waits : LockTable → Waits
waits table t = waits_in table.waiting t
