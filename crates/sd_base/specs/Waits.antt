-- Who waits for whom: when an asked lock is answered as blocked, and when as a deadlock.
use Rattle.std.specs.Prelude.{◌≡◌, ◌⊎◌, ◌≤◌, List, [], ◌∷◌, Option, None, Some, length, cond}
use Rattle.sd_base.specs.declared.ids.TxnId.{TxnId}
use Rattle.sd_base.specs.declared.ids.Rid.{Rid}
use Rattle.sd_base.specs.declared.place.Mode.{Mode}
use Rattle.sd_base.specs.declared.place.Mode.TheVariants as modes
use Rattle.sd_base.specs.Ids.{same_txn, IsBelow}

-- what a transaction waits for: a record, in a mode
pub record Wait : Type 0 where
  pub rid : Rid
  pub mode : Mode

abbrev pub Waits : Type 0
Waits = TxnId → Option Wait

-- the waits, with t waiting so, or for nothing
abbrev pub with_wait : TxnId → Option Wait → Waits → Waits
with_wait t wait waits u = cond {A = Option Wait} (same_txn t u) wait (waits u)

-- two locks of two transactions on one record conflict: one is exclusive
abbrev pub Clash : Mode → Mode → Type 0
Clash modes.Shared modes.Shared = ⊥
Clash modes.Shared modes.Excl = Unit {0}
Clash modes.Excl other = Unit {0}

-- Who stands in whose way: the last one is another than the first, and its lock conflicts with what the first would wait for.
abbrev pub Obstacles : Type 1
Obstacles = TxnId → Wait → TxnId → Type 0

-- t waits for u
abbrev pub WaitsFor : Obstacles → Waits → TxnId → TxnId → Type 0
WaitsFor stands waits t u = (wait : Wait) × (waits t ≡ Some wait) × stands t wait u

-- each of the list waits for the next one
abbrev pub IsChain : Obstacles → Waits → List TxnId → Type 0
IsChain stands waits [] = Unit {0}
IsChain stands waits (t ∷ []) = Unit {0}
IsChain stands waits (t ∷ u ∷ ts) = WaitsFor stands waits t u × IsChain stands waits (u ∷ ts)

abbrev pub EndsWith : TxnId → List TxnId → Type 0
EndsWith t [] = ⊥
EndsWith t (u ∷ []) = u ≡ t
EndsWith t (u ∷ v ∷ ts) = EndsWith t (v ∷ ts)

-- a cycle: it begins and ends with t, and each waits for the next one
abbrev pub IsCycle : Obstacles → Waits → TxnId → List TxnId → Type 0
IsCycle stands waits t [] = ⊥
IsCycle stands waits t (u ∷ []) = ⊥
IsCycle stands waits t (u ∷ v ∷ ts) = (u ≡ t) × EndsWith t (v ∷ ts) × IsChain stands waits (u ∷ v ∷ ts)

-- lists of transactions of one length, in their order: the first difference decides
abbrev pub ComesBefore : List TxnId → List TxnId → Type 0
ComesBefore [] ys = ⊥
ComesBefore (x ∷ xs) [] = ⊥
ComesBefore (x ∷ xs) (y ∷ ys) = IsBelow x y ⊎ ((x ≡ y) × ComesBefore xs ys)

-- the waits while t asks for this
abbrev pub asking : TxnId → Wait → Waits → Waits
asking t wait waits = with_wait t (Some wait) waits

-- the asked lock is blocked by this one: no cycle arises, and it is the lowest that stands in the way
pub record IsBlocked (stands : Obstacles) (waits : Waits) (t : TxnId) (wait : Wait) (by : TxnId) : Type 0 where
  pub obstructs : stands t wait by
  pub lowest : (u : TxnId) → stands t wait u → IsBelow u by → ⊥
  pub free : (cycle : List TxnId) → IsCycle stands (asking t wait waits) t cycle → ⊥

-- the asked lock would close this cycle: no other is shorter, and none of its length comes before it
pub record IsDeadlock (stands : Obstacles) (waits : Waits) (t : TxnId) (wait : Wait) (cycle : List TxnId) : Type 0 where
  pub closes : IsCycle stands (asking t wait waits) t cycle
  pub shortest : (other : List TxnId) → IsCycle stands (asking t wait waits) t other → length cycle ≤ length other
  pub lowest : (other : List TxnId) → IsCycle stands (asking t wait waits) t other → length other ≡ length cycle → ComesBefore other cycle → ⊥
