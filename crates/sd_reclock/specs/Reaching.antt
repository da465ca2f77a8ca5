-- Walks along steps, from one that waits to one that it waits for, and how far the search for the first walk has come.
use Rattle.std.specs.Prelude.{◌≡◌, ◌≢◌, ◌⊎◌, ◌↔◌, ℕ, ◌<◌, ◌≤◌, Bool, true, List, [], ◌∷◌, length, slice_index_or}
use Rattle.std.specs.List.{Contains}
use Rattle.sd_base.specs.declared.ids.TxnId.{TxnId}
use Rattle.sd_base.specs.Ids.{IsBelow}
use Rattle.sd_reclock.specs.declared.deadlock.Met.{Met}

abbrev pub Steps : Type 1
Steps = TxnId → TxnId → Type 0

-- exactly those of which P holds
abbrev pub AreThose : (TxnId → Type 0) → List TxnId → Type 0
AreThose P xs = (u : TxnId) → (Contains xs u ↔ P u)

-- the same, from the lowest up
pub record AreNext (P : TxnId → Type 0) (xs : List TxnId) : Type 0 where
  pub those : AreThose P xs
  pub rising : (i j : ℕ) (d : TxnId) → i < j → j < length xs → IsBelow (slice_index_or xs j d) (slice_index_or xs i d) → ⊥

-- a walk from t to u, told from its end: the list has who comes before u, then who comes before that one, down to t
abbrev pub IsBack : Steps → TxnId → TxnId → List TxnId → Type 0
IsBack steps t u [] = u ≡ t
IsBack steps t u (v ∷ vs) = steps v u × IsBack steps t v vs

-- of two walks of one length, told from their ends, the first comes before: the first difference from t on decides
abbrev pub IsEarlier : List TxnId → List TxnId → Type 0
IsEarlier [] ys = ⊥
IsEarlier (x ∷ xs) [] = ⊥
IsEarlier (x ∷ xs) (y ∷ ys) = IsEarlier xs ys ⊎ ((xs ≡ ys) × IsBelow x y)

-- the first walk is shorter, or as long and comes before
abbrev pub Precedes : List TxnId → List TxnId → Type 0
Precedes xs ys = (length xs < length ys) ⊎ ((length xs ≡ length ys) × IsEarlier xs ys)

-- the one at a place; t is at the first
abbrev pub met_at : TxnId → List Met → ℕ → Met
met_at t found k = slice_index_or found k (record { txn = t; from = 0 })

-- the way by which the one at the place k was met, told from its end
abbrev pub IsWay : TxnId → List Met → ℕ → List TxnId → Type 0
IsWay t found k [] = k ≡ 0
IsWay t found k (x ∷ xs) = (0 < k) × ((met_at t found (met_at t found k).from).txn ≡ x) × IsWay t found (met_at t found k).from xs

-- u was met
abbrev pub IsMet : TxnId → List Met → TxnId → Type 0
IsMet t found u = (k : ℕ) × (k < length found) × ((met_at t found k).txn ≡ u)

-- Those in front of the place `at` have been looked at: all that wait of those that they wait for are met, and t isn't among
-- these; of those that the one at the place waits for these are done. Each was met by the first of the walks to it, and they
-- stand in the order of their walks.
pub record IsReached (steps : Steps) (waits : TxnId → Type 0) (t : TxnId) (found : List Met) (seen : TxnId → Bool) (at : ℕ) (done : List TxnId) : Type 0 where
  pub way : ℕ → List TxnId
  pub some : 0 < length found
  pub start : (met_at t found 0).txn ≡ t
  pub origin : way 0 ≡ []
  pub back : (k : ℕ) → 0 < k → k < length found → (met_at t found k).from < k
  pub before : (k : ℕ) → 0 < k → k < length found → (met_at t found k).from ≤ at
  pub child : (k : ℕ) → 0 < k → k < length found → (met_at t found k).from ≡ at → Contains done (met_at t found k).txn
  pub longer : (k : ℕ) → 0 < k → k < length found → way k ≡ (met_at t found (met_at t found k).from).txn ∷ way (met_at t found k).from
  pub leads : (k : ℕ) → k < length found → IsBack steps t (met_at t found k).txn (way k)
  pub order : (k l : ℕ) → k < l → l < length found → Precedes ((met_at t found k).txn ∷ way k) ((met_at t found l).txn ∷ way l)
  pub least : (k : ℕ) → k < length found → (walk : List TxnId) → IsBack steps t (met_at t found k).txn walk → Precedes walk (way k) → ⊥
  pub closed : (k : ℕ) → k < at → k < length found → (u : TxnId) → steps (met_at t found k).txn u → (u ≢ t) × (waits u → IsMet t found u)
  pub gone : (u : TxnId) → Contains done u → waits u → IsMet t found u
  pub seen_met : (u : TxnId) → seen u ≡ true → IsMet t found u
  pub met_seen : (u : TxnId) → IsMet t found u → u ≢ t → seen u ≡ true
