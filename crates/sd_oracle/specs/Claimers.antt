-- Who has a claim that stands in the way of another one, or an exclusive one on a page.
use Rattle.std.specs.Prelude.{◌≡◌, ℕ, List, [], ◌∷◌, None, ◌≢◌, ◌⊎◌}
use Rattle.sd_base.specs.declared.ids.TxnId.{TxnId}
use Rattle.sd_base.specs.declared.ids.Rid.{Rid}
use Rattle.sd_model.specs.declared.act.Claim.{Claim}
use Rattle.sd_model.specs.declared.act.Claim.TheVariants.{Excl}
use Rattle.sd_model.specs.State.{State, view}
use Rattle.sd_oracle.specs.Lists.{claims_in}
use Rattle.sd_base.specs.Ids.{IsBelow}
use Rattle.sd_model.specs.Claims.{Holds, Clash}

-- an exclusive claim on a record of the page is among the claims
abbrev pub HasExcl : List (Rid × Claim) → ℕ → Type 0
HasExcl claims p = (slot : ℕ) × (claims_in claims (record { page = p; slot = slot }) ≡ Excl)

-- u is another transaction than t, and its claim on the record conflicts with one in this mode
abbrev pub Obstructs : State → TxnId → Rid → Claim → TxnId → Type 0
Obstructs m t r mode u = (t ≢ u) × Clash mode ((m.part u).claims r)

-- the lowest such
abbrev pub IsLowestObstacle : State → TxnId → Rid → Claim → TxnId → Type 0
IsLowestObstacle m t r mode by = Obstructs m t r mode by × ((u : TxnId) → Obstructs m t r mode u → IsBelow u by → ⊥)

-- u is another transaction than t, and has a claim on a slot of the page in which t finds no record
abbrev pub ClaimsSlot : State → TxnId → ℕ → TxnId → Type 0
ClaimsSlot m t p u = (slot : ℕ) × (view m t (record { page = p; slot = slot }) ≡ None) × Obstructs m t (record { page = p; slot = slot }) Excl u

-- one of the claims is on such a slot
abbrev pub AnySlot : State → TxnId → ℕ → List (Rid × Claim) → Type 0
AnySlot m t p [] = ⊥
AnySlot m t p (x ∷ xs) = ((x.0.page ≡ p) × Holds x.1 × (view m t x.0 ≡ None)) ⊎ AnySlot m t p xs
