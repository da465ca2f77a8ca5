-- A step clears what it is to clear: for the goals of `work_on`.
use Rattle.std.proofs.Common.{◌≡◌, ⊎_elim, ℕ, ◌<◌, Bool, true, false, subst, arith}
use Rattle.std.proofs.lemmas.Bool.{cases_eq, cases_lt}
use Rattle.sd_pagelock.specs.Directory.{entry_at}
use Rattle.sd_pagelock.specs.Places.{is_lost}
use Rattle.sd_state.specs.Parts.{Parts, is_loose}
use Rattle.sd_recover.specs.Recovering.{FreesOne, HasCleared, SettlesOne}
use Rattle.sd_recover.specs.Tasks.{AreThere, IsNext}
use Rattle.sd_recover.specs.declared.tasks.Task.{Task}
use Rattle.sd_recover.specs.declared.tasks.Task.TheVariants as task

pub opposite : (b : Bool) → b ≡ true → b ≡ false → ⊥
opposite b t f = cc

-- of two lowest there is one
pub lowest-one : (f : ℕ → Bool) (a b : ℕ) → f a ≡ true → ((d : ℕ) → d < a → f d ≡ false) → f b ≡ true → ((d : ℕ) → d < b → f d ≡ false)
    → a ≡ b
lowest-one f a b at below at' below' = ⊎_elim
    (λ lt. absurd (opposite (f a) at (below' a lt)))
    (λ le. ⊎_elim (λ e. e) (λ ne. absurd (opposite (f b) at' (below b (omega (arith, le, ne))))) (cases_eq a b))
    (cases_lt a b)

-- what this task clears is done
abbrev pub Clears : Parts → Parts → Task → Type 0
Clears old new (task.Settle dev) = SettlesOne dev old new
Clears old new (task.Rebuild p) = FreesOne p old new
Clears old new next = Unit {0}

pub there-cleared : (c new : Parts) → AreThere c → HasCleared c new
there-cleared c new there = (
  λ dev lowest. absurd (opposite (is_loose c dev) lowest.1 (there.0 dev lowest.0)),
  λ settled p lowest. absurd (opposite (is_lost (entry_at c.directory p)) lowest.0 (there.1 p)),
)

-- then what is to be cleared is
pub next-cleared : (c new : Parts) (i : ℕ) (next : Task) → IsNext c i next → Clears c new next → HasCleared c new
next-cleared c new i (task.Settle dev) h done = (
  λ d lowest. subst (λ (k : ℕ). SettlesOne k c new) (lowest-one (is_loose c) dev d h.1 h.2 lowest.1 lowest.2) done,
  λ settled p lowest. absurd (opposite (is_loose c dev) h.1 (settled dev h.0)),
)
next-cleared c new i (task.Rebuild p) h done = (
  λ dev lowest. absurd (opposite (is_loose c dev) lowest.1 (h.0 dev lowest.0)),
  λ settled q lowest. subst (λ (k : ℕ). FreesOne k c new)
      (lowest-one (λ k. is_lost (entry_at c.directory k)) p q h.1.0 h.1.1 lowest.0 lowest.1) done,
)
next-cleared c new i (task.Decide t) h done = there-cleared c new h.0
next-cleared c new i (task.Undo t p) h done = there-cleared c new h.0
next-cleared c new i (task.End t) h done = there-cleared c new h.0
next-cleared c new i task.Done h done = there-cleared c new h.0
