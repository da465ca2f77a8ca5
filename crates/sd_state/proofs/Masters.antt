-- Masters that may be left: those that might be left before. For the force of a log.
use Rattle.std.proofs.Common.{◌≡◌, ◌≢◌, ⊎_elim, ℕ, ◌≤◌, List, refl, sym, ◌∙◌, subst}
use Rattle.std.proofs.lemmas.Bool.{cases_eq}
use Rattle.sd_logrec.specs.Kept.{master}
use Rattle.sd_rig.specs.Devices.{AgreesOutside, LeavesSame}
use Rattle.sd_chain.proofs.Kept.{master-same}
use Rattle.sd_chain.specs.Logs.{Outcomes}
use Rattle.sd_state.specs.Forcing.{KeepMasters}

-- where at most as much may be left of each log
pub masters-less : (old new : Outcomes) → ((j : ℕ) → 1 ≤ j → (bytes : List ℕ) → new j bytes → old j bytes) → KeepMasters old new
masters-less old new less j low bytes left = (bytes, less j low bytes left, refl)

pub masters-then : (old mid new : Outcomes) → KeepMasters old mid → KeepMasters mid new → KeepMasters old new
masters-then old mid new one other j low bytes left =
    let b = other j low bytes left in
    let a = one j low b.0 b.1 in
    (a.0, a.1, b.2 ∙ a.2)

-- where what is left of log i differs from what it was behind its master alone
pub masters-outside : (at n i : ℕ) (was : List ℕ) (old new : Outcomes) → 130 ≤ at → old i was
    → ((bytes : List ℕ) → new i bytes → AgreesOutside at n was bytes)
    → ((d : ℕ) → d ≢ i → LeavesSame (old d) (new d)) → KeepMasters old new
masters-outside at n i was old new behind here outside others j low = ⊎_elim
    (λ e. subst (λ (k : ℕ). (bytes : List ℕ) → new k bytes → (was : List ℕ) × old k was × (master bytes ≡ master was)) (sym e)
    (λ bytes left. (was, here, master-same at n was bytes behind (outside bytes left))))
    (λ ne bytes left. (bytes, (others j ne bytes).0 left, refl))
    (cases_eq j i)
