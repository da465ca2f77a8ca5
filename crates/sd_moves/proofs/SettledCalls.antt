-- A log is settled by what was read of it, and its device by a sync: for `settle_log` and `settle`.
use Rattle.std.proofs.Common.{◌≡◌, ℕ, ◌≤◌, true, sym, subst}
use Rattle.std.specs.Prelude.{None}
use Rattle.sd_model.specs.State.{State}
use Rattle.sd_rig.specs.Devices as rig
use Rattle.sd_rig.specs.Devices.{IsUnchanged, LeavesOnly, Span}
use Rattle.sd_chain.specs.Logs.{Outcomes}
use Rattle.sd_state.specs.Good.{Good}
use Rattle.sd_state.specs.Parts.{Parts, is_loose, txns_at}
use Rattle.sd_state.specs.Values.{Pending}
use Rattle.sd_moves.specs.Settling.{IsFoundAgain, with_found}
use Rattle.sd_moves.specs.declared.reread.Reread.{Reread}
use Rattle.sd_moves.proofs.SettledFound.{found-read, found-same}
use Rattle.sd_moves.proofs.SettledWhole.{reread-good}

-- The complex with what was read of a log is good.
pub settled-good : (i : ℕ) (found : Reread) (c : Parts) (seen : rig.DeviceImages) (leaves : Outcomes) (m : State) → 1 ≤ i → i ≤ 8
    → Good seen leaves Pending.Idle c m → is_loose c i ≡ true → c.due ≡ None → LeavesOnly (seen i) (leaves i)
    → ((d : ℕ) → d ≤ 8 → leaves d (seen d)) → IsFoundAgain i (seen i) (txns_at c i) found
    → Good seen leaves Pending.Idle (with_found i found c) m
settled-good i found c seen leaves m low high g loose idle only reads f =
    subst (λ (p : Parts). Good seen leaves Pending.Idle p m) (sym (found-same i found c low high g.shape))
    (reread-good i seen leaves c (with_found i found c) m low high g loose idle only reads
    (found-read i found c low high g.shape (seen i) f))

-- Calls that leave devices as they are add no image.
pub span-still : (t : ℕ) (s s' : rig.DeviceImages) (l l' : Outcomes) (a b : ℕ) (since since' : ℕ → rig.DeviceImages → Type 0)
    → IsUnchanged s s' l l' a b since since' → (P : rig.DeviceImages → Type 0) → Span t since P → Span t since' P
span-still t s s' l l' a b since since' u P f = record { each = λ img h. f.each img ((u.past t img).0 h) }
