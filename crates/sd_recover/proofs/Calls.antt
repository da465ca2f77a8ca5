-- What the calls of a join require, of what those before them left: for the goals of `join` of src/joining.rt.
use Rattle.std.proofs.Common.{◌≡◌, ◌⊎◌, inr, ⊎_elim, ℕ, ◌≤◌, true, false, [], ap, ◌∙◌, arith}
use Rattle.std.specs.Prelude.{None, Some}
use Rattle.std.proofs.lemmas.List.{get_or-set_same}
use Rattle.sd_log.specs.Logs.{LogState, forced}
use Rattle.sd_rig.specs.Devices as rig
use Rattle.sd_chain.specs.Logs.{Outcomes}
use Rattle.sd_chain.proofs.Kept.{forced-tail}
use Rattle.sd_world.specs.Serving.{Core}
use Rattle.sd_state.specs.Forcing.{with_failed, with_forced}
use Rattle.sd_state.specs.Parts.{IsShape, Parts, acting, actor, is_loose, log_at, no_log, owed_at, status_at, up_as}
use Rattle.sd_update.specs.Sealing.{with_start}
use Rattle.sd_state.specs.Values.{Pending}
use Rattle.sd_state.proofs.Items.{item-set}
use Rattle.sd_update.proofs.SealedCalls.{settled-up}
use Rattle.sd_fits.specs.Fits.{Fits}
use Rattle.sd_recover.specs.Joining.{MayStart}

module _ (i lsn epoch spare : ℕ) (seen : rig.DeviceImages) (leaves : Outcomes) (c s : Parts) (w : Core) (f : Fits seen leaves c w)
    (low : 1 ≤ i) (high : i ≤ 8) (waits : MayStart (status_at c i)) (is : s ≡ with_start i lsn epoch spare c) where
  pub start-idle : s.due ≡ None
  start-idle = ap (λ (p : Parts). p.due) is ∙ f.idle

  pub start-settled : is_loose s i ≡ false
  start-settled = ap (λ (p : Parts). is_loose p i) is
      ∙ settled-up seen leaves Pending.Idle c w.scene.state i low high f.good f.idle
      (⊎_elim (λ e. ap up_as e) (λ e. ap up_as e) waits)

  start-status : status_at s i ≡ status_at c i
  start-status = ap (λ (p : Parts). status_at p i) is

  -- the force of its log took the Start along,
  module _ (k : Parts) (shape : IsShape s) (forces : k ≡ with_forced i (forced (log_at s i)) (owed_at k i) s) where
    pub joined-settled : is_loose k i ≡ false
    joined-settled = ap (λ (p : Parts). is_loose p i) forces ∙ start-settled

    pub joined-bare : (log_at k i).tail ≡ []
    joined-bare = ap (λ (p : Parts). (log_at p i).tail) forces
        ∙ ap (λ (l : LogState). l.tail) (item-set no_log s.logs i (forced (log_at s i)) low high shape.logs)
        ∙ forced-tail (log_at s i)

  -- or failed, so that the fall of the instance is due
  module _ (k : Parts) (shape : IsShape s) (fails : k ≡ with_failed (actor s i) i s) where
    own : actor s i ≡ i
    own = ⊎_elim (λ e. ap (acting i) (start-status ∙ e)) (λ e. ap (acting i) (start-status ∙ e)) waits

    pub failed-due : (k.due ≡ None) ⊎ ((j : ℕ) × (k.due ≡ Some (i, j)) × (is_loose k j ≡ true))
    failed-due = inr (
      i,
      ap (λ (p : Parts). p.due) fails ∙ ap (λ (a : ℕ). Some (a, i)) own,
      ap (λ (p : Parts). is_loose p i) fails
          ∙ get_or-set_same s.loose i true true (let nine = shape.loose in omega (arith, nine, high)),
    )
