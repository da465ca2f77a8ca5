-- What a join leaves of what no world has, and its calls of devices: for the goals of `join`.
use Rattle.std.proofs.Common.{◌≡◌, ◌≢◌, ◌⊎◌, ⊎_elim, ℕ, ◌≤◌, [], length, sym, ap, ◌∙◌, subst}
use Rattle.sd_base.specs.declared.refusal.Refusal.{Refusal}
use Rattle.sd_base.specs.declared.refusal.Refusal.TheVariants as R
use Rattle.sd_log.specs.Logs.{LogState}
use Rattle.sd_moves.specs.Falling.{IsFallen, with_fallen}
use Rattle.sd_pagelock.specs.Directory.{rec_lsn_at}
use Rattle.sd_state.specs.Forcing.{with_failed, with_forced}
use Rattle.sd_state.specs.Joining.{with_joined}
use Rattle.sd_state.specs.Parts.{IsShape, Parts, is_loose, log_at, no_log, pool_at, status_at, txns_at}
use Rattle.sd_state.proofs.Items.{item-kept, item-set}
use Rattle.sd_update.specs.Sealing.{with_start}
use Rattle.sd_update.proofs.UndoneForCalls.{some-tail}
use Rattle.sd_fits.specs.Untouched.{FallTouches, IsUntouched, none_of, only}
use Rattle.sd_recover.specs.Joining.{StaysOut}
use Rattle.sd_recover.proofs.Touched.{failed-kept, failed-marks, fall-touches, only-other}

-- neither why an instance stays out nor why its Start is refused is a device that failed
pub out-failed : (c : Parts) (i : ℕ) (n : Refusal) → StaysOut c i n → n ≡ R.Failed → ⊥
out-failed c i n out e = subst (StaysOut c i) e out

pub seal-failed : (n : Refusal) → (n ≡ R.LogFull) ⊎ ((n ≡ R.LsnEnd) ⊎ (n ≡ R.Memory)) → n ≡ R.Failed → ⊥
seal-failed n why e = ⊎_elim (λ a. absurd (cc)) (λ b. ⊎_elim (λ a. absurd (cc)) (λ a. absurd (cc)) b) why

module _ (i lsn epoch spare : ℕ) (old s : Parts) (low : 1 ≤ i) (high : i ≤ 8) (shape : IsShape old) (is : s ≡ with_start i lsn epoch spare old) where
  -- its log has the Start
  pub start-tail : (log_at s i).tail ≢ []
  start-tail e = some-tail (log_at old i).tail _
      (ap (λ (l : LogState). l.tail) (sym (ap (λ (c : Parts). log_at c i) is ∙ item-set no_log old.logs i _ low high shape.logs)) ∙ e)

  -- the force took it along, and the instance is up
  module _ (log : LogState) (owes : ℕ) (k new : Parts) (forces : k ≡ with_forced i log owes s) (joins : new ≡ with_joined i k) where
    pub join-untouched : IsUntouched none_of none_of old new
    join-untouched = record {
      loose = ap (λ (c : Parts). c.loose) joins ∙ ap (λ (c : Parts). c.loose) forces ∙ ap (λ (c : Parts). c.loose) is;
      checks = ap (λ (c : Parts). c.checks) joins ∙ ap (λ (c : Parts). c.checks) forces ∙ ap (λ (c : Parts). c.checks) is;
      masters = ap (λ (c : Parts). c.masters) joins ∙ ap (λ (c : Parts). c.masters) forces ∙ ap (λ (c : Parts). c.masters) is;
      others = ap (λ (c : Parts). c.others) joins ∙ ap (λ (c : Parts). c.others) forces ∙ ap (λ (c : Parts). c.others) is;
      disk_lsn = ap (λ (c : Parts). c.disk_lsn) joins ∙ ap (λ (c : Parts). c.disk_lsn) forces ∙ ap (λ (c : Parts). c.disk_lsn) is;
      pools = λ j off. ap (λ (c : Parts). pool_at c j) joins ∙ ap (λ (c : Parts). pool_at c j) forces ∙ ap (λ (c : Parts). pool_at c j) is;
      recs = λ p off. ap (λ (c : Parts). rec_lsn_at c.directory p) joins ∙ ap (λ (c : Parts). rec_lsn_at c.directory p) forces
          ∙ ap (λ (c : Parts). rec_lsn_at c.directory p) is;
    }

  -- or failed, and the instance fell
  module _ (a : ℕ) (k new : Parts) (fails : k ≡ with_failed a i s) (fell : new ≡ with_fallen i new k) (fallen : IsFallen i k new) where
    pub join-touches : FallTouches i (only i) none_of old new
    join-touches = fall-touches i (only i) none_of old k new low
        (λ j. ap (λ (c : Parts). status_at c j) fails ∙ ap (λ (c : Parts). status_at c j) is)
        (λ d off. failed-marks a i s k fails d (only-other i d off) ∙ ap (λ (c : Parts). is_loose c d) is)
        (λ d on. failed-kept a i s k fails high (ap (λ (c : Parts). length c.loose) is ∙ shape.loose) d
        (ap (λ (c : Parts). is_loose c d) is ∙ on))
        (λ d off. ap (λ (c : Parts). log_at c d) fails ∙ ap (λ (c : Parts). log_at c d) is
        ∙ item-kept no_log old.logs i _ low d (only-other i d off))
        (λ j ne. ap (λ (c : Parts). txns_at c j) fails ∙ ap (λ (c : Parts). txns_at c j) is)
        (ap (λ (c : Parts). c.checks) fails ∙ ap (λ (c : Parts). c.checks) is)
        (ap (λ (c : Parts). c.masters) fails ∙ ap (λ (c : Parts). c.masters) is)
        (ap (λ (c : Parts). c.others) fails ∙ ap (λ (c : Parts). c.others) is)
        (ap (λ (c : Parts). c.disk_lsn) fails ∙ ap (λ (c : Parts). c.disk_lsn) is)
        (ap (λ (c : Parts). (pool_at c i).frames) fails ∙ ap (λ (c : Parts). (pool_at c i).frames) is)
        (λ j ne. ap (λ (c : Parts). pool_at c j) fails ∙ ap (λ (c : Parts). pool_at c j) is)
        (λ p off. ap (λ (c : Parts). rec_lsn_at c.directory p) fails ∙ ap (λ (c : Parts). rec_lsn_at c.directory p) is)
        fell fallen
