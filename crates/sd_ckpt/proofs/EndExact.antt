-- For which causes an end of a checkpoint is refused, each exactly. For the goals of `check_end`.
use Rattle.std.proofs.Common.{◌≡◌, ◌⊎◌, inl, ⊎_elim, ℕ, refl, sym, ◌∙◌, subst, arith}
use Rattle.std.specs.Prelude.{◌↔◌, Option, None, Some, Result, Err}
use Rattle.sd_base.specs.declared.refusal.Refusal.{Refusal}
use Rattle.sd_base.specs.declared.refusal.Refusal.TheVariants as R
use Rattle.sd_state.specs.Good.{TakesCheck}
use Rattle.sd_state.specs.Parts.{Begun, Parts, check_at, status_at}
use Rattle.sd_update.specs.Sealing.{NoRoomFor}
use Rattle.sd_ckpt.specs.Endings.{FindsNoRoom, FindsNoneLeft, MayEnd, NoneLeft, StaysUnended, end_len}

-- The answer tells each cause exactly.
pub record IsExactly (i : ℕ) (c : Parts) (r : Result (Unit {0}) Refusal) : Type 0 where
  pub down : (r ≡ Err R.Down) ↔ (TakesCheck (status_at c i) → ⊥)
  pub none : (r ≡ Err R.NoCheck) ↔ (TakesCheck (status_at c i) × (check_at c i ≡ None))
  pub full : (r ≡ Err R.LogFull) ↔ FindsNoRoom i c
  pub lsns : (r ≡ Err R.LsnEnd) ↔ FindsNoneLeft i c

same-some : (a b : Begun) → ◌≡◌ {A = Option Begun} (Some a) (Some b) → a ≡ b
same-some a b e = cc

module _ (i : ℕ) (c : Parts) where
  -- one that is neither up nor restarting has begun none
  pub exact-down : (TakesCheck (status_at c i) → ⊥) → ((k : Begun) → check_at c i ≡ Some k → TakesCheck (status_at c i))
      → IsExactly i c (Err R.Down)
  exact-down out begun = record {
    down = ((λ e. out), (λ o. refl));
    none = ((λ e. absurd (cc)), (λ h. absurd (out h.0)));
    full = ((λ e. absurd (cc)), (λ h. absurd (out (begun h.0 h.1))));
    lsns = ((λ e. absurd (cc)), (λ h. absurd (out (begun h.0 h.1))));
  }

  module _ (takes : TakesCheck (status_at c i)) where
    exact-none : check_at c i ≡ None → IsExactly i c (Err R.NoCheck)
    exact-none none = record {
      down = ((λ e. absurd (cc)), (λ o. absurd (o takes)));
      none = ((λ e. (takes, none)), (λ h. refl));
      full = ((λ e. absurd (cc)), (λ h. absurd (never h.0 h.1)));
      lsns = ((λ e. absurd (cc)), (λ h. absurd (never h.0 h.1)));
    }
      where
        never : (k : Begun) → check_at c i ≡ Some k → ⊥
        never k is = let clash : None ≡ Some k = sym none ∙ is in absurd (cc)

    not-none : (k : Begun) → check_at c i ≡ Some k → check_at c i ≡ None → ⊥
    not-none k is none = let clash : Some k ≡ None = sym is ∙ none in absurd (cc)

    exact-full : FindsNoRoom i c → IsExactly i c (Err R.LogFull)
    exact-full why = record {
      down = ((λ e. absurd (cc)), (λ o. absurd (o takes)));
      none = ((λ e. absurd (cc)), (λ h. absurd (not-none why.0 why.1 h.1)));
      full = ((λ e. why), (λ h. refl));
      lsns = (
        (λ e. absurd (cc)),
        (λ h. absurd (h.2 (subst (λ (k : Begun). NoRoomFor i (end_len k) c)
            (same-some why.0 h.0 (sym why.1 ∙ h.1)) why.2))),
      );
    }

    exact-last : FindsNoneLeft i c → IsExactly i c (Err R.LsnEnd)
    exact-last why = record {
      down = ((λ e. absurd (cc)), (λ o. absurd (o takes)));
      none = ((λ e. absurd (cc)), (λ h. absurd (not-none why.0 why.1 h.1)));
      full = (
        (λ e. absurd (cc)),
        (λ h. absurd (why.2 (subst (λ (k : Begun). NoRoomFor i (end_len k) c)
            (same-some h.0 why.0 (sym h.1 ∙ why.1)) h.2))),
      );
      lsns = ((λ e. why), (λ h. refl));
    }

    none-left : (k : Begun) → MayEnd i k c → NoneLeft i c → ⊥
    none-left k may left = ⊎_elim may.lsns (λ e. let few = may.count in absurd (omega (arith, e, few))) left

    -- one that may end is refused for want of memory alone, or for a device
    pub exact-may : (k : Begun) → MayEnd i k c → (r : Result (Unit {0}) Refusal)
        → ((n : Refusal) → r ≡ Err n → (n ≡ R.Memory) ⊎ (n ≡ R.Failed)) → IsExactly i c r
    exact-may k may r only = record {
      down = ((λ e. absurd (never e)), (λ o. absurd (o takes)));
      none = ((λ e. absurd (none e)), (λ h. absurd (not-none k may.begun h.1)));
      full = (
        (λ e. absurd (full e)),
        (λ h. absurd (may.room (subst (λ (b : Begun). NoRoomFor i (end_len b) c)
            (same-some h.0 k (sym h.1 ∙ may.begun)) h.2))),
      );
      lsns = ((λ e. absurd (last e)), (λ h. absurd (none-left k may h.3)));
    }
      where
        never : r ≡ Err R.Down → ⊥
        never e = ⊎_elim (λ a. absurd (cc)) (λ a. absurd (cc)) (only R.Down e)

        none : r ≡ Err R.NoCheck → ⊥
        none e = ⊎_elim (λ a. absurd (cc)) (λ a. absurd (cc)) (only R.NoCheck e)

        full : r ≡ Err R.LogFull → ⊥
        full e = ⊎_elim (λ a. absurd (cc)) (λ a. absurd (cc)) (only R.LogFull e)

        last : r ≡ Err R.LsnEnd → ⊥
        last e = ⊎_elim (λ a. absurd (cc)) (λ a. absurd (cc)) (only R.LsnEnd e)

    memory-only : (n : Refusal) → ◌≡◌ {A = Result (Unit {0}) Refusal} (Err R.Memory) (Err n) → (n ≡ R.Memory) ⊎ (n ≡ R.Failed)
    memory-only n e = let is : R.Memory ≡ n = cc in inl (sym is)

    -- the test of it tells each exactly
    pub exact-unended : (n : Refusal) → StaysUnended i c n → IsExactly i c (Err n)
    exact-unended R.NoCheck why = exact-none why
    exact-unended R.LogFull why = exact-full why
    exact-unended R.LsnEnd why = exact-last why
    exact-unended R.Memory why = exact-may why.0 why.1 (Err R.Memory) memory-only
    exact-unended n why = absurd why

-- which is never a device
pub unended-failed : (i : ℕ) (c : Parts) (n : Refusal) → StaysUnended i c n → (r : Result (Unit {0}) Refusal) → r ≡ Err n
    → r ≡ Err R.Failed → ⊥
unended-failed i c n why r is e =
    let both : ◌≡◌ {A = Result (Unit {0}) Refusal} (Err n) (Err R.Failed) = sym is ∙ e in
    let same : n ≡ R.Failed = cc in
    subst (StaysUnended i c) same why
