-- What a crash leaves while an instance joins: it stands for the state before the join, or for the one behind it. For `join` of
-- src/joining.rt.
use Rattle.std.proofs.Common.{◌≡◌, ◌≢◌, ◌⊎◌, inl, inr, ⊎_elim, ℕ, ◌+◌, ◌<◌, ◌≤◌, Bool, cond, sym, ap, subst, arith, eq-eqb, ne_eqb, refl}
use Rattle.std.proofs.lemmas.Bool.{cases_eq}
use Rattle.std.proofs.lemmas.Bool.Decides.{leb_tells}
use Rattle.sd_base.specs.declared.place.Status.TheVariants as S
use Rattle.sd_logrec.specs.View.{Rec}
use Rattle.sd_model.specs.State.{State, joined}
use Rattle.sd_model.specs.StepLaws.{MayJoin}
use Rattle.sd_model.specs.declared.act.Claim.{Claim}
use Rattle.sd_model.specs.declared.act.Inst.{Inst}
use Rattle.sd_model.specs.Claims.{Claims}
use Rattle.sd_rig.specs.Devices as rig
use Rattle.sd_chain.specs.Bytes.{log_of, stable}
use Rattle.sd_chain.specs.Storage.{Recovered}
use Rattle.sd_chain.specs.Records.{Each, Val, stack}
use Rattle.sd_state.specs.Images.{IsEpochOf, Stands, kept_epoch}
use Rattle.sd_state.specs.Values.{Pending, rid_of, starts_of}
use Rattle.sd_moves.proofs.FallModel.{IsFall}
use Rattle.sd_fits.specs.Serving.{stands_for}
use Rattle.sd_recover.proofs.Fewer.{failed_so}

starts-else : (i j : ℕ) → j ≢ i → starts_of (Pending.Starts i) j ≡ 0
starts-else i j ne = ap {B = ℕ} (λ (b : Bool). cond b 1 0) (ne_eqb j i ne)

starts-own : (i : ℕ) → starts_of (Pending.Starts i) i ≡ 1
starts-own i = ap {B = ℕ} (λ (b : Bool). cond b 1 0) (eq-eqb i i refl)

-- ---- a join that comes to its end

module _ (i n epoch : ℕ) (m : State) (low : 1 ≤ i) (high : i ≤ 8) (may : MayJoin m i epoch)
    (is : (m.inst i).epoch + 1 + n ≡ epoch) where
  abbrev few : State
  few = failed_so i n m

  abbrev then : State
  then = joined i epoch m

  abbrev own : Inst
  own = record (m.inst i) { failed = n }

  abbrev up : Inst
  up = record { status = S.Up; epoch = epoch; begins = 0; failed = 0 }

  few-here : few.inst i ≡ own
  few-here = ap (λ (b : Bool). cond b own (m.inst i)) (eq-eqb i i refl)

  few-else : (j : ℕ) → j ≢ i → few.inst j ≡ m.inst j
  few-else j ne = ap (λ (b : Bool). cond b own (m.inst j)) (ne_eqb i j (λ e. ne (sym e)))

  then-here : then.inst i ≡ up
  then-here = ap (λ (b : Bool). cond b up (m.inst i)) (eq-eqb i i refl)

  then-else : (j : ℕ) → j ≢ i → then.inst j ≡ m.inst j
  then-else j ne = ap (λ (b : Bool). cond b up (m.inst j)) (ne_eqb i j (λ e. ne (sym e)))

  epoch-else : (j k : ℕ) → j ≢ i → IsEpochOf few (Pending.Starts i) j k → IsEpochOf m Pending.Idle j k
  epoch-else j k ne was =
      let same = few-else j ne in
      let epochs = ap (λ (x : Inst). x.epoch) same in
      let fails = ap (λ (x : Inst). x.failed) same in
      let starts = starts-else i j ne in
      let least = was.low in
      let most = was.high in
      record { low = omega (arith, least, epochs); high = omega (arith, most, epochs, fails, starts) }

  -- an image whose log is in an earlier epoch stands for the state before,
  before-stands : (img : rig.DeviceImages) → Stands few (Pending.Starts i) img → kept_epoch (img i) < epoch → stands_for img m
  before-stands img s earlier = record {
    sound = s.sound;
    recovered = s.recovered;
    claimed = λ t opens. let old = s.claimed t opens in record { there = old.there; claims = old.claims };
    epochs = λ j lo hi. ⊎_elim
        (λ e. subst (λ (k : ℕ). IsEpochOf m Pending.Idle k (kept_epoch (img k))) (sym e) here)
        (λ ne. epoch-else j (kept_epoch (img j)) ne (s.epochs j lo hi))
        (cases_eq j i);
  }
    where
      here : IsEpochOf m Pending.Idle i (kept_epoch (img i))
      here =
          let least = (s.epochs i low high).low in
          let same = ap (λ (x : Inst). x.epoch) few-here in
          let near = may.near in
          record { low = omega (arith, least, same); high = omega (arith, earlier, near, is) }

  -- and one whose log is in the epoch for the one behind it
  behind-stands : (img : rig.DeviceImages) → Stands few (Pending.Starts i) img → epoch ≤ kept_epoch (img i) → stands_for img then
  behind-stands img s there = record {
    sound = s.sound;
    recovered = s.recovered;
    claimed = λ t opens. let old = s.claimed t opens in record { there = old.there; claims = old.claims };
    epochs = λ j lo hi. ⊎_elim
        (λ e. subst (λ (k : ℕ). IsEpochOf then Pending.Idle k (kept_epoch (img k))) (sym e) here)
        (λ ne. let old = epoch-else j (kept_epoch (img j)) ne (s.epochs j lo hi) in record {
          low = subst (λ (x : Inst). x.epoch ≤ kept_epoch (img j)) (sym (then-else j ne)) old.low;
          high = subst (λ (x : Inst). kept_epoch (img j) ≤ x.epoch + x.failed + 0) (sym (then-else j ne)) old.high;
        })
        (cases_eq j i);
  }
    where
      here : IsEpochOf then Pending.Idle i (kept_epoch (img i))
      here =
          let most = (s.epochs i low high).high in
          let epochs = ap (λ (x : Inst). x.epoch) few-here in
          let fails = ap (λ (x : Inst). x.failed) few-here in
          let starts = starts-own i in
          let epochs' = ap (λ (x : Inst). x.epoch) then-here in
          let fails' = ap (λ (x : Inst). x.failed) then-here in
          record { low = omega (arith, there, epochs'); high = omega (arith, most, epochs, fails, starts, is, epochs', fails') }

  -- whatever a crash leaves stands for one of both
  pub join-stands : (img : rig.DeviceImages) → Stands few (Pending.Starts i) img → stands_for img m ⊎ stands_for img then
  join-stands img s = ⊎_elim
      (λ le. inr (behind-stands img s le.1))
      (λ gt. let lt = gt.1 in inl (before-stands img s (omega (arith, lt))))
      (leb_tells epoch (kept_epoch (img i)))

-- ---- a join whose force fails

-- Whatever a crash leaves then stands for the state behind the fall.
pub fall-stands : (i : ℕ) (m m' : State) (img : rig.DeviceImages) → IsFall i (Pending.Starts i) m m' → Stands m (Pending.Starts i) img
    → stands_for img m'
fall-stands i m m' img f s = record {
  sound = s.sound;
  recovered = λ p slot. subst (λ (v : Val). Recovered (stable img) p slot v) (sym (f.values (stable img).logs p slot))
      (s.recovered p slot);
  claimed = λ t opens. let old = s.claimed t opens in record {
    there = λ gone. old.there (f.gone t gone);
    claims = subst (λ (claims : Claims). Each (λ (x : Rec). claims (rid_of x) ≡ Claim.Excl) (stack t (log_of img t.inst)))
        (sym (f.claims t)) old.claims;
  };
  epochs = λ j lo hi.
      let old = s.epochs j lo hi in
      let least = old.low in
      let most = old.high in
      let epoch = f.epoch j in
      let failed = f.failed j in
      record { low = omega (arith, least, epoch); high = omega (arith, most, epoch, failed) };
}
