-- A log without room for a record, and LSNs at their end: what the sums say of them. For the calls that put a Start or a record
-- of a checkpoint.
use Rattle.std.proofs.Common.{◌≡◌, ⊎_elim, ℕ, eqb, ◌+◌, ◌^◌, ◌<◌, ◌≤◌, Bool, true, false, cond, max, ap, ◌∙◌, arith, eq-eqb, ne_eqb}
use Rattle.std.proofs.lemmas.Bool.{cases_eq}
use Rattle.sd_log.specs.Logs.{LogState}
use Rattle.sd_model.specs.State.{State}
use Rattle.sd_rig.specs.Devices as rig
use Rattle.sd_txn.specs.Owing.{owed_of}
use Rattle.sd_chain.specs.Logs.{Outcomes}
use Rattle.sd_chain.proofs.Kept.{forced-gate}
use Rattle.sd_state.specs.Good.{Good}
use Rattle.sd_state.specs.Parts.{Parts, is_loose, log_at, owed_at, status_at, txns_at}
use Rattle.sd_update.specs.Sealing.{NoLsnLeft, NoRoomFor}
use Rattle.sd_state.specs.Sums.{great_of, owed_in_all, owed_where, owes_most}
use Rattle.sd_state.specs.Tables.{tells_log}
use Rattle.sd_state.specs.Values.{Pending}
use Rattle.sd_world.specs.Bounds.{Bounds}
use Rattle.sd_moves.proofs.FallBounds.{sum-less}
use Rattle.sd_fits.specs.Fits.{FitsBounds}

module _ (i : ℕ) (seen : rig.DeviceImages) (leaves : Outcomes) (pend : Pending) (c : Parts) (m : State) (b : Bounds)
    (g : Good seen leaves pend c m) (f : FitsBounds seen leaves c b) (low : 1 ≤ i) (high : i ≤ 8) (settled : is_loose c i ≡ false)
    (tells : tells_log (status_at c i) ≡ true) where
  -- where a record of so many bytes finds no room, the log reaches so far
  pub no-room : (len : ℕ) → NoRoomFor i len c → 1048576 < b.reach i + len + 6
  no-room len none =
      let log : LogState = log_at c i in
      let reach = (f.reach (λ j. false) i low high).1 in
      let gate = forced-gate log in
      let reserves = (g.told i low high tells settled).reserves in
      omega (arith, none, reach, gate, reserves)

  -- where no LSN is left for one more record, LSNs are at their end
  pub no-lsn : NoLsnLeft i c → 2 ^ 62 ≤ b.lsns + 1
  no-lsn none =
      let own : ℕ = max (owed_at c i) (owed_of (txns_at c i)) in
      let less : owed_where i own c ≤ owed_in_all c =
      sum-less (λ j. cond (eqb j i) own (owes_most c j)) (owes_most c) 8 (λ j lo hi. each j) in
      least (great_of c) (owed_where i own c) (owed_in_all c) b.lsns none less f.lsns
    where
      least : (great own all lsns : ℕ) → 2 ^ 62 ≤ great + 1 + own → own ≤ all → great + all ≤ lsns → 2 ^ 62 ≤ lsns + 1
      least great own all lsns none less was = omega arith

      here : owes_most c i ≡ max (owed_at c i) (owed_of (txns_at c i))
      here = ap (λ (loose : Bool). cond loose (owed_at c i)
          (cond (tells_log (status_at c i)) (max (owed_at c i) (owed_of (txns_at c i))) (owed_at c i))) settled
          ∙ ap (λ (told : Bool). cond told (max (owed_at c i) (owed_of (txns_at c i))) (owed_at c i)) tells

      each : (j : ℕ) → cond (eqb j i) (max (owed_at c i) (owed_of (txns_at c i))) (owes_most c j) ≤ owes_most c j
      each j = ⊎_elim
          (λ e. let own = ap (λ (same : Bool). cond same (max (owed_at c i) (owed_of (txns_at c i))) (owes_most c j))
          (eq-eqb j i e) in
          let is = ap (owes_most c) e ∙ here in omega (arith, own, is))
          (λ ne. let other = ap (λ (same : Bool). cond same (max (owed_at c i) (owed_of (txns_at c i))) (owes_most c j))
          (ne_eqb j i ne) in
          omega (arith, other))
          (cases_eq j i)
