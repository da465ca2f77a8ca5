-- What the calls of a begin of a checkpoint find. For the goals of `check_begin`.
use Rattle.std.proofs.Common.{◌≡◌, ⊎_elim, ℕ, ◌-◌, ◌^◌, ◌<◌, ◌≤◌, length, min, true, refl, sym, ap, ◌∙◌, arith}
use Rattle.std.specs.Prelude.{Option, None, Some, IsSome, option_map}
use Rattle.std.specs.List.{IsDistinct}
use Rattle.std.proofs.lemmas.Bool.{cases_eq}
use Rattle.sd_base.specs.Ids.{same_txn}
use Rattle.sd_base.specs.declared.ids.TxnId.{TxnId}
use Rattle.sd_logrec.specs.Spelling.{HasSpelling}
use Rattle.sd_logrec.specs.declared.record.Record.TheVariants as records
use Rattle.sd_model.specs.Few.{Few}
use Rattle.sd_model.specs.State.{State}
use Rattle.sd_rig.specs.Devices as rig
use Rattle.sd_txn.specs.Owing.{owed_of}
use Rattle.sd_txn.specs.Transactions.{Transaction, ids, state_at, txn_at}
use Rattle.sd_chain.specs.Logs.{Outcomes, next_lsn}
use Rattle.sd_chain.specs.Records.{home}
use Rattle.sd_state.specs.Good.{HasNumber, TakesCheck}
use Rattle.sd_state.specs.Parts.{Parts, log_at, status_at, txns_at, up_as}
use Rattle.sd_state.specs.Tables.{tells_log}
use Rattle.sd_state.specs.Values.{Pending}
use Rattle.sd_update.specs.Sealing.{MayCheck, NoLsnLeft}
use Rattle.sd_update.proofs.SealedCalls.{settled-up}
use Rattle.sd_update.proofs.SealedTests.{few-told, next-small}
use Rattle.sd_world.specs.Serving.{Core}
use Rattle.sd_fits.specs.Fits.{Fits}
use Rattle.sd_fits.proofs.Heads.{few-rows, some-there}

module _ (i : ℕ) (seen : rig.DeviceImages) (leaves : Outcomes) (c : Parts) (w : Core) (f : Fits seen leaves c w) (low : 1 ≤ i)
    (high : i ≤ 8) (takes : TakesCheck (status_at c i)) where
  abbrev m : State
  m = w.scene.state

  up : up_as (status_at c i) ≡ true
  up = ⊎_elim (λ e. ap up_as e) (λ e. ap up_as e) takes

  tells : tells_log (status_at c i) ≡ true
  tells = ⊎_elim (λ e. ap tells_log e) (λ e. ap tells_log e) takes

  pub few-owed-there : leaves 0 (seen 0) → owed_of (txns_at c i) < 2 ^ 64
  few-owed-there reads = few-told i seen leaves Pending.Idle c m f.good reads low high f.idle up tells

  pub begin-may : MayCheck i (records.BeginCheck (next_lsn (log_at c i) 0)) c
  begin-may = record { stands = takes; kind = refl; no_start = refl; lsn = refl }

  pub begin-spelled : (NoLsnLeft i c → ⊥) → HasSpelling (records.BeginCheck (next_lsn (log_at c i) 0))
  begin-spelled left = (
    omega arith,
    next-small i (records.BeginCheck 0) 0 seen leaves Pending.Idle c m f.good low high
        (settled-up seen leaves Pending.Idle c m i low high f.good f.idle up) tells left,
  )

  -- what a log answers as its next LSN is that
  pub begin-lsn : (r : ℕ) → r ≡ min (next_lsn (log_at c i) 0) (2 ^ 62 - 1) → (NoLsnLeft i c → ⊥) → r ≡ next_lsn (log_at c i) 0
  begin-lsn r is left = let small = (begin-spelled left).1 in omega (arith, is, small)

  pub rows-few : Few m → IsDistinct same_txn (ids (txns_at c i)) → length (txns_at c i).unresolved ≤ 64
  rows-few few once = few-rows seen leaves Pending.Idle c m f.good few i low high takes once

  -- whoever has a row has a number
  pub row-numbered : (t : TxnId) → IsSome (txn_at (txns_at c i) t) → HasNumber t
  row-numbered t some = by (txn_at (txns_at c i) t) refl some
    where
      here : (x : Transaction) → txn_at (txns_at c i) t ≡ Some x → home t ≡ i → HasNumber t
      here x e own = f.good.numbered t (some-there seen leaves Pending.Idle c m f.good t x.state (omega (arith, own, low))
          (omega (arith, own, high))
          (ap (λ (j : ℕ). state_at (txns_at c j) t) own ∙ ap (option_map (λ (y : Transaction). y.state)) e))

      by : (o : Option Transaction) → txn_at (txns_at c i) t ≡ o → IsSome o → HasNumber t
      by None e there = absurd (cc)
      by (Some x) e there = ⊎_elim (here x e)
          (λ ne. let clash = sym e ∙ (f.good.instances i low high).own t ne in absurd (cc))
          (cases_eq (home t) i)
