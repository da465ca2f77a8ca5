-- What a row tells of its transaction, and what stays of a wait that there isn't. For the calls of a transaction.
use Rattle.std.proofs.Common.{◌≡◌, ◌≤◌, Bool, true, false, cond, refl, ap}
use Rattle.std.specs.Prelude.{Option, None, Some, IsSome, option_map}
use Rattle.sd_base.specs.Waits.{Wait}
use Rattle.sd_base.specs.declared.ids.TxnId.{TxnId}
use Rattle.sd_model.specs.declared.act.Life.{Life}
use Rattle.sd_rig.specs.Devices.{DeviceImages}
use Rattle.sd_txn.specs.Transactions.{IsUnresolved, Transaction, txn_at}
use Rattle.sd_chain.specs.Records.{home}
use Rattle.sd_chain.specs.Logs.{Outcomes}
use Rattle.sd_world.specs.Serving.{Core}
use Rattle.sd_state.specs.Parts.{Parts, txns_at}
use Rattle.sd_state.specs.Values.{Pending}
use Rattle.sd_fits.specs.Fits.{Fits}
use Rattle.sd_fits.proofs.Heads.{some-there}

-- who waits for nothing waits for nothing, kept or ended
pub none-waits : (b : Bool) (wait : Option Wait) → wait ≡ None → cond {A = Option Wait} b None wait ≡ None
none-waits true wait e = refl
none-waits false wait e = e

the-row : (o : Option Transaction) → IsSome o → (x : Transaction) × (o ≡ Some x)
the-row None some = absurd (cc)
the-row (Some x) some = (x, refl)

-- who has a row isn't gone
pub known-there : (seen : DeviceImages) (leaves : Outcomes) (c : Parts) (w : Core) → Fits seen leaves c w → (t : TxnId) → 1 ≤ home t → home t ≤ 8
    → IsUnresolved (txns_at c (home t)) t → (w.scene.state.part t).life ≡ Life.Gone → ⊥
known-there seen leaves c w f t low high known gone = let x = the-row (txn_at (txns_at c (home t)) t) known in
    some-there seen leaves Pending.Idle c w.scene.state f.good t x.0.state low high
    (ap (λ (o : Option Transaction). option_map (λ (y : Transaction). y.state) o) x.1) gone
