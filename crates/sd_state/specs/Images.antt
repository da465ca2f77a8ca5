-- What an image of the nine devices stands for, and the ways in which a crash may leave the logs' start places.
use Rattle.std.specs.Prelude.{◌≡◌, ◌≢◌, ℕ, ◌+◌, ◌≤◌, List, IfSome, cond}
use Rattle.std.specs.Option.{option_map_or}
use Rattle.sd_base.specs.declared.ids.TxnId.{TxnId}
use Rattle.sd_logrec.specs.Kept.{master}
use Rattle.sd_logrec.specs.View.{Rec}
use Rattle.sd_log.specs.Logs.{begun_at}
use Rattle.sd_model.specs.declared.act.Claim.{Claim}
use Rattle.sd_model.specs.declared.act.Life.{Life}
use Rattle.sd_model.specs.State.{State}
use Rattle.sd_rig.specs.Devices as rig
use Rattle.sd_chain.specs.Bytes.{log_of, stable}
use Rattle.sd_chain.specs.Checks.{DevicesAreSound, past_of, records_in}
use Rattle.sd_chain.specs.Fates.{Fate, fate}
use Rattle.sd_chain.specs.Storage.{Recovered}
use Rattle.sd_chain.specs.Images.{Keeps}
use Rattle.sd_chain.specs.Records.{Each, home, stack}
use Rattle.sd_chain.specs.Logs.{Logs, Outcomes, after_records}
use Rattle.sd_state.specs.Parts.{Parts, log_at, other_at}
use Rattle.sd_state.specs.Values.{Pending, rid_of, starts_of, values}

-- the transaction has a record in this log, and no end there
abbrev pub IsOpenIn : TxnId → List Rec → Type 0
IsOpenIn t log = fate t log ≡ Fate.Open

-- Who is open in this log of its instance is there, and has an exclusive claim on each record that it has open.
pub record IsClaimed (m : State) (t : TxnId) (log : List Rec) : Type 0 where
  pub there : (m.part t).life ≢ Life.Gone
  pub claims : Each (λ x. (m.part t).claims (rid_of x) ≡ Claim.Excl) (stack t log)

-- An instance's epoch on a device is its own, or one that a join which failed began, or that of the Start under way.
pub record IsEpochOf (m : State) (pend : Pending) (i epoch : ℕ) : Type 0 where
  pub low : (m.inst i).epoch ≤ epoch
  pub high : epoch ≤ (m.inst i).epoch + (m.inst i).failed + starts_of pend i

-- the epoch that a log device keeps: that of its last Start, or of its master
abbrev pub kept_epoch : List ℕ → ℕ
kept_epoch bytes = (after_records (past_of (master bytes)) (records_in bytes)).epoch

-- The image stands for m, with what is under way: it is sound; recovery gives the table of the committed
-- transactions and of those, in doubt or under way, whose Commit it has; and what it leaves open is there, and claimed.
pub record Stands (m : State) (pend : Pending) (img : rig.DeviceImages) : Type 0 where
  pub sound : DevicesAreSound img
  pub recovered : (p s : ℕ) → Recovered (stable img) p s (values m pend (stable img).logs p s)
  pub claimed : (t : TxnId) → IsOpenIn t (log_of img (home t)) → IsClaimed m t (log_of img (home t))
  pub epochs : (j : ℕ) → 1 ≤ j → j ≤ 8 → IsEpochOf m pend j (kept_epoch (img j))

-- ---- where logs begin

-- where log j begins: where it does in memory, or, where `moved` says so, at its other place, if it has one
abbrev pub log_by : Parts → Keeps → Logs
log_by c moved j = cond (moved j) (option_map_or (λ place. begun_at place (log_at c j)) (other_at c j) (log_at c j)) (log_at c j)

-- and how a crash may leave the devices then
abbrev pub leaves_by : Parts → Keeps → Outcomes → Outcomes
leaves_by c moved leaves d bytes =
    leaves d bytes × IfSome (other_at c d) (λ place. (master bytes).start ≡ cond (moved d) place (log_at c d).start)
