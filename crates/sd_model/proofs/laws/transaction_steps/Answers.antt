use Rattle.sd_model.proofs.Steps.{begin-step, insert-step, full-step, too_long-step, no_txn-step, commit-step}
use Rattle.sd_model.proofs.laws.transaction_steps.Goals as goal

pub returns : goal.returns
returns c = record { began = begin-step; inserted = insert-step; full = full-step; too_long = too_long-step; no_txn = no_txn-step; committed = commit-step }
