use Rattle.std.proofs.Common.{◌≡◌, ◌≤◌, length, drop}
use Rattle.sd_model.specs.Acts.{live}
use Rattle.sd_oracle.proofs.Scans.{count_from}
use Rattle.sd_oracle.proofs.values.count_live.Given as goal

abbrev pub invariant-loop-act : goal.invariant-loop-act
invariant-loop-act l = record { few : l.count ≤ l.act-index; same : count_from l.count (drop l.act-index l.acts) ≡ length (live l.acts) }
