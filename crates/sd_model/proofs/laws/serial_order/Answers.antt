use Rattle.sd_model.proofs.Serial.{run-serial, opening_run-kept, fresh-opening, step-kept, run-kept}
use Rattle.sd_model.proofs.laws.serial_order.Goals as goal

pub returns : goal.returns
returns c = record { serial = run-serial; kept = opening_run-kept; fresh = fresh-opening; each_step = step-kept; each_run = run-kept }
