use Rattle.std.specs.Prelude.{take}
use Rattle.sd_recovered.specs.Reading.{HasRead}
use Rattle.sd_recovered.proofs.logs.read_logs.Given as goal

abbrev pub invariant-loop-device : goal.invariant-loop-device
invariant-loop-device l = HasRead (take l.device-index l.devices) l.read
