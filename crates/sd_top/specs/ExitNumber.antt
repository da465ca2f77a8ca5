-- The number with which the program ends.
use Rattle.std.specs.Prelude.{ℕ}
use Rattle.sd_top.specs.declared.status.Status.{Status}
use Rattle.sd_top.specs.declared.status.Status.TheVariants as status

abbrev pub exit_number : Status → ℕ
exit_number status.Done = 0
exit_number status.BadLine = 1
exit_number status.Usage = 2
exit_number status.ReadFault = 3
exit_number status.WriteFault = 4
exit_number status.NoMemory = 5
exit_number status.Damaged = 6
exit_number status.Device = 7
