use Rattle.std.proofs.Common.{◌≤◌, ◌-◌, length, take}
use Rattle.sd_base.specs.Streams.{Appends}
use Rattle.sd_top.proofs.output.write_all.Given as goal

abbrev pub invariant-loop-done : goal.invariant-loop-done
invariant-loop-done g l =
    record {
      within : l.done ≤ length l.bytes;
      written : Appends (g.K.Sink.written l.fn.sink) (take l.done l.bytes) (g.K.Sink.written l.sink);
      count : g.K.Sink.faults l.fn.sink ≤ g.K.Sink.faults l.sink;
    }

abbrev pub decreases-loop-done : goal.decreases-loop-done
decreases-loop-done g l = length l.bytes - l.done
