use Rattle.std.proofs.Common.{◌≡◌, ◌<◌, ◌^◌, take}
use Rattle.sd_script.specs.Packed.{packed_of}
use Rattle.sd_script.proofs.packed.packed.Given as goal

abbrev pub invariant-loop-byte : goal.invariant-loop-byte
invariant-loop-byte l = record {
  number : l.number ≡ packed_of (take l.byte-index l.name);
  fits : l.number < 256 ^ l.byte-index;
}
