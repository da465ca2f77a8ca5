-- Which of the coming calls fail, and how failures are counted.
use Rattle.std.specs.Prelude.{ℕ, ◌+◌, ◌-◌, ◌==◌, min, Bool, false}
use Rattle.sd_base.specs.declared.trouble.Trouble.{Trouble}
use Rattle.sd_base.specs.declared.trouble.Trouble.TheVariants.{Clear, Fuse, Fault}

-- whether the next call fails
abbrev pub meets : Trouble → Bool
meets Clear = false
meets (Fuse k) = k == 0
meets (Fault k) = k == 1

-- what is armed after it
abbrev pub after_call : Trouble → Trouble
after_call Clear = Clear
after_call (Fuse k) = Fuse (k - 1)
after_call (Fault k) = Fault (k - 1)

-- a count after one more; it stays at the greatest u64
abbrev pub raised : ℕ → ℕ
raised count = min (count + 1) 18446744073709551615
