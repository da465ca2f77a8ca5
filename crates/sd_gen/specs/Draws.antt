-- Draws: each comes from a state of 64 bits, which the draw before it left.
use Rattle.std.specs.Prelude.{ℕ, zero, suc, ◌+◌, ◌*◌, ◌/◌, ◌%◌, ◌^◌}

-- the state that a draw leaves
unfoldable pub next_state : ℕ → ℕ
next_state x = (x * 6364136223846793005 + 1442695040888963407) % 2 ^ 64

-- the state behind so many draws
abbrev pub state_behind : ℕ → ℕ → ℕ
state_behind zero x = x
state_behind (suc draws) x = state_behind draws (next_state x)

-- what the draw of this number gives, the first of number 1: the high 31 bits of the state that it leaves
abbrev pub drawn : ℕ → ℕ → ℕ
drawn draw x = state_behind draw x / 2 ^ 33
