-- What a call leaves that changes pools and directory alone.
use Rattle.std.specs.Prelude.{◌≡◌}
use Rattle.sd_state.specs.Parts.{Parts}

-- but for pools and directory, all is as it was
abbrev pub OnlyPages : Parts → Parts → Type 0
OnlyPages old new = new ≡ record old { pools = new.pools; directory = new.directory }
