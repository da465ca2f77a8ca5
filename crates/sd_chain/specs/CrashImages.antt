-- What a crash may leave of a coherent complex: between calls, while a log is forced, and while a page is put.
use Rattle.std.specs.Prelude.{ℕ}
use Rattle.sd_chain.specs.Records.{Val}
use Rattle.sd_chain.specs.Storage.{Storage}
use Rattle.sd_chain.specs.Images.{Gives, Keeps, or_written}
use Rattle.sd_chain.specs.Crashes.{CrashLeaves, DuringForce, DuringPut, StandsFor}
use Rattle.sd_chain.specs.Laws.{May}
use Rattle.sd_chain.specs.World.{Base, Dir, newest_version}
use Rattle.sd_chain.specs.Coherent.{Coherent}
use Rattle.sd_chain.specs.Puts.{NoneUnforced}

-- Between calls it stands for the table that belongs to the tails that it has. `values` says what recovery gives then.
abbrev pub LeftStands : May → Type 0
LeftStands may = (b : Base may) (d : Dir) (values : Keeps → ℕ → ℕ → Val) (img : Storage) → Coherent b d → Gives b.tails may values
    → CrashLeaves b.tails may img → StandsFor b.tails values img

-- So it does while a log is forced,
abbrev pub ForceLeftStands : May → Type 0
ForceLeftStands may = (i : ℕ) (b : Base may) (d : Dir) (values : Keeps → ℕ → ℕ → Val) (img : Storage) → Coherent b d
    → Gives b.tails may values → DuringForce i b.tails may img → StandsFor b.tails values img

-- and while the newest version of a page is put, once no tail has a record of the page.
abbrev pub PutLeftStands : May → Type 0
PutLeftStands may = (p : ℕ) (b : Base may) (d : Dir) (values : Keeps → ℕ → ℕ → Val) (img : Storage) → Coherent b d
    → NoneUnforced b p → Gives b.tails may values → DuringPut p (newest_version b p) b.tails may img → StandsFor b.tails values img

-- Recovery gives the same whether the put arrives or not.
abbrev pub PutGives : May → Type 0
PutGives may = (p : ℕ) (b : Base may) (d : Dir) (values : Keeps → ℕ → ℕ → Val) → Coherent b d → NoneUnforced b p
    → Gives b.tails may values → Gives b.tails (or_written may p (newest_version b p)) values
