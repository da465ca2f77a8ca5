-- A master in memory, and what the one that counts on a device says.
use Rattle.std.specs.Prelude.{ℕ, List, ◌∷◌, ◌++◌, Option, None, Some, option_map, replicate}
use Rattle.std.specs.Int.{to_be_bytes, w32, w64}
use Rattle.sd_logrec.specs.Kept.{Master, master_of}
use Rattle.sd_recovered.specs.declared.master.MasterRecord as memory

-- a master in memory, as one on a device
abbrev pub kept_master : memory.MasterRecord → Master
kept_master m = record { count = m.count; log_area = m.area; epoch = m.epoch; check = m.check; start = m.start }

-- the same, where one counts
abbrev pub said : Option memory.MasterRecord → Option Master
said m = option_map kept_master m

-- the same, or all 0 where none counts
abbrev pub as_master : Option memory.MasterRecord → Master
as_master None = master_of None
as_master (Some m) = kept_master m

-- the master that a body says
abbrev pub master_in : List ℕ → Master
master_in body = master_of (Some body)

-- the bytes of a body that says this
abbrev pub spelled_master : memory.MasterRecord → List ℕ
spelled_master m = to_be_bytes w64 m.count ++ (m.area ∷ (to_be_bytes w32 m.epoch ++ (to_be_bytes w64 m.check ++ (to_be_bytes w32 m.start ++ replicate 39 0))))
