-- The parts of a complex, as its code keeps them.
use Rattle.std.specs.Prelude.{ℕ, map, option_map}
use Rattle.std.specs.Box.{box_value}
use Rattle.std.specs.Global.{Box}
use Rattle.sd_page.specs.Page.{Page}
use Rattle.sd_pagelock.specs.Directory.{DirectoryState}
use Rattle.sd_state.specs.declared.complex.Complex.{Complex}
use Rattle.sd_state.specs.declared.complex.Checkpoint.{Checkpoint}
use Rattle.sd_state.specs.declared.complex.Due.{Due}
use Rattle.sd_state.specs.Parts.{Begun, Parts}

abbrev pub begun_of : Checkpoint → Begun
begun_of k = record { begin = k.begin; spans = k.spans; recs = k.recs }

abbrev pub due_of : Due → ℕ × ℕ
due_of due = (due.inst, due.log)

-- the directory with the images that boxes hold
abbrev pub unboxed : DirectoryState (Box Page) → DirectoryState Page
unboxed d = record { places = d.places; rec_lsns = d.rec_lsns; images = map (option_map box_value) d.images; queues = d.queues }

abbrev pub parts : {G : Type 0} → Complex G → Parts
parts c = record {
  logs = c.logs.items;
  pools = c.pools.items;
  txns = c.txns.items;
  statuses = c.statuses.items;
  epochs = c.epochs.items;
  masters = c.masters.items;
  checks = map (option_map begun_of) c.checks.items;
  others = c.others.items;
  owed = c.owed.items;
  loose = c.loose.items;
  directory = unboxed c.directory;
  locks = c.locks;
  disk_lsn = c.disk_lsn;
  due = option_map due_of c.due;
}
