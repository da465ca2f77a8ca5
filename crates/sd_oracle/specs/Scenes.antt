-- The scene that a judge holds.
use Rattle.std.specs.Prelude.{List}
use Rattle.sd_base.specs.declared.ids.TxnId.{TxnId}
use Rattle.sd_model.specs.Scenes.{Scene}
use Rattle.sd_oracle.specs.Lists.{Journal, state_of}
use Rattle.sd_reclock.specs.declared.wait.Asked.{Asked}
use Rattle.sd_reclock.specs.Waiting.{waits_in}

-- what a judge holds: the table's lists, and who waits for what
pub record Watching : Type 0 where
  pub table : Journal
  pub waiting : List (TxnId × Asked)

-- the scene that it stands for
abbrev pub scene_of : Watching → Scene
scene_of w = record { state = state_of w.table; waits = waits_in w.waiting }
