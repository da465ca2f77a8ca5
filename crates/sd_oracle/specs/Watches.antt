-- What a table with its waits stands for.
use Rattle.sd_model.specs.declared.event.Reply.{Reply}
use Rattle.sd_model.specs.declared.event.Reply.TheVariants.{Refused}
use Rattle.sd_base.specs.declared.refusal.Refusal.TheVariants as R
use Rattle.sd_oracle.specs.declared.watch.Watch.{Watch}
use Rattle.sd_model.specs.Scenes.{Scene}
use Rattle.sd_oracle.specs.Scenes.{Watching, scene_of}

abbrev pub watching : Watch → Watching
watching w = record { table = w.table.serial; waiting = w.waits.entries }

abbrev pub scene : Watch → Scene
scene w = scene_of (watching w)

-- the reply tells that the caller is blocked
abbrev pub IsBlocking : Reply → Type 0
IsBlocking (Refused (R.Blocked by)) = Unit {0}
IsBlocking reply = ⊥
