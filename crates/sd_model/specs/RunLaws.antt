-- Laws of runs.
use Rattle.std.specs.Prelude.{List, [], ◌∷◌, ◌++◌}
use Rattle.sd_model.specs.declared.event.Entry.{Entry}
use Rattle.sd_model.specs.State.{State}
use Rattle.sd_model.specs.Step.{Step}
use Rattle.sd_model.specs.Run.{Run}

-- a run with one step more is a run
abbrev pub RunGrows : Type 0
RunGrows = (entries : List Entry) (e : Entry) (m0 m m' : State) → Run m0 entries m → Step m e.event e.reply m' → Run m0 (entries ++ e ∷ []) m'

-- what comes first in a run is a run, and so is the rest
abbrev pub RunSplits : Type 0
RunSplits = (entries more : List Entry) (m0 m : State) → Run m0 (entries ++ more) m → (m1 : State) × Run m0 entries m1 × Run m1 more m

-- a run after a run is a run
abbrev pub RunsJoin : Type 0
RunsJoin = (entries more : List Entry) (m0 m1 m : State) → Run m0 entries m1 → Run m1 more m → Run m0 (entries ++ more) m
