-- Runs of cores: entries lead from one core to another, also with tries between them of which nothing is noted.
use Rattle.std.specs.Prelude.{◌≡◌, true, List, [], ◌∷◌, Option}
use Rattle.sd_base.specs.declared.ids.Rid.{Rid}
use Rattle.sd_model.specs.declared.event.Entry.{Entry}
use Rattle.sd_model.specs.declared.event.Event.{Event}
use Rattle.sd_model.specs.declared.event.Reply.{Reply}
use Rattle.sd_model.specs.Fields.{txn_of}
use Rattle.sd_model.specs.Scenes.{Scene, Plays, asked_of}
use Rattle.sd_model.specs.Exact.{IsExact}
use Rattle.sd_world.specs.Bounds.{is_wait}
use Rattle.sd_world.specs.Serving.{Core, Turns}

-- each entry turns its core into the next one
abbrev pub Leads : Core → List Entry → Core → Type 0
Leads old [] new = old ≡ new
Leads old (e ∷ es) new = (next : Core) × Turns old e.event e.reply next × Leads next es new

-- events of which nothing is noted, each with a reply that has its caller wait
abbrev pub TriesBy : Core → List (Event × Reply) → Core → Type 0
TriesBy old [] new = old ≡ new
TriesBy old (t ∷ ts) new = (mid : Core) × Turns old t.0 t.1 mid × (is_wait t.1 ≡ true) × TriesBy mid ts new

-- some such tries lead there
abbrev pub Tries : Core → Core → Type 0
Tries old new = (ts : List (Event × Reply)) × TriesBy old ts new

-- each entry turns its core, and tries behind it lead to the next one; none stands before the first entry
abbrev pub LeadsOn : Core → List Entry → Core → Type 0
LeadsOn old [] new = old ≡ new
LeadsOn old (e ∷ es) new = (mid next : Core) × Turns old e.event e.reply mid × Tries mid next × LeadsOn next es new

-- a run of scenes in which each refusal of a lock names exactly who stands in the way
abbrev pub ExactRun : Scene → List Entry → Scene → Type 0
ExactRun s [] last = s ≡ last
ExactRun s (e ∷ es) last = (wanted : Option Rid) × (next : Scene) × Plays wanted e.event e.reply s next
    × IsExact s (txn_of e.event) (asked_of e.event wanted) e.reply × ExactRun next es last
