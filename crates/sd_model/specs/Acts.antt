-- What a transaction reads and puts, and the table that committed ones leave.
use Rattle.std.specs.Prelude.{◌≡◌, List, [], ◌∷◌, cond}
use Rattle.sd_base.specs.declared.ids.Rid.{Rid}
use Rattle.sd_model.specs.declared.act.Act.{Act}
use Rattle.sd_model.specs.declared.act.Act.TheVariants.{Read, Put, Undo}
use Rattle.sd_model.specs.declared.act.Done.{Done}
use Rattle.sd_base.specs.Ids.{same_rid}
use Rattle.sd_model.specs.Tables.{Content, Contents}

-- puts, the last one first
abbrev pub Puts : Type 0
Puts = List (Rid × Content)

-- the puts without the last one
abbrev pub undone : Puts → Puts
undone [] = []
undone (p ∷ puts) = puts

abbrev pub live_from : Puts → List Act → Puts
live_from puts [] = puts
live_from puts (Read r v ∷ acts) = live_from puts acts
live_from puts (Put r v ∷ acts) = live_from ((r, v) ∷ puts) acts
live_from puts (Undo ∷ acts) = live_from (undone puts) acts

-- the live puts: those that no undo took back
abbrev pub live : List Act → Puts
live acts = live_from [] acts

-- what a record has where the puts stand over a table: the last put of it, else what the table has
abbrev pub seen_over : Contents → Puts → Contents
seen_over base [] r = base r
seen_over base (p ∷ puts) r = cond (same_rid p.0 r) p.1 (seen_over base puts r)

-- each read found the last put before it that was live then, else what the table has
abbrev pub ReadsFrom : Contents → Puts → List Act → Type 0
ReadsFrom base puts [] = Unit {0}
ReadsFrom base puts (Read r v ∷ acts) = (v ≡ seen_over base puts r) × ReadsFrom base puts acts
ReadsFrom base puts (Put r v ∷ acts) = ReadsFrom base ((r, v) ∷ puts) acts
ReadsFrom base puts (Undo ∷ acts) = ReadsFrom base (undone puts) acts

abbrev pub Reads : Contents → List Act → Type 0
Reads base acts = ReadsFrom base [] acts

-- the table after these transactions, one after another
abbrev pub after : Contents → List Done → Contents
after start [] = start
after start (d ∷ done) = after (seen_over start (live d.acts)) done

-- each reads what it would read if they ran one after another
abbrev pub Serial : Contents → List Done → Type 0
Serial start [] = Unit {0}
Serial start (d ∷ done) = Reads start d.acts × Serial (seen_over start (live d.acts)) done
