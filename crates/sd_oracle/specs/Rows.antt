-- Whether rows agree with the committed table.
use Rattle.std.specs.Prelude.{◌≡◌, ℕ, List, [], ◌∷◌}
use Rattle.sd_base.specs.declared.ids.Rid.{Rid}
use Rattle.sd_model.specs.declared.act.Act.{Act}
use Rattle.sd_model.specs.declared.act.Act.TheVariants.{Read, Put, Undo}
use Rattle.sd_model.specs.declared.act.Done.{Done}
use Rattle.sd_model.specs.Tables.{Contents, contents}

-- if the record is of the page, the rows have at it what the table has
abbrev pub Agree : ℕ → Contents → List (Rid × List ℕ) → Rid → Type 0
Agree p table rows r = r.page ≡ p → contents rows r ≡ table r

-- they agree at the records of the list, at those that are put, and at those that committed transactions put
abbrev pub AgreeAtRows : ℕ → Contents → List (Rid × List ℕ) → List (Rid × List ℕ) → Type 0
AgreeAtRows p table rows [] = Unit {0}
AgreeAtRows p table rows (x ∷ xs) = Agree p table rows x.0 × AgreeAtRows p table rows xs

abbrev pub AgreeAtActs : ℕ → Contents → List (Rid × List ℕ) → List Act → Type 0
AgreeAtActs p table rows [] = Unit {0}
AgreeAtActs p table rows (Read r v ∷ acts) = AgreeAtActs p table rows acts
AgreeAtActs p table rows (Put r v ∷ acts) = Agree p table rows r × AgreeAtActs p table rows acts
AgreeAtActs p table rows (Undo ∷ acts) = AgreeAtActs p table rows acts

abbrev pub AgreeAtDone : ℕ → Contents → List (Rid × List ℕ) → List Done → Type 0
AgreeAtDone p table rows [] = Unit {0}
AgreeAtDone p table rows (d ∷ done) = AgreeAtActs p table rows d.acts × AgreeAtDone p table rows done
