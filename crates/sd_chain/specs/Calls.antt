-- Whole calls out of several events: an undo by a recovery, and a fall by a force that failed.
use Rattle.std.specs.Prelude.{◌≡◌, ◌⊎◌, ℕ, true, false, [], None}
use Rattle.sd_logrec.specs.View.{Rec}
use Rattle.sd_page.specs.Page.{Page}
use Rattle.sd_chain.specs.Laws.{May}
use Rattle.sd_chain.specs.World.{Base, Dir}
use Rattle.sd_chain.specs.Coherent.{Coherent}
use Rattle.sd_chain.specs.AppendedRecords.{Changes}
use Rattle.sd_chain.specs.Forces.{failing}
use Rattle.sd_chain.specs.Falls.{Falls, fell}

-- Instance a, whose own log has no tail, recovers j, whose log is settled: it appends an undo to log j, which it is to force.
pub record UndoesFor {may may' : May} (a j : ℕ) (image : Page) (y : Rec) (b : Base may) (b' : Base may') (d d' : Dir) : Type 0 where
  pub idle : b.due ≡ None
  pub whose : (a ≡ j) ⊎ (b.active j ≡ false)
  pub not_up : b.up j ≡ false
  pub settled : b.loose j ≡ false
  pub own_forced : b.tails.tail a ≡ []
  pub change : Changes a j image y (failing a j false b) b' d d'

-- The undo keeps coherence; the force that follows, if it is Ok, settles log j (`SettleKeeps`).
abbrev pub UndoForKeeps : May → May → Type 0
UndoForKeeps may may' = (a j : ℕ) (image : Page) (y : Rec) (b : Base may) (b' : Base may') (d d' : Dir) → Coherent b d
    → UndoesFor a j image y b b' d d' → Coherent b' d'

-- Where that force fails, the recovering instance is to fall.
abbrev pub UndoForFailKeeps : May → May → Type 0
UndoForFailKeeps may may' = (a j : ℕ) (image : Page) (y : Rec) (b : Base may) (b' : Base may') (d d' : Dir) → Coherent b d
    → UndoesFor a j image y b b' d d' → Coherent (failing a j true b') d'

-- And it falls.
abbrev pub UndoForFallKeeps : May → May → Type 0
UndoForFallKeeps may may' = (a j : ℕ) (image : Page) (y : Rec) (b : Base may) (b' : Base may') (d d' down : Dir) → Coherent b d
    → UndoesFor a j image y b b' d d' → Falls a d' down → Coherent (fell a (failing a j true b')) down

-- An instance whose own force failed falls.
abbrev pub OwnFallKeeps : May → Type 0
OwnFallKeeps may = (i : ℕ) (b : Base may) (d down : Dir) → Coherent b d → b.due ≡ None → b.loose i ≡ false → Falls i d down
    → Coherent (fell i (failing i i true b)) down
