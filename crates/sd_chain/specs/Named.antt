-- The newest versions by name: those of the logs as they are, over what device 0 reads. What events ask for of safety, so named.
use Rattle.std.specs.Prelude.{◌≡◌, ℕ, Bool, List}
use Rattle.sd_logrec.specs.View.{Rec}
use Rattle.sd_page.specs.Page.{Page}
use Rattle.sd_chain.specs.Storage.{newest}
use Rattle.sd_chain.specs.Cuts.{cut}
use Rattle.sd_chain.specs.Images.{Allowed, IsSafe, Keeps, MayChange, MaySeal, MayUndo, Redone, Settled, Tails, kept_at, with_disk}
use Rattle.sd_chain.specs.Laws.{Appends, May, Narrows}
use Rattle.sd_chain.specs.World.{Base, Dir, newest_version}
use Rattle.sd_chain.specs.Coherent.{Coherent}

-- the newest versions of these logs over this disk
abbrev pub version_of : Tails → (ℕ → Page) → Keeps → ℕ → Page
version_of tails disk keeps p = newest (cut keeps (with_disk tails disk)) p

-- So named, the versions are safe, and the same as these.
pub record IsNamed (may : May) (tails : Tails) (disk : ℕ → Page) (version : Keeps → ℕ → Page) : Type 0 where
  pub safe : IsSafe tails may (version_of tails disk)
  pub same : (keeps : Keeps) (p : ℕ) → version_of tails disk keeps p ≡ version keeps p

-- So named, they are safe, and have the change.
pub record IsRedone (may : May) (i : ℕ) (y : Rec) (tails : Tails) (disk : ℕ → Page) (version : Keeps → ℕ → Page) : Type 0 where
  pub safe : IsSafe tails may (version_of tails disk)
  pub redone : Redone i y version (version_of tails disk)

-- ---- laws: at most as much may be left after the event, and device 0 reads one of that

-- Safe versions may be named so.
abbrev pub MayBeNamed : May → May → Type 0
MayBeNamed may may' = (tails : Tails) (version : Keeps → ℕ → Page) (disk : ℕ → Page) → IsSafe tails may version → Narrows may may'
    → Allowed may' disk → IsNamed may' tails disk version

-- A log is settled.
abbrev pub SettleNamed : May → May → Type 0
SettleNamed may may' = (i : ℕ) (kept : Bool) (b : Base may) (d : Dir) (new : Tails) (disk : ℕ → Page) → Coherent b d
    → Settled i kept b.tails new → Narrows may may' → Allowed may' disk
    → IsNamed may' new disk (λ keeps. b.version (kept_at i kept keeps))

-- A record without a page comes.
abbrev pub SealNamed : May → May → Type 0
SealNamed may may' = (i : ℕ) (y : Rec) (b : Base may) (d : Dir) (new : Tails) (disk : ℕ → Page) → Coherent b d
    → Appends i y b.tails new → MaySeal b.tails y → Narrows may may' → Allowed may' disk → IsNamed may' new disk b.version

-- A change comes.
abbrev pub ChangeNamed : May → May → Type 0
ChangeNamed may may' = (i : ℕ) (y : Rec) (b : Base may) (d : Dir) (new : Tails) (disk : ℕ → Page) → Coherent b d
    → Appends i y b.tails new → MayChange i b.tails (newest_version b) y → Narrows may may' → Allowed may' disk
    → IsRedone may' i y new disk b.version

-- An undo comes.
abbrev pub UndoNamed : May → May → Type 0
UndoNamed may may' = (i : ℕ) (y top : Rec) (below : List Rec) (b : Base may) (d : Dir) (new : Tails) (disk : ℕ → Page) → Coherent b d
    → Appends i y b.tails new → MayUndo i b.tails (newest_version b) y top below → Narrows may may' → Allowed may' disk
    → IsRedone may' i y new disk b.version
