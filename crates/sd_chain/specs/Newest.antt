-- What coherence says at any moment: who may update a page, which copy is the newest, and what its newest version holds.
use Rattle.std.specs.Prelude.{◌≡◌, ◌≢◌, ◌⊎◌, ℕ, ◌≤◌, true, false, List, [], ◌∷◌, None, Some, filter}
use Rattle.sd_base.specs.declared.ids.TxnId.{TxnId}
use Rattle.sd_logrec.specs.View.{Rec}
use Rattle.sd_page.specs.Page.{Page}
use Rattle.sd_chain.specs.Records.{Each, IsOpen, Val, at, home, of_page, stack}
use Rattle.sd_chain.specs.Pages.{value}
use Rattle.sd_chain.specs.Images.{Gives, Keeps, all_kept, log}
use Rattle.sd_chain.specs.Laws.{May}
use Rattle.sd_pagelock.specs.Places.{PageEntry, holds, owns, passes}
use Rattle.sd_chain.specs.World.{Base, Dir, newest_version}
use Rattle.sd_chain.specs.Coherent.{Coherent, Quiet}

-- Nobody but i may update page p, or has a copy of it, and none is on its way.
pub record IsAlone (d : Dir) (p i : ℕ) : Type 0 where
  pub updates : (k : ℕ) → owns (d.entry p) k ≡ true → k ≡ i
  pub copies : (k : ℕ) → k ≢ i → d.pool k p ≡ None
  pub moving : d.moving p ≡ None

-- At most one instance may update a page: who may is alone with it.
abbrev pub OneMayUpdate : May → Type 0
OneMayUpdate may = (b : Base may) (d : Dir) → Coherent b d → (p i : ℕ) → owns (d.entry p) i ≡ true → IsAlone d p i

-- Every copy under a page lock is its newest version: a pool has the page exactly where the directory says so, and what it has is
-- the newest version.
abbrev pub EachCopyIsNewest : May → Type 0
EachCopyIsNewest may = (b : Base may) (d : Dir) → Coherent b d → (p i : ℕ)
    → (holds (d.entry p) i ≡ true → d.pool i p ≡ Some (newest_version b p))
    × ((x : Page) → d.pool i p ≡ Some x → (holds (d.entry p) i ≡ true) × (x ≡ newest_version b p))

-- And so is what moves.
abbrev pub MovingIsNewest : May → Type 0
MovingIsNewest may = (b : Base may) (d : Dir) → Coherent b d → (p : ℕ) → (passes (d.entry p) ≡ true → d.moving p ≡ Some (newest_version b p))
    × ((x : Page) → d.moving p ≡ Some x → (passes (d.entry p) ≡ true) × (x ≡ newest_version b p))

-- Tails without a record of the page make no difference to its version.
abbrev pub QuietTailsAgree : May → Type 0
QuietTailsAgree may = (b : Base may) (d : Dir) → Coherent b d → (keeps keeps' : Keeps) (p : ℕ)
    → ((j : ℕ) → (keeps j ≡ keeps' j) ⊎ Quiet p (b.tails.tail j)) → b.version keeps p ≡ b.version keeps' p

-- So, where the page isn't lost, only the tails of active instances count.
abbrev pub ActiveTailsCount : May → Type 0
ActiveTailsCount may = (b : Base may) (d : Dir) → Coherent b d → b.due ≡ None → (p : ℕ) → d.entry p ≢ PageEntry.Lost
    → newest_version b p ≡ b.version b.active p

-- A settled log of an instance that isn't active has no record of a page in its tail.
abbrev pub InactiveHasNone : May → Type 0
InactiveHasNone may = (b : Base may) (d : Dir) → Coherent b d → b.due ≡ None → (j : ℕ) → b.active j ≡ false → b.loose j ≡ false
    → (p : ℕ) → Quiet p (b.tails.tail j)

-- While no fall is due, the log of an instance that is up is settled: it may append to it.
abbrev pub UpIsSettled : May → Type 0
UpIsSettled may = (b : Base may) (d : Dir) → Coherent b d → b.due ≡ None → (i : ℕ) → 1 ≤ i → b.up i ≡ true → b.loose i ≡ false

-- No record of a page is above its newest version's LSN.
abbrev pub NewestIsHigh : May → Type 0
NewestIsHigh may = (b : Base may) (d : Dir) → Coherent b d → (p j : ℕ)
    → Each (λ x. of_page p x ≡ true → x.lsn ≤ (newest_version b p).lsn) (log b.tails j)

-- ---- values: what recovery gives where all tails are kept

-- A record that no transaction has open has its committed value in the newest version.
abbrev pub CommittedIsThere : May → Type 0
CommittedIsThere may = (b : Base may) (d : Dir) → Coherent b d → (values : Keeps → ℕ → ℕ → Val) → Gives b.tails may values
    → (p s : ℕ)
    → ((t : TxnId) → IsOpen t (log b.tails (home t)) → filter (at p s) (stack t (log b.tails (home t))) ≡ [])
    → value (newest_version b p).slots s ≡ values all_kept p s

-- One that a transaction has open has that one's last value.
abbrev pub OpenIsThere : May → Type 0
OpenIsThere may = (b : Base may) (d : Dir) → Coherent b d → (p s : ℕ) (t : TxnId) (top : Rec) (below : List Rec)
    → IsOpen t (log b.tails (home t)) → filter (at p s) (stack t (log b.tails (home t))) ≡ top ∷ below
    → value (newest_version b p).slots s ≡ top.after
