-- A record comes to a log: a change or an undo of a page, or a record without a page.
use Rattle.std.specs.Prelude.{◌≡◌, ◌≢◌, ◌⊎◌, ℕ, ◌<◌, ◌≤◌, true, false, List, [], ◌∷◌, None, Some, filter}
use Rattle.sd_base.specs.declared.ids.TxnId.{TxnId}
use Rattle.sd_logrec.specs.View.{Rec}
use Rattle.sd_logrec.specs.View.Kind.{Clr, Update}
use Rattle.sd_page.specs.Page.{Page}
use Rattle.sd_chain.specs.Records.{IsOpen, at, changes, home, stack}
use Rattle.sd_chain.specs.Pages.{FitsKind, redo}
use Rattle.sd_chain.specs.Order.{MayFollow}
use Rattle.sd_chain.specs.Images.{Allowed, Grows, IsSafe, Keeps, Lone, MayChange, MayUndo, Redone, log}
use Rattle.sd_chain.specs.Laws.{May}
use Rattle.sd_pagelock.specs.Places.{changed, owns}
use Rattle.sd_pagelock.specs.Directory.{kept_rec}
use Rattle.sd_pagelock.specs.Rows.{dirtied}
use Rattle.sd_chain.specs.World.{Base, Dir, Stays, newest_version}
use Rattle.sd_chain.specs.Coherent.{Coherent}
use Rattle.sd_chain.specs.Moves.{Elsewhere, OneCopy}

-- Instance a may append to log i: to its own, which is settled, while no fall is due; or, recovering another whose own log has
-- no tail, to the log that it is to force.
abbrev pub Acts : {may : May} → Base may → ℕ → ℕ → Type 0
Acts b a i = ((a ≡ i) × (b.loose i ≡ false) × (b.due ≡ None)) ⊎ ((b.due ≡ Some (a, i)) × (a ≢ i → b.tails.tail a ≡ []))

-- Instance a, who may update the page of y and has this image of it, appends y to log i and redoes it on the image. The page
-- keeps the RecLSN that it has, or gets the record's LSN.
pub record Changes {may may' : May} (a i : ℕ) (image : Page) (y : Rec) (b : Base may) (b' : Base may') (d d' : Dir) : Type 0 where
  pub held : owns (d.entry y.page) a ≡ true
  pub copy : d.pool a y.page ≡ Some image
  pub rises : image.lsn < y.lsn
  pub acts : Acts b a i
  pub low : 1 ≤ i
  pub grows : Grows i y b.tails b'.tails
  pub redone : Redone i y b.version b'.version
  pub safe : IsSafe b'.tails may' b'.version
  pub reads : Allowed may' b'.disk
  pub entry : d'.entry y.page ≡ dirtied a
  pub redone_copy : OneCopy y.page a (Some (redo image y)) d d'
  pub moving : d'.moving y.page ≡ d.moving y.page
  pub others : Elsewhere y.page d d'
  pub rec_lsn : b'.rec_lsn y.page ≡ kept_rec (changed (d.entry y.page)) true (b.rec_lsn y.page) (Some y.lsn)
  pub other_rec : (q : ℕ) → q ≢ y.page → b'.rec_lsn q ≡ b.rec_lsn q
  pub stays : Stays b b'

-- A record without a page comes to log i.
pub record Seals {may may' : May} (i : ℕ) (y : Rec) (b : Base may) (b' : Base may') : Type 0 where
  pub no_page : changes y.kind ≡ false
  pub low : 1 ≤ i
  pub grows : Grows i y b.tails b'.tails
  pub version : (keeps : Keeps) (p : ℕ) → b'.version keeps p ≡ b.version keeps p
  pub safe : IsSafe b'.tails may' b'.version
  pub reads : Allowed may' b'.disk
  pub rec_lsn : (p : ℕ) → b'.rec_lsn p ≡ b.rec_lsn p
  pub stays : Stays b b'

-- Nothing happens, but at most as much may be left of device 0.
pub record Rests {may may' : May} (b : Base may) (b' : Base may') : Type 0 where
  pub bases : (j : ℕ) → b'.tails.base j ≡ b.tails.base j
  pub tails : (j : ℕ) → b'.tails.tail j ≡ b.tails.tail j
  pub version : (keeps : Keeps) (p : ℕ) → b'.version keeps p ≡ b.version keeps p
  pub safe : IsSafe b'.tails may' b'.version
  pub reads : Allowed may' b'.disk
  pub rec_lsn : (p : ℕ) → b'.rec_lsn p ≡ b.rec_lsn p
  pub stays : Stays b b'

-- ---- laws

-- No other tail has a record of a page that a may update, where a may append to log i.
abbrev pub OthersHaveNone : May → Type 0
OthersHaveNone may = (a i p : ℕ) (b : Base may) (d : Dir) → Coherent b d → owns (d.entry p) a ≡ true → Acts b a i → Lone b.tails i p

-- So a change that follows in its transaction, fits the image in the pool, and is of a record that no other holds, may come.
abbrev pub ChangeMayCome : May → Type 0
ChangeMayCome may = (a i : ℕ) (image : Page) (y : Rec) (b : Base may) (d : Dir) → Coherent b d → owns (d.entry y.page) a ≡ true
    → Acts b a i → d.pool a y.page ≡ Some image → y.kind ≡ Update → MayFollow (log b.tails (home y.txn)) y → image.lsn < y.lsn
    → FitsKind Update y image.slots
    → ((t : TxnId) → t ≢ y.txn → IsOpen t (b.tails.base (home t))
    → filter (at y.page y.slot) (stack t (log b.tails (home t))) ≡ [])
    → MayChange i b.tails (newest_version b) y

-- The record takes back the top of its transaction's stack.
pub record IsUndo (y top : Rec) (below own : List Rec) : Type 0 where
  pub kind : y.kind ≡ Clr
  pub follows : MayFollow own y
  pub stack : stack y.txn own ≡ top ∷ below

-- And so may an undo, seen from the image in the pool.
abbrev pub UndoMayCome : May → Type 0
UndoMayCome may = (a i : ℕ) (image : Page) (y top : Rec) (below : List Rec) (b : Base may) (d : Dir) → Coherent b d
    → owns (d.entry y.page) a ≡ true → Acts b a i → d.pool a y.page ≡ Some image → image.lsn < y.lsn
    → IsUndo y top below (log b.tails (home y.txn)) → MayUndo i b.tails (newest_version b) y top below

-- A change keeps coherence.
abbrev pub ChangeKeeps : May → May → Type 0
ChangeKeeps may may' = (a i : ℕ) (image : Page) (y : Rec) (b : Base may) (b' : Base may') (d d' : Dir) → Coherent b d
    → Changes a i image y b b' d d' → Coherent b' d'

-- A record without a page keeps coherence.
abbrev pub SealKeeps : May → May → Type 0
SealKeeps may may' = (i : ℕ) (y : Rec) (b : Base may) (b' : Base may') (d : Dir) → Coherent b d → Seals i y b b' → Coherent b' d

-- Where nothing happens, coherence stays, with whatever versions and marks are the same.
abbrev pub RestKeeps : May → May → Type 0
RestKeeps may may' = (b : Base may) (b' : Base may') (d : Dir) → Coherent b d → Rests b b' → Coherent b' d
