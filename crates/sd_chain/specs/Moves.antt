-- The rows of the directory's table, which neither logs nor devices see: a page is read, raised, given, taken or dropped.
use Rattle.std.specs.Prelude.{Option, ◌≡◌, ◌≢◌, ◌⊎◌, ℕ, true, false, [], None, Some, cond}
use Rattle.sd_base.specs.declared.place.Mode.{Mode}
use Rattle.sd_page.specs.Page.{Page}
use Rattle.sd_chain.specs.Laws.{May}
use Rattle.sd_pagelock.specs.Directory.{kept_rec}
use Rattle.sd_pagelock.specs.Places.{Formed, PageEntry, changed, holds, is_free, passes, receives, uses}
use Rattle.sd_pagelock.specs.Rows.{fallen, given_excl, given_shared, locked, may_raise, may_share, may_yield, raised, taken}
use Rattle.sd_chain.specs.World.{Base, Dir}
use Rattle.sd_chain.specs.Coherent.{Coherent}

-- Entries and copies of other pages than p stay.
pub record Elsewhere (p : ℕ) (old new : Dir) : Type 0 where
  pub entries : (q : ℕ) → q ≢ p → new.entry q ≡ old.entry q
  pub pools : (i q : ℕ) → q ≢ p → new.pool i q ≡ old.pool i q
  pub moving : (q : ℕ) → q ≢ p → new.moving q ≡ old.moving q

-- The pool of i has this copy of page p, or none; the copies of p in other pools stay.
pub record OneCopy (p i : ℕ) (copy : Option Page) (old new : Dir) : Type 0 where
  pub here : new.pool i p ≡ copy
  pub others : (k : ℕ) → k ≢ i → new.pool k p ≡ old.pool k p

-- The copies of page p are those that its new entry names, each of them this image.
pub record Moved (p : ℕ) (image : Page) (to : PageEntry) (old new : Dir) : Type 0 where
  pub here : new.entry p ≡ to
  pub copies : (i : ℕ) → new.pool i p ≡ cond (holds to i) (Some image) None
  pub passing : new.moving p ≡ cond (passes to) (Some image) None
  pub others : Elsewhere p old new

-- Such a row: it finds the page, keeps what the disk lacks, and leaves the page to active instances.
pub record IsRow {may : May} (b : Base may) (from to : PageEntry) : Type 0 where
  pub found : from ≢ PageEntry.Lost
  pub changed : changed to ≡ changed from
  pub live : (i : ℕ) → uses to i ≡ true → b.active i ≡ true

-- Where the image comes from: a pool, the moving place, or device 0, of a page that no pool has.
abbrev pub Source : {may : May} → Base may → Dir → ℕ → Page → Type 0
Source b d p image = ((i : ℕ) × (d.pool i p ≡ Some image)) ⊎ ((d.moving p ≡ Some image)
    ⊎ ((d.entry p ≡ PageEntry.Free) × (image ≡ b.disk p)))

-- Where one has the page alone, changed, its log has no tail, or isn't settled.
abbrev pub ForcedFor : {may : May} → Base may → Dir → ℕ → Type 0
ForcedFor b d p = (j : ℕ) → d.entry p ≡ PageEntry.Excl j true → b.loose j ≡ false → b.tails.tail j ≡ []

-- A row may come now: no force is under way and no fall is due, the page is forced for, and other pages stay.
pub record MayMove {may : May} (b : Base may) (old new : Dir) (p : ℕ) : Type 0 where
  pub coherent : Coherent b old
  pub idle : b.due ≡ None
  pub forced : ForcedFor b old p
  pub others : Elsewhere p old new

-- Any row keeps coherence.
abbrev pub RowKeeps : May → Type 0
RowKeeps may = (b : Base may) (old new : Dir) (p : ℕ) (image : Page) (to : PageEntry) → Coherent b old → b.due ≡ None
    → ForcedFor b old p → IsRow b (old.entry p) to → Source b old p image → Moved p image to old new → Coherent b new

-- And the page keeps its RecLSN, whatever LSN the directory was given with the row.
abbrev pub RowKeepsRec : May → Type 0
RowKeepsRec may = (b : Base may) (d : Dir) (p : ℕ) (to : PageEntry) (rec : Option ℕ) → Coherent b d → changed to ≡ changed (d.entry p)
    → kept_rec (changed (d.entry p)) (changed to) (b.rec_lsn p) rec ≡ b.rec_lsn p

-- i reads a free page from device 0.
abbrev pub LockKeeps : May → Type 0
LockKeeps may = (b : Base may) (old new : Dir) (p i : ℕ) (mode : Mode) → MayMove b old new p → b.active i ≡ true
    → is_free (old.entry p) ≡ true → new.entry p ≡ locked i mode
    → OneCopy p i (Some (b.disk p)) old new → new.moving p ≡ old.moving p → Coherent b new

-- i, the only one of a shared page, has it alone.
abbrev pub RaiseKeeps : May → Type 0
RaiseKeeps may = (b : Base may) (old new : Dir) (p i : ℕ) → MayMove b old new p → may_raise i (old.entry p) ≡ true
    → new.entry p ≡ raised i (old.entry p) → ((k : ℕ) → new.pool k p ≡ old.pool k p) → new.moving p ≡ old.moving p
    → Coherent b new

-- A holder gives i a copy, which moves; all holders keep theirs.
abbrev pub ShareKeeps : May → Type 0
ShareKeeps may = (b : Base may) (old new : Dir) (p j i : ℕ) → MayMove b old new p → b.active i ≡ true
    → may_share i (old.entry p) ≡ true → holds (old.entry p) j ≡ true → new.entry p ≡ given_shared i (old.entry p)
    → ((k : ℕ) → new.pool k p ≡ old.pool k p) → new.moving p ≡ old.pool j p → Coherent b new

-- j, the only holder, gives i its copy, which moves.
abbrev pub YieldKeeps : May → Type 0
YieldKeeps may = (b : Base may) (old new : Dir) (p j i : ℕ) → MayMove b old new p → b.active i ≡ true
    → may_yield i (old.entry p) ≡ true → holds (old.entry p) j ≡ true → new.entry p ≡ given_excl i (old.entry p)
    → OneCopy p j None old new → new.moving p ≡ old.pool j p → Coherent b new

-- i takes what moves to it.
abbrev pub TakeKeeps : May → Type 0
TakeKeeps may = (b : Base may) (old new : Dir) (p i : ℕ) → MayMove b old new p → Formed (old.entry p)
    → receives (old.entry p) i ≡ true → new.entry p ≡ taken (old.entry p) → OneCopy p i (old.moving p) old new
    → new.moving p ≡ None → Coherent b new

-- i drops its copy: its pool needs the frame, or another asks for the page alone.
abbrev pub DropKeeps : May → Type 0
DropKeeps may = (b : Base may) (old new : Dir) (p i : ℕ) → MayMove b old new p → Formed (old.entry p)
    → holds (old.entry p) i ≡ true → new.entry p ≡ fallen i (old.entry p)
    → OneCopy p i None old new → new.moving p ≡ old.moving p → Coherent b new
