-- A checkpoint: what it has of pages and of transactions from its begin on, and the later start place that this allows.
use Rattle.std.specs.Prelude.{◌≡◌, ◌≢◌, ℕ, ◌<◌, ◌≤◌, Bool, true, List, [], ◌++◌, Some}
use Rattle.sd_logrec.specs.View.{Rec}
use Rattle.sd_page.specs.Page.{Page}
use Rattle.sd_chain.specs.Records.{Each, IsOpen, of_page}
use Rattle.sd_chain.specs.Order.{speaks}
use Rattle.sd_chain.specs.Images.{Grows, Settled, Shortened, Tails, log, or_written}
use Rattle.sd_chain.specs.Laws.{May, Narrows}
use Rattle.sd_chain.specs.World.{Base, Dir, newest_version}
use Rattle.sd_chain.specs.Coherent.{Coherent}

-- The record, where it is of this page and below low, is on this disk image of it.
abbrev pub OnDisk : ℕ → ℕ → Page → Rec → Type 0
OnDisk low p x r = of_page p r ≡ true → r.lsn < low → r.lsn ≤ x.lsn

-- Each record of log i below low is on disk, whatever a crash leaves. It is said of log i alone, since each log has LSNs of its own.
abbrev pub Covered : {may : May} → ℕ → ℕ → Base may → Type 0
Covered {may} low i b = (p : ℕ) (x : Page) → may p x → Each (OnDisk low p x) (log b.tails i)

-- The record is of no transaction, or of one that these records close.
abbrev pub Shut : List Rec → Rec → Type 0
Shut records x = speaks x.kind ≡ true → IsOpen x.txn records → ⊥

-- So is each record of log i below low.
abbrev pub Closed : ℕ → ℕ → Tails → Type 0
Closed low i tails = Each (λ x. x.lsn < low → Shut (log tails i) x) (log tails i)

-- Log i is read from a later place.
abbrev pub with_tails : {may : May} → Tails → Base may → Base may
with_tails tails b = record {
  tails = tails;
  version = b.version;
  disk = b.disk;
  rec_lsn = b.rec_lsn;
  loose = b.loose;
  loose_disk = b.loose_disk;
  active = b.active;
  up = b.up;
  due = b.due;
}

-- Log i, which has no tail, is to begin behind these records, all of which are below low; other logs stay.
pub record BeginsLater (low i : ℕ) (gone : List Rec) (old new : Tails) : Type 0 where
  pub inside : i < 9
  pub here : old.base i ≡ gone ++ new.base i
  pub no_tail : old.tail i ≡ []
  pub below : Each (λ x. x.lsn < low) gone
  pub tails : (j : ℕ) → new.tail j ≡ old.tail j
  pub others : (j : ℕ) → j ≢ i → new.base j ≡ old.base j

-- ---- laws on pages

-- A low that is at most each RecLSN begins it.
abbrev pub CoverBegins : May → Type 0
CoverBegins may = (low i : ℕ) (b : Base may) (d : Dir) → Coherent b d → ((p l : ℕ) → b.rec_lsn p ≡ Some l → low ≤ l) → Covered low i b

-- A record that comes to log i isn't below low.
abbrev pub CoverGrows : May → May → Type 0
CoverGrows may may' = (low i : ℕ) (y : Rec) (b : Base may) (b' : Base may') → Grows i y b.tails b'.tails → Narrows may may' → low ≤ y.lsn
    → Covered low i b → Covered low i b'

-- Any log is settled.
abbrev pub CoverSettles : May → May → Type 0
CoverSettles may may' = (low i j : ℕ) (kept : Bool) (b : Base may) (b' : Base may') → Settled j kept b.tails b'.tails → Narrows may may'
    → Covered low i b → Covered low i b'

-- A page is put.
abbrev pub CoverPuts : May → May → Type 0
CoverPuts may may' = (low i p : ℕ) (b : Base may) (b' : Base may') (d : Dir) → Coherent b d
    → ((q : ℕ) (x : Page) → may' q x → or_written may p (newest_version b p) q x) → log b'.tails i ≡ log b.tails i → Covered low i b → Covered low i b'

-- All else leaves log i as it is, and at most as much of device 0.
abbrev pub CoverStays : May → May → Type 0
CoverStays may may' = (low i : ℕ) (b : Base may) (b' : Base may') → log b'.tails i ≡ log b.tails i → Narrows may may' → Covered low i b
    → Covered low i b'

-- ---- laws on transactions

-- A low that is at most the LSN of each record of a transaction that isn't closed begins it.
abbrev pub CloseBegins : Type 0
CloseBegins = (low i : ℕ) (tails : Tails) → Each (λ x. speaks x.kind ≡ true → IsOpen x.txn (log tails i) → low ≤ x.lsn) (log tails i)
    → Closed low i tails

-- A record that comes to log i isn't below low.
abbrev pub CloseGrows : Type 0
CloseGrows = (low i : ℕ) (y : Rec) (old new : Tails) → Grows i y old new → low ≤ y.lsn → Closed low i old → Closed low i new

-- Any log is settled, this one with its tail.
abbrev pub CloseSettles : Type 0
CloseSettles = (low i j : ℕ) (kept : Bool) (old new : Tails) → Settled j kept old new → (i ≡ j → kept ≡ true) → Closed low i old → Closed low i new

-- All else leaves log i as it is.
abbrev pub CloseStays : Type 0
CloseStays = (low i : ℕ) (old new : Tails) → new.base i ≡ old.base i → new.tail i ≡ old.tail i → Closed low i old → Closed low i new

-- ---- a later start place

-- What is covered and closed below low allows a start place behind it.
abbrev pub MayShorten : May → Type 0
MayShorten may = (low i : ℕ) (gone : List Rec) (b : Base may) (d : Dir) (new : Tails) → Coherent b d → Covered low i b
    → Closed low i b.tails → BeginsLater low i gone b.tails new → Shortened i gone b.tails new may

-- And a log that is read from there keeps coherence.
abbrev pub ShortenKeeps : May → Type 0
ShortenKeeps may = (i : ℕ) (gone : List Rec) (b : Base may) (d : Dir) (new : Tails) → Coherent b d → Shortened i gone b.tails new may
    → Coherent (with_tails new b) d
