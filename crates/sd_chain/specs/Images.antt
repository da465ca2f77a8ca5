-- The images that a crash may leave: any tails, and of each page any of its possible disk images.
use Rattle.std.specs.Prelude.{◌≡◌, ◌≢◌, ◌⊎◌, ℕ, ◌<◌, ◌≤◌, Bool, true, false, List, [], ◌∷◌, ◌++◌, filter, cond, eqb}
use Rattle.sd_logrec.specs.View.{Rec}
use Rattle.sd_base.specs.declared.ids.TxnId.{TxnId}
use Rattle.sd_chain.specs.Records.{Val, of_page, at, changes, Each, home, stack, IsOpen}
use Rattle.sd_logrec.specs.View.Kind.{Update, Clr}
use Rattle.sd_page.specs.Page.{Page}
use Rattle.sd_chain.specs.Pages.{FitsKind, redo}
use Rattle.sd_chain.specs.Storage.{newest, Sound, Recovered}
use Rattle.sd_chain.specs.Order.{of_txn, speaks, Tidy, MayFollow}
use Rattle.sd_chain.specs.Cuts.{Logs, cut, Pops}

-- forced records and tails
pub record Tails : Type 0 where
  pub base : ℕ → List Rec
  pub tail : ℕ → List Rec

-- which logs have their tail
abbrev pub Keeps : Type 0
Keeps = ℕ → Bool

-- all logs have their tail
abbrev pub all_kept : Keeps
all_kept j = true

-- with the tail of log i, or without
abbrev pub kept_at : ℕ → Bool → Keeps → Keeps
kept_at i b keeps j = cond (eqb j i) b (keeps j)

-- with these disk images
abbrev pub with_disk : Tails → (ℕ → Page) → Logs
with_disk tails disk = record { base = tails.base; tail = tails.tail; disk = disk }

-- each page is one that a crash may leave
abbrev pub Allowed : (ℕ → Page → Type 0) → (ℕ → Page) → Type 0
Allowed may disk = (p : ℕ) → may p (disk p)

-- a log with its tail
abbrev pub log : Tails → ℕ → List Rec
log tails j = tails.base j ++ tails.tail j

-- Each image is sound, its transactions' records are in order, and its newest versions hang on the kept tails alone.
pub record IsSafe (tails : Tails) (may : ℕ → Page → Type 0) (version : Keeps → ℕ → Page) : Type 0 where
  pub eight : (j : ℕ) → 9 ≤ j → log tails j ≡ []
  pub numbered : (j : ℕ) → Each (λ x. 0 < x.lsn) (log tails j)
  pub order : (keeps : Keeps) (j : ℕ) (t : TxnId) → Tidy t (tails.base j ++ cond (keeps j) (tails.tail j) [])
  -- each undo in a tail is of the page of its stack's top
  pub pops : (t : TxnId) → Pops t (stack t (tails.base (home t))) (tails.tail (home t))
  pub sound : (disk : ℕ → Page) → Allowed may disk → (keeps : Keeps) → Sound (cut keeps (with_disk tails disk))
  pub same : (disk : ℕ → Page) → Allowed may disk → (keeps : Keeps) (p : ℕ)
      → newest (cut keeps (with_disk tails disk)) p ≡ version keeps p

-- what recovery gives in each image
abbrev pub Gives : Tails → (ℕ → Page → Type 0) → (Keeps → ℕ → ℕ → Val) → Type 0
Gives tails may value = (disk : ℕ → Page) → Allowed may disk → (keeps : Keeps) → (p s : ℕ)
    → Recovered (cut keeps (with_disk tails disk)) p s (value keeps p s)

-- page p may now be left so, too
abbrev pub or_written : (ℕ → Page → Type 0) → ℕ → Page → ℕ → Page → Type 0
or_written may p page q x = may q x ⊎ ((q ≡ p) × (x ≡ page))

-- tail i has one more record
pub record Grows (i : ℕ) (y : Rec) (old new : Tails) : Type 0 where
  pub inside : i < 9
  pub here : new.tail i ≡ old.tail i ++ y ∷ []
  pub others : (j : ℕ) → j ≢ i → new.tail j ≡ old.tail j
  pub base : (j : ℕ) → new.base j ≡ old.base j

-- no tail but that of log i has a record of the page
abbrev pub Lone : Tails → ℕ → ℕ → Type 0
Lone tails i p = (j : ℕ) → j ≢ i → Each (λ x. of_page p x ≡ false) (tails.tail j)

-- A change may be appended to log i, seen from memory: the page there, the logs, and what other transactions have open.
pub record MayChange (i : ℕ) (tails : Tails) (in_memory : ℕ → Page) (y : Rec) : Type 0 where
  pub kind : y.kind ≡ Update
  pub follows : MayFollow (log tails (home y.txn)) y
  pub rises : (in_memory y.page).lsn < y.lsn
  pub fits : FitsKind Update y (in_memory y.page).slots
  pub lone : Lone tails i y.page
  -- no other transaction that forced records don't close has changed the record
  pub free : (t : TxnId) → t ≢ y.txn → IsOpen t (tails.base (home t))
      → filter (at y.page y.slot) (stack t (log tails (home t))) ≡ []

-- The undo of the top of its transaction's stack may be appended.
pub record MayUndo (i : ℕ) (tails : Tails) (in_memory : ℕ → Page) (y top : Rec) (below : List Rec) : Type 0 where
  pub kind : y.kind ≡ Clr
  pub follows : MayFollow (log tails (home y.txn)) y
  pub rises : (in_memory y.page).lsn < y.lsn
  pub lone : Lone tails i y.page
  pub stack : stack y.txn (log tails (home y.txn)) ≡ top ∷ below

-- A record without a page may be appended: it is of no transaction, or follows its transaction's.
pub record MaySeal (tails : Tails) (y : Rec) : Type 0 where
  pub no_page : changes y.kind ≡ false
  pub numbered : 0 < y.lsn
  pub follows : speaks y.kind ≡ true → MayFollow (log tails (home y.txn)) y

-- the versions with tail i have the change, the others don't
pub record Redone (i : ℕ) (y : Rec) (old new : Keeps → ℕ → Page) : Type 0 where
  pub here : (keeps : Keeps) → keeps i ≡ true → new keeps y.page ≡ redo (old keeps y.page) y
  pub others : (keeps : Keeps) (q : ℕ) → q ≢ y.page → new keeps q ≡ old keeps q
  pub without : (keeps : Keeps) (q : ℕ) → keeps i ≡ false → new keeps q ≡ old keeps q

-- where tail i is kept, what the transaction changed has its last value
pub record Commits (i : ℕ) (y : Rec) (tails : Tails) (old new : Keeps → ℕ → ℕ → Val) : Type 0 where
  pub changed : (keeps : Keeps) → keeps i ≡ true → (p s : ℕ) (top : Rec) (below : List Rec)
      → filter (at p s) (stack y.txn (log tails (home y.txn))) ≡ top ∷ below → new keeps p s ≡ top.after
  pub unchanged : (keeps : Keeps) (p s : ℕ) → filter (at p s) (stack y.txn (log tails (home y.txn))) ≡ []
      → new keeps p s ≡ old keeps p s
  pub without : (keeps : Keeps) → keeps i ≡ false → (p s : ℕ) → new keeps p s ≡ old keeps p s

-- tail i is forced, or dropped: it is in every image, or in none
pub record Settled (i : ℕ) (kept : Bool) (old new : Tails) : Type 0 where
  pub inside : i < 9
  pub base : new.base i ≡ old.base i ++ cond kept (old.tail i) []
  pub tail : new.tail i ≡ []
  pub other_bases : (j : ℕ) → j ≢ i → new.base j ≡ old.base j
  pub other_tails : (j : ℕ) → j ≢ i → new.tail j ≡ old.tail j

-- log i, which has no tail, is read from a later place
pub record Shortened (i : ℕ) (gone : List Rec) (old new : Tails) (may : ℕ → Page → Type 0) : Type 0 where
  pub inside : i < 9
  pub here : old.base i ≡ gone ++ new.base i
  pub no_tail : old.tail i ≡ []
  pub tails : (j : ℕ) → new.tail j ≡ old.tail j
  pub others : (j : ℕ) → j ≢ i → new.base j ≡ old.base j
  pub on_disk : (disk : ℕ → Page) → Allowed may disk → Each (λ x. (p : ℕ) → of_page p x ≡ true → x.lsn ≤ (disk p).lsn) gone
  pub closed : (t : TxnId)
      → Each (λ x. of_txn t x ≡ false) gone
      ⊎ ((IsOpen t (new.base i) → ⊥) ⊎ ((IsOpen t (old.base i) → ⊥) × Each (λ x. of_txn t x ≡ false) (new.base i)))
