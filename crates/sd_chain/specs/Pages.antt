-- Pages, and a record's change of one.
use Rattle.sd_base.specs.Values.{size}
use Rattle.sd_page.specs.Page.{Page, Slot, HasRoom}
use Rattle.std.specs.Prelude.{◌≡◌, ℕ, zero, suc, ◌<◌, ◌≤◌, List, [], ◌∷◌, None, length, ltb, cond}
use Rattle.sd_logrec.specs.View.{Rec, Kind}
use Rattle.sd_chain.specs.Records.{Val}
use Rattle.sd_logrec.specs.View.Kind.{Update, Clr, Commit, End, Plain}

-- the value of a slot, none past the end
abbrev pub value : List Slot → ℕ → Val
value [] s = None
value (x ∷ xs) zero = x.1
value (x ∷ xs) (suc s) = value xs s

-- the capacity of a slot, 0 past the end
abbrev pub capacity : List Slot → ℕ → ℕ
capacity [] s = 0
capacity (x ∷ xs) zero = x.0
capacity (x ∷ xs) (suc s) = capacity xs s

-- the slot's value set, or a slot added at the end (behind dead ones, where the place is past the end)
abbrev pub write : List Slot → ℕ → ℕ → Val → List Slot
write [] zero c v = (c, v) ∷ []
write [] (suc s) c v = (0, None) ∷ write [] s c v
write (x ∷ xs) zero c v = (x.0, v) ∷ xs
write (x ∷ xs) (suc s) c v = x ∷ write xs s c v

-- the page with the change of a record
abbrev pub redo : Page → Rec → Page
redo page x = record { lsn = x.lsn; number = page.number; slots = write page.slots x.slot x.cap x.after }

-- the page with each record applied that is above the floor
abbrev pub replay : ℕ → Page → List Rec → Page
replay floor page [] = page
replay floor page (x ∷ xs) = replay floor (cond (ltb floor x.lsn) (redo page x) page) xs

-- A change finds the value before it in its slot, which has the change's capacity, or finds room for it as the next slot.
pub record FitsUpdate (slots : List Slot) (s c : ℕ) (before after : Val) : Type 0 where
  pub place : s ≤ length slots
  pub found : before ≡ value slots s
  pub same : s < length slots → c ≡ capacity slots s
  pub room : s ≡ length slots → HasRoom slots c
  pub within : size after ≤ c

-- An undo finds its slot.
pub record FitsUndo (slots : List Slot) (s : ℕ) (after : Val) : Type 0 where
  pub place : s < length slots
  pub within : size after ≤ capacity slots s

-- by the record's kind
abbrev pub FitsKind : Kind → Rec → List Slot → Type 0
FitsKind Update x slots = FitsUpdate slots x.slot x.cap x.before x.after
FitsKind Clr x slots = FitsUndo slots x.slot x.after
FitsKind Commit x slots = Unit {0}
FitsKind End x slots = Unit {0}
FitsKind Plain x slots = Unit {0}

-- the record fits the page that it finds
pub record FitsPage (page : Page) (x : Rec) : Type 0 where
  pub rises : page.lsn < x.lsn
  pub found : FitsKind x.kind x page.slots

-- each record above the floor fits
abbrev pub FitAll : ℕ → Page → List Rec → Type 0
FitAll floor page [] = Unit {0}
FitAll floor page (x ∷ xs) = (floor < x.lsn → FitsPage page x) × FitAll floor (cond (ltb floor x.lsn) (redo page x) page) xs
