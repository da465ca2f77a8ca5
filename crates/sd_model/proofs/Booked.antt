-- How a book's entries read when one more is noted. They serve the goals of `book`.
use Rattle.std.proofs.Common.{◌≡◌, ℕ, ◌+◌, ◌-◌, ◌≤◌, List, [], ◌∷◌, ◌++◌, length, refl, ap, sym, subst, arith, ◌∙◌}
use Rattle.std.proofs.lemmas.List.{length_push, take_rest}
use Rattle.sd_base.proofs.Lists.{slice_get-push, stands_at}
use Rattle.std.specs.Borrow.{Bor}
use Rattle.std.specs.Prelude.{IfSome, IsSome, Option, None, Some, drop, false, get_or, min, option_copied, option_map, slice_get, take}
use Rattle.sd_model.specs.declared.event.Entry.{Entry}
use Rattle.sd_model.specs.declared.event.Reply.{Reply}
use Rattle.sd_model.specs.declared.line.LineEntry.{LineEntry}
use Rattle.sd_model.specs.declared.line.LineEntry.TheVariants as short
use Rattle.sd_model.specs.declared.packed.Answer.{Answer}
use Rattle.sd_model.specs.declared.packed.Answer.TheVariants as answer
use Rattle.sd_model.specs.declared.packed.Deed.{Deed}
use Rattle.sd_model.specs.declared.packed.Noted.{Noted}
use Rattle.sd_model.specs.declared.packed.Noted.TheVariants.{Help, Line, Whole}
use Rattle.sd_model.specs.Shorts.{entry_of, help_entry, line_entry, noted_entry, reply_of}
use Rattle.sd_model.specs.declared.book.Newest.{Newest}
use Rattle.sd_model.specs.declared.book.Newest.TheVariants as newest
use Rattle.sd_model.specs.Booked.{last_of, reply_of_last, unpacked, IsBook, IsNewest, NotesAll}
use Rattle.sd_model.specs.Replies.{wants_page}

-- one help more
read-help : (noted : List Noted) (lines : List LineEntry) (whole : List Entry) (h : Noted) (e : Entry) → noted_entry h ≡ Some e
    → NotesAll noted lines whole → unpacked (noted ++ h ∷ []) lines whole ≡ unpacked noted lines whole ++ e ∷ []
read-help [] lines whole (Help s p i d a n) e is all =
    let same : entry_of s p i d a n ≡ e = cc in
    let none = all.1 in
    ap (λ (l : List Entry). entry_of s p i d a n ∷ l) none ∙ ap (λ (x : Entry). x ∷ []) same
    ∙ sym (ap (λ (l : List Entry). l ++ e ∷ []) none)
read-help [] lines whole Line e is all = absurd (cc)
read-help [] lines whole Whole e is all = absurd (cc)
read-help (Help s p i d a n ∷ noted) lines whole h e is all =
    ap (λ (l : List Entry). entry_of s p i d a n ∷ l) (read-help noted lines whole h e is all)
read-help (Line ∷ noted) [] whole h e is all = absurd all
read-help (Line ∷ noted) (x ∷ lines) whole h e is all =
    ap (λ (l : List Entry). line_entry x ∷ l) (read-help noted lines whole h e is all)
read-help (Whole ∷ noted) lines [] h e is all = absurd all
read-help (Whole ∷ noted) lines (x ∷ whole) h e is all = ap (λ (l : List Entry). x ∷ l) (read-help noted lines whole h e is all)

notes-help : (noted : List Noted) (lines : List LineEntry) (whole : List Entry) (h : Noted) (e : Entry) → noted_entry h ≡ Some e
    → NotesAll noted lines whole → NotesAll (noted ++ h ∷ []) lines whole
notes-help [] lines whole (Help s p i d a n) e is all = all
notes-help [] lines whole Line e is all = absurd (cc)
notes-help [] lines whole Whole e is all = absurd (cc)
notes-help (Help s p i d a n ∷ noted) lines whole h e is all = notes-help noted lines whole h e is all
notes-help (Line ∷ noted) [] whole h e is all = absurd all
notes-help (Line ∷ noted) (x ∷ lines) whole h e is all = notes-help noted lines whole h e is all
notes-help (Whole ∷ noted) lines [] h e is all = absurd all
notes-help (Whole ∷ noted) lines (x ∷ whole) h e is all = notes-help noted lines whole h e is all

-- one entry of a transaction more, in few bytes
read-line : (noted : List Noted) (lines : List LineEntry) (whole : List Entry) (l : LineEntry) → NotesAll noted lines whole
    → unpacked (noted ++ Line ∷ []) (lines ++ l ∷ []) whole ≡ unpacked noted lines whole ++ line_entry l ∷ []
read-line [] [] [] l all = refl
read-line [] [] (x ∷ whole) l all = let no = all.1 in absurd (cc)
read-line [] (x ∷ lines) whole l all = let no = all.0 in absurd (cc)
read-line (Help s p i d a n ∷ noted) lines whole l all =
    ap (λ (k : List Entry). entry_of s p i d a n ∷ k) (read-line noted lines whole l all)
read-line (Line ∷ noted) [] whole l all = absurd all
read-line (Line ∷ noted) (x ∷ lines) whole l all = ap (λ (k : List Entry). line_entry x ∷ k) (read-line noted lines whole l all)
read-line (Whole ∷ noted) lines [] l all = absurd all
read-line (Whole ∷ noted) lines (x ∷ whole) l all = ap (λ (k : List Entry). x ∷ k) (read-line noted lines whole l all)

notes-line : (noted : List Noted) (lines : List LineEntry) (whole : List Entry) (l : LineEntry) → NotesAll noted lines whole
    → NotesAll (noted ++ Line ∷ []) (lines ++ l ∷ []) whole
notes-line [] [] whole l all = (refl, all.1)
notes-line [] (x ∷ lines) whole l all = let no = all.0 in absurd (cc)
notes-line (Help s p i d a n ∷ noted) lines whole l all = notes-line noted lines whole l all
notes-line (Line ∷ noted) [] whole l all = absurd all
notes-line (Line ∷ noted) (x ∷ lines) whole l all = notes-line noted lines whole l all
notes-line (Whole ∷ noted) lines [] l all = absurd all
notes-line (Whole ∷ noted) lines (x ∷ whole) l all = notes-line noted lines whole l all

-- one more that stands whole
read-whole : (noted : List Noted) (lines : List LineEntry) (whole : List Entry) (e : Entry) → NotesAll noted lines whole
    → unpacked (noted ++ Whole ∷ []) lines (whole ++ e ∷ []) ≡ unpacked noted lines whole ++ e ∷ []
read-whole [] [] [] e all = refl
read-whole [] [] (x ∷ whole) e all = let no = all.1 in absurd (cc)
read-whole [] (x ∷ lines) whole e all = let no = all.0 in absurd (cc)
read-whole (Help s p i d a n ∷ noted) lines whole e all =
    ap (λ (k : List Entry). entry_of s p i d a n ∷ k) (read-whole noted lines whole e all)
read-whole (Line ∷ noted) [] whole e all = absurd all
read-whole (Line ∷ noted) (x ∷ lines) whole e all = ap (λ (k : List Entry). line_entry x ∷ k) (read-whole noted lines whole e all)
read-whole (Whole ∷ noted) lines [] e all = absurd all
read-whole (Whole ∷ noted) lines (x ∷ whole) e all = ap (λ (k : List Entry). x ∷ k) (read-whole noted lines whole e all)

notes-whole : (noted : List Noted) (lines : List LineEntry) (whole : List Entry) (e : Entry) → NotesAll noted lines whole
    → NotesAll (noted ++ Whole ∷ []) lines (whole ++ e ∷ [])
notes-whole [] lines [] e all = (all.0, refl)
notes-whole [] lines (x ∷ whole) e all = let no = all.1 in absurd (cc)
notes-whole (Help s p i d a n ∷ noted) lines whole e all = notes-whole noted lines whole e all
notes-whole (Line ∷ noted) [] whole e all = absurd all
notes-whole (Line ∷ noted) (x ∷ lines) whole e all = notes-whole noted lines whole e all
notes-whole (Whole ∷ noted) lines [] e all = absurd all
notes-whole (Whole ∷ noted) lines (x ∷ whole) e all = notes-whole noted lines whole e all

-- an entry is noted once
pub count-read : (noted : List Noted) (lines : List LineEntry) (whole : List Entry) → NotesAll noted lines whole
    → length noted ≡ length (unpacked noted lines whole)
count-read [] lines whole all = sym (ap (λ (l : List Entry). length l) all.1)
count-read (Help s p i d a n ∷ noted) lines whole all = let rest = count-read noted lines whole all in omega (arith, rest)
count-read (Line ∷ noted) [] whole all = absurd all
count-read (Line ∷ noted) (x ∷ lines) whole all = let rest = count-read noted lines whole all in omega (arith, rest)
count-read (Whole ∷ noted) lines [] all = absurd all
count-read (Whole ∷ noted) lines (x ∷ whole) all = let rest = count-read noted lines whole all in omega (arith, rest)

-- the last of a list that grew
last-push : (before : List Entry) (x : Entry) → last_of (before ++ x ∷ []) ≡ Some x
last-push before x =
    let count : length (before ++ x ∷ []) - 1 ≡ length before = (let l = length_push before x in omega (arith, l)) in
    ap (slice_get (before ++ x ∷ [])) count ∙ slice_get-push before x

pub last-is : (es before : List Entry) (x : Entry) → es ≡ before ++ x ∷ [] → last_of es ≡ Some x
last-is es before x is = ap last_of is ∙ last-push before x

-- a list that isn't empty has a last
pub last-there : (es : List Entry) → (es ≡ [] → ⊥) → (x : Entry) × (last_of es ≡ Some x)
last-there [] some = absurd (some refl)
last-there (e ∷ es) some = stands_at (e ∷ es) (length (e ∷ es) - 1) (omega arith)

-- ---- the reply of an entry in few bytes wants no page

answer-comes : (a : Answer) (n : ℕ) → wants_page (reply_of a n) ≡ false
answer-comes answer.Did n = refl
answer-comes answer.Have n = refl
answer-comes answer.Asked n = refl
answer-comes answer.Gave n = refl
answer-comes answer.MovingTo n = refl
answer-comes answer.PoolFull n = refl

help-comes : (h : Noted) (e : Entry) → noted_entry h ≡ Some e → wants_page e.reply ≡ false
help-comes (Help s p i d a n) e is =
    let same : e ≡ entry_of s p i d a n = cc in
    ap (λ (x : Entry). wants_page x.reply) same ∙ answer-comes a n
help-comes Line e is = absurd (cc)
help-comes Whole e is = absurd (cc)

line-comes : (l : LineEntry) → wants_page (line_entry l).reply ≡ false
line-comes (short.Begin session at line txn) = refl
line-comes (short.Read session line txn rid count value) = refl
line-comes (short.Miss session line txn rid) = refl
line-comes (short.Write session line txn rid count value) = refl
line-comes (short.Add session line txn rid by) = refl
line-comes (short.Insert session capacity line txn rid count value) = refl
line-comes (short.Delete session line txn rid) = refl
line-comes (short.Commit session line txn) = refl

-- a book with one entry more
module _ (noted after : List Noted) (lines : List LineEntry) (whole : List Entry) (e : Entry) (apart : Reply)
    (all : NotesAll noted lines whole) where
  -- which is a help
  module _ (how : Noted) (grown : after ≡ noted ++ how ∷ []) (is : noted_entry how ≡ Some e) where
    pub help-reads : unpacked after lines whole ≡ unpacked noted lines whole ++ e ∷ []
    help-reads = ap (λ (k : List Noted). unpacked k lines whole) grown ∙ read-help noted lines whole how e is all

    pub help-books : apart ≡ e.reply → IsBook after lines whole newest.Apart apart
    help-books same = (
      subst (λ (k : List Noted). NotesAll k lines whole) (sym grown) (notes-help noted lines whole how e is all),
      (e, last-is (unpacked after lines whole) (unpacked noted lines whole) e help-reads, sym same, help-comes how e is),
    )

  -- which is kept in few bytes
  module _ (grown : after ≡ noted ++ Line ∷ []) (more : List LineEntry) (l : LineEntry) (adds : more ≡ lines ++ l ∷ [])
      (is : line_entry l ≡ e) where
    pub short-reads : unpacked after more whole ≡ unpacked noted lines whole ++ e ∷ []
    short-reads = (λ j. unpacked (grown j) (adds j) whole) ∙ read-line noted lines whole l all
        ∙ ap (λ (x : Entry). unpacked noted lines whole ++ x ∷ []) is

    pub short-books : apart ≡ e.reply → IsBook after more whole newest.Apart apart
    short-books same = (
      subst (λ (k : List Noted). NotesAll k more whole) (sym grown)
          (subst (λ (k : List LineEntry). NotesAll (noted ++ Line ∷ []) k whole) (sym adds) (notes-line noted lines whole l all)),
      (
        e,
        last-is (unpacked after more whole) (unpacked noted lines whole) e short-reads,
        sym same,
        ap (λ (x : Entry). wants_page x.reply) (sym is) ∙ line-comes l,
      ),
    )

  -- which stands whole
  module _ (grown : after ≡ noted ++ Whole ∷ []) (new : List Entry) (puts : new ≡ whole ++ e ∷ []) where
    pub whole-reads : unpacked after lines new ≡ unpacked noted lines whole ++ e ∷ []
    whole-reads = (λ j. unpacked (grown j) lines (puts j)) ∙ read-whole noted lines whole e all

    pub whole-books : IsBook after lines new newest.Behind apart
    whole-books = (
      subst (λ (k : List Noted). NotesAll k lines new) (sym grown)
          (subst (NotesAll (noted ++ Whole ∷ []) lines) (sym puts) (notes-whole noted lines whole e all)),
      last-is (unpacked after lines new) (unpacked noted lines whole) e whole-reads ∙ sym (last-is new whole e puts),
    )

-- a reference to the reply of the last entry is there where an entry is, and is to its reply
some-there : (r : Option (Bor Reply)) (x : Reply) → option_copied r ≡ Some x → IsSome r
some-there None x is = absurd (cc)
some-there (Some b) x is = search

module _ (entries : List Entry) (r : Option (Bor Reply)) (is : option_copied r ≡ reply_of_last entries) where
  pub reply-newest : (before : List Entry) (x : Entry) → entries ≡ before ++ x ∷ [] → option_copied r ≡ Some x.reply
  reply-newest before x ends = is ∙ ap (option_map (λ (e : Entry). e.reply)) (last-is entries before x ends)

  pub reply-there : (entries ≡ [] → ⊥) → IsSome r
  reply-there some =
      let last = last-there entries some in
      some-there r last.0.reply (is ∙ ap (option_map (λ (e : Entry). e.reply)) last.1)

-- the last that stands whole, where that is the newest entry
pub behind-newest : (noted : List Noted) (lines : List LineEntry) (whole : List Entry) (at : Newest) (apart : Reply)
    → IsBook noted lines whole at apart → at ≡ newest.Behind → last_of (unpacked noted lines whole) ≡ last_of whole
behind-newest noted lines whole at apart book is =
    subst (λ (a : Newest). IsNewest a (last_of (unpacked noted lines whole)) whole apart) is book.1

pub whole-newest : (entries : List Entry) (r : Option (Bor Entry)) → option_copied r ≡ last_of entries
    → (before : List Entry) (x : Entry) → entries ≡ before ++ x ∷ [] → IfSome r (λ (e : Bor Entry). e.now ≡ x)
whole-newest entries None is before x ends = search
whole-newest entries (Some b) is before x ends = let both = is ∙ last-is entries before x ends in cc

-- the least of three spares falls by at most one
pub spare-less : (a b c d e f n : ℕ) → a ≤ d + 1 → b ≤ e + 1 → c ≤ f + 1 → min a (min b c) ≡ n → n ≤ min d (min e f) + 1
spare-less a b c d e f n one two three is = omega (arith, one, two, three, is)

-- a slice that isn't empty is its first item and the rest
pub parted : {X : Type 0} (xs : List X) (x : X) → 1 ≤ length xs → x ≡ get_or xs 0 x → xs ≡ x ∷ take (length xs - 1) (drop 1 xs)
parted [] x some is = absurd (omega (arith, some))
parted (y ∷ xs) x some is = ap (λ z. z ∷ xs) (sym is) ∙ ap (λ l. x ∷ l) (sym (take_rest (y ∷ xs) 1))

-- the first entry, by how it is noted
pub first-help : (noted rest : List Noted) (lines : List LineEntry) (whole : List Entry) (h : Noted) → noted ≡ h ∷ rest
    → (s p i : ℕ) (d : Deed) (a : Answer) (n : ℕ) → h ≡ Help s p i d a n
    → unpacked noted lines whole ≡ help_entry h ∷ unpacked rest lines whole
first-help noted rest lines whole h is s p i d a n help = ap (λ (l : List Noted). unpacked l lines whole) is
    ∙ subst (λ (x : Noted). unpacked (x ∷ rest) lines whole ≡ help_entry x ∷ unpacked rest lines whole) (sym help) refl

pub first-line : (noted rest : List Noted) (lines behind : List LineEntry) (whole : List Entry) (h : Noted) (l : LineEntry)
    → noted ≡ h ∷ rest → h ≡ Line → lines ≡ l ∷ behind
    → unpacked noted lines whole ≡ line_entry l ∷ unpacked rest behind whole
first-line noted rest lines behind whole h l is line stands =
    ap (λ (k : List Noted). unpacked k lines whole) (is ∙ ap (λ (x : Noted). x ∷ rest) line)
    ∙ ap (λ (k : List LineEntry). unpacked (Line ∷ rest) k whole) stands
