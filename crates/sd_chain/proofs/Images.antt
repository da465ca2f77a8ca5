-- The events, over all images that a crash may leave.
use Rattle.std.proofs.Common.{◌≡◌, ◌≢◌, inl, inr, ⊎_elim, ℕ, ◌<◌, ◌≤◌, Bool, true, false, cond, eqb, List, [], ◌∷◌, ◌++◌, refl, sym, ap, ◌∙◌, subst, arith, eq-eqb, ne_eqb, append-nil, append_assoc, ap₂}
use Rattle.std.specs.Prelude.{filter}
use Rattle.std.proofs.lemmas.Bool.{cases_Bool, cases_eq}
use Rattle.sd_logrec.specs.View.{Rec, Kind}
use Rattle.sd_base.specs.declared.ids.TxnId.{TxnId}
use Rattle.sd_chain.specs.Records.{Val, of_page, at, changes, ends, Each, home, stack, step, stack_from, IsOpen}
use Rattle.sd_logrec.specs.View.Kind.{Update, Clr, Commit, End, Plain}
use Rattle.sd_page.specs.Page.{Page}
use Rattle.sd_chain.specs.Pages.{value, redo, FitsKind}
use Rattle.sd_chain.specs.Storage.{Storage, newest, Sound, Recovered}
use Rattle.sd_chain.specs.Changes.{IsAbovePage, StartMoved, Written}
use Rattle.sd_chain.proofs.Lists.{Each-append, Each-front, Each-back, filter-skip, cond_both}
use Rattle.sd_chain.proofs.Newest
use Rattle.sd_chain.proofs.Newest.{at_is, at_from, of_rid_is, of_rid_from, pages-other}
use mathlib.Core.Path.{fun_ext}
use Rattle.sd_chain.specs.Cuts.{cut, whole, Gained, Pops, IsTopsPage, CanUpdateWhole, CanUndoWhole, PutPage}
use Rattle.sd_chain.specs.Images.{Tails, Keeps, all_kept, kept_at, with_disk, Allowed, IsSafe, Gives, or_written, Grows, log, MayChange, MayUndo, Redone, Commits, Settled, Shortened, MaySeal}
use Rattle.sd_chain.specs.Order.{speaks, of_txn, Tidy, MayFollow, UndoesTop}
use Rattle.sd_chain.proofs.Stacks.{stack_from-append}
use Rattle.sd_chain.proofs.Order.{undoes-top, tidy-push, tidy-other, tidy-later}
use Rattle.sd_chain.proofs.PageWrite
use Rattle.sd_chain.proofs.StartMoved
use Rattle.sd_chain.proofs.Above.{above_page}
use Rattle.sd_chain.proofs.Cuts.{put-written, cut-appended, cut-same, can-update, can-undo, update-each_sound, update-each_recovered, undo-each_sound, undo-each_recovered, seal-each_sound, commit-each_recovered, ended-each_recovered, plain-each_recovered}

abbrev or_read : ℕ → Page → (ℕ → Page) → ℕ → Page
or_read p page disk q = cond (eqb q p) page (disk q)

or_read_here : (p : ℕ) (page : Page) (disk : ℕ → Page) → or_read p page disk p ≡ page
or_read_here p page disk = rw (eq-eqb p p refl) refl

or_read_other : (p : ℕ) (page : Page) (disk : ℕ → Page) (q : ℕ) → q ≢ p → or_read p page disk q ≡ disk q
or_read_other p page disk q ne = rw (ne_eqb q p ne) refl

-- a page is written
module _ (tails : Tails) (may : ℕ → Page → Type 0) (version : Keeps → ℕ → Page) (safe : IsSafe tails may version) (p : ℕ)
    (forced : (j : ℕ) → Each (λ x. of_page p x ≡ false) (tails.tail j)) (read : ℕ → Page) (read_may : Allowed may read) where
  -- the disk with page p as it was read
  before : (ℕ → Page) → ℕ → Page
  before disk = or_read p (read p) disk

  before_may : (disk : ℕ → Page) → Allowed (or_written may p (version all_kept p)) disk → Allowed may (before disk)
  unfolding before
  before_may disk all q = ⊎_elim
      (λ e. subst (λ (k : ℕ). may k (or_read p (read p) disk k)) (sym e)
      (subst (may p) (sym (or_read_here p (read p) disk)) (read_may p)))
      (λ ne. subst (may q) (sym (or_read_other p (read p) disk q ne)) (⊎_elim (λ was. was) (λ w. absurd (ne w.0)) (all q)))
      (cases_eq q p)

  put_from : (disk : ℕ → Page) → Allowed (or_written may p (version all_kept p)) disk → disk p ≡ version all_kept p
      → PutPage p (with_disk tails (before disk)) (with_disk tails disk)
  unfolding before
  put_from disk all is = record {
    forced = forced;
    base = λ j. refl;
    tail = λ j. refl;
    here = is ∙ sym (safe.same (before disk) (before_may disk all) all_kept p);
    others = λ q ne. sym (or_read_other p (read p) disk q ne);
  }

  allowed_still : (disk : ℕ → Page) → Allowed (or_written may p (version all_kept p)) disk → may p (disk p) → Allowed may disk
  allowed_still disk all here q =
      ⊎_elim (λ e. subst (λ (k : ℕ). may k (disk k)) (sym e) here) (λ ne. ⊎_elim (λ was. was) (λ w. absurd (ne w.0)) (all q))
      (cases_eq q p)

  written : (disk : ℕ → Page) → (all : Allowed (or_written may p (version all_kept p)) disk) → disk p ≡ version all_kept p
      → (keeps : Keeps) → Written p (cut keeps (with_disk tails (before disk))) (cut keeps (with_disk tails disk))
  written disk all is keeps = put-written p (with_disk tails (before disk)) (with_disk tails disk) (put_from disk all is) keeps

  -- what holds of each image, and of it after a write, holds of each image after
  by_write : (P : (disk : ℕ → Page) → Keeps → Type 0) → ((disk : ℕ → Page) → Allowed may disk → (keeps : Keeps) → P disk keeps)
      → ((disk : ℕ → Page) → (all : Allowed (or_written may p (version all_kept p)) disk) → disk p ≡ version all_kept p
      → (keeps : Keeps) → P (before disk) keeps → P disk keeps) → (disk : ℕ → Page)
      → Allowed (or_written may p (version all_kept p)) disk → (keeps : Keeps) → P disk keeps
  by_write P was step disk all keeps =
      ⊎_elim (λ old. was disk (allowed_still disk all old) keeps)
      (λ w. step disk all w.1 keeps (was (before disk) (before_may disk all) keeps)) (all p)

  pub write-safe : IsSafe tails (or_written may p (version all_kept p)) version
  write-safe = record {
    eight = safe.eight;
    numbered = safe.numbered;
    order = safe.order;
    pops = safe.pops;
    sound = by_write (λ disk keeps. Sound (cut keeps (with_disk tails disk))) safe.sound
        (λ disk all is keeps s. PageWrite.written-sound p (cut keeps (with_disk tails (before disk)))
        (cut keeps (with_disk tails disk)) (written disk all is keeps) s);
    same = by_write (λ disk keeps. (q : ℕ) → newest (cut keeps (with_disk tails disk)) q ≡ version keeps q) safe.same
        (λ disk all is keeps s q. PageWrite.newest-written p (cut keeps (with_disk tails (before disk)))
        (cut keeps (with_disk tails disk)) (written disk all is keeps) (safe.sound (before disk) (before_may disk all) keeps) q
        ∙ s q);
  }

  pub write-gives : (value : Keeps → ℕ → ℕ → Val) → Gives tails may value
      → Gives tails (or_written may p (version all_kept p)) value
  write-gives value gives =
      by_write (λ disk keeps. (q s : ℕ) → Recovered (cut keeps (with_disk tails disk)) q s (value keeps q s)) gives
      (λ disk all is keeps r q s. PageWrite.written-recovered p (cut keeps (with_disk tails (before disk)))
      (cut keeps (with_disk tails disk)) (written disk all is keeps) (safe.sound (before disk) (before_may disk all) keeps) q s
      (value keeps q s) (r q s))

Pops-append : (t : TxnId) (stk xs ys : List Rec) → Pops t stk xs → Pops t (stack_from t stk xs) ys → Pops t stk (xs ++ ys)
Pops-append t stk [] ys a b = b
Pops-append t stk (x ∷ xs) ys a b = (a.0, Pops-append t (step t stk x) xs ys a.1 b)

-- a record is appended
gained : (i : ℕ) (y : Rec) (old new : Tails) → Grows i y old new → (disk : ℕ → Page)
    → Gained i y (with_disk old disk) (with_disk new disk)
gained i y old new g disk = record { inside = g.inside; here = g.here; others = g.others; base = g.base; disk = λ p. refl }

ends_speaks : (k : Kind) → ends k ≡ true → speaks k ≡ true
ends_speaks Update e = absurd (cc)
ends_speaks Clr e = absurd (cc)
ends_speaks Commit e = refl
ends_speaks End e = refl
ends_speaks Plain e = absurd (cc)

module _ (i : ℕ) (y : Rec) (old new : Tails) (g : Grows i y old new) (own : speaks y.kind ≡ true → home y.txn ≡ i)
    (may : ℕ → Page → Type 0) (version version' : Keeps → ℕ → Page) (safe : IsSafe old may version) where
  -- the versions after it, where the record may be appended to each image with the tail
  same_new : changes y.kind ≡ true → Redone i y version version' → (disk : ℕ → Page) → Allowed may disk
      → ((keeps : Keeps) → keeps i ≡ true → IsAbovePage (cut keeps (with_disk old disk)) y) → (keeps : Keeps) (p : ℕ)
      → newest (cut keeps (with_disk new disk)) p ≡ version' keeps p
  same_new it redone disk all above keeps p =
      let before = cut keeps (with_disk old disk) in
      let after = cut keeps (with_disk new disk) in
      ⊎_elim
      (λ kept.
      let app = cut-appended i y (with_disk old disk) (with_disk new disk) (gained i y old new g disk) keeps kept in
      ⊎_elim
      (λ e. ap (newest after) e
      ∙ Newest.newest-push i y before after app it (above keeps kept) ((safe.sound disk all keeps).pages y.page)
      ∙ ap (λ (q : Page). redo q y) (safe.same disk all keeps y.page) ∙ sym (redone.here keeps kept)
      ∙ ap (version' keeps) (sym e))
      (λ ne. Newest.newest-other i y before after app p ne ∙ safe.same disk all keeps p ∙ sym (redone.others keeps p ne))
      (cases_eq p y.page))
      (λ dropped. ap (λ (img : Storage). newest img p)
      (cut-same i y (with_disk old disk) (with_disk new disk) (gained i y old new g disk) keeps dropped)
      ∙ safe.same disk all keeps p ∙ sym (redone.without keeps p dropped))
      (cases_Bool (keeps i))

  -- the logs after it
  log_here : log new i ≡ log old i ++ y ∷ []
  log_here = ap₂ (λ (a b : List Rec). a ++ b) (g.base i) g.here ∙ sym (append_assoc (old.base i) (old.tail i) (y ∷ []))

  log_other : (j : ℕ) → j ≢ i → log new j ≡ log old j
  log_other j ne = ap₂ (λ (a b : List Rec). a ++ b) (g.base j) (g.others j ne)

  eight_new : (j : ℕ) → 9 ≤ j → log new j ≡ []
  eight_new j le = log_other j (λ e. let l = g.inside in absurd (omega arith)) ∙ safe.eight j le

  numbered_new : 0 < y.lsn → (j : ℕ) → Each (λ x. 0 < x.lsn) (log new j)
  numbered_new pos j = ⊎_elim
      (λ e. subst (λ (k : ℕ). Each (λ x. 0 < x.lsn) (log new k)) (sym e)
      (subst (Each (λ x. 0 < x.lsn)) (sym log_here)
      (Each-append (λ x. 0 < x.lsn) (log old i) (y ∷ []) (safe.numbered i) (pos, tt))))
      (λ ne. subst (Each (λ x. 0 < x.lsn)) (sym (log_other j ne)) (safe.numbered j))
      (cases_eq j i)

  -- a log as this image keeps it
  order_here : 0 < y.lsn → (speaks y.kind ≡ true → MayFollow (log old (home y.txn)) y) → (t : TxnId)
      → Tidy t (log old i ++ y ∷ [])
  order_here pos follows t = ⊎_elim
      (λ it. tidy-push (log old i) y (safe.numbered i) (safe.order all_kept i)
      (subst (λ (j : ℕ). MayFollow (log old j) y) (own it) (follows it)) t)
      (λ silent. tidy-other t (log old i) y (let e : speaks y.kind ≡ false = silent in rw e refl) (safe.numbered i)
      (safe.order all_kept i t))
      (cases_Bool (speaks y.kind))

  order_new : 0 < y.lsn → (speaks y.kind ≡ true → MayFollow (log old (home y.txn)) y) → (keeps : Keeps) (j : ℕ) (t : TxnId)
      → Tidy t (new.base j ++ cond (keeps j) (new.tail j) [])
  order_new pos follows keeps j t = ⊎_elim
      (λ e. subst (λ (k : ℕ). Tidy t (new.base k ++ cond (keeps k) (new.tail k) [])) (sym e) (⊎_elim
      (λ kept. subst (Tidy t) (sym (ap (λ (b : Bool). new.base i ++ cond b (new.tail i) []) kept ∙ log_here))
      (order_here pos follows t))
      (λ dropped. subst (Tidy t)
      (ap (λ (l : List Rec). l ++ cond (keeps i) (old.tail i) []) (sym (g.base i))
      ∙ ap (λ (b : Bool). new.base i ++ cond b (old.tail i) []) dropped
      ∙ ap (λ (b : Bool). new.base i ++ cond b (new.tail i) []) (sym dropped)) (safe.order keeps i t))
      (cases_Bool (keeps i))))
      (λ ne. subst (Tidy t) (sym (ap₂ (λ (a b : List Rec). a ++ cond (keeps j) b []) (g.base j) (g.others j ne)))
      (safe.order keeps j t))
      (cases_eq j i)

  pops_new : (y.kind ≡ Clr → IsTopsPage y (stack y.txn (log old (home y.txn)))) → (t : TxnId)
      → Pops t (stack t (new.base (home t))) (new.tail (home t))
  pops_new tops t = subst (λ (l : List Rec). Pops t (stack t l) (new.tail (home t))) (sym (g.base (home t))) (⊎_elim
      (λ e. subst (Pops t (stack t (old.base (home t))))
      (sym (ap new.tail e ∙ g.here ∙ ap (λ (k : ℕ). old.tail k ++ y ∷ []) (sym e)))
      (Pops-append t (stack t (old.base (home t))) (old.tail (home t)) (y ∷ []) (safe.pops t)
      ((λ it clr. top_page it clr), tt)))
      (λ ne. subst (Pops t (stack t (old.base (home t)))) (sym (g.others (home t) ne)) (safe.pops t))
      (cases_eq (home t) i))
    where
      top_page : y.txn ≡ t → y.kind ≡ Clr → IsTopsPage y (stack_from t (stack t (old.base (home t))) (old.tail (home t)))
      top_page it clr = subst (IsTopsPage y) (stack_from-append t [] (old.base (home t)) (old.tail (home t)))
          (subst (λ (u : TxnId). IsTopsPage y (stack u (log old (home u)))) it (tops clr))

  module _ (can : MayChange i old (version all_kept) y) (redone : Redone i y version version') where
    can_whole : (disk : ℕ → Page) → Allowed may disk → CanUpdateWhole i (with_disk old disk) y
    can_whole disk all =
        let same = safe.same disk all all_kept y.page in
        record {
          kind = can.kind;
          runs = can.follows.alive;
          above = above_page (whole (with_disk old disk)) (safe.sound disk all all_kept) safe.eight y
              (subst (λ (q : Page). q.lsn < y.lsn) (sym same) can.rises);
          fits = subst (λ (q : Page). FitsKind Update y q.slots) (sym same) can.fits;
          lone = can.lone;
          pops = safe.pops;
          free = can.free;
        }

    pub change-safe : IsSafe new may version'
    change-safe = record {
      eight = eight_new;
      numbered = numbered_new (omega (arith, can.rises));
      order = order_new (omega (arith, can.rises)) (λ speaks_it. can.follows);
      pops = pops_new (λ clr. absurd (let k = can.kind in cc));
      sound = λ disk all keeps. update-each_sound i y (with_disk old disk) (with_disk new disk) (gained i y old new g disk)
          (own (ap speaks can.kind)) (can_whole disk all) (safe.sound disk all) keeps;
      same = λ disk all. same_new (ap changes can.kind) redone disk all
          (λ keeps kept. (can-update keeps i (with_disk old disk) y kept (own (ap speaks can.kind)) (can_whole disk all)).above);
    }

    pub change-gives : (value : Keeps → ℕ → ℕ → Val) → Gives old may value → Gives new may value
    change-gives value gives disk all keeps p s =
        update-each_recovered i y (with_disk old disk) (with_disk new disk) (gained i y old new g disk) (own (ap speaks can.kind))
        (can_whole disk all) (safe.sound disk all) keeps p s (value keeps p s) (gives disk all keeps p s)

  module _ (top : Rec) (below : List Rec) (can : MayUndo i old (version all_kept) y top below)
      (redone : Redone i y version version') where
    undoes : UndoesTop y (top ∷ below)
    undoes = undoes-top (log old (home y.txn)) y top below can.kind can.follows can.stack

    can_undo_whole : (disk : ℕ → Page) → Allowed may disk → CanUndoWhole i (with_disk old disk) y top below
    can_undo_whole disk all =
        let same = safe.same disk all all_kept y.page in
        record {
          can = record {
            kind = can.kind;
            runs = can.follows.alive;
            above = above_page (whole (with_disk old disk)) (safe.sound disk all all_kept) safe.eight y
                (subst (λ (q : Page). q.lsn < y.lsn) (sym same) can.rises);
            stack = can.stack;
            page = undoes.0;
            slot = undoes.1;
            value = undoes.2;
          };
          lone = can.lone;
        }

    pub undo-safe : IsSafe new may version'
    undo-safe = record {
      eight = eight_new;
      numbered = numbered_new (omega (arith, can.rises));
      order = order_new (omega (arith, can.rises)) (λ speaks_it. can.follows);
      pops = pops_new (λ clr. subst (IsTopsPage y) (sym can.stack) undoes.0);
      sound = λ disk all keeps. undo-each_sound i y top below (with_disk old disk) (with_disk new disk)
          (gained i y old new g disk) (own (ap speaks can.kind)) (can_undo_whole disk all) (safe.sound disk all) keeps;
      same = λ disk all. same_new (ap changes can.kind) redone disk all
          (λ keeps kept. (can-undo keeps i (with_disk old disk) y top below kept (own (ap speaks can.kind))
          (can_undo_whole disk all)).above);
    }

    pub undo-gives : (value : Keeps → ℕ → ℕ → Val) → Gives old may value → Gives new may value
    undo-gives value gives disk all keeps p s =
        undo-each_recovered i y top below (with_disk old disk) (with_disk new disk) (gained i y old new g disk)
        (own (ap speaks can.kind)) (can_undo_whole disk all) (safe.sound disk all) keeps p s (value keeps p s)
        (gives disk all keeps p s)

  pub seal-safe : MaySeal old y → IsSafe new may version
  seal-safe can = let no_page = can.no_page in record {
    eight = eight_new;
    numbered = numbered_new can.numbered;
    order = order_new can.numbered can.follows;
    pops = pops_new (λ clr. absurd (let k = sym (ap changes clr) ∙ no_page in cc));
    sound = λ disk all keeps. seal-each_sound i y (with_disk old disk) (with_disk new disk) (gained i y old new g disk) no_page
        (safe.sound disk all) keeps;
    same = λ disk all keeps p. ⊎_elim
        (λ kept. Newest.newest-none i y (cut keeps (with_disk old disk)) (cut keeps (with_disk new disk))
        (cut-appended i y (with_disk old disk) (with_disk new disk) (gained i y old new g disk) keeps kept) no_page p
        ∙ safe.same disk all keeps p)
        (λ dropped. ap (λ (img : Storage). newest img p)
        (cut-same i y (with_disk old disk) (with_disk new disk) (gained i y old new g disk) keeps dropped)
        ∙ safe.same disk all keeps p)
        (cases_Bool (keeps i));
  }

  -- a record that ends no transaction
  pub plain-gives : changes y.kind ≡ false → ends y.kind ≡ false → (value : Keeps → ℕ → ℕ → Val) → Gives old may value
      → Gives new may value
  plain-gives no_page no_end value gives disk all keeps p s =
      plain-each_recovered i y (with_disk old disk) (with_disk new disk) (gained i y old new g disk) no_page no_end keeps p s
      (value keeps p s) (gives disk all keeps p s)

  -- an End of a transaction with nothing open
  pub end-gives : changes y.kind ≡ false → ends y.kind ≡ true → stack y.txn (log old (home y.txn)) ≡ []
      → (value : Keeps → ℕ → ℕ → Val) → Gives old may value → Gives new may value
  end-gives no_page it_ends none value gives disk all keeps p s =
      ended-each_recovered i y (with_disk old disk) (with_disk new disk) (gained i y old new g disk)
      (own (ends_speaks y.kind it_ends)) no_page it_ends keeps p s (value keeps p s) (ap (filter (at p s)) none)
      (gives disk all keeps p s)

  -- a Commit
  pub commit-gives : changes y.kind ≡ false → ends y.kind ≡ true → IsOpen y.txn (log old (home y.txn))
      → (value value' : Keeps → ℕ → ℕ → Val) → Commits i y old value value' → Gives old may value → Gives new may value'
  commit-gives no_page it_ends runs value value' commits gives disk all keeps p s =
      ⊎_elim
      (λ kept. by_list kept (filter (at p s) (stack y.txn (log old (home y.txn)))) refl)
      (λ dropped. subst (λ (v : Val). Recovered (cut keeps (with_disk new disk)) p s v) (sym (commits.without keeps dropped p s))
      (subst (λ (img : Storage). Recovered img p s (value keeps p s))
      (sym (cut-same i y (with_disk old disk) (with_disk new disk) (gained i y old new g disk) keeps dropped))
      (gives disk all keeps p s)))
      (cases_Bool (keeps i))
    where
      by_list : keeps i ≡ true → (l : List Rec) → filter (at p s) (stack y.txn (log old (home y.txn))) ≡ l
          → Recovered (cut keeps (with_disk new disk)) p s (value' keeps p s)
      by_list kept [] is = subst (λ (v : Val). Recovered (cut keeps (with_disk new disk)) p s v)
          (sym (commits.unchanged keeps p s is))
          (ended-each_recovered i y (with_disk old disk) (with_disk new disk) (gained i y old new g disk)
          (own (ends_speaks y.kind it_ends)) no_page it_ends keeps p s (value keeps p s) is (gives disk all keeps p s))
      by_list kept (top ∷ below) is =
          subst (λ (v : Val). Recovered (cut keeps (with_disk new disk)) p s v)
          (sym (commits.changed keeps kept p s top below is))
          (commit-each_recovered i y (with_disk old disk) (with_disk new disk) (gained i y old new g disk)
          (own (ends_speaks y.kind it_ends)) no_page it_ends runs (safe.sound disk all) keeps kept p s top below is)

-- a tail is forced, or dropped: each image is one from before
cut-settled : (i : ℕ) (kept : Bool) (old new : Tails) → Settled i kept old new → (disk : ℕ → Page) (keeps : Keeps)
    → cut keeps (with_disk new disk) ≡ cut (kept_at i kept keeps) (with_disk old disk)
cut-settled i kept old new s disk keeps = ap (λ (l : ℕ → List Rec). record_of l) (fun_ext each)
  where
    record_of : (ℕ → List Rec) → Storage
    record_of l = record { logs = l; disk = disk }

    no_tail : (b : Bool) → cond {A = List Rec} b [] [] ≡ []
    no_tail true = refl
    no_tail false = refl

    each : (j : ℕ) → new.base j ++ cond (keeps j) (new.tail j) [] ≡ old.base j
        ++ cond (cond (eqb j i) kept (keeps j)) (old.tail j) []
    each j = ⊎_elim
        (λ e. ap₂ (λ (a b : List Rec). a ++ cond (keeps j) b []) (ap new.base e ∙ s.base) (ap new.tail e ∙ s.tail)
        ∙ ap (λ (l : List Rec). (old.base i ++ cond kept (old.tail i) []) ++ l) (no_tail (keeps j))
        ∙ append-nil (old.base i ++ cond kept (old.tail i) [])
        ∙ ap (λ (k : ℕ). old.base k ++ cond kept (old.tail k) []) (sym e)
        ∙ ap (λ (b : Bool). old.base j ++ cond (cond b kept (keeps j)) (old.tail j) []) (sym (eq-eqb j i e)))
        (λ ne. ap₂ (λ (a b : List Rec). a ++ cond (keeps j) b []) (s.other_bases j ne) (s.other_tails j ne)
        ∙ ap (λ (b : Bool). old.base j ++ cond (cond b kept (keeps j)) (old.tail j) []) (sym (ne_eqb j i ne)))
        (cases_eq j i)

module _ (i : ℕ) (kept : Bool) (old new : Tails) (s : Settled i kept old new) (may : ℕ → Page → Type 0) where
  numbered_settled : (version : Keeps → ℕ → Page) → IsSafe old may version → (j : ℕ) → Each (λ x. 0 < x.lsn) (log new j)
  numbered_settled version safe j = ⊎_elim
      (λ e. subst (λ (k : ℕ). Each (λ x. 0 < x.lsn) (log new k)) (sym e)
      (subst (Each (λ x. 0 < x.lsn))
      (sym (ap₂ (λ (a b : List Rec). a ++ b) s.base s.tail ∙ append-nil (old.base i ++ cond kept (old.tail i) []))) (
      Each-append (λ x. 0 < x.lsn) (old.base i) (cond kept (old.tail i) [])
      (Each-front (λ x. 0 < x.lsn) (old.base i) (old.tail i) (safe.numbered i))
      (cond_both (Each (λ x. 0 < x.lsn)) kept (old.tail i) []
      (λ b. Each-back (λ x. 0 < x.lsn) (old.base i) (old.tail i) (safe.numbered i)) (λ b. tt)))))
      (λ ne. subst (Each (λ x. 0 < x.lsn)) (sym (ap₂ (λ (a b : List Rec). a ++ b) (s.other_bases j ne) (s.other_tails j ne)))
      (safe.numbered j))
      (cases_eq j i)

  pub settled-safe : (version : Keeps → ℕ → Page) → IsSafe old may version
      → IsSafe new may (λ keeps. version (kept_at i kept keeps))
  settled-safe version safe = record {
    eight = λ j le. let ne : j ≢ i = λ e. let l = s.inside in absurd (omega arith) in
        ap₂ (λ (a b : List Rec). a ++ b) (s.other_bases j ne) (s.other_tails j ne) ∙ safe.eight j le;
    numbered = numbered_settled version safe;
    order = λ keeps j t. subst (Tidy t)
        (sym (ap (λ (img : Storage). img.logs j)
        (cut-settled i kept old new s (λ p. record { lsn = 0; number = p; slots = [] }) keeps)))
        (safe.order (kept_at i kept keeps) j t);
    pops = λ t. ⊎_elim
        (λ e. subst (Pops t (stack t (new.base (home t)))) (sym (ap new.tail e ∙ s.tail)) tt)
        (λ ne. subst (λ (l : List Rec). Pops t (stack t l) (new.tail (home t))) (sym (s.other_bases (home t) ne))
        (subst (Pops t (stack t (old.base (home t)))) (sym (s.other_tails (home t) ne)) (safe.pops t)))
        (cases_eq (home t) i);
    sound = λ disk all keeps. subst Sound (sym (cut-settled i kept old new s disk keeps))
        (safe.sound disk all (kept_at i kept keeps));
    same = λ disk all keeps p. ap (λ (img : Storage). newest img p) (cut-settled i kept old new s disk keeps)
        ∙ safe.same disk all (kept_at i kept keeps) p;
  }

  pub settled-gives : (value : Keeps → ℕ → ℕ → Val) → Gives old may value → Gives new may (λ keeps. value (kept_at i kept keeps))
  settled-gives value gives disk all keeps p q =
      subst (λ (img : Storage). Recovered img p q (value (kept_at i kept keeps) p q))
      (sym (cut-settled i kept old new s disk keeps)) (gives disk all (kept_at i kept keeps) p q)

-- a log is read from a later place
module _ (i : ℕ) (gone : List Rec) (old new : Tails) (may : ℕ → Page → Type 0) (s : Shortened i gone old new may) where
  no_tail_new : (b : Bool) → cond b (new.tail i) [] ≡ []
  no_tail_new true = s.tails i ∙ s.no_tail
  no_tail_new false = refl

  no_tail_old : (b : Bool) → cond b (old.tail i) [] ≡ []
  no_tail_old true = s.no_tail
  no_tail_old false = refl

  old_log : (keeps : Keeps) → old.base i ++ cond (keeps i) (old.tail i) [] ≡ old.base i
  old_log keeps = ap (λ (l : List Rec). old.base i ++ l) (no_tail_old (keeps i)) ∙ append-nil (old.base i)

  new_log : (keeps : Keeps) → new.base i ++ cond (keeps i) (new.tail i) [] ≡ new.base i
  new_log keeps = ap (λ (l : List Rec). new.base i ++ l) (no_tail_new (keeps i)) ∙ append-nil (new.base i)

  moved_image : (disk : ℕ → Page) → Allowed may disk → (keeps : Keeps)
      → StartMoved i gone (cut keeps (with_disk old disk)) (cut keeps (with_disk new disk))
  moved_image disk all keeps = record {
    here = old_log keeps ∙ s.here ∙ ap (λ (l : List Rec). gone ++ l) (sym (new_log keeps));
    others = λ j ne. ap₂ (λ (a b : List Rec). a ++ cond (keeps j) b []) (s.others j ne) (s.tails j);
    disk = λ p. refl;
    on_disk = s.on_disk disk all;
    closed = λ t e. ⊎_elim
        (λ none. inl none)
        (λ c. inr (⊎_elim
        (λ shut. inl (λ o. shut
        (subst (IsOpen t) (new_log keeps) (subst (λ (k : ℕ). IsOpen t (new.base k ++ cond (keeps k) (new.tail k) [])) e o))))
        (λ lost. inr (
          (λ o. lost.0
              (subst (IsOpen t) (old_log keeps) (subst (λ (k : ℕ). IsOpen t (old.base k ++ cond (keeps k) (old.tail k) [])) e o))),
          subst (Each (λ x. of_txn t x ≡ false)) (sym (new_log keeps)) lost.1,
        ))
        c))
        (s.closed t);
  }

  log_other_short : (j : ℕ) → j ≢ i → log new j ≡ log old j
  log_other_short j ne = ap₂ (λ (a b : List Rec). a ++ b) (s.others j ne) (s.tails j)

  was_numbered : (version : Keeps → ℕ → Page) → IsSafe old may version → Each (λ x. 0 < x.lsn) (gone ++ new.base i)
  was_numbered version safe = subst (Each (λ x. 0 < x.lsn)) (old_log all_kept ∙ s.here) (safe.numbered i)

  gone_numbered : (version : Keeps → ℕ → Page) → IsSafe old may version → Each (λ x. 0 < x.lsn) gone
  gone_numbered version safe = Each-front (λ x. 0 < x.lsn) gone (new.base i) (was_numbered version safe)

  left_numbered : (version : Keeps → ℕ → Page) → IsSafe old may version → Each (λ x. 0 < x.lsn) (new.base i)
  left_numbered version safe = Each-back (λ x. 0 < x.lsn) gone (new.base i) (was_numbered version safe)

  pub shortened-safe : (version : Keeps → ℕ → Page) → IsSafe old may version → IsSafe new may version
  shortened-safe version safe = record {
    eight = λ j le. log_other_short j (λ e. let l = s.inside in absurd (omega arith)) ∙ safe.eight j le;
    numbered = λ j. ⊎_elim
        (λ e. subst (λ (k : ℕ). Each (λ x. 0 < x.lsn) (log new k)) (sym e)
        (subst (Each (λ x. 0 < x.lsn)) (sym (new_log all_kept)) (left_numbered version safe)))
        (λ ne. subst (Each (λ x. 0 < x.lsn)) (sym (log_other_short j ne)) (safe.numbered j))
        (cases_eq j i);
    order = λ keeps j t. ⊎_elim
        (λ e. subst (λ (k : ℕ). Tidy t (new.base k ++ cond (keeps k) (new.tail k) [])) (sym e)
        (subst (Tidy t) (sym (new_log keeps))
        (tidy-later t gone (new.base i) (gone_numbered version safe)
        (subst (Tidy t) (old_log keeps ∙ s.here) (safe.order keeps i t))
        (⊎_elim (λ none. inl none) (λ c. inr (⊎_elim (λ shut. inl shut) (λ lost. inr lost.1) c)) (s.closed t)))))
        (λ ne. subst (Tidy t) (sym (ap₂ (λ (a b : List Rec). a ++ cond (keeps j) b []) (s.others j ne) (s.tails j)))
        (safe.order keeps j t))
        (cases_eq j i);
    pops = λ t. ⊎_elim
        (λ e. subst (Pops t (stack t (new.base (home t)))) (sym (ap new.tail e ∙ s.tails i ∙ s.no_tail)) tt)
        (λ ne. subst (λ (l : List Rec). Pops t (stack t l) (new.tail (home t))) (sym (s.others (home t) ne))
        (subst (Pops t (stack t (old.base (home t)))) (sym (s.tails (home t))) (safe.pops t)))
        (cases_eq (home t) i);
    sound = λ disk all keeps. StartMoved.moved-sound i gone (cut keeps (with_disk old disk)) (cut keeps (with_disk new disk))
        (moved_image disk all keeps) (safe.sound disk all keeps);
    same = λ disk all keeps p. StartMoved.newest-moved i gone (cut keeps (with_disk old disk)) (cut keeps (with_disk new disk))
        (moved_image disk all keeps) p ∙ safe.same disk all keeps p;
  }

  pub shortened-gives : (value : Keeps → ℕ → ℕ → Val) → Gives old may value → Gives new may value
  shortened-gives value gives disk all keeps p q =
      StartMoved.moved-recovered i gone (cut keeps (with_disk old disk)) (cut keeps (with_disk new disk))
      (moved_image disk all keeps) p q (value keeps p q) (gives disk all keeps p q)

-- Locks give `free`: where each transaction that forced records don't close holds what it has open, and no two hold one record.
module _ (Holds : TxnId → ℕ → ℕ → Type 0) (one_holder : (t u : TxnId) (p s : ℕ) → Holds t p s → Holds u p s → t ≡ u) where
  none_held : (t : TxnId) (p s : ℕ) → (Holds t p s → ⊥) → (xs : List Rec) → Each (λ x. Holds t x.page x.slot) xs
      → filter (at p s) xs ≡ []
  none_held t p s no_hold [] a = refl
  none_held t p s no_hold (x ∷ xs) a = filter-skip (at p s) x xs (off a.0) ∙ none_held t p s no_hold xs a.1
    where
      off : Holds t x.page x.slot → at p s x ≡ false
      off h = ⊎_elim
          (λ is. let e = at_is p s x is in
          absurd (no_hold (subst (λ (k : ℕ). Holds t p k) e.1 (subst (λ (k : ℕ). Holds t k x.slot) e.0 h))))
          (λ is. is)
          (cases_Bool (at p s x))

  pub none_open : (tails : Tails) (t : TxnId) (p s : ℕ) → Holds t p s → (u : TxnId) → u ≢ t
      → Each (λ x. Holds u x.page x.slot) (stack u (log tails (home u))) → filter (at p s) (stack u (log tails (home u))) ≡ []
  none_open tails t p s held u ne each = none_held u p s (λ h. ne (one_holder u t p s h held)) (stack u (log tails (home u))) each

-- An opened image has no tails, and leaves itself alone.
module _ (img : Storage) (sound : Sound img) (eight : (j : ℕ) → 9 ≤ j → img.logs j ≡ [])
    (numbered : (j : ℕ) → Each (λ x. 0 < x.lsn) (img.logs j)) (order : (j : ℕ) (t : TxnId) → Tidy t (img.logs j)) where
  abbrev pub opened : Tails
  opened = record { base = img.logs; tail = λ j. [] }

  log_opened : (b : Bool) (j : ℕ) → img.logs j ++ cond {A = List Rec} b [] [] ≡ img.logs j
  log_opened true j = append-nil (img.logs j)
  log_opened false j = append-nil (img.logs j)

  cut_opened : (disk : ℕ → Page) → Allowed (λ p x. x ≡ img.disk p) disk → (keeps : Keeps)
      → cut keeps (with_disk opened disk) ≡ img
  cut_opened disk all keeps =
      ap₂ (λ (l : ℕ → List Rec) (d : ℕ → Page). record_of l d) (fun_ext (λ j. log_opened (keeps j) j)) (fun_ext all)
    where
      record_of : (ℕ → List Rec) → (ℕ → Page) → Storage
      record_of l d = record { logs = l; disk = d }

  pub opening-safe : IsSafe opened (λ p x. x ≡ img.disk p) (λ keeps p. newest img p)
  opening-safe = record {
    eight = λ j le. append-nil (img.logs j) ∙ eight j le;
    numbered = λ j. subst (Each (λ x. 0 < x.lsn)) (sym (append-nil (img.logs j))) (numbered j);
    order = λ keeps j t. subst (Tidy t) (sym (log_opened (keeps j) j)) (order j t);
    pops = λ t. tt;
    sound = λ disk all keeps. subst Sound (sym (cut_opened disk all keeps)) sound;
    same = λ disk all keeps p. ap (λ (i : Storage). newest i p) (cut_opened disk all keeps);
  }

  pub opening-gives : (value : ℕ → ℕ → Val) → ((p s : ℕ) → Recovered img p s (value p s))
      → Gives opened (λ p x. x ≡ img.disk p) (λ keeps. value)
  opening-gives value gives disk all keeps p s =
      subst (λ (i : Storage). Recovered i p s (value p s)) (sym (cut_opened disk all keeps)) (gives p s)
