-- A record comes to a log. It serves the laws on changes.
use Rattle.std.proofs.Common.{◌≡◌, ◌≢◌, ◌⊎◌, inl, inr, ⊎_elim, ℕ, ◌<◌, ◌≤◌, Bool, true, false, cond, eqb, ◌&&◌, List, [], ◌∷◌, ◌++◌, Option, None, Some, refl, sym, ap, ap₂, ◌∙◌, subst, arith, eq-eqb, eqb-true, append_assoc}
use Rattle.std.specs.Prelude.{is_some, unwrap_or}
use Rattle.std.proofs.lemmas.Bool.{cases_Bool, cases_eq}
use Rattle.std.proofs.lemmas.Option.{cond_some}
use Rattle.sd_logrec.specs.View.{Rec}
use Rattle.sd_logrec.specs.View.Kind.{Update}
use Rattle.sd_page.specs.Page.{Page}
use Rattle.sd_chain.specs.Records.{Each, changes, of_page}
use Rattle.sd_chain.specs.Pages.{FitsKind, redo}
use Rattle.sd_chain.specs.Images.{Allowed, Grows, IsSafe, Tails, all_kept, log}
use Rattle.sd_chain.specs.Laws.{May}
use Rattle.sd_chain.proofs.Lists.{Each-append, Each-weaker}
use Rattle.sd_chain.proofs.Newest.{and_true}
use Rattle.sd_pagelock.specs.Directory.{kept_rec}
use Rattle.sd_pagelock.specs.Places.{PageEntry, changed, holds, owns, passes, uses}
use Rattle.sd_pagelock.specs.Rows.{dirtied}
use Rattle.sd_pagelock.proofs.Drops.{owner-holds, owner-passes, owner-uses}
use Rattle.sd_pagelock.proofs.Members.{not_both}
use Rattle.sd_pagelock.proofs.Uses
use Rattle.sd_chain.specs.World.{Base, Dir, Stays, newest_version}
use Rattle.sd_chain.specs.Coherent.{Coherent, NoneBefore, Quiet, Sits}
use Rattle.sd_chain.specs.AppendedRecords.{Changes, ChangeKeeps, ChangeMayCome, OthersHaveNone, RestKeeps, SealKeeps, UndoMayCome}
use Rattle.sd_chain.proofs.Cases.{at_page, by_seat, copy_same, due_seat, lost_seat, none_some, one_copy, own_seat, seated, the_same}
use Rattle.sd_chain.proofs.Versions

-- ---- what may come

-- no other log's tail has a record of a page that a may change
pub lone : (may : May) → OthersHaveNone may
lone may a i p b d c held acts j ne = ⊎_elim (λ q. q)
    (by_seat b (d.entry p) j (Quiet p (b.tails.tail j))
    (λ settled is. let same = a_is j is in
    ⊎_elim (λ o. absurd (ne (sym same ∙ o.0)))
    (λ f. subst (Quiet p) (sym (ap b.tails.tail (sym same) ∙ f.1 (λ e. ne (sym same ∙ e)))) tt) acts)
    (λ loose lost. absurd (Uses.held-found a (d.entry p) holder lost))
    (λ z due is. ⊎_elim (λ own. none_some own.2 due)
    (λ f. absurd (ne (ap (λ (x : ℕ × ℕ). x.1) (the_same due f.0)))) acts))
    (c.unforced j p)
  where
    holder : holds (d.entry p) a ≡ true
    holder = owner-holds a a (d.entry p) held ∙ eq-eqb a a refl

    a_is : (j : ℕ) → d.entry p ≡ PageEntry.Excl j true → a ≡ j
    a_is j is = sym (eqb-true j a (sym (ap (λ (l : PageEntry). owns l a) is) ∙ held))

-- the page in memory is the newest version
pub held-now : {may : May} (a p : ℕ) (image : Page) (b : Base may) (d : Dir) → Coherent b d → d.pool a p ≡ Some image → image ≡ newest_version b p
held-now a p image b d c copy = sym (cond_some (holds (d.entry p) a) (newest_version b p) image (sym (c.copies a p) ∙ copy)).1

pub change-may_come : (may : May) → ChangeMayCome may
change-may_come may a i image y b d c held acts copy kind follows rises fits free =
    let is = held-now a y.page image b d c copy in
    record {
      kind = kind;
      follows = follows;
      rises = subst (λ (x : Page). x.lsn < y.lsn) is rises;
      fits = subst (λ (x : Page). FitsKind Update y x.slots) is fits;
      lone = lone may a i y.page b d c held acts;
      free = free;
    }

pub undo-may_come : (may : May) → UndoMayCome may
undo-may_come may a i image y top below b d c held acts copy rises u = record {
  kind = u.kind;
  follows = u.follows;
  rises = subst (λ (x : Page). x.lsn < y.lsn) (held-now a y.page image b d c copy) rises;
  lone = lone may a i y.page b d c held acts;
  stack = u.stack;
}

-- ---- one more record of log i

module _ (i : ℕ) (y : Rec) (old new : Tails) (g : Grows i y old new) where
  pub log_here : log new i ≡ log old i ++ y ∷ []
  log_here = ap₂ (λ (x z : List Rec). x ++ z) (g.base i) g.here ∙ sym (append_assoc (old.base i) (old.tail i) (y ∷ []))

  -- what holds of each record of a log, and of y, holds of each record of it after
  pub each_log : (P : Rec → Type 0) → P y → (j : ℕ) → Each P (log old j) → Each P (log new j)
  each_log P py j h = ⊎_elim
      (λ e. subst (λ (k : ℕ). Each P (log new k)) (sym e) (subst (Each P) (sym log_here)
      (Each-append P (log old i) (y ∷ []) (subst (λ (k : ℕ). Each P (log old k)) e h) (py, tt))))
      (λ ne. subst (Each P) (sym (ap₂ (λ (x z : List Rec). x ++ z) (g.base j) (g.others j ne))) h)
      (cases_eq j i)

  -- a tail without a record of the page stays so, where y isn't of it
  pub quiet_still : (p : ℕ) → of_page p y ≡ false → (j : ℕ) → Quiet p (old.tail j) → Quiet p (new.tail j)
  quiet_still p off j q = ⊎_elim
      (λ e. subst (λ (k : ℕ). Quiet p (new.tail k)) (sym e) (subst (Quiet p) (sym g.here)
      (Each-append (λ x. of_page p x ≡ false) (old.tail i) (y ∷ []) (subst (λ (k : ℕ). Quiet p (old.tail k)) e q) (off, tt))))
      (λ ne. subst (Quiet p) (sym (g.others j ne)) q)
      (cases_eq j i)

-- there is still no log 0
grown_eight : (i : ℕ) (y : Rec) (old new : Tails) → Grows i y old new → 1 ≤ i → (old.base 0 ≡ []) × (old.tail 0 ≡ [])
    → (new.base 0 ≡ []) × (new.tail 0 ≡ [])
grown_eight i y old new g low none = (g.base 0 ∙ none.0, g.others 0 (λ e. omega (arith, low, e)) ∙ none.1)

-- where a page sits depends on marks and on what is due
pub sits_still : {may may' : May} (b : Base may) (b' : Base may') → Stays b b' → (e : PageEntry) (j : ℕ) → 1 ≤ j
    → Sits b e j → Sits b' e j
sits_still b b' s e j lo = by_seat b e j (Sits b' e j)
    (λ settled is. own_seat b' e j (s.loose j lo ∙ settled) is)
    (λ loose lost. lost_seat b' e j (s.loose j lo ∙ loose) lost)
    (λ a due is. due_seat b' e j a (s.due ∙ due) is)

pub ready_still : {may may' : May} (b : Base may) (b' : Base may') (d : Dir) → Coherent b d → Stays b b' → (i : ℕ) → 1 ≤ i → b'.up i ≡ true
    → (b'.loose i ≡ false) ⊎ (b'.due ≡ Some (i, i))
ready_still b b' d c s i lo up = ⊎_elim (λ l. inl (s.loose i lo ∙ l)) (λ due. inr (s.due ∙ due)) (c.ready i lo (sym (s.up i) ∙ up))

not_of : (y : Rec) (q : ℕ) → q ≢ y.page → of_page q y ≡ false
not_of y q ne = ⊎_elim
    (λ is. absurd (ne (sym (eqb-true y.page q (and_true (changes y.kind) (eqb y.page q) is).1)))) (λ is. is) (cases_Bool (of_page q y))

of_none : (y : Rec) (p : ℕ) → changes y.kind ≡ false → of_page p y ≡ false
of_none y p e = ap (λ (t : Bool). t && eqb y.page p) e

-- ---- a change

-- the RecLSN after a change: the former one, or the record's LSN
kept : (o : Option ℕ) (was : Bool) (l : ℕ) → is_some o ≡ was → kept_rec was true o (Some l) ≡ Some (unwrap_or o l)
kept None true l e = absurd (cc)
kept None false l e = refl
kept (Some x) true l e = refl
kept (Some x) false l e = absurd (cc)

module _ {may may' : May} (a i : ℕ) (image : Page) (y : Rec) (b : Base may) (b' : Base may') (d d' : Dir) (c : Coherent b d)
    (s : Changes a i image y b b' d d') where
  is_now : image ≡ newest_version b y.page
  is_now = held-now a y.page image b d c s.copy

  now_here : redo image y ≡ newest_version b' y.page
  now_here = ap (λ (x : Page). redo x y) is_now ∙ sym (s.redone.here all_kept refl)

  now_other : (q : ℕ) → q ≢ y.page → newest_version b q ≡ newest_version b' q
  now_other q ne = sym (s.redone.others all_kept q ne)

  found : d.entry y.page ≢ PageEntry.Lost
  found lost = not_both s.held (ap (λ (l : PageEntry). owns l a) lost)

  rec_here : b'.rec_lsn y.page ≡ Some (unwrap_or (b.rec_lsn y.page) y.lsn)
  rec_here = s.rec_lsn ∙ kept (b.rec_lsn y.page) (changed (d.entry y.page)) y.lsn (c.marks y.page)

  sits_new : Sits b' (dirtied a) i
  sits_new = ⊎_elim
      (λ own. own_seat b' (dirtied a) i (s.stays.loose i s.low ∙ own.1) (ap (λ (k : ℕ). PageEntry.Excl k true) own.0))
      (λ f. due_seat b' (dirtied a) i a (s.stays.due ∙ f.0) refl) s.acts

  unforced_here : (j : ℕ) → Quiet y.page (b'.tails.tail j) ⊎ Sits b' (d'.entry y.page) j
  unforced_here j = ⊎_elim
      (λ e. inr (subst (λ (k : ℕ). Sits b' (d'.entry y.page) k) (sym e) (subst (λ (l : PageEntry). Sits b' l i) (sym s.entry) sits_new)))
      (λ ne. inl (subst (Quiet y.page) (sym (s.grows.others j ne)) (lone may a i y.page b d c s.held s.acts j ne)))
      (cases_eq j i)

  unforced_other : (j q : ℕ) → q ≢ y.page → Quiet q (b'.tails.tail j) ⊎ Sits b' (d'.entry q) j
  unforced_other j q ne = ⊎_elim
      (λ quiet. inl (quiet_still i y b.tails b'.tails s.grows q (not_of y q ne) j quiet))
      (λ sits. inr (subst (λ (l : PageEntry). Sits b' l j) (sym (s.others.entries q ne)) (sits_still b b' s.stays (d.entry q) j sits.0 sits.1)))
      (seated b d c q j)

  copies_here : (k : ℕ) → d'.pool k y.page ≡ cond (eqb a k) (Some (redo image y)) None
  copies_here k = one_copy s.redone_copy k ∙ ap (λ (o : Option Page). cond (eqb a k) (Some (redo image y)) o) (c.copies k y.page)
      ∙ ap (λ (t : Bool). cond (eqb a k) (Some (redo image y)) (cond t (Some (newest_version b y.page)) None))
      (owner-holds a k (d.entry y.page) s.held)
      ∙ once (eqb a k)
    where
      once : (t : Bool) → cond t (Some (redo image y)) (cond t (Some (newest_version b y.page)) None) ≡ cond t (Some (redo image y)) None
      once true = refl
      once false = refl

  passing_here : d'.moving y.page ≡ None
  passing_here = s.moving ∙ c.moving y.page
      ∙ ap (λ (t : Bool). cond t (Some (newest_version b y.page)) None) (owner-passes a (d.entry y.page) s.held)

  rises : (newest_version b y.page).lsn < y.lsn
  rises = subst (λ (x : Page). x.lsn < y.lsn) is_now s.rises

  -- the first change that the disk lacks: the former one, or y
  first_here : (o : Option ℕ) → b.rec_lsn y.page ≡ o → (x : Page) → may y.page x → (j : ℕ)
      → NoneBefore y.page (unwrap_or o y.lsn) x (log b'.tails j)
  first_here None e x m j = each_log i y b.tails b'.tails s.grows (λ r. of_page y.page r ≡ true → x.lsn < r.lsn → y.lsn ≤ r.lsn)
      (λ is lt. omega arith) j
      (let is = ap (λ (v : Page). v.lsn) (c.clean y.page (sym (c.marks y.page) ∙ ap is_some e) x m) in
      Each-weaker (λ r. of_page y.page r ≡ true → r.lsn ≤ (newest_version b y.page).lsn) (λ r. of_page y.page r ≡ true → x.lsn < r.lsn → y.lsn ≤ r.lsn)
      (λ r low of lt. let l = low of in absurd (omega (arith, l, is, lt)))
      (log b.tails j) (Versions.low b.tails may b.version c.safe b.disk c.reads y.page j))
  first_here (Some l) e x m j = each_log i y b.tails b'.tails s.grows (λ r. of_page y.page r ≡ true → x.lsn < r.lsn → l ≤ r.lsn)
      (λ is lt. let low = c.below y.page l e found in let r = rises in omega (arith, low, r)) j (c.first y.page l e x m j)

  below_here : (o : Option ℕ) → b.rec_lsn y.page ≡ o → unwrap_or o y.lsn ≤ y.lsn
  below_here None e = omega arith
  below_here (Some l) e = let low = c.below y.page l e found in let r = rises in omega (arith, low, r)

  pub change-coherent : Coherent b' d'
  change-coherent = record {
    safe = s.safe;
    eight = grown_eight i y b.tails b'.tails s.grows s.low c.eight;
    reads = s.reads;
    still = λ settled p x m. c.still (sym s.stays.loose_disk ∙ settled) p x (s.stays.less p x m) ∙ sym (s.stays.disk p);
    copies = λ k. at_page y.page (λ q. d'.pool k q ≡ cond (holds (d'.entry q) k) (Some (newest_version b' q)) None)
        (copies_here k ∙ ap (λ (x : Page). cond (eqb a k) (Some x) None) now_here
        ∙ ap (λ (l : PageEntry). cond (holds l k) (Some (newest_version b' y.page)) None) (sym s.entry))
        (λ q ne. s.others.pools k q ne ∙ c.copies k q
        ∙ ap₂ (λ (l : PageEntry) (v : Page). cond (holds l k) (Some v) None) (sym (s.others.entries q ne)) (now_other q ne));
    moving = at_page y.page (λ q. d'.moving q ≡ cond (passes (d'.entry q)) (Some (newest_version b' q)) None)
        (passing_here ∙ ap (λ (l : PageEntry). cond (passes l) (Some (newest_version b' y.page)) None) (sym s.entry))
        (λ q ne. s.others.moving q ne ∙ c.moving q
        ∙ ap₂ (λ (l : PageEntry) (v : Page). cond (passes l) (Some v) None) (sym (s.others.entries q ne)) (now_other q ne));
    live = λ k. at_page y.page (λ q. uses (d'.entry q) k ≡ true → b'.active k ≡ true)
        (λ u. s.stays.active k ∙ c.live k y.page (owner-uses a k (d.entry y.page) s.held
        ∙ (sym (ap (λ (l : PageEntry). uses l k) s.entry) ∙ u)))
        (λ q ne u. s.stays.active k ∙ c.live k q (ap (λ (l : PageEntry). uses l k) (sym (s.others.entries q ne)) ∙ u));
    unforced = λ j. at_page y.page (λ q. Quiet q (b'.tails.tail j) ⊎ Sits b' (d'.entry q) j) (unforced_here j) (unforced_other j);
    ready = ready_still b b' d c s.stays;
    marks = at_page y.page (λ q. is_some (b'.rec_lsn q) ≡ changed (d'.entry q))
        (ap is_some rec_here ∙ sym (ap changed s.entry))
        (λ q ne. ap is_some (s.other_rec q ne) ∙ c.marks q ∙ ap changed (sym (s.others.entries q ne)));
    clean = at_page y.page (λ q. changed (d'.entry q) ≡ false → (x : Page) → may' q x → x ≡ newest_version b' q)
        (λ e. not_both (ap changed s.entry) e)
        (λ q ne e x m. c.clean q (ap changed (sym (s.others.entries q ne)) ∙ e) x (s.stays.less q x m) ∙ now_other q ne);
    first = at_page y.page (λ q. (l : ℕ) → b'.rec_lsn q ≡ Some l → (x : Page) → may' q x → (j : ℕ) → NoneBefore q l x (log b'.tails j))
        (λ l e x m j. subst (λ (l : ℕ). NoneBefore y.page l x (log b'.tails j)) (the_same rec_here e)
        (first_here (b.rec_lsn y.page) refl x (s.stays.less y.page x m) j))
        (λ q ne l e x m j. each_log i y b.tails b'.tails s.grows (λ r. of_page q r ≡ true → x.lsn < r.lsn → l ≤ r.lsn)
        (λ is lt. not_both is (not_of y q ne)) j (c.first q l (sym (s.other_rec q ne) ∙ e) x (s.stays.less q x m) j));
    below = at_page y.page (λ q. (l : ℕ) → b'.rec_lsn q ≡ Some l → d'.entry q ≢ PageEntry.Lost → l ≤ (newest_version b' q).lsn)
        (λ l e there. subst (λ (v : Page). l ≤ v.lsn) now_here
        (subst (λ (l : ℕ). l ≤ y.lsn) (the_same rec_here e) (below_here (b.rec_lsn y.page) refl)))
        (λ q ne l e there. subst (λ (v : Page). l ≤ v.lsn) (now_other q ne)
        (c.below q l (sym (s.other_rec q ne) ∙ e) (λ lost. there (s.others.entries q ne ∙ lost))));
  }

pub change-keeps : (may may' : May) → ChangeKeeps may may'
change-keeps may may' a i image y b b' d d' c s = change-coherent a i image y b b' d d' c s

-- ---- a record without a page, or none

-- versions and RecLSNs stay, and logs have no other records of pages
module _ {may may' : May} (b : Base may) (b' : Base may') (d : Dir) (c : Coherent b d) (s : Stays b b')
    (safe : IsSafe b'.tails may' b'.version) (reads : Allowed may' b'.disk)
    (eight : (b'.tails.base 0 ≡ []) × (b'.tails.tail 0 ≡ [])) (version : (p : ℕ) → newest_version b' p ≡ newest_version b p)
    (rec_lsn : (p : ℕ) → b'.rec_lsn p ≡ b.rec_lsn p)
    (quiet : (p j : ℕ) → Quiet p (b.tails.tail j) → Quiet p (b'.tails.tail j))
    (first : (p l : ℕ) (x : Page) (j : ℕ) → NoneBefore p l x (log b.tails j) → NoneBefore p l x (log b'.tails j)) where
  pub pages-coherent : Coherent b' d
  pages-coherent = record {
    safe = safe;
    eight = eight;
    reads = reads;
    still = λ settled p x m. c.still (sym s.loose_disk ∙ settled) p x (s.less p x m) ∙ sym (s.disk p);
    copies = λ k p. c.copies k p ∙ copy_same (holds (d.entry p) k) (newest_version b p) (newest_version b' p) (λ h. version p);
    moving = λ p. c.moving p ∙ copy_same (passes (d.entry p)) (newest_version b p) (newest_version b' p) (λ h. version p);
    live = λ k p u. s.active k ∙ c.live k p u;
    unforced = λ j p. ⊎_elim (λ q. inl (quiet p j q)) (λ sits. inr (sits_still b b' s (d.entry p) j sits.0 sits.1)) (seated b d c p j);
    ready = ready_still b b' d c s;
    marks = λ p. ap is_some (rec_lsn p) ∙ c.marks p;
    clean = λ p e x m. c.clean p e x (s.less p x m) ∙ sym (version p);
    first = λ p l e x m j. first p l x j (c.first p l (sym (rec_lsn p) ∙ e) x (s.less p x m) j);
    below = λ p l e found. subst (λ (v : Page). l ≤ v.lsn) (sym (version p)) (c.below p l (sym (rec_lsn p) ∙ e) found);
  }

pub seal-keeps : (may may' : May) → SealKeeps may may'
seal-keeps may may' i y b b' d c s = pages-coherent b b' d c s.stays s.safe s.reads
    (grown_eight i y b.tails b'.tails s.grows s.low c.eight) (s.version all_kept) s.rec_lsn
    (λ p. quiet_still i y b.tails b'.tails s.grows p (of_none y p s.no_page))
    (λ p l x. each_log i y b.tails b'.tails s.grows (λ r. of_page p r ≡ true → x.lsn < r.lsn → l ≤ r.lsn)
    (λ of lt. not_both of (of_none y p s.no_page)))

pub rest-keeps : (may may' : May) → RestKeeps may may'
rest-keeps may may' b b' d c s = pages-coherent b b' d c s.stays s.safe s.reads
    (s.bases 0 ∙ c.eight.0, s.tails 0 ∙ c.eight.1) (s.version all_kept) s.rec_lsn
    (λ p j. subst (Quiet p) (sym (s.tails j)))
    (λ p l x j. subst (NoneBefore p l x) (sym (ap₂ (λ (x z : List Rec). x ++ z) (s.bases j) (s.tails j))))
