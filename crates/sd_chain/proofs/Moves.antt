-- Rows of the directory's table. It serves the laws on rows.
use Rattle.std.proofs.Common.{◌≡◌, ◌≢◌, ◌⊎◌, inl, ⊎_elim, ℕ, ◌≤◌, Bool, true, false, cond, eqb, Option, None, Some, refl, sym, ap, ◌∙◌, subst, ne_eqb, eqb-true}
use Rattle.std.specs.Prelude.{is_some}
use Rattle.std.proofs.lemmas.Bool.{cases_eq}
use Rattle.std.proofs.lemmas.Option.{cond_some}
use Rattle.sd_page.specs.Page.{Page}
use Rattle.sd_chain.specs.Laws.{May}
use Rattle.sd_pagelock.specs.Directory.{kept_rec}
use Rattle.sd_pagelock.specs.Places.{PageEntry, changed, holds, passes, receives, uses}
use Rattle.sd_pagelock.specs.Rows.{fallen, given_excl, given_shared, locked, raised, taken}
use Rattle.sd_pagelock.proofs.Drops.{changed-fallen}
use Rattle.sd_pagelock.proofs.Falls.{holds-fallen, holds-taken, uses-fallen, uses-taken}
use Rattle.sd_pagelock.proofs.Losses.{changed-given, changed-raised, changed-taken}
use Rattle.sd_pagelock.proofs.Uses
use Rattle.sd_chain.specs.World.{Base, Dir, newest_version}
use Rattle.sd_chain.specs.Coherent.{Coherent, Quiet, Sits}
use Rattle.sd_chain.specs.Moves.{ForcedFor, IsRow, MayMove, Moved, Source, RowKeeps, RowKeepsRec, LockKeeps, RaiseKeeps, ShareKeeps, YieldKeeps, TakeKeeps, DropKeeps}
use Rattle.sd_chain.proofs.Cases.{at_page, by_seat, none_some, one_copy}

-- a copy is the newest version
pub source-now : {may : May} (b : Base may) (d : Dir) → Coherent b d → (p : ℕ) (image : Page) → Source b d p image
    → image ≡ newest_version b p
source-now {may} b d c p image s = ⊎_elim
    (λ h. sym (cond_some (holds (d.entry p) h.0) (newest_version b p) image (sym (c.copies h.0 p) ∙ h.1)).1)
    (λ m. ⊎_elim
    (λ h. sym (cond_some (passes (d.entry p)) (newest_version b p) image (sym (c.moving p) ∙ h)).1)
    (λ f. c.clean p (ap changed f.0) image (subst (may p) (sym f.1) (c.reads p)))
    m)
    s

-- no tail has a record of a page that isn't lost and whose holder's log is forced
pub quiet : {may : May} (b : Base may) (d : Dir) → Coherent b d → b.due ≡ None → (p : ℕ) → d.entry p ≢ PageEntry.Lost
    → ForcedFor b d p → (j : ℕ) → Quiet p (b.tails.tail j)
quiet b d c idle p found forced j = ⊎_elim (λ q. q)
    (by_seat b (d.entry p) j (Quiet p (b.tails.tail j))
    (λ settled is. subst (Quiet p) (sym (forced j is settled)) tt)
    (λ loose lost. absurd (found lost))
    (λ a due is. none_some idle due))
    (c.unforced j p)

-- one page's copies move
pub row-coherent : {may : May} (b : Base may) (old new : Dir) (p : ℕ) (image : Page) (to : PageEntry) → Coherent b old
    → IsRow b (old.entry p) to → image ≡ newest_version b p → ((j : ℕ) → Quiet p (b.tails.tail j)) → Moved p image to old new
    → Coherent b new
row-coherent {may} b old new p image to c row is still m =
    record {
      safe = c.safe;
      eight = c.eight;
      reads = c.reads;
      still = c.still;
      copies = λ i. at_page p (λ q. new.pool i q ≡ cond (holds (new.entry q) i) (Some (newest_version b q)) None)
          (m.copies i ∙ ap (λ (x : Page). cond (holds to i) (Some x) None) is
          ∙ ap (λ (l : PageEntry). cond (holds l i) (Some (newest_version b p)) None) (sym m.here))
          (λ q ne. m.others.pools i q ne ∙ c.copies i q
          ∙ ap (λ (l : PageEntry). cond (holds l i) (Some (newest_version b q)) None) (sym (m.others.entries q ne)));
      moving = at_page p (λ q. new.moving q ≡ cond (passes (new.entry q)) (Some (newest_version b q)) None)
          (m.passing ∙ ap (λ (x : Page). cond (passes to) (Some x) None) is
          ∙ ap (λ (l : PageEntry). cond (passes l) (Some (newest_version b p)) None) (sym m.here))
          (λ q ne. m.others.moving q ne ∙ c.moving q
          ∙ ap (λ (l : PageEntry). cond (passes l) (Some (newest_version b q)) None) (sym (m.others.entries q ne)));
      live = λ i. at_page p (λ q. uses (new.entry q) i ≡ true → b.active i ≡ true)
          (λ u. row.live i (ap (λ (l : PageEntry). uses l i) (sym m.here) ∙ u))
          (λ q ne u. c.live i q (ap (λ (l : PageEntry). uses l i) (sym (m.others.entries q ne)) ∙ u));
      unforced = λ j. at_page p (λ q. Quiet q (b.tails.tail j) ⊎ Sits b (new.entry q) j)
          (inl (still j))
          (λ q ne. subst (λ (l : PageEntry). Quiet q (b.tails.tail j) ⊎ Sits b l j) (sym (m.others.entries q ne)) (c.unforced j q));
      ready = c.ready;
      marks = at_page p (λ q. is_some (b.rec_lsn q) ≡ changed (new.entry q))
          (c.marks p ∙ sym row.changed ∙ ap changed (sym m.here))
          (λ q ne. c.marks q ∙ ap changed (sym (m.others.entries q ne)));
      clean = at_page p (λ q. changed (new.entry q) ≡ false → (x : Page) → may q x → x ≡ newest_version b q)
          (λ e. c.clean p (sym row.changed ∙ ap changed (sym m.here) ∙ e))
          (λ q ne e. c.clean q (ap changed (sym (m.others.entries q ne)) ∙ e));
      first = c.first;
      below = at_page p (λ q. (l : ℕ) → b.rec_lsn q ≡ Some l → new.entry q ≢ PageEntry.Lost → l ≤ (newest_version b q).lsn)
          (λ l e n. c.below p l e row.found)
          (λ q ne l e n. c.below q l e (λ lost. n (m.others.entries q ne ∙ lost)));
    }

pub row-keeps : (may : May) → RowKeeps may
row-keeps may b old new p image to c idle forced row source m =
    row-coherent b old new p image to c row (source-now b old c p image source) (quiet b old c idle p row.found forced) m

same_rec : (was : Bool) (o rec : Option ℕ) → is_some o ≡ was → kept_rec was was o rec ≡ o
same_rec true o rec e = refl
same_rec false None rec e = refl
same_rec false (Some x) rec e = absurd (cc)

pub row_keeps-rec : (may : May) → RowKeepsRec may
row_keeps-rec may b d p to rec c same = ap (λ (t : Bool). kept_rec (changed (d.entry p)) t (b.rec_lsn p) rec) same
    ∙ same_rec (changed (d.entry p)) (b.rec_lsn p) rec (c.marks p)

-- a row whose copies are told one by one
module _ {may : May} (b : Base may) (old new : Dir) (p : ℕ) (m : MayMove b old new p) where
  by_row : (to : PageEntry) → IsRow b (old.entry p) to → new.entry p ≡ to
      → ((k : ℕ) → new.pool k p ≡ cond (holds to k) (Some (newest_version b p)) None)
      → new.moving p ≡ cond (passes to) (Some (newest_version b p)) None → Coherent b new
  by_row to row here copies passing = row-coherent b old new p (newest_version b p) to m.coherent row refl
      (quiet b old m.coherent m.idle p row.found m.forced)
      (record { here = here; copies = copies; passing = passing; others = m.others })

  was : (k : ℕ) → old.pool k p ≡ cond (holds (old.entry p) k) (Some (newest_version b p)) None
  was k = m.coherent.copies k p

  -- the copy of a holder
  held : (j : ℕ) → holds (old.entry p) j ≡ true → old.pool j p ≡ Some (newest_version b p)
  held j h = was j ∙ ap (λ (t : Bool). cond t (Some (newest_version b p)) None) h

  -- the user of a page that i comes to is i, or was there
  one_more : (i : ℕ) → b.active i ≡ true → (k : ℕ) (u : Bool) → (u ≡ true → b.active k ≡ true) → cond (eqb i k) true u ≡ true
      → b.active k ≡ true
  one_more i active k u f h = ⊎_elim (λ e. ap b.active (sym e) ∙ active)
      (λ ne. f (sym (ap (λ (t : Bool). cond t true u) (ne_eqb i k ne)) ∙ h)) (cases_eq i k)

pub lock-keeps : (may : May) → LockKeeps may
lock-keeps may b old new p i mode m active is_free here one moving = by_row b old new p m (locked i mode)
    (record {
      found = Uses.clean-found (old.entry p) (ap changed free);
      changed = Uses.clean-locked i mode ∙ sym (ap changed free);
      live = λ k u. ap b.active (sym (eqb-true i k (sym (Uses.uses-locked i k mode) ∙ u))) ∙ active;
    })
    here
    (λ k. one_copy one k ∙ ap (λ (x : Page). cond (eqb i k) (Some x) (old.pool k p)) read
    ∙ ap (λ (o : Option Page). cond (eqb i k) (Some (newest_version b p)) o) (none k)
    ∙ ap (λ (t : Bool). cond t (Some (newest_version b p)) None) (sym (Uses.holds-locked i k mode)))
    (moving ∙ m.coherent.moving p ∙ ap (λ (l : PageEntry). cond (passes l) (Some (newest_version b p)) None) free
    ∙ ap (λ (t : Bool). cond t (Some (newest_version b p)) None) (sym (Uses.rests-locked i mode)))
  where
    free : old.entry p ≡ PageEntry.Free
    free = Uses.free-is (old.entry p) is_free

    read : b.disk p ≡ newest_version b p
    read = m.coherent.clean p (ap changed free) (b.disk p) (m.coherent.reads p)

    none : (k : ℕ) → old.pool k p ≡ None
    none k = was b old new p m k ∙ ap (λ (l : PageEntry). cond (holds l k) (Some (newest_version b p)) None) free

pub raise-keeps : (may : May) → RaiseKeeps may
raise-keeps may b old new p i m may_raise here pools moving = by_row b old new p m (raised i (old.entry p))
    (record {
      found = Uses.raise-found i (old.entry p) may_raise;
      changed = changed-raised i (old.entry p);
      live = λ k u. m.coherent.live k p (sym (Uses.uses-raised i k (old.entry p) may_raise) ∙ u);
    })
    here
    (λ k. pools k ∙ was b old new p m k
    ∙ ap (λ (t : Bool). cond t (Some (newest_version b p)) None) (sym (Uses.holds-raised i k (old.entry p) may_raise)))
    (moving ∙ m.coherent.moving p
    ∙ ap (λ (t : Bool). cond t (Some (newest_version b p)) None) (sym (Uses.passes-raised i (old.entry p) may_raise)))

pub share-keeps : (may : May) → ShareKeeps may
share-keeps may b old new p j i m active may_share h here pools moving = by_row b old new p m (given_shared i (old.entry p))
    (record {
      found = Uses.share-found i (old.entry p) may_share;
      changed = changed-given i (old.entry p);
      live = λ k u. one_more b old new p m i active k (uses (old.entry p) k) (m.coherent.live k p)
          (sym (Uses.uses-shared i k (old.entry p) may_share) ∙ u);
    })
    here
    (λ k. pools k ∙ was b old new p m k
    ∙ ap (λ (t : Bool). cond t (Some (newest_version b p)) None) (sym (Uses.holds-shared i k (old.entry p))))
    (moving ∙ held b old new p m j h
    ∙ ap (λ (t : Bool). cond t (Some (newest_version b p)) None) (sym (Uses.passes-shared i (old.entry p) may_share)))

pub yield-keeps : (may : May) → YieldKeeps may
yield-keeps may b old new p j i m active may_yield h here one moving = by_row b old new p m (given_excl i (old.entry p))
    (record {
      found = Uses.held-found j (old.entry p) h;
      changed = refl;
      live = λ k u. one_more b old new p m i active k false (λ no. absurd (cc)) u;
    })
    here
    (λ k. one_copy one k ∙ ap (λ (o : Option Page). cond (eqb j k) None o)
    (was b old new p m k ∙ ap (λ (t : Bool). cond t (Some (newest_version b p)) None) (alone k)) ∙ none (eqb j k))
    (moving ∙ held b old new p m j h)
  where
    holder : (z : ℕ) × ((k : ℕ) → holds (old.entry p) k ≡ eqb z k)
    holder = Uses.only-holder i (old.entry p) may_yield

    alone : (k : ℕ) → holds (old.entry p) k ≡ eqb j k
    alone k = holder.1 k ∙ ap (λ (z : ℕ). eqb z k) (eqb-true holder.0 j (sym (holder.1 j) ∙ h))

    none : (t : Bool) → cond t None (cond t (Some (newest_version b p)) None) ≡ None
    none true = refl
    none false = refl

pub take-keeps : (may : May) → TakeKeeps may
take-keeps may b old new p i m formed receiver here one moving = by_row b old new p m (taken (old.entry p))
    (record {
      found = Uses.passes-found (old.entry p) moves;
      changed = changed-taken (old.entry p);
      live = λ k u. m.coherent.live k p (sym (uses-taken k (old.entry p) formed) ∙ u);
    })
    here
    (λ k. one_copy one k ∙ ap (λ (t : Bool). cond t (old.moving p) (old.pool k p)) (sym (Uses.receiver-one i k (old.entry p) receiver))
    ∙ ap (λ (o : Option Page). cond (receives (old.entry p) k) o (old.pool k p)) image
    ∙ ap (λ (o : Option Page). cond (receives (old.entry p) k) (Some (newest_version b p)) o) (was b old new p m k)
    ∙ both (receives (old.entry p) k) (holds (old.entry p) k)
    ∙ ap (λ (t : Bool). cond t (Some (newest_version b p)) None) (sym (holds-taken k (old.entry p) formed ∙ Uses.uses-parts k (old.entry p))))
    (moving ∙ ap (λ (t : Bool). cond t (Some (newest_version b p)) None) (sym (Uses.passes-taken (old.entry p))))
  where
    moves : passes (old.entry p) ≡ true
    moves = Uses.receiver-passes i (old.entry p) receiver

    image : old.moving p ≡ Some (newest_version b p)
    image = m.coherent.moving p ∙ ap (λ (t : Bool). cond t (Some (newest_version b p)) None) moves

    both : (t h : Bool) → cond t (Some (newest_version b p)) (cond h (Some (newest_version b p)) None) ≡ cond (cond t true h) (Some (newest_version b p)) None
    both true h = refl
    both false h = refl

pub drop-keeps : (may : May) → DropKeeps may
drop-keeps may b old new p i m formed h here one moving = by_row b old new p m (fallen i (old.entry p))
    (record {
      found = Uses.held-found i (old.entry p) h;
      changed = changed-fallen i (old.entry p);
      live = λ k u. m.coherent.live k p (Uses.left-used (eqb i k) (uses (old.entry p) k) (sym (uses-fallen i k (old.entry p)) ∙ u));
    })
    here
    (λ k. one_copy one k ∙ ap (λ (o : Option Page). cond (eqb i k) None o) (was b old new p m k) ∙ dropped (eqb i k) (holds (old.entry p) k)
    ∙ ap (λ (t : Bool). cond t (Some (newest_version b p)) None) (sym (holds-fallen i k (old.entry p))))
    (moving ∙ m.coherent.moving p ∙ ap (λ (t : Bool). cond t (Some (newest_version b p)) None)
    (sym (Uses.passes-fallen i (old.entry p) ∙ ap (λ (t : Bool). cond t false (passes (old.entry p))) stays)))
  where
    stays : receives (old.entry p) i ≡ false
    stays = Uses.holder-stays i (old.entry p) formed h

    dropped : (t h : Bool) → cond t None (cond h (Some (newest_version b p)) None) ≡ cond (cond t false h) (Some (newest_version b p)) None
    dropped true h = refl
    dropped false h = refl
