-- A page is put, or device 0 is synced. It serves the laws on device 0.
use Rattle.std.proofs.Common.{◌≡◌, ◌≢◌, ◌⊎◌, inl, inr, ⊎_elim, ℕ, ◌<◌, ◌≤◌, Bool, true, false, cond, List, [], ◌∷◌, Option, None, Some, refl, sym, ap, ◌∙◌, subst, arith, ltb-true}
use Rattle.std.specs.Prelude.{is_some, ltb}
use Rattle.std.proofs.lemmas.Bool.{cases_lt}
use Rattle.sd_logrec.specs.View.{Rec}
use Rattle.sd_page.specs.Page.{Page}
use Rattle.sd_chain.specs.Records.{of_page}
use Rattle.sd_chain.specs.Pages.{FitAll, redo, replay}
use Rattle.sd_chain.specs.Storage.{chain, newest}
use Rattle.sd_chain.specs.Cuts.{cut}
use Rattle.sd_chain.specs.Images.{IsSafe, all_kept, log, or_written, with_disk}
use Rattle.sd_chain.specs.Laws.{May}
use Rattle.sd_chain.proofs.Chains.{replay_rises}
use Rattle.sd_chain.proofs.Images
use Rattle.sd_chain.proofs.Lists.{Each-weaker, cond_both}
use Rattle.sd_chain.proofs.Narrowed.{narrowed-safe}
use Rattle.sd_pagelock.specs.Places.{PageEntry, changed, holds, passes, uses}
use Rattle.sd_pagelock.proofs.Members.{not_both}
use Rattle.sd_pagelock.proofs.Uses
use Rattle.sd_chain.specs.World.{Base, Dir, newest_version}
use Rattle.sd_chain.specs.Coherent.{Coherent, NoneBefore, Quiet, Sits}
use Rattle.sd_chain.specs.Puts.{Cleaned, ForcedHasNone, LostHasNone, NoneUnforced, PutIsSafe, Puts, SameLsnIsSame, SyncKeeps, TryKeeps, UnputKeeps, WriteKeeps, with_device}
use Rattle.sd_chain.proofs.Cases.{at_page, by_seat, no_more, none_some}
use Rattle.sd_chain.proofs.Moves.{quiet}
use Rattle.sd_chain.proofs.Versions

pub forced-none : (may : May) → ForcedHasNone may
forced-none may b d p c idle found forced = quiet b d c idle p found forced

-- a rebuilt page is read from forced records alone
pub lost-none : (may : May) → LostHasNone may
lost-none may b d p c idle settled lost j = ⊎_elim (λ q. q)
    (by_seat b (d.entry p) j (Quiet p (b.tails.tail j))
    (λ own is. absurd (Uses.excl-found j true (sym is ∙ lost)))
    (λ loose is. ⊎_elim (λ out. no_more b d c p j out) (λ within. not_both loose (settled j within.0 within.1)) (where_is j))
    (λ a due is. none_some idle due))
    (c.unforced j p)
  where
    where_is : (j : ℕ) → ((j ≡ 0) ⊎ (9 ≤ j)) ⊎ ((1 ≤ j) × (j ≤ 8))
    where_is j = ⊎_elim
        (λ low. inl (inl (omega (arith, low))))
        (λ up. ⊎_elim (λ within. inr (up, omega (arith, within))) (λ high. inl (inr high)) (cases_lt j 9))
        (cases_lt j 1)

module _ {may : May} (p : ℕ) (b : Base may) (d : Dir) (c : Coherent b d) (none : NoneUnforced b p) (may' : May) (disk : ℕ → Page)
    (loose : Bool) (dev : Puts p b may' disk loose) where
  pub put-safe : IsSafe b.tails may' b.version
  put-safe = narrowed-safe (or_written may p (newest_version b p)) may' dev.leaves b.tails b.version
      (Images.write-safe b.tails may b.version c.safe p none b.disk c.reads)

  -- nothing is above the newest version
  none_above : (l : ℕ) (x : Page) → x ≡ newest_version b p → (j : ℕ) → NoneBefore p l x (log b.tails j)
  none_above l x is j = Each-weaker (λ r. of_page p r ≡ true → r.lsn ≤ (newest_version b p).lsn) (λ r. of_page p r ≡ true → x.lsn < r.lsn → l ≤ r.lsn)
      (λ r h of lt. let low = h of in let e = ap (λ (v : Page). v.lsn) is in absurd (omega (arith, low, e, lt)))
      (log b.tails j) (Versions.low b.tails may b.version c.safe b.disk c.reads p j)

  was : (q : ℕ) (x : Page) → q ≢ p → may' q x → may q x
  was q x ne m = ⊎_elim (λ old. old) (λ w. absurd (ne w.0)) (dev.leaves q x m)

  -- a put that fails: old or new
  pub tried-coherent : changed (d.entry p) ≡ true → Coherent (with_device may' b disk loose b.rec_lsn) d
  tried-coherent dirty = record {
    safe = put-safe;
    eight = c.eight;
    reads = dev.left.reads;
    still = dev.left.still;
    copies = c.copies;
    moving = c.moving;
    live = c.live;
    unforced = λ j q. c.unforced j q;
    ready = c.ready;
    marks = c.marks;
    clean = at_page p (λ q. changed (d.entry q) ≡ false → (x : Page) → may' q x → x ≡ newest_version b q)
        (λ e. not_both dirty e)
        (λ q ne e x m. c.clean q e x (was q x ne m));
    first = at_page p (λ q. (l : ℕ) → b.rec_lsn q ≡ Some l → (x : Page) → may' q x → (j : ℕ) → NoneBefore q l x (log b.tails j))
        (λ l e x m j. ⊎_elim (λ old. c.first p l e x old j) (λ w. none_above l x w.1 j) (dev.leaves p x m))
        (λ q ne l e x m. c.first q l e x (was q x ne m));
    below = c.below;
  }

  -- a put that arrives, of a held page or a lost one
  pub written-coherent : (rec_lsn : ℕ → Option ℕ) (d' : Dir) → ((x : Page) → may' p x → x ≡ newest_version b p) → Cleaned p b rec_lsn d d'
      → Coherent (with_device may' b disk loose rec_lsn) d'
  written-coherent rec_lsn d' exact w = record {
    safe = put-safe;
    eight = c.eight;
    reads = dev.left.reads;
    still = dev.left.still;
    copies = λ k. at_page p (λ q. d'.pool k q ≡ cond (holds (d'.entry q) k) (Some (newest_version b q)) None)
        (w.pool k p ∙ c.copies k p
        ∙ ap (λ (t : Bool). cond t (Some (newest_version b p)) None) (sym (ap (λ (l : PageEntry). holds l k) w.here ∙ Uses.holds-written k (d.entry p))))
        (λ q ne. w.pool k q ∙ c.copies k q ∙ ap (λ (l : PageEntry). cond (holds l k) (Some (newest_version b q)) None) (sym (w.others q ne)));
    moving = at_page p (λ q. d'.moving q ≡ cond (passes (d'.entry q)) (Some (newest_version b q)) None)
        (w.moving p ∙ c.moving p
        ∙ ap (λ (t : Bool). cond t (Some (newest_version b p)) None) (sym (ap passes w.here ∙ Uses.passes-written (d.entry p))))
        (λ q ne. w.moving q ∙ c.moving q ∙ ap (λ (l : PageEntry). cond (passes l) (Some (newest_version b q)) None) (sym (w.others q ne)));
    live = λ k. at_page p (λ q. uses (d'.entry q) k ≡ true → b.active k ≡ true)
        (λ u. c.live k p (sym (ap (λ (l : PageEntry). uses l k) w.here ∙ Uses.uses-written k (d.entry p)) ∙ u))
        (λ q ne u. c.live k q (ap (λ (l : PageEntry). uses l k) (sym (w.others q ne)) ∙ u));
    unforced = λ j. at_page p (λ q. Quiet q (b.tails.tail j) ⊎ Sits (with_device may' b disk loose rec_lsn) (d'.entry q) j)
        (inl (none j))
        (λ q ne. subst (λ (l : PageEntry). Quiet q (b.tails.tail j) ⊎ Sits b l j) (sym (w.others q ne)) (c.unforced j q));
    ready = c.ready;
    marks = at_page p (λ q. is_some (rec_lsn q) ≡ changed (d'.entry q))
        (ap is_some w.no_rec ∙ sym (ap changed w.here ∙ Uses.clean-written (d.entry p) w.there))
        (λ q ne. ap is_some (w.other_rec q ne) ∙ c.marks q ∙ ap changed (sym (w.others q ne)));
    clean = at_page p (λ q. changed (d'.entry q) ≡ false → (x : Page) → may' q x → x ≡ newest_version b q)
        (λ e x m. exact x m)
        (λ q ne e x m. c.clean q (ap changed (sym (w.others q ne)) ∙ e) x (was q x ne m));
    first = at_page p (λ q. (l : ℕ) → rec_lsn q ≡ Some l → (x : Page) → may' q x → (j : ℕ) → NoneBefore q l x (log b.tails j))
        (λ l e. none_some w.no_rec e)
        (λ q ne l e x m. c.first q l (sym (w.other_rec q ne) ∙ e) x (was q x ne m));
    below = at_page p (λ q. (l : ℕ) → rec_lsn q ≡ Some l → d'.entry q ≢ PageEntry.Lost → l ≤ (newest_version b q).lsn)
        (λ l e found. none_some w.no_rec e)
        (λ q ne l e found. c.below q l (sym (w.other_rec q ne) ∙ e) (λ lost. found (w.others q ne ∙ lost)));
  }

pub put-is_safe : (may may' : May) → PutIsSafe may may'
put-is_safe may may' p b d disk loose c none dev = put-safe p b d c none may' disk loose dev

pub try-keeps : (may may' : May) → TryKeeps may may'
try-keeps may may' p b d disk loose c none dev dirty = tried-coherent p b d c none may' disk loose dev dirty

pub write-keeps : (may may' : May) → WriteKeeps may may'
write-keeps may may' p b old new disk loose rec_lsn c none dev exact w =
    written-coherent p b old c none may' disk loose dev rec_lsn new exact w

-- device 0 is synced, or a sync fails
pub sync-keeps : (may may' : May) → SyncKeeps may may'
sync-keeps may may' b d disk loose c less left = record {
  safe = narrowed-safe may may' less b.tails b.version c.safe;
  eight = c.eight;
  reads = left.reads;
  still = left.still;
  copies = c.copies;
  moving = c.moving;
  live = c.live;
  unforced = λ j q. c.unforced j q;
  ready = c.ready;
  marks = c.marks;
  clean = λ q e x m. c.clean q e x (less q x m);
  first = λ q l e x m. c.first q l e x (less q x m);
  below = c.below;
}

-- records that leave the LSN leave the page
replay-same : (floor : ℕ) (page : Page) (xs : List Rec) → FitAll floor page xs → floor ≤ page.lsn
    → (replay floor page xs).lsn ≡ page.lsn → replay floor page xs ≡ page
replay-same floor page [] fits le e = refl
replay-same floor page (x ∷ xs) fits le e =
    let here = fits.0 in
    let ih = replay-same floor page xs in
    cond_both (λ (q : Page). FitAll floor q xs → (replay floor q xs).lsn ≡ page.lsn → replay floor q xs ≡ page) (ltb floor x.lsn)
    (redo page x) page
    (λ is fits' e'.
    let rises = (here (ltb-true floor x.lsn is)).rises in
    let up = (replay_rises floor (redo page x) xs (omega (arith, rises, le)) fits').0 in
    absurd (omega (arith, rises, up, e')))
    (λ is fits' e'. ih fits' le e')
    fits.1 e

pub same-lsn : (may : May) → SameLsnIsSame may
unfolding newest
same-lsn may b d p c e =
    let is = c.safe.same b.disk c.reads all_kept p in
    let img = cut all_kept (with_disk b.tails b.disk) in
    sym is ∙ replay-same (b.disk p).lsn (b.disk p) (chain img p) ((c.safe.sound b.disk c.reads all_kept).pages p) (omega arith)
    (ap (λ (v : Page). v.lsn) is ∙ e)

pub unput-keeps : (may : May) → UnputKeeps may
unput-keeps may p b old new rec_lsn c none settled e w = written-coherent p b old c none may b.disk b.loose_disk
    (record { leaves = λ q x m. inl m; left = record { reads = c.reads; still = c.still } }) rec_lsn new
    (λ x m. c.still settled p x m ∙ sym (same-lsn may b old p c e)) w
