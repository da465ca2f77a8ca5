-- What a checkpoint has of pages, and a later start place. It serves the laws on checkpoints.
use Rattle.std.proofs.Common.{◌≡◌, ◌⊎◌, inl, inr, ⊎_elim, ℕ, ◌<◌, ◌≤◌, true, false, List, [], ◌∷◌, ◌++◌, Option, None, Some, refl, sym, ap, ap₂, ◌∙◌, subst, arith, append_assoc, append-nil}
use Rattle.std.specs.Prelude.{is_some}
use Rattle.std.proofs.lemmas.Bool.{cases_eq, cases_lt}
use Rattle.sd_logrec.specs.View.{Rec}
use Rattle.sd_page.specs.Page.{Page}
use Rattle.sd_base.specs.declared.ids.TxnId.{TxnId}
use Rattle.sd_chain.specs.Records.{Each, IsOpen, of_page}
use Rattle.sd_chain.specs.Order.{Tidy, of_txn}
use Rattle.sd_chain.specs.Images.{log}
use Rattle.sd_chain.specs.Laws.{May}
use Rattle.sd_chain.proofs.Images
use Rattle.sd_chain.proofs.Lists.{Each-append, Each-back, Each-both, Each-front, Each-weaker}
use Rattle.sd_chain.specs.World.{newest_version}
use Rattle.sd_chain.specs.Coherent.{NoneBefore, Quiet}
use Rattle.sd_chain.specs.Checkpoints.{CoverBegins, CoverGrows, CoverPuts, CoverSettles, CoverStays, MayShorten, OnDisk, Shut, ShortenKeeps}
use Rattle.sd_chain.proofs.Cases.{left_none}
use Rattle.sd_chain.proofs.Changes.{log_here}
use Rattle.sd_chain.proofs.Closed.{closed-shortened}
use Rattle.sd_chain.proofs.Versions
use Rattle.sd_chain.proofs.Versions.{Each-settled}

pub cover-begins : (may : May) → CoverBegins may
cover-begins may low j b d c least p x m = go (b.rec_lsn p) refl
  where
    go : (o : Option ℕ) → b.rec_lsn p ≡ o → Each (OnDisk low p x) (log b.tails j)
    go None e = let is = ap (λ (v : Page). v.lsn) (c.clean p (sym (c.marks p) ∙ ap is_some e) x m) in
        Each-weaker (λ r. of_page p r ≡ true → r.lsn ≤ (newest_version b p).lsn) (OnDisk low p x)
        (λ r h of lt. let a = h of in omega (arith, a, is))
        (log b.tails j) (Versions.low b.tails may b.version c.safe b.disk c.reads p j)
    go (Some l) e = Each-weaker (λ r. of_page p r ≡ true → x.lsn < r.lsn → l ≤ r.lsn) (OnDisk low p x)
        (λ r h of lt. ⊎_elim (λ above. let a = h of above in let b = least p l e in absurd (omega (arith, a, b, lt))) (λ le. le)
        (cases_lt x.lsn r.lsn))
        (log b.tails j) (c.first p l e x m j)

pub cover-grows : (may may' : May) → CoverGrows may may'
cover-grows may may' low i y b b' g less le cov p x m =
    subst (Each (OnDisk low p x)) (sym (log_here i y b.tails b'.tails g))
    (Each-append (OnDisk low p x) (log b.tails i) (y ∷ []) (cov p x (less p x m)) ((λ of lt. absurd (omega (arith, le, lt))), tt))

pub cover-settles : (may may' : May) → CoverSettles may may'
cover-settles may may' low i j kept b b' s less cov p x m =
    Each-settled (OnDisk low p x) j kept b.tails b'.tails s i (cov p x (less p x m))

pub cover-puts : (may may' : May) → CoverPuts may may'
cover-puts may may' low j p b b' d c leaves same cov q x m = subst (Each (OnDisk low q x)) (sym same) (⊎_elim
    (λ old. cov q x old)
    (λ w. let e = ap (λ (v : Page). v.lsn) w.1 in let f = ap (λ (k : ℕ). (newest_version b k).lsn) w.0 in
    Each-weaker (λ r. of_page q r ≡ true → r.lsn ≤ (newest_version b q).lsn) (OnDisk low q x)
    (λ r h of lt. let a = h of in omega (arith, a, e, f))
    (log b.tails j) (Versions.low b.tails may b.version c.safe b.disk c.reads q j))
    (leaves q x m))

pub cover-stays : (may may' : May) → CoverStays may may'
cover-stays may may' low i b b' same less cov p x m = subst (Each (OnDisk low p x)) (sym same) (cov p x (less p x m))

-- ---- a later start place

pub may-shorten : (may : May) → MayShorten may
may-shorten may low i gone b d new c cov closed l = record {
  inside = l.inside;
  here = l.here;
  no_tail = l.no_tail;
  tails = l.tails;
  others = l.others;
  on_disk = λ disk allowed. on_disk disk gone l.below (λ p. front (OnDisk low p (disk p)) (cov p (disk p) (allowed p)));
  closed = λ t. subst (λ (xs : List Rec). Each (λ x. of_txn t x ≡ false) gone
      ⊎ ((IsOpen t (new.base i) → ⊥) ⊎ ((IsOpen t xs → ⊥) × Each (λ x. of_txn t x ≡ false) (new.base i))))
      (sym l.here) (closed-shortened gone (new.base i) shut t (order t));
}
  where
    whole : log b.tails i ≡ gone ++ new.base i
    whole = ap₂ (λ (x z : List Rec). x ++ z) l.here l.no_tail ∙ append-nil (gone ++ new.base i)

    front : (P : Rec → Type 0) → Each P (log b.tails i) → Each P gone
    front P each = Each-front P gone (new.base i) (subst (Each P) whole each)

    on_disk : (disk : ℕ → Page) (xs : List Rec) → Each (λ x. x.lsn < low) xs → ((p : ℕ) → Each (OnDisk low p (disk p)) xs)
        → Each (λ x. (p : ℕ) → of_page p x ≡ true → x.lsn ≤ (disk p).lsn) xs
    on_disk disk [] below each = tt
    on_disk disk (x ∷ xs) below each = (λ p of. (each p).0 of below.0, on_disk disk xs below.1 (λ p. (each p).1))

    shut : Each (Shut (gone ++ new.base i)) gone
    shut = Each-both (λ x. x.lsn < low) (λ x. x.lsn < low → Shut (gone ++ new.base i) x) (Shut (gone ++ new.base i))
        (λ x lt f. f lt) gone l.below
        (front (λ x. x.lsn < low → Shut (gone ++ new.base i) x)
        (subst (λ (f : List Rec). Each (λ x. x.lsn < low → Shut f x) (log b.tails i)) whole closed))

    order : (t : TxnId) → Tidy t (gone ++ new.base i)
    order t = subst (Tidy t) (append-nil (b.tails.base i) ∙ l.here) (c.safe.order (λ j. false) i t)

-- a log is read from a later place
pub shorten-keeps : (may : May) → ShortenKeeps may
shorten-keeps may i gone b d tails c s = record {
  safe = Images.shortened-safe i gone b.tails tails may s b.version c.safe;
  eight = (
    ⊎_elim (λ e. left_none gone (tails.base 0)
        (ap (λ (k : ℕ). gone ++ tails.base k) e ∙ sym s.here ∙ ap b.tails.base (sym e) ∙ c.eight.0))
        (λ ne. s.others 0 ne ∙ c.eight.0) (cases_eq 0 i),
    s.tails 0 ∙ c.eight.1,
  );
  reads = c.reads;
  still = c.still;
  copies = c.copies;
  moving = c.moving;
  live = c.live;
  unforced = λ j p. ⊎_elim (λ q. inl (subst (Quiet p) (sym (s.tails j)) q)) (λ sits. inr sits) (c.unforced j p);
  ready = c.ready;
  marks = c.marks;
  clean = c.clean;
  first = λ p l e x m j. ⊎_elim
      (λ is. subst (λ (k : ℕ). NoneBefore p l x (log tails k)) (sym is)
      (subst (λ (t : List Rec). NoneBefore p l x (tails.base i ++ t)) (sym (s.tails i))
      (Each-back (λ r. of_page p r ≡ true → x.lsn < r.lsn → l ≤ r.lsn) gone (tails.base i ++ b.tails.tail i)
      (subst (Each (λ r. of_page p r ≡ true → x.lsn < r.lsn → l ≤ r.lsn))
      (ap (λ (t : List Rec). t ++ b.tails.tail i) s.here ∙ append_assoc gone (tails.base i) (b.tails.tail i)) (c.first p l e x m i)))))
      (λ ne. subst (NoneBefore p l x) (sym (ap₂ (λ (a z : List Rec). a ++ z) (s.others j ne) (s.tails j))) (c.first p l e x m j))
      (cases_eq j i);
  below = c.below;
}
