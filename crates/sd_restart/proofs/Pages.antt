-- A page with a RecLSN is one of which the disk hasn't the newest version: for the lemmas of Found.antt.
use Rattle.std.proofs.Common.{◌≡◌, ⊎_elim, ℕ, zero, suc, ◌+◌, ◌<◌, ◌≤◌, Bool, true, false, cond, eqb, ltb, ◌&&◌, ◌||◌, List, [], ◌∷◌, length, take, Option, None, Some, refl, sym, ap, ap₂, ◌∙◌, arith, le-ltb, lt-ltb}
use Rattle.std.specs.Prelude.{is_some, unwrap_or}
use Rattle.std.specs.List.{list_any}
use Rattle.std.proofs.Math.Seq.{take-length}
use Rattle.std.proofs.lemmas.Bool.{cases_Bool, eqb-true}
use Rattle.std.proofs.lemmas.List.Folds.{list_any_more}
use Rattle.std.proofs.lemmas.Option.{slice_get_past, unwrap_or-slice_get}
use Rattle.sd_logrec.specs.View.{Rec}
use Rattle.sd_page.specs.Page.{Page}
use Rattle.sd_chain.specs.Storage.{Sound, Storage, chain, newest}
use Rattle.sd_chain.specs.Pages.{redo, replay}
use Rattle.sd_chain.specs.Records.{Each}
use Rattle.sd_chain.proofs.Chains.{replay_rises}
use Rattle.sd_recovered.specs.FirstAbove.{IsFirstAbove, IsLeastAbove}
use Rattle.sd_moves.specs.Opening.{is_lost_in, some_lost}
use Rattle.sd_restart.specs.Reading.{lost_by, rec_at, some_rec}

-- records at or below the floor aren't redone
unmoved : (floor : ℕ) (page : Page) (xs : List Rec) → Each (λ x. x.lsn ≤ floor) xs → replay floor page xs ≡ page
unmoved floor page [] low = refl
unmoved floor page (x ∷ xs) low =
    ap (λ b. replay floor (cond b (redo page x) page) xs) (le-ltb floor x.lsn low.0) ∙ unmoved floor page xs low.1

reached : (top l : ℕ) (xs : List Rec) → Each (λ x. x.lsn ≤ top) xs → list_any (λ x. eqb x.lsn l) xs ≡ true → l ≤ top
reached top l [] low is = absurd (cc)
reached top l (x ∷ xs) low is = ⊎_elim
    (λ e. let own = eqb-true x.lsn l e in let h = low.0 in omega (arith, own, h))
    (λ off. reached top l xs low.1 (other (eqb x.lsn l) (list_any (λ y. eqb y.lsn l) xs) off is))
    (cases_Bool (eqb x.lsn l))
  where
    other : (a b : Bool) → a ≡ false → (a || b) ≡ true → b ≡ true
    other true b off e = absurd (cc)
    other false b off e = e

module _ (img : Storage) (p : ℕ) where
  old : Each (λ x. x.lsn ≤ (img.disk p).lsn) (chain img p) → ltb (img.disk p).lsn (newest img p).lsn ≡ false
  unfolding newest
  old low =
      let same : (newest img p).lsn ≡ (img.disk p).lsn = ap (λ (x : Page). x.lsn) (unmoved (img.disk p).lsn (img.disk p) (chain img p) low) in
      le-ltb (img.disk p).lsn (newest img p).lsn (omega (arith, same))

  reaches : Sound img → Each (λ x. x.lsn ≤ (newest img p).lsn) (chain img p)
  unfolding newest
  reaches sound = (replay_rises (img.disk p).lsn (img.disk p) (chain img p) (omega arith) (sound.pages p)).1

  newer : Sound img → (l : ℕ) → IsLeastAbove (chain img p) (img.disk p).lsn l → ltb (img.disk p).lsn (newest img p).lsn ≡ true
  newer sound l is =
      let high = reached (newest img p).lsn l (chain img p) (reaches sound) is.there in
      let above = is.above in
      lt-ltb (img.disk p).lsn (newest img p).lsn (omega (arith, high, above))

  above-disk : Sound img → (rec : Option ℕ) → IsFirstAbove (chain img p) (img.disk p).lsn rec
      → ltb (img.disk p).lsn (newest img p).lsn ≡ is_some rec
  above-disk sound None is = old is
  above-disk sound (Some l) is = newer sound l is

  pub lost-is : Sound img → p < 1024 → (rec : Option ℕ) → IsFirstAbove (chain img p) (img.disk p).lsn rec → is_lost_in img p ≡ is_some rec
  lost-is sound lt rec is = ap (λ b. b && ltb (img.disk p).lsn (newest img p).lsn) (lt-ltb p 1024 lt) ∙ above-disk sound rec is

-- ---- a list with the RecLSN of each page

pub rec-past : (recs : List (Option ℕ)) (p : ℕ) → length recs ≤ p → rec_at recs p ≡ None
rec-past recs p past = ap (λ (o : Option (Option ℕ)). unwrap_or o None) (slice_get_past recs p past)

swap : (a b : Bool) → (a || b) ≡ (b || a)
swap true true = refl
swap true false = refl
swap false true = refl
swap false false = refl

some-front : (img : Storage) (recs : List (Option ℕ)) (n : ℕ) → n ≤ length recs → ((p : ℕ) → p < length recs → is_lost_in img p ≡ lost_by recs p)
    → list_any is_some (take n recs) ≡ some_lost img n
some-front img recs zero le each = refl
some-front img recs (suc n) le each =
    (let e : suc n ≡ n + 1 = omega arith in ap (λ k. list_any is_some (take k recs)) e)
    ∙ list_any_more is_some recs n None (omega arith)
    ∙ ap₂ (λ a b. a || b) (some-front img recs n (omega arith) each)
    (ap is_some (sym (unwrap_or-slice_get recs n None)) ∙ sym (each n (omega arith)))
    ∙ swap (some_lost img n) (is_lost_in img n)

-- some page is lost exactly where one has a RecLSN
pub some-lost : (img : Storage) (recs : List (Option ℕ)) → length recs ≡ 1024 → ((p : ℕ) → p < 1024 → is_lost_in img p ≡ lost_by recs p)
    → some_rec recs ≡ some_lost img 1024
some-lost img recs len each =
    ap (list_any is_some) (sym (take-length recs) ∙ ap (λ n. take n recs) len)
    ∙ some-front img recs 1024 (omega (arith, len)) (λ p lt. each p (omega (arith, lt, len)))
