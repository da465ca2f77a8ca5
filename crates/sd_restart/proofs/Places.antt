-- The page directory once so many pages are looked at: for the goals of places_of.
use Rattle.std.proofs.Common.{◌≡◌, ◌≢◌, ⊎_elim, ℕ, ◌+◌, ◌<◌, ◌≤◌, List, [], length, take, Option, None, Some, sym, ap, ◌∙◌, subst, arith}
use Rattle.std.specs.Prelude.{is_some, slice_get, unwrap_or}
use Rattle.std.specs.Global.{Box}
use Rattle.std.proofs.Math.Seq.{take-length}
use Rattle.std.proofs.lemmas.Bool.{cases_eq, cases_lt}
use Rattle.std.proofs.lemmas.List.{length-take-le}
use Rattle.std.proofs.lemmas.Option.{slice_get_past}
use Rattle.sd_base.proofs.Lists.{slice_get-take}
use Rattle.sd_page.specs.Page.{Page}
use Rattle.sd_pagelock.specs.Directory.{DirectoryState, asks_at, entry_at, moving_image_at, rec_lsn_at}
use Rattle.sd_pagelock.specs.Rows.{nowhere}
use Rattle.sd_restart.specs.Reading.{lost_by, rec_at}

-- each of these pages that has a RecLSN is lost, and each other page is free
pub record IsPlaced (d : DirectoryState (Box Page)) (recs : List (Option ℕ)) : Type 0 where
  pub entries : (p : ℕ) → entry_at d p ≡ nowhere (lost_by recs p)
  pub marks : (p : ℕ) → rec_lsn_at d p ≡ rec_at recs p
  pub still : (p : ℕ) → moving_image_at d p ≡ None
  pub unasked : (p : ℕ) → asks_at d p ≡ []

rec-within : (recs : List (Option ℕ)) (n p : ℕ) → p < n → rec_at (take n recs) p ≡ rec_at recs p
rec-within recs n p lt = ap (λ (o : Option (Option ℕ)). unwrap_or o None) (slice_get-take recs n p lt)

rec-none : (recs : List (Option ℕ)) (n p : ℕ) → n ≤ length recs → n ≤ p → rec_at (take n recs) p ≡ None
rec-none recs n p le past =
    ap (λ (o : Option (Option ℕ)). unwrap_or o None)
    (slice_get_past (take n recs) p (let len = length-take-le n recs le in omega (arith, len, past)))

-- the next page isn't looked at yet
pub rec-next : (recs : List (Option ℕ)) (k : ℕ) → k ≤ length recs → rec_at (take k recs) k ≡ None
rec-next recs k le = rec-none recs k k le (omega arith)

rec-others : (recs : List (Option ℕ)) (k q : ℕ) → k < length recs → q ≢ k → rec_at (take (k + 1) recs) q ≡ rec_at (take k recs) q
rec-others recs k q lt ne = ⊎_elim
    (λ low. rec-within recs (k + 1) q (omega (arith, low)) ∙ sym (rec-within recs k q low))
    (λ high. rec-none recs (k + 1) q (omega (arith, lt)) (omega (arith, high, ne)) ∙ sym (rec-none recs k q (omega (arith, lt)) high))
    (cases_lt q k)

pub placed_more : (recs : List (Option ℕ)) (k p : ℕ) (rec : Option ℕ) (d d' : DirectoryState (Box Page)) → IsPlaced d (take k recs)
    → p ≡ k → slice_get recs k ≡ Some rec
    → k < length recs
    → entry_at d' p ≡ nowhere (is_some rec) → rec_lsn_at d' p ≡ rec
    → ((q : ℕ) → moving_image_at d' q ≡ moving_image_at d q) → ((q : ℕ) → asks_at d' q ≡ asks_at d q)
    → ((q : ℕ) → q ≢ p → entry_at d' q ≡ entry_at d q) → ((q : ℕ) → q ≢ p → rec_lsn_at d' q ≡ rec_lsn_at d q)
    → IsPlaced d' (take (k + 1) recs)
placed_more recs k p rec d d' was at there lt here rec_here images asks others other_recs = record {
  entries = λ q. ⊎_elim
      (λ e. ap (entry_at d') e ∙ here ∙ ap (λ o. nowhere (is_some o)) (sym (now q e)))
      (λ ne. others q ne ∙ was.entries q ∙ ap (λ o. nowhere (is_some o)) (sym (rec-others recs k q lt (λ e. ne (e ∙ sym at)))))
      (cases_eq q p);
  marks = λ q. ⊎_elim
      (λ e. ap (rec_lsn_at d') e ∙ rec_here ∙ sym (now q e))
      (λ ne. other_recs q ne ∙ was.marks q ∙ sym (rec-others recs k q lt (λ e. ne (e ∙ sym at))))
      (cases_eq q p);
  still = λ q. images q ∙ was.still q;
  unasked = λ q. asks q ∙ was.unasked q;
}
  where
    now : (q : ℕ) → q ≡ p → rec_at (take (k + 1) recs) q ≡ rec
    now q e = rec-within recs (k + 1) q (omega (arith, e, at))
        ∙ ap (λ (o : Option (Option ℕ)). unwrap_or o None) (ap (slice_get recs) (e ∙ at) ∙ there)

pub placed_all : (recs : List (Option ℕ)) (k : ℕ) (d : DirectoryState (Box Page)) → IsPlaced d (take k recs) → k ≤ length recs → length recs ≤ k
    → IsPlaced d recs
placed_all recs k d all low high =
    let whole : k ≡ length recs = omega (arith, low, high) in
    subst (IsPlaced d) (ap (λ n. take n recs) whole ∙ take-length recs) all
