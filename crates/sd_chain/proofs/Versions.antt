-- What the newest versions hang on: tails that have records of the page.
use Rattle.std.proofs.Common.{◌≡◌, ◌≢◌, ◌⊎◌, inl, inr, ⊎_elim, ℕ, ◌≤◌, Bool, true, false, cond, eqb, List, [], ◌∷◌, ◌++◌, refl, sym, ap, ◌∙◌, subst, ne_eqb}
use Rattle.std.specs.Prelude.{filter}
use Rattle.std.proofs.lemmas.Bool.{cases_eq, cases_lt}
use Rattle.std.proofs.lemmas.List.Elements.{filter-append}
use Rattle.sd_logrec.specs.View.{Rec}
use Rattle.sd_page.specs.Page.{Page}
use Rattle.sd_chain.specs.Records.{of_page, Each}
use Rattle.sd_chain.specs.Cuts.{cut}
use Rattle.sd_chain.specs.Images.{Tails, Keeps, all_kept, kept_at, with_disk, Allowed, IsSafe, log, Settled}
use Rattle.sd_chain.specs.Laws.{May}
use Rattle.sd_chain.proofs.Cuts.{newest-by_page, filter_none}
use Rattle.sd_chain.proofs.Above.{records_low}
use Rattle.sd_chain.specs.Coherent.{Quiet}

module _ (tails : Tails) (may : May) (version : Keeps → ℕ → Page) (safe : IsSafe tails may version) (disk : ℕ → Page)
    (reads : Allowed may disk) where
  -- a tail without a record of the page may be kept or not
  pub version-agree : (keeps keeps' : Keeps) (p : ℕ) → ((j : ℕ) → (keeps j ≡ keeps' j) ⊎ Quiet p (tails.tail j))
      → version keeps p ≡ version keeps' p
  version-agree keeps keeps' p agree =
      sym (safe.same disk reads keeps p)
      ∙ newest-by_page p (cut keeps' (with_disk tails disk)) (cut keeps (with_disk tails disk)) each refl
      ∙ safe.same disk reads keeps' p
    where
      none : (b : Bool) (xs : List Rec) → Quiet p xs → filter (of_page p) (cond b xs []) ≡ []
      none true xs q = filter_none p xs q
      none false xs q = refl

      part : Keeps → ℕ → List Rec
      part k j = cond (k j) (tails.tail j) []

      each : (j : ℕ) → filter (of_page p) (tails.base j ++ cond (keeps j) (tails.tail j) [])
          ≡ filter (of_page p) (tails.base j ++ cond (keeps' j) (tails.tail j) [])
      each j = ⊎_elim
          (λ e. ap (λ (b : Bool). filter (of_page p) (tails.base j ++ cond b (tails.tail j) [])) e)
          (λ q. filter-append (of_page p) (tails.base j) (cond (keeps j) (tails.tail j) [])
          ∙ ap (λ (l : List Rec). filter (of_page p) (tails.base j) ++ l)
          (none (keeps j) (tails.tail j) q ∙ sym (none (keeps' j) (tails.tail j) q))
          ∙ sym (filter-append (of_page p) (tails.base j) (cond (keeps' j) (tails.tail j) [])))
          (agree j)

  -- each record of the page is at most its newest version's LSN
  pub low : (p j : ℕ) → Each (λ x. of_page p x ≡ true → x.lsn ≤ (version all_kept p).lsn) (log tails j)
  low p j = ⊎_elim
      (λ lt. subst (λ (v : Page). Each (λ x. of_page p x ≡ true → x.lsn ≤ v.lsn) (log tails j))
      (safe.same disk reads all_kept p)
      (records_low (cut all_kept (with_disk tails disk)) (safe.sound disk reads all_kept) p j lt))
      (λ ge. subst (Each (λ x. of_page p x ≡ true → x.lsn ≤ (version all_kept p).lsn)) (sym (safe.eight j ge)) tt)
      (cases_lt j 9)

  -- with the tail of log i kept for good or dropped, where that is nothing to the page
  pub version-settled : (i : ℕ) (kept : Bool) (p : ℕ) → (kept ≡ true) ⊎ Quiet p (tails.tail i)
      → version (kept_at i kept all_kept) p ≡ version all_kept p
  version-settled i kept p h = version-agree (kept_at i kept all_kept) all_kept p each
    where
      same : (b : Bool) → kept ≡ true → cond b kept true ≡ true
      same true e = e
      same false e = refl

      each : (j : ℕ) → (kept_at i kept all_kept j ≡ all_kept j) ⊎ Quiet p (tails.tail j)
      each j = ⊎_elim
          (λ k. inl (same (eqb j i) k))
          (λ q. ⊎_elim (λ e. inr (subst (λ (k : ℕ). Quiet p (tails.tail k)) (sym e) q))
          (λ ne. inl (ap (λ (b : Bool). cond b kept true) (ne_eqb j i ne))) (cases_eq j i))
          h

-- what holds of each record of a log holds of each that is left of it once it is settled
pub Each-settled : (P : Rec → Type 0) (i : ℕ) (kept : Bool) (old new : Tails) → Settled i kept old new → (j : ℕ)
    → Each P (log old j) → Each P (log new j)
Each-settled P i kept old new s j = ⊎_elim here others (cases_eq j i)
  where
    front : (b : Bool) (xs ys : List Rec) → Each P (xs ++ ys) → Each P ((xs ++ cond b ys []) ++ [])
    front true [] [] a = tt
    front false [] ys a = tt
    front true [] (y ∷ ys) a = (a.0, front true [] ys a.1)
    front b (x ∷ xs) ys a = (a.0, front b xs ys a.1)

    here : j ≡ i → Each P (log old j) → Each P (log new j)
    here e a = subst (λ (k : ℕ). Each P (log new k)) (sym e)
        (subst (λ (l : List Rec). Each P (new.base i ++ l)) (sym s.tail)
        (subst (λ (l : List Rec). Each P (l ++ [])) (sym s.base)
        (front kept (old.base i) (old.tail i) (subst (λ (k : ℕ). Each P (log old k)) e a))))

    others : j ≢ i → Each P (log old j) → Each P (log new j)
    others ne a = subst (λ (l : List Rec). Each P (l ++ new.tail j)) (sym (s.other_bases j ne))
        (subst (λ (l : List Rec). Each P (old.base j ++ l)) (sym (s.other_tails j ne)) a)
