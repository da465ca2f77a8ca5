-- The first change that doesn't fit is that of the first page whose chain doesn't. It serves the goals of merging.rt.
use Rattle.std.proofs.Common.{◌≡◌, ⊎_elim, ℕ, ◌+◌, ◌<◌, ◌≤◌, List, length, take, get_or, sym, ap, ◌∙◌, subst, arith}
use Rattle.std.specs.Prelude.{Some, filter, slice_get}
use Rattle.std.specs.List.Sorted.{IsNonDecreasingBy}
use Rattle.std.proofs.lemmas.Bool.{cases_lt}
use Rattle.std.proofs.lemmas.List.Elements.{All-get_or}
use Rattle.std.proofs.lemmas.Option.{get_or_from_slice_get, same_Some, slice_get_within}
use Rattle.sd_page.specs.Page.{Page}
use Rattle.sd_log.specs.Logs.{LogState, log_in}
use Rattle.sd_chain.specs.Bytes.{disk_page}
use Rattle.sd_chain.specs.Storage.{all_of, chain, sorted}
use Rattle.sd_chain.specs.Pages.{FitAll, FitsPage, replay}
use Rattle.sd_chain.specs.Records.{of_page}
use Rattle.sd_redo.specs.declared.change.Change.{Change}
use Rattle.sd_redo.specs.Changes.{AllStand, AreChanges, LsnsRise, StandsIn, chain_of, redone_of}
use Rattle.sd_recovered.specs.Misfits.{ChainMisfit, FirstMisfit}
use Rattle.sd_recovered.specs.ReadPages.{ChainFits, image_of}
use Rattle.sd_recovered.specs.Redone.{FitOn, MisfitsAt}
use Rattle.sd_recovered.proofs.Newest.{chain_is}
use Rattle.sd_recovered.proofs.RedoSteps.{chain_parts, lower_chain}

-- what is known of all changes
pub record KnownAll (bytes : List ℕ) (logs : List LogState) (cs : List Change) (disk : List Page) : Type 0 where
  pub are : AreChanges cs
  pub stand : AllStand logs cs
  pub rises : IsNonDecreasingBy (λ c. c.page) cs
  pub chains : (p : ℕ) → chain_of p cs ≡ sorted (filter (of_page p) (all_of (log_in logs) 9))
  pub images : (p : ℕ) → p < 1024 → slice_get disk p ≡ Some (disk_page bytes p)

module _ (bytes : List ℕ) (logs : List LogState) (cs : List Change) (disk : List Page) (dev at : ℕ)
    (known : KnownAll bytes logs cs disk) (m : MisfitsAt cs disk dev at) where
  chain_there : (p : ℕ) → chain (image_of bytes logs) p ≡ chain_of p cs
  chain_there p = chain_is bytes logs p ∙ sym (known.chains p)

  front_fits : (p : ℕ) → p < 1024 → FitAll (disk_page bytes p).lsn (disk_page bytes p) (chain_of p (take m.index cs))
  front_fits p few =
      let on : FitOn p (take m.index cs) disk = m.front p few in
      let same : on.page ≡ disk_page bytes p = same_Some on.page (disk_page bytes p) (sym on.before ∙ known.images p few) in
      subst (λ (q : Page). FitAll q.lsn q (chain_of p (take m.index cs))) same on.fit

  lower_fits : (q : ℕ) → q < m.change.page → ChainFits (image_of bytes logs) q
  lower_fits q lt =
      subst (FitAll (disk_page bytes q).lsn (disk_page bytes q))
      (sym (chain_there q ∙ lower_chain cs m.index m.change q known.are known.rises m.there lt)) (front_fits q (omega (arith, m.few)))

  misfit_here : ChainMisfit (image_of bytes logs) logs m.change.page dev at
  misfit_here =
      let p : ℕ = m.change.page in
      let d : Page = disk_page bytes p in
      let front = chain_of p (take m.index cs) in
      let same : m.page ≡ d = same_Some m.page d (sym m.before ∙ known.images p m.few) in
      let bad : (d.lsn < (redone_of m.change).lsn → FitsPage (replay d.lsn d front) (redone_of m.change)) → ⊥ =
      subst (λ (q : Page). (q.lsn < (redone_of m.change).lsn → FitsPage (replay q.lsn q front) (redone_of m.change)) → ⊥) same m.misfit in
      let lt : m.index < length cs = slice_get_within cs m.index m.change m.there in
      let is : get_or cs m.index m.change ≡ m.change = get_or_from_slice_get cs m.index m.change m.change m.there in
      let P : Change → Type 0 = λ c. StandsIn logs c.dev c.found.now in record {
        found = m.change.found.now;
        stands = subst (λ (n : ℕ). StandsIn logs n m.change.found.now) (sym m.dev_is)
            (subst P is (All-get_or P cs m.index m.change lt known.stand));
        at_is = m.at_is;
        before = front;
        behind = _;
        parts = chain_there p ∙ chain_parts cs m.index m.change known.are m.there;
        fits = front_fits p m.few;
        above = ⊎_elim (λ (up : d.lsn < (redone_of m.change).lsn). up)
            (λ (down : (redone_of m.change).lsn ≤ d.lsn). absurd (bad (λ up. absurd (omega arith))))
            (cases_lt d.lsn (redone_of m.change).lsn);
        misfit = λ fit. bad (λ up. fit);
      }

  pub first_misfit : FirstMisfit (image_of bytes logs) logs dev at
  first_misfit = record { page = m.change.page; few = m.few; before = lower_fits; here = misfit_here }

-- the same of what calls answer
pub known_all : (bytes : List ℕ) (logs : List LogState) (cs all : List Change) (disk items : List Page) → disk ≡ items
    → ((p : ℕ) → p < 1024 → slice_get items p ≡ Some (disk_page bytes p)) → cs ≡ all → length logs ≡ 8 → LsnsRise logs
    → AreChanges all → AllStand logs all → IsNonDecreasingBy (λ c. c.page) all
    → (LsnsRise logs → (p : ℕ) → chain_of p all ≡ sorted (filter (of_page p) (all_of (log_in logs) (length logs + 1))))
    → KnownAll bytes logs cs disk
known_all bytes logs cs all disk items e images f eight rise are stand rises chains =
    let nine : length logs + 1 ≡ 9 = omega arith in record {
      are = subst AreChanges (sym f) are;
      stand = subst (AllStand logs) (sym f) stand;
      rises = subst (IsNonDecreasingBy (λ c. c.page)) (sym f) rises;
      chains = λ p. ap (chain_of p) f
          ∙ subst (λ (n : ℕ). chain_of p all ≡ sorted (filter (of_page p) (all_of (log_in logs) n))) nine (chains rise p);
      images = λ p few. ap (λ l. slice_get l p) e ∙ images p few;
    }
