-- The changes of a page redone on its disk image give its newest version. It serves the goals of merging.rt.
use Rattle.std.proofs.Common.{◌≡◌, ℕ, ◌+◌, List, ◌++◌, Option, Some, length, take, drop, refl, sym, ap, ◌∙◌, subst, arith}
use Rattle.std.specs.Prelude.{filter, slice_get}
use Rattle.std.proofs.lemmas.List.{take-append-le, take_all}
use Rattle.std.proofs.lemmas.Option.{same_Some}
use Rattle.sd_logrec.specs.View.{Rec}
use Rattle.sd_page.specs.Page.{Page}
use Rattle.sd_log.specs.Logs.{LogState, log_in}
use Rattle.sd_chain.specs.Bytes.{disk_page}
use Rattle.sd_chain.specs.Storage.{all_of, chain, newest, sorted}
use Rattle.sd_chain.specs.Laws.{MergedFit, MergedReplay}
use Rattle.sd_chain.specs.Pages.{FitAll, replay}
use Rattle.sd_chain.specs.Records.{of_page}
use Rattle.sd_chain.proofs.Ties.{slow_of}
use Rattle.sd_redo.specs.declared.change.Change.{Change}
use Rattle.sd_redo.specs.Changes.{IsMerged, chain_of}
use Rattle.sd_recovered.specs.FirstAbove.{IsFirstAbove}
use Rattle.sd_recovered.specs.ReadPages.{ChainFits, image_of}
use Rattle.sd_recovered.specs.Redone.{IsMisfit, IsNoted, IsRedone, first_above}
use Rattle.sd_recovered.proofs.Noted.{first_sorted}

-- what is known of the disk image and the changes of a page
pub record Known (bytes : List ℕ) (logs : List LogState) (p : ℕ) (cs : List Change) (disk : List Page) : Type 0 where
  pub fit : MergedFit
  pub replay : MergedReplay
  pub image : slice_get disk p ≡ Some (disk_page bytes p)
  pub merged : IsMerged p (log_in logs) 9 (chain_of p cs)

page_is : (bytes : List ℕ) (logs : List LogState) (p : ℕ) (cs : List Change) (disk : List Page) (page : Page)
    → Known bytes logs p cs disk → slice_get disk p ≡ Some page
    → page ≡ disk_page bytes p
page_is bytes logs p cs disk page known e = same_Some page (disk_page bytes p) (sym e ∙ known.image)

newest_is : (bytes : List ℕ) (logs : List LogState) (p : ℕ) → newest (image_of bytes logs) p
    ≡ replay (disk_page bytes p).lsn (disk_page bytes p) (sorted (filter (of_page p) (all_of (log_in logs) 9)))
unfolding newest chain
newest_is bytes logs p = refl

pub chain_is : (bytes : List ℕ) (logs : List LogState) (p : ℕ)
    → chain (image_of bytes logs) p ≡ sorted (filter (of_page p) (all_of (log_in logs) 9))
unfolding chain
chain_is bytes logs p = refl

pub redone_newest : (bytes : List ℕ) (logs : List LogState) (p : ℕ) (cs : List Change) (disk new : List Page)
    → Known bytes logs p cs disk → IsRedone p cs disk new
    → slice_get new p ≡ Some (newest (image_of bytes logs) p)
redone_newest bytes logs p cs disk new known r =
    let recs : List Rec = filter (of_page p) (all_of (log_in logs) 9) in
    let same = page_is bytes logs p cs disk r.page known r.before in
    let fit : FitAll (disk_page bytes p).lsn (disk_page bytes p) (chain_of p cs) = subst
    (λ q. FitAll q.lsn q (chain_of p cs)) same r.fit in
    r.after ∙ ap (λ q. Some (replay q.lsn q (chain_of p cs))) same
    ∙ ap (λ q. Some q) (known.replay (disk_page bytes p).lsn (disk_page bytes p) recs
    (chain_of p cs) known.merged.same known.merged.rises fit)
    ∙ ap (λ q. Some q) (sym (newest_is bytes logs p))

-- and the LSN noted of it is that of the first record above its disk image
pub noted_first : (bytes : List ℕ) (logs : List LogState) (p : ℕ) (cs : List Change) (disk : List Page) (firsts : List (Option ℕ))
    → Known bytes logs p cs disk → IsNoted p cs disk firsts
    → (rec : Option ℕ) × (slice_get firsts p ≡ Some rec) × IsFirstAbove (chain (image_of bytes logs) p) (disk_page bytes p).lsn rec
noted_first bytes logs p cs disk firsts known n =
    let floor : ℕ = (disk_page bytes p).lsn in
    let same : n.page ≡ disk_page bytes p = page_is bytes logs p cs disk n.page known n.before in (
      first_above floor (chain_of p cs),
      n.first ∙ ap (λ (q : Page). Some (first_above q.lsn (chain_of p cs))) same,
      subst (λ (l : List Rec). IsFirstAbove l floor (first_above floor (chain_of p cs))) (sym (chain_is bytes logs p))
          (first_sorted (filter (of_page p) (all_of (log_in logs) 9)) (chain_of p cs) known.merged.same floor
          (slow_of (chain_of p cs) known.merged.rises)),
    )

pub redone_fits : (bytes : List ℕ) (logs : List LogState) (p : ℕ) (cs : List Change) (disk new : List Page)
    → Known bytes logs p cs disk → IsRedone p cs disk new
    → ChainFits (image_of bytes logs) p
redone_fits bytes logs p cs disk new known r =
    let recs : List Rec = filter (of_page p) (all_of (log_in logs) 9) in
    let same = page_is bytes logs p cs disk r.page known r.before in
    let fit : FitAll (disk_page bytes p).lsn (disk_page bytes p) (chain_of p cs) = subst
    (λ q. FitAll q.lsn q (chain_of p cs)) same r.fit in
    subst (FitAll (disk_page bytes p).lsn (disk_page bytes p)) (sym (chain_is bytes logs p))
    ((known.fit (disk_page bytes p).lsn (disk_page bytes p) recs (chain_of p cs) known.merged.same known.merged.rises).0 fit)

pub misfit_is : (bytes : List ℕ) (logs : List LogState) (p : ℕ) (cs : List Change) (disk : List Page) → Known bytes logs p cs disk
    → IsMisfit p cs disk
    → ChainFits (image_of bytes logs) p → ⊥
misfit_is bytes logs p cs disk known m fits =
    let recs : List Rec = filter (of_page p) (all_of (log_in logs) 9) in
    let same = page_is bytes logs p cs disk m.page known m.before in
    let fit : FitAll (disk_page bytes p).lsn (disk_page bytes p) (sorted recs) = subst
    (FitAll (disk_page bytes p).lsn (disk_page bytes p)) (chain_is bytes logs p) fits in
    m.misfit (subst (λ q. FitAll q.lsn q (chain_of p cs)) (sym same)
    ((known.fit (disk_page bytes p).lsn (disk_page bytes p) recs (chain_of p cs) known.merged.same known.merged.rises).1 fit))

-- the same of what calls answer
pub known_of : (bytes : List ℕ) (logs : List LogState) (p : ℕ) (cs all : List Change) (disk items : List Page) → MergedFit → MergedReplay
    → disk ≡ items → slice_get items p ≡ Some (disk_page bytes p) → cs ≡ all → length logs ≡ 8
    → IsMerged p (log_in logs) (length logs + 1) (chain_of p all)
    → Known bytes logs p cs disk
known_of bytes logs p cs all disk items fit replays e image f eight merged =
    let nine : length logs + 1 ≡ 9 = omega arith in record {
      fit = fit;
      replay = replays;
      image = ap (λ l. slice_get l p) e ∙ image;
      merged = subst (λ l. IsMerged p (log_in logs) 9 (chain_of p l)) (sym f)
          (subst (λ n. IsMerged p (log_in logs) n (chain_of p all)) nine merged);
    }

-- pages written back into their Vec
pub written_back : (n : ℕ) (xs ys : List Page) → length xs ≡ n → take n (xs ++ drop (length xs) ys) ≡ xs
written_back n xs ys len = take-append-le n xs (drop (length xs) ys) (omega arith) ∙ take_all n xs (omega arith)
