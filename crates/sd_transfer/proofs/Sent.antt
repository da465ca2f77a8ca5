-- What a page leaves behind that sets out from its giver: for the goals of giving.rt.
use Rattle.std.proofs.Common.{◌≡◌, ◌-◌, inl, inr, ℕ, ◌≤◌, true, refl, ap, ◌∙◌, slice_set, eq-eqb}
use Rattle.std.specs.Prelude.{None, is_some}
use Rattle.sd_base.specs.declared.place.Mode.{Mode}
use Rattle.sd_base.specs.declared.place.Mode.TheVariants as modes
use Rattle.sd_fits.specs.Resting.{LeavesRest}
use Rattle.sd_fits.specs.Untouched.{IsUntouched, none_of, only}
use Rattle.sd_moves.specs.Passing.{may_set_out, set_out, with_sent}
use Rattle.sd_pagelock.specs.Directory.{entry_at, rec_lsn_at}
use Rattle.sd_pagelock.specs.Moves.{IsMove}
use Rattle.sd_pagelock.specs.Places.{Formed, PageEntry, changed}
use Rattle.sd_pagelock.proofs.Losses.{changed-given}
use Rattle.sd_pool.specs.Buffers.{without_page}
use Rattle.sd_state.specs.Locking.{IsSet}
use Rattle.sd_state.specs.Parts.{Parts, pool_at}
use Rattle.sd_transfer.specs.Forcing.{OnlyLogs}
use Rattle.sd_transfer.specs.Giving.{MayLeave}
use Rattle.sd_transfer.specs.Paging.{OnlyPages}
use Rattle.sd_transfer.proofs.Rested.{moved-lost, pages-rest}
use Rattle.sd_transfer.proofs.Touched.{listed-untouched, placed-untouched, set-recs}

module _ (mode : Mode) (p j to : ℕ) (old new : Parts) (low : 1 ≤ j) (is : new ≡ with_sent mode p j new.directory old)
    (row : may_set_out mode to (entry_at old.directory p) ≡ true)
    (set : IsSet p (set_out mode to (entry_at old.directory p)) None old.directory new.directory) where
  abbrev from : PageEntry
  from = entry_at old.directory p

  -- its copy may have gone,
  pub sent-leaves : MayLeave j p old new
  sent-leaves = by-mode mode is
    where
      by-mode : (m : Mode) → new ≡ with_sent m p j new.directory old → MayLeave j p old new
      by-mode modes.Shared so = inl (ap (λ (k : Parts). k.pools) so)
      by-mode modes.Excl so = inr (ap (λ (k : Parts). k.pools) so)

  -- and nothing else that no world has;
  pub sent-untouched : is_some (rec_lsn_at old.directory p) ≡ changed from → IsUntouched (only j) none_of old new
  sent-untouched marks = by-mode mode is (set-recs p (set_out mode to from) old.directory new.directory set marks (changes mode))
    where
      changes : (m : Mode) → changed (set_out m to from) ≡ changed from
      changes modes.Shared = changed-given to from
      changes modes.Excl = refl

      by-mode : (m : Mode) → new ≡ with_sent m p j new.directory old
          → ((q : ℕ) → rec_lsn_at new.directory q ≡ rec_lsn_at old.directory q) → IsUntouched (only j) none_of old new
      by-mode modes.Shared so recs = listed-untouched (only j) old new so recs
      by-mode modes.Excl so recs = placed-untouched (only j) j (without_page (pool_at old j) p) old new low (eq-eqb j j refl) so recs

  -- and no page is lost.
  pub sent-rests : Formed from → OnlyPages old new → LeavesRest old new
  sent-rests formed pages = pages-rest old new pages
      (moved-lost p (set_out mode to from) old.directory new.directory set formed (move mode row))
    where
      move : (m : Mode) → may_set_out m to from ≡ true → IsMove from (set_out m to from)
      move modes.Shared may = IsMove.share to may refl
      move modes.Excl may = IsMove.yield to may refl

-- a copy that may have gone behind a force may have gone
pub leaves-behind : (j p : ℕ) (old mid new : Parts) → OnlyLogs old mid → MayLeave j p mid new → MayLeave j p old new
leaves-behind j p old mid new logs (inl same) = inl (same ∙ ap (λ (k : Parts). k.pools) logs)
leaves-behind j p old mid new logs (inr gone) =
    inr (gone ∙ ap (λ (k : Parts). slice_set k.pools (j - 1) (without_page (pool_at k j) p)) logs)
