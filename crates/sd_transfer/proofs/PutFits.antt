-- A page is put, or its put fails: how a complex goes on fitting. For the calls that write pages.
use Rattle.std.proofs.Common.{ℕ, ◌≤◌, Bool, true, false, cond, max, refl, sym, ap, ◌∙◌, subst, arith}
use Rattle.std.proofs.lemmas.List.{get_or-set_other}
use Rattle.sd_page.specs.Page.{Page}
use Rattle.sd_pagelock.specs.Directory.{DirectoryState}
use Rattle.sd_rig.specs.Devices as rig
use Rattle.sd_txn.specs.Owing.{owed_of}
use Rattle.sd_chain.specs.Images.{all_kept}
use Rattle.sd_moves.specs.Putting.{SameVersions, with_loose_disk}
use Rattle.sd_moves.proofs.FallBounds.{sum-less}
use Rattle.sd_chain.specs.Logs.{Outcomes}
use Rattle.sd_world.specs.Bounds.{Bounds}
use Rattle.sd_world.specs.Pages.{Pages}
use Rattle.sd_world.specs.Serving.{Core}
use Rattle.sd_model.specs.State.{State}
use Rattle.sd_state.specs.Forcing.{KeepMasters}
use Rattle.sd_state.specs.Good.{Good}
use Rattle.sd_state.specs.Parts.{Parts, owed_at, status_at, txns_at}
use Rattle.sd_state.specs.Sums.{great_of, owed_in_all, owes_most}
use Rattle.sd_state.specs.Tables.{tells_log}
use Rattle.sd_state.specs.Values.{Pending}
use Rattle.sd_fits.specs.Fits.{AreAtLeast, AreWithin, Fits, FitsBounds, FitsDoubts, FitsPages, capacities}
use Rattle.sd_fits.proofs.Doubts.{doubts-kept, same-doubts}
use Rattle.sd_fits.proofs.Forcing.{masters-left, no-more}

-- Device 0 reads otherwise, with the same newest versions, and is settled or not; the directory is this one.
module _ (loose : Bool) (places : DirectoryState Page) (seen seen' : rig.DeviceImages) (leaves leaves' : Outcomes) (c : Parts)
    (versions : SameVersions seen seen' c) where
  abbrev there : Parts
  there = record (with_loose_disk loose c) { directory = places }

  -- pages that the complex fits with that directory it fits then
  pub put-pages : (w : Pages) → FitsPages seen leaves (record c { pools = c.pools; directory = places }) w
      → FitsPages seen' leaves' there w
  put-pages w f = record {
    frames = f.frames;
    entry = f.entry;
    asks = f.asks;
    number = λ q found. f.number q found ∙ sym (ap (λ (x : Page). x.lsn) (versions (λ j. false) all_kept q));
    begun = f.begun;
  }

  owes-same : (j : ℕ) → 1 ≤ j → owes_most there j ≤ owes_most c j
  owes-same j low = subst
      (λ (b : Bool). cond b (owed_at c j) (cond (tells_log (status_at c j)) (max (owed_at c j) (owed_of (txns_at c j)))
      (owed_at c j))
      ≤ owes_most c j)
      (sym (get_or-set_other c.loose 0 j loose true (omega (arith, low)))) (omega arith)

  -- no sum grows
  pub put-bounds : KeepMasters leaves leaves' → (b : Bounds) → FitsBounds seen leaves c b → FitsBounds seen' leaves' there b
  put-bounds kept b f = record {
    slots = λ moved keeps p. subst (λ (x : Page). AreWithin (capacities x) (b.slots p)) (sym (versions moved keeps p))
        (f.slots moved keeps p);
    least = λ moved keeps p. subst (λ (x : Page). AreAtLeast (capacities x) (b.least p)) (sym (versions moved keeps p))
        (f.least moved keeps p);
    reach = f.reach;
    lsns = no-more (great_of c) (owed_in_all there) (owed_in_all c) b.lsns
        (sum-less (owes_most there) (owes_most c) 8 (λ j lo hi. owes-same j lo)) f.lsns;
    masters = f.masters;
    left_masters = masters-left leaves leaves' kept b.masters f.left_masters;
  }

  pub put-doubts : (s : State) → FitsDoubts seen c s → FitsDoubts seen' there s
  put-doubts s d = doubts-kept seen seen' c there s s d (same-doubts s) (λ keeps. keeps) (λ moved keeps j. refl) versions

  -- where it is good then, it fits the world with these pages and sums
  pub put-fits : KeepMasters leaves leaves' → (w : Core) → Fits seen leaves c w → (pages : Pages) (sums : Bounds)
      → Good seen' leaves' Pending.Idle there w.scene.state
      → FitsPages seen leaves (record c { pools = c.pools; directory = places }) pages → FitsBounds seen leaves c sums
      → Fits seen' leaves' there (record { scene = w.scene; pages = pages; bounds = sums })
  put-fits kept w f pages sums good fit b = record {
    good = good;
    idle = f.idle;
    rolling = f.rolling;
    waits = f.waits;
    waiting = f.waiting;
    put = f.put;
    pages = put-pages pages fit;
    bounds = put-bounds kept sums b;
    doubts = put-doubts w.scene.state f.doubts;
  }
