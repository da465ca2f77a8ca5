-- A complex whose transaction tables and record locks alone change: how its pages and sums go on fitting. For the calls of
-- transactions.
use Rattle.std.proofs.Common.{ℕ, ◌+◌, ◌≤◌, List, arith}
use Rattle.sd_reclock.specs.Locks.{LockTable}
use Rattle.sd_rig.specs.Devices as rig
use Rattle.sd_txn.specs.Transactions.{Transactions}
use Rattle.sd_chain.specs.Logs.{Outcomes}
use Rattle.sd_state.specs.Parts.{Parts}
use Rattle.sd_state.specs.Sums.{great_of, owed_in_all, owes_most}
use Rattle.sd_world.specs.Bounds.{Bounds}
use Rattle.sd_world.specs.Pages.{Pages}
use Rattle.sd_moves.proofs.FallBounds.{sum-less}
use Rattle.sd_fits.specs.Fits.{FitsBounds, FitsPages}

module _ (txns : List Transactions) (locks : LockTable) (seen : rig.DeviceImages) (leaves : Outcomes) (c : Parts) where
  abbrev worked : Parts
  worked = record c { txns = txns; locks = locks }

  pub worked-pages : (w : Pages) → FitsPages seen leaves c w → FitsPages seen leaves worked w
  worked-pages w f = record { frames = f.frames; entry = f.entry; asks = f.asks; number = f.number; begun = f.begun }

  -- where no table owes more than it did
  pub worked-bounds : (b : Bounds) → ((j : ℕ) → 1 ≤ j → j ≤ 8 → owes_most worked j ≤ owes_most c j) → FitsBounds seen leaves c b
      → FitsBounds seen leaves worked b
  worked-bounds b owes f = record {
    slots = f.slots;
    least = f.least;
    reach = f.reach;
    lsns = let most : owed_in_all worked ≤ owed_in_all c = sum-less (owes_most worked) (owes_most c) 8 owes in
        let was : great_of c + owed_in_all c ≤ b.lsns = f.lsns in
        few (great_of c) (owed_in_all worked) (owed_in_all c) b.lsns most was;
    masters = f.masters;
    left_masters = f.left_masters;
  }
    where
      few : (g a o n : ℕ) → a ≤ o → g + o ≤ n → g + a ≤ n
      few g a o n le was = omega arith
