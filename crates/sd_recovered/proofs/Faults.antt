-- Behind sound logs, where the first check that fails is told. It serves the goals of reading.rt.
use Rattle.std.proofs.Common.{◌≡◌, inl, inr, ℕ, zero, suc, ◌+◌, ◌-◌, ◌<◌, ◌≤◌, Bool, List, ◌∷◌, Option, Some, length, slice_get, sym, ap, ◌∙◌, subst, arith}
use Rattle.std.specs.Prelude.{All, IsTrue, is_some}
use Rattle.std.proofs.lemmas.Option.{slice_get_within}
use Rattle.sd_base.specs.Twin.{chosen_body}
use Rattle.sd_logrec.specs.Kept.{kept, master}
use Rattle.sd_page.specs.Page.{Page}
use Rattle.sd_log.specs.declared.placed.Placed.{Placed}
use Rattle.sd_log.specs.Logs.{LogState, flats, scanned}
use Rattle.sd_recovered.specs.declared.losers.Loser.{Loser}
use Rattle.sd_chain.specs.Bytes.{stable}
use Rattle.sd_chain.specs.Checks.{RoomIsLeft, gate_of, past_of, placed_of, records_in}
use Rattle.sd_chain.specs.Faults as faults
use Rattle.sd_chain.specs.Faults.{ChainsAreSound, FailsInChain, FailsInRoom, FailsInStack, FailsInTwin, LogsAreSound}
use Rattle.sd_chain.specs.Storage.{Storage, chain, newest}
use Rattle.sd_chain.specs.Pages.{FitAll}
use Rattle.sd_redo.specs.Changes.{LsnsRise, Rises}
use Rattle.sd_recovered.specs.Misfits as newest
use Rattle.sd_recovered.specs.ReadPages.{ChainFits, image_of}
use Rattle.sd_recovered.specs.Stops as undone
use Rattle.sd_recovered.specs.Devices.{devices_of}
use Rattle.sd_recovered.specs.Ends.{EndsFailAt, IsLogLow, IsPageLow, LacksRoom, owed_in}
use Rattle.sd_recovered.specs.Reading.{AreRead}
use Rattle.sd_recovered.proofs.Alike.{chain_alike}
use Rattle.sd_recovered.proofs.Kept.{kept_records}
use Rattle.sd_recovered.proofs.Members.{in_log}
use Rattle.sd_recovered.proofs.Placed.{follow_rises, stands_there}
use Rattle.sd_recovered.proofs.Sound as parts
use Rattle.sd_recovered.proofs.Whole as whole

one_log : {o : Option LogState} {a b : LogState} → o ≡ Some a → o ≡ Some b → a ≡ b
one_log e f = cc

module _ (x : List ℕ) (ds : List (List ℕ)) (logs : List LogState) (losers : List (List Loser)) (eight : length logs ≡ 8)
    (are : AreRead 1 ds logs losers) where
  abbrev img : Storage
  img = stable (devices_of (x ∷ ds))

  pub logs_sound : LogsAreSound (devices_of (x ∷ ds))
  logs_sound j lo hi = record {
    master = parts.masters x ds logs losers eight are j lo hi;
    groups = parts.groups x ds logs losers eight are j lo hi;
    txns = parts.txns x ds logs losers eight are j lo hi;
  }

  -- the log of this index, as it was read
  log_there : (k : ℕ) (log : LogState) → slice_get logs k ≡ Some log → (k < 8) × parts.Here k (devices_of (x ∷ ds) (suc k)) logs
  log_there k log at =
      let lt = slice_get_within logs k log at in
      let few : k < 8 = omega (arith, lt, eight) in
      (few, parts.here x ds logs losers eight are k few)

  pub lsns_rise : LsnsRise logs
  lsns_rise j = in_log Rises logs tt one j
    where
      one : (k : ℕ) (log : LogState) → slice_get logs k ≡ Some log → Rises (flats (scanned log))
      one k log at =
          let h = (log_there k log at).1 in
          let bytes : List ℕ = devices_of (x ∷ ds) (suc k) in
          subst (λ (l : LogState). Rises (flats (scanned l))) (one_log h.log_at at)
          (subst Rises (sym (kept_records bytes h.log h.read.kept_is h.read.no_tail))
          (follow_rises (suc k) (is_some (chosen_body 0 64 bytes)) (master bytes) (past_of (master bytes)) (records_in bytes)
          h.read.groups.follow))

  -- a record of a log in memory stands on the log's device
  placed_there : (k : ℕ) (log : LogState) (index : ℕ) (found : Placed) → slice_get logs k ≡ Some log
      → slice_get (scanned log) index ≡ Some found
      → slice_get (placed_of (kept (devices_of (x ∷ ds) (suc k)))) index ≡ Some (found.place, found.rec)
  placed_there k log index found at there =
      let h = (log_there k log at).1 in
      stands_there (devices_of (x ∷ ds) (suc k)) h.log index found h.read.kept_is h.read.no_tail
      (ap (λ (l : LogState). slice_get (scanned l) index) (one_log h.log_at at) ∙ there)

  placed_on : (dev : ℕ) (log : LogState) (index : ℕ) (found : Placed) → 1 ≤ dev → slice_get logs (dev - 1) ≡ Some log
      → slice_get (scanned log) index ≡ Some found
      → slice_get (placed_of (kept (devices_of (x ∷ ds) dev))) index ≡ Some (found.place, found.rec)
  placed_on zero log index found some at there = absurd (omega (arith, some))
  placed_on (suc k) log index found some at there =
      let back : suc k - 1 ≡ k = omega arith in
      placed_there k log index found (ap (slice_get logs) (sym back) ∙ at) there

  -- 4: twins

  pub in_twin : (dev at : ℕ) → FailsInTwin (λ d. x) dev at → FailsInTwin (devices_of (x ∷ ds)) dev at
  in_twin dev at f = record { data_device = f.data_device; page = f.page; few = f.few; before = f.before; here = f.here }

  -- 5: chains

  same_chain : (p : ℕ) → chain (image_of x logs) p ≡ chain img p
  same_chain = chain_alike x ds logs losers (parts.devices x ds logs losers eight are) are

  chain_sound : (p : ℕ) → ChainFits (image_of x logs) p → faults.ChainIsSound (devices_of (x ∷ ds)) p
  chain_sound p fits = subst (FitAll (img.disk p).lsn (img.disk p)) (same_chain p) fits

  pub chains_fit : ((p : ℕ) → p < 1024 → ChainFits (image_of x logs) p) → ChainsAreSound (devices_of (x ∷ ds))
  chains_fit fit p few = chain_sound p (fit p few)

  pub in_chain : (dev at : ℕ) → newest.FirstMisfit (image_of x logs) logs dev at → FailsInChain (devices_of (x ∷ ds)) dev at
  in_chain dev at m =
      let f = m.here in
      let s = f.stands in
      let lt = slice_get_within logs (dev - 1) s.log s.log_is in record {
        page = m.page;
        few = m.few;
        before = λ p few. chain_sound p (m.before p few);
        here = record {
          index = s.index;
          place = f.found.place;
          rec = f.found.rec;
          some = s.some;
          few = omega (arith, lt, eight, s.some);
          there = placed_on dev s.log s.index f.found s.some s.log_is s.there;
          at_is = f.at_is;
          before = f.before;
          behind = f.behind;
          parts = sym (same_chain m.page) ∙ f.parts;
          fits = f.fits;
          above = f.above;
          misfit = f.misfit;
        };
      }

  -- 6: stacks

  pub in_stack : (dev at place : ℕ) → at ≡ 130 + place → undone.FirstMisfit img logs dev place → FailsInStack (devices_of (x ∷ ds)) dev at
  in_stack dev at place e f =
      let low = f.lowest in record {
        txn = f.txn;
        home = f.home;
        open_ = f.open_;
        before = f.before;
        wrong = f.wrong;
        lowest = record {
          index = low.index;
          place = low.found.place;
          rec = low.found.rec;
          there = placed_on f.txn.inst low.log low.index low.found low.some low.log_is low.there;
          at_is = e ∙ ap (λ (n : ℕ). 130 + n) low.place_is;
          above = low.above;
          parts = low.parts;
        };
      }

  -- 7: room

  module _ (pages : List Page) (newest_is : (p : ℕ) → p < 1024 → slice_get pages p ≡ Some (newest (image_of x logs) p))
      (count : length pages ≡ 1024) (fit : (p : ℕ) → p < 1024 → ChainFits (image_of x logs) p) (low : Bool)
      (low_is : (IsTrue low → All (IsPageLow (owed_in logs)) pages) × (All (IsPageLow (owed_in logs)) pages → IsTrue low)) where
    abbrev gate_on : ℕ → ℕ
    gate_on d = gate_of (kept (devices_of (x ∷ ds) d))

    fits_before : (dev at : ℕ) (f : LacksRoom 1 logs dev at) → IsTrue low → All (IsLogLow (owed_in logs)) logs
        → (j : ℕ) → 1 ≤ j → j < suc f.index → faults.EndsFit j (devices_of (x ∷ ds))
    fits_before dev at f is_low lows zero lo hi = absurd (omega (arith, lo))
    fits_before dev at f is_low lows (suc k) lo hi =
        let lt = slice_get_within logs f.index f.log f.there in record {
          room = parts.room_at x ds logs losers eight are k (omega (arith, hi, lt, eight)) (λ log at. f.before k log (omega (arith, hi)) at);
          lsns = whole.lsns_left x ds logs losers eight are pages newest_is fit (low_is.0 is_low) lows;
        }

    pub in_room : (dev at : ℕ) → EndsFailAt low logs dev at → FailsInRoom (devices_of (x ∷ ds)) dev at
    in_room dev at (inl f) =
        let gate = whole.gate_at x ds logs losers eight are pages newest_is 0 f.first f.there in record {
          some = omega (arith, f.dev_is);
          few = omega (arith, f.dev_is);
          before = λ j lo hi. absurd (omega (arith, lo, hi, f.dev_is));
          wrong = λ ends. f.lack (low_is.1 (whole.low_pages x ds logs losers eight are pages newest_is count ends.lsns))
              (whole.low_logs x ds logs losers eight are pages newest_is ends.lsns);
          at_is = f.at_is ∙ ap (λ (n : ℕ). 130 + n) (sym gate)
              ∙ ap (λ (d : ℕ). 130 + gate_on d) (sym f.dev_is);
        }
    in_room dev at (inr (is_low, lows, f)) =
        let lt = slice_get_within logs f.index f.log f.there in
        let few : f.index < 8 = omega (arith, lt, eight) in
        let next : suc f.index ≡ dev = omega (arith, f.dev_is) in
        let gate = whole.gate_at x ds logs losers eight are pages newest_is f.index f.log f.there in record {
          some = omega (arith, f.dev_is);
          few = omega (arith, f.dev_is, few);
          before = λ j lo hi. fits_before dev at f is_low lows j lo (omega (arith, hi, f.dev_is));
          wrong = λ ends. f.lacks (whole.has_room x ds logs losers eight are pages newest_is f.index f.log f.there
              (subst (λ (d : ℕ). RoomIsLeft d (devices_of (x ∷ ds))) (sym next) ends.room));
          at_is = f.at_is ∙ ap (λ (n : ℕ). 130 + n) (sym gate) ∙ ap (λ (d : ℕ). 130 + gate_on d) next;
        }
