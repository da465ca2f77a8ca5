-- The logs in memory and the pages' disk images are what the devices keep. It serves the goals of reading.rt.
use Rattle.std.proofs.Common.{◌≡◌, inl, inr, ⊎_elim, ℕ, zero, suc, ◌<◌, ◌≤◌, true, false, ltb, ◌&&◌, cond, List, [], ◌∷◌, length, refl, sym, ap, ◌∙◌, arith, le-ltb, lt-ltb}
use Rattle.std.specs.Prelude.{Option, unwrap_or, filter}
use Rattle.std.specs.Option.{option_map_or}
use Rattle.std.proofs.lemmas.Bool.{cases_lt}
use Rattle.std.proofs.lemmas.Option.{slice_get_cases, slice_get_past}
use Rattle.sd_logrec.specs.View.{Rec}
use Rattle.sd_logrec.specs.Kept.{kept}
use Rattle.sd_log.specs.Logs.{LogState, flats, log_in, scanned}
use Rattle.sd_recovered.specs.declared.losers.Loser.{Loser}
use Rattle.sd_chain.specs.Records.{of_page}
use Rattle.sd_chain.specs.Bytes.{log_of, records_of, stable}
use Rattle.sd_chain.specs.Storage.{chain, newest, sorted}
use Rattle.sd_chain.specs.Pages.{replay}
use Rattle.sd_chain.proofs.Lists.{all_of-same}
use Rattle.sd_recovered.specs.ReadPages.{image_of}
use Rattle.sd_recovered.specs.Devices.{devices_of}
use Rattle.sd_recovered.specs.Reading.{AreRead}
use Rattle.sd_recovered.proofs.Covers.{as_many, covered}
use Rattle.sd_recovered.proofs.Kept.{kept_flats}

module _ (x : List ℕ) (ds : List (List ℕ)) (logs : List LogState) (losers : List (List Loser)) (eight : length ds ≡ 8)
    (are : AreRead 1 ds logs losers) where
  here : (k : ℕ) → k < 8 → log_of (devices_of (x ∷ ds)) (suc k) ≡ log_in logs (suc k)
  here k lt =
      elim (slice_get_cases ds k).1 [
        | inl found ↦
            let c = covered 1 k ds logs losers found.0 are found.2 in
            let is_kept = kept_flats found.0 c.log c.read.kept_is c.read.no_tail in
            let device : devices_of (x ∷ ds) (suc k) ≡ found.0 = ap (λ (o : Option (List ℕ)). unwrap_or o []) found.2 in
            let inside : (ltb 0 (suc k) && ltb (suc k) 9) ≡ true =
            ap (λ b. b && ltb (suc k) 9) (lt-ltb 0 (suc k) (omega arith)) ∙ lt-ltb (suc k) 9 (omega (arith, lt)) in
            ap (λ b. cond {A = List Rec} b (records_of (kept (devices_of (x ∷ ds) (suc k)))) []) inside
            ∙ ap (λ (d : List ℕ). records_of (kept d)) device
            ∙ sym is_kept
            ∙ sym (ap (λ (o : Option LogState). option_map_or (λ log. flats (scanned log)) o []) c.log_at)
        | inr past ↦ absurd (omega (arith, lt, past.0, eight))
      ]

  beyond : (k : ℕ) → 8 ≤ k → log_of (devices_of (x ∷ ds)) (suc k) ≡ log_in logs (suc k)
  beyond k le =
      let out : (ltb 0 (suc k) && ltb (suc k) 9) ≡ false =
      ap (λ b. b && ltb (suc k) 9) (lt-ltb 0 (suc k) (omega arith)) ∙ le-ltb (suc k) 9 (omega (arith, le)) in
      let many = as_many 1 ds logs losers are in
      ap (λ b. cond {A = List Rec} b (records_of (kept (devices_of (x ∷ ds) (suc k)))) []) out
      ∙ sym (ap (λ (o : Option LogState). option_map_or (λ log. flats (scanned log)) o [])
      (slice_get_past logs k (omega (arith, le, many, eight))))

  pub logs_alike : (j : ℕ) → log_of (devices_of (x ∷ ds)) j ≡ log_in logs j
  logs_alike zero = refl
  logs_alike (suc k) = ⊎_elim (λ lt. here k lt) (λ le. beyond k le) (cases_lt k 8)

  pub chain_alike : (p : ℕ) → chain (image_of x logs) p ≡ chain (stable (devices_of (x ∷ ds))) p
  unfolding chain
  chain_alike p = ap (λ (l : List Rec). sorted (filter (of_page p) l)) (all_of-same (log_of (devices_of (x ∷ ds))) (log_in logs) 9 (λ j lt. sym (logs_alike j)))

  pub newest_alike : (p : ℕ) → newest (image_of x logs) p ≡ newest (stable (devices_of (x ∷ ds))) p
  unfolding newest
  newest_alike p = ap (λ (l : List Rec). replay ((image_of x logs).disk p).lsn ((image_of x logs).disk p) l) (chain_alike p)
