-- Where the first log that isn't sound fails. It serves the goals of logs.rt and reading.rt.
use Rattle.std.proofs.Common.{◌≡◌, inl, inr, ℕ, zero, suc, ◌+◌, ◌<◌, ◌≤◌, List, [], ◌∷◌, Option, Some, get_or, length, slice_get, take, sym, ap, ◌∙◌, subst, arith}
use Rattle.std.specs.Prelude.{unwrap_or}
use Rattle.std.proofs.lemmas.Option.{slice_get-get_or, slice_get_cases, slice_get_within}
use Rattle.sd_logrec.specs.Kept.{Whole, kept}
use Rattle.sd_logrec.specs.View.{Rec}
use Rattle.sd_log.specs.Logs.{LogState, scanned}
use Rattle.sd_recovered.specs.declared.losers.Loser.{Loser}
use Rattle.sd_chain.specs.Faults.{FailsInLog, IsFirstMisplaced, LogFailsAt, LogIsSound, TxnsFailAt}
use Rattle.sd_chain.specs.Order.{Tidy}
use Rattle.sd_recovered.specs.Devices.{devices_of}
use Rattle.sd_recovered.specs.Reading.{AreRead, FailsAmong, LogIsRead, Misplaced}
use Rattle.sd_recovered.proofs.Covers.{covered}
use Rattle.sd_recovered.proofs.Kept.{kept_records}
use Rattle.sd_recovered.proofs.Placed.{stands_there}

-- a misplaced record of the log is one of its device
pub txns_fail : (bytes : List ℕ) (log : LogState) (at : ℕ) → kept bytes ≡ Whole log.groups log.gate → log.tail ≡ []
    → (m : Misplaced (scanned log) at) → TxnsFailAt bytes m.found.place
txns_fail bytes log at whole none m = record {
  index = m.index;
  rec = m.found.rec;
  there = stands_there bytes log m.index m.found whole none m.there;
  first = subst (λ (l : List Rec). IsFirstMisplaced l m.index) (kept_records bytes log whole none) m.first;
}

-- a log that was read is sound
read_sound : (j : ℕ) (bytes : List ℕ) (log : LogState) (found : List Loser) → LogIsRead j bytes log found → LogIsSound j bytes
read_sound j bytes log found read = record {
  master = read.master;
  groups = read.groups;
  txns = λ t. subst (Tidy t) (kept_records bytes log read.kept_is read.no_tail) (read.tidy t);
}

taken_at : {A : Type 0} (xs : List A) (i k : ℕ) (x : A) → k < i → slice_get xs k ≡ Some x → slice_get (take i xs) k ≡ Some x
taken_at xs zero k x lt at = absurd (omega (arith, lt))
taken_at [] (suc i) k x lt at = absurd (cc)
taken_at (y ∷ ys) (suc i) zero x lt at = at
taken_at (y ∷ ys) (suc i) (suc k) x lt at = taken_at ys i k x (omega (arith, lt)) at

-- behind those that were read
pub fails_among : (devices : List (List ℕ)) (i : ℕ) (device : List ℕ) (logs : List LogState) (losers : List (List Loser)) (dev at : ℕ)
    → i < length devices → device ≡ get_or devices i device → AreRead 1 (take i devices) logs losers → dev ≡ 1 + i
    → LogFailsAt (1 + i) device at → FailsAmong devices dev at
fails_among devices i device logs losers dev at lt is are e here = record {
  index = i;
  device = device;
  there = slice_get-get_or devices i device lt ∙ ap (λ (d : List ℕ). Some d) (sym is);
  dev_is = e;
  before = λ k d less there.
      let c = covered 1 k (take i devices) logs losers d are (taken_at devices i k d less there) in
      read_sound (1 + k) d c.log c.found c.read;
  here = here;
}

-- of nine devices
pub fails_in_log : (x : List ℕ) (ds : List (List ℕ)) (dev at : ℕ) → length ds ≡ 8 → FailsAmong ds dev at
    → FailsInLog (devices_of (x ∷ ds)) dev at
fails_in_log x ds dev at eight f =
    let lt = slice_get_within ds f.index f.device f.there in
    let next : 1 + f.index ≡ suc f.index = omega arith in
    let device : f.device ≡ devices_of (x ∷ ds) (suc f.index) = sym (ap (λ (o : Option (List ℕ)). unwrap_or o []) f.there) in
    let same : 1 + f.index ≡ dev = sym f.dev_is in
    record {
      some = omega (arith, f.dev_is);
      few = omega (arith, f.dev_is, lt, eight);
      before = λ j lo hi. sound_before f j lo (omega (arith, hi, f.dev_is));
      here = subst (λ (d : ℕ). LogFailsAt d (devices_of (x ∷ ds) d) at) (sym next ∙ same)
          (subst (λ (d : List ℕ). LogFailsAt (suc f.index) d at) device (subst (λ (n : ℕ). LogFailsAt n f.device at) next f.here));
    }
  where
    sound_before : (f : FailsAmong ds dev at) (j : ℕ) → 1 ≤ j → j < 1 + f.index → LogIsSound j (devices_of (x ∷ ds) j)
    sound_before f zero lo hi = absurd (omega (arith, lo))
    sound_before f (suc k) lo hi =
        let less : k < f.index = omega (arith, hi) in
        let lt = slice_get_within ds f.index f.device f.there in
        elim (slice_get_cases ds k).1 [
          | inl found ↦
              let e : 1 + k ≡ suc k = omega arith in
              subst (λ (n : ℕ). LogIsSound n (devices_of (x ∷ ds) (suc k))) e
              (subst (LogIsSound (1 + k)) (sym (ap (λ (o : Option (List ℕ)). unwrap_or o []) found.2)) (f.before k found.0 less found.2))
          | inr past ↦ absurd (omega (arith, less, lt, past.0))
        ]
