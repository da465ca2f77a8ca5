-- What is read of a log device, of which all is sound: its master, its groups, and what they leave open. For `read_again`.
use Rattle.std.proofs.Common.{◌≡◌, ℕ, suc, ◌+◌, ◌-◌, ◌^◌, ◌≤◌, cond, eqb, List, [], ◌∷◌, take, drop, map, min, refl, sym, ap, ◌∙◌, subst, arith, eq-eqb, ne_eqb}
use Rattle.std.specs.Prelude.{Some, slice_get, slice_range}
use Rattle.std.proofs.lemmas.List.{map-append, take-take}
use Rattle.sd_base.proofs.Lists.{take_next}
use Rattle.sd_logrec.specs.declared.record.Record.{Record}
use Rattle.sd_logrec.specs.Kept.{BadGroup, NoRecord, Reading, Whole, kept, master, master_of}
use Rattle.sd_logrec.specs.View.{Rec, flat}
use Rattle.sd_log.specs.declared.placed.Placed.{Placed}
use Rattle.sd_log.specs.Logs.{LogState, flats, forced, scanned}
use Rattle.sd_rig.specs.Devices as rig
use Rattle.sd_chain.specs.Bytes.{log_of, records_of}
use Rattle.sd_chain.specs.Checks.{DevicesAreSound, IsWhole, MasterIsSound, Past, after_record, owed, owed_by_all, past_of, placed_of}
use Rattle.sd_chain.specs.Faults.{SlotsAreSound}
use Rattle.sd_chain.specs.Order.{Tidy}
use Rattle.sd_chain.proofs.Devices.{chosen_same}
use Rattle.sd_recovered.specs.Losers.{AreTidy}
use Rattle.sd_chain.specs.ChecksKept.{IsRead}
use Rattle.sd_chain.specs.Logs.{after_records, all_at, base_at, records_at}
use Rattle.sd_chain.specs.Soundly as soundly
use Rattle.sd_chain.proofs.Follows.{after-append}
use Rattle.sd_chain.proofs.Kept.{flat-records, forced-idle, kept-is, log-here}
use Rattle.sd_chain.proofs.Lsns.{log-records, scanned-records}
use Rattle.sd_chain.proofs.Ready.{slots-same}
use Rattle.sd_chain.proofs.Sums.{sum-one}
use Rattle.sd_state.specs.Images.{kept_epoch}

-- ---- the slots of a master, which are the first bytes of its device

first-bytes : (bytes slots : List ℕ) → slots ≡ slice_range bytes 0 130 → take 130 (drop 0 slots) ≡ take 130 (drop 0 bytes)
first-bytes bytes slots part = ap (take 130) part ∙ take-take 130 130 bytes (omega arith)

-- they are sound where that is
pub slots-sound : (bytes slots : List ℕ) → slots ≡ slice_range bytes 0 130 → MasterIsSound bytes → SlotsAreSound slots
slots-sound bytes slots part s =
    let was : soundly.SlotsAreSound bytes = record { differ = s.differ; first = s.first; second = s.second } in
    let now = slots-same bytes slots (first-bytes bytes slots part) was in
    record { differ = now.differ; first = now.first; second = now.second }

-- and say what it says
pub master-read : (bytes slots : List ℕ) → slots ≡ slice_range bytes 0 130 → master slots ≡ master bytes
unfolding master
master-read bytes slots part = ap master_of (chosen_same 0 64 bytes slots (first-bytes bytes slots part))

-- ---- groups that keep the format

pub no-bad-group : (r : Reading) (at : ℕ) → IsWhole r → r ≡ BadGroup at → ⊥
no-bad-group r at whole e = subst IsWhole e whole

pub no-bad-record : (r : Reading) (at : ℕ) → IsWhole r → r ≡ NoRecord at → ⊥
no-bad-record r at whole e = subst IsWhole e whole

-- ---- the records of a log without a tail

scanned-flats : (ps : List Placed) → flats ps ≡ map flat (map (λ p. p.rec) ps)
scanned-flats [] = refl
scanned-flats (p ∷ ps) = ap (λ (l : List Rec). flat p.rec ∷ l) (scanned-flats ps)

-- all its records, seen flat
pub flats-all : (l : LogState) → flats (scanned l) ≡ all_at l
flats-all l = scanned-flats (scanned l) ∙ ap (map flat) (scanned-records l) ∙ log-records l

-- the epoch behind one more record
pub epoch-more : (log : List Placed) (k : ℕ) (p : Placed) (past : Past) → slice_get log k ≡ Some p
    → after_records past (map (λ p. p.rec) (take (k + 1) log)) ≡ after_record (after_records past (map (λ p. p.rec) (take k log))) p.rec
epoch-more log k p past there = let more : k + 1 ≡ suc k = omega arith in
    ap (λ (n : ℕ). after_records past (map (λ p. p.rec) (take n log))) more
    ∙ ap (λ (ps : List Placed). after_records past (map (λ p. p.rec) ps)) (take_next log k p there)
    ∙ ap (after_records past) (map-append (λ (p : Placed). p.rec) (take k log) (p ∷ []))
    ∙ after-append past (map (λ p. p.rec) (take k log)) (p.rec ∷ [])

module _ (i : ℕ) (seen : rig.DeviceImages) (log : LogState) (low : 1 ≤ i) (high : i ≤ 8) (sound : DevicesAreSound seen)
    (read : IsRead (seen i) log) where
  idle : forced log ≡ log
  idle = forced-idle log read.tail

  keeps : kept (seen i) ≡ Whole log.groups log.gate
  keeps = kept-is log (seen i) (sym read.start) read.stands

  pub flats-base : flats (scanned log) ≡ base_at log
  flats-base = scanned-flats (scanned log) ∙ ap (map flat) (scanned-records log)
      ∙ ap (λ (l : LogState). map flat (records_at l)) idle ∙ flat-records (placed_of (Whole log.groups log.gate))

  -- each transaction's are in order
  pub tidy-read : AreTidy (scanned log)
  tidy-read t = subst (Tidy t)
      (ap (λ (r : Reading). map flat (map (λ x. x.1) (placed_of r))) keeps ∙ flat-records (placed_of (Whole log.groups log.gate))
      ∙ sym flats-base) (sound.txns i low high t)

  -- the epoch that they are in
  pub epoch-read : (epoch : ℕ) → epoch ≡ (master (seen i)).epoch → (n : ℕ)
      → ((past : Past) → past.epoch ≡ epoch → n ≡ (after_records past (map (λ p. p.rec) (scanned log))).epoch)
      → n ≡ kept_epoch (seen i)
  epoch-read epoch is n says = says (past_of (master (seen i))) (sym is)
      ∙ ap (λ (rs : List Record). (after_records (past_of (master (seen i))) rs).epoch)
      (scanned-records log ∙ ap records_at idle ∙ sym (ap (λ (r : Reading). map (λ x. x.1) (placed_of r)) keeps))

  -- and few are owed
  abbrev but-here : ℕ → ℕ
  but-here j = cond (eqb j i) 0 (owed (log_of seen j))

  few : owed (log_of seen i) ≤ owed_by_all seen
  few = let sum = sum-one but-here (λ j. owed (log_of seen j)) i
      (λ j ne. ap (λ b. cond b 0 (owed (log_of seen j))) (ne_eqb j i ne)) low high in
      let none : but-here i ≡ 0 = ap (λ b. cond b 0 (owed (log_of seen i))) (eq-eqb i i refl) in
      omega (arith, sum, none)

  pub owed-read : (n : ℕ) → n ≡ min (owed (flats (scanned log))) (2 ^ 64 - 1) → n ≡ owed (base_at log)
  owed-read n is =
      let all = sound.lsns.pages 0 (omega arith) in
      let here : owed (log_of seen i) ≡ owed (base_at log) = ap owed (log-here seen i low high ∙ ap records_of keeps) in
      let base : owed (flats (scanned log)) ≡ owed (base_at log) = ap owed flats-base in
      omega (arith, is, all, few, here, base)
