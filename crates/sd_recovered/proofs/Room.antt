-- Logs without room, one after another. It serves the goals of ends.rt.
use Rattle.std.proofs.Common.{◌≡◌, inl, ℕ, zero, suc, ◌+◌, ◌-◌, ◌<◌, Bool, List, [], ◌∷◌, Err, Result, Some, length, drop, get_or, slice_get, take, sym, ap, ◌∙◌, subst, arith}
use Rattle.std.specs.Prelude.{All, IsTrue}
use Rattle.std.proofs.lemmas.Option.{slice_get-get_or}
use Rattle.sd_base.specs.declared.refusal.Refusal.{Refusal}
use Rattle.sd_base.specs.declared.refusal.Refusal.TheVariants as R
use Rattle.sd_log.specs.Logs.{LogState}
use Rattle.sd_recovered.specs.Ends.{EndsFailAt, HasRoom, IsLogLow, LacksRoom, owed_in}
use Rattle.sd_recovered.proofs.Sums.{first_and_rest}

-- behind a log that has room
room_behind : (j : ℕ) (logs : List LogState) (log : LogState) (rest : List LogState) (dev at : ℕ) → logs ≡ log ∷ rest → HasRoom log
    → LacksRoom (j + 1) rest dev at → LacksRoom j logs dev at
room_behind j logs log rest dev at is has f = record {
  index = suc f.index;
  log = f.log;
  there = ap (λ (l : List LogState). slice_get l (suc f.index)) is ∙ f.there;
  dev_is = omega (arith, f.dev_is);
  at_is = f.at_is;
  before = λ k l lt there. by k l lt (ap (λ (ls : List LogState). slice_get ls k) (sym is) ∙ there);
  lacks = f.lacks;
}
  where
    by : (k : ℕ) (l : LogState) → k < suc f.index → slice_get (log ∷ rest) k ≡ Some l → HasRoom l
    by zero l lt there = let same : log ≡ l = cc in subst HasRoom same has
    by (suc k) l lt there = f.before k l (omega (arith, lt)) there

-- the same of a slice without its first log
pub room_among_rest : (j : ℕ) (logs : List LogState) (log : LogState) (dev at : ℕ) → log ≡ get_or logs 0 log → HasRoom log
    → LacksRoom (j + 1) (take (length logs - 1) (drop 1 logs)) dev at → LacksRoom j logs dev at
room_among_rest j [] log dev at is has f = absurd (let there = f.there in cc)
room_among_rest j (y ∷ ys) log dev at is has f =
    room_behind j (y ∷ ys) log _ dev at (first_and_rest (y ∷ ys) log log (omega arith) is) has f

-- LSNs lack
pub lsns_lack : (low : Bool) (logs : List LogState) (first : LogState) (e : Refusal) (dev at : ℕ) → 0 < length logs → first ≡ get_or logs 0 first
    → e ≡ R.Damaged 1 (130 + first.gate) → ◌≡◌ {A = Result (Unit {0}) Refusal} (Err e) (Err (R.Damaged dev at))
    → (IsTrue low → All (IsLogLow (owed_in logs)) logs → ⊥) → EndsFailAt low logs dev at
lsns_lack low logs first e dev at lt is named came lack = inl (record {
  lack = lack;
  dev_is = cc;
  first = first;
  there = slice_get-get_or logs 0 first lt ∙ ap (λ (l : LogState). Some l) (sym is);
  at_is = cc;
})
