-- What losers owe, by their indices and by their stacks: for the goals of `reserve` and `owed`.
use Rattle.std.proofs.Common.{◌≡◌, ◌≢◌, ⊎_elim, ℕ, ◌+◌, List, [], ◌∷◌, ◌≤◌, min, take, length, map, reverse, Option, Some, sum_by, refl, sym, ap, ◌∙◌, subst, arith}
use Rattle.std.proofs.Math.Seq.{take-length}
use Rattle.std.specs.Option.{option_map_or}
use Rattle.std.proofs.lemmas.List.{length-map, length-reverse}
use Rattle.std.proofs.lemmas.List.Sums.{sum_by-cons}
use Rattle.std.proofs.lemmas.List.Sorted.{IsPermutation-reverse, sum_by-IsPermutation}
use Rattle.sd_base.specs.declared.ids.TxnId.{TxnId}
use Rattle.sd_base.specs.Ids.{IsBelow}
use Rattle.sd_logrec.specs.View.{Rec}
use Rattle.sd_base.specs.Values.{size}
use Rattle.sd_log.specs.declared.placed.Placed.{Placed}
use Rattle.sd_log.specs.Logs.{flats}
use Rattle.sd_chain.specs.Records.{Each, stack}
use Rattle.sd_chain.specs.Undoing.{Member, Apart}
use Rattle.sd_chain.specs.Checks as checks
use Rattle.sd_recovered.specs.declared.losers.Loser.{Loser}
use Rattle.sd_recovered.specs.Losers.{record_at, AreLosers, IsLoser, Rise}
use Rattle.sd_recovered.specs.Owing.{bytes_at, bytes_for}
use Rattle.sd_chain.proofs.Members.{sums-agree, apart-open_in, open_in-is, is-open_in}

sum-map : {A B : Type 0} (f : B → ℕ) (g : A → B) (xs : List A) → sum_by (λ a. f (g a)) xs ≡ sum_by f (map g xs)
sum-map f g [] = refl
sum-map f g (x ∷ xs) = sum_by-cons (λ a. f (g a)) x xs ∙ ap (λ (n : ℕ). f (g x) + n) (sum-map f g xs) ∙ sym (sum_by-cons f (g x) (map g xs))

-- the bytes of the undo of a record, if there is one
abbrev bytes : Option Rec → ℕ
bytes o = option_map_or (λ (x : Rec). 47 + size x.before) o 0

pub bytes-agree : (log : List Placed) (loser : Loser) → IsLoser log loser → bytes_for log loser ≡ checks.reserve_for (flats log) loser.txn
bytes-agree log loser is = ap (λ (n : ℕ). 31 + n) (
    sym (sum_by-IsPermutation (bytes_at log) loser.open (reverse loser.open) (IsPermutation-reverse loser.open))
    ∙ sum-map bytes (record_at log) (reverse loser.open) ∙ ap (sum_by bytes) is.stack_is
    ∙ sym (sum-map bytes (λ (x : Rec). Some x) (stack loser.txn (flats log))))

pub counts-agree : (log : List Placed) (loser : Loser) → IsLoser log loser → length loser.open ≡ length (stack loser.txn (flats log))
counts-agree log loser is =
    sym (length-reverse loser.open) ∙ sym (length-map (reverse loser.open) (record_at log)) ∙ ap length is.stack_is
    ∙ length-map (stack loser.txn (flats log)) (λ (x : Rec). Some x)

sum-each : (log : List Placed) (f : TxnId → ℕ) (g : Loser → ℕ) → ((l : Loser) → IsLoser log l → g l ≡ f l.txn) → (losers : List Loser)
    → Each (IsLoser log) losers → sum_by g losers ≡ sum_by f (map (λ l. l.txn) losers)
sum-each log f g same [] each = refl
sum-each log f g same (l ∷ ls) each = sum_by-cons g l ls ∙ ap (λ (n : ℕ). n + sum_by g ls) (same l each.0)
    ∙ ap (λ (n : ℕ). f l.txn + n) (sum-each log f g same ls each.1) ∙ sym (sum_by-cons f l.txn (map (λ l. l.txn) ls))

below-apart : (t u : TxnId) → IsBelow t u → t ≢ u
below-apart t u below e = ⊎_elim (λ i. absurd (omega (arith, ap (λ (v : TxnId). v.inst) e)))
    (λ h. ⊎_elim (λ j. absurd (omega (arith, ap (λ (v : TxnId). v.epoch) e)))
    (λ j. absurd (omega (arith, ap (λ (v : TxnId). v.seq) e, j.1))) h.1) below

rise-apart : (losers : List Loser) → Rise losers → Apart (map (λ l. l.txn) losers)
rise-apart [] rise = tt
rise-apart (l ∷ ls) rise = (go ls rise.0, rise-apart ls rise.1)
  where
    go : (ls : List Loser) → Each (λ other. IsBelow l.txn other.txn) ls → Each (λ u. l.txn ≢ u) (map (λ l. l.txn) ls)
    go [] below = tt
    go (m ∷ ms) below = (below-apart l.txn m.txn below.0, go ms below.1)

loser-member : (log : List Placed) (t : TxnId) (losers : List Loser) → Each (IsLoser log) losers → Member t (map (λ l. l.txn) losers)
    → Member t (checks.open_in (flats log))
loser-member log t [] each m = absurd m
loser-member log t (l ∷ ls) each m = ⊎_elim
    (λ e. subst (λ (u : TxnId). Member u (checks.open_in (flats log))) (sym e) (is-open_in l.txn (flats log) each.0.runs each.0.there))
    (λ rest. loser-member log t ls each.1 rest) m

-- a sum over the losers is one over what is open
losers-sum : (log : List Placed) (losers : List Loser) (f : TxnId → ℕ) (g : Loser → ℕ) → AreLosers log losers
    → ((l : Loser) → IsLoser log l → g l ≡ f l.txn) → sum_by g losers ≡ sum_by f (checks.open_in (flats log))
losers-sum log losers f g are same = sum-each log f g same losers are.each
    ∙ sums-agree f (map (λ l. l.txn) losers) (checks.open_in (flats log)) (rise-apart losers are.rise) (apart-open_in (flats log))
    (λ t m. loser-member log t losers are.each m)
    (λ t m. let o = open_in-is t (flats log) m in are.all t o.0 o.1)

pub reserve-is : (log : List Placed) (losers : List Loser) → AreLosers log losers
    → sum_by (bytes_for log) losers ≡ checks.reserve (flats log)
reserve-is log losers are = losers-sum log losers (checks.reserve_for (flats log)) (bytes_for log) are (bytes-agree log)

pub owed-is : (log : List Placed) (losers : List Loser) → AreLosers log losers
    → sum_by (λ (l : Loser). 1 + length l.open) losers ≡ checks.owed (flats log)
owed-is log losers are = losers-sum log losers (λ t. 1 + length (stack t (flats log))) (λ l. 1 + length l.open) are
    (λ l is. ap (λ (n : ℕ). 1 + n) (counts-agree log l is))

-- the sum of all items, after the last one
pub sum-all : (f : Loser → ℕ) (i most count owing : ℕ) (items losers : List Loser) → count ≡ min (sum_by f (take i items)) most
    → i ≤ length items → length items ≤ i → items ≡ losers → sum_by f losers ≡ owing → count ≡ min owing most
sum-all f i most count owing items losers e within past same is =
    e ∙ ap (λ (n : ℕ). min n most)
    (ap (λ (k : ℕ). sum_by f (take k items)) (omega arith) ∙ ap (sum_by f) (take-length items) ∙ ap (sum_by f) same ∙ is)
