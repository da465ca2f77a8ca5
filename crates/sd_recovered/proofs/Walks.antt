-- Stacks taken back index by index, loser by loser and log by log, or none at all. It serves the loops of taking_back.rt, and
-- undo.
use Rattle.std.proofs.Common.{◌≡◌, ◌+◌, ◌-◌, ◌<◌, ◌≤◌, ℕ, List, [], ◌∷◌, ◌++◌, length, get_or, take, drop, reverse, refl, sym, ap, subst, ◌∙◌, arith}
use Rattle.std.proofs.lemmas.List.{append-nil, append_assoc, get_or-reverse, length-reverse, length-take-le, take-append-drop, take_more}
use Rattle.std.proofs.lemmas.List.Elements.{All-head, All-tail, filter_map-append}
use Rattle.std.proofs.lemmas.Grind.{flat_map-append}
use Rattle.std.specs.List.{All}
use Rattle.std.proofs.Math.Seq.{take-length}
use Rattle.sd_base.specs.declared.ids.TxnId.{TxnId}
use Rattle.sd_page.specs.Page.{Page}
use Rattle.sd_logrec.specs.View.{Rec}
use Rattle.sd_log.specs.declared.placed.Placed.{Placed}
use Rattle.sd_log.specs.Logs.{LogState, scanned}
use Rattle.sd_recovered.specs.declared.losers.Loser.{Loser}
use Rattle.sd_recovered.specs.Losers.{record_at}
use Rattle.sd_recovered.specs.Taking.{HaveNothingOpen, MayTake, Taken, open_in, picked, stacks_in}
use Rattle.sd_recovered.proofs.Steps.{taken-append, takes-append, takes-back, takes-front}

-- one list more
pub walk-more : (top : TxnId → ℕ → ℕ → ℕ) (a b c : List Page) (xs ys zs : List Rec)
    → MayTake a top xs × Taken a b xs → MayTake b top ys → Taken b c ys → zs ≡ xs ++ ys → MayTake a top zs × Taken a c zs
walk-more top a b c xs ys zs h m t e = (
  subst (MayTake a top) (sym e) (takes-append top a b xs ys h.0 h.1 m),
  subst (Taken a c) (sym e) (taken-append a b c xs ys h.1 t),
)

-- a list that may not be taken back, somewhere in the whole
pub walk-stops : (top : TxnId → ℕ → ℕ → ℕ) (a b : List Page) (xs ys rest all : List Rec) → Taken a b xs
    → (MayTake b top ys → ⊥) → all ≡ (xs ++ ys) ++ rest → MayTake a top all → ⊥
walk-stops top a b xs ys rest all t not e m =
    not (takes-back top a b xs ys t (takes-front top a (xs ++ ys) rest (subst (MayTake a top) e m)))

-- a stack, from its end on
pub picked-more : (log : List Placed) (open_ones : List ℕ) (k : ℕ) → k < length open_ones
    → picked log (take (k + 1) (reverse open_ones))
    ≡ picked log (take k (reverse open_ones)) ++ picked log (get_or open_ones (length open_ones - 1 - k) 0 ∷ [])
picked-more log open_ones k lt =
    ap (picked log) (take_more (reverse open_ones) k 0 (omega (arith, lt, length-reverse open_ones))
    ∙ ap (λ (at : ℕ). take k (reverse open_ones) ++ at ∷ []) (get_or-reverse open_ones k 0 lt))
    ∙ filter_map-append (record_at log) (take k (reverse open_ones)) (get_or open_ones (length open_ones - 1 - k) 0 ∷ [])

pub picked-parts : (log : List Placed) (open_ones : List ℕ) (k : ℕ)
    → picked log open_ones ≡ picked log (take k open_ones) ++ picked log (drop k open_ones)
picked-parts log open_ones k =
    ap (picked log) (sym (take-append-drop k open_ones)) ∙ filter_map-append (record_at log) (take k open_ones) (drop k open_ones)

pub picked-all : (log : List Placed) (open_ones : List ℕ) (k : ℕ) → k ≡ length open_ones
    → picked log (take k (reverse open_ones)) ≡ picked log (reverse open_ones)
picked-all log open_ones k e =
    ap (λ (n : ℕ). picked log (take n (reverse open_ones))) (e ∙ sym (length-reverse open_ones))
    ∙ ap (picked log) (take-length (reverse open_ones))

-- the losers of a log
pub stacks-more : (log : List Placed) (losers : List Loser) (i : ℕ) (x : Loser) → i < length losers → x ≡ get_or losers i x
    → stacks_in log (take (i + 1) losers) ≡ stacks_in log (take i losers) ++ picked log (reverse x.open)
stacks-more log losers i x lt is =
    ap (stacks_in log) (take_more losers i x lt ∙ ap (λ (l : Loser). take i losers ++ l ∷ []) (sym is))
    ∙ flat_map-append (λ l. picked log (reverse l.open)) (take i losers) (x ∷ [])
    ∙ ap (λ (l : List Rec). stacks_in log (take i losers) ++ l) (append-nil (picked log (reverse x.open)))

pub stacks-parts : (log : List Placed) (losers : List Loser) (i : ℕ)
    → stacks_in log losers ≡ stacks_in log (take i losers) ++ stacks_in log (drop i losers)
stacks-parts log losers i =
    ap (stacks_in log) (sym (take-append-drop i losers))
    ∙ flat_map-append (λ l. picked log (reverse l.open)) (take i losers) (drop i losers)

pub stacks-all : (log : List Placed) (losers : List Loser) (i : ℕ) → i ≡ length losers
    → stacks_in log (take i losers) ≡ stacks_in log losers
stacks-all log losers i e =
    ap (λ (n : ℕ). stacks_in log (take n losers)) e ∙ ap (stacks_in log) (take-length losers)

-- the logs
open-append : (logs logs' : List LogState) (losers losers' : List (List Loser)) → length losers ≡ length logs
    → open_in (logs ++ logs') (losers ++ losers') ≡ open_in logs losers ++ open_in logs' losers'
open-append [] logs' [] losers' e = refl
open-append [] logs' (y ∷ ys) losers' e = absurd (omega (arith, e))
open-append (x ∷ xs) logs' [] losers' e = absurd (omega (arith, e))
open-append (x ∷ xs) logs' (y ∷ ys) losers' e =
    ap (λ (l : List Rec). stacks_in (scanned x) y ++ l) (open-append xs logs' ys losers' (omega (arith, e)))
    ∙ sym (append_assoc (stacks_in (scanned x) y) (open_in xs ys) (open_in logs' losers'))

pub open-more : (logs : List LogState) (losers : List (List Loser)) (j : ℕ) (log : LogState) (first : List Loser)
    → j < length logs → length losers ≡ length logs → log ≡ get_or logs j log → first ≡ get_or losers j first
    → open_in (take (j + 1) logs) (take (j + 1) losers) ≡ open_in (take j logs) (take j losers) ++ stacks_in (scanned log) first
open-more logs losers j log first lt same is is' =
    ap (λ (l : List LogState). open_in l (take (j + 1) losers))
    (take_more logs j log lt ∙ ap (λ (x : LogState). take j logs ++ x ∷ []) (sym is))
    ∙ ap (λ (l : List (List Loser)). open_in (take j logs ++ log ∷ []) l)
    (take_more losers j first (omega (arith, lt, same)) ∙ ap (λ (x : List Loser). take j losers ++ x ∷ []) (sym is'))
    ∙ open-append (take j logs) (log ∷ []) (take j losers) (first ∷ [])
    (length-take-le j losers (omega (arith, lt, same)) ∙ sym (length-take-le j logs (omega (arith, lt))))
    ∙ ap (λ (l : List Rec). open_in (take j logs) (take j losers) ++ l) (append-nil (stacks_in (scanned log) first))

pub open-parts : (logs : List LogState) (losers : List (List Loser)) (j : ℕ) → j ≤ length logs → length losers ≡ length logs
    → open_in logs losers ≡ open_in (take j logs) (take j losers) ++ open_in (drop j logs) (drop j losers)
open-parts logs losers j le same =
    ap (λ (l : List LogState). open_in l losers) (sym (take-append-drop j logs))
    ∙ ap (λ (l : List (List Loser)). open_in (take j logs ++ drop j logs) l) (sym (take-append-drop j losers))
    ∙ open-append (take j logs) (drop j logs) (take j losers) (drop j losers)
    (length-take-le j losers (omega (arith, le, same)) ∙ sym (length-take-le j logs le))

-- where nothing is open
stacks-none : (log : List Placed) (losers : List Loser) → HaveNothingOpen losers → stacks_in log losers ≡ []
stacks-none log [] none = refl
stacks-none log (l ∷ ls) none =
    ap (λ (at : List ℕ). picked log (reverse at) ++ stacks_in log ls) (All-head (λ (x : Loser). x.open ≡ []) l ls none)
    ∙ stacks-none log ls (All-tail (λ (x : Loser). x.open ≡ []) l ls none)

pub open-none : (logs : List LogState) (losers : List (List Loser)) → All HaveNothingOpen losers → open_in logs losers ≡ []
open-none [] losers none = refl
open-none (log ∷ logs) [] none = refl
open-none (log ∷ logs) (ls ∷ losers) none =
    ap (λ (xs : List Rec). xs ++ open_in logs losers) (stacks-none (scanned log) ls (All-head HaveNothingOpen ls losers none))
    ∙ open-none logs losers (All-tail HaveNothingOpen ls losers none)
