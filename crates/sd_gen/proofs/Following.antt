-- Transfers, one after another. It serves the goals of script.rt.
use Rattle.std.proofs.Common.{◌≡◌, ℕ, suc, ◌+◌, List, ◌++◌, append_assoc, sym, ap, ◌∙◌}
use Rattle.std.proofs.lemmas.List.{append-nil}
use Rattle.sd_gen.specs.Draws.{state_behind}
use Rattle.sd_gen.specs.Generated.{transfer_of, transfer_text, transfers_text}

-- the text that was there, and the transfers that are to come
abbrev pub with_rest : List ℕ → ℕ → ℕ → ℕ → List ℕ
with_rest out done more x = out ++ transfers_text (done + 1) more x

-- a transfer more
pub one_more : (out new : List ℕ) (done more left x y : ℕ) → left ≡ suc more → y ≡ state_behind 4 x
    → new ≡ out ++ transfer_text (done + 1) (transfer_of x) → with_rest new (done + 1) more y ≡ with_rest out done left x
one_more out new done more left x y count state put =
    ap (λ (l : List ℕ). l ++ transfers_text (done + 1 + 1) more y) put
    ∙ append_assoc out (transfer_text (done + 1) (transfer_of x)) (transfers_text (done + 1 + 1) more y)
    ∙ ap (λ (k : ℕ). out ++ (transfer_text (done + 1) (transfer_of x) ++ transfers_text (done + 1 + 1) more k)) state
    ∙ sym (ap (λ (k : ℕ). out ++ transfers_text (done + 1) k x) count)

-- and none
pub no_more : (out old : List ℕ) (done left x n count : ℕ) → left ≡ 0 → with_rest out done left x ≡ old ++ transfers_text 1 count n
    → out ≡ old ++ transfers_text 1 count n
no_more out old done left x n count none so_far =
    sym (append-nil out) ∙ ap (λ (k : ℕ). out ++ transfers_text (done + 1) k x) (sym none) ∙ so_far
