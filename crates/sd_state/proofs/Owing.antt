-- What the logs of a complex owe at most, by what is kept of each: for the calls that test whether there are LSNs.
use Rattle.std.proofs.Common.{◌≡◌, ⊎_elim, ℕ, ◌≤◌, Bool, true, false, cond, List, [], ◌++◌, map, max, sym, ap, ◌∙◌, subst, arith, append-nil}
use Rattle.std.specs.Prelude.{sum_by}
use Rattle.std.proofs.lemmas.Bool.{cases_Bool}
use Rattle.sd_logrec.specs.View.{flat}
use Rattle.sd_logrec.specs.declared.record.Record.{Record}
use Rattle.sd_log.specs.Logs.{LogState}
use Rattle.sd_model.specs.State.{State}
use Rattle.sd_rig.specs.Devices as rig
use Rattle.sd_txn.specs.Owing.{owed_of}
use Rattle.sd_chain.specs.Checks.{owed}
use Rattle.sd_chain.specs.Images.{Keeps}
use Rattle.sd_chain.specs.Logs.{Logs, Outcomes, all_at, base_at, eight, most_owed, tails_of}
use Rattle.sd_state.specs.Good.{Good, OwesAtMost}
use Rattle.sd_state.specs.Images.{log_by}
use Rattle.sd_state.specs.Parts.{Parts, is_loose, log_at, owed_at, status_at, txns_at}
use Rattle.sd_state.specs.Sums.{owed_in_all, owes_most, sum_to}
use Rattle.sd_state.specs.Tables.{tells_log}
use Rattle.sd_state.specs.Values.{Pending}
use Rattle.sd_state.proofs.Standing.{one-place}

-- a settled log owes what its table tells, or has no tail
pub settled-owes : (c : Parts) (j : ℕ) (log : LogState) → is_loose c j ≡ false → owed_at c j ≡ owed (base_at log)
    → (tells_log (status_at c j) ≡ true → owed_of (txns_at c j) ≡ owed (all_at log))
    → (tells_log (status_at c j) ≡ false → log.tail ≡ []) → OwesAtMost (owes_most c j) log
settled-owes c j log settled forced told rests = subst (λ (n : ℕ). OwesAtMost n log)
    (sym (ap (λ (b : Bool). cond b (owed_at c j) (cond (tells_log (status_at c j)) (max (owed_at c j) (owed_of (txns_at c j))) (owed_at c j))) settled))
    (⊎_elim
    (λ tells. subst (λ (n : ℕ). OwesAtMost n log)
    (sym (ap (λ (b : Bool). cond b (max (owed_at c j) (owed_of (txns_at c j))) (owed_at c j)) tells))
    (let t = told tells in (omega (arith, forced), omega (arith, t))))
    (λ silent. subst (λ (n : ℕ). OwesAtMost n log)
    (sym (ap (λ (b : Bool). cond b (max (owed_at c j) (owed_of (txns_at c j))) (owed_at c j)) silent))
    (let all : owed (all_at log) ≡ owed (base_at log) =
    ap (λ (tail : List Record). owed (base_at log ++ map flat tail)) (rests silent) ∙ ap owed (append-nil (base_at log)) in
    (omega (arith, forced), omega (arith, all, forced))))
    (cases_Bool (tells_log (status_at c j))))

-- Each log owes so many at most, wherever it begins.
pub owes-at-most : (seen : rig.DeviceImages) (leaves : Outcomes) (pend : Pending) (c : Parts) (m : State) → Good seen leaves pend c m
    → (moved : Keeps) (j : ℕ) → 1 ≤ j → j ≤ 8 → OwesAtMost (owes_most c j) (log_by c moved j)
owes-at-most seen leaves pend c m g moved j low high = ⊎_elim
    (λ loose. subst (λ (n : ℕ). OwesAtMost n (log_by c moved j))
    (sym (ap (λ (b : Bool). cond b (owed_at c j) (cond (tells_log (status_at c j)) (max (owed_at c j) (owed_of (txns_at c j))) (owed_at c j))) loose))
    (g.owed_loose moved j low high loose))
    (λ settled. subst (OwesAtMost (owes_most c j)) (sym (one-place c moved j (g.settled j low high settled).one_place))
    (settled-owes c j (log_at c j) settled (g.owed j low high settled)
    (λ tells. (g.told j low high tells settled).owes) (λ silent. g.at_rest j low high silent settled)))
    (cases_Bool (is_loose c j))

sum-eight : (f g : ℕ → ℕ) → ((j : ℕ) → 1 ≤ j → j ≤ 8 → f j ≤ g j) → sum_by f eight ≤ sum_to g 8
sum-eight f g le =
    let a = le 1 (omega arith) (omega arith) in
    let b = le 2 (omega arith) (omega arith) in
    let c = le 3 (omega arith) (omega arith) in
    let d = le 4 (omega arith) (omega arith) in
    let e = le 5 (omega arith) (omega arith) in
    let h = le 6 (omega arith) (omega arith) in
    let k = le 7 (omega arith) (omega arith) in
    let l = le 8 (omega arith) (omega arith) in
    omega (arith, a, b, c, d, e, h, k, l)

-- All logs owe what each owes at most, with whatever tails.
pub most-in-all : (c : Parts) (logs : Logs) → ((j : ℕ) → 1 ≤ j → j ≤ 8 → OwesAtMost (owes_most c j) (logs j))
    → most_owed (tails_of logs) ≤ owed_in_all c
most-in-all c logs each = sum-eight (λ j. max (owed (base_at (logs j))) (owed (all_at (logs j)))) (owes_most c)
    (λ j low high. let e = each j low high in let a = e.0 in let b = e.1 in omega (arith, a, b))
