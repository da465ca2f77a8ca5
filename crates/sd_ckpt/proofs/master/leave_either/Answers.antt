use Rattle.std.proofs.Common.{◌≡◌, ⊎_elim, ℕ, ◌+◌, ◌-◌, ◌^◌, ◌≤◌, min, max, true, List, get_or, map, slice_set, sym, ap, ap₂, ◌∙◌, arith, rules}
use Rattle.std.specs.Prelude.{Option, None, Some, option_map}
use Rattle.std.proofs.lemmas.List.{map-set}
use Rattle.sd_base.specs.declared.place.Status.{Status}
use Rattle.sd_txn.specs.Owing.{owed_of}
use Rattle.sd_txn.specs.Transactions.{Transactions}
use Rattle.sd_state.specs.Complexes.{begun_of, parts}
use Rattle.sd_state.specs.declared.complex.Checkpoint.{Checkpoint}
use Rattle.sd_state.specs.Forcing.{owed_as, owed_by, owed_either}
use Rattle.sd_state.specs.Good.{TakesCheck}
use Rattle.sd_state.specs.Parts.{Begun, Parts, no_txns, owed_at, status_at, txns_at}
use Rattle.sd_state.proofs.Items.{item-is}
use Rattle.sd_ckpt.proofs.MasterCalls.{acts-by}
use Rattle.sd_ckpt.proofs.master.leave_either.Goals as goal

-- one that takes checkpoints owes what its table tells
told-by : (s : Status) (told was : ℕ) → TakesCheck s → owed_as s told was ≡ told
told-by s told was takes = ⊎_elim (λ e. ap (λ (x : Status). owed_as x told was) e)
    (λ e. ap (λ (x : Status). owed_as x told was) e) takes

pub returns-clause-parts : goal.returns-clause-parts
returns-clause-parts g c =
    let i : ℕ = c.args.i in
    let low : 1 ≤ i = omega (arith, c.get.ensures.value, c.get.ensures.low) in
    let high : i ≤ 8 = omega (arith, c.get.ensures.value, c.get.ensures.high) in
    let place : c.get.result - 1 ≡ i - 1 = ap (λ (n : ℕ). n - 1) c.get.ensures.value in
    let device : c.get.result - 1 + 1 ≡ i = omega (arith, c.get.ensures.value, c.get.ensures.low) in
    let none : Option Checkpoint = None in
    let other : Option ℕ = Some c.args.place in
    let p : Parts = parts c.args.c.now in
    let owed : ℕ = c.index.result.now in
    let table : Transactions = c.index-2.result.now in
    let owed-is : owed_at p i ≡ owed = item-is 0 p.owed i owed low high c.requires.shape.owed
    (c.index.ensures ∙ ap (λ (n : ℕ). get_or p.owed n owed) place) in
    let table-is : txns_at p i ≡ table = item-is no_txns p.txns i table low high c.requires.shape.txns
    (c.index-2.ensures ∙ ap (λ (n : ℕ). get_or p.txns n table) place) in
    let told : owed_by p i ≡ c.owed.result =
    told-by (status_at p i) (min (owed_of (txns_at p i)) (2 ^ 64 - 1)) (owed_at p i) c.requires.takes
    ∙ ap (λ (t : Transactions). min (owed_of t) (2 ^ 64 - 1)) table-is ∙ sym c.owed.ensures in
    let top : c.max.result ≡ max owed c.owed.result = search rules in
    let owes : c.max.result ≡ owed_either p i = top ∙ ap₂ (λ (a b : ℕ). max a b) (sym owed-is) (sym told) in
    let made : ℕ → ℕ → ℕ → ℕ → List (Option Begun) → Parts = λ n d owes inst checks. record p {
      checks = checks;
      others = slice_set {A = Option ℕ} p.others n other;
      owed = slice_set p.owed n owes;
      loose = slice_set p.loose d true;
      due = Some (inst, i);
    } in
    let checks : List (Option Begun) = map (option_map begun_of) (slice_set c.args.c.now.checks.items (c.get.result - 1) none) in
    let n : ℕ = c.get.result - 1 in
    ap (made n (n + 1) c.max.result i)
    (map-set (option_map begun_of) c.args.c.now.checks.items n none
    ∙ ap (λ (k : ℕ). slice_set {A = Option Begun} p.checks k None) place)
    ∙ ap (λ (k : ℕ). made k (n + 1) c.max.result i (slice_set {A = Option Begun} p.checks (i - 1) None)) place
    ∙ ap (λ (d : ℕ). made (i - 1) d c.max.result i (slice_set {A = Option Begun} p.checks (i - 1) None)) device
    ∙ ap (λ (o : ℕ). made (i - 1) i o i (slice_set {A = Option Begun} p.checks (i - 1) None)) owes
    ∙ ap (λ (a : ℕ). made (i - 1) i (owed_either p i) a (slice_set {A = Option Begun} p.checks (i - 1) None))
    (sym (acts-by (status_at p i) i c.requires.takes))
