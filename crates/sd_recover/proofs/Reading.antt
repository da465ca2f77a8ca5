-- The tasks in the rows of a table whose log is read again: for what a step lowers.
use Rattle.std.proofs.Common.{◌≡◌, ◌≢◌, inl, inr, ⊎_elim, ℕ, ◌≤◌, Bool, false, cond, List, [], ◌∷◌, refl, sym, ap, ◌∙◌, subst, arith}
use Rattle.std.specs.Prelude.{Option, None, Some, IsSome, sum_by}
use Rattle.std.specs.List.{AllByRecursion, IsDistinct}
use Rattle.std.specs.Map.{keys_of, lookup}
use Rattle.std.proofs.lemmas.List.Sums.{sum_by-cons}
use Rattle.std.proofs.lemmas.Map.Keys.{IsDistinct-head, IsDistinct-tail}
use Rattle.sd_base.specs.Ids.{same_txn}
use Rattle.sd_base.specs.declared.ids.TxnId.{TxnId}
use Rattle.sd_base.proofs.SameIds.{cases_txn, eq-same, ne-same}
use Rattle.sd_logrec.specs.View.{Rec}
use Rattle.sd_rig.specs.Devices.{DeviceImages}
use Rattle.sd_chain.specs.Bytes.{log_of, records_of}
use Rattle.sd_chain.specs.Logs.{base_at}
use Rattle.sd_chain.specs.Records.{Each}
use Rattle.sd_chain.specs.Undoing.{Apart, Member}
use Rattle.sd_chain.proofs.Kept.{kept-is, log-here}
use Rattle.sd_chain.proofs.Members.{sums-agree}
use Rattle.sd_moves.specs.Settling.{IsReread, row_again}
use Rattle.sd_txn.specs.Transactions.{Transaction, Transactions, ids, txn_at}
use Rattle.sd_state.specs.Parts.{Parts, log_at, txns_at}
use Rattle.sd_recover.specs.Tasks.{tasks_in}
use Rattle.sd_recover.specs.Work.{tasks_again, tasks_at}
use Rattle.sd_recover.proofs.Rows.{two}

-- ---- names that are apart

apart-from : (t : TxnId) (ts : List TxnId) → AllByRecursion (λ u. same_txn t u ≡ false) ts → Each (λ u. t ≢ u) ts
apart-from t [] all = tt
apart-from t (u ∷ us) all = ((λ e. let clash = sym (eq-same t u e) ∙ all.0 in absurd (cc)), apart-from t us all.1)

pub apart-ids : (ts : List TxnId) → IsDistinct same_txn ts → Apart ts
apart-ids [] once = tt
apart-ids (t ∷ ts) once = (
  apart-from t ts (IsDistinct-head same_txn t ts once),
  apart-ids ts (IsDistinct-tail same_txn t ts once),
)

-- ---- sums over rows, and over names

abbrev Rows : Type 0
Rows = List (TxnId × Transaction)

-- each name finds its own row
abbrev Finds : (TxnId → Option Transaction) → Rows → Type 0
Finds f es = Each (λ e. f e.0 ≡ Some e.1) es

row-sum : (g : TxnId → Option Transaction → ℕ) (f : TxnId → Option Transaction) (es : Rows) → Finds f es
    → sum_by (λ e. g e.0 (Some e.1)) es ≡ sum_by (λ t. g t (f t)) (keys_of es)
row-sum g f [] finds = refl
row-sum g f (e ∷ es) finds =
    let rest = row-sum g f es finds.1 in
    let here = ap (λ (o : Option Transaction). g e.0 o) finds.0 in
    let a = sum_by-cons (λ (x : TxnId × Transaction). g x.0 (Some x.1)) e es in
    let b = sum_by-cons (λ (t : TxnId). g t (f t)) e.0 (keys_of es) in
    omega (arith, rest, here, a, b)

found-later : (e : TxnId × Transaction) (es rest : Rows) → Each (λ u. e.0 ≢ u) (keys_of rest) → Finds (λ t. lookup (same_txn t) es) rest
    → Finds (λ t. lookup (same_txn t) (e ∷ es)) rest
found-later e es [] off finds = tt
found-later e es (r ∷ rest) off finds = (
  ap (λ (b : Bool). cond {A = Option Transaction} b (Some e.1) (lookup (same_txn r.0) es)) (ne-same r.0 e.0 (λ z. off.0 (sym z))) ∙ finds.0,
  found-later e es rest off.1 finds.1,
)

found-each : (es : Rows) → Apart (keys_of es) → Finds (λ t. lookup (same_txn t) es) es
found-each [] apart = tt
found-each (e ∷ es) apart = (
  ap (λ (b : Bool). cond {A = Option Transaction} b (Some e.1) (lookup (same_txn e.0) es)) (eq-same e.0 e.0 refl),
  found-later e es es apart.0 (found-each es apart.1),
)

pub table-sum : (g : TxnId → Option Transaction → ℕ) (table : Transactions) → Apart (ids table)
    → sum_by (λ e. g e.0 (Some e.1)) table.unresolved ≡ sum_by (λ t. g t (txn_at table t)) (ids table)
table-sum g table apart = row-sum g (txn_at table) table.unresolved (found-each table.unresolved apart)

-- ---- who has a row

pub found-member : (es : Rows) (t : TxnId) → IsSome (lookup (same_txn t) es) → Member t (keys_of es)
found-member [] t there = absurd (cc)
found-member (e ∷ es) t there = ⊎_elim
    (λ is. inl is)
    (λ ne. inr (found-member es t (subst (λ (b : Bool). IsSome (cond {A = Option Transaction} b (Some e.1) (lookup (same_txn t) es)))
    (ne-same t e.0 ne) there)))
    (cases_txn t e.0)

apart : (t u : TxnId) → t ≡ u → same_txn t u ≡ false → ⊥
apart t u e off = let clash = sym (eq-same t u e) ∙ off in absurd (cc)

member-found : (es : Rows) (t : TxnId) → Member t (keys_of es) → IsSome (lookup (same_txn t) es)
member-found [] t m = absurd m
member-found (e ∷ es) t m = two (same_txn t e.0)
    (λ on. subst (λ (b : Bool). IsSome (cond {A = Option Transaction} b (Some e.1) (lookup (same_txn t) es))) (sym on) refl)
    (λ off. subst (λ (b : Bool). IsSome (cond {A = Option Transaction} b (Some e.1) (lookup (same_txn t) es))) (sym off)
    (member-found es t (⊎_elim (λ same. absurd (apart t e.0 same off)) (λ rest. rest) m)))

-- ---- read again

again-some : (log : List Rec) (t : TxnId) (o : Option Transaction) → IsSome (row_again log t o) → IsSome o
again-some log t None there = absurd (cc)
again-some log t (Some x) there = refl

some-again : (log : List Rec) (t : TxnId) (o : Option Transaction) → IsSome o → IsSome (row_again log t o)
some-again log t None there = absurd (cc)
some-again log t (Some x) there = refl

-- the table that is read has the tasks that its log left of the old one
pub tasks-read : (i : ℕ) (seen : DeviceImages) (c new : Parts) → 1 ≤ i → i ≤ 8 → Apart (ids (txns_at c i)) → Apart (ids (txns_at new i))
    → IsReread i (seen i) c new → tasks_in (txns_at new i) ≡ tasks_again (log_of seen i) (txns_at c i)
tasks-read i seen c new low high apart apart' read =
    let log : List Rec = base_at (log_at new i) in
    let was : Transactions = txns_at c i in
    let is : Transactions = txns_at new i in
    table-sum (λ t o. tasks_at o) is apart'
    ∙ ap (λ (f : TxnId → ℕ). sum_by f (ids is)) (λ k t. tasks_at (read.table.rows t k))
    ∙ sums-agree (λ t. tasks_at (row_again log t (txn_at was t))) (ids is) (ids was) apart' apart
    (λ t m. found-member was.unresolved t (again-some log t (txn_at was t)
    (subst IsSome (read.table.rows t) (member-found is.unresolved t m))))
    (λ t m. found-member is.unresolved t (subst IsSome (sym (read.table.rows t))
    (some-again log t (txn_at was t) (member-found was.unresolved t m))))
    ∙ sym (table-sum (λ t o. tasks_at (row_again log t o)) was apart)
    ∙ ap (λ (l : List Rec). tasks_again l was) (sym (log-here seen i low high ∙ ap records_of (kept-is (log_at new i) (seen i)
    (sym read.log.start) read.log.stands)))
