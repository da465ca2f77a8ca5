-- A step leaves one task less in its table: for the tasks of a recovery.
use Rattle.std.proofs.Common.{◌≡◌, ◌⊎◌, ⊎_elim, ℕ, suc, ◌+◌, ◌-◌, Bool, true, false, cond, List, [], ◌∷◌, length, refl, sym, ap, ◌∙◌, arith}
use Rattle.std.specs.Prelude.{None, Some, if◌then◌else◌, is_some, option_map, slice_get}
use Rattle.std.specs.List.{IsDistinct, list_any}
use Rattle.std.proofs.lemmas.Bool.{cases_Bool}
use Rattle.std.proofs.lemmas.List.{length-map, length-reverse}
use Rattle.sd_base.specs.Ids.{same_txn}
use Rattle.sd_base.specs.declared.ids.TxnId.{TxnId}
use Rattle.sd_logrec.specs.View.{Rec}
use Rattle.sd_txn.specs.Owing.{records_owed}
use Rattle.sd_txn.specs.Transactions.{OthersStay, Replaces, SameOrder, Transaction, Transactions, ids, noted, popped, shut, top, txn_at, with_state}
use Rattle.sd_txn.specs.declared.state.OpenRec.{OpenRec}
use Rattle.sd_txn.specs.declared.state.TxnState.{TxnState}
use Rattle.sd_txn.proofs.Owing.{records_owed-popped, total-replaced}
use Rattle.sd_chain.specs.Order.{of_txn}
use Rattle.sd_chain.specs.Records.{stack}
use Rattle.sd_chain.proofs.Whose.{stack-none}
use Rattle.sd_state.specs.Recovering.{decided_as}
use Rattle.sd_state.specs.Tables.{IsLogged, IsShut}
use Rattle.sd_state.specs.Values.{open_of}
use Rattle.sd_state.proofs.ChangedLists.{span-there}
use Rattle.sd_recover.specs.Tasks.{row_is_doubt, tasks_in, tasks_of}

-- a decision is made
pub decided-fewer : (old new : Transactions) (t : TxnId) (x : Transaction) (b : Bool) → IsDistinct same_txn (ids old) → txn_at old t ≡ Some x
    → x.state ≡ TxnState.Doubt → txn_at new t ≡ option_map (with_state (decided_as b)) (txn_at old t) → OthersStay old new t → SameOrder old new
    → suc (tasks_in new) ≡ tasks_in old
decided-fewer old new t x b once was doubt now others order =
    let moves : tasks_in new + tasks_of x ≡ tasks_in old + tasks_of (with_state (decided_as b) x) =
    total-replaced tasks_of old new t x (with_state (decided_as b) x) once
    (record { was = was; now = now ∙ ap (option_map (with_state (decided_as b))) was; others = others; order = order }) in
    let before : tasks_of x ≡ 1 + records_owed x = ap (λ (s : TxnState). cond (row_is_doubt (Some s)) 1 0 + records_owed x) doubt in
    let after = decided b in
    omega (arith, moves, before, after)
  where
    decided : (b : Bool) → tasks_of (with_state (decided_as b) x) ≡ records_owed x
    decided true = omega arith
    decided false = omega arith

abbrev one_where : Bool → ℕ
one_where b = if b then 1 else 0

-- an End came
pub ended-fewer : (old new : Transactions) (t : TxnId) (x : Transaction) → IsDistinct same_txn (ids old) → Replaces old new t x (shut x)
    → is_some x.span ≡ true → x.stack ≡ [] → suc (tasks_in new) ≡ tasks_in old
ended-fewer old new t x once r there empty =
    let moves : tasks_in new + tasks_of x ≡ tasks_in old + tasks_of (shut x) = total-replaced tasks_of old new t x (shut x) once r in
    let span = ap one_where there in
    let none = ap length empty in
    omega (arith, moves, span, none)

-- a record was undone
pub undone-fewer : (old new : Transactions) (t : TxnId) (x : Transaction) (o : OpenRec) (lsn : ℕ) → IsDistinct same_txn (ids old)
    → Replaces old new t x (noted lsn (popped x)) → top x ≡ Some o → is_some x.span ≡ true → suc (tasks_in new) ≡ tasks_in old
undone-fewer old new t x o lsn once r last there =
    let moves : tasks_in new + tasks_of x ≡ tasks_in old + tasks_of (noted lsn (popped x)) =
    total-replaced tasks_of old new t x (noted lsn (popped x)) once r in
    let span = ap one_where there in
    let fewer = records_owed-popped x o last in
    omega (arith, moves, span, fewer)

-- who has an open record has a record
pub span-some : (x : Transaction) (t : TxnId) (log : List Rec) → IsLogged x t log → (stack t log ≡ [] → ⊥) → is_some x.span ≡ true
span-some x t log l open_one = ap is_some l.span ∙ span-there t log ∙ ⊎_elim (λ there. there)
    (λ none. absurd (open_one (stack-none t log none))) (cases_Bool (list_any (of_txn t) log))

no-length : {A : Type 0} (xs : List A) → length xs ≡ 0 → xs ≡ []
no-length [] e = refl
no-length (x ∷ xs) e = absurd (cc)

none-of : (x : Transaction) (o : OpenRec) → top x ≡ Some o → x.stack ≡ [] → ⊥
none-of x o last empty =
    let none : None ≡ Some o = sym (ap (λ (xs : List OpenRec). slice_get xs (length xs - 1)) empty) ∙ last in cc

-- whose row has an open record has a record
pub row-some : (x : Transaction) (t : TxnId) (log : List Rec) (o : OpenRec) → top x ≡ Some o → (IsLogged x t log ⊎ IsShut x t log)
    → is_some x.span ≡ true
row-some x t log o last = ⊎_elim
    (λ (l : IsLogged x t log). span-some x t log l (λ e. none-of x o last (no-length x.stack
    (let a = ap length l.open_ones in let b = length-reverse x.stack in let c = length-map (stack t log) open_of in let d = ap length e in
    omega (arith, a, b, c, d)))))
    (λ (s : IsShut x t log). absurd (none-of x o last s.emptied))
