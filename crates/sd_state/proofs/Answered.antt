-- What answers of calls give, and what is read of a complex at a place: for the calls that change a complex.
use Rattle.std.proofs.Common.{◌≡◌, ◌≢◌, ◌⊎◌, inl, inr, ⊎_elim, ℕ, ◌-◌, ◌≤◌, Bool, true, List, [], ◌∷◌, length, get_or, slice_set, refl, sym, ap, ◌∙◌, arith, subst}
use Rattle.std.specs.Prelude.{Err, IfErr, IfOk, None, Ok, OnErr, OnOk, Result, option_map}
use Rattle.std.proofs.lemmas.Bool.{cases_eq}
use Rattle.std.proofs.Math.ListN.{get_or-map}
use Rattle.std.proofs.lemmas.List.{get_or_read, length-set, set-get_or}
use Rattle.std.specs.Box.{box_value}
use Rattle.std.specs.Global.{Box}
use Rattle.sd_page.specs.Page.{Page}
use Rattle.sd_pagelock.specs.Directory.{DirectoryState, moving_image_at}
use Rattle.sd_log.specs.Logs.{LogState}
use Rattle.sd_reclock.specs.Locks.{LockTable}
use Rattle.sd_txn.specs.Transactions.{Transactions}
use Rattle.sd_state.specs.Complexes.{unboxed}
use Rattle.sd_state.specs.Forcing.{with_forced}
use Rattle.sd_state.specs.Parts.{IsShape, Parts, among, is_loose, log_at, no_log, no_txns, owed_at, txns_at}
use Rattle.sd_state.specs.Working.{with_txns, with_working}
use Rattle.sd_state.proofs.Items.{item-is, item-kept, item-set}

pub nil-or : {A : Type 0} (xs : List A) → (xs ≡ []) ⊎ (xs ≢ [])
nil-or [] = inl refl
nil-or (x ∷ xs) = inr (λ e. let c = e in absurd (cc))

-- an item that is written as it was
pub same-set : {A : Type 0} (items : List A) (k : ℕ) (x y : A) → x ≡ get_or items k x → y ≡ x → slice_set items k y ≡ items
same-set items k x y is e = ap (slice_set items k) (e ∙ is) ∙ set-get_or items k x

-- the log that is lent at its place
pub log-lent : (c : Parts) (i at : ℕ) (log : LogState) → 1 ≤ i → i ≤ 8 → length c.logs ≡ 8 → at ≡ i - 1 → log ≡ get_or c.logs at log
    → log_at c i ≡ log
log-lent c i at log low high eight place is = item-is no_log c.logs i log low high eight (is ∙ ap (λ (n : ℕ). get_or c.logs n log) place)

-- the table that is lent at its place
pub table-lent : (c : Parts) (i at : ℕ) (table : Transactions) → 1 ≤ i → i ≤ 8 → length c.txns ≡ 8 → at ≡ i - 1
    → table ≡ get_or c.txns at table → txns_at c i ≡ table
table-lent c i at table low high eight place is =
    item-is no_txns c.txns i table low high eight (is ∙ ap (λ (n : ℕ). get_or c.txns n table) place)

-- and the one that is written there
pub table-set : (c : Parts) (i at : ℕ) (table : Transactions) → 1 ≤ i → i ≤ 8 → length c.txns ≡ 8 → at ≡ i - 1
    → among no_txns (slice_set c.txns at table) i ≡ table
table-set c i at table low high eight place =
    ap (λ (n : ℕ). among no_txns (slice_set c.txns n table) i) place ∙ item-set no_txns c.txns i table low high eight

-- the mark that is read of a device
pub mark-read : (c : Parts) (d at : ℕ) (b value : Bool) → d ≤ 8 → length c.loose ≡ 9 → at ≡ d → b ≡ get_or c.loose at b → value ≡ b
    → is_loose c d ≡ value
mark-read c d at b value high nine place is e =
    sym (get_or_read c.loose d b (omega (arith, high, nine)) (is ∙ ap (λ (n : ℕ). get_or c.loose n b) place) true) ∙ sym e

-- the shape stays where a log of the same instance is written
pub shape-log : (c : Parts) (i : ℕ) (x : LogState) → 1 ≤ i → i ≤ 8 → x.inst ≡ i → IsShape c
    → IsShape (record c { logs = slice_set c.logs (i - 1) x })
shape-log c i x low high inst s = record {
  logs = length-set c.logs (i - 1) x ∙ s.logs;
  pools = s.pools;
  txns = s.txns;
  statuses = s.statuses;
  epochs = s.epochs;
  masters = s.masters;
  checks = s.checks;
  others = s.others;
  owed = s.owed;
  loose = s.loose;
  own_log = λ j lo hi. ⊎_elim
      (λ e. subst (λ (k : ℕ). (log_at (record c { logs = slice_set c.logs (i - 1) x }) k).inst ≡ k) (sym e)
      (ap (λ (l : LogState). l.inst) (item-set no_log c.logs i x low high s.logs) ∙ inst))
      (λ ne. ap (λ (l : LogState). l.inst) (item-kept no_log c.logs i x low j ne) ∙ s.own_log j lo hi)
      (cases_eq j i);
  own_txns = s.own_txns;
}

-- the parts once log i and what it owes are written at a place
pub forced-parts : (c : Parts) (i at : ℕ) (x y : LogState) (owes : ℕ) → 1 ≤ i → i ≤ 8 → length c.owed ≡ 8 → at ≡ i - 1 → x ≡ y
    → record c { logs = slice_set c.logs at x; owed = slice_set c.owed at owes }
    ≡ with_forced i y (owed_at (record c { logs = slice_set c.logs at x; owed = slice_set c.owed at owes }) i) c
forced-parts c i at x y owes low high eight place same =
    ap (λ (n : ℕ). record c { logs = slice_set c.logs n x; owed = slice_set c.owed n owes }) place
    ∙ ap (λ (l : LogState). with_forced i l owes c) same
    ∙ ap (λ (w : ℕ). with_forced i y w c)
    (sym (ap (λ (n : ℕ). among 0 (slice_set c.owed n owes) i) place ∙ item-set 0 c.owed i owes low high eight))

-- an answer that is Ok has what comes with Ok
pub on-ok : {A B : Type 0} (r : Result A B) (x : A) (P : Type 0) → r ≡ Ok x → P → OnOk r P
on-ok {A = A} {B = B} r x P is h = subst (λ (s : Result A B). OnOk s P) (sym is) h

-- and so has an error what comes with an error
pub on-err : {A B : Type 0} (r : Result A B) (P : Type 0) → P → OnErr r P
on-err (Ok x) P h = tt
on-err (Err e) P h = h

abbrev bad : {A B : Type 0} → B → Result A B
bad y = Err y

-- an error isn't Ok
pub not-ok : {A B : Type 0} (x : A) (y : B) → bad y ≡ Ok x → ⊥
not-ok x y e = absurd (cc)

-- no image on its way, none in a box
pub none-unboxed : (d : DirectoryState (Box Page)) (p : ℕ) → moving_image_at d p ≡ None → moving_image_at (unboxed d) p ≡ None
none-unboxed d p none = get_or-map (option_map box_value) d.images p None ∙ ap (option_map box_value) none

pub still-unboxed : {E : Type 0} (r : Result (DirectoryState (Box Page)) E) → IfOk r (λ d. (p : ℕ) → moving_image_at d p ≡ None)
    → IfOk r (λ d. (p : ℕ) → moving_image_at (unboxed d) p ≡ None)
still-unboxed (Ok d) still = λ p. none-unboxed d p (still p)
still-unboxed (Err e) still = tt

-- An answer that is Ok has what is said of errors, and an error what is said of values.
pub ok-no_err : {A B : Type 0} (r : Result A B) (x : A) (P : Type 0) → r ≡ Ok x → OnErr r P
ok-no_err {A = A} {B = B} r x P is = subst (λ (s : Result A B). OnErr s P) (sym is) tt

pub err-no_ok : {A B : Type 0} (r : Result A B) (y : B) (P : Type 0) → r ≡ Err y → OnOk r P
err-no_ok {A = A} {B = B} r y P is = subst (λ (s : Result A B). OnOk s P) (sym is) tt

pub err-if_no : {A B : Type 0} (r : Result A B) (y : B) (P : A → Type 0) → r ≡ Err y → IfOk r P
err-if_no {A = A} {B = B} r y P is = subst (λ (s : Result A B). IfOk s P) (sym is) tt

-- an error that is passed on
pub err-if : {A B : Type 0} (r : Result A B) (y z : B) (P : B → Type 0) → r ≡ Err y → y ≡ z → P z → IfErr r P
err-if {A = A} {B = B} r y z P is same h =
    subst (λ (s : Result A B). IfErr s P) (sym is) (subst P (sym same) h)

pub passed-on : {A B : Type 0} (r s : Result A B) (y z : B) → r ≡ Err z → s ≡ Err y → y ≡ z → r ≡ s
passed-on r s y z from to same = cc

-- the parts once the table of instance i and the locks are written
pub worked-parts : (c : Parts) (i at : ℕ) (table : Transactions) (locks : LockTable) → 1 ≤ i → i ≤ 8 → length c.txns ≡ 8 → at ≡ i - 1
    → record c { txns = slice_set c.txns at table; locks = locks }
    ≡ with_working i (txns_at (record c { txns = slice_set c.txns at table; locks = locks }) i) locks c
worked-parts c i at table locks low high eight place =
    ap (λ (n : ℕ). record c { txns = slice_set c.txns n table; locks = locks }) place
    ∙ ap (λ (tb : Transactions). with_working i tb locks c) (sym (table-set c i at table low high eight place))

-- and once the table alone is
pub turned-parts : (c : Parts) (i at : ℕ) (table : Transactions) → 1 ≤ i → i ≤ 8 → length c.txns ≡ 8 → at ≡ i - 1
    → record c { txns = slice_set c.txns at table }
    ≡ with_txns i (txns_at (record c { txns = slice_set c.txns at table }) i) c
turned-parts c i at table low high eight place =
    ap (λ (n : ℕ). record c { txns = slice_set c.txns n table }) place
    ∙ ap (λ (tb : Transactions). with_txns i tb c) (sym (table-set c i at table low high eight place))
