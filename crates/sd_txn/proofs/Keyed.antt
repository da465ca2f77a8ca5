-- The transactions of a list by their numbers: for the goals of the calls of `TxnList` and `TxnTable`.
use Rattle.std.proofs.Common.{◌≡◌, ◌≢◌, ◌-◌, length, Bool, true, false, cond, ◌&&◌, eqb, List, [], ◌∷◌, ◌++◌, None, Some, IsSome, is_some, option_map, refl, sym, ap, subst, ◌∙◌}
use Rattle.std.proofs.lemmas.Bool.{eqb-true}
use Rattle.std.proofs.lemmas.List.{map-append}
use Rattle.std.specs.Cmp.{IsEquivalence, nat_eq_equiv}
use Rattle.std.specs.List.{IsDistinct, slice_get}
use Rattle.std.proofs.lemmas.Map.Entries.{lookup_from_place}
use Rattle.std.specs.Map.{keys_of, lookup, remove_entry, set_value}
use Rattle.indexmap.specs.IndexMap.{insert_entry}
use Rattle.sd_base.specs.declared.ids.TxnId.{TxnId}
use Rattle.sd_base.specs.contracts.ids.TxnIdPartialEq.TheImpl.{eq-value}
use Rattle.sd_base.specs.Ids.{same_txn}
use Rattle.sd_txn.specs.Transactions.{Transaction, Transactions, txn_at, Replaces}

pub same-eq : (t u : TxnId) → eq-value.it t u ≡ same_txn t u
unfolding same_txn
same-eq t u = refl

-- the map's test is the list's
pub tests : eq-value.it ≡ same_txn
tests = λ i t u. same-eq t u i

pub tests_of : (t : TxnId) → eq-value.it t ≡ same_txn t
tests_of t = λ i. tests i t

both : (a b : Bool) → (a && b) ≡ true → (a ≡ true) × (b ≡ true)
both true b e = (refl, e)
both false b e = absurd (cc)

-- transactions that pass the test are the same
pub same_txn-is : (t u : TxnId) → same_txn t u ≡ true → t ≡ u
unfolding same_txn
same_txn-is t u e =
    let one = both (eqb t.inst u.inst) (eqb t.epoch u.epoch && eqb t.seq u.seq) e in
    let two = both (eqb t.epoch u.epoch) (eqb t.seq u.seq) one.1 in
    λ i. record { inst = eqb-true t.inst u.inst one.0 i; epoch = eqb-true t.epoch u.epoch two.0 i; seq = eqb-true t.seq u.seq two.1 i }

-- and others don't pass it
pub same_txn-other : (t u : TxnId) → u ≢ t → same_txn t u ≡ false
same_txn-other t u apart = by (same_txn t u) refl
  where
    by : (b : Bool) → same_txn t u ≡ b → same_txn t u ≡ false
    by true e = absurd (apart (sym (same_txn-is t u e)))
    by false e = e

pub same_txn-self : (t : TxnId) → same_txn t t ≡ true
unfolding same_txn
same_txn-self t = (λ i. nat_eq_equiv.refl t.inst i && (nat_eq_equiv.refl t.epoch i && nat_eq_equiv.refl t.seq i))

txn_equiv : IsEquivalence same_txn
unfolding same_txn
txn_equiv = record {
  refl = same_txn-self;
  symm = λ t u i. nat_eq_equiv.symm t.inst u.inst i && (nat_eq_equiv.symm t.epoch u.epoch i && nat_eq_equiv.symm t.seq u.seq i);
  congr = λ t u v e. ap (λ (x : TxnId). same_txn x v) (same_txn-is t u e);
}

-- the last one is found by its number
pub lookup-last : {X : Type 0} (t last : TxnId) (x : X) (es : List (TxnId × X)) → IsDistinct same_txn (keys_of es)
    → slice_get es (length es - 1) ≡ Some (last, x) → same_txn last t ≡ true → lookup (same_txn t) es ≡ Some x
lookup-last {X} t last x es once at same =
    ap (λ (u : TxnId). lookup (same_txn u) es) (sym (same_txn-is last t same)) ∙ lookup_from_place txn_equiv es (length es - 1) last x once at

module _ {X : Type 0} (t : TxnId) (w : X) where
  -- what is set is found
  pub lookup-set_value : (es : List (TxnId × X)) → IsSome (lookup (same_txn t) es) → lookup (same_txn t) (set_value (same_txn t) es w) ≡ Some w
  lookup-set_value [] h = cc
  lookup-set_value (e ∷ es) h = (elim (same_txn t e.0) as (λ b. same_txn t e.0 ≡ b → IsSome (cond b (Some e.1) (lookup (same_txn t) es)) → lookup (same_txn t) (cond b ((e.0, w) ∷ es) (e ∷ set_value (same_txn t) es w)) ≡ Some w) [
    | true ↦ λ is h. ap (λ b. cond b (Some w) (lookup (same_txn t) es)) is
    | false ↦ λ is h. ap (λ b. cond b (Some e.1) (lookup (same_txn t) (set_value (same_txn t) es w))) is ∙ lookup-set_value es h
  ]) refl h

  -- the others are found as before
  pub lookup-set_value_other : (u : TxnId) → u ≢ t → (es : List (TxnId × X)) → lookup (same_txn u) (set_value (same_txn t) es w) ≡ lookup (same_txn u) es
  lookup-set_value_other u apart [] = refl
  lookup-set_value_other u apart (e ∷ es) = (elim (same_txn t e.0) as (λ b. same_txn t e.0 ≡ b → lookup (same_txn u) (cond b ((e.0, w) ∷ es) (e ∷ set_value (same_txn t) es w)) ≡ cond (same_txn u e.0) (Some e.1) (lookup (same_txn u) es)) [
    | true ↦ λ is. let not : same_txn u e.0 ≡ false = same_txn-other u e.0 (λ same. apart (sym same ∙ sym (same_txn-is t e.0 is))) in
        ap (λ b. cond b (Some w) (lookup (same_txn u) es)) not ∙ sym (ap (λ b. cond b (Some e.1) (lookup (same_txn u) es)) not)
    | false ↦ λ is. ap (λ r. cond (same_txn u e.0) (Some e.1) r) (lookup-set_value_other u apart es)
  ]) refl

  -- and the order stays
  pub keys-set_value : (es : List (TxnId × X)) → keys_of (set_value (same_txn t) es w) ≡ keys_of es
  keys-set_value [] = refl
  keys-set_value (e ∷ es) = elim (same_txn t e.0) as (λ b. keys_of (cond b ((e.0, w) ∷ es) (e ∷ set_value (same_txn t) es w)) ≡ e.0 ∷ keys_of es) [
    | true ↦ refl
    | false ↦ ap (λ ks. e.0 ∷ ks) (keys-set_value es)
  ]

  -- one that is there is written in its place
  pub insert_entry-held : (es : List (TxnId × X)) (x : X) → lookup (same_txn t) es ≡ Some x → insert_entry same_txn es t w ≡ set_value (same_txn t) es w
  insert_entry-held [] x h = cc
  insert_entry-held (e ∷ es) x h = (elim (same_txn t e.0) as (λ b. cond b (Some e.1) (lookup (same_txn t) es) ≡ Some x → cond b ((e.0, w) ∷ es) (e ∷ insert_entry same_txn es t w) ≡ cond b ((e.0, w) ∷ es) (e ∷ set_value (same_txn t) es w)) [
    | true ↦ λ h. refl
    | false ↦ λ h. ap (λ l. e ∷ l) (insert_entry-held es x h)
  ]) h

  pub keys-insert_entry_held : (es : List (TxnId × X)) (x : X) → lookup (same_txn t) es ≡ Some x → keys_of (insert_entry same_txn es t w) ≡ keys_of es
  keys-insert_entry_held es x h = ap keys_of (insert_entry-held es x h) ∙ keys-set_value es

  -- another goes last
  pub insert_entry-absent : (es : List (TxnId × X)) → lookup (same_txn t) es ≡ None → insert_entry same_txn es t w ≡ es ++ (t, w) ∷ []
  insert_entry-absent [] h = refl
  insert_entry-absent (e ∷ es) h = (elim (same_txn t e.0) as (λ b. cond b (Some e.1) (lookup (same_txn t) es) ≡ None → cond b ((e.0, w) ∷ es) (e ∷ insert_entry same_txn es t w) ≡ e ∷ (es ++ (t, w) ∷ [])) [
    | true ↦ λ h. cc
    | false ↦ λ h. ap (λ l. e ∷ l) (insert_entry-absent es h)
  ]) h

  pub keys-insert_entry : (es : List (TxnId × X)) → lookup (same_txn t) es ≡ None → keys_of (insert_entry same_txn es t w) ≡ keys_of es ++ t ∷ []
  keys-insert_entry es h = ap keys_of (insert_entry-absent es h) ∙ map-append (λ (e : TxnId × X). e.0) es ((t, w) ∷ [])

  pub lookup-insert_entry : (es : List (TxnId × X)) → lookup (same_txn t) (insert_entry same_txn es t w) ≡ Some w
  lookup-insert_entry [] = ap (λ b. cond b (Some w) None) (same_txn-self t)
  lookup-insert_entry (e ∷ es) = (elim (same_txn t e.0) as (λ b. same_txn t e.0 ≡ b → lookup (same_txn t) (cond b ((e.0, w) ∷ es) (e ∷ insert_entry same_txn es t w)) ≡ Some w) [
    | true ↦ λ is. ap (λ b. cond b (Some w) (lookup (same_txn t) es)) is
    | false ↦ λ is. ap (λ b. cond b (Some e.1) (lookup (same_txn t) (insert_entry same_txn es t w))) is ∙ lookup-insert_entry es
  ]) refl

  pub lookup-insert_entry_other : (u : TxnId) → u ≢ t → (es : List (TxnId × X)) → lookup (same_txn u) (insert_entry same_txn es t w) ≡ lookup (same_txn u) es
  lookup-insert_entry_other u apart [] = ap (λ b. cond b (Some w) None) (same_txn-other u t (λ e. apart (sym e)))
  lookup-insert_entry_other u apart (e ∷ es) = (elim (same_txn t e.0) as (λ b. same_txn t e.0 ≡ b → lookup (same_txn u) (cond b ((e.0, w) ∷ es) (e ∷ insert_entry same_txn es t w)) ≡ cond (same_txn u e.0) (Some e.1) (lookup (same_txn u) es)) [
    | true ↦ λ is. let not : same_txn u e.0 ≡ false = same_txn-other u e.0 (λ same. apart (sym same ∙ sym (same_txn-is t e.0 is))) in
        ap (λ b. cond b (Some w) (lookup (same_txn u) es)) not ∙ sym (ap (λ b. cond b (Some e.1) (lookup (same_txn u) es)) not)
    | false ↦ λ is. ap (λ r. cond (same_txn u e.0) (Some e.1) r) (lookup-insert_entry_other u apart es)
  ]) refl

module _ {X : Type 0} (t : TxnId) where
  -- the others are found as before
  pub lookup-remove_entry_other : (u : TxnId) → u ≢ t → (es : List (TxnId × X)) → lookup (same_txn u) (remove_entry (same_txn t) es) ≡ lookup (same_txn u) es
  lookup-remove_entry_other u apart [] = refl
  lookup-remove_entry_other u apart (e ∷ es) = (elim (same_txn t e.0) as (λ b. same_txn t e.0 ≡ b → lookup (same_txn u) (cond b es (e ∷ remove_entry (same_txn t) es)) ≡ cond (same_txn u e.0) (Some e.1) (lookup (same_txn u) es)) [
    | true ↦ λ is. let not : same_txn u e.0 ≡ false = same_txn-other u e.0 (λ same. apart (sym same ∙ sym (same_txn-is t e.0 is))) in
        sym (ap (λ b. cond b (Some e.1) (lookup (same_txn u) es)) not)
    | false ↦ λ is. ap (λ r. cond (same_txn u e.0) (Some e.1) r) (lookup-remove_entry_other u apart es)
  ]) refl

  -- one that isn't there isn't taken out
  pub remove_entry-absent : (es : List (TxnId × X)) → lookup (same_txn t) es ≡ None → remove_entry (same_txn t) es ≡ es
  remove_entry-absent [] h = refl
  remove_entry-absent (e ∷ es) h = (elim (same_txn t e.0) as (λ b. cond b (Some e.1) (lookup (same_txn t) es) ≡ None → cond b es (e ∷ remove_entry (same_txn t) es) ≡ e ∷ es) [
    | true ↦ λ h. cc
    | false ↦ λ h. ap (λ l. e ∷ l) (remove_entry-absent es h)
  ]) h

-- the table once a transaction's part was written
pub sets : (table old : Transactions) → table ≡ old → (new : List (TxnId × Transaction)) (t : TxnId) (y x : Transaction)
    → new ≡ set_value (same_txn t) table.unresolved x → txn_at table t ≡ Some y
    → Replaces old (record { inst = table.inst; epoch = table.epoch; begins = table.begins; unresolved = new }) t y x
sets table old is new t y x e at = subst (λ (o : Transactions). Replaces o (record { inst = table.inst; epoch = table.epoch; begins = table.begins; unresolved = new }) t y x) is (record {
  was = at;
  now = ap (lookup (same_txn t)) e ∙ lookup-set_value t x table.unresolved (ap is_some at);
  others = λ u apart. ap (lookup (same_txn u)) e ∙ lookup-set_value_other t x u apart table.unresolved;
  order = record { same_ids = ap keys_of e ∙ keys-set_value t x table.unresolved; same_inst = refl; same_epoch = refl; same_begins = refl };
})

-- so it is what a change makes of what it was
pub changed : (f : Transaction → Transaction) (old new : Transactions) (t : TxnId) (y x : Transaction) → Replaces old new t y x → x ≡ f y → txn_at new t ≡ option_map f (txn_at old t)
changed f old new t y x s e = s.now ∙ ap Some e ∙ sym (ap (option_map f) s.was)

-- where nothing was written, it is what it was
pub same : (old new : Transactions) (t : TxnId) (y x : Transaction) → Replaces old new t y x → x ≡ y → txn_at new t ≡ txn_at old t
same old new t y x s e = s.now ∙ ap Some e ∙ sym s.was
