-- The waits after an answer. It serves the goals of crates above that keep waits.
use Rattle.std.proofs.Common.{◌≡◌, ℕ, List, [], ◌∷◌, not, nat_eq, Option, Some, None, Bool, true, false, cond, refl, sym, ap, ◌∙◌}
use Rattle.std.proofs.lemmas.Bool.{cond-true, cond-false}
use Rattle.std.specs.List.{filter}
use Rattle.std.specs.Map.{lookup}
use Rattle.std.specs.Option.{option_map}
use Rattle.sd_base.specs.declared.ids.TxnId.{TxnId}
use Rattle.sd_base.specs.Ids.{same_txn}
use Rattle.sd_base.specs.Waits.{Wait, with_wait}
use Rattle.sd_reclock.specs.declared.wait.Asked.{Asked}
use Rattle.sd_reclock.specs.Waiting.{wait_of, waits_in}
use Rattle.sd_base.proofs.Orders.{same-txn-is}

-- the transaction t has w now, and the others have what they had
abbrev pub PutsTxn : {X : Type 0} → List (TxnId × X) → List (TxnId × X) → TxnId → Option X → Type 0
PutsTxn {X} old new t w = (u : TxnId) → lookup (same_txn u) new ≡ cond (same_txn t u) w (lookup (same_txn u) old)

pub map-cond : (b : Bool) (x y : Option Asked) → option_map wait_of (cond b x y) ≡ cond {A = Option Wait} b (option_map wait_of x) (option_map wait_of y)
map-cond true x y = refl
map-cond false x y = refl

-- a change of one transaction's wait
pub waits_change : (old new : List (TxnId × Asked)) (t : TxnId) (x : Option Asked) → PutsTxn old new t x → (u : TxnId) → waits_in new u ≡ with_wait t (option_map wait_of x) (waits_in old) u
waits_change old new t x puts u = ap (λ (o : Option Asked). option_map wait_of o) (puts u) ∙ map-cond (same_txn t u) x (lookup (same_txn u) old)

cond-none : (b : Bool) → None ≡ cond {A = Option Asked} b None None
cond-none true = refl
cond-none false = refl

-- a look-up in what a test of the keys keeps
pub lookup-kept : (p : TxnId → Bool) (u : TxnId) (es : List (TxnId × Asked)) → lookup (same_txn u) (filter (λ e. p e.0) es) ≡ cond {A = Option Asked} (p u) (lookup (same_txn u) es) None
lookup-kept p u [] = cond-none (p u)
lookup-kept p u (e ∷ es) = at (same_txn u e.0) (p e.0) refl refl (lookup-kept p u es)
  where
    keeps : (q : Bool) → same_txn u e.0 ≡ true → p e.0 ≡ q → p u ≡ q
    keeps q same is = ap p (same-txn-is u e.0 same) ∙ is

    at : (b q : Bool) → same_txn u e.0 ≡ b → p e.0 ≡ q → lookup (same_txn u) (filter (λ x. p x.0) es) ≡ cond {A = Option Asked} (p u) (lookup (same_txn u) es) None
        → lookup (same_txn u) (cond q (e ∷ filter (λ x. p x.0) es) (filter (λ x. p x.0) es)) ≡ cond {A = Option Asked} (p u) (cond b (Some e.1) (lookup (same_txn u) es)) None
    at true true same is rest = cond-true (same_txn u e.0) (Some e.1) (lookup (same_txn u) (filter (λ x. p x.0) es)) same ∙ sym (cond-true (p u) (Some e.1) None (keeps true same is))
    at true false same is rest = rest ∙ cond-false (p u) (lookup (same_txn u) es) None (keeps false same is) ∙ sym (cond-false (p u) (Some e.1) None (keeps false same is))
    at false true same is rest = cond-false (same_txn u e.0) (Some e.1) (lookup (same_txn u) (filter (λ x. p x.0) es)) same ∙ rest
    at false false same is rest = rest

map-not : (b : Bool) (x : Option Asked) → option_map wait_of (cond {A = Option Asked} (not b) x None) ≡ cond {A = Option Wait} b None (option_map wait_of x)
map-not true x = refl
map-not false x = refl

-- the waits that are left where those of an instance are dropped
pub waits_kept : (old new : List (TxnId × Asked)) (i : ℕ) → new ≡ filter (λ e. not (nat_eq e.0.inst i)) old → (u : TxnId) → waits_in new u ≡ cond {A = Option Wait} (nat_eq u.inst i) None (waits_in old u)
waits_kept old new i e u = ap (λ (es : List (TxnId × Asked)). option_map wait_of (lookup (same_txn u) es)) e
    ∙ ap (λ (o : Option Asked). option_map wait_of o) (lookup-kept (λ k. not (nat_eq k.inst i)) u old) ∙ map-not (nat_eq u.inst i) (lookup (same_txn u) old)
