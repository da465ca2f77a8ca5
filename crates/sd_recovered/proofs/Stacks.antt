-- What holds of a transaction's stack, and of the stacks of several. It serves the goals of undone.
use Rattle.std.proofs.Common.{◌≡◌, Bool, true, false, cond, ◌&&◌, ◌||◌, List, [], ◌∷◌, ◌++◌, inl, inr, append_assoc, refl, sym, ap, ◌∙◌}
use Rattle.std.specs.List.{list_any}
use Rattle.sd_base.specs.declared.ids.TxnId.{TxnId}
use Rattle.sd_base.specs.Ids.{same_txn}
use Rattle.sd_logrec.specs.View.{Rec, Kind}
use Rattle.sd_logrec.specs.View.Kind.{Update, Clr, Commit, End, Plain}
use Rattle.sd_chain.specs.Records.{Each, moved, stack_from, step}
use Rattle.sd_chain.specs.Order.{of_txn, speaks}
use Rattle.sd_chain.specs.Storage.{Storage, opens}
use Rattle.sd_chain.specs.Undoing.{Member, stacks_of}
use Rattle.sd_chain.proofs.Lists.{Each-append, Each-front, Each-back}

-- a transaction without a record has nothing open
plain-kept : (k : Kind) (x : Rec) (stk : List Rec) → speaks k ≡ false → moved k x stk ≡ stk
plain-kept Update x stk e = absurd (cc)
plain-kept Clr x stk e = absurd (cc)
plain-kept Commit x stk e = absurd (cc)
plain-kept End x stk e = absurd (cc)
plain-kept Plain x stk e = refl

step-off : (t : TxnId) (stk : List Rec) (x : Rec) (a b : Bool) → speaks x.kind ≡ a → same_txn x.txn t ≡ b → (a && b) ≡ false
    → step t stk x ≡ stk
step-off t stk x true true e f g = absurd (cc)
step-off t stk x false true e f g =
    ap (λ (c : Bool). cond c (moved x.kind x stk) stk) f ∙ plain-kept x.kind x stk e
step-off t stk x a false e f g = ap (λ (c : Bool). cond c (moved x.kind x stk) stk) f

none-of : (t : TxnId) (stk xs : List Rec) → list_any (of_txn t) xs ≡ false → stack_from t stk xs ≡ stk
none-of t stk [] e = refl
none-of t stk (x ∷ xs) e =
    let h = parts (of_txn t x) (list_any (of_txn t) xs) e in
    ap (λ (l : List Rec). stack_from t l xs) (step-off t stk x (speaks x.kind) (same_txn x.txn t) refl refl h.0)
    ∙ none-of t stk xs h.1
  where
    parts : (a b : Bool) → (a || b) ≡ false → (a ≡ false) × (b ≡ false)
    parts true b e = absurd (cc)
    parts false b e = (refl, e)

-- the stacks of several
module _ (img : Storage) where
  pub stacks-append : (ts us : List TxnId) → stacks_of img (ts ++ us) ≡ stacks_of img ts ++ stacks_of img us
  stacks-append [] us = refl
  stacks-append (t ∷ ts) us =
      ap (λ (l : List Rec). opens img t ++ l) (stacks-append ts us)
      ∙ sym (append_assoc (opens img t) (stacks_of img ts) (stacks_of img us))

  pub each-stacks : (P : Rec → Type 0) (ts : List TxnId) → Each (λ t. Each P (opens img t)) ts → Each P (stacks_of img ts)
  each-stacks P [] a = tt
  each-stacks P (t ∷ ts) a = Each-append P (opens img t) (stacks_of img ts) a.0 (each-stacks P ts a.1)

  pub stacks-each : (P : Rec → Type 0) (ts : List TxnId) → Each P (stacks_of img ts) → Each (λ t. Each P (opens img t)) ts
  stacks-each P [] a = tt
  stacks-each P (t ∷ ts) a = (
    Each-front P (opens img t) (stacks_of img ts) a,
    stacks-each P ts (Each-back P (opens img t) (stacks_of img ts) a),
  )

pub member-front : (t : TxnId) (ts us : List TxnId) → Member t ts → Member t (ts ++ us)
member-front t [] us m = absurd m
member-front t (x ∷ xs) us (inl e) = inl e
member-front t (x ∷ xs) us (inr m) = inr (member-front t xs us m)

pub member-back : (t : TxnId) (ts us : List TxnId) → Member t us → Member t (ts ++ us)
member-back t [] us m = m
member-back t (x ∷ xs) us m = inr (member-back t xs us m)
