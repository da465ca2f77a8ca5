-- The orders of transactions and records tell the same ones, and the lower ones. It serves all look-ups in maps.
use Rattle.std.proofs.Common.{◌≡◌, ◌≢◌, ◌⊎◌, ℕ, ◌<◌, Bool, true, false, eqb, ◌&&◌, List, Option, refl, sym, ap, subst, ◌∙◌, arith, cond, inl, inr, ⊎_elim, eq-eqb, ne_eqb}
use Rattle.std.proofs.lemmas.Bool.{cases_eq, cases_lt, true≢false}
use Rattle.std.proofs.lemmas.Bool.Decides.{nat_tests}
use Rattle.std.specs.Ordering.{is_eq, is_gt, nat_cmp, ordering_then}
use Rattle.std.specs.declared.cmp.Ordering.{Ordering}
use Rattle.std.specs.declared.cmp.Ordering.TheVariants.{Less, Equal, Greater}
use Rattle.std.specs.Map.{lookup}
use Rattle.sd_base.specs.declared.ids.Rid.{Rid}
use Rattle.sd_base.specs.declared.ids.TxnId.{TxnId}
use Rattle.sd_base.specs.contracts.ids.RidOrd.TheImpl.{cmp-value as rid_order}
use Rattle.sd_base.specs.contracts.ids.TxnIdOrd.TheImpl.{cmp-value as txn_order}
use Rattle.sd_base.specs.Ids.{same_rid, same_txn, IsBelow}
use Rattle.sd_base.proofs.SameIds.{cases_rid, cases_txn, ne-same, ne-same_rid}

abbrev pub rid_cmp : Rid → Rid → Ordering
rid_cmp = rid_order.it

abbrev pub txn_cmp : TxnId → TxnId → Ordering
txn_cmp = txn_order.it

then_eq : (a b : Ordering) → is_eq (ordering_then a b) ≡ (is_eq a && is_eq b)
then_eq Less b = refl
then_eq Equal b = refl
then_eq Greater b = refl

nat_eq-cmp : (a b : ℕ) → is_eq (nat_cmp a b) ≡ eqb a b
nat_eq-cmp a b = grind (arith, nat_tests)

pub rid_is_eq : (a b : Rid) → is_eq (rid_cmp a b) ≡ same_rid a b
unfolding same_rid
rid_is_eq a b = then_eq (nat_cmp a.page b.page) (nat_cmp a.slot b.slot) ∙ rw (nat_eq-cmp a.page b.page, nat_eq-cmp a.slot b.slot) refl

pub txn_is_eq : (a b : TxnId) → is_eq (txn_cmp a b) ≡ same_txn a b
unfolding same_txn
txn_is_eq a b = then_eq (nat_cmp a.inst b.inst) (ordering_then (nat_cmp a.epoch b.epoch) (nat_cmp a.seq b.seq))
    ∙ ap (λ (x : Bool). is_eq (nat_cmp a.inst b.inst) && x) (then_eq (nat_cmp a.epoch b.epoch) (nat_cmp a.seq b.seq))
    ∙ rw (nat_eq-cmp a.inst b.inst, nat_eq-cmp a.epoch b.epoch, nat_eq-cmp a.seq b.seq) refl

-- the orders' look-ups
pub look-rid : {X : Type 0} (r : Rid) (rows : List (Rid × X)) → lookup (λ (k : Rid). is_eq (rid_cmp r k)) rows ≡ lookup (same_rid r) rows
look-rid r rows = ap (λ (test : Rid → Bool). lookup test rows) (λ i k. rid_is_eq r k i)

pub look-txn : {X : Type 0} (t : TxnId) (rows : List (TxnId × X)) → lookup (λ (k : TxnId). is_eq (txn_cmp t k)) rows ≡ lookup (same_txn t) rows
look-txn t rows = ap (λ (test : TxnId → Bool). lookup test rows) (λ i k. txn_is_eq t k i)

-- a change at one key, by the look-ups that specs cite
pub put-rid : {X : Type 0} (k q : Rid) (w : Option X) (old new : List (Rid × X)) → lookup (λ (r : Rid). is_eq (rid_cmp q r)) new ≡ cond (is_eq (rid_cmp k q)) w (lookup (λ (r : Rid). is_eq (rid_cmp q r)) old)
    → lookup (same_rid q) new ≡ cond (same_rid k q) w (lookup (same_rid q) old)
put-rid {X} k q w old new e = sym (look-rid q new) ∙ e
    ∙ ap (λ (b : Bool). cond b w (lookup (λ (r : Rid). is_eq (rid_cmp q r)) old)) (rid_is_eq k q)
    ∙ ap (λ (x : Option X). cond (same_rid k q) w x) (look-rid q old)

pub put-txn : {X : Type 0} (k q : TxnId) (w : Option X) (old new : List (TxnId × X)) → lookup (λ (t : TxnId). is_eq (txn_cmp q t)) new ≡ cond (is_eq (txn_cmp k q)) w (lookup (λ (t : TxnId). is_eq (txn_cmp q t)) old)
    → lookup (same_txn q) new ≡ cond (same_txn k q) w (lookup (same_txn q) old)
put-txn {X} k q w old new e = sym (look-txn q new) ∙ e
    ∙ ap (λ (b : Bool). cond b w (lookup (λ (t : TxnId). is_eq (txn_cmp q t)) old)) (txn_is_eq k q)
    ∙ ap (λ (x : Option X). cond (same_txn k q) w x) (look-txn q old)

nat_less : (a b : ℕ) → nat_cmp a b ≡ Less → a < b
nat_less a b e = grind (arith, nat_tests)

less_nat : (a b : ℕ) → a < b → nat_cmp a b ≡ Less
less_nat a b e = grind (arith, nat_tests)

nat_same : (a : ℕ) → nat_cmp a a ≡ Equal
nat_same a = grind (arith, nat_tests)

nat_equal : (a b : ℕ) → nat_cmp a b ≡ Equal → a ≡ b
nat_equal a b e = grind (arith, nat_tests)

then_less : (a b : Ordering) → ordering_then a b ≡ Less → (a ≡ Less) ⊎ ((a ≡ Equal) × (b ≡ Less))
then_less Less b e = inl refl
then_less Equal b e = inr (refl, e)
then_less Greater b e = absurd (cc)

pub below_from_cmp : (a b : TxnId) → txn_cmp a b ≡ Less → IsBelow a b
below_from_cmp a b e = ⊎_elim
    (λ i. inl (nat_less a.inst b.inst i))
    (λ h. ⊎_elim
    (λ j. inr (nat_equal a.inst b.inst h.0, inl (nat_less a.epoch b.epoch j)))
    (λ j. inr (nat_equal a.inst b.inst h.0, inr (nat_equal a.epoch b.epoch j.0, nat_less a.seq b.seq j.1)))
    (then_less (nat_cmp a.epoch b.epoch) (nat_cmp a.seq b.seq) h.1))
    (then_less (nat_cmp a.inst b.inst) (ordering_then (nat_cmp a.epoch b.epoch) (nat_cmp a.seq b.seq)) e)

pub cmp_from_below : (a b : TxnId) → IsBelow a b → txn_cmp a b ≡ Less
cmp_from_below a b h = ⊎_elim
    (λ i. rw (less_nat a.inst b.inst i) refl)
    (λ j. rw (subst (λ (n : ℕ). nat_cmp a.inst n ≡ Equal) j.0 (nat_same a.inst)) (⊎_elim
    (λ k. rw (less_nat a.epoch b.epoch k) refl)
    (λ k. rw (subst (λ (n : ℕ). nat_cmp a.epoch n ≡ Equal) k.0 (nat_same a.epoch)) (less_nat a.seq b.seq k.1))
    j.1))
    h

pub same-txn : (a : TxnId) → same_txn a a ≡ true
unfolding same_txn
same-txn a = rw (eq-eqb a.inst a.inst refl, eq-eqb a.epoch a.epoch refl, eq-eqb a.seq a.seq refl) refl

pub same-rid : (a : Rid) → same_rid a a ≡ true
unfolding same_rid
same-rid a = rw (eq-eqb a.page a.page refl, eq-eqb a.slot a.slot refl) refl

order : (a b : ℕ) → (a < b) ⊎ ((a ≡ b) ⊎ (b < a))
order a b = ⊎_elim (λ h. inl h) (λ h. ⊎_elim (λ e. inr (inl e)) (λ ne. inr (inr (omega arith))) (cases_eq a b)) (cases_lt a b)

-- of two others one is below the other
pub below_or_above : (a b : TxnId) → a ≢ b → IsBelow a b ⊎ IsBelow b a
below_or_above a b ne = ⊎_elim
    (λ i. inl (inl i))
    (⊎_elim
    (λ i. ⊎_elim
    (λ j. inl (inr (i, inl j)))
    (⊎_elim
    (λ j. ⊎_elim
    (λ k. inl (inr (i, inr (j, k))))
    (⊎_elim
    (λ k. absurd (ne (λ n. record { inst = i n; epoch = j n; seq = k n })))
    (λ k. inr (inr (sym i, inr (sym j, k)))))
    (order a.seq b.seq))
    (λ j. inr (inr (sym i, inl j))))
    (order a.epoch b.epoch))
    (λ i. inr (inl i)))
    (order a.inst b.inst)

pub not_below_itself : (a : TxnId) → IsBelow a a → ⊥
not_below_itself a h = ⊎_elim (λ i. omega arith) (λ i. ⊎_elim (λ j. omega arith) (λ j. let k = j.1 in omega arith) i.1) h

pub below_trans : (a b c : TxnId) → IsBelow a b → IsBelow b c → IsBelow a c
below_trans a b c h k = ⊎_elim
    (λ i. ⊎_elim (λ j. inl (omega arith)) (λ j. let e = j.0 in inl (omega arith)) k)
    (λ i. let e = i.0 in ⊎_elim
    (λ j. inl (omega arith))
    (λ j. let f = j.0 in inr (
      e ∙ f,
      ⊎_elim
          (λ m. ⊎_elim (λ n. inl (omega arith)) (λ n. let g = n.0 in inl (omega arith)) j.1)
          (λ m. let g = m.0 in let s = m.1 in ⊎_elim (λ n. inl (omega arith)) (λ n. let g' = n.0 in let s' = n.1 in inr (g ∙ g', omega arith)) j.1)
          i.1,
    ))
    k)
    h

pub same-txn-is : (a b : TxnId) → same_txn a b ≡ true → a ≡ b
same-txn-is a b e = ⊎_elim (λ h. h) (λ ne. absurd (true≢false (sym e ∙ ne-same a b ne))) (cases_txn a b)

pub same-rid-is : (a b : Rid) → same_rid a b ≡ true → a ≡ b
same-rid-is a b e = ⊎_elim (λ h. h) (λ ne. absurd (true≢false (sym e ∙ ne-same_rid a b ne))) (cases_rid a b)

not_below_by : (a b : TxnId) (o : Ordering) → txn_cmp a b ≡ o → is_gt o ≡ false → IsBelow b a → ⊥
not_below_by a b Less e f h = not_below_itself a (below_trans a b a (below_from_cmp a b e) h)
not_below_by a b Equal e f h = not_below_itself a (subst (λ (x : TxnId). IsBelow x a) (sym (same-txn-is a b (sym (txn_is_eq a b) ∙ ap is_eq e))) h)
not_below_by a b Greater e f h = absurd (true≢false f)

-- what isn't greater isn't above
pub not_below : (a b : TxnId) → is_gt (txn_cmp a b) ≡ false → IsBelow b a → ⊥
not_below a b f h = not_below_by a b (txn_cmp a b) refl f h

pub same_rid-sym : (a b : Rid) → same_rid a b ≡ same_rid b a
same_rid-sym a b = ⊎_elim
    (λ e. subst (λ (x : Rid). same_rid a x ≡ same_rid x a) e refl)
    (λ ne. ne-same_rid a b ne ∙ sym (ne-same_rid b a (λ e. ne (sym e))))
    (cases_rid a b)
