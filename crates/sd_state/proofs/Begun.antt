-- Each record is of a transaction that began: for `begun` of the invariant.
use Rattle.std.proofs.Common.{◌≡◌, ◌≢◌, inl, inr, ⊎_elim, ℕ, ◌<◌, ◌≤◌, true, List, [], ◌∷◌, ◌++◌, sym, ap, ◌∙◌, subst, arith}
use Rattle.sd_base.specs.declared.ids.TxnId.{TxnId}
use Rattle.sd_base.specs.declared.place.Status.TheVariants as S
use Rattle.sd_logrec.specs.View.{Rec}
use Rattle.sd_model.specs.Listed.{Below, EachBelow, IsAmong, Listed}
use Rattle.sd_model.specs.State.{State}
use Rattle.sd_model.specs.declared.act.Life.{Life}
use Rattle.sd_chain.specs.Order.{speaks}
use Rattle.sd_chain.specs.Records.{Each, home}
use Rattle.sd_chain.proofs.Lists.{Each-append}
use Rattle.sd_state.specs.Good.{IsOfBegun, IsOlder}

below-among : (m : State) (us : List TxnId) (t : TxnId) → EachBelow m.inst us → IsAmong t us → Below m.inst t
below-among m [] t b is = absurd is
below-among m (u ∷ us) t b (inl e) = subst (Below m.inst) (sym e) b.0
below-among m (u ∷ us) t b (inr is) = below-among m us t b.1 is

-- whoever is there has begun
pub began-there : (m : State) (t : TxnId) → Listed m → (m.part t).life ≢ Life.Gone → Below m.inst t
began-there m t l there = below-among m m.begun t l.bounds (l.there t there)

number-of : (m : State) (i : ℕ) (t : TxnId) → home t ≡ i → (m.inst i).status ≡ S.Up → Below m.inst t
    → t.epoch ≡ (m.inst i).epoch → t.seq ≤ (m.inst i).begins
number-of m i t own up below epoch = ⊎_elim
    (λ lt. let e = ap (λ (n : ℕ). (m.inst n).epoch) own in absurd (omega (arith, lt, e, epoch)))
    (λ same. let e = ap (λ (n : ℕ). (m.inst n).begins) own in
    let le = same.1 (ap (λ (n : ℕ). (m.inst n).status) own ∙ up) in omega (arith, le, e))
    below

-- one more record, of a transaction that has begun or of none
pub begun-more : (m : State) (i : ℕ) (y : Rec) (log : List Rec) → (m.inst i).status ≡ S.Up
    → (speaks y.kind ≡ true → home y.txn ≡ i) → (speaks y.kind ≡ true → Below m.inst y.txn)
    → Each (IsOfBegun (m.inst i)) log → Each (IsOfBegun (m.inst i)) (log ++ y ∷ [])
begun-more m i y log up own below each = Each-append (IsOfBegun (m.inst i)) log (y ∷ []) each
    (λ spoken epoch. number-of m i y.txn (own spoken) up (below spoken) epoch, tt)

-- and of an earlier epoch than one that is above its instance's
pub older-more : (m : State) (i epoch : ℕ) (y : Rec) (log : List Rec) → (m.inst i).epoch < epoch
    → (speaks y.kind ≡ true → home y.txn ≡ i) → (speaks y.kind ≡ true → Below m.inst y.txn)
    → Each (IsOlder epoch) log → Each (IsOlder epoch) (log ++ y ∷ [])
older-more m i epoch y log above own below each = Each-append (IsOlder epoch) log (y ∷ []) each (
  λ spoken. let e = ap (λ (n : ℕ). (m.inst n).epoch) (own spoken) in
      ⊎_elim (λ lt. omega (arith, lt, e, above)) (λ same. let s = same.0 in omega (arith, s, e, above)) (below spoken),
  tt,
)
