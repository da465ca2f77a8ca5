-- What one more record does to the stacks of the image.
use Rattle.std.proofs.Common.{◌≡◌, ◌≢◌, ⊎_elim, ℕ, Bool, true, false, ◌&&◌, List, [], ◌∷◌, refl, sym, ap, ◌∙◌, subst}
use Rattle.std.proofs.lemmas.Bool.{cases_eq}
use Rattle.sd_logrec.specs.View.{Rec, Kind}
use Rattle.sd_base.specs.declared.ids.TxnId.{TxnId}
use Rattle.sd_base.specs.Ids.{same_txn}
use Rattle.sd_chain.specs.Records.{ends, Each, home, stack, step, stack_from, moved, rest}
use Rattle.sd_logrec.specs.View.Kind.{Update, Clr, Commit, End, Plain}
use Rattle.sd_chain.specs.Storage.{Storage, opens, Open}
use Rattle.sd_chain.specs.Changes.{Appended}
use Rattle.sd_chain.proofs.Lists.{Each-append, Each-front}
use Rattle.sd_chain.proofs.Stacks.{stack-push, step-other, step-own}
use Rattle.sd_base.proofs.SameIds.{cases_txn, ne-same}

-- the records of a stack are Updates of its transaction that stand in the log
pub Each-rest : (P : Rec → Type 0) (xs : List Rec) → Each P xs → Each P (rest xs)
Each-rest P [] a = tt
Each-rest P (x ∷ xs) a = a.1

pub Each-moved : (P : Rec → Type 0) (k : Kind) (x : Rec) (stk : List Rec) → (k ≡ Update → P x) → Each P stk → Each P (moved k x stk)
Each-moved P Update x stk h a = (h refl, a)
Each-moved P Clr x stk h a = Each-rest P stk a
Each-moved P Commit x stk h a = a
Each-moved P End x stk h a = a
Each-moved P Plain x stk h a = a

pub Each-stack_from : (P : Rec → Type 0) (t : TxnId) (stk xs : List Rec) → Each P stk
    → Each (λ x. x.txn ≡ t → x.kind ≡ Update → P x) xs → Each P (stack_from t stk xs)
Each-stack_from P t stk [] a b = a
Each-stack_from P t stk (x ∷ xs) a b =
    Each-stack_from P t (step t stk x) xs
    (⊎_elim (λ e. subst (Each P) (sym (step-own t stk x e)) (Each-moved P x.kind x stk (b.0 e) a))
    (λ ne. subst (Each P) (sym (step-other t stk x ne)) a) (cases_txn x.txn t)) b.1

pub Each-stack : (P : Rec → Type 0) (t : TxnId) (log : List Rec) → Each (λ x. x.txn ≡ t → x.kind ≡ Update → P x) log
    → Each P (stack t log)
Each-stack P t log b = Each-stack_from P t [] log tt b

module _ (i : ℕ) (y : Rec) (old new : Storage) (app : Appended i y old new) where
  pub opens-other : (t : TxnId) → t ≢ y.txn → opens new t ≡ opens old t
  opens-other t ne = ⊎_elim
      (λ e. ap (λ (k : ℕ). stack t (new.logs k)) e ∙ ap (stack t) app.here ∙ stack-push t (old.logs i) y
      ∙ step-other t (stack t (old.logs i)) y (λ f. ne (sym f)) ∙ ap (λ (k : ℕ). stack t (old.logs k)) (sym e))
      (λ e. ap (stack t) (app.others (home t) e))
      (cases_eq (home t) i)

  pub opens-own : home y.txn ≡ i → opens new y.txn ≡ moved y.kind y (opens old y.txn)
  opens-own e = ap (λ (k : ℕ). stack y.txn (new.logs k)) e ∙ ap (stack y.txn) app.here ∙ stack-push y.txn (old.logs i) y
      ∙ step-own y.txn (stack y.txn (old.logs i)) y refl ∙ ap (λ (k : ℕ). moved y.kind y (stack y.txn (old.logs k))) (sym e)

  pub Each-new : (P : Rec → Type 0) (j : ℕ) → Each P (old.logs j) → P y → Each P (new.logs j)
  Each-new P j a b = ⊎_elim
      (λ e. subst (λ (k : ℕ). Each P (new.logs k)) (sym e)
      (subst (Each P) (sym app.here)
      (Each-append P (old.logs i) (y ∷ []) (subst (λ (k : ℕ). Each P (old.logs k)) e a) (b, tt))))
      (λ ne. subst (Each P) (sym (app.others j ne)) a)
      (cases_eq j i)

  pub Each-old : (P : Rec → Type 0) (j : ℕ) → Each P (new.logs j) → Each P (old.logs j)
  Each-old P j a = ⊎_elim
      (λ e. subst (λ (k : ℕ). Each P (old.logs k)) (sym e)
      (Each-front P (old.logs i) (y ∷ []) (subst (Each P) app.here (subst (λ (k : ℕ). Each P (new.logs k)) e a))))
      (λ ne. subst (Each P) (app.others j ne) a)
      (cases_eq j i)

  pub Open-old : (t : TxnId) → Open new t → Open old t
  Open-old t o = Each-old (λ x. (ends x.kind && same_txn x.txn t) ≡ false) (home t) o

  pub Open-other : (t : TxnId) → t ≢ y.txn → Open old t → Open new t
  Open-other t ne o = Each-new (λ x. (ends x.kind && same_txn x.txn t) ≡ false) (home t) o
      (let e : same_txn y.txn t ≡ false = ne-same y.txn t (λ e. ne (sym e)) in rw e (and_false (ends y.kind)))
    where
      and_false : (a : Bool) → (a && false) ≡ false
      and_false true = refl
      and_false false = refl

  pub Open-own : ends y.kind ≡ false → (t : TxnId) → Open old t → Open new t
  Open-own e t o = Each-new (λ x. (ends x.kind && same_txn x.txn t) ≡ false) (home t) o (rw e refl)
