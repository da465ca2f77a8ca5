-- What one more record changes of what a log owes, in bytes and in records: for the law `owing`.
use Rattle.std.proofs.Common.{◌≡◌, ◌≢◌, inl, inr, ⊎_elim, ℕ, suc, ◌+◌, Bool, true, false, not, ◌&&◌, ◌||◌, List, [], ◌∷◌, ◌++◌, filter, length, sum_by, refl, sym, ap, ◌∙◌, subst, arith}
use Rattle.std.proofs.lemmas.List.Folds.{list_any-append}
use Rattle.std.specs.List.{list_any}
use Rattle.std.proofs.lemmas.Bool.{cases_Bool}
use Rattle.std.proofs.lemmas.List.Sums.{sum_by-cons}
use Rattle.sd_base.specs.declared.ids.TxnId.{TxnId}
use Rattle.sd_base.specs.Ids.{same_txn}
use Rattle.sd_logrec.specs.View.{Rec, Kind}
use Rattle.sd_logrec.specs.View.Kind.{Update, Clr, Commit, End, Plain}
use Rattle.sd_base.specs.Values.{size}
use Rattle.sd_chain.specs.Records.{Each, IsOpen, ends, moved, stack, rest}
use Rattle.sd_chain.specs.Order.{Sofar, none_yet, of_txn, speaks}
use Rattle.sd_chain.specs.Undoing.{Member, Apart}
use Rattle.sd_chain.specs.Checks.{open_in}
use Rattle.sd_chain.proofs.Lists.{Each-append, Each-front, Each-back}
use Rattle.sd_chain.proofs.Stacks.{stack-push, step-other, step-own}
use Rattle.sd_chain.proofs.Whose.{after_all-none, open_ones-is, other_of, own_of, silent_of, stack-none}
use Rattle.sd_chain.proofs.Members.{member-kept, kept-member, apart-kept, sums-agree, apart-open_in, open_in-is, is-open_in}
use Rattle.sd_chain.specs.ChecksKept.{ChangeOwes, EndOwes, FirstChangeOwes, IdleEndOwes, PlainOwes, UndoOwes}
use Rattle.sd_base.proofs.SameIds.{cases_txn, eq-same, ne-same}

or_left : (a b : Bool) → a ≡ true → (a || b) ≡ true
or_left true b e = refl
or_left false b e = absurd (cc)

or_right : (a b : Bool) → b ≡ true → (a || b) ≡ true
or_right true b e = refl
or_right false b e = e

or_false : (a : Bool) → (a || false) ≡ a
or_false true = refl
or_false false = refl

-- equal parts have equal sums
pub sum-same : (f g : TxnId → ℕ) (ts : List TxnId) → Each (λ u. f u ≡ g u) ts → sum_by f ts ≡ sum_by g ts
sum-same f g [] each = refl
sum-same f g (u ∷ us) each =
    let ih = sum-same f g us each.1 in
    let h = each.0 in omega (arith, sum_by-cons f u us, sum_by-cons g u us, ih, h)

-- what holds of each member holds of each
pub each-of : (P : TxnId → Type 0) (ts : List TxnId) → ((u : TxnId) → Member u ts → P u) → Each P ts
each-of P [] f = tt
each-of P (u ∷ us) f = (f u (inl refl), each-of P us (λ v m. f v (inr m)))

-- what ends a transaction is of it
pub ends-speaks : (k : Kind) → ends k ≡ true → speaks k ≡ true
ends-speaks Update e = refl
ends-speaks Clr e = refl
ends-speaks Commit e = refl
ends-speaks End e = refl
ends-speaks Plain e = e

-- and one with something open has a record
pub stack-there : (t : TxnId) (log below : List Rec) (top : Rec) → stack t log ≡ top ∷ below → list_any (of_txn t) log ≡ true
stack-there t log below top is =
    ⊎_elim (λ e. e) (λ e. let none = stack-none t log e in absurd (cc)) (cases_Bool (list_any (of_txn t) log))

-- each open transaction by a weight of its stack
abbrev pub total : (List Rec → ℕ) → List Rec → ℕ
total f log = sum_by (λ t. f (stack t log)) (open_in log)

-- a record of no transaction
module _ (f : List Rec → ℕ) (log : List Rec) (y : Rec) (silent : y.kind ≡ Plain) where
  quiet : (u : TxnId) → stack u (log ++ y ∷ []) ≡ stack u log
  quiet u = stack-push u log y
      ∙ ⊎_elim (λ e. step-own u (stack u log) y e ∙ ap (λ (k : Kind). moved k y (stack u log)) silent)
      (λ ne. step-other u (stack u log) y ne) (cases_txn y.txn u)

  unnamed : (u : TxnId) → list_any (of_txn u) (log ++ y ∷ []) ≡ list_any (of_txn u) log
  unnamed u = list_any-append (of_txn u) log (y ∷ [])
      ∙ ap (λ (b : Bool). list_any (of_txn u) log || (b || false)) (silent_of u y (ap speaks silent))
      ∙ or_false (list_any (of_txn u) log)

  -- it changes no sum
  pub total-plain : total f (log ++ y ∷ []) ≡ total f log
  total-plain =
      sums-agree (λ t. f (stack t (log ++ y ∷ []))) (open_in (log ++ y ∷ [])) (open_in log) (apart-open_in (log ++ y ∷ []))
      (apart-open_in log)
      (λ u m. let o = open_in-is u (log ++ y ∷ []) m in
      is-open_in u log (Each-front (λ x. (ends x.kind && same_txn x.txn u) ≡ false) log (y ∷ []) o.0) (sym (unnamed u) ∙ o.1))
      (λ u m. let o = open_in-is u log m in
      is-open_in u (log ++ y ∷ [])
      (Each-append (λ x. (ends x.kind && same_txn x.txn u) ≡ false) log (y ∷ []) o.0
      (ap (λ (k : Kind). ends k && same_txn y.txn u) silent, tt)) (unnamed u ∙ o.1))
      ∙ sum-same (λ t. f (stack t (log ++ y ∷ []))) (λ t. f (stack t log)) (open_in log)
      (each-of _ (open_in log) (λ u m. ap f (quiet u)))

-- a record of an open transaction
module _ (f : List Rec → ℕ) (log : List Rec) (y : Rec) (spoken : speaks y.kind ≡ true) (op : IsOpen y.txn log) where
  abbrev t : TxnId
  t = y.txn

  abbrev new : List Rec
  new = log ++ y ∷ []

  abbrev left : List TxnId
  left = filter (λ u. not (same_txn t u)) (open_in log)

  abbrev share : List Rec → TxnId → ℕ
  share l u = f (stack u l)

  -- the others
  abbrev behind : ℕ
  behind = sum_by (share log) left

  off_left : (u : TxnId) → not (same_txn t u) ≡ true → t ≢ u
  off_left u is same = let e = eq-same t u same in let g : not (same_txn t u) ≡ false = ap not e in absurd (cc)

  left-is : (u : TxnId) → Member u left → Member u (open_in log) × (t ≢ u)
  left-is u m = let k = kept-member (λ v. not (same_txn t v)) u (open_in log) m in (k.0, off_left u k.1)

  is-left : (u : TxnId) → Member u (open_in log) → t ≢ u → Member u left
  is-left u m ne = member-kept (λ v. not (same_txn t v)) u (open_in log) m (ap not (ne-same t u ne))

  apart-left : Apart left
  apart-left = apart-kept (λ v. not (same_txn t v)) (open_in log) (apart-open_in log)

  once : Apart (t ∷ left)
  once = (each-of (λ u. t ≢ u) left (λ u m. (left-is u m).1), apart-left)

  -- the sum before it, where the transaction has a record
  pub before-there : list_any (of_txn t) log ≡ true → total f log ≡ f (stack t log) + behind
  before-there there =
      sums-agree (share log) (open_in log) (t ∷ left) (apart-open_in log) once
      (λ u m. ⊎_elim (λ e. inl (sym e)) (λ ne. inr (is-left u m ne)) (cases_txn t u))
      (λ u m. ⊎_elim (λ e. subst (λ (v : TxnId). Member v (open_in log)) (sym e) (is-open_in t log op there))
      (λ l. (left-is u l).0) m)
      ∙ sum_by-cons (share log) t left

  -- and where it has none
  pub before-none : list_any (of_txn t) log ≡ false → total f log ≡ behind
  before-none none =
      sums-agree (share log) (open_in log) left (apart-open_in log) apart-left
      (λ u m. ⊎_elim
      (λ e. let o = (open_in-is u log m).1 in
      let c : list_any (of_txn u) log ≡ false = subst (λ (v : TxnId). list_any (of_txn v) log ≡ false) e none in absurd (cc))
      (λ ne. is-left u m ne) (cases_txn t u))
      (λ u m. (left-is u m).0)

  same-behind : sum_by (share new) left ≡ behind
  same-behind = sum-same (share new) (share log) left
      (each-of (λ u. share new u ≡ share log u) left
      (λ u m. ap f (stack-push u log y ∙ step-other u (stack u log) y (left-is u m).1)))

  named : (u : TxnId) → list_any (of_txn u) new ≡ (list_any (of_txn u) log || (of_txn u y || false))
  named u = list_any-append (of_txn u) log (y ∷ [])

  -- another one that is named behind was named before
  was : (u : TxnId) → t ≢ u → list_any (of_txn u) new ≡ true → list_any (of_txn u) log ≡ true
  was u ne is = sym (or_false (list_any (of_txn u) log))
      ∙ ap (λ (b : Bool). list_any (of_txn u) log || (b || false)) (sym (other_of u y ne)) ∙ sym (named u) ∙ is

  will : (u : TxnId) → list_any (of_txn u) log ≡ true → list_any (of_txn u) new ≡ true
  will u is = named u ∙ or_left (list_any (of_txn u) log) (of_txn u y || false) is

  own-begun_of : list_any (of_txn t) new ≡ true
  own-begun_of = named t ∙ or_right (list_any (of_txn t) log) (of_txn t y || false)
      (or_left (of_txn t y) false (own_of y spoken))

  back : (u : TxnId) → t ≢ u → Member u (open_in new) → Member u left
  back u ne m = let o = open_in-is u new m in
      is-left u (is-open_in u log (Each-front (λ x. (ends x.kind && same_txn x.txn u) ≡ false) log (y ∷ []) o.0)
      (was u ne o.1)) ne

  forth : (u : TxnId) → (ends y.kind && same_txn y.txn u) ≡ false → Member u left → Member u (open_in new)
  forth u goes m = let o = open_in-is u log (left-is u m).0 in
      is-open_in u new (Each-append (λ x. (ends x.kind && same_txn x.txn u) ≡ false) log (y ∷ []) o.0 (goes, tt)) (will u o.1)

  -- the sum with it, where the transaction stays open
  pub now-open : ends y.kind ≡ false → total f new ≡ f (stack t new) + behind
  now-open lives =
      let goes : (u : TxnId) → (ends y.kind && same_txn y.txn u) ≡ false =
      λ u. ap (λ (b : Bool). b && same_txn y.txn u) lives in
      let all : total f new ≡ f (stack t new) + sum_by (share new) left =
      sums-agree (share new) (open_in new) (t ∷ left) (apart-open_in new) once
      (λ u m. ⊎_elim (λ e. inl (sym e)) (λ ne. inr (back u ne m)) (cases_txn t u))
      (λ u m. ⊎_elim
      (λ e. subst (λ (v : TxnId). Member v (open_in new)) (sym e)
      (is-open_in t new (Each-append (λ x. (ends x.kind && same_txn x.txn t) ≡ false) log (y ∷ []) op
      (goes t, tt)) own-begun_of))
      (λ l. forth u (goes u) l) m)
      ∙ sum_by-cons (share new) t left in
      all ∙ ap (λ (n : ℕ). f (stack t new) + n) same-behind

  -- and where it ends
  pub now-ended : ends y.kind ≡ true → total f new ≡ behind
  now-ended ended =
      let goes : (u : TxnId) → t ≢ u → (ends y.kind && same_txn y.txn u) ≡ false =
      λ u ne. ap (λ (b : Bool). b && same_txn y.txn u) ended ∙ ne-same t u ne in
      let shut : (ends y.kind && same_txn y.txn t) ≡ true = ap (λ (b : Bool). b && same_txn y.txn t) ended
      ∙ eq-same t t refl in
      sums-agree (share new) (open_in new) left (apart-open_in new) apart-left
      (λ u m. ⊎_elim
      (λ e. let last = (Each-back (λ x. (ends x.kind && same_txn x.txn u) ≡ false) log (y ∷ []) (open_in-is u new m).0).0 in
      let bad : (ends y.kind && same_txn y.txn t) ≡ false =
      subst (λ (v : TxnId). (ends y.kind && same_txn y.txn v) ≡ false) (sym e) last in absurd (cc))
      (λ ne. back u ne m) (cases_txn t u))
      (λ u m. forth u (goes u (left-is u m).1) m)
      ∙ same-behind

  -- the transaction's stack with it
  pub own-stack : stack t new ≡ moved y.kind y (stack t log)
  own-stack = stack-push t log y ∙ step-own t (stack t log) y refl

-- ---- bytes and records

abbrev bytes_of : List Rec → ℕ
bytes_of s = 31 + sum_by (λ x. 47 + size x.before) s

abbrev count_of : List Rec → ℕ
count_of s = 1 + length s

-- a record of no transaction
pub plain-owes : PlainOwes
plain-owes log y silent = (total-plain bytes_of log y silent, total-plain count_of log y silent)

-- an undo
pub undo-owes : UndoOwes
undo-owes log y top below kind op is =
    let spoken : speaks y.kind ≡ true = ap speaks kind in
    let lives : ends y.kind ≡ false = ap ends kind in
    let there = stack-there y.txn log below top is in
    let now : stack y.txn (log ++ y ∷ []) ≡ below = own-stack bytes_of log y spoken op
    ∙ ap (λ (k : Kind). moved k y (stack y.txn log)) kind ∙ ap rest is in
    let b0 = before-there bytes_of log y spoken op there in
    let b1 = now-open bytes_of log y spoken op lives in
    let b2 : bytes_of (stack y.txn (log ++ y ∷ [])) ≡ bytes_of below = ap bytes_of now in
    let b3 : bytes_of (stack y.txn log) ≡ bytes_of (top ∷ below) = ap bytes_of is in
    let b4 = sum_by-cons (λ (x : Rec). 47 + size x.before) top below in
    let c0 = before-there count_of log y spoken op there in
    let c1 = now-open count_of log y spoken op lives in
    let c2 : length (stack y.txn (log ++ y ∷ [])) ≡ length below = ap length now in
    let c3 : length (stack y.txn log) ≡ suc (length below) = ap length is in
    (omega (arith, b0, b1, b2, b3, b4), omega (arith, c0, c1, c2, c3))

-- the end of a transaction with a record
pub end-owes : EndOwes
end-owes log y ended op there =
    let spoken = ends-speaks y.kind ended in
    let b0 = before-there bytes_of log y spoken op there in
    let b1 = now-ended bytes_of log y spoken op ended in
    let c0 = before-there count_of log y spoken op there in
    let c1 = now-ended count_of log y spoken op ended in
    (omega (arith, b0, b1), omega (arith, c0, c1))

-- and of one without
pub idle-end-owes : IdleEndOwes
idle-end-owes log y ended op none =
    let spoken = ends-speaks y.kind ended in
    let b0 = before-none bytes_of log y spoken op none in
    let b1 = now-ended bytes_of log y spoken op ended in
    let c0 = before-none count_of log y spoken op none in
    let c1 = now-ended count_of log y spoken op ended in
    (omega (arith, b0, b1), omega (arith, c0, c1))

-- a change of a transaction with a record
pub change-owes : ChangeOwes
change-owes log y kind op there =
    let spoken : speaks y.kind ≡ true = ap speaks kind in
    let lives : ends y.kind ≡ false = ap ends kind in
    let now : stack y.txn (log ++ y ∷ []) ≡ y ∷ stack y.txn log = own-stack bytes_of log y spoken op
    ∙ ap (λ (k : Kind). moved k y (stack y.txn log)) kind in
    let b0 = before-there bytes_of log y spoken op there in
    let b1 = now-open bytes_of log y spoken op lives in
    let b2 : bytes_of (stack y.txn (log ++ y ∷ [])) ≡ bytes_of (y ∷ stack y.txn log) = ap bytes_of now in
    let b4 = sum_by-cons (λ (x : Rec). 47 + size x.before) y (stack y.txn log) in
    let c0 = before-there count_of log y spoken op there in
    let c1 = now-open count_of log y spoken op lives in
    let c2 : length (stack y.txn (log ++ y ∷ [])) ≡ suc (length (stack y.txn log)) = ap length now in
    (omega (arith, b0, b1, b2, b4), omega (arith, c0, c1, c2))

-- and of one without
pub first-change-owes : FirstChangeOwes
first-change-owes log y kind op none =
    let spoken : speaks y.kind ≡ true = ap speaks kind in
    let lives : ends y.kind ≡ false = ap ends kind in
    let now : stack y.txn (log ++ y ∷ []) ≡ y ∷ [] = own-stack bytes_of log y spoken op
    ∙ ap (λ (k : Kind). moved k y (stack y.txn log)) kind ∙ ap (λ (l : List Rec). y ∷ l) (stack-none y.txn log none) in
    let b0 = before-none bytes_of log y spoken op none in
    let b1 = now-open bytes_of log y spoken op lives in
    let b2 : bytes_of (stack y.txn (log ++ y ∷ [])) ≡ bytes_of (y ∷ []) = ap bytes_of now in
    let b4 = sum_by-cons (λ (x : Rec). 47 + size x.before) y [] in
    let c0 = before-none count_of log y spoken op none in
    let c1 = now-open count_of log y spoken op lives in
    let c2 : length (stack y.txn (log ++ y ∷ [])) ≡ 1 = ap length now in
    (omega (arith, b0, b1, b2, b4), omega (arith, c0, c1, c2))
