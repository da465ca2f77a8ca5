-- What the next task is told to be: for the goals of `first_loose`, `row_task` and `next_task`.
use Rattle.std.proofs.Common.{◌≡◌, ◌⊎◌, inl, inr, ⊎_elim, ℕ, Bool, true, false, cond, eqb, ◌&&◌, ◌||◌, List, [], ◌∷◌, refl, sym, ap, ◌∙◌, subst, arith, eq-eqb, ne_eqb}
use Rattle.std.specs.Prelude.{Option, None, Some, IsSome, fold, is_some, ltb, option_map, position}
use Rattle.std.proofs.lemmas.Bool.{cases_eq, lt-ltb, ltb-true}
use Rattle.std.proofs.lemmas.List.Sums.{fails_before_first}
use Rattle.std.proofs.lemmas.List.Quantifiers.{position-Some}
use Rattle.sd_base.specs.Ids.{IsBelow}
use Rattle.sd_base.specs.declared.ids.TxnId.{TxnId}
use Rattle.sd_base.proofs.Orders.{below_or_above, below_trans, not_below_itself}
use Rattle.sd_base.proofs.SameIds.{cases_txn}
use Rattle.sd_chain.specs.Undoing.{Member}
use Rattle.sd_pagelock.proofs.Firsts.{past_end}
use Rattle.sd_txn.specs.Transactions.{Transaction, Transactions, ids, span_at, txn_at}
use Rattle.sd_txn.specs.declared.state.OpenRec.{OpenRec}
use Rattle.sd_state.specs.Parts.{IsShape, Parts}
use Rattle.sd_recover.specs.Tasks.{AreSettled, IsFirstToEnd, IsLowestLoose, goes_before, is_below, is_loser, lower, owes_end, to_end}
use Rattle.sd_recover.proofs.Reading.{found-member}
use Rattle.sd_recover.proofs.Rows.{two}

-- ---- devices

module _ (c : Parts) (shape : IsShape c) where
  pub loose-found : (at : ℕ) → Some at ≡ position (λ mark. mark) c.loose → IsLowestLoose c at
  loose-found at e =
      let h = position-Some (λ (mark : Bool). mark) c.loose at true (sym e) in
      let nine = shape.loose in
      let inside = h.0 in
      (omega (arith, nine, inside), h.1, h.2)

  pub none-loose : None ≡ position (λ mark. mark) c.loose → AreSettled c
  none-loose e d le =
      let past = past_end (λ (mark : Bool). mark) c.loose (sym e) in
      let nine = shape.loose in
      fails_before_first (λ (mark : Bool). mark) c.loose d true (omega (arith, past, nine, le))

-- ---- the page of an undo

-- what is told of each last open record is told of one that is there
pub its-page : (o : Option OpenRec) → IsSome o → (page : ℕ) → ((r : OpenRec) → o ≡ Some r → page ≡ r.rid.page)
    → (r : OpenRec) × (o ≡ Some r) × (page ≡ r.rid.page)
its-page None there page says = absurd (cc)
its-page (Some r) there page says = (r, refl, says r refl)

-- ---- who gets its End first

clash : {P : Type 0} (b : Bool) → b ≡ true → b ≡ false → P
clash b on off = let c = sym on ∙ off in absurd (cc)

and-both : (a b : Bool) → (a && b) ≡ true → (a ≡ true) × (b ≡ true)
and-both true b e = (refl, e)
and-both false b e = absurd (cc)

and-off : (a b : Bool) → (a && b) ≡ false → a ≡ true → b ≡ false
and-off true b e on = e
and-off false b e on = absurd (cc)

or-either : (a b : Bool) → (a || b) ≡ true → (a ≡ true) ⊎ (b ≡ true)
or-either true b e = inl refl
or-either false b e = inr e

or-left : (a b : Bool) → a ≡ true → (a || b) ≡ true
or-left true b e = refl
or-left false b e = absurd (cc)

or-right : (a b : Bool) → b ≡ true → (a || b) ≡ true
or-right true b e = refl
or-right false b e = e

and-on : (a b : Bool) → a ≡ true → b ≡ true → (a && b) ≡ true
and-on true b e f = f
and-on false b e f = absurd (cc)

eqb-is : (a b : ℕ) → eqb a b ≡ true → a ≡ b
eqb-is a b on = ⊎_elim (λ e. e) (λ ne. clash (eqb a b) on (ne_eqb a b ne)) (cases_eq a b)

-- the order is that of transactions
below-is : (t u : TxnId) → is_below t u ≡ true → IsBelow t u
below-is t u on = ⊎_elim
    (λ a. inl (ltb-true t.inst u.inst a))
    (λ b. let i = and-both (eqb t.inst u.inst) _ b in ⊎_elim
    (λ a. inr (eqb-is t.inst u.inst i.0, inl (ltb-true t.epoch u.epoch a)))
    (λ c. let j = and-both (eqb t.epoch u.epoch) (ltb t.seq u.seq) c in
    inr (eqb-is t.inst u.inst i.0, inr (eqb-is t.epoch u.epoch j.0, ltb-true t.seq u.seq j.1)))
    (or-either (ltb t.epoch u.epoch) (eqb t.epoch u.epoch && ltb t.seq u.seq) i.1))
    (or-either (ltb t.inst u.inst) (eqb t.inst u.inst && (ltb t.epoch u.epoch || (eqb t.epoch u.epoch && ltb t.seq u.seq))) on)

below-true : (t u : TxnId) → IsBelow t u → is_below t u ≡ true
below-true t u = ⊎_elim
    (λ i. or-left (ltb t.inst u.inst) _ (lt-ltb t.inst u.inst i))
    (λ h. or-right (ltb t.inst u.inst) _ (and-on (eqb t.inst u.inst) _ (eq-eqb t.inst u.inst h.0) (⊎_elim
    (λ j. or-left (ltb t.epoch u.epoch) (eqb t.epoch u.epoch && ltb t.seq u.seq) (lt-ltb t.epoch u.epoch j))
    (λ k. or-right (ltb t.epoch u.epoch) (eqb t.epoch u.epoch && ltb t.seq u.seq)
    (and-on (eqb t.epoch u.epoch) (ltb t.seq u.seq) (eq-eqb t.epoch u.epoch k.0) (lt-ltb t.seq u.seq k.1)))
    h.1)))

module _ (table : Transactions) where
  abbrev Owes : Option TxnId → Type 0
  Owes None = Unit {0}
  Owes (Some s) = owes_end table s ≡ true

  abbrev IsNotBelow : Option TxnId → TxnId → Type 0
  IsNotBelow None t = Unit {0}
  IsNotBelow (Some s) t = IsBelow s t → ⊥

  abbrev Leads : List TxnId → Option TxnId → TxnId → Type 0
  Leads ts first t = (owes_end table t ≡ true) × ((u : TxnId) → Member u ts → owes_end table u ≡ true → IsBelow u t → ⊥) × IsNotBelow first t

  -- this one is the lower of two
  takes : (first : Option TxnId) (v t : TxnId) → goes_before v first ≡ true → (IsBelow v t → ⊥) → IsNotBelow first t
  takes None v t on not = tt
  takes (Some s) v t on not = λ below. not (below_trans v s t (below-is v s on) below)

  -- this one isn't
  leaves : (first : Option TxnId) (v t : TxnId) → goes_before v first ≡ false → IsNotBelow first t → IsBelow v t → ⊥
  leaves None v t off not below = clash true refl off
  leaves (Some s) v t off not below = ⊎_elim
      (λ e. not (subst (λ (x : TxnId). IsBelow x t) e below))
      (λ ne. ⊎_elim
      (λ lower. clash (is_below v s) (below-true v s lower) off)
      (λ upper. not (below_trans s v t upper below))
      (below_or_above v s ne))
      (cases_txn v s)

  -- one more is looked at
  leads-taken : (v : TxnId) (vs : List TxnId) (first : Option TxnId) (t : TxnId) → goes_before v first ≡ true → Leads vs (Some v) t
      → Leads (v ∷ vs) first t
  leads-taken v vs first t on ih = (
    ih.0,
    λ u m owed below. ⊎_elim (λ same. ih.2 (subst (λ (x : TxnId). IsBelow x t) same below)) (λ later. ih.1 u later owed below) m,
    takes first v t on ih.2,
  )

  leads-left : (v : TxnId) (vs : List TxnId) (first : Option TxnId) (t : TxnId) → (owes_end table v && goes_before v first) ≡ false
      → Leads vs first t → Leads (v ∷ vs) first t
  leads-left v vs first t off ih = (
    ih.0,
    λ u m owed below. ⊎_elim
        (λ same. leaves first v t (and-off (owes_end table v) (goes_before v first) off (ap (owes_end table) (sym same) ∙ owed)) ih.2
        (subst (λ (x : TxnId). IsBelow x t) same below))
        (λ later. ih.1 u later owed below)
        m,
    ih.2,
  )

  fold-leads : (ts : List TxnId) (first : Option TxnId) (t : TxnId) → fold (lower table) first ts ≡ Some t → Owes first → Leads ts first t
  fold-leads [] None t e owes = absurd (cc)
  fold-leads [] (Some s) t e owes =
      let same : s ≡ t = cc in (
        subst (λ (x : TxnId). owes_end table x ≡ true) same owes,
        λ u m. absurd m,
        subst (λ (x : TxnId). IsBelow s x → ⊥) same (not_below_itself s),
      )
  fold-leads (v ∷ vs) first t e owes = two (owes_end table v && goes_before v first)
      (λ on. leads-taken v vs first t (and-both (owes_end table v) (goes_before v first) on).1
      (fold-leads vs (Some v) t
      (sym (ap (λ (q : Bool). fold (lower table) (cond {A = Option TxnId} q (Some v) first) vs) on) ∙ e)
      (and-both (owes_end table v) (goes_before v first) on).0))
      (λ off. leads-left v vs first t off
      (fold-leads vs first t (sym (ap (λ (q : Bool). fold (lower table) (cond {A = Option TxnId} q (Some v) first) vs) off) ∙ e) owes))

  loser-there : (o : Option Transaction) (b : Bool) → cond {A = Bool} (is_loser (option_map (λ (x : Transaction). x.state) o)) b false ≡ true
      → IsSome o
  loser-there None b e = absurd (cc)
  loser-there (Some x) b e = refl

  -- the first that gets an End is the lowest that owes one
  pub first-to-end : (t : TxnId) → to_end table ≡ Some t → IsFirstToEnd table t
  first-to-end t e =
      let all = fold-leads (ids table) None t e tt in
      (all.0, λ u owes. all.1 u (found-member table.unresolved u (loser-there (txn_at table u) (is_some (span_at table u)) owes)) owes)

  -- where none gets one, no row owes one
  fold-kept : (ts : List TxnId) (s : TxnId) → fold (lower table) (Some s) ts ≡ None → ⊥
  fold-kept [] s e = absurd (cc)
  fold-kept (v ∷ vs) s e = two (owes_end table v && is_below v s)
      (λ on. fold-kept vs v (sym (ap (λ (q : Bool). fold (lower table) (cond {A = Option TxnId} q (Some v) (Some s)) vs) on) ∙ e))
      (λ off. fold-kept vs s (sym (ap (λ (q : Bool). fold (lower table) (cond {A = Option TxnId} q (Some v) (Some s)) vs) off) ∙ e))

  fold-none : (ts : List TxnId) → fold (lower table) None ts ≡ None → (u : TxnId) → Member u ts → owes_end table u ≡ false
  fold-none [] e u m = absurd m
  fold-none (v ∷ vs) e u m = two (owes_end table v)
      (λ on. absurd (fold-kept vs v
      (sym (ap (λ (q : Bool). fold (lower table) (cond {A = Option TxnId} (q && true) (Some v) None) vs) on) ∙ e)))
      (λ off. ⊎_elim
      (λ same. ap (owes_end table) same ∙ off)
      (λ later. fold-none vs
      (sym (ap (λ (q : Bool). fold (lower table) (cond {A = Option TxnId} (q && true) (Some v) None) vs) off) ∙ e) u later)
      m)

  pub none-to-end : to_end table ≡ None → (u : TxnId) → owes_end table u ≡ false
  none-to-end e u = two (owes_end table u)
      (λ on. fold-none (ids table) e u
      (found-member table.unresolved u (loser-there (txn_at table u) (is_some (span_at table u)) on)))
      (λ off. off)
