-- Those of a record's holders whose lock conflicts, gathered one after another. It serves the goals of holders.rt, others.rt and locks.rt.
use Rattle.std.proofs.Common.{◌≡◌, ◌≢◌, Bool, true, false, not, List, [], ◌∷◌, ◌++◌, Option, Some, None, refl, sym, ap, subst, ◌∙◌, ⊎_elim, arith}
use Rattle.std.proofs.lemmas.Bool.{true≢false}
use Rattle.std.proofs.lemmas.List.{append-nil, append_assoc}
use Rattle.std.proofs.lemmas.List.Elements.{All-contains, Contains-append_left, Contains-push, Contains-push_cases}
use Rattle.std.proofs.lemmas.Map.Views.{Contains-from_lookup}
use Rattle.std.specs.List.{All, Contains}
use Rattle.std.specs.Map.{lookup}
use Rattle.std.specs.Ordering.{is_eq}
use Rattle.sd_base.specs.declared.ids.TxnId.{TxnId}
use Rattle.sd_base.specs.declared.place.Mode.{Mode}
use Rattle.sd_base.specs.Ids.{same_txn, same_rid}
use Rattle.sd_base.specs.Waits.{Wait, Clash}
use Rattle.sd_reclock.specs.Locks.{Held, Modes, mode_of, mode_among, ClashesIn, StandsIn}
use Rattle.sd_reclock.specs.Reaching.{AreThose}
use Rattle.sd_base.proofs.Orders.{txn_cmp, look-txn, same-txn, same-txn-is}

abbrev pub Row : Type 0
Row = TxnId × Mode

-- a row is another one's, and its lock conflicts
abbrev pub RowClashes : TxnId → Mode → Row → Type 0
RowClashes t mode e = (t ≢ e.0) × Clash mode e.1

-- of these rows those in front of the rest are looked at
pub record IsGathered (t : TxnId) (mode : Mode) (rows rest : Modes) (all : List TxnId) : Type 0 where
  pub done : Modes
  pub whole : done ++ rest ≡ rows
  pub those : AreThose (λ u. (e : Row) × Contains done e × (e.0 ≡ u) × RowClashes t mode e) all

nowhere : {A : Type 0} (x : A) → Contains [] x → ⊥
nowhere x h = let l = h.1 in omega arith

pub gathered_none : (t : TxnId) (mode : Mode) (rows : Modes) → IsGathered t mode rows rows []
gathered_none t mode rows = record {
  done = [];
  whole = refl;
  those = λ u. (λ h. absurd (nowhere u h), λ h. absurd (nowhere h.0 h.1));
}

pub gathered_more : (t : TxnId) (mode : Mode) (rows now rest : Modes) (e : Row) (all : List TxnId) → now ≡ e ∷ rest → RowClashes t mode e → IsGathered t mode rows now all → IsGathered t mode rows rest (all ++ e.0 ∷ [])
gathered_more t mode rows now rest e all step clashes so_far = record {
  done = so_far.done ++ e ∷ [];
  whole = append_assoc so_far.done (e ∷ []) rest ∙ ap (λ (xs : Modes). so_far.done ++ xs) (sym step) ∙ so_far.whole;
  those = λ u. (
    λ h. ⊎_elim
        (λ k. let x = (so_far.those u).0 k in (x.0, Contains-append_left so_far.done (e ∷ []) x.0 x.1, x.2, x.3))
        (λ k. (e, Contains-push so_far.done e, k, clashes))
        (Contains-push_cases all e.0 u h),
    λ h. ⊎_elim
        (λ k. Contains-append_left all (e.0 ∷ []) u ((so_far.those u).1 (h.0, k, h.2, h.3)))
        (λ k. subst (λ (x : TxnId). Contains (all ++ e.0 ∷ []) x) (ap (λ (x : Row). x.0) k ∙ h.2) (Contains-push all e.0))
        (Contains-push_cases so_far.done e h.0 h.1),
  );
}

pub gathered_past : (t : TxnId) (mode : Mode) (rows now rest : Modes) (e : Row) (all : List TxnId) → now ≡ e ∷ rest → (RowClashes t mode e → ⊥) → IsGathered t mode rows now all → IsGathered t mode rows rest all
gathered_past t mode rows now rest e all step free so_far = record {
  done = so_far.done ++ e ∷ [];
  whole = append_assoc so_far.done (e ∷ []) rest ∙ ap (λ (xs : Modes). so_far.done ++ xs) (sym step) ∙ so_far.whole;
  those = λ u. (
    λ h. let x = (so_far.those u).0 h in (x.0, Contains-append_left so_far.done (e ∷ []) x.0 x.1, x.2, x.3),
    λ h. ⊎_elim
        (λ k. (so_far.those u).1 (h.0, k, h.2, h.3))
        (λ k. absurd (free (subst (λ (x : Row). RowClashes t mode x) (sym k) h.3)))
        (Contains-push_cases so_far.done e h.0 h.1),
  );
}

pub gathered_all : (t : TxnId) (mode : Mode) (rows rest : Modes) (all : List TxnId) → rest ≡ [] → All (λ (e : Row). lookup (λ (k : TxnId). is_eq (txn_cmp e.0 k)) rows ≡ Some e.1) rows → IsGathered t mode rows rest all
    → AreThose (ClashesIn rows t mode) all
gathered_all t mode rows rest all end found so_far u = (
  λ h. let x = (so_far.those u).0 h in
      let is : mode_of rows x.0.0 ≡ Some x.0.1 = sym (look-txn x.0.0 rows) ∙ All-contains (λ (e : Row). lookup (λ (k : TxnId). is_eq (txn_cmp e.0 k)) rows ≡ Some e.1) rows x.0 found (subst (λ (xs : Modes). Contains xs x.0) whole x.1) in
      subst (λ (z : TxnId). ClashesIn rows t mode z) x.2 (x.3.0, (x.0.1, is, x.3.1)),
  λ h. (so_far.those u).1 ((u, h.1.0), subst (λ (xs : Modes). Contains xs (u, h.1.0)) (sym whole) (Contains-from_lookup {eq = same_txn} same-txn-is u h.1.0 rows h.1.1), refl, (h.0, h.1.2)),
)
  where
    whole : so_far.done ≡ rows
    whole = sym (append-nil so_far.done) ∙ ap (λ (xs : Modes). so_far.done ++ xs) (sym end) ∙ so_far.whole

-- the test of two transactions tells them apart
pub apart_by : (t u : TxnId) → not (same_txn u t) ≡ true → t ≢ u
apart_by t u e same = true≢false (sym e ∙ ap not (subst (λ (z : TxnId). same_txn z t ≡ true) same (same-txn t)))

pub same_by : (t u : TxnId) → not (same_txn u t) ≡ false → t ≡ u
same_by t u e = sym (same-txn-is u t (not_back (same_txn u t) e))
  where
    not_back : (b : Bool) → not b ≡ false → b ≡ true
    not_back true h = refl
    not_back false h = sym h

-- those with a conflicting lock on the record stand in the way
pub stand_all : (locks : Held) (t : TxnId) (wait : Wait) (holders : Modes) (all : List TxnId) → lookup (same_rid wait.rid) locks ≡ Some holders → AreThose (ClashesIn holders t wait.mode) all → AreThose (StandsIn locks t wait) all
stand_all locks t wait holders all is those u = (
  λ h. let x = (those u).0 h in record { other = x.0; mode = x.1.0; holds = ap (λ (o : Option Modes). mode_among o u) is ∙ x.1.1; clashes = x.1.2 },
  λ s. (those u).1 (s.other, (s.mode, ap (λ (o : Option Modes). mode_among o u) (sym is) ∙ s.holds, s.clashes)),
)

-- where nobody has a lock on the record, nobody does
pub stand_none : (locks : Held) (t : TxnId) (wait : Wait) → lookup (same_rid wait.rid) locks ≡ None → (u : TxnId) → StandsIn locks t wait u → ⊥
stand_none locks t wait is u s = let e : None ≡ Some s.mode = ap (λ (o : Option Modes). mode_among o u) (sym is) ∙ s.holds in cc

-- of no one there are none
pub those_none : (P : TxnId → Type 0) → ((u : TxnId) → P u → ⊥) → AreThose P []
those_none P none u = (λ h. absurd (nowhere u h), λ h. absurd (none u h))
