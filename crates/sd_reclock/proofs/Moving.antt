-- A row with a single lock that moves from the first part to the second: no lock changes. It serves few.rt and locks.rt.
use Rattle.std.proofs.Common.{◌≡◌, ℕ, ◌<◌, Bool, true, false, ◌&&◌, cond, [], ◌∷◌, ◌++◌, length, get_or, Option, Some, None, sym, ap, subst, ◌∙◌, ⊎_elim}
use Rattle.std.specs.Option.{IsSome}
use Rattle.std.specs.Map.{lookup}
use Rattle.std.proofs.lemmas.Bool.{cond-true, cond-false, cases_Bool}
use Rattle.sd_base.specs.declared.ids.TxnId.{TxnId}
use Rattle.sd_base.specs.declared.ids.Rid.{Rid}
use Rattle.sd_base.specs.declared.place.Mode.{Mode}
use Rattle.sd_base.specs.Ids.{same_rid, same_txn}
use Rattle.sd_base.proofs.Orders.{same-rid, same-rid-is}
use Rattle.sd_reclock.specs.declared.few.Single.{Single}
use Rattle.sd_reclock.specs.Locks.{Held, Modes, held_in, mode_among, raised, wait_for, Agree, StandsIn}
use Rattle.sd_reclock.specs.Placing.{IsApartFrom, IsOneEach}
use Rattle.sd_reclock.specs.Singles.{IsSingle}
use Rattle.sd_reclock.proofs.Writes.{PutsRid, and-true, and-false}
use Rattle.sd_reclock.proofs.Agreeing.{agree_fewer}
use Rattle.sd_reclock.proofs.Firsts.{alone}
use Rattle.sd_reclock.proofs.Placing.{Entry, found_row_at, look_left}
use Rattle.sd_reclock.proofs.Placed.{same_key}
use Rattle.sd_reclock.proofs.Joining.{Raises, rows_of, has, has_not, held_right}

pub single_row : (rows : Held) (at : ℕ) (e : Entry) (t : TxnId) (mode : Mode) → IsOneEach rows → at < length rows → e ≡ get_or rows at e → e.1 ≡ (t, mode) ∷ []
    → IsSingle rows (record { at = at; rid = e.0; txn = t; mode = mode })
single_row rows at e t mode one lt here is = record {
  inside = lt;
  place = λ d. sym (same_key rows at e [] lt here d);
  row = subst (λ (z : Entry). lookup (same_rid z.0) rows ≡ Some z.1) (sym here) (found_row_at rows at e one lt) ∙ ap (λ (h : Modes). Some h) is;
}

-- locks that stay agree still
pub agree_same : (old new : Held) → ((u : TxnId) (q : Rid) → held_in new u q ≡ held_in old u q) → Agree old → Agree new
agree_same old new same agree = agree_fewer old new (λ u q m is. sym (same u q) ∙ is) agree

module _ (few many : Held) (s : Single) (apart : IsApartFrom few many) (single : IsSingle few s) where
  nobody : (u : TxnId) → held_in many u s.rid ≡ None
  nobody u = apart s.rid (has few s.rid ((s.txn, s.mode) ∷ []) single.row) u

  pub moves_free : (u : TxnId) → StandsIn many s.txn (wait_for s.rid s.mode) u → ⊥
  moves_free u stands = let none = nobody u in let holds = stands.holds in absurd (cc (none, holds))

  module _ (few' many' : Held) (put : Raises many many' s.txn s.rid s.mode) (taken : (d : Entry) → PutsRid few few' (get_or few s.at d).0 None) where
    gone : PutsRid few few' s.rid None
    gone = subst (λ (z : Rid). PutsRid few few' z None) (single.place (s.rid, [])) (taken (s.rid, []))

    none_left : (q : Rid) → same_rid s.rid q ≡ true → lookup (same_rid q) few' ≡ None
    none_left q h = gone q ∙ cond-true (same_rid s.rid q) None (lookup (same_rid q) few) h

    few_stay : (q : Rid) → same_rid s.rid q ≡ false → lookup (same_rid q) few' ≡ lookup (same_rid q) few
    few_stay q h = gone q ∙ cond-false (same_rid s.rid q) None (lookup (same_rid q) few) h

    many_stay : (u : TxnId) (q : Rid) → same_rid s.rid q ≡ false → held_in many' u q ≡ held_in many u q
    many_stay u q h = put u q ∙ cond-false (same_txn s.txn u && same_rid s.rid q) (Some (raised (held_in many s.txn s.rid) s.mode)) (held_in many u q)
        (ap (λ (b : Bool). same_txn s.txn u && b) h ∙ and-false (same_txn s.txn u))

    moved : (u : TxnId) → held_in (few' ++ many') u s.rid ≡ held_in (few ++ many) u s.rid
    moved u = held_right few' many' u s.rid (none_left s.rid (same-rid s.rid)) ∙ put u s.rid
        ∙ ap (λ (b : Bool). cond {A = Option Mode} b (Some (raised (held_in many s.txn s.rid) s.mode)) (held_in many u s.rid)) (ap (λ (b : Bool). same_txn s.txn u && b) (same-rid s.rid) ∙ and-true (same_txn s.txn u))
        ∙ ap (λ (m : Option Mode). cond {A = Option Mode} (same_txn s.txn u) (Some (raised m s.mode)) (held_in many u s.rid)) (nobody s.txn)
        ∙ ap (λ (m : Option Mode). cond {A = Option Mode} (same_txn s.txn u) (Some s.mode) m) (nobody u)
        ∙ sym (alone s.txn s.mode u)
        ∙ sym (ap (λ (o : Option Modes). mode_among o u) (look_left (same_rid s.rid) few many ((s.txn, s.mode) ∷ []) single.row))

    pub moves_held : (u : TxnId) (q : Rid) → held_in (few' ++ many') u q ≡ held_in (few ++ many) u q
    moves_held u q = ⊎_elim
        (λ h. subst (λ (z : Rid). held_in (few' ++ many') u z ≡ held_in (few ++ many) u z) (same-rid-is s.rid q h) (moved u))
        (λ h. ⊎_elim
        (λ n. held_right few' many' u q (few_stay q h ∙ n) ∙ many_stay u q h ∙ sym (held_right few many u q n))
        (λ w. ap (λ (o : Option Modes). mode_among o u) (look_left (same_rid q) few' many' w.0 (few_stay q h ∙ w.1) ∙ sym (look_left (same_rid q) few many w.0 w.1)))
        (rows_of few q))
        (cases_Bool (same_rid s.rid q))

    pub moves_apart : IsApartFrom few' many'
    moves_apart q some u = ⊎_elim
        (λ h. absurd (has_not few' q (none_left q h) some))
        (λ h. many_stay u q h ∙ apart q (let P : Option Modes → Type 0 = λ o. IsSome o in subst P (few_stay q h) some) u)
        (cases_Bool (same_rid s.rid q))
