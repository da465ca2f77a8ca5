-- One more of those that the one at the place waits for. It serves the goals of deadlock.rt.
use Rattle.std.proofs.Common.{◌≡◌, ◌≢◌, ℕ, ◌+◌, ◌<◌, ◌≤◌, Bool, true, false, not, List, [], ◌∷◌, ◌++◌, length, take, get_or, Option, Some, None, refl, sym, ap, subst, ◌∙◌, arith}
use Rattle.std.proofs.lemmas.Bool.{true≢false, cond-false}
use Rattle.std.proofs.lemmas.List.{take_more, get_or_default, get_or-take, length_push, length-take}
use Rattle.std.proofs.lemmas.List.Elements.{Contains-get_or}
use Rattle.std.proofs.lemmas.Map.Views.{Contains-keys_from_lookup}
use Rattle.std.specs.List.{Contains, list_any}
use Rattle.std.specs.Map.{keys_of, lookup}
use Rattle.std.specs.Option.{IsSome, option_map}
use Rattle.std.specs.Ordering.{is_eq}
use Rattle.std.specs.BTreeSet.{BTreeSet, contains}
use Rattle.sd_base.specs.declared.ids.TxnId.{TxnId}
use Rattle.sd_base.specs.Ids.{same_txn, IsBelow}
use Rattle.sd_base.specs.Waits.{Wait, Obstacles}
use Rattle.sd_reclock.specs.declared.deadlock.Asking.{Asking}
use Rattle.sd_reclock.specs.declared.deadlock.Met.{Met}
use Rattle.sd_reclock.specs.declared.wait.Asked.{Asked}
use Rattle.sd_reclock.specs.Waiting.{wait_of}
use Rattle.sd_reclock.specs.Reaching.{met_at, AreNext, IsMet, IsReached}
use Rattle.sd_reclock.specs.Searching.{has_seen, steps_of, unseen, waits_of, IsWaiting}
use Rattle.sd_reclock.proofs.Reached.{txn_at, more, reached_more, reached_past}
use Rattle.sd_reclock.proofs.Counting.{fewer}
use Rattle.sd_base.proofs.Orders.{txn_cmp, txn_is_eq, same-txn-is}
use Rattle.sd_base.proofs.SameIds.{ne-same}

mapped : (o : Option Asked) (w : Wait) → option_map wait_of o ≡ Some w → IsSome o
mapped None w e = absurd (cc)
mapped (Some x) w e = refl

-- whoever makes a step waits, or asks
pub goes : {L : Type 0} (stands : L → Obstacles) (asked : Asking L) (t u : TxnId) → steps_of stands asked t u → t ≢ asked.asker → IsWaiting asked t
goes stands asked t u step apart = mapped (lookup (same_txn t) asked.waits.now.entries) step.0
    (sym (cond-false (same_txn asked.asker t) (Some (wait_of asked.wait)) (waits_of asked t) (ne-same asked.asker t (λ e. apart (sym e)))) ∙ step.1)

-- the set's own look-up
pub look-seen : (u : TxnId) (seen : BTreeSet TxnId) → contains txn_cmp seen u ≡ has_seen seen u
look-seen u seen = ap (λ (test : TxnId → Bool). list_any test seen.keys) (λ i k. txn_is_eq u k i)

-- one that is new in the set
pub record IsAdded (u : TxnId) (old new : BTreeSet TxnId) : Type 0 where
  pub was : has_seen old u ≡ false
  pub sees : has_seen new u ≡ true
  pub others : (x : TxnId) → u ≢ x → has_seen new x ≡ has_seen old x

pub not_false : (b : Bool) → not b ≡ true → b ≡ false
not_false true e = sym e
not_false false e = refl

pub added : (u : TxnId) (old new : BTreeSet TxnId) → not (contains txn_cmp old u) ≡ true → contains txn_cmp new u ≡ true
    → ((x : TxnId) → is_eq (txn_cmp u x) ≡ false → contains txn_cmp new x ≡ contains txn_cmp old x) → IsAdded u old new
added u old new is now others = record {
  was = sym (look-seen u old) ∙ not_false (contains txn_cmp old u) is;
  sees = sym (look-seen u new) ∙ now;
  others = λ x ne. sym (look-seen x new) ∙ others x (txn_is_eq u x ∙ ne-same u x ne) ∙ look-seen x old;
}

module _ {L : Type 0} (stands : L → Obstacles) (asked : Asking L) (found first : List Met) (seen : BTreeSet TxnId) (at i : ℕ) (next : List TxnId) (u : TxnId)
    (r : IsReached (steps_of stands asked) (IsWaiting asked) asked.asker found (has_seen seen) at (take i next))
    (here : met_at asked.asker found at ≡ met_at asked.asker first at) (are : AreNext (steps_of stands asked (met_at asked.asker first at).txn) next) (l : i < length next) (is : u ≡ get_or next i u) where
  taken : take (i + 1) next ≡ take i next ++ u ∷ []
  taken = take_more next i u l ∙ ap (λ (x : TxnId). take i next ++ x ∷ []) (sym is)

  pub inside_next : Contains next u
  inside_next = subst (λ (x : TxnId). Contains next x) (sym is) (Contains-get_or next i u l)

  step_to : steps_of stands asked (txn_at asked.asker found at) u
  step_to = subst (λ (m : Met). steps_of stands asked m.txn u) (sym here) ((are.those u).0 inside_next)

  above : (x : TxnId) → Contains (take i next) x → IsBelow u x → ⊥
  above x h b =
      let k = h.0 in
      let low : k < i = let m = h.1 in omega (arith, length-take i next) in
      let place : get_or next k x ≡ x = sym (get_or-take i next k x low) ∙ h.2 in
      are.rising k i x low l (subst (λ (z : TxnId). IsBelow z (get_or next k x)) (is ∙ get_or_default next i u x l) (subst (λ (z : TxnId). IsBelow u z) (sym place) b))

  pub past : (IsWaiting asked u → IsMet asked.asker found u) → IsReached (steps_of stands asked) (IsWaiting asked) asked.asker found (has_seen seen) at (take (i + 1) next)
  past met = subst (λ (xs : List TxnId). IsReached (steps_of stands asked) (IsWaiting asked) asked.asker found (has_seen seen) at xs) (sym taken)
      (reached_past (steps_of stands asked) (IsWaiting asked) asked.asker found (has_seen seen) at (take i next) r u met)

  module _ (inside : at < length found) (apart : u ≢ asked.asker) (wait : IsWaiting asked u) (new : BTreeSet TxnId) (add : IsAdded u seen new) where
    pub met : IsReached (steps_of stands asked) (IsWaiting asked) asked.asker (more found at u) (has_seen new) at (take (i + 1) next)
    met = subst (λ (xs : List TxnId). IsReached (steps_of stands asked) (IsWaiting asked) asked.asker (more found at u) (has_seen new) at xs) (sym taken)
        (reached_more (steps_of stands asked) (IsWaiting asked) asked.asker found (has_seen seen) at (take i next) r (goes stands asked) inside u step_to apart wait
        (λ h. true≢false (sym (r.met_seen u h apart) ∙ add.was)) above (has_seen new) add.sees add.others)

    pub fewer_left : unseen asked new + length (more found at u) ≤ unseen asked seen + length found
    fewer_left =
        let less = fewer u (λ x. not (has_seen seen x)) (λ x. not (has_seen new x)) (λ x ne. ap not (add.others x ne)) (ap not add.was) (ap not add.sees) (keys_of asked.waits.now.entries)
        (Contains-keys_from_lookup {eq = same_txn} same-txn-is u asked.waits.now.entries wait) in
        omega (arith, length_push found (record { txn = u; from = at }))
