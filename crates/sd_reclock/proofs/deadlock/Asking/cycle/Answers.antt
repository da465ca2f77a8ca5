use Rattle.std.proofs.Common.{◌≡◌, ℕ, suc, ◌<◌, true, false, arith, List, [], ◌∷◌, length, get_or, reverse, subst, sym, ap, ◌∙◌}
use Rattle.std.proofs.lemmas.Bool.{true≢false}
use Rattle.std.proofs.lemmas.List.{get_or_default}
use Rattle.std.proofs.lemmas.List.Elements.{All-from_all_within, All-contains}
use Rattle.std.specs.List.{Contains, AllWithin, list_any}
use Rattle.sd_base.specs.declared.ids.TxnId.{TxnId}
use Rattle.sd_base.specs.Ids.{same_txn}
use Rattle.sd_base.specs.Waits.{asking}
use Rattle.sd_reclock.specs.declared.deadlock.Met.{Met}
use Rattle.sd_reclock.specs.Waiting.{wait_of}
use Rattle.sd_reclock.specs.Reaching.{met_at, IsWay}
use Rattle.sd_reclock.specs.Searching.{has_seen, steps_of, stands_of, waits_of, IsWaiting}
use Rattle.sd_reclock.proofs.Walks.{told_cycle, no_cycle}
use Rattle.sd_reclock.proofs.Reached.{txn_at, reached_start, none_back, first_back, is_way}
use Rattle.sd_reclock.proofs.Meeting.{goes}
use Rattle.sd_reclock.proofs.deadlock.Asking.cycle.Goals as goal
use Rattle.sd_base.proofs.Orders.{same-txn, same-txn-is}

-- what the test found is in the list
found : (xs ys : List TxnId) (t : TxnId) → xs ≡ ys → (k : ℕ) × (k < length xs) × ((d : TxnId) → same_txn (get_or xs k d) t ≡ true) → Contains ys t
found xs ys t e h = subst (λ (zs : List TxnId). Contains zs t) e (h.0, h.1, same-txn-is (get_or xs h.0 t) t (h.2 t))

-- what the test did not find isn't in the list
not_found : (xs ys : List TxnId) (t : TxnId) → xs ≡ ys → AllWithin (λ y. same_txn y t ≡ false) xs 0 (length xs) → Contains ys t → ⊥
not_found xs ys t e h inside = true≢false (sym (same-txn t) ∙ All-contains (λ y. same_txn y t ≡ false) xs t (All-from_all_within (λ y. same_txn y t ≡ false) xs h) (subst (λ (zs : List TxnId). Contains zs t) (sym e) inside))

-- the element that was read is the one at the place
read : (t : TxnId) (all : List Met) (k : ℕ) (x : Met) → k < length all → x ≡ get_or all k x → x ≡ met_at t all k
read t all k x l is = is ∙ get_or_default all k x (record { txn = t; from = 0 }) l

pub place-init : goal.place-init
place-init g c = rw (c.in_ok-push.ensures.items, c.new-found.ensures.items)
    (reached_start (steps_of g.L.Standing.stands c.args.self.now) (IsWaiting c.args.self.now) c.args.self.now.asker (has_seen c.new-seen.result) (λ u. ap (λ (ks : List TxnId). list_any (same_txn u) ks) c.new-seen.ensures.empty))

pub returns-then-contains-clause-found : goal.returns-then-contains-clause-found
unfolding same_txn
returns-then-contains-clause-found g c =
    let self = c.args.self.now in
    let all = c.place.found.items in
    let at = c.place.at in
    let r = c.place.invariant in
    let inside : c.place.at < length c.place.found.items = omega arith in
    let step : steps_of g.L.Standing.stands c.args.self.now (txn_at c.args.self.now.asker c.place.found.items c.place.at) c.args.self.now.asker =
    subst (λ (m : Met). steps_of g.L.Standing.stands c.args.self.now m.txn c.args.self.now.asker) (read self.asker all at c.index.result.now inside c.index.ensures)
    ((c.in_ok-next.ensures.those c.args.self.now.asker).0 (found c.deref.result.now c.in_ok-next.next.items c.args.self.now.asker c.deref.ensures.value c.if-contains.ensures.cases)) in
    let way : c.in_ok-way.way.items ≡ reverse (c.args.self.now.asker ∷ txn_at c.args.self.now.asker c.place.found.items c.place.at ∷ c.place.invariant.way c.place.at) =
    subst (λ (xs : List Met). (back : List TxnId) → IsWay c.args.self.now.asker xs c.place.at back → c.in_ok-way.way.items ≡ reverse (c.args.self.now.asker ∷ txn_at c.args.self.now.asker xs c.place.at ∷ back))
    c.deref-then-contains.ensures.value c.in_ok-way.ensures (r.way at)
    (is_way (steps_of g.L.Standing.stands c.args.self.now) (IsWaiting c.args.self.now) self.asker all (has_seen c.place.seen) at [] r (suc at) at (omega arith) inside) in
    rw (c.in_ok-of.ensures, way)
    (told_cycle (stands_of g.L.Standing.stands c.args.self.now) (waits_of c.args.self.now) c.args.self.now.asker (wait_of c.args.self.now.wait) (txn_at c.args.self.now.asker c.place.found.items c.place.at ∷ c.place.invariant.way c.place.at)
    (omega arith) (step, r.leads at inside)
    (λ other some leads. first_back (steps_of g.L.Standing.stands c.args.self.now) (IsWaiting c.args.self.now) self.asker all (has_seen c.place.seen) at [] r (goes g.L.Standing.stands c.args.self.now) inside other some leads))

pub meet-requires-clause-apart : goal.meet-requires-clause-apart
unfolding same_txn
meet-requires-clause-apart g c = λ step.
    not_found c.deref.result.now c.in_ok-next.next.items c.args.self.now.asker c.deref.ensures.value c.if-contains.ensures.cases
    ((c.in_ok-next.ensures.those c.args.self.now.asker).1
    (subst (λ (m : Met). steps_of g.L.Standing.stands c.args.self.now m.txn c.args.self.now.asker) (sym (read c.args.self.now.asker c.place.found.items c.place.at c.index.result.now (omega arith) c.index.ensures)) step))

pub place-preserved : goal.place-preserved
place-preserved g c = c.in_ok-meet.ensures.reached

pub returns-clause-none : goal.returns-clause-none
returns-clause-none g c = no_cycle (stands_of g.L.Standing.stands c.args.self.now) (asking c.args.self.now.asker (wait_of c.args.self.now.wait) (waits_of c.args.self.now)) c.args.self.now.asker
    (none_back (steps_of g.L.Standing.stands c.args.self.now) (IsWaiting c.args.self.now) c.args.self.now.asker c.place.found.items (has_seen c.place.seen) c.place.at [] c.place.invariant (goes g.L.Standing.stands c.args.self.now) (omega arith))
