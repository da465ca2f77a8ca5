use Rattle.std.proofs.Common.{◌≡◌, ◌≢◌, ◌<◌, Bool, true, false, not, [], ◌∷◌, length, take, refl, sym, ap, subst, ◌∙◌, arith}
use Rattle.std.proofs.lemmas.Bool.{true≢false}
use Rattle.std.proofs.lemmas.List.{get_or_append_left, length_push, take_all}
use Rattle.std.specs.Bool.{OnFalse}
use Rattle.std.specs.Option.{is_some}
use Rattle.sd_base.specs.declared.ids.TxnId.{TxnId}
use Rattle.sd_reclock.specs.declared.deadlock.Met.{Met}
use Rattle.sd_reclock.specs.Reaching.{met_at, AreThose}
use Rattle.sd_reclock.specs.Searching.{has_seen, steps_of, IsWaiting}
use Rattle.sd_reclock.proofs.Reached.{reached_next}
use Rattle.sd_reclock.proofs.Meeting.{added, inside_next, look-seen, past, met, fewer_left}
use Rattle.sd_reclock.proofs.deadlock.Asking.meet.Goals as goal
use Rattle.sd_reclock.proofs.deadlock.Asking.meet.Goals.{then-contains_key+in_ok-insert+then-branch+in_ok-push, else-contains_key, else-contains_key-via-then-contains_key+in_ok-insert+else-branch, else-contains_key-via-else-contains_key}
use Rattle.sd_base.proofs.Orders.{look-txn}

on_false : (b : Bool) (P : Type 0) → b ≡ false → OnFalse b P → P
on_false b P e h = let Q : Bool → Type 0 = λ x. OnFalse x P in subst Q e h

not_true : (b : Bool) → not b ≡ false → b ≡ true
not_true true e = refl
not_true false e = sym e

pub loop-u-preserved : goal.loop-u-preserved
loop-u-preserved g c =
    let self = c.args.self.now in
    let i = c.loop-u.u-index in
    let u = c.u-item.result in
    let old = c.loop-u.found.items in
    let inv = c.loop-u.invariant in
    let inside : c.args.at < length c.loop-u.found.items = inv.inside in
    let more : Met = record { txn = u; from = c.args.at } in
    elim c.if-contains_key.branch [
      | then-contains_key+in_ok-insert+then-branch+in_ok-push w ↦
          let d = w.in_ok-insert.ensures.updates in
          let f = w.in_ok-push.ensures.items in
          let add = added u c.loop-u.seen w.insert.new.self (sym w.in_ok-insert.ensures.added ∙ w.if-branch.true) d.1 d.2 in
          let wait : IsWaiting c.args.self.now c.u-item.result = sym (ap is_some (look-txn c.u-item.result c.args.self.now.waits.now.entries)) ∙ sym w.if-contains_key.ensures in
          let apart : c.u-item.result ≢ c.args.self.now.asker = λ e. c.requires.apart (subst (λ (x : TxnId). steps_of g.L.Standing.stands c.args.self.now (met_at c.args.self.now.asker c.args.found.now.items c.args.at).txn x) e
          ((c.requires.next.those c.u-item.result).0 (inside_next g.L.Standing.stands self old c.args.found.now.items c.loop-u.seen c.args.at i c.args.next.now u inv.reached inv.here c.requires.next c.loop-u-test.true c.u-item.is))) in
          record {
            reached = rw (w.seen-is, w.found-is, f) (met g.L.Standing.stands self old c.args.found.now.items c.loop-u.seen c.args.at i c.args.next.now u inv.reached inv.here c.requires.next c.loop-u-test.true c.u-item.is inside apart wait w.insert.new.self add);
            inside = rw (w.found-is, f) (omega (arith, length_push old more));
            here = rw (w.found-is, f) (get_or_append_left old (more ∷ []) (record { txn = self.asker; from = 0 }) c.args.at inside ∙ inv.here);
            left = rw (w.seen-is, w.found-is, f) (let less = fewer_left g.L.Standing.stands self old c.args.found.now.items c.loop-u.seen c.args.at i c.args.next.now u inv.reached inv.here c.requires.next c.loop-u-test.true c.u-item.is inside apart wait w.insert.new.self add in
                let had = inv.left in omega arith);
          }
      | else-contains_key w ↦ elim w.else-contains_key.branch [
        | else-contains_key-via-then-contains_key+in_ok-insert+else-branch v ↦
            let same : v.insert.new.self.keys ≡ c.loop-u.seen.keys = on_false v.in_ok-insert.field-0 (v.insert.new.self.keys ≡ c.loop-u.seen.keys) v.if-branch.false v.in_ok-insert.ensures.unchanged in
            let was : has_seen c.loop-u.seen c.u-item.result ≡ true = sym (look-seen u c.loop-u.seen) ∙ not_true _ (sym v.in_ok-insert.ensures.added ∙ v.if-branch.false) in
            record {
              reached = rw (w.seen-is, v.seen-is, w.found-is, same) (past g.L.Standing.stands self old c.args.found.now.items c.loop-u.seen c.args.at i c.args.next.now u inv.reached inv.here c.requires.next c.loop-u-test.true c.u-item.is (λ wait. inv.reached.seen_met u was));
              inside = rw w.found-is inside;
              here = rw w.found-is inv.here;
              left = rw (w.seen-is, v.seen-is, w.found-is, same) inv.left;
            }
        | else-contains_key-via-else-contains_key v ↦
            record {
              reached = rw (w.seen-is, v.seen-is, w.found-is) (past g.L.Standing.stands self old c.args.found.now.items c.loop-u.seen c.args.at i c.args.next.now u inv.reached inv.here c.requires.next c.loop-u-test.true c.u-item.is
                  (λ wait. absurd (true≢false (sym wait ∙ sym (ap is_some (look-txn c.u-item.result c.args.self.now.waits.now.entries)) ∙ sym v.if-contains_key.ensures))));
              inside = rw w.found-is inside;
              here = rw w.found-is inv.here;
              left = rw (w.seen-is, v.seen-is, w.found-is) inv.left;
            }
      ]
    ]

pub returns-clause-reached : goal.returns-clause-reached
returns-clause-reached g c =
    let steps = steps_of g.L.Standing.stands c.args.self.now in
    let inv = c.loop-u.invariant in
    reached_next (steps_of g.L.Standing.stands c.args.self.now) (IsWaiting c.args.self.now) c.args.self.now.asker c.loop-u.found.items (has_seen c.loop-u.seen) c.args.at (take c.loop-u.u-index c.args.next.now) inv.reached
    c.args.next.now (sym (take_all c.loop-u.u-index c.args.next.now c.loop-u-test.false)) inv.inside
    (subst (λ (m : Met). AreThose (steps_of g.L.Standing.stands c.args.self.now m.txn) c.args.next.now) (sym inv.here) c.requires.next.those)
    (subst (λ (m : Met). steps_of g.L.Standing.stands c.args.self.now m.txn c.args.self.now.asker → ⊥) (sym inv.here) c.requires.apart)
