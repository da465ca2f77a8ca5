use Rattle.sd_turnstile.proofs.Raises.{raises-to, next-grows, same-prefix}
use Rattle.sd_turnstile.proofs.Leaves.{leaves}
use Rattle.sd_turnstile.proofs.Looks.{same-slot, one-held}
use Rattle.sd_turnstile.specs.Rule.{view, added}
use Rattle.std.proofs.Common.{◌≡◌, arith, ap, ◌∙◌, sym, subst, Some, ◌∷◌, ◌++◌, true, length}
use Rattle.atomic_table.specs.Table.{rest}
use Rattle.sd_turnstile.proofs.turnstile.Turnstile.serve.Goals as goal

pub exchange-taken-requires : goal.exchange-taken-requires
exchange-taken-requires g c = let o = c.requires.out in
    (c.requires.of, (Some o.1, ap (λ m. m.1) o.2 ∙ sym (ap (λ m. (0, Some o.1) ∷ rest m.1) o.2)))

pub turn-answer-requires : goal.turn-answer-requires
turn-answer-requires g c =
    let o = c.requires.out in
    let tk = c.exchange-taken.ensures in
    let value : c.in-Some.value ≡ o.1 = same-slot c.args.seat.now.me.1 _ c.exchange-taken.result _ _ tk.2
    (ap (λ m. m.1) o.2) c.in-Some.is in
    record { stands = subst g.V.Shift.stands (sym value) o.3 }

pub store-requires : goal.store-requires
store-requires g c =
    let o = c.requires.out in
    let tk = c.exchange-taken.ensures in
    let lf = c.exchange-left.ensures in
    let value : c.in-Some.value ≡ o.1 = same-slot c.args.seat.now.me.1 _ c.exchange-taken.result _ _ tk.2
    (ap (λ m. m.1) o.2) c.in-Some.is in
    let held = ap (λ m. m.1) lf.3 ∙ ap (λ m. (0, Some c.turn-answer.new.self) ∷ rest m.1) tk.3
    ∙ ap (λ m. (0, Some c.turn-answer.new.self) ∷ rest m.1) o.2 in
    let seat : c.exchange-left.new.seat.me.0 ≡ c.args.seat.now.me.0 = ap (λ m. m.0) lf.3 ∙ ap (λ m. m.0) tk.3 in
    let is = subst (λ v. v ≡ view (g.V.Shift.history o.1) v.mine v.parts (Some o.0) true (Some o.1)) (sym seat)
    (ap (λ m. m.0) o.2) in
    let grows = next-grows (g.V.Shift.history c.in-Some.value)
    (g.V.Shift.history c.turn-answer.new.self) c.turn-answer.result c.turn-answer.ensures.history in (
      lf.0 ∙ tk.0 ∙ c.requires.of,
      omega (arith, c.args.self.now.sized.0),
      raises-to g.V.Shift.history g.V.Shift.stands g.V.Shift.turns _ _ _ _ _ o.0 _ c.turn-answer.result
          c.in-Some.value c.turn-answer.new.self _ held
          (subst (λ x. c.exchange-left.new.seat.me.0 ≡ view (g.V.Shift.history x) c.exchange-left.new.seat.me.0.mine
          c.exchange-left.new.seat.me.0.parts (Some o.0) true (Some x)) (sym value) is)
          c.turn-answer.ensures.turns c.turn-answer.ensures.stands c.length-count.ensures.length grows,
    )

pub fetch_add-requires : goal.fetch_add-requires
fetch_add-requires g c = let r = c.store.ensures.2 in
    let w = ap (λ m. m.0) r.4 in (
      c.store.ensures.0 ∙ c.exchange-left.ensures.0 ∙ c.exchange-taken.ensures.0 ∙ c.requires.of,
      omega (arith, c.args.self.now.sized.0),
      leaves g.V.Shift.history g.V.Shift.stands g.V.Shift.turns _ _ _ _ _ r.1
          (ap (λ v. v.ticket) w) (ap (λ v. v.serving) w) (ap (λ v. v.out) w),
    )

pub returns-clause-makes : goal.returns-clause-makes
returns-clause-makes g c =
    let o = c.requires.out in
    let tk = c.exchange-taken.ensures in
    let lf = c.exchange-left.ensures in
    let value : c.in-Some.value ≡ o.1 = same-slot c.args.seat.now.me.1 _ c.exchange-taken.result _ _ tk.2
    (ap (λ m. m.1) o.2) c.in-Some.is in
    let held = ap (λ m. m.1) lf.3 ∙ ap (λ m. (0, Some c.turn-answer.new.self) ∷ rest m.1) tk.3
    ∙ ap (λ m. (0, Some c.turn-answer.new.self) ∷ rest m.1) o.2 in
    let seat : c.exchange-left.new.seat.me.0 ≡ c.args.seat.now.me.0 = ap (λ m. m.0) lf.3 ∙ ap (λ m. m.0) tk.3 in
    let r = c.store.ensures.2 in
    let back : r.0 ≡ c.turn-answer.new.self = one-held _ r.0 c.turn-answer.new.self r.2 held in
    let left = c.fetch_add.ensures.2 in
    let before : c.args.seat.now.me.0.seen ≡ g.V.Shift.history c.in-Some.value = ap (λ m. m.0.seen) o.2
    ∙ ap g.V.Shift.history (sym value) in
    let seen = ap (λ m. m.0.seen) left ∙ ap (λ m. m.0.seen) r.4 ∙ ap g.V.Shift.history back in
    record {
      before = c.in-Some.value;
      behind = c.turn-answer.new.self;
      begins = same-prefix _ _ before;
      stood = subst g.V.Shift.stands (sym value) o.3;
      made = c.turn-answer.ensures.turns;
      next = c.turn-answer.ensures.history;
      seen = seen;
      mine = ap (λ m. m.0.mine) left ∙ ap (λ m. m.0.mine) r.4
          ∙ ap (λ v. v.mine ++ added (length v.seen) (length (g.V.Shift.history r.0))) seat
          ∙ ap (λ xs. c.args.seat.now.me.0.mine ++ added (length xs) (length (g.V.Shift.history r.0))) before
          ∙ ap (λ xs. c.args.seat.now.me.0.mine ++ added (length (g.V.Shift.history c.in-Some.value)) (length xs))
          (ap g.V.Shift.history back ∙ sym seen);
    }
