use Rattle.sd_turnstile.proofs.Raises.{prefix-trans}
use Rattle.sd_turnstile.specs.Rule.{added}
use mathlib.Core.List.{IsPrefix}
use Rattle.std.proofs.Common.{◌≡◌, ap, ◌∙◌, subst, ◌++◌, length}
use Rattle.sd_turnstile.proofs.turnstile.Turnstile.turn.Goals as goal

pub returns-clause-makes : goal.returns-clause-makes
returns-clause-makes g c =
    let d = c.draw-ticket.ensures.drawn in
    let w = c.wait.ensures.told in
    let s = c.serve.ensures.makes in
    let drawn : c.draw-ticket.new.seat.me.0.seen ≡ c.args.pass.now.seat.me.0.seen = ap (λ m. m.0.seen) d.1 in
    let mine : c.wait.new.seat.me.0.mine ≡ c.args.pass.now.seat.me.0.mine = ap (λ m. m.0.mine) w.2.1 ∙ ap (λ m. m.0.mine) d.1 in
    record {
      before = s.before;
      behind = s.behind;
      begins = prefix-trans _ _ _ (subst (λ xs. IsPrefix xs (g.V.Shift.history w.2.0)) drawn w.2.2)
          (subst (λ xs. IsPrefix xs (g.V.Shift.history s.before)) (ap (λ m. m.0.seen) w.2.1) s.begins);
      stood = s.stood;
      made = s.made;
      next = s.next;
      seen = s.seen;
      mine = s.mine ∙ ap (λ xs. xs ++ added (length (g.V.Shift.history s.before)) (length c.serve.new.seat.me.0.seen)) mine;
    }
