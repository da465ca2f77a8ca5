use Rattle.std.proofs.Common.{◌≡◌, ◌∙◌, suc, ◌+◌, List, All, length, ap, sym, subst, arith, rules}
use Rattle.std.proofs.lemmas.List.Elements.{All-push}
use Rattle.sd_crew.specs.declared.worker.Worker.{Worker}
use Rattle.sd_crew.specs.Worked.{NumberedFrom}
use Rattle.sd_crew.proofs.Crews.{numbered-on}
use Rattle.sd_crew.proofs.crew.hand_out.Goals as goal

pub loop-number-preserved : goal.loop-number-preserved
loop-number-preserved g c =
    let i = c.loop-number.invariant in
    let own : (c.split-own.result.seat.table_id ≡ c.args.turnstile.now.table.shared.table_id)
    × (c.split-own.result.seat.me.0.parts ≡ 1)
    = (c.split-own.ensures.of.1 ∙ i.0, ap (λ v. v.parts) c.split-own.ensures.right) in
    let next : c.in-Some.inst ≡ suc (0 + length c.loop-number.workers.items) = omega (arith, c.in-Some.ensures.value, i.2) in (
      search rules,
      search rules,
      search rules,
      subst (λ (ws : List (Worker g.row.V.Denot g.row.V-Entry.Denot g.V.Shift)). NumberedFrom (λ w. w.inst) 0 ws)
          (sym c.push_reserved.ensures.items) (numbered-on (λ w. w.inst) 0 c.loop-number.workers.items _ next i.3),
      search rules,
      subst
          (λ (ws : List (Worker g.row.V.Denot g.row.V-Entry.Denot g.V.Shift)).
          All (λ w. (w.pass.seat.table_id ≡ c.args.turnstile.now.table.shared.table_id) × (w.pass.seat.me.0.parts ≡ 1)) ws)
          (sym c.push_reserved.ensures.items)
          (All-push
          (λ (w : Worker g.row.V.Denot g.row.V-Entry.Denot g.V.Shift).
          (w.pass.seat.table_id ≡ c.args.turnstile.now.table.shared.table_id) × (w.pass.seat.me.0.parts ≡ 1))
          c.loop-number.workers.items _ i.5 own),
    )
