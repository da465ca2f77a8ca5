use Rattle.std.proofs.Common.{◌≡◌, true, rules, subst}
use Rattle.sd_pagelock.specs.Places.{PageEntry, seen}
use Rattle.sd_pagelock.specs.Rows.{may_yield}
use Rattle.sd_pagelock.specs.Moves.{IsMove}
use Rattle.sd_bench.proofs.moves.give.Goals as goal

pub set-requires-clause-lawful : goal.set-requires-clause-lawful
set-requires-clause-lawful c =
    let gives : may_yield c.args.to (seen c.entry-place.result) ≡ true = search rules in
    subst (λ (e : PageEntry). IsMove e (seen c.given_excl.result)) c.entry-place.ensures (IsMove.yield c.args.to gives c.given_excl.ensures)
