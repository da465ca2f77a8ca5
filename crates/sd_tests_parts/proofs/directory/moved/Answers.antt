use Rattle.std.proofs.Common.{◌≡◌, true, rules, subst}
use Rattle.sd_pagelock.specs.Places.{PageEntry, seen}
use Rattle.sd_pagelock.specs.Moves.{IsMove}
use Rattle.sd_tests_parts.proofs.directory.moved.Goals as goal

pub set-requires-clause-lawful : goal.set-requires-clause-lawful
set-requires-clause-lawful c =
    let lawful : c.is_lawful.result ≡ true = search rules in
    subst (λ (e : PageEntry). IsMove e (seen c.args.to.now)) c.entry-from.ensures (c.is_lawful.ensures.0 lawful)
