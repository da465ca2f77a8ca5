use Rattle.std.proofs.Common.{◌≡◌, true, rules, subst}
use Rattle.sd_base.specs.declared.place.Mode.TheVariants as modes
use Rattle.sd_pagelock.specs.Places.{PageEntry, seen, is_free}
use Rattle.sd_pagelock.specs.Moves.{IsMove}
use Rattle.sd_bench.proofs.moves.lock.Goals as goal

pub set-requires-clause-lawful : goal.set-requires-clause-lawful
set-requires-clause-lawful c =
    let free : is_free (seen c.entry.result) ≡ true = search rules in
    subst (λ (e : PageEntry). IsMove e (seen c.locked.result)) c.entry.ensures (IsMove.lock c.args.i modes.Excl free c.locked.ensures)
