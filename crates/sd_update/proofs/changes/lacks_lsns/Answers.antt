use Rattle.std.proofs.Common.{◌+◌, ◌^◌, ◌≤◌, sym, ◌∙◌, arith}
use Rattle.sd_state.specs.Complexes.{parts}
use Rattle.sd_state.specs.Parts.{Parts}
use Rattle.sd_state.specs.Sums.{great_of, owed_above}
use Rattle.sd_update.proofs.ChangeCalls.{owed-below}
use Rattle.sd_update.proofs.changes.lacks_lsns.Goals as goal

pub returns : goal.returns
returns g c =
    let p : Parts = parts c.args.c.now in
    let below = owed-below c.args.t.now p in (
      λ is. absurd (cc),
      λ lacks. let much : 2 ^ 62 ≤ great_of p + 1 + (owed_above p + 2) = omega (arith, lacks, below) in
          let few = sym c.if-has_few_lsns.false ∙ c.has_few_lsns.ensures.1 much in absurd (cc),
    )
