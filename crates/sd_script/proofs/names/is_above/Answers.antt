use Rattle.std.proofs.Common.{sym}
use Rattle.std.proofs.lemmas.Bool.{lt-ltb, ltb-true}
use Rattle.sd_script.proofs.Rising.{below_last, last_below}
use Rattle.sd_script.proofs.names.is_above.Goals as goal

pub returns-in-Some : goal.returns-in-Some
returns-in-Some c =
    let es = c.args.rising.now in
    let last = c.in-Some.field-0.now in (
      λ lt i d within. below_last es last c.args.key i d c.requires (sym c.in-Some.ensures.value) (ltb-true last.0 c.args.key lt) within,
      λ below. lt-ltb last.0 c.args.key (last_below es last c.args.key (sym c.in-Some.ensures.value) below),
    )
