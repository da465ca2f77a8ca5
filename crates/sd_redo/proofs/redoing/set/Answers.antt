use Rattle.std.proofs.Common.{List, sym, ap, ◌∙◌}
use Rattle.std.specs.Prelude.{option_copied}
use Rattle.sd_page.specs.Page.{Slot}
use Rattle.sd_redo.proofs.Written.{write-written}
use Rattle.sd_redo.proofs.redoing.set.Goals as goal
use Rattle.sd_base.proofs.Results.{when_ok}

pub returns : goal.returns
returns c =
    let old = c.args.image.now in
    when_ok _ _ _ c.unwrap.ensures c.apply.ensures.applied
    ∙ ap (λ (slots : List Slot). record { lsn = c.args.lsn; number = old.number; slots = slots })
    (sym (write-written old.slots c.args.slot c.args.capacity (option_copied c.args.after) c.requires.place))
