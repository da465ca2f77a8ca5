use Rattle.std.proofs.Common.{◌∙◌, ap, arith, get_or, set}
use Rattle.sd_log.specs.PagesInside.{lowered}
use Rattle.sd_log.specs.declared.pages.Link.{Link}
use Rattle.sd_log.proofs.Lowered.{writes}
use Rattle.sd_log.proofs.pages.lower_links.Goals as goal

pub loop-link-preserved : goal.loop-link-preserved
loop-link-preserved c =
    let l = c.loop-link in
    let none : Link = record { chain = 0; before = 0 } in
    ap (λ n. set l.links l.link-index (record { chain = (get_or l.links l.link-index none).chain; before = n })) c.saturating_sub-link.ensures
    ∙ writes (lowered c.args.gone) l.link-index c.args.links.now l.links none (omega arith) l.invariant
