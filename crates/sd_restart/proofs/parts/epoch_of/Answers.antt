use Rattle.std.proofs.Common.{List, map, sym, ap, ◌∙◌}
use Rattle.sd_log.specs.declared.placed.Placed.{Placed}
use Rattle.sd_chain.specs.Checks.{past_of}
use Rattle.sd_chain.specs.Logs.{after_records}
use Rattle.sd_recovered.specs.Masters.{as_master}
use Rattle.sd_restart.proofs.parts.epoch_of.Goals as goal

pub returns : goal.returns
returns c =
    let past = past_of (as_master c.args.master.now) in
    c.last_epoch.ensures past (sym c.epoch_in.ensures)
    ∙ ap (λ (ps : List Placed). (after_records past (map (λ p. p.rec) ps)).epoch) c.scan.ensures
