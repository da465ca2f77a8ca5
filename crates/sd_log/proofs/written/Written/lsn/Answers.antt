use Rattle.std.proofs.Common.{ap, ◌∙◌, arith, length}
use Rattle.std.specs.Prelude.{slice_get}
use Rattle.sd_log.specs.WrittenStates.{WrittenState, all_in}
use Rattle.sd_log.proofs.WrittenItems.{all_length, lsn_is}
use Rattle.sd_log.proofs.written.Written.lsn.Goals as goal

pub lsn-requires : goal.lsn-requires
lsn-requires c = let there = c.requires in omega (arith, all_length c.self.inside c.self.invariant, ap (λ (s : WrittenState). length (all_in s)) c.self.view_is)

pub returns : goal.returns
returns c p got =
    let w = c.self.inside in
    let there = c.requires in
    lsn_is w c.self.invariant c.args.index c.lsn.result (omega (arith, all_length w c.self.invariant, ap (λ (s : WrittenState). length (all_in s)) c.self.view_is)) c.lsn.ensures p
    (ap (λ (s : WrittenState). slice_get (all_in s) c.args.index) c.self.view_is ∙ got)
