use Rattle.sd_state.specs.Complexes.{parts}
use Rattle.sd_state.specs.Values.{Pending}
use Rattle.sd_moves.proofs.PutSynced.{settled-good}
use Rattle.sd_moves.proofs.reread.unmark_disk.Goals as goal

pub returns-clause-good : goal.returns-clause-good
returns-clause-good g c m good =
    let r = g.G.Rig in
    let old = c.args.c.now.rig in
    settled-good (r.seen old) (r.leaves old) Pending.Idle (parts c.args.c.now) m good c.requires.durable
