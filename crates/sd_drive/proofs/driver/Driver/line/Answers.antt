use Rattle.std.proofs.Common.{⊎_elim, ap}
use Rattle.sd_drive.specs.Lines.{rolls_back}
use Rattle.sd_drive.proofs.Lines.{plain-else}
use Rattle.sd_drive.proofs.driver.Driver.line.Goals as goal

pub begin-requires-clause-begins : goal.begin-requires-clause-begins
begin-requires-clause-begins g c = (c.in-Begin.name, c.in-Begin.is)

pub event-requires-clause-plain : goal.event-requires-clause-plain
event-requires-clause-plain g c = plain-else c.args.line.now.form (λ inst name is. c.in_default.not-Begin inst name is) c.in_default.not-Table
    (λ inst by most is. c.in_default.not-Recover inst by most is) c.in_default.not-RecoverAll c.in_default.not-JoinAll (λ name o mark is. c.in_default.not-Back name o mark is)
    (λ name o is. c.in_default.not-Rollback name o is)

pub roll_back-requires-clause-rolls : goal.roll_back-requires-clause-rolls
roll_back-requires-clause-rolls g c = ⊎_elim (λ back. ap rolls_back back.3) (λ rollback. ap rolls_back rollback.2) c.in-Back.is

pub recover_one-requires-clause-recovers : goal.recover_one-requires-clause-recovers
recover_one-requires-clause-recovers g c = c.in-Recover.is
