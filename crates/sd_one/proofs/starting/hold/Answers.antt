use Rattle.std.proofs.Common.{ap, ◌∙◌}
use Rattle.sd_state.specs.Parts.{Parts}
use Rattle.sd_state.specs.Values.{Pending}
use Rattle.sd_one.proofs.Ready.{ready}
use Rattle.sd_one.proofs.starting.hold.Goals as goal

pub returns-in_err-image : goal.returns-in_err-image
returns-in_err-image g c = ready (ap (λ (p : Parts). p.due) c.read_disk.ensures.parts ∙ c.requires.idle)
    (c.read_disk.ensures.good Pending.Idle c.requires.m c.requires.good)

pub lock_free-requires-clause-good : goal.lock_free-requires-clause-good
lock_free-requires-clause-good g c = (Pending.Idle, c.requires.m, c.read_disk.ensures.good Pending.Idle c.requires.m c.requires.good)

pub returns-in_err-lock_free : goal.returns-in_err-lock_free
returns-in_err-lock_free g c =
    ready (ap (λ (p : Parts). p.due) c.in_err-lock_free.ensures.stays ∙ ap (λ (p : Parts). p.due) c.read_disk.ensures.parts ∙ c.requires.idle)
    (c.lock_free.ensures.good Pending.Idle c.requires.m (c.read_disk.ensures.good Pending.Idle c.requires.m c.requires.good))

pub returns : goal.returns
returns g c =
    ready (ap (λ (p : Parts). p.due) c.in_ok-lock_free.ensures.parts ∙ ap (λ (p : Parts). p.due) c.read_disk.ensures.parts ∙ c.requires.idle)
    (c.lock_free.ensures.good Pending.Idle c.requires.m (c.read_disk.ensures.good Pending.Idle c.requires.m c.requires.good))
