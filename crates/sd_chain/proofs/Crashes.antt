-- What a crash may leave of a coherent complex. It serves the laws on crashes.
use Rattle.sd_chain.specs.Images.{or_written}
use Rattle.sd_chain.specs.Laws.{May}
use Rattle.sd_chain.proofs.Images
use Rattle.sd_chain.proofs.Left.{force-leaves, left-stands, put-leaves}
use Rattle.sd_chain.specs.World.{newest_version}
use Rattle.sd_chain.specs.CrashImages.{ForceLeftStands, LeftStands, PutGives, PutLeftStands}

pub stands : (may : May) → LeftStands may
stands may b d values img c gives l = left-stands b.tails may b.version values img c.safe gives l

pub force-stands : (may : May) → ForceLeftStands may
force-stands may i b d values img c gives during = stands may b d values img c gives (force-leaves i b.tails may img during)

pub put-gives : (may : May) → PutGives may
put-gives may p b d values c none gives = Images.write-gives b.tails may b.version c.safe p none b.disk c.reads values gives

pub put-stands : (may : May) → PutLeftStands may
put-stands may p b d values img c none gives during = left-stands b.tails (or_written may p (newest_version b p)) b.version values img
    (Images.write-safe b.tails may b.version c.safe p none b.disk c.reads) (put-gives may p b d values c none gives)
    (put-leaves p (newest_version b p) b.tails may img during)
