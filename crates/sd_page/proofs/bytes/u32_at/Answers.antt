use Rattle.std.proofs.Common.{add-zero}
use Rattle.sd_page.proofs.Pieces.{four_at-bytes}
use Rattle.sd_page.proofs.bytes.u32_at.Goals as goal

pub returns : goal.returns
returns c = rw (← four_at-bytes c.args.bytes.now c.args.at, add-zero) c.from_be_bytes.ensures
