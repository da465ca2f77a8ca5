use Rattle.std.proofs.Common.{◌∙◌}
use Rattle.sd_page.proofs.Opened.{opened, image-lsn}
use Rattle.sd_page.proofs.image.Image.lsn.Goals as goal

pub returns : goal.returns
returns c = c.u64_at.ensures ∙ image-lsn _ _ (opened _ _ c.self.invariant c.self.view_is)
