use Rattle.std.proofs.Common.{◌∙◌, arith}
use Rattle.sd_page.proofs.Opened.{opened, image-count}
use Rattle.sd_page.proofs.image.Image.count.Goals as goal

pub returns-clause-value : goal.returns-clause-value
returns-clause-value c = c.u16_at.ensures ∙ image-count _ _ (opened _ _ c.self.invariant c.self.view_is)

pub returns-clause-few : goal.returns-clause-few
returns-clause-few c =
    let i = opened _ _ c.self.invariant c.self.view_is in
    omega (arith, c.u16_at.ensures ∙ image-count _ _ i, i.fits.room)
