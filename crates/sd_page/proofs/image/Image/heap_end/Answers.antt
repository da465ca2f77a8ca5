use Rattle.std.proofs.Common.{◌∙◌, arith}
use Rattle.sd_page.proofs.Opened.{opened, image-end}
use Rattle.sd_page.proofs.image.Image.heap_end.Goals as goal

pub returns-clause-value : goal.returns-clause-value
returns-clause-value c = c.u16_at.ensures ∙ image-end _ _ (opened _ _ c.self.invariant c.self.view_is)

pub returns-clause-inside : goal.returns-clause-inside
returns-clause-inside c =
    let i = opened _ _ c.self.invariant c.self.view_is in
    omega (arith, c.u16_at.ensures ∙ image-end _ _ i, i.fits.room)
