use Rattle.std.proofs.Common.{◌∙◌, arith}
use Rattle.sd_page.proofs.Opened.{opened, image-number}
use Rattle.sd_page.proofs.image.Image.page.Goals as goal

pub overflow_cast-u32_at : goal.overflow_cast-u32_at
overflow_cast-u32_at c =
    let i = opened _ _ c.self.invariant c.self.view_is in
    omega (arith, c.u32_at.ensures ∙ image-number _ _ i, i.fits.number)

pub unwrap-requires : goal.unwrap-requires
unwrap-requires c =
    let i = opened _ _ c.self.invariant c.self.view_is in
    c.new.ensures.valid.1 (omega (arith, c.u32_at.ensures ∙ image-number _ _ i, i.fits.number))

pub returns : goal.returns
returns c =
    let i = opened _ _ c.self.invariant c.self.view_is in
    grind (arith, c.unwrap.ensures, c.new.ensures.value, c.u32_at.ensures ∙ image-number _ _ i)
