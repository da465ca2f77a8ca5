use Rattle.std.proofs.Common.{◌∙◌, ap, refl}
use Rattle.std.specs.Int.{w32, to_be_bytes}
use Rattle.sd_page.specs.Page.{empty_page}
use Rattle.sd_page.proofs.Opened.{Images, closed}
use Rattle.sd_page.proofs.Changed.{empty_images}
use Rattle.sd_page.proofs.image.Image.empty.Goals as goal

made : (c : goal.After-bytes-4-1) → Images c.put_u16.new.bytes (empty_page c.args.p)
made c = empty_images _ _ _ _ 1024 c.args.p refl refl (rw (← c.get.ensures.value) c.get.ensures.range) (c.to_be_bytes.ensures ∙ ap (to_be_bytes w32) (c.from.ensures ∙ c.get.ensures.value)) c.put.ensures.written c.put_u16.ensures

pub invariant_of-result : goal.invariant_of-result
invariant_of-result c = (closed _ _ (made c)).0

pub returns : goal.returns
returns c = (closed _ _ (made c)).1
