use Rattle.sd_page.proofs.Opened.{opened, closed}
use Rattle.sd_page.proofs.Changed.{stamp_images}
use Rattle.sd_page.proofs.image.Image.stamp.Goals as goal

pub invariant_of-self : goal.invariant_of-self
invariant_of-self c = (closed _ _ (stamp_images _ _ _ _ c.args.lsn (opened _ _ c.self.invariant c.self.view_is) c.ranges.lsn.fits c.to_be_bytes.ensures c.put.ensures.written)).0

pub returns : goal.returns
returns c = (closed _ _ (stamp_images _ _ _ _ c.args.lsn (opened _ _ c.self.invariant c.self.view_is) c.ranges.lsn.fits c.to_be_bytes.ensures c.put.ensures.written)).1
