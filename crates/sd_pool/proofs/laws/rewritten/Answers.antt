use Rattle.sd_pool.proofs.Pooled.{image_at-rewritten, image_at-rewritten_other, rewritten-absent, pages-rewritten, frames-rewritten}
use Rattle.sd_pool.proofs.laws.rewritten.Goals as goal

pub returns : goal.returns
returns c = record {
  there = image_at-rewritten;
  others = λ pool p q image. image_at-rewritten_other pool p image q;
  absent = rewritten-absent;
  order = pages-rewritten;
  frames = frames-rewritten;
}
