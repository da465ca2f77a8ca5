use Rattle.std.proofs.Common.{refl}
use Rattle.sd_model.proofs.Views.{part-here, part-elsewhere, view_after-write, now_after-commit, view_after-begin, none-counted}
use Rattle.sd_model.proofs.laws.views.Goals as goal

pub returns : goal.returns
returns c = record { part_here = part-here; part_elsewhere = part-elsewhere; view_after_write = view_after-write; now_after_write = λ m t r v w. refl; now_after_commit = now_after-commit; view_after_begin = view_after-begin; none_counted = none-counted }
