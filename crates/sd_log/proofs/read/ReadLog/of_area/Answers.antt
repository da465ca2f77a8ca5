use Rattle.std.proofs.Common.{◌≡◌, sym, subst}
use Rattle.std.specs.Prelude.{IfOk, map}
use Rattle.sd_logrec.specs.Kept.{Reading, Records, Whole}
use Rattle.sd_log.specs.declared.area.Area.{Area}
use Rattle.sd_log.specs.Areas.{IfWhole, read_of}
use Rattle.sd_log.specs.Logs.{LogState}
use Rattle.sd_log.specs.Marks.{entry}
use Rattle.sd_log.proofs.Bodies.{area_at, area_log, area_record, front_in_memory, in_memory}
use Rattle.sd_log.proofs.read.ReadLog.of_area.Goals as goal

pub returns-clause-whole : goal.returns-clause-whole
returns-clause-whole c =
    subst (λ (r : Reading). IfOk c.read_from.result (λ (read : Area). IfWhole read (λ (log : LogState). r ≡ Whole log.groups log.gate)))
    (sym (in_memory c.args.start c.args.area.now c.split_at.result.1.now c.split_at.ensures.back)) c.read_from.ensures.whole

pub returns-clause-front : goal.returns-clause-front
returns-clause-front c =
    subst (λ (rs : Records). IfOk c.read_from.result (λ (read : Area). map entry (read_of read) ≡ rs))
    (sym (front_in_memory c.args.start c.args.area.now c.split_at.result.1.now c.split_at.ensures.back)) c.read_from.ensures.front

pub returns-clause-bad_log : goal.returns-clause-bad_log
returns-clause-bad_log c = area_log c.read_from.result _ _ (in_memory c.args.start c.args.area.now c.split_at.result.1.now c.split_at.ensures.back) c.read_from.ensures.broken

pub returns-clause-bad_record : goal.returns-clause-bad_record
returns-clause-bad_record c = area_record c.read_from.result _ _ (in_memory c.args.start c.args.area.now c.split_at.result.1.now c.split_at.ensures.back) c.read_from.ensures.broken

pub returns-clause-refusals : goal.returns-clause-refusals
returns-clause-refusals c = area_at c.read_from.result _ c.read_from.ensures.broken
