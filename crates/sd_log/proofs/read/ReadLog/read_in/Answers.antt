use Rattle.std.proofs.Common.{◌≡◌, ◌+◌, ◌∙◌, length, ap, subst}
use Rattle.std.specs.Prelude.{slice_range}
use Rattle.sd_logrec.specs.Kept.{Whole, groups_within}
use Rattle.sd_log.specs.declared.area.Area.{Area}
use Rattle.sd_log.specs.Areas.{Breaks, IfBroken, IfWhole}
use Rattle.sd_log.specs.Logs.{LogState}
use Rattle.sd_log.proofs.Bodies.{area_read, breaks_log, breaks_record}
use Rattle.sd_log.proofs.read.ReadLog.read_in.Goals as goal

pub returns-in-Whole-clause-whole : goal.returns-in-Whole-clause-whole
returns-in-Whole-clause-whole g c =
    let r = g.G.Rig in
    let start = c.args.start in
    let size = length c.deref_mut.result.now in
    let raw : c.read.new.out ≡ slice_range (r.seen c.args.rig.now c.get.result) (130 + start) (130 + start + size) = c.in_ok-read.ensures.bytes in
    area_read start c.in_ok-bytes.bytes.len size (r.seen c.args.rig.now c.args.inst) c.read.new.out c.in_ok-bytes.bytes.items c.deref.result.now c.requires c.in_ok-bytes.ensures.len c.deref_mut.ensures.len c.read.auto.out
    (raw ∙ ap (λ d. slice_range (r.seen c.args.rig.now d) (130 + start) (130 + start + size)) c.get.ensures.value) c.deref.ensures.value
    ∙ subst (λ (a : Area). IfWhole a (λ (log : LogState). groups_within (length c.deref.result.now) start c.deref.result.now ≡ Whole log.groups log.gate)) c.in-Whole.is c.in_ok-log.ensures.whole

pub returns-clause-bad_log : goal.returns-clause-bad_log
returns-clause-bad_log g c at is =
    let r = g.G.Rig in
    let start = c.args.start in
    let size = length c.deref_mut.result.now in
    let raw : c.read.new.out ≡ slice_range (r.seen c.args.rig.now c.get.result) (130 + start) (130 + start + size) = c.in_ok-read.ensures.bytes in
    let told = subst (λ (a : Area). IfBroken a (Breaks (groups_within (length c.deref.result.now) start c.deref.result.now))) c.in-Broken.is c.in_ok-log.ensures.broken in
    area_read start c.in_ok-bytes.bytes.len size (r.seen c.args.rig.now c.args.inst) c.read.new.out c.in_ok-bytes.bytes.items c.deref.result.now c.requires c.in_ok-bytes.ensures.len c.deref_mut.ensures.len c.read.auto.out
    (raw ∙ ap (λ d. slice_range (r.seen c.args.rig.now d) (130 + start) (130 + start + size)) c.get.ensures.value) c.deref.ensures.value
    ∙ breaks_log c.in-Broken.fault _ at told (cc)

pub returns-clause-bad_record : goal.returns-clause-bad_record
returns-clause-bad_record g c at is =
    let r = g.G.Rig in
    let start = c.args.start in
    let size = length c.deref_mut.result.now in
    let raw : c.read.new.out ≡ slice_range (r.seen c.args.rig.now c.get.result) (130 + start) (130 + start + size) = c.in_ok-read.ensures.bytes in
    let told = subst (λ (a : Area). IfBroken a (Breaks (groups_within (length c.deref.result.now) start c.deref.result.now))) c.in-Broken.is c.in_ok-log.ensures.broken in
    area_read start c.in_ok-bytes.bytes.len size (r.seen c.args.rig.now c.args.inst) c.read.new.out c.in_ok-bytes.bytes.items c.deref.result.now c.requires c.in_ok-bytes.ensures.len c.deref_mut.ensures.len c.read.auto.out
    (raw ∙ ap (λ d. slice_range (r.seen c.args.rig.now d) (130 + start) (130 + start + size)) c.get.ensures.value) c.deref.ensures.value
    ∙ breaks_record c.in-Broken.fault _ at told (cc)
