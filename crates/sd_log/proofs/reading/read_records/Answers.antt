use Rattle.std.proofs.Common.{◌+◌, ◌-◌, ◌∙◌, inl, inr, sym, ap, subst, arith}
use Rattle.sd_base.specs.declared.refusal.Refusal.TheVariants as R
use Rattle.sd_logrec.specs.Fronts.{front_at}
use Rattle.sd_log.specs.JournalStates.{pushed}
use Rattle.sd_log.specs.Readings.{AddsFront}
use Rattle.sd_log.proofs.Bodies.{ReadsTo, reads_all, reads_bad, reads_front, reads_one}
use Rattle.sd_log.proofs.reading.read_records.Goals as goal

pub loop-at-preserved : goal.loop-at-preserved
loop-at-preserved c =
    let stands = c.in-Ok.ensures.found in
    subst (ReadsTo c.args.body.now c.in-Ok.next c.args.journal.now) (sym (c.push.ensures ∙ ap (pushed c.in-Ok.rec) c.reserve.ensures.same))
    (reads_one c.args.body.now c.loop-at.at c.in-Ok.next (c.reserve.new.self.room - 1) c.in-Ok.rec c.args.journal.now c.loop-at.journal c.loop-at.invariant stands.0 stands.1 c.in-Ok.ensures.place c.in-Ok.ensures.inside)

pub returns-in-Err-BadRecord-clause-err : goal.returns-in-Err-BadRecord-clause-err
returns-in-Err-BadRecord-clause-err c =
    let is = c.in-Err-BadRecord.field-0-is in
    elim c.in-Err-BadRecord.ensures.refusals [
      | inl same ↦ inr (
        c.args.journal.now.gate + 5 + c.loop-at.at,
        ap (λ g. R.BadRecord (g + 5 + c.loop-at.at)) c.gate.ensures,
        reads_bad c.args.body.now c.loop-at.at c.args.journal.now c.loop-at.journal c.loop-at.invariant c.loop-at-test.true (λ i. omega (arith, c.type_inv.body i)) (c.in-Err-BadRecord.ensures.bad (cc)),
        omega arith,
        (
            let old = c.args.journal.now in
            let front = reads_front c.args.body.now c.loop-at.at old c.loop-at.journal c.loop-at.invariant c.loop-at-test.true
            (λ i. omega (arith, c.type_inv.body i)) (c.in-Err-BadRecord.ensures.bad (cc)) in
            subst (AddsFront (front_at (old.gate + 5) c.args.body.now) old) (sym c.reserve.ensures.same)
            (record { gate = front.gate; groups = front.groups; records = front.records })
            ),
      )
      | inr lacks ↦ absurd (cc)
    ]

pub returns-clause-ok : goal.returns-clause-ok
returns-clause-ok c = reads_all c.args.body.now c.loop-at.at c.args.journal.now c.loop-at.journal c.loop-at.invariant c.loop-at-test.false
