use Rattle.std.proofs.Common.{◌+◌, ◌-◌, ◌≤◌, length, refl, sym, ap, ◌∙◌, subst}
use Rattle.std.proofs.lemmas.List.{with_items_is}
use Rattle.sd_rig.specs.Disk.{marked, written}
use Rattle.sd_rig.proofs.Parts.{whole-same, written-whole}
use Rattle.sd_rig.proofs.disk.reach_more.Goals as goal

pub returns-clause-written : goal.returns-clause-written
returns-clause-written c = λ bytes len.
    let w = c.cover-from.new in
    let base = c.cover-from.result in
    let made = c.cover-from.ensures in
    let at = c.args.at in
    let marks = with_items_is w.pending c.mark_range.new.to (c.mark_range.auto.to ∙ c.deref_mut.ensures.len) ∙ c.mark_range.ensures ∙ ap (marked (at - base) c.args.count) c.deref_mut.ensures.value ∙ ap (λ n. marked (at - base) n w.pending.items) (sym len) in
    let reaches = subst (λ n. at + n ≤ base + length w.synced.items) (sym len) made.to in
    whole-same base refl refl marks ∙ written-whole base at bytes c.args.seen.now w.synced.items w.pending.items made.even made.from reaches made.within ∙ ap (written at bytes) made.same
