use Rattle.std.proofs.Common.{List, get_or, ◌-◌, ap, ◌∙◌, sym, subst, arith}
use Rattle.std.specs.Prelude.{nat_le, position}
use Rattle.sd_log.specs.declared.marks.Mark.{Mark}
use Rattle.sd_log.specs.declared.placed.Placed.{Placed}
use Rattle.sd_log.specs.Marks.{MarksState}
use Rattle.sd_log.specs.Parts.{IsParted}
use Rattle.sd_log.proofs.Starts.{MayBegin, begin_behind, begin_first, begin_none}
use Rattle.sd_log.proofs.marks.Marks.start_for.Goals as goal
use Rattle.sd_log.proofs.marks.Marks.start_for.Goals.{After-index, In-None, In-Some-eq0}

at_end : (c : In-None) (ps : List Placed) → IsParted c.args.self.now ps → MayBegin c.args.low c.args.self.now ps c.args.self.now.gate
at_end c ps parted =
    begin_none c.args.low c.args.self.now ps parted
    (sym (c.first_from.ensures ∙ ap (position (λ m. nat_le c.args.low m.high)) (c.deref.ensures.value ∙ ap (λ (m : MarksState). m.marks) c.self.view_is)) ∙ c.in-None.is)

pub returns-in-None-clause-exact : goal.returns-in-None-clause-exact
returns-in-None-clause-exact c ps parted =
    (subst (MayBegin c.args.low c.args.self.now ps) (sym (ap (λ (m : MarksState). m.gate) c.self.view_is)) (at_end c ps parted)).0

pub returns-in-None-clause-start : goal.returns-in-None-clause-start
returns-in-None-clause-start c ps parted =
    (subst (MayBegin c.args.low c.args.self.now ps) (sym (ap (λ (m : MarksState). m.gate) c.self.view_is)) (at_end c ps parted)).1

pub returns-in-Some-eq0-clause-exact : goal.returns-in-Some-eq0-clause-exact
returns-in-Some-eq0-clause-exact c ps parted =
    let s = c.args.self.now in
    let may : MayBegin c.args.low s ps s.start = begin_first c.args.low c.in-Some-eq0.field-0 s ps parted
    (sym (c.first_from.ensures ∙ ap (position (λ m. nat_le c.args.low m.high)) (c.deref.ensures.value ∙ ap (λ (m : MarksState). m.marks) c.self.view_is)) ∙ c.in-Some-eq0.is)
    c.in-Some-eq0.field-0-test in
    (subst (MayBegin c.args.low s ps) (sym (ap (λ (m : MarksState). m.start) c.self.view_is)) may).0

behind : (c : After-index) (ps : List Placed) → IsParted c.args.self.now ps → MayBegin c.args.low c.args.self.now ps c.index.result.now.end
behind c ps parted =
    let s = c.args.self.now in
    let n = c.in-Some.n in
    begin_behind c.args.low n s ps c.index.result.now parted
    (sym (c.first_from.ensures ∙ ap (position (λ m. nat_le c.args.low m.high)) (c.deref.ensures.value ∙ ap (λ (m : MarksState). m.marks) c.self.view_is)) ∙ c.in-Some.is)
    (omega (arith, c.in-Some.n-test))
    (c.index.ensures ∙ ap (λ (l : List Mark). get_or l (n - 1) c.index.result.now) (ap (λ (m : MarksState). m.marks) c.self.view_is))

pub returns-in-Some-clause-exact : goal.returns-in-Some-clause-exact
returns-in-Some-clause-exact c ps parted = (behind c ps parted).0

pub returns-in-Some-clause-start : goal.returns-in-Some-clause-start
returns-in-Some-clause-start c ps parted = (behind c ps parted).1
