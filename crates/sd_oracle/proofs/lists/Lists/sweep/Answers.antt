use Rattle.std.proofs.Common.{◌∙◌, ap, refl, ℕ, List, cond, eqb}
use Rattle.sd_base.specs.declared.ids.TxnId.{TxnId}
use Rattle.sd_base.specs.declared.place.Status.{Status}
use Rattle.sd_model.specs.declared.act.Inst.{Inst}
use Rattle.sd_model.specs.State.{State, Part, put_inst, with_status}
use Rattle.sd_model.specs.Changes.{swept_part, after_recovery}
use Rattle.sd_oracle.specs.declared.wholes.Change.TheVariants.{Sweep}
use Rattle.sd_oracle.specs.declared.standing.Standing.{Standing}
use Rattle.sd_oracle.specs.Lists.{meaning, part_in}
use Rattle.sd_oracle.specs.Wholes.{changed_part}
use Rattle.sd_oracle.proofs.OneByOne.{states}
use Rattle.sd_oracle.proofs.lists.Lists.sweep.Goals as goal

pub returns : goal.returns
returns c =
    let i : ℕ = c.args.inst in
    let m : State = meaning c.args.self.now in
    let m1 : State = record m { part = λ t. part_in c.in_ok-self.field-0.items t } in
    c.in_ok-set_inst.ensures.set
    ∙ (ap (λ (s : Status). put_inst i (record c.inst-state.result { status = s }) m1) c.after_recovery-state.ensures
    ∙ (ap (λ (y : Inst). put_inst i (with_status (after_recovery i y.status) y) m1) c.inst-state.ensures
    ∙ ap (put_inst i (with_status (after_recovery i (m.inst i).status) (m.inst i)))
    (states m1 (record m { part = λ t. cond {A = Part} (eqb i t.inst) (swept_part (m.part t)) (m.part t) }) refl refl refl refl
    (λ t. c.in_ok-self.ensures t ∙ ap (λ (l : List (TxnId × Standing)). changed_part (Sweep i) t (part_in l t)) c.deref.ensures.value) (λ j. refl))))
