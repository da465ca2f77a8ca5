use Rattle.sd_state.specs.Complexes.{parts}
use Rattle.sd_ops.specs.declared.edits.Edit.TheVariants.{To}
use Rattle.sd_ops.proofs.Logging.{edit-logged, edit-refused, edit-touches}
use Rattle.sd_ops.proofs.records.write.Goals as goal

pub returns-clause-untouched : goal.returns-clause-untouched
returns-clause-untouched g c = edit-touches c.args.t.now c.args.r.now (To c.args.value) c.edit.result (parts c.args.c.now) (parts c.edit.new.c)
    c.edit.ensures.left

pub returns-clause-logged : goal.returns-clause-logged
returns-clause-logged g c = edit-logged c.args.t.now c.args.r.now (To c.args.value) c.edit.result (parts c.args.c.now) (parts c.edit.new.c)
    c.edit.ensures.left

pub returns-clause-refused : goal.returns-clause-refused
returns-clause-refused g c = edit-refused c.args.t.now c.args.r.now (To c.args.value) c.edit.result (parts c.args.c.now) (parts c.edit.new.c)
    c.edit.ensures.left
