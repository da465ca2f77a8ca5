-- Changes that concern all transactions, or all instances, at once.
use Rattle.std.specs.Prelude.{eqb, cond}
use Rattle.sd_base.specs.declared.ids.TxnId.{TxnId}
use Rattle.sd_base.specs.declared.place.Status.{Status}
use Rattle.sd_model.specs.declared.act.Inst.{Inst}
use Rattle.sd_model.specs.State.{Part, lost_part, freed, with_status}
use Rattle.sd_model.specs.Changes.{swept_part}
use Rattle.sd_oracle.specs.declared.wholes.Change.{Change}
use Rattle.sd_oracle.specs.declared.wholes.Change.TheVariants as changes
use Rattle.sd_oracle.specs.declared.wholes.Turn.{Turn}
use Rattle.sd_oracle.specs.declared.wholes.Turn.TheVariants as turns

-- what a change makes of a transaction
abbrev pub changed_part : Change → TxnId → Part → Part
changed_part changes.Keep t p = p
changed_part (changes.Fall i) t p = cond (eqb i t.inst) (lost_part p) p
changed_part changes.Close t p = lost_part p
changed_part (changes.Sweep i) t p = cond (eqb i t.inst) (swept_part p) p

-- what a turn makes of a status
abbrev pub turned_status : Turn → Status → Status
turned_status turns.Keep status = status
turned_status (turns.Free i) status = freed i status
turned_status (turns.All new) status = new

abbrev pub turned_inst : Turn → Inst → Inst
turned_inst turn x = with_status (turned_status turn x.status) x
