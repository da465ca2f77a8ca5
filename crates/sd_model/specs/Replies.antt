-- What replies tell of what they answer.
use Rattle.std.specs.Prelude.{Bool, true, false, Option, None, Some}
use Rattle.sd_base.specs.declared.ids.TxnId.{TxnId}
use Rattle.sd_base.specs.declared.refusal.Refusal.TheVariants as refusal
use Rattle.sd_model.specs.declared.event.Reply.{Reply}
use Rattle.sd_model.specs.declared.event.Reply.TheVariants as reply

-- the transaction that began, if one did
abbrev pub began_by : Reply → Option TxnId
began_by (reply.Began t) = Some t
began_by r = None

abbrev pub is_rows : Reply → Bool
is_rows (reply.Rows rows) = true
is_rows r = false

abbrev pub is_step : Reply → Bool
is_step reply.Step = true
is_step r = false

abbrev pub is_joined : Reply → Bool
is_joined (reply.Joined epoch) = true
is_joined r = false

abbrev pub is_did : Reply → Bool
is_did reply.Did = true
is_did r = false

-- the reply tells that a device failed
abbrev pub is_failed : Reply → Bool
is_failed (reply.Refused refusal.Failed) = true
is_failed r = false

-- the reply wants a page
abbrev pub wants_page : Reply → Bool
wants_page (reply.Refused (refusal.NeedPage place)) = true
wants_page r = false
