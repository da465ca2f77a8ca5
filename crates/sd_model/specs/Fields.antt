-- The parts of an event; nobody and nowhere where it has none.
use Rattle.std.specs.Prelude.{ℕ}
use Rattle.sd_base.specs.declared.ids.TxnId.{TxnId}
use Rattle.sd_base.specs.declared.ids.Rid.{Rid}
use Rattle.sd_model.specs.declared.event.Event.{Event}
use Rattle.sd_model.specs.declared.event.Event.TheVariants.{Begin, Read, Write, Add, Insert, Delete, Save, Back, Undo, Commit, List as Listing, Ask, Give, Take, Evict, Flush, Force, CheckBegin, CheckEnd, Fail, RecoverBegin, RecoverStep, Join}
use Rattle.sd_model.specs.declared.act.Claim.{Claim}

abbrev pub nobody : TxnId
nobody = record { inst = 1; epoch = 0; seq = 0 }

abbrev pub nowhere : Rid
nowhere = record { page = 0; slot = 0 }

abbrev pub txn_of : Event → TxnId
txn_of (Read t r) = t
txn_of (Write t r v) = t
txn_of (Add t r by) = t
txn_of (Insert t p v n) = t
txn_of (Delete t r) = t
txn_of (Save t k) = t
txn_of (Back t k) = t
txn_of (Undo t) = t
txn_of (Commit t) = t
txn_of e = nobody

abbrev pub rid_of : Event → Rid
rid_of (Read t r) = r
rid_of (Write t r v) = r
rid_of (Add t r by) = r
rid_of (Delete t r) = r
rid_of e = nowhere

-- the claim that it asks for
abbrev pub mode_of : Event → Claim
mode_of (Read t r) = Claim.Shared
mode_of e = Claim.Excl

-- the acting instance
abbrev pub inst_of : Event → ℕ
inst_of (Begin i) = i
inst_of (Listing i p) = i
inst_of (Ask i p mode) = i
inst_of (Give i p) = i
inst_of (Take i p) = i
inst_of (Evict i p) = i
inst_of (Flush i p) = i
inst_of (Force i) = i
inst_of (CheckBegin i) = i
inst_of (CheckEnd i) = i
inst_of (Fail i) = i
inst_of (RecoverBegin i by) = i
inst_of (RecoverStep i) = i
inst_of (Join i) = i
inst_of e = (txn_of e).inst
