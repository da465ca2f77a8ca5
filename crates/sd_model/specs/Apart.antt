-- Transactions that put no record in common.
use Rattle.std.specs.Prelude.{◌≡◌, ◌≢◌, ◌⊎◌, List, [], ◌∷◌}
use Rattle.sd_base.specs.declared.ids.TxnId.{TxnId}
use Rattle.sd_base.specs.declared.ids.Rid.{Rid}
use Rattle.sd_model.specs.declared.act.Done.{Done}
use Rattle.sd_model.specs.Tables.{Contents}
use Rattle.sd_model.specs.Acts.{Puts, live, seen_over}
use Rattle.sd_model.specs.State.{State}
use Rattle.sd_model.specs.Kept.{MayCommit}

-- the puts leave the record as it was
abbrev pub Untouched : Puts → Rid → Type 0
Untouched puts r = (base : Contents) → seen_over base puts r ≡ base r

-- no record is put by both
abbrev pub Disjoint : Puts → Puts → Type 0
Disjoint a b = (r : Rid) → Untouched a r ⊎ Untouched b r

-- the live puts of x share no record with those of any of the others
abbrev pub EachApart : Done → List Done → Type 0
EachApart x [] = Unit {0}
EachApart x (y ∷ done) = Disjoint (live y.acts) (live x.acts) × EachApart x done

-- a transaction as it would stand among the committed ones
abbrev pub done_of : State → TxnId → Done
done_of m t = record { txn = t; acts = (m.part t).acts }

abbrev pub dones : State → List TxnId → List Done
dones m [] = []
dones m (t ∷ ts) = done_of m t ∷ dones m ts

-- each is another one than t, and may commit
abbrev pub AreOthers : State → TxnId → List TxnId → Type 0
AreOthers m t [] = Unit {0}
AreOthers m t (u ∷ us) = (u ≢ t) × MayCommit (m.part u).life × AreOthers m t us
