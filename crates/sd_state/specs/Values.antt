-- What records have: of a transaction's open records, and of the table that recovery gives.
use Rattle.std.specs.Prelude.{ℕ, Bool, true, false, List, [], ◌∷◌, ◌++◌, cond, eqb, map, filter}
use Rattle.std.specs.List.{list_any}
use Rattle.sd_base.specs.declared.ids.TxnId.{TxnId}
use Rattle.sd_base.specs.declared.ids.Rid.{Rid}
use Rattle.sd_logrec.specs.View.{Rec}
use Rattle.sd_model.specs.Acts.{after}
use Rattle.sd_model.specs.Tables.{Content}
use Rattle.sd_model.specs.State.{State}
use Rattle.sd_model.specs.declared.act.Done.{Done}
use Rattle.sd_model.specs.declared.act.Life.{Life}
use Rattle.sd_chain.specs.Fates.{commits}
use Rattle.sd_chain.specs.Records.{Val, home}
use Rattle.sd_txn.specs.declared.state.OpenRec.{OpenRec}

-- the record of the table that a log record changes
abbrev pub rid_of : Rec → Rid
rid_of x = record { page = x.page; slot = x.slot }

-- a change as a put
abbrev pub put_of : Rec → Rid × Content
put_of x = (rid_of x, x.after)

-- a change as its undo wants it
abbrev pub open_of : Rec → OpenRec
open_of x = record { lsn = x.lsn; prev = x.prev; rid = rid_of x; before = x.before }

abbrev pub is_doubt : Life → Bool
is_doubt Life.Gone = false
is_doubt Life.Running = false
is_doubt Life.Retained = false
is_doubt (Life.Rolling to) = false
is_doubt (Life.Doubt cut) = true

-- what is under way: nothing; a transaction's Commit, which is being forced; or an instance's Start
pub data Pending : Type 0 where
  Idle : Pending
  Commits : (t : TxnId) → Pending
  Starts : (i : ℕ) → Pending

-- the transaction whose commit is under way
abbrev pub commits_of : Pending → List TxnId
commits_of Pending.Idle = []
commits_of (Pending.Commits t) = t ∷ []
commits_of (Pending.Starts i) = []

-- how many epochs an instance is to begin
abbrev pub starts_of : Pending → ℕ → ℕ
starts_of Pending.Idle i = 0
starts_of (Pending.Commits t) i = 0
starts_of (Pending.Starts j) i = cond (eqb i j) 1 0

-- these logs have a Commit of t
abbrev pub is_committed : (ℕ → List Rec) → TxnId → Bool
is_committed logs t = list_any (commits t) (logs (home t))

-- those in doubt, in the order of their cuts, and those whose commit is under way
abbrev pub undecided : State → Pending → List TxnId
undecided m pend = filter (λ t. is_doubt (m.part t).life) m.cuts ++ commits_of pend

-- a transaction as one that committed
abbrev pub as_done : State → TxnId → Done
as_done m t = record { txn = t; acts = (m.part t).acts }

-- of these, those whose Commit the logs have
abbrev pub decided : State → Pending → (ℕ → List Rec) → List Done
decided m pend logs = map (as_done m) (filter (is_committed logs) (undecided m pend))

-- the table for which devices with these logs stand: what the committed ones left, and those that are decided
abbrev pub values : State → Pending → (ℕ → List Rec) → ℕ → ℕ → Val
values m pend logs p s = after m.start (m.done ++ decided m pend logs) (record { page = p; slot = s })
