-- The state of the serial table, and what events make of it.
use Rattle.std.specs.Prelude.{ℕ, ◌+◌, List, [], ◌∷◌, ◌++◌, None, eqb, cond}
use Rattle.sd_base.specs.declared.ids.TxnId.{TxnId}
use Rattle.sd_base.specs.declared.ids.Rid.{Rid}
use Rattle.sd_base.specs.declared.place.Status.{Status}
use Rattle.sd_base.specs.declared.place.Status.TheVariants.{Up, Down, Recovering, Clean, Restarting, Closed}
use Rattle.sd_model.specs.declared.act.Act.{Act}
use Rattle.sd_model.specs.declared.act.Done.{Done}
use Rattle.sd_model.specs.declared.act.Claim.{Claim}
use Rattle.sd_model.specs.declared.act.Claim.TheVariants.{Free, Shared, Excl}
use Rattle.sd_model.specs.declared.act.Life.{Life}
use Rattle.sd_model.specs.declared.act.Cut.TheVariants as Cut
use Rattle.sd_model.specs.declared.act.Inst.{Inst}
use Rattle.sd_base.specs.Ids.{same_txn}
use Rattle.sd_model.specs.Tables.{Content, Contents}
use Rattle.sd_model.specs.Acts.{live, seen_over, after}
use Rattle.sd_model.specs.Claims.{Claims, with_claim}

-- a transaction: a mark is a name with the number of live puts at that moment
pub record Part : Type 0 where
  pub life : Life
  pub acts : List Act
  pub marks : List (List ℕ × ℕ)
  pub claims : Claims

pub record State : Type 0 where
  -- the opening table
  pub start : Contents
  -- the committed transactions, in their order
  pub done : List Done
  -- all that ever began or were found open
  pub begun : List TxnId
  -- all whose commit was cut, in the order of the cuts
  pub cuts : List TxnId
  pub part : TxnId → Part
  pub inst : ℕ → Inst

-- the table of the committed transactions
abbrev pub now : State → Contents
now m = after m.start m.done

-- what the transaction finds: its last live put of a record, else what the committed ones left
abbrev pub view : State → TxnId → Contents
view m t = seen_over (now m) (live (m.part t).acts)

abbrev pub no_claims : Claims
no_claims r = Free

abbrev pub gone : Part
gone = record { life = Life.Gone; acts = []; marks = []; claims = no_claims }

-- one that has just begun
abbrev pub begun_part : Part
begun_part = record { life = Life.Running; acts = []; marks = []; claims = no_claims }

-- t's part is p
abbrev pub put_part : TxnId → Part → State → State
put_part t p m = record m { part = λ u. cond (same_txn t u) p (m.part u) }

-- instance i is x
abbrev pub put_inst : ℕ → Inst → State → State
put_inst i x m = record m { inst = λ j. cond (eqb i j) x (m.inst j) }

abbrev pub with_status : Status → Inst → Inst
with_status s x = record x { status = s }

abbrev pub with_life : Life → Part → Part
with_life life p = record p { life = life }

-- t stands elsewhere
abbrev pub turned : TxnId → Life → State → State
turned t life m = put_part t (with_life life (m.part t)) m

-- a claim and acts more
abbrev pub took_part : Rid → Claim → List Act → Part → Part
took_part r mode acts p = record p { acts = p.acts ++ acts; claims = with_claim r mode p.claims }

abbrev pub took : TxnId → Rid → Claim → List Act → State → State
took t r mode acts m = put_part t (took_part r mode acts (m.part t)) m

-- t finds v at r
abbrev pub read_at : TxnId → Rid → Content → State → State
read_at t r v m = took t r Shared (Act.Read r v ∷ []) m

-- t finds v at r, and nobody else may until t ends
abbrev pub looked_at : TxnId → Rid → Content → State → State
looked_at t r v m = took t r Excl (Act.Read r v ∷ []) m

-- t finds v at r, and puts w there
abbrev pub wrote : TxnId → Rid → Content → Content → State → State
wrote t r v w m = took t r Excl (Act.Read r v ∷ Act.Put r w ∷ []) m

-- a failure makes losers of those that run
abbrev pub lost : Life → Life
lost Life.Gone = Life.Gone
lost Life.Running = Life.Retained
lost Life.Retained = Life.Retained
lost (Life.Rolling to) = Life.Retained
lost (Life.Doubt cut) = Life.Doubt cut

abbrev pub lost_part : Part → Part
lost_part p = record p { life = lost p.life; marks = [] }

-- the status of an instance after i fell: one that i was recovering is down again
abbrev pub freed : ℕ → Status → Status
freed i Up = Up
freed i Down = Down
freed i (Recovering by) = cond (eqb i by) Down (Recovering by)
freed i Clean = Clean
freed i Restarting = Restarting
freed i Closed = Closed

-- i falls
abbrev pub fall : ℕ → State → State
fall i m = record m {
  part = λ t. cond (eqb i t.inst) (lost_part (m.part t)) (m.part t);
  inst = λ j. with_status (cond (eqb i j) Down (freed i (m.inst j).status)) (m.inst j);
}

-- the whole complex fails
abbrev pub closed : State → State
closed m = record m { part = λ t. lost_part (m.part t); inst = λ j. with_status Closed (m.inst j) }

-- t joins the committed ones and lets go of its claims
abbrev pub committed : TxnId → State → State
committed t m = put_part t gone (record m { done = m.done ++ record { txn = t; acts = (m.part t).acts } ∷ [] })

-- t's commit is cut, and its instance falls
abbrev pub cut_commit : TxnId → State → State
cut_commit t m = fall t.inst (put_part t (record (m.part t) { life = Life.Doubt Cut.Committing; marks = [] }) (record m { cuts = m.cuts ++ t ∷ [] }))

-- x begins
abbrev pub began : ℕ → TxnId → State → State
began i x m = put_part x begun_part (put_inst i (record (m.inst i) { begins = (m.inst i).begins + 1 }) (record m { begun = m.begun ++ x ∷ [] }))

-- i is up in this epoch
abbrev pub joined : ℕ → ℕ → State → State
joined i epoch m = put_inst i (record { status = Up; epoch = epoch; begins = 0; failed = 0 }) m

-- a complex on blank devices: no record, no transaction, each instance with nothing to recover
abbrev pub fresh : State
fresh = record { start = λ r. None; done = []; begun = []; cuts = []; part = λ t. gone; inst = λ i. record { status = Clean; epoch = 0; begins = 0; failed = 0 } }
