-- Laws of what is seen: the table and the views after each change, and the parts of the others.
use Rattle.std.specs.Prelude.{◌≡◌, ◌≢◌, ℕ, cond}
use Rattle.sd_base.specs.declared.ids.TxnId.{TxnId}
use Rattle.sd_base.specs.declared.ids.Rid.{Rid}
use Rattle.sd_model.specs.declared.act.Life.TheVariants.{Gone}
use Rattle.sd_base.specs.Ids.{same_rid}
use Rattle.sd_model.specs.Tables.{Content}
use Rattle.sd_model.specs.State.{State, Part, now, view, put_part, began, wrote, committed}
use Rattle.sd_model.specs.Applies.{count_of}

-- the part of the changed transaction, and of another
abbrev pub PartHere : Type 0
PartHere = (m : State) (t : TxnId) (p : Part) → (put_part t p m).part t ≡ p

abbrev pub PartElsewhere : Type 0
PartElsewhere = (m : State) (t u : TxnId) (p : Part) → t ≢ u → (put_part t p m).part u ≡ m.part u

-- a write changes the writer's view at the record alone, and nothing of what is committed
abbrev pub ViewAfterWrite : Type 0
ViewAfterWrite = (m : State) (t : TxnId) (r : Rid) (v w : Content) (q : Rid) → view (wrote t r v w m) t q ≡ cond (same_rid r q) w (view m t q)

abbrev pub NowAfterWrite : Type 0
NowAfterWrite = (m : State) (t : TxnId) (r : Rid) (v w : Content) → now (wrote t r v w m) ≡ now m

-- a commit makes the view of the transaction the table
abbrev pub NowAfterCommit : Type 0
NowAfterCommit = (m : State) (t : TxnId) → now (committed t m) ≡ view m t

-- one that has just begun sees the table
abbrev pub ViewAfterBegin : Type 0
ViewAfterBegin = (m : State) (i : ℕ) (x : TxnId) → view (began i x m) x ≡ now m

-- where no transaction is there, none is unresolved
abbrev pub NoneCounted : Type 0
NoneCounted = (m : State) (i : ℕ) → ((t : TxnId) → (m.part t).life ≡ Gone) → count_of m i ≡ 0
