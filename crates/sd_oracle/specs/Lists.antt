-- A state kept in lists: each change is appended, and the last one counts.
use Rattle.std.specs.Prelude.{ℕ, List, [], ◌∷◌, Option, None, Some, eqb, cond}
use Rattle.sd_base.specs.declared.ids.TxnId.{TxnId}
use Rattle.sd_base.specs.declared.ids.Rid.{Rid}
use Rattle.sd_base.specs.declared.place.Status.{Status}
use Rattle.sd_model.specs.declared.act.Done.{Done}
use Rattle.sd_model.specs.declared.act.Claim.{Claim}
use Rattle.sd_model.specs.declared.act.Claim.TheVariants.{Free}
use Rattle.sd_model.specs.declared.act.Inst.{Inst}
use Rattle.sd_oracle.specs.declared.standing.Standing.{Standing}
use Rattle.sd_oracle.specs.declared.lists.Lists.{Lists}
use Rattle.sd_base.specs.Ids.{same_txn, same_rid}
use Rattle.sd_model.specs.Tables.{contents}
use Rattle.sd_model.specs.Claims.{Claims, raised_claim}
use Rattle.sd_model.specs.State.{State, Part, gone, fresh}

-- the strongest of the claims on a record, over one that was there before
abbrev pub claim_from : Claim → List (Rid × Claim) → Rid → Claim
claim_from c [] r = c
claim_from c (x ∷ xs) r = claim_from (cond (same_rid x.0 r) (raised_claim x.1 c) c) xs r

abbrev pub claims_in : List (Rid × Claim) → Claims
claims_in xs r = claim_from Free xs r

abbrev pub part_of : Standing → Part
part_of s = record { life = s.life; acts = s.acts; marks = s.marks; claims = claims_in s.claims }

-- the part of one that has this standing, or none
abbrev pub part_at : Option Standing → Part
part_at None = gone
part_at (Some s) = part_of s

abbrev pub part_from : Part → List (TxnId × Standing) → TxnId → Part
part_from p [] t = p
part_from p (x ∷ xs) t = part_from (cond (same_txn x.0 t) (part_of x.1) p) xs t

-- the part of a transaction: the last that was set, or gone
abbrev pub part_in : List (TxnId × Standing) → TxnId → Part
part_in xs t = part_from gone xs t

abbrev pub inst_from : Inst → List (ℕ × Inst) → ℕ → Inst
inst_from y [] i = y
inst_from y (x ∷ xs) i = inst_from (cond (eqb x.0 i) x.1 y) xs i

-- an instance that never joined
abbrev pub unjoined : Status → Inst
unjoined status = record { status = status; epoch = 0; begins = 0; failed = 0 }

-- an instance: the last that was set, or one that never joined, with the status of the rest
abbrev pub inst_in : Status → List (ℕ × Inst) → ℕ → Inst
inst_in rest xs i = inst_from (unjoined rest) xs i

-- what lists hold: each change of a transaction and of an instance is appended
pub record Journal : Type 0 where
  pub start : List (Rid × List ℕ)
  pub done : List Done
  pub begun : List TxnId
  pub cuts : List TxnId
  pub parts : List (TxnId × Standing)
  pub insts : List (ℕ × Inst)
  -- the status of the instances without a change
  pub rest : Status

-- the state that a journal stands for
abbrev pub state_of : Journal → State
state_of j = record { start = contents j.start; done = j.done; begun = j.begun; cuts = j.cuts; part = part_in j.parts; inst = inst_in j.rest j.insts }

abbrev pub journal : Lists → Journal
journal l = record { start = l.start; done = l.done.items; begun = l.begun.items; cuts = l.cuts.items; parts = l.parts.items; insts = l.insts.items; rest = l.rest }

-- the state that the lists stand for
abbrev pub meaning : Lists → State
meaning l = state_of (journal l)

-- a fresh complex with these records
abbrev pub fresh_with : List (Rid × List ℕ) → State
fresh_with rows = record fresh { start = contents rows }
