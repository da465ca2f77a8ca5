-- What holds all along: each transaction that may still commit reads what it would read if it committed now.
use Rattle.std.specs.Prelude.{◌≢◌, List, [], ◌∷◌}
use Rattle.sd_base.specs.declared.ids.TxnId.{TxnId}
use Rattle.sd_base.specs.declared.ids.Rid.{Rid}
use Rattle.sd_model.specs.Tables.{Contents}
use Rattle.sd_model.specs.declared.act.Act.{Act}
use Rattle.sd_model.specs.declared.act.Act.TheVariants.{Read, Put, Undo}
use Rattle.sd_model.specs.declared.act.Claim.{Claim}
use Rattle.sd_model.specs.declared.act.Life.{Life}
use Rattle.sd_model.specs.declared.act.Life.TheVariants.{Gone, Running, Retained, Rolling, Doubt}
use Rattle.sd_model.specs.Acts.{Puts, live, Reads, Serial}
use Rattle.sd_model.specs.Claims.{Claims, Holds, Owns, Clash}
use Rattle.sd_model.specs.State.{State, Part, now}

abbrev pub MayCommit : Life → Type 0
MayCommit Gone = ⊥
MayCommit Running = Unit {0}
MayCommit Retained = ⊥
MayCommit (Rolling to) = Unit {0}
MayCommit (Doubt cut) = Unit {0}

-- what was read is claimed
abbrev pub Held : Claims → List Act → Type 0
Held claims [] = Unit {0}
Held claims (Read r v ∷ acts) = Holds (claims r) × Held claims acts
Held claims (Put r v ∷ acts) = Held claims acts
Held claims (Undo ∷ acts) = Held claims acts

-- what is put is claimed alone
abbrev pub Owned : Claims → Puts → Type 0
Owned claims [] = Unit {0}
Owned claims (p ∷ puts) = Owns (claims p.0) × Owned claims puts

pub record Covered (claims : Claims) (acts : List Act) : Type 0 where
  pub held : Held claims acts
  pub owned : Owned claims (live acts)

pub record Kept (m : State) : Type 0 where
  pub serial : Serial m.start m.done
  pub reads : (t : TxnId) → MayCommit (m.part t).life → Reads (now m) (m.part t).acts
  pub covered : (t : TxnId) → MayCommit (m.part t).life → Covered (m.part t).claims (m.part t).acts
  pub apart : (t u : TxnId) → t ≢ u → MayCommit (m.part t).life → MayCommit (m.part u).life → (r : Rid) → Clash ((m.part t).claims r) ((m.part u).claims r) → ⊥

-- t's part may be p
pub record PartFits (m : State) (t : TxnId) (p : Part) : Type 0 where
  pub reads : MayCommit p.life → Reads (now m) p.acts
  pub covered : MayCommit p.life → Covered p.claims p.acts
  pub apart : (u : TxnId) → t ≢ u → MayCommit p.life → MayCommit (m.part u).life → (r : Rid) → Clash (p.claims r) ((m.part u).claims r) → ⊥

-- the new part needs nothing that the old one hadn't
pub record Lessens (old new : Part) : Type 0 where
  pub may : MayCommit new.life → MayCommit old.life
  pub reads : MayCommit new.life → (base : Contents) → Reads base old.acts → Reads base new.acts
  pub covered : MayCommit new.life → Covered old.claims old.acts → Covered new.claims new.acts
  pub claims : MayCommit new.life → Covered old.claims old.acts → (r : Rid) (other : Claim) → Clash (new.claims r) other → Clash (old.claims r) other
