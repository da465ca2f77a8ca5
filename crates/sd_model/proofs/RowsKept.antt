-- Each answer keeps the serial order.
use Rattle.std.proofs.Common.{◌≡◌, ◌≢◌, inl, inr, ⊎_elim, ℕ, Option, None, Some, sym, subst}
use Rattle.sd_base.specs.declared.ids.TxnId.{TxnId}
use Rattle.sd_base.specs.declared.ids.Rid.{Rid}
use Rattle.sd_model.specs.declared.act.Claim.{Claim}
use Rattle.sd_model.specs.declared.act.Claim.TheVariants.{Free, Shared, Excl}
use Rattle.sd_model.specs.declared.act.Life.{Life}
use Rattle.sd_model.specs.declared.act.Life.TheVariants.{Running, Rolling}
use Rattle.sd_model.specs.declared.event.Event.{Event}
use Rattle.sd_model.specs.declared.event.Event.TheVariants.{Begin, Read, Write, Add, Insert, Delete, Save, Back, Undo, Commit, List as Listing, Ask, Give, Take, Evict, Flush, Force, CheckBegin, CheckEnd, Fail, FailAll, RecoverBegin, RecoverStep, Join, Reopen, Arm, Show}
use Rattle.sd_model.specs.declared.event.Reply.{Reply}
use Rattle.sd_model.specs.declared.event.Reply.TheVariants.{Began, Value, Did, At, Rows, Have, Asked, Gave, Step as Stepped, Finished, Joined, Shown}
use Rattle.sd_model.specs.Claims.{Clash}
use Rattle.sd_model.specs.State.{State}
use Rattle.sd_model.specs.Applies.{Clear, Locked}
use Rattle.sd_model.specs.Step.{Row}
use Rattle.sd_model.specs.Kept.{MayCommit, Kept}
use Rattle.sd_model.proofs.Kept.{fall-kept, closed-kept, committed-kept}
use Rattle.sd_model.proofs.Changes.{read-kept, write-kept, began-kept, turned-kept, gone-kept, undid-kept, inst-kept, recovered-kept, reopened-kept}

runs-may : (life : Life) → life ≡ Running → MayCommit life
runs-may life e = subst MayCommit (sym e) tt

rolls-may : (life : Life) (to : Option ℕ) → life ≡ Rolling to → MayCommit life
rolls-may life to e = subst MayCommit (sym e) tt

unlocked : (m : State) (t : TxnId) (r : Rid) (mode : Claim) → (Locked m t r mode → ⊥) → (u : TxnId) → t ≢ u → Clash mode ((m.part u).claims r) → ⊥
unlocked m t r mode never u ne clash = never (u, ne, clash)

free-clash : (c : Claim) → c ≡ Free → Clash Excl c → ⊥
free-clash c e = subst (λ (x : Claim). Clash Excl x → ⊥) (sym e) (λ x. x)

pub row-kept : (m : State) (e : Event) (reply : Reply) (m' : State) → Clear m e → Row m e reply m' → Kept m → Kept m'
row-kept m (Begin i) (Began x) m' c h k = subst Kept (sym h.1) (began-kept m i x k)
row-kept m (Read t r) (Value v) m' c h k = subst Kept (sym h.2) (read-kept m t r v (unlocked m t r Shared c.1.1.1.1.0) h.1 k)
row-kept m (Write t r new) Did m' c h k = subst Kept (sym h.3) (write-kept m t r (Some h.0) (Some new) (unlocked m t r Excl c.1.1.1.1.1.0) h.2 k)
row-kept m (Add t r by) Did m' c h k = subst Kept (sym h.5) (write-kept m t r (Some h.0) (Some h.1) (unlocked m t r Excl c.1.1.1.1.0) h.3 k)
row-kept m (Delete t r) Did m' c h k = subst Kept (sym h.3) (write-kept m t r (Some h.0) None (unlocked m t r Excl c.1.1.1.1.0) h.2 k)
row-kept m (Insert t p new capacity) (At r) m' c h k = subst Kept (sym h.4) (write-kept m t r None (Some new) (λ u ne. free-clash ((m.part u).claims r) (h.3 u ne)) h.2 k)
row-kept m (Save t name) Did m' c h k = subst Kept (sym h.1) (turned-kept m t (m.part t).life _ (λ x. x) k)
row-kept m (Back t (Some name)) Did m' c h k = subst Kept (sym h.3) (turned-kept m t (Rolling (Some h.0)) (m.part t).marks (λ _. runs-may _ h.1) k)
row-kept m (Back t None) Did m' c h k = subst Kept (sym h.1) (turned-kept m t (Rolling None) (m.part t).marks (λ _. ⊎_elim (runs-may _) (λ (x : (to : Option ℕ) × ((m.part t).life ≡ Rolling to)). rolls-may _ x.0 x.1) h.0) k)
row-kept m (Undo t) Stepped m' c h k = subst Kept (sym h.3) (undid-kept m t k)
row-kept m (Undo t) Finished m' c (inl h) k = subst Kept (sym h.1) k
row-kept m (Undo t) Finished m' c (inr (inl h)) k = subst Kept (sym h.3) (turned-kept m t Running (m.part t).marks (λ _. rolls-may _ _ h.1) k)
row-kept m (Undo t) Finished m' c (inr (inr h)) k = subst Kept (sym h.2) (gone-kept m t k)
row-kept m (Commit t) Did m' c h k = subst Kept (sym h.1) (committed-kept m t (runs-may _ h.0) k)
row-kept m (Listing i p) (Rows rows) m' c h k = subst Kept (sym h.1) k
row-kept m (Fail i) Did m' c h k = subst Kept (sym h) (fall-kept i m k)
row-kept m (FailAll pick) Did m' c h k = subst Kept (sym h) (closed-kept m k)
row-kept m Reopen Did m' c h k = reopened-kept m m' h k
row-kept m (RecoverBegin i by) Did m' c h k = subst Kept (sym h) (inst-kept m i _ k)
row-kept m (RecoverStep i) Stepped m' c h k = subst Kept (sym h) k
row-kept m (RecoverStep i) Finished m' c h k = recovered-kept i m m' h k
row-kept m (Join i) (Joined epoch) m' c h k = subst Kept (sym h.2) (inst-kept m i _ k)
row-kept m (Ask i p mode) Have m' c h k = subst Kept (sym h) k
row-kept m (Ask i p mode) (Asked of) m' c h k = subst Kept (sym h) k
row-kept m (Give i p) (Gave to) m' c h k = subst Kept (sym h) k
row-kept m (Take i p) Did m' c h k = subst Kept (sym h) k
row-kept m (Evict i p) Did m' c h k = subst Kept (sym h) k
row-kept m (Flush i p) Did m' c h k = subst Kept (sym h) k
row-kept m (Force i) Did m' c h k = subst Kept (sym h) k
row-kept m (CheckBegin i) Did m' c h k = subst Kept (sym h) k
row-kept m (CheckEnd i) Did m' c h k = subst Kept (sym h) k
row-kept m (Show p) (Shown place lsn) m' c h k = subst Kept (sym h) k
row-kept m (Arm trouble) Did m' c h k = subst Kept (sym h) k
row-kept m e reply m' c h k = absurd h
