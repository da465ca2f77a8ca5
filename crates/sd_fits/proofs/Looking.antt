-- Locks and claims tell the same of who stands in whose way: a refused lock is refused by the serial table. For the calls on records.
use Rattle.std.proofs.Common.{◌≡◌, List, [], ◌∷◌, refl, sym, ap, ◌∙◌, cond}
use Rattle.std.specs.Prelude.{Option, Some}
use Rattle.sd_base.specs.Ids.{same_txn}
use Rattle.sd_base.specs.Waits as waits
use Rattle.sd_base.specs.Waits.{EndsWith, IsBlocked, IsChain, IsCycle, IsDeadlock, Obstacles, Wait, Waits, asking}
use Rattle.sd_base.specs.declared.ids.TxnId.{TxnId}
use Rattle.sd_base.specs.declared.place.Mode.{Mode}
use Rattle.sd_base.specs.declared.place.Mode.TheVariants as modes
use Rattle.sd_model.specs.Claims.{Clash}
use Rattle.sd_model.specs.State.{State}
use Rattle.sd_model.specs.Waits as claims
use Rattle.sd_model.specs.Waits.{claim_of}
use Rattle.sd_model.specs.declared.act.Claim.{Claim}
use Rattle.sd_reclock.specs.Locks as locks
use Rattle.sd_rig.specs.Devices.{DeviceImages}
use Rattle.sd_chain.specs.Logs.{Outcomes}
use Rattle.sd_state.specs.Good.{Good}
use Rattle.sd_state.specs.Parts.{Parts}
use Rattle.sd_state.specs.Tables.{lock_of}
use Rattle.sd_state.specs.Values.{Pending}

-- ---- one and the same answer, by obstacles and waits that agree

-- Two tell the same of who stands in whose way.
pub record Agrees (one other : Obstacles) : Type 0 where
  pub there : (t : TxnId) (wait : Wait) (u : TxnId) → one t wait u → other t wait u
  pub back : (t : TxnId) (wait : Wait) (u : TxnId) → other t wait u → one t wait u

module _ (one other : Obstacles) (ones others : Waits) (agrees : Agrees one other) (same : (t : TxnId) → ones t ≡ others t) where
  chain-there : (t : TxnId) (wait : Wait) (us : List TxnId) → IsChain one (asking t wait ones) us → IsChain other (asking t wait others) us
  chain-there t wait [] h = tt
  chain-there t wait (u ∷ []) h = tt
  chain-there t wait (u ∷ v ∷ us) h =
      ((h.0.0, sym (asks u) ∙ h.0.1, agrees.there u h.0.0 v h.0.2), chain-there t wait (v ∷ us) h.1)
    where
      asks : (x : TxnId) → asking t wait ones x ≡ asking t wait others x
      asks x = ap (λ (o : Option Wait). cond {A = Option Wait} (same_txn t x) (Some wait) o) (same x)

  pub cycle-there : (t : TxnId) (wait : Wait) (us : List TxnId) → IsCycle one (asking t wait ones) t us
      → IsCycle other (asking t wait others) t us
  cycle-there t wait [] h = absurd h
  cycle-there t wait (u ∷ []) h = absurd h
  cycle-there t wait (u ∷ v ∷ us) h = (h.0, h.1, chain-there t wait (u ∷ v ∷ us) h.2)

flipped : (one other : Obstacles) → Agrees one other → Agrees other one
flipped one other a = record { there = a.back; back = a.there }

module _ (one other : Obstacles) (ones others : Waits) (agrees : Agrees one other) (same : (t : TxnId) → ones t ≡ others t) where
  cycle-back : (t : TxnId) (wait : Wait) (us : List TxnId) → IsCycle other (asking t wait others) t us → IsCycle one (asking t wait ones) t us
  cycle-back = cycle-there other one others ones (flipped one other agrees) (λ t. sym (same t))

  pub blocked-there : (t : TxnId) (wait : Wait) (by : TxnId) → IsBlocked one ones t wait by → IsBlocked other others t wait by
  blocked-there t wait by b = record {
    obstructs = agrees.there t wait by b.obstructs;
    lowest = λ u stands below. b.lowest u (agrees.back t wait u stands) below;
    free = λ cycle is. b.free cycle (cycle-back t wait cycle is);
  }

  pub deadlock-there : (t : TxnId) (wait : Wait) (cycle : List TxnId) → IsDeadlock one ones t wait cycle → IsDeadlock other others t wait cycle
  deadlock-there t wait cycle d = record {
    closes = cycle-there one other ones others agrees same t wait cycle d.closes;
    shortest = λ us is. d.shortest us (cycle-back t wait us is);
    lowest = λ us is long before. d.lowest us (cycle-back t wait us is) long before;
  }

-- ---- locks and claims

clash-there : (mode held : Mode) (claim : Claim) → lock_of claim ≡ Some held → waits.Clash mode held → Clash (claim_of mode) claim
clash-there mode held Claim.Free e clash = absurd (cc)
clash-there modes.Excl held Claim.Shared e clash = tt
clash-there modes.Shared modes.Shared Claim.Shared e clash = absurd clash
clash-there modes.Shared modes.Excl Claim.Shared e clash = absurd (cc)
clash-there modes.Shared held Claim.Excl e clash = tt
clash-there modes.Excl held Claim.Excl e clash = tt

-- the lock that a claim is, where it conflicts
record ClashingLock (mode : Mode) (claim : Claim) : Type 0 where
  held : Mode
  is : lock_of claim ≡ Some held
  clashes : waits.Clash mode held

clash-back : (mode : Mode) (claim : Claim) → Clash (claim_of mode) claim → ClashingLock mode claim
clash-back modes.Shared Claim.Free clash = absurd clash
clash-back modes.Shared Claim.Shared clash = absurd clash
clash-back modes.Shared Claim.Excl clash = record { held = modes.Excl; is = refl; clashes = tt }
clash-back modes.Excl Claim.Free clash = absurd clash
clash-back modes.Excl Claim.Shared clash = record { held = modes.Shared; is = refl; clashes = tt }
clash-back modes.Excl Claim.Excl clash = record { held = modes.Excl; is = refl; clashes = tt }

-- the locks of a good complex are the claims of its state
pub locks-agree : (seen : DeviceImages) (leaves : Outcomes) (pend : Pending) (c : Parts) (m : State) → Good seen leaves pend c m
    → Agrees (locks.stands c.locks) (claims.stands m)
locks-agree seen leaves pend c m g = record {
  there = λ t wait u s. (s.other, clash-there wait.mode s.mode ((m.part u).claims wait.rid) (sym (g.locks u wait.rid) ∙ s.holds) s.clashes);
  back = λ t wait u s. let lock = clash-back wait.mode ((m.part u).claims wait.rid) s.1 in
      record { other = s.0; mode = lock.held; holds = g.locks u wait.rid ∙ lock.is; clashes = lock.clashes };
}
