use Rattle.std.proofs.Common.{◌≡◌, Option, Some, None, false, sym}
use Rattle.std.proofs.lemmas.Bool.{true≢false}
use Rattle.std.proofs.lemmas.Result.{IfOk-weaker}
use Rattle.std.specs.Option.{is_some, MatchOption}
use Rattle.sd_base.specs.declared.ids.TxnId.{TxnId}
use Rattle.sd_reclock.specs.Waiting.{wait_of}
use Rattle.sd_reclock.specs.Locks.{ClashesIn, StandsIn}
use Rattle.sd_reclock.specs.Reaching.{AreThose}
use Rattle.sd_reclock.proofs.Clashing.{stand_all, stand_none, those_none}
use Rattle.sd_reclock.proofs.locks.LocksStanding.obstacles.Goals as goal

-- where the lowest obstacle is missing, there is none
none_stands : (o : Option TxnId) (P : TxnId → Type 0) → is_some o ≡ false → MatchOption o ((u : TxnId) → P u → ⊥) P → (u : TxnId) → P u → ⊥
none_stands None P e h = h
none_stands (Some by) P e h = absurd (true≢false e)

pub returns-then-is_none : goal.returns-then-is_none
returns-then-is_none c = rw c.new.ensures.items (those_none (StandsIn c.args.self.now c.args.t.now (wait_of c.args.wait.now))
    (none_stands c.obstacle.result (StandsIn c.args.self.now c.args.t.now (wait_of c.args.wait.now)) c.if-is_none.ensures c.obstacle.ensures.stands))

pub returns-in-Some : goal.returns-in-Some
returns-in-Some c = IfOk-weaker c.clashing.result (λ all. AreThose (ClashesIn c.in-Some.holders.now c.args.t.now c.args.wait.now.mode) all.items)
    (λ all. AreThose (StandsIn c.args.self.now c.args.t.now (wait_of c.args.wait.now)) all.items)
    (λ all those. stand_all c.args.self.now c.args.t.now (wait_of c.args.wait.now) c.in-Some.holders.now all.items (sym c.in-Some.ensures.found) those)
    c.clashing.ensures

pub returns-in-None : goal.returns-in-None
returns-in-None c = rw c.new-in-None.ensures.items (those_none (StandsIn c.args.self.now c.args.t.now (wait_of c.args.wait.now))
    (stand_none c.args.self.now c.args.t.now (wait_of c.args.wait.now) (sym c.in-None.ensures.found)))
