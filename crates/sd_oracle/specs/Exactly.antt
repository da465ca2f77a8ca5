-- What the judge's verdict says: the serial table's step, with exact answers to locks that are asked for.
use Rattle.std.specs.Prelude.{◌≡◌, Option}
use Rattle.sd_base.specs.declared.ids.Rid.{Rid}
use Rattle.sd_model.specs.declared.event.Event.{Event}
use Rattle.sd_model.specs.declared.event.Reply.{Reply}
use Rattle.sd_model.specs.Fields.{txn_of}
use Rattle.sd_model.specs.Scenes.{Scene, Plays, asked_of}
use Rattle.sd_model.specs.Exact.{IsExact, IsOfFreeSlot}
use Rattle.sd_oracle.specs.declared.outcome.Outcome.{Outcome}
use Rattle.sd_oracle.specs.declared.verdict.Verdict.{Verdict}
use Rattle.sd_oracle.specs.declared.verdict.Verdict.TheVariants.{Follows, Differs, Unjudged}
use Rattle.sd_oracle.specs.Outcomes.{Told}
use Rattle.sd_oracle.specs.Joins.{IsCountable}

-- the event with its reply leads from one scene to the next, exactly; the outcome and an insert's record are told
pub record Leads (o : Outcome) (told : Option Rid) (e : Event) (reply : Reply) (s next : Scene) : Type 0 where
  pub plays : Plays told e reply s next
  pub outcome : Told o s.state e reply next.state
  pub exact : IsExact s (txn_of e) (asked_of e told) reply
  pub slot : IsOfFreeSlot s.state e told reply

-- what a verdict says of an event with its reply, and of the scene after it
abbrev pub JudgesExactly : Verdict → Outcome → Option Rid → Event → Reply → Scene → Scene → Type 0
JudgesExactly Follows o told e reply s next = Leads o told e reply s next
JudgesExactly Differs o told e reply s next = ((other : Scene) → Leads o told e reply s other → ⊥) × (next ≡ s)
JudgesExactly Unjudged o told e reply s next = (IsCountable s.state e → ⊥) × (next ≡ s)
