-- What the answers to helping events tell of their replies, and how a pull goes on behind them. It serves the goals of pull.rt.
use Rattle.std.proofs.Common.{◌≡◌, ℕ, true, false, refl, ap}
use Rattle.sd_base.specs.declared.refusal.Refusal.TheVariants as R
use Rattle.sd_model.specs.declared.event.Event.{Event}
use Rattle.sd_model.specs.declared.event.Reply.{Reply}
use Rattle.sd_model.specs.declared.event.Reply.TheVariants as reply
use Rattle.sd_drive.specs.declared.pull.Answer.{Answer}
use Rattle.sd_drive.specs.declared.pull.Answer.TheVariants as answers
use Rattle.sd_drive.specs.Driven.{answer_as}
use Rattle.sd_model.specs.Replies.{is_did}
use Rattle.sd_drive.specs.Pulls.{Pull, helped}

-- ---- replies

pub had-is : (r : Reply) → answer_as r ≡ answers.Had → r ≡ reply.Have
had-is reply.Have is = refl
had-is (reply.Refused (R.MovingTo to)) is = absurd (cc)
had-is (reply.Refused R.PoolFull) is = absurd (cc)
had-is r is = absurd (cc)

pub asked-is : (r : Reply) (of : ℕ) → answer_as r ≡ answers.Asked of → r ≡ reply.Asked of
asked-is (reply.Asked x) of is = let same : x ≡ of = cc in ap (λ (y : ℕ). reply.Asked y) same
asked-is (reply.Refused (R.MovingTo to)) of is = absurd (cc)
asked-is (reply.Refused R.PoolFull) of is = absurd (cc)
asked-is r of is = absurd (cc)

pub gave-is : (r : Reply) → answer_as r ≡ answers.Gave → (to : ℕ) × (r ≡ reply.Gave to)
gave-is (reply.Gave to) is = (to, refl)
gave-is (reply.Refused (R.MovingTo to)) is = absurd (cc)
gave-is (reply.Refused R.PoolFull) is = absurd (cc)
gave-is r is = absurd (cc)

pub did-is : (r : Reply) → answer_as r ≡ answers.Did → r ≡ reply.Did
did-is reply.Did is = refl
did-is (reply.Refused (R.MovingTo to)) is = absurd (cc)
did-is (reply.Refused R.PoolFull) is = absurd (cc)
did-is r is = absurd (cc)

pub moving-is : (r : Reply) (to : ℕ) → answer_as r ≡ answers.MovingTo to → r ≡ reply.Refused (R.MovingTo to)
moving-is (reply.Refused (R.MovingTo x)) to is = let same : x ≡ to = cc in ap (λ (y : ℕ). reply.Refused (R.MovingTo y)) same
moving-is (reply.Refused R.PoolFull) to is = absurd (cc)
moving-is r to is = absurd (cc)

pub full-is : (r : Reply) → answer_as r ≡ answers.NoFrame → r ≡ reply.Refused R.PoolFull
full-is (reply.Refused R.PoolFull) is = refl
full-is (reply.Refused (R.MovingTo to)) is = absurd (cc)
full-is r is = absurd (cc)

pub did-as : (r : Reply) → answer_as r ≡ answers.Did → is_did r ≡ true
did-as r is = ap is_did (did-is r is)

pub not-did : (r : Reply) → (answer_as r ≡ answers.Did → ⊥) → is_did r ≡ false
not-did reply.Did isnt = absurd (isnt refl)
not-did r isnt = refl

-- ---- a pull that ends

refused-ends : (p : ℕ) (e : Event) (r : Reply) → answer_as r ≡ answers.Refused → helped (Pull.Asks p) e r ≡ Pull.Ends
refused-ends p e reply.Have is = absurd (cc)
refused-ends p e (reply.Asked of) is = absurd (cc)
refused-ends p e (reply.Gave to) is = absurd (cc)
refused-ends p e reply.Did is = absurd (cc)
refused-ends p e (reply.Refused (R.MovingTo to)) is = absurd (cc)
refused-ends p e (reply.Refused R.PoolFull) is = absurd (cc)
refused-ends p e r is = refl

-- an ask that is answered so is the last one
pub ask-ends : (p : ℕ) (e : Event) (r : Reply) (a : Answer) → answer_as r ≡ a → (a ≡ answers.Had → ⊥) → ((of : ℕ) → a ≡ answers.Asked of → ⊥)
    → ((to : ℕ) → a ≡ answers.MovingTo to → ⊥) → (a ≡ answers.NoFrame → ⊥) → helped (Pull.Asks p) e r ≡ Pull.Ends
ask-ends p e r answers.Had is had asked moving full = absurd (had refl)
ask-ends p e r (answers.Asked of) is had asked moving full = absurd (asked of refl)
ask-ends p e r (answers.MovingTo to) is had asked moving full = absurd (moving to refl)
ask-ends p e r answers.Gave is had asked moving full = let g = gave-is r is in ap (helped (Pull.Asks p) e) g.1
ask-ends p e r answers.Did is had asked moving full = ap (helped (Pull.Asks p) e) (did-is r is)
ask-ends p e r answers.NoFrame is had asked moving full = absurd (full refl)
ask-ends p e r answers.Refused is had asked moving full = refused-ends p e r is

pub give-ends : (p of : ℕ) (e : Event) (r : Reply) → (answer_as r ≡ answers.Gave → ⊥) → helped (Pull.Gives p of) e r ≡ Pull.Ends
give-ends p of e (reply.Gave to) isnt = absurd (isnt refl)
give-ends p of e r isnt = refl

pub take-ends : (p to : ℕ) (e : Event) (r : Reply) → (answer_as r ≡ answers.Did → ⊥) → (answer_as r ≡ answers.NoFrame → ⊥)
    → helped (Pull.Takes p to) e r ≡ Pull.Ends
take-ends p to e reply.Did did full = absurd (did refl)
take-ends p to e (reply.Refused R.PoolFull) did full = absurd (full refl)
take-ends p to e r did full = refl
