-- That a device failed in the opening is told by the last entry, and the other way round. It serves the goals of recovery.rt and driver.rt.
use Rattle.std.proofs.Common.{◌≡◌, ⊎_elim, ℕ, suc, ◌-◌, ◌≤◌, Bool, true, false, List, [], ◌∷◌, ◌++◌, length, refl, sym, ap, ◌∙◌, subst, arith, length-append}
use Rattle.std.specs.Prelude.{Option, None, Some, slice_get}
use Rattle.sd_base.proofs.Lists.{slice_get-push}
use Rattle.sd_base.specs.Streams.{Rises}
use Rattle.sd_base.specs.declared.refusal.Refusal.TheVariants as R
use Rattle.sd_model.specs.declared.event.Entry.{Entry}
use Rattle.sd_model.specs.declared.event.Event.{Event}
use Rattle.sd_model.specs.declared.event.Reply.{Reply}
use Rattle.sd_model.specs.declared.event.Reply.TheVariants as reply
use Rattle.sd_model.specs.State.{State}
use Rattle.sd_script.specs.declared.line.Line.{Line}
use Rattle.sd_world.specs.Serving.{Core, FaultsAre, Telling}
use Rattle.sd_fits.specs.Bodies.{rig_of}
use Rattle.sd_fits.specs.declared.body.Body.{Body}
use Rattle.sd_hall.specs.Bodies.{IsRigIn}
use Rattle.sd_hall.specs.declared.hall.Hall.{Hall}
use Rattle.sd_drive.specs.Driven.{IsIn, MarksLast, ends_failed, tells_fault}
use Rattle.sd_drive.specs.Driving.{Cursor, Helps, Own, Progress, Tells, TellsAt, TellsFirst, TellsWork, Work, World, cursor_in, due_works, event_at, fails, followed, goes_on, marked, puller_of, stays}
use Rattle.sd_drive.specs.Pulls.{Pull, Puller, helped, is_pulling}
use Rattle.sd_drive.specs.Running.{Breaks, FaultsOf, Start}
use Rattle.sd_model.specs.Replies.{is_failed}
use Rattle.sd_drive.proofs.Running.{fault-grows, ran-breaks, rises-then}
use Rattle.sd_drive.proofs.Ways.{runs-way}

pub failed-is : (r : Reply) → is_failed r ≡ true → r ≡ reply.Refused R.Failed
failed-is (reply.Refused R.Failed) failed = refl
failed-is r failed = absurd (cc)

fails-as : (r : Reply) → fails Work.Opening r ≡ is_failed r
fails-as (reply.Refused R.Failed) = refl
fails-as r = refl

-- where no fault is marked, what is marked stays as it is
pub marked-same : (work : Work) (r : Reply) (t : Progress) → fails work r ≡ false → t.failed ≡ false → marked work r t ≡ t
marked-same Work.Opening r t fine no_ = ap (λ (b : Bool). record t { failed = b }) (fine ∙ sym no_)
marked-same (Work.Do line) r t fine no_ = refl

-- ---- what an entry marks

-- A fault is marked where the reply tells one, and is there where the opening goes on.
abbrev pub Marks : Reply → Progress → Type 0
Marks r then = (then.failed ≡ true → is_failed r ≡ true)
    × ((rest : List Work) (c : Cursor) → then.left ≡ Work.Opening ∷ rest → then.cursor ≡ Some c → is_failed r ≡ true → then.failed ≡ true)

unlike : {A : Type 0} {b : Bool} → b ≡ true → b ≡ false → A
unlike {A} {b} is isnt = let clash : true ≡ false = sym is ∙ isnt in absurd (cc)

plain-marks : (r : Reply) (t : Progress) → is_failed r ≡ false → t.failed ≡ false → Marks r t
plain-marks r t fine no_ = (λ failed. unlike failed no_, λ rest c left at failed. unlike failed fine)

-- where it stands somewhere, this work is the first
abbrev IsFirst : Work → Progress → Type 0
IsFirst work t = (c : Cursor) → t.cursor ≡ Some c → (rest : List Work) × (t.left ≡ work ∷ rest)

another : {A : Type 0} (line : Line) (works rest behind : List Work) → works ≡ Work.Do line ∷ rest → works ≡ Work.Opening ∷ behind → A
another line works rest behind a b = let clash : Work.Do line ∷ rest ≡ Work.Opening ∷ behind = sym a ∙ b in absurd (cc)

marks-of : (work : Work) (r : Reply) (t : Progress) → t.failed ≡ false → IsFirst work t → Marks r (marked work r t)
marks-of Work.Opening r t no_ first = (λ failed. sym (fails-as r) ∙ failed, λ rest c left at failed. fails-as r ∙ failed)
marks-of (Work.Do line) r t no_ first = (
  λ failed. unlike failed no_,
  λ rest c left at failed. let f = first c at in another line t.left f.0 rest f.1 left,
)

followed-first : (at : Progress) (work : Work) (rest : List Work) (r : Reply) (o : Option Cursor) → IsFirst work (followed at work rest r o)
followed-first at work rest r None c is = absurd (cc)
followed-first at work rest r (Some next) c is = (rest, refl)

pub followed-fine : (at : Progress) (work : Work) (rest : List Work) (r : Reply) (o : Option Cursor) → at.failed ≡ false
    → (followed at work rest r o).failed ≡ false
followed-fine at work rest r None no_ = no_
followed-fine at work rest r (Some next) no_ = no_

module _ (at : Progress) (work : Work) (rest : List Work) (no_ : at.failed ≡ false) where
  followed-marks : (r : Reply) (o : Option Cursor) (then : Progress) → then ≡ marked work r (followed at work rest r o) → Marks r then
  followed-marks r o then is = subst (Marks r) (sym is)
      (marks-of work r (followed at work rest r o) (followed-fine at work rest r o no_) (followed-first at work rest r o))

  own-marks : (m : State) (w' : Core) (c : Cursor) (e : Event) (r : Reply) (then : Progress) → Own m w' at work rest c e r then → Marks r then
  own-marks m w' c e (reply.Refused (R.NeedPage place)) then h = ⊎_elim
      (λ asks. subst (Marks (reply.Refused (R.NeedPage place))) (sym asks.2.2)
      (plain-marks (reply.Refused (R.NeedPage place)) (stays at work rest c (Pull.Asks asks.2.0)) refl no_))
      (λ vain. followed-marks (reply.Refused (R.NeedPage place)) (goes_on w' at.known work c (reply.Refused (R.NeedPage place))) then vain.1)
      h
  own-marks m w' c e r then h = followed-marks r (goes_on w' at.known work c r) then h

  helps-marks : (w : Core) (c : Cursor) (o : Option Puller) (x : Entry) (then : Progress) → Helps w at work rest c o x then → Marks x.reply then
  helps-marks w c None x then h = absurd h
  helps-marks w c (Some for) x then h = subst (Marks x.reply) (sym h.3)
      (marks-of work x.reply (stays at work rest c (helped at.pull x.event x.reply)) no_ (λ d is. (rest, refl)))

  at-marks : (b : Bool) (w w' : Core) (c : Cursor) (x : Entry) (then : Progress) → TellsAt b w w' at work rest c x then → Marks x.reply then
  at-marks true w w' c x then h = helps-marks w c (puller_of w.scene.state (event_at at.known work c)) x then h
  at-marks false w w' c x then h = own-marks w.scene.state w' c x.event x.reply then h.3

  work-marks : (o : Option Cursor) (w w' : Core) (x : Entry) (then : Progress) → TellsWork w w' at work rest o x then → Marks x.reply then
  work-marks None w w' x then h = absurd h
  work-marks (Some c) w w' x then h = at-marks (is_pulling at.pull) w w' c x then h

first-marks : (at : Progress) (works : List Work) → at.failed ≡ false → (w w' : Core) (x : Entry) (then : Progress)
    → TellsFirst w w' at works x then → Marks x.reply then
first-marks at [] no_ w w' x then h = absurd h
first-marks at (work ∷ rest) no_ w w' x then h = work-marks at work rest no_ (cursor_in w.scene.state at.known work at.cursor) w w' x then h

pub tells-marks : (w w' : Core) (at : Progress) (x : Entry) (then : Progress) → Tells w w' at x then → Marks x.reply then
tells-marks w w' at x then h = first-marks at (due_works w.scene.state at) h.0 w w' x then h.1

-- ---- the last entry

pub ends-last : (es : List Entry) (x : Entry) → ends_failed (es ++ x ∷ []) ≡ is_failed x.reply
ends-last es x =
    let long = length-append es (x ∷ []) in
    let last : length (es ++ x ∷ []) - 1 ≡ length es = omega (arith, long) in
    ap tells_fault (ap (λ (k : ℕ). slice_get (es ++ x ∷ []) k) last ∙ slice_get-push es x)

pub marks-noted : (entries es : List Entry) (x : Entry) (then : Progress) → entries ≡ es ++ x ∷ [] → Marks x.reply then → MarksLast entries then
marks-noted entries es x then is h =
    let ends : ends_failed entries ≡ is_failed x.reply = ap ends_failed is ∙ ends-last es x in
    record { told = λ failed. ends ∙ h.0 failed; marked = λ rest c left at failed. h.1 rest c left at (sym ends ∙ failed) }

-- ---- the count of faults

last-behind : (e f : Entry) (es : List Entry) → slice_get (e ∷ f ∷ es) (length (e ∷ f ∷ es) - 1) ≡ slice_get (f ∷ es) (length (f ∷ es) - 1)
last-behind e f es =
    let n : length (e ∷ f ∷ es) - 1 ≡ suc (length (f ∷ es) - 1) = omega arith in ap (λ (k : ℕ). slice_get (e ∷ f ∷ es) k) n

faults-behind : (e : Entry) (es : List Entry) (a b : ℕ) → ends_failed (e ∷ es) ≡ true → FaultsOf (e ∷ es) a b → Rises a b
faults-behind e [] a b ends h =
    let rises : Rises a h.0 = subst (λ (r : Reply). FaultsAre e.event r a h.0) (failed-is e.reply ends) h.1 in
    subst (λ (n : ℕ). Rises a n) (sym h.2) rises
faults-behind e (f ∷ es) a b ends h =
    rises-then 18446744073709551615 a h.0 b (fault-grows e.event e.reply a h.0 h.1)
    (faults-behind f es h.0 b (sym (ap tells_fault (last-behind e f es)) ∙ ends) h.2)

-- a fault that the last entry tells raised it
pub faults-last : (es : List Entry) (a b : ℕ) → ends_failed es ≡ true → FaultsOf es a b → Rises a b
faults-last [] a b ends h = absurd (cc)
faults-last (e ∷ es) a b ends h = faults-behind e es a b ends h

-- what is left where a device failed in the opening; `seen` is the rig's law
pub breaks-there : {G : Type 0} (tell : Telling G) (start : Start G) (hall : Hall G) (w : World) → IsIn tell start hall w → w.told.failed ≡ true
    → ((d : G) (dev : ℕ) → dev ≤ 8 → tell.leaves d dev (tell.seen d dev)) → (rig : G) → IsRigIn rig hall.body → Breaks tell start rig
breaks-there {G} tell start hall w i failed seen rig is =
    let here : rig_of i.body ≡ rig = subst (λ (b : Option (Body G)). IsRigIn rig b) i.is is in
    subst (λ (d : G). Breaks tell start d) here
    (ran-breaks tell start hall.book.entries w i.body (seen (rig_of i.body)) i.ran failed
    (faults-last hall.book.entries (tell.faults start.rig) (tell.faults (rig_of i.body)) (i.marks.told failed)
    (runs-way tell start (rig_of i.body) hall.book.entries w i.ran.runs).faults))
