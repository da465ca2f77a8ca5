-- That a run which has come to its lines stays there, and which work is under way while a page is pulled. It serves the goals of pull.rt,
-- recovery.rt and opening.rt, and whoever tells of a run.
use Rattle.std.proofs.Common.{◌≡◌, ⊎_elim, ℕ, Bool, true, false, cond, List, [], ◌∷◌, refl, sym, ap, ◌∙◌, subst}
use Rattle.std.specs.Prelude.{Option, None, Some, is_some}
use Rattle.sd_base.specs.declared.refusal.Refusal.TheVariants as R
use Rattle.sd_model.specs.declared.event.Entry.{Entry}
use Rattle.sd_model.specs.declared.event.Event.{Event}
use Rattle.sd_model.specs.declared.event.Reply.{Reply}
use Rattle.sd_model.specs.declared.event.Reply.TheVariants as reply
use Rattle.sd_model.specs.State.{State}
use Rattle.sd_script.specs.declared.line.Line.{Line}
use Rattle.sd_world.specs.Serving.{Core, Telling}
use Rattle.sd_drive.specs.Driven.{IsIn}
use Rattle.sd_drive.specs.Driving.{AreLines, Cursor, Helps, IsUnderWay, Known, Own, Progress, Tells, TellsAt, TellsFirst, TellsWork, Work, World, ahead, cursor_in, due_works, event_at, followed, goes_on, left_from, marked, puller_of, start_of, stays, works_of}
use Rattle.sd_drive.specs.Pulls.{Pull, Puller, helped, is_pulling}
use Rattle.sd_drive.specs.Rising.{HasRisen, Opens}
use Rattle.sd_drive.specs.Running.{Ran, Start, told_as}
use Rattle.sd_drive.specs.Standing.{Pulling}
use Rattle.sd_drive.proofs.Finding.{opening-first}
use Rattle.sd_drive.specs.declared.opening.Rise.{Rise}
use Rattle.sd_hall.specs.declared.hall.Hall.{Hall}
use Rattle.sd_fits.specs.declared.body.Body.{Body}

-- ---- the works of lines

pub lines-alone : (lines : List Line) → AreLines (works_of lines)
lines-alone [] = tt
lines-alone (line ∷ lines) = lines-alone lines

ahead-lines : (m : State) (known : Known) (works : List Work) → AreLines works → AreLines (ahead m known works)
ahead-lines m known [] all = tt
ahead-lines m known (Work.Opening ∷ works) all = absurd all
ahead-lines m known (Work.Do line ∷ works) all = go (is_some (start_of m known (Work.Do line))) (ahead-lines m known works all)
  where
    go : (b : Bool) → AreLines (ahead m known works) → AreLines (cond {A = List Work} b (Work.Do line ∷ works) (ahead m known works))
    go true rest = all
    go false rest = rest

left-lines : (m : State) (known : Known) (o : Option Cursor) (works : List Work) → AreLines works → AreLines (left_from m known o works)
left-lines m known None works all = ahead-lines m known works all
left-lines m known (Some c) works all = all

-- ---- what an entry leaves of them

lines-behind : (work : Work) (rest : List Work) → AreLines (work ∷ rest) → AreLines rest
lines-behind Work.Opening rest all = absurd all
lines-behind (Work.Do line) rest all = all

marked-lines : (work : Work) (r : Reply) (t then : Progress) → then ≡ marked work r t → AreLines t.left → AreLines then.left
marked-lines Work.Opening r t then is all = subst (λ (p : Progress). AreLines p.left) (sym is) all
marked-lines (Work.Do line) r t then is all = subst (λ (p : Progress). AreLines p.left) (sym is) all

module _ (at : Progress) (work : Work) (rest : List Work) (all : AreLines (work ∷ rest)) where
  followed-lines : (r : Reply) (o : Option Cursor) → AreLines (followed at work rest r o).left
  followed-lines r None = lines-behind work rest all
  followed-lines r (Some next) = all

  own-lines : (m : State) (w' : Core) (c : Cursor) (e : Event) (r : Reply) (then : Progress) → Own m w' at work rest c e r then → AreLines then.left
  own-lines m w' c e (reply.Refused (R.NeedPage place)) then h = ⊎_elim
      (λ asks. subst (λ (p : Progress). AreLines p.left) (sym asks.2.2) all)
      (λ vain.
      let r = reply.Refused (R.NeedPage place) in
      marked-lines work r (followed at work rest r (goes_on w' at.known work c r)) then vain.1 (followed-lines r (goes_on w' at.known work c r)))
      h
  own-lines m w' c e r then h =
      marked-lines work r (followed at work rest r (goes_on w' at.known work c r)) then h (followed-lines r (goes_on w' at.known work c r))

  helps-lines : (w : Core) (c : Cursor) (o : Option Puller) (x : Entry) (then : Progress) → Helps w at work rest c o x then → AreLines then.left
  helps-lines w c None x then h = absurd h
  helps-lines w c (Some for) x then h =
      marked-lines work x.reply (stays at work rest c (helped at.pull x.event x.reply)) then h.3 all

  at-lines : (b : Bool) (w w' : Core) (c : Cursor) (x : Entry) (then : Progress) → TellsAt b w w' at work rest c x then → AreLines then.left
  at-lines true w w' c x then h = helps-lines w c (puller_of w.scene.state (event_at at.known work c)) x then h
  at-lines false w w' c x then h = own-lines w.scene.state w' c x.event x.reply then h.3

  work-lines : (o : Option Cursor) (w w' : Core) (x : Entry) (then : Progress) → TellsWork w w' at work rest o x then → AreLines then.left
  work-lines None w w' x then h = absurd h
  work-lines (Some c) w w' x then h = at-lines (is_pulling at.pull) w w' c x then h

first-lines : (at : Progress) (works : List Work) → AreLines works → (w w' : Core) (x : Entry) (then : Progress)
    → TellsFirst w w' at works x then → AreLines then.left
first-lines at [] all w w' x then h = absurd h
first-lines at (work ∷ rest) all w w' x then h = work-lines at work rest all (cursor_in w.scene.state at.known work at.cursor) w w' x then h

pub tells-lines : (w w' : Core) (at : Progress) (x : Entry) (then : Progress) → Tells w w' at x then → AreLines at.left → AreLines then.left
tells-lines w w' at x then h all =
    first-lines at (due_works w.scene.state at) (left-lines w.scene.state at.known at.cursor at.left all) w w' x then h.1

-- ---- the work under way

pub pulling-due : (at : World) (work : Work) (rest : List Work) (c : Cursor) (e : Event) (for : Puller) (pull : Pull) (w : World)
    → Pulling at work rest c e for pull w → IsUnderWay work rest w
pulling-due at work rest c e for pull w s = ap (λ (t : Progress). due_works w.core.scene.state t) s.told

-- it is under way
pub opening-due : {G : Type 0} (tell : Telling G) (start : Start G) (lines : List Line) (rise : Rise G) (c : Cursor) (w : World)
    → Opens tell start lines rise c w → IsUnderWay Work.Opening (works_of lines) w
opening-due tell start lines rise c w o =
    ap (λ (works : List Work). left_from w.core.scene.state w.told.known w.told.cursor works) o.left
    ∙ opening-first w.core.scene.state w.told.known w.told.cursor (works_of lines)

-- the opening isn't, where lines alone are left
pub never-opening : (w : World) (rest : List Work) → AreLines w.told.left → IsUnderWay Work.Opening rest w → ⊥
never-opening w rest all is =
    subst AreLines is (left-lines w.core.scene.state w.told.known w.told.cursor w.told.left all)

-- ---- a run that has come to its lines

module _ {G : Type 0} (tell : Telling G) (start : Start G) (opened : Bool) where
  ran-as : (body : Body G) (entries : List Entry) (w : World) → Ran tell start body entries w → Ran tell (told_as start opened) body entries w
  ran-as body entries w r = record {
    drives = r.drives;
    fits = r.fits;
    runs = record { time = r.runs.time; stood = r.runs.stood; goes = r.runs.goes };
  }

  pub in-as : (hall : Hall G) (w : World) → (opened ≡ true → AreLines w.told.left) → IsIn tell start hall w
      → IsIn tell (told_as start opened) hall w
  in-as hall w lines i = record {
    body = i.body;
    is = i.is;
    ran = ran-as i.body hall.book.entries w i.ran;
    keeps = i.keeps;
    table = i.table;
    marks = i.marks;
    behind = lines;
  }

-- the opening is done
pub risen-opened : {G : Type 0} (tell : Telling G) (start : Start G) (lines : List Line) (rise : Rise G) (w : World)
    → HasRisen tell start lines rise w → HasRisen tell (told_as start true) lines rise w
risen-opened tell start lines rise w r = record {
  there = in-as tell start true rise.hall w (λ opened. subst AreLines (sym r.left) (lines-alone lines)) r.there;
  known = r.known;
  left = r.left;
  rests = r.rests;
  idle = r.idle;
  unfailed = r.unfailed;
}
