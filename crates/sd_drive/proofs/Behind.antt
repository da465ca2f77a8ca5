-- An opening leads behind itself, and leaves nobody out, unless a device fails. It serves the goals of `openings` in laws.rt.
use Rattle.std.proofs.Common.{◌≡◌, ◌⊎◌, inl, inr, ⊎_elim, ℕ, ◌+◌, Bool, true, false, List, [], ◌∷◌, refl, sym, ap, ◌∙◌, subst, arith}
use Rattle.std.specs.Prelude.{Option, None, Some, is_some, unwrap_or}
use Rattle.sd_base.specs.declared.place.Mode.TheVariants as modes
use Rattle.sd_base.specs.declared.place.Place.{Place}
use Rattle.sd_base.specs.declared.refusal.Refusal.{Refusal}
use Rattle.sd_base.specs.declared.refusal.Refusal.TheVariants as R
use Rattle.sd_model.specs.declared.event.Entry.{Entry}
use Rattle.sd_model.specs.declared.event.Event.{Event}
use Rattle.sd_model.specs.declared.event.Event.TheVariants as event
use Rattle.sd_model.specs.declared.event.Reply.{Reply}
use Rattle.sd_model.specs.declared.event.Reply.TheVariants as reply
use Rattle.sd_model.specs.Changes.{commit_all}
use Rattle.sd_model.specs.Replies.{is_failed}
use Rattle.sd_model.specs.State.{State}
use Rattle.sd_model.specs.Step.{Step}
use Rattle.sd_pagelock.specs.Places.{passes, uses}
use Rattle.sd_pagelock.specs.Rows.{may_evict}
use Rattle.sd_world.specs.Answers.{Moves}
use Rattle.sd_world.specs.Pages.{Pages, is_duty, place_of}
use Rattle.sd_world.specs.Serving.{Core}
use Rattle.sd_drive.specs.Behind.{IsToOpen, IsUnderWay, OpeningRecovers, PassesBehind}
use Rattle.sd_drive.specs.Driving.{Advances, Cursor, Drives, Own, Progress, TellsAt, TellsFirst, TellsWork, Work, World, cursor_in, due_works, empties, event_at, fails, Helps, followed, goes_on, left_from, marked, next_down, opens, stays, works_of}
use Rattle.sd_drive.specs.Pulls.{IsDue, Pull, Puller, helped, is_pulling, is_vain, puller, recovers_for}
use Rattle.sd_drive.proofs.Acts.{due-helps, helps-same, need-stays}
use Rattle.sd_drive.proofs.Quiet.{Comes, IsPulled, Quiet, Rests, begin-why, ended-quiet, evict-why, flush-why, helps-near, rests-but, step-why, steps-quiet}
use Rattle.sd_drive.proofs.Singles.{AskAlone, Single, Works, yes_no}
use Rattle.sd_script.specs.declared.line.Line.{Line}
use Rattle.sd_drive.proofs.Finding.{opening-first}
use Rattle.sd_drive.proofs.Stands.{Came, EmptyTo, Lands, Leaves, OutFrom, Recovers, Settled, Stands, ToRecover, Under, begun-lands, commits-inst, ended-lands, join-in, opens-lands}
use Rattle.sd_drive.proofs.Emptied.{empties-lands, gone-empty, gone-settled, joins-lands, leaver-works, written-stands}

none_left : {A : Type 0} → false ≡ true → A
none_left e = absurd (cc)

-- ---- an entry of the opening itself

some-same : {X : Type 0} (a b : X) → Some a ≡ Some b → a ≡ b
some-same {X} a b is = ap (λ (o : Option X). unwrap_or o a) is

own-plain : (m : State) (w' : Core) (at : Progress) (work : Work) (rest : List Work) (c : Cursor) (e : Event) (r : Reply) (then : Progress)
    → is_some (puller m e) ≡ false → Own m w' at work rest c e r then
    → then ≡ marked work r (followed at work rest r (goes_on w' at.known work c r))
own-plain m w' at work rest c e (reply.Refused (R.NeedPage place)) then none h = ⊎_elim (λ pulls. yes_no pulls.1 none) (λ own. own.1) h
own-plain m w' at work rest c e r then none h = h

-- a reply that tells no fault marks none
fine-marks : (r : Reply) → fails Work.Opening r ≡ false → is_failed r ≡ false
fine-marks (reply.Refused R.Failed) fine = fine
fine-marks r fine = refl

module _ (lines : List Line) (w w' : World) where
  -- the world behind a reply
  comes-to : (r : Reply) (o : Option Cursor)
      → w'.told ≡ marked Work.Opening r (followed w.told Work.Opening (works_of lines) r o)
      → (fails Work.Opening r ≡ false → Lands w'.core.scene.state w'.core.pages o) → Came lines w'
  comes-to r o is lands = go (fails Work.Opening r) refl
    where
      fine : fails Work.Opening r ≡ false → (x : Option Cursor)
          → w'.told ≡ marked Work.Opening r (followed w.told Work.Opening (works_of lines) r x)
          → Lands w'.core.scene.state w'.core.pages x → Came lines w'
      fine sound None at land = inr (inr (record {
        left = ap (λ (t : Progress). t.left) at;
        rests = ap (λ (t : Progress). t.cursor) at;
        unfailed = ap (λ (t : Progress). t.failed) at ∙ sound;
        recovered = land.0;
        emptied = land.1;
      }))
      fine sound (Some c) at land = inr (inl (record {
        left = ap (λ (t : Progress). t.left) at;
        cursor = c;
        at = ap (λ (t : Progress). cursor_in w'.core.scene.state t.known Work.Opening t.cursor) at;
        stands = subst (λ (p : Pull). Stands w'.core.scene.state w'.core.pages c p) (sym (ap (λ (t : Progress). t.pull) at)) land;
      }))

      go : (b : Bool) → fails Work.Opening r ≡ b → Came lines w'
      go true failed = inl (ap (λ (t : Progress). t.failed) is ∙ failed)
      go false sound = fine sound o is (lands sound)

-- ---- entry by entry

module _ (lines : List Line) (w w' : World) (entry : Entry) (u : Under lines w) (a : Advances w entry w') where
  abbrev m : State
  m = w.core.scene.state

  abbrev m' : State
  m' = w'.core.scene.state

  abbrev works : List Work
  works = works_of lines

  abbrev r : Reply
  r = entry.reply

  told : TellsAt (is_pulling w.told.pull) w.core w'.core w.told Work.Opening works u.cursor entry w'.told
  told =
      let due : due_works m w.told ≡ Work.Opening ∷ works =
      ap (λ (l : List Work). left_from m w.told.known w.told.cursor l) u.left ∙ opening-first m w.told.known w.told.cursor works in
      let first = subst (λ (l : List Work). TellsFirst w.core w'.core w.told l entry w'.told) due a.tells.1 in
      subst (λ (o : Option Cursor). TellsWork w.core w'.core w.told Work.Opening works o entry w'.told) u.at first

  -- an event of the opening's own
  own : w.told.pull ≡ Pull.Idle → (event_at w.told.known Work.Opening u.cursor ≡ Some entry.event)
      × Own m w'.core w.told Work.Opening works u.cursor entry.event r w'.told
  own idle =
      let t = subst (λ (p : Pull). TellsAt (is_pulling p) w.core w'.core w.told Work.Opening works u.cursor entry w'.told) idle told in
      (t.2, t.3)

  abbrev Happened : Event → Type 0
  Happened e = Step m e r m' × Moves m w.core.pages e r m' w'.core.pages

  happened : (e : Event) → entry.event ≡ e → Happened e
  happened e is = (
    subst (λ (x : Event). Step m x r m') is a.turns.plays.step,
    subst (λ (x : Event). Moves m w.core.pages x r m' w'.core.pages) is a.turns.moves,
  )

  -- one for which no page is pulled
  alone-step : (c : Cursor) → u.cursor ≡ c → w.told.pull ≡ Pull.Idle → (e : Event) → event_at w.told.known Work.Opening c ≡ Some e
      → is_some (puller m e) ≡ false
      → (is_failed r ≡ false → Happened e → Lands m' w'.core.pages (goes_on w'.core w.told.known Work.Opening c r)) → Came lines w'
  alone-step c at idle e due none lands =
      let o = own idle in
      let is : entry.event ≡ e = some-same entry.event e (sym o.0 ∙ ap (λ (x : Cursor). event_at w.told.known Work.Opening x) at ∙ due) in
      let mine = subst (λ (x : Cursor). Own m w'.core w.told Work.Opening works x e r w'.told) at
      (subst (λ (x : Event). Own m w'.core w.told Work.Opening works u.cursor x r w'.told) is o.1) in
      comes-to lines w w' r (goes_on w'.core w.told.known Work.Opening c r)
      (own-plain m w'.core w.told Work.Opening works c e r w'.told none mine)
      (λ fine. lands (fine-marks r fine) (happened e is))

  -- a recovery begins
  begins-lands : (i by : ℕ) (most : Option ℕ) (q : Reply) → ToRecover m w.core.pages i by most w.told.pull
      → Step m (event.RecoverBegin i i) q m' → Moves m w.core.pages (event.RecoverBegin i i) q m' w'.core.pages
      → Lands m' w'.core.pages (goes_on w'.core w.told.known Work.Opening (Cursor.Recovers i i None) q)
  begins-lands i by most reply.Did t s h = begun-lands m w.core.pages i t.low t.high t.rests m' w'.core.pages t.out s.1 h.1
  begins-lands i by most (reply.Refused n) t s h = absurd (begin-why m w.core.pages t.rests.0 n m' w'.core.pages i t.down h)
  begins-lands i by most q t s h = absurd s.1

  begins-step : (i by : ℕ) (most : Option ℕ) → u.cursor ≡ Cursor.Recovers i by most → ToRecover m w.core.pages i by most w.told.pull → Came lines w'
  begins-step i by most at t =
      let c : u.cursor ≡ Cursor.Recovers i i None =
      at ∙ ap (λ (x : ℕ). Cursor.Recovers i x most) t.itself ∙ ap (λ (o : Option ℕ). Cursor.Recovers i i o) t.unbounded in
      alone-step (Cursor.Recovers i i None) c t.idle (event.RecoverBegin i i) refl refl (λ fine h. begins-lands i by most r t h.0 h.1)

  module _ (i : ℕ) (at : u.cursor ≡ Cursor.Steps i None) (t : Recovers m w.core.pages i None w.told.pull) where
    abbrev at-steps : Cursor
    at-steps = Cursor.Steps i None

    abbrev for : Puller
    for = record { inst = i; mode = modes.Excl }

    abbrev pull-then : Pull
    pull-then = helped w.told.pull entry.event r

    pulls : puller m (event.RecoverStep i) ≡ Some for
    pulls = ap recovers_for t.runs

    active : Works m i
    active = (inr (inr t.runs), t.low, t.high)

    -- while no page is pulled, all rest
    idle-rests : w.told.pull ≡ Pull.Idle → Rests m w.core.pages
    idle-rests idle = (t.quiet, subst (λ (x : Pull). Comes m w.core.pages i x) idle t.comes)

    -- it stands at its steps, and nobody stands otherwise
    stays-under : (pull : Pull) → m' ≡ m → Quiet m w'.core.pages → Comes m w'.core.pages i pull
        → (b : Bool) → w'.told ≡ record (stays w.told Work.Opening works at-steps pull) { failed = b } → Came lines w'
    stays-under pull same quiet comes b is = inr (inl (record {
      left = ap (λ (x : Progress). x.left) is;
      cursor = at-steps;
      at = ap (λ (x : Progress). cursor_in m' x.known Work.Opening x.cursor) is;
      stands = subst (λ (p : Pull). Recovers m' w'.core.pages i None p) (sym (ap (λ (x : Progress). x.pull) is))
          (subst (λ (x : State). Recovers x w'.core.pages i None pull) (sym same)
          (record { unbounded = refl; low = t.low; high = t.high; runs = t.runs; out = t.out; quiet = quiet; comes = comes }));
    }))

    -- a step that wants a page, which is pulled
    steps-wait : (place : Place) → w.told.pull ≡ Pull.Idle → Step m (event.RecoverStep i) (reply.Refused (R.NeedPage place)) m'
        → Moves m w.core.pages (event.RecoverStep i) (reply.Refused (R.NeedPage place)) m' w'.core.pages
        → Own m w'.core w.told Work.Opening works at-steps (event.RecoverStep i) (reply.Refused (R.NeedPage place)) w'.told → Came lines w'
    steps-wait place idle s h o = ⊎_elim
        (λ pulled. stays-under (Pull.Asks pulled.2.0) (need-stays m m' (event.RecoverStep i) place s)
        (subst (Quiet m) (sym h.leaves) t.quiet)
        (subst (IsPulled pulled.2.0) (sym h.leaves) (h.place.6, rests-but pulled.2.0 w.core.pages (idle-rests idle).1)) w.told.failed pulled.2.2)
        (λ vain. ⊎_elim
        (λ ends. yes_no {b = is_vain w.told.pull} (ap is_vain ends) (ap is_vain idle))
        (λ none. yes_no (ap is_some pulls) none)
        vain.0)
        o

    -- a step of its own
    steps-own : (q : Reply) → w.told.pull ≡ Pull.Idle → Step m (event.RecoverStep i) q m'
        → Moves m w.core.pages (event.RecoverStep i) q m' w'.core.pages
        → Own m w'.core w.told Work.Opening works at-steps (event.RecoverStep i) q w'.told → Came lines w'
    steps-own reply.Step idle s h o = comes-to lines w w' reply.Step (Some at-steps) o (λ fine.
        let then = steps-quiet m w.core.pages (idle-rests idle) i i w'.core.pages active h.1 in
        subst (λ (x : State). Recovers x w'.core.pages i None Pull.Idle) (sym s.1)
        (record { unbounded = refl; low = t.low; high = t.high; runs = t.runs; out = t.out; quiet = then.0; comes = then.1 }))
    steps-own reply.Finished idle s h o = comes-to lines w w' reply.Finished (opens (next_down m' (i + 1))) o (λ fine.
        ended-lands m w.core.pages i t.low t.high (idle-rests idle) t.runs t.out (commit_all s.1.0 m) m' w'.core.pages
        (commits-inst s.1.0 m) s.1.4
        (ended-quiet m w.core.pages (idle-rests idle) h.1.1.0 w'.core.pages h.1.1.1) (opens (next_down m' (i + 1))) refl)
    steps-own (reply.Refused n) idle s h o = ⊎_elim
        (λ failed. comes-to lines w w' (reply.Refused R.Failed) (goes_on w'.core w.told.known Work.Opening at-steps (reply.Refused R.Failed))
        (subst (λ (x : Refusal). Own m w'.core w.told Work.Opening works at-steps (event.RecoverStep i) (reply.Refused x) w'.told) failed o)
        (λ fine. none_left (sym fine)))
        (λ wants. steps-wait wants.0 idle
        (subst (λ (x : Refusal). Step m (event.RecoverStep i) (reply.Refused x) m') wants.1 s)
        (subst (λ (x : Refusal). Moves m w.core.pages (event.RecoverStep i) (reply.Refused x) m' w'.core.pages) wants.1 h)
        (subst (λ (x : Refusal). Own m w'.core w.told Work.Opening works at-steps (event.RecoverStep i) (reply.Refused x) w'.told) wants.1 o))
        (step-why m w.core.pages t.quiet n m' w'.core.pages i i t.runs h)
    steps-own q idle s h o = absurd s.1

    -- an event by which its page is pulled
    helps-step : (p : Pull) → w.told.pull ≡ p → is_pulling p ≡ true → Came lines w'
    helps-step p at-pull pulling =
        let moved = subst (λ (b : Bool). TellsAt b w.core w'.core w.told Work.Opening works u.cursor entry w'.told) (ap is_pulling at-pull ∙ pulling) told in
        let here = subst (λ (c : Cursor). TellsAt true w.core w'.core w.told Work.Opening works c entry w'.told) at moved in
        let h = subst (λ (o : Option Puller). Helps w.core w.told Work.Opening works at-steps o entry w'.told) pulls here in
        go h.2 h.3 (fails Work.Opening r) refl
      where
        go : IsDue w.core.pages for w.told.pull entry.event → w'.told ≡ marked Work.Opening r (stays w.told Work.Opening works at-steps pull-then)
            → (b : Bool) → fails Work.Opening r ≡ b → Came lines w'
        go due is true failed = inl (ap (λ (x : Progress). x.failed) is ∙ failed)
        go due is false fine =
            let sound = fine-marks r fine in
            let same = helps-same m m' entry.event r (due-helps w.core.pages for w.told.pull entry.event due) sound a.turns.plays.step in
            let near = helps-near m w.core.pages t.quiet m' w'.core.pages i t.runs t.low t.high w.told.pull entry.event r t.comes due sound same
            a.turns.plays.step a.turns.moves in
            stays-under pull-then near.0 near.1 near.2 (fails Work.Opening r) is

    steps-step : (p : Pull) → w.told.pull ≡ p → Came lines w'
    steps-step Pull.Idle is =
        let o = own is in
        let ev : entry.event ≡ event.RecoverStep i =
        some-same entry.event (event.RecoverStep i) (sym o.0 ∙ ap (λ (x : Cursor). event_at w.told.known Work.Opening x) at) in
        let h = happened (event.RecoverStep i) ev in
        steps-own r is h.0 h.1
        (subst (λ (x : Cursor). Own m w'.core w.told Work.Opening works x (event.RecoverStep i) r w'.told) at
        (subst (λ (x : Event). Own m w'.core w.told Work.Opening works u.cursor x r w'.told) ev o.1))
    steps-step Pull.Ends is = absurd (subst (λ (x : Pull). Comes m w.core.pages i x) is t.comes)
    steps-step (Pull.Asks p) is = helps-step (Pull.Asks p) is refl
    steps-step (Pull.Gives p of) is = helps-step (Pull.Gives p of) is refl
    steps-step (Pull.Takes p to) is = helps-step (Pull.Takes p to) is refl
    steps-step (Pull.Room p at) is = helps-step (Pull.Room p at) is refl
    steps-step (Pull.Evicts p at v) is = helps-step (Pull.Evicts p at v) is refl

  steps-all : (i : ℕ) (most : Option ℕ) → u.cursor ≡ Cursor.Steps i most → Recovers m w.core.pages i most w.told.pull → Came lines w'
  steps-all i most at t = steps-step i (at ∙ ap (λ (o : Option ℕ). Cursor.Steps i o) t.unbounded)
      (subst (λ (o : Option ℕ). Recovers m w.core.pages i o w.told.pull) t.unbounded t) w.told.pull refl

  -- a page is written, and goes next
  flush-lands : (i p : ℕ) → Leaves m w.core.pages i p w.told.pull → is_duty i (w.core.pages.entry p) ≡ true → (q : Reply) → is_failed q ≡ false
      → Step m (event.Flush i p) q m' → Moves m w.core.pages (event.Flush i p) q m' w'.core.pages
      → Lands m' w'.core.pages (goes_on w'.core w.told.known Work.Opening (Cursor.Flushes i p) q)
  flush-lands i p l duty reply.Did fine s h =
      subst (λ (x : State). Stands x w'.core.pages (Cursor.Evicts i p) Pull.Idle) (sym s.1)
      (subst (λ (x : Pages). Stands m x (Cursor.Evicts i p) Pull.Idle) (sym h.1) (written-stands m w.core.pages i p w.told.pull l))
  flush-lands i p l duty (reply.Refused n) fine s h =
      absurd (flush-why m w.core.pages l.settled.rests.0 n m' w'.core.pages i p (leaver-works m w.core.pages i p w.told.pull l) l.has duty fine h)
  flush-lands i p l duty q fine s h = absurd s.1

  -- a copy goes, and then the next one
  evict-lands : (i p : ℕ) → Leaves m w.core.pages i p w.told.pull → may_evict i (w.core.pages.entry p) ≡ true → (q : Reply) → is_failed q ≡ false
      → Step m (event.Evict i p) q m' → Moves m w.core.pages (event.Evict i p) q m' w'.core.pages
      → Lands m' w'.core.pages (empties w'.core i (p + 1))
  evict-lands i p l may reply.Did fine s h =
      let settled = subst (λ (x : State). Settled x w'.core.pages) (sym s.1)
      (subst (λ (x : Pages). Settled m x) (sym h.1) (gone-settled m w.core.pages i p w.told.pull l may)) in
      let empty = subst (λ (x : State). EmptyTo i (p + 1) x w'.core.pages) (sym s.1)
      (subst (λ (x : Pages). EmptyTo i (p + 1) m x) (sym h.1) (gone-empty m w.core.pages i p w.told.pull l may)) in
      empties-lands w'.core settled i (p + 1) (leaver-works m w.core.pages i p w.told.pull l).2 empty
  evict-lands i p l may (reply.Refused n) fine s h =
      absurd (evict-why m w.core.pages l.settled.rests.0 n m' w'.core.pages i p (leaver-works m w.core.pages i p w.told.pull l) l.has may h)
  evict-lands i p l may q fine s h = absurd s.1

  entry-comes : (c : Cursor) → u.cursor ≡ c → Stands m w.core.pages c w.told.pull → Came lines w'
  entry-comes (Cursor.Recovers i by most) at t = begins-step i by most at t
  entry-comes (Cursor.Steps i most) at t = steps-all i most at t
  entry-comes (Cursor.Joins i) at t = alone-step (Cursor.Joins i) at t.0 (event.Join i) refl refl (λ fine h.
      joins-lands w'.core (join-in m m' w.core.pages w'.core.pages i r fine h.0 h.1 t.1) w.told.known i)
  entry-comes (Cursor.Flushes i p) at t = alone-step (Cursor.Flushes i p) at t.0.idle (event.Flush i p) refl refl (λ fine h.
      flush-lands i p t.0 t.1 r fine h.0 h.1)
  entry-comes (Cursor.Evicts i p) at t = alone-step (Cursor.Evicts i p) at t.0.idle (event.Evict i p) refl refl (λ fine h.
      evict-lands i p t.0 t.1 r fine h.0 h.1)
  entry-comes c at t = absurd t

  entry-leads : Came lines w'
  entry-leads = entry-comes u.cursor refl u.stands

-- ---- a run

-- no page is pulled in vain
not-vain : (m : State) (w : Pages) (i : ℕ) (pull : Pull) → Comes m w i pull → is_vain pull ≡ false
not-vain m w i Pull.Ends comes = absurd comes
not-vain m w i Pull.Idle comes = refl
not-vain m w i (Pull.Asks p) comes = refl
not-vain m w i (Pull.Gives p of) comes = refl
not-vain m w i (Pull.Takes p to) comes = refl
not-vain m w i (Pull.Room p at) comes = refl
not-vain m w i (Pull.Evicts p at v) comes = refl

stands-pulls : (m : State) (w : Pages) (c : Cursor) (pull : Pull) → Stands m w c pull → is_vain pull ≡ false
stands-pulls m w (Cursor.Recovers i by most) pull t = ap is_vain t.idle
stands-pulls m w (Cursor.Steps i most) pull t = not-vain m w i pull t.comes
stands-pulls m w (Cursor.Joins i) pull t = ap is_vain t.0
stands-pulls m w (Cursor.Flushes i p) pull t = ap is_vain t.0.idle
stands-pulls m w (Cursor.Evicts i p) pull t = ap is_vain t.0.idle
stands-pulls m w c pull t = absurd t

under-way : (lines : List Line) (w : World) → Under lines w → IsUnderWay lines w
under-way lines w u = record { left = u.left; comes = stands-pulls w.core.scene.state w.core.pages u.cursor w.told.pull u.stands }

-- behind a device that failed no entry is due
fails-last : (entries : List Entry) (w last : World) → w.told.failed ≡ true → Drives w entries last → last.told.failed ≡ true
fails-last [] w last failed drives = ap (λ (x : World). x.told.failed) (sym drives) ∙ failed
fails-last (e ∷ es) w last failed drives = yes_no failed drives.1.tells.0

abbrev Opened : List Line → World → List Entry → World → Type 0
Opened lines start entries w = (w.told.failed ≡ true) ⊎ (IsUnderWay lines w ⊎ PassesBehind lines start entries w)

one-more : (lines : List Line) (start next w : World) (e : Entry) (es : List Entry) → Advances start e next → Opened lines next es w
    → Opened lines start (e ∷ es) w
one-more lines start next w e es a (inl failed) = inl failed
one-more lines start next w e es a (inr (inl under)) = inr (inl under)
one-more lines start next w e es a (inr (inr h)) = inr (inr (record {
  front = e ∷ h.front;
  back = h.back;
  mid = h.mid;
  parts = ap (λ (l : List Entry). e ∷ l) h.parts;
  opens = (next, a, h.opens);
  behind = h.behind;
  goes_on = h.goes_on;
}))

runs-open : (lines : List Line) (entries : List Entry) (start w : World) → Under lines start → Drives start entries w → Opened lines start entries w
runs-open lines [] start w u drives = inr (inl (subst (IsUnderWay lines) drives (under-way lines start u)))
runs-open lines (e ∷ es) start w u drives = go (entry-leads lines start drives.0 e u drives.1)
    (λ under. runs-open lines es drives.0 w under drives.2)
  where
    go : Came lines drives.0 → (Under lines drives.0 → Opened lines drives.0 es w) → Opened lines start (e ∷ es) w
    go (inl failed) ih = inl (fails-last es drives.0 w failed drives.2)
    go (inr (inl under)) ih = one-more lines start drives.0 w e es drives.1 (ih under)
    go (inr (inr behind)) ih = inr (inr (record {
      front = e ∷ [];
      back = es;
      mid = drives.0;
      parts = refl;
      opens = (drives.0, drives.1, refl);
      behind = behind;
      goes_on = drives.2;
    }))

-- ---- where it begins

module _ (lines : List Line) (w : World) (o : IsToOpen lines w) where
  abbrev m0 : State
  m0 = w.core.scene.state

  nowhere-single : (lost : Bool) → Single (place_of lost)
  nowhere-single true = tt
  nowhere-single false = tt

  nowhere-unused : (lost : Bool) (k : ℕ) → uses (place_of lost) k ≡ false
  nowhere-unused true k = refl
  nowhere-unused false k = refl

  first-quiet : Quiet m0 w.core.pages
  first-quiet = record {
    stands = o.stands;
    single = λ p. let n = o.nowhere p in subst Single (sym n.1) (nowhere-single n.0);
    used = λ p k u. let n = o.nowhere p in yes_no u (ap (λ e. uses e k) n.1 ∙ nowhere-unused n.0 k);
    asks = λ p. subst (AskAlone m0) (sym (o.unasked p)) tt;
  }

  nowhere-rests : (lost : Bool) → passes (place_of lost) ≡ false
  nowhere-rests true = refl
  nowhere-rests false = refl

  first-rests : Rests m0 w.core.pages
  first-rests = (first-quiet, λ p. let n = o.nowhere p in ap passes n.1 ∙ nowhere-rests n.0)

  first-out : OutFrom 1 m0
  first-out j low high (inl down) = (down, low)
  first-out j low high (inr runs) = absurd (o.unrecovered j low high runs)

  first-under : Under lines w
  first-under = go (next_down m0 1) refl
    where
      by : (n : Option ℕ) → next_down m0 1 ≡ n → (c : Cursor) → opens n ≡ Some c → Stands m0 w.core.pages c Pull.Idle → Under lines w
      by n is c at stands = record {
        left = o.left;
        cursor = c;
        at = ap (λ (x : Option Cursor). cursor_in m0 w.told.known Work.Opening x) o.begins ∙ ap opens is ∙ at;
        stands = subst (λ (p : Pull). Stands m0 w.core.pages c p) (sym o.idle) stands;
      }

      go : (n : Option ℕ) → next_down m0 1 ≡ n → Under lines w
      go None is = by None is (Cursor.Joins 1) refl (opens-lands m0 w.core.pages 1 (omega arith) first-out first-rests None is)
      go (Some i) is = by (Some i) is (Cursor.Recovers i i None) refl (opens-lands m0 w.core.pages 1 (omega arith) first-out first-rests (Some i) is)

pub opening-recovers : OpeningRecovers
opening-recovers lines start w entries o drives = runs-open lines entries start w (first-under lines start o) drives
