-- What is told of an entry that was due, and where its work stands then. It serves the goals of pull.rt and driver.rt.
use Rattle.std.proofs.Common.{◌≡◌, ◌⊎◌, inl, inr, ⊎_elim, ℕ, Bool, true, false, List, [], ◌∷◌, ◌++◌, refl, sym, ap, ◌∙◌, subst}
use Rattle.std.specs.Prelude.{Option, None, Some, is_some}
use Rattle.sd_base.specs.declared.refusal.Refusal.TheVariants as R
use Rattle.sd_model.specs.declared.event.Entry.{Entry}
use Rattle.sd_model.specs.declared.event.Event.{Event}
use Rattle.sd_model.specs.declared.event.Event.TheVariants as event
use Rattle.sd_model.specs.declared.event.Reply.{Reply}
use Rattle.sd_model.specs.declared.event.Reply.TheVariants as reply
use Rattle.sd_model.specs.State.{State}
use Rattle.sd_model.specs.Step.{Step}
use Rattle.sd_world.specs.Leading.{Leads}
use Rattle.sd_world.specs.Serving.{Core}
use Rattle.sd_drive.specs.Driving.{Advances, Cursor, Drives, Helps, Known, Own, Progress, Tells, TellsAt, TellsFirst, TellsWork, Work, World, cursor_in, due_works, event_at, fails, followed, goes_on, marked, number_of, puller_of, session_of, stays}
use Rattle.sd_drive.specs.Pulls.{IsDue, IsPulled, Pull, Puller, helped, is_pulling, is_vain, puller}
use Rattle.sd_model.specs.Replies.{is_failed, wants_page}
use Rattle.sd_drive.specs.Standing.{EventIsDue, IsBorne, Pulling}
use Rattle.sd_drive.specs.Resting.{IsHelp}
use Rattle.sd_drive.proofs.Acts.{helps-acts, helps-same, same-acts}

-- ---- runs of worlds

pub drives-push : (es : List Entry) (e : Entry) (old mid new : World) → Drives old es mid → Advances mid e new → Drives old (es ++ e ∷ []) new
drives-push [] e old mid new h a = subst (λ (w : World). Drives w (e ∷ []) new) (sym h) (new, a, refl)
drives-push (x ∷ es) e old mid new h a = (h.0, h.1, drives-push es e h.0 mid new h.2 a)

pub drives-leads : (es : List Entry) (old new : World) → Drives old es new → Leads old.core es new.core
drives-leads [] old new h = ap (λ (w : World). w.core) h
drives-leads (e ∷ es) old new h = (h.0.core, h.1.turns, drives-leads es h.0 new h.2)

-- ---- an entry is told where its work stands

pub tells-at : (w : World) (w' : Core) (work : Work) (rest : List Work) (c : Cursor) (x : Entry) (then : Progress)
    → w.told.failed ≡ false → due_works w.core.scene.state w.told ≡ work ∷ rest
    → cursor_in w.core.scene.state w.told.known work w.told.cursor ≡ Some c
    → TellsAt (is_pulling w.told.pull) w.core w' w.told work rest c x then → Tells w.core w' w.told x then
tells-at w w' work rest c x then unfailed first at tells = (
  unfailed,
  subst (λ (works : List Work). TellsFirst w.core w' w.told works x then) (sym first)
      (subst (λ (o : Option Cursor). TellsWork w.core w' w.told work rest o x then) (sym at) tells),
)

-- the work's own event, with a reply that doesn't want a page, or wants it in vain
own-plain : (m : State) (w' : Core) (at : Progress) (work : Work) (rest : List Work) (c : Cursor) (e : Event) (r : Reply) → wants_page r ≡ false
    → Own m w' at work rest c e r (marked work r (followed at work rest r (goes_on w' at.known work c r)))
own-plain m w' at work rest c e (reply.Refused (R.NeedPage place)) plain = absurd (cc)
own-plain m w' at work rest c e r plain = refl

pub own-in-vain : (m : State) (w' : Core) (at : Progress) (work : Work) (rest : List Work) (c : Cursor) (e : Event) (r : Reply)
    → (at.pull ≡ Pull.Ends) ⊎ (is_some (puller m e) ≡ false)
    → Own m w' at work rest c e r (marked work r (followed at work rest r (goes_on w' at.known work c r)))
own-in-vain m w' at work rest c e (reply.Refused (R.NeedPage place)) vain = inr (vain, refl)
own-in-vain m w' at work rest c e r vain = refl

-- a work without a fault is borne
unfailed-borne : (work : Work) (failed : Bool) → failed ≡ false → IsBorne work failed
unfailed-borne Work.Opening failed no_ = tt
unfailed-borne (Work.Do line) failed no_ = no_

-- ---- the first try

module _ (known : Known) (work : Work) (rest : List Work) (c : Cursor) (e : Event) (w : World) (s : EventIsDue known work rest c e w)
    (w' : Core) (x : Entry) (session : x.session ≡ session_of work) (number : x.line ≡ number_of work) (is : x.event ≡ e) where
  tells-own : (then : Progress) → Own w.core.scene.state w' w.told work rest c x.event x.reply then → Tells w.core w' w.told x then
  tells-own then own = tells-at w w' work rest c x then s.unfailed s.first s.at
      (subst (λ (p : Pull). TellsAt (is_pulling p) w.core w' w.told work rest c x then) (sym s.idle)
      (session, number, subst (λ (k : Known). event_at k work c ≡ Some x.event) (sym s.known_is) (s.event ∙ ap (λ (y : Event). Some y) (sym is)), own))

  -- it is done, or goes on
  pub own-done : wants_page x.reply ≡ false ⊎ ((m : State) → is_some (puller m e) ≡ false)
      → Tells w.core w' w.told x (marked work x.reply (followed w.told work rest x.reply (goes_on w' w.told.known work c x.reply)))
  own-done plain = tells-own _ (⊎_elim
      (λ (h : wants_page x.reply ≡ false). own-plain w.core.scene.state w' w.told work rest c x.event x.reply h)
      (λ (h : (m : State) → is_some (puller m e) ≡ false). own-in-vain w.core.scene.state w' w.told work rest c x.event x.reply
      (inr (subst (λ (y : Event). is_some (puller w.core.scene.state y) ≡ false) (sym is) (h w.core.scene.state))))
      plain)

  module _ (for : Puller) (pulls : puller w.core.scene.state e ≡ Some for) (p : ℕ)
      (page : IsPulled w.core.scene.state e p) (need : wants_page x.reply ≡ true) where
    own-asks : (r : Reply) → wants_page r ≡ true
        → Own w.core.scene.state w' w.told work rest c e r (stays w.told work rest c (Pull.Asks p))
    own-asks (reply.Refused (R.NeedPage place)) needs =
        inl (s.idle, ap (λ (o : Option Puller). is_some o) pulls, (p, page, refl))
    own-asks (reply.Refused R.Failed) needs = absurd (cc)
    own-asks r needs = absurd (cc)

    -- it wants a page that is asked for now
    pub own-pulls : Tells w.core w' w.told x (stays w.told work rest c (Pull.Asks p))
    own-pulls = tells-own (stays w.told work rest c (Pull.Asks p))
        (subst (λ (y : Event). Own w.core.scene.state w' w.told work rest c y x.reply (stays w.told work rest c (Pull.Asks p))) (sym is)
        (own-asks x.reply need))

    pub pulling-begins : w'.scene.state ≡ w.core.scene.state
        → Pulling w work rest c e for (Pull.Asks p) (record { told = stays w.told work rest c (Pull.Asks p); core = w' })
    pulling-begins same = record {
      failed = w.told.failed;
      told = refl;
      event = subst (λ (k : Known). event_at k work c ≡ Some e) (sym s.known_is) s.event;
      puller = λ going. ap (λ (m : State). puller m e) same ∙ pulls;
      acts = same-acts w.core.scene.state w'.scene.state same;
      unfailed = λ going. s.unfailed;
      borne = unfailed-borne work w.told.failed s.unfailed;
      before = s.unfailed;
    }

-- ---- the pull

-- a failed device ends a pull
failed-ends : (pull : Pull) (e : Event) → helped pull e (reply.Refused R.Failed) ≡ Pull.Ends
failed-ends Pull.Idle e = refl
failed-ends (Pull.Asks p) e = refl
failed-ends (Pull.Gives p of) e = refl
failed-ends (Pull.Takes p to) e = refl
failed-ends (Pull.Room p i) (event.Flush j v) = refl
failed-ends (Pull.Room p i) (event.Evict j v) = refl
failed-ends (Pull.Room p i) e = refl
failed-ends (Pull.Evicts p i v) e = refl
failed-ends Pull.Ends e = refl

still-fine : (pull : Pull) (e : Event) (r : Reply) → is_vain (helped pull e r) ≡ false → is_failed r ≡ false
still-fine pull e (reply.Refused R.Failed) going =
    let clash : true ≡ false = sym (ap is_vain (failed-ends pull e)) ∙ going in absurd (cc)
still-fine pull e r going = refl

-- what goes on isn't in vain
not-vain : (pull : Pull) → is_pulling pull ≡ true → is_vain pull ≡ false
not-vain Pull.Ends going = absurd (cc)
not-vain pull going = refl

pub unfails : (work : Work) (r : Reply) → is_failed r ≡ false → fails work r ≡ false
unfails Work.Opening (reply.Refused R.Failed) fine = absurd (cc)
unfails Work.Opening r fine = refl
unfails (Work.Do line) r fine = refl

line-borne : (work : Work) (r : Reply) → IsBorne work (fails work r)
line-borne Work.Opening r = tt
line-borne (Work.Do line) r = refl

marked-as : (work : Work) (r : Reply) (t : Progress) → t.failed ≡ false → record t { failed = fails work r } ≡ marked work r t
marked-as Work.Opening r t no_ = refl
marked-as (Work.Do line) r t no_ = ap (λ (b : Bool). record t { failed = b }) (sym no_)

module _ (at : World) (work : Work) (rest : List Work) (c : Cursor) (e : Event) (for : Puller) (pull : Pull) (w : World)
    (s : Pulling at work rest c e for pull w) (w' : Core) (x : Entry) where
  -- the work stands there with this pull, and a device failed or not
  abbrev told-at : Bool → Pull → Progress
  told-at failed next = record (stays at.told work rest c next) { failed = failed }

  abbrev then-at : Progress
  then-at = told-at (fails work x.reply) (helped pull x.event x.reply)

  -- a helping event that was due
  pub helping : is_pulling pull ≡ true → x.session ≡ 0 → x.line ≡ 0 → IsDue w.core.pages for pull x.event → Tells w.core w' w.told x then-at
  helping pulls session line due =
      subst (λ (t : Progress). Tells w.core w' t x then-at) (sym (s.told ∙ ap (λ (b : Bool). told-at b pull) (s.unfailed (not-vain pull pulls))))
      (tells-at (record { told = told-at false pull; core = w.core }) w' work rest c x then-at refl refl refl
      (subst (λ (b : Bool). TellsAt b w.core w' (told-at false pull) work rest c x then-at) (sym pulls)
      (subst (λ (o : Option Puller). Helps w.core (told-at false pull) work rest c o x then-at)
      (sym (ap (puller_of w.core.scene.state) s.event ∙ s.puller pulls))
      (session, line, due, marked-as work x.reply (told-at false (helped pull x.event x.reply)) refl))))

  pub pulling-on : is_pulling pull ≡ true → IsHelp x.event → Step w.core.scene.state x.event x.reply w'.scene.state
      → Pulling at work rest c e for (helped pull x.event x.reply) (record { told = then-at; core = w' })
  pulling-on pulls help step = record {
    failed = fails work x.reply;
    told = refl;
    event = s.event;
    puller = λ going. ap (λ (m : State). puller m e)
        (helps-same w.core.scene.state w'.scene.state x.event x.reply help (still-fine pull x.event x.reply (not-vain (helped pull x.event x.reply) going)) step) ∙ s.puller pulls;
    acts = λ t. helps-acts w.core.scene.state w'.scene.state x.event x.reply help step t ∙ s.acts t;
    unfailed = λ going. unfails work x.reply (still-fine pull x.event x.reply going);
    borne = line-borne work x.reply;
    before = s.before;
  }

-- where the pull was at doesn't matter once the work goes on
pub followed-stays : (at : Progress) (x : Work) (rest : List Work) (c : Cursor) (pull : Pull) (r : Reply) (next : Option Cursor)
    → followed (stays at x rest c pull) x rest r next ≡ followed at x rest r next
followed-stays at x rest c pull r None = refl
followed-stays at x rest c pull r (Some d) = refl

-- the work's own event once more, behind its pull
module _ (at : World) (work : Work) (rest : List Work) (c : Cursor) (e : Event) (for : Puller) (pull : Pull) (w : World)
    (s : Pulling at work rest c e for pull w) (w' : Core) (x : Entry) where
  abbrev again : Progress
  again = marked work x.reply (followed at.told work rest x.reply (goes_on w' at.told.known work c x.reply))

  abbrev there : Progress
  there = stays at.told work rest c pull

  own-now : x.event ≡ e → (wants_page x.reply ≡ false) ⊎ (pull ≡ Pull.Ends)
      → Own w.core.scene.state w' there work rest c x.event x.reply again
  own-now is done_now = subst (Own w.core.scene.state w' there work rest c x.event x.reply)
      (ap (marked work x.reply) (followed-stays at.told work rest c pull x.reply (goes_on w' at.told.known work c x.reply)))
      (⊎_elim
      (λ (h : wants_page x.reply ≡ false). own-plain w.core.scene.state w' there work rest c x.event x.reply h)
      (λ (h : pull ≡ Pull.Ends). own-in-vain w.core.scene.state w' there work rest c x.event x.reply (inl h))
      done_now)

  pub own-again : s.failed ≡ false → is_pulling pull ≡ false → x.session ≡ session_of work → x.line ≡ number_of work → x.event ≡ e
      → (wants_page x.reply ≡ false) ⊎ (pull ≡ Pull.Ends) → Tells w.core w' w.told x again
  own-again unfailed rests session number is done_now =
      subst (λ (t : Progress). Tells w.core w' t x again)
      (sym (s.told ∙ ap (λ (b : Bool). record there { failed = b }) (unfailed ∙ sym s.before)))
      (tells-at (record { told = there; core = w.core }) w' work rest c x again s.before refl refl
      (subst (λ (b : Bool). TellsAt b w.core w' there work rest c x again) (sym rests)
      (session, number, s.event ∙ ap (λ (y : Event). Some y) (sym is), own-now is done_now)))
