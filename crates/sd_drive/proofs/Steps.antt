-- A hall moves from world to world, an entry at a time. It serves the goals of pull.rt and driver.rt.
use Rattle.std.proofs.Common.{◌≡◌, List, [], ◌∷◌, ◌++◌, refl, sym, ap, ◌∙◌, subst}
use Rattle.std.specs.Prelude.{Option, None, Some}
use Rattle.sd_model.specs.declared.event.Entry.{Entry}
use Rattle.sd_model.specs.declared.event.Event.{Event}
use Rattle.sd_model.specs.declared.event.Event.TheVariants as event
use Rattle.sd_model.specs.declared.event.Reply.{Reply}
use Rattle.sd_model.specs.declared.event.Reply.TheVariants as reply
use Rattle.sd_world.specs.Serving.{Core, KeepsEarlier, Telling, Turns}
use Rattle.sd_fits.specs.Bodies.{ServingHall, fits_body, rig_of}
use Rattle.sd_fits.specs.declared.body.Body.{Body}
use Rattle.sd_hall.specs.Bodies.{IsRigIn, ServesIn, fits_in}
use Rattle.sd_hall.specs.Closed.{ClosesIn}
use Rattle.sd_hall.specs.Found.{FindsIn, IsFound}
use Rattle.sd_hall.specs.Keeping.{Keeps}
use Rattle.sd_hall.specs.declared.hall.Hall.{Hall}
use Rattle.sd_drive.specs.Driven.{Helped, IsIn, MarksLast, StaysIn}
use Rattle.sd_drive.specs.Driving.{Progress, Tells, World}
use Rattle.sd_drive.proofs.Acts.{due-helps}
use Rattle.sd_drive.proofs.Bodies.{serves-some}
use Rattle.sd_drive.proofs.Lined.{tells-lines}
use Rattle.sd_drive.proofs.Marks.{marks-noted, tells-marks}
use Rattle.sd_drive.proofs.Telling.{helping, pulling-on}
use Rattle.sd_drive.specs.Running.{Ran, Start}
use Rattle.sd_drive.proofs.Running.{ran-noted, ran-spared}

-- a book in which an entry was noted isn't empty
one-more : (es : List Entry) (x : Entry) → es ++ x ∷ [] ≡ [] → ⊥
one-more [] x is = absurd (cc)
one-more (e ∷ es) x is = absurd (cc)

pub noted-some : {es : List Entry} (old : List Entry) (x : Entry) → es ≡ old ++ x ∷ [] → es ≡ [] → ⊥
noted-some old x is none = one-more old x (sym is ∙ none)

module _ {G : Type 0} (tell : Telling G) (old new : Hall G) where
  -- an entry more, with what the call of its event says; `earlier` is the rig's law
  pub record Noted (x : Entry) : Type 0 where
    pub entries : new.book.entries ≡ old.book.entries ++ x ∷ []
    pub serves : ServesIn tell x.event (Some x.reply) old.body new.body
    pub keeps : (start : Core) → Keeps tell start old → Keeps tell start new
    pub opening : new.book.opening ≡ old.book.opening
    pub earlier : (rig : G) → KeepsEarlier tell rig
    pub found : new.book.entries ≡ old.book.entries ++ record { session = x.session; line = x.line; event = x.event; reply = reply.Did } ∷ []
        → x.event ≡ event.Reopen → FindsIn tell.seen tell.leaves new.body
    pub closes : ClosesIn tell x.event old.body new.body

  -- the core that it leads to, and that the hall is there wherever the entry is told
  pub record Moved (start : Start G) (w : World) (x : Entry) : Type 0 where
    pub core : Core
    pub turns : Turns w.core x.event x.reply core
    pub fits : fits_in tell.seen tell.leaves new.body core
    pub there : (then : Progress) → Tells w.core core w.told x then → IsIn tell start new (record { told = then; core = core })

  -- the call of an event from there on: what it leaves, and how
  pub serves-from : (e : Event) (answer : Option Reply) → ServesIn tell e answer old.body new.body → (start : Start G) (w : World)
      → (i : IsIn tell start old w) → (b : Body G) × (new.body ≡ Some b) × ServingHall tell e answer i.body b
  serves-from e answer s start w i =
      serves-some tell e answer i.body new.body (subst (λ (b : Option (Body G)). ServesIn tell e answer b new.body) i.is s)

  -- what a reopening found
  found-there : (x : Entry) → Noted x → (b : Body G) → new.body ≡ Some b → (w w' : Core) → fits_body tell.seen tell.leaves b w'
      → Turns w x.event x.reply w' → x.event ≡ event.Reopen → x.reply ≡ reply.Did → IsFound (tell.seen (rig_of b)) w'
  found-there x n b is w w' fits turns reopens did =
      (n.found (n.entries ∙ ap (λ (r : Reply). old.book.entries ++ record { session = x.session; line = x.line; event = x.event; reply = r } ∷ []) did)
      reopens).1 w w' (rig_of b) (subst (λ (o : Option (Body G)). IsRigIn (rig_of b) o) (sym is) refl)
      (subst (λ (o : Option (Body G)). fits_in tell.seen tell.leaves o w') (sym is) fits)
      (subst (λ (e : Event). Turns w e reply.Did w') reopens (subst (λ (r : Reply). Turns w x.event r w') did turns))

  pub moved : (x : Entry) → Noted x → (start : Start G) (w : World) → IsIn tell start old w → Moved start w x
  moved x n start w i =
      let s = serves-from x.event (Some x.reply) n.serves start w i in
      let next = s.2.0 w.core i.ran.fits in
      record {
        core = next.0;
        turns = next.1.turns;
        fits = subst (λ (b : Option (Body G)). fits_in tell.seen tell.leaves b next.0) (sym s.1) next.1.fits_then;
        there = λ then tells.
            let last : World = record { told = then; core = next.0 } in record {
              body = s.0;
              is = s.1;
              ran = subst (λ (es : List Entry). Ran tell start s.0 es last) (sym n.entries)
                  (ran-noted tell start old.book.entries w x i.body s.0 last (n.earlier (rig_of s.0)) i.ran
                  (record { turns = next.1.turns; tells = tells }) next.1.fits_then next.1.passes s.2.1
                  (found-there x n s.0 s.1 w.core next.0 next.1.fits_then next.1.turns)
                  (λ pick is. n.closes pick is (rig_of i.body) (rig_of s.0)
                  (subst (λ (o : Option (Body G)). IsRigIn (rig_of i.body) o) (sym i.is) refl)
                  (subst (λ (o : Option (Body G)). IsRigIn (rig_of s.0) o) (sym s.1) refl)));
              keeps = n.keeps start.world.core i.keeps;
              table = n.opening ∙ i.table;
              marks = marks-noted new.book.entries old.book.entries x then n.entries (tells-marks w.core next.0 w.told x then tells);
              behind = λ opened. tells-lines w.core next.0 w.told x then tells (i.behind opened);
            };
      }

  -- a helping event
  pub helped-on : (e : Event) (r : Reply) → Noted (record { session = 0; line = 0; event = e; reply = r }) → Helped tell old new e r
  helped-on e r n start w at work rest c own for pull i s pulls due =
      let x : Entry = record { session = 0; line = 0; event = e; reply = r } in
      let m = moved x n start w i in (
        record { told = _; core = m.core },
        m.there _ (helping at work rest c own for pull w s m.core x pulls refl refl due),
        pulling-on at work rest c own for pull w s m.core x pulls (due-helps w.core.pages for pull e due) m.turns.plays.step,
        m.turns,
      )

  -- nothing was noted
  pub stays-in : (e : Event) → new.book.entries ≡ old.book.entries → ServesIn tell e None old.body new.body
      → ((start : Core) → Keeps tell start old → Keeps tell start new) → new.book.opening ≡ old.book.opening → ((rig : G) → KeepsEarlier tell rig)
      → StaysIn tell old new
  stays-in e same serves keeps opening earlier start w i =
      let s = serves-from e None serves start w i in record {
        body = s.0;
        is = s.1;
        ran = subst (λ (es : List Entry). Ran tell start s.0 es w) (sym same)
            (ran-spared tell start old.book.entries w e i.body s.0 (earlier (rig_of s.0)) i.ran s.2);
        keeps = keeps start.world.core i.keeps;
        table = opening ∙ i.table;
        marks = subst (λ (es : List Entry). MarksLast es w.told) (sym same) i.marks;
        behind = i.behind;
      }
