-- An example: the lines `complex 1 2 1; 1 begin s; insert s 0 x0; insert s 1 y0; commit s; where 1; where 0; table`, with a pool of one
-- frame. Which entries are told of it, with a pull of each page, and a page that is written and evicted for the other.
use Rattle.std.proofs.Common.{inl, inr, ℕ, true, false, List, [], ◌∷◌, refl, sym, ap}
use Rattle.std.specs.Prelude.{Option, None}
use Rattle.sd_base.specs.declared.ids.Rid.{Rid}
use Rattle.sd_base.specs.declared.ids.TxnId.{TxnId}
use Rattle.sd_base.specs.declared.place.Mode.TheVariants as modes
use Rattle.sd_base.specs.declared.place.Place.TheVariants as places
use Rattle.sd_base.specs.declared.refusal.Refusal.TheVariants as R
use Rattle.sd_model.specs.declared.event.Entry.{Entry}
use Rattle.sd_model.specs.declared.event.Event.{Event}
use Rattle.sd_model.specs.declared.event.Event.TheVariants as event
use Rattle.sd_model.specs.declared.event.Reply.{Reply}
use Rattle.sd_model.specs.declared.event.Reply.TheVariants as reply
use Rattle.sd_model.specs.State.{fresh, joined}
use Rattle.sd_script.specs.declared.line.Form.{Form}
use Rattle.sd_script.specs.declared.line.Form.TheVariants as form
use Rattle.sd_script.specs.declared.line.Line.{Line}
use Rattle.sd_pagelock.specs.Places.{PageEntry}
use Rattle.sd_world.specs.Pages.{Pages, page_placed}
use Rattle.sd_world.specs.Serving.{Core}
use Rattle.sd_drive.specs.Driving.{Cursor, IsTold, Progress, Tells, Work, done, followed, marked, stays, untold, works_of}
use Rattle.sd_drive.specs.Pulls.{Pull}
use Rattle.sd_drive.proofs.Pools.{idle-leavers}

abbrev s : List ℕ
s = 115 ∷ []

abbrev x0 : List ℕ
x0 = 120 ∷ 48 ∷ []

abbrev y0 : List ℕ
y0 = 121 ∷ 48 ∷ []

abbrev line : ℕ → Form → Line
line number f = record { number = number; session = 0; form = f }

abbrev t : TxnId
t = record { inst = 1; epoch = 1; seq = 1 }

abbrev rid : ℕ → Rid
rid p = record { page = p; slot = 0 }

abbrev l1 : Line
l1 = line 1 (form.Complex 1 2 1)

abbrev l2 : Line
l2 = line 2 (form.Begin 1 s)

abbrev l3 : Line
l3 = line 3 (form.Insert s 0 0 x0 None)

abbrev l4 : Line
l4 = line 4 (form.Insert s 0 1 y0 None)

abbrev l5 : Line
l5 = line 5 (form.Commit s 0)

abbrev l6 : Line
l6 = line 6 (form.Where 1)

abbrev l7 : Line
l7 = line 7 (form.Where 0)

abbrev l8 : Line
l8 = line 8 form.Table

abbrev first : Progress
first = untold 1 2 (l1 ∷ l2 ∷ l3 ∷ l4 ∷ l5 ∷ l6 ∷ l7 ∷ l8 ∷ [])

-- no pool has a page; page 0 or page 1 is there, changed; page 0 is there as on disk
abbrev none : Pages
none = record { frames = 1; entry = λ p. PageEntry.Free; asks = λ p. []; number = λ p. 0; begun = λ i. false }

abbrev page : ℕ → PageEntry → Pages
page p place = page_placed p place none

-- instance 1 is up
abbrev core : Pages → Core
core w = record {
  scene = record { state = joined 1 1 fresh; waits = λ u. None };
  pages = w;
  bounds = record { slots = λ p. []; least = λ p. []; reach = λ i. 0; lsns = 0; masters = λ i. 0 };
}

abbrev own : Line → Event → Reply → Entry
own l e r = record { session = l.session; line = l.number; event = e; reply = r }

abbrev helps : Event → Reply → Entry
helps e r = record { session = 0; line = 0; event = e; reply = r }

-- instance 1 joins
abbrev at1 : Progress
at1 = done first Work.Opening (Work.Do l1 ∷ Work.Do l2 ∷ Work.Do l3 ∷ Work.Do l4 ∷ Work.Do l5 ∷ Work.Do l6 ∷ Work.Do l7 ∷ Work.Do l8 ∷ []) (reply.Joined 1)

told1 : Tells (core (none)) (core (none)) first (helps (event.Join 1) (reply.Joined 1)) at1
told1 = (
  refl,
  (
    refl,
    refl,
    refl,
    sym (ap
        (λ (o : Option Cursor). marked Work.Opening (reply.Joined 1) (followed first Work.Opening (works_of (l1 ∷ l2 ∷ l3 ∷ l4 ∷ l5 ∷ l6 ∷ l7 ∷ l8 ∷ []))
        (reply.Joined 1) o))
        (idle-leavers (core none) (λ j. inr (λ q. refl)) 1 8)),
  ),
)

abbrev at2 : Progress
at2 = done at1 (Work.Do l2) (Work.Do l3 ∷ Work.Do l4 ∷ Work.Do l5 ∷ Work.Do l6 ∷ Work.Do l7 ∷ Work.Do l8 ∷ []) (reply.Began t)

told2 : Tells (core (none)) (core (none)) at1 (own l2 (event.Begin 1) (reply.Began t)) at2
told2 = (refl, (refl, refl, refl, refl))

-- the first insert needs page 0
abbrev at3 : Progress
at3 = stays at2 (Work.Do l3) (Work.Do l4 ∷ Work.Do l5 ∷ Work.Do l6 ∷ Work.Do l7 ∷ Work.Do l8 ∷ []) Cursor.Once (Pull.Asks 0)

told3 : Tells (core (none)) (core (none)) at2 (own l3 (event.Insert t 0 x0 2) (reply.Refused (R.NeedPage places.Free))) at3
told3 = (refl, (refl, refl, refl, inl (refl, refl, (0, refl, refl))))

abbrev at4 : Progress
at4 = stays at3 (Work.Do l3) (Work.Do l4 ∷ Work.Do l5 ∷ Work.Do l6 ∷ Work.Do l7 ∷ Work.Do l8 ∷ []) Cursor.Once (Pull.Idle)

told4 : Tells (core (none)) (core (page 0 (PageEntry.Excl 1 false))) at3 (helps (event.Ask 1 0 modes.Excl) reply.Have) at4
told4 = (refl, (refl, refl, refl, refl))

abbrev at5 : Progress
at5 = done at4 (Work.Do l3) (Work.Do l4 ∷ Work.Do l5 ∷ Work.Do l6 ∷ Work.Do l7 ∷ Work.Do l8 ∷ []) (reply.At (rid 0))

told5 : Tells (core (page 0 (PageEntry.Excl 1 false))) (core (page 0 (PageEntry.Excl 1 true))) at4 (own l3 (event.Insert t 0 x0 2) (reply.At (rid 0))) at5
told5 = (refl, (refl, refl, refl, refl))

-- the second one needs page 1, for which page 0 is written and evicted
abbrev at6 : Progress
at6 = stays at5 (Work.Do l4) (Work.Do l5 ∷ Work.Do l6 ∷ Work.Do l7 ∷ Work.Do l8 ∷ []) Cursor.Once (Pull.Asks 1)

told6 : Tells (core (page 0 (PageEntry.Excl 1 true))) (core (page 0 (PageEntry.Excl 1 true))) at5 (own l4 (event.Insert t 1 y0 2) (reply.Refused (R.NeedPage places.Free))) at6
told6 = (refl, (refl, refl, refl, inl (refl, refl, (1, refl, refl))))

abbrev at7 : Progress
at7 = stays at6 (Work.Do l4) (Work.Do l5 ∷ Work.Do l6 ∷ Work.Do l7 ∷ Work.Do l8 ∷ []) Cursor.Once (Pull.Room 1 1)

told7 : Tells (core (page 0 (PageEntry.Excl 1 true))) (core (page 0 (PageEntry.Excl 1 true))) at6 (helps (event.Ask 1 1 modes.Excl) (reply.Refused R.PoolFull)) at7
told7 = (refl, (refl, refl, refl, refl))

abbrev at8 : Progress
at8 = stays at7 (Work.Do l4) (Work.Do l5 ∷ Work.Do l6 ∷ Work.Do l7 ∷ Work.Do l8 ∷ []) Cursor.Once (Pull.Evicts 1 1 0)

told8 : Tells (core (page 0 (PageEntry.Excl 1 true))) (core (page 0 (PageEntry.Excl 1 false))) at7 (helps (event.Flush 1 0) reply.Did) at8
told8 = (refl, (refl, refl, (0, refl, refl), refl))

abbrev at9 : Progress
at9 = stays at8 (Work.Do l4) (Work.Do l5 ∷ Work.Do l6 ∷ Work.Do l7 ∷ Work.Do l8 ∷ []) Cursor.Once (Pull.Asks 1)

told9 : Tells (core (page 0 (PageEntry.Excl 1 false))) (core (none)) at8 (helps (event.Evict 1 0) reply.Did) at9
told9 = (refl, (refl, refl, refl, refl))

abbrev at10 : Progress
at10 = stays at9 (Work.Do l4) (Work.Do l5 ∷ Work.Do l6 ∷ Work.Do l7 ∷ Work.Do l8 ∷ []) Cursor.Once (Pull.Idle)

told10 : Tells (core (none)) (core (page 1 (PageEntry.Excl 1 false))) at9 (helps (event.Ask 1 1 modes.Excl) reply.Have) at10
told10 = (refl, (refl, refl, refl, refl))

abbrev at11 : Progress
at11 = done at10 (Work.Do l4) (Work.Do l5 ∷ Work.Do l6 ∷ Work.Do l7 ∷ Work.Do l8 ∷ []) (reply.At (rid 1))

told11 : Tells (core (page 1 (PageEntry.Excl 1 false))) (core (page 1 (PageEntry.Excl 1 true))) at10 (own l4 (event.Insert t 1 y0 2) (reply.At (rid 1))) at11
told11 = (refl, (refl, refl, refl, refl))

abbrev at12 : Progress
at12 = done at11 (Work.Do l5) (Work.Do l6 ∷ Work.Do l7 ∷ Work.Do l8 ∷ []) reply.Did

told12 : Tells (core (page 1 (PageEntry.Excl 1 true))) (core (page 1 (PageEntry.Excl 1 true))) at11 (own l5 (event.Commit t) reply.Did) at12
told12 = (refl, (refl, refl, refl, refl))

abbrev at13 : Progress
at13 = done at12 (Work.Do l6) (Work.Do l7 ∷ Work.Do l8 ∷ []) (reply.Shown (places.Excl 1 true) 2)

told13 : Tells (core (page 1 (PageEntry.Excl 1 true))) (core (page 1 (PageEntry.Excl 1 true))) at12 (own l6 (event.Show 1) (reply.Shown (places.Excl 1 true) 2)) at13
told13 = (refl, (refl, refl, refl, refl))

abbrev at14 : Progress
at14 = done at13 (Work.Do l7) (Work.Do l8 ∷ []) (reply.Shown places.Free 0)

told14 : Tells (core (page 1 (PageEntry.Excl 1 true))) (core (page 1 (PageEntry.Excl 1 true))) at13 (own l7 (event.Show 0) (reply.Shown places.Free 0)) at14
told14 = (refl, (refl, refl, refl, refl))

-- the table lists page 0, for which page 1 is written and evicted
abbrev at15 : Progress
at15 = stays at14 (Work.Do l8) ([]) (Cursor.Lists 1 0) (Pull.Asks 0)

told15 : Tells (core (page 1 (PageEntry.Excl 1 true))) (core (page 1 (PageEntry.Excl 1 true))) at14 (own l8 (event.List 1 0) (reply.Refused (R.NeedPage places.Free))) at15
told15 = (refl, (refl, refl, refl, inl (refl, refl, (0, refl, refl))))

abbrev at16 : Progress
at16 = stays at15 (Work.Do l8) ([]) (Cursor.Lists 1 0) (Pull.Room 0 1)

told16 : Tells (core (page 1 (PageEntry.Excl 1 true))) (core (page 1 (PageEntry.Excl 1 true))) at15 (helps (event.Ask 1 0 modes.Shared) (reply.Refused R.PoolFull)) at16
told16 = (refl, (refl, refl, refl, refl))

abbrev at17 : Progress
at17 = stays at16 (Work.Do l8) ([]) (Cursor.Lists 1 0) (Pull.Evicts 0 1 1)

told17 : Tells (core (page 1 (PageEntry.Excl 1 true))) (core (page 1 (PageEntry.Excl 1 false))) at16 (helps (event.Flush 1 1) reply.Did) at17
told17 = (refl, (refl, refl, (1, refl, refl), refl))

abbrev at18 : Progress
at18 = stays at17 (Work.Do l8) ([]) (Cursor.Lists 1 0) (Pull.Asks 0)

told18 : Tells (core (page 1 (PageEntry.Excl 1 false))) (core (none)) at17 (helps (event.Evict 1 1) reply.Did) at18
told18 = (refl, (refl, refl, refl, refl))

abbrev at19 : Progress
at19 = stays at18 (Work.Do l8) ([]) (Cursor.Lists 1 0) (Pull.Idle)

told19 : Tells (core (none)) (core (page 0 (PageEntry.Shared (1 ∷ []) None))) at18 (helps (event.Ask 1 0 modes.Shared) reply.Have) at19
told19 = (refl, (refl, refl, refl, refl))

abbrev at20 : Progress
at20 = stays at19 (Work.Do l8) ([]) (Cursor.Lists 1 1) (Pull.Idle)

told20 : Tells (core (page 0 (PageEntry.Shared (1 ∷ []) None))) (core (page 0 (PageEntry.Shared (1 ∷ []) None))) at19 (own l8 (event.List 1 0) (reply.Rows ((rid 0, x0) ∷ []))) at20
told20 = (refl, (refl, refl, refl, refl))

-- and then page 1, for which page 0 is evicted, and needn't be written
abbrev at21 : Progress
at21 = stays at20 (Work.Do l8) ([]) (Cursor.Lists 1 1) (Pull.Asks 1)

told21 : Tells (core (page 0 (PageEntry.Shared (1 ∷ []) None))) (core (page 0 (PageEntry.Shared (1 ∷ []) None))) at20 (own l8 (event.List 1 1) (reply.Refused (R.NeedPage places.Free))) at21
told21 = (refl, (refl, refl, refl, inl (refl, refl, (1, refl, refl))))

abbrev at22 : Progress
at22 = stays at21 (Work.Do l8) ([]) (Cursor.Lists 1 1) (Pull.Room 1 1)

told22 : Tells (core (page 0 (PageEntry.Shared (1 ∷ []) None))) (core (page 0 (PageEntry.Shared (1 ∷ []) None))) at21 (helps (event.Ask 1 1 modes.Shared) (reply.Refused R.PoolFull)) at22
told22 = (refl, (refl, refl, refl, refl))

abbrev at23 : Progress
at23 = stays at22 (Work.Do l8) ([]) (Cursor.Lists 1 1) (Pull.Asks 1)

told23 : Tells (core (page 0 (PageEntry.Shared (1 ∷ []) None))) (core (none)) at22 (helps (event.Evict 1 0) reply.Did) at23
told23 = (refl, (refl, refl, (0, refl, refl), refl))

abbrev at24 : Progress
at24 = stays at23 (Work.Do l8) ([]) (Cursor.Lists 1 1) (Pull.Idle)

told24 : Tells (core (none)) (core (page 1 (PageEntry.Shared (1 ∷ []) None))) at23 (helps (event.Ask 1 1 modes.Shared) reply.Have) at24
told24 = (refl, (refl, refl, refl, refl))

abbrev at25 : Progress
at25 = done at24 (Work.Do l8) [] (reply.Rows ((rid 1, y0) ∷ []))

told25 : Tells (core (page 1 (PageEntry.Shared (1 ∷ []) None))) (core (page 1 (PageEntry.Shared (1 ∷ []) None))) at24 (own l8 (event.List 1 1) (reply.Rows ((rid 1, y0) ∷ []))) at25
told25 = (refl, (refl, refl, refl, refl))

-- nothing is left
all-told : IsTold (joined 1 1 fresh) at25
all-told = (refl, refl)
