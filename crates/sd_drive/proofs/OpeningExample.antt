-- An example: the opening of a complex of two instances, the first of which alone is down; a loser of it has changed page 0, which its
-- recovery needs. Which entries are told of it: the first instance recovers itself, with a pull of the page, and then both join; a device
-- that fails in the pull ends it. And an opening behind whose join the pool of an instance that isn't up is emptied.
use Rattle.std.proofs.Common.{◌≡◌, inl, inr, ℕ, Bool, true, false, eqb, cond, [], refl, sym, ap, ◌∙◌, arith, eqb-true}
use Rattle.std.specs.Option.{option_or}
use Rattle.std.specs.Prelude.{Option, None, Some}
use Rattle.sd_base.specs.declared.ids.TxnId.{TxnId}
use Rattle.sd_base.specs.declared.place.Mode.TheVariants as modes
use Rattle.sd_base.specs.declared.place.Place.TheVariants as places
use Rattle.sd_base.specs.declared.place.Status.{Status}
use Rattle.sd_base.specs.declared.place.Status.TheVariants as S
use Rattle.sd_base.specs.declared.refusal.Refusal.TheVariants as R
use Rattle.sd_model.specs.declared.event.Entry.{Entry}
use Rattle.sd_model.specs.declared.event.Event.{Event}
use Rattle.sd_model.specs.declared.event.Event.TheVariants as event
use Rattle.sd_model.specs.declared.event.Reply.{Reply}
use Rattle.sd_model.specs.declared.event.Reply.TheVariants as reply
use Rattle.sd_model.specs.Reopening.{loser}
use Rattle.sd_model.specs.State.{State, fresh}
use Rattle.sd_pagelock.specs.Places.{PageEntry, holds}
use Rattle.sd_world.specs.Pages.{Pages, page_placed}
use Rattle.sd_world.specs.PageCauses.{IsNeededPage}
use Rattle.sd_world.specs.Serving.{Core}
use Rattle.sd_drive.specs.Driving.{Cursor, IsTold, Progress, Tells, Work, done, followed, leaver, leavers, marked, stays, untold}
use Rattle.sd_base.specs.Standing.{is_up}
use Rattle.sd_drive.specs.Pulls.{Pull}
use Rattle.sd_drive.proofs.Pools.{IsIdle, copy-here, idle-empties, idle-leavers, leaver-by, leavers-more}

abbrev pub t : TxnId
t = record { inst = 1; epoch = 1; seq = 1 }

-- the two instances stand so; each transaction that isn't gone lost, and holds record 0.0
abbrev pub state : Status → Status → State
state s1 s2 = record fresh {
  part = λ u. loser (λ r. eqb r.page 0);
  inst = λ i. record { status = cond {A = Status} (eqb i 1) s1 (cond {A = Status} (eqb i 2) s2 S.Clean); epoch = 1; begins = 0; failed = 0 };
}

-- no pool has a page; page 0 is there alone, or changed
abbrev pub none : Pages
none = record { frames = 1; entry = λ p. PageEntry.Free; asks = λ p. []; number = λ p. 0; begun = λ i. false }

abbrev pub page : Bool → Pages
page dirty = page_placed 0 (PageEntry.Excl 1 dirty) none

abbrev pub core : Status → Status → Pages → Core
core s1 s2 w = record {
  scene = record { state = state s1 s2; waits = λ u. None };
  pages = w;
  bounds = record { slots = λ p. []; least = λ p. []; reach = λ i. 0; lsns = 0; masters = λ i. 0 };
}

abbrev pub helps : Event → Reply → Entry
helps e r = record { session = 0; line = 0; event = e; reply = r }

-- a step of the recovery of instance 1 needs page 0
pub needed : (s2 : Status) → IsNeededPage (state (S.Recovering 1) s2) 1 0
needed s2 = (t, refl, inl refl, (0, refl))

-- ---- recoveries and joins

abbrev opening : Progress
opening = untold 2 1 []

abbrev o1 : Progress
o1 = stays opening Work.Opening [] (Cursor.Steps 1 None) Pull.Idle

opens1 : Tells (core S.Down S.Clean none) (core (S.Recovering 1) S.Clean none) opening (helps (event.RecoverBegin 1 1) reply.Did) o1
opens1 = (refl, (refl, refl, refl, refl))

abbrev o2 : Progress
o2 = stays o1 Work.Opening [] (Cursor.Steps 1 None) (Pull.Asks 0)

opens2 : Tells (core (S.Recovering 1) S.Clean none) (core (S.Recovering 1) S.Clean none) o1
    (helps (event.RecoverStep 1) (reply.Refused (R.NeedPage places.Free))) o2
opens2 = (refl, (refl, refl, refl, inl (refl, refl, (0, needed S.Clean, refl))))

abbrev o3 : Progress
o3 = stays o2 Work.Opening [] (Cursor.Steps 1 None) Pull.Idle

opens3 : Tells (core (S.Recovering 1) S.Clean none) (core (S.Recovering 1) S.Clean (page false)) o2 (helps (event.Ask 1 0 modes.Excl) reply.Have) o3
opens3 = (refl, (refl, refl, refl, refl))

opens4 : Tells (core (S.Recovering 1) S.Clean (page false)) (core (S.Recovering 1) S.Clean (page true)) o3 (helps (event.RecoverStep 1) reply.Step) o3
opens4 = (refl, (refl, refl, refl, refl))

-- no other is down: instance 1 joins, and then instance 2
abbrev o5 : Progress
o5 = stays o3 Work.Opening [] (Cursor.Joins 1) Pull.Idle

opens5 : Tells (core (S.Recovering 1) S.Clean (page true)) (core S.Restarting S.Clean (page true)) o3 (helps (event.RecoverStep 1) reply.Finished) o5
opens5 = (refl, (refl, refl, refl, refl))

abbrev o6 : Progress
o6 = stays o5 Work.Opening [] (Cursor.Joins 2) Pull.Idle

opens6 : Tells (core S.Restarting S.Clean (page true)) (core S.Up S.Clean (page true)) o5 (helps (event.Join 1) (reply.Joined 2)) o6
opens6 = (refl, (refl, refl, refl, refl))

abbrev o7 : Progress
o7 = done o6 Work.Opening [] (reply.Joined 1)

-- whoever has a page is up, so nothing goes
at-1 : (q : ℕ) (b : Bool) → eqb 0 q ≡ b → (j : ℕ) → eqb 1 j ≡ false → holds ((page true).entry q) j ≡ false
at-1 q true is j other = ap (λ (b : Bool). holds (cond {A = PageEntry} b (PageEntry.Excl 1 true) PageEntry.Free) j) is ∙ other
at-1 q false is j other = ap (λ (b : Bool). holds (cond {A = PageEntry} b (PageEntry.Excl 1 true) PageEntry.Free) j) is

up-or-none : (j : ℕ) → IsIdle (core S.Up S.Up (page true)) j
up-or-none j = go (eqb 1 j) refl
  where
    go : (b : Bool) → eqb 1 j ≡ b → IsIdle (core S.Up S.Up (page true)) j
    go true is = inl (ap (λ (k : ℕ). is_up ((state S.Up S.Up).inst k).status) (sym (eqb-true 1 j is)))
    go false is = inr (λ q. at-1 q (eqb 0 q) refl j is)

opens7 : Tells (core S.Up S.Clean (page true)) (core S.Up S.Up (page true)) o6 (helps (event.Join 2) (reply.Joined 1)) o7
opens7 = (
  refl,
  (
    refl,
    refl,
    refl,
    sym (ap (λ (o : Option Cursor). marked Work.Opening (reply.Joined 1) (followed o6 Work.Opening [] (reply.Joined 1) o))
        (idle-leavers (core S.Up S.Up (page true)) up-or-none 1 8)),
  ),
)

all-opened : IsTold (state S.Up S.Up) o7
all-opened = (refl, refl)

-- ---- pools that are emptied: instance 2 has recovered, and has page 0 changed, but this run has instance 1 alone

abbrev kept : Bool → Pages
kept dirty = page_placed 0 (PageEntry.Excl 2 dirty) none

abbrev p1 : Progress
p1 = stays (untold 1 1 []) Work.Opening [] (Cursor.Joins 1) Pull.Idle

-- behind the join the page is written
abbrev p2 : Progress
p2 = stays p1 Work.Opening [] (Cursor.Flushes 2 0) Pull.Idle

first-goes : leavers (core S.Up S.Restarting (kept true)) 1 8 ≡ Some (Cursor.Flushes 2 0)
first-goes =
    let w = core S.Up S.Restarting (kept true) in
    leavers-more w 1 8 7 refl ∙ leavers-more w 2 7 6 refl
    ∙ ap (λ (o : Option ℕ). option_or (leaver-by w 2 false o) (leavers w 3 6)) (copy-here w.pages 2 0 (omega arith) refl)

empties1 : Tells (core S.Clean S.Restarting (kept true)) (core S.Up S.Restarting (kept true)) p1 (helps (event.Join 1) (reply.Joined 2)) p2
empties1 = (
  refl,
  (
    refl,
    refl,
    refl,
    sym (ap (λ (o : Option Cursor). marked Work.Opening (reply.Joined 2) (followed p1 Work.Opening [] (reply.Joined 2) o))
        first-goes),
  ),
)

-- and goes, behind which nothing is left in any pool
abbrev p3 : Progress
p3 = stays p2 Work.Opening [] (Cursor.Evicts 2 0) Pull.Idle

empties2 : Tells (core S.Up S.Restarting (kept true)) (core S.Up S.Restarting (kept false)) p2 (helps (event.Flush 2 0) reply.Did) p3
empties2 = (refl, (refl, refl, refl, refl))

abbrev p4 : Progress
p4 = done p3 Work.Opening [] reply.Did

empties3 : Tells (core S.Up S.Restarting (kept false)) (core S.Up S.Restarting none) p3 (helps (event.Evict 2 0) reply.Did) p4
empties3 = (
  refl,
  (
    refl,
    refl,
    refl,
    sym (ap (λ (o : Option Cursor). marked Work.Opening reply.Did (followed p3 Work.Opening [] reply.Did o))
        (idle-empties (core S.Up S.Restarting none) (λ j. inr (λ q. refl)) 2 1)),
  ),
)

all-emptied : IsTold (state S.Up S.Restarting) p4
all-emptied = (refl, refl)

-- a page that isn't changed goes at once; one of an instance that is up stays
goes-at-once : leaver (core S.Up S.Restarting (kept false)) 2 0 ≡ Some (Cursor.Evicts 2 0)
goes-at-once =
    let w = core S.Up S.Restarting (kept false) in
    ap (leaver-by w 2 false) (copy-here w.pages 2 0 (omega arith) refl)

up-keeps : leaver (core S.Up S.Up (kept true)) 2 0 ≡ None
up-keeps = refl

-- ---- a pull in vain, and a fault

-- where the ask finds no frame to be had, the step is refused once more, and the opening goes on
abbrev vain : Progress
vain = stays o2 Work.Opening [] (Cursor.Steps 1 None) Pull.Ends

goes-on : Tells (core (S.Recovering 1) S.Clean none) (core (S.Recovering 1) S.Clean none) vain
    (helps (event.RecoverStep 1) (reply.Refused (R.NeedPage places.Free))) o5
goes-on = (refl, (refl, refl, refl, inr (inl refl, refl)))

-- where a device fails in the ask, nothing is due behind it
abbrev failed : Progress
failed = record vain { failed = true }

fails : Tells (core (S.Recovering 1) S.Clean none) (core S.Down S.Clean none) o2 (helps (event.Ask 1 0 modes.Excl) (reply.Refused R.Failed)) failed
fails = (refl, (refl, refl, refl, refl))

nothing-due : (then : Progress) → Tells (core S.Down S.Clean none) (core (S.Recovering 1) S.Clean none) failed
    (helps (event.RecoverBegin 1 1) reply.Did) then → ⊥
nothing-due then tells = let is = tells.0 in absurd (cc)
