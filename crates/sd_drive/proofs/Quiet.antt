-- Recoveries of an opening, event by event: who uses a page is active, and a page that is pulled comes, unless a device fails. It serves the
-- goals of `openings` in laws.rt.
use Rattle.std.proofs.Common.{◌≡◌, ◌≢◌, ◌⊎◌, inl, inr, ⊎_elim, ℕ, ◌≤◌, Bool, true, false, cond, eqb, List, [], ◌∷◌, refl, sym, ap, ◌∙◌, subst, eq-eqb}
use Rattle.std.specs.Prelude.{is_some, ◌&&◌}
use Rattle.std.proofs.lemmas.Bool.{cases_eq}
use Rattle.sd_base.specs.declared.place.Mode.{Mode}
use Rattle.sd_base.specs.declared.place.Mode.TheVariants as modes
use Rattle.sd_base.specs.declared.place.Place.{Place}
use Rattle.sd_base.specs.declared.place.Status.TheVariants as S
use Rattle.sd_base.specs.declared.refusal.Refusal.{Refusal}
use Rattle.sd_base.specs.declared.refusal.Refusal.TheVariants as R
use Rattle.sd_model.specs.declared.cause.Cause.{Cause}
use Rattle.sd_model.specs.declared.event.Event.{Event}
use Rattle.sd_model.specs.declared.event.Event.TheVariants as event
use Rattle.sd_model.specs.declared.event.Reply.{Reply}
use Rattle.sd_model.specs.declared.event.Reply.TheVariants as reply
use Rattle.sd_model.specs.Applies.{Says}
use Rattle.sd_model.specs.Causes.{has_cause, order}
use Rattle.sd_model.specs.Refusing.{Names}
use Rattle.sd_model.specs.Replies.{is_failed}
use Rattle.sd_model.specs.State.{State}
use Rattle.sd_model.specs.Step.{Step}
use Rattle.sd_model.proofs.Placed.{each_inst}
use Rattle.sd_pagelock.specs.declared.queue.Ask.{Ask}
use Rattle.sd_pagelock.specs.Asks.{is_open_ask, oldest, open_asks, queued}
use Rattle.sd_pagelock.specs.Places.{PageEntry, changed, holds, is_lost, owns, passes, receives, uses}
use Rattle.sd_pagelock.specs.Rows.{dirtied, fallen, may_evict, taken, written}
use Rattle.sd_pagelock.proofs.Uses.{passes-written}
use Rattle.sd_world.specs.Pages.{Pages, asked, given, had, is_duty, page_placed, renumbered}
use Rattle.sd_world.specs.PageCauses.{PagesAgree}
use Rattle.sd_world.specs.Answers.{Gets, Gives, IsRefused, Moves, NoneLost, Queues, Rebuilds, Steps, Undoes}
use Rattle.sd_world.proofs.Causes.{none-says}
use Rattle.sd_world.proofs.Gains.{asker_other}
use Rattle.sd_drive.specs.Pulls.{IsDue, Pull, helped}
use Rattle.sd_drive.proofs.Singles.{AskAlone, Gains, Single, Works, alone-filter, alone-queued, asked-holder, clean-goes, dirtied-gains, evicted-gains, evicted-rests, freed-gains, given-gains, had-gains, had-rests, holder-rests, holds-there, holds-uses, oldest-alone, owns-rests, owns-uses, queued-found, receives-uses, taken-gains, written-gains, written-goes, yes_no}

none_left : {A : Type 0} → false ≡ true → A
none_left e = absurd (cc)

isnt : (b : Bool) → (b ≡ true → ⊥) → b ≡ false
isnt true h = absurd (h refl)
isnt false h = refl

is_so : (b : Bool) → (b ≡ false → ⊥) → b ≡ true
is_so true h = refl
is_so false h = absurd (h refl)

-- The complex is open; no page is shared; and whoever uses one, or asks for one, is active.
pub record Quiet (m : State) (w : Pages) : Type 0 where
  pub stands : (m.inst 1).status ≡ S.Closed → ⊥
  pub single : (p : ℕ) → Single (w.entry p)
  pub used : (p k : ℕ) → uses (w.entry p) k ≡ true → Works m k
  pub asks : (p : ℕ) → AskAlone m (w.asks p)

-- no page is on its way, and none but this one
abbrev pub AllRest : Pages → Type 0
AllRest w = (q : ℕ) → passes (w.entry q) ≡ false

abbrev pub RestBut : ℕ → Pages → Type 0
RestBut p w = (q : ℕ) → p ≢ q → passes (w.entry q) ≡ false

-- page p is pulled: no page is lost, and no other on its way
abbrev pub IsPulled : ℕ → Pages → Type 0
IsPulled p w = NoneLost w × RestBut p w

-- How far the page is that i needs for its recovery: what is due next is not refused, and no pull is in vain.
abbrev pub Comes : State → Pages → ℕ → Pull → Type 0
Comes m w i Pull.Idle = AllRest w
Comes m w i (Pull.Asks p) = IsPulled p w
Comes m w i (Pull.Gives p of) =
    IsPulled p w × (holds (w.entry p) of ≡ true) × (passes (w.entry p) ≡ false) × (is_some (oldest of (w.asks p)) ≡ true)
Comes m w i (Pull.Takes p to) = IsPulled p w × (receives (w.entry p) to ≡ true)
Comes m w i (Pull.Room p at) = IsPulled p w × Works m at
Comes m w i (Pull.Evicts p at v) =
    IsPulled p w × Works m at × (holds (w.entry v) at ≡ true) × (may_evict at (w.entry v) ≡ true)
Comes m w i Pull.Ends = ⊥

-- ---- what a refusal names

pub fault-is : (n : Refusal) → Names Cause.Rig n → n ≡ R.Failed
fault-is R.Failed h = refl
fault-is n h = none_left h

moving-is : (n : Refusal) → Names Cause.Moving n → (to : ℕ) × (n ≡ R.MovingTo to)
moving-is (R.MovingTo to) h = (to, refl)
moving-is n h = none_left h

frame-is : (n : Refusal) → Names Cause.Frame n → n ≡ R.PoolFull
frame-is R.PoolFull h = refl
frame-is n h = none_left h

away-is : (n : Refusal) → Names Cause.Away n → (place : Place) × (n ≡ R.NeedPage place)
away-is (R.NeedPage place) h = (place, refl)
away-is n h = none_left h

fine-not : {A : Type 0} (n : Refusal) → is_failed (reply.Refused n) ≡ false → Names Cause.Rig n → A
fine-not n fine h = yes_no (ap (λ (x : Refusal). is_failed (reply.Refused x)) (fault-is n h)) fine

-- ---- why an event that is due may be refused

module _ (m : State) (w : Pages) (q : Quiet m w) where
  module _ (n : Refusal) (m' : State) (w' : Pages) where
    -- the page is on its way, or the pool is full
    ask-why : (i p : ℕ) → Works m i → is_lost (w.entry p) ≡ false → is_failed (reply.Refused n) ≡ false
        → IsRefused m w (event.Ask i p modes.Excl) n m' w' → ((to : ℕ) × (n ≡ R.MovingTo to)) ⊎ (n ≡ R.PoolFull)
    ask-why i p active there fine h = go h.cause h.first.0 h.first.2 h.says h.names
      where
        go : (c : Cause) → has_cause c (order (event.Ask i p modes.Excl)) ≡ true → Says m (event.Ask i p modes.Excl) c → PagesAgree m w (event.Ask i p modes.Excl) c → Names c n
            → ((to : ℕ) × (n ≡ R.MovingTo to)) ⊎ (n ≡ R.PoolFull)
        go Cause.Shut in_ says pages names = absurd (q.stands says)
        go Cause.Down in_ says pages names = absurd (says active.0)
        go Cause.Lost in_ says pages names = yes_no (pages refl) there
        go Cause.Moving in_ says pages names = inl (moving-is n names)
        go Cause.Frame in_ says pages names = inr (frame-is n names)
        go Cause.Rig in_ says pages names = fine-not n fine names
        go c in_ says pages names = none_left in_

    give-why : (i p : ℕ) → Works m i → is_lost (w.entry p) ≡ false → passes (w.entry p) ≡ false
        → holds (w.entry p) i ≡ true → is_some (oldest i (w.asks p)) ≡ true → is_failed (reply.Refused n) ≡ false
        → IsRefused m w (event.Give i p) n m' w' → ⊥
    give-why i p active there rests has asked_ fine h = go h.cause h.first.0 h.first.2 h.says h.names
      where
        go : (c : Cause) → has_cause c (order (event.Give i p)) ≡ true → Says m (event.Give i p) c → PagesAgree m w (event.Give i p) c → Names c n → ⊥
        go Cause.Shut in_ says pages names = q.stands says
        go Cause.Down in_ says pages names = says active.0
        go Cause.Lost in_ says pages names = yes_no (pages refl) there
        go Cause.Moving in_ says pages names = yes_no (pages refl) rests
        go Cause.Away in_ says pages names = yes_no has (pages refl)
        go Cause.Asks in_ says pages names = yes_no asked_ (ap is_some (pages refl))
        go Cause.Rig in_ says pages names = fine-not n fine names
        go c in_ says pages names = none_left in_

    -- the pool is full
    take-why : (i p : ℕ) → Works m i → is_lost (w.entry p) ≡ false → receives (w.entry p) i ≡ true
        → IsRefused m w (event.Take i p) n m' w' → n ≡ R.PoolFull
    take-why i p active there comes h = go h.cause h.first.0 h.first.2 h.says h.names
      where
        go : (c : Cause) → has_cause c (order (event.Take i p)) ≡ true → Says m (event.Take i p) c → PagesAgree m w (event.Take i p) c → Names c n → n ≡ R.PoolFull
        go Cause.Shut in_ says pages names = absurd (q.stands says)
        go Cause.Down in_ says pages names = absurd (says active.0)
        go Cause.Lost in_ says pages names = yes_no (pages refl) there
        go Cause.Away in_ says pages names = yes_no comes (pages refl)
        go Cause.Frame in_ says pages names = frame-is n names
        go c in_ says pages names = none_left in_

    pub evict-why : (i v : ℕ) → Works m i → holds (w.entry v) i ≡ true → may_evict i (w.entry v) ≡ true
        → IsRefused m w (event.Evict i v) n m' w' → ⊥
    evict-why i v active has may h = go h.cause h.first.0 h.first.2 h.says
      where
        go : (c : Cause) → has_cause c (order (event.Evict i v)) ≡ true → Says m (event.Evict i v) c → PagesAgree m w (event.Evict i v) c → ⊥
        go Cause.Shut in_ says pages = q.stands says
        go Cause.Down in_ says pages = says active.0
        go Cause.Lost in_ says pages = yes_no (pages refl) (holds-there i (w.entry v) has)
        go Cause.Away in_ says pages = yes_no has (pages refl)
        go Cause.Dirty in_ says pages = yes_no may (pages refl)
        go c in_ says pages = none_left in_

    pub flush-why : (i v : ℕ) → Works m i → holds (w.entry v) i ≡ true → is_duty i (w.entry v) ≡ true
        → is_failed (reply.Refused n) ≡ false → IsRefused m w (event.Flush i v) n m' w' → ⊥
    flush-why i v active has duty fine h = go h.cause h.first.0 h.first.2 h.says h.names
      where
        go : (c : Cause) → has_cause c (order (event.Flush i v)) ≡ true → Says m (event.Flush i v) c → PagesAgree m w (event.Flush i v) c → Names c n → ⊥
        go Cause.Shut in_ says pages names = q.stands says
        go Cause.Down in_ says pages names = says active.0
        go Cause.Lost in_ says pages names = yes_no (pages refl) (holds-there i (w.entry v) has)
        go Cause.Away in_ says pages names = yes_no duty (pages refl)
        go Cause.Rig in_ says pages names = fine-not n fine names
        go c in_ says pages names = none_left in_

    -- its recovery begins where it is down, by itself
    pub begin-why : (i : ℕ) → (m.inst i).status ≡ S.Down → IsRefused m w (event.RecoverBegin i i) n m' w' → ⊥
    begin-why i down h = go h.cause h.first.0 h.first.2
      where
        go : (c : Cause) → has_cause c (order (event.RecoverBegin i i)) ≡ true → Says m (event.RecoverBegin i i) c → ⊥
        go Cause.Shut in_ says = q.stands says
        go Cause.NotDown in_ says = says down
        go Cause.Down in_ says = says (inl refl)
        go c in_ says = none_left in_

    -- a step of it wants a page, or a device failed
    pub step-why : (i by : ℕ) → (m.inst i).status ≡ S.Recovering by → IsRefused m w (event.RecoverStep i) n m' w'
        → (n ≡ R.Failed) ⊎ ((place : Place) × (n ≡ R.NeedPage place))
    step-why i by runs h = go h.cause h.first.0 h.first.2 h.names
      where
        go : (c : Cause) → has_cause c (order (event.RecoverStep i)) ≡ true → Says m (event.RecoverStep i) c → Names c n → (n ≡ R.Failed) ⊎ ((place : Place) × (n ≡ R.NeedPage place))
        go Cause.Shut in_ says names = absurd (q.stands says)
        go Cause.NotRecovered in_ says names = absurd (says (by, runs))
        go Cause.Away in_ says names = inr (away-is n names)
        go Cause.Rig in_ says names = inl (fault-is n names)
        go c in_ says names = none_left in_

-- ---- what an event leaves

-- a page is at another place now
module _ (m : State) (w : Pages) (p k : ℕ) (to : PageEntry) (g : Gains k (w.entry p) to) where
  pub placed-quiet : Works m k → Quiet m w → Quiet m (page_placed p to w)
  placed-quiet active q = record {
    stands = q.stands;
    single = each_inst p (λ (x : ℕ) (e : PageEntry). Single e) to w.entry g.single (λ x ne. q.single x);
    used = each_inst p (λ (x : ℕ) (e : PageEntry). (j : ℕ) → uses e j ≡ true → Works m j) to w.entry
        (λ j u. ⊎_elim (λ is. subst (λ (x : ℕ). Works m x) is active) (λ before. q.used p j before) (g.used j u))
        (λ x ne. q.used x);
    asks = each_inst p (λ (x : ℕ) (l : List Ask). AskAlone m l) (open_asks to (w.asks p)) w.asks
        (alone-filter m (is_open_ask to) (w.asks p) (q.asks p)) (λ x ne. q.asks x);
  }

  pub placed-there : NoneLost w → NoneLost (page_placed p to w)
  placed-there none = each_inst p (λ (x : ℕ) (e : PageEntry). is_lost e ≡ false) to w.entry
      (isnt (is_lost to) (λ lost. yes_no (g.loses lost) (none p))) (λ x ne. none x)

  -- another page still rests
  placed-others : (x : ℕ) → RestBut x w → passes to ≡ false → RestBut x (page_placed p to w)
  placed-others x others rests = each_inst p (λ (y : ℕ) (e : PageEntry). x ≢ y → passes e ≡ false) to w.entry (λ ne. rests) (λ y ne. others y)

  -- and so do all, once this one does
  placed-rests : RestBut p w → passes to ≡ false → AllRest (page_placed p to w)
  placed-rests others rests = each_inst p (λ (y : ℕ) (e : PageEntry). passes e ≡ false) to w.entry rests (λ y ne. others y ne)

  -- only this one may be on its way
  placed-moves : RestBut p w → RestBut p (page_placed p to w)
  placed-moves others = each_inst p (λ (y : ℕ) (e : PageEntry). p ≢ y → passes e ≡ false) to w.entry (λ ne. absurd (ne refl)) (λ y ne. others y)

pub rests-but : (p : ℕ) (w : Pages) → AllRest w → RestBut p w
rests-but p w rests q ne = rests q

pub placed-at : (p : ℕ) (to : PageEntry) (w : Pages) → (page_placed p to w).entry p ≡ to
placed-at p to w = ap (λ (b : Bool). cond {A = PageEntry} b to (w.entry p)) (eq-eqb p p refl)

asked-quiet : (m : State) (w : Pages) (i p : ℕ) → Works m i → Quiet m w → Quiet m (asked p i modes.Excl w)
asked-quiet m w i p active q = record {
  stands = q.stands;
  single = q.single;
  used = q.used;
  asks = each_inst p (λ (x : ℕ) (l : List Ask). AskAlone m l) (queued i modes.Excl (w.asks p)) w.asks
      (alone-queued m i (w.asks p) active (q.asks p)) (λ x ne. q.asks x);
}

-- instances stand otherwise, and whoever was active is
pub stood-quiet : (m m' : State) (w : Pages) → ((m'.inst 1).status ≡ S.Closed → ⊥)
    → ((k : ℕ) → Works m k → Works m' k) → Quiet m w → Quiet m' w
stood-quiet m m' w stands keeps q = record {
  stands = stands;
  single = q.single;
  used = λ p k u. keeps k (q.used p k u);
  asks = λ p. asking (w.asks p) (q.asks p);
}
  where
    asking : (asks : List Ask) → AskAlone m asks → AskAlone m' asks
    asking [] h = tt
    asking (x ∷ xs) h = ((h.0.0, keeps x.by h.0.1), asking xs h.1)

-- ---- a step of a recovery

-- only LSNs of pages are others
numbered-quiet : (m : State) (number : ℕ → ℕ) (w : Pages) → Quiet m w → Quiet m (renumbered number w)
numbered-quiet m number w q = record { stands = q.stands; single = q.single; used = q.used; asks = q.asks }

-- whoever is active has what it has, and all pages rest
abbrev pub Rests : State → Pages → Type 0
Rests m w = Quiet m w × AllRest w

module _ (m : State) (w : Pages) (r : Rests m w) where
  pub placed-both : (p k : ℕ) (to : PageEntry) → Gains k (w.entry p) to → Works m k → passes to ≡ false → Rests m (page_placed p to w)
  placed-both p k to g active rests =
      (placed-quiet m w p k to g active r.0, placed-rests m w p k to g (rests-but p w r.1) rests)

  undoes-quiet : (i : ℕ) (w' : Pages) → Undoes m i w w' → Rests m w'
  undoes-quiet i w' (Undoes.none is) = subst (Rests m) (sym is) r
  undoes-quiet i w' (Undoes.one p by may is) = subst (Rests m) (sym is)
      (placed-both p by (dirtied by) (dirtied-gains by (w.entry p)) (r.0.used p by (owns-uses by (w.entry p) may.1)) refl)

  rebuilds-quiet : (i by : ℕ) (w' : Pages) → Works m by → Rebuilds m i w w' → Rests m w'
  rebuilds-quiet i by w' active (Rebuilds.undoes h) = undoes-quiet i w' h
  rebuilds-quiet i by w' active (Rebuilds.frees p lowest is) = subst (Rests m) (sym is)
      (placed-both p by PageEntry.Free (freed-gains by (w.entry p)) active refl)

  -- a step of a recovery was done
  pub steps-quiet : (i by : ℕ) (w' : Pages) → Works m by → Steps m i w w' → Rests m w'
  steps-quiet i by w' active h =
      let mid = rebuilds-quiet i by h.0 active h.2 in subst (Rests m) (sym h.3) (numbered-quiet m h.1 h.0 mid.0, mid.1)

  -- the last one
  pub ended-quiet : (number : ℕ → ℕ) (w' : Pages) → w' ≡ renumbered number w → Rests m w'
  ended-quiet number w' is = subst (Rests m) (sym is) (numbered-quiet m number w r.0, r.1)

-- ---- the page comes nearer, event by event

-- behind the reply: the state is as before, so are recoveries, and the pull goes on
abbrev pub Nearer : State → State → Pages → ℕ → Pull → Type 0
Nearer m m' w' i next = (m' ≡ m) × Quiet m w' × Comes m w' i next

module _ (m : State) (w : Pages) (q : Quiet m w) (m' : State) (w' : Pages) (i : ℕ) where
  -- it is refused, and nothing has changed
  module _ (same : m' ≡ m) (next : Pull) (comes : Comes m w i next) where
    refused-near : w' ≡ w → Nearer m m' w' i next
    refused-near is = (same, subst (Quiet m) (sym is) q, subst (λ (x : Pages). Comes m x i next) (sym is) comes)

  -- a page is at another place
  near : m' ≡ m → (v : Pages) → w' ≡ v → (next : Pull) → Quiet m v → Comes m v i next → Nearer m m' w' i next
  near same v is next quiet comes = (same, subst (Quiet m) (sym is) quiet, subst (λ (x : Pages). Comes m x i next) (sym is) comes)

  gets-near : (p : ℕ) → m' ≡ m → Works m i → RestBut p w → Gets i p modes.Excl w w' → Nearer m m' w' i Pull.Idle
  gets-near p same active others h = go (owns (w.entry p) i) refl h.1
    where
      at-rest : owns (w.entry p) i ≡ true → AllRest w
      at-rest has x = ⊎_elim (λ is. ap (λ (y : ℕ). passes (w.entry y)) (sym is) ∙ owns-rests i (w.entry p) has) (others x) (cases_eq p x)

      go : (b : Bool) → owns (w.entry p) i ≡ b → w' ≡ cond {A = Pages} b w (page_placed p (had i modes.Excl (w.entry p)) w)
          → Nearer m m' w' i Pull.Idle
      go true has is = near same w is Pull.Idle q (at-rest has)
      go false has is =
          let g = had-gains i (w.entry p) (q.single p) in
          near same (page_placed p (had i modes.Excl (w.entry p)) w) is Pull.Idle
          (placed-quiet m w p i (had i modes.Excl (w.entry p)) g active q)
          (placed-rests m w p i (had i modes.Excl (w.entry p)) g others (had-rests i (w.entry p) (q.single p) h.0))

  queues-near : (p of : ℕ) → m' ≡ m → Works m i → IsPulled p w → passes (w.entry p) ≡ false
      → Queues i p modes.Excl of w w' → Nearer m m' w' i (Pull.Gives p of)
  queues-near p of same active pulled rests h =
      let to = asked-holder i (w.entry p) (q.single p) h.0 rests (pulled.0 p) in
      near same (asked p i modes.Excl w) h.2 (Pull.Gives p of) (asked-quiet m w i p active q) (
        pulled,
        ap (λ (k : ℕ). holds (w.entry p) k) h.1 ∙ to.0,
        rests,
        ap (λ (b : Bool). is_some (oldest of (cond {A = List Ask} b (queued i modes.Excl (w.asks p)) (w.asks p)))) (eq-eqb p p refl)
            ∙ queued-found of i (w.asks p) (ap (λ (k : ℕ). eqb i k) h.1 ∙ to.1),
      )

  gives-near : (p of to : ℕ) → m' ≡ m → IsPulled p w → holds (w.entry p) of ≡ true → Gives of p to w w' → Nearer m m' w' i (Pull.Asks p)
  gives-near p of to same pulled has h =
      let o = oldest-alone m of (w.asks p) to h.0 (q.asks p) h.1 in
      let next : PageEntry = given of (to, modes.Excl) (w.entry p) in
      let g : Gains to (w.entry p) next = given-gains of to (w.entry p) (q.single p) has (asker_other of (w.asks p) to h.0 h.1) in
      near same (page_placed p next w) (h.2 ∙ ap (λ (mode : Mode). page_placed p (given of (to, mode) (w.entry p)) w) o.0) (Pull.Asks p)
      (placed-quiet m w p to next g o.1 q) (placed-there m w p to next g pulled.0, placed-moves m w p to next g pulled.1)

  takes-near : (p to : ℕ) → m' ≡ m → IsPulled p w → receives (w.entry p) to ≡ true → w' ≡ page_placed p (taken (w.entry p)) w
      → Nearer m m' w' i (Pull.Asks p)
  takes-near p to same pulled comes is =
      let g : Gains to (w.entry p) (taken (w.entry p)) = taken-gains to (w.entry p) (q.single p) comes in
      near same (page_placed p (taken (w.entry p)) w) is (Pull.Asks p)
      (placed-quiet m w p to (taken (w.entry p)) g (q.used p to (receives-uses to (w.entry p) comes)) q)
      (placed-there m w p to (taken (w.entry p)) g pulled.0, placed-moves m w p to (taken (w.entry p)) g pulled.1)

  module _ (p at v : ℕ) (same : m' ≡ m) (pulled : IsPulled p w) (active : Works m at) (has : holds (w.entry v) at ≡ true) where
    evicts-near : may_evict at (w.entry v) ≡ true → w' ≡ page_placed v (fallen at (w.entry v)) w → Nearer m m' w' i (Pull.Asks p)
    evicts-near may is =
        let g : Gains at (w.entry v) (fallen at (w.entry v)) = evicted-gains at (w.entry v) (q.single v) may in
        near same (page_placed v (fallen at (w.entry v)) w) is (Pull.Asks p)
        (placed-quiet m w v at (fallen at (w.entry v)) g active q) (
          placed-there m w v at (fallen at (w.entry v)) g pulled.0,
          placed-others m w v at (fallen at (w.entry v)) g p pulled.1 (evicted-rests at (w.entry v) (q.single v) may).0,
        )

    writes-near : w' ≡ page_placed v (written (w.entry v)) w → Nearer m m' w' i (Pull.Evicts p at v)
    writes-near is =
        let g : Gains at (w.entry v) (written (w.entry v)) = written-gains at (w.entry v) (q.single v) in
        let goes = written-goes at (w.entry v) (q.single v) has in
        let there : (page_placed v (written (w.entry v)) w).entry v ≡ written (w.entry v) = placed-at v (written (w.entry v)) w in
        near same (page_placed v (written (w.entry v)) w) is (Pull.Evicts p at v) (placed-quiet m w v at (written (w.entry v)) g active q) (
          (
            placed-there m w v at (written (w.entry v)) g pulled.0,
            placed-others m w v at (written (w.entry v)) g p pulled.1 (passes-written (w.entry v) ∙ holder-rests at (w.entry v) (q.single v) has),
          ),
          active,
          ap (λ (e : PageEntry). holds e at) there ∙ goes.0,
          ap (λ (e : PageEntry). may_evict at e) there ∙ goes.1,
        )

  -- ---- reply by reply

  ask-near : (p : ℕ) (r : Reply) → Works m i → IsPulled p w → is_failed r ≡ false → m' ≡ m
      → Step m (event.Ask i p modes.Excl) r m' → Moves m w (event.Ask i p modes.Excl) r m' w'
      → Nearer m m' w' i (helped (Pull.Asks p) (event.Ask i p modes.Excl) r)
  ask-near p reply.Have active pulled fine same s h = gets-near p same active pulled.1 h.1
  ask-near p (reply.Asked of) active pulled fine same s h = queues-near p of same active pulled
      (isnt (passes (w.entry p)) (none-says m w (event.Ask i p modes.Excl) (order (event.Ask i p modes.Excl)) Cause.Moving h.0 refl refl)) h.1
  ask-near p (reply.Refused n) active pulled fine same s h = ⊎_elim
      (λ moving. subst (λ (x : Refusal). IsRefused m w (event.Ask i p modes.Excl) x m' w' → Nearer m m' w' i (helped (Pull.Asks p) (event.Ask i p modes.Excl) (reply.Refused x))) (sym moving.1)
      (λ k. refused-near same (Pull.Takes p moving.0) (pulled, k.place) k.leaves) h)
      (λ full. subst (λ (x : Refusal). IsRefused m w (event.Ask i p modes.Excl) x m' w' → Nearer m m' w' i (helped (Pull.Asks p) (event.Ask i p modes.Excl) (reply.Refused x))) (sym full)
      (λ k. refused-near same (Pull.Room p i) (pulled, active) k.leaves) h)
      (ask-why m w q n m' w' i p active (pulled.0 p) fine h)
  ask-near p r active pulled fine same s h = absurd s.1

  give-near : (p of : ℕ) (r : Reply) → IsPulled p w → holds (w.entry p) of ≡ true → passes (w.entry p) ≡ false
      → is_some (oldest of (w.asks p)) ≡ true → is_failed r ≡ false → m' ≡ m → Step m (event.Give of p) r m' → Moves m w (event.Give of p) r m' w'
      → Nearer m m' w' i (helped (Pull.Gives p of) (event.Give of p) r)
  give-near p of (reply.Gave to) pulled has rests asked_ fine same s h = gives-near p of to same pulled has h.1
  give-near p of (reply.Refused n) pulled has rests asked_ fine same s h =
      absurd (give-why m w q n m' w' of p (q.used p of (holds-uses of (w.entry p) has)) (pulled.0 p) rests has asked_ fine h)
  give-near p of r pulled has rests asked_ fine same s h = absurd s.1

  take-near : (p to : ℕ) (r : Reply) → IsPulled p w → receives (w.entry p) to ≡ true → m' ≡ m
      → Step m (event.Take to p) r m' → Moves m w (event.Take to p) r m' w' → Nearer m m' w' i (helped (Pull.Takes p to) (event.Take to p) r)
  take-near p to reply.Did pulled comes same s h = takes-near p to same pulled comes h.1
  take-near p to (reply.Refused n) pulled comes same s h =
      let active = q.used p to (receives-uses to (w.entry p) comes) in
      subst (λ (x : Refusal). IsRefused m w (event.Take to p) x m' w' → Nearer m m' w' i (helped (Pull.Takes p to) (event.Take to p) (reply.Refused x)))
      (sym (take-why m w q n m' w' to p active (pulled.0 p) comes h)) (λ k. refused-near same (Pull.Room p to) (pulled, active) k.leaves) h
  take-near p to r pulled comes same s h = absurd s.1

  at-pull : (pull : Pull) (e f : Event) (r : Reply) → e ≡ f → Step m e r m' → Moves m w e r m' w'
      → (Step m f r m' → Moves m w f r m' w' → Nearer m m' w' i (helped pull f r)) → Nearer m m' w' i (helped pull e r)
  at-pull pull e f r is s h go = subst (λ (x : Event). Step m x r m' → Moves m w x r m' w' → Nearer m m' w' i (helped pull x r)) (sym is) go s h

  module _ (p at v : ℕ) (pulled : IsPulled p w) (active : Works m at) (has : holds (w.entry v) at ≡ true) where
    flush-near : (r : Reply) → is_duty at (w.entry v) ≡ true → is_failed r ≡ false → m' ≡ m
        → Step m (event.Flush at v) r m' → Moves m w (event.Flush at v) r m' w' → Nearer m m' w' i (helped (Pull.Room p at) (event.Flush at v) r)
    flush-near reply.Did duty fine same s h = writes-near p at v same pulled active has h.1
    flush-near (reply.Refused n) duty fine same s h = absurd (flush-why m w q n m' w' at v active has duty fine h)
    flush-near r duty fine same s h = absurd s.1

    evict-near : (r : Reply) → may_evict at (w.entry v) ≡ true → m' ≡ m → Step m (event.Evict at v) r m' → Moves m w (event.Evict at v) r m' w'
        → Nearer m m' w' i (helped (Pull.Room p at) (event.Evict at v) r)
    evict-near reply.Did may same s h = evicts-near p at v same pulled active has may h.1
    evict-near (reply.Refused n) may same s h = absurd (evict-why m w q n m' w' at v active has may h)
    evict-near r may same s h = absurd s.1

    goes-near : (r : Reply) → may_evict at (w.entry v) ≡ true → m' ≡ m → Step m (event.Evict at v) r m' → Moves m w (event.Evict at v) r m' w'
        → Nearer m m' w' i (helped (Pull.Evicts p at v) (event.Evict at v) r)
    goes-near reply.Did may same s h = evicts-near p at v same pulled active has may h.1
    goes-near (reply.Refused n) may same s h = absurd (evict-why m w q n m' w' at v active has may h)
    goes-near r may same s h = absurd s.1

    second : (b c : Bool) → (b && c) ≡ true → c ≡ true
    second true c h = h
    second false c h = none_left h

    room-near : (b : Bool) (e : Event) (r : Reply) → (changed (w.entry v) && is_duty at (w.entry v)) ≡ b
        → e ≡ cond {A = Event} b (event.Flush at v) (event.Evict at v) → is_failed r ≡ false → m' ≡ m → Step m e r m' → Moves m w e r m' w'
        → Nearer m m' w' i (helped (Pull.Room p at) e r)
    room-near true e r duty is fine same s h = at-pull (Pull.Room p at) e (event.Flush at v) r is s h
        (λ s' h'. flush-near r (second (changed (w.entry v)) (is_duty at (w.entry v)) duty) fine same s' h')
    room-near false e r clean is fine same s h = at-pull (Pull.Room p at) e (event.Evict at v) r is s h
        (λ s' h'. evict-near r (clean-goes at (w.entry v) (q.single v) has clean) same s' h')

  module _ (runs : (m.inst i).status ≡ S.Recovering i) (low : 1 ≤ i) (high : i ≤ 8) where
    active-now : Works m i
    active-now = (inr (inr runs), low, high)

    -- Whatever event is due, it is done, or the pull finds another way.
    pub helps-near : (pull : Pull) (e : Event) (r : Reply) → Comes m w i pull → IsDue w (record { inst = i; mode = modes.Excl }) pull e
        → is_failed r ≡ false → m' ≡ m → Step m e r m' → Moves m w e r m' w' → Nearer m m' w' i (helped pull e r)
    helps-near Pull.Idle e r comes due fine same s h = absurd due
    helps-near Pull.Ends e r comes due fine same s h = absurd due
    helps-near (Pull.Asks p) e r comes due fine same s h = at-pull (Pull.Asks p) e (event.Ask i p modes.Excl) r due s h
        (λ s' h'. ask-near p r active-now comes fine same s' h')
    helps-near (Pull.Gives p of) e r comes due fine same s h = at-pull (Pull.Gives p of) e (event.Give of p) r due s h
        (λ s' h'. give-near p of r comes.0 comes.1 comes.2 comes.3 fine same s' h')
    helps-near (Pull.Takes p to) e r comes due fine same s h = at-pull (Pull.Takes p to) e (event.Take to p) r due s h
        (λ s' h'. take-near p to r comes.0 comes.1 same s' h')
    helps-near (Pull.Room p at) e r comes due fine same s h =
        room-near p at due.0 comes.0 comes.1 due.1 (changed (w.entry due.0) && is_duty at (w.entry due.0)) e r refl due.2 fine same s h
    helps-near (Pull.Evicts p at v) e r comes due fine same s h = at-pull (Pull.Evicts p at v) e (event.Evict at v) r due s h
        (λ s' h'. goes-near p at v comes.0 comes.1 comes.2 r comes.3 same s' h')
