-- A pull leaves recoveries under way, and each round of a recovery lowers what is left of it. It serves the goals of pull.rt and
-- recovery.rt.
use Rattle.std.proofs.Common.{◌≡◌, ⊎_elim, inl, inr, ℕ, ◌<◌, ◌≤◌, Bool, true, false, not, cond, refl, sym, ap, ◌∙◌, subst, arith}
use Rattle.std.specs.Prelude.{Option, None, Some, Result, Ok, Err, OnOk}
use Rattle.sd_base.specs.declared.place.Mode.TheVariants as modes
use Rattle.sd_base.specs.declared.place.Status.TheVariants as S
use Rattle.sd_base.specs.declared.refusal.Memory.{Memory}
use Rattle.sd_model.specs.declared.event.Event.{Event}
use Rattle.sd_model.specs.declared.event.Event.TheVariants as event
use Rattle.sd_model.specs.declared.event.Reply.{Reply}
use Rattle.sd_model.specs.declared.event.Reply.TheVariants as reply
use Rattle.sd_model.specs.Replies.{wants_page}
use Rattle.sd_model.specs.Step.{Step}
use Rattle.sd_pagelock.specs.Places.{PageEntry, owns, seen}
use Rattle.sd_state.specs.Complexes.{parts}
use Rattle.sd_state.specs.Parts.{Parts, is_loose}
use Rattle.sd_world.specs.Serving.{Core, Telling}
use Rattle.sd_fits.specs.Resting.{one_if}
use Rattle.sd_fits.specs.declared.body.Body.{Body}
use Rattle.sd_fits.proofs.Resting.{most-one, rests-same, rests-then}
use Rattle.sd_recover.specs.Work.{has_next, rounds_left}
use Rattle.sd_recover.proofs.Work.{awaits-none, fell-work, page-came, pull-nearer, rests-work, step-nearer}
use Rattle.sd_hall.specs.Bodies.{HasWorkedIn, IsWorked, RestsIn, WaitsIn, fits_in}
use Rattle.sd_hall.specs.declared.hall.Hall.{Hall}
use Rattle.sd_drive.specs.declared.recovery.Next.{Next}
use Rattle.sd_drive.specs.declared.recovery.Next.TheVariants as nexts
use Rattle.sd_drive.specs.declared.recovery.Outcome.TheVariants as outcomes
use Rattle.sd_drive.specs.Bodies.{entry_in}
use Rattle.sd_drive.specs.Driving.{goes_further, one_less}
use Rattle.sd_drive.specs.Driven.{PulledIn, PullsAll}
use Rattle.sd_drive.specs.Pulls.{Pull}
use Rattle.sd_drive.specs.Recoveries.{ending_as}
use Rattle.sd_drive.specs.Resting.{IsHelp, LacksNextIn, Lowers, RestsOpen, UndoesNext, UndoesNextIn, rounds_in}
use Rattle.sd_drive.proofs.Acts.{helps-shut, need-open}
use Rattle.sd_drive.proofs.Bodies.{entry-is, fits-now, status-is}
use Rattle.sd_drive.proofs.Needs.{need-is}
use Rattle.sd_drive.proofs.Recovered.{is-recovering}

-- ---- one after another

pub rests-on : {G : Type 0} (a b c : Option (Body G)) → RestsOpen a b → RestsOpen b c → RestsOpen a c
rests-on None b c h k = tt
rests-on (Some (Body.Closed rig shape)) b c h k = tt
rests-on (Some (Body.Open x)) None c h k = absurd h
rests-on (Some (Body.Open x)) (Some (Body.Closed rig shape)) c h k = absurd h
rests-on (Some (Body.Open x)) (Some (Body.Open y)) None h k = absurd k
rests-on (Some (Body.Open x)) (Some (Body.Open y)) (Some (Body.Closed rig shape)) h k = absurd k
rests-on (Some (Body.Open x)) (Some (Body.Open y)) (Some (Body.Open z)) h k = rests-then (parts x) (parts y) (parts z) h k

pub rests-self : {G : Type 0} (a : Option (Body G)) → RestsOpen a a
rests-self None = tt
rests-self (Some (Body.Closed rig shape)) = tt
rests-self (Some (Body.Open x)) = rests-same (parts x)

-- behind a call whose result is this one
pub rests-as : {G : Type 0} (old mid new here : Option (Body G)) (r there : Result Bool Memory) → here ≡ new → there ≡ r
    → RestsOpen old mid → OnOk r (RestsOpen mid new) → OnOk there (RestsOpen old here)
rests-as {G} old mid new here r there h e first second =
    subst (λ (x : Option (Body G)). OnOk there (RestsOpen old x)) (sym h)
    (subst (λ (x : Result Bool Memory). OnOk x (RestsOpen old new)) (sym e) (go r second))
  where
    go : (x : Result Bool Memory) → OnOk x (RestsOpen mid new) → OnOk x (RestsOpen old new)
    go (Ok done) k = rests-on old mid new first k
    go (Err n) k = k

pub rests-got : {G : Type 0} (old new : Option (Body G)) (r : Result Bool Memory) (done : Bool) → r ≡ Ok done → OnOk r (RestsOpen old new)
    → RestsOpen old new
rests-got old new r done is h = subst (λ (x : Result Bool Memory). OnOk x (RestsOpen old new)) is h

-- ---- a helping event

module _ {G : Type 0} (tell : Telling G) where
  works-rests : (e : Event) (r : Reply) (old new : Option (Body G)) → IsHelp e → IsWorked tell.seen e r old new → RestsIn old new
  works-rests (event.Ask i p mode) r old new help works = works
  works-rests (event.Give i p) r old new help works = works
  works-rests (event.Take i p) r old new help works = works
  works-rests (event.Evict i p) r old new help works = works
  works-rests (event.Flush i p) r old new help works = works
  works-rests e r old new help works = absurd help

  pub rests-helped : (e : Event) (r : Reply) (old new : Option (Body G)) (w w' : Core) → IsHelp e → fits_in tell.seen tell.leaves old w
      → fits_in tell.seen tell.leaves new w' → Step w.scene.state e r w'.scene.state → IsWorked tell.seen e r old new → RestsOpen old new
  rests-helped e r None new w w' help f f' s works = tt
  rests-helped e r (Some (Body.Closed rig shape)) new w w' help f f' s works = tt
  rests-helped e r (Some (Body.Open c)) None w w' help f f' s works = absurd f'
  rests-helped e r (Some (Body.Open c)) (Some (Body.Closed rig shape)) w w' help f f' s works =
      absurd (f.good.not_closed (helps-shut w.scene.state w'.scene.state e r help s (f'.fits.closed 1)))
  rests-helped e r (Some (Body.Open c)) (Some (Body.Open d)) w w' help f f' s works =
      works-rests e r (Some (Body.Open c)) (Some (Body.Open d)) help works

  -- ---- a step

  -- a round in which a step was done
  pub step-lowers : (i : ℕ) → 1 ≤ i → i ≤ 8 → (old new : Option (Body G)) (w w' : Core) → fits_in tell.seen tell.leaves old w
      → fits_in tell.seen tell.leaves new w' → Step w.scene.state (event.RecoverStep i) reply.Step w'.scene.state
      → HasWorkedIn tell.seen i old new → rounds_in tell.seen new i < rounds_in tell.seen old i
  step-lowers i low high None new w w' f f' s worked = absurd f
  step-lowers i low high (Some (Body.Closed rig shape)) new w w' f f' s worked = absurd (s.0.0 (f.fits.closed 1))
  step-lowers i low high (Some (Body.Open c)) None w w' f f' s worked = absurd f'
  step-lowers i low high (Some (Body.Open c)) (Some (Body.Closed rig shape)) w w' f f' s worked =
      absurd (s.0.0 (sym (ap (λ m. (m.inst 1).status) s.1) ∙ f'.fits.closed 1))
  step-lowers i low high (Some (Body.Open c)) (Some (Body.Open d)) w w' f f' s worked =
      let runs = is-recovering (w.scene.state.inst i).status s.0.1.0 in
      step-nearer (tell.seen c.rig) (tell.seen d.rig) (parts c) (parts d) i runs.0
      (status-is tell (Some (Body.Open c)) w f i low high ∙ runs.1) worked.stands worked.falls

  -- ---- a step that wants a page

  settled : (c : Parts) (i by p : ℕ) → i ≤ 8 → UndoesNext c i by p → is_loose c i ≡ false
  settled c i by p high next = next.1.0.0 i high

  -- the undo of that page is next still, and no more is left
  pub lacks-next : (i by p : ℕ) (here : PageEntry) (old mid : Option (Body G)) (w' : Core) → i ≤ 8 → fits_in tell.seen tell.leaves mid w'
      → ((w'.scene.state.inst 1).status ≡ S.Closed → ⊥) → UndoesNextIn old i by p → WaitsIn i here old mid
      → LacksNextIn mid i by p × (rounds_in tell.seen mid i ≤ rounds_in tell.seen old i)
  lacks-next i by p here None mid w' high f' open_ next waits = absurd next
  lacks-next i by p here (Some (Body.Closed rig shape)) mid w' high f' open_ next waits = absurd next
  lacks-next i by p here (Some (Body.Open c)) None w' high f' open_ next waits = absurd f'
  lacks-next i by p here (Some (Body.Open c)) (Some (Body.Closed rig shape)) w' high f' open_ next waits = absurd (open_ (f'.fits.closed 1))
  lacks-next i by p here (Some (Body.Open c)) (Some (Body.Open d)) w' high f' open_ next waits =
      let none = awaits-none (parts c) i here waits.awaits in
      let less = rests-work (tell.seen c.rig) (tell.seen d.rig) (parts c) (parts c) i (rests-same (parts c)) (settled (parts c) i by p high next) in
      let most : rounds_left (tell.seen d.rig) (parts c) i ≤ rounds_left (tell.seen c.rig) (parts c) i = omega (arith, less) in (
        subst (λ (x : Parts). UndoesNext x i by p × (has_next x i ≡ false)) (sym waits.same) (next, none),
        subst (λ (x : Parts). rounds_left (tell.seen d.rig) x i ≤ rounds_left (tell.seen c.rig) (parts c) i) (sym waits.same) most,
      )

  pub lacks-wanted : (i : ℕ) → i ≤ 8 → (by p : ℕ) (r : Reply) (old mid : Option (Body G)) (w w' : Core) → wants_page r ≡ true
      → fits_in tell.seen tell.leaves mid w' → Step w.scene.state (event.RecoverStep i) r w'.scene.state
      → IsWorked tell.seen (event.RecoverStep i) r old mid → UndoesNextIn old i by p
      → LacksNextIn mid i by p × (rounds_in tell.seen mid i ≤ rounds_in tell.seen old i)
  lacks-wanted i high by p r old mid w w' need f' s works next =
      let is = need-is r need in
      lacks-next i by p (seen is.0) old mid w' high f'
      (need-open w.scene.state w'.scene.state (event.RecoverStep i) is.0
      (subst (λ (x : Reply). Step w.scene.state (event.RecoverStep i) x w'.scene.state) is.1 s)) next
      (subst (λ (x : Reply). IsWorked tell.seen (event.RecoverStep i) x old mid) is.1 works)

  -- ---- behind the pull of that page

  -- it came: `by` has it alone
  pub came-has : (by p : ℕ) (old mid : Hall G) → PullsAll tell old mid (record { inst = by; mode = modes.Excl }) p true
      → PulledIn tell old (record { inst = by; mode = modes.Excl }) (Pull.Asks p) → owns (entry_in mid.body p) by ≡ true
  came-has by p old mid all s =
      let h = all s.start s.world s.at s.work s.rest s.cursor s.own s.there s.pulls in
      subst (λ (e : PageEntry). owns e by ≡ true) (entry-is tell mid.body h.0.core (fits-now tell s.start mid h.0 h.2) p) h.4.1

  module _ (i by p : ℕ) (high : i ≤ 8) where
    -- no more is left,
    pub pull-least : (mid new : Option (Body G)) → LacksNextIn mid i by p → RestsOpen mid new → rounds_in tell.seen new i ≤ rounds_in tell.seen mid i
    pull-least None new lacks rest = absurd lacks
    pull-least (Some (Body.Closed rig shape)) new lacks rest = absurd lacks
    pull-least (Some (Body.Open c)) None lacks rest = absurd rest
    pull-least (Some (Body.Open c)) (Some (Body.Closed rig shape)) lacks rest = absurd rest
    pull-least (Some (Body.Open c)) (Some (Body.Open d)) lacks rest =
        let less = rests-work (tell.seen c.rig) (tell.seen d.rig) (parts c) (parts d) i rest (settled (parts c) i by p high lacks.0) in
        let before = ap (λ (b : Bool). one_if (not b)) lacks.1 in
        let most = most-one (not (has_next (parts d) i)) in
        omega (arith, less, before, most)

    -- and less where it came
    pub came-lowers : (mid new : Option (Body G)) → LacksNextIn mid i by p → RestsOpen mid new → owns (entry_in new p) by ≡ true
        → rounds_in tell.seen new i < rounds_in tell.seen mid i
    came-lowers None new lacks rest has = absurd lacks
    came-lowers (Some (Body.Closed rig shape)) new lacks rest has = absurd lacks
    came-lowers (Some (Body.Open c)) None lacks rest has = absurd rest
    came-lowers (Some (Body.Open c)) (Some (Body.Closed rig shape)) lacks rest has = absurd rest
    came-lowers (Some (Body.Open c)) (Some (Body.Open d)) lacks rest has =
        let before = settled (parts c) i by p high lacks.0 in
        let less = rests-work (tell.seen c.rig) (tell.seen d.rig) (parts c) (parts d) i rest before in
        pull-nearer (tell.seen c.rig) (tell.seen d.rig) (parts c) (parts d) i less lacks.1
        (⊎_elim
        (λ fell. inr (fell-work (tell.seen c.rig) (tell.seen d.rig) (parts c) (parts d) i rest before by lacks.0.2 fell))
        (λ same.
        let is = same.0 i ∙ lacks.0.2 in
        inl (page-came (parts c) (parts d) i by p lacks.0.0 lacks.0.1 is (rest.recovered i by is).1 has))
        rest.others)

-- ---- how a round ends

behind-lowers : (b : Bool) (most : Option ℕ) (old new : ℕ) → new < old
    → Lowers (cond {A = Next} b (nexts.Again (one_less most)) (nexts.Over outcomes.Part)) old new
behind-lowers true most old new less = less
behind-lowers false most old new less = tt

-- only behind a step that was done does another round follow its reply
pub ending-lowers : (r : Reply) (opens : Bool) (most : Option ℕ) (old new : ℕ) → (r ≡ reply.Step → new < old) → Lowers (ending_as r opens most) old new
ending-lowers reply.Step opens most old new less = behind-lowers (goes_further most) most old new (less refl)
ending-lowers r opens most old new less = tt

-- what is less than no more than before is less than before
pub lowers-later : (next : Next) (old mid new : ℕ) → mid ≤ old → Lowers next mid new → Lowers next old new
lowers-later (nexts.Again left) old mid new le less = omega (arith, le, less)
lowers-later (nexts.Over how) old mid new le less = tt
