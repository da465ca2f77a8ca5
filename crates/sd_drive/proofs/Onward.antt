-- A script goes forward: what is done doesn't come again, so the world behind an opening is passed once. It serves the goals of `opening` in
-- opening.rt.
use Rattle.std.proofs.Common.{◌≡◌, ⊎_elim, ℕ, ◌+◌, ◌*◌, ◌<◌, ◌≤◌, Bool, true, false, cond, List, [], ◌∷◌, length, refl, ap, ◌∙◌, subst, arith}
use Rattle.std.specs.Prelude.{Option, None, Some, is_some}
use Rattle.sd_base.specs.declared.refusal.Refusal.TheVariants as R
use Rattle.sd_model.specs.declared.event.Entry.{Entry}
use Rattle.sd_model.specs.declared.event.Event.{Event}
use Rattle.sd_model.specs.declared.event.Reply.{Reply}
use Rattle.sd_model.specs.declared.event.Reply.TheVariants as reply
use Rattle.sd_model.specs.State.{State}
use Rattle.sd_script.specs.declared.line.Line.{Line}
use Rattle.sd_world.specs.Serving.{Core}
use Rattle.sd_drive.specs.Behind.{IsBehind, NoneIsOut, OnlyUpHave}
use Rattle.sd_drive.specs.Driving.{Cursor, Drives, Helps, Known, Own, Progress, Tells, TellsAt, TellsFirst, TellsWork, Work, World, ahead, cursor_in, due_works, event_at, followed, goes_on, left_from, marked, puller_of, start_of, stays, works_of}
use Rattle.sd_drive.specs.Pulls.{Puller, is_pulling}

-- works that are left, and whether the first of them has begun
abbrev still : Option Cursor → ℕ → ℕ
still None n = 2 * n + 1
still (Some c) n = 2 * n

abbrev to_go : Progress → ℕ
to_go at = still at.cursor (length at.left)

ahead-less : (m : State) (known : Known) (works : List Work) → length (ahead m known works) ≤ length works
ahead-less m known [] = omega arith
ahead-less m known (work ∷ works) = go (is_some (start_of m known work)) (ahead-less m known works)
  where
    go : (b : Bool) → length (ahead m known works) ≤ length works
        → length (cond {A = List Work} b (work ∷ works) (ahead m known works)) ≤ length (work ∷ works)
    go true less = omega arith
    go false less = omega (arith, less)

left-less : (m : State) (known : Known) (o : Option Cursor) (works : List Work) → length (left_from m known o works) ≤ length works
left-less m known None works = ahead-less m known works
left-less m known (Some c) works = omega arith

still-least : (o : Option Cursor) (n : ℕ) → 2 * n ≤ still o n
still-least None n = omega arith
still-least (Some c) n = omega arith

still-more : (o : Option Cursor) (n : ℕ) → o ≡ None → 2 * n < still o n
still-more None n is = omega arith
still-more (Some c) n is = absurd (cc)

marked-same : (work : Work) (r : Reply) (at : Progress) → to_go (marked work r at) ≡ to_go at
marked-same Work.Opening r at = refl
marked-same (Work.Do line) r at = refl

module _ (w w' : Core) (at then : Progress) (work : Work) (rest : List Work) where
  abbrev Less : Type 0
  Less = to_go then ≤ 2 * (length rest + 1)

  followed-less : (r : Reply) (o : Option Cursor) → then ≡ marked work r (followed at work rest r o) → Less
  followed-less r None is = let n = ap to_go is ∙ marked-same work r (followed at work rest r None) in omega (arith, n)
  followed-less r (Some c) is = let n = ap to_go is ∙ marked-same work r (followed at work rest r (Some c)) in omega (arith, n)

  own-less : (c : Cursor) (e : Event) (r : Reply) → Own w.scene.state w' at work rest c e r then → Less
  own-less c e (reply.Refused (R.NeedPage place)) h = ⊎_elim
      (λ pulls. let n = ap to_go pulls.2.2 in omega (arith, n))
      (λ own. followed-less (reply.Refused (R.NeedPage place)) (goes_on w' at.known work c (reply.Refused (R.NeedPage place))) own.1)
      h
  own-less c e r h = followed-less r (goes_on w' at.known work c r) h

  helps-less : (c : Cursor) (o : Option Puller) (entry : Entry) → Helps w at work rest c o entry then → Less
  helps-less c None entry h = absurd h
  helps-less c (Some for) entry h =
      let n = ap to_go h.3 ∙ marked-same work entry.reply (stays at work rest c _) in omega (arith, n)

  at-less : (b : Bool) (c : Cursor) (entry : Entry) → TellsAt b w w' at work rest c entry then → Less
  at-less true c entry h = helps-less c (puller_of w.scene.state (event_at at.known work c)) entry h
  at-less false c entry h = own-less c entry.event entry.reply h.3

  work-less : (o : Option Cursor) (entry : Entry) → TellsWork w w' at work rest o entry then → Less
  work-less None entry h = absurd h
  work-less (Some c) entry h = at-less (is_pulling at.pull) c entry h

first-less : (w w' : Core) (at then : Progress) (works : List Work) (entry : Entry) → TellsFirst w w' at works entry then
    → to_go then ≤ 2 * length works
first-less w w' at then [] entry h = absurd h
first-less w w' at then (work ∷ rest) entry h =
    let less = work-less w w' at then work rest (cursor_in w.scene.state at.known work at.cursor) entry h in omega (arith, less)

tells-less : (w w' : Core) (at then : Progress) (entry : Entry) → Tells w w' at entry then → to_go then ≤ 2 * length at.left
tells-less w w' at then entry h =
    let first = first-less w w' at then (due_works w.scene.state at) entry h.1 in
    let less = left-less w.scene.state at.known at.cursor at.left in
    omega (arith, first, less)

drives-less : (entries : List Entry) (w last : World) → Drives w entries last → to_go last.told ≤ to_go w.told
drives-less [] w last d = let n = ap (λ (x : World). to_go x.told) d in omega (arith, n)
drives-less (e ∷ es) w last d =
    let first = tells-less w.core d.0.core w.told d.0.told e d.1.tells in
    let next = drives-less es d.0 last d.2 in
    let least = still-least w.told.cursor (length w.told.left) in
    omega (arith, first, next, least)

-- behind an opening only its own world has all lines to come
pub behind-once : (lines : List Line) (entries : List Entry) (mid w : World) → IsBehind lines mid → w.told.left ≡ works_of lines → w.told.cursor ≡ None
    → Drives mid entries w → NoneIsOut w.core.scene.state × OnlyUpHave w.core.scene.state w.core.pages
behind-once lines [] mid w b left rests d =
    subst (λ (x : World). NoneIsOut x.core.scene.state × OnlyUpHave x.core.scene.state x.core.pages) d (b.recovered, b.emptied)
behind-once lines (e ∷ es) mid w b left rests d =
    let first = tells-less mid.core d.0.core mid.told d.0.told e d.1.tells in
    let next = drives-less es d.0 w d.2 in
    let begun = still-more mid.told.cursor (length mid.told.left) b.rests in
    let here = ap (λ (l : List Work). length l) b.left in
    let there = ap (λ (l : List Work). length l) left in
    let last = ap (λ (o : Option Cursor). still o (length w.told.left)) rests in
    absurd (omega (arith, first, next, begun, here, there, last))
