-- Events at which no transaction acts, and what an undo or its Back leaves of one that rolls back. It serves the goals of pull.rt,
-- events.rt and driver.rt.
use Rattle.std.proofs.Common.{◌≡◌, ⊎_elim, ℕ, ◌+◌, ◌<◌, Bool, true, false, cond, eqb, List, [], ◌∷◌, length, refl, sym, ap, ◌∙◌, subst, arith}
use Rattle.std.specs.Prelude.{Option, None, Some}
use Rattle.sd_base.specs.declared.ids.TxnId.{TxnId}
use Rattle.sd_base.specs.declared.place.Mode.{Mode}
use Rattle.sd_base.specs.declared.place.Place.{Place}
use Rattle.sd_base.specs.declared.place.Status.{Status}
use Rattle.sd_base.specs.declared.place.Status.TheVariants as S
use Rattle.sd_base.specs.declared.refusal.Refusal.{Refusal}
use Rattle.sd_base.specs.declared.refusal.Refusal.TheVariants as R
use Rattle.sd_base.proofs.Orders.{same-txn}
use Rattle.sd_model.specs.declared.act.Act.{Act}
use Rattle.sd_model.specs.declared.act.Life.{Life}
use Rattle.sd_model.specs.declared.cause.Cause.{Cause}
use Rattle.sd_model.specs.declared.event.Event.{Event}
use Rattle.sd_model.specs.declared.event.Event.TheVariants as event
use Rattle.sd_model.specs.declared.event.Reply.{Reply}
use Rattle.sd_model.specs.declared.event.Reply.TheVariants as reply
use Rattle.sd_model.specs.Acts.{Puts, live, undone}
use Rattle.sd_model.specs.Applies.{First, HasPage}
use Rattle.sd_model.specs.Causes.{has_cause, order}
use Rattle.sd_model.specs.Changes.{goal, undid_part}
use Rattle.sd_model.specs.Refusing.{Refuses, causes_of, counted}
use Rattle.sd_model.specs.State.{Part, State, fall, freed, lost_part, put_part, turned, with_life}
use Rattle.sd_model.specs.declared.act.Inst.{Inst}
use Rattle.sd_model.specs.Step.{Step}
use Rattle.sd_world.specs.Pages.{Pages}
use Rattle.sd_world.specs.PageCauses.{last_page, page_of}
use Rattle.sd_model.proofs.Acts.{live_from-append}
use Rattle.sd_drive.specs.Pulls.{IsDue, Pull, Puller}
use Rattle.sd_drive.specs.Resting.{IsHelp}
use Rattle.sd_drive.specs.Standing.{GoesBack, NoneActs}
use Rattle.sd_model.specs.Replies.{is_failed, wants_page}

-- ---- events that help

rooms : (b : Bool) (at v : ℕ) → IsHelp (cond {A = Event} b (event.Flush at v) (event.Evict at v))
rooms true at v = tt
rooms false at v = tt

pub due-helps : (w : Pages) (for : Puller) (pull : Pull) (e : Event) → IsDue w for pull e → IsHelp e
due-helps w for (Pull.Asks p) e due = subst IsHelp (sym due) tt
due-helps w for (Pull.Gives p of) e due = subst IsHelp (sym due) tt
due-helps w for (Pull.Takes p to) e due = subst IsHelp (sym due) tt
due-helps w for (Pull.Room p at) e due = subst IsHelp (sym due.2) (rooms _ at due.0)
due-helps w for (Pull.Evicts p at v) e due = subst IsHelp (sym due) tt
due-helps w for Pull.Idle e due = absurd due
due-helps w for Pull.Ends e due = absurd due

lost-acts : (b : Bool) (p : Part) → (cond {A = Part} b (lost_part p) p).acts ≡ p.acts
lost-acts true p = refl
lost-acts false p = refl

-- no cause of it leaves an act, and no join is counted
record IsCalm (m : State) (e : Event) : Type 0 where
  no_record : has_cause Cause.NoRecord (order e) ≡ false
  no_number : has_cause Cause.NotNumber (order e) ≡ false
  digits : has_cause Cause.Digits (order e) ≡ false
  over : has_cause Cause.Over (order e) ≡ false
  cut : has_cause Cause.Cut (order e) ≡ false
  uncounted : counted e m ≡ m

unlike : {A : Type 0} {b : Bool} → b ≡ true → b ≡ false → A
unlike {A} {b} is isnt = let clash : true ≡ false = sym is ∙ isnt in absurd (cc)

module _ (m m' : State) where
  pub same-acts : m' ≡ m → NoneActs m m'
  same-acts is t = ap (λ (s : State). (s.part t).acts) is

  falls-acts : (j : ℕ) → m' ≡ fall j m → NoneActs m m'
  falls-acts j is t = ap (λ (s : State). (s.part t).acts) is ∙ lost-acts (eqb j t.inst) (m.part t)

  refused-acts : (e : Event) (c : Cause) → IsCalm m e → has_cause c (order e) ≡ true → Refuses m e c m' → NoneActs m m'
  refused-acts e Cause.NoRecord calm there h = unlike there calm.no_record
  refused-acts e Cause.NotNumber calm there h = unlike there calm.no_number
  refused-acts e Cause.Digits calm there h = unlike there calm.digits
  refused-acts e Cause.Over calm there h = unlike there calm.over
  refused-acts e Cause.Cut calm there h = unlike there calm.cut
  refused-acts e Cause.Rig calm there h = ⊎_elim
      (λ is. same-acts (is ∙ calm.uncounted))
      (λ f. falls-acts f.0 (f.2 ∙ ap (fall f.0) calm.uncounted))
      h
  refused-acts e c calm there h = same-acts h

  calm-acts : (e : Event) (n : Refusal) → IsCalm m e → Step m e (reply.Refused n) m' → NoneActs m m'
  calm-acts e n calm s = refused-acts e s.0 calm s.3.0 s.4

  -- a page moves, or it is refused: an instance may fall, and nobody acts
  pub helps-acts : (e : Event) (r : Reply) → IsHelp e → Step m e r m' → NoneActs m m'
  helps-acts (event.Ask i p mode) (reply.Refused n) help s = calm-acts (event.Ask i p mode) n
      (record { no_record = refl; no_number = refl; digits = refl; over = refl; cut = refl; uncounted = refl }) s
  helps-acts (event.Ask i p mode) reply.Have help s = same-acts s.1
  helps-acts (event.Ask i p mode) (reply.Asked of) help s = same-acts s.1
  helps-acts (event.Ask i p mode) r help s = absurd s.1
  helps-acts (event.Give i p) (reply.Refused n) help s = calm-acts (event.Give i p) n
      (record { no_record = refl; no_number = refl; digits = refl; over = refl; cut = refl; uncounted = refl }) s
  helps-acts (event.Give i p) (reply.Gave to) help s = same-acts s.1
  helps-acts (event.Give i p) r help s = absurd s.1
  helps-acts (event.Take i p) (reply.Refused n) help s = calm-acts (event.Take i p) n
      (record { no_record = refl; no_number = refl; digits = refl; over = refl; cut = refl; uncounted = refl }) s
  helps-acts (event.Take i p) reply.Did help s = same-acts s.1
  helps-acts (event.Take i p) r help s = absurd s.1
  helps-acts (event.Evict i p) (reply.Refused n) help s = calm-acts (event.Evict i p) n
      (record { no_record = refl; no_number = refl; digits = refl; over = refl; cut = refl; uncounted = refl }) s
  helps-acts (event.Evict i p) reply.Did help s = same-acts s.1
  helps-acts (event.Evict i p) r help s = absurd s.1
  helps-acts (event.Flush i p) (reply.Refused n) help s = calm-acts (event.Flush i p) n
      (record { no_record = refl; no_number = refl; digits = refl; over = refl; cut = refl; uncounted = refl }) s
  helps-acts (event.Flush i p) reply.Did help s = same-acts s.1
  helps-acts (event.Flush i p) r help s = absurd s.1
  helps-acts e r help s = absurd help

  -- ---- a complex that is closed was so before

  freed-shut : (b : Bool) (j : ℕ) (s : Status) → cond {A = Status} b S.Down (freed j s) ≡ S.Closed → s ≡ S.Closed
  freed-shut true j s shut = absurd (cc)
  freed-shut false j S.Up shut = absurd (cc)
  freed-shut false j S.Down shut = absurd (cc)
  freed-shut false j (S.Recovering by) shut = never (eqb j by) shut
    where
      never : (b : Bool) → cond {A = Status} b S.Down (S.Recovering by) ≡ S.Closed → S.Recovering by ≡ S.Closed
      never true is = absurd (cc)
      never false is = absurd (cc)
  freed-shut false j S.Clean shut = absurd (cc)
  freed-shut false j S.Restarting shut = absurd (cc)
  freed-shut false j S.Closed shut = refl

  same-shut : m' ≡ m → (m'.inst 1).status ≡ S.Closed → (m.inst 1).status ≡ S.Closed
  same-shut is shut = sym (ap (λ (s : State). (s.inst 1).status) is) ∙ shut

  falls-shut : (j : ℕ) → m' ≡ fall j m → (m'.inst 1).status ≡ S.Closed → (m.inst 1).status ≡ S.Closed
  falls-shut j is shut = freed-shut (eqb j 1) j (m.inst 1).status (sym (ap (λ (s : State). (s.inst 1).status) is) ∙ shut)

  refused-shut : (e : Event) (c : Cause) → IsCalm m e → has_cause c (order e) ≡ true → Refuses m e c m' → (m'.inst 1).status ≡ S.Closed
      → (m.inst 1).status ≡ S.Closed
  refused-shut e Cause.NoRecord calm there h = unlike there calm.no_record
  refused-shut e Cause.NotNumber calm there h = unlike there calm.no_number
  refused-shut e Cause.Digits calm there h = unlike there calm.digits
  refused-shut e Cause.Over calm there h = unlike there calm.over
  refused-shut e Cause.Cut calm there h = unlike there calm.cut
  refused-shut e Cause.Rig calm there h = ⊎_elim
      (λ is. same-shut (is ∙ calm.uncounted))
      (λ f. falls-shut f.0 (f.2 ∙ ap (fall f.0) calm.uncounted))
      h
  refused-shut e c calm there h = same-shut h

  calm-shut : (e : Event) (n : Refusal) → IsCalm m e → Step m e (reply.Refused n) m' → (m'.inst 1).status ≡ S.Closed
      → (m.inst 1).status ≡ S.Closed
  calm-shut e n calm s = refused-shut e s.0 calm s.3.0 s.4

  -- an event that moves a page closes none
  pub helps-shut : (e : Event) (r : Reply) → IsHelp e → Step m e r m' → (m'.inst 1).status ≡ S.Closed → (m.inst 1).status ≡ S.Closed
  helps-shut (event.Ask i p mode) (reply.Refused n) help s = calm-shut (event.Ask i p mode) n
      (record { no_record = refl; no_number = refl; digits = refl; over = refl; cut = refl; uncounted = refl }) s
  helps-shut (event.Ask i p mode) reply.Have help s = same-shut s.1
  helps-shut (event.Ask i p mode) (reply.Asked of) help s = same-shut s.1
  helps-shut (event.Ask i p mode) r help s = absurd s.1
  helps-shut (event.Give i p) (reply.Refused n) help s = calm-shut (event.Give i p) n
      (record { no_record = refl; no_number = refl; digits = refl; over = refl; cut = refl; uncounted = refl }) s
  helps-shut (event.Give i p) (reply.Gave to) help s = same-shut s.1
  helps-shut (event.Give i p) r help s = absurd s.1
  helps-shut (event.Take i p) (reply.Refused n) help s = calm-shut (event.Take i p) n
      (record { no_record = refl; no_number = refl; digits = refl; over = refl; cut = refl; uncounted = refl }) s
  helps-shut (event.Take i p) reply.Did help s = same-shut s.1
  helps-shut (event.Take i p) r help s = absurd s.1
  helps-shut (event.Evict i p) (reply.Refused n) help s = calm-shut (event.Evict i p) n
      (record { no_record = refl; no_number = refl; digits = refl; over = refl; cut = refl; uncounted = refl }) s
  helps-shut (event.Evict i p) reply.Did help s = same-shut s.1
  helps-shut (event.Evict i p) r help s = absurd s.1
  helps-shut (event.Flush i p) (reply.Refused n) help s = calm-shut (event.Flush i p) n
      (record { no_record = refl; no_number = refl; digits = refl; over = refl; cut = refl; uncounted = refl }) s
  helps-shut (event.Flush i p) reply.Did help s = same-shut s.1
  helps-shut (event.Flush i p) r help s = absurd s.1
  helps-shut e r help s = absurd help

-- a cause of the devices is told as their failure
rig-fails : (n : Refusal) → has_cause Cause.Rig (causes_of n) ≡ true → is_failed (reply.Refused n) ≡ false → ⊥
rig-fails R.Failed named fine = unlike refl fine
rig-fails n named fine = unlike named refl

module _ (m m' : State) where
  refused-same : (e : Event) (n : Refusal) (c : Cause) → IsCalm m e → is_failed (reply.Refused n) ≡ false → has_cause c (causes_of n) ≡ true
      → has_cause c (order e) ≡ true → Refuses m e c m' → m' ≡ m
  refused-same e n Cause.NoRecord calm fine named there h = unlike there calm.no_record
  refused-same e n Cause.NotNumber calm fine named there h = unlike there calm.no_number
  refused-same e n Cause.Digits calm fine named there h = unlike there calm.digits
  refused-same e n Cause.Over calm fine named there h = unlike there calm.over
  refused-same e n Cause.Cut calm fine named there h = unlike there calm.cut
  refused-same e n Cause.Rig calm fine named there h = absurd (rig-fails n named fine)
  refused-same e n c calm fine named there h = h

  calm-same : (e : Event) (n : Refusal) → IsCalm m e → is_failed (reply.Refused n) ≡ false → Step m e (reply.Refused n) m' → m' ≡ m
  calm-same e n calm fine s = refused-same e n s.0 calm fine s.1 s.3.0 s.4

  -- unless a device failed, all is as before
  pub helps-same : (e : Event) (r : Reply) → IsHelp e → is_failed r ≡ false → Step m e r m' → m' ≡ m
  helps-same (event.Ask i p mode) (reply.Refused n) help fine s = calm-same (event.Ask i p mode) n
      (record { no_record = refl; no_number = refl; digits = refl; over = refl; cut = refl; uncounted = refl }) fine s
  helps-same (event.Ask i p mode) reply.Have help fine s = s.1
  helps-same (event.Ask i p mode) (reply.Asked of) help fine s = s.1
  helps-same (event.Ask i p mode) r help fine s = absurd s.1
  helps-same (event.Give i p) (reply.Refused n) help fine s = calm-same (event.Give i p) n
      (record { no_record = refl; no_number = refl; digits = refl; over = refl; cut = refl; uncounted = refl }) fine s
  helps-same (event.Give i p) (reply.Gave to) help fine s = s.1
  helps-same (event.Give i p) r help fine s = absurd s.1
  helps-same (event.Take i p) (reply.Refused n) help fine s = calm-same (event.Take i p) n
      (record { no_record = refl; no_number = refl; digits = refl; over = refl; cut = refl; uncounted = refl }) fine s
  helps-same (event.Take i p) reply.Did help fine s = s.1
  helps-same (event.Take i p) r help fine s = absurd s.1
  helps-same (event.Evict i p) (reply.Refused n) help fine s = calm-same (event.Evict i p) n
      (record { no_record = refl; no_number = refl; digits = refl; over = refl; cut = refl; uncounted = refl }) fine s
  helps-same (event.Evict i p) reply.Did help fine s = s.1
  helps-same (event.Evict i p) r help fine s = absurd s.1
  helps-same (event.Flush i p) (reply.Refused n) help fine s = calm-same (event.Flush i p) n
      (record { no_record = refl; no_number = refl; digits = refl; over = refl; cut = refl; uncounted = refl }) fine s
  helps-same (event.Flush i p) reply.Did help fine s = s.1
  helps-same (event.Flush i p) r help fine s = absurd s.1
  helps-same e r help fine s = absurd help

  -- a pool that is full is that of an open complex
  pub ask-open : (i p : ℕ) (mode : Mode) → Step m (event.Ask i p mode) (reply.Refused R.PoolFull) m' → (m'.inst 1).status ≡ S.Closed → ⊥
  ask-open i p mode s shut = by s.0 s.1 s.3
      (sym (ap (λ (k : State). (k.inst 1).status) (helps-same (event.Ask i p mode) (reply.Refused R.PoolFull) tt refl s)) ∙ shut)
    where
      by : (c : Cause) → has_cause c (Cause.Frame ∷ []) ≡ true → First m (event.Ask i p mode) c → (m.inst 1).status ≡ S.Closed → ⊥
      by Cause.Frame named first closed = first.1.0 closed
      by c named first closed = unlike named refl

  pub take-open : (i p : ℕ) → Step m (event.Take i p) (reply.Refused R.PoolFull) m' → (m'.inst 1).status ≡ S.Closed → ⊥
  take-open i p s shut = by s.0 s.1 s.3
      (sym (ap (λ (k : State). (k.inst 1).status) (helps-same (event.Take i p) (reply.Refused R.PoolFull) tt refl s)) ∙ shut)
    where
      by : (c : Cause) → has_cause c (Cause.Frame ∷ []) ≡ true → First m (event.Take i p) c → (m.inst 1).status ≡ S.Closed → ⊥
      by Cause.Frame named first closed = first.1.0 closed
      by c named first closed = unlike named refl

-- ---- a refusal for want of a page

module _ (m m' : State) where
  away-stays : (e : Event) (c : Cause) → has_cause c (Cause.Away ∷ []) ≡ true → Refuses m e c m' → m' ≡ m
  away-stays e Cause.NoRecord away h = unlike away refl
  away-stays e Cause.NotNumber away h = unlike away refl
  away-stays e Cause.Digits away h = unlike away refl
  away-stays e Cause.Over away h = unlike away refl
  away-stays e Cause.Rig away h = unlike away refl
  away-stays e Cause.Cut away h = unlike away refl
  away-stays e c away h = h

  -- nothing changes
  pub need-stays : (e : Event) (place : Place) → Step m e (reply.Refused (R.NeedPage place)) m' → m' ≡ m
  need-stays e place s = away-stays e s.0 s.1 s.4

-- a page is wanted of an open complex
away-open : (m : State) (e : Event) → First m e Cause.Away → (m.inst 1).status ≡ S.Closed → ⊥
away-open m (event.Read t r) first closed = first.1.0 closed
away-open m (event.Write t r v) first closed = first.1.0 closed
away-open m (event.Add t r by) first closed = first.1.0 closed
away-open m (event.Insert t p v n) first closed = first.1.0 closed
away-open m (event.Delete t r) first closed = first.1.0 closed
away-open m (event.Undo t) first closed = first.1.0 closed
away-open m (event.List i p) first closed = first.1.0 closed
away-open m (event.Give i p) first closed = first.1.0 closed
away-open m (event.Take i p) first closed = first.1.0 closed
away-open m (event.Evict i p) first closed = first.1.0 closed
away-open m (event.Flush i p) first closed = first.1.0 closed
away-open m (event.RecoverStep i) first closed = first.1.0 closed
away-open m (event.Back t None) first closed = unlike first.0 refl
away-open m (event.Back t (Some k)) first closed = unlike first.0 refl
away-open m e first closed = unlike first.0 refl

pub need-open : (m m' : State) (e : Event) (place : Place) → Step m e (reply.Refused (R.NeedPage place)) m' → (m'.inst 1).status ≡ S.Closed → ⊥
need-open m m' e place s shut = by s.0 s.1 s.3 (sym (ap (λ (k : State). (k.inst 1).status) (need-stays m m' e place s)) ∙ shut)
  where
    by : (c : Cause) → has_cause c (Cause.Away ∷ []) ≡ true → First m e c → (m.inst 1).status ≡ S.Closed → ⊥
    by Cause.Away named first closed = away-open m e first closed
    by c named first closed = unlike named refl

-- so an answer that wants a page leaves all as it was
pub wants-stays : (m : State) (e : Event) (r : Reply) (m' : State) → wants_page r ≡ true → Step m e r m' → m' ≡ m
wants-stays m e (reply.Refused (R.NeedPage place)) m' need s = need-stays m m' e place s
wants-stays m e r m' need s = unlike need refl

-- an instance isn't refused as Down
is-up : (s : Status) → ((s ≡ S.Up → ⊥) → ⊥) → s ≡ S.Up
is-up S.Up up = refl
is-up s up = absurd (up (λ is. absurd (cc)))

-- An undo that wants a page takes something back, at an instance that is up.
pub undo-needs : (m : State) (t : TxnId) (place : Place) (m' : State) → Step m (event.Undo t) (reply.Refused (R.NeedPage place)) m'
    → HasPage m (event.Undo t) × ((m.inst t.inst).status ≡ S.Up)
undo-needs m t place m' s = by s.0 s.1 s.3
  where
    by : (c : Cause) → has_cause c (Cause.Away ∷ []) ≡ true → First m (event.Undo t) c → HasPage m (event.Undo t) × ((m.inst t.inst).status ≡ S.Up)
    by Cause.Away away first = (first.2, is-up (m.inst t.inst).status first.1.1.1.0)
    by c away first = unlike away refl

-- ---- one that rolls back

-- where no transaction acts, an event needs the same page
pub page-stays : (m m' : State) (e : Event) → NoneActs m m' → page_of m' e ≡ page_of m e
page-stays m m' (event.Undo t) acts = ap (λ (done : List Act). last_page (live done)) (acts t)
page-stays m m' e acts = refl

same-part : (m m' : State) (t : TxnId) (p : Part) → m' ≡ put_part t p m → m'.part t ≡ p
same-part m m' t p is = ap (λ (s : State). s.part t) is ∙ ap (λ (b : Bool). cond {A = Part} b p (m.part t)) (same-txn t)

same-insts : (m m' : State) (t : TxnId) (p : Part) → m' ≡ put_part t p m → (i : ℕ) → m'.inst i ≡ m.inst i
same-insts m m' t p is i = ap (λ (s : State). s.inst i) is

module _ (m : State) (t : TxnId) (m' : State) where
  turns-back : (to : Option ℕ) → m' ≡ turned t (Life.Rolling to) m → (m.inst t.inst).status ≡ S.Up → GoesBack m' t
  turns-back to is up = record {
    rolls = (to, ap (λ (p : Part). p.life) (same-part m m' t (with_life (Life.Rolling to) (m.part t)) is));
    up = ap (λ (i : Inst). i.status) (same-insts m m' t (with_life (Life.Rolling to) (m.part t)) is t.inst) ∙ up;
  }

  -- behind a Back that was done it rolls back
  pub back-done : (mark : Option (List ℕ)) → Step m (event.Back t mark) reply.Did m' → GoesBack m' t
  back-done None s = turns-back None s.1.1 (is-up (m.inst t.inst).status s.0.1.1.0)
  back-done (Some k) s = turns-back (Some s.1.0) s.1.3 (is-up (m.inst t.inst).status s.0.1.1.0)

  -- behind an undo that wasn't the last too, and a put less is live
  pub undo-stepped : Step m (event.Undo t) reply.Step m' → GoesBack m t × GoesBack m' t
      × (length (live (m'.part t).acts) + 1 ≡ length (live (m.part t).acts))
  undo-stepped s =
      let row = s.1 in
      let up = is-up (m.inst t.inst).status s.0.1.1.0 in
      let part = same-part m m' t (undid_part (m.part t)) row.3 in
      let old : GoesBack m t = record { rolls = (row.0, row.1); up = up } in
      let new : GoesBack m' t = record {
        rolls = (row.0, ap (λ (p : Part). p.life) part ∙ row.1);
        up = ap (λ (i : Inst). i.status) (same-insts m m' t (undid_part (m.part t)) row.3 t.inst) ∙ up;
      } in (
        old,
        new,
        shorter (live (m.part t).acts) (live (m'.part t).acts) (goal row.0) row.2
            (ap (λ (p : Part). live p.acts) part ∙ live_from-append [] (m.part t).acts (Act.Undo ∷ [])),
      )
    where
      shorter : (puts left : Puts) (n : ℕ) → n < length puts → left ≡ undone puts → length left + 1 ≡ length puts
      shorter [] left n lt is = absurd (omega (arith, lt))
      shorter (p ∷ puts) left n lt is = let same = ap length is in omega (arith, same)
