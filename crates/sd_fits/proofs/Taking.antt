-- A transaction takes a lock, and notes what it reads and puts: the serial table's state then, and the complex that fits it. For the calls
-- on records.
use Rattle.std.proofs.Common.{◌≡◌, Bool, true, false, cond, List, [], ◌∷◌, ◌++◌, ◌&&◌, refl, sym, ap, ◌∙◌, subst, append_assoc}
use Rattle.std.specs.Prelude.{None, Some}
use mathlib.Core.Path.{fun_ext}
use Rattle.sd_base.specs.Ids.{same_rid, same_txn}
use Rattle.sd_base.specs.Waits.{Waits}
use Rattle.sd_base.specs.declared.ids.Rid.{Rid}
use Rattle.sd_base.specs.declared.ids.TxnId.{TxnId}
use Rattle.sd_base.proofs.SameIds.{each_txn, eq-same, ne-same}
use Rattle.sd_base.specs.declared.place.Mode.{Mode}
use Rattle.sd_base.specs.declared.place.Mode.TheVariants as modes
use Rattle.sd_base.specs.declared.place.Status.TheVariants as S
use Rattle.sd_model.specs.Acts.{live}
use Rattle.sd_model.specs.Applies.{HasPut}
use Rattle.sd_model.specs.Claims.{Claims, Holds, raised_claim, with_claim}
use Rattle.sd_model.specs.Listed.{IsAtWork}
use Rattle.sd_model.specs.Scenes.{is_running}
use Rattle.sd_model.specs.State.{Part, State, took, took_part, view}
use Rattle.sd_model.specs.declared.act.Act.{Act}
use Rattle.sd_model.specs.declared.act.Claim.{Claim}
use Rattle.sd_model.specs.declared.act.Life.{Life}
use Rattle.sd_model.specs.declared.event.Event.{Event}
use Rattle.sd_model.specs.declared.event.Reply.{Reply}
use Rattle.sd_model.proofs.Views.{part-here}
use Rattle.sd_model.specs.Tables.{Content}
use Rattle.sd_model.specs.Waits.{claim_of}
use Rattle.sd_model.proofs.Acts.{live_from-append}
use Rattle.sd_model.proofs.Changes.{took-kept}
use Rattle.sd_model.proofs.Claims.{claim-here}
use Rattle.sd_reclock.specs.Answers.{IsFree}
use Rattle.sd_reclock.specs.Locks as locks
use Rattle.sd_reclock.specs.Locks.{LockTable, waits}
use Rattle.sd_rig.specs.Devices.{DeviceImages}
use Rattle.sd_chain.specs.Records.{home}
use Rattle.sd_chain.specs.Logs.{Outcomes}
use Rattle.sd_world.specs.Bounds.{Bounds, bounds_after}
use Rattle.sd_world.specs.Pages.{Pages}
use Rattle.sd_world.specs.Serving.{Core}
use Rattle.sd_state.specs.Good.{Good}
use Rattle.sd_state.specs.Parts.{Parts, status_at}
use Rattle.sd_state.specs.Values.{Pending, is_doubt}
use Rattle.sd_state.specs.Working.{with_locks}
use Rattle.sd_state.proofs.Recovers.{up-there}
use Rattle.sd_state.proofs.WorkingTakes.{free-claims, own-locks, takes-good}
use Rattle.sd_fits.specs.Fits.{Fits, FitsBounds}
use Rattle.sd_fits.proofs.Doubts.{DoubtsStay, doubts-kept}

-- ---- two takes of one record are one

raised-twice : (a b : Claim) → raised_claim a (raised_claim a b) ≡ raised_claim a b
raised-twice Claim.Free b = refl
raised-twice Claim.Shared Claim.Free = refl
raised-twice Claim.Shared Claim.Shared = refl
raised-twice Claim.Shared Claim.Excl = refl
raised-twice Claim.Excl b = refl

claim-twice : (r : Rid) (mode : Claim) (claims : Claims) (q : Rid) → with_claim r mode (with_claim r mode claims) q ≡ with_claim r mode claims q
claim-twice r mode claims q = by (same_rid r q)
  where
    by : (b : Bool) → cond b (raised_claim mode (cond b (raised_claim mode (claims q)) (claims q))) (cond b (raised_claim mode (claims q)) (claims q))
        ≡ cond b (raised_claim mode (claims q)) (claims q)
    by true = raised-twice mode (claims q)
    by false = refl

part-twice : (r : Rid) (mode : Claim) (xs ys : List Act) (p : Part)
    → took_part r mode ys (took_part r mode xs p) ≡ took_part r mode (xs ++ ys) p
part-twice r mode xs ys p n = record {
  life = p.life;
  acts = append_assoc p.acts xs ys n;
  marks = p.marks;
  claims = fun_ext (claim-twice r mode p.claims) n;
}

pub took-twice : (t : TxnId) (r : Rid) (mode : Claim) (xs ys : List Act) (m : State)
    → took t r mode ys (took t r mode xs m) ≡ took t r mode (xs ++ ys) m
took-twice t r mode xs ys m = ap (λ (f : TxnId → Part). record m { part = f }) (fun_ext at-each)
  where
    at-each : (u : TxnId) → (took t r mode ys (took t r mode xs m)).part u ≡ (took t r mode (xs ++ ys) m).part u
    at-each u = by (same_txn t u)
      where
        by : (b : Bool)
            → cond b (took_part r mode ys ((took t r mode xs m).part t)) (cond b (took_part r mode xs (m.part t)) (m.part u))
            ≡ cond b (took_part r mode (xs ++ ys) (m.part t)) (m.part u)
        by true = ap (took_part r mode ys) (part-here m t (took_part r mode xs (m.part t))) ∙ part-twice r mode xs ys (m.part t)
        by false = refl

-- each lives as before
pub took-lives : (t : TxnId) (r : Rid) (mode : Claim) (acts : List Act) (m : State) (u : TxnId)
    → ((took t r mode acts m).part u).life ≡ (m.part u).life
took-lives t r mode acts m = each_txn t (λ u (p : Part). p.life ≡ (m.part u).life) (took_part r mode acts (m.part t)) m.part refl (λ u ne. refl)

pub put-more : (xs ys : List Act) → HasPut xs → HasPut (xs ++ ys)
put-more [] ys h = absurd h
put-more (Act.Read r v ∷ xs) ys h = put-more xs ys h
put-more (Act.Put r v ∷ xs) ys h = tt
put-more (Act.Undo ∷ xs) ys h = put-more xs ys h

-- and who has put something has
pub took-puts : (t : TxnId) (r : Rid) (mode : Claim) (acts : List Act) (m : State) (u : TxnId)
    → HasPut (m.part u).acts → HasPut ((took t r mode acts m).part u).acts
took-puts t r mode acts m = each_txn t (λ u (p : Part). HasPut (m.part u).acts → HasPut p.acts) (took_part r mode acts (m.part t)) m.part
    (put-more (m.part t).acts acts) (λ u ne h. h)

-- ---- the world then

-- the world with this state, these waits and these pages, and the sums after the event
abbrev pub turned_to : Core → State → Waits → Pages → Event → Reply → Core
turned_to w m asks pages e r = record {
  scene = record { state = m; waits = asks };
  pages = pages;
  bounds = bounds_after w.bounds e r;
}

-- Each lives as before, and has put what it had; and one in doubt does nothing.
pub record GoesOnAs (m m' : State) : Type 0 where
  pub lives : (u : TxnId) → (m'.part u).life ≡ (m.part u).life
  pub puts : (u : TxnId) → HasPut (m.part u).acts → HasPut (m'.part u).acts
  pub doubts : (u : TxnId) → is_doubt (m.part u).life ≡ true → (m'.part u).acts ≡ (m.part u).acts

pub took-on : (t : TxnId) (r : Rid) (mode : Claim) (acts : List Act) (m : State) → (m.part t).life ≡ Life.Running
    → GoesOnAs m (took t r mode acts m)
took-on t r mode acts m runs = record {
  lives = took-lives t r mode acts m;
  puts = took-puts t r mode acts m;
  doubts = each_txn t (λ u (p : Part). is_doubt (m.part u).life ≡ true → p.acts ≡ (m.part u).acts)
      (took_part r mode acts (m.part t)) m.part
      (λ doubt. let clash = sym doubt ∙ ap is_doubt runs in absurd (cc)) (λ u ne doubt. refl);
}

pub same-on : (m : State) → GoesOnAs m m
same-on m = record { lives = λ u. refl; puts = λ u h. h; doubts = λ u doubt. refl }

pub on-stays : (m m' : State) → GoesOnAs m m' → DoubtsStay m m'
on-stays m m' on = record {
  before = λ u doubt. sym (ap is_doubt (on.lives u)) ∙ doubt;
  puts = λ u doubt. ap live (on.doubts u (sym (ap is_doubt (on.lives u)) ∙ doubt));
}

module _ (table : LockTable) (asks : Waits) (m' : State) (b : Bounds) (seen : DeviceImages) (leaves : Outcomes) (c : Parts) (w : Core)
    (f : Fits seen leaves c w) where
  abbrev then_core : Core
  then_core = record { scene = record { state = m'; waits = asks }; pages = w.pages; bounds = b }

  -- A call that changes locks and waits alone, and notes reads in the serial table: the complex fits on.
  pub taken-fits : Good seen leaves Pending.Idle (with_locks table c) m' → GoesOnAs w.scene.state m' → FitsBounds seen leaves c b
      → ((t : TxnId) → waits table t ≡ asks t)
      → ((t : TxnId) → is_running (w.scene.state.part t).life ≡ false → asks t ≡ None)
      → Fits seen leaves (with_locks table c) then_core
  taken-fits good on bounds now running = record {
    good = good;
    idle = f.idle;
    rolling = λ t rolls. f.rolling t (sym (on.lives t) ∙ rolls);
    waits = now;
    waiting = λ t off. running t (ap is_running (sym (on.lives t)) ∙ off);
    put = λ t works spoken. on.puts t (f.put t (subst IsAtWork (on.lives t) works) spoken);
    pages = record {
      frames = f.pages.frames;
      entry = f.pages.entry;
      asks = f.pages.asks;
      number = f.pages.number;
      begun = f.pages.begun;
    };
    bounds = record {
      slots = bounds.slots;
      least = bounds.least;
      reach = bounds.reach;
      lsns = bounds.lsns;
      masters = bounds.masters;
      left_masters = bounds.left_masters;
    };
    doubts = doubts-kept seen seen c (with_locks table c) w.scene.state m' f.doubts (on-stays w.scene.state m' on)
        (λ keeps. keeps)
        (λ moved keeps j. refl) (λ moved keeps p. refl);
  }

-- A transaction that runs has the lock, raised to the mode, and finds what it sees: the complex is good with that read noted.
pub noted-good : (seen : DeviceImages) (leaves : Outcomes) (c : Parts) (m : State) (t : TxnId) (r : Rid) (mode : Mode) (v : Content)
    (locks_then : LockTable) → Good seen leaves Pending.Idle c m → c.due ≡ None → status_at c (home t) ≡ S.Up
    → (m.part t).life ≡ Life.Running → IsFree (locks.stands c.locks) t (locks.wait_for r mode) → v ≡ view m t r
    → ((u : TxnId) (q : Rid) → locks.held locks_then u q
    ≡ cond (same_txn t u && same_rid r q) (Some (locks.raised (locks.held c.locks t r) mode)) (locks.held c.locks u q))
    → Good seen leaves Pending.Idle (with_locks locks_then c) (took t r (claim_of mode) (Act.Read r v ∷ []) m)
noted-good seen leaves c m t r mode v locks_then g idle up runs free is given =
    let bounds = up-there c g.shape.statuses (home t) up in
    takes-good t r (claim_of mode) (Act.Read r v ∷ []) locks_then seen leaves c m g (record {
      low = bounds.0;
      high = bounds.1;
      idle = idle;
      up = up;
      runs = runs;
      live = live_from-append [] (m.part t).acts (Act.Read r v ∷ []);
      kept = took-kept m t r (claim_of mode) (Act.Read r v ∷ []) (free-claims seen leaves Pending.Idle c m t r mode g free) (is, tt)
          (subst Holds (sym (claim-here r (claim_of mode) (m.part t).claims)) (mode-holds mode ((m.part t).claims r)), tt)
          (λ puts o. o) g.kept;
      others = λ u ne q. given u q
          ∙ ap (λ (b : Bool). cond (b && same_rid r q) (Some (locks.raised (locks.held c.locks t r) mode)) (locks.held c.locks u q))
          (ne-same t u (λ e. ne (sym e)));
      own = own-locks locks_then seen leaves Pending.Idle c m t r mode g (λ q. given t q
          ∙ ap (λ (b : Bool). cond (b && same_rid r q) (Some (locks.raised (locks.held c.locks t r) mode)) (locks.held c.locks t q))
          (eq-same t t refl));
    })
  where
    mode-holds : (md : Mode) (claim : Claim) → Holds (raised_claim (claim_of md) claim)
    mode-holds modes.Shared Claim.Free = tt
    mode-holds modes.Shared Claim.Shared = tt
    mode-holds modes.Shared Claim.Excl = tt
    mode-holds modes.Excl claim = tt
