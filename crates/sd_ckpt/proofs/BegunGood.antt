-- A complex in which an instance has begun a checkpoint: it is good for the same state.
use Rattle.std.proofs.Common.{◌≡◌, ◌≢◌, ◌⊎◌, inl, inr, ⊎_elim, ℕ, ◌-◌, sym, ap, ◌∙◌, subst}
use Rattle.std.specs.Prelude.{Option, None, Some}
use Rattle.std.proofs.lemmas.Bool.{cases_eq}
use Rattle.std.proofs.lemmas.List.{length-set}
use Rattle.sd_model.specs.State.{State}
use Rattle.sd_rig.specs.Devices as rig
use Rattle.sd_chain.specs.Checkpoints.{Closed, Covered}
use Rattle.sd_chain.specs.Images.{Keeps}
use Rattle.sd_chain.specs.Logs.{Outcomes, may_of, tails_of}
use Rattle.sd_chain.proofs.Checkpoints.{cover-begins}
use Rattle.sd_state.specs.Good.{Good, Half, IsChecking, base_of, dir_of}
use Rattle.sd_state.specs.Images.{leaves_by, log_by}
use Rattle.sd_state.specs.Parts.{Begun, Parts, check_at, low_of}
use Rattle.sd_state.specs.Values.{Pending}
use Rattle.sd_state.proofs.Items.{item-kept, item-set}
use Rattle.sd_ckpt.specs.Beginnings.{CheckIsGood, MayBeginCheck, with_check}
use Rattle.sd_ckpt.proofs.Begins.{closed-begun}

module _ (leaves : Outcomes) (i : ℕ) (k : Begun) (seen : rig.DeviceImages) (c : Parts) (m : State)
    (g : Good seen leaves Pending.Idle c m) (reads : leaves i (seen i)) (may : MayBeginCheck i k c) where
  abbrev new : Parts
  new = with_check i k c

  here : check_at new i ≡ Some k
  here = item-set {A = Option Begun} None c.checks i (Some k) may.low may.high g.shape.checks

  else : (j : ℕ) → j ≢ i → check_at new j ≡ check_at c j
  else = item-kept {A = Option Begun} None c.checks i (Some k) may.low

  -- each is the new one, or was there
  which-is : (j : ℕ) (b : Begun) → check_at new j ≡ Some b → ((j ≡ i) × (b ≡ k)) ⊎ (check_at c j ≡ Some b)
  which-is j b is = ⊎_elim
      (λ e. let both : Some k ≡ Some b = sym here ∙ ap (check_at new) (sym e) ∙ is in let same : k ≡ b = cc in inl (e, sym same))
      (λ ne. inr (sym (else j ne) ∙ is))
      (cases_eq j i)

  covered : (moved : Keeps) → Covered (low_of k) i (base_of seen (leaves_by c moved leaves) (log_by c moved) c)
  covered moved = cover-begins (may_of (leaves_by c moved leaves)) (low_of k) i
      (base_of seen (leaves_by c moved leaves) (log_by c moved) c)
      (dir_of c) (g.half moved).coherent may.recs

  closed : (moved : Keeps) → Closed (low_of k) i (tails_of (log_by c moved))
  closed = closed-begun i (low_of k) seen leaves c m may.low may.high g reads may.takes may.settled may.firsts

  half : (moved : Keeps) → Half seen (leaves_by new moved leaves) (log_by new moved) Pending.Idle new m
  half moved = let h = g.half moved in record {
    coherent = h.coherent;
    soundly = h.soundly;
    gives = h.gives;
    claimed = h.claimed;
    held = h.held;
    epochs = h.epochs;
    checks = λ j b is. ⊎_elim
        (λ e. subst (λ (n : ℕ). Covered (low_of b) n (base_of seen (leaves_by c moved leaves) (log_by c moved) c)
        × Closed (low_of b) n (tails_of (log_by c moved)))
        (sym e.0)
        (subst (λ (x : Begun). Covered (low_of x) i (base_of seen (leaves_by c moved leaves) (log_by c moved) c)
        × Closed (low_of x) i (tails_of (log_by c moved)))
        (sym e.1) (covered moved, closed moved)))
        (λ old. h.checks j b old)
        (which-is j b is);
  }

  checking : (j : ℕ) (b : Begun) → check_at new j ≡ Some b → IsChecking new j b
  checking j b is = ⊎_elim
      (λ e. subst (λ (n : ℕ). IsChecking new n b) (sym e.0) (subst (IsChecking new i) (sym e.1)
      (record { takes = may.takes; spelled = may.spelled; begun = may.begun })))
      (λ was. let old = g.checking j b was in record { takes = old.takes; spelled = old.spelled; begun = old.begun })
      (which-is j b is)

  then-good : Good seen leaves Pending.Idle new m
  then-good = record {
    shape = record {
      logs = g.shape.logs;
      pools = g.shape.pools;
      txns = g.shape.txns;
      statuses = g.shape.statuses;
      epochs = g.shape.epochs;
      masters = g.shape.masters;
      checks = length-set {A = Option Begun} c.checks (i - 1) (Some k) ∙ g.shape.checks;
      others = g.shape.others;
      owed = g.shape.owed;
      loose = g.shape.loose;
      own_log = g.shape.own_log;
      own_txns = g.shape.own_txns;
    };
    half = half;
    places = g.places;
    others = g.others;
    settled = λ j lo hi e. let old = g.settled j lo hi e in
        record { only = old.only; stands = old.stands; one_place = old.one_place; counted = old.counted; epoch = old.epoch };
    disk_settled = g.disk_settled;
    disk_lsns = g.disk_lsns;
    last = g.last;
    owed = g.owed;
    owed_loose = g.owed_loose;
    kept = g.kept;
    placed = g.placed;
    listed = g.listed;
    marked = g.marked;
    named = g.named;
    numbered = g.numbered;
    recoverers = g.recoverers;
    not_closed = g.not_closed;
    instances = λ j lo hi. let old = g.instances j lo hi in
        record {
          status = old.status;
          epoch = old.epoch;
          first = old.first;
          table = old.table;
          begins = old.begins;
          own = old.own;
          names = old.names;
        };
    told = λ j lo hi tells e. let old = g.told j lo hi tells e in
        record { rows = old.rows; owes = old.owes; reserves = old.reserves; spare = old.spare };
    at_rest = g.at_rest;
    begun = g.begun;
    at_work = g.at_work;
    going = g.going;
    pending = tt;
    gone = g.gone;
    locks = g.locks;
    asks = g.asks;
    checking = checking;
  }

pub begun-good : (leaves : Outcomes) → CheckIsGood leaves
begun-good = then-good
