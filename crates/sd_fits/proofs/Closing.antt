-- All instances of a complex fail: how the devices that are left fit the world then. For whoever closes a complex.
use Rattle.std.proofs.Common.{◌≡◌, Bool, true, false, cond, List, [], ◌++◌, filter, refl, sym, ap, subst}
use Rattle.std.specs.Prelude.{Option, None}
use mathlib.Core.Path.{fun_ext}
use Rattle.sd_base.specs.Waits.{Wait, with_wait}
use Rattle.sd_base.specs.declared.ids.TxnId.{TxnId}
use Rattle.sd_base.specs.declared.trouble.Pick.{Pick}
use Rattle.sd_model.specs.Fields.{nobody}
use Rattle.sd_model.specs.Kept.{Kept}
use Rattle.sd_model.specs.Listed.{Listed}
use Rattle.sd_model.specs.Marks.{Marked}
use Rattle.sd_model.specs.Lives.{LivesAreSound}
use Rattle.sd_model.specs.Recoverers.{Recoverers}
use Rattle.sd_model.specs.Scenes.{is_running}
use Rattle.sd_model.specs.State.{State, closed, lost}
use Rattle.sd_model.specs.declared.act.Life.{Life}
use Rattle.sd_model.specs.declared.event.Event.TheVariants.{FailAll}
use Rattle.sd_model.specs.declared.event.Reply.TheVariants as reply
use Rattle.sd_model.proofs.RowsKept.{row-kept}
use Rattle.sd_model.proofs.Listed.{step-listed}
use Rattle.sd_model.proofs.MarksRun.{step-marked}
use Rattle.sd_model.proofs.PlacedRun.{step-placed}
use Rattle.sd_model.proofs.Recoverers.{step-recoverers}
use Rattle.sd_model.specs.Step.{Step}
use Rattle.sd_rig.specs.Devices as rig
use Rattle.sd_chain.specs.Bytes.{stable}
use Rattle.sd_chain.specs.Storage.{Recovered}
use Rattle.sd_chain.specs.Logs.{Outcomes}
use Rattle.sd_world.specs.Bounds.{bounds_after}
use Rattle.sd_world.specs.Serving.{Core, Turns}
use Rattle.sd_state.specs.Images.{Stands}
use Rattle.sd_state.specs.Values.{Pending, is_doubt}
use Rattle.sd_moves.proofs.FallModel.{cond-doubts, cond-gone, values-by}
use Rattle.sd_fits.specs.Closed.{AllFail, AllFailAgain, ClosedStays, FitsClosed, closed_core}
use Rattle.sd_fits.specs.Opened.{NoneMore}
use Rattle.sd_fits.specs.Sums.{IsWithinSums}
use Rattle.sd_fits.proofs.Fitting.{fits-stands}
use Rattle.sd_fits.proofs.Sums.{left-within, sums-stay}

-- ---- the state

-- nobody runs once all have failed
closed-rests : (life : Life) → is_running (lost life) ≡ false
closed-rests Life.Gone = refl
closed-rests Life.Running = refl
closed-rests Life.Retained = refl
closed-rests (Life.Rolling to) = refl
closed-rests (Life.Doubt cut) = refl

doubts-same : (m : State) (ts : List TxnId)
    → filter (λ t. is_doubt ((closed m).part t).life) ts ≡ filter (λ t. is_doubt (m.part t).life) ts
doubts-same m ts = ap (λ (test : TxnId → Bool). filter test ts) (fun_ext (λ (t : TxnId). cond-doubts true (m.part t)))

-- an image that stands for a state stands for it once all have failed
pub closed-stands : (m : State) (img : rig.DeviceImages) → Stands m Pending.Idle img → Stands (closed m) Pending.Idle img
closed-stands m img s = record {
  sound = s.sound;
  recovered = λ p r. subst (Recovered (stable img) p r)
      (sym (values-by m (closed m) Pending.Idle Pending.Idle (stable img).logs p r refl refl (λ t. refl)
      (ap (λ (ts : List TxnId). ts ++ []) (doubts-same m m.cuts))))
      (s.recovered p r);
  claimed = λ t alive. let was = s.claimed t alive in record {
    there = λ gone. was.there (cond-gone true (m.part t) gone);
    claims = was.claims;
  };
  epochs = λ j low high. let was = s.epochs j low high in record { low = was.low; high = was.high };
}

-- ---- the world

-- What is left stands for the world's state and is within its sums, which is one to which a run leads; and at most as much may be
-- left then.
module _ (leaves leaves' : Outcomes) (w : Core) (less : NoneMore leaves leaves') (pick : Pick)
    (stands : (img : rig.DeviceImages) → rig.Leaves leaves img → Stands w.scene.state Pending.Idle img)
    (sums : (img : rig.DeviceImages) → rig.Leaves leaves img → IsWithinSums img w.bounds)
    (kept : Kept w.scene.state) (placed : LivesAreSound w.scene.state) (listed : Listed w.scene.state) (marked : Marked w.scene.state)
    (recoverers : Recoverers w.scene.state) where
  abbrev m : State
  m = w.scene.state

  abbrev next : Core
  next = closed_core (bounds_after w.bounds (FailAll pick) reply.Did) w

  step : Step m (FailAll pick) reply.Did (closed m)
  step = (tt, refl)

  was-left : (img : rig.DeviceImages) → rig.Leaves leaves' img → rig.Leaves leaves img
  was-left img left d le = less d le (img d) (left d le)

  turns : Turns w (FailAll pick) reply.Did next
  turns = record {
    wanted = None;
    near = tt;
    plays = record {
      step = step;
      waits = λ t. sym (ap (λ (b : Bool). cond {A = Option Wait} b (with_wait nobody None w.scene.waits t) None)
          (closed-rests (m.part t).life));
    };
    exact = tt;
    unused = tt;
    moves = (tt, (w.pages.number, refl));
    within = tt;
    sums = refl;
  }

  fits : FitsClosed leaves' next
  fits = record {
    closed = λ i. refl;
    stands = λ img left. closed-stands m img (stands img (was-left img left));
    sums = λ img left. sums-stay img w.bounds (FailAll pick) reply.Did tt (sums img (was-left img left));
    kept = row-kept m (FailAll pick) reply.Did (closed m) tt refl kept;
    placed = step-placed m (FailAll pick) reply.Did (closed m) step placed;
    listed = step-listed m (FailAll pick) reply.Did (closed m) step listed;
    marked = step-marked m (FailAll pick) reply.Did (closed m) step marked;
    recoverers = step-recoverers m (FailAll pick) reply.Did (closed m) step recoverers;
    waits = λ t. refl;
    pages = record { entry = λ p. refl; asks = λ p. refl; begun = λ i. refl };
  }

  fail : Turns w (FailAll pick) reply.Did next × FitsClosed leaves' next
  fail = (turns, fits)

pub all-fail : (leaves leaves' : Outcomes) → AllFail leaves leaves'
all-fail leaves leaves' seen c w pick f less = fail leaves leaves' w less pick
    (λ img left. fits-stands leaves seen img c w f left) (λ img left. left-within leaves seen img c w f left)
    f.good.kept f.good.placed f.good.listed f.good.marked f.good.recoverers

-- ---- a closed complex

pub all-fail-again : (leaves leaves' : Outcomes) → AllFailAgain leaves leaves'
all-fail-again leaves leaves' w pick f less = fail leaves leaves' w less pick f.stands f.sums f.kept f.placed f.listed f.marked f.recoverers

-- it fits while at most as much may be left
pub closed-stays : (leaves leaves' : Outcomes) → ClosedStays leaves leaves'
closed-stays leaves leaves' w f less = record {
  closed = f.closed;
  stands = λ img left. f.stands img (λ d le. less d le (img d) (left d le));
  sums = λ img left. f.sums img (λ d le. less d le (img d) (left d le));
  kept = f.kept;
  placed = f.placed;
  listed = f.listed;
  marked = f.marked;
  recoverers = f.recoverers;
  waits = f.waits;
  pages = f.pages;
}
