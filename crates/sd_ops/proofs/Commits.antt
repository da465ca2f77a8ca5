-- A transaction commits: what it makes of the world. For the calls that commit.
use Rattle.std.proofs.Common.{◌≡◌, ◌≤◌, refl, sym, ap, ◌∙◌}
use Rattle.std.specs.Prelude.{None, Some}
use Rattle.sd_base.specs.declared.ids.TxnId.{TxnId}
use Rattle.sd_base.specs.declared.place.Status.TheVariants as S
use Rattle.sd_base.proofs.SameIds.{ne-same}
use Rattle.sd_rig.specs.Devices.{DeviceImages}
use Rattle.sd_model.specs.State.{State, committed}
use Rattle.sd_model.specs.declared.act.Life.{Life}
use Rattle.sd_model.specs.declared.event.Event.TheVariants.{Commit}
use Rattle.sd_model.specs.declared.event.Reply.TheVariants as reply
use Rattle.sd_model.proofs.Steps.{commit-step}
use Rattle.sd_txn.specs.Transactions.{Transaction, state_at}
use Rattle.sd_txn.specs.declared.state.TxnState.{TxnState}
use Rattle.sd_chain.specs.Records.{home}
use Rattle.sd_chain.specs.Logs.{Outcomes}
use Rattle.sd_world.specs.Bounds.{Bounds, bounds_after}
use Rattle.sd_world.specs.Serving.{Core, Turns}
use Rattle.sd_state.specs.Parts.{Parts, status_at, txns_at}
use Rattle.sd_state.specs.Values.{Pending, is_doubt}
use Rattle.sd_update.specs.Sealing.{commit_of}
use Rattle.sd_fits.specs.Fits.{Fits}
use Rattle.sd_fits.proofs.Heads.{is-ready}
use Rattle.sd_fits.proofs.Leaving.{left_core}
use Rattle.sd_fits.proofs.Values.{running-open}
use Rattle.sd_ops.proofs.Lasts.{IsLastOf, idle-more}

-- the sums once it has committed
abbrev pub commit_bounds : TxnId → Core → Bounds
commit_bounds t w = bounds_after w.bounds (Commit t) reply.Did

-- the world then
abbrev pub commit_core : TxnId → Core → Core
commit_core t w = left_core t (committed t w.scene.state) (commit_bounds t w) w

module _ (t : TxnId) (seen : DeviceImages) (leaves : Outcomes) (c : Parts) (w : Core) (f : Fits seen leaves c w)
    (low : 1 ≤ home t) (high : home t ≤ 8) (up : status_at c (home t) ≡ S.Up)
    (runs : state_at (txns_at c (home t)) t ≡ Some TxnState.Running) where
  abbrev m : State
  m = w.scene.state

  pub commit-turns : Turns w (Commit t) reply.Did (commit_core t w)
  commit-turns = record {
    wanted = None;
    near = tt;
    plays = record {
      step = commit-step m t (is-ready seen leaves Pending.Idle c m f.good t low high up runs);
      waits = λ u. refl;
    };
    exact = tt;
    unused = tt;
    moves = ((tt, (tt, (tt, (tt, (tt, tt))))), refl);
    within = tt;
    sums = refl;
  }

  pub commit-life : (m.part t).life ≡ Life.Running
  commit-life = (is-ready seen leaves Pending.Idle c m f.good t low high up runs).runs

  -- its Commit
  pub commit-last : (x : Transaction) → IsLastOf t (commit_of t x c) (commit_bounds t w) c w
  commit-last x = record {
    own = refl;
    kind = refl;
    quiet = refl;
    next = refl;
    alive = running-open seen leaves c m t f.good up commit-life;
    apart = λ u doubt. ne-same t u (λ e.
        let clash = sym doubt ∙ ap (λ (v : TxnId). is_doubt (m.part v).life) (sym e) ∙ ap is_doubt commit-life in absurd (cc));
    more = idle-more (home t) w.bounds (Commit t) reply.Did refl (λ p. refl) (λ p. refl) (λ j. refl);
  }
