-- A whole rollback ends: what it makes of the world. For `finish`.
use Rattle.std.proofs.Common.{◌≡◌, inr, ◌≤◌, length, refl, sym, ap, ◌∙◌, arith}
use Rattle.std.specs.Prelude.{None, Some}
use Rattle.sd_base.specs.declared.ids.TxnId.{TxnId}
use Rattle.sd_base.specs.declared.place.Status.TheVariants as S
use Rattle.sd_model.specs.Acts.{live}
use Rattle.sd_model.specs.Applies.{HasPage}
use Rattle.sd_model.specs.Causes.{order}
use Rattle.sd_model.specs.Changes.{goal}
use Rattle.sd_model.specs.State.{State, gone, put_part}
use Rattle.sd_model.specs.declared.act.Life.{Life}
use Rattle.sd_model.specs.declared.event.Event.TheVariants.{Undo}
use Rattle.sd_model.specs.declared.event.Reply.TheVariants as reply
use Rattle.sd_rig.specs.Devices.{DeviceImages}
use Rattle.sd_txn.specs.Transactions.{Transaction, depth_at, state_at}
use Rattle.sd_txn.specs.declared.state.TxnState.{TxnState}
use Rattle.sd_chain.specs.Records.{home}
use Rattle.sd_chain.specs.Logs.{Outcomes}
use Rattle.sd_world.specs.Bounds.{Bounds, bounds_after}
use Rattle.sd_world.specs.PageCauses.{NoneSays}
use Rattle.sd_world.specs.Serving.{Core, Turns}
use Rattle.sd_state.specs.Parts.{Parts, status_at, txns_at}
use Rattle.sd_update.specs.Sealing.{end_of}
use Rattle.sd_fits.specs.Fits.{Fits}
use Rattle.sd_fits.proofs.Leaving.{left_core}
use Rattle.sd_fits.proofs.Undoing as undoing
use Rattle.sd_ops.proofs.Lasts.{IsLastOf, idle-more}
use Rattle.sd_ops.proofs.Undone.{depth-is, rolling, serves, there}

-- the sums once it has ended
abbrev pub end_bounds : TxnId → Core → Bounds
end_bounds t w = bounds_after w.bounds (Undo t) reply.Finished

-- the world then
abbrev pub end_core : TxnId → Core → Core
end_core t w = left_core t (put_part t gone w.scene.state) (end_bounds t w) w

module _ (t : TxnId) (seen : DeviceImages) (leaves : Outcomes) (c : Parts) (w : Core) (f : Fits seen leaves c w)
    (low : 1 ≤ home t) (high : home t ≤ 8) (up : status_at c (home t) ≡ S.Up)
    (rolls : state_at (txns_at c (home t)) t ≡ Some (TxnState.Rolling None)) (empty : depth_at (txns_at c (home t)) t ≡ 0) where
  abbrev m : State
  m = w.scene.state

  pub life : (m.part t).life ≡ Life.Rolling None
  life = rolling t seen leaves c low high w f None up rolls

  -- nothing of it is live
  pub none-live : 0 ≡ length (live (m.part t).acts)
  none-live = sym empty ∙ depth-is t seen leaves c low high w f None up rolls

  pub head-there : ((m.part t).life ≡ Life.Gone → ⊥) × ((((m.inst (home t)).status ≡ S.Up) → ⊥) → ⊥)
  head-there = (
    there t seen leaves c low high w f (TxnState.Rolling None) up rolls,
    serves t seen leaves c low high w f (TxnState.Rolling None) up rolls,
  )

  unpaged : HasPage m (Undo t) → ⊥
  unpaged page =
      let same : Life.Rolling None ≡ Life.Rolling page.0 = sym life ∙ page.1 in
      let to : None ≡ page.0 = cc in
      let above = page.2 in
      let goal_is : 0 ≡ goal page.0 = ap goal to in
      let none = none-live in
      omega (arith, above, goal_is, none)

  pub pages-pass : NoneSays m w.pages (Undo t) (order (Undo t))
  pages-pass = (tt, (tt, (tt, ((λ lost. unpaged lost.0), ((λ away. unpaged away.0), (tt, tt))))))

  pub end-turns : Turns w (Undo t) reply.Finished (end_core t w)
  end-turns = record {
    wanted = None;
    near = tt;
    plays = record {
      step = (
        (f.good.not_closed, (head-there.0, (head-there.1, (tt, (tt, (tt, tt)))))),
        inr (inr (life, none-live, refl)),
      );
      waits = λ u. refl;
    };
    exact = tt;
    unused = tt;
    moves = (pages-pass, refl);
    within = tt;
    sums = refl;
  }

  -- its End
  pub end-last : (x : Transaction) → IsLastOf t (end_of t x c) (end_bounds t w) c w
  end-last x = record {
    own = refl;
    kind = refl;
    quiet = refl;
    next = refl;
    alive = undoing.rolling-open t None seen leaves c w f life low high up;
    apart = λ u doubt. refl;
    more = idle-more (home t) w.bounds (Undo t) reply.Finished refl (λ p. refl) (λ p. refl) (λ j. refl);
  }
