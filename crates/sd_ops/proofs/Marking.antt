-- A transaction sets a mark. For `set_mark` of transactions.rt.
use Rattle.std.proofs.Common.{◌≡◌, ℕ, ◌≤◌, false, List, [], refl, sym, ap, ◌∙◌, subst, length}
use Rattle.std.specs.Prelude.{Option, None, Some, option_map}
use Rattle.std.specs.Option.{option_and_then}
use Rattle.sd_base.specs.declared.ids.TxnId.{TxnId}
use Rattle.sd_base.specs.declared.place.Status.TheVariants as S
use Rattle.sd_base.proofs.SameIds.{each_txn}
use Rattle.sd_model.specs.Acts.{live}
use Rattle.sd_model.specs.Changes.{marked, with_mark}
use Rattle.sd_model.specs.Listed.{IsAtWork}
use Rattle.sd_model.specs.Scenes.{is_running}
use Rattle.sd_model.specs.State.{Part, State}
use Rattle.sd_model.specs.declared.event.Event.TheVariants.{Save}
use Rattle.sd_model.specs.declared.event.Reply.TheVariants as reply
use Rattle.sd_rig.specs.Devices.{DeviceImages}
use Rattle.sd_txn.specs.Transactions.{OthersStay, Transaction, saved, state_at, txn_at}
use Rattle.sd_txn.specs.declared.state.TxnState.{TxnState}
use Rattle.sd_chain.specs.Records.{home}
use Rattle.sd_chain.specs.Logs.{Outcomes}
use Rattle.sd_world.specs.Bounds.{bounds_after}
use Rattle.sd_state.specs.Good.{Good}
use Rattle.sd_state.specs.Parts.{Parts, status_at, txns_at}
use Rattle.sd_state.specs.Values.{Pending, is_doubt}
use Rattle.sd_state.specs.Working.{with_txns}
use Rattle.sd_fits.specs.Fits.{Fits}
use Rattle.sd_fits.proofs.Heads.{is-ready}
use Rattle.sd_fits.proofs.Served.{bounds-stay}
use Rattle.sd_fits.proofs.Turning.{turned-fits, turned_core}
use Rattle.sd_ops.specs.Halves.{HalfServed}
use Rattle.sd_ops.proofs.Work.{IsWork, ready-passes}

-- a save is of a transaction that must run
pub save-work : (t : TxnId) (name : List ℕ) → IsWork (Save t name) t
save-work t name = record {
  rest = [];
  order = refl;
  txn = refl;
  serve = λ m up. up;
  serves = λ m up. up;
  busy = λ m rolls. rolls;
  works = λ m rolls. rolls;
  names = λ m. refl;
  unused = λ m r. tt;
}

saved-span : (name : List ℕ) (o : Option Transaction)
    → option_and_then (λ (x : Transaction). x.span) (option_map (saved name) o) ≡ option_and_then (λ (x : Transaction). x.span) o
saved-span name None = refl
saved-span name (Some x) = refl

-- the part with the mark
abbrev marked_part : List ℕ → Part → Part
marked_part name p = record p { marks = with_mark name (length (live p.acts)) p.marks }

module _ (t : TxnId) (name : List ℕ) (seen : DeviceImages) (leaves : Outcomes) (c new : Parts) (low : 1 ≤ home t) (high : home t ≤ 8)
    (up : status_at c (home t) ≡ S.Up) (state : state_at (txns_at c (home t)) t ≡ Some TxnState.Running) where
  -- the mark is set, and all wait as before
  pub marked-half : new ≡ with_txns (home t) (txns_at new (home t)) c
      → txn_at (txns_at new (home t)) t ≡ option_map (saved name) (txn_at (txns_at c (home t)) t)
      → OthersStay (txns_at c (home t)) (txns_at new (home t)) t
      → ((m : State) → Good seen leaves Pending.Idle c m → Good seen leaves Pending.Idle new (marked t name m))
      → HalfServed seen leaves None (Save t name) (Some reply.Did) c new
  marked-half is row others good = (
    λ w f.
        let m : State = w.scene.state in
        let ready = is-ready seen leaves Pending.Idle c m f.good t low high up state in
        let runs = ready.runs in
        let sums = bounds_after w.bounds (Save t name) reply.Did in
        let part : Part = marked_part name (m.part t) in
        let then : Good seen leaves Pending.Idle (with_txns (home t) (txns_at new (home t)) c) (marked t name m) =
        subst (λ (q : Parts). Good seen leaves Pending.Idle q (marked t name m)) is (good m f.good) in
        let head = ready-passes (Save t name) t (save-work t name) seen leaves c low high w f ready in (
          turned_core t part w.scene.waits sums w,
          record {
            near = tt;
            step = (head, (runs, refl));
            waits = λ u. refl;
            exact = tt;
            unused = tt;
            moves = ((tt, (tt, (tt, (tt, tt)))), refl);
            within = tt;
            sums = refl;
          },
          subst (λ (q : Parts). Fits seen leaves q (turned_core t part w.scene.waits sums w)) (sym is)
              (turned-fits t part (txns_at new (home t)) c.locks w.scene.waits sums seen leaves c w f (record {
                low = low;
                high = high;
                up = up;
                span = ap (option_and_then (λ (x : Transaction). x.span)) row ∙ saved-span name (txn_at (txns_at c (home t)) t);
                others = others;
                acts = refl;
                works = subst IsAtWork (sym runs) tt;
                sure = ap is_doubt runs;
                rolls = λ rolls. let clash = sym runs ∙ rolls in absurd (cc);
                waits = f.waits;
                waiting = each_txn t (λ u (q : Part). is_running q.life ≡ false → w.scene.waits u ≡ None) part m.part
                    (λ off. let clash = sym off ∙ ap is_running runs in absurd (cc)) (λ u ne off. f.waiting u off);
              }) then (bounds-stay seen c w.bounds (Save t name) reply.Did tt f.bounds)),
        ),
    λ fault. fault,
  )
