-- A commit is served: refused, bare, forced, or cut. For `commit` of transactions.rt.
use Rattle.std.proofs.Common.{◌≡◌, ◌≢◌, inr, ℕ, ◌-◌, ◌≤◌, false, cond, [], ◌∷◌, ◌++◌, slice_set, refl, sym, ap, ◌∙◌, subst}
use Rattle.std.specs.Prelude.{None, Some, Err}
use Rattle.sd_base.specs.Ids.{same_txn}
use Rattle.sd_base.specs.Streams.{Rises}
use Rattle.sd_base.specs.declared.ids.TxnId.{TxnId}
use Rattle.sd_base.specs.declared.place.Status.TheVariants as S
use Rattle.sd_base.specs.declared.refusal.Refusal.{Refusal}
use Rattle.sd_base.specs.declared.refusal.Refusal.TheVariants as R
use Rattle.sd_base.proofs.SameIds.{ne-same}
use Rattle.sd_log.specs.Logs.{forced}
use Rattle.sd_reclock.specs.Locks.{waits}
use Rattle.sd_rig.specs.Devices.{DeviceImages, Leaves}
use Rattle.sd_model.specs.Applies.{HasPut}
use Rattle.sd_model.specs.Listed.{IsAtWork}
use Rattle.sd_model.specs.State.{State, committed, cut_commit}
use Rattle.sd_model.specs.declared.act.Life.{Life}
use Rattle.sd_model.specs.declared.cause.Cause.{Cause}
use Rattle.sd_model.specs.declared.event.Event.TheVariants.{Commit}
use Rattle.sd_model.specs.declared.event.Reply.TheVariants as reply
use Rattle.sd_model.proofs.Moves.{doubted, in_doubt}
use Rattle.sd_model.proofs.Views.{part-elsewhere}
use Rattle.sd_txn.specs.Transactions.{state_at, without}
use Rattle.sd_txn.specs.declared.state.TxnState.{TxnState}
use Rattle.sd_chain.specs.Records.{home}
use Rattle.sd_world.specs.Serving.{Core, Telling, Turns, did}
use Rattle.sd_state.specs.Complexes.{parts}
use Rattle.sd_state.specs.Forcing.{with_failed, with_forced}
use Rattle.sd_state.specs.Good.{Good}
use Rattle.sd_state.specs.Images.{Stands}
use Rattle.sd_state.specs.Parts.{Parts, actor, is_loose, log_at, owed_at, status_at, txns_at}
use Rattle.sd_update.specs.Sealing.{commit_of}
use Rattle.sd_state.specs.Values.{Pending}
use Rattle.sd_state.specs.Working.{with_working}
use Rattle.sd_state.specs.declared.complex.Complex.{Complex}
use Rattle.sd_moves.specs.Falling.{IsFallen, with_fallen}
use Rattle.sd_moves.proofs.FallCuts.{cut-falls}
use Rattle.sd_fits.specs.Fits.{FitsDoubts}
use Rattle.sd_fits.specs.Serving.{Serving, fits_by, stands_for}
use Rattle.sd_fits.proofs.Falling.{fell_core, numbers_of, turns-fell}
use Rattle.sd_fits.proofs.Heads.{is-ready}
use Rattle.sd_fits.proofs.Sealing.{cut-doubts}
use Rattle.sd_fits.proofs.Values.{running-puts}
use Rattle.sd_ops.specs.Halves.{EndsWait, IsOff}
use Rattle.sd_ops.proofs.Commits.{commit-last, commit-life, commit-turns, commit_bounds}
use Rattle.sd_ops.proofs.Lasts.{IsLastOf, IsEnding, bare-serves, fell-serves, fell-wait, left-serves, owes, takes, then-good, was-settled}
use Rattle.sd_ops.proofs.WaitEnded.{half-serves}
use Rattle.sd_ops.proofs.Underway.{committed-stands, cut-stands}
use Rattle.sd_ops.proofs.Work.{IsWork, off-half, ready-passes}

-- a commit is of a transaction that must run
commit-work : (t : TxnId) → IsWork (Commit t) t
commit-work t = record {
  rest = Cause.Cut ∷ [];
  order = refl;
  txn = refl;
  serve = λ m up. up;
  serves = λ m up. up;
  busy = λ m rolls. rolls;
  works = λ m rolls. rolls;
  names = λ m. refl;
  unused = λ m r. tt;
}

-- ---- refused, or bare

-- there is always memory to refuse it
pub off-there : (t : TxnId) (c : Parts) (n : Refusal) → IsOff t c n → n ≢ R.Memory
off-there t c n off e = subst (IsOff t c) e off

module _ {G : Type 0} (tell : Telling G) (t : TxnId) (old new : Complex G) (same : new.rig ≡ old.rig)
    (now : (img : DeviceImages) → tell.since old.rig (tell.moment old.rig) img → Leaves (tell.leaves old.rig) img)
    (low : 1 ≤ home t) (high : home t ≤ 8) where
  pub off-served : (n : Refusal) → IsOff t (parts old) n → EndsWait t (Some n) (parts old) (parts new)
      → Serving tell (Commit t) (did {X = Unit {0}} (Err n)) old new
  off-served n off ends = half-serves tell None (Commit t) old old new now same {X = Unit {0}} (λ x. reply.Did)
      (λ x. record { after = λ asked. refl; waits = λ e wanted asks. refl }) (Err n)
      (off-half (Commit t) t (commit-work t) (tell.seen old.rig) (tell.leaves old.rig) (parts old) low high n off) ends

  pub bare-served : status_at (parts old) (home t) ≡ S.Up → state_at (txns_at (parts old) (home t)) t ≡ Some TxnState.Running
      → parts new ≡ with_working (home t) (without (txns_at (parts old) (home t)) t) (parts new).locks (parts old)
      → ((u : TxnId) → waits (parts new).locks u ≡ cond (same_txn t u) None (waits (parts old).locks u))
      → ((m : State) → Good (tell.seen old.rig) (tell.leaves old.rig) Pending.Idle (parts old) m
      → Good (tell.seen new.rig) (tell.leaves new.rig) Pending.Idle (parts new) (committed t m))
      → Serving tell (Commit t) (Some reply.Did) old new
  bare-served up runs is unwaited good = (
    λ w f. bare-serves tell t old new same now low high up is unwaited w f (committed t w.scene.state) (λ u. refl) (good w.scene.state f.good)
        (Commit t) reply.Did tt (commit-turns t (tell.seen old.rig) (tell.leaves old.rig) (parts old) w f low high up runs),
    ap tell.faults same,
  )

-- ---- one with a record

module _ {G : Type 0} {tell : Telling G} {t : TxnId} {old sealed then : Complex G}
    (k : IsEnding tell t (λ x. commit_of t x (parts old)) (Pending.Commits t) old sealed then)
    (runs : state_at (txns_at (parts old) (home t)) t ≡ Some TxnState.Running) where
  abbrev i : ℕ
  i = home t

  module _ (w : Core) (f : fits_by tell.seen tell.leaves old w) where
    life : (w.scene.state.part t).life ≡ Life.Running
    life = commit-life t (tell.seen old.rig) (tell.leaves old.rig) (parts old) w f k.low k.high k.up runs

    last : IsLastOf t (commit_of t k.ends.x (parts old)) (commit_bounds t w) (parts old) w
    last = commit-last t (tell.seen old.rig) (tell.leaves old.rig) (parts old) w f k.low k.high k.up runs k.ends.x

    -- where its Commit is cut, the transaction's puts are in place
    cut-there : FitsDoubts (tell.seen old.rig) (parts sealed) (doubted t w.scene.state)
    cut-there = subst (λ (p : Parts). FitsDoubts (tell.seen old.rig) p (doubted t w.scene.state)) (sym k.ends.is)
        (cut-doubts i k.ends.spare 0 (commit_of t k.ends.x (parts old)) (slice_set (parts old).txns (i - 1) k.ends.table) (parts old).epochs
        (tell.seen old.rig) (tell.leaves old.rig) Pending.Idle (parts old) w.scene.state f.good k.low k.high (was-settled k w f) refl refl
        (takes k w f (commit_bounds t w) last) (owes k w f (commit_bounds t w) last) t refl life last.alive
        (running-puts (tell.seen old.rig) (tell.leaves old.rig) (parts old) w.scene.state t f.good k.up life)
        (λ u ne. ne-same t u (λ e. ne (sym e))) f.doubts)

  -- ---- that is forced

  pub forced-served : (is_loose (parts sealed) i ≡ false
      → parts then ≡ with_forced i (forced (log_at (parts sealed) i)) (owed_at (parts then) i) (parts sealed))
      → (new : Complex G) → new.rig ≡ then.rig → tell.faults then.rig ≡ tell.faults sealed.rig
      → parts new ≡ with_working i (without (txns_at (parts then) i) t) (parts new).locks (parts then)
      → ((u : TxnId) → waits (parts new).locks u ≡ cond (same_txn t u) None (waits (parts then).locks u))
      → ((m : State) → Good (tell.seen then.rig) (tell.leaves then.rig) (Pending.Commits t) (parts then) m
      → Good (tell.seen new.rig) (tell.leaves new.rig) Pending.Idle (parts new) (committed t m))
      → Serving tell (Commit t) (Some reply.Did) old new
  forced-served is_forced new same quiet is unwaited good = (
    λ w f. left-serves k is_forced w f (commit_bounds t w) (last w f) new same is unwaited (committed t w.scene.state) (λ u. refl)
        (good w.scene.state (then-good k w f)) (Commit t) reply.Did
        (commit-turns t (tell.seen old.rig) (tell.leaves old.rig) (parts old) w f k.low k.high k.up runs)
        (λ img s. committed-stands t w.scene.state img s f.good.kept (life w f)),
    ap tell.faults same ∙ quiet ∙ ap tell.faults k.rig,
  )

  -- ---- whose force failed

  -- its instance falls
  module _ (is_failed : parts then ≡ with_failed (actor (parts sealed) i) i (parts sealed)) (new : Complex G) (same : new.rig ≡ then.rig)
      (is : parts new ≡ with_fallen i (parts new) (parts then)) (fallen : IsFallen i (parts then) (parts new))
      (good : (m : State) → Good (tell.seen then.rig) (tell.leaves then.rig) (Pending.Commits t) (parts then) m
      → Good (tell.seen new.rig) (tell.leaves new.rig) Pending.Idle (parts new) (cut_commit t m)) where
    abbrev core_then : Core → Core
    core_then w = fell_core i (doubted t w.scene.state)
        (numbers_of (tell.seen then.rig) (tell.leaves then.rig) (parts new)) (commit_bounds t w) w

    module _ (w : Core) (f : fits_by tell.seen tell.leaves old w) where
      abbrev m' : State
      m' = cut_commit t w.scene.state

      part-else : (u : TxnId) → home u ≢ i → (doubted t w.scene.state).part u ≡ w.scene.state.part u
      part-else u ne = part-elsewhere (record w.scene.state { cuts = w.scene.state.cuts ++ t ∷ [] }) t u (in_doubt (w.scene.state.part t))
          (λ e. ne (sym (ap home e)))

      good-then : Good (tell.seen new.rig) (tell.leaves new.rig) Pending.Idle (parts new) m'
      good-then = good w.scene.state (then-good k w f)

      has-put : HasPut (w.scene.state.part t).acts
      has-put = f.put t (subst IsAtWork (sym (life w f)) tt) k.there

      turns-cut : Turns w (Commit t) (reply.Refused R.CutCommit) (core_then w)
      turns-cut =
          let head = ready-passes (Commit t) t (commit-work t) (tell.seen old.rig) (tell.leaves old.rig) (parts old) k.low k.high w f
          (is-ready (tell.seen old.rig) (tell.leaves old.rig) Pending.Idle (parts old) w.scene.state f.good t k.low k.high k.up runs) in
          turns-fell i (doubted t w.scene.state) (numbers_of (tell.seen then.rig) (tell.leaves then.rig) (parts new)) w (Commit t)
          (reply.Refused R.CutCommit) (Cause.Cut, refl, tt, (refl, head, has-put), (life w f, refl))
          (fell-wait k is_failed w f (commit_bounds t w) (last w f) (doubted t w.scene.state) part-else (cut-there w f) new same is fallen good-then)
          tt tt
          (record {
            cause = Cause.Cut;
            names = refl;
            first = (refl, head, has-put);
            passes = (tt, (tt, (tt, (tt, tt))));
            says = λ b. absurd (cc);
            place = tt;
            leaves = (numbers_of (tell.seen then.rig) (tell.leaves then.rig) (parts new), refl);
          }) tt

      stands-cut : (img : DeviceImages) → Stands w.scene.state (Pending.Commits t) img → stands_for img m'
      stands-cut img s = let g = f.good in
          cut-stands t w.scene.state img s
          (cut-falls t w.scene.state (life w f) g.not_closed g.kept g.placed g.listed g.marked g.recoverers)

    pub cut-served : Rises (tell.faults sealed.rig) (tell.faults then.rig) → Serving tell (Commit t) (Some (reply.Refused R.CutCommit)) old new
    cut-served rises = (
      λ w f. fell-serves k is_failed w f (commit_bounds t w) (last w f) (doubted t w.scene.state) (part-else w f) (cut-there w f) new same is fallen
          (good-then w f) (Commit t) (reply.Refused R.CutCommit) (turns-cut w f) (λ img s. inr (stands-cut w f img s)),
      subst (λ (d : G). Rises (tell.faults old.rig) (tell.faults d)) (sym same)
          (subst (λ (d : G). Rises (tell.faults d) (tell.faults then.rig)) k.rig rises),
    )
