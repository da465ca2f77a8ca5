-- The End of a loser is forced, or its force fails: for the goals of `end_next`.
use Rattle.std.proofs.Common.{◌≡◌, ◌≢◌, ◌⊎◌, ℕ, ◌≤◌, true, false, refl, sym, ap, ◌∙◌, subst, suc}
use Rattle.std.specs.Prelude.{None, Option, Some, IsSome, is_some, length, option_and_then}
use Rattle.sd_txn.specs.Transactions.{Transaction, Transactions, top, top_at}
use Rattle.sd_state.proofs.Items.{item-set}
use Rattle.sd_recover.specs.Tasks.{tasks_in}
use Rattle.sd_recover.proofs.Left.{ended-fewer}
use Rattle.sd_base.specs.declared.ids.TxnId.{TxnId}
use Rattle.sd_base.specs.declared.place.Status.TheVariants as S
use Rattle.sd_base.specs.declared.refusal.Refusal.TheVariants as R
use Rattle.sd_log.specs.Logs.{forced}
use Rattle.sd_rig.specs.Devices.{Elapses, Span}
use Rattle.sd_chain.specs.Checks.{owed}
use Rattle.sd_chain.specs.Records.{home}
use Rattle.sd_chain.specs.Logs.{all_at}
use Rattle.sd_model.specs.State.{State, fall}
use Rattle.sd_model.specs.declared.event.Event.TheVariants.{RecoverStep}
use Rattle.sd_model.specs.declared.event.Reply.TheVariants as reply
use Rattle.sd_moves.specs.Falling.{IsFallen, with_fallen}
use Rattle.sd_world.specs.Answers.Undoes.{none}
use Rattle.sd_world.specs.Serving.{Core, Serves, Telling}
use Rattle.sd_state.specs.Complexes.{parts}
use Rattle.sd_state.specs.Forcing.{KeepMasters, with_failed, with_forced}
use Rattle.sd_state.specs.Good.{Good}
use Rattle.sd_state.specs.Images.{Stands}
use Rattle.sd_state.specs.Parts.{Parts, acting, actor, is_loose, log_at, no_txns, owed_at, status_at, txns_at}
use Rattle.sd_update.specs.Sealing.{HasEnd, end_of}
use Rattle.sd_state.specs.Values.{Pending}
use Rattle.sd_state.specs.declared.complex.Complex.{Complex}
use Rattle.sd_fits.specs.Fits.{Fits, FitsBounds, FitsDoubts, FitsPages}
use Rattle.sd_fits.specs.Serving.{fits_by, stands_for}
use Rattle.sd_fits.proofs.Disk.{other-device}
use Rattle.sd_fits.proofs.Forcing.{forced-bounds, forced-doubts, forced-pages}
use Rattle.sd_fits.proofs.Recovering.{IsAside, aside-fits, numbers-step, step-turns, step_core, step_sums}
use Rattle.sd_recover.proofs.Ends.{none-top, sealed-aside, sealed-bounds-fit, sealed-doubts-fit, sealed-pages-fit, sealed-recovers, sealed-settled}
use Rattle.sd_recover.proofs.Steps.{aside-then, breaks, failed-all, failed-aside, failed-due, forced-aside, forced-owes, log-forced, passes-to}

module _ {G : Type 0} (tell : Telling G) (by : ℕ) (t : TxnId) (old sealed then : Complex G) (low : 1 ≤ home t) (high : home t ≤ 8)
    (recovers : status_at (parts old) (home t) ≡ S.Recovering by) (settled : is_loose (parts old) (home t) ≡ false)
    (reads : tell.leaves old.rig 0 (tell.seen old.rig 0)) (rig : sealed.rig ≡ old.rig)
    (ends : HasEnd t (λ x. end_of t x (parts old)) (parts old) (parts sealed))
    (seals : (m : State) → Good (tell.seen old.rig) (tell.leaves old.rig) Pending.Idle (parts old) m
    → Good (tell.seen sealed.rig) (tell.leaves sealed.rig) Pending.Idle (parts sealed) m)
    (good : (pend : Pending) (m : State) → Good (tell.seen sealed.rig) (tell.leaves sealed.rig) pend (parts sealed) m
    → Good (tell.seen then.rig) (tell.leaves then.rig) pend (parts then) m)
    (images : (pend : Pending) (m : State) → Good (tell.seen sealed.rig) (tell.leaves sealed.rig) pend (parts sealed) m
    → Span (tell.moment sealed.rig) (tell.since then.rig) (Stands m pend))
    (time : Elapses (tell.moment sealed.rig) (tell.moment then.rig) (tell.since sealed.rig) (tell.since then.rig))
    (others : (d : ℕ) → d ≢ home t → tell.seen then.rig d ≡ tell.seen sealed.rig d)
    (masters : KeepMasters (tell.leaves sealed.rig) (tell.leaves then.rig)) where
  abbrev i : ℕ
  i = home t

  abbrev GoodOld : State → Type 0
  GoodOld m = Good (tell.seen old.rig) (tell.leaves old.rig) Pending.Idle (parts old) m

  good-then : (m : State) → GoodOld m → Good (tell.seen then.rig) (tell.leaves then.rig) Pending.Idle (parts then) m
  good-then m g = good Pending.Idle m (seals m g)

  good-sealed : (m : State) → GoodOld m → Good (tell.seen old.rig) (tell.leaves old.rig) Pending.Idle (parts sealed) m
  good-sealed m g = subst (λ (d : G). Good (tell.seen d) (tell.leaves d) Pending.Idle (parts sealed) m) rig (seals m g)

  time-then : Elapses (tell.moment old.rig) (tell.moment then.rig) (tell.since old.rig) (tell.since then.rig)
  time-then = subst (λ (d : G). Elapses (tell.moment d) (tell.moment then.rig) (tell.since d) (tell.since then.rig)) rig time

  span-then : (m : State) → GoodOld m → Span (tell.moment old.rig) (tell.since then.rig) (Stands m Pending.Idle)
  span-then m g = subst (λ (d : G). Span (tell.moment d) (tell.since then.rig) (Stands m Pending.Idle)) rig (images Pending.Idle m (seals m g))

  disk : tell.seen then.rig 0 ≡ tell.seen old.rig 0
  disk = others 0 (other-device i low) ∙ ap (λ (d : G). tell.seen d 0) rig

  kept : KeepMasters (tell.leaves old.rig) (tell.leaves then.rig)
  kept = subst (λ (d : G). KeepMasters (tell.leaves d) (tell.leaves then.rig)) rig masters

  module _ (w : Core) (f : fits_by tell.seen tell.leaves old w) where
    abbrev m : State
    m = w.scene.state

    settled-then : is_loose (parts sealed) i ≡ false
    settled-then = sealed-settled t by (tell.seen old.rig) (tell.leaves old.rig) (parts old) w f low high recovers settled (parts sealed) reads ends
        (good-sealed m f.good)

    aside : IsAside i (parts old) (parts sealed)
    aside = sealed-aside t by (tell.seen old.rig) (tell.leaves old.rig) (parts old) w f low high recovers settled (parts sealed) reads ends
        (good-sealed m f.good)

    pages : FitsPages (tell.seen old.rig) (tell.leaves old.rig) (parts sealed) w.pages
    pages = sealed-pages-fit t by (tell.seen old.rig) (tell.leaves old.rig) (parts old) w f low high recovers settled (parts sealed) reads ends
        (good-sealed m f.good)

    bounds : FitsBounds (tell.seen old.rig) (tell.leaves old.rig) (parts sealed) (step_sums i w)
    bounds = sealed-bounds-fit t by (tell.seen old.rig) (tell.leaves old.rig) (parts old) w f low high recovers settled (parts sealed) reads ends
        (good-sealed m f.good)

    doubts : FitsDoubts (tell.seen old.rig) (parts sealed) m
    doubts = sealed-doubts-fit t by (tell.seen old.rig) (tell.leaves old.rig) (parts old) w f low high recovers settled (parts sealed) reads ends
        (good-sealed m f.good)

    -- who recovers acts
    who : actor (parts sealed) i ≡ by
    who = ap (acting i) (sealed-recovers t by (tell.seen old.rig) (tell.leaves old.rig) (parts old) w f low high recovers settled (parts sealed)
        reads ends (good-sealed m f.good))

    -- ---- forced

    module _ (is : parts then ≡ with_forced i (forced (log_at (parts sealed) i)) (owed_at (parts then) i) (parts sealed)) where
      abbrev owes : ℕ
      owes = owed_at (parts then) i

      owes-is : owes ≡ owed (all_at (log_at (parts sealed) i))
      owes-is = forced-owes i (tell.seen then.rig) (tell.leaves then.rig) (parts sealed) (parts then) m low high (good-then m f.good)
          (ap (λ (k : Parts). log_at k i) is ∙ log-forced i i owes (parts sealed) (good-sealed m f.good).shape.logs low high)
          (ap (λ (k : Parts). is_loose k i) is ∙ settled-then)

      abbrev made : Parts
      made = with_forced i (forced (log_at (parts sealed) i)) owes (parts sealed)

      fits-then : Fits (tell.seen then.rig) (tell.leaves then.rig) (parts then) (step_core i w.pages w)
      fits-then = subst (λ (p : Parts). Fits (tell.seen then.rig) (tell.leaves then.rig) p (step_core i w.pages w)) (sym is)
          (aside-fits i by (tell.seen old.rig) (tell.leaves old.rig) (parts old) w f low high recovers (tell.seen then.rig) (tell.leaves then.rig)
          made w.pages (step_sums i w)
          (aside-then i (parts old) (parts sealed) made aside
          (forced-aside i i owes (parts sealed) (good-sealed m f.good).shape.logs low high))
          (ap (λ (p : Parts). p.due) ends.is ∙ f.idle)
          (subst (λ (p : Parts). Good (tell.seen then.rig) (tell.leaves then.rig) Pending.Idle p m) is (good-then m f.good))
          (forced-pages i owes (tell.seen old.rig) (tell.seen then.rig) (tell.leaves old.rig) (tell.leaves then.rig) Pending.Idle (parts sealed) m
          (good-sealed m f.good) low high settled-then disk owes-is w.pages pages)
          (forced-bounds i owes (tell.seen old.rig) (tell.seen then.rig) (tell.leaves old.rig) (tell.leaves then.rig) Pending.Idle (parts sealed) m
          (good-sealed m f.good) low high settled-then disk owes-is kept (step_sums i w) bounds)
          (forced-doubts i owes (tell.seen old.rig) (tell.seen then.rig) (tell.leaves old.rig) (tell.leaves then.rig) Pending.Idle (parts sealed) m
          (good-sealed m f.good) low high settled-then disk owes-is m doubts))

      pub end-step : (w' : Core) × Serves {C = Complex G} tell stands_for (λ k. k.rig) (fits_by tell.seen tell.leaves) (RecoverStep i)
          reply.Step old then w w'
      end-step = (
        step_core i w.pages w,
        record {
          turns = step-turns i by (tell.seen old.rig) (tell.leaves old.rig) (parts old) w f low high recovers w.pages
              (numbers-step i by (tell.seen old.rig) (tell.leaves old.rig) (parts old) w f low high recovers w.pages.number);
          fits_then = fits-then;
          passes = passes-to tell i by old low high recovers then good-then time-then span-then then m m refl f.good;
        },
      )

    -- ---- not forced

    module _ (is : parts then ≡ with_failed (actor (parts sealed) i) i (parts sealed)) where
      pub end-due : ((parts then).due ≡ None) ⊎ ((j : ℕ) × ((parts then).due ≡ Some (by, j)) × (is_loose (parts then) j ≡ true))
      end-due = subst (λ (a : ℕ). ((parts then).due ≡ None) ⊎ ((j : ℕ) × ((parts then).due ≡ Some (a, j)) × (is_loose (parts then) j ≡ true))) who
          (failed-due (actor (parts sealed) i) i (tell.seen old.rig) (tell.seen then.rig) (tell.leaves old.rig) (tell.leaves then.rig)
          (parts sealed) (parts then) m (good-sealed m f.good) low high settled-then disk kept is)

      pub end-fails : (by_low : 1 ≤ by) (by_high : by ≤ 8) (new : Complex G) → new.rig ≡ then.rig
          → parts new ≡ with_fallen by (parts new) (parts then) → IsFallen by (parts then) (parts new)
          → ((n : State) → Good (tell.seen then.rig) (tell.leaves then.rig) Pending.Idle (parts then) n
          → Good (tell.seen new.rig) (tell.leaves new.rig) Pending.Idle (parts new) (fall by n))
          → (w' : Core) × Serves {C = Complex G} tell stands_for (λ k. k.rig) (fits_by tell.seen tell.leaves) (RecoverStep i)
          (reply.Refused R.Failed) old new w w'
      end-fails by_low by_high new same fell fallen down =
          let all = failed-all (actor (parts sealed) i) i (tell.seen old.rig) (tell.seen then.rig) (tell.leaves old.rig) (tell.leaves then.rig)
          (parts sealed) (parts then) m (good-sealed m f.good) low high settled-then disk kept is w.pages (step_sums i w) pages bounds doubts in
          breaks tell i by old low high recovers then good-then time-then span-then by_low by_high new same fell fallen down w f w.pages
          (failed-aside (actor (parts sealed) i) i (tell.seen old.rig) (tell.seen then.rig) (tell.leaves old.rig) (tell.leaves then.rig)
          (parts sealed) (parts then) m (good-sealed m f.good) low high settled-then disk kept is i (parts old) aside)
          (none refl) all.0 all.1 all.2

-- its row owes no End any more
pub end-fewer : (t : TxnId) (old sealed then : Parts) → 1 ≤ home t → home t ≤ 8 → length old.txns ≡ 8 → top_at (txns_at old (home t)) t ≡ None
    → (h : HasEnd t (λ x. end_of t x old) old sealed)
    → then ≡ with_forced (home t) (forced (log_at sealed (home t))) (owed_at then (home t)) sealed
    → suc (tasks_in (txns_at then (home t))) ≡ tasks_in (txns_at old (home t))
end-fewer t old sealed then low high eight bare h is =
    ap (λ (p : Parts). suc (tasks_in (txns_at p (home t)))) is
    ∙ ap (λ (p : Parts). suc (tasks_in (txns_at p (home t)))) h.is
    ∙ ap (λ (z : Transactions). suc (tasks_in z)) (item-set no_txns old.txns (home t) h.table low high eight)
    ∙ ended-fewer (txns_at old (home t)) h.table t h.x h.ended.once h.ended.row (there h.x.span h.ended.there)
    (none-top h.x.stack (sym (ap (λ (q : Option Transaction). option_and_then top q) h.ended.row.was) ∙ bare))
  where
    there : (o : Option (ℕ × ℕ)) → IsSome o → is_some o ≡ true
    there None e = absurd (cc)
    there (Some x) e = refl
