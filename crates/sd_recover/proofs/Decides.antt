-- The transaction in doubt is decided, once its log has no tail: for the goals of `decide_next`.
use Rattle.std.proofs.Common.{◌≡◌, ⊎_elim, ℕ, ◌≤◌, Bool, false, cond, ◌||◌, List, [], ◌∷◌, max, refl, sym, ap, ◌∙◌, subst, arith}
use Rattle.std.specs.Prelude.{None, Some}
use Rattle.std.specs.List.{list_any}
use Rattle.std.proofs.lemmas.Bool.{cases_eq}
use Rattle.sd_base.specs.declared.ids.TxnId.{TxnId}
use Rattle.sd_base.specs.declared.place.Status.TheVariants as S
use Rattle.sd_logrec.specs.View.{Rec, flat}
use Rattle.sd_log.specs.Logs.{LogState, flats, forced, scanned}
use Rattle.sd_log.specs.declared.placed.Placed.{Placed}
use Rattle.sd_rig.specs.Devices.{DeviceImages}
use Rattle.sd_txn.specs.Owing.{owed_of}
use Rattle.sd_txn.specs.Transactions.{Transactions, span_at, state_at}
use Rattle.sd_txn.specs.declared.state.TxnState.{TxnState}
use Rattle.sd_chain.specs.Fates.{commits}
use Rattle.sd_chain.specs.Records.{home}
use Rattle.sd_model.specs.State.{State}
use Rattle.sd_model.specs.declared.event.Event.TheVariants.{RecoverStep}
use Rattle.sd_model.specs.declared.event.Reply.TheVariants as reply
use Rattle.sd_chain.specs.Logs.{Outcomes, base_at}
use Rattle.sd_chain.proofs.Kept.{forced-tail}
use Rattle.sd_world.specs.Bounds.{Bounds}
use Rattle.sd_world.specs.Serving.{Core, Telling, Turns}
use Rattle.sd_state.specs.Complexes.{parts}
use Rattle.sd_state.specs.Forcing.{with_forced}
use Rattle.sd_state.specs.Good.{Good}
use Rattle.sd_state.specs.Parts.{Parts, is_loose, log_at, no_txns, owed_at, status_at, txns_at}
use Rattle.sd_state.specs.Recovering.{with_table}
use Rattle.sd_state.specs.Sums.{great_of, owed_in_all, owes_most}
use Rattle.sd_state.specs.Tables.{tells_log}
use Rattle.sd_state.specs.Values.{Pending}
use Rattle.sd_state.specs.declared.complex.Complex.{Complex}
use Rattle.sd_state.proofs.Items.{item-kept}
use Rattle.sd_redo.proofs.Flats.{flats-log}
use Rattle.sd_moves.proofs.FallBounds.{sum-less}
use Rattle.sd_fits.specs.Fits.{Fits, FitsBounds}
use Rattle.sd_fits.specs.Serving.{Serving, fits_by}
use Rattle.sd_fits.proofs.Forcing.{no-more}
use Rattle.sd_fits.proofs.Recovering.{aside-fits, numbers-step, step-turns, step_core, step_sums}
use Rattle.sd_fits.proofs.Served.{bounds-stay}
use Rattle.sd_recover.proofs.Steps.{log-forced, then-serves}

-- ---- the records of a log without a tail

pub flats-base : (log : LogState) → log.tail ≡ [] → flats (scanned log) ≡ base_at log
flats-base log none = flats-log log none

pub any-flat : (p : Rec → Bool) (ps : List Placed) → list_any (λ q. p (flat q.rec)) ps ≡ list_any p (flats ps)
any-flat p [] = refl
any-flat p (x ∷ xs) = ap (λ (b : Bool). p (flat x.rec) || b) (any-flat p xs)

-- ---- a table that owes what it owed

module _ (i by : ℕ) (table : Transactions) (seen : DeviceImages) (leaves : Outcomes) (c : Parts) (w : Core) (f : Fits seen leaves c w) (low : 1 ≤ i)
    (high : i ≤ 8) (recovers : status_at c i ≡ S.Recovering by) (settled : is_loose c i ≡ false)
    (good : Good seen leaves Pending.Idle (with_table i table c) w.scene.state) where
  abbrev then : Parts
  then = with_table i table c

  owes-same : owed_of (txns_at then i) ≡ owed_of (txns_at c i)
  owes-same = (good.told i low high (ap tells_log recovers) settled).owes ∙ sym (f.good.told i low high (ap tells_log recovers) settled).owes

  owes : (j : ℕ) → 1 ≤ j → j ≤ 8 → owes_most then j ≤ owes_most c j
  owes j lo hi = ⊎_elim
      (λ e. subst (λ (k : ℕ). owes_most then k ≤ owes_most c k) (sym e)
      (let same = ap (λ (n : ℕ). cond (is_loose c i) (owed_at c i) (cond (tells_log (status_at c i)) (max (owed_at c i) n) (owed_at c i)))
      owes-same in omega (arith, same)))
      (λ ne. let same = ap (λ (z : Transactions). cond (is_loose c j) (owed_at c j) (cond (tells_log (status_at c j)) (max (owed_at c j) (owed_of z))
      (owed_at c j))) (item-kept no_txns c.txns i table low j ne) in omega (arith, same))
      (cases_eq j i)

  table-bounds : (b : Bounds) → FitsBounds seen leaves c b → FitsBounds seen leaves then b
  table-bounds b f = record {
    slots = f.slots;
    least = f.least;
    reach = f.reach;
    lsns = no-more (great_of c) (owed_in_all then) (owed_in_all c) b.lsns (sum-less (owes_most then) (owes_most c) 8 owes) f.lsns;
    masters = f.masters;
    left_masters = f.left_masters;
  }

  pub table-fits : Fits seen leaves then (step_core i w.pages w)
  table-fits = aside-fits i by seen leaves c w f low high recovers seen leaves then w.pages (step_sums i w)
      (record {
        opens = λ t ne opens. opens;
        spans = λ t ne. ap (λ (z : Transactions). span_at z t) (item-kept no_txns c.txns i table low (home t) ne);
        waits = λ t. refl;
      })
      f.idle good
      (record {
        frames = f.pages.frames;
        entry = f.pages.entry;
        asks = f.pages.asks;
        number = f.pages.number;
        begun = f.pages.begun;
      })
      (table-bounds (step_sums i w) (bounds-stay seen c w.bounds (RecoverStep i) reply.Step tt f.bounds)) f.doubts

-- ---- the decision

module _ {G : Type 0} (tell : Telling G) (by : ℕ) (t : TxnId) (old mid : Complex G) (low : 1 ≤ home t) (high : home t ≤ 8)
    (recovers : status_at (parts old) (home t) ≡ S.Recovering by) (settled : is_loose (parts old) (home t) ≡ false)
    (doubt : state_at (txns_at (parts old) (home t)) t ≡ Some TxnState.Doubt)
    (spared : Serving tell (RecoverStep (home t)) None old mid)
    (is : parts mid ≡ with_forced (home t) (forced (log_at (parts old) (home t))) (owed_at (parts mid) (home t)) (parts old)) where
  abbrev i : ℕ
  i = home t

  pub doubt-then : state_at (txns_at (parts mid) i) t ≡ Some TxnState.Doubt
  doubt-then = ap (λ (p : Parts). state_at (txns_at p i) t) is ∙ doubt

  pub recovers-then : status_at (parts mid) i ≡ S.Recovering by
  recovers-then = ap (λ (p : Parts). status_at p i) is ∙ recovers

  pub settled-then : is_loose (parts mid) i ≡ false
  settled-then = ap (λ (p : Parts). is_loose p i) is ∙ settled

  module _ (w : Core) (f : fits_by tell.seen tell.leaves old w) where
    pub fits-mid : fits_by tell.seen tell.leaves mid w
    fits-mid = (spared.0 w f).fits_still

    pub no-tail : (log_at (parts mid) i).tail ≡ []
    no-tail = ap (λ (p : Parts). (log_at p i).tail) is
        ∙ ap (λ (l : LogState). l.tail) (log-forced i i (owed_at (parts mid) i) (parts old) f.good.shape.logs low high)
        ∙ forced-tail (log_at (parts old) i)

    -- all records of the log are forced
    pub kept-then : (committed : Bool) → committed ≡ list_any (λ q. commits t (flat q.rec)) (scanned (log_at (parts mid) i))
        → committed ≡ list_any (commits t) (base_at (log_at (parts mid) i))
    kept-then committed e = e ∙ any-flat (commits t) (scanned (log_at (parts mid) i)) ∙ ap (list_any (commits t)) (flats-base (log_at (parts mid) i) no-tail)

  module _ (new : Complex G) (same : new.rig ≡ mid.rig) (table : parts new ≡ with_table i (txns_at (parts new) i) (parts mid))
      (good : (m : State) → Good (tell.seen mid.rig) (tell.leaves mid.rig) Pending.Idle (parts mid) m
      → Good (tell.seen new.rig) (tell.leaves new.rig) Pending.Idle (parts new) m) where
    turns : (w : Core) → fits_by tell.seen tell.leaves old w → fits_by tell.seen tell.leaves mid w
        → (w' : Core) × Turns w (RecoverStep i) reply.Step w' × Fits (tell.seen mid.rig) (tell.leaves mid.rig) (parts new) w'
    turns w f then =
        let m : State = w.scene.state in (
          step_core i w.pages w,
          step-turns i by (tell.seen old.rig) (tell.leaves old.rig) (parts old) w f low high recovers w.pages
              (numbers-step i by (tell.seen old.rig) (tell.leaves old.rig) (parts old) w f low high recovers w.pages.number),
          subst (λ (p : Parts). Fits (tell.seen mid.rig) (tell.leaves mid.rig) p (step_core i w.pages w)) (sym table)
              (table-fits i by (txns_at (parts new) i) (tell.seen mid.rig) (tell.leaves mid.rig) (parts mid) w then low high recovers-then
              settled-then
              (subst (λ (p : Parts). Good (tell.seen mid.rig) (tell.leaves mid.rig) Pending.Idle p m) table
              (subst (λ (d : G). Good (tell.seen d) (tell.leaves d) Pending.Idle (parts new) m) same (good m then.good)))),
        )

    pub decides : Serving tell (RecoverStep i) (Some reply.Step) old new
    decides = (then-serves tell i by old low high recovers mid new reply.Step spared same turns, ap tell.faults same ∙ spared.1)
