-- Where that force fails, the recoverer falls: for the goals of `undo_next`.
use Rattle.std.proofs.Common.{◌≡◌, ◌≢◌, inl, ⊎_elim, ℕ, ◌-◌, ◌^◌, ◌≤◌, Bool, true, false, cond, List, max, min, slice_set, refl, sym, ap, ◌∙◌, subst, arith}
use Rattle.std.specs.Prelude.{Option, Some, length, option_and_then}
use Rattle.std.specs.List.{IsDistinct}
use Rattle.std.proofs.lemmas.Bool.{cases_eq}
use Rattle.std.proofs.lemmas.List.{get_or-set_other, get_or-set_same, length-set}
use Rattle.sd_base.specs.Ids.{same_txn}
use Rattle.sd_base.specs.declared.ids.TxnId.{TxnId}
use Rattle.sd_base.specs.declared.place.Status.{Status}
use Rattle.sd_base.specs.declared.place.Status.TheVariants as S
use Rattle.sd_base.specs.declared.refusal.Refusal.TheVariants as R
use Rattle.sd_log.specs.Logs.{LogState, forced, with_record}
use Rattle.sd_model.specs.State.{State, fall}
use Rattle.sd_model.specs.declared.event.Event.TheVariants.{RecoverStep}
use Rattle.sd_model.specs.declared.event.Reply.TheVariants as reply
use Rattle.sd_moves.specs.Falling.{IsFallen, with_fallen}
use Rattle.sd_pagelock.specs.Directory.{entry_at}
use Rattle.sd_pagelock.specs.Places.{PageEntry, is_lost, owns}
use Rattle.sd_pagelock.specs.Rows.{dirtied}
use Rattle.sd_rig.specs.Devices.{Elapses, Span}
use Rattle.sd_txn.specs.Owing.{owed_of}
use Rattle.sd_txn.specs.Transactions.{Transaction, Transactions, ids, state_at, top, top_at}
use Rattle.sd_txn.specs.declared.state.OpenRec.{OpenRec}
use Rattle.sd_txn.specs.declared.state.TxnState.{TxnState}
use Rattle.sd_chain.specs.Checks.{owed}
use Rattle.sd_chain.specs.Records.{home}
use Rattle.sd_chain.specs.Logs.{all_at}
use Rattle.sd_world.specs.Answers.{MayRollBack, Undoes}
use Rattle.sd_world.specs.PageCauses.{IsNeededPage}
use Rattle.sd_world.specs.Pages.{Pages, page_placed, renumbered}
use Rattle.sd_world.specs.Serving.{Core, Serves, Telling}
use Rattle.sd_state.specs.Complexes.{parts}
use Rattle.sd_state.specs.Forcing.{KeepMasters, owed_as, owed_either, with_failed}
use Rattle.sd_state.specs.Good.{Good}
use Rattle.sd_state.specs.Images.{Stands}
use Rattle.sd_state.specs.Parts.{Parts, acting, actor, is_loose, log_at, no_log, no_txns, owed_at, status_at, txns_at}
use Rattle.sd_state.specs.Sums.{owes_most}
use Rattle.sd_state.specs.Tables.{tells_log}
use Rattle.sd_update.specs.Undoing.{HasUndone, clr_at}
use Rattle.sd_update.specs.UndoingFor.{own_forced}
use Rattle.sd_state.specs.Values.{Pending}
use Rattle.sd_state.specs.declared.complex.Complex.{Complex}
use Rattle.sd_state.proofs.Items.{item-kept, item-set}
use Rattle.sd_fits.specs.Fits.{Fits, FitsBounds, FitsDoubts, FitsPages}
use Rattle.sd_fits.specs.Serving.{fits_by, stands_for}
use Rattle.sd_fits.proofs.Falling.{numbers_of}
use Rattle.sd_fits.proofs.Recovering.{IsAside, broken, broken-fits, broken-turns, recovers-at, step_sums}
use Rattle.sd_recover.specs.Tasks.{AreThere}
use Rattle.sd_recover.proofs.Awaited.{page-needed}
use Rattle.sd_recover.proofs.Steps.{passes-to}
use Rattle.sd_recover.proofs.UndoneFor.{made, undone-bounds, undone-doubts}
use Rattle.sd_recover.proofs.UndoServed.{fin-aside, fin-pages, popped-owes, step-more}

some-same : (p q : ℕ × ℕ) → ◌≡◌ {A = Option (ℕ × ℕ)} (Some p) (Some q) → p ≡ q
some-same p q e = cc

pair-second : (a i x j : ℕ) → ◌≡◌ {A = ℕ × ℕ} (a, i) (x, j) → j ≡ i
pair-second a i x j e = sym (ap (λ (p : ℕ × ℕ). p.1) e)

second-is : (a i x j : ℕ) → ◌≡◌ {A = Option (ℕ × ℕ)} (Some (a, i)) (Some (x, j)) → j ≡ i
second-is a i x j e = pair-second a i x j (some-same (a, i) (x, j) e)

module _ {G : Type 0} (tell : Telling G) (a : ℕ) (t : TxnId) (old mid : Complex G) (low : 1 ≤ home t) (high : home t ≤ 8) (a_low : 1 ≤ a)
    (a_high : a ≤ 8) (recovers : status_at (parts old) (home t) ≡ S.Recovering a) (there : AreThere (parts old))
    (loser : state_at (txns_at (parts old) (home t)) t ≡ Some TxnState.Retained) (o : OpenRec)
    (last : top_at (txns_at (parts old) (home t)) t ≡ Some o) (held : owns (entry_at (parts old).directory o.rid.page) a ≡ true)
    (once : IsDistinct same_txn (ids (txns_at (parts old) (home t))))
    (good : (m : State) → Good (tell.seen old.rig) (tell.leaves old.rig) Pending.Idle (parts old) m
    → Good (tell.seen mid.rig) (tell.leaves mid.rig) Pending.Idle (parts mid) m)
    (time : Elapses (tell.moment old.rig) (tell.moment mid.rig) (tell.since old.rig) (tell.since mid.rig))
    (span : (m : State) → Good (tell.seen old.rig) (tell.leaves old.rig) Pending.Idle (parts old) m
    → Span (tell.moment old.rig) (tell.since mid.rig) (Stands m Pending.Idle))
    (disk : tell.seen mid.rig 0 ≡ tell.seen old.rig 0) (kept : KeepMasters (tell.leaves old.rig) (tell.leaves mid.rig)) where
  abbrev i : ℕ
  i = home t

  abbrev c : Parts
  c = parts old

  settled : is_loose c i ≡ false
  settled = there.0 i high

  own_settled : is_loose c a ≡ false
  own_settled = there.0 a a_high

  module _ (owes : ℕ) (owes_is : owes ≡ owed (all_at (log_at c a))) (between : Parts)
      (h : HasUndone a (Some (a, i)) t (own_forced a owes c) between) where
    abbrev e : Parts
    e = own_forced a owes c

    abbrev lg : LogState
    lg = log_at between i

    same-rec : h.o ≡ o
    same-rec = let is : Some h.o ≡ Some o = sym (ap (λ (x : Option Transaction). option_and_then top x) h.row ∙ h.last) ∙ last in cc

    held-h : owns (entry_at c.directory h.o.rid.page) a ≡ true
    held-h = subst (λ (r : OpenRec). owns (entry_at c.directory r.rid.page) a ≡ true) (sym same-rec) held

    eight : length e.logs ≡ 8 → length (slice_set e.logs (i - 1) lg) ≡ 8
    eight is = length-set e.logs (i - 1) lg ∙ is

    module _ (fails : parts mid ≡ with_failed (actor between i) i between) (w : Core) (f : fits_by tell.seen tell.leaves old w) where
      abbrev m : State
      m = w.scene.state

      abbrev ls : List LogState
      ls = slice_set e.logs (i - 1) lg

      abbrev os : List ℕ
      os = slice_set e.owed (i - 1) (owed_either between i)

      abbrev lo : List Bool
      lo = slice_set c.loose i true

      abbrev due : Option (ℕ × ℕ)
      due = Some (actor between i, i)

      abbrev fin : Parts
      fin = made a t (tell.seen old.rig) (tell.seen mid.rig) (tell.leaves old.rig) (tell.leaves mid.rig) c between w f low high a_low a_high
          recovers settled own_settled owes owes_is h held-h once disk kept ls os lo due

      is : parts mid ≡ fin
      is = fails ∙ ap (λ (q : Parts). record q {
        loose = slice_set q.loose i true;
        owed = slice_set q.owed (i - 1) (owed_either between i);
        due = due;
      }) h.rest

      logs-eight : length e.logs ≡ 8
      logs-eight = length-set c.logs (a - 1) (forced (log_at c a)) ∙ f.good.shape.logs

      owed-eight : length e.owed ≡ 8
      owed-eight = length-set c.owed (a - 1) owes ∙ f.good.shape.owed

      here : log_at fin i ≡ with_record (clr_at t h.x h.o h.image e) h.undone.spare (log_at e i)
      here = item-set no_log e.logs i lg low high logs-eight ∙ h.undone.grown

      elsewhere : (j : ℕ) → j ≢ i → log_at fin j ≡ log_at e j
      elsewhere j ne = item-kept no_log e.logs i lg low j ne

      good-fin : Good (tell.seen mid.rig) (tell.leaves mid.rig) Pending.Idle fin m
      good-fin = subst (λ (q : Parts). Good (tell.seen mid.rig) (tell.leaves mid.rig) Pending.Idle q m) is (good m f.good)

      loose-here : is_loose fin i ≡ true
      loose-here = get_or-set_same c.loose i true true (let nine = f.good.shape.loose in omega (arith, nine, high))

      between-recovers : status_at between i ≡ S.Recovering a
      between-recovers = ap (λ (q : Parts). status_at q i) h.rest ∙ recovers

      -- whoever recovers acts
      pub who : actor between i ≡ a
      who = ap (acting i) between-recovers

      table-owes : owed_of (txns_at between i) ≤ owed_of (txns_at c i)
      table-owes = popped-owes (txns_at c i) (txns_at between i) t h.x h.o _ once h.last h.undone.row

      either-owes : owed_either between i ≤ max (owed_at e i) (owed_of (txns_at c i))
      either-owes =
          let own = ap (λ (q : Parts). owed_at q i) h.rest in
          let by = ap (λ (s : Status). owed_as s (min (owed_of (txns_at between i)) (2 ^ 64 - 1)) (owed_at between i)) between-recovers in
          let less = table-owes in omega (arith, own, by, less)

      owes-here : owes_most fin i ≤ owes_most e i
      owes-here =
          let put_in = item-set 0 e.owed i (owed_either between i) low high owed-eight in
          let most = either-owes in
          subst (λ (b : Bool). cond b (owed_at fin i) (cond (tells_log (status_at c i)) (max (owed_at fin i) (owed_of (txns_at fin i))) (owed_at fin i))
          ≤ owes_most e i) (sym loose-here)
          (subst (λ (b : Bool). owed_at fin i ≤ cond b (owed_at e i) (cond (tells_log (status_at c i)) (max (owed_at e i) (owed_of (txns_at c i)))
          (owed_at e i))) (sym settled)
          (subst (λ (b : Bool). owed_at fin i ≤ cond b (max (owed_at e i) (owed_of (txns_at c i))) (owed_at e i)) (sym (ap tells_log recovers))
          (omega (arith, put_in, most))))

      owes-all : (j : ℕ) → 1 ≤ j → j ≤ 8 → owes_most fin j ≤ owes_most e j
      owes-all j lo_j hi = ⊎_elim
          (λ same. subst (λ (n : ℕ). owes_most fin n ≤ owes_most e n) (sym same) owes-here)
          (λ ne. let same = ap (λ (z : Transactions). cond (is_loose fin j) (owed_at fin j) (cond (tells_log (status_at c j)) (max (owed_at fin j) (owed_of z))
          (owed_at fin j))) (item-kept no_txns c.txns i (txns_at between i) low j ne)
          ∙ ap (λ (n : ℕ). cond (is_loose fin j) n (cond (tells_log (status_at c j)) (max n (owed_of (txns_at c j))) n))
          (item-kept 0 e.owed i (owed_either between i) low j ne)
          ∙ ap (λ (b : Bool). cond b (owed_at e j) (cond (tells_log (status_at c j)) (max (owed_at e j) (owed_of (txns_at c j))) (owed_at e j)))
          (get_or-set_other c.loose i j true true ne) in omega (arith, same))
          (cases_eq j i)

      due-i : (x j : ℕ) → due ≡ Some (x, j) → j ≡ i
      due-i x j is_due = second-is (actor between i) i x j is_due

      abbrev between_pages : Pages
      between_pages = page_placed h.o.rid.page (dirtied a) w.pages

      abbrev pages_then : Pages
      pages_then = renumbered (numbers_of (tell.seen mid.rig) (tell.leaves mid.rig) fin) between_pages

      may-roll : MayRollBack m i w.pages h.o.rid.page a
      may-roll = (
        recovers-at i a (tell.seen old.rig) (tell.leaves old.rig) c w f low high recovers,
        ap (λ (x : PageEntry). owns x a) (f.pages.entry h.o.rid.page) ∙ held-h,
        subst (λ (r : OpenRec). IsNeededPage m i r.rid.page) (sym same-rec)
            (page-needed t a (tell.seen old.rig) (tell.leaves old.rig) c w f low high recovers there loser o last),
        λ q. ap is_lost (f.pages.entry q) ∙ there.1 q,
      )

      aside : IsAside i c (parts mid)
      aside = subst (IsAside i c) (sym is)
          (fin-aside a t (tell.seen old.rig) (tell.seen mid.rig) (tell.leaves old.rig) (tell.leaves mid.rig) c between w f low high a_low a_high
          recovers settled own_settled owes owes_is h held-h once disk kept ls os lo due elsewhere)

      module _ (new : Complex G) (same : new.rig ≡ mid.rig) (fell : parts new ≡ with_fallen a (parts new) (parts mid))
          (fallen : IsFallen a (parts mid) (parts new))
          (down : (n : State) → Good (tell.seen mid.rig) (tell.leaves mid.rig) Pending.Idle (parts mid) n
          → Good (tell.seen new.rig) (tell.leaves new.rig) Pending.Idle (parts new) (fall a n)) where
        fits-then : Fits (tell.seen mid.rig) (tell.leaves mid.rig) (parts new)
            (broken i a (tell.seen old.rig) (tell.leaves old.rig) c w f low high recovers (tell.seen mid.rig) (tell.leaves mid.rig) (parts mid)
            (parts new) pages_then a_low a_high aside (good m f.good) fell fallen)
        fits-then = broken-fits i a (tell.seen old.rig) (tell.leaves old.rig) c w f low high recovers (tell.seen mid.rig) (tell.leaves mid.rig)
            (parts mid) (parts new) pages_then a_low a_high aside (good m f.good) fell fallen
            (subst (λ (q : Parts). FitsPages (tell.seen mid.rig) (tell.leaves mid.rig) q pages_then) (sym is)
            (fin-pages a t (tell.seen old.rig) (tell.seen mid.rig) (tell.leaves old.rig) (tell.leaves mid.rig) c between w f low high a_low a_high
            recovers settled own_settled owes owes_is h held-h once disk kept ls os lo due))
            (subst (λ (q : Parts). FitsBounds (tell.seen mid.rig) (tell.leaves mid.rig) q (step_sums i w)) (sym is)
            (undone-bounds a t (tell.seen old.rig) (tell.seen mid.rig) (tell.leaves old.rig) (tell.leaves mid.rig) c between w f low high a_low a_high
            recovers settled own_settled owes owes_is h held-h once disk kept ls os lo due (inl here) elsewhere due-i
            good-fin w.bounds (step_sums i w) (step-more i w) f.bounds owes-all))
            (subst (λ (q : Parts). FitsDoubts (tell.seen mid.rig) q m) (sym is)
            (undone-doubts a t (tell.seen old.rig) (tell.seen mid.rig) (tell.leaves old.rig) (tell.leaves mid.rig) c between w f low high a_low a_high
            recovers settled own_settled owes owes_is h held-h once disk kept ls os lo due (inl here) elsewhere due-i good-fin))
            (subst (λ (x : G). Good (tell.seen x) (tell.leaves x) Pending.Idle (parts new) (fall a m)) same (down m (good m f.good)))

        pub undo-breaks : (w' : Core) × Serves {C = Complex G} tell stands_for (λ k. k.rig) (fits_by tell.seen tell.leaves) (RecoverStep i)
            (reply.Refused R.Failed) old new w w'
        undo-breaks = (
          broken i a (tell.seen old.rig) (tell.leaves old.rig) c w f low high recovers (tell.seen mid.rig) (tell.leaves mid.rig) (parts mid)
              (parts new) pages_then a_low a_high aside (good m f.good) fell fallen,
          record {
            turns = broken-turns i a (tell.seen old.rig) (tell.leaves old.rig) c w f low high recovers (tell.seen mid.rig) (tell.leaves mid.rig)
                (parts mid) (parts new) between_pages a_low a_high aside (good m f.good) fell fallen (Undoes.one h.o.rid.page a may-roll refl);
            fits_then = subst (λ (x : G). Fits (tell.seen x) (tell.leaves x) (parts new)
                (broken i a (tell.seen old.rig) (tell.leaves old.rig) c w f low high recovers (tell.seen mid.rig) (tell.leaves mid.rig) (parts mid)
                (parts new) pages_then a_low a_high aside (good m f.good) fell fallen)) (sym same) fits-then;
            passes = passes-to tell i a old low high recovers mid good time span new m (fall a m) same f.good;
          },
        )
