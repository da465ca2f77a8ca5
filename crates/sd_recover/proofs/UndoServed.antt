-- An undo for a loser serves a step of its recovery: for the goals of `undo_next`.
use Rattle.std.proofs.Common.{◌≡◌, ◌≢◌, ⊎_elim, ℕ, ◌+◌, ◌≤◌, Bool, true, false, cond, eqb, eq-eqb, List, refl, sym, ap, ◌∙◌, subst, arith}
use Rattle.std.specs.Prelude.{Option, Some, if◌then◌else◌, is_some, length}
use Rattle.std.specs.List.{IsDistinct}
use Rattle.std.proofs.lemmas.Bool.{cases_eq, ne_eqb}
use Rattle.sd_base.specs.Ids.{same_txn}
use Rattle.sd_base.specs.declared.ids.TxnId.{TxnId}
use Rattle.sd_base.specs.declared.place.Status.TheVariants as S
use Rattle.sd_log.specs.Logs.{LogState}
use Rattle.sd_model.specs.State.{State}
use Rattle.sd_pagelock.specs.Asks.{open_asks}
use Rattle.sd_pagelock.specs.Directory.{asks_at, entry_at}
use Rattle.sd_pagelock.specs.Places.{PageEntry, owns}
use Rattle.sd_pagelock.specs.Rows.{dirtied}
use Rattle.sd_pool.specs.Buffers.{Buffers}
use Rattle.sd_rig.specs.Devices.{DeviceImages}
use Rattle.sd_txn.specs.Owing.{owed_of, records_owed}
use Rattle.sd_txn.specs.Transactions.{Transaction, Transactions, Replaces, ids, noted, popped, span_at, top}
use Rattle.sd_txn.specs.declared.state.OpenRec.{OpenRec}
use Rattle.sd_txn.proofs.Owing.{records_owed-popped, total-replaced}
use Rattle.sd_chain.specs.Checks.{owed}
use Rattle.sd_chain.specs.Records.{IsOpen, home}
use Rattle.sd_chain.specs.Logs.{Outcomes, all_at}
use Rattle.sd_world.specs.Pages.{Pages, page_placed, renumbered}
use Rattle.sd_world.specs.Serving.{Core}
use Rattle.sd_state.specs.Forcing.{KeepMasters}
use Rattle.sd_state.specs.Parts.{Parts, is_loose, log_at, no_pool, no_txns, pool_at, status_at, txns_at}
use Rattle.sd_update.specs.Undoing.{HasUndone}
use Rattle.sd_update.specs.UndoingFor.{own_forced}
use Rattle.sd_state.proofs.Items.{item-kept, item-set}
use Rattle.sd_fits.specs.Fits.{Fits, FitsPages}
use Rattle.sd_fits.proofs.Falling.{numbers_of}
use Rattle.sd_fits.proofs.Recovering.{IsAside, step_sums}
use Rattle.sd_fits.proofs.Sealing.{AreMore}
use Rattle.sd_recover.proofs.Steps.{all-same}
use Rattle.sd_recover.proofs.UndoneFor.{made}

module _ (a : ℕ) (t : TxnId) (seen seen' : DeviceImages) (leaves leaves' : Outcomes) (c between : Parts) (w : Core) (f : Fits seen leaves c w)
    (low : 1 ≤ home t) (high : home t ≤ 8) (a_low : 1 ≤ a) (a_high : a ≤ 8) (recovers : status_at c (home t) ≡ S.Recovering a)
    (settled : is_loose c (home t) ≡ false) (own_settled : is_loose c a ≡ false) (owes : ℕ) (owes_is : owes ≡ owed (all_at (log_at c a)))
    (h : HasUndone a (Some (a, home t)) t (own_forced a owes c) between) (held : owns (entry_at c.directory h.o.rid.page) a ≡ true)
    (once : IsDistinct same_txn (ids (txns_at c (home t)))) (disk : seen' 0 ≡ seen 0) (kept : KeepMasters leaves leaves') where
  abbrev m : State
  m = w.scene.state

  abbrev i : ℕ
  i = home t

  abbrev e : Parts
  e = own_forced a owes c

  abbrev p : ℕ
  p = h.o.rid.page

  abbrev pages_then : Pages
  pages_then = page_placed p (dirtied a) w.pages

  module _ (ls : List LogState) (os : List ℕ) (lo : List Bool) (d : Option (ℕ × ℕ)) where
    abbrev fin : Parts
    fin = made a t seen seen' leaves leaves' c between w f low high a_low a_high recovers settled own_settled owes owes_is h held once disk kept ls os lo d

    -- pages, by any numbers
    pub fin-pages : FitsPages seen' leaves' fin (renumbered (numbers_of seen' leaves' fin) pages_then)
    fin-pages = record {
      frames = λ j lo hi. ⊎_elim
          (λ same. subst (λ (n : ℕ). (pool_at fin n).frames ≡ w.pages.frames) (sym same)
          (ap (λ (b : Buffers). b.frames) (item-set no_pool c.pools a (pool_at between a) a_low a_high f.good.shape.pools)
          ∙ h.undone.frames ∙ f.pages.frames a a_low a_high))
          (λ ne. ap (λ (b : Buffers). b.frames) (item-kept no_pool c.pools a (pool_at between a) a_low j ne) ∙ f.pages.frames j lo hi)
          (cases_eq j a);
      entry = λ q. ⊎_elim
          (λ same. ap (λ (b : Bool). cond {A = PageEntry} b (dirtied a) (w.pages.entry q)) (eq-eqb p q (sym same))
          ∙ sym (ap (entry_at between.directory) same ∙ h.undone.entry))
          (λ ne. ap (λ (b : Bool). cond {A = PageEntry} b (dirtied a) (w.pages.entry q)) (ne_eqb p q (λ x. ne (sym x)))
          ∙ f.pages.entry q ∙ sym (h.undone.other_entries q ne))
          (cases_eq q p);
      asks = λ q. ⊎_elim
          (λ same. ap (λ (b : Bool). cond b (open_asks (dirtied a) (w.pages.asks p)) (w.pages.asks q)) (eq-eqb p q (sym same))
          ∙ ap (open_asks (dirtied a)) (f.pages.asks p) ∙ sym (ap (asks_at between.directory) same ∙ h.undone.asks))
          (λ ne. ap (λ (b : Bool). cond b (open_asks (dirtied a) (w.pages.asks p)) (w.pages.asks q)) (ne_eqb p q (λ x. ne (sym x)))
          ∙ f.pages.asks q ∙ sym (h.undone.other_asks q ne))
          (cases_eq q p);
      number = λ q there. refl;
      begun = f.pages.begun;
    }

    -- other instances' logs have nobody's end more
    pub fin-aside : ((j : ℕ) → j ≢ i → log_at fin j ≡ log_at e j) → IsAside i c fin
    fin-aside others = record {
      opens = λ u ne opens. subst (IsOpen u) (sym (ap all_at (others (home u) ne) ∙ all-same i a owes c f.good.shape.logs a_low a_high (home u))) opens;
      spans = λ u ne. ap (λ (z : Transactions). span_at z u) (item-kept no_txns c.txns i (txns_at between i) low (home u) ne);
      waits = λ u. refl;
    }

-- the sums of a step
pub step-more : (i : ℕ) (w : Core) → AreMore i 0 w.bounds (step_sums i w)
step-more i w = record {
  slots = λ p. refl;
  least = λ p. refl;
  here = grown (cond (eqb i i) 0 0) (w.bounds.reach i);
  reach = λ j. raised (cond (eqb i j) 0 0) (w.bounds.reach j);
  lsns = omega arith;
  masters = λ j. omega arith;
}
  where
    grown : (x n : ℕ) → n + 0 ≤ x + n
    grown x n = omega arith

    raised : (x n : ℕ) → n ≤ x + n
    raised x n = omega arith

-- a table of which a row's last open record is undone owes no more
pub popped-owes : (old new : Transactions) (t : TxnId) (x : Transaction) (o : OpenRec) (lsn : ℕ) → IsDistinct same_txn (ids old)
    → top x ≡ Some o → Replaces old new t x (noted lsn (popped x)) → owed_of new ≤ owed_of old
popped-owes old new t x o lsn once last r =
    let moves : owed_of new + records_owed x ≡ owed_of old + records_owed (noted lsn (popped x)) =
    total-replaced records_owed old new t x (noted lsn (popped x)) once r in
    let fewer = records_owed-popped x o last in
    let most = at-most (popped x) in
    omega (arith, moves, fewer, most)
  where
    some : (b : Bool) (n : ℕ) → 1 + n ≤ (if b then 1 else 0) + n + 1
    some true n = omega arith
    some false n = omega arith

    at-most : (z : Transaction) → records_owed (noted lsn z) ≤ records_owed z + 1
    at-most z = some (is_some z.span) (length z.stack)
