-- A checkpoint that is begun serves its event. For the goals of `check_begin`.
use Rattle.std.proofs.Common.{◌≡◌, ℕ, ◌≤◌, sym, ap, ◌∙◌, subst}
use Rattle.std.specs.Prelude.{Some}
use Rattle.sd_logrec.specs.declared.record.Record.TheVariants as records
use Rattle.sd_model.specs.State.{State}
use Rattle.sd_model.specs.declared.event.Event.TheVariants.{CheckBegin}
use Rattle.sd_model.specs.declared.event.Reply.TheVariants as reply
use Rattle.sd_pagelock.specs.Directory.{rec_lsn_at}
use Rattle.sd_rig.specs.Devices.{DeviceImages, Leaves}
use Rattle.sd_txn.specs.Transactions.{span_at}
use Rattle.sd_chain.specs.Logs.{next_lsn}
use Rattle.sd_state.specs.Complexes.{parts}
use Rattle.sd_state.specs.Good.{Good, TakesCheck}
use Rattle.sd_state.specs.Parts.{Begun, Parts, log_at, status_at, txns_at}
use Rattle.sd_state.specs.Values.{Pending}
use Rattle.sd_state.specs.declared.complex.Complex.{Complex}
use Rattle.sd_update.specs.Sealing.{with_more}
use Rattle.sd_world.specs.Serving.{Core, Telling}
use Rattle.sd_fits.specs.Fits.{Fits}
use Rattle.sd_fits.specs.Serving.{Serving, fits_by}
use Rattle.sd_fits.proofs.Served.{still-serves}
use Rattle.sd_ckpt.specs.Beginnings.{HasTables, with_check}
use Rattle.sd_ckpt.proofs.CheckBegun.{begun-fits, begun-turns, begun_core}

-- What a call has made of the complex c: its BeginCheck is in the log (s), and then it keeps the checkpoint (n).
pub record HasKept {G : Type 0} (tell : Telling G) (i spare : ℕ) (k : Begun) (c s n : Complex G) : Type 0 where
  pub low : 1 ≤ i
  pub high : i ≤ 8
  pub takes : TakesCheck (status_at (parts c) i)
  pub begin : k.begin ≡ next_lsn (log_at (parts c) i) 0
  pub tables : HasTables (span_at (txns_at (parts c) i)) (rec_lsn_at (parts c).directory) k
  pub reads : tell.leaves c.rig i (tell.seen c.rig i)
  -- the record
  pub same : s.rig ≡ c.rig
  pub is : parts s ≡ with_more i (records.BeginCheck k.begin) spare (parts c)
  pub good : (m : State) → Good (tell.seen c.rig) (tell.leaves c.rig) Pending.Idle (parts c) m
      → Good (tell.seen s.rig) (tell.leaves s.rig) Pending.Idle (parts s) m
  -- the checkpoint
  pub rigs : n.rig ≡ s.rig
  pub kept : parts n ≡ with_check i k (parts s)

module _ {G : Type 0} (tell : Telling G) (i spare : ℕ) (k : Begun) (c s n : Complex G) (h : HasKept tell i spare k c s n) where
  pub all-rigs : n.rig ≡ c.rig
  all-rigs = h.rigs ∙ h.same

  pub new-is : parts n ≡ with_check i k (with_more i (records.BeginCheck k.begin) spare (parts c))
  new-is = h.kept ∙ ap (λ (p : Parts). with_check i k p) h.is

  fits-then : (w : Core) → fits_by tell.seen tell.leaves c w → fits_by tell.seen tell.leaves n (begun_core i w)
  fits-then w f = subst (λ (d : G). Fits (tell.seen d) (tell.leaves d) (parts n) (begun_core i w)) (sym all-rigs)
      (subst (λ (p : Parts). Fits (tell.seen c.rig) (tell.leaves c.rig) p (begun_core i w)) (sym new-is)
      (begun-fits i spare k (tell.seen c.rig) (tell.leaves c.rig) (parts c) w f h.low h.high h.takes h.begin h.reads h.tables
      (subst (λ (p : Parts). Good (tell.seen c.rig) (tell.leaves c.rig) Pending.Idle p w.scene.state) h.is
      (subst (λ (d : G). Good (tell.seen d) (tell.leaves d) Pending.Idle (parts s) w.scene.state) h.same
      (h.good w.scene.state f.good)))))

  pub check-did : ((img : DeviceImages) → tell.since c.rig (tell.moment c.rig) img → Leaves (tell.leaves c.rig) img)
      → Serving tell (CheckBegin i) (Some reply.Did) c n
  check-did now = (
    λ w f. (
      begun_core i w,
      still-serves tell (CheckBegin i) reply.Did c n w (begun_core i w) (sym all-rigs) now f
          (begun-turns i (tell.seen c.rig) (tell.leaves c.rig) (parts c) w f h.low h.high h.takes) (fits-then w f),
    ),
    ap tell.faults all-rigs,
  )
