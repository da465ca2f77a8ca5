-- What a log owes that counts as unsettled from here on. For the falls of src/crash.rt.
use Rattle.std.proofs.Common.{◌≡◌, ◌⊎◌, inl, inr, ⊎_elim, ℕ, ◌-◌, ◌^◌, ◌≤◌, ◌<◌, true, false, List, ◌++◌, map, refl, sym, ap, ◌∙◌, subst, arith, append-nil}
use Rattle.std.specs.Prelude.{min}
use Rattle.sd_base.specs.declared.place.Status.{Status}
use Rattle.sd_base.specs.declared.place.Status.TheVariants as S
use Rattle.sd_logrec.specs.View.{flat}
use Rattle.sd_logrec.specs.declared.record.Record.{Record}
use Rattle.sd_model.specs.State.{State}
use Rattle.sd_rig.specs.Devices as rig
use Rattle.sd_txn.specs.Owing.{owed_of}
use Rattle.sd_chain.specs.Bytes.{disk_page}
use Rattle.sd_chain.specs.Checks.{owed}
use Rattle.sd_chain.specs.Images.{Keeps, all_kept}
use Rattle.sd_chain.specs.Logs.{Outcomes, all_at, base_at}
use Rattle.sd_chain.proofs.Lsns.{owed-one_within}
use Rattle.sd_state.specs.Forcing.{owed_as, owed_by, owed_either}
use Rattle.sd_state.specs.Good.{Good, Half, OwesAtMost}
use Rattle.sd_state.specs.Images.{leaves_by, log_by}
use Rattle.sd_state.specs.Parts.{Parts, is_loose, log_at, owed_at, status_at, txns_at}
use Rattle.sd_state.specs.Tables.{tells_log}
use Rattle.sd_state.specs.Values.{Pending}
use Rattle.sd_state.proofs.Standing.{one-place}

-- the table tells what is owed, or what was owed is
told-or-was : (s : Status) (told was : ℕ) → ((tells_log s ≡ true) × (owed_as s told was ≡ told)) ⊎ ((tells_log s ≡ false) × (owed_as s told was ≡ was))
told-or-was S.Up told was = inl (refl, refl)
told-or-was S.Down told was = inr (refl, refl)
told-or-was (S.Recovering by) told was = inl (refl, refl)
told-or-was S.Clean told was = inl (refl, refl)
told-or-was S.Restarting told was = inl (refl, refl)
told-or-was S.Closed told was = inr (refl, refl)

module _ (seen : rig.DeviceImages) (leaves : Outcomes) (pend : Pending) (c : Parts) (m : State) (g : Good seen leaves pend c m)
    (j : ℕ) (low : 1 ≤ j) (high : j ≤ 8) (settled : is_loose c j ≡ false) where
  abbrev one : Keeps
  one k = false

  few : owed (all_at (log_at c j)) < 2 ^ 62
  few =
      let h : Half seen (leaves_by c one leaves) (log_by c one) pend c m = g.half one in
      let fits = (h.soundly.lsns all_kept).pages 0 (disk_page (seen 0) 0) (h.coherent.reads 0) in
      let within = owed-one_within j (log_by c one) all_kept low high in
      omega (arith, fits, within)

  owed-told : owed_by c j ≡ owed (all_at (log_at c j))
  owed-told = ⊎_elim
      (λ told. told.1 ∙ (let is = (g.told j low high told.0 settled).owes in let least = few in omega (arith, is, least)))
      (λ rests. rests.1 ∙ g.owed j low high settled ∙ ap owed (sym (ap (λ (tail : List Record). base_at (log_at c j) ++ map flat tail)
      (g.at_rest j low high rests.0 settled) ∙ append-nil (base_at (log_at c j)))))
      (told-or-was (status_at c j) (min (owed_of (txns_at c j)) (2 ^ 64 - 1)) (owed_at c j))

  -- either way it owes no more
  pub owes-either : (moved : Keeps) → OwesAtMost (owed_either c j) (log_by c moved j)
  owes-either moved = subst (OwesAtMost (owed_either c j)) (sym (one-place c moved j (g.settled j low high settled).one_place))
      (let base = g.owed j low high settled in let all = owed-told in (omega (arith, base), omega (arith, all)))
