-- What a log owes once it is forced: for `force_log`.
use Rattle.std.proofs.Common.{◌≡◌, ℕ, ◌-◌, ◌^◌, ◌<◌, ◌≤◌, true, false, List, map, ◌++◌, min, refl, sym, ap, ◌∙◌, arith, append-nil}
use Rattle.sd_base.specs.declared.place.Status.{Status}
use Rattle.sd_base.specs.declared.place.Status.TheVariants as S
use Rattle.sd_logrec.specs.View.{flat}
use Rattle.sd_logrec.specs.declared.record.Record.{Record}
use Rattle.sd_model.specs.State.{State}
use Rattle.sd_rig.specs.Devices as rig
use Rattle.sd_txn.specs.Owing.{owed_of}
use Rattle.sd_chain.specs.Bytes.{disk_page}
use Rattle.sd_chain.specs.Checks.{owed}
use Rattle.sd_chain.specs.Images.{Keeps, all_kept}
use Rattle.sd_chain.specs.Logs.{Outcomes, all_at, base_at}
use Rattle.sd_chain.proofs.Lsns.{owed-one_within}
use Rattle.sd_state.specs.Values.{Pending}
use Rattle.sd_state.specs.Forcing.{owed_as, owed_by}
use Rattle.sd_state.specs.Good.{Good, Half}
use Rattle.sd_state.specs.Images.{leaves_by, log_by}
use Rattle.sd_state.specs.Parts.{Parts, is_loose, log_at, owed_at, status_at, txns_at}
use Rattle.sd_state.specs.Tables.{tells_log}

-- by whether the table tells of the log
by-status : (s : Status) (told was owes : ℕ) → (tells_log s ≡ true → told ≡ owes) → (tells_log s ≡ false → was ≡ owes)
    → owed_as s told was ≡ owes
by-status S.Up told was owes t w = t refl
by-status S.Down told was owes t w = w refl
by-status (S.Recovering by) told was owes t w = t refl
by-status S.Clean told was owes t w = t refl
by-status S.Restarting told was owes t w = t refl
by-status S.Closed told was owes t w = w refl

-- few records are owed
pub few-owed : (seen : rig.DeviceImages) (leaves : Outcomes) (pend : Pending) (c : Parts) (m : State) (i : ℕ) → 1 ≤ i → i ≤ 8
    → Good seen leaves pend c m → leaves 0 (seen 0) → owed (all_at (log_at c i)) < 2 ^ 62
few-owed seen leaves pend c m i low high g reads =
    let moved : Keeps = λ j. false in
    let h : Half seen (leaves_by c moved leaves) (log_by c moved) pend c m = g.half moved in
    let fits = (h.soundly.lsns all_kept).pages 0 (disk_page (seen 0) 0) (seen 0, (reads, tt), refl) in
    let one = owed-one_within i (log_by c moved) all_kept low high in
    omega (arith, fits, one)

pub owed-forced : (seen : rig.DeviceImages) (leaves : Outcomes) (pend : Pending) (c : Parts) (m : State) (i : ℕ) → 1 ≤ i → i ≤ 8
    → Good seen leaves pend c m → leaves 0 (seen 0) → is_loose c i ≡ false → owed_by c i ≡ owed (all_at (log_at c i))
owed-forced seen leaves pend c m i low high g reads settled =
    by-status (status_at c i) (min (owed_of (txns_at c i)) (2 ^ 64 - 1)) (owed_at c i) (owed (all_at (log_at c i)))
    (λ tells. let is = (g.told i low high tells settled).owes in let few = few-owed seen leaves pend c m i low high g reads in
    omega (arith, is, few))
    (λ rests. g.owed i low high settled ∙ ap owed (sym (ap (λ (tail : List Record). base_at (log_at c i) ++ map flat tail) (g.at_rest i low high rests settled)
    ∙ append-nil (base_at (log_at c i)))))
