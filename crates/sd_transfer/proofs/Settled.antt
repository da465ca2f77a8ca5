-- A page that isn't changed stands on the data device, and its records are forced: for the clause `written` of `write_page`.
use Rattle.std.proofs.Common.{◌≡◌, ⊎_elim, ℕ, true, false, refl, sym, ap, ◌∙◌}
use Rattle.std.specs.Prelude.{None}
use Rattle.sd_rig.specs.Devices as rig
use Rattle.sd_chain.specs.Bytes.{disk_page}
use Rattle.sd_chain.specs.Coherent.{Sits}
use Rattle.sd_model.specs.State.{State}
use Rattle.sd_pagelock.specs.Directory.{entry_at}
use Rattle.sd_pagelock.specs.Places.{changed}
use Rattle.sd_chain.specs.Logs.{Outcomes}
use Rattle.sd_state.specs.Good.{Good, base_of}
use Rattle.sd_state.specs.Images.{leaves_by}
use Rattle.sd_state.specs.Parts.{Parts, log_at}
use Rattle.sd_state.specs.Values.{Pending}
use Rattle.sd_transfer.specs.Writing.{IsWritten}

pub settled-page : (p : ℕ) (seen : rig.DeviceImages) (leaves : Outcomes) (pend : Pending) (c : Parts) (m : State) → Good seen leaves
    pend c m
    → c.due ≡ None → changed (entry_at c.directory p) ≡ false → IsWritten p seen leaves c
settled-page p seen leaves pend c m g idle clean =
    let half = (g.half (λ j. false)).coherent in
    record {
      only = λ bytes left. half.clean p clean (disk_page bytes p) (bytes, (left, tt), refl);
      forced = λ j. ⊎_elim (λ quiet. quiet) (λ sits. absurd (apart j sits)) (half.unforced j p);
    }
  where
    apart : (j : ℕ) → Sits (base_of seen (leaves_by c (λ k. false) leaves) (log_at c) c) (entry_at c.directory p) j → ⊥
    apart j sits = ⊎_elim
        (λ own. let clash : false ≡ true = sym clean ∙ ap changed own.1 in absurd (cc))
        (λ rest. ⊎_elim
        (λ lost. let clash : false ≡ true = sym clean ∙ ap changed lost.1 in absurd (cc))
        (λ due. let clash = sym idle ∙ due.1 in absurd (cc))
        rest)
        sits
