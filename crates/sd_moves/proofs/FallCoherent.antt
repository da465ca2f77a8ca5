-- Logs of instances that are neither active nor up count as unsettled: coherence stays. For the falls of src/crash.rt.
use Rattle.std.proofs.Common.{◌≡◌, ◌⊎◌, inl, inr, ⊎_elim, ℕ, Bool, true, false, ◌∙◌}
use Rattle.sd_chain.specs.Laws.{May}
use Rattle.sd_pagelock.proofs.Members.{not_both}
use Rattle.sd_pagelock.proofs.Uses
use Rattle.sd_chain.specs.Coherent.{Coherent, Sits}
use Rattle.sd_chain.specs.World.{Base, Dir}
use Rattle.sd_chain.proofs.Cases.{by_seat, due_seat, lost_seat, own_seat}

-- these logs aren't settled
abbrev pub loosened : {may : May} → (ℕ → Bool) → Base may → Base may
loosened loose b = record {
  tails = b.tails;
  version = b.version;
  disk = b.disk;
  rec_lsn = b.rec_lsn;
  loose = loose;
  loose_disk = b.loose_disk;
  active = b.active;
  up = b.up;
  due = b.due;
}

-- the log is settled as before, or its instance is neither active nor up, and it isn't settled now
abbrev pub IsLoosened : {may : May} → (ℕ → Bool) → Base may → ℕ → Type 0
IsLoosened loose b j = (loose j ≡ b.loose j) ⊎ ((b.active j ≡ false) × (b.up j ≡ false) × (loose j ≡ true))

pub loosened-keeps : (may : May) (loose : ℕ → Bool) (b : Base may) (d : Dir) → Coherent b d → ((j : ℕ) → IsLoosened loose b j)
    → Coherent (loosened loose b) d
loosened-keeps may loose b d c which = record {
  safe = c.safe;
  eight = c.eight;
  reads = c.reads;
  still = c.still;
  copies = c.copies;
  moving = c.moving;
  live = c.live;
  unforced = λ j p. ⊎_elim (λ q. inl q) (λ sits. inr (seat j p sits)) (c.unforced j p);
  ready = λ j lo up. ⊎_elim
      (λ same. ⊎_elim (λ l. inl (same ∙ l)) (λ due. inr due) (c.ready j lo up))
      (λ off. not_both up off.1)
      (which j);
  marks = c.marks;
  clean = c.clean;
  first = c.first;
  below = c.below;
}
  where
    seat : (j p : ℕ) → Sits b (d.entry p) j → Sits (loosened loose b) (d.entry p) j
    seat j p = by_seat b (d.entry p) j (Sits (loosened loose b) (d.entry p) j)
        (λ settled is. ⊎_elim
        (λ same. own_seat (loosened loose b) (d.entry p) j (same ∙ settled) is)
        (λ off. not_both (c.live j p (Uses.excl-uses j true (d.entry p) is)) off.0)
        (which j))
        (λ was lost. lost_seat (loosened loose b) (d.entry p) j (⊎_elim (λ same. same ∙ was) (λ off. off.2) (which j)) lost)
        (λ a due is. due_seat (loosened loose b) (d.entry p) j a due is)
