-- Where the records of a log stand on its device, and that LSNs rise. It serves the goals of reading.rt.
use Rattle.std.proofs.Common.{◌≡◌, ℕ, ◌<◌, true, Bool, List, [], ◌∷◌, ◌++◌, Option, Some, None, slice_get, refl, sym, ap, ◌∙◌, subst, arith}
use Rattle.std.specs.Prelude.{map, option_map}
use Rattle.std.specs.List.{flat_map}
use Rattle.std.proofs.lemmas.List.{append-nil, map-append}
use Rattle.std.proofs.lemmas.Option.{slice_get-map}
use Rattle.sd_logrec.specs.declared.record.Record.{Record}
use Rattle.sd_logrec.specs.Kept.{Group, Master, Reading, Whole, kept}
use Rattle.sd_logrec.specs.View.{flat}
use Rattle.sd_log.specs.declared.placed.Placed.{Placed}
use Rattle.sd_log.specs.Logs.{LogState, placed, placed_groups, placed_tail, scanned}
use Rattle.sd_chain.specs.Checks.{Follow, Past, after_record, placed_of}
use Rattle.sd_chain.specs.Records.{Each}
use Rattle.sd_chain.proofs.Lists.{Each-weaker}
use Rattle.sd_redo.specs.Changes.{Rises}
use Rattle.sd_chain.proofs.Pasts.{lsn_after}

placed_in_groups : (gs : List Group) → placed_groups gs ≡ map (placed true) (flat_map (λ g. g.records) gs)
placed_in_groups [] = refl
placed_in_groups (g ∷ gs) =
    ap (λ (l : List Placed). map (placed true) g.records ++ l) (placed_in_groups gs)
    ∙ sym (map-append (placed true) g.records (flat_map (λ x. x.records) gs))

placed_in : (bytes : List ℕ) (log : LogState) → kept bytes ≡ Whole log.groups log.gate → log.tail ≡ []
    → scanned log ≡ map (placed true) (placed_of (kept bytes))
placed_in bytes log whole none =
    ap (λ (tail : List Record). placed_groups log.groups ++ placed_tail log.gate tail) none
    ∙ append-nil (placed_groups log.groups) ∙ placed_in_groups log.groups
    ∙ ap (λ (r : Reading). map (placed true) (placed_of r)) (sym whole)

there_at : (found : Placed) (o : Option (ℕ × Record)) → option_map (placed true) o ≡ Some found → o ≡ Some (found.place, found.rec)
there_at found None e = absurd (cc)
there_at found (Some r) e =
    let same : placed true r ≡ found = cc in
    ap (λ (p : Placed). Some (p.place, p.rec)) same

-- a record of the log stands on its device
pub stands_there : (bytes : List ℕ) (log : LogState) (index : ℕ) (found : Placed) → kept bytes ≡ Whole log.groups log.gate → log.tail ≡ []
    → slice_get (scanned log) index ≡ Some found → slice_get (placed_of (kept bytes)) index ≡ Some (found.place, found.rec)
stands_there bytes log index found whole none at =
    there_at found (slice_get (placed_of (kept bytes)) index)
    (sym (slice_get-map (placed true) (placed_of (kept bytes)) index)
    ∙ ap (λ (l : List Placed). slice_get l index) (sym (placed_in bytes log whole none)) ∙ at)

above_and_rise : (inst : ℕ) (chosen : Bool) (m : Master) (past : Past) (rs : List Record) → Follow inst chosen m past rs
    → Each (λ z. past.lsn < z.lsn) (map flat rs) × Rises (map flat rs)
above_and_rise inst chosen m past [] f = (tt, tt)
above_and_rise inst chosen m past (r ∷ rs) f =
    let ih = above_and_rise inst chosen m (after_record past r) rs f.3 in
    let here : Each (λ z. (flat r).lsn < z.lsn) (map flat rs) = subst (λ (n : ℕ). Each (λ z. n < z.lsn) (map flat rs)) (lsn_after past r) ih.0 in
    ((f.0, Each-weaker (λ z. (flat r).lsn < z.lsn) (λ z. past.lsn < z.lsn) (λ z lt. omega (arith, lt, f.0)) (map flat rs) here), (here, ih.1))

-- records that follow one another
pub follow_rises : (inst : ℕ) (chosen : Bool) (m : Master) (past : Past) (rs : List Record) → Follow inst chosen m past rs → Rises (map flat rs)
follow_rises inst chosen m past rs f = (above_and_rise inst chosen m past rs f).1
