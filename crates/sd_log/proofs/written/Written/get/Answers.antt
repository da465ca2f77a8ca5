use Rattle.std.proofs.Common.{sym, ap, ◌∙◌, List, arith, refl}
use Rattle.std.specs.Prelude.{nat_lt, slice_get}
use Rattle.std.proofs.lemmas.Bool.{lt-ltb}
use Rattle.sd_log.specs.declared.placed.Placed.{Placed}
use Rattle.sd_log.specs.WrittenStates.{WrittenState, all_in}
use Rattle.sd_log.proofs.Items.{get-items}
use Rattle.sd_log.proofs.WrittenItems.{all_items, not_below}
use Rattle.sd_log.proofs.written.Written.get.Goals as goal

pub returns : goal.returns
returns c =
    let w = c.self.inside in
    let i = c.args.index in
    let is_forced = nat_lt i c.forced.result in
    let got = get-items w.marks.forced w.records.entries i (c.in_ok-place.place, c.in_ok-place.rec) is_forced
    (λ lt. lt-ltb i c.forced.result (omega (arith, c.forced.ensures)))
    (λ le. not_below i c.forced.result is_forced refl (omega (arith, c.forced.ensures))) c.in_ok-place.ensures in
    sym (ap (λ (s : WrittenState). slice_get (all_in s) i) c.self.view_is)
    ∙ ap (λ (ps : List Placed). slice_get ps i) (all_items w c.self.invariant) ∙ got
