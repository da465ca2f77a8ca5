use Rattle.std.proofs.Common.{ℕ, List, map, ap, ◌∙◌}
use Rattle.sd_logrec.specs.Spelling.{Changed, Span}
use Rattle.sd_state.specs.Complexes.{begun_of}
use Rattle.sd_state.specs.Parts.{least_of}
use Rattle.sd_ckpt.proofs.Least.{low-is}
use Rattle.sd_ckpt.proofs.tables.low_of.Goals as goal

pub returns : goal.returns
returns c =
    let check = c.args.check.now in
    c.least_first.ensures
    ∙ ap (λ (rows : List Span). least_of c.least_rec-low.result (map (λ (s : Span). s.1) rows)) c.items-2.ensures
    ∙ ap (λ (n : ℕ). least_of n (map (λ (s : Span). s.1) check.spans)) c.least_rec-low.ensures
    ∙ ap (λ (rows : List Changed). least_of (least_of check.begin (map (λ (r : Changed). r.1) rows)) (map (λ (s : Span). s.1) check.spans))
    c.items.ensures
    ∙ low-is (begun_of check)
