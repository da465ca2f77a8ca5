use Rattle.std.proofs.Common.{List, sym, ap, ◌∙◌}
use Rattle.std.specs.List.{list_any}
use Rattle.sd_logrec.specs.View.{is_commit_of}
use Rattle.sd_log.specs.declared.placed.Placed.{Placed}
use Rattle.sd_log.specs.WrittenStates.{WrittenState, all_in}
use Rattle.sd_log.proofs.Items.{any-items}
use Rattle.sd_log.proofs.WrittenItems.{all_items}
use Rattle.sd_log.proofs.written.Written.has_commit.Goals as goal

pub returns : goal.returns
returns c =
    let w = c.self.inside in
    let t = c.args.t.now in
    c.any_commit.ensures ∙ sym (any-items w.marks.forced t w.records.entries)
    ∙ sym (ap (λ (ps : List Placed). list_any (λ p. is_commit_of t p.rec) ps) (all_items w c.self.invariant))
    ∙ ap (λ (s : WrittenState). list_any (λ p. is_commit_of t p.rec) (all_in s)) c.self.view_is
