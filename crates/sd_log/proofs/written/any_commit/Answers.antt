use Rattle.std.proofs.Common.{◌+◌, drop, sym, ap, ◌∙◌, arith}
use Rattle.std.specs.Prelude.{◌||◌}
use Rattle.std.specs.List.{list_any}
use Rattle.sd_logrec.specs.View.{is_commit_of}
use Rattle.sd_log.proofs.Items.{step_any}
use Rattle.sd_log.proofs.WrittenItems.{is_there}
use Rattle.sd_log.proofs.written.any_commit.Goals as goal

pub returns-then-is_commit : goal.returns-then-is_commit
returns-then-is_commit c =
    let es = c.args.records.now.entries in
    let t = c.args.t.now in
    let i = c.loop-index.index in
    let there = is_there es i (omega (arith, c.loop-index-test.true, c.len-index-end.ensures)) in
    let commits = sym (c.is_commit.ensures there.0 there.1) ∙ c.if-is_commit.true in
    sym (step_any es i there.0 t there.1 ∙ ap (λ b. b || list_any (λ x. is_commit_of t x.1) (drop (i + 1) es)) commits) ∙ c.loop-index.invariant

pub loop-index-preserved : goal.loop-index-preserved
loop-index-preserved c =
    let es = c.args.records.now.entries in
    let t = c.args.t.now in
    let i = c.loop-index.index in
    let there = is_there es i (omega (arith, c.loop-index-test.true, c.len-index-end.ensures)) in
    let none = sym (c.is_commit.ensures there.0 there.1) ∙ c.if-is_commit.false in
    sym (step_any es i there.0 t there.1 ∙ ap (λ b. b || list_any (λ x. is_commit_of t x.1) (drop (i + 1) es)) none) ∙ c.loop-index.invariant
