use Rattle.std.proofs.Common.{◌≡◌, ◌+◌, List, length, rules}
use Rattle.std.specs.Prelude.{filter}
use Rattle.std.proofs.lemmas.List.Sorted.{IsNonDecreasingBy-from_sort_by_key, answers_always}
use Rattle.sd_redo.specs.declared.change.Change.{Change}
use Rattle.sd_redo.specs.Changes.{in_turn, is_of, placed_in, redone_of}
use Rattle.sd_redo.proofs.Turns.{sorted_changes}
use Rattle.sd_redo.proofs.change.changes_by_lsn.Goals as goal

pub returns-clause-by_lsn : goal.returns-clause-by_lsn
returns-clause-by_lsn c =
    let gathered : List Change = c.in_ok-changes.changes.items in
    let by_lsn : List Change = c.sort_by_key.new.self.items in
    sorted_changes gathered by_lsn (filter (is_of c.args.page) (in_turn (placed_in c.args.logs.now) (length c.args.logs.now + 1)))
    c.in_ok-changes.ensures.gathered c.in_ok-sort_by_key.ensures.permutation
    (IsNonDecreasingBy-from_sort_by_key (λ (change : Change). (redone_of change).lsn) by_lsn c.in_ok-sort_by_key.ensures.sorted
    (λ a r q k. search rules))
    (c.in_ok-sort_by_key.ensures.stable (λ (change : Change). (redone_of change).lsn)
    (answers_always _ (λ a r. r ≡ (redone_of a.0.now).lsn) _ (λ f a r q k. search rules)))
