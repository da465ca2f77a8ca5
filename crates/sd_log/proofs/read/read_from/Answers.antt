use Rattle.std.proofs.Common.{◌≡◌, ◌+◌, ◌≤◌, ◌∙◌, ◌++◌, length, sym, ap, subst, arith}
use Rattle.std.specs.Prelude.{map}
use Rattle.std.proofs.lemmas.Grind.{common_steps}
use Rattle.sd_logrec.specs.Fronts.{fronts_within}
use Rattle.sd_logrec.specs.Kept.{Whole, groups_within}
use Rattle.sd_log.specs.ByPage.{changed_pages}
use Rattle.sd_log.specs.JournalStates.{JournalState}
use Rattle.sd_log.specs.ReadInside.{read_view}
use Rattle.sd_log.specs.Logs.{AreForced, placed_groups, placed_tail, scanned}
use Rattle.sd_log.specs.Marks.{entry}
use Rattle.sd_log.specs.Parts.{text_of}
use Rattle.sd_log.proofs.Counted.{few_read, read_forced, read_within}
use Rattle.sd_log.proofs.Spelled.{read_spelled}
use Rattle.sd_log.proofs.read.read_from.Goals as goal

pub returns-in-Err-BadLog-clause-spelled : goal.returns-in-Err-BadLog-clause-spelled
returns-in-Err-BadLog-clause-spelled c =
    let bytes = c.args.bytes.now in
    let read : map entry c.into_placed-front.result.items ≡ fronts_within (length bytes) c.args.start bytes = grind (arith, common_steps) in
    read_spelled (length bytes) c.args.start bytes c.into_placed-front.result.items (λ i. omega (arith, c.type_inv.bytes i)) read

pub returns-clause-spelled : goal.returns-clause-spelled
returns-clause-spelled c =
    let bytes = c.args.bytes.now in
    let gate : c.new-journal.result.gate ≡ c.args.start = ap (λ (j : JournalState). j.gate) c.new-journal.ensures in
    let read : map entry (scanned (read_view record { inst = c.args.inst; journal = c.read_groups.new.journal; text = c.read_groups.new.text; pages = c.in_ok-pages.pages })) ≡ fronts_within (length bytes) c.args.start bytes =
    c.in-Ok.ensures.front ∙ ap (λ n. fronts_within (length bytes) n bytes) gate in
    read_spelled (length bytes) c.args.start bytes _ (λ i. omega (arith, c.type_inv.bytes i)) read

pub of-requires : goal.of-requires
of-requires c =
    let bytes = c.args.bytes.now in
    let j = c.read_groups.new.journal in
    let gate : c.new-journal.result.gate ≡ c.args.start = ap (λ (k : JournalState). k.gate) c.new-journal.ensures in
    let groups : groups_within (length bytes) c.args.start bytes ≡ Whole j.groups j.gate = sym (ap (λ n. groups_within (length bytes) n bytes) gate) ∙ c.in-Ok.ensures.ok in
    let read : map entry (placed_groups j.groups ++ placed_tail j.gate j.tail) ≡ fronts_within (length bytes) c.args.start bytes = c.in-Ok.ensures.front ∙ ap (λ n. fronts_within (length bytes) n bytes) gate in
    let few = few_read c.args.start j.gate bytes j.groups j.tail (λ i. omega (arith, c.type_inv.bytes i)) groups c.in-Ok.ensures.tail c.in-Ok.ensures.gate (read_spelled (length bytes) c.args.start bytes _ (λ i. omega (arith, c.type_inv.bytes i)) read) in
    omega (arith, few, ap length c.placed.ensures)

pub invariant_of-result : goal.invariant_of-result
invariant_of-result c =
    let bytes = c.args.bytes.now in
    let j = c.read_groups.new.journal in
    let start : j.start ≡ c.args.start = c.in-Ok.ensures.start ∙ ap (λ (k : JournalState). k.start) c.new-journal.ensures in
    let gate : c.new-journal.result.gate ≡ c.args.start = ap (λ (k : JournalState). k.gate) c.new-journal.ensures in
    let groups : groups_within (length bytes) c.args.start bytes ≡ Whole j.groups j.gate = sym (ap (λ n. groups_within (length bytes) n bytes) gate) ∙ c.in-Ok.ensures.ok in
    let read : map entry (placed_groups j.groups ++ placed_tail j.gate j.tail) ≡ fronts_within (length bytes) c.args.start bytes = c.in-Ok.ensures.front ∙ ap (λ n. fronts_within (length bytes) n bytes) gate in
    record {
      none = c.in-Ok.ensures.tail;
      forced_are = subst (λ n. AreForced n j.gate j.groups) (sym start)
          (read_forced c.args.start j.gate bytes j.groups j.tail (λ i. omega (arith, c.type_inv.bytes i)) groups c.in-Ok.ensures.tail (read_spelled (length bytes) c.args.start bytes _ (λ i. omega (arith, c.type_inv.bytes i)) read));
      text_is = c.in-Ok.ensures.text;
      within = subst (λ n. n + length (text_of j.groups) ≤ j.gate) (sym start)
          (read_within (length bytes) c.args.start bytes j.groups j.gate (λ i. omega (arith, c.type_inv.bytes i)) groups);
      gate_within = c.in-Ok.ensures.gate;
      chains_are = c.in_ok-pages.ensures ∙ ap changed_pages c.placed.ensures;
    }
