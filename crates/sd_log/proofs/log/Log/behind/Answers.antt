use Rattle.std.proofs.Common.{◌≡◌, ◌∙◌, ◌++◌, List, length, sym, ap, subst, arith}
use Rattle.std.specs.List.{AllByRecursion}
use Rattle.sd_logrec.specs.Kept.{Group, spelled}
use Rattle.sd_logrec.specs.declared.record.Record.{Record}
use Rattle.sd_logrec.specs.Spelling.{HasSpelling}
use Rattle.sd_log.specs.ByPage.{changed_pages}
use Rattle.sd_log.specs.Logs.{placed_groups, placed_tail}
use Rattle.sd_log.proofs.log.Log.behind.Goals as goal

pub invariant_of-result : goal.invariant_of-result
invariant_of-result c =
    let w = c.in_ok-written.written in
    let start = c.in_ok-written.ensures.start in
    let gate = c.in_ok-written.ensures.gate in
    let groups = c.in_ok-written.ensures.groups in
    let tail = c.in_ok-written.ensures.tail in
    let none : length (spelled w.tail) ≡ 0 = ap (λ (rs : List Record). length (spelled rs)) tail in
    let within = c.requires.gate in
    record {
      spelled_ones = subst (AllByRecursion HasSpelling) (sym tail) tt;
      forced_are = rw (start, gate, groups) c.requires.forced;
      gate_within = omega arith;
      fits = λ some. absurd (omega arith);
      spare_small = omega arith;
      spare_text = omega arith;
      spare_buffer = omega arith;
      spare_records = omega arith;
      spare_pages = omega arith;
      chains_are = c.requires.pages
          ∙ sym (ap (λ (gs : List Group). changed_pages (placed_groups gs ++ placed_tail w.gate w.tail)) groups
          ∙ ap (λ n. changed_pages (placed_groups c.args.read.groups ++ placed_tail n w.tail)) gate
          ∙ ap (λ (rs : List Record). changed_pages (placed_groups c.args.read.groups ++ placed_tail c.args.read.gate rs)) (tail ∙ sym c.requires.tail));
    }
