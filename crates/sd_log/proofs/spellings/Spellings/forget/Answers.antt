use Rattle.std.proofs.Common.{◌∙◌, map, length, ap, arith}
use Rattle.std.proofs.lemmas.List.{with_items_is}
use Rattle.std.specs.Global.{Vec}
use Rattle.std.specs.Vec.{with_items}
use Rattle.sd_log.specs.SpellingsInside.{lowered}
use Rattle.sd_log.specs.declared.spellings.Slot.{Slot}
use Rattle.sd_log.proofs.Spelling.{entry_count, forgot, forgot_entries, rest_from, start_is, text_is}
use Rattle.sd_log.proofs.spellings.Spellings.forget.Goals as goal

pub drain-requires-clause-in_bounds : goal.drain-requires-clause-in_bounds
drain-requires-clause-in_bounds c =
    let b = c.self.inside in
    let rest = rest_from b c.args.self.now c.deref.result.now c.args.count c.start_of-at.result c.len.result c.self.invariant c.self.view_is
    c.deref.ensures.value c.len.ensures c.start_of-at.ensures.slot c.start_of-at.ensures.end in
    omega (arith, rest.0, b.bytes.ok.0)

pub drain-requires-2-clause-in_bounds : goal.drain-requires-2-clause-in_bounds
drain-requires-2-clause-in_bounds c =
    omega (arith, c.requires.there, entry_count c.self.inside c.args.self.now c.self.invariant c.self.view_is, c.self.inside.slots.ok.0)

pub overflow_cast-at : goal.overflow_cast-at
overflow_cast-at c =
    let b = c.self.inside in
    let rest = rest_from b c.args.self.now c.deref.result.now c.args.count c.start_of-at.result c.len.result c.self.invariant c.self.view_is
    c.deref.ensures.value c.len.ensures c.start_of-at.ensures.slot c.start_of-at.ensures.end in
    omega (arith, rest.0, ap length (text_is b c.args.self.now c.self.invariant c.self.view_is), c.requires.small)

pub invariant_of-self : goal.invariant_of-self
invariant_of-self c =
    let b = c.self.inside in
    let n = c.start_of-at.result in
    let slots : Vec Slot = with_items c.drop-drain-2.new.self.0 c.lower.new.slots in
    forgot b c.self.invariant c.args.count n c.drop-drain.new.self.0 slots
    (start_is b c.self.invariant c.args.count n c.deref.result.now c.len.result c.deref.ensures.value c.len.ensures c.start_of-at.ensures.slot c.start_of-at.ensures.end)
    record {
      text = c.drop-drain.ensures.items ∙ c.drain.ensures.kept;
      fewer = with_items_is c.drop-drain-2.new.self.0 c.lower.new.slots (c.lower.auto.slots ∙ c.deref_mut.ensures.len) ∙ c.lower.ensures
          ∙ ap (map (lowered n)) (c.deref_mut.ensures.value ∙ c.drop-drain-2.ensures.items ∙ c.drain-2.ensures.kept);
    }

pub returns-clause-entries : goal.returns-clause-entries
returns-clause-entries c =
    let b = c.self.inside in
    let n = c.start_of-at.result in
    let slots : Vec Slot = with_items c.drop-drain-2.new.self.0 c.lower.new.slots in
    forgot_entries b c.args.self.now c.self.invariant c.args.count n c.drop-drain.new.self.0 slots c.self.view_is
    (start_is b c.self.invariant c.args.count n c.deref.result.now c.len.result c.deref.ensures.value c.len.ensures c.start_of-at.ensures.slot c.start_of-at.ensures.end)
    record {
      text = c.drop-drain.ensures.items ∙ c.drain.ensures.kept;
      fewer = with_items_is c.drop-drain-2.new.self.0 c.lower.new.slots (c.lower.auto.slots ∙ c.deref_mut.ensures.len) ∙ c.lower.ensures
          ∙ ap (map (lowered n)) (c.deref_mut.ensures.value ∙ c.drop-drain-2.ensures.items ∙ c.drain-2.ensures.kept);
    }
