use Rattle.std.proofs.Common.{◌∙◌, map}
use Rattle.sd_log.specs.Parts.{record_of}
use Rattle.sd_log.proofs.Spelling.{each_record, view_of}
use Rattle.sd_log.proofs.spellings.Spellings.of.Goals as goal

pub invariant_of-result : goal.invariant_of-result
invariant_of-result c = record {
  rs = map record_of c.args.placed.now;
  text_is = c.requires.text;
  each = each_record c.args.placed.now c.requires.spelled;
  slots_are = c.in_ok-slots.ensures.slots;
}

pub returns : goal.returns
returns c =
    view_of c.in_ok-slots.slots.items c.args.text.items (map record_of c.args.placed.now) c.requires.text (each_record c.args.placed.now c.requires.spelled)
    ∙ c.in_ok-slots.ensures.entries
