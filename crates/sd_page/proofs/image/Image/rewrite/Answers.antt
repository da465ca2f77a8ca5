use Rattle.std.proofs.Common.{arith}
use Rattle.std.specs.Prelude.{option_map}
use Rattle.sd_page.specs.Page.{written}
use Rattle.sd_page.proofs.Opened.{Images, opened, closed}
use Rattle.sd_page.proofs.Written.{with_slots}
use Rattle.sd_page.proofs.Changed.{fitting, rewrite_steps}
use Rattle.sd_page.proofs.image.Image.rewrite.Goals as goal

pub put-requires : goal.put-requires
put-requires c =
    let f = fitting _ _ c.args.slot (option_map (λ v. v.now) c.args.value) c.entry_place-entry.result c.u16_at-offset.result c.u16_at-capacity.result c.bytes_of-bytes.result.now (opened _ _ c.self.invariant c.self.view_is) c.requires.place c.requires.within c.entry_place-entry.ensures c.u16_at-offset.ensures c.u16_at-capacity.ensures c.bytes_of-bytes.ensures.value in
    omega (arith, f.len, f.room, f.long)

pub overflow_sub-capacity : goal.overflow_sub-capacity
overflow_sub-capacity c =
    let f = fitting _ _ c.args.slot (option_map (λ v. v.now) c.args.value) c.entry_place-entry.result c.u16_at-offset.result c.u16_at-capacity.result c.bytes_of-bytes.result.now (opened _ _ c.self.invariant c.self.view_is) c.requires.place c.requires.within c.entry_place-entry.ensures c.u16_at-offset.ensures c.u16_at-capacity.ensures c.bytes_of-bytes.ensures.value in
    f.len

pub clear-requires : goal.clear-requires
clear-requires c =
    let f = fitting _ _ c.args.slot (option_map (λ v. v.now) c.args.value) c.entry_place-entry.result c.u16_at-offset.result c.u16_at-capacity.result c.bytes_of-bytes.result.now (opened _ _ c.self.invariant c.self.view_is) c.requires.place c.requires.within c.entry_place-entry.ensures c.u16_at-offset.ensures c.u16_at-capacity.ensures c.bytes_of-bytes.ensures.value in
    omega (arith, f.len, f.room, f.long, c.put.auto.bytes)

pub length_word-requires : goal.length_word-requires
length_word-requires c =
    let f = fitting _ _ c.args.slot (option_map (λ v. v.now) c.args.value) c.entry_place-entry.result c.u16_at-offset.result c.u16_at-capacity.result c.bytes_of-bytes.result.now (opened _ _ c.self.invariant c.self.view_is) c.requires.place c.requires.within c.entry_place-entry.ensures c.u16_at-offset.ensures c.u16_at-capacity.ensures c.bytes_of-bytes.ensures.value in
    f.short

changed : (c : goal.After-put_u16) → Images c.put_u16.new.bytes (with_slots c.args.self.now (written c.args.self.now.slots c.args.slot 0 (option_map (λ v. v.now) c.args.value)))
changed c =
    rewrite_steps _ _ _ _ c.args.self.now c.args.slot (option_map (λ v. v.now) c.args.value) c.entry_place-entry.result c.u16_at-offset.result c.u16_at-capacity.result c.length_word.result c.bytes_of-bytes.result.now
    (opened _ _ c.self.invariant c.self.view_is) c.requires.place c.requires.within c.entry_place-entry.ensures c.u16_at-offset.ensures c.u16_at-capacity.ensures c.bytes_of-bytes.ensures.value c.put.ensures.are_bytes c.length_word.ensures
    c.put.ensures.written c.clear.ensures c.put_u16.ensures

pub invariant_of-self : goal.invariant_of-self
invariant_of-self c = (closed _ _ (changed c)).0

pub returns : goal.returns
returns c = (closed _ _ (changed c)).1
