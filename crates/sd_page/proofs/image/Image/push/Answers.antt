use Rattle.std.proofs.Common.{◌+◌, ◌∷◌, [], ◌++◌, ◌<◌, refl, subst}
use Rattle.std.specs.Prelude.{All, option_map}
use Rattle.sd_page.specs.Page.{Slot}
use Rattle.sd_page.proofs.Opened.{Images, opened, closed}
use Rattle.sd_page.proofs.Written.{with_slots}
use Rattle.sd_page.proofs.Changed.{push_images, value_is_bytes}
use Rattle.sd_page.proofs.image.Image.push.Goals as goal

-- the slot that is made
abbrev made : goal.After-put_u16-5 → Slot
made c = (c.args.capacity, option_map (λ v. v.now) c.args.value)

changed : (c : goal.After-put_u16-5) → Images c.put_u16-5.new.bytes (with_slots c.args.self.now (c.args.self.now.slots ++ (made c ∷ [])))
changed c =
    push_images _ _ _ _ _ _ _ c.args.self.now (made c) c.count-slot.result c.heap_end-offset.result c.entry_place-entry.result (c.heap_end-offset.result + c.args.capacity) c.length_word.result c.bytes_of.result.now
    (opened _ _ c.self.invariant c.self.view_is)
    (record { capacity = c.requires.small; value = c.requires.within; bytes = value_is_bytes (made c).1 (subst (All (λ b. b < 256)) c.bytes_of.ensures.value c.put.ensures.are_bytes) })
    c.requires.room
    (record {
      count = c.count-slot.ensures.value;
      offset = c.heap_end-offset.ensures.value;
      at = c.entry_place-entry.ensures;
      ends = refl;
      says = c.length_word.ensures;
      holds = c.bytes_of.ensures.value;
      first = c.put_u16.ensures;
      second = c.put_u16-2.ensures;
      third = c.put.ensures.written;
      fourth = c.put_u16-3.ensures;
      fifth = c.put_u16-4.ensures;
      last = c.put_u16-5.ensures;
    })

pub invariant_of-self : goal.invariant_of-self
invariant_of-self c = (closed _ _ (changed c)).0

pub returns : goal.returns
returns c = (closed _ _ (changed c)).1
