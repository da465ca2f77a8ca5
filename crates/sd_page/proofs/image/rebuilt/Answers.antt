use Rattle.std.proofs.Common.{◌<◌, ◌≤◌, [], length, Some, ap, ◌∙◌, sym, refl, arith}
use Rattle.std.proofs.lemmas.List.{take_all}
use Rattle.sd_page.specs.Page.{Page}
use Rattle.sd_page.proofs.Parts.{length-spelling}
use Rattle.sd_page.proofs.Told.{same_page}
use Rattle.sd_page.proofs.Opened.{Images, image-lsn, image-count}
use Rattle.sd_page.proofs.Written.{with_slots, with_lsn}
use Rattle.sd_page.proofs.image.rebuilt.Goals as goal

pub returns-then-bytes-ne-PAGE_BYTES-clause-found : goal.returns-then-bytes-ne-PAGE_BYTES-clause-found
returns-then-bytes-ne-PAGE_BYTES-clause-found c page fits number spelled = absurd (c.if-bytes-ne-PAGE_BYTES.true (sym (ap length spelled) ∙ length-spelling page fits))

pub loop-slot-init : goal.loop-slot-init
loop-slot-init c = record {
  number = ap (λ (p : Page). p.number) (c.stamp.ensures ∙ ap (λ (p : Page). with_lsn p c.u64_at.result) c.empty-image.ensures);
  copied = λ page fits number spelled.
      let i : Images c.args.bytes.now page = record { fits = fits; spelled = sym spelled } in
      c.stamp.ensures ∙ ap (λ (p : Page). with_lsn p c.u64_at.result) c.empty-image.ensures
      ∙ same_page _ (with_slots page []) (c.u64_at.ensures ∙ image-lsn c.args.bytes.now page i) (sym number) refl;
}

pub returns-in_err-copy_slot-clause-found : goal.returns-in_err-copy_slot-clause-found
returns-in_err-copy_slot-clause-found c page fits number spelled =
    let i : Images c.args.bytes.now page = record { fits = fits; spelled = sym spelled } in
    let below : c.loop-slot.slot < length page.slots = omega (arith, c.loop-slot-test.true, c.u16_at-slot-end.ensures ∙ image-count c.args.bytes.now page i) in
    absurd (c.in_err-copy_slot.ensures.copied page fits spelled below (c.loop-slot.invariant.copied page fits number spelled))

pub loop-slot-preserved : goal.loop-slot-preserved
loop-slot-preserved c = record {
  number = c.copy_slot.ensures.number ∙ c.loop-slot.invariant.number;
  copied = λ page fits number spelled.
      let i : Images c.args.bytes.now page = record { fits = fits; spelled = sym spelled } in
      let below : c.loop-slot.slot < length page.slots = omega (arith, c.loop-slot-test.true, c.u16_at-slot-end.ensures ∙ image-count c.args.bytes.now page i) in
      c.in_ok-copy_slot.ensures.copied page fits spelled below (c.loop-slot.invariant.copied page fits number spelled);
}

pub returns-clause-found : goal.returns-clause-found
returns-clause-found c page fits number spelled =
    let i : Images c.args.bytes.now page = record { fits = fits; spelled = sym spelled } in
    let all : length page.slots ≤ c.loop-slot.slot = omega (arith, c.loop-slot-test.false, c.u16_at-slot-end.ensures ∙ image-count c.args.bytes.now page i) in
    ap Some (c.loop-slot.invariant.copied page fits number spelled ∙ ap (with_slots page) (take_all c.loop-slot.slot page.slots all))
