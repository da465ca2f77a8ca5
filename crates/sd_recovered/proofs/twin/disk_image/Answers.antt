use Rattle.std.proofs.Common.{◌*◌, ◌∙◌, ap, refl, sym}
use Rattle.std.proofs.lemmas.Result.{err_from_is_err_and}
use Rattle.std.specs.Prelude.{unwrap_or}
use Rattle.sd_rig.specs.Slots.{slot}
use Rattle.sd_page.specs.Page.{empty_page}
use Rattle.sd_rig.proofs.SlotBytes.{chosen_read}
use Rattle.sd_recovered.proofs.PageSlots.{first_fails, image_at, names_same, same_fails, second_fails, sound_at}
use Rattle.sd_recovered.proofs.twin.disk_image.Goals as goal

pub returns-in_err-first-clause-refusals : goal.returns-in_err-first-clause-refusals
returns-in_err-first-clause-refusals c =
    let p = err_from_is_err_and c.from_residual.result c.from_residual.ensures.1 in
    let bad = c.in_err-first.ensures.refusals in
    rw (p.1, p.2) (_, bad.0, first_fails c.args.p c.get.result c.args.bytes.now c.get.ensures.value bad.1)

pub returns-in-Same-clause-refusals : goal.returns-in-Same-clause-refusals
returns-in-Same-clause-refusals c =
    let is = c.chosen_of-chosen.ensures ∙ chosen_read (2050 * c.get.result) 1024 2050 c.args.bytes.now _ refl refl in (
      _,
      c.damaged.ensures,
      same_fails c.args.p c.get.result c.args.bytes.now c.get.ensures.value (sym is ∙ ap slot c.in-Same.is),
    )

pub returns-in_err-second-clause-refusals : goal.returns-in_err-second-clause-refusals
returns-in_err-second-clause-refusals c =
    let p = err_from_is_err_and c.from_residual-in_err-second.result c.from_residual-in_err-second.ensures.1 in
    let bad = c.in_err-second.ensures.refusals in
    let is = c.chosen_of-chosen.ensures ∙ chosen_read (2050 * c.get.result) 1024 2050 c.args.bytes.now _ refl refl in
    rw (p.1, p.2) (
      _,
      bad.0,
      second_fails c.args.p c.get.result c.args.bytes.now c.get.ensures.value c.in_ok-first.first c.in_ok-first.ensures.image
          (λ same. c.in_default.not-Same (names_same c.chosen_of-chosen.result (is ∙ same))) bad.1,
    )

pub returns-in-Some : goal.returns-in-Some
returns-in-Some c =
    let is = c.chosen_of-chosen.ensures ∙ chosen_read (2050 * c.get.result) 1024 2050 c.args.bytes.now _ refl refl in record {
      image = sym (ap (λ o. unwrap_or o (empty_page c.args.p)) (sym c.chosen_image.ensures ∙ c.in-Some.is))
          ∙ image_at c.args.p c.get.result c.args.bytes.now c.get.ensures.value (slot c.chosen_of-chosen.result) c.in_ok-first.first
          c.in_ok-second.second c.in_ok-first.ensures.image c.in_ok-second.ensures.image is
          (λ same. c.in_default.not-Same (names_same c.chosen_of-chosen.result same));
      sound = sound_at c.args.p c.get.result c.args.bytes.now c.get.ensures.value c.in_ok-first.first c.in_ok-second.second
          c.in_ok-first.ensures.image c.in_ok-second.ensures.image
          (λ same. c.in_default.not-Same (names_same c.chosen_of-chosen.result (is ∙ same)));
      refusals = tt;
    }

pub returns-in-None : goal.returns-in-None
returns-in-None c =
    let is = c.chosen_of-chosen.ensures ∙ chosen_read (2050 * c.get.result) 1024 2050 c.args.bytes.now _ refl refl in record {
      image = c.empty.ensures ∙ sym (ap (λ o. unwrap_or o (empty_page c.args.p)) (sym c.chosen_image.ensures ∙ c.in-None.is))
          ∙ image_at c.args.p c.get.result c.args.bytes.now c.get.ensures.value (slot c.chosen_of-chosen.result) c.in_ok-first.first
          c.in_ok-second.second c.in_ok-first.ensures.image c.in_ok-second.ensures.image is
          (λ same. c.in_default.not-Same (names_same c.chosen_of-chosen.result same));
      sound = sound_at c.args.p c.get.result c.args.bytes.now c.get.ensures.value c.in_ok-first.first c.in_ok-second.second
          c.in_ok-first.ensures.image c.in_ok-second.ensures.image
          (λ same. c.in_default.not-Same (names_same c.chosen_of-chosen.result (is ∙ same)));
      refusals = tt;
    }
