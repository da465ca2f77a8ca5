use Rattle.std.proofs.Common.{◌∙◌, ◌+◌, ◌<◌, ap, get_or, inr, length, sym, subst, arith}
use Rattle.std.specs.Prelude.{slice_get}
use Rattle.std.proofs.lemmas.List.{length-map, length-set, take_all}
use Rattle.std.proofs.lemmas.List.Elements.{All-get_or}
use Rattle.std.proofs.lemmas.Result.{err_from_is_err_and}
use Rattle.sd_page.specs.Page.{Page}
use Rattle.sd_redo.specs.Changes.{IsChange}
use Rattle.sd_recovered.specs.Redone.{IsNoted, IsRedone}
use Rattle.sd_recovered.proofs.Noted.{Notes, no_lsn, none_at, none_noted, noted_more}
use Rattle.sd_recovered.proofs.RedoSteps.{Finds, misfits, none_redone, page_small, redone_more}
use Rattle.sd_recovered.proofs.redoing.redo_changes.Goals as goal

pub loop-change-init : goal.loop-change-init
loop-change-init c = record {
  count = ap length c.in_ok-firsts.ensures ∙ length-map c.args.pages.now no_lsn ∙ c.requires.count;
  redone = λ p lt. none_redone p c.args.pages.now (omega (arith, c.requires.count));
  noted = λ p lt. none_noted p c.args.pages.now c.in_ok-firsts.firsts.items (omega (arith, c.requires.count))
      (ap (λ l. slice_get l p) c.in_ok-firsts.ensures ∙ none_at c.args.pages.now p (omega (arith, c.requires.count)));
}

pub loop-change-preserved : goal.loop-change-preserved
loop-change-preserved c =
    let keeps = c.loop-change.invariant in
    let is : IsChange c.change-item.result = subst IsChange (sym c.change-item.is)
    (All-get_or IsChange c.args.changes.now c.loop-change.change-index c.change-item.result (omega arith) c.requires.changes) in
    let small : c.change-item.result.page < 1024 = page_small c.change-item.result is in
    let image : Page = get_or c.loop-change.pages c.change-item.result.page c.index-pages-place.result in
    let finds : Finds c.change-item.result c.args.pages.now c.loop-change.pages c.args.disk_lsns.now image = record {
      is = is;
      within = omega (arith, c.requires.count);
      lsns_are = c.requires.lsns;
      image_is = ap (get_or c.loop-change.pages c.change-item.result.page) c.index-pages-place.is;
    } in
    let notes : Notes c.change-item.result c.args.pages.now c.args.disk_lsns.now c.loop-change.firsts.items c.index_mut.result.now
    c.redo_change.new.first = record {
      is = is;
      within = omega (arith, keeps.count);
      lsns_are = c.requires.lsns;
      first_is = c.index_mut.ensures.value;
      noted_is = c.in_ok-redo_change.ensures.noted;
    } in record {
      count = length-set c.loop-change.firsts.items c.change-item.result.page c.redo_change.new.first ∙ keeps.count;
      redone = λ p lt. redone_more c.args.changes.now c.loop-change.change-index c.change-item.result c.args.pages.now c.loop-change.pages
          c.args.disk_lsns.now image c.redo_change.new.image
          (omega arith) c.change-item.is finds
          (record { fit = c.in_ok-redo_change.ensures.fit; redone = c.in_ok-redo_change.ensures.redone }) p (keeps.redone p lt);
      noted = λ p lt. noted_more c.args.changes.now c.loop-change.change-index c.change-item.result c.args.pages.now
          c.args.disk_lsns.now c.loop-change.firsts.items c.index_mut.result.now c.redo_change.new.first
          (omega arith) c.change-item.is notes p (keeps.noted p lt);
    }

pub returns-in_err-redo_change-clause-refusals : goal.returns-in_err-redo_change-clause-refusals
returns-in_err-redo_change-clause-refusals c =
    let p = err_from_is_err_and c.from_residual-in_err-redo_change.result c.from_residual-in_err-redo_change.ensures.1 in
    let is : IsChange c.change-item.result = subst IsChange (sym c.change-item.is)
    (All-get_or IsChange c.args.changes.now c.loop-change.change-index c.change-item.result (omega arith) c.requires.changes) in
    let small : c.change-item.result.page < 1024 = page_small c.change-item.result is in
    let image : Page = get_or c.loop-change.pages c.change-item.result.page c.index-pages-place.result in
    let finds : Finds c.change-item.result c.args.pages.now c.loop-change.pages c.args.disk_lsns.now image = record {
      is = is;
      within = omega (arith, c.requires.count);
      lsns_are = c.requires.lsns;
      image_is = ap (get_or c.loop-change.pages c.change-item.result.page) c.index-pages-place.is;
    } in
    let bad = c.in_err-redo_change.ensures.refusals in
    rw (p.1, p.2) (inr (
      c.change-item.result.dev,
      130 + c.change-item.result.found.now.place,
      bad.0,
      misfits c.args.changes.now c.loop-change.change-index
          c.change-item.result c.args.pages.now c.loop-change.pages c.args.disk_lsns.now image
          (omega arith) c.change-item.is small finds bad.1 c.loop-change.invariant.redone,
    ))

pub returns-clause-redone : goal.returns-clause-redone
returns-clause-redone c p lt = subst (λ l. IsRedone p l c.args.pages.now c.loop-change.pages)
    (take_all c.loop-change.change-index c.args.changes.now (omega arith)) (c.loop-change.invariant.redone p lt)

pub returns-clause-firsts : goal.returns-clause-firsts
returns-clause-firsts c p lt = subst (λ l. IsNoted p l c.args.pages.now c.loop-change.firsts.items)
    (take_all c.loop-change.change-index c.args.changes.now (omega arith)) (c.loop-change.invariant.noted p lt)
