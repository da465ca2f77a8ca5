use Rattle.std.proofs.Common.{ℕ, inl, inr, ⊎_elim, List, sym, subst}
use Rattle.std.specs.Prelude.{All}
use Rattle.std.proofs.lemmas.Result.{err_from_is_err_and}
use Rattle.sd_logrec.specs.View.{Rec}
use Rattle.sd_page.specs.Page.{Page}
use Rattle.sd_log.specs.Logs.{LogState}
use Rattle.sd_chain.specs.Bytes.{disk_page}
use Rattle.sd_chain.specs.Storage.{Recovered}
use Rattle.sd_recovered.specs.FirstAbove.{IsFirstAbove}
use Rattle.sd_recovered.specs.UndoPass.{txns_of}
use Rattle.sd_recovered.proofs.OpenStacks.{are-open}
use Rattle.sd_recovered.specs.Ends.{IsPageLow, owed_in}
use Rattle.sd_recovered.proofs.Refusals.{came, told_on}
use Rattle.sd_recovered.proofs.Faults as faults
use Rattle.sd_recovered.proofs.Whole as whole
use Rattle.sd_recovered.proofs.reading.read_pages.Goals as goal

pub returns-in_err-pages-clause-unsound : goal.returns-in_err-pages-clause-unsound
returns-in_err-pages-clause-unsound c =
    let told = ⊎_elim (λ m. inl m)
    (λ d. inr (d.0, d.1, d.3, λ ds are sound. whole.no_unsound c.args.bytes.now ds c.args.logs.now c.args.losers.now c.requires.eight are d.2 d.4 d.5 sound))
    c.in_err-pages.ensures.refusals in
    let p = err_from_is_err_and c.from_residual.result c.from_residual.ensures.1 in
    told_on _ c.from_residual.result p.0 c.in_err-pages.field-0.0 p.1 p.2 told

pub returns-in_err-table-clause-unsound : goal.returns-in_err-table-clause-unsound
returns-in_err-table-clause-unsound c =
    let told = ⊎_elim (λ m. inl m)
    (λ d. inr (
      d.0,
      d.1,
      d.2,
      λ ds are sound.
          let read = whole.is_read c.args.bytes.now ds c.args.logs.now c.args.losers.now c.requires.eight are c.in_ok-pages.pages.images.items c.in_ok-pages.ensures.newest in
          d.3 (whole.img c.args.bytes.now ds c.args.logs.now c.args.losers.now c.requires.eight are c.in_ok-pages.pages.images.items c.in_ok-pages.ensures.newest) read sound.kept,
    ))
    c.in_err-table.ensures.misfit in
    let p = err_from_is_err_and c.from_residual-in_err-table.result c.from_residual-in_err-table.ensures.1 in
    told_on _ c.from_residual-in_err-table.result p.0 c.in_err-table.field-0.0 p.1 p.2 told

pub returns-in_err-check_ends-clause-unsound : goal.returns-in_err-check_ends-clause-unsound
returns-in_err-check_ends-clause-unsound c =
    let pages : List Page = c.in_ok-pages.pages.images.items in
    let logs : List LogState = c.args.logs.now in
    let owed = c.owed_by.ensures 1 logs c.requires.losers in
    let low = c.are_low-low.ensures (owed_in logs) owed in
    let told = inr (
      c.in_err-check_ends.ensures.unfit.0,
      c.in_err-check_ends.ensures.unfit.1,
      c.in_err-check_ends.ensures.unfit.2,
      λ ds are sound.
          let each = whole.low_pages c.args.bytes.now ds logs c.args.losers.now c.requires.eight are pages c.in_ok-pages.ensures.newest
          c.in_ok-pages.ensures.images_count sound.lsns in
          c.in_err-check_ends.ensures.unfit.3
          (low.1 (subst (All (IsPageLow (owed_in logs))) (sym c.deref.ensures.value) each))
          (whole.ends c.args.bytes.now ds logs c.args.losers.now c.requires.eight are pages c.in_ok-pages.ensures.newest sound),
    ) in
    let p = err_from_is_err_and c.from_residual-in_err-check_ends.result c.from_residual-in_err-check_ends.ensures.1 in
    told_on _ c.from_residual-in_err-check_ends.result p.0 c.in_err-check_ends.field-0.0 p.1 p.2 told

pub returns-in_err-pages-clause-place : goal.returns-in_err-pages-clause-place
returns-in_err-pages-clause-place c = λ dev at is ds are.
    let x : List ℕ = c.args.bytes.now in
    let logs : List LogState = c.args.logs.now in
    let losers = c.args.losers.now in
    let p = err_from_is_err_and c.from_residual.result c.from_residual.ensures.1 in
    let sound = faults.logs_sound x ds logs losers c.requires.eight are in
    elim (c.in_err-pages.ensures.place dev at (came c.from_residual.result p.0 c.in_err-pages.field-0.0 dev at p.1 p.2 is)) [
      | inl twin ↦ inr (inl (sound, faults.in_twin x ds logs losers c.requires.eight are dev at twin))
      | inr behind ↦ inr (inr (inl (
        sound,
        behind.0,
        faults.in_chain x ds logs losers c.requires.eight are dev at (behind.1 (faults.lsns_rise x ds logs losers c.requires.eight are)),
      )))
    ]

pub returns-in_err-table-clause-place : goal.returns-in_err-table-clause-place
returns-in_err-table-clause-place c = λ dev at is ds are.
    let x : List ℕ = c.args.bytes.now in
    let logs : List LogState = c.args.logs.now in
    let losers = c.args.losers.now in
    let pages : List Page = c.in_ok-pages.pages.images.items in
    let p = err_from_is_err_and c.from_residual-in_err-table.result c.from_residual-in_err-table.ensures.1 in
    let sound = faults.logs_sound x ds logs losers c.requires.eight are in
    let img = whole.img x ds logs losers c.requires.eight are pages c.in_ok-pages.ensures.newest in
    let read = whole.is_read x ds logs losers c.requires.eight are pages c.in_ok-pages.ensures.newest in
    let f = c.in_err-table.ensures.first dev at (came c.from_residual-in_err-table.result p.0 c.in_err-table.field-0.0 dev at p.1 p.2 is) img read in
    inr (inr (inr (inl (
      sound,
      c.in_ok-pages.ensures.twins,
      faults.chains_fit x ds logs losers c.requires.eight are c.in_ok-pages.ensures.fit,
      faults.in_stack x ds logs losers c.requires.eight are dev at f.0 f.1 f.2,
    ))))

pub returns-in_err-check_ends-clause-place : goal.returns-in_err-check_ends-clause-place
returns-in_err-check_ends-clause-place c = λ dev at is ds are.
    let x : List ℕ = c.args.bytes.now in
    let logs : List LogState = c.args.logs.now in
    let losers = c.args.losers.now in
    let pages : List Page = c.in_ok-pages.pages.images.items in
    let p = err_from_is_err_and c.from_residual-in_err-check_ends.result c.from_residual-in_err-check_ends.ensures.1 in
    let sound = faults.logs_sound x ds logs losers c.requires.eight are in
    let img = whole.img x ds logs losers c.requires.eight are pages c.in_ok-pages.ensures.newest in
    let read = whole.is_read x ds logs losers c.requires.eight are pages c.in_ok-pages.ensures.newest in
    let owed = c.owed_by.ensures 1 logs c.requires.losers in
    let low = c.are_low-low.ensures (owed_in logs) owed in
    let f = c.in_err-check_ends.ensures.place dev at
    (came c.from_residual-in_err-check_ends.result p.0 c.in_err-check_ends.field-0.0 dev at p.1 p.2 is) in
    inr (inr (inr (inr (
      sound,
      c.in_ok-pages.ensures.twins,
      faults.chains_fit x ds logs losers c.requires.eight are c.in_ok-pages.ensures.fit,
      c.in_ok-table.ensures.stacks img read,
      faults.in_room x ds logs losers c.requires.eight are pages c.in_ok-pages.ensures.newest c.in_ok-pages.ensures.images_count
          c.in_ok-pages.ensures.fit c.are_low-low.result (
            (λ t. subst (All (IsPageLow (owed_in logs))) c.deref.ensures.value (low.0 t)),
            (λ all. low.1 (subst (All (IsPageLow (owed_in logs))) (sym c.deref.ensures.value) all)),
          ) dev at f,
    ))))

pub returns-clause-sound : goal.returns-clause-sound
returns-clause-sound c =
    let pages : List Page = c.in_ok-pages.pages.images.items in
    let logs : List LogState = c.args.logs.now in
    let owed = c.owed_by.ensures 1 logs c.requires.losers in
    let low = (c.are_low-low.ensures (owed_in logs) owed).0 c.in_ok-check_ends.ensures.low in
    let each : All (IsPageLow (owed_in logs)) pages = subst (All (IsPageLow (owed_in logs))) c.deref.ensures.value low in
    λ ds are.
    let img = whole.img c.args.bytes.now ds logs c.args.losers.now c.requires.eight are pages c.in_ok-pages.ensures.newest in
    let read = whole.is_read c.args.bytes.now ds logs c.args.losers.now c.requires.eight are pages c.in_ok-pages.ensures.newest in
    whole.passed c.args.bytes.now ds logs c.args.losers.now c.requires.eight are pages c.in_ok-pages.ensures.newest
    c.requires.size c.requires.spelled c.in_ok-pages.ensures.twins c.in_ok-pages.ensures.fit (c.in_ok-table.ensures.stacks img read) each
    c.in_ok-check_ends.ensures.fit

pub returns-clause-recovered : goal.returns-clause-recovered
returns-clause-recovered c = λ ds are p s lt.
    let pages : List Page = c.in_ok-pages.pages.images.items in
    let logs : List LogState = c.args.logs.now in
    let img = whole.img c.args.bytes.now ds logs c.args.losers.now c.requires.eight are pages c.in_ok-pages.ensures.newest in
    let read = whole.is_read c.args.bytes.now ds logs c.args.losers.now c.requires.eight are pages c.in_ok-pages.ensures.newest in
    let sound = returns-clause-sound c ds are in
    let running = are-open img logs c.args.losers.now read.logs_are c.requires.losers in
    subst (Recovered img p s) (sym (c.in_ok-table.ensures.values img read p s lt))
    (c.recovery.ensures.undone img sound.kept (txns_of c.args.losers.now) running p s)

pub returns-clause-first : goal.returns-clause-first
returns-clause-first c = λ ds are p lt.
    let same = whole.same_chain c.args.bytes.now ds c.args.logs.now c.args.losers.now c.requires.eight are c.in_ok-pages.pages.images.items c.in_ok-pages.ensures.newest p in
    let rec = c.in_ok-pages.ensures.first p lt in record {
      lsn = rec.0;
      there = rec.1;
      first = subst (λ (xs : List Rec). IsFirstAbove xs (disk_page c.args.bytes.now p).lsn rec.0) same rec.2;
    }
