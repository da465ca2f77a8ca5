use Rattle.std.proofs.Common.{◌≡◌, ◌∙◌, ◌<◌, ℕ, ap, inl, inr, length, subst, sym, arith}
use Rattle.std.specs.Prelude.{map, option_map, slice_get}
use Rattle.std.proofs.lemmas.Result.{err_from_is_err_and}
use Rattle.std.proofs.lemmas.Option.{slice_get-map}
use Rattle.sd_page.specs.Page.{Page}
use Rattle.sd_recovered.proofs.Newest.{known_of, misfit_is, noted_first, redone_fits, redone_newest, written_back}
use Rattle.sd_base.specs.declared.refusal.Refusal.{Refusal}
use Rattle.sd_base.specs.declared.refusal.Refusal.TheVariants as R
use Rattle.sd_redo.specs.Changes.{AreChanges}
use Rattle.sd_chain.specs.Faults.{FailsInTwin}
use Rattle.sd_recovered.specs.Redone.{MisfitsAt}
use Rattle.sd_recovered.proofs.FirstMisfit.{first_misfit, known_all}
use Rattle.sd_recovered.proofs.PageSlots.{unsound_twin}
use Rattle.sd_recovered.proofs.RedoSteps.{misfit_of}
use Rattle.sd_recovered.proofs.merging.newest_pages.Goals as goal
use Rattle.sd_base.proofs.Results.{came}

pub returns-clause-newest : goal.returns-clause-newest
returns-clause-newest c p lt =
    let len : length c.redo_changes.new.pages ≡ c.in_ok-images.images.len = omega arith in
    let known = known_of c.args.bytes.now c.args.logs.now p c.deref-3.result.now c.in_ok-changes.changes.items c.deref_mut.result.now
    c.in_ok-images.images.items c.merging.ensures.fit c.merging.ensures.replay
    c.deref_mut.ensures.value (c.in_ok-images.ensures.images p lt) c.deref-3.ensures.value c.requires.eight
    (c.in_ok-changes.ensures.merged p) in
    ap (λ l. slice_get l p) (written_back c.in_ok-images.images.len c.redo_changes.new.pages c.in_ok-images.images.items len)
    ∙ redone_newest c.args.bytes.now c.args.logs.now p c.deref-3.result.now c.deref_mut.result.now c.redo_changes.new.pages known
    (c.in_ok-rec_lsns.ensures.redone p lt)

pub returns-clause-disk : goal.returns-clause-disk
returns-clause-disk c p lt =
    ap (λ l. slice_get l p) (c.in_ok-disk_lsns.ensures ∙ ap (map (λ (page : Page). page.lsn)) c.deref.ensures.value)
    ∙ slice_get-map (λ (page : Page). page.lsn) c.in_ok-images.images.items p
    ∙ ap (option_map (λ (page : Page). page.lsn)) (c.in_ok-images.ensures.images p lt)

pub returns-clause-first : goal.returns-clause-first
returns-clause-first c p lt =
    let known = known_of c.args.bytes.now c.args.logs.now p c.deref-3.result.now c.in_ok-changes.changes.items c.deref_mut.result.now
    c.in_ok-images.images.items c.merging.ensures.fit c.merging.ensures.replay
    c.deref_mut.ensures.value (c.in_ok-images.ensures.images p lt) c.deref-3.ensures.value c.requires.eight
    (c.in_ok-changes.ensures.merged p) in
    noted_first c.args.bytes.now c.args.logs.now p c.deref-3.result.now c.deref_mut.result.now c.in_ok-rec_lsns.rec_lsns.items known
    (c.in_ok-rec_lsns.ensures.firsts p lt)

pub returns-clause-fit : goal.returns-clause-fit
returns-clause-fit c p lt =
    let known = known_of c.args.bytes.now c.args.logs.now p c.deref-3.result.now c.in_ok-changes.changes.items c.deref_mut.result.now
    c.in_ok-images.images.items c.merging.ensures.fit c.merging.ensures.replay
    c.deref_mut.ensures.value (c.in_ok-images.ensures.images p lt) c.deref-3.ensures.value c.requires.eight
    (c.in_ok-changes.ensures.merged p) in
    redone_fits c.args.bytes.now c.args.logs.now p c.deref-3.result.now c.deref_mut.result.now c.redo_changes.new.pages known
    (c.in_ok-rec_lsns.ensures.redone p lt)

-- and names one place
same_place : (P : ℕ → ℕ → Type 0) (e : Refusal) (d a dev at : ℕ) → e ≡ R.Damaged d a → e ≡ R.Damaged dev at → P d a → P dev at
same_place P e d a dev at f g p =
    let same_dev : d ≡ dev = cc in
    let same_at : a ≡ at = cc in
    subst (λ n. P n at) same_dev (subst (P d) same_at p)

pub returns-in_err-images-clause-refusals : goal.returns-in_err-images-clause-refusals
returns-in_err-images-clause-refusals c =
    let p = err_from_is_err_and c.from_residual.result c.from_residual.ensures.1 in
    rw (p.1, p.2) (elim c.in_err-images.ensures.refusals [
      | inl memory ↦ inl memory
      | inr bad ↦ inr (0, bad.0, bad.2.page, bad.1, bad.2.few, inl (unsound_twin bad.2.page c.args.bytes.now bad.0 bad.2.here))
    ])

pub returns-in_err-images-clause-place : goal.returns-in_err-images-clause-place
returns-in_err-images-clause-place c dev at is =
    let p = err_from_is_err_and c.from_residual.result c.from_residual.ensures.1 in
    let named = came c.from_residual.result p.0 c.in_err-images.field-0.0 dev at p.1 p.2 is in
    elim c.in_err-images.ensures.refusals [
      | inl memory ↦ absurd (cc)
      | inr bad ↦
          inl (same_place (FailsInTwin (λ d. c.args.bytes.now)) c.in_err-images.field-0.0 0 bad.0 dev at bad.1 named bad.2)
    ]

pub returns-in_err-rec_lsns-clause-place : goal.returns-in_err-rec_lsns-clause-place
returns-in_err-rec_lsns-clause-place c dev at is =
    let p = err_from_is_err_and c.from_residual-in_err-rec_lsns.result c.from_residual-in_err-rec_lsns.ensures.1 in
    let named = came c.from_residual-in_err-rec_lsns.result p.0 c.in_err-rec_lsns.field-0.0 dev at p.1 p.2 is in
    elim c.in_err-rec_lsns.ensures.refusals [
      | inl memory ↦ absurd (cc)
      | inr bad ↦ inr (
        c.in_ok-images.ensures.sound,
        λ rise.
            first_misfit c.args.bytes.now c.args.logs.now c.deref-3.result.now c.deref_mut.result.now dev at
            (known_all c.args.bytes.now c.args.logs.now c.deref-3.result.now c.in_ok-changes.changes.items c.deref_mut.result.now
            c.in_ok-images.images.items c.deref_mut.ensures.value c.in_ok-images.ensures.images c.deref-3.ensures.value
            c.requires.eight rise c.in_ok-changes.ensures.changes c.in_ok-changes.ensures.stand c.in_ok-changes.ensures.rises
            c.in_ok-changes.ensures.chains)
            (same_place (MisfitsAt c.deref-3.result.now c.deref_mut.result.now) c.in_err-rec_lsns.field-0.0 bad.0 bad.1 dev at
            bad.2 named bad.3),
      )
    ]

pub returns-in_err-rec_lsns-clause-refusals : goal.returns-in_err-rec_lsns-clause-refusals
returns-in_err-rec_lsns-clause-refusals c =
    let e = err_from_is_err_and c.from_residual-in_err-rec_lsns.result c.from_residual-in_err-rec_lsns.ensures.1 in
    rw (e.1, e.2) (elim c.in_err-rec_lsns.ensures.refusals [
      | inl memory ↦ inl memory
      | inr bad ↦
          let m = bad.3 in
          let few : m.change.page < 1024 = m.few in
          let are = subst AreChanges (sym c.deref-3.ensures.value) c.in_ok-changes.ensures.changes in
          let known = known_of c.args.bytes.now c.args.logs.now m.change.page c.deref-3.result.now c.in_ok-changes.changes.items
          c.deref_mut.result.now c.in_ok-images.images.items c.merging.ensures.fit c.merging.ensures.replay
          c.deref_mut.ensures.value (c.in_ok-images.ensures.images m.change.page few) c.deref-3.ensures.value c.requires.eight
          (c.in_ok-changes.ensures.merged m.change.page) in
          inr (
            bad.0,
            bad.1,
            m.change.page,
            bad.2,
            few,
            inr
                (misfit_is c.args.bytes.now c.args.logs.now m.change.page c.deref-3.result.now c.deref_mut.result.now known
                (misfit_of c.deref-3.result.now c.deref_mut.result.now bad.0 bad.1 are m)),
          )
    ])
