use Rattle.std.proofs.Common.{◌≡◌, ◌++◌, ℕ, List, [], Result, Err, length, take, drop, sym, subst, ap, ◌∙◌}
use Rattle.std.proofs.Math.Seq.{take-append_seam}
use Rattle.std.proofs.lemmas.Result.{err_from_is_err_and}
use Rattle.sd_base.specs.declared.ids.TxnId.{TxnId}
use Rattle.sd_model.specs.declared.table.Table.{Table}
use Rattle.sd_page.specs.Page.{Page}
use Rattle.sd_logrec.specs.View.{Rec}
use Rattle.sd_chain.specs.Records.{Val}
use Rattle.sd_chain.specs.Undoing.{undo_all}
use Rattle.sd_recovered.specs.declared.undo_pass.UndoError.{UndoError}
use Rattle.sd_recovered.specs.declared.undo_pass.UndoError.TheVariants as F
use Rattle.sd_recovered.specs.Others.{by_others, seen_in}
use Rattle.sd_recovered.specs.Stops.{StopsAt}
use Rattle.sd_recovered.specs.Taking.{MayTake, Taken, open_in}
use Rattle.sd_recovered.specs.Values.{values_in}
use Rattle.sd_recovered.proofs.Walks.{open-none}
use Rattle.sd_recovered.proofs.undo_pass.undo.Goals as goal

same_err : (a b : UndoError) → ◌≡◌ {A = Result Table UndoError} (Err a) (Err b) → a ≡ b
same_err a b e = cc

pub returns-in_err-take_back_all-clause-misfit : goal.returns-in_err-take_back_all-clause-misfit
returns-in_err-take_back_all-clause-misfit c = λ inst place is may.
    let p = err_from_is_err_and c.from_residual-in_err-take_back_all.result c.from_residual-in_err-take_back_all.ensures.1 in
    let logs = c.args.logs.now in let all = open_in logs c.args.losers.now in
    let top : seen_in c.in_ok-last.last ≡ by_others logs = λ i t p s. c.in_ok-last.ensures t p s i in
    c.in_err-take_back_all.ensures.misfit inst place
    (ap Err (same_err c.in_err-take_back_all.field-0.0 (F.Misfit inst place) (ap Err (sym p.2) ∙ sym p.1 ∙ is)))
    (subst (λ (pages : List Page). MayTake pages (seen_in c.in_ok-last.last) all) (sym c.deref_mut.ensures.value)
    (subst (λ (f : TxnId → ℕ → ℕ → ℕ). MayTake c.args.pages.items f all) (sym top) may))

pub returns-in_err-take_back_all-clause-first : goal.returns-in_err-take_back_all-clause-first
returns-in_err-take_back_all-clause-first c = λ inst place is.
    let p = err_from_is_err_and c.from_residual-in_err-take_back_all.result c.from_residual-in_err-take_back_all.ensures.1 in
    let logs = c.args.logs.now in let losers = c.args.losers.now in
    let top : seen_in c.in_ok-last.last ≡ by_others logs = λ i t p s. c.in_ok-last.ensures t p s i in
    subst (λ (f : TxnId → ℕ → ℕ → ℕ). StopsAt c.args.pages.items f logs losers inst place) top
    (subst (λ (pages : List Page). StopsAt pages (seen_in c.in_ok-last.last) logs losers inst place) c.deref_mut.ensures.value
    (c.in_err-take_back_all.ensures.first inst place
    (ap Err (same_err c.in_err-take_back_all.field-0.0 (F.Misfit inst place) (ap Err (sym p.2) ∙ sym p.1 ∙ is)))))

-- where nothing is open
nothing-taken : (pages : List Page) (others : TxnId → ℕ → ℕ → ℕ) (xs : List Rec) → xs ≡ [] → MayTake pages others xs
nothing-taken pages others xs e = subst (MayTake pages others) (sym e) (record { kinds = tt; found = tt; places = tt; last = tt })

pub returns-then-is_nothing_open-clause-fits : goal.returns-then-is_nothing_open-clause-fits
returns-then-is_nothing_open-clause-fits c =
    let logs = c.args.logs.now in let losers = c.args.losers.now in
    nothing-taken c.args.pages.items (by_others logs) (open_in logs losers)
    (open-none logs losers (c.is_nothing_open.ensures.0 c.if-is_nothing_open.true))

pub returns-then-is_nothing_open-clause-values : goal.returns-then-is_nothing_open-clause-values
returns-then-is_nothing_open-clause-values c = λ r.
    let logs = c.args.logs.now in let losers = c.args.losers.now in
    c.in_ok-table_of.ensures r
    ∙ ap (λ (pages : List Page). values_in pages r.page r.slot) c.deref.ensures.value
    ∙ sym (ap (λ (xs : List Rec). undo_all (values_in c.args.pages.items) xs r.page r.slot)
    (open-none logs losers (c.is_nothing_open.ensures.0 c.if-is_nothing_open.true)))

pub returns-clause-fits : goal.returns-clause-fits
returns-clause-fits c =
    let logs = c.args.logs.now in let all = open_in logs c.args.losers.now in
    let top : seen_in c.in_ok-last.last ≡ by_others logs = λ i t p s. c.in_ok-last.ensures t p s i in
    subst (λ (f : TxnId → ℕ → ℕ → ℕ). MayTake c.args.pages.items f all) top
    (subst (λ (pages : List Page). MayTake pages (seen_in c.in_ok-last.last) all) c.deref_mut.ensures.value c.in_ok-take_back_all.ensures.fits)

pub returns-clause-values : goal.returns-clause-values
returns-clause-values c = λ r.
    let new = c.take_back_all.new.pages in let old = c.args.pages.items in let all = open_in c.args.logs.now c.args.losers.now in
    let len : c.args.pages.len ≡ length new = c.args.pages.ok.0 ∙ sym (ap length c.deref_mut.ensures.value) ∙ sym c.take_back_all.auto.pages in
    let whole : c.deref-2.result.now ≡ new = c.deref-2.ensures.value
    ∙ ap (λ (n : ℕ). take n (new ++ drop (length new) old)) len ∙ take-append_seam new (drop (length new) old) in
    let taken : Taken old new all = subst (λ (pages : List Page). Taken pages new all) c.deref_mut.ensures.value c.in_ok-take_back_all.ensures.taken in
    c.in_ok-table_of-2.ensures r
    ∙ ap (λ (pages : List Page). values_in pages r.page r.slot) whole
    ∙ ap (λ (f : ℕ → ℕ → Val). f r.page r.slot) taken.values
