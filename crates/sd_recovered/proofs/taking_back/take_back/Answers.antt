use Rattle.std.proofs.Common.{◌≡◌, ℕ, [], ◌∷◌, Some, get_or, slice_get, slice_set, sym, subst, ap, arith}
use Rattle.std.proofs.lemmas.Option.{slice_get-get_or}
use Rattle.sd_logrec.specs.declared.record.Record.TheVariants as records
use Rattle.sd_logrec.specs.View.{Rec, flat}
use Rattle.sd_recovered.specs.Others.{seen_in}
use Rattle.sd_recovered.specs.Taking.{MayTake, Taken}
use Rattle.sd_recovered.proofs.Steps.{holds-one, taken-one}
use Rattle.sd_recovered.proofs.taking_back.take_back.Goals as goal

pub returns-else-by_others-lsn-clause-taken : goal.returns-else-by_others-lsn-clause-taken
returns-else-by_others-lsn-clause-taken c = λ done.
    let pages = c.args.pages.now in let page = get_or pages c.get.result c.index-pages-get.result in let u = c.in-Update in
    let x : Rec = flat (records.Update u.lsn u.txn u.prev u.page u.slot u.capacity u.before u.after) in
    let same : c.get.result ≡ u.page = c.get.ensures.value in
    let here : slice_get pages u.page ≡ Some page = subst (λ (k : ℕ). slice_get pages k ≡ Some page) same
    (slice_get-get_or pages c.get.result c.index-pages-get.result (omega arith)) in
    let fits = c.put_back.ensures.fits done in
    subst (λ (r : Rec). Taken pages (slice_set pages c.get.result c.put_back.new.image) (r ∷ [])) (sym (ap flat u.is))
    (subst (λ (k : ℕ). Taken pages (slice_set pages k c.put_back.new.image) (x ∷ [])) (sym same)
    (taken-one pages x page c.put_back.new.image here fits.slot (c.put_back.ensures.put done)))

pub returns-else-by_others-lsn-clause-misfit : goal.returns-else-by_others-lsn-clause-misfit
returns-else-by_others-lsn-clause-misfit c = λ misfit may.
    let pages = c.args.pages.now in let page = get_or pages c.get.result c.index-pages-get.result in let u = c.in-Update in
    let x : Rec = flat (records.Update u.lsn u.txn u.prev u.page u.slot u.capacity u.before u.after) in
    let same : c.get.result ≡ u.page = c.get.ensures.value in
    let here : slice_get pages u.page ≡ Some page = subst (λ (k : ℕ). slice_get pages k ≡ Some page) same
    (slice_get-get_or pages c.get.result c.index-pages-get.result (omega arith)) in
    c.put_back.ensures.misfit misfit
    (holds-one pages (seen_in c.args.last.now) x page here
    (subst (λ (r : Rec). MayTake pages (seen_in c.args.last.now) (r ∷ [])) (ap flat u.is) may))
