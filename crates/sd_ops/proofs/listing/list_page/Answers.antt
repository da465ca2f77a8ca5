use Rattle.std.proofs.Common.{◌≡◌, ℕ, List, sym, ap, ◌∙◌, subst, refl}
use Rattle.std.specs.Prelude.{Result, Err}
use Rattle.std.proofs.lemmas.Result.{err_from_is_err_and}
use Rattle.sd_base.specs.declared.ids.Rid.{Rid}
use Rattle.sd_base.specs.declared.refusal.Refusal.{Refusal}
use Rattle.sd_base.specs.declared.refusal.Refusal.TheVariants as R
use Rattle.sd_model.specs.declared.event.Event.TheVariants as event
use Rattle.sd_world.specs.Serving.{Telling, listed, telling}
use Rattle.sd_fits.specs.Serving.{Serving}
use Rattle.sd_ops.proofs.Lists.{Lists, list-down, list-refused, list-rows}
use Rattle.sd_state.specs.Complexes.{parts}
use Rattle.sd_ops.specs.Leaving.{UseLeaves}
use Rattle.sd_ops.proofs.Leaving.{locks-same, used-left}
use Rattle.sd_ops.proofs.Logging.{by-err}
use Rattle.sd_ops.proofs.listing.list_page.Goals as goal

pub returns-in_err-expect_up-clause-served : goal.returns-in_err-expect_up-clause-served
returns-in_err-expect_up-clause-served g c =
    let tell : Telling _ = telling g.G.Rig.seen g.G.Rig.leaves g.G.Rig.moment g.G.Rig.since g.G.Rig.faults in
    let old = c.args.c.now in
    let p = err_from_is_err_and c.from_residual.result c.from_residual.ensures.1 in
    let a = c.in_err-expect_up.ensures in
    let is : c.from_residual.result ≡ Err R.Down = p.1 ∙ ap (λ (n : Refusal). Err n) (p.2 ∙ a.only) in
    let b : Lists tell c.args.i old = record { low = a.low; high = a.high; now = λ img s. g.met.G.Rig.only_now old.rig img s } in
    subst (λ (r : Result (List (Rid × List ℕ)) Refusal). Serving tell (event.List c.args.i c.args.p) (listed r) old old) (sym is)
    (list-down tell c.args.i c.args.p old b a.down)

pub returns-in_err-rows-clause-served : goal.returns-in_err-rows-clause-served
returns-in_err-rows-clause-served g c =
    let tell : Telling _ = telling g.G.Rig.seen g.G.Rig.leaves g.G.Rig.moment g.G.Rig.since g.G.Rig.faults in
    let old = c.args.c.now in
    let p = err_from_is_err_and c.from_residual-in_err-rows.result c.from_residual-in_err-rows.ensures.1 in
    let n : Refusal = c.in_err-rows.field-0.0 in
    let a = c.in_ok-expect_up.ensures in
    let is : c.from_residual-in_err-rows.result ≡ Err n = p.1 ∙ ap (λ (k : Refusal). Err k) p.2 in
    let b : Lists tell c.args.i old = record { low = a.low; high = a.high; now = λ img s. g.met.G.Rig.only_now old.rig img s } in
    subst (λ (r : Result (List (Rid × List ℕ)) Refusal). Serving tell (event.List c.args.i c.args.p) (listed r) old old) (sym is)
    (list-refused tell c.args.i c.args.p old b a.up n c.in_err-rows.ensures.none)

pub returns-clause-served : goal.returns-clause-served
returns-clause-served g c =
    let tell : Telling _ = telling g.G.Rig.seen g.G.Rig.leaves g.G.Rig.moment g.G.Rig.since g.G.Rig.faults in
    let old = c.args.c.now in
    let a = c.in_ok-expect_up.ensures in
    list-rows tell c.args.i c.args.p old
    (record { low = a.low; high = a.high; now = λ img s. g.met.G.Rig.only_now old.rig img s }) a.up c.in_ok-rows.rows c.in_ok-rows.ensures.rows
    c.touch.new.c c.touch.ensures.rig c.touch.ensures.parts c.touch.ensures.good

pub returns-in_err-expect_up-clause-untouched : goal.returns-in_err-expect_up-clause-untouched
returns-in_err-expect_up-clause-untouched g c =
    let old = parts c.args.c.now in
    let e = err_from_is_err_and c.from_residual.result c.from_residual.ensures.1 in
    by-err (λ (x : Result (List (Rid × List ℕ)) Refusal). UseLeaves c.args.i c.args.p x old old) c.from_residual.result e.0 e.0 e.1 refl
    (locks-same old old refl)

pub returns-in_err-rows-clause-untouched : goal.returns-in_err-rows-clause-untouched
returns-in_err-rows-clause-untouched g c =
    let old = parts c.args.c.now in
    let e = err_from_is_err_and c.from_residual-in_err-rows.result c.from_residual-in_err-rows.ensures.1 in
    by-err (λ (x : Result (List (Rid × List ℕ)) Refusal). UseLeaves c.args.i c.args.p x old old) c.from_residual-in_err-rows.result e.0 e.0 e.1 refl
    (locks-same old old refl)

pub returns-clause-untouched : goal.returns-clause-untouched
returns-clause-untouched g c =
    let old = parts c.args.c.now in
    let a = c.in_ok-expect_up.ensures in
    used-left c.args.i c.args.p old old (parts c.touch.new.c) a.low a.high c.requires.fits.1.good.shape (locks-same old old refl)
    c.touch.ensures.parts
