use Rattle.std.proofs.Common.{ℕ, None, sym, ap, ◌∙◌, subst, arith}
use Rattle.std.specs.Prelude.{Result, Err, IfErr, OnOk}
use Rattle.std.proofs.lemmas.Result.{err_from_is_err_and}
use Rattle.sd_base.specs.declared.refusal.Refusal.{Refusal}
use Rattle.sd_base.proofs.Results.{on_ok}
use Rattle.sd_model.specs.declared.event.Event.TheVariants.{RecoverStep}
use Rattle.sd_model.specs.declared.event.Reply.TheVariants as reply
use Rattle.sd_moves.specs.Places.{with_directory}
use Rattle.sd_pagelock.specs.Directory.{entry_at}
use Rattle.sd_pagelock.specs.Places.{PageEntry}
use Rattle.sd_state.specs.Complexes.{parts}
use Rattle.sd_state.specs.Locking.{IsSet}
use Rattle.sd_state.specs.Parts.{Parts, is_loose, status_at}
use Rattle.sd_fits.specs.Serving.{Serving, fits_by, stands_for}
use Rattle.sd_world.specs.Answers.{IsLowestLost}
use Rattle.sd_world.specs.Serving.{answered, telling}
use Rattle.sd_world.proofs.Serving.{served-again}
use Rattle.sd_recover.specs.Rebuilding.{LeavesLost}
use Rattle.sd_recover.proofs.Doing.{freed-ok}
use Rattle.sd_recover.proofs.Rebuilt.{fits-read, may-rebuild, read-left, read-refused, read-spared}
use Rattle.sd_recover.proofs.rebuilding.rebuild_next.Goals as goal

pub newest_image-requires-clause-may : goal.newest_image-requires-clause-may
newest_image-requires-clause-may g c =
    may-rebuild c.args.p (parts c.args.c.now) c.requires.lowest c.requires.settled c.requires.fits.1.idle

-- ---- the image couldn't be had

pub returns-in_err-image-clause-served : goal.returns-in_err-image-clause-served
returns-in_err-image-clause-served g c =
    let r = g.G.Rig in
    let tell = telling r.seen r.leaves r.moment r.since r.faults in
    let old = c.args.c.now in
    let read = c.newest_image.new.c in
    let found = c.newest_image.ensures in
    let from = err_from_is_err_and c.from_residual.result c.from_residual.ensures.1 in
    subst (λ (x : Result (Unit {0}) Refusal). Serving tell (RecoverStep c.args.i) (answered (λ y. reply.Step) x) old read)
    (sym (from.1 ∙ ap (λ (n : Refusal). Err n) from.2))
    (read-refused tell old c.args.i c.args.by c.args.p c.keeps.ensures.low c.keeps.ensures.high
    c.requires.recovers read found.parts
    found.stays (λ img since. g.met.G.Rig.only_now old.rig img since) found.good (c.requires.settled 0 (omega arith)) found.images
    c.in_err-image.field-0.0 c.in_err-image.ensures.refusals)

pub returns-in_err-image-clause-left : goal.returns-in_err-image-clause-left
returns-in_err-image-clause-left g c =
    let old : Parts = parts c.args.c.now in
    let read : Parts = parts c.newest_image.new.c in
    let from = err_from_is_err_and c.from_residual.result c.from_residual.ensures.1 in
    let rig = c.newest_image.new.c.rig in
    subst (λ (x : Result (Unit {0}) Refusal). IfErr x (λ (n : Refusal). LeavesLost (g.G.Rig.seen rig) (g.G.Rig.leaves rig) 0 n c.args.by old read))
    (sym (from.1 ∙ ap (λ (n : Refusal). Err n) from.2))
    (read-left (g.G.Rig.seen rig) (g.G.Rig.leaves rig) c.in_err-image.field-0.0 c.args.by old read _ _ c.requires.settled
    c.newest_image.ensures.parts c.in_err-image.ensures.refusals)

pub returns-in_err-image-clause-logs : goal.returns-in_err-image-clause-logs
returns-in_err-image-clause-logs g c d ne = c.newest_image.ensures.stays.reads d

-- ---- it is put

pub put_or_fall-requires-clause-fits : goal.put_or_fall-requires-clause-fits
put_or_fall-requires-clause-fits g c =
    let r = g.G.Rig in
    let tell = telling r.seen r.leaves r.moment r.since r.faults in
    let old = c.args.c.now in
    let read = c.newest_image.new.c in
    let found = c.newest_image.ensures in
    let fits = c.requires.fits in (
      fits.0,
      fits-read tell old c.args.i c.args.by c.args.p c.keeps.ensures.low c.keeps.ensures.high
          c.requires.recovers read found.parts
          found.stays (λ img since. g.met.G.Rig.only_now old.rig img since) found.good fits.0 fits.1,
    )

pub put_or_fall-requires-clause-recovers : goal.put_or_fall-requires-clause-recovers
put_or_fall-requires-clause-recovers g c =
    ap (λ (k : Parts). status_at k c.args.i) c.newest_image.ensures.parts ∙ c.requires.recovers

pub put_or_fall-requires-clause-settled : goal.put_or_fall-requires-clause-settled
put_or_fall-requires-clause-settled g c d le =
    ap (λ (k : Parts). is_loose k d) c.newest_image.ensures.parts ∙ c.requires.settled d le

pub put_or_fall-requires-clause-lowest : goal.put_or_fall-requires-clause-lowest
put_or_fall-requires-clause-lowest g c =
    subst (λ (k : Parts). IsLowestLost (entry_at k.directory) c.args.p) (sym c.newest_image.ensures.parts) c.requires.lowest

pub put_or_fall-requires-clause-newest : goal.put_or_fall-requires-clause-newest
put_or_fall-requires-clause-newest g c = c.deref.ensures ∙ c.in_ok-image.ensures.newest

pub returns-clause-served : goal.returns-clause-served
returns-clause-served g c =
    let r = g.G.Rig in
    let tell = telling r.seen r.leaves r.moment r.since r.faults in
    let old = c.args.c.now in
    let read = c.newest_image.new.c in
    let found = c.newest_image.ensures in
    let new = c.put_or_fall.new.c in
    served-again tell stands_for (λ k. k.rig) (fits_by r.seen r.leaves) (RecoverStep c.args.i)
    (answered (λ y. reply.Step) c.put_or_fall.result) old read new (λ t u img le s. g.met.G.Rig.earlier new.rig t u img le s)
    (read-spared tell old c.args.i c.args.by c.args.p c.keeps.ensures.low c.keeps.ensures.high
    c.requires.recovers read found.parts
    found.stays (λ img since. g.met.G.Rig.only_now old.rig img since) found.good c.in_ok-image.ensures.quiet)
    c.put_or_fall.ensures.served

pub returns-clause-stays : goal.returns-clause-stays
returns-clause-stays g c =
    let new : Parts = parts c.put_or_fall.new.c in
    on_ok c.put_or_fall.result _ _ (λ is. is ∙ ap (with_directory new.directory) c.newest_image.ensures.parts)
    c.put_or_fall.ensures.stays

pub returns-clause-place : goal.returns-clause-place
returns-clause-place g c =
    let new : Parts = parts c.put_or_fall.new.c in
    subst (λ (k : Parts). OnOk c.put_or_fall.result (IsSet c.args.p PageEntry.Free None k.directory new.directory))
    c.newest_image.ensures.parts c.put_or_fall.ensures.place

pub returns-clause-left : goal.returns-clause-left
returns-clause-left g c =
    let new : Parts = parts c.put_or_fall.new.c in
    let rig = c.put_or_fall.new.c.rig in
    subst (λ (k : Parts). IfErr c.put_or_fall.result
    (λ (n : Refusal). LeavesLost (g.G.Rig.seen rig) (g.G.Rig.leaves rig) 0 n c.args.by k new))
    c.newest_image.ensures.parts c.put_or_fall.ensures.left

pub returns-clause-logs : goal.returns-clause-logs
returns-clause-logs g c d ne = c.put_or_fall.ensures.logs d ne ∙ c.newest_image.ensures.stays.reads d

pub returns-clause-did : goal.returns-clause-did
returns-clause-did g c =
    let r = g.G.Rig in
    let old : Parts = parts c.args.c.now in
    let new : Parts = parts c.put_or_fall.new.c in
    let i : ℕ = c.args.i in
    let low = c.keeps.ensures.low in
    freed-ok c.put_or_fall.result i c.args.by c.args.p (r.seen c.args.c.now.rig) (r.seen c.put_or_fall.new.c.rig) old new c.keeps-2.ensures
    c.requires.settled c.requires.lowest
    (on_ok c.put_or_fall.result _ _ (λ is. is ∙ ap (with_directory new.directory) c.newest_image.ensures.parts) c.put_or_fall.ensures.stays)
    (subst (λ (k : Parts). OnOk c.put_or_fall.result (IsSet c.args.p PageEntry.Free None k.directory new.directory))
    c.newest_image.ensures.parts c.put_or_fall.ensures.place)
    (c.put_or_fall.ensures.logs i (λ e. omega (arith, low, e)) ∙ c.newest_image.ensures.stays.reads i)
