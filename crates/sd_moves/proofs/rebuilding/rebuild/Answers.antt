use Rattle.std.proofs.Common.{◌≡◌, List, Bool, None, sym, ap, ◌∙◌, subst, arith}
use Rattle.std.specs.Prelude.{Result, Err, IfErr}
use Rattle.std.proofs.lemmas.Result.{err_from_is_err_and}
use Rattle.sd_page.specs.Page.{Page}
use Rattle.sd_pagelock.specs.Directory.{DirectoryState}
use Rattle.sd_pagelock.specs.Places.{PageEntry}
use Rattle.sd_pagelock.specs.Rows.{written}
use Rattle.sd_state.specs.Complexes.{parts, unboxed}
use Rattle.sd_state.specs.Good.{Good}
use Rattle.sd_state.specs.Locking.{IsSet}
use Rattle.sd_state.specs.Parts.{Parts}
use Rattle.sd_state.proofs.Unboxed.{image-unboxed}
use Rattle.sd_moves.specs.Putting.{left_after, put_parts}
use Rattle.sd_moves.specs.declared.writing.Unput.{Unput}
use Rattle.sd_moves.proofs.Freed.{rebuilt-good, still-newest}
use Rattle.sd_moves.proofs.PutCalls.{put-errors}
use Rattle.sd_moves.proofs.PutMay.{lost-may}
use Rattle.sd_moves.proofs.rebuilding.rebuild.Goals as goal

pub put_image-requires-clause-may : goal.put_image-requires-clause-may
put_image-requires-clause-may g c =
    let r = g.G.Rig in
    let old = c.args.c.now.rig in
    let p : Parts = parts c.args.c.now in
    let im : Page = c.args.im.now in (
      p,
      c.requires.good.0,
      c.requires.good.1,
      record {
        good = c.requires.good.2;
        settled = c.requires.may.settled 0 (omega arith);
        may = lost-may c.args.p im (r.seen old) (r.leaves old) c.requires.good.0 p c.requires.good.1 c.requires.good.2
            c.requires.may c.requires.newest;
      },
    )

-- ---- the put failed

pub returns-in_err-put_image-clause-good : goal.returns-in_err-put_image-clause-good
returns-in_err-put_image-clause-good g c pend m good =
    let r = g.G.Rig in
    let old = c.args.c.now.rig in
    let new = c.put_image.new.rig in
    let p : Parts = parts c.args.c.now in
    let im : Page = c.args.im.now in
    subst (λ (marks : List Bool). Good (r.seen new) (r.leaves new) pend (record p { loose = marks }) m)
    (sym c.put_image.ensures.marks)
    (c.put_image.ensures.good p pend m (record {
      good = good;
      settled = c.requires.may.settled 0 (omega arith);
      may = lost-may c.args.p im (r.seen old) (r.leaves old) pend p m good c.requires.may c.requires.newest;
    }))

pub returns-in_err-put_image-clause-images : goal.returns-in_err-put_image-clause-images
returns-in_err-put_image-clause-images g c pend m good =
    let r = g.G.Rig in
    let old = c.args.c.now.rig in
    let new = c.put_image.new.rig in
    let p : Parts = parts c.args.c.now in
    let im : Page = c.args.im.now in
    c.put_image.ensures.images p pend m (record {
      good = good;
      settled = c.requires.may.settled 0 (omega arith);
      may = lost-may c.args.p im (r.seen old) (r.leaves old) pend p m good c.requires.may c.requires.newest;
    })

pub returns-in_err-put_image-clause-versions : goal.returns-in_err-put_image-clause-versions
returns-in_err-put_image-clause-versions g c =
    let r = g.G.Rig in
    let old = c.args.c.now.rig in
    let new = c.put_image.new.rig in
    let p : Parts = parts c.args.c.now in
    let im : Page = c.args.im.now in
    c.put_image.ensures.versions p c.requires.good.0 c.requires.good.1 (record {
      good = c.requires.good.2;
      settled = c.requires.may.settled 0 (omega arith);
      may = lost-may c.args.p im (r.seen old) (r.leaves old) c.requires.good.0 p c.requires.good.1 c.requires.good.2
          c.requires.may c.requires.newest;
    })

pub returns-in_err-put_image-clause-errors : goal.returns-in_err-put_image-clause-errors
returns-in_err-put_image-clause-errors g c =
    let p : Parts = parts c.args.c.now in
    let new : Parts = record p { loose = c.put_image.new.loose.items } in
    let e : Unput = c.in_err-put_image.field-0.0 in
    let from = err_from_is_err_and c.from_residual.result c.from_residual.ensures.1 in
    let is : new ≡ put_parts {X = Unit {0}} (Err e) p =
    ap (λ (marks : List Bool). record p { loose = marks }) c.in_err-put_image.ensures.marks in
    subst (λ (x : Result (Unit {0}) Unput). IfErr x (λ (y : Unput). new ≡ left_after y p)) (sym from.1)
    (subst (λ (y : Unput). new ≡ left_after y p) (sym from.2)
    (put-errors (Err e) p new (c.requires.may.settled 0 (omega arith)) is))

-- ---- the page is free

pub returns-clause-parts : goal.returns-clause-parts
returns-clause-parts g c =
    let p : Parts = parts c.args.c.now in
    ap (λ (marks : List Bool). record p { loose = marks; directory = unboxed c.set.new.self }) c.in_ok-put_image.ensures.marks

pub returns-clause-place : goal.returns-clause-place
returns-clause-place g c =
    let places : DirectoryState Page = unboxed c.set.new.self in
    let moves = c.set.ensures in
    subst (λ (e : PageEntry). IsSet c.args.p e None (unboxed c.args.c.now.directory) places)
    (c.written.ensures ∙ ap written (c.entry-place.ensures ∙ c.requires.may.lost))
    (record {
      entry = moves.here;
      rec_lsn = moves.rec_lsn;
      asks = moves.asks;
      others = moves.others;
      other_rec_lsns = moves.other_rec_lsns;
      other_asks = moves.other_asks;
    })

pub returns-clause-moving : goal.returns-clause-moving
returns-clause-moving g c q = image-unboxed c.args.c.now.directory c.set.new.self q (c.set.ensures.images q)

pub returns-clause-good : goal.returns-clause-good
returns-clause-good g c pend m good =
    let r = g.G.Rig in
    let old = c.args.c.now.rig in
    let new = c.put_image.new.rig in
    let p : Parts = parts c.args.c.now in
    let im : Page = c.args.im.now in
    let places : DirectoryState Page = unboxed c.set.new.self in
    subst (λ (marks : List Bool). Good (r.seen new) (r.leaves new) pend (record p { loose = marks; directory = places }) m)
    (sym c.in_ok-put_image.ensures.marks)
    (rebuilt-good c.args.p im places (r.seen new) (r.leaves new) pend p m (c.in_ok-put_image.ensures.good p pend m (record {
      good = good;
      settled = c.requires.may.settled 0 (omega arith);
      may = lost-may c.args.p im (r.seen old) (r.leaves old) pend p m good c.requires.may c.requires.newest;
    }))
    (g.met.G.Rig.leaves_seen new 0 (omega arith)) c.requires.may
    (still-newest c.args.p im (r.seen old) (r.seen new) (r.leaves old) (r.leaves new) p
    (c.put_image.ensures.versions p pend m (record {
      good = good;
      settled = c.requires.may.settled 0 (omega arith);
      may = lost-may c.args.p im (r.seen old) (r.leaves old) pend p m good c.requires.may c.requires.newest;
    })) c.requires.newest)
    c.in_ok-put_image.ensures.there (returns-clause-place g c) (returns-clause-moving g c))

pub returns-clause-images : goal.returns-clause-images
returns-clause-images g c pend m good =
    let r = g.G.Rig in
    let old = c.args.c.now.rig in
    let new = c.put_image.new.rig in
    let p : Parts = parts c.args.c.now in
    let im : Page = c.args.im.now in
    c.put_image.ensures.images p pend m (record {
      good = good;
      settled = c.requires.may.settled 0 (omega arith);
      may = lost-may c.args.p im (r.seen old) (r.leaves old) pend p m good c.requires.may c.requires.newest;
    })

pub returns-clause-versions : goal.returns-clause-versions
returns-clause-versions g c =
    let r = g.G.Rig in
    let old = c.args.c.now.rig in
    let new = c.put_image.new.rig in
    let p : Parts = parts c.args.c.now in
    let im : Page = c.args.im.now in
    c.put_image.ensures.versions p c.requires.good.0 c.requires.good.1 (record {
      good = c.requires.good.2;
      settled = c.requires.may.settled 0 (omega arith);
      may = lost-may c.args.p im (r.seen old) (r.leaves old) c.requires.good.0 p c.requires.good.1 c.requires.good.2
          c.requires.may c.requires.newest;
    })
