use Rattle.std.proofs.Common.{◌≡◌, ℕ, List, Bool, Some, sym, ap, ◌∙◌, subst, arith}
use Rattle.sd_base.proofs.Results.{on_ok}
use Rattle.sd_page.specs.Page.{Page}
use Rattle.sd_pool.specs.Buffers.{Buffers, image_at}
use Rattle.sd_state.specs.Complexes.{parts}
use Rattle.sd_state.specs.Good.{Good}
use Rattle.sd_state.specs.Parts.{Parts, among, no_pool, pool_at}
use Rattle.sd_moves.specs.Putting.{put_parts}
use Rattle.sd_moves.proofs.PutCalls.{put-errors, put-stays}
use Rattle.sd_moves.proofs.PutMay.{held-may}
use Rattle.sd_moves.proofs.PutTried.{im-newest}
use Rattle.sd_moves.proofs.writing.write_newest.Goals as goal

pub put_image-requires-clause-may : goal.put_image-requires-clause-may
put_image-requires-clause-may g c =
    let r = g.G.Rig in
    let old = c.args.c.now.rig in
    let p : Parts = parts c.args.c.now in
    let i : ℕ = c.args.i in
    let im : Page = c.copy_in.result.now in
    let held : image_at (pool_at p i) c.args.p ≡ Some im =
    ap (λ (pools : List Buffers). image_at (among no_pool pools i) c.args.p) (sym c.deref.ensures.value) ∙ c.copy_in.ensures in (
      p,
      c.requires.good.0,
      c.requires.good.1,
      record {
        good = c.requires.good.2;
        settled = c.requires.settled;
        may = held-may c.args.p i im (r.seen old) (r.leaves old) c.requires.good.0 p c.requires.good.1 c.requires.good.2 held
            c.requires.idle c.requires.may;
      },
    )

pub returns-clause-good : goal.returns-clause-good
returns-clause-good g c pend m good =
    let r = g.G.Rig in
    let old = c.args.c.now.rig in
    let p : Parts = parts c.args.c.now in
    let i : ℕ = c.args.i in
    let im : Page = c.copy_in.result.now in
    let held : image_at (pool_at p i) c.args.p ≡ Some im =
    ap (λ (pools : List Buffers). image_at (among no_pool pools i) c.args.p) (sym c.deref.ensures.value) ∙ c.copy_in.ensures in
    let is : record p { loose = c.put_image.new.loose.items } ≡ put_parts c.put_image.result p =
    ap (λ (marks : List Bool). record p { loose = marks }) c.put_image.ensures.marks in
    let new = c.put_image.new.rig in
    subst (λ (x : Parts). Good (r.seen new) (r.leaves new) pend x m) (sym is)
    (c.put_image.ensures.good p pend m (record {
      good = good;
      settled = c.requires.settled;
      may = held-may c.args.p i im (r.seen old) (r.leaves old) pend p m good held c.requires.idle c.requires.may;
    }))

pub returns-clause-images : goal.returns-clause-images
returns-clause-images g c pend m good =
    let r = g.G.Rig in
    let old = c.args.c.now.rig in
    let p : Parts = parts c.args.c.now in
    let i : ℕ = c.args.i in
    let im : Page = c.copy_in.result.now in
    let held : image_at (pool_at p i) c.args.p ≡ Some im =
    ap (λ (pools : List Buffers). image_at (among no_pool pools i) c.args.p) (sym c.deref.ensures.value) ∙ c.copy_in.ensures in
    c.put_image.ensures.images p pend m (record {
      good = good;
      settled = c.requires.settled;
      may = held-may c.args.p i im (r.seen old) (r.leaves old) pend p m good held c.requires.idle c.requires.may;
    })

pub returns-clause-stays : goal.returns-clause-stays
returns-clause-stays g c =
    let p : Parts = parts c.args.c.now in
    let is : record p { loose = c.put_image.new.loose.items } ≡ put_parts c.put_image.result p =
    ap (λ (marks : List Bool). record p { loose = marks }) c.put_image.ensures.marks in
    put-stays c.put_image.result p (record p { loose = c.put_image.new.loose.items }) is

pub returns-clause-errors : goal.returns-clause-errors
returns-clause-errors g c =
    let p : Parts = parts c.args.c.now in
    let is : record p { loose = c.put_image.new.loose.items } ≡ put_parts c.put_image.result p =
    ap (λ (marks : List Bool). record p { loose = marks }) c.put_image.ensures.marks in
    put-errors c.put_image.result p (record p { loose = c.put_image.new.loose.items }) c.requires.settled is

pub returns-clause-there : goal.returns-clause-there
returns-clause-there g c =
    let r = g.G.Rig in
    let old = c.args.c.now.rig in
    let p : Parts = parts c.args.c.now in
    let i : ℕ = c.args.i in
    let im : Page = c.copy_in.result.now in
    let held : image_at (pool_at p i) c.args.p ≡ Some im =
    ap (λ (pools : List Buffers). image_at (among no_pool pools i) c.args.p) (sym c.deref.ensures.value) ∙ c.copy_in.ensures in
    on_ok c.put_image.result _ _ (λ is. is ∙ im-newest c.args.p im (r.seen old) (r.leaves old) c.requires.good.0 p
    c.requires.good.1 c.requires.good.2 (g.met.G.Rig.leaves_seen old 0 (omega arith))
    (held-may c.args.p i im (r.seen old) (r.leaves old) c.requires.good.0 p c.requires.good.1 c.requires.good.2 held
    c.requires.idle c.requires.may)) c.put_image.ensures.there

pub returns-clause-versions : goal.returns-clause-versions
returns-clause-versions g c =
    let r = g.G.Rig in
    let old = c.args.c.now.rig in
    let p : Parts = parts c.args.c.now in
    let i : ℕ = c.args.i in
    let im : Page = c.copy_in.result.now in
    let held : image_at (pool_at p i) c.args.p ≡ Some im =
    ap (λ (pools : List Buffers). image_at (among no_pool pools i) c.args.p) (sym c.deref.ensures.value) ∙ c.copy_in.ensures in
    c.put_image.ensures.versions p c.requires.good.0 c.requires.good.1
    (record {
      good = c.requires.good.2;
      settled = c.requires.settled;
      may = held-may c.args.p i im (r.seen old) (r.leaves old) c.requires.good.0 p c.requires.good.1 c.requires.good.2 held
          c.requires.idle c.requires.may;
    })
