use Rattle.std.proofs.Common.{◌∙◌, ap}
use Rattle.std.specs.Global.{Box}
use Rattle.sd_page.specs.Page.{Page}
use Rattle.sd_pagelock.specs.Directory.{DirectoryState, moving_image_at}
use Rattle.sd_state.specs.Values.{Pending}
use Rattle.sd_moves.proofs.Copies.{moving-is, moving-there}
use Rattle.sd_transfer.proofs.showing.moving_lsn.Goals as goal

pub unwrap-requires : goal.unwrap-requires
unwrap-requires g c =
    let old = c.args.c.now in
    let good = c.requires.good in
    moving-there (g.G.Rig.seen old.rig) (g.G.Rig.leaves old.rig) Pending.Idle c.args.p old good.0 good.1 c.requires.moves
    c.under_way.result (c.under_way.ensures ∙ ap (λ (d : DirectoryState (Box Page)). moving_image_at d c.args.p) c.directory.ensures)

pub returns : goal.returns
returns g c =
    let old = c.args.c.now in
    let good = c.requires.good in
    c.lsn.ensures ∙ ap (λ (x : Page). x.lsn) (c.deref.ensures
    ∙ moving-is (g.G.Rig.seen old.rig) (g.G.Rig.leaves old.rig) Pending.Idle c.args.p old good.0 good.1 c.requires.moves
    c.under_way.result (c.under_way.ensures ∙ ap (λ (d : DirectoryState (Box Page)). moving_image_at d c.args.p) c.directory.ensures)
    c.unwrap.result c.unwrap.ensures)
