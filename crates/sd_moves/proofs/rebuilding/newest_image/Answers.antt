use Rattle.std.proofs.Common.{◌≡◌, ℕ, List, sym, ap, ◌∙◌, subst}
use Rattle.sd_log.specs.Logs.{LogState}
use Rattle.sd_page.specs.Page.{Page}
use Rattle.sd_chain.specs.Bytes.{disk_page}
use Rattle.sd_chain.specs.Images.{all_kept}
use Rattle.sd_chain.specs.Pages.{FitAll, replay}
use Rattle.sd_chain.specs.Named.{version_of}
use Rattle.sd_chain.specs.Logs.{tails_of}
use Rattle.sd_state.specs.Complexes.{parts}
use Rattle.sd_state.specs.Parts.{Parts, log_at}
use Rattle.sd_moves.specs.Rebuilding.{forced_chain}
use Rattle.sd_moves.proofs.Merged.{merged-fits, merged-newest}
use Rattle.sd_moves.proofs.rebuilding.newest_image.Goals as goal

pub redo_all-requires-clause-joins : goal.redo_all-requires-clause-joins
redo_all-requires-clause-joins g c =
    let r = g.G.Rig in
    let old = c.args.c.now.rig in
    let p : Parts = parts c.args.c.now in
    let im : Page = c.deref_mut.result.now in
    let is : im ≡ disk_page (r.seen old 0) c.args.p = c.deref_mut.ensures.value ∙ c.in_ok-image.ensures.image in
    subst (λ (logs : List LogState). FitAll im.lsn im (forced_chain c.args.p logs))
    (sym (ap (λ (x : Parts). x.logs) c.read_disk.ensures.parts))
    (subst (λ (x : Page). FitAll x.lsn x (forced_chain c.args.p p.logs)) (sym is)
    (merged-fits c.args.p (r.seen old) (r.leaves old) c.requires.good.0 p c.requires.good.1 c.requires.good.2 c.requires.may))

pub returns-clause-newest : goal.returns-clause-newest
returns-clause-newest g c =
    let r = g.G.Rig in
    let old = c.args.c.now.rig in
    let new = c.read_disk.new.self.rig in
    let p : Parts = parts c.args.c.now in
    let there : Parts = parts c.read_disk.new.self in
    let im : Page = c.deref_mut.result.now in
    let disk : Page = disk_page (r.seen old 0) c.args.p in
    let is : im ≡ disk = c.deref_mut.ensures.value ∙ c.in_ok-image.ensures.image in
    c.in_ok-redo_all.ensures
    ∙ ap (λ (x : Page). replay x.lsn x (forced_chain c.args.p there.logs)) is
    ∙ ap (λ (x : Parts). replay disk.lsn disk (forced_chain c.args.p x.logs)) c.read_disk.ensures.parts
    ∙ merged-newest c.args.p (r.seen old) (r.leaves old) c.requires.good.0 p c.requires.good.1 c.requires.good.2 c.requires.may
    ∙ sym (ap (λ (x : Parts). version_of (tails_of (log_at x)) (disk_page (r.seen new 0)) all_kept c.args.p)
    c.read_disk.ensures.parts
    ∙ ap (λ (bytes : List ℕ). version_of (tails_of (log_at p)) (disk_page bytes) all_kept c.args.p)
    (c.read_disk.ensures.stays.reads 0))
