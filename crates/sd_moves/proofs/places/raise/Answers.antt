use Rattle.std.proofs.Common.{ap, ◌∙◌, subst}
use Rattle.std.specs.Prelude.{None}
use Rattle.sd_pagelock.specs.Directory.{DirectoryState, entry_at}
use Rattle.sd_pagelock.specs.Moves.{IsMove}
use Rattle.sd_pagelock.specs.Places.{PageEntry}
use Rattle.sd_pagelock.specs.Rows.{raised}
use Rattle.sd_page.specs.Page.{Page}
use Rattle.sd_state.specs.Complexes.{parts, unboxed}
use Rattle.sd_state.specs.Locking.{IsSet}
use Rattle.sd_state.specs.Parts.{Parts}
use Rattle.sd_state.proofs.Unboxed.{image-unboxed}
use Rattle.sd_moves.proofs.Placed.{raised-good}
use Rattle.sd_moves.proofs.places.raise.Goals as goal

pub set-requires-clause-lawful : goal.set-requires-clause-lawful
set-requires-clause-lawful g c = IsMove.raise c.args.i c.requires.sole
    (c.raised-alone.ensures ∙ ap (λ (e : PageEntry). raised c.args.i e) c.entry-place.ensures)

pub returns-clause-moving : goal.returns-clause-moving
returns-clause-moving g c q = image-unboxed c.args.c.now.directory c.set.new.self q (c.set.ensures.images q)

pub returns-clause-good : goal.returns-clause-good
returns-clause-good g c pend m good =
    let p : Parts = parts c.args.c.now in
    let places : DirectoryState Page = unboxed c.set.new.self in
    let moves = c.set.ensures in
    let set : IsSet c.args.p (raised c.args.i (entry_at p.directory c.args.p)) None p.directory places =
    subst (λ (e : PageEntry). IsSet c.args.p e None p.directory places)
    (c.raised-alone.ensures ∙ ap (λ (e : PageEntry). raised c.args.i e) c.entry-place.ensures)
    (record {
      entry = moves.here;
      rec_lsn = moves.rec_lsn;
      asks = moves.asks;
      others = moves.others;
      other_rec_lsns = moves.other_rec_lsns;
      other_asks = moves.other_asks;
    }) in
    raised-good c.args.p c.args.i (g.G.Rig.seen c.args.c.now.rig) (g.G.Rig.leaves c.args.c.now.rig) pend p m good places set
    (λ q. image-unboxed c.args.c.now.directory c.set.new.self q (moves.images q)) c.requires.idle c.requires.sole
