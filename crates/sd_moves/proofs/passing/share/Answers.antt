use Rattle.std.proofs.Common.{sym, ap, ◌∙◌, subst}
use Rattle.std.specs.Box.{box_value}
use Rattle.std.specs.Prelude.{None, option_map}
use Rattle.sd_base.specs.declared.place.Mode.TheVariants as modes
use Rattle.sd_page.specs.Page.{Page}
use Rattle.sd_pagelock.specs.Directory.{DirectoryState, entry_at}
use Rattle.sd_pagelock.specs.Moves.{IsMove}
use Rattle.sd_pagelock.specs.Places.{PageEntry}
use Rattle.sd_pagelock.specs.Rows.{given_shared, may_share}
use Rattle.sd_pool.specs.Buffers as buffers
use Rattle.sd_state.specs.Complexes.{parts, unboxed}
use Rattle.sd_state.specs.Locking.{IsSet}
use Rattle.sd_state.specs.Parts.{Parts, pool_at}
use Rattle.sd_moves.specs.Passing.{IsOnWay}
use Rattle.sd_moves.proofs.Copies.{way-unboxed}
use Rattle.sd_moves.proofs.Passed.{set-from, shared-good}
use Rattle.sd_moves.proofs.passing.share.Goals as goal

pub set-requires-clause-lawful : goal.set-requires-clause-lawful
set-requires-clause-lawful g c =
    let same = c.send_copy.ensures.places c.args.p in
    IsMove.share c.args.to (ap (may_share c.args.to) same ∙ c.requires.row)
    (c.given_shared-moving.ensures ∙ ap (given_shared c.args.to) (c.entry-place.ensures ∙ sym same))

pub returns-clause-moving : goal.returns-clause-moving
returns-clause-moving g c = way-unboxed c.args.p (buffers.image_at (pool_at (parts c.args.c.now) c.args.from) c.args.p)
    c.args.c.now.directory c.set.new.self
    (ap (option_map box_value) (c.set.ensures.images c.args.p) ∙ c.send_copy.ensures.here ∙ c.copy_of-image.ensures)
    (λ q ne. c.set.ensures.images q ∙ c.send_copy.ensures.others q ne)

pub returns-clause-good : goal.returns-clause-good
returns-clause-good g c pend m good =
    let p : Parts = parts c.args.c.now in
    let places : DirectoryState Page = unboxed c.set.new.self in
    let moves = c.set.ensures in
    let send = c.send_copy.ensures in
    let set : IsSet c.args.p (given_shared c.args.to (entry_at p.directory c.args.p)) None p.directory places =
    subst (λ (e : PageEntry). IsSet c.args.p e None p.directory places)
    (c.given_shared-moving.ensures ∙ ap (given_shared c.args.to) c.entry-place.ensures)
    (set-from c.args.p _ None p.directory (unboxed c.send_copy.new.self) places send.places send.rec_lsns send.asks
    (record {
      entry = moves.here;
      rec_lsn = moves.rec_lsn;
      asks = moves.asks;
      others = moves.others;
      other_rec_lsns = moves.other_rec_lsns;
      other_asks = moves.other_asks;
    })) in
    let way : IsOnWay c.args.p (buffers.image_at (pool_at p c.args.from) c.args.p) p.directory places =
    way-unboxed c.args.p (buffers.image_at (pool_at p c.args.from) c.args.p) c.args.c.now.directory c.set.new.self
    (ap (option_map box_value) (moves.images c.args.p) ∙ send.here ∙ c.copy_of-image.ensures)
    (λ q ne. moves.images q ∙ send.others q ne) in
    shared-good c.args.p c.args.from c.args.to modes.Shared (g.G.Rig.seen c.args.c.now.rig) (g.G.Rig.leaves c.args.c.now.rig) pend p m
    good c.requires.idle c.requires.held c.requires.asked c.requires.forced places way c.requires.row set
