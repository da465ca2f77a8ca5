use Rattle.std.proofs.Common.{◌≡◌, ℕ, ◌≤◌, length, refl, ◌∙◌, ap, sym, subst}
use Rattle.std.specs.Prelude.{None}
use Rattle.sd_base.specs.declared.place.Mode.{Mode}
use Rattle.sd_base.specs.declared.place.Mode.TheVariants as modes
use Rattle.sd_page.specs.Page.{Page}
use Rattle.sd_pagelock.specs.Directory.{DirectoryState, entry_at}
use Rattle.sd_pagelock.specs.Places.{PageEntry}
use Rattle.sd_pool.specs.Buffers.{without_page}
use Rattle.sd_state.specs.Complexes.{parts}
use Rattle.sd_state.specs.Locking.{IsSet}
use Rattle.sd_state.specs.Parts.{Parts, pool_at}
use Rattle.sd_fits.proofs.Places.{frames-kept}
use Rattle.sd_moves.specs.Passing.{may_set_out, with_sent}
use Rattle.sd_transfer.specs.Paging.{OnlyPages}
use Rattle.sd_transfer.proofs.Sent.{sent-leaves, sent-rests, sent-untouched}
use Rattle.sd_transfer.proofs.Dropped.{given-dropped, given-sent, stays-alone, stays-shared}
use Rattle.sd_transfer.proofs.giving.hand_over.Goals as goal

pub drop_for-requires-clause-spare : goal.drop_for-requires-clause-spare
drop_for-requires-clause-spare g c = stays-shared (parts c.args.c.now) c.args.j c.args.p c.args.to c.args.mode
    (c.requires.good.2.asks c.args.p) c.requires.may
    (ap (may_set_out c.args.mode c.args.to) (sym c.entry.ensures) ∙ sym c.may_set_out.ensures ∙ c.if-may_set_out.false)

-- the pools have as many frames as they had
sent-frames : (old : Parts) (mode : Mode) (p j : ℕ) (places : DirectoryState Page) → 1 ≤ j → j ≤ 8 → length old.pools ≡ 8 → (k : ℕ)
    → (pool_at (with_sent mode p j places old) k).frames ≡ (pool_at old k).frames
sent-frames old modes.Shared p j places low high eight k = refl
sent-frames old modes.Excl p j places low high eight k =
    frames-kept old j (without_page (pool_at old j) p) places low high eight refl k

pub returns-then-may_set_out-clause-frames : goal.returns-then-may_set_out-clause-frames
returns-then-may_set_out-clause-frames g c k =
    ap (λ (x : Parts). (pool_at x k).frames) c.move_copy.ensures.parts
    ∙ sent-frames (parts c.args.c.now) c.args.mode c.args.p c.args.j (parts c.move_copy.new.c).directory c.keeps.ensures.low
    c.keeps.ensures.high c.requires.good.2.shape.pools k

pub returns-else-may_set_out-clause-place : goal.returns-else-may_set_out-clause-place
returns-else-may_set_out-clause-place g c =
    let old : Parts = parts c.args.c.now in
    let stays = ap (may_set_out c.args.mode c.args.to) (sym c.entry.ensures) ∙ sym c.may_set_out.ensures ∙ c.if-may_set_out.false in
    subst (λ (e : PageEntry). IsSet c.args.p e None old.directory (parts c.drop_for.new.c).directory)
    (given-dropped c.args.j c.args.to c.args.mode (entry_at old.directory c.args.p)
    (stays-alone old c.args.j c.args.p c.args.to c.args.mode (c.requires.good.2.asks c.args.p) c.requires.may stays) stays)
    c.drop_for.ensures.place

pub move_copy-requires-clause-good : goal.move_copy-requires-clause-good
move_copy-requires-clause-good g c = c.requires.good

pub move_copy-requires-clause-idle : goal.move_copy-requires-clause-idle
move_copy-requires-clause-idle g c = c.requires.idle

pub move_copy-requires-clause-held : goal.move_copy-requires-clause-held
move_copy-requires-clause-held g c = c.requires.may.held

pub move_copy-requires-clause-row : goal.move_copy-requires-clause-row
move_copy-requires-clause-row g c =
    ap (may_set_out c.args.mode c.args.to) (sym c.entry.ensures) ∙ sym c.may_set_out.ensures ∙ c.if-may_set_out.true

pub move_copy-requires-clause-asked : goal.move_copy-requires-clause-asked
move_copy-requires-clause-asked g c = c.requires.may.asked

pub move_copy-requires-clause-forced : goal.move_copy-requires-clause-forced
move_copy-requires-clause-forced g c = c.requires.forced

pub drop_for-requires-clause-good : goal.drop_for-requires-clause-good
drop_for-requires-clause-good g c = c.requires.good

pub drop_for-requires-clause-idle : goal.drop_for-requires-clause-idle
drop_for-requires-clause-idle g c = c.requires.idle

-- but for pools and directory, all is as it was
sent-only : (old : Parts) (mode : Mode) (p j : ℕ) (places : DirectoryState Page) → OnlyPages old (with_sent mode p j places old)
sent-only old modes.Shared p j places = refl
sent-only old modes.Excl p j places = refl

pub returns-then-may_set_out-clause-pages : goal.returns-then-may_set_out-clause-pages
returns-then-may_set_out-clause-pages g c =
    let old : Parts = parts c.args.c.now in
    subst (OnlyPages old) (sym c.move_copy.ensures.parts)
    (sent-only old c.args.mode c.args.p c.args.j (parts c.move_copy.new.c).directory)

pub returns-then-may_set_out-clause-place : goal.returns-then-may_set_out-clause-place
returns-then-may_set_out-clause-place g c =
    let old : Parts = parts c.args.c.now in
    let row = ap (may_set_out c.args.mode c.args.to) (sym c.entry.ensures) ∙ sym c.may_set_out.ensures ∙ c.if-may_set_out.true in
    subst (λ (e : PageEntry). IsSet c.args.p e None old.directory (parts c.move_copy.new.c).directory)
    (given-sent c.args.j c.args.to c.args.mode (entry_at old.directory c.args.p) row) c.move_copy.ensures.place

pub returns-then-may_set_out-clause-good : goal.returns-then-may_set_out-clause-good
returns-then-may_set_out-clause-good g c = c.move_copy.ensures.good

pub returns-then-may_set_out-clause-rig : goal.returns-then-may_set_out-clause-rig
returns-then-may_set_out-clause-rig g c = c.move_copy.ensures.rig

pub returns-else-may_set_out-clause-good : goal.returns-else-may_set_out-clause-good
returns-else-may_set_out-clause-good g c = c.drop_for.ensures.good

pub returns-else-may_set_out-clause-pages : goal.returns-else-may_set_out-clause-pages
returns-else-may_set_out-clause-pages g c = c.drop_for.ensures.pages

pub returns-else-may_set_out-clause-frames : goal.returns-else-may_set_out-clause-frames
returns-else-may_set_out-clause-frames g c = c.drop_for.ensures.frames

pub returns-else-may_set_out-clause-rig : goal.returns-else-may_set_out-clause-rig
returns-else-may_set_out-clause-rig g c = c.drop_for.ensures.rig

pub returns-then-may_set_out-clause-pools : goal.returns-then-may_set_out-clause-pools
returns-then-may_set_out-clause-pools g c = sent-leaves c.args.mode c.args.p c.args.j c.args.to (parts c.args.c.now)
    (parts c.move_copy.new.c) c.keeps.ensures.low c.move_copy.ensures.parts
    (ap (may_set_out c.args.mode c.args.to) (sym c.entry.ensures) ∙ sym c.may_set_out.ensures ∙ c.if-may_set_out.true)
    c.move_copy.ensures.place

pub returns-then-may_set_out-clause-untouched : goal.returns-then-may_set_out-clause-untouched
returns-then-may_set_out-clause-untouched g c = sent-untouched c.args.mode c.args.p c.args.j c.args.to (parts c.args.c.now)
    (parts c.move_copy.new.c) c.keeps.ensures.low c.move_copy.ensures.parts
    (ap (may_set_out c.args.mode c.args.to) (sym c.entry.ensures) ∙ sym c.may_set_out.ensures ∙ c.if-may_set_out.true)
    c.move_copy.ensures.place (c.keeps-2.ensures.marked c.args.p)

pub returns-then-may_set_out-clause-rest : goal.returns-then-may_set_out-clause-rest
returns-then-may_set_out-clause-rest g c = sent-rests c.args.mode c.args.p c.args.j c.args.to (parts c.args.c.now)
    (parts c.move_copy.new.c) c.keeps.ensures.low c.move_copy.ensures.parts
    (ap (may_set_out c.args.mode c.args.to) (sym c.entry.ensures) ∙ sym c.may_set_out.ensures ∙ c.if-may_set_out.true)
    c.move_copy.ensures.place (c.keeps-2.ensures.formed c.args.p) (returns-then-may_set_out-clause-pages g c)

pub returns-else-may_set_out-clause-pools : goal.returns-else-may_set_out-clause-pools
returns-else-may_set_out-clause-pools g c = c.drop_for.ensures.pools

pub returns-else-may_set_out-clause-untouched : goal.returns-else-may_set_out-clause-untouched
returns-else-may_set_out-clause-untouched g c = c.drop_for.ensures.untouched

pub returns-else-may_set_out-clause-rest : goal.returns-else-may_set_out-clause-rest
returns-else-may_set_out-clause-rest g c = c.drop_for.ensures.rest
