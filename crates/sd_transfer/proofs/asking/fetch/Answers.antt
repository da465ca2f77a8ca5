use Rattle.std.proofs.Common.{◌≡◌, ℕ, List, ◌∙◌, ap, eq-eqb, refl, subst, sym}
use Rattle.std.specs.Prelude.{None, Result, Err, OnErr}
use Rattle.std.proofs.lemmas.Result.{err_from_is_err_and}
use Rattle.sd_base.specs.declared.place.Mode.{Mode}
use Rattle.sd_base.specs.declared.refusal.Refusal.{Refusal}
use Rattle.sd_chain.specs.Bytes.{disk_page}
use Rattle.sd_fits.proofs.Resting.{rests-same}
use Rattle.sd_fits.specs.Serving.{Serving}
use Rattle.sd_fits.specs.Untouched.{only}
use Rattle.sd_model.specs.declared.event.Event.TheVariants.{Ask}
use Rattle.sd_model.specs.declared.event.Reply.TheVariants as reply
use Rattle.sd_pagelock.specs.Directory.{entry_at}
use Rattle.sd_pagelock.specs.Moves.{IsMove}
use Rattle.sd_pagelock.specs.Places.{changed, is_free}
use Rattle.sd_pagelock.specs.Rows.{locked}
use Rattle.sd_pagelock.proofs.Uses.{clean-locked}
use Rattle.sd_page.specs.Page.{Page}
use Rattle.sd_pool.specs.Buffers.{LacksFrame, with_page}
use Rattle.sd_state.specs.Complexes.{parts}
use Rattle.sd_state.specs.Locking.{IsSet, with_place}
use Rattle.sd_state.specs.Parts.{Parts, is_active, no_pool, pool_at}
use Rattle.sd_state.proofs.Items.{item-set}
use Rattle.sd_state.specs.Values.{Pending}
use Rattle.sd_world.specs.Serving.{answered, telling}
use Rattle.sd_transfer.specs.Paging.{OnlyPages}
use Rattle.sd_transfer.proofs.Rested.{moved-lost, pages-rest, same-rest}
use Rattle.sd_transfer.proofs.Touched.{none-done, placed-untouched, set-recs}
use Rattle.sd_transfer.proofs.Fetched.{fetched, full-served, read-refused, read-spared, unchanged-here, unchanged-to}
use Rattle.sd_fits.proofs.Refused.{unlike}
use Rattle.sd_transfer.proofs.asking.fetch.Goals as goal

pub returns-then-lacks_frame-clause-served : goal.returns-then-lacks_frame-clause-served
returns-then-lacks_frame-clause-served g c =
    let old = c.args.c.now in
    let tell = telling g.G.Rig.seen g.G.Rig.leaves g.G.Rig.moment g.G.Rig.since g.G.Rig.faults in
    full-served tell old c.args.i c.args.p c.args.mode c.keeps.ensures.low c.keeps.ensures.high
    (λ img since. g.met.G.Rig.only_now old.rig img since) c.requires.may c.requires.free c.lacks_frame.ensures.pool
    c.lacks_frame.ensures.past (c.lacks_frame.ensures.full.0 c.if-lacks_frame.true)

pub returns-in_err-image-clause-served : goal.returns-in_err-image-clause-served
returns-in_err-image-clause-served g c =
    let old = c.args.c.now in
    let tell = telling g.G.Rig.seen g.G.Rig.leaves g.G.Rig.moment g.G.Rig.since g.G.Rig.faults in
    let p = err_from_is_err_and c.from_residual.result c.from_residual.ensures.1 in
    let read = c.read_disk.ensures in
    subst (λ (r : Result (Unit {0}) Refusal). Serving tell (Ask c.args.i c.args.p c.args.mode) (answered (λ x. reply.Have) r) old
    c.read_disk.new.self)
    (sym (p.1 ∙ ap (λ (n : Refusal). Err n) p.2))
    (read-refused tell old c.args.i c.args.p c.args.mode c.keeps.ensures.low c.keeps.ensures.high
    (λ img since. g.met.G.Rig.only_now old.rig img since) c.requires.may c.requires.free c.lacks_frame.ensures.pool
    c.lacks_frame.ensures.past (λ lacks. unlike c.if-lacks_frame.false (c.lacks_frame.ensures.full.1 lacks))
    c.read_disk.new.self read.stays read.parts read.good c.in_err-image.field-0.0 c.in_err-image.ensures.refusals)

pub lock_free-requires-clause-good : goal.lock_free-requires-clause-good
lock_free-requires-clause-good g c =
    let fits = c.requires.fits in
    (Pending.Idle, fits.0.scene.state, c.read_disk.ensures.good Pending.Idle fits.0.scene.state fits.1.good)

pub lock_free-requires-clause-frame : goal.lock_free-requires-clause-frame
lock_free-requires-clause-frame g c = subst (λ (k : Parts). LacksFrame (pool_at k c.args.i) c.args.p
    → ⊥) (sym c.read_disk.ensures.parts)
    (λ lacks. unlike c.if-lacks_frame.false (c.lacks_frame.ensures.full.1 lacks))

pub lock_free-requires-clause-newest : goal.lock_free-requires-clause-newest
lock_free-requires-clause-newest g c = c.in_ok-image.ensures.image
    ∙ ap (λ (bytes : List ℕ). disk_page bytes c.args.p) (sym (c.read_disk.ensures.stays.reads 0))

pub returns-in_err-lock_free-clause-served : goal.returns-in_err-lock_free-clause-served
returns-in_err-lock_free-clause-served g c =
    let old = c.args.c.now in
    let tell = telling g.G.Rig.seen g.G.Rig.leaves g.G.Rig.moment g.G.Rig.since g.G.Rig.faults in
    let p = err_from_is_err_and c.from_residual-in_err-lock_free.result c.from_residual-in_err-lock_free.ensures.1 in
    let read = c.read_disk.ensures in
    let lock = c.lock_free.ensures in
    let stays = c.in_err-lock_free.ensures.stays in
    subst (λ (r : Result (Unit {0}) Refusal). Serving tell (Ask c.args.i c.args.p c.args.mode) (answered (λ x. reply.Have) r) old
    c.lock_free.new.self)
    (sym (p.1 ∙ ap (λ (n : Refusal). Err n) p.2))
    (read-spared tell old c.args.i c.args.p c.args.mode c.keeps.ensures.low c.keeps.ensures.high
    (λ img since. g.met.G.Rig.only_now old.rig img since) c.requires.may c.requires.free c.lacks_frame.ensures.pool
    c.lacks_frame.ensures.past (λ lacks. unlike c.if-lacks_frame.false (c.lacks_frame.ensures.full.1 lacks))
    c.lock_free.new.self (unchanged-to tell old.rig c.read_disk.new.self.rig c.lock_free.new.self.rig lock.rig read.stays)
    (stays ∙ read.parts) (λ pend m good. lock.good pend m (read.good pend m good))
    (ap tell.faults lock.rig ∙ c.in_ok-image.ensures.quiet))

pub returns-clause-served : goal.returns-clause-served
returns-clause-served g c =
    let old = c.args.c.now in
    let tell = telling g.G.Rig.seen g.G.Rig.leaves g.G.Rig.moment g.G.Rig.since g.G.Rig.faults in
    let read = c.read_disk.ensures in
    let lock = c.lock_free.ensures in
    fetched tell old c.args.i c.args.p c.args.mode c.keeps.ensures.low c.keeps.ensures.high
    (λ img since. g.met.G.Rig.only_now old.rig img since) c.requires.may c.requires.free c.lacks_frame.ensures.pool
    c.lacks_frame.ensures.past (λ lacks. unlike c.if-lacks_frame.false (c.lacks_frame.ensures.full.1 lacks))
    c.read_disk.new.self read.stays read.parts read.good c.lock_free.new.self c.in_ok-image.image.value lock.rig
    c.in_ok-lock_free.ensures.parts c.in_ok-lock_free.ensures.place lock.good c.in_ok-image.ensures.quiet

pub lock_free-requires-clause-idle : goal.lock_free-requires-clause-idle
lock_free-requires-clause-idle g c = ap (λ (k : Parts). k.due) c.read_disk.ensures.parts ∙ c.requires.fits.1.idle

pub lock_free-requires-clause-free : goal.lock_free-requires-clause-free
lock_free-requires-clause-free g c =
    ap (λ (k : Parts). entry_at k.directory c.args.p) c.read_disk.ensures.parts ∙ c.requires.free

pub lock_free-requires-clause-active : goal.lock_free-requires-clause-active
lock_free-requires-clause-active g c = ap (λ (k : Parts). is_active k c.args.i) c.read_disk.ensures.parts ∙ c.requires.may.active

pub returns-in_err-image-clause-still : goal.returns-in_err-image-clause-still
returns-in_err-image-clause-still g c = c.read_disk.ensures.stays

pub returns-in_err-lock_free-clause-still : goal.returns-in_err-lock_free-clause-still
returns-in_err-lock_free-clause-still g c =
    let tell = telling g.G.Rig.seen g.G.Rig.leaves g.G.Rig.moment g.G.Rig.since g.G.Rig.faults in
    unchanged-to tell c.args.c.now.rig c.read_disk.new.self.rig c.lock_free.new.self.rig c.lock_free.ensures.rig c.read_disk.ensures.stays

pub returns-clause-still : goal.returns-clause-still
returns-clause-still g c =
    let tell = telling g.G.Rig.seen g.G.Rig.leaves g.G.Rig.moment g.G.Rig.since g.G.Rig.faults in
    unchanged-to tell c.args.c.now.rig c.read_disk.new.self.rig c.lock_free.new.self.rig c.lock_free.ensures.rig c.read_disk.ensures.stays

pub lacks_frame-requires : goal.lacks_frame-requires
lacks_frame-requires g c = c.requires.fits.1.good.shape

pub returns-then-lacks_frame-clause-still : goal.returns-then-lacks_frame-clause-still
returns-then-lacks_frame-clause-still g c =
    unchanged-here (telling g.G.Rig.seen g.G.Rig.leaves g.G.Rig.moment g.G.Rig.since g.G.Rig.faults) c.args.c.now.rig

pub read_disk-requires : goal.read_disk-requires
read_disk-requires g c = record { good = (Pending.Idle, c.requires.fits.0.scene.state, c.requires.fits.1.good) }

-- ---- what no world has, and a recovery that is under way

pub returns-then-lacks_frame-clause-rest : goal.returns-then-lacks_frame-clause-rest
returns-then-lacks_frame-clause-rest g c = rests-same (parts c.args.c.now)

pub returns-in_err-image-clause-stays : goal.returns-in_err-image-clause-stays
returns-in_err-image-clause-stays g c =
    subst (λ (r : Result (Unit {0}) Refusal). OnErr r (parts c.read_disk.new.self ≡ parts c.args.c.now))
    (sym (err_from_is_err_and c.from_residual.result c.from_residual.ensures.1).1) c.read_disk.ensures.parts

pub returns-in_err-image-clause-untouched : goal.returns-in_err-image-clause-untouched
returns-in_err-image-clause-untouched g c =
    let p = err_from_is_err_and c.from_residual.result c.from_residual.ensures.1 in
    none-done c.from_residual.result p.0 _ p.1

pub returns-in_err-image-clause-pool : goal.returns-in_err-image-clause-pool
returns-in_err-image-clause-pool g c =
    let p = err_from_is_err_and c.from_residual.result c.from_residual.ensures.1 in
    none-done c.from_residual.result p.0 _ p.1

pub returns-in_err-image-clause-rest : goal.returns-in_err-image-clause-rest
returns-in_err-image-clause-rest g c = same-rest (parts c.args.c.now) (parts c.read_disk.new.self) c.read_disk.ensures.parts

pub returns-in_err-lock_free-clause-stays : goal.returns-in_err-lock_free-clause-stays
returns-in_err-lock_free-clause-stays g c =
    subst (λ (r : Result (Unit {0}) Refusal). OnErr r (parts c.lock_free.new.self ≡ parts c.args.c.now))
    (sym (err_from_is_err_and c.from_residual-in_err-lock_free.result c.from_residual-in_err-lock_free.ensures.1).1)
    (c.in_err-lock_free.ensures.stays ∙ c.read_disk.ensures.parts)

pub returns-in_err-lock_free-clause-untouched : goal.returns-in_err-lock_free-clause-untouched
returns-in_err-lock_free-clause-untouched g c =
    let p = err_from_is_err_and c.from_residual-in_err-lock_free.result c.from_residual-in_err-lock_free.ensures.1 in
    none-done c.from_residual-in_err-lock_free.result p.0 _ p.1

pub returns-in_err-lock_free-clause-pool : goal.returns-in_err-lock_free-clause-pool
returns-in_err-lock_free-clause-pool g c =
    let p = err_from_is_err_and c.from_residual-in_err-lock_free.result c.from_residual-in_err-lock_free.ensures.1 in
    none-done c.from_residual-in_err-lock_free.result p.0 _ p.1

pub returns-in_err-lock_free-clause-rest : goal.returns-in_err-lock_free-clause-rest
returns-in_err-lock_free-clause-rest g c = same-rest (parts c.args.c.now) (parts c.lock_free.new.self)
    (c.in_err-lock_free.ensures.stays ∙ c.read_disk.ensures.parts)

-- the page is in the pool, behind the read
placed : (i p : ℕ) (mode : Mode) (image : Page) (old mid new : Parts) → mid ≡ old
    → new ≡ with_place i (with_page (pool_at mid i) p image) new.directory mid
    → IsSet p (locked i mode) None mid.directory new.directory
    → (new ≡ with_place i (with_page (pool_at old i) p image) new.directory old)
    × IsSet p (locked i mode) None old.directory new.directory
placed i p mode image old mid new read is set = (
  is ∙ ap (λ (k : Parts). with_place i (with_page (pool_at k i) p image) new.directory k) read,
  subst (λ (k : Parts). IsSet p (locked i mode) None k.directory new.directory) read set,
)

pub returns-clause-untouched : goal.returns-clause-untouched
returns-clause-untouched g c =
    let old : Parts = parts c.args.c.now in
    let new : Parts = parts c.lock_free.new.self in
    let lock = c.in_ok-lock_free.ensures in
    let is = placed c.args.i c.args.p c.args.mode c.in_ok-image.image.value old (parts c.read_disk.new.self) new
    c.read_disk.ensures.parts lock.parts lock.place in
    placed-untouched (only c.args.i) c.args.i (with_page (pool_at old c.args.i) c.args.p c.in_ok-image.image.value) old new
    c.keeps.ensures.low (eq-eqb c.args.i c.args.i refl) is.0
    (set-recs c.args.p (locked c.args.i c.args.mode) old.directory new.directory is.1 (c.keeps-2.ensures.marked c.args.p)
    (clean-locked c.args.i c.args.mode ∙ sym (ap changed c.requires.free)))

pub returns-clause-pool : goal.returns-clause-pool
returns-clause-pool g c =
    let old : Parts = parts c.args.c.now in
    let lock = c.in_ok-lock_free.ensures in
    let image = c.in_ok-image.image.value in
    let is = placed c.args.i c.args.p c.args.mode image old (parts c.read_disk.new.self) (parts c.lock_free.new.self)
    c.read_disk.ensures.parts lock.parts lock.place in
    ap (λ (k : Parts). pool_at k c.args.i) is.0
    ∙ item-set no_pool old.pools c.args.i (with_page (pool_at old c.args.i) c.args.p image) c.keeps.ensures.low c.keeps.ensures.high
    c.requires.fits.1.good.shape.pools
    ∙ ap (λ (x : Page). with_page (pool_at old c.args.i) c.args.p x) c.in_ok-image.ensures.image

pub returns-clause-rest : goal.returns-clause-rest
returns-clause-rest g c =
    let old : Parts = parts c.args.c.now in
    let new : Parts = parts c.lock_free.new.self in
    let lock = c.in_ok-lock_free.ensures in
    let is = placed c.args.i c.args.p c.args.mode c.in_ok-image.image.value old (parts c.read_disk.new.self) new
    c.read_disk.ensures.parts lock.parts lock.place in
    pages-rest old new (subst (OnlyPages old) (sym is.0) refl)
    (moved-lost c.args.p (locked c.args.i c.args.mode) old.directory new.directory is.1 (c.keeps-2.ensures.formed c.args.p)
    (IsMove.lock c.args.i c.args.mode (ap is_free c.requires.free) refl))
