use Rattle.std.proofs.Common.{◌≡◌, ◌||◌, ℕ, ◌∙◌, Bool, ap, ap₂, refl, subst, sym}
use Rattle.std.specs.Prelude.{Option, Result, Err, None, Some, not, ◌&&◌}
use Rattle.std.proofs.lemmas.Result.{err_from_is_err_and}
use Rattle.sd_base.specs.declared.refusal.Refusal.{Refusal}
use Rattle.sd_base.specs.declared.refusal.Refusal.TheVariants as R
use Rattle.sd_state.specs.Complexes.{parts}
use Rattle.sd_state.specs.Parts.{Parts}
use Rattle.sd_state.specs.Values.{Pending}
use Rattle.sd_transfer.specs.Asking.{IsUnserved}
use Rattle.sd_fits.proofs.Refused.{unlike}
use Rattle.sd_fits.proofs.Resting.{rests-same}
use Rattle.sd_fits.specs.Serving.{Serving}
use Rattle.sd_fits.specs.Untouched.{none_of, only}
use Rattle.sd_model.specs.declared.event.Event.TheVariants.{Ask}
use Rattle.sd_pagelock.specs.Places.{Formed, PageEntry, holds_as, is_free, is_lost, passes}
use Rattle.sd_pagelock.specs.Directory.{entry_at}
use Rattle.sd_pagelock.specs.Moves.{IsMove}
use Rattle.sd_pagelock.specs.Rows.{may_raise, raised}
use Rattle.sd_pagelock.proofs.Losses.{changed-raised}
use Rattle.sd_pagelock.proofs.Uses.{free-is}
use Rattle.sd_world.specs.Pages.{answerer}
use Rattle.sd_world.specs.Serving.{answered, had_or_asked, telling}
use Rattle.sd_transfer.specs.Paging.{OnlyPages}
use Rattle.sd_transfer.proofs.Asked.{had-lacks, had-pool, none-holds, raise-pool, stays-there}
use Rattle.sd_transfer.proofs.Rested.{asked-rest, moved-lost, pages-rest}
use Rattle.sd_transfer.proofs.Touched.{listed-untouched, none-done, same-untouched, set-recs, untouched-but}
use Rattle.sd_transfer.proofs.Fetched.{ask-refused, ask-spared, has-served, queued-served, raised-served, unchanged-here, unchanged-to}
use Rattle.sd_transfer.proofs.Told.{err-same, not-refused}
use Rattle.sd_transfer.proofs.asking.ask.Goals as goal

pub returns-in_err-place-clause-served : goal.returns-in_err-place-clause-served
returns-in_err-place-clause-served g c =
    let old = c.args.c.now in
    let tell = telling g.G.Rig.seen g.G.Rig.leaves g.G.Rig.moment g.G.Rig.since g.G.Rig.faults in
    let p = err_from_is_err_and c.from_residual.result c.from_residual.ensures.1 in
    subst (λ (r : Result (Option ℕ) Refusal). Serving tell (Ask c.args.i c.args.p c.args.mode) (answered had_or_asked r) old old)
    (sym (p.1 ∙ ap (λ (n : Refusal). Err n) p.2))
    (ask-refused tell old c.args.i c.args.p c.args.mode c.keeps.ensures.low c.keeps.ensures.high
    (λ img since. g.met.G.Rig.only_now old.rig img since) c.in_err-place.field-0.0 c.in_err-place.ensures.refused)

pub returns-then-holds_as-clause-served : goal.returns-then-holds_as-clause-served
returns-then-holds_as-clause-served g c =
    let old = c.args.c.now in
    let tell = telling g.G.Rig.seen g.G.Rig.leaves g.G.Rig.moment g.G.Rig.since g.G.Rig.faults in
    has-served tell old c.args.i c.args.p c.args.mode c.keeps.ensures.low c.keeps.ensures.high
    (λ img since. g.met.G.Rig.only_now old.rig img since) c.in_ok-place.ensures.may
    (ap (λ (e : PageEntry). holds_as c.args.mode e c.args.i) (sym c.in_ok-place.ensures.place)
    ∙ sym c.holds_as.ensures ∙ c.if-holds_as.true)

pub fetch-requires-clause-free : goal.fetch-requires-clause-free
fetch-requires-clause-free g c = sym c.in_ok-place.ensures.place
    ∙ free-is _ (sym c.is_free.ensures ∙ c.if-is_free.true)

pub returns-then-may_raise-clause-served : goal.returns-then-may_raise-clause-served
returns-then-may_raise-clause-served g c =
    let old = c.args.c.now in
    let tell = telling g.G.Rig.seen g.G.Rig.leaves g.G.Rig.moment g.G.Rig.since g.G.Rig.faults in
    let at = sym c.in_ok-place.ensures.place in
    let raised = c.raise.ensures in
    raised-served tell old c.args.i c.args.p c.args.mode c.keeps.ensures.low c.keeps.ensures.high
    (λ img since. g.met.G.Rig.only_now old.rig img since) c.in_ok-place.ensures.may
    (ap (λ (e : PageEntry). holds_as c.args.mode e c.args.i) at ∙ sym c.holds_as.ensures ∙ c.if-holds_as.false)
    (ap is_free at ∙ sym c.is_free.ensures ∙ c.if-is_free.false)
    c.raise.new.c raised.rig raised.parts raised.good
    (ap (may_raise c.args.i) at ∙ sym c.may_raise.ensures ∙ c.if-may_raise.true) raised.place

pub returns-then-may_raise-clause-still : goal.returns-then-may_raise-clause-still
returns-then-may_raise-clause-still g c =
    let rig = c.args.c.now.rig in
    let tell = telling g.G.Rig.seen g.G.Rig.leaves g.G.Rig.moment g.G.Rig.since g.G.Rig.faults in
    unchanged-to tell rig rig c.raise.new.c.rig c.raise.ensures.rig (unchanged-here tell rig)

pub answerer-of-requires-clause-formed : goal.answerer-of-requires-clause-formed
answerer-of-requires-clause-formed g c = subst Formed (sym c.in_ok-place.ensures.place)
    (c.keeps-2.ensures.formed c.args.p)

pub answerer-of-requires-clause-rests : goal.answerer-of-requires-clause-rests
answerer-of-requires-clause-rests g c =
    let at = c.in_ok-place.ensures.place in
    let may = c.in_ok-place.ensures.may in
    stays-there _ (sym c.is_free.ensures ∙ c.if-is_free.false) (ap is_lost at ∙ may.found) (ap passes at ∙ may.still)

pub returns-in_err-queue_ask-clause-served : goal.returns-in_err-queue_ask-clause-served
returns-in_err-queue_ask-clause-served g c =
    let old = c.args.c.now in
    let tell = telling g.G.Rig.seen g.G.Rig.leaves g.G.Rig.moment g.G.Rig.since g.G.Rig.faults in
    let p = err_from_is_err_and c.from_residual-in_err-queue_ask.result c.from_residual-in_err-queue_ask.ensures.1 in
    let at = sym c.in_ok-place.ensures.place in
    let queue = c.queue_ask.ensures in
    subst (λ (r : Result (Option ℕ) Refusal). Serving tell (Ask c.args.i c.args.p c.args.mode) (answered had_or_asked r) old
    c.queue_ask.new.c)
    (sym (p.1 ∙ ap (λ (n : Refusal). Err n) p.2))
    (ask-spared tell old c.args.i c.args.p c.args.mode c.keeps.ensures.low c.keeps.ensures.high
    (λ img since. g.met.G.Rig.only_now old.rig img since) c.in_ok-place.ensures.may
    (ap (λ (e : PageEntry). holds_as c.args.mode e c.args.i) at ∙ sym c.holds_as.ensures ∙ c.if-holds_as.false)
    (ap is_free at ∙ sym c.is_free.ensures ∙ c.if-is_free.false)
    c.queue_ask.new.c queue.rig queue.parts queue.good c.in_err-queue_ask.ensures.stays)

pub returns-clause-served : goal.returns-clause-served
returns-clause-served g c =
    let old = c.args.c.now in
    let tell = telling g.G.Rig.seen g.G.Rig.leaves g.G.Rig.moment g.G.Rig.since g.G.Rig.faults in
    let at = sym c.in_ok-place.ensures.place in
    let queue = c.queue_ask.ensures in
    queued-served tell old c.args.i c.args.p c.args.mode c.keeps.ensures.low c.keeps.ensures.high
    (λ img since. g.met.G.Rig.only_now old.rig img since) c.in_ok-place.ensures.may
    (ap (λ (e : PageEntry). holds_as c.args.mode e c.args.i) at ∙ sym c.holds_as.ensures ∙ c.if-holds_as.false)
    (ap is_free at ∙ sym c.is_free.ensures ∙ c.if-is_free.false)
    c.queue_ask.new.c queue.rig queue.parts queue.good
    (ap (may_raise c.args.i) at ∙ sym c.may_raise.ensures ∙ c.if-may_raise.false) c.answerer-of.result
    (c.answerer-of.ensures ∙ ap (answerer c.args.i) (sym at)) c.in_ok-queue_ask.ensures.asks

pub returns-clause-still : goal.returns-clause-still
returns-clause-still g c =
    let rig = c.args.c.now.rig in
    let tell = telling g.G.Rig.seen g.G.Rig.leaves g.G.Rig.moment g.G.Rig.since g.G.Rig.faults in
    unchanged-to tell rig rig c.queue_ask.new.c.rig c.queue_ask.ensures.rig (unchanged-here tell rig)

pub returns-in_err-place-clause-there : goal.returns-in_err-place-clause-there
returns-in_err-place-clause-there g c had is =
    let p = err_from_is_err_and c.from_residual.result c.from_residual.ensures.1 in
    let same : p.0 ≡ R.Memory = err-same c.from_residual.result p.0 R.Memory p.1 is in
    subst (λ (n : Refusal). IsUnserved (parts c.args.c.now) c.args.i c.args.p n) (sym p.2 ∙ same) c.in_err-place.ensures.refused

pub returns-in_err-fetch-clause-there : goal.returns-in_err-fetch-clause-there
returns-in_err-fetch-clause-there g c had is = had-pool c.args.mode _ c.args.i had
    (ap is_free (sym c.in_ok-place.ensures.place) ∙ sym c.is_free.ensures ∙ c.if-is_free.true)

pub returns-in_err-queue_ask-clause-there : goal.returns-in_err-queue_ask-clause-there
returns-in_err-queue_ask-clause-there g c had is =
    let at = sym c.in_ok-place.ensures.place in
    had-lacks c.args.mode _ c.args.i
    (ap (λ (e : PageEntry). holds_as c.args.mode e c.args.i) at ∙ sym c.holds_as.ensures ∙ c.if-holds_as.false)
    (ap (may_raise c.args.i) at ∙ sym c.may_raise.ensures ∙ c.if-may_raise.false) had

pub returns-in_err-queue_ask-clause-still : goal.returns-in_err-queue_ask-clause-still
returns-in_err-queue_ask-clause-still g c =
    let rig = c.args.c.now.rig in
    let tell = telling g.G.Rig.seen g.G.Rig.leaves g.G.Rig.moment g.G.Rig.since g.G.Rig.faults in
    unchanged-to tell rig rig c.queue_ask.new.c.rig c.queue_ask.ensures.rig (unchanged-here tell rig)

pub fetch-requires-clause-fits : goal.fetch-requires-clause-fits
fetch-requires-clause-fits g c = c.requires.fits

pub fetch-requires-clause-may : goal.fetch-requires-clause-may
fetch-requires-clause-may g c = c.in_ok-place.ensures.may

pub raise-requires-clause-good : goal.raise-requires-clause-good
raise-requires-clause-good g c = let fits = c.requires.fits in (Pending.Idle, fits.0.scene.state, fits.1.good)

pub raise-requires-clause-idle : goal.raise-requires-clause-idle
raise-requires-clause-idle g c = c.requires.fits.1.idle

pub raise-requires-clause-sole : goal.raise-requires-clause-sole
raise-requires-clause-sole g c =
    ap (may_raise c.args.i) (sym c.in_ok-place.ensures.place) ∙ sym c.may_raise.ensures ∙ c.if-may_raise.true

pub queue_ask-requires-clause-good : goal.queue_ask-requires-clause-good
queue_ask-requires-clause-good g c = let fits = c.requires.fits in (Pending.Idle, fits.0.scene.state, fits.1.good)

pub queue_ask-requires-clause-active : goal.queue_ask-requires-clause-active
queue_ask-requires-clause-active g c = c.in_ok-place.ensures.may.active

pub queue_ask-requires-clause-wanted : goal.queue_ask-requires-clause-wanted
queue_ask-requires-clause-wanted g c = ap₂ (λ (lost had : Bool). not (lost || had)) c.in_ok-place.ensures.may.found
    (ap (λ (e : PageEntry). holds_as c.args.mode e c.args.i) (sym c.in_ok-place.ensures.place)
    ∙ sym c.holds_as.ensures ∙ c.if-holds_as.false)

pub may_ask-requires : goal.may_ask-requires
may_ask-requires g c = c.requires.fits.1.good.shape

pub returns-in_err-place-clause-still : goal.returns-in_err-place-clause-still
returns-in_err-place-clause-still g c =
    unchanged-here (telling g.G.Rig.seen g.G.Rig.leaves g.G.Rig.moment g.G.Rig.since g.G.Rig.faults) c.args.c.now.rig

pub returns-then-holds_as-clause-there : goal.returns-then-holds_as-clause-there
returns-then-holds_as-clause-there g c had is = not-refused {T = Option ℕ} None R.Memory is

pub returns-then-holds_as-clause-still : goal.returns-then-holds_as-clause-still
returns-then-holds_as-clause-still g c =
    unchanged-here (telling g.G.Rig.seen g.G.Rig.leaves g.G.Rig.moment g.G.Rig.since g.G.Rig.faults) c.args.c.now.rig

pub returns-in_err-fetch-clause-still : goal.returns-in_err-fetch-clause-still
returns-in_err-fetch-clause-still g c = c.fetch.ensures.still

pub returns-then-is_free-clause-there : goal.returns-then-is_free-clause-there
returns-then-is_free-clause-there g c had is = not-refused {T = Option ℕ} None R.Memory is

pub returns-then-is_free-clause-still : goal.returns-then-is_free-clause-still
returns-then-is_free-clause-still g c = c.fetch.ensures.still

pub returns-then-is_free-clause-served : goal.returns-then-is_free-clause-served
returns-then-is_free-clause-served g c = c.in_ok-fetch.ensures.served

pub returns-then-may_raise-clause-there : goal.returns-then-may_raise-clause-there
returns-then-may_raise-clause-there g c had is = not-refused {T = Option ℕ} None R.Memory is

pub answerer-of-requires-clause-others : goal.answerer-of-requires-clause-others
answerer-of-requires-clause-others g c = sym c.may_raise.ensures ∙ c.if-may_raise.false

pub returns-clause-there : goal.returns-clause-there
returns-clause-there g c had is = not-refused {T = Option ℕ} (Some c.answerer-of.result) R.Memory is

pub returns-in_err-fetch-clause-served : goal.returns-in_err-fetch-clause-served
returns-in_err-fetch-clause-served g c =
    let tell = telling g.G.Rig.seen g.G.Rig.leaves g.G.Rig.moment g.G.Rig.since g.G.Rig.faults in
    let p = err_from_is_err_and c.from_residual-in_err-fetch.result c.from_residual-in_err-fetch.ensures.1 in
    subst (λ (r : Result (Option ℕ) Refusal). Serving tell (Ask c.args.i c.args.p c.args.mode) (answered had_or_asked r) c.args.c.now
    c.fetch.new.c)
    (sym (p.1 ∙ ap (λ (n : Refusal). Err n) p.2)) c.in_err-fetch.ensures.served

-- ---- what no world has, and a recovery that is under way

pub returns-in_err-place-clause-untouched : goal.returns-in_err-place-clause-untouched
returns-in_err-place-clause-untouched g c = same-untouched _ none_of (parts c.args.c.now) (parts c.args.c.now) refl

pub returns-in_err-place-clause-pool : goal.returns-in_err-place-clause-pool
returns-in_err-place-clause-pool g c free =
    let p = err_from_is_err_and c.from_residual.result c.from_residual.ensures.1 in
    none-done c.from_residual.result p.0 _ p.1

pub returns-in_err-place-clause-rest : goal.returns-in_err-place-clause-rest
returns-in_err-place-clause-rest g c = rests-same (parts c.args.c.now)

pub returns-then-holds_as-clause-untouched : goal.returns-then-holds_as-clause-untouched
returns-then-holds_as-clause-untouched g c = same-untouched _ none_of (parts c.args.c.now) (parts c.args.c.now) refl

pub returns-then-holds_as-clause-pool : goal.returns-then-holds_as-clause-pool
returns-then-holds_as-clause-pool g c free = unlike (none-holds c.args.mode _ c.args.i free)
    (ap (λ (e : PageEntry). holds_as c.args.mode e c.args.i) (sym c.in_ok-place.ensures.place)
    ∙ sym c.holds_as.ensures ∙ c.if-holds_as.true)

pub returns-then-holds_as-clause-rest : goal.returns-then-holds_as-clause-rest
returns-then-holds_as-clause-rest g c = rests-same (parts c.args.c.now)

pub returns-in_err-fetch-clause-untouched : goal.returns-in_err-fetch-clause-untouched
returns-in_err-fetch-clause-untouched g c =
    same-untouched _ none_of (parts c.args.c.now) (parts c.fetch.new.c) c.in_err-fetch.ensures.stays

pub returns-in_err-fetch-clause-pool : goal.returns-in_err-fetch-clause-pool
returns-in_err-fetch-clause-pool g c free =
    let p = err_from_is_err_and c.from_residual-in_err-fetch.result c.from_residual-in_err-fetch.ensures.1 in
    none-done c.from_residual-in_err-fetch.result p.0 _ p.1

pub returns-in_err-fetch-clause-rest : goal.returns-in_err-fetch-clause-rest
returns-in_err-fetch-clause-rest g c = c.fetch.ensures.rest

pub returns-then-is_free-clause-untouched : goal.returns-then-is_free-clause-untouched
returns-then-is_free-clause-untouched g c = untouched-but (only c.args.i) _ none_of (parts c.args.c.now) (parts c.fetch.new.c)
    (λ j none. sym (ap (λ (b : Bool). b && only c.args.i j)
    (ap is_free (sym c.in_ok-place.ensures.place) ∙ sym c.is_free.ensures ∙ c.if-is_free.true)) ∙ none)
    c.in_ok-fetch.ensures.untouched

pub returns-then-is_free-clause-pool : goal.returns-then-is_free-clause-pool
returns-then-is_free-clause-pool g c free = c.in_ok-fetch.ensures.pool

pub returns-then-is_free-clause-rest : goal.returns-then-is_free-clause-rest
returns-then-is_free-clause-rest g c = c.fetch.ensures.rest

pub returns-then-may_raise-clause-untouched : goal.returns-then-may_raise-clause-untouched
returns-then-may_raise-clause-untouched g c =
    let old : Parts = parts c.args.c.now in
    let e = entry_at old.directory c.args.p in
    listed-untouched _ old (parts c.raise.new.c) c.raise.ensures.parts
    (set-recs c.args.p (raised c.args.i e) old.directory (parts c.raise.new.c).directory c.raise.ensures.place
    (c.keeps-2.ensures.marked c.args.p) (changed-raised c.args.i e))

pub returns-then-may_raise-clause-pool : goal.returns-then-may_raise-clause-pool
returns-then-may_raise-clause-pool g c free = absurd (raise-pool _ c.args.i
    (ap (may_raise c.args.i) (sym c.in_ok-place.ensures.place) ∙ sym c.may_raise.ensures ∙ c.if-may_raise.true) (ap is_free free))

pub returns-then-may_raise-clause-rest : goal.returns-then-may_raise-clause-rest
returns-then-may_raise-clause-rest g c =
    let old : Parts = parts c.args.c.now in
    pages-rest old (parts c.raise.new.c) (subst (OnlyPages old) (sym c.raise.ensures.parts) refl)
    (moved-lost c.args.p (raised c.args.i (entry_at old.directory c.args.p)) old.directory (parts c.raise.new.c).directory
    c.raise.ensures.place (c.keeps-2.ensures.formed c.args.p) (IsMove.raise c.args.i
    (ap (may_raise c.args.i) (sym c.in_ok-place.ensures.place) ∙ sym c.may_raise.ensures ∙ c.if-may_raise.true) refl))

pub returns-in_err-queue_ask-clause-untouched : goal.returns-in_err-queue_ask-clause-untouched
returns-in_err-queue_ask-clause-untouched g c = listed-untouched _ (parts c.args.c.now) (parts c.queue_ask.new.c)
    c.queue_ask.ensures.parts c.in_err-queue_ask.ensures.stays.in_place.rec_lsns

pub returns-in_err-queue_ask-clause-pool : goal.returns-in_err-queue_ask-clause-pool
returns-in_err-queue_ask-clause-pool g c free =
    let p = err_from_is_err_and c.from_residual-in_err-queue_ask.result c.from_residual-in_err-queue_ask.ensures.1 in
    none-done c.from_residual-in_err-queue_ask.result p.0 _ p.1

pub returns-in_err-queue_ask-clause-rest : goal.returns-in_err-queue_ask-clause-rest
returns-in_err-queue_ask-clause-rest g c = asked-rest c.args.p _ (parts c.args.c.now) (parts c.queue_ask.new.c)
    c.queue_ask.ensures.parts c.in_err-queue_ask.ensures.stays

pub returns-clause-untouched : goal.returns-clause-untouched
returns-clause-untouched g c = listed-untouched _ (parts c.args.c.now) (parts c.queue_ask.new.c)
    c.queue_ask.ensures.parts c.in_ok-queue_ask.ensures.asks.in_place.rec_lsns

pub returns-clause-pool : goal.returns-clause-pool
returns-clause-pool g c free = unlike (ap is_free (sym c.in_ok-place.ensures.place) ∙ sym c.is_free.ensures ∙ c.if-is_free.false)
    (ap is_free free)

pub returns-clause-rest : goal.returns-clause-rest
returns-clause-rest g c = asked-rest c.args.p _ (parts c.args.c.now) (parts c.queue_ask.new.c)
    c.queue_ask.ensures.parts c.in_ok-queue_ask.ensures.asks
