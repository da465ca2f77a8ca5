use Rattle.std.proofs.Common.{List}
use Rattle.std.specs.Prelude.{Result, Ok, Err, OnErr, OnOk}
use Rattle.sd_base.proofs.Results.{on_err, on_ok}
use Rattle.sd_base.specs.declared.refusal.Memory.{Memory}
use Rattle.sd_pagelock.specs.Asks.{queued}
use Rattle.sd_pagelock.specs.declared.queue.Ask.{Ask}
use Rattle.sd_pagelock.specs.Directory.{asks_at}
use Rattle.sd_state.specs.Complexes.{parts, unboxed}
use Rattle.sd_state.specs.Parts.{Parts, is_active}
use Rattle.sd_moves.proofs.Placed.{asked-good, asked-unboxed, live-queued}
use Rattle.sd_moves.proofs.places.queue_ask.Goals as goal

either : {X : Type 0} (r : Result (Unit {0}) Memory) (P Q : Type 0) → OnOk r P → OnErr r Q → (P → X) → (Q → X) → X
either (Ok x) P Q p q f h = f p
either (Err e) P Q p q f h = h q

pub returns-clause-asks : goal.returns-clause-asks
returns-clause-asks g c =
    let d = c.args.c.now.directory in
    let ask = c.asked.ensures in
    on_ok c.asked.result _ _
    (λ here. asked-unboxed d c.asked.new.directory c.args.p (queued c.args.i c.args.mode (asks_at d c.args.p)) ask.places ask.rec_lsns
    ask.images here ask.others)
    ask.here

pub returns-clause-stays : goal.returns-clause-stays
returns-clause-stays g c =
    let d = c.args.c.now.directory in
    let ask = c.asked.ensures in
    on_err c.asked.result _ _
    (λ same. asked-unboxed d c.asked.new.directory c.args.p (asks_at d c.args.p) ask.places ask.rec_lsns ask.images same ask.others)
    ask.err

pub returns-clause-good : goal.returns-clause-good
returns-clause-good g c pend m good =
    let p : Parts = parts c.args.c.now in
    let seen = g.G.Rig.seen c.args.c.now.rig in
    let leaves = g.G.Rig.leaves c.args.c.now.rig in
    let d = c.args.c.now.directory in
    let ask = c.asked.ensures in
    let old : List Ask = asks_at d c.args.p in
    let more : List Ask = queued c.args.i c.args.mode old in
    either c.asked.result _ _ ask.here ask.err
    (λ here. asked-good c.args.p seen leaves pend p m good (unboxed c.asked.new.directory) more
    (asked-unboxed d c.asked.new.directory c.args.p more ask.places ask.rec_lsns ask.images here ask.others)
    (live-queued (is_active p) _ c.args.i c.args.mode old c.requires.active c.requires.wanted (good.asks c.args.p)))
    (λ same. asked-good c.args.p seen leaves pend p m good (unboxed c.asked.new.directory) old
    (asked-unboxed d c.asked.new.directory c.args.p old ask.places ask.rec_lsns ask.images same ask.others) (good.asks c.args.p))
