use Rattle.std.proofs.Common.{◌≡◌, ◌<◌, ℕ, List, sym, ap, ◌∙◌, subst, arith}
use Rattle.std.specs.Prelude.{IfSome}
use Rattle.sd_base.specs.Twin.{chosen_body, chosen_slot, number_of}
use Rattle.sd_page.specs.Page.{Page}
use Rattle.sd_rig.specs.Slots.{slot}
use Rattle.sd_rig.specs.Devices.{LeavesOnly}
use Rattle.sd_rig.specs.declared.twin.Twin.{Twin}
use Rattle.sd_chain.specs.Bytes.{twin_at}
use Rattle.sd_state.proofs.LockReads.{seen-sound}
use Rattle.sd_moves.proofs.PutCalls.{put-failed, put-images, put-newest, put-ok, put-same}
use Rattle.sd_moves.proofs.PutTried.{im-greater, im-newest}
use Rattle.sd_moves.proofs.writing.put_over.Goals as goal

pub put-requires-clause-chosen : goal.put-requires-clause-chosen
put-requires-clause-chosen g c =
    subst (λ (t : Twin). chosen_slot t.at t.body (g.G.Rig.seen c.args.rig.now t.dev) ≡ slot c.args.chosen)
    (sym c.twin_of.ensures.twin) c.requires.chosen

pub put-requires-clause-differs : goal.put-requires-clause-differs
put-requires-clause-differs g c same =
    let rig = c.args.rig.now in
    let may = c.requires.may in
    (seen-sound (g.G.Rig.seen rig) (g.G.Rig.leaves rig) may.1 may.0 may.2 may.3.good
    (g.met.G.Rig.leaves_seen rig 0 (omega arith)) c.args.p c.twin_of.ensures.range).differ
    (c.requires.chosen ∙ ap slot same)

pub put-requires-clause-stable : goal.put-requires-clause-stable
put-requires-clause-stable g c =
    let rig = c.args.rig.now in
    let may = c.requires.may in
    subst (λ (t : Twin). LeavesOnly (g.G.Rig.seen rig t.dev) (g.G.Rig.leaves rig t.dev)) (sym c.twin_of.ensures.twin)
    (may.3.good.disk_settled may.3.settled)

pub put-requires-clause-greater : goal.put-requires-clause-greater
put-requires-clause-greater g c =
    let rig = c.args.rig.now in
    let may = c.requires.may in
    let im : Page = c.args.im.now in
    let seen : List ℕ = g.G.Rig.seen rig 0 in
    subst (λ (t : Twin). IfSome (chosen_body t.at t.body (g.G.Rig.seen rig t.dev))
    (λ b. number_of b < number_of c.bytes.result.now))
    (sym c.twin_of.ensures.twin)
    (subst (λ (body : List ℕ). IfSome (chosen_body (twin_at c.args.p) 1024 seen) (λ b. number_of b < number_of body))
    (sym c.bytes.ensures.spelled)
    (im-greater c.args.p im (g.G.Rig.seen rig) (g.G.Rig.leaves rig) may.1 may.0 may.2 may.3.good
    (g.met.G.Rig.leaves_seen rig 0 (omega arith)) may.3.may c.twin_of.ensures.range c.bytes.ensures.fits c.requires.differs))

pub returns-in-Ok-clause-good : goal.returns-in-Ok-clause-good
returns-in-Ok-clause-good g c k pend m can =
    let r = g.G.Rig in
    let laws = g.met.G.Rig in
    let old = c.args.rig.now in
    let new = c.put.new.rig in
    let im : Page = c.args.im.now in
    put-ok c.args.p im (r.seen old) (r.seen new) (r.leaves old) (r.leaves new) pend k m can.good
    (laws.leaves_seen old 0 (omega arith)) can.may c.twin_of.ensures.range c.bytes.ensures.fits
    c.twin_of.result c.twin_of.ensures.twin c.bytes.result.now c.bytes.ensures.spelled (r.moment old) (r.since new)
    c.put.ensures.any_moment
    c.put.ensures.others c.put.ensures.others_leave (λ d le. laws.leaves_seen new d le)
    (λ img left. laws.counts_now new (r.moment old) img c.put.ensures.time.later left) c.in-Ok.ensures.durable

pub returns-in-Ok-clause-images : goal.returns-in-Ok-clause-images
returns-in-Ok-clause-images g c k pend m can =
    let r = g.G.Rig in
    let laws = g.met.G.Rig in
    let old = c.args.rig.now in
    let new = c.put.new.rig in
    let im : Page = c.args.im.now in
    put-images c.args.p im (r.seen old) (r.seen new) (r.leaves old) (r.leaves new) pend k m can.good
    (laws.leaves_seen old 0 (omega arith)) can.may c.twin_of.ensures.range c.bytes.ensures.fits
    c.twin_of.result c.twin_of.ensures.twin c.bytes.result.now c.bytes.ensures.spelled (r.moment old) (r.since new)
    c.put.ensures.any_moment

pub returns-in-Ok-clause-versions : goal.returns-in-Ok-clause-versions
returns-in-Ok-clause-versions g c k pend m can =
    let r = g.G.Rig in
    let laws = g.met.G.Rig in
    let old = c.args.rig.now in
    let new = c.put.new.rig in
    let im : Page = c.args.im.now in
    put-same c.args.p im (r.seen old) (r.seen new) (r.leaves old) (r.leaves new) pend k m can.good
    (laws.leaves_seen old 0 (omega arith)) can.may c.twin_of.ensures.range c.bytes.ensures.fits
    c.twin_of.result c.twin_of.ensures.twin c.bytes.result.now c.bytes.ensures.spelled (r.moment old) (r.since new)
    c.put.ensures.any_moment
    c.put.ensures.others c.put.ensures.others_leave (λ d le. laws.leaves_seen new d le)
    (λ img left. laws.counts_now new (r.moment old) img c.put.ensures.time.later left)

pub returns-in-Ok-clause-there : goal.returns-in-Ok-clause-there
returns-in-Ok-clause-there g c =
    let r = g.G.Rig in
    let laws = g.met.G.Rig in
    let old = c.args.rig.now in
    let new = c.put.new.rig in
    let im : Page = c.args.im.now in
    let may = c.requires.may in
    put-newest c.args.p im (r.seen old) (r.seen new) (r.leaves old) (r.leaves new) may.1 may.0 may.2 may.3.good
    (laws.leaves_seen old 0 (omega arith)) may.3.may c.twin_of.ensures.range c.bytes.ensures.fits
    c.twin_of.result c.twin_of.ensures.twin c.bytes.result.now c.bytes.ensures.spelled (r.moment old) (r.since new)
    c.put.ensures.any_moment
    c.put.ensures.others c.put.ensures.others_leave (λ d le. laws.leaves_seen new d le)
    (λ img left. laws.counts_now new (r.moment old) img c.put.ensures.time.later left) c.in-Ok.ensures.body
    ∙ sym (im-newest c.args.p im (r.seen old) (r.leaves old) may.1 may.0 may.2 may.3.good
    (laws.leaves_seen old 0 (omega arith)) may.3.may)

pub returns-in-Err-clause-good : goal.returns-in-Err-clause-good
returns-in-Err-clause-good g c k pend m can =
    let r = g.G.Rig in
    let laws = g.met.G.Rig in
    let old = c.args.rig.now in
    let new = c.put.new.rig in
    let im : Page = c.args.im.now in
    put-failed c.args.p im (r.seen old) (r.seen new) (r.leaves old) (r.leaves new) pend k m can.good
    (laws.leaves_seen old 0 (omega arith)) can.may c.twin_of.ensures.range c.bytes.ensures.fits
    c.twin_of.result c.twin_of.ensures.twin c.bytes.result.now c.bytes.ensures.spelled (r.moment old) (r.since new)
    c.put.ensures.any_moment
    c.put.ensures.others c.put.ensures.others_leave (λ d le. laws.leaves_seen new d le)
    (λ img left. laws.counts_now new (r.moment old) img c.put.ensures.time.later left)

pub returns-in-Err-clause-images : goal.returns-in-Err-clause-images
returns-in-Err-clause-images g c k pend m can =
    let r = g.G.Rig in
    let laws = g.met.G.Rig in
    let old = c.args.rig.now in
    let new = c.put.new.rig in
    let im : Page = c.args.im.now in
    put-images c.args.p im (r.seen old) (r.seen new) (r.leaves old) (r.leaves new) pend k m can.good
    (laws.leaves_seen old 0 (omega arith)) can.may c.twin_of.ensures.range c.bytes.ensures.fits
    c.twin_of.result c.twin_of.ensures.twin c.bytes.result.now c.bytes.ensures.spelled (r.moment old) (r.since new)
    c.put.ensures.any_moment

pub returns-in-Err-clause-versions : goal.returns-in-Err-clause-versions
returns-in-Err-clause-versions g c k pend m can =
    let r = g.G.Rig in
    let laws = g.met.G.Rig in
    let old = c.args.rig.now in
    let new = c.put.new.rig in
    let im : Page = c.args.im.now in
    put-same c.args.p im (r.seen old) (r.seen new) (r.leaves old) (r.leaves new) pend k m can.good
    (laws.leaves_seen old 0 (omega arith)) can.may c.twin_of.ensures.range c.bytes.ensures.fits
    c.twin_of.result c.twin_of.ensures.twin c.bytes.result.now c.bytes.ensures.spelled (r.moment old) (r.since new)
    c.put.ensures.any_moment
    c.put.ensures.others c.put.ensures.others_leave (λ d le. laws.leaves_seen new d le)
    (λ img left. laws.counts_now new (r.moment old) img c.put.ensures.time.later left)
