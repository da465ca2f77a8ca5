use Rattle.std.proofs.Common.{◌≡◌, ℕ, List, sym, ap, ◌∙◌, subst, arith}
use Rattle.sd_base.specs.Twin.{chosen_slot}
use Rattle.sd_rig.specs.Slots.{slot}
use Rattle.sd_model.specs.State.{State}
use Rattle.sd_rig.specs.Spans.{elapses-then, span-then}
use Rattle.sd_rig.specs.declared.twin.Twin.{Twin}
use Rattle.sd_chain.specs.Bytes.{disk_page, twin_at}
use Rattle.sd_chain.specs.Checks.{TwinIsSound}
use Rattle.sd_chain.specs.Named.{version_of}
use Rattle.sd_chain.specs.Logs.{tails_of}
use Rattle.sd_state.specs.Images.{Stands, log_by}
use Rattle.sd_state.specs.Parts.{Parts}
use Rattle.sd_state.specs.Values.{Pending}
use Rattle.sd_state.proofs.LockReads.{seen-sound, unchanged-stands}
use Rattle.sd_moves.proofs.PutCalls.{read-elapses, read-lsn, same-then}
use Rattle.sd_moves.proofs.PutMay.{unchanged-may}
use Rattle.sd_moves.proofs.PutTried.{im-there}
use Rattle.sd_moves.proofs.writing.put_image.Goals as goal

pub returns-in-Err-clause-good : goal.returns-in-Err-clause-good
returns-in-Err-clause-good g c k pend m can =
    let r = g.G.Rig in
    let laws = g.met.G.Rig in
    let old = c.args.rig.now in
    let read = c.choose.new.rig in
    (unchanged-may c.args.p c.args.im.now (r.seen old) (r.seen read) (r.leaves old) (r.leaves read) (r.moment old) (r.moment read)
    (r.since old) (r.since read) c.choose.ensures.stays pend k m can (λ d le. laws.leaves_seen read d le)).good

pub returns-in-Err-clause-images : goal.returns-in-Err-clause-images
returns-in-Err-clause-images g c k pend m can =
    let r = g.G.Rig in
    let laws = g.met.G.Rig in
    let old = c.args.rig.now in
    let read = c.choose.new.rig in
    unchanged-stands (r.seen old) (r.seen read) (r.leaves old) (r.leaves read) (r.moment old) (r.moment read) (r.since old)
    (r.since read) c.choose.ensures.stays pend k m can.good (λ img since. laws.only_now old img since)

pub returns-in-Err-clause-versions : goal.returns-in-Err-clause-versions
returns-in-Err-clause-versions g c k pend m can moved keeps q =
    ap (λ (bytes : List ℕ). version_of (tails_of (log_by k moved)) (disk_page bytes) keeps q) (c.choose.ensures.stays.reads 0)

pub returns-then-lsn-lsn_of-clause-good : goal.returns-then-lsn-lsn_of-clause-good
returns-then-lsn-lsn_of-clause-good g c k pend m can =
    let r = g.G.Rig in
    let laws = g.met.G.Rig in
    let old = c.args.rig.now in
    let read = c.choose.new.rig in
    (unchanged-may c.args.p c.args.im.now (r.seen old) (r.seen read) (r.leaves old) (r.leaves read) (r.moment old) (r.moment read)
    (r.since old) (r.since read) c.choose.ensures.stays pend k m can (λ d le. laws.leaves_seen read d le)).good

pub returns-then-lsn-lsn_of-clause-images : goal.returns-then-lsn-lsn_of-clause-images
returns-then-lsn-lsn_of-clause-images g c k pend m can =
    let r = g.G.Rig in
    let laws = g.met.G.Rig in
    let old = c.args.rig.now in
    let read = c.choose.new.rig in
    unchanged-stands (r.seen old) (r.seen read) (r.leaves old) (r.leaves read) (r.moment old) (r.moment read) (r.since old)
    (r.since read) c.choose.ensures.stays pend k m can.good (λ img since. laws.only_now old img since)

pub returns-then-lsn-lsn_of-clause-versions : goal.returns-then-lsn-lsn_of-clause-versions
returns-then-lsn-lsn_of-clause-versions g c k pend m can moved keeps q =
    ap (λ (bytes : List ℕ). version_of (tails_of (log_by k moved)) (disk_page bytes) keeps q) (c.choose.ensures.stays.reads 0)

pub returns-then-lsn-lsn_of-clause-there : goal.returns-then-lsn-lsn_of-clause-there
returns-then-lsn-lsn_of-clause-there g c =
    let r = g.G.Rig in
    let laws = g.met.G.Rig in
    let old = c.args.rig.now in
    let read = c.choose.new.rig in
    let may = c.requires.may in
    let sound : TwinIsSound c.args.p (r.seen old 0) =
    seen-sound (r.seen old) (r.leaves old) may.1 may.0 may.2 may.3.good (laws.leaves_seen old 0 (omega arith)) c.args.p
    c.twin_of.ensures.range in
    let lsn : c.lsn_of.result ≡ (disk_page (r.seen old 0) c.args.p).lsn =
    read-lsn c.args.p c.lsn_of.result (r.seen old) c.twin_of.result c.in-Ok.chosen c.choose.new.out c.twin_of.ensures.twin sound
    c.in-Ok.ensures.body c.lsn_of.ensures in
    ap (λ (bytes : List ℕ). disk_page bytes c.args.p) (c.choose.ensures.stays.reads 0)
    ∙ im-there c.args.p c.args.im.now (r.seen old) (r.leaves old) may.1 may.0 may.2 may.3.good
    (laws.leaves_seen old 0 (omega arith)) may.3.may (sym lsn ∙ sym c.if-lsn-lsn_of.true ∙ c.lsn.ensures)

pub put_over-requires-clause-may : goal.put_over-requires-clause-may
put_over-requires-clause-may g c =
    let r = g.G.Rig in
    let laws = g.met.G.Rig in
    let old = c.args.rig.now in
    let read = c.choose.new.rig in
    let k : Parts = c.requires.may.0 in
    let pend : Pending = c.requires.may.1 in
    let m : State = c.requires.may.2 in
    let can = c.requires.may.3 in (
      k,
      pend,
      m,
      unchanged-may c.args.p c.args.im.now (r.seen old) (r.seen read) (r.leaves old) (r.leaves read) (r.moment old)
          (r.moment read)
          (r.since old) (r.since read) c.choose.ensures.stays pend k m can (λ d le. laws.leaves_seen read d le),
    )

pub put_over-requires-clause-chosen : goal.put_over-requires-clause-chosen
put_over-requires-clause-chosen g c =
    let r = g.G.Rig in
    let laws = g.met.G.Rig in
    let old = c.args.rig.now in
    let read = c.choose.new.rig in
    ap (chosen_slot (twin_at c.args.p) 1024) (c.choose.ensures.stays.reads 0)
    ∙ sym (subst (λ (t : Twin). slot c.in-Ok.chosen ≡ chosen_slot t.at t.body (r.seen old t.dev)) c.twin_of.ensures.twin
    c.in-Ok.ensures.chosen)

pub put_over-requires-clause-differs : goal.put_over-requires-clause-differs
put_over-requires-clause-differs g c =
    let r = g.G.Rig in
    let laws = g.met.G.Rig in
    let old = c.args.rig.now in
    let read = c.choose.new.rig in
    let may = c.requires.may in
    let sound : TwinIsSound c.args.p (r.seen old 0) =
    seen-sound (r.seen old) (r.leaves old) may.1 may.0 may.2 may.3.good (laws.leaves_seen old 0 (omega arith)) c.args.p
    c.twin_of.ensures.range in
    let lsn : c.lsn_of.result ≡ (disk_page (r.seen old 0) c.args.p).lsn =
    read-lsn c.args.p c.lsn_of.result (r.seen old) c.twin_of.result c.in-Ok.chosen c.choose.new.out c.twin_of.ensures.twin sound
    c.in-Ok.ensures.body c.lsn_of.ensures in
    λ e. c.if-lsn-lsn_of.false (c.lsn.ensures ∙ sym e
    ∙ ap (λ (bytes : List ℕ). (disk_page bytes c.args.p).lsn) (c.choose.ensures.stays.reads 0) ∙ sym lsn)

-- nothing is written where the device has its LSN
pub returns-clause-idle : goal.returns-clause-idle
returns-clause-idle g c =
    let r = g.G.Rig in
    let laws = g.met.G.Rig in
    let old = c.args.rig.now in
    let may = c.requires.may in
    let sound : TwinIsSound c.args.p (r.seen old 0) =
    seen-sound (r.seen old) (r.leaves old) may.1 may.0 may.2 may.3.good (laws.leaves_seen old 0 (omega arith)) c.args.p
    c.twin_of.ensures.range in
    let lsn : c.lsn_of.result ≡ (disk_page (r.seen old 0) c.args.p).lsn =
    read-lsn c.args.p c.lsn_of.result (r.seen old) c.twin_of.result c.in-Ok.chosen c.choose.new.out c.twin_of.ensures.twin sound
    c.in-Ok.ensures.body c.lsn_of.ensures in
    λ e. absurd (c.if-lsn-lsn_of.false (c.lsn.ensures ∙ sym e ∙ sym lsn))

pub returns-clause-good : goal.returns-clause-good
returns-clause-good g c k pend m can =
    let r = g.G.Rig in
    let laws = g.met.G.Rig in
    let old = c.args.rig.now in
    let read = c.choose.new.rig in
    c.put_over.ensures.good k pend m
    (unchanged-may c.args.p c.args.im.now (r.seen old) (r.seen read) (r.leaves old) (r.leaves read) (r.moment old) (r.moment read)
    (r.since old) (r.since read) c.choose.ensures.stays pend k m can (λ d le. laws.leaves_seen read d le))

pub returns-clause-images : goal.returns-clause-images
returns-clause-images g c k pend m can =
    let r = g.G.Rig in
    let laws = g.met.G.Rig in
    let old = c.args.rig.now in
    let read = c.choose.new.rig in
    let new = c.put_over.new.rig in
    span-then (r.moment old) (r.moment read) (r.moment new) (r.since read) (r.since new) (Stands m pend)
    (read-elapses (r.seen old) (r.seen read) (r.leaves old) (r.leaves read) (r.moment old) (r.moment read) (r.since old)
    (r.since read) c.choose.ensures.stays).later c.put_over.ensures.time
    (unchanged-stands (r.seen old) (r.seen read) (r.leaves old) (r.leaves read) (r.moment old) (r.moment read) (r.since old)
    (r.since read) c.choose.ensures.stays pend k m can.good (λ img since. laws.only_now old img since))
    (c.put_over.ensures.images k pend m
    (unchanged-may c.args.p c.args.im.now (r.seen old) (r.seen read) (r.leaves old) (r.leaves read) (r.moment old) (r.moment read)
    (r.since old) (r.since read) c.choose.ensures.stays pend k m can (λ d le. laws.leaves_seen read d le)))

pub returns-clause-time : goal.returns-clause-time
returns-clause-time g c =
    let r = g.G.Rig in
    let laws = g.met.G.Rig in
    let old = c.args.rig.now in
    let read = c.choose.new.rig in
    let new = c.put_over.new.rig in
    elapses-then (r.moment old) (r.moment read) (r.moment new) (r.since old) (r.since read) (r.since new)
    (λ t u img le s. laws.earlier new t u img le s) (read-elapses (r.seen old) (r.seen read) (r.leaves old) (r.leaves read)
    (r.moment old) (r.moment read) (r.since old) (r.since read) c.choose.ensures.stays) c.put_over.ensures.time

pub returns-clause-versions : goal.returns-clause-versions
returns-clause-versions g c k pend m can moved keeps q =
    let r = g.G.Rig in
    let laws = g.met.G.Rig in
    let old = c.args.rig.now in
    let read = c.choose.new.rig in
    c.put_over.ensures.versions k pend m
    (unchanged-may c.args.p c.args.im.now (r.seen old) (r.seen read) (r.leaves old) (r.leaves read) (r.moment old) (r.moment read)
    (r.since old) (r.since read) c.choose.ensures.stays pend k m can (λ d le. laws.leaves_seen read d le)) moved keeps q
    ∙ ap (λ (bytes : List ℕ). version_of (tails_of (log_by k moved)) (disk_page bytes) keeps q) (c.choose.ensures.stays.reads 0)

pub returns-clause-others : goal.returns-clause-others
returns-clause-others g c d ne = c.put_over.ensures.others d ne ∙ c.choose.ensures.stays.reads d

pub returns-clause-others_leave : goal.returns-clause-others_leave
returns-clause-others_leave g c d ne =
    let r = g.G.Rig in
    let laws = g.met.G.Rig in
    let old = c.args.rig.now in
    let read = c.choose.new.rig in
    let new = c.put_over.new.rig in
    same-then (r.leaves old d) (r.leaves read d) (r.leaves new d) (c.choose.ensures.stays.outcomes d)
    (c.put_over.ensures.others_leave d ne)
