use Rattle.std.proofs.Common.{◌≡◌, rules, sym, ap, ◌∙◌, subst}
use Rattle.std.specs.Prelude.{Result, Err}
use Rattle.std.proofs.lemmas.Result.{err_from_is_err_and}
use Rattle.sd_base.specs.Streams.{Rises}
use Rattle.sd_base.specs.declared.refusal.Refusal.{Refusal}
use Rattle.sd_base.specs.declared.refusal.Refusal.TheVariants as R
use Rattle.sd_chain.specs.Records.{home}
use Rattle.sd_model.specs.declared.event.Event.TheVariants.{RecoverStep}
use Rattle.sd_model.specs.declared.event.Reply.TheVariants as reply
use Rattle.sd_state.specs.Parts.{Parts, actor, is_loose}
use Rattle.sd_state.specs.Values.{Pending}
use Rattle.sd_txn.specs.declared.state.TxnState.{TxnState}
use Rattle.sd_world.specs.Serving.{Telling, answered, telling}
use Rattle.sd_fits.specs.Serving.{Serving}
use Rattle.sd_fits.proofs.Heads.{some-there}
use Rattle.sd_fits.proofs.Still.{kept-spares}
use Rattle.sd_state.specs.Complexes.{parts}
use Rattle.sd_recover.proofs.Ended.{end-due, end-fails, end-fewer, end-step}
use Rattle.sd_recover.proofs.Doing.{end-does}
use Rattle.sd_recover.proofs.Ends.{may-end}
use Rattle.sd_recover.proofs.Fallen.{end-touches}
use Rattle.sd_recover.proofs.Steps.{rises}
use Rattle.sd_recover.proofs.ending.end_next.Goals as goal

pub seal_end-requires-clause-numbered : goal.seal_end-requires-clause-numbered
seal_end-requires-clause-numbered g c =
    let t = c.args.t.now in
    let rig = c.args.c.now.rig in
    let f = c.requires.fits.1 in
    let n = c.keeps.ensures in
    let number = f.good.numbered t (some-there (g.G.Rig.seen rig) (g.G.Rig.leaves rig) Pending.Idle (parts c.args.c.now)
    c.requires.fits.0.scene.state f.good t TxnState.Retained n.low n.high c.requires.loser) in
    record { low = n.low; high = n.high; epoch = (number.0, n.epoch); seq = (number.1, n.seq) }

pub seal_end-requires-clause-may : goal.seal_end-requires-clause-may
seal_end-requires-clause-may g c =
    let r = c.requires in may-end c.args.t.now c.args.by (parts c.args.c.now) r.recovers r.settled r.loser r.empty r.there

pub returns-in_err-seal_end-clause-served : goal.returns-in_err-seal_end-clause-served
returns-in_err-seal_end-clause-served g c =
    let tell : Telling _ = telling g.G.Rig.seen g.G.Rig.leaves g.G.Rig.moment g.G.Rig.since g.G.Rig.faults in
    let old = c.args.c.now in
    let new = c.seal_end.new.c in
    let s = c.in_err-seal_end.ensures in
    let p = err_from_is_err_and c.from_residual.result c.from_residual.ensures.1 in
    subst (λ (r : Result (Unit {0}) Refusal). Serving tell (RecoverStep (home c.args.t.now)) (answered (λ _. reply.Step) r) old new)
    (sym (p.1 ∙ ap (λ (n : Refusal). Err n) p.2))
    ((λ w f. kept-spares tell old new s.rig s.stays (λ img since. g.met.G.Rig.only_now old.rig img since) w f), ap tell.faults s.rig)

pub force_log-requires-clause-good : goal.force_log-requires-clause-good
force_log-requires-clause-good g c =
    let f = c.requires.fits in (Pending.Idle, f.0.scene.state, c.in_ok-seal_end.ensures.good f.0.scene.state f.1.good)

pub down-requires-clause-good : goal.down-requires-clause-good
down-requires-clause-good g c =
    let f = c.requires.fits in
    let m = f.0.scene.state in
    (Pending.Idle, m, c.in-Err.ensures.good Pending.Idle m (c.in_ok-seal_end.ensures.good m f.1.good))

pub down-requires-clause-due : goal.down-requires-clause-due
down-requires-clause-due g c =
    let tell : Telling _ = telling g.G.Rig.seen g.G.Rig.leaves g.G.Rig.moment g.G.Rig.since g.G.Rig.faults in
    let r = c.requires in
    let n = c.keeps.ensures in
    let s = c.in_ok-seal_end.ensures in
    let e = c.in-Err.ensures in
    end-due tell c.args.by c.args.t.now c.args.c.now c.seal_end.new.c c.force_log.new.self n.low n.high r.recovers r.settled
    (g.met.G.Rig.leaves_seen c.args.c.now.rig 0 (search rules)) s.rig s.parts s.good e.good e.images e.time e.others e.masters r.fits.0 r.fits.1 e.failed

pub returns-in-Ok-clause-served : goal.returns-in-Ok-clause-served
returns-in-Ok-clause-served g c =
    let tell : Telling _ = telling g.G.Rig.seen g.G.Rig.leaves g.G.Rig.moment g.G.Rig.since g.G.Rig.faults in
    let r = c.requires in
    let n = c.keeps.ensures in
    let s = c.in_ok-seal_end.ensures in
    let e = c.in-Ok.ensures in (
      λ w f. end-step tell c.args.by c.args.t.now c.args.c.now c.seal_end.new.c c.force_log.new.self n.low n.high r.recovers r.settled
          (g.met.G.Rig.leaves_seen c.args.c.now.rig 0 (search rules)) s.rig s.parts s.good e.good e.images e.time e.others e.masters w f
          (e.forced (ap (λ p. is_loose p (home c.args.t.now)) s.parts.is ∙ r.settled)),
      e.quiet ∙ ap tell.faults s.rig,
    )

pub returns-in-Err-clause-served : goal.returns-in-Err-clause-served
returns-in-Err-clause-served g c =
    let tell : Telling _ = telling g.G.Rig.seen g.G.Rig.leaves g.G.Rig.moment g.G.Rig.since g.G.Rig.faults in
    let r = c.requires in
    let n = c.keeps.ensures in
    let k = c.keeps-2.ensures in
    let s = c.in_ok-seal_end.ensures in
    let e = c.in-Err.ensures in
    let d = c.down.ensures in
    let old = c.args.c.now in
    let sealed = c.seal_end.new.c in
    let then = c.force_log.new.self in (
      λ w f. end-fails tell c.args.by c.args.t.now old sealed then n.low n.high r.recovers r.settled
          (g.met.G.Rig.leaves_seen old.rig 0 (search rules)) s.rig s.parts s.good e.good e.images e.time e.others e.masters w f e.failed
          k.low k.high c.down.new.c d.rig d.parts d.fallen d.good,
      rises tell old.rig then.rig c.down.new.c.rig d.rig (subst (λ x. Rises (tell.faults x) (tell.faults then.rig)) s.rig e.cause),
    )

memory-only : (n : Refusal) → n ≡ R.Memory → ◌≡◌ {A = Result (Unit {0}) Refusal} (Err n) (Err R.Failed) → ⊥
memory-only n is e = cc

pub returns-in_err-seal_end-clause-fell : goal.returns-in_err-seal_end-clause-fell
returns-in_err-seal_end-clause-fell g c = λ e.
    let p = err_from_is_err_and c.from_residual.result c.from_residual.ensures.1 in
    absurd (memory-only _ p.2 (sym p.1 ∙ e))

pub returns-in_err-seal_end-clause-short : goal.returns-in_err-seal_end-clause-short
returns-in_err-seal_end-clause-short g c = λ e. c.in_err-seal_end.ensures.stays

pub returns-in-Err-clause-fell : goal.returns-in-Err-clause-fell
returns-in-Err-clause-fell g c = λ e.
    let n = c.keeps.ensures in
    let old : Parts = parts c.args.c.now in
    let sealed : Parts = parts c.seal_end.new.c in
    end-touches c.args.t.now (actor sealed (home c.args.t.now)) c.args.by old sealed (parts c.force_log.new.self) (parts c.down.new.c) n.low n.high
    c.keeps-2.ensures.low c.requires.fits.1.good.shape c.in_ok-seal_end.ensures.parts c.in-Err.ensures.failed c.down.ensures.parts
    c.down.ensures.fallen

pub returns-in-Err-clause-short : goal.returns-in-Err-clause-short
returns-in-Err-clause-short g c = λ e. absurd (cc)

pub returns-in-Ok-clause-fewer : goal.returns-in-Ok-clause-fewer
returns-in-Ok-clause-fewer g c =
    let tell : Telling _ = telling g.G.Rig.seen g.G.Rig.leaves g.G.Rig.moment g.G.Rig.since g.G.Rig.faults in
    let r = c.requires in
    let n = c.keeps.ensures in
    let s = c.in_ok-seal_end.ensures in
    let e = c.in-Ok.ensures in
    end-fewer c.args.t.now (parts c.args.c.now) (parts c.seal_end.new.c) (parts c.force_log.new.self) n.low n.high r.fits.1.good.shape.txns
    r.empty s.parts (e.forced (ap (λ p. is_loose p (home c.args.t.now)) s.parts.is ∙ r.settled))

pub returns-in-Ok-clause-did : goal.returns-in-Ok-clause-did
returns-in-Ok-clause-did g c =
    let tell : Telling _ = telling g.G.Rig.seen g.G.Rig.leaves g.G.Rig.moment g.G.Rig.since g.G.Rig.faults in
    let r = c.requires in
    let n = c.keeps.ensures in
    let s = c.in_ok-seal_end.ensures in
    let old = c.args.c.now in
    let new = c.force_log.new.self in
    let eight = r.fits.1.good.shape.txns in
    let forces = c.in-Ok.ensures.forced (ap (λ p. is_loose p (home c.args.t.now)) s.parts.is ∙ r.settled) in
    end-does c.args.t.now c.args.by (tell.seen old.rig) (tell.seen new.rig) (parts old) (parts c.seal_end.new.c) (parts new) n.low n.high eight
    r.settled s.parts forces
    (end-fewer c.args.t.now (parts old) (parts c.seal_end.new.c) (parts new) n.low n.high eight r.empty s.parts forces)
