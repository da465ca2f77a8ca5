use Rattle.std.proofs.Common.{◌≡◌, ◌≢◌, ⊎_elim, ℕ, ◌-◌, ◌≤◌, List, [], refl, sym, ap, ◌∙◌, subst, arith, slice_set}
use Rattle.std.specs.Prelude.{None, OnErr, OnOk}
use Rattle.sd_base.specs.Streams.{Rises}
use Rattle.sd_log.specs.Logs.{LogState, StandsOn, forced}
use Rattle.sd_log.specs.Forces.{Forces, forced_at, forced_len}
use Rattle.sd_rig.specs.Devices.{AgreesOutside, Elapses, LeavesOnly, LeavesSame, Span}
use Rattle.sd_rig.specs.Spans.{span-weaker}
use Rattle.sd_chain.specs.ChecksKept.{MayForce}
use Rattle.sd_chain.proofs.Kept.{forced-idle}
use Rattle.sd_chain.proofs.Outcomes.{failed-outcomes}
use Rattle.sd_state.specs.Complexes.{parts}
use Rattle.sd_state.specs.Forcing.{IsForced, IsHalfForced, KeepMasters, with_failed}
use Rattle.sd_state.specs.Good.{Good, IsSettledAt}
use Rattle.sd_state.specs.Images.{Stands}
use Rattle.sd_state.specs.Parts.{IsShape, Parts, actor, log_at}
use Rattle.sd_state.proofs.Answered.{err-no_ok, forced-parts, log-lent, nil-or, not-ok, ok-no_err, on-err, on-ok, same-set, shape-log}
use Rattle.sd_state.proofs.Failed.{failed-good}
use Rattle.sd_state.proofs.Forced.{forced-good, forced-inst}
use Rattle.sd_state.proofs.Masters.{masters-outside}
use Rattle.sd_state.proofs.Owed.{owed-forced}
use Rattle.sd_state.proofs.Standing.{left-stands, force-left-stands}
use Rattle.sd_state.proofs.complex.Complex.force_settled.Goals as goal

pub force-done-requires-clause-stable : goal.force-done-requires-clause-stable
force-done-requires-clause-stable g c some =
    let p : Parts = parts c.args.self.now in
    let i : ℕ = c.args.i in
    let low : 1 ≤ i = omega (arith, c.get.ensures.value, c.get.ensures.low) in
    let high : i ≤ 8 = omega (arith, c.get.ensures.value, c.get.ensures.high) in
    let log : LogState = c.index_mut.result.now in
    let good = c.requires.good.2 in
    let is : log_at p i ≡ log = log-lent p i (c.get.result - 1) log low high good.shape.logs (ap (λ n. n - 1) c.get.ensures.value) c.index_mut.ensures.value in
    let inst : log.inst ≡ i = sym (ap (λ (x : LogState). x.inst) is) ∙ good.shape.own_log i low high in
    let settled = c.requires.settled in
    subst (λ (k : ℕ). LeavesOnly (g.G.Rig.seen c.args.self.now.rig k) (g.G.Rig.leaves c.args.self.now.rig k)) (sym inst) (good.settled i low high settled).only

pub force-done-requires-clause-stands : goal.force-done-requires-clause-stands
force-done-requires-clause-stands g c some =
    let p : Parts = parts c.args.self.now in
    let i : ℕ = c.args.i in
    let low : 1 ≤ i = omega (arith, c.get.ensures.value, c.get.ensures.low) in
    let high : i ≤ 8 = omega (arith, c.get.ensures.value, c.get.ensures.high) in
    let log : LogState = c.index_mut.result.now in
    let good = c.requires.good.2 in
    let is : log_at p i ≡ log = log-lent p i (c.get.result - 1) log low high good.shape.logs (ap (λ n. n - 1) c.get.ensures.value) c.index_mut.ensures.value in
    let inst : log.inst ≡ i = sym (ap (λ (x : LogState). x.inst) is) ∙ good.shape.own_log i low high in
    let settled = c.requires.settled in
    subst (λ (k : ℕ). StandsOn log (g.G.Rig.seen c.args.self.now.rig k)) (sym inst)
    (subst (λ (x : LogState). StandsOn x (g.G.Rig.seen c.args.self.now.rig i)) is (good.settled i low high settled).stands)

pub owed_when_forced-requires : goal.owed_when_forced-requires
owed_when_forced-requires g c =
    let p : Parts = parts c.args.self.now in
    let i : ℕ = c.args.i in
    let low : 1 ≤ i = omega (arith, c.get.ensures.value, c.get.ensures.low) in
    let high : i ≤ 8 = omega (arith, c.get.ensures.value, c.get.ensures.high) in
    let log : LogState = c.index_mut.result.now in
    let good = c.requires.good.2 in
    let place : c.get.result - 1 ≡ i - 1 = ap (λ n. n - 1) c.get.ensures.value in
    let is : log_at p i ≡ log = log-lent p i (c.get.result - 1) log low high good.shape.logs place c.index_mut.ensures.value in
    let inst : c.force-done.new.self.inst ≡ i = ap (λ (x : LogState). x.inst) c.in-Ok.ensures.ok ∙ forced-inst log ∙ sym (ap (λ (x : LogState). x.inst) is) ∙ good.shape.own_log i low high in
    record {
      shape = subst (λ (n : ℕ). IsShape (record p { logs = slice_set p.logs n c.force-done.new.self })) (sym place)
          (shape-log p i c.force-done.new.self low high inst good.shape);
    }

pub returns-in-Ok-clause-forced : goal.returns-in-Ok-clause-forced
returns-in-Ok-clause-forced g c =
    let p : Parts = parts c.args.self.now in
    let i : ℕ = c.args.i in
    let low : 1 ≤ i = omega (arith, c.get.ensures.value, c.get.ensures.low) in
    let high : i ≤ 8 = omega (arith, c.get.ensures.value, c.get.ensures.high) in
    let log : LogState = c.index_mut.result.now in
    let good = c.requires.good.2 in
    let place : c.get.result - 1 ≡ i - 1 = ap (λ n. n - 1) c.get.ensures.value in
    let is : log_at p i ≡ log = log-lent p i (c.get.result - 1) log low high good.shape.logs place c.index_mut.ensures.value in
    on-ok c.force-done.result tt _ c.in-Ok.is (forced-parts (record p { due = None }) i (c.get.result - 1) c.force-done.new.self (forced (log_at p i)) c.owed_when_forced.result
    low high good.shape.owed place (c.in-Ok.ensures.ok ∙ ap forced (sym is)))

pub returns-in-Ok-clause-good : goal.returns-in-Ok-clause-good
returns-in-Ok-clause-good g c pend m good =
    let r = g.G.Rig in
    let laws = g.met.G.Rig in
    let old = c.args.self.now.rig in
    let new = c.force-done.new.rig in
    let p : Parts = parts c.args.self.now in
    let i : ℕ = c.args.i in
    let low : 1 ≤ i = omega (arith, c.get.ensures.value, c.get.ensures.low) in
    let high : i ≤ 8 = omega (arith, c.get.ensures.value, c.get.ensures.high) in
    let log : LogState = c.index_mut.result.now in
    let self : LogState = c.force-done.new.self in
    let owes : ℕ = c.owed_when_forced.result in
    let place : c.get.result - 1 ≡ i - 1 = ap (λ n. n - 1) c.get.ensures.value in
    let is : log_at p i ≡ log = log-lent p i (c.get.result - 1) log low high good.shape.logs place c.index_mut.ensures.value in
    let inst : log.inst ≡ i = sym (ap (λ (x : LogState). x.inst) is) ∙ good.shape.own_log i low high in
    let settled = c.requires.settled in
    let ok : self ≡ forced (log_at p i) = c.in-Ok.ensures.ok ∙ ap forced (sym is) in
    let at-i : IsSettledAt (r.seen old) (r.leaves old) p i = good.settled i low high settled in
    let owed_is = c.owed_when_forced.ensures ∙ owed-forced (r.seen old) (r.leaves old) pend p m i low high good (laws.leaves_seen old 0 (omega arith)) settled in
    let done : IsForced i (log_at p i) (r.seen old) (r.seen new) (r.leaves old) (r.leaves new) =
    subst (λ (x : LogState). IsForced i x (r.seen old) (r.seen new) (r.leaves old) (r.leaves new)) (sym is) (record {
      outside = subst (λ (k : ℕ). AgreesOutside (forced_at log) (forced_len log) (r.seen old k) (r.seen new k)) inst c.in-Ok.ensures.outside;
      stands = ⊎_elim
          (λ none. subst (λ (l : LogState). StandsOn l (r.seen new i)) (sym (forced-idle log none))
          (subst (λ x. StandsOn log (r.seen x i)) (sym (c.in-Ok.ensures.idle none).1)
          (subst (λ (l : LogState). StandsOn l (r.seen old i)) is at-i.stands)))
          (λ some. subst (λ (l : LogState). StandsOn l (r.seen new i)) c.in-Ok.ensures.ok
          (subst (λ (k : ℕ). StandsOn self (r.seen new k)) inst (c.in-Ok.ensures.stands some)))
          (nil-or log.tail);
      durable = ⊎_elim
          (λ none. subst (λ x. LeavesOnly (r.seen x i) (r.leaves x i)) (sym (c.in-Ok.ensures.idle none).1) at-i.only)
          (λ some. subst (λ (k : ℕ). LeavesOnly (r.seen new k) (r.leaves new k)) inst (c.in-Ok.ensures.durable some))
          (nil-or log.tail);
      others = λ d ne. c.in-Ok.ensures.others d (λ e. ne (e ∙ inst));
      others_leave = λ d ne. c.in-Ok.ensures.others_leave d (λ e. ne (e ∙ inst));
    }) in
    subst (λ (n : ℕ). Good (r.seen new) (r.leaves new) pend (record p { logs = slice_set p.logs n self; owed = slice_set p.owed n owes; due = None }) m) (sym place)
    (forced-good i (r.seen old) (r.seen new) (r.leaves old) (r.leaves new) pend p m self owes low high good c.requires.now settled
    (λ d le. laws.leaves_seen old d le) ok done owed_is)

pub returns-in-Ok-clause-images : goal.returns-in-Ok-clause-images
returns-in-Ok-clause-images g c pend m good =
    let r = g.G.Rig in
    let laws = g.met.G.Rig in
    let old = c.args.self.now.rig in
    let p : Parts = parts c.args.self.now in
    let i : ℕ = c.args.i in
    let low : 1 ≤ i = omega (arith, c.get.ensures.value, c.get.ensures.low) in
    let high : i ≤ 8 = omega (arith, c.get.ensures.value, c.get.ensures.high) in
    let log : LogState = c.index_mut.result.now in
    let is : log_at p i ≡ log = log-lent p i (c.get.result - 1) log low high good.shape.logs (ap (λ n. n - 1) c.get.ensures.value) c.index_mut.ensures.value in
    let settled = c.requires.settled in
    let one = (good.settled i low high settled).one_place in
    ⊎_elim
    (λ none. subst (λ x. Span (r.moment old) (r.since x) (Stands m pend)) (sym (c.in-Ok.ensures.idle none).1)
    (record { each = λ img since. left-stands (r.leaves old) (r.seen old) img pend p m good (laws.only_now old img since) }))
    (λ some. span-weaker (r.moment old) (r.since c.force-done.new.rig) (Forces log (r.seen old) (r.leaves old)) (Stands m pend)
    (λ img f. force-left-stands (r.leaves old) i (r.seen old) img pend p m good low high one (laws.leaves_seen old i high)
    (subst (λ (x : LogState). Forces x (r.seen old) (r.leaves old) img) (sym is) f))
    (c.in-Ok.ensures.any_moment some))
    (nil-or log.tail)

pub returns-in-Err-clause-good : goal.returns-in-Err-clause-good
returns-in-Err-clause-good g c pend m good =
    let r = g.G.Rig in
    let laws = g.met.G.Rig in
    let old = c.args.self.now.rig in
    let new = c.force-done.new.rig in
    let p : Parts = parts c.args.self.now in
    let i : ℕ = c.args.i in
    let low : 1 ≤ i = omega (arith, c.get.ensures.value, c.get.ensures.low) in
    let high : i ≤ 8 = omega (arith, c.get.ensures.value, c.get.ensures.high) in
    let log : LogState = c.index_mut.result.now in
    let self : LogState = c.force-done.new.self in
    let place : c.get.result - 1 ≡ i - 1 = ap (λ n. n - 1) c.get.ensures.value in
    let is : log_at p i ≡ log = log-lent p i (c.get.result - 1) log low high good.shape.logs place c.index_mut.ensures.value in
    let inst : log.inst ≡ i = sym (ap (λ (x : LogState). x.inst) is) ∙ good.shape.own_log i low high in
    let settled = c.requires.settled in
    let some : log.tail ≢ [] = λ e. not-ok tt c.in-Err.field-0 (c.in-Err.ensures.idle e).0 in
    let may : (bytes : List ℕ) → r.leaves new i bytes → MayForce log (r.seen old i) bytes =
    failed-outcomes (r.leaves old) (r.leaves new) i log (r.seen old) (r.seen new) inst (λ d le. laws.leaves_seen new d le)
    (λ img left. (c.in-Err.ensures.any_moment some).each img (laws.counts_now new (r.moment old) img c.in-Err.ensures.time.later left)) in
    let failed : IsHalfForced i (log_at p i) (r.seen old) (r.seen new) (r.leaves old) (r.leaves new) =
    subst (λ (x : LogState). IsHalfForced i x (r.seen old) (r.seen new) (r.leaves old) (r.leaves new)) (sym is) (record {
      outside = λ bytes left. (may bytes left).0;
      either = λ bytes left. (may bytes left).1;
      others = λ d ne. c.in-Err.ensures.others d (λ e. ne (e ∙ inst));
      others_leave = λ d ne. c.in-Err.ensures.others_leave d (λ e. ne (e ∙ inst));
    }) in
    let same : record p { logs = slice_set p.logs (c.get.result - 1) self } ≡ p =
    ap (λ (logs : List LogState). record p { logs = logs }) (same-set p.logs (c.get.result - 1) log self c.index_mut.ensures.value c.in-Err.ensures.stays) in
    let after : parts c.fails.new.self ≡ with_failed (actor p i) i p = c.fails.ensures.parts ∙ ap (λ (q : Parts). with_failed (actor q i) i q) same in
    subst (λ x. Good (r.seen x) (r.leaves x) pend (parts c.fails.new.self) m) (sym c.fails.ensures.rig)
    (subst (λ (q : Parts). Good (r.seen new) (r.leaves new) pend q m) (sym after)
    (failed-good i (r.seen old) (r.seen new) (r.leaves old) (r.leaves new) pend p m low high good c.requires.now settled
    (λ d le. laws.leaves_seen old d le) failed))

pub returns-in-Err-clause-images : goal.returns-in-Err-clause-images
returns-in-Err-clause-images g c pend m good =
    let r = g.G.Rig in
    let laws = g.met.G.Rig in
    let old = c.args.self.now.rig in
    let p : Parts = parts c.args.self.now in
    let i : ℕ = c.args.i in
    let low : 1 ≤ i = omega (arith, c.get.ensures.value, c.get.ensures.low) in
    let high : i ≤ 8 = omega (arith, c.get.ensures.value, c.get.ensures.high) in
    let log : LogState = c.index_mut.result.now in
    let is : log_at p i ≡ log = log-lent p i (c.get.result - 1) log low high good.shape.logs (ap (λ n. n - 1) c.get.ensures.value) c.index_mut.ensures.value in
    let settled = c.requires.settled in
    let some : log.tail ≢ [] = λ e. not-ok tt c.in-Err.field-0 (c.in-Err.ensures.idle e).0 in
    let one = (good.settled i low high settled).one_place in
    subst (λ x. Span (r.moment old) (r.since x) (Stands m pend)) (sym c.fails.ensures.rig)
    (span-weaker (r.moment old) (r.since c.force-done.new.rig) (Forces log (r.seen old) (r.leaves old)) (Stands m pend)
    (λ img f. force-left-stands (r.leaves old) i (r.seen old) img pend p m good low high one (laws.leaves_seen old i high)
    (subst (λ (x : LogState). Forces x (r.seen old) (r.leaves old) img) (sym is) f))
    (c.in-Err.ensures.any_moment some))

pub returns-in-Ok-clause-others : goal.returns-in-Ok-clause-others
returns-in-Ok-clause-others g c d ne =
    let p : Parts = parts c.args.self.now in
    let i : ℕ = c.args.i in
    let low : 1 ≤ i = omega (arith, c.get.ensures.value, c.get.ensures.low) in
    let high : i ≤ 8 = omega (arith, c.get.ensures.value, c.get.ensures.high) in
    let log : LogState = c.index_mut.result.now in
    let good = c.requires.good.2 in
    let is : log_at p i ≡ log = log-lent p i (c.get.result - 1) log low high good.shape.logs (ap (λ n. n - 1) c.get.ensures.value) c.index_mut.ensures.value in
    let inst : log.inst ≡ i = sym (ap (λ (x : LogState). x.inst) is) ∙ good.shape.own_log i low high in
    c.force-done.ensures.others d (λ e. ne (e ∙ inst))

pub returns-in-Ok-clause-others_leave : goal.returns-in-Ok-clause-others_leave
returns-in-Ok-clause-others_leave g c d ne =
    let p : Parts = parts c.args.self.now in
    let i : ℕ = c.args.i in
    let low : 1 ≤ i = omega (arith, c.get.ensures.value, c.get.ensures.low) in
    let high : i ≤ 8 = omega (arith, c.get.ensures.value, c.get.ensures.high) in
    let log : LogState = c.index_mut.result.now in
    let good = c.requires.good.2 in
    let is : log_at p i ≡ log = log-lent p i (c.get.result - 1) log low high good.shape.logs (ap (λ n. n - 1) c.get.ensures.value) c.index_mut.ensures.value in
    let inst : log.inst ≡ i = sym (ap (λ (x : LogState). x.inst) is) ∙ good.shape.own_log i low high in
    c.force-done.ensures.others_leave d (λ e. ne (e ∙ inst))

pub returns-in-Err-clause-others : goal.returns-in-Err-clause-others
returns-in-Err-clause-others g c d ne =
    let p : Parts = parts c.args.self.now in
    let i : ℕ = c.args.i in
    let low : 1 ≤ i = omega (arith, c.get.ensures.value, c.get.ensures.low) in
    let high : i ≤ 8 = omega (arith, c.get.ensures.value, c.get.ensures.high) in
    let log : LogState = c.index_mut.result.now in
    let good = c.requires.good.2 in
    let is : log_at p i ≡ log = log-lent p i (c.get.result - 1) log low high good.shape.logs (ap (λ n. n - 1) c.get.ensures.value) c.index_mut.ensures.value in
    let inst : log.inst ≡ i = sym (ap (λ (x : LogState). x.inst) is) ∙ good.shape.own_log i low high in
    ap (λ rig. g.G.Rig.seen rig d) c.fails.ensures.rig ∙ c.force-done.ensures.others d (λ e. ne (e ∙ inst))

pub returns-in-Err-clause-others_leave : goal.returns-in-Err-clause-others_leave
returns-in-Err-clause-others_leave g c d ne =
    let p : Parts = parts c.args.self.now in
    let i : ℕ = c.args.i in
    let low : 1 ≤ i = omega (arith, c.get.ensures.value, c.get.ensures.low) in
    let high : i ≤ 8 = omega (arith, c.get.ensures.value, c.get.ensures.high) in
    let log : LogState = c.index_mut.result.now in
    let good = c.requires.good.2 in
    let is : log_at p i ≡ log = log-lent p i (c.get.result - 1) log low high good.shape.logs (ap (λ n. n - 1) c.get.ensures.value) c.index_mut.ensures.value in
    let inst : log.inst ≡ i = sym (ap (λ (x : LogState). x.inst) is) ∙ good.shape.own_log i low high in
    subst (λ rig. LeavesSame (g.G.Rig.leaves c.args.self.now.rig d) (g.G.Rig.leaves rig d)) (sym c.fails.ensures.rig)
    (c.force-done.ensures.others_leave d (λ e. ne (e ∙ inst)))

pub returns-in-Ok-clause-masters : goal.returns-in-Ok-clause-masters
returns-in-Ok-clause-masters g c =
    let r = g.G.Rig in
    let laws = g.met.G.Rig in
    let old = c.args.self.now.rig in
    let new = c.force-done.new.rig in
    let p : Parts = parts c.args.self.now in
    let i : ℕ = c.args.i in
    let low : 1 ≤ i = omega (arith, c.get.ensures.value, c.get.ensures.low) in
    let high : i ≤ 8 = omega (arith, c.get.ensures.value, c.get.ensures.high) in
    let log : LogState = c.index_mut.result.now in
    let good = c.requires.good.2 in
    let is : log_at p i ≡ log = log-lent p i (c.get.result - 1) log low high good.shape.logs (ap (λ n. n - 1) c.get.ensures.value) c.index_mut.ensures.value in
    let inst : log.inst ≡ i = sym (ap (λ (x : LogState). x.inst) is) ∙ good.shape.own_log i low high in
    let there : r.leaves old log.inst (r.seen old log.inst) = laws.leaves_seen old log.inst (omega (arith, inst, high)) in
    ⊎_elim
    (λ none. subst (λ x. KeepMasters (r.leaves old) (r.leaves x)) (sym (c.in-Ok.ensures.idle none).1)
    (λ j lo bytes left. (bytes, left, refl)))
    (λ some. masters-outside (forced_at log) (forced_len log) log.inst (r.seen old log.inst) (r.leaves old) (r.leaves new) (omega arith) there
    (λ bytes left. subst (λ (b : List ℕ). AgreesOutside (forced_at log) (forced_len log) (r.seen old log.inst) b)
    (sym ((c.in-Ok.ensures.durable some bytes).0 left)) c.in-Ok.ensures.outside)
    (λ k ne. c.in-Ok.ensures.others_leave k ne))
    (nil-or log.tail)

pub returns-in-Err-clause-masters : goal.returns-in-Err-clause-masters
returns-in-Err-clause-masters g c =
    let r = g.G.Rig in
    let laws = g.met.G.Rig in
    let old = c.args.self.now.rig in
    let new = c.force-done.new.rig in
    let p : Parts = parts c.args.self.now in
    let i : ℕ = c.args.i in
    let low : 1 ≤ i = omega (arith, c.get.ensures.value, c.get.ensures.low) in
    let high : i ≤ 8 = omega (arith, c.get.ensures.value, c.get.ensures.high) in
    let log : LogState = c.index_mut.result.now in
    let good = c.requires.good.2 in
    let is : log_at p i ≡ log = log-lent p i (c.get.result - 1) log low high good.shape.logs (ap (λ n. n - 1) c.get.ensures.value) c.index_mut.ensures.value in
    let inst : log.inst ≡ i = sym (ap (λ (x : LogState). x.inst) is) ∙ good.shape.own_log i low high in
    let there : r.leaves old log.inst (r.seen old log.inst) = laws.leaves_seen old log.inst (omega (arith, inst, high)) in
    let some : log.tail ≢ [] = λ e. not-ok tt c.in-Err.field-0 (c.in-Err.ensures.idle e).0 in
    let may : (bytes : List ℕ) → r.leaves new log.inst bytes → MayForce log (r.seen old log.inst) bytes =
    failed-outcomes (r.leaves old) (r.leaves new) log.inst log (r.seen old) (r.seen new) refl (λ k le. laws.leaves_seen new k le)
    (λ img left. (c.in-Err.ensures.any_moment some).each img (laws.counts_now new (r.moment old) img c.in-Err.ensures.time.later left)) in
    subst (λ x. KeepMasters (r.leaves old) (r.leaves x)) (sym c.fails.ensures.rig)
    (masters-outside (forced_at log) (forced_len log) log.inst (r.seen old log.inst) (r.leaves old) (r.leaves new) (omega arith) there
    (λ bytes left. (may bytes left).0) (λ k ne. c.in-Err.ensures.others_leave k ne))

pub returns-in-Ok-clause-time : goal.returns-in-Ok-clause-time
returns-in-Ok-clause-time g c = c.force-done.ensures.time

pub returns-in-Ok-clause-cause : goal.returns-in-Ok-clause-cause
returns-in-Ok-clause-cause g c = c.force-done.ensures.cause

pub returns-in-Ok-clause-quiet : goal.returns-in-Ok-clause-quiet
returns-in-Ok-clause-quiet g c = c.force-done.ensures.quiet

pub returns-in-Ok-clause-count : goal.returns-in-Ok-clause-count
returns-in-Ok-clause-count g c = c.force-done.ensures.count

pub returns-in-Ok-clause-failed : goal.returns-in-Ok-clause-failed
returns-in-Ok-clause-failed g c = ok-no_err c.force-done.result tt _ c.in-Ok.is

pub returns-in-Err-clause-time : goal.returns-in-Err-clause-time
returns-in-Err-clause-time g c =
    let r = g.G.Rig in
    let old = c.args.self.now.rig in
    subst (λ x. Elapses (r.moment old) (r.moment x) (r.since old) (r.since x)) (sym c.fails.ensures.rig) c.force-done.ensures.time

pub returns-in-Err-clause-cause : goal.returns-in-Err-clause-cause
returns-in-Err-clause-cause g c =
    let faults = g.G.Rig.faults in
    subst (λ x. OnErr c.force-done.result (Rises (faults c.args.self.now.rig) (faults x))) (sym c.fails.ensures.rig) c.force-done.ensures.cause

pub returns-in-Err-clause-quiet : goal.returns-in-Err-clause-quiet
returns-in-Err-clause-quiet g c =
    let faults = g.G.Rig.faults in
    subst (λ x. OnOk c.force-done.result (faults x ≡ faults c.args.self.now.rig)) (sym c.fails.ensures.rig) c.force-done.ensures.quiet

pub returns-in-Err-clause-count : goal.returns-in-Err-clause-count
returns-in-Err-clause-count g c =
    let faults = g.G.Rig.faults in
    subst (λ x. faults c.args.self.now.rig ≤ faults x) (sym c.fails.ensures.rig) c.force-done.ensures.count

pub returns-in-Err-clause-forced : goal.returns-in-Err-clause-forced
returns-in-Err-clause-forced g c = err-no_ok c.force-done.result c.in-Err.field-0 _ c.in-Err.is

pub returns-in-Err-clause-failed : goal.returns-in-Err-clause-failed
returns-in-Err-clause-failed g c =
    let p : Parts = parts c.args.self.now in
    let i : ℕ = c.args.i in
    let self : LogState = c.force-done.new.self in
    let same : record p { logs = slice_set p.logs (c.get.result - 1) self } ≡ p =
    ap (λ (logs : List LogState). record p { logs = logs })
    (same-set p.logs (c.get.result - 1) c.index_mut.result.now self c.index_mut.ensures.value c.in-Err.ensures.stays) in
    on-err c.force-done.result _ (c.fails.ensures.parts ∙ ap (λ (q : Parts). with_failed (actor q i) i q) same)

pub fails-requires : goal.fails-requires
fails-requires g c =
    let p : Parts = parts c.args.self.now in
    let self : LogState = c.force-done.new.self in
    let same : record p { logs = slice_set p.logs (c.get.result - 1) self } ≡ p =
    ap (λ (logs : List LogState). record p { logs = logs })
    (same-set p.logs (c.get.result - 1) c.index_mut.result.now self c.index_mut.ensures.value c.in-Err.ensures.stays) in
    record { shape = subst IsShape (sym same) c.requires.good.2.shape }
