use Rattle.std.proofs.Common.{◌≡◌, inr, ℕ, ◌+◌, ◌<◌, ◌≤◌, true, sym, ap, ◌∙◌, subst, arith}
use Rattle.std.specs.Prelude.{Some, IfSome, if◌then◌else◌}
use Rattle.std.proofs.lemmas.List.{get_or-set_same}
use Rattle.sd_base.specs.Twin.{Slot, chosen_body, chosen_slot, number_of}
use Rattle.sd_base.specs.Streams.{Rises}
use Rattle.sd_logrec.specs.Kept.{Master}
use Rattle.sd_model.specs.State.{State}
use Rattle.sd_moves.specs.Falling.{AreLost, IsFallen, with_fallen}
use Rattle.sd_rig.specs.Devices.{AgreesOutside, Elapses, LeavesOnly, LeavesSame, Span, device_len}
use Rattle.sd_rig.specs.Puts.{filled_open}
use Rattle.sd_rig.specs.Slots.{slot, slots_len}
use Rattle.sd_rig.specs.declared.twin.Twin.{Twin}
use Rattle.sd_recovered.specs.Masters.{kept_master}
use Rattle.sd_state.specs.Complexes.{parts}
use Rattle.sd_state.specs.Good.{Good}
use Rattle.sd_state.specs.Images.{Stands}
use Rattle.sd_state.specs.Parts.{Parts, is_loose, status_at, txns_at}
use Rattle.sd_state.specs.Values.{Pending}
use Rattle.sd_chain.specs.Images.{Keeps}
use Rattle.sd_ckpt.specs.Laws.{with_either}
use Rattle.sd_ckpt.specs.Masters.{IsMasterOr, IsMasterPut}
use Rattle.sd_ckpt.specs.Readings.{ReadsAlike, storage_by}
use Rattle.sd_ckpt.proofs.MasterCalls.{above-count, acts-by, put-alike, put-done, put-either, put-either-alike, put-good, put-images, put-left, slots-fit, start-small}
use Rattle.sd_ckpt.proofs.PutStands.{was-ready}
use Rattle.sd_ckpt.proofs.master.put_over.Goals as goal

pub spell-body-requires-clause-area : goal.spell-body-requires-clause-area
spell-body-requires-clause-area g c =
    ap (λ (x : Master). x.log_area) c.requires.next

pub spell-body-requires-clause-place : goal.spell-body-requires-clause-place
spell-body-requires-clause-place g c =
    let r = g.G.Rig in
    let laws = g.met.G.Rig in
    let old = c.args.c.now.rig in
    let p : Parts = parts c.args.c.now in
    let i : ℕ = c.args.i in
    let low : 1 ≤ i = c.keeps.ensures.low in
    let high : i ≤ 8 = c.keeps.ensures.high in
    let m : State = c.requires.good.0 in
    let good = c.requires.good.1 in
    start-small i c.args.next.now.check c.args.next.now.start (r.seen old) (r.leaves old) p m low high good
    (laws.leaves_seen old i high) c.requires.may

pub put-requires-clause-range : goal.put-requires-clause-range
put-requires-clause-range g c =
    subst (λ (t : Twin). t.at + slots_len t.body ≤ device_len t.dev) (sym c.twin_of.ensures) (slots-fit c.args.i)

pub put-requires-clause-stable : goal.put-requires-clause-stable
put-requires-clause-stable g c =
    let r = g.G.Rig in
    let laws = g.met.G.Rig in
    let old = c.args.c.now.rig in
    let p : Parts = parts c.args.c.now in
    let i : ℕ = c.args.i in
    let low : 1 ≤ i = c.keeps.ensures.low in
    let high : i ≤ 8 = c.keeps.ensures.high in
    let m : State = c.requires.good.0 in
    let good = c.requires.good.1 in
    subst (λ (t : Twin). LeavesOnly (r.seen old t.dev) (r.leaves old t.dev)) (sym c.twin_of.ensures)
    (good.settled i low high c.requires.may.settled).only

pub put-requires-clause-chosen : goal.put-requires-clause-chosen
put-requires-clause-chosen g c =
    let r = g.G.Rig in
    let laws = g.met.G.Rig in
    let old = c.args.c.now.rig in
    let p : Parts = parts c.args.c.now in
    let i : ℕ = c.args.i in
    let low : 1 ≤ i = c.keeps.ensures.low in
    let high : i ≤ 8 = c.keeps.ensures.high in
    subst (λ (t : Twin). chosen_slot t.at t.body (r.seen old t.dev) ≡ slot c.args.chosen)
    (sym c.twin_of.ensures) c.requires.chosen

pub put-requires-clause-differs : goal.put-requires-clause-differs
put-requires-clause-differs g c same =
    let r = g.G.Rig in
    let laws = g.met.G.Rig in
    let old = c.args.c.now.rig in
    let p : Parts = parts c.args.c.now in
    let i : ℕ = c.args.i in
    let low : 1 ≤ i = c.keeps.ensures.low in
    let high : i ≤ 8 = c.keeps.ensures.high in
    let m : State = c.requires.good.0 in
    let good = c.requires.good.1 in
    (was-ready i (r.seen old) (r.leaves old) p m low high good (laws.leaves_seen old i high) c.requires.may.settled).slots.differ
    (c.requires.chosen ∙ ap slot same)

pub put-requires-clause-greater : goal.put-requires-clause-greater
put-requires-clause-greater g c =
    let r = g.G.Rig in
    let laws = g.met.G.Rig in
    let old = c.args.c.now.rig in
    let p : Parts = parts c.args.c.now in
    let i : ℕ = c.args.i in
    let low : 1 ≤ i = c.keeps.ensures.low in
    let high : i ≤ 8 = c.keeps.ensures.high in
    let next = c.args.next.now in
    subst (λ (t : Twin). IfSome (chosen_body t.at t.body (r.seen old t.dev)) (λ b. number_of b < number_of c.spell-body.result))
    (sym c.twin_of.ensures)
    (subst (λ (n : ℕ). IfSome (chosen_body 0 64 (r.seen old i)) (λ b. number_of b < n)) (sym c.spell-body.ensures.number)
    (above-count (r.seen old i) next.count (ap (λ (x : Master). x.count) c.requires.next)))

pub begin_log-requires-clause-shape : goal.begin_log-requires-clause-shape
begin_log-requires-clause-shape g c =
    c.requires.good.1.shape

pub begin_log-requires-clause-bare : goal.begin_log-requires-clause-bare
begin_log-requires-clause-bare g c =
    c.requires.may.bare

pub begin_log-requires-clause-boundary : goal.begin_log-requires-clause-boundary
begin_log-requires-clause-boundary g c =
    let f = c.requires.may.begun.2 in (f.before, f.behind, f.parts, f.place_is)

pub leave_either-requires-clause-shape : goal.leave_either-requires-clause-shape
leave_either-requires-clause-shape g c =
    c.requires.good.1.shape

pub leave_either-requires-clause-takes : goal.leave_either-requires-clause-takes
leave_either-requires-clause-takes g c =
    c.requires.may.takes

pub down-requires-clause-good : goal.down-requires-clause-good
down-requires-clause-good g c =
    let r = g.G.Rig in
    let laws = g.met.G.Rig in
    let old = c.args.c.now.rig in
    let p : Parts = parts c.args.c.now in
    let i : ℕ = c.args.i in
    let low : 1 ≤ i = c.keeps.ensures.low in
    let high : i ≤ 8 = c.keeps.ensures.high in
    let mid = c.put.new.rig in
    let next = c.args.next.now in
    let m : State = c.requires.good.0 in
    let good = c.requires.good.1 in (
      Pending.Idle,
      m,
      (subst (λ (d : g.row.G.Denot). Good (r.seen d) (r.leaves d) Pending.Idle (parts c.leave_either.new.c) m)
          (sym c.leave_either.ensures.rig)
          (subst (λ (q : Parts). Good (r.seen mid) (r.leaves mid) Pending.Idle q m) (sym c.leave_either.ensures.parts)
          (put-either i next.check next.start next.count c.spell-body.result c.twin_of.result c.twin_of.ensures (r.seen old)
          (r.seen mid) (r.leaves old) (r.leaves mid)
          p m low high good (λ d le. laws.leaves_seen old d le) c.requires.idle c.requires.may c.spell-body.ensures.well
          (c.spell-body.ensures.is ∙ c.requires.next) (r.moment old) (r.since mid) c.put.ensures.any_moment
          c.put.ensures.others c.put.ensures.others_leave (λ d le. laws.leaves_seen mid d le)
          (λ img left. laws.counts_now mid (r.moment old) img c.put.ensures.time.later left)))),
    )

pub down-requires-clause-due : goal.down-requires-clause-due
down-requires-clause-due g c =
    let p : Parts = parts c.args.c.now in
    let i : ℕ = c.args.i in
    let nine = c.requires.good.1.shape.loose in
    inr (
      i,
      ap (λ (k : Parts). k.due) c.leave_either.ensures.parts
          ∙ ap (λ (a : ℕ). Some (a, i)) (acts-by (status_at p i) i c.requires.may.takes),
      ap (λ (k : Parts). is_loose k i) c.leave_either.ensures.parts
          ∙ get_or-set_same p.loose i true true (omega (arith, nine, c.keeps.ensures.high)),
    )

pub returns-in-Ok-clause-good : goal.returns-in-Ok-clause-good
returns-in-Ok-clause-good g c m good =
    let r = g.G.Rig in
    let laws = g.met.G.Rig in
    let old = c.args.c.now.rig in
    let p : Parts = parts c.args.c.now in
    let i : ℕ = c.args.i in
    let low : 1 ≤ i = c.keeps.ensures.low in
    let high : i ≤ 8 = c.keeps.ensures.high in
    let mid = c.put.new.rig in
    let next = c.args.next.now in
    subst (λ (d : g.row.G.Denot). Good (r.seen d) (r.leaves d) Pending.Idle (parts c.begin_log.new.c) m)
    (sym c.begin_log.ensures.rig)
    (subst (λ (q : Parts). Good (r.seen mid) (r.leaves mid) Pending.Idle q m) (sym c.begin_log.ensures.parts)
    (put-good i next.check next.start next.count c.spell-body.result c.twin_of.result c.twin_of.ensures (r.seen old) (r.seen mid)
    (r.leaves old) (r.leaves mid)
    p m low high good (λ d le. laws.leaves_seen old d le) c.requires.idle c.requires.may c.spell-body.ensures.well
    (c.spell-body.ensures.is ∙ c.requires.next) (r.moment old) (r.since mid) c.put.ensures.any_moment
    c.put.ensures.others c.put.ensures.others_leave (λ d le. laws.leaves_seen mid d le)
    (λ img left. laws.counts_now mid
    (r.moment old) img c.put.ensures.time.later left) c.in-Ok.ensures.body c.in-Ok.ensures.durable c.spell-body.ensures.number))

pub returns-in-Ok-clause-images : goal.returns-in-Ok-clause-images
returns-in-Ok-clause-images g c m good =
    let r = g.G.Rig in
    let laws = g.met.G.Rig in
    let old = c.args.c.now.rig in
    let p : Parts = parts c.args.c.now in
    let i : ℕ = c.args.i in
    let low : 1 ≤ i = c.keeps.ensures.low in
    let high : i ≤ 8 = c.keeps.ensures.high in
    let mid = c.put.new.rig in
    let next = c.args.next.now in
    subst (λ (d : g.row.G.Denot). Span (r.moment old) (r.since d) (Stands m Pending.Idle)) (sym c.begin_log.ensures.rig)
    (put-images i next.check next.start next.count c.spell-body.result c.twin_of.result c.twin_of.ensures (r.seen old)
    (r.seen mid) (r.leaves old) (r.leaves mid)
    p m low high good (λ d le. laws.leaves_seen old d le) c.requires.idle c.requires.may c.spell-body.ensures.well
    (c.spell-body.ensures.is ∙ c.requires.next) (r.moment old) (r.since mid) c.put.ensures.any_moment)

pub returns-in-Ok-clause-time : goal.returns-in-Ok-clause-time
returns-in-Ok-clause-time g c =
    let r = g.G.Rig in
    let laws = g.met.G.Rig in
    let old = c.args.c.now.rig in
    let p : Parts = parts c.args.c.now in
    let i : ℕ = c.args.i in
    let low : 1 ≤ i = c.keeps.ensures.low in
    let high : i ≤ 8 = c.keeps.ensures.high in
    let mid = c.put.new.rig in
    let next = c.args.next.now in
    subst (λ (d : g.row.G.Denot). Elapses (r.moment old) (r.moment d) (r.since old) (r.since d)) (sym c.begin_log.ensures.rig)
    (c.put.ensures.time)

pub returns-in-Ok-clause-put : goal.returns-in-Ok-clause-put
returns-in-Ok-clause-put g c =
    c.begin_log.ensures.parts

pub returns-in-Ok-clause-master : goal.returns-in-Ok-clause-master
returns-in-Ok-clause-master g c =
    let r = g.G.Rig in
    let laws = g.met.G.Rig in
    let old = c.args.c.now.rig in
    let p : Parts = parts c.args.c.now in
    let i : ℕ = c.args.i in
    let low : 1 ≤ i = c.keeps.ensures.low in
    let high : i ≤ 8 = c.keeps.ensures.high in
    let mid = c.put.new.rig in
    let next = c.args.next.now in
    let m : State = c.requires.good.0 in
    let good = c.requires.good.1 in
    subst (λ (d : g.row.G.Denot). IsMasterPut (kept_master next) (r.seen d i) (r.leaves d i)) (sym c.begin_log.ensures.rig)
    (subst (λ (x : Master). IsMasterPut x (r.seen mid i) (r.leaves mid i)) (sym c.requires.next)
    (put-done i next.check next.start next.count c.spell-body.result c.twin_of.result c.twin_of.ensures (r.seen old) (r.seen mid)
    (r.leaves old) (r.leaves mid)
    p m low high good (λ d le. laws.leaves_seen old d le) c.requires.idle c.requires.may c.spell-body.ensures.well
    (c.spell-body.ensures.is ∙ c.requires.next) (r.moment old) (r.since mid) c.put.ensures.any_moment
    c.put.ensures.others c.put.ensures.others_leave (λ d le. laws.leaves_seen mid d le)
    (λ img left. laws.counts_now mid
    (r.moment old) img c.put.ensures.time.later left) c.in-Ok.ensures.body c.in-Ok.ensures.durable c.spell-body.ensures.number))

pub returns-in-Ok-clause-left : goal.returns-in-Ok-clause-left
returns-in-Ok-clause-left g c bytes l =
    let r = g.G.Rig in
    let laws = g.met.G.Rig in
    let old = c.args.c.now.rig in
    let p : Parts = parts c.args.c.now in
    let i : ℕ = c.args.i in
    let low : 1 ≤ i = c.keeps.ensures.low in
    let high : i ≤ 8 = c.keeps.ensures.high in
    let mid = c.put.new.rig in
    let next = c.args.next.now in
    let m : State = c.requires.good.0 in
    let good = c.requires.good.1 in
    subst (λ (x : Master). IsMasterOr x (r.seen old i) bytes) (sym c.requires.next)
    (put-left i next.check next.start next.count c.spell-body.result c.twin_of.result c.twin_of.ensures (r.seen old) (r.seen mid)
    (r.leaves old) (r.leaves mid)
    p m low high good (λ d le. laws.leaves_seen old d le) c.requires.idle c.requires.may c.spell-body.ensures.well
    (c.spell-body.ensures.is ∙ c.requires.next) (r.moment old) (r.since mid) c.put.ensures.any_moment
    c.put.ensures.others c.put.ensures.others_leave (λ d le. laws.leaves_seen mid d le)
    (λ img left. laws.counts_now mid (r.moment old) img c.put.ensures.time.later left) bytes
    (subst (λ (d : g.row.G.Denot). r.leaves d i bytes) c.begin_log.ensures.rig l))

pub returns-in-Ok-clause-outside : goal.returns-in-Ok-clause-outside
returns-in-Ok-clause-outside g c =
    let r = g.G.Rig in
    let laws = g.met.G.Rig in
    let old = c.args.c.now.rig in
    let p : Parts = parts c.args.c.now in
    let i : ℕ = c.args.i in
    let low : 1 ≤ i = c.keeps.ensures.low in
    let high : i ≤ 8 = c.keeps.ensures.high in
    let mid = c.put.new.rig in
    let next = c.args.next.now in
    subst (λ (d : g.row.G.Denot). AgreesOutside 0 130 (r.seen old i) (r.seen d i)) (sym c.begin_log.ensures.rig)
    (subst (λ (t : Twin). AgreesOutside t.at (slots_len t.body) (r.seen old t.dev)
    (r.seen mid t.dev)) c.twin_of.ensures c.put.ensures.outside)

pub returns-in-Ok-clause-others : goal.returns-in-Ok-clause-others
returns-in-Ok-clause-others g c d ne =
    let r = g.G.Rig in
    let laws = g.met.G.Rig in
    let old = c.args.c.now.rig in
    let p : Parts = parts c.args.c.now in
    let i : ℕ = c.args.i in
    let low : 1 ≤ i = c.keeps.ensures.low in
    let high : i ≤ 8 = c.keeps.ensures.high in
    let mid = c.put.new.rig in
    let next = c.args.next.now in
    ap (λ (x : g.row.G.Denot). r.seen x d) c.begin_log.ensures.rig
    ∙ c.put.ensures.others d (λ e. ne (e ∙ ap (λ (t : Twin). t.dev) c.twin_of.ensures))

pub returns-in-Ok-clause-others_leave : goal.returns-in-Ok-clause-others_leave
returns-in-Ok-clause-others_leave g c d ne =
    let r = g.G.Rig in
    let laws = g.met.G.Rig in
    let old = c.args.c.now.rig in
    let p : Parts = parts c.args.c.now in
    let i : ℕ = c.args.i in
    let low : 1 ≤ i = c.keeps.ensures.low in
    let high : i ≤ 8 = c.keeps.ensures.high in
    let mid = c.put.new.rig in
    let next = c.args.next.now in
    subst (λ (x : g.row.G.Denot). LeavesSame (r.leaves old d) (r.leaves x d)) (sym c.begin_log.ensures.rig)
    (c.put.ensures.others_leave d (λ e. ne (e ∙ ap (λ (t : Twin). t.dev) c.twin_of.ensures)))

pub returns-in-Ok-clause-tick : goal.returns-in-Ok-clause-tick
returns-in-Ok-clause-tick g c =
    let r = g.G.Rig in
    let laws = g.met.G.Rig in
    let old = c.args.c.now.rig in
    let p : Parts = parts c.args.c.now in
    let i : ℕ = c.args.i in
    let low : 1 ≤ i = c.keeps.ensures.low in
    let high : i ≤ 8 = c.keeps.ensures.high in
    let mid = c.put.new.rig in
    let next = c.args.next.now in
    ap r.moment c.begin_log.ensures.rig ∙ c.in-Ok.ensures.tick
    ∙ ap (λ (s : Slot). r.moment old + (if filled_open s then 6 else 4)) (sym c.requires.chosen)

pub returns-in-Ok-clause-quiet : goal.returns-in-Ok-clause-quiet
returns-in-Ok-clause-quiet g c =
    let r = g.G.Rig in
    let laws = g.met.G.Rig in
    let old = c.args.c.now.rig in
    let p : Parts = parts c.args.c.now in
    let i : ℕ = c.args.i in
    let low : 1 ≤ i = c.keeps.ensures.low in
    let high : i ≤ 8 = c.keeps.ensures.high in
    let mid = c.put.new.rig in
    let next = c.args.next.now in
    ap r.faults c.begin_log.ensures.rig ∙ c.in-Ok.ensures.quiet

pub returns-in-Ok-clause-count : goal.returns-in-Ok-clause-count
returns-in-Ok-clause-count g c =
    let r = g.G.Rig in
    let laws = g.met.G.Rig in
    let old = c.args.c.now.rig in
    let p : Parts = parts c.args.c.now in
    let i : ℕ = c.args.i in
    let low : 1 ≤ i = c.keeps.ensures.low in
    let high : i ≤ 8 = c.keeps.ensures.high in
    let mid = c.put.new.rig in
    let next = c.args.next.now in
    subst (λ (d : g.row.G.Denot). r.faults old ≤ r.faults d) (sym c.begin_log.ensures.rig)
    (c.put.ensures.count)

pub returns-in-Err-clause-good_fallen : goal.returns-in-Err-clause-good_fallen
returns-in-Err-clause-good_fallen g c m good =
    let r = g.G.Rig in
    let laws = g.met.G.Rig in
    let old = c.args.c.now.rig in
    let p : Parts = parts c.args.c.now in
    let i : ℕ = c.args.i in
    let low : 1 ≤ i = c.keeps.ensures.low in
    let high : i ≤ 8 = c.keeps.ensures.high in
    let mid = c.put.new.rig in
    let next = c.args.next.now in
    c.down.ensures.good m
    (subst (λ (d : g.row.G.Denot). Good (r.seen d) (r.leaves d) Pending.Idle (parts c.leave_either.new.c) m)
    (sym c.leave_either.ensures.rig)
    (subst (λ (q : Parts). Good (r.seen mid) (r.leaves mid) Pending.Idle q m) (sym c.leave_either.ensures.parts)
    (put-either i next.check next.start next.count c.spell-body.result c.twin_of.result c.twin_of.ensures (r.seen old)
    (r.seen mid) (r.leaves old) (r.leaves mid)
    p m low high good (λ d le. laws.leaves_seen old d le) c.requires.idle c.requires.may c.spell-body.ensures.well
    (c.spell-body.ensures.is ∙ c.requires.next) (r.moment old) (r.since mid) c.put.ensures.any_moment
    c.put.ensures.others c.put.ensures.others_leave (λ d le. laws.leaves_seen mid d le)
    (λ img left. laws.counts_now mid (r.moment old) img c.put.ensures.time.later left))))

pub returns-in-Err-clause-images : goal.returns-in-Err-clause-images
returns-in-Err-clause-images g c m good =
    let r = g.G.Rig in
    let laws = g.met.G.Rig in
    let old = c.args.c.now.rig in
    let p : Parts = parts c.args.c.now in
    let i : ℕ = c.args.i in
    let low : 1 ≤ i = c.keeps.ensures.low in
    let high : i ≤ 8 = c.keeps.ensures.high in
    let mid = c.put.new.rig in
    let next = c.args.next.now in
    subst (λ (d : g.row.G.Denot). Span (r.moment old) (r.since d) (Stands m Pending.Idle))
    (sym (c.down.ensures.rig ∙ c.leave_either.ensures.rig))
    (put-images i next.check next.start next.count c.spell-body.result c.twin_of.result c.twin_of.ensures (r.seen old)
    (r.seen mid) (r.leaves old) (r.leaves mid)
    p m low high good (λ d le. laws.leaves_seen old d le) c.requires.idle c.requires.may c.spell-body.ensures.well
    (c.spell-body.ensures.is ∙ c.requires.next) (r.moment old) (r.since mid) c.put.ensures.any_moment)

pub returns-in-Err-clause-time : goal.returns-in-Err-clause-time
returns-in-Err-clause-time g c =
    let r = g.G.Rig in
    let laws = g.met.G.Rig in
    let old = c.args.c.now.rig in
    let p : Parts = parts c.args.c.now in
    let i : ℕ = c.args.i in
    let low : 1 ≤ i = c.keeps.ensures.low in
    let high : i ≤ 8 = c.keeps.ensures.high in
    let mid = c.put.new.rig in
    let next = c.args.next.now in
    subst (λ (d : g.row.G.Denot). Elapses (r.moment old) (r.moment d) (r.since old) (r.since d))
    (sym (c.down.ensures.rig ∙ c.leave_either.ensures.rig))
    (c.put.ensures.time)

pub returns-in-Err-clause-fallen : goal.returns-in-Err-clause-fallen
returns-in-Err-clause-fallen g c =
    c.down.ensures.parts ∙ ap (with_fallen c.args.i (parts c.down.new.c)) c.leave_either.ensures.parts

pub returns-in-Err-clause-falls : goal.returns-in-Err-clause-falls
returns-in-Err-clause-falls g c =
    subst (λ (q : Parts). IsFallen c.args.i q (parts c.down.new.c)) c.leave_either.ensures.parts c.down.ensures.fallen

pub returns-in-Err-clause-rows : goal.returns-in-Err-clause-rows
returns-in-Err-clause-rows g c =
    subst (λ (q : Parts). AreLost (txns_at q c.args.i)
    (txns_at (parts c.down.new.c) c.args.i)) c.leave_either.ensures.parts c.down.ensures.rows

pub returns-in-Err-clause-left : goal.returns-in-Err-clause-left
returns-in-Err-clause-left g c bytes l =
    let r = g.G.Rig in
    let laws = g.met.G.Rig in
    let old = c.args.c.now.rig in
    let p : Parts = parts c.args.c.now in
    let i : ℕ = c.args.i in
    let low : 1 ≤ i = c.keeps.ensures.low in
    let high : i ≤ 8 = c.keeps.ensures.high in
    let mid = c.put.new.rig in
    let next = c.args.next.now in
    let m : State = c.requires.good.0 in
    let good = c.requires.good.1 in
    subst (λ (x : Master). IsMasterOr x (r.seen old i) bytes) (sym c.requires.next)
    (put-left i next.check next.start next.count c.spell-body.result c.twin_of.result c.twin_of.ensures (r.seen old) (r.seen mid)
    (r.leaves old) (r.leaves mid)
    p m low high good (λ d le. laws.leaves_seen old d le) c.requires.idle c.requires.may c.spell-body.ensures.well
    (c.spell-body.ensures.is ∙ c.requires.next) (r.moment old) (r.since mid) c.put.ensures.any_moment
    c.put.ensures.others c.put.ensures.others_leave (λ d le. laws.leaves_seen mid d le)
    (λ img left. laws.counts_now mid (r.moment old) img c.put.ensures.time.later left) bytes
    (subst (λ (d : g.row.G.Denot). r.leaves d i bytes) (c.down.ensures.rig ∙ c.leave_either.ensures.rig) l))

pub returns-in-Err-clause-outside : goal.returns-in-Err-clause-outside
returns-in-Err-clause-outside g c =
    let r = g.G.Rig in
    let laws = g.met.G.Rig in
    let old = c.args.c.now.rig in
    let p : Parts = parts c.args.c.now in
    let i : ℕ = c.args.i in
    let low : 1 ≤ i = c.keeps.ensures.low in
    let high : i ≤ 8 = c.keeps.ensures.high in
    let mid = c.put.new.rig in
    let next = c.args.next.now in
    subst (λ (d : g.row.G.Denot). AgreesOutside 0 130 (r.seen old i) (r.seen d i))
    (sym (c.down.ensures.rig ∙ c.leave_either.ensures.rig))
    (subst (λ (t : Twin). AgreesOutside t.at (slots_len t.body) (r.seen old t.dev)
    (r.seen mid t.dev)) c.twin_of.ensures c.put.ensures.outside)

pub returns-in-Err-clause-others : goal.returns-in-Err-clause-others
returns-in-Err-clause-others g c d ne =
    let r = g.G.Rig in
    let laws = g.met.G.Rig in
    let old = c.args.c.now.rig in
    let p : Parts = parts c.args.c.now in
    let i : ℕ = c.args.i in
    let low : 1 ≤ i = c.keeps.ensures.low in
    let high : i ≤ 8 = c.keeps.ensures.high in
    let mid = c.put.new.rig in
    let next = c.args.next.now in
    ap (λ (x : g.row.G.Denot). r.seen x d) (c.down.ensures.rig ∙ c.leave_either.ensures.rig)
    ∙ c.put.ensures.others d (λ e. ne (e ∙ ap (λ (t : Twin). t.dev) c.twin_of.ensures))

pub returns-in-Err-clause-others_leave : goal.returns-in-Err-clause-others_leave
returns-in-Err-clause-others_leave g c d ne =
    let r = g.G.Rig in
    let laws = g.met.G.Rig in
    let old = c.args.c.now.rig in
    let p : Parts = parts c.args.c.now in
    let i : ℕ = c.args.i in
    let low : 1 ≤ i = c.keeps.ensures.low in
    let high : i ≤ 8 = c.keeps.ensures.high in
    let mid = c.put.new.rig in
    let next = c.args.next.now in
    subst (λ (x : g.row.G.Denot). LeavesSame (r.leaves old d) (r.leaves x d))
    (sym (c.down.ensures.rig ∙ c.leave_either.ensures.rig))
    (c.put.ensures.others_leave d (λ e. ne (e ∙ ap (λ (t : Twin). t.dev) c.twin_of.ensures)))

pub returns-in-Err-clause-cause : goal.returns-in-Err-clause-cause
returns-in-Err-clause-cause g c =
    let r = g.G.Rig in
    let laws = g.met.G.Rig in
    let old = c.args.c.now.rig in
    let p : Parts = parts c.args.c.now in
    let i : ℕ = c.args.i in
    let low : 1 ≤ i = c.keeps.ensures.low in
    let high : i ≤ 8 = c.keeps.ensures.high in
    let mid = c.put.new.rig in
    let next = c.args.next.now in
    subst (λ (d : g.row.G.Denot). Rises (r.faults old) (r.faults d)) (sym (c.down.ensures.rig ∙ c.leave_either.ensures.rig))
    (c.in-Err.ensures.cause)

pub returns-in-Err-clause-count : goal.returns-in-Err-clause-count
returns-in-Err-clause-count g c =
    let r = g.G.Rig in
    let laws = g.met.G.Rig in
    let old = c.args.c.now.rig in
    let p : Parts = parts c.args.c.now in
    let i : ℕ = c.args.i in
    let low : 1 ≤ i = c.keeps.ensures.low in
    let high : i ≤ 8 = c.keeps.ensures.high in
    let mid = c.put.new.rig in
    let next = c.args.next.now in
    subst (λ (d : g.row.G.Denot). r.faults old ≤ r.faults d) (sym (c.down.ensures.rig ∙ c.leave_either.ensures.rig))
    (c.put.ensures.count)

pub returns-in-Ok-clause-alike : goal.returns-in-Ok-clause-alike
returns-in-Ok-clause-alike g c =
    let r = g.G.Rig in
    let laws = g.met.G.Rig in
    let old = c.args.c.now.rig in
    let p : Parts = parts c.args.c.now in
    let i : ℕ = c.args.i in
    let low : 1 ≤ i = c.keeps.ensures.low in
    let high : i ≤ 8 = c.keeps.ensures.high in
    let mid = c.put.new.rig in
    let next = c.args.next.now in
    let m : State = c.requires.good.0 in
    let good = c.requires.good.1 in
    subst (λ (d : g.row.G.Denot). (moved keeps : Keeps) → ReadsAlike (storage_by (r.seen old) p moved keeps)
    (storage_by (r.seen d) (parts c.begin_log.new.c) moved keeps)) (sym c.begin_log.ensures.rig)
    (subst (λ (q : Parts). (moved keeps : Keeps) → ReadsAlike (storage_by (r.seen old) p moved keeps)
    (storage_by (r.seen mid) q moved keeps)) (sym c.begin_log.ensures.parts)
    (put-alike i next.check next.start next.count c.spell-body.result c.twin_of.result c.twin_of.ensures (r.seen old) (r.seen mid)
    (r.leaves old) (r.leaves mid)
    p m low high good (λ d le. laws.leaves_seen old d le) c.requires.idle c.requires.may c.spell-body.ensures.well
    (c.spell-body.ensures.is ∙ c.requires.next) (r.moment old) (r.since mid) c.put.ensures.any_moment
    c.put.ensures.others c.put.ensures.others_leave (λ d le. laws.leaves_seen mid d le)
    (λ img left. laws.counts_now mid
    (r.moment old) img c.put.ensures.time.later left) c.in-Ok.ensures.body c.in-Ok.ensures.durable c.spell-body.ensures.number))

pub returns-in-Err-clause-good_either : goal.returns-in-Err-clause-good_either
returns-in-Err-clause-good_either g c m good =
    let r = g.G.Rig in
    let laws = g.met.G.Rig in
    let old = c.args.c.now.rig in
    let p : Parts = parts c.args.c.now in
    let i : ℕ = c.args.i in
    let low : 1 ≤ i = c.keeps.ensures.low in
    let high : i ≤ 8 = c.keeps.ensures.high in
    let mid = c.put.new.rig in
    let next = c.args.next.now in
    subst (λ (d : g.row.G.Denot). Good (r.seen d) (r.leaves d) Pending.Idle (with_either i next.start p) m)
    (sym (c.down.ensures.rig ∙ c.leave_either.ensures.rig))
    (put-either i next.check next.start next.count c.spell-body.result c.twin_of.result c.twin_of.ensures (r.seen old)
    (r.seen mid) (r.leaves old) (r.leaves mid)
    p m low high good (λ d le. laws.leaves_seen old d le) c.requires.idle c.requires.may c.spell-body.ensures.well
    (c.spell-body.ensures.is ∙ c.requires.next) (r.moment old) (r.since mid) c.put.ensures.any_moment
    c.put.ensures.others c.put.ensures.others_leave (λ d le. laws.leaves_seen mid d le)
    (λ img left. laws.counts_now mid (r.moment old) img c.put.ensures.time.later left))

pub returns-in-Err-clause-alike_either : goal.returns-in-Err-clause-alike_either
returns-in-Err-clause-alike_either g c =
    let r = g.G.Rig in
    let laws = g.met.G.Rig in
    let old = c.args.c.now.rig in
    let p : Parts = parts c.args.c.now in
    let i : ℕ = c.args.i in
    let low : 1 ≤ i = c.keeps.ensures.low in
    let high : i ≤ 8 = c.keeps.ensures.high in
    let mid = c.put.new.rig in
    let next = c.args.next.now in
    let m : State = c.requires.good.0 in
    let good = c.requires.good.1 in
    subst (λ (d : g.row.G.Denot). (moved keeps : Keeps) → ReadsAlike (storage_by (r.seen old) p moved keeps)
    (storage_by (r.seen d) (with_either i next.start p) moved keeps)) (sym (c.down.ensures.rig ∙ c.leave_either.ensures.rig))
    (put-either-alike i next.check next.start next.count c.spell-body.result c.twin_of.result c.twin_of.ensures (r.seen old)
    (r.seen mid) (r.leaves old) (r.leaves mid)
    p m low high good (λ d le. laws.leaves_seen old d le) c.requires.idle c.requires.may c.spell-body.ensures.well
    (c.spell-body.ensures.is ∙ c.requires.next) (r.moment old) (r.since mid) c.put.ensures.any_moment
    c.put.ensures.others c.put.ensures.others_leave (λ d le. laws.leaves_seen mid d le)
    (λ img left. laws.counts_now mid (r.moment old) img c.put.ensures.time.later left))
