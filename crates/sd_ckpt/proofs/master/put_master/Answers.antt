use Rattle.std.proofs.Common.{◌≡◌, inl, ℕ, ◌+◌, ◌-◌, ◌≤◌, List, get_or, refl, sym, ap, ◌∙◌, subst, arith}
use Rattle.std.specs.Prelude.{Result, Ok, Err, OnErr, OnOk, if◌then◌else◌}
use Rattle.sd_base.specs.Streams.{Rises}
use Rattle.sd_base.specs.Twin.{chosen_slot}
use Rattle.sd_logrec.specs.Kept.{Master, master}
use Rattle.sd_model.specs.State.{State}
use Rattle.sd_moves.proofs.PutCalls.{read-elapses, same-then}
use Rattle.sd_rig.specs.Devices.{AgreesOutside, device_len}
use Rattle.sd_rig.specs.Puts.{filled_open}
use Rattle.sd_rig.specs.Slots.{slot, slots_len}
use Rattle.sd_rig.specs.Spans.{elapses-then, span-then}
use Rattle.sd_rig.specs.declared.twin.Twin.{Twin}
use Rattle.sd_state.specs.Complexes.{parts}
use Rattle.sd_state.specs.Images.{Stands}
use Rattle.sd_state.specs.Parts.{Parts, epoch_at}
use Rattle.sd_state.specs.Values.{Pending}
use Rattle.sd_state.proofs.Items.{item-is}
use Rattle.sd_state.proofs.LockReads.{unchanged-good, unchanged-stands}
use Rattle.sd_chain.specs.Images.{Keeps}
use Rattle.sd_ckpt.specs.Laws.{with_either}
use Rattle.sd_ckpt.specs.Masters.{IsMasterOr, IsMasterPut, next_master, with_master}
use Rattle.sd_ckpt.specs.Readings.{ReadsAlike, storage_by}
use Rattle.sd_ckpt.proofs.MasterCalls.{both-ok, count-fits, good-by, next-by, not-unread, slots-fit}
use Rattle.sd_ckpt.proofs.master.put_master.Goals as goal

-- what holds of a call that is this error
err-by : {T E : Type 0} (r : Result T E) (e : E) (P : Type 0) → r ≡ Err e → OnErr r P → P
err-by (Ok x) e P is h = absurd (cc)
err-by (Err x) e P is h = h

pub choose-requires-clause-range : goal.choose-requires-clause-range
choose-requires-clause-range g c =
    subst (λ (t : Twin). t.at + slots_len t.body ≤ device_len t.dev) (sym c.twin_of.ensures) (slots-fit c.args.i)

pub overflow_add-count : goal.overflow_add-count
overflow_add-count g c =
    let r = g.G.Rig in
    let laws = g.met.G.Rig in
    let old = c.args.c.now.rig in
    let read = c.choose.new.rig in
    let p : Parts = parts c.args.c.now in
    let i : ℕ = c.args.i in
    let low : 1 ≤ i = c.keeps.ensures.low in
    let high : i ≤ 8 = c.keeps.ensures.high in
    let small = count-fits i c.count_of-count.result (r.seen old)
    (r.leaves old) p c.twin_of.result c.in-Ok.chosen c.choose.new.out
    (c.requires.good.1.settled i low high c.requires.may.settled) c.requires.may.count c.twin_of.ensures c.count_of-count.ensures
    c.in-Ok.ensures.body in
    omega (arith, small)

pub put_over-requires-clause-good : goal.put_over-requires-clause-good
put_over-requires-clause-good g c =
    let r = g.G.Rig in
    let laws = g.met.G.Rig in
    let old = c.args.c.now.rig in
    let read = c.choose.new.rig in
    let p : Parts = parts c.args.c.now in
    let i : ℕ = c.args.i in
    let m : State = c.requires.good.0 in (
      m,
      unchanged-good (r.seen old) (r.seen read) (r.leaves old) (r.leaves read) (r.moment old) (r.moment read) (r.since old)
          (r.since read) c.choose.ensures.stays Pending.Idle p m c.requires.good.1 (λ d le. laws.leaves_seen read d le),
    )

pub put_over-requires-clause-idle : goal.put_over-requires-clause-idle
put_over-requires-clause-idle g c =
    c.requires.idle

pub put_over-requires-clause-may : goal.put_over-requires-clause-may
put_over-requires-clause-may g c =
    c.requires.may

pub put_over-requires-clause-next : goal.put_over-requires-clause-next
put_over-requires-clause-next g c =
    let r = g.G.Rig in
    let laws = g.met.G.Rig in
    let old = c.args.c.now.rig in
    let read = c.choose.new.rig in
    let p : Parts = parts c.args.c.now in
    let i : ℕ = c.args.i in
    let low : 1 ≤ i = c.keeps.ensures.low in
    let high : i ≤ 8 = c.keeps.ensures.high in
    let epoch : ℕ = c.index-epoch.result.now in
    let place : c.get.result - 1 ≡ i - 1 = ap (λ (n : ℕ). n - 1) c.get.ensures.value in
    let epoch-is : epoch_at p i ≡ epoch = item-is 0 p.epochs i epoch low high c.requires.good.1.shape.epochs
    (c.index-epoch.ensures ∙ ap (λ (n : ℕ). get_or p.epochs n epoch) place) in
    let n : ℕ = c.count_of-count.result in
    let made : Master = record { count = n + 1; log_area = 0; epoch = epoch; check = c.args.check; start = c.args.start } in
    let is : made ≡ next_master (epoch_at p i) c.args.check c.args.start (master (r.seen old i)) =
    next-by i c.args.check c.args.start epoch (epoch_at p i) n
    (r.seen old) c.twin_of.result c.in-Ok.chosen c.choose.new.out c.twin_of.ensures
    c.count_of-count.ensures c.in-Ok.ensures.body epoch-is in
    is ∙ ap (λ (b : List ℕ). next_master (epoch_at p i) c.args.check c.args.start (master b))
    (sym (c.choose.ensures.stays.reads i))

pub put_over-requires-clause-chosen : goal.put_over-requires-clause-chosen
put_over-requires-clause-chosen g c =
    let r = g.G.Rig in
    let laws = g.met.G.Rig in
    let old = c.args.c.now.rig in
    let read = c.choose.new.rig in
    let p : Parts = parts c.args.c.now in
    let i : ℕ = c.args.i in
    ap (chosen_slot 0 64) (c.choose.ensures.stays.reads i)
    ∙ sym (subst (λ (t : Twin). slot c.in-Ok.chosen ≡ chosen_slot t.at t.body
    (r.seen old t.dev)) c.twin_of.ensures c.in-Ok.ensures.chosen)

pub returns-in-Err-clause-good : goal.returns-in-Err-clause-good
returns-in-Err-clause-good g c ne m good =
    let r = g.G.Rig in
    let laws = g.met.G.Rig in
    let old = c.args.c.now.rig in
    let read = c.choose.new.rig in
    let p : Parts = parts c.args.c.now in
    let i : ℕ = c.args.i in
    unchanged-good (r.seen old) (r.seen read) (r.leaves old) (r.leaves read) (r.moment old) (r.moment read) (r.since old)
    (r.since read) c.choose.ensures.stays Pending.Idle p m good (λ d le. laws.leaves_seen read d le)

pub returns-in-Err-clause-images : goal.returns-in-Err-clause-images
returns-in-Err-clause-images g c m good =
    let r = g.G.Rig in
    let laws = g.met.G.Rig in
    let old = c.args.c.now.rig in
    let read = c.choose.new.rig in
    let p : Parts = parts c.args.c.now in
    let i : ℕ = c.args.i in
    unchanged-stands (r.seen old) (r.seen read) (r.leaves old) (r.leaves read) (r.moment old) (r.moment read) (r.since old)
    (r.since read) c.choose.ensures.stays Pending.Idle p m good (λ img since. laws.only_now old img since)

pub returns-in-Err-clause-unread : goal.returns-in-Err-clause-unread
returns-in-Err-clause-unread g c e =
    (refl, c.choose.ensures.stays.reads)

pub returns-in-Err-clause-left : goal.returns-in-Err-clause-left
returns-in-Err-clause-left g c bytes l =
    let r = g.G.Rig in
    let laws = g.met.G.Rig in
    let old = c.args.c.now.rig in
    let read = c.choose.new.rig in
    let p : Parts = parts c.args.c.now in
    let i : ℕ = c.args.i in
    let low : 1 ≤ i = c.keeps.ensures.low in
    let high : i ≤ 8 = c.keeps.ensures.high in
    let settled = c.requires.good.1.settled i low high c.requires.may.settled in
    inl (ap master ((settled.only bytes).0 ((c.choose.ensures.stays.outcomes i bytes).0 l)))

pub returns-in-Err-clause-outside : goal.returns-in-Err-clause-outside
returns-in-Err-clause-outside g c =
    let r = g.G.Rig in
    let laws = g.met.G.Rig in
    let old = c.args.c.now.rig in
    let read = c.choose.new.rig in
    let p : Parts = parts c.args.c.now in
    let i : ℕ = c.args.i in
    subst (AgreesOutside 0 130 (r.seen old i)) (sym (c.choose.ensures.stays.reads i))
    (record { size = refl; before = refl; behind = refl })

pub returns-clause-good : goal.returns-clause-good
returns-clause-good g c ne m good =
    let r = g.G.Rig in
    let laws = g.met.G.Rig in
    let old = c.args.c.now.rig in
    let read = c.choose.new.rig in
    let p : Parts = parts c.args.c.now in
    let i : ℕ = c.args.i in
    good-by c.put_over.result _ c.put_over.ensures.only ne c.put_over.ensures.good m
    (unchanged-good (r.seen old) (r.seen read) (r.leaves old) (r.leaves read) (r.moment old) (r.moment read) (r.since old)
    (r.since read) c.choose.ensures.stays Pending.Idle p m good (λ d le. laws.leaves_seen read d le))

pub returns-clause-good_fallen : goal.returns-clause-good_fallen
returns-clause-good_fallen g c e m good =
    let r = g.G.Rig in
    let laws = g.met.G.Rig in
    let old = c.args.c.now.rig in
    let read = c.choose.new.rig in
    let p : Parts = parts c.args.c.now in
    let i : ℕ = c.args.i in
    err-by c.put_over.result _ _ e c.put_over.ensures.good_fallen m
    (unchanged-good (r.seen old) (r.seen read) (r.leaves old) (r.leaves read) (r.moment old) (r.moment read) (r.since old)
    (r.since read) c.choose.ensures.stays Pending.Idle p m good (λ d le. laws.leaves_seen read d le))

pub returns-clause-images : goal.returns-clause-images
returns-clause-images g c m good =
    let r = g.G.Rig in
    let laws = g.met.G.Rig in
    let old = c.args.c.now.rig in
    let read = c.choose.new.rig in
    let p : Parts = parts c.args.c.now in
    let i : ℕ = c.args.i in
    let new = c.put_over.new.c.rig in
    span-then (r.moment old) (r.moment read) (r.moment new) (r.since read) (r.since new) (Stands m Pending.Idle)
    (read-elapses (r.seen old) (r.seen read) (r.leaves old) (r.leaves read) (r.moment old) (r.moment read) (r.since old)
    (r.since read) c.choose.ensures.stays).later c.put_over.ensures.time
    (unchanged-stands (r.seen old) (r.seen read) (r.leaves old) (r.leaves read) (r.moment old) (r.moment read) (r.since old)
    (r.since read) c.choose.ensures.stays Pending.Idle p m good (λ img since. laws.only_now old img since))
    (c.put_over.ensures.images m
    (unchanged-good (r.seen old) (r.seen read) (r.leaves old) (r.leaves read) (r.moment old) (r.moment read) (r.since old)
    (r.since read) c.choose.ensures.stays Pending.Idle p m good (λ d le. laws.leaves_seen read d le)))

pub returns-clause-time : goal.returns-clause-time
returns-clause-time g c =
    let r = g.G.Rig in
    let laws = g.met.G.Rig in
    let old = c.args.c.now.rig in
    let read = c.choose.new.rig in
    let p : Parts = parts c.args.c.now in
    let i : ℕ = c.args.i in
    let new = c.put_over.new.c.rig in
    elapses-then (r.moment old) (r.moment read) (r.moment new) (r.since old) (r.since read) (r.since new)
    (λ t u img le s. laws.earlier new t u img le s)
    (read-elapses (r.seen old) (r.seen read) (r.leaves old) (r.leaves read) (r.moment old) (r.moment read) (r.since old)
    (r.since read) c.choose.ensures.stays)
    c.put_over.ensures.time

pub returns-clause-put : goal.returns-clause-put
returns-clause-put g c =
    let r = g.G.Rig in
    let laws = g.met.G.Rig in
    let old = c.args.c.now.rig in
    let read = c.choose.new.rig in
    let p : Parts = parts c.args.c.now in
    let i : ℕ = c.args.i in
    both-ok c.put_over.result _ _ _ (λ put done. put ∙ ap (λ (x : Master). with_master i c.args.start x.count p) (sym done.says))
    c.put_over.ensures.put c.put_over.ensures.master

pub returns-clause-master : goal.returns-clause-master
returns-clause-master g c =
    let r = g.G.Rig in
    let laws = g.met.G.Rig in
    let old = c.args.c.now.rig in
    let read = c.choose.new.rig in
    let p : Parts = parts c.args.c.now in
    let i : ℕ = c.args.i in
    let low : 1 ≤ i = c.keeps.ensures.low in
    let high : i ≤ 8 = c.keeps.ensures.high in
    let new = c.put_over.new.c.rig in
    let epoch : ℕ = c.index-epoch.result.now in
    let place : c.get.result - 1 ≡ i - 1 = ap (λ (n : ℕ). n - 1) c.get.ensures.value in
    let epoch-is : epoch_at p i ≡ epoch = item-is 0 p.epochs i epoch low high c.requires.good.1.shape.epochs
    (c.index-epoch.ensures ∙ ap (λ (n : ℕ). get_or p.epochs n epoch) place) in
    let n : ℕ = c.count_of-count.result in
    let made : Master = record { count = n + 1; log_area = 0; epoch = epoch; check = c.args.check; start = c.args.start } in
    let is : made ≡ next_master (epoch_at p i) c.args.check c.args.start (master (r.seen old i)) =
    next-by i c.args.check c.args.start epoch (epoch_at p i) n
    (r.seen old) c.twin_of.result c.in-Ok.chosen c.choose.new.out c.twin_of.ensures
    c.count_of-count.ensures c.in-Ok.ensures.body epoch-is in
    subst (λ (x : Master). OnOk c.put_over.result (IsMasterPut x (r.seen new i) (r.leaves new i))) is c.put_over.ensures.master

pub returns-clause-unread : goal.returns-clause-unread
returns-clause-unread g c e =
    absurd (not-unread c.put_over.result c.put_over.ensures.only e)

pub returns-clause-fallen : goal.returns-clause-fallen
returns-clause-fallen g c e =
    err-by c.put_over.result _ _ e c.put_over.ensures.fallen

pub returns-clause-falls : goal.returns-clause-falls
returns-clause-falls g c e =
    err-by c.put_over.result _ _ e c.put_over.ensures.falls

pub returns-clause-rows : goal.returns-clause-rows
returns-clause-rows g c e =
    err-by c.put_over.result _ _ e c.put_over.ensures.rows

pub returns-clause-left : goal.returns-clause-left
returns-clause-left g c bytes l =
    let r = g.G.Rig in
    let laws = g.met.G.Rig in
    let old = c.args.c.now.rig in
    let read = c.choose.new.rig in
    let p : Parts = parts c.args.c.now in
    let i : ℕ = c.args.i in
    let low : 1 ≤ i = c.keeps.ensures.low in
    let high : i ≤ 8 = c.keeps.ensures.high in
    let epoch : ℕ = c.index-epoch.result.now in
    let place : c.get.result - 1 ≡ i - 1 = ap (λ (n : ℕ). n - 1) c.get.ensures.value in
    let epoch-is : epoch_at p i ≡ epoch = item-is 0 p.epochs i epoch low high c.requires.good.1.shape.epochs
    (c.index-epoch.ensures ∙ ap (λ (n : ℕ). get_or p.epochs n epoch) place) in
    let n : ℕ = c.count_of-count.result in
    let made : Master = record { count = n + 1; log_area = 0; epoch = epoch; check = c.args.check; start = c.args.start } in
    let is : made ≡ next_master (epoch_at p i) c.args.check c.args.start (master (r.seen old i)) =
    next-by i c.args.check c.args.start epoch (epoch_at p i) n
    (r.seen old) c.twin_of.result c.in-Ok.chosen c.choose.new.out c.twin_of.ensures
    c.count_of-count.ensures c.in-Ok.ensures.body epoch-is in
    subst (λ (x : Master). IsMasterOr x (r.seen old i) bytes) is
    (subst (λ (b : List ℕ). IsMasterOr made b bytes) (c.choose.ensures.stays.reads i) (c.put_over.ensures.left bytes l))

pub returns-clause-outside : goal.returns-clause-outside
returns-clause-outside g c =
    let r = g.G.Rig in
    let laws = g.met.G.Rig in
    let old = c.args.c.now.rig in
    let read = c.choose.new.rig in
    let p : Parts = parts c.args.c.now in
    let i : ℕ = c.args.i in
    let new = c.put_over.new.c.rig in
    subst (λ (b : List ℕ). AgreesOutside 0 130 b (r.seen new i)) (c.choose.ensures.stays.reads i) c.put_over.ensures.outside

pub returns-clause-others : goal.returns-clause-others
returns-clause-others g c d ne =
    c.put_over.ensures.others d ne ∙ c.choose.ensures.stays.reads d

pub returns-clause-others_leave : goal.returns-clause-others_leave
returns-clause-others_leave g c d ne =
    let r = g.G.Rig in
    let laws = g.met.G.Rig in
    let old = c.args.c.now.rig in
    let read = c.choose.new.rig in
    let p : Parts = parts c.args.c.now in
    let i : ℕ = c.args.i in
    let new = c.put_over.new.c.rig in
    same-then (r.leaves old d) (r.leaves read d) (r.leaves new d) (c.choose.ensures.stays.outcomes d)
    (c.put_over.ensures.others_leave d ne)

pub returns-clause-tick : goal.returns-clause-tick
returns-clause-tick g c =
    let r = g.G.Rig in
    let laws = g.met.G.Rig in
    let old = c.args.c.now.rig in
    let read = c.choose.new.rig in
    let p : Parts = parts c.args.c.now in
    let i : ℕ = c.args.i in
    let new = c.put_over.new.c.rig in
    subst (λ (b : List ℕ). OnOk c.put_over.result
    (r.moment new ≡ r.moment old + (if filled_open (chosen_slot 0 64 b) then 6 else 4)))
    (c.choose.ensures.stays.reads i)
    (subst (λ (t : ℕ). OnOk c.put_over.result
    (r.moment new ≡ t + (if filled_open (chosen_slot 0 64 (r.seen read i)) then 6 else 4)))
    c.choose.ensures.stays.clock c.put_over.ensures.tick)

pub returns-clause-cause : goal.returns-clause-cause
returns-clause-cause g c =
    let r = g.G.Rig in
    let laws = g.met.G.Rig in
    let old = c.args.c.now.rig in
    let read = c.choose.new.rig in
    let p : Parts = parts c.args.c.now in
    let i : ℕ = c.args.i in
    let new = c.put_over.new.c.rig in
    subst (λ (n : ℕ). OnErr c.put_over.result (Rises n (r.faults new))) c.in-Ok.ensures.quiet c.put_over.ensures.cause

pub returns-clause-quiet : goal.returns-clause-quiet
returns-clause-quiet g c =
    let r = g.G.Rig in
    let laws = g.met.G.Rig in
    let old = c.args.c.now.rig in
    let read = c.choose.new.rig in
    let p : Parts = parts c.args.c.now in
    let i : ℕ = c.args.i in
    let new = c.put_over.new.c.rig in
    subst (λ (n : ℕ). OnOk c.put_over.result (r.faults new ≡ n)) c.in-Ok.ensures.quiet c.put_over.ensures.quiet

pub returns-clause-count : goal.returns-clause-count
returns-clause-count g c =
    let r = g.G.Rig in
    let laws = g.met.G.Rig in
    let old = c.args.c.now.rig in
    let read = c.choose.new.rig in
    let p : Parts = parts c.args.c.now in
    let i : ℕ = c.args.i in
    let new = c.put_over.new.c.rig in
    subst (λ (n : ℕ). n ≤ r.faults new) c.in-Ok.ensures.quiet c.put_over.ensures.count

pub returns-clause-good_either : goal.returns-clause-good_either
returns-clause-good_either g c e m good =
    let r = g.G.Rig in
    let laws = g.met.G.Rig in
    let old = c.args.c.now.rig in
    let read = c.choose.new.rig in
    let p : Parts = parts c.args.c.now in
    err-by c.put_over.result _ _ e c.put_over.ensures.good_either m
    (unchanged-good (r.seen old) (r.seen read) (r.leaves old) (r.leaves read) (r.moment old) (r.moment read) (r.since old)
    (r.since read) c.choose.ensures.stays Pending.Idle p m good (λ d le. laws.leaves_seen read d le))

pub returns-clause-alike : goal.returns-clause-alike
returns-clause-alike g c =
    let r = g.G.Rig in
    let old = c.args.c.now.rig in
    let read = c.choose.new.rig in
    let new = c.put_over.new.c in
    let p : Parts = parts c.args.c.now in
    subst (λ (b : List ℕ). OnOk c.put_over.result ((moved keeps : Keeps) → ReadsAlike (storage_by (λ d. b) p moved keeps)
    (storage_by (r.seen new.rig) (parts new) moved keeps))) (c.choose.ensures.stays.reads 0) c.put_over.ensures.alike

pub returns-clause-alike_either : goal.returns-clause-alike_either
returns-clause-alike_either g c e =
    let r = g.G.Rig in
    let old = c.args.c.now.rig in
    let read = c.choose.new.rig in
    let new = c.put_over.new.c in
    let p : Parts = parts c.args.c.now in
    subst (λ (b : List ℕ). (moved keeps : Keeps) → ReadsAlike (storage_by (λ d. b) p moved keeps)
    (storage_by (r.seen new.rig) (with_either c.args.i c.args.start p) moved keeps)) (c.choose.ensures.stays.reads 0)
    (err-by c.put_over.result _ _ e c.put_over.ensures.alike_either)
