use Rattle.std.proofs.Common.{◌≡◌, inr, ℕ, ◌+◌, ◌≤◌, List, [], ◌∷◌, refl, sym, ap, ◌∙◌, subst, arith}
use Rattle.sd_model.specs.State.{State}
use Rattle.sd_log.specs.Logs.{LogState}
use Rattle.sd_logrec.specs.declared.record.Record.{Record}
use Rattle.sd_rig.specs.Devices.{Elapses, LeavesSame, Span}
use Rattle.sd_rig.specs.Spans.{elapses-then, span-then}
use Rattle.sd_state.specs.Complexes.{parts}
use Rattle.sd_state.specs.Forcing.{KeepMasters}
use Rattle.sd_state.specs.Good.{Good}
use Rattle.sd_state.specs.Images.{Stands}
use Rattle.sd_state.specs.Parts.{Parts, log_at, owed_at, status_at}
use Rattle.std.specs.Prelude.{Some}
use Rattle.sd_update.specs.Undoing.{HasUndone, clr_at}
use Rattle.sd_state.specs.Values.{Pending}
use Rattle.sd_update.proofs.UndoneForCalls.{own-forced, own-owes, some-tail}
use Rattle.sd_state.proofs.Masters.{masters-then}
use Rattle.sd_update.proofs.loser_undo.undo_forced.Goals as goal

pub returns-in_err-force_log-clause-good : goal.returns-in_err-force_log-clause-good
returns-in_err-force_log-clause-good g c m good = c.force_log.ensures.good Pending.Idle m good

pub returns-in_err-force_log-clause-images : goal.returns-in_err-force_log-clause-images
returns-in_err-force_log-clause-images g c m good = c.force_log.ensures.images Pending.Idle m good

pub undo_due-requires-clause-good : goal.undo_due-requires-clause-good
undo_due-requires-clause-good g c = (c.requires.good.0, c.force_log.ensures.good Pending.Idle c.requires.good.0 c.requires.good.1)

pub undo_due-requires-clause-own : goal.undo_due-requires-clause-own
undo_due-requires-clause-own g c =
    let p : Parts = parts c.args.c.now in
    let a : ℕ = c.args.by in
    let new : Parts = parts c.force_log.new.self in
    let low : 1 ≤ a = c.keeps.ensures.low in
    let high : a ≤ 8 = c.keeps.ensures.high in
    own-forced a (owed_at new a) p new c.requires.good.1.shape low high (c.in_ok-force_log.ensures.forced c.requires.may.own_settled)

pub returns-in_err-undo_due-clause-good : goal.returns-in_err-undo_due-clause-good
returns-in_err-undo_due-clause-good g c m good =
    let r = g.G.Rig in
    let rig = c.force_log.new.self.rig in
    subst (λ x. Good (r.seen x) (r.leaves x) Pending.Idle (parts c.undo_due.new.c) m) (sym c.undo_due.ensures.rig)
    (subst (λ (q : Parts). Good (r.seen rig) (r.leaves rig) Pending.Idle q m) (sym c.in_err-undo_due.ensures.err)
    (c.force_log.ensures.good Pending.Idle m good))

pub returns-in_err-undo_due-clause-images : goal.returns-in_err-undo_due-clause-images
returns-in_err-undo_due-clause-images g c m good =
    let r = g.G.Rig in
    subst (λ x. Span (r.moment c.args.c.now.rig) (r.since x) (Stands m Pending.Idle)) (sym c.undo_due.ensures.rig)
    (c.force_log.ensures.images Pending.Idle m good)

pub force_settled-requires-clause-good : goal.force_settled-requires-clause-good
force_settled-requires-clause-good g c =
    let m : State = c.requires.good.0 in
    let good = c.requires.good.1 in
    let r = g.G.Rig in
    let mid : Good (r.seen c.undo_due.new.c.rig) (r.leaves c.undo_due.new.c.rig) Pending.Idle (parts c.undo_due.new.c) m =
    subst (λ x. Good (r.seen x) (r.leaves x) Pending.Idle (parts c.undo_due.new.c) m) (sym c.undo_due.ensures.rig)
    (c.in_ok-undo_due.ensures.good m (c.force_log.ensures.good Pending.Idle m good)) in
    (Pending.Idle, m, mid)

pub force_settled-requires-clause-now : goal.force_settled-requires-clause-now
force_settled-requires-clause-now g c =
    let i : ℕ = c.args.t.now.inst in
    let made = c.in_ok-undo_due.ensures.made in
    let is = c.in_ok-force_log.ensures.forced c.requires.may.own_settled in
    inr (
      c.args.by,
      ap (λ (q : Parts). status_at q i) made.rest ∙ ap (λ (q : Parts). status_at q i) is ∙ c.requires.may.recovers,
      ap (λ (q : Parts). q.due) made.rest,
    )

pub returns-in_err-force_settled-clause-good : goal.returns-in_err-force_settled-clause-good
returns-in_err-force_settled-clause-good g c m good =
    let r = g.G.Rig in
    let mid : Good (r.seen c.undo_due.new.c.rig) (r.leaves c.undo_due.new.c.rig) Pending.Idle (parts c.undo_due.new.c) m =
    subst (λ x. Good (r.seen x) (r.leaves x) Pending.Idle (parts c.undo_due.new.c) m) (sym c.undo_due.ensures.rig)
    (c.in_ok-undo_due.ensures.good m (c.force_log.ensures.good Pending.Idle m good)) in
    c.force_settled.ensures.good Pending.Idle m mid

pub returns-in_err-force_settled-clause-images : goal.returns-in_err-force_settled-clause-images
returns-in_err-force_settled-clause-images g c m good =
    let r = g.G.Rig in
    let mid : Good (r.seen c.undo_due.new.c.rig) (r.leaves c.undo_due.new.c.rig) Pending.Idle (parts c.undo_due.new.c) m =
    subst (λ x. Good (r.seen x) (r.leaves x) Pending.Idle (parts c.undo_due.new.c) m) (sym c.undo_due.ensures.rig)
    (c.in_ok-undo_due.ensures.good m (c.force_log.ensures.good Pending.Idle m good)) in
    let old = c.args.c.now.rig in
    let two = c.undo_due.new.c.rig in
    let three = c.force_settled.new.self.rig in
    let time : Elapses (r.moment old) (r.moment two) (r.since old) (r.since two) =
    subst (λ x. Elapses (r.moment old) (r.moment x) (r.since old) (r.since x)) (sym c.undo_due.ensures.rig) c.force_log.ensures.time in
    span-then (r.moment old) (r.moment two) (r.moment three) (r.since two) (r.since three) (Stands m Pending.Idle) time.later
    c.force_settled.ensures.time
    (subst (λ x. Span (r.moment old) (r.since x) (Stands m Pending.Idle)) (sym c.undo_due.ensures.rig)
    (c.force_log.ensures.images Pending.Idle m good))
    (c.force_settled.ensures.images Pending.Idle m mid)

pub returns-in_err-force_settled-clause-time : goal.returns-in_err-force_settled-clause-time
returns-in_err-force_settled-clause-time g c =
    let r = g.G.Rig in
    let old = c.args.c.now.rig in
    let two = c.undo_due.new.c.rig in
    let three = c.force_settled.new.self.rig in
    let time : Elapses (r.moment old) (r.moment two) (r.since old) (r.since two) =
    subst (λ x. Elapses (r.moment old) (r.moment x) (r.since old) (r.since x)) (sym c.undo_due.ensures.rig) c.force_log.ensures.time in
    elapses-then _ _ _ _ (r.since two) _ (λ t u img le since. g.met.G.Rig.earlier three t u img le since) time
    c.force_settled.ensures.time

pub returns-clause-good : goal.returns-clause-good
returns-clause-good g c m good =
    let r = g.G.Rig in
    let mid : Good (r.seen c.undo_due.new.c.rig) (r.leaves c.undo_due.new.c.rig) Pending.Idle (parts c.undo_due.new.c) m =
    subst (λ x. Good (r.seen x) (r.leaves x) Pending.Idle (parts c.undo_due.new.c) m) (sym c.undo_due.ensures.rig)
    (c.in_ok-undo_due.ensures.good m (c.force_log.ensures.good Pending.Idle m good)) in
    c.force_settled.ensures.good Pending.Idle m mid

pub returns-clause-images : goal.returns-clause-images
returns-clause-images g c m good =
    let r = g.G.Rig in
    let mid : Good (r.seen c.undo_due.new.c.rig) (r.leaves c.undo_due.new.c.rig) Pending.Idle (parts c.undo_due.new.c) m =
    subst (λ x. Good (r.seen x) (r.leaves x) Pending.Idle (parts c.undo_due.new.c) m) (sym c.undo_due.ensures.rig)
    (c.in_ok-undo_due.ensures.good m (c.force_log.ensures.good Pending.Idle m good)) in
    let old = c.args.c.now.rig in
    let two = c.undo_due.new.c.rig in
    let three = c.force_settled.new.self.rig in
    let time : Elapses (r.moment old) (r.moment two) (r.since old) (r.since two) =
    subst (λ x. Elapses (r.moment old) (r.moment x) (r.since old) (r.since x)) (sym c.undo_due.ensures.rig) c.force_log.ensures.time in
    span-then (r.moment old) (r.moment two) (r.moment three) (r.since two) (r.since three) (Stands m Pending.Idle) time.later
    c.force_settled.ensures.time
    (subst (λ x. Span (r.moment old) (r.since x) (Stands m Pending.Idle)) (sym c.undo_due.ensures.rig)
    (c.force_log.ensures.images Pending.Idle m good))
    (c.force_settled.ensures.images Pending.Idle m mid)

pub returns-clause-time : goal.returns-clause-time
returns-clause-time g c =
    let r = g.G.Rig in
    let old = c.args.c.now.rig in
    let two = c.undo_due.new.c.rig in
    let three = c.force_settled.new.self.rig in
    let time : Elapses (r.moment old) (r.moment two) (r.since old) (r.since two) =
    subst (λ x. Elapses (r.moment old) (r.moment x) (r.since old) (r.since x)) (sym c.undo_due.ensures.rig) c.force_log.ensures.time in
    elapses-then _ _ _ _ (r.since two) _ (λ t u img le since. g.met.G.Rig.earlier three t u img le since) time
    c.force_settled.ensures.time

other : (i : ℕ) → 1 ≤ i → 0 ≡ i → ⊥
other i low e = absurd (omega (arith, low, e))

pub returns-in_err-force_log-clause-disk : goal.returns-in_err-force_log-clause-disk
returns-in_err-force_log-clause-disk g c =
    let low : 1 ≤ c.args.by = c.keeps.ensures.low in
    c.force_log.ensures.others 0 (other c.args.by low)

pub returns-in_err-undo_due-clause-disk : goal.returns-in_err-undo_due-clause-disk
returns-in_err-undo_due-clause-disk g c =
    let low : 1 ≤ c.args.by = c.keeps.ensures.low in
    ap (λ x. g.G.Rig.seen x 0) c.undo_due.ensures.rig ∙ c.force_log.ensures.others 0 (other c.args.by low)

pub returns-in_err-force_settled-clause-disk : goal.returns-in_err-force_settled-clause-disk
returns-in_err-force_settled-clause-disk g c =
    let low : 1 ≤ c.args.by = c.keeps.ensures.low in
    let home_low : 1 ≤ c.args.t.now.inst = c.keeps-2.ensures.low in
    c.force_settled.ensures.others 0 (other c.args.t.now.inst home_low)
    ∙ ap (λ x. g.G.Rig.seen x 0) c.undo_due.ensures.rig ∙ c.force_log.ensures.others 0 (other c.args.by low)

pub returns-clause-disk : goal.returns-clause-disk
returns-clause-disk g c =
    let low : 1 ≤ c.args.by = c.keeps.ensures.low in
    let home_low : 1 ≤ c.args.t.now.inst = c.keeps-2.ensures.low in
    c.force_settled.ensures.others 0 (other c.args.t.now.inst home_low)
    ∙ ap (λ x. g.G.Rig.seen x 0) c.undo_due.ensures.rig ∙ c.force_log.ensures.others 0 (other c.args.by low)

pub returns-in_err-force_settled-clause-left : goal.returns-in_err-force_settled-clause-left
returns-in_err-force_settled-clause-left g c = λ e.
    let old : Parts = parts c.args.c.now in
    let own : Parts = parts c.force_log.new.self in
    let a : ℕ = c.args.by in
    let rig = c.force_log.new.self.rig in
    let m : State = c.requires.good.0 in
    let low : 1 ≤ a = c.keeps.ensures.low in
    let high : a ≤ 8 = c.keeps.ensures.high in
    let is = c.in_ok-force_log.ensures.forced c.requires.may.own_settled in
    inr (record {
      owes = owed_at own a;
      owes_is = own-owes a (g.G.Rig.seen rig) (g.G.Rig.leaves rig) old own m (c.force_log.ensures.good Pending.Idle m c.requires.good.1)
          c.requires.good.1.shape low high c.requires.may.own_settled is;
      between = parts c.undo_due.new.c;
      undone = subst (λ (q : Parts). HasUndone a (Some (a, c.args.t.now.inst)) c.args.t.now q (parts c.undo_due.new.c)) is
          c.in_ok-undo_due.ensures.made;
      failed = c.in_err-force_settled.ensures.failed;
    })

pub returns-clause-undone : goal.returns-clause-undone
returns-clause-undone g c =
    let old : Parts = parts c.args.c.now in
    let own : Parts = parts c.force_log.new.self in
    let a : ℕ = c.args.by in
    let rig = c.force_log.new.self.rig in
    let m : State = c.requires.good.0 in
    let low : 1 ≤ a = c.keeps.ensures.low in
    let high : a ≤ 8 = c.keeps.ensures.high in
    let is = c.in_ok-force_log.ensures.forced c.requires.may.own_settled in
    record {
      owes = owed_at own a;
      owes_is = own-owes a (g.G.Rig.seen rig) (g.G.Rig.leaves rig) old own m (c.force_log.ensures.good Pending.Idle m c.requires.good.1)
          c.requires.good.1.shape low high c.requires.may.own_settled is;
      between = parts c.undo_due.new.c;
      undone = subst (λ (q : Parts). HasUndone a (Some (a, c.args.t.now.inst)) c.args.t.now q (parts c.undo_due.new.c)) is
          c.in_ok-undo_due.ensures.made;
      forced = c.in_ok-force_settled.ensures.forced;
    }

pub returns-in_err-force_settled-clause-masters : goal.returns-in_err-force_settled-clause-masters
returns-in_err-force_settled-clause-masters g c =
    let r = g.G.Rig in
    let mid = c.undo_due.new.c.rig in
    masters-then (r.leaves c.args.c.now.rig) (r.leaves mid) (r.leaves c.force_settled.new.self.rig)
    (subst (λ x. KeepMasters (r.leaves c.args.c.now.rig) (r.leaves x)) (sym c.undo_due.ensures.rig) (c.force_log.ensures.masters))
    c.force_settled.ensures.masters

pub returns-clause-masters : goal.returns-clause-masters
returns-clause-masters g c =
    let r = g.G.Rig in
    let mid = c.undo_due.new.c.rig in
    masters-then (r.leaves c.args.c.now.rig) (r.leaves mid) (r.leaves c.force_settled.new.self.rig)
    (subst (λ x. KeepMasters (r.leaves c.args.c.now.rig) (r.leaves x)) (sym c.undo_due.ensures.rig) (c.force_log.ensures.masters))
    c.force_settled.ensures.masters

pub returns-in_err-undo_due-clause-masters : goal.returns-in_err-undo_due-clause-masters
returns-in_err-undo_due-clause-masters g c =
    let r = g.G.Rig in
    subst (λ x. KeepMasters (r.leaves c.args.c.now.rig) (r.leaves x)) (sym c.undo_due.ensures.rig) (c.force_log.ensures.masters)

-- ---- the other devices, and how many calls there are

pub returns-in_err-force_log-clause-others : goal.returns-in_err-force_log-clause-others
returns-in_err-force_log-clause-others g c d ne home = c.force_log.ensures.others d ne

pub returns-in_err-undo_due-clause-others : goal.returns-in_err-undo_due-clause-others
returns-in_err-undo_due-clause-others g c d ne home = ap (λ x. g.G.Rig.seen x d) c.undo_due.ensures.rig ∙ c.force_log.ensures.others d ne

pub returns-in_err-force_settled-clause-others : goal.returns-in_err-force_settled-clause-others
returns-in_err-force_settled-clause-others g c d ne home = c.force_settled.ensures.others d home
    ∙ ap (λ x. g.G.Rig.seen x d) c.undo_due.ensures.rig ∙ c.force_log.ensures.others d ne

pub returns-clause-others : goal.returns-clause-others
returns-clause-others g c d ne home = c.force_settled.ensures.others d home
    ∙ ap (λ x. g.G.Rig.seen x d) c.undo_due.ensures.rig ∙ c.force_log.ensures.others d ne

pub returns-in_err-force_log-clause-others_leave : goal.returns-in_err-force_log-clause-others_leave
returns-in_err-force_log-clause-others_leave g c d ne home = c.force_log.ensures.others_leave d ne

pub returns-in_err-undo_due-clause-others_leave : goal.returns-in_err-undo_due-clause-others_leave
returns-in_err-undo_due-clause-others_leave g c d ne home =
    let r = g.G.Rig in
    subst (λ x. LeavesSame (r.leaves c.args.c.now.rig d) (r.leaves x d)) (sym c.undo_due.ensures.rig) (c.force_log.ensures.others_leave d ne)

pub returns-in_err-force_settled-clause-others_leave : goal.returns-in_err-force_settled-clause-others_leave
returns-in_err-force_settled-clause-others_leave g c d ne home bytes =
    let r = g.G.Rig in
    let first = subst (λ x. LeavesSame (r.leaves c.args.c.now.rig d) (r.leaves x d)) (sym c.undo_due.ensures.rig)
    (c.force_log.ensures.others_leave d ne) bytes in
    let last = c.force_settled.ensures.others_leave d home bytes in
    (λ x. first.0 (last.0 x), λ x. last.1 (first.1 x))

pub returns-clause-others_leave : goal.returns-clause-others_leave
returns-clause-others_leave g c d ne home bytes =
    let r = g.G.Rig in
    let first = subst (λ x. LeavesSame (r.leaves c.args.c.now.rig d) (r.leaves x d)) (sym c.undo_due.ensures.rig)
    (c.force_log.ensures.others_leave d ne) bytes in
    let last = c.force_settled.ensures.others_leave d home bytes in
    (λ x. first.0 (last.0 x), λ x. last.1 (first.1 x))

pub returns-clause-four : goal.returns-clause-four
returns-clause-four g c none =
    let r = g.G.Rig in
    let t = c.args.t.now in
    let own : Parts = parts c.force_log.new.self in
    let made = c.in_ok-undo_due.ensures.made in
    let first = ap (λ x. r.moment x) (c.force_log.ensures.idle none).1 in
    let same = ap (λ x. r.moment x) c.undo_due.ensures.rig in
    let last = c.in_ok-force_settled.ensures.tick (λ e. some-tail (log_at own t.inst).tail (clr_at t made.x made.o made.image own)
    (sym (ap (λ (l : LogState). l.tail) made.undone.grown) ∙ e)) in
    omega (arith, first, same, last)

pub returns-clause-eight : goal.returns-clause-eight
returns-clause-eight g c some =
    let r = g.G.Rig in
    let t = c.args.t.now in
    let own : Parts = parts c.force_log.new.self in
    let made = c.in_ok-undo_due.ensures.made in
    let first = c.in_ok-force_log.ensures.tick c.requires.may.own_settled some in
    let same = ap (λ x. r.moment x) c.undo_due.ensures.rig in
    let last = c.in_ok-force_settled.ensures.tick (λ e. some-tail (log_at own t.inst).tail (clr_at t made.x made.o made.image own)
    (sym (ap (λ (l : LogState). l.tail) made.undone.grown) ∙ e)) in
    omega (arith, first, same, last)

-- four calls, or eight
at-most : (xs : List Record) (old new : ℕ) → (xs ≡ [] → new ≡ old + 4) → ((xs ≡ [] → ⊥) → new ≡ old + 8) → new ≤ old + 8
at-most [] old new four eight = let is = four refl in omega (arith, is)
at-most (x ∷ xs) old new four eight = let is = eight (λ e. absurd (cc)) in omega (arith, is)

pub returns-clause-tick : goal.returns-clause-tick
returns-clause-tick g c = at-most (log_at (parts c.args.c.now) c.args.by).tail _ _ (λ none. returns-clause-four g c none)
    (λ some. returns-clause-eight g c some)
