use Rattle.std.proofs.Common.{◌≡◌, ◌⊎◌, inl, ◌+◌, ◌∙◌, false, true, [], ◌∷◌, ◌++◌, length, refl, sym, ap, subst, arith}
use Rattle.std.proofs.lemmas.Result.{err_from_is_err_and}
use Rattle.sd_base.specs.Twin.{body_at, is_open}
use Rattle.sd_logrec.specs.Kept.{Whole, area, reading, spelled}
use Rattle.sd_rig.specs.Devices.{AgreesOutside, LeavesOnly}
use Rattle.sd_rig.specs.Spans.{span-weaker}
use Rattle.sd_log.specs.Buffers.{framed}
use Rattle.sd_rig.specs.Gates.{Fills}
use Rattle.sd_log.specs.Forces.{Forces}
use Rattle.sd_log.specs.WrittenStates.{WrittenState}
use Rattle.sd_log.specs.LogInside.{log_view}
use Rattle.sd_log.specs.Logs.{LogState, forced, forced_with, tail_group, tail_len}
use Rattle.sd_log.proofs.Counted.{closed_log}
use Rattle.sd_log.proofs.Forcing.{closed_on, either_tail, forces_of, moved, closed_forced, tailed_of, with_tail_read}
use Rattle.sd_log.proofs.Tails.{no_text, widened_log}
use Rattle.sd_log.proofs.log.Log.force.Goals as goal

pub returns-then-len-eq0-clause-tick : goal.returns-then-len-eq0-clause-tick
returns-then-len-eq0-clause-tick g c some =
    let text : c.tail-tail.result.now ≡ spelled c.args.self.now.tail = c.tail-tail.ensures ∙ ap (λ (s : LogState). spelled s.tail) c.self.view_is in
    absurd (some (no_text c.args.self.now.tail (sym (ap length text) ∙ c.if-len-eq0.true)))

pub returns-then-len-eq0-clause-any_moment : goal.returns-then-len-eq0-clause-any_moment
returns-then-len-eq0-clause-any_moment g c some =
    let text : c.tail-tail.result.now ≡ spelled c.args.self.now.tail = c.tail-tail.ensures ∙ ap (λ (s : LogState). spelled s.tail) c.self.view_is in
    absurd (some (no_text c.args.self.now.tail (sym (ap length text) ∙ c.if-len-eq0.true)))

pub write-requires-clause-closed : goal.write-requires-clause-closed
write-requires-clause-closed g c =
    let log = c.args.self.now in
    let l = c.self.inside in
    let t = tailed_of l log c.self.invariant c.self.view_is (λ none. c.if-len-eq0.false (ap length c.tail-tail.ensures ∙ none)) in
    let dev : c.get.result ≡ log.inst = c.get.ensures.value ∙ ap (λ (s : LogState). s.inst) c.self.view_is in
    let gate : c.gate-gate.result ≡ log.gate = c.gate-gate.ensures ∙ ap (λ (s : LogState). s.gate) c.self.view_is in
    let fits = t.fits in
    moved (λ d p x. is_open (130 + p) (g.G.Rig.seen c.args.rig.now d) ≡ false) log.inst log.gate [] c.get.result c.gate-gate.result [] (sym dev) (sym gate) refl
    (closed_on log (g.G.Rig.seen c.args.rig.now log.inst) (omega arith) (c.requires.stands t.some))

pub returns-in_err-write-clause-any_moment : goal.returns-in_err-write-clause-any_moment
returns-in_err-write-clause-any_moment g c some =
    let r = g.G.Rig in
    let log = c.args.self.now in
    let l = c.self.inside in
    let zero = c.args.rig.now in
    let one = c.write.new.rig in
    let t = tailed_of l log c.self.invariant c.self.view_is (λ none. c.if-len-eq0.false (ap length c.tail-tail.ensures ∙ none)) in
    let dev : c.get.result ≡ log.inst = c.get.ensures.value ∙ ap (λ (s : LogState). s.inst) c.self.view_is in
    let gate : c.gate-gate.result ≡ log.gate = c.gate-gate.ensures ∙ ap (λ (s : LogState). s.gate) c.self.view_is in
    let text : c.tail-tail.result.now ≡ spelled log.tail = c.tail-tail.ensures ∙ ap (λ (s : LogState). spelled s.tail) c.self.view_is in
    span-weaker (r.moment zero) (r.since one) (Fills c.get.result (130 + c.gate-gate.result) (5 + length c.tail-tail.result.now) (framed c.tail-tail.result.now) (r.seen zero) (r.leaves zero)) (Forces log (r.seen zero) (r.leaves zero))
    (λ img f. forces_of log (r.seen zero) (r.leaves zero) img t (c.requires.stands some)
    (moved (λ d p x. Fills d (130 + p) (5 + length x) (framed x) (r.seen zero) (r.leaves zero) img) c.get.result c.gate-gate.result c.tail-tail.result.now log.inst log.gate (spelled log.tail) dev gate text f))
    c.write.ensures.any_moment

pub returns-clause-any_moment : goal.returns-clause-any_moment
returns-clause-any_moment g c some =
    let r = g.G.Rig in
    let log = c.args.self.now in
    let l = c.self.inside in
    let zero = c.args.rig.now in
    let one = c.write.new.rig in
    let t = tailed_of l log c.self.invariant c.self.view_is (λ none. c.if-len-eq0.false (ap length c.tail-tail.ensures ∙ none)) in
    let dev : c.get.result ≡ log.inst = c.get.ensures.value ∙ ap (λ (s : LogState). s.inst) c.self.view_is in
    let gate : c.gate-gate.result ≡ log.gate = c.gate-gate.ensures ∙ ap (λ (s : LogState). s.gate) c.self.view_is in
    let text : c.tail-tail.result.now ≡ spelled log.tail = c.tail-tail.ensures ∙ ap (λ (s : LogState). spelled s.tail) c.self.view_is in
    span-weaker (r.moment zero) (r.since one) (Fills c.get.result (130 + c.gate-gate.result) (5 + length c.tail-tail.result.now) (framed c.tail-tail.result.now) (r.seen zero) (r.leaves zero)) (Forces log (r.seen zero) (r.leaves zero))
    (λ img f. forces_of log (r.seen zero) (r.leaves zero) img t (c.requires.stands some)
    (moved (λ d p x. Fills d (130 + p) (5 + length x) (framed x) (r.seen zero) (r.leaves zero) img) c.get.result c.gate-gate.result c.tail-tail.result.now log.inst log.gate (spelled log.tail) dev gate text f))
    c.write.ensures.any_moment

pub returns-in_err-write-clause-whole : goal.returns-in_err-write-clause-whole
returns-in_err-write-clause-whole g c some =
    let r = g.G.Rig in
    let log = c.args.self.now in
    let l = c.self.inside in
    let zero = c.args.rig.now in
    let one = c.write.new.rig in
    let t = tailed_of l log c.self.invariant c.self.view_is (λ none. c.if-len-eq0.false (ap length c.tail-tail.ensures ∙ none)) in
    let dev : c.get.result ≡ log.inst = c.get.ensures.value ∙ ap (λ (s : LogState). s.inst) c.self.view_is in
    let gate : c.gate-gate.result ≡ log.gate = c.gate-gate.ensures ∙ ap (λ (s : LogState). s.gate) c.self.view_is in
    let text : c.tail-tail.result.now ≡ spelled log.tail = c.tail-tail.ensures ∙ ap (λ (s : LogState). spelled s.tail) c.self.view_is in
    either_tail log (r.seen zero log.inst) (r.seen one log.inst) t (c.requires.stands some)
    (moved (λ d p x. AgreesOutside (130 + p) (5 + length x + 1) (r.seen zero d) (r.seen one d)) c.get.result c.gate-gate.result c.tail-tail.result.now log.inst log.gate (spelled log.tail) dev gate text c.write.ensures.outside)
    (moved (λ d p x. (is_open (130 + p) (r.seen one d) ≡ false) ⊎ (body_at (5 + length x) (130 + p) (r.seen one d) ≡ framed x)) c.get.result c.gate-gate.result c.tail-tail.result.now log.inst log.gate (spelled log.tail) dev gate text c.write.ensures.whole)

pub returns-clause-whole : goal.returns-clause-whole
returns-clause-whole g c some =
    let r = g.G.Rig in
    let log = c.args.self.now in
    let l = c.self.inside in
    let zero = c.args.rig.now in
    let one = c.write.new.rig in
    let t = tailed_of l log c.self.invariant c.self.view_is (λ none. c.if-len-eq0.false (ap length c.tail-tail.ensures ∙ none)) in
    let dev : c.get.result ≡ log.inst = c.get.ensures.value ∙ ap (λ (s : LogState). s.inst) c.self.view_is in
    let gate : c.gate-gate.result ≡ log.gate = c.gate-gate.ensures ∙ ap (λ (s : LogState). s.gate) c.self.view_is in
    let text : c.tail-tail.result.now ≡ spelled log.tail = c.tail-tail.ensures ∙ ap (λ (s : LogState). spelled s.tail) c.self.view_is in
    either_tail log (r.seen zero log.inst) (r.seen one log.inst) t (c.requires.stands some)
    (moved (λ d p x. AgreesOutside (130 + p) (5 + length x + 1) (r.seen zero d) (r.seen one d)) c.get.result c.gate-gate.result c.tail-tail.result.now log.inst log.gate (spelled log.tail) dev gate text c.write.ensures.outside)
    (moved (λ d p x. (is_open (130 + p) (r.seen one d) ≡ false) ⊎ (body_at (5 + length x) (130 + p) (r.seen one d) ≡ framed x)) c.get.result c.gate-gate.result c.tail-tail.result.now log.inst log.gate (spelled log.tail) dev gate text c.write.ensures.whole)

pub returns-clause-stands : goal.returns-clause-stands
returns-clause-stands g c some =
    let r = g.G.Rig in
    let log = c.args.self.now in
    let l = c.self.inside in
    let zero = c.args.rig.now in
    let one = c.write.new.rig in
    let t = tailed_of l log c.self.invariant c.self.view_is (λ none. c.if-len-eq0.false (ap length c.tail-tail.ensures ∙ none)) in
    let dev : c.get.result ≡ log.inst = c.get.ensures.value ∙ ap (λ (s : LogState). s.inst) c.self.view_is in
    let gate : c.gate-gate.result ≡ log.gate = c.gate-gate.ensures ∙ ap (λ (s : LogState). s.gate) c.self.view_is in
    let text : c.tail-tail.result.now ≡ spelled log.tail = c.tail-tail.ensures ∙ ap (λ (s : LogState). spelled s.tail) c.self.view_is in
    let filled = c.in_ok-write.ensures.filled in
    let read = with_tail_read log (r.seen zero log.inst) (r.seen one log.inst) t (c.requires.stands some)
    (moved (λ d p x. AgreesOutside (130 + p) (5 + length x + 1) (r.seen zero d) (r.seen one d)) c.get.result c.gate-gate.result c.tail-tail.result.now log.inst log.gate (spelled log.tail) dev gate text c.write.ensures.outside)
    (moved (λ d p x. is_open (130 + p) (r.seen one d) ≡ true) c.get.result c.gate-gate.result c.tail-tail.result.now log.inst log.gate (spelled log.tail) dev gate text filled.0)
    (moved (λ d p x. body_at (5 + length x) (130 + p) (r.seen one d) ≡ framed x) c.get.result c.gate-gate.result c.tail-tail.result.now log.inst log.gate (spelled log.tail) dev gate text filled.1) in
    let inside = subst (λ (s : LogState). reading s.start (area (r.seen one log.inst)) ≡ Whole (s.groups ++ tail_group s ∷ []) (s.gate + 5 + tail_len s)) (sym c.self.view_is) read in
    let len : tail_len (log_view l) ≡ length c.tail-tail.result.now = sym (ap length c.tail-tail.ensures) in
    subst (λ (j : WrittenState). reading j.start (area (r.seen one log.inst)) ≡ Whole j.groups j.gate) (sym c.close_group.ensures)
    (subst (λ n. reading l.written.start (area (r.seen one log.inst)) ≡ Whole (l.written.groups ++ tail_group (log_view l) ∷ []) (l.written.gate + 5 + n)) len inside)

pub invariant_of-self-2 : goal.invariant_of-self-2
invariant_of-self-2 g c =
    closed_log c.self.inside (length c.tail-tail.result.now) c.close_group.new.self c.write.new.self c.self.invariant record {
      written_is = c.close_group.ensures;
      len_is = ap length c.tail-tail.ensures;
      some = omega (arith, c.if-len-eq0.false);
      room = c.write.ensures.room;
    }

pub returns-then-len-eq0-clause-ok : goal.returns-then-len-eq0-clause-ok
returns-then-len-eq0-clause-ok g c =
    let text : c.tail-tail.result.now ≡ spelled c.args.self.now.tail =
    c.tail-tail.ensures ∙ ap (λ (s : LogState). spelled s.tail) c.self.view_is in
    let none : c.args.self.now.tail ≡ [] =
    no_text c.args.self.now.tail (sym (ap length text) ∙ c.if-len-eq0.true) in
    sym (ap (forced_with c.args.self.now) none)

pub returns-then-len-eq0-clause-stands : goal.returns-then-len-eq0-clause-stands
returns-then-len-eq0-clause-stands g c some =
    let text : c.tail-tail.result.now ≡ spelled c.args.self.now.tail =
    c.tail-tail.ensures ∙ ap (λ (s : LogState). spelled s.tail) c.self.view_is in
    absurd (some (no_text c.args.self.now.tail (sym (ap length text) ∙ c.if-len-eq0.true)))

pub returns-then-len-eq0-clause-durable : goal.returns-then-len-eq0-clause-durable
returns-then-len-eq0-clause-durable g c some = c.requires.stable some

pub returns-then-len-eq0-clause-whole : goal.returns-then-len-eq0-clause-whole
returns-then-len-eq0-clause-whole g c some = inl (c.requires.stands some)

pub returns-then-len-eq0-clause-outside : goal.returns-then-len-eq0-clause-outside
returns-then-len-eq0-clause-outside g c = record { size = refl; before = refl; behind = refl }

pub returns-then-len-eq0-clause-others : goal.returns-then-len-eq0-clause-others
returns-then-len-eq0-clause-others g c d other = refl

pub returns-then-len-eq0-clause-others_leave : goal.returns-then-len-eq0-clause-others_leave
returns-then-len-eq0-clause-others_leave g c d other img = (λ x. x, λ x. x)

pub returns-then-len-eq0-clause-time : goal.returns-then-len-eq0-clause-time
returns-then-len-eq0-clause-time g c = record { later = omega arith; splits = λ t img le s. inl s; keeps = λ t img le s. s }

pub returns-then-len-eq0-clause-idle : goal.returns-then-len-eq0-clause-idle
returns-then-len-eq0-clause-idle g c none = (refl, refl)

pub write-requires-clause-stable : goal.write-requires-clause-stable
write-requires-clause-stable g c =
    let r = g.G.Rig in
    let zero = c.args.rig.now in
    let t = tailed_of c.self.inside c.args.self.now c.self.invariant c.self.view_is
    (λ none. c.if-len-eq0.false (ap length c.tail-tail.ensures ∙ none)) in
    let dev : c.get.result ≡ c.args.self.now.inst = c.get.ensures.value ∙ ap (λ (s : LogState). s.inst) c.self.view_is in
    subst (λ d. LeavesOnly (r.seen zero d) (r.leaves zero d)) (sym dev) (c.requires.stable t.some)

pub invariant_of-self : goal.invariant_of-self
invariant_of-self g c =
    widened_log c.self.inside c.self.inside.written c.self.inside.pages c.write.new.self c.self.invariant
    record {
      same = refl;
      chains_is = refl;
      text_room = omega arith;
      record_room = omega arith;
      page_room = omega arith;
      buffer_room = c.write.ensures.room;
    }

pub returns-in_err-write-clause-stays : goal.returns-in_err-write-clause-stays
returns-in_err-write-clause-stays g c =
    let is = err_from_is_err_and c.from_residual.result c.from_residual.ensures.1 in
    rw is.1 c.self.view_is

pub returns-in_err-write-clause-outside : goal.returns-in_err-write-clause-outside
returns-in_err-write-clause-outside g c =
    let r = g.G.Rig in
    let log = c.args.self.now in
    let l = c.self.inside in
    let zero = c.args.rig.now in
    let one = c.write.new.rig in
    let dev : c.get.result ≡ log.inst = c.get.ensures.value ∙ ap (λ (s : LogState). s.inst) c.self.view_is in
    let gate : c.gate-gate.result ≡ log.gate = c.gate-gate.ensures ∙ ap (λ (s : LogState). s.gate) c.self.view_is in
    let text : c.tail-tail.result.now ≡ spelled log.tail = c.tail-tail.ensures ∙ ap (λ (s : LogState). spelled s.tail) c.self.view_is in
    moved (λ d p x. AgreesOutside (130 + p) (5 + length x + 1) (r.seen zero d) (r.seen one d))
    c.get.result c.gate-gate.result c.tail-tail.result.now log.inst log.gate (spelled log.tail) dev gate text c.write.ensures.outside

pub returns-in_err-write-clause-others : goal.returns-in_err-write-clause-others
returns-in_err-write-clause-others g c d other =
    let dev : c.get.result ≡ c.args.self.now.inst = c.get.ensures.value ∙ ap (λ (s : LogState). s.inst) c.self.view_is in
    c.write.ensures.others d (λ same. other (same ∙ dev))

pub returns-in_err-write-clause-others_leave : goal.returns-in_err-write-clause-others_leave
returns-in_err-write-clause-others_leave g c d other =
    let dev : c.get.result ≡ c.args.self.now.inst = c.get.ensures.value ∙ ap (λ (s : LogState). s.inst) c.self.view_is in
    c.write.ensures.others_leave d (λ same. other (same ∙ dev))

pub returns-in_err-write-clause-time : goal.returns-in_err-write-clause-time
returns-in_err-write-clause-time g c = c.write.ensures.time

pub returns-in_err-write-clause-idle : goal.returns-in_err-write-clause-idle
returns-in_err-write-clause-idle g c none =
    let t = tailed_of c.self.inside c.args.self.now c.self.invariant c.self.view_is
    (λ none. c.if-len-eq0.false (ap length c.tail-tail.ensures ∙ none)) in
    absurd (t.some none)

pub returns-in_err-write-clause-cause : goal.returns-in_err-write-clause-cause
returns-in_err-write-clause-cause g c =
    let is = err_from_is_err_and c.from_residual.result c.from_residual.ensures.1 in
    rw is.1 c.in_err-write.ensures.cause

pub returns-in_err-write-clause-count : goal.returns-in_err-write-clause-count
returns-in_err-write-clause-count g c = c.write.ensures.count

pub returns-clause-ok : goal.returns-clause-ok
returns-clause-ok g c =
    let l = c.self.inside in
    let size = ap length c.tail-tail.ensures in
    let t = tailed_of l c.args.self.now c.self.invariant c.self.view_is (λ none. c.if-len-eq0.false (size ∙ none)) in
    let some : l.written.tail ≡ [] → ⊥ = λ none. t.some (sym (ap (λ (s : LogState). s.tail) c.self.view_is) ∙ none) in
    closed_forced l c.close_group.new.self c.write.new.self (length c.tail-tail.result.now) c.close_group.ensures size some
    ∙ ap forced c.self.view_is

pub returns-clause-durable : goal.returns-clause-durable
returns-clause-durable g c some =
    let r = g.G.Rig in
    let one = c.write.new.rig in
    let dev : c.get.result ≡ c.args.self.now.inst = c.get.ensures.value ∙ ap (λ (s : LogState). s.inst) c.self.view_is in
    subst (λ d. LeavesOnly (r.seen one d) (r.leaves one d)) dev c.in_ok-write.ensures.durable

pub returns-clause-outside : goal.returns-clause-outside
returns-clause-outside g c =
    let r = g.G.Rig in
    let log = c.args.self.now in
    let l = c.self.inside in
    let zero = c.args.rig.now in
    let one = c.write.new.rig in
    let dev : c.get.result ≡ log.inst = c.get.ensures.value ∙ ap (λ (s : LogState). s.inst) c.self.view_is in
    let gate : c.gate-gate.result ≡ log.gate = c.gate-gate.ensures ∙ ap (λ (s : LogState). s.gate) c.self.view_is in
    let text : c.tail-tail.result.now ≡ spelled log.tail = c.tail-tail.ensures ∙ ap (λ (s : LogState). spelled s.tail) c.self.view_is in
    moved (λ d p x. AgreesOutside (130 + p) (5 + length x + 1) (r.seen zero d) (r.seen one d))
    c.get.result c.gate-gate.result c.tail-tail.result.now log.inst log.gate (spelled log.tail) dev gate text c.write.ensures.outside

pub returns-clause-others : goal.returns-clause-others
returns-clause-others g c d other =
    let dev : c.get.result ≡ c.args.self.now.inst = c.get.ensures.value ∙ ap (λ (s : LogState). s.inst) c.self.view_is in
    c.write.ensures.others d (λ same. other (same ∙ dev))

pub returns-clause-others_leave : goal.returns-clause-others_leave
returns-clause-others_leave g c d other =
    let dev : c.get.result ≡ c.args.self.now.inst = c.get.ensures.value ∙ ap (λ (s : LogState). s.inst) c.self.view_is in
    c.write.ensures.others_leave d (λ same. other (same ∙ dev))

pub returns-clause-time : goal.returns-clause-time
returns-clause-time g c = c.write.ensures.time

pub returns-clause-idle : goal.returns-clause-idle
returns-clause-idle g c none =
    let t = tailed_of c.self.inside c.args.self.now c.self.invariant c.self.view_is
    (λ none. c.if-len-eq0.false (ap length c.tail-tail.ensures ∙ none)) in
    absurd (t.some none)

pub returns-clause-quiet : goal.returns-clause-quiet
returns-clause-quiet g c = c.in_ok-write.ensures.quiet

pub returns-clause-tick : goal.returns-clause-tick
returns-clause-tick g c some = c.in_ok-write.ensures.tick

pub returns-clause-count : goal.returns-clause-count
returns-clause-count g c = c.write.ensures.count
