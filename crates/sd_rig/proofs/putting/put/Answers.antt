use Rattle.std.proofs.Common.{◌≡◌, ◌⊎◌, ◌+◌, ℕ, List, length, true, false, inl, subst, arith}
use Rattle.sd_base.specs.Twin.{body_at, is_open}
use Rattle.sd_rig.specs.Devices.{AgreesOutside}
use Rattle.sd_rig.specs.Spans.{elapses-then, span-then, span-weaker}
use Rattle.sd_rig.specs.Gates.{Closes, Fills}
use Rattle.sd_rig.specs.Slots.{slot}
use Rattle.sd_rig.specs.Puts.{Puts, filled_gate}
use Rattle.sd_rig.proofs.Choice.{closing_counts, filling_counts, kept_same, new_counts, new_slot}
use Rattle.sd_rig.proofs.Images.{puts_close, puts_fill, slot_after, slot_differs, twin_outside}
use Rattle.sd_rig.proofs.putting.put.Goals as goal
use Rattle.sd_base.proofs.Results.{on_ok}

pub returns-in_err-make_closed-clause-any_moment : goal.returns-in_err-make_closed-clause-any_moment
returns-in_err-make_closed-clause-any_moment g c =
    let r = g.G.Rig in
    let t = c.args.t in
    let zero = c.args.rig.now in
    let one = c.make_closed.new.rig in
    span-weaker (r.moment zero) (r.since one) (Closes t.dev c.target-gate.result.0 (r.seen zero) (r.leaves zero)) (Puts t.dev t.at t.body c.args.body.now (r.seen zero) (r.leaves zero))
    (λ img w. puts_close (slot c.args.old) t.dev c.target-gate.result.0 t.at t.body c.args.body.now (r.seen zero) (r.leaves zero) img c.target-gate.ensures.gate c.requires.chosen (slot_differs c.args.old c.requires.differs) w)
    c.make_closed.ensures.any_moment

pub returns-in_err-make_closed-clause-whole : goal.returns-in_err-make_closed-clause-whole
returns-in_err-make_closed-clause-whole g c =
    let r = g.G.Rig in
    let t = c.args.t in
    let s = slot c.args.old in
    let before : List ℕ = r.seen c.args.rig.now t.dev in
    let after : List ℕ = r.seen c.make_closed.new.rig t.dev in
    let gate : c.target-gate.result.0 ≡ filled_gate s t.at t.body = c.target-gate.ensures.gate in
    inl (closing_counts s t.at t.body before after c.requires.chosen (slot_differs c.args.old c.requires.differs)
    (subst (λ p. AgreesOutside p 1 before after) gate c.make_closed.ensures.outside)
    (subst (λ p. is_open p after ≡ true → is_open p before ≡ true) gate c.make_closed.ensures.shut))

pub returns-in_err-make_closed-clause-outside : goal.returns-in_err-make_closed-clause-outside
returns-in_err-make_closed-clause-outside g c =
    let r = g.G.Rig in
    let t = c.args.t in
    let before : List ℕ = r.seen c.args.rig.now t.dev in
    let after : List ℕ = r.seen c.make_closed.new.rig t.dev in
    twin_outside (slot c.args.old) t.at t.body 1 before after (omega arith) (subst (λ p. AgreesOutside p 1 before after) c.target-gate.ensures.gate c.make_closed.ensures.outside)

pub returns-clause-outside : goal.returns-clause-outside
returns-clause-outside g c =
    let r = g.G.Rig in
    let t = c.args.t in
    let s = slot c.args.old in
    let body : List ℕ = c.args.body.now in
    let before : List ℕ = r.seen c.args.rig.now t.dev in
    let one : List ℕ = r.seen c.make_closed.new.rig t.dev in
    let after : List ℕ = r.seen c.fill.new.rig t.dev in
    let gate : c.target-gate.result.0 ≡ filled_gate s t.at t.body = c.target-gate.ensures.gate in
    let len : length body ≡ t.body = c.requires.length in
    let first : AgreesOutside (filled_gate s t.at t.body) 1 before one = subst (λ p. AgreesOutside p 1 before one) gate c.in_ok-make_closed.ensures.outside in
    let second : AgreesOutside (filled_gate s t.at t.body) (t.body + 1) one after = subst (λ m. AgreesOutside (filled_gate s t.at t.body) (m + 1) one after) len (subst (λ p. AgreesOutside p (length body + 1) one after) gate c.fill.ensures.outside) in
    let all = slot_after (filled_gate s t.at t.body) t.body before one after first second in
    twin_outside s t.at t.body (t.body + 1) before after (omega arith) all

pub returns-clause-body : goal.returns-clause-body
returns-clause-body g c =
    let r = g.G.Rig in
    let t = c.args.t in
    let s = slot c.args.old in
    let body : List ℕ = c.args.body.now in
    let before : List ℕ = r.seen c.args.rig.now t.dev in
    let one : List ℕ = r.seen c.make_closed.new.rig t.dev in
    let after : List ℕ = r.seen c.fill.new.rig t.dev in
    let gate : c.target-gate.result.0 ≡ filled_gate s t.at t.body = c.target-gate.ensures.gate in
    let len : length body ≡ t.body = c.requires.length in
    let first : AgreesOutside (filled_gate s t.at t.body) 1 before one = subst (λ p. AgreesOutside p 1 before one) gate c.in_ok-make_closed.ensures.outside in
    let second : AgreesOutside (filled_gate s t.at t.body) (t.body + 1) one after = subst (λ m. AgreesOutside (filled_gate s t.at t.body) (m + 1) one after) len (subst (λ p. AgreesOutside p (length body + 1) one after) gate c.fill.ensures.outside) in
    let all = slot_after (filled_gate s t.at t.body) t.body before one after first second in
    let ne = slot_differs c.args.old c.requires.differs in
    let kept = kept_same s t.at t.body before after all in
    on_ok c.fill.result _ _
    (λ h. new_counts s t.at t.body body before after c.requires.chosen ne kept
    (subst (λ p. is_open p after ≡ true) gate h.0)
    (subst (λ m. body_at m (filled_gate s t.at t.body) after ≡ body) len (subst (λ p. body_at (length body) p after ≡ body) gate h.1))
    c.requires.greater)
    c.fill.ensures.filled

pub returns-clause-slot : goal.returns-clause-slot
returns-clause-slot g c =
    let r = g.G.Rig in
    let t = c.args.t in
    let s = slot c.args.old in
    let body : List ℕ = c.args.body.now in
    let before : List ℕ = r.seen c.args.rig.now t.dev in
    let one : List ℕ = r.seen c.make_closed.new.rig t.dev in
    let after : List ℕ = r.seen c.fill.new.rig t.dev in
    let gate : c.target-gate.result.0 ≡ filled_gate s t.at t.body = c.target-gate.ensures.gate in
    let len : length body ≡ t.body = c.requires.length in
    let first : AgreesOutside (filled_gate s t.at t.body) 1 before one = subst (λ p. AgreesOutside p 1 before one) gate c.in_ok-make_closed.ensures.outside in
    let second : AgreesOutside (filled_gate s t.at t.body) (t.body + 1) one after = subst (λ m. AgreesOutside (filled_gate s t.at t.body) (m + 1) one after) len (subst (λ p. AgreesOutside p (length body + 1) one after) gate c.fill.ensures.outside) in
    let all = slot_after (filled_gate s t.at t.body) t.body before one after first second in
    let ne = slot_differs c.args.old c.requires.differs in
    let kept = kept_same s t.at t.body before after all in
    on_ok c.fill.result _ _
    (λ h. new_slot s t.at t.body body before after c.requires.chosen ne kept
    (subst (λ p. is_open p after ≡ true) gate h.0)
    (subst (λ m. body_at m (filled_gate s t.at t.body) after ≡ body) len (subst (λ p. body_at (length body) p after ≡ body) gate h.1))
    c.requires.greater)
    c.fill.ensures.filled

pub returns-clause-whole : goal.returns-clause-whole
returns-clause-whole g c =
    let r = g.G.Rig in
    let t = c.args.t in
    let s = slot c.args.old in
    let body : List ℕ = c.args.body.now in
    let before : List ℕ = r.seen c.args.rig.now t.dev in
    let one : List ℕ = r.seen c.make_closed.new.rig t.dev in
    let after : List ℕ = r.seen c.fill.new.rig t.dev in
    let gate : c.target-gate.result.0 ≡ filled_gate s t.at t.body = c.target-gate.ensures.gate in
    let len : length body ≡ t.body = c.requires.length in
    let first : AgreesOutside (filled_gate s t.at t.body) 1 before one = subst (λ p. AgreesOutside p 1 before one) gate c.in_ok-make_closed.ensures.outside in
    let second : AgreesOutside (filled_gate s t.at t.body) (t.body + 1) one after = subst (λ m. AgreesOutside (filled_gate s t.at t.body) (m + 1) one after) len (subst (λ p. AgreesOutside p (length body + 1) one after) gate c.fill.ensures.outside) in
    let all = slot_after (filled_gate s t.at t.body) t.body before one after first second in
    let ne = slot_differs c.args.old c.requires.differs in
    filling_counts s t.at t.body body before after c.requires.chosen ne c.requires.greater all
    (subst (λ m. (is_open (filled_gate s t.at t.body) after ≡ false) ⊎ (body_at m (filled_gate s t.at t.body) after ≡ body)) len
    (subst (λ p. (is_open p after ≡ false) ⊎ (body_at (length body) p after ≡ body)) gate c.fill.ensures.whole))

pub returns-clause-time : goal.returns-clause-time
returns-clause-time g c =
    elapses-then _ _ _ _ (g.G.Rig.since c.make_closed.new.rig) _ (λ t u img le since. g.met.G.Rig.earlier c.fill.new.rig t u img le since) c.in_ok-make_closed.ensures.time c.fill.ensures.time

pub returns-clause-any_moment : goal.returns-clause-any_moment
returns-clause-any_moment g c =
    let r = g.G.Rig in
    let t = c.args.t in
    let gate = c.target-gate.result.0 in
    let body : List ℕ = c.args.body.now in
    let zero = c.args.rig.now in
    let one = c.make_closed.new.rig in
    let two = c.fill.new.rig in
    let ne = slot_differs c.args.old c.requires.differs in
    let time = c.in_ok-make_closed.ensures.time in
    span-then (r.moment zero) (r.moment one) (r.moment two) (r.since one) (r.since two) (Puts t.dev t.at t.body body (r.seen zero) (r.leaves zero)) time.later c.fill.ensures.time
    (span-weaker (r.moment zero) (r.since one) (Closes t.dev gate (r.seen zero) (r.leaves zero)) (Puts t.dev t.at t.body body (r.seen zero) (r.leaves zero))
    (λ img w. puts_close (slot c.args.old) t.dev gate t.at t.body body (r.seen zero) (r.leaves zero) img c.target-gate.ensures.gate c.requires.chosen ne w) c.in_ok-make_closed.ensures.any_moment)
    (span-weaker (r.moment one) (r.since two) (Fills t.dev gate (length body) body (r.seen one) (r.leaves one)) (Puts t.dev t.at t.body body (r.seen zero) (r.leaves zero))
    (λ img w. puts_fill (slot c.args.old) t.dev gate t.at t.body body (r.seen zero) (r.seen one) (r.leaves zero) (r.leaves one) img c.target-gate.ensures.gate c.requires.length c.requires.chosen ne c.requires.greater c.in_ok-make_closed.ensures.outside c.in_ok-make_closed.ensures.others_leave w) c.fill.ensures.any_moment)
