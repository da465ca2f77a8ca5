use Rattle.std.proofs.Common.{◌≡◌, ◌⊎◌, ℕ, ◌+◌, ◌∙◌, false, true, List, [], ◌∷◌, ◌++◌, length, ap, subst, arith, length-append}
use Rattle.std.specs.Prelude.{OnOk}
use Rattle.sd_base.specs.Twin.{body_at, is_open}
use Rattle.sd_rig.specs.Gates.{Fills}
use Rattle.sd_logrec.specs.Spelling.{four}
use Rattle.sd_logrec.proofs.Lengths.{length-four}
use Rattle.sd_rig.specs.Devices.{AgreesOutside, Span}
use Rattle.sd_log.specs.Buffers.{framed}
use Rattle.sd_log.proofs.buffer.Buffer.write.Goals as goal

length-framed : (text : List ℕ) → length (framed text) ≡ 5 + length text
length-framed text =
    let all = length-append (four (length text)) (text ++ 0 ∷ []) in
    omega (arith, all, length-append text (0 ∷ []), length-four (length text))

-- what holds of a body and its length, where it frames this text
as_framed : (P : ℕ → List ℕ → Type 0) (text body : List ℕ)
    → body ≡ framed text → P (length body) body → P (5 + length text) (framed text)
as_framed P text body is p = subst (λ n. P n (framed text)) (length-framed text) (subst (λ (b : List ℕ). P (length b) b) is p)

body : (g : _) (c : goal.After-truncate g) → c.deref.result.now ≡ framed c.args.text.now
body g c = c.deref.ensures.value ∙ c.frame.ensures.items

pub fill-filled-requires-clause-range : goal.fill-filled-requires-clause-range
fill-filled-requires-clause-range g c =
    let text : List ℕ = c.args.text.now in
    let body : c.deref.result.now ≡ framed text = c.deref.ensures.value ∙ c.frame.ensures.items in
    omega (arith, c.requires.range, ap length body, length-framed text)

pub fill-filled-requires-clause-device : goal.fill-filled-requires-clause-device
fill-filled-requires-clause-device g c = c.requires.device

pub fill-filled-requires-clause-stable : goal.fill-filled-requires-clause-stable
fill-filled-requires-clause-stable g c = c.requires.stable

pub fill-filled-requires-clause-closed : goal.fill-filled-requires-clause-closed
fill-filled-requires-clause-closed g c = c.requires.closed

pub returns-clause-filled : goal.returns-clause-filled
returns-clause-filled g c =
    let seen = g.G.Rig.seen c.fill-filled.new.rig c.args.dev in
    as_framed (λ n (b : List ℕ). OnOk c.fill-filled.result ((is_open c.args.gate seen ≡ true) × (body_at n c.args.gate seen ≡ b)))
    c.args.text.now c.deref.result.now (body g c) c.fill-filled.ensures.filled

pub returns-clause-durable : goal.returns-clause-durable
returns-clause-durable g c = c.fill-filled.ensures.durable

pub returns-clause-outside : goal.returns-clause-outside
returns-clause-outside g c =
    let seen = g.G.Rig.seen in
    let zero = seen c.args.rig.now c.args.dev in
    let one = seen c.fill-filled.new.rig c.args.dev in
    as_framed (λ n (b : List ℕ). AgreesOutside c.args.gate (n + 1) zero one)
    c.args.text.now c.deref.result.now (body g c) c.fill-filled.ensures.outside

pub returns-clause-whole : goal.returns-clause-whole
returns-clause-whole g c =
    let seen = g.G.Rig.seen c.fill-filled.new.rig c.args.dev in
    as_framed (λ n (b : List ℕ). (is_open c.args.gate seen ≡ false) ⊎ (body_at n c.args.gate seen ≡ b))
    c.args.text.now c.deref.result.now (body g c) c.fill-filled.ensures.whole

pub returns-clause-any_moment : goal.returns-clause-any_moment
returns-clause-any_moment g c =
    let r = g.G.Rig in
    let old = c.args.rig.now in
    let since = r.since c.fill-filled.new.rig in
    as_framed (λ n (b : List ℕ). Span (r.moment old) since (Fills c.args.dev c.args.gate n b (r.seen old) (r.leaves old)))
    c.args.text.now c.deref.result.now (body g c) c.fill-filled.ensures.any_moment

pub returns-clause-others : goal.returns-clause-others
returns-clause-others g c = c.fill-filled.ensures.others

pub returns-clause-others_leave : goal.returns-clause-others_leave
returns-clause-others_leave g c = c.fill-filled.ensures.others_leave

pub returns-clause-time : goal.returns-clause-time
returns-clause-time g c = c.fill-filled.ensures.time

pub returns-clause-cause : goal.returns-clause-cause
returns-clause-cause g c = c.fill-filled.ensures.cause

pub returns-clause-quiet : goal.returns-clause-quiet
returns-clause-quiet g c = c.fill-filled.ensures.quiet

pub returns-clause-tick : goal.returns-clause-tick
returns-clause-tick g c = c.fill-filled.ensures.tick

pub returns-clause-count : goal.returns-clause-count
returns-clause-count g c = c.fill-filled.ensures.count
