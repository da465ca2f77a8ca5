use Rattle.std.proofs.Common.{ℕ, ◌≡◌, ◌-◌, ◌≤◌, List, length, take, drop, ◌++◌, arith, ap, ◌∙◌, sym, subst, length-drop, take-add}
use Rattle.std.proofs.lemmas.List.{take_all}
use Rattle.sd_base.specs.Streams.{Appends}
use Rattle.sd_top.proofs.Puts.{appends_more}
use Rattle.sd_top.proofs.output.write_all.Goals as goal

pub loop-done-preserved : goal.loop-done-preserved
loop-done-preserved g c =
    let bytes = c.args.bytes.now in
    let done = c.loop-done.done in
    let n = c.in-Ok.n in
    let piece : take (length bytes - done) (drop done bytes) ≡ drop done bytes = take_all _ (drop done bytes) (omega (arith, length-drop done bytes)) in
    let within_piece : n ≤ length (take (length bytes - done) (drop done bytes)) = c.in-Ok.ensures.bound in
    let first = g.K.Sink.written c.args.sink.now in
    let last = g.K.Sink.written c.put.new.self in
    let both = appends_more first (g.K.Sink.written c.loop-done.sink) last _ _ c.loop-done.invariant.written c.in-Ok.ensures.appends in
    record {
      within = omega (arith, length-drop done bytes, ap (length {A = ℕ}) piece);
      written = subst (λ (l : List ℕ). Appends first l last) (ap (λ (l : List ℕ). take done bytes ++ take n l) piece ∙ sym (take-add done n bytes)) both;
      count = omega arith;
    }
