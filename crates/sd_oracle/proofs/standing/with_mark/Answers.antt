use Rattle.std.proofs.Common.{◌≡◌, ◌∙◌, refl, ap, ℕ, ◌+◌, List, ◌++◌, Bool, true, false, cond, drop}
use Rattle.sd_model.specs.Changes.{with_mark}
use Rattle.sd_oracle.proofs.Loops.{set-later, set-here, set-next, set-joined, word-is}
use Rattle.sd_oracle.proofs.standing.with_mark.Goals as goal
use Rattle.sd_oracle.proofs.standing.with_mark.Goals.{then-not-found+then-eq+in_ok-add_mark, else-not-found+in_ok-add_mark-2, else-not-found-via-then-not-found+else-eq, else-not-found-via-else-not-found}

pub loop-mark-preserved : goal.loop-mark-preserved
loop-mark-preserved c =
    let k : List ℕ = c.args.name.now in
    let n : ℕ = c.args.count in
    let xs : List (List ℕ × ℕ) = c.args.marks.now in
    let i : ℕ = c.loop-mark.mark-index in
    let x : List ℕ × ℕ = c.mark-item.result in
    let whole : List (List ℕ × ℕ) = with_mark k n xs in
    let all : List (List ℕ × ℕ) = c.loop-mark.all.items in
    let rest : List (List ℕ × ℕ) = drop (i + 1) xs in
    let was = λ (b : Bool) (e : c.loop-mark.found ≡ b). let h : whole ≡ all ++ cond {A = List (List ℕ × ℕ)} c.loop-mark.found (drop i xs) (with_mark k n (drop i xs)) = c.loop-mark.invariant in
    h ∙ ap (λ (d : Bool). all ++ cond {A = List (List ℕ × ℕ)} d (drop i xs) (with_mark k n (drop i xs))) e in
    elim c.if-not-found.branch [
      | then-not-found+then-eq+in_ok-add_mark w ↦ set-joined whole w.add_mark.new.marks.items c.if-not-found.all.items rest (with_mark k n rest) c.if-not-found.found true (ap (λ v. v.items) w.all-is) w.found-is
          (set-here k n xs whole all w.add_mark.new.marks.items i x (k, n) c.loop-mark-test.true c.mark-item.is
          (word-is k x.0 w.items.result.now w.items-then-not-found.result.now w.eq.result true w.items.ensures w.items-then-not-found.ensures w.eq.ensures w.if-eq.true)
          w.in_ok-add_mark.ensures refl (was false w.if-not-found.true))
      | else-not-found+in_ok-add_mark-2 w ↦ elim w.else-not-found.branch [
        | else-not-found-via-then-not-found+else-eq v ↦ set-joined whole w.add_mark-else-not-found.new.marks.items c.if-not-found.all.items rest (with_mark k n rest) c.if-not-found.found false (ap (λ v. v.items) w.all-is) (w.found-is ∙ v.if-not-found.true)
            (set-next k n xs whole all w.add_mark-else-not-found.new.marks.items i x x c.loop-mark-test.true c.mark-item.is
            (word-is k x.0 v.items.result.now v.items-then-not-found.result.now v.eq.result false v.items.ensures v.items-then-not-found.ensures v.eq.ensures v.if-eq.false)
            w.in_ok-add_mark-2.ensures refl (was false v.if-not-found.true))
        | else-not-found-via-else-not-found v ↦ set-joined whole w.add_mark-else-not-found.new.marks.items c.if-not-found.all.items rest (with_mark k n rest) c.if-not-found.found true (ap (λ v. v.items) w.all-is) (w.found-is ∙ v.if-not-found.false)
            (set-later xs whole all w.add_mark-else-not-found.new.marks.items i x x c.loop-mark-test.true c.mark-item.is
            w.in_ok-add_mark-2.ensures refl (was true v.if-not-found.false))
      ]
    ]
