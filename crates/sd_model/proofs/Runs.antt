-- Runs grow, split and follow one another. It serves the goals of `runs` in laws.rt.
use Rattle.std.proofs.Common.{List, [], ◌∷◌, ◌++◌, refl, sym, subst}
use Rattle.sd_model.specs.declared.event.Entry.{Entry}
use Rattle.sd_model.specs.State.{State}
use Rattle.sd_model.specs.Step.{Step}
use Rattle.sd_model.specs.Run.{Run}

pub runs-join : (xs ys : List Entry) (m0 m1 m : State) → Run m0 xs m1 → Run m1 ys m → Run m0 (xs ++ ys) m
runs-join [] ys m0 m1 m a b = subst (λ (x : State). Run x ys m) (sym a) b
runs-join (x ∷ xs) ys m0 m1 m a b = (a.0, a.1, runs-join xs ys a.0 m1 m a.2 b)

pub run-grows : (xs : List Entry) (e : Entry) (m0 m m' : State) → Run m0 xs m → Step m e.event e.reply m' → Run m0 (xs ++ e ∷ []) m'
run-grows xs e m0 m m' run step = runs-join xs (e ∷ []) m0 m m' run (m', step, refl)

pub run-splits : (xs ys : List Entry) (m0 m : State) → Run m0 (xs ++ ys) m → (m1 : State) × Run m0 xs m1 × Run m1 ys m
run-splits [] ys m0 m run = (m0, refl, run)
run-splits (x ∷ xs) ys m0 m run = let rest = run-splits xs ys run.0 m run.2 in (rest.0, (run.0, run.1, rest.1), rest.2)
