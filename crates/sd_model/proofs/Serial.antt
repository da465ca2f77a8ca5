-- A run from an opening is serial. It serves the goals of `serial_order` in laws.rt.
use Rattle.std.proofs.Common.{◌≡◌, ◌⊎◌, inl, inr, List, [], ◌∷◌, refl, sym, subst}
use Rattle.sd_model.specs.declared.act.Done.{Done}
use Rattle.sd_model.specs.declared.act.Life.{Life}
use Rattle.sd_model.specs.declared.event.Event.{Event}
use Rattle.sd_model.specs.declared.event.Reply.{Reply}
use Rattle.sd_model.specs.declared.event.Reply.TheVariants.{Refused}
use Rattle.sd_model.specs.declared.event.Entry.{Entry}
use Rattle.sd_model.specs.Acts.{Serial}
use Rattle.sd_model.specs.State.{State, fresh}
use Rattle.sd_model.specs.Step.{Step}
use Rattle.sd_model.specs.Run.{Run, IsOpening}
use Rattle.sd_model.specs.Kept.{MayCommit, Kept}
use Rattle.sd_model.proofs.RowsKept.{row-kept}
use Rattle.sd_model.proofs.RefusalsKept.{refused-kept}

pub step-kept : (m : State) (e : Event) (reply : Reply) (m' : State) → Step m e reply m' → Kept m → Kept m'
step-kept m e (Refused n) m' h k = refused-kept m e h.0 m' h.3 h.4 k
step-kept m e reply m' h k = row-kept m e reply m' h.0 h.1 k

pub run-kept : (es : List Entry) (m m' : State) → Run m es m' → Kept m → Kept m'
run-kept [] m m' r k = subst Kept r k
run-kept (e ∷ es) m m' r k = run-kept es r.0 m' r.2 (step-kept m e.event e.reply r.0 r.1 k)

pub never-commits : (life : Life) → (life ≡ Life.Gone) ⊎ (life ≡ Life.Retained) → MayCommit life → ⊥
never-commits life (inl e) may = subst MayCommit e may
never-commits life (inr e) may = subst MayCommit e may

pub opening-kept : (m : State) → IsOpening m → Kept m
opening-kept m o = record {
  serial = subst (λ (c : List Done). Serial m.start c) (sym o.done) tt;
  reads = λ t may. absurd (never-commits (m.part t).life (o.losers t) may);
  covered = λ t may. absurd (never-commits (m.part t).life (o.losers t) may);
  apart = λ t u ne may. absurd (never-commits (m.part t).life (o.losers t) may);
}

-- each transaction of the committed list reads what it reads where they run one after another
pub run-serial : (es : List Entry) (m0 m : State) → IsOpening m0 → Run m0 es m → Serial m.start m.done
run-serial es m0 m o r = (run-kept es m0 m r (opening-kept m0 o)).serial

pub opening_run-kept : (es : List Entry) (m0 m : State) → IsOpening m0 → Run m0 es m → Kept m
opening_run-kept es m0 m o r = run-kept es m0 m r (opening-kept m0 o)

pub fresh-opening : IsOpening fresh
fresh-opening = record { done = refl; losers = λ t. inl refl }
