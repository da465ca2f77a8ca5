-- What stays: the opening table and the committed transactions. It serves the goals of `lasting` in laws.rt.
use Rattle.std.proofs.Common.{◌≡◌, ⊎_elim, ℕ, List, [], ◌∷◌, ◌++◌, refl, sym, ap, ◌∙◌, subst, append-nil, append_assoc}
use Rattle.sd_base.specs.declared.ids.TxnId.{TxnId}
use Rattle.sd_base.specs.declared.place.Status.TheVariants.{Up}
use Rattle.sd_model.specs.declared.act.Done.{Done}
use Rattle.sd_model.specs.declared.act.Inst.{Inst}
use Rattle.sd_model.specs.declared.act.Life.TheVariants.{Running}
use Rattle.sd_model.specs.declared.event.Entry.{Entry}
use Rattle.sd_model.specs.declared.event.Event.{Event}
use Rattle.sd_model.specs.declared.event.Event.TheVariants.{Commit}
use Rattle.sd_model.specs.declared.event.Reply.{Reply}
use Rattle.sd_model.specs.declared.event.Reply.TheVariants.{Did}
use Rattle.sd_model.specs.State.{State, Part, gone, begun_part, began, committed}
use Rattle.sd_model.specs.StepLaws.{next_txn}
use Rattle.sd_model.specs.Kept.{MayCommit}
use Rattle.sd_model.specs.Step.{Step}
use Rattle.sd_model.specs.Run.{Run, IsOpening}
use Rattle.sd_model.specs.Listed.{IsAmong, NoneTwice, Below, EachBelow}
use Rattle.sd_model.specs.StayLaws.{txns, SameStart, MoreDone}
use Rattle.sd_model.proofs.Moves.{Calm, Keeps, calms-may, in_doubt, doubted}
use Rattle.sd_model.proofs.MovesRun.{step-keeps, run-keeps}
use Rattle.sd_model.proofs.Runs.{run-splits}
use Rattle.sd_model.proofs.Serial.{never-commits}
use Rattle.sd_model.proofs.Among.{among-more, among-last, among-split, once-more, below-rises, each-rises, each-more, begin-rises, next-below, next-new}
use Rattle.sd_base.proofs.SameIds.{each_txn}

start-keeps : (m0 : State) → Keeps (SameStart m0)
start-keeps m0 = record { begins = λ m i up e. e; commits = λ m t may e. e; cuts = λ m t runs e. e; calm = λ m m' c e. c.start ∙ e }

pub step-start : (m : State) (e : Event) (reply : Reply) (m' : State) → Step m e reply m' → SameStart m m'
step-start m e reply m' s = step-keeps (SameStart m) (start-keeps m) m e reply m' s refl

pub run-start : (es : List Entry) (m m' : State) → Run m es m' → SameStart m m'
run-start es m m' r = run-keeps (SameStart m) (start-keeps m) es m m' r refl

one-more : (done now : List Done) (d : Done) → (more : List Done) × (now ≡ done ++ more) → (more : List Done) × (now ++ d ∷ [] ≡ done ++ more)
one-more done now d h = (h.0 ++ d ∷ [], ap (λ (l : List Done). l ++ d ∷ []) h.1 ∙ append_assoc done h.0 (d ∷ []))

done-keeps : (m0 : State) → Keeps (MoreDone m0)
done-keeps m0 = record {
  begins = λ m i up h. h;
  commits = λ m t may h. one-more m0.done m.done (record { txn = t; acts = (m.part t).acts }) h;
  cuts = λ m t runs h. h;
  calm = λ m m' c h. (h.0, c.done ∙ h.1);
}

pub step-done : (m : State) (e : Event) (reply : Reply) (m' : State) → Step m e reply m' → MoreDone m m'
step-done m e reply m' s = step-keeps (MoreDone m) (done-keeps m) m e reply m' s ([], sym (append-nil m.done))

pub run-done : (es : List Entry) (m m' : State) → Run m es m' → MoreDone m m'
run-done es m m' r = run-keeps (MoreDone m) (done-keeps m) es m m' r ([], sym (append-nil m.done))

txns-snoc : (done : List Done) (d : Done) → txns (done ++ d ∷ []) ≡ txns done ++ d.txn ∷ []
txns-snoc [] d = refl
txns-snoc (x ∷ done) d = ap (λ (l : List TxnId). x.txn ∷ l) (txns-snoc done d)

-- t is committed
abbrev IsDone : TxnId → State → Type 0
IsDone t m = IsAmong t (txns m.done)

among-done : (t : TxnId) (done : List Done) (d : Done) → IsAmong t (txns done) → IsAmong t (txns (done ++ d ∷ []))
among-done t done d a = subst (IsAmong t) (sym (txns-snoc done d)) (among-more (txns done) d.txn t a)

is_done-keeps : (t : TxnId) → Keeps (IsDone t)
is_done-keeps t = record {
  begins = λ m i up a. a;
  commits = λ m u may a. among-done t m.done (record { txn = u; acts = (m.part u).acts }) a;
  cuts = λ m u runs a. a;
  calm = λ m m' c a. subst (λ (done : List Done). IsAmong t (txns done)) (sym c.done) a;
}

commit-done : (m : State) (t : TxnId) (m' : State) → Step m (Commit t) Did m' → IsDone t m'
commit-done m t m' s = let d : Done = record { txn = t; acts = (m.part t).acts } in
    subst (IsDone t) (sym s.1.1) (subst (IsAmong t) (sym (txns-snoc m.done d)) (among-last (txns m.done) t))

pub commit-lasts : (earlier later : List Entry) (e : Entry) (t : TxnId) (m m' : State) → e.event ≡ Commit t → e.reply ≡ Did → Run m (earlier ++ e ∷ later) m' → IsAmong t (txns m'.done)
commit-lasts earlier later e t m m' is did run =
    let at = run-splits earlier (e ∷ later) m m' run in
    let s : Step at.0 (Commit t) Did at.2.0 = subst (λ (r : Reply). Step at.0 (Commit t) r at.2.0) did (subst (λ (x : Event). Step at.0 x e.reply at.2.0) is at.2.1) in
    run-keeps (IsDone t) (is_done-keeps t) later at.2.0 m' at.2.2 (commit-done at.0 t at.2.0 s)

-- who may commit is bounded, and so are those that have, who are over
record Ended (m : State) : Type 0 where
  mays : (t : TxnId) → MayCommit (m.part t).life → Below m.inst t
  bounds : EachBelow m.inst (txns m.done)
  over : (t : TxnId) → IsAmong t (txns m.done) → MayCommit (m.part t).life → ⊥
  once : NoneTwice (txns m.done)

calm-ended : (m m' : State) → Calm m m' → Ended m → Ended m'
calm-ended m m' c k = record {
  mays = λ t may. below-rises m.inst m'.inst t (c.inst t.inst) (k.mays t (calms-may _ _ (c.part t) may));
  bounds = subst (λ (done : List Done). EachBelow m'.inst (txns done)) (sym c.done) (each-rises m.inst m'.inst (txns m.done) c.inst k.bounds);
  over = λ t a may. k.over t (subst (λ (done : List Done). IsAmong t (txns done)) c.done a) (calms-may _ _ (c.part t) may);
  once = subst (λ (done : List Done). NoneTwice (txns done)) (sym c.done) k.once;
}

began-ended : (m : State) (i : ℕ) → (m.inst i).status ≡ Up → Ended m → Ended (began i (next_txn m i) m)
began-ended m i up k = let x = next_txn m i in let later : ℕ → Inst = (began i x m).inst in record {
  mays = each_txn x (λ u (p : Part). MayCommit p.life → Below later u) begun_part m.part (λ _. next-below m i) (λ u _ may. below-rises m.inst later u (begin-rises m i u.inst) (k.mays u may));
  bounds = each-rises m.inst later (txns m.done) (begin-rises m i) k.bounds;
  over = each_txn x (λ u (p : Part). IsAmong u (txns m.done) → MayCommit p.life → ⊥) begun_part m.part (λ a _. next-new m i (txns m.done) up k.bounds a) (λ u _. k.over u);
  once = k.once;
}

committed-ended : (m : State) (t : TxnId) → MayCommit (m.part t).life → Ended m → Ended (committed t m)
committed-ended m t may k =
    let d : Done = record { txn = t; acts = (m.part t).acts } in
    let more = txns-snoc m.done d in
    record {
      mays = each_txn t (λ u (p : Part). MayCommit p.life → Below m.inst u) gone m.part (λ x. absurd x) (λ u _. k.mays u);
      bounds = subst (EachBelow m.inst) (sym more) (each-more m.inst (txns m.done) t k.bounds (k.mays t may));
      over = each_txn t (λ u (p : Part). IsAmong u (txns (m.done ++ d ∷ [])) → MayCommit p.life → ⊥) gone m.part (λ _ x. x)
          (λ u ne a. k.over u (⊎_elim (λ b. b) (λ (e : u ≡ t). absurd (ne (sym e))) (among-split (txns m.done) t u (subst (IsAmong u) more a))));
      once = subst NoneTwice (sym more) (once-more (txns m.done) t k.once (λ a. k.over t a may));
    }

doubted-ended : (m : State) (t : TxnId) → (m.part t).life ≡ Running → Ended m → Ended (doubted t m)
doubted-ended m t runs k = let may : MayCommit (m.part t).life = subst MayCommit (sym runs) tt in record {
  mays = each_txn t (λ u (p : Part). MayCommit p.life → Below m.inst u) (in_doubt (m.part t)) m.part (λ _. k.mays t may) (λ u _. k.mays u);
  bounds = k.bounds;
  over = each_txn t (λ u (p : Part). IsAmong u (txns m.done) → MayCommit p.life → ⊥) (in_doubt (m.part t)) m.part (λ a _. k.over t a may) (λ u _. k.over u);
  once = k.once;
}

ended-keeps : Keeps Ended
ended-keeps = record { begins = began-ended; commits = committed-ended; cuts = doubted-ended; calm = calm-ended }

opening-ended : (m : State) → IsOpening m → Ended m
opening-ended m o = record {
  mays = λ t may. absurd (never-commits (m.part t).life (o.losers t) may);
  bounds = subst (λ (done : List Done). EachBelow m.inst (txns done)) (sym o.done) tt;
  over = λ t _ may. never-commits (m.part t).life (o.losers t) may;
  once = subst (λ (done : List Done). NoneTwice (txns done)) (sym o.done) tt;
}

pub none-commits_twice : (es : List Entry) (m0 m : State) → IsOpening m0 → Run m0 es m → NoneTwice (txns m.done)
none-commits_twice es m0 m o r = (run-keeps Ended ended-keeps es m0 m r (opening-ended m0 o)).once
