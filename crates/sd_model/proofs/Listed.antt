-- Each change keeps the lists of those that began and of those that were cut. It serves the goals of `whereabouts` in laws.rt.
use Rattle.std.proofs.Common.{◌≡◌, ◌≢◌, ⊎_elim, ℕ, ◌+◌, Bool, true, false, cond, eqb, ◌&&◌, List, [], ◌∷◌, ◌++◌, refl, sym, ap, ◌∙◌, subst, arith, length, filter, eq-eqb}
use Rattle.sd_base.specs.declared.ids.TxnId.{TxnId}
use Rattle.sd_base.specs.declared.place.Status.TheVariants.{Up}
use Rattle.sd_base.specs.Ids.{same_txn}
use Rattle.sd_model.specs.declared.act.Inst.{Inst}
use Rattle.sd_model.specs.declared.act.Life.{Life}
use Rattle.sd_model.specs.declared.act.Life.TheVariants.{Gone, Running, Retained, Rolling, Doubt}
use Rattle.sd_model.specs.declared.event.Entry.{Entry}
use Rattle.sd_model.specs.declared.event.Event.{Event}
use Rattle.sd_model.specs.declared.event.Event.TheVariants.{Begin}
use Rattle.sd_model.specs.declared.event.Reply.{Reply}
use Rattle.sd_model.specs.declared.event.Reply.TheVariants.{Began}
use Rattle.sd_model.specs.State.{State, Part, begun_part, began, committed}
use Rattle.sd_model.specs.StepLaws.{next_txn}
use Rattle.sd_model.specs.Applies.{count_of, is_unresolved}
use Rattle.sd_model.specs.Lives.{IsDoubt}
use Rattle.sd_model.specs.Step.{Step}
use Rattle.sd_model.specs.Run.{Run}
use Rattle.sd_model.specs.Listed.{IsAmong, NoneTwice, IsAtWork, Below, EachBelow, Listed}
use Rattle.sd_model.proofs.Moves.{Calm, Keeps, in_doubt, doubted, is_up, works-there, runs-works, gone-calm}
use Rattle.sd_model.proofs.MovesRun.{step-keeps, run-keeps}
use Rattle.sd_model.proofs.Among.{among-more, among-last, among-split, once-more, each-rises, each-more, begin-rises, next-below, next-other, next-new}
use Rattle.sd_base.proofs.SameIds.{each_txn, eq-same, ne-same}

abbrev IsThere : Life → Type 0
IsThere Gone = ⊥
IsThere Running = Unit {0}
IsThere Retained = Unit {0}
IsThere (Rolling to) = Unit {0}
IsThere (Doubt cut) = Unit {0}

-- the lists stay, and nobody is there, works or is in doubt who wasn't
calm-listed : (m m' : State) → Calm m m' → Listed m → Listed m'
calm-listed m m' c l = record {
  bounds = subst (EachBelow m'.inst) (sym c.begun) (each-rises m.inst m'.inst m.begun c.inst l.bounds);
  there = λ t ne. subst (IsAmong t) (sym c.begun) (l.there t ((c.part t).there ne));
  once = subst NoneTwice (sym c.begun) l.once;
  doubts = λ t d. subst (IsAmong t) (sym c.cuts) (l.doubts t ((c.part t).doubts d));
  cut_once = subst NoneTwice (sym c.cuts) l.cut_once;
  cut_begun = λ t a. subst (IsAmong t) (sym c.begun) (l.cut_begun t (subst (IsAmong t) c.cuts a));
  cut_rests = λ t a w. l.cut_rests t (subst (IsAmong t) c.cuts a) ((c.part t).works w);
}

began-listed : (m : State) (i : ℕ) → (m.inst i).status ≡ Up → Listed m → Listed (began i (next_txn m i) m)
began-listed m i up l = let x = next_txn m i in let later : ℕ → Inst = (began i x m).inst in let new = next-new m i m.begun up l.bounds in record {
  bounds = each-more later m.begun x (each-rises m.inst later m.begun (begin-rises m i) l.bounds) (next-below m i);
  there = each_txn x (λ u (p : Part). p.life ≢ Gone → IsAmong u (m.begun ++ x ∷ [])) begun_part m.part (λ _. among-last m.begun x) (λ u _ ne. among-more m.begun x u (l.there u ne));
  once = once-more m.begun x l.once new;
  doubts = each_txn x (λ u (p : Part). IsDoubt p.life → IsAmong u m.cuts) begun_part m.part (λ d. absurd d) (λ u _. l.doubts u);
  cut_once = l.cut_once;
  cut_begun = λ t a. among-more m.begun x t (l.cut_begun t a);
  cut_rests = each_txn x (λ u (p : Part). IsAmong u m.cuts → IsAtWork p.life → ⊥) begun_part m.part (λ a _. new (l.cut_begun x a)) (λ u _. l.cut_rests u);
}

committed-listed : (m : State) (t : TxnId) → Listed m → Listed (committed t m)
committed-listed m t l = let c = gone-calm m t in record {
  bounds = l.bounds;
  there = λ u ne. l.there u ((c.part u).there ne);
  once = l.once;
  doubts = λ u d. l.doubts u ((c.part u).doubts d);
  cut_once = l.cut_once;
  cut_begun = l.cut_begun;
  cut_rests = λ u a w. l.cut_rests u a ((c.part u).works w);
}

doubted-listed : (m : State) (t : TxnId) → (m.part t).life ≡ Running → Listed m → Listed (doubted t m)
doubted-listed m t runs l =
    let w = runs-works (m.part t).life runs in
    let began_it = l.there t (works-there (m.part t).life w) in
    let q : Part = in_doubt (m.part t) in
    record {
      bounds = l.bounds;
      there = each_txn t (λ u (p : Part). p.life ≢ Gone → IsAmong u m.begun) q m.part (λ _. began_it) (λ u _. l.there u);
      once = l.once;
      doubts = each_txn t (λ u (p : Part). IsDoubt p.life → IsAmong u (m.cuts ++ t ∷ [])) q m.part (λ _. among-last m.cuts t) (λ u _ d. among-more m.cuts t u (l.doubts u d));
      cut_once = once-more m.cuts t l.cut_once (λ a. l.cut_rests t a w);
      cut_begun = λ u a. ⊎_elim (l.cut_begun u) (λ (e : u ≡ t). subst (λ (v : TxnId). IsAmong v m.begun) (sym e) began_it) (among-split m.cuts t u a);
      cut_rests = each_txn t (λ u (p : Part). IsAmong u (m.cuts ++ t ∷ []) → IsAtWork p.life → ⊥) q m.part (λ _ x. x)
          (λ u ne a. l.cut_rests u (⊎_elim (λ b. b) (λ (e : u ≡ t). absurd (ne (sym e))) (among-split m.cuts t u a)));
    }

listed-keeps : Keeps Listed
listed-keeps = record { begins = began-listed; commits = λ m t may. committed-listed m t; cuts = doubted-listed; calm = calm-listed }

pub step-listed : (m : State) (e : Event) (reply : Reply) (m' : State) → Step m e reply m' → Listed m → Listed m'
step-listed = step-keeps Listed listed-keeps

pub run-listed : (es : List Entry) (m m' : State) → Run m es m' → Listed m → Listed m'
run-listed = run-keeps Listed listed-keeps

not_never_gone : (l : Life) → (l ≢ Gone → ⊥) → l ≡ Gone
not_never_gone Gone n = refl
not_never_gone Running n = absurd (n (λ e. subst IsThere e tt))
not_never_gone Retained n = absurd (n (λ e. subst IsThere e tt))
not_never_gone (Rolling to) n = absurd (n (λ e. subst IsThere e tt))
not_never_gone (Doubt cut) n = absurd (n (λ e. subst IsThere e tt))

-- the id that a begin gives is nobody's
pub new-id : (m : State) (i : ℕ) (x : TxnId) (m' : State) → Listed m → Step m (Begin i) (Began x) m' → (IsAmong x m.begun → ⊥) × ((m.part x).life ≡ Gone)
new-id m i x m' l s =
    let new : IsAmong x m.begun → ⊥ = subst (λ (y : TxnId). IsAmong y m.begun → ⊥) (sym s.1.0) (next-new m i m.begun (is_up (m.inst i).status s.0.1.0) l.bounds) in
    (new, not_never_gone (m.part x).life (λ ne. new (l.there x ne)))

abbrev counts : (TxnId → Part) → ℕ → TxnId → Bool
counts part i t = eqb t.inst i && is_unresolved (part t).life

same-filter : (p q : TxnId → Bool) (ts : List TxnId) (f : ℕ → Inst) → ((t : TxnId) → Below f t → p t ≡ q t) → EachBelow f ts → filter p ts ≡ filter q ts
same-filter p q [] f e a = refl
same-filter p q (t ∷ ts) f e a = ap (λ (b : Bool). cond b (t ∷ filter p ts) (filter p ts)) (e t a.0) ∙ ap (λ (l : List TxnId). cond (q t) (t ∷ l) l) (same-filter p q ts f e a.1)

filter-snoc : (p : TxnId → Bool) (ts : List TxnId) (x : TxnId) → p x ≡ true → length (filter p (ts ++ x ∷ [])) ≡ length (filter p ts) + 1
filter-snoc p [] x e = ap (λ (b : Bool). length (cond {A = List TxnId} b (x ∷ []) [])) e
filter-snoc p (t ∷ ts) x e = go (p t) (filter-snoc p ts x e)
  where
    go : (b : Bool) → length (filter p (ts ++ x ∷ [])) ≡ length (filter p ts) + 1 → length (cond b (t ∷ filter p (ts ++ x ∷ [])) (filter p (ts ++ x ∷ []))) ≡ length (cond b (t ∷ filter p ts) (filter p ts)) + 1
    go true ih = omega (arith, ih)
    go false ih = ih

-- the count of unresolved ones rises by one
pub count-began : (m : State) (i : ℕ) → (m.inst i).status ≡ Up → Listed m → count_of (began i (next_txn m i) m) i ≡ count_of m i + 1
count-began m i up l =
    let x = next_txn m i in
    let part : TxnId → Part = λ u. cond (same_txn x u) begun_part (m.part u) in
    let here : counts part i x ≡ true = ap (λ (b : Bool). eqb i i && is_unresolved (cond b begun_part (m.part x)).life) (eq-same x x refl) ∙ ap (λ (b : Bool). b && true) (eq-eqb i i refl) in
    filter-snoc (counts part i) m.begun x here
    ∙ ap (λ (n : List TxnId). length n + 1) (same-filter (counts part i) (counts m.part i) m.begun m.inst
    (λ t b. ap (λ (c : Bool). eqb t.inst i && is_unresolved (cond c begun_part (m.part t)).life) (ne-same x t (next-other m i t up b))) l.bounds)
