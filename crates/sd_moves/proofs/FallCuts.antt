-- A commit that is cut: its instance falls, and its transaction is in doubt. For `cut` of src/crash.rt.
use Rattle.std.proofs.Common.{◌≡◌, ◌≢◌, ◌⊎◌, inl, inr, ⊎_elim, ℕ, Bool, true, cond, eqb, List, [], ◌∷◌, ◌++◌, refl, sym, ap, ap₂, ◌∙◌, subst, arith, append-nil}
use Rattle.std.specs.Prelude.{filter}
use Rattle.std.proofs.lemmas.List.Elements.{filter-append}
use Rattle.sd_base.specs.declared.ids.TxnId.{TxnId}
use Rattle.sd_base.proofs.SameIds.{cases_txn, each_txn, eq-same, ne-same}
use Rattle.sd_logrec.specs.View.{Rec}
use Rattle.sd_model.specs.Kept.{Kept, MayCommit}
use Rattle.sd_model.specs.Listed.{IsAmong, IsAtWork, Listed}
use Rattle.sd_model.specs.Marks.{Marked, Sized}
use Rattle.sd_model.specs.Lives.{IsDoubt, LivesAreSound}
use Rattle.sd_model.specs.Recoverers.{Recoverers}
use Rattle.sd_model.specs.State.{Part, State, cut_commit}
use Rattle.sd_model.specs.declared.act.Life.{Life}
use Rattle.sd_model.proofs.Among.{among-last, among-more, among-split, once-more}
use Rattle.sd_model.proofs.Changes.{cut-kept}
use Rattle.sd_model.proofs.Moves.{doubted, in_doubt}
use Rattle.sd_model.proofs.Placed.{NotShut}
use Rattle.sd_model.proofs.PlacedChanges.{cut-placed}
use Rattle.sd_chain.specs.Records.{home}
use Rattle.sd_state.specs.Values.{Pending, is_doubt, undecided, values}
use Rattle.sd_moves.proofs.FallModel.{IsFall, cond-acts, cond-claims, cond-doubts, cond-gone, cond-marks, cond-there, fallen-else, fallen-listed, fallen-marked, fallen-recoverers, fallen-rests, values-by}

-- a filter that takes the same of these
same-filtered : (f g : TxnId → Bool) (xs : List TxnId) → ((u : TxnId) → IsAmong u xs → f u ≡ g u) → filter f xs ≡ filter g xs
same-filtered f g [] same = refl
same-filtered f g (x ∷ xs) same =
    ap₂ (λ (b : Bool) (ys : List TxnId). cond b (x ∷ ys) ys) (same x (inl refl)) (same-filtered f g xs (λ u a. same u (inr a)))

module _ (t : TxnId) (m : State) (runs : (m.part t).life ≡ Life.Running) (opened : NotShut m) (kept : Kept m) (placed : LivesAreSound m)
    (listed : Listed m) (marked : Marked m) (recoverers : Recoverers m) where
  abbrev i : ℕ
  i = home t

  abbrev mid : State
  mid = doubted t m

  works : IsAtWork (m.part t).life
  works = subst IsAtWork (sym runs) tt

  there : IsAmong t m.begun
  there = listed.there t (λ e. let clash : Life.Running ≡ Life.Gone = sym runs ∙ e in absurd (cc))

  mid-listed : Listed mid
  mid-listed = let q : Part = in_doubt (m.part t) in record {
    bounds = listed.bounds;
    there = each_txn t (λ u (p : Part). p.life ≢ Life.Gone → IsAmong u m.begun) q m.part (λ _. there) (λ u _. listed.there u);
    once = listed.once;
    doubts = each_txn t (λ u (p : Part). IsDoubt p.life → IsAmong u (m.cuts ++ t ∷ [])) q m.part (λ _. among-last m.cuts t)
        (λ u _ d. among-more m.cuts t u (listed.doubts u d));
    cut_once = once-more m.cuts t listed.cut_once (λ a. listed.cut_rests t a works);
    cut_begun = λ u a. ⊎_elim (listed.cut_begun u) (λ (e : u ≡ t). subst (λ (v : TxnId). IsAmong v m.begun) (sym e) there)
        (among-split m.cuts t u a);
    cut_rests = each_txn t (λ u (p : Part). IsAmong u (m.cuts ++ t ∷ []) → IsAtWork p.life → ⊥) q m.part (λ _ x. x)
        (λ u ne a. listed.cut_rests u (⊎_elim (λ b. b) (λ (e : u ≡ t). absurd (ne (sym e))) (among-split m.cuts t u a)));
  }

  mid-marked : Marked mid
  mid-marked = record {
    sized = each_txn t (λ u (p : Part). Sized p) (in_doubt (m.part t)) m.part
        (record { marks = tt; target = tt }) (λ u _. marked.sized u);
  }

  part-here : mid.part t ≡ in_doubt (m.part t)
  part-here = ap (λ (b : Bool). cond b (in_doubt (m.part t)) (m.part t)) (eq-same t t refl)

  part-else : (u : TxnId) → t ≢ u → mid.part u ≡ m.part u
  part-else u ne = ap (λ (b : Bool). cond b (in_doubt (m.part t)) (m.part u)) (ne-same t u ne)

  -- what holds of the parts then holds of each
  each-part : (P : Part → Part → Type 0) → P (in_doubt (m.part t)) (m.part t) → ((p : Part) → P p p) → (u : TxnId) → P (mid.part u) (m.part u)
  each-part P here same u = ⊎_elim
      (λ e. subst (λ (v : TxnId). P (mid.part v) (m.part v)) e (subst (λ (p : Part). P p (m.part t)) (sym part-here) here))
      (λ ne. subst (λ (p : Part). P p (m.part u)) (sym (part-else u ne)) (same (m.part u)))
      (cases_txn t u)

  acts-stay : (u : TxnId) → ((cut_commit t m).part u).acts ≡ (m.part u).acts
  acts-stay u = cond-acts (eqb i u.inst) (mid.part u) ∙ each-part (λ p q. p.acts ≡ q.acts) refl (λ p. refl) u

  -- of those that were cut before, nobody is t
  doubts-stay : (u : TxnId) → IsAmong u m.cuts → is_doubt ((cut_commit t m).part u).life ≡ is_doubt (m.part u).life
  doubts-stay u cut = cond-doubts (eqb i u.inst) (mid.part u) ∙ ap (λ (p : Part). is_doubt p.life)
      (part-else u (λ e. listed.cut_rests t (subst (λ (v : TxnId). IsAmong v m.cuts) (sym e) cut) works))

  doubt-now : is_doubt ((cut_commit t m).part t).life ≡ true
  doubt-now = cond-doubts (eqb i t.inst) (mid.part t) ∙ ap (λ (p : Part). is_doubt p.life) part-here

  undecided-now : undecided (cut_commit t m) Pending.Idle ≡ undecided m (Pending.Commits t)
  undecided-now =
      append-nil (filter f (m.cuts ++ t ∷ []))
      ∙ filter-append f m.cuts (t ∷ [])
      ∙ ap₂ (λ (xs ys : List TxnId). xs ++ ys) (same-filtered f g m.cuts doubts-stay)
      (ap (λ (b : Bool). cond b (t ∷ []) []) doubt-now)
    where
      f : TxnId → Bool
      f u = is_doubt ((cut_commit t m).part u).life

      g : TxnId → Bool
      g u = is_doubt (m.part u).life

  cut-values : (logs : ℕ → List Rec) (p s : ℕ) → values (cut_commit t m) Pending.Idle logs p s ≡ values m (Pending.Commits t) logs p s
  cut-values logs p s = values-by m (cut_commit t m) (Pending.Commits t) Pending.Idle logs p s refl refl acts-stay undecided-now

  pub cut-falls : IsFall i (Pending.Commits t) m (cut_commit t m)
  cut-falls = record {
    kept = cut-kept m t (subst MayCommit (sym runs) tt) kept;
    placed = cut-placed m t opened runs placed;
    listed = fallen-listed i mid mid-listed;
    marked = fallen-marked i mid mid-marked;
    recoverers = fallen-recoverers i mid (record { each = recoverers.each });
    others = λ u ne. fallen-else i mid u ne ∙ part-else u (λ e. ne (ap (λ (v : TxnId). v.inst) (sym e)));
    there = λ u e. cond-there (eqb i u.inst) (mid.part u)
        (each-part (λ p q. q.life ≡ Life.Gone → p.life ≡ Life.Gone)
        (λ is. let clash : Life.Running ≡ Life.Gone = sym runs ∙ is in absurd (cc)) (λ p is. is) u e);
    gone = λ u e. each-part (λ p q. p.life ≡ Life.Gone → q.life ≡ Life.Gone) (λ is. absurd (cc)) (λ p is. is) u
        (cond-gone (eqb i u.inst) (mid.part u) e);
    claims = λ u. cond-claims (eqb i u.inst) (mid.part u) ∙ each-part (λ p q. p.claims ≡ q.claims) refl (λ p. refl) u;
    rests = fallen-rests i mid;
    marks = λ u. ⊎_elim (λ none. inl none)
        (λ same. ⊎_elim (λ none. inl (same ∙ none)) (λ still. inr (same ∙ still))
        (each-part (λ p q. (p.marks ≡ []) ⊎ (p.marks ≡ q.marks)) (inl refl) (λ p. inr refl) u))
        (cond-marks (eqb i u.inst) (mid.part u));
    status = λ j. refl;
    epoch = λ j. refl;
    begins = λ j. refl;
    failed = λ j. omega arith;
    values = cut-values;
  }
