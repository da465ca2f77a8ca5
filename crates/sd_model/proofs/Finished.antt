-- The end of a recovery leaves the table that stands. It serves the goals of `finishings` in laws.rt.
use Rattle.std.proofs.Common.{◌≡◌, ◌≢◌, inl, inr, ⊎_elim, ℕ, Bool, true, false, ◌&&◌, cond, eqb, eqb-true, eq-eqb, refl, sym, subst, ap, ◌∙◌, List, [], ◌∷◌, ◌++◌, filter}
use Rattle.std.proofs.lemmas.Bool.{cases_Bool, and_parts, and_left, and_right}
use Rattle.sd_base.specs.declared.ids.TxnId.{TxnId}
use Rattle.sd_base.specs.declared.ids.Rid.{Rid}
use Rattle.sd_model.specs.declared.act.Cut.TheVariants as Cut
use Rattle.sd_model.specs.declared.act.Done.{Done}
use Rattle.sd_model.specs.declared.act.Life.{Life}
use Rattle.sd_model.specs.declared.act.Life.TheVariants.{Gone, Running, Retained, Rolling, Doubt}
use Rattle.sd_model.specs.Tables.{Contents}
use Rattle.sd_model.specs.Acts.{Puts, after, live, seen_over}
use Rattle.sd_model.specs.State.{State, Part, gone}
use Rattle.sd_model.specs.Changes.{swept, swept_part, is_swept, commit_all}
use Rattle.sd_model.specs.Apart.{done_of, dones}
use Rattle.sd_model.specs.Kept.{Kept}
use Rattle.sd_model.specs.Lives.{LivesAreSound, IsDoubt}
use Rattle.sd_model.specs.Listed.{IsAmong, NoneTwice, Listed}
use Rattle.sd_model.specs.Finishing.{is_doubt, picks, standing}
use Rattle.sd_model.proofs.Moves.{doubt-may}
use Rattle.sd_model.proofs.Swap.{after-agree, after-append, kept-disjoint, seen-swap}
use Rattle.sd_base.proofs.SameIds.{ne-same}

pub doubt_of : (l : Life) → is_doubt l ≡ true → IsDoubt l
doubt_of Gone is = absurd (cc)
doubt_of Running is = absurd (cc)
doubt_of Retained is = absurd (cc)
doubt_of (Rolling to) is = absurd (cc)
doubt_of (Doubt cut) is = tt

unless_gone : (b : Bool) (p : Part) → (b ≡ false → is_doubt p.life ≡ false) → is_doubt (cond {A = Part} b gone p).life ≡ false
unless_gone true p f = refl
unless_gone false p f = f refl

unswept : (l : Life) → is_swept l ≡ false → is_doubt l ≡ false
unswept Gone e = refl
unswept Running e = refl
unswept Retained e = refl
unswept (Rolling to) e = refl
unswept (Doubt cut) e = absurd (cc)

-- a part that was swept isn't in doubt
swept_off : (p : Part) → is_doubt (swept_part p).life ≡ false
swept_off p = unless_gone (is_swept p.life) p (unswept p.life)

-- those of the list that are picked, as they would stand among the committed ones
abbrev pub chosen : State → (TxnId → Bool) → List TxnId → List Done
chosen m f us = dones m (filter f us)

taken : (m : State) (f : TxnId → Bool) (u : TxnId) (us : List TxnId) → f u ≡ true → chosen m f (u ∷ us) ≡ done_of m u ∷ chosen m f us
taken m f u us is = ap (λ (b : Bool). dones m (cond {A = List TxnId} b (u ∷ filter f us) (filter f us))) is

passed : (m : State) (f : TxnId → Bool) (u : TxnId) (us : List TxnId) → f u ≡ false → chosen m f (u ∷ us) ≡ chosen m f us
passed m f u us is = ap (λ (b : Bool). dones m (cond {A = List TxnId} b (u ∷ filter f us) (filter f us))) is

module _ (m n : State) (f g : TxnId → Bool) where
  -- u is picked alike in both, and then with the same part
  abbrev Alike : TxnId → Type 0
  Alike u = (g u ≡ f u) × (f u ≡ true → n.part u ≡ m.part u)

  -- one that is picked comes first in both
  both-taken : (u : TxnId) (us : List TxnId) → Alike u → f u ≡ true → chosen n g (u ∷ us) ≡ done_of m u ∷ chosen n g us
  both-taken u us same is = taken n g u us (same.0 ∙ is) ∙ ap (λ (p : Part). record { txn = u; acts = p.acts } ∷ chosen n g us) (same.1 is)

  -- where each is picked alike, the same ones are chosen
  alike : (us : List TxnId) → ((u : TxnId) → IsAmong u us → Alike u) → chosen n g us ≡ chosen m f us
  alike [] same = refl
  alike (u ∷ us) same =
      let here = same u (inl refl) in
      let rest = alike us (λ v a. same v (inr a)) in
      ⊎_elim
      (λ is. both-taken u us here is ∙ ap (λ (ds : List Done). done_of m u ∷ ds) rest ∙ sym (taken m f u us is))
      (λ no. passed n g u us (here.0 ∙ no) ∙ rest ∙ sym (passed m f u us no))
      (cases_Bool (f u))

module _ (m : State) (i : ℕ) (kept : TxnId → Bool) where
  -- a sweep of i leaves u as it was picked, where u isn't picked at i
  swept-alike : (n : State) (u : TxnId) (b : Bool) → eqb i u.inst ≡ b → n.part u ≡ m.part u → (u.inst ≡ i → picks m kept u ≡ false)
      → Alike m (swept i n) (picks m kept) (picks (swept i n) kept) u
  swept-alike n u true e same none =
      let part : (swept i n).part u ≡ swept_part (n.part u) = ap (λ (b : Bool). cond {A = Part} b (swept_part (n.part u)) (n.part u)) e in
      let off : is_doubt ((swept i n).part u).life ≡ false = ap (λ (p : Part). is_doubt p.life) part ∙ swept_off (n.part u) in
      let unpicked : picks m kept u ≡ false = none (sym (eqb-true i u.inst e)) in
      (and_left (is_doubt ((swept i n).part u).life) (kept u) off ∙ sym unpicked, λ is. absurd (cc))
  swept-alike n u false e same none =
      let part : (swept i n).part u ≡ m.part u = ap (λ (b : Bool). cond {A = Part} b (swept_part (n.part u)) (n.part u)) e ∙ same in
      (ap (λ (p : Part). is_doubt p.life && kept u) part, λ is. part)

  pub finished-empty : ((t : TxnId) → t.inst ≡ i → IsDoubt (m.part t).life → kept t ≡ false)
      → (r : Rid) → standing (swept i (commit_all [] m)) kept r ≡ standing m kept r
  finished-empty none r = ap (λ (ds : List Done). after m.start (m.done ++ ds) r)
      (alike m (swept i m) (picks m kept) (picks (swept i m) kept) m.cuts (λ u _. swept-alike m u (eqb i u.inst) refl refl (unpicked u)))
    where
      unpicked : (u : TxnId) → u.inst ≡ i → picks m kept u ≡ false
      unpicked u own = ⊎_elim
          (λ is. and_right (is_doubt (m.part u).life) (kept u) (none u own (doubt_of (m.part u).life is)))
          (λ no. and_left (is_doubt (m.part u).life) (kept u) no)
          (cases_Bool (is_doubt (m.part u).life))

module _ (m : State) (k : Kept m) (pl : LivesAreSound m) (i : ℕ) (t : TxnId) (own : t.inst ≡ i) (life : (m.part t).life ≡ Doubt Cut.Committing)
    (kept : TxnId → Bool) (found : kept t ≡ true) where
  abbrev mid : State
  mid = commit_all (t ∷ []) m

  abbrev end : State
  end = swept i mid

  abbrev f : TxnId → Bool
  f = picks m kept

  abbrev g : TxnId → Bool
  g = picks end kept

  abbrev puts : TxnId → Puts
  puts u = live (m.part u).acts

  t_doubt : IsDoubt (m.part t).life
  t_doubt = subst IsDoubt (sym life) tt

  t_picked : f t ≡ true
  t_picked = ap (λ (l : Life). is_doubt l && kept t) life ∙ found

  -- t is the one in doubt of i, and the others are picked as before
  other : (u : TxnId) → t ≢ u → Alike m end f g u
  other u ne = swept-alike m i kept mid u (eqb i u.inst) refl
      (ap (λ (b : Bool). cond {A = Part} b gone (m.part u)) (ne-same t u ne))
      (λ at. and_left (is_doubt (m.part u).life) (kept u) (⊎_elim
      (λ is. absurd (ne (pl.one t u t_doubt (doubt_of (m.part u).life is) (own ∙ sym at))))
      (λ no. no) (cases_Bool (is_doubt (m.part u).life))))

  t_gone : g t ≡ false
  t_gone =
      let p : Part = mid.part t in
      let part : end.part t ≡ swept_part p = ap (λ (b : Bool). cond {A = Part} b (swept_part p) p) (eq-eqb i t.inst (sym own)) in
      and_left (is_doubt (end.part t).life) (kept t) (ap (λ (q : Part). is_doubt q.life) part ∙ swept_off p)

  -- one that is picked puts no record in common with t
  swaps : (u : TxnId) → t ≢ u → f u ≡ true → (base : Contents) (ds : List Done) (r : Rid)
      → after (seen_over (seen_over base (puts t)) (puts u)) ds r ≡ after (seen_over (seen_over base (puts u)) (puts t)) ds r
  swaps u ne is base ds r =
      let doubt = doubt_of (m.part u).life (and_parts (is_doubt (m.part u).life) (kept u) is).0 in
      after-agree (seen_over (seen_over base (puts t)) (puts u)) (seen_over (seen_over base (puts u)) (puts t)) ds r
      (seen-swap (puts t) (puts u) (kept-disjoint m k t u ne (doubt-may (m.part t).life t_doubt) (doubt-may (m.part u).life doubt)) base r)

  -- over any table: t first and then those that are still picked, or all as they are listed
  moved : (base : Contents) (us : List TxnId) → NoneTwice us → IsAmong t us → (r : Rid)
      → after base (done_of m t ∷ chosen end g us) r ≡ after base (chosen m f us) r
  moved base [] once a r = absurd a
  moved base (u ∷ us) once (inl e) r =
      let others = λ (v : TxnId) (b : IsAmong v us). other v (λ same. once.0 (subst (λ (x : TxnId). IsAmong x us) (sym same ∙ e) b)) in
      let left : chosen end g (u ∷ us) ≡ chosen m f us =
      passed end g u us (subst (λ (w : TxnId). g w ≡ false) e t_gone) ∙ alike m end f g us others in
      ap (λ (ds : List Done). after base (done_of m t ∷ ds) r) left
      ∙ ap (λ (w : TxnId). after base (done_of m w ∷ chosen m f us) r) e
      ∙ sym (ap (λ (ds : List Done). after base ds r) (taken m f u us (subst (λ (w : TxnId). f w ≡ true) e t_picked)))
  moved base (u ∷ us) once (inr a) r =
      let ne : t ≢ u = λ e. once.0 (subst (λ (w : TxnId). IsAmong w us) e a) in
      let o = other u ne in
      ⊎_elim
      (λ is. ap (λ (ds : List Done). after base (done_of m t ∷ ds) r) (both-taken m end f g u us o is)
      ∙ swaps u ne is base (chosen end g us) r
      ∙ moved (seen_over base (puts u)) us once.1 a r
      ∙ sym (ap (λ (ds : List Done). after base ds r) (taken m f u us is)))
      (λ no. ap (λ (ds : List Done). after base (done_of m t ∷ ds) r) (passed end g u us (o.0 ∙ no))
      ∙ moved base us once.1 a r
      ∙ sym (ap (λ (ds : List Done). after base ds r) (passed m f u us no)))
      (cases_Bool (f u))

  pub finished-committed : Listed m → (r : Rid) → standing end kept r ≡ standing m kept r
  finished-committed l r =
      let left : List Done = chosen end g m.cuts in
      ap (λ (h : Contents). h r) (after-append m.start (m.done ++ done_of m t ∷ []) left
      ∙ ap (λ (h : Contents). after h left) (after-append m.start m.done (done_of m t ∷ [])))
      ∙ moved (after m.start m.done) m.cuts l.cut_once (l.doubts t t_doubt) r
      ∙ sym (ap (λ (h : Contents). h r) (after-append m.start m.done (chosen m f m.cuts)))
