-- A complex that may reopen does, and a closed one may. It serves the goals of `reopenings` in laws.rt.
use Rattle.std.proofs.Common.{◌≡◌, ◌≢◌, ◌⊎◌, inl, inr, ℕ, Bool, true, false, cond, refl, sym, ap, ◌∙◌, subst, List, [], ◌∷◌, ◌++◌, append-nil, append_assoc}
use Rattle.std.proofs.lemmas.Bool.{and_parts}
use Rattle.sd_base.specs.declared.ids.TxnId.{TxnId}
use Rattle.sd_base.specs.declared.ids.Rid.{Rid}
use Rattle.sd_base.specs.declared.place.Status.{Status}
use Rattle.sd_base.specs.declared.place.Status.TheVariants.{Down, Clean, Closed}
use Rattle.sd_model.specs.declared.act.Claim.{Claim}
use Rattle.sd_model.specs.declared.act.Claim.TheVariants.{Free, Excl}
use Rattle.sd_model.specs.declared.act.Cut.TheVariants.{Committing}
use Rattle.sd_model.specs.declared.act.Done.{Done}
use Rattle.sd_model.specs.declared.act.Life.{Life}
use Rattle.sd_model.specs.declared.act.Life.TheVariants.{Gone, Running, Retained, Rolling, Doubt}
use Rattle.sd_model.specs.Tables.{Contents}
use Rattle.sd_model.specs.Acts.{after}
use Rattle.sd_model.specs.State.{State, Part, now, gone, committed}
use Rattle.sd_model.specs.Changes.{commit_all, AreInDoubt, HasLoser, IsLoser, Reopened}
use Rattle.sd_model.specs.Applies.{IsLost}
use Rattle.sd_model.specs.Apart.{done_of, dones}
use Rattle.sd_model.specs.Lives.{SuitsStatus, LivesAreSound}
use Rattle.sd_model.specs.Listed.{IsAmong, NoneTwice, Listed}
use Rattle.sd_model.specs.Finishing.{is_doubt, picks, picked, standing}
use Rattle.sd_model.specs.Reopening.{MayReopen, Finds, left_part, reopened}
use Rattle.sd_model.proofs.Counting.{filter-among, filter-once}
use Rattle.sd_base.proofs.SameIds.{ne-same}

claim : (b : Bool) (old : Claim) → (b ≡ true → old ≡ Excl)
    → (cond {A = Claim} b Excl Free ≡ Free) ⊎ ((cond {A = Claim} b Excl Free ≡ Excl) × (old ≡ Excl))
claim true old held = inr (refl, held refl)
claim false old held = inl refl

left : (stays : Bool) (holds : Rid → Bool) (p : Part) → (stays ≡ true → IsLost p.life)
    → ((r : Rid) → stays ≡ true → holds r ≡ true → p.claims r ≡ Excl)
    → (left_part stays holds p ≡ gone) ⊎ IsLoser p (left_part stays holds p)
left false holds p lives held = inl refl
left true holds p lives held = inr (record {
  was = lives refl;
  life = refl;
  acts = refl;
  marks = refl;
  claims = λ r. claim (holds r) (p.claims r) (held r refl);
})

retained : (stays : Bool) (holds : Rid → Bool) (p : Part) → (left_part stays holds p).life ≡ Retained → stays ≡ true
retained true holds p is = refl
retained false holds p is = absurd (cc)

staying : (stays : Bool) (holds : Rid → Bool) (p : Part) → stays ≡ true → (left_part stays holds p).life ≡ Retained
staying true holds p is = refl
staying false holds p is = absurd (cc)

down_is : (b : Bool) → b ≡ true → cond {A = Status} b Down Clean ≡ Down
down_is true is = refl
down_is false is = absurd (cc)

either : (lost : Bool) → (cond {A = Status} lost Down Clean ≡ Clean) ⊎ (cond {A = Status} lost Down Clean ≡ Down)
either true = inr refl
either false = inl refl

module _ (kept : List TxnId) (stays : TxnId → Bool) (holds : TxnId → Rid → Bool) (lost : Bool) (is_down : ℕ → Bool) (m : State)
    (may : MayReopen kept stays holds lost is_down m) where
  abbrev there : State
  there = reopened kept stays holds is_down m

  with-loser : (i : ℕ) → HasLoser there i → is_down i ≡ true
  with-loser i h = subst (λ (n : ℕ). is_down n ≡ true) h.1
      (may.down h.0 (retained (stays h.0) (holds h.0) ((commit_all kept m).part h.0) h.2))

  without : (i : ℕ) → (HasLoser there i → ⊥) → (t : TxnId) → t.inst ≡ i → stays t ≡ true → ⊥
  without i empty t own is = empty (t, own, staying (stays t) (holds t) ((commit_all kept m).part t) is)

  pub reopened-reopens : Reopened m there
  reopened-reopens = (
    kept,
    may.doubt,
    record {
      start = refl;
      done = refl;
      begun = refl;
      cuts = refl;
      part = λ t. left (stays t) (holds t) ((commit_all kept m).part t) (may.lives t) (may.claims t);
      inst = λ i. refl;
      down = λ i h. down_is (is_down i) (with-loser i h);
      others = (
        cond {A = Status} lost Down Clean,
        either lost,
        λ i empty.
            subst (λ (b : Bool). cond {A = Status} (is_down i) Down Clean ≡ cond {A = Status} b Down Clean)
            (may.others i (without i empty)) refl,
      );
    },
  )

-- a commit leaves the others' parts
one_part : (m : State) (t u : TxnId) → t ≢ u → (committed t m).part u ≡ m.part u
one_part m t u ne = ap (λ (b : Bool). cond {A = Part} b gone (m.part u)) (ne-same t u ne)

other-than : (t u : TxnId) (ts : List TxnId) → NoneTwice (t ∷ ts) → IsAmong u ts → t ≢ u
other-than t u ts once a e = once.0 (subst (λ (x : TxnId). IsAmong x ts) (sym e) a)

all_part : (m : State) (ts : List TxnId) (u : TxnId) → (IsAmong u ts → ⊥) → (commit_all ts m).part u ≡ m.part u
all_part m [] u none = refl
all_part m (t ∷ ts) u none = all_part (committed t m) ts u (λ a. none (inr a)) ∙ one_part m t u (λ e. none (inl (sym e)))

all_start : (m : State) (ts : List TxnId) → (commit_all ts m).start ≡ m.start
all_start m [] = refl
all_start m (t ∷ ts) = all_start (committed t m) ts

same_dones : (m : State) (t : TxnId) (ts : List TxnId) → ((u : TxnId) → IsAmong u ts → t ≢ u) → dones (committed t m) ts ≡ dones m ts
same_dones m t [] far = refl
same_dones m t (u ∷ us) far =
    ap (λ (p : Part). record { txn = u; acts = p.acts } ∷ dones (committed t m) us) (one_part m t u (far u (inl refl)))
    ∙ ap (λ (ds : List Done). done_of m u ∷ ds) (same_dones m t us (λ v a. far v (inr a)))

-- commits one after another add those that are committed, in their order
all_done : (m : State) (ts : List TxnId) → NoneTwice ts → (commit_all ts m).done ≡ m.done ++ dones m ts
all_done m [] once = sym (append-nil m.done)
all_done m (t ∷ ts) once =
    all_done (committed t m) ts once.1
    ∙ ap (λ (ds : List Done). (m.done ++ done_of m t ∷ []) ++ ds) (same_dones m t ts (λ u a. other-than t u ts once a))
    ∙ append_assoc m.done (done_of m t ∷ []) (dones m ts)

in_doubt : (m : State) (ts : List TxnId) → NoneTwice ts → ((u : TxnId) → IsAmong u ts → (m.part u).life ≡ Doubt Committing) → AreInDoubt m ts
in_doubt m [] once each = tt
in_doubt m (t ∷ ts) once each = (
  each t (inl refl),
  in_doubt (committed t m) ts once.1
      (λ u a. ap (λ (p : Part). p.life) (one_part m t u (other-than t u ts once a)) ∙ each u (inr a)),
)

doubt_is : (l : Life) → is_doubt l ≡ true → l ≡ Doubt Committing
doubt_is Gone is = absurd (cc)
doubt_is Running is = absurd (cc)
doubt_is Retained is = absurd (cc)
doubt_is (Rolling to) is = absurd (cc)
doubt_is (Doubt Committing) is = refl

-- whoever is there while its instance is closed lost or is in doubt
closed_life : (l : Life) → l ≢ Gone → SuitsStatus l Closed → IsLost l
closed_life Gone ne s = absurd (ne refl)
closed_life Running ne s = absurd s
closed_life Retained ne s = inl refl
closed_life (Rolling to) ne s = absurd s
closed_life (Doubt cut) ne s = inr (cut, refl)

module _ (commits : TxnId → Bool) (m : State) (l : Listed m) where
  abbrev kept : List TxnId
  kept = picked m commits

  kept_once : NoneTwice kept
  kept_once = filter-once (picks m commits) m.cuts l.cut_once

  kept_is : (t : TxnId) → IsAmong t kept → (is_doubt (m.part t).life ≡ true) × (commits t ≡ true)
  kept_is t a = and_parts (is_doubt (m.part t).life) (commits t) (filter-among (picks m commits) m.cuts t a).1

  pub reopened-stands : (stays : TxnId → Bool) (holds : TxnId → Rid → Bool) (is_down : ℕ → Bool)
      → now (reopened kept stays holds is_down m) ≡ standing m commits
  reopened-stands stays holds is_down =
      ap (λ (s : Contents). after s (commit_all kept m).done) (all_start m kept) ∙ ap (after m.start) (all_done m kept kept_once)

  pub closed-may : (stays : TxnId → Bool) (holds : TxnId → Rid → Bool) (lost : Bool) (is_down : ℕ → Bool)
      → LivesAreSound m → ((i : ℕ) → (m.inst i).status ≡ Closed) → Finds commits stays holds lost is_down m → MayReopen kept stays holds lost is_down m
  closed-may stays holds lost is_down p shut f = record {
    doubt = in_doubt m kept kept_once (λ u a. doubt_is (m.part u).life (kept_is u a).0);
    lives = λ t is. subst (λ (q : Part). IsLost q.life) (sym (same t is))
        (closed_life (m.part t).life (f.there t is) (subst (SuitsStatus (m.part t).life) (shut t.inst) (p.stands t)));
    claims = λ t r is has. ap (λ (q : Part). q.claims r) (same t is) ∙ f.claims t r is has;
    down = f.down;
    others = f.others;
  }
    where
      same : (t : TxnId) → stays t ≡ true → (commit_all kept m).part t ≡ m.part t
      same t is = all_part m kept t (λ a. let yes = (kept_is t a).1 in let no = f.uncommitted t is in absurd (cc))
