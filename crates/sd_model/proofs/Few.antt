-- An instance that is up or restarting has at most 64 unresolved transactions.
use Rattle.std.proofs.Common.{◌≡◌, ◌≢◌, ◌⊎◌, inl, inr, ⊎_elim, ℕ, ◌+◌, ◌≤◌, ◌<◌, Bool, true, false, cond, eqb, ◌&&◌, List, [], ◌∷◌, ◌++◌, Option, None, Some, length, filter, refl, sym, ap, ◌∙◌, subst, arith, eqb-true}
use Rattle.sd_base.specs.declared.ids.TxnId.{TxnId}
use Rattle.sd_base.specs.declared.place.Status.{Status}
use Rattle.sd_base.specs.declared.place.Status.TheVariants.{Up, Down, Recovering, Clean, Restarting, Closed}
use Rattle.sd_model.specs.declared.act.Inst.{Inst}
use Rattle.sd_model.specs.declared.act.Life.{Life}
use Rattle.sd_model.specs.declared.act.Life.TheVariants.{Gone, Running, Retained, Rolling, Doubt}
use Rattle.sd_model.specs.declared.event.Event.{Event}
use Rattle.sd_model.specs.declared.event.Event.TheVariants.{Begin, Read, Write, Add, Insert, Delete, Save, Back, Undo, Commit, List as Listing, Ask, Give, Take, Evict, Flush, Force, CheckBegin, CheckEnd, Fail, FailAll, RecoverBegin, RecoverStep, Join, Reopen, Arm, Show}
use Rattle.sd_model.specs.declared.event.Reply.{Reply}
use Rattle.sd_model.specs.declared.event.Reply.TheVariants.{Began, Value, Did, At, Rows, Have, Asked, Gave, Step as Stepped, Finished, Joined, Shown, Refused}
use Rattle.sd_base.proofs.SameIds.{each_txn}
use Rattle.std.proofs.lemmas.Bool.{cases_Bool, cases_lt}
use Rattle.sd_model.specs.State.{State, Part, begun_part, gone, put_part, put_inst, with_status, fall, closed, committed, began, joined}
use Rattle.sd_model.specs.Changes.{commit_all, AreInDoubt, Left, after_recovery, swept}
use Rattle.sd_model.specs.declared.cause.Cause.{Cause}
use Rattle.sd_model.specs.declared.cause.Cause.TheVariants.{NoRecord, NotNumber, Over, Digits, Rig, Cut}
use Rattle.sd_model.specs.Applies.{Clear, TakesChecks, count_of, is_unresolved}
use Rattle.sd_model.specs.Fields.{txn_of}
use Rattle.sd_model.specs.Few.{Few, FewSteps}
use Rattle.sd_model.specs.Kept.{MayCommit}
use Rattle.sd_model.specs.Listed.{Listed}
use Rattle.sd_model.specs.Lives.{LivesAreSound, MayRun, IsFallen, SuitsStatus}
use Rattle.sd_model.specs.Refusing.{Refuses, counted}
use Rattle.sd_model.specs.Step.{Row, Step}
use Rattle.sd_model.specs.StepLaws.{next_txn}
use Rattle.sd_model.proofs.Listed.{count-began}
use Rattle.sd_model.proofs.Moves.{Calm, doubted, in_doubt, is_up, runs-works, rolls-works, life-calm, gone-calm, works-calm, inst-calm, rest-calm, fall-calm, closed-calm, swept-calm, left-calm}
use Rattle.sd_model.proofs.Placed.{each_inst}
use Rattle.sd_model.proofs.PlacedRun.{step-placed}

-- ---- counts

fewer-pass : (p q : TxnId → Bool) (xs : List TxnId) → ((t : TxnId) → p t ≡ true → q t ≡ true) → length (filter p xs) ≤ length (filter q xs)
fewer-pass p q [] h = omega arith
fewer-pass p q (x ∷ xs) h = go (p x) (q x) (h x) (fewer-pass p q xs h)
  where
    go : (a b : Bool) → (a ≡ true → b ≡ true) → length (filter p xs) ≤ length (filter q xs)
        → length (cond {A = List TxnId} a (x ∷ filter p xs) (filter p xs)) ≤ length (cond {A = List TxnId} b (x ∷ filter q xs) (filter q xs))
    go true true h ih = omega (arith, ih)
    go true false h ih = let c = h refl in absurd (cc)
    go false true h ih = omega (arith, ih)
    go false false h ih = ih

none-pass : (p : TxnId → Bool) (xs : List TxnId) → ((t : TxnId) → p t ≡ false) → length (filter p xs) ≡ 0
none-pass p [] h = refl
none-pass p (x ∷ xs) h = ap (λ (b : Bool). length (cond {A = List TxnId} b (x ∷ filter p xs) (filter p xs))) (h x) ∙ none-pass p xs h

there-still : (a : Bool) (new old : Life) → (new ≢ Gone → old ≢ Gone) → (a && is_unresolved new) ≡ true → (a && is_unresolved old) ≡ true
there-still false new old h e = e
there-still true new old h e = was old (h (λ g. let c = sym e ∙ ap is_unresolved g in absurd (cc)))
  where
    was : (l : Life) → l ≢ Gone → is_unresolved l ≡ true
    was Gone ne = absurd (ne refl)
    was Running ne = refl
    was Retained ne = refl
    was (Rolling to) ne = refl
    was (Doubt cut) ne = refl

-- nobody more is counted
counted-less : (m m' : State) → m'.begun ≡ m.begun → ((t : TxnId) → (m'.part t).life ≢ Gone → (m.part t).life ≢ Gone) → (i : ℕ)
    → count_of m' i ≤ count_of m i
counted-less m m' same there i = subst (λ (xs : List TxnId). length (filter (λ t. eqb t.inst i && is_unresolved (m'.part t).life) xs) ≤ count_of m i)
    (sym same) (fewer-pass (λ t. eqb t.inst i && is_unresolved (m'.part t).life) (λ t. eqb t.inst i && is_unresolved (m.part t).life) m.begun
    (λ t e. there-still (eqb t.inst i) (m'.part t).life (m.part t).life (there t) e))

-- none of an instance where nobody runs and nobody fell
nobody-counted : (m : State) (i : ℕ) → LivesAreSound m → (MayRun (m.inst i).status → ⊥) → (IsFallen (m.inst i).status → ⊥) → count_of m i ≡ 0
nobody-counted m i placed runs fell = none-pass (λ t. eqb t.inst i && is_unresolved (m.part t).life) m.begun
    (λ t. off (eqb t.inst i) (m.part t).life (λ e. subst (λ (j : ℕ). SuitsStatus (m.part t).life (m.inst j).status) (eqb-true t.inst i e) (placed.stands t)))
  where
    off : (a : Bool) (l : Life) → (a ≡ true → SuitsStatus l (m.inst i).status) → (a && is_unresolved l) ≡ false
    off false l h = refl
    off true Gone h = refl
    off true Running h = absurd (runs (h refl))
    off true Retained h = absurd (fell (h refl))
    off true (Rolling to) h = absurd (runs (h refl))
    off true (Doubt cut) h = absurd (fell (h refl))

-- ---- who is up was up, and has no more

abbrev Fewer : State → State → Type 0
Fewer m m' = (i : ℕ) → (m'.inst i).status ≡ Up → ((m.inst i).status ≡ Up) × (count_of m' i ≤ count_of m i)

fewer-then : (a b c : State) → Fewer a b → Fewer b c → Fewer a c
fewer-then a b c f g i up = let y = g i up in let x = f i y.0 in (x.0, let p = x.1 in let q = y.1 in omega (arith, p, q))

calm-fewer : (m m' : State) → Calm m m' → ((i : ℕ) → (m'.inst i).epoch ≡ (m.inst i).epoch) → Fewer m m'
calm-fewer m m' c same i up = (
  ⊎_elim (λ lt. let e = same i in absurd (omega (arith, lt, e))) (λ r. (r.1 up).0) (c.inst i),
  counted-less m m' c.begun (λ t. (c.part t).there) i,
)

committed-fewer : (m : State) (t : TxnId) → Fewer m (committed t m)
committed-fewer m t i up = (up, counted-less m (committed t m) refl (λ u. ((gone-calm m t).part u).there) i)

commit_all-fewer : (kept : List TxnId) (m : State) → Fewer m (commit_all kept m)
commit_all-fewer [] m = λ i up. (up, omega arith)
commit_all-fewer (t ∷ ts) m = fewer-then m (committed t m) (commit_all ts (committed t m)) (committed-fewer m t) (commit_all-fewer ts (committed t m))

same-fewer : (m m' : State) → m' ≡ m → Fewer m m'
same-fewer m m' e = subst (Fewer m) (sym e) (λ i up. (up, omega arith))

-- another status in the place of one
status-epoch : (m : State) (i : ℕ) (s : Status) (j : ℕ) → ((put_inst i (with_status s (m.inst i)) m).inst j).epoch ≡ (m.inst j).epoch
status-epoch m i s j = each_inst i (λ k (x : Inst). x.epoch ≡ (m.inst k).epoch) (with_status s (m.inst i)) m.inst refl (λ k _. refl) j

part-fewer : (m : State) (t : TxnId) (q : Part) → q.life ≡ (m.part t).life → Fewer m (put_part t q m)
part-fewer m t q e = calm-fewer m (put_part t q m) (life-calm m t q e) (λ i. refl)

-- neither a begin nor a join
abbrev IsOther : Event → Type 0
IsOther (Begin i) = ⊥
IsOther (Join i) = ⊥
IsOther e = Unit {0}

row-fewer : (m : State) (e : Event) (reply : Reply) (m' : State) → IsOther e → Clear m e → Row m e reply m' → Fewer m m'
row-fewer m (Begin i) (Began x) m' o c h = absurd o
row-fewer m (Join i) (Joined epoch) m' o c h = absurd o
row-fewer m (Read t r) (Value v) m' o c h = subst (Fewer m) (sym h.2) (part-fewer m t _ refl)
row-fewer m (Write t r new) Did m' o c h = subst (Fewer m) (sym h.3) (part-fewer m t _ refl)
row-fewer m (Add t r by) Did m' o c h = subst (Fewer m) (sym h.5) (part-fewer m t _ refl)
row-fewer m (Delete t r) Did m' o c h = subst (Fewer m) (sym h.3) (part-fewer m t _ refl)
row-fewer m (Insert t q new capacity) (At r) m' o c h = subst (Fewer m) (sym h.4) (part-fewer m t _ refl)
row-fewer m (Save t name) Did m' o c h = subst (Fewer m) (sym h.1) (part-fewer m t _ refl)
row-fewer m (Back t (Some name)) Did m' o c h = subst (Fewer m) (sym h.3)
    (calm-fewer m _ (works-calm m t (Rolling (Some h.0)) (runs-works _ h.1) (λ d. d)) (λ i. refl))
row-fewer m (Back t None) Did m' o c h = subst (Fewer m) (sym h.1)
    (calm-fewer m _ (works-calm m t (Rolling None) (⊎_elim (runs-works _) (λ x. rolls-works _ x.0 x.1) h.0) (λ d. d)) (λ i. refl))
row-fewer m (Undo t) Stepped m' o c h = subst (Fewer m) (sym h.3) (part-fewer m t _ refl)
row-fewer m (Undo t) Finished m' o c (inl h) = same-fewer m m' h.1
row-fewer m (Undo t) Finished m' o c (inr (inl h)) = subst (Fewer m) (sym h.3)
    (calm-fewer m _ (works-calm m t Running (rolls-works _ (Some h.0) h.1) (λ d. d)) (λ i. refl))
row-fewer m (Undo t) Finished m' o c (inr (inr h)) = subst (Fewer m) (sym h.2) (calm-fewer m _ (gone-calm m t) (λ i. refl))
row-fewer m (Commit t) Did m' o c h = subst (Fewer m) (sym h.1) (committed-fewer m t)
row-fewer m (Listing i q) (Rows rows) m' o c h = same-fewer m m' h.1
row-fewer m (Fail i) Did m' o c h = subst (Fewer m) (sym h) (calm-fewer m _ (fall-calm i m) (λ k. refl))
row-fewer m (FailAll pick) Did m' o c h = subst (Fewer m) (sym h) (calm-fewer m _ (closed-calm m) (λ k. refl))
row-fewer m Reopen Did m' o c h = fewer-then m (commit_all h.0 m) m' (commit_all-fewer h.0 m)
    (calm-fewer (commit_all h.0 m) m' (left-calm (commit_all h.0 m) m' h.2) (λ k. ap (λ (x : Inst). x.epoch) (h.2.inst k)))
row-fewer m (RecoverBegin i by) Did m' o c h = subst (Fewer m) (sym h)
    (calm-fewer m _ (rest-calm m i (Recovering by) (λ e. subst MayRun (sym e) tt)) (status-epoch m i (Recovering by)))
row-fewer m (RecoverStep i) Stepped m' o c h = same-fewer m m' h
row-fewer m (RecoverStep i) Finished m' o c h = subst (Fewer m) (sym h.4)
    (fewer-then m (commit_all h.0 m) (swept i (commit_all h.0 m)) (commit_all-fewer h.0 m)
    (calm-fewer (commit_all h.0 m) (swept i (commit_all h.0 m)) (swept-calm i (commit_all h.0 m))
    (status-epoch (commit_all h.0 m) i (after_recovery i ((commit_all h.0 m).inst i).status))))
row-fewer m (Ask i q mode) Have m' o c h = same-fewer m m' h
row-fewer m (Ask i q mode) (Asked of) m' o c h = same-fewer m m' h
row-fewer m (Give i q) (Gave to) m' o c h = same-fewer m m' h
row-fewer m (Take i q) Did m' o c h = same-fewer m m' h
row-fewer m (Evict i q) Did m' o c h = same-fewer m m' h
row-fewer m (Flush i q) Did m' o c h = same-fewer m m' h
row-fewer m (Force i) Did m' o c h = same-fewer m m' h
row-fewer m (CheckBegin i) Did m' o c h = same-fewer m m' h
row-fewer m (CheckEnd i) Did m' o c h = same-fewer m m' h
row-fewer m (Show q) (Shown place lsn) m' o c h = same-fewer m m' h
row-fewer m (Arm trouble) Did m' o c h = same-fewer m m' h
row-fewer m e reply m' o c h = absurd h

-- ---- refusals

counted-fewer : (e : Event) (m : State) → Fewer m (counted e m)
counted-fewer (Join i) m = λ j up. (
  each_inst i (λ k (x : Inst). x.status ≡ Up → (m.inst k).status ≡ Up) (record (m.inst i) { failed = (m.inst i).failed + 1 }) m.inst (λ u. u) (λ k _ u. u) j up,
  omega arith,
)
counted-fewer e m = λ j up. (up, omega arith)

fall-fewer : (i : ℕ) (m : State) → Fewer m (fall i m)
fall-fewer i m = calm-fewer m (fall i m) (fall-calm i m) (λ k. refl)

doubted-fewer : (m : State) (t : TxnId) → (m.part t).life ≡ Running → Fewer m (doubted t m)
doubted-fewer m t runs i up = (
  up,
  counted-less m (doubted t m) refl
      (each_txn t (λ u (p : Part). p.life ≢ Gone → (m.part u).life ≢ Gone) (in_doubt (m.part t)) m.part
      (λ _ g. let c = sym runs ∙ g in absurd (cc)) (λ u _ ne. ne)) i,
)

refused-fewer : (m : State) (e : Event) (c : Cause) (m' : State) → Refuses m e c m' → Fewer m m'
refused-fewer m e NoRecord m' h = subst (Fewer m) (sym h) (part-fewer m (txn_of e) _ refl)
refused-fewer m e NotNumber m' h = subst (Fewer m) (sym h) (part-fewer m (txn_of e) _ refl)
refused-fewer m e Over m' h = subst (Fewer m) (sym h) (part-fewer m (txn_of e) _ refl)
refused-fewer m e Digits m' h = subst (Fewer m) (sym h) (part-fewer m (txn_of e) _ refl)
refused-fewer m e Rig m' (inl h) = subst (Fewer m) (sym h) (counted-fewer e m)
refused-fewer m e Rig m' (inr h) = subst (Fewer m) (sym h.2)
    (fewer-then m (counted e m) (fall h.0 (counted e m)) (counted-fewer e m) (fall-fewer h.0 (counted e m)))
refused-fewer m e Cut m' h = subst (Fewer m) (sym h.1)
    (fewer-then m (doubted (txn_of e) m) (fall (txn_of e).inst (doubted (txn_of e) m)) (doubted-fewer m (txn_of e) h.0)
    (fall-fewer (txn_of e).inst (doubted (txn_of e) m)))
refused-fewer m e c m' h = same-fewer m m' h

-- ---- a begin, a join

last-off : (p : TxnId → Bool) (xs : List TxnId) (x : TxnId) → p x ≡ false → length (filter p (xs ++ x ∷ [])) ≡ length (filter p xs)
last-off p [] x e = ap (λ (b : Bool). length (cond {A = List TxnId} b (x ∷ []) [])) e
last-off p (y ∷ xs) x e = go (p y) (last-off p xs x e)
  where
    go : (b : Bool) → length (filter p (xs ++ x ∷ [])) ≡ length (filter p xs)
        → length (cond {A = List TxnId} b (y ∷ filter p (xs ++ x ∷ [])) (filter p (xs ++ x ∷ []))) ≡ length (cond {A = List TxnId} b (y ∷ filter p xs) (filter p xs))
    go true ih = omega (arith, ih)
    go false ih = ih

-- a begin elsewhere
began-elsewhere : (m : State) (i : ℕ) (x : TxnId) (j : ℕ) → x.inst ≡ i → eqb i j ≡ false → count_of (began i x m) j ≤ count_of m j
began-elsewhere m i x j home off =
    let here : eqb x.inst j ≡ false = ap (λ (k : ℕ). eqb k j) home ∙ off in
    let p : TxnId → Bool = λ t. eqb t.inst j && is_unresolved ((began i x m).part t).life in
    let q : TxnId → Bool = λ t. eqb t.inst j && is_unresolved (m.part t).life in
    let one = last-off p m.begun x (ap (λ (b : Bool). b && is_unresolved ((began i x m).part x).life) here) in
    let less : length (filter p m.begun) ≤ length (filter q m.begun) = fewer-pass p q m.begun
    (each_txn x (λ u (r : Part). (eqb u.inst j && is_unresolved r.life) ≡ true → (eqb u.inst j && is_unresolved (m.part u).life) ≡ true)
    begun_part m.part (λ e. let c = sym e ∙ ap (λ (b : Bool). b && true) here in absurd (cc)) (λ u _ e. e)) in
    omega (arith, one, less)

began-few : (m : State) (i : ℕ) → (m.inst i).status ≡ Up → (64 ≤ count_of m i → ⊥) → Listed m → Few m → (j : ℕ)
    → ((began i (next_txn m i) m).inst j).status ≡ Up → count_of (began i (next_txn m i) m) j ≤ 64
began-few m i is room listed few j up = ⊎_elim
    (λ (e : eqb i j ≡ true). subst (λ (k : ℕ). count_of (began i (next_txn m i) m) k ≤ 64) (eqb-true i j e)
    (let one = count-began m i is listed in by-room (count_of m i) room one))
    (λ off. let less = began-elsewhere m i (next_txn m i) j refl off in
    let was = few j (inl (each_inst i (λ k (x : Inst). x.status ≡ Up → (m.inst k).status ≡ Up) (record (m.inst i) { begins = (m.inst i).begins + 1 }) m.inst (λ u. u) (λ k _ u. u) j up)) in
    omega (arith, less, was))
    (cases_Bool (eqb i j))
  where
    by-room : (n : ℕ) → (64 ≤ n → ⊥) → count_of (began i (next_txn m i) m) i ≡ n + 1 → count_of (began i (next_txn m i) m) i ≤ 64
    by-room n r e = let h : n < 64 = not-least n r in omega (arith, e, h)
      where
        not-least : (n : ℕ) → (64 ≤ n → ⊥) → n < 64
        not-least n r = ⊎_elim (λ lt. lt) (λ le. absurd (r le)) (cases_lt n 64)

joins-rested : (s : Status) → ((s ≡ Up) → ⊥) → ((s ≡ Down) ⊎ ((by : ℕ) × (s ≡ Recovering by)) → ⊥) → ((s ≡ Closed) → ⊥) → (MayRun s → ⊥) × (IsFallen s → ⊥)
joins-rested Up a b c = absurd (a refl)
joins-rested Down a b c = absurd (b (inl refl))
joins-rested (Recovering by) a b c = absurd (b (inr (by, refl)))
joins-rested Clean a b c = ((λ h. h), (λ h. h))
joins-rested Restarting a b c = ((λ h. h), (λ h. h))
joins-rested Closed a b c = absurd (c refl)

joined-few : (m : State) (i epoch : ℕ) → LivesAreSound m → (MayRun (m.inst i).status → ⊥) → (IsFallen (m.inst i).status → ⊥) → Few m → (j : ℕ)
    → ((joined i epoch m).inst j).status ≡ Up → count_of (joined i epoch m) j ≤ 64
joined-few m i epoch placed runs fell few j =
    each_inst i (λ k (x : Inst). x.status ≡ Up → count_of m k ≤ 64) (record { status = Up; epoch = epoch; begins = 0; failed = 0 }) m.inst
    (λ _. let none = nobody-counted m i placed runs fell in omega (arith, none)) (λ k _ u. few k (inl u)) j

-- ---- each step

row-few : (m : State) (e : Event) (reply : Reply) (m' : State) → LivesAreSound m → Listed m → Few m → Clear m e → Row m e reply m' → (j : ℕ)
    → (m'.inst j).status ≡ Up → count_of m' j ≤ 64
row-few m e reply m' placed listed few c h j up = go e c h (other e)
  where
    other : (e : Event) → IsOther e ⊎ (((i : ℕ) × (e ≡ Begin i)) ⊎ ((i : ℕ) × (e ≡ Join i)))
    other (Begin i) = inr (inl (i, refl))
    other (Join i) = inr (inr (i, refl))
    other e = inl tt

    begin : (i : ℕ) (reply : Reply) → Clear m (Begin i) → Row m (Begin i) reply m' → count_of m' j ≤ 64
    begin i (Began x) c h = subst (λ (y : State). count_of y j ≤ 64) (sym new)
        (began-few m i (is_up (m.inst i).status c.1.0) c.1.1.0 listed few j (subst (λ (y : State). (y.inst j).status ≡ Up) new up))
      where
        new : m' ≡ began i (next_txn m i) m
        new = h.1 ∙ ap (λ (y : TxnId). began i y m) h.0
    begin i reply c h = absurd h

    join : (i : ℕ) (reply : Reply) → Clear m (Join i) → Row m (Join i) reply m' → count_of m' j ≤ 64
    join i (Joined epoch) c h =
        let rest = joins-rested (m.inst i).status c.1.0 c.1.1.0 (λ e. c.0 (placed.shut i e)) in
        subst (λ (y : State). count_of y j ≤ 64) (sym h.2)
        (joined-few m i epoch placed rest.0 rest.1 few j (subst (λ (y : State). (y.inst j).status ≡ Up) h.2 up))
    join i reply c h = absurd h

    go : (e : Event) → Clear m e → Row m e reply m' → IsOther e ⊎ (((i : ℕ) × (e ≡ Begin i)) ⊎ ((i : ℕ) × (e ≡ Join i))) → count_of m' j ≤ 64
    go e c h (inl o) = let f = row-fewer m e reply m' o c h j up in let was = few j (inl f.0) in let less = f.1 in omega (arith, was, less)
    go e c h (inr (inl b)) = begin b.0 reply (subst (Clear m) b.1 c) (subst (λ (x : Event). Row m x reply m') b.1 h)
    go e c h (inr (inr b)) = join b.0 reply (subst (Clear m) b.1 c) (subst (λ (x : Event). Row m x reply m') b.1 h)

up-few : (m : State) (e : Event) (reply : Reply) (m' : State) → Step m e reply m' → LivesAreSound m → Listed m → Few m → (j : ℕ)
    → (m'.inst j).status ≡ Up → count_of m' j ≤ 64
up-few m e (Refused n) m' s placed listed few j up =
    let f = refused-fewer m e s.0 m' s.4 j up in let was = few j (inl f.0) in let less = f.1 in omega (arith, was, less)
up-few m e reply m' s placed listed few j up = row-few m e reply m' placed listed few s.0 s.1 j up

pub few-steps : FewSteps
few-steps m e reply m' s placed listed few i (inl up) = up-few m e reply m' s placed listed few i up
few-steps m e reply m' s placed listed few i (inr e') =
    let none = nobody-counted m' i (step-placed m e reply m' s placed) (λ r. subst MayRun e' r) (λ r. subst IsFallen e' r) in omega (arith, none)
