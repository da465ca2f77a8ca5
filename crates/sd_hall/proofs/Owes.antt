-- The entries that a hall owes, through each event. It serves the goals of `call` in hall.rt.
use Rattle.std.proofs.Common.{◌≡◌, ◌≢◌, ◌⊎◌, inl, inr, ⊎_elim, ℕ, zero, suc, ◌+◌, ◌≤◌, Bool, true, false, cond, eqb, List, [], ◌∷◌, ◌++◌, length, refl, sym, ap, ◌∙◌, subst, arith, eq-eqb, ne_eqb}
use Rattle.std.specs.List.{sum_by}
use Rattle.std.specs.Prelude.{Option, None, Some}
use Rattle.std.proofs.lemmas.Bool.{cases_eq}
use Rattle.std.proofs.lemmas.List.Sums.{sum_by-cons, sum_by-append}
use Rattle.sd_base.specs.declared.ids.Rid.{Rid}
use Rattle.sd_base.specs.declared.ids.TxnId.{TxnId}
use Rattle.sd_base.specs.declared.place.Status.{Status}
use Rattle.sd_base.specs.declared.place.Status.TheVariants as S
use Rattle.sd_base.specs.declared.refusal.Refusal.{Refusal}
use Rattle.sd_base.proofs.SameIds.{eq-same, ne-same, cases_txn}
use Rattle.sd_model.specs.declared.act.Act.{Act}
use Rattle.sd_model.specs.declared.act.Claim.{Claim}
use Rattle.sd_model.specs.declared.act.Cut.TheVariants as Cut
use Rattle.sd_model.specs.declared.act.Inst.{Inst}
use Rattle.sd_model.specs.declared.act.Life.{Life}
use Rattle.sd_model.specs.declared.cause.Cause.{Cause}
use Rattle.sd_model.specs.declared.event.Event.{Event}
use Rattle.sd_model.specs.declared.event.Event.TheVariants.{Add, Arm, Ask, Back, Begin, CheckBegin, CheckEnd, Commit, Delete, Evict, Fail, FailAll, Flush, Force, Give, Insert, Join, List as Listing, Read, RecoverBegin, RecoverStep, Reopen, Save, Show, Take, Undo, Write}
use Rattle.sd_model.specs.declared.event.Reply.{Reply}
use Rattle.sd_model.specs.declared.event.Reply.TheVariants as reply
use Rattle.sd_model.specs.Acts.{Puts, live, live_from, undone}
use Rattle.sd_model.specs.Changes.{HasLoser, IsLoser, Left, Reopened, after_recovery, commit_all, is_swept, marked, swept, swept_part, undid, undid_part, with_mark}
use Rattle.sd_model.specs.Fields.{rid_of, txn_of}
use Rattle.sd_model.specs.Applies.{Clear}
use Rattle.sd_model.specs.Listed.{IsAmong, Listed, NoneTwice}
use Rattle.sd_model.specs.Refusing.{Refuses, counted, found}
use Rattle.sd_model.specs.State.{Part, State, begun_part, closed, committed, cut_commit, fall, freed, gone, joined, lost, lost_part, put_inst, put_part, read_at, took, took_part, turned, view, with_life, with_status, wrote}
use Rattle.sd_model.specs.Tables.{Content}
use Rattle.sd_model.specs.Step.{Row, Step}
use Rattle.sd_model.proofs.Acts.{live_from-append}
use Rattle.sd_model.proofs.Among.{once-more}
use Rattle.sd_model.proofs.Listed.{new-id}
use Rattle.sd_state.specs.Sums.{sum_to}
use Rattle.sd_update.proofs.UndoneRows.{live-undone}
use Rattle.sd_moves.proofs.FallBounds.{sum-less}
use Rattle.sd_hall.specs.Ledger.{entries_of, entries_of_part, entries_of_inst, entries_owed, owed_more}
use Rattle.sd_hall.specs.Served.{IsServed}

-- ---- sums

module _ (f g : TxnId → ℕ) where
  pub sums-less : (ts : List TxnId) → ((t : TxnId) → IsAmong t ts → f t ≤ g t) → sum_by f ts ≤ sum_by g ts
  sums-less [] less = omega arith
  sums-less (t ∷ ts) less =
      let here : f t ≤ g t = less t (inl refl) in
      let rest : sum_by f ts ≤ sum_by g ts = sums-less ts (λ u a. less u (inr a)) in
      omega (arith, sum_by-cons f t ts, sum_by-cons g t ts, here, rest)

  -- one of them more by n at most
  sums-one : (x : TxnId) (n : ℕ) (ts : List TxnId) → NoneTwice ts → f x ≤ g x + n → ((t : TxnId) → x ≢ t → f t ≤ g t)
      → sum_by f ts ≤ sum_by g ts + n
  sums-one x n [] once one others = omega arith
  sums-one x n (t ∷ ts) once one others = ⊎_elim
      (λ (e : x ≡ t).
      let rest : sum_by f ts ≤ sum_by g ts = sums-less ts (λ u a. others u
      (λ (k : x ≡ u). once.0 (subst (λ (y : TxnId). IsAmong y ts) (sym k ∙ e) a))) in
      let here : f t ≤ g t + n = subst (λ (y : TxnId). f y ≤ g y + n) e one in
      omega (arith, sum_by-cons f t ts, sum_by-cons g t ts, here, rest))
      (λ (e : x ≢ t).
      let rest : sum_by f ts ≤ sum_by g ts + n = sums-one x n ts once.1 one others in
      let here : f t ≤ g t = others t e in omega (arith, sum_by-cons f t ts, sum_by-cons g t ts, here, rest))
      (cases_txn x t)

sum-one : (f g : ℕ → ℕ) (k n count : ℕ) → f k ≤ g k + n → ((j : ℕ) → k ≢ j → f j ≤ g j) → sum_to f count ≤ sum_to g count + n
sum-one f g k n zero one others = omega arith
sum-one f g k n (suc count) one others = ⊎_elim
    (λ (e : k ≡ suc count).
    let rest : sum_to f count ≤ sum_to g count = sum-less f g count (λ j low high. others j
    (λ (same : k ≡ j). let off : ⊥ = omega (arith, e, same, high) in absurd off)) in
    let here : f (suc count) ≤ g (suc count) + n = subst (λ (j : ℕ). f j ≤ g j + n) e one in omega (arith, here, rest))
    (λ (e : k ≢ suc count).
    let rest : sum_to f count ≤ sum_to g count + n = sum-one f g k n count one others in
    let here : f (suc count) ≤ g (suc count) = others (suc count) e in omega (arith, here, rest))
    (cases_eq k (suc count))

-- ---- states

-- what transactions owe, and what instances owe
abbrev pub of_txns : State → ℕ
of_txns m = sum_by (λ t. entries_of_part (m.part t)) m.begun

abbrev pub of_insts : State → ℕ
of_insts m = sum_to (λ i. entries_of_inst (m.inst i).status) 8

entries-rise : (life : Life) (a b n : ℕ) → a ≤ b + n → entries_of life a ≤ entries_of life b + n
entries-rise Life.Gone a b n h = omega arith
entries-rise Life.Running a b n h = omega (arith, h)
entries-rise Life.Retained a b n h = omega arith
entries-rise (Life.Rolling to) a b n h = omega (arith, h)
entries-rise (Life.Doubt cut) a b n h = omega arith

module _ (m : State) where
  -- a part in place of another
  put-owed : (t : TxnId) (p : Part) (n : ℕ) → NoneTwice m.begun → entries_of_part p ≤ entries_of_part (m.part t) + n
      → entries_owed (put_part t p m) ≤ entries_owed m + n
  put-owed t p n once less =
      let here : entries_of_part ((put_part t p m).part t) ≡ entries_of_part p =
      ap (λ (b : Bool). entries_of_part (cond b p (m.part t))) (eq-same t t refl) in
      let one : entries_of_part ((put_part t p m).part t) ≤ entries_of_part (m.part t) + n = omega (arith, here, less) in
      let others : (u : TxnId) → t ≢ u → entries_of_part ((put_part t p m).part u) ≤ entries_of_part (m.part u) = λ u ne.
      let same : entries_of_part ((put_part t p m).part u) ≡ entries_of_part (m.part u) =
      ap (λ (b : Bool). entries_of_part (cond b p (m.part u))) (ne-same t u ne) in
      omega (arith, same) in
      let all : of_txns (put_part t p m) ≤ of_txns m + n =
      sums-one (λ u. entries_of_part ((put_part t p m).part u)) (λ u. entries_of_part (m.part u)) t n m.begun once one others in
      omega (arith, all)

  -- an instance that stands otherwise
  inst-owed : (i : ℕ) (x : Inst) (n : ℕ) → entries_of_inst x.status ≤ entries_of_inst (m.inst i).status + n
      → entries_owed (put_inst i x m) ≤ entries_owed m + n
  inst-owed i x n less =
      let here : entries_of_inst ((put_inst i x m).inst i).status ≡ entries_of_inst x.status =
      ap (λ (b : Bool). entries_of_inst (cond b x (m.inst i)).status) (eq-eqb i i refl) in
      let one : entries_of_inst ((put_inst i x m).inst i).status ≤ entries_of_inst (m.inst i).status + n =
      omega (arith, here, less) in
      let others : (j : ℕ) → i ≢ j
      → entries_of_inst ((put_inst i x m).inst j).status ≤ entries_of_inst (m.inst j).status = λ j ne.
      let same : entries_of_inst ((put_inst i x m).inst j).status ≡ entries_of_inst (m.inst j).status =
      ap (λ (b : Bool). entries_of_inst (cond b x (m.inst j)).status) (ne_eqb i j ne) in
      omega (arith, same) in
      let all : of_insts (put_inst i x m) ≤ of_insts m + n =
      sum-one (λ j. entries_of_inst ((put_inst i x m).inst j).status) (λ j. entries_of_inst (m.inst j).status) i n 8 one others in
      omega (arith, all)

  -- a claim and acts more
  took-owed : (t : TxnId) (r : Rid) (mode : Claim) (acts : List Act) (n : ℕ) → NoneTwice m.begun
      → length (live_from (live (m.part t).acts) acts) ≤ length (live (m.part t).acts) + n
      → entries_owed (took t r mode acts m) ≤ entries_owed m + n
  took-owed t r mode acts n once more =
      let puts : length (live ((m.part t).acts ++ acts)) ≤ length (live (m.part t).acts) + n =
      subst (λ (k : ℕ). k ≤ length (live (m.part t).acts) + n)
      (sym (ap length (live_from-append [] (m.part t).acts acts))) more in
      put-owed t (took_part r mode acts (m.part t)) n once
      (entries-rise (m.part t).life (length (live ((m.part t).acts ++ acts))) (length (live (m.part t).acts)) n puts)

  -- what was found is read
  found-owed : (e : Event) → NoneTwice m.begun → entries_owed (found e m) ≤ entries_owed m
  found-owed e once =
      let all = took-owed (txn_of e) (rid_of e) Claim.Excl (Act.Read (rid_of e) (view m (txn_of e) (rid_of e)) ∷ []) 0 once
      (omega arith) in omega (arith, all)

  -- a change owes its undo, a read nothing
  wrote-owed : (t : TxnId) (r : Rid) (v u : Content) → NoneTwice m.begun → entries_owed (wrote t r v u m) ≤ entries_owed m + 1
  wrote-owed t r v u once = took-owed t r Claim.Excl (Act.Read r v ∷ Act.Put r u ∷ []) 1 once (omega arith)

  read-owed : (t : TxnId) (r : Rid) (v : Content) → NoneTwice m.begun → entries_owed (read_at t r v m) ≤ entries_owed m
  read-owed t r v once = let all = took-owed t r Claim.Shared (Act.Read r v ∷ []) 0 once (omega arith) in omega (arith, all)

  -- a mark owes nothing
  mark-owed : (t : TxnId) (k : List ℕ) → NoneTwice m.begun → entries_owed (marked t k m) ≤ entries_owed m
  mark-owed t k once =
      let named : Part = record (m.part t) { marks = with_mark k (length (live (m.part t).acts)) (m.part t).marks } in
      let all = put-owed t named 0 once (omega arith) in omega (arith, all)

  -- one that begins to roll back owes the end of that
  back-owed : (t : TxnId) (to : Option ℕ) → NoneTwice m.begun
      → ((m.part t).life ≡ Life.Running) ⊎ ((from : Option ℕ) × ((m.part t).life ≡ Life.Rolling from))
      → entries_owed (turned t (Life.Rolling to) m) ≤ entries_owed m + 1
  back-owed t to once (inl runs) =
      let owes : entries_of_part (m.part t) ≡ length (live (m.part t).acts) + 1 =
      ap (λ (life : Life). entries_of life (length (live (m.part t).acts))) runs in
      put-owed t (with_life (Life.Rolling to) (m.part t)) 1 once (omega (arith, owes))
  back-owed t to once (inr rolls) =
      let owes : entries_of_part (m.part t) ≡ length (live (m.part t).acts) + 2 =
      ap (λ (life : Life). entries_of life (length (live (m.part t).acts))) rolls.1 in
      put-owed t (with_life (Life.Rolling to) (m.part t)) 1 once (omega (arith, owes))

  -- whoever has committed owes nothing
  commit-owed : (t : TxnId) → NoneTwice m.begun → entries_owed (committed t m) ≤ entries_owed m
  commit-owed t once = let all = put-owed t gone 0 once (omega arith) in omega (arith, all)

-- whoever is lost owes nothing
lost-none : (life : Life) (n : ℕ) → entries_of (lost life) n ≡ 0
lost-none Life.Gone n = refl
lost-none Life.Running n = refl
lost-none Life.Retained n = refl
lost-none (Life.Rolling to) n = refl
lost-none (Life.Doubt cut) n = refl

pub lost-owed : (p : Part) (b : Bool) → entries_of_part (cond b (lost_part p) p) ≤ entries_of_part p
lost-owed p true = let none : entries_of (lost p.life) (length (live p.acts)) ≡ 0 = lost-none p.life (length (live p.acts)) in
    omega (arith, none)
lost-owed p false = omega arith

-- one that is down, or freed, owes no more
freed-owed : (i : ℕ) (s : Status) → entries_of_inst (freed i s) ≤ entries_of_inst s
freed-owed i S.Up = omega arith
freed-owed i S.Down = omega arith
freed-owed i (S.Recovering by) = let none = by_test (eqb i by) in omega (arith, none)
  where
    by_test : (b : Bool) → entries_of_inst (cond b S.Down (S.Recovering by)) ≡ 0
    by_test true = refl
    by_test false = refl
freed-owed i S.Clean = omega arith
freed-owed i S.Restarting = omega arith
freed-owed i S.Closed = omega arith

pub fallen-owed : (i : ℕ) (s : Status) (b : Bool) → entries_of_inst (cond b S.Down (freed i s)) ≤ entries_of_inst s
fallen-owed i s true = omega arith
fallen-owed i s false = freed-owed i s

module _ (m : State) where
  -- a fall
  pub fall-owed : (i : ℕ) → entries_owed (fall i m) ≤ entries_owed m
  fall-owed i =
      let txns : of_txns (fall i m) ≤ of_txns m =
      sums-less (λ t. entries_of_part ((fall i m).part t)) (λ t. entries_of_part (m.part t)) m.begun
      (λ t a. lost-owed (m.part t) (eqb i t.inst)) in
      let insts : of_insts (fall i m) ≤ of_insts m =
      sum-less (λ j. entries_of_inst ((fall i m).inst j).status) (λ j. entries_of_inst (m.inst j).status) 8
      (λ j low high. fallen-owed i (m.inst j).status (eqb i j)) in
      omega (arith, txns, insts)

-- all of them fail
pub closed-owed : (m : State) → entries_owed (closed m) ≤ entries_owed m
closed-owed m =
    let txns : of_txns (closed m) ≤ of_txns m =
    sums-less (λ t. entries_of_part ((closed m).part t)) (λ t. entries_of_part (m.part t)) m.begun
    (λ t a. lost-owed (m.part t) true) in
    let insts : of_insts (closed m) ≤ of_insts m =
    sum-less (λ j. entries_of_inst ((closed m).inst j).status) (λ j. entries_of_inst (m.inst j).status) 8
    (λ j low high. omega arith) in
    omega (arith, txns, insts)

-- those in doubt that turn out to be committed
commits-owed : (ts : List TxnId) (m : State) → NoneTwice m.begun → entries_owed (commit_all ts m) ≤ entries_owed m
commits-owed [] m once = omega arith
commits-owed (t ∷ ts) m once =
    let one = commit-owed m t once in let rest = commits-owed ts (committed t m) once in omega (arith, one, rest)

-- ---- a recovery ends

swept-life : (p : Part) (b : Bool) → entries_of_part (cond {A = Part} b gone p) ≤ entries_of_part p
swept-life p true = omega arith
swept-life p false = omega arith

swept-less : (p : Part) (b : Bool) → entries_of_part (cond {A = Part} b (swept_part p) p) ≤ entries_of_part p
swept-less p true = swept-life p (is_swept p.life)
swept-less p false = omega arith

restarts-or-clean : (b : Bool) → entries_of_inst (cond {A = Status} b S.Restarting S.Clean) ≡ 0
restarts-or-clean true = refl
restarts-or-clean false = refl

after-none : (i : ℕ) (s : Status) → entries_of_inst (after_recovery i s) ≡ 0
after-none i (S.Recovering by) = restarts-or-clean (eqb i by)
after-none i s = refl

-- losers are gone, and the instance isn't up
swept-owed : (m : State) (i : ℕ) → entries_owed (swept i m) ≤ entries_owed m
swept-owed m i =
    let rest : State = record m { part = λ t. cond {A = Part} (eqb i t.inst) (swept_part (m.part t)) (m.part t) } in
    let txns : of_txns rest ≤ of_txns m =
    sums-less (λ t. entries_of_part (rest.part t)) (λ t. entries_of_part (m.part t)) m.begun
    (λ t a. swept-less (m.part t) (eqb i t.inst)) in
    let none = after-none i (m.inst i).status in
    let inst = inst-owed rest i (with_status (after_recovery i (m.inst i).status) (m.inst i)) 0 (omega (arith, none)) in
    omega (arith, txns, inst)

-- ---- a complex opens

sums-none : (f : TxnId → ℕ) (ts : List TxnId) → ((t : TxnId) → f t ≡ 0) → sum_by f ts ≡ 0
sums-none f [] none = refl
sums-none f (t ∷ ts) none =
    let here = none t in let rest = sums-none f ts none in omega (arith, sum_by-cons f t ts, here, rest)

sum-none : (f : ℕ → ℕ) (count : ℕ) → ((i : ℕ) → f i ≡ 0) → sum_to f count ≡ 0
sum-none f zero none = refl
sum-none f (suc count) none = let here = none (suc count) in let rest = sum-none f count none in omega (arith, here, rest)

-- where nobody runs or rolls back, and no instance is up, nothing is owed
pub rests-none : (m : State) → ((t : TxnId) → entries_of_part (m.part t) ≡ 0) → ((i : ℕ) → entries_of_inst (m.inst i).status ≡ 0)
    → entries_owed m ≡ 0
rests-none m parts insts =
    let txns : of_txns m ≡ 0 = sums-none (λ t. entries_of_part (m.part t)) m.begun parts in
    let all : of_insts m ≡ 0 = sum-none (λ i. entries_of_inst (m.inst i).status) 8 insts in
    omega (arith, txns, all)

left-none : (p q : Part) → (q ≡ gone) ⊎ IsLoser p q → entries_of_part q ≡ 0
left-none p q (inl is) = ap entries_of_part is
left-none p q (inr loser) = ap (λ (life : Life). entries_of life (length (live q.acts))) loser.life

-- once a complex has opened again, nobody runs and nobody is up
module _ (m m' : State) (left : Left m m') where
  down-or-so : (i : ℕ) (s : Status) → (m'.inst i).status ≡ s → entries_of_inst s ≡ 0
  down-or-so i S.Up is =
      let none : HasLoser m' i → ⊥ = λ has. let clash : S.Up ≡ S.Down = sym is ∙ left.down i has in absurd (cc) in
      let stands : S.Up ≡ left.others.0 = sym is ∙ left.others.2 i none in
      ⊎_elim (λ clean. let clash : S.Up ≡ S.Clean = stands ∙ clean in absurd (cc))
      (λ down. let clash : S.Up ≡ S.Down = stands ∙ down in absurd (cc)) left.others.1
  down-or-so i S.Down is = refl
  down-or-so i (S.Recovering by) is = refl
  down-or-so i S.Clean is = refl
  down-or-so i S.Restarting is = refl
  down-or-so i S.Closed is = refl

  opened-none : entries_owed m' ≡ 0
  opened-none = rests-none m' (λ t. left-none (m.part t) (m'.part t) (left.part t)) (λ i. down-or-so i (m'.inst i).status refl)

reopened-none : (m m' : State) → Reopened m m' → entries_owed m' ≡ 0
reopened-none m m' again = opened-none (commit_all again.0 m) m' again.2

cut-owed : (m : State) (t : TxnId) → NoneTwice m.begun → entries_owed (cut_commit t m) ≤ entries_owed m
cut-owed m t once =
    let doubt : Part = record (m.part t) { life = Life.Doubt Cut.Committing; marks = [] } in
    let cut : State = record m { cuts = m.cuts ++ t ∷ [] } in
    let put = put-owed cut t doubt 0 once (omega arith) in
    let all = fall-owed (put_part t doubt cut) t.inst in omega (arith, put, all)

counted-owed : (e : Event) (m : State) → entries_owed (counted e m) ≤ entries_owed m
counted-owed (Join i) m = let all = inst-owed m i (record (m.inst i) { failed = (m.inst i).failed + 1 }) 0 (omega arith) in
    omega (arith, all)
counted-owed e m = omega arith

-- a refusal
module _ (m : State) (e : Event) (m' : State) (once : NoneTwice m.begun) where
  same-owed : (x : State) → m' ≡ x → entries_owed x ≤ entries_owed m → entries_owed m' ≤ entries_owed m
  same-owed x is less = subst (λ (y : State). entries_owed y ≤ entries_owed m) (sym is) less

  refused-owed : (c : Cause) → Refuses m e c m' → entries_owed m' ≤ entries_owed m
  refused-owed Cause.NoRecord h = same-owed _ h (found-owed m e once)
  refused-owed Cause.NotNumber h = same-owed _ h (found-owed m e once)
  refused-owed Cause.Digits h = same-owed _ h (found-owed m e once)
  refused-owed Cause.Over h = same-owed _ h (found-owed m e once)
  refused-owed Cause.Rig (inl h) = same-owed _ h (counted-owed e m)
  refused-owed Cause.Rig (inr h) = let fell = fall-owed (counted e m) h.0 in let all = counted-owed e m in
      same-owed _ h.2 (omega (arith, fell, all))
  refused-owed Cause.Cut h = same-owed _ h.1 (cut-owed m (txn_of e) once)
  refused-owed c h = same-owed m h (omega arith)

-- a refusal owes no more
refused-none : (m : State) (e : Event) (n : Refusal) (m' : State) → entries_owed m' ≤ entries_owed m
    → entries_owed m' ≤ entries_owed m + owed_more e (reply.Refused n)
refused-none m (Begin i) n m' less = omega (arith, less)
refused-none m (Write t r v) n m' less = omega (arith, less)
refused-none m (Add t r by) n m' less = omega (arith, less)
refused-none m (Insert t p v k) n m' less = omega (arith, less)
refused-none m (Delete t r) n m' less = omega (arith, less)
refused-none m (Back t k) n m' less = omega (arith, less)
refused-none m (Join i) n m' less = omega (arith, less)
refused-none m e n m' less = omega (arith, less)

-- ---- events

-- a transaction that begins
begun-owed : (m : State) (i : ℕ) (x : TxnId) (m' : State) → Listed m → Step m (Begin i) (reply.Began x) m'
    → entries_owed m' ≤ entries_owed m + 1
begun-owed m i x m' l s =
    let new = new-id m i x m' l s in
    let base : State = record m { begun = m.begun ++ x ∷ [] } in
    let with_inst : State = put_inst i (record (m.inst i) { begins = (m.inst i).begins + 1 }) base in
    let none : entries_of_part (m.part x) ≡ 0 = ap (λ (life : Life). entries_of life (length (live (m.part x).acts))) new.1 in
    let more : of_txns base ≡ of_txns m + sum_by (λ t. entries_of_part (m.part t)) (x ∷ []) =
    sum_by-append (λ t. entries_of_part (m.part t)) m.begun (x ∷ []) in
    let one : sum_by (λ t. entries_of_part (m.part t)) (x ∷ []) ≡ entries_of_part (m.part x) + 0 =
    sum_by-cons (λ t. entries_of_part (m.part t)) x [] in
    let stands = inst-owed base i (record (m.inst i) { begins = (m.inst i).begins + 1 }) 0 (omega arith) in
    let put = put-owed with_inst x begun_part 1 (once-more m.begun x l.once new.0) (omega arith) in
    subst (λ (y : State). entries_owed y ≤ entries_owed m + 1) (sym s.1.1) (omega (arith, none, more, one, stands, put))

-- whatever equals a state that owes so much
equal-owed : (m x m' : State) (n : ℕ) → m' ≡ x → entries_owed x ≤ entries_owed m + n → entries_owed m' ≤ entries_owed m + n
equal-owed m x m' n is less = subst (λ (y : State). entries_owed y ≤ entries_owed m + n) (sym is) less

stays-owed : (m m' : State) → m' ≡ m → entries_owed m' ≤ entries_owed m + 0
stays-owed m m' is = equal-owed m m m' 0 is (omega arith)

less-owed : (m x m' : State) → m' ≡ x → entries_owed x ≤ entries_owed m → entries_owed m' ≤ entries_owed m + 0
less-owed m x m' is less = equal-owed m x m' 0 is (omega (arith, less))

-- a step of a rollback
module _ (m : State) (t : TxnId) (once : NoneTwice m.begun) where
  -- what one that rolls back owes: the undo of each live put, the end, and a commit behind it
  pub rolls-owes : (to : Option ℕ) → (m.part t).life ≡ Life.Rolling to → entries_of_part (m.part t) ≡ length (live (m.part t).acts) + 2
  rolls-owes to rolls = ap (λ (life : Life). entries_of life (length (live (m.part t).acts))) rolls

  -- and with one put less
  pub undid-owes : (to : Option ℕ) → (m.part t).life ≡ Life.Rolling to → 1 ≤ length (live (m.part t).acts)
      → entries_of_part (undid_part (m.part t)) + 1 ≡ entries_of_part (m.part t)
  undid-owes to rolls some =
      let acts : List Act = (m.part t).acts in
      let less : length (live (acts ++ Act.Undo ∷ [])) + 1 ≡ length (live acts) =
      ap (λ (puts : Puts). length puts + 1) (live-undone acts) ∙ one-less (live acts) some in
      let owed = rolls-owes to rolls in
      let left : entries_of_part (undid_part (m.part t)) ≡ length (live (acts ++ Act.Undo ∷ [])) + 2 =
      ap (λ (life : Life). entries_of life (length (live (acts ++ Act.Undo ∷ [])))) rolls in
      omega (arith, less, owed, left)
    where
      one-less : (puts : Puts) → 1 ≤ length puts → length (undone puts) + 1 ≡ length puts
      one-less [] some = absurd (omega (arith, some))
      one-less (p ∷ puts) some = omega arith

  undo-owed : (r : Reply) (m' : State) → Row m (Undo t) r m' → entries_owed m' ≤ entries_owed m + owed_more (Undo t) r
  undo-owed reply.Step m' h =
      let one = undid-owes h.0 h.1 (omega (arith, h.2)) in
      let put = put-owed m t (undid_part (m.part t)) 0 once (omega (arith, one)) in less-owed m (undid t m) m' h.3 (omega (arith, put))
  undo-owed reply.Finished m' (inl h) = stays-owed m m' h.1
  undo-owed reply.Finished m' (inr (inl h)) =
      let owes = rolls-owes (Some h.0) h.1 in
      let put = put-owed m t (with_life Life.Running (m.part t)) 0 once (omega (arith, owes)) in
      less-owed m (turned t Life.Running m) m' h.3 (omega (arith, put))
  undo-owed reply.Finished m' (inr (inr h)) =
      let put = put-owed m t gone 0 once (omega arith) in less-owed m (put_part t gone m) m' h.2 (omega (arith, put))
  undo-owed r m' h = absurd h

row-owed : (m : State) (e : Event) (r : Reply) (m' : State) → Listed m → IsServed e → Clear m e → Row m e r m'
    → entries_owed m' ≤ entries_owed m + owed_more e r
row-owed m (Begin i) (reply.Began x) m' l s c h = begun-owed m i x m' l (c, h)
row-owed m (Read t r) (reply.Value v) m' l s c h = less-owed m (read_at t r v m) m' h.2 (read-owed m t r v l.once)
row-owed m (Write t r v) reply.Did m' l s c h = equal-owed m _ m' 1 h.3 (wrote-owed m t r (Some h.0) (Some v) l.once)
row-owed m (Add t r by) reply.Did m' l s c h = equal-owed m _ m' 1 h.5 (wrote-owed m t r (Some h.0) (Some h.1) l.once)
row-owed m (Insert t p v n) (reply.At r) m' l s c h = equal-owed m _ m' 1 h.4 (wrote-owed m t r None (Some v) l.once)
row-owed m (Delete t r) reply.Did m' l s c h = equal-owed m _ m' 1 h.3 (wrote-owed m t r (Some h.0) None l.once)
row-owed m (Save t k) reply.Did m' l s c h = less-owed m (marked t k m) m' h.1 (mark-owed m t k l.once)
row-owed m (Back t (Some k)) reply.Did m' l s c h = equal-owed m _ m' 1 h.3 (back-owed m t (Some h.0) l.once (inl h.1))
row-owed m (Back t None) reply.Did m' l s c h = equal-owed m _ m' 1 h.1 (back-owed m t None l.once h.0)
row-owed m (Undo t) r m' l s c h = undo-owed m t l.once r m' h
row-owed m (Commit t) reply.Did m' l s c h = less-owed m (committed t m) m' h.1 (commit-owed m t l.once)
row-owed m (Listing i p) (reply.Rows rows) m' l s c h = stays-owed m m' h.1
row-owed m (Ask i p mode) reply.Have m' l s c h = stays-owed m m' h
row-owed m (Ask i p mode) (reply.Asked of) m' l s c h = stays-owed m m' h
row-owed m (Give i p) (reply.Gave to) m' l s c h = stays-owed m m' h
row-owed m (Take i p) reply.Did m' l s c h = stays-owed m m' h
row-owed m (Evict i p) reply.Did m' l s c h = stays-owed m m' h
row-owed m (Flush i p) reply.Did m' l s c h = stays-owed m m' h
row-owed m (Force i) reply.Did m' l s c h = stays-owed m m' h
row-owed m (CheckBegin i) reply.Did m' l s c h = stays-owed m m' h
row-owed m (CheckEnd i) reply.Did m' l s c h = stays-owed m m' h
row-owed m (Fail i) reply.Did m' l s c h = less-owed m (fall i m) m' h (fall-owed m i)
row-owed m (Join i) (reply.Joined epoch) m' l s c h =
    equal-owed m (joined i epoch m) m' 1 h.2 (inst-owed m i (record {
      status = S.Up;
      epoch = epoch;
      begins = 0;
      failed =
          0;
    }) 1 (omega arith))
row-owed m (Begin i) r m' l s c h = absurd h
row-owed m (Read t r) v m' l s c h = absurd h
row-owed m (Write t r v) x m' l s c h = absurd h
row-owed m (Add t r by) x m' l s c h = absurd h
row-owed m (Insert t p v n) x m' l s c h = absurd h
row-owed m (Delete t r) x m' l s c h = absurd h
row-owed m (Save t k) r m' l s c h = absurd h
row-owed m (Back t (Some k)) r m' l s c h = absurd h
row-owed m (Back t None) r m' l s c h = absurd h
row-owed m (Commit t) r m' l s c h = absurd h
row-owed m (Listing i p) r m' l s c h = absurd h
row-owed m (Ask i p mode) r m' l s c h = absurd h
row-owed m (Give i p) r m' l s c h = absurd h
row-owed m (Take i p) r m' l s c h = absurd h
row-owed m (Evict i p) r m' l s c h = absurd h
row-owed m (Flush i p) r m' l s c h = absurd h
row-owed m (Force i) r m' l s c h = absurd h
row-owed m (CheckBegin i) r m' l s c h = absurd h
row-owed m (CheckEnd i) r m' l s c h = absurd h
row-owed m (Fail i) r m' l s c h = absurd h
row-owed m (Join i) r m' l s c h = absurd h
row-owed m (Arm trouble) reply.Did m' l s c h = stays-owed m m' h
row-owed m (Arm trouble) r m' l s c h = absurd h
row-owed m (FailAll pick) reply.Did m' l s c h = less-owed m (closed m) m' h (closed-owed m)
row-owed m (FailAll pick) r m' l s c h = absurd h
row-owed m (Show p) (reply.Shown place lsn) m' l s c h = stays-owed m m' h
row-owed m (Show p) r m' l s c h = absurd h
row-owed m (RecoverBegin i by) reply.Did m' l s c h =
    less-owed m _ m' h (let all = inst-owed m i (with_status (S.Recovering by) (m.inst i)) 0 (omega arith) in omega (arith, all))
row-owed m (RecoverBegin i by) r m' l s c h = absurd h
row-owed m (RecoverStep i) reply.Step m' l s c h = stays-owed m m' h
row-owed m (RecoverStep i) reply.Finished m' l s c h =
    less-owed m (swept i (commit_all h.0 m)) m' h.4
    (let all = commits-owed h.0 m l.once in let rest = swept-owed (commit_all h.0 m) i in omega (arith, all, rest))
row-owed m (RecoverStep i) r m' l s c h = absurd h
row-owed m Reopen reply.Did m' l s c h = let none = reopened-none m m' h in omega (arith, none)
row-owed m Reopen r m' l s c h = absurd h

pub step-owed : (m : State) (e : Event) (r : Reply) (m' : State) → Listed m → IsServed e → Step m e r m'
    → entries_owed m' ≤ entries_owed m + owed_more e r
step-owed m e (reply.Refused n) m' l s h = let less = refused-owed m e m' l.once h.0 h.4 in refused-none m e n m' less
step-owed m e r m' l s h = row-owed m e r m' l s h.0 h.1
