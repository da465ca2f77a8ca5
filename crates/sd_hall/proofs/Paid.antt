-- What the hall owes less once an event has come that was owed. It serves the goals of `call` in hall.rt.
use Rattle.std.proofs.Common.{◌≡◌, ◌≢◌, inl, inr, ⊎_elim, ℕ, zero, suc, ◌+◌, ◌<◌, ◌≤◌, Bool, true, false, cond, eqb, List, [], ◌∷◌, ◌++◌, length, refl, sym, ap, ◌∙◌, subst, arith, eq-eqb}
use Rattle.std.specs.List.{sum_by}
use Rattle.std.specs.Prelude.{Option}
use Rattle.std.proofs.lemmas.Bool.{cases_eq}
use Rattle.std.proofs.lemmas.List.Sums.{sum_by-cons}
use Rattle.sd_base.specs.declared.ids.TxnId.{TxnId}
use Rattle.sd_base.specs.declared.place.Status.{Status}
use Rattle.sd_base.specs.declared.place.Status.TheVariants as S
use Rattle.sd_base.specs.declared.refusal.Refusal.{Refusal}
use Rattle.sd_base.specs.declared.refusal.Refusal.TheVariants as R
use Rattle.sd_base.proofs.SameIds.{eq-same, ne-same}
use Rattle.sd_model.specs.Acts.{live}
use Rattle.sd_model.specs.Applies.{First, HasPage}
use Rattle.sd_model.specs.Changes.{goal, undid, undid_part}
use Rattle.sd_model.specs.Listed.{IsAmong, Listed, NoneTwice}
use Rattle.sd_model.specs.Lives.{LivesAreSound, MayRun, SuitsStatus}
use Rattle.sd_model.specs.Refusing.{Names, Refuses}
use Rattle.sd_model.specs.State.{Part, State, committed, cut_commit, fall, freed, gone, put_part, turned, with_life}
use Rattle.sd_model.specs.Step.{Row, Step}
use Rattle.sd_model.specs.declared.act.Cut.TheVariants as Cut
use Rattle.sd_model.specs.declared.act.Life.{Life}
use Rattle.sd_model.specs.declared.cause.Cause.{Cause}
use Rattle.sd_model.specs.declared.event.Event.{Event}
use Rattle.sd_model.specs.declared.event.Event.TheVariants.{Commit, Fail, Undo}
use Rattle.sd_model.specs.declared.event.Reply.{Reply}
use Rattle.sd_model.specs.declared.event.Reply.TheVariants as reply
use Rattle.sd_pagelock.specs.Places.{owns}
use Rattle.sd_world.specs.Answers.{Fails, Moves, RefusalLeaves}
use Rattle.sd_world.specs.PageCauses.{PagesAgree, undo_page}
use Rattle.sd_world.specs.Pages.{Pages}
use Rattle.sd_world.specs.Serving.{Core, Turns}
use Rattle.sd_state.specs.Sums.{sum_to}
use Rattle.sd_moves.proofs.FallBounds.{sum-less}
use Rattle.sd_ops.proofs.Undone.{owned-lost}
use Rattle.sd_hall.specs.Owed.{IsOwed}
use Rattle.sd_hall.specs.Ledger.{entries_of, entries_of_inst, entries_of_part, entries_owed, owed_more}
use Rattle.sd_hall.proofs.Owes.{fall-owed, fallen-owed, lost-owed, of_insts, of_txns, rolls-owes, sums-less, undid-owes}

-- ---- sums

module _ (f g : TxnId → ℕ) where
  -- one of them less by n
  sums-paid : (x : TxnId) (n : ℕ) (ts : List TxnId) → NoneTwice ts → IsAmong x ts → f x + n ≤ g x
      → ((t : TxnId) → x ≢ t → f t ≤ g t)
      → sum_by f ts + n ≤ sum_by g ts
  sums-paid x n [] once among paid others = absurd among
  sums-paid x n (t ∷ ts) once (inl e) paid others =
      let rest : sum_by f ts ≤ sum_by g ts = sums-less f g ts (λ u a. others u
      (λ (k : x ≡ u). once.0 (subst (λ (y : TxnId). IsAmong y ts) (sym k ∙ e) a))) in
      let here : f t + n ≤ g t = subst (λ (y : TxnId). f y + n ≤ g y) e paid in
      omega (arith, sum_by-cons f t ts, sum_by-cons g t ts, rest, here)
  sums-paid x n (t ∷ ts) once (inr a) paid others =
      let rest : sum_by f ts + n ≤ sum_by g ts = sums-paid x n ts once.1 a paid others in
      let here : f t ≤ g t = others t (λ (e : x ≡ t). once.0 (subst (λ (y : TxnId). IsAmong y ts) e a)) in
      omega (arith, sum_by-cons f t ts, sum_by-cons g t ts, rest, here)

-- one of the first few less by n
sum-paid : (f g : ℕ → ℕ) (k n count : ℕ) → 1 ≤ k → k ≤ count → f k + n ≤ g k → ((j : ℕ) → f j ≤ g j)
    → sum_to f count + n ≤ sum_to g count
sum-paid f g k n zero low high one each = let off : ⊥ = omega (arith, low, high) in absurd off
sum-paid f g k n (suc count) low high one each = ⊎_elim
    (λ (e : k ≡ suc count).
    let rest : sum_to f count ≤ sum_to g count = sum-less f g count (λ j lo hi. each j) in
    let here : f (suc count) + n ≤ g (suc count) = subst (λ (j : ℕ). f j + n ≤ g j) e one in omega (arith, here, rest))
    (λ (e : k ≢ suc count).
    let rest : sum_to f count + n ≤ sum_to g count = sum-paid f g k n count low (omega (arith, high, e)) one each in
    let here : f (suc count) ≤ g (suc count) = each (suc count) in omega (arith, here, rest))
    (cases_eq k (suc count))

-- ---- states

module _ (m : State) where
  -- a part that owes less
  put-paid : (t : TxnId) (p : Part) (n : ℕ) → NoneTwice m.begun → IsAmong t m.begun
      → entries_of_part p + n ≤ entries_of_part (m.part t)
      → entries_owed (put_part t p m) + n ≤ entries_owed m
  put-paid t p n once among paid =
      let here : entries_of_part ((put_part t p m).part t) ≡ entries_of_part p =
      ap (λ (b : Bool). entries_of_part (cond b p (m.part t))) (eq-same t t refl) in
      let one : entries_of_part ((put_part t p m).part t) + n ≤ entries_of_part (m.part t) = omega (arith, here, paid) in
      let others : (u : TxnId) → t ≢ u → entries_of_part ((put_part t p m).part u) ≤ entries_of_part (m.part u) = λ u ne.
      let same : entries_of_part ((put_part t p m).part u) ≡ entries_of_part (m.part u) =
      ap (λ (b : Bool). entries_of_part (cond b p (m.part u))) (ne-same t u ne) in
      omega (arith, same) in
      let all = sums-paid (λ u. entries_of_part ((put_part t p m).part u)) (λ u. entries_of_part (m.part u)) t n m.begun
      once among one others in
      omega (arith, all)

  runs-there : (t : TxnId) → Listed m → (m.part t).life ≡ Life.Running → IsAmong t m.begun
  runs-there t l runs = l.there t (λ e. let clash : Life.Running ≡ Life.Gone = sym runs ∙ e in absurd (cc))

  rolls-there : (t : TxnId) → Listed m → (to : Option ℕ) → (m.part t).life ≡ Life.Rolling to → IsAmong t m.begun
  rolls-there t l to rolls = l.there t (λ e. let clash : Life.Rolling to ≡ Life.Gone = sym rolls ∙ e in absurd (cc))

  -- what a transaction that runs owes: the undo of each live put, and its commit
  runs-owes : (t : TxnId) → (m.part t).life ≡ Life.Running → entries_of_part (m.part t) ≡ length (live (m.part t).acts) + 1
  runs-owes t runs = ap (λ (life : Life). entries_of life (length (live (m.part t).acts))) runs

  -- a commit is owed, and nothing of its transaction behind it
  commit-paid : (t : TxnId) → Listed m → (m.part t).life ≡ Life.Running → entries_owed (committed t m) + 1 ≤ entries_owed m
  commit-paid t l runs = let owes = runs-owes t runs in put-paid t gone 1 l.once (runs-there t l runs) (omega (arith, owes))

  -- a failure is owed, and none behind it
  fall-paid : (i : ℕ) → 1 ≤ i → i ≤ 8 → (m.inst i).status ≡ S.Up → entries_owed (fall i m) + 1 ≤ entries_owed m
  fall-paid i low high up =
      let owes : entries_of_inst (m.inst i).status ≡ 1 = ap entries_of_inst up in
      let down : entries_of_inst ((fall i m).inst i).status ≡ 0 =
      ap (λ (b : Bool). entries_of_inst (cond b S.Down (freed i (m.inst i).status))) (eq-eqb i i refl) in
      let txns : of_txns (fall i m) ≤ of_txns m =
      sums-less (λ t. entries_of_part ((fall i m).part t)) (λ t. entries_of_part (m.part t)) m.begun
      (λ t a. lost-owed (m.part t) (eqb i t.inst)) in
      let insts : of_insts (fall i m) + 1 ≤ of_insts m =
      sum-paid (λ j. entries_of_inst ((fall i m).inst j).status) (λ j. entries_of_inst (m.inst j).status) i 1 8 low high
      (omega (arith, owes, down)) (λ j. fallen-owed i (m.inst j).status (eqb i j)) in
      omega (arith, txns, insts)

-- one that is in doubt owes nothing, and whatever falls with its instance no more
cut-paid : (m : State) (t : TxnId) → Listed m → (m.part t).life ≡ Life.Running
    → entries_owed (cut_commit t m) + 1 ≤ entries_owed m
cut-paid m t l runs =
    let doubt : Part = record (m.part t) { life = Life.Doubt Cut.Committing; marks = [] } in
    let cut : State = record m { cuts = m.cuts ++ t ∷ [] } in
    let owes = runs-owes m t runs in
    let put : entries_owed (put_part t doubt cut) + 1 ≤ entries_owed cut =
    put-paid cut t doubt 1 l.once (runs-there m t l runs) (omega (arith, owes)) in
    let fell : entries_owed (cut_commit t m) ≤ entries_owed (put_part t doubt cut) = fall-owed (put_part t doubt cut) t.inst in
    omega (arith, put, fell)

-- ---- events

pub may-run : (s : Status) → MayRun s → s ≡ S.Up
may-run S.Up may = refl
may-run S.Down may = absurd may
may-run S.Clean may = absurd may
may-run S.Restarting may = absurd may
may-run S.Closed may = absurd may
may-run (S.Recovering by) may = absurd may

rig-failed : (n : Refusal) → Names Cause.Rig n → n ≡ R.Failed
rig-failed R.Failed h = refl
rig-failed n h = absurd (cc)

-- an undo that a device failed has taken its instance down
abbrev pub HasFallen : Event → Reply → State → Type 0
HasFallen e r m' = (t : TxnId) → e ≡ Undo t → r ≡ reply.Refused R.Failed
    → (1 ≤ t.inst) × (t.inst ≤ 8) × ((m'.inst t.inst).status ≡ S.Down)

equal-paid : (m x m' : State) → m' ≡ x → entries_owed x + 1 ≤ entries_owed m → entries_owed m' + 1 ≤ entries_owed m
equal-paid m x m' is less = subst (λ (y : State). entries_owed y + 1 ≤ entries_owed m) (sym is) less

module _ (m : State) (l : Listed m) (placed : LivesAreSound m) (opened : (m.inst 1).status ≢ S.Closed) where
  -- a commit of one that runs is refused only where its force fails
  commit-refused : (t : TxnId) (c : Cause) (m' : State) → (m.part t).life ≡ Life.Running → First m (Commit t) c
      → Refuses m (Commit t) c m'
      → entries_owed m' + 1 ≤ entries_owed m
  commit-refused t Cause.Cut m' runs f h = equal-paid m (cut_commit t m) m' h.1 (cut-paid m t l runs)
  commit-refused t Cause.Shut m' runs f h = absurd (opened f.2)
  commit-refused t Cause.NoTxn m' runs f h = let clash : Life.Running ≡ Life.Gone = sym runs ∙ f.2 in absurd (cc)
  commit-refused t Cause.Down m' runs f h =
      absurd (f.2 (may-run (m.inst t.inst).status
      (subst (λ (life : Life). SuitsStatus life (m.inst t.inst).status) runs (placed.stands t))))
  commit-refused t Cause.Busy m' runs f h = let clash : Life.Running ≡ Life.Rolling f.2.0 = sym runs ∙ f.2.1 in absurd (cc)
  commit-refused t c m' runs f h = let clash = f.0 in absurd (cc)

  -- an instance that is up may always fail
  fail-refused : (i : ℕ) (c : Cause) → (m.inst i).status ≡ S.Up → First m (Fail i) c → ⊥
  fail-refused i Cause.Shut up f = opened f.2
  fail-refused i Cause.Down up f = f.2 (inl up)
  fail-refused i c up f = let clash = f.0 in absurd (cc)

  -- a step of a rollback is owed
  module _ (t : TxnId) (to : Option ℕ) (rolls : (m.part t).life ≡ Life.Rolling to) where
    owes : entries_of_part (m.part t) ≡ length (live (m.part t).acts) + 2
    owes = rolls-owes m t l.once to rolls

    up : (m.inst t.inst).status ≡ S.Up
    up = may-run (m.inst t.inst).status (subst (λ (life : Life). SuitsStatus life (m.inst t.inst).status) rolls (placed.stands t))

    turn-paid : (p : Part) → entries_of_part p + 1 ≤ entries_of_part (m.part t) → entries_owed (put_part t p m) + 1 ≤ entries_owed m
    turn-paid p less = put-paid m t p 1 l.once (rolls-there m t l to rolls) less

    undo-paid : (r : Reply) (m' : State) → Row m (Undo t) r m' → entries_owed m' + 1 ≤ entries_owed m
    undo-paid reply.Step m' h =
        let one = undid-owes m t l.once h.0 h.1 (omega (arith, h.2)) in
        equal-paid m (undid t m) m' h.3 (turn-paid (undid_part (m.part t)) (omega (arith, one)))
    undo-paid reply.Finished m' (inl h) = let clash : Life.Rolling to ≡ Life.Running = sym rolls ∙ h.0 in absurd (cc)
    undo-paid reply.Finished m' (inr (inl h)) =
        let all = owes in
        equal-paid m (turned t Life.Running m) m' h.3 (turn-paid (with_life Life.Running (m.part t)) (omega (arith, all)))
    undo-paid reply.Finished m' (inr (inr h)) =
        let all = owes in equal-paid m (put_part t gone m) m' h.2 (turn-paid gone (omega (arith, all)))
    undo-paid r m' h = absurd h

    -- where a device fails, the instance falls, and its failure is owed no more
    undo-fails : (w w' : Pages) (m' : State) → (1 ≤ t.inst) × (t.inst ≤ 8) × ((m'.inst t.inst).status ≡ S.Down)
        → Fails m w (Undo t) m' w' → entries_owed m' + 1 ≤ entries_owed m
    undo-fails w w' m' down (Fails.stays same pages) =
        let clash : S.Up ≡ S.Down = sym up ∙ ap (λ (x : State). (x.inst t.inst).status) (sym same) ∙ down.2 in absurd (cc)
    undo-fails w w' m' down (Fails.falls j between number may is before after) =
        equal-paid m (fall j m) m' is
        (subst (λ (i : ℕ). entries_owed (fall i m) + 1 ≤ entries_owed m) (sym may) (fall-paid m t.inst down.0 down.1 up))

    module _ (w w' : Pages) (n : Refusal) (m' : State) (next : goal to < length (live (m.part t).acts)
        → owns (w.entry (undo_page m t)) t.inst ≡ true) (fell : HasFallen (Undo t) (reply.Refused n) m') where
      -- whoever has something to undo has it as far as its goal
      owned : HasPage m (Undo t) → owns (w.entry (undo_page m t)) t.inst ≡ true
      owned has = next (subst (λ (o : Option ℕ). goal o < length (live (m.part t).acts)) (same-goal to has.0 (sym rolls ∙ has.1)) has.2)
        where
          same-goal : (x y : Option ℕ) → Life.Rolling x ≡ Life.Rolling y → y ≡ x
          same-goal x y e = cc

      -- so it is refused only where a device fails
      undo-refused : (c : Cause) → Names c n → First m (Undo t) c → PagesAgree m w (Undo t) c → RefusalLeaves m w (Undo t) n m' w'
          → entries_owed m' + 1 ≤ entries_owed m
      undo-refused Cause.Rig names f agree leaves =
          let failed = rig-failed n names in
          undo-fails w w' m' (fell t refl (ap reply.Refused failed))
          (subst (λ (x : Refusal). RefusalLeaves m w (Undo t) x m' w') failed leaves)
      undo-refused Cause.Shut names f agree leaves = absurd (opened f.2)
      undo-refused Cause.NoTxn names f agree leaves = let clash : Life.Rolling to ≡ Life.Gone = sym rolls ∙ f.2 in absurd (cc)
      undo-refused Cause.Down names f agree leaves = absurd (f.2 up)
      undo-refused Cause.Lost names f agree leaves =
          let says = agree refl in absurd (owned-lost (w.entry (undo_page m t)) t.inst (owned says.0) says.1)
      undo-refused Cause.Away names f agree leaves =
          let says = agree refl in let clash : true ≡ false = sym (owned says.0) ∙ says.1 in absurd (cc)
      undo-refused c names f agree leaves = let clash = f.0 in absurd (cc)

-- an event that is owed owes no more
pub owed-none : (w : Core) (e : Event) (r : Reply) → IsOwed w e → owed_more e r ≡ 0
owed-none w (Commit t) r owed = refl
owed-none w (Undo t) r owed = refl
owed-none w (Fail i) r owed = refl
owed-none w e r owed = absurd owed

module _ (w w' : Core) (l : Listed w.scene.state) (placed : LivesAreSound w.scene.state) (opened : (w.scene.state.inst 1).status ≢ S.Closed) where
  abbrev m : State
  m = w.scene.state

  abbrev m' : State
  m' = w'.scene.state

  -- an entry that was owed is owed no more
  step-paid : (e : Event) (r : Reply) → IsOwed w e → HasFallen e r m' → Step m e r m' → Moves m w.pages e r m' w'.pages
      → entries_owed m' + 1 ≤ entries_owed m
  step-paid (Commit t) reply.Did owed fell h moves = equal-paid m (committed t m) m' h.1.1 (commit-paid m t l owed)
  step-paid (Commit t) (reply.Refused n) owed fell h moves = commit-refused m l placed opened t h.0 m' owed h.3 h.4
  step-paid (Commit t) r owed fell h moves = absurd h.1
  step-paid (Undo t) (reply.Refused n) owed fell h moves =
      undo-refused m l placed opened t owed.0 owed.1 w.pages w'.pages n m' owed.2 fell
      moves.cause moves.names moves.first moves.says moves.leaves
  step-paid (Undo t) r owed fell h moves = undo-paid m l placed opened t owed.0 owed.1 r m' h.1
  step-paid (Fail i) reply.Did owed fell h moves = equal-paid m (fall i m) m' h.1 (fall-paid m i owed.0 owed.1 owed.2)
  step-paid (Fail i) (reply.Refused n) owed fell h moves = absurd (fail-refused m l placed opened i h.0 owed.2 h.3)
  step-paid (Fail i) r owed fell h moves = absurd h.1
  step-paid e r owed fell h moves = absurd owed

  pub turns-paid : (e : Event) (r : Reply) → IsOwed w e → HasFallen e r m' → Turns w e r w' → entries_owed m' + 1 ≤ entries_owed m
  turns-paid e r owed fell turns = step-paid e r owed fell turns.plays.step turns.moves

-- where an event is owed, so is an entry
pub owed-some : (w : Core) (e : Event) → Listed w.scene.state → IsOwed w e → 1 ≤ entries_owed w.scene.state
owed-some w (Commit t) l owed = let paid = commit-paid w.scene.state t l owed in omega (arith, paid)
owed-some w (Undo t) l owed =
    let m = w.scene.state in
    let owes = rolls-owes m t l.once owed.0 owed.1 in
    let paid = put-paid m t gone 1 l.once (rolls-there m t l owed.0 owed.1) (omega (arith, owes)) in omega (arith, paid)
owed-some w (Fail i) l owed = let paid = fall-paid w.scene.state i owed.0 owed.1 owed.2 in omega (arith, paid)
owed-some w e l owed = absurd owed
