-- A page is lost only while an instance is down or is recovered. It serves the goal of `losses` in laws.rt.
use Rattle.std.proofs.Common.{◌≡◌, ◌⊎◌, inl, inr, ⊎_elim, ℕ, ◌+◌, Bool, true, false, cond, None, Some, refl, sym, ap, ◌∙◌, subst, eq-eqb}
use Rattle.sd_base.specs.declared.ids.TxnId.{TxnId}
use Rattle.sd_base.specs.declared.place.Mode.{Mode}
use Rattle.sd_base.specs.declared.place.Status.{Status}
use Rattle.sd_base.specs.declared.place.Status.TheVariants.{Up, Down, Recovering, Clean, Restarting, Closed}
use Rattle.sd_base.specs.declared.refusal.Refusal.{Refusal}
use Rattle.sd_base.specs.declared.refusal.Refusal.TheVariants as R
use Rattle.sd_model.specs.declared.act.Inst.{Inst}
use Rattle.sd_model.specs.declared.cause.Cause.{Cause}
use Rattle.sd_model.specs.declared.event.Event.{Event}
use Rattle.sd_model.specs.declared.event.Event.TheVariants.{Begin, Read, Write, Add, Insert, Delete, Save, Back, Undo, Commit, List as Listing, Ask, Give, Take, Evict, Flush, Force, CheckBegin, CheckEnd, Fail, FailAll, RecoverBegin, RecoverStep, Join, Reopen, Arm, Show}
use Rattle.sd_model.specs.declared.event.Reply.{Reply}
use Rattle.sd_model.specs.declared.event.Reply.TheVariants as reply
use Rattle.sd_model.specs.State.{State, cut_commit, fall, freed, put_inst}
use Rattle.sd_model.specs.Changes.{HasLoser}
use Rattle.sd_model.specs.Applies.{Clear}
use Rattle.sd_model.specs.Causes.{order}
use Rattle.sd_model.specs.Fields.{txn_of}
use Rattle.sd_model.specs.Refusing.{Names, Refuses, counted, found}
use Rattle.sd_model.specs.Step.{Row, Step}
use Rattle.sd_model.proofs.Placed.{each_inst}
use Rattle.sd_pagelock.specs.Places.{PageEntry, holds, holds_as, is_lost, passes}
use Rattle.sd_pagelock.specs.Rows.{dirtied, fallen, may_evict, taken, written}
use Rattle.sd_world.specs.Pages.{Pages, AreFormed, emptied, given, had, is_had, numbered, page_placed, renumbered}
use Rattle.sd_world.specs.PageCauses.{NoneSays, undo_page}
use Rattle.sd_world.specs.Answers.{AreFoundLost, Answers, Fails, Gives, RefusalLeaves, Moves, Rebuilds, Undoes, changes, takes_back}
use Rattle.sd_world.specs.Laws.{AreCoded, HasFallen, IsOut, LossIsKnown}
use Rattle.sd_world.proofs.Causes.{none-says, state-left}
use Rattle.sd_world.proofs.Gains.{LosesNone, asker_other, evicted-there, found_lost, given-there, had-there, placed-loses, taken-there, written-there}

-- ---- instances

same-out : (m m' : State) → m'.inst ≡ m.inst → HasFallen m → HasFallen m'
same-out m m' is h = subst (λ (f : ℕ → Inst). (i : ℕ) × IsOut (f i).status) (sym is) h

put-out : (m : State) (i : ℕ) (x : Inst) → (IsOut (m.inst i).status → IsOut x.status) → HasFallen m → HasFallen (put_inst i x m)
put-out m i x here h = (h.0, each_inst i (λ (j : ℕ) (y : Inst). IsOut (m.inst j).status → IsOut y.status) x m.inst here (λ j ne out. out) h.0 h.1)

fall-out : (i : ℕ) (m : State) → HasFallen (fall i m)
fall-out i m = (i, inl (ap (λ (b : Bool). cond b Down (freed i (m.inst i).status)) (eq-eqb i i refl)))

counted-out : (e : Event) (m : State) → HasFallen m → HasFallen (counted e m)
counted-out (Join i) m h = put-out m i (record (m.inst i) { failed = (m.inst i).failed + 1 }) (λ out. out) h
counted-out e m h = h

-- ---- pages

none_left : {A : Type 0} → false ≡ true → A
none_left e = absurd (cc)

yes_no : {A : Type 0} {b : Bool} → b ≡ true → b ≡ false → A
yes_no yes_ no_ = none_left (sym no_ ∙ yes_)

isnt : (b : Bool) → (b ≡ true → ⊥) → b ≡ false
isnt true h = absurd (h refl)
isnt false h = refl

is_so : (b : Bool) → (b ≡ false → ⊥) → b ≡ true
is_so true h = refl
is_so false h = absurd (h refl)

carry : (m m' : State) (w w' : Pages) → (HasFallen m → HasFallen m') → LosesNone w w' → LossIsKnown m w → LossIsKnown m' w'
carry m m' w w' out loses k p lost = out (k p (loses p lost))

-- the state is this one, and so are the pages
both : (m n m' : State) (w v w' : Pages) → m' ≡ n → w' ≡ v → (HasFallen m → HasFallen n) → LosesNone w v → LossIsKnown m w → LossIsKnown m' w'
both m n m' w v w' is at out loses k = subst (λ (x : State). LossIsKnown x w') (sym is) (subst (λ (x : Pages). LossIsKnown n x) (sym at) (carry m n w v out loses k))

keep : (w : Pages) → LosesNone w w
keep w q h = h

gets-loses : (i p : ℕ) (mode : Mode) (w : Pages) → is_had i mode (w.entry p) ≡ true → AreFormed w → AreCoded w → LosesNone w (cond {A = Pages} (holds_as mode (w.entry p) i) w (page_placed p (had i mode (w.entry p)) w))
gets-loses i p mode w h f c = go (holds_as mode (w.entry p) i) refl
  where
    go : (b : Bool) → holds_as mode (w.entry p) i ≡ b → LosesNone w (cond {A = Pages} b w (page_placed p (had i mode (w.entry p)) w))
    go true is = keep w
    go false is = placed-loses p (had i mode (w.entry p)) w (had-there i mode (w.entry p) h is (f p).formed (c p))

gives-loses : (m : State) (i p to : ℕ) (w w' : Pages) (h : Gives i p to w w') → NoneSays m w (Give i p) (order (Give i p)) → AreFormed w → AreCoded w → LosesNone w (page_placed p (given i (to, h.0) (w.entry p)) w)
gives-loses m i p to w w' h n f c = placed-loses p (given i (to, h.0) (w.entry p)) w (given-there i to h.0 (w.entry p) (asker_other i (w.asks p) to h.0 h.1)
    (is_so (holds (w.entry p) i) (none-says m w (Give i p) (order (Give i p)) Cause.Away n refl refl))
    (isnt (passes (w.entry p)) (none-says m w (Give i p) (order (Give i p)) Cause.Moving n refl refl))
    (isnt (is_lost (w.entry p)) (none-says m w (Give i p) (order (Give i p)) Cause.Lost n refl refl)) (f p).formed (c p))

takes-loses : (m : State) (i p : ℕ) (w : Pages) → NoneSays m w (Take i p) (order (Take i p)) → LosesNone w (page_placed p (taken (w.entry p)) w)
takes-loses m i p w n = placed-loses p (taken (w.entry p)) w (taken-there (w.entry p)
    ∙ isnt (is_lost (w.entry p)) (none-says m w (Take i p) (order (Take i p)) Cause.Lost n refl refl))

evicts-loses : (m : State) (i p : ℕ) (w : Pages) → NoneSays m w (Evict i p) (order (Evict i p)) → AreFormed w → AreCoded w → LosesNone w (page_placed p (fallen i (w.entry p)) w)
evicts-loses m i p w n f c = placed-loses p (fallen i (w.entry p)) w (evicted-there i (w.entry p)
    (is_so (may_evict i (w.entry p)) (none-says m w (Evict i p) (order (Evict i p)) Cause.Dirty n refl refl)) (f p).formed (c p))

rebuilds-loses : (m : State) (i : ℕ) (w w' : Pages) → Rebuilds m i w w' → LosesNone w w'
rebuilds-loses m i w w' (Rebuilds.undoes (Undoes.none is)) = subst (LosesNone w) (sym is) (keep w)
rebuilds-loses m i w w' (Rebuilds.undoes (Undoes.one p by may is)) = subst (LosesNone w) (sym is) (placed-loses p (dirtied by) w refl)
rebuilds-loses m i w w' (Rebuilds.frees p lowest is) = subst (LosesNone w) (sym is) (placed-loses p PageEntry.Free w refl)

-- ---- a reopening

is_down : (s : Status) → (s ≡ Down) ⊎ (s ≡ Down → ⊥)
is_down Up = inr (λ e. absurd (cc))
is_down Down = inl refl
is_down (Recovering by) = inr (λ e. absurd (cc))
is_down Clean = inr (λ e. absurd (cc))
is_down Restarting = inr (λ e. absurd (cc))
is_down Closed = inr (λ e. absurd (cc))

found-known : (m : State) (lost : ℕ → Bool) (number : ℕ → ℕ) (w : Pages) → ((i : ℕ) → HasLoser m i → (m.inst i).status ≡ Down) → AreFoundLost m lost → LossIsKnown m (emptied lost number w)
found-known m lost number w down found p is = ⊎_elim
    (λ e. (1, inl e))
    (λ ne. (1, inl (found.lost 1 (λ loser. ne (down 1 loser)) p (found_lost (lost p) is))))
    (is_down (m.inst 1).status)

-- ---- replies

abbrev Known : State → Pages → Event → Reply → State → Pages → Type 0
Known m w e r m' w' = Clear m e → Row m e r m' → NoneSays m w e (order e) → Answers m w e r m' w' → AreFormed w → AreCoded w → LossIsKnown m w → LossIsKnown m' w'

begin-known : (m : State) (w : Pages) (i : ℕ) (x : TxnId) (m' : State) (w' : Pages) → Known m w (Begin i) (reply.Began x) m' w'
begin-known m w i x m' w' clear row n h f c k = both m _ m' w w w' row.1 h (put-out m i (record (m.inst i) { begins = (m.inst i).begins + 1 }) (λ out. out)) (keep w) k

join-known : (m : State) (w : Pages) (i epoch : ℕ) (m' : State) (w' : Pages) → Known m w (Join i) (reply.Joined epoch) m' w'
join-known m w i epoch m' w' clear row n h f c k = both m _ m' w w w' row.2 h
    (put-out m i (record { status = Up; epoch = epoch; begins = 0; failed = 0 }) (λ out. absurd (clear.1.1.0 out))) (keep w) k

recover-known : (m : State) (w : Pages) (i by : ℕ) (m' : State) (w' : Pages) → Known m w (RecoverBegin i by) reply.Did m' w'
recover-known m w i by m' w' clear row n h f c k = both m _ m' w w w' row h (put-out m i (record (m.inst i) { status = Recovering by }) (λ out. inr (by, refl))) (keep w) k

change-known : (m n m' : State) (i p : ℕ) (w w' : Pages) → m' ≡ n → n.inst ≡ m.inst → changes i p w w' → LossIsKnown m w → LossIsKnown m' w'
change-known m n m' i p w w' is inst h k = both m n m' w (numbered p h.0 (page_placed p (dirtied i) w)) w' is h.2 (same-out m n inst) (placed-loses p (dirtied i) w refl) k

undo-known : (m n m' : State) (i p : ℕ) (w w' : Pages) → m' ≡ n → n.inst ≡ m.inst → takes_back i p w w' → LossIsKnown m w → LossIsKnown m' w'
undo-known m n m' i p w w' is inst h k = both m n m' w (numbered p h.0 (page_placed p (dirtied i) w)) w' is h.2 (same-out m n inst) (placed-loses p (dirtied i) w refl) k

-- neither instances nor pages change
quiet : (m n m' : State) (w w' : Pages) → m' ≡ n → n.inst ≡ m.inst → w' ≡ w → LossIsKnown m w → LossIsKnown m' w'
quiet m n m' w w' is inst h k = both m n m' w w w' is h (same-out m n inst) (keep w) k

paged : (m m' : State) (w v w' : Pages) → m' ≡ m → w' ≡ v → LosesNone w v → LossIsKnown m w → LossIsKnown m' w'
paged m m' w v w' is h loses k = both m m m' w v w' is h (λ out. out) loses k

finished-known : (m : State) (w : Pages) (t : TxnId) (m' : State) (w' : Pages) → Known m w (Undo t) reply.Finished m' w'
finished-known m w t m' w' clear (inl row) n h f c k = quiet m _ m' w w' row.1 refl h k
finished-known m w t m' w' clear (inr (inl row)) n h f c k = quiet m _ m' w w' row.3 refl h k
finished-known m w t m' w' clear (inr (inr row)) n h f c k = quiet m _ m' w w' row.2 refl h k

answer-known : (m : State) (w : Pages) (e : Event) (r : Reply) (m' : State) (w' : Pages) → Known m w e r m' w'
answer-known m w (Begin i) (reply.Began x) m' w' clear row n h f c k = begin-known m w i x m' w' clear row n h f c k
answer-known m w (Read t r) (reply.Value v) m' w' clear row n h f c k = quiet m _ m' w w' row.2 refl h k
answer-known m w (Write t r v) reply.Did m' w' clear row n h f c k = change-known m _ m' t.inst r.page w w' row.3 refl h k
answer-known m w (Add t r by) reply.Did m' w' clear row n h f c k = change-known m _ m' t.inst r.page w w' row.5 refl h k
answer-known m w (Delete t r) reply.Did m' w' clear row n h f c k = change-known m _ m' t.inst r.page w w' row.3 refl h k
answer-known m w (Insert t p v s) (reply.At r) m' w' clear row n h f c k = change-known m _ m' t.inst p w w' row.4 refl h k
answer-known m w (Save t name) reply.Did m' w' clear row n h f c k = quiet m _ m' w w' row.1 refl h k
answer-known m w (Back t (Some name)) reply.Did m' w' clear row n h f c k = quiet m _ m' w w' row.3 refl h k
answer-known m w (Back t None) reply.Did m' w' clear row n h f c k = quiet m _ m' w w' row.1 refl h k
answer-known m w (Undo t) reply.Step m' w' clear row n h f c k = undo-known m _ m' t.inst (undo_page m t) w w' row.3 refl h k
answer-known m w (Undo t) reply.Finished m' w' clear row n h f c k = finished-known m w t m' w' clear row n h f c k
answer-known m w (Commit t) reply.Did m' w' clear row n h f c k = quiet m _ m' w w' row.1 refl h k
answer-known m w (Listing i p) (reply.Rows rows) m' w' clear row n h f c k = quiet m _ m' w w' row.1 refl h k
answer-known m w (Fail i) reply.Did m' w' clear row n h f c k = λ p lost. subst HasFallen (sym row) (fall-out i m)
answer-known m w (FailAll pick) reply.Did m' w' clear row n h f c k = λ p lost. none_left (subst (λ (x : Pages). is_lost (x.entry p) ≡ true) h.1 lost)
answer-known m w Reopen reply.Did m' w' clear row n h f c k = subst (LossIsKnown m') (sym h.3) (found-known m' h.0 h.1 w row.2.down h.2)
answer-known m w (RecoverBegin i by) reply.Did m' w' clear row n h f c k = recover-known m w i by m' w' clear row n h f c k
answer-known m w (RecoverStep i) reply.Step m' w' clear row n h f c k = paged m m' w (renumbered h.1 h.0) w' row h.3 (rebuilds-loses m i w h.0 h.2) k
answer-known m w (RecoverStep i) reply.Finished m' w' clear row n h f c k = λ p lost. yes_no (subst (λ (x : Pages). is_lost (x.entry p) ≡ true) h.1.1 lost) (h.0 p)
answer-known m w (Join i) (reply.Joined epoch) m' w' clear row n h f c k = join-known m w i epoch m' w' clear row n h f c k
answer-known m w (Ask i p mode) reply.Have m' w' clear row n h f c k = paged m m' w _ w' row h.1 (gets-loses i p mode w h.0 f c) k
answer-known m w (Ask i p mode) (reply.Asked of) m' w' clear row n h f c k = paged m m' w _ w' row h.2 (keep w) k
answer-known m w (Give i p) (reply.Gave to) m' w' clear row n h f c k = paged m m' w _ w' row h.2 (gives-loses m i p to w w' h n f c) k
answer-known m w (Take i p) reply.Did m' w' clear row n h f c k = paged m m' w (page_placed p (taken (w.entry p)) w) w' row h (takes-loses m i p w n) k
answer-known m w (Evict i p) reply.Did m' w' clear row n h f c k = paged m m' w (page_placed p (fallen i (w.entry p)) w) w' row h (evicts-loses m i p w n f c) k
answer-known m w (Flush i p) reply.Did m' w' clear row n h f c k = paged m m' w (page_placed p (written (w.entry p)) w) w' row h (placed-loses p (written (w.entry p)) w (written-there (w.entry p))) k
answer-known m w (Force i) reply.Did m' w' clear row n h f c k = quiet m m m' w w' row refl h k
answer-known m w (CheckBegin i) reply.Did m' w' clear row n h f c k = paged m m' w _ w' row h (keep w) k
answer-known m w (CheckEnd i) reply.Did m' w' clear row n h f c k = paged m m' w _ w' row h (keep w) k
answer-known m w (Arm trouble) reply.Did m' w' clear row n h f c k = quiet m m m' w w' row refl h k
answer-known m w (Show p) (reply.Shown place lsn) m' w' clear row n h f c k = quiet m m m' w w' row refl h.2 k
answer-known m w (Back t None) r m' w' clear row n h f c k = absurd row
answer-known m w (Back t (Some name)) r m' w' clear row n h f c k = absurd row
answer-known m w e r m' w' clear row n h f c k = absurd row

-- ---- refusals

-- a failed device: nothing changed, or an instance fell
fails-known : (m : State) (w : Pages) (e : Event) (m' : State) (w' : Pages) → Fails m w e m' w' → LossIsKnown m w → LossIsKnown m' w'
fails-known m w e m' w' (Fails.stays state is) k = both m (counted e m) m' w w w' state is (counted-out e m) (keep w) k
fails-known m w e m' w' (Fails.falls j between number may state before is) k = λ p lost. subst HasFallen (sym state) (fall-out j (counted e m))

cut-falls : (t : TxnId) (m : State) → HasFallen (cut_commit t m)
cut-falls t m = (t.inst, inl (ap (λ (b : Bool). cond b Down (freed t.inst (m.inst t.inst).status)) (eq-eqb t.inst t.inst refl)))

-- the state after a cut commit has a fallen instance
cut-out : (m : State) (e : Event) (m' : State) (c : Cause) → Names c R.CutCommit → Refuses m e c m' → HasFallen m'
cut-out m e m' Cause.Cut names h = subst HasFallen (sym h.1) (cut-falls (txn_of e) m)
cut-out m e m' c names h = none_left names

-- the instances stay, where no device failed
refused-same : (m : State) (e : Event) (m' : State) → (m' ≡ m) ⊎ (m' ≡ found e m) → HasFallen m → HasFallen m'
refused-same m e m' (inl is) h = subst HasFallen (sym is) h
refused-same m e m' (inr is) h = subst HasFallen (sym is) (same-out m (found e m) refl h)

refused-known : (m : State) (w : Pages) (e : Event) (n : Refusal) (m' : State) (w' : Pages) → Step m e (reply.Refused n) m' → RefusalLeaves m w e n m' w' → LossIsKnown m w → LossIsKnown m' w'
refused-known m w e R.Failed m' w' s h k = fails-known m w e m' w' h k
refused-known m w e R.CutCommit m' w' s h k = λ p lost. cut-out m e m' s.0 s.1 s.4
refused-known m w e n m' w' s h k = subst (LossIsKnown m') (sym h) (λ p lost. refused-same m e m' (state-left m e n m' s tt) (k p lost))

pub loss-known : (m : State) (w : Pages) (e : Event) (r : Reply) (m' : State) (w' : Pages)
    → Step m e r m' → Moves m w e r m' w' → AreFormed w → AreCoded w → LossIsKnown m w → LossIsKnown m' w'
loss-known m w e (reply.Refused n) m' w' s h f c k = refused-known m w e n m' w' s h.leaves k
loss-known m w e r m' w' s h f c k = answer-known m w e r m' w' s.0 s.1 h.0 h.1 f c k
