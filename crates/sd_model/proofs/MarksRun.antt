-- Each step keeps marks and targets within the live puts. It serves the goals of `whereabouts` in laws.rt.
use Rattle.std.proofs.Common.{◌≡◌, ◌⊎◌, inl, inr, ℕ, ◌+◌, ◌≤◌, Bool, true, false, cond, eqb, List, [], ◌∷◌, ◌++◌, None, Some, sym, subst, arith, length}
use Rattle.sd_base.specs.declared.ids.TxnId.{TxnId}
use Rattle.sd_base.specs.declared.ids.Rid.{Rid}
use Rattle.sd_model.specs.declared.act.Act.{Act}
use Rattle.sd_model.specs.declared.act.Claim.{Claim}
use Rattle.sd_model.specs.declared.act.Claim.TheVariants.{Shared, Excl}
use Rattle.sd_model.specs.declared.act.Cut.TheVariants.{Committing}
use Rattle.sd_model.specs.declared.act.Life.{Life}
use Rattle.sd_model.specs.declared.act.Life.TheVariants.{Running, Rolling, Doubt}
use Rattle.sd_model.specs.declared.event.Entry.{Entry}
use Rattle.sd_model.specs.declared.event.Event.{Event}
use Rattle.sd_model.specs.declared.event.Event.TheVariants.{Begin, Read, Write, Add, Insert, Delete, Save, Back, Undo, Commit, List as Listing, Ask, Give, Take, Evict, Flush, Force, CheckBegin, CheckEnd, Fail, FailAll, RecoverBegin, RecoverStep, Join, Reopen, Arm, Show}
use Rattle.sd_model.specs.declared.event.Reply.{Reply}
use Rattle.sd_model.specs.declared.event.Reply.TheVariants.{Began, Value, Did, At, Rows, Have, Asked, Gave, Step as Stepped, Finished, Joined, Shown, Refused}
use Rattle.sd_model.specs.Tables.{Content}
use Rattle.sd_model.specs.Acts.{Puts, live_from, live}
use Rattle.sd_model.specs.State.{State, Part, gone, begun_part, put_part, put_inst, with_life, took, took_part, fall, closed, committed, cut_commit, lost_part, read_at, looked_at, wrote, turned}
use Rattle.sd_model.specs.Changes.{commit_all, swept_part, is_swept, swept, IsLoser}
use Rattle.sd_model.specs.declared.cause.Cause.{Cause}
use Rattle.sd_model.specs.declared.cause.Cause.TheVariants.{NoRecord, NotNumber, Over, Digits, Rig, Cut}
use Rattle.sd_model.specs.Refusing.{Refuses, counted}
use Rattle.sd_model.specs.Step.{Row, Step}
use Rattle.sd_model.specs.Run.{Run}
use Rattle.sd_model.specs.Marks.{AtMost, Goes, Sized, Marked}
use Rattle.sd_model.proofs.Acts.{live_from-append}
use Rattle.sd_model.proofs.Marks.{put-marked, sized-more, marked-sized, back-sized, lost-sized, undid-sized}

gone-sized : Sized gone
gone-sized = record { marks = tt; target = tt }

started-sized : Sized begun_part
started-sized = record { marks = tt; target = tt }

took-sized : (p : Part) (r : Rid) (mode : Claim) (acts : List Act) → ((puts : Puts) → length puts ≤ length (live_from puts acts)) → Sized p → Sized (took_part r mode acts p)
took-sized p r mode acts adds s =
    let more = sized-more p (p.acts ++ acts) (subst (λ (puts : Puts). length (live p.acts) ≤ length puts) (sym (live_from-append [] p.acts acts)) (adds (live p.acts))) s in
    record { marks = more.marks; target = more.target }

took-marked : (m : State) (t : TxnId) (r : Rid) (mode : Claim) (acts : List Act) → ((puts : Puts) → length puts ≤ length (live_from puts acts)) → Marked m → Marked (took t r mode acts m)
took-marked m t r mode acts adds k = put-marked m t (took_part r mode acts (m.part t)) (took-sized (m.part t) r mode acts adds (k.sized t)) k

read-marked : (m : State) (t : TxnId) (r : Rid) (v : Content) → Marked m → Marked (read_at t r v m)
read-marked m t r v k = took-marked m t r Shared (Act.Read r v ∷ []) (λ puts. omega arith) k

look-marked : (m : State) (t : TxnId) (r : Rid) (v : Content) → Marked m → Marked (looked_at t r v m)
look-marked m t r v k = took-marked m t r Excl (Act.Read r v ∷ []) (λ puts. omega arith) k

write-marked : (m : State) (t : TxnId) (r : Rid) (v w : Content) → Marked m → Marked (wrote t r v w m)
write-marked m t r v w k = took-marked m t r Excl (Act.Read r v ∷ Act.Put r w ∷ []) (λ puts. omega arith) k

-- other statuses and lists
same-marked : (m m' : State) → m'.part ≡ m.part → Marked m → Marked m'
same-marked m m' e k = record { sized = λ t. subst (λ (f : TxnId → Part). Sized (f t)) (sym e) (k.sized t) }

with_life-sized : (p : Part) (life : Life) → Goes (length (live p.acts)) life → Sized p → Sized (with_life life p)
with_life-sized p life g s = record { marks = s.marks; target = g }

turned-marked : (m : State) (t : TxnId) (life : Life) → Goes (length (live (m.part t).acts)) life → Marked m → Marked (turned t life m)
turned-marked m t life g k = put-marked m t (with_life life (m.part t)) (with_life-sized (m.part t) life g (k.sized t)) k

cond-sized : (b : Bool) (p : Part) → Sized p → Sized (cond b (lost_part p) p)
cond-sized true p s = lost-sized p
cond-sized false p s = s

fall-marked : (i : ℕ) (m : State) → Marked m → Marked (fall i m)
fall-marked i m k = record { sized = λ t. cond-sized (eqb i t.inst) (m.part t) (k.sized t) }

closed-marked : (m : State) → Marked m → Marked (closed m)
closed-marked m k = record { sized = λ t. lost-sized (m.part t) }

committed-marked : (m : State) (t : TxnId) → Marked m → Marked (committed t m)
committed-marked m t k = put-marked (record m { done = m.done ++ record { txn = t; acts = (m.part t).acts } ∷ [] }) t gone gone-sized (record { sized = k.sized })

commit_all-marked : (kept : List TxnId) (m : State) → Marked m → Marked (commit_all kept m)
commit_all-marked [] m k = k
commit_all-marked (t ∷ ts) m k = commit_all-marked ts (committed t m) (committed-marked m t k)

swept_go-sized : (b : Bool) (p : Part) → Sized p → Sized (cond b gone p)
swept_go-sized true p s = gone-sized
swept_go-sized false p s = s

swept-sized : (b : Bool) (p : Part) → Sized p → Sized (cond b (swept_part p) p)
swept-sized true p s = swept_go-sized (is_swept p.life) p s
swept-sized false p s = s

swept-marked : (i : ℕ) (m : State) → Marked m → Marked (swept i m)
swept-marked i m k = record { sized = λ t. swept-sized (eqb i t.inst) (m.part t) (k.sized t) }

left-sized : (old new : Part) → (new ≡ gone) ⊎ IsLoser old new → Sized new
left-sized old new (inl e) = subst Sized (sym e) gone-sized
left-sized old new (inr h) = record { marks = subst (AtMost (length (live new.acts))) (sym h.marks) tt; target = subst (Goes (length (live new.acts))) (sym h.life) tt }

cut-marked : (m : State) (t : TxnId) → Marked m → Marked (cut_commit t m)
cut-marked m t k = fall-marked t.inst (put_part t (record (m.part t) { life = Doubt Committing; marks = [] }) (record m { cuts = m.cuts ++ t ∷ [] }))
    (put-marked (record m { cuts = m.cuts ++ t ∷ [] }) t (record (m.part t) { life = Doubt Committing; marks = [] }) (record { marks = tt; target = tt }) (record { sized = k.sized }))

pub row-marked : (m : State) (e : Event) (reply : Reply) (m' : State) → Row m e reply m' → Marked m → Marked m'
row-marked m (Begin i) (Began x) m' h k = subst Marked (sym h.1) (put-marked (put_inst i (record (m.inst i) { begins = (m.inst i).begins + 1 }) (record m { begun = m.begun ++ x ∷ [] })) x begun_part started-sized (record { sized = k.sized }))
row-marked m (Read t r) (Value v) m' h k = subst Marked (sym h.2) (read-marked m t r v k)
row-marked m (Write t r new) Did m' h k = subst Marked (sym h.3) (write-marked m t r (Some h.0) (Some new) k)
row-marked m (Add t r by) Did m' h k = subst Marked (sym h.5) (write-marked m t r (Some h.0) (Some h.1) k)
row-marked m (Delete t r) Did m' h k = subst Marked (sym h.3) (write-marked m t r (Some h.0) None k)
row-marked m (Insert t p new capacity) (At r) m' h k = subst Marked (sym h.4) (write-marked m t r None (Some new) k)
row-marked m (Save t name) Did m' h k = subst Marked (sym h.1) (put-marked m t _ (marked-sized (m.part t) name (k.sized t)) k)
row-marked m (Back t (Some name)) Did m' h k = subst Marked (sym h.3) (put-marked m t _ (back-sized (m.part t) name h.0 h.2 (k.sized t)) k)
row-marked m (Back t None) Did m' h k = subst Marked (sym h.1) (turned-marked m t (Rolling None) tt k)
row-marked m (Undo t) Stepped m' h k = subst Marked (sym h.3) (put-marked m t _ (undid-sized (m.part t) h.0 h.1 h.2) k)
row-marked m (Undo t) Finished m' (inl h) k = subst Marked (sym h.1) k
row-marked m (Undo t) Finished m' (inr (inl h)) k = subst Marked (sym h.3) (turned-marked m t Running tt k)
row-marked m (Undo t) Finished m' (inr (inr h)) k = subst Marked (sym h.2) (put-marked m t gone gone-sized k)
row-marked m (Commit t) Did m' h k = subst Marked (sym h.1) (committed-marked m t k)
row-marked m (Listing i p) (Rows rows) m' h k = subst Marked (sym h.1) k
row-marked m (Fail i) Did m' h k = subst Marked (sym h) (fall-marked i m k)
row-marked m (FailAll pick) Did m' h k = subst Marked (sym h) (closed-marked m k)
row-marked m Reopen Did m' h k = record { sized = λ t. left-sized ((commit_all h.0 m).part t) (m'.part t) (h.2.part t) }
row-marked m (RecoverBegin i by) Did m' h k = subst Marked (sym h) (record { sized = k.sized })
row-marked m (RecoverStep i) Stepped m' h k = subst Marked (sym h) k
row-marked m (RecoverStep i) Finished m' h k = subst Marked (sym h.4) (swept-marked i (commit_all h.0 m) (commit_all-marked h.0 m k))
row-marked m (Join i) (Joined epoch) m' h k = subst Marked (sym h.2) (record { sized = k.sized })
row-marked m (Ask i p mode) Have m' h k = subst Marked (sym h) k
row-marked m (Ask i p mode) (Asked of) m' h k = subst Marked (sym h) k
row-marked m (Give i p) (Gave to) m' h k = subst Marked (sym h) k
row-marked m (Take i p) Did m' h k = subst Marked (sym h) k
row-marked m (Evict i p) Did m' h k = subst Marked (sym h) k
row-marked m (Flush i p) Did m' h k = subst Marked (sym h) k
row-marked m (Force i) Did m' h k = subst Marked (sym h) k
row-marked m (CheckBegin i) Did m' h k = subst Marked (sym h) k
row-marked m (CheckEnd i) Did m' h k = subst Marked (sym h) k
row-marked m (Show p) (Shown place lsn) m' h k = subst Marked (sym h) k
row-marked m (Arm trouble) Did m' h k = subst Marked (sym h) k
row-marked m e reply m' h k = absurd h

counted-marked : (e : Event) (m : State) → Marked m → Marked (counted e m)
counted-marked (Join i) m k = record { sized = k.sized }
counted-marked e m k = k

pub refused-marked : (m : State) (e : Event) (c : Cause) (m' : State) → Refuses m e c m' → Marked m → Marked m'
refused-marked m e NoRecord m' h k = subst Marked (sym h) (look-marked m _ _ _ k)
refused-marked m e NotNumber m' h k = subst Marked (sym h) (look-marked m _ _ _ k)
refused-marked m e Digits m' h k = subst Marked (sym h) (look-marked m _ _ _ k)
refused-marked m e Over m' h k = subst Marked (sym h) (look-marked m _ _ _ k)
refused-marked m e Rig m' (inl h) k = subst Marked (sym h) (counted-marked e m k)
refused-marked m e Rig m' (inr h) k = subst Marked (sym h.2) (fall-marked h.0 (counted e m) (counted-marked e m k))
refused-marked m e Cut m' h k = subst Marked (sym h.1) (cut-marked m _ k)
refused-marked m e c m' h k = subst Marked (sym h) k

pub step-marked : (m : State) (e : Event) (reply : Reply) (m' : State) → Step m e reply m' → Marked m → Marked m'
step-marked m e (Refused n) m' h k = refused-marked m e h.0 m' h.4 k
step-marked m e reply m' h k = row-marked m e reply m' h.1 k

pub run-marked : (es : List Entry) (m m' : State) → Run m es m' → Marked m → Marked m'
run-marked [] m m' r k = subst Marked r k
run-marked (e ∷ es) m m' r k = run-marked es r.0 m' r.2 (step-marked m e.event e.reply r.0 r.1 k)
