-- Each step, and so each run, is made of the four kinds of changes.
use Rattle.std.proofs.Common.{◌≡◌, inl, inr, ⊎_elim, ℕ, List, [], ◌∷◌, Option, None, Some, refl, sym, subst, arith}
use Rattle.sd_base.specs.declared.ids.TxnId.{TxnId}
use Rattle.sd_base.specs.declared.place.Status.TheVariants.{Recovering}
use Rattle.sd_model.specs.declared.act.Life.TheVariants.{Running, Rolling}
use Rattle.sd_model.specs.declared.event.Entry.{Entry}
use Rattle.sd_model.specs.declared.event.Event.{Event}
use Rattle.sd_model.specs.declared.event.Event.TheVariants.{Begin, Read, Write, Add, Insert, Delete, Save, Back, Undo, Commit, List as Listing, Ask, Give, Take, Evict, Flush, Force, CheckBegin, CheckEnd, Fail, FailAll, RecoverBegin, RecoverStep, Join, Reopen, Arm, Show}
use Rattle.sd_model.specs.declared.event.Reply.{Reply}
use Rattle.sd_model.specs.declared.event.Reply.TheVariants.{Began, Value, Did, At, Rows, Have, Asked, Gave, Step as Stepped, Finished, Joined, Shown, Refused}
use Rattle.sd_model.specs.State.{State, Part, put_part, committed, began}
use Rattle.sd_model.specs.Changes.{commit_all, AreInDoubt}
use Rattle.sd_model.specs.declared.cause.Cause.{Cause}
use Rattle.sd_model.specs.declared.cause.Cause.TheVariants.{NoRecord, NotNumber, Over, Digits, Rig, Cut}
use Rattle.sd_model.specs.Applies.{Clear}
use Rattle.sd_model.specs.Fields.{txn_of}
use Rattle.sd_model.specs.Refusing.{Refuses, counted}
use Rattle.sd_model.specs.Step.{Row, Step}
use Rattle.sd_model.specs.Run.{Run}
use Rattle.sd_model.specs.Lives.{MayRun}
use Rattle.sd_model.specs.Kept.{MayCommit}
use Rattle.sd_model.proofs.Moves.{Keeps, doubted, is_up, runs-works, rolls-works, life-calm, gone-calm, works-calm, inst-calm, rest-calm, fall-calm, closed-calm, swept-calm, left-calm}

module _ (P : State → Type 0) (k : Keeps P) where
  commit_all-keeps : (kept : List TxnId) (m : State) → AreInDoubt m kept → P m → P (commit_all kept m)
  commit_all-keeps [] m d p = p
  commit_all-keeps (t ∷ ts) m d p = commit_all-keeps ts (committed t m) d.1 (k.commits m t (subst MayCommit (sym d.0) tt) p)

  -- the same life with other acts, marks or claims
  same : (m : State) (t : TxnId) (q : Part) → q.life ≡ (m.part t).life → P m → P (put_part t q m)
  same m t q e p = k.calm m (put_part t q m) (life-calm m t q e) p

  pub row-keeps : (m : State) (e : Event) (reply : Reply) (m' : State) → Clear m e → Row m e reply m' → P m → P m'
  row-keeps m (Begin i) (Began x) m' c h p = subst P (sym h.1) (subst (λ (y : TxnId). P (began i y m)) (sym h.0) (k.begins m i (is_up (m.inst i).status c.1.0) p))
  row-keeps m (Read t r) (Value v) m' c h p = subst P (sym h.2) (same m t _ refl p)
  row-keeps m (Write t r new) Did m' c h p = subst P (sym h.3) (same m t _ refl p)
  row-keeps m (Add t r by) Did m' c h p = subst P (sym h.5) (same m t _ refl p)
  row-keeps m (Delete t r) Did m' c h p = subst P (sym h.3) (same m t _ refl p)
  row-keeps m (Insert t q new capacity) (At r) m' c h p = subst P (sym h.4) (same m t _ refl p)
  row-keeps m (Save t name) Did m' c h p = subst P (sym h.1) (same m t _ refl p)
  row-keeps m (Back t (Some name)) Did m' c h p = subst P (sym h.3) (k.calm m _ (works-calm m t (Rolling (Some h.0)) (runs-works _ h.1) (λ d. d)) p)
  row-keeps m (Back t None) Did m' c h p = subst P (sym h.1) (k.calm m _ (works-calm m t (Rolling None) (⊎_elim (runs-works _) (λ (x : (to : Option ℕ) × ((m.part t).life ≡ Rolling to)). rolls-works _ x.0 x.1) h.0) (λ d. d)) p)
  row-keeps m (Undo t) Stepped m' c h p = subst P (sym h.3) (same m t _ refl p)
  row-keeps m (Undo t) Finished m' c (inl h) p = subst P (sym h.1) p
  row-keeps m (Undo t) Finished m' c (inr (inl h)) p = subst P (sym h.3) (k.calm m _ (works-calm m t Running (rolls-works _ (Some h.0) h.1) (λ d. d)) p)
  row-keeps m (Undo t) Finished m' c (inr (inr h)) p = subst P (sym h.2) (k.calm m _ (gone-calm m t) p)
  row-keeps m (Commit t) Did m' c h p = subst P (sym h.1) (k.commits m t (subst MayCommit (sym h.0) tt) p)
  row-keeps m (Listing i q) (Rows rows) m' c h p = subst P (sym h.1) p
  row-keeps m (Fail i) Did m' c h p = subst P (sym h) (k.calm m _ (fall-calm i m) p)
  row-keeps m (FailAll pick) Did m' c h p = subst P (sym h) (k.calm m _ (closed-calm m) p)
  row-keeps m Reopen Did m' c h p = k.calm (commit_all h.0 m) m' (left-calm (commit_all h.0 m) m' h.2) (commit_all-keeps h.0 m h.1 p)
  row-keeps m (RecoverBegin i by) Did m' c h p = subst P (sym h) (k.calm m _ (rest-calm m i (Recovering by) (λ e. subst MayRun (sym e) tt)) p)
  row-keeps m (RecoverStep i) Stepped m' c h p = subst P (sym h) p
  row-keeps m (RecoverStep i) Finished m' c h p = subst P (sym h.4) (k.calm (commit_all h.0 m) _ (swept-calm i (commit_all h.0 m)) (commit_all-keeps h.0 m h.3 p))
  row-keeps m (Join i) (Joined epoch) m' c h p = subst P (sym h.2) (k.calm m _ (inst-calm m i _ (inl h.0)) p)
  row-keeps m (Ask i q mode) Have m' c h p = subst P (sym h) p
  row-keeps m (Ask i q mode) (Asked of) m' c h p = subst P (sym h) p
  row-keeps m (Give i q) (Gave to) m' c h p = subst P (sym h) p
  row-keeps m (Take i q) Did m' c h p = subst P (sym h) p
  row-keeps m (Evict i q) Did m' c h p = subst P (sym h) p
  row-keeps m (Flush i q) Did m' c h p = subst P (sym h) p
  row-keeps m (Force i) Did m' c h p = subst P (sym h) p
  row-keeps m (CheckBegin i) Did m' c h p = subst P (sym h) p
  row-keeps m (CheckEnd i) Did m' c h p = subst P (sym h) p
  row-keeps m (Show q) (Shown place lsn) m' c h p = subst P (sym h) p
  row-keeps m (Arm trouble) Did m' c h p = subst P (sym h) p
  row-keeps m e reply m' c h p = absurd h

  counted-keeps : (e : Event) (m : State) → P m → P (counted e m)
  counted-keeps (Join i) m p = k.calm m _ (inst-calm m i _ (inr (refl, λ up. (up, omega arith)))) p
  counted-keeps e m p = p

  pub refused-keeps : (m : State) (e : Event) (c : Cause) (m' : State) → Refuses m e c m' → P m → P m'
  refused-keeps m e NoRecord m' h p = subst P (sym h) (same m (txn_of e) _ refl p)
  refused-keeps m e NotNumber m' h p = subst P (sym h) (same m (txn_of e) _ refl p)
  refused-keeps m e Over m' h p = subst P (sym h) (same m (txn_of e) _ refl p)
  refused-keeps m e Digits m' h p = subst P (sym h) (same m (txn_of e) _ refl p)
  refused-keeps m e Rig m' (inl h) p = subst P (sym h) (counted-keeps e m p)
  refused-keeps m e Rig m' (inr h) p = subst P (sym h.2) (k.calm (counted e m) _ (fall-calm h.0 (counted e m)) (counted-keeps e m p))
  refused-keeps m e Cut m' h p = subst P (sym h.1) (k.calm (doubted (txn_of e) m) _ (fall-calm (txn_of e).inst (doubted (txn_of e) m)) (k.cuts m (txn_of e) h.0 p))
  refused-keeps m e c m' h p = subst P (sym h) p

  pub step-keeps : (m : State) (e : Event) (reply : Reply) (m' : State) → Step m e reply m' → P m → P m'
  step-keeps m e (Refused n) m' h p = refused-keeps m e h.0 m' h.4 p
  step-keeps m e reply m' h p = row-keeps m e reply m' h.0 h.1 p

  pub run-keeps : (es : List Entry) (m m' : State) → Run m es m' → P m → P m'
  run-keeps [] m m' r p = subst P r p
  run-keeps (e ∷ es) m m' r p = run-keeps es r.0 m' r.2 (step-keeps m e.event e.reply r.0 r.1 p)
