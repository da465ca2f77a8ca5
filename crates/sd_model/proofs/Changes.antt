-- Each change of a state keeps the serial order.
use Rattle.std.proofs.Common.{◌≡◌, ◌≢◌, ◌⊎◌, inl, inr, ⊎_elim, ℕ, ◌+◌, Bool, true, false, cond, eqb, List, [], ◌∷◌, ◌++◌, refl, sym, subst}
use Rattle.sd_base.specs.declared.ids.TxnId.{TxnId}
use Rattle.sd_base.specs.declared.ids.Rid.{Rid}
use Rattle.sd_model.specs.declared.act.Act.{Act}
use Rattle.sd_model.specs.declared.act.Inst.{Inst}
use Rattle.sd_model.specs.declared.act.Claim.{Claim}
use Rattle.sd_model.specs.declared.act.Claim.TheVariants.{Shared, Excl}
use Rattle.sd_model.specs.declared.act.Cut.TheVariants.{Committing}
use Rattle.sd_model.specs.declared.act.Life.{Life}
use Rattle.sd_model.specs.declared.act.Life.TheVariants.{Doubt}
use Rattle.sd_model.specs.Tables.{Content}
use Rattle.sd_model.specs.Acts.{Puts, live_from, live, ReadsFrom}
use Rattle.sd_model.specs.Claims.{with_claim, Holds, Owns, Clash}
use Rattle.sd_model.specs.State.{State, Part, now, view, gone, begun_part, put_part, put_inst, took, took_part, committed, cut_commit, began, read_at, looked_at, wrote}
use Rattle.sd_model.specs.Changes.{undid, undid_part, commit_all, AreInDoubt, is_swept, swept_part, swept, Recovered, IsLoser, Reopened}
use Rattle.sd_model.specs.Kept.{MayCommit, Held, Owned, Kept, Lessens}
use Rattle.sd_model.proofs.Acts.{ReadsFrom-append, live_from-append}
use Rattle.sd_model.proofs.Claims.{raised-clash, raised-holds, raised-owns, shared-holds, each_claim, claim-here, Held-append, Held-more, Owned-more, Owned-undone}
use Rattle.sd_model.proofs.Kept.{put-kept, less-kept, less-same, less-none, less_put-kept, fall-kept, committed-kept}

-- a new claim that conflicts with nobody's, and acts that it covers and that read right
pub took-kept : (m : State) (t : TxnId) (r : Rid) (mode : Claim) (acts : List Act)
    → ((u : TxnId) → t ≢ u → Clash mode ((m.part u).claims r) → ⊥)
    → ReadsFrom (now m) (live (m.part t).acts) acts
    → Held (with_claim r mode (m.part t).claims) acts
    → ((puts : Puts) → Owned (with_claim r mode (m.part t).claims) puts → Owned (with_claim r mode (m.part t).claims) (live_from puts acts))
    → Kept m → Kept (took t r mode acts m)
took-kept m t r mode acts free reads held owned k = put-kept m t (took_part r mode acts (m.part t)) k (record {
  reads = λ may. ReadsFrom-append (now m) [] (m.part t).acts acts (k.reads t may) reads;
  covered = λ may. record {
    held = Held-append (with_claim r mode (m.part t).claims) (m.part t).acts acts
        (Held-more (m.part t).claims (with_claim r mode (m.part t).claims)
        (λ q. each_claim (λ s (c : Claim). Holds ((m.part t).claims s) → Holds c) r mode (m.part t).claims (raised-holds mode ((m.part t).claims r)) (λ s h. h) q)
        (m.part t).acts (k.covered t may).held)
        held;
    owned = subst (Owned (with_claim r mode (m.part t).claims)) (sym (live_from-append [] (m.part t).acts acts))
        (owned (live (m.part t).acts)
        (Owned-more (m.part t).claims (with_claim r mode (m.part t).claims)
        (λ q. each_claim (λ s (c : Claim). Owns ((m.part t).claims s) → Owns c) r mode (m.part t).claims (raised-owns mode ((m.part t).claims r)) (λ s h. h) q)
        (live (m.part t).acts) (k.covered t may).owned));
  };
  apart = λ u ne may b. each_claim (λ s (c : Claim). Clash c ((m.part u).claims s) → ⊥) r mode (m.part t).claims
      (λ clash. ⊎_elim (free u ne) (k.apart t u ne may b r) (raised-clash mode ((m.part t).claims r) ((m.part u).claims r) clash))
      (λ s. k.apart t u ne may b s);
})

-- the view of what is read
pub read-kept : (m : State) (t : TxnId) (r : Rid) (v : Content) → ((u : TxnId) → t ≢ u → Clash Shared ((m.part u).claims r) → ⊥) → v ≡ view m t r → Kept m → Kept (read_at t r v m)
read-kept m t r v free is k = took-kept m t r Shared (Act.Read r v ∷ []) free (is, tt)
    (subst Holds (sym (claim-here r Shared (m.part t).claims)) (shared-holds ((m.part t).claims r)), tt) (λ puts o. o) k

pub look-kept : (m : State) (t : TxnId) (r : Rid) (v : Content) → ((u : TxnId) → t ≢ u → Clash Excl ((m.part u).claims r) → ⊥) → v ≡ view m t r → Kept m → Kept (looked_at t r v m)
look-kept m t r v free is k = took-kept m t r Excl (Act.Read r v ∷ []) free (is, tt)
    (subst Holds (sym (claim-here r Excl (m.part t).claims)) tt, tt) (λ puts o. o) k

pub write-kept : (m : State) (t : TxnId) (r : Rid) (v w : Content) → ((u : TxnId) → t ≢ u → Clash Excl ((m.part u).claims r) → ⊥) → v ≡ view m t r → Kept m → Kept (wrote t r v w m)
write-kept m t r v w free is k = took-kept m t r Excl (Act.Read r v ∷ Act.Put r w ∷ []) free (is, tt)
    (subst Holds (sym (claim-here r Excl (m.part t).claims)) tt, tt) (λ puts o. (subst Owns (sym (claim-here r Excl (m.part t).claims)) tt, o)) k

-- the statuses, epochs and lists of names don't matter
pub inst-kept : (m : State) (i : ℕ) (x : Inst) → Kept m → Kept (put_inst i x m)
inst-kept m i x k = less-kept m (put_inst i x m) refl refl (λ t. less-same (m.part t)) k

pub began-kept : (m : State) (i : ℕ) (x : TxnId) → Kept m → Kept (began i x m)
began-kept m i x k =
    let m1 = put_inst i (record (m.inst i) { begins = (m.inst i).begins + 1 }) (record m { begun = m.begun ++ x ∷ [] }) in
    put-kept m1 x begun_part (less-kept m m1 refl refl (λ t. less-same (m.part t)) k) (record { reads = λ _. tt; covered = λ _. record { held = tt; owned = tt }; apart = λ u ne _ _ r clash. clash })

-- another life, that may commit no sooner than the old one, and other marks
pub turned-kept : (m : State) (t : TxnId) (life : Life) (marks : List (List ℕ × ℕ)) → (MayCommit life → MayCommit (m.part t).life) → Kept m → Kept (put_part t (record (m.part t) { life = life; marks = marks }) m)
turned-kept m t life marks may k = less_put-kept m t (record (m.part t) { life = life; marks = marks }) (record { may = may; reads = λ _ b x. x; covered = λ _ x. x; claims = λ _ _ r c x. x }) k

pub gone-kept : (m : State) (t : TxnId) → Kept m → Kept (put_part t gone m)
gone-kept m t k = less_put-kept m t gone (less-none (m.part t) gone (λ x. x)) k

pub undid-kept : (m : State) (t : TxnId) → Kept m → Kept (undid t m)
undid-kept m t k = less_put-kept m t (undid_part (m.part t)) (record {
  may = λ x. x;
  reads = λ _ b x. ReadsFrom-append b [] (m.part t).acts (Act.Undo ∷ []) x tt;
  covered = λ _ x. record {
    held = Held-append (m.part t).claims (m.part t).acts (Act.Undo ∷ []) x.held tt;
    owned = subst (Owned (m.part t).claims) (sym (live_from-append [] (m.part t).acts (Act.Undo ∷ []))) (Owned-undone (m.part t).claims (live (m.part t).acts) x.owned);
  };
  claims = λ _ _ r c x. x;
}) k

pub cut-kept : (m : State) (t : TxnId) → MayCommit (m.part t).life → Kept m → Kept (cut_commit t m)
cut-kept m t may k =
    let m1 = record m { cuts = m.cuts ++ t ∷ [] } in
    fall-kept t.inst (put_part t (record (m.part t) { life = Doubt Committing; marks = [] }) m1)
    (turned-kept m1 t (Doubt Committing) [] (λ _. may) (less-kept m m1 refl refl (λ u. less-same (m.part u)) k))

doubt-may : (life : Life) → life ≡ Doubt Committing → MayCommit life
doubt-may life e = subst MayCommit (sym e) tt

-- those in doubt, one after another, in any order
pub commit_all-kept : (kept : List TxnId) (m : State) → AreInDoubt m kept → Kept m → Kept (commit_all kept m)
commit_all-kept [] m d k = k
commit_all-kept (t ∷ ts) m d k = commit_all-kept ts (committed t m) d.1 (committed-kept m t (doubt-may (m.part t).life d.0) k)

less-swept_go : (p : Part) (b : Bool) → Lessens p (cond b gone p)
less-swept_go p true = less-none p gone (λ x. x)
less-swept_go p false = less-same p

less-swept : (p : Part) (b : Bool) → Lessens p (cond b (swept_part p) p)
less-swept p true = less-swept_go p (is_swept p.life)
less-swept p false = less-same p

pub swept-kept : (i : ℕ) (m : State) → Kept m → Kept (swept i m)
swept-kept i m k = less-kept m (swept i m) refl refl (λ t. less-swept (m.part t) (eqb i t.inst)) k

pub recovered-kept : (i : ℕ) (m m' : State) → Recovered i m m' → Kept m → Kept m'
recovered-kept i m m' r k = subst Kept (sym r.4) (swept-kept i (commit_all r.0 m) (commit_all-kept r.0 m r.3 k))

-- after a reopening nothing may commit
left-never : (old new : Part) → (new ≡ gone) ⊎ IsLoser old new → MayCommit new.life → ⊥
left-never old new (inl e) may = subst (λ (p : Part). MayCommit p.life) e may
left-never old new (inr h) may = subst MayCommit h.life may

pub reopened-kept : (m m' : State) → Reopened m m' → Kept m → Kept m'
reopened-kept m m' r k =
    let m1 = commit_all r.0 m in
    less-kept m1 m' r.2.start r.2.done (λ t. less-none (m1.part t) (m'.part t) (left-never (m1.part t) (m'.part t) (r.2.part t))) (commit_all-kept r.0 m r.1 k)
