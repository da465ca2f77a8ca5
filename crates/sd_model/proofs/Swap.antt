-- Transactions that put no record in common may be applied in either order. It serves the goals of `serial_order` in laws.rt.
use Rattle.std.proofs.Common.{◌≡◌, ◌≢◌, ◌⊎◌, inl, inr, ⊎_elim, List, [], ◌∷◌, ◌++◌, refl, sym, ap, ◌∙◌}
use Rattle.sd_base.specs.declared.ids.TxnId.{TxnId}
use Rattle.sd_base.specs.declared.ids.Rid.{Rid}
use Rattle.sd_model.specs.declared.act.Done.{Done}
use Rattle.sd_model.specs.declared.act.Claim.{Claim}
use Rattle.sd_model.specs.declared.act.Claim.TheVariants.{Free, Shared, Excl}
use Rattle.sd_model.specs.Tables.{Contents}
use Rattle.sd_model.specs.Acts.{Puts, live, seen_over, after}
use Rattle.sd_model.specs.Claims.{Holds, Owns}
use Rattle.sd_model.specs.State.{State}
use Rattle.sd_model.specs.Kept.{MayCommit, Kept}
use Rattle.sd_model.specs.Apart.{Untouched, Disjoint, EachApart, done_of, dones, AreOthers}
use Rattle.sd_model.proofs.Acts.{seen-agree}
use Rattle.sd_model.proofs.Claims.{clash-of, seen-apart}

pub seen-swap : (a b : Puts) → Disjoint a b → (base : Contents) (r : Rid) → seen_over (seen_over base a) b r ≡ seen_over (seen_over base b) a r
seen-swap a b apart base r = ⊎_elim
    (λ (u : Untouched a r). seen-agree (seen_over base a) base b r (u base) ∙ sym (u (seen_over base b)))
    (λ (u : Untouched b r). u (seen_over base a) ∙ sym (seen-agree (seen_over base b) base a r (u base)))
    (apart r)

pub after-agree : (base other : Contents) (c : List Done) (r : Rid) → base r ≡ other r → after base c r ≡ after other c r
after-agree base other [] r e = e
after-agree base other (d ∷ c) r e = after-agree (seen_over base (live d.acts)) (seen_over other (live d.acts)) c r (seen-agree base other (live d.acts) r e)

-- one that shares no record with the others may as well come first
pub after-late : (base : Contents) (d : List Done) (x : Done) → EachApart x d → (r : Rid) → after base (d ++ x ∷ []) r ≡ after base (x ∷ d) r
after-late base [] x a r = refl
after-late base (y ∷ d) x a r = after-late (seen_over base (live y.acts)) d x a.1 r ∙ after-agree (seen_over (seen_over base (live y.acts)) (live x.acts)) (seen_over (seen_over base (live x.acts)) (live y.acts)) d r (seen-swap (live y.acts) (live x.acts) a.0 base r)

cases_owns : (c : Claim) → Owns c ⊎ (Owns c → ⊥)
cases_owns Free = inr (λ x. x)
cases_owns Shared = inr (λ x. x)
cases_owns Excl = inl tt

owns-holds : (c : Claim) → Owns c → Holds c
owns-holds Free o = absurd o
owns-holds Shared o = tt
owns-holds Excl o = tt

-- two that may commit put no record in common
pub kept-disjoint : (m : State) → Kept m → (t u : TxnId) → t ≢ u → MayCommit (m.part t).life → MayCommit (m.part u).life → Disjoint (live (m.part t).acts) (live (m.part u).acts)
kept-disjoint m k t u ne a b r = ⊎_elim
    (λ (o : Owns ((m.part t).claims r)). inr (λ base. seen-apart (m.part u).claims base (live (m.part u).acts) r (k.covered u b).owned
    (λ own. k.apart t u ne a b r (clash-of ((m.part t).claims r) ((m.part u).claims r) o (owns-holds ((m.part u).claims r) own)))))
    (λ (n : Owns ((m.part t).claims r) → ⊥). inl (λ base. seen-apart (m.part t).claims base (live (m.part t).acts) r (k.covered t a).owned n))
    (cases_owns ((m.part t).claims r))

pub after-append : (start : Contents) (xs ys : List Done) → after start (xs ++ ys) ≡ after (after start xs) ys
after-append start [] ys = refl
after-append start (x ∷ xs) ys = after-append (seen_over start (live x.acts)) xs ys

others-apart : (m : State) → Kept m → (t : TxnId) → MayCommit (m.part t).life → (us : List TxnId) → AreOthers m t us → EachApart (done_of m t) (dones m us)
others-apart m k t may [] o = tt
others-apart m k t may (u ∷ us) o = (kept-disjoint m k u t o.0 o.1 may, others-apart m k t may us o.2)

-- t commits while others are in doubt: it may stand before those of them whose commit is kept
pub commit-late : (m : State) → Kept m → (t : TxnId) → MayCommit (m.part t).life → (us : List TxnId) → AreOthers m t us → (r : Rid)
    → after m.start ((m.done ++ dones m us) ++ done_of m t ∷ []) r ≡ after m.start ((m.done ++ done_of m t ∷ []) ++ dones m us) r
commit-late m k t may us o r =
    ap (λ (f : Contents). f r) (after-append m.start (m.done ++ dones m us) (done_of m t ∷ []) ∙ ap (λ (f : Contents). after f (done_of m t ∷ [])) (after-append m.start m.done (dones m us)) ∙ sym (after-append (after m.start m.done) (dones m us) (done_of m t ∷ [])))
    ∙ after-late (after m.start m.done) (dones m us) (done_of m t) (others-apart m k t may us o) r
    ∙ sym (ap (λ (f : Contents). f r) (after-append m.start (m.done ++ done_of m t ∷ []) (dones m us) ∙ ap (λ (f : Contents). after f (dones m us)) (after-append m.start m.done (done_of m t ∷ []))))
