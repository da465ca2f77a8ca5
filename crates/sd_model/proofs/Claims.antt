-- Claims, and the acts that they cover. It serves what keeps the serial order.
use Rattle.std.proofs.Common.{◌≡◌, ◌⊎◌, inl, inr, ⊎_elim, Bool, cond, List, [], ◌∷◌, ◌++◌, refl, sym, ap, ◌∙◌, subst}
use Rattle.sd_base.specs.declared.ids.Rid.{Rid}
use Rattle.sd_model.specs.declared.act.Act.{Act}
use Rattle.sd_model.specs.declared.act.Act.TheVariants.{Read, Put, Undo}
use Rattle.sd_model.specs.declared.act.Claim.{Claim}
use Rattle.sd_model.specs.declared.act.Claim.TheVariants.{Free, Shared, Excl}
use Rattle.sd_model.specs.Tables.{Contents}
use Rattle.sd_model.specs.Acts.{Puts, undone, seen_over, ReadsFrom}
use Rattle.sd_model.specs.Claims.{Claims, raised_claim, with_claim, Holds, Owns, Clash}
use Rattle.sd_model.specs.Kept.{Held, Owned}
use Rattle.sd_model.proofs.Acts.{seen-agree}
use Rattle.sd_base.proofs.SameIds.{cases_rid, eq-same_rid, ne-same_rid}

pub clash-sym : (c d : Claim) → Clash c d → Clash d c
clash-sym Free d k = absurd k
clash-sym Shared Free k = absurd k
clash-sym Shared Shared k = absurd k
clash-sym Shared Excl k = tt
clash-sym Excl Free k = absurd k
clash-sym Excl Shared k = tt
clash-sym Excl Excl k = tt

pub clash-of : (c d : Claim) → Owns c → Holds d → Clash c d
clash-of Free d o h = absurd o
clash-of Shared d o h = absurd o
clash-of Excl d o h = h

pub raised-clash : (a b c : Claim) → Clash (raised_claim a b) c → Clash a c ⊎ Clash b c
raised-clash Free b c k = inr k
raised-clash Shared Free c k = inl k
raised-clash Shared Shared c k = inl k
raised-clash Shared Excl c k = inr k
raised-clash Excl b c k = inl k

pub raised-holds : (a b : Claim) → Holds b → Holds (raised_claim a b)
raised-holds Free b h = h
raised-holds Shared Free h = tt
raised-holds Shared Shared h = tt
raised-holds Shared Excl h = tt
raised-holds Excl b h = tt

pub raised-owns : (a b : Claim) → Owns b → Owns (raised_claim a b)
raised-owns Free b h = h
raised-owns Shared Free h = absurd h
raised-owns Shared Shared h = absurd h
raised-owns Shared Excl h = tt
raised-owns Excl b h = tt

pub shared-holds : (b : Claim) → Holds (raised_claim Shared b)
shared-holds Free = tt
shared-holds Shared = tt
shared-holds Excl = tt

-- the claims with one more, at each record
pub each_claim : (P : Rid → Claim → Type 0) (r : Rid) (mode : Claim) (claims : Claims) → P r (raised_claim mode (claims r)) → ((q : Rid) → P q (claims q)) → (q : Rid) → P q (with_claim r mode claims q)
each_claim P r mode claims here others q = ⊎_elim
    (λ e. subst (λ (b : Bool). P q (cond b (raised_claim mode (claims q)) (claims q))) (sym (eq-same_rid r q e)) (subst (λ (s : Rid). P s (raised_claim mode (claims s))) e here))
    (λ ne. subst (λ (b : Bool). P q (cond b (raised_claim mode (claims q)) (claims q))) (sym (ne-same_rid r q ne)) (others q))
    (cases_rid r q)

pub claim-here : (r : Rid) (mode : Claim) (claims : Claims) → with_claim r mode claims r ≡ raised_claim mode (claims r)
claim-here r mode claims = ap (λ (b : Bool). cond b (raised_claim mode (claims r)) (claims r)) (eq-same_rid r r refl)

pub Held-append : (claims : Claims) (xs ys : List Act) → Held claims xs → Held claims ys → Held claims (xs ++ ys)
Held-append claims [] ys a b = b
Held-append claims (Read r v ∷ xs) ys a b = (a.0, Held-append claims xs ys a.1 b)
Held-append claims (Put r v ∷ xs) ys a b = Held-append claims xs ys a b
Held-append claims (Undo ∷ xs) ys a b = Held-append claims xs ys a b

pub Held-more : (claims more : Claims) → ((r : Rid) → Holds (claims r) → Holds (more r)) → (xs : List Act) → Held claims xs → Held more xs
Held-more claims more h [] a = tt
Held-more claims more h (Read r v ∷ xs) a = (h r a.0, Held-more claims more h xs a.1)
Held-more claims more h (Put r v ∷ xs) a = Held-more claims more h xs a
Held-more claims more h (Undo ∷ xs) a = Held-more claims more h xs a

pub Owned-more : (claims more : Claims) → ((r : Rid) → Owns (claims r) → Owns (more r)) → (puts : Puts) → Owned claims puts → Owned more puts
Owned-more claims more o [] a = tt
Owned-more claims more o (p ∷ puts) a = (o p.0 a.0, Owned-more claims more o puts a.1)

pub Owned-undone : (claims : Claims) (puts : Puts) → Owned claims puts → Owned claims (undone puts)
Owned-undone claims [] a = tt
Owned-undone claims (p ∷ puts) a = a.1

-- a record that isn't claimed alone isn't put
pub seen-apart : (claims : Claims) (base : Contents) (puts : Puts) (r : Rid) → Owned claims puts → (Owns (claims r) → ⊥) → seen_over base puts r ≡ base r
seen-apart claims base [] r o no_claim = refl
seen-apart claims base (p ∷ puts) r o no_claim = ⊎_elim
    (λ e. absurd (no_claim (subst (λ (s : Rid). Owns (claims s)) e o.0)))
    (λ ne. ap (λ (b : Bool). cond b p.1 (seen_over base puts r)) (ne-same_rid p.0 r ne) ∙ seen-apart claims base puts r o.1 no_claim)
    (cases_rid p.0 r)

-- puts of one and reads of another whose claims don't conflict
pub reads-apart : (mine theirs : Claims) (base : Contents) (puts own : Puts) (acts : List Act) → Owned mine puts → Held theirs acts → ((r : Rid) → Clash (mine r) (theirs r) → ⊥) → ReadsFrom base own acts → ReadsFrom (seen_over base puts) own acts
reads-apart mine theirs base puts own [] o c apart a = tt
reads-apart mine theirs base puts own (Read r v ∷ acts) o c apart a =
    (a.0 ∙ seen-agree base (seen_over base puts) own r (sym (seen-apart mine base puts r o (λ k. apart r (clash-of (mine r) (theirs r) k c.0)))), reads-apart mine theirs base puts own acts o c.1 apart a.1)
reads-apart mine theirs base puts own (Put r v ∷ acts) o c apart a = reads-apart mine theirs base puts ((r, v) ∷ own) acts o c apart a
reads-apart mine theirs base puts own (Undo ∷ acts) o c apart a = reads-apart mine theirs base puts (undone own) acts o c apart a
