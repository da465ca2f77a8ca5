-- What is seen after each change. It serves the goals of `views` in laws.rt.
use Rattle.std.proofs.Common.{◌≡◌, ◌≢◌, ℕ, Bool, true, false, cond, eqb, ◌&&◌, List, [], ◌∷◌, refl, ap, ◌∙◌, length, filter}
use Rattle.sd_base.specs.declared.ids.TxnId.{TxnId}
use Rattle.sd_base.specs.declared.ids.Rid.{Rid}
use Rattle.sd_model.specs.declared.act.Act.{Act}
use Rattle.sd_model.specs.declared.act.Claim.TheVariants.{Excl}
use Rattle.sd_model.specs.declared.act.Life.{Life}
use Rattle.sd_model.specs.declared.act.Life.TheVariants.{Gone}
use Rattle.sd_base.specs.Ids.{same_txn, same_rid}
use Rattle.sd_model.specs.Tables.{Content}
use Rattle.sd_model.specs.Acts.{Puts, live, seen_over}
use Rattle.sd_model.specs.State.{State, Part, now, view, begun_part, put_part, took_part, began, wrote, committed}
use Rattle.sd_model.specs.Applies.{count_of, is_unresolved}
use Rattle.sd_model.proofs.Acts.{live_from-append, after-snoc}
use Rattle.sd_base.proofs.SameIds.{eq-same, ne-same}

pub put-here : (t : TxnId) (p : Part) (f : TxnId → Part) → cond (same_txn t t) p (f t) ≡ p
put-here t p f = ap (λ (b : Bool). cond b p (f t)) (eq-same t t refl)

pub put-elsewhere : (t u : TxnId) (p : Part) (f : TxnId → Part) → t ≢ u → cond (same_txn t u) p (f u) ≡ f u
put-elsewhere t u p f ne = ap (λ (b : Bool). cond b p (f u)) (ne-same t u ne)

pub part-here : (m : State) (t : TxnId) (p : Part) → (put_part t p m).part t ≡ p
part-here m t p = put-here t p m.part

pub part-elsewhere : (m : State) (t u : TxnId) (p : Part) → t ≢ u → (put_part t p m).part u ≡ m.part u
part-elsewhere m t u p ne = put-elsewhere t u p m.part ne

pub view_after-write : (m : State) (t : TxnId) (r : Rid) (v w : Content) (q : Rid) → view (wrote t r v w m) t q ≡ cond (same_rid r q) w (view m t q)
view_after-write m t r v w q =
    let acts = Act.Read r v ∷ Act.Put r w ∷ [] in
    ap (λ (p : Part). seen_over (now m) (live p.acts) q) (put-here t (took_part r Excl acts (m.part t)) m.part)
    ∙ ap (λ (puts : Puts). seen_over (now m) puts q) (live_from-append [] (m.part t).acts acts)

pub now_after-commit : (m : State) (t : TxnId) → now (committed t m) ≡ view m t
now_after-commit m t = after-snoc m.start m.done (record { txn = t; acts = (m.part t).acts })

pub view_after-begin : (m : State) (i : ℕ) (x : TxnId) → view (began i x m) x ≡ now m
view_after-begin m i x = ap (λ (p : Part). seen_over (now m) (live p.acts)) (put-here x begun_part m.part)

gone-resolved : (life : Life) → life ≡ Gone → is_unresolved life ≡ false
gone-resolved life e = ap is_unresolved e

both_false : (a b : Bool) → b ≡ false → (a && b) ≡ false
both_false true b e = e
both_false false b e = refl

none_left : (test : TxnId → Bool) (ts : List TxnId) → ((t : TxnId) → test t ≡ false) → length (filter test ts) ≡ 0
none_left test [] none = refl
none_left test (t ∷ ts) none = ap (λ (b : Bool). length (cond {A = List TxnId} b (t ∷ filter test ts) (filter test ts))) (none t) ∙ none_left test ts none

pub none-counted : (m : State) (i : ℕ) → ((t : TxnId) → (m.part t).life ≡ Gone) → count_of m i ≡ 0
none-counted m i none = none_left (λ (t : TxnId). eqb t.inst i && is_unresolved (m.part t).life) m.begun (λ t. both_false (eqb t.inst i) (is_unresolved (m.part t).life) (gone-resolved (m.part t).life (none t)))
