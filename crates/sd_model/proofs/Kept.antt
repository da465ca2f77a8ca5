-- What keeps the serial order: a part that fits, parts that need less, and a commit.
use Rattle.std.proofs.Common.{◌≡◌, ◌≢◌, ℕ, Bool, true, false, cond, List, [], ◌∷◌, ◌++◌, refl, sym, subst}
use Rattle.sd_base.specs.declared.ids.TxnId.{TxnId}
use Rattle.sd_base.specs.declared.ids.Rid.{Rid}
use Rattle.sd_model.specs.declared.act.Done.{Done}
use Rattle.sd_model.specs.declared.act.Life.{Life}
use Rattle.sd_model.specs.declared.act.Life.TheVariants.{Gone, Running, Retained, Rolling, Doubt}
use Rattle.sd_base.specs.Ids.{same_txn}
use Rattle.sd_model.specs.Tables.{Contents}
use Rattle.sd_model.specs.Acts.{live, Reads, after, Serial}
use Rattle.sd_model.specs.Claims.{Clash}
use Rattle.sd_model.specs.State.{State, Part, now, gone, put_part, fall, closed, committed, lost, lost_part}
use Rattle.sd_model.specs.Kept.{MayCommit, Covered, Kept, PartFits, Lessens}
use Rattle.sd_model.proofs.Acts.{after-snoc, Serial-snoc}
use Rattle.sd_model.proofs.Claims.{clash-sym, reads-apart}
use Rattle.sd_base.proofs.SameIds.{each_txn, ne-same}

abbrev Apart : Part → Part → Type 0
Apart p q = MayCommit p.life → MayCommit q.life → (r : Rid) → Clash (p.claims r) (q.claims r) → ⊥

apart-sym : (p q : Part) → Apart p q → Apart q p
apart-sym p q a x y r k = a y x r (clash-sym (q.claims r) (p.claims r) k)

-- parts that are apart, with one changed
apart-put : (t : TxnId) (p : Part) (f : TxnId → Part) → ((u : TxnId) → t ≢ u → Apart p (f u)) → ((u v : TxnId) → u ≢ v → Apart (f u) (f v)) → (u v : TxnId) → u ≢ v → Apart (cond (same_txn t u) p (f u)) (cond (same_txn t v) p (f v))
apart-put t p f mine others = each_txn t (λ u (x : Part). (v : TxnId) → u ≢ v → Apart x (cond (same_txn t v) p (f v))) p f
    (λ v ne. subst (λ (b : Bool). Apart p (cond b p (f v))) (sym (ne-same t v ne)) (mine v ne))
    (λ u ne v differ. each_txn t (λ w (x : Part). u ≢ w → Apart (f u) x) p f (λ _. apart-sym p (f u) (mine u ne)) (λ w _ d. others u w d) v differ)

pub put-kept : (m : State) (t : TxnId) (p : Part) → Kept m → PartFits m t p → Kept (put_part t p m)
put-kept m t p k fits = record {
  serial = k.serial;
  reads = each_txn t (λ u (x : Part). MayCommit x.life → Reads (now m) x.acts) p m.part fits.reads (λ u ne. k.reads u);
  covered = each_txn t (λ u (x : Part). MayCommit x.life → Covered x.claims x.acts) p m.part fits.covered (λ u ne. k.covered u);
  apart = apart-put t p m.part fits.apart k.apart;
}

-- the committed ones are the same, and each part needs no more than before
pub less-kept : (m m' : State) → m'.start ≡ m.start → m'.done ≡ m.done → ((t : TxnId) → Lessens (m.part t) (m'.part t)) → Kept m → Kept m'
less-kept m m' s d less k = record {
  serial = subst (λ (x : Contents × List Done). Serial x.0 x.1) (λ i. (sym s i, sym d i)) k.serial;
  reads = λ t may. subst (λ (x : Contents × List Done). Reads (after x.0 x.1) (m'.part t).acts) (λ i. (sym s i, sym d i)) ((less t).reads may (now m) (k.reads t ((less t).may may)));
  covered = λ t may. (less t).covered may (k.covered t ((less t).may may));
  apart = λ t u ne a b r clash. k.apart t u ne ((less t).may a) ((less u).may b) r
      ((less t).claims a (k.covered t ((less t).may a)) r ((m.part u).claims r)
      (clash-sym ((m.part u).claims r) ((m'.part t).claims r)
      ((less u).claims b (k.covered u ((less u).may b)) r ((m'.part t).claims r) (clash-sym ((m'.part t).claims r) ((m'.part u).claims r) clash))));
}

pub less-same : (p : Part) → Lessens p p
less-same p = record { may = λ x. x; reads = λ _ b x. x; covered = λ _ x. x; claims = λ _ _ r c x. x }

-- one that can't commit needs nothing
pub less-none : (p q : Part) → (MayCommit q.life → ⊥) → Lessens p q
less-none p q never = record { may = λ x. absurd (never x); reads = λ x b. absurd (never x); covered = λ x. absurd (never x); claims = λ x h r c. absurd (never x) }

pub less-then : (p q s : Part) → Lessens p q → Lessens q s → Lessens p s
less-then p q s a b = record {
  may = λ x. a.may (b.may x);
  reads = λ x base h. b.reads x base (a.reads (b.may x) base h);
  covered = λ x h. b.covered x (a.covered (b.may x) h);
  claims = λ x h r c clash. a.claims (b.may x) h r c (b.claims x (a.covered (b.may x) h) r c clash);
}

pub lost-may : (l : Life) → MayCommit (lost l) → MayCommit l
lost-may Gone x = absurd x
lost-may Running x = absurd x
lost-may Retained x = absurd x
lost-may (Doubt cut) x = tt
lost-may (Rolling to) x = absurd x

pub less-lost : (p : Part) → Lessens p (lost_part p)
less-lost p = record { may = lost-may p.life; reads = λ _ b x. x; covered = λ _ x. x; claims = λ _ _ r c x. x }

pub less-put : (m : State) (t : TxnId) (p : Part) → Lessens (m.part t) p → (u : TxnId) → Lessens (m.part u) (cond (same_txn t u) p (m.part u))
less-put m t p l = each_txn t (λ u (x : Part). Lessens (m.part u) x) p m.part l (λ u ne. less-same (m.part u))

pub less_put-kept : (m : State) (t : TxnId) (p : Part) → Lessens (m.part t) p → Kept m → Kept (put_part t p m)
less_put-kept m t p l k = less-kept m (put_part t p m) refl refl (less-put m t p l) k

less-cond : (b : Bool) (p : Part) → Lessens p (cond b (lost_part p) p)
less-cond true p = less-lost p
less-cond false p = less-same p

pub fall-kept : (i : ℕ) (m : State) → Kept m → Kept (fall i m)
fall-kept i m k = less-kept m (fall i m) refl refl (λ t. less-cond _ (m.part t)) k

pub closed-kept : (m : State) → Kept m → Kept (closed m)
closed-kept m k = less-kept m (closed m) refl refl (λ t. less-lost (m.part t)) k

-- one that may commit commits
pub committed-kept : (m : State) (t : TxnId) → MayCommit (m.part t).life → Kept m → Kept (committed t m)
committed-kept m t may k = let mine : Done = record { txn = t; acts = (m.part t).acts } in record {
  serial = Serial-snoc m.start m.done mine k.serial (k.reads t may);
  reads = each_txn t (λ u (x : Part). MayCommit x.life → Reads (after m.start (m.done ++ mine ∷ [])) x.acts) gone m.part (λ x. absurd x)
      (λ u ne x. subst (λ (base : Contents). Reads base (m.part u).acts) (sym (after-snoc m.start m.done mine))
      (reads-apart (m.part t).claims (m.part u).claims (now m) (live (m.part t).acts) [] (m.part u).acts
      (k.covered t may).owned (k.covered u x).held (k.apart t u ne may x) (k.reads u x)));
  covered = each_txn t (λ u (x : Part). MayCommit x.life → Covered x.claims x.acts) gone m.part (λ x. absurd x) (λ u ne. k.covered u);
  apart = apart-put t gone m.part (λ u ne x. absurd x) k.apart;
}
