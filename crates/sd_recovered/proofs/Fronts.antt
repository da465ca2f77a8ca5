-- The losers in front of one, as transactions of the image. It serves the goals of undone.
use Rattle.std.proofs.Common.{◌≡◌, ◌⊎◌, inl, inr, ◌+◌, ◌<◌, ℕ, zero, suc, List, [], ◌∷◌, ◌++◌, Some, append_assoc, slice_get, take, drop, refl, sym, ap, subst, ◌∙◌, arith}
use Rattle.sd_base.specs.declared.ids.TxnId.{TxnId}
use Rattle.sd_base.specs.Ids.{IsBelow}
use Rattle.sd_logrec.specs.View.{Rec}
use Rattle.sd_log.specs.Logs.{LogState, flats, scanned}
use Rattle.sd_chain.specs.Records.{Each}
use Rattle.sd_chain.specs.Storage.{Storage}
use Rattle.sd_chain.specs.Undoing.{stacks_of}
use Rattle.sd_recovered.specs.declared.losers.Loser.{Loser}
use Rattle.sd_recovered.specs.UndoPass.{AreLosersFrom, IsLosersOf, txns_of}
use Rattle.sd_recovered.specs.Taking.{open_in}
use Rattle.sd_recovered.proofs.OpenStacks.{Follows, Rises, ids, stacks-of}
use Rattle.sd_recovered.proofs.Stacks.{stacks-append}

-- ---- a log among those from log k on, and its losers

pub record AtLog (img : Storage) (k j : ℕ) (logs : List LogState) (losers : List (List Loser)) (log : LogState) (ls : List Loser) : Type 0 where
  pub front : open_in (take j logs) (take j losers) ≡ stacks_of img (txns_of (take j losers))
  pub own : IsLosersOf (k + j) log ls
  pub log_is : img.logs (k + j) ≡ flats (scanned log)
  pub txns : txns_of losers ≡ txns_of (take j losers) ++ (ids ls ++ txns_of (drop (suc j) losers))

pub at_log : (img : Storage) (k j : ℕ) (logs : List LogState) (losers : List (List Loser)) (log : LogState) (ls : List Loser)
    → Follows img k logs → AreLosersFrom k logs losers → slice_get logs j ≡ Some log → slice_get losers j ≡ Some ls
    → AtLog img k j logs losers log ls
at_log img k j [] [] log ls f a e g = absurd (cc)
at_log img k j [] (l ∷ losers) log ls f a e g = absurd a
at_log img k j (x ∷ logs) [] log ls f a e g = absurd a
at_log img k zero (x ∷ logs) (l ∷ losers) log ls f a e g =
    let same_log : x ≡ log = cc in
    let same : l ≡ ls = cc in
    let here : k ≡ k + 0 = omega arith in record {
      front = refl;
      own = subst (λ (n : ℕ). IsLosersOf n log ls) here
          (subst (λ (y : LogState). IsLosersOf k y ls) same_log (subst (IsLosersOf k x) same a.0));
      log_is = ap img.logs (sym here) ∙ f.0 ∙ ap (λ (y : LogState). flats (scanned y)) same_log;
      txns = ap (λ (m : List Loser). ids m ++ txns_of losers) same;
    }
at_log img k (suc j) (x ∷ logs) (l ∷ losers) log ls f a e g =
    let h : AtLog img (suc k) j logs losers log ls = at_log img (suc k) j logs losers log ls f.1 a.1 e g in
    let here : suc k + j ≡ k + suc j = omega arith in record {
      front = ap (λ (xs : List Rec). xs ++ open_in (take j logs) (take j losers))
          (stacks-of img k x f.0 l a.0.losers_are.each a.0.own)
          ∙ ap (λ (xs : List Rec). stacks_of img (ids l) ++ xs) h.front
          ∙ sym (stacks-append img (ids l) (txns_of (take j losers)));
      own = subst (λ (n : ℕ). IsLosersOf n log ls) here h.own;
      log_is = ap img.logs (sym here) ∙ h.log_is;
      txns = ap (λ (ts : List TxnId). ids l ++ ts) h.txns
          ∙ sym (append_assoc (ids l) (txns_of (take j losers)) (ids ls ++ txns_of (drop (suc j) losers)));
    }

-- ---- a loser among those of its log

pub record AtLoser (P : Loser → Type 0) (i : ℕ) (ls : List Loser) (x : Loser) : Type 0 where
  pub front : Each P (take i ls)
  pub own : P x
  pub txns : ids ls ≡ ids (take i ls) ++ x.txn ∷ ids (drop (suc i) ls)

pub at_loser : (P : Loser → Type 0) (i : ℕ) (ls : List Loser) (x : Loser) → Each P ls → slice_get ls i ≡ Some x → AtLoser P i ls x
at_loser P i [] x a e = absurd (cc)
at_loser P zero (l ∷ ls) x a e =
    let same : l ≡ x = cc in record {
      front = tt;
      own = subst P same a.0;
      txns = ap (λ (y : Loser). y.txn ∷ ids ls) same;
    }
at_loser P (suc i) (l ∷ ls) x a e =
    let h : AtLoser P i ls x = at_loser P i ls x a.1 e in record {
      front = (a.0, h.front);
      own = h.own;
      txns = ap (λ (ts : List TxnId). l.txn ∷ ts) h.txns;
    }

-- ---- the order of losers

-- those behind one are above it
pub rises-back : (ts : List TxnId) (t : TxnId) (us : List TxnId) → Rises (ts ++ t ∷ us) → Each (λ u. IsBelow t u) us
rises-back [] t us r = r.0
rises-back (x ∷ ts) t us r = rises-back ts t us r.1

pub not-below : (t u : TxnId) → IsBelow t u → IsBelow u t → ⊥
not-below t u (inl a) (inl b) = omega (arith, a, b)
not-below t u (inl a) (inr b) = let e = b.0 in omega (arith, a, e)
not-below t u (inr a) (inl b) = let e = a.0 in omega (arith, b, e)
not-below t u (inr a) (inr b) = by a.1 b.1
  where
    by : (t.epoch < u.epoch) ⊎ ((t.epoch ≡ u.epoch) × (t.seq < u.seq)) → (u.epoch < t.epoch) ⊎ ((u.epoch ≡ t.epoch) × (u.seq < t.seq)) → ⊥
    by (inl x) (inl y) = omega (arith, x, y)
    by (inl x) (inr y) = let e = y.0 in omega (arith, x, e)
    by (inr x) (inl y) = let e = x.0 in omega (arith, y, e)
    by (inr x) (inr y) = let m = x.1 in let n = y.1 in omega (arith, m, n)
