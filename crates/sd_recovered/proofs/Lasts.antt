-- What a map tells of the last changes of others, record by record. It serves last_changes.rt.
use Rattle.std.proofs.Common.{◌≡◌, ◌<◌, ◌≤◌, ℕ, Bool, true, false, cond, eqb, not, ◌&&◌, max, List, [], ◌∷◌, ◌++◌, Option, Some, refl, sym, ap, ◌∙◌, arith}
use Rattle.std.specs.Map.{lookup}
use Rattle.std.specs.Ordering.{is_eq}
use Rattle.sd_base.specs.declared.ids.Rid.{Rid}
use Rattle.sd_base.specs.declared.ids.TxnId.{TxnId}
use Rattle.sd_base.specs.contracts.ids.RidOrd.TheImpl.{cmp-value}
use Rattle.sd_base.specs.Ids.{same_txn}
use Rattle.sd_logrec.specs.View.{Rec, flat}
use Rattle.sd_log.specs.declared.placed.Placed.{Placed}
use Rattle.sd_log.specs.Logs.{LogState, flats, scanned}
use Rattle.sd_recovered.specs.declared.last_changes.Last.{Last}
use Rattle.sd_recovered.specs.Others.{all_in, last_of_others, of_others, other_lsn, seen_in, told}
use Rattle.sd_recovered.proofs.Keys.{same-cmp, same_rid-by, same_rid-is}
use Rattle.sd_base.proofs.Orders.{same-txn-is}
use Rattle.sd_base.proofs.SameIds.{eq-same}

-- with one change more of the same transaction
own-more : (b c : Bool) (o w l m : ℕ) → c ≡ b → m ≡ max w l
    → cond b o (max m o) ≡ cond c (cond b o (max w o)) (max l (cond b o (max w o)))
own-more true true o w l m e f = refl
own-more true false o w l m e f = absurd (cc)
own-more false true o w l m e f = absurd (cc)
own-more false false o w l m e f = omega (arith, f)

-- of another one, not above it
other-more : (b c : Bool) (o w l m : ℕ) → (b ≡ true → c ≡ true → ⊥) → l ≤ w → m ≡ max o l
    → cond b m (max w m) ≡ cond c (cond b o (max w o)) (max l (cond b o (max w o)))
other-more true true o w l m ne le f = absurd (ne refl refl)
other-more true false o w l m ne le f = omega (arith, f)
other-more false true o w l m ne le f = omega (arith, f, le)
other-more false false o w l m ne le f = omega (arith, f)

-- above it
newer-more : (b c : Bool) (o w l m : ℕ) → (b ≡ true → c ≡ true → ⊥) → w < l → m ≡ max w o
    → cond c m (max l m) ≡ cond c (cond b o (max w o)) (max l (cond b o (max w o)))
newer-more true true o w l m ne lt f = absurd (ne refl refl)
newer-more true false o w l m ne lt f = omega (arith, f, lt)
newer-more false true o w l m ne lt f = f
newer-more false false o w l m ne lt f = omega (arith, f)

abbrev pub More : Last → TxnId → ℕ → Last → Type 0
More old u l new = (t : TxnId) → of_others new t ≡ cond (same_txn u t) (of_others old t) (max l (of_others old t))

apart : (last : Last) (u t : TxnId) → same_txn u last.txn ≡ false → same_txn last.txn t ≡ true → same_txn u t ≡ true → ⊥
apart last u t ne one two =
    let own = eq-same u last.txn (same-txn-is u t two ∙ sym (same-txn-is last.txn t one)) in absurd (cc)

pub more-own : (last : Last) (u : TxnId) (l m : ℕ) → same_txn u last.txn ≡ true → m ≡ max last.own l
    → More last u l (record { txn = last.txn; own = m; others = last.others })
more-own last u l m e f t =
    own-more (same_txn last.txn t) (same_txn u t) last.others last.own l m
    (ap (λ (k : TxnId). same_txn k t) (same-txn-is u last.txn e)) f

pub more-other : (last : Last) (u : TxnId) (l m : ℕ) → same_txn u last.txn ≡ false → l ≤ last.own → m ≡ max last.others l
    → More last u l (record { txn = last.txn; own = last.own; others = m })
more-other last u l m ne le f t =
    other-more (same_txn last.txn t) (same_txn u t) last.others last.own l m (apart last u t ne) le f

pub more-newer : (last : Last) (u : TxnId) (l m : ℕ) → same_txn u last.txn ≡ false → last.own < l → m ≡ max last.own last.others
    → More last u l (record { txn = u; own = l; others = m })
more-newer last u l m ne lt f t =
    newer-more (same_txn last.txn t) (same_txn u t) last.others last.own l m (apart last u t ne) lt f

-- the map's look-up of a record
abbrev pub by_order : Rid → List (Rid × Last) → Option Last
by_order r rows = lookup (λ (k : Rid). is_eq (cmp-value.it r k)) rows

pub told-seen : (r : Rid) (rows : List (Rid × Last)) (t : TxnId) → told (by_order r rows) t ≡ seen_in rows t r.page r.slot
told-seen r rows t = ap (λ (test : Rid → Bool). told (lookup test rows) t) (λ i k. (same-cmp r k ∙ sym (same_rid-by r k)) i)

-- a map in which the last changes of one record are put
pub put-seen : (rid : Rid) (u : TxnId) (l : ℕ) (last : Last) (old new : List (Rid × Last))
    → ((t : TxnId) → of_others last t ≡ cond (same_txn u t) (told (by_order rid old) t) (max l (told (by_order rid old) t)))
    → ((r : Rid) → by_order r new ≡ cond (is_eq (cmp-value.it rid r)) (Some last) (by_order r old))
    → (t : TxnId) (p s : ℕ) → seen_in new t p s
    ≡ cond (eqb rid.page p && eqb rid.slot s) (cond (same_txn u t) (seen_in old t p s) (max l (seen_in old t p s))) (seen_in old t p s)
put-seen rid u l last old new more put t p s =
    sym (told-seen r new t) ∙ ap (λ (o : Option Last). told o t) (put r)
    ∙ ap (λ (b : Bool). told (cond b (Some last) (by_order r old)) t) (same-cmp rid r)
    ∙ by (eqb rid.page p && eqb rid.slot s) (λ is. same_rid-is rid r is)
  where
    r : Rid
    r = record { page = p; slot = s }

    by : (b : Bool) → (b ≡ true → rid ≡ r) → told (cond b (Some last) (by_order r old)) t
        ≡ cond b (cond (same_txn u t) (seen_in old t p s) (max l (seen_in old t p s))) (seen_in old t p s)
    by true is = more t ∙ ap (λ (n : ℕ). cond (same_txn u t) n (max l n))
        (ap (λ (k : Rid). told (by_order k old) t) (is refl) ∙ told-seen r old t)
    by false is = told-seen r old t

-- one record more
pub other-max : (a b : Bool) (l o : ℕ) → cond a (cond b o (max l o)) o ≡ max o (cond (a && not b) l 0)
other-max true true l o = omega arith
other-max true false l o = omega arith
other-max false b l o = omega arith

pub last-append : (t : TxnId) (p s : ℕ) (xs ys : List Rec)
    → last_of_others t p s (xs ++ ys) ≡ max (last_of_others t p s xs) (last_of_others t p s ys)
last-append t p s [] ys = omega arith
last-append t p s (x ∷ xs) ys = omega (arith, last-append t p s xs ys)

pub last-placed : (t : TxnId) (p s : ℕ) (xs : List Placed) (x : Placed)
    → last_of_others t p s (flats (xs ++ x ∷ [])) ≡ max (last_of_others t p s (flats xs)) (other_lsn t p s (flat x.rec))
last-placed t p s [] x = omega arith
last-placed t p s (y ∷ ys) x = omega (arith, last-placed t p s ys x)

pub last-log : (t : TxnId) (p s : ℕ) (xs : List LogState) (x : LogState)
    → last_of_others t p s (all_in (xs ++ x ∷ [])) ≡ max (last_of_others t p s (all_in xs)) (last_of_others t p s (flats (scanned x)))
last-log t p s [] x = last-append t p s (flats (scanned x)) [] ∙ omega arith
last-log t p s (y ∷ ys) x =
    last-append t p s (flats (scanned y)) (all_in (ys ++ x ∷ []))
    ∙ omega (arith, last-log t p s ys x, last-append t p s (flats (scanned y)) (all_in ys))
