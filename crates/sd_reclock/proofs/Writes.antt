-- What a write to one record's holders, or to one transaction's records, leaves elsewhere. It serves the goals of locks.rt.
use Rattle.std.proofs.Common.{◌≡◌, Bool, true, false, ◌&&◌, ◌||◌, cond, List, [], ◌∷◌, ◌++◌, Option, Some, None, Result, Ok, Err, refl, sym, ap, subst, ◌∙◌, ⊎_elim}
use Rattle.std.specs.Result.{OnOk, OnErr}
use Rattle.std.specs.Option.{IsSome}
use Rattle.std.proofs.lemmas.Bool.{cond-true, cond-false, cases_Bool, true≢false}
use Rattle.std.proofs.lemmas.List.Folds.{list_any-append}
use Rattle.std.specs.List.{list_any}
use Rattle.std.specs.Map.{lookup}
use Rattle.std.specs.Global.{Vec}
use Rattle.sd_base.specs.declared.ids.TxnId.{TxnId}
use Rattle.sd_base.specs.declared.ids.Rid.{Rid}
use Rattle.sd_base.specs.declared.place.Mode.{Mode}
use Rattle.sd_base.specs.Ids.{same_txn, same_rid}
use Rattle.sd_reclock.proofs.Noting.{PutsTxn}
use Rattle.sd_reclock.specs.Locks.{Held, Modes, held_in, mode_among}
use Rattle.sd_reclock.specs.Indexing.{Index, IsIndexed, names, rids_of}
use Rattle.sd_base.proofs.SameIds.{cases_rid, cases_txn, ne-same_rid, ne-same}
use Rattle.sd_base.proofs.Orders.{same-rid, same-txn, same-txn-is, same-rid-is}

pub and-true : (b : Bool) → (b && true) ≡ b
and-true true = refl
and-true false = refl

pub and-false : (b : Bool) → (b && false) ≡ false
and-false true = refl
and-false false = refl

or-false : (b : Bool) → (b || false) ≡ b
or-false true = refl
or-false false = refl

-- the record r has w now, and the others have what they had
abbrev pub PutsRid : {X : Type 0} → List (Rid × X) → List (Rid × X) → Rid → Option X → Type 0
PutsRid {X} old new r w = (q : Rid) → lookup (same_rid q) new ≡ cond (same_rid r q) w (lookup (same_rid q) old)

abbrev pub no_mode : Option Mode
no_mode = None

-- t's lock on r is x now, and all other locks are what they were
abbrev pub Changes : Held → Held → TxnId → Rid → Option Mode → Type 0
Changes old new t r x = (u : TxnId) (q : Rid) → held_in new u q ≡ cond {A = Option Mode} (same_txn t u && same_rid r q) x (held_in old u q)

pub changes : (old new : Held) (t : TxnId) (r : Rid) (w : Option Modes) (x : Option Mode) → PutsRid old new r w
    → ((u : TxnId) → mode_among w u ≡ cond {A = Option Mode} (same_txn t u) x (held_in old u r)) → Changes old new t r x
changes old new t r w x puts modes u q = ⊎_elim
    (λ e. subst (λ (z : Rid). held_in new u z ≡ cond {A = Option Mode} (same_txn t u && same_rid r z) x (held_in old u z)) e
    (ap (λ (o : Option Modes). mode_among o u) (puts r ∙ cond-true (same_rid r r) w (lookup (same_rid r) old) (same-rid r)) ∙ modes u
    ∙ ap (λ (b : Bool). cond {A = Option Mode} b x (held_in old u r)) (sym (ap (λ (b : Bool). same_txn t u && b) (same-rid r) ∙ and-true (same_txn t u)))))
    (λ ne. ap (λ (o : Option Modes). mode_among o u) (puts q ∙ cond-false (same_rid r q) w (lookup (same_rid q) old) (ne-same_rid r q ne))
    ∙ sym (ap (λ (b : Bool). cond {A = Option Mode} b x (held_in old u q)) (ap (λ (b : Bool). same_txn t u && b) (ne-same_rid r q ne) ∙ and-false (same_txn t u))))
    (cases_rid r q)

-- where nobody holds r, taking t's lock away changes nothing
pub changes_nothing : (old : Held) (t : TxnId) (r : Rid) → lookup (same_rid r) old ≡ None → Changes old old t r None
changes_nothing old t r none u q = ⊎_elim
    (λ h. sym (cond-true (same_txn t u && same_rid r q) None (held_in old u q) h ∙ sym (gone h)))
    (λ h. sym (cond-false (same_txn t u && same_rid r q) None (held_in old u q) h))
    (cases_Bool (same_txn t u && same_rid r q))
  where
    gone : (same_txn t u && same_rid r q) ≡ true → held_in old u q ≡ None
    gone h = ⊎_elim
        (λ e. subst (λ (z : Rid). held_in old u z ≡ None) e (ap (λ (o : Option Modes). mode_among o u) none))
        (λ ne. absurd (cc (ne-same_rid r q ne, and-false (same_txn t u))))
        (cases_rid r q)

both_hold : (a b : Bool) → (a && b) ≡ true → (a ≡ true) × (b ≡ true)
both_hold true b h = (refl, h)
both_hold false b h = absurd (true≢false (sym h))

-- where t hasn't r, taking it away changes nothing
pub changes_lacking : (old : Held) (t : TxnId) (r : Rid) → held_in old t r ≡ None → Changes old old t r None
changes_lacking old t r none u q = ⊎_elim
    (λ h. gone (both_hold (same_txn t u) (same_rid r q) h) ∙ sym (cond-true (same_txn t u && same_rid r q) None (held_in old u q) h))
    (λ h. sym (cond-false (same_txn t u && same_rid r q) None (held_in old u q) h))
    (cases_Bool (same_txn t u && same_rid r q))
  where
    gone : ((same_txn t u ≡ true) × (same_rid r q ≡ true)) → held_in old u q ≡ None
    gone h = subst (λ (z : Rid). held_in old u z ≡ None) (same-rid-is r q h.1) (subst (λ (z : TxnId). held_in old z r ≡ None) (same-txn-is t u h.0) none)

-- a record that is written and then taken out
pub put_then_remove : (old mid new : Held) (r : Rid) (w : Option Modes) → PutsRid old mid r w → PutsRid mid new r None → PutsRid old new r None
put_then_remove old mid new r w first second q = second q ∙ twice (same_rid r q) (lookup (same_rid q) mid) w (lookup (same_rid q) old) (first q)
  where
    twice : (b : Bool) (x w y : Option Modes) → x ≡ cond b w y → cond b None x ≡ cond {A = Option Modes} b None y
    twice true x w y e = refl
    twice false x w y e = e

-- the records of one transaction gain one
pub gains : (old new : Index) (t : TxnId) (r : Rid) (w : Vec Rid) → PutsTxn old new t (Some w) → w.items ≡ rids_of (lookup (same_txn t) old) ++ r ∷ []
    → (u : TxnId) (q : Rid) → names new u q ≡ (names old u q || (same_txn t u && same_rid q r))
gains old new t r w puts is u q = ⊎_elim
    (λ e. subst (λ (z : TxnId). names new z q ≡ (names old z q || (same_txn t z && same_rid q r))) e
    (ap (λ (o : Option (Vec Rid)). list_any (same_rid q) (rids_of o)) (puts t ∙ cond-true (same_txn t t) (Some w) (lookup (same_txn t) old) (same-txn t))
    ∙ ap (λ (rids : List Rid). list_any (same_rid q) rids) is ∙ list_any-append (same_rid q) (rids_of (lookup (same_txn t) old)) (r ∷ [])
    ∙ ap (λ (b : Bool). names old t q || b) (or-false (same_rid q r) ∙ sym (ap (λ (b : Bool). b && same_rid q r) (same-txn t)))))
    (λ ne. ap (λ (o : Option (Vec Rid)). list_any (same_rid q) (rids_of o)) (puts u ∙ cond-false (same_txn t u) (Some w) (lookup (same_txn u) old) (ne-same t u ne))
    ∙ sym (ap (λ (b : Bool). names old u q || (b && same_rid q r)) (ne-same t u ne) ∙ or-false (names old u q)))
    (cases_txn t u)

-- the records of one transaction stay
pub stay : (old new : Index) (t : TxnId) (w : Vec Rid) → PutsTxn old new t (Some w) → w.items ≡ rids_of (lookup (same_txn t) old)
    → (u : TxnId) (q : Rid) → names new u q ≡ names old u q
stay old new t w puts is u q = ⊎_elim
    (λ e. subst (λ (z : TxnId). names new z q ≡ names old z q) e
    (ap (λ (o : Option (Vec Rid)). list_any (same_rid q) (rids_of o)) (puts t ∙ cond-true (same_txn t t) (Some w) (lookup (same_txn t) old) (same-txn t))
    ∙ ap (λ (rids : List Rid). list_any (same_rid q) rids) is))
    (λ ne. ap (λ (o : Option (Vec Rid)). list_any (same_rid q) (rids_of o)) (puts u ∙ cond-false (same_txn t u) (Some w) (lookup (same_txn u) old) (ne-same t u ne)))
    (cases_txn t u)

pub on_err : {T E : Type 0} (r : Result T E) (P : Type 0) → P → OnErr r P
on_err (Ok x) P p = tt
on_err (Err e) P p = p

pub ok_by : {T E : Type 0} (r : Result T E) (P : Type 0) → P → OnOk r P
ok_by (Ok x) P p = p
ok_by (Err e) P p = tt

-- a record that is held is named
pub named_held : (locks : Held) (index : Index) (t : TxnId) (r : Rid) (mode : Option Mode) → IsIndexed locks index → mode ≡ held_in locks t r → IsSome mode → names index t r ≡ true
named_held locks index t r None indexed is some = absurd (true≢false (sym some))
named_held locks index t r (Some m) indexed is some = ⊎_elim
    (λ h. h)
    (λ h. let none = is ∙ indexed t r h in absurd (cc (none)))
    (cases_Bool (names index t r))

-- the two outcomes of a result
pub by_outcome : {T E : Type 0} (r : Result T E) (P Q X : Type 0) → OnOk r P → OnErr r Q → (P → X) → (Q → X) → X
by_outcome (Ok x) P Q X p q f g = f p
by_outcome (Err e) P Q X p q f g = g q

-- two locks on records of one transaction taken away in turn
pub gone_in_turn : (a b d : Bool) (x y z : Option Mode) → x ≡ cond {A = Option Mode} (a && d) None y → y ≡ cond {A = Option Mode} (a && b) None z → x ≡ cond {A = Option Mode} (a && (b || d)) None z
gone_in_turn true true true x y z e f = e
gone_in_turn true true false x y z e f = e ∙ f
gone_in_turn true false true x y z e f = e
gone_in_turn true false false x y z e f = e ∙ f
gone_in_turn false b d x y z e f = e ∙ f

-- a record that is named already
pub named_already : (index : Index) (t : TxnId) (r : Rid) → names index t r ≡ true → (u : TxnId) (q : Rid) → names index u q ≡ (names index u q || (same_txn t u && same_rid q r))
named_already index t r has u q = ⊎_elim
    (λ h. let a : t ≡ u = same-txn-is t u (left (same_txn t u) (same_rid q r) h) in
    let b : r ≡ q = sym (same-rid-is q r (right (same_txn t u) (same_rid q r) h)) in
    let is : names index u q ≡ true = subst (λ (z : Rid). names index u z ≡ true) b (subst (λ (z : TxnId). names index z r ≡ true) a has) in
    is ∙ sym (ap (λ (x : Bool). x || (same_txn t u && same_rid q r)) is))
    (λ h. sym (ap (λ (x : Bool). names index u q || x) h ∙ or-false (names index u q)))
    (cases_Bool (same_txn t u && same_rid q r))
  where
    left : (a b : Bool) → (a && b) ≡ true → a ≡ true
    left true b h = refl
    left false b h = h

    right : (a b : Bool) → (a && b) ≡ true → b ≡ true
    right true b h = h
    right false b h = absurd (cc h)
