-- Two locks on one record never conflict, and the index names each record that is held. It serves the goals of locks.rt.
use Rattle.std.proofs.Common.{◌≡◌, ◌≢◌, ◌⊎◌, Bool, true, false, ◌&&◌, ◌||◌, cond, List, Option, Some, None, refl, sym, ap, subst, ◌∙◌, inl, inr, ⊎_elim}
use Rattle.std.proofs.lemmas.Bool.{cond-true, cond-false, cases_Bool, true≢false, or_parts}
use Rattle.std.specs.Option.{IsSome}
use Rattle.std.specs.List.{list_any}
use Rattle.std.specs.Map.{lookup}
use Rattle.std.specs.Global.{Vec}
use Rattle.sd_base.specs.declared.ids.TxnId.{TxnId}
use Rattle.sd_base.specs.declared.ids.Rid.{Rid}
use Rattle.sd_base.specs.declared.place.Mode.{Mode}
use Rattle.sd_base.specs.declared.place.Mode.TheVariants as modes
use Rattle.sd_base.specs.Ids.{same_txn, same_rid}
use Rattle.sd_base.specs.Waits.{Wait, Clash}
use Rattle.sd_reclock.specs.Locks.{Held, held_in, raised, Agree, StandsIn, IsLowestHolder}
use Rattle.sd_reclock.specs.Indexing.{Index, names, rids_of, IsIndexed}
use Rattle.sd_reclock.proofs.Noting.{PutsTxn}
use Rattle.sd_reclock.proofs.Writes.{Changes, and-false}
use Rattle.sd_base.proofs.SameIds.{cases_rid, cases_txn, ne-same_rid, ne-same}
use Rattle.sd_base.proofs.Orders.{same-rid, same-txn, same_rid-sym}

pub clash-sym : (m n : Mode) → Clash m n → Clash n m
clash-sym modes.Shared modes.Shared c = c
clash-sym modes.Shared modes.Excl c = tt
clash-sym modes.Excl modes.Shared c = tt
clash-sym modes.Excl modes.Excl c = tt

raised_clash : (had : Option Mode) (mode n : Mode) → Clash (raised had mode) n → (had ≡ Some modes.Excl) ⊎ Clash mode n
raised_clash (Some modes.Excl) mode n c = inl refl
raised_clash (Some modes.Shared) mode n c = inr c
raised_clash None mode n c = inr c

-- at a pair that isn't the changed one
elsewhere : (old new : Held) (t : TxnId) (r : Rid) (x : Option Mode) → Changes old new t r x → (u : TxnId) (q : Rid) → (same_txn t u && same_rid r q) ≡ false → held_in new u q ≡ held_in old u q
elsewhere old new t r x changed u q apart = changed u q ∙ cond-false (same_txn t u && same_rid r q) x (held_in old u q) apart

other_rid : (t u : TxnId) (r q : Rid) → r ≢ q → (same_txn t u && same_rid r q) ≡ false
other_rid t u r q ne = ap (λ (b : Bool). same_txn t u && b) (ne-same_rid r q ne) ∙ and-false (same_txn t u)

other_txn : (t u : TxnId) (r q : Rid) → t ≢ u → (same_txn t u && same_rid r q) ≡ false
other_txn t u r q ne = ap (λ (b : Bool). b && same_rid r q) (ne-same t u ne)

pub here : (old new : Held) (t : TxnId) (r : Rid) (x : Option Mode) → Changes old new t r x → held_in new t r ≡ x
here old new t r x changed = changed t r ∙ cond-true (same_txn t t && same_rid r r) x (held_in old t r) (ap (λ (b : Bool). b && same_rid r r) (same-txn t) ∙ same-rid r)

-- nobody's lock conflicts with t's raised one
raised_agrees : (old : Held) (t : TxnId) (wait : Wait) → Agree old → ((u : TxnId) → StandsIn old t wait u → ⊥) → (u : TxnId) (n : Mode) → t ≢ u → held_in old u wait.rid ≡ Some n
    → Clash (raised (held_in old t wait.rid) wait.mode) n → ⊥
raised_agrees old t wait agree free u n apart is clash = ⊎_elim
    (λ excl. agree wait.rid t u modes.Excl n apart excl is tt)
    (λ c. free u (record { other = apart; mode = n; holds = is; clashes = c }))
    (raised_clash (held_in old t wait.rid) wait.mode n clash)

-- where nobody stands in the way of t, the locks agree with t's raised one too
pub agree_raised : (old new : Held) (t : TxnId) (wait : Wait) → Agree old → ((u : TxnId) → StandsIn old t wait u → ⊥)
    → Changes old new t wait.rid (Some (raised (held_in old t wait.rid) wait.mode)) → Agree new
agree_raised old new t wait agree free changed r a b m n apart is_a is_b clash = ⊎_elim
    (λ e. at_rid r e a b m n apart is_a is_b clash)
    (λ ne. agree r a b m n apart (sym (stays a r (other_rid t a wait.rid r ne)) ∙ is_a) (sym (stays b r (other_rid t b wait.rid r ne)) ∙ is_b) clash)
    (cases_rid wait.rid r)
  where
    x : Option Mode
    x = Some (raised (held_in old t wait.rid) wait.mode)

    stays : (u : TxnId) (q : Rid) → (same_txn t u && same_rid wait.rid q) ≡ false → held_in new u q ≡ held_in old u q
    stays u q h = elsewhere old new t wait.rid (Some (raised (held_in old t wait.rid) wait.mode)) changed u q h

    mine : (m : Mode) → held_in new t wait.rid ≡ Some m → raised (held_in old t wait.rid) wait.mode ≡ m
    mine m is = cc (here old new t wait.rid (Some (raised (held_in old t wait.rid) wait.mode)) changed)

    both : (a b : TxnId) (m n : Mode) → a ≢ b → held_in new a wait.rid ≡ Some m → held_in new b wait.rid ≡ Some n → Clash m n → ⊥
    both a b m n apart is_a is_b clash = ⊎_elim
        (λ ea. raised_agrees old t wait agree free b n (λ eb. apart (sym ea ∙ eb))
        (sym (stays b wait.rid (other_txn t b wait.rid wait.rid (λ eb. apart (sym ea ∙ eb)))) ∙ is_b)
        (subst (λ (z : Mode). Clash z n) (sym (mine m (subst (λ (z : TxnId). held_in new z wait.rid ≡ Some m) (sym ea) is_a))) clash))
        (λ na. ⊎_elim
        (λ eb. raised_agrees old t wait agree free a m na
        (sym (stays a wait.rid (other_txn t a wait.rid wait.rid na)) ∙ is_a)
        (subst (λ (z : Mode). Clash z m) (sym (mine n (subst (λ (z : TxnId). held_in new z wait.rid ≡ Some n) (sym eb) is_b))) (clash-sym m n clash)))
        (λ nb. agree wait.rid a b m n apart (sym (stays a wait.rid (other_txn t a wait.rid wait.rid na)) ∙ is_a) (sym (stays b wait.rid (other_txn t b wait.rid wait.rid nb)) ∙ is_b) clash)
        (cases_txn t b))
        (cases_txn t a)

    at_rid : (r : Rid) → wait.rid ≡ r → (a b : TxnId) (m n : Mode) → a ≢ b → held_in new a r ≡ Some m → held_in new b r ≡ Some n → Clash m n → ⊥
    at_rid r e a b m n apart is_a is_b clash = both a b m n apart (subst (λ (z : Rid). held_in new a z ≡ Some m) (sym e) is_a) (subst (λ (z : Rid). held_in new b z ≡ Some n) (sym e) is_b) clash

-- taking locks away leaves the others in agreement
pub agree_fewer : (old new : Held) → ((u : TxnId) (q : Rid) (m : Mode) → held_in new u q ≡ Some m → held_in old u q ≡ Some m) → Agree old → Agree new
agree_fewer old new fewer agree r a b m n apart is_a is_b clash = agree r a b m n apart (fewer a r m is_a) (fewer b r n is_b) clash

some : (o : Option Mode) → IsSome o → (m : Mode) × (o ≡ Some m)
some None h = absurd (true≢false (sym h))
some (Some m) h = (m, refl)

shared_agrees : (mode m n : Mode) → Clash mode m → (Clash mode n → ⊥) → (Clash n m → ⊥) → ⊥
shared_agrees modes.Excl m n c f g = f tt
shared_agrees modes.Shared modes.Excl modes.Shared c f g = g tt
shared_agrees modes.Shared modes.Excl modes.Excl c f g = f tt
shared_agrees modes.Shared modes.Shared n c f g = c

-- where the lowest other holder doesn't stand in the way, nobody does
pub nobody_stands : (locks : Held) (t : TxnId) (wait : Wait) (other : TxnId) → Agree locks → IsLowestHolder (λ u. held_in locks u wait.rid) t (Some other) → (StandsIn locks t wait other → ⊥)
    → (u : TxnId) → StandsIn locks t wait u → ⊥
nobody_stands locks t wait other agree lowest free u stands = ⊎_elim
    (λ e. free (subst (λ (z : TxnId). StandsIn locks t wait z) (sym e) stands))
    (λ ne. let held = some (held_in locks other wait.rid) lowest.1 in
    shared_agrees wait.mode stands.mode held.0 stands.clashes
    (λ c. free (record { other = lowest.0; mode = held.0; holds = held.1; clashes = c }))
    (λ c. agree wait.rid other u held.0 stands.mode ne held.1 stands.holds c))
    (cases_txn other u)

-- where nobody but t has a lock, nobody stands in the way
pub none_stands : (locks : Held) (t : TxnId) (wait : Wait) → IsLowestHolder (λ u. held_in locks u wait.rid) t None → (u : TxnId) → StandsIn locks t wait u → ⊥
none_stands locks t wait none u stands = cc (none u stands.other, stands.holds)

-- the index still names what is held
pub indexed_after : (old new : Held) (index named : Index) (t : TxnId) (r : Rid) (x : Option Mode) → IsIndexed old index → Changes old new t r x
    → ((u : TxnId) (q : Rid) → names named u q ≡ (names index u q || (same_txn t u && same_rid q r))) → IsIndexed new named
indexed_after old new index named t r x indexed changed gains u q h =
    let parts = or_parts (names index u q) (same_txn t u && same_rid q r) (sym (gains u q) ∙ h) in
    elsewhere old new t r x changed u q (ap (λ (b : Bool). same_txn t u && b) (same_rid-sym r q) ∙ parts.1) ∙ indexed u q parts.0

-- all of t's locks are gone, and the others are what they were
abbrev pub Frees : Held → Held → TxnId → Type 0
Frees old new t = (u : TxnId) (q : Rid) → held_in new u q ≡ cond {A = Option Mode} (same_txn t u) None (held_in old u q)

-- the locks on the records that the index names at t are all of t's
pub frees : (old new : Held) (index : Index) (t : TxnId) (rids : List Rid) → IsIndexed old index → ((q : Rid) → names index t q ≡ list_any (same_rid q) rids)
    → ((u : TxnId) (q : Rid) → held_in new u q ≡ cond {A = Option Mode} (same_txn t u && list_any (same_rid q) rids) None (held_in old u q)) → Frees old new t
frees old new index t rids indexed named each u q = ⊎_elim
    (λ e. subst (λ (z : TxnId). held_in new z q ≡ cond {A = Option Mode} (same_txn t z) None (held_in old z q)) e (own ∙ sym (cond-true (same_txn t t) None (held_in old t q) (same-txn t))))
    (λ ne. each u q ∙ ap (λ (b : Bool). cond {A = Option Mode} (b && list_any (same_rid q) rids) None (held_in old u q)) (ne-same t u ne)
    ∙ sym (ap (λ (b : Bool). cond {A = Option Mode} b None (held_in old u q)) (ne-same t u ne)))
    (cases_txn t u)
  where
    own : held_in new t q ≡ None
    own = each t q ∙ ap (λ (b : Bool). cond {A = Option Mode} (b && list_any (same_rid q) rids) None (held_in old t q)) (same-txn t)
        ∙ ⊎_elim
        (λ h. cond-true (list_any (same_rid q) rids) None (held_in old t q) h)
        (λ h. cond-false (list_any (same_rid q) rids) None (held_in old t q) h ∙ indexed t q (named q ∙ h))
        (cases_Bool (list_any (same_rid q) rids))

-- where the index names nothing at t, there is nothing to free
pub frees_nothing : (old : Held) (index : Index) (t : TxnId) → IsIndexed old index → ((q : Rid) → names index t q ≡ false) → Frees old old t
frees_nothing old index t indexed named u q = ⊎_elim
    (λ e. subst (λ (z : TxnId). held_in old z q ≡ cond {A = Option Mode} (same_txn t z) None (held_in old z q)) e (indexed t q (named q) ∙ sym (cond-true (same_txn t t) None (held_in old t q) (same-txn t))))
    (λ ne. sym (cond-false (same_txn t u) None (held_in old u q) (ne-same t u ne)))
    (cases_txn t u)

pub indexed_freed : (old new : Held) (index rest : Index) (t : TxnId) → IsIndexed old index → Frees old new t → PutsTxn index rest t None → IsIndexed new rest
indexed_freed old new index rest t indexed freed out u q h = ⊎_elim
    (λ e. freed u q ∙ cond-true (same_txn t u) None (held_in old u q) (subst (λ (z : TxnId). same_txn t z ≡ true) e (same-txn t)))
    (λ ne. freed u q ∙ cond-false (same_txn t u) None (held_in old u q) (ne-same t u ne)
    ∙ indexed u q (ap (λ (o : Option (Vec Rid)). list_any (same_rid q) (rids_of o)) (sym (out u ∙ cond-false (same_txn t u) None (lookup (same_txn u) index) (ne-same t u ne))) ∙ h))
    (cases_txn t u)

fewer_by : (b : Bool) (x y : Option Mode) (m : Mode) → x ≡ cond {A = Option Mode} b None y → x ≡ Some m → y ≡ Some m
fewer_by true x y m e is = cc
fewer_by false x y m e is = cc

pub agree_freed : (old new : Held) (t : TxnId) → Frees old new t → Agree old → Agree new
agree_freed old new t freed agree = agree_fewer old new (λ u q m is. fewer_by (same_txn t u) (held_in new u q) (held_in old u q) m (freed u q) is) agree
