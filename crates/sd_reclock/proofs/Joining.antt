-- Rows in place in front of rows behind an index: what one of both parts says of all. It serves locks.rt.
use Rattle.std.proofs.Common.{◌≡◌, ◌⊎◌, inl, inr, ℕ, zero, suc, ◌<◌, Bool, true, false, ◌&&◌, cond, [], ◌∷◌, ◌++◌, length, get_or, Option, Some, None, Result, refl, sym, ap, subst, ◌∙◌, ⊎_elim, arith}
use Rattle.std.specs.Option.{IsSome}
use Rattle.std.specs.Result.{OnOk, OnErr}
use Rattle.std.specs.Map.{lookup}
use Rattle.std.proofs.lemmas.Bool.{cond-true, cond-false, cases_Bool, true≢false}
use Rattle.sd_base.specs.declared.ids.TxnId.{TxnId}
use Rattle.sd_base.specs.declared.ids.Rid.{Rid}
use Rattle.sd_base.specs.declared.place.Mode.{Mode}
use Rattle.sd_base.specs.Ids.{same_rid, same_txn}
use Rattle.sd_base.specs.Waits.{Wait}
use Rattle.sd_reclock.specs.Locks.{Held, Modes, held_in, mode_among, raised, wait_for, Agree, OwnsIn, IsLowestOwner, StandsIn}
use Rattle.sd_reclock.specs.Owning.{IsLowerOf}
use Rattle.sd_reclock.specs.Placing.{AddsNone, IsApartFrom, IsPlace}
use Rattle.sd_reclock.proofs.Writes.{Changes, PutsRid, changes, and-false, by_outcome}
use Rattle.sd_reclock.proofs.Agreeing.{Frees, agree_raised}
use Rattle.sd_reclock.proofs.Firsts.{put_alone}
use Rattle.sd_reclock.proofs.Owners.{low_both}
use Rattle.sd_reclock.proofs.Ranging.{low_from, lowest_of}
use Rattle.sd_reclock.proofs.Placing.{look_left, look_right, push_puts}
use Rattle.sd_base.proofs.Orders.{same-rid, same-rid-is}

pub joined_left : (few many all : Held) (r : Rid) (w : Modes) → few ++ many ≡ all → Some w ≡ lookup (same_rid r) few → Some w ≡ lookup (same_rid r) all
joined_left few many all r w view is = sym (look_left (same_rid r) few many w (sym is)) ∙ ap (λ (l : Held). lookup (same_rid r) l) view

pub joined_right : (few many all : Held) (r : Rid) (o : Option Modes) → few ++ many ≡ all → None ≡ lookup (same_rid r) few → o ≡ lookup (same_rid r) many → o ≡ lookup (same_rid r) all
joined_right few many all r o view none is = is ∙ sym (look_right (same_rid r) few many (sym none)) ∙ ap (λ (l : Held). lookup (same_rid r) l) view

-- the first part's row of a record, or none
pub rows_of : (few : Held) (q : Rid) → (lookup (same_rid q) few ≡ None) ⊎ ((w : Modes) × (lookup (same_rid q) few ≡ Some w))
rows_of few q = at (lookup (same_rid q) few) refl
  where
    at : (o : Option Modes) → lookup (same_rid q) few ≡ o → (lookup (same_rid q) few ≡ None) ⊎ ((w : Modes) × (lookup (same_rid q) few ≡ Some w))
    at None e = inl e
    at (Some w) e = inr (w, e)

pub has : (few : Held) (q : Rid) (w : Modes) → lookup (same_rid q) few ≡ Some w → IsSome (lookup (same_rid q) few)
has few q w e = let P : Option Modes → Type 0 = λ o. IsSome o in subst P (sym e) refl

pub has_not : (few : Held) (q : Rid) → lookup (same_rid q) few ≡ None → IsSome (lookup (same_rid q) few) → ⊥
has_not few q none h = let P : Option Modes → Type 0 = λ o. IsSome o in absurd (true≢false (sym (subst P none h)))

pub held_right : (few many : Held) (u : TxnId) (q : Rid) → lookup (same_rid q) few ≡ None → held_in (few ++ many) u q ≡ held_in many u q
held_right few many u q none = ap (λ (o : Option Modes). mode_among o u) (look_right (same_rid q) few many none)

-- where the second part has nothing, the first part's rows count
held_left : (few many : Held) (u : TxnId) (q : Rid) → held_in many u q ≡ None → held_in (few ++ many) u q ≡ held_in few u q
held_left few many u q none = ⊎_elim
    (λ h. held_right few many u q h ∙ none ∙ sym (ap (λ (o : Option Modes). mode_among o u) h))
    (λ h. ap (λ (o : Option Modes). mode_among o u) (look_left (same_rid q) few many h.0 h.1 ∙ sym h.1))
    (rows_of few q)

-- where nobody has a lock
other : (t u : TxnId) (r q : Rid) → (r ≡ q → ⊥) → (same_txn t u && same_rid r q) ≡ false
other t u r q ne = ⊎_elim (λ h. absurd (ne (same-rid-is r q h))) (λ h. ap (λ (b : Bool). same_txn t u && b) h ∙ and-false (same_txn t u)) (cases_Bool (same_rid r q))

-- a lock on a record of the first part
pub changes_left : (few few' many : Held) (t : TxnId) (r : Rid) (x : Option Mode) → IsApartFrom few many → AddsNone few few' → IsSome (lookup (same_rid r) few)
    → Changes few few' t r x → Changes (few ++ many) (few' ++ many) t r x
changes_left few few' many t r x apart adds some changed u q = ⊎_elim
    (λ h. held_right few' many u q (adds q h) ∙ sym (held_right few many u q h)
    ∙ sym (cond-false (same_txn t u && same_rid r q) x (held_in (few ++ many) u q) (other t u r q (λ e. has_not few q h (subst (λ (z : Rid). IsSome (lookup (same_rid z) few)) e some)))))
    (λ h. let none = apart q (has few q h.0 h.1) u in
    held_left few' many u q none ∙ changed u q ∙ ap (λ (m : Option Mode). cond {A = Option Mode} (same_txn t u && same_rid r q) x m) (sym (held_left few many u q none)))
    (rows_of few q)

-- a lock on another record
pub changes_right : (few many many' : Held) (t : TxnId) (r : Rid) (x : Option Mode) → lookup (same_rid r) few ≡ None
    → Changes many many' t r x → Changes (few ++ many) (few ++ many') t r x
changes_right few many many' t r x none changed u q = ⊎_elim
    (λ h. held_right few many' u q h ∙ changed u q ∙ ap (λ (m : Option Mode). cond {A = Option Mode} (same_txn t u && same_rid r q) x m) (sym (held_right few many u q h)))
    (λ h. ap (λ (o : Option Modes). mode_among o u) (look_left (same_rid q) few many' h.0 h.1 ∙ sym (look_left (same_rid q) few many h.0 h.1))
    ∙ sym (cond-false (same_txn t u && same_rid r q) x (held_in (few ++ many) u q) (other t u r q (λ e. has_not few r none (subst (λ (z : Rid). IsSome (lookup (same_rid z) few)) (sym e) (has few q h.0 h.1))))))
    (rows_of few q)

pub apart_fewer : (few few' many : Held) → AddsNone few few' → IsApartFrom few many → IsApartFrom few' many
apart_fewer few few' many adds apart q some u = ⊎_elim
    (λ h. absurd (has_not few' q (adds q h) some))
    (λ h. apart q (has few q h.0 h.1) u)
    (rows_of few q)

pub apart_changed : (few many many' : Held) (t : TxnId) (r : Rid) (x : Option Mode) → lookup (same_rid r) few ≡ None → Changes many many' t r x → IsApartFrom few many → IsApartFrom few many'
apart_changed few many many' t r x none changed apart q some u =
    changed u q ∙ cond-false (same_txn t u && same_rid r q) x (held_in many u q) (other t u r q (λ e. has_not few r none (subst (λ (z : Rid). IsSome (lookup (same_rid z) few)) (sym e) some))) ∙ apart q some u

apart_freed : (few many many' : Held) (t : TxnId) → Frees many many' t → IsApartFrom few many → IsApartFrom few many'
apart_freed few many many' t freed apart q some u = freed u q ∙ ap (λ (m : Option Mode). cond {A = Option Mode} (same_txn t u) None m) (apart q some u) ∙ nothing (same_txn t u)
  where
    nothing : (b : Bool) → cond {A = Option Mode} b None None ≡ None
    nothing true = refl
    nothing false = refl

-- all of one transaction's locks, of both parts
pub frees_both : (few few' many many' : Held) (t : TxnId) → IsApartFrom few many → AddsNone few few' → Frees few few' t → Frees many many' t → Frees (few ++ many) (few' ++ many') t
frees_both few few' many many' t apart adds left right u q = ⊎_elim
    (λ h. held_right few' many' u q (adds q h) ∙ right u q ∙ ap (λ (m : Option Mode). cond {A = Option Mode} (same_txn t u) None m) (sym (held_right few many u q h)))
    (λ h. let some = has few q h.0 h.1 in
    held_left few' many' u q (apart_freed few many many' t right apart q some u) ∙ left u q
    ∙ ap (λ (m : Option Mode). cond {A = Option Mode} (same_txn t u) None m) (sym (held_left few many u q (apart q some u))))
    (rows_of few q)

pub apart_both : (few few' many many' : Held) (t : TxnId) → IsApartFrom few many → AddsNone few few' → Frees many many' t → IsApartFrom few' many'
apart_both few few' many many' t apart adds right = apart_fewer few few' many' adds (apart_freed few many many' t right apart)

-- the lock on a record that nobody holds
pub added : (few many : Held) (t : TxnId) (r : Rid) (mode : Mode) → lookup (same_rid r) few ≡ None → ((u : TxnId) → held_in many u r ≡ None)
    → Changes (few ++ many) ((few ++ (r, (t, mode) ∷ []) ∷ []) ++ many) t r (Some (raised (held_in (few ++ many) t r) mode))
added few many t r mode none nowhere = subst (λ (m : Option Mode). Changes (few ++ many) ((few ++ row ∷ []) ++ many) t r (Some (raised m mode))) (sym (free t))
    (changes (few ++ many) ((few ++ row ∷ []) ++ many) t r (Some row.1) (Some mode) puts
    (λ u. put_alone None [] [] t mode refl refl refl u ∙ ap (λ (m : Option Mode). cond {A = Option Mode} (same_txn t u) (Some mode) m) (sym (free u))))
  where
    row : Rid × Modes
    row = (r, (t, mode) ∷ [])

    free : (u : TxnId) → held_in (few ++ many) u r ≡ None
    free u = held_right few many u r none ∙ nowhere u

    here : (q : Rid) → same_rid r q ≡ true → lookup (same_rid q) ((few ++ row ∷ []) ++ many) ≡ cond (same_rid r q) (Some row.1) (lookup (same_rid q) (few ++ many))
    here q h = look_left (same_rid q) (few ++ row ∷ []) many row.1 (push_puts few r row.1 none q ∙ cond-true (same_rid r q) (Some row.1) (lookup (same_rid q) few) h)
        ∙ sym (cond-true (same_rid r q) (Some row.1) (lookup (same_rid q) (few ++ many)) h)

    there : (q : Rid) → same_rid r q ≡ false → lookup (same_rid q) ((few ++ row ∷ []) ++ many) ≡ cond (same_rid r q) (Some row.1) (lookup (same_rid q) (few ++ many))
    there q h =
        let same : lookup (same_rid q) (few ++ row ∷ []) ≡ lookup (same_rid q) few = push_puts few r row.1 none q ∙ cond-false (same_rid r q) (Some row.1) (lookup (same_rid q) few) h in
        ⊎_elim
        (λ n. look_right (same_rid q) (few ++ row ∷ []) many (same ∙ n) ∙ sym (look_right (same_rid q) few many n))
        (λ w. look_left (same_rid q) (few ++ row ∷ []) many w.0 (same ∙ w.1) ∙ sym (look_left (same_rid q) few many w.0 w.1))
        (rows_of few q)
        ∙ sym (cond-false (same_rid r q) (Some row.1) (lookup (same_rid q) (few ++ many)) h)

    puts : PutsRid (few ++ many) ((few ++ (r, (t, mode) ∷ []) ∷ []) ++ many) r (Some ((t, mode) ∷ []))
    puts q = ⊎_elim (here q) (there q) (cases_Bool (same_rid r q))

pub apart_added : (few many : Held) (r : Rid) (w : Modes) → lookup (same_rid r) few ≡ None → ((u : TxnId) → held_in many u r ≡ None) → IsApartFrom few many → IsApartFrom (few ++ (r, w) ∷ []) many
apart_added few many r w none nowhere apart q some u = ⊎_elim
    (λ h. subst (λ (z : Rid). held_in many u z ≡ None) (same-rid-is r q h) (nowhere u))
    (λ h. apart q (let P : Option Modes → Type 0 = λ o. IsSome o in subst P (push_puts few r w none q ∙ cond-false (same_rid r q) (Some w) (lookup (same_rid q) few) h) some) u)
    (cases_Bool (same_rid r q))

-- the first part's locks agree
pub agree_left : (few many : Held) → IsApartFrom few many → Agree (few ++ many) → Agree few
agree_left few many apart agree r a b m n ne is_a is_b clash = agree r a b m n ne (up r a m is_a) (up r b n is_b) clash
  where
    up : (r : Rid) (u : TxnId) (m : Mode) → held_in few u r ≡ Some m → held_in (few ++ many) u r ≡ Some m
    up r u m is = ⊎_elim
        (λ h. let none : held_in few u r ≡ None = ap (λ (o : Option Modes). mode_among o u) h in absurd (cc (none, is)))
        (λ h. held_left few many u r (apart r (has few r h.0 h.1) u) ∙ is)
        (rows_of few r)

-- the lowest owner of both parts
pub owner_both : (few many all : Held) (p : ℕ) (first second o : Option TxnId) → few ++ many ≡ all → IsApartFrom few many → IsLowestOwner few p first → IsLowestOwner many p second
    → IsLowerOf first second o → IsLowestOwner all p o
owner_both few many all p first second o view apart low high is = subst (λ (l : Held). IsLowestOwner l p o) view (lowest_of (few ++ many) p o
    (low_both (OwnsIn few p) (OwnsIn many p) (OwnsIn (few ++ many) p) first second o (low_from few p first low) (low_from many p second high) is left right either))
  where
    left : (u : TxnId) → OwnsIn few p u → OwnsIn (few ++ many) p u
    left u x = ⊎_elim
        (λ h. let none : held_in few u x.rid ≡ None = ap (λ (o : Option Modes). mode_among o u) h in absurd (cc (none, x.owns)))
        (λ h. record { rid = x.rid; inside = x.inside; owns = held_left few many u x.rid (apart x.rid (has few x.rid h.0 h.1) u) ∙ x.owns })
        (rows_of few x.rid)

    right : (u : TxnId) → OwnsIn many p u → OwnsIn (few ++ many) p u
    right u x = ⊎_elim
        (λ h. record { rid = x.rid; inside = x.inside; owns = held_right few many u x.rid h ∙ x.owns })
        (λ h. let none = apart x.rid (has few x.rid h.0 h.1) u in absurd (cc (none, x.owns)))
        (rows_of few x.rid)

    either : (u : TxnId) → OwnsIn (few ++ many) p u → OwnsIn few p u ⊎ OwnsIn many p u
    either u x = ⊎_elim
        (λ h. inr (record { rid = x.rid; inside = x.inside; owns = sym (held_right few many u x.rid h) ∙ x.owns }))
        (λ h. inl (record { rid = x.rid; inside = x.inside; owns = sym (held_left few many u x.rid (apart x.rid (has few x.rid h.0 h.1) u)) ∙ x.owns }))
        (rows_of few x.rid)

-- where nobody has a lock on a record, nobody stands in the way
pub unlocked_free : (locks : Held) (t : TxnId) (r : Rid) (mode : Mode) → ((u : TxnId) → held_in locks u r ≡ None) → (u : TxnId) → StandsIn locks t (wait_for r mode) u → ⊥
unlocked_free locks t r mode none u stands = let is = none u in let holds = stands.holds in absurd (cc (is, holds))

-- a record that has a place in the first part
some_at : (test : Rid → Bool) (rows : Held) (i : ℕ) (d : Rid × Modes) → i < length rows → test (get_or rows i d).0 ≡ true → IsSome (lookup test rows)
some_at test [] i d lt is = absurd (omega arith)
some_at test (x ∷ xs) zero d lt is = let P : Option Modes → Type 0 = λ o. IsSome o in subst P (sym (cond-true (test x.0) (Some x.1) (lookup test xs) is)) refl
some_at test (x ∷ xs) (suc i) d lt is = ⊎_elim
    (λ h. let P : Option Modes → Type 0 = λ o. IsSome o in subst P (sym (cond-true (test x.0) (Some x.1) (lookup test xs) h)) refl)
    (λ h. let P : Option Modes → Type 0 = λ o. IsSome o in subst P (sym (cond-false (test x.0) (Some x.1) (lookup test xs) h)) (some_at test xs i d (omega arith) is))
    (cases_Bool (test x.0))

pub has_row : (few : Held) (r : Rid) (at : ℕ) → IsPlace few r (Some at) → IsSome (lookup (same_rid r) few)
has_row few r at place = some_at (same_rid r) few at (r, []) place.0 (ap (λ (z : Rid). same_rid r z) (place.1 (r, [])) ∙ same-rid r)

pub held_few : (few many all : Held) (u : TxnId) (r : Rid) → few ++ many ≡ all → IsApartFrom few many → IsSome (lookup (same_rid r) few) → held_in few u r ≡ held_in all u r
held_few few many all u r view apart some = sym (held_left few many u r (apart r some u)) ∙ ap (λ (l : Held). held_in l u r) view

pub held_many : (few many all : Held) (u : TxnId) (r : Rid) → few ++ many ≡ all → lookup (same_rid r) few ≡ None → held_in many u r ≡ held_in all u r
held_many few many all u r view none = sym (held_right few many u r none) ∙ ap (λ (l : Held). held_in l u r) view

-- a lock that is lowered, in either part
pub lowered_few : (few few' many all : Held) (at : ℕ) (t : TxnId) (r : Rid) (to : Option Mode) → few ++ many ≡ all → IsApartFrom few many → IsPlace few r (Some at) → AddsNone few few'
    → ((d : Rid × Modes) → Changes few few' t (get_or few at d).0 to) → Changes all (few' ++ many) t r to
lowered_few few few' many all at t r to view apart place adds changed = subst (λ (l : Held). Changes l (few' ++ many) t r to) view
    (changes_left few few' many t r to apart adds (has_row few r at place) (subst (λ (z : Rid). Changes few few' t z to) (place.1 (r, [])) (changed (r, []))))

pub lowered_many : (few many many' all : Held) (t : TxnId) (r : Rid) (to : Option Mode) → few ++ many ≡ all → lookup (same_rid r) few ≡ None → Changes many many' t r to → Changes all (few ++ many') t r to
lowered_many few many many' all t r to view none changed = subst (λ (l : Held). Changes l (few ++ many') t r to) view (changes_right few many many' t r to none changed)

abbrev pub Raises : Held → Held → TxnId → Rid → Mode → Type 0
Raises old new t r mode = Changes old new t r (Some (raised (held_in old t r) mode))

-- a lock that is given or raised, in either part
pub raised_few : (few few' many all : Held) (at : ℕ) (t : TxnId) (r : Rid) (mode : Mode) → few ++ many ≡ all → IsApartFrom few many → IsPlace few r (Some at) → AddsNone few few'
    → ((d : Rid × Modes) → Raises few few' t (get_or few at d).0 mode) → Raises all (few' ++ many) t r mode
raised_few few few' many all at t r mode view apart place adds changed =
    subst (λ (l : Held). Changes l (few' ++ many) t r (Some (raised (held_in all t r) mode))) view
    (changes_left few few' many t r (Some (raised (held_in all t r) mode)) apart adds (has_row few r at place)
    (subst (λ (m : Option Mode). Changes few few' t r (Some (raised m mode))) (held_few few many all t r view apart (has_row few r at place))
    (subst (λ (z : Rid). Raises few few' t z mode) (place.1 (r, [])) (changed (r, [])))))

pub raised_many : (few many many' all : Held) (t : TxnId) (r : Rid) (mode : Mode) → few ++ many ≡ all → lookup (same_rid r) few ≡ None → Raises many many' t r mode → Raises all (few ++ many') t r mode
raised_many few many many' all t r mode view none changed = subst (λ (l : Held). Changes l (few ++ many') t r (Some (raised (held_in all t r) mode))) view
    (changes_right few many many' t r (Some (raised (held_in all t r) mode)) none
    (subst (λ (m : Option Mode). Changes many many' t r (Some (raised m mode))) (held_many few many all t r view none) changed))

pub added_few : (few new many all : Held) (t : TxnId) (r : Rid) (mode : Mode) → few ++ many ≡ all → lookup (same_rid r) few ≡ None → ((u : TxnId) → held_in many u r ≡ None)
    → new ≡ few ++ (r, (t, mode) ∷ []) ∷ [] → Raises all (new ++ many) t r mode
added_few few new many all t r mode view none nowhere is = subst (λ (l : Held). Raises all (l ++ many) t r mode) (sym is)
    (subst (λ (l : Held). Raises l ((few ++ (r, (t, mode) ∷ []) ∷ []) ++ many) t r mode) view (added few many t r mode none nowhere))

-- both parts are apart still after a call that gives a lock, or finds no memory
pub apart_after_add : {T E : Type 0} (o : Result T E) (few new many : Held) (r : Rid) (w : Modes) → lookup (same_rid r) few ≡ None → ((u : TxnId) → held_in many u r ≡ None) → IsApartFrom few many
    → OnOk o (new ≡ few ++ (r, w) ∷ []) → OnErr o (new ≡ few) → IsApartFrom new many
apart_after_add o few new many r w none nowhere apart ok err = by_outcome o _ _ (IsApartFrom new many) ok err
    (λ is. subst (λ (l : Held). IsApartFrom l many) (sym is) (apart_added few many r w none nowhere apart))
    (λ same. subst (λ (l : Held). IsApartFrom l many) (sym same) apart)

pub apart_after_put : {T E : Type 0} (o : Result T E) (few many many' : Held) (t : TxnId) (r : Rid) (mode : Mode) → lookup (same_rid r) few ≡ None → IsApartFrom few many
    → OnOk o (Raises many many' t r mode) → OnErr o (many' ≡ many) → IsApartFrom few many'
apart_after_put o few many many' t r mode none apart ok err = by_outcome o _ _ (IsApartFrom few many') ok err
    (λ put. apart_changed few many many' t r (Some (raised (held_in many t r) mode)) none put apart)
    (λ same. subst (λ (l : Held). IsApartFrom few l) (sym same) apart)

-- whoever stands in the way in the second part
pub stands_many : (few many all : Held) (t : TxnId) (wait : Wait) → few ++ many ≡ all → lookup (same_rid wait.rid) few ≡ None → (u : TxnId) → StandsIn many t wait u → StandsIn all t wait u
stands_many few many all t wait view none u s = record { other = s.other; mode = s.mode; holds = sym (held_many few many all u wait.rid view none) ∙ s.holds; clashes = s.clashes }

-- what is known of the locks after a call that gives one, or finds no memory
pub agree_after : {T E : Type 0} (r : Result T E) (old all new : Held) (t : TxnId) (wait : Wait) → old ≡ all → Agree old → ((u : TxnId) → StandsIn all t wait u → ⊥)
    → OnOk r (Raises all new t wait.rid wait.mode) → OnErr r (new ≡ all) → Agree new
agree_after r old all new t wait view agree free ok err = by_outcome r _ _ (Agree new) ok err
    (λ put. agree_raised all new t wait (subst (λ (l : Held). Agree l) view agree) free put)
    (λ same. subst (λ (l : Held). Agree l) (view ∙ sym same) agree)
