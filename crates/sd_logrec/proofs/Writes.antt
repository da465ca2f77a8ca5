-- Writing the items of a list one after the other. It serves the goals of put.rt.
use Rattle.std.proofs.Common.{◌≡◌, ℕ, ◌+◌, ◌<◌, List, [], ◌∷◌, ◌++◌, length, get_or, take, sym, ap, subst, ◌∙◌, append_assoc, arith, length-append}
use Rattle.std.specs.Global.{Vec}
use Rattle.std.specs.List.{flat_map}
use Rattle.std.proofs.lemmas.List.{flat_map_more, take_more, append-nil}
use Rattle.std.proofs.lemmas.List.Folds.{length-flat_map-take}
use Rattle.sd_base.specs.declared.ids.TxnId.{TxnId}
use Rattle.sd_logrec.specs.Spelling.{one, two, four, eight, row, transaction}
use Rattle.sd_logrec.specs.Writing.{HasRoom, Appends}

-- there is room for the next item
pub room_for : {A : Type 0} (f : A → List ℕ) (head : List ℕ) (xs : List A) (i : ℕ) (x : A) (old mid : Vec ℕ) → i < length xs → x ≡ get_or xs i x
    → HasRoom old (head ++ flat_map f xs) → Appends old mid (head ++ flat_map f (take i xs)) → HasRoom mid (f x)
room_for {A} f head xs i x old mid lt is room p =
    let whole = length-append head (flat_map f xs) in
    let part = length-append head (flat_map f (take i xs)) in
    let fits = length-flat_map-take f xs i x lt in
    let here : length (f x) ≡ length (f (get_or xs i x)) = ap (λ (y : A). length (f y)) is in
    omega (arith, whole, part, fits, here, room, p.len, p.capacity)

-- the next item is written
pub one_more : {A : Type 0} (f : A → List ℕ) (head : List ℕ) (xs : List A) (i : ℕ) (x : A) (old mid new : Vec ℕ) → i < length xs → x ≡ get_or xs i x
    → Appends old mid (head ++ flat_map f (take i xs)) → Appends mid new (f x) → Appends old new (head ++ flat_map f (take (i + 1) xs))
one_more {A} f head xs i x old mid new lt is p q =
    let front = head ++ flat_map f (take i xs) in
    let taken : take i xs ++ x ∷ [] ≡ take (i + 1) xs = ap (λ (y : A). take i xs ++ y ∷ []) is ∙ sym (take_more xs i x lt) in
    let piece : front ++ f x ≡ head ++ flat_map f (take (i + 1) xs) = flat_map_more f head (take i xs) x ∙ ap (λ (l : List A). head ++ flat_map f l) taken in
    record {
      items = q.items ∙ ap (λ (l : List ℕ). l ++ f x) p.items ∙ append_assoc old.items front (f x) ∙ ap (λ (l : List ℕ). old.items ++ l) piece;
      len = omega (arith, ap length piece, length-append front (f x), p.len, q.len);
      capacity = omega (arith, p.capacity, q.capacity);
    }

-- nothing of the list is written yet
pub none_yet : {A : Type 0} (f : A → List ℕ) (head : List ℕ) (xs : List A) (old new : Vec ℕ) → Appends old new head → Appends old new (head ++ flat_map f (take 0 xs))
none_yet f head xs old new p = record {
  items = p.items ∙ ap (λ (l : List ℕ). old.items ++ l) (sym (append-nil head));
  len = omega (arith, p.len, ap length (append-nil head));
  capacity = p.capacity;
}

-- one piece behind another
pub appends_then : (a b c : Vec ℕ) (p q : List ℕ) → Appends a b p → Appends b c q → Appends a c (p ++ q)
appends_then a b c p q x y = record {
  items = y.items ∙ ap (λ (l : List ℕ). l ++ q) x.items ∙ append_assoc a.items p q;
  len = omega (arith, length-append p q, x.len, y.len);
  capacity = omega (arith, x.capacity, y.capacity);
}

-- where two pieces have room, the first has, and once it is written the second has
pub room_first : (a : Vec ℕ) (p q : List ℕ) → HasRoom a (p ++ q) → HasRoom a p
room_first a p q room = omega (arith, length-append p q, room)

pub room_then : (a b : Vec ℕ) (p q : List ℕ) → Appends a b p → HasRoom a (p ++ q) → HasRoom b q
room_then a b p q x room = omega (arith, length-append p q, x.len, x.capacity, room)

-- the fields behind what each record of a transaction begins with
pub head_then : (type lsn : ℕ) (txn : TxnId) (prev : ℕ) (fields : List ℕ)
    → row type lsn (transaction txn ++ eight prev) ++ fields ≡ row type lsn (transaction txn ++ (eight prev ++ fields))
head_then type lsn txn prev fields =
    let t : List ℕ = transaction txn in
    let p : List ℕ = eight prev in
    append_assoc (one type) (eight lsn ++ (t ++ p)) fields
    ∙ ap (λ (l : List ℕ). one type ++ l) (append_assoc (eight lsn) (t ++ p) fields ∙ ap (λ (l : List ℕ). eight lsn ++ l) (append_assoc t p fields))

pub appends_head : (a b c : Vec ℕ) (type lsn : ℕ) (txn : TxnId) (prev : ℕ) (fields : List ℕ) → Appends a b (row type lsn (transaction txn ++ eight prev)) → Appends b c fields
    → Appends a c (row type lsn (transaction txn ++ (eight prev ++ fields)))
appends_head a b c type lsn txn prev fields x y =
    subst (Appends a c) (head_then type lsn txn prev fields)
    (appends_then a b c (row type lsn (transaction txn ++ eight prev)) fields x y)

pub room_head : (a : Vec ℕ) (type lsn : ℕ) (txn : TxnId) (prev : ℕ) (fields : List ℕ)
    → HasRoom a (row type lsn (transaction txn ++ (eight prev ++ fields))) → HasRoom a (row type lsn (transaction txn ++ eight prev) ++ fields)
room_head a type lsn txn prev fields = subst (HasRoom a) (sym (head_then type lsn txn prev fields))

-- the values behind the place of a change
pub place_then : (page slot capacity : ℕ) (values : List ℕ)
    → (four page ++ (two slot ++ two capacity)) ++ values ≡ four page ++ (two slot ++ (two capacity ++ values))
place_then page slot capacity values =
    append_assoc (four page) (two slot ++ two capacity) values
    ∙ ap (λ (l : List ℕ). four page ++ l) (append_assoc (two slot) (two capacity) values)

pub appends_place : (a b c : Vec ℕ) (page slot capacity : ℕ) (values : List ℕ) → Appends a b (four page ++ (two slot ++ two capacity)) → Appends b c values
    → Appends a c (four page ++ (two slot ++ (two capacity ++ values)))
appends_place a b c page slot capacity values x y =
    subst (Appends a c) (place_then page slot capacity values)
    (appends_then a b c (four page ++ (two slot ++ two capacity)) values x y)

pub room_place : (a : Vec ℕ) (page slot capacity : ℕ) (values : List ℕ)
    → HasRoom a (four page ++ (two slot ++ (two capacity ++ values))) → HasRoom a ((four page ++ (two slot ++ two capacity)) ++ values)
room_place a page slot capacity values = subst (HasRoom a) (sym (place_then page slot capacity values))

-- the fields behind a type and an LSN
pub row_then : (type lsn : ℕ) (fields : List ℕ) → (one type ++ eight lsn) ++ fields ≡ row type lsn fields
row_then type lsn fields = append_assoc (one type) (eight lsn) fields

pub appends_row : (a b c : Vec ℕ) (type lsn : ℕ) (fields : List ℕ) → Appends a b (one type ++ eight lsn) → Appends b c fields → Appends a c (row type lsn fields)
appends_row a b c type lsn fields x y = subst (Appends a c) (row_then type lsn fields) (appends_then a b c (one type ++ eight lsn) fields x y)

pub room_row : (a : Vec ℕ) (type lsn : ℕ) (fields : List ℕ) → HasRoom a (row type lsn fields) → HasRoom a ((one type ++ eight lsn) ++ fields)
room_row a type lsn fields = subst (HasRoom a) (sym (row_then type lsn fields))
