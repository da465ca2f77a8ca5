-- Loops over lists of changes. It serves the goals of standing.rt and values.rt.
use Rattle.std.proofs.Common.{◌≡◌, ℕ, suc, ◌+◌, ◌<◌, Bool, true, false, cond, eqb, ◌&&◌, List, [], ◌∷◌, ◌++◌, length, drop, get_or, refl, sym, ap, ◌∙◌, add-one, drop-cons, append_assoc, Option, Some}
use Rattle.std.specs.Cmp.Lexicographic.{pointwise}
use Rattle.sd_base.specs.declared.ids.TxnId.{TxnId}
use Rattle.sd_base.specs.declared.ids.Rid.{Rid}
use Rattle.sd_base.specs.Ids.{same_txn, same_rid}
use Rattle.sd_model.specs.Words.{same_word}
use Rattle.sd_model.specs.Tables.{Content, contents}
use Rattle.sd_model.specs.Changes.{mark_of, with_mark}

pub drop-next : {A : Type 0} (xs : List A) (k : ℕ) (x : A) → k < length xs → x ≡ get_or xs k x → drop k xs ≡ x ∷ drop (k + 1) xs
drop-next xs k x lt is = drop-cons xs k x lt ∙ (ap (λ y. y ∷ drop (suc k) xs) (sym is) ∙ ap (λ n. x ∷ drop n xs) (sym (add-one k)))

-- one step of a loop that goes over a list from its front
pub fold-next : {A S B : Type 0} (go : S → List A → B) (step : S → A → S) → ((s : S) (x : A) (xs : List A) → go s (x ∷ xs) ≡ go (step s x) xs)
    → (s new : S) (x : A) (xs : List A) (k : ℕ) (whole : B) → k < length xs → x ≡ get_or xs k x → step s x ≡ new → go s (drop k xs) ≡ whole → go new (drop (k + 1) xs) ≡ whole
fold-next go step law s new x xs k whole lt is moved e =
    ap (λ t. go t (drop (k + 1) xs)) (sym moved) ∙ (sym (law s x (drop (k + 1) xs)) ∙ (ap (go s) (sym (drop-next xs k x lt is)) ∙ e))

-- where the loop has come to the end of its list
pub drop-all : {A : Type 0} (xs : List A) → drop (length xs) xs ≡ []
drop-all [] = refl
drop-all (x ∷ xs) = drop-all xs

pub same_rid-test : (a b : Rid) (t : Bool) → t ≡ (eqb a.page b.page && eqb a.slot b.slot) → same_rid a b ≡ t
unfolding same_rid
same_rid-test a b t e = sym e

pub same_txn-test : (a b : TxnId) (t : Bool) → t ≡ (eqb a.inst b.inst && (eqb a.epoch b.epoch && eqb a.seq b.seq)) → same_txn a b ≡ t
unfolding same_txn
same_txn-test a b t e = sym e

-- what the code's test of two words says
pub word-test : (xs ys : List ℕ) → pointwise eqb xs ys ≡ same_word xs ys
word-test [] [] = refl
word-test [] (y ∷ ys) = refl
word-test (x ∷ xs) [] = refl
word-test (x ∷ xs) (y ∷ ys) = ap (λ b. eqb x y && b) (word-test xs ys)

-- one step of a search for a mark
mark-step : (k : List ℕ) (x : List ℕ × ℕ) (marks : List (List ℕ × ℕ)) (b : Bool) → same_word k x.0 ≡ b → mark_of k (x ∷ marks) ≡ cond {A = Option ℕ} b (Some x.1) (mark_of k marks)
mark-step k x marks b e = ap (λ t. cond {A = Option ℕ} t (Some x.1) (mark_of k marks)) e

pub mark-here : (k : List ℕ) (xs : List (List ℕ × ℕ)) (n : ℕ) (x : List ℕ × ℕ) → n < length xs → x ≡ get_or xs n x → same_word k x.0 ≡ true → mark_of k (drop n xs) ≡ mark_of k xs → Some x.1 ≡ mark_of k xs
mark-here k xs n x lt is same e = sym (ap (mark_of k) (drop-next xs n x lt is) ∙ mark-step k x (drop (n + 1) xs) true same) ∙ e

pub mark-next : (k : List ℕ) (xs : List (List ℕ × ℕ)) (n : ℕ) (x : List ℕ × ℕ) → n < length xs → x ≡ get_or xs n x → same_word k x.0 ≡ false → mark_of k (drop n xs) ≡ mark_of k xs → mark_of k (drop (n + 1) xs) ≡ mark_of k xs
mark-next k xs n x lt is same e = sym (ap (mark_of k) (drop-next xs n x lt is) ∙ mark-step k x (drop (n + 1) xs) false same) ∙ e

-- one step of a search for a row
row-step : (r : Rid) (x : Rid × List ℕ) (rows : List (Rid × List ℕ)) (b : Bool) → same_rid r x.0 ≡ b → contents (x ∷ rows) r ≡ cond {A = Content} b (Some x.1) (contents rows r)
row-step r x rows b e = ap (λ t. cond {A = Content} t (Some x.1) (contents rows r)) e

pub row-here : (r : Rid) (xs : List (Rid × List ℕ)) (n : ℕ) (x : Rid × List ℕ) → n < length xs → x ≡ get_or xs n x → same_rid r x.0 ≡ true → contents (drop n xs) r ≡ contents xs r → Some x.1 ≡ contents xs r
row-here r xs n x lt is same e = sym (ap (λ l. contents l r) (drop-next xs n x lt is) ∙ row-step r x (drop (n + 1) xs) true same) ∙ e

pub row-next : (r : Rid) (xs : List (Rid × List ℕ)) (n : ℕ) (x : Rid × List ℕ) → n < length xs → x ≡ get_or xs n x → same_rid r x.0 ≡ false → contents (drop n xs) r ≡ contents xs r → contents (drop (n + 1) xs) r ≡ contents xs r
row-next r xs n x lt is same e = sym (ap (λ l. contents l r) (drop-next xs n x lt is) ∙ row-step r x (drop (n + 1) xs) false same) ∙ e

-- a mark is set: the first of its name is replaced, and the others stay
pub set-later : {A : Type 0} (xs whole all new : List A) (i : ℕ) (x y : A) → i < length xs → x ≡ get_or xs i x → new ≡ all ++ y ∷ [] → y ≡ x → whole ≡ all ++ drop i xs → whole ≡ new ++ drop (i + 1) xs
set-later xs whole all new i x y lt is e same inv = inv ∙ (ap (λ l. all ++ l) (drop-next xs i x lt is ∙ ap (λ z. z ∷ drop (i + 1) xs) (sym same)) ∙ (sym (append_assoc all (y ∷ []) (drop (i + 1) xs)) ∙ ap (λ l. l ++ drop (i + 1) xs) (sym e)))

set-word : (k : List ℕ) (n : ℕ) (x : List ℕ × ℕ) (xs : List (List ℕ × ℕ)) (b : Bool) → same_word k x.0 ≡ b → with_mark k n (x ∷ xs) ≡ cond {A = List (List ℕ × ℕ)} b ((k, n) ∷ xs) (x ∷ with_mark k n xs)
set-word k n x xs b e = ap (λ t. cond {A = List (List ℕ × ℕ)} t ((k, n) ∷ xs) (x ∷ with_mark k n xs)) e

pub set-here : (k : List ℕ) (n : ℕ) (xs whole all new : List (List ℕ × ℕ)) (i : ℕ) (x y : List ℕ × ℕ) → i < length xs → x ≡ get_or xs i x → same_word k x.0 ≡ true → new ≡ all ++ y ∷ [] → y ≡ (k, n) → whole ≡ all ++ with_mark k n (drop i xs) → whole ≡ new ++ drop (i + 1) xs
set-here k n xs whole all new i x y lt is word e same inv =
    inv ∙ (ap (λ l. all ++ l) (ap (with_mark k n) (drop-next xs i x lt is) ∙ (set-word k n x (drop (i + 1) xs) true word ∙ ap (λ z. z ∷ drop (i + 1) xs) (sym same))) ∙ (sym (append_assoc all (y ∷ []) (drop (i + 1) xs)) ∙ ap (λ l. l ++ drop (i + 1) xs) (sym e)))

pub set-next : (k : List ℕ) (n : ℕ) (xs whole all new : List (List ℕ × ℕ)) (i : ℕ) (x y : List ℕ × ℕ) → i < length xs → x ≡ get_or xs i x → same_word k x.0 ≡ false → new ≡ all ++ y ∷ [] → y ≡ x → whole ≡ all ++ with_mark k n (drop i xs) → whole ≡ new ++ with_mark k n (drop (i + 1) xs)
set-next k n xs whole all new i x y lt is word e same inv =
    inv ∙ (ap (λ l. all ++ l) (ap (with_mark k n) (drop-next xs i x lt is) ∙ (set-word k n x (drop (i + 1) xs) false word ∙ ap (λ z. z ∷ with_mark k n (drop (i + 1) xs)) (sym same))) ∙ (sym (append_assoc all (y ∷ []) (with_mark k n (drop (i + 1) xs))) ∙ ap (λ l. l ++ with_mark k n (drop (i + 1) xs)) (sym e)))

pub set-joined : {A : Type 0} (whole new all rest more : List A) (b t : Bool) → all ≡ new → b ≡ t → whole ≡ new ++ cond {A = List A} t rest more → whole ≡ all ++ cond {A = List A} b rest more
set-joined {A} whole new all rest more b t e f h = h ∙ (ap (λ l. l ++ cond {A = List A} t rest more) (sym e) ∙ ap (λ c. all ++ cond {A = List A} c rest more) (sym f))

pub word-is : (k j a b : List ℕ) (t u : Bool) → a ≡ k → b ≡ j → t ≡ pointwise eqb a b → t ≡ u → same_word k j ≡ u
word-is k j a b t u ea eb e f = ap (λ l. same_word l j) (sym ea) ∙ (ap (same_word a) (sym eb) ∙ (sym (word-test a b) ∙ (sym e ∙ f)))
