-- Chains of records through a list: their ends, and the steps from one to the one before. It serves the goals of pages.rt.
use Rattle.std.proofs.Common.{◌≡◌, ◌⊎◌, inl, inr, eqb-true, ℕ, zero, suc, ◌+◌, ◌-◌, ◌<◌, ◌≤◌, Bool, true, false, ◌==◌, List, [], ◌∷◌, ◌++◌, length, take, drop, refl, sym, ap, ◌∙◌, subst, arith, append_assoc, length-append}
use Rattle.std.proofs.lemmas.List.{append-nil, drop-append-le, drop_all, length-map, length-take-le, take-append-drop}
use Rattle.std.specs.Prelude.{Some, map, slice_get, if◌then◌else◌}
use Rattle.sd_log.specs.ByPage.{places_of}
use Rattle.sd_log.specs.PagesInside.{AreLinked, chain_of, last_of, lowered}
use Rattle.sd_log.specs.declared.pages.Link.{Link}

-- the end of a chain, with one more record behind
pub last-more : (x found n : ℕ) (ys : List ℕ) (y : ℕ) → last_of x found n (ys ++ y ∷ []) ≡ (if y == x then suc (n + length ys) else last_of x found n ys)
last-more x found n [] y = let none : n ≡ n + 0 = omega arith in ap (λ k. if y == x then suc k else found) none
last-more x found n (z ∷ ys) y =
    let place : suc n + length ys ≡ n + length (z ∷ ys) = omega arith in
    last-more x (if z == x then suc n else found) (suc n) ys y ∙ ap (λ k. if y == x then suc k else last_of x (if z == x then suc n else found) (suc n) ys) place

-- The end of a chain, where the first item has index n: none stands there and it is what was found before, or it is one
-- more than the index of the last of them.
pub record IsLast (x n last : ℕ) (ys : List ℕ) : Type 0 where
  pub k : ℕ
  pub within : k < length ys
  pub last_is : last ≡ suc (n + k)
  pub item : slice_get ys k ≡ Some x
  pub places : places_of x n ys ≡ places_of x n (take k ys) ++ (n + k) ∷ []

-- what is found of a chain in a list
abbrev pub Ends : ℕ → ℕ → ℕ → List ℕ → Type 0
Ends x found n ys = ((places_of x n ys ≡ []) × (last_of x found n ys ≡ found)) ⊎ IsLast x n (last_of x found n ys) ys

-- an item that isn't the last
ends_later : (x found n y last : ℕ) (ys before : List ℕ) → IsLast x (suc n) last ys → last_of x found n (y ∷ ys) ≡ last → ((zs : List ℕ) → places_of x n (y ∷ zs) ≡ before ++ places_of x (suc n) zs)
    → IsLast x n (last_of x found n (y ∷ ys)) (y ∷ ys)
ends_later x found n y last ys before h e places =
    let less = h.within in
    let sum : suc n + h.k ≡ n + suc h.k = omega arith in
    record {
      k = suc h.k;
      within = omega arith;
      last_is = e ∙ h.last_is ∙ ap suc sum;
      item = h.item;
      places = places ys ∙ ap (λ (l : List ℕ). before ++ l) h.places ∙ sym (append_assoc before (places_of x (suc n) (take h.k ys)) ((suc n + h.k) ∷ []))
          ∙ ap (λ (l : List ℕ). l ++ (suc n + h.k) ∷ []) (sym (places (take h.k ys))) ∙ ap (λ j. places_of x n (y ∷ take h.k ys) ++ j ∷ []) sum;
    }

ends_step : (b : Bool) (x found n y : ℕ) (ys : List ℕ) → (y == x) ≡ b → ((f : ℕ) → Ends x f (suc n) ys) → Ends x found n (y ∷ ys)
ends_step true x found n y ys e rest =
    let places : (zs : List ℕ) → places_of x n (y ∷ zs) ≡ n ∷ places_of x (suc n) zs = λ zs. ap (λ b. if b then n ∷ places_of x (suc n) zs else places_of x (suc n) zs) e in
    let last : last_of x found n (y ∷ ys) ≡ last_of x (suc n) (suc n) ys = ap (λ b. last_of x (if b then suc n else found) (suc n) ys) e in
    let here : n + 0 ≡ n = omega arith in
    elim (rest (suc n)) [
      | inl h ↦ inr (record {
        k = 0;
        within = omega arith;
        last_is = last ∙ h.1 ∙ ap suc (sym here);
        item = ap Some (eqb-true y x e);
        places = places ys ∙ ap (λ (l : List ℕ). n ∷ l) h.0 ∙ ap (λ k. k ∷ []) (sym here);
      })
      | inr h ↦ inr (ends_later x found n y (last_of x (suc n) (suc n) ys) ys (n ∷ []) h last places)
    ]
ends_step false x found n y ys e rest =
    let places : (zs : List ℕ) → places_of x n (y ∷ zs) ≡ places_of x (suc n) zs = λ zs. ap (λ b. if b then n ∷ places_of x (suc n) zs else places_of x (suc n) zs) e in
    let last : last_of x found n (y ∷ ys) ≡ last_of x found (suc n) ys = ap (λ b. last_of x (if b then suc n else found) (suc n) ys) e in
    elim (rest found) [
      | inl h ↦ inl (places ys ∙ h.0, last ∙ h.1)
      | inr h ↦ inr (ends_later x found n y (last_of x found (suc n) ys) ys [] h last places)
    ]

pub ends : (x found n : ℕ) (ys : List ℕ) → Ends x found n ys
ends x found n [] = inl (refl, refl)
ends x found n (y ∷ ys) = ends_step (y == x) x found n y ys refl (λ f. ends x f (suc n) ys)

-- no chain ends behind the list
pub last-le : (x : ℕ) (ys : List ℕ) → last_of x 0 0 ys ≤ length ys
last-le x ys = elim (ends x 0 0 ys) [
  | inl h ↦ omega (arith, h.1)
  | inr h ↦ let less = h.within in omega (arith, h.last_is)
]

-- ---- links

pub linked-more : (done : List ℕ) (ls : List Link) (l : Link) → AreLinked done ls → l.chain < 1025 → l.before ≡ last_of l.chain 0 0 (done ++ map chain_of ls) → AreLinked done (ls ++ l ∷ [])
linked-more done [] l h low e = (low, e ∙ ap (last_of l.chain 0 0) (append-nil done), tt)
linked-more done (m ∷ ls) l h low e = (h.0, h.1, linked-more (done ++ m.chain ∷ []) ls l h.2 low (e ∙ ap (last_of l.chain 0 0) (sym (append_assoc done (m.chain ∷ []) (map chain_of ls)))))

pub linked-less : (done : List ℕ) (ls : List Link) (l : Link) → AreLinked done (ls ++ l ∷ []) → AreLinked done ls × (l.chain < 1025) × (l.before ≡ last_of l.chain 0 0 (done ++ map chain_of ls))
linked-less done [] l h = (tt, h.0, h.1 ∙ ap (last_of l.chain 0 0) (sym (append-nil done)))
linked-less done (m ∷ ls) l h =
    let rest = linked-less (done ++ m.chain ∷ []) ls l h.2 in
    ((h.0, h.1, rest.0), rest.1, rest.2 ∙ ap (last_of l.chain 0 0) (append_assoc done (m.chain ∷ []) (map chain_of ls)))

pub linked-at : (done : List ℕ) (ls : List Link) (k : ℕ) (l : Link) → AreLinked done ls → slice_get ls k ≡ Some l → l.before ≡ last_of l.chain 0 0 (done ++ take k (map chain_of ls))
linked-at done [] k l h e = absurd (cc)
linked-at done (m ∷ ls) zero l h e = let same : m ≡ l = cc in subst (λ (x : Link). x.before ≡ last_of x.chain 0 0 (done ++ [])) same (h.1 ∙ ap (last_of m.chain 0 0) (sym (append-nil done)))
linked-at done (m ∷ ls) (suc k) l h e = linked-at (done ++ m.chain ∷ []) ls k l h.2 e ∙ ap (last_of l.chain 0 0) (append_assoc done (m.chain ∷ []) (take k (map chain_of ls)))

-- ---- without the first records

last-both : (x found k : ℕ) (xs ys : List ℕ) → last_of x found k (xs ++ ys) ≡ last_of x (last_of x found k xs) (k + length xs) ys
last-both x found k [] ys = let none : k ≡ k + 0 = omega arith in ap (λ n. last_of x found n ys) none
last-both x found k (z ∷ xs) ys =
    let next : ℕ = if z == x then suc k else found in
    let place : suc k + length xs ≡ k + length (z ∷ xs) = omega arith in
    last-both x next (suc k) xs ys ∙ ap (λ n. last_of x (last_of x next (suc k) xs) n ys) place

last-lower : (x found k n : ℕ) (ys : List ℕ) → last_of x (found - n) k ys ≡ last_of x found (k + n) ys - n
last-lower x found k n [] = refl
last-lower x found k n (y ∷ ys) =
    let place : suc k + n ≡ suc (k + n) = omega arith in
    ap (λ f. last_of x f (suc k) ys) (either (y == x)) ∙ last-lower x (if y == x then suc (k + n) else found) (suc k) n ys
    ∙ ap (λ m. last_of x (if y == x then suc (k + n) else found) m ys - n) place
  where
    either : (b : Bool) → (if b then suc k else found - n) ≡ (if b then suc (k + n) else found) - n
    either true = omega arith
    either false = refl

-- the end of a chain, once so many records in front are gone
pub last-drop : (x n : ℕ) (ys : List ℕ) → n ≤ length ys → last_of x 0 0 (drop n ys) ≡ last_of x 0 0 ys - n
last-drop x n ys le =
    let front : List ℕ = take n ys in
    let size : length front ≡ n = length-take-le n ys le in
    let low = last-le x front in
    let none : 0 ≡ last_of x 0 0 front - n = omega arith in
    ap (λ f. last_of x f 0 (drop n ys)) none ∙ last-lower x (last_of x 0 0 front) 0 n (drop n ys)
    ∙ ap (λ k. last_of x (last_of x 0 0 front) (0 + k) (drop n ys) - n) (sym size)
    ∙ ap (λ m. m - n) (sym (last-both x 0 0 front (drop n ys)) ∙ ap (last_of x 0 0) (take-append-drop n ys))

linked-behind : (n : ℕ) (done : List ℕ) (ls : List Link) → AreLinked done ls → AreLinked (done ++ map chain_of (take n ls)) (drop n ls)
linked-behind zero done ls h = subst (λ (d : List ℕ). AreLinked d ls) (sym (append-nil done)) h
linked-behind (suc n) done [] h = tt
linked-behind (suc n) done (l ∷ ls) h =
    subst (λ (d : List ℕ). AreLinked d (drop n ls)) (append_assoc done (l.chain ∷ []) (map chain_of (take n ls))) (linked-behind n (done ++ l.chain ∷ []) ls h.2)

linked-lower : (n : ℕ) (done : List ℕ) (ls : List Link) → n ≤ length done → AreLinked done ls → AreLinked (drop n done) (map (lowered n) ls)
linked-lower n done [] le h = tt
linked-lower n done (l ∷ ls) le h = (
  h.0,
  ap (λ k. k - n) h.1 ∙ sym (last-drop l.chain n done le),
  subst (λ (d : List ℕ). AreLinked d (map (lowered n) ls)) (drop-append-le n done (l.chain ∷ []) le)
      (linked-lower n (done ++ l.chain ∷ []) ls (omega (arith, length-append done (l.chain ∷ []))) h.2),
)

pub linked-drop : (n : ℕ) (ls : List Link) → n ≤ length ls → AreLinked [] ls → AreLinked [] (map (lowered n) (drop n ls))
linked-drop n ls le h =
    let front : List ℕ = map chain_of (take n ls) in
    let size : length front ≡ n = length-map (take n ls) chain_of ∙ length-take-le n ls le in
    subst (λ (d : List ℕ). AreLinked d (map (lowered n) (drop n ls))) (drop_all n front (omega arith))
    (linked-lower n front (drop n ls) (omega arith) (linked-behind n [] ls h))

pub chains-lower : (n : ℕ) (ls : List Link) → map chain_of (map (lowered n) ls) ≡ map chain_of ls
chains-lower n [] = refl
chains-lower n (l ∷ ls) = ap (λ (cs : List ℕ). l.chain ∷ cs) (chains-lower n ls)
