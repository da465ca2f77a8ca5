-- A format: what a reader takes is what is spelled, and what is spelled is read. It serves the laws of records.
use Rattle.std.proofs.Common.{◌≡◌, ℕ, ◌+◌, ◌<◌, Bool, true, cond, List, ◌++◌, get_or, take, drop, refl, sym, ap, subst, ◌∙◌, append_assoc, arith, inl, inr}
use Rattle.std.specs.Prelude.{Option, Some, None, option_map, option_and_then}
use Rattle.std.proofs.lemmas.Bool.{cases_lt}
use Rattle.std.proofs.lemmas.List.{length-take, get_or-drop, get_or-take, get_or_past}
use Rattle.std.proofs.lemmas.Option.{cond_some}
use Rattle.sd_logrec.specs.Reading.{Reader, ◌then◌, only, made}

abbrev pub IsBytes : List ℕ → Type 0
IsBytes bytes = (i : ℕ) → get_or bytes i 0 < 256

pub IsBytes-drop : (n : ℕ) (bytes : List ℕ) → IsBytes bytes → IsBytes (drop n bytes)
IsBytes-drop n bytes h i = rw get_or-drop (h (n + i))

pub IsBytes-take : (n : ℕ) (bytes : List ℕ) → IsBytes bytes → IsBytes (take n bytes)
IsBytes-take n bytes h i =
    elim (cases_lt i n) [
      | inl lt ↦ rw (get_or-take n bytes i 0 lt) (h i)
      | inr le ↦ rw (get_or_past (take n bytes) i 0 (omega (arith, length-take n bytes))) (omega arith)
    ]

-- what a reader took from the front
pub record Takes (text bytes rest : List ℕ) : Type 0 where
  pub parts : bytes ≡ text ++ rest
  pub rest_fits : IsBytes rest

pub Takes-then : (a x b y c : List ℕ) → Takes x a b → Takes y b c → Takes (x ++ y) a c
Takes-then a x b y c p q = record { parts = p.parts ∙ ap (λ (t : List ℕ). x ++ t) q.parts ∙ sym (append_assoc x y c); rest_fits = q.rest_fits }

pub record IsFormat (A : Type 0) (spell : A → List ℕ) (Fits : A → Type 0) (read : Reader A) : Type 0 where
  pub takes : (bytes : List ℕ) (x : A × List ℕ) → IsBytes bytes → read bytes ≡ Some x → Takes (spell x.0) bytes x.1 × Fits x.0
  pub again : (x : A) (rest : List ℕ) → Fits x → read (spell x ++ rest) ≡ Some (x, rest)

pub and_then_some : {A B : Type 0} (f : A → Option B) (o : Option A) (y : B) → option_and_then f o ≡ Some y → (x : A) × (o ≡ Some x) × (f x ≡ Some y)
and_then_some f (Some x) y e = (x, refl, e)
and_then_some f None y e = absurd (cc)

some_is : {A : Type 0} (x y : A) → ◌≡◌ {A = Option A} (Some x) (Some y) → x ≡ y
some_is x y e = cc

pub map_some : {A B : Type 0} (f : A → B) (o : Option A) (y : B) → option_map f o ≡ Some y → (x : A) × (o ≡ Some x) × (f x ≡ y)
map_some f (Some x) y e = (x, refl, some_is (f x) y e)
map_some f None y e = absurd (cc)

-- one format after another
then_takes : {A B : Type 0} (sa : A → List ℕ) (FA : A → Type 0) (ra : Reader A) (sb : B → List ℕ) (FB : B → Type 0) (rb : Reader B) → IsFormat A sa FA ra → IsFormat B sb FB rb
    → (bytes : List ℕ) (x : (A × B) × List ℕ) → IsBytes bytes → (ra then rb) bytes ≡ Some x → Takes (sa x.0.0 ++ sb x.0.1) bytes x.1 × (FA x.0.0 × FB x.0.1)
then_takes {A} {B} sa FA ra sb FB rb a b bytes x fits e =
    let p = and_then_some (λ (y : A × List ℕ). option_map (λ (z : B × List ℕ). ((y.0, z.0), z.1)) (rb y.1)) (ra bytes) x e in
    let q = map_some (λ (z : B × List ℕ). ((p.0.0, z.0), z.1)) (rb p.0.1) x p.2 in
    let s = a.takes bytes p.0 fits p.1 in
    let t = b.takes p.0.1 q.0 s.0.rest_fits q.1 in
    subst (λ (y : (A × B) × List ℕ). Takes (sa y.0.0 ++ sb y.0.1) bytes y.1 × (FA y.0.0 × FB y.0.1)) q.2 (Takes-then bytes (sa p.0.0) p.0.1 (sb q.0.0) q.0.1 s.0 t.0, (s.1, t.1))

pub then_is : {A B : Type 0} {sa : A → List ℕ} {FA : A → Type 0} {ra : Reader A} {sb : B → List ℕ} {FB : B → Type 0} {rb : Reader B} → IsFormat A sa FA ra → IsFormat B sb FB rb
    → IsFormat (A × B) (λ x. sa x.0 ++ sb x.1) (λ x. FA x.0 × FB x.1) (ra then rb)
then_is {A} {B} {sa} {FA} {ra} {sb} {FB} {rb} a b = record {
  takes = then_takes sa FA ra sb FB rb a b;
  again = λ x rest h. rw (append_assoc (sa x.0) (sb x.1) rest, a.again x.0 (sb x.1 ++ rest) h.0, b.again x.1 rest h.1) refl;
}

-- what passes a test
pub only_is : {A : Type 0} {s : A → List ℕ} {F : A → Type 0} {r : Reader A} (G : A → Type 0) (test : A → Bool) → IsFormat A s F r
    → ((x : A) → F x → test x ≡ true → G x) → ((x : A) → G x → F x × (test x ≡ true)) → IsFormat A s G (only test r)
only_is {A} {s} {F} {r} G test a there back = record {
  takes = λ bytes x fits e.
      let p = and_then_some (λ (y : A × List ℕ). cond (test y.0) (Some y) None) (r bytes) x e in
      let q = cond_some (test p.0.0) p.0 x p.2 in
      let t = a.takes bytes p.0 fits p.1 in
      subst (λ (y : A × List ℕ). Takes (s y.0) bytes y.1 × G y.0) q.1 (t.0, there p.0.0 t.1 q.0);
  again = λ x rest h. let both = back x h in rw (a.again x rest both.0, both.1) refl;
}

-- what is made of it, which can be taken apart again
pub made_is : {A B : Type 0} {s : A → List ℕ} {F : A → Type 0} {r : Reader A} (make : A → B) (back : B → A) → IsFormat A s F r
    → ((x : A) → back (make x) ≡ x) → ((y : B) → make (back y) ≡ y) → IsFormat B (λ y. s (back y)) (λ y. F (back y)) (made make r)
made_is {A} {B} {s} {F} {r} make back a left right = record {
  takes = λ bytes x fits e.
      let p = map_some (λ (y : A × List ℕ). (make y.0, y.1)) (r bytes) x e in
      let t = a.takes bytes p.0 fits p.1 in
      let one : Takes (s (back (make p.0.0))) bytes p.0.1 × F (back (make p.0.0)) = subst (λ (y : A). Takes (s y) bytes p.0.1 × F y) (sym (left p.0.0)) t in
      subst (λ (y : B × List ℕ). Takes (s (back y.0)) bytes y.1 × F (back y.0)) p.2 one;
  again = λ y rest h. rw (a.again (back y) rest h, right y) refl;
}
