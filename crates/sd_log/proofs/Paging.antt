-- One record more or less in the chains of pages, and the walk through one. It serves the goals of pages.rt.
use Rattle.std.proofs.Common.{◌≡◌, inl, inr, ℕ, suc, ◌+◌, ◌-◌, ◌<◌, ◌≤◌, Bool, true, false, ◌==◌, List, [], ◌∷◌, ◌++◌, length, take, drop, get_or, set, refl, sym, ap, ◌∙◌, subst, arith, append_assoc, eqb-true, eq-eqb, vec_len}
use Rattle.std.specs.Prelude.{Some, map, min, option_map, reverse, slice_get, if◌then◌else◌}
use Rattle.std.specs.Global.{Vec}
use Rattle.std.proofs.lemmas.List.{append-nil, drop-map, get_or-map, get_or-set_other, length-map, length-take, length-take-le, map-append, reverse-append, take-take, take_all}
use Rattle.std.proofs.lemmas.Bool.{cases_lt}
use Rattle.std.proofs.lemmas.Option.{slice_get-map}
use Rattle.std.proofs.Math.Seq.{take-length}
use Rattle.std.proofs.lemmas.Grind.{get_or-set_at}
use Rattle.sd_base.proofs.Lists.{slice_get-take}
use Rattle.sd_log.specs.ByPage.{places_of}
use Rattle.sd_log.specs.PagesInside.{AreLinked, IsPages, chain_of, last_of, lowered}
use Rattle.sd_log.specs.declared.pages.Link.{Link}
use Rattle.sd_log.specs.declared.pages.PageChains.TheInside.{Inside}
use Rattle.sd_log.proofs.Linked.{IsLast, chains-lower, ends, last-drop, last-le, last-more, linked-at, linked-drop, linked-less, linked-more}

-- the chains of links and one more
chains-more : (ls : List Link) (l : Link) → map chain_of (ls ++ l ∷ []) ≡ map chain_of ls ++ l.chain ∷ []
chains-more ls l = map-append chain_of ls (l ∷ [])

never : (x y : ℕ) → (y == x) ≡ false → x ≡ y → ⊥
never x y e same = let is = eq-eqb y x (sym same) in absurd (cc)

-- the ends of all chains, once one of them ends at a place more
ends_moved : (last : List ℕ) (chains : List ℕ) (y n : ℕ) → ((x : ℕ) → x < 1025 → get_or last x 0 ≡ last_of x 0 0 chains) → y < length last → n ≡ suc (length chains)
    → (x : ℕ) → x < 1025 → get_or (set last y n) x 0 ≡ last_of x 0 0 (chains ++ y ∷ [])
ends_moved last chains y n are within size x low = at (y == x) refl ∙ sym (last-more x 0 0 chains y)
  where
    at : (b : Bool) → (y == x) ≡ b → get_or (set last y n) x 0 ≡ (if y == x then suc (0 + length chains) else last_of x 0 0 chains)
    at true e =
        let count : n ≡ suc (0 + length chains) = omega (arith, size) in
        get_or-set_at last y x n 0 (sym (eqb-true y x e)) within ∙ count ∙ sym (ap (λ b. if b then suc (0 + length chains) else last_of x 0 0 chains) e)
    at false e = get_or-set_other last y x n 0 (never x y e) ∙ are x low ∙ sym (ap (λ b. if b then suc (0 + length chains) else last_of x 0 0 chains) e)

-- and back
ends_back : (last : List ℕ) (chains : List ℕ) (y n : ℕ) → ((x : ℕ) → x < 1025 → get_or last x 0 ≡ last_of x 0 0 (chains ++ y ∷ [])) → y < length last → n ≡ last_of y 0 0 chains
    → (x : ℕ) → x < 1025 → get_or (set last y n) x 0 ≡ last_of x 0 0 chains
ends_back last chains y n are within is x low = at (y == x) refl
  where
    at : (b : Bool) → (y == x) ≡ b → get_or (set last y n) x 0 ≡ last_of x 0 0 chains
    at true e = get_or-set_at last y x n 0 (sym (eqb-true y x e)) within ∙ is ∙ ap (λ z. last_of z 0 0 chains) (eqb-true y x e)
    at false e = get_or-set_other last y x n 0 (never x y e) ∙ are x low ∙ last-more x 0 0 chains y ∙ ap (λ b. if b then suc (0 + length chains) else last_of x 0 0 chains) e

pub pushed_pages : (p : Inside) (v : Vec Link) (w : Vec ℕ) (l : Link) → IsPages p → v.items ≡ p.links.items ++ l ∷ [] → vec_len v ≡ vec_len p.links + 1 → l.chain < 1025 → l.before ≡ get_or p.last.items l.chain 0
    → w.items ≡ set p.last.items l.chain (vec_len v) → vec_len w ≡ vec_len p.last → IsPages (record { last = w; links = v })
pushed_pages p v w l h e size low is written same =
    let heads = h.heads in
    let count : vec_len v ≡ suc (length (map chain_of p.links.items)) = omega (arith, size, p.links.ok.0, length-map p.links.items chain_of) in
    let chains : map chain_of v.items ≡ map chain_of p.links.items ++ l.chain ∷ [] = ap (map chain_of) e ∙ chains-more p.links.items l in
    record {
      heads = same ∙ h.heads;
      head_is = λ x less. ap (λ (ys : List ℕ). get_or ys x 0) written ∙ ends_moved p.last.items (map chain_of p.links.items) l.chain (vec_len v) h.head_is (omega (arith, p.last.ok.0)) count x less ∙ sym (ap (last_of x 0 0) chains);
      linked = subst (AreLinked []) (sym e) (linked-more [] p.links.items l h.linked low (is ∙ h.head_is l.chain low));
    }

pub popped_pages : (p : Inside) (v : Vec Link) (w : Vec ℕ) (l : Link) → IsPages p → p.links.items ≡ v.items ++ l ∷ [] → w.items ≡ set p.last.items l.chain l.before → vec_len w ≡ vec_len p.last → IsPages (record { last = w; links = v })
popped_pages p v w l h e written same =
    let heads = h.heads in
    let less = linked-less [] v.items l (subst (AreLinked []) e h.linked) in
    let low = less.1 in
    let chains : map chain_of p.links.items ≡ map chain_of v.items ++ l.chain ∷ [] = ap (map chain_of) e ∙ chains-more v.items l in
    record {
      heads = same ∙ h.heads;
      head_is = λ x small. ap (λ (ys : List ℕ). get_or ys x 0) written ∙ ends_back p.last.items (map chain_of v.items) l.chain l.before (λ y k. h.head_is y k ∙ ap (last_of y 0 0) chains) (omega (arith, low, p.last.ok.0)) less.2 x small;
      linked = less.0;
    }

pub popped_low : (p : Inside) (v : Vec Link) (l : Link) → IsPages p → p.links.items ≡ v.items ++ l ∷ [] → l.chain < vec_len p.last
popped_low p v l h e = let heads = h.heads in let low = (linked-less [] v.items l (subst (AreLinked []) e h.linked)).1 in omega (arith, low)

-- without the first records
pub forgot_chains : (p : Inside) (v : Vec Link) (n : ℕ) → v.items ≡ map (lowered n) (drop n p.links.items) → map chain_of v.items ≡ drop n (map chain_of p.links.items)
forgot_chains p v n links = ap (map chain_of) links ∙ chains-lower n (drop n p.links.items) ∙ sym (drop-map chain_of n p.links.items)

pub forgot_pages : (p : Inside) (v : Vec Link) (w : Vec ℕ) (n : ℕ) → IsPages p → n ≤ length p.links.items → v.items ≡ map (lowered n) (drop n p.links.items)
    → w.items ≡ map (λ k. k - n) p.last.items → vec_len w ≡ vec_len p.last → IsPages (record { last = w; links = v })
forgot_pages p v w n h le links ends same =
    let heads = h.heads in
    let chains : map chain_of v.items ≡ drop n (map chain_of p.links.items) = forgot_chains p v n links in
    record {
      heads = same ∙ h.heads;
      head_is = λ x low.
          ap (λ (ys : List ℕ). get_or ys x 0) ends ∙ get_or-map (λ k. k - n) p.last.items x 0 0 (omega (arith, p.last.ok.0)) ∙ ap (λ k. k - n) (h.head_is x low)
          ∙ sym (last-drop x n (map chain_of p.links.items) (omega (arith, length-map p.links.items chain_of))) ∙ ap (last_of x 0 0) (sym chains);
      linked = subst (AreLinked []) (sym links) (linked-drop n p.links.items le h.linked);
    }

-- The walk from a chain's end: what is found so far stands behind a front, and the chain's end in that front comes next.
pub record Walks (x at : ℕ) (chains found : List ℕ) : Type 0 where
  pub n : ℕ
  pub at_is : at ≡ last_of x 0 0 (take n chains)
  pub places : places_of x 0 chains ≡ places_of x 0 (take n chains) ++ reverse found

pub walk_begins : (x : ℕ) (chains : List ℕ) → Walks x (last_of x 0 0 chains) chains []
walk_begins x chains = record {
  n = length chains;
  at_is = ap (last_of x 0 0) (sym (take-length chains));
  places = ap (places_of x 0) (sym (take-length chains)) ∙ sym (append-nil (places_of x 0 (take (length chains) chains)));
}

pub walk_within : (x at : ℕ) (chains found : List ℕ) → Walks x at chains found → at ≤ length chains
walk_within x at chains found w =
    let less = last-le x (take w.n chains) in
    omega (arith, w.at_is, less, length-take w.n chains)

-- one step further
pub walk_on : (ls : List Link) (x at : ℕ) (found : List ℕ) (l : Link) → AreLinked [] ls → 0 < at → slice_get ls (at - 1) ≡ Some l → Walks x at (map chain_of ls) found
    → Walks x l.before (map chain_of ls) (found ++ (at - 1) ∷ []) × (l.before < at)
walk_on ls x at found l linked some here w = elim (ends x 0 0 (take w.n (map chain_of ls))) [
  | inl h ↦ absurd (omega (arith, w.at_is, h.1))
  | inr h ↦ step h
]
  where
    step : IsLast x 0 (last_of x 0 0 (take w.n (map chain_of ls))) (take w.n (map chain_of ls)) → Walks x l.before (map chain_of ls) (found ++ (at - 1) ∷ []) × (l.before < at)
    step h =
        let chains : List ℕ = map chain_of ls in
        let within = h.within in
        let less : h.k < w.n = omega (arith, within, length-take w.n chains) in
        let index : at - 1 ≡ h.k = omega (arith, w.at_is, h.last_is) in
        let item : slice_get chains h.k ≡ Some x = sym (slice_get-take chains w.n h.k less) ∙ h.item in
        let link : slice_get ls h.k ≡ Some l = ap (slice_get ls) (sym index) ∙ here in
        let read : slice_get chains h.k ≡ Some l.chain = slice_get-map chain_of ls h.k ∙ ap (option_map chain_of) link in
        let same : l.chain ≡ x = cc in
        let before : l.before ≡ last_of x 0 0 (take h.k chains) = linked-at [] ls h.k l linked link ∙ ap (λ z. last_of z 0 0 (take h.k chains)) same in
        let front : take h.k (take w.n chains) ≡ take h.k chains = take-take h.k w.n chains (omega arith) in
        let turned : reverse (found ++ (at - 1) ∷ []) ≡ (0 + h.k) ∷ reverse found = reverse-append found ((at - 1) ∷ []) ∙ ap (λ k. k ∷ reverse found) (index ∙ omega arith) in (
          record {
            n = h.k;
            at_is = before;
            places = w.places ∙ ap (λ (l : List ℕ). l ++ reverse found) (h.places ∙ ap (λ (l : List ℕ). places_of x 0 l ++ (0 + h.k) ∷ []) front)
                ∙ append_assoc (places_of x 0 (take h.k chains)) ((0 + h.k) ∷ []) (reverse found) ∙ ap (λ (l : List ℕ). places_of x 0 (take h.k chains) ++ l) (sym turned);
          },
          omega (arith, before, last-le x (take h.k chains), length-take h.k chains, index),
        )

pub walk_ends : (x at : ℕ) (chains found : List ℕ) → Walks x at chains found → at ≡ 0 → reverse found ≡ places_of x 0 chains
walk_ends x at chains found w none = elim (ends x 0 0 (take w.n chains)) [
  | inl h ↦ sym (w.places ∙ ap (λ (l : List ℕ). l ++ reverse found) h.0)
  | inr h ↦ absurd (omega (arith, w.at_is, h.last_is))
]

-- ---- a front

-- what is left of a list once its last items are gone, one after the other
pub record IsFront (count : ℕ) (xs ys : List ℕ) : Type 0 where
  pub front : xs ≡ take (length xs) ys
  pub least : min count (length ys) ≤ length xs
  pub within : length xs ≤ length ys

pub front_whole : (count : ℕ) (ys : List ℕ) → IsFront count ys ys
front_whole count ys = record { front = sym (take-length ys); least = omega arith; within = omega arith }

pub front_less : (count : ℕ) (xs ys zs : List ℕ) → IsFront count xs ys → count < length xs → zs ≡ take (length xs - 1) xs → IsFront count zs ys
front_less count xs ys zs h more e =
    let size : length zs ≡ length xs - 1 = ap length e ∙ length-take-le (length xs - 1) xs (omega arith) in
    let within = h.within in
    record {
      front = e ∙ ap (take (length xs - 1)) h.front ∙ take-take (length xs - 1) (length xs) ys (omega arith) ∙ ap (λ n. take n ys) (sym size);
      least = omega arith;
      within = omega arith;
    }

pub front_is : (count : ℕ) (xs ys : List ℕ) → IsFront count xs ys → length xs ≤ count → xs ≡ take count ys
front_is count xs ys h few = elim (cases_lt count (length ys)) [
  | inl lt ↦ let least = h.least in let size : length xs ≡ count = omega arith in h.front ∙ ap (λ n. take n ys) size
  | inr le ↦ let least = h.least in let within = h.within in let size : length xs ≡ length ys = omega arith in h.front ∙ ap (λ n. take n ys) size ∙ take-length ys ∙ sym (take_all count ys le)
]
