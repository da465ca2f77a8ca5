-- What a table of places keeps when a place is written. It serves table.rt and noted.rt.
use Rattle.std.proofs.Common.{◌≡◌, ⊎_elim, ℕ, zero, suc, ◌<◌, List, length, get_or, replicate, refl, sym, ap, ◌∙◌, subst, arith}
use Rattle.std.specs.Prelude.{slice_set}
use Rattle.std.proofs.lemmas.Bool.{cases_eq}
use Rattle.std.proofs.lemmas.List.{get_or-set_other, length-set, length-replicate}
use Rattle.std.proofs.lemmas.Grind.{get_or-set_at}
use Rattle.sd_base.specs.declared.place.Place as coded
use Rattle.sd_base.specs.declared.place.Place.TheVariants as variants
use Rattle.sd_pagelock.specs.Places.{seen, Formed, InRange}
use Rattle.sd_pagelock.specs.Table.{AreKept, lost_among}
use Rattle.sd_pagelock.proofs.Counts.{none_counted}

-- what holds of one item and of all others
each : {X : Type 0} (P : ℕ → X → Type 0) (xs : List X) (i : ℕ) (x d : X) → i < length xs → P i x → ((q : ℕ) → P q (get_or xs q d)) → (q : ℕ) → P q (get_or (slice_set xs i x) q d)
each P xs i x d lt here all q = ⊎_elim
    (λ e. subst (λ (z : ℕ). P z (get_or (slice_set xs i x) z d)) (sym e) (subst (P i) (sym (get_or-set_at xs i i x d refl lt)) here))
    (λ ne. subst (P q) (sym (get_or-set_other xs i q x d ne)) (all q))
    (cases_eq q i)

pub kept-write : (places : List coded.Place) (lost n i : ℕ) (to : coded.Place)
    → AreKept places lost → n ≡ lost_among (slice_set places i to) → i < 1024 → Formed (seen to) → InRange (seen to)
    → AreKept (slice_set places i to) n
kept-write places lost n i to k counted lt formed range =
    let within : i < length places = omega (arith, k.pages) in
    record {
      pages = length-set places i to ∙ k.pages;
      counted = counted;
      formed = each (λ (q : ℕ) (x : coded.Place). Formed (seen x)) places i to variants.Free within formed k.formed;
      in_range = each (λ (q : ℕ) (x : coded.Place). InRange (seen x)) places i to variants.Free within range k.in_range;
    }

-- one value for each page
pub get_or-replicate : {X : Type 0} (n i : ℕ) (x : X) → get_or (replicate n x) i x ≡ x
get_or-replicate zero i x = refl
get_or-replicate (suc n) zero x = refl
get_or-replicate (suc n) (suc i) x = get_or-replicate n i x

pub blank : {X : Type 0} (xs : List X) (x : X) → xs ≡ replicate 1024 x → (p : ℕ) → get_or xs p x ≡ x
blank xs x e p = ap (λ l. get_or l p x) e ∙ get_or-replicate 1024 p x

pub kept-new : (places : List coded.Place) → places ≡ replicate 1024 variants.Free → AreKept places 0
kept-new places free = record {
  pages = ap length free ∙ length-replicate 1024 variants.Free;
  counted = sym (ap lost_among free ∙ none_counted 1024);
  formed = λ p. subst (λ (x : coded.Place). Formed (seen x)) (sym (blank places variants.Free free p)) tt;
  in_range = λ p. subst (λ (x : coded.Place). InRange (seen x)) (sym (blank places variants.Free free p)) (λ k used. absurd (cc));
}
