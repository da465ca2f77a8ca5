-- Who uses a page that is on its way, and the fall of one who has no part in a page. It serves rows.rt and the directory's falls.
use Rattle.std.proofs.Common.{◌≡◌, ◌≢◌, ℕ, Bool, true, false, cond, eqb, List, [], ◌∷◌, Option, None, Some, refl, sym, ap, ◌∙◌, ne_eqb}
use Rattle.sd_base.specs.declared.set.InstSet.{InstSet}
use Rattle.sd_base.specs.declared.place.Mode.{Mode}
use Rattle.sd_base.specs.declared.place.Place as coded
use Rattle.sd_base.specs.declared.place.Place.TheVariants as variants
use Rattle.sd_base.specs.Sets.{has, members, with_member, without}
use Rattle.sd_pagelock.specs.Places.{Formed, PageEntry, receives, seen, uses}
use Rattle.sd_pagelock.specs.Rows.{fallen, left_with, nowhere, shared_left}
use Rattle.sd_pagelock.proofs.Members.{has-with_member, not_both}

-- who holds a page that is on its way, or receives it
pub users-moving : (place : coded.Place) (to b : ℕ) (mode : Mode) (rest : InstSet) (dirty : Bool) → place ≡ variants.Moving to mode rest dirty
    → members b ≡ with_member to (members rest.bits) → (k : ℕ) → has k (members b) ≡ uses (seen place) k
users-moving place to b mode rest dirty is set k = ap (has k) set ∙ has-with_member k to (members rest.bits) ∙ ap (λ (x : coded.Place). uses (seen x) k) (sym is)

without-absent : (i : ℕ) (xs : List ℕ) → has i xs ≡ false → without i xs ≡ xs
without-absent i [] out = refl
without-absent i (x ∷ xs) out = go (without-absent i xs) (eqb x i) out
  where
    go : (has i xs ≡ false → without i xs ≡ xs) → (b : Bool) → cond b true (has i xs) ≡ false
        → cond {A = List ℕ} b (without i xs) (x ∷ without i xs) ≡ x ∷ xs
    go rest true e = not_both refl e
    go rest false e = ap (λ (ys : List ℕ). x ∷ ys) (rest e)

shared-same : (i : ℕ) (set : List ℕ) (writer : Option ℕ) → Formed (PageEntry.Shared set writer) → has i set ≡ false
    → shared_left i set writer ≡ PageEntry.Shared set writer
shared-same i [] writer formed out = absurd (formed.0 refl)
shared-same i (x ∷ xs) None formed out = refl
shared-same i (x ∷ xs) (Some w) formed out = ap (λ (b : Bool). PageEntry.Shared (x ∷ xs) (cond {A = Option ℕ} b (Some x) (Some w)))
    (ne_eqb w i (λ e. not_both (formed.1 w refl) (ap (λ (z : ℕ). has z (x ∷ xs)) e ∙ out)))

-- a place in which i has no part is as it was, and the page doesn't move to i
pub fallen-unused : (i : ℕ) (e : PageEntry) → Formed e → uses e i ≡ false → fallen i e ≡ e
fallen-unused i PageEntry.Free formed un = refl
fallen-unused i PageEntry.Lost formed un = refl
fallen-unused i (PageEntry.Excl holder dirty) formed un = ap (λ (b : Bool). cond {A = PageEntry} b (nowhere dirty) (PageEntry.Excl holder dirty)) un
fallen-unused i (PageEntry.Shared set writer) formed un =
    ap (λ (xs : List ℕ). shared_left i xs writer) (without-absent i set un) ∙ shared-same i set writer formed un
fallen-unused i (PageEntry.Moving to mode rest dirty) formed un = go (eqb to i) un
  where
    go : (b : Bool) → cond b true (has i rest) ≡ false
        → cond {A = PageEntry} b (left_with dirty (without i rest)) (PageEntry.Moving to mode (without i rest) dirty) ≡ PageEntry.Moving to mode rest dirty
    go true e = not_both refl e
    go false e = ap (λ (xs : List ℕ). PageEntry.Moving to mode xs dirty) (without-absent i rest e)

pub receives-unused : (i : ℕ) (e : PageEntry) → uses e i ≡ false → receives e i ≡ false
receives-unused i PageEntry.Free un = refl
receives-unused i PageEntry.Lost un = refl
receives-unused i (PageEntry.Excl holder dirty) un = refl
receives-unused i (PageEntry.Shared set writer) un = refl
receives-unused i (PageEntry.Moving to mode rest dirty) un = go (eqb to i) un
  where
    go : (b : Bool) → cond b true (has i rest) ≡ false → b ≡ false
    go true e = not_both refl e
    go false e = refl
