-- Each value of a newest version is within its capacity.
use Rattle.std.proofs.Common.{◌≡◌, ℕ, zero, suc, ◌<◌, ◌≤◌, Bool, true, false, cond, eqb, ltb, ◌&&◌, List, [], ◌∷◌, length, refl, arith, ltb-true}
use Rattle.sd_logrec.specs.View.{Rec, Kind}
use Rattle.sd_chain.specs.Records.{Val, of_page, changes, Each}
use Rattle.sd_logrec.specs.View.Kind.{Update, Clr, Commit, End, Plain}
use Rattle.sd_base.specs.Values.{size}
use Rattle.sd_page.specs.Page.{Page, Slot}
use Rattle.sd_chain.specs.Pages.{value, capacity, write, redo, replay, FitAll, FitsKind}
use Rattle.sd_chain.specs.Storage.{Storage, chain, newest, all_of}
use Rattle.sd_chain.proofs.Lists.{cond_both, Each-filter, Each-sorted}

abbrev Within : List Slot → Type 0
Within slots = (s : ℕ) → size (value slots s) ≤ capacity slots s

-- a value written within the capacity
within_write : (slots : List Slot) (s c : ℕ) (v : Val) → Within slots → (s < length slots → size v ≤ capacity slots s)
    → (length slots ≤ s → size v ≤ c) → Within (write slots s c v)
within_write [] zero c v w old new zero = new (omega arith)
within_write [] zero c v w old new (suc r) = omega arith
within_write [] (suc s) c v w old new zero = omega arith
within_write [] (suc s) c v w old new (suc r) = within_write [] s c v w (λ lt. absurd (omega arith)) (λ le. new (omega arith)) r
within_write (x ∷ xs) zero c v w old new zero = old (omega arith)
within_write (x ∷ xs) zero c v w old new (suc r) = w (suc r)
within_write (x ∷ xs) (suc s) c v w old new zero = w zero
within_write (x ∷ xs) (suc s) c v w old new (suc r) =
    within_write xs s c v (λ q. w (suc q)) (λ lt. old (omega arith)) (λ le. new (omega arith)) r

within_kind : (k : Kind) (x : Rec) (slots : List Slot) → changes k ≡ true → FitsKind k x slots
    → (x.slot < length slots → size x.after ≤ capacity slots x.slot) × (length slots ≤ x.slot → size x.after ≤ x.cap)
within_kind Update x slots c f = ((λ lt. let e = f.same lt in omega (arith, e, f.within)), (λ le. f.within))
within_kind Clr x slots c f = ((λ lt. f.within), (λ le. absurd (omega (arith, f.place, le))))
within_kind Commit x slots c f = absurd (cc)
within_kind End x slots c f = absurd (cc)
within_kind Plain x slots c f = absurd (cc)

within_replay : (floor : ℕ) (page : Page) (xs : List Rec) → Each (λ x. changes x.kind ≡ true) xs → FitAll floor page xs
    → Within page.slots → Within (replay floor page xs).slots
within_replay floor page [] k a w = w
within_replay floor page (x ∷ xs) k a w =
    within_replay floor (cond (ltb floor x.lsn) (redo page x) page) xs k.1 a.1
    (cond_both (λ (q : Page). Within q.slots) (ltb floor x.lsn) (redo page x) page
    (λ is. let f = within_kind x.kind x page.slots k.0 (a.0 (ltb-true floor x.lsn is)).found in
    within_write page.slots x.slot x.cap x.after w f.0 f.1) (λ is. w))

chain_changes : (img : Storage) (p : ℕ) → Each (λ x. changes x.kind ≡ true) (chain img p)
unfolding chain
chain_changes img p =
    Each-sorted (λ x. changes x.kind ≡ true) _
    (Each-filter (λ x. changes x.kind ≡ true) (of_page p) (all_of img.logs 9) (each_tells (all_of img.logs 9)))
  where
    first : (a b : Bool) → (a && b) ≡ true → a ≡ true
    first true b e = refl
    first false b e = absurd (cc)

    each_tells : (xs : List Rec) → Each (λ x. of_page p x ≡ true → changes x.kind ≡ true) xs
    each_tells [] = tt
    each_tells (x ∷ xs) = ((λ e. first (changes x.kind) (eqb x.page p) e), each_tells xs)

pub newest-within : (img : Storage) (p : ℕ) → Within (img.disk p).slots → FitAll (img.disk p).lsn (img.disk p) (chain img p)
    → Within (newest img p).slots
unfolding newest
newest-within img p w fit = within_replay (img.disk p).lsn (img.disk p) (chain img p) (chain_changes img p) fit w
