-- Cases on pages, logs and where an unforced record's page sits. It serves all other files.
use Rattle.std.proofs.Common.{◌≡◌, ◌≢◌, ◌⊎◌, inl, inr, ⊎_elim, ℕ, zero, suc, ◌≤◌, Bool, true, false, cond, eqb, List, [], ◌∷◌, ◌++◌, Option, None, Some, sym, ap, ◌∙◌, subst, refl, eq-eqb, ne_eqb, arith}
use Rattle.std.proofs.lemmas.Bool.{cases_eq}
use Rattle.std.proofs.lemmas.Option.{same_Some}
use Rattle.sd_logrec.specs.View.{Rec}
use Rattle.sd_page.specs.Page.{Page}
use Rattle.sd_chain.specs.Laws.{May}
use Rattle.sd_pagelock.specs.Places.{PageEntry}
use Rattle.sd_chain.specs.World.{Base, Dir, put_at}
use Rattle.sd_chain.specs.Coherent.{Coherent, Quiet, Sits}
use Rattle.sd_chain.specs.Moves.{OneCopy}

-- what holds of one page, and of each other
pub at_page : (p : ℕ) (P : ℕ → Type 0) → P p → ((q : ℕ) → q ≢ p → P q) → (q : ℕ) → P q
at_page p P here others q = ⊎_elim (λ e. subst P (sym e) here) (λ ne. others q ne) (cases_eq q p)

pub none_some : {A X : Type 0} {x : X} {o : Option X} → o ≡ None → o ≡ Some x → A
none_some n s = let c = sym n ∙ s in absurd (cc)

pub the_same : {A : Type 0} {x y : A} {o : Option A} → o ≡ Some x → o ≡ Some y → x ≡ y
the_same {x = x} {y = y} a b = same_Some x y (sym a ∙ b)

pub put_here : {A : Type 0} (i : ℕ) (v : A) (f : ℕ → A) (j : ℕ) → j ≡ i → put_at i v f j ≡ v
put_here i v f j e = ap (λ (b : Bool). cond b v (f j)) (eq-eqb j i e)

pub put_other : {A : Type 0} (i : ℕ) (v : A) (f : ℕ → A) (j : ℕ) → j ≢ i → put_at i v f j ≡ f j
put_other i v f j ne = ap (λ (b : Bool). cond b v (f j)) (ne_eqb j i ne)

-- what is put everywhere else stays
pub put_still : {A : Type 0} (i : ℕ) (v : A) (f : ℕ → A) (j : ℕ) → f j ≡ v → put_at i v f j ≡ v
put_still i v f j is = ⊎_elim (λ e. put_here i v f j e) (λ ne. put_other i v f j ne ∙ is) (cases_eq j i)

-- the three ways in which a page sits
pub by_seat : {may : May} (b : Base may) (e : PageEntry) (j : ℕ) (A : Type 0) → (b.loose j ≡ false → e ≡ PageEntry.Excl j true → A)
    → (b.loose j ≡ true → e ≡ PageEntry.Lost → A) → ((a : ℕ) → b.due ≡ Some (a, j) → e ≡ PageEntry.Excl a true → A) → Sits b e j → A
by_seat b e j A own lost due (inl s) = own s.0 s.1
by_seat b e j A own lost due (inr (inl s)) = lost s.0 s.1
by_seat b e j A own lost due (inr (inr s)) = due s.0 s.1 s.2

pub own_seat : {may : May} (b : Base may) (e : PageEntry) (j : ℕ) → b.loose j ≡ false → e ≡ PageEntry.Excl j true → Sits b e j
own_seat b e j loose is = inl (loose, is)

pub lost_seat : {may : May} (b : Base may) (e : PageEntry) (j : ℕ) → b.loose j ≡ true → e ≡ PageEntry.Lost → Sits b e j
lost_seat b e j loose is = inr (inl (loose, is))

pub due_seat : {may : May} (b : Base may) (e : PageEntry) (j a : ℕ) → b.due ≡ Some (a, j) → e ≡ PageEntry.Excl a true → Sits b e j
due_seat b e j a due is = inr (inr (a, due, is))

-- the copy that there is, of a page whose newest version is another word for the same
pub copy_same : (b : Bool) (x y : Page) → (b ≡ true → y ≡ x) → cond b (Some x) None ≡ cond b (Some y) None
copy_same true x y f = ap (λ (z : Page). Some z) (sym (f refl))
copy_same false x y f = refl

-- each pool's copy, where one pool's changed
pub one_copy : {p i : ℕ} {copy : Option Page} {old new : Dir} → OneCopy p i copy old new → (k : ℕ)
    → new.pool k p ≡ cond (eqb i k) copy (old.pool k p)
one_copy {p = p} {i = i} {copy = copy} {old = old} {new = new} o k = ⊎_elim
    (λ e. ap (λ (z : ℕ). new.pool z p) e ∙ o.here ∙ sym (ap (λ (t : Bool). cond t copy (old.pool k p)) (eq-eqb i k (sym e))))
    (λ ne. o.others k ne ∙ sym (ap (λ (t : Bool). cond t copy (old.pool k p)) (ne_eqb i k (λ e. ne (sym e)))))
    (cases_eq k i)

-- there is a log of this number, or it is 0
pub zero_or : (j : ℕ) → (j ≡ 0) ⊎ (1 ≤ j)
zero_or zero = inl refl
zero_or (suc j) = inr (omega arith)

-- behind what is gone nothing is left
pub left_none : (gone left : List Rec) → gone ++ left ≡ [] → left ≡ []
left_none [] left e = e
left_none (x ∷ gone) left e = absurd (cc)

-- no log but 1 to 8 has a tail
pub no_more : {may : May} (b : Base may) (d : Dir) → Coherent b d → (p j : ℕ) → (j ≡ 0) ⊎ (9 ≤ j) → Quiet p (b.tails.tail j)
no_more b d c p j out = subst (Quiet p) (sym (⊎_elim (λ e. ap b.tails.tail e ∙ c.eight.1)
    (λ le. left_none (b.tails.base j) (b.tails.tail j) (c.safe.eight j le)) out)) tt

-- a tail with a record of the page is that of a log, and the page sits so
pub seated : {may : May} (b : Base may) (d : Dir) → Coherent b d → (p j : ℕ) → Quiet p (b.tails.tail j) ⊎ ((1 ≤ j) × Sits b (d.entry p) j)
seated b d c p j = ⊎_elim
    (λ none. inl (no_more b d c p j (inl none)))
    (λ lo. ⊎_elim (λ q. inl q) (λ sits. inr (lo, sits)) (c.unforced j p))
    (zero_or j)
