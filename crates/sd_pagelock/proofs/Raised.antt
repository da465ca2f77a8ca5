-- A page that is raised behind another row: what is left of its asks. For calls that make two moves of one event.
use Rattle.std.proofs.Common.{◌≡◌, ℕ, Bool, true, false, cond, eqb, List, [], ◌∷◌, sym, ap, ◌∙◌, subst, eqb-true, refl}
use Rattle.std.specs.Prelude.{filter, is_some, not}
use Rattle.sd_base.specs.declared.place.Mode.{Mode}
use Rattle.sd_base.specs.declared.place.Mode.TheVariants as modes
use Rattle.sd_pagelock.specs.declared.queue.Ask.{Ask}
use Rattle.sd_pagelock.specs.Asks.{is_open_ask, open_asks}
use Rattle.sd_pagelock.specs.Places.{PageEntry, holds_as}
use Rattle.sd_pagelock.specs.Rows.{may_raise, raised}

-- an ask that the raised page leaves open was open
pub open-raised : (i : ℕ) (e : PageEntry) → may_raise i e ≡ true → (ask : Ask) → is_open_ask (raised i e) ask ≡ true → is_open_ask e ask ≡ true
open-raised i PageEntry.Free may ask left = absurd (cc)
open-raised i PageEntry.Lost may ask left = absurd (cc)
open-raised i (PageEntry.Excl holder dirty) may ask left = absurd (cc)
open-raised i (PageEntry.Moving to mode rest dirty) may ask left = absurd (cc)
open-raised i (PageEntry.Shared [] writer) may ask left = absurd (cc)
open-raised i (PageEntry.Shared (x ∷ y ∷ xs) writer) may ask left = absurd (cc)
open-raised i (PageEntry.Shared (x ∷ []) writer) may ask left = subst
    (λ (k : ℕ). is_open_ask (PageEntry.Shared (k ∷ []) writer) ask ≡ true) (sym (eqb-true x i may)) (by ask.mode left)
  where
    one : (b : Bool) → not b ≡ true → not (cond b true false) ≡ true
    one true h = absurd (cc)
    one false h = refl

    by : (mode : Mode) → not (holds_as mode (PageEntry.Excl i (is_some writer)) ask.by) ≡ true
        → not (holds_as mode (PageEntry.Shared (i ∷ []) writer) ask.by) ≡ true
    by modes.Shared h = one (eqb i ask.by) h
    by modes.Excl h = refl

-- what a test lets through that lets nothing through which the other stops
filter-again : (f g : Ask → Bool) → ((ask : Ask) → f ask ≡ true → g ask ≡ true) → (asks : List Ask)
    → filter f (filter g asks) ≡ filter f asks
filter-again f g less [] = refl
filter-again f g less (a ∷ asks) = go (g a) refl (f a) refl (filter-again f g less asks)
  where
    go : (b : Bool) → g a ≡ b → (d : Bool) → f a ≡ d → filter f (filter g asks) ≡ filter f asks
        → filter f (cond b (a ∷ filter g asks) (filter g asks)) ≡ cond d (a ∷ filter f asks) (filter f asks)
    go true let_by true passes same = ap (λ (t : Bool). cond t (a ∷ filter f (filter g asks)) (filter f (filter g asks))) passes
        ∙ ap (λ (l : List Ask). a ∷ l) same
    go true let_by false passes same = ap (λ (t : Bool). cond t (a ∷ filter f (filter g asks)) (filter f (filter g asks))) passes ∙ same
    go false stopped true passes same = absurd (let clash : false ≡ true = sym stopped ∙ less a passes in absurd (cc))
    go false stopped false passes same = same

-- so the asks that are left are those that it would have left alone
pub open_asks-raised : (i : ℕ) (e : PageEntry) → may_raise i e ≡ true → (asks : List Ask)
    → open_asks (raised i e) (open_asks e asks) ≡ open_asks (raised i e) asks
open_asks-raised i e may asks = filter-again (is_open_ask (raised i e)) (is_open_ask e) (open-raised i e may) asks
