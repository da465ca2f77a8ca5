-- The newest versions by name. It serves the laws on them.
use Rattle.std.proofs.Common.{◌≡◌, ℕ, Bool, true, false, cond, eqb, refl, sym, ap, ◌∙◌, eq-eqb, ne_eqb}
use Rattle.sd_logrec.specs.View.{Rec}
use Rattle.sd_page.specs.Page.{Page}
use Rattle.sd_chain.specs.Pages.{redo}
use Rattle.sd_chain.specs.Images.{Allowed, IsSafe, Keeps, Redone, Tails}
use Rattle.sd_chain.specs.Laws.{May, Narrows}
use Rattle.sd_chain.proofs.Images
use Rattle.sd_chain.proofs.Narrowed.{narrowed-safe}
use Rattle.sd_chain.specs.Named.{ChangeNamed, IsRedone, MayBeNamed, SealNamed, SettleNamed, UndoNamed}

pub may_be-named : (may may' : May) → MayBeNamed may may'
may_be-named may may' tails version disk s less allowed = record {
  safe = record {
    eight = s.eight;
    numbered = s.numbered;
    order = s.order;
    pops = s.pops;
    sound = narrow.sound;
    same = λ other a keeps p. narrow.same other a keeps p ∙ sym (narrow.same disk allowed keeps p);
  };
  same = narrow.same disk allowed;
}
  where
    narrow : IsSafe tails may' version
    narrow = narrowed-safe may may' less tails version s

pub settle-named : (may may' : May) → SettleNamed may may'
settle-named may may' i kept b d new disk c s less allowed = may_be-named may may' new _ disk
    (Images.settled-safe i kept b.tails new s may b.version c.safe) less allowed

pub seal-named : (may may' : May) → SealNamed may may'
seal-named may may' i y b d new disk c a can less allowed = may_be-named may may' new b.version disk
    (Images.seal-safe i y b.tails new a.grows a.own may b.version b.version c.safe can) less allowed

-- ---- with the change in tail i

redone : ℕ → Rec → (Keeps → ℕ → Page) → Keeps → ℕ → Page
redone i y version keeps q = cond (keeps i) (cond (eqb q y.page) (redo (version keeps q) y) (version keeps q)) (version keeps q)

is_redone : (i : ℕ) (y : Rec) (version : Keeps → ℕ → Page) → Redone i y version (redone i y version)
unfolding redone
is_redone i y version = record {
  here = λ keeps kept. ap (λ (b : Bool). cond b (cond (eqb y.page y.page) (redo (version keeps y.page) y) (version keeps y.page))
      (version keeps y.page)) kept
      ∙ ap (λ (b : Bool). cond b (redo (version keeps y.page) y) (version keeps y.page)) (eq-eqb y.page y.page refl);
  others = λ keeps q ne. ap (λ (b : Bool). cond (keeps i) (cond b (redo (version keeps q) y) (version keeps q)) (version keeps q))
      (ne_eqb q y.page ne) ∙ either (keeps i) (version keeps q);
  without = λ keeps q dropped. ap (λ (b : Bool). cond b (cond (eqb q y.page) (redo (version keeps q) y) (version keeps q))
      (version keeps q)) dropped;
}
  where
    either : (b : Bool) (x : Page) → cond b x x ≡ x
    either true x = refl
    either false x = refl

-- safe versions with the change, by name
named_redone : {may may' : May} (i : ℕ) (y : Rec) (version : Keeps → ℕ → Page) (tails : Tails) (disk : ℕ → Page)
    → IsSafe tails may (redone i y version) → Narrows may may' → Allowed may' disk → IsRedone may' i y tails disk version
named_redone {may} {may'} i y version tails disk s less allowed =
    let n = may_be-named may may' tails (redone i y version) disk s less allowed in
    let r = is_redone i y version in
    record {
      safe = n.safe;
      redone = record {
        here = λ keeps kept. n.same keeps y.page ∙ r.here keeps kept;
        others = λ keeps q ne. n.same keeps q ∙ r.others keeps q ne;
        without = λ keeps q dropped. n.same keeps q ∙ r.without keeps q dropped;
      };
    }

pub change-named : (may may' : May) → ChangeNamed may may'
change-named may may' i y b d new disk c a can less allowed = named_redone i y b.version new disk
    (Images.change-safe i y b.tails new a.grows a.own may b.version (redone i y b.version) c.safe can (is_redone i y b.version))
    less allowed

pub undo-named : (may may' : May) → UndoNamed may may'
undo-named may may' i y top below b d new disk c a can less allowed = named_redone i y b.version new disk
    (Images.undo-safe i y b.tails new a.grows a.own may b.version (redone i y b.version) c.safe top below can (is_redone i y b.version))
    less allowed
