-- Who may update a page, which copy is newest, and what the newest version holds. It serves the laws on that.
use Rattle.std.proofs.Common.{◌≡◌, inl, inr, ⊎_elim, ℕ, Bool, true, cond, List, [], ◌∷◌, Option, None, Some, sym, ap, ◌∙◌, subst, eqb-true, ne_eqb}
use Rattle.std.specs.Prelude.{filter}
use Rattle.std.proofs.lemmas.Bool.{cases_Bool}
use Rattle.std.proofs.lemmas.Option.{cond_some}
use Rattle.sd_base.specs.declared.ids.TxnId.{TxnId}
use Rattle.sd_logrec.specs.View.{Rec}
use Rattle.sd_page.specs.Page.{Page}
use Rattle.sd_chain.specs.Records.{IsOpen, Val, at, home, stack}
use Rattle.sd_chain.specs.Pages.{value}
use Rattle.sd_chain.specs.Storage.{Linked, Storage}
use Rattle.sd_chain.specs.Storage as images
use Rattle.sd_chain.specs.Cuts.{cut}
use Rattle.sd_chain.specs.Images.{Gives, Keeps, all_kept, log, with_disk}
use Rattle.sd_chain.specs.Laws.{May}
use Rattle.sd_pagelock.specs.Places.{PageEntry, holds, owns, passes}
use Rattle.sd_pagelock.proofs.Drops.{owner-holds, owner-passes}
use Rattle.sd_pagelock.proofs.Members.{not_both}
use Rattle.sd_pagelock.proofs.Uses
use Rattle.sd_chain.specs.World.{Base, Dir, newest_version}
use Rattle.sd_chain.specs.Coherent.{Coherent, Quiet}
use Rattle.sd_chain.specs.Newest.{ActiveTailsCount, CommittedIsThere, EachCopyIsNewest, InactiveHasNone, MovingIsNewest, NewestIsHigh, OneMayUpdate, OpenIsThere, QuietTailsAgree, UpIsSettled}
use Rattle.sd_chain.proofs.Cases.{by_seat, none_some}
use Rattle.sd_chain.proofs.Versions

-- who owns a page is its only user
only : (i k : ℕ) (e : PageEntry) → owns e i ≡ true → owns e k ≡ true → k ≡ i
only i k PageEntry.Free o u = absurd (cc)
only i k PageEntry.Lost o u = absurd (cc)
only i k (PageEntry.Shared set writer) o u = absurd (cc)
only i k (PageEntry.Excl holder dirty) o u = sym (eqb-true holder k u) ∙ eqb-true holder i o
only i k (PageEntry.Moving to mode rest dirty) o u = absurd (cc)

pub one-updates : (may : May) → OneMayUpdate may
one-updates may b d c p i o = record {
  updates = λ k u. only i k (d.entry p) o u;
  copies = λ k ne. c.copies k p ∙ ap (λ (t : Bool). cond t (Some (newest_version b p)) None)
      (owner-holds i k (d.entry p) o ∙ ne_eqb i k (λ e. ne (sym e)));
  moving = c.moving p ∙ ap (λ (t : Bool). cond t (Some (newest_version b p)) None) (owner-passes i (d.entry p) o);
}

-- where the test holds there is a copy, and a copy tells that it does
there : (t : Bool) (x : Page) (o : Option Page) → o ≡ cond t (Some x) None
    → (t ≡ true → o ≡ Some x) × ((y : Page) → o ≡ Some y → (t ≡ true) × (y ≡ x))
there t x o is = (
  λ h. is ∙ ap (λ (b : Bool). cond b (Some x) None) h,
  λ y has. let both = cond_some t x y (sym is ∙ has) in (both.0, sym both.1),
)

pub each-newest : (may : May) → EachCopyIsNewest may
each-newest may b d c p i = there (holds (d.entry p) i) (newest_version b p) (d.pool i p) (c.copies i p)

pub moving-newest : (may : May) → MovingIsNewest may
moving-newest may b d c p = there (passes (d.entry p)) (newest_version b p) (d.moving p) (c.moving p)

pub tails-agree : (may : May) → QuietTailsAgree may
tails-agree may b d c keeps keeps' p agree = Versions.version-agree b.tails may b.version c.safe b.disk c.reads keeps keeps' p agree

-- only the tails of active instances matter, where the page isn't lost
pub active-count : (may : May) → ActiveTailsCount may
active-count may b d c idle p found = tails-agree may b d c all_kept b.active p
    (λ j. ⊎_elim (λ is. inl (sym is))
    (λ inactive. inr (⊎_elim (λ q. q)
    (by_seat b (d.entry p) j (Quiet p (b.tails.tail j))
    (λ settled is. not_both (c.live j p (Uses.excl-uses j true (d.entry p) is)) inactive)
    (λ loose lost. absurd (found lost))
    (λ a due is. none_some idle due))
    (c.unforced j p)))
    (cases_Bool (b.active j)))

pub inactive-none : (may : May) → InactiveHasNone may
inactive-none may b d c idle j inactive settled p = ⊎_elim (λ q. q)
    (by_seat b (d.entry p) j (Quiet p (b.tails.tail j))
    (λ own is. not_both (c.live j p (Uses.excl-uses j true (d.entry p) is)) inactive)
    (λ loose lost. not_both loose settled)
    (λ a due is. none_some idle due))
    (c.unforced j p)

pub up-settled : (may : May) → UpIsSettled may
up-settled may b d c idle i lo up = ⊎_elim (λ settled. settled) (λ due. none_some idle due) (c.ready i lo up)

pub newest-high : (may : May) → NewestIsHigh may
newest-high may b d c p j = Versions.low b.tails may b.version c.safe b.disk c.reads p j

module _ {may : May} (b : Base may) (d : Dir) (c : Coherent b d) (p s : ℕ) where
  all : Storage
  all = cut all_kept (with_disk b.tails b.disk)

  now_is : images.now all p s ≡ value (newest_version b p).slots s
  unfolding all
  now_is = ap (λ (v : Page). value v.slots s) (c.safe.same b.disk c.reads all_kept p)

  pub value-committed : (values : Keeps → ℕ → ℕ → Val) → Gives b.tails may values
      → ((t : TxnId) → IsOpen t (log b.tails (home t)) → filter (at p s) (stack t (log b.tails (home t))) ≡ [])
      → value (newest_version b p).slots s ≡ values all_kept p s
  unfolding all
  value-committed values gives none = ⊎_elim
      (λ o. absurd (o.2 (none o.0 o.1)))
      (λ closed. sym now_is ∙ sym closed.1)
      (gives b.disk c.reads all_kept p s)

  pub value-open : (t : TxnId) (top : Rec) (below : List Rec) → IsOpen t (log b.tails (home t))
      → filter (at p s) (stack t (log b.tails (home t))) ≡ top ∷ below → value (newest_version b p).slots s ≡ top.after
  unfolding all
  value-open t top below alive e = sym now_is
      ∙ (subst (Linked (images.now all p s)) e (((c.safe.sound b.disk c.reads all_kept).stacks t alive).linked p s)).0

pub committed-there : (may : May) → CommittedIsThere may
committed-there may b d c values gives p s none = value-committed b d c p s values gives none

pub open-there : (may : May) → OpenIsThere may
open-there may b d c p s t top below alive e = value-open b d c p s t top below alive e
