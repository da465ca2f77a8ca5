-- An event that needs a page: for whom, which one, how, and that it has it once it was pulled. It serves the goals of pull.rt.
use Rattle.std.proofs.Common.{◌≡◌, ◌⊎◌, inl, inr, ℕ, List, Bool, true, false, cond, refl, sym, ap, subst, eq-eqb}
use Rattle.std.specs.Prelude.{ℤ, Option, None, Some, is_some, ◌||◌}
use Rattle.sd_base.specs.declared.ids.Rid.{Rid}
use Rattle.sd_base.specs.declared.ids.TxnId.{TxnId}
use Rattle.sd_base.specs.declared.place.Place.{Place}
use Rattle.sd_base.specs.declared.place.Mode.{Mode}
use Rattle.sd_base.specs.declared.place.Mode.TheVariants as modes
use Rattle.sd_base.specs.declared.refusal.Refusal.TheVariants as R
use Rattle.sd_model.specs.declared.cause.Cause.{Cause}
use Rattle.sd_model.specs.declared.event.Event.{Event}
use Rattle.sd_model.specs.declared.event.Event.TheVariants as event
use Rattle.sd_model.specs.declared.event.Reply.{Reply}
use Rattle.sd_model.specs.declared.event.Reply.TheVariants as reply
use Rattle.sd_model.specs.State.{State}
use Rattle.sd_pagelock.specs.Places.{PageEntry, holds_as, is_free}
use Rattle.sd_pagelock.specs.Rows.{locked, may_raise, raised}
use Rattle.sd_world.specs.Pages.{Pages, page_placed}
use Rattle.sd_world.specs.PageCauses.{IsAway, decided, names_page, page_of, undo_page}
use Rattle.sd_world.specs.Answers.{Gets, Moves}
use Rattle.sd_world.proofs.Causes.{cause-said}
use Rattle.sd_drive.proofs.Measures.{unlike}
use Rattle.sd_drive.specs.Pulls.{IsPulled, Puller, puller}
use Rattle.sd_model.specs.Replies.{wants_page}
use Rattle.sd_drive.specs.Standing.{need_of, wanted_of}

abbrev reads : ℕ → Mode → Option Puller
reads i m = Some (record { inst = i; mode = m })

-- who pulls has the page as it needs it
pulls-holds : (i : ℕ) (mode : Mode) (for : Puller) (place : PageEntry) → reads i mode ≡ Some for → holds_as for.mode place for.inst ≡ true
    → holds_as mode place i ≡ true
pulls-holds i mode for place is has = subst (λ (x : Puller). holds_as x.mode place x.inst ≡ true) (sym (ap got is)) has
  where
    got : Option Puller → Puller
    got None = record { inst = i; mode = mode }
    got (Some x) = x

-- what it has it doesn't lack
away-not : (m : State) (w : Pages) (e : Event) (for : Puller) → puller m e ≡ Some for
    → holds_as for.mode (w.entry (page_of m e)) for.inst ≡ true → IsAway m w e → ⊥
away-not m w (event.Read t r) for pulls has away = unlike (pulls-holds t.inst modes.Shared for (w.entry r.page) pulls has) away
away-not m w (event.List i p) for pulls has away = unlike (pulls-holds i modes.Shared for (w.entry p) pulls has) away
away-not m w (event.Write t r v) for pulls has away = unlike (pulls-holds t.inst modes.Excl for (w.entry r.page) pulls has) away
away-not m w (event.Add t r by) for pulls has away = unlike (pulls-holds t.inst modes.Excl for (w.entry r.page) pulls has) away
away-not m w (event.Delete t r) for pulls has away = unlike (pulls-holds t.inst modes.Excl for (w.entry r.page) pulls has) away
away-not m w (event.Insert t p v n) for pulls has away = unlike (pulls-holds t.inst modes.Excl for (w.entry p) pulls has) away
away-not m w (event.Undo t) for pulls has away = unlike (pulls-holds t.inst modes.Excl for (w.entry (undo_page m t)) pulls has) away.1
away-not m w (event.RecoverStep i) for pulls has away = away
away-not m w e for pulls has away = absurd (cc)

-- it isn't refused for want of the page then
pub no-need : (m : State) (w : Pages) (e : Event) (for : Puller) (r : Reply) (m' : State) (w' : Pages) → decided e Cause.Away ≡ true
    → puller m e ≡ Some for → holds_as for.mode (w.entry (page_of m e)) for.inst ≡ true → Moves m w e r m' w' → wants_page r ≡ false
no-need m w e for (reply.Refused (R.NeedPage place)) m' w' named pulls has moves =
    absurd (away-not m w e for pulls has (cause-said m w e (R.NeedPage place) m' w' Cause.Away moves refl named))
no-need m w e for r m' w' named pulls has moves = refl

-- ---- an ask that is answered Have

locked-holds : (i : ℕ) (mode : Mode) → holds_as mode (locked i mode) i ≡ true
locked-holds i modes.Shared = ap (λ (b : Bool). cond b true false) (eq-eqb i i refl)
locked-holds i modes.Excl = eq-eqb i i refl

raised-holds : (i : ℕ) (mode : Mode) (e : PageEntry) → may_raise i e ≡ true → holds_as mode (raised i e) i ≡ true
raised-holds i modes.Shared (PageEntry.Shared set writer) may = eq-eqb i i refl
raised-holds i modes.Excl (PageEntry.Shared set writer) may = eq-eqb i i refl
raised-holds i mode PageEntry.Free may = absurd (cc)
raised-holds i mode (PageEntry.Excl holder dirty) may = absurd (cc)
raised-holds i mode (PageEntry.Moving to m rest dirty) may = absurd (cc)
raised-holds i mode PageEntry.Lost may = absurd (cc)

-- the page is there then
pub gets-holds : (i p : ℕ) (mode : Mode) (w w' : Pages) → Gets i p mode w w' → holds_as mode (w'.entry p) i ≡ true
gets-holds i p mode w w' h = subst (λ (x : Pages). holds_as mode (x.entry p) i ≡ true) (sym h.1)
    (go (holds_as mode (w.entry p) i) (is_free (w.entry p)) refl refl h.0)
  where
    now-there : (to : PageEntry) → holds_as mode to i ≡ true → holds_as mode ((page_placed p to w).entry p) i ≡ true
    now-there to has = subst (λ (b : Bool). holds_as mode (cond {A = PageEntry} b to (w.entry p)) i ≡ true) (sym (eq-eqb p p refl)) has

    go : (b c : Bool) → holds_as mode (w.entry p) i ≡ b → is_free (w.entry p) ≡ c → (b || (c || may_raise i (w.entry p))) ≡ true
        → holds_as mode ((cond {A = Pages} b w (page_placed p (cond {A = PageEntry} b (w.entry p) (cond {A = PageEntry} c (locked i mode) (raised i (w.entry p)))) w)).entry p) i ≡ true
    go true c has free may = has
    go false true has free may = now-there (locked i mode) (locked-holds i mode)
    go false false has free may = now-there (raised i (w.entry p)) (raised-holds i mode (w.entry p) may)

-- ---- which page is pulled, and for whom

-- for whom a page is pulled that an event needs
abbrev pub puller_in : ℕ × ℕ × Mode → Puller
puller_in x = record { inst = x.0; mode = x.2 }

some-same : (a x : ℕ × ℕ × Mode) → Some a ≡ Some x → a ≡ x
some-same a x is = ap got is
  where
    got : Option (ℕ × ℕ × Mode) → ℕ × ℕ × Mode
    got None = a
    got (Some y) = y

abbrev Needs : State → Event → ℕ × ℕ × Mode → Type 0
Needs m e x = ((s : State) → puller s e ≡ Some (puller_in x)) × (x.1 ≡ page_of m e) × IsPulled m e x.1 × (decided e Cause.Away ≡ true)

need-as : (m : State) (e : Event) (a x : ℕ × ℕ × Mode) → Needs m e a → Some a ≡ Some x → Needs m e x
need-as m e a x needs is = subst (λ (y : ℕ × ℕ × Mode). Needs m e y) (some-same a x is) needs

pub need-some : (m : State) (e : Event) (x : ℕ × ℕ × Mode) → need_of m e ≡ Some x → Needs m e x
need-some m (event.Read t r) x is = need-as m (event.Read t r) (t.inst, r.page, modes.Shared) x (λ s. refl, refl, refl, refl) is
need-some m (event.List i p) x is = need-as m (event.List i p) (i, p, modes.Shared) x (λ s. refl, refl, refl, refl) is
need-some m (event.Write t r v) x is = need-as m (event.Write t r v) (t.inst, r.page, modes.Excl) x (λ s. refl, refl, refl, refl) is
need-some m (event.Add t r by) x is = need-as m (event.Add t r by) (t.inst, r.page, modes.Excl) x (λ s. refl, refl, refl, refl) is
need-some m (event.Delete t r) x is = need-as m (event.Delete t r) (t.inst, r.page, modes.Excl) x (λ s. refl, refl, refl, refl) is
need-some m (event.Insert t p v n) x is = need-as m (event.Insert t p v n) (t.inst, p, modes.Excl) x (λ s. refl, refl, refl, refl) is
need-some m (event.Undo t) x is = need-as m (event.Undo t) (t.inst, undo_page m t, modes.Excl) x (λ s. refl, refl, refl, refl) is
need-some m e x is = absurd (cc)

need-none : (m : State) (e : Event) → names_page e ≡ true → need_of m e ≡ None → (s : State) → is_some (puller s e) ≡ false
need-none m (event.Read t r) names is s = absurd (cc)
need-none m (event.List i p) names is s = absurd (cc)
need-none m (event.Write t r v) names is s = absurd (cc)
need-none m (event.Add t r by) names is s = absurd (cc)
need-none m (event.Delete t r) names is s = absurd (cc)
need-none m (event.Insert t p v n) names is s = absurd (cc)
need-none m (event.Undo t) names is s = absurd (cc)
need-none m (event.RecoverStep i) names is s = absurd (cc)
need-none m e names is s = refl

pub wanted-none : (m : State) (e : Event) (r : Reply) → names_page e ≡ true → wanted_of m e r ≡ None
    → (wants_page r ≡ false) ⊎ ((s : State) → is_some (puller s e) ≡ false)
wanted-none m e (reply.Refused (R.NeedPage place)) names is = inr (need-none m e names is)
wanted-none m e r names is = inl refl

pub wanted-some : (m : State) (e : Event) (r : Reply) (x : ℕ × ℕ × Mode) → wanted_of m e r ≡ Some x
    → (wants_page r ≡ true) × (need_of m e ≡ Some x)
wanted-some m e (reply.Refused (R.NeedPage place)) x is = (refl, is)
wanted-some m e r x is = absurd (cc)

pub need-is : (r : Reply) → wants_page r ≡ true → (place : Place) × (r ≡ reply.Refused (R.NeedPage place))
need-is (reply.Refused (R.NeedPage place)) need = (place, refl)
need-is r need = absurd (cc)

pub needs-none : (m : State) (e : Event) (r : Reply) → wants_page r ≡ false → None ≡ wanted_of m e r
needs-none m e (reply.Refused (R.NeedPage place)) none = absurd (cc)
needs-none m e r none = refl

-- no other event has its page pulled
pub need-else : (m : State) (e : Event) → ((t : TxnId) (r : Rid) → e ≡ event.Read t r → ⊥)
    → ((t : TxnId) (r : Rid) (v : List ℕ) → e ≡ event.Write t r v → ⊥) → ((t : TxnId) (r : Rid) (by : ℤ) → e ≡ event.Add t r by → ⊥)
    → ((t : TxnId) (p : ℕ) (v : List ℕ) (n : ℕ) → e ≡ event.Insert t p v n → ⊥) → ((t : TxnId) (r : Rid) → e ≡ event.Delete t r → ⊥)
    → ((t : TxnId) → e ≡ event.Undo t → ⊥) → ((i p : ℕ) → e ≡ event.List i p → ⊥) → None ≡ need_of m e
need-else m (event.Read t r) read write add insert delete undo list = absurd (read t r refl)
need-else m (event.Write t r v) read write add insert delete undo list = absurd (write t r v refl)
need-else m (event.Add t r by) read write add insert delete undo list = absurd (add t r by refl)
need-else m (event.Insert t p v n) read write add insert delete undo list = absurd (insert t p v n refl)
need-else m (event.Delete t r) read write add insert delete undo list = absurd (delete t r refl)
need-else m (event.Undo t) read write add insert delete undo list = absurd (undo t refl)
need-else m (event.List i p) read write add insert delete undo list = absurd (list i p refl)
need-else m e read write add insert delete undo list = refl
