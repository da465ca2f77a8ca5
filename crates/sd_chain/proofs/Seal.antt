-- A record without a page is appended: Commit, End, or one of no transaction.
use Rattle.std.proofs.Common.{◌≡◌, ◌≢◌, inl, inr, ⊎_elim, ℕ, ◌<◌, ◌≤◌, Bool, true, false, ◌&&◌, List, [], ◌∷◌, ◌++◌, refl, sym, ap, ◌∙◌, subst}
use Rattle.std.specs.Prelude.{filter}
use Rattle.std.proofs.lemmas.Bool.{cases_eq}
use Rattle.sd_logrec.specs.View.{Rec, Kind}
use Rattle.sd_base.specs.declared.ids.TxnId.{TxnId}
use Rattle.sd_base.specs.Ids.{same_txn}
use Rattle.sd_chain.specs.Records.{Val, of_rid, at, changes, ends, Each, home, stack, step, moved, IsOpen}
use Rattle.sd_logrec.specs.View.Kind.{Update, Clr, Commit, End, Plain}
use Rattle.sd_base.specs.Values.{size}
use Rattle.sd_page.specs.Page.{Page}
use Rattle.sd_chain.specs.Pages.{value, capacity}
use Rattle.sd_chain.specs.Storage.{Storage, newest, now, opens, Open, HasPlace, Linked, undone, Alone, StackFits, Sound, Recovered}
use Rattle.sd_chain.specs.Changes.{Appended}
use Rattle.sd_chain.proofs.Lists.{Each-back, Each-weaker}
use Rattle.sd_chain.proofs.Newest
use Rattle.sd_chain.proofs.Newest.{at_is, at_from, of_rid_is, of_rid_from, pages-other}
use Rattle.sd_chain.proofs.Opens
use Rattle.sd_chain.proofs.Opens.{Each-stack}
use Rattle.sd_chain.proofs.Stacks.{stack-push, step-other, step-own}
use Rattle.sd_chain.proofs.Apart.{Recovered-same, apart}
use Rattle.sd_base.proofs.SameIds.{cases_txn, eq-same}

moved_none : (k : Kind) (x : Rec) (stk : List Rec) → changes k ≡ false → moved k x stk ≡ stk
moved_none Update x stk e = absurd (cc)
moved_none Clr x stk e = absurd (cc)
moved_none Commit x stk e = refl
moved_none End x stk e = refl
moved_none Plain x stk e = refl

module _ (i : ℕ) (y : Rec) (old new : Storage) (app : Appended i y old new) (no_page : changes y.kind ≡ false) where
  now_same : (p s : ℕ) → now new p s ≡ now old p s
  now_same p s = ap (λ (q : Page). value q.slots s) (Newest.newest-none i y old new app no_page p)

  opens_same : (t : TxnId) → opens new t ≡ opens old t
  opens_same t = ⊎_elim
      (λ e. ap (λ (k : ℕ). stack t (new.logs k)) e ∙ ap (stack t) app.here ∙ stack-push t (old.logs i) y ∙ kept
      ∙ ap (λ (k : ℕ). stack t (old.logs k)) (sym e))
      (λ ne. ap (stack t) (app.others (home t) ne))
      (cases_eq (home t) i)
    where
      kept : step t (stack t (old.logs i)) y ≡ stack t (old.logs i)
      kept = ⊎_elim (λ e. step-own t (stack t (old.logs i)) y e ∙ moved_none y.kind y (stack t (old.logs i)) no_page)
          (λ ne. step-other t (stack t (old.logs i)) y ne) (cases_txn y.txn t)

  alone_same : (t : TxnId) (x : Rec) → Alone old t x → Alone new t x
  alone_same t x h j = Opens.Each-new i y old new app (λ z. z.txn ≢ t → of_rid x.page x.slot z ≡ true → z.lsn < x.lsn) j (h j)
      (λ ne is. let e = sym (rid_none x.page x.slot) ∙ is in absurd (cc))
    where
      rid_none : (p s : ℕ) → of_rid p s y ≡ false
      rid_none p s = rw no_page refl

  fits_same : (t : TxnId) → StackFits old t → StackFits new t
  fits_same t was = record {
    places = subst (Each (λ x. HasPlace (newest new x.page).slots x)) (sym (opens_same t))
        (Each-weaker (λ x. HasPlace (newest old x.page).slots x) (λ x. HasPlace (newest new x.page).slots x)
        (λ x h. subst (λ (q : Page). HasPlace q.slots x) (sym (Newest.newest-none i y old new app no_page x.page)) h)
        (opens old t) was.places);
    linked = λ p s. subst (λ (v : Val). Linked v (filter (at p s) (opens new t))) (sym (now_same p s))
        (subst (λ (l : List Rec). Linked (now old p s) (filter (at p s) l)) (sym (opens_same t)) (was.linked p s));
    alone = subst (Each (Alone new t)) (sym (opens_same t))
        (Each-weaker (Alone old t) (Alone new t) (alone_same t) (opens old t) was.alone);
  }

  pub seal-sound : Sound old → Sound new
  seal-sound sound = record {
    disks = λ p. subst (λ (d : Page). (s : ℕ) → size (value d.slots s) ≤ capacity d.slots s) (sym (app.disk p)) (sound.disks p);
    pages = λ p. Newest.pages-none i y old new app no_page p (sound.pages p);
    stacks = λ t o. fits_same t (sound.stacks t (Opens.Open-old i y old new app t o));
  }

  -- the other way round: the record is removed again
  at_same : (p s : ℕ) (t : TxnId) → filter (at p s) (opens new t) ≡ filter (at p s) (opens old t)
  at_same p s t = ap (filter (at p s)) (opens_same t)

  -- of no transaction
  pub plain-recovered : ends y.kind ≡ false → (p s : ℕ) (v : Val) → Recovered old p s v → Recovered new p s v
  plain-recovered no_end p s v r =
      Recovered-same old new p s (Opens.Open-old i y old new app) (Opens.Open-own i y old new app no_end) (at_same p s)
      (now_same p s) v r

  module _ (own : home y.txn ≡ i) (it_ends : ends y.kind ≡ true) where
    ended : Open new y.txn → ⊥
    ended o =
        let o' : IsOpen y.txn (old.logs i ++ y ∷ []) =
        subst (IsOpen y.txn) app.here (subst (λ (k : ℕ). IsOpen y.txn (new.logs k)) own o) in
        let last = Each-back (λ x. (ends x.kind && same_txn x.txn y.txn) ≡ false) (old.logs i) (y ∷ []) o' in
        let e : (ends y.kind && same_txn y.txn y.txn) ≡ true =
        both (ends y.kind) (same_txn y.txn y.txn) it_ends (eq-same y.txn y.txn refl) in
        clash (ends y.kind && same_txn y.txn y.txn) e last.0
      where
        both : (a b : Bool) → a ≡ true → b ≡ true → (a && b) ≡ true
        both a b e f = rw (e, f) refl

        clash : (b : Bool) → b ≡ true → b ≡ false → ⊥
        clash b e f = cc

    -- where the transaction has nothing open, all stays
    pub ended-recovered : (p s : ℕ) (v : Val) → filter (at p s) (opens old y.txn) ≡ [] → Recovered old p s v → Recovered new p s v
    ended-recovered p s v none (inl r) = ⊎_elim
        (λ e. absurd (r.2 (ap (λ (k : TxnId). filter (at p s) (opens old k)) e ∙ none)))
        (λ ne. inl (
          r.0,
          Opens.Open-other i y old new app r.0 ne r.1,
          (λ f. r.2 (sym (at_same p s r.0) ∙ f)),
          r.3
              ∙ ap (undone (now old p s)) (sym (at_same p s r.0))
              ∙ ap (λ (w : Val). undone w (filter (at p s) (opens new r.0))) (sym (now_same p s)),
        ))
        (cases_txn r.0 y.txn)
    ended-recovered p s v none (inr r) =
        inr ((λ t o. at_same p s t ∙ r.0 t (Opens.Open-old i y old new app t o)), r.1 ∙ sym (now_same p s))

    -- where it has, the newest value is no longer undone
    pub ended-newest : Sound old → Open old y.txn → (p s : ℕ) → filter (at p s) (opens old y.txn) ≢ []
        → Recovered new p s (now old p s)
    ended-newest sound runs p s some = inr (
      (λ t o. ⊎_elim
          (λ e. absurd (ended (subst (Open new) e o)))
          (λ ne. at_same p s t ∙ apart old sound p s y.txn t (λ e. ne (sym e)) runs (Opens.Open-old i y old new app t o) some)
          (cases_txn t y.txn)),
      sym (now_same p s),
    )

    -- a commit leaves the value after the highest open record
    pub commit-recovered : Sound old → Open old y.txn → (p s : ℕ) (top : Rec) (below : List Rec)
        → filter (at p s) (opens old y.txn) ≡ top ∷ below → Recovered new p s top.after
    commit-recovered sound runs p s top below is =
        let linked : Linked (now old p s) (top ∷ below) =
        subst (Linked (now old p s)) is ((sound.stacks y.txn runs).linked p s) in
        subst (Recovered new p s) linked.0 (ended-newest sound runs p s (λ none. let c = sym is ∙ none in absurd (cc)))
