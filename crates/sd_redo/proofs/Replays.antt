-- A chain replayed record by record. It serves the goals of replaying.rt.
use Rattle.std.proofs.Common.{◌≡◌, ℕ, ◌+◌, ◌<◌, ◌≤◌, Bool, cond, ltb, List, [], ◌∷◌, ◌++◌, length, take, drop, get_or, refl, sym, ap, ◌∙◌, subst, arith, lt-ltb, le-ltb}
use Rattle.std.proofs.lemmas.List.{append_assoc, map-append, take-append-drop, take_all, take_more}
use Rattle.sd_logrec.specs.View.{Rec, flat}
use Rattle.sd_page.specs.Page.{Page}
use Rattle.sd_log.specs.declared.placed.Placed.{Placed}
use Rattle.sd_log.specs.Logs.{flats, lsn_of}
use Rattle.sd_chain.specs.Pages.{FitAll, FitsPage, redo, replay}
use Rattle.sd_chain.proofs.Chains.{FitAll-append, FitAll-back, replay-append}
use Rattle.sd_redo.specs.Replayed.{IsStopped}

-- the page after so many records of a chain, all of which fit
pub record Replayed (first now : Page) (chain : List Placed) (i : ℕ) : Type 0 where
  pub fits : FitAll first.lsn first (flats (take i chain))
  pub is : now ≡ replay first.lsn first (flats (take i chain))

module _ (first now : Page) (chain : List Placed) (i : ℕ) (so_far : Replayed first now chain i) where
  pub all_fit : length chain ≤ i → FitAll first.lsn first (flats chain)
  all_fit le = subst (λ (l : List Placed). FitAll first.lsn first (flats l)) (take_all i chain le) so_far.fits

  pub all_replayed : length chain ≤ i → now ≡ replay first.lsn first (flats chain)
  all_replayed le = so_far.is ∙ ap (λ (l : List Placed). replay first.lsn first (flats l)) (take_all i chain le)

  module _ (x : Placed) (lt : i < length chain) (x_is : x ≡ get_or chain i x) where
    one_more : flats (take (i + 1) chain) ≡ flats (take i chain) ++ flat x.rec ∷ []
    one_more =
        ap flats (take_more chain i x lt ∙ ap (λ (p : Placed). take i chain ++ p ∷ []) (sym x_is))
        ∙ map-append (λ (p : Placed). flat p.rec) (take i chain) (x ∷ [])

    step : (b : Bool) (after : Page) → ltb first.lsn (lsn_of x) ≡ b → (first.lsn < lsn_of x → FitsPage now (flat x.rec))
        → after ≡ cond b (redo now (flat x.rec)) now → Replayed first after chain (i + 1)
    step b after is fits made = record {
      fits = subst (FitAll first.lsn first) (sym one_more)
          (FitAll-append first.lsn first (flats (take i chain)) (flat x.rec ∷ []) so_far.fits
          (λ up. subst (λ (q : Page). FitsPage q (flat x.rec)) so_far.is (fits up), tt));
      is = made ∙ ap (λ (c : Bool). cond c (redo now (flat x.rec)) now) (sym is)
          ∙ ap (λ (q : Page). cond (ltb first.lsn (lsn_of x)) (redo q (flat x.rec)) q) so_far.is
          ∙ sym (replay-append first.lsn first (flats (take i chain)) (flat x.rec ∷ []))
          ∙ ap (replay first.lsn first) (sym one_more);
    }

    -- a record that the page has
    pub passed_over : lsn_of x ≤ first.lsn → Replayed first now chain (i + 1)
    passed_over le = step _ now (le-ltb first.lsn (lsn_of x) le) (λ up. absurd (omega arith)) refl

    pub redone : (after : Page) → first.lsn < lsn_of x → FitsPage now (flat x.rec) → after ≡ redo now (flat x.rec)
        → Replayed first after chain (i + 1)
    redone after up fits made = step _ after (lt-ltb first.lsn (lsn_of x) up) (λ _. fits) made

    all_parts : flats chain ≡ flats (take i chain) ++ flat x.rec ∷ flats (drop (i + 1) chain)
    all_parts =
        ap flats (sym (take-append-drop (i + 1) chain)) ∙ map-append (λ (p : Placed). flat p.rec) (take (i + 1) chain) (drop (i + 1) chain)
        ∙ ap (λ (l : List Rec). l ++ flats (drop (i + 1) chain)) one_more
        ∙ append_assoc (flats (take i chain)) (flat x.rec ∷ []) (flats (drop (i + 1) chain))

    -- one that doesn't fit
    pub stops : first.lsn < lsn_of x → (FitsPage now (flat x.rec) → ⊥) → IsStopped first now (flats chain)
    stops up bad = record {
      before = flats (take i chain);
      next = flat x.rec;
      behind = flats (drop (i + 1) chain);
      parts = all_parts;
      fits = so_far.fits;
      is = so_far.is;
      above = up;
      misfit = bad;
    }

-- a page that stops doesn't fit the chain
pub stopped_misfit : (first now : Page) (chain : List Rec) → IsStopped first now chain → FitAll first.lsn first chain → ⊥
stopped_misfit first now chain s fit =
    let back = FitAll-back first.lsn first s.before (s.next ∷ s.behind) (subst (FitAll first.lsn first) s.parts fit) in
    s.misfit (subst (λ (q : Page). FitsPage q s.next) (sym s.is) (back.0 s.above))
