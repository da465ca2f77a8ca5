-- A page is written: its disk image is its newest version.
use Rattle.std.proofs.Common.{◌≡◌, ◌≢◌, ⊎_elim, ℕ, ◌<◌, ◌≤◌, true, false, ltb, List, [], ◌∷◌, refl, sym, ap, ◌∙◌, subst, arith, le-ltb}
use Rattle.std.specs.Prelude.{filter}
use Rattle.std.proofs.lemmas.Bool.{cases_eq}
use Rattle.sd_logrec.specs.View.{Rec}
use Rattle.sd_base.specs.declared.ids.TxnId.{TxnId}
use Rattle.sd_chain.specs.Records.{Val, of_page, of_rid, at, Each, home, stack, IsOpen}
use Rattle.sd_base.specs.Values.{size}
use Rattle.sd_page.specs.Page.{Page}
use Rattle.sd_chain.specs.Pages.{value, capacity, replay, FitAll}
use Rattle.sd_chain.specs.Storage.{Alone, HasPlace, Linked, Open, Recovered, Sound, Storage, chain, newest, now, opens, sorted}
use Rattle.sd_chain.specs.Changes.{Written}
use Rattle.sd_chain.proofs.Lists.{Each-weaker, all_of-same}
use Rattle.sd_chain.proofs.Capacities.{newest-within}
use Rattle.sd_chain.proofs.Chains.{replay_rises}
use Rattle.sd_chain.proofs.Apart.{Recovered-same}

-- nothing at or below the floor is applied
replay_low : (floor : ℕ) (page : Page) (xs : List Rec) → Each (λ x. x.lsn ≤ floor) xs
    → (replay floor page xs ≡ page) × FitAll floor page xs
replay_low floor page [] a = (refl, tt)
replay_low floor page (x ∷ xs) a =
    let is : ltb floor x.lsn ≡ false = le-ltb floor x.lsn a.0 in
    let ih = replay_low floor page xs a.1 in
    rw is (ih.0, ((λ lt. absurd (omega (arith, a.0, lt))), ih.1))

module _ (p : ℕ) (old new : Storage) (w : Written p old new) (sound : Sound old) where
  chain_same : (q : ℕ) → chain new q ≡ chain old q
  unfolding chain
  chain_same q = ap (λ (l : List Rec). sorted (filter (of_page q) l)) (all_of-same old.logs new.logs 9 (λ j lt. w.logs j))

  low : Each (λ x. x.lsn ≤ (newest old p).lsn) (chain old p)
  unfolding newest
  low = (replay_rises (old.disk p).lsn (old.disk p) (chain old p) (omega arith) (sound.pages p)).1

  here : newest new p ≡ newest old p
  unfolding newest
  here =
      ap (λ (d : Page). replay d.lsn d (chain new p)) w.here ∙ ap (replay (newest old p).lsn (newest old p)) (chain_same p)
      ∙ (replay_low (newest old p).lsn (newest old p) (chain old p) low).0

  other : (q : ℕ) → q ≢ p → newest new q ≡ newest old q
  unfolding newest
  other q ne = ap (λ (d : Page). replay d.lsn d (chain new q)) (w.others q ne)
      ∙ ap (replay (old.disk q).lsn (old.disk q)) (chain_same q)

  pub newest-written : (q : ℕ) → newest new q ≡ newest old q
  newest-written q = ⊎_elim (λ e. ap (newest new) e ∙ here ∙ ap (newest old) (sym e)) (other q) (cases_eq q p)

  pages_here : FitAll (new.disk p).lsn (new.disk p) (chain new p)
  pages_here = subst (λ (d : Page). FitAll d.lsn d (chain new p)) (sym w.here)
      (subst (FitAll (newest old p).lsn (newest old p)) (sym (chain_same p))
      (replay_low (newest old p).lsn (newest old p) (chain old p) low).1)

  pages : (q : ℕ) → FitAll (new.disk q).lsn (new.disk q) (chain new q)
  pages q = ⊎_elim
      (λ e. subst (λ (k : ℕ). FitAll (new.disk k).lsn (new.disk k) (chain new k)) (sym e) pages_here)
      (λ ne. subst (λ (d : Page). FitAll d.lsn d (chain new q)) (sym (w.others q ne))
      (subst (FitAll (old.disk q).lsn (old.disk q)) (sym (chain_same q)) (sound.pages q)))
      (cases_eq q p)

  disks : (q s : ℕ) → size (value (new.disk q).slots s) ≤ capacity (new.disk q).slots s
  disks q = ⊎_elim
      (λ e. subst (λ (k : ℕ). (s : ℕ) → size (value (new.disk k).slots s) ≤ capacity (new.disk k).slots s) (sym e)
      (subst (λ (d : Page). (s : ℕ) → size (value d.slots s) ≤ capacity d.slots s) (sym w.here)
      (newest-within old p (sound.disks p) (sound.pages p))))
      (λ ne. subst (λ (d : Page). (s : ℕ) → size (value d.slots s) ≤ capacity d.slots s) (sym (w.others q ne)) (sound.disks q))
      (cases_eq q p)

  opens_same : (t : TxnId) → opens new t ≡ opens old t
  opens_same t = ap (stack t) (w.logs (home t))

  open_old : (t : TxnId) → Open new t → Open old t
  open_old t o = subst (IsOpen t) (w.logs (home t)) o

  now_same : (q s : ℕ) → now new q s ≡ now old q s
  now_same q s = ap (λ (d : Page). value d.slots s) (newest-written q)

  pub written-sound : Sound new
  written-sound = record {
    disks = disks;
    pages = pages;
    stacks = λ t o. let was = sound.stacks t (open_old t o) in record {
      places = subst (Each (λ x. HasPlace (newest new x.page).slots x)) (sym (opens_same t))
          (Each-weaker (λ x. HasPlace (newest old x.page).slots x) (λ x. HasPlace (newest new x.page).slots x)
          (λ x h. subst (λ (q : Page). HasPlace q.slots x) (sym (newest-written x.page)) h) (opens old t) was.places);
      linked = λ q s. subst (λ (v : Val). Linked v (filter (at q s) (opens new t))) (sym (now_same q s))
          (subst (λ (l : List Rec). Linked (now old q s) (filter (at q s) l)) (sym (opens_same t)) (was.linked q s));
      alone = subst (Each (Alone new t)) (sym (opens_same t))
          (Each-weaker (Alone old t) (Alone new t)
          (λ x h j. subst (Each (λ z. z.txn ≢ t → of_rid x.page x.slot z ≡ true → z.lsn < x.lsn)) (sym (w.logs j)) (h j))
          (opens old t) was.alone);
    };
  }

  pub written-recovered : (q s : ℕ) (v : Val) → Recovered old q s v → Recovered new q s v
  written-recovered q s v r =
      Recovered-same old new q s open_old (λ t o. subst (IsOpen t) (sym (w.logs (home t))) o)
      (λ t. ap (filter (at q s)) (opens_same t)) (now_same q s) v r
