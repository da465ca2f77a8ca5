-- A log is read from a later place.
use Rattle.std.proofs.Common.{◌≡◌, ◌≢◌, ◌⊎◌, inl, inr, ⊎_elim, ℕ, zero, suc, ◌<◌, ◌≤◌, Bool, true, false, cond, ltb, ◌&&◌, List, [], ◌∷◌, ◌++◌, refl, sym, ap, ◌∙◌, subst, arith, le-ltb, ltb-true, ltb-false, ap₂}
use Rattle.std.specs.Prelude.{filter}
use Rattle.std.proofs.lemmas.Bool.{cases_Bool, cases_eq}
use Rattle.sd_logrec.specs.View.{Rec}
use Rattle.sd_base.specs.declared.ids.TxnId.{TxnId}
use Rattle.sd_base.specs.Ids.{same_txn}
use Rattle.sd_chain.specs.Records.{Val, of_page, of_rid, at, ends, Each, home, stack, step, stack_from, IsOpen}
use Rattle.sd_base.specs.Values.{size}
use Rattle.sd_page.specs.Page.{Page}
use Rattle.sd_chain.specs.Pages.{value, capacity, redo, replay, FitAll}
use Rattle.sd_chain.specs.Order.{of_txn}
use Rattle.sd_chain.specs.Storage.{Alone, HasPlace, Linked, Open, Recovered, Sound, StackFits, Storage, all_of, chain, inserted, newest, now, opens, sorted, undone}
use Rattle.sd_chain.proofs.Lists.{Each-append, Each-back, Each-weaker, filter-cons, filter-skip}
use Rattle.std.proofs.lemmas.List.Elements.{filter-append}
use Rattle.sd_chain.specs.Changes.{StartMoved}
use Rattle.sd_chain.proofs.Stacks.{stack_from-append}
use Rattle.sd_chain.proofs.Whose.{step-off, ends-off}

-- the records above the floor
abbrev pub high : ℕ → Rec → Bool
high floor x = ltb floor x.lsn

filter_inserted_go : (floor : ℕ) (x y : Rec) (ys : List Rec) (b h k : Bool) → ltb x.lsn y.lsn ≡ b → high floor x ≡ h
    → high floor y ≡ k → filter (high floor) (inserted x ys) ≡ cond (high floor x) (inserted x (filter (high floor) ys))
    (filter (high floor) ys)
    → filter (high floor) (inserted x (y ∷ ys)) ≡ cond (high floor x) (inserted x (filter (high floor) (y ∷ ys)))
    (filter (high floor) (y ∷ ys))
filter_inserted_go floor x y ys true true true b h k ih = simp (b, h, k)
filter_inserted_go floor x y ys true true false b h k ih =
    absurd (let one = ltb-true x.lsn y.lsn b in let two = ltb-true floor x.lsn h in let three = ltb-false floor y.lsn k in
    omega arith)
filter_inserted_go floor x y ys true false true b h k ih = simp (b, h, k)
filter_inserted_go floor x y ys true false false b h k ih = simp (b, h, k)
filter_inserted_go floor x y ys false true true b h k ih = simp (b, h, k) (ap (λ (l : List Rec). y ∷ l) (simp h at ih))
filter_inserted_go floor x y ys false true false b h k ih = simp (b, h, k) (simp h at ih)
filter_inserted_go floor x y ys false false true b h k ih = simp (b, h, k) (ap (λ (l : List Rec). y ∷ l) (simp h at ih))
filter_inserted_go floor x y ys false false false b h k ih = simp (b, h, k) (simp h at ih)

filter_inserted : (floor : ℕ) (x : Rec) (xs : List Rec)
    → filter (high floor) (inserted x xs) ≡ cond (high floor x) (inserted x (filter (high floor) xs)) (filter (high floor) xs)
filter_inserted floor x [] = refl
filter_inserted floor x (y ∷ ys) =
    filter_inserted_go floor x y ys (ltb x.lsn y.lsn) (high floor x) (high floor y) refl refl refl (filter_inserted floor x ys)

filter_sorted : (floor : ℕ) (xs : List Rec) → filter (high floor) (sorted xs) ≡ sorted (filter (high floor) xs)
filter_sorted floor [] = refl
filter_sorted floor (x ∷ xs) = filter_inserted floor x (sorted xs)
    ∙ ap (λ (l : List Rec). cond (high floor x) (inserted x l) l) (filter_sorted floor xs) ∙ by_cases (high floor x)
  where
    by_cases : (b : Bool)
        → cond b (inserted x (sorted (filter (high floor) xs))) (sorted (filter (high floor) xs)) ≡ sorted
        (cond b (x ∷ filter (high floor) xs) (filter (high floor) xs))
    by_cases true = refl
    by_cases false = refl

-- the others change nothing
pub replay_high : (floor : ℕ) (page : Page) (xs : List Rec) → replay floor page xs ≡ replay floor page (filter (high floor) xs)
replay_high floor page [] = refl
replay_high floor page (x ∷ xs) = ⊎_elim
    (λ b. ap (λ (c : Bool). replay floor (cond c (redo page x) page) xs) b ∙ replay_high floor (redo page x) xs
    ∙ sym (ap (replay floor page) (filter-cons (high floor) x xs b)
    ∙ ap (λ (c : Bool). replay floor (cond c (redo page x) page) (filter (high floor) xs)) b))
    (λ b. ap (λ (c : Bool). replay floor (cond c (redo page x) page) xs) b ∙ replay_high floor page xs
    ∙ sym (ap (replay floor page) (filter-skip (high floor) x xs b)))
    (cases_Bool (ltb floor x.lsn))

pub fit_to_high : (floor : ℕ) (page : Page) (xs : List Rec) → FitAll floor page xs → FitAll floor page (filter (high floor) xs)
fit_to_high floor page [] a = tt
fit_to_high floor page (x ∷ xs) a = ⊎_elim
    (λ b. subst (FitAll floor page) (sym (filter-cons (high floor) x xs b)) (
      a.0,
      subst (λ (c : Bool). FitAll floor (cond c (redo page x) page) (filter (high floor) xs)) (sym b)
          (fit_to_high floor (redo page x) xs (subst (λ (c : Bool). FitAll floor (cond c (redo page x) page) xs) b a.1)),
    ))
    (λ b. subst (FitAll floor page) (sym (filter-skip (high floor) x xs b))
    (fit_to_high floor page xs (subst (λ (c : Bool). FitAll floor (cond c (redo page x) page) xs) b a.1)))
    (cases_Bool (ltb floor x.lsn))

pub fit_from_high : (floor : ℕ) (page : Page) (xs : List Rec) → FitAll floor page (filter (high floor) xs) → FitAll floor page xs
fit_from_high floor page [] a = tt
fit_from_high floor page (x ∷ xs) a = ⊎_elim
    (λ b. let c : FitAll floor page (x ∷ filter (high floor) xs) =
    subst (FitAll floor page) (filter-cons (high floor) x xs b) a in (
      c.0,
      subst (λ (c : Bool). FitAll floor (cond c (redo page x) page) xs) (sym b)
          (fit_from_high floor (redo page x) xs
          (subst (λ (c : Bool). FitAll floor (cond c (redo page x) page) (filter (high floor) xs)) b c.1)),
    ))
    (λ b. (
      (λ lt. absurd (let low = ltb-false floor x.lsn b in omega arith)),
      subst (λ (c : Bool). FitAll floor (cond c (redo page x) page) xs) (sym b)
          (fit_from_high floor page xs (subst (FitAll floor page) (filter-skip (high floor) x xs b) a)),
    ))
    (cases_Bool (ltb floor x.lsn))

-- the records of a page above the floor, from each log
of_high : ℕ → ℕ → List Rec → List Rec
of_high floor p xs = filter (high floor) (filter (of_page p) xs)

of_high-append : (floor p : ℕ) (xs ys : List Rec) → of_high floor p (xs ++ ys) ≡ of_high floor p xs ++ of_high floor p ys
unfolding of_high
of_high-append floor p xs ys = ap (filter (high floor)) (filter-append (of_page p) xs ys)
    ∙ filter-append (high floor) (filter (of_page p) xs) (filter (of_page p) ys)

of_high-all_of : (floor p : ℕ) (logs logs' : ℕ → List Rec) → ((j : ℕ) → of_high floor p (logs' j) ≡ of_high floor p (logs j))
    → (n : ℕ) → of_high floor p (all_of logs' n) ≡ of_high floor p (all_of logs n)
unfolding all_of
of_high-all_of floor p logs logs' e zero = refl
of_high-all_of floor p logs logs' e (suc n) =
    of_high-append floor p (logs' n) (all_of logs' n)
    ∙ ap₂ (λ (a b : List Rec). a ++ b) (e n) (of_high-all_of floor p logs logs' e n)
    ∙ sym (of_high-append floor p (logs n) (all_of logs n))

of_high-low : (floor p : ℕ) (xs : List Rec) → Each (λ x. of_page p x ≡ true → x.lsn ≤ floor) xs → of_high floor p xs ≡ []
unfolding of_high
of_high-low floor p [] a = refl
of_high-low floor p (x ∷ xs) a = ⊎_elim
    (λ is. ap (filter (high floor)) (filter-cons (of_page p) x xs is)
    ∙ filter-skip (high floor) x (filter (of_page p) xs) (le-ltb floor x.lsn (a.0 is)) ∙ of_high-low floor p xs a.1)
    (λ is. ap (filter (high floor)) (filter-skip (of_page p) x xs is) ∙ of_high-low floor p xs a.1)
    (cases_Bool (of_page p x))

pub stack_from-none : (t : TxnId) (stk xs : List Rec) → Each (λ x. of_txn t x ≡ false) xs → stack_from t stk xs ≡ stk
stack_from-none t stk [] a = refl
stack_from-none t stk (x ∷ xs) a = stack_from-none t (step t stk x) xs a.1 ∙ step-off t stk x a.0

module _ (i : ℕ) (gone : List Rec) (old new : Storage) (m : StartMoved i gone old new) where
  same_high : (p j : ℕ) → of_high (old.disk p).lsn p (new.logs j) ≡ of_high (old.disk p).lsn p (old.logs j)
  same_high p j = ⊎_elim
      (λ e. let f = (old.disk p).lsn in
      ap (λ (k : ℕ). of_high f p (new.logs k)) e
      ∙ sym (ap (λ (l : List Rec). l ++ of_high f p (new.logs i))
      (of_high-low f p gone
      (Each-weaker (λ x. (q : ℕ) → of_page q x ≡ true → x.lsn ≤ (old.disk q).lsn) (λ x. of_page p x ≡ true → x.lsn ≤ f)
      (λ x h. h p) gone m.on_disk)))
      ∙ sym (of_high-append f p gone (new.logs i)) ∙ ap (of_high f p) (sym m.here)
      ∙ ap (λ (k : ℕ). of_high f p (old.logs k)) (sym e))
      (λ ne. ap (of_high (old.disk p).lsn p) (m.others j ne))
      (cases_eq j i)

  chain_high : (p : ℕ) → filter (high (old.disk p).lsn) (chain new p) ≡ filter (high (old.disk p).lsn) (chain old p)
  unfolding chain of_high
  chain_high p =
      let f = (old.disk p).lsn in
      filter_sorted f (filter (of_page p) (all_of new.logs 9)) ∙ ap sorted (of_high-all_of f p old.logs new.logs (same_high p) 9)
      ∙ sym (filter_sorted f (filter (of_page p) (all_of old.logs 9)))

  pub newest-moved : (p : ℕ) → newest new p ≡ newest old p
  unfolding newest
  newest-moved p =
      let d = old.disk p in
      ap (λ (d : Page). replay d.lsn d (chain new p)) (m.disk p) ∙ replay_high d.lsn d (chain new p)
      ∙ ap (replay d.lsn d) (chain_high p) ∙ sym (replay_high d.lsn d (chain old p))

  pages : Sound old → (p : ℕ) → FitAll (new.disk p).lsn (new.disk p) (chain new p)
  pages sound p =
      let d = old.disk p in
      subst (λ (d : Page). FitAll d.lsn d (chain new p)) (sym (m.disk p))
      (fit_from_high d.lsn d (chain new p)
      (subst (FitAll d.lsn d) (sym (chain_high p)) (fit_to_high d.lsn d (chain old p) (sound.pages p))))

  log_of : (t : TxnId) → home t ≡ i → old.logs (home t) ≡ gone ++ new.logs (home t)
  log_of t e = ap old.logs e ∙ m.here ∙ ap (λ (k : ℕ). gone ++ new.logs k) (sym e)

  kept_open : (t : TxnId) → Each (λ x. of_txn t x ≡ false) gone → home t ≡ i → Open new t → Open old t
  kept_open t none e o =
      subst (IsOpen t) (sym (log_of t e))
      (Each-append (λ x. (ends x.kind && same_txn x.txn t) ≡ false) gone (new.logs (home t))
      (Each-weaker (λ x. of_txn t x ≡ false) (λ x. (ends x.kind && same_txn x.txn t) ≡ false)
      (λ x off. ends-off t x off) gone none) o)

  kept_stack : (t : TxnId) → Each (λ x. of_txn t x ≡ false) gone → home t ≡ i → opens new t ≡ opens old t
  kept_stack t none e =
      sym (ap (stack t) (log_of t e) ∙ stack_from-append t [] gone (new.logs (home t))
      ∙ ap (λ (l : List Rec). stack_from t l (new.logs (home t))) (stack_from-none t [] gone none))

  -- an open transaction has its stack, or had been closed and has no record
  stack_back : (t : TxnId) → Open new t → (Open old t × (opens new t ≡ opens old t)) ⊎ (opens new t ≡ [])
  stack_back t o = ⊎_elim
      (λ e. ⊎_elim
      (λ none. inl (kept_open t none e o, kept_stack t none e))
      (λ c. ⊎_elim (λ shut. absurd (shut o))
      (λ lost. inr (ap (λ (k : ℕ). stack t (new.logs k)) e ∙ stack_from-none t [] (new.logs i) lost.1)) c)
      (m.closed t e))
      (λ ne. inl (subst (IsOpen t) (m.others (home t) ne) o, ap (stack t) (m.others (home t) ne)))
      (cases_eq (home t) i)

  still_open : (t : TxnId) → Open old t → Open new t
  still_open t o = ⊎_elim
      (λ e. Each-back (λ x. (ends x.kind && same_txn x.txn t) ≡ false) gone (new.logs (home t)) (subst (IsOpen t) (log_of t e) o))
      (λ ne. subst (IsOpen t) (sym (m.others (home t) ne)) o)
      (cases_eq (home t) i)

  stack_on : (t : TxnId) → Open old t → opens new t ≡ opens old t
  stack_on t o = ⊎_elim
      (λ e. ⊎_elim
      (λ none. kept_stack t none e)
      (λ c. ⊎_elim (λ shut. absurd (shut (still_open t o))) (λ lost. absurd (lost.0 o)) c)
      (m.closed t e))
      (λ ne. ap (stack t) (m.others (home t) ne))
      (cases_eq (home t) i)

  now_same : (p s : ℕ) → now new p s ≡ now old p s
  now_same p s = ap (λ (d : Page). value d.slots s) (newest-moved p)

  fewer : (P : Rec → Type 0) (j : ℕ) → Each P (old.logs j) → Each P (new.logs j)
  fewer P j a = ⊎_elim
      (λ e. subst (λ (k : ℕ). Each P (new.logs k)) (sym e)
      (Each-back P gone (new.logs i) (subst (Each P) m.here (subst (λ (k : ℕ). Each P (old.logs k)) e a))))
      (λ ne. subst (Each P) (sym (m.others j ne)) a)
      (cases_eq j i)

  fits_kept : (t : TxnId) → opens new t ≡ opens old t → StackFits old t → StackFits new t
  fits_kept t same was = record {
    places = subst (Each (λ x. HasPlace (newest new x.page).slots x)) (sym same)
        (Each-weaker (λ x. HasPlace (newest old x.page).slots x) (λ x. HasPlace (newest new x.page).slots x)
        (λ x h. subst (λ (q : Page). HasPlace q.slots x) (sym (newest-moved x.page)) h) (opens old t) was.places);
    linked = λ p s. subst (λ (v : Val). Linked v (filter (at p s) (opens new t))) (sym (now_same p s))
        (subst (λ (l : List Rec). Linked (now old p s) (filter (at p s) l)) (sym same) (was.linked p s));
    alone = subst (Each (Alone new t)) (sym same)
        (Each-weaker (Alone old t) (Alone new t)
        (λ x h j. fewer (λ z. z.txn ≢ t → of_rid x.page x.slot z ≡ true → z.lsn < x.lsn) j (h j)) (opens old t) was.alone);
  }

  fits_none : (t : TxnId) → opens new t ≡ [] → StackFits new t
  fits_none t none = record {
    places = subst (Each (λ x. HasPlace (newest new x.page).slots x)) (sym none) tt;
    linked = λ p s. subst (λ (l : List Rec). Linked (now new p s) (filter (at p s) l)) (sym none) tt;
    alone = subst (Each (Alone new t)) (sym none) tt;
  }

  pub moved-sound : Sound old → Sound new
  moved-sound sound = record {
    disks = λ p. subst (λ (d : Page). (s : ℕ) → size (value d.slots s) ≤ capacity d.slots s) (sym (m.disk p)) (sound.disks p);
    pages = pages sound;
    stacks = λ t o. ⊎_elim (λ same. fits_kept t same.1 (sound.stacks t same.0)) (fits_none t) (stack_back t o);
  }

  pub moved-recovered : (p s : ℕ) (v : Val) → Recovered old p s v → Recovered new p s v
  moved-recovered p s v (inl r) = inl (
    r.0,
    still_open r.0 r.1,
    (λ none. r.2 (sym (ap (filter (at p s)) (stack_on r.0 r.1)) ∙ none)),
    r.3 ∙ ap (λ (l : List Rec). undone (now old p s) (filter (at p s) l)) (sym (stack_on r.0 r.1))
        ∙ ap (λ (w : Val). undone w (filter (at p s) (opens new r.0))) (sym (now_same p s)),
  )
  moved-recovered p s v (inr r) = inr (
    (λ t o. ⊎_elim (λ same. ap (filter (at p s)) same.1 ∙ r.0 t same.0) (λ none. ap (filter (at p s)) none) (stack_back t o)),
    r.1 ∙ sym (now_same p s),
  )
