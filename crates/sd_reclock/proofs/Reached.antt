-- How far the search has come: what each step of it keeps, and what its two ends mean. It serves the goals of deadlock.rt.
use Rattle.std.proofs.Common.{◌≡◌, ◌≢◌, ◌⊎◌, ℕ, zero, suc, ◌+◌, ◌<◌, ◌≤◌, Bool, true, false, cond, eqb, List, [], ◌∷◌, ◌++◌, length, refl, sym, ap, subst, ◌∙◌, inl, inr, ⊎_elim, arith, eq-eqb, ne_eqb}
use Rattle.std.proofs.lemmas.Bool.{cases_lt, cases_eq, cond-true, cond-false}
use Rattle.std.proofs.lemmas.List.{get_or_append_left, get_or_push, length_push}
use Rattle.std.proofs.lemmas.List.Elements.{Contains-append_left, Contains-push, Contains-push_cases}
use Rattle.std.specs.List.{Contains}
use Rattle.sd_base.specs.declared.ids.TxnId.{TxnId}
use Rattle.sd_base.specs.Ids.{IsBelow}
use Rattle.sd_reclock.specs.declared.deadlock.Met.{Met}
use Rattle.sd_reclock.specs.Reaching.{Steps, AreThose, IsBack, IsMet, IsReached, IsWay, Precedes, met_at}
use Rattle.sd_reclock.proofs.Walks.{precedes_trans, precedes_length, precedes_more, precedes_below, precedes_less}
use Rattle.sd_base.proofs.SameIds.{cases_txn}
use Rattle.sd_base.proofs.Orders.{below_or_above}

-- the asker alone is met
abbrev pub first_met : TxnId → List Met
first_met t = record { txn = t; from = 0 } ∷ []

pub reached_start : (steps : Steps) (waits : TxnId → Type 0) (t : TxnId) (seen : TxnId → Bool) → ((u : TxnId) → seen u ≡ false) → IsReached steps waits t (first_met t) seen 0 []
reached_start steps waits t seen none = record {
  way = λ k. [];
  some = omega arith;
  start = refl;
  origin = refl;
  back = λ k low high. absurd (omega arith);
  before = λ k low high. absurd (omega arith);
  child = λ k low high e. absurd (omega arith);
  longer = λ k low high. absurd (omega arith);
  leads = λ k high. only k high;
  order = λ k l low high. absurd (omega arith);
  least = λ k high walk leads before. no_less walk before;
  closed = λ k low high. absurd (omega arith);
  gone = λ u h. let l = h.1 in absurd (omega arith);
  seen_met = λ u e. absurd (cc (none u));
  met_seen = λ u h ne. absurd (ne (sym h.2 ∙ only h.0 h.1));
}
  where
    only : (k : ℕ) → k < 1 → (met_at t (first_met t) k).txn ≡ t
    only zero h = refl
    only (suc k) h = absurd (omega arith)

    no_less : (walk : List TxnId) → Precedes walk [] → ⊥
    no_less [] h = ⊎_elim (λ l. omega arith) (λ l. l.1) h
    no_less (x ∷ xs) h = ⊎_elim (λ l. omega arith) (λ l. l.1) h

abbrev pub txn_at : TxnId → List Met → ℕ → TxnId
txn_at t found k = (met_at t found k).txn

-- the walk from t to the one at the place by its way, with its end
abbrev pub full : TxnId → List Met → (ℕ → List TxnId) → ℕ → List TxnId
full t found way k = txn_at t found k ∷ way k

-- one more
abbrev pub more : List Met → ℕ → TxnId → List Met
more found at u = found ++ record { txn = u; from = at } ∷ []

abbrev more_way : TxnId → List Met → (ℕ → List TxnId) → ℕ → ℕ → List TxnId
more_way t found way at k = cond {A = List TxnId} (eqb k (length found)) (full t found way at) (way k)

module _ (t : TxnId) (found : List Met) (way : ℕ → List TxnId) (at : ℕ) (u : TxnId) where
  old_met : (k : ℕ) → k < length found → met_at t (more found at u) k ≡ met_at t found k
  old_met k l = get_or_append_left found (record { txn = u; from = at } ∷ []) (record { txn = t; from = 0 }) k l

  new_met : (k : ℕ) → k ≡ length found → met_at t (more found at u) k ≡ record { txn = u; from = at }
  new_met k e = get_or_push found (record { txn = u; from = at }) (record { txn = t; from = 0 }) k (sym e)

  old_way : (k : ℕ) → k < length found → more_way t found way at k ≡ way k
  old_way k l = cond-false (eqb k (length found)) (full t found way at) (way k) (ne_eqb k (length found) (omega arith))

  new_way : (k : ℕ) → k ≡ length found → more_way t found way at k ≡ full t found way at
  new_way k e = cond-true (eqb k (length found)) (full t found way at) (way k) (eq-eqb k (length found) e)

  old_full : (k : ℕ) → k < length found → full t (more found at u) (more_way t found way at) k ≡ full t found way k
  old_full k l = ap (λ (x : Met). x.txn ∷ more_way t found way at k) (old_met k l) ∙ ap (λ (w : List TxnId). txn_at t found k ∷ w) (old_way k l)

  new_full : (k : ℕ) → k ≡ length found → full t (more found at u) (more_way t found way at) k ≡ u ∷ full t found way at
  new_full k e = ap (λ (x : Met). x.txn ∷ more_way t found way at k) (new_met k e) ∙ ap (λ (w : List TxnId). u ∷ w) (new_way k e)

  cases_met : (k : ℕ) → k < length (more found at u) → (k < length found) ⊎ (k ≡ length found)
  cases_met k l = let size = length_push found (record { txn = u; from = at }) in ⊎_elim (λ m. inl m) (λ m. inr (omega arith)) (cases_lt k (length found))

  still_met : (x : TxnId) → IsMet t found x → IsMet t (more found at u) x
  still_met x h = let low = h.1 in (h.0, omega (arith, length_push found (record { txn = u; from = at })), ap (λ (m : Met). m.txn) (old_met h.0 h.1) ∙ h.2)

  last_met : IsMet t (more found at u) u
  last_met = (length found, omega (arith, length_push found (record { txn = u; from = at })), ap (λ (m : Met). m.txn) (new_met (length found) refl))

  was_met : (x : TxnId) → u ≢ x → IsMet t (more found at u) x → IsMet t found x
  was_met x ne h = ⊎_elim
      (λ l. (h.0, l, ap (λ (m : Met). m.txn) (sym (old_met h.0 l)) ∙ h.2))
      (λ e. absurd (ne (ap (λ (m : Met). m.txn) (sym (new_met h.0 e)) ∙ h.2)))
      (cases_met h.0 h.1)

module _ (steps : Steps) (waits : TxnId → Type 0) (t : TxnId) (found : List Met) (seen : TxnId → Bool) (at : ℕ) (done : List TxnId) (r : IsReached steps waits t found seen at done) where
  -- the way by which the one at the place was met
  pub is_way : (n k : ℕ) → k < n → k < length found → IsWay t found k (r.way k)
  is_way zero k l h = absurd (omega arith)
  is_way (suc n) k l h = ⊎_elim
      (λ e. subst (λ (w : List TxnId). IsWay t found k w) (sym (ap r.way e ∙ r.origin)) e)
      (λ ne.
      let low : 0 < k = omega arith in
      let less = r.back k low h in
      subst (λ (w : List TxnId). IsWay t found k w) (sym (r.longer k low h)) (low, refl, is_way n (met_at t found k).from (omega arith) (omega arith)))
      (cases_eq k 0)

  -- a walk to the one at the place doesn't come before its way
  not_less : (l : ℕ) → l < length found → (x : TxnId) → txn_at t found l ≡ x → (walk : List TxnId) → IsBack steps t x walk → Precedes (x ∷ walk) (txn_at t found l ∷ r.way l) → ⊥
  not_less l inside x e walk h p = r.least l inside walk (subst (λ (z : TxnId). IsBack steps t z walk) (sym e) h)
      (precedes_less (txn_at t found l) walk (r.way l) (subst (λ (z : TxnId). Precedes (z ∷ walk) (txn_at t found l ∷ r.way l)) (sym e) p))

  later : (l : ℕ) → at ≤ l → l < length found → (walk : List TxnId) → Precedes walk (txn_at t found at ∷ r.way at) → Precedes walk (txn_at t found l ∷ r.way l)
  later l high inside walk p = ⊎_elim
      (λ e. subst (λ (k : ℕ). Precedes walk (txn_at t found k ∷ r.way k)) e p)
      (λ ne. precedes_trans walk (txn_at t found at ∷ r.way at) (txn_at t found l ∷ r.way l) p (r.order at l (omega arith) inside))
      (cases_eq at l)

  module _ (goes : (u v : TxnId) → steps u v → u ≢ t → waits u) where
    -- what a walk reaches is in front of the place, or the walk doesn't come before the way to the one at the place
    near : at < length found → (x : TxnId) (walk : List TxnId) → IsBack steps t x walk → (s : TxnId) → steps x s
        → ((k : ℕ) × (k < at) × (k < length found) × (txn_at t found k ≡ x)) ⊎ (Precedes (x ∷ walk) (txn_at t found at ∷ r.way at) → ⊥)
    near inside x [] h s step = ⊎_elim
        (λ low. inl (0, low, r.some, r.start ∙ sym h))
        (λ high.
        let e : at ≡ 0 = omega arith in
        inr (λ p. not_less at inside x (ap (λ (k : ℕ). txn_at t found k) e ∙ r.start ∙ sym h) [] h p))
        (cases_lt 0 at)
    near inside x (y ∷ ys) h s step = ⊎_elim
        (λ k.
        let c = r.closed k.0 k.1 k.2 x (subst (λ (z : TxnId). steps z x) (sym k.3) h.0) in
        let m = c.1 (goes x s step c.0) in
        ⊎_elim
        (λ low. inl (m.0, low, m.1, m.2))
        (λ high. inr (λ p. not_less m.0 m.1 x m.2 (y ∷ ys) h (later m.0 high m.1 (x ∷ y ∷ ys) p)))
        (cases_lt m.0 at))
        (λ far. inr (λ p. let l = precedes_length (x ∷ y ∷ ys) (txn_at t found at ∷ r.way at) p in far (inl (omega arith))))
        (near inside y ys h.1 x h.0)

    met_all : length found ≤ at → (x : TxnId) (walk : List TxnId) → IsBack steps t x walk → (s : TxnId) → steps x s → IsMet t found x
    met_all end x [] h s step = (0, r.some, r.start ∙ sym h)
    met_all end x (y ∷ ys) h s step =
        let m = met_all end y ys h.1 x h.0 in
        let inside = m.1 in
        let c = r.closed m.0 (omega arith) m.1 x (subst (λ (z : TxnId). steps z x) (sym m.2) h.0) in
        c.1 (goes x s step c.0)

    -- where all were looked at, no walk leads back
    pub none_back : length found ≤ at → (back : List TxnId) → 0 < length back → IsBack steps t t back → ⊥
    none_back end [] some h = omega arith
    none_back end (y ∷ ys) some h =
        let m = met_all end y ys h.1 t h.0 in
        let inside = m.1 in
        (r.closed m.0 (omega arith) m.1 t (subst (λ (z : TxnId). steps z t) (sym m.2) h.0)).0 refl

    -- no walk that leads back comes before the way to the one at the place
    pub first_back : at < length found → (back : List TxnId) → 0 < length back → IsBack steps t t back → Precedes back (txn_at t found at ∷ r.way at) → ⊥
    first_back inside [] some h p = omega arith
    first_back inside (y ∷ ys) some h p = ⊎_elim
        (λ k. (r.closed k.0 k.1 k.2 t (subst (λ (z : TxnId). steps z t) (sym k.3) h.0)).0 refl)
        (λ far. far p)
        (near inside y ys h.1 t h.0)

    -- nor one that leads to somebody who wasn't met
    fresh_least : at < length found → (u : TxnId) → waits u → (IsMet t found u → ⊥) → u ≢ t → (walk : List TxnId) → IsBack steps t u walk → Precedes walk (txn_at t found at ∷ r.way at) → ⊥
    fresh_least inside u wait fresh apart [] h p = apart h
    fresh_least inside u wait fresh apart (y ∷ ys) h p = ⊎_elim
        (λ k. fresh ((r.closed k.0 k.1 k.2 u (subst (λ (z : TxnId). steps z u) (sym k.3) h.0)).1 wait))
        (λ far. far p)
        (near inside y ys h.1 u h.0)

    -- one more of those that the one at the place waits for, which is met
    pub reached_more : at < length found → (u : TxnId) → steps (txn_at t found at) u → u ≢ t → waits u → (IsMet t found u → ⊥) → ((x : TxnId) → Contains done x → IsBelow u x → ⊥)
        → (seen' : TxnId → Bool) → seen' u ≡ true → ((x : TxnId) → u ≢ x → seen' x ≡ seen x) → IsReached steps waits t (more found at u) seen' at (done ++ u ∷ [])
    reached_more inside u step apart wait fresh above seen' sees others = record {
      way = more_way t found r.way at;
      some = omega (arith, length_push found (record { txn = u; from = at }));
      start = ap (λ (m : Met). m.txn) (old_met t found r.way at u 0 r.some) ∙ r.start;
      origin = old_way t found r.way at u 0 r.some ∙ r.origin;
      back = λ k low high. ⊎_elim
          (λ l. subst (λ (m : Met). m.from < k) (sym (old_met t found r.way at u k l)) (r.back k low l))
          (λ e. subst (λ (m : Met). m.from < k) (sym (new_met t found r.way at u k e)) (omega arith))
          (cases_met t found r.way at u k high);
      before = λ k low high. ⊎_elim
          (λ l. subst (λ (m : Met). m.from ≤ at) (sym (old_met t found r.way at u k l)) (r.before k low l))
          (λ e. subst (λ (m : Met). m.from ≤ at) (sym (new_met t found r.way at u k e)) (omega arith))
          (cases_met t found r.way at u k high);
      child = λ k low high. ⊎_elim
          (λ l. subst (λ (m : Met). m.from ≡ at → Contains (done ++ u ∷ []) m.txn) (sym (old_met t found r.way at u k l)) (λ e. Contains-append_left done (u ∷ []) (txn_at t found k) (r.child k low l e)))
          (λ e. subst (λ (m : Met). m.from ≡ at → Contains (done ++ u ∷ []) m.txn) (sym (new_met t found r.way at u k e)) (λ same. Contains-push done u))
          (cases_met t found r.way at u k high);
      longer = λ k low high. ⊎_elim
          (λ l.
          let less = r.back k low l in
          subst (λ (m : Met). more_way t found r.way at k ≡ full t (more found at u) (more_way t found r.way at) m.from) (sym (old_met t found r.way at u k l))
          (old_way t found r.way at u k l ∙ r.longer k low l ∙ sym (old_full t found r.way at u (met_at t found k).from (omega arith))))
          (λ e. subst (λ (m : Met). more_way t found r.way at k ≡ full t (more found at u) (more_way t found r.way at) m.from) (sym (new_met t found r.way at u k e))
          (new_way t found r.way at u k e ∙ sym (old_full t found r.way at u at inside)))
          (cases_met t found r.way at u k high);
      leads = λ k high. ⊎_elim
          (λ l. subst (λ (m : Met). IsBack steps t m.txn (more_way t found r.way at k)) (sym (old_met t found r.way at u k l))
          (subst (λ (w : List TxnId). IsBack steps t (txn_at t found k) w) (sym (old_way t found r.way at u k l)) (r.leads k l)))
          (λ e. subst (λ (m : Met). IsBack steps t m.txn (more_way t found r.way at k)) (sym (new_met t found r.way at u k e))
          (subst (λ (w : List TxnId). IsBack steps t u w) (sym (new_way t found r.way at u k e)) (step, r.leads at inside)))
          (cases_met t found r.way at u k high);
      order = λ k l low high. ⊎_elim
          (λ m. subst (λ (w : List TxnId). Precedes w (full t (more found at u) (more_way t found r.way at) l)) (sym (old_full t found r.way at u k (omega arith)))
          (subst (λ (w : List TxnId). Precedes (full t found r.way k) w) (sym (old_full t found r.way at u l m)) (r.order k l low m)))
          (λ e. subst (λ (w : List TxnId). Precedes w (full t (more found at u) (more_way t found r.way at) l)) (sym (old_full t found r.way at u k (omega arith)))
          (subst (λ (w : List TxnId). Precedes (full t found r.way k) w) (sym (new_full t found r.way at u l e)) (comes_last k (omega arith))))
          (cases_met t found r.way at u l high);
      least = λ k high walk. ⊎_elim
          (λ l. subst (λ (m : Met). IsBack steps t m.txn walk → Precedes walk (more_way t found r.way at k) → ⊥) (sym (old_met t found r.way at u k l))
          (subst (λ (w : List TxnId). IsBack steps t (txn_at t found k) walk → Precedes walk w → ⊥) (sym (old_way t found r.way at u k l)) (r.least k l walk)))
          (λ e. subst (λ (m : Met). IsBack steps t m.txn walk → Precedes walk (more_way t found r.way at k) → ⊥) (sym (new_met t found r.way at u k e))
          (subst (λ (w : List TxnId). IsBack steps t u walk → Precedes walk w → ⊥) (sym (new_way t found r.way at u k e)) (fresh_least inside u wait fresh apart walk)))
          (cases_met t found r.way at u k high);
      closed = λ k low high x. subst (λ (m : Met). steps m.txn x → (x ≢ t) × (waits x → IsMet t (more found at u) x)) (sym (old_met t found r.way at u k (omega arith)))
          (λ s. let c = r.closed k low (omega arith) x s in (c.0, λ w. still_met t found r.way at u x (c.1 w)));
      gone = λ x h w. ⊎_elim (λ had. still_met t found r.way at u x (r.gone x had w)) (λ e. subst (λ (z : TxnId). IsMet t (more found at u) z) e (last_met t found r.way at u)) (Contains-push_cases done u x h);
      seen_met = λ x h. ⊎_elim
          (λ e. subst (λ (z : TxnId). IsMet t (more found at u) z) e (last_met t found r.way at u))
          (λ ne. still_met t found r.way at u x (r.seen_met x (sym (others x ne) ∙ h)))
          (cases_txn u x);
      met_seen = λ x h ne. ⊎_elim
          (λ e. subst (λ (z : TxnId). seen' z ≡ true) e sees)
          (λ other. others x other ∙ r.met_seen x (was_met t found r.way at u x other h) ne)
          (cases_txn u x);
    }
      where
        -- all that were met so far come before the new one
        comes_last : (k : ℕ) → k < length found → Precedes (full t found r.way k) (u ∷ full t found r.way at)
        comes_last k l = ⊎_elim
            (λ low. let p = precedes_length (full t found r.way k) (full t found r.way at) (r.order k at low inside) in inl (omega arith))
            (λ high. ⊎_elim
            (λ e. subst (λ (j : ℕ). Precedes (full t found r.way k) (u ∷ full t found r.way j)) e (inl (omega arith)))
            (λ ne.
            let low : 0 < k = omega arith in
            let up = r.before k low l in
            subst (λ (w : List TxnId). Precedes (txn_at t found k ∷ w) (u ∷ full t found r.way at)) (sym (r.longer k low l))
            (⊎_elim
            (λ less. precedes_more (txn_at t found k) u (full t found r.way (met_at t found k).from) (full t found r.way at) (r.order (met_at t found k).from at less inside))
            (λ same.
            let e : (met_at t found k).from ≡ at = omega arith in
            subst (λ (j : ℕ). Precedes (txn_at t found k ∷ full t found r.way j) (u ∷ full t found r.way at)) (sym e)
            (precedes_below (txn_at t found k) u (full t found r.way at) (lower k l (r.child k low l e))))
            (cases_lt (met_at t found k).from at)))
            (cases_eq k at))
            (cases_lt k at)
          where
            lower : (k : ℕ) → k < length found → Contains done (txn_at t found k) → IsBelow (txn_at t found k) u
            lower k l h = ⊎_elim (λ b. b) (λ b. absurd (above (txn_at t found k) h b)) (below_or_above (txn_at t found k) u (λ e. fresh (k, l, e)))

  -- one that doesn't wait, or was met already
  pub reached_past : (u : TxnId) → (waits u → IsMet t found u) → IsReached steps waits t found seen at (done ++ u ∷ [])
  reached_past u met = record {
    way = r.way;
    some = r.some;
    start = r.start;
    origin = r.origin;
    back = r.back;
    longer = r.longer;
    leads = r.leads;
    order = r.order;
    least = r.least;
    seen_met = r.seen_met;
    met_seen = r.met_seen;
    before = r.before;
    closed = r.closed;
    child = λ k low high e. Contains-append_left done (u ∷ []) (txn_at t found k) (r.child k low high e);
    gone = λ x h w. ⊎_elim (λ had. r.gone x had w) (λ e. subst (λ (z : TxnId). waits z → IsMet t found z) e met w) (Contains-push_cases done u x h);
  }

  -- all that the one at the place waits for are done, and t isn't among them
  pub reached_next : (next : List TxnId) → next ≡ done → at < length found → AreThose (steps (txn_at t found at)) next → (steps (txn_at t found at) t → ⊥) → IsReached steps waits t found seen (at + 1) []
  reached_next next whole inside those never = record {
    way = r.way;
    some = r.some;
    start = r.start;
    origin = r.origin;
    back = r.back;
    longer = r.longer;
    leads = r.leads;
    order = r.order;
    least = r.least;
    seen_met = r.seen_met;
    met_seen = r.met_seen;
    before = λ k low high. let less = r.before k low high in omega arith;
    child = λ k low high e. let less = r.before k low high in absurd (omega arith);
    closed = λ k low high. ⊎_elim
        (λ l. r.closed k l high)
        (λ m.
        let e : at ≡ k = omega arith in
        subst (λ (j : ℕ). (x : TxnId) → steps (txn_at t found j) x → (x ≢ t) × (waits x → IsMet t found x)) e
        (λ x s. (λ same. never (subst (λ (z : TxnId). steps (txn_at t found at) z) same s), r.gone x (subst (λ (xs : List TxnId). Contains xs x) whole ((those x).1 s)))))
        (cases_lt k at);
    gone = λ x h. let l = h.1 in absurd (omega arith);
  }
