-- The loser at which taking back stops is the first open transaction whose stack isn't as it was left. It serves the goals of undone.
use Rattle.std.proofs.Common.{◌≡◌, ◌≢◌, ◌⊎◌, inl, inr, ⊎_elim, ◌+◌, ◌-◌, ◌<◌, ℕ, suc, List, [], ◌∷◌, ◌++◌, append_assoc, reverse, slice_get, take, drop, refl, sym, ap, ap₂, subst, ◌∙◌, arith}
use Rattle.std.specs.Prelude.{All, filter}
use Rattle.std.proofs.lemmas.Bool.{cases_Bool}
use Rattle.sd_base.specs.declared.ids.TxnId.{TxnId}
use Rattle.sd_base.specs.Ids.{IsBelow}
use Rattle.sd_page.specs.Page.{Page}
use Rattle.sd_logrec.specs.View.{Rec}
use Rattle.sd_logrec.specs.View.Kind.{Update}
use Rattle.sd_log.specs.Logs.{AreSpelled, LogState, flats, scanned}
use Rattle.sd_chain.specs.Records.{Each, Val, at, home, stack}
use Rattle.sd_chain.specs.Storage.{Alone, HasPlace, Linked, Open, StackFits, Storage, now, opens}
use Rattle.sd_chain.specs.Undoing.{Member, stacks_of, undo_all}
use Rattle.sd_chain.proofs.Recover.{linked_found}
use Rattle.sd_recovered.specs.declared.losers.Loser.{Loser}
use Rattle.sd_recovered.specs.Losers.{IsLoser}
use Rattle.sd_recovered.specs.Others.{by_others}
use Rattle.sd_recovered.specs.UndoPass.{AreLosersOf, NewestAreRead, txns_of}
use Rattle.sd_recovered.specs.Stops.{FirstMisfit, StandsLowest, StopsAt, front_of}
use Rattle.sd_recovered.specs.Taking.{MayTake, picked}
use Rattle.sd_recovered.specs.Values.{slots_in, values_in}
use Rattle.sd_recovered.proofs.Alones.{first-at, nil_or, not-both}
use Rattle.sd_recovered.proofs.Finds.{undo-off}
use Rattle.sd_recovered.proofs.Fronts.{AtLog, AtLoser, at_log, at_loser, not-below, rises-back}
use Rattle.sd_recovered.proofs.Lowest.{Lowest, lowest}
use Rattle.sd_recovered.proofs.OpenStacks.{Each-both, Right, Rises, are-open, below-ne, follows-all, ids, log-of, losers-rise, picked-is, rights, stacks-of}
use Rattle.sd_recovered.proofs.Stacks.{stacks-append}
use Rattle.sd_recovered.proofs.Steps.{found-append}
use Rattle.sd_recovered.proofs.TakenBack.{agree, each-alone, fits-last, fits-places, member-fits, nil-fits}
use Rattle.sd_chain.proofs.Lists.{filter-cons, filter-skip, Each-append, Each-front, Each-back, Each-weaker}
use Rattle.sd_chain.proofs.Members.{member-each}
use Rattle.sd_chain.proofs.Newest.{at_is}

-- ---- a stack that fits, behind others that may be taken back

filter-append-nil : (p s : ℕ) (xs ys : List Rec) → filter (at p s) xs ≡ [] → filter (at p s) ys ≡ [] → filter (at p s) (xs ++ ys) ≡ []
filter-append-nil p s [] ys e f = f
filter-append-nil p s (x ∷ xs) ys e f = ⊎_elim
    (λ is. let clash : x ∷ filter (at p s) xs ≡ [] = sym (filter-cons (at p s) x xs is) ∙ e in absurd (cc))
    (λ is. filter-skip (at p s) x (xs ++ ys) is ∙ filter-append-nil p s xs ys (sym (filter-skip (at p s) x xs is) ∙ e) f)
    (cases_Bool (at p s x))

none-at : (img : Storage) (p s : ℕ) (ts : List TxnId) → Each (λ u. filter (at p s) (opens img u) ≡ []) ts
    → filter (at p s) (stacks_of img ts) ≡ []
none-at img p s [] a = refl
none-at img p s (t ∷ ts) a = filter-append-nil p s (opens img t) (stacks_of img ts) a.0 (none-at img p s ts a.1)

module _ (img : Storage) (pages : List Page) (logs : List LogState) (read : NewestAreRead img pages logs) (ts : List TxnId) (t : TxnId)
    (right : Each (λ u. Each (Right u) (opens img u)) ts) (own : Each (Right t) (opens img t)) (apart : Each (λ u. t ≢ u) ts) where
  pub fit-takes : MayTake pages (by_others logs) (stacks_of img ts) → StackFits img t
      → MayTake pages (by_others logs) (stacks_of img ts ++ opens img t)
  fit-takes may fits = record {
    kinds = Each-append (λ x. x.kind ≡ Update) (stacks_of img ts) (opens img t) may.kinds
        (Each-weaker (Right t) (λ x. x.kind ≡ Update) (λ x r. r.1) (opens img t) own);
    found = found-append (values_in pages) (stacks_of img ts) (opens img t) may.found (linked_found after (opens img t) linked);
    places = Each-append (λ x. HasPlace (slots_in pages x.page) x) (stacks_of img ts) (opens img t) may.places
        (fits-places img pages logs read t own fits.places);
    last = Each-append (λ x. by_others logs x.txn x.page x.slot < x.lsn) (stacks_of img ts) (opens img t) may.last
        (fits-last img pages logs read t own fits.alone);
  }
    where
      after : ℕ → ℕ → Val
      after = undo_all (values_in pages) (stacks_of img ts)

      alones : Each (λ u. Each (Alone img u) (opens img u)) ts
      alones = each-alone img pages logs read ts right may

      -- nothing in front has a record at a place of the stack
      same : (p s : ℕ) → filter (at p s) (opens img t) ≢ [] → now img p s ≡ after p s
      same p s some =
          let x = first-at (λ x. x.page < 1024) p s (opens img t)
          (Each-weaker (Right t) (λ x. x.page < 1024) (λ x r. r.2) (opens img t) own) some in
          let low : p < 1024 = let e = (at_is p s x.0 x.1).0 in let lt = x.2 in omega (arith, e, lt) in
          let none : Each (λ u. filter (at p s) (opens img u) ≡ []) ts =
          Each-both (λ u. Each (Alone img u) (opens img u)) (λ u. t ≢ u) (λ u. filter (at p s) (opens img u) ≡ [])
          (λ u a ne. not-both img p s t u ne fits.alone a some) ts alones apart in
          sym (undo-off (values_in pages) (stacks_of img ts) p s (none-at img p s ts none) ∙ agree img pages logs read p s low)

      linked : (p s : ℕ) → Linked (after p s) (filter (at p s) (opens img t))
      linked p s = ⊎_elim
          (λ nil. subst (Linked (after p s)) (sym nil) tt)
          (λ some. subst (λ (v : Val). Linked v (filter (at p s) (opens img t))) (same p s some) (fits.linked p s))
          (nil_or (filter (at p s) (opens img t)))

-- ---- members of a list in parts

part-of : (t u : TxnId) (ts us : List TxnId) → Member t (ts ++ u ∷ us) → Member t ts ⊎ ((t ≡ u) ⊎ Member t us)
part-of t u [] us m = inr m
part-of t u (x ∷ ts) us (inl e) = inl (inl e)
part-of t u (x ∷ ts) us (inr m) = ⊎_elim (λ n. inl (inr n)) (λ n. inr n) (part-of t u ts us m)

each-of : (P : TxnId → Type 0) (ts : List TxnId) (t : TxnId) (us : List TxnId) → Each P (ts ++ t ∷ us) → P t
each-of P ts t us a = (Each-back P ts (t ∷ us) a).0

apart-of : (ts : List TxnId) (t : TxnId) (us : List TxnId) → Rises (ts ++ t ∷ us) → Each (λ u. t ≢ u) ts
apart-of [] t us r = tt
apart-of (x ∷ ts) t us r =
    ((λ e. below-ne x t ((Each-back (λ u. IsBelow x u) ts (t ∷ us) r.0).0) (sym e)), apart-of ts t us r.1)

-- ---- the loser at which taking back stops

module _ (img : Storage) (pages : List Page) (logs : List LogState) (losers : List (List Loser)) (inst place : ℕ)
    (read : NewestAreRead img pages logs) (found : AreLosersOf logs losers) (spelled : All (λ log. AreSpelled (scanned log)) logs)
    (s : StopsAt pages (by_others logs) logs losers inst place) where
  h : AtLog img 1 s.number logs losers s.log s.own
  h = at_log img 1 s.number logs losers s.log s.own (follows-all img logs losers read.logs_are found) found s.log_is s.own_are

  abbrev IsMine : Loser → Type 0
  IsMine l = IsLoser (scanned s.log) l × (home l.txn ≡ 1 + s.number)

  g : AtLoser IsMine s.index s.own s.loser
  g = at_loser IsMine s.index s.own s.loser
      (Each-both (IsLoser (scanned s.log)) (λ l. home l.txn ≡ 1 + s.number) IsMine (λ l a b. (a, b)) s.own h.own.losers_are.each h.own.own)
      s.there

  -- the transactions in front, this one, and those behind
  abbrev ts : List TxnId
  ts = txns_of (take s.number losers) ++ ids (take s.index s.own)

  abbrev t : TxnId
  t = s.loser.txn

  abbrev us : List TxnId
  us = ids (drop (suc s.index) s.own) ++ txns_of (drop (suc s.number) losers)

  parts : txns_of losers ≡ ts ++ t ∷ us
  parts =
      let first : List TxnId = txns_of (take s.number losers) in
      let last : List TxnId = txns_of (drop (suc s.number) losers) in
      h.txns ∙ ap (λ (l : List TxnId). first ++ (l ++ last)) g.txns
      ∙ ap (λ (l : List TxnId). first ++ l) (append_assoc (ids (take s.index s.own)) (t ∷ ids (drop (suc s.index) s.own)) last)
      ∙ sym (append_assoc first (ids (take s.index s.own)) (t ∷ us))

  front_is : front_of logs losers s.number s.log s.own s.index ≡ stacks_of img ts
  front_is =
      ap₂ (λ (x y : List Rec). x ++ y) h.front
      (stacks-of img (1 + s.number) s.log h.log_is (take s.index s.own)
      (Each-weaker IsMine (IsLoser (scanned s.log)) (λ l m. m.0) (take s.index s.own) g.front)
      (Each-weaker IsMine (λ l. home l.txn ≡ 1 + s.number) (λ l m. m.1) (take s.index s.own) g.front))
      ∙ sym (stacks-append img (txns_of (take s.number losers)) (ids (take s.index s.own)))

  there : img.logs (home t) ≡ flats (scanned s.log)
  there = log-of img (1 + s.number) s.log h.log_is t g.own.1

  stack_is : picked (scanned s.log) (reverse s.loser.open) ≡ opens img t
  stack_is = picked-is (scanned s.log) s.loser.open (stack t (flats (scanned s.log))) g.own.0.stack_is ∙ ap (stack t) (sym there)

  rise : Rises (ts ++ t ∷ us)
  rise = subst Rises parts (losers-rise 1 logs losers found)

  right : Each (λ u. Each (Right u) (opens img u)) (ts ++ t ∷ us)
  right = subst (Each (λ u. Each (Right u) (opens img u))) parts (rights img logs losers read.logs_are found spelled)

  right_front : Each (λ u. Each (Right u) (opens img u)) ts
  right_front = Each-front (λ u. Each (Right u) (opens img u)) ts (t ∷ us) right

  may : MayTake pages (by_others logs) (stacks_of img ts)
  may = subst (MayTake pages (by_others logs)) front_is s.front

  wrong : StackFits img t → ⊥
  wrong fits = s.stops (subst (MayTake pages (by_others logs)) (sym (ap₂ (λ (x y : List Rec). x ++ y) front_is stack_is))
      (fit-takes img pages logs read ts t right_front (each-of (λ u. Each (Right u) (opens img u)) ts t us right)
      (apart-of ts t us rise) may fits))

  before : (u : TxnId) → IsBelow u t → Open img u → StackFits img u
  before u lt o = ⊎_elim (nil-fits img pages logs read u) (λ m. listed (part-of u t ts us (subst (Member u) parts m)))
      ((are-open img logs losers read.logs_are found).all u o)
    where
      listed : Member u ts ⊎ ((u ≡ t) ⊎ Member u us) → StackFits img u
      listed (inl m) = member-fits img pages logs read ts right_front may u m
      listed (inr (inl e)) = absurd (below-ne u t lt e)
      listed (inr (inr m)) = absurd (not-below u t lt (member-each (λ v. IsBelow t v) u us m (rises-back ts t us rise)))

  low : Lowest (scanned s.log) s.loser.open (opens img t)
  low = subst (Lowest (scanned s.log) s.loser.open) (ap (stack t) (sym there))
      (lowest (scanned s.log) s.loser.open (stack t (flats (scanned s.log))) g.own.0.stack_is
      (λ nil. wrong (nil-fits img pages logs read t (ap (stack t) there ∙ nil))))

  stands : StandsLowest img logs t place
  stands =
      let number : t.inst ≡ 1 + s.number = g.own.1 in
      let back : t.inst - 1 ≡ s.number = omega (arith, number) in record {
        log = s.log;
        some = omega (arith, number);
        log_is = ap (slice_get logs) back ∙ s.log_is;
        index = low.index;
        found = low.found;
        there = low.there;
        place_is = s.place_is ∙ low.place_is;
        above = low.above;
        parts = low.parts;
      }

  pub first_misfit : FirstMisfit img logs inst place
  first_misfit = record {
    txn = t;
    home = s.inst_is;
    open_ = each-of (Open img) ts t us (subst (Each (Open img)) parts (are-open img logs losers read.logs_are found).each);
    before = before;
    wrong = wrong;
    lowest = stands;
  }
