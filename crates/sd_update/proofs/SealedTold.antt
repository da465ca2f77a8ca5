-- A table whose row is shut as the end of its transaction comes to the log: for the laws of `sealing`.
use Rattle.std.proofs.Common.{◌≡◌, ◌≢◌, inl, inr, ℕ, ◌+◌, ◌≤◌, Bool, true, false, List, [], ◌∷◌, ◌++◌, ◌&&◌, length, refl, sym, ap, ap₂, ◌∙◌, subst, arith, ⊎_elim}
use Rattle.std.specs.Prelude.{Option, None, Some, is_some, map, reverse, sum_by, if◌then◌else◌}
use Rattle.std.specs.List.{IsDistinct}
use Rattle.std.proofs.lemmas.List.{length-map, length-reverse, reverse-reverse}
use Rattle.std.proofs.lemmas.List.Sums.{sum_by-cons}
use Rattle.std.proofs.lemmas.List.Sorted.{IsPermutation-reverse, sum_by-IsPermutation}
use Rattle.sd_base.specs.declared.ids.TxnId.{TxnId}
use Rattle.sd_base.specs.Ids.{same_txn}
use Rattle.sd_base.specs.Values.{size}
use Rattle.sd_base.proofs.SameIds.{cases_txn, eq-same, ne-same}
use Rattle.sd_logrec.specs.View.{Kind, Rec, flat}
use Rattle.sd_logrec.specs.View.Kind.{Clr, Commit, End, Plain, Update}
use Rattle.sd_logrec.specs.Spelling.{spelling}
use Rattle.sd_logrec.specs.declared.record.Record.{Record}
use Rattle.sd_log.specs.Logs.{LogState, with_record}
use Rattle.sd_txn.specs.declared.state.OpenRec.{OpenRec}
use Rattle.sd_txn.specs.Owing.{bytes_owed, owed_of, records_owed, reserve_of, undo_len}
use Rattle.sd_txn.specs.Transactions.{Replaces, Transaction, Transactions, ids, shut, txn_at}
use Rattle.sd_chain.specs.Checks.{owed, reserve}
use Rattle.sd_chain.specs.Order.{speaks}
use Rattle.sd_chain.specs.Records.{IsOpen, changes, ends, home, stack}
use Rattle.sd_chain.proofs.Fates.{fate-others}
use Rattle.sd_chain.proofs.Lists.{Each-append, Each-back, Each-front}
use Rattle.sd_chain.proofs.Whose.{other_of}
use Rattle.sd_chain.specs.Logs.{HasRecord, all_at}
use Rattle.sd_chain.proofs.Appends.{appended-log}
use Rattle.sd_chain.proofs.Owing.{before-there, ends-speaks, now-ended}
use Rattle.sd_chain.proofs.Room.{end-len}
use Rattle.sd_state.specs.Parts.{IsShape, Parts, log_at, no_log, no_txns, txns_at}
use Rattle.sd_update.specs.Sealing.{IsShutBy, MaySeal, with_last}
use Rattle.sd_state.specs.Tables.{IsLogged, RowIsLogged}
use Rattle.sd_state.specs.Good.{IsTold}
use Rattle.sd_model.specs.State.{State}
use Rattle.sd_state.specs.Values.{open_of}
use Rattle.sd_state.proofs.ChangedLists.{span-other, span-there}
use Rattle.sd_state.proofs.Items.{item-set}
use Rattle.sd_update.proofs.Sealed.{stack-same}

-- what ends a transaction changes no page
pub no-page : (k : Kind) → ends k ≡ true → changes k ≡ false
no-page Update e = absurd (cc)
no-page Clr e = absurd (cc)
no-page Commit e = refl
no-page End e = refl
no-page Plain e = absurd (cc)

-- another's record doesn't end it
pub off-other : (k : Kind) (u t : TxnId) → u ≢ t → (ends k && same_txn u t) ≡ false
off-other k u t ne = ap (λ (b : Bool). ends k && b) (ne-same u t ne) ∙ nothing (ends k)
  where
    nothing : (b : Bool) → (b && false) ≡ false
    nothing true = refl
    nothing false = refl

-- ---- what a row owes is what the log owes of its transaction

pub stack-is : (x : Transaction) (t : TxnId) (log : List Rec) → IsLogged x t log → x.stack ≡ reverse (map open_of (stack t log))
stack-is x t log h = sym (reverse-reverse x.stack) ∙ ap (λ (l : List OpenRec). reverse l) h.open_ones

bytes-open : (xs : List Rec) → sum_by undo_len (map open_of xs) ≡ sum_by (λ x. 47 + size x.before) xs
bytes-open xs = by xs
  where
    by : (xs : List Rec) → sum_by undo_len (map open_of xs) ≡ sum_by (λ x. 47 + size x.before) xs
    by [] = refl
    by (x ∷ xs) = let ih = by xs in
        sum_by-cons undo_len (open_of x) (map open_of xs) ∙ ap (λ (n : ℕ). 47 + size x.before + n) ih
        ∙ sym (sum_by-cons (λ (x : Rec). 47 + size x.before) x xs)

row-records : (x : Transaction) (t : TxnId) (log : List Rec) → IsLogged x t log → HasRecord t log
    → records_owed x ≡ 1 + length (stack t log)
row-records x t log h there =
    ap₂ (λ (b : Bool) (n : ℕ). (if b then 1 else 0) + n) (ap is_some h.span ∙ span-there t log ∙ there)
    (ap length (stack-is x t log h) ∙ length-reverse (map open_of (stack t log)) ∙ length-map (stack t log) open_of)

row-bytes : (x : Transaction) (t : TxnId) (log : List Rec) → IsLogged x t log → HasRecord t log
    → bytes_owed x ≡ 31 + sum_by (λ x. 47 + size x.before) (stack t log)
row-bytes x t log h there =
    ap₂ (λ (b : Bool) (n : ℕ). (if b then 31 else 0) + n) (ap is_some h.span ∙ span-there t log ∙ there)
    (ap (sum_by undo_len) (stack-is x t log h)
    ∙ sum_by-IsPermutation undo_len (map open_of (stack t log)) (reverse (map open_of (stack t log)))
    (IsPermutation-reverse (map open_of (stack t log)))
    ∙ bytes-open (stack t log))

-- ---- the table

module _ (i spare : ℕ) (y : Record) (x : Transaction) (table : Transactions) (c : Parts) (shape : IsShape c) (may : MaySeal i y c)
    (it_ends : ends (flat y).kind ≡ true) (by : IsShutBy i y x spare table c)
    (bytes : reserve_of table + bytes_owed x ≡ reserve_of (txns_at c i))
    (records : owed_of table + records_owed x ≡ owed_of (txns_at c i)) (m : State) (told : IsTold c m i) where
  abbrev t : TxnId
  t = (flat y).txn

  abbrev old : List Rec
  old = all_at (log_at c i)

  abbrev new : Parts
  new = with_last i y spare table c

  spoken : speaks (flat y).kind ≡ true
  spoken = ends-speaks (flat y).kind it_ends

  log-here : log_at new i ≡ with_record y spare (log_at c i)
  log-here = item-set no_log c.logs i (with_record y spare (log_at c i)) may.low may.high shape.logs

  all-here : all_at (log_at new i) ≡ old ++ flat y ∷ []
  all-here = ap all_at log-here ∙ appended-log (log_at c i) y spare

  txns-here : txns_at new i ≡ table
  txns-here = item-set no_txns c.txns i table may.low may.high shape.txns

  -- the row, before
  pub was : IsLogged x t old
  was = ⊎_elim (λ h. h) (λ s. let some = by.there in let none = ap is_some s.span in absurd (cc))
      (subst (λ (o : Option Transaction). RowIsLogged o t old) by.row.was (told.rows t (may.own spoken)))

  pub there : HasRecord t old
  there = sym (span-there t old) ∙ sym (ap is_some was.span) ∙ by.there

  -- another row
  other-tells : (o : Option Transaction) (u : TxnId) → u ≢ t → RowIsLogged o u old → RowIsLogged o u (old ++ flat y ∷ [])
  other-tells None u ne h = λ is. h (sym (fate-others u old (flat y ∷ []) (other_of u (flat y) (λ e. ne (sym e)), tt)) ∙ is)
  other-tells (Some z) u ne h = ⊎_elim
      (λ l. inl (record {
        alive = Each-append (λ (x : Rec). (ends x.kind && same_txn x.txn u) ≡ false) old (flat y ∷ []) l.alive
            (off-other (flat y).kind t u (λ e. ne (sym e)), tt);
        open_ones = l.open_ones ∙ ap (λ (s : List Rec). map open_of s)
            (sym (stack-same u old (flat y) (no-page (flat y).kind it_ends)));
        span = l.span ∙ sym (span-other u old (flat y) (other_of u (flat y) (λ e. ne (sym e))));
      }))
      (λ s. inr (record {
        ended = λ is. s.ended (Each-front (λ (x : Rec). (ends x.kind && same_txn x.txn u) ≡ false) old (flat y ∷ []) is);
        emptied = s.emptied;
        span = s.span;
      }))
      h

  -- it has an end then
  closed : IsOpen t (old ++ flat y ∷ []) → ⊥
  closed is =
      let own = (Each-back (λ (x : Rec). (ends x.kind && same_txn x.txn t) ≡ false) old (flat y ∷ []) is).0 in
      let both : (ends (flat y).kind && same_txn t t) ≡ true = ap₂ (λ (a b : Bool). a && b) it_ends (eq-same t t refl) in
      absurd (cc)

  rows : (u : TxnId) → home u ≡ i → RowIsLogged (txn_at table u) u (old ++ flat y ∷ [])
  rows u own = ⊎_elim
      (λ e. subst (λ (v : TxnId). RowIsLogged (txn_at table v) v (old ++ flat y ∷ [])) (sym e)
      (subst (λ (o : Option Transaction). RowIsLogged o t (old ++ flat y ∷ [])) (sym by.row.now) (inr (record {
        ended = closed;
        emptied = refl;
        span = refl;
      }))))
      (λ ne. subst (λ (o : Option Transaction). RowIsLogged o u (old ++ flat y ∷ [])) (sym (by.row.others u ne))
      (other-tells (txn_at (txns_at c i) u) u ne (told.rows u own)))
      (cases_txn u t)

  owes : owed_of table ≡ owed (old ++ flat y ∷ [])
  owes =
      let sum = records in
      let row = row-records x t old was there in
      let one = before-there (λ s. 1 + length s) old (flat y) spoken (may.follows spoken).alive there in
      let two = now-ended (λ s. 1 + length s) old (flat y) spoken (may.follows spoken).alive it_ends in
      let is = told.owes in
      omega (arith, sum, row, one, two, is)

  reserves : reserve_of table ≡ reserve (old ++ flat y ∷ [])
  reserves =
      let sum = bytes in
      let row = row-bytes x t old was there in
      let one = before-there (λ s. 31 + sum_by (λ r. 47 + size r.before) s) old (flat y) spoken
      (may.follows spoken).alive there in
      let two = now-ended (λ s. 31 + sum_by (λ r. 47 + size r.before) s) old (flat y) spoken (may.follows spoken).alive it_ends in
      let is = told.reserves in
      omega (arith, sum, row, one, two, is)

  spare-left : (log_at c i).spare ≤ spare + length (spelling y) → reserve old ≤ (log_at c i).spare
      → reserve (old ++ flat y ∷ []) ≤ spare
  spare-left spends was =
      let one = before-there (λ s. 31 + sum_by (λ r. 47 + size r.before) s) old (flat y) spoken
      (may.follows spoken).alive there in
      let two = now-ended (λ s. 31 + sum_by (λ r. 47 + size r.before) s) old (flat y) spoken (may.follows spoken).alive it_ends in
      let len = end-len y it_ends in
      omega (arith, one, two, len, was, spends)

  pub tells : IsTold new m i
  tells = record {
    rows = λ u own. subst (λ (log : List Rec). RowIsLogged (txn_at (txns_at new i) u) u log) (sym all-here)
        (subst (λ (rows : Transactions). RowIsLogged (txn_at rows u) u (old ++ flat y ∷ [])) (sym txns-here) (rows u own));
    owes = ap owed_of txns-here ∙ owes ∙ ap owed (sym all-here);
    reserves = ap reserve_of txns-here ∙ reserves ∙ ap reserve (sym all-here);
    spare = λ up. subst (λ (log : LogState). reserve (all_at (log_at new i)) ≤ log.spare) (sym log-here)
        (subst (λ (log : List Rec). reserve log ≤ spare) (sym all-here) (spare-left by.spends (told.spare up)));
  }

-- what all that are unresolved owe, once one's row is shut
abbrev pub Falls : (Transaction → ℕ) → (Transactions → ℕ) → Type 0
Falls row all = (old new : Transactions) (t : TxnId) (x : Transaction) → IsDistinct same_txn (ids old)
    → Replaces old new t x (shut x) → all new + row x ≡ all old
