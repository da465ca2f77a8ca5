-- What is kept of a transaction, with one record more: for the goals of `note_run`.
use Rattle.std.proofs.Common.{◌≡◌, ◌⊎◌, ⊎_elim, ℕ, ◌+◌, ◌<◌, Bool, true, false, cond, List, [], ◌∷◌, ◌++◌, length, take, get_or, Option, None, Some, refl, sym, ap, ◌∙◌, subst, arith}
use Rattle.std.specs.List.{list_any}
use Rattle.std.specs.Map.{lookup}
use Rattle.std.specs.Option.{option_map, unwrap_or}
use Rattle.std.proofs.lemmas.Option.{slice_get-get_or}
use Rattle.std.proofs.lemmas.List.{length-map, length-take-le, map-append, take_more}
use Rattle.std.proofs.lemmas.Bool.{cases_Bool}
use Rattle.sd_base.specs.declared.ids.TxnId.{TxnId}
use Rattle.sd_base.specs.Ids.{same_txn}
use Rattle.sd_logrec.specs.View.{Rec, flat}
use Rattle.sd_log.specs.declared.placed.Placed.{Placed}
use Rattle.sd_log.specs.Logs.{flats}
use Rattle.sd_chain.specs.Records.{ends}
use Rattle.sd_chain.specs.Order.{speaks, of_txn, Sofar, none_yet, with_own, after_all, first_prev}
use Rattle.sd_recovered.specs.declared.seen.Seen.{Seen}
use Rattle.sd_recovered.specs.Losers.{record_at}
use Rattle.sd_recovered.specs.Faults.{IsFirst, MayCome}
use Rattle.sd_recovered.specs.Misplaced.{Covers, Finds, IsLeast}
use Rattle.sd_recovered.specs.Seen.{closed_by, with_record, EndsAt, IsFirstEnd, SeenFits, Judged, Tells, TellsOf, TellsAll}
use Rattle.sd_recovered.proofs.Closers.{ends_off, ends_own, ends_still, finds_next, finds_shut, finds_silent}
use Rattle.sd_recovered.proofs.MisplacedSteps.{least_more}
use Rattle.sd_chain.proofs.Stacks.{step-own}
use Rattle.sd_chain.proofs.Whose.{none_open, own_is, own_of, silent_of, advance-off, advance-own, after_all-append, after_all-none, first_prev-there, first_prev-behind, first_prev-off}

-- what is seen of the transaction of x before x, which comes next
pub record Ready (log : List Placed) (xs : List Rec) (x : Rec) (seen : Seen) : Type 0 where
  pub fits : SeenFits log (after_all x.txn none_yet xs) seen
  pub first : IsFirst log x.txn seen.first seen.first_prev
  pub prev : seen.first_prev ≡ first_prev x.txn (xs ++ x ∷ [])
  pub closed : EndsAt xs x.txn seen.closed

some_more : (t : TxnId) (xs : List Rec) (x : Rec) → of_txn t x ≡ true → list_any (of_txn t) (xs ++ x ∷ []) ≡ true
some_more t [] x own = rw own refl
some_more t (y ∷ ys) x own = ⊎_elim (λ is. rw is refl) (λ off. rw off (some_more t ys x own)) (cases_Bool (of_txn t y))

any_off : (t : TxnId) (xs : List Rec) (x : Rec) → of_txn t x ≡ false → list_any (of_txn t) (xs ++ x ∷ []) ≡ list_any (of_txn t) xs
any_off t [] x off = rw off refl
any_off t (y ∷ ys) x off = ⊎_elim (λ is. rw is refl) (λ not. rw not (any_off t ys x off)) (cases_Bool (of_txn t y))

-- a row of the table, or a new one
pub ready_from : (log : List Placed) (xs : List Rec) (x : Rec) (at : ℕ) (row : Option Seen) (fresh seen : Seen) → of_txn x.txn x ≡ true
    → xs ≡ flats (take at log) → record_at log at ≡ Some x → TellsOf log xs x.txn None row → SeenFits log none_yet fresh → fresh.first ≡ at
    → fresh.first_prev ≡ x.prev → fresh.closed ≡ None → seen ≡ unwrap_or row fresh → Ready log xs x seen
ready_from log xs x at None fresh seen own front there none fits first prev closed is = subst (Ready log xs x) (sym is) (record {
  fits = subst (λ (q : Sofar). SeenFits log q fresh) (sym (after_all-none x.txn none_yet xs none)) fits;
  first = subst (λ (n : ℕ). IsFirst log x.txn n fresh.first_prev) (sym first) (record {
    here = x;
    there = there;
    own = own;
    prev_is = sym prev;
    none = ap (list_any (of_txn x.txn)) (sym front) ∙ none;
  });
  prev = prev ∙ sym (first_prev-behind x.txn xs (x ∷ []) none ∙ ap (λ (b : Bool). cond b x.prev 0) own);
  closed = subst (EndsAt xs x.txn) (sym closed) (none_open x.txn xs none);
})
ready_from log xs x at (Some row) fresh seen own front there tells fits first prev closed is = subst (Ready log xs x) (sym is) (record {
  fits = tells.fits;
  first = tells.first;
  prev = tells.prev ∙ sym (first_prev-there x.txn xs (x ∷ []) tells.there);
  closed = tells.closed;
})

-- a record is one more of the transaction that it names
own_record : (sofar : Sofar) (x : Rec) → with_own x.txn x sofar ≡ with_record sofar x
own_record sofar x = ap (λ (l : List Rec). record { open_ones = l; last = x.lsn; shut = ends x.kind })
    (step-own x.txn sofar.open_ones x refl)

-- with the record
pub tells_more : (log : List Placed) (xs : List Rec) (x : Rec) (seen new : Seen) → of_txn x.txn x ≡ true → Ready log xs x seen
    → SeenFits log (with_record (after_all x.txn none_yet xs) x) new
    → new.first ≡ seen.first → new.first_prev ≡ seen.first_prev → new.closed ≡ closed_by (length xs) x seen.closed → Tells log (xs ++ x ∷ []) x.txn new
tells_more log xs x seen new own ready fits first prev closed = record {
  fits = subst (λ (q : Sofar). SeenFits log q new)
      (sym (after_all-append x.txn none_yet xs (x ∷ []) ∙ advance-own x.txn (after_all x.txn none_yet xs) x own
      ∙ own_record (after_all x.txn none_yet xs) x)) fits;
  there = some_more x.txn xs x own;
  first = subst (λ (n : ℕ). IsFirst log x.txn n new.first_prev) (sym first)
      (subst (λ (n : ℕ). IsFirst log x.txn seen.first n) (sym prev) ready.first);
  prev = prev ∙ ready.prev;
  closed = subst (EndsAt (xs ++ x ∷ []) x.txn) (sym closed) (ends_own xs x seen.closed own ready.closed);
}

-- a record of another transaction, or of none
pub tells_other : (log : List Placed) (xs : List Rec) (x : Rec) (t : TxnId) (k : Option ℕ) (row : Option Seen) → of_txn t x ≡ false
    → TellsOf log xs t k row → TellsOf log (xs ++ x ∷ []) t k row
tells_other log xs x t (Some k) row off told = (ends_still t xs x k told.0, told.1)
tells_other log xs x t None None off none = any_off t xs x off ∙ none
tells_other log xs x t None (Some seen) off tells = record {
  fits = subst (λ (q : Sofar). SeenFits log q seen)
      (sym (after_all-append t none_yet xs (x ∷ []) ∙ advance-off t (after_all t none_yet xs) x off)) tells.fits;
  there = any_off t xs x off ∙ tells.there;
  first = tells.first;
  prev = tells.prev ∙ sym (first_prev-off t xs x off);
  closed = ends_off t xs x seen.closed off tells.closed;
}

-- a record of no transaction leaves what is kept
pub all_same : (log : List Placed) (xs : List Rec) (x : Rec) (closed : List (TxnId × ℕ)) (rows : List (TxnId × Seen))
    → speaks x.kind ≡ false → TellsAll log xs closed rows → TellsAll log (xs ++ x ∷ []) closed rows
all_same log xs x closed rows silent known t =
    tells_other log xs x t (lookup (same_txn t) closed) (lookup (same_txn t) rows) (silent_of t x silent) (known t)

-- so does one of a transaction that is kept as closed
still_all : (log : List Placed) (xs : List Rec) (x : Rec) (closed : List (TxnId × ℕ)) (rows : List (TxnId × Seen)) (k : ℕ)
    → lookup (same_txn x.txn) closed ≡ Some k → TellsAll log xs closed rows → TellsAll log (xs ++ x ∷ []) closed rows
still_all log xs x closed rows k shut known t = ⊎_elim
    (λ own. let is : lookup (same_txn t) closed ≡ Some k = subst (λ (u : TxnId). lookup (same_txn u) closed ≡ Some k) (own_is t x own) shut in
    let told = subst (λ (o : Option ℕ). TellsOf log xs t o (lookup (same_txn t) rows)) is (known t) in
    subst (λ (o : Option ℕ). TellsOf log (xs ++ x ∷ []) t o (lookup (same_txn t) rows)) (sym is) (ends_still t xs x k told.0, told.1))
    (λ off. tells_other log xs x t (lookup (same_txn t) closed) (lookup (same_txn t) rows) off (known t))
    (cases_Bool (of_txn t x))

-- the transaction that a record speaks of
pub spoken : (b : Bool) (t u : TxnId) → Some t ≡ cond b (Some u) None → (b ≡ true) × (t ≡ u)
spoken true t u e = (refl, cc)
spoken false t u e = absurd (cc)

pub unspoken : (b : Bool) (u : TxnId) → None ≡ cond b (Some u) None → b ≡ false
unspoken true u e = absurd (cc)
unspoken false u e = refl

-- ---- the log up to an index

pub flats-more : (log : List Placed) (at : ℕ) (d : Placed) → at < length log
    → flats (take (at + 1) log) ≡ flats (take at log) ++ flat (get_or log at d).rec ∷ []
flats-more log at d lt = ap flats (take_more log at d lt) ∙ map-append (λ (q : Placed). flat q.rec) (take at log) (get_or log at d ∷ [])

pub found_at : (log : List Placed) (at : ℕ) (d : Placed) → at < length log → record_at log at ≡ Some (flat (get_or log at d).rec)
found_at log at d lt = ap (option_map (λ (q : Placed). flat q.rec)) (slice_get-get_or log at d lt)

-- ---- the record of an index

-- the record; where it lies outside, that of d
abbrev pub rec_at : List Placed → ℕ → Placed → Rec
rec_at log at d = flat (get_or log at d).rec

-- what is seen of its transaction
pub record Noting (log : List Placed) (at : ℕ) (x : Rec) (t : TxnId) (seen : Seen) : Type 0 where
  pub there : record_at log at ≡ Some x
  pub more : flats (take (at + 1) log) ≡ flats (take at log) ++ x ∷ []
  pub named : t ≡ x.txn
  pub own : of_txn x.txn x ≡ true
  pub ready : Ready log (flats (take at log)) x seen

pub noting : (log : List Placed) (at : ℕ) (d : Placed) (t : TxnId) (closed : List (TxnId × ℕ)) (rows : List (TxnId × Seen))
    (row : Option Seen) (fresh seen : Seen) → at < length log → TellsAll log (flats (take at log)) closed rows
    → lookup (same_txn t) closed ≡ None
    → Some t ≡ cond (speaks (rec_at log at d).kind) (Some (rec_at log at d).txn) None → row ≡ lookup (same_txn t) rows
    → SeenFits log none_yet fresh → fresh.first ≡ at → fresh.first_prev ≡ (rec_at log at d).prev → fresh.closed ≡ None → seen ≡ unwrap_or row fresh
    → Noting log at (rec_at log at d) t seen
noting log at d t closed rows row fresh seen lt known unshut says row_is fits first prev runs seen_is =
    let x = rec_at log at d in
    let s = spoken (speaks x.kind) t x.txn says in
    let own = own_of x s.0 in
    let there = found_at log at d lt in
    let held : row ≡ lookup (same_txn x.txn) rows = row_is ∙ ap (λ (u : TxnId). lookup (same_txn u) rows) s.1 in
    let none : lookup (same_txn x.txn) closed ≡ None = subst (λ (u : TxnId). lookup (same_txn u) closed ≡ None) s.1 unshut in
    record {
      there = there;
      more = flats-more log at d lt;
      named = s.1;
      own = own;
      ready = ready_from log (flats (take at log)) x at (lookup (same_txn x.txn) rows) fresh seen own refl there
          (subst (λ (o : Option ℕ). TellsOf log (flats (take at log)) x.txn o (lookup (same_txn x.txn) rows)) none (known x.txn)) fits
          first prev runs
          (seen_is ∙ ap (λ (r : Option Seen). unwrap_or r fresh) held);
    }

pub length_front : (log : List Placed) (at : ℕ) → at < length log → length (flats (take at log)) ≡ at
length_front log at lt = length-map (take at log) (λ (p : Placed). flat p.rec) ∙ length-take-le at log (omega arith)

-- what it shows
pub finds_it : (log : List Placed) (at : ℕ) (x : Rec) (t : TxnId) (seen : Seen) (found : Option ℕ) → at < length log → Noting log at x t seen
    → ((k : ℕ) → seen.closed ≡ Some k → found ≡ Some k)
    → ((sofar : Sofar) → SeenFits log sofar seen → seen.closed ≡ None → Judged at (MayCome sofar seen.first_prev x) found)
    → Finds (flats (take at log)) (flats (take (at + 1) log)) found
finds_it log at x t seen found lt noting shut next =
    let xs = flats (take at log) in
    let n : length xs ≡ at = length_front log at lt in
    subst (λ (ys : List Rec). Finds xs ys found) (sym noting.more)
    (finds_next xs x seen.closed found seen.first_prev noting.own noting.ready.prev noting.ready.closed shut
    (λ runs. subst (λ k. Judged k (MayCome (after_all x.txn none_yet xs) seen.first_prev x) found) (sym n) (next (after_all x.txn none_yet xs) noting.ready.fits runs)))

-- a record of no transaction shows nothing
pub finds_none : (log : List Placed) (at : ℕ) (d : Placed) → at < length log → None ≡ cond (speaks (rec_at log at d).kind) (Some (rec_at log at d).txn) None
    → Finds (flats (take at log)) (flats (take (at + 1) log)) None
finds_none log at d lt says =
    let x = rec_at log at d in
    subst (λ (ys : List Rec). Finds (flats (take at log)) ys None) (sym (flats-more log at d lt))
    (finds_silent (flats (take at log)) x (unspoken (speaks x.kind) x.txn says))

head_of : (log : List Placed) (at : ℕ) → at < length log → Placed
head_of [] at lt = absurd (omega arith)
head_of (p ∷ ps) at lt = p

-- the least index with the record
pub least_at : (log : List Placed) (at : ℕ) (before found least : Option ℕ) → at < length log → IsLeast (flats (take at log)) before → Finds (flats (take at log)) (flats (take (at + 1) log)) found
    → ((least ≡ before) ⊎ (least ≡ found)) → ((j : ℕ) → Covers before j ⊎ Covers found j → Covers least j) → IsLeast (flats (take (at + 1) log)) least
least_at log at before found least lt h f either covers =
    let d = head_of log at lt in
    let more = flats-more log at d lt in
    subst (λ (ys : List Rec). IsLeast ys least) (sym more)
    (least_more (flats (take at log)) (rec_at log at d) before found least h (subst (λ (ys : List Rec). Finds (flats (take at log)) ys found) more f) either covers)

-- a record of no transaction
pub silent_all : (log : List Placed) (at : ℕ) (d : Placed) (closed : List (TxnId × ℕ)) (rows : List (TxnId × Seen)) → at < length log
    → None ≡ cond (speaks (rec_at log at d).kind) (Some (rec_at log at d).txn) None → TellsAll log (flats (take at log)) closed rows
    → TellsAll log (flats (take (at + 1) log)) closed rows
silent_all log at d closed rows lt says known =
    let x = rec_at log at d in
    subst (λ (ys : List Rec). TellsAll log ys closed rows) (sym (flats-more log at d lt))
    (all_same log (flats (take at log)) x closed rows (unspoken (speaks x.kind) x.txn says) known)

-- a record of a transaction that is kept as closed
pub shut_all : (log : List Placed) (at : ℕ) (d : Placed) (t : TxnId) (k : ℕ) (closed : List (TxnId × ℕ)) (rows : List (TxnId × Seen))
    → at < length log → Some t ≡ cond (speaks (rec_at log at d).kind) (Some (rec_at log at d).txn) None → Some k ≡ lookup (same_txn t) closed
    → TellsAll log (flats (take at log)) closed rows → TellsAll log (flats (take (at + 1) log)) closed rows
shut_all log at d t k closed rows lt says is known =
    let x = rec_at log at d in
    let s = spoken (speaks x.kind) t x.txn says in
    subst (λ (ys : List Rec). TellsAll log ys closed rows) (sym (flats-more log at d lt))
    (still_all log (flats (take at log)) x closed rows k (subst (λ (u : TxnId). lookup (same_txn u) closed ≡ Some k) s.1 (sym is)) known)

-- what it shows
pub finds_closed : (log : List Placed) (at : ℕ) (d : Placed) (t : TxnId) (k : ℕ) (closed : List (TxnId × ℕ)) (rows : List (TxnId × Seen))
    → at < length log → Some t ≡ cond (speaks (rec_at log at d).kind) (Some (rec_at log at d).txn) None → Some k ≡ lookup (same_txn t) closed
    → TellsAll log (flats (take at log)) closed rows → Finds (flats (take at log)) (flats (take (at + 1) log)) (Some k)
finds_closed log at d t k closed rows lt says is known =
    let x = rec_at log at d in
    let xs = flats (take at log) in
    let s = spoken (speaks x.kind) t x.txn says in
    let shut = subst (λ (o : Option ℕ). TellsOf log xs t o (lookup (same_txn t) rows)) (sym is) (known t) in
    subst (λ (ys : List Rec). Finds xs ys (Some k)) (sym (flats-more log at d lt))
    (finds_shut xs x k (own_of x s.0) (subst (λ (u : TxnId). IsFirstEnd xs u k) s.1 shut.0))
