-- What the table has after records of one transaction that stand side by side: for the goals of `note_run`.
use Rattle.std.proofs.Common.{◌≡◌, ◌≢◌, inl, inr, ⊎_elim, ℕ, ◌+◌, ◌<◌, Bool, false, cond, List, [], ◌∷◌, ◌++◌, length, take, Option, None, Some, refl, sym, ap, ◌∙◌, subst}
use Rattle.std.specs.Map.{lookup}
use Rattle.sd_base.specs.declared.ids.TxnId.{TxnId}
use Rattle.sd_base.specs.Ids.{same_txn}
use Rattle.sd_logrec.specs.View.{Rec}
use Rattle.sd_log.specs.declared.placed.Placed.{Placed}
use Rattle.sd_log.specs.Logs.{flats}
use Rattle.sd_chain.specs.Order.{speaks, none_yet, after_all}
use Rattle.sd_chain.proofs.Whose.{first_prev-there, other_of, own_of}
use Rattle.sd_recovered.specs.declared.seen.Seen.{Seen}
use Rattle.sd_recovered.specs.Seen.{closed_by, with_record, EndsAt, IsFirstEnd, Keeps, SeenFits, OthersStay, Tells, TellsOf, TellsAll}
use Rattle.sd_recovered.proofs.Known.{found_at, flats-more, length_front, rec_at, spoken, tells_more, tells_other, Noting}
use Rattle.sd_base.proofs.SameIds.{cases_txn, eq-same, ne-same}

-- one more of its records
pub noting_more : (log : List Placed) (at : ℕ) (d : Placed) (t : TxnId) (seen : Seen) → at < length log → Tells log (flats (take at log)) t seen
    → Some t ≡ cond (speaks (rec_at log at d).kind) (Some (rec_at log at d).txn) None → Noting log at (rec_at log at d) t seen
noting_more log at d t seen lt tells says =
    let x = rec_at log at d in
    let xs = flats (take at log) in
    let s = spoken (speaks x.kind) t x.txn says in
    let own = subst (λ (u : TxnId). Tells log xs u seen) s.1 tells in
    record {
      there = found_at log at d lt;
      more = flats-more log at d lt;
      named = s.1;
      own = own_of x s.0;
      ready = record {
        fits = own.fits;
        first = own.first;
        prev = own.prev ∙ sym (first_prev-there x.txn xs (x ∷ []) own.there);
        closed = own.closed;
      };
    }

-- with that record noted
pub tells_on : (log : List Placed) (at : ℕ) (x : Rec) (t : TxnId) (seen new : Seen) → at < length log → Noting log at x t seen
    → SeenFits log (with_record (after_all x.txn none_yet (flats (take at log))) x) new → new.first ≡ seen.first
    → new.first_prev ≡ seen.first_prev → new.closed ≡ closed_by at x seen.closed
    → Tells log (flats (take (at + 1) log)) t new
tells_on log at x t seen new lt noting fits first prev closed =
    let xs = flats (take at log) in
    subst (λ (ys : List Rec). Tells log ys t new) (sym noting.more)
    (subst (λ (u : TxnId). Tells log (xs ++ x ∷ []) u new) (sym noting.named)
    (tells_more log xs x seen new noting.own noting.ready fits first prev
    (closed ∙ ap (λ k. closed_by k x seen.closed) (sym (length_front log at lt)))))

other_apart : (t u : TxnId) (x : Rec) → t ≡ x.txn → same_txn t u ≡ false → x.txn ≢ u
other_apart t u x named off e = let c = sym off ∙ eq-same t u (named ∙ e) in absurd (cc)

-- what is told of others stays
pub others_on : (log : List Placed) (at : ℕ) (x : Rec) (t : TxnId) (seen : Seen) (xs : List Rec) → Noting log at x t seen
    → OthersStay log t xs (flats (take at log)) → OthersStay log t xs (flats (take (at + 1) log))
others_on log at x t seen xs noting before u k row off told =
    subst (λ (ys : List Rec). TellsOf log ys u k row) (sym noting.more)
    (tells_other log (flats (take at log)) x u k row (other_of u x (other_apart t u x noting.named off)) (before u k row off told))

others_same : (log : List Placed) (t : TxnId) (xs : List Rec) → OthersStay log t xs xs
others_same log t xs u k row off told = told

-- what is kept of it once it is closed in rising order
pub keeps_shut : (t : TxnId) (seen : Seen) (end : Option ℕ) (closed closed' : List (TxnId × ℕ)) (rows : List (TxnId × Seen)) → end ≡ seen.closed
    → (at : ℕ) × (end ≡ Some at) × ((q : TxnId) → lookup (same_txn q) closed' ≡ cond (same_txn t q) (Some at) (lookup (same_txn q) closed))
    → Keeps t seen closed rows closed' rows
keeps_shut t seen end closed closed' rows is (at, some, put) = inl (at, sym is ∙ some, refl, put)

shut_at : (log : List Placed) (t : TxnId) (ys : List Rec) (new : Seen) (k : ℕ) → Tells log ys t new → new.closed ≡ Some k → IsFirstEnd ys t k
shut_at log t ys new k tells shut = subst (EndsAt ys t) shut tells.closed

-- what is kept with all of them noted, where the transaction's row was taken out and what is seen of it is kept then
pub run_all : (log : List Placed) (at : ℕ) (x : Rec) (t : TxnId) (ys : List Rec) (closed closed' : List (TxnId × ℕ)) (rows taken rows' : List (TxnId × Seen)) (seen new : Seen)
    → Noting log at x t seen → TellsAll log (flats (take at log)) closed rows
    → OthersStay log t (flats (take (at + 1) log)) ys → Tells log ys t new → lookup (same_txn t) closed ≡ None
    → ((q : TxnId) → lookup (same_txn q) taken ≡ cond (same_txn t q) None (lookup (same_txn q) rows))
    → Keeps t new closed taken closed' rows'
    → TellsAll log ys closed' rows'
run_all log at x t ys closed closed' rows taken rows' seen new noting known stay tells unshut out kept q =
    ⊎_elim (λ e. subst (λ (u : TxnId). TellsOf log ys u (lookup (same_txn u) closed') (lookup (same_txn u) rows')) e (own kept)) (λ ne. other (ne-same t q ne) kept) (cases_txn t q)
  where
    Kept : Type 0
    Kept = Keeps t new closed taken closed' rows'

    own : Kept → TellsOf log ys t (lookup (same_txn t) closed') (lookup (same_txn t) rows')
    own (inl (k, shut, same, put)) =
        let at_k : lookup (same_txn t) closed' ≡ Some k = put t ∙ ap (λ (b : Bool). cond b (Some k) (lookup (same_txn t) closed)) (eq-same t t refl) in
        let gone : lookup (same_txn t) rows' ≡ None = ap (lookup (same_txn t)) same ∙ out t ∙ ap (λ (b : Bool). cond b None (lookup (same_txn t) rows)) (eq-same t t refl) in
        subst (λ (o : Option ℕ). TellsOf log ys t o (lookup (same_txn t) rows')) (sym at_k) (shut_at log t ys new k tells shut, gone)
    own (inr (same, put)) =
        let none : lookup (same_txn t) closed' ≡ None = ap (lookup (same_txn t)) same ∙ unshut in
        let row : lookup (same_txn t) rows' ≡ Some new = put t ∙ ap (λ (b : Bool). cond b (Some new) (lookup (same_txn t) taken)) (eq-same t t refl) in
        subst (λ (o : Option ℕ). TellsOf log ys t o (lookup (same_txn t) rows')) (sym none)
        (subst (λ (o : Option Seen). TellsOf log ys t None o) (sym row) tells)

    rest : same_txn t q ≡ false → lookup (same_txn q) taken ≡ lookup (same_txn q) rows
    rest off = out q ∙ ap (λ (b : Bool). cond b None (lookup (same_txn q) rows)) off

    told : same_txn t q ≡ false → TellsOf log ys q (lookup (same_txn q) closed) (lookup (same_txn q) rows)
    told off = stay q (lookup (same_txn q) closed) (lookup (same_txn q) rows) off (others_on log at x t seen (flats (take at log)) noting
        (others_same log t (flats (take at log))) q (lookup (same_txn q) closed) (lookup (same_txn q) rows) off (known q))

    joined : same_txn t q ≡ false → lookup (same_txn q) closed' ≡ lookup (same_txn q) closed → lookup (same_txn q) rows' ≡ lookup (same_txn q) rows
        → TellsOf log ys q (lookup (same_txn q) closed') (lookup (same_txn q) rows')
    joined off e f = subst (λ (o : Option ℕ). TellsOf log ys q o (lookup (same_txn q) rows')) (sym e)
        (subst (λ (o : Option Seen). TellsOf log ys q (lookup (same_txn q) closed) o) (sym f) (told off))

    other : same_txn t q ≡ false → Kept → TellsOf log ys q (lookup (same_txn q) closed') (lookup (same_txn q) rows')
    other off (inl (k, shut, same, put)) = joined off
        (put q ∙ ap (λ (b : Bool). cond b (Some k) (lookup (same_txn q) closed)) off) (ap (lookup (same_txn q)) same ∙ rest off)
    other off (inr (same, put)) = joined off (ap (lookup (same_txn q)) same)
        (put q ∙ ap (λ (b : Bool). cond b (Some new) (lookup (same_txn q) taken)) off ∙ rest off)
