-- One more record of a log, an update: what the log tells then. For a change.
use Rattle.sd_base.specs.declared.ids.Rid.{Rid}
use Rattle.sd_chain.proofs.Newest.{at_is}
use Rattle.sd_chain.specs.Images.{Grows, Keeps, Tails}
use Rattle.sd_chain.specs.Records.{Each, at}
use Rattle.sd_model.specs.Claims.{Claims}
use Rattle.sd_page.specs.Page.{Page}
use Rattle.sd_pagelock.specs.Asks.{is_open_ask, open_asks}
use Rattle.sd_pagelock.specs.declared.queue.Ask.{Ask}
use Rattle.sd_pagelock.specs.Directory.{DirectoryState, asks_at, entry_at}
use Rattle.sd_pagelock.specs.Places.{PageEntry}
use Rattle.sd_pagelock.specs.Rows.{dirtied}
use Rattle.sd_chain.specs.Logs.{all_at, kept_logs, tail_at}
use Rattle.sd_state.specs.Values.{Pending, as_done, decided, is_doubt, rid_of}
use Rattle.std.proofs.Common.{◌≢◌, ◌⊎◌, ap₂, inl, inr, ◌≡◌, ⊎_elim, ℕ, ◌≤◌, Bool, true, false, cond, List, [], ◌∷◌, ◌++◌, ◌||◌, map, refl, sym, ap, ◌∙◌, arith, append-nil, append_assoc, leb-true, subst}
use Rattle.std.proofs.lemmas.Bool.{cases_Bool, cases_eq}
use Rattle.std.specs.Prelude.{Option, None, Some, filter, is_some, leb}
use Rattle.std.specs.Option.{option_map_or}
use Rattle.std.specs.List.{flat_map, list_any}
use mathlib.Core.Path.{fun_ext}
use Rattle.sd_base.specs.declared.ids.TxnId.{TxnId}
use Rattle.sd_logrec.specs.View.{Rec, flat}
use Rattle.sd_model.specs.State.{State}
use Rattle.sd_chain.specs.Fates.{commits}
use Rattle.sd_chain.specs.Order.{Sofar, advance, after_all, none_yet, of_txn, span_from, span_of, spanned, with_own}
use Rattle.sd_logrec.specs.Kept.{Group}
use Rattle.sd_logrec.specs.declared.record.Record.{Record}
use Rattle.sd_state.specs.Images.{log_by}
use Rattle.sd_state.specs.Parts.{Parts, log_at, other_at}
use Rattle.std.proofs.lemmas.List.{map-append}
use Rattle.sd_base.specs.declared.place.Mode.TheVariants as modes
use Rattle.sd_log.specs.Logs.{begun_at}
use Rattle.sd_model.specs.declared.act.Claim.{Claim}
use Rattle.sd_state.specs.Tables.{lock_of}
use Rattle.sd_state.specs.Good.{reaches}

-- ---- spans

span_from-push : (t : TxnId) (span : Option (ℕ × ℕ)) (xs : List Rec) (y : Rec)
    → span_from t span (xs ++ y ∷ []) ≡ spanned t (span_from t span xs) y
span_from-push t span [] y = refl
span_from-push t span (x ∷ xs) y = span_from-push t (spanned t span x) xs y

-- a further record of the transaction ends its span
pub span-own : (t : TxnId) (log : List Rec) (y : Rec) → of_txn t y ≡ true
    → span_of t (log ++ y ∷ []) ≡ Some (option_map_or (λ (s : ℕ × ℕ). s.0) (span_of t log) y.lsn, y.lsn)
span-own t log y own = span_from-push t None log y
    ∙ ap (λ (b : Bool). cond {A = Option (ℕ × ℕ)} b (Some (
      option_map_or
          (λ (s : ℕ × ℕ). s.0) (span_of t log) y.lsn,
      y.lsn,
    )) (span_of t log)) own

-- one of another leaves it
pub span-other : (t : TxnId) (log : List Rec) (y : Rec) → of_txn t y ≡ false → span_of t (log ++ y ∷ []) ≡ span_of t log
span-other t log y off = span_from-push t None log y
    ∙ ap (λ (b : Bool). cond {A = Option (ℕ × ℕ)} b (Some (
      option_map_or
          (λ (s : ℕ × ℕ). s.0) (span_of t log) y.lsn,
      y.lsn,
    )) (span_of t log)) off

abbrev end_of : Option (ℕ × ℕ) → ℕ
end_of span = option_map_or (λ (s : ℕ × ℕ). s.1) span 0

last-from : (t : TxnId) (span : Option (ℕ × ℕ)) (sofar : Sofar) (xs : List Rec) → end_of span ≡ sofar.last
    → end_of (span_from t span xs) ≡ (after_all t sofar xs).last
last-from t span sofar [] e = e
last-from t span sofar (x ∷ xs) e = last-from t (spanned t span x) (advance t sofar x) xs (by (of_txn t x))
  where
    by : (b : Bool) → end_of (cond {A = Option (ℕ × ℕ)} b (Some (option_map_or (λ (s : ℕ × ℕ). s.0) span x.lsn, x.lsn)) span)
        ≡ (cond b (with_own t x sofar) sofar).last
    by true = refl
    by false = e

-- the span ends with the transaction's last record
pub span-last : (t : TxnId) (log : List Rec) → end_of (span_of t log) ≡ (after_all t none_yet log).last
span-last t log = last-from t None none_yet log refl

there-from : (t : TxnId) (span : Option (ℕ × ℕ)) (xs : List Rec) → is_some (span_from t span xs) ≡ (is_some span || list_any
    (of_txn t) xs)
there-from t span [] = or-false (is_some span)
  where
    or-false : (b : Bool) → b ≡ (b || false)
    or-false true = refl
    or-false false = refl
there-from t span (x ∷ xs) = there-from t (spanned t span x) xs ∙ by (of_txn t x) span
  where
    by : (b : Bool) (o : Option (ℕ × ℕ))
        → (is_some (cond {A = Option (ℕ × ℕ)} b (Some (option_map_or (λ (s : ℕ × ℕ). s.0) o x.lsn, x.lsn)) o) || list_any
        (of_txn t) xs)
        ≡ (is_some o || (b || list_any (of_txn t) xs))
    by true None = refl
    by true (Some s) = refl
    by false None = refl
    by false (Some s) = refl

-- there is one where it has a record
pub span-there : (t : TxnId) (log : List Rec) → is_some (span_of t log) ≡ list_any (of_txn t) log
span-there t log = there-from t None log

-- ---- commits and values

-- a record that doesn't commit changes no commit
pub no-commit : (t : TxnId) (log : List Rec) (y : Rec) → commits t y ≡ false
    → list_any (commits t) (log ++ y ∷ []) ≡ list_any (commits t) log
no-commit t [] y none = rw none refl
no-commit t (x ∷ xs) y none = ap (λ (b : Bool). commits t x || b) (no-commit t xs y none)

agree : {A B : Type 0} (f g : A → B) (p q : A → Bool) → ((u : A) → q u ≡ true → f u ≡ g u) → (us : List A)
    → map f (filter p (filter q us)) ≡ map g (filter p (filter q us))
agree f g p q same [] = refl
agree {A} {B} f g p q same (u ∷ us) = by (agree f g p q same us) (q u) refl
  where
    inner : map f (filter p (filter q us)) ≡ map g (filter p (filter q us)) → f u ≡ g u → (b : Bool)
        → map f (cond {A = List A} b (u ∷ filter p (filter q us)) (filter p (filter q us)))
        ≡ map g (cond {A = List A} b (u ∷ filter p (filter q us)) (filter p (filter q us)))
    inner ih e false = ih
    inner ih e true = ap (λ (x : B). x ∷ map f (filter p (filter q us))) e ∙ ap (λ (xs : List B). g u ∷ xs) ih

    by : map f (filter p (filter q us)) ≡ map g (filter p (filter q us)) → (b : Bool) → q u ≡ b
        → map f (filter p (cond {A = List A} b (u ∷ filter q us) (filter q us)))
        ≡ map g (filter p (cond {A = List A} b (u ∷ filter q us) (filter q us)))
    by ih false e = ih
    by ih true e = inner ih (same u e) (p u)

-- what is decided hangs on who is in doubt, and on their acts
pub decided-same : (m m' : State) (logs logs' : ℕ → List Rec) → m'.cuts ≡ m.cuts → ((u : TxnId)
    → (m'.part u).life ≡ (m.part u).life)
    → ((u : TxnId) → is_doubt (m.part u).life ≡ true → as_done m' u ≡ as_done m u)
    → ((u : TxnId) → list_any (commits u) (logs' u.inst) ≡ list_any (commits u) (logs u.inst))
    → decided m' Pending.Idle logs' ≡ decided m Pending.Idle logs
decided-same m m' logs logs' cuts lives acts commits_same =
    ap (λ (l : List TxnId). map (as_done m') (filter (λ u. list_any (commits u) (logs' u.inst)) (filter
    (λ u. is_doubt (m'.part u).life) l ++ []))) cuts
    ∙ ap (λ (f : TxnId → Bool). map (as_done m') (filter (λ u. list_any (commits u) (logs' u.inst)) (filter f m.cuts ++ [])))
    (fun_ext (λ u. ap is_doubt (lives u)))
    ∙ ap (λ (f : TxnId → Bool). map (as_done m') (filter f (filter (λ u. is_doubt (m.part u).life) m.cuts ++ [])))
    (fun_ext commits_same)
    ∙ ap (λ (l : List TxnId). map (as_done m') (filter (λ u. list_any (commits u) (logs u.inst)) l)) (append-nil (filter
    (λ u. is_doubt (m.part u).life) m.cuts))
    ∙ agree (as_done m') (as_done m) (λ u. list_any (commits u) (logs u.inst)) (λ u. is_doubt (m.part u).life) acts m.cuts
    ∙ ap (λ (l : List TxnId). map (as_done m) (filter (λ u. list_any (commits u) (logs u.inst)) l)) (sym (append-nil (filter
    (λ u. is_doubt (m.part u).life) m.cuts)))

-- ---- others

-- what holds of each of both holds of those in front
pub each-front : {A : Type 0} (P : A → Type 0) (xs ys : List A) → Each P (xs ++ ys) → Each P xs
each-front P [] ys a = tt
each-front P (x ∷ xs) ys a = (a.0, each-front P xs ys a.1)

-- asks that stay where some go
pub each-left : {A : Type 0} (P : A → Type 0) (test : A → Bool) (xs : List A) → Each P xs
    → Each (λ x. P x × (test x ≡ true)) (filter test xs)
each-left P test [] a = tt
each-left {A} P test (x ∷ xs) a = by (each-left P test xs a.1) (test x) refl
  where
    by : Each (λ z. P z × (test z ≡ true)) (filter test xs) → (b : Bool) → test x ≡ b
        → Each (λ z. P z × (test z ≡ true)) (cond {A = List A} b (x ∷ filter test xs) (filter test xs))
    by ih true e = ((a.0, e), ih)
    by ih false e = ih

-- one that reaches an LSN bounds it
pub reached : (lsn great : ℕ) (xs : List Rec) → list_any (reaches lsn) xs ≡ true → Each (λ x. x.lsn ≤ great) xs → lsn ≤ great
reached lsn great [] e a = absurd (cc)
reached lsn great (x ∷ xs) e a = ⊎_elim
    (λ is. let le = leb-true lsn x.lsn is in omega (arith, le, a.0))
    (λ not. reached lsn great xs (sym (ap (λ (b : Bool). b || list_any (reaches lsn) xs) not) ∙ e) a.1)
    (cases_Bool (leb lsn x.lsn))

-- the first of two things that hold of each
pub each-first : {A : Type 0} (P Q : A → Type 0) (xs : List A) → Each (λ x. P x × Q x) xs → Each P xs
each-first P Q [] a = tt
each-first P Q (x ∷ xs) a = (a.0.0, each-first P Q xs a.1)

-- ---- logs that begin later

abbrev flats_of : List (ℕ × Record) → List Rec
flats_of rs = map (λ r. flat r.1) rs

apart : (xs ys : List (ℕ × Record)) (tail : List Rec) → flats_of (xs ++ ys) ++ tail ≡ flats_of xs ++ (flats_of ys ++ tail)
apart xs ys tail = ap (λ (l : List Rec). l ++ tail) (map-append (λ (r : ℕ × Record). flat r.1) xs ys)
    ∙ append_assoc (flats_of xs) (flats_of ys) tail

each-behind : {A : Type 0} (P : A → Type 0) (xs ys : List A) → Each P (xs ++ ys) → Each P ys
each-behind P [] ys a = a
each-behind P (x ∷ xs) ys a = each-behind P xs ys a.1

each-both : {A : Type 0} (P : A → Type 0) (xs ys : List A) → Each P xs → Each P ys → Each P (xs ++ ys)
each-both P [] ys a b = b
each-both P (x ∷ xs) ys a b = (a.0, each-both P xs ys a.1 b)

each-groups : (P : Rec → Type 0) (test : Group → Bool) (groups : List Group) (tail : List Rec)
    → Each P (flats_of (flat_map (λ g. g.records) groups) ++ tail) → Each P (flats_of (flat_map (λ g. g.records)
    (filter test groups)) ++ tail)
each-groups P test [] tail a = a
each-groups P test (x ∷ groups) tail a =
    let parts = subst (Each P) (apart x.records (flat_map (λ g. g.records) groups) tail) a in
    by (test x) (each-front P (flats_of x.records) (flats_of (flat_map (λ g. g.records) groups) ++ tail) parts)
    (each-groups P test groups tail (each-behind P (flats_of x.records) (flats_of (flat_map
    (λ g. g.records) groups) ++ tail) parts))
  where
    by : (b : Bool) → Each P (flats_of x.records) → Each P (flats_of (flat_map (λ g. g.records) (filter test groups)) ++ tail)
        → Each P (flats_of (flat_map (λ g. g.records) (cond {A = List Group} b (x ∷ filter test groups)
        (filter test groups))) ++ tail)
    by true own rest = subst (Each P) (sym (apart x.records (flat_map (λ g. g.records) (filter test groups)) tail))
        (each-both P (flats_of x.records) (flats_of (flat_map (λ g. g.records) (filter test groups)) ++ tail) own rest)
    by false own rest = rest

-- what holds of all records of a log holds of them wherever it begins
pub each-by : (P : Rec → Type 0) (c : Parts) (moved : Keeps) (j : ℕ) → Each P (all_at (log_at c j))
    → Each P (all_at (log_by c moved j))
each-by P c moved j a = by (moved j) (other_at c j)
  where
    by : (b : Bool) (o : Option ℕ)
        → Each P (all_at (cond b (option_map_or (λ place. begun_at place (log_at c j)) o (log_at c j)) (log_at c j)))
    by true None = a
    by true (Some place) = each-groups P (λ g. leb place g.at) (log_at c j).groups (tail_at (log_at c j)) a
    by false o = a

pub lock-excl : (d : Claim) → lock_of d ≡ Some modes.Excl → d ≡ Claim.Excl
lock-excl Claim.Free e = absurd (cc)
lock-excl Claim.Shared e = absurd (cc)
lock-excl Claim.Excl e = refl

pub lock-none : (d : Claim) → lock_of d ≡ None → d ≡ Claim.Free
lock-none Claim.Free e = refl
lock-none Claim.Shared e = absurd (cc)
lock-none Claim.Excl e = absurd (cc)

-- no open change of this record, where the claims of whoever has one open are exclusive and there is none
pub none-there : (claims : Claims) (r : Rid) (xs : List Rec) → claims r ≡ Claim.Free → Each (λ x. claims (rid_of x) ≡ Claim.Excl) xs
    → filter (at r.page r.slot) xs ≡ []
none-there claims r [] free a = refl
none-there claims r (x ∷ xs) free a = ⊎_elim
    (λ is. let here : claims r ≡ Claim.Excl = subst (λ (q : Rid). claims q ≡ Claim.Excl) (same is) a.0 in let c = sym free
    ∙ here in absurd (cc))
    (λ off. ap (λ (b : Bool). cond {A = List Rec} b (x ∷ filter (at r.page r.slot) xs) (filter (at r.page r.slot) xs)) off
    ∙ none-there claims r xs free a.1)
    (cases_Bool (at r.page r.slot x))
  where
    same : at r.page r.slot x ≡ true → rid_of x ≡ r
    same is = let e = at_is r.page r.slot x is in λ n. record { page = e.0 n; slot = e.1 n }

-- where log i has one more record, each log with what is kept has it, or is as it was
pub kept-either : (i : ℕ) (y : Rec) (old new : Tails) → Grows i y old new → (keeps : Keeps) (j : ℕ)
    → (kept_logs new keeps j ≡ kept_logs old keeps j) ⊎ (kept_logs new keeps j ≡ kept_logs old keeps j ++ y ∷ [])
kept-either i y old new g keeps j = ⊎_elim
    (λ e. subst (λ (n : ℕ). (kept_logs new keeps n ≡ kept_logs old keeps n)
    ⊎ (kept_logs new keeps n ≡ kept_logs old keeps n ++ y ∷ [])) (sym e) (own (keeps i)))
    (λ ne. inl (ap₂ (λ (b t : List Rec). b ++ cond (keeps j) t []) (g.base j) (g.others j ne)))
    (cases_eq j i)
  where
    own : (b : Bool) → ((new.base i ++ cond b (new.tail i) []) ≡ (old.base i ++ cond b (old.tail i) []))
        ⊎ ((new.base i ++ cond b (new.tail i) []) ≡ (old.base i ++ cond b (old.tail i) []) ++ y ∷ [])
    own false = inl (ap (λ (l : List Rec). l ++ []) (g.base i))
    own true = inr (ap₂ (λ (b t : List Rec). b ++ t) (g.base i) g.here ∙ sym (append_assoc (old.base i) (old.tail i) (y ∷ [])))

-- the asks that are left where instance i has the page alone
pub asks-left : (i p : ℕ) (old new : DirectoryState Page) (active : ℕ → Bool) → entry_at new p ≡ dirtied i
    → asks_at new p ≡ open_asks (dirtied i) (asks_at old p) → ((q : ℕ) → q ≢ p → entry_at new q ≡ entry_at old q)
    → ((q : ℕ) → q ≢ p → asks_at new q ≡ asks_at old q)
    → ((q : ℕ) → Each (λ ask. (active ask.by ≡ true) × (is_open_ask (entry_at old q) ask ≡ true)) (asks_at old q))
    → (q : ℕ) → Each (λ ask. (active ask.by ≡ true) × (is_open_ask (entry_at new q) ask ≡ true)) (asks_at new q)
asks-left i p old new active entry asks others other_asks each q = ⊎_elim
    (λ same. subst (λ (n : ℕ). Each (Fine (entry_at new n)) (asks_at new n)) (sym same)
    (subst (λ (e : PageEntry). Each (Fine e) (asks_at new p)) (sym entry) (subst (Each (Fine (dirtied i))) (sym asks)
    (each-left (λ (ask : Ask). active ask.by ≡ true) (is_open_ask (dirtied i)) (asks_at old p)
    (each-first (λ (ask : Ask). active ask.by ≡ true) (λ (ask : Ask). is_open_ask (entry_at old p) ask ≡ true) (asks_at old p) (each p))))))
    (λ ne. subst (λ (e : PageEntry). Each (Fine e) (asks_at new q)) (sym (others q ne))
    (subst (Each (Fine (entry_at old q))) (sym (other_asks q ne)) (each q)))
    (cases_eq q p)
  where
    Fine : PageEntry → Ask → Type 0
    Fine e ask = (active ask.by ≡ true) × (is_open_ask e ask ≡ true)
