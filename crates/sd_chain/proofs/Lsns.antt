-- LSNs: the last one of a log, that of a page's newest version, and those that are left for what is owed. For the laws
-- `undo`, `seal`, `append` and `put_page`.
use Rattle.std.proofs.Common.{◌≡◌, ⊎_elim, ℕ, suc, ◌+◌, ◌-◌, ◌^◌, ◌<◌, ◌≤◌, Bool, true, false, cond, List, [], ◌∷◌, ◌++◌, map, max, length, refl, sym, ap, ap₂, ◌∙◌, subst, arith, append-nil, zero, eqb, eq-eqb, ne_eqb}
use Rattle.std.specs.Prelude.{slice_get, filter, ltb}
use Rattle.std.specs.Option.{option_map_or}
use Rattle.std.specs.List.{list_any, flat_map}
use Rattle.std.proofs.lemmas.Bool.{cases_lt}
use Rattle.std.proofs.lemmas.List.{map-append}
use Rattle.std.proofs.lemmas.List.Concat.{flat_map-cons}
use Rattle.sd_base.specs.declared.ids.TxnId.{TxnId}
use Rattle.sd_logrec.specs.declared.record.Record.{Record}
use Rattle.sd_logrec.specs.Kept.{Group, Master, Records, Whole, placed_from}
use Rattle.sd_logrec.specs.Spelling.{spelling}
use Rattle.sd_logrec.specs.View.{Rec, flat}
use Rattle.sd_page.specs.Page.{Page}
use Rattle.sd_log.specs.declared.placed.Placed.{Placed}
use Rattle.sd_log.specs.Logs.{LogState, StandsOn, flats, forced, last_lsn, needed, placed, placed_groups, placed_tail, scanned, tail_len, with_record}
use Rattle.sd_log.specs.Logs as log_specs
use Rattle.sd_chain.specs.Checks.{Past, after_record, owed, past_of, placed_of}
use Rattle.sd_chain.specs.Records.{Each, of_page}
use Rattle.sd_chain.specs.Order.{of_txn}
use Rattle.sd_chain.specs.Storage.{Storage, all_of, chain, newest}
use Rattle.sd_chain.specs.Images.{Keeps, log, Allowed, IsSafe, Tails, with_disk, all_kept}
use Rattle.sd_chain.specs.Pages.{redo, replay}
use Rattle.sd_chain.proofs.Chains.{Each-all_of}
use Rattle.sd_chain.proofs.Lists.{Each-filter, Each-sorted, Each-weaker}
use Rattle.std.proofs.lemmas.List.Sums.{sum_by-le-sum_by}
use Rattle.sd_chain.specs.Cuts.{cut}
use Rattle.sd_chain.specs.Logs.{Logs, Outcomes, after_records, all_at, eight, kept_logs, may_of, most_owed, owed_with, past_at, records_at, tail_at, tails_of}
use Rattle.sd_chain.specs.Soundly.{HasLsns, LsnsFit}
use Rattle.sd_chain.specs.ChecksKept.{NewestHasLsns, NextLsnIsThere}
use Rattle.sd_chain.proofs.Sums.{sum-one}
use Rattle.sd_chain.proofs.Kept.{flat-records, forced-records}
use Rattle.sd_chain.proofs.Pasts.{lsn_after}

-- ---- the last LSN of a log, tail and all

recs : List Placed → List Record
recs ps = map (λ p. p.rec) ps

placed_same : (b : Bool) (rs : Records) → map (λ p. p.rec) (map (placed b) rs) ≡ map (λ r. r.1) rs
placed_same b [] = refl
placed_same b (r ∷ rs) = ap (λ (l : List Record). r.1 ∷ l) (placed_same b rs)

from_same : (at : ℕ) (rs : List Record) → map (λ p. p.rec) (map (placed false) (placed_from at rs)) ≡ rs
from_same at [] = refl
from_same at (r ∷ rs) = ap (λ (l : List Record). r ∷ l) (from_same (at + length (spelling r)) rs)

groups_same : (gs : List Group) → map (λ p. p.rec) (placed_groups gs) ≡ map (λ r. r.1) (flat_map (λ g. g.records) gs)
groups_same [] = refl
groups_same (g ∷ gs) =
    ap (map (λ p. p.rec)) (flat_map-cons (λ (h : Group). map (placed true) h.records) g gs)
    ∙ map-append (λ (p : Placed). p.rec) (map (placed true) g.records) (placed_groups gs)
    ∙ ap₂ (λ (a b : List Record). a ++ b) (placed_same true g.records) (groups_same gs)
    ∙ sym (map-append (λ (r : ℕ × Record). r.1) g.records (flat_map (λ h. h.records) gs))
    ∙ ap (map (λ r. r.1)) (sym (flat_map-cons (λ (h : Group). h.records) g gs))

-- the records of a log, tail and all
pub scanned-records : (l : LogState) → map (λ p. p.rec) (scanned l) ≡ records_at (forced l)
scanned-records l =
    map-append (λ (p : Placed). p.rec) (placed_groups l.groups) (placed_tail l.gate l.tail)
    ∙ ap₂ (λ (a b : List Record). a ++ b) (groups_same l.groups) (from_same (l.gate + 5) l.tail)
    ∙ sym (forced-records l)

last_of : (past : Past) (p : Placed) (ps : List Placed)
    → (after_records past (map (λ q. q.rec) (p ∷ ps))).lsn ≡ option_map_or log_specs.lsn_of (slice_get (p ∷ ps) (length ps)) 0
last_of past p [] = lsn_after past p.rec
last_of past p (q ∷ ps) = last_of (after_record past p.rec) q ps

last_placed : (past : Past) (ps : List Placed) → past.lsn ≡ 0 → (after_records past (map (λ q. q.rec) ps)).lsn ≡ last_lsn ps
last_placed past [] z = z
last_placed past (p ∷ ps) z = let place : length ps ≡ length (p ∷ ps) - 1 = omega arith in
    last_of past p ps ∙ ap (λ (k : ℕ). option_map_or log_specs.lsn_of (slice_get (p ∷ ps) k) 0) place

-- The greatest LSN of the log, behind any master, is the last one's.
pub last-is : (m : Master) (l : LogState) → (past_at m (forced l)).lsn ≡ last_lsn (scanned l)
last-is m l = ap (λ (rs : List Record). (after_records (past_of m) rs).lsn) (sym (scanned-records l))
    ∙ last_placed (past_of m) (scanned l) refl

scanned_flats : (ps : List Placed) → flats ps ≡ map flat (map (λ q. q.rec) ps)
scanned_flats [] = refl
scanned_flats (p ∷ ps) = ap (λ (l : List Rec). flat p.rec ∷ l) (scanned_flats ps)

-- what holds of each LSN holds of the last one
after_each : (P : ℕ → Type 0) (past : Past) (rs : List Record) → P past.lsn → Each (λ x. P x.lsn) (map flat rs)
    → P (after_records past rs).lsn
after_each P past [] p a = p
after_each P past (r ∷ rs) p a = after_each P (after_record past r) rs (subst P (sym (lsn_after past r)) a.0) a.1

-- and seen flat
pub log-records : (l : LogState) → map flat (records_at (forced l)) ≡ all_at l
log-records l = ap (map flat) (forced-records l) ∙ map-append flat (records_at l) l.tail
    ∙ ap (λ (a : List Rec). a ++ tail_at l) (flat-records (placed_of (Whole l.groups l.gate)))

abbrev no_master : Master
no_master = record { count = 0; log_area = 0; epoch = 0; check = 0; start = 0 }

-- some LSN with what is owed is low enough, so what is owed is
pub owed-low : (t : TxnId) (n : ℕ) (xs : List Rec) → list_any (of_txn t) xs ≡ true → Each (λ x. x.lsn + n < 2 ^ 62) xs
    → n < 2 ^ 62
owed-low t n [] e a = absurd (cc)
owed-low t n (x ∷ xs) e a = let h = a.0 in omega (arith, h)

-- where there are LSNs above each record, there are above the last one
pub last-low : (l : LogState) (t : TxnId) (n : ℕ) → list_any (of_txn t) (all_at l) ≡ true
    → Each (λ x. x.lsn + n < 2 ^ 62) (all_at l)
    → last_lsn (scanned l) + n < 2 ^ 62
last-low l t n there a = subst (λ (k : ℕ). k + n < 2 ^ 62) (last-is no_master l)
    (after_each (λ k. k + n < 2 ^ 62) (past_of no_master) (records_at (forced l))
    (let h = owed-low t n (all_at l) there a in omega (arith, h))
    (subst (Each (λ x. x.lsn + n < 2 ^ 62)) (sym (log-records l)) a))

-- and where each is at most so great, the last one is
pub last-at-most : (l : LogState) (great : ℕ) → Each (λ x. x.lsn ≤ great) (all_at l) → last_lsn (scanned l) ≤ great
last-at-most l great a = subst (λ (k : ℕ). k ≤ great) (last-is no_master l)
    (after_each (λ k. k ≤ great) (past_of no_master) (records_at (forced l)) (omega arith)
    (subst (Each (λ x. x.lsn ≤ great)) (sym (log-records l)) a))

-- ---- the LSN of a page's newest version

replay_low : (P : ℕ → Type 0) (floor : ℕ) (page : Page) (xs : List Rec) → P page.lsn → Each (λ x. P x.lsn) xs
    → P (replay floor page xs).lsn
replay_low P floor page [] p a = p
replay_low P floor page (x ∷ xs) p a =
    replay_low P floor (cond (ltb floor x.lsn) (redo page x) page) xs (by (ltb floor x.lsn)) a.1
  where
    by : (b : Bool) → P (cond b (redo page x) page).lsn
    by true = a.0
    by false = p

-- what holds of the LSNs of a page and of all records holds of its newest version
pub newest-low : (P : ℕ → Type 0) (img : Storage) (p : ℕ) → P (img.disk p).lsn → ((j : ℕ) → Each (λ x. P x.lsn) (img.logs j))
    → P (newest img p).lsn
unfolding newest chain
newest-low P img p disk logs = replay_low P (img.disk p).lsn (img.disk p) (chain img p) disk
    (Each-sorted (λ x. P x.lsn) (filter (of_page p) (all_of img.logs 9))
    (Each-filter (λ x. P x.lsn) (of_page p) (all_of img.logs 9)
    (Each-weaker (λ x. P x.lsn) (λ x. of_page p x ≡ true → P x.lsn) (λ x h is. h) (all_of img.logs 9)
    (Each-all_of (λ x. P x.lsn) img.logs 9 logs))))

-- ---- what all logs owe

-- no cut owes more than the most
pub owed-most : (tails : Tails) (keeps : Keeps) → owed_with tails keeps ≤ most_owed tails
owed-most tails keeps = sum_by-le-sum_by (λ j. owed (kept_logs tails keeps j))
    (λ j. max (owed (tails.base j)) (owed (tails.base j ++ tails.tail j))) eight (λ j. each j (keeps j))
  where
    each : (j : ℕ) (b : Bool)
        → owed (tails.base j ++ cond b (tails.tail j) []) ≤ max (owed (tails.base j)) (owed (tails.base j ++ tails.tail j))
    each j true = omega arith
    each j false = let e = ap owed (append-nil (tails.base j)) in omega (arith, e)

-- The newest version of a page with these tails has an LSN that is low enough for what they owe.
pub version-low : (tails : Tails) (may : ℕ → Page → Type 0) (version : Keeps → ℕ → Page) (disk : ℕ → Page) (keeps : Keeps)
    (p : ℕ) → IsSafe tails may version → Allowed may disk → log tails 0 ≡ [] → LsnsFit tails may keeps
    → (version keeps p).lsn + owed_with tails keeps < 2 ^ 62
version-low tails may version disk keeps p safe allowed none fit =
    subst (λ (x : Page). x.lsn + owed_with tails keeps < 2 ^ 62) (safe.same disk allowed keeps p)
    (newest-low (λ n. n + owed_with tails keeps < 2 ^ 62) (cut keeps (with_disk tails disk)) p
    (fit.pages p (disk p) (allowed p)) each)
  where
    front : (b : Bool) (xs ys : List Rec) → xs ++ ys ≡ [] → xs ++ cond b ys [] ≡ []
    front true xs ys e = e
    front false [] ys e = refl
    front false (x ∷ xs) ys e = absurd (cc)

    each : (j : ℕ) → Each (HasLsns tails keeps) (kept_logs tails keeps j)
    each zero = subst (Each (HasLsns tails keeps)) (sym (front (keeps 0) (tails.base 0) (tails.tail 0) none)) tt
    each (suc j) = ⊎_elim
        (λ lt. fit.logs (suc j) (omega arith) (omega (arith, lt)))
        (λ ge. subst (Each (HasLsns tails keeps))
        (sym (front (keeps (suc j)) (tails.base (suc j)) (tails.tail (suc j)) (safe.eight (suc j) ge))) tt)
        (cases_lt (suc j) 9)

-- so in particular
pub newest-has_lsns : (leaves : Outcomes) → NewestHasLsns leaves
newest-has_lsns leaves logs version disk keeps p safe allowed none fit =
    version-low (tails_of logs) (may_of leaves) version disk keeps p safe allowed none fit

-- one log owes no more than all
pub owed-one_within : (i : ℕ) (logs : Logs) (keeps : Keeps) → 1 ≤ i → i ≤ 8
    → owed (kept_logs (tails_of logs) keeps i) ≤ owed_with (tails_of logs) keeps
owed-one_within i logs keeps low high =
    let sum = sum-one (λ j. cond (eqb j i) 0 (owed (kept_logs (tails_of logs) keeps j)))
    (λ j. owed (kept_logs (tails_of logs) keeps j)) i
    (λ j ne. ap (λ (b : Bool). cond b 0 (owed (kept_logs (tails_of logs) keeps j))) (ne_eqb j i ne)) low high in
    let none : cond (eqb i i) 0 (owed (kept_logs (tails_of logs) keeps i)) ≡ 0 =
    ap (λ (b : Bool). cond b 0 (owed (kept_logs (tails_of logs) keeps i))) (eq-eqb i i refl) in
    omega (arith, sum, none)

-- while log i owes a record, the next LSN is one, whatever page it is of
pub next_lsn-there_of : (i : ℕ) (logs : Logs) (may : ℕ → Page → Type 0) (t : TxnId) (page_lsn : ℕ) → 1 ≤ i → i ≤ 8
    → LsnsFit (tails_of logs) may all_kept
    → list_any (of_txn t) (all_at (logs i)) ≡ true → 1 ≤ owed (all_at (logs i))
    → page_lsn + owed_with (tails_of logs) all_kept < 2 ^ 62
    → max (last_lsn (scanned (logs i))) page_lsn + 1 < 2 ^ 62
next_lsn-there_of i logs may t page_lsn low high fit there some page =
    let last = last-low (logs i) t (owed_with (tails_of logs) all_kept) there (fit.logs i low high) in
    let all = owed-one_within i logs all_kept low high in
    omega (arith, last, all, some, page)

-- so in particular
pub next_lsn-there : (leaves : Outcomes) → NextLsnIsThere leaves
next_lsn-there leaves i logs t page_lsn low high fit there some page =
    next_lsn-there_of i logs (may_of leaves) t page_lsn low high fit there some page
