-- Records of pages, in chains. It serves the goals of reading.rt.
use Rattle.std.proofs.Common.{◌≡◌, ⊎_elim, ℕ, ◌≤◌, true, false, Bool, cond, ltb, eqb, List, [], ◌∷◌, refl, sym, ap, ◌∙◌, subst, arith}
use Rattle.std.specs.Prelude.{All, filter}
use Rattle.std.proofs.lemmas.Bool.{cases_Bool, eqb-true}
use Rattle.std.proofs.lemmas.List.Elements.{All-head, All-tail}
use Rattle.sd_logrec.specs.View.{Rec, flat}
use Rattle.sd_logrec.specs.Spelling.{HasSpelling}
use Rattle.sd_logrec.specs.declared.record.Record.{Record}
use Rattle.sd_logrec.specs.declared.record.Record.TheVariants as records
use Rattle.sd_page.specs.Page.{Page}
use Rattle.sd_log.specs.declared.placed.Placed.{Placed}
use Rattle.sd_log.specs.Logs.{AreSpelled, LogState, flats, log_in, scanned}
use Rattle.sd_chain.specs.Records.{Each, of_page}
use Rattle.sd_chain.specs.Pages.{FitAll, redo, replay}
use Rattle.sd_chain.specs.Storage.{Storage, all_of, chain, newest, sorted}
use Rattle.sd_chain.proofs.Lists.{Each-filter, Each-sorted, filter-skip}
use Rattle.sd_chain.proofs.Chains.{Each-all_of, replay_rises}
use Rattle.sd_recovered.proofs.Members.{All-at, in_log}

not_eqb : (a b : ℕ) → (a ≡ b → ⊥) → eqb a b ≡ false
not_eqb a b ne = ⊎_elim (λ is. absurd (ne (eqb-true a b is))) (λ no. no) (cases_Bool (eqb a b))

-- no record is of a page past the last
off_page : (p : ℕ) (r : Record) → 1024 ≤ p → HasSpelling r → of_page p (flat r) ≡ false
off_page p (records.Start l epoch) le is = refl
off_page p (records.Update l txn prev page slot capacity before after) le is = not_eqb page p (λ e. absurd (omega (arith, le, e, is.3)))
off_page p (records.Clr l txn prev next page slot after) le is = not_eqb page p (λ e. absurd (omega (arith, le, e, is.4)))
off_page p (records.Commit l txn prev) le is = refl
off_page p (records.End l txn prev) le is = refl
off_page p (records.BeginCheck l) le is = refl
off_page p (records.EndCheck l begin spans recs) le is = refl

all_off : (p : ℕ) (ps : List Placed) → 1024 ≤ p → AreSpelled ps → Each (λ r. of_page p r ≡ false) (flats ps)
all_off p [] le are = tt
all_off p (x ∷ ps) le are =
    (off_page p x.rec le (All-head (λ (q : Placed). HasSpelling q.rec) x ps are), all_off p ps le (All-tail (λ (q : Placed). HasSpelling q.rec) x ps are))

filter_none : (test : Rec → Bool) (xs : List Rec) → Each (λ r. test r ≡ false) xs → filter test xs ≡ []
filter_none test [] off = refl
filter_none test (x ∷ xs) off = filter-skip test x xs off.0 ∙ filter_none test xs off.1

pub no_chain : (img : Storage) (logs : List LogState) (p : ℕ) → 1024 ≤ p → All (λ log. AreSpelled (scanned log)) logs
    → ((j : ℕ) → img.logs j ≡ log_in logs j) → chain img p ≡ []
unfolding chain
no_chain img logs p le are same =
    ap sorted (filter_none (of_page p) (all_of img.logs 9)
    (Each-all_of (λ r. of_page p r ≡ false) img.logs 9
    (λ j. subst (Each (λ r. of_page p r ≡ false)) (sym (same j))
    (in_log (Each (λ r. of_page p r ≡ false)) logs tt
    (λ k log at. all_off p (scanned log) le (All-at (λ l. AreSpelled (scanned l)) logs k log are at)) j))))

-- the disk image is no newer than the newest version
pub disk_below : (img : Storage) (p : ℕ) → FitAll (img.disk p).lsn (img.disk p) (chain img p) → (img.disk p).lsn ≤ (newest img p).lsn
unfolding newest
disk_below img p fit = (replay_rises (img.disk p).lsn (img.disk p) (chain img p) (omega arith) fit).0

-- a replay's LSN is the page's or a record's
replay_lsn : (P : ℕ → Type 0) (floor : ℕ) (page : Page) (xs : List Rec) → P page.lsn → Each (λ r. P r.lsn) xs → P (replay floor page xs).lsn
replay_lsn P floor page [] p each = p
replay_lsn P floor page (x ∷ xs) p each =
    replay_lsn P floor (cond (ltb floor x.lsn) (redo page x) page) xs (either (ltb floor x.lsn)) each.1
  where
    either : (b : Bool) → P (cond b (redo page x) page).lsn
    either true = each.0
    either false = p

pub newest_lsn : (P : ℕ → Type 0) (img : Storage) (p : ℕ) → P (img.disk p).lsn → ((j : ℕ) → Each (λ r. P r.lsn) (img.logs j)) → P (newest img p).lsn
unfolding newest chain
newest_lsn P img p disk logs =
    replay_lsn P (img.disk p).lsn (img.disk p) (sorted (filter (of_page p) (all_of img.logs 9))) disk
    (Each-sorted (λ r. P r.lsn) (filter (of_page p) (all_of img.logs 9))
    (Each-filter (λ r. P r.lsn) (of_page p) (all_of img.logs 9) (each_if (all_of img.logs 9) (Each-all_of (λ r. P r.lsn) img.logs 9 logs))))
  where
    each_if : (xs : List Rec) → Each (λ r. P r.lsn) xs → Each (λ r. of_page p r ≡ true → P r.lsn) xs
    each_if [] e = tt
    each_if (x ∷ xs) e = ((λ is. e.0), each_if xs e.1)
