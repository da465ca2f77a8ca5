-- The last LSN of a log is its greatest, where the log is sound; and it rises with each record: for `last` of the invariant.
use Rattle.std.proofs.Common.{◌≡◌, ℕ, ◌≤◌, Bool, List, [], ◌∷◌, ◌++◌, map, sym, ap, ◌∙◌, subst, arith}
use Rattle.std.specs.Prelude.{is_some}
use Rattle.sd_base.specs.Twin.{chosen_body}
use Rattle.sd_logrec.specs.Kept.{Master, master}
use Rattle.sd_logrec.specs.View.{Rec, flat}
use Rattle.sd_logrec.specs.declared.record.Record.{Record}
use Rattle.sd_log.specs.Logs.{LogState, forced, last_lsn, scanned, with_record}
use Rattle.sd_chain.specs.Checks.{Follow, Past, after_record, lsn_of, past_of}
use Rattle.sd_chain.specs.Records.{Each}
use Rattle.sd_chain.proofs.Lists.{Each-append, Each-weaker}
use Rattle.sd_chain.proofs.Pasts.{lsn_after}
use Rattle.sd_chain.specs.Logs.{after_records, all_at, next_lsn, past_at, records_at}
use Rattle.sd_chain.specs.Soundly.{LogIsSound}
use Rattle.sd_chain.proofs.Appends.{appended-records}
use Rattle.sd_chain.proofs.Follows.{after-append, lsn-rises}
use Rattle.sd_chain.proofs.Kept.{forced-idle, forced-tail}
use Rattle.sd_chain.proofs.Lsns.{last-is, log-records}

each-last : (inst : ℕ) (chosen : Bool) (m : Master) (past : Past) (xs : List Record) → Follow inst chosen m past xs
    → Each (λ x. x.lsn ≤ (after_records past xs).lsn) (map flat xs)
each-last inst chosen m past [] f = tt
each-last inst chosen m past (x ∷ xs) f =
    let rises = lsn-rises inst chosen m (after_record past x) xs f.3 in
    let own = lsn_after past x in
    (omega (arith, rises, own), each-last inst chosen m (after_record past x) xs f.3)

-- The last LSN of a log that is sound with its tail is its greatest.
pub last-sound : (j : ℕ) (bytes : List ℕ) (l : LogState) → LogIsSound j bytes (forced l)
    → Each (λ x. x.lsn ≤ last_lsn (scanned l)) (all_at l)
last-sound j bytes l sound =
    subst (Each (λ (x : Rec). x.lsn ≤ last_lsn (scanned l))) (log-records l)
    (subst (λ (n : ℕ). Each (λ (x : Rec). x.lsn ≤ n) (map flat (records_at (forced l)))) (last-is (master bytes) l)
    (each-last j (is_some (chosen_body 0 64 bytes)) (master bytes) (past_of (master bytes)) (records_at (forced l)) sound.follow))

-- a record that comes is the last
pub last-more : (l : LogState) (y : Record) (spare : ℕ) → last_lsn (scanned (with_record y spare l)) ≡ lsn_of y
last-more l y spare =
    sym (last-is (master []) (with_record y spare l))
    ∙ ap (λ (rs : List Record). (after_records (past_of (master [])) rs).lsn) (appended-records l y spare)
    ∙ ap (λ (p : Past). p.lsn) (after-append (past_of (master [])) (records_at (forced l)) (y ∷ []))
    ∙ lsn_after (after_records (past_of (master [])) (records_at (forced l))) y

-- it is above those before it
pub last-grows : (l : LogState) (y : Record) (spare page : ℕ) (log : List Rec) → Each (λ x. x.lsn ≤ last_lsn (scanned l)) log
    → lsn_of y ≡ next_lsn l page
    → Each (λ x. x.lsn ≤ last_lsn (scanned (with_record y spare l))) (log ++ flat y ∷ [])
last-grows l y spare page log a next =
    let is = last-more l y spare in
    Each-append (λ x. x.lsn ≤ last_lsn (scanned (with_record y spare l))) log (flat y ∷ [])
    (Each-weaker _ _ (λ x le. omega (arith, le, next, is)) log a) (omega (arith, is), tt)

-- a force leaves the last one
pub last-forced : (l : LogState) → last_lsn (scanned (forced l)) ≡ last_lsn (scanned l)
last-forced l = sym (last-is (master []) (forced l))
    ∙ ap (λ (k : LogState). (past_at (master []) k).lsn) (forced-idle (forced l) (forced-tail l)) ∙ last-is (master []) l
