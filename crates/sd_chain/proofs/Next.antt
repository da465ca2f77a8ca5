-- Whether a record may come next in a log, by its transaction and its epoch, and what it makes of the epoch: for the laws
-- `epochs`, `append`, `undo` and `seal`.
use Rattle.std.proofs.Common.{◌≡◌, inr, ℕ, true, false, List, [], ◌∷◌, refl, ap, ◌∙◌}
use Rattle.std.specs.Prelude.{is_some}
use Rattle.std.specs.List.{list_any}
use Rattle.sd_base.specs.declared.ids.TxnId.{TxnId}
use Rattle.sd_base.specs.Twin.{chosen_body}
use Rattle.sd_logrec.specs.declared.record.Record.{Record}
use Rattle.sd_logrec.specs.declared.record.Record.TheVariants as records
use Rattle.sd_logrec.specs.Kept.{Master, master}
use Rattle.sd_logrec.specs.View.{flat}
use Rattle.sd_log.specs.Logs.{LogState, forced, with_record}
use Rattle.sd_chain.specs.Checks.{IsOwn, MayCome, Past, past_of}
use Rattle.sd_chain.specs.Order.{of_txn, speaks}
use Rattle.sd_chain.specs.Logs.{Outcomes, after_records, all_at, is_start, past_at, records_at}
use Rattle.sd_chain.specs.Soundly.{LogIsSound}
use Rattle.sd_chain.specs.Appends.{IsNextEpoch}
use Rattle.sd_chain.specs.ChecksKept.{OwnMayCome}
use Rattle.sd_chain.proofs.Follows.{after-append, epoch-after, not-both}
use Rattle.sd_chain.proofs.Epochs.{own-begun_of}
use Rattle.sd_chain.proofs.Lsns.{log-records}
use Rattle.sd_chain.proofs.Appends.{appended-records}

-- a transaction with a record in the log is this instance's and of a begun epoch
pub own-begun : (j : ℕ) (bytes : List ℕ) (l : LogState) (t : TxnId) → LogIsSound j bytes (forced l)
    → list_any (of_txn t) (all_at l) ≡ true → IsOwn j (past_at (master bytes) (forced l)) t
own-begun j bytes l t s there =
    own-begun_of j (is_some (chosen_body 0 64 bytes)) (master bytes) (past_of (master bytes))
    (records_at (forced l)) t s.follow (inr refl)
    (ap (list_any (of_txn t)) (log-records l) ∙ there)

-- a record of it may come
pub may_come-own : (j : ℕ) (past : Past) (y : Record) → speaks (flat y).kind ≡ true → IsOwn j past (flat y).txn
    → MayCome j past y
may_come-own j past (records.Start l epoch) s h = absurd (cc)
may_come-own j past (records.Update l txn prev page slot capacity before after) s h = h
may_come-own j past (records.Clr l txn prev undo_next page slot after) s h = h
may_come-own j past (records.Commit l txn prev) s h = h
may_come-own j past (records.End l txn prev) s h = h
may_come-own j past (records.BeginCheck l) s h = tt
may_come-own j past (records.EndCheck l begin spans recs) s h = tt

-- only a Start has to have the next epoch
pub next_epoch-other : (past : Past) (y : Record) → is_start y ≡ false → IsNextEpoch past y
next_epoch-other past (records.Start l epoch) e = absurd (not-both true refl e)
next_epoch-other past (records.Update l txn prev page slot capacity before after) e = tt
next_epoch-other past (records.Clr l txn prev undo_next page slot after) e = tt
next_epoch-other past (records.Commit l txn prev) e = tt
next_epoch-other past (records.End l txn prev) e = tt
next_epoch-other past (records.BeginCheck l) e = tt
next_epoch-other past (records.EndCheck l begin spans recs) e = tt

-- a record of a transaction is no Start
pub speaks-no_start : (y : Record) → speaks (flat y).kind ≡ true → is_start y ≡ false
speaks-no_start (records.Start l epoch) s = absurd (cc)
speaks-no_start (records.Update l txn prev page slot capacity before after) s = refl
speaks-no_start (records.Clr l txn prev undo_next page slot after) s = refl
speaks-no_start (records.Commit l txn prev) s = refl
speaks-no_start (records.End l txn prev) s = refl
speaks-no_start (records.BeginCheck l) s = refl
speaks-no_start (records.EndCheck l begin spans recs) s = refl

-- how the epoch that the log is in moves: by a Start alone
pub epoch-others : (m : Master) (l : LogState) (y : Record) (spare : ℕ) → is_start y ≡ false
    → (past_at m (forced (with_record y spare l))).epoch ≡ (past_at m (forced l)).epoch
epoch-others m l y spare e =
    ap (λ (rs : List Record). (after_records (past_of m) rs).epoch) (appended-records l y spare)
    ∙ ap (λ (p : Past). p.epoch) (after-append (past_of m) (records_at (forced l)) (y ∷ []))
    ∙ epoch-after (past_at m (forced l)) y e

-- to the one that it has
pub epoch-start : (m : Master) (l : LogState) (lsn epoch spare : ℕ)
    → (past_at m (forced (with_record (records.Start lsn epoch) spare l))).epoch ≡ epoch
epoch-start m l lsn epoch spare =
    ap (λ (rs : List Record). (after_records (past_of m) rs).epoch) (appended-records l (records.Start lsn epoch) spare)
    ∙ ap (λ (p : Past). p.epoch) (after-append (past_of m) (records_at (forced l)) (records.Start lsn epoch ∷ []))

-- So it may have a further record.
pub may_come-there : (leaves : Outcomes) → OwnMayCome leaves
may_come-there leaves i y logs low high s spoken there bytes l =
    may_come-own i (past_at (master bytes) (forced (logs i))) y spoken
    (own-begun i bytes (logs i) (flat y).txn (s.ready i low high bytes l).sound_forced there)
