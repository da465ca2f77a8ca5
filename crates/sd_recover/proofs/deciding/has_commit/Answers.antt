use Rattle.std.proofs.Common.{◌≡◌, ◌∙◌, List, [], ◌∷◌, refl, ap}
use Rattle.std.specs.Prelude.{◌||◌}
use Rattle.std.specs.List.{list_any}
use Rattle.sd_base.specs.declared.ids.TxnId.{TxnId}
use Rattle.sd_chain.specs.Fates.{commits}
use Rattle.sd_log.specs.Logs.{scanned}
use Rattle.sd_log.specs.declared.placed.Placed.{Placed}
use Rattle.sd_logrec.specs.View.{flat, is_commit_of}
use Rattle.sd_logrec.specs.declared.record.Record.{Record}
use Rattle.sd_logrec.specs.declared.record.Record.TheVariants as records
use Rattle.sd_recover.proofs.deciding.has_commit.Goals as goal

commits_is : (t : TxnId) (r : Record) → is_commit_of t r ≡ commits t (flat r)
commits_is t (records.Start lsn epoch) = refl
commits_is t (records.Update lsn txn prev page slot capacity before after) = refl
commits_is t (records.Clr lsn txn prev undo_next page slot after) = refl
commits_is t (records.Commit lsn txn prev) = refl
commits_is t (records.End lsn txn prev) = refl
commits_is t (records.BeginCheck lsn) = refl
commits_is t (records.EndCheck lsn begin spans recs) = refl

any_is : (t : TxnId) (ps : List Placed)
    → list_any (λ p. is_commit_of t p.rec) ps ≡ list_any (λ p. commits t (flat p.rec)) ps
any_is t [] = refl
any_is t (p ∷ ps) =
    ap (λ b. b || list_any (λ q. is_commit_of t q.rec) ps) (commits_is t p.rec)
    ∙ ap (λ b. commits t (flat p.rec) || b) (any_is t ps)

pub returns : goal.returns
returns c = c.has_commit.ensures ∙ any_is c.args.t.now (scanned c.args.log.now)
