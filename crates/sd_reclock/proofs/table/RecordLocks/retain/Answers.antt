use Rattle.std.proofs.Common.{◌≡◌, None, Option, not, nat_eq, cond, subst, rules}
use Rattle.std.proofs.lemmas.Map.Made.{filter_same_pairs}
use Rattle.sd_base.specs.declared.ids.TxnId.{TxnId}
use Rattle.sd_base.specs.Waits.{Wait}
use Rattle.sd_reclock.specs.declared.wait.Asked.{Asked}
use Rattle.sd_reclock.specs.Waiting.{waits_in}
use Rattle.sd_reclock.specs.Locks.{LockTable, waits}
use Rattle.sd_reclock.proofs.Noting.{waits_kept}
use Rattle.sd_reclock.proofs.table.RecordLocks.retain.Goals as goal

pub returns-clause-waits : goal.returns-clause-waits
returns-clause-waits c = λ u. subst (λ (table : LockTable). waits_in c.retain.new.self.entries u ≡ cond {A = Option Wait} (nat_eq u.inst c.args.i) None (waits table u)) c.self.view_is
    (let kept = filter_same_pairs _ (λ (e : TxnId × Asked). not (nat_eq e.0.inst c.args.i)) _ (λ k v b w f' t. search rules) c.self.inside.waits.entries c.retain.new.self.entries c.retain.ensures.filtered in
    waits_kept c.self.inside.waits.entries c.retain.new.self.entries c.args.i kept u)
