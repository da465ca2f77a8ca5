use Rattle.std.proofs.Common.{rules}
use Rattle.std.proofs.lemmas.Map.Made.{filter_same_pairs}
use Rattle.sd_base.specs.declared.ids.TxnId.{TxnId}
use Rattle.sd_model.specs.State.{State}
use Rattle.sd_oracle.specs.Lists.{state_of}
use Rattle.sd_reclock.specs.declared.wait.Asked.{Asked}
use Rattle.sd_model.specs.Scenes.{is_running}
use Rattle.sd_oracle.proofs.Noting.{kept-running}
use Rattle.sd_oracle.proofs.watch.keep_running.Goals as goal

pub returns : goal.returns
returns c =
    let m : State = state_of c.args.table.now in
    kept-running m c.args.waits.now.entries c.retain.new.self.entries
    (filter_same_pairs _ (λ (e : TxnId × Asked). is_running (m.part e.0).life) _ (λ k v b w f' t. search rules) c.args.waits.now.entries c.retain.new.self.entries c.retain.ensures.filtered)
