-- The waits that a list of them keeps. It serves the goals of watch.rt.
use Rattle.std.proofs.Common.{◌≡◌, List, Option, None, ap, ◌∙◌}
use Rattle.std.specs.List.{filter}
use Rattle.std.specs.Map.{lookup}
use Rattle.std.specs.Option.{option_map}
use Rattle.sd_base.specs.declared.ids.TxnId.{TxnId}
use Rattle.sd_base.specs.Ids.{same_txn}
use Rattle.sd_model.specs.State.{State}
use Rattle.sd_model.specs.Scenes.{of_running, is_running}
use Rattle.sd_reclock.specs.declared.wait.Asked.{Asked}
use Rattle.sd_reclock.specs.Waiting.{wait_of, waits_in}
use Rattle.sd_reclock.proofs.Noting.{map-cond, lookup-kept}

-- the waits that are left where those of others than running ones are dropped
pub kept-running : (m : State) (old new : List (TxnId × Asked)) → new ≡ filter (λ e. is_running (m.part e.0).life) old
    → (u : TxnId) → waits_in new u ≡ of_running m (waits_in old) u
kept-running m old new e u = ap (λ (es : List (TxnId × Asked)). option_map wait_of (lookup (same_txn u) es)) e
    ∙ (ap (λ (o : Option Asked). option_map wait_of o) (lookup-kept (λ t. is_running (m.part t).life) u old)
    ∙ map-cond (is_running (m.part u).life) (lookup (same_txn u) old) None)
