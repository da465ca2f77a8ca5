use Rattle.std.proofs.Common.{◌∙◌, List, ℕ, ap}
use Rattle.std.specs.Prelude.{Some, option_map}
use Rattle.std.specs.Global.{Vec}
use Rattle.sd_report.proofs.txn_names.TxnNames.get.Goals as goal
use Rattle.sd_base.proofs.Orders.{look-txn}

pub returns-in-Some : goal.returns-in-Some
returns-in-Some c =
    ap (λ (bytes : List ℕ). Some bytes) c.deref.ensures.value
    ∙ ap (option_map (λ (name : Vec ℕ). name.items)) (c.in-Some.ensures.value
    ∙ look-txn c.args.txn.now c.args.self.now.map.entries)

pub returns-in-None : goal.returns-in-None
returns-in-None c = ap (option_map (λ (name : Vec ℕ). name.items)) (c.in-None.ensures.value
    ∙ look-txn c.args.txn.now c.args.self.now.map.entries)
