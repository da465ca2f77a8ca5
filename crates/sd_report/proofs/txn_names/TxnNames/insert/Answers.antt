use Rattle.std.proofs.Common.{◌≡◌, ℕ, List, Bool, true, false, cond, refl, ap, ◌∙◌}
use Rattle.std.specs.Prelude.{Option, Some, option_map}
use Rattle.std.specs.Global.{Vec}
use Rattle.std.specs.Map.{lookup}
use Rattle.sd_base.specs.Ids.{same_txn}
use Rattle.sd_report.proofs.txn_names.TxnNames.insert.Goals as goal
use Rattle.sd_base.proofs.Orders.{put-txn}

map_cond : (b : Bool) (name : Vec ℕ) (old : Option (Vec ℕ))
    → option_map (λ (v : Vec ℕ). v.items) (cond {A = Option (Vec ℕ)} b (Some name) old) ≡ cond {A = Option (List ℕ)} b
    (Some name.items) (option_map (λ (v : Vec ℕ). v.items) old)
map_cond true name old = refl
map_cond false name old = refl

pub returns-clause-named : goal.returns-clause-named
returns-clause-named c = λ t.
    let old = c.args.self.now.map.entries in
    ap (option_map (λ (v : Vec ℕ). v.items)) (put-txn c.args.txn t (Some c.args.name) old c.insert.new.self.entries
    (c.in_ok-insert.ensures.updates.0 t))
    ∙ map_cond (same_txn c.args.txn t) c.args.name (lookup (same_txn t) old)
