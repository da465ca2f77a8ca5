use Rattle.std.proofs.Common.{ap, vec_items, ◌∙◌}
use Rattle.std.specs.Map.{lookup}
use Rattle.std.specs.Str.{bytes_eq}
use Rattle.sd_txn.specs.Transactions.{mark_of}
use Rattle.sd_txn.specs.Marked.{named}
use Rattle.sd_txn.proofs.Marks.{lookup-named}
use Rattle.sd_txn.proofs.txn.Txn.mark.Goals as goal

pub returns : goal.returns
returns c = c.copied.ensures ∙ c.get.ensures.value ∙ lookup-named vec_items c.items.result.now c.self.inside.marks.entries
    ∙ ap (λ name. lookup (bytes_eq name) (named vec_items c.self.inside.marks.entries)) c.items.ensures ∙ ap (mark_of c.args.mark.now) c.self.view_is
