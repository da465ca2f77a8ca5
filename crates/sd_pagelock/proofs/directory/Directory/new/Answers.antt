use Rattle.std.proofs.Common.{◌∙◌, ap, length, None, Option}
use Rattle.std.proofs.lemmas.List.{length-replicate}
use Rattle.sd_pagelock.specs.Asks.{Queues, asks_for}
use Rattle.sd_pagelock.proofs.TableKept.{blank}
use Rattle.sd_pagelock.proofs.Kept.{kept-new}
use Rattle.sd_pagelock.proofs.directory.Directory.new.Goals as goal

pub invariant_of-result : goal.invariant_of-result
invariant_of-result g c = (
  kept-new _ _ _ c.in_ok-new.ensures c.in_ok-repeated.ensures
      (ap length c.in_ok-nothing.ensures ∙ length-replicate {A = Option g.row.I.Denot} 1024 None),
  record {
    count = ap length c.in_ok-nothing-2.ensures ∙ length-replicate {A = Option g.row.I.Denot} 1024 None;
    unasked = λ p lt none still. ap (λ (q : Queues). asks_for q p) c.new-2.ensures;
  },
)

pub returns-clause-clean : goal.returns-clause-clean
returns-clause-clean g c = blank c.in_ok-repeated.field-0.items None c.in_ok-repeated.ensures

pub returns-clause-still : goal.returns-clause-still
returns-clause-still g c = blank c.in_ok-nothing.field-0.items None c.in_ok-nothing.ensures
