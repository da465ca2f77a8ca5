use Rattle.std.proofs.Common.{List, sym, ap, ◌∙◌}
use Rattle.sd_base.specs.declared.place.Place as coded
use Rattle.sd_pagelock.specs.Places.{place_at, uses}
use Rattle.sd_pagelock.proofs.table.PlaceTable.may_use.Goals as goal

pub returns : goal.returns
returns c = λ out q low high. ap (λ (places : List coded.Place). uses (place_at places q) c.args.i) (sym c.self.view_is)
    ∙ sym (c.self.invariant.1 q c.args.i) ∙ c.has.ensures out q low high
