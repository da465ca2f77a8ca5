use Rattle.std.proofs.Common.{ap}
use Rattle.sd_base.specs.declared.place.Place.TheVariants as variants
use Rattle.sd_pagelock.specs.Places.{seen}
use Rattle.sd_pagelock.proofs.Groups.{noted-free}
use Rattle.sd_pagelock.proofs.TableKept.{blank, kept-new}
use Rattle.sd_pagelock.proofs.table.PlaceTable.new.Goals as goal

pub invariant_of-result : goal.invariant_of-result
invariant_of-result c = (
  kept-new c.in_ok-repeated.field-0.items c.in_ok-repeated.ensures,
  noted-free c.in_ok-repeated.field-0.items c.in_ok-new.field-0 (blank c.in_ok-repeated.field-0.items variants.Free c.in_ok-repeated.ensures) c.in_ok-new.ensures,
)

pub returns : goal.returns
returns c = λ p. ap seen (blank c.in_ok-repeated.field-0.items variants.Free c.in_ok-repeated.ensures p)
