use Rattle.std.proofs.Common.{length, sym, ap, ◌∙◌}
use Rattle.sd_pagelock.specs.Places.{place_at, seen}
use Rattle.sd_pagelock.proofs.Kept.{kept-write}
use Rattle.sd_pagelock.proofs.directory.Directory.write.Goals as goal

pub invariant_of-self : goal.invariant_of-self
invariant_of-self g c =
    let d = c.self.inside in (
      kept-write d.places c.put.new.self d.rec_lsns.items (length d.images.items) c.get.result (seen c.args.to) c.args.rec c.self.invariant.0
          c.get.ensures.range c.requires.marked (ap (place_at c.put.new.self) c.get.ensures.value ∙ c.put.ensures.here)
          (λ q ne. c.put.ensures.others q (λ e. ne (e ∙ sym c.get.ensures.value))),
      c.self.invariant.1,
    )
