use Rattle.std.proofs.Common.{◌<◌, length, refl, sym, ◌∙◌, arith}
use Rattle.sd_pagelock.proofs.Rooms.{room-there, there}
use Rattle.sd_pagelock.proofs.directory.Directory.ask_again.Goals as goal

pub invariant_of-self : goal.invariant_of-self
invariant_of-self g c =
    let lt : c.get.result < length c.self.inside.rooms.items = omega (arith, c.get.ensures.range, c.self.invariant.1.count) in (
      c.self.invariant.0,
      room-there _ _ _ _ _ c.get.result c.self.invariant.1 (λ q ne. c.add.ensures.others q (λ e. ne (e ∙ sym c.get.ensures.value))) (λ q ne. refl)
          (there c.self.inside.rooms.items c.get.result c.index.result.now lt c.index.ensures c.if-is_none.ensures),
    )

pub invariant_of-self-2 : goal.invariant_of-self-2
invariant_of-self-2 g c =
    let lt : c.get.result < length c.self.inside.rooms.items = omega (arith, c.get.ensures.range, c.self.invariant.1.count) in (
      c.self.invariant.0,
      room-there _ _ _ _ _ c.get.result c.self.invariant.1 (λ q ne. c.add.ensures.others q (λ e. ne (e ∙ sym c.get.ensures.value))) (λ q ne. refl)
          (there c.self.inside.rooms.items c.get.result c.index.result.now lt c.index.ensures c.if-is_none.ensures),
    )
