use Rattle.std.proofs.Common.{◌+◌, eq-eqb, eqb-true, ap, sym, ◌∙◌, arith}
use Rattle.sd_page.specs.Reading.{two_at}
use Rattle.sd_page.proofs.Opened.{dead-word, few_slots, opened}
use Rattle.sd_page.proofs.image.Image.is_dead.Goals as goal

pub entry_place-requires : goal.entry_place-requires
entry_place-requires c =
    let few = few_slots c.args.self.now c.args.slot (opened _ _ c.self.invariant c.self.view_is).fits c.requires in
    omega (arith, few)

pub returns : goal.returns
returns c =
    let dead = dead-word c.self.inside.bytes c.args.self.now c.args.slot (opened _ _ c.self.invariant c.self.view_is) c.requires in
    let word = c.u16_at.ensures ∙ ap (λ k. two_at c.self.inside.bytes (k + 4)) c.entry_place.ensures in (
      λ t. dead.0 (sym word ∙ eqb-true c.u16_at.result 65535 t),
      λ n. eq-eqb c.u16_at.result 65535 (word ∙ dead.1 n),
    )
