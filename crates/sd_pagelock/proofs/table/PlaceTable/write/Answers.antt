use Rattle.std.proofs.Common.{◌+◌, ◌<◌, ℕ, cond, length, refl, sym, ap, ◌∙◌, arith}
use Rattle.sd_pagelock.specs.Places.{seen, is_lost}
use Rattle.sd_pagelock.specs.Noted.{is_noted}
use Rattle.sd_pagelock.proofs.Groups.{noted-write}
use Rattle.sd_pagelock.proofs.TableKept.{kept-write}
use Rattle.sd_pagelock.proofs.Counts.{put_counts, some_lost, few_lost}
use Rattle.sd_pagelock.proofs.table.PlaceTable.write.Goals as goal

pub recounted-self-inside-requires-clause-low : goal.recounted-self-inside-requires-clause-low
recounted-self-inside-requires-clause-low c = λ lost.
    let d = c.self.inside in
    let within : c.get-at.result < length d.places.items = omega (arith, c.get-at.ensures.range, c.self.invariant.0.pages) in
    omega (arith, some_lost d.places.items c.get-at.result c.index.result.now within c.index.ensures lost, c.self.invariant.0.counted)

pub recounted-self-inside-requires-clause-high : goal.recounted-self-inside-requires-clause-high
recounted-self-inside-requires-clause-high c = omega (arith, few_lost c.self.inside.places.items, c.self.invariant.0.counted, c.self.invariant.0.pages)

pub invariant_of-self : goal.invariant_of-self
invariant_of-self c =
    let d = c.self.inside in
    let within : c.get-at.result < length d.places.items = omega (arith, c.get-at.ensures.range, c.self.invariant.0.pages) in
    let lost = is_lost (seen c.args.to) in (
      kept-write d.places.items d.lost c.recounted-self-inside.result c.get-at.result c.args.to c.self.invariant.0
          (put_counts d.places.items c.get-at.result c.index.result.now c.args.to c.recounted-self-inside.result (is_lost (seen c.index.result.now)) lost within c.index.ensures refl refl (c.recounted-self-inside.ensures ∙ ap (λ (n : ℕ). n + cond lost 1 0) c.self.invariant.0.counted))
          c.get-at.ensures.range c.requires c.users_are_instances.ensures,
      noted-write d.places.items d.noted c.note.new.self c.get-at.result c.args.to within
          (λ k. ap (λ (z : ℕ). is_noted c.note.new.self z k) c.get-at.ensures.value ∙ c.note.ensures.here k)
          (λ q k ne. c.note.ensures.others q k (λ e. ne (e ∙ sym c.get-at.ensures.value))) c.self.invariant.1,
    )
